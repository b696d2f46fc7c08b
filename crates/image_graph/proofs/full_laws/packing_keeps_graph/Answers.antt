use Rattle.image_graph.proofs.ImagesHold.{keeps_graph}
use Rattle.image_graph.proofs.full_laws.packing_keeps_graph.Goals as goal

pub returns : goal.returns
returns c = λ config memory block graph shut now kept roots before. keeps_graph config memory block graph shut now kept roots before
