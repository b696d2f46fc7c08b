use Rattle.image_graph.proofs.ImagesStand.{packed_stands}
use Rattle.image_graph.proofs.full_laws.packed_stands.Goals as goal

pub returns : goal.returns
returns c = packed_stands
