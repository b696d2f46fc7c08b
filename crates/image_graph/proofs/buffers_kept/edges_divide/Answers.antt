use Rattle.image_graph.proofs.LooseKept.{edges_divide}
use Rattle.image_graph.proofs.buffers_kept.edges_divide.Goals as goal

pub returns : goal.returns
returns c = edges_divide
