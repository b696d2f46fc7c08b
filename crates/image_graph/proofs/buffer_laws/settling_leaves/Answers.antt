use Rattle.image_graph.proofs.Settling.{settling_leaves}
use Rattle.image_graph.proofs.buffer_laws.settling_leaves.Goals as goal

pub returns : goal.returns
returns c = settling_leaves
