use Rattle.image_graph.proofs.LettingGo.{letting_go_leaves}
use Rattle.image_graph.proofs.buffer_laws.letting_go_leaves.Goals as goal

pub returns : goal.returns
returns c = letting_go_leaves
