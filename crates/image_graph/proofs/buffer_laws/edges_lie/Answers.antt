use Rattle.image_graph.proofs.Edges.{edges_lie}
use Rattle.image_graph.proofs.buffer_laws.edges_lie.Goals as goal

pub returns : goal.returns
returns c = edges_lie
