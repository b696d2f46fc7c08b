use Rattle.graph_placing.proofs.TextGraphs.{is_graph}
use Rattle.graph_placing.proofs.placing_laws.texts_have_a_graph.Goals as goal

pub returns : goal.returns
returns c = is_graph
