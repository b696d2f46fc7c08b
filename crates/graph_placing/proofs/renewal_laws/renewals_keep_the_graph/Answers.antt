use Rattle.graph_placing.proofs.SameGraphs.{same_anew}
use Rattle.graph_placing.proofs.renewal_laws.renewals_keep_the_graph.Goals as goal

pub returns : goal.returns
returns c = λ config text graph counts placeable threads are_counts shows. same_anew config text placeable threads counts are_counts graph shows
