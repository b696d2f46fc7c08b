use Rattle.image_graph.specs.Held.{IsAmong}
use Rattle.image_graph.proofs.Reached.{held_are_reachable}
use Rattle.image_graph.proofs.full_laws.reachable_are_held.Goals as goal

pub returns : goal.returns
returns c = λ config top heap block now roots graph graph_held. held_are_reachable config top heap block now (IsAmong roots) graph graph_held
