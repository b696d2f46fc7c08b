use Rattle.image_graph.specs.Held.{IsAmong}
use Rattle.image_graph.proofs.Live.{kept_are_live}
use Rattle.image_graph.proofs.full_laws.kept_are_live.Goals as goal

pub returns : goal.returns
returns c = λ config top heap block now kept roots graph names graph_held are_kept reach. kept_are_live config top heap block now kept (IsAmong roots) graph graph_held are_kept names reach
