use Rattle.image_graph.proofs.Shown.{holding_stands}
use Rattle.image_graph.proofs.image_laws.holding_stands.Goals as goal

pub returns : goal.returns
returns c = holding_stands
