use Rattle.image_graph.proofs.ServingKeeps.{full_stands}
use Rattle.image_graph.proofs.full_laws.full_stands.Goals as goal

pub returns : goal.returns
returns c = full_stands
