use Rattle.image_graph.proofs.Crowded.{full_is_crowded}
use Rattle.image_graph.proofs.full_laws.full_is_crowded.Goals as goal

pub returns : goal.returns
returns c = full_is_crowded
