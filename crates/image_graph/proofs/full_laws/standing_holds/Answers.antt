use Rattle.image_graph.proofs.ImagesStand.{standing_holds}
use Rattle.image_graph.proofs.full_laws.standing_holds.Goals as goal

pub returns : goal.returns
returns c = standing_holds
