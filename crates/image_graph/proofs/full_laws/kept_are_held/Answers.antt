use Rattle.image_graph.proofs.Walked.{walk_keeps}
use Rattle.image_graph.proofs.full_laws.kept_are_held.Goals as goal

pub returns : goal.returns
returns c = walk_keeps
