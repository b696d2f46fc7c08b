use Rattle.image_graph.proofs.TurnWords.{requests_are_answered}
use Rattle.image_graph.proofs.full_laws.serving_answers.Goals as goal

pub returns : goal.returns
returns c = requests_are_answered
