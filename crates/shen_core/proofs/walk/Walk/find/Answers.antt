use Rattle.std.proofs.Common.{◌∙◌}
use Rattle.shen_core.proofs.walk.Walk.find.Goals as goal

pub returns-then-is_some-2-clause-same : goal.returns-then-is_some-2-clause-same
returns-then-is_some-2-clause-same c = λ scripts stage shows tells.
    c.find_control-control.ensures.same scripts stage shows tells ∙ c.find_in_items-found.ensures.same scripts stage shows tells

pub returns-clause-same : goal.returns-clause-same
returns-clause-same c = λ scripts stage shows tells.
    c.find_control-control.ensures.same scripts stage shows tells ∙ c.find_in_items-found.ensures.same scripts stage shows tells ∙ c.find_in_rounds.ensures.same scripts stage shows tells
