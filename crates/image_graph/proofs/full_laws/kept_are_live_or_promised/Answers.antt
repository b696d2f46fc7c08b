use Rattle.image_graph.specs.Held.{IsAmong}
use Rattle.image_graph.proofs.Promised.{kept_are_live_or_promised}
use Rattle.image_graph.proofs.full_laws.kept_are_live_or_promised.Goals as goal

pub returns : goal.returns
returns c = λ config top heap block now kept roots graph promises names holds are_kept fresh reach.
    kept_are_live_or_promised config top heap block now kept (IsAmong roots) graph promises holds are_kept fresh names reach
