use Rattle.image_graph.specs.Held.{IsAmong}
use Rattle.image_graph.proofs.Fewer.{open_kept_are_fewer}
use Rattle.image_graph.proofs.full_laws.open_kept_are_fewer.Goals as goal

pub returns : goal.returns
returns c = λ config shut top heap block now kept roots graph promises names held holds are_kept fresh reach is_held pinned_there.
    open_kept_are_fewer config shut top heap block now kept (IsAmong roots) graph promises names held holds are_kept fresh reach is_held pinned_there
