use Rattle.std.proofs.Common.{All, subst}
use Rattle.heap_words.specs.declared.config.Config.{Config}
use Rattle.shen_core.specs.Progress.{IsInSeats}
use Rattle.shen_core.specs.State.{config_of}
use Rattle.heap_tests.proofs.brief_pauses.Course.open.Goals as goal

pub returns : goal.returns
returns c =
    (c.in_ok-played.ensures.run, c.open-walk.ensures.fits (config_of c.in_ok-played.played.plain) (subst (λ (config : Config). All (IsInSeats config) c.in_ok-schedule.field-0) c.config.ensures c.in_ok-schedule.ensures))
