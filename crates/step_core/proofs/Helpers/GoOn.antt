-- No step of a helper ends a call, and none of the control.
use Rattle.std.proofs.Common.{◌≡◌, ℕ, true, false}
use Rattle.heap_words.specs.declared.config.Config.{Config}
use Rattle.std.specs.Prelude.{◌==◌, Bool, if◌then◌else◌}
use Rattle.heap_words.specs.declared.access.Took.{Took}
use Rattle.heap_words.specs.declared.access.Took.TheVariants.{More, Again, Done}
use Rattle.handshake.specs.declared.stop_spot.StopSpot.TheVariants as stop
use Rattle.collector_rows.specs.declared.control_spot.ControlSpot.{ControlSpot}
use Rattle.handshake.specs.declared.enter_spot.EnterSpot.TheVariants.{Await}
use Rattle.heap_words.specs.declared.access.Unit.TheVariants.{Worked, NoneLeft}
use Rattle.unit_part.specs.declared.spot.UnitSpot.{UnitSpot}
use Rattle.unit_part.specs.declared.spot.UnitSpot.TheVariants.{Ended}
use Rattle.unit_part.specs.Rows as units
use Rattle.collector_rows.specs.declared.help_spot.HelpSpot.{HelpSpot}
use Rattle.collector_rows.specs.declared.help_spot.HelpSpot.TheVariants as help
use Rattle.collector_rows.specs.HelperRows as helpers
use Rattle.collector_rows.specs.declared.control_spot.ControlSpot.TheVariants.{LookFree, Working, Stopping}
use Rattle.collector_rows.specs.ControlRows.{says_at, wants_pause, working_says}

-- a step that says one of two things, of which neither is Done, is not done
not_done : (holds : Bool) (first_said second_said : Took) → (first_said ≡ Done → ⊥) → (second_said ≡ Done → ⊥) → (if holds then first_said else second_said) ≡ Done → ⊥
not_done true first_said second_said first_not_done second_not_done said_done = first_not_done said_done
not_done false first_said second_said first_not_done second_not_done said_done = second_not_done said_done

-- nor is one of a helper that works on a unit
helper_works_on : (next : UnitSpot) (said : Took) → helpers.working_says next said ≡ Done → ⊥
helper_works_on (Ended NoneLeft) said said_done = cc
helper_works_on (Ended Worked) Done said_done = cc
helper_works_on (Ended Worked) More said_done = cc
helper_works_on (Ended Worked) Again said_done = cc
helper_works_on _ Done said_done = cc
helper_works_on _ More said_done = cc
helper_works_on _ Again said_done = cc

-- a helper ends no call
pub helps_on : (config : Config) (spot : HelpSpot) (got : ℕ) → helpers.says_at config spot got ≡ Done → ⊥
helps_on config (help.Entering Await) got said_done = not_done (got == 0) More Again (λ e. cc) (λ e. cc) said_done
helps_on config (help.Entering spot) got said_done = cc
helps_on config help.LoadPhase got said_done = not_done (got == 0) Again More (λ e. cc) (λ e. cc) said_done
helps_on config (help.Working spot) got said_done = helper_works_on (units.next_at config spot got) (units.says_at config spot got) said_done
helps_on config _ got said_done = cc

-- nor does the control
works_on : (said : Took) → working_says said ≡ Done → ⊥
works_on Done said_done = cc
works_on More said_done = cc
works_on Again said_done = cc

pub goes_on : (config : Config) (seen : ℕ) (spot : ControlSpot) (got : ℕ) → says_at config seen spot got ≡ Done → ⊥
goes_on config seen LookFree got said_done = not_done (wants_pause config seen got) More Again (λ e. cc) (λ e. cc) said_done
goes_on config seen (Working spot) got said_done = works_on (units.says_at config spot got) said_done
goes_on config seen (Stopping (stop.Check seat)) got said_done = not_done (got == 0) More Again (λ e. cc) (λ e. cc) said_done
goes_on config seen (Stopping spot) got said_done = cc
goes_on config seen _ got said_done = cc
