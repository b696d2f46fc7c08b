-- Where a step of the control waits.
use Rattle.std.proofs.Common.{◌≡◌, ℕ, ◌↔◌, Bool, true, false, refl}
use Rattle.std.specs.Prelude.{◌==◌, if◌then◌else◌}
use Rattle.std.proofs.lemmas.Bool.{eqb-false, ne_eqb}
use Rattle.heap_words.specs.declared.config.Config.{Config}
use Rattle.heap_words.specs.declared.access.Took.{Took}
use Rattle.heap_words.specs.declared.access.Took.TheVariants.{More, Again, Done}
use Rattle.handshake.specs.declared.stop_spot.StopSpot.{StopSpot}
use Rattle.handshake.specs.declared.stop_spot.StopSpot.TheVariants as stop
use Rattle.collector_rows.specs.declared.control_spot.ControlSpot.TheVariants.{Stopping}
use Rattle.collector_rows.specs.ControlRows.{stopping_says, working_says}
use Rattle.collector_rows.specs.ControlWaits.{waits_at}

-- it says again where a test fails
by_test : (holds : Bool) (P : Type 0) → (holds ≡ false → P) → (P → holds ≡ false) → ((if holds then More else Again) ≡ Again) ↔ P
by_test true P from_false to_false = ((λ says_again. absurd (cc)), (λ condition_holds. absurd (let test_false = to_false condition_holds in cc)))
by_test false P from_false to_false = ((λ says_again. from_false refl), (λ condition_holds. refl))

pub never : (More ≡ Again) ↔ ⊥
never = ((λ says_again. cc), (λ impossible. absurd impossible))

pub stopping_waits : (config : Config) (seen : ℕ) (spot : StopSpot) (got : ℕ) → (stopping_says spot got ≡ Again) ↔ waits_at config seen (Stopping spot) got
stopping_waits config seen (stop.Check seat) got = by_test (got == 0) _ (eqb-false got 0) (ne_eqb _ _)
stopping_waits config seen spot got = never

-- a step of a unit says so where the work on the unit does
pub working_waits : (said : Took) → (working_says said ≡ Again) ↔ (said ≡ Again)
working_waits Done = (λ same_answer. absurd (cc (same_answer)), λ same_answer. absurd (cc (same_answer)))
working_waits More = (λ same_answer. same_answer, λ same_answer. same_answer)
working_waits Again = (λ same_answer. same_answer, λ same_answer. same_answer)
