-- Where a step of a helper waits.
use Rattle.std.proofs.Common.{◌≡◌, ℕ, ◌↔◌, ◌⊎◌, inl, inr, ⊎_elim, Bool, true, false, refl}
use Rattle.std.specs.Prelude.{◌==◌, if◌then◌else◌}
use Rattle.std.proofs.lemmas.Bool.{and_parts, eqb-false, ne_eqb}
use Rattle.heap_words.specs.declared.config.Config.{Config}
use Rattle.heap_words.specs.declared.access.Took.{Took}
use Rattle.heap_words.specs.declared.access.Took.TheVariants.{More, Again, Done}
use Rattle.heap_words.specs.declared.access.Unit.TheVariants.{Worked, NoneLeft}
use Rattle.handshake.specs.declared.enter_spot.EnterSpot.{EnterSpot}
use Rattle.handshake.specs.declared.enter_spot.EnterSpot.TheVariants as enter
use Rattle.unit_part.specs.declared.spot.UnitSpot.{UnitSpot}
use Rattle.unit_part.specs.declared.spot.UnitSpot.TheVariants.{Ended}
use Rattle.unit_part.specs.Rows as units
use Rattle.unit_part.specs.Ready as unit
use Rattle.unit_part.specs.Ends as ends
use Rattle.unit_part.proofs.Left.{none_left}
use Rattle.collector_rows.specs.declared.help_spot.HelpSpot.TheVariants.{Entering, Working}
use Rattle.collector_rows.specs.HelperRows.{entering_says, working_says}
use Rattle.collector_rows.specs.HelperWaits.{waits_at}
use Rattle.collector_rows.specs.HelperReady.{spot_fits}

-- it says again where a test fails
by_test : (holds : Bool) (P : Type 0) → (holds ≡ false → P) → (P → holds ≡ false) → ((if holds then More else Again) ≡ Again) ↔ P
by_test true P fails_then fails_if = ((λ says_again. absurd (cc)), (λ condition_holds. absurd (let test_fails = fails_if condition_holds in cc)))
by_test false P fails_then fails_if = ((λ says_again. fails_then refl), (λ condition_holds. refl))

never : (More ≡ Again) ↔ ⊥
never = ((λ says_again. cc), (λ impossible. absurd impossible))

pub entering_waits : (config : Config) (spot : EnterSpot) (got : ℕ) → (entering_says spot got ≡ Again) ↔ waits_at config (Entering spot) got
entering_waits config enter.Await got = by_test (got == 0) _ (eqb-false got 0) (ne_eqb _ _)
entering_waits config spot got = never

-- in a unit it says so where no unit was left, or where the work on it does
says_waits : (next_spot : UnitSpot) (work_said : Took) → (working_says next_spot work_said ≡ Again) ↔ ((next_spot ≡ Ended NoneLeft) ⊎ (work_said ≡ Again))
says_waits (Ended NoneLeft) work_said = (λ says_again. inl refl, λ either_waits. refl)
says_waits (Ended Worked) Done = (λ says_again. absurd (cc (says_again)), λ either_waits. absurd (⊎_elim (λ same_answer. cc (same_answer)) (λ same_answer. cc (same_answer)) either_waits))
says_waits (Ended Worked) More = (λ says_again. absurd (cc (says_again)), λ either_waits. absurd (⊎_elim (λ same_answer. cc (same_answer)) (λ same_answer. cc (same_answer)) either_waits))
says_waits (Ended Worked) Again = (λ says_again. inr refl, λ either_waits. refl)
says_waits _ Done = (λ says_again. absurd (cc (says_again)), λ either_waits. absurd (⊎_elim (λ same_answer. cc (same_answer)) (λ same_answer. cc (same_answer)) either_waits))
says_waits _ More = (λ says_again. absurd (cc (says_again)), λ either_waits. absurd (⊎_elim (λ same_answer. cc (same_answer)) (λ same_answer. cc (same_answer)) either_waits))
says_waits _ Again = (λ says_again. inr refl, λ either_waits. refl)

pub working_waits : (config : Config) (seat : ℕ) (spot : UnitSpot) (got : ℕ) (work_said : Took) → spot_fits config seat (Working spot) ≡ true → (work_said ≡ Again) ↔ ends.WaitsAt spot got
    → (working_says (units.next_at config spot got) work_said ≡ Again) ↔ waits_at config (Working spot) got
working_waits config seat spot got work_said fits waits =
    let says = says_waits (units.next_at config spot got) work_said in
    let fit_parts = and_parts (unit.is_ready config seat spot) _ fits in
    let unit_left = none_left config seat spot got fit_parts.0 (λ same_spot. cc (same_spot, fit_parts.1)) in
    (λ says_again. ⊎_elim (λ no_unit. inl (unit_left.0 no_unit)) (λ works_again. inr (waits.0 works_again)) (says.0 says_again), λ either_waits. says.1 (⊎_elim (λ no_unit. inl (unit_left.1 no_unit)) (λ works_again. inr (waits.1 works_again)) either_waits))
