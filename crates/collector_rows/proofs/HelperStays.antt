-- A helper can make its next access wherever it goes on.
use Rattle.std.proofs.Common.{◌≡◌, ℕ, ◌+◌, ◌<◌, Bool, true, false, refl, sym, subst, arith}
use Rattle.std.specs.Prelude.{◌==◌, if◌then◌else◌}
use Rattle.std.proofs.lemmas.Bool.{and_parts, and_from, ltb-true}
use Rattle.heap_words.specs.declared.config.Config.{Config}
use Rattle.heap_words.specs.Access.{table_index}
use Rattle.heap_words.specs.Words.{IsWord, word_at, table_words}
use Rattle.heap_words.proofs.Rows.{word_inside}
use Rattle.heap_words.specs.Touch.{Touch, placed}
use Rattle.heap_words.proofs.Touches.{table_index-access_at}
use Rattle.handshake.specs.declared.enter_spot.EnterSpot.{EnterSpot}
use Rattle.handshake.specs.declared.enter_spot.EnterSpot.TheVariants as enter
use Rattle.unit_part.specs.declared.spot.UnitSpot.{UnitSpot}
use Rattle.unit_part.specs.declared.spot.UnitSpot.TheVariants.{Ended}
use Rattle.unit_part.specs.Rows as units
use Rattle.unit_part.specs.Ready as unit
use Rattle.unit_part.proofs.Inside as inside
use Rattle.unit_part.proofs.Left.{by_phase}
use Rattle.collector_rows.specs.declared.help_spot.HelpSpot.{HelpSpot}
use Rattle.collector_rows.specs.declared.help_spot.HelpSpot.TheVariants.{LoadEnd, Entering, LoadPhase, LoadSet, Working, Leave, Gone}
use Rattle.collector_rows.specs.HelperRows.{touch_at, next_spot, after_enter, after_unit}
use Rattle.collector_rows.specs.HelperReady.{spot_fits, UnitGoesOn, AccessesAreInside, StaysReady}

-- of two spots
of_two : (config : Config) (seat : ℕ) (holds : Bool) (spot other_spot : HelpSpot) → spot_fits config seat spot ≡ true → spot_fits config seat other_spot ≡ true → spot_fits config seat (if holds then spot else other_spot) ≡ true
of_two config seat true spot other_spot spot_fitting other_fitting = spot_fitting
of_two config seat false spot other_spot spot_fitting other_fitting = other_fitting

-- where it goes on entering
enters_on : (config : Config) (seat : ℕ) (holds : Bool) (spot other_spot : EnterSpot) → spot_fits config seat (after_enter spot) ≡ true → spot_fits config seat (after_enter other_spot) ≡ true → spot_fits config seat (after_enter (if holds then spot else other_spot)) ≡ true
enters_on config seat true spot other_spot spot_fitting other_fitting = spot_fitting
enters_on config seat false spot other_spot spot_fitting other_fitting = other_fitting

-- where it goes on with its unit
works_on : (config : Config) (seat : ℕ) (spot : UnitSpot) → unit.is_ready config seat spot ≡ true → spot_fits config seat (after_unit spot) ≡ true
works_on config seat (Ended unit) ready = refl
works_on config seat _ ready = and_from _ _ ready refl

-- where it begins with a unit
begins_fit : (config : Config) (seat phase cset : ℕ) → spot_fits config seat (Working (units.begins phase cset)) ≡ true
begins_fit config seat phase cset = by_phase (λ unit_spot. spot_fits config seat (Working unit_spot) ≡ true) phase cset (λ marking. refl) (λ not_marking evacuating. refl) (λ not_marking other_phase. refl)

pub spot_stays : (config : Config) (seat : ℕ) (spot : HelpSpot) (got : ℕ) → spot_fits config seat spot ≡ true → UnitGoesOn config seat spot got → spot_fits config seat (next_spot config spot got) ≡ true
spot_stays config seat LoadEnd got fits goes_on = of_two config seat (got == 1) Gone (Entering enter.Raise) refl refl
spot_stays config seat (Entering enter.Raise) got fits goes_on = refl
spot_stays config seat (Entering enter.Look) got fits goes_on = enters_on config seat (got == 0) enter.Inside enter.Lower refl refl
spot_stays config seat (Entering enter.Lower) got fits goes_on = refl
spot_stays config seat (Entering enter.Await) got fits goes_on = enters_on config seat (got == 0) enter.Raise enter.Await refl refl
spot_stays config seat (Entering enter.Inside) got fits goes_on = refl
spot_stays config seat LoadPhase got fits goes_on = of_two config seat (got == 0) Leave (LoadSet got) refl refl
spot_stays config seat (LoadSet phase) got fits goes_on = begins_fit config seat phase got
spot_stays config seat (Working spot) got fits goes_on = works_on config seat (units.next_at config spot got) (inside.stays_ready config seat spot got (and_parts _ _ fits).0 goes_on)
spot_stays config seat Leave got fits goes_on = refl
spot_stays config seat Gone got fits goes_on = refl

-- what is known of a spot is known of it under its own name
pub fits_at : (config : Config) (seat : ℕ) (spot other_spot : HelpSpot) → spot ≡ other_spot → spot_fits config seat spot ≡ true → spot_fits config seat other_spot ≡ true
fits_at config seat spot other_spot same_spot fits = subst (λ any_spot. spot_fits config seat any_spot ≡ true) same_spot fits

pub goes_at : (config : Config) (seat : ℕ) (spot other_spot : HelpSpot) (got : ℕ) → spot ≡ other_spot → UnitGoesOn config seat spot got → UnitGoesOn config seat other_spot got
goes_at config seat spot other_spot got same_spot goes_on = subst (λ any_spot. UnitGoesOn config seat any_spot got) same_spot goes_on

pub stays_ready : StaysReady
stays_ready config helper got ready goes_on = let ready_parts = and_parts _ _ ready in and_from _ _ ready_parts.0 (spot_stays config helper.seat helper.spot got ready_parts.1 goes_on)

-- an access of a word of the table is inside it
placed_inside : (config : Config) (touch : Touch) → IsWord config touch.word → table_index (placed config touch) < table_words config
placed_inside config touch word_is = subst (λ index. index < table_words config) (sym (table_index-access_at (word_at config touch.word) touch.form)) (word_inside config touch.word word_is)

spot_inside : (config : Config) (seat : ℕ) (spot : HelpSpot) → seat < config.mutators + config.helpers → spot_fits config seat spot ≡ true → table_index (placed config (touch_at config seat spot)) < table_words config
spot_inside config seat (Entering enter.Raise) seat_below fits = placed_inside config (touch_at config seat (Entering enter.Raise)) seat_below
spot_inside config seat (Entering enter.Look) seat_below fits = placed_inside config (touch_at config seat (Entering enter.Look)) tt
spot_inside config seat (Entering enter.Lower) seat_below fits = placed_inside config (touch_at config seat (Entering enter.Lower)) seat_below
spot_inside config seat (Entering enter.Await) seat_below fits = placed_inside config (touch_at config seat (Entering enter.Await)) tt
spot_inside config seat (Entering enter.Inside) seat_below fits = placed_inside config (touch_at config seat (Entering enter.Inside)) tt
spot_inside config seat (Working spot) seat_below fits = inside.accesses_inside config seat spot (omega (arith, seat_below)) (and_parts _ _ fits).0
spot_inside config seat Leave seat_below fits = placed_inside config (touch_at config seat Leave) seat_below
spot_inside config seat spot seat_below fits = placed_inside config (touch_at config seat spot) tt

pub accesses_inside : AccessesAreInside
accesses_inside config given_spot ready = let ready_parts = and_parts _ _ ready in spot_inside config given_spot.seat given_spot.spot (ltb-true _ _ ready_parts.0) ready_parts.1
