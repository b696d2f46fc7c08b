-- The control can make its next access wherever it goes on.
use Rattle.heap_words.specs.Phases.{idle_phase}
use Rattle.std.proofs.Common.{◌≡◌, ℕ, ◌+◌, ◌<◌, Bool, true, false, refl, sym, subst, arith}
use Rattle.std.specs.Prelude.{◌==◌, nat_lt, if◌then◌else◌}
use Rattle.std.proofs.lemmas.Bool.{and_parts, and_from, lt-ltb, ltb-true}
use Rattle.std.proofs.lemmas.Bool.Decides.{nat_tests}
use Rattle.heap_words.specs.declared.config.Config.{Config}
use Rattle.heap_words.specs.Access.{table_index}
use Rattle.heap_words.specs.Words.{IsWord, word_at, table_words}
use Rattle.heap_words.proofs.Stores.{is_word_true}
use Rattle.heap_words.proofs.Rows.{word_inside}
use Rattle.heap_words.specs.Touch.{Touch, placed}
use Rattle.heap_words.proofs.Touches.{table_index-access_at}
use Rattle.handshake.specs.declared.stop_spot.StopSpot.{StopSpot}
use Rattle.handshake.specs.declared.stop_spot.StopSpot.TheVariants as stop
use Rattle.handshake.specs.StopRows.{after_seat, touch_at as stop_touch}
use Rattle.heap_words.specs.declared.access.Unit.TheVariants.{Worked, NoneLeft}
use Rattle.unit_part.specs.declared.spot.UnitSpot.{UnitSpot}
use Rattle.unit_part.specs.declared.spot.UnitSpot.TheVariants.{Ended}
use Rattle.unit_part.specs.Rows as units
use Rattle.unit_part.specs.Ready as unit
use Rattle.unit_part.proofs.Inside as inside
use Rattle.unit_part.proofs.Left.{by_phase}
use Rattle.heap_world.specs.Change.{image_words}
use Rattle.collector_rows.specs.declared.extent.Extent.{Extent}
use Rattle.collector_rows.specs.Extent.{next_loaded, extent_after}
use Rattle.collector_rows.specs.declared.control_spot.ControlSpot.{ControlSpot}
use Rattle.collector_rows.specs.declared.control_spot.ControlSpot.TheVariants.{LookLeft, StoreEnd, LookAsked, LookFree, Working, Stopping, LoadWord, StoreWord, Go, Gone}
use Rattle.collector_rows.specs.ControlRows.{control_seat, control_touch, after_unit, stopping, after_load, begins_pause, unasked, wants_pause}
use Rattle.collector_rows.specs.ControlReady.{is_ready, UnitGoesOn, AccessesAreInside, StaysReady}

-- of two spots
of_two : (config : Config) (holds : Bool) (spot other_spot : ControlSpot) → (holds ≡ true → is_ready config spot ≡ true) → (holds ≡ false → is_ready config other_spot ≡ true) → is_ready config (if holds then spot else other_spot) ≡ true
of_two config true spot other_spot if_true if_false = if_true refl
of_two config false spot other_spot if_true if_false = if_false refl

-- an image has words
some_words : (config : Config) → 0 < image_words config
some_words config = omega arith

-- where the words of the image are loaded one after the other
loads_ready : (config : Config) (extent : Extent) (index : ℕ) → is_ready config (after_load config extent index) ≡ true
loads_ready config extent index =
    of_two config (nat_lt (next_loaded config extent index) (image_words config)) (LoadWord (next_loaded config extent index) extent) (StoreWord 0 extent) (λ more_words. more_words) (λ all_loaded. lt-ltb _ _ (some_words config))

-- where the seats are checked one after the other
checks_on : (config : Config) (phase : ℕ) (holds : Bool) (spot other_spot : StopSpot) → (holds ≡ true → is_ready config (stopping config phase spot) ≡ true) → (holds ≡ false → is_ready config (stopping config phase other_spot) ≡ true) → is_ready config (stopping config phase (if holds then spot else other_spot)) ≡ true
checks_on config phase true spot other_spot if_true if_false = if_true refl
checks_on config phase false spot other_spot if_true if_false = if_false refl

-- where it goes on with its unit
works_on : (config : Config) (spot : UnitSpot) → unit.is_ready config (control_seat config) spot ≡ true → is_ready config (after_unit spot) ≡ true
works_on config (Ended Worked) ready = refl
works_on config (Ended NoneLeft) ready = refl
works_on config _ ready = and_from _ _ ready refl

-- where it begins with a unit
begins_ready : (config : Config) (phase cset : ℕ) → is_ready config (Working (units.begins phase cset)) ≡ true
begins_ready config phase cset = by_phase (λ begun_spot. is_ready config (Working begun_spot) ≡ true) phase cset (λ phase_one. refl) (λ not_first phase_two. refl) (λ not_first not_second. refl)

-- what is known of a spot is known of it under its own name
pub ready_at : (config : Config) (spot other_spot : ControlSpot) → spot ≡ other_spot → is_ready config spot ≡ true → is_ready config other_spot ≡ true
ready_at config spot other_spot same_spot ready = subst (λ any_spot. is_ready config any_spot ≡ true) same_spot ready

pub goes_at : (config : Config) (spot other_spot : ControlSpot) (got : ℕ) → spot ≡ other_spot → UnitGoesOn config spot got → UnitGoesOn config other_spot got
goes_at config spot other_spot got same_spot goes_on = subst (λ any_spot. UnitGoesOn config any_spot got) same_spot goes_on

pub stays_ready : StaysReady
stays_ready config phase cset seen next LookLeft got ready goes_on = of_two config (got == 0) StoreEnd LookAsked (λ tested. refl) (λ tested. refl)
stays_ready config phase cset seen next StoreEnd got ready goes_on = refl
stays_ready config phase cset seen next LookAsked got ready goes_on = of_two config (begins_pause phase got) (Stopping stop.Raise) (unasked phase cset) (λ tested. refl)
    (λ tested. of_two config (phase == idle_phase) LookFree (Working (units.begins phase cset)) (λ tested. refl) (λ tested. begins_ready config phase cset))
stays_ready config phase cset seen next LookFree got ready goes_on = of_two config (wants_pause config seen got) (Stopping stop.Raise) LookLeft (λ tested. refl) (λ tested. refl)
stays_ready config phase cset seen next (Working spot) got ready goes_on = works_on config (units.next_at config spot got) (inside.stays_ready config (control_seat config) spot got (and_parts _ _ ready).0 goes_on)
stays_ready config phase cset seen next (Stopping stop.Raise) got ready goes_on = (let some_mutators = config.in_range.least_mutators in grind (arith, nat_tests))
stays_ready config phase cset seen next (Stopping (stop.Check seat)) got ready goes_on =
    checks_on config phase (got == 0) (after_seat config seat) (stop.Check seat)
    (λ tested. checks_on config phase (nat_lt (seat + 1) (config.mutators + config.helpers)) (stop.Check (seat + 1)) stop.Stopped (λ more_left. grind (arith, nat_tests)) (λ all_done. lt-ltb _ _ (some_words config)))
    (λ tested. ready)
stays_ready config phase cset seen next (Stopping stop.Stopped) got ready goes_on = lt-ltb _ _ (some_words config)
stays_ready config phase cset seen next (LoadWord index extent) got ready goes_on = loads_ready config (extent_after phase index extent got) index
stays_ready config phase cset seen next (StoreWord index extent) got ready goes_on = of_two config (nat_lt next (image_words config)) (StoreWord next extent) Go (λ more_left. more_left) (λ all_done. refl)
stays_ready config phase cset seen next Go got ready goes_on = refl
stays_ready config phase cset seen next Gone got ready goes_on = refl

-- an access of a word of the table is inside it
placed_inside : (config : Config) (touch : Touch) → IsWord config touch.word → table_index (placed config touch) < table_words config
placed_inside config touch word_there = subst (λ index. index < table_words config) (sym (table_index-access_at (word_at config touch.word) touch.form)) (word_inside config touch.word word_there)

-- the control's are
pub accesses_inside : AccessesAreInside
accesses_inside config LookLeft value ready = placed_inside config (control_touch config LookLeft) tt
accesses_inside config StoreEnd value ready = placed_inside config (control_touch config StoreEnd) tt
accesses_inside config LookAsked value ready = placed_inside config (control_touch config LookAsked) tt
accesses_inside config LookFree value ready = placed_inside config (control_touch config LookFree) tt
accesses_inside config (Working spot) value ready = inside.accesses_inside config (control_seat config) spot (omega arith) (and_parts _ _ ready).0
accesses_inside config (Stopping spot) value ready = placed_inside config (stop_touch spot) (is_word_true config (stop_touch spot).word (and_parts _ _ (and_parts _ _ ready).0).0)
accesses_inside config (LoadWord index extent) value ready = (let index_below = ltb-true _ _ ready in omega (arith, index_below))
accesses_inside config (StoreWord index extent) value ready = (let index_below = ltb-true _ _ ready in omega (arith, index_below))
accesses_inside config Go value ready = placed_inside config (control_touch config Go) tt
accesses_inside config Gone value ready = placed_inside config (control_touch config Gone) tt
