-- The control obeys the handshake.
use Rattle.std.proofs.Common.{◌≡◌, ℕ, ◌≤◌, Bool, true, false, refl, arith, inl, inr, ◌<◌}
use Rattle.std.specs.Prelude.{nat_eq, nat_lt, if◌then◌else◌}
use Rattle.std.proofs.lemmas.Bool.{and_parts}
use Rattle.shen_graph.proofs.Bools.{false_from_flip}
use Rattle.heap_words.specs.declared.config.Config.{Config}
use Rattle.heap_words.specs.declared.access.Unit.TheVariants.{Worked, NoneLeft}
use Rattle.heap_words.specs.Access.{table_index}
use Rattle.heap_words.specs.Words.{Left, End, Ask, Free, image_start}
use Rattle.heap_words.specs.Fits.{touch_fits}
use Rattle.heap_words.specs.Touch.{touch, loads, stores, placed}
use Rattle.handshake.specs.declared.stop_spot.StopSpot.{StopSpot}
use Rattle.handshake.specs.declared.stop_spot.StopSpot.TheVariants as stop
use Rattle.handshake.specs.StopRows.{touch_at as stop_touch, next_at as stop_next, is_ended as is_stopped}
use Rattle.handshake.specs.Standing.{Standing, is_free, is_pausing, stop_standing}
use Rattle.handshake.specs.Obeys.{Obeys}
use Rattle.handshake.specs.Left.{Counts}
use Rattle.unit_part.specs.declared.spot.UnitSpot.{UnitSpot}
use Rattle.unit_part.specs.declared.spot.UnitSpot.TheVariants.{Ended}
use Rattle.unit_part.specs.Rows as units
use Rattle.unit_part.specs.Ready as unit
use Rattle.unit_part.proofs.Inside.{unit_inside, unit_image}
use Rattle.handshake.proofs.Obeying.{placed_elsewhere, placed_above, image_elsewhere, image_not_left, stop_obeys, go_obeys, obeys_same}
use Rattle.heap_world.specs.Change.{image_words}
use Rattle.collector_rows.specs.declared.control_spot.ControlSpot.{ControlSpot}
use Rattle.collector_rows.specs.declared.control_spot.ControlSpot.TheVariants.{LookLeft, StoreEnd, LookAsked, LookFree, Working, Stopping, LoadWord, StoreWord, Go, Gone}
use Rattle.collector_rows.specs.ControlRows.{control_seat, access_with, next_spot, stopping, after_unit, after_load, begins_pause, unasked, wants_pause}
use Rattle.collector_rows.specs.declared.extent.Extent.{Extent}
use Rattle.collector_rows.specs.Extent.{next_loaded, extent_after}
use Rattle.collector_rows.specs.ControlReady.{is_ready}
use Rattle.step_core.specs.Standing.{control_standing}
use Rattle.heap_words.specs.Ranges.{seat_count}

-- a choice of two spots at which it stands so
either : (f : Standing → Bool) (holds : Bool) (spot other_spot : ControlSpot) → f (control_standing spot) ≡ true → f (control_standing other_spot) ≡ true → f (control_standing (if holds then spot else other_spot)) ≡ true
either f true spot other_spot first_met second_met = first_met
either f false spot other_spot first_met second_met = second_met

stopping_standing : (config : Config) (phase : ℕ) (spot : StopSpot) → control_standing (stopping config phase spot) ≡ stop_standing spot
stopping_standing config phase stop.Raise = refl
stopping_standing config phase (stop.Check seat) = refl
stopping_standing config phase stop.Stopped = refl

-- while it loads and stores it works in its pause
loads_on : (config : Config) (extent : Extent) (index : ℕ) → is_pausing (control_standing (after_load config extent index)) ≡ true
loads_on config extent index = either is_pausing (nat_lt (next_loaded config extent index) (image_words config)) (LoadWord (next_loaded config extent index) extent) (StoreWord 0 extent) refl refl

-- where it works on a unit, or has done so, no pause is wanted yet
unit_free : (spot : UnitSpot) → is_free (control_standing (after_unit spot)) ≡ true
unit_free (Ended Worked) = refl
unit_free (Ended NoneLeft) = refl
unit_free _ = refl

-- the access of a unit is of a word of the image
pub unit_above : (config : Config) (seat : ℕ) (spot : UnitSpot) → seat < seat_count config.mutators config.helpers → unit.is_ready config seat spot ≡ true → image_start config ≤ table_index (placed config (units.touch_at config seat spot))
unit_above config seat spot seated spot_ready = placed_above config (units.touch_at config seat spot) (unit_inside config seat spot seated spot_ready) (unit_image config seat spot)

pub control_obeys : (config : Config) (seat phase cset seen next value : ℕ) (spot : ControlSpot) → is_ready config spot ≡ true
    → Obeys config seat (control_standing spot) (access_with config spot value) (λ got. control_standing (next_spot config phase cset seen next spot got))
control_obeys config seat phase cset seen next value LookLeft spot_ready = record { elsewhere = placed_elsewhere config (touch Left loads) tt refl; goes_on = λ got. either is_free (nat_eq got 0) StoreEnd LookAsked refl refl }
control_obeys config seat phase cset seen next value StoreEnd spot_ready = record { elsewhere = placed_elsewhere config (touch End (stores 1)) tt refl; goes_on = λ got. refl }
control_obeys config seat phase cset seen next value LookAsked spot_ready = record {
  elsewhere = placed_elsewhere config (touch Ask loads) tt refl;
  goes_on = λ got. either is_free (begins_pause phase got) (Stopping stop.Raise) (unasked phase cset) refl (either is_free (nat_eq phase 0) LookFree (Working (units.begins phase cset)) refl refl);
}
control_obeys config seat phase cset seen next value LookFree spot_ready = record { elsewhere = placed_elsewhere config (touch Free loads) tt refl; goes_on = λ got. either is_free (wants_pause config seen got) (Stopping stop.Raise) LookLeft refl refl }
control_obeys config seat phase cset seen next value (Working spot) spot_ready = record {
  elsewhere = image_elsewhere config (placed config (units.touch_at config (control_seat config) spot)) (unit_above config (control_seat config) spot (omega arith) (and_parts _ _ spot_ready).0);
  goes_on = λ got. unit_free (units.next_at config spot got);
}
control_obeys config seat phase cset seen next value (Stopping spot) spot_ready =
    obeys_same config seat (stop_standing spot) _ (λ got. stop_standing (stop_next config spot got)) _ (λ got. stopping_standing config phase (stop_next config spot got))
    (stop_obeys config seat spot (false_from_flip (is_stopped spot) (and_parts (touch_fits config (stop_touch spot)) (if is_stopped spot then false else true) spot_ready).1))
control_obeys config seat phase cset seen next value (LoadWord index extent) spot_ready = record { elsewhere = image_elsewhere config _ (omega arith); goes_on = λ got. loads_on config (extent_after phase index extent got) index }
control_obeys config seat phase cset seen next value (StoreWord index extent) spot_ready = record { elsewhere = image_elsewhere config _ (omega arith); goes_on = λ got. either is_pausing (nat_lt next (image_words config)) (StoreWord next extent) Go refl refl }
control_obeys config seat phase cset seen next value Go spot_ready = go_obeys config seat
control_obeys config seat phase cset seen next value Gone spot_ready = record { elsewhere = placed_elsewhere config (touch Left loads) tt refl; goes_on = λ got. refl }

-- its steps leave the count of the mutators as it is
stop_counts : (config : Config) (value : ℕ) (spot : StopSpot) → Counts config false (access_with config (Stopping spot) value) (λ got. false)
stop_counts config value stop.Raise = inr (record { not_written = inr (λ same_place. omega (arith, same_place)); same = λ got. refl })
stop_counts config value (stop.Check seat) = inr (record { not_written = inl refl; same = λ got. refl })
stop_counts config value stop.Stopped = inr (record { not_written = inl refl; same = λ got. refl })

pub control_counts : (config : Config) (value : ℕ) (spot : ControlSpot) → is_ready config spot ≡ true → Counts config false (access_with config spot value) (λ got. false)
control_counts config value StoreEnd spot_ready = inr (record { not_written = inr (λ same_place. omega (arith, same_place)); same = λ got. refl })
control_counts config value (Working spot) spot_ready =
    inr (record { not_written = inr (image_not_left config (placed config (units.touch_at config (control_seat config) spot)) (unit_above config (control_seat config) spot (omega arith) (and_parts _ _ spot_ready).0)); same = λ got. refl })
control_counts config value (Stopping spot) spot_ready = stop_counts config value spot
control_counts config value (StoreWord index extent) spot_ready = inr (record { not_written = inr (image_not_left config (access_with config (StoreWord index extent) value) (omega arith)); same = λ got. refl })
control_counts config value Go spot_ready = inr (record { not_written = inr (λ same_place. omega (arith, same_place)); same = λ got. refl })
control_counts config value _ spot_ready = inr (record { not_written = inl refl; same = λ got. refl })
