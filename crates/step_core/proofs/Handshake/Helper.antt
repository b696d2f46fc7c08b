-- A helper obeys the handshake, and leaves the count of the mutators and the word of the end as they are.
use Rattle.std.proofs.Common.{◌≡◌, ◌≢◌, ℕ, ◌≤◌, ◌⊎◌, Bool, true, false, refl, arith, inl, inr, ◌+◌, ◌<◌}
use Rattle.std.specs.Prelude.{nat_eq, if◌then◌else◌}
use Rattle.std.proofs.lemmas.Bool.{and_parts}
use Rattle.shen_graph.proofs.Bools.{false_from_flip}
use Rattle.heap_words.specs.declared.config.Config.{Config}
use Rattle.heap_words.specs.Access.{table_index}
use Rattle.heap_words.specs.Words.{End, Phase, Cset, word_at, image_start}
use Rattle.heap_words.specs.Touch.{touch, loads, placed}
use Rattle.handshake.specs.declared.enter_spot.EnterSpot.{EnterSpot}
use Rattle.handshake.specs.declared.enter_spot.EnterSpot.TheVariants as enter
use Rattle.handshake.specs.EnterRows.{next_at as enter_next, is_ended as is_entered}
use Rattle.handshake.specs.Standing.{outside, is_within, enter_standing}
use Rattle.handshake.specs.Obeys.{is_load, Obeys}
use Rattle.handshake.specs.Left.{Counts}
use Rattle.handshake.proofs.Obeying.{placed_elsewhere, image_elsewhere, image_not_left, enter_obeys, leave_obeys, obeys_same}
use Rattle.unit_part.specs.declared.spot.UnitSpot.{UnitSpot}
use Rattle.unit_part.specs.declared.spot.UnitSpot.TheVariants.{Ended}
use Rattle.unit_part.specs.Rows as units
use Rattle.collector_rows.specs.declared.help_spot.HelpSpot.{HelpSpot}
use Rattle.collector_rows.specs.declared.help_spot.HelpSpot.TheVariants.{LoadEnd, Entering, LoadPhase, LoadSet, Working, Leave, Gone}
use Rattle.collector_rows.specs.HelperRows.{is_gone, touch_at, after_enter, after_unit, next_spot}
use Rattle.collector_rows.specs.HelperReady.{spot_fits}
use Rattle.step_core.specs.Standing.{help_standing}
use Rattle.step_core.proofs.Handshake.Control.{unit_above}

-- where it enters it stands as who enters
enter_same : (spot : EnterSpot) → help_standing (after_enter spot) ≡ enter_standing spot
enter_same enter.Inside = refl
enter_same _ = refl

-- where it works on a unit, or has done so, it is in the heap
unit_within : (spot : UnitSpot) → is_within (help_standing (after_unit spot)) ≡ true
unit_within (Ended unit) = refl
unit_within _ = refl

module _ (config : Config) (seat : ℕ) (seated : seat < config.mutators + config.helpers) where
  outside_both : (holds : Bool) → help_standing (if holds then Gone else Entering enter.Raise) ≡ outside
  outside_both true = refl
  outside_both false = refl

  within_both : (holds : Bool) (phase : ℕ) → is_within (help_standing (if holds then Leave else LoadSet phase)) ≡ true
  within_both true phase = refl
  within_both false phase = refl

  -- the access of a unit is of a word of the image
  above : (spot : UnitSpot) → spot_fits config seat (Working spot) ≡ true → image_start config ≤ table_index (placed config (units.touch_at config seat spot))
  above spot spot_is_fit = unit_above config seat spot (omega (arith, seated)) (and_parts _ _ spot_is_fit).0

  -- a helper that has not ended obeys
  pub help_obeys : (spot : HelpSpot) → spot_fits config seat spot ≡ true → is_gone spot ≡ false → Obeys config seat (help_standing spot) (placed config (touch_at config seat spot)) (λ got. help_standing (next_spot config spot got))
  help_obeys LoadEnd spot_is_fit spot_going = inr (record { harmless = inl refl; next_is = λ got. outside_both (nat_eq got 1) })
  help_obeys (Entering spot) spot_is_fit spot_going =
      obeys_same config seat (enter_standing spot) _ (λ got. enter_standing (enter_next spot got)) _ (λ got. enter_same (enter_next spot got)) (enter_obeys config seat spot (false_from_flip (is_entered spot) spot_is_fit))
  help_obeys LoadPhase spot_is_fit spot_going = record { elsewhere = placed_elsewhere config (touch Phase loads) tt refl; goes_on = λ got. within_both (nat_eq got 0) got }
  help_obeys (LoadSet phase) spot_is_fit spot_going = record { elsewhere = placed_elsewhere config (touch Cset loads) tt refl; goes_on = λ got. refl }
  help_obeys (Working spot) spot_is_fit spot_going = record { elsewhere = image_elsewhere config (placed config (units.touch_at config seat spot)) (above spot spot_is_fit); goes_on = λ got. unit_within (units.next_at config spot got) }
  help_obeys Leave spot_is_fit spot_going = leave_obeys config seat
  help_obeys Gone spot_is_fit spot_going = absurd (cc (spot_going))

  -- its steps leave the count of the mutators as it is
  pub help_counts : (spot : HelpSpot) → spot_fits config seat spot ≡ true → Counts config false (placed config (touch_at config seat spot)) (λ got. false)
  help_counts (Entering enter.Raise) spot_is_fit = inr (record { not_written = inr (λ same_place. omega (arith, same_place)); same = λ got. refl })
  help_counts (Entering enter.Lower) spot_is_fit = inr (record { not_written = inr (λ same_place. omega (arith, same_place)); same = λ got. refl })
  help_counts (Entering _) spot_is_fit = inr (record { not_written = inl refl; same = λ got. refl })
  help_counts (Working spot) spot_is_fit = inr (record { not_written = inr (image_not_left config (placed config (units.touch_at config seat spot)) (above spot spot_is_fit)); same = λ got. refl })
  help_counts Leave spot_is_fit = inr (record { not_written = inr (λ same_place. omega (arith, same_place)); same = λ got. refl })
  help_counts _ spot_is_fit = inr (record { not_written = inl refl; same = λ got. refl })

  -- and the word of the end
  pub help_not_end : (spot : HelpSpot) → spot_fits config seat spot ≡ true → (is_load (placed config (touch_at config seat spot)) ≡ true) ⊎ (table_index (placed config (touch_at config seat spot)) ≢ word_at config End)
  help_not_end (Entering enter.Raise) spot_is_fit = inr (λ same_place. omega (arith, same_place))
  help_not_end (Entering enter.Lower) spot_is_fit = inr (λ same_place. omega (arith, same_place))
  help_not_end (Entering _) spot_is_fit = inl refl
  help_not_end (Working spot) spot_is_fit = inr (λ same_place. (let place_above = above spot spot_is_fit in omega (arith, same_place, place_above)))
  help_not_end Leave spot_is_fit = inr (λ same_place. omega (arith, same_place))
  help_not_end _ spot_is_fit = inl refl
