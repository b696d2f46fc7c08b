-- The word of the end: a step of a mutator leaves it as it is, and one of the control writes it where it ends.
use Rattle.heap_words.specs.Phases.{idle_phase}
use Rattle.std.proofs.Common.{◌≡◌, ◌≢◌, ℕ, ◌⊎◌, Bool, true, false, inl, inr, refl, arith}
use Rattle.std.specs.Prelude.{◌==◌, nat_lt, if◌then◌else◌}
use Rattle.std.proofs.lemmas.Bool.{and_parts}
use Rattle.heap_words.specs.declared.config.Config.{Config}
use Rattle.heap_words.specs.declared.access.Access.{Access}
use Rattle.heap_words.specs.Access.{table_index}
use Rattle.heap_words.specs.declared.access.Unit.TheVariants.{Worked, NoneLeft}
use Rattle.heap_words.specs.Words.{End, IsWord, word_at}
use Rattle.heap_words.specs.Touch.{placed}
use Rattle.shen_graph.specs.declared.order.Order.{Order}
use Rattle.shen_graph.specs.declared.order.Order.TheVariants as order
use Rattle.heap_world.specs.Change.{image_words}
use Rattle.handshake.specs.declared.enter_spot.EnterSpot.{EnterSpot}
use Rattle.handshake.specs.declared.enter_spot.EnterSpot.TheVariants as enter
use Rattle.handshake.specs.declared.stop_spot.StopSpot.{StopSpot}
use Rattle.handshake.specs.declared.stop_spot.StopSpot.TheVariants as stop
use Rattle.handshake.specs.StopRows.{next_at as stop_next}
use Rattle.handshake.specs.Obeys.{is_load}
use Rattle.handshake.specs.Ending.{KeepsEnd}
use Rattle.handshake.proofs.Obeying.{placed_above}
use Rattle.unit_part.specs.declared.spot.UnitSpot.{UnitSpot}
use Rattle.unit_part.specs.declared.spot.UnitSpot.TheVariants as unit
use Rattle.unit_part.specs.Rows as units
use Rattle.mutator.specs.declared.spot.Entered.{Entered}
use Rattle.mutator.specs.declared.spot.Spot.{Spot}
use Rattle.mutator.specs.declared.spot.Spot.TheVariants.{Rest, Ended, Entering, LoadPhase, LoadSet, Loading, OnField, Resolving, Recording, OnNumber, Showing, StoreRoot, Making, AskCycle, Pinning, Waiting, Leave, Gone}
use Rattle.mutator.specs.declared.waits.WaitSpot.{WaitSpot}
use Rattle.mutator.specs.declared.waits.WaitSpot.TheVariants as wait
use Rattle.mutator.specs.Orders.{takes_at}
use Rattle.mutator.specs.Rows.{Mutating, touch_at, first_touch}
use Rattle.mutator.specs.Fit.{numbers_fit}
use Rattle.collector_rows.specs.declared.control_spot.ControlSpot.{ControlSpot}
use Rattle.collector_rows.specs.declared.control_spot.ControlSpot.TheVariants as control
use Rattle.collector_rows.specs.ControlRows.{control_seat, is_gone, access_with, next_spot, stopping, after_unit, after_load, begins_pause, unasked, wants_pause}
use Rattle.collector_rows.specs.declared.extent.Extent.{Extent}
use Rattle.collector_rows.specs.Extent.{next_loaded, extent_after}
use Rattle.collector_rows.specs.ControlReady.{is_ready}
use Rattle.step_core.proofs.Handshake.Mutator.{StaysIn, stays_in, waits_in, IsGiven, given_order, given_ended}
use Rattle.step_core.proofs.Handshake.Control.{unit_above}

module _ (config : Config) (mutator : Mutating) (given : Order) where
  abbrev access_at : Spot → Access
  access_at spot = placed config (touch_at config mutator.seat mutator.made mutator.kept given spot)

  -- the access from a spot only reads, or is of another word
  abbrev NotEnd : Spot → Type 0
  NotEnd spot = (is_load (access_at spot) ≡ true) ⊎ (table_index (access_at spot) ≢ word_at config End)

  of_image : (spot : Spot) → StaysIn config mutator given spot → IsWord config (touch_at config mutator.seat mutator.made mutator.kept given spot).word → NotEnd spot
  of_image spot stays word = inr (λ same_place. (let word_above = placed_above config (touch_at config mutator.seat mutator.made mutator.kept given spot) word stays.image in omega (arith, same_place, word_above)))

  first_not : (asked_order : Order) → IsGiven asked_order → (is_load (placed config (first_touch mutator.seat asked_order)) ≡ true) ⊎ (table_index (placed config (first_touch mutator.seat asked_order)) ≢ word_at config End)
  first_not order.Nothing order_given = absurd order_given
  first_not (order.Begin command) order_given = inr (λ same_place. omega (arith, same_place))
  first_not order.End order_given = inr (λ same_place. omega (arith, same_place))
  first_not (order.Hint address) order_given = absurd order_given

  enter_not : (spot : EnterSpot) (next : Entered) → NotEnd (Entering spot next)
  enter_not enter.Raise next = inr (λ same_place. omega (arith, same_place))
  enter_not enter.Lower next = inr (λ same_place. omega (arith, same_place))
  enter_not _ next = inl refl

  wait_not : (spot : WaitSpot) → IsWord config (touch_at config mutator.seat mutator.made mutator.kept given (Waiting spot)).word → NotEnd (Waiting spot)
  wait_not wait.StepOut word = inr (λ same_place. omega (arith, same_place))
  wait_not wait.Poll word = inl refl
  wait_not wait.StoreRequest word = of_image (Waiting wait.StoreRequest) (waits_in config mutator given wait.StoreRequest refl) word
  wait_not wait.AskRoom word = of_image (Waiting wait.AskRoom) (waits_in config mutator given wait.AskRoom refl) word
  wait_not wait.LoadAnswer word = of_image (Waiting wait.LoadAnswer) (waits_in config mutator given wait.LoadAnswer refl) word
  wait_not (wait.StoreRoot address) word = of_image (Waiting (wait.StoreRoot address)) (waits_in config mutator given (wait.StoreRoot address) refl) word
  wait_not (wait.ClearAnswer reply) word = of_image (Waiting (wait.ClearAnswer reply)) (waits_in config mutator given (wait.ClearAnswer reply) refl) word

  pub not_end : (spot : Spot) → takes_at spot mutator.made given ≡ true → numbers_fit config mutator.seat mutator.made mutator.kept spot ≡ true → IsWord config (touch_at config mutator.seat mutator.made mutator.kept order.Nothing spot).word → NotEnd spot
  not_end Rest takes numbers_all_fit word = first_not given (given_order config mutator given given takes)
  not_end (Ended reply) takes numbers_all_fit word = first_not given (given_ended config mutator given reply given takes)
  not_end Gone takes numbers_all_fit word = absurd (cc (takes))
  not_end (Entering spot next) takes numbers_all_fit word = enter_not spot next
  not_end (Waiting spot) takes numbers_all_fit word = wait_not spot word
  not_end (Leave reply) takes numbers_all_fit word = inr (λ same_place. omega (arith, same_place))
  not_end LoadPhase takes numbers_all_fit word = of_image LoadPhase (stays_in config mutator given LoadPhase numbers_all_fit refl) word
  not_end LoadSet takes numbers_all_fit word = of_image LoadSet (stays_in config mutator given LoadSet numbers_all_fit refl) word
  not_end (Loading spot) takes numbers_all_fit word = of_image (Loading spot) (stays_in config mutator given (Loading spot) numbers_all_fit refl) word
  not_end (OnField object spot) takes numbers_all_fit word = of_image (OnField object spot) (stays_in config mutator given (OnField object spot) numbers_all_fit refl) word
  not_end (Resolving address spot next) takes numbers_all_fit word = of_image (Resolving address spot next) (stays_in config mutator given (Resolving address spot next) numbers_all_fit refl) word
  not_end (Recording spot address next) takes numbers_all_fit word = of_image (Recording spot address next) (stays_in config mutator given (Recording spot address next) numbers_all_fit refl) word
  not_end (OnNumber object refs spot) takes numbers_all_fit word = of_image (OnNumber object refs spot) (stays_in config mutator given (OnNumber object refs spot) numbers_all_fit refl) word
  not_end (Showing value spot) takes numbers_all_fit word = of_image (Showing value spot) (stays_in config mutator given (Showing value spot) numbers_all_fit refl) word
  not_end (StoreRoot value) takes numbers_all_fit word = of_image (StoreRoot value) (stays_in config mutator given (StoreRoot value) numbers_all_fit refl) word
  not_end (Making spot) takes numbers_all_fit word = of_image (Making spot) (stays_in config mutator given (Making spot) numbers_all_fit refl) word
  not_end (Pinning value spot) takes numbers_all_fit word = of_image (Pinning value spot) (stays_in config mutator given (Pinning value spot) numbers_all_fit refl) word
  not_end AskCycle takes numbers_all_fit word = of_image AskCycle (stays_in config mutator given AskCycle numbers_all_fit refl) word

-- a choice of two spots at neither of which the control has ended
neither : (holds : Bool) (spot other_spot : ControlSpot) → is_gone spot ≡ false → is_gone other_spot ≡ false → is_gone (if holds then spot else other_spot) ≡ false
neither true spot other_spot first_remains second_remains = first_remains
neither false spot other_spot first_remains second_remains = second_remains

stopping_goes : (config : Config) (phase : ℕ) (spot : StopSpot) → is_gone (stopping config phase spot) ≡ false
stopping_goes config phase stop.Raise = refl
stopping_goes config phase (stop.Check seat) = refl
stopping_goes config phase stop.Stopped = refl

loads_go : (config : Config) (extent : Extent) (index : ℕ) → is_gone (after_load config extent index) ≡ false
loads_go config extent index = neither (nat_lt (next_loaded config extent index) (image_words config)) (control.LoadWord (next_loaded config extent index) extent) (control.StoreWord 0 extent) refl refl

unit_goes : (spot : UnitSpot) → is_gone (after_unit spot) ≡ false
unit_goes (unit.Ended Worked) = refl
unit_goes (unit.Ended NoneLeft) = refl
unit_goes _ = refl

module _ (config : Config) (phase cset seen next value : ℕ) where
  stop_not : (spot : StopSpot) → (is_load (access_with config (control.Stopping spot) value) ≡ true) ⊎ (table_index (access_with config (control.Stopping spot) value) ≢ word_at config End)
  stop_not stop.Raise = inr (λ same_place. omega (arith, same_place))
  stop_not _ = inl refl

  -- a step of the control writes the word where it ends, and only there
  pub control_keeps_end : (spot : ControlSpot) → is_ready config spot ≡ true → KeepsEnd config (is_gone spot) (access_with config spot value) (λ got. is_gone (next_spot config phase cset seen next spot got))
  control_keeps_end control.LookLeft spot_ready = inr (record { not_written = inl refl; same = λ got. neither (got == 0) control.StoreEnd control.LookAsked refl refl })
  control_keeps_end control.StoreEnd spot_ready = inl (record { access_is = refl; has_ended = λ got. refl })
  control_keeps_end control.LookAsked spot_ready = inr (record {
    not_written = inl refl;
    same = λ got. neither (begins_pause phase got) (control.Stopping stop.Raise) (unasked phase cset) refl (neither (phase == idle_phase) control.LookFree (control.Working (units.begins phase cset)) refl refl);
  })
  control_keeps_end control.LookFree spot_ready = inr (record { not_written = inl refl; same = λ got. neither (wants_pause config seen got) (control.Stopping stop.Raise) control.LookLeft refl refl })
  control_keeps_end (control.Working spot) spot_ready =
      let word_above = unit_above config (control_seat config) spot (omega arith) (and_parts _ _ spot_ready).0 in
      inr (record { not_written = inr (λ same_place. omega (arith, same_place, word_above)); same = λ got. unit_goes (units.next_at config spot got) })
  control_keeps_end (control.Stopping spot) spot_ready = inr (record { not_written = stop_not spot; same = λ got. stopping_goes config phase (stop_next config spot got) })
  control_keeps_end (control.LoadWord index extent) spot_ready = inr (record { not_written = inl refl; same = λ got. loads_go config (extent_after phase index extent got) index })
  control_keeps_end (control.StoreWord index extent) spot_ready =
      inr (record { not_written = inr (λ same_place. omega (arith, same_place)); same = λ got. neither (nat_lt next (image_words config)) (control.StoreWord next extent) control.Go refl refl })
  control_keeps_end control.Go spot_ready = inr (record { not_written = inr (λ same_place. omega (arith, same_place)); same = λ got. refl })
  control_keeps_end control.Gone spot_ready = inr (record { not_written = inl refl; same = λ got. refl })
