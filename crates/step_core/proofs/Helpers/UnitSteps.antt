-- What the steps of a helper owe.
use Rattle.heap_words.specs.Phases.{idle_phase}
use Rattle.std.proofs.Common.{◌≡◌, ℕ, ◌<◌, Bool, true, false, refl, sym, subst, arith}
use Rattle.std.specs.Prelude.{◌==◌, if◌then◌else◌}
use Rattle.std.proofs.lemmas.Bool.{and_parts, eqb-false}
use Rattle.shen_graph.proofs.Bools.{false_from_flip}
use Rattle.heap_words.specs.declared.config.Config.{Config}
use Rattle.heap_words.specs.Ranges.{seat_count}
use Rattle.heap_words.specs.Words.{End, Phase, Cset, State, write}
use Rattle.handshake.specs.declared.enter_spot.EnterSpot.{EnterSpot}
use Rattle.handshake.specs.declared.enter_spot.EnterSpot.TheVariants as enter
use Rattle.handshake.specs.EnterRows.{next_at as enter_next}
use Rattle.heap_words.specs.declared.access.Unit.TheVariants.{Worked, NoneLeft}
use Rattle.unit_part.specs.declared.spot.UnitSpot.{UnitSpot}
use Rattle.unit_part.specs.declared.spot.UnitSpot.TheVariants.{Ended}
use Rattle.unit_part.specs.Rows as units
use Rattle.collector_rows.specs.declared.help_spot.HelpSpot.{HelpSpot}
use Rattle.collector_rows.specs.declared.help_spot.HelpSpot.TheVariants.{LoadEnd, Entering, LoadPhase, LoadSet, Working, Leave, Gone}
use Rattle.collector_rows.specs.HelperRows.{Helping, is_gone, touch_at, help_touch, after_enter, after_unit, next_spot, help_next}
use Rattle.collector_rows.specs.HelperReady.{UnitGoesOn}
use Rattle.collector_rows.proofs.HelperStays.{stays_ready}
use Rattle.heap_world.specs.World.{World, Shared}
use Rattle.heap_world.specs.Part.{PartStep}
use Rattle.step_core.proofs.Machines.Alike.{load_step, store_step}
use Rattle.step_core.proofs.Handshake.Entering.{states_stay, entered_world, enters}
use Rattle.step_core.proofs.Machines.Owed.{IsResting, CanWork, HelpFacts, IsHelper}
use Rattle.step_core.proofs.Helpers.Units.{step_with, work_begins, work_fits, work_step}
use Rattle.step_core.proofs.Mutators.WhileMarking.{world_with}

module _ (config : Config) (world : World) (seat hints : ℕ) (shared : Shared config world) where
  -- the helper at a spot
  abbrev helper_at : HelpSpot → Helping
  helper_at spot = record { seat = seat; spot = spot; hints = hints }

  -- the word that it finds
  abbrev got : HelpSpot → ℕ
  got spot = world.memory (touch_at config seat spot).word

  -- what its step owes
  abbrev Step : HelpSpot → Type 0
  Step spot = PartStep config world seat (touch_at config seat spot) (λ world. IsHelper config world seat (help_next config (helper_at spot) (got spot)))

  -- what it counts on next, in a world
  abbrev FactsThen : World → HelpSpot → Type 0
  FactsThen world spot = HelpFacts config world seat (next_spot config spot (got spot))

  -- where it knows what it counts on, it is where it should be
  stands_then : (next_world : World) (spot : HelpSpot) → IsHelper config world seat (helper_at spot) → UnitGoesOn config seat spot (got spot) → FactsThen next_world spot → IsHelper config next_world seat (help_next config (helper_at spot) (got spot))
  stands_then next_world spot helper_known word_fits facts =
      record { number_is = refl; ready = stays_ready config (helper_at spot) (got spot) helper_known.ready word_fits; facts = facts; least = helper_known.least; below = helper_known.below }

  -- one of two spots
  of_two : (world : World) (holds : Bool) (spot other_spot : HelpSpot) → (holds ≡ true → HelpFacts config world seat spot) → (holds ≡ false → HelpFacts config world seat other_spot) → HelpFacts config world seat (if holds then spot else other_spot)
  of_two world true spot other_spot first_facts second_facts = first_facts refl
  of_two world false spot other_spot first_facts second_facts = second_facts refl

  enters_at : (world : World) (spot : EnterSpot) → IsResting world seat → HelpFacts config world seat (after_enter spot)
  enters_at world enter.Inside rests = rests
  enters_at world _ rests = rests

  works_at : (world : World) (spot : UnitSpot) → CanWork config world seat spot → HelpFacts config world seat (after_unit spot)
  works_at world (Ended Worked) can_work = can_work
  works_at world (Ended NoneLeft) can_work = can_work.0
  works_at world _ can_work = can_work

  -- its seat is one of the heap's
  seated : (spot : HelpSpot) → IsHelper config world seat (helper_at spot) → seat < seat_count config.mutators config.helpers
  seated spot helper_known = let seat_below = helper_known.below in omega (arith, seat_below)

  -- it looks whether the control has ended
  load_end : IsHelper config world seat (helper_at LoadEnd) → Step LoadEnd
  load_end helper_known = load_step config world seat End _ shared (stands_then world LoadEnd helper_known tt (of_two world (got LoadEnd == 1) Gone (Entering enter.Raise) (λ control_ended. helper_known.facts) (λ control_goes. helper_known.facts)))

  rests_still : (spot : EnterSpot) → IsResting world seat → IsResting (entered_world world seat spot) seat
  rests_still enter.Raise rests = rests
  rests_still enter.Lower rests = rests
  rests_still _ rests = rests

  -- it enters
  enter_step : (spot : EnterSpot) → IsHelper config world seat (helper_at (Entering spot)) → Step (Entering spot)
  enter_step spot helper_known =
      let world_there : World = entered_world world seat spot in
      enters config world seat spot _ shared (stands_then world_there (Entering spot) helper_known tt (enters_at world_there (enter_next spot (got (Entering spot))) (rests_still spot helper_known.facts)))

  -- it loads the phase, and the collection set
  load_phase : IsHelper config world seat (helper_at LoadPhase) → Step LoadPhase
  load_phase helper_known =
      load_step config world seat Phase _ shared
      (stands_then world LoadPhase helper_known tt (of_two world (world.memory Phase == idle_phase) Leave (LoadSet (world.memory Phase)) (λ no_phase. helper_known.facts) (λ some_phase. (helper_known.facts, eqb-false _ _ some_phase, refl))))

  load_set : (phase : ℕ) → IsHelper config world seat (helper_at (LoadSet phase)) → Step (LoadSet phase)
  load_set phase helper_known = load_step config world seat Cset _ shared (stands_then world (LoadSet phase) helper_known tt (work_begins config world seat shared phase (seated (LoadSet phase) helper_known) helper_known.facts.1 helper_known.facts.2 helper_known.facts.0))

  -- it works on its unit
  unit_step : (spot : UnitSpot) → IsHelper config world seat (helper_at (Working spot)) → Step (Working spot)
  unit_step spot helper_known =
      let unit_ready = and_parts _ _ (and_parts _ _ helper_known.ready).1 in
      let step = work_step config world seat shared spot unit_ready.0 (false_from_flip (units.is_ended spot) unit_ready.1) helper_known.facts in
      step_with config world seat (units.touch_at config seat spot) _ _ step (stands_then step.world (Working spot) helper_known (work_fits config world seat shared spot unit_ready.0 helper_known.facts) (works_at step.world _ step.own))

  -- it leaves
  leave_step : IsHelper config world seat (helper_at Leave) → Step Leave
  leave_step helper_known = store_step config world seat (State seat) 0 _ refl (states_stay world seat 0) shared (stands_then (world_with world (write world.memory (State seat) 0) world.graph) Leave helper_known tt helper_known.facts)

  -- wherever it stands
  by_spot : (spot : HelpSpot) → is_gone spot ≡ false → IsHelper config world seat (helper_at spot) → Step spot
  by_spot LoadEnd spot_going helper_known = load_end helper_known
  by_spot (Entering spot) spot_going helper_known = enter_step spot helper_known
  by_spot LoadPhase spot_going helper_known = load_phase helper_known
  by_spot (LoadSet phase) spot_going helper_known = load_set phase helper_known
  by_spot (Working spot) spot_going helper_known = unit_step spot helper_known
  by_spot Leave spot_going helper_known = leave_step helper_known
  by_spot Gone spot_going helper_known = absurd (cc (spot_going))

-- what the step of a helper owes that has not ended
pub help_step : (config : Config) (world : World) (number : ℕ) (helper : Helping) → Shared config world → IsHelper config world number helper → is_gone helper.spot ≡ false
    → PartStep config world number (help_touch config helper) (λ other_world. IsHelper config other_world number (help_next config helper (world.memory (help_touch config helper).word)))
help_step config world number helper shared helper_known helper_going =
    subst (λ any_seat. PartStep config world any_seat (help_touch config helper) (λ other_world. IsHelper config other_world any_seat (help_next config helper (world.memory (help_touch config helper).word)))) helper_known.number_is
    (by_spot config world helper.seat helper.hints shared helper.spot helper_going (subst (λ number. IsHelper config world number helper) (sym helper_known.number_is) helper_known))
