-- Who stands at E4 awaits the end of a pause.
use Rattle.std.proofs.Common.{◌≡◌, ◌≢◌, ℕ, ◌∙◌, Bool, true, false, Some, None, refl, sym, arith}
use Rattle.std.specs.Prelude.{◌==◌, if◌then◌else◌}
use Rattle.std.proofs.lemmas.Bool.{false≢true}
use Rattle.std.proofs.lemmas.Bool.Decides.{nat_tests}
use Rattle.heap_words.specs.declared.config.Config.{Config}
use Rattle.heap_words.specs.declared.place.Place.TheVariants.{E4}
use Rattle.heap_words.specs.Place.{same_place}
use Rattle.heap_words.specs.declared.access.Unit.TheVariants.{Worked, NoneLeft}
use Rattle.shen_graph.specs.declared.order.Order.TheVariants.{Nothing}
use Rattle.handshake.specs.declared.enter_spot.EnterSpot.TheVariants as enter
use Rattle.handshake.specs.declared.stop_spot.StopSpot.{StopSpot}
use Rattle.handshake.specs.declared.stop_spot.StopSpot.TheVariants as stop
use Rattle.handshake.specs.StopRows.{place_at as stop_place}
use Rattle.alloc_buffers.specs.declared.spot.TakeSpot.{TakeSpot}
use Rattle.alloc_buffers.specs.declared.spot.TakeSpot.TheVariants as take
use Rattle.alloc_buffers.specs.Rows as takes
use Rattle.evac_room.specs.declared.spot.RoomSpot.{RoomSpot}
use Rattle.evac_room.specs.declared.spot.RoomSpot.TheVariants as room
use Rattle.evac_room.specs.Rows as rooms
use Rattle.load_barrier.specs.declared.copying.CopySpot.{CopySpot}
use Rattle.load_barrier.specs.declared.copying.CopySpot.TheVariants as copy
use Rattle.load_barrier.specs.declared.spot.ResolveSpot.{ResolveSpot}
use Rattle.load_barrier.specs.declared.spot.ResolveSpot.TheVariants as resolve
use Rattle.load_barrier.specs.declared.evac_spot.EvacSpot.{EvacSpot}
use Rattle.load_barrier.specs.declared.evac_spot.EvacSpot.TheVariants as evac
use Rattle.load_barrier.specs.Rows as resolves
use Rattle.load_barrier.specs.UnitRows as evacs
use Rattle.satb_barrier.specs.declared.spot.RememberSpot.{RememberSpot}
use Rattle.satb_barrier.specs.declared.spot.RememberSpot.TheVariants as remember
use Rattle.satb_barrier.specs.Rows as satb
use Rattle.unit_part.specs.declared.scan_spot.ScanSpot.{ScanSpot}
use Rattle.unit_part.specs.declared.scan_spot.ScanSpot.TheVariants as scan
use Rattle.unit_part.specs.ScanRows as scans
use Rattle.unit_part.specs.declared.update_spot.UpdateSpot.{UpdateSpot}
use Rattle.unit_part.specs.declared.update_spot.UpdateSpot.TheVariants as update
use Rattle.unit_part.specs.UpdateRows as updates
use Rattle.unit_part.specs.declared.spot.UnitSpot.{UnitSpot}
use Rattle.unit_part.specs.declared.spot.UnitSpot.TheVariants as unit
use Rattle.unit_part.specs.Rows as units
use Rattle.mutator.specs.declared.loads.LoadSpot.{LoadSpot}
use Rattle.mutator.specs.declared.loads.LoadSpot.TheVariants as load
use Rattle.mutator.specs.declared.fields.FieldSpot.{FieldSpot}
use Rattle.mutator.specs.declared.fields.FieldSpot.TheVariants as fields
use Rattle.mutator.specs.declared.numbers.NumberSpot.{NumberSpot}
use Rattle.mutator.specs.declared.numbers.NumberSpot.TheVariants as number
use Rattle.mutator.specs.declared.shows.ShowSpot.{ShowSpot}
use Rattle.mutator.specs.declared.shows.ShowSpot.TheVariants as show
use Rattle.mutator.specs.declared.makes.MakeSpot.{MakeSpot}
use Rattle.mutator.specs.declared.makes.MakeSpot.TheVariants as make
use Rattle.mutator.specs.declared.pins.PinSpot.{PinSpot}
use Rattle.mutator.specs.declared.pins.PinSpot.TheVariants as pin
use Rattle.mutator.specs.declared.waits.WaitSpot.{WaitSpot}
use Rattle.mutator.specs.declared.waits.WaitSpot.TheVariants as wait
use Rattle.mutator.specs.declared.spot.Entered.TheVariants.{Call, Waited}
use Rattle.mutator.specs.declared.spot.Kept.{Kept}
use Rattle.mutator.specs.declared.spot.Spot.{Spot}
use Rattle.mutator.specs.declared.spot.Spot.TheVariants as spot
use Rattle.mutator.specs.Rows.{load_place, field_place, number_place, show_place, pin_place, make_place}
use Rattle.mutator.specs.WaitRows.{wait_place}
use Rattle.collector_rows.specs.declared.help_spot.HelpSpot.{HelpSpot}
use Rattle.collector_rows.specs.declared.help_spot.HelpSpot.TheVariants as help
use Rattle.collector_rows.specs.declared.control_spot.ControlSpot.{ControlSpot}
use Rattle.collector_rows.specs.declared.control_spot.ControlSpot.TheVariants as control
use Rattle.collector_rows.specs.ControlRows.{control_place, is_gone}
use Rattle.step_core.specs.Actor.{Machine, mutating, helping, controlling}
use Rattle.step_core.specs.Machines.{order_for, is_machine_at}
use Rattle.heap_machines.specs.Awaits.{Awaits}

-- Each part stands elsewhere.
take_away : (machine_spot : TakeSpot) → same_place (takes.place_at machine_spot) E4 ≡ false
take_away take.LoadBuffer = refl
take_away _ = refl

room_away : (machine_spot : RoomSpot) → same_place (rooms.place_at machine_spot) E4 ≡ false
room_away room.Outside = refl
room_away _ = refl

copy_away : (machine_spot : CopySpot) → same_place (resolves.copy_place machine_spot) E4 ≡ false
copy_away copy.Publish = refl
copy_away _ = refl

resolve_away : (machine_spot : ResolveSpot) → same_place (resolves.place_at machine_spot) E4 ≡ false
resolve_away (resolve.Entering machine_spot) = room_away machine_spot
resolve_away (resolve.Taking words machine_spot) = take_away machine_spot
resolve_away (resolve.Copying copy end machine_spot) = copy_away machine_spot
resolve_away (resolve.Stopping machine_spot) = room_away machine_spot
resolve_away _ = refl

evac_away : (machine_spot : EvacSpot) → same_place (evacs.place_at machine_spot) E4 ≡ false
evac_away (evac.Resolving address end next machine_spot) = resolve_away machine_spot
evac_away _ = refl

scan_away : (machine_spot : ScanSpot) → same_place (scans.place_at machine_spot) E4 ≡ false
scan_away (scan.Ended NoneLeft) = refl
scan_away (scan.Ended Worked) = refl
scan_away _ = refl

update_away : (machine_spot : UpdateSpot) → same_place (updates.place_at machine_spot) E4 ≡ false
update_away (update.Ended NoneLeft) = refl
update_away (update.Ended Worked) = refl
update_away _ = refl

unit_away : (machine_spot : UnitSpot) → same_place (units.place_at machine_spot) E4 ≡ false
unit_away (unit.Scanning machine_spot) = scan_away machine_spot
unit_away (unit.Evacuating cset machine_spot) = evac_away machine_spot
unit_away (unit.Updating cset machine_spot) = update_away machine_spot
unit_away _ = refl

satb_away : (machine_spot : RememberSpot) → same_place (satb.place_at machine_spot) E4 ≡ false
satb_away remember.LoadCount = refl
satb_away _ = refl

load_away : (machine_spot : LoadSpot) → same_place (load_place machine_spot) E4 ≡ false
load_away load.First = refl
load_away _ = refl

field_away : (machine_spot : FieldSpot) → same_place (field_place machine_spot) E4 ≡ false
field_away fields.Load = refl
field_away _ = refl

number_away : (machine_spot : NumberSpot) → same_place (number_place machine_spot) E4 ≡ false
number_away number.Load = refl
number_away _ = refl

show_away : (machine_spot : ShowSpot) → same_place (show_place machine_spot) E4 ≡ false
show_away show.LoadName = refl
show_away _ = refl

make_away : (machine_spot : MakeSpot) → same_place (make_place machine_spot) E4 ≡ false
make_away (make.Taking machine_spot) = take_away machine_spot
make_away _ = refl

pin_away : (machine_spot : PinSpot) → same_place (pin_place machine_spot) E4 ≡ false
pin_away pin.Look = refl
pin_away _ = refl

wait_away : (machine_spot : WaitSpot) → same_place (wait_place machine_spot) E4 ≡ false
wait_away wait.Poll = refl
wait_away _ = refl

stop_away : (machine_spot : StopSpot) → same_place (stop_place machine_spot) E4 ≡ false
stop_away stop.Raise = refl
stop_away _ = refl

control_away : (machine_spot : ControlSpot) → same_place (control_place machine_spot) E4 ≡ false
control_away (control.Working machine_spot) = unit_away machine_spot
control_away (control.Stopping machine_spot) = stop_away machine_spot
control_away _ = refl

-- a word that is not 0
some_word : (got : ℕ) → got ≢ 0 → (got == 0) ≡ false
some_word got some_got = grind (arith, nat_tests, some_got)

module _ (config : Config) where
  -- a mutator
  mutator_awaits : (seat made : ℕ) (kept : Kept) (machine_spot : Spot) → is_machine_at E4 (mutating (record { seat = seat; made = made; kept = kept; spot = machine_spot })) (order_for None (mutating (record { seat = seat; made = made; kept = kept; spot = machine_spot }))) ≡ true
      → Awaits config (mutating (record { seat = seat; made = made; kept = kept; spot = machine_spot }))
  mutator_awaits seat made kept (spot.Entering enter.Await Call) machine_there = record {
    goes_on = λ next. refl;
    takes = refl;
    looks = refl;
    stays = λ got not_zero. rw (some_word got not_zero) refl;
    waits = λ got not_zero. rw (some_word got not_zero) refl;
    settles = λ memory. refl;
    refuses = λ words. refl;
  }
  mutator_awaits seat made kept (spot.Entering enter.Await Waited) machine_there = record {
    goes_on = λ next. refl;
    takes = refl;
    looks = refl;
    stays = λ got not_zero. rw (some_word got not_zero) refl;
    waits = λ got not_zero. rw (some_word got not_zero) refl;
    settles = λ memory. refl;
    refuses = λ words. refl;
  }
  mutator_awaits seat made kept (spot.Entering _ next) machine_there = absurd (false≢true machine_there)
  mutator_awaits seat made kept (spot.Loading inner_spot) machine_there = absurd (false≢true (sym (load_away inner_spot) ∙ machine_there))
  mutator_awaits seat made kept (spot.OnField object inner_spot) machine_there = absurd (false≢true (sym (field_away inner_spot) ∙ machine_there))
  mutator_awaits seat made kept (spot.Resolving address inner_spot next) machine_there = absurd (false≢true (sym (resolve_away inner_spot) ∙ machine_there))
  mutator_awaits seat made kept (spot.Recording inner_spot address next) machine_there = absurd (false≢true (sym (satb_away inner_spot) ∙ machine_there))
  mutator_awaits seat made kept (spot.OnNumber object refs inner_spot) machine_there = absurd (false≢true (sym (number_away inner_spot) ∙ machine_there))
  mutator_awaits seat made kept (spot.Showing value inner_spot) machine_there = absurd (false≢true (sym (show_away inner_spot) ∙ machine_there))
  mutator_awaits seat made kept (spot.Making inner_spot) machine_there = absurd (false≢true (sym (make_away inner_spot) ∙ machine_there))
  mutator_awaits seat made kept (spot.Pinning value inner_spot) machine_there = absurd (false≢true (sym (pin_away inner_spot) ∙ machine_there))
  mutator_awaits seat made kept (spot.Waiting inner_spot) machine_there = absurd (false≢true (sym (wait_away inner_spot) ∙ machine_there))
  mutator_awaits seat made kept _ machine_there = absurd (false≢true machine_there)

  -- a helper
  helper_awaits : (seat hints : ℕ) (machine_spot : HelpSpot) → is_machine_at E4 (helping (record { seat = seat; spot = machine_spot; hints = hints })) (order_for None (helping (record { seat = seat; spot = machine_spot; hints = hints }))) ≡ true → Awaits config (helping (record { seat = seat; spot = machine_spot; hints = hints }))
  helper_awaits seat hints (help.Entering enter.Await) machine_there = record {
    goes_on = λ next. refl;
    takes = refl;
    looks = refl;
    stays = λ got not_zero. rw (some_word got not_zero) refl;
    waits = λ got not_zero. rw (some_word got not_zero) refl;
    settles = λ memory. refl;
    refuses = λ words. refl;
  }
  helper_awaits seat hints (help.Entering _) machine_there = absurd (false≢true machine_there)
  helper_awaits seat hints (help.Working machine_spot) machine_there = absurd (false≢true (sym (unit_away machine_spot) ∙ machine_there))
  helper_awaits seat hints _ machine_there = absurd (false≢true machine_there)

  -- the control never does
  pub awaits_there : (machine : Machine) → is_machine_at E4 machine (order_for None machine) ≡ true → Awaits config machine
  awaits_there (mutating mutator) stands_there = mutator_awaits mutator.seat mutator.made mutator.kept mutator.spot stands_there
  awaits_there (helping helper) stands_there = helper_awaits helper.seat helper.hints helper.spot stands_there
  awaits_there (controlling given_control) stands_there = absurd (by_gone (is_gone given_control.spot) stands_there)
    where
      by_gone : (control_gone : Bool) → is_machine_at E4 (controlling given_control) (if control_gone then None else Some Nothing) ≡ true → ⊥
      by_gone true machine_there = false≢true machine_there
      by_gone false machine_there = false≢true (sym (control_away given_control.spot) ∙ machine_there)
