-- A call goes on, and one that makes no object comes nowhere where room is taken for one.
use Rattle.std.proofs.Common.{◌≡◌, ℕ, Bool, true, false, length, None, refl}
use Rattle.std.specs.Prelude.{◌==◌, nat_lt, if◌then◌else◌}
use Rattle.heap_words.specs.declared.config.Config.{Config}
use Rattle.shen_graph.specs.declared.command.Command.{Command}
use Rattle.shen_graph.specs.declared.command.Command.TheVariants.{New, Drop, Copy, Same, Get, Set, Cas, Xchg, Rd, Wr, Gc, Pin, Unpin}
use Rattle.shen_graph.specs.declared.command.Reply.TheVariants as reply
use Rattle.shen_graph.specs.declared.order.Order.TheVariants.{Nothing}
use Rattle.handshake.specs.declared.enter_spot.EnterSpot.{EnterSpot}
use Rattle.handshake.specs.declared.enter_spot.EnterSpot.TheVariants.{Inside, Raise}
use Rattle.handshake.specs.EnterRows.{next_at as enter_next}
use Rattle.alloc_buffers.specs.declared.spot.TakeSpot.{TakeSpot}
use Rattle.alloc_buffers.specs.declared.spot.TakeSpot.TheVariants as take_spot
use Rattle.alloc_buffers.specs.declared.spot.Taken.TheVariants.{At, NoRoom}
use Rattle.mutator.specs.declared.spot.Spot.{Spot}
use Rattle.satb_barrier.specs.declared.spot.RememberSpot.{RememberSpot}
use Rattle.satb_barrier.specs.declared.spot.RememberSpot.TheVariants.{LoadCount, Recorded}
use Rattle.satb_barrier.specs.Rows as satb
use Rattle.mutator.specs.declared.spot.Spot.TheVariants.{Rest, Ended, Entering, LoadPhase, LoadSet, Loading, OnField, Resolving, Recording, OnNumber, Showing, StoreRoot, Making, AskCycle, Pinning, Waiting, Leave, Gone}
use Rattle.mutator.specs.declared.spot.Entered.{Entered}
use Rattle.mutator.specs.declared.spot.Entered.TheVariants.{Call, Waited}
use Rattle.mutator.specs.declared.loads.LoadSpot.{LoadSpot}
use Rattle.mutator.specs.declared.loads.LoadSpot.TheVariants as load
use Rattle.mutator.specs.declared.fields.FieldSpot.{FieldSpot}
use Rattle.mutator.specs.declared.fields.FieldSpot.TheVariants as fields
use Rattle.mutator.specs.declared.overwrites.Overwritten.{Overwritten}
use Rattle.mutator.specs.declared.overwrites.Overwritten.TheVariants as overwrites
use Rattle.mutator.specs.declared.resolves.Loaded.{Loaded}
use Rattle.mutator.specs.declared.resolves.Loaded.TheVariants.{ForRoot, ToCompare}
use Rattle.load_barrier.specs.declared.spot.ResolveSpot.{ResolveSpot}
use Rattle.load_barrier.specs.declared.spot.ResolveSpot.TheVariants.{LoadHeader, Resolved}
use Rattle.load_barrier.specs.Rows as resolves
use Rattle.load_barrier.specs.UnitRows.{must_resolve}
use Rattle.mutator.specs.declared.numbers.NumberSpot.{NumberSpot}
use Rattle.mutator.specs.declared.numbers.NumberSpot.TheVariants as number
use Rattle.mutator.specs.declared.shows.ShowSpot.{ShowSpot}
use Rattle.mutator.specs.declared.shows.ShowSpot.TheVariants as show
use Rattle.mutator.specs.declared.makes.MakeSpot.{MakeSpot}
use Rattle.mutator.specs.declared.makes.MakeSpot.TheVariants as make
use Rattle.mutator.specs.declared.pins.PinSpot.{PinSpot}
use Rattle.mutator.specs.declared.pins.PinSpot.TheVariants as pin
use Rattle.mutator.specs.declared.waits.WaitSpot.{WaitSpot}
use Rattle.mutator.specs.declared.waits.WaitSpot.TheVariants as wait
use Rattle.mutator.specs.Commands.{command_roots, lacks_object, has_part, fits_slot}
use Rattle.table_heap.specs.Makes.{makes_object, may_stand}
use Rattle.mutator.specs.WaitRows.{after_enter, wait_next}
use Rattle.mutator.specs.Rows.{Mutating, given_at, next_at, first_spot, after_roots, after_first, after_second, after_root, on_number, with_part, after_shape, after_take, is_to_record, after_recording, overwritten, after_remember, after_expected, after_resolved, with_loaded, after_resolve, after_swap, take_next, load_next, field_next, number_next, show_next, pin_next, make_next}

-- a mutator in a call stands where it may, by whether its call makes an object
module _ (makes : Bool) where
  -- a call is in progress
  abbrev InCall : Spot → Type 0
  InCall spot = may_stand makes spot ≡ true

  either : (holds : Bool) (spot other_spot : Spot) → InCall spot → InCall other_spot → InCall (if holds then spot else other_spot)
  either true spot other_spot spot_in_call other_in_call = spot_in_call
  either false spot other_spot spot_in_call other_in_call = other_in_call

  in_enter : (next : Entered) (spot enter_spot : EnterSpot) → InCall (Entering spot next) → InCall (after_enter next enter_spot)
  in_enter Call spot Inside in_call = refl
  in_enter Waited spot Inside in_call = in_call
  in_enter Call spot _ in_call = refl
  in_enter Waited spot _ in_call = in_call

  in_first_spot : (command : Command) → (makes_object command ≡ true → makes ≡ true) → InCall (first_spot command)
  in_first_spot (New dst refs nums) may_make = may_make refl
  in_first_spot (Drop dst) may_make = refl
  in_first_spot Gc may_make = refl
  in_first_spot (Unpin slot) may_make = refl
  in_first_spot _ may_make = refl

  in_roots : (command : Command) (first second third : ℕ) → InCall (after_roots command first second third)
  in_roots (Copy dst src) first second third = refl
  in_roots (Pin slot obj) first second third = refl
  in_roots (Same left_root right_root) first second third = refl
  in_roots _ first second third = refl

  in_first : (command : Command) (first : ℕ) → InCall (after_first command first)
  in_first command first = either (nat_lt 1 (length (command_roots command))) (Loading (load.Second first)) (after_roots command first 0 0) refl (in_roots command first 0 0)

  in_second : (command : Command) (first second : ℕ) → InCall (after_second command first second)
  in_second command first second = either (nat_lt 2 (length (command_roots command))) (Loading (load.Third first second)) (after_roots command first second 0) refl (in_roots command first second 0)

  in_root : (command : Command) (first : ℕ) → InCall (after_root command first)
  in_root command first = either (lacks_object command first) (Leave reply.Bad) (after_first command first) refl (in_first command first)

  in_number : (command : Command) (object shape : ℕ) → InCall (on_number command object shape)
  in_number (Rd obj index) object shape = refl
  in_number (Wr obj index value) object shape = refl
  in_number _ object shape = refl

  in_part : (phase : ℕ) (command : Command) (object second third shape : ℕ) → InCall (with_part phase command object second third shape)
  in_part phase (Get dst src field) object second third shape = refl
  in_part phase (Set obj field val) object second third shape = refl
  in_part phase (Cas obj field expect val) object second third shape = refl
  in_part phase (Xchg dst obj field val) object second third shape = refl
  in_part phase command object second third shape = in_number command object shape

  in_shape : (phase : ℕ) (command : Command) (object second third shape : ℕ) → InCall (after_shape phase command object second third shape)
  in_shape phase command object second third shape = either (has_part command shape) (with_part phase command object second third shape) (Leave reply.Bad) (in_part phase command object second third shape) refl

  in_take : (spot : TakeSpot) → makes ≡ true → InCall (after_take spot)
  in_take (take_spot.Ended (At address) end) may_make = may_make
  in_take (take_spot.Ended NoRoom end) may_make = may_make
  in_take _ may_make = may_make

  in_load : (phase : ℕ) (command : Command) (spot : LoadSpot) (got : ℕ) → InCall (load_next phase command spot got)
  in_load phase command load.First got = in_root command got
  in_load phase command (load.Second first) got = in_second command first got
  in_load phase command (load.Third first second) got = in_roots command first second got
  in_load phase command (load.Shape object second third) got = in_shape phase command object second third got

  in_recording : (found : ℕ) (next : Overwritten) → InCall (after_recording found next)
  in_recording found (overwrites.Set object value) = refl
  in_recording found overwrites.Xchg = refl
  in_recording found overwrites.Cas = refl

  in_overwritten : (phase found : ℕ) (next : Overwritten) → InCall (overwritten phase found next)
  in_overwritten phase found next = either (is_to_record phase found) (Recording LoadCount found next) (after_recording found next) refl (in_recording found next)

  in_remember : (address : ℕ) (next : Overwritten) (spot : RememberSpot) → InCall (after_remember address next spot)
  in_remember address next Recorded = in_recording address next
  in_remember address next _ = refl

  in_expected : (object expect value found answer : ℕ) → InCall (after_expected object expect value found answer)
  in_expected object expect value found answer = either (answer == expect) (OnField object (fields.Exchange found expect value)) (Leave reply.No) refl refl

  in_resolved : (found answer : ℕ) (next : Loaded) → InCall (after_resolved found answer next)
  in_resolved found answer ForRoot = refl
  in_resolved found answer (ToCompare object expect value) = in_expected object expect value found answer

  in_loaded : (config : Config) (phase cset found : ℕ) (next : Loaded) → InCall (with_loaded config phase cset found next)
  in_loaded config phase cset found next = either (must_resolve config phase cset found) (Resolving found LoadHeader next) (after_resolved found found next) refl (in_resolved found found next)

  in_resolve : (found : ℕ) (next : Loaded) (spot : ResolveSpot) → InCall (after_resolve found next spot)
  in_resolve found next (Resolved answer) = in_resolved found answer next
  in_resolve found next _ = refl

  in_swap : (config : Config) (phase cset found : ℕ) → InCall (after_swap config phase cset found)
  in_swap config phase cset found = either (is_to_record phase found) (Recording LoadCount found overwrites.Xchg) (with_loaded config phase cset found ForRoot) refl (in_loaded config phase cset found ForRoot)

  in_field : (config : Config) (phase cset object : ℕ) (spot : FieldSpot) (got : ℕ) → InCall (field_next config phase cset object spot got)
  in_field config phase cset object fields.Load got = in_loaded config phase cset got ForRoot
  in_field config phase cset object (fields.LoadExpected expect value) got = in_loaded config phase cset got (ToCompare object expect value)
  in_field config phase cset object (fields.LoadOld value) got = in_overwritten phase got (overwrites.Set object value)
  in_field config phase cset object (fields.Swap value) got = in_swap config phase cset got
  in_field config phase cset object (fields.Exchange found expect value) got =
      either (got == found) (overwritten phase found overwrites.Cas) (OnField object (fields.LoadExpected expect value)) (in_overwritten phase found overwrites.Cas) refl
  in_field config phase cset object _ got = refl

  in_numbers : (spot : NumberSpot) (got : ℕ) → InCall (number_next spot got)
  in_numbers number.Load got = refl
  in_numbers number.Store got = refl

  in_show : (value : ℕ) (spot : ShowSpot) (got : ℕ) → InCall (show_next value spot got)
  in_show value show.LoadName got = refl
  in_show value (show.StoreRoot reply) got = refl

  in_pin : (value : ℕ) (command : Command) (spot : PinSpot) (got : ℕ) → InCall (pin_next value command spot got)
  in_pin value command pin.Look got = either (fits_slot command got) (Pinning value pin.Store) (Leave reply.Bad) refl refl
  in_pin value command pin.Store got = refl

  in_make : (config : Config) (seat made : ℕ) (command : Command) (spot : MakeSpot) (got : ℕ) → makes ≡ true → InCall (make_next config seat made command spot got)
  in_make config seat made command (make.Taking take) got may_make = in_take (take_next config command take got) may_make
  in_make config seat made command (make.StoreWord address done_words) got may_make = may_make
  in_make config seat made command (make.StoreRoot address) got may_make = refl

  in_wait : (seat made : ℕ) (spot : WaitSpot) (got : ℕ) → makes ≡ true → InCall (wait_next seat made spot got)
  in_wait seat made wait.StoreRequest got may_make = may_make
  in_wait seat made wait.AskRoom got may_make = may_make
  in_wait seat made wait.StepOut got may_make = may_make
  in_wait seat made wait.Poll got may_make = either (got == 0) (Waiting wait.Poll) (Entering Raise Waited) may_make may_make
  in_wait seat made wait.LoadAnswer got may_make = may_make
  in_wait seat made (wait.StoreRoot address) got may_make = may_make
  in_wait seat made (wait.ClearAnswer reply) got may_make = refl

  -- and so it does after a step that gives no reply
  pub call_stands : (config : Config) (mutator : Mutating) (got : ℕ) (spot : Spot) → (makes_object mutator.kept.command ≡ true → makes ≡ true) → may_stand makes spot ≡ true → given_at spot ≡ None
      → may_stand makes (next_at config mutator Nothing got spot).spot ≡ true
  call_stands config mutator got Rest own_makes spot_stands gives_nothing = absurd cc
  call_stands config mutator got (Ended reply) own_makes spot_stands gives_nothing = absurd cc
  call_stands config mutator got Gone own_makes spot_stands gives_nothing = absurd cc
  call_stands config mutator got (Entering spot next) own_makes spot_stands gives_nothing = in_enter next spot (enter_next spot got) spot_stands
  call_stands config mutator got LoadPhase own_makes spot_stands gives_nothing = refl
  call_stands config mutator got LoadSet own_makes spot_stands gives_nothing = in_first_spot mutator.kept.command own_makes
  call_stands config mutator got (Loading spot) own_makes spot_stands gives_nothing = in_load mutator.kept.phase mutator.kept.command spot got
  call_stands config mutator got (OnField object spot) own_makes spot_stands gives_nothing = in_field config mutator.kept.phase mutator.kept.cset object spot got
  call_stands config mutator got (Resolving address spot next) own_makes spot_stands gives_nothing = in_resolve address next (resolves.next_at config address mutator.kept.phase spot got)
  call_stands config mutator got (Recording spot address next) own_makes spot_stands gives_nothing = in_remember address next (satb.next_at spot got)
  call_stands config mutator got (OnNumber object refs spot) own_makes spot_stands gives_nothing = in_numbers spot got
  call_stands config mutator got (Showing value spot) own_makes spot_stands gives_nothing = in_show value spot got
  call_stands config mutator got (StoreRoot value) own_makes spot_stands gives_nothing = refl
  call_stands config mutator got (Making spot) own_makes spot_stands gives_nothing = in_make config mutator.seat mutator.made mutator.kept.command spot got spot_stands
  call_stands config mutator got AskCycle own_makes spot_stands gives_nothing = refl
  call_stands config mutator got (Pinning value spot) own_makes spot_stands gives_nothing = in_pin value mutator.kept.command spot got
  call_stands config mutator got (Waiting spot) own_makes spot_stands gives_nothing = in_wait mutator.seat mutator.made spot got spot_stands
  call_stands config mutator got (Leave reply) own_makes spot_stands gives_nothing = absurd (cc (gives_nothing))
