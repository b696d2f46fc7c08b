-- Where a mutator goes on that is in the heap: it stays in the heap until it leaves. Outside it has nothing in hand.
use Rattle.std.proofs.Common.{◌≡◌, ℕ, Bool, true, false, None, refl}
use Rattle.std.specs.Prelude.{◌==◌, nat_lt, length, if◌then◌else◌}
use Rattle.heap_words.specs.declared.config.Config.{Config}
use Rattle.shen_graph.specs.declared.command.Command.{Command}
use Rattle.shen_graph.specs.declared.command.Command.TheVariants.{New, Get, Set, Cas, Xchg, Rd, Wr, Copy, Drop, Same, Gc}
use Rattle.shen_graph.specs.declared.command.Reply.TheVariants as reply
use Rattle.shen_graph.specs.declared.order.Order.{Order}
use Rattle.alloc_buffers.specs.declared.spot.TakeSpot.{TakeSpot}
use Rattle.alloc_buffers.specs.declared.spot.TakeSpot.TheVariants as take
use Rattle.alloc_buffers.specs.declared.spot.Taken.TheVariants.{At, NoRoom}
use Rattle.handshake.specs.declared.enter_spot.EnterSpot.TheVariants as enter
use Rattle.handshake.specs.Standing.{inside, is_within}
use Rattle.satb_barrier.specs.declared.spot.RememberSpot.{RememberSpot}
use Rattle.satb_barrier.specs.declared.spot.RememberSpot.TheVariants.{LoadCount, Recorded}
use Rattle.satb_barrier.specs.Rows as satb
use Rattle.mutator.specs.declared.spot.Spot.{Spot}
use Rattle.mutator.specs.declared.spot.Kept.{Kept}
use Rattle.mutator.specs.declared.pins.PinSpot.TheVariants as pins
use Rattle.mutator.specs.declared.spot.Spot.TheVariants.{Rest, Ended, Gone, Entering, LoadPhase, LoadSet, Loading, OnField, Resolving, Recording, OnNumber, Showing, StoreRoot, Making, AskCycle, Pinning, Waiting, Leave}
use Rattle.mutator.specs.declared.spot.Entered.{Entered}
use Rattle.mutator.specs.declared.spot.Entered.TheVariants.{Call, Waited}
use Rattle.mutator.specs.declared.loads.LoadSpot.TheVariants as load
use Rattle.mutator.specs.declared.fields.FieldSpot.TheVariants as fields
use Rattle.load_barrier.specs.Rows as resolves
use Rattle.load_barrier.specs.UnitRows.{must_resolve}
use Rattle.load_barrier.specs.declared.spot.ResolveSpot.{ResolveSpot}
use Rattle.load_barrier.specs.declared.spot.ResolveSpot.TheVariants.{LoadHeader, Resolved}
use Rattle.mutator.specs.declared.resolves.Loaded.{Loaded}
use Rattle.mutator.specs.declared.resolves.Loaded.TheVariants.{ForRoot, ToCompare}
use Rattle.mutator.specs.declared.overwrites.Overwritten.{Overwritten}
use Rattle.mutator.specs.declared.overwrites.Overwritten.TheVariants as overwrites
use Rattle.mutator.specs.declared.numbers.NumberSpot.TheVariants as numbers
use Rattle.mutator.specs.declared.shows.ShowSpot.TheVariants as show
use Rattle.mutator.specs.declared.makes.MakeSpot.TheVariants as make
use Rattle.mutator.specs.declared.waits.WaitSpot.{WaitSpot}
use Rattle.mutator.specs.declared.waits.WaitSpot.TheVariants as wait
use Rattle.mutator.specs.Commands.{command_roots, lacks_object, has_part, fits_slot}
use Rattle.mutator.specs.Rows.{Mutating, first_spot, after_roots, after_first, with_part, is_to_record, overwritten, after_recording, after_remember, after_resolved, after_resolve, with_loaded, after_take, take_next, next_at}
use Rattle.mutator.specs.WaitRows.{after_enter}
use Rattle.step_core.specs.Own.{IsRoomOf}
use Rattle.heap_world.specs.World.{Block}
use Rattle.alloc_buffers.specs.Facts.{IsSpare}
use Rattle.step_core.specs.Standing.{standing_at, wait_standing}
use Rattle.step_core.proofs.Machines.Stepped.{recording_of, copies_at}

-- a spot in the heap
abbrev pub IsIn : Spot → Type 0
IsIn spot = is_within (standing_at spot) ≡ true

-- one of two
either_in : (holds : Bool) (spot other_spot : Spot) → IsIn spot → IsIn other_spot → IsIn (if holds then spot else other_spot)
either_in true spot other_spot spot_in other_in = spot_in
either_in false spot other_spot spot_in other_in = other_in

-- one of two while it waits
either_waits : (holds : Bool) (spot other_spot : WaitSpot) → is_within (wait_standing spot) ≡ true → is_within (wait_standing other_spot) ≡ true → is_within (wait_standing (if holds then spot else other_spot)) ≡ true
either_waits true spot other_spot first_within second_within = first_within
either_waits false spot other_spot first_within second_within = second_within

first_in : (command : Command) → IsIn (first_spot command)
first_in (New dst refs nums) = refl
first_in (Drop dst) = refl
first_in Gc = refl
first_in _ = refl

roots_in_heap : (command : Command) (first second third : ℕ) → IsIn (after_roots command first second third)
roots_in_heap (Copy dst src) first second third = refl
roots_in_heap (Same first_index second_index) first second third = refl
roots_in_heap _ first second third = refl

part_in : (phase : ℕ) (command : Command) (object second third shape : ℕ) → IsIn (with_part phase command object second third shape)
part_in phase (Get dst src field) object second third shape = refl
part_in phase (Set obj field val) object second third shape = refl
part_in phase (Cas obj field expect val) object second third shape = refl
part_in phase (Xchg dst obj field val) object second third shape = refl
part_in phase (Rd obj index) object second third shape = refl
part_in phase (Wr obj index value) object second third shape = refl
part_in phase _ object second third shape = refl

-- also with a reference that it overwrites, and records while objects are marked
recorded_in : (found : ℕ) (next : Overwritten) → IsIn (after_recording found next)
recorded_in found (overwrites.Set object value) = refl
recorded_in found overwrites.Xchg = refl
recorded_in found overwrites.Cas = refl

overwritten_in : (phase found : ℕ) (next : Overwritten) → IsIn (overwritten phase found next)
overwritten_in phase found next = either_in (is_to_record phase found) (Recording LoadCount found next) (after_recording found next) refl (recorded_in found next)

remember_in : (address : ℕ) (next : Overwritten) (spot : RememberSpot) → IsIn (after_remember address next spot)
remember_in address next Recorded = recorded_in address next
remember_in address next _ = refl

-- where it goes on with a reference that is resolved, or resolves it
resolved_in : (found answer : ℕ) (next : Loaded) → IsIn (after_resolved found answer next)
resolved_in found answer ForRoot = refl
resolved_in found answer (ToCompare object expect value) = either_in (answer == expect) (OnField object (fields.Exchange found expect value)) (Leave reply.No) refl refl

loaded_in : (config : Config) (phase cset found : ℕ) (next : Loaded) → IsIn (with_loaded config phase cset found next)
loaded_in config phase cset found next = either_in (must_resolve config phase cset found) (Resolving found LoadHeader next) (after_resolved found found next) refl (resolved_in found found next)

resolve_in : (found : ℕ) (next : Loaded) (spot : ResolveSpot) → IsIn (after_resolve found next spot)
resolve_in found next (Resolved answer) = resolved_in found answer next
resolve_in found next _ = refl

take_in : (spot : TakeSpot) → IsIn (after_take spot)
take_in (take.Ended (At address) end) = refl
take_in (take.Ended NoRoom end) = refl
take_in _ = refl

-- it goes on in the heap
pub goes_on_in : (config : Config) (mutator : Mutating) (order : Order) (got : ℕ) (spot : Spot) → standing_at spot ≡ inside → IsIn (next_at config mutator order got spot).spot
goes_on_in config mutator order got LoadPhase stands_inside = refl
goes_on_in config mutator order got LoadSet stands_inside = first_in mutator.kept.command
goes_on_in config mutator order got (Loading load.First) stands_inside =
    either_in (lacks_object mutator.kept.command got) (Leave reply.Bad) (after_first mutator.kept.command got) refl
    (either_in (nat_lt 1 (length (command_roots mutator.kept.command))) (Loading (load.Second got)) (after_roots mutator.kept.command got 0 0) refl (roots_in_heap mutator.kept.command got 0 0))
goes_on_in config mutator order got (Loading (load.Second first)) stands_inside =
    either_in (nat_lt 2 (length (command_roots mutator.kept.command))) (Loading (load.Third first got)) (after_roots mutator.kept.command first got 0) refl (roots_in_heap mutator.kept.command first got 0)
goes_on_in config mutator order got (Loading (load.Third first second)) stands_inside = roots_in_heap mutator.kept.command first second got
goes_on_in config mutator order got (Loading (load.Shape object second third)) stands_inside =
    either_in (has_part mutator.kept.command got) (with_part mutator.kept.phase mutator.kept.command object second third got) (Leave reply.Bad) (part_in mutator.kept.phase mutator.kept.command object second third got) refl
goes_on_in config mutator order got (OnField object fields.Load) stands_inside = loaded_in config mutator.kept.phase mutator.kept.cset got ForRoot
goes_on_in config mutator order got (OnField object (fields.LoadExpected expect value)) stands_inside = loaded_in config mutator.kept.phase mutator.kept.cset got (ToCompare object expect value)
goes_on_in config mutator order got (OnField object (fields.LoadOld value)) stands_inside = overwritten_in mutator.kept.phase got (overwrites.Set object value)
goes_on_in config mutator order got (OnField object (fields.Store value)) stands_inside = refl
goes_on_in config mutator order got (OnField object (fields.Swap value)) stands_inside =
    either_in (is_to_record mutator.kept.phase got) (Recording LoadCount got overwrites.Xchg) (with_loaded config mutator.kept.phase mutator.kept.cset got ForRoot) refl (loaded_in config mutator.kept.phase mutator.kept.cset got ForRoot)
goes_on_in config mutator order got (OnField object (fields.Exchange found expect value)) stands_inside =
    either_in (got == found) (overwritten mutator.kept.phase found overwrites.Cas) (OnField object (fields.LoadExpected expect value)) (overwritten_in mutator.kept.phase found overwrites.Cas) refl
goes_on_in config mutator order got (Resolving address spot next) stands_inside = resolve_in address next (resolves.next_at config address mutator.kept.phase spot got)
goes_on_in config mutator order got (Recording spot address next) stands_inside = remember_in address next (satb.next_at spot got)
goes_on_in config mutator order got (OnNumber object refs numbers.Load) stands_inside = refl
goes_on_in config mutator order got (OnNumber object refs numbers.Store) stands_inside = refl
goes_on_in config mutator order got (Showing value show.LoadName) stands_inside = refl
goes_on_in config mutator order got (Showing value (show.StoreRoot reference)) stands_inside = refl
goes_on_in config mutator order got (StoreRoot value) stands_inside = refl
goes_on_in config mutator order got (Making (make.Taking spot)) stands_inside = take_in (take_next config mutator.kept.command spot got)
goes_on_in config mutator order got (Making (make.StoreWord address done)) stands_inside = refl
goes_on_in config mutator order got (Making (make.StoreRoot address)) stands_inside = refl
goes_on_in config mutator order got AskCycle stands_inside = refl
goes_on_in config mutator order got (Pinning value pins.Look) stands_inside = either_in (fits_slot mutator.kept.command got) (Pinning value pins.Store) (Leave reply.Bad) refl refl
goes_on_in config mutator order got (Pinning value pins.Store) stands_inside = refl
goes_on_in config mutator order got (Waiting wait.StoreRequest) stands_inside = refl
goes_on_in config mutator order got (Waiting wait.AskRoom) stands_inside = refl
goes_on_in config mutator order got (Waiting wait.StepOut) stands_inside = cc
goes_on_in config mutator order got (Waiting wait.Poll) stands_inside = cc
goes_on_in config mutator order got (Waiting wait.LoadAnswer) stands_inside = either_waits (got == 1) (wait.ClearAnswer reply.Full) (wait.StoreRoot got) refl refl
goes_on_in config mutator order got (Waiting (wait.StoreRoot address)) stands_inside = refl
goes_on_in config mutator order got (Waiting (wait.ClearAnswer reference)) stands_inside = refl
goes_on_in config mutator order got (Entering enter.Raise next) stands_inside = cc
goes_on_in config mutator order got (Entering enter.Look next) stands_inside = cc
goes_on_in config mutator order got (Entering enter.Lower next) stands_inside = cc
goes_on_in config mutator order got (Entering enter.Await next) stands_inside = cc
goes_on_in config mutator order got (Entering enter.Inside next) stands_inside = goes_in next
  where
    goes_in : (next : Entered) → IsIn (after_enter next enter.Inside)
    goes_in Call = refl
    goes_in Waited = refl
goes_on_in config mutator order got _ stands_inside = cc

-- a mutator that is not in the heap has no room but free words of its buffer
pub spares_outside : (seat : ℕ) (kept : Kept) (spot : Spot) (address : ℕ) (piece : Block) → is_within (standing_at spot) ≡ false → IsRoomOf seat kept spot address piece → IsSpare seat piece
spares_outside seat kept Rest address piece mutator_outside room_there = room_there
spares_outside seat kept (Ended reply) address piece mutator_outside room_there = room_there
spares_outside seat kept (Entering spot then_on) address piece mutator_outside room_there = room_there
spares_outside seat kept (Waiting spot) address piece mutator_outside room_there = room_there
spares_outside seat kept Gone address piece mutator_outside room_there = room_there
spares_outside seat kept _ address piece mutator_outside room_there = absurd (cc (mutator_outside))

-- and these it may have
pub outside_spares : (seat : ℕ) (kept : Kept) (spot : Spot) (address : ℕ) (piece : Block) → is_within (standing_at spot) ≡ false → IsSpare seat piece → IsRoomOf seat kept spot address piece
outside_spares seat kept Rest address piece mutator_outside spare_there = spare_there
outside_spares seat kept (Ended reply) address piece mutator_outside spare_there = spare_there
outside_spares seat kept (Entering spot then_on) address piece mutator_outside spare_there = spare_there
outside_spares seat kept (Waiting spot) address piece mutator_outside spare_there = spare_there
outside_spares seat kept Gone address piece mutator_outside spare_there = spare_there
outside_spares seat kept _ address piece mutator_outside spare_there = absurd (cc (mutator_outside))

-- it is about to record nothing
pub records_outside : (spot : Spot) → is_within (standing_at spot) ≡ false → recording_of spot ≡ None
records_outside Rest mutator_outside = refl
records_outside (Ended reply) mutator_outside = refl
records_outside (Entering spot then_on) mutator_outside = refl
records_outside (Waiting spot) mutator_outside = refl
records_outside Gone mutator_outside = refl
records_outside _ mutator_outside = absurd (cc (mutator_outside))

-- and it copies nothing
pub copies_outside : (spot : Spot) → is_within (standing_at spot) ≡ false → copies_at spot ≡ false
copies_outside Rest mutator_outside = refl
copies_outside (Ended reply) mutator_outside = refl
copies_outside (Entering spot then_on) mutator_outside = refl
copies_outside (Waiting spot) mutator_outside = refl
copies_outside Gone mutator_outside = refl
copies_outside _ mutator_outside = absurd (cc (mutator_outside))
