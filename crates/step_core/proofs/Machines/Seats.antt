-- What holds of a machine says what the ghost state has of its seat, and what a mutator may use.
use Rattle.std.proofs.Common.{◌≡◌, ℕ, ◌+◌, ◌<◌, true, false, List, Option, Some, None, inl, inr, refl, sym, ◌∙◌, subst, ◌⊎◌, ⊎_elim, length, ap, arith}
use Rattle.std.proofs.lemmas.Option.{same_Some, none-some}
use Rattle.heap_words.specs.declared.config.Config.{Config}
use Rattle.heap_words.specs.Words.{Answer}
use Rattle.shen_graph.specs.History.{Entry}
use Rattle.shen_graph.specs.declared.command.Command.{Command}
use Rattle.shen_graph.specs.declared.command.Command.TheVariants.{Pin, Unpin}
use Rattle.shen_graph.specs.declared.command.Reply.{Reply}
use Rattle.heap_words.specs.declared.access.Unit.{Unit}
use Rattle.heap_words.specs.declared.access.Unit.TheVariants.{Worked, NoneLeft}
use Rattle.unit_part.specs.declared.spot.UnitSpot.{UnitSpot}
use Rattle.unit_part.specs.declared.spot.UnitSpot.TheVariants.{Scanning, Evacuating, Updating, Ended}
use Rattle.alloc_buffers.specs.Facts.{HasLess, IsSpare, TakeFacts}
use Rattle.heap_words.specs.Encoding.{next_in, end_in}
use Rattle.alloc_buffers.specs.declared.spot.TakeSpot.{TakeSpot}
use Rattle.alloc_buffers.specs.declared.spot.TakeSpot.TheVariants.{LoadFree}
use Rattle.load_barrier.specs.declared.spot.ResolveSpot.{ResolveSpot}
use Rattle.load_barrier.specs.declared.spot.ResolveSpot.TheVariants as resolve
use Rattle.cycle_steps.specs.Resolving.Facts.{ResolveFacts, CanResolve, CopyFacts}
use Rattle.load_barrier.specs.declared.copying.CopySpot.{CopySpot}
use Rattle.load_barrier.specs.declared.copying.CopySpot.TheVariants as copy
use Rattle.load_barrier.specs.declared.evac_spot.EvacSpot.{EvacSpot}
use Rattle.load_barrier.specs.declared.evac_spot.EvacSpot.TheVariants as evac
use Rattle.cycle_steps.specs.Evacuation.Facts.{HasNothing, WorkFacts}
use Rattle.mutator.specs.declared.spot.Kept.{Kept}
use Rattle.mutator.specs.declared.spot.Spot.{Spot}
use Rattle.mutator.specs.declared.pins.PinSpot.{PinSpot}
use Rattle.mutator.specs.declared.pins.PinSpot.TheVariants as pins
use Rattle.mutator.specs.declared.spot.Spot.TheVariants.{Entering, Loading, OnField, Resolving, Recording, OnNumber, Showing, StoreRoot, Making, Waiting, Pinning}
use Rattle.mutator.specs.declared.loads.LoadSpot.{LoadSpot}
use Rattle.mutator.specs.declared.loads.LoadSpot.TheVariants as load
use Rattle.mutator.specs.Commands.{command_roots, dst_of, index_of}
use Rattle.mutator.specs.declared.spot.Entered.TheVariants.{Waited}
use Rattle.mutator.specs.declared.fields.FieldSpot.{FieldSpot}
use Rattle.mutator.specs.declared.fields.FieldSpot.TheVariants as fields
use Rattle.mutator.specs.declared.numbers.NumberSpot.{NumberSpot}
use Rattle.mutator.specs.declared.numbers.NumberSpot.TheVariants as numbers
use Rattle.mutator.specs.declared.shows.ShowSpot.{ShowSpot}
use Rattle.mutator.specs.declared.shows.ShowSpot.TheVariants as show
use Rattle.mutator.specs.declared.makes.MakeSpot.{MakeSpot}
use Rattle.mutator.specs.declared.makes.MakeSpot.TheVariants as make
use Rattle.mutator.specs.declared.overwrites.Overwritten.{Overwritten}
use Rattle.mutator.specs.declared.overwrites.Overwritten.TheVariants as overwrites
use Rattle.mutator.specs.declared.resolves.Loaded.{Loaded}
use Rattle.mutator.specs.declared.resolves.Loaded.TheVariants.{ForRoot, ToCompare}
use Rattle.mutator.specs.declared.waits.WaitSpot.{WaitSpot}
use Rattle.mutator.specs.declared.waits.WaitSpot.TheVariants as wait
use Rattle.mutator.specs.Orders.{is_waiting}
use Rattle.mutator.specs.Rows.{Mutating, words_made}
use Rattle.collector_rows.specs.declared.help_spot.HelpSpot.{HelpSpot}
use Rattle.collector_rows.specs.declared.help_spot.HelpSpot.TheVariants as help
use Rattle.collector_rows.specs.declared.control_spot.ControlSpot.{ControlSpot}
use Rattle.collector_rows.specs.declared.control_spot.ControlSpot.TheVariants as control
use Rattle.heap_world.specs.World.{World, Block, Body, body_words, hand, room_of, UsableIn}
use Rattle.step_core.specs.Actor.{Machine, mutating, helping, controlling, Actor}
use Rattle.step_core.specs.Seats.{copies_in, IsRoomIn, help_unit, control_unit, unit_progress, unit_copies, unit_region, CanWorkOn, UnitRoom, resolve_hand, evac_hand, unit_hand, make_hand, call_hand, Taking, resolve_taking, evac_taking, unit_taking, make_taking, call_taking, take_looks, looks_in, Carried, resolve_carries, evac_carries, unit_carries, call_carries, StandsThere, IsInSeat, before_record, before_resolve, works_on, AsksNothing, MakesObject, IsServed, IsOfRoots, IsOfField, IsOfLoaded, IsOfOverwritten, IsOfCall, is_answered}
use Rattle.step_core.proofs.Machines.Owed.{IsResting, CanWork, HelpFacts, ControlFacts, IsMachine}
use Rattle.step_core.proofs.Machines.Stepped.{HasObject, FieldFacts, NumberFacts, ShowFacts, RecordFacts, LoadedFacts, MakeFacts, IsResolving, IsMaking, IsPolling, IsAnswered, WaitFacts, SpotFacts, Mine, HasTaken, IsCas, IsCopy, IsDrop, IsOfSlot, PinFacts, LoadFacts}

-- What the ghost state and the pieces have of a seat that works on a unit of evacuation.
record OnUnit (config : Config) (world : World) (seat : ℕ) (spot : EvacSpot) : Type 0 where
  records : world.ghost.recording seat ≡ None
  scans : world.ghost.scanning seat ≡ None
  copies : world.ghost.copying seat ≡ copies_in spot
  rooms : (address : ℕ) (piece : Block) → world.block address ≡ Some piece → room_of piece ≡ Some seat → IsRoomIn seat spot address piece
  takes : (taking : Taking) → evac_taking spot ≡ Some taking → TakeFacts config world seat taking.words taking.take
  carries : (x : Carried) → evac_carries spot ≡ Some x → StandsThere config world x
  holds : (address : ℕ) → evac_hand spot ≡ Some address → (words : ℕ) × (world.block address ≡ Some (hand seat words))

-- who copies has its room in hand
copy_holds : (config : Config) (world : World) (seat address copy_address end : ℕ) (body : Body) (spot : CopySpot) → CopyFacts config world seat address copy_address end body spot → world.block copy_address ≡ Some (hand seat (body_words body))
copy_holds config world seat address copy_address end body (copy.LoadWord words index) facts = facts.3.taken.here
copy_holds config world seat address copy_address end body (copy.StoreWord words index found) facts = facts.3.taken.here
copy_holds config world seat address copy_address end body copy.StoreHeader facts = facts.taken.here
copy_holds config world seat address copy_address end body copy.Publish facts = facts.0.taken.here
copy_holds config world seat address copy_address end body (copy.GiveBack answer) facts = facts.0.here

resolve_holds : (config : Config) (world : World) (seat address : ℕ) (spot : ResolveSpot) → ResolveFacts config world seat address spot → (hand_address : ℕ) → resolve_hand spot ≡ Some hand_address → (words : ℕ) × (world.block hand_address ≡ Some (hand seat words))
resolve_holds config world seat address (resolve.Copying copy_address end spot) facts hand_address in_hand =
    (body_words facts.0, ap (λ address. world.block address) (sym (same_Some copy_address hand_address in_hand)) ∙ copy_holds config world seat address copy_address end facts.0 spot facts.2)
resolve_holds config world seat address _ facts hand_address in_hand = absurd cc

-- who takes room has what its taking counts on, also where it resolves an address
taking_facts : (config : Config) (world : World) (seat words : ℕ) (take_spot : TakeSpot) (taking : Taking) → Some (record { words = words; take = take_spot }) ≡ Some taking → TakeFacts config world seat words take_spot → TakeFacts config world seat taking.words taking.take
taking_facts config world seat words take_spot taking same_taking facts = subst (λ (taking : Taking). TakeFacts config world seat taking.words taking.take) (same_Some _ taking same_taking) facts

resolve_takes : (config : Config) (world : World) (seat address : ℕ) (spot : ResolveSpot) (taking : Taking) → resolve_taking spot ≡ Some taking → ResolveFacts config world seat address spot → TakeFacts config world seat taking.words taking.take
resolve_takes config world seat address (resolve.Taking words take_spot) taking takes facts = taking_facts config world seat words take_spot taking takes facts.2.1.facts
resolve_takes config world seat address _ taking takes facts = absurd cc

-- and who is about to look for a free region has a buffer with fewer free words than it wants, or none
take_lacks : (config : Config) (world : World) (seat wanted_words words : ℕ) (take_spot : TakeSpot) → take_looks words take_spot ≡ Some wanted_words → TakeFacts config world seat words take_spot → HasLess world.memory seat wanted_words
take_lacks config world seat wanted_words words (LoadFree buffer shared) looks facts =
    subst (HasLess world.memory seat) (same_Some words wanted_words looks) (subst (λ word. end_in word < next_in word + words) (sym facts.is) facts.less)
take_lacks config world seat wanted_words words _ looks facts = absurd cc

pub lacks : {c : Config} (world : World) (seat words : ℕ) (taking : Option Taking) → looks_in taking ≡ Some words → ((taking_there : Taking) → taking ≡ Some taking_there → TakeFacts c world seat taking_there.words taking_there.take) → HasLess world.memory seat words
lacks {c} world_now seat words None looks takes = absurd (none-some words looks)
lacks {c} world_now seat words (Some taking_there) looks takes = take_lacks c world_now seat words taking_there.words taking_there.take looks (takes taking_there refl)

-- who is about to store a word into its copy has the object's word
resolve_stands : (config : Config) (world : World) (seat address : ℕ) (spot : ResolveSpot) (carried : Carried) → resolve_carries address spot ≡ Some carried → CanResolve config world seat address spot → StandsThere config world carried
resolve_stands config world seat address (resolve.Copying copy_address end (copy.StoreWord words index found)) carried carries can_resolve = subst (StandsThere config world) (same_Some _ carried carries) (record {
  body = can_resolve.facts.0;
  there = can_resolve.facts.1;
  inside = can_resolve.inside;
  behind = can_resolve.facts.2.1;
  within = subst (λ limit. index < limit) can_resolve.facts.2.0 can_resolve.facts.2.2;
  same = can_resolve.facts.2.4;
})
resolve_stands config world seat address (resolve.Copying copy_address end _) carried carries can_resolve = absurd cc
resolve_stands config world seat address _ carried carries can_resolve = absurd cc

-- where it has nothing
on_unit_nothing : (config : Config) (world : World) (seat : ℕ) (spot : EvacSpot) → copies_in spot ≡ false → evac_taking spot ≡ None → evac_carries spot ≡ None → evac_hand spot ≡ None
    → ((held_address : ℕ) (piece : Block) → IsSpare seat piece → IsRoomIn seat spot held_address piece) → HasNothing world seat → OnUnit config world seat spot
on_unit_nothing config world seat spot copies taking carries in_hand rooms_belong nothing = record {
  records = nothing.records_none;
  scans = nothing.scans_none;
  copies = nothing.copying ∙ sym copies;
  rooms = λ held_address piece piece_there room. rooms_belong held_address piece (nothing.rooms held_address piece piece_there room);
  takes = λ taking_there piece_there. absurd (none-some taking_there (sym taking ∙ piece_there));
  carries = λ piece piece_there. absurd (none-some piece (sym carries ∙ piece_there));
  holds = λ held_address piece_there. absurd (none-some held_address (sym in_hand ∙ piece_there));
}

on_unit : (config : Config) (world : World) (seat : ℕ) (spot : EvacSpot) → WorkFacts config world seat spot → OnUnit config world seat spot
on_unit config world seat evac.LoadClaim facts = on_unit_nothing config world seat evac.LoadClaim refl refl refl refl (λ held_address carried fact. fact) facts
on_unit config world seat (evac.ClaimUnit unit) facts = on_unit_nothing config world seat (evac.ClaimUnit unit) refl refl refl refl (λ held_address carried fact. fact) facts.0
on_unit config world seat (evac.LoadTop region) facts = on_unit_nothing config world seat (evac.LoadTop region) refl refl refl refl (λ held_address carried fact. fact) facts.0
on_unit config world seat (evac.LoadFirst address end) facts = on_unit_nothing config world seat (evac.LoadFirst address end) refl refl refl refl (λ held_address carried fact. fact) facts.0
on_unit config world seat (evac.LoadShape address end) facts = on_unit_nothing config world seat (evac.LoadShape address end) refl refl refl refl (λ held_address carried fact. fact) facts.0
on_unit config world seat (evac.LoadMark address end behind) facts = on_unit_nothing config world seat (evac.LoadMark address end behind) refl refl refl refl (λ held_address carried fact. fact) facts.0
on_unit config world seat (evac.Resolving address end behind spot) facts = record {
  records = facts.1.records_none;
  scans = facts.1.scans_none;
  copies = facts.1.copying;
  rooms = facts.1.rooms;
  takes = λ taking fact. resolve_takes config world seat address spot taking fact facts.1.facts;
  carries = λ carried fact. resolve_stands config world seat address spot carried fact facts.1;
  holds = λ held_address fact. resolve_holds config world seat address spot facts.1.facts held_address fact;
}
on_unit config world seat (evac.Ended unit) facts = on_unit_nothing config world seat (evac.Ended unit) refl refl refl refl (λ held_address carried fact. fact) facts

-- What the ghost state and the pieces have of a seat that works on a unit, or rests.
record AtUnit (config : Config) (world : World) (seat : ℕ) (spot : UnitSpot) : Type 0 where
  records : world.ghost.recording seat ≡ None
  scans : world.ghost.scanning seat ≡ unit_progress config spot
  copies : world.ghost.copying seat ≡ unit_copies spot
  works : world.ghost.working seat ≡ unit_region config spot
  goes_on : CanWorkOn config world seat spot
  rooms : (address : ℕ) (piece : Block) → world.block address ≡ Some piece → room_of piece ≡ Some seat → UnitRoom seat spot address piece
  takes : (taking : Taking) → unit_taking spot ≡ Some taking → TakeFacts config world seat taking.words taking.take
  carries : (x : Carried) → unit_carries spot ≡ Some x → StandsThere config world x
  holds : (address : ℕ) → unit_hand spot ≡ Some address → (words : ℕ) × (world.block address ≡ Some (hand seat words))

module _ (config : Config) (world : World) (seat : ℕ) where
  at_rest : (unit : Unit) → IsResting world seat → AtUnit config world seat (Ended unit)
  at_rest unit rests = record {
    records = rests.records_none;
    scans = rests.scans_none;
    copies = rests.copies_none;
    works = rests.works_none;
    goes_on = tt;
    rooms = rests.rooms;
    takes = λ taking_there fact. absurd cc;
    carries = λ carried fact. absurd cc;
    holds = λ held_address fact. absurd cc;
  }

  at_unit : (spot : UnitSpot) → CanWork config world seat spot → AtUnit config world seat spot
  at_unit (Scanning spot) facts = record {
    records = facts.0.records_none;
    scans = facts.0.scanning;
    copies = facts.1;
    works = facts.2;
    goes_on = facts.0;
    rooms = facts.3;
    takes = λ taking_there fact. absurd cc;
    carries = λ carried fact. absurd cc;
    holds = λ held_address fact. absurd cc;
  }
  at_unit (Evacuating cset spot) facts =
      let unit = on_unit config world seat spot facts.facts in
      record { records = unit.records; scans = unit.scans; copies = unit.copies; works = facts.working; goes_on = facts; rooms = unit.rooms; takes = unit.takes; carries = unit.carries; holds = unit.holds }
  at_unit (Updating cset spot) facts = record {
    records = facts.records_none;
    scans = facts.scanning;
    copies = facts.copying;
    works = facts.working;
    goes_on = facts;
    rooms = facts.rooms;
    takes = λ taking_there fact. absurd cc;
    carries = λ carried fact. absurd cc;
    holds = λ held_address fact. absurd cc;
  }
  at_unit (Ended Worked) facts = at_rest Worked facts
  at_unit (Ended NoneLeft) facts = at_rest NoneLeft facts.0

  -- a helper in its unit, and the control
  help_at : (spot : HelpSpot) → HelpFacts config world seat spot → AtUnit config world seat (help_unit spot)
  help_at (help.Working spot) facts = at_unit spot facts
  help_at (help.LoadSet phase) facts = at_rest Worked facts.0
  help_at help.LoadEnd facts = at_rest Worked facts
  help_at (help.Entering spot) facts = at_rest Worked facts
  help_at help.LoadPhase facts = at_rest Worked facts
  help_at help.Leave facts = at_rest Worked facts
  help_at help.Gone facts = at_rest Worked facts

  control_at : (spot : ControlSpot) → ControlFacts config world seat spot → AtUnit config world seat (control_unit spot)
  control_at (control.Working spot) facts = at_unit spot facts
  control_at control.LookFree facts = at_rest Worked facts.0
  control_at (control.Stopping spot) facts = at_rest Worked facts.0
  control_at (control.LoadWord index extent) facts = at_rest Worked facts.0
  control_at control.LookLeft facts = at_rest Worked facts
  control_at control.StoreEnd facts = at_rest Worked facts
  control_at control.LookAsked facts = at_rest Worked facts
  control_at (control.StoreWord index extent) facts = at_rest Worked facts
  control_at control.Go facts = at_rest Worked facts
  control_at control.Gone facts = at_rest Worked facts

-- a mutator that takes room
make_takes : (config : Config) (world : World) (seat made : ℕ) (kept_command command : Command) (fixed : Option Reply) (spot : MakeSpot) (taking : Taking) → make_taking (words_made kept_command) spot ≡ Some taking → MakeFacts config world seat made kept_command command fixed spot → TakeFacts config world seat taking.words taking.take
make_takes config world seat made kept_command command fixed (make.Taking take_spot) taking takes facts = taking_facts config world seat (words_made kept_command) take_spot taking takes facts.1
make_takes config world seat made kept_command command fixed _ taking takes facts = absurd cc

resolving_takes : (config : Config) (world : World) (seat address : ℕ) (spot : ResolveSpot) (taking : Taking) → resolve_taking spot ≡ Some taking → IsResolving config world seat address spot → TakeFacts config world seat taking.words taking.take
resolving_takes config world seat address spot taking takes (inl can_resolve) = resolve_takes config world seat address spot taking takes can_resolve.facts
resolving_takes config world seat address (resolve.Taking words take_spot) taking takes (inr spot_follows) = absurd (spot_follows.facts)
resolving_takes config world seat address _ taking takes (inr spot_follows) = absurd cc

call_takes : (config : Config) (world : World) (seat made : ℕ) (kept_words : Kept) (command : Command) (fixed : Option Reply) (spot : Spot) (taking : Taking) → call_taking kept_words spot ≡ Some taking → SpotFacts config world seat made kept_words command fixed spot → TakeFacts config world seat taking.words taking.take
call_takes config world seat made kept_words command fixed (Making spot) taking takes facts = make_takes config world seat made kept_words.command command fixed spot taking takes facts
call_takes config world seat made kept_words command fixed (Resolving address spot next_step) taking takes facts = resolving_takes config world seat address spot taking takes facts.0
call_takes config world seat made kept_words command fixed _ taking takes facts = absurd cc

resolving_stands : (config : Config) (world : World) (seat address : ℕ) (spot : ResolveSpot) (carried : Carried) → resolve_carries address spot ≡ Some carried → IsResolving config world seat address spot → StandsThere config world carried
resolving_stands config world seat address spot carried carries (inl can_resolve) = resolve_stands config world seat address spot carried carries can_resolve
resolving_stands config world seat address (resolve.Copying copy_address end spot) carried carries (inr spot_follows) = absurd (spot_follows.facts)
resolving_stands config world seat address _ carried carries (inr spot_follows) = absurd cc

call_stands : (config : Config) (world : World) (seat made : ℕ) (kept_words : Kept) (command : Command) (fixed : Option Reply) (spot : Spot) (carried : Carried) → call_carries spot ≡ Some carried → SpotFacts config world seat made kept_words command fixed spot → StandsThere config world carried
call_stands config world seat made kept_words command fixed (Resolving address spot next_step) carried carries facts = resolving_stands config world seat address spot carried carries facts.0
call_stands config world seat made kept_words command fixed _ carried carries facts = absurd cc

-- a mutator that makes an object, or copies one, has its room in hand
make_holds : (config : Config) (world : World) (seat made : ℕ) (kept_command command : Command) (fixed : Option Reply) (spot : MakeSpot) → MakeFacts config world seat made kept_command command fixed spot → (address : ℕ) → make_hand spot ≡ Some address
    → (words : ℕ) × (world.block address ≡ Some (hand seat words))
make_holds config world seat made kept_command command fixed (make.Taking take_spot) facts address in_hand = absurd cc
make_holds config world seat made kept_command command fixed (make.StoreWord address done_words) facts hand_address in_hand = (words_made kept_command, ap (λ address. world.block address) (sym (same_Some address hand_address in_hand)) ∙ facts.1.room)
make_holds config world seat made kept_command command fixed (make.StoreRoot address) facts hand_address in_hand = (words_made kept_command, ap (λ address. world.block address) (sym (same_Some address hand_address in_hand)) ∙ facts.1.room)

resolving_holds : (config : Config) (world : World) (seat address : ℕ) (spot : ResolveSpot) → IsResolving config world seat address spot → (hand_address : ℕ) → resolve_hand spot ≡ Some hand_address → (words : ℕ) × (world.block hand_address ≡ Some (hand seat words))
resolving_holds config world seat address spot (inl can_resolve) hand_address in_hand = resolve_holds config world seat address spot can_resolve.facts hand_address in_hand
resolving_holds config world seat address (resolve.Copying copy_address end spot) (inr spot_follows) hand_address in_hand = absurd (spot_follows.facts)
resolving_holds config world seat address _ (inr spot_follows) hand_address in_hand = absurd cc

call_holds : (config : Config) (world : World) (seat made : ℕ) (kept_words : Kept) (command : Command) (fixed : Option Reply) (spot : Spot) → SpotFacts config world seat made kept_words command fixed spot → (address : ℕ) → call_hand spot ≡ Some address
    → (words : ℕ) × (world.block address ≡ Some (hand seat words))
call_holds config world seat made kept_words command fixed (Making spot) facts address in_hand = make_holds config world seat made kept_words.command command fixed spot facts address in_hand
call_holds config world seat made kept_words command fixed (Resolving address spot next_step) facts hand_address in_hand = resolving_holds config world seat address spot facts.0 hand_address in_hand
call_holds config world seat made kept_words command fixed _ facts address in_hand = absurd cc

-- any machine in its seat
pub in_seat : (config : Config) (words : List ℕ) (world : World) (entries : List Entry) (number : ℕ) (actor : Actor) (machine : Machine) → IsMachine config words world entries number actor machine → IsInSeat config world number machine
in_seat config words world entries number actor (mutating mutator) machine_facts =
    subst (λ seat. IsInSeat config world seat (mutating mutator)) machine_facts.number_is (record {
      records = machine_facts.mine.marking.records;
      scans = machine_facts.mine.marking.scans;
      copies = machine_facts.mine.copying.copies_is;
      works = machine_facts.mine.copying.works_none;
      goes_on = tt;
      rooms = machine_facts.mine.rooms;
      takes = λ taking fact. call_takes config world mutator.seat mutator.made mutator.kept actor.command machine_facts.fixed mutator.spot taking fact machine_facts.mine.facts;
      carries = λ carried fact. call_stands config world mutator.seat mutator.made mutator.kept actor.command machine_facts.fixed mutator.spot carried fact machine_facts.mine.facts;
      holds = λ address fact. call_holds config world mutator.seat mutator.made mutator.kept actor.command machine_facts.fixed mutator.spot machine_facts.mine.facts address fact;
    })
in_seat config words world entries number actor (helping helper) facts =
    let seat_facts = help_at config world number helper.spot facts.facts in
    record { records = seat_facts.records; scans = seat_facts.scans; copies = seat_facts.copies; works = seat_facts.works; goes_on = seat_facts.goes_on; rooms = seat_facts.rooms; takes = seat_facts.takes; carries = seat_facts.carries; holds = seat_facts.holds }
in_seat config words world entries number actor (controlling controller) facts =
    let seat_facts = control_at config world number controller.spot facts.facts in
    record { records = seat_facts.records; scans = seat_facts.scans; copies = seat_facts.copies; works = seat_facts.works; goes_on = seat_facts.goes_on; rooms = seat_facts.rooms; takes = seat_facts.takes; carries = seat_facts.carries; holds = seat_facts.holds }

-- What a mutator may use: an object on which it works, by each part of a call.
module _ (config : Config) (world : World) (seat : ℕ) (kept_command command : Command) (fixed : Option Reply) where
  object_usable : (root object : ℕ) → HasObject config world seat root object → UsableIn config world object
  object_usable root object has_object = inr (has_object.name, has_object.refs, has_object.nums, has_object.target)

  field_usable : (object : ℕ) (spot : FieldSpot) → FieldFacts config world seat kept_command command fixed object spot → UsableIn config world object
  field_usable object fields.Load facts = object_usable facts.1.src object facts.1.of
  field_usable object (fields.LoadExpected expect value) facts = object_usable facts.1.obj object facts.1.of
  field_usable object (fields.LoadOld value) facts = object_usable facts.1.obj object facts.1.of
  field_usable object (fields.Store value) facts = object_usable facts.1.obj object facts.1.of
  field_usable object (fields.Swap value) facts = object_usable facts.1.obj object facts.1.of
  field_usable object (fields.Exchange found expect value) facts = object_usable facts.1.obj object facts.1.of

  number_usable : (object refs : ℕ) (spot : NumberSpot) → NumberFacts config world seat kept_command command fixed object refs spot → UsableIn config world object
  number_usable object refs numbers.Load facts = object_usable facts.1.obj object facts.1.of
  number_usable object refs numbers.Store facts = object_usable facts.1.obj object facts.1.of

  show_usable : (value : ℕ) (spot : ShowSpot) → ShowFacts config world kept_command fixed value spot → UsableIn config world value
  show_usable value show.LoadName facts = facts.1
  show_usable value (show.StoreRoot reply) facts = facts.2

  record_usable : (address object : ℕ) (next_step : Overwritten) → before_record next_step ≡ Some object → RecordFacts config world seat kept_command command fixed address next_step → UsableIn config world object
  record_usable address object (overwrites.Set set_object value) before_it facts = subst (UsableIn config world) (same_Some set_object object before_it) (field_usable set_object (fields.Store value) facts)
  record_usable address object overwrites.Xchg before_it facts = absurd cc
  record_usable address object overwrites.Cas before_it facts = absurd cc

  resolve_usable : (found object : ℕ) (next_step : Loaded) → before_resolve next_step ≡ Some object → LoadedFacts config world seat kept_command command fixed found next_step → UsableIn config world object
  resolve_usable found object ForRoot before_it facts = absurd cc
  resolve_usable found object (ToCompare compared_object expect value) before_it facts = subst (UsableIn config world) (same_Some compared_object object before_it) (object_usable facts.is_cas.obj compared_object facts.is_cas.of)

  -- a root that was loaded, alone or one of two
  same_usable : (used_address word : ℕ) → UsableIn config world word → used_address ≡ word → UsableIn config world used_address
  same_usable used_address word usable same_address = subst (λ x. UsableIn config world x) (sym same_address) usable

  either_usable : (used_address word second_word : ℕ) → UsableIn config world word → UsableIn config world second_word → (used_address ≡ word) ⊎ (used_address ≡ second_word) → UsableIn config world used_address
  either_usable used_address word second_word first_usable second which_word = ⊎_elim (λ same_address. same_usable used_address word first_usable same_address) (λ same_address. same_usable used_address second_word second same_address) which_word

  roots_usable : (made : ℕ) (spot : LoadSpot) → LoadFacts config world seat made kept_command command fixed spot → (used_address : ℕ) → IsOfRoots kept_command spot used_address → UsableIn config world used_address
  roots_usable made load.First facts used_address of_roots = absurd of_roots
  roots_usable made (load.Second first_root) facts used_address of_roots = let root = facts.2 in same_usable used_address first_root (root.first_is root.some).usable of_roots
  roots_usable made (load.Third first_root second) facts used_address of_roots =
      let root = facts.2 in
      let some_more = facts.1 in
      either_usable used_address first_root second (root.first_is root.some).usable (facts.3 (omega (arith, some_more))).usable of_roots
  roots_usable made (load.Shape object second third) facts used_address of_roots =
      let roots = facts.2 in
      ⊎_elim
      (λ (first_root : used_address ≡ object). same_usable used_address object (roots.first_is.first_is roots.first_is.some).usable first_root)
      (λ second_or_third. ⊎_elim
      (λ (has_second : (1 < length (command_roots kept_command)) × (used_address ≡ second)). same_usable used_address second (roots.second_is has_second.0).usable has_second.1)
      (λ (has_third : (2 < length (command_roots kept_command)) × (used_address ≡ third)). same_usable used_address third (roots.third_is has_third.0).usable has_third.1)
      second_or_third)
      of_roots

  cas_usable : (object field expect value used_address : ℕ) → IsCas config world seat command object field expect value → (used_address ≡ expect) ⊎ (used_address ≡ value) → UsableIn config world used_address
  cas_usable object field expect value used_address cas of_cas = either_usable used_address expect value cas.expect_is.usable cas.value_is.usable of_cas

  of_field_usable : (object : ℕ) (spot : FieldSpot) → FieldFacts config world seat kept_command command fixed object spot → (used_address : ℕ) → IsOfField spot used_address → UsableIn config world used_address
  of_field_usable object fields.Load facts used_address of_field = absurd of_field
  of_field_usable object (fields.LoadExpected expect value) facts used_address of_field = cas_usable object (index_of kept_command) expect value used_address facts.1 of_field
  of_field_usable object (fields.LoadOld value) facts used_address of_field = same_usable used_address value facts.1.value_is.usable of_field
  of_field_usable object (fields.Store value) facts used_address of_field = same_usable used_address value facts.1.value_is.usable of_field
  of_field_usable object (fields.Swap value) facts used_address of_field = same_usable used_address value facts.1.value_is.usable of_field
  of_field_usable object (fields.Exchange found expect value) facts used_address of_field = cas_usable object (index_of kept_command) expect value used_address facts.1 of_field

  of_loaded_usable : (found : ℕ) (next_step : Loaded) → LoadedFacts config world seat kept_command command fixed found next_step → (used_address : ℕ) → IsOfLoaded next_step used_address → UsableIn config world used_address
  of_loaded_usable found ForRoot facts used_address of_loaded = absurd of_loaded
  of_loaded_usable found (ToCompare object expect value) facts used_address of_loaded = cas_usable object (index_of kept_command) expect value used_address facts.is_cas of_loaded

  of_overwritten_usable : (address : ℕ) (next_step : Overwritten) → RecordFacts config world seat kept_command command fixed address next_step → (used_address : ℕ) → IsOfOverwritten next_step used_address → UsableIn config world used_address
  of_overwritten_usable address (overwrites.Set object value) facts used_address of_overwritten = same_usable used_address value facts.1.value_is.usable of_overwritten
  of_overwritten_usable address overwrites.Xchg facts used_address of_overwritten = absurd of_overwritten
  of_overwritten_usable address overwrites.Cas facts used_address of_overwritten = absurd of_overwritten

  copy_usable : (dst value used_address : ℕ) → IsCopy config world seat command dst value ⊎ IsDrop command dst value → used_address ≡ value → UsableIn config world used_address
  copy_usable dst value used_address (inl is_copy) same_address = same_usable used_address value is_copy.value_is.usable same_address
  copy_usable dst value used_address (inr is_drop) same_address = inl (same_address ∙ is_drop.value_is)

  -- what a call stores into a pin slot
  slot_usable : (of_slot : Command) (value used_address : ℕ) → IsOfSlot config world seat of_slot value → used_address ≡ value → UsableIn config world used_address
  slot_usable (Pin slot obj) value used_address of_slot same_address = same_usable used_address value (object_usable obj value of_slot.1) same_address
  slot_usable (Unpin slot) value used_address of_slot same_address = inl (same_address ∙ of_slot.1)
  slot_usable _ value used_address of_slot same_address = absurd of_slot

  pin_usable : (value : ℕ) (spot : PinSpot) → PinFacts config world seat kept_command command fixed value spot → (used_address : ℕ) → used_address ≡ value → UsableIn config world used_address
  pin_usable value pins.Look facts used_address same_address = slot_usable kept_command value used_address facts.2 same_address
  pin_usable value pins.Store facts used_address same_address = slot_usable kept_command value used_address facts.2 same_address

call_usable : (config : Config) (world : World) (seat made : ℕ) (kept_words : Kept) (command : Command) (fixed : Option Reply) (spot : Spot) → SpotFacts config world seat made kept_words command fixed spot → (used_address : ℕ) → IsOfCall kept_words.command spot used_address → UsableIn config world used_address
call_usable config world seat made kept_words command fixed (Loading spot) facts used_address of_call = roots_usable config world seat kept_words.command command fixed made spot facts used_address of_call
call_usable config world seat made kept_words command fixed (OnField object spot) facts used_address of_call = of_field_usable config world seat kept_words.command command fixed object spot facts used_address of_call
call_usable config world seat made kept_words command fixed (Resolving address spot next_step) facts used_address of_call = of_loaded_usable config world seat kept_words.command command fixed address next_step facts.1 used_address of_call
call_usable config world seat made kept_words command fixed (Recording spot address next_step) facts used_address of_call = of_overwritten_usable config world seat kept_words.command command fixed address next_step facts.1 used_address of_call
call_usable config world seat made kept_words command fixed (StoreRoot value) facts used_address of_call = copy_usable config world seat kept_words.command command fixed (dst_of kept_words.command) value used_address facts.2 of_call
call_usable config world seat made kept_words command fixed (Pinning value spot) facts used_address of_call = pin_usable config world seat kept_words.command command fixed value spot facts used_address of_call
call_usable config world seat made kept_words command fixed _ facts used_address of_call = absurd of_call

works_usable : (config : Config) (world : World) (seat made object : ℕ) (kept_words : Kept) (command : Command) (fixed : Option Reply) (spot : Spot) → works_on spot ≡ Some object → SpotFacts config world seat made kept_words command fixed spot → UsableIn config world object
works_usable config world seat made object kept_words command fixed (OnField worked_object spot) works_here facts = subst (UsableIn config world) (same_Some worked_object object works_here) (field_usable config world seat kept_words.command command fixed worked_object spot facts)
works_usable config world seat made object kept_words command fixed (OnNumber worked_object refs spot) works_here facts = subst (UsableIn config world) (same_Some worked_object object works_here) (number_usable config world seat kept_words.command command fixed worked_object refs spot facts)
works_usable config world seat made object kept_words command fixed (Showing worked_object spot) works_here facts = subst (UsableIn config world) (same_Some worked_object object works_here) (show_usable config world seat kept_words.command command fixed worked_object spot facts)
works_usable config world seat made object kept_words command fixed (Recording spot address next_step) works_here facts = record_usable config world seat kept_words.command command fixed address object next_step works_here facts.1
works_usable config world seat made object kept_words command fixed (Resolving address spot next_step) works_here facts = resolve_usable config world seat kept_words.command command fixed address object next_step works_here facts.1
works_usable config world seat made object kept_words command fixed _ works_here facts = absurd cc

-- who waits for an object makes one
module _ (world : World) (seat made : ℕ) (kept_command command : Command) (fixed : Option Reply) where
  making : (dst refs nums : ℕ) → IsMaking made command fixed dst refs nums → MakesObject command
  making dst refs nums makes = record { dst = dst; refs = refs; nums = nums; is = makes.is }

  polling_makes : IsPolling world seat made kept_command command fixed → MakesObject command
  polling_makes (inl heard) = making _ _ _ heard.0.0
  polling_makes (inr (inl given_object)) = making _ _ _ given_object.0
  polling_makes (inr (inr refused)) = record { dst = refused.0.dst; refs = refused.0.refs; nums = refused.0.nums; is = refused.0.is }

  answered_makes : IsAnswered world seat made kept_command command fixed → MakesObject command
  answered_makes (inl given_object) = making _ _ _ given_object.0
  answered_makes (inr full_heap) = record { dst = full_heap.0.dst; refs = full_heap.0.refs; nums = full_heap.0.nums; is = full_heap.0.is }

  waiting_makes : (config : Config) (spot : WaitSpot) → WaitFacts config world seat made kept_command command fixed spot → MakesObject command
  waiting_makes config wait.StoreRequest facts = making _ _ _ facts.0
  waiting_makes config wait.AskRoom facts = making _ _ _ facts.0
  waiting_makes config wait.StepOut facts = making _ _ _ facts.0.0
  waiting_makes config wait.Poll facts = polling_makes facts
  waiting_makes config wait.LoadAnswer facts = answered_makes facts
  waiting_makes config (wait.StoreRoot address) facts = making _ _ _ facts.0.0
  waiting_makes config (wait.ClearAnswer reply) facts = facts.4

  waits_make : (config : Config) (kept_words : Kept) (spot : Spot) → kept_words.command ≡ kept_command → is_waiting spot ≡ true → SpotFacts config world seat made kept_words command fixed spot → MakesObject command
  waits_make config kept_words (Waiting spot) same_command waiting facts = waiting_makes config spot (subst (λ kept_one. WaitFacts config world seat made kept_one command fixed spot) same_command facts)
  waits_make config kept_words (Entering spot Waited) same_command waiting facts = answered_makes (subst (λ kept_one. IsAnswered world seat made kept_one command fixed) same_command facts)
  waits_make config kept_words _ same_command waiting facts = absurd cc

-- who clears its answer has taken what it was answered
clearing_taken : (config : Config) (world : World) (seat made : ℕ) (kept_words : Kept) (command : Command) (fixed : Option Reply) (reply : Reply) → SpotFacts config world seat made kept_words command fixed (Waiting (wait.ClearAnswer reply))
    → AsksNothing world seat × HasTaken config world seat reply
clearing_taken config world seat made kept_words command fixed reply facts = (record { no_request = facts.1; no_promise = facts.2 }, facts.3)

-- who is answered has an answer, and stores that
answered_some : (world : World) (seat made : ℕ) (kept_command command : Command) (fixed : Option Reply) → IsAnswered world seat made kept_command command fixed → 0 < world.memory (Answer seat)
answered_some world seat made kept_command command fixed (inl given_object) = let some_answer = given_object.1.1 in omega (arith, some_answer)
answered_some world seat made kept_command command fixed (inr full_heap) = let answer_is_full = full_heap.1.1 in omega (arith, answer_is_full)

has_answer : (config : Config) (world : World) (seat made : ℕ) (kept_words : Kept) (command : Command) (fixed : Option Reply) (spot : Spot) → is_answered spot ≡ true → SpotFacts config world seat made kept_words command fixed spot → 0 < world.memory (Answer seat)
has_answer config world seat made kept_words command fixed (Entering spot Waited) is_served facts = answered_some world seat made kept_words.command command fixed facts
has_answer config world seat made kept_words command fixed (Waiting wait.LoadAnswer) is_served facts = answered_some world seat made kept_words.command command fixed facts
has_answer config world seat made kept_words command fixed (Waiting (wait.StoreRoot address)) is_served facts = let some_answer = facts.0.1.1 in omega (arith, some_answer)
has_answer config world seat made kept_words command fixed _ is_served facts = absurd cc

-- at a spot it has the facts of that spot
facts_at : (config : Config) (world : World) (seat made : ℕ) (kept_words : Kept) (command : Command) (fixed : Option Reply) (spot known_spot : Spot) → spot ≡ known_spot → SpotFacts config world seat made kept_words command fixed spot → SpotFacts config world seat made kept_words command fixed known_spot
facts_at config world seat made kept_words command fixed spot known_spot same_spot facts = subst (λ given_spot. SpotFacts config world seat made kept_words command fixed given_spot) same_spot facts

pub served : (config : Config) (world : World) (mutator : Mutating) (command : Command) (fixed : Option Reply) → Mine config world mutator command fixed → IsServed config world command mutator
served config world mutator command fixed own_facts = record {
  roots = own_facts.seated.usable;
  resolved = λ object fact. works_usable config world mutator.seat mutator.made object mutator.kept command fixed mutator.spot fact own_facts.facts;
  unasked = λ calm. let nothing_asked = own_facts.seated.unasked calm in (record { no_request = nothing_asked.0; no_promise = nothing_asked.2 }, nothing_asked.1);
  waits = λ waiting. waits_make world mutator.seat mutator.made mutator.kept.command command fixed config mutator.kept mutator.spot refl waiting own_facts.facts;
  loaded = λ used_address fact. call_usable config world mutator.seat mutator.made mutator.kept command fixed mutator.spot own_facts.facts used_address fact;
  answered = λ fact. has_answer config world mutator.seat mutator.made mutator.kept command fixed mutator.spot fact own_facts.facts;
  stored = λ address fact. (facts_at config world mutator.seat mutator.made mutator.kept command fixed mutator.spot (Waiting (wait.StoreRoot address)) fact own_facts.facts).1;
  knows_phase = own_facts.marking.phase_is;
  knows_set = own_facts.copying.set_is;
  resolves = λ address resolve_spot next_step fact. (facts_at config world mutator.seat mutator.made mutator.kept command fixed mutator.spot (Resolving address resolve_spot next_step) fact own_facts.facts).0;
  covers = λ object value fact. (facts_at config world mutator.seat mutator.made mutator.kept command fixed mutator.spot (OnField object (fields.Store value)) fact own_facts.facts).2;
  taken = λ reply fact. clearing_taken config world mutator.seat mutator.made mutator.kept command fixed reply (facts_at config world mutator.seat mutator.made mutator.kept command fixed mutator.spot (Waiting (wait.ClearAnswer reply)) fact own_facts.facts);
}
