-- What the ghost state says of a seat is what its machine does, by where it stands; and what a mutator may use, and has asked for.
use Rattle.std.specs.Prelude.{ℕ, ◌≡◌, ◌⊎◌, ◌+◌, ◌<◌, ◌≤◌, Bool, true, false, Option, Some, None, length, ⊤}
use Rattle.heap_words.specs.declared.config.Config.{Config}
use Rattle.heap_words.specs.Words.{Phase, Cset, Root, Wait, Answer, Heap}
use Rattle.shen_graph.specs.declared.command.Command.{Command}
use Rattle.shen_graph.specs.declared.command.Command.TheVariants.{New}
use Rattle.shen_graph.specs.declared.command.Reply.{Reply}
use Rattle.shen_graph.specs.declared.command.Reply.TheVariants.{Ref, Full}
use Rattle.alloc_buffers.specs.Facts.{IsSpare, TakeFacts}
use Rattle.alloc_buffers.specs.declared.spot.TakeSpot.{TakeSpot}
use Rattle.alloc_buffers.specs.declared.spot.TakeSpot.TheVariants.{LoadFree}
use Rattle.load_barrier.specs.Alone.{is_copier}
use Rattle.load_barrier.specs.declared.copying.CopySpot.{CopySpot}
use Rattle.load_barrier.specs.declared.copying.CopySpot.TheVariants.{StoreWord}
use Rattle.load_barrier.specs.declared.spot.ResolveSpot.{ResolveSpot}
use Rattle.load_barrier.specs.declared.spot.ResolveSpot.TheVariants as resolve
use Rattle.load_barrier.specs.declared.evac_spot.EvacSpot.{EvacSpot}
use Rattle.load_barrier.specs.declared.evac_spot.EvacSpot.TheVariants as evac
use Rattle.unit_part.specs.declared.spot.UnitSpot.{UnitSpot}
use Rattle.unit_part.specs.declared.spot.UnitSpot.TheVariants.{Scanning, Evacuating, Updating, Ended}
use Rattle.heap_words.specs.declared.access.Unit.TheVariants.{Worked}
use Rattle.cycle_steps.specs.Scanning.{scanning_of, CanScan}
use Rattle.cycle_steps.specs.Resolving.Facts.{IsResolvingRoom, CanResolve}
use Rattle.cycle_steps.specs.Evacuation.Facts.{working_of, CanEvacuate}
use Rattle.cycle_steps.specs.Updating.Facts.{pass_of, CanUpdate}
use Rattle.cycle_steps.specs.Updating.Following.{CanFollow}
use Rattle.mutator.specs.declared.spot.Kept.{Kept}
use Rattle.mutator.specs.declared.spot.Spot.{Spot}
use Rattle.mutator.specs.declared.spot.Spot.TheVariants.{Entering, LoadSet, Loading, OnField, Resolving, Recording, OnNumber, Showing, StoreRoot, Making, AskCycle, Pinning, Waiting}
use Rattle.mutator.specs.declared.spot.Entered.TheVariants.{Waited}
use Rattle.mutator.specs.declared.loads.LoadSpot.{LoadSpot}
use Rattle.mutator.specs.declared.loads.LoadSpot.TheVariants as load
use Rattle.mutator.specs.declared.fields.FieldSpot.{FieldSpot}
use Rattle.mutator.specs.declared.fields.FieldSpot.TheVariants as fields
use Rattle.mutator.specs.Commands.{command_roots, index_of}
use Rattle.mutator.specs.declared.makes.MakeSpot.{MakeSpot}
use Rattle.mutator.specs.declared.makes.MakeSpot.TheVariants as make
use Rattle.mutator.specs.declared.overwrites.Overwritten.{Overwritten}
use Rattle.mutator.specs.declared.overwrites.Overwritten.TheVariants as overwrites
use Rattle.mutator.specs.declared.resolves.Loaded.{Loaded}
use Rattle.mutator.specs.declared.resolves.Loaded.TheVariants.{ForRoot, ToCompare}
use Rattle.mutator.specs.declared.waits.WaitSpot.TheVariants as wait
use Rattle.mutator.specs.Orders.{is_waiting}
use Rattle.mutator.specs.Rows.{Mutating, words_made}
use Rattle.collector_rows.specs.declared.help_spot.HelpSpot.{HelpSpot}
use Rattle.collector_rows.specs.declared.help_spot.HelpSpot.TheVariants as help
use Rattle.collector_rows.specs.declared.control_spot.ControlSpot.{ControlSpot}
use Rattle.collector_rows.specs.declared.control_spot.ControlSpot.TheVariants as control
use Rattle.heap_world.specs.World.{World, Block, Scan, hand, room_of, Body, body_at, body_words, IsCollected, IsCovered, UsableIn, TargetIn}
use Rattle.heap_world.specs.Asking.{HasNoPromise}
use Rattle.step_core.specs.Actor.{Machine, mutating, helping, controlling}
use Rattle.step_core.specs.Own.{IsRoomOf}

-- what a mutator is about to record
abbrev pub recording_of : Spot → Option ℕ
recording_of (Recording spot address next) = Some address
recording_of _ = None

-- whether the counter counts a mutator: where it copies the object that it resolves
abbrev pub copies_at : Spot → Bool
copies_at (Resolving address spot next) = is_copier spot
copies_at _ = false

-- whether the counter counts who works on a unit of evacuation
abbrev pub copies_in : EvacSpot → Bool
copies_in (evac.Resolving address end next spot) = is_copier spot
copies_in _ = false

-- what room it has: free words of its buffer; besides, what it has taken for a copy, or is about to take
abbrev pub IsRoomIn : (seat : ℕ) → EvacSpot → ℕ → Block → Type 0
IsRoomIn seat (evac.Resolving address end next spot) asked_address piece = IsResolvingRoom seat spot asked_address piece
IsRoomIn seat _ asked_address piece = IsSpare seat piece

-- The unit on which a machine works: that of a helper, of the control, of any machine. Where it works on none, it is one that has ended.
abbrev pub help_unit : HelpSpot → UnitSpot
help_unit (help.Working spot) = spot
help_unit _ = Ended Worked

abbrev pub control_unit : ControlSpot → UnitSpot
control_unit (control.Working spot) = spot
control_unit _ = Ended Worked

-- whether the control works on one
abbrev pub is_working : ControlSpot → Bool
is_working (control.Working spot) = true
is_working _ = false

abbrev pub unit_in : Machine → UnitSpot
unit_in (mutating mutator) = Ended Worked
unit_in (helping helper) = help_unit helper.spot
unit_in (controlling own_control) = control_unit own_control.spot

-- the scan or the pass of updating in which who works on a unit is
abbrev pub unit_progress : Config → UnitSpot → Option Scan
unit_progress config (Scanning spot) = scanning_of spot
unit_progress config (Updating cset spot) = pass_of config spot
unit_progress config _ = None

-- whether it copies
abbrev pub unit_copies : UnitSpot → Bool
unit_copies (Evacuating cset spot) = copies_in spot
unit_copies _ = false

-- the region of the collection set on which it works
abbrev pub unit_region : Config → UnitSpot → Option ℕ
unit_region config (Evacuating cset spot) = working_of config spot
unit_region config _ = None

-- what room it has
abbrev pub UnitRoom : (seat : ℕ) → UnitSpot → ℕ → Block → Type 0
UnitRoom seat (Evacuating cset spot) address piece = IsRoomIn seat spot address piece
UnitRoom seat _ address piece = IsSpare seat piece

-- What who works on a unit counts on, by the kind of unit: it is the phase of such units, and its walk has come where its spot says. In
-- evacuating no object behind the walk has its current copy there, unless there was no room.
abbrev pub CanWorkOn : Config → World → (seat : ℕ) → UnitSpot → Type 0
CanWorkOn config world seat (Scanning spot) = CanScan config world seat spot
CanWorkOn config world seat (Evacuating cset spot) = CanEvacuate config world seat cset spot
CanWorkOn config world seat (Updating cset spot) = CanUpdate config world seat cset spot
CanWorkOn config world seat (Ended unit) = ⊤

-- What the machine of a seat is about to record, whether it copies, and what room it has.
abbrev pub records_of : Machine → Option ℕ
records_of (mutating mutator) = recording_of mutator.spot
records_of _ = None

abbrev pub copies_of : Machine → Bool
copies_of (mutating mutator) = copies_at mutator.spot
copies_of machine = unit_copies (unit_in machine)

abbrev pub HasRoom : (seat : ℕ) → Machine → ℕ → Block → Type 0
HasRoom seat (mutating mutator) address piece = IsRoomOf seat mutator.kept mutator.spot address piece
HasRoom seat machine address piece = UnitRoom seat (unit_in machine) address piece

-- where the room begins that a machine has in hand, by each part that has such room: a new object until its root is stored, a copy until it is
-- the current one or is given back
abbrev pub resolve_hand : ResolveSpot → Option ℕ
resolve_hand (resolve.Copying copy end spot) = Some copy
resolve_hand _ = None

abbrev pub evac_hand : EvacSpot → Option ℕ
evac_hand (evac.Resolving address end next spot) = resolve_hand spot
evac_hand _ = None

abbrev pub unit_hand : UnitSpot → Option ℕ
unit_hand (Evacuating cset spot) = evac_hand spot
unit_hand _ = None

abbrev pub make_hand : MakeSpot → Option ℕ
make_hand (make.Taking take) = None
make_hand (make.StoreWord address done) = Some address
make_hand (make.StoreRoot address) = Some address

abbrev pub call_hand : Spot → Option ℕ
call_hand (Making spot) = make_hand spot
call_hand (Resolving address spot next) = resolve_hand spot
call_hand _ = None

abbrev pub hand_of : Machine → Option ℕ
hand_of (mutating mutator) = call_hand mutator.spot
hand_of machine = unit_hand (unit_in machine)

-- A taking of room for so many words, and where it stands.
pub record Taking : Type 0 where
  pub words : ℕ
  pub take : TakeSpot

-- that in which a machine is, by each part of which taking room is one
abbrev pub resolve_taking : ResolveSpot → Option Taking
resolve_taking (resolve.Taking words spot) = Some (record { words = words; take = spot })
resolve_taking _ = None

abbrev pub evac_taking : EvacSpot → Option Taking
evac_taking (evac.Resolving address end next spot) = resolve_taking spot
evac_taking _ = None

abbrev pub unit_taking : UnitSpot → Option Taking
unit_taking (Evacuating cset spot) = evac_taking spot
unit_taking _ = None

abbrev pub make_taking : ℕ → MakeSpot → Option Taking
make_taking words (make.Taking take) = Some (record { words = words; take = take })
make_taking words _ = None

abbrev pub call_taking : Kept → Spot → Option Taking
call_taking kept (Making spot) = make_taking (words_made kept.command) spot
call_taking kept (Resolving address spot next) = resolve_taking spot
call_taking kept _ = None

abbrev pub taking_of : Machine → Option Taking
taking_of (mutating mutator) = call_taking mutator.kept mutator.spot
taking_of machine = unit_taking (unit_in machine)

-- for how many words a taking is about to look for a free region, and so a machine
abbrev pub take_looks : ℕ → TakeSpot → Option ℕ
take_looks words (LoadFree buffer shared) = Some words
take_looks words _ = None

abbrev pub looks_in : Option Taking → Option ℕ
looks_in None = None
looks_in (Some taking) = take_looks taking.words taking.take

abbrev pub looks_for : Machine → Option ℕ
looks_for machine = looks_in (taking_of machine)

-- A word of an object that a machine has loaded and is about to store into its copy: the object's address, the number of the word in the
-- object, counted from 0, and the word.
pub record Carried : Type 0 where
  pub object : ℕ
  pub index : ℕ
  pub word : ℕ

-- what a machine carries so, by each part of which copying is one
abbrev pub copy_carries : (object : ℕ) → CopySpot → Option Carried
copy_carries object (StoreWord words index found) = Some (record { object = object; index = index; word = found })
copy_carries object _ = None

abbrev pub resolve_carries : (object : ℕ) → ResolveSpot → Option Carried
resolve_carries object (resolve.Copying copy end spot) = copy_carries object spot
resolve_carries object _ = None

abbrev pub evac_carries : EvacSpot → Option Carried
evac_carries (evac.Resolving address end next spot) = resolve_carries address spot
evac_carries _ = None

abbrev pub unit_carries : UnitSpot → Option Carried
unit_carries (Evacuating cset spot) = evac_carries spot
unit_carries _ = None

abbrev pub call_carries : Spot → Option Carried
call_carries (Resolving address spot next) = resolve_carries address spot
call_carries _ = None

abbrev pub carries_of : Machine → Option Carried
carries_of (mutating mutator) = call_carries mutator.spot
carries_of machine = unit_carries (unit_in machine)

-- the word that is carried stands in the object still, behind the header of a copy in the collection set, current or old
pub record StandsThere (config : Config) (world : World) (x : Carried) : Type 0 where
  pub body : Body
  pub there : body_at (world.block x.object) ≡ Some body
  pub inside : IsCollected config (world.memory Cset) x.object
  pub behind : 1 ≤ x.index
  pub within : x.index < body_words body
  pub same : x.word ≡ world.memory (Heap (x.object + x.index))

-- The ghost state has of the seat what its machine does, and who works on a unit can go on in it. The seat's room is free words of its buffer, what the machine has in hand, and what it
-- has carved until that is the seat's buffer; what the machine has in hand is the seat's. Who takes room has what its taking counts on; and a
-- word that is on its way from an object into a copy is the object's word.
pub record IsInSeat (config : Config) (world : World) (seat : ℕ) (machine : Machine) : Type 0 where
  pub records : world.ghost.recording seat ≡ records_of machine
  pub scans : world.ghost.scanning seat ≡ unit_progress config (unit_in machine)
  pub copies : world.ghost.copying seat ≡ copies_of machine
  pub works : world.ghost.working seat ≡ unit_region config (unit_in machine)
  pub goes_on : CanWorkOn config world seat (unit_in machine)
  pub rooms : (address : ℕ) (piece : Block) → world.block address ≡ Some piece → room_of piece ≡ Some seat → HasRoom seat machine address piece
  pub holds : (address : ℕ) → hand_of machine ≡ Some address → (words : ℕ) × (world.block address ≡ Some (hand seat words))
  pub takes : (taking : Taking) → taking_of machine ≡ Some taking → TakeFacts config world seat taking.words taking.take
  pub carries : (x : Carried) → carries_of machine ≡ Some x → StandsThere config world x

-- the object that a call works on, or is about to show, by an address that was resolved if that was needed
abbrev pub before_record : Overwritten → Option ℕ
before_record (overwrites.Set object value) = Some object
before_record _ = None

abbrev pub before_resolve : Loaded → Option ℕ
before_resolve ForRoot = None
before_resolve (ToCompare object expect value) = Some object

abbrev pub works_on : Spot → Option ℕ
works_on (OnField object spot) = Some object
works_on (OnNumber object refs spot) = Some object
works_on (Showing value spot) = Some value
works_on (Recording spot address next) = before_record next
works_on (Resolving address spot next) = before_resolve next
works_on _ = None

-- the roots that a call has loaded, and still needs: while it loads them, while it works on a field, and once it has resolved or recorded
-- what it found there
abbrev pub IsOfRoots : Command → LoadSpot → ℕ → Type 0
IsOfRoots command load.First address = ⊥
IsOfRoots command (load.Second first) address = address ≡ first
IsOfRoots command (load.Third first second) address = (address ≡ first) ⊎ (address ≡ second)
IsOfRoots command (load.Shape object second third) address = (address ≡ object) ⊎ (((1 < length (command_roots command)) × (address ≡ second)) ⊎ ((2 < length (command_roots command)) × (address ≡ third)))

abbrev pub IsOfField : FieldSpot → ℕ → Type 0
IsOfField fields.Load address = ⊥
IsOfField (fields.LoadExpected expect value) address = (address ≡ expect) ⊎ (address ≡ value)
IsOfField (fields.LoadOld value) address = address ≡ value
IsOfField (fields.Store value) address = address ≡ value
IsOfField (fields.Swap value) address = address ≡ value
IsOfField (fields.Exchange found expect value) address = (address ≡ expect) ⊎ (address ≡ value)

abbrev pub IsOfLoaded : Loaded → ℕ → Type 0
IsOfLoaded ForRoot address = ⊥
IsOfLoaded (ToCompare object expect value) address = (address ≡ expect) ⊎ (address ≡ value)

abbrev pub IsOfOverwritten : Overwritten → ℕ → Type 0
IsOfOverwritten (overwrites.Set object value) address = address ≡ value
IsOfOverwritten _ address = ⊥

abbrev pub IsOfCall : Command → Spot → ℕ → Type 0
IsOfCall command (Loading spot) asked_address = IsOfRoots command spot asked_address
IsOfCall command (OnField object spot) asked_address = IsOfField spot asked_address
IsOfCall command (Resolving address spot next) asked_address = IsOfLoaded next asked_address
IsOfCall command (Recording spot address next) asked_address = IsOfOverwritten next asked_address
IsOfCall command (StoreRoot value) asked_address = asked_address ≡ value
IsOfCall command (Pinning value spot) asked_address = asked_address ≡ value
IsOfCall command _ asked_address = ⊥

-- a mutator has taken what it was answered, and this is its reply: its answer is the address of the object of that name, which may be used;
-- or it says that the heap is full
abbrev pub HasTaken : Config → World → ℕ → Reply → Type 0
HasTaken config world seat (Ref name) = (refs : ℕ) × (nums : ℕ) × TargetIn config world (world.memory (Answer seat)) refs nums name
HasTaken config world seat Full = world.memory (Answer seat) ≡ 1
HasTaken config world seat _ = ⊥

-- whether a mutator has found that it is answered, and not taken that yet
abbrev pub is_answered : Spot → Bool
is_answered (Entering spot Waited) = true
is_answered (Waiting wait.LoadAnswer) = true
is_answered (Waiting (wait.StoreRoot address)) = true
is_answered _ = false

-- the words of a mutator say that it asks for nothing, and nothing is promised to it
pub record AsksNothing (world : World) (seat : ℕ) : Type 0 where
  pub no_request : world.memory (Wait seat) ≡ 0
  pub no_promise : HasNoPromise world.block seat

-- a command makes an object
pub record MakesObject (command : Command) : Type 0 where
  pub dst : ℕ
  pub refs : ℕ
  pub nums : ℕ
  pub is : command ≡ New dst refs nums

-- whether what a mutator asked for is done with, and it is about to clear its answer
abbrev pub is_clearing : Spot → Bool
is_clearing (Waiting (wait.ClearAnswer reply)) = true
is_clearing _ = false

-- The machine of a seat resolves an address: objects are evacuated, and it can go on in that, with the words that it has copied so far; or
-- references to them are updated.
abbrev pub IsResolving : Config → World → (seat address : ℕ) → ResolveSpot → Type 0
IsResolving config world seat address spot = CanResolve config world seat address spot ⊎ CanFollow config world seat address spot

-- whether the phase that a call has loaded is the phase: from there on until it waits or leaves
abbrev pub has_phase : Spot → Bool
has_phase LoadSet = true
has_phase (Loading spot) = true
has_phase (OnField object spot) = true
has_phase (Resolving address spot next) = true
has_phase (Recording spot address next) = true
has_phase (OnNumber object refs spot) = true
has_phase (Showing value spot) = true
has_phase (StoreRoot value) = true
has_phase (Making spot) = true
has_phase AskCycle = true
has_phase (Pinning value spot) = true
has_phase _ = false

-- whether the collection set that a call has loaded is the set: from there on until it waits or leaves
abbrev pub has_set : Spot → Bool
has_set LoadSet = false
has_set spot = has_phase spot

-- What a mutator may use, in each phase: its roots, and the object on which its call works. Who waits makes an object, up to the store that
-- clears its answer, and a request and an answer are of who waits; behind the store into the root the answer names what was taken.
-- The phase and the collection set that a call has loaded are those that stand; and where it is about to overwrite a field by a store, what the
-- snapshot has there needs no marking, or is noted. Who resolves an address can go on in that.
pub record IsServed (config : Config) (world : World) (command : Command) (mutator : Mutating) : Type 0 where
  pub roots : (index : ℕ) → index < 16 → UsableIn config world (world.memory (Root mutator.seat index))
  pub resolved : (object : ℕ) → works_on mutator.spot ≡ Some object → UsableIn config world object
  pub loaded : (a : ℕ) → IsOfCall mutator.kept.command mutator.spot a → UsableIn config world a
  pub unasked : is_waiting mutator.spot ≡ false → AsksNothing world mutator.seat × (world.memory (Answer mutator.seat) ≡ 0)
  pub waits : is_waiting mutator.spot ≡ true → MakesObject command
  pub answered : is_answered mutator.spot ≡ true → 0 < world.memory (Answer mutator.seat)
  pub stored : (address : ℕ) → mutator.spot ≡ Waiting (wait.StoreRoot address) → world.memory (Answer mutator.seat) ≡ address
  pub knows_phase : has_phase mutator.spot ≡ true → mutator.kept.phase ≡ world.memory Phase
  pub knows_set : has_set mutator.spot ≡ true → mutator.kept.cset ≡ world.memory Cset
  pub resolves : (address : ℕ) (spot : ResolveSpot) (next : Loaded) → mutator.spot ≡ Resolving address spot next → IsResolving config world mutator.seat address spot
  pub covers : (object value : ℕ) → mutator.spot ≡ OnField object (fields.Store value) → IsCovered config world object (index_of mutator.kept.command)
  pub taken : (reply : Reply) → mutator.spot ≡ Waiting (wait.ClearAnswer reply) → AsksNothing world mutator.seat × HasTaken config world mutator.seat reply
