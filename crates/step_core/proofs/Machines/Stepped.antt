-- What one machine knows of a world, and what each step of a place owes.
use Rattle.std.specs.Int.{bit_at}
use Rattle.std.specs.Prelude.{ℕ, ◌≡◌, ◌≢◌, ◌⊎◌, ◌+◌, ◌<◌, ◌≤◌, Bool, true, false, length, Option, Some, None}
use Rattle.heap_words.specs.declared.config.Config.{Config}
use Rattle.heap_words.specs.Encoding.{fresh_word}
use Rattle.heap_words.specs.Words.{Heap, Root, Wait, Answer, Ask, Phase, Cset, Evac}
use Rattle.heap_words.specs.Touch.{touched}
use Rattle.shen_graph.specs.declared.name.Name.{Name}
use Rattle.shen_graph.specs.declared.command.Command.{Command}
use Rattle.shen_graph.specs.declared.command.Command.TheVariants.{New, Get, Set, Cas, Xchg, Rd, Wr, Copy, Drop, Gc, Pin, Unpin}
use Rattle.shen_graph.specs.declared.command.Reply.{Reply}
use Rattle.shen_graph.specs.declared.command.Reply.TheVariants as reply
use Rattle.shen_graph.specs.Graph.{Graph}
use Rattle.shen_graph.specs.Step.{IsLegal, IsPin, slot_of}
use Rattle.shen_graph.specs.History.{after_entry}
use Rattle.alloc_buffers.specs.Facts.{TakeFacts}
use Rattle.shen_graph.specs.declared.order.Order.{Order}
use Rattle.shen_graph.specs.declared.order.Order.TheVariants.{Nothing}
use Rattle.shen_graph.specs.Valid.{most_objects}
use Rattle.mutator.specs.declared.spot.Kept.{Kept}
use Rattle.mutator.specs.declared.spot.Spot.{Spot}
use Rattle.mutator.specs.declared.spot.Spot.TheVariants.{Rest, Ended, Entering, LoadPhase, LoadSet, Loading, OnField, Resolving, Recording, OnNumber, Showing, StoreRoot, Making, AskCycle, Pinning, Waiting, Leave, Gone}
use Rattle.mutator.specs.declared.spot.Entered.{Entered}
use Rattle.mutator.specs.declared.spot.Entered.TheVariants.{Call, Waited}
use Rattle.mutator.specs.declared.loads.LoadSpot.{LoadSpot}
use Rattle.mutator.specs.declared.loads.LoadSpot.TheVariants as load
use Rattle.mutator.specs.declared.fields.FieldSpot.{FieldSpot}
use Rattle.mutator.specs.declared.fields.FieldSpot.TheVariants as fields
use Rattle.mutator.specs.declared.overwrites.Overwritten.{Overwritten}
use Rattle.mutator.specs.declared.overwrites.Overwritten.TheVariants as overwrites
use Rattle.mutator.specs.declared.resolves.Loaded.{Loaded}
use Rattle.mutator.specs.declared.resolves.Loaded.TheVariants.{ForRoot, ToCompare}
use Rattle.mutator.specs.declared.numbers.NumberSpot.{NumberSpot}
use Rattle.mutator.specs.declared.numbers.NumberSpot.TheVariants as numbers
use Rattle.mutator.specs.declared.pins.PinSpot.{PinSpot}
use Rattle.mutator.specs.declared.pins.PinSpot.TheVariants as pins
use Rattle.mutator.specs.declared.shows.ShowSpot.{ShowSpot}
use Rattle.mutator.specs.declared.shows.ShowSpot.TheVariants as show
use Rattle.mutator.specs.declared.makes.MakeSpot.{MakeSpot}
use Rattle.mutator.specs.declared.makes.MakeSpot.TheVariants as make
use Rattle.mutator.specs.declared.waits.WaitSpot.{WaitSpot}
use Rattle.mutator.specs.declared.waits.WaitSpot.TheVariants as wait
use Rattle.mutator.specs.Orders.{is_waiting, takes_at, is_next}
use Rattle.mutator.specs.Commands.{command_roots, command_root, dst_of, index_of, stored_number, refs_of, nums_of, is_on_object}
use Rattle.mutator.specs.Rows.{Mutating, words_made, touch_of, next_of, given_at}
use Rattle.mutator.specs.Told.{told_of}
use Rattle.mutator.specs.Fit.{IsReady}
use Rattle.step_core.specs.Actor.{entry_of, command_by}
use Rattle.step_core.specs.Own.{root_now, IsRoomOf}
pub use Rattle.step_core.specs.Seats.{recording_of, copies_at, has_phase, has_set, IsResolving, HasTaken, MakesObject}
use Rattle.cycle_steps.specs.Recording.{CanRecord}
use Rattle.heap_world.specs.World.{World, Block, Plot, Scan, hand, room_of, name_at, Points, TargetIn, IsUsable, UsableIn, IsCovered, Shared}
use Rattle.heap_world.specs.Asking as asking
use Rattle.heap_world.specs.Asking.{Asking, HasNoPromise, IsAsked}
use Rattle.heap_world.specs.Rely.{Rely}

-- a word is that of a root of the mutator: it stands for the root's reference, and may be used
pub record IsRootWord (config : Config) (world : World) (seat index word : ℕ) : Type 0 where
  pub stands : Points world.block word (world.graph.root (seat + 1) index)
  pub usable : UsableIn config world word

-- A word is that of a root which the command loads. Of a root that the command does not load nothing is known.
abbrev pub HasRoot : Config → World → ℕ → Command → ℕ → ℕ → Type 0
HasRoot config world seat command index word = index < length (command_roots command) → IsRootWord config world seat (command_root command index) word

-- the call has begun and nothing is settled
pub record IsBegun (made : ℕ) (command : Command) (fixed : Option Reply) (other_command : Command) : Type 0 where
  pub unsettled : fixed ≡ None
  pub is : command ≡ other_command
  pub next : is_next made other_command ≡ true

-- the object that a root of the mutator names
pub record HasObject (config : Config) (world : World) (seat root object : ℕ) : Type 0 where
  pub name : Name
  pub refs : ℕ
  pub nums : ℕ
  pub root_is : world.graph.root (seat + 1) root ≡ Some name
  pub target : TargetIn config world object refs nums name

-- the first root of a command is loaded, and if the command works on an object, it is not null
pub record HasFirst (config : Config) (world : World) (seat : ℕ) (command : Command) (first : ℕ) : Type 0 where
  pub some : 0 < length (command_roots command)
  pub first_is : HasRoot config world seat command 0 first
  pub not_null : is_on_object command ≡ true → first ≢ 0

-- all roots are loaded
pub record HasRoots (config : Config) (world : World) (seat : ℕ) (command : Command) (first second third : ℕ) : Type 0 where
  pub first_is : HasFirst config world seat command first
  pub second_is : HasRoot config world seat command 1 second
  pub third_is : HasRoot config world seat command 2 third

-- The command works on a reference field of an object, or on a number of it.
pub record IsGet (config : Config) (world : World) (seat : ℕ) (command : Command) (object field dst : ℕ) : Type 0 where
  pub src : ℕ
  pub is : command ≡ Get dst src field
  pub small : dst < 16
  pub of : HasObject config world seat src object
  pub below : field < of.refs

pub record IsSet (config : Config) (world : World) (seat : ℕ) (command : Command) (object field value : ℕ) : Type 0 where
  pub obj : ℕ
  pub val : ℕ
  pub is : command ≡ Set obj field val
  pub of : HasObject config world seat obj object
  pub below : field < of.refs
  pub value_is : IsRootWord config world seat val value

pub record IsCas (config : Config) (world : World) (seat : ℕ) (command : Command) (object field expect value : ℕ) : Type 0 where
  pub obj : ℕ
  pub expected : ℕ
  pub val : ℕ
  pub is : command ≡ Cas obj field expected val
  pub of : HasObject config world seat obj object
  pub below : field < of.refs
  pub expect_is : IsRootWord config world seat expected expect
  pub value_is : IsRootWord config world seat val value

pub record IsXchg (config : Config) (world : World) (seat : ℕ) (command : Command) (object field value dst : ℕ) : Type 0 where
  pub obj : ℕ
  pub val : ℕ
  pub is : command ≡ Xchg dst obj field val
  pub small : dst < 16
  pub of : HasObject config world seat obj object
  pub below : field < of.refs
  pub value_is : IsRootWord config world seat val value

pub record IsRd (config : Config) (world : World) (seat : ℕ) (command : Command) (object refs index : ℕ) : Type 0 where
  pub obj : ℕ
  pub is : command ≡ Rd obj index
  pub of : HasObject config world seat obj object
  pub refs_are : refs ≡ of.refs
  pub below : index < of.nums

pub record IsWr (config : Config) (world : World) (seat : ℕ) (command : Command) (object refs index value : ℕ) : Type 0 where
  pub obj : ℕ
  pub is : command ≡ Wr obj index value
  pub of : HasObject config world seat obj object
  pub refs_are : refs ≡ of.refs
  pub below : index < of.nums

-- the reply shows the object that was found, of which a copy is in hand
pub record IsFound (world : World) (fixed : Option Reply) (value dst : ℕ) : Type 0 where
  pub name : Name
  pub settled : fixed ≡ Some (reply.Ref name)
  pub is : name_at (world.block value) ≡ Some name
  pub small : dst < 16

-- two words name the same: both are null, or what stands at them is of one name
abbrev pub NameTheSame : Plot → ℕ → ℕ → Type 0
NameTheSame block address other_address = ((address ≡ 0) × (other_address ≡ 0)) ⊎ ((name : Name) × (name_at (block address) ≡ Some name) × (name_at (block other_address) ≡ Some name))

-- a word names an object, and another word is null or names another
pub record NameOthers (block : Plot) (address other_address : ℕ) : Type 0 where
  pub name : Name
  pub is : name_at (block address) ≡ Some name
  pub other : (other_address ≡ 0) ⊎ ((more : Name) × (name_at (block other_address) ≡ Some more) × (name ≢ more))

-- what was found in the field that a Cas is about to exchange is compared with what is to be there: it is settled that they differ, or
-- they name the same and nothing is settled
abbrev pub IsCompared : Plot → Option Reply → (found expect : ℕ) → Type 0
IsCompared block fixed found expect = ((fixed ≡ Some reply.No) × NameOthers block found expect) ⊎ ((fixed ≡ None) × NameTheSame block found expect)

pub record IsComparing (config : Config) (world : World) (seat : ℕ) (other_command command : Command) (fixed : Option Reply) (object found expect value : ℕ) : Type 0 where
  pub some : found ≢ 0
  pub is_cas : IsCas config world seat command object (index_of other_command) expect value
  pub settled : IsCompared world.block fixed found expect

-- what holds while a reference that was found in a field is resolved
abbrev pub LoadedFacts : Config → World → ℕ → Command → Command → Option Reply → (found : ℕ) → Loaded → Type 0
LoadedFacts config world seat begun_command command fixed found ForRoot = IsFound world fixed found (dst_of begun_command)
LoadedFacts config world seat begun_command command fixed found (ToCompare object expect value) = IsComparing config world seat begun_command command fixed object found expect value

-- the command makes one root another, or null
pub record IsCopy (config : Config) (world : World) (seat : ℕ) (command : Command) (dst value : ℕ) : Type 0 where
  pub src : ℕ
  pub is : command ≡ Copy dst src
  pub value_is : IsRootWord config world seat src value

pub record IsDrop (command : Command) (dst value : ℕ) : Type 0 where
  pub is : command ≡ Drop dst
  pub value_is : value ≡ 0

-- the command makes an object, and nothing is settled
pub record IsMaking (made : ℕ) (command : Command) (fixed : Option Reply) (dst refs nums : ℕ) : Type 0 where
  pub unsettled : fixed ≡ None
  pub is : command ≡ New dst refs nums
  pub small : dst < 16
  pub few_refs : refs ≤ 16
  pub few_nums : nums ≤ 16
  pub few : made < most_objects

-- room in hand, in which so many words of the new object stand
pub record IsFilling (world : World) (seat made refs nums address done : ℕ) : Type 0 where
  pub room : world.block address ≡ Some (hand seat (3 + refs + nums))
  pub within : done ≤ 3 + refs + nums
  pub stored : (k : ℕ) → k < done → world.memory (Heap (address + k)) ≡ fresh_word seat made refs nums k

-- the command makes an object for which there was no room, and the history has no reply, or that the heap is full
pub record IsRefused (command : Command) (fixed : Option Reply) : Type 0 where
  pub dst : ℕ
  pub refs : ℕ
  pub nums : ℕ
  pub is : command ≡ New dst refs nums
  pub settled : (fixed ≡ None) ⊎ (fixed ≡ Some reply.Full)

-- and the history has that the heap is full
pub record IsFull (command : Command) (fixed : Option Reply) : Type 0 where
  pub dst : ℕ
  pub refs : ℕ
  pub nums : ℕ
  pub is : command ≡ New dst refs nums
  pub settled : fixed ≡ Some reply.Full

-- the command makes an object, and the mutator has asked so for it
abbrev pub IsAsking : World → ℕ → ℕ → Command → Command → Option Reply → Asking → Type 0
IsAsking world seat made begun_command command fixed asked_for = IsMaking made command fixed (dst_of begun_command) (refs_of begun_command) (nums_of begun_command) × IsAsked world.memory world.block world.graph.count seat asked_for

-- it asks for its object, and the word of what is asked has the bit that a mutator waits
abbrev pub IsHeard : World → ℕ → ℕ → Command → Command → Option Reply → Type 0
IsHeard world seat made begun_command command fixed = IsAsking world seat made begun_command command fixed (asking.asks (refs_of begun_command) (nums_of begun_command)) × (bit_at (world.memory Ask) 1 ≡ 1)

-- Where a mutator polls, it asks for its object, was given it, or was refused it. The words that count may say so before the
-- word of the table does that it polls: then the history does not have yet that the heap is full.
abbrev pub IsPolling : World → ℕ → ℕ → Command → Command → Option Reply → Type 0
IsPolling world seat made begun_command command fixed =
    IsHeard world seat made begun_command command fixed
    ⊎ (IsAsking world seat made begun_command command fixed (asking.given (refs_of begun_command) (nums_of begun_command)) ⊎ (IsRefused command fixed × IsAsked world.memory world.block world.graph.count seat asking.refused))

-- and once it has found that it is answered, it was given its object, or the heap is full
abbrev pub IsAnswered : World → ℕ → ℕ → Command → Command → Option Reply → Type 0
IsAnswered world seat made begun_command command fixed =
    IsAsking world seat made begun_command command fixed (asking.given (refs_of begun_command) (nums_of begun_command)) ⊎ (IsFull command fixed × IsAsked world.memory world.block world.graph.count seat asking.refused)

-- What holds in each part of a call of this command, of which the mutator keeps k. `fixed` is the reply that the history has
-- for the call, once it is settled.
abbrev pub LoadFacts : Config → World → ℕ → ℕ → Command → Command → Option Reply → LoadSpot → Type 0
LoadFacts config world seat made begun_command command fixed load.First = IsBegun made command fixed begun_command × (0 < length (command_roots begun_command))
LoadFacts config world seat made begun_command command fixed (load.Second first) = IsBegun made command fixed begun_command × (1 < length (command_roots begun_command)) × HasFirst config world seat begun_command first
LoadFacts config world seat made begun_command command fixed (load.Third first second) = IsBegun made command fixed begun_command × (2 < length (command_roots begun_command)) × HasFirst config world seat begun_command first × HasRoot config world seat begun_command 1 second
LoadFacts config world seat made begun_command command fixed (load.Shape object second third) =
    IsBegun made command fixed begun_command × (is_on_object begun_command ≡ true) × HasRoots config world seat begun_command object second third × (IsPin begun_command → ⊥)

abbrev pub FieldFacts : Config → World → ℕ → Command → Command → Option Reply → ℕ → FieldSpot → Type 0
FieldFacts config world seat begun_command command fixed object fields.Load = (fixed ≡ None) × IsGet config world seat command object (index_of begun_command) (dst_of begun_command)
FieldFacts config world seat begun_command command fixed object (fields.LoadExpected expect value) = (fixed ≡ None) × IsCas config world seat command object (index_of begun_command) expect value
FieldFacts config world seat begun_command command fixed object (fields.LoadOld value) = (fixed ≡ None) × IsSet config world seat command object (index_of begun_command) value
FieldFacts config world seat begun_command command fixed object (fields.Store value) = (fixed ≡ None) × IsSet config world seat command object (index_of begun_command) value × IsCovered config world object (index_of begun_command)
FieldFacts config world seat begun_command command fixed object (fields.Swap value) = (fixed ≡ None) × IsXchg config world seat command object (index_of begun_command) value (dst_of begun_command)
FieldFacts config world seat begun_command command fixed object (fields.Exchange found expect value) = (fixed ≡ None) × IsCas config world seat command object (index_of begun_command) expect value × NameTheSame world.block found expect

-- what follows once an overwritten reference is recorded: a Set covers what its field had in the snapshot, and of an Xchg and a Cas the
-- reply is settled
abbrev pub RecordFacts : Config → World → ℕ → Command → Command → Option Reply → ℕ → Overwritten → Type 0
RecordFacts config world seat begun_command command fixed address (overwrites.Set object value) = FieldFacts config world seat begun_command command fixed object (fields.Store value)
RecordFacts config world seat begun_command command fixed address overwrites.Xchg = IsFound world fixed address (dst_of begun_command)
RecordFacts config world seat begun_command command fixed address overwrites.Cas = fixed ≡ Some reply.Yes

abbrev pub NumberFacts : Config → World → ℕ → Command → Command → Option Reply → ℕ → ℕ → NumberSpot → Type 0
NumberFacts config world seat begun_command command fixed object refs numbers.Load = (fixed ≡ None) × IsRd config world seat command object refs (index_of begun_command)
NumberFacts config world seat begun_command command fixed object refs numbers.Store = (fixed ≡ None) × IsWr config world seat command object refs (index_of begun_command) (stored_number begun_command)

-- what a command counts on that is about a pin slot: it puts the object of a root into the slot, or it empties the slot
abbrev pub IsOfSlot : Config → World → ℕ → Command → ℕ → Type 0
IsOfSlot config world seat (Pin slot obj) value = (slot < 4) × HasObject config world seat obj value
IsOfSlot config world seat (Unpin slot) value = (slot < 4) × (value ≡ 0)
IsOfSlot config world seat _ value = ⊥

-- the slot is empty that is to be, or holds something
abbrev pub SlotFits : World → ℕ → Command → Type 0
SlotFits world seat (Pin slot obj) = world.graph.pin (seat + 1) slot ≡ None
SlotFits world seat command = world.graph.pin (seat + 1) (slot_of command) ≡ None → ⊥

abbrev pub PinFacts : Config → World → ℕ → Command → Command → Option Reply → ℕ → PinSpot → Type 0
PinFacts config world seat begun_command command fixed value pins.Look = (fixed ≡ None) × (command ≡ begun_command) × IsOfSlot config world seat begun_command value
PinFacts config world seat begun_command command fixed value pins.Store = (fixed ≡ None) × (command ≡ begun_command) × IsOfSlot config world seat begun_command value × SlotFits world seat begun_command

abbrev pub ShowFacts : Config → World → Command → Option Reply → ℕ → ShowSpot → Type 0
ShowFacts config world command fixed value show.LoadName = IsFound world fixed value (dst_of command) × UsableIn config world value
ShowFacts config world command fixed value (show.StoreRoot reply) = (fixed ≡ Some reply) × (dst_of command < 16) × UsableIn config world value

abbrev pub MakeFacts : Config → World → ℕ → ℕ → Command → Command → Option Reply → MakeSpot → Type 0
MakeFacts config world seat made begun_command command fixed (make.Taking taking) = IsMaking made command fixed (dst_of begun_command) (refs_of begun_command) (nums_of begun_command) × TakeFacts config world seat (words_made begun_command) taking
MakeFacts config world seat made begun_command command fixed (make.StoreWord address stored_count) =
    IsMaking made command fixed (dst_of begun_command) (refs_of begun_command) (nums_of begun_command) × IsFilling world seat made (refs_of begun_command) (nums_of begun_command) address stored_count × (stored_count < words_made begun_command)
MakeFacts config world seat made begun_command command fixed (make.StoreRoot address) =
    IsMaking made command fixed (dst_of begun_command) (refs_of begun_command) (nums_of begun_command) × IsFilling world seat made (refs_of begun_command) (nums_of begun_command) address (words_made begun_command)

abbrev pub EnterFacts : World → ℕ → ℕ → Command → Command → Option Reply → Entered → Type 0
EnterFacts world seat made begun_command command fixed Call = IsBegun made command fixed begun_command
EnterFacts world seat made begun_command command fixed Waited = IsAnswered world seat made begun_command command fixed

abbrev pub WaitFacts : Config → World → ℕ → ℕ → Command → Command → Option Reply → WaitSpot → Type 0
WaitFacts config world seat made begun_command command fixed wait.StoreRequest = IsAsking world seat made begun_command command fixed asking.nothing
WaitFacts config world seat made begun_command command fixed wait.AskRoom = IsAsking world seat made begun_command command fixed (asking.asks (refs_of begun_command) (nums_of begun_command))
WaitFacts config world seat made begun_command command fixed wait.StepOut = IsHeard world seat made begun_command command fixed
WaitFacts config world seat made begun_command command fixed wait.Poll = IsPolling world seat made begun_command command fixed
WaitFacts config world seat made begun_command command fixed wait.LoadAnswer = IsAnswered world seat made begun_command command fixed
WaitFacts config world seat made begun_command command fixed (wait.StoreRoot address) =
    IsAsking world seat made begun_command command fixed (asking.given (refs_of begun_command) (nums_of begun_command)) × (world.memory (Answer seat) ≡ address)
WaitFacts config world seat made begun_command command fixed (wait.ClearAnswer reply) =
    (fixed ≡ Some reply) × (world.memory (Wait seat) ≡ 0) × HasNoPromise world.block seat × HasTaken config world seat reply × MakesObject command

-- and at each spot
abbrev pub SpotFacts : Config → World → ℕ → ℕ → Kept → Command → Option Reply → Spot → Type 0
SpotFacts config world seat made kept command fixed Rest = fixed ≡ None
SpotFacts config world seat made kept command fixed (Ended reply) = fixed ≡ None
SpotFacts config world seat made kept command fixed (Entering spot next) = EnterFacts world seat made kept.command command fixed next
SpotFacts config world seat made kept command fixed LoadPhase = IsBegun made command fixed kept.command
SpotFacts config world seat made kept command fixed LoadSet = IsBegun made command fixed kept.command
SpotFacts config world seat made kept command fixed (Loading spot) = LoadFacts config world seat made kept.command command fixed spot
SpotFacts config world seat made kept command fixed (OnField object spot) = FieldFacts config world seat kept.command command fixed object spot
SpotFacts config world seat made kept command fixed (Resolving address spot next) = IsResolving config world seat address spot × LoadedFacts config world seat kept.command command fixed address next
SpotFacts config world seat made kept command fixed (Recording spot address next) = CanRecord config world seat address spot × RecordFacts config world seat kept.command command fixed address next
SpotFacts config world seat made kept command fixed (OnNumber object refs spot) = NumberFacts config world seat kept.command command fixed object refs spot
SpotFacts config world seat made kept command fixed (Showing value spot) = ShowFacts config world kept.command fixed value spot
SpotFacts config world seat made kept command fixed (StoreRoot value) =
    (fixed ≡ None) × (dst_of kept.command < 16) × (IsCopy config world seat command (dst_of kept.command) value ⊎ IsDrop command (dst_of kept.command) value)
SpotFacts config world seat made kept command fixed (Making spot) = MakeFacts config world seat made kept.command command fixed spot
SpotFacts config world seat made kept command fixed AskCycle = (fixed ≡ None) × (command ≡ Gc)
SpotFacts config world seat made kept command fixed (Pinning value spot) = PinFacts config world seat kept.command command fixed value spot
SpotFacts config world seat made kept command fixed (Waiting spot) = WaitFacts config world seat made kept.command command fixed spot
SpotFacts config world seat made kept command fixed (Leave reply) = fixed ≡ Some reply
SpotFacts config world seat made kept command fixed Gone = fixed ≡ None

-- The facts of a seat that all places share, over the words and numbers that they read: it is a mutator's, it has made as many
-- objects as the graph says, its root words may be used, and while it does not wait for an object it has asked for none, and
-- none is promised to it.
pub record IsSeated (config : Config) (seat count made : ℕ) (waiting : Bool) (wait answer cset evac : ℕ) (root : ℕ → ℕ) (block : Plot) : Type 0 where
  pub below : seat < config.mutators
  pub counted : count ≡ made
  pub usable : (index : ℕ) → index < 16 → IsUsable config cset evac block (root index)
  pub unasked : waiting ≡ false → (wait ≡ 0) × (answer ≡ 0) × HasNoPromise block seat

-- those of a seat in a world, by the objects that its mutator has made and whether it waits
abbrev pub IsSeatedIn : Config → World → ℕ → ℕ → Bool → Type 0
IsSeatedIn config world seat made waiting =
    IsSeated config seat (world.graph.count (seat + 1)) made waiting (world.memory (Wait seat)) (world.memory (Answer seat)) (world.memory Cset) (world.memory Evac) (λ index. world.memory (Root seat index)) world.block

-- and those of a mutator
abbrev pub Seated : Config → World → Mutating → Type 0
Seated config world mutator = IsSeatedIn config world mutator.seat mutator.made (is_waiting mutator.spot)

-- Of marking a mutator counts on this: what it is about to record is what its spot says, it scans nothing, and where its call has
-- loaded the phase, that is the phase.
pub record HasMarking (phase : ℕ) (recording : Option ℕ) (scanning : Option Scan) (in_hand : Option ℕ) (loaded : ℕ) (knows : Bool) : Type 0 where
  pub records : recording ≡ in_hand
  pub scans : scanning ≡ None
  pub phase_is : knows ≡ true → loaded ≡ phase

-- that of a seat in a world, by what its spot has in hand, the phase that its call keeps, and whether it has loaded it
abbrev pub HasMarkingBy : World → ℕ → Option ℕ → ℕ → Bool → Type 0
HasMarkingBy world seat in_hand loaded knows = HasMarking (world.memory Phase) (world.ghost.recording seat) (world.ghost.scanning seat) in_hand loaded knows

abbrev pub HasMarkingIn : World → ℕ → Kept → Spot → Type 0
HasMarkingIn world seat kept spot = HasMarkingBy world seat (recording_of spot) kept.phase (has_phase spot)

-- Of evacuation a mutator counts on this: it copies where its spot says so, it works on no unit, and where its call has loaded the
-- collection set, that is the set.
pub record HasCopying (cset : ℕ) (copying : Bool) (working : Option ℕ) (copies : Bool) (loaded : ℕ) (knows : Bool) : Type 0 where
  pub copies_is : copying ≡ copies
  pub works_none : working ≡ None
  pub set_is : knows ≡ true → loaded ≡ cset

abbrev pub HasCopyingBy : World → ℕ → Bool → ℕ → Bool → Type 0
HasCopyingBy world seat copies loaded knows = HasCopying (world.memory Cset) (world.ghost.copying seat) (world.ghost.working seat) copies loaded knows

abbrev pub HasCopyingIn : World → ℕ → Kept → Spot → Type 0
HasCopyingIn world seat kept spot = HasCopyingBy world seat (copies_at spot) kept.cset (has_set spot)

-- what a mutator counts on
pub record Mine (config : Config) (world : World) (mutator : Mutating) (command : Command) (fixed : Option Reply) : Type 0 where
  pub seated : Seated config world mutator
  pub ready : IsReady config mutator
  pub marking : HasMarkingIn world mutator.seat mutator.kept mutator.spot
  pub copying : HasCopyingIn world mutator.seat mutator.kept mutator.spot
  pub roots : (index : ℕ) → index < 16 → Points world.block (root_now world mutator.seat mutator.kept mutator.spot index) (world.graph.root (mutator.seat + 1) index)
  pub rooms : (address : ℕ) (piece : Block) → world.block address ≡ Some piece → room_of piece ≡ Some mutator.seat → IsRoomOf mutator.seat mutator.kept mutator.spot address piece
  pub facts : SpotFacts config world mutator.seat mutator.made mutator.kept command fixed mutator.spot

-- the graph after the entry that a step settles, if it settles one
abbrev pub graph_by : Graph → ℕ → Command → Option Reply → Graph
graph_by graph seat command None = graph
graph_by graph seat command (Some reply) = after_entry graph (entry_of seat command reply)

-- the entry that a step settles is legal, if it settles one
abbrev pub LegalBy : Config → Graph → ℕ → Command → Option Reply → Type 0
LegalBy config graph seat command None = Unit {0}
LegalBy config graph seat command (Some reply) = IsLegal config.regions config.region_words graph (seat + 1) command reply (after_entry graph (entry_of seat command reply))

-- the settled reply after a step that settles one, gives it, or does neither
abbrev pub fixed_by : Option Reply → Option Reply → Option Reply → Option Reply
fixed_by fixed (Some told_reply) given_reply = Some told_reply
fixed_by fixed None (Some given_reply) = None
fixed_by fixed None None = fixed

-- What a step of a mutator owes: the world after it, whose memory is that after the access and whose graph is that after
-- the entry which it settles; that the entry is legal, and the first of its call; what all machines share, what the
-- mutator counts on from here, and what the others rely on.
pub record Stepped (config : Config) (next_world : World) (mutator : Mutating) (command : Command) (order : Order) (fixed : Option Reply) : Type 0 where
  pub world : World
  pub memory : world.memory ≡ touched next_world.memory (touch_of config mutator order)
  pub graph : world.graph ≡ graph_by next_world.graph mutator.seat (command_by order command) (told_of next_world.memory mutator)
  pub legal : LegalBy config next_world.graph mutator.seat (command_by order command) (told_of next_world.memory mutator)
  pub settles : (reply : Reply) → told_of next_world.memory mutator ≡ Some reply → (fixed ≡ None) × (given_at mutator.spot ≡ None)
  pub shared : Shared config world
  pub mine : Mine config world (next_of config mutator order (next_world.memory (touch_of config mutator order).word)) (command_by order command) (fixed_by fixed (told_of next_world.memory mutator) (given_at mutator.spot))
  pub others : (seat : ℕ) → seat ≢ mutator.seat → Rely config seat next_world world

-- What is proved of each spot: from the shared facts and the mutator's own its step is as it should be, under each order
-- that it takes.
abbrev pub OrderedRow : Config → World → Mutating → Command → Order → Option Reply → Type 0
OrderedRow config world mutator command order fixed =
    Shared config world → Mine config world mutator command fixed → takes_at mutator.spot mutator.made order ≡ true → Stepped config world mutator command order fixed

-- in a call there is no order
abbrev pub Row : Config → World → Mutating → Command → Option Reply → Type 0
Row config world mutator command fixed = Shared config world → Mine config world mutator command fixed → Stepped config world mutator command Nothing fixed
