-- The rows of the steps of a mutator: for each spot its place, the access that it makes and what follows. The spots of a
-- part of a call stand together.
use Rattle.std.specs.Prelude.{ℕ, ◌+◌, ◌==◌, Bool, ◌&&◌, nat_lt, length, Option, Some, None, if◌then◌else◌}
use Rattle.heap_words.specs.declared.config.Config.{Config}
use Rattle.heap_words.specs.declared.place.Place.{Place}
use Rattle.heap_words.specs.declared.place.Place.TheVariants as place
use Rattle.heap_words.specs.declared.access.Took.{Took}
use Rattle.heap_words.specs.declared.access.Took.TheVariants.{More, Again, Done}
use Rattle.heap_words.specs.Words.{Left, State, Phase, Cset, Ask, Root, Heap}
use Rattle.heap_words.specs.Words as words
use Rattle.heap_words.specs.Encoding.{refs_in, thread_in, count_in, fresh_word}
use Rattle.heap_words.specs.Phases.{idle_phase, marking_phase}
use Rattle.heap_words.specs.Touch.{Touch, touch, loads, stores, swaps, subtracts, sets_bits, exchanges}
use Rattle.handshake.specs.declared.enter_spot.EnterSpot.TheVariants.{Raise, Look}
use Rattle.handshake.specs.EnterRows as enters
use Rattle.alloc_buffers.specs.Rows as takes
use Rattle.alloc_buffers.specs.declared.spot.Kind.TheVariants.{Fresh}
use Rattle.alloc_buffers.specs.declared.spot.Taken.TheVariants.{At, NoRoom}
use Rattle.alloc_buffers.specs.declared.spot.TakeSpot.{TakeSpot}
use Rattle.alloc_buffers.specs.declared.spot.TakeSpot.TheVariants as take_spot
use Rattle.satb_barrier.specs.Rows as satb
use Rattle.satb_barrier.specs.declared.spot.RememberSpot.{RememberSpot}
use Rattle.satb_barrier.specs.declared.spot.RememberSpot.TheVariants.{LoadCount, Recorded}
use Rattle.load_barrier.specs.Rows as resolves
use Rattle.load_barrier.specs.UnitRows.{must_resolve}
use Rattle.load_barrier.specs.declared.spot.ResolveSpot.{ResolveSpot}
use Rattle.load_barrier.specs.declared.spot.ResolveSpot.TheVariants.{LoadHeader, Resolved}
use Rattle.shen_graph.specs.declared.name.Name.{Name}
use Rattle.shen_graph.specs.declared.command.Command.{Command}
use Rattle.shen_graph.specs.declared.command.Command.TheVariants.{New, Get, Set, Cas, Xchg, Rd, Wr, Copy, Drop, Same, Gc, Pin, Unpin}
use Rattle.shen_graph.specs.declared.command.Reply.{Reply}
use Rattle.shen_graph.specs.declared.command.Reply.TheVariants as reply
use Rattle.shen_graph.specs.declared.order.Order.{Order}
use Rattle.shen_graph.specs.declared.order.Order.TheVariants.{Nothing, Begin, End, Hint}
use Rattle.shen_graph.specs.Step.{yes_or_no, slot_of}
use Rattle.mutator.specs.declared.spot.Kept.{Kept}
use Rattle.mutator.specs.declared.spot.Spot.{Spot}
use Rattle.mutator.specs.declared.spot.Spot.TheVariants.{Rest, Ended, Entering, LoadPhase, LoadSet, Loading, OnField, Resolving, Recording, OnNumber, Showing, StoreRoot, Making, AskCycle, Pinning, Waiting, Leave, Gone}
use Rattle.mutator.specs.declared.spot.Entered.TheVariants.{Call}
use Rattle.mutator.specs.declared.loads.LoadSpot.{LoadSpot}
use Rattle.mutator.specs.declared.loads.LoadSpot.TheVariants as load
use Rattle.mutator.specs.declared.fields.FieldSpot.{FieldSpot}
use Rattle.mutator.specs.declared.fields.FieldSpot.TheVariants as fields
use Rattle.mutator.specs.declared.resolves.Loaded.{Loaded}
use Rattle.mutator.specs.declared.resolves.Loaded.TheVariants.{ForRoot, ToCompare}
use Rattle.mutator.specs.declared.overwrites.Overwritten.{Overwritten}
use Rattle.mutator.specs.declared.overwrites.Overwritten.TheVariants as overwrites
use Rattle.mutator.specs.declared.numbers.NumberSpot.{NumberSpot}
use Rattle.mutator.specs.declared.numbers.NumberSpot.TheVariants as number
use Rattle.mutator.specs.declared.shows.ShowSpot.{ShowSpot}
use Rattle.mutator.specs.declared.shows.ShowSpot.TheVariants as show
use Rattle.mutator.specs.declared.makes.MakeSpot.{MakeSpot}
use Rattle.mutator.specs.declared.makes.MakeSpot.TheVariants as make
use Rattle.mutator.specs.declared.pins.PinSpot.{PinSpot}
use Rattle.mutator.specs.declared.pins.PinSpot.TheVariants as pin
use Rattle.mutator.specs.declared.waits.WaitSpot.TheVariants as wait
use Rattle.mutator.specs.Commands.{command_roots, command_root, dst_of, index_of, stored_number, refs_of, nums_of, lacks_object, has_part, fits_slot, pin_reply}
use Rattle.mutator.specs.WaitRows.{call_says, after_enter, next_name, wait_place, wait_touch, wait_next, wait_made, wait_says}

-- A mutator between two accesses: its number, how many objects it has made, what its call has kept, and where it stands.
pub record Mutating : Type 0 where
  pub seat : ℕ
  pub made : ℕ
  pub kept : Kept
  pub spot : Spot

-- a mutator that has not begun a call, where its thread has made so many objects before, or none
abbrev pub mutator_after : ℕ → ℕ → Mutating
mutator_after seat made = record { seat = seat; made = made; kept = record { command = Gc; phase = idle_phase; cset = 0 }; spot = Rest }

abbrev pub fresh_mutator : ℕ → Mutating
fresh_mutator seat = mutator_after seat 0

-- the place of the next access, of each part of a call
abbrev pub load_place : LoadSpot → Place
load_place load.First = place.RL
load_place (load.Second first) = place.RL
load_place (load.Third first second) = place.RL
load_place (load.Shape object second third) = place.SH

abbrev pub field_place : FieldSpot → Place
field_place fields.Load = place.FL
field_place (fields.LoadExpected expect value) = place.FL
field_place (fields.LoadOld value) = place.FL
field_place (fields.Store value) = place.FS
field_place (fields.Swap value) = place.FX
field_place (fields.Exchange found expect value) = place.CX

abbrev pub number_place : NumberSpot → Place
number_place number.Load = place.NL
number_place number.Store = place.NS

abbrev pub show_place : ShowSpot → Place
show_place show.LoadName = place.NM
show_place (show.StoreRoot reply) = place.RS

abbrev pub pin_place : PinSpot → Place
pin_place pin.Look = place.PB
pin_place pin.Store = place.PN

abbrev pub make_place : MakeSpot → Place
make_place (make.Taking take) = takes.place_at take
make_place (make.StoreWord address done) = place.IW
make_place (make.StoreRoot address) = place.RS

-- the address that the next access makes grey, if it does so: an entry of the buffer that is full
abbrev pub greys_at : Spot → Option ℕ
greys_at (Recording spot address next) = satb.greys_at spot
greys_at _ = None

-- between two calls it is by the order: that of the first access of a call, or of the access by which a mutator ends
abbrev pub first_place : Order → Place
first_place End = place.ML
first_place order = enters.place_at Raise

-- and of a mutator. One that has ended makes no access, and the place is named as that of its last one
abbrev pub place_at : Order → Spot → Place
place_at order Rest = first_place order
place_at order (Ended reply) = first_place order
place_at order (Entering spot next) = enters.place_at spot
place_at order LoadPhase = place.PH
place_at order LoadSet = place.CS
place_at order (Loading spot) = load_place spot
place_at order (OnField object spot) = field_place spot
place_at order (Resolving address spot next) = resolves.place_at spot
place_at order (Recording spot address next) = satb.place_at spot
place_at order (OnNumber object refs spot) = number_place spot
place_at order (Showing value spot) = show_place spot
place_at order (StoreRoot value) = place.RS
place_at order (Making spot) = make_place spot
place_at order AskCycle = place.AK
place_at order (Pinning value spot) = pin_place spot
place_at order (Waiting spot) = wait_place spot
place_at order (Leave reply) = place.LV
place_at order Gone = place.ML

-- how many words the object has that a command makes
abbrev pub words_made : Command → ℕ
words_made command = 3 + refs_of command + nums_of command

-- the next access, of each part of a call
abbrev pub load_touch : ℕ → Command → LoadSpot → Touch
load_touch seat command load.First = touch (Root seat (command_root command 0)) loads
load_touch seat command (load.Second first) = touch (Root seat (command_root command 1)) loads
load_touch seat command (load.Third first second) = touch (Root seat (command_root command 2)) loads
load_touch seat command (load.Shape object second third) = touch (Heap (object + 1)) loads

abbrev pub field_touch : ℕ → Command → FieldSpot → Touch
field_touch object command fields.Load = touch (Heap (object + 3 + index_of command)) loads
field_touch object command (fields.LoadExpected expect value) = touch (Heap (object + 3 + index_of command)) loads
field_touch object command (fields.LoadOld value) = touch (Heap (object + 3 + index_of command)) loads
field_touch object command (fields.Store value) = touch (Heap (object + 3 + index_of command)) (stores value)
field_touch object command (fields.Swap value) = touch (Heap (object + 3 + index_of command)) (swaps value)
field_touch object command (fields.Exchange found expect value) = touch (Heap (object + 3 + index_of command)) (exchanges found value)

abbrev pub number_touch : ℕ → ℕ → Command → NumberSpot → Touch
number_touch object refs command number.Load = touch (Heap (object + 3 + refs + index_of command)) loads
number_touch object refs command number.Store = touch (Heap (object + 3 + refs + index_of command)) (stores (stored_number command))

abbrev pub show_touch : ℕ → ℕ → Command → ShowSpot → Touch
show_touch seat value command show.LoadName = touch (Heap (value + 2)) loads
show_touch seat value command (show.StoreRoot reply) = touch (Root seat (dst_of command)) (stores value)

abbrev pub pin_touch : ℕ → ℕ → Command → PinSpot → Touch
pin_touch seat value command pin.Look = touch (words.Pin seat (slot_of command)) loads
pin_touch seat value command pin.Store = touch (words.Pin seat (slot_of command)) (stores value)

abbrev pub make_touch : ℕ → ℕ → Command → MakeSpot → Touch
make_touch seat made command (make.Taking take) = takes.touch_at seat (words_made command) take
make_touch seat made command (make.StoreWord address done) = touch (Heap (address + done)) (stores (fresh_word seat made (refs_of command) (nums_of command) done))
make_touch seat made command (make.StoreRoot address) = touch (Root seat (dst_of command)) (stores address)

-- between two calls it is by the order: a call begins by entering the heap, and to end is to be one mutator less
abbrev pub first_touch : ℕ → Order → Touch
first_touch seat End = touch Left (subtracts 1)
first_touch seat order = enters.touch_at seat Raise

-- and of a mutator. One that has ended makes none
abbrev pub touch_at : Config → ℕ → ℕ → Kept → Order → Spot → Touch
touch_at config seat made kept order Rest = first_touch seat order
touch_at config seat made kept order (Ended reply) = first_touch seat order
touch_at config seat made kept order (Entering spot next) = enters.touch_at seat spot
touch_at config seat made kept order LoadPhase = touch Phase loads
touch_at config seat made kept order LoadSet = touch Cset loads
touch_at config seat made kept order (Loading spot) = load_touch seat kept.command spot
touch_at config seat made kept order (OnField object spot) = field_touch object kept.command spot
touch_at config seat made kept order (Resolving address spot next) = resolves.touch_at config seat address spot
touch_at config seat made kept order (Recording spot address next) = satb.touch_at config seat address spot
touch_at config seat made kept order (OnNumber object refs spot) = number_touch object refs kept.command spot
touch_at config seat made kept order (Showing value spot) = show_touch seat value kept.command spot
touch_at config seat made kept order (StoreRoot value) = touch (Root seat (dst_of kept.command)) (stores value)
touch_at config seat made kept order (Making spot) = make_touch seat made kept.command spot
touch_at config seat made kept order AskCycle = touch Ask (sets_bits 1)
touch_at config seat made kept order (Pinning value spot) = pin_touch seat value kept.command spot
touch_at config seat made kept order (Waiting spot) = wait_touch seat made kept.command spot
touch_at config seat made kept order (Leave reply) = touch (State seat) (stores 0)
touch_at config seat made kept order Gone = touch Left loads

abbrev pub touch_of : Config → Mutating → Order → Touch
touch_of config mutator order = touch_at config mutator.seat mutator.made mutator.kept order mutator.spot

-- where a call goes on once the collection set was loaded
abbrev pub first_spot : Command → Spot
first_spot (New dst refs nums) = Making (make.Taking take_spot.LoadBuffer)
first_spot (Drop dst) = StoreRoot 0
first_spot Gc = AskCycle
first_spot (Unpin slot) = Pinning 0 pin.Look
first_spot command = Loading load.First

-- where it goes on once all its roots were loaded
abbrev pub after_roots : Command → ℕ → ℕ → ℕ → Spot
after_roots (Copy dst src) first second third = StoreRoot first
after_roots (Pin slot obj) first second third = Pinning first pin.Look
after_roots (Same root other_root) first second third = Leave (yes_or_no (first == second))
after_roots command first second third = Loading (load.Shape first second third)

-- where it goes on once one or two of them were loaded
abbrev pub after_first : Command → ℕ → Spot
after_first command first = if nat_lt 1 (length (command_roots command)) then Loading (load.Second first) else after_roots command first 0 0

abbrev pub after_second : Command → ℕ → ℕ → Spot
after_second command first second = if nat_lt 2 (length (command_roots command)) then Loading (load.Third first second) else after_roots command first second 0

-- the reply is Bad where there is no object
abbrev pub after_root : Command → ℕ → Spot
after_root command first = if lacks_object command first then Leave reply.Bad else after_first command first

-- where a command on a number goes on with it
abbrev pub on_number : Command → ℕ → ℕ → Spot
on_number (Rd obj index) object shape = OnNumber object (refs_in shape) number.Load
on_number (Wr obj index value) object shape = OnNumber object (refs_in shape) number.Store
on_number _ object shape = Leave reply.Bad

-- what a Set does to the field first: while objects are marked it looks what it will overwrite
abbrev pub first_of_set : ℕ → ℕ → FieldSpot
first_of_set phase value = if phase == marking_phase then fields.LoadOld value else fields.Store value

-- where a call goes on, in its phase, with the field or number of the object
abbrev pub with_part : ℕ → Command → ℕ → ℕ → ℕ → ℕ → Spot
with_part phase (Get dst src field) object second third shape = OnField object fields.Load
with_part phase (Set obj field val) object second third shape = OnField object (first_of_set phase second)
with_part phase (Cas obj field expect val) object second third shape = OnField object (fields.LoadExpected second third)
with_part phase (Xchg dst obj field val) object second third shape = OnField object (fields.Swap second)
with_part phase command object second third shape = on_number command object shape

-- the reply is Bad where the object has no such part
abbrev pub after_shape : ℕ → Command → ℕ → ℕ → ℕ → ℕ → Spot
after_shape phase command object second third shape = if has_part command shape then with_part phase command object second third shape else Leave reply.Bad

-- where it goes on with a resolved reference, for a root
abbrev pub after_field : ℕ → Spot
after_field value = Showing value (if value == 0 then show.StoreRoot reply.Null else show.LoadName)

-- where it goes on with what it found in the field, to exchange it if it resolves to the reference that is to be there
abbrev pub after_expected : (object expect value found answer : ℕ) → Spot
after_expected object expect value found answer = if answer == expect then OnField object (fields.Exchange found expect value) else Leave reply.No

-- where it goes on with what it found in the field, once that is resolved
abbrev pub after_resolved : (found answer : ℕ) → Loaded → Spot
after_resolved found answer ForRoot = after_field answer
after_resolved found answer (ToCompare object expect value) = after_expected object expect value found answer

-- where a call that has loaded this phase and this collection set goes on with what it found in the field: a reference into the
-- set is resolved first
abbrev pub with_loaded : Config → (phase cset found : ℕ) → Loaded → Spot
with_loaded config phase cset found next = if must_resolve config phase cset found then Resolving found LoadHeader next else after_resolved found found next

-- where it goes on that resolves what it found in the field and stands so
abbrev pub after_resolve : (found : ℕ) → Loaded → ResolveSpot → Spot
after_resolve found next (Resolved answer) = after_resolved found answer next
after_resolve found next spot = Resolving found spot next

-- where a call goes on with the reference that it overwrites, once that is recorded. Objects are marked then, and do not move
abbrev pub after_recording : ℕ → Overwritten → Spot
after_recording found (overwrites.Set object value) = OnField object (fields.Store value)
after_recording found overwrites.Xchg = after_field found
after_recording found overwrites.Cas = Leave reply.Yes

-- whether an overwritten reference has to be recorded: objects are marked, and it is not null
abbrev pub is_to_record : ℕ → ℕ → Bool
is_to_record phase found = (phase == marking_phase) && nat_lt 0 found

-- where a call goes on, in its phase, with the reference that it overwrites
abbrev pub overwritten : (phase found : ℕ) → Overwritten → Spot
overwritten phase found next = if is_to_record phase found then Recording LoadCount found next else after_recording found next

-- where a call goes on with the reference that it has swapped out of the field, for a root
abbrev pub after_swap : Config → (phase cset found : ℕ) → Spot
after_swap config phase cset found = if is_to_record phase found then Recording LoadCount found overwrites.Xchg else with_loaded config phase cset found ForRoot

-- where it goes on that records an address and stands so
abbrev pub after_remember : ℕ → Overwritten → RememberSpot → Spot
after_remember address next Recorded = after_recording address next
after_remember address next spot = Recording spot address next

-- the name of a name word
abbrev pub name_in : ℕ → Name
name_in code = record { thread = thread_in code; count = count_in code }

-- where it goes on with its room for an object: without room it asks for the object, and waits
abbrev pub after_take : TakeSpot → Spot
after_take (take_spot.Ended (At address) end) = Making (make.StoreWord address 0)
after_take (take_spot.Ended NoRoom end) = Waiting wait.StoreRequest
after_take take = Making (make.Taking take)

-- where a taking of room stands after the access
abbrev pub take_next : Config → Command → TakeSpot → ℕ → TakeSpot
take_next config command take got = takes.next_at config (words_made command) Fresh take got

-- where it goes on with an object of so many words, once so many of them were stored
abbrev pub after_word : ℕ → ℕ → ℕ → Spot
after_word words address done = Making (if nat_lt done words then make.StoreWord address done else make.StoreRoot address)

-- where each part of a call goes on after its access, by the word that it was told
abbrev pub load_next : ℕ → Command → LoadSpot → ℕ → Spot
load_next phase command load.First got = after_root command got
load_next phase command (load.Second first) got = after_second command first got
load_next phase command (load.Third first second) got = after_roots command first second got
load_next phase command (load.Shape object second third) got = after_shape phase command object second third got

abbrev pub field_next : Config → (phase cset object : ℕ) → FieldSpot → ℕ → Spot
field_next config phase cset object fields.Load got = with_loaded config phase cset got ForRoot
field_next config phase cset object (fields.LoadExpected expect value) got = with_loaded config phase cset got (ToCompare object expect value)
field_next config phase cset object (fields.LoadOld value) got = overwritten phase got (overwrites.Set object value)
field_next config phase cset object (fields.Store value) got = Leave reply.Ok
field_next config phase cset object (fields.Swap value) got = after_swap config phase cset got
field_next config phase cset object (fields.Exchange found expect value) got = if got == found then overwritten phase found overwrites.Cas else OnField object (fields.LoadExpected expect value)

abbrev pub number_next : NumberSpot → ℕ → Spot
number_next number.Load got = Leave (reply.Number got)
number_next number.Store got = Leave reply.Ok

abbrev pub show_next : ℕ → ShowSpot → ℕ → Spot
show_next value show.LoadName got = Showing value (show.StoreRoot (reply.Ref (name_in got)))
show_next value (show.StoreRoot reply) got = Leave reply

abbrev pub pin_next : ℕ → Command → PinSpot → ℕ → Spot
pin_next value command pin.Look got = if fits_slot command got then Pinning value pin.Store else Leave reply.Bad
pin_next value command pin.Store got = Leave (pin_reply command value)

abbrev pub make_next : Config → ℕ → ℕ → Command → MakeSpot → ℕ → Spot
make_next config seat made command (make.Taking take) got = after_take (take_next config command take got)
make_next config seat made command (make.StoreWord address done) got = after_word (words_made command) address (done + 1)
make_next config seat made command (make.StoreRoot address) got = Leave (reply.Ref (next_name seat made))

-- how many objects were made then
abbrev pub made_after : ℕ → MakeSpot → ℕ
made_after made (make.StoreRoot address) = made + 1
made_after made _ = made

-- what a mutator between two calls is after its access: by its order it enters the heap for a call, or has ended
abbrev pub call_begun : Order → Mutating → Mutating
call_begun Nothing mutator = mutator
call_begun (Begin command) mutator = record mutator { kept = record mutator.kept { command = command }; spot = Entering Look Call }
call_begun End mutator = record mutator { spot = Gone }
call_begun (Hint address) mutator = mutator

-- what a mutator is after the access, by the word that it was told
abbrev pub next_at : Config → Mutating → Order → ℕ → Spot → Mutating
next_at config mutator order got Rest = call_begun order mutator
next_at config mutator order got (Ended reply) = call_begun order mutator
next_at config mutator order got (Entering spot next) = record mutator { spot = after_enter next (enters.next_at spot got) }
next_at config mutator order got LoadPhase = record mutator { kept = record mutator.kept { phase = got }; spot = LoadSet }
next_at config mutator order got LoadSet = record mutator { kept = record mutator.kept { cset = got }; spot = first_spot mutator.kept.command }
next_at config mutator order got (Loading spot) = record mutator { spot = load_next mutator.kept.phase mutator.kept.command spot got }
next_at config mutator order got (OnField object spot) = record mutator { spot = field_next config mutator.kept.phase mutator.kept.cset object spot got }
next_at config mutator order got (Resolving address spot next) = record mutator { spot = after_resolve address next (resolves.next_at config address mutator.kept.phase spot got) }
next_at config mutator order got (Recording spot address next) = record mutator { spot = after_remember address next (satb.next_at spot got) }
next_at config mutator order got (OnNumber object refs spot) = record mutator { spot = number_next spot got }
next_at config mutator order got (Showing value spot) = record mutator { spot = show_next value spot got }
next_at config mutator order got (StoreRoot value) = record mutator { spot = Leave reply.Ok }
next_at config mutator order got (Making spot) = record mutator { made = made_after mutator.made spot; spot = make_next config mutator.seat mutator.made mutator.kept.command spot got }
next_at config mutator order got AskCycle = record mutator { spot = Leave reply.Ok }
next_at config mutator order got (Pinning value spot) = record mutator { spot = pin_next value mutator.kept.command spot got }
next_at config mutator order got (Waiting spot) = record mutator { made = wait_made mutator.made spot; spot = wait_next mutator.seat mutator.made spot got }
next_at config mutator order got (Leave reply) = record mutator { spot = Ended reply }
next_at config mutator order got Gone = mutator

abbrev pub next_of : Config → Mutating → Order → ℕ → Mutating
next_of config mutator order got = next_at config mutator order got mutator.spot

-- what the step says: of an exchange, that it was lost; of a resolving and of a taking of room, what they say; and that a mutator
-- waits to enter, or for an object
abbrev pub field_says : FieldSpot → ℕ → Took
field_says (fields.Exchange found expect value) got = if got == found then More else Again
field_says _ got = More

abbrev pub make_says : Config → Command → MakeSpot → ℕ → Took
make_says config command (make.Taking take) got = call_says (takes.says_at take (take_next config command take got))
make_says config command _ got = More

abbrev pub answer_at : Config → Kept → Spot → ℕ → Took
answer_at config kept (Entering spot next) got = call_says (enters.says_at spot got)
answer_at config kept (OnField object spot) got = field_says spot got
answer_at config kept (Resolving address spot next) got = call_says (resolves.says_at config address kept.phase spot got)
answer_at config kept (Making spot) got = make_says config kept.command spot got
answer_at config kept (Waiting spot) got = wait_says spot got
answer_at config kept (Leave reply) got = Done
answer_at config kept _ got = More

-- the reply that the step gives, if it ends the call
abbrev pub given_at : Spot → Option Reply
given_at (Leave reply) = Some reply
given_at _ = None

-- the reply of the last call, between two calls
abbrev pub reply_at : Spot → Option Reply
reply_at (Ended reply) = Some reply
reply_at _ = None
