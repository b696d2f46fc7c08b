-- The entries that a mutator's steps fix: at which spot, for which words, the reply of its command is settled.
use Rattle.std.specs.Prelude.{ℕ, ◌+◌, ◌==◌, Bool, ◌||◌, Option, Some, None, if◌then◌else◌}
use Rattle.heap_words.specs.Words.{Word, Root, Heap, Pin}
use Rattle.shen_graph.specs.declared.command.Command.{Command}
use Rattle.shen_graph.specs.declared.command.Command.TheVariants.{Same}
use Rattle.shen_graph.specs.declared.command.Reply.{Reply}
use Rattle.shen_graph.specs.declared.command.Reply.TheVariants as reply
use Rattle.shen_graph.specs.Step.{yes_or_no, slot_of}
use Rattle.mutator.specs.declared.spot.Kept.{Kept}
use Rattle.mutator.specs.declared.spot.Spot.{Spot}
use Rattle.mutator.specs.declared.spot.Spot.TheVariants.{Loading, OnField, OnNumber, StoreRoot, Making, AskCycle, Pinning, Waiting}
use Rattle.mutator.specs.declared.loads.LoadSpot.{LoadSpot}
use Rattle.mutator.specs.declared.loads.LoadSpot.TheVariants as load
use Rattle.mutator.specs.declared.fields.FieldSpot.{FieldSpot}
use Rattle.mutator.specs.declared.fields.FieldSpot.TheVariants as fields
use Rattle.mutator.specs.declared.numbers.NumberSpot.{NumberSpot}
use Rattle.mutator.specs.declared.numbers.NumberSpot.TheVariants as number
use Rattle.mutator.specs.declared.makes.MakeSpot.TheVariants as make
use Rattle.mutator.specs.declared.pins.PinSpot.{PinSpot}
use Rattle.mutator.specs.declared.pins.PinSpot.TheVariants as pin
use Rattle.mutator.specs.declared.waits.WaitSpot.TheVariants as wait
use Rattle.mutator.specs.Commands.{command_root, index_of, lacks_object, has_part, fits_slot, pin_reply}
use Rattle.mutator.specs.WaitRows.{next_name}
use Rattle.mutator.specs.Rows.{Mutating, name_in}

-- the name of the object at an address
abbrev pub name_of_object : (Word → ℕ) → ℕ → ℕ
name_of_object memory address = memory (Heap (address + 2))

-- whether two references name the same: both are null, or both are of objects of one name
abbrev pub name_the_same : (Word → ℕ) → ℕ → ℕ → Bool
name_the_same memory reference other_reference = if (reference == 0) || (other_reference == 0) then reference == other_reference else name_of_object memory reference == name_of_object memory other_reference

-- the reply that shows a reference
abbrev pub shown_word : (Word → ℕ) → ℕ → Reply
shown_word memory value = if value == 0 then reply.Null else reply.Ref (name_in (name_of_object memory value))

-- at the second root of a Same it is settled whether the two are the same
abbrev pub told_second : (Word → ℕ) → Command → ℕ → ℕ → Option Reply
told_second memory (Same root other_root) first second = Some (yes_or_no (name_the_same memory first second))
told_second memory _ first second = None

-- what each part of a call settles
abbrev pub load_told : (Word → ℕ) → ℕ → Command → LoadSpot → Option Reply
load_told memory seat command load.First = if lacks_object command (memory (Root seat (command_root command 0))) then Some reply.Bad else None
load_told memory seat command (load.Second first) = told_second memory command first (memory (Root seat (command_root command 1)))
load_told memory seat command (load.Third first second) = None
load_told memory seat command (load.Shape object second third) = if has_part command (memory (Heap (object + 1))) then None else Some reply.Bad

abbrev pub field_told : (Word → ℕ) → ℕ → Command → FieldSpot → Option Reply
field_told memory object command fields.Load = Some (shown_word memory (memory (Heap (object + 3 + index_of command))))
field_told memory object command (fields.LoadExpected expect value) = if name_the_same memory (memory (Heap (object + 3 + index_of command))) expect then None else Some reply.No
field_told memory object command (fields.LoadOld value) = None
field_told memory object command (fields.Store value) = Some reply.Ok
field_told memory object command (fields.Swap value) = Some (shown_word memory (memory (Heap (object + 3 + index_of command))))
field_told memory object command (fields.Exchange found expect value) = if memory (Heap (object + 3 + index_of command)) == found then Some reply.Yes else None

abbrev pub number_told : (Word → ℕ) → ℕ → ℕ → Command → NumberSpot → Option Reply
number_told memory object refs command number.Load = Some (reply.Number (memory (Heap (object + 3 + refs + index_of command))))
number_told memory object refs command number.Store = Some reply.Ok

abbrev pub pin_told : (Word → ℕ) → ℕ → ℕ → Command → PinSpot → Option Reply
pin_told memory seat value command pin.Look = if fits_slot command (memory (Pin seat (slot_of command))) then None else Some reply.Bad
pin_told memory seat value command pin.Store = Some (pin_reply command value)

-- The reply that the access of a mutator settles, by its seat, how many objects it has made, what its call keeps, and the
-- memory that it finds. That the heap is full is settled by the pause that says so.
abbrev pub told_at : (Word → ℕ) → ℕ → ℕ → Kept → Spot → Option Reply
told_at memory seat made kept (Loading spot) = load_told memory seat kept.command spot
told_at memory seat made kept (OnField object spot) = field_told memory object kept.command spot
told_at memory seat made kept (OnNumber object refs spot) = number_told memory object refs kept.command spot
told_at memory seat made kept (StoreRoot value) = Some reply.Ok
told_at memory seat made kept (Making (make.StoreRoot address)) = Some (reply.Ref (next_name seat made))
told_at memory seat made kept (Waiting (wait.StoreRoot address)) = Some (reply.Ref (next_name seat made))
told_at memory seat made kept AskCycle = Some reply.Ok
told_at memory seat made kept (Pinning value spot) = pin_told memory seat value kept.command spot
told_at memory seat made kept _ = None

abbrev pub told_of : (Word → ℕ) → Mutating → Option Reply
told_of memory mutator = told_at memory mutator.seat mutator.made mutator.kept mutator.spot
