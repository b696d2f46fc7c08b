-- No step of a mutator settles that the heap is full: a pause does, where it says so.
use Rattle.std.proofs.Common.{◌≡◌, ◌≢◌, ℕ, ◌+◌, Bool, true, false, [], Option, Some, None, ap}
use Rattle.std.specs.Prelude.{◌==◌, if◌then◌else◌}
use Rattle.std.proofs.lemmas.Option.{same_Some}
use Rattle.std.proofs.lemmas.List.Elements.{All-nil, All-cons}
use Rattle.heap_words.specs.Words.{Word, Root, Heap}
use Rattle.heap_words.specs.Words as words
use Rattle.shen_graph.specs.declared.command.Command.{Command}
use Rattle.shen_graph.specs.declared.command.Reply.{Reply}
use Rattle.shen_graph.specs.declared.command.Reply.TheVariants.{Ref, Null, Yes, No, Bad, Full}
use Rattle.shen_graph.specs.declared.command.Command.TheVariants.{Same, Pin}
use Rattle.shen_graph.specs.Step.{yes_or_no, slot_of}
use Rattle.shen_graph.specs.History.{IsWithoutFull}
use Rattle.mutator.specs.declared.spot.Spot.{Spot}
use Rattle.mutator.specs.declared.pins.PinSpot.{PinSpot}
use Rattle.mutator.specs.declared.pins.PinSpot.TheVariants as pins
use Rattle.mutator.specs.declared.spot.Spot.TheVariants.{Loading, OnField, OnNumber, StoreRoot, Making, AskCycle, Pinning, Waiting}
use Rattle.mutator.specs.declared.loads.LoadSpot.TheVariants as load
use Rattle.mutator.specs.declared.fields.FieldSpot.TheVariants as fields
use Rattle.mutator.specs.declared.numbers.NumberSpot.TheVariants as numbers
use Rattle.mutator.specs.declared.makes.MakeSpot.TheVariants as make
use Rattle.mutator.specs.declared.waits.WaitSpot.TheVariants as wait
use Rattle.mutator.specs.declared.spot.Kept.{Kept}
use Rattle.mutator.specs.declared.loads.LoadSpot.{LoadSpot}
use Rattle.mutator.specs.declared.fields.FieldSpot.{FieldSpot}
use Rattle.mutator.specs.Commands.{command_root, index_of, lacks_object, has_part, fits_slot, pin_reply}
use Rattle.mutator.specs.Rows.{Mutating, name_in}
use Rattle.mutator.specs.Told.{name_of_object, name_the_same, shown_word, told_second, load_told, field_told, pin_told, told_at, told_of}
use Rattle.step_core.specs.Actor.{entries_of}

some_same : (reply other_reply : Reply) → ◌≡◌ {A = Option Reply} (Some reply) (Some other_reply) → reply ≡ other_reply
some_same reply other_reply same_option = same_Some reply other_reply same_option

shown_not_full : (memory : Word → ℕ) (value : ℕ) → shown_word memory value ≢ Full
shown_not_full memory value = by_null (value == 0)
  where
    by_null : (holds : Bool) → (if holds then Null else Ref (name_in (name_of_object memory value))) ≢ Full
    by_null true answers_full = absurd cc
    by_null false answers_full = absurd cc

second_not_full : (memory : Word → ℕ) (command : Command) (first second : ℕ) → told_second memory command first second ≢ Some Full
second_not_full memory (Same first_root holds) first second = by_same (name_the_same memory first second)
  where
    by_same : (holds : Bool) → Some (yes_or_no holds) ≢ Some Full
    by_same true answers_full = absurd cc
    by_same false answers_full = absurd cc
second_not_full memory _ first second = λ is_full. absurd cc

if_then : (holds : Bool) (reply : Reply) → reply ≢ Full → (if holds then Some reply else None) ≢ Some Full
if_then true reply not_full answers_full = not_full (some_same reply Full answers_full)
if_then false reply not_full answers_full = absurd cc

if_else : (holds : Bool) (reply : Reply) → reply ≢ Full → (if holds then None else Some reply) ≢ Some Full
if_else true reply not_full answers_full = absurd cc
if_else false reply not_full answers_full = not_full (some_same reply Full answers_full)

-- what an access settles is no Full
load_not_full : (memory : Word → ℕ) (seat : ℕ) (command : Command) (spot : LoadSpot) → load_told memory seat command spot ≢ Some Full
load_not_full memory seat command load.First = if_then (lacks_object command (memory (Root seat (command_root command 0)))) Bad (λ replied_full. absurd cc)
load_not_full memory seat command (load.Second first) = second_not_full memory command first (memory (Root seat (command_root command 1)))
load_not_full memory seat command (load.Third first second) = λ is_full. absurd cc
load_not_full memory seat command (load.Shape object second third) = if_else (has_part command (memory (Heap (object + 1)))) Bad (λ replied_full. absurd cc)

field_not_full : (memory : Word → ℕ) (object : ℕ) (command : Command) (spot : FieldSpot) → field_told memory object command spot ≢ Some Full
field_not_full memory object command fields.Load = λ is_full. shown_not_full memory (memory (Heap (object + 3 + index_of command))) (some_same _ Full is_full)
field_not_full memory object command (fields.LoadExpected expect value) = if_else (name_the_same memory (memory (Heap (object + 3 + index_of command))) expect) No (λ replied_full. absurd cc)
field_not_full memory object command (fields.LoadOld value) = λ is_full. absurd cc
field_not_full memory object command (fields.Store value) = λ is_full. absurd cc
field_not_full memory object command (fields.Swap value) = λ is_full. shown_not_full memory (memory (Heap (object + 3 + index_of command))) (some_same _ Full is_full)
field_not_full memory object command (fields.Exchange found expect value) = if_then (memory (Heap (object + 3 + index_of command)) == found) Yes (λ replied_full. absurd cc)

reply_not_full : (command : Command) (value : ℕ) → pin_reply command value ≢ Full
reply_not_full (Pin slot obj) value answers_full = absurd cc
reply_not_full _ value answers_full = absurd cc

pin_not_full : (memory : Word → ℕ) (seat value : ℕ) (command : Command) (spot : PinSpot) → pin_told memory seat value command spot ≢ Some Full
pin_not_full memory seat value command pins.Look = if_else (fits_slot command (memory (words.Pin seat (slot_of command)))) Bad (λ replied_full. absurd cc)
pin_not_full memory seat value command pins.Store = λ is_full. reply_not_full command value (some_same _ Full is_full)

told_not_full : (memory : Word → ℕ) (seat made : ℕ) (kept : Kept) (spot : Spot) → told_at memory seat made kept spot ≢ Some Full
told_not_full memory seat made kept (Loading spot) = load_not_full memory seat kept.command spot
told_not_full memory seat made kept (OnField object spot) = field_not_full memory object kept.command spot
told_not_full memory seat made kept (OnNumber object refs numbers.Load) = λ is_full. absurd cc
told_not_full memory seat made kept (OnNumber object refs numbers.Store) = λ is_full. absurd cc
told_not_full memory seat made kept (StoreRoot value) = λ is_full. absurd cc
told_not_full memory seat made kept (Making (make.StoreRoot address)) = λ is_full. absurd cc
told_not_full memory seat made kept (Making spot) = λ is_full. absurd cc
told_not_full memory seat made kept (Waiting (wait.StoreRoot address)) = λ is_full. absurd cc
told_not_full memory seat made kept (Waiting spot) = λ is_full. absurd cc
told_not_full memory seat made kept (Pinning value spot) = pin_not_full memory seat value kept.command spot
told_not_full memory seat made kept AskCycle = λ is_full. absurd cc
told_not_full memory seat made kept _ = λ is_full. absurd cc

entries_not_full : (seat : ℕ) (command : Command) (found : Option Reply) → found ≢ Some Full → IsWithoutFull (entries_of seat command found)
entries_not_full seat command None not_full = All-nil (λ e. e.reply ≢ Full)
entries_not_full seat command (Some found_reply) not_full = All-cons (λ e. e.reply ≢ Full) _ [] (λ e. not_full (ap (λ (reply : Reply). Some reply) e)) (All-nil (λ e. e.reply ≢ Full))

-- so the entries that the step of a mutator settles have no Full
pub mutator_not_full : (memory : Word → ℕ) (mutator : Mutating) (command : Command) → IsWithoutFull (entries_of mutator.seat command (told_of memory mutator))
mutator_not_full memory mutator command = entries_not_full mutator.seat command _ (told_not_full memory mutator.seat mutator.made mutator.kept mutator.spot)
