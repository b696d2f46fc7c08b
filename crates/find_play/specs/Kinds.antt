-- The kinds of lines, their first words, and what the words behind are to be.
use Rattle.std.specs.Prelude.{ℕ, List, [], ◌∷◌, ◌++◌, codes, nat_lt, Option, Some, None, if◌then◌else◌}
use Rattle.trace_reading.specs.Causes.{is_same}
use Rattle.trace_reading.specs.declared.kind.CommandKind.{CommandKind}
use Rattle.trace_reading.specs.declared.kind.CommandKind.TheVariants as command
use Rattle.trace_reading.specs.Kinds.{word}
use Rattle.find_play.specs.declared.slot.Slot.{Slot}
use Rattle.find_play.specs.declared.slot.Slot.TheVariants.{Nothing, Small, Large, Root, Note, Place, Wanted, Fresh}
use Rattle.find_play.specs.declared.kind.LineKind.{LineKind}
use Rattle.find_play.specs.declared.kind.LineKind.TheVariants as line

-- the first word of a line
abbrev pub line_word : LineKind → List ℕ
line_word line.Bounds = codes "bounds"
line_word line.Note = codes "note"
line_word line.Place = codes "place"
line_word line.Thread = codes "thread"
line_word line.Root = codes "root"
line_word (line.Command kind) = word kind
line_word line.Keep = codes "keep"
line_word line.Loop = codes "loop"
line_word line.Until = codes "until"
line_word line.If = codes "if"
line_word line.Else = codes "else"
line_word line.End = codes "end"
line_word line.Assert = codes "assert"
line_word line.Or = codes "or"
line_word line.Is = codes "is"
line_word line.Isnt = codes "isnt"
line_word line.Never = codes "never"
line_word line.Count = codes "count"
line_word line.Alike = codes "alike"
line_word line.Differ = codes "differ"
line_word line.Number = codes "number"
line_word line.Null = codes "null"
line_word line.Chain = codes "chain"
line_word line.One = codes "one"

-- four slots
abbrev pub slots : Slot → Slot → Slot → Slot → List Slot
slots first second third fourth = first ∷ second ∷ third ∷ fourth ∷ []

abbrev pub any_number : Slot
any_number = Large 0 18446744073709551615

-- of a command's line: of sizes 16, of fields and indexes 31, of pin slots 3
abbrev pub command_slots : CommandKind → List Slot
command_slots command.New = slots Root (Small 16) (Small 16) Nothing
command_slots command.Get = slots Root Root (Small 31) Nothing
command_slots command.Set = slots Root (Small 31) Root Nothing
command_slots command.Cas = slots Root (Small 31) Root Root
command_slots command.Xchg = slots Root Root (Small 31) Root
command_slots command.Rd = slots Root (Small 31) Nothing Nothing
command_slots command.Wr = slots Root (Small 31) any_number Nothing
command_slots command.Copy = slots Root Root Nothing Nothing
command_slots command.Same = slots Root Root Nothing Nothing
command_slots command.Drop = slots Root Nothing Nothing Nothing
command_slots command.Gc = slots Nothing Nothing Nothing Nothing
command_slots command.Pin = slots (Small 3) Root Nothing Nothing
command_slots command.Unpin = slots (Small 3) Nothing Nothing Nothing

-- of a line of a fact; of other lines none
abbrev pub fact_slots : LineKind → List Slot
fact_slots line.Is = slots Wanted Note Nothing Nothing
fact_slots line.Isnt = slots Wanted Note Nothing Nothing
fact_slots line.Count = slots Wanted any_number Nothing Nothing
fact_slots line.Alike = slots Note Note Nothing Nothing
fact_slots line.Differ = slots Note Note Nothing Nothing
fact_slots line.Number = slots Place (Small 31) any_number Nothing
fact_slots line.Null = slots Place Nothing Nothing Nothing
fact_slots line.Chain = slots Place (Small 31) any_number Nothing
fact_slots line.One = slots Place Place Nothing Nothing
fact_slots _ = slots Nothing Nothing Nothing Nothing

-- of any line
abbrev pub line_slots : LineKind → List Slot
line_slots (line.Command kind) = command_slots kind
line_slots line.Bounds = slots (Large 0 1000) (Large 1 4000000000) (Large 0 1000000) Nothing
line_slots line.Note = slots Fresh Nothing Nothing Nothing
line_slots line.Root = slots Fresh Nothing Nothing Nothing
line_slots line.Place = slots Fresh Place (Small 31) Nothing
line_slots line.Keep = slots Note Nothing Nothing Nothing
line_slots line.Until = slots Wanted Nothing Nothing Nothing
line_slots line.If = slots Wanted Nothing Nothing Nothing
line_slots line.Never = slots Wanted Nothing Nothing Nothing
line_slots kind = fact_slots kind

-- each kind of version 1 once
abbrev pub first_line_kinds : List LineKind
first_line_kinds =
    line.Bounds ∷ line.Note ∷ line.Place ∷ line.Thread ∷ line.Root
    ∷ line.Command command.New ∷ line.Command command.Get ∷ line.Command command.Set ∷ line.Command command.Cas ∷ line.Command command.Xchg
    ∷ line.Command command.Rd ∷ line.Command command.Wr ∷ line.Command command.Copy ∷ line.Command command.Drop ∷ line.Command command.Same
    ∷ line.Command command.Gc ∷ line.Keep ∷ line.Loop ∷ line.Until ∷ line.If ∷ line.Else ∷ line.End ∷ line.Assert ∷ line.Or ∷ line.Is
    ∷ line.Isnt ∷ line.Never ∷ line.Count ∷ line.Alike ∷ line.Differ ∷ line.Number ∷ line.Null ∷ line.Chain ∷ line.One ∷ []

-- those that joined in version 2
abbrev pub later_line_kinds : List LineKind
later_line_kinds = line.Command command.Pin ∷ line.Command command.Unpin ∷ []

-- the kinds of a version
abbrev pub line_kinds : ℕ → List LineKind
line_kinds version = if nat_lt version 2 then first_line_kinds else first_line_kinds ++ later_line_kinds

-- the kind among these that has this word
unfoldable pub kind_of_word : List LineKind → List ℕ → Option LineKind
kind_of_word [] read_word = None
kind_of_word (kind ∷ rest) read_word = if is_same read_word (line_word kind) then Some kind else kind_of_word rest read_word
