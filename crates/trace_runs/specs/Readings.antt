-- What the modes read: nothing, a trace, a trace with what is claimed for it, or a dump with what is to run from it. What is said of the
-- bytes has a line for each of these.
use Rattle.std.specs.Prelude.{ℕ, ◌≡◌, List}
use Rattle.shen_graph.specs.declared.command.Command.{Command}
use Rattle.shen_graph.specs.History.{Entry}
use Rattle.heap_words.specs.declared.config.Config.{Config}
use Rattle.heap_words.specs.declared.schedule.Item.{Item}
use Rattle.trace_reading.specs.Grammar.{Reads}
use Rattle.trace_reading.specs.declared.why.Why.{Why}
use Rattle.trace_reading.specs.Refused.{Refused}
use Rattle.trace_text.specs.Pairs.{IsPair}
use Rattle.trace_text.specs.Refusals.{IsPairRefused}
use Rattle.heap_dump.specs.DumpLines.{DumpRefused}
use Rattle.trace_runs.specs.declared.mode.Mode.{Mode}
use Rattle.trace_runs.specs.declared.mode.Mode.TheVariants.{Replay, Noted, Dump, Resume, Run, Churn, Queue, Check}
use Rattle.trace_runs.specs.Replayed.{IsUnfinished}
use Rattle.trace_runs.specs.FromDumps.{IsDumpAndMore, FitsItsHeap, IsCutFromDump, IsTooLargeDump}

pub data Reading : Type 0 where
  ReadNothing : Reading
  ReadTrace : Reading
  ReadPair : Reading
  ReadDump : Reading

-- what a mode reads
abbrev pub reading_of : Mode → Reading
reading_of (Replay steps) = ReadTrace
reading_of (Noted steps) = ReadTrace
reading_of (Dump steps) = ReadTrace
reading_of (Resume steps) = ReadDump
reading_of (Run workers) = ReadTrace
reading_of (Churn load) = ReadNothing
reading_of (Queue count) = ReadNothing
reading_of Check = ReadPair

-- something is read
abbrev pub HasInput : Reading → Type 0
HasInput ReadNothing = ⊥
HasInput _ = Unit {0}

-- a mode that reads something, and one that does not: that is always answered, or there is no memory
abbrev pub ReadsInput : Mode → Type 0
ReadsInput mode = HasInput (reading_of mode)

abbrev pub ReadsNothing : Mode → Type 0
ReadsNothing mode = reading_of mode ≡ ReadNothing

-- The bytes are what is read. A dump is to fit its heap.
abbrev pub Takes : Reading → List ℕ → Type 0
Takes ReadNothing bytes = ⊥
Takes ReadTrace bytes = (version : ℕ) × (config : Config) × (scripts : List (List Command)) × (items : List Item) × Reads bytes version config scripts items
Takes ReadPair bytes = (version : ℕ) × (config : Config) × (scripts : List (List Command)) × (items : List Item) × (body : List ℕ) × (entries : List Entry) × IsPair bytes version config scripts items body entries
Takes ReadDump bytes = (read : IsDumpAndMore bytes) × FitsItsHeap read

-- they are not, and this line is the first that is at fault, for this cause
abbrev pub Refuses : Reading → List ℕ → ℕ → Why → Type 0
Refuses ReadNothing bytes line why = ⊥
Refuses ReadTrace bytes line why = Refused bytes line why
Refuses ReadPair bytes line why = IsPairRefused bytes line why
Refuses ReadDump bytes line why = DumpRefused bytes line why

-- they are, but for a heap that is too small
abbrev pub IsTooLarge : Reading → List ℕ → Type 0
IsTooLarge ReadDump bytes = IsTooLargeDump bytes
IsTooLarge _ bytes = ⊥

-- they are, and so many steps leave a machine that is not idle
abbrev pub IsCutAfter : Reading → List ℕ → ℕ → Type 0
IsCutAfter ReadTrace bytes steps = IsUnfinished bytes steps
IsCutAfter ReadDump bytes steps = IsCutFromDump bytes steps
IsCutAfter _ bytes steps = ⊥
