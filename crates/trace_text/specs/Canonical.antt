-- The text in which a trace is written. Of all its spellings it is the one in which the threads' lines stand one thread after
-- the other, and all items of the schedule on one line.
use Rattle.std.specs.Prelude.{ℕ, ◌≡◌, ◌+◌, ◌≤◌, List, [], ◌∷◌, ◌++◌, length, map}
use Rattle.std.specs.List.{flat_map, AllByRecursion}
use Rattle.shen_graph.specs.declared.command.Command.{Command}
use Rattle.heap_words.specs.declared.config.Config.{Config}
use Rattle.heap_words.specs.Narrow.{IsNarrow}
use Rattle.heap_words.specs.declared.schedule.Item.{Item}
use Rattle.trace_reading.specs.Spelling.{TraceLine, IsVersion, IsLine, line, header, IsItem, schedule_line}
use Rattle.trace_reading.specs.Grammar.{most_bytes}

-- the lines of a thread
abbrev pub lines_of : (thread : ℕ) → (script : List Command) → List TraceLine
lines_of thread script = map (λ c. record { thread = thread; command = c }) script

-- the lines of the threads from this one on, one thread after the other
abbrev pub lines_from : (thread : ℕ) → (scripts : List (List Command)) → List TraceLine
lines_from thread [] = []
lines_from thread (script ∷ scripts) = lines_of thread script ++ lines_from (thread + 1) scripts

-- all items on one line, or no line where there is no item
abbrev pub turns_of : List Item → List (List Item)
turns_of [] = []
turns_of (item ∷ items) = (item ∷ items) ∷ []

-- the text of a trace of a version
abbrev pub spelling_of : ℕ → Config → List (List Command) → List Item → List ℕ
spelling_of version config scripts items = header version config ++ (flat_map line (lines_from 1 scripts) ++ flat_map schedule_line (turns_of items))

-- A trace can be written: its version is 1 or 2, a region has at most 1,024 words, it has a script for each mutator, its commands and
-- its items may stand in a trace of the version, and its text is not too long for one.
pub record IsWritable (version : ℕ) (config : Config) (scripts : List (List Command)) (items : List Item) : Type 0 where
  pub known : IsVersion version
  pub narrow : IsNarrow config
  pub threads : length scripts ≡ config.mutators
  pub lines_fit : AllByRecursion (IsLine version config.mutators) (lines_from 1 scripts)
  pub items_fit : AllByRecursion (IsItem config) items
  pub short : length (spelling_of version config scripts items) ≤ most_bytes
