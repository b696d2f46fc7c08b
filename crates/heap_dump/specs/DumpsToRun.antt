-- Which bytes are a dump and what is to run from it.
use Rattle.std.specs.Prelude.{ℕ, ◌≡◌, ◌≤◌, List, [], ◌∷◌, ◌++◌, codes, length}
use Rattle.std.specs.List.{flat_map, AllByRecursion}
use Rattle.shen_graph.specs.declared.command.Command.{Command}
use Rattle.heap_words.specs.declared.schedule.Item.{Item}
use Rattle.trace_reading.specs.Spelling.{TraceLine, IsLine, line, IsScheduleLine, schedule_line}
use Rattle.trace_reading.specs.Grammar.{most_bytes, scripts_of, items_of}
use Rattle.trace_text.specs.Answer.{line_of}
use Rattle.heap_dump.specs.Dumped.{Dumped, IsDump}
use Rattle.heap_dump.specs.DumpText.{dump_text}

-- the version of the lines of commands behind a dump
abbrev pub run_version : ℕ
run_version = 2

-- the line between a dump and the lines of commands
abbrev pub mark_line : List ℕ
mark_line = line_of (codes "trace" ∷ [])

-- The bytes are the text of this dump, the line `trace`, lines of commands of version 2, and lines of a schedule; and these are the
-- threads' scripts, and these the items.
pub record Resumes (bytes : List ℕ) (d : Dumped) (scripts : List (List Command)) (items : List Item) : Type 0 where
  pub dump : IsDump d
  pub lines : List TraceLine
  pub in_range : AllByRecursion (IsLine run_version d.config.mutators) lines
  pub turns : List (List Item)
  pub turns_in_range : AllByRecursion (IsScheduleLine d.config) turns
  pub spelled : bytes ≡ dump_text d ++ (mark_line ++ (flat_map line lines ++ flat_map schedule_line turns))
  pub by_thread : scripts ≡ scripts_of d.config.mutators lines
  pub in_order : items ≡ items_of turns
  pub short : length bytes ≤ most_bytes

-- two readings are of one dump, the same scripts and the same items
pub record IsSameReading (d : Dumped) (xs : List (List Command)) (is : List Item) (e : Dumped) (ys : List (List Command)) (js : List Item) : Type 0 where
  pub dump : d ≡ e
  pub scripts : xs ≡ ys
  pub items : is ≡ js
