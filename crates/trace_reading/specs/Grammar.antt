-- Which bytes are a trace, and of which scripts and schedule.
use Rattle.std.specs.Prelude.{ℕ, ◌≡◌, ◌≢◌, ◌-◌, ◌≤◌, ◌==◌, List, [], ◌∷◌, ◌++◌, length, slice_index_or, slice_set, map, filter}
use Rattle.std.specs.List.{flat_map, range_with_len, AllByRecursion}
use Rattle.std.specs.Io.KnownBytes.{Consumes, IsAtEnd}
use Rattle.std.specs.Prelude.{Option}
use Rattle.shen_graph.specs.declared.command.Command.{Command}
use Rattle.heap_words.specs.declared.config.Config.{Config}
use Rattle.heap_words.specs.Narrow.{IsNarrow}
use Rattle.heap_words.specs.declared.schedule.Item.{Item}
use Rattle.trace_reading.specs.Spelling.{TraceLine, IsVersion, IsLine, line, header, IsScheduleLine, schedule_line}

-- the most bytes of a trace
abbrev pub most_bytes : ℕ
most_bytes = 16777216

-- the commands of a thread, in the order of their lines
abbrev pub commands_in : List TraceLine → ℕ → List Command
commands_in lines thread = map (λ l. l.command) (filter (λ l. l.thread == thread) lines)

-- the scripts of the threads 1 to `threads`
abbrev pub scripts_of : ℕ → List TraceLine → List (List Command)
scripts_of threads lines = map (commands_in lines) (range_with_len 1 threads)

-- the scripts, with the command of one line more
abbrev pub with_line : List (List Command) → TraceLine → List (List Command)
with_line scripts trace_line = slice_set scripts (trace_line.thread - 1) (slice_index_or scripts (trace_line.thread - 1) [] ++ trace_line.command ∷ [])

-- these lines were taken from the front of the bytes, and what they say is in the scripts
pub record HasReadLines (version threads : ℕ) (bytes rest : List ℕ) (scripts : List (List Command)) : Type 0 where
  pub lines : List TraceLine
  pub in_range : AllByRecursion (IsLine version threads) lines
  pub spelled : bytes ≡ flat_map line lines ++ rest
  pub by_thread : scripts ≡ scripts_of threads lines

-- the items of all lines of the schedule, in order
abbrev pub items_of : List (List Item) → List Item
items_of turns = flat_map (λ items. items) turns

-- these bytes are lines of the schedule, whose items were added
pub record HasScheduled (config : Config) (bytes : List ℕ) (before after : List Item) : Type 0 where
  pub turns : List (List Item)
  pub in_range : AllByRecursion (IsScheduleLine config) turns
  pub spelled : bytes ≡ flat_map schedule_line turns
  pub items : after ≡ before ++ items_of turns

-- The bytes are the head of a trace of this version, then lines of commands that the version has, and then lines of a schedule;
-- and these are the threads' scripts, and these the items. A region of a trace has at most 1,024 words.
pub record Reads (bytes : List ℕ) (version : ℕ) (config : Config) (scripts : List (List Command)) (items : List Item) : Type 0 where
  pub known : IsVersion version
  pub narrow : IsNarrow config
  pub lines : List TraceLine
  pub in_range : AllByRecursion (IsLine version config.mutators) lines
  pub turns : List (List Item)
  pub turns_in_range : AllByRecursion (IsScheduleLine config) turns
  pub spelled : bytes ≡ header version config ++ (flat_map line lines ++ flat_map schedule_line turns)
  pub by_thread : scripts ≡ scripts_of config.mutators lines
  pub in_order : items ≡ items_of turns
  pub short : length bytes ≤ most_bytes

-- the bytes do not begin with the head of a trace
abbrev pub HasNoHead : List ℕ → Type 0
HasNoHead bytes = (version : ℕ) (config : Config) (rest : List ℕ) → IsVersion version → IsNarrow config → bytes ≢ header version config ++ rest

-- two readings are of one version, one configuration, the same scripts and the same items
pub record IsSameTrace (v : ℕ) (c : Config) (xs : List (List Command)) (is : List Item) (w : ℕ) (d : Config) (ys : List (List Command)) (js : List Item) : Type 0 where
  pub version : v ≡ w
  pub config : c ≡ d
  pub scripts : xs ≡ ys
  pub items : is ≡ js

-- these bytes came, and no more are left, where that is told
pub record Came (before after : Option (List ℕ)) (bytes : List ℕ) : Type 0 where
  pub taken : Consumes before after bytes
  pub at_end : IsAtEnd after
