-- Which bytes are refused, at which line, and why.
use Rattle.std.specs.Prelude.{ℕ, ◌≡◌, ◌⊎◌, ◌+◌, ◌≤◌, Bool, true, false, List, [], ◌∷◌, ◌++◌, codes, length, if◌then◌else◌, Option, Some, None}
use Rattle.heap_words.specs.declared.config.Config.{Config}
use Rattle.heap_words.specs.Narrow.{IsNarrow}
use Rattle.heap_words.specs.declared.schedule.Item.{Item}
use Rattle.trace_reading.specs.Spelling.{space, newline, titled, TraceLine, line, IsVersion, IsLine, schedule_line, IsScheduleLine}
use Rattle.trace_reading.specs.Grammar.{most_bytes}
use Rattle.trace_reading.specs.declared.why.Why.{Why}
use Rattle.trace_reading.specs.declared.why.Why.TheVariants.{EndOfLine, ScheduleLast}
use Rattle.trace_reading.specs.Causes.{parts, is_same, title_cause, version_ranges, heap_ranges, threads_ranges, command_cause, schedule_cause}

-- what is to stand on a line
pub data LineStage : Type 0 where
  -- the version; the heap of a trace of that version; and the threads behind a heap of these sizes
  Version : LineStage
  Heap : (version : ℕ) → LineStage
  Threads : (version regions region_words reserve : ℕ) → LineStage
  -- a command that the version has, or a line of the schedule
  Commands : (version : ℕ) → Config → LineStage
  -- a line of the schedule
  Turns : Config → LineStage

-- behind the head, where a line of the schedule stands before it or not
abbrev pub body_stage : (version : ℕ) → Config → Bool → LineStage
body_stage version config false = Commands version config
body_stage version config true = Turns config

-- ---- the lines of a trace

abbrev pub IsCommandLine : (version : ℕ) → Config → List ℕ → Type 0
IsCommandLine version config text = (trace_line : TraceLine) × IsLine version config.mutators trace_line × (text ++ newline ∷ [] ≡ line trace_line)

abbrev pub IsTurnItem : Config → List ℕ → Type 0
IsTurnItem config text = (items : List Item) × IsScheduleLine config items × (text ++ newline ∷ [] ≡ schedule_line items)

-- this text, with the end of its line, is a line of the grammar there, and what is to stand on the next
abbrev pub LineFollows : LineStage → List ℕ → LineStage → Type 0
LineFollows Version text next_stage = (version : ℕ) × IsVersion version × (text ++ newline ∷ [] ≡ titled (codes "shen") (version ∷ [])) × (next_stage ≡ Heap version)
LineFollows (Heap version) text next_stage = (config : Config) × IsNarrow config × (text ++ newline ∷ [] ≡ titled (codes "heap") (config.regions ∷ config.region_words ∷ config.reserve ∷ [])) × (next_stage ≡ Threads version config.regions config.region_words config.reserve)
LineFollows (Threads version regions region_words reserve) text next_stage = (config : Config) × (config.regions ≡ regions) × (config.region_words ≡ region_words) × (config.reserve ≡ reserve) × (text ++ newline ∷ [] ≡ titled (codes "threads") (config.mutators ∷ config.helpers ∷ [])) × (next_stage ≡ Commands version config)
LineFollows (Commands version config) text next_stage = (IsCommandLine version config text × (next_stage ≡ Commands version config)) ⊎ (IsTurnItem config text × (next_stage ≡ Turns config))
LineFollows (Turns config) text next_stage = IsTurnItem config text × (next_stage ≡ Turns config)

-- these lines follow one on the other
abbrev pub Lead : LineStage → List (List ℕ) → LineStage → Type 0
Lead stage [] end = stage ≡ end
Lead stage (text ∷ texts) end = (next_stage : LineStage) × LineFollows stage text next_stage × Lead next_stage texts end

-- ---- the first line that is none

-- a line of a command or of the schedule, by its words
abbrev pub body_cause : Config → Option Why → List (List ℕ) → Option Why
body_cause config other_cause [] = other_cause
body_cause config other_cause (first_word ∷ later_words) = if is_same first_word (33 ∷ []) then schedule_cause config later_words else other_cause

-- a line of a command, by its words
abbrev pub command_line_cause : (version : ℕ) → Config → List (List ℕ) → Option Why
command_line_cause version config [] = None
command_line_cause version config (first_word ∷ later_words) = command_cause version config.mutators first_word later_words

-- the first cause that holds for a line with these words
unfoldable pub words_cause : LineStage → List (List ℕ) → Option Why
words_cause Version words = title_cause (codes "shen") version_ranges words
words_cause (Heap version) words = title_cause (codes "heap") (heap_ranges words) words
words_cause (Threads version regions region_words reserve) words = title_cause (codes "threads") threads_ranges words
words_cause (Commands version config) words = body_cause config (command_line_cause version config words) words
words_cause (Turns config) words = body_cause config (Some ScheduleLast) words

-- the bytes end here, with this text behind the last end of a line
abbrev pub end_cause : LineStage → List ℕ → Option Why
end_cause (Commands version config) [] = None
end_cause (Turns config) [] = None
end_cause _ text = Some EndOfLine

-- the first cause that holds for the first of these lines; the last of them has no end
unfoldable pub cause_of : LineStage → List (List ℕ) → Option Why
cause_of stage [] = None
cause_of stage (text ∷ []) = end_cause stage text
cause_of stage (text ∷ next_text ∷ rest) = words_cause stage (parts space text)

-- Line n, counted from 1, is the first that is outside the grammar, and why is the first cause that holds for it.
pub record StopsAt (bytes : List ℕ) (n : ℕ) (why : Why) : Type 0 where
  pub before : List (List ℕ)
  pub from_it : List (List ℕ)
  pub lines : parts newline bytes ≡ before ++ from_it
  pub number : n ≡ length before + 1
  pub stage : LineStage
  pub lead : Lead Version before stage
  pub cause : cause_of stage from_it ≡ Some why

-- the bytes are not too many, and are refused at line n
abbrev pub Refused : List ℕ → ℕ → Why → Type 0
Refused bytes n why = StopsAt bytes n why × (length bytes ≤ most_bytes)
