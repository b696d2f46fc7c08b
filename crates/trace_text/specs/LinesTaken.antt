-- Lines of a trace behind its head, taken one after the other.
use Rattle.std.specs.Prelude.{ℕ, ◌≡◌, ◌⊎◌, ◌==◌, Bool, true, false, if◌then◌else◌, List, [], ◌∷◌, ◌++◌, length, Option, Some, None}
use Rattle.std.specs.List.{flat_map}
use Rattle.shen_graph.specs.declared.command.Command.{Command}
use Rattle.heap_words.specs.declared.config.Config.{Config}
use Rattle.heap_words.specs.declared.schedule.Item.{Item}
use Rattle.trace_reading.specs.Spelling.{space, newline, TraceLine, line, IsLine, schedule_line, IsScheduleLine}
use Rattle.trace_reading.specs.Scanning.{◌>>=◌, behind, positive_at, spelled_command}
use Rattle.trace_reading.specs.Grammar.{scripts_of, with_line}
use Rattle.trace_reading.specs.declared.why.Why.{Why}
use Rattle.trace_reading.specs.Causes.{parts}
use Rattle.trace_reading.specs.Refused.{body_stage, words_cause}

-- of a trace of this version, what was taken: the commands of each thread, the items of the schedule, and whether a line of the schedule was taken
pub record Taken : Type 0 where
  pub version : ℕ
  pub config : Config
  pub scripts : List (List Command)
  pub items : List Item
  pub scheduled : Bool

-- no line was taken yet
abbrev pub none_taken : (version : ℕ) → Config → Taken
none_taken version config = record { version = version; config = config; scripts = scripts_of config.mutators []; items = []; scheduled = false }

-- the line, without its end, is that of a command, which is now the last of its thread
abbrev pub TakesCommand : Taken → List ℕ → Taken → Type 0
TakesCommand before text after =
    (trace_line : TraceLine) × (before.scheduled ≡ false) × IsLine before.version before.config.mutators trace_line × (text ++ newline ∷ [] ≡ line trace_line) × (after ≡ record before { scripts = with_line before.scripts trace_line })

-- the line, without its end, is one of the schedule, whose items are now its last
abbrev pub TakesItems : Taken → List ℕ → Taken → Type 0
TakesItems before text after =
    (items : List Item) × IsScheduleLine before.config items × (text ++ newline ∷ [] ≡ schedule_line items) × (after ≡ record before { items = before.items ++ items; scheduled = true })

abbrev pub TakesLine : Taken → List ℕ → Taken → Type 0
TakesLine before text after = TakesCommand before text after ⊎ TakesItems before text after

-- the first cause that holds for the line there
abbrev pub line_cause : Taken → List ℕ → Option Why
line_cause taken text = words_cause (body_stage taken.version taken.config taken.scheduled) (parts space text)

-- a line of a command of a version, without its end
abbrev pub IsCommandText : (version : ℕ) → Config → List ℕ → Type 0
IsCommandText version config text = (trace_line : TraceLine) × IsLine version config.mutators trace_line × (text ++ newline ∷ [] ≡ line trace_line)

-- a line of the schedule, without its end
abbrev pub IsItemsText : Config → List ℕ → Type 0
IsItemsText config text = (items : List Item) × IsScheduleLine config items × (text ++ newline ∷ [] ≡ schedule_line items)

-- the thread and the command of a version that a text spells, to its end
unfoldable pub spelled_line : (version threads : ℕ) → List ℕ → Option TraceLine
spelled_line version threads text = do
  t ← positive_at threads text
  rest ← behind (32 ∷ []) t.1
  c ← spelled_command version rest
  if length c.1 == 0 then Some (record { thread = t.0; command = c.0 }) else None

-- lines, each without its end, are taken one after the other
abbrev pub TakesLines : Taken → List (List ℕ) → Taken → Type 0
TakesLines before [] after = before ≡ after
TakesLines before (text ∷ texts) after = (next : Taken) × TakesLine before text next × TakesLines next texts after

-- the lines, each with its end
abbrev pub ended_lines : List (List ℕ) → List ℕ
ended_lines texts = flat_map (λ text. text ++ newline ∷ []) texts
