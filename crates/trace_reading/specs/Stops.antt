-- Where the lines behind the head stop being those of a trace.
use Rattle.std.specs.Prelude.{ℕ, ◌≡◌, ◌+◌, List, ◌++◌, length, nat_lt, false, Some}
use Rattle.std.specs.List.{flat_map, AllByRecursion}
use Rattle.shen_graph.specs.declared.command.Command.{Command}
use Rattle.heap_words.specs.declared.config.Config.{Config}
use Rattle.heap_words.specs.declared.schedule.Item.{Item}
use Rattle.trace_reading.specs.Spelling.{newline, TraceLine, line, IsLine, schedule_line, IsScheduleLine}
use Rattle.trace_reading.specs.Grammar.{scripts_of, items_of}
use Rattle.trace_reading.specs.declared.why.Why.{Why}
use Rattle.trace_reading.specs.Causes.{parts}
use Rattle.trace_reading.specs.Refused.{body_stage, cause_of}

-- behind lines of commands, of which the first has this number, these bytes are refused at line n
pub record StopsCommands (version : ℕ) (config : Config) (first : ℕ) (bytes : List ℕ) (n : ℕ) (why : Why) : Type 0 where
  pub lines : List TraceLine
  pub in_range : AllByRecursion (IsLine version config.mutators) lines
  pub rest : List ℕ
  pub spelled : bytes ≡ flat_map line lines ++ rest
  pub number : n ≡ first + length lines
  pub cause : cause_of (body_stage version config false) (parts newline rest) ≡ Some why

-- behind lines of the schedule, of which the first has this number, these bytes are refused at line n
pub record StopsTurns (version : ℕ) (config : Config) (first : ℕ) (bytes : List ℕ) (n : ℕ) (why : Why) : Type 0 where
  pub turns : List (List Item)
  pub in_range : AllByRecursion (IsScheduleLine config) turns
  pub rest : List ℕ
  pub spelled : bytes ≡ flat_map schedule_line turns ++ rest
  pub number : n ≡ first + length turns
  pub cause : cause_of (body_stage version config (nat_lt 0 (length turns))) (parts newline rest) ≡ Some why

-- the bytes are lines of commands of a version and lines of a schedule, of these scripts and items
pub record HasReadBody (version : ℕ) (config : Config) (bytes : List ℕ) (scripts : List (List Command)) (items : List Item) : Type 0 where
  pub lines : List TraceLine
  pub in_range : AllByRecursion (IsLine version config.mutators) lines
  pub turns : List (List Item)
  pub turns_in_range : AllByRecursion (IsScheduleLine config) turns
  pub spelled : bytes ≡ flat_map line lines ++ flat_map schedule_line turns
  pub by_thread : scripts ≡ scripts_of config.mutators lines
  pub in_order : items ≡ items_of turns

-- behind lines of commands and of a schedule, of which the first has this number, these bytes are refused at line n
pub record StopsBody (version : ℕ) (config : Config) (first : ℕ) (bytes : List ℕ) (n : ℕ) (why : Why) : Type 0 where
  pub lines : List TraceLine
  pub in_range : AllByRecursion (IsLine version config.mutators) lines
  pub turns : List (List Item)
  pub turns_in_range : AllByRecursion (IsScheduleLine config) turns
  pub rest : List ℕ
  pub spelled : bytes ≡ flat_map line lines ++ (flat_map schedule_line turns ++ rest)
  pub number : n ≡ first + length lines + length turns
  pub cause : cause_of (body_stage version config (nat_lt 0 (length turns))) (parts newline rest) ≡ Some why
