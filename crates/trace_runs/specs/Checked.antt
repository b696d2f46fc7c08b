-- What is said of a history that somebody claims for a trace, and of the answer before it.
use Rattle.std.specs.Prelude.{ℕ, ◌≡◌, List}
use Rattle.shen_graph.specs.declared.command.Command.{Command}
use Rattle.shen_graph.specs.History.{Entry}
use Rattle.heap_words.specs.declared.config.Config.{Config}
use Rattle.heap_words.specs.declared.schedule.Item.{Item}
use Rattle.trace_text.specs.Pairs.{IsPair}
use Rattle.shen_check.specs.declared.verdict.Verdict.{Verdict}
use Rattle.shen_check.specs.declared.verdict.Verdict.TheVariants.{Yes, Entry as NoEntry, Script, Text}
use Rattle.shen_check.specs.Judged.{IsVerdict}
use Rattle.trace_text.specs.Message.{line_text}
use Rattle.trace_text.specs.declared.message.Line.{Line}
use Rattle.trace_text.specs.declared.message.Line.TheVariants as line

-- the line of a verdict
abbrev pub verdict_line : Verdict → Line
verdict_line Yes = line.Yes
verdict_line (NoEntry entry_number) = line.NoEntry entry_number
verdict_line (Script thread) = line.NoScript thread
verdict_line Text = line.NoText

-- The bytes are a trace with an answer and a history that are claimed for it, and the text is the line of the verdict on them.
pub record IsChecked (bytes : List ℕ) (out : List ℕ) : Type 0 where
  pub version : ℕ
  pub config : Config
  pub scripts : List (List Command)
  pub items : List Item
  pub body : List ℕ
  pub entries : List Entry
  pub pair : IsPair bytes version config scripts items body entries
  pub verdict : Verdict
  pub is : IsVerdict version config scripts entries body verdict
  pub text : out ≡ line_text (verdict_line verdict)
