-- What is said of a trace that is to break a test.
use Rattle.std.specs.Prelude.{ℕ, ◌≡◌, ◌≢◌, ◌<◌, List, length}
use Rattle.heap_words.specs.declared.config.Config.{Config}
use Rattle.heap_words.specs.declared.schedule.Item.{Item}
use Rattle.shen_graph.specs.GraphText.{Text, Row}
use Rattle.shen_graph.specs.History.{Entry, after}
use Rattle.heap_world.specs.Shows.{ShowsGraph}
use Rattle.step_core.specs.Begins.{first_graph}
use Rattle.step_core.specs.Schedule.{Scripts}
use Rattle.trace_reading.specs.Grammar.{Reads, most_bytes}
use Rattle.trace_reading.specs.declared.why.Why.{Why}
use Rattle.trace_reading.specs.Refused.{Refused}
use Rattle.trace_runs.specs.Replayed.{IsWhole, IsUnfinished, events_of, history_of}
use Rattle.find_play.specs.declared.test.Test.{Test}
use Rattle.find_play.specs.Verdict.{IsVerdictOn, HasNoVerdict}
use Rattle.find_play.specs.declared.verdict.Verdict.{Verdict as Verdicts}
use Rattle.find_play.specs.declared.verdict.Verdict.TheVariants.{Holds}
use Rattle.find_search.specs.declared.judging.Judged.{Judged}
use Rattle.find_search.specs.declared.judging.Judged.TheVariants.{Verdict, Nothing}

-- The bytes are a trace of this heap; so many steps of its replay lead to its end, by a legal history, which is this one; and these
-- are the objects of the graph that is left.
pub record IsRunOf (config : Config) (bytes : List ℕ) (steps : ℕ) (history : List Entry) (rows : List Row) : Type 0 where
  pub version : ℕ
  pub scripts : Scripts
  pub items : List Item
  pub reads : Reads bytes version config scripts items
  pub whole : IsWhole config scripts (events_of config scripts items steps)
  pub history_is : history ≡ history_of config scripts items steps
  pub text : Text
  pub shows : ShowsGraph text config.mutators (after (first_graph config) history)
  pub rows_are : rows ≡ text.rows

-- the verdict of the test on that run
pub record HasVerdict (test : Test) (bytes : List ℕ) (steps : ℕ) (verdict : Verdicts) : Type 0 where
  pub history : List Entry
  pub rows : List Row
  pub run : IsRunOf test.config bytes steps history rows
  pub verdict_on : IsVerdictOn test.programs.items test.bounds.returns (length test.notes) test.places.items test.claims.items history rows verdict

-- Why a test has no verdict on a text: it has more bytes than a trace may have; it is no trace, by its first line that is refused; it is a
-- trace of another heap; so many steps of its replay leave a machine that is not idle; or they lead to its end, and the test has no verdict
-- on that history.
pub data HasNoJudgement (test : Test) (bytes : List ℕ) (steps : ℕ) : Type 0 where
  IsLong : most_bytes < length bytes → HasNoJudgement test bytes steps
  IsNoTrace : (n : ℕ) (why : Why) → Refused bytes n why → HasNoJudgement test bytes steps
  IsOfOther : (version : ℕ) (config : Config) (scripts : Scripts) (items : List Item) → Reads bytes version config scripts items → config ≢ test.config → HasNoJudgement test bytes steps
  IsCutOff : IsUnfinished bytes steps → HasNoJudgement test bytes steps
  IsNoPlay : (history : List Entry) (rows : List Row) → IsRunOf test.config bytes steps history rows
      → HasNoVerdict test.programs.items test.bounds.returns (length test.notes) history → HasNoJudgement test bytes steps

abbrev pub IsJudged : Test → List ℕ → ℕ → Judged → Type 0
IsJudged test bytes steps (Verdict verdict) = HasVerdict test bytes steps verdict
IsJudged test bytes steps Nothing = HasNoJudgement test bytes steps

-- a run of the test, as a trace, that does not have all that is claimed
pub record IsBreak (test : Test) (bytes : List ℕ) (steps : ℕ) (verdict : Verdicts) : Type 0 where
  pub judged : HasVerdict test bytes steps verdict
  pub breaks : verdict ≢ Holds
