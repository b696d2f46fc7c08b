-- The verdict on a run, or that there is none, from what is known of its parts.
use Rattle.std.proofs.Common.{◌≡◌, ◌≢◌, ◌<◌, ℕ, List, length, refl, sym, subst}
use Rattle.heap_words.specs.declared.config.Config.{Config}
use Rattle.heap_words.specs.declared.schedule.Item.{Item}
use Rattle.shen_graph.specs.GraphText.{Text}
use Rattle.shen_graph.specs.History.{Entry, after}
use Rattle.heap_world.specs.Shows.{ShowsGraph}
use Rattle.step_core.specs.Begins.{first_graph}
use Rattle.step_core.specs.Schedule.{Scripts}
use Rattle.trace_reading.specs.Grammar.{Reads, most_bytes}
use Rattle.trace_reading.specs.declared.why.Why.{Why}
use Rattle.trace_reading.specs.Refused.{Refused}
use Rattle.trace_runs.specs.Replayed.{IsWhole, IsUnfinished, events_of, history_of}
use Rattle.find_play.specs.declared.test.Test.{Test}
use Rattle.find_play.specs.Verdict.{IsVerdictOn, HasNoVerdict}
use Rattle.find_play.specs.declared.verdict.Verdict.{Verdict}
use Rattle.find_search.specs.Judged.{IsRunOf, HasVerdict, HasNoJudgement, IsLong, IsNoTrace, IsOfOther, IsCutOff, IsNoPlay}

-- a trace of the heap of a test, whose replay comes to its end by this history and leaves this graph
run_of : (test : Test) (bytes : List ℕ) (steps version : ℕ) (config : Config) (scripts : Scripts) (items : List Item) (history : List Entry) (text : Text)
    → config ≡ test.config → Reads bytes version config scripts items → IsWhole config scripts (events_of config scripts items steps)
    → history ≡ history_of config scripts items steps
    → ShowsGraph text config.mutators (after (first_graph config) (history_of config scripts items steps))
    → IsRunOf test.config bytes steps history text.rows
run_of test bytes steps version config scripts items history text same_config reads whole_run history_is shows = subst (λ (config : Config). IsRunOf config bytes steps history text.rows) same_config run
  where
    run : IsRunOf config bytes steps history text.rows
    run = record {
      version = version;
      scripts = scripts;
      items = items;
      reads = reads;
      whole = whole_run;
      history_is = history_is;
      text = text;
      shows = subst (λ told_history. ShowsGraph text config.mutators (after (first_graph config) told_history)) (sym history_is) shows;
      rows_are = refl;
    }

-- it has the verdict on that history and on that graph
pub judged : (test : Test) (bytes : List ℕ) (steps version : ℕ) (config : Config) (scripts : Scripts) (items : List Item) (history : List Entry) (text : Text) (verdict : Verdict)
    → config ≡ test.config → Reads bytes version config scripts items → IsWhole config scripts (events_of config scripts items steps)
    → history ≡ history_of config scripts items steps
    → ShowsGraph text config.mutators (after (first_graph config) (history_of config scripts items steps))
    → IsVerdictOn test.programs.items test.bounds.returns (length test.notes) test.places.items test.claims.items history text.rows verdict
    → HasVerdict test bytes steps verdict
judged test bytes steps version config scripts items history text verdict same_config reads whole_run history_is shows verdict_on = record {
  history = history;
  rows = text.rows;
  run = run_of test bytes steps version config scripts items history text same_config reads whole_run history_is shows;
  verdict_on = verdict_on;
}

-- or none, where the test has none on that history
pub no_play : (test : Test) (bytes : List ℕ) (steps version : ℕ) (config : Config) (scripts : Scripts) (items : List Item) (history : List Entry) (text : Text)
    → config ≡ test.config → Reads bytes version config scripts items → IsWhole config scripts (events_of config scripts items steps)
    → history ≡ history_of config scripts items steps
    → ShowsGraph text config.mutators (after (first_graph config) (history_of config scripts items steps))
    → HasNoVerdict test.programs.items test.bounds.returns (length test.notes) history
    → HasNoJudgement test bytes steps
no_play test bytes steps version config scripts items history text same_config reads whole_run history_is shows no_verdict =
    IsNoPlay history text.rows (run_of test bytes steps version config scripts items history text same_config reads whole_run history_is shows) no_verdict

pub too_long : (test : Test) (bytes : List ℕ) (steps : ℕ) → most_bytes < length bytes → HasNoJudgement test bytes steps
too_long test bytes steps bytes_over = IsLong bytes_over

pub no_trace : (test : Test) (bytes : List ℕ) (steps n : ℕ) (why : Why) → Refused bytes n why → HasNoJudgement test bytes steps
no_trace test bytes steps n why refused = IsNoTrace n why refused

pub of_other : (test : Test) (bytes : List ℕ) (steps version : ℕ) (config : Config) (scripts : Scripts) (items : List Item) → Reads bytes version config scripts items → config ≢ test.config
    → HasNoJudgement test bytes steps
of_other test bytes steps version config scripts items reads other_config = IsOfOther version config scripts items reads other_config

pub cut_off : (test : Test) (bytes : List ℕ) (steps : ℕ) → IsUnfinished bytes steps → HasNoJudgement test bytes steps
cut_off test bytes steps cut = IsCutOff cut
