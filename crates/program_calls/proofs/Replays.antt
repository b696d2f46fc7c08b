-- What is noted of a run, from what is known of its parts.
use Rattle.std.proofs.Common.{◌≡◌, ℕ, ◌≤◌, List, Result, Ok, Err, IfOk, sym, subst, ◌∙◌, arith}
use Rattle.std.specs.List.{AllByRecursion}
use Rattle.heap_words.specs.declared.config.Config.{Config}
use Rattle.heap_words.specs.declared.schedule.Item.{Item}
use Rattle.step_core.specs.Schedule.{Scripts}
use Rattle.trace_reading.specs.Grammar.{Reads}
use Rattle.trace_runs.specs.Words.{usual_steps}
use Rattle.trace_runs.specs.Replayed.{IsRun, IsReplayed}
use Rattle.trace_runs.proofs.Enough.{more_steps}
use Rattle.program_calls.specs.declared.note.Noted.{Noted}
use Rattle.program_calls.specs.declared.note.Noted.TheVariants.{Text, Long, Other}
use Rattle.program_calls.specs.Noted.{IsOfSteps, steps_named, IsReplayText, IsReplayIn, IsNotedAs}

-- some bytes are a trace
pub some_bytes : (bytes : List ℕ) (version : ℕ) (config : Config) (scripts : Scripts) (items : List Item) → Reads bytes version config scripts items → (spelled : List ℕ) × Reads spelled version config scripts items
some_bytes bytes version config scripts items reads = (bytes, reads)

-- the replay of a text has the answer of a run, where both were seen to be the same
pub replay_text : (version : ℕ) (config : Config) (scripts : Scripts) (items : List Item) (steps : ℕ) (text found wanted replayed answer : List ℕ) → Reads text version config scripts items
    → ((bytes : List ℕ) → Reads bytes version config scripts items → IsReplayed bytes steps replayed) → found ≡ replayed → wanted ≡ answer → found ≡ wanted
    → IsReplayText version config scripts items steps answer text
replay_text version config scripts items steps text found wanted replayed answer reads replays replayed_is answer_is same_text = record {
  reads = reads;
  replayed = subst (IsReplayed text steps) (sym replayed_is ∙ same_text ∙ answer_is) (replays text reads);
}

-- a text whose replay has the answer of a run is noted of the trace that was run
noted_text : (bytes answer : List ℕ) (old kept_version version : ℕ) (ran kept_config config : Config) (scripts kept_scripts others : Scripts) (items kept_items schedule named : List Item) (steps : ℕ) (found : Noted)
    → Reads bytes old ran scripts items → ((kept_bytes : List ℕ) → Reads kept_bytes old ran scripts items → IsRun kept_bytes answer) → Reads bytes kept_version kept_config kept_scripts kept_items
    → (version ≡ kept_version) × (config ≡ kept_config) × (others ≡ kept_scripts) × (named ≡ schedule)
    → AllByRecursion IsOfSteps schedule → steps ≡ steps_named schedule → steps ≤ usual_steps
    → IsReplayIn version config others named steps answer found → IsNotedAs bytes found
noted_text bytes answer old kept_version version ran kept_config config scripts kept_scripts others items kept_items schedule named steps (Text text) reads run reads_kept all_same of_steps count at_most replay_is = record {
  version = kept_version;
  config = kept_config;
  scripts = kept_scripts;
  items = kept_items;
  reads = reads_kept;
  answer = answer;
  run = run bytes reads;
  replay = record {
    items = schedule;
    reads =
        subst (λ (version : ℕ). Reads text.stored version kept_config kept_scripts schedule) all_same.0
        (subst (λ (config : Config). Reads text.stored version config kept_scripts schedule) all_same.1
        (subst (λ (any_scripts : Scripts). Reads text.stored version config any_scripts schedule) all_same.2 (subst (λ (any_items : List Item). Reads text.stored version config others any_items) all_same.3 replay_is.reads)));
    of_steps = of_steps;
    few = subst (λ (any_version : ℕ). any_version ≤ usual_steps) count at_most;
    replayed = λ limit enough. more_steps text.stored steps limit answer (omega (arith, count, enough)) replay_is.replayed;
  };
}
noted_text bytes answer old kept_version version ran kept_config config scripts kept_scripts others items kept_items schedule named steps Long reads run reads_kept all_same of_steps count at_most replay_is = tt
noted_text bytes answer old kept_version version ran kept_config config scripts kept_scripts others items kept_items schedule named steps Other reads run reads_kept all_same of_steps count at_most replay_is = tt

pub noted_as : {E : Type 0} (result : Result Noted E) (bytes answer : List ℕ) (old kept_version version : ℕ) (ran kept_config config : Config) (scripts kept_scripts others : Scripts) (items kept_items schedule named : List Item) (steps : ℕ)
    → Reads bytes old ran scripts items → ((kept_bytes : List ℕ) → Reads kept_bytes old ran scripts items → IsRun kept_bytes answer) → Reads bytes kept_version kept_config kept_scripts kept_items
    → (version ≡ kept_version) × (config ≡ kept_config) × (others ≡ kept_scripts) × (named ≡ schedule)
    → AllByRecursion IsOfSteps schedule → steps ≡ steps_named schedule → steps ≤ usual_steps
    → IfOk result (λ found. IsReplayIn version config others named steps answer found) → IfOk result (IsNotedAs bytes)
noted_as (Ok found) bytes answer old kept_version version ran kept_config config scripts kept_scripts others items kept_items schedule named steps reads run reads_kept all_same of_steps count at_most replay_is =
    noted_text bytes answer old kept_version version ran kept_config config scripts kept_scripts others items kept_items schedule named steps found reads run reads_kept all_same of_steps count at_most replay_is
noted_as (Err error) bytes answer old kept_version version ran kept_config config scripts kept_scripts others items kept_items schedule named steps reads run reads_kept all_same of_steps count at_most replay_is = tt
