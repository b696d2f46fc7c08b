-- A heap that was just opened runs a trace.
use Rattle.std.proofs.Common.{◌≡◌, ℕ, suc, ◌+◌, ◌<◌, ◌≤◌, List, [], ◌∷◌, ◌++◌, length, All, refl, sym, ap, subst, ◌∙◌, arith}
use Rattle.std.specs.Prelude.{sum_by}
use Rattle.std.specs.List.{range_with_len}
use Rattle.std.proofs.lemmas.List.Sums.{sum_by-cons}
use Rattle.heap_words.specs.declared.config.Config.{Config}
use Rattle.heap_words.specs.declared.schedule.Item.{Item}
use Rattle.heap_words.specs.Steps.{go}
use Rattle.shen_graph.specs.Noting.{Noting}
use Rattle.shen_graph.specs.Work as work
use Rattle.shen_graph.specs.declared.order.Order.TheVariants.{Nothing}
use Rattle.step_core.specs.Opening.{opening}
use Rattle.step_core.specs.Schedule.{Scripts, nth_script, agenda_of}
use Rattle.step_core.proofs.Theorem.FirstFacts.{opening_run}
use Rattle.shen_core.specs.declared.plain.Plain.{Plain}
use Rattle.shen_core.specs.declared.run.Ran.{Ran}
use Rattle.shen_core.specs.declared.run.Ran.TheVariants.{Finished, Unfinished}
use Rattle.shen_core.specs.State.{config_of, orders_of, Shows}
use Rattle.shen_core.specs.Progress.{Jobs, Tells, CanRun, IsRunnable}
use Rattle.shen_core.specs.WholeRun.{HasRun, RunsSchedule}
use Rattle.shen_core.specs.Noting.{IsEnding, IsHistory, NotesSchedule, commands_in}
use Rattle.shen_core.proofs.Calls.{all_call_first}
use Rattle.shen_core.proofs.Fresh.{can_run_first, tells_first}
use Rattle.trace_reading.specs.Grammar.{Reads}
use Rattle.trace_runs.specs.Replayed.{IsUnfinished, history_of}
use Rattle.trace_runs.specs.Running.{HasFinished}

pub can_run : (plain : Plain) (config : Config) (scripts : Scripts) (jobs : Jobs) → config_of plain ≡ config → Shows plain (opening config) → All (λ order. order ≡ Nothing) (orders_of plain) → length scripts ≡ config.mutators → All IsRunnable scripts → jobs ≡ work.opened scripts → CanRun plain jobs
can_run plain config scripts jobs same_config shows orders count scripts_served jobs_opened =
    let mutators = ap (λ (config : Config). config.mutators) same_config in
    subst (CanRun plain) (sym jobs_opened)
    (can_run_first plain scripts (subst (λ (config : Config). Shows plain (opening config)) (sym same_config) shows) orders (omega (arith, mutators, count)) (omega (arith, count)) scripts_served)

-- the events of the schedule were made from the opening
has_run : (plain next_plain : Plain) (config : Config) (scripts : Scripts) (items : List Item) (limit : ℕ) (jobs later : Jobs) (result : Ran) → config_of plain ≡ config → Shows plain (opening config) → length scripts ≡ config.mutators → jobs ≡ work.opened scripts
    → RunsSchedule plain jobs items limit next_plain later result → HasRun config scripts (opening config) (agenda_of items) limit next_plain later result
has_run plain next_plain config scripts items limit jobs later result same_config shows count jobs_opened runs =
    subst (λ (other_config : Config). HasRun other_config scripts (opening config) (agenda_of items) limit next_plain later result) same_config
    (runs scripts (opening config) shows (subst (λ (other_config : Config). Tells other_config scripts jobs (opening config)) (sym same_config) (subst (λ (given_jobs : Jobs). Tells config scripts given_jobs (opening config)) (sym jobs_opened) (tells_first config scripts (sym count) (omega (arith, count))))))

pub finished : (plain next_plain : Plain) (config : Config) (scripts : Scripts) (items : List Item) (limit : ℕ) (jobs later : Jobs) → config_of plain ≡ config → Shows plain (opening config) → length scripts ≡ config.mutators → jobs ≡ work.opened scripts
    → RunsSchedule plain jobs items limit next_plain later Finished → config_of next_plain ≡ config_of plain → CanRun next_plain later → HasFinished config scripts items limit later next_plain
finished plain next_plain config scripts items limit jobs later same_config shows count jobs_opened runs same_kept can_run =
    let ran = has_run plain next_plain config scripts items limit jobs later Finished same_config shows count jobs_opened runs in
    record {
      config = same_kept ∙ same_config;
      idle = ran.ended;
      called = ran.whole refl (all_call_first config scripts);
      shows = ran.shows;
      tells = ran.tells;
      jobs_are = λ mutator mutator_below. can_run.jobs_are mutator (subst (λ (config : Config). mutator < config.mutators) (sym (same_kept ∙ same_config)) mutator_below);
    }

pub unfinished : (plain next_plain : Plain) (bytes : List ℕ) (version : ℕ) (config : Config) (scripts : Scripts) (items : List Item) (limit : ℕ) (jobs later : Jobs) → config_of plain ≡ config → Shows plain (opening config) → length scripts ≡ config.mutators → jobs ≡ work.opened scripts
    → RunsSchedule plain jobs items limit next_plain later Unfinished → Reads bytes version config scripts items → IsUnfinished bytes limit
unfinished plain next_plain bytes version config scripts items limit jobs later same_config shows count jobs_opened runs reads =
    let ran = has_run plain next_plain config scripts items limit jobs later Unfinished same_config shows count jobs_opened runs in
    record { version = version; config = config; scripts = scripts; items = items; reads = reads; cut = record { busy = ran.ended.0; count = ran.ended.1 } }

-- ---- a run that is noted

-- numbers that are the lengths of scripts have their sum
sum_of_lengths : (length_at : ℕ → ℕ) (scripts : Scripts) (from : ℕ) → ((index : ℕ) → index < length scripts → length_at (from + index) ≡ length (nth_script scripts index)) → sum_by length_at (range_with_len from (length scripts)) ≡ sum_by length scripts
sum_of_lengths length_at [] from same_lengths = refl
sum_of_lengths length_at (script ∷ scripts) from same_lengths =
    let first_length : length_at from ≡ length script = ap length_at (omega arith) ∙ same_lengths 0 (omega arith) in
    let cons = sum_by-cons length_at from (range_with_len (from + 1) (length scripts)) in
    let length_cons = sum_by-cons length script scripts in
    let later_sum = sum_of_lengths length_at scripts (from + 1) (λ index index_below. ap length_at (omega arith) ∙ same_lengths (suc index) (omega arith)) in
    omega (arith, first_length, cons, length_cons, later_sum)

-- the work of a heap that was just opened has as many commands as the scripts
pub commands_first : (config other_config : Config) (scripts : Scripts) (jobs : Jobs) → other_config ≡ config → length scripts ≡ config.mutators → jobs ≡ work.opened scripts → commands_in other_config jobs ≡ sum_by length scripts
commands_first config other_config scripts jobs same_config count jobs_opened =
    let few_scripts : length scripts ≤ 8 = omega (arith, count) in
    let tells : Tells config scripts (work.opened scripts) (opening config) = tells_first config scripts (sym count) few_scripts in
    ap (λ (config : Config). commands_in config jobs) same_config ∙ ap (λ (given_jobs : Jobs). commands_in config given_jobs) jobs_opened
    ∙ ap (λ amount. sum_by (λ mutator. length (work.script_in (work.opened scripts) mutator)) (range_with_len 0 amount)) (sym count)
    ∙ sum_of_lengths (λ mutator. length (work.script_in (work.opened scripts) mutator)) scripts 0 (λ index index_below.
    let zeroth : 0 + index ≡ index = omega arith in
    ap (λ mutator. length (work.script_in (work.opened scripts) mutator)) zeroth ∙ ap length (tells.scripts_are index (omega (arith, index_below, count))))

-- some run ends in the opening: the one without an event
opening_ends : (config : Config) → IsEnding config (opening config)
unfolding go
opening_ends config = (opening_run config [], refl)

-- and the run notes the history of the trace
pub noted_history : (plain : Plain) (config : Config) (scripts : Scripts) (items : List Item) (limit : ℕ) (jobs : Jobs) (old new : Noting) → config_of plain ≡ config → Shows plain (opening config) → length scripts ≡ config.mutators → jobs ≡ work.opened scripts
    → old.list ≡ [] → NotesSchedule plain jobs items limit old new → new.list ≡ history_of config scripts items limit
noted_history plain config scripts items limit jobs old new same_config shows count jobs_opened no_entries notes =
    let is_history : IsHistory config scripts (opening config) items limit old new = subst (λ (other_config : Config). IsHistory other_config scripts (opening config) items limit old new) same_config
    (notes scripts (opening config) shows (subst (λ (other_config : Config). Tells other_config scripts jobs (opening config)) (sym same_config) (subst (λ (given_jobs : Jobs). Tells config scripts given_jobs (opening config)) (sym jobs_opened) (tells_first config scripts (sym count) (omega (arith, count)))))
    (subst (λ (other_config : Config). IsEnding other_config (opening config)) (sym same_config) (opening_ends config))) in
    is_history.entries ∙ ap (λ given_entries. given_entries ++ history_of config scripts items limit) no_entries
