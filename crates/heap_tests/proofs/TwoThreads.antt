-- Work for two threads, of which nothing was done.
use Rattle.std.proofs.Common.{◌≡◌, ℕ, zero, suc, ◌+◌, List, [], ◌∷◌, length, All, sym, ap, ◌∙◌, subst, arith}
use Rattle.std.specs.Prelude.{sum_by}
use Rattle.std.specs.List.{range_with_len}
use Rattle.std.proofs.lemmas.List.Sums.{sum_by-cons}
use Rattle.heap_words.specs.declared.config.Config.{Config}
use Rattle.shen_graph.specs.declared.command.Command.{Command}
use Rattle.shen_graph.specs.declared.order.Order.TheVariants.{Nothing}
use Rattle.shen_graph.specs.Work.{opened, script_in}
use Rattle.step_core.specs.Opening.{opening}
use Rattle.shen_core.specs.declared.plain.Plain.{Plain}
use Rattle.shen_core.specs.State.{config_of, orders_of, Shows}
use Rattle.shen_core.specs.Progress.{Jobs, CanRun, IsRunnable}
use Rattle.shen_core.specs.Noting.{commands_in}
use Rattle.shen_core.proofs.Fresh.{can_run_first}

both_run : (first_script second_script : List Command) → IsRunnable first_script → IsRunnable second_script → All IsRunnable (first_script ∷ second_script ∷ [])
both_run first_script second_script first_runs second_runs zero default index_below = first_runs
both_run first_script second_script first_runs second_runs (suc zero) default index_below = second_runs
both_run first_script second_script first_runs second_runs (suc (suc index)) default index_below = absurd (omega (arith, index_below))

-- a heap that was just opened can run them
pub can_run_two : (plain : Plain) (config : Config) (first_script second_script : List Command) (jobs : Jobs) → config_of plain ≡ config → Shows plain (opening config) → All (λ order. order ≡ Nothing) (orders_of plain) → config.mutators ≡ 2 → IsRunnable first_script → IsRunnable second_script → jobs ≡ opened (first_script ∷ second_script ∷ [])
    → CanRun plain jobs
can_run_two plain config first_script second_script jobs same_config shows orders two_mutators first_runs second_runs jobs_opened =
    let mutators = ap (λ (config : Config). config.mutators) same_config in
    subst (CanRun plain) (sym jobs_opened)
    (can_run_first plain (first_script ∷ second_script ∷ []) (subst (λ (config : Config). Shows plain (opening config)) (sym same_config) shows) orders (omega (arith, mutators, two_mutators)) (omega arith) (both_run first_script second_script first_runs second_runs))

sum_of_two : (f : ℕ → ℕ) → sum_by f (range_with_len 0 2) ≡ f 0 + f 1
sum_of_two f = let first_term = sum_by-cons f 0 (range_with_len 1 1) in let second = sum_by-cons f 1 (range_with_len 2 0) in omega (arith, first_term, second)

-- they have so many commands
pub commands_of_two : (config other_config : Config) (first_script second_script : List Command) (jobs : Jobs) → config ≡ other_config → other_config.mutators ≡ 2 → jobs ≡ opened (first_script ∷ second_script ∷ []) → commands_in config jobs ≡ length first_script + length second_script
commands_of_two config other_config first_script second_script jobs same_config two_mutators jobs_opened =
    ap (λ (config : Config). commands_in config jobs) same_config ∙ ap (λ (some_jobs : Jobs). commands_in other_config some_jobs) jobs_opened
    ∙ ap (λ mutators. sum_by (λ thread. length (script_in (opened (first_script ∷ second_script ∷ [])) thread)) (range_with_len 0 mutators)) two_mutators
    ∙ sum_of_two (λ thread. length (script_in (opened (first_script ∷ second_script ∷ [])) thread))
