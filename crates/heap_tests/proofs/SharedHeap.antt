-- What is known of the bundle of a heap before the first event, and of one whose machines have made steps.
use Rattle.std.proofs.Common.{◌≡◌, ℕ, ◌<◌, ◌≤◌, ◌%◌, true, List, [], length, All, Some, None, sym, ap, ◌∙◌, subst, arith}
use Rattle.std.specs.Prelude.{◌==◌, if◌then◌else◌, unwrap_or, slice_index_or}
use Rattle.std.proofs.lemmas.Option.{slice_get-get_or}
use Rattle.shared_table.specs.Views.{whole, dealt_to, machine_of, kept_one, is_dealt_to}
use Rattle.heap_words.specs.declared.config.Config.{Config}
use Rattle.shen_graph.specs.declared.command.Command.{Command}
use Rattle.shen_graph.specs.Work.{begun, opened, progress_of}
use Rattle.shen_graph.proofs.Parts.{progress_of-opened}
use Rattle.shen_core.specs.Progress.{IsRunnable}
use Rattle.table_heap.specs.declared.bundle.Bundle.{Bundle}
use Rattle.table_heap.specs.declared.heap.Heap.{Heap}
use Rattle.table_heap.specs.Core.{heap_opening, machine_in}
use Rattle.table_heap.specs.Closed.{HasAll}
use Rattle.table_heap.specs.Running.{Jobs, CanStart}
use Rattle.table_heap.specs.State.{config_of, IsBundleOf, IsFresh, view_of, machines_of, machine_at, HasMachine, IsSameBundle}
use Rattle.table_heap.proofs.Starting.{fresh_can_start}
use Rattle.std.specs.Option.{is_some, option_map}
use Rattle.std.proofs.lemmas.Bool.Decides.{nat_tests}
use Rattle.heap_words.specs.Ranges.{seat_count}
use Rattle.shared_table.proofs.Kept.{machine_of-kept, kept_some}
use Rattle.shared_table.proofs.ViewsShow.{machine_of-whole, machine_of-picked}
use Rattle.heap_machines.specs.Shown.{no_machine}
use Rattle.heap_machines.proofs.Openings.{first_actor, first_free_to_begin, first_made}
use Rattle.step_core.specs.Machines.{may_begin, made_of_machine}
use Rattle.step_core.specs.Opening.{opening_machine, opening_actor}

-- it has its machines still
has_in_view : (bundle : Bundle) (number : ℕ) → is_some (machine_of (machines_of bundle) number) ≡ is_some (machine_of (view_of bundle) number)
has_in_view bundle number = ap (λ asked_view. is_some (machine_of asked_view number)) (sym bundle.kept) ∙ kept_some machine_in (view_of bundle) number

pub same_has : (old new : Bundle) (number : ℕ) → IsSameBundle old new → HasMachine old number → HasMachine new number
same_has old new number same_bundle has_machine = has_in_view new number ∙ same_bundle.numbers.here number ∙ sym (has_in_view old number) ∙ has_machine

-- a machine before the first event
fresh_at : (config : Config) (bundle : Bundle) (bundles index number : ℕ) → view_of bundle ≡ dealt_to bundles index (whole (heap_opening config).machines) → number < seat_count config.mutators config.helpers → number % bundles ≡ index
    → machine_of (machines_of bundle) number ≡ Some (opening_machine config number)
fresh_at config bundle bundles index number fresh within dealt =
    let actor_here : machine_of (view_of bundle) number ≡ Some (opening_actor config number) =
    ap (λ asked_view. machine_of asked_view number) fresh ∙ machine_of-picked (is_dealt_to bundles index) (whole (heap_opening config).machines) number
    ∙ ap (λ is_dealt. if is_dealt then machine_of (whole (heap_opening config).machines) number else None) test
    ∙ machine_of-whole (heap_opening config).machines number ∙ first_actor config number within in
    ap (λ asked_view. machine_of asked_view number) (sym bundle.kept) ∙ machine_of-kept machine_in (view_of bundle) number ∙ ap (kept_one machine_in) actor_here
  where
    test : (number % bundles == index) ≡ true
    test = grind (arith, nat_tests, dealt)

-- a bundle of the heap whose mutator has not begun a call
pub record CanCall (heap : Heap) (bundle : Bundle) (number : ℕ) : Type 0 where
  pub of : IsBundleOf bundle heap
  pub has : HasMachine bundle number
  pub rest : may_begin (machine_at bundle number) ≡ true
  pub made : made_of_machine (machine_at bundle number) ≡ 0

pub fresh_can_call : (config : Config) (heap : Heap) (bundle : Bundle) (bundles index number : ℕ) → IsFresh heap bundle (dealt_to bundles index (whole (heap_opening config).machines)) → number < config.mutators → number % bundles ≡ index → CanCall heap bundle number
fresh_can_call config heap bundle bundles index number fresh within dealt =
    let machine_there = fresh_at config bundle bundles index number fresh.machines (omega (arith, within)) dealt in
    record {
      of = fresh.of;
      has = ap is_some machine_there;
      rest = ap (λ machine_found. may_begin (unwrap_or machine_found no_machine)) machine_there ∙ first_free_to_begin config number within;
      made = ap (λ machine_found. made_of_machine (unwrap_or machine_found no_machine)) machine_there ∙ first_made config number;
    }

-- a bundle of all machines of a heap has them before the first event, and later
pub fresh_has_all : (config : Config) (heap : Heap) (bundle after : Bundle) → IsFresh heap bundle (dealt_to 1 0 (whole (heap_opening config).machines)) → config_of heap ≡ config → IsSameBundle bundle after → HasAll after
fresh_has_all other_config heap bundle after fresh config same_bundle number number_below =
    let within : number < seat_count other_config.mutators other_config.helpers = subst (λ (config : Config). number < seat_count config.mutators config.helpers) (same_bundle.config ∙ fresh.of.config ∙ config) number_below in
    same_has bundle after number same_bundle (ap is_some (fresh_at other_config bundle 1 0 number fresh.machines within (omega arith)))

-- it can start with scripts that a mutator can be given
pub fresh_can_run : (config : Config) (heap : Heap) (bundle : Bundle) (scripts : List (List Command)) (jobs : Jobs) → IsFresh heap bundle (dealt_to 1 0 (whole (heap_opening config).machines)) → length scripts ≡ config.mutators → length scripts ≤ 8
    → All IsRunnable scripts → jobs ≡ opened scripts → CanStart bundle jobs
fresh_can_run config heap bundle scripts jobs fresh count at_most runnable jobs_opened = fresh_can_start heap bundle config 1 0 jobs fresh (λ number number_below dealt.
    let within : number < length scripts = omega (arith, number_below, count) in
    let script = slice_index_or scripts number [] in (
      script,
      ap (λ all_jobs. progress_of all_jobs number) jobs_opened ∙ progress_of-opened scripts number at_most ∙ ap (option_map begun) (slice_get-get_or scripts number [] within),
      (runnable number [] within).0,
      (runnable number [] within).1,
    ))
