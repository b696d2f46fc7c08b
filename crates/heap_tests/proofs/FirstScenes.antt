-- Heaps before the first event, with scripts that nothing was done of.
use Rattle.std.proofs.Common.{◌≡◌, ◌<◌, ◌≤◌, ◌%◌, ℕ, Bool, true, List, [], length, get_or, All, Some, None, sym, ap, ◌∙◌, subst, arith}
use Rattle.std.specs.Prelude.{slice_get, ◌==◌, if◌then◌else◌, is_some, unwrap_or}
use Rattle.std.specs.Option.{option_map}
use Rattle.std.proofs.lemmas.Bool.Decides.{nat_tests}
use Rattle.std.proofs.lemmas.List.FromFn.{get_or-map-range_with_len}
use Rattle.std.proofs.lemmas.Option.{slice_get-get_or}
use Rattle.heap_words.specs.declared.config.Config.{Config}
use Rattle.heap_words.specs.Ranges.{seat_count}
use Rattle.shared_table.specs.Views.{machine_of, whole, dealt_to, is_dealt_to, kept_one}
use Rattle.shared_table.proofs.Kept.{machine_of-kept}
use Rattle.shared_table.proofs.ViewsShow.{machine_of-whole, machine_of-picked}
use Rattle.shen_graph.specs.declared.command.Command.{Command}
use Rattle.shen_graph.specs.Work as work
use Rattle.shen_graph.specs.declared.order.Order.TheVariants.{Nothing}
use Rattle.step_core.specs.Machines.{may_begin}
use Rattle.step_core.specs.Opening.{opening, opening_machine, opening_actor}
use Rattle.heap_machines.specs.Shown.{no_machine}
use Rattle.heap_machines.proofs.Openings.{first_actor, first_free_to_begin}
use Rattle.shen_core.specs.declared.plain.Plain.{Plain}
use Rattle.shen_core.specs.State as plain
use Rattle.shen_core.specs.State.{Shows}
use Rattle.shen_core.specs.Progress.{CanRun, IsRunnable}
use Rattle.shen_core.proofs.Fresh.{can_run_first}
use Rattle.table_heap.specs.declared.bundle.Bundle.{Bundle}
use Rattle.table_heap.specs.declared.heap.Heap.{Heap}
use Rattle.table_heap.specs.Core.{heap_opening, machine_in}
use Rattle.table_heap.specs.State.{IsFresh, view_of, machines_of}
use Rattle.table_heap.specs.Running.{Jobs}
use Rattle.table_heap.proofs.Rounds.{at_start}
use Rattle.table_heap.proofs.Starting.{fresh_can_start}
use Rattle.heap_tests.specs.Ordered.{IsPlaying}

-- a heap that one thread has can run them
pub can_run : (open_plain : Plain) (config : Config) (scripts : List (List Command)) (jobs : Jobs) → plain.config_of open_plain ≡ config → Shows open_plain (opening config) → All (λ order. order ≡ Nothing) (plain.orders_of open_plain) → config.mutators ≡ length scripts → length scripts ≤ 8 → All IsRunnable scripts → jobs ≡ work.opened scripts
    → CanRun open_plain jobs
can_run open_plain config scripts jobs same_config shows orders count at_most served opened =
    let mutators = ap (λ (config : Config). config.mutators) same_config in
    subst (CanRun open_plain) (sym opened) (can_run_first open_plain scripts (subst (λ (config : Config). Shows open_plain (opening config)) (sym same_config) shows) orders (omega (arith, mutators, count)) at_most served)

-- a machine of a heap whose machines lie in one bundle
fresh_at : (config : Config) (bundle : Bundle) (number : ℕ) → view_of bundle ≡ dealt_to 1 0 (whole (heap_opening config).machines) → number < seat_count config.mutators config.helpers → machine_of (machines_of bundle) number ≡ Some (opening_machine config number)
fresh_at config bundle number fresh within =
    let actor_here : machine_of (view_of bundle) number ≡ Some (opening_actor config number) =
    ap (λ asked_view. machine_of asked_view number) fresh ∙ machine_of-picked (is_dealt_to 1 0) (whole (heap_opening config).machines) number
    ∙ ap (λ is_dealt. if is_dealt then machine_of (whole (heap_opening config).machines) number else None) test
    ∙ machine_of-whole (heap_opening config).machines number ∙ first_actor config number within in
    ap (λ asked_view. machine_of asked_view number) (sym bundle.kept) ∙ machine_of-kept machine_in (view_of bundle) number ∙ ap (kept_one machine_in) actor_here
  where
    test : (number % 1 == 0) ≡ true
    test = grind (arith, nat_tests)

-- nothing was done of a script
script_first : (scripts : List (List Command)) (index : ℕ) → index < length scripts → length scripts ≤ 8 → work.progress_of (work.opened scripts) index ≡ Some (work.begun (get_or scripts index []))
script_first scripts index index_below at_most =
    get_or-map-range_with_len (λ index. option_map work.begun (slice_get scripts index)) 0 8 index index None (omega arith) (omega arith)
    ∙ ap (option_map work.begun) (slice_get-get_or scripts index [] index_below)

-- and one that threads could share can
pub is_playing : (heap : Heap) (bundle : Bundle) (config : Config) (scripts : List (List Command)) (jobs : Jobs) (between : List Bool) → IsFresh heap bundle (dealt_to 1 0 (whole (heap_opening config).machines)) → heap.config ≡ config → config.mutators ≡ length scripts → length scripts ≤ 8 → All IsRunnable scripts
    → jobs ≡ work.opened scripts → length between ≡ 8 → IsPlaying heap bundle jobs config between
is_playing heap bundle config scripts jobs between fresh same_config count at_most served opened eight_flags = record {
  of = fresh.of;
  works = at_start bundle jobs (fresh_can_start heap bundle config 1 0 jobs fresh (λ number number_below dealt.
      let within : number < length scripts = omega (arith, number_below, count) in
      let runs = served number [] within in
      (get_or scripts number [], ap (λ some_jobs. work.progress_of some_jobs number) opened ∙ script_first scripts number within at_most, runs.0, runs.1)));
  same = fresh.of.config ∙ same_config;
  here = λ number within. ap is_some (fresh_at config bundle number fresh.machines within);
  rests = λ seat_number number_below flag_set. ap (λ machine_found. may_begin (unwrap_or machine_found no_machine)) (fresh_at config bundle seat_number fresh.machines (omega arith)) ∙ first_free_to_begin config seat_number number_below;
  long = eight_flags;
}
