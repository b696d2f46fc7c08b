-- A bundle of a heap before its first event can start with scripts for its mutators.
use Rattle.std.proofs.Common.{◌≡◌, ◌<◌, ℕ, Bool, true, false, List, length, All, Some, None, refl, sym, ap, ◌∙◌, subst}
use Rattle.std.specs.Prelude.{nat_lt, if◌then◌else◌}
use Rattle.std.proofs.lemmas.Bool.{ltb-true}
use Rattle.heap_words.specs.declared.config.Config.{Config}
use Rattle.shared_table.specs.Views.{View, machine_of, whole, dealt_to, is_dealt_to}
use Rattle.shared_table.proofs.ViewsShow.{machine_of-whole, machine_of-picked}
use Rattle.shen_graph.specs.declared.command.Command.{Command}
use Rattle.shen_graph.specs.Valid.{IsValid, most_objects}
use Rattle.shen_graph.specs.Work.{progress_of, begun}
use Rattle.step_core.specs.Actor.{Actor}
use Rattle.step_core.specs.Machines.{is_resting, may_begin, made_of_machine}
use Rattle.heap_machines.specs.Roles.{is_mutating}
use Rattle.heap_machines.proofs.Openings.{first_is, first_role, first_rests, first_free_to_begin, first_made}
use Rattle.table_heap.specs.declared.bundle.Bundle.{Bundle}
use Rattle.table_heap.specs.declared.heap.Heap.{Heap}
use Rattle.table_heap.specs.Core.{heap_opening}
use Rattle.table_heap.specs.State.{IsFresh}
use Rattle.table_heap.specs.Running.{Jobs, CanStart}
use Rattle.table_heap.proofs.Jobs.{has_here, script_here, replies_here}
use Rattle.table_heap.proofs.Opened.{picked_some}

-- a machine that was dealt to the bundle
dealt_here : {R : Type 0} (test : ℕ → Bool) (view : View R) (number : ℕ) (r : R) → (if test number then machine_of view number else None) ≡ Some r → test number ≡ true
dealt_here {R} test given_view number r dealt_there = by_test (test number) refl dealt_there
  where
    by_test : (holds : Bool) → test number ≡ holds → (if holds then machine_of given_view number else None) ≡ Some r → test number ≡ true
    by_test true test_is machine_found = test_is
    by_test false test_is machine_found = absurd cc

-- A bundle that was dealt from the machines of the opening, where the work has for each mutator that is dealt to it a script that
-- is not begun, of commands in range, and no more than there are names for what they make.
pub fresh_can_start : (heap : Heap) (fresh_bundle : Bundle) (config : Config) (workers bundle : ℕ) (jobs : Jobs) → IsFresh heap fresh_bundle (dealt_to workers bundle (whole (heap_opening config).machines))
    → ((number : ℕ) → number < config.mutators → is_dealt_to workers bundle number ≡ true → (script : List Command) × (progress_of jobs number ≡ Some (begun script)) × All IsValid script × (length script < most_objects))
    → CanStart fresh_bundle jobs
fresh_can_start heap fresh_bundle config workers bundle jobs fresh scripts = record {
  orders = fresh.orders;
  mutators = λ number actor actor_dealt role.
      let test : ℕ → Bool = is_dealt_to workers bundle in
      let all_actors : View Actor = whole (heap_opening config).machines in
      let actor_there : machine_of (dealt_to workers bundle all_actors) number ≡ Some actor = ap (λ asked_view. machine_of asked_view number) (sym fresh.machines) ∙ actor_dealt in
      let dealt = dealt_here test all_actors number actor (sym (machine_of-picked test all_actors number) ∙ actor_there) in
      let first_facts = first_is config number actor (sym (machine_of-whole (heap_opening config).machines number) ∙ picked_some test all_actors number actor actor_there) in
      let actor_is = first_facts.1 in
      let mutates : nat_lt number config.mutators ≡ true = sym (first_role config number) ∙ ap (λ x. is_mutating x.machine) actor_is ∙ role in
      let mutator_below : number < config.mutators = ltb-true number config.mutators mutates in
      let job = scripts number mutator_below dealt in
      let script = script_here jobs number (begun job.0) job.1 in
      record {
        calls = ap (λ x. x.calls) (sym actor_is);
        rest = ap (λ x. is_resting x.machine) (sym actor_is) ∙ first_rests config number mutator_below;
        free = ap (λ x. may_begin x.machine) (sym actor_is) ∙ first_free_to_begin config number mutator_below;
        made = ap (λ x. made_of_machine x.machine) (sym actor_is) ∙ first_made config number;
        script = has_here jobs number (begun job.0) job.1;
        replies = replies_here jobs number (begun job.0) job.1;
        commands = subst (λ xs. All IsValid xs) (sym script) job.2;
        few = subst (λ xs. length xs < most_objects) (sym script) job.3;
      };
}
