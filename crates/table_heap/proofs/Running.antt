-- The mutators of a bundle and the work for them: what stays from turn to turn.
use Rattle.std.proofs.Common.{◌≡◌, ◌<◌, ℕ, true, length, Option, Some, None, refl, sym, ap, ◌∙◌, subst}
use Rattle.std.specs.Prelude.{slice_get, nat_lt, is_some, IfSome, unwrap_or, if◌then◌else◌}
use Rattle.std.proofs.lemmas.Bool.{false≢true}
use Rattle.shared_table.specs.Views.{View, machine_of}
use Rattle.shared_table.proofs.Kept.{kept_here, kept_some}
use Rattle.shared_table.proofs.Numbers.{same_none, same_more}
use Rattle.shen_graph.specs.Valid.{IsValid, most_objects}
use Rattle.shen_graph.specs.Work.{HasScript, next_of}
use Rattle.step_core.specs.Actor.{Actor}
use Rattle.heap_machines.specs.Shown.{no_machine, shown}
use Rattle.step_core.specs.Machines.{may_begin, made_of_machine}
use Rattle.heap_machines.specs.Roles.{is_mutating}
use Rattle.heap_machines.proofs.Turns.{rest_is_mutating, begins_at_rest}
use Rattle.table_heap.specs.declared.bundle.Bundle.{Bundle}
use Rattle.table_heap.specs.declared.heap.Heap.{Heap}
use Rattle.table_heap.specs.Core.{machine_in}
use Rattle.table_heap.specs.State.{view_of, machines_of, IsBundleOf, HasMachine, machine_at, IsSameBundle, IsUnchanged}
use Rattle.table_heap.specs.Running.{Jobs, HasNoMutator, AreAtWork, next_for, AreSameJobs}
use Rattle.table_heap.proofs.MachineUnder.{shows_here}
use Rattle.table_heap.proofs.Jobs.{has_here, next_here}
use Rattle.table_heap.proofs.AtWork.{next_fits}

-- a machine of the view is in memory
pub in_memory : (bundle : Bundle) (number : ℕ) (actor : Actor) → machine_of (view_of bundle) number ≡ Some actor → machine_of (machines_of bundle) number ≡ Some actor.machine
in_memory bundle number actor actor_seen = ap (λ asked_view. machine_of asked_view number) (sym bundle.kept) ∙ shows_here machine_in (view_of bundle) number actor actor_seen

pub at_number : (bundle : Bundle) (number : ℕ) (actor : Actor) → machine_of (view_of bundle) number ≡ Some actor → machine_at bundle number ≡ actor.machine
at_number bundle number actor actor_seen = ap (λ machine_found. unwrap_or machine_found no_machine) (in_memory bundle number actor actor_seen)

-- and a machine in memory is one of the view
pub in_view : (bundle : Bundle) (number : ℕ) → HasMachine bundle number → (actor : Actor) × (machine_of (view_of bundle) number ≡ Some actor)
in_view bundle number machine_here = by_machine (machine_of (view_of bundle) number) refl
  where
    by_machine : (found : Option Actor) → machine_of (view_of bundle) number ≡ found → (actor : Actor) × (machine_of (view_of bundle) number ≡ Some actor)
    by_machine None found_is =
        absurd (false≢true (sym (ap is_some found_is) ∙ sym (kept_some machine_in (view_of bundle) number) ∙ ap (λ asked_view. is_some (machine_of asked_view number)) bundle.kept ∙ machine_here))
    by_machine (Some actor) found_is = (actor, found_is)

-- its role is by its number
pub role_at : (bundle : Bundle) (number : ℕ) (actor : Actor) → machine_of (view_of bundle) number ≡ Some actor → is_mutating actor.machine ≡ nat_lt number bundle.config.mutators
role_at bundle number actor actor_seen =
    let machine_found = kept_here shown bundle.machines.items number actor.machine (in_memory bundle number actor actor_seen) in
    ap is_mutating (sym machine_found.2) ∙ (bundle.of_heap number machine_found.0 machine_found.1).role

-- the next command of a mutator's script can be given
pub command_fits : (bundle : Bundle) (jobs : Jobs) (number : ℕ) → AreAtWork bundle jobs → HasMachine bundle number → may_begin (machine_at bundle number) ≡ true
    → IfSome (next_for bundle.config jobs number) (λ command. IsValid command × (made_of_machine (machine_at bundle number) < most_objects))
command_fits bundle jobs number work machine_here free_to_begin =
    let seen_actor = in_view bundle number machine_here in
    let actor = seen_actor.0 in
    let at_machine = at_number bundle number actor seen_actor.1 in
    let actor_free : may_begin actor.machine ≡ true = ap may_begin (sym at_machine) ∙ free_to_begin in
    let role : is_mutating actor.machine ≡ true = rest_is_mutating actor.machine (begins_at_rest actor.machine actor_free) in
    let is_mutator : nat_lt number bundle.config.mutators ≡ true = sym (role_at bundle number actor seen_actor.1) ∙ role in
    let job = work.mutators number actor seen_actor.1 role in
    let next_is : next_for bundle.config jobs number ≡ slice_get job.0.script (length job.0.replies) = ap (λ test. if test then next_of jobs number else None) is_mutator ∙ next_here jobs number job.0 job.1 in
    subst (λ command_found. IfSome command_found (λ command. IsValid command × (made_of_machine (machine_at bundle number) < most_objects))) (sym next_is)
    (subst (λ machine. IfSome (slice_get job.0.script (length job.0.replies)) (λ command. IsValid command × (made_of_machine machine < most_objects))) (sym at_machine)
    (next_fits job.0 actor job.2 actor_free))

-- a mutator of the bundle has a script
pub has_script : (bundle : Bundle) (jobs : Jobs) (number : ℕ) → AreAtWork bundle jobs → HasMachine bundle number → nat_lt number bundle.config.mutators ≡ true → HasScript jobs number
has_script bundle jobs number work machine_here mutator_below =
    let seen_actor = in_view bundle number machine_here in
    let job = work.mutators number seen_actor.0 seen_actor.1 (role_at bundle number seen_actor.0 seen_actor.1 ∙ mutator_below) in
    has_here jobs number job.0 job.1

-- roles stay in the same bundle
pub no_mutator_stays : (old new : Bundle) (number : ℕ) → IsSameBundle old new → HasNoMutator (view_of old) number → HasNoMutator (view_of new) number
no_mutator_stays old new number bundle_same no_mutator new_actor actor_seen =
    let old_actor = in_old (machine_of (view_of old) number) refl in
    role_at new number new_actor actor_seen ∙ ap (λ config. nat_lt number config.mutators) bundle_same.config ∙ sym (role_at old number old_actor.0 old_actor.1) ∙ no_mutator old_actor.0 old_actor.1
  where
    in_old : (found : Option Actor) → machine_of (view_of old) number ≡ found → (actor : Actor) × (machine_of (view_of old) number ≡ Some actor)
    in_old None found_is = absurd (false≢true (sym (ap is_some found_is) ∙ sym (bundle_same.numbers.here number) ∙ ap is_some actor_seen))
    in_old (Some actor) found_is = (actor, found_is)

-- the same work
pub same_jobs : (view : View Actor) (jobs : Jobs) → AreSameJobs view jobs jobs
same_jobs view jobs = record { scripts = λ t. refl; numbers = λ t. refl; others = λ t not_mutator. refl }

pub same_jobs_more : (old mid : Bundle) (jobs between later : Jobs) → IsSameBundle old mid → AreSameJobs (view_of old) jobs between → AreSameJobs (view_of mid) between later → AreSameJobs (view_of old) jobs later
same_jobs_more old mid jobs between later bundle_same first_same second_same = record {
  scripts = λ asked_number. second_same.scripts asked_number ∙ first_same.scripts asked_number;
  numbers = λ asked_number. second_same.numbers asked_number ∙ first_same.numbers asked_number;
  others = λ number not_mutator. second_same.others number (no_mutator_stays old mid number bundle_same not_mutator) ∙ first_same.others number not_mutator;
}

-- the same bundle
pub same_bundle : (bundle : Bundle) → IsSameBundle bundle bundle
same_bundle bundle = record { table = refl; config = refl; key = refl; numbers = same_none (view_of bundle) }

pub same_bundle_more : (old mid new : Bundle) → IsSameBundle old mid → IsSameBundle mid new → IsSameBundle old new
same_bundle_more old mid new first_same second_same = record {
  table = second_same.table ∙ first_same.table;
  config = second_same.config ∙ first_same.config;
  key = second_same.key ∙ first_same.key;
  numbers = same_more (view_of old) (view_of mid) (view_of new) first_same.numbers second_same.numbers;
}

-- so it is one of its heap still
pub still_of : (old new : Bundle) (heap : Heap) → IsSameBundle old new → IsBundleOf old heap → IsBundleOf new heap
still_of old new heap bundle_same bundle_of = record { table = bundle_same.table ∙ bundle_of.table; config = bundle_same.config ∙ bundle_of.config; key = ap (λ heap_key. heap_key.value) bundle_same.key ∙ bundle_of.key }

-- the work of a bundle that is as it was
pub work_unchanged : (old new : Bundle) (jobs : Jobs) → IsUnchanged old new → AreAtWork old jobs → AreAtWork new jobs
work_unchanged old new jobs unchanged work = record {
  orders = λ number order order_there. work.orders number order (ap (λ asked_view. machine_of asked_view number) (sym unchanged.orders) ∙ order_there);
  mutators = λ number actor actor_seen role. work.mutators number actor (ap (λ asked_view. machine_of asked_view number) (sym unchanged.unmoved.view) ∙ actor_seen) role;
}
