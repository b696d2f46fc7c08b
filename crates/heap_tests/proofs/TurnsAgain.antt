-- A machine of a bundle that has its order, and its step.
use Rattle.std.proofs.Common.{◌≡◌, ◌≢◌, ◌<◌, ◌≤◌, ℕ, zero, suc, Bool, true, false, List, [], ◌∷◌, length, Option, Some, None, ◌⊎◌, inl, inr, refl, sym, ap, ◌∙◌, subst, ⊎_elim, arith}
use Rattle.std.specs.Prelude.{slice_get, slice_set, unwrap_or, is_some, IfSome, ◌==◌, if◌then◌else◌}
use Rattle.std.proofs.lemmas.Bool.{false≢true}
use Rattle.std.proofs.lemmas.Bool.Decides.{nat_tests}
use Rattle.shared_table.specs.Views.{View, machine_of, kept_in_view, kept_one}
use Rattle.shared_table.proofs.Kept.{kept_here, kept_some, machine_of-kept}
use Rattle.shared_table.proofs.ViewsShow.{machine_of-set, slice_get-set}
use Rattle.shen_graph.specs.declared.command.Command.{Command}
use Rattle.shen_graph.specs.declared.order.Order.{Order}
use Rattle.shen_graph.specs.declared.order.Order.TheVariants.{Nothing}
use Rattle.shen_graph.specs.declared.command.Reply.{Reply}
use Rattle.shen_graph.specs.Valid.{IsValid, most_objects}
use Rattle.shen_graph.specs.Work.{HasScript, next_of, script_in, replies_of, with_reply}
use Rattle.mutator.specs.declared.spot.Spot.{Spot}
use Rattle.mutator.specs.declared.spot.Spot.TheVariants.{Ended}
use Rattle.mutator.specs.Orders.{takes_commands}
use Rattle.mutator.specs.Rows.{reply_at}
use Rattle.step_core.specs.Actor.{Machine, mutating}
use Rattle.step_core.specs.Machines.{takes_of, may_begin, made_of_machine, reply_in, next_order}
use Rattle.step_core.proofs.Machines.Roles.{turn_in_call}
use Rattle.heap_machines.specs.Roles.{is_mutating}
use Rattle.heap_machines.specs.Shown.{shown, order_of, no_machine}
use Rattle.heap_machines.specs.Turn.{order_for}
use Rattle.heap_machines.specs.declared.stepped.Stepped.{Stepped}
use Rattle.heap_machines.specs.declared.stepped.Stepped.TheVariants as stepped
use Rattle.heap_machines.proofs.Turns.{begins_at_rest, rest_takes, rest_is_mutating, turn_at_rest}
use Rattle.table_heap.specs.declared.bundle.Bundle.{Bundle}
use Rattle.table_heap.specs.declared.heap.Heap.{Heap}
use Rattle.table_heap.specs.Core.{machine_in}
use Rattle.table_heap.specs.State.{view_of, machines_of, orders_of, HasMachine, machine_at, order_at, has_turn, IsSameBundle, IsUnmoved, IsUnchanged, IsBundleStep}
use Rattle.table_heap.specs.Turning.{IsTurn}
use Rattle.table_heap.specs.Running.{Jobs, HasNoOrder, AreAtWork, next_for}
use Rattle.table_heap.proofs.MachineUnder.{shows_here}
use Rattle.table_heap.proofs.Running.{in_memory, at_number, in_view, role_at, same_bundle, still_of, has_script, command_fits, work_unchanged}
use Rattle.table_heap.proofs.Turning.{was, then_is, view_is, here, turned_on, turned_noted, can_tell}
use Rattle.heap_words.specs.declared.config.Config.{Config}
use Rattle.heap_tests.specs.Ordered.{IsOrdered, MayAt, IsPlaying}

-- what is put where it is
set_same : {R : Type 0} (view : View R) (number : ℕ) (x : R) → machine_of view number ≡ Some x → slice_set view number (Some x) ≡ view
set_same [] number x element_there = refl
set_same (y ∷ ys) zero x element_there = ap (λ z. z ∷ ys) (sym element_there)
set_same (y ∷ ys) (suc number) x element_there = ap (λ zs. y ∷ zs) (set_same ys number x element_there)

set_there : {R : Type 0} (view : View R) (number : ℕ) (x y : R) → machine_of view number ≡ Some x → machine_of (slice_set view number (Some y)) number ≡ Some y
set_there [] number x y element_there = absurd cc
set_there (z ∷ zs) zero x y element_there = refl
set_there (z ∷ zs) (suc number) x y element_there = set_there zs number x y element_there

-- the order of a machine of a bundle
pub order_there : (bundle : Bundle) (number : ℕ) → HasMachine bundle number → machine_of (orders_of bundle) number ≡ Some (order_at bundle number)
order_there bundle number has_machine =
    let seen_in_view = in_view bundle number has_machine in
    let found = kept_here shown bundle.machines.items number seen_in_view.0.machine (in_memory bundle number seen_in_view.0 seen_in_view.1) in
    let order_shown = shows_here order_of bundle.machines.items number found.0 found.1 in
    order_shown ∙ sym (ap (λ found_order. Some (unwrap_or found_order Nothing)) order_shown)

-- it has none between two turns
no_order_at : (bundle : Bundle) (number : ℕ) → HasMachine bundle number → HasNoOrder bundle → order_at bundle number ≡ Nothing
no_order_at bundle number has_machine no_orders = no_orders number (order_at bundle number) (order_there bundle number has_machine)

-- its machines are those of its view
pub same_machines : (old new : Bundle) → view_of new ≡ view_of old → machines_of new ≡ machines_of old
same_machines old new same_view = sym new.kept ∙ ap (kept_in_view machine_in) same_view ∙ old.kept

pub same_at : (old new : Bundle) (number : ℕ) → view_of new ≡ view_of old → machine_at new number ≡ machine_at old number
same_at old new number same_view = ap (λ view. unwrap_or (machine_of view number) no_machine) (same_machines old new same_view)

-- a machine that has a turn without an order goes on with its call
goes_on : (machine : Machine) (next : Option Command) → takes_of machine Nothing ≡ true → order_for next machine ≡ Some Nothing
goes_on machine next takes = by_may (may_begin machine) refl
  where
    by_may : (holds : Bool) → may_begin machine ≡ holds → order_for next machine ≡ Some Nothing
    by_may true begin_test = absurd (false≢true (sym (rest_takes machine (begins_at_rest machine begin_test)) ∙ takes))
    by_may false busy = turn_in_call machine next busy ∙ ap (λ (holds : Bool). if◌then◌else◌ {A = Option Order} holds (Some Nothing) None) takes

pub unordered : (bundle : Bundle) (next : Option Command) (number : ℕ) → HasMachine bundle number → HasNoOrder bundle → IsOrdered bundle bundle next number
unordered bundle next number has_machine no_order =
    let order = no_order_at bundle number has_machine no_order in
    record {
      unmoved = record { same = same_bundle bundle; view = refl; steps = refl; greyed = refl };
      turn = λ turn. goes_on (machine_at bundle number) next (sym (ap (takes_of (machine_at bundle number)) order) ∙ turn) ∙ ap (λ given_order. Some given_order) (sym order);
      orders = λ turn. sym (set_same (orders_of bundle) number (order_at bundle number) (order_there bundle number has_machine));
      idle = λ no_order. refl;
    }

-- a machine that was given its order between two calls
pub ordered : (old new : Bundle) (next : Option Command) (number : ℕ) → HasMachine old number → may_begin (machine_at old number) ≡ true → IsUnmoved old new
    → orders_of new ≡ slice_set (orders_of old) number (Some (next_order next)) → takes_of (machine_at old number) (next_order next) ≡ true → IsOrdered old new next number
ordered old new next number has_machine can_begin unmoved orders takes =
    let order : order_at new number ≡ next_order next =
    ap (λ all_orders. unwrap_or (machine_of all_orders number) Nothing) orders ∙ ap (λ given_order. unwrap_or given_order Nothing) (set_there (orders_of old) number (order_at old number) (next_order next) (order_there old number has_machine)) in
    let turn : has_turn new number ≡ true = ap (λ machine. takes_of machine (order_at new number)) (same_at old new number unmoved.view) ∙ ap (takes_of (machine_at old number)) order ∙ takes in
    record {
      unmoved = unmoved;
      turn = λ turn_there. turn_at_rest (machine_at old number) next can_begin ∙ ap (λ given_order. Some given_order) (sym order);
      orders = λ turn_there. orders ∙ ap (λ given_order. slice_set (orders_of old) number (Some given_order)) (sym order);
      idle = λ no_turn. absurd (false≢true (sym no_turn ∙ turn));
    }

-- a machine between two calls is a mutator, whose next command is that of its script
pub next_between : (bundle : Bundle) (jobs : Jobs) (number : ℕ) → HasMachine bundle number → may_begin (machine_at bundle number) ≡ true → next_for bundle.config jobs number ≡ next_of jobs number
next_between bundle jobs number has_machine can_begin =
    let seen_in_view = in_view bundle number has_machine in
    let free_to_begin : may_begin seen_in_view.0.machine ≡ true = ap may_begin (sym (at_number bundle number seen_in_view.0 seen_in_view.1)) ∙ can_begin in
    let role : is_mutating seen_in_view.0.machine ≡ true = rest_is_mutating seen_in_view.0.machine (begins_at_rest seen_in_view.0.machine free_to_begin) in
    ap (λ can_take. if can_take then next_of jobs number else None) (sym (role_at bundle number seen_in_view.0 seen_in_view.1) ∙ role)

-- and has a script
pub script_between : (bundle : Bundle) (jobs : Jobs) (number : ℕ) → AreAtWork bundle jobs → HasMachine bundle number → may_begin (machine_at bundle number) ≡ true → HasScript jobs number
script_between bundle jobs number work has_machine can_begin =
    let seen_in_view = in_view bundle number has_machine in
    let free_to_begin : may_begin seen_in_view.0.machine ≡ true = ap may_begin (sym (at_number bundle number seen_in_view.0 seen_in_view.1)) ∙ can_begin in
    let role : is_mutating seen_in_view.0.machine ≡ true = rest_is_mutating seen_in_view.0.machine (begins_at_rest seen_in_view.0.machine free_to_begin) in
    has_script bundle jobs number work has_machine (sym (role_at bundle number seen_in_view.0 seen_in_view.1) ∙ role)

-- whose next command can be given
pub command_between : (bundle : Bundle) (jobs : Jobs) (number : ℕ) (command : Command) → AreAtWork bundle jobs → HasMachine bundle number → may_begin (machine_at bundle number) ≡ true → next_of jobs number ≡ Some command
    → IsValid command × (made_of_machine (machine_at bundle number) < most_objects)
command_between bundle jobs number command work has_machine can_begin next_command =
    subst (λ found_command. IfSome found_command (λ command. IsValid command × (made_of_machine (machine_at bundle number) < most_objects))) (next_between bundle jobs number has_machine can_begin ∙ next_command) (command_fits bundle jobs number work has_machine can_begin)

-- a machine whose reply is at hand stands between two calls
pub replied_may : (machine : Machine) → reply_in machine ≢ None → may_begin machine ≡ true
replied_may (mutating mutator) differs = by_spot mutator.spot differs
  where
    by_spot : (spot : Spot) → reply_at spot ≢ None → takes_commands spot ≡ true
    by_spot (Ended reply) differs = refl
    by_spot _ differs = absurd (differs refl)
replied_may _ differs = absurd (differs refl)

-- its turn
pub is_turn : (old mid new : Bundle) (next : Option Command) (number : ℕ) (said : Stepped) → IsOrdered old mid next number → has_turn mid number ≡ true → IsBundleStep mid new number said → IsTurn old new next number said
is_turn old mid new next number said order turn step = record { ordered = mid; unmoved = order.unmoved; turn = inl (order.turn turn); orders = order.orders turn; step = step }

-- no other machine has changed
pub others_stay : (old new : Bundle) (next : Option Command) (number : ℕ) (said : Stepped) → IsTurn old new next number said → (other_number : ℕ) → other_number ≢ number → machine_at new other_number ≡ machine_at old other_number
others_stay old new next number said made other_number numbers_differ =
    let test : (other_number == number) ≡ false = grind (arith, nat_tests) in
    let same_place : machine_of (view_of new) other_number ≡ machine_of (view_of old) other_number =
    ap (λ view. machine_of view other_number) (view_is old new next number said made)
    ∙ machine_of-set (view_of old) number (was old new next number said made) (Some (then_is old new next number said made)) (here old new next number said made) other_number
    ∙ ap (λ is_same. if is_same then Some (then_is old new next number said made) else machine_of (view_of old) other_number) test in
    let seen_at : (bundle : Bundle) → machine_of (machines_of bundle) other_number ≡ kept_one machine_in (machine_of (view_of bundle) other_number) = λ bundle. ap (λ view. machine_of view other_number) (sym bundle.kept) ∙ machine_of-kept machine_in (view_of bundle) other_number in
    ap (λ found_machine. unwrap_or found_machine no_machine) (seen_at new ∙ ap (kept_one machine_in) same_place ∙ sym (seen_at old))

-- ---- whether or not the machine made a step

turn_or_not : (holds : Bool) → (holds ≡ true) ⊎ (holds ≡ false)
turn_or_not true = inl refl
turn_or_not false = inr refl

-- the bundle has its machines still
has_in_view : (bundle : Bundle) (number : ℕ) → is_some (machine_of (machines_of bundle) number) ≡ is_some (machine_of (view_of bundle) number)
has_in_view bundle number = ap (λ view. is_some (machine_of view number)) (sym bundle.kept) ∙ kept_some machine_in (view_of bundle) number

pub has_same : (old new : Bundle) (number : ℕ) → IsSameBundle old new → HasMachine old number → HasMachine new number
has_same old new number bundles_agree has_machine = has_in_view new number ∙ bundles_agree.numbers.here number ∙ sym (has_in_view old number) ∙ has_machine

module _ (old mid new : Bundle) (jobs : Jobs) (number : ℕ) (said : Stepped) (order : IsOrdered old mid (next_for old.config jobs number) number)
    (stepped_on : has_turn mid number ≡ true → IsBundleStep mid new number said) (idle : has_turn mid number ≡ false → IsUnchanged mid new) where
  turned : has_turn mid number ≡ true → IsTurn old new (next_for old.config jobs number) number said
  turned turn = is_turn old mid new (next_for old.config jobs number) number said order turn (stepped_on turn)

  unchanged : has_turn mid number ≡ false → IsUnchanged old new
  unchanged no_turn = subst (λ old_bundle. IsUnchanged old_bundle new) (order.idle no_turn) (idle no_turn)

  pub works_on : AreAtWork old jobs → (said ≡ stepped.Done → ⊥) → AreAtWork new jobs
  works_on work not_done = ⊎_elim
      (λ turn. turned_on old new (next_for old.config jobs number) number said (turned turn) jobs refl work not_done)
      (λ no_turn. work_unchanged old new jobs (unchanged no_turn) work)
      (turn_or_not (has_turn mid number))

  pub others_on : (other_number : ℕ) → other_number ≢ number → machine_at new other_number ≡ machine_at old other_number
  others_on other_number numbers_differ = ⊎_elim
      (λ turn. others_stay old new (next_for old.config jobs number) number said (turned turn) other_number numbers_differ)
      (λ no_turn. same_at old new other_number (unchanged no_turn).unmoved.view)
      (turn_or_not (has_turn mid number))

  module _ (work : AreAtWork old jobs) (said_done : said ≡ stepped.Done) (turn : has_turn mid number ≡ true) where
    pub can_note : HasScript jobs number × (length (replies_of jobs number) < length (script_in jobs number))
    can_note = can_tell old new (next_for old.config jobs number) number said (turned turn) jobs refl work said_done

    pub works_noted : (reply : Reply) → reply_in (machine_at new number) ≡ Some reply → AreAtWork new (with_reply jobs number reply)
    works_noted reply at_hand = turned_noted old new (next_for old.config jobs number) number said (turned turn) jobs refl work reply said_done at_hand

-- ---- which machines are known to stand between two calls

pub may_set : (mutators number : ℕ) (between : List Bool) (old new : Bundle) (was flag_after : Bool) → slice_get between number ≡ Some was → MayAt mutators between old → ((index : ℕ) → index ≢ number → machine_at new index ≡ machine_at old index)
    → (flag_after ≡ true → may_begin (machine_at new number) ≡ true) → MayAt mutators (slice_set between number flag_after) new
may_set mutators number between old new was flag_after here may_before others done_may index index_below flag = by_test (index == number) refl
  where
    found : (if index == number then Some flag_after else slice_get between index) ≡ Some true
    found = sym (slice_get-set between number was flag_after here index) ∙ flag

    by_test : (holds : Bool) → (index == number) ≡ holds → may_begin (machine_at new index) ≡ true
    by_test true number_test =
        let same_number : index ≡ number = grind (arith, nat_tests) in
        let sets : Some flag_after ≡ Some true = rw number_test at found in
        subst (λ machine_number. may_begin (machine_at new machine_number) ≡ true) (sym same_number) (done_may (cc sets))
    by_test false number_test =
        let numbers_differ : index ≢ number = grind (arith, nat_tests) in
        let index_flag : slice_get between index ≡ Some true = rw number_test at found in
        ap may_begin (others index numbers_differ) ∙ may_before index index_below index_flag

pub may_kept : (mutators number : ℕ) (between : List Bool) (old new : Bundle) → mutators ≤ number → MayAt mutators between old → ((index : ℕ) → index ≢ number → machine_at new index ≡ machine_at old index) → MayAt mutators between new
may_kept mutators number between old new past_mutators may_before others index index_below flag =
    let numbers_differ : index ≢ number = grind (arith, index_below, past_mutators) in
    ap may_begin (others index numbers_differ) ∙ may_before index index_below flag

-- what is known of a heap before a turn is known of it behind it
pub plays_on : (heap : Heap) (old new : Bundle) (before after : Jobs) (config : Config) (between flags : List Bool) → IsPlaying heap old before config between → IsSameBundle old new → AreAtWork new after → MayAt config.mutators flags new → length flags ≡ 8
    → IsPlaying heap new after config flags
plays_on heap old new before after config between flags playing bundles_agree works rests eight_flags = record {
  of = still_of old new heap bundles_agree playing.of;
  works = works;
  same = bundles_agree.config ∙ playing.same;
  here = λ number within. has_same old new number bundles_agree (playing.here number within);
  rests = rests;
  long = eight_flags;
}
