-- A thread of a legal history has made as many objects as allocations of it were answered a name.
use Rattle.std.proofs.Common.{◌≡◌, inl, inr, ℕ, ◌+◌, ◌&&◌, Bool, true, false, cond, eqb, List, [], ◌∷◌, Option, Some, None, refl, ap, ◌∙◌, arith}
use Rattle.std.proofs.lemmas.List.Sums.{sum_by-cons}
use Rattle.std.proofs.lemmas.Bool.Decides.{nat_tests}
use Rattle.shen_graph.specs.declared.command.Command.{Command}
use Rattle.shen_graph.specs.declared.command.Command.TheVariants.{New, Get, Set, Cas, Xchg, Rd, Wr, Copy, Drop, Same, Gc, Pin, Unpin}
use Rattle.shen_graph.specs.declared.command.Reply.{Reply}
use Rattle.shen_graph.specs.Graph.{Reference, Object, Graph, same_reference, with_named, field_at, number_at}
use Rattle.shen_graph.specs.Step.{Outcome, on, outcome, answers, IsLegal}
use Rattle.shen_graph.specs.History.{Entry, after, after_entry, EachIsLegal}
use Rattle.heap_dump.specs.ObjectsMade.{is_allocation, is_name_reply, has_made, objects_made}

-- one more where it is so
abbrev pub one_if : Bool → ℕ
one_if holds = cond holds 1 0

-- a command that is no allocation makes no object
with_named-count : (graph : Graph) (reference : Reference) (object : Object) (thread : ℕ) → (with_named graph reference object).count thread ≡ graph.count thread
with_named-count graph None object thread = refl
with_named-count graph (Some name) object thread = refl

on-count : {A : Type 0} (found : Option A) (graph : Graph) (f : A → Outcome) (thread : ℕ) → ((value : A) → (f value).graph.count thread ≡ graph.count thread) → (on found graph f).graph.count thread ≡ graph.count thread
on-count None graph f thread each_same = refl
on-count (Some value) graph f thread each_same = each_same value

either-count : (holds : Bool) (x y : Outcome) (graph : Graph) (thread : ℕ) → x.graph.count thread ≡ graph.count thread → y.graph.count thread ≡ graph.count thread → (cond holds x y).graph.count thread ≡ graph.count thread
either-count true x y graph thread first_same second_same = first_same
either-count false x y graph thread first_same second_same = second_same

-- an allocation adds one to the count of its thread
new-count : (graph : Graph) (acting_thread thread dst refs nums : ℕ) → (outcome graph acting_thread (New dst refs nums)).graph.count thread ≡ graph.count thread + one_if (eqb acting_thread thread)
new-count graph acting_thread thread dst refs nums = by_thread (eqb thread acting_thread) (eqb acting_thread thread) refl refl
  where
    by_thread : (holds other_holds : Bool) → eqb thread acting_thread ≡ holds → eqb acting_thread thread ≡ other_holds → cond holds (graph.count thread + 1) (graph.count thread) ≡ graph.count thread + one_if other_holds
    by_thread true true first_test second_test = omega arith
    by_thread true false first_test second_test = absurd (grind (arith, nat_tests))
    by_thread false true first_test second_test = absurd (grind (arith, nat_tests))
    by_thread false false first_test second_test = omega arith

-- and another command none
other-count : (graph : Graph) (acting_thread thread : ℕ) (command : Command) → is_allocation command ≡ false → (outcome graph acting_thread command).graph.count thread ≡ graph.count thread
other-count graph acting_thread thread (New dst refs nums) not_allocation = absurd cc
other-count graph acting_thread thread (Get dst src field) not_allocation = on-count (field_at graph acting_thread src field) graph _ thread (λ got. refl)
other-count graph acting_thread thread (Set obj field val) not_allocation = on-count (field_at graph acting_thread obj field) graph _ thread (λ got. with_named-count graph (graph.root acting_thread obj) _ thread)
other-count graph acting_thread thread (Cas obj field expect val) not_allocation =
    on-count (field_at graph acting_thread obj field) graph _ thread (λ got. either-count (same_reference got (graph.root acting_thread expect)) _ _ graph thread (with_named-count graph (graph.root acting_thread obj) _ thread) refl)
other-count graph acting_thread thread (Xchg dst obj field val) not_allocation = on-count (field_at graph acting_thread obj field) graph _ thread (λ got. with_named-count graph (graph.root acting_thread obj) _ thread)
other-count graph acting_thread thread (Rd obj index) not_allocation = on-count (number_at graph acting_thread obj index) graph _ thread (λ got. refl)
other-count graph acting_thread thread (Wr obj index value) not_allocation = on-count (number_at graph acting_thread obj index) graph _ thread (λ got. with_named-count graph (graph.root acting_thread obj) _ thread)
other-count graph acting_thread thread (Copy dst src) not_allocation = refl
other-count graph acting_thread thread (Drop dst) not_allocation = refl
other-count graph acting_thread thread (Same left_root right_root) not_allocation = refl
other-count graph acting_thread thread Gc not_allocation = refl
other-count graph acting_thread thread (Pin slot obj) not_allocation = refl
other-count graph acting_thread thread (Unpin slot) not_allocation = on-count (graph.pin acting_thread slot) graph _ thread (λ got. refl)

-- ---- entries

none_more : (holds : Bool) (n : ℕ) → n ≡ n + one_if (holds && false)
none_more true n = omega arith
none_more false n = omega arith

one_more : (thread_test allocation named_reply : Bool) → allocation ≡ true → named_reply ≡ true → one_if thread_test ≡ one_if (thread_test && (allocation && named_reply))
one_more true allocation named_reply allocates replies_name = rw allocates (rw replies_name refl)
one_more false allocation named_reply allocates replies_name = refl

no_allocation : (thread_test allocation named_reply : Bool) (n : ℕ) → allocation ≡ false → n ≡ n + one_if (thread_test && (allocation && named_reply))
no_allocation thread_test allocation named_reply n not_allocation = rw not_allocation (none_more thread_test n)

no_name : (thread_test allocation named_reply : Bool) (n : ℕ) → named_reply ≡ false → n ≡ n + one_if (thread_test && (allocation && named_reply))
no_name true true named_reply n not_named = rw not_named (none_more true n)
no_name true false named_reply n not_named = none_more true n
no_name false allocation named_reply n not_named = none_more false n

other-told : (graph : Graph) (acting_thread thread : ℕ) (command : Command) (reply : Reply) (next_graph : Graph) → is_allocation command ≡ false → answers reply next_graph ≡ outcome graph acting_thread command → next_graph.count thread ≡ graph.count thread + one_if (eqb acting_thread thread && (is_allocation command && is_name_reply reply))
other-told graph acting_thread thread command reply next_graph kind told_outcome = ap (λ (any_outcome : Outcome). any_outcome.graph.count thread) told_outcome ∙ other-count graph acting_thread thread command kind ∙ no_allocation (eqb acting_thread thread) (is_allocation command) (is_name_reply reply) (graph.count thread) kind

told-count : (graph : Graph) (acting_thread thread : ℕ) (command : Command) (reply : Reply) (next_graph : Graph) → answers reply next_graph ≡ outcome graph acting_thread command → next_graph.count thread ≡ graph.count thread + one_if (eqb acting_thread thread && (is_allocation command && is_name_reply reply))
told-count graph acting_thread thread (New dst refs nums) reply next_graph told_outcome =
    ap (λ (any_outcome : Outcome). any_outcome.graph.count thread) told_outcome ∙ new-count graph acting_thread thread dst refs nums
    ∙ ap (λ (n : ℕ). graph.count thread + n) (one_more (eqb acting_thread thread) true (is_name_reply reply) refl (ap (λ (any_outcome : Outcome). is_name_reply any_outcome.reply) told_outcome))
told-count graph acting_thread thread (Get dst src field) reply next_graph told_outcome = other-told graph acting_thread thread (Get dst src field) reply next_graph refl told_outcome
told-count graph acting_thread thread (Set obj field val) reply next_graph told_outcome = other-told graph acting_thread thread (Set obj field val) reply next_graph refl told_outcome
told-count graph acting_thread thread (Cas obj field expect val) reply next_graph told_outcome = other-told graph acting_thread thread (Cas obj field expect val) reply next_graph refl told_outcome
told-count graph acting_thread thread (Xchg dst obj field val) reply next_graph told_outcome = other-told graph acting_thread thread (Xchg dst obj field val) reply next_graph refl told_outcome
told-count graph acting_thread thread (Rd obj index) reply next_graph told_outcome = other-told graph acting_thread thread (Rd obj index) reply next_graph refl told_outcome
told-count graph acting_thread thread (Wr obj index value) reply next_graph told_outcome = other-told graph acting_thread thread (Wr obj index value) reply next_graph refl told_outcome
told-count graph acting_thread thread (Copy dst src) reply next_graph told_outcome = other-told graph acting_thread thread (Copy dst src) reply next_graph refl told_outcome
told-count graph acting_thread thread (Drop dst) reply next_graph told_outcome = other-told graph acting_thread thread (Drop dst) reply next_graph refl told_outcome
told-count graph acting_thread thread (Same left_root right_root) reply next_graph told_outcome = other-told graph acting_thread thread (Same left_root right_root) reply next_graph refl told_outcome
told-count graph acting_thread thread Gc reply next_graph told_outcome = other-told graph acting_thread thread Gc reply next_graph refl told_outcome
told-count graph acting_thread thread (Pin slot obj) reply next_graph told_outcome = other-told graph acting_thread thread (Pin slot obj) reply next_graph refl told_outcome
told-count graph acting_thread thread (Unpin slot) reply next_graph told_outcome = other-told graph acting_thread thread (Unpin slot) reply next_graph refl told_outcome

entry-count : (regions region_words : ℕ) (graph : Graph) (entry : Entry) (next_graph : Graph) (thread : ℕ) → IsLegal regions region_words graph entry.thread entry.command entry.reply next_graph → next_graph.count thread ≡ graph.count thread + one_if (has_made thread entry)
entry-count regions region_words graph entry next_graph thread (inl legal_step) = told-count graph entry.thread thread entry.command entry.reply next_graph legal_step.1
entry-count regions region_words graph entry next_graph thread (inr (inl full_reply)) =
    ap (λ (graph : Graph). graph.count thread) full_reply.2 ∙ no_name (eqb entry.thread thread) (is_allocation entry.command) (is_name_reply entry.reply) (graph.count thread) (ap is_name_reply full_reply.1)
entry-count regions region_words graph entry next_graph thread (inr (inr pinning)) =
    ap (λ (graph : Graph). graph.count thread) pinning.graph ∙ no_name (eqb entry.thread thread) (is_allocation entry.command) (is_name_reply entry.reply) (graph.count thread) (ap is_name_reply pinning.reply)

-- ---- histories

count_cons : (first rest end start first_made all_made : ℕ) → first ≡ start + first_made → end ≡ first + rest → all_made ≡ first_made + rest → end ≡ start + all_made
count_cons first rest end start first_made all_made first_is end_is all_is = omega (arith, first_is, end_is, all_is)

pub made-count : (regions region_words : ℕ) (graph : Graph) (entries : List Entry) (thread : ℕ) → EachIsLegal regions region_words graph entries → (after graph entries).count thread ≡ graph.count thread + objects_made entries thread
made-count regions region_words graph [] thread legal = omega arith
made-count regions region_words graph (first_entry ∷ entries) thread legal =
    count_cons ((after_entry graph first_entry).count thread) (objects_made entries thread) ((after (after_entry graph first_entry) entries).count thread) (graph.count thread) (one_if (has_made thread first_entry)) (objects_made (first_entry ∷ entries) thread)
    (entry-count regions region_words graph first_entry (after_entry graph first_entry) thread legal.0) (made-count regions region_words (after_entry graph first_entry) entries thread legal.1) (sum_by-cons (λ (entry : Entry). one_if (has_made thread entry)) first_entry entries)
