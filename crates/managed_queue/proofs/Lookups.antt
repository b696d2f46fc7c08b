-- What each command answers and leaves, once it is known what its roots name.
use Rattle.std.proofs.Common.{ℕ, ◌≡◌, ◌⊎◌, Bool, true, false, Option, Some, None, [], slice_get, slice_set, refl, sym, ap, ◌∙◌, subst, inl, inr}
use Rattle.std.specs.Prelude.{◌≢◌, ◌==◌, ◌&&◌, unwrap_or, if◌then◌else◌}
use Rattle.std.proofs.lemmas.Bool.{false≢true, ne_eqb}
use Rattle.shen_graph.proofs.Numbers.{eqb_itself}
use Rattle.shen_graph.specs.declared.name.Name.{Name}
use Rattle.shen_graph.specs.declared.command.Command.{Command}
use Rattle.shen_graph.specs.declared.command.Command.TheVariants.{Get, Set, Cas, Rd, Wr, Same}
use Rattle.shen_graph.specs.declared.command.Reply.{Reply}
use Rattle.shen_graph.specs.declared.command.Reply.TheVariants as reply
use Rattle.shen_graph.specs.Graph.{Graph, Object, Reference, named, same_reference, with_root, with_object, with_named}
use Rattle.shen_graph.specs.Step.{Outcome, outcome, answers, on, shown, yes_or_no, IsNew}
use Rattle.shen_graph.proofs.PlainLemmas.{fun_ext, same_name-true, same_name-itself}

-- references that are the same

pub same_reference-true : (reference other_reference : Reference) → same_reference reference other_reference ≡ true → reference ≡ other_reference
same_reference-true None None test_passed = refl
same_reference-true None (Some reference) test_passed = absurd (false≢true test_passed)
same_reference-true (Some reference) None test_passed = absurd (false≢true test_passed)
same_reference-true (Some reference) (Some other_reference) test_passed = ap Some (same_name-true reference other_reference test_passed)

pub same_reference-itself : (reference other_reference : Reference) → reference ≡ other_reference → same_reference reference other_reference ≡ true
same_reference-itself None reference references_same = ap (same_reference None) (sym references_same)
same_reference-itself (Some reference) other_reference references_same = ap (same_reference (Some reference)) (sym references_same) ∙ same_name-itself reference

-- roots

abbrev pub root_put : (ℕ → Reference) → ℕ → Reference → ℕ → Reference
root_put root dst value = λ thread. if thread == dst then value else root thread

pub own_root : (graph : Graph) (thread dst : ℕ) (value : Reference) → (with_root graph thread dst value).root thread ≡ root_put (graph.root thread) dst value
own_root graph thread dst value = fun_ext _ _ (λ index. ap (λ own_thread. if own_thread && (index == dst) then value else graph.root thread index) (eqb_itself thread))

pub other_root : (graph : Graph) (written_thread dst thread : ℕ) (value : Reference) → thread ≢ written_thread → (with_root graph written_thread dst value).root thread ≡ graph.root thread
other_root graph written_thread dst thread value threads_differ = fun_ext _ _ (λ index. ap (λ own_thread. if own_thread && (index == dst) then value else graph.root thread index) (ne_eqb thread written_thread threads_differ))

-- what a command that is to pin no object may be answered and leave
abbrev pub IsPlain : Graph → ℕ → Command → Reply → Graph → Type 0
IsPlain graph thread command answered next_graph = (answers answered next_graph ≡ outcome graph thread command) ⊎ (IsNew command × (answered ≡ reply.Full) × (next_graph ≡ graph))

-- a command that makes nothing has its outcome
pub by_outcome : (P : Outcome → Type 0) (graph : Graph) (thread : ℕ) (command : Command) (answered : Reply) (next_graph : Graph) → (IsNew command → ⊥) → IsPlain graph thread command answered next_graph → P (outcome graph thread command) → P (answers answered next_graph)
by_outcome P graph thread command answered next_graph old answer_legal holds = elim answer_legal [ inl has_outcome ↦ subst P (sym has_outcome) holds | inr full_reply ↦ absurd (old full_reply.0) ]

-- what a root names
pub names : (P : Object → Type 0) (graph : Graph) (reference : Reference) (name : Name) (object : Object) → reference ≡ Some name → graph.object name ≡ Some object → P object → P (named graph reference)
names P graph reference name object reference_named object_there holds =
    subst (λ (reference : Reference). P (named graph reference)) (sym reference_named) (subst (λ (found : Option Object). P (unwrap_or found (record { refs = []; nums = [] }))) (sym object_there) holds)

-- The root `a` names this object.

pub gets : (P : Outcome → Type 0) (graph : Graph) (thread dst src field : ℕ) (name : Name) (object : Object) (value : Reference) → graph.root thread src ≡ Some name → graph.object name ≡ Some object → slice_get object.refs field ≡ Some value
    → P (answers (shown value) (with_root graph thread dst value)) → P (outcome graph thread (Get dst src field))
gets P graph thread dst src field name object value root_named object_there value_there holds =
    names (λ found_object. P (on (slice_get found_object.refs field) graph (λ reference. answers (shown reference) (with_root graph thread dst reference)))) graph (graph.root thread src) name object root_named object_there
    (subst (λ (found : Option Reference). P (on found graph (λ reference. answers (shown reference) (with_root graph thread dst reference)))) (sym value_there) holds)

pub sets : (P : Outcome → Type 0) (graph : Graph) (thread obj field val : ℕ) (name : Name) (object : Object) (value : Reference) → graph.root thread obj ≡ Some name → graph.object name ≡ Some object → slice_get object.refs field ≡ Some value
    → P (answers reply.Ok (with_object graph name (record { refs = slice_set object.refs field (graph.root thread val); nums = object.nums }))) → P (outcome graph thread (Set obj field val))
sets P graph thread obj field val name object value root_named object_there value_there holds =
    subst (λ (reference : Reference). P (on (slice_get (named graph reference).refs field) graph (λ _. answers reply.Ok (with_named graph reference (record { refs = slice_set (named graph reference).refs field (graph.root thread val); nums = (named graph reference).nums }))))) (sym root_named)
    (names (λ found_object. P (on (slice_get found_object.refs field) graph (λ _. answers reply.Ok (with_object graph name (record { refs = slice_set found_object.refs field (graph.root thread val); nums = found_object.nums }))))) graph (Some name) name object refl object_there
    (subst (λ (found : Option Reference). P (on found graph (λ _. answers reply.Ok (with_object graph name (record { refs = slice_set object.refs field (graph.root thread val); nums = object.nums }))))) (sym value_there) holds))

by_test : (P : Outcome → Type 0) (holds : Bool) (yes_one no_one : Outcome) → (holds ≡ true → P yes_one) → (holds ≡ false → P no_one) → P (if holds then yes_one else no_one)
by_test P true yes_one no_one yes_holds no_holds = yes_holds refl
by_test P false yes_one no_one yes_holds no_holds = no_holds refl

pub swaps : (P : Outcome → Type 0) (graph : Graph) (thread obj field expect val : ℕ) (name : Name) (object : Object) (value : Reference) → graph.root thread obj ≡ Some name → graph.object name ≡ Some object → slice_get object.refs field ≡ Some value
    → (value ≡ graph.root thread expect → P (answers reply.Yes (with_object graph name (record { refs = slice_set object.refs field (graph.root thread val); nums = object.nums }))))
    → (value ≢ graph.root thread expect → P (answers reply.No graph)) → P (outcome graph thread (Cas obj field expect val))
swaps P graph thread obj field expect val name object value root_named object_there value_there by_equal when_apart =
    subst (λ (reference : Reference). P (on (slice_get (named graph reference).refs field) graph (λ field_reference. if same_reference field_reference (graph.root thread expect) then answers reply.Yes (with_named graph reference (record { refs = slice_set (named graph reference).refs field (graph.root thread val); nums = (named graph reference).nums })) else answers reply.No graph))) (sym root_named)
    (names (λ found_object. P (on (slice_get found_object.refs field) graph (λ field_reference. if same_reference field_reference (graph.root thread expect) then answers reply.Yes (with_object graph name (record { refs = slice_set found_object.refs field (graph.root thread val); nums = found_object.nums })) else answers reply.No graph))) graph (Some name) name object refl object_there
    (subst (λ (found : Option Reference). P (on found graph (λ field_reference. if same_reference field_reference (graph.root thread expect) then answers reply.Yes (with_object graph name (record { refs = slice_set object.refs field (graph.root thread val); nums = object.nums })) else answers reply.No graph))) (sym value_there)
    (by_test P (same_reference value (graph.root thread expect)) _ _
    (λ references_same. by_equal (same_reference-true value (graph.root thread expect) references_same))
    (λ test_failed. when_apart (λ references_same. false≢true (sym test_failed ∙ same_reference-itself value (graph.root thread expect) references_same))))))

pub reads : (P : Outcome → Type 0) (graph : Graph) (thread obj index : ℕ) (name : Name) (object : Object) (value : ℕ) → graph.root thread obj ≡ Some name → graph.object name ≡ Some object → slice_get object.nums index ≡ Some value
    → P (answers (reply.Number value) graph) → P (outcome graph thread (Rd obj index))
reads P graph thread obj index name object value root_named object_there value_there holds =
    names (λ found_object. P (on (slice_get found_object.nums index) graph (λ number. answers (reply.Number number) graph))) graph (graph.root thread obj) name object root_named object_there
    (subst (λ (found : Option ℕ). P (on found graph (λ number. answers (reply.Number number) graph))) (sym value_there) holds)

pub writes : (P : Outcome → Type 0) (graph : Graph) (thread obj index value : ℕ) (name : Name) (object : Object) (old : ℕ) → graph.root thread obj ≡ Some name → graph.object name ≡ Some object → slice_get object.nums index ≡ Some old
    → P (answers reply.Ok (with_object graph name (record { refs = object.refs; nums = slice_set object.nums index value }))) → P (outcome graph thread (Wr obj index value))
writes P graph thread obj index value name object old root_named object_there value_there holds =
    subst (λ (reference : Reference). P (on (slice_get (named graph reference).nums index) graph (λ _. answers reply.Ok (with_named graph reference (record { refs = (named graph reference).refs; nums = slice_set (named graph reference).nums index value }))))) (sym root_named)
    (names (λ found_object. P (on (slice_get found_object.nums index) graph (λ _. answers reply.Ok (with_object graph name (record { refs = found_object.refs; nums = slice_set found_object.nums index value }))))) graph (Some name) name object refl object_there
    (subst (λ (found : Option ℕ). P (on found graph (λ _. answers reply.Ok (with_object graph name (record { refs = object.refs; nums = slice_set object.nums index value }))))) (sym value_there) holds))

pub compares : (P : Outcome → Type 0) (graph : Graph) (thread index second_index : ℕ) → (graph.root thread index ≡ graph.root thread second_index → P (answers reply.Yes graph)) → (graph.root thread index ≢ graph.root thread second_index → P (answers reply.No graph)) → P (outcome graph thread (Same index second_index))
compares P graph thread index second_index by_equal when_apart = at (same_reference (graph.root thread index) (graph.root thread second_index)) refl
  where
    at : (holds : Bool) → same_reference (graph.root thread index) (graph.root thread second_index) ≡ holds → P (answers (yes_or_no holds) graph)
    at true tested = by_equal (same_reference-true _ _ tested)
    at false tested = when_apart (λ references_same. false≢true (sym tested ∙ same_reference-itself _ _ references_same))

-- the root is null
pub gets_bad : (P : Outcome → Type 0) (graph : Graph) (thread dst src field : ℕ) → graph.root thread src ≡ None → P (answers reply.Bad graph) → P (outcome graph thread (Get dst src field))
gets_bad P graph thread dst src field null_root holds = subst (λ (reference : Reference). P (on (slice_get (named graph reference).refs field) graph (λ got_reference. answers (shown got_reference) (with_root graph thread dst got_reference)))) (sym null_root) holds
