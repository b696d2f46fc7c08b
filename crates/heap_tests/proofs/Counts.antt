-- How many objects a command makes.
use Rattle.std.proofs.Common.{ℕ, ◌≡◌, ◌≢◌, ◌+◌, ◌≤◌, Bool, true, false, Option, Some, None, inl, inr, ap, arith}
use Rattle.std.specs.Prelude.{◌==◌, if◌then◌else◌, MatchBool}
use Rattle.shen_graph.specs.declared.command.Command.{Command}
use Rattle.shen_graph.specs.declared.command.Command.TheVariants.{New, Get, Set, Cas, Xchg, Rd, Wr, Copy, Drop, Same, Gc, Pin, Unpin}
use Rattle.shen_graph.specs.declared.command.Reply.{Reply}
use Rattle.shen_graph.specs.declared.command.Reply.TheVariants as reply
use Rattle.shen_graph.specs.Graph.{Graph, Reference, Object, field_at, number_at, same_reference, with_root, with_named, with_field, with_number, with_pin}
use Rattle.shen_graph.specs.PlainGraph.{Plain, graph_of}
use Rattle.shen_graph.specs.Step.{Outcome, outcome, answers, on, shown, IsLegal}

named_le : (graph : Graph) (reference : Reference) (object : Object) (thread : ℕ) → (with_named graph reference object).count thread ≤ graph.count thread + 1
named_le graph None object thread = omega arith
named_le graph (Some name) object thread = omega arith

on_le : {A : Type 0} (graph : Graph) (thread : ℕ) (found : Option A) (f : A → Outcome) → ((value : A) → (f value).graph.count thread ≤ graph.count thread + 1) → (on found graph f).graph.count thread ≤ graph.count thread + 1
on_le graph thread None f each_value = omega arith
on_le graph thread (Some value) f each_value = each_value value

outcome_le : (graph : Graph) (thread : ℕ) (command : Command) (other_thread : ℕ) → (outcome graph thread command).graph.count other_thread ≤ graph.count other_thread + 1
outcome_le graph thread (New dst refs nums) other_thread = elim (other_thread == thread) as (λ second_index. (if second_index then graph.count other_thread + 1 else graph.count other_thread) ≤ graph.count other_thread + 1) [ true ↦ omega arith | false ↦ omega arith ]
outcome_le graph thread (Get dst src field) other_thread = on_le graph other_thread (field_at graph thread src field) (λ found. answers (shown found) (with_root graph thread dst found)) (λ found. omega arith)
outcome_le graph thread (Set obj field val) other_thread = on_le graph other_thread (field_at graph thread obj field) (λ _. answers reply.Ok (with_field graph thread obj field (graph.root thread val))) (λ found. named_le graph (graph.root thread obj) _ other_thread)
outcome_le graph thread (Cas obj field expect val) other_thread =
    on_le graph other_thread (field_at graph thread obj field) (λ found. if same_reference found (graph.root thread expect) then answers reply.Yes (with_field graph thread obj field (graph.root thread val)) else answers reply.No graph)
    (λ found. elim (same_reference found (graph.root thread expect)) as (λ second_index. (if second_index then answers reply.Yes (with_field graph thread obj field (graph.root thread val)) else answers reply.No graph).graph.count other_thread ≤ graph.count other_thread + 1)
    [ true ↦ named_le graph (graph.root thread obj) _ other_thread | false ↦ omega arith ])
outcome_le graph thread (Xchg dst obj field val) other_thread = on_le graph other_thread (field_at graph thread obj field) (λ found. answers (shown found) (with_root (with_field graph thread obj field (graph.root thread val)) thread dst found)) (λ found. named_le graph (graph.root thread obj) _ other_thread)
outcome_le graph thread (Rd obj index) other_thread = on_le graph other_thread (number_at graph thread obj index) (λ number. answers (reply.Number number) graph) (λ found. omega arith)
outcome_le graph thread (Wr obj index value) other_thread = on_le graph other_thread (number_at graph thread obj index) (λ _. answers reply.Ok (with_number graph thread obj index value)) (λ found. named_le graph (graph.root thread obj) _ other_thread)
outcome_le graph thread (Copy dst src) other_thread = omega arith
outcome_le graph thread (Drop dst) other_thread = omega arith
outcome_le graph thread (Same first_index second_index) other_thread = omega arith
outcome_le graph thread Gc other_thread = omega arith
outcome_le graph thread (Pin slot obj) other_thread = omega arith
outcome_le graph thread (Unpin slot) other_thread = on_le graph other_thread (graph.pin thread slot) (λ _. answers reply.Ok (with_pin graph thread slot None)) (λ found. omega arith)

pub legal_le : (regions region_words : ℕ) (graph next_graph : Graph) (asking_thread : ℕ) (command : Command) (answer : Reply) → IsLegal regions region_words graph asking_thread command answer next_graph → (thread : ℕ) → next_graph.count thread ≤ graph.count thread + 1
legal_le regions region_words graph next_graph asking_thread command answer (inl step) thread = omega (arith, ap (λ (some_outcome : Outcome). some_outcome.graph.count thread) step.1, outcome_le graph asking_thread command thread)
legal_le regions region_words graph next_graph calling_thread command answer (inr (inl heap_full)) thread = omega (arith, ap (λ (graph : Graph). graph.count thread) heap_full.2)
legal_le regions region_words graph next_graph calling_thread command answer (inr (inr pinning)) thread = omega (arith, ap (λ (graph : Graph). graph.count thread) pinning.graph)

-- what was accepted, or was not
pub accepted_le : (allowed : Bool) (regions region_words : ℕ) (plain next_plain : Plain) (asking_thread : ℕ) (command : Command) (answer : Reply)
    → MatchBool allowed (IsLegal regions region_words (graph_of plain) asking_thread command answer (graph_of next_plain) × (answer ≢ reply.Full)) (((graph : Graph) → IsLegal regions region_words (graph_of plain) asking_thread command answer graph → answer ≡ reply.Full) × (next_plain ≡ plain))
    → (thread : ℕ) → (graph_of next_plain).count thread ≤ (graph_of plain).count thread + 1
accepted_le true regions region_words plain next_plain asking_thread command answer taken thread = legal_le regions region_words (graph_of plain) (graph_of next_plain) asking_thread command answer taken.0 thread
accepted_le false regions region_words plain next_plain asking_thread command answer left thread = omega (arith, ap (λ (plain : Plain). (graph_of plain).count thread) left.1)
