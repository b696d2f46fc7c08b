-- How many objects a command makes.
use Rattle.std.proofs.Common.{ℕ, ◌≡◌, ◌+◌, ◌≤◌, true, false, Option, Some, None, ap, arith}
use Rattle.std.specs.Prelude.{◌==◌, if◌then◌else◌}
use Rattle.shen_graph.specs.declared.command.Command.{Command}
use Rattle.shen_graph.specs.declared.command.Command.TheVariants.{New, Get, Set, Cas, Xchg, Rd, Wr, Copy, Drop, Same, Gc, Pin, Unpin}
use Rattle.shen_graph.specs.declared.command.Reply.{Reply}
use Rattle.shen_graph.specs.declared.command.Reply.TheVariants as reply
use Rattle.shen_graph.specs.Graph.{Graph, Reference, Object, field_at, number_at, same_reference, with_root, with_named, with_field, with_number, with_pin}
use Rattle.shen_graph.specs.Step.{Outcome, outcome, answers, on, shown}

named_le : (graph : Graph) (reference : Reference) (object : Object) (thread : ℕ) → (with_named graph reference object).count thread ≤ graph.count thread + 1
named_le graph None object thread = omega arith
named_le graph (Some name) object thread = omega arith

on_le : {A : Type 0} (graph : Graph) (thread : ℕ) (found : Option A) (outcome_of : A → Outcome) → ((value : A) → (outcome_of value).graph.count thread ≤ graph.count thread + 1) → (on found graph outcome_of).graph.count thread ≤ graph.count thread + 1
on_le graph thread None outcome_of counts_rise = omega arith
on_le graph thread (Some value) outcome_of counts_rise = counts_rise value

outcome_le : (graph : Graph) (thread : ℕ) (command : Command) (asked_thread : ℕ) → (outcome graph thread command).graph.count asked_thread ≤ graph.count asked_thread + 1
outcome_le graph thread (New dst refs nums) asked_thread = elim (asked_thread == thread) as (λ second_root. (if second_root then graph.count asked_thread + 1 else graph.count asked_thread) ≤ graph.count asked_thread + 1) [ true ↦ omega arith | false ↦ omega arith ]
outcome_le graph thread (Get dst src field) asked_thread = on_le graph asked_thread (field_at graph thread src field) (λ reference. answers (shown reference) (with_root graph thread dst reference)) (λ reference. omega arith)
outcome_le graph thread (Set obj field val) asked_thread = on_le graph asked_thread (field_at graph thread obj field) (λ _. answers reply.Ok (with_field graph thread obj field (graph.root thread val))) (λ reference. named_le graph (graph.root thread obj) _ asked_thread)
outcome_le graph thread (Cas obj field expect val) asked_thread =
    on_le graph asked_thread (field_at graph thread obj field) (λ reference. if same_reference reference (graph.root thread expect) then answers reply.Yes (with_field graph thread obj field (graph.root thread val)) else answers reply.No graph)
    (λ reference. elim (same_reference reference (graph.root thread expect)) as (λ second_root. (if second_root then answers reply.Yes (with_field graph thread obj field (graph.root thread val)) else answers reply.No graph).graph.count asked_thread ≤ graph.count asked_thread + 1)
    [ true ↦ named_le graph (graph.root thread obj) _ asked_thread | false ↦ omega arith ])
outcome_le graph thread (Xchg dst obj field val) asked_thread = on_le graph asked_thread (field_at graph thread obj field) (λ reference. answers (shown reference) (with_root (with_field graph thread obj field (graph.root thread val)) thread dst reference)) (λ reference. named_le graph (graph.root thread obj) _ asked_thread)
outcome_le graph thread (Rd obj index) asked_thread = on_le graph asked_thread (number_at graph thread obj index) (λ number. answers (reply.Number number) graph) (λ reference. omega arith)
outcome_le graph thread (Wr obj index value) asked_thread = on_le graph asked_thread (number_at graph thread obj index) (λ _. answers reply.Ok (with_number graph thread obj index value)) (λ reference. named_le graph (graph.root thread obj) _ asked_thread)
outcome_le graph thread (Copy dst src) asked_thread = omega arith
outcome_le graph thread (Drop dst) asked_thread = omega arith
outcome_le graph thread (Same first_root second_root) asked_thread = omega arith
outcome_le graph thread Gc asked_thread = omega arith
outcome_le graph thread (Pin slot obj) asked_thread = omega arith
outcome_le graph thread (Unpin slot) asked_thread = on_le graph asked_thread (graph.pin thread slot) (λ _. answers reply.Ok (with_pin graph thread slot None)) (λ reference. omega arith)

pub answers_le : (graph graph_after : Graph) (acting_thread : ℕ) (command : Command) (answer : Reply) → answers answer graph_after ≡ outcome graph acting_thread command → (thread : ℕ) → graph_after.count thread ≤ graph.count thread + 1
answers_le graph graph_after acting_thread command answer answered_as thread = omega (arith, ap (λ (some_outcome : Outcome). some_outcome.graph.count thread) answered_as, outcome_le graph acting_thread command thread)
