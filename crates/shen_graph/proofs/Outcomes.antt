-- Commands that pin no object, and what they answer.
use Rattle.std.proofs.Common.{ℕ, ◌≡◌, ◌⊎◌, Bool, true, false, Option, Some, None, refl, sym, ◌∙◌, inl, inr}
use Rattle.std.specs.Prelude.{if◌then◌else◌}
use Rattle.std.proofs.lemmas.Option.{none-some}
use Rattle.shen_graph.specs.declared.command.Command.{Command}
use Rattle.shen_graph.specs.declared.command.Command.TheVariants.{New, Get, Set, Cas, Xchg, Rd, Wr, Copy, Drop, Same, Gc, Pin, Unpin}
use Rattle.shen_graph.specs.declared.command.Reply.{Reply}
use Rattle.shen_graph.specs.declared.command.Reply.TheVariants as reply
use Rattle.shen_graph.specs.Graph.{Graph, Reference, same_reference, field_at, number_at, with_root, with_field, with_number, with_pin}
use Rattle.shen_graph.specs.Step.{Outcome, answers, on, outcome, shown, yes_or_no, IsNew, IsPin, pinned_by, IsLegal}
use Rattle.shen_graph.specs.History.{is_full, after_reply}

-- a command that is no Pin pins nothing, and leaves what it says

pub pins_none : (graph : Graph) (thread : ℕ) (command : Command) → (IsPin command → ⊥) → pinned_by graph thread command ≡ None
pins_none graph thread (New dst refs nums) never = refl
pins_none graph thread (Get dst src field) never = refl
pins_none graph thread (Set obj field val) never = refl
pins_none graph thread (Cas obj field expect val) never = refl
pins_none graph thread (Xchg dst obj field val) never = refl
pins_none graph thread (Rd obj index) never = refl
pins_none graph thread (Wr obj index value) never = refl
pins_none graph thread (Copy dst src) never = refl
pins_none graph thread (Drop dst) never = refl
pins_none graph thread (Same first_index second_index) never = refl
pins_none graph thread Gc never = refl
pins_none graph thread (Unpin slot) never = refl
pins_none graph thread (Pin slot obj) never = absurd (never tt)

pub leaves_outcome : (graph : Graph) (thread : ℕ) (command : Command) (answer : Reply) → (IsPin command → ⊥) → after_reply graph thread command answer ≡ (outcome graph thread command).graph
leaves_outcome graph thread (New dst refs nums) answer never = refl
leaves_outcome graph thread (Get dst src field) answer never = refl
leaves_outcome graph thread (Set obj field val) answer never = refl
leaves_outcome graph thread (Cas obj field expect val) answer never = refl
leaves_outcome graph thread (Xchg dst obj field val) answer never = refl
leaves_outcome graph thread (Rd obj index) answer never = refl
leaves_outcome graph thread (Wr obj index value) answer never = refl
leaves_outcome graph thread (Copy dst src) answer never = refl
leaves_outcome graph thread (Drop dst) answer never = refl
leaves_outcome graph thread (Same first_index second_index) answer never = refl
leaves_outcome graph thread Gc answer never = refl
leaves_outcome graph thread (Unpin slot) answer never = refl
leaves_outcome graph thread (Pin slot obj) answer never = absurd (never tt)

-- and it has its answer, or is refused
pub legal_plain : (regions region_words : ℕ) (graph : Graph) (thread : ℕ) (command : Command) (answer : Reply) (next_graph : Graph) → (IsPin command → ⊥) → IsLegal regions region_words graph thread command answer next_graph
    → (answers answer next_graph ≡ outcome graph thread command) ⊎ (IsNew command × (answer ≡ reply.Full) × (next_graph ≡ graph))
legal_plain regions region_words graph thread command answer next_graph never (inl step) = inl step.1
legal_plain regions region_words graph thread command answer next_graph never (inr (inl full_reply)) = inr full_reply
legal_plain regions region_words graph thread command answer next_graph never (inr (inr pinning)) = absurd (none-some pinning.name (sym (pins_none graph thread command never) ∙ pinning.pins))

-- an outcome is never Full

shown_given : (reference : Reference) → is_full (shown reference) ≡ false
shown_given None = refl
shown_given (Some name) = refl

either_given : (holds : Bool) → is_full (yes_or_no holds) ≡ false
either_given true = refl
either_given false = refl

on_given : {A : Type 0} (found : Option A) (graph : Graph) (f : A → Outcome) → ((value : A) → is_full (f value).reply ≡ false) → is_full (on found graph f).reply ≡ false
on_given None graph f each_given = refl
on_given (Some value) graph f each_given = each_given value

pub outcome_given : (graph : Graph) (thread : ℕ) (command : Command) → is_full (outcome graph thread command).reply ≡ false
outcome_given graph thread (New dst refs nums) = refl
outcome_given graph thread (Get dst src field) = on_given (field_at graph thread src field) graph (λ reference. answers (shown reference) (with_root graph thread dst reference)) shown_given
outcome_given graph thread (Set obj field val) = on_given (field_at graph thread obj field) graph (λ _. answers reply.Ok (with_field graph thread obj field (graph.root thread val))) (λ _. refl)
outcome_given graph thread (Cas obj field expect val) =
    on_given (field_at graph thread obj field) graph (λ reference. if same_reference reference (graph.root thread expect) then answers reply.Yes (with_field graph thread obj field (graph.root thread val)) else answers reply.No graph)
    (λ reference. elim (same_reference reference (graph.root thread expect)) as (λ test. is_full (if test then answers reply.Yes (with_field graph thread obj field (graph.root thread val)) else answers reply.No graph).reply ≡ false) [ true ↦ refl | false ↦ refl ])
outcome_given graph thread (Xchg dst obj field val) = on_given (field_at graph thread obj field) graph (λ reference. answers (shown reference) (with_root (with_field graph thread obj field (graph.root thread val)) thread dst reference)) shown_given
outcome_given graph thread (Rd obj index) = on_given (number_at graph thread obj index) graph (λ number. answers (reply.Number number) graph) (λ _. refl)
outcome_given graph thread (Wr obj index value) = on_given (number_at graph thread obj index) graph (λ _. answers reply.Ok (with_number graph thread obj index value)) (λ _. refl)
outcome_given graph thread (Copy dst src) = refl
outcome_given graph thread (Drop dst) = refl
outcome_given graph thread (Same index second_index) = either_given (same_reference (graph.root thread index) (graph.root thread second_index))
outcome_given graph thread Gc = refl
outcome_given graph thread (Pin slot obj) = refl
outcome_given graph thread (Unpin slot) = on_given (graph.pin thread slot) graph (λ _. answers reply.Ok (with_pin graph thread slot None)) (λ _. refl)
