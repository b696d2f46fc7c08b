-- An answer that the graph accepts leaves the graph after its entry.
use Rattle.std.proofs.Common.{ℕ, ◌≡◌, Bool, true, false, Option, Some, None, List, Result, Ok, Err, inl, inr, refl, ap, sym, subst, ◌∙◌}
use Rattle.std.specs.Prelude.{if◌then◌else◌, MatchBool, IfOk}
use Rattle.heap_words.specs.declared.config.Config.{Config}
use Rattle.shen_graph.specs.declared.name.Name.{Name}
use Rattle.shen_graph.specs.declared.command.Command.{Command}
use Rattle.shen_graph.specs.declared.command.Command.TheVariants.{Pin}
use Rattle.shen_graph.specs.declared.command.Reply.{Reply}
use Rattle.shen_graph.specs.declared.command.Reply.TheVariants as reply
use Rattle.shen_graph.specs.Graph.{Graph, Reference}
use Rattle.shen_graph.specs.History.{Entry, is_full, after_reply, after_entry}
use Rattle.shen_graph.specs.Step.{Outcome, outcome, pinned_by, with_pinned, slot_of, IsLegal}
use Rattle.shen_graph.specs.Work.{Progress}
use Rattle.shen_check.specs.JudgeState.{MayAnswer}

-- what pins no object leaves its outcome, and what pins one has it pinned
unpinned_leaves : (graph : Graph) (thread : ℕ) (command : Command) (answer : Reply) → pinned_by graph thread command ≡ None → after_reply graph thread command answer ≡ (outcome graph thread command).graph
unpinned_leaves graph thread (Pin slot obj) (reply.At place) nothing_pinned = ap (λ (reference : Reference). with_pinned graph thread slot reference place) nothing_pinned
unpinned_leaves graph thread command answer nothing_pinned = refl

pinned_leaves : (graph : Graph) (thread : ℕ) (command : Command) (place : ℕ) (name : Name) → pinned_by graph thread command ≡ Some name → after_reply graph thread command (reply.At place) ≡ with_pinned graph thread (slot_of command) (Some name) place
pinned_leaves graph thread (Pin slot obj) place name pinned_name = ap (λ (reference : Reference). with_pinned graph thread slot reference place) pinned_name
pinned_leaves graph thread _ place name pinned_name = absurd cc

legal_leaves : (regions region_words : ℕ) (graph : Graph) (thread : ℕ) (command : Command) (answer : Reply) (next_graph : Graph) → (answer ≡ reply.Full → ⊥) → IsLegal regions region_words graph thread command answer next_graph → next_graph ≡ after_reply graph thread command answer
legal_leaves regions region_words graph thread command answer next_graph never (inl plain_answer) = ap (λ (given_outcome : Outcome). given_outcome.graph) plain_answer.1 ∙ sym (unpinned_leaves graph thread command answer plain_answer.0)
legal_leaves regions region_words graph thread command answer next_graph never (inr (inl full_answer)) = absurd (never full_answer.1)
legal_leaves regions region_words graph thread command answer next_graph never (inr (inr pinning)) =
    pinning.graph ∙ sym (pinned_leaves graph thread command pinning.place pinning.name pinning.pins) ∙ ap (after_reply graph thread command) (sym pinning.reply)

not_full : (answer : Reply) → (answer ≡ reply.Full → ⊥) → is_full answer ≡ false
not_full reply.Full never = absurd (never refl)
not_full _ never = refl

-- what is accepted may be answered, and what is not may not
accepted : (config : Config) (graph next_graph : Graph) (work : List (Option Progress)) (entry : Entry) → (entry.reply ≡ reply.Full → ⊥) → IsLegal config.regions config.region_words graph entry.thread entry.command entry.reply next_graph
    → MayAnswer config graph work entry × (next_graph ≡ after_entry graph entry)
accepted config graph next_graph work entry never legal =
    let same_after : after_entry graph entry ≡ after_reply graph entry.thread entry.command entry.reply = ap (λ (holds : Bool). if holds then graph else after_reply graph entry.thread entry.command entry.reply) (not_full entry.reply never) in
    let same_graph : next_graph ≡ after_entry graph entry = legal_leaves config.regions config.region_words graph entry.thread entry.command entry.reply next_graph never legal ∙ sym same_after in
    (record { legal = subst (IsLegal config.regions config.region_words graph entry.thread entry.command entry.reply) same_graph legal; full = λ reply_full. absurd (never reply_full) }, same_graph)

pub answered : {E : Type 0} (config : Config) (old_graph next_graph : Graph) (work : List (Option Progress)) (entry : Entry) (regions region_words : ℕ) (result : Result Bool E) (Same : Type 0) → regions ≡ config.regions → region_words ≡ config.region_words
    → (entry.reply ≡ reply.Full → ⊥)
    → IfOk result (λ allowed. MatchBool allowed (IsLegal regions region_words old_graph entry.thread entry.command entry.reply next_graph × (entry.reply ≡ reply.Full → ⊥)) (((some_graph : Graph) → IsLegal regions region_words old_graph entry.thread entry.command entry.reply some_graph → entry.reply ≡ reply.Full) × Same))
    → IfOk result (λ allowed. MatchBool allowed (MayAnswer config old_graph work entry × (next_graph ≡ after_entry old_graph entry)) (MayAnswer config old_graph work entry → ⊥))
answered config graph later_graph work entry regions region_words (Ok true) Same same_regions same_words never told =
    accepted config graph later_graph work entry never (subst (λ (region_words : ℕ). IsLegal config.regions region_words graph entry.thread entry.command entry.reply later_graph) same_words (subst (λ (regions : ℕ). IsLegal regions region_words graph entry.thread entry.command entry.reply later_graph) same_regions told.0))
answered config graph later_graph work entry regions region_words (Ok false) Same same_regions same_words never told = λ allowed.
    never (told.0 (after_entry graph entry) (subst (λ (regions : ℕ). IsLegal regions region_words graph entry.thread entry.command entry.reply (after_entry graph entry)) (sym same_regions)
    (subst (λ (region_words : ℕ). IsLegal config.regions region_words graph entry.thread entry.command entry.reply (after_entry graph entry)) (sym same_words) allowed.legal)))
answered config graph later_graph work entry regions region_words (Err fault) Same same_regions same_words never told = tt
