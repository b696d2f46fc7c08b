-- Entries that a step settles.
use Rattle.std.proofs.Common.{◌≡◌, ℕ, ◌+◌, false, Some, None, refl, sym, ap, ◌∙◌, inl}
use Rattle.heap_words.specs.declared.config.Config.{Config}
use Rattle.shen_graph.specs.declared.command.Command.{Command}
use Rattle.shen_graph.specs.declared.command.Command.TheVariants.{Pin}
use Rattle.shen_graph.specs.declared.command.Reply.{Reply}
use Rattle.shen_graph.specs.declared.command.Reply.TheVariants as reply
use Rattle.shen_graph.specs.Graph.{Graph}
use Rattle.shen_graph.specs.Step.{outcome, answers, pinned_by, with_pinned}
use Rattle.shen_graph.specs.History.{after_entry, after_reply, is_full}
use Rattle.step_core.specs.Actor.{entry_of}
use Rattle.step_core.proofs.Machines.Stepped.{LegalBy, graph_by}

-- where a command pins no object, the graph after it is the outcome's
after_unpinned : (graph : Graph) (thread : ℕ) (command : Command) (answer : Reply) → pinned_by graph thread command ≡ None → after_reply graph thread command answer ≡ (outcome graph thread command).graph
after_unpinned graph thread (Pin slot obj) (reply.At place) no_pin = ap (λ pinned_name. with_pinned graph thread slot pinned_name place) no_pin
after_unpinned graph thread (Pin slot obj) _ no_pin = refl
after_unpinned graph thread _ answer no_pin = refl

-- the outcome's own answer is legal, where the command pins no object
pub legal_answer : (config : Config) (graph : Graph) (seat : ℕ) (command : Command) (answer : Reply) → is_full answer ≡ false → pinned_by graph (seat + 1) command ≡ None → (outcome graph (seat + 1) command).reply ≡ answer → LegalBy config graph seat command (Some answer)
legal_answer config graph seat command answer not_full no_pin outcome_reply = inl (no_pin, ap (λ given_reply. answers given_reply (after_entry graph (entry_of seat command answer))) (sym outcome_reply) ∙ rw (not_full, after_unpinned graph (seat + 1) command answer no_pin) refl)

-- and leads to the outcome's graph
pub graph_answer : (graph : Graph) (seat : ℕ) (command : Command) (answer : Reply) → is_full answer ≡ false → pinned_by graph (seat + 1) command ≡ None → graph_by graph seat command (Some answer) ≡ (outcome graph (seat + 1) command).graph
graph_answer graph seat command answer not_full no_pin = rw (not_full, after_unpinned graph (seat + 1) command answer no_pin) refl
