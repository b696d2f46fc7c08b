use Rattle.std.proofs.Common.{ℕ, sym, ap, ◌∙◌, subst}
use Rattle.heap_words.specs.Words.{Word}
use Rattle.image_graph.specs.State.{config_of, memory_of}
use Rattle.cycle_words.specs.StillHolds.{EndingHolds}
use Rattle.cycle_words.proofs.Finishing.SetFreed.{ending_holds}
use Rattle.cycle_words.specs.Updating.Changes.{cycle_ended}
use Rattle.update_refs.proofs.end.final_update.Goals as goal

pub returns-clause-words : goal.returns-clause-words
returns-clause-words c = c.end_updating.ensures.words ∙ ap cycle_ended c.free_set.ensures.words

pub returns-clause-holds : goal.returns-clause-holds
returns-clause-holds c =
    let config = config_of c.args.image.now in
    let memory : Word → ℕ = memory_of c.args.image.now in
    subst (λ (other_memory : Word → ℕ). EndingHolds config memory other_memory) (sym (returns-clause-words c)) (ending_holds config memory)
