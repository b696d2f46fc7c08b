use Rattle.std.proofs.Common.{ℕ, sym, ap, ◌∙◌, subst}
use Rattle.heap_words.specs.declared.config.Config.{Config}
use Rattle.heap_words.specs.Words.{Word}
use Rattle.image_graph.specs.State.{config_of, words_of, memory_of}
use Rattle.image_graph.proofs.BufferTurns.{no_more_seats}
use Rattle.cycle_words.specs.StillHolds.{LimitsHold}
use Rattle.cycle_words.specs.Updating.Changes.{updating_begun}
use Rattle.cycle_words.proofs.Updating.LimitsNoted.{limits_hold}
use Rattle.update_refs.proofs.begin.init_update.Goals as goal

pub returns-clause-words : goal.returns-clause-words
returns-clause-words c =
    c.begin.ensures.words ∙ ap (λ (config : Config). updating_begun config (memory_of c.settle.new.self)) c.settle.ensures.config
    ∙ ap (updating_begun (config_of c.args.image.now)) c.settle.ensures.words

pub returns-clause-holds : goal.returns-clause-holds
returns-clause-holds c =
    let config = config_of c.args.image.now in
    let memory : Word → ℕ = memory_of c.args.image.now in
    subst (λ (other_memory : Word → ℕ). LimitsHold config memory other_memory) (sym (returns-clause-words c)) (limits_hold config memory (no_more_seats config (words_of c.args.image.now)))
