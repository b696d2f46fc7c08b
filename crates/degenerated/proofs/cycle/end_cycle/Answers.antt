use Rattle.std.proofs.Common.{◌≡◌, ℕ, sym, ap, ◌∙◌, subst}
use Rattle.heap_words.specs.Words.{Word, Evac, Ask, write}
use Rattle.image_graph.specs.State.{config_of, memory_of}
use Rattle.image_graph.proofs.NamedStores.{stored}
use Rattle.cycle_words.specs.StillHolds.{LeavingHolds}
use Rattle.cycle_words.specs.Updating.Changes.{cycle_ended}
use Rattle.cycle_words.proofs.Finishing.SetLeft.{leaving_holds}
use Rattle.degenerated.proofs.Finishing.{ended}
use Rattle.degenerated.proofs.cycle.end_cycle.Goals as goal

pub returns-clause-words : goal.returns-clause-words
returns-clause-words c =
    let config = c.config-config.result in
    let ended_image = c.end_updating.new.image in
    let config_before : config_of ended_image ≡ config = sym c.config-config.ensures in
    let config_evac : config_of c.set_word.new.self ≡ config = c.set_word.ensures.config ∙ config_before in
    let stored_evac = stored (config_of ended_image) config _ _ Evac c.evac_at.result 0 config_before tt c.evac_at.ensures c.set_word.ensures.named in
    let stored_ask = stored (config_of c.set_word.new.self) config _ _ Ask c.ask_at.result 0 config_evac tt c.ask_at.ensures c.set_word-2.ensures.named in
    stored_ask ∙ ap (λ memory_then. write memory_then Ask 0) (stored_evac ∙ ap (λ memory_then. write memory_then Evac 0) (c.end_updating.ensures.words ∙ ap cycle_ended c.free_set.ensures.words))
    ∙ ended (config_of c.args.image.now) (memory_of c.args.image.now)

pub returns-clause-holds : goal.returns-clause-holds
returns-clause-holds c =
    let config = config_of c.args.image.now in
    let memory : Word → ℕ = memory_of c.args.image.now in
    subst (λ (other_memory : Word → ℕ). LeavingHolds config memory other_memory) (sym (returns-clause-words c)) (leaving_holds config memory)
