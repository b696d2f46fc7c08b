use Rattle.heap_words.specs.Phases.{evacuation_phase}
use Rattle.std.proofs.Common.{◌≡◌, ◌*◌, ℕ, ◌&&◌, ◌↔◌, true, sym, ap, ◌∙◌, subst}
use Rattle.heap_words.specs.declared.config.Config.{Config}
use Rattle.heap_words.specs.Words.{Word, Phase}
use Rattle.image_graph.specs.State.{config_of, words_of, memory_of}
use Rattle.image_graph.proofs.BufferTurns.{no_more_seats}
use Rattle.cycle_words.specs.Finishing.Updated.{all_updated, CanUpdateAll}
use Rattle.cycle_words.specs.Finishing.Copies.{CanCopyFrom, all_copied, is_room_for_all}
use Rattle.cycle_words.specs.Finishing.Finish.{CanFree, finished_from, nobody_waits}
use Rattle.cycle_words.specs.StillHolds.{FinishingHolds}
use Rattle.cycle_words.proofs.Finishing.FinishingHolds.{finishing_holds}
use Rattle.degenerated.specs.declared.cycle.Finished.{Finished}
use Rattle.degenerated.specs.declared.cycle.Finished.TheVariants.{Whole}
use Rattle.degenerated.proofs.cycle.finish.Goals as goal

-- what is asked of words, and told of them, once buffers were let go
abbrev Copies : Config → (Word → ℕ) → Type 0
Copies config memory = memory Phase ≡ evacuation_phase → CanCopyFrom config memory config.region_words (config.regions * config.region_words)

abbrev Updates : Config → (Word → ℕ) → Type 0
Updates config memory = is_room_for_all config memory ≡ true → CanUpdateAll config (all_copied config memory)

abbrev Frees : Config → (Word → ℕ) → Type 0
Frees config memory = is_room_for_all config memory ≡ true → CanFree config (all_updated config (all_copied config memory))

abbrev Tells : Finished → Config → (Word → ℕ) → Type 0
Tells result config memory = (result ≡ Whole) ↔ ((is_room_for_all config memory && nobody_waits config (finished_from config memory)) ≡ true)

pub let_go-requires : goal.let_go-requires
let_go-requires c = c.requires.buffers

pub end-requires-clause-copies : goal.end-requires-clause-copies
end-requires-clause-copies c =
    subst (λ (config : Config). Copies config (memory_of c.let_go.new.self)) (sym c.let_go.ensures.config)
    (subst (Copies (config_of c.args.image.now)) (sym c.let_go.ensures.words) c.requires.copies)

pub end-requires-clause-updates : goal.end-requires-clause-updates
end-requires-clause-updates c =
    subst (λ (config : Config). Updates config (memory_of c.let_go.new.self)) (sym c.let_go.ensures.config)
    (subst (Updates (config_of c.args.image.now)) (sym c.let_go.ensures.words) c.requires.updates)

pub end-requires-clause-frees : goal.end-requires-clause-frees
end-requires-clause-frees c =
    subst (λ (config : Config). Frees config (memory_of c.let_go.new.self)) (sym c.let_go.ensures.config)
    (subst (Frees (config_of c.args.image.now)) (sym c.let_go.ensures.words) c.requires.frees)

pub returns-clause-words : goal.returns-clause-words
returns-clause-words c =
    c.end.ensures.words ∙ ap (λ (config : Config). finished_from config (memory_of c.let_go.new.self)) c.let_go.ensures.config
    ∙ ap (finished_from (config_of c.args.image.now)) c.let_go.ensures.words

pub returns-clause-holds : goal.returns-clause-holds
returns-clause-holds c =
    let config = config_of c.args.image.now in
    let memory : Word → ℕ = memory_of c.args.image.now in
    subst (λ (other_memory : Word → ℕ). FinishingHolds config memory other_memory) (sym (returns-clause-words c)) (finishing_holds config memory (no_more_seats config (words_of c.args.image.now)))

pub returns-clause-whole : goal.returns-clause-whole
returns-clause-whole c =
    subst (Tells c.end.result (config_of c.args.image.now)) c.let_go.ensures.words
    (subst (λ (config : Config). Tells c.end.result config (memory_of c.let_go.new.self)) c.let_go.ensures.config c.end.ensures.whole)
