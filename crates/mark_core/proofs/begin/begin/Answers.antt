use Rattle.std.proofs.Common.{◌≡◌, ℕ, [], ap, ◌∙◌}
use Rattle.heap_words.specs.declared.config.Config.{Config}
use Rattle.heap_words.specs.Words.{Word, Phase, Claim, Ask, bit_words, word_at, write}
use Rattle.heap_world.specs.Walk.{has, with_addresses}
use Rattle.image_graph.specs.Full.{held_words}
use Rattle.image_graph.specs.State.{config_of, words_of, memory_of, found_of}
use Rattle.image_graph.proofs.NamedStores.{stored}
use Rattle.mark_core.specs.Steps.{greyed, noted, emptied}
use Rattle.image_graph.proofs.Same.{memory_same}
use Rattle.mark_core.proofs.MarkingBegun.{all_inside, begun}
use Rattle.mark_core.proofs.begin.begin.Goals as goal

pub returns-clause-words : goal.returns-clause-words
returns-clause-words c =
    let old = c.args.image.now in
    let config = config_of old in
    let memory : Word → ℕ = memory_of old in
    let held_image = c.find_all_held.new.image in
    let grey_image = c.grey_found.new.image in
    let noted_image = c.note_edges.new.image in
    let four = c.empty_buffers.new.image in
    let unchanged = c.find_all_held.ensures.unchanged in
    let held_set = has (with_addresses [] (held_words config memory)) in
    let to_two : memory_of grey_image ≡ greyed config held_set (bit_words config) memory =
    c.grey_found.ensures.words
    ∙ ap (λ (config : Config). greyed config (has (found_of held_image)) (bit_words config) (memory_of held_image)) unchanged.config
    ∙ ap (λ memory_then. greyed config (has (found_of held_image)) (bit_words config) memory_then) (memory_same old held_image unchanged)
    ∙ ap (λ found_list. greyed config (has found_list) (bit_words config) memory) c.find_all_held.ensures.held in
    let config_two = c.grey_found.ensures.config ∙ unchanged.config in
    let to_three : memory_of noted_image ≡ noted config config.regions (greyed config held_set (bit_words config) memory) =
    c.note_edges.ensures.words ∙ ap (λ (config : Config). noted config config.regions (memory_of grey_image)) config_two ∙ ap (noted config config.regions) to_two in
    let config_three = c.note_edges.ensures.config ∙ config_two in
    let to_four : memory_of four ≡ emptied config.mutators (noted config config.regions (greyed config held_set (bit_words config) memory)) =
    c.empty_buffers.ensures.words ∙ ap (λ (config : Config). emptied config.mutators (memory_of noted_image)) config_three ∙ ap (emptied config.mutators) to_three in
    let config_four = c.empty_buffers.ensures.config ∙ config_three in
    let claim = stored (config_of four) config (memory_of four) (memory_of c.set_word.new.self) Claim c.claim_at.result 0 config_four tt
    (c.claim_at.ensures ∙ ap (λ (config : Config). word_at config Claim) (c.config-config.ensures ∙ config_four)) c.set_word.ensures.named in
    let config_five = c.set_word.ensures.config ∙ config_four in
    let ask = stored (config_of c.set_word.new.self) config (memory_of c.set_word.new.self) (memory_of c.set_word-2.new.self) Ask c.ask_at.result 0 config_five tt
    (c.ask_at.ensures ∙ ap (λ (config : Config). word_at config Ask) (c.config-config.ensures ∙ config_four)) c.set_word-2.ensures.named in
    let config_six = c.set_word-2.ensures.config ∙ config_five in
    let phase = stored (config_of c.set_word-2.new.self) config (memory_of c.set_word-2.new.self) (memory_of c.set_word-3.new.self) Phase c.phase_at.result 1 config_six tt
    (c.phase_at.ensures ∙ ap (λ (config : Config). word_at config Phase) (c.config-config.ensures ∙ config_four)) c.set_word-3.ensures.named in
    phase ∙ ap (λ memory_then. write memory_then Phase 1) (ask ∙ ap (λ memory_then. write memory_then Ask 0) (claim ∙ ap (λ memory_then. write memory_then Claim 0) to_four))
    ∙ begun config (words_of old) (all_inside config memory c.requires)
