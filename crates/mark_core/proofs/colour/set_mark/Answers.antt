use Rattle.std.proofs.Common.{◌≡◌, ◌+◌, ◌<◌, ℕ, ap, ◌∙◌, arith}
use Rattle.std.specs.Int.RustNames.{bit_or}
use Rattle.heap_words.specs.declared.config.Config.{Config}
use Rattle.heap_words.specs.Words.{Word, Grey, Black, word_at, write, bit_words}
use Rattle.regions.specs.Marks.{mark_word, mark_mask}
use Rattle.regions.proofs.MarksApart.{word_inside}
use Rattle.image_graph.specs.State.{config_of, memory_of}
use Rattle.mark_core.proofs.colour.set_mark.Goals as goal

pub returns-clause-grey : goal.returns-clause-grey
returns-clause-grey c = λ start.
    let config = config_of c.args.image.now in
    let memory : Word → ℕ = memory_of c.args.image.now in
    let address : ℕ = c.args.address in
    let other_number : ℕ = mark_word config address in
    let number : c.mark_word.result ≡ other_number = c.mark_word.ensures.value ∙ ap (λ (config : Config). mark_word config address) c.config-config.ensures in
    let same_place : word_at config (Grey other_number) ≡ c.args.row + c.mark_word.result = omega (arith, start, number) in
    let number_inside : other_number < bit_words config = word_inside config address c.requires.inside in
    let mask : c.mark_mask.result ≡ mark_mask config address = c.mark_mask.ensures ∙ ap (λ (config : Config). mark_mask config address) c.config-config.ensures in
    c.set_word.ensures.named (Grey other_number) number_inside same_place
    ∙ ap (λ bits. write memory (Grey other_number) (bit_or bits c.mark_mask.result)) (c.word.ensures.named (Grey other_number) number_inside same_place)
    ∙ ap (λ bits. write memory (Grey other_number) (bit_or (memory (Grey other_number)) bits)) mask

pub returns-clause-black : goal.returns-clause-black
returns-clause-black c = λ start.
    let config = config_of c.args.image.now in
    let memory : Word → ℕ = memory_of c.args.image.now in
    let address : ℕ = c.args.address in
    let other_number : ℕ = mark_word config address in
    let number : c.mark_word.result ≡ other_number = c.mark_word.ensures.value ∙ ap (λ (config : Config). mark_word config address) c.config-config.ensures in
    let same_place : word_at config (Black other_number) ≡ c.args.row + c.mark_word.result = omega (arith, start, number) in
    let number_inside : other_number < bit_words config = word_inside config address c.requires.inside in
    let mask : c.mark_mask.result ≡ mark_mask config address = c.mark_mask.ensures ∙ ap (λ (config : Config). mark_mask config address) c.config-config.ensures in
    c.set_word.ensures.named (Black other_number) number_inside same_place
    ∙ ap (λ bits. write memory (Black other_number) (bit_or bits c.mark_mask.result)) (c.word.ensures.named (Black other_number) number_inside same_place)
    ∙ ap (λ bits. write memory (Black other_number) (bit_or (memory (Black other_number)) bits)) mask
