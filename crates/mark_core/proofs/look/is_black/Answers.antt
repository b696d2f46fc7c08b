use Rattle.std.proofs.Common.{◌≡◌, ◌<◌, ◌==◌, ◌&&◌, ℕ, Bool, sym, ap, ◌∙◌, subst}
use Rattle.std.specs.Int.{bit_at}
use Rattle.std.proofs.lemmas.Bool.{le-leb}
use Rattle.heap_words.specs.declared.config.Config.{Config}
use Rattle.heap_words.specs.Words.{Word, Heap, Black, IsWord, bit_words}
use Rattle.regions.specs.Marks.{mark_word, mark_bit}
use Rattle.image_graph.specs.State.{config_of, memory_of}
use Rattle.image_graph.proofs.NamedStores.{placed_inside}
use Rattle.mark_core.proofs.Reading.{read}
use Rattle.mark_core.proofs.look.is_black.Goals as goal

pub mark_word-requires : goal.mark_word-requires
mark_word-requires c = subst (λ (config : Config). IsWord config (Heap c.args.address)) (sym c.config-config.ensures) c.requires

pub black_at-requires : goal.black_at-requires
black_at-requires c = c.mark_word.ensures.inside

pub word-word-requires : goal.word-word-requires
word-word-requires c = placed_inside (config_of c.args.image.now) c.config-config.result (Black c.mark_word.result) _ (sym c.config-config.ensures) c.mark_word.ensures.inside c.black_at.ensures

pub is_marked_in-requires : goal.is_marked_in-requires
is_marked_in-requires c = subst (λ (config : Config). IsWord config (Heap c.args.address)) (sym c.config-config.ensures) c.requires

pub returns : goal.returns
returns c =
    let config = config_of c.args.image.now in
    let memory : Word → ℕ = memory_of c.args.image.now in
    let address = c.args.address in
    let mark_number = c.mark_word.result in
    let same_word : mark_number ≡ mark_word config address = c.mark_word.ensures.value ∙ ap (λ (config : Config). mark_word config address) c.config-config.ensures in
    let word : c.word-word.result ≡ memory (Black mark_number) =
    read config _ memory (Black mark_number) _ _ c.config-config.ensures (subst (λ (config : Config). mark_number < bit_words config) c.config-config.ensures c.mark_word.ensures.inside) c.black_at.ensures c.word-word.ensures.named in
    c.is_marked_in.ensures
    ∙ ap (λ (config : Config). bit_at c.word-word.result (mark_bit config address) == 1) c.config-config.ensures
    ∙ ap (λ (given_word : ℕ). bit_at given_word (mark_bit config address) == 1) (word ∙ ap (λ (number : ℕ). memory (Black number)) same_word)
    ∙ ap (λ (holds : Bool). holds && (bit_at (memory (Black (mark_word config address))) (mark_bit config address) == 1)) (sym (le-leb config.region_words address c.requires.0))
