use Rattle.std.proofs.Common.{◌≡◌, ◌*◌, ◌%◌, ◌^◌, ℕ, sym, ap, ◌∙◌}
use Rattle.std.specs.Int.RustNames.{bit_or}
use Rattle.heap_words.specs.declared.config.Config.{Config}
use Rattle.heap_words.specs.Words.{Word, Free, Top, Tams, Limit, word_at, write}
use Rattle.image_graph.specs.State.{config_of, memory_of}
use Rattle.image_graph.proofs.NamedStores.{stored}
use Rattle.mark_core.proofs.Freeing.{freed_by_stores}
use Rattle.mark_core.proofs.dead.free_region.Goals as goal

pub returns-clause-words : goal.returns-clause-words
returns-clause-words c =
    let old = c.args.image.now in
    let config = config_of old in
    let memory : Word → ℕ = memory_of old in
    let region = c.args.region in
    let first_image = c.set_word.new.self in
    let second_image = c.set_word-2.new.self in
    let third_image = c.set_word-3.new.self in
    let four = c.set_word-4.new.self in
    let same_config : c.config-config.result ≡ config = c.config-config.ensures in
    let same_free : c.word-free.result ≡ memory Free = c.word-free.ensures.named Free tt (ap (λ (config : Config). word_at config Free) (sym same_config) ∙ sym c.free_at.ensures) in
    let to_one = stored config config memory (memory_of first_image) Free c.free_at-2.result (bit_or c.word-free.result (1 * 2 ^ region % 2 ^ 64)) (λ i. config) tt
    (c.free_at-2.ensures ∙ ap (λ (config : Config). word_at config Free) same_config) c.set_word.ensures.named in
    let config_one = c.set_word.ensures.config in
    let to_two = stored (config_of first_image) config (memory_of first_image) (memory_of second_image) (Top region) c.top_at.result 0 config_one c.requires
    (c.top_at.ensures ∙ ap (λ (config : Config). word_at config (Top region)) same_config) c.set_word-2.ensures.named in
    let config_two = c.set_word-2.ensures.config ∙ config_one in
    let to_three = stored (config_of second_image) config (memory_of second_image) (memory_of third_image) (Tams region) c.tams_at.result 0 config_two c.requires
    (c.tams_at.ensures ∙ ap (λ (config : Config). word_at config (Tams region)) same_config) c.set_word-3.ensures.named in
    let config_three = c.set_word-3.ensures.config ∙ config_two in
    let to_four = stored (config_of third_image) config (memory_of third_image) (memory_of four) (Limit region) c.limit_at.result 0 config_three c.requires
    (c.limit_at.ensures ∙ ap (λ (config : Config). word_at config (Limit region)) same_config) c.set_word-4.ensures.named in
    to_four ∙ ap (λ memory_then. write memory_then (Limit region) 0) (to_three ∙ ap (λ memory_then. write memory_then (Tams region) 0) (to_two ∙ ap (λ memory_then. write memory_then (Top region) 0)
    (to_one ∙ ap (λ bits. write memory Free (bit_or bits (1 * 2 ^ region % 2 ^ 64))) same_free)))
    ∙ freed_by_stores region memory
