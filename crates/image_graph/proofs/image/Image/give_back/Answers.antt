use Rattle.std.proofs.Common.{◌≡◌, ℕ, ◌-◌, sym, ap, ◌∙◌}
use Rattle.heap_words.specs.Words.{Word, Top, word_at, write}
use Rattle.heap_words.specs.Encoding.{next_in}
use Rattle.regions.specs.Place.{base_of}
use Rattle.image_graph.specs.SeatBuffers.{buffer_region}
use Rattle.image_graph.specs.State.{config_of, memory_of}
use Rattle.image_graph.proofs.image.Image.give_back.Goals as goal

pub returns-clause-words : goal.returns-clause-words
returns-clause-words c =
    let config = config_of c.args.self.now in
    let memory : Word → ℕ = memory_of c.args.self.now in
    let word = c.args.word in
    let region : c.region_of_buffer-region.result ≡ buffer_region config word = c.region_of_buffer-region.ensures in
    let same_place : word_at config (Top (buffer_region config word)) ≡ c.top_at.result = sym (c.top_at.ensures ∙ ap (λ region. word_at config (Top region)) region) in
    let value : c.next_of.result - c.base.result ≡ next_in word - base_of config (buffer_region config word) =
    ap (λ next_address. next_address - c.base.result) c.next_of.ensures ∙ ap (λ base_address. next_in word - base_address) (c.base.ensures ∙ ap (base_of config) region) in
    c.set_word.ensures.named (Top (buffer_region config word)) c.requires.region same_place ∙ ap (λ written. write memory (Top (buffer_region config word)) written) value
