use Rattle.std.proofs.Common.{◌≡◌, ℕ, ◌<◌, ◌-◌, sym, ap, ◌∙◌, arith}
use Rattle.std.proofs.lemmas.Bool.{cond-true, lt-ltb}
use Rattle.std.specs.Prelude.{nat_lt}
use Rattle.heap_words.specs.Words.{Word, Heap, IsWord, word_at, write}
use Rattle.heap_words.specs.Encoding.{next_in, end_in, filler_header}
use Rattle.regions.proofs.PlaceLemmas.{regions_tile}
use Rattle.image_graph.specs.SeatBuffers.{buffer_region}
use Rattle.image_graph.specs.State.{config_of, memory_of}
use Rattle.image_graph.proofs.image.Image.fill.Goals as goal

pub returns-then-next-end-clause-words : goal.returns-then-next-end-clause-words
returns-then-next-end-clause-words c =
    let config = config_of c.args.self.now in
    let memory : Word → ℕ = memory_of c.args.self.now in
    let word = c.args.word in
    let next_read = c.next_of-next.ensures in
    let end_is = c.end_of-end.ensures in
    let words_left : next_in word < end_in word = omega (arith, c.if-next-end.true, next_read, end_is) in
    let is_word : IsWord config (Heap (next_in word)) =
    regions_tile.in_heap config (buffer_region config word) (next_in word) c.requires.region (record { from = c.requires.from_base; before = omega (arith, words_left, c.requires.to_end) }) in
    let next_place : word_at config (Heap (next_in word)) ≡ c.heap_at-at.result = sym (c.heap_at-at.ensures ∙ ap (λ address. word_at config (Heap address)) next_read) in
    let value : c.filler.result ≡ filler_header (end_in word - next_in word) = c.filler.ensures ∙ ap (λ end_address. filler_header (end_address - c.next_of-next.result)) end_is ∙ ap (λ next_address. filler_header (end_in word - next_address)) next_read in
    c.set_word.ensures.named (Heap (next_in word)) is_word next_place ∙ ap (λ written. write memory (Heap (next_in word)) written) value
    ∙ sym (cond-true (nat_lt (next_in word) (end_in word)) (write memory (Heap (next_in word)) (filler_header (end_in word - next_in word))) memory (lt-ltb _ _ words_left))
