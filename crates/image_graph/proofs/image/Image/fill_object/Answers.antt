use Rattle.std.proofs.Common.{◌≡◌, ◌+◌, ℕ, sym, ap, ◌∙◌}
use Rattle.heap_words.specs.Words.{Word, Heap, write}
use Rattle.heap_words.specs.Encoding.{filler_header, object_words}
use Rattle.image_graph.specs.State.{memory_of}
use Rattle.image_graph.proofs.image.Image.fill_object.Goals as goal

pub returns-clause-words : goal.returns-clause-words
returns-clause-words c =
    let memory : Word → ℕ = memory_of c.args.self.now in
    let address = c.args.address in
    let shape_read : c.word.result ≡ memory (Heap (address + 1)) = c.word.ensures.named (Heap (address + 1)) c.requires.shape (sym c.heap_at.ensures) in
    c.set_word.ensures.named (Heap address) c.requires.header (sym c.heap_at-2.ensures)
    ∙ ap (write memory (Heap address)) (c.filler.ensures ∙ ap filler_header (c.words_of-words.ensures ∙ ap object_words shape_read))
