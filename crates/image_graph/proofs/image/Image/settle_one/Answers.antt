use Rattle.std.proofs.Common.{◌≡◌, ◌≢◌, ℕ, false, sym, ap, ◌∙◌}
use Rattle.heap_words.specs.Words.{Word, Current, write}
use Rattle.image_graph.specs.SeatBuffers.{is_last, filled_over}
use Rattle.image_graph.specs.State.{config_of, memory_of}
use Rattle.image_graph.proofs.NamedStores.{stored}
use Rattle.image_graph.proofs.BufferTurns.{settled_gone}
use Rattle.image_graph.proofs.image.Image.settle_one.Goals as goal

pub returns-clause-words : goal.returns-clause-words
returns-clause-words c =
    let config = config_of c.args.self.now in
    let memory : Word → ℕ = memory_of c.args.self.now in
    let seat = c.args.seat in
    let word : c.word-word.result ≡ memory (Current seat) = c.word-word.ensures.named (Current seat) c.requires.seat (sym c.cur_at-at.ensures) in
    let inner : is_last config memory (memory (Current seat)) ≡ false = ap (is_last config memory) (sym word) ∙ sym c.is_last.ensures ∙ cc in
    let some_word : memory (Current seat) ≢ 0 = λ no_word. c.if-word-eq0.false (word ∙ no_word) in
    stored (config_of c.fill.new.self) config _ _ (Current seat) c.cur_at-at.result 0 c.fill.ensures.config c.requires.seat c.cur_at-at.ensures c.set_word.ensures.named
    ∙ ap (λ (memory : Word → ℕ). write memory (Current seat) 0) (c.fill.ensures.words ∙ ap (filled_over memory) word)
    ∙ settled_gone config memory seat some_word inner
