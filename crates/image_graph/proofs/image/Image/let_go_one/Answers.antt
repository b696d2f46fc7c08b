use Rattle.std.proofs.Common.{◌≡◌, ◌≢◌, ℕ, true, false, sym, ap, ◌∙◌}
use Rattle.heap_words.specs.Words.{Word, Current, write}
use Rattle.image_graph.specs.SeatBuffers.{is_last, filled_over}
use Rattle.image_graph.specs.LetGo.{given_back}
use Rattle.image_graph.specs.State.{config_of, memory_of}
use Rattle.image_graph.proofs.NamedStores.{stored}
use Rattle.image_graph.proofs.BufferTurns.{let_go_back, let_go_filled}
use Rattle.image_graph.proofs.image.Image.let_go_one.Goals as goal
use Rattle.image_graph.proofs.image.Image.let_go_one.Goals.{then-is_last, else-is_last}

pub returns-clause-words : goal.returns-clause-words
returns-clause-words c =
    let config = config_of c.args.self.now in
    let memory : Word → ℕ = memory_of c.args.self.now in
    let seat = c.args.seat in
    let word : c.word-word.result ≡ memory (Current seat) = c.word-word.ensures.named (Current seat) c.requires.seat (sym c.cur_at-at.ensures) in
    let some_word : memory (Current seat) ≢ 0 = λ no_word. c.if-word-eq0.false (word ∙ no_word) in
    let last_tested : is_last config memory (memory (Current seat)) ≡ c.is_last.result = ap (is_last config memory) (sym word) ∙ sym c.is_last.ensures in
    elim c.if-is_last.branch [
      | then-is_last w ↦
          let last_object : c.is_last.result ≡ true = cc in
          stored (config_of c.if-is_last.self) config _ _ (Current seat) c.cur_at-at.result 0 (ap config_of w.self-is ∙ w.give_back.ensures.config) c.requires.seat c.cur_at-at.ensures c.set_word.ensures.named
          ∙ ap (λ (memory : Word → ℕ). write memory (Current seat) 0) (ap memory_of w.self-is ∙ w.give_back.ensures.words ∙ ap (given_back config memory) word)
          ∙ let_go_back config memory seat some_word (last_tested ∙ last_object)
      | else-is_last w ↦
          let not_last : c.is_last.result ≡ false = cc in
          stored (config_of c.if-is_last.self) config _ _ (Current seat) c.cur_at-at.result 0 (ap config_of w.self-is ∙ w.fill.ensures.config) c.requires.seat c.cur_at-at.ensures c.set_word.ensures.named
          ∙ ap (λ (memory : Word → ℕ). write memory (Current seat) 0) (ap memory_of w.self-is ∙ w.fill.ensures.words ∙ ap (filled_over memory) word)
          ∙ let_go_filled config memory seat some_word (last_tested ∙ not_last)
    ]
