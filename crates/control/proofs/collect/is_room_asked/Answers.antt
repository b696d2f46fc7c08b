use Rattle.std.proofs.Common.{◌∙◌, sym, ap}
use Rattle.std.specs.Prelude.{◌==◌}
use Rattle.std.specs.Int.{bit_at}
use Rattle.std.proofs.lemmas.Nat.Bits.{shr_and_one}
use Rattle.heap_words.specs.Words.{Ask, word_at}
use Rattle.control.proofs.collect.is_room_asked.Goals as goal

pub returns : goal.returns
returns c =
    let asked = c.word.ensures.named Ask tt (sym (c.ask_at.ensures ∙ ap (λ config. word_at config Ask) c.config.ensures)) in
    ap (λ lowest_bit. lowest_bit == 1) (shr_and_one c.word.result 1 ∙ ap (λ word. bit_at word 1) asked)
