use Rattle.std.proofs.Common.{ℕ, List, ◌++◌, ◌∙◌, ap, take}
use Rattle.shen_base.proofs.Stages.{puts_same}
use Rattle.trace_reading.specs.Spelling.{command_word, numbers_of, numbers}
use Rattle.trace_text.proofs.trace.put_command.Goals as goal

pub returns : goal.returns
returns g c =
    let command = c.args.command in
    let values = c.numbers_of-count.result in
    puts_same
    (ap (λ (word : List ℕ). word ++ numbers (take values.1 values.0)) c.word_of.ensures ∙ ap (λ (some_numbers : List ℕ). command_word command ++ numbers some_numbers) c.numbers_of-count.ensures.numbers)
    c.put_word.ensures
