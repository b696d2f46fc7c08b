use Rattle.std.proofs.Common.{[], ◌∷◌, append_assoc}
use Rattle.shen_base.proofs.Stages.{puts_both, puts_same}
use Rattle.trace_reading.specs.Spelling.{newline, command_word, numbers_of, numbers}
use Rattle.trace_text.proofs.trace.put_line.Goals as goal

pub returns : goal.returns
returns g c =
    puts_both c.put_number.ensures.put
    (puts_both c.put.ensures.put
    (puts_same (append_assoc (command_word c.args.command) (numbers (numbers_of c.args.command)) (newline ∷ [])) (puts_both c.put_command.ensures c.put-2.ensures.put)))
