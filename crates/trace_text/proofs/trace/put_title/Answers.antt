use Rattle.std.proofs.Common.{[], ◌∷◌, append_assoc}
use Rattle.shen_base.proofs.Stages.{puts_both, puts_same}
use Rattle.trace_reading.specs.Spelling.{newline, numbers}
use Rattle.trace_text.proofs.trace.put_title.Goals as goal

pub returns : goal.returns
returns g c = puts_same (append_assoc c.args.title.now (numbers c.args.values.now) (newline ∷ [])) (puts_both c.put_word.ensures c.put.ensures.put)
