use Rattle.std.proofs.Common.{ℕ, List, ◌∷◌, ◌++◌, ◌∙◌, ap, sym, append-nil, append_assoc, arith, take}
use Rattle.std.specs.Fmt.{decimal}
use Rattle.std.proofs.lemmas.List.{take_all}
use Rattle.shen_base.proofs.Stages.{puts_both, puts_same}
use Rattle.trace_reading.specs.Spelling.{space, numbers}
use Rattle.trace_text.proofs.AnswerLemmas.{flat_map-take_more}
use Rattle.trace_text.proofs.trace.put_word.Goals as goal

pub loop-value-init : goal.loop-value-init
loop-value-init g c = puts_same (sym (append-nil c.args.word.now)) c.put.ensures.put

pub loop-value-preserved : goal.loop-value-preserved
loop-value-preserved g c =
    let values = c.args.values.now in
    let word = c.args.word.now in
    let byte_index = c.loop-value.value-index in
    puts_same
    (append_assoc word (numbers (take byte_index values)) _
    ∙ ap (λ text. word ++ text) (flat_map-take_more (λ value. space ∷ decimal value) values byte_index _ (omega arith)))
    (puts_both c.loop-value.invariant (puts_both c.put-in-loop-value.ensures.put c.put_number.ensures.put))

pub returns : goal.returns
returns g c =
    let word = c.args.word.now in
    puts_same (ap (λ (values : List ℕ). word ++ numbers values) (take_all c.loop-value.value-index c.args.values.now c.loop-value-test.false)) c.loop-value.invariant
