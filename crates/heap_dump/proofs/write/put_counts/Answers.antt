use Rattle.std.proofs.Common.{ℕ, List, [], ◌∷◌, ◌++◌, ◌∙◌, ap, sym, codes, append-nil, append_assoc, arith, take}
use Rattle.std.specs.Fmt.{decimal}
use Rattle.std.proofs.lemmas.List.{take_all}
use Rattle.shen_base.proofs.Stages.{puts_both, puts_same}
use Rattle.trace_reading.specs.Spelling.{space, newline, numbers}
use Rattle.trace_text.proofs.AnswerLemmas.{flat_map-take_more}
use Rattle.heap_dump.proofs.write.put_counts.Goals as goal

abbrev title : List ℕ
title = codes "counts"

pub loop-count-init : goal.loop-count-init
loop-count-init g c = puts_same (sym (append-nil title)) c.put.ensures.put

pub loop-count-preserved : goal.loop-count-preserved
loop-count-preserved g c =
    let counts = c.args.counts.now in
    let index = c.loop-count.count-index in
    puts_same
    (append_assoc title (numbers (take index counts)) _
    ∙ ap (λ text. title ++ text) (flat_map-take_more (λ number. space ∷ decimal number) counts index _ (omega arith)))
    (puts_both c.loop-count.invariant (puts_both c.put-in-loop-count.ensures.put c.put_number.ensures.put))

pub returns : goal.returns
returns g c =
    let counts = c.args.counts.now in
    puts_same
    (ap (λ (some_counts : List ℕ). (title ++ numbers some_counts) ++ newline ∷ []) (take_all c.loop-count.count-index counts c.loop-count-test.false)
    ∙ append_assoc title (numbers counts) (newline ∷ []))
    (puts_both c.loop-count.invariant c.put-2.ensures.put)
