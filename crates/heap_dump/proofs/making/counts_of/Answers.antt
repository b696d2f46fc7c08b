use Rattle.std.proofs.Common.{ℕ, ◌+◌, List, [], ◌∷◌, ◌++◌, sym, ap, ◌∙◌, arith}
use Rattle.std.proofs.lemmas.List.FromFn.{map-range_with_len_more}
use Rattle.heap_dump.specs.ObjectsMade.{objects_made}
use Rattle.heap_dump.proofs.making.counts_of.Goals as goal

pub loop-mutator-preserved : goal.loop-mutator-preserved
loop-mutator-preserved c =
    let made_count = objects_made c.args.history.now.list in
    let mutator = c.loop-mutator.mutator in
    c.in_ok-push.ensures.added ∙ ap (λ count. c.loop-mutator.counts ++ count ∷ []) c.objects_made.ensures ∙ ap (λ (some_counts : List ℕ). some_counts ++ made_count (mutator + 1) ∷ []) c.loop-mutator.invariant
    ∙ sym (map-range_with_len_more made_count 1 mutator (mutator + 1) (omega arith))
