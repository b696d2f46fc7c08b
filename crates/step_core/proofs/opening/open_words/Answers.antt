use Rattle.std.proofs.Common.{◌≡◌, ℕ, ◌+◌, suc, List, replicate, refl, ap, ◌∙◌, arith}
use Rattle.std.specs.Prelude.{slice_set}
use Rattle.std.proofs.lemmas.List.{length-set}
use Rattle.heap_words.specs.Words.{Root, Heap, word_at, table_words}
use Rattle.step_core.specs.Opening.{rooted, first_free}
use Rattle.step_core.proofs.opening.open_words.Goals as goal

-- one store is as another of the same value at the same place
stored_alike : (xs ys : List ℕ) (place other_place value other_value : ℕ) → xs ≡ ys → place ≡ other_place → value ≡ other_value → slice_set xs place value ≡ slice_set ys other_place other_value
stored_alike xs ys place other_place value other_value lists places values = ap (λ x. slice_set x place value) lists ∙ ap (λ position. slice_set ys position value) places ∙ ap (λ x. slice_set ys other_place x) values

one_more : (n : ℕ) → suc n ≡ n + 1
one_more n = omega arith

pub loop-mutator-preserved : goal.loop-mutator-preserved
loop-mutator-preserved c =
    let heap = c.args.config in
    record {
      words =
          stored_alike c.loop-mutator.words.items _ c.root_at.result (word_at heap (Root c.loop-mutator.mutator 0)) c.region_words-hub.result heap.region_words
          c.loop-mutator.invariant.words c.root_at.ensures c.region_words-hub.ensures
          ∙ ap (λ count. rooted heap count (replicate (table_words heap) 0)) (one_more c.loop-mutator.mutator);
      long = length-set c.loop-mutator.words.items _ _ ∙ c.loop-mutator.invariant.long;
    }

pub returns : goal.returns
returns c =
    let heap = c.args.config in
    let all_mutators : c.loop-mutator.mutator ≡ heap.mutators = omega (arith, c.mutators-mutator-end.ensures) in
    stored_alike _ _ _ _ _ _
    (stored_alike _ _ _ _ _ _
    (stored_alike _ _ _ _ _ _
    (stored_alike _ _ _ _ _ _
    (stored_alike _ _ _ _ _ _
    (stored_alike _ _ _ _ _ _ (c.loop-mutator.invariant.words ∙ ap (λ count. rooted heap count (replicate (table_words heap) 0)) all_mutators) c.left_at.ensures c.mutators.ensures)
    c.free_at.ensures (c.first_free.ensures ∙ ap first_free c.regions.ensures))
    c.top_at.ensures refl)
    (c.heap_at.ensures ∙ ap (λ address. word_at heap (Heap address)) c.region_words-hub.ensures) refl)
    (c.heap_at-2.ensures ∙ ap (λ hub_address. word_at heap (Heap (hub_address + 1))) c.region_words-hub.ensures) c.shape_of.ensures)
    (c.heap_at-3.ensures ∙ ap (λ hub_address. word_at heap (Heap (hub_address + 2))) c.region_words-hub.ensures) c.name_word.ensures
