use Rattle.std.proofs.Common.{arith, ◌≡◌, ◌≢◌, ◌<◌, ◌≤◌, length, get_or, set, sym, ap, ◌∙◌, subst, ⊎_elim}
use Rattle.std.proofs.lemmas.Bool.{cases_eq, cases_lt}
use Rattle.std.proofs.lemmas.List.{get_or-set_same, get_or-set_other, length-set}
use Rattle.regions.specs.Table.{current_index, IsOwnCopy}
use Rattle.regions.proofs.copies.follow.Goals as goal

pub loop-index-preserved : goal.loop-index-preserved
loop-index-preserved c =
    let first = c.args.first in
    let heap = c.args.heap.now in
    let places = c.loop-index.places in
    let old = c.args.places.now in
    let index = c.loop-index.index in
    let found_index = c.current_index.result in
    let before = c.loop-index.invariant in
    let new = get_or places found_index 0 in
    let inside : index < length places = omega (arith, before.table, c.requires.table, c.loop-index-test.true) in
    let found_current : found_index ≡ current_index first heap index = c.current_index.ensures.value in
    let read : IsOwnCopy first heap (current_index first heap index) → get_or places found_index 0 ≡ get_or old (current_index first heap index) 0 =
    λ current.
    let stays : current_index first heap found_index ≡ found_index = ap (current_index first heap) found_current ∙ current ∙ sym found_current in
    ⊎_elim
    (λ (earlier : found_index < index). before.done found_index earlier (ap (current_index first heap) stays) ∙ ap (λ index. get_or old index 0) (stays ∙ found_current))
    (λ (later : index ≤ found_index). before.later found_index later ∙ ap (λ index. get_or old index 0) found_current)
    (cases_lt found_index index) in
    record {
      table = length-set places index new ∙ before.table;
      done = λ any_index index_below current. ⊎_elim
          (λ (same_place : index ≡ any_index).
          subst (λ other_index. IsOwnCopy first heap (current_index first heap other_index) → get_or (set places index new) other_index 0 ≡ get_or old (current_index first heap other_index) 0) same_place
          (λ current_now. get_or-set_same places index new 0 inside ∙ read current_now) current)
          (λ (other_place : index ≢ any_index). get_or-set_other places index any_index new 0 (λ numbers_equal. other_place (sym numbers_equal)) ∙ before.done any_index (omega (arith, index_below, other_place)) current)
          (cases_eq index any_index);
      later = λ any_index high. get_or-set_other places index any_index new 0 (λ numbers_equal. omega (arith, numbers_equal, high)) ∙ before.later any_index (omega (arith, high));
    }
