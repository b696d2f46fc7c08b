use Rattle.std.proofs.Common.{arith, ◌≡◌, ◌≢◌, ◌+◌, ◌-◌, ◌<◌, length, get_or, set, sym, ap, ◌∙◌, subst, ⊎_elim}
use Rattle.std.proofs.lemmas.Bool.{cases_eq}
use Rattle.std.proofs.lemmas.List.{get_or-set_same, get_or-set_other, length-set}
use Rattle.heap_words.specs.Encoding.{refs_in}
use Rattle.regions.specs.Slide.{placed_word, slid_word}
use Rattle.regions.specs.Table.{IsInTable, from_table}
use Rattle.regions.proofs.moves.slide_object.Goals as goal

pub placed_word-requires-clause-table : goal.placed_word-requires-clause-table
placed_word-requires-clause-table c = λ three_words few.
    let from = c.args.from in
    let word_index = c.loop-index.index in
    let index : from + (3 + (word_index - 3)) ≡ from + word_index = omega (arith, three_words) in
    let word : get_or c.args.heap.now (from + (3 + (word_index - 3))) 0 ≡ get_or c.loop-index.heap (from + word_index) 0 =
    ap (λ place. get_or c.args.heap.now place 0) index ∙ sym (c.loop-index.invariant.behind (from + word_index) (omega (arith, c.requires.down))) in
    subst (IsInTable c.args.first c.args.places.now) word (c.requires.table (word_index - 3) (omega (arith, three_words, few, c.refs_of-refs.ensures)))

pub loop-index-preserved : goal.loop-index-preserved
loop-index-preserved c =
    let from = c.args.from in
    let target = c.args.to in
    let index = c.loop-index.index in
    let heap = c.loop-index.heap in
    let new = c.placed_word.result in
    let before = c.loop-index.invariant in
    let renew = from_table c.args.first c.args.places.now in
    let inside : target + index < length heap = omega (arith, c.requires.down, c.requires.inside, c.loop-index-test.true, c.words_of-words.ensures, before.words) in
    let word : new ≡ slid_word renew (λ place. get_or c.args.heap.now place 0) from index =
    c.placed_word.ensures ∙ ap (λ refs. placed_word renew refs index (get_or heap (from + index) 0)) c.refs_of-refs.ensures
    ∙ ap (placed_word renew (refs_in (get_or c.args.heap.now (from + 1) 0)) index) (before.behind (from + index) (omega (arith, c.requires.down))) in
    record {
      words = length-set heap (target + index) new ∙ before.words;
      moved = λ any_index index_below. ⊎_elim
          (λ (same_index : index ≡ any_index).
          subst (λ place. get_or (set heap (target + index) new) (target + place) 0 ≡ slid_word renew (λ place. get_or c.args.heap.now place 0) from place) same_index
          (get_or-set_same heap (target + index) new 0 inside ∙ word))
          (λ (other_index : index ≢ any_index).
          get_or-set_other heap (target + index) (target + any_index) new 0 (λ numbers_equal. other_index (omega (arith, numbers_equal))) ∙ before.moved any_index (omega (arith, index_below, other_index)))
          (cases_eq index any_index);
      below = λ place low. get_or-set_other heap (target + index) place new 0 (λ numbers_equal. omega (arith, numbers_equal, low)) ∙ before.below place low;
      behind = λ place high. get_or-set_other heap (target + index) place new 0 (λ numbers_equal. omega (arith, numbers_equal, high)) ∙ before.behind place (omega (arith, high));
    }
