use Rattle.std.proofs.Common.{◌≡◌, ◌≢◌, ◌+◌, ◌<◌, ℕ, true, false, List, length, set, take, ⊎_elim, sym, ap, ◌∙◌, subst, arith}
use Rattle.std.specs.Prelude.{◌||◌, nat_eq, if◌then◌else◌, slice_index}
use Rattle.std.proofs.lemmas.Bool.{cases_eq, cond-true, eq-eqb, ne_eqb, or_right}
use Rattle.std.proofs.lemmas.List.{get_or-set_same, get_or-set_other, take_all}
use Rattle.shen_graph.proofs.Bools.{or_false}
use Rattle.heap_world.specs.Walk.{has}
use Rattle.heap_world.specs.Change.{image_words}
use Rattle.image_graph.specs.State.{config_of}
use Rattle.control.specs.Image.{image_in}
use Rattle.control.proofs.Images.{length-image_in}
use Rattle.control.proofs.Starting.{has_more}
use Rattle.control.proofs.starts.clear_starts.Goals as goal

-- one more index is made 0
module _ (starts old_words new_words : List ℕ) (number : ℕ) (number_below : number < length starts) (inside : slice_index starts number < length new_words)
    (cleared : (word_index : ℕ) → slice_index new_words word_index ≡ (if has (take number starts) word_index then 0 else slice_index old_words word_index)) where
  abbrev start : ℕ
  start = slice_index starts number

  one_more : (index : ℕ) → slice_index (set new_words start 0) index ≡ (if has (take (number + 1) starts) index then 0 else slice_index old_words index)
  one_more index = ⊎_elim
      (λ (is_start : index ≡ start).
      subst (λ index. slice_index (set new_words start 0) index ≡ 0) (sym is_start) (get_or-set_same new_words start 0 0 inside)
      ∙ sym (cond-true (has (take (number + 1) starts) index) 0 (slice_index old_words index) (has_more starts number index number_below ∙ or_right (has (take number starts) index) (nat_eq index start) (eq-eqb index start is_start))))
      (λ (not_start : index ≢ start).
      get_or-set_other new_words start index 0 0 not_start ∙ cleared index
      ∙ ap (λ listed. if listed then 0 else slice_index old_words index) (sym (has_more starts number index number_below ∙ ap (λ listed. has (take number starts) index || listed) (ne_eqb index start not_start) ∙ or_false (has (take number starts) index))))
      (cases_eq index start)

pub put_word-requires-clause-index : goal.put_word-requires-clause-index
put_word-requires-clause-index c =
    let number_below : c.loop-number.number < length c.args.starts.now = omega (arith, c.loop-number-test.true) in
    let of_heap = c.requires.heap c.loop-number.number number_below in
    omega (arith, of_heap.1, ap image_words c.loop-number.invariant.config)

pub loop-number-preserved : goal.loop-number-preserved
loop-number-preserved c =
    let config = config_of c.args.image.now in
    let starts = c.args.starts.now in
    let number = c.loop-number.number in
    let number_below : number < length starts = omega (arith, c.loop-number-test.true) in
    let of_heap = c.requires.heap number number_below in
    let image_length = length-image_in c.loop-number.image ∙ ap image_words c.loop-number.invariant.config in
    record {
      config = c.put_word.ensures.config ∙ c.loop-number.invariant.config;
      clear = c.put_word.ensures.clear;
      cleared = λ index. ap (λ image_list. slice_index image_list index) c.put_word.ensures.image
          ∙ one_more starts (image_in c.args.image.now) (image_in c.loop-number.image) number number_below (omega (arith, image_length, of_heap.1)) c.loop-number.invariant.cleared index;
    }

pub returns-clause-image : goal.returns-clause-image
returns-clause-image c = λ index.
    c.loop-number.invariant.cleared index
    ∙ ap (λ xs. if has xs index then 0 else slice_index (image_in c.args.image.now) index) (take_all c.loop-number.number c.args.starts.now (omega (arith, c.loop-number-test.false)))
