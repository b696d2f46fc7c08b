-- The indices at which the free words of buffers begin: which they are, and that they are of the heap.
use Rattle.std.proofs.Common.{◌≡◌, ◌≢◌, ℕ, ◌+◌, ◌-◌, ◌*◌, ◌<◌, true, false, List, length, get_or, set, take, ⊎_elim, refl, sym, ap, ◌∙◌, subst, arith, length-set}
use Rattle.std.specs.Prelude.{◌||◌, nat_lt, nat_eq, slice_index}
use Rattle.std.proofs.Math.Nat.{mul-pos}
use Rattle.std.proofs.lemmas.Bool.{cases_eq, cond-true, eq-eqb, eqb-true, lt-ltb, le-ltb, false≢true, false_from_ne_true}
use Rattle.std.proofs.lemmas.List.{get_or-set_same, get_or-set_other, get_or_default}
use Rattle.std.proofs.lemmas.List.Folds.{list_any_more, list_any_at, Any-from_list_any}
use Rattle.heap_words.specs.declared.config.Config.{Config}
use Rattle.heap_words.specs.Words.{Word, Current, Heap, word_at, image_start, heap_size}
use Rattle.heap_words.specs.Encoding.{next_in, end_in}
use Rattle.heap_world.specs.Walk.{has}
use Rattle.collector_rows.specs.declared.extent.Extent.{Extent}
use Rattle.collector_rows.specs.declared.extent.Extent.TheVariants.{Whole, OffHeap, Ahead}
use Rattle.collector_rows.specs.Extent.{is_of_extent, heap_index, roots_index}
use Rattle.collector_rows.proofs.Extents.{off_within}
use Rattle.cycle_pauses.proofs.Brief.Fills.{IsNoFirst}
use Rattle.control.specs.Starts.{AreStarts, IsHeapIndex, AreHeapIndices}

-- one more of them
pub has_more : (starts : List ℕ) (index asked_index : ℕ) → index < length starts → has (take (index + 1) starts) asked_index ≡ (has (take index starts) asked_index || nat_eq asked_index (get_or starts index 0))
has_more starts index asked_index index_within = list_any_more (nat_eq asked_index) starts index 0 index_within

-- what is among them stands somewhere, and is of the heap
pub place_of : (starts : List ℕ) (asked_index : ℕ) → has starts asked_index ≡ true → (index : ℕ) × (index < length starts) × (slice_index starts index ≡ asked_index)
place_of starts asked_index among =
    let found_place = Any-from_list_any (nat_eq asked_index) starts among in
    (found_place.0, found_place.2, get_or_default starts found_place.0 0 found_place.1 found_place.2 ∙ found_place.3 ∙ sym (eqb-true asked_index found_place.1 found_place.4))

pub start_in_heap : (config : Config) (starts : List ℕ) → AreHeapIndices config starts → (asked_index : ℕ) → has starts asked_index ≡ true → IsHeapIndex config asked_index
start_in_heap config starts heap_indices asked_index among = let found_place = place_of starts asked_index among in subst (IsHeapIndex config) found_place.2 (heap_indices found_place.0 found_place.1)

-- So none of an extent is among them, if that has no word of the heap.
heap_is_off : (config : Config) (extent : Extent) → extent ≢ Whole → (asked_index : ℕ) → IsHeapIndex config asked_index → is_of_extent config extent asked_index ≡ false
heap_is_off config Whole not_whole asked_index of_heap = absurd (not_whole refl)
heap_is_off config OffHeap not_whole asked_index of_heap = off_within (heap_index config) (heap_size config) asked_index of_heap.0 of_heap.1
heap_is_off config Ahead not_whole asked_index of_heap = le-ltb asked_index (roots_index config) (let from = of_heap.0 in omega (arith, from))

pub none_is_of : (config : Config) (extent : Extent) → extent ≢ Whole → (starts : List ℕ) → AreHeapIndices config starts → (asked_index : ℕ) → is_of_extent config extent asked_index ≡ true → has starts asked_index ≡ false
none_is_of config extent not_whole starts heap_indices asked_index of_extent =
    false_from_ne_true (has starts asked_index) (λ among. false≢true (sym (heap_is_off config extent not_whole asked_index (start_in_heap config starts heap_indices asked_index among)) ∙ of_extent))

-- Where an index is not among them, no buffer's free words begin at its word.
pub none_begins : (config : Config) (memory : Word → ℕ) (starts : List ℕ) → AreStarts config memory starts → (asked_index : ℕ) → has starts asked_index ≡ false
    → (word : Word) → word_at config word - image_start config ≡ asked_index → IsNoFirst config memory word
none_begins config memory starts are_starts asked_index not_among (Heap address) word_there = λ seat seat_below begins.
    let mutators = config.in_range.most_mutators in
    let helpers = config.in_range.most_helpers in
    let start_there : slice_index starts seat ≡ asked_index =
    are_starts.of_seat seat seat_below ∙ cond-true (nat_lt (next_in (memory (Current seat))) (end_in (memory (Current seat)))) (word_at config (Heap (next_in (memory (Current seat)))) - image_start config) (heap_index config) (lt-ltb _ _ begins.0)
    ∙ ap (λ address. word_at config (Heap address) - image_start config) begins.1 ∙ word_there in
    false≢true (sym not_among ∙ list_any_at (nat_eq asked_index) starts seat 0 (let starts_long = are_starts.long in omega (arith, starts_long, mutators, helpers, seat_below)) (eq-eqb asked_index (slice_index starts seat) (sym start_there)))
none_begins config memory starts are_starts asked_index not_among _ word_there = tt

-- where the words of the heap begin there is one
pub first_of_heap : (config : Config) → IsHeapIndex config (heap_index config)
first_of_heap config =
    let regions : 0 < config.regions = (let least = config.in_range.least_regions in omega (arith, least)) in
    let words : 0 < config.region_words = (let least = config.in_range.least_words in omega (arith, least)) in
    let some_words : 0 < config.regions * config.region_words = mul-pos regions words in
    (omega arith, omega (arith, some_words))

-- once that of one more seat was found
module _ (config : Config) (starts : List ℕ) (seat start : ℕ) (of_heap : IsHeapIndex config start) (heap_indices : AreHeapIndices config starts) where
  pub one_more_of_heap : AreHeapIndices config (set starts seat start)
  one_more_of_heap asked_index index_within =
      let index_below : asked_index < length starts = (let same_length = length-set starts seat start in omega (arith, same_length, index_within)) in
      ⊎_elim
      (λ (same_seat : asked_index ≡ seat). subst (λ index. IsHeapIndex config (slice_index (set starts seat start) index)) (sym same_seat)
      (subst (IsHeapIndex config) (sym (get_or-set_same starts seat start 0 (omega (arith, index_below, same_seat)))) of_heap))
      (λ (different_seat : asked_index ≢ seat). subst (IsHeapIndex config) (sym (get_or-set_other starts seat asked_index start 0 different_seat)) (heap_indices asked_index index_below))
      (cases_eq asked_index seat)
