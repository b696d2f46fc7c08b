-- A table after its heap was packed and its tops were written.
use Rattle.std.proofs.Common.{◌≡◌, ℕ, ◌+◌, ◌-◌, ◌*◌, ◌<◌, ◌≤◌, ◌⊎◌, ◌++◌, cond, Bool, zero, suc, List, [], ◌∷◌, length, take, drop, get_or, slice_index, inl, inr, refl, sym, ap, ◌∙◌, subst, arith, length-append, length-drop}
use Rattle.std.specs.List.{between}
use Rattle.std.proofs.lemmas.List.{get_or-take, get_or-drop, get_or_append_left, length-take-le}
use Rattle.std.proofs.lemmas.List.Edits.{get_or-between}
use Rattle.std.proofs.lemmas.Slice.{take-put_mid_below, drop-put_mid, between-put_mid}
use borrow.Rule.Slice.PartMut.{put_mid, post_of}
use Rattle.heap_words.specs.declared.config.Config.{Config}
use Rattle.heap_words.specs.Words.{Top, word_at, table_words, heap_size, heap_start, heap_in}
use Rattle.regions.specs.Tops.{top_before}
use Rattle.regions.specs.Slide.{IsSlidTo, renewed}
use Rattle.regions.specs.Table.{word_of, kept_of, place_of, now_of, LeadsToKept, IsRenewedBy}
use Rattle.image_graph.specs.PackedTable.{IsPacked}

-- what stands behind a front of a list
drop_front : (xs ys : List ℕ) (count : ℕ) → length xs ≡ count → drop count (xs ++ ys) ≡ ys
drop_front [] ys zero same_length = refl
drop_front [] ys (suc count) same_length = absurd (omega (arith, same_length))
drop_front (x ∷ xs) ys zero same_length = absurd (omega (arith, same_length))
drop_front (x ∷ xs) ys (suc count) same_length = drop_front xs ys count (omega (arith, same_length))

-- a front, where something stands behind it
take_front : (xs ys : List ℕ) (count : ℕ) → length xs ≡ count → take count (xs ++ ys) ≡ xs
take_front [] ys zero same_length = refl
take_front [] ys (suc count) same_length = absurd (omega (arith, same_length))
take_front (x ∷ xs) ys zero same_length = absurd (omega (arith, same_length))
take_front (x ∷ xs) ys (suc count) same_length = ap (λ taken. x ∷ taken) (take_front xs ys count (omega (arith, same_length)))

-- the heap of a table: so many words behind its start
pub heap_part : (config : Config) (words : List ℕ) → heap_in config words ≡ take (heap_size config) (drop (heap_start config) words)
heap_part config words = let same_size : heap_start config + heap_size config - heap_start config ≡ heap_size config = omega arith in ap (λ size. take size (drop (heap_start config) words)) same_size

module _ (config : Config) (marks : List Bool) (before low heap behind tops after_heap places : List ℕ) (whole_table : length before ≡ table_words config)
    (low_is : low ≡ take (heap_start config) before) (heap_is : heap ≡ take (heap_size config) (drop (heap_start config) before)) (behind_is : behind ≡ drop (heap_size config) (drop (heap_start config) before))
    (few : length tops ≡ config.regions) (same_length : length after_heap ≡ length heap) where
  abbrev top : ℕ
  top = word_at config (Top 0)

  abbrev front : List ℕ
  front = put_mid top config.regions low tops

  abbrev after : List ℕ
  after = front ++ (after_heap ++ behind)

  low_long : length low ≡ heap_start config
  low_long = ap length low_is ∙ length-take-le (heap_start config) before (omega (arith, whole_table))

  heap_before : heap ≡ heap_in config before
  heap_before = heap_is ∙ sym (heap_part config before)

  heap_long : length heap ≡ heap_size config
  heap_long =
      let rest : heap_size config ≤ length (drop (heap_start config) before) = omega (arith, length-drop (heap_start config) before, whole_table) in
      ap length heap_is ∙ length-take-le (heap_size config) (drop (heap_start config) before) rest

  behind_long : length behind ≡ 1 + 4 * config.mutators
  behind_long = omega (arith, ap length behind_is, length-drop (heap_size config) (drop (heap_start config) before), length-drop (heap_start config) before, whole_table)

  front_long : length front ≡ heap_start config
  front_long =
      omega (
        arith,
        length-append (take top low) (tops ++ post_of top config.regions low),
        length-take-le top low (omega (arith, low_long)),
        length-append tops (post_of top config.regions low),
        few,
        length-drop config.regions (drop top low),
        length-drop top low,
        low_long,
      )

  pub after_long : length after ≡ table_words config
  after_long = omega (arith, length-append front (after_heap ++ behind), length-append after_heap behind, front_long, same_length, heap_long, behind_long)

  heap_after : heap_in config after ≡ after_heap
  heap_after =
      heap_part config after ∙ ap (take (heap_size config)) (drop_front front (after_heap ++ behind) (heap_start config) front_long)
      ∙ take_front after_heap behind (heap_size config) (omega (arith, same_length, heap_long))

  low_word : (index : ℕ) → index < heap_start config → get_or low index 0 ≡ get_or before index 0
  low_word index index_below = ap (λ xs. get_or xs index 0) low_is ∙ get_or-take (heap_start config) before index 0 index_below

  front_word : (index : ℕ) → index < heap_start config → get_or after index 0 ≡ get_or front index 0
  front_word index index_below = get_or_append_left front (after_heap ++ behind) 0 index (omega (arith, index_below, front_long))

  top_word : (region : ℕ) → region < config.regions → get_or after (word_at config (Top region)) 0 ≡ get_or tops region 0
  top_word region inside =
      let tops_there : between top (top + config.regions) front ≡ tops =
      between-put_mid top config.regions low tops (top + config.regions) (omega (arith, low_long)) (omega (arith, few)) in
      let same_word : word_at config (Top region) ≡ top + region = omega arith in
      ap (λ index. get_or after index 0) same_word
      ∙ front_word (top + region) (omega (arith, inside))
      ∙ sym (get_or-between front top (top + config.regions) region 0 (omega (arith, inside)))
      ∙ ap (λ xs. get_or xs region 0) tops_there

  other_word : (index : ℕ) → index < heap_start config → (index < top) ⊎ (top + config.regions ≤ index) → get_or after index 0 ≡ get_or before index 0
  other_word index index_below (inl lower) =
      front_word index index_below
      ∙ sym (get_or-take top front index 0 lower)
      ∙ ap (λ xs. get_or xs index 0) (take-put_mid_below top config.regions low tops top (omega arith) (omega (arith, low_long)))
      ∙ get_or-take top low index 0 lower
      ∙ low_word index index_below
  other_word index index_below (inr index_behind) =
      let same_index : index + 0 ≡ index = omega arith in
      front_word index index_below
      ∙ ap (λ index. get_or front index 0) (sym same_index)
      ∙ sym (get_or-drop index front 0 0)
      ∙ ap (λ xs. get_or xs 0 0) (drop-put_mid top config.regions low tops index index_behind (omega (arith, low_long)) few)
      ∙ get_or-drop index low 0 0
      ∙ ap (λ index. get_or low index 0) same_index
      ∙ low_word index index_below

  -- what stands behind the heap
  behind_word : (index : ℕ) → heap_start config + heap_size config ≤ index → get_or after index 0 ≡ get_or before index 0
  behind_word index index_past =
      let start : heap_start config + (heap_size config + (index - heap_start config - heap_size config)) ≡ index = omega (arith, index_past) in
      ap (λ index. get_or after index 0) (sym start)
      ∙ sym (get_or-drop (heap_start config) after (heap_size config + (index - heap_start config - heap_size config)) 0)
      ∙ ap (λ xs. get_or xs (heap_size config + (index - heap_start config - heap_size config)) 0) (drop_front front (after_heap ++ behind) (heap_start config) front_long)
      ∙ sym (get_or-drop (heap_size config) (after_heap ++ behind) (index - heap_start config - heap_size config) 0)
      ∙ ap (λ xs. get_or xs (index - heap_start config - heap_size config) 0) (drop_front after_heap behind (heap_size config) (omega (arith, same_length, heap_long)) ∙ behind_is)
      ∙ get_or-drop (heap_size config) (drop (heap_start config) before) (index - heap_start config - heap_size config) 0
      ∙ get_or-drop (heap_start config) before (heap_size config + (index - heap_start config - heap_size config)) 0
      ∙ ap (λ index. get_or before index 0) start

  -- the tops as they were
  old_top : (region : ℕ) → region < config.regions → get_or (between top (top + config.regions) low) region 0 ≡ get_or before (word_at config (Top region)) 0
  old_top region inside =
      let same_word : top + region ≡ word_at config (Top region) = omega arith in
      get_or-between low top (top + config.regions) region 0 (omega (arith, inside)) ∙ low_word (top + region) (omega (arith, inside)) ∙ ap (λ index. get_or before index 0) same_word

  -- what packing the slices says, of the table
  pub packed_from : (shut : ℕ → Bool) (region_words : ℕ) (old_tops : List ℕ) → region_words ≡ config.region_words
      → IsSlidTo (region_words + length heap) region_words (place_of region_words shut heap marks) (kept_of region_words heap marks) (renewed (place_of region_words shut heap marks) (now_of region_words heap)) (word_of region_words heap) (word_of region_words after_heap)
      → ((index : ℕ) → index < length tops → slice_index tops index ≡ cond (shut (index + 1)) (slice_index old_tops index) (top_before region_words shut (kept_of region_words heap marks) index (region_words + length heap)))
      → ((word : ℕ) → LeadsToKept region_words heap marks word → IsRenewedBy region_words shut heap marks places word)
      → old_tops ≡ between top (top + config.regions) low
      → IsPacked config shut marks before after places
  packed_from shut region_words old_tops words_same slid tops_are renews old =
      let Slid : ℕ → List ℕ → ℕ → List ℕ → Type 0 = λ row_words heap_list size slid_words. IsSlidTo (row_words + size) row_words (place_of row_words shut heap_list marks) (kept_of row_words heap_list marks) (renewed (place_of row_words shut heap_list marks) (now_of row_words heap_list)) (word_of row_words heap_list) (word_of row_words slid_words) in
      let Tops : ℕ → List ℕ → ℕ → Type 0 = λ row_words heap_list size. (index : ℕ) → index < length tops → slice_index tops index ≡ cond (shut (index + 1)) (slice_index old_tops index) (top_before row_words shut (kept_of row_words heap_list marks) index (row_words + size)) in
      let Renews : ℕ → List ℕ → Type 0 = λ row_words heap_list. (word : ℕ) → LeadsToKept row_words heap_list marks word → IsRenewedBy row_words shut heap_list marks places word in
      let tops_now : Tops config.region_words (heap_in config before) (heap_size config) =
      subst (λ row_words. Tops row_words (heap_in config before) (heap_size config)) words_same (subst (λ heap_list. Tops region_words heap_list (heap_size config)) heap_before (subst (λ size. Tops region_words heap size) heap_long tops_are)) in
      record {
        slid = subst (λ row_words. Slid row_words (heap_in config before) (heap_size config) (heap_in config after)) words_same
            (subst (λ slid_words. Slid region_words (heap_in config before) (heap_size config) slid_words) (sym heap_after)
            (subst (λ heap_list. Slid region_words heap_list (heap_size config) after_heap) heap_before (subst (λ size. Slid region_words heap size after_heap) heap_long slid)));
        tops = λ index inside. top_word index inside ∙ tops_now index (omega (arith, inside, few))
            ∙ ap (λ old_word. cond (shut (index + 1)) old_word (top_before config.region_words shut (kept_of config.region_words (heap_in config before) marks) index (config.region_words + heap_size config)))
            (ap (λ (xs : List ℕ). get_or xs index 0) old ∙ old_top index inside);
        others = other_word;
        behind = behind_word;
        renews = subst (λ row_words. Renews row_words (heap_in config before)) words_same (subst (λ heap_list. Renews region_words heap_list) heap_before renews);
      }
