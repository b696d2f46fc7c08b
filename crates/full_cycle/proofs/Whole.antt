-- The steps of a full collection, one after the other.
use Rattle.std.proofs.Common.{◌≡◌, ◌≢◌, ℕ, ◌+◌, ◌<◌, ◌≤◌, ◌==◌, true, false, nat_le, List, ⊎_elim, refl, sym, ap, ◌∙◌, subst, arith}
use Rattle.std.proofs.lemmas.Bool.{cond-true, cond-false, cond_both, cases_Bool, cases_lt, cases_eq, ne_eqb, le-leb, lt-leb}
use Rattle.std.proofs.Math.Path.{fun_ext}
use Rattle.heap_words.specs.declared.config.Config.{Config}
use Rattle.heap_words.specs.Words.{Word, Pause, Left, End, State, Phase, Cset, Free, Evac, Claim, Ask, Top, Tams, Limit, Current, Root, Count, Buffer, Wait, Answer, Grey, Black, Heap, Share, Pin, is_word, write}
use Rattle.heap_words.proofs.Stores.{is_word_true, view_none}
use Rattle.regions.proofs.Tops.{top_within}
use Rattle.regions.specs.Slide.{renewed}
use Rattle.regions.specs.Table.{IsInTable, from_table}
use Rattle.image_graph.specs.Plot.{heap_end, packed_top}
use Rattle.image_graph.specs.Pinned.{is_pinned, is_pinned_below, is_row_pinned, filled_in, CanFill}
use Rattle.image_graph.specs.Full.{now_in, held_in, kept_in, place_in, renewed_answer, empty_regions, packed}
use Rattle.image_graph.specs.declared.image.Image.{Image}
use Rattle.image_graph.specs.declared.leftovers.Leftover.TheVariants.{NotFound}
use Rattle.image_graph.specs.Leftovers.{is_left_over}
use Rattle.image_graph.specs.State.{config_of, words_of, memory_of, found_of, places_of, IsUnchanged}
use Rattle.image_graph.specs.Make.{AreWithin}
use Rattle.full_cycle.specs.Collect.{CanCollect, LeadsToHeld}
use Rattle.full_cycle.specs.Steps.{moved_in, IsRenewedAs, renewed_by, roots_renewed, calm}
use Rattle.image_graph.proofs.Same.{memory_same, carried}
use Rattle.full_cycle.proofs.Shut.{shut_pinned}
use Rattle.full_cycle.proofs.Stays.{KeptBegin, can_fill, filled_is}

-- the objects were found in one image, and packed in the next
module _ (old found_image packed_image : Image) (can_collect : CanCollect (config_of old) (memory_of old)) (image_unchanged : IsUnchanged old found_image) (config : config_of packed_image ≡ config_of found_image)
    (words : memory_of packed_image ≡ moved_in (config_of found_image) (is_row_pinned (config_of found_image) (memory_of found_image)) (now_in (memory_of found_image)) (kept_in (config_of found_image) (memory_of found_image)) (memory_of found_image))
    (renews : (word : ℕ) → LeadsToHeld (config_of found_image) (memory_of found_image) word
    → IsRenewedAs (config_of found_image).region_words (place_in (config_of found_image) (is_row_pinned (config_of found_image) (memory_of found_image)) (kept_in (config_of found_image) (memory_of found_image))) (now_in (memory_of found_image)) (places_of packed_image) word) where
  abbrev g : Config
  g = config_of old

  abbrev memory_then : Word → ℕ
  memory_then = memory_of old

  abbrev now : ℕ → ℕ
  now = now_in memory_then

  abbrev kept : ℕ → ℕ
  kept = kept_in g memory_then

  pub two_config : config_of packed_image ≡ g
  two_config = config ∙ image_unchanged.config

  abbrev place : ℕ → ℕ
  place = place_in g (is_row_pinned g memory_then) kept

  abbrev moved : Word → ℕ
  moved = moved_in g (is_row_pinned g memory_then) now kept memory_then

  pub two_words : memory_of packed_image ≡ moved
  two_words =
      words
      ∙ ap (λ (memory : Word → ℕ). moved_in (config_of found_image) (is_row_pinned (config_of found_image) memory) (now_in memory) (kept_in (config_of found_image) memory) memory) (memory_same old found_image image_unchanged)
      ∙ ap (λ (config : Config). moved_in config (is_row_pinned config memory_then) now (kept_in config memory_then) memory_then) image_unchanged.config

  renewed_as : (word : ℕ) → LeadsToHeld g memory_then word → IsRenewedAs g.region_words place now (places_of packed_image) word
  renewed_as word leads =
      subst (λ (config : Config). IsRenewedAs config.region_words (place_in config (is_row_pinned config memory_then) (kept_in config memory_then)) now (places_of packed_image) word) image_unchanged.config
      (subst (λ (memory : Word → ℕ). IsRenewedAs (config_of found_image).region_words (place_in (config_of found_image) (is_row_pinned (config_of found_image) memory) (kept_in (config_of found_image) memory)) (now_in memory) (places_of packed_image) word) (memory_same old found_image image_unchanged)
      (renews word (carried (λ any_config any_memory. LeadsToHeld any_config any_memory word) old found_image image_unchanged leads)))

  -- pinned regions can be filled then
  pub can_fill_still : KeptBegin g memory_then → (region : ℕ) → region < (config_of packed_image).regions → is_pinned (config_of packed_image) (memory_of packed_image) region ≡ true → CanFill (config_of packed_image) (memory_of packed_image) region
  can_fill_still begin region inside pinned =
      let still_pinned : is_pinned g moved region ≡ true =
      sym (ap (λ (memory : Word → ℕ). is_pinned g memory region) two_words) ∙ sym (ap (λ (config : Config). is_pinned config (memory_of packed_image) region) two_config) ∙ pinned in
      subst (λ (config : Config). CanFill config (memory_of packed_image) region) (sym two_config)
      (subst (λ (memory : Word → ℕ). CanFill g memory region) (sym two_words) (can_fill g memory_then can_collect begin region (subst (λ (config : Config). region < config.regions) two_config inside) still_pinned))

  -- what a word that leads to a kept object becomes
  renewed_some : (word : ℕ) → 1 < word → LeadsToHeld g memory_then word → renewed_by g.region_words (places_of packed_image) word ≡ renewed place now word
  renewed_some word word_above leads =
      cond-false (nat_le word 1) word (from_table g.region_words (places_of packed_image) word) (lt-leb word 1 word_above) ∙ (renewed_as word leads).renewed_as

  root_word : (word : ℕ) → LeadsToHeld g memory_then word → renewed_by g.region_words (places_of packed_image) word ≡ renewed place now word
  root_word word leads = ⊎_elim
      (λ (some_word : 1 < word). renewed_some word some_word leads)
      (λ (few : word ≤ 1). ⊎_elim
      (λ (null : word ≡ 0). ap (renewed_by g.region_words (places_of packed_image)) null ∙ sym (ap (renewed place now) null))
      (λ (not_null : word ≢ 0). absurd (let leads_above = (leads not_null).0 in omega (arith, leads_above, few, g.in_range.least_words)))
      (cases_eq word 0))
      (cases_lt 1 word)

  answer_word : (word : ℕ) → (1 < word → LeadsToHeld g memory_then word) → renewed_by g.region_words (places_of packed_image) word ≡ renewed_answer place now word
  answer_word word leads = ⊎_elim
      (λ (some_word : 1 < word).
      let not_null : word ≢ 0 = omega (arith, some_word) in
      renewed_some word some_word (leads some_word)
      ∙ cond-false (word == 0) 0 (place (now word)) (ne_eqb word 0 not_null)
      ∙ sym (cond-false (nat_le word 1) word (place (now word)) (lt-leb word 1 some_word)))
      (λ (few : word ≤ 1).
      cond-true (nat_le word 1) word (from_table g.region_words (places_of packed_image) word) (le-leb word 1 few)
      ∙ sym (cond-true (nat_le word 1) word (place (now word)) (le-leb word 1 few)))
      (cases_lt 1 word)

  -- The words after what is left over was filled.
  module _ (filled_image : Image) (found : found_of packed_image ≡ held_in g memory_then) (three_same : config_of filled_image ≡ config_of packed_image) (three_places : places_of filled_image ≡ places_of packed_image)
      (three_is : memory_of filled_image ≡ filled_in (config_of packed_image) (is_pinned_below (config_of packed_image) (memory_of packed_image) (config_of packed_image).regions) (is_left_over (memory_of packed_image) (found_of packed_image) NotFound) (memory_of packed_image)) where
    abbrev filled : Word → ℕ
    filled = filled_in g (is_pinned_below g moved g.regions) (is_left_over moved (held_in g memory_then) NotFound) moved

    pub three_config : config_of filled_image ≡ g
    three_config = three_same ∙ two_config

    three_words : memory_of filled_image ≡ filled
    three_words =
        three_is
        ∙ ap (λ (config : Config). filled_in config (is_pinned_below config (memory_of packed_image) config.regions) (is_left_over (memory_of packed_image) (found_of packed_image) NotFound) (memory_of packed_image)) two_config
        ∙ ap (λ (memory : Word → ℕ). filled_in g (is_pinned_below g memory g.regions) (is_left_over memory (found_of packed_image) NotFound) memory) two_words
        ∙ ap (λ (found_words : List ℕ). filled_in g (is_pinned_below g moved g.regions) (is_left_over moved found_words NotFound) moved) found

    in_table : (word : Word) → memory_of filled_image word ≡ memory_then word → LeadsToHeld g memory_then (memory_then word) → IsInTable (config_of filled_image).region_words (places_of filled_image) (memory_of filled_image word)
    in_table word same_word leads =
        subst (λ (config : Config). IsInTable config.region_words (places_of filled_image) (memory_of filled_image word)) (sym three_config)
        (subst (λ (places : List ℕ). IsInTable g.region_words places (memory_of filled_image word)) (sym three_places)
        (subst (IsInTable g.region_words (places_of packed_image)) (sym same_word) (renewed_as (memory_then word) leads).in_table))

    pub roots_in_table : (mutator index : ℕ) → mutator < (config_of filled_image).mutators → index < 16 → IsInTable (config_of filled_image).region_words (places_of filled_image) (memory_of filled_image (Root mutator index))
    roots_in_table mutator index inside index_below =
        in_table (Root mutator index) (ap (λ memory. memory (Root mutator index)) three_words) (can_collect.roots mutator index (subst (λ (config : Config). mutator < config.mutators) three_config inside) index_below)

    pub answers_in_table : (mutator : ℕ) → mutator < (config_of filled_image).mutators → 1 < memory_of filled_image (Answer mutator) → IsInTable (config_of filled_image).region_words (places_of filled_image) (memory_of filled_image (Answer mutator))
    answers_in_table mutator inside some_answer =
        let same_answer : memory_of filled_image (Answer mutator) ≡ memory_then (Answer mutator) = ap (λ memory. memory (Answer mutator)) three_words in
        in_table (Answer mutator) same_answer (can_collect.answers mutator (subst (λ (config : Config). mutator < config.mutators) three_config inside) (subst (λ answer. 1 < answer) same_answer some_answer))

    -- the words after roots were renewed, collections ended, and empty regions freed
    module _ (begin : KeptBegin g memory_then) where
      abbrev ended : Word → ℕ
      ended = calm (roots_renewed g (places_of packed_image) filled)

      abbrev freed : Word → ℕ
      freed = write ended Free (empty_regions (λ region. ended (Top region)) g.regions)

      freed_at : (word : Word) → freed word ≡ packed g (is_row_pinned g memory_then) now kept memory_then word
      unfolding packed
      freed_at (Root mutator index) = ⊎_elim
          (λ (real_word : is_word g (Root mutator index) ≡ true). let word_is = is_word_true g (Root mutator index) real_word in root_word (memory_then (Root mutator index)) (can_collect.roots mutator index word_is.0 word_is.1))
          (λ (not_word : is_word g (Root mutator index) ≡ false).
          let null : memory_then (Root mutator index) ≡ 0 = view_none g (words_of old) (Root mutator index) not_word in
          ap (renewed_by g.region_words (places_of packed_image)) null ∙ sym (ap (renewed place now) null))
          (cases_Bool (is_word g (Root mutator index)))
      freed_at (Answer mutator) = ⊎_elim
          (λ (real_word : is_word g (Answer mutator) ≡ true). answer_word (memory_then (Answer mutator)) (can_collect.answers mutator (is_word_true g (Answer mutator) real_word)))
          (λ (not_word : is_word g (Answer mutator) ≡ false).
          let null : memory_then (Answer mutator) ≡ 0 = view_none g (words_of old) (Answer mutator) not_word in
          ap (renewed_by g.region_words (places_of packed_image)) null ∙ sym (ap (renewed_answer place now) null))
          (cases_Bool (is_word g (Answer mutator)))
      freed_at (Pin mutator slot) = refl
      freed_at Share = refl
      freed_at Pause = refl
      freed_at Left = refl
      freed_at End = refl
      freed_at (State seat) = refl
      freed_at Phase = refl
      freed_at Cset = refl
      freed_at Free = refl
      freed_at Evac = refl
      freed_at Claim = refl
      freed_at Ask = refl
      freed_at (Top region) = refl
      freed_at (Tams region) = refl
      freed_at (Limit region) = refl
      freed_at (Current seat) = refl
      freed_at (Count mutator) = refl
      freed_at (Buffer mutator entry) = refl
      freed_at (Wait mutator) = refl
      freed_at (Grey number) = refl
      freed_at (Black number) = refl
      freed_at (Heap address) = filled_is g memory_then can_collect begin address

      module _ (renewed_image calm_image freed_image : Image) (four_same : config_of renewed_image ≡ config_of filled_image) (five_same : config_of calm_image ≡ config_of renewed_image) (six_same : config_of freed_image ≡ config_of calm_image)
          (four_renewed : memory_of renewed_image ≡ roots_renewed (config_of filled_image) (places_of filled_image) (memory_of filled_image)) (five_calm : memory_of calm_image ≡ calm (memory_of renewed_image))
          (six_freed : memory_of freed_image ≡ write (memory_of calm_image) Free (empty_regions (λ own_region. memory_of calm_image (Top own_region)) (config_of calm_image).regions)) where
        pub six_config : config_of freed_image ≡ g
        six_config = six_same ∙ five_same ∙ four_same ∙ three_config

        pub six_words : memory_of freed_image ≡ packed g (is_row_pinned g memory_then) now kept memory_then
        six_words =
            let four_is : memory_of renewed_image ≡ roots_renewed g (places_of packed_image) filled =
            four_renewed ∙ ap (λ (config : Config). roots_renewed config (places_of filled_image) (memory_of filled_image)) three_config
            ∙ ap (λ (places : List ℕ). roots_renewed g places (memory_of filled_image)) three_places ∙ ap (roots_renewed g (places_of packed_image)) three_words in
            let five_is : memory_of calm_image ≡ ended = five_calm ∙ ap calm four_is in
            let five_config : config_of calm_image ≡ g = five_same ∙ four_same ∙ three_config in
            six_freed
            ∙ ap (λ (config : Config). write (memory_of calm_image) Free (empty_regions (λ region. memory_of calm_image (Top region)) config.regions)) five_config
            ∙ ap (λ (memory : Word → ℕ). write memory Free (empty_regions (λ region. memory (Top region)) g.regions)) five_is
            ∙ fun_ext freed_at

        packed_within : AreWithin g (packed g (is_row_pinned g memory_then) now kept memory_then)
        unfolding packed
        packed_within region inside =
            cond_both (is_row_pinned g memory_then (region + 1)) (memory_then (Top region)) (packed_top g (is_row_pinned g memory_then) kept region) (λ top. top ≤ g.region_words)
            (λ closed. (let pinned_region = shut_pinned g memory_then region closed in (can_collect.fills region pinned_region.0 pinned_region.1).within))
            (λ _. top_within g.region_words (is_row_pinned g memory_then) kept can_collect.apart region (heap_end g))

        pub six_within : AreWithin (config_of freed_image) (memory_of freed_image)
        six_within = subst (λ (config : Config). AreWithin config (memory_of freed_image)) (sym six_config) (subst (AreWithin g) (sym six_words) packed_within)
