-- Regions of the collection set, one after the other: those that are not pinned are freed, in the others what has moved becomes words that
-- only fill.
use Rattle.std.proofs.Common.{◌≡◌, ◌≢◌, ℕ, ◌+◌, ◌<◌, ◌≤◌, ◌==◌, ◌&&◌, nat_lt, cond, Bool, true, false, List, ⊎_elim, refl, sym, ap, ◌∙◌, arith}
use Rattle.std.proofs.lemmas.Bool.{cond-false, cases_eq, and_left, and_parts, eq-eqb, ne_eqb, eqb-true, lt-ltb}
use Rattle.std.proofs.lemmas.Bool.Decides.{nat_tests}
use Rattle.std.proofs.Math.Path.{fun_ext}
use Rattle.heap_words.specs.declared.config.Config.{Config}
use Rattle.heap_words.specs.Words.{Word, Top, Tams, Limit, Heap, view}
use Rattle.heap_words.specs.Encoding.{filler_header, object_words, is_forwarded}
use Rattle.regions.specs.Place.{base_of, region_with}
use Rattle.regions.specs.Walk.{is_filler}
use Rattle.regions.proofs.PlaceLemmas.{regions_tile}
use Rattle.image_graph.specs.Pinned.{is_in_use, object_of, begins, filled_in, CanFill}
use Rattle.cycle_words.specs.Finishing.Finish.{is_to_free, is_to_stay, has_moved, set_left}
use Rattle.mark_core.specs.Steps.{freed_one, freed_below}
use Rattle.mark_core.proofs.Freeing.{freed_none, freed_next, left_next, freed_all}
use Rattle.image_graph.proofs.SameRegion.{same_choice, used_parts, can_fill_too, same_begin, shape_there}

-- what has moved is no filler
moved_object : (header : ℕ) → is_forwarded header ≡ true → is_filler header ≡ false
moved_object header header_forwarded = (let three_rest = eqb-true _ 3 header_forwarded in ne_eqb _ 2 (λ two_rest. omega (arith, two_rest, three_rest)))

module _ (config : Config) (memory : Word → ℕ) where
  abbrev out : ℕ → Bool
  out = is_to_free config memory

  abbrev stay_below : ℕ → ℕ → Bool
  stay_below region asked_region = nat_lt asked_region region && is_to_stay config memory asked_region

  abbrev filled_below : ℕ → Word → ℕ
  filled_below region = filled_in config (stay_below region) (has_moved memory) memory

  -- the words after so many regions
  abbrev pub left_below : ℕ → Word → ℕ
  left_below region = freed_below out region (filled_below region)

  -- what is filled, by the set of regions
  same_filled : (in_region in_second_region : ℕ → Bool) → ((asked_region : ℕ) → in_region asked_region ≡ in_second_region asked_region) → filled_in config in_region (has_moved memory) memory ≡ filled_in config in_second_region (has_moved memory) memory
  same_filled in_region second_test same_regions = ap (λ (in_some_region : ℕ → Bool). filled_in config in_some_region (has_moved memory) memory) (fun_ext same_regions)

  none_filled : memory ≡ filled_below 0
  none_filled = fun_ext at
    where
      none : (asked_region : ℕ) → nat_lt asked_region 0 ≡ false
      none asked_region = grind (arith, nat_tests)

      at : (word : Word) → memory word ≡ filled_below 0 word
      at (Heap address) = sym (cond-false (stay_below 0 (region_with config address) && begins config memory address && has_moved memory address) (filler_header (object_words (memory (Heap (address + 1))))) (memory (Heap address))
          (and_left (stay_below 0 (region_with config address) && begins config memory address) (has_moved memory address)
          (and_left (stay_below 0 (region_with config address)) (begins config memory address) (and_left (nat_lt (region_with config address) 0) (is_to_stay config memory (region_with config address)) (none (region_with config address))))))
      at _ = refl

  pub none_left : memory ≡ left_below 0
  none_left = none_filled ∙ freed_none out (filled_below 0)

  -- the next region, ..
  module _ (region : ℕ) where
    -- .. where nothing is to be filled
    no_more_filled : is_to_stay config memory region ≡ false → filled_below region ≡ filled_below (region + 1)
    no_more_filled stays_not = same_filled (stay_below region) (stay_below (region + 1)) (λ given_region. ⊎_elim
        (λ (same_region : given_region ≡ region).
        let not_kept_here : is_to_stay config memory given_region ≡ false = ap (is_to_stay config memory) same_region ∙ stays_not in
        both_none (nat_lt given_region region) (nat_lt given_region (region + 1)) (is_to_stay config memory given_region) not_kept_here)
        (λ (regions_differ : given_region ≢ region). ap (λ lies_below. lies_below && is_to_stay config memory given_region) (others given_region regions_differ))
        (cases_eq given_region region))
      where
        both_none : (first_test second_test kept : Bool) → kept ≡ false → (first_test && kept) ≡ (second_test && kept)
        both_none true true kept is_none = refl
        both_none false false kept is_none = refl
        both_none true false kept is_none = is_none
        both_none false true kept is_none = sym is_none

        others : (asked_region : ℕ) → asked_region ≢ region → nat_lt asked_region region ≡ nat_lt asked_region (region + 1)
        others asked_region other_region = grind (arith, nat_tests, other_region)

    pub spared_next : out region ≡ false → is_to_stay config memory region ≡ false → left_below region ≡ left_below (region + 1)
    spared_next not_freed not_filled = left_next out region (filled_below region) not_freed ∙ ap (freed_below out (region + 1)) (no_more_filled not_filled)

    pub freed_region : region < 64 → out region ≡ true → is_to_stay config memory region ≡ false → freed_one region (left_below region) ≡ left_below (region + 1)
    freed_region region_below region_out not_filled = freed_next out region (filled_below region) region_below region_out ∙ ap (freed_below out (region + 1)) (no_more_filled not_filled)

    -- .. or where it is
    abbrev now : Word → ℕ
    now = left_below region

    spared : (address : ℕ) → region_with config address ≡ region → now (Heap address) ≡ memory (Heap address)
    spared address in_region = cond-false (stay_below region (region_with config address) && begins config memory address && has_moved memory address) (filler_header (object_words (memory (Heap (address + 1))))) (memory (Heap address))
        (and_left (stay_below region (region_with config address) && begins config memory address) (has_moved memory address)
        (and_left (stay_below region (region_with config address)) (begins config memory address) (and_left (nat_lt (region_with config address) region) (is_to_stay config memory (region_with config address)) (not_below (region_with config address) in_region))))
      where
        not_below : (asked_region : ℕ) → asked_region ≡ region → nat_lt asked_region region ≡ false
        not_below asked_region same_region = grind (arith, nat_tests, same_region)

    spared_there : (address : ℕ) → base_of config region ≤ address → address < base_of config region + config.region_words → now (Heap address) ≡ memory (Heap address)
    spared_there address past_base in_region = spared address (regions_tile.of_no_other config region address (record { from = past_base; before = in_region }))

    same_top : now (Top region) ≡ memory (Top region)
    same_top = not_yet (out region) (memory (Top region))
      where
        not_yet : (holds : Bool) (top_word : ℕ) → cond (nat_lt region region && holds) 0 top_word ≡ top_word
        not_yet holds top_word = grind (arith, nat_tests)

    module _ (fills : CanFill config memory region) where
      pub can_fill_now : CanFill config now region
      can_fill_now = can_fill_too config memory now region fills same_top spared_there

      module _ (stays_here : is_to_stay config memory region ≡ true) where
        abbrev this_one : ℕ → Bool
        this_one asked_region = asked_region == region

        one_more : (asked_region : ℕ) → asked_region ≡ region → this_one asked_region ≡ stay_below (region + 1) asked_region
        one_more asked_region same_region = eq-eqb asked_region region same_region ∙ sym (ap (λ lies_below. lies_below && is_to_stay config memory asked_region) (lt-ltb asked_region (region + 1) (omega (arith, same_region))) ∙ ap (is_to_stay config memory) same_region ∙ stays_here)

        others : (asked_region : ℕ) → asked_region ≢ region → nat_lt asked_region region ≡ nat_lt asked_region (region + 1)
        others asked_region other_region = grind (arith, nat_tests, other_region)

        more_at : (word : Word) → filled_in config this_one (has_moved now) now word ≡ freed_below out region (filled_below (region + 1)) word
        more_at (Heap address) =
            let address_region = region_with config address in
            ⊎_elim
            (λ (same_region : address_region ≡ region).
            same_choice (this_one address_region) (stay_below (region + 1) address_region) (begins config now address) (begins config memory address) (has_moved now address) (has_moved memory address)
            (filler_header (object_words (now (Heap (address + 1))))) (filler_header (object_words (memory (Heap (address + 1))))) (now (Heap address)) (memory (Heap address))
            (one_more address_region same_region)
            (λ region_chosen. same_begin config memory now region fills same_top spared_there address same_region)
            (λ region_chosen begun. ap is_forwarded (spared address same_region))
            (λ region_chosen begun moved. ap (λ shape. filler_header (object_words shape)) (shape_there config memory now region fills same_top spared_there address same_region begun (moved_object (memory (Heap address)) moved)))
            (spared address same_region))
            (λ (other_region : address_region ≢ region).
            cond-false (this_one address_region && begins config now address && has_moved now address) (filler_header (object_words (now (Heap (address + 1))))) (now (Heap address))
            (and_left (this_one address_region && begins config now address) (has_moved now address) (and_left (this_one address_region) (begins config now address) (ne_eqb address_region region other_region)))
            ∙ ap (λ lies_below. cond (lies_below && is_to_stay config memory address_region && begins config memory address && has_moved memory address) (filler_header (object_words (memory (Heap (address + 1))))) (memory (Heap address))) (others address_region other_region))
            (cases_eq address_region region)
        more_at _ = refl

        pub filled_region : out region ≡ false → filled_in config this_one (has_moved now) now ≡ left_below (region + 1)
        filled_region not_freed = fun_ext more_at ∙ left_next out region (filled_below (region + 1)) not_freed

-- after all regions
module _ (config : Config) (words : List ℕ) where
  abbrev viewed : Word → ℕ
  viewed = view config words

  abbrev filled : Word → ℕ
  filled = filled_in config (is_to_stay config viewed) (has_moved viewed) viewed

  -- nothing begins past the last region
  filled_all_at : (word : Word) → filled_in config (λ region. nat_lt region config.regions && is_to_stay config viewed region) (has_moved viewed) viewed word ≡ filled word
  filled_all_at (Heap address) =
      by_begun (nat_lt (region_with config address) config.regions) (is_to_stay config viewed (region_with config address)) (begins config viewed address) (has_moved viewed address) (filler_header (object_words (viewed (Heap (address + 1))))) (viewed (Heap address))
      (λ begun. (let used = and_parts (is_in_use config viewed address) (object_of config viewed address == address) begun in lt-ltb (region_with config address) config.regions (used_parts config viewed address used.0).1))
    where
      by_begun : (low stay begun moved : Bool) (filled_word old_word : ℕ) → (begun ≡ true → low ≡ true) → cond (low && stay && begun && moved) filled_word old_word ≡ cond (stay && begun && moved) filled_word old_word
      by_begun low stay true moved filled_word old_word low_where_begun = ap (λ low_region. cond (low_region && stay && true && moved) filled_word old_word) (low_where_begun refl)
      by_begun true stay false moved filled_word old_word low_where_begun = refl
      by_begun false true false moved filled_word old_word low_where_begun = refl
      by_begun false false false moved filled_word old_word low_where_begun = refl
  filled_all_at _ = refl

  set_at : (word : Word) → freed_below (is_to_free config viewed) config.regions filled word ≡ set_left config viewed word
  set_at (Top region) = ap (λ memory. memory (Top region)) (freed_all config words (is_to_free config viewed))
  set_at (Tams region) = ap (λ memory. memory (Tams region)) (freed_all config words (is_to_free config viewed))
  set_at (Limit region) = ap (λ memory. memory (Limit region)) (freed_all config words (is_to_free config viewed))
  set_at _ = refl

  pub all_left : left_below config viewed config.regions ≡ set_left config viewed
  all_left = ap (freed_below (is_to_free config viewed) config.regions) (fun_ext filled_all_at) ∙ fun_ext set_at
