-- Regions whose left objects are made words that only fill, one after the other: what is done in one changes nothing in another.
use Rattle.std.proofs.Common.{◌≡◌, ◌≢◌, ℕ, ◌+◌, ◌-◌, ◌<◌, ◌≤◌, ◌==◌, ◌&&◌, not, nat_lt, cond, Bool, true, false, List, ⊎_elim, refl, sym, ap, ◌∙◌, arith}
use Rattle.std.proofs.lemmas.Bool.{cond-false, cases_eq, and_left, and_right, and_parts, eq-eqb, ne_eqb, lt-ltb, not-true}
use Rattle.std.proofs.lemmas.Bool.Decides.{nat_tests}
use Rattle.std.proofs.Math.Path.{fun_ext}
use Rattle.heap_words.specs.declared.config.Config.{Config}
use Rattle.heap_words.specs.Words.{Word, Heap}
use Rattle.heap_words.specs.Encoding.{filler_header, object_words}
use Rattle.heap_world.specs.Walk.{has}
use Rattle.regions.specs.Place.{base_of, region_with}
use Rattle.regions.specs.Walk.{is_filler}
use Rattle.regions.proofs.PlaceLemmas.{regions_tile}
use Rattle.image_graph.specs.Pinned.{is_pinned, is_pinned_below, begins, filled_in, CanFill}
use Rattle.image_graph.specs.Leftovers.{is_left_over}
use Rattle.image_graph.specs.declared.leftovers.Leftover.TheVariants.{NotFound}
use Rattle.image_graph.proofs.SameRegion.{same_choice, can_fill_too, same_begin, shape_there}

-- where no region is filled, nothing changes
pub filled_nowhere : (config : Config) (in_region left : ℕ → Bool) (memory : Word → ℕ) → ((region : ℕ) → in_region region ≡ false) → memory ≡ filled_in config in_region left memory
filled_nowhere config in_region left memory in_no_region = fun_ext at
  where
    at : (word : Word) → memory word ≡ filled_in config in_region left memory word
    at (Heap address) = sym (cond-false (in_region (region_with config address) && begins config memory address && left address) (filler_header (object_words (memory (Heap (address + 1))))) (memory (Heap address))
        (and_left (in_region (region_with config address) && begins config memory address) (left address) (and_left (in_region (region_with config address)) (begins config memory address) (in_no_region (region_with config address)))))
    at _ = refl

-- one region, if it is pinned
pub one_pinned : (config : Config) (memory : Word → ℕ) (region : ℕ) → is_pinned config memory region ≡ true → (other_region : ℕ) → (other_region == region) ≡ ((other_region == region) && is_pinned config memory other_region)
one_pinned config memory region pinned other_region = ⊎_elim
    (λ (same_region : other_region ≡ region).
    let region_pinned : is_pinned config memory other_region ≡ true = ap (is_pinned config memory) same_region ∙ pinned in
    eq-eqb other_region region same_region ∙ sym (ap (λ is_same. is_same && is_pinned config memory other_region) (eq-eqb other_region region same_region) ∙ region_pinned))
    (λ (regions_differ : other_region ≢ region). ne_eqb other_region region regions_differ ∙ sym (and_left (other_region == region) (is_pinned config memory other_region) (ne_eqb other_region region regions_differ)))
    (cases_eq other_region region)

pub none_pinned : (config : Config) (memory : Word → ℕ) (region : ℕ) → is_pinned config memory region ≡ false → (other_region : ℕ) → ((other_region == region) && is_pinned config memory other_region) ≡ false
none_pinned config memory region unpinned other_region = ⊎_elim
    (λ (same_region : other_region ≡ region). and_right (other_region == region) (is_pinned config memory other_region) (ap (is_pinned config memory) same_region ∙ unpinned))
    (λ (regions_differ : other_region ≢ region). and_left (other_region == region) (is_pinned config memory other_region) (ne_eqb other_region region regions_differ))
    (cases_eq other_region region)

-- Pinned regions, one after the other.
module _ (config : Config) (memory : Word → ℕ) (found : List ℕ) where
  abbrev left : ℕ → Bool
  left = is_left_over memory found NotFound

  -- the words after so many regions
  abbrev pub unkept_filled : ℕ → Word → ℕ
  unkept_filled region = filled_in config (is_pinned_below config memory region) left memory

  pub none_filled : memory ≡ unkept_filled 0
  none_filled = filled_nowhere config (is_pinned_below config memory 0) left memory (λ region. and_left (nat_lt region 0) (is_pinned config memory region) (grind (arith, nat_tests)))

  module _ (region : ℕ) (can_fill : is_pinned config memory region ≡ true → CanFill config memory region) where
    abbrev now : Word → ℕ
    now = unkept_filled region

    spared : (address : ℕ) → region_with config address ≡ region → now (Heap address) ≡ memory (Heap address)
    spared address of_region = cond-false (is_pinned_below config memory region (region_with config address) && begins config memory address && left address) (filler_header (object_words (memory (Heap (address + 1))))) (memory (Heap address))
        (and_left (is_pinned_below config memory region (region_with config address) && begins config memory address) (left address)
        (and_left (is_pinned_below config memory region (region_with config address)) (begins config memory address) (and_left (nat_lt (region_with config address) region) (is_pinned config memory (region_with config address)) (not_below (region_with config address) of_region))))
      where
        not_below : (other_region : ℕ) → other_region ≡ region → nat_lt other_region region ≡ false
        not_below other_region same_region = grind (arith, nat_tests, same_region)

    spared_there : (address : ℕ) → base_of config region ≤ address → address < base_of config region + config.region_words → now (Heap address) ≡ memory (Heap address)
    spared_there address low high = spared address (regions_tile.of_no_other config region address (record { from = low; before = high }))

    pub can_still : is_pinned config now region ≡ true → CanFill config now region
    can_still pinned = can_fill_too config memory now region (can_fill pinned) refl spared_there

    module _ (held_again : List ℕ) (same_found : held_again ≡ found) where
      abbrev left_now : ℕ → Bool
      left_now = is_left_over now held_again NotFound

      abbrev this_one : ℕ → Bool
      this_one other_region = (other_region == region) && is_pinned config now other_region

      one_more : (other_region : ℕ) → other_region ≡ region → this_one other_region ≡ is_pinned_below config memory (region + 1) other_region
      one_more other_region same_region = ap (λ is_same. is_same && is_pinned config memory other_region) (eq-eqb other_region region same_region ∙ sym (lt-ltb other_region (region + 1) (omega (arith, same_region))))

      others : (other_region : ℕ) → other_region ≢ region → nat_lt other_region region ≡ nat_lt other_region (region + 1)
      others other_region regions_differ = grind (arith, nat_tests, regions_differ)

      left_same : (address : ℕ) → region_with config address ≡ region → left_now address ≡ left address
      left_same address of_region = ap (λ header. not (is_filler header) && not (has held_again address)) (spared address of_region) ∙ ap (λ addresses. not (is_filler (memory (Heap address))) && not (has addresses address)) same_found

      object_left : (address : ℕ) → left address ≡ true → is_filler (memory (Heap address)) ≡ false
      object_left address address_left = not-true (is_filler (memory (Heap address))) (and_parts (not (is_filler (memory (Heap address)))) (not (has found address)) address_left).0

      more_at : (word : Word) → filled_in config this_one left_now now word ≡ unkept_filled (region + 1) word
      more_at (Heap address) =
          let own_region = region_with config address in
          ⊎_elim
          (λ (same_region : own_region ≡ region).
          let pinned : is_pinned_below config memory (region + 1) own_region ≡ true → is_pinned config memory region ≡ true = λ test_true. ap (is_pinned config memory) (sym same_region) ∙ (and_parts (nat_lt own_region (region + 1)) (is_pinned config memory own_region) test_true).1 in
          same_choice (this_one own_region) (is_pinned_below config memory (region + 1) own_region) (begins config now address) (begins config memory address) (left_now address) (left address)
          (filler_header (object_words (now (Heap (address + 1))))) (filler_header (object_words (memory (Heap (address + 1))))) (now (Heap address)) (memory (Heap address))
          (one_more own_region same_region)
          (λ test_true. same_begin config memory now region (can_fill (pinned test_true)) refl spared_there address same_region)
          (λ test_true begun. left_same address same_region)
          (λ test_true begun left_here. ap (λ shape. filler_header (object_words shape)) (shape_there config memory now region (can_fill (pinned test_true)) refl spared_there address same_region begun (object_left address left_here)))
          (spared address same_region))
          (λ (regions_differ : own_region ≢ region).
          cond-false (this_one own_region && begins config now address && left_now address) (filler_header (object_words (now (Heap (address + 1))))) (now (Heap address))
          (and_left (this_one own_region && begins config now address) (left_now address) (and_left (this_one own_region) (begins config now address) (and_left (own_region == region) (is_pinned config now own_region) (ne_eqb own_region region regions_differ))))
          ∙ ap (λ is_same. cond (is_same && is_pinned config memory own_region && begins config memory address && left address) (filler_header (object_words (memory (Heap (address + 1))))) (memory (Heap address))) (others own_region regions_differ))
          (cases_eq own_region region)
      more_at _ = refl

      pub one_filled : filled_in config this_one left_now now ≡ unkept_filled (region + 1)
      one_filled = fun_ext more_at
