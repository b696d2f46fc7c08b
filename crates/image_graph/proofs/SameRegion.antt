-- Two memories with the same words in a region: there the same things begin.
use Rattle.std.proofs.Common.{◌≡◌, ℕ, ◌+◌, ◌-◌, ◌*◌, ◌/◌, ◌<◌, ◌≤◌, ◌==◌, ◌&&◌, nat_le, nat_lt, cond, Bool, true, false, ⊎_elim, refl, sym, ap, ◌∙◌, subst, arith}
use Rattle.std.proofs.lemmas.Bool.{cond-true, cond-false, cases_Bool, and_left, and_parts, leb-true, ltb-true, eqb-true}
use Rattle.std.proofs.lemmas.Nat.{div-add-mod', mod_below}
use Rattle.heap_words.specs.declared.config.Config.{Config}
use Rattle.heap_words.specs.Words.{Word, Top, Heap}
use Rattle.heap_words.specs.Encoding.{object_words}
use Rattle.regions.specs.Place.{base_of, region_with}
use Rattle.regions.specs.Walk.{is_filler, start_of, stride_at}
use Rattle.image_graph.specs.Pinned.{is_in_use, object_of, begins, BeginsAt, CanFill}
use Rattle.image_graph.proofs.Rows.{row_above, base_below}
use Rattle.image_graph.proofs.Starts.{same_starts}

-- the region of an address of the heap
pub own_region : (config : Config) (address : ℕ) → config.region_words ≤ address → (base_of config (region_with config address) ≤ address) × (address < base_of config (region_with config address) + config.region_words)
own_region config address in_heap =
    let row : (region_with config address + 1) * config.region_words ≡ address / config.region_words * config.region_words = ap (λ row_count. row_count * config.region_words) (row_above config address in_heap) in
    (base_below config address in_heap, omega (arith, row, div-add-mod' address config.region_words, mod_below address config.region_words (omega (arith, config.in_range.least_words))))

-- an address in use lies above the base of its region and below the top
pub used_parts : (config : Config) (memory : Word → ℕ) (address : ℕ) → is_in_use config memory address ≡ true
    → (config.region_words ≤ address) × (region_with config address < config.regions) × (address - base_of config (region_with config address) < memory (Top (region_with config address)))
used_parts config memory address in_use =
    let region = region_with config address in
    let above_reserve = and_parts (nat_le config.region_words address) (nat_lt region config.regions && nat_lt (address - base_of config region) (memory (Top region))) in_use in
    let inner_parts = and_parts (nat_lt region config.regions) (nat_lt (address - base_of config region) (memory (Top region))) above_reserve.1 in
    (leb-true config.region_words address above_reserve.0, ltb-true region config.regions inner_parts.0, ltb-true (address - base_of config region) (memory (Top region)) inner_parts.1)

-- a choice is the same where what it rests on is
pub same_choice : (new_test old_test new_begins old_begins new_left old_left : Bool) (new_value old_value new_rest old_rest : ℕ) → new_test ≡ old_test → (old_test ≡ true → new_begins ≡ old_begins) → (old_test ≡ true → old_begins ≡ true → new_left ≡ old_left) → (old_test ≡ true → old_begins ≡ true → old_left ≡ true → new_value ≡ old_value) → new_rest ≡ old_rest
    → cond (new_test && new_begins && new_left) new_value new_rest ≡ cond (old_test && old_begins && old_left) old_value old_rest
same_choice new_test false new_begins old_begins new_left old_left new_value old_value new_rest old_rest same_test same_begins same_left value same_rest = ap (λ test. cond (test && new_begins && new_left) new_value new_rest) same_test ∙ same_rest
same_choice new_test true new_begins false new_left old_left new_value old_value new_rest old_rest same_test same_begins same_left value same_rest =
    ap (λ test. cond (test && new_begins && new_left) new_value new_rest) same_test ∙ ap (λ test. cond (true && test && new_left) new_value new_rest) (same_begins refl) ∙ same_rest
same_choice new_test true new_begins true new_left false new_value old_value new_rest old_rest same_test same_begins same_left value same_rest =
    ap (λ test. cond (test && new_begins && new_left) new_value new_rest) same_test ∙ ap (λ test. cond (true && test && new_left) new_value new_rest) (same_begins refl) ∙ ap (λ test. cond (true && true && test) new_value new_rest) (same_left refl refl) ∙ same_rest
same_choice new_test true new_begins true new_left true new_value old_value new_rest old_rest same_test same_begins same_left value same_rest =
    ap (λ test. cond (test && new_begins && new_left) new_value new_rest) same_test ∙ ap (λ test. cond (true && test && new_left) new_value new_rest) (same_begins refl) ∙ ap (λ test. cond (true && true && test) new_value new_rest) (same_left refl refl) ∙ value refl refl refl

-- Two memories with the same words in a region.
module _ (config : Config) (memory other_memory : Word → ℕ) (region : ℕ) (fills : CanFill config memory region) (same_top : other_memory (Top region) ≡ memory (Top region))
    (same_words : (asked_address : ℕ) → base_of config region ≤ asked_address → asked_address < base_of config region + config.region_words → other_memory (Heap asked_address) ≡ memory (Heap asked_address)) where
  abbrev base : ℕ
  base = base_of config region

  abbrev heap : ℕ → ℕ
  heap address = memory (Heap address)

  same_header : (distance : ℕ) → distance < memory (Top region) → other_memory (Heap (base + distance)) ≡ memory (Heap (base + distance))
  same_header distance distance_below = same_words (base + distance) (omega arith) (omega (arith, distance_below, fills.within))

  same_shape : (distance : ℕ) → BeginsAt config memory region distance → distance < memory (Top region) → is_filler (memory (Heap (base + distance))) ≡ false → other_memory (Heap (base + distance + 1)) ≡ memory (Heap (base + distance + 1))
  same_shape distance begins_here distance_below object =
      let stride_is : stride_at heap (base + distance) ≡ object_words (memory (Heap (base + distance + 1))) = cond-false (is_filler (heap (base + distance))) (heap (base + distance) / 4) (object_words (heap (base + distance + 1))) object in
      let ends = fills.ends distance distance_below begins_here in
      same_words (base + distance + 1) (omega arith) (omega (arith, ends, stride_is, fills.within))

  same_stride : (distance : ℕ) → BeginsAt config memory region distance → distance < memory (Top region) → stride_at (λ address. other_memory (Heap address)) (base + distance) ≡ stride_at heap (base + distance)
  same_stride distance begins_here distance_below =
      let header = same_header distance distance_below in
      ⊎_elim
      (λ (filler_there : is_filler (memory (Heap (base + distance))) ≡ true).
      cond-true (is_filler (other_memory (Heap (base + distance)))) (other_memory (Heap (base + distance)) / 4) (object_words (other_memory (Heap (base + distance + 1)))) (ap is_filler header ∙ filler_there)
      ∙ ap (λ header_word. header_word / 4) header
      ∙ sym (cond-true (is_filler (memory (Heap (base + distance)))) (memory (Heap (base + distance)) / 4) (object_words (memory (Heap (base + distance + 1)))) filler_there))
      (λ (object : is_filler (memory (Heap (base + distance))) ≡ false).
      cond-false (is_filler (other_memory (Heap (base + distance)))) (other_memory (Heap (base + distance)) / 4) (object_words (other_memory (Heap (base + distance + 1)))) (ap is_filler header ∙ object)
      ∙ ap object_words (same_shape distance begins_here distance_below object)
      ∙ sym (cond-false (is_filler (memory (Heap (base + distance)))) (memory (Heap (base + distance)) / 4) (object_words (memory (Heap (base + distance + 1)))) object))
      (cases_Bool (is_filler (memory (Heap (base + distance)))))

  same_start : (distance : ℕ) → distance < memory (Top region) → start_of (λ address. other_memory (Heap address)) base distance ≡ start_of heap base distance
  same_start = same_starts heap (λ address. other_memory (Heap address)) base (memory (Top region)) same_stride

  pub can_fill_too : CanFill config other_memory region
  can_fill_too = record {
    within = omega (arith, same_top, fills.within);
    ends = λ distance distance_below distance_begun.
        let distance_low : distance < memory (Top region) = omega (arith, same_top, distance_below) in
        let start_here : start_of heap base distance ≡ distance = sym (same_start distance distance_low) ∙ distance_begun in
        let ends = fills.ends distance distance_low start_here in
        omega (arith, ends, same_stride distance start_here distance_low, same_top);
  }

  -- the same begins there
  module _ (address : ℕ) (in_region : region_with config address ≡ region) where
    same_use : is_in_use config other_memory address ≡ is_in_use config memory address
    same_use = ap (λ region_top. nat_le config.region_words address && (nat_lt (region_with config address) config.regions && nat_lt (address - base_of config (region_with config address)) region_top)) (ap (λ region. other_memory (Top region)) in_region ∙ same_top ∙ ap (λ region. memory (Top region)) (sym in_region))

    below_top : is_in_use config memory address ≡ true → address - base < memory (Top region)
    below_top used = subst (λ region. address - base_of config region < memory (Top region)) in_region (used_parts config memory address used).2

    pub same_begin : begins config other_memory address ≡ begins config memory address
    same_begin = ⊎_elim
        (λ (used : is_in_use config memory address ≡ true).
        let object : object_of config other_memory address ≡ object_of config memory address =
        ap (λ asked_region. base_of config asked_region + start_of (λ address. other_memory (Heap address)) (base_of config asked_region) (address - base_of config asked_region)) in_region ∙ ap (λ start. base + start) (same_start (address - base) (below_top used))
        ∙ ap (λ asked_region. base_of config asked_region + start_of heap (base_of config asked_region) (address - base_of config asked_region)) (sym in_region) in
        ap (λ in_use. in_use && (object_of config other_memory address == address)) same_use ∙ ap (λ object_address. is_in_use config memory address && (object_address == address)) object)
        (λ (unused : is_in_use config memory address ≡ false).
        and_left (is_in_use config other_memory address) (object_of config other_memory address == address) (same_use ∙ unused) ∙ sym (and_left (is_in_use config memory address) (object_of config memory address == address) unused))
        (cases_Bool (is_in_use config memory address))

    pub shape_there : begins config memory address ≡ true → is_filler (memory (Heap address)) ≡ false → other_memory (Heap (address + 1)) ≡ memory (Heap (address + 1))
    shape_there address_begins object =
        let begin_facts = and_parts (is_in_use config memory address) (object_of config memory address == address) address_begins in
        let above_base : base ≤ address = subst (λ asked_region. base_of config asked_region ≤ address) in_region (own_region config address (used_parts config memory address begin_facts.0).0).0 in
        let begins_here : base_of config (region_with config address) + start_of heap (base_of config (region_with config address)) (address - base_of config (region_with config address)) ≡ address = eqb-true (object_of config memory address) address begin_facts.1 in
        let begins_there : base + start_of heap base (address - base) ≡ address = subst (λ asked_region. base_of config asked_region + start_of heap (base_of config asked_region) (address - base_of config asked_region) ≡ address) in_region begins_here in
        let address_back : base + (address - base) ≡ address = omega (arith, above_base) in
        ap (λ asked_address. other_memory (Heap (asked_address + 1))) (sym address_back)
        ∙ same_shape (address - base) (omega (arith, begins_there, above_base)) (below_top begin_facts.0) (ap (λ address. is_filler (memory (Heap address))) address_back ∙ object)
        ∙ ap (λ asked_address. memory (Heap (asked_address + 1))) address_back
