-- Fields that are updated one after the other: what was updated before does not matter to the others.
use Rattle.std.proofs.Common.{◌≡◌, ◌≢◌, ℕ, ◌+◌, ◌-◌, ◌<◌, ◌≤◌, ◌==◌, ◌&&◌, ◌||◌, nat_le, nat_lt, cond, Bool, true, false, not, refl, sym, ap, ◌∙◌, subst, ⊎_elim, arith}
use Rattle.std.proofs.lemmas.Bool.{cases_Bool, cases_eq, cond-false, true≢false, and_left, and_right, and_parts, eq-eqb, ne_eqb, eqb-true, leb-true, ltb-true, le-leb, lt-ltb, false_from_ne_true, and_from}
use Rattle.std.proofs.lemmas.Bool.Decides.{nat_tests}
use Rattle.std.proofs.Math.Path.{fun_ext}
use Rattle.heap_words.specs.declared.config.Config.{Config}
use Rattle.heap_words.specs.Words.{Word, Top, Heap, IsWord, write}
use Rattle.heap_words.specs.Encoding.{refs_in, object_words, is_forwarded}
use Rattle.regions.specs.Place.{base_of, region_with}
use Rattle.regions.specs.Walk.{is_filler, start_of, stride_at}
use Rattle.regions.proofs.PlaceLemmas.{regions_tile}
use Rattle.image_graph.specs.Pinned.{object_of, is_in_use}
use Rattle.image_graph.proofs.Room.{room_in_heap}
use Rattle.image_graph.proofs.Starts.{words, from, begins, starts_within, next_ends, next_goes_on, same_starts}
use Rattle.image_graph.proofs.LeftoversFilled.{object_stride, filler_same, region_of_base, in_heap_by_region}
use Rattle.cycle_words.specs.Finishing.Updated.{is_kept, is_kept_here, is_reference, stays, is_staying, is_kept_field, CanUpdateAll}
use Rattle.degenerated.specs.Steps.{updated_by, fields_updated, is_at, is_below, is_of, is_of_first}

-- what lies where objects stay
pub record LiesThere (config : Config) (memory : Word → ℕ) (address : ℕ) : Type 0 where
  pub above : config.region_words ≤ address
  pub of_region : region_with config address < config.regions
  pub staying : stays config memory (region_with config address) ≡ true
  pub below : address - base_of config (region_with config address) < memory (Top (region_with config address))

module _ (config : Config) (memory : Word → ℕ) where
  pub lies_there : (address : ℕ) → is_staying config memory address ≡ true → LiesThere config memory address
  lies_there address staying =
      let region = region_with config address in
      let in_use_parts = and_parts (is_in_use config memory address) (stays config memory region) staying in
      let address_parts = and_parts (nat_le config.region_words address) (nat_lt region config.regions && nat_lt (address - base_of config region) (memory (Top region))) in_use_parts.0 in
      let region_parts = and_parts (nat_lt region config.regions) (nat_lt (address - base_of config region) (memory (Top region))) address_parts.1 in
      record {
        above = leb-true config.region_words address address_parts.0;
        of_region = ltb-true region config.regions region_parts.0;
        staying = in_use_parts.1;
        below = ltb-true (address - base_of config region) (memory (Top region)) region_parts.1;
      }

  pub staying_told : (region offset : ℕ) → region < config.regions → stays config memory region ≡ true → memory (Top region) ≤ config.region_words → offset < memory (Top region) → is_staying config memory (base_of config region + offset) ≡ true
  staying_told region offset region_below staying within offset_below =
      let word_address = base_of config region + offset in
      let of_region = region_of_base config region offset (omega (arith, within, offset_below)) in
      let same_offset : base_of config region + offset - base_of config region ≡ offset = omega arith in
      and_from (is_in_use config memory word_address) (stays config memory (region_with config word_address))
      (and_from (nat_le config.region_words word_address) (nat_lt (region_with config word_address) config.regions && nat_lt (word_address - base_of config (region_with config word_address)) (memory (Top (region_with config word_address))))
      (le-leb config.region_words word_address (omega arith))
      (and_from (nat_lt (region_with config word_address) config.regions) (nat_lt (word_address - base_of config (region_with config word_address)) (memory (Top (region_with config word_address))))
      (lt-ltb (region_with config word_address) config.regions (omega (arith, of_region, region_below)))
      (lt-ltb (word_address - base_of config (region_with config word_address)) (memory (Top (region_with config word_address))) (subst (λ region. word_address - base_of config region < memory (Top region)) (sym of_region) (omega (arith, same_offset, offset_below))))))
      (ap (stays config memory) of_region ∙ staying)

  -- the object that has an address of a region
  pub object_in : (region offset : ℕ) → offset < config.region_words → object_of config memory (base_of config region + offset) ≡ base_of config region + start_of (λ address. memory (Heap address)) (base_of config region) offset
  object_in region offset offset_below =
      let same_offset : base_of config region + offset - base_of config region ≡ offset = omega arith in
      ap (λ any_region. base_of config any_region + start_of (λ address. memory (Heap address)) (base_of config any_region) (base_of config region + offset - base_of config any_region)) (region_of_base config region offset offset_below)
      ∙ ap (λ any_offset. base_of config region + start_of (λ address. memory (Heap address)) (base_of config region) any_offset) same_offset

  -- a field of a kept object
  module _ (field_address : ℕ) where
    abbrev object : ℕ
    object = object_of config memory field_address

    pub field_stays : is_kept_field config memory field_address ≡ true → is_staying config memory field_address ≡ true
    field_stays field = (and_parts (is_staying config memory field_address) (is_kept_here config memory object) (and_parts (is_staying config memory field_address && is_kept_here config memory object) (is_reference memory object field_address) field).0).0

    pub not_staying : is_staying config memory field_address ≡ false → is_kept_field config memory field_address ≡ false
    not_staying stays_not = ap (λ stays_here. stays_here && is_kept_here config memory object && is_reference memory object field_address) stays_not

    pub no_reference : (found_object : ℕ) → found_object ≡ object → is_reference memory found_object field_address ≡ false → is_kept_field config memory field_address ≡ false
    no_reference found_object same_object not_reference = and_right (is_staying config memory field_address && is_kept_here config memory object) (is_reference memory object field_address) (ap (λ object. is_reference memory object field_address) (sym same_object) ∙ not_reference)

    pub not_kept : (found_object : ℕ) → found_object ≡ object → is_kept_here config memory found_object ≡ false → is_kept_field config memory field_address ≡ false
    not_kept found_object same_object not_here =
        and_left (is_staying config memory field_address && is_kept_here config memory object) (is_reference memory object field_address) (and_right (is_staying config memory field_address) (is_kept_here config memory object) (ap (is_kept_here config memory) (sym same_object) ∙ not_here))

    pub kept_reference : (found_object : ℕ) → is_staying config memory field_address ≡ true → found_object ≡ object → is_kept_here config memory found_object ≡ true → is_reference memory found_object field_address ≡ true → is_kept_field config memory field_address ≡ true
    kept_reference found_object staying same_object kept_here reference =
        and_from (is_staying config memory field_address && is_kept_here config memory object) (is_reference memory object field_address)
        (and_from (is_staying config memory field_address) (is_kept_here config memory object) staying (ap (is_kept_here config memory) (sym same_object) ∙ kept_here)) (ap (λ object. is_reference memory object field_address) (sym same_object) ∙ reference)

  -- one address
  module _ (now : ℕ → ℕ) (set_address : ℕ) where
    one_left : (holds : Bool) (asked_address new_value old_value : ℕ) → (set_address ≡ asked_address → holds ≡ false) → old_value ≡ cond ((set_address == asked_address) && holds) new_value old_value
    one_left holds asked_address new_value old_value fails_there = grind (arith, nat_tests)

    left_at : is_kept_field config memory set_address ≡ false → (word : Word) → memory word ≡ fields_updated config now (is_at set_address) memory word
    left_at not_field (Heap address) = one_left (is_kept_field config memory address) address (updated_by config now memory (memory (Heap address))) (memory (Heap address)) (λ same_address. ap (is_kept_field config memory) (sym same_address) ∙ not_field)
    left_at not_field _ = refl

    pub left : is_kept_field config memory set_address ≡ false → memory ≡ fields_updated config now (is_at set_address) memory
    left not_field = fun_ext (left_at not_field)

    one_set : (holds : Bool) (asked_address : ℕ) (new_value old_value : ℕ → ℕ) → (set_address ≡ asked_address → holds ≡ true) → cond (set_address == asked_address) (new_value set_address) (old_value asked_address) ≡ cond ((set_address == asked_address) && holds) (new_value asked_address) (old_value asked_address)
    one_set holds asked_address new_value old_value holds_there = grind (arith, nat_tests)

    set_at : is_kept_field config memory set_address ≡ true → (word : Word) → write memory (Heap set_address) (updated_by config now memory (memory (Heap set_address))) word ≡ fields_updated config now (is_at set_address) memory word
    set_at kept_field (Heap address) = one_set (is_kept_field config memory address) address (λ address. updated_by config now memory (memory (Heap address))) (λ address. memory (Heap address)) (λ same_address. ap (is_kept_field config memory) (sym same_address) ∙ kept_field)
    set_at kept_field _ = refl

    pub set_one : is_kept_field config memory set_address ≡ true → write memory (Heap set_address) (updated_by config now memory (memory (Heap set_address))) ≡ fields_updated config now (is_at set_address) memory
    set_one kept_field = fun_ext (set_at kept_field)

  -- sets that have the same fields
  pub same_fields : (now : ℕ → ℕ) (first_set second_set : ℕ → Bool) → ((x : ℕ) → is_kept_field config memory x ≡ true → first_set x ≡ second_set x) → fields_updated config now first_set memory ≡ fields_updated config now second_set memory
  same_fields now first_set second_set same_set = fun_ext at
    where
      by_field : (first_has second_has kept : Bool) (new_value old_value : ℕ) → (kept ≡ true → first_has ≡ second_has) → cond (first_has && kept) new_value old_value ≡ cond (second_has && kept) new_value old_value
      by_field first_has second_has true new_value old_value same_there = ap (λ test. cond (test && true) new_value old_value) (same_there refl)
      by_field first_has second_has false new_value old_value same_there = ap (λ test. cond test new_value old_value) (and_right first_has false refl ∙ sym (and_right second_has false refl))

      at : (word : Word) → fields_updated config now first_set memory word ≡ fields_updated config now second_set memory word
      at (Heap address) = by_field (first_set address) (second_set address) (is_kept_field config memory address) (updated_by config now memory (memory (Heap address))) (memory (Heap address)) (same_set address)
      at _ = refl

  pub no_fields : (now : ℕ → ℕ) (empty_set : ℕ → Bool) → ((x : ℕ) → is_kept_field config memory x ≡ true → empty_set x ≡ false) → memory ≡ fields_updated config now empty_set memory
  no_fields now empty_set none_there = fun_ext at
    where
      by_field : (holds other_holds : Bool) (new_value old_value : ℕ) → (other_holds ≡ true → holds ≡ false) → old_value ≡ cond (holds && other_holds) new_value old_value
      by_field holds true new_value old_value fails_there = sym (ap (λ test. cond (test && true) new_value old_value) (fails_there refl))
      by_field holds false new_value old_value fails_there = sym (ap (λ test. cond test new_value old_value) (and_right holds false refl))

      at : (word : Word) → memory word ≡ fields_updated config now empty_set memory word
      at (Heap address) = by_field (empty_set address) (is_kept_field config memory address) (updated_by config now memory (memory (Heap address))) (memory (Heap address)) (none_there address)
      at _ = refl

-- The header of what begins at an address can be read, and its shape word if it is an object.
abbrev pub CanRead : Config → (Word → ℕ) → ℕ → Type 0
CanRead config memory address = IsWord config (Heap address) × (is_filler (memory (Heap address)) ≡ false → IsWord config (Heap (address + 1)))

-- so it is where references can be updated
can_read : (config : Config) (memory : Word → ℕ) (region top : ℕ) → region < config.regions → stays config memory region ≡ true → top < memory (Top region) → start_of (λ address. memory (Heap address)) (base_of config region) top ≡ top → CanUpdateAll config memory
    → CanRead config memory (base_of config region + top)
can_read config memory region top region_below staying below_top begun can_update =
    let top_within = can_update.within region region_below in
    let first_word = room_in_heap config region top 1 region_below (omega (arith, below_top, top_within)) in (
      (omega (arith, first_word.from), omega (arith, first_word.to)),
      λ object_here.
          let stride_is = object_stride (λ address. memory (Heap address)) (base_of config region + top) object_here in
          let both_words = room_in_heap config region top 2 region_below (let size = can_update.objects region region_below staying top below_top begun in omega (arith, size, stride_is, top_within)) in
          (omega (arith, both_words.from), omega (arith, both_words.to)),
    )

-- References can be updated, and some were.
module _ (config : Config) (now : ℕ → ℕ) (memory : Word → ℕ) (can_update : CanUpdateAll config memory) (updated_set : ℕ → Bool) where
  abbrev memory_then : Word → ℕ
  memory_then = fields_updated config now updated_set memory

  -- a word that is no field stays
  word_stays : (address : ℕ) → is_kept_field config memory address ≡ false → memory_then (Heap address) ≡ memory (Heap address)
  word_stays address not_field = cond-false (updated_set address && is_kept_field config memory address) (updated_by config now memory (memory (Heap address))) (memory (Heap address)) (and_right (updated_set address) (is_kept_field config memory address) not_field)

  -- so headers and shapes stay
  module _ (region : ℕ) (region_below : region < config.regions) (staying : stays config memory region ≡ true) where
    abbrev base : ℕ
    base = base_of config region

    abbrev heap : ℕ → ℕ
    heap address = memory (Heap address)

    top_within : memory (Top region) ≤ config.region_words
    top_within = can_update.within region region_below

    -- the first words of what begins there are no references
    no_first : (fills : Bool) (object_address asked_address refs : ℕ) → asked_address < object_address + 3 → (not fills && nat_le (object_address + 3) asked_address && nat_lt asked_address (object_address + 3 + refs)) ≡ false
    no_first fills object_address asked_address refs low = and_left (not fills && nat_le (object_address + 3) asked_address) (nat_lt asked_address (object_address + 3 + refs)) (and_right (not fills) (nat_le (object_address + 3) asked_address) (grind (arith, nat_tests)))

    pub same_header : (start : ℕ) → start_of heap base start ≡ start → start < memory (Top region) → memory_then (Heap (base + start)) ≡ memory (Heap (base + start))
    same_header start begins_there below_top =
        let object : object_of config memory (base + start) ≡ base + start = object_in config memory region start (omega (arith, below_top, top_within)) ∙ ap (λ offset. base + offset) begins_there in
        word_stays (base + start) (no_reference config memory (base + start) (base + start) (sym object) (no_first (is_filler (memory (Heap (base + start)))) (base + start) (base + start) (refs_in (memory (Heap (base + start + 1)))) (omega arith)))

    pub same_shape : (start : ℕ) → start_of heap base start ≡ start → start < memory (Top region) → is_filler (memory (Heap (base + start))) ≡ false → memory_then (Heap (base + start + 1)) ≡ memory (Heap (base + start + 1))
    same_shape start begins_there below_top object_here =
        let stride_is : stride_at heap (base + start) ≡ object_words (memory (Heap (base + start + 1))) = object_stride heap (base + start) object_here in
        let size = can_update.objects region region_below staying start below_top begins_there in
        let same_sum : base + (start + 1) ≡ base + start + 1 = omega arith in
        let begun : start_of heap base (start + 1) ≡ start = starts_within heap base start 1 begins_there (omega (arith, stride_is)) in
        let object : object_of config memory (base + start + 1) ≡ base + start =
        ap (object_of config memory) (sym same_sum) ∙ object_in config memory region (start + 1) (omega (arith, size, stride_is, top_within)) ∙ ap (λ offset. base + offset) begun in
        word_stays (base + start + 1) (no_reference config memory (base + start + 1) (base + start) (sym object) (no_first (is_filler (memory (Heap (base + start)))) (base + start) (base + start + 1) (refs_in (memory (Heap (base + start + 1)))) (omega arith)))

    -- so each is as long as before
    pub same_stride : (start : ℕ) → start_of heap base start ≡ start → start < memory (Top region) → stride_at (λ address. memory_then (Heap address)) (base + start) ≡ stride_at heap (base + start)
    same_stride start begins_there below_top = ⊎_elim
        (λ (fills : is_filler (memory (Heap (base + start))) ≡ true). filler_same heap (λ address. memory_then (Heap address)) (base + start) (base + start) fills (same_header start begins_there below_top))
        (λ (object_here : is_filler (memory (Heap (base + start))) ≡ false).
        object_stride (λ address. memory_then (Heap address)) (base + start) (ap is_filler (same_header start begins_there below_top) ∙ object_here) ∙ ap object_words (same_shape start begins_there below_top object_here)
        ∙ sym (object_stride heap (base + start) object_here))
        (cases_Bool (is_filler (memory (Heap (base + start)))))

    -- an object where its words are looked up
    module _ (offset : ℕ) (below_top : offset < memory (Top region)) where
      abbrev s : ℕ
      s = start_of heap base (offset - 1)

      s_begins : start_of heap base s ≡ s
      s_begins = begins heap base (offset - 1)

      s_below : s < memory (Top region)
      s_below = omega (arith, from heap base (offset - 1), below_top)

      pub last_in_heap : CanRead config memory_then (base + s)
      last_in_heap = subst (λ header. IsWord config (Heap (base + s)) × (is_filler header ≡ false → IsWord config (Heap (base + s + 1)))) (sym (same_header s s_begins s_below))
          (can_read config memory region s region_below staying s_below s_begins can_update)

      same_size : stride_at (λ address. memory_then (Heap address)) (base + s) ≡ words heap base s
      same_size = same_stride s s_begins s_below

      -- it ends there, or it goes on
      module _ (object first : ℕ) (object_there : object ≡ base + s) (from_base : first ≡ base) where
        size_is : object + stride_at (λ address. memory_then (Heap address)) object ≡ base + s + words heap base s
        size_is = ap (λ object_address. object_address + stride_at (λ address. memory_then (Heap address)) object_address) object_there ∙ ap (λ stride. base + s + stride) same_size

        pub here : (object + stride_at (λ address. memory_then (Heap address)) object == first + offset) ≡ true → first + offset ≡ base + start_of heap base offset
        here ends_here =
            let ends : object + stride_at (λ address. memory_then (Heap address)) object ≡ first + offset = eqb-true (object + stride_at (λ address. memory_then (Heap address)) object) (first + offset) ends_here in
            let begun : start_of heap base offset ≡ offset = next_ends heap base offset (omega (arith, ends, size_is, from_base)) in
            omega (arith, begun, from_base)

        pub still : (object + stride_at (λ address. memory_then (Heap address)) object == first + offset) ≡ false → object ≡ base + start_of heap base offset
        still ends_not =
            let begun : start_of heap base offset ≡ s = next_goes_on heap base offset
            (λ ends. true≢false (sym (eq-eqb (object + stride_at (λ address. memory_then (Heap address)) object) (first + offset) (omega (arith, ends, size_is, from_base))) ∙ ends_not)) in
            omega (arith, begun, object_there)

    pub same_start : (offset : ℕ) → offset < memory (Top region) → start_of (λ address. memory_then (Heap address)) base offset ≡ start_of heap base offset
    same_start = same_starts heap (λ address. memory_then (Heap address)) base (memory (Top region)) same_stride

  -- so references can be updated still
  pub can_still : CanUpdateAll config memory_then
  can_still = record {
    set = can_update.set;
    within = can_update.within;
    objects = λ region region_below staying offset below_top begun_now.
        let begun : start_of (λ address. memory (Heap address)) (base_of config region) offset ≡ offset = sym (same_start region region_below staying offset below_top) ∙ begun_now in
        let size = can_update.objects region region_below staying offset below_top begun in
        let stride_kept = same_stride region region_below staying offset begun below_top in
        omega (arith, size, stride_kept);
  }

  -- and each of them is the same
  pub same_object : (address : ℕ) → is_staying config memory address ≡ true → object_of config memory_then address ≡ object_of config memory address
  same_object address staying =
      let lies_inside = lies_there config memory address staying in
      ap (λ offset. base_of config (region_with config address) + offset) (same_start (region_with config address) lies_inside.of_region lies_inside.staying (address - base_of config (region_with config address)) lies_inside.below)

  pub same_reference : (address : ℕ) → is_staying config memory address ≡ true → is_reference memory_then (object_of config memory address) address ≡ is_reference memory (object_of config memory address) address
  same_reference address staying =
      let lies_inside = lies_there config memory address staying in
      let region = region_with config address in
      let offset = address - base_of config region in
      let start = start_of (λ address. memory (Heap address)) (base_of config region) offset in
      let below_top : start < memory (Top region) = omega (arith, from (λ address. memory (Heap address)) (base_of config region) offset, lies_inside.below) in
      let begun = begins (λ address. memory (Heap address)) (base_of config region) offset in
      let header = same_header region lies_inside.of_region lies_inside.staying start begun below_top in
      ap (λ word. not (is_filler word) && nat_le (object_of config memory address + 3) address && nat_lt address (object_of config memory address + 3 + refs_in (memory_then (Heap (object_of config memory address + 1))))) header
      ∙ ⊎_elim
      (λ (fills : is_filler (memory (Heap (object_of config memory address))) ≡ true). none_there address fills (memory_then (Heap (object_of config memory address + 1))) ∙ sym (none_there address fills (memory (Heap (object_of config memory address + 1)))))
      (λ (object_here : is_filler (memory (Heap (object_of config memory address))) ≡ false).
      ap (λ word. not (is_filler (memory (Heap (object_of config memory address)))) && nat_le (object_of config memory address + 3) address && nat_lt address (object_of config memory address + 3 + refs_in word)) (same_shape region lies_inside.of_region lies_inside.staying start begun below_top object_here))
      (cases_Bool (is_filler (memory (Heap (object_of config memory address)))))
    where
      none_there : (field_address : ℕ) → is_filler (memory (Heap (object_of config memory field_address))) ≡ true → (shape : ℕ)
          → (not (is_filler (memory (Heap (object_of config memory field_address)))) && nat_le (object_of config memory field_address + 3) field_address && nat_lt field_address (object_of config memory field_address + 3 + refs_in shape)) ≡ false
      none_there field_address fills shape = ap (λ filler_here. not filler_here && nat_le (object_of config memory field_address + 3) field_address && nat_lt field_address (object_of config memory field_address + 3 + refs_in shape)) fills

  -- what has not moved has not moved
  pub same_kept : (address : ℕ) → is_staying config memory address ≡ true → is_kept_here config memory_then (object_of config memory address) ≡ is_kept_here config memory (object_of config memory address)
  same_kept address staying =
      let lies_inside = lies_there config memory address staying in
      let region = region_with config address in
      let offset = address - base_of config region in
      let start = start_of (λ address. memory (Heap address)) (base_of config region) offset in
      let below_top : start < memory (Top region) = omega (arith, from (λ address. memory (Heap address)) (base_of config region) offset, lies_inside.below) in
      ap (λ header. not (is_forwarded header) && is_kept config memory (object_of config memory address)) (same_header region lies_inside.of_region lies_inside.staying start (begins (λ address. memory (Heap address)) (base_of config region) offset) below_top)

  pub same_field : (address : ℕ) → is_kept_field config memory_then address ≡ is_kept_field config memory address
  same_field address = ⊎_elim
      (λ (staying : is_staying config memory address ≡ true).
      ap (λ object. is_staying config memory address && is_kept_here config memory_then object && is_reference memory_then object address) (same_object address staying)
      ∙ ap (λ test. is_staying config memory address && test && is_reference memory_then (object_of config memory address) address) (same_kept address staying)
      ∙ ap (λ test. is_staying config memory address && is_kept_here config memory (object_of config memory address) && test) (same_reference address staying))
      (λ (stays_not : is_staying config memory address ≡ false). ap (λ test. test && is_kept_here config memory_then (object_of config memory_then address) && is_reference memory_then (object_of config memory_then address) address) stays_not ∙ sym (not_staying config memory address stays_not))
      (cases_Bool (is_staying config memory address))

  -- some more are updated
  module _ (later_set whole_set : ℕ → Bool) (sets_apart : (x : ℕ) → is_kept_field config memory x ≡ true → updated_set x ≡ true → later_set x ≡ false) (joined : (x : ℕ) → is_kept_field config memory x ≡ true → whole_set x ≡ (updated_set x || later_set x)) where
    by_sets : (first_has second_has either_has kept : Bool) (new_value old_value : ℕ) (update : ℕ → ℕ) → (kept ≡ true → first_has ≡ true → second_has ≡ false) → (kept ≡ true → either_has ≡ (first_has || second_has)) → update old_value ≡ new_value
        → cond (second_has && kept) (update (cond (first_has && kept) new_value old_value)) (cond (first_has && kept) new_value old_value) ≡ cond (either_has && kept) new_value old_value
    by_sets true second_has either_has true new_value old_value update apart_there joined_there same_again =
        ap (λ test. cond (test && true) (update new_value) new_value) (apart_there refl refl) ∙ sym (ap (λ test. cond (test && true) new_value old_value) (joined_there refl))
    by_sets false true either_has true new_value old_value update apart_there joined_there same_again = same_again ∙ sym (ap (λ test. cond (test && true) new_value old_value) (joined_there refl))
    by_sets false false either_has true new_value old_value update apart_there joined_there same_again = sym (ap (λ test. cond (test && true) new_value old_value) (joined_there refl))
    by_sets first_has second_has either_has false new_value old_value update apart_there joined_there same_again =
        ap (λ test. cond test (update (cond (first_has && false) new_value old_value)) (cond (first_has && false) new_value old_value)) (and_right second_has false refl)
        ∙ ap (λ test. cond test new_value old_value) (and_right first_has false refl)
        ∙ sym (ap (λ test. cond test new_value old_value) (and_right either_has false refl))

    then_at : (word : Word) → fields_updated config now later_set memory_then word ≡ fields_updated config now whole_set memory word
    then_at (Heap address) =
        ap (λ field_there. cond (later_set address && field_there) (updated_by config now memory (memory_then (Heap address))) (memory_then (Heap address))) (same_field address)
        ∙ by_sets (updated_set address) (later_set address) (whole_set address) (is_kept_field config memory address) (updated_by config now memory (memory (Heap address))) (memory (Heap address)) (updated_by config now memory) (sets_apart address) (joined address) refl
    then_at _ = refl

    pub then_updated : fields_updated config now later_set memory_then ≡ fields_updated config now whole_set memory
    then_updated = fun_ext then_at

-- the first words of the object that has an address where objects stay can be read
pub object_inside : (config : Config) (memory : Word → ℕ) → CanUpdateAll config memory → (address : ℕ) → is_staying config memory address ≡ true → CanRead config memory (object_of config memory address)
object_inside config memory can_update address staying =
    let lies_inside = lies_there config memory address staying in
    let region = region_with config address in
    let offset = address - base_of config region in
    let heap : ℕ → ℕ = λ address. memory (Heap address) in
    let start = start_of heap (base_of config region) offset in
    let below_top : start < memory (Top region) = omega (arith, from heap (base_of config region) offset, lies_inside.below) in
    can_read config memory region start lies_inside.of_region lies_inside.staying below_top (begins heap (base_of config region) offset) can_update

pub address_inside : (config : Config) (memory : Word → ℕ) (address : ℕ) → is_staying config memory address ≡ true → IsWord config (Heap address)
address_inside config memory address staying = (let lies_inside = lies_there config memory address staying in in_heap_by_region config address lies_inside.above lies_inside.of_region)

-- Sets of addresses, one region or one address more.
module _ (config : Config) where
  pub none_of_first : (address : ℕ) → is_of_first config 0 address ≡ false
  none_of_first address = none (region_with config address)
    where
      none : (asked_region : ℕ) → nat_lt asked_region 0 ≡ false
      none asked_region = grind (arith, nat_tests)

  pub regions_apart : (region address : ℕ) → is_of_first config region address ≡ true → is_of config region address ≡ false
  regions_apart region address of_first = apart (region_with config address) of_first
    where
      apart : (asked_region : ℕ) → nat_lt asked_region region ≡ true → (asked_region == region) ≡ false
      apart asked_region tested_below = grind (arith, nat_tests)

  pub one_region_more : (region address : ℕ) → is_of_first config (region + 1) address ≡ (is_of_first config region address || is_of config region address)
  one_region_more region address = more (region_with config address)
    where
      more : (asked_region : ℕ) → nat_lt asked_region (region + 1) ≡ (nat_lt asked_region region || (asked_region == region))
      more asked_region = grind (arith, nat_tests)

  pub none_below : (region address : ℕ) → is_below config region 0 address ≡ false
  none_below region address = none (base_of config region)
    where
      none : (base : ℕ) → (nat_le base address && nat_lt address (base + 0)) ≡ false
      none base = grind (arith, nat_tests)

  pub addresses_apart : (region offset address : ℕ) → is_below config region offset address ≡ true → is_at (base_of config region + offset) address ≡ false
  addresses_apart region offset address below_offset = apart (base_of config region) below_offset
    where
      apart : (base : ℕ) → (nat_le base address && nat_lt address (base + offset)) ≡ true → (base + offset == address) ≡ false
      apart base tested_below = grind (arith, nat_tests)

  pub one_address_more : (region offset address : ℕ) → is_below config region (offset + 1) address ≡ (is_below config region offset address || is_at (base_of config region + offset) address)
  one_address_more region offset address = more (base_of config region)
    where
      more : (base : ℕ) → (nat_le base address && nat_lt address (base + (offset + 1))) ≡ (nat_le base address && nat_lt address (base + offset) || (base + offset == address))
      more base = grind (arith, nat_tests)

  -- a region where nothing stays has no field to be updated
  pub none_where_nothing_stays : (memory : Word → ℕ) (region : ℕ) → stays config memory region ≡ false → (address : ℕ) → is_kept_field config memory address ≡ true → is_of config region address ≡ false
  none_where_nothing_stays memory region none_stays address field =
      let staying = (lies_there config memory address (field_stays config memory address field)).staying in
      ne_eqb (region_with config address) region (λ same_region. true≢false (sym staying ∙ ap (stays config memory) same_region ∙ none_stays))

  -- the fields of a region lie below its top
  pub fields_below : (memory : Word → ℕ) (region : ℕ) → region < config.regions → memory (Top region) ≤ config.region_words → (address : ℕ) → is_kept_field config memory address ≡ true → is_below config region (memory (Top region)) address ≡ is_of config region address
  fields_below memory region region_below within address field =
      let in_heap = lies_there config memory address (field_stays config memory address field) in
      let own_region = region_with config address in
      let same_tile = regions_tile.of_one config address (x_is_word in_heap) in
      ⊎_elim
      (λ (same_region : own_region ≡ region).
      let base : base_of config own_region ≡ base_of config region = ap (base_of config) same_region in
      let top : memory (Top own_region) ≡ memory (Top region) = ap (λ region. memory (Top region)) same_region in
      let inside : address < base_of config region + memory (Top region) = omega (arith, in_heap.below, base, top, same_tile.from) in
      let from_base : base_of config region ≤ address = omega (arith, same_tile.from, base) in
      told from_base inside ∙ sym (eq-eqb own_region region same_region))
      (λ (regions_differ : own_region ≢ region).
      untold (λ from_base inside. regions_differ (regions_tile.of_no_other config region address (record { from = from_base; before = omega (arith, inside, within) }))) ∙ sym (ne_eqb own_region region regions_differ))
      (cases_eq own_region region)
    where
      x_is_word : LiesThere config memory address → IsWord config (Heap address)
      x_is_word lies_inside = in_heap_by_region config address lies_inside.above lies_inside.of_region

      told : base_of config region ≤ address → address < base_of config region + memory (Top region) → is_below config region (memory (Top region)) address ≡ true
      told low high = and_from (nat_le (base_of config region) address) (nat_lt address (base_of config region + memory (Top region))) (le-leb (base_of config region) address low) (lt-ltb address (base_of config region + memory (Top region)) high)

      untold : (base_of config region ≤ address → address < base_of config region + memory (Top region) → ⊥) → is_below config region (memory (Top region)) address ≡ false
      untold not_between = false_from_ne_true (is_below config region (memory (Top region)) address) (λ tested.
          let both_tests = and_parts (nat_le (base_of config region) address) (nat_lt address (base_of config region + memory (Top region))) tested in
          not_between (leb-true (base_of config region) address both_tests.0) (ltb-true address (base_of config region + memory (Top region)) both_tests.1))
