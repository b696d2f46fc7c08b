-- Objects of the chosen regions find room, each at its turn.
use Rattle.std.proofs.Common.{◌≡◌, ◌≢◌, ℕ, ◌+◌, ◌-◌, ◌*◌, ◌/◌, ◌%◌, ◌<◌, ◌≤◌, ◌⊎◌, ◌==◌, if◌then◌else◌, nat_le, nat_eq, true, suc, List, length, get_or, Option, Some, None, refl, sym, ap, ◌∙◌, ⊎_elim, arith}
use Rattle.std.specs.Prelude.{Contains}
use Rattle.std.specs.Int.{bit_at}
use Rattle.std.proofs.lemmas.Bool.{cases_eq, cases_order, cond-true, cond-false, eq-eqb, ne_eqb, eqb-false, leb-true, and_parts}
use Rattle.std.proofs.lemmas.Nat.{div-mul-add, mod-mul-add}
use Rattle.std.proofs.lemmas.Nat.Bits.{bit_at-lt}
use Rattle.std.proofs.lemmas.List.Elements.{Contains-get_or}
use Rattle.std.proofs.lemmas.Map.Keys.{apart_from_distinct}
use Rattle.heap_words.specs.declared.config.Config.{Config}
use Rattle.heap_words.specs.Words.{Word, Free, Top, Black}
use Rattle.regions.specs.Tops.{sum_below}
use Rattle.regions.specs.ServedRooms.{room_at_turn}
use Rattle.regions.proofs.Sums.{sum_next, sum_same, sum_grows, sum_of_things}
use Rattle.regions.proofs.ServedRooms.{has_room}
use Rattle.regions.specs.Place.{base_of, region_with}
use Rattle.regions.specs.Sets.{IsIn, IsOutside}
use Rattle.regions.specs.Marks.{mark_word, mark_bit}
use Rattle.cycle_words.specs.Marking.Marks.{is_black}
use Rattle.cycle_words.specs.Evacuation.Live.{words_at, marked_words, live_words, is_candidate}
use Rattle.cycle_words.specs.Evacuation.Front.{live_in}
use Rattle.cycle_words.specs.Evacuation.Choice.{copy_limit, chosen}
use Rattle.cycle_words.specs.Evacuation.Copying.{tops_outside, AreToCopy, words_by_turn, tops_after_copies, FindsRoom}
use Rattle.cycle_words.specs.Evacuation.Begun.{FreeAreEmpty}
use Rattle.cycle_words.specs.Evacuation.Laws.{RoomIsFound}
use Rattle.cycle_words.proofs.Evacuation.Sums.{sum_in_rows, sum_picked}
use Rattle.cycle_words.proofs.Evacuation.Candidate.{candidate_is_candidate}
use Rattle.cycle_words.proofs.Evacuation.Front.{front_is}
use Rattle.cycle_words.proofs.Evacuation.RegionAddresses.{some_words, from_base, IsPlace, place_of}
use Rattle.cycle_words.proofs.Evacuation.Room.{served_least, some_room}

module _ (config : Config) (memory : Word → ℕ) (cset : ℕ) (objects : List ℕ) (to_copy : AreToCopy config memory cset objects) where
  abbrev region_words : ℕ
  region_words = config.region_words

  abbrev asked : ℕ → ℕ
  asked = words_by_turn memory objects

  -- the live words at an offset of a region of the set
  abbrev at_offset : ℕ → ℕ → ℕ
  at_offset region offset = if bit_at cset region == 1 then marked_words config memory (base_of config region + offset) else 0

  -- the same by how far an address is from the first one
  abbrev by_address : ℕ → ℕ
  by_address distance = at_offset (distance / region_words) (distance % region_words)

  -- over all addresses these are what lives in the set
  all_addresses : sum_below by_address (config.regions * region_words) ≡ live_in config.regions (live_words config memory) cset
  all_addresses =
      sum_in_rows by_address region_words config.regions
      ∙ sum_same (λ region. sum_below (λ offset. by_address (region * region_words + offset)) region_words) (λ region. if bit_at cset region == 1 then live_words config memory region else 0) config.regions
      (λ region _.
      sum_same (λ offset. by_address (region * region_words + offset)) (at_offset region) region_words
      (λ offset inside. ap (λ row. at_offset row ((region * region_words + offset) % region_words)) (div-mul-add region region_words offset inside) ∙ ap (at_offset region) (mod-mul-add region region_words offset inside))
      ∙ sum_picked (bit_at cset region == 1) (λ offset. marked_words config memory (base_of config region + offset)) region_words)

  object_is : (index : ℕ) → index < length objects → Contains objects (get_or objects index 0)
  object_is index index_below = Contains-get_or objects index 0 index_below

  pub above_first : (address : ℕ) → is_black config memory address ≡ true → region_words ≤ address
  above_first address address_black = leb-true region_words address (and_parts (nat_le region_words address) (bit_at (memory (Black (mark_word config address))) (mark_bit config address) == 1) address_black).0

  -- the place of an object
  placed : (index : ℕ) → index < length objects → IsPlace region_words config.regions (get_or objects index 0)
  placed index index_below =
      let object_address = get_or objects index 0 in
      place_of region_words config.regions object_address (some_words config) (above_first object_address (to_copy.marked object_address (object_is index index_below))) (to_copy.of_region object_address (object_is index index_below))

  -- there its words are counted
  counted_there : (index : ℕ) → index < length objects → asked index ≤ by_address (get_or objects index 0 - region_words)
  counted_there index index_below =
      let object_address = get_or objects index 0 in
      let place_known = placed index index_below in
      let same_count : by_address (object_address - region_words) ≡ at_offset (region_with config object_address) (object_address % region_words) = ap (λ row. at_offset row ((object_address - region_words) % region_words)) place_known.row ∙ ap (at_offset (region_with config object_address)) place_known.offset in
      let words_known : at_offset (region_with config object_address) (object_address % region_words) ≡ marked_words config memory (base_of config (region_with config object_address) + object_address % region_words) =
      cond-true (bit_at cset (region_with config object_address) == 1) (marked_words config memory (base_of config (region_with config object_address) + object_address % region_words)) 0
      (eq-eqb (bit_at cset (region_with config object_address)) 1 (to_copy.in_set object_address (object_is index index_below))) in
      let same_marked : marked_words config memory (base_of config (region_with config object_address) + object_address % region_words) ≡ marked_words config memory object_address = ap (marked_words config memory) (from_base region_words object_address (some_words config) (above_first object_address (to_copy.marked object_address (object_is index index_below)))) in
      let all_words : marked_words config memory object_address ≡ words_at memory object_address = cond-true (is_black config memory object_address) (words_at memory object_address) 0 (to_copy.marked object_address (object_is index index_below)) in
      omega (arith, same_count, words_known, same_marked, all_words)

  -- no object comes twice
  once : (index other_index : ℕ) → index < length objects → other_index < length objects → get_or objects index 0 - region_words ≡ get_or objects other_index 0 - region_words → index ≡ other_index
  once other_index second_index index_inside index_below same_place =
      let all_above : (index : ℕ) → index < length objects → region_words ≤ get_or objects index 0 = λ index index_less. above_first (get_or objects index 0) (to_copy.marked (get_or objects index 0) (object_is index index_less)) in
      let same_object : get_or objects other_index 0 ≡ get_or objects second_index 0 = (let first_above = all_above other_index index_inside in let second_above = all_above second_index index_below in omega (arith, same_place, first_above, second_above)) in
      ⊎_elim
      (λ (same_index : other_index ≡ second_index). same_index)
      (λ (indices_differ : (other_index < second_index) ⊎ (second_index < other_index)). ⊎_elim
      (λ (index_less : other_index < second_index). absurd (eqb-false (get_or objects other_index 0) (get_or objects second_index 0) (apart_from_distinct nat_eq objects other_index second_index 0 to_copy.once index_less index_below) same_object))
      (λ (index_more : second_index < other_index). absurd (eqb-false (get_or objects second_index 0) (get_or objects other_index 0) (apart_from_distinct nat_eq objects second_index other_index 0 to_copy.once index_more index_inside) (sym same_object)))
      indices_differ)
      (cases_order other_index second_index)

  -- all objects have together at most what lives in the set
  pub objects_live : sum_below asked (length objects) ≤ live_in config.regions (live_words config memory) cset
  objects_live =
      let sum_bound = sum_of_things asked by_address (length objects) (config.regions * region_words)
      (λ index index_below has_words. (get_or objects index 0 - region_words, (placed index index_below).below, counted_there index index_below))
      (λ index other_index inside _ index_below _ same_place. once index other_index inside index_below same_place) in
      omega (arith, sum_bound, all_addresses)

  module _ (copies_fit : live_in config.regions (live_words config memory) cset ≤ copy_limit config memory)
      (no_free_member : (free_region : ℕ) → IsIn (memory Free) free_region → IsIn cset free_region → ⊥) (empty : FreeAreEmpty config memory) where
    abbrev start : ℕ → ℕ
    start = tops_outside region_words cset (λ region. memory (Top region))

    -- a free region is outside the set, and so empty
    free_start : (region : ℕ) → region < config.regions → IsIn (memory Free) region → start region ≡ 0
    free_start region region_below is_free =
        cond-false (bit_at cset region == 1) region_words (memory (Top region)) (ne_eqb (bit_at cset region) 1 (λ member. no_free_member region is_free member)) ∙ empty region region_below is_free

    -- a region of the set has no room
    outside_if_room : (turn region n : ℕ) → 0 < n → tops_after_copies config memory cset objects turn region + n ≤ region_words → IsOutside cset region
    outside_if_room turn region n number_positive room_left = ⊎_elim
        (λ (region_in_set : bit_at cset region ≡ 1).
        let full_region : start region ≡ region_words = cond-true (bit_at cset region == 1) region_words (memory (Top region)) (eq-eqb (bit_at cset region) 1 region_in_set) in
        let least_served = served_least region_words config.regions asked start turn region in
        absurd (omega (arith, full_region, least_served, room_left, number_positive)))
        (λ (not_member : bit_at cset region ≢ 1). omega (arith, not_member, bit_at-lt cset region))
        (cases_eq (bit_at cset region) 1)

    found_or_not : (turn : ℕ) (found : Option ℕ) → room_at_turn region_words config.regions asked start turn ≡ found
        → (room_at_turn region_words config.regions asked start turn ≡ None → ⊥) → FindsRoom config memory cset objects turn
    found_or_not turn None room_tested not_none = absurd (not_none room_tested)
    found_or_not turn (Some region) room_tested not_none =
        let lowest = has_room region_words (tops_after_copies config memory cset objects turn) (asked turn) config.regions region room_tested in
        record {
          region = region;
          found = room_tested;
          below = lowest.below;
          outside = outside_if_room turn region (asked turn) (omega arith) lowest.room;
          room = lowest.room;
          none_lower = lowest.none_lower;
        }

    pub finds_room : (turn : ℕ) → turn < length objects → FindsRoom config memory cset objects turn
    finds_room turn turn_below =
        let range = config.in_range in
        let grown = sum_grows asked (suc turn) (length objects) (omega (arith, turn_below)) in
        let sum_within : sum_below asked turn + asked turn ≤ copy_limit config memory = omega (arith, grown, sum_next asked turn, objects_live, copies_fit) in
        found_or_not turn (room_at_turn region_words config.regions asked start turn) refl
        (some_room region_words config.regions asked start (memory Free) free_start turn (omega arith) (to_copy.short (get_or objects turn 0) (object_is turn turn_below)) (omega (arith, range.least_words)) sum_within)

-- what is chosen fits, and has no free region
pub room_is_found : RoomIsFound
room_is_found config memory objects empty to_copy turn turn_below =
    let front = front_is config.regions (copy_limit config memory) (live_words config memory) (is_candidate config memory) in
    let no_free_member : (region : ℕ) → IsIn (memory Free) region → IsIn (chosen config memory) region → ⊥ =
    λ region is_free region_chosen. (let candidate = (candidate_is_candidate config memory region).0 (front.candidates region region_chosen) in omega (arith, is_free, candidate.in_use)) in
    finds_room config memory (chosen config memory) objects to_copy front.fits no_free_member empty turn turn_below
