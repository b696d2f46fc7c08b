-- Objects that are copied out one after the other: each finds the room that it finds in numbers.
use Rattle.std.proofs.Common.{◌≡◌, ◌≢◌, ℕ, ◌+◌, ◌<◌, ◌≤◌, ◌⊎◌, ◌==◌, if◌then◌else◌, zero, suc, List, length, get_or, Some, refl, sym, ap, ◌∙◌, subst, ⊎_elim, arith}
use Rattle.std.specs.Prelude.{Contains}
use Rattle.std.specs.Int.{bit_at}
use Rattle.std.proofs.lemmas.Bool.{cases_eq, cond-true}
use Rattle.std.proofs.lemmas.List.Elements.{Contains-get_or}
use Rattle.heap_words.specs.declared.config.Config.{Config}
use Rattle.heap_words.specs.Words.{Word, Cset, Top, Heap}
use Rattle.heap_words.specs.Encoding.{object_words}
use Rattle.regions.specs.Places.{LieApart}
use Rattle.regions.specs.ServedRooms.{lowest_room, taken_in, room_at_turn}
use Rattle.regions.proofs.ServedRooms.{same_room, served_next, served_none, taken_here, taken_elsewhere}
use Rattle.regions.specs.Place.{region_with}
use Rattle.regions.specs.Sets.{IsIn, IsOutside}
use Rattle.cycle_words.specs.Marking.Marks.{is_black}
use Rattle.cycle_words.specs.Evacuation.Live.{words_at, marked_words}
use Rattle.cycle_words.specs.Evacuation.Choice.{chosen}
use Rattle.cycle_words.specs.Evacuation.Copying.{tops_outside, AreToCopy, words_by_turn, tops_after_copies, FindsRoom}
use Rattle.cycle_words.specs.Evacuation.Copied.{copy_room, top_address, copied_out, copied_by, IsCopiedOut}
use Rattle.cycle_words.specs.Evacuation.Begun.{FreeAreEmpty}
use Rattle.cycle_words.specs.Evacuation.Laws.{EachIsCopied}
use Rattle.cycle_words.proofs.Evacuation.RegionAddresses.{of_its_region, regions_apart}
use Rattle.cycle_words.proofs.Evacuation.Fits.{above_first, room_is_found}
use Rattle.cycle_words.proofs.Evacuation.CopiedOut.{own_top, copying_copies}

module _ (config : Config) (memory : Word → ℕ) (objects : List ℕ) (empty : FreeAreEmpty config memory) (lie_apart : LieApart config.region_words (marked_words config memory))
    (set_is : memory Cset ≡ chosen config memory) (to_copy : AreToCopy config memory (chosen config memory) objects) where
  abbrev region_words : ℕ
  region_words = config.region_words

  abbrev set : ℕ
  set = chosen config memory

  abbrev now : ℕ → Word → ℕ
  now = copied_by config memory objects

  abbrev asked : ℕ → ℕ
  asked = words_by_turn memory objects

  abbrev start : ℕ → ℕ
  start = tops_outside region_words set (λ region. memory (Top region))

  now_next : (index : ℕ) → now (suc index) ≡ copied_out config (now index) (get_or objects index 0)
  unfolding copied_by
  now_next index = refl

  now_first : now 0 ≡ memory
  unfolding copied_by
  now_first = refl

  -- How the words are after so many turns: the tops are those of the numbers, and the words of the objects, headers aside,
  -- are as before.
  record AreAt (index : ℕ) (turn_memory : Word → ℕ) : Type 0 where
    same_set : turn_memory Cset ≡ set
    tops : (any_region : ℕ) → tops_outside region_words set (λ region. turn_memory (Top region)) any_region ≡ tops_after_copies config memory set objects index any_region
    words : (address offset : ℕ) → Contains objects address → 0 < offset → offset < words_at memory address → turn_memory (Heap (address + offset)) ≡ memory (Heap (address + offset))

  at_first : AreAt 0 (now 0)
  at_first = subst (AreAt 0) (sym now_first) (record { same_set = set_is; tops = λ region. sym (served_none region_words config.regions asked start region); words = λ address offset _ _ _. refl })

  -- what is known of each object
  first_is : (object : ℕ) → Contains objects object → region_words ≤ object
  first_is object object_listed = above_first config memory set objects to_copy object (to_copy.marked object object_listed)

  all_marked : (object : ℕ) → Contains objects object → marked_words config memory object ≡ words_at memory object
  all_marked object object_listed = cond-true (is_black config memory object) (words_at memory object) 0 (to_copy.marked object object_listed)

  -- no word of an object but its first is where another object begins
  never_begins : (object later_object offset : ℕ) → Contains objects object → Contains objects later_object → 0 < offset → offset < words_at memory object → object + offset ≢ later_object
  never_begins object later_object offset has_a has_b offset_positive offset_inside same_address =
      let size = all_marked object has_a in
      let second_size = all_marked later_object has_b in
      let first_marked : 0 < marked_words config memory object = omega (arith, size) in
      let second_marked : 0 < marked_words config memory later_object = omega (arith, second_size) in
      let objects_apart = lie_apart.apart object later_object first_marked second_marked (omega (arith, same_address, offset_positive)) in
      omega (arith, objects_apart, size, same_address, offset_inside)

  module _ (index : ℕ) (turn_memory : Word → ℕ) (index_inside : index < length objects) (at_index : AreAt index turn_memory) where
    abbrev o : ℕ
    o = get_or objects index 0

    has : Contains objects o
    has = Contains-get_or objects index 0 index_inside

    turn : FindsRoom config memory set objects index
    turn = room_is_found config memory objects empty to_copy index index_inside

    same_size : words_at turn_memory o ≡ words_at memory o
    same_size = ap object_words (at_index.words o 1 has (omega arith) (omega arith))

    -- the region by words is the region by numbers
    same_region : copy_room config turn_memory o ≡ room_at_turn region_words config.regions asked start index
    same_region =
        ap (λ set. lowest_room region_words (tops_outside region_words set (λ region. turn_memory (Top region))) (words_at turn_memory o) config.regions) at_index.same_set
        ∙ ap (λ words. lowest_room region_words (tops_outside region_words set (λ region. turn_memory (Top region))) words config.regions) same_size
        ∙ same_room region_words (tops_outside region_words set (λ region. turn_memory (Top region))) (tops_after_copies config memory set objects index) (asked index) config.regions (λ asked_region _. at_index.tops asked_region)

    copied : IsCopiedOut config turn_memory (copied_out config turn_memory o) o
    copied = copying_copies config turn_memory o turn.region (first_is o has) (subst (λ some_set. IsIn some_set (region_with config o)) (sym at_index.same_set) (to_copy.in_set o has)) (same_region ∙ turn.found)

    found_here : room_at_turn region_words config.regions asked start index ≡ Some copied.region
    found_here = sym same_region ∙ copied.found

    outside : IsOutside set copied.region
    outside = ap (λ some_set. bit_at some_set copied.region) (sym at_index.same_set) ∙ copied.outside

    -- the tops in numbers at the next turn
    next_top : (asked_region : ℕ) → tops_after_copies config memory set objects (suc index) asked_region ≡ taken_in (tops_after_copies config memory set objects index) (asked index) (Some copied.region) asked_region
    next_top asked_region = served_next region_words config.regions asked start index asked_region ∙ ap (λ found. taken_in (tops_after_copies config memory set objects index) (asked index) found asked_region) found_here

    top_here : tops_outside region_words set (λ region. copied_out config turn_memory o (Top region)) copied.region ≡ tops_after_copies config memory set objects (suc index) copied.region
    top_here =
        own_top region_words set (λ region. copied_out config turn_memory o (Top region)) copied.region outside
        ∙ copied.copied.top
        ∙ ap (λ top. top + words_at turn_memory o) (sym (own_top region_words set (λ region. turn_memory (Top region)) copied.region outside) ∙ at_index.tops copied.region)
        ∙ ap (λ size. tops_after_copies config memory set objects index copied.region + size) same_size
        ∙ sym (taken_here (tops_after_copies config memory set objects index) (asked index) copied.region)
        ∙ sym (next_top copied.region)

    top_elsewhere : (asked_region : ℕ) → asked_region ≢ copied.region → tops_outside region_words set (λ region. copied_out config turn_memory o (Top region)) asked_region ≡ tops_after_copies config memory set objects (suc index) asked_region
    top_elsewhere asked_region other_region =
        ap (λ top. if bit_at set asked_region == 1 then region_words else top) (copied.copied.other_tops asked_region other_region)
        ∙ at_index.tops asked_region
        ∙ sym (taken_elsewhere (tops_after_copies config memory set objects index) (asked index) copied.region asked_region other_region)
        ∙ sym (next_top asked_region)

    -- the words of objects lie in regions of the set, where nothing is copied to
    never_overwritten : (address offset : ℕ) → Contains objects address → offset < words_at memory address
        → (address + offset < top_address config turn_memory copied.region) ⊎ (top_address config turn_memory copied.region + words_at turn_memory o ≤ address + offset)
    never_overwritten address offset has_a offset_below =
        let size = all_marked address has_a in
        let words_within = lie_apart.within address (omega (arith, size)) in
        let differ : region_with config address ≢ copied.region = λ same_region. (let region_in_set : bit_at set copied.region ≡ 1 = subst (IsIn set) same_region (to_copy.in_set address has_a) in omega (arith, region_in_set, outside)) in
        regions_apart config (region_with config address) copied.region (address + offset) (top_address config turn_memory copied.region) (words_at turn_memory o) differ
        (of_its_region config address offset (first_is address has_a) (omega (arith, words_within, size, offset_below))) (omega arith) (omega (arith, copied.room))

    at_next : AreAt (suc index) (copied_out config turn_memory o)
    at_next = record {
      same_set = copied.copied.others Cset (λ never. never) ∙ at_index.same_set;
      tops = λ asked_region. ⊎_elim
          (λ (copied_to : asked_region ≡ copied.region). subst (λ that_region. tops_outside region_words set (λ region. copied_out config turn_memory o (Top region)) that_region ≡ tops_after_copies config memory set objects (suc index) that_region) (sym copied_to) top_here)
          (λ (other_region : asked_region ≢ copied.region). top_elsewhere asked_region other_region)
          (cases_eq asked_region copied.region);
      words = λ object offset has_a positive offset_below.
          copied.copied.elsewhere (object + offset) (never_begins object o offset has_a has positive offset_below) (never_overwritten object offset has_a offset_below) ∙ at_index.words object offset has_a positive offset_below;
    }

  at_turn : (index : ℕ) → index ≤ length objects → AreAt index (now index)
  at_turn zero turn_inside = at_first
  at_turn (suc index) turn_inside =
      let index_inside : index < length objects = omega (arith, turn_inside) in
      subst (AreAt (suc index)) (sym (now_next index)) (at_next index (now index) index_inside (at_turn index (omega (arith, turn_inside))))

  pub copied_at_turn : (index : ℕ) → index < length objects → IsCopiedOut config (now index) (now (index + 1)) (get_or objects index 0)
  copied_at_turn index index_inside =
      let next_index : suc index ≡ index + 1 = omega arith in
      let copied_next = subst (λ after. IsCopiedOut config (now index) after (get_or objects index 0)) (sym (now_next index)) (copied index (now index) index_inside (at_turn index (omega (arith, index_inside)))) in
      subst (λ turn. IsCopiedOut config (now index) (now turn) (get_or objects index 0)) next_index copied_next

pub each_is_copied : EachIsCopied
each_is_copied config memory objects empty lie_apart set_is to_copy turn turn_inside = copied_at_turn config memory objects empty lie_apart set_is to_copy turn turn_inside
