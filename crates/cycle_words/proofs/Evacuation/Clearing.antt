-- Roots and answers are cleared one after the other.
use Rattle.std.proofs.Common.{length-append, ◌≡◌, ◌≢◌, ℕ, ◌+◌, ◌^◌, ◌%◌, ◌<◌, ◌≤◌, ◌⊎◌, ◌==◌, ◌&&◌, if◌then◌else◌, nat_le, nat_eq, true, false, suc, List, [], ◌∷◌, ◌++◌, length, get_or, None, inl, inr, refl, sym, ap, ◌∙◌, subst, ⊎_elim, arith}
use Rattle.std.specs.Prelude.{Contains}
use Rattle.std.specs.List.{IsDistinct, list_any}
use Rattle.std.specs.Int.{bit_at}
use Rattle.std.proofs.Math.Path.{fun_ext}
use Rattle.std.proofs.lemmas.Bool.{cases_eq, cases_Bool, cond-true, cond-false, eq-eqb, eqb-true, leb-true, le-leb, and_parts, and_from, both_ways, false_from_ne_true}
use Rattle.std.proofs.lemmas.Option.{none-some}
use Rattle.std.proofs.lemmas.Nat.{mod_below}
use Rattle.std.proofs.lemmas.List.{get_or_push}
use Rattle.std.proofs.lemmas.List.Elements.{Contains-push_cases, Contains-push, Contains-append_left}
use Rattle.std.proofs.lemmas.Map.Keys.{IsDistinct-push}
use Rattle.std.proofs.lemmas.Map.Views.{Contains-from_any, exact_unsigned_eq}
use Rattle.std.proofs.lemmas.Cmp.{nat_eq_equiv}
use Rattle.heap_words.specs.declared.config.Config.{Config}
use Rattle.heap_words.specs.Words.{Word, Cset, Top, Black, Heap, same_word}
use Rattle.heap_words.specs.Encoding.{header_word, is_forwarded, object_words}
use Rattle.heap_words.proofs.Stores.{same_word_refl, same_word_true}
use Rattle.regions.specs.Places.{LieApart}
use Rattle.regions.specs.Place.{region_with, IsOf}
use Rattle.regions.specs.Sets.{IsIn, IsOutside}
use Rattle.regions.proofs.PlaceLemmas.{regions_tile}
use Rattle.image_graph.specs.Full.{now_in}
use Rattle.image_graph.specs.Make.{AreWithin}
use Rattle.regions.specs.Marks.{mark_word, mark_bit}
use Rattle.cycle_words.specs.Marking.Marks.{is_black}
use Rattle.cycle_words.specs.Evacuation.Live.{words_at, marked_words, live_words, is_candidate}
use Rattle.cycle_words.specs.Evacuation.Choice.{chosen, copy_limit}
use Rattle.cycle_words.specs.Evacuation.Copying.{AreToCopy}
use Rattle.cycle_words.specs.Evacuation.Copied.{CanCopyOut, copy_room, top_address, copied_out, copied_by, IsCopiedOut}
use Rattle.cycle_words.specs.Evacuation.Begun.{FreeAreEmpty, CanBegin, CanClear, CanClearInTurn, naming_places, IsNaming, is_collected, moved_out, cleared_at, cleared_in_turn, with_set, roots_cleared, IsCopyable, AreCleared}
use Rattle.cycle_words.specs.Evacuation.Laws.{RootsAreCleared}
use Rattle.cycle_words.proofs.Evacuation.RegionAddresses.{some_words, of_its_region, regions_apart}
use Rattle.cycle_words.proofs.Evacuation.Front.{front_is}
use Rattle.cycle_words.proofs.Evacuation.Fits.{above_first}
use Rattle.cycle_words.proofs.Evacuation.CopiedInTurn.{each_is_copied}
use Rattle.cycle_words.proofs.Evacuation.Naming.{not_same, copied_naming, first_or_later, is_later, is_first, places_name, set_apart}
use Rattle.image_graph.proofs.Carried.{now_same}
use Rattle.cycle_words.proofs.Evacuation.Copies.{header_forwarded, now_is, not_collected, same_copy_room, same_copied_out, copied_front, copied_next}

none_distinct : IsDistinct nat_eq []
unfolding IsDistinct
none_distinct = tt

nothing_in_none : (object : ℕ) → Contains [] object → ⊥
nothing_in_none object object_listed = omega (arith, object_listed.1)

module _ (config : Config) (before : Word → ℕ) (empty : FreeAreEmpty config before) (lie_apart : LieApart config.region_words (marked_words config before)) (set_is : before Cset ≡ chosen config before)
    (words_within : AreWithin config before) (unmoved : (a : ℕ) → is_black config before a ≡ true → is_forwarded (before (Heap a)) ≡ false)
    (copyable : (place : Word) → Contains (naming_places config) place → is_collected config before (before place) ≡ true → IsCopyable config before (before place)) where
  -- What holds after some places were cleared, for which these objects were copied out.
  record IsSoFar (memory : Word → ℕ) (objects : List ℕ) : Type 0 where
    to_copy : AreToCopy config before (before Cset) objects
    only : (a : ℕ) → Contains objects a → (place : Word) × Contains (naming_places config) place × (before place ≡ a)
    same_set : memory Cset ≡ before Cset
    within_now : AreWithin config memory
    sized : (address : ℕ) → is_black config before address ≡ true → IsIn (before Cset) (region_with config address) → words_at memory address ≡ words_at before address
    same : (word : Word) → (IsNaming word → ⊥) → memory word ≡ copied_by config before objects (length objects) word
    named : (place : Word) → IsNaming place → (memory place ≡ before place) ⊎ (Contains objects (before place) × (memory place ≡ now_in memory (before place)))
    moved : (a : ℕ) → Contains objects a → is_forwarded (memory (Heap a)) ≡ true
    away : (a : ℕ) → Contains objects a → is_collected config before (now_in memory a) ≡ false
    left : (a : ℕ) → is_black config before a ≡ true → IsIn (before Cset) (region_with config a) → is_forwarded (memory (Heap a)) ≡ true → Contains objects a

  -- what is marked is of the heap, and is counted
  black_above : (address : ℕ) → is_black config before address ≡ true → config.region_words ≤ address
  black_above address address_black = leb-true config.region_words address (and_parts (nat_le config.region_words address) (bit_at (before (Black (mark_word config address))) (mark_bit config address) == 1) address_black).0

  all_black : (address : ℕ) → is_black config before address ≡ true → marked_words config before address ≡ words_at before address
  all_black address address_black = cond-true (is_black config before address) (words_at before address) 0 address_black

  -- One more object is copied.
  module _ (memory : Word → ℕ) (objects : List ℕ) (so_far : IsSoFar memory objects) (copied_object : ℕ) (object_above : config.region_words ≤ copied_object) (object_in_set : IsIn (before Cset) (region_with config copied_object))
      (can_copy : IsCopyable config before copied_object) (place : Word) (place_named : Contains (naming_places config) place) (place_names : before place ≡ copied_object) (not_forwarded : is_forwarded (memory (Heap copied_object)) ≡ false) where
    abbrev more : List ℕ
    more = objects ++ copied_object ∷ []

    abbrev now : Word → ℕ
    now = copied_out config memory copied_object

    abbrev by : Word → ℕ
    by = copied_by config before objects (length objects)

    not_yet : Contains objects copied_object → ⊥
    not_yet already_copied = both_ways (is_forwarded (memory (Heap copied_object))) not_forwarded (so_far.moved copied_object already_copied)

    -- what holds of the objects so far and of this one holds of all
    each_more : (P : ℕ → Type 0) → ((some_object : ℕ) → Contains objects some_object → P some_object) → P copied_object → (some_object : ℕ) → Contains more some_object → P some_object
    each_more P old new some_object object_listed = ⊎_elim
        (λ (earlier : Contains objects some_object). old some_object earlier)
        (λ (the_last : copied_object ≡ some_object). subst P the_last new)
        (Contains-push_cases objects copied_object some_object object_listed)

    more_to_copy : AreToCopy config before (before Cset) more
    more_to_copy = record {
      once = IsDistinct-push nat_eq_equiv objects copied_object so_far.to_copy.once (false_from_ne_true (list_any (nat_eq copied_object) objects) (λ any. not_yet (Contains-from_any exact_unsigned_eq copied_object objects any)));
      marked = each_more (λ address. is_black config before address ≡ true) so_far.to_copy.marked can_copy.marked;
      of_region = each_more (λ address. region_with config address < config.regions) so_far.to_copy.of_region can_copy.of_region;
      in_set = each_more (λ address. IsIn (before Cset) (region_with config address)) so_far.to_copy.in_set object_in_set;
      short = each_more (λ address. words_at before address ≤ 35) so_far.to_copy.short can_copy.short;
    }

    longer : length more ≡ suc (length objects)
    longer = let sum = length-append objects (copied_object ∷ []) in omega (arith, sum)

    by_next : copied_by config before more (suc (length objects)) ≡ copied_out config by copied_object
    by_next =
        copied_next config before more (length objects)
        ∙ ap (λ some_memory. copied_out config some_memory (get_or more (length objects) 0)) (copied_front config before objects (copied_object ∷ []) (length objects) (omega arith))
        ∙ ap (copied_out config by) (get_or_push objects copied_object 0 (length objects) refl)

    copied : IsCopiedOut config by (copied_out config by copied_object) copied_object
    copied =
        let same_count : suc (length objects) ≡ length objects + 1 = omega arith in
        let copied_then = each_is_copied config before more empty lie_apart set_is (subst (λ set. AreToCopy config before set more) set_is more_to_copy) (length objects) (omega (arith, longer)) in
        let copied_at_front = subst (λ some_memory. IsCopiedOut config some_memory (copied_by config before more (length objects + 1)) (get_or more (length objects) 0)) (copied_front config before objects (copied_object ∷ []) (length objects) (omega arith)) copied_then in
        let second_copied = subst (λ address. IsCopiedOut config by (copied_by config before more (length objects + 1)) address) (get_or_push objects copied_object 0 (length objects) refl) copied_at_front in
        subst (λ some_memory. IsCopiedOut config by some_memory copied_object) (ap (copied_by config before more) (sym same_count) ∙ by_next) second_copied

    -- words that name nothing are as copying leaves them
    now_by : (word : Word) → (IsNaming word → ⊥) → now word ≡ copied_out config by copied_object word
    now_by word names_nothing = same_copied_out config memory by copied_object so_far.same word names_nothing

    -- words of the regions of the set stay, but for the header of the object that is copied
    stays_in_set : (address offset : ℕ) → config.region_words ≤ address → IsIn (before Cset) (region_with config address) → address % config.region_words + offset < config.region_words → address + offset ≢ copied_object → now (Heap (address + offset)) ≡ memory (Heap (address + offset))
    stays_in_set address offset at_most region_in_set offset_inside other_word =
        let differ : region_with config address ≢ copied.region = λ same_region.
        (let member_there : bit_at (before Cset) copied.region ≡ 1 = subst (IsIn (before Cset)) same_region region_in_set in
        let set_now : by Cset ≡ before Cset = sym (so_far.same Cset (λ never. never)) ∙ so_far.same_set in
        let outside : bit_at (before Cset) copied.region ≡ 0 = ap (λ set. bit_at set copied.region) (sym set_now) ∙ copied.outside in
        omega (arith, member_there, outside)) in
        let regions_differ = regions_apart config (region_with config address) copied.region (address + offset) (top_address config by copied.region) (words_at by copied_object) differ
        (of_its_region config address offset at_most offset_inside) (omega arith) (omega (arith, copied.room)) in
        now_by (Heap (address + offset)) (λ never. never) ∙ copied.copied.elsewhere (address + offset) other_word regions_differ ∙ sym (so_far.same (Heap (address + offset)) (λ never. never))

    -- headers of other objects of the set stay
    header_stays : (address : ℕ) → config.region_words ≤ address → IsIn (before Cset) (region_with config address) → address ≢ copied_object → now (Heap address) ≡ memory (Heap address)
    header_stays address at_most region_in_set other_object =
        let plain_sum : address + 0 ≡ address = omega arith in
        subst (λ address. now (Heap address) ≡ memory (Heap address)) plain_sum
        (stays_in_set address 0 at_most region_in_set (omega (arith, mod_below address config.region_words (some_words config))) (λ same_object. other_object (sym plain_sum ∙ same_object)))

    -- and so do the shapes of all marked ones
    shape_stays : (address : ℕ) → is_black config before address ≡ true → IsIn (before Cset) (region_with config address) → now (Heap (address + 1)) ≡ memory (Heap (address + 1))
    shape_stays address address_black region_in_set =
        let all_marked = all_black address address_black in
        let all_here = all_black copied_object can_copy.marked in
        let words_inside = lie_apart.within address (omega (arith, all_marked)) in
        stays_in_set address 1 (black_above address address_black) region_in_set (omega (arith, words_inside, all_marked))
        (λ next_word. (let objects_apart = lie_apart.apart address copied_object (omega (arith, all_marked)) (omega (arith, all_here)) (omega (arith, next_word)) in omega (arith, objects_apart, all_marked, next_word)))

    -- no region uses more words than it has
    within_after : AreWithin config now
    within_after asked_region region_below = ⊎_elim
        (λ (copied_to : asked_region ≡ copied.region).
        let grown = now_by (Top copied.region) (λ never. never) ∙ copied.copied.top in
        let same_top : now (Top asked_region) ≡ now (Top copied.region) = ap (λ region. now (Top region)) copied_to in
        omega (arith, grown, same_top, copied.room))
        (λ (other_region : asked_region ≢ copied.region).
        let unchanged_top = now_by (Top asked_region) (λ never. never) ∙ copied.copied.other_tops asked_region other_region ∙ sym (so_far.same (Top asked_region) (λ never. never)) in
        omega (arith, unchanged_top, so_far.within_now asked_region region_below))
        (cases_eq asked_region copied.region)

    object_stays : (address : ℕ) → Contains objects address → now (Heap address) ≡ memory (Heap address)
    object_stays address object_listed =
        header_stays address (above_first config before (before Cset) objects so_far.to_copy address (so_far.to_copy.marked address object_listed)) (so_far.to_copy.in_set address object_listed)
        (λ same_object. not_yet (subst (Contains objects) same_object object_listed))

    new_header : now (Heap copied_object) ≡ header_word (top_address config by copied.region)
    new_header = now_by (Heap copied_object) (λ never. never) ∙ copied.copied.forwarded

    new_away : is_collected config before (now_in now copied_object) ≡ false
    new_away =
        let copy = top_address config by copied.region in
        let set_now : by Cset ≡ before Cset = sym (so_far.same Cset (λ never. never)) ∙ so_far.same_set in
        let copy_region : IsOf config copied.region copy = record { from = omega arith; before = omega (arith, copied.room) } in
        let region_is = regions_tile.of_no_other config copied.region copy copy_region in
        let outside : IsOutside (before Cset) (region_with config copy) = ap (λ set. bit_at set (region_with config copy)) (sym set_now) ∙ ap (bit_at (by Cset)) region_is ∙ copied.outside in
        ap (is_collected config before) (now_is now copied_object copy new_header) ∙ not_collected config before copy outside

    naming_same : (word : Word) → IsNaming word → now word ≡ memory word
    naming_same word naming = copied_naming config memory copied_object (copy_room config memory copied_object) word naming

    one_more : IsSoFar now more
    one_more = record {
      to_copy = more_to_copy;
      only = each_more (λ object. (some_place : Word) × Contains (naming_places config) some_place × (before some_place ≡ object)) so_far.only (place, place_named, place_names);
      same_set = now_by Cset (λ never. never) ∙ copied.copied.others Cset (λ never. never) ∙ sym (so_far.same Cset (λ never. never)) ∙ so_far.same_set;
      within_now = within_after;
      sized = λ address address_black region_in_set. ap object_words (shape_stays address address_black region_in_set) ∙ so_far.sized address address_black region_in_set;
      same = λ word other_object. now_by word other_object ∙ ap (λ (memory : Word → ℕ). memory word) (sym by_next) ∙ ap (λ turns. copied_by config before more turns word) (sym longer);
      named = λ word naming. ⊎_elim
          (λ (old : memory word ≡ before word). inl (naming_same word naming ∙ old))
          (λ (new : Contains objects (before word) × (memory word ≡ now_in memory (before word))).
          inr (Contains-append_left objects (copied_object ∷ []) (before word) new.0, naming_same word naming ∙ new.1 ∙ sym (now_same now memory (before word) (object_stays (before word) new.0))))
          (so_far.named word naming);
      moved = each_more (λ address. is_forwarded (now (Heap address)) ≡ true) (λ address object_listed. ap is_forwarded (object_stays address object_listed) ∙ so_far.moved address object_listed) (ap is_forwarded new_header ∙ header_forwarded (top_address config by copied.region));
      away = each_more (λ object. is_collected config before (now_in now object) ≡ false) (λ address object_listed. ap (is_collected config before) (now_same now memory address (object_stays address object_listed)) ∙ so_far.away address object_listed) new_away;
      left = λ address address_black region_in_set object_forwarded. ⊎_elim
          (λ (same_object : address ≡ copied_object). subst (Contains more) (sym same_object) (Contains-push objects copied_object))
          (λ (other_object : address ≢ copied_object). Contains-append_left objects (copied_object ∷ []) address (so_far.left address address_black region_in_set (ap is_forwarded (sym (header_stays address (black_above address address_black) region_in_set other_object)) ∙ object_forwarded)))
          (cases_eq address copied_object);
    }

  -- A place that named an object of the set names the copy.
  module _ (memory : Word → ℕ) (objects : List ℕ) (so_far : IsSoFar memory objects) (place : Word) (naming : IsNaming place) (object_listed : Contains objects (before place)) where
    abbrev renamed : Word → ℕ
    renamed word = if same_word place word then now_in memory (before place) else memory word

    renamed_other : (word : Word) → (IsNaming word → ⊥) → renamed word ≡ memory word
    renamed_other word names_nothing = cond-false (same_word place word) (now_in memory (before place)) (memory word) (not_same place word naming names_nothing)

    renamed_here : renamed place ≡ now_in memory (before place)
    renamed_here = cond-true (same_word place place) (now_in memory (before place)) (memory place) (same_word_refl place)

    renamed_now : (address : ℕ) → now_in renamed address ≡ now_in memory address
    renamed_now address = now_same renamed memory address (renamed_other (Heap address) (λ never. never))

    renamed_so_far : IsSoFar renamed objects
    renamed_so_far = record {
      to_copy = so_far.to_copy;
      only = so_far.only;
      same_set = renamed_other Cset (λ never. never) ∙ so_far.same_set;
      within_now = λ region region_below. (let same_top = renamed_other (Top region) (λ never. never) in omega (arith, same_top, so_far.within_now region region_below));
      sized = λ object black in_set. ap object_words (renamed_other (Heap (object + 1)) (λ never. never)) ∙ so_far.sized object black in_set;
      same = λ word other_place. renamed_other word other_place ∙ so_far.same word other_place;
      named = λ some_place place_names. ⊎_elim
          (λ (renamed_place : same_word place some_place ≡ true).
          let same_place : place ≡ some_place = same_word_true place some_place renamed_place in
          inr (subst (λ asked_place. Contains objects (before asked_place)) same_place object_listed, subst (λ asked_place. renamed asked_place ≡ now_in renamed (before asked_place)) same_place (renamed_here ∙ sym (renamed_now (before place)))))
          (λ (other_place : same_word place some_place ≡ false).
          let place_stays : renamed some_place ≡ memory some_place = cond-false (same_word place some_place) (now_in memory (before place)) (memory some_place) other_place in
          ⊎_elim
          (λ (old : memory some_place ≡ before some_place). inl (place_stays ∙ old))
          (λ (new : Contains objects (before some_place) × (memory some_place ≡ now_in memory (before some_place))). inr (new.0, place_stays ∙ new.1 ∙ sym (renamed_now (before some_place))))
          (so_far.named some_place place_names))
          (cases_Bool (same_word place some_place));
      moved = λ address in_list. ap is_forwarded (renamed_other (Heap address) (λ never. never)) ∙ so_far.moved address in_list;
      away = λ address in_list. ap (is_collected config before) (renamed_now address) ∙ so_far.away address in_list;
      left = λ address black in_set forwarded. so_far.left address black in_set (ap is_forwarded (sym (renamed_other (Heap address) (λ never. never))) ∙ forwarded);
    }

  -- One place is cleared.
  record IsCleared (memory next : Word → ℕ) (place : Word) (objects : List ℕ) : Type 0 where
    so_far : IsSoFar next objects
    here : is_collected config before (next place) ≡ false
    stays : (word : Word) → IsNaming word → is_collected config before (memory word) ≡ false → is_collected config before (next word) ≡ false

  -- an object of the set was copied out, in this turn or before
  record IsMoved (memory next : Word → ℕ) (a : ℕ) (objects : List ℕ) : Type 0 where
    so_far : IsSoFar next objects
    has : Contains objects a
    naming_same : (word : Word) → IsNaming word → next word ≡ memory word

  module _ (memory : Word → ℕ) (objects : List ℕ) (so_far : IsSoFar memory objects) where
    collected_same : (address : ℕ) → is_collected config memory address ≡ is_collected config before address
    collected_same address = ap (λ set. nat_le config.region_words address && (bit_at set (region_with config address) == 1)) so_far.same_set

    module _ (place : Word) (place_named : Contains (naming_places config) place) where
      naming : IsNaming place
      naming = places_name config place place_named

      -- the words once what an address names was copied and the place names the copy
      abbrev clear_of : ℕ → Word → ℕ
      clear_of object word = if same_word place word then now_in (moved_out config memory object) object else moved_out config memory object word

      moved_by : is_collected config before (before place) ≡ true → (new_objects : List ℕ) × IsMoved memory (moved_out config memory (before place)) (before place) new_objects
      moved_by place_collected =
          let object = before place in
          let collected_parts = and_parts (nat_le config.region_words object) (bit_at (before Cset) (region_with config object) == 1) place_collected in
          let object_above = leb-true config.region_words object collected_parts.0 in
          let region_in_set = eqb-true (bit_at (before Cset) (region_with config object)) 1 collected_parts.1 in
          let can_copy = copyable place place_named place_collected in
          ⊎_elim
          (λ (was_forwarded : is_forwarded (memory (Heap object)) ≡ true).
          let same_words : moved_out config memory object ≡ memory = fun_ext (λ word. cond-true (is_forwarded (memory (Heap object))) (memory word) (copied_out config memory object word) was_forwarded) in
          (objects, subst (λ next_memory. IsMoved memory next_memory object objects) (sym same_words) (record { so_far = so_far; has = so_far.left object can_copy.marked region_in_set was_forwarded; naming_same = λ naming_place _. refl })))
          (λ (not_forwarded : is_forwarded (memory (Heap object)) ≡ false).
          let same_words : moved_out config memory object ≡ copied_out config memory object = fun_ext (λ word. cond-false (is_forwarded (memory (Heap object))) (memory word) (copied_out config memory object word) not_forwarded) in (
            objects ++ object ∷ [],
            subst (λ next_memory. IsMoved memory next_memory object (objects ++ object ∷ [])) (sym same_words) (record {
              so_far = one_more memory objects so_far object object_above region_in_set can_copy place place_named refl not_forwarded;
              has = Contains-push objects object;
              naming_same = naming_same memory objects so_far object object_above region_in_set can_copy place place_named refl not_forwarded;
            }),
          ))
          (cases_Bool (is_forwarded (memory (Heap object))))

      -- the place named something in the set
      cleared_by : is_collected config before (before place) ≡ true → (new_objects : List ℕ) × IsCleared memory (clear_of (before place)) place new_objects
      cleared_by place_collected =
          let move_found = moved_by place_collected in
          let words_out = moved_out config memory (before place) in
          let moved_out_of = move_found.1 in
          let place_cleared : is_collected config before (clear_of (before place) place) ≡ false =
          ap (is_collected config before) (renamed_here words_out move_found.0 moved_out_of.so_far place naming moved_out_of.has) ∙ moved_out_of.so_far.away (before place) moved_out_of.has in (
            move_found.0,
            record {
              so_far = renamed_so_far words_out move_found.0 moved_out_of.so_far place naming moved_out_of.has;
              here = place_cleared;
              stays = λ some_place place_names was_outside. ⊎_elim
                  (λ (same_place : same_word place some_place ≡ true). subst (λ asked_place. is_collected config before (clear_of (before place) asked_place) ≡ false) (same_word_true place some_place same_place) place_cleared)
                  (λ (other_place : same_word place some_place ≡ false).
                  ap (is_collected config before) (cond-false (same_word place some_place) (now_in words_out (before place)) (words_out some_place) other_place ∙ moved_out_of.naming_same some_place place_names) ∙ was_outside)
                  (cases_Bool (same_word place some_place));
            },
          )

      -- what a place names in the set it named at first
      named_at_first : is_collected config memory (memory place) ≡ true → memory place ≡ before place
      named_at_first place_collected = ⊎_elim
          (λ (same_name : memory place ≡ before place). same_name)
          (λ (new : Contains objects (before place) × (memory place ≡ now_in memory (before place))).
          absurd (both_ways (is_collected config before (memory place)) (ap (is_collected config before) new.1 ∙ so_far.away (before place) new.0)
          (sym (collected_same (memory place)) ∙ place_collected)))
          (so_far.named place naming)

      -- so it can be cleared
      module _ (place_collected : is_collected config memory (memory place) ≡ true) (not_forwarded : is_forwarded (memory (Heap (memory place))) ≡ false) where
        abbrev a : ℕ
        a = memory place

        in_set : is_collected config before a ≡ true
        in_set = sym (collected_same a) ∙ place_collected

        above : config.region_words ≤ a
        above = leb-true config.region_words a (and_parts (nat_le config.region_words a) (bit_at (before Cset) (region_with config a) == 1) in_set).0

        member : IsIn (before Cset) (region_with config a)
        member = eqb-true (bit_at (before Cset) (region_with config a)) 1 (and_parts (nat_le config.region_words a) (bit_at (before Cset) (region_with config a) == 1) in_set).1

        can : IsCopyable config before a
        can =
            let old = named_at_first place_collected in
            subst (IsCopyable config before) (sym old) (copyable place place_named (ap (is_collected config before) (sym old) ∙ in_set))

        can_copy_out : CanCopyOut config memory a
        can_copy_out =
            let all_marked = all_black a can.marked in
            let words_inside = lie_apart.within a (omega (arith, all_marked)) in
            record {
              above = above;
              of_region = can.of_region;
              in_set = subst (λ set. IsIn set (region_with config a)) (sym so_far.same_set) member;
              lies = omega (arith, words_inside, all_marked, so_far.sized a can.marked member);
              tops = so_far.within_now;
            }

        has_room : copy_room config memory a ≢ None
        has_room no_room =
            let copy_found = copied memory objects so_far a above member can place place_named (sym (named_at_first place_collected)) not_forwarded in
            none-some copy_found.region (sym no_room ∙ same_copy_room config memory (copied_by config before objects (length objects)) a so_far.same ∙ copy_found.found)

      can_clear : before Cset < 2 ^ config.regions → CanClear config memory (memory place)
      can_clear set_small = record {
        set = subst (λ set. set < 2 ^ config.regions) (sym so_far.same_set) set_small;
        object = can_copy_out;
        room = has_room;
      }

      clears : (words_after : Word → ℕ) → (is_collected config memory (memory place) ≡ false → words_after ≡ memory) → (is_collected config memory (memory place) ≡ true → words_after ≡ clear_of (memory place))
          → (new_objects : List ℕ) × IsCleared memory words_after place new_objects
      clears words_after spared words_cleared = ⊎_elim
          (λ (place_collected : is_collected config memory (memory place) ≡ true).
          let was_collected : is_collected config before (memory place) ≡ true = sym (collected_same (memory place)) ∙ place_collected in
          let old = named_at_first place_collected in
          let result = cleared_by (ap (is_collected config before) (sym old) ∙ was_collected) in
          (result.0, subst (λ next_memory. IsCleared memory next_memory place result.0) (sym (words_cleared place_collected ∙ ap clear_of old)) result.1))
          (λ (outside : is_collected config memory (memory place) ≡ false).
          (objects, subst (λ next_memory. IsCleared memory next_memory place objects) (sym (spared outside)) (record { so_far = so_far; here = sym (collected_same (memory place)) ∙ outside; stays = λ some_place _ was_outside. was_outside })))
          (cases_Bool (is_collected config memory (memory place)))

      clears_here : (new_objects : List ℕ) × IsCleared memory (cleared_at config memory place) place new_objects
      unfolding cleared_at
      clears_here = clears (cleared_at config memory place)
          (λ outside. fun_ext (λ word. cond-false (is_collected config memory (memory place)) (clear_of (memory place) word) (memory word) outside))
          (λ collected. fun_ext (λ word. cond-true (is_collected config memory (memory place)) (clear_of (memory place) word) (memory word) collected))

  -- All places of a list are cleared.
  record AreClearedHere (memory end : Word → ℕ) (places : List Word) (objects : List ℕ) : Type 0 where
    so_far : IsSoFar end objects
    here : (word : Word) → Contains places word → is_collected config before (end word) ≡ false
    stays : (word : Word) → IsNaming word → is_collected config before (memory word) ≡ false → is_collected config before (end word) ≡ false

  all_cleared : (places : List Word) (memory : Word → ℕ) (objects : List ℕ) → ((word : Word) → Contains places word → Contains (naming_places config) word) → IsSoFar memory objects
      → (new_objects : List ℕ) × AreClearedHere memory (cleared_in_turn config memory places) places new_objects
  unfolding cleared_in_turn
  all_cleared [] memory objects all_naming so_far = (objects, record { so_far = so_far; here = λ word word_listed. absurd (omega (arith, word_listed.1)); stays = λ word _ was_outside. was_outside })
  all_cleared (place ∷ places) memory objects all_naming so_far =
      let first_cleared = clears_here memory objects so_far place (all_naming place (is_first place places)) in
      let rest_cleared = all_cleared places (cleared_at config memory place) first_cleared.0 (λ word word_listed. all_naming word (is_later place places word word_listed)) first_cleared.1.so_far in (
        rest_cleared.0,
        record {
          so_far = rest_cleared.1.so_far;
          here = λ word word_listed. ⊎_elim
              (λ (this_place : place ≡ word). rest_cleared.1.stays word (places_name config word (all_naming word word_listed)) (subst (λ asked_place. is_collected config before (cleared_at config memory place asked_place) ≡ false) this_place first_cleared.1.here))
              (λ (later : Contains places word). rest_cleared.1.here word later)
              (first_or_later place places word word_listed.0 word_listed.1 word_listed.2);
          stays = λ word names was_outside. rest_cleared.1.stays word names (first_cleared.1.stays word names was_outside);
        },
      )

  all_can_clear : before Cset < 2 ^ config.regions → (places : List Word) (memory : Word → ℕ) (objects : List ℕ) → ((word : Word) → Contains places word → Contains (naming_places config) word) → IsSoFar memory objects
      → CanClearInTurn config memory places
  unfolding CanClearInTurn
  all_can_clear set_small [] memory objects all_naming so_far = tt
  all_can_clear set_small (place ∷ places) memory objects all_naming so_far =
      let place_named = all_naming place (is_first place places) in
      let first_cleared = clears_here memory objects so_far place place_named in (
        can_clear memory objects so_far place place_named set_small,
        all_can_clear set_small places (cleared_at config memory place) first_cleared.0 (λ word contained. all_naming word (is_later place places word contained)) first_cleared.1.so_far,
      )

  at_first : IsSoFar before []
  unfolding copied_by
  at_first = record {
    to_copy = record {
      once = none_distinct;
      marked = λ object contained. absurd (nothing_in_none object contained);
      of_region = λ object contained. absurd (nothing_in_none object contained);
      in_set = λ object contained. absurd (nothing_in_none object contained);
      short = λ object contained. absurd (nothing_in_none object contained);
    };
    only = λ object contained. absurd (nothing_in_none object contained);
    same_set = refl;
    within_now = words_within;
    sized = λ object black in_set. refl;
    same = λ word names_nothing. refl;
    named = λ some_place names. inl refl;
    moved = λ object contained. absurd (nothing_in_none object contained);
    away = λ object contained. absurd (nothing_in_none object contained);
    left = λ address black in_set forwarded. absurd (both_ways (is_forwarded (before (Heap address))) (unmoved address black) forwarded);
  }

  are_cleared : (objects : List ℕ) × AreCleared config before (cleared_in_turn config before (naming_places config)) objects
  are_cleared =
      let places_cleared = all_cleared (naming_places config) before [] (λ some_place has_place. has_place) at_first in
      let so_far = places_cleared.1.so_far in
      let words_after = cleared_in_turn config before (naming_places config) in (
        places_cleared.0,
        record {
          to_copy = so_far.to_copy;
          named = so_far.only;
          copied = so_far.same;
          renewed = λ place place_named. ⊎_elim
              (λ (old : words_after place ≡ before place).
              old ∙ sym (cond-false (is_collected config before (before place)) (now_in words_after (before place)) (before place) (ap (is_collected config before) (sym old) ∙ places_cleared.1.here place place_named)))
              (λ (new : Contains places_cleared.0 (before place) × (words_after place ≡ now_in words_after (before place))).
              new.1 ∙ sym (cond-true (is_collected config before (before place)) (now_in words_after (before place)) (before place) (in_set places_cleared.0 so_far.to_copy (before place) new.0)))
              (so_far.named place (places_name config place place_named));
          cleared = places_cleared.1.here;
        },
      )
    where
      in_set : (objects : List ℕ) → AreToCopy config before (before Cset) objects → (object : ℕ) → Contains objects object → is_collected config before object ≡ true
      in_set objects to_copy object object_listed =
          and_from (nat_le config.region_words object) (bit_at (before Cset) (region_with config object) == 1)
          (le-leb config.region_words object (above_first config before (before Cset) objects to_copy object (to_copy.marked object object_listed)))
          (eq-eqb (bit_at (before Cset) (region_with config object)) 1 (to_copy.in_set object object_listed))

module _ (config : Config) (memory : Word → ℕ) (begin : CanBegin config memory) where
  abbrev before : Word → ℕ
  before = with_set memory (chosen config memory)

  copyable_then : (place : Word) → Contains (naming_places config) place → is_collected config before (before place) ≡ true → IsCopyable config before (before place)
  copyable_then place place_named place_collected =
      let same_name = set_apart memory (chosen config memory) place (places_name config place place_named) in
      let can_copy = begin.copyable place place_named (ap (is_collected config before) (sym same_name) ∙ place_collected) in
      let can_copy_here = subst (IsCopyable config memory) (sym same_name) can_copy in
      record { marked = can_copy_here.marked; of_region = can_copy_here.of_region; short = can_copy_here.short }

  pub clears_roots : (objects : List ℕ) × AreCleared config before (roots_cleared config memory (chosen config memory)) objects
  clears_roots = are_cleared config before begin.empty begin.apart refl begin.within begin.unmoved copyable_then

  pub can_clear_in_turn : CanClearInTurn config before (naming_places config)
  can_clear_in_turn =
      let set_small : chosen config memory < 2 ^ config.regions = (front_is config.regions (copy_limit config memory) (live_words config memory) (is_candidate config memory)).in_heap in
      all_can_clear config before begin.empty begin.apart refl begin.within begin.unmoved copyable_then set_small (naming_places config) before [] (λ some_place contained. contained)
      (at_first config before begin.empty begin.apart refl begin.within begin.unmoved copyable_then)

pub roots_are_cleared : RootsAreCleared
roots_are_cleared config memory can_begin = clears_roots config memory can_begin
