-- The heap of a table as a slice, and by the names of words.
use Rattle.std.proofs.Common.{◌≡◌, ◌≢◌, ℕ, ◌+◌, ◌-◌, ◌*◌, ◌/◌, ◌<◌, ◌≤◌, ◌⊎◌, ◌==◌, if◌then◌else◌, Bool, true, false, nat_le, nat_lt, cond, zero, suc, List, length, drop, get_or, inl, inr, ⊎_elim, refl, sym, ap, ◌∙◌, subst, arith}
use Rattle.std.proofs.lemmas.Bool.{cond-true, cond-false, cond_both, cases_Bool, cases_lt, cases_eq, and_left, lt-leb, eq-eqb, ne_eqb, false_from_ne_true}
use Rattle.std.proofs.lemmas.Bool.Decides.{nat_tests}
use Rattle.std.proofs.lemmas.List.{get_or-take, get_or-drop, get_or_past}
use Rattle.std.proofs.lemmas.Nat.{mul-le}
use Rattle.std.proofs.Math.Path.{fun_ext}
use Rattle.heap_words.specs.declared.config.Config.{Config}
use Rattle.heap_words.specs.Words.{Word, Pause, Left, End, State, Phase, Cset, Free, Evac, Claim, Ask, Top, Tams, Limit, Current, Root, Count, Buffer, Wait, Answer, Grey, Black, Heap, Share, Pin, IsWord, is_word, word_at, table_words, heap_size, heap_start, heap_in, view}
use Rattle.heap_words.specs.Encoding.{refs_in, object_words, is_forwarded, forwardee_in}
use Rattle.heap_words.proofs.Bounds.{heap_size_le}
use Rattle.heap_words.proofs.Stores.{is_word_true, view_word, view_none}
use Rattle.heap_world.specs.Walk.{has, IsMarked}
use Rattle.regions.specs.Places.{open_kept, new_place, LieApart}
use Rattle.regions.specs.Tops.{top_before, words_in}
use Rattle.regions.proofs.Placed.{covering, is_open, stays_above, places_apart}
use Rattle.regions.proofs.Sums.{sum_of_none}
use Rattle.regions.proofs.Tops.{added, place_in_range}
use Rattle.regions.specs.Slide.{IsSlidTo, PlacesApart, renewed, slid, slid_word, is_covered}
use Rattle.regions.specs.Table.{word_of, kept_of, now_of, place_of, LeadsToKept, CanCompact}
use Rattle.regions.proofs.Slid.{slid_word-same, slid_next, slid_none, slid_only, renewed_alike}
use Rattle.regions.proofs.Flags.{kept_marked, kept_unmarked, kept_below}
use Rattle.image_graph.specs.Plot.{heap_end, packed_top}
use Rattle.image_graph.specs.Full.{now_in, held_in, kept_in, place_in, top_then, moved_heap}
use Rattle.image_graph.specs.PackedTable.{IsPacked}
use Rattle.image_graph.proofs.Packed.{heap_part}
use Rattle.image_graph.proofs.HeapParts.{heap_length}
use Rattle.full_cycle.specs.Collect.{CanCollect, LeadsToHeld}
use Rattle.full_cycle.specs.Steps.{moved_in, IsRenewedAs}

-- a word of the heap
pub heap_word : (config : Config) (words : List ℕ) → length words ≡ table_words config → (address : ℕ) → config.region_words ≤ address → word_of config.region_words (heap_in config words) address ≡ view config words (Heap address)
heap_word config words whole_table address address_above =
    let word_there : heap_start config + (address - config.region_words) ≡ word_at config (Heap address) = omega (arith, address_above) in
    ⊎_elim
    (λ (address_below : address < heap_end config).
    ap (λ some_words. get_or some_words (address - config.region_words) 0) (heap_part config words)
    ∙ get_or-take (heap_size config) (drop (heap_start config) words) (address - config.region_words) 0 (omega (arith, address_below, address_above))
    ∙ get_or-drop (heap_start config) words (address - config.region_words) 0
    ∙ ap (λ index. get_or words index 0) word_there ∙ sym (view_word config words (Heap address) (address_above, address_below)))
    (λ (behind_heap : heap_end config ≤ address).
    get_or_past (heap_in config words) (address - config.region_words) 0 (omega (arith, heap_length config words whole_table, behind_heap, address_above)) ∙ sym (view_none config words (Heap address) (grind (arith, nat_tests))))
    (cases_lt address (heap_end config))

-- below the heap there is no word
pub no_heap_word : (config : Config) (words : List ℕ) (address : ℕ) → address < config.region_words → view config words (Heap address) ≡ 0
no_heap_word config words address below_heap = view_none config words (Heap address) (and_left (nat_le config.region_words address) (nat_lt address (heap_end config)) (lt-leb config.region_words address below_heap))

-- one word of the heap after the kept objects were moved
moved_is : (config : Config) (shut : ℕ → Bool) (address_now words_kept : ℕ → ℕ) (memory : Word → ℕ) (asked_address : ℕ)
    → slid (place_in config shut words_kept) words_kept (renewed (place_in config shut words_kept) address_now) (λ address. memory (Heap address)) (heap_end config) asked_address ≡ moved_heap config shut address_now words_kept memory asked_address
unfolding moved_heap
moved_is config shut address_now words_kept memory asked_address = refl

-- addresses of the heap lie in its first rows
pub in_first_rows : (config : Config) (address words : ℕ) → 0 < words → address + words ≤ heap_end config → address < 65 * config.region_words
in_first_rows config address words positive inside =
    let rows = mul-le (config.regions + 1) config.region_words 65 config.region_words (omega (arith, config.in_range.most_regions)) (omega arith) in
    omega (arith, rows, inside, positive)

module _ (config : Config) (shut : ℕ → Bool) (words : List ℕ) (marks : List Bool) (found : List ℕ) (whole_table : length words ≡ table_words config) (flags : length marks ≡ heap_size config)
    (marked : IsMarked config.region_words marks found) (held_found : found ≡ held_in config (view config words)) (can_collect : CanCollect config (view config words)) where
  abbrev region_words : ℕ
  region_words = config.region_words

  abbrev now : Word → ℕ
  now = view config words

  abbrev heap : List ℕ
  heap = heap_in config words

  abbrev kept : ℕ → ℕ
  kept = kept_in config now

  not_held : (address : ℕ) → has found address ≡ false → kept address ≡ 0
  not_held address not_found = cond-false (has (held_in config now) address) (object_words (now (Heap (address + 1)))) 0 (ap (λ flags. has flags address) (sym held_found) ∙ not_found)

  is_held : (address : ℕ) → has found address ≡ true → kept address ≡ object_words (now (Heap (address + 1)))
  is_held address address_found = cond-true (has (held_in config now) address) (object_words (now (Heap (address + 1)))) 0 (ap (λ flags. has flags address) (sym held_found) ∙ address_found)

  -- the flags say what is kept
  kept_at : (index : ℕ) → kept_of region_words heap marks (region_words + index) ≡ kept (region_words + index)
  kept_at place = ⊎_elim
      (λ (address_found : has found (region_words + place) ≡ true).
      let inside = (marked.among (region_words + place) address_found).1 in
      let flag = marked.flags place (omega (arith, inside)) ∙ address_found in
      let index : region_words + place + 1 - region_words ≡ place + 1 = omega arith in
      kept_marked region_words heap marks place flag
      ∙ ap object_words (ap (λ index. get_or heap index 0) (sym index) ∙ heap_word config words whole_table (region_words + place + 1) (omega arith))
      ∙ sym (is_held (region_words + place) address_found))
      (λ (not_there : has found (region_words + place) ≡ false). kept_unmarked region_words heap marks place (unset not_there) ∙ sym (not_held (region_words + place) not_there))
      (cases_Bool (has found (region_words + place)))
    where
      unset : has found (region_words + place) ≡ false → get_or marks place false ≡ false
      unset not_found = ⊎_elim
          (λ (inside_marks : place < length marks). marked.flags place inside_marks ∙ not_found)
          (λ (behind_marks : length marks ≤ place). get_or_past marks place false behind_marks)
          (cases_lt place (length marks))

  kept_same_at : (address : ℕ) → kept_of region_words heap marks address ≡ kept address
  kept_same_at address = ⊎_elim
      (λ (below_heap : address < region_words). kept_below region_words heap marks address below_heap ∙ sym (not_held address (⊎_elim
      (λ (address_found : has found address ≡ true). absurd (let address_above = (marked.among address address_found).0 in omega (arith, address_above, below_heap)))
      (λ (not_found : has found address ≡ false). not_found)
      (cases_Bool (has found address)))))
      (λ (address_above : region_words ≤ address). let sum : region_words + (address - region_words) ≡ address = omega (arith, address_above) in subst (λ place. kept_of region_words heap marks place ≡ kept place) sum (kept_at (address - region_words)))
      (cases_lt address region_words)

  kept_same : kept_of region_words heap marks ≡ kept
  kept_same = fun_ext kept_same_at

  now_same : (address : ℕ) → region_words ≤ address → now_of region_words heap address ≡ now_in now address
  now_same address address_above = ap (λ header. cond (is_forwarded header) (forwardee_in header) address) (heap_word config words whole_table address address_above)

  -- what leads to what is kept
  leads_to : (word : ℕ) → LeadsToHeld config now word → LeadsToKept region_words heap marks word
  leads_to word leads not_null =
      let target = leads not_null in
      let copy : 0 < kept_of region_words heap marks (now_of region_words heap word) =
      subst (λ address. 0 < kept_of region_words heap marks address) (sym (now_same word target.0)) (omega (arith, target.2, kept_same_at (now_in now word))) in
      (target.0, omega (arith, target.1, heap_length config words whole_table), copy)

  pub can_compact : CanCompact region_words heap marks
  can_compact = record {
    marked = record {
      apart = subst (LieApart region_words) (sym kept_same) can_collect.apart;
      flags = flags ∙ sym (heap_length config words whole_table);
      inside = λ address some_words. (let some_kept : 0 < kept address = omega (arith, some_words, kept_same_at address) in let end = can_collect.inside address some_kept in omega (arith, end, kept_same_at address, heap_length config words whole_table));
      small = omega (arith, heap_length config words whole_table, heap_size_le config, config.in_range.most_words);
    };
    current = λ address some_words. (let some_kept : 0 < kept address = omega (arith, some_words, kept_same_at address) in now_same address (can_collect.apart.above address some_kept) ∙ can_collect.current address some_kept);
    closed = λ object offset some_words few.
        let some_kept : 0 < kept object = omega (arith, some_words, kept_same_at object) in
        let object_above = can_collect.apart.above object some_kept in
        let shape = heap_word config words whole_table (object + 1) (omega (arith, object_above)) in
        let index : object + 3 + offset ≡ object + (3 + offset) = omega arith in
        let few_fields : offset < refs_in (now (Heap (object + 1))) = subst (λ x. offset < refs_in x) shape few in
        let field : now (Heap (object + 3 + offset)) ≡ word_of region_words heap (object + (3 + offset)) = ap (λ address. now (Heap address)) index ∙ sym (heap_word config words whole_table (object + (3 + offset)) (omega (arith, object_above))) in
        subst (LeadsToKept region_words heap marks) field (leads_to (now (Heap (object + 3 + offset))) (can_collect.fields object offset some_kept few_fields));
  }

  abbrev pub place : ℕ → ℕ
  place = place_in config shut kept

  -- no two kept objects have places that share a word
  apart_places : PlacesApart place kept
  apart_places = places_apart region_words shut kept can_collect.apart (λ object some_words. in_first_rows config object (kept object) some_words (can_collect.inside object some_words))

  -- which way a word is renewed
  renewed_same : (word : ℕ) → LeadsToHeld config now word → renewed (place_of region_words shut heap marks) (now_of region_words heap) word ≡ renewed place (now_in now) word
  renewed_same word leads = ⊎_elim
      (λ (null : word ≡ 0).
      cond-true (word == 0) 0 (place_of region_words shut heap marks (now_of region_words heap word)) (eq-eqb word 0 null)
      ∙ sym (cond-true (word == 0) 0 (place (now_in now word)) (eq-eqb word 0 null)))
      (λ (some_word : word ≢ 0).
      cond-false (word == 0) 0 (place_of region_words shut heap marks (now_of region_words heap word)) (ne_eqb word 0 some_word)
      ∙ ap (λ (some_place : ℕ → ℕ). new_place region_words shut some_place (now_of region_words heap word)) kept_same
      ∙ ap place (now_same word (leads some_word).0)
      ∙ sym (cond-false (word == 0) 0 (place (now_in now word)) (ne_eqb word 0 some_word)))
      (cases_eq word 0)

  module _ (after places : List ℕ) (whole_after : length after ≡ table_words config) (packed : IsPacked config shut marks words after places) where
    abbrev renew : ℕ → ℕ
    renew = renewed place (now_in now)

    abbrev old_heap : ℕ → ℕ
    old_heap address = now (Heap address)

    abbrev new_heap : ℕ → ℕ
    new_heap address = view config after (Heap address)

    -- the slide, over the heap as a slice, ..
    slid_slice : IsSlidTo (heap_end config) region_words place kept renew (word_of region_words heap) (word_of region_words (heap_in config after))
    slid_slice =
        let end : region_words + heap_size config ≡ heap_end config = omega arith in
        let by_kept : IsSlidTo (heap_end config) region_words place kept (renewed (place_of region_words shut heap marks) (now_of region_words heap)) (word_of region_words heap) (word_of region_words (heap_in config after)) =
        subst (λ (some_words : ℕ → ℕ). IsSlidTo (heap_end config) region_words (new_place region_words shut some_words) some_words (renewed (place_of region_words shut heap marks) (now_of region_words heap)) (word_of region_words heap) (word_of region_words (heap_in config after))) kept_same
        (subst (λ end. IsSlidTo end region_words (place_of region_words shut heap marks) (kept_of region_words heap marks) (renewed (place_of region_words shut heap marks) (now_of region_words heap)) (word_of region_words heap) (word_of region_words (heap_in config after))) end packed.slid) in
        renewed_alike place kept (renewed (place_of region_words shut heap marks) (now_of region_words heap)) (word_of region_words heap) renew region_words (heap_end config) (word_of region_words (heap_in config after))
        (λ object offset words_kept few.
        let object_above = can_collect.apart.above object words_kept in
        let shape = heap_word config words whole_table (object + 1) (omega (arith, object_above)) in
        let index : object + 3 + offset ≡ object + (3 + offset) = omega arith in
        let field : now (Heap (object + 3 + offset)) ≡ word_of region_words heap (object + (3 + offset)) = ap (λ address. now (Heap address)) index ∙ sym (heap_word config words whole_table (object + (3 + offset)) (omega (arith, object_above))) in
        renewed_same (word_of region_words heap (object + (3 + offset))) (subst (LeadsToHeld config now) field (can_collect.fields object offset words_kept (subst (λ x. offset < refs_in x) shape few))))
        by_kept

    -- .. and by names
    slid_named : IsSlidTo (heap_end config) region_words place kept renew old_heap new_heap
    slid_named = record {
      moved = λ object offset offset_below inside.
          let some_kept : 0 < kept object = omega (arith, inside) in
          let address_above = can_collect.apart.above object some_kept in
          let stays_in_heap = stays_above region_words shut kept can_collect.apart object some_kept in
          sym (heap_word config after whole_after (place object + offset) (omega (arith, stays_in_heap)))
          ∙ slid_slice.moved object offset offset_below inside
          ∙ slid_word-same renew (word_of region_words heap) old_heap object object offset (heap_word config words whole_table (object + 1) (omega (arith, address_above))) (heap_word config words whole_table (object + offset) (omega (arith, address_above)));
      others = λ address address_above not_covered.
          sym (heap_word config after whole_after address address_above) ∙ slid_slice.others address address_above not_covered ∙ heap_word config words whole_table address address_above;
    }

    -- below the heap nothing was slid
    not_below : (object address : ℕ) → address < region_words → is_covered place kept object address ≡ false
    not_below object address below_heap = false_from_ne_true (is_covered place kept object address) (λ met.
        let covered = covering place kept object address met in
        let place_in_heap = stays_above region_words shut kept can_collect.apart object covered.2 in
        omega (arith, covered.0, place_in_heap, below_heap))

    slid_below : (end low_address : ℕ) → low_address < region_words → slid place kept renew old_heap end low_address ≡ old_heap low_address
    slid_below zero low_address below_heap = slid_none place kept renew old_heap low_address
    slid_below (suc address) low_address below_heap =
        slid_next place kept renew old_heap address low_address
        ∙ cond-false (is_covered place kept address low_address) (slid_word renew old_heap address (low_address - place address)) (slid place kept renew old_heap address low_address) (not_below address low_address below_heap)
        ∙ slid_below address low_address below_heap

    heap_moved : (address : ℕ) → new_heap address ≡ moved_heap config shut (now_in now) kept now address
    heap_moved address = ⊎_elim
        (λ (below_heap : address < region_words). no_heap_word config after address below_heap ∙ sym (no_heap_word config words address below_heap) ∙ sym (slid_below (heap_end config) address below_heap))
        (λ (address_above : region_words ≤ address). slid_only place kept renew old_heap apart_places region_words (heap_end config) new_heap slid_named address address_above)
        (cases_lt address region_words)
        ∙ moved_is config shut (now_in now) kept now address

    -- the tops
    no_top : (region : ℕ) → config.regions ≤ region → packed_top config shut kept region ≡ 0
    no_top region no_region = sum_of_none (words_in region_words shut kept region) (heap_end config) (λ object address_below. ⊎_elim
        (λ (no_words : words_in region_words shut kept region object ≡ 0). no_words)
        (λ (words_there : (0 < open_kept region_words shut kept object) × (new_place region_words shut kept object / region_words ≡ region + 1)).
        absurd (let few = place_in_range region_words shut kept can_collect.apart config.regions object (is_open region_words shut kept object words_there.0).0 address_below in let some_open = words_there.1 in omega (arith, few, some_open, no_region)))
        (added region_words shut kept can_collect.apart region object))

    abbrev placed_top : ℕ → (ℕ → ℕ) → ℕ → ℕ
    placed_top region kept end = if shut (region + 1) then now (Top region) else top_before region_words shut kept region end

    top_moved : (region : ℕ) → view config after (Top region) ≡ top_then config shut kept now region
    top_moved region = ⊎_elim
        (λ (inside : region < config.regions).
        let end : region_words + heap_size config ≡ heap_end config = omega arith in
        view_word config after (Top region) inside ∙ packed.tops region inside
        ∙ ap (λ (top_word : ℕ). if shut (region + 1) then top_word else top_before region_words shut (kept_of region_words heap marks) region (region_words + heap_size config)) (sym (view_word config words (Top region) inside))
        ∙ ap (λ (kept_words : ℕ → ℕ). placed_top region kept_words (region_words + heap_size config)) kept_same ∙ ap (placed_top region kept) end)
        (λ (no_region : config.regions ≤ region).
        let zero_top : now (Top region) ≡ 0 = view_none config words (Top region) (grind (arith, nat_tests)) in
        view_none config after (Top region) (grind (arith, nat_tests))
        ∙ sym (cond_both (shut (region + 1)) (now (Top region)) (packed_top config shut kept region) (λ kept_words. kept_words ≡ 0) (λ _. zero_top) (λ _. no_top region no_region)))
        (cases_lt region config.regions)

    -- and no other word
    other_word : (word : Word) → (IsWord config word → (word_at config word < heap_start config) × ((word_at config word < word_at config (Top 0)) ⊎ (word_at config (Top 0) + config.regions ≤ word_at config word))) → view config after word ≡ now word
    other_word word place = ⊎_elim
        (λ (real_word : is_word config word ≡ true).
        let word_is = is_word_true config word real_word in
        let place_outside = place word_is in
        view_word config after word word_is ∙ packed.others (word_at config word) place_outside.0 place_outside.1 ∙ sym (view_word config words word word_is))
        (λ (not_word : is_word config word ≡ false). view_none config after word not_word ∙ sym (view_none config words word not_word))
        (cases_Bool (is_word config word))

    behind_word : (word : Word) → (IsWord config word → heap_start config + heap_size config ≤ word_at config word) → view config after word ≡ now word
    behind_word word place = ⊎_elim
        (λ (real_word : is_word config word ≡ true).
        let word_is = is_word_true config word real_word in
        view_word config after word word_is ∙ packed.behind (word_at config word) (place word_is) ∙ sym (view_word config words word word_is))
        (λ (not_word : is_word config word ≡ false). view_none config after word not_word ∙ sym (view_none config words word not_word))
        (cases_Bool (is_word config word))

    moved_at : (word : Word) → view config after word ≡ moved_in config shut (now_in now) kept now word
    moved_at (Heap address) = heap_moved address
    moved_at (Top region) = top_moved region
    moved_at Share = behind_word Share (λ word_is. omega arith)
    moved_at (Pin mutator slot) = behind_word (Pin mutator slot) (λ word_is. omega (arith, word_is))
    moved_at Pause = other_word Pause (λ word_is. (omega (arith, word_is), inl (omega (arith, word_is))))
    moved_at Left = other_word Left (λ word_is. (omega (arith, word_is), inl (omega (arith, word_is))))
    moved_at End = other_word End (λ word_is. (omega (arith, word_is), inl (omega (arith, word_is))))
    moved_at (State seat) = other_word (State seat) (λ word_is. (omega (arith, word_is), inl (omega (arith, word_is))))
    moved_at Phase = other_word Phase (λ word_is. (omega (arith, word_is), inl (omega (arith, word_is))))
    moved_at Cset = other_word Cset (λ word_is. (omega (arith, word_is), inl (omega (arith, word_is))))
    moved_at Free = other_word Free (λ word_is. (omega (arith, word_is), inl (omega (arith, word_is))))
    moved_at Evac = other_word Evac (λ word_is. (omega (arith, word_is), inl (omega (arith, word_is))))
    moved_at Claim = other_word Claim (λ word_is. (omega (arith, word_is), inl (omega (arith, word_is))))
    moved_at Ask = other_word Ask (λ word_is. (omega (arith, word_is), inl (omega (arith, word_is))))
    moved_at (Tams region) = other_word (Tams region) (λ word_is. (omega (arith, word_is), inr (omega (arith, word_is))))
    moved_at (Limit region) = other_word (Limit region) (λ word_is. (omega (arith, word_is), inr (omega (arith, word_is))))
    moved_at (Current seat) = other_word (Current seat) (λ word_is. (omega (arith, word_is), inr (omega (arith, word_is))))
    moved_at (Root mutator index) = other_word (Root mutator index) (λ word_is. (omega (arith, word_is), inr (omega (arith, word_is))))
    moved_at (Count mutator) = other_word (Count mutator) (λ word_is. (omega (arith, word_is), inr (omega (arith, word_is))))
    moved_at (Buffer mutator entry) = other_word (Buffer mutator entry) (λ word_is. (omega (arith, word_is), inr (omega (arith, word_is))))
    moved_at (Wait mutator) = other_word (Wait mutator) (λ word_is. (omega (arith, word_is), inr (omega (arith, word_is))))
    moved_at (Answer mutator) = other_word (Answer mutator) (λ word_is. (omega (arith, word_is), inr (omega (arith, word_is))))
    moved_at (Grey number) = other_word (Grey number) (λ word_is. (omega (arith, word_is), inr (omega (arith, word_is))))
    moved_at (Black number) = other_word (Black number) (λ word_is. (omega (arith, word_is), inr (omega (arith, word_is))))

    pub moved : view config after ≡ moved_in config shut (now_in now) kept now
    moved = fun_ext moved_at

    -- each word that led to a kept object can be renewed
    pub renews : (word : ℕ) → LeadsToHeld config now word → IsRenewedAs region_words place (now_in now) places word
    renews word leads =
        let renewed_as = packed.renews word (leads_to word leads) in
        record { in_table = renewed_as.in_table; renewed_as = renewed_as.renewed_as ∙ renewed_same word leads }
