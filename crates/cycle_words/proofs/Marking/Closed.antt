-- Closing the marks: what becomes black and grey, and that each object is then kept.
use Rattle.std.proofs.Common.{◌≡◌, ◌≢◌, ℕ, ◌+◌, ◌*◌, ◌<◌, ◌≤◌, ◌⊎◌, ◌==◌, ◌&&◌, nat_le, max, true, false, Bool, Option, Some, None, get_or, slice_get, inl, inr, ⊎_elim, refl, sym, ap, ◌∙◌, subst, arith}
use Rattle.std.specs.Int.{bit_at}
use Rattle.std.specs.Int.RustNames.{bit_or}
use Rattle.std.proofs.lemmas.Bool.{and_parts, and_from, le-leb, leb-true, eqb-true, eq-eqb, false_from_ne_true, true≢false}
use Rattle.std.proofs.lemmas.Nat.Bits.{bit_at_or, bit_at-lt}
use Rattle.std.proofs.lemmas.Option.{none-some, slice_get-get_or}
use Rattle.heap_words.specs.declared.config.Config.{Config}
use Rattle.heap_words.specs.Words.{Word, Top, Count, Buffer, Grey, Black, Heap}
use Rattle.heap_words.specs.Encoding.{refs_in}
use Rattle.regions.specs.Place.{region_with}
use Rattle.regions.specs.Marks.{mark_word, mark_bit}
use Rattle.shen_graph.specs.declared.name.Name.{Name}
use Rattle.shen_graph.specs.Graph.{Graph, Reference}
use Rattle.heap_world.specs.Walk.{has}
use Rattle.heap_world.specs.World.{Plot, thing, Snapshot, AreMarks, IsMarkable, IsYoung, IsNoted, was_at, IsToScan, IsTracedAt, IsLed}
use Rattle.heap_world.proofs.Pointing.{named_if_not_0}
use Rattle.image_graph.specs.Promised.{Promises}
use Rattle.image_graph.proofs.Reached.{refs_read}
use Rattle.image_graph.specs.Holds.{HoldsBy}
use Rattle.cycle_words.specs.Marking.Marks.{is_grey, is_black, mark_bits, IsNew, IsKept}
use Rattle.cycle_words.specs.Marking.Close.{IsTraced, from_grey, from_buffer, from_field, traced_in, closed}
use Rattle.cycle_words.specs.Marking.WhileMarking.{IsObjectAt, CanBeReached, IsMarking, IsMarkedThrough}
use Rattle.cycle_words.specs.Marking.Final.{IsDead, dead_in}
use Rattle.cycle_words.specs.Marking.Laws.{AreClosed}
use Rattle.cycle_words.proofs.Marking.Bits.{one, mark_at, address_again}
use Rattle.cycle_words.proofs.Marking.Alike.{AreAlike, holds_alike, held_words_same}
use Rattle.cycle_words.proofs.Marking.Plain.{object_above, object_below, reached_object, reach_ind, root_reached, field_reached}
use Rattle.cycle_words.proofs.Marking.Traced.{listed_traced, traced_listed}
use Rattle.cycle_words.proofs.Marking.Dead.{dead_is_dead}

-- a bit of two words together
or_true : (x : ℕ) (holds : Bool) → (max x (one holds) == 1) ≡ true → x < 2 → ((x == 1) ≡ true) ⊎ (holds ≡ true)
or_true x true joined_bit one_bit = inr refl
or_true x false joined_bit one_bit = inl (eq-eqb x 1 (let same_bit = eqb-true (max x 0) 1 joined_bit in omega (arith, same_bit)))

true_or : (x : ℕ) (holds : Bool) → x < 2 → ((x == 1) ≡ true) ⊎ (holds ≡ true) → (max x (one holds) == 1) ≡ true
true_or x true one_bit either_set = eq-eqb (max x 1) 1 (omega (arith, one_bit))
true_or x false one_bit either_set = ⊎_elim (λ (bit_set : (x == 1) ≡ true). eq-eqb (max x 0) 1 (let same_bit = eqb-true x 1 bit_set in omega (arith, same_bit))) (λ (no_bit : false ≡ true). absurd (true≢false (sym no_bit))) either_set

module _ (config : Config) (memory : Word → ℕ) (block : Plot) (owner : ℕ → Option ℕ) (promises : Promises) (graph : Graph) (graph_held : HoldsBy config memory block owner promises graph) (marking : IsMarking config memory block) where
  abbrev memory_then : Word → ℕ
  memory_then = closed config memory

  alike : AreAlike memory memory_then
  alike = record { heap = λ a. refl; top = λ r. refl; root = λ t i. refl; answer = λ t. refl; wait = λ t. refl; current = λ s. refl; free = refl; cset = refl; share = refl; pin = λ t i. refl }

  pub closed_holds : HoldsBy config memory_then block owner promises graph
  closed_holds = holds_alike memory memory_then alike config block owner promises graph graph_held

  abbrev heap : ℕ → ℕ
  heap address = memory (Heap address)

  -- what can be marked is an object
  object_at : (address refs nums : ℕ) (name : Name) → block address ≡ Some (thing name refs nums) → IsObjectAt memory block address
  object_at address refs nums name object_there =
      let object_told = marking.objects.each address refs nums name object_there in
      record { name = name; refs = refs; nums = nums; here = object_there; shape = object_told.2.shape; few_refs = object_told.2.few_refs; few_nums = object_told.2.few_nums }

  pub markable_object : (address : ℕ) → IsMarkable block address → IsObjectAt memory block address
  markable_object address (IsMarkable.object name refs nums object_there) = object_at address refs nums name object_there
  markable_object address (IsMarkable.to_come seat words object_there) = absurd (graph_held.pieces.unpromised address seat words object_there)

  object_refs : (address refs nums : ℕ) (name : Name) → block address ≡ Some (thing name refs nums) → refs_in (heap (address + 1)) ≡ refs
  object_refs address refs nums name object_there =
      let object_told = marking.objects.each address refs nums name object_there in
      ap refs_in object_told.2.shape ∙ refs_read refs nums object_told.2.few_refs object_told.2.few_nums

  -- and what a field of an object names is one
  field_markable : (address field : ℕ) → IsObjectAt memory block address → field < refs_in (heap (address + 1)) → heap (address + 3 + field) ≢ 0 → IsMarkable block (heap (address + 3 + field))
  field_markable address field object field_below some_word =
      let object_told = marking.objects.each address object.refs object.nums object.name object.here in
      let shape = object_refs address object.refs object.nums object.name object.here in
      let reference : Reference = get_or object_told.0.refs field None in
      let reference_there : slice_get object_told.0.refs field ≡ Some reference = slice_get-get_or object_told.0.refs field None (omega (arith, field_below, shape, object_told.2.refs_are)) in
      let named_object = named_if_not_0 config (λ region. memory (Top region)) block graph_held.objects.plotted (heap (address + 3 + field)) reference (object_told.2.references field reference reference_there) some_word in
      let piece = graph_held.pieces.named (heap (address + 3 + field)) named_object.0 named_object.2 in
      IsMarkable.object named_object.0 piece.0 piece.1 piece.2

  -- so what is grey, black or an entry, and what tracing comes to, can be marked
  marked_at : (marks : ℕ → ℕ) (address : ℕ) → AreMarks config marks block → (nat_le config.region_words address && (bit_at (marks (mark_word config address)) (mark_bit config address) == 1)) ≡ true → IsMarkable block address
  marked_at marks address are_marks mark_set =
      let mark_parts = and_parts (nat_le config.region_words address) (bit_at (marks (mark_word config address)) (mark_bit config address) == 1) mark_set in
      subst (IsMarkable block) (address_again config address (leb-true config.region_words address mark_parts.0))
      (are_marks.of_objects (mark_word config address) (mark_bit config address) (omega arith) (eqb-true (bit_at (marks (mark_word config address)) (mark_bit config address)) 1 mark_parts.1))

  pub black_markable : (address : ℕ) → is_black config memory address ≡ true → IsMarkable block address
  black_markable address black_address = marked_at (λ index. memory (Black index)) address (marking.marked.marking refl).blacks black_address

  pub traced_markable : (address : ℕ) → IsTraced config memory address → IsMarkable block address
  traced_markable _ (from_grey address grey_address) = marked_at (λ index. memory (Grey index)) address (marking.marked.marking refl).greys grey_address
  traced_markable _ (from_buffer mutator entry_index index_below index_below_refs some_word) = (marking.marked.marking refl).entries.of_objects mutator entry_index index_below index_below_refs
  traced_markable _ (from_field address entry_index traced header_plain index_below_refs some_word) = field_markable address entry_index (markable_object address (traced_markable address traced)) index_below_refs some_word

  object_inside : (address : ℕ) → IsObjectAt memory block address → (config.region_words ≤ address) × (address < config.region_words + config.regions * config.region_words)
  object_inside address object =
      let object_place = object_above config memory block owner promises graph graph_held marking.uncollected address object.refs object.nums object.name object.here in
      (object_place.0, omega (arith, object_place.1))

  pub inside : (address : ℕ) → IsTraced config memory address → (config.region_words ≤ address) × (address < config.region_words + config.regions * config.region_words)
  inside address traced = object_inside address (markable_object address (traced_markable address traced))

  listed : (address : ℕ) → IsTraced config memory address → has (traced_in config memory) address ≡ true
  listed = traced_listed config memory inside

  traced : (address : ℕ) → has (traced_in config memory) address ≡ true → IsTraced config memory address
  traced = listed_traced config memory (config.regions * config.region_words)

  -- the bits of an address afterwards
  bit_is : (colour_word address : ℕ) → config.region_words ≤ address → bit_at (bit_or colour_word (mark_bits config (has (traced_in config memory)) (mark_word config address))) (mark_bit config address) ≡ max (bit_at colour_word (mark_bit config address)) (one (has (traced_in config memory) address))
  bit_is colour_word address past_first_region = bit_at_or colour_word (mark_bits config (has (traced_in config memory)) (mark_word config address)) (mark_bit config address) ∙ ap (max (bit_at colour_word (mark_bit config address))) (mark_at config (has (traced_in config memory)) address past_first_region)

  -- a colour after it was or-ed with what is traced
  made : (colour_word address : ℕ) → (config.region_words ≤ address) → ((bit_at colour_word (mark_bit config address) == 1) ≡ true) ⊎ IsTraced config memory address
      → (nat_le config.region_words address && (bit_at (bit_or colour_word (mark_bits config (has (traced_in config memory)) (mark_word config address))) (mark_bit config address) == 1)) ≡ true
  made colour_word address past_first_region was_or_traced =
      and_from (nat_le config.region_words address) _ (le-leb config.region_words address past_first_region)
      (ap (λ index. index == 1) (bit_is colour_word address past_first_region) ∙ true_or (bit_at colour_word (mark_bit config address)) (has (traced_in config memory) address) (bit_at-lt colour_word (mark_bit config address))
      (⊎_elim (λ (was_coloured : (bit_at colour_word (mark_bit config address) == 1) ≡ true). inl was_coloured) (λ (now_traced : IsTraced config memory address). inr (listed address now_traced)) was_or_traced))

  was : (colour_word address : ℕ) → (nat_le config.region_words address && (bit_at (bit_or colour_word (mark_bits config (has (traced_in config memory)) (mark_word config address))) (mark_bit config address) == 1)) ≡ true
      → ((nat_le config.region_words address && (bit_at colour_word (mark_bit config address) == 1)) ≡ true) ⊎ IsTraced config memory address
  was colour_word address coloured_after =
      let mark_parts = and_parts (nat_le config.region_words address) _ coloured_after in
      let past_first_region = leb-true config.region_words address mark_parts.0 in
      ⊎_elim
      (λ (old : (bit_at colour_word (mark_bit config address) == 1) ≡ true). inl (and_from (nat_le config.region_words address) (bit_at colour_word (mark_bit config address) == 1) mark_parts.0 old))
      (λ (new : has (traced_in config memory) address ≡ true). inr (traced address new))
      (or_true (bit_at colour_word (mark_bit config address)) (has (traced_in config memory) address) (ap (λ index. index == 1) (sym (bit_is colour_word address past_first_region)) ∙ mark_parts.1) (bit_at-lt colour_word (mark_bit config address)))

  black_after : (address : ℕ) → is_black config memory_then address ≡ true → (is_black config memory address ≡ true) ⊎ IsTraced config memory address
  black_after address black_then = was (memory (Black (mark_word config address))) address black_then

  black_stays : (address : ℕ) → is_black config memory address ≡ true → is_black config memory_then address ≡ true
  black_stays address black_address =
      let mark_parts = and_parts (nat_le config.region_words address) _ black_address in
      made (memory (Black (mark_word config address))) address (leb-true config.region_words address mark_parts.0) (inl mark_parts.1)

  traced_black : (address : ℕ) → IsTraced config memory address → is_black config memory_then address ≡ true
  traced_black address traced_address = made (memory (Black (mark_word config address))) address (inside address traced_address).0 (inr traced_address)

  pub are_closed : AreClosed config memory memory_then
  are_closed = record {
    black = λ asked_address. (black_after asked_address, λ address_marked. ⊎_elim (black_stays asked_address) (traced_black asked_address) address_marked);
    grey = λ address. (
      (λ address_marked. ⊎_elim (λ (old : is_grey config memory address ≡ true). from_grey address old) (λ (new : IsTraced config memory address). new) (was (memory (Grey (mark_word config address))) address address_marked)),
      (λ address_marked. made (memory (Grey (mark_word config address))) address (inside address address_marked).0 (inr address_marked)),
    );
  }

  not_null : (address : ℕ) → IsObjectAt memory block address → address ≢ 0
  not_null address object is_zero = let inside_heap = object_inside address object in let least_words = config.in_range.least_words in omega (arith, inside_heap.0, is_zero, least_words)

  abbrev s : Snapshot
  s = marking.ghost.snapshot

  abbrev Noted : ℕ → Type 0
  Noted = IsNoted config (λ index. memory (Grey index)) (λ mutator. memory (Count mutator)) (λ mutator index. memory (Buffer mutator index)) marking.ghost.recording

  -- what is noted becomes black
  noted_black : (address : ℕ) → IsMarkable block address → Noted address → is_black config memory_then address ≡ true
  noted_black address markable_now (IsNoted.by_mark mark) =
      let inside_heap = object_inside address (markable_object address markable_now) in
      traced_black address (from_grey address (and_from (nat_le config.region_words address) _ (le-leb config.region_words address inside_heap.0) (eq-eqb (bit_at (memory (Grey (mark_word config address))) (mark_bit config address)) 1 mark)))
  noted_black address markable_now (IsNoted.by_entry mutator index seat_below index_below noted_address) =
      let some_address = not_null address (markable_object address markable_now) in
      subst (λ seen_address. is_black config memory_then seen_address ≡ true) noted_address (traced_black (memory (Buffer mutator index)) (from_buffer mutator index seat_below index_below (λ no_address. some_address (sym noted_address ∙ no_address))))
  noted_black address markable_now (IsNoted.by_hand recorder seat_below noted_address) = absurd (none-some address (sym (marking.unmarking.records_none recorder (omega (arith, seat_below))) ∙ noted_address))

  -- A field of an object of the snapshot that becomes black: what it named then becomes black.
  module _ (address refs nums index : ℕ) (name : Name) (object_here : s.block address ≡ Some (thing name refs nums)) (index_below : index < refs) (some_word : was_at s address index ≢ 0) (markable_now : IsMarkable block (was_at s address index)) (address_black : is_black config memory_then address ≡ true) where
    from_white : heap (address + 3 + index) ≡ was_at s address index → is_black config memory address ≡ false → is_black config memory_then (was_at s address index) ≡ true
    from_white same_word white =
        let traced_one : IsTraced config memory address = ⊎_elim (λ (old : is_black config memory address ≡ true). absurd (true≢false (sym old ∙ white))) (λ (new : IsTraced config memory address). new) (black_after address address_black) in
        let shape = object_refs address refs nums name (marking.marked.kept address refs nums name object_here) in
        subst (λ any_address. is_black config memory_then any_address ≡ true) same_word (traced_black (heap (address + 3 + index)) (from_field address index traced_one white (omega (arith, index_below, shape)) (λ null_word. some_word (sym same_word ∙ null_word))))

    from_scan : heap (address + 3 + index) ≡ was_at s address index → IsToScan config (λ number. memory (Black number)) marking.ghost.scanning address index → is_black config memory_then (was_at s address index) ≡ true
    from_scan same_word (IsToScan.is_white white) = from_white same_word (false_from_ne_true (is_black config memory address) (λ old.
        let bit = eqb-true (bit_at (memory (Black (mark_word config address))) (mark_bit config address)) 1 (and_parts (nat_le config.region_words address) _ old).1 in
        omega (arith, bit, white)))
    from_scan same_word (IsToScan.in_scan seat scan seat_below scan_there index_before) = absurd (none-some _ (sym (marking.unmarking.scans_none seat seat_below) ∙ scan_there))

    from_edge : IsTracedAt config s heap (λ number. memory (Black number)) marking.ghost.scanning Noted address index → is_black config memory_then (was_at s address index) ≡ true
    from_edge (IsTracedAt.done scan_done) = ⊎_elim (λ (null : was_at s address index ≡ 0). absurd (some_word null)) (λ (noted : Noted (was_at s address index)). noted_black (was_at s address index) markable_now noted) scan_done
    from_edge (IsTracedAt.stands same_word scan) = from_scan same_word scan

  -- so what the snapshot leads to becomes black
  led_black : (address : ℕ) → IsLed s address → IsMarkable block address → is_black config memory_then address ≡ true
  led_black _ (IsLed.by_start address start_address) markable_now = noted_black address markable_now (marking.marked.traced.starts address start_address)
  led_black _ (IsLed.by_field address refs nums index name led object_here index_below some_word) markable_now =
      from_edge address refs nums index name object_here index_below some_word markable_now (led_black address led (IsMarkable.object name refs nums (marking.marked.kept address refs nums name object_here)))
      (marking.marked.traced.edges address refs nums index name object_here index_below)

  young_new : (address refs nums : ℕ) (name : Name) → block address ≡ Some (thing name refs nums) → IsYoung config s.top address → IsNew config memory_then address
  young_new address refs nums name object_there young =
      let object_place = object_below config memory block owner promises graph graph_held marking.uncollected address refs nums name object_there in
      let floor = (marking.marked.marking refl).tams_are (region_with config address) object_place.0 in
      omega (arith, young, floor, object_place.1)

  -- and each object is kept afterwards
  thing_kept : (address refs nums : ℕ) (name : Name) → block address ≡ Some (thing name refs nums) → IsKept config memory_then address
  thing_kept address refs nums name object_there =
      let markable_now : IsMarkable block address = IsMarkable.object name refs nums object_there in
      ⊎_elim
      (λ (old : s.block address ≡ Some (thing name refs nums)). inl (led_black address (marking.marked.led address refs nums name old) markable_now))
      (λ (start_or_young : (s.starts address ≡ true) ⊎ IsYoung config s.top address). ⊎_elim
      (λ (start : s.starts address ≡ true). inl (noted_black address markable_now (marking.marked.traced.starts address start)))
      (λ (young : IsYoung config s.top address). inr (young_new address refs nums name object_there young))
      start_or_young)
      ((marking.marked.marking refl).older address refs nums name object_there)

  pub object_kept : (address : ℕ) → IsObjectAt memory block address → IsKept config memory_then address
  object_kept address object = thing_kept address object.refs object.nums object.name object.here

  -- each object that can be reached
  reached_before : (address : ℕ) → CanBeReached config memory_then address → CanBeReached config memory address
  reached_before = reach_ind config memory_then block owner promises graph closed_holds marking.uncollected (CanBeReached config memory)
      (λ word root_word some_word. root_reached config memory block owner promises graph graph_held marking.uncollected word (ap (λ xs. has xs word) (sym (held_words_same memory memory_then alike config)) ∙ root_word) some_word)
      (λ address index can_reach before few some_word. field_reached config memory block owner promises graph graph_held marking.uncollected address index before few some_word)

  -- so none lies in a dead region
  pub object_alive : (address : ℕ) → IsObjectAt memory block address → dead_in config memory (region_with config address) ≡ false
  object_alive address object =
      let object_place = object_below config memory block owner promises graph graph_held marking.uncollected address object.refs object.nums object.name object.here in
      let top_within = graph_held.objects.plotted.tops (region_with config address) object_place.0 in
      false_from_ne_true (dead_in config memory (region_with config address)) (λ told_dead.
      let dead : IsDead config memory_then (region_with config address) = (dead_is_dead config memory_then (region_with config address)).0 told_dead in
      ⊎_elim
      (λ (address_black : is_black config memory_then address ≡ true). true≢false (sym address_black ∙ dead.unmarked address (record { from = object_place.1; before = omega (arith, object_place.1, object_place.2, top_within) })))
      (λ (fresh : IsNew config memory_then address). omega (arith, fresh, object_place.2, dead.no_new))
      (object_kept address object))

  object_same : (address : ℕ) → IsObjectAt memory block address → IsObjectAt memory_then block address
  object_same address object = record { name = object.name; refs = object.refs; nums = object.nums; here = object.here; shape = object.shape; few_refs = object.few_refs; few_nums = object.few_nums }

  pub object_back : (address : ℕ) → IsObjectAt memory_then block address → IsObjectAt memory block address
  object_back address object = record { name = object.name; refs = object.refs; nums = object.nums; here = object.here; shape = object.shape; few_refs = object.few_refs; few_nums = object.few_nums }

  pub closed_through : IsMarkedThrough config memory_then block
  closed_through = record {
    reachable = λ address can_reach. object_kept address (reached_object config memory block owner promises graph graph_held marking.uncollected address (reached_before address can_reach));
    fields = λ address index object kept_after few some_word.
        let markable_field = markable_object (heap (address + 3 + index)) (field_markable address index (object_back address object) few some_word) in
        (object_same (heap (address + 3 + index)) markable_field, object_kept (heap (address + 3 + index)) markable_field);
  }
