-- The steps by which a machine scans a unit of marking.
use Rattle.heap_words.specs.Phases.{marking_phase, evacuation_phase}
use Rattle.std.proofs.Common.{◌≡◌, ◌≢◌, ℕ, ◌+◌, ◌<◌, ◌≤◌, nat_lt, true, false, Option, Some, None, length, ⊎_elim, inl, inr, ◌⊎◌, refl, sym, ap, ◌∙◌, subst, arith}
use Rattle.std.proofs.Math.Path.{fun_ext}
use Rattle.std.specs.Prelude.{◌==◌, Bool, if◌then◌else◌}
use Rattle.std.proofs.lemmas.Bool.{cases_eq, cases_Bool, cond-true, cond-false, eq-eqb, eqb-true, ne_eqb, and_from, lt-ltb, ltb-true, ltb-false, le-leb}
use Rattle.std.proofs.lemmas.Option.{slice_get-get_or}
use Rattle.heap_words.specs.declared.config.Config.{Config}
use Rattle.heap_words.specs.declared.access.Unit.TheVariants.{Worked, NoneLeft}
use Rattle.heap_words.specs.Encoding.{refs_in}
use Rattle.heap_words.specs.Words.{Phase, Word, Claim, Count, Buffer, Grey, Black, Heap, IsWord, is_word, bit_words}
use Rattle.heap_words.proofs.Shapes.{refs_in-shape_word}
use Rattle.heap_words.proofs.Stores.{is_word_true}
use Rattle.heap_words.specs.Touch.{touched}
use Rattle.regions.specs.Marks.{mark_word, mark_bit, mark_at, address_at, lowest_address, HasMark}
use Rattle.regions.proofs.MarksApart.{mark_set, mark_stays, word_inside}
use Rattle.shen_graph.specs.declared.name.Name.{Name}
use Rattle.shen_graph.specs.Graph.{Reference}
use Rattle.heap_world.specs.World.{World, moved, Scan, thing, Points, was_at, IsMarkable, IsNoted, IsToScan, NeedsNoMarking, IsTracedAt, AreMarks, AreEntries, NotedIn, Shared}
use Rattle.heap_world.specs.Rely.{Rely}
use Rattle.heap_world.specs.Part.{PartStep, SameWork}
use Rattle.heap_world.proofs.Pointing.{named_thing}
use Rattle.heap_world.proofs.Unmoved.{unmoved}
use Rattle.heap_world.proofs.FunctionUpdates.{updated, updated_there, updated_else}
use Rattle.unit_part.specs.declared.scan_spot.ScanSpot.{ScanSpot}
use Rattle.unit_part.specs.declared.scan_spot.ScanSpot.TheVariants.{LoadClaim, ClaimUnit, LoadGrey, LoadBlack, SetBlack, LoadShape, LoadField, SetGrey, Ended}
use Rattle.unit_part.specs.ScanRows.{touch_at, next_at, next_reference, has_unit, has_fields, unscanned_in, is_ended, is_ready, hinted}
use Rattle.unit_part.proofs.Found.{unscanned_found}
use Rattle.cycle_steps.specs.Scanning.{scan_at, scanning_of, IsAtField, IsDoneOrFound, ScanFacts, CanScan}
use Rattle.cycle_steps.proofs.Changes.{with_marking, marking_touched, marking_loaded, world_after, step_after}
use Rattle.cycle_steps.proofs.MarkedMore.{markable_shape, markable_word, marks_with}
use Rattle.cycle_steps.proofs.Scanned.{scan_of_others, scan_passes, scan_blackened}

-- what a step of a machine that scans owes
abbrev ScanStep : Config → World → ℕ → ScanSpot → Type 0
ScanStep config world seat spot = PartStep config world seat (touch_at config spot) (λ next_world. CanScan config next_world seat (next_at config spot (world.memory (touch_at config spot).word)) × SameWork world next_world seat × (next_world.block ≡ world.block))

-- a word of the heap is one by test
word_there : (config : Config) (address : ℕ) → IsWord config (Heap address) → is_word config (Heap address) ≡ true
word_there config address word_is = and_from _ _ (le-leb _ _ word_is.0) (lt-ltb _ _ word_is.1)

module _ (config : Config) (world : World) (seat : ℕ) where
  -- the words after the access of a spot: a load leaves them
  abbrev words_then : ScanSpot → Word → ℕ
  words_then (ClaimUnit unit) = touched world.memory (touch_at config (ClaimUnit unit))
  words_then (SetBlack address) = touched world.memory (touch_at config (SetBlack address))
  words_then (SetGrey address field refs found) = touched world.memory (touch_at config (SetGrey address field refs found))
  words_then _ = world.memory

  -- the word that it finds
  abbrev found_at : ScanSpot → ℕ
  found_at spot = world.memory (touch_at config spot).word

  -- who scans what, once the machine has gone on
  abbrev scans_then : ScanSpot → ℕ → Option Scan
  scans_then next = updated world.ghost.scanning seat (scanning_of next)

  -- the world then
  abbrev world_then : ScanSpot → ScanSpot → World
  world_then spot next = world_after config world seat (words_then spot) world.ghost.recording (scans_then next)

  -- what is noted then
  abbrev NotedThen : ScanSpot → ℕ → Type 0
  NotedThen spot seat = IsNoted config (λ number. words_then spot (Grey number)) (λ mutator. words_then spot (Count mutator)) (λ mutator entry. words_then spot (Buffer mutator entry)) world.ghost.recording seat

  memory_then : (spot : ScanSpot) → with_marking world.memory (words_then spot) ≡ touched world.memory (touch_at config spot)
  memory_then LoadClaim = marking_loaded world.memory Claim
  memory_then (ClaimUnit unit) = marking_touched world.memory (touch_at config (ClaimUnit unit)) refl
  memory_then (LoadGrey word) = marking_loaded world.memory (Grey word)
  memory_then (LoadBlack word grey) = marking_loaded world.memory (Black word)
  memory_then (SetBlack address) = marking_touched world.memory (touch_at config (SetBlack address)) refl
  memory_then (LoadShape address) = marking_loaded world.memory (Heap (address + 1))
  memory_then (LoadField address field refs) = marking_loaded world.memory (Heap (address + 3 + field))
  memory_then (SetGrey address field refs found) = marking_touched world.memory (touch_at config (SetGrey address field refs found)) refl
  memory_then (Ended unit) = marking_loaded world.memory Claim

  greys_stay : (spot : ScanSpot) (any_address : ℕ) → HasMark config (λ number. world.memory (Grey number)) any_address → HasMark config (λ number. words_then spot (Grey number)) any_address
  greys_stay (SetGrey address field refs found) any_address mark = mark_stays config (λ number. world.memory (Grey number)) found any_address mark
  greys_stay _ any_address mark = mark

  counts_stay : (spot : ScanSpot) (mutator : ℕ) → words_then spot (Count mutator) ≡ world.memory (Count mutator)
  counts_stay LoadClaim mutator = refl
  counts_stay _ mutator = refl

  buffers_stay : (spot : ScanSpot) (mutator index : ℕ) → words_then spot (Buffer mutator index) ≡ world.memory (Buffer mutator index)
  buffers_stay LoadClaim mutator index = refl
  buffers_stay _ mutator index = refl

  claims_grow : (spot : ScanSpot) → world.memory Claim ≤ words_then spot Claim
  claims_grow LoadClaim = omega arith
  claims_grow (ClaimUnit unit) = ⊎_elim
      (λ (won : (world.memory Claim == unit) ≡ true).
      let claim_now : words_then (ClaimUnit unit) Claim ≡ unit + 1 = cond-true (world.memory Claim == unit) _ _ won in
      let claim_was = eqb-true _ _ won in
      omega (arith, claim_now, claim_was))
      (λ (lost : (world.memory Claim == unit) ≡ false). let claim_now : words_then (ClaimUnit unit) Claim ≡ world.memory Claim = cond-false (world.memory Claim == unit) _ _ lost in omega (arith, claim_now))
      (cases_Bool (world.memory Claim == unit))
  claims_grow _ = omega arith

  -- what is noted stays so
  noted_then : (spot : ScanSpot) (word : ℕ) → NotedIn config world word → NotedThen spot word
  noted_then spot word (IsNoted.by_mark mark) = IsNoted.by_mark (greys_stay spot word mark)
  noted_then spot word (IsNoted.by_entry mutator index seat_inside entry_below noted_is) = IsNoted.by_entry mutator index seat_inside (subst (λ count. index < count) (sym (counts_stay spot mutator)) entry_below) (buffers_stay spot mutator index ∙ noted_is)
  noted_then spot word (IsNoted.by_hand thread seat_inside noted_is) = IsNoted.by_hand thread seat_inside noted_is

  entries_stay : (spot : ScanSpot) → AreEntries config (λ mutator. world.memory (Count mutator)) (λ mutator entry. world.memory (Buffer mutator entry)) world.block
      → AreEntries config (λ mutator. words_then spot (Count mutator)) (λ mutator entry. words_then spot (Buffer mutator entry)) world.block
  entries_stay LoadClaim entries = entries
  entries_stay _ entries = entries

  -- the bits that are set are of objects
  greys_then : (spot : ScanSpot) → Shared config world → CanScan config world seat spot → AreMarks config (λ number. words_then spot (Grey number)) world.block
  greys_then (SetGrey address field refs found) shared can_scan =
      marks_with config (λ number. world.memory (Grey number)) world.block found (markable_word config world found shared can_scan.facts.1) can_scan.facts.1 (shared.marked.marking can_scan.phase).greys
  greys_then _ shared can_scan = (shared.marked.marking can_scan.phase).greys

  blacks_then : (spot : ScanSpot) → Shared config world → CanScan config world seat spot → AreMarks config (λ number. words_then spot (Black number)) world.block
  blacks_then (SetBlack address) shared can_scan =
      marks_with config (λ number. world.memory (Black number)) world.block address (markable_word config world address shared can_scan.facts) can_scan.facts (shared.marked.marking can_scan.phase).blacks
  blacks_then _ shared can_scan = (shared.marked.marking can_scan.phase).blacks

  -- a field of the snapshot that a scan had still to come to is such a one, or done
  abbrev IsScannedOn : ScanSpot → ScanSpot → Type 0
  IsScannedOn spot next = (address refs nums field : ℕ) (name : Name) → world.ghost.snapshot.block address ≡ Some (thing name refs nums) → field < refs
      → IsToScan config (λ number. world.memory (Black number)) world.ghost.scanning address field
      → IsToScan config (λ number. words_then spot (Black number)) (scans_then next) address field ⊎ NeedsNoMarking world.ghost.snapshot (NotedThen spot) address field

  -- a step that leads to another spot
  leads_to : (spot next : ScanSpot) → next_at config spot (found_at spot) ≡ next → is_ready config next ≡ true → ScanFacts config (world_then spot next) next → IsScannedOn spot next
      → Shared config world → CanScan config world seat spot → ScanStep config world seat spot
  leads_to old_spot next leads next_ready facts scanned shared can_scan =
      step_after config world seat (words_then old_spot) world.ghost.recording (scans_then next) shared
      (record {
        phase = can_scan.phase;
        claims = claims_grow old_spot;
        greys = greys_stay old_spot;
        noted = noted_then old_spot;
        scanned = scanned;
        grey_marks = greys_then old_spot shared can_scan;
        black_marks = blacks_then old_spot shared can_scan;
        entries = entries_stay old_spot (shared.marked.marking can_scan.phase).entries;
        counts = λ mutator differs. counts_stay old_spot mutator;
        buffers = λ mutator index differs. buffers_stay old_spot mutator index;
        recorded = λ other_seat differs. refl;
        scans = λ other_seat differs. updated_else world.ghost.scanning seat (scanning_of next) other_seat (λ same_seat. differs (sym same_seat));
      })
      (touch_at config old_spot) (λ world. CanScan config world seat (next_at config old_spot (found_at old_spot))) (memory_then old_spot)
      (subst (λ spot. CanScan config (world_then old_spot next) seat spot) (sym leads) (record {
        seated = can_scan.seated;
        phase = can_scan.phase;
        scanning = updated_there world.ghost.scanning seat (scanning_of next);
        records_none = can_scan.records_none;
        ready = next_ready;
        hands = can_scan.hands;
        facts = facts;
      }))

  -- a step outside a scan that leaves the black bits
  looks : (spot next : ScanSpot) → ((number : ℕ) → world.memory (Black number) ≡ words_then spot (Black number)) → world.ghost.scanning seat ≡ None → IsScannedOn spot next
  looks spot next same_black idle address refs nums field name object_there field_below scan =
      subst (λ any_black. IsToScan config any_black (scans_then next) address field ⊎ NeedsNoMarking world.ghost.snapshot (NotedThen spot) address field) (fun_ext same_black)
      (scan_of_others config seat world.ghost.scanning (scanning_of next) (λ number. world.memory (Black number)) address field (NeedsNoMarking world.ghost.snapshot (NotedThen spot) address field) idle scan)

  -- the load of what is claimed
  at_load_claim : Shared config world → CanScan config world seat LoadClaim → ScanStep config world seat LoadClaim
  at_load_claim shared can_scan = ⊎_elim
      (λ (some_unit : has_unit config (world.memory Claim) ≡ true).
      leads_to LoadClaim (ClaimUnit (world.memory Claim)) (cond-true (has_unit config (world.memory Claim)) _ _ some_unit) some_unit tt (looks LoadClaim (ClaimUnit (world.memory Claim)) (λ n. refl) can_scan.scanning) shared can_scan)
      (λ (no_unit : has_unit config (world.memory Claim) ≡ false).
      leads_to LoadClaim (Ended NoneLeft) (cond-false (has_unit config (world.memory Claim)) _ _ no_unit) refl tt (looks LoadClaim (Ended NoneLeft) (λ n. refl) can_scan.scanning) shared can_scan)
      (cases_Bool (has_unit config (world.memory Claim)))

  -- the claim
  at_claim_unit : (unit : ℕ) → Shared config world → CanScan config world seat (ClaimUnit unit) → ScanStep config world seat (ClaimUnit unit)
  at_claim_unit unit shared can_scan = ⊎_elim
      (λ (won : (world.memory Claim == unit) ≡ true).
      leads_to (ClaimUnit unit) (LoadGrey unit) (cond-true (world.memory Claim == unit) _ _ won) can_scan.ready tt
      (looks (ClaimUnit unit) (LoadGrey unit) (λ n. refl) can_scan.scanning) shared can_scan)
      (λ (lost : (world.memory Claim == unit) ≡ false).
      leads_to (ClaimUnit unit) LoadClaim (cond-false (world.memory Claim == unit) _ _ lost) refl tt (looks (ClaimUnit unit) LoadClaim (λ n. refl) can_scan.scanning) shared can_scan)
      (cases_Bool (world.memory Claim == unit))

  -- the load of grey bits
  at_load_grey : (word : ℕ) → Shared config world → CanScan config world seat (LoadGrey word) → ScanStep config world seat (LoadGrey word)
  at_load_grey word shared can_scan =
      let greys = (shared.marked.marking can_scan.phase).greys in
      leads_to (LoadGrey word) (LoadBlack word (world.memory (Grey word))) refl can_scan.ready
      (record { small = greys.small word; of_objects = λ bit bit_below bit_set. greys.of_objects word bit bit_below bit_set })
      (looks (LoadGrey word) (LoadBlack word (world.memory (Grey word))) (λ n. refl) can_scan.scanning) shared can_scan

  -- the load of black bits
  at_load_black : (word grey : ℕ) → Shared config world → CanScan config world seat (LoadBlack word grey) → ScanStep config world seat (LoadBlack word grey)
  at_load_black word grey shared can_scan =
      let got : ℕ = world.memory (Black word) in
      ⊎_elim
      (λ (none_grey : unscanned_in grey got ≡ 0).
      leads_to (LoadBlack word grey) (Ended Worked) (cond-true (unscanned_in grey got == 0) _ _ (eq-eqb _ _ none_grey)) refl tt
      (looks (LoadBlack word grey) (Ended Worked) (λ n. refl) can_scan.scanning) shared can_scan)
      (λ (some_grey : unscanned_in grey got ≢ 0).
      let address : ℕ = lowest_address config word (unscanned_in grey got) in
      let found_next = unscanned_found.next config word grey got can_scan.facts.small ((shared.marked.marking can_scan.phase).blacks.small word) some_grey in
      let same_address : address_at config word (mark_bit config address) ≡ address = (let in_word = found_next.in_word in omega (arith, in_word)) in
      let object : IsMarkable world.block address = subst (IsMarkable world.block) same_address (can_scan.facts.of_objects (mark_bit config address) (omega arith) found_next.unscanned.is_grey) in
      leads_to (LoadBlack word grey) (SetBlack address) (cond-false (unscanned_in grey got == 0) _ _ (ne_eqb _ _ some_grey)) (word_there config address (markable_word config world address shared object)) object
      (looks (LoadBlack word grey) (SetBlack address) (λ n. refl) can_scan.scanning) shared can_scan)
      (cases_eq (unscanned_in grey got) 0)

  -- what stands at an address of the snapshot
  snapshot_refs : (address refs nums : ℕ) (name : Name) → Shared config world → world.ghost.snapshot.block address ≡ Some (thing name refs nums) → refs_in (world.memory (Heap (address + 1))) ≡ refs
  snapshot_refs address refs nums name shared object_was =
      let object_facts = (shared.contents.objects.each address refs nums name (shared.marked.kept address refs nums name object_was)).2 in
      ap refs_in object_facts.shape ∙ refs_in-shape_word refs nums object_facts.few_refs object_facts.few_nums

  snapshot_word : (address refs nums : ℕ) (name : Name) → Shared config world → world.ghost.snapshot.block address ≡ Some (thing name refs nums) → IsWord config (Heap address)
  snapshot_word address refs nums name shared object_was = markable_word config world address shared (IsMarkable.object name refs nums (shared.marked.kept address refs nums name object_was))

  -- an object is made black: one that was not is scanned from its first field on
  at_set_black : (address : ℕ) → Shared config world → CanScan config world seat (SetBlack address) → ScanStep config world seat (SetBlack address)
  at_set_black address shared can_scan =
      let heap : IsWord config (Heap address) = markable_word config world address shared can_scan.facts in
      ⊎_elim
      (λ (object_black : (mark_at config (λ number. world.memory (Black number)) address == 1) ≡ true).
      leads_to (SetBlack address) (LoadGrey (mark_word config address)) (cond-true (mark_at config (λ number. world.memory (Black number)) address == 1) _ _ object_black)
      (lt-ltb (mark_word config address) (bit_words config) (word_inside config address heap)) tt
      (λ other_address refs nums field name object_was below_limit scan. inl (scan_blackened config seat world.ghost.scanning None (λ number. world.memory (Black number)) other_address field address heap (snapshot_word other_address refs nums name shared object_was) can_scan.scanning
      (λ same_address white. (let is_black : mark_at config (λ number. world.memory (Black number)) other_address ≡ 1 = ap (mark_at config (λ number. world.memory (Black number))) same_address ∙ eqb-true _ _ object_black in absurd (omega (arith, is_black, white)))) scan))
      shared can_scan)
      (λ (white : (mark_at config (λ number. world.memory (Black number)) address == 1) ≡ false).
      let shape = markable_shape config world address shared can_scan.facts in
      let second_word : IsWord config (Heap (address + 1)) = (let address_above = shape.above in omega (arith, address_above), let below_limit = shape.below in omega (arith, below_limit)) in
      leads_to (SetBlack address) (LoadShape address) (cond-false (mark_at config (λ number. world.memory (Black number)) address == 1) _ _ white)
      (and_from _ _ (word_there config address heap) (word_there config (address + 1) second_word)) can_scan.facts
      (λ other_address refs nums field name object_was below_limit scan. inl (scan_blackened config seat world.ghost.scanning (Some (scan_at address 0)) (λ number. world.memory (Black number)) other_address field address heap (snapshot_word other_address refs nums name shared object_was) can_scan.scanning
      (λ same_address unset. IsToScan.in_scan seat 0 can_scan.seated (updated_there world.ghost.scanning seat (Some (scan_at address 0)) ∙ ap (λ x. Some (scan_at x 0)) (sym same_address)) (omega arith)) scan))
      shared can_scan)
      (cases_Bool (mark_at config (λ number. world.memory (Black number)) address == 1))

  -- a scan goes on to a field, or ends
  abbrev GoesTo : ℕ → ℕ → ℕ → ScanSpot → Type 0
  GoesTo address field refs next = (scanning_of next ≡ Some (scan_at address field)) ⊎ ((scanning_of next ≡ None) × (refs ≤ field))

  -- the words of an object's references
  fields_there : (address refs : ℕ) → Shared config world → IsMarkable world.block address → refs_in (world.memory (Heap (address + 1))) ≡ refs → has_fields config address refs ≡ true
  fields_there address refs shared markable refs_are =
      let shape = markable_shape config world address shared markable in
      let says = shape.says in
      let address_above = shape.above in
      let end_below = shape.below in
      and_from _ _ (word_there config address (markable_word config world address shared markable)) (word_there config (address + 2 + refs) (omega (arith, address_above), omega (arith, end_below, says, refs_are)))

  -- the next reference, or the word of bits again
  goes_on : (spot : ScanSpot) (address field refs : ℕ) → next_at config spot (found_at spot) ≡ next_reference config address field refs → IsMarkable world.block address → refs_in (world.memory (Heap (address + 1))) ≡ refs
      → ((next : ScanSpot) → GoesTo address field refs next → IsScannedOn spot next) → Shared config world → CanScan config world seat spot → ScanStep config world seat spot
  goes_on spot address field refs leads markable refs_are scanned shared can_scan = ⊎_elim
      (λ (more_fields : nat_lt field refs ≡ true).
      leads_to spot (LoadField address field refs) (leads ∙ cond-true (nat_lt field refs) _ _ more_fields) (and_from _ _ (fields_there address refs shared markable refs_are) more_fields)
      (record { object = markable; refs_are = refs_are; below = ltb-true field refs more_fields }) (scanned (LoadField address field refs) (inl refl)) shared can_scan)
      (λ (no_more : nat_lt field refs ≡ false).
      leads_to spot (LoadGrey (mark_word config address)) (leads ∙ cond-false (nat_lt field refs) _ _ no_more)
      (lt-ltb (mark_word config address) (bit_words config) (word_inside config address (markable_word config world address shared markable))) tt
      (scanned (LoadGrey (mark_word config address)) (inr (refl, ltb-false field refs no_more))) shared can_scan)
      (cases_Bool (nat_lt field refs))

  -- what the machine's own scan leaves behind is done
  passes : (spot next : ScanSpot) (address from field refs : ℕ) → ((number : ℕ) → world.memory (Black number) ≡ words_then spot (Black number)) → Shared config world → CanScan config world seat spot → scanning_of spot ≡ Some (scan_at address from)
      → refs_in (world.memory (Heap (address + 1))) ≡ refs → GoesTo address field refs next
      → ((name : Name) (old_refs nums old_field : ℕ) → world.ghost.snapshot.block address ≡ Some (thing name old_refs nums) → old_field < old_refs → from ≤ old_field → old_field < field → NeedsNoMarking world.ghost.snapshot (NotedThen spot) address old_field) → IsScannedOn spot next
  passes spot next address from field refs same_black shared can_scan scans refs_are goes_to passed old_address old_refs nums old_field name old old_below scan =
      subst (λ any_black. IsToScan config any_black (scans_then next) old_address old_field ⊎ NeedsNoMarking world.ghost.snapshot (NotedThen spot) old_address old_field) (fun_ext same_black)
      (scan_passes config seat world.ghost.scanning (scanning_of next) (λ number. world.memory (Black number)) old_address old_field (NeedsNoMarking world.ghost.snapshot (NotedThen spot) old_address old_field) address from field refs can_scan.seated (can_scan.scanning ∙ scans) goes_to
      (λ same_object. (let old_count : refs_in (world.memory (Heap (old_address + 1))) ≡ old_refs = snapshot_refs old_address old_refs nums name shared old in
      let new_count : refs_in (world.memory (Heap (old_address + 1))) ≡ refs = ap (λ any_place. refs_in (world.memory (Heap (any_place + 1)))) same_object ∙ refs_are in
      omega (arith, old_below, old_count, new_count)))
      (λ same_object start end. subst (λ any_place. NeedsNoMarking world.ghost.snapshot (NotedThen spot) any_place old_field) (sym same_object) (passed name old_refs nums old_field (ap world.ghost.snapshot.block (sym same_object) ∙ old) old_below start end))
      scan)

  -- the load of an object's shape
  at_load_shape : (address : ℕ) → Shared config world → CanScan config world seat (LoadShape address) → ScanStep config world seat (LoadShape address)
  at_load_shape address shared can_scan =
      goes_on (LoadShape address) address 0 (refs_in (world.memory (Heap (address + 1)))) refl can_scan.facts refl
      (λ next goes_to. passes (LoadShape address) next address 0 0 (refs_in (world.memory (Heap (address + 1)))) (λ n. refl) shared can_scan refl refl goes_to
      (λ name old_refs nums some_field old field_below start end. absurd (omega (arith, end))))
      shared can_scan

  -- what a field of the snapshot had is done, or is there
  field_then : (address field : ℕ) → Shared config world → IsDoneOrFound config world address field (world.memory (Heap (address + 3 + field)))
  field_then address field shared name refs nums object_was field_below = by_edge (shared.marked.traced.edges address refs nums field name object_was field_below)
    where
      by_edge : IsTracedAt config world.ghost.snapshot (λ address. world.memory (Heap address)) (λ number. world.memory (Black number)) world.ghost.scanning (NotedIn config world) address field
          → NeedsNoMarking world.ghost.snapshot (NotedIn config world) address field ⊎ (was_at world.ghost.snapshot address field ≡ world.memory (Heap (address + 3 + field)))
      by_edge (IsTracedAt.done is_done) = inl is_done
      by_edge (IsTracedAt.stands same_word scan) = inr (sym same_word)

  -- a word that stands for a reference and is not 0 is an object
  reference_object : ((address refs nums copy : ℕ) (name : Name) → world.block address ≡ Some (moved name refs nums copy) → ⊥) → (word : ℕ) (reference : Reference) → Points world.block word reference → word ≢ 0 → IsMarkable world.block word
  reference_object unmoved word None points some_word = absurd (some_word points)
  reference_object unmoved word (Some name) points some_word = let piece = named_thing (world.block word) name (λ refs nums copy. unmoved word refs nums copy name) points in IsMarkable.object name piece.0 piece.1 piece.2

  -- what a field of an object names is one
  field_object : (address field refs : ℕ) → Shared config world → world.memory Phase ≡ marking_phase → IsMarkable world.block address → refs_in (world.memory (Heap (address + 1))) ≡ refs → field < refs → world.memory (Heap (address + 3 + field)) ≢ 0
      → IsMarkable world.block (world.memory (Heap (address + 3 + field)))
  field_object address field refs shared marking_phase (IsMarkable.object name object_refs nums piece_there) refs_are field_below some_reference =
      let of_graph = shared.contents.objects.each address object_refs nums name piece_there in
      let object_facts = of_graph.2 in
      let same_refs : refs_in (world.memory (Heap (address + 1))) ≡ object_refs = ap refs_in object_facts.shape ∙ refs_in-shape_word object_refs nums object_facts.few_refs object_facts.few_nums in
      let field_within : field < length of_graph.0.refs = (let many = object_facts.refs_are in omega (arith, field_below, refs_are, same_refs, many)) in
      reference_object (unmoved config world shared (omega (arith, marking_phase))) (world.memory (Heap (address + 3 + field))) _ (object_facts.references field _ (slice_get-get_or of_graph.0.refs field None field_within)) some_reference
  field_object address field refs shared marking_phase (IsMarkable.to_come owner words piece_there) refs_are field_below some_reference =
      let blank = shared.unwritten.blanks address owner words piece_there in
      let same_refs : refs_in (world.memory (Heap (address + 1))) ≡ blank.refs = ap refs_in blank.shape ∙ refs_in-shape_word blank.refs blank.nums blank.few_refs blank.few_nums in
      absurd (some_reference (blank.nulls field (omega (arith, field_below, refs_are, same_refs))))

  -- the load of a field
  at_load_field : (address field refs : ℕ) → Shared config world → CanScan config world seat (LoadField address field refs) → ScanStep config world seat (LoadField address field refs)
  at_load_field address field refs shared can_scan =
      let got : ℕ = world.memory (Heap (address + 3 + field)) in
      let facts = can_scan.facts in
      ⊎_elim
      (λ (null : got ≡ 0).
      goes_on (LoadField address field refs) address (field + 1) refs (cond-true (got == 0) _ _ (eq-eqb got 0 null)) facts.object facts.refs_are
      (λ next goes_to. passes (LoadField address field refs) next address field (field + 1) refs (λ n. refl) shared can_scan refl facts.refs_are goes_to
      (λ name old_refs nums other_field old old_below start old_end.
      let same_field : field ≡ other_field = omega (arith, start, old_end) in
      subst (λ any_field. NeedsNoMarking world.ghost.snapshot (NotedIn config world) address any_field) same_field
      (null_done null (field_then address field shared name old_refs nums old (subst (λ any_field. any_field < old_refs) (sym same_field) old_below)))))
      shared can_scan)
      (λ (not_null : got ≢ 0).
      let object : IsMarkable world.block got = field_object address field refs shared can_scan.phase facts.object facts.refs_are facts.below not_null in
      leads_to (LoadField address field refs) (SetGrey address field refs got) (cond-false (got == 0) _ _ (ne_eqb got 0 not_null))
      (and_from _ _ (fields_there address refs shared facts.object facts.refs_are) (and_from _ _ (lt-ltb field refs facts.below) (word_there config got (markable_word config world got shared object))))
      (record { object = facts.object; refs_are = facts.refs_are; below = facts.below }, object, field_then address field shared)
      (passes (LoadField address field refs) (SetGrey address field refs got) address field field refs (λ n. refl) shared can_scan refl facts.refs_are (inl refl)
      (λ name old_refs nums other_field old old_below start old_end. absurd (omega (arith, start, old_end))))
      shared can_scan)
      (cases_eq got 0)
    where
      null_done : world.memory (Heap (address + 3 + field)) ≡ 0 → NeedsNoMarking world.ghost.snapshot (NotedIn config world) address field ⊎ (was_at world.ghost.snapshot address field ≡ world.memory (Heap (address + 3 + field)))
          → NeedsNoMarking world.ghost.snapshot (NotedIn config world) address field
      null_done null (inl is_done) = is_done
      null_done null (inr same_word) = inl (same_word ∙ null)

  -- what a field names is made grey
  at_set_grey : (address field refs found : ℕ) → Shared config world → CanScan config world seat (SetGrey address field refs found) → ScanStep config world seat (SetGrey address field refs found)
  at_set_grey address field refs found shared can_scan =
      let facts = can_scan.facts.0 in
      goes_on (SetGrey address field refs found) address (field + 1) refs refl facts.object facts.refs_are
      (λ next goes_to. passes (SetGrey address field refs found) next address field (field + 1) refs (λ n. refl) shared can_scan refl facts.refs_are goes_to
      (λ old_name old_refs num_count other_field old old_below start old_end.
      let same_field : field ≡ other_field = omega (arith, start, old_end) in
      subst (λ any_field. NeedsNoMarking world.ghost.snapshot (NotedThen (SetGrey address field refs found)) address any_field) same_field
      (grey_done (can_scan.facts.2 old_name old_refs num_count old (subst (λ any_field. any_field < old_refs) (sym same_field) old_below)))))
      shared can_scan
    where
      grey_done : NeedsNoMarking world.ghost.snapshot (NotedIn config world) address field ⊎ (was_at world.ghost.snapshot address field ≡ found)
          → NeedsNoMarking world.ghost.snapshot (NotedThen (SetGrey address field refs found)) address field
      grey_done (inl (inl null)) = inl null
      grey_done (inl (inr noted)) = inr (noted_then (SetGrey address field refs found) _ noted)
      grey_done (inr same_word) = inr (subst (NotedThen (SetGrey address field refs found)) (sym same_word) (IsNoted.by_mark (mark_set config (λ number. world.memory (Grey number)) found)))

  -- each step
  pub each_scans : (spot : ScanSpot) → is_ended spot ≡ false → Shared config world → CanScan config world seat spot → ScanStep config world seat spot
  each_scans LoadClaim spot_going shared can_scan = at_load_claim shared can_scan
  each_scans (ClaimUnit unit) spot_going shared can_scan = at_claim_unit unit shared can_scan
  each_scans (LoadGrey word) spot_going shared can_scan = at_load_grey word shared can_scan
  each_scans (LoadBlack word grey) spot_going shared can_scan = at_load_black word grey shared can_scan
  each_scans (SetBlack address) spot_going shared can_scan = at_set_black address shared can_scan
  each_scans (LoadShape address) spot_going shared can_scan = at_load_shape address shared can_scan
  each_scans (LoadField address field refs) spot_going shared can_scan = at_load_field address field refs shared can_scan
  each_scans (SetGrey address field refs found) spot_going shared can_scan = at_set_grey address field refs found shared can_scan
  each_scans (Ended unit) spot_going shared can_scan = absurd (cc (spot_going))

-- While others step, what it counts on stays.
module _ (config : Config) (world other_world : World) (seat : ℕ) (rely : Rely config seat world other_world) where
  field_stays : world.memory Phase ≢ evacuation_phase → (address field refs : ℕ) → IsAtField world address field refs → IsAtField other_world address field refs
  field_stays not_evacuation address field refs facts = record {
    object = rely.marks.keeps.markable not_evacuation address facts.object;
    refs_are = ap refs_in (rely.marks.keeps.shapes address facts.object) ∙ facts.refs_are;
    below = facts.below;
  }

  found_stays : (address field found : ℕ) → IsDoneOrFound config world address field found → IsDoneOrFound config other_world address field found
  found_stays address field found facts name refs nums object_was field_below =
      let snapshot = rely.marks.keeps.snapshot in
      subst (λ some_graph. NeedsNoMarking some_graph (NotedIn config other_world) address field ⊎ (was_at some_graph address field ≡ found)) (sym snapshot)
      (noted_now (facts name refs nums (ap (λ some_graph. some_graph.block address) (sym snapshot) ∙ object_was) field_below))
    where
      noted_now : NeedsNoMarking world.ghost.snapshot (NotedIn config world) address field ⊎ (was_at world.ghost.snapshot address field ≡ found) → NeedsNoMarking world.ghost.snapshot (NotedIn config other_world) address field ⊎ (was_at world.ghost.snapshot address field ≡ found)
      noted_now (inl (inl null)) = inl (inl null)
      noted_now (inl (inr noted)) = inl (inr (rely.marks.keeps.noted _ noted))
      noted_now (inr same_word) = inr same_word

  facts_stay : world.memory Phase ≢ evacuation_phase → (spot : ScanSpot) → ScanFacts config world spot → ScanFacts config other_world spot
  facts_stay not_evacuation (LoadBlack word grey) facts = record { small = facts.small; of_objects = λ bit bit_below bit_set. rely.marks.keeps.markable not_evacuation _ (facts.of_objects bit bit_below bit_set) }
  facts_stay not_evacuation (SetBlack address) facts = rely.marks.keeps.markable not_evacuation address facts
  facts_stay not_evacuation (LoadShape address) facts = rely.marks.keeps.markable not_evacuation address facts
  facts_stay not_evacuation (LoadField address field refs) facts = field_stays not_evacuation address field refs facts
  facts_stay not_evacuation (SetGrey address field refs found) facts = (field_stays not_evacuation address field refs facts.0, rely.marks.keeps.markable not_evacuation found facts.1, found_stays address field found facts.2)
  facts_stay not_evacuation _ facts = tt

  pub can_scan_stays : (spot : ScanSpot) → CanScan config world seat spot → CanScan config other_world seat spot
  can_scan_stays spot can_scan = record {
    seated = can_scan.seated;
    phase = rely.marks.keeps.phase ∙ can_scan.phase;
    scanning = rely.marks.scanning ∙ can_scan.scanning;
    records_none = rely.marks.recording ∙ can_scan.records_none;
    ready = can_scan.ready;
    hands = λ place words hand_there. can_scan.hands place words (rely.no_rooms place _ hand_there refl);
    facts = facts_stay (λ phase_two. (let phase_one = can_scan.phase in omega (arith, phase_one, phase_two))) spot can_scan.facts;
  }

-- Who has claimed no unit may take any hint: of the spot behind it nothing is counted on.
pub hint_scans : (config : Config) (world : World) (seat address : ℕ) → CanScan config world seat LoadClaim → CanScan config world seat (hinted config address)
hint_scans config world seat address can_scan = by_test (is_word config (Heap address)) refl
  where
    at_word : is_word config (Heap address) ≡ true → CanScan config world seat (LoadGrey (mark_word config address))
    at_word address_there = record {
      seated = can_scan.seated;
      phase = can_scan.phase;
      scanning = can_scan.scanning;
      records_none = can_scan.records_none;
      ready = lt-ltb (mark_word config address) (bit_words config) (word_inside config address (is_word_true config (Heap address) address_there));
      hands = can_scan.hands;
      facts = tt;
    }

    by_test : (holds : Bool) → is_word config (Heap address) ≡ holds → CanScan config world seat (if holds then LoadGrey (mark_word config address) else LoadClaim)
    by_test true word_test = at_word word_test
    by_test false outside = can_scan
