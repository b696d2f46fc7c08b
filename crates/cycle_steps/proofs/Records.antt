-- The steps by which a mutator records an address.
use Rattle.heap_words.specs.Phases.{marking_phase}
use Rattle.std.proofs.Common.{◌≡◌, ◌≢◌, ℕ, ◌+◌, ◌<◌, ◌≤◌, true, false, Option, Some, None, ⊎_elim, inl, inr, refl, sym, ap, ◌∙◌, subst, arith}
use Rattle.std.specs.Prelude.{◌==◌, ◌&&◌}
use Rattle.std.specs.Int.{bit_at}
use Rattle.std.proofs.lemmas.Bool.{cases_eq, cond-true, cond-false, eq-eqb, ne_eqb}
use Rattle.std.proofs.lemmas.Bool.Decides.{nat_tests}
use Rattle.std.proofs.lemmas.Option.{same_Some}
use Rattle.heap_words.specs.declared.config.Config.{Config}
use Rattle.heap_words.specs.Words.{Claim, Word, Phase, Count, Buffer, Grey, Black, Heap, IsWord}
use Rattle.heap_words.specs.Touch.{touched}
use Rattle.regions.specs.Marks.{mark_word, mark_bit, address_at, HasMark}
use Rattle.regions.proofs.MarksApart.{word_back, bit_back, mark_stays, word_inside}
use Rattle.heap_world.specs.World.{World, Scan, hand, with_recording, IsMarkable, IsNoted, IsToScan, AreMarks, AreEntries, NotedIn, Shared}
use Rattle.heap_world.specs.Rely.{Keeps, Rely}
use Rattle.heap_world.specs.Part.{PartStep, SameWork}
use Rattle.heap_world.proofs.Keeping.{load_keeps}
use Rattle.heap_world.proofs.FunctionUpdates.{updated, updated_there, updated_else}
use Rattle.satb_barrier.specs.declared.spot.RememberSpot.{RememberSpot}
use Rattle.satb_barrier.specs.declared.spot.RememberSpot.TheVariants.{LoadCount, LoadEntry, MarkEntry, ClearCount, StoreEntry, StoreCount, Recorded}
use Rattle.satb_barrier.specs.Rows.{touch_at, next_at, is_ended}
use Rattle.satb_barrier.specs.Recorded.{IsRecorded, LeaveBuffer}
use Rattle.satb_barrier.specs.Facts.{CanRemember}
use Rattle.satb_barrier.proofs.Remembering.{RememberStep, can_remember_stays, each_remembers}
use Rattle.cycle_steps.specs.Recording.{recording_of, CanRecord}
use Rattle.cycle_steps.specs.Laws.{with_in_hand, TakesInHand}
use Rattle.cycle_steps.proofs.Changes.{is_marking, marking_touched, same_marking, world_after, IsMarkingStep, shared_after, keeps_after, others_after, step_after}
use Rattle.cycle_steps.proofs.MarkedMore.{markable_word, marks_with}

-- what a step of a mutator that records an address owes
abbrev RecordStep : Config → World → ℕ → ℕ → RememberSpot → Type 0
RecordStep config world mutator recorded spot =
    PartStep config world mutator (touch_at config mutator recorded spot) (λ next_world. CanRecord config next_world mutator recorded (next_at spot (world.memory (touch_at config mutator recorded spot).word)) × SameWork world next_world mutator × (next_world.block ≡ world.block))

-- what is recorded is noted
recorded_noted : (config : Config) (memory : Word → ℕ) (recording : ℕ → Option ℕ) (mutator address : ℕ) → mutator < config.mutators → IsRecorded config memory mutator address
    → IsNoted config (λ number. memory (Grey number)) (λ mutator. memory (Count mutator)) (λ mutator entry. memory (Buffer mutator entry)) recording address
recorded_noted config memory recording mutator address seated (inl mark) = IsNoted.by_mark mark
recorded_noted config memory recording mutator address seated (inr (noted_entry, entry_below, entry_is)) = IsNoted.by_entry mutator noted_entry seated entry_below entry_is

-- until then the address is in hand
in_hand : (spot : RememberSpot) (value : ℕ) → is_ended spot ≡ false → recording_of spot value ≡ Some value
in_hand Recorded value spot_going = absurd (cc (spot_going))
in_hand _ value spot_going = refl

-- the address is noted, in hand or recorded
noted_at : (config : Config) (memory : Word → ℕ) (recording : ℕ → Option ℕ) (mutator address : ℕ) (spot : RememberSpot) → mutator < config.mutators → recording mutator ≡ recording_of spot address → CanRemember config memory mutator address spot
    → IsNoted config (λ number. memory (Grey number)) (λ mutator. memory (Count mutator)) (λ mutator entry. memory (Buffer mutator entry)) recording address
noted_at config memory recording mutator address Recorded seated recording_is can_remember = recorded_noted config memory recording mutator address seated can_remember.facts
noted_at config memory recording mutator address _ seated recording_is can_remember = IsNoted.by_hand mutator seated recording_is

module _ (config : Config) (world : World) (mutator recorded : ℕ) where
  -- the words after the access of a spot
  abbrev after : RememberSpot → Word → ℕ
  after spot = touched world.memory (touch_at config mutator recorded spot)

  -- where the mutator stands then
  abbrev next : RememberSpot → RememberSpot
  next spot = next_at spot (world.memory (touch_at config mutator recorded spot).word)

  -- and who has which address in hand
  abbrev hands : RememberSpot → ℕ → Option ℕ
  hands spot = updated world.ghost.recording mutator (recording_of (next spot) recorded)

  -- its accesses are of words of marking
  of_marking : (spot : RememberSpot) → is_marking (touch_at config mutator recorded spot).word ≡ true
  of_marking LoadCount = refl
  of_marking (LoadEntry entry) = refl
  of_marking (MarkEntry entry found) = refl
  of_marking ClearCount = refl
  of_marking (StoreEntry entry) = refl
  of_marking (StoreCount entry) = refl
  of_marking Recorded = refl

  -- the buffers of others stay
  counts_else : (spot : RememberSpot) (other_mutator : ℕ) → other_mutator ≢ mutator → after spot (Count other_mutator) ≡ world.memory (Count other_mutator)
  counts_else LoadCount other_mutator mutators_differ = cond-false (mutator == other_mutator) _ _ (ne_eqb mutator other_mutator (λ same_mutator. mutators_differ (sym same_mutator)))
  counts_else ClearCount other_mutator mutators_differ = cond-false (mutator == other_mutator) _ _ (ne_eqb mutator other_mutator (λ same_mutator. mutators_differ (sym same_mutator)))
  counts_else (StoreCount entry) other_mutator mutators_differ = cond-false (mutator == other_mutator) _ _ (ne_eqb mutator other_mutator (λ same_mutator. mutators_differ (sym same_mutator)))
  counts_else Recorded other_mutator mutators_differ = cond-false (mutator == other_mutator) _ _ (ne_eqb mutator other_mutator (λ same_mutator. mutators_differ (sym same_mutator)))
  counts_else _ other_mutator mutators_differ = refl

  buffers_else : (spot : RememberSpot) (other_mutator index : ℕ) → other_mutator ≢ mutator → after spot (Buffer other_mutator index) ≡ world.memory (Buffer other_mutator index)
  buffers_else (LoadEntry entry) other_mutator index mutators_differ = cond-false ((mutator == other_mutator) && (entry == index)) _ _ (ap (λ mutator_test. mutator_test && (entry == index)) (ne_eqb mutator other_mutator (λ same_mutator. mutators_differ (sym same_mutator))))
  buffers_else (StoreEntry entry) other_mutator index mutators_differ = cond-false ((mutator == other_mutator) && (entry == index)) _ _ (ap (λ mutator_test. mutator_test && (entry == index)) (ne_eqb mutator other_mutator (λ same_mutator. mutators_differ (sym same_mutator))))
  buffers_else _ other_mutator index mutators_differ = refl

  -- what is grey stays so
  greys_stay : (spot : RememberSpot) (grey_address : ℕ) → HasMark config (λ number. world.memory (Grey number)) grey_address → HasMark config (λ number. after spot (Grey number)) grey_address
  greys_stay (MarkEntry entry found) grey_address mark = mark_stays config (λ number. world.memory (Grey number)) found grey_address mark
  greys_stay _ grey_address mark = mark

  -- black bits stay
  scans_stay : (spot : RememberSpot) (scanning : ℕ → Option Scan) (address index : ℕ) → IsToScan config (λ number. world.memory (Black number)) scanning address index → IsToScan config (λ number. after spot (Black number)) scanning address index
  scans_stay Recorded scanning address index scan = scan
  scans_stay _ scanning address index scan = scan

  claims_stay : (spot : RememberSpot) → after spot Claim ≡ world.memory Claim
  claims_stay Recorded = refl
  claims_stay _ = refl

  blacks_stay : (spot : RememberSpot) → AreMarks config (λ number. world.memory (Black number)) world.block → AreMarks config (λ number. after spot (Black number)) world.block
  blacks_stay Recorded marks = marks
  blacks_stay _ marks = marks

  -- entries that a load leaves
  loaded_entries : AreEntries config (λ mutator. world.memory (Count mutator)) (λ mutator index. world.memory (Buffer mutator index)) world.block → mutator < config.mutators → (after_load : Word → ℕ) → world.memory ≡ after_load
      → (index : ℕ) → index < after_load (Count mutator) → IsMarkable world.block (after_load (Buffer mutator index))
  loaded_entries entries seated after_load same_memory =
      subst (λ memory. (index : ℕ) → index < memory (Count mutator) → IsMarkable world.block (memory (Buffer mutator index))) same_memory (λ index index_below. entries.of_objects mutator index seated index_below)

  module _ (spot : RememberSpot) (spot_going : is_ended spot ≡ false) (shared : Shared config world) (can_record : CanRecord config world mutator recorded spot) where
    -- what the step keeps of the words by themselves
    remembers : RememberStep config world.memory mutator recorded spot
    remembers = each_remembers config world.memory mutator recorded spot spot_going (markable_word config world recorded shared can_record.markable) can_record.words

    -- what is noted stays so
    noted_then : (address : ℕ) → NotedIn config world address → IsNoted config (λ number. after spot (Grey number)) (λ mutator. after spot (Count mutator)) (λ mutator entry. after spot (Buffer mutator entry)) (hands spot) address
    noted_then address (IsNoted.by_mark mark) = IsNoted.by_mark (greys_stay spot address mark)
    noted_then address (IsNoted.by_entry noter noted_entry noter_inside entry_below is_noted) = ⊎_elim
        (λ (same_mutator : mutator ≡ noter).
        let own_entry : noted_entry < world.memory (Count mutator) = subst (λ mutator. noted_entry < world.memory (Count mutator)) (sym same_mutator) entry_below in
        let entry : world.memory (Buffer mutator noted_entry) ≡ address = ap (λ mutator. world.memory (Buffer mutator noted_entry)) same_mutator ∙ is_noted in
        recorded_noted config (after spot) (hands spot) mutator address can_record.seated (remembers.keeps address (inr (noted_entry, own_entry, entry))))
        (λ (other_mutator : mutator ≢ noter).
        IsNoted.by_entry noter noted_entry noter_inside (subst (λ count. noted_entry < count) (sym (counts_else spot noter (λ noter_same. other_mutator (sym noter_same)))) entry_below) (buffers_else spot noter noted_entry (λ noter_same. other_mutator (sym noter_same)) ∙ is_noted))
        (cases_eq mutator noter)
    noted_then address (IsNoted.by_hand noter noter_inside is_noted) = ⊎_elim
        (λ (same_mutator : mutator ≡ noter).
        let same_address : Some recorded ≡ Some address = sym (in_hand spot recorded spot_going) ∙ sym can_record.recording ∙ ap world.ghost.recording same_mutator ∙ is_noted in
        subst (IsNoted config (λ number. after spot (Grey number)) (λ mutator. after spot (Count mutator)) (λ mutator entry. after spot (Buffer mutator entry)) (hands spot)) (same_Some recorded address same_address)
        (noted_at config (after spot) (hands spot) mutator recorded (next spot) can_record.seated (updated_there world.ghost.recording mutator (recording_of (next spot) recorded)) remembers.next))
        (λ (other_mutator : mutator ≢ noter). IsNoted.by_hand noter noter_inside (updated_else world.ghost.recording mutator (recording_of (next spot) recorded) noter other_mutator ∙ is_noted))
        (cases_eq mutator noter)

  -- the bits that are set are of objects
  greys_then : (spot : RememberSpot) → Shared config world → CanRecord config world mutator recorded spot → AreMarks config (λ number. after spot (Grey number)) world.block
  greys_then (MarkEntry entry found) shared can_record =
      let entries = (shared.marked.marking can_record.phase).entries in
      let object : IsMarkable world.block found =
      subst (IsMarkable world.block) can_record.words.facts.3 (entries.of_objects mutator entry can_record.seated (let buffer_full = can_record.words.facts.0 in let entry_below = can_record.words.facts.1 in omega (arith, buffer_full, entry_below))) in
      marks_with config (λ number. world.memory (Grey number)) world.block found (markable_word config world found shared object) object (shared.marked.marking can_record.phase).greys
  greys_then _ shared can_record = (shared.marked.marking can_record.phase).greys

  -- and so are the entries
  own_entries : (spot : RememberSpot) → Shared config world → CanRecord config world mutator recorded spot → (index : ℕ) → index < after spot (Count mutator) → IsMarkable world.block (after spot (Buffer mutator index))
  own_entries LoadCount shared can_record index index_below = loaded_entries (shared.marked.marking can_record.phase).entries can_record.seated (after LoadCount) (load_keeps world.memory (Count mutator)) index index_below
  own_entries (LoadEntry entry) shared can_record index index_below =
      loaded_entries (shared.marked.marking can_record.phase).entries can_record.seated (after (LoadEntry entry)) (load_keeps world.memory (Buffer mutator entry)) index index_below
  own_entries (MarkEntry entry found) shared can_record index index_below = (shared.marked.marking can_record.phase).entries.of_objects mutator index can_record.seated index_below
  own_entries ClearCount shared can_record index index_below =
      let no_entries : after ClearCount (Count mutator) ≡ 0 = cond-true (mutator == mutator) _ _ (eq-eqb mutator mutator refl) in
      absurd (omega (arith, index_below, no_entries))
  own_entries (StoreEntry entry) shared can_record index index_below =
      let is_count = can_record.words.facts.0 in
      let other_entry : entry ≢ index = omega (arith, index_below, is_count) in
      let entry_stays : after (StoreEntry entry) (Buffer mutator index) ≡ world.memory (Buffer mutator index) =
      cond-false ((mutator == mutator) && (entry == index)) _ _ (grind (arith, nat_tests)) in
      subst (IsMarkable world.block) (sym entry_stays) ((shared.marked.marking can_record.phase).entries.of_objects mutator index can_record.seated index_below)
  own_entries (StoreCount entry) shared can_record index index_below =
      let is_count = can_record.words.facts.0 in
      let one_more : after (StoreCount entry) (Count mutator) ≡ entry + 1 = cond-true (mutator == mutator) _ _ (eq-eqb mutator mutator refl) in
      ⊎_elim
      (λ (last_entry : index ≡ entry). subst (IsMarkable world.block) (sym (ap (λ entry. world.memory (Buffer mutator entry)) last_entry ∙ can_record.words.facts.2)) can_record.markable)
      (λ (earlier : index ≢ entry). (shared.marked.marking can_record.phase).entries.of_objects mutator index can_record.seated (omega (arith, index_below, one_more, is_count, earlier)))
      (cases_eq index entry)
  own_entries Recorded shared can_record index index_below = loaded_entries (shared.marked.marking can_record.phase).entries can_record.seated (after Recorded) (load_keeps world.memory (Count mutator)) index index_below

  module _ (spot : RememberSpot) (spot_going : is_ended spot ≡ false) (shared : Shared config world) (can_record : CanRecord config world mutator recorded spot) where
    entries_then : AreEntries config (λ mutator. after spot (Count mutator)) (λ mutator entry. after spot (Buffer mutator entry)) world.block
    entries_then = record {
      few = λ asked_mutator mutator_inside. ⊎_elim
          (λ (same_mutator : mutator ≡ asked_mutator). subst (λ mutator. after spot (Count mutator) ≤ 8) same_mutator (remembers spot spot_going shared can_record).next.buffer.few)
          (λ (other_mutator : mutator ≢ asked_mutator). subst (λ count. count ≤ 8) (sym (counts_else spot asked_mutator (λ mutators_equal. other_mutator (sym mutators_equal)))) ((shared.marked.marking can_record.phase).entries.few asked_mutator mutator_inside))
          (cases_eq mutator asked_mutator);
      of_objects = λ asked_mutator entry mutator_inside entry_below. ⊎_elim
          (λ (same_mutator : mutator ≡ asked_mutator). subst (λ mutator. IsMarkable world.block (after spot (Buffer mutator entry))) same_mutator
          (own_entries spot shared can_record entry (subst (λ mutator. entry < after spot (Count mutator)) (sym same_mutator) entry_below)))
          (λ (other_mutator : mutator ≢ asked_mutator). subst (IsMarkable world.block) (sym (buffers_else spot asked_mutator entry (λ mutators_equal. other_mutator (sym mutators_equal))))
          ((shared.marked.marking can_record.phase).entries.of_objects asked_mutator entry mutator_inside (subst (λ count. entry < count) (counts_else spot asked_mutator (λ mutators_equal. other_mutator (sym mutators_equal))) entry_below)))
          (cases_eq mutator asked_mutator);
    }

    -- so it is a step of marking
    is_marking_step : IsMarkingStep config world mutator (after spot) (hands spot) world.ghost.scanning
    is_marking_step = record {
      phase = can_record.phase;
      claims = (let claims_same = claims_stay spot in omega (arith, claims_same));
      greys = greys_stay spot;
      noted = noted_then spot spot_going shared can_record;
      scanned = λ address refs nums index name object_there index_below scan. inl (scans_stay spot world.ghost.scanning address index scan);
      grey_marks = greys_then spot shared can_record;
      black_marks = blacks_stay spot (shared.marked.marking can_record.phase).blacks;
      entries = entries_then;
      counts = counts_else spot;
      buffers = buffers_else spot;
      recorded = λ other_mutator differs. updated_else world.ghost.recording mutator (recording_of (next spot) recorded) other_mutator (λ same_mutator. differs (sym same_mutator));
      scans = λ other_mutator differs. refl;
    }

    -- what the mutator counts on then
    own_then : CanRecord config (world_after config world mutator (after spot) (hands spot) world.ghost.scanning) mutator recorded (next spot)
    own_then = record {
      seated = can_record.seated;
      phase = can_record.phase;
      markable = can_record.markable;
      recording = updated_there world.ghost.recording mutator (recording_of (next spot) recorded);
      scanning = can_record.scanning;
      hands = can_record.hands;
      words = subst (λ memory. CanRemember config memory mutator recorded (next spot)) (sym (marking_touched world.memory (touch_at config mutator recorded spot) (of_marking spot))) (remembers spot spot_going shared can_record).next;
    }

    -- each step
    pub each_records : RecordStep config world mutator recorded spot
    each_records = step_after config world mutator (after spot) (hands spot) world.ghost.scanning shared is_marking_step (touch_at config mutator recorded spot)
        (λ world. CanRecord config world mutator recorded (next spot)) (marking_touched world.memory (touch_at config mutator recorded spot) (of_marking spot)) own_then

-- A mutator takes an address in hand.
module _ (config : Config) (world : World) (mutator address : ℕ) (seated : mutator < config.mutators) (marking : world.memory Phase ≡ marking_phase) (object : IsMarkable world.block address)
    (idle : world.ghost.recording mutator ≡ None) (scanless : world.ghost.scanning mutator ≡ None) (roomless : (taken_address words : ℕ) → world.block taken_address ≡ Some (hand mutator words) → ⊥) (shared : Shared config world) where
  abbrev taken : ℕ → Option ℕ
  taken = updated world.ghost.recording mutator (Some address)

  -- nobody loses what was in hand
  noted_taken : (noted_address : ℕ) → NotedIn config world noted_address → IsNoted config (λ number. world.memory (Grey number)) (λ mutator. world.memory (Count mutator)) (λ mutator entry. world.memory (Buffer mutator entry)) taken noted_address
  noted_taken noted_address (IsNoted.by_mark mark) = IsNoted.by_mark mark
  noted_taken noted_address (IsNoted.by_entry noter noted_entry noter_inside entry_below is_noted) = IsNoted.by_entry noter noted_entry noter_inside entry_below is_noted
  noted_taken noted_address (IsNoted.by_hand noter noter_inside is_noted) = ⊎_elim
      (λ (same_mutator : mutator ≡ noter). (let no_address : None ≡ Some noted_address = sym idle ∙ ap world.ghost.recording same_mutator ∙ is_noted in absurd (cc (no_address))))
      (λ (other_mutator : mutator ≢ noter). IsNoted.by_hand noter noter_inside (updated_else world.ghost.recording mutator (Some address) noter other_mutator ∙ is_noted))
      (cases_eq mutator noter)

  taking_step : IsMarkingStep config world mutator world.memory taken world.ghost.scanning
  taking_step = record {
    phase = marking;
    claims = omega arith;
    greys = λ taken_address mark. mark;
    noted = noted_taken;
    scanned = λ address refs nums index name object_there index_below scan. inl scan;
    grey_marks = (shared.marked.marking marking).greys;
    black_marks = (shared.marked.marking marking).blacks;
    entries = (shared.marked.marking marking).entries;
    counts = λ other_mutator differs. refl;
    buffers = λ other_mutator entry differs. refl;
    recorded = λ other_mutator differs. updated_else world.ghost.recording mutator (Some address) other_mutator (λ same_mutator. differs (sym same_mutator));
    scans = λ other_mutator differs. refl;
  }

  -- a world with the address in hand, by its memory
  abbrev world_of : (Word → ℕ) → World
  world_of memory = record { memory = memory; block = world.block; ghost = with_recording world.ghost taken; graph = world.graph }

  can_record : CanRecord config (with_in_hand world mutator address) mutator address LoadCount
  can_record = record {
    seated = seated;
    phase = marking;
    markable = object;
    recording = updated_there world.ghost.recording mutator (Some address);
    scanning = scanless;
    hands = roomless;
    words = record {
      buffer = record {
        few = (shared.marked.marking marking).entries.few mutator seated;
        addresses = λ index index_below. markable_word config world (world.memory (Buffer mutator index)) shared ((shared.marked.marking marking).entries.of_objects mutator index seated index_below);
      };
      ready = refl;
      facts = tt;
    };
  }

  pub takes_in_hand : TakesInHand config world mutator address
  takes_in_hand = record {
    shared = subst (λ memory. Shared config (world_of memory)) (same_marking world.memory) (shared_after config world mutator world.memory taken world.ghost.scanning shared taking_step);
    own = can_record;
    keeps = subst (λ memory. Keeps config mutator world (world_of memory)) (same_marking world.memory) (keeps_after config world mutator world.memory taken world.ghost.scanning shared taking_step);
    others = λ seat seats_differ. subst (λ memory. Rely config seat world (world_of memory)) (same_marking world.memory) (others_after config world mutator world.memory taken world.ghost.scanning shared taking_step seat seats_differ);
    noted = IsNoted.by_hand mutator seated (updated_there world.ghost.recording mutator (Some address));
  }

-- While others step, its buffer stays.
module _ (config : Config) (world later_world : World) (mutator : ℕ) (rely : Rely config mutator world later_world) where
  buffer_left : LeaveBuffer mutator world.memory later_world.memory
  buffer_left = record {
    count = rely.marks.entries;
    entries = λ entry bit_below. rely.marks.buffer entry;
    greys = λ number bit bit_below bit_set.
        let word : mark_word config (address_at config number bit) ≡ number = word_back config number bit bit_below in
        let same_bit : mark_bit config (address_at config number bit) ≡ bit = bit_back config number bit bit_below in
        let was_grey : HasMark config (λ number. world.memory (Grey number)) (address_at config number bit) = ap (λ some_number. bit_at (world.memory (Grey some_number)) (mark_bit config (address_at config number bit))) word ∙ ap (λ entry. bit_at (world.memory (Grey number)) entry) same_bit ∙ bit_set in
        ap (λ entry. bit_at (later_world.memory (Grey number)) entry) (sym same_bit) ∙ ap (λ some_number. bit_at (later_world.memory (Grey some_number)) (mark_bit config (address_at config number bit))) (sym word)
        ∙ rely.marks.greys (address_at config number bit) was_grey;
  }

  pub can_record_stays : (recorded : ℕ) (spot : RememberSpot) → CanRecord config world mutator recorded spot → CanRecord config later_world mutator recorded spot
  can_record_stays recorded spot can_record = record {
    seated = can_record.seated;
    phase = rely.marks.keeps.phase ∙ can_record.phase;
    markable = rely.marks.keeps.markable (λ phase_two. (let phase_one = can_record.phase in omega (arith, phase_one, phase_two))) recorded can_record.markable;
    recording = rely.marks.recording ∙ can_record.recording;
    scanning = rely.marks.scanning ∙ can_record.scanning;
    hands = λ address words room_there. can_record.hands address words (rely.no_rooms address _ room_there refl);
    words = can_remember_stays config mutator world.memory later_world.memory buffer_left recorded spot can_record.words;
  }

-- the next access is of the table
pub record_inside : (config : Config) (world : World) (mutator recorded : ℕ) (spot : RememberSpot) → CanRecord config world mutator recorded spot → IsWord config (touch_at config mutator recorded spot).word
record_inside config world mutator recorded LoadCount can_record = can_record.seated
record_inside config world mutator recorded (LoadEntry entry) can_record = (can_record.seated, can_record.words.facts.1)
record_inside config world mutator recorded (MarkEntry entry found) can_record =
    let entry_inside = can_record.words.ready in
    let heap : IsWord config (Heap found) = grind (arith, nat_tests, entry_inside) in
    word_inside config found heap
record_inside config world mutator recorded ClearCount can_record = can_record.seated
record_inside config world mutator recorded (StoreEntry entry) can_record = (can_record.seated, can_record.words.facts.1)
record_inside config world mutator recorded (StoreCount entry) can_record = can_record.seated
record_inside config world mutator recorded Recorded can_record = can_record.seated

-- the address is noted at each spot
pub record_noted : (config : Config) (world : World) (mutator recorded : ℕ) (spot : RememberSpot) → CanRecord config world mutator recorded spot → NotedIn config world recorded
record_noted config world mutator recorded spot can_record = noted_at config world.memory world.ghost.recording mutator recorded spot can_record.seated can_record.recording can_record.words
