-- Each step of a machine that resolves an address leads to what it counts on at the next spot.
use Rattle.heap_words.specs.Phases.{updating_phase}
use Rattle.std.proofs.Common.{◌≡◌, ◌≢◌, ◌≤◌, ◌<◌, ◌^◌, ℕ, ◌+◌, inl, inr, Bool, true, false, refl, sym, ap, ◌∙◌, subst, arith}
use Rattle.std.specs.Prelude.{◌==◌, nat_lt, if◌then◌else◌, ◌⊎◌}
use Rattle.std.proofs.lemmas.Bool.{cond-true, cond-false, ne_eqb}
use Rattle.std.proofs.lemmas.Bool.Decides.{nat_tests}
use Rattle.heap_words.specs.declared.config.Config.{Config}
use Rattle.heap_words.specs.Encoding.{next_in, plain_header, header_word, is_forwarded, forwardee_in, object_words}
use Rattle.heap_words.specs.Words.{Word, Evac, Heap}
use Rattle.heap_words.specs.Touch.{touch, touched, loads, formed}
use Rattle.heap_world.proofs.Keeping.{load_keeps}
use Rattle.alloc_buffers.specs.declared.spot.Taken.TheVariants.{At, NoRoom}
use Rattle.alloc_buffers.specs.declared.spot.TakeSpot.{TakeSpot}
use Rattle.alloc_buffers.specs.declared.spot.TakeSpot.TheVariants as take
use Rattle.alloc_buffers.proofs.Accesses.{others_stay}
use Rattle.heap_words.specs.Counter.{count_of, is_out_of_room, marked}
use Rattle.evac_room.specs.declared.spot.RoomSpot.TheVariants.{Outside, Look, Raise, Inside, Lower, Ask, Mark, Wait, Stopped}
use Rattle.evac_room.specs.Rows as rooms
use Rattle.load_barrier.specs.declared.copying.CopySpot.{CopySpot}
use Rattle.load_barrier.specs.declared.copying.CopySpot.TheVariants.{LoadWord, StoreWord, StoreHeader, Publish, GiveBack}
use Rattle.load_barrier.specs.declared.spot.ResolveSpot.{ResolveSpot}
use Rattle.load_barrier.specs.declared.spot.ResolveSpot.TheVariants.{LoadHeader, Entering, LoadShape, Taking, Copying, Leaving, Stopping, LoadAgain, Resolved}
use Rattle.load_barrier.specs.Rows.{touch_at, next_at, is_ended, current_copy, after_header, after_enter, after_take, after_word, after_publish, after_stop, take_next}
use Rattle.load_barrier.specs.Alone.{IsHeader, words_by_shape, AreCopied, IsApart, IsCounter}
use Rattle.load_barrier.proofs.Knows.{CanResolve, Can, header_forwarded, names_copy, current_named}

module _ (phase address : ℕ) where
  -- the first load of the header
  header_next : (heap : ℕ → ℕ) (evac : ℕ) → CanResolve phase address heap evac LoadHeader → CanResolve phase address heap evac (after_header address phase (heap address))
  header_next heap evac can_load = by_header (is_forwarded (heap address)) (phase == updating_phase) refl refl
    where
      by_header : (holds updates : Bool) → is_forwarded (heap address) ≡ holds → (phase == updating_phase) ≡ updates
          → CanResolve phase address heap evac (if holds then Resolved (forwardee_in (heap address)) else (if updates then Resolved address else Entering Look))
      by_header true updates named phase_test = record {
        header = can_load.header;
        counted = λ copies. absurd (cc (copies));
        knows = (sym (cond-true (is_forwarded (heap address)) _ _ named), inl named);
      }
      by_header false true header_tested phase_test = record {
        header = can_load.header;
        counted = λ copies. absurd (cc (copies));
        knows = (sym (cond-false (is_forwarded (heap address)) _ _ header_tested), inr (inr (grind (arith, nat_tests))));
      }
      by_header false false header_tested phase_test = record { header = can_load.header; counted = λ copies. absurd (cc (copies)); knows = (tt, tt) }

  -- the load of the counter on the way in
  look_next : (heap : ℕ → ℕ) (evac : ℕ) → CanResolve phase address heap evac (Entering Look) → CanResolve phase address heap evac (after_enter (rooms.next_at Look evac))
  look_next heap evac can_look = by_bit (is_out_of_room evac) (count_of evac == 0) refl refl
    where
      by_bit : (holds is_empty : Bool) → is_out_of_room evac ≡ holds → (count_of evac == 0) ≡ is_empty
          → CanResolve phase address heap evac (after_enter (if holds then (if is_empty then Stopped else Look) else Raise evac))
      by_bit true true out_test count_test = record {
        header = can_look.header;
        counted = λ copies. absurd (cc (copies));
        knows = record { out_of_room = out_test; nobody = grind (arith, nat_tests) };
      }
      by_bit true false out_test count_test = record { header = can_look.header; counted = λ copies. absurd (cc (copies)); knows = (tt, tt) }
      by_bit false is_empty out_test count_test = record { header = can_look.header; counted = λ copies. absurd (cc (copies)); knows = (tt, grind (arith, nat_tests)) }

  -- the exchange of the counter on the way in
  raise_next : (heap : ℕ → ℕ) (evac found : ℕ) → IsCounter evac → CanResolve phase address heap evac (Entering (Raise found))
      → CanResolve phase address heap (formed (rooms.form_at (Raise found)) evac) (after_enter (rooms.next_at (Raise found) evac))
  raise_next heap evac found counter can_raise = by_found (evac == found) refl
    where
      by_found : (holds : Bool) → (evac == found) ≡ holds → CanResolve phase address heap (if holds then found + 1 else evac) (after_enter (if holds then Inside else Look))
      by_found true found_test = record {
        header = can_raise.header;
        counted = λ copies. let same_found : evac ≡ found = grind (arith, nat_tests) in let clear : found < 2 ^ 63 = can_raise.knows.1 in omega (arith, counter.few);
        knows = tt;
      }
      by_found false found_test = record { header = can_raise.header; counted = λ copies. absurd (cc (copies)); knows = (tt, tt) }

  -- a step of the taking of room
  take_leads : (heap : ℕ → ℕ) (evac words : ℕ) (spot : TakeSpot) → IsHeader (heap address) → 1 ≤ count_of evac → words ≡ words_by_shape heap address
      → CanResolve phase address heap evac (after_take words spot)
  take_leads heap evac words (take.Ended (At copy) end) header_plain count_positive words_are =
      record { header = header_plain; counted = λ copies. count_positive; knows = (words_are, omega arith, omega (arith, words_are), λ offset not_before word_below. absurd (omega (arith, not_before, word_below))) }
  take_leads heap evac words (take.Ended NoRoom end) header_plain count_positive words_are = record { header = header_plain; counted = λ copies. count_positive; knows = (tt, tt) }
  take_leads heap evac words spot header_plain count_positive words_are = record { header = header_plain; counted = λ copies. count_positive; knows = (words_are, refl) }

  -- the exchange of the counter of one that has found no room
  mark_next : (heap : ℕ → ℕ) (evac found : ℕ) → IsCounter evac → CanResolve phase address heap evac (Stopping (Mark found))
      → CanResolve phase address heap (formed (rooms.form_at (Mark found)) evac) (after_stop (rooms.next_at (Mark found) evac))
  mark_next heap evac found counter can_mark = by_found (evac == found) refl
    where
      by_found : (holds : Bool) → (evac == found) ≡ holds → CanResolve phase address heap (if holds then marked found else evac) (after_stop (if holds then Wait else Ask))
      by_found true found_test = record {
        header = can_mark.header;
        counted = λ copies. absurd (cc (copies));
        knows = (
          tt,
          let some_count : 1 ≤ count_of evac = can_mark.counted refl in let same_found : evac ≡ found = grind (arith, nat_tests) in
              let some_found : 1 ≤ count_of found = subst (λ evac_word. 1 ≤ count_of evac_word) same_found some_count in grind (arith, nat_tests),
        );
      }
      by_found false found_test = record { header = can_mark.header; counted = λ copies. can_mark.counted refl; knows = (tt, tt) }

  wait_next : (heap : ℕ → ℕ) (evac : ℕ) → CanResolve phase address heap evac (Stopping Wait) → CanResolve phase address heap evac (after_stop (rooms.next_at Wait evac))
  wait_next heap evac can_wait = by_count (count_of evac == 0) refl
    where
      by_count : (holds : Bool) → (count_of evac == 0) ≡ holds → CanResolve phase address heap evac (after_stop (if holds then Stopped else Wait))
      by_count true count_test = record {
        header = can_wait.header;
        counted = λ copies. absurd (cc (copies));
        knows = record { out_of_room = can_wait.knows.1; nobody = grind (arith, nat_tests) };
      }
      by_count false count_test = record { header = can_wait.header; counted = λ copies. absurd (cc (copies)); knows = (tt, can_wait.knows.1) }

-- the heap once a word is written
abbrev wrote : (ℕ → ℕ) → ℕ → ℕ → ℕ → ℕ
wrote heap written value address = if written == address then value else heap address

wrote_here : (heap : ℕ → ℕ) (written value any_address : ℕ) → written ≡ any_address → wrote heap written value any_address ≡ value
wrote_here heap address value any_address same_address = cond-true (address == any_address) _ _ (grind (arith, nat_tests))

wrote_else : (heap : ℕ → ℕ) (written value address : ℕ) → written ≢ address → wrote heap written value address ≡ heap address
wrote_else heap written_address value address addresses_apart = cond-false (written_address == address) _ _ (grind (arith, nat_tests))

-- A word of the copy is written: the object stays, since its room lies apart from it.
module _ (address copy end : ℕ) (heap : ℕ → ℕ) (index value : ℕ) (index_inside : index < words_by_shape heap address) (room_apart : IsApart heap address (Copying copy end Publish)) where
  abbrev filled : ℕ → ℕ
  filled = wrote heap (copy + index) value

  object_stays : (place : ℕ) → place < words_by_shape heap address → filled (address + place) ≡ heap (address + place)
  object_stays place place_below = wrote_else heap (copy + index) value (address + place) (λ same_address. by_side same_address room_apart)
    where
      by_side : copy + index ≡ address + place → (copy + words_by_shape heap address ≤ address) ⊎ (address + words_by_shape heap address ≤ copy) → ⊥
      by_side same_address (inl copy_before) = omega (arith, same_address, copy_before, index_inside, place_below)
      by_side same_address (inr copy_behind) = omega (arith, same_address, copy_behind, index_inside, place_below)

  words_stay : words_by_shape filled address ≡ words_by_shape heap address
  words_stay = ap object_words (object_stays 1 (omega arith))

  head_stays : filled address ≡ heap address
  head_stays = subst (λ address. filled address ≡ heap address) (omega arith) (object_stays 0 (omega arith))

  copy_else : (place : ℕ) → place ≢ index → filled (copy + place) ≡ heap (copy + place)
  copy_else place other_place = wrote_else heap (copy + index) value (copy + place) (λ same_address. other_place (omega (arith, same_address)))

module _ (phase address copy end : ℕ) where
  -- a word of the copy is stored
  word_next : (heap : ℕ → ℕ) (evac words index found : ℕ) → IsApart heap address (Copying copy end Publish)
      → CanResolve phase address heap evac (Copying copy end (StoreWord words index found))
      → CanResolve phase address (wrote heap (copy + index) found) evac (Copying copy end (after_word words (index + 1)))
  word_next heap evac words index found room_apart can_store = by_index (nat_lt (index + 1) words) refl
    where
      inside : index < words_by_shape heap address
      inside = omega (arith, can_store.knows.0, can_store.knows.2)

      header : IsHeader (wrote heap (copy + index) found address)
      header = subst IsHeader (sym (head_stays address copy end heap index found inside room_apart)) can_store.header

      same : words_by_shape (wrote heap (copy + index) found) address ≡ words_by_shape heap address
      same = words_stay address copy end heap index found inside room_apart

      one_more : AreCopied (wrote heap (copy + index) found) address copy (index + 1)
      one_more place some_place place_below = by_place (place == index) refl
        where
          keeps : wrote heap (copy + index) found (address + place) ≡ heap (address + place)
          keeps = object_stays address copy end heap index found inside room_apart place (omega (arith, place_below, inside))

          by_place : (holds : Bool) → (place == index) ≡ holds → wrote heap (copy + index) found (copy + place) ≡ wrote heap (copy + index) found (address + place)
          by_place true place_test =
              let same_place : place ≡ index = grind (arith, nat_tests) in
              wrote_here heap (copy + index) found (copy + place) (omega (arith, same_place)) ∙ can_store.knows.4 ∙ ap (λ offset. heap (address + offset)) (sym same_place) ∙ sym keeps
          by_place false place_test =
              let other_place : place ≢ index = grind (arith, nat_tests) in
              copy_else address copy end heap index found inside room_apart place other_place ∙ can_store.knows.3 place some_place (omega (arith, place_below, other_place)) ∙ sym keeps

      by_index : (holds : Bool) → nat_lt (index + 1) words ≡ holds
          → CanResolve phase address (wrote heap (copy + index) found) evac (Copying copy end (if holds then LoadWord words (index + 1) else StoreHeader))
      by_index true more_test = record {
        header = header;
        counted = λ copies. can_store.counted refl;
        knows = (can_store.knows.0 ∙ sym same, omega arith, grind (arith, nat_tests), one_more);
      }
      by_index false more_test =
          let last_word : words_by_shape (wrote heap (copy + index) found) address ≡ index + 1 = grind (arith, nat_tests, same, can_store.knows.0, can_store.knows.2) in
          record {
            header = header;
            counted = λ copies. can_store.counted refl;
            knows = subst (λ copied_count. AreCopied (wrote heap (copy + index) found) address copy copied_count) (sym last_word) one_more;
          }

  -- the header of the copy is stored
  header_stored : (heap : ℕ → ℕ) (evac : ℕ) → IsApart heap address (Copying copy end Publish) → CanResolve phase address heap evac (Copying copy end StoreHeader)
      → CanResolve phase address (wrote heap copy plain_header) evac (Copying copy end Publish)
  header_stored heap evac room_apart can_store = subst (λ header_place. CanResolve phase address (wrote heap header_place plain_header) evac (Copying copy end Publish)) (omega arith) stored
    where
      inside : 0 < words_by_shape heap address
      inside = omega arith

      same : words_by_shape (wrote heap (copy + 0) plain_header) address ≡ words_by_shape heap address
      same = words_stay address copy end heap 0 plain_header inside room_apart

      stored : CanResolve phase address (wrote heap (copy + 0) plain_header) evac (Copying copy end Publish)
      stored = record {
        header = subst IsHeader (sym (head_stays address copy end heap 0 plain_header inside room_apart)) can_store.header;
        counted = λ copies. can_store.counted refl;
        knows = record {
          header = wrote_here heap (copy + 0) plain_header copy (omega arith);
          words = λ place some_place place_below.
              copy_else address copy end heap 0 plain_header inside room_apart place (λ zero. absurd (omega (arith, zero, some_place)))
              ∙ can_store.knows place some_place (omega (arith, place_below, same))
              ∙ sym (object_stays address copy end heap 0 plain_header inside room_apart place (omega (arith, place_below, same)));
        };
      }

  -- the exchange on the old header
  publish_next : (heap : ℕ → ℕ) (evac : ℕ) → CanResolve phase address heap evac (Copying copy end Publish)
      → CanResolve phase address (wrote heap address (if heap address == plain_header then header_word copy else heap address)) evac (after_publish copy end (heap address))
  publish_next heap evac can_publish = by_header (heap address == plain_header) refl
    where
      by_header : (holds : Bool) → (heap address == plain_header) ≡ holds
          → CanResolve phase address (wrote heap address (if holds then header_word copy else heap address)) evac
          (if holds then Leaving copy else Copying copy end (GiveBack (forwardee_in (heap address))))
      by_header true header_test =
          let header_then : wrote heap address (header_word copy) address ≡ header_word copy = wrote_here heap address (header_word copy) address refl in
          record { header = subst IsHeader (sym header_then) (inr (header_forwarded copy)); counted = λ copies. can_publish.counted refl; knows = header_then }
      by_header false header_test =
          let header_then : wrote heap address (heap address) address ≡ heap address = wrote_here heap address (heap address) address refl in
          record {
            header = subst IsHeader (sym header_then) can_publish.header;
            counted = λ copies. can_publish.counted refl;
            knows = header_then ∙ names_copy (heap address) can_publish.header header_test;
          }

-- Each step of the machine.
module _ (config : Config) (seat address phase : ℕ) (memory : Word → ℕ) where
  -- what the words are after the access of a spot
  abbrev after : ResolveSpot → Word → ℕ
  after spot = touched memory (touch_at config seat address spot)

  -- the word that it finds
  abbrev found_at : ResolveSpot → ℕ
  found_at spot = memory (touch_at config seat address spot).word

  -- what the step leads to
  abbrev Next : ResolveSpot → Type 0
  Next spot = Can phase address (after spot) (next_at config address phase spot (found_at spot))

  -- a load leaves the words
  loaded : (word : Word) (next : ResolveSpot) → Can phase address memory next → Can phase address (touched memory (touch word loads)) next
  loaded word next can_before = subst (λ memory_now. Can phase address memory_now next) (load_keeps memory word) can_before

  -- A step of a taking of room leaves the object: it writes no word of the heap but the header of a filler, which is none of the object's.
  object_left : (words : ℕ) (spot : TakeSpot) → IsApart (λ address. memory (Heap address)) address (Taking words spot) → (offset : ℕ) → offset < words_by_shape (λ address. memory (Heap address)) address
      → after (Taking words spot) (Heap (address + offset)) ≡ memory (Heap (address + offset))
  object_left words (take.Fill buffer place room) room_apart offset place_below = cond-false (next_in buffer == (address + offset)) _ _ (ne_eqb (next_in buffer) (address + offset) (λ same_address. (omega (arith, same_address, room_apart, place_below))))
  object_left words take.LoadBuffer room_apart offset place_below = refl
  object_left words (take.LoadShared buffer) room_apart offset place_below = refl
  object_left words (take.LoadTop buffer region) room_apart offset place_below = refl
  object_left words (take.Carve buffer region top room) room_apart offset place_below = refl
  object_left words (take.LoadFree buffer shared) room_apart offset place_below = refl
  object_left words (take.TakeRegion buffer shared region) room_apart offset place_below = refl
  object_left words (take.ShareRegion buffer shared region) room_apart offset place_below = refl
  object_left words (take.GiveBack buffer region) room_apart offset place_below = refl
  object_left words (take.StoreBuffer place room) room_apart offset place_below = refl
  object_left words (take.Ended taken end) room_apart offset place_below = refl

  step_take : (words : ℕ) (spot : TakeSpot) → IsApart (λ address. memory (Heap address)) address (Taking words spot) → Can phase address memory (Taking words spot) → Next (Taking words spot)
  step_take words spot room_apart can_take =
      let head_same : after (Taking words spot) (Heap address) ≡ memory (Heap address) = subst (λ address. after (Taking words spot) (Heap address) ≡ memory (Heap address)) (omega arith) (object_left words spot room_apart 0 (omega arith)) in
      let shape_same : after (Taking words spot) (Heap (address + 1)) ≡ memory (Heap (address + 1)) = object_left words spot room_apart 1 (omega arith) in
      let evac_stays : after (Taking words spot) Evac ≡ memory Evac = others_stay seat words memory spot Evac refl in
      take_leads phase address (λ address. after (Taking words spot) (Heap address)) (after (Taking words spot) Evac) words (take_next config words spot (found_at (Taking words spot)))
      (subst IsHeader (sym head_same) can_take.header)
      (subst (λ evac_word. 1 ≤ count_of evac_word) (sym evac_stays) (can_take.counted refl))
      (can_take.knows.0 ∙ ap object_words (sym shape_same))

  step_copy : (copy end : ℕ) (spot : CopySpot) → IsApart (λ address. memory (Heap address)) address (Copying copy end Publish) → Can phase address memory (Copying copy end spot) → Next (Copying copy end spot)
  step_copy copy end (LoadWord words index) room_apart can_copy = loaded (Heap (address + index)) (Copying copy end (StoreWord words index (memory (Heap (address + index))))) (record {
    header = can_copy.header;
    counted = λ copies. can_copy.counted refl;
    knows = (can_copy.knows.0, can_copy.knows.1, can_copy.knows.2, can_copy.knows.3, refl);
  })
  step_copy copy end (StoreWord words index found) room_apart can_copy = word_next phase address copy end (λ address. memory (Heap address)) (memory Evac) words index found room_apart can_copy
  step_copy copy end StoreHeader room_apart can_copy = header_stored phase address copy end (λ address. memory (Heap address)) (memory Evac) room_apart can_copy
  step_copy copy end Publish room_apart can_copy = publish_next phase address copy end (λ address. memory (Heap address)) (memory Evac) can_copy
  step_copy copy end (GiveBack answer) room_apart can_copy = record { header = can_copy.header; counted = λ copies. can_copy.counted refl; knows = can_copy.knows }

  pub each_step : (spot : ResolveSpot) → is_ended spot ≡ false → IsCounter (memory Evac) → IsApart (λ address. memory (Heap address)) address spot
      → Can phase address memory spot → Next spot
  each_step LoadHeader spot_going counter room_apart can_step = loaded (Heap address) (after_header address phase (memory (Heap address))) (header_next phase address (λ address. memory (Heap address)) (memory Evac) can_step)
  each_step (Entering Look) spot_going counter room_apart can_step = loaded Evac (after_enter (rooms.next_at Look (memory Evac))) (look_next phase address (λ address. memory (Heap address)) (memory Evac) can_step)
  each_step (Entering (Raise found)) spot_going counter room_apart can_step = raise_next phase address (λ address. memory (Heap address)) (memory Evac) found counter can_step
  each_step (Entering Outside) spot_going counter room_apart can_step = absurd can_step.knows.0
  each_step (Entering Inside) spot_going counter room_apart can_step = absurd can_step.knows.0
  each_step (Entering Lower) spot_going counter room_apart can_step = absurd can_step.knows.0
  each_step (Entering Ask) spot_going counter room_apart can_step = absurd can_step.knows.0
  each_step (Entering (Mark found)) spot_going counter room_apart can_step = absurd can_step.knows.0
  each_step (Entering Wait) spot_going counter room_apart can_step = absurd can_step.knows.0
  each_step (Entering Stopped) spot_going counter room_apart can_step = absurd can_step.knows.0
  each_step LoadShape spot_going counter room_apart can_step = loaded (Heap (address + 1)) (Taking (object_words (memory (Heap (address + 1)))) take.LoadBuffer) (record { header = can_step.header; counted = λ copies. can_step.counted refl; knows = (refl, refl) })
  each_step (Taking words spot) spot_going counter room_apart can_step = step_take words spot room_apart can_step
  each_step (Copying copy end spot) spot_going counter room_apart can_step = step_copy copy end spot room_apart can_step
  each_step (Leaving answer) spot_going counter room_apart can_step = record {
    header = can_step.header;
    counted = λ copies. absurd (cc (copies));
    knows = (current_named address (memory (Heap address)) answer can_step.knows, inl (ap is_forwarded can_step.knows ∙ header_forwarded answer));
  }
  each_step (Stopping Ask) spot_going counter room_apart can_step = loaded Evac (Stopping (Mark (memory Evac))) (record { header = can_step.header; counted = λ copies. can_step.counted refl; knows = (tt, tt) })
  each_step (Stopping (Mark found)) spot_going counter room_apart can_step = mark_next phase address (λ address. memory (Heap address)) (memory Evac) found counter can_step
  each_step (Stopping Wait) spot_going counter room_apart can_step = loaded Evac (after_stop (rooms.next_at Wait (memory Evac))) (wait_next phase address (λ address. memory (Heap address)) (memory Evac) can_step)
  each_step (Stopping Outside) spot_going counter room_apart can_step = absurd can_step.knows.0
  each_step (Stopping Look) spot_going counter room_apart can_step = absurd can_step.knows.0
  each_step (Stopping (Raise found)) spot_going counter room_apart can_step = absurd can_step.knows.0
  each_step (Stopping Inside) spot_going counter room_apart can_step = absurd can_step.knows.0
  each_step (Stopping Lower) spot_going counter room_apart can_step = absurd can_step.knows.0
  each_step (Stopping Stopped) spot_going counter room_apart can_step = absurd can_step.knows.0
  each_step LoadAgain spot_going counter room_apart can_step = loaded (Heap address) (Resolved (current_copy address (memory (Heap address)))) (record { header = can_step.header; counted = λ copies. absurd (cc (copies)); knows = (refl, inr (inl can_step.knows)) })
  each_step (Resolved answer) spot_going counter room_apart can_step = absurd (cc (spot_going))
