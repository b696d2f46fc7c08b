-- What a mutator counts on while it records an address: it holds at each spot, whatever others do that leave its buffer, and
-- what was recorded stays so.
use Rattle.std.proofs.Common.{◌≡◌, ◌≢◌, ◌≤◌, ◌<◌, ℕ, ◌+◌, inl, inr, Bool, true, false, refl, sym, ap, ◌∙◌, subst, arith}
use Rattle.std.specs.Prelude.{◌==◌, ◌&&◌, nat_lt, if◌then◌else◌}
use Rattle.std.proofs.lemmas.Bool.{cond-true, cond-false, eq-eqb}
use Rattle.std.proofs.lemmas.Bool.Decides.{nat_tests}
use Rattle.heap_words.proofs.Bools.{if_either_way}
use Rattle.heap_words.specs.declared.config.Config.{Config}
use Rattle.heap_words.specs.Words.{Word, Count, Buffer, Heap, IsWord}
use Rattle.heap_words.specs.Touch.{touch, touched, loads, stores}
use Rattle.regions.specs.Marks.{mark_word, mark_bit, HasMark}
use Rattle.regions.specs.Touches.{grey_touch}
use Rattle.regions.proofs.MarksApart.{bit_below, bits_stay, mark_set}
use Rattle.satb_barrier.specs.declared.spot.RememberSpot.{RememberSpot}
use Rattle.satb_barrier.specs.declared.spot.RememberSpot.TheVariants.{LoadCount, LoadEntry, MarkEntry, ClearCount, StoreEntry, StoreCount, Recorded}
use Rattle.satb_barrier.specs.Rows.{touch_at, next_at, is_ended, IsFit}
use Rattle.satb_barrier.specs.Recorded.{greys_in, IsRecorded, IsSatbBuffer, LeaveBuffer}
use Rattle.satb_barrier.specs.Facts.{AreGrey, RememberFacts, CanRemember}

-- what was recorded before is recorded then
abbrev pub KeepRecorded : Config → ℕ → (Word → ℕ) → (Word → ℕ) → Type 0
KeepRecorded config mutator before after = (recorded_address : ℕ) → IsRecorded config before mutator recorded_address → IsRecorded config after mutator recorded_address

-- Others leave the buffer.
module _ (config : Config) (mutator : ℕ) (before after : Word → ℕ) (buffer_left : LeaveBuffer mutator before after) where
  pub grey_stays : (address : ℕ) → HasMark config (greys_in before) address → HasMark config (greys_in after) address
  grey_stays address was_grey = buffer_left.greys (mark_word config address) (mark_bit config address) (bit_below config address) was_grey

  pub greys_stay : (count : ℕ) → count ≤ 8 → AreGrey config before mutator count → AreGrey config after mutator count
  greys_stay count at_most are_grey index index_below =
      let entry : after (Buffer mutator index) ≡ before (Buffer mutator index) = buffer_left.entries index (omega (arith, index_below, at_most)) in
      subst (λ entry_word. HasMark config (greys_in after) entry_word) (sym entry) (grey_stays (before (Buffer mutator index)) (are_grey index index_below))

  pub recorded_stays : before (Count mutator) ≤ 8 → KeepRecorded config mutator before after
  recorded_stays at_most recorded_address (inl grey) = inl (grey_stays recorded_address grey)
  recorded_stays at_most recorded_address (inr (index, index_below, entry_found)) = inr (index, omega (arith, index_below, buffer_left.count), buffer_left.entries index (omega (arith, index_below, at_most)) ∙ entry_found)

  pub buffer_stays : IsSatbBuffer config before mutator → IsSatbBuffer config after mutator
  buffer_stays buffer = record {
    few = omega (arith, buffer.few, buffer_left.count);
    addresses = λ index index_below.
        let entry : after (Buffer mutator index) ≡ before (Buffer mutator index) = buffer_left.entries index (omega (arith, index_below, buffer_left.count, buffer.few)) in
        subst (λ address. IsWord config (Heap address)) (sym entry) (buffer.addresses index (omega (arith, index_below, buffer_left.count)));
  }

  pub facts_stay : (address : ℕ) (spot : RememberSpot) → before (Count mutator) ≤ 8 → RememberFacts config before mutator address spot → RememberFacts config after mutator address spot
  facts_stay address LoadCount at_most facts = tt
  facts_stay address (LoadEntry entry) at_most facts = (buffer_left.count ∙ facts.0, facts.1, greys_stay entry (omega (arith, facts.1)) facts.2)
  facts_stay address (MarkEntry entry found) at_most facts =
      (buffer_left.count ∙ facts.0, facts.1, greys_stay entry (omega (arith, facts.1)) facts.2, buffer_left.entries entry facts.1 ∙ facts.3)
  facts_stay address ClearCount at_most facts = (buffer_left.count ∙ facts.0, greys_stay 8 (omega arith) facts.1)
  facts_stay address (StoreEntry entry) at_most facts = (buffer_left.count ∙ facts.0, facts.1)
  facts_stay address (StoreCount entry) at_most facts = (buffer_left.count ∙ facts.0, facts.1, buffer_left.entries entry facts.1 ∙ facts.2)
  facts_stay address Recorded at_most facts = recorded_stays at_most address facts

  pub can_remember_stays : (address : ℕ) (spot : RememberSpot) → CanRemember config before mutator address spot → CanRemember config after mutator address spot
  can_remember_stays address spot can_remember = record { buffer = buffer_stays can_remember.buffer; ready = can_remember.ready; facts = facts_stay address spot can_remember.buffer.few can_remember.facts }

-- the word that the mutator finds is fit
pub found_is_fit : (config : Config) (memory : Word → ℕ) (mutator address : ℕ) (spot : RememberSpot) → CanRemember config memory mutator address spot
    → IsFit config spot (memory (touch_at config mutator address spot).word)
found_is_fit config memory mutator address LoadCount can_remember = can_remember.buffer.few
found_is_fit config memory mutator address (LoadEntry entry) can_remember = can_remember.buffer.addresses entry (omega (arith, can_remember.facts.0, can_remember.facts.1))
found_is_fit config memory mutator address _ can_remember = tt

module _ (config : Config) (memory : Word → ℕ) (mutator address : ℕ) where
  -- what the words are after the access of a spot
  abbrev after : RememberSpot → Word → ℕ
  after spot = touched memory (touch_at config mutator address spot)

  -- the word that it finds
  abbrev found_at : RememberSpot → ℕ
  found_at spot = memory (touch_at config mutator address spot).word

  -- What a step owes: what holds at the next spot, and that what was recorded stays so.
  pub record RememberStep (spot : RememberSpot) : Type 0 where
    pub next : CanRemember config (after spot) mutator address (next_at spot (found_at spot))
    pub keeps : KeepRecorded config mutator memory (after spot)

  -- a load, or one grey bit more, leaves the buffer
  count_loaded : LeaveBuffer mutator memory (touched memory (touch (Count mutator) loads))
  count_loaded = record { count = if_either_way (mutator == mutator) _; entries = λ index number_below. refl; greys = λ number bit number_below was_grey. was_grey }

  entry_loaded : (entry : ℕ) → LeaveBuffer mutator memory (touched memory (touch (Buffer mutator entry) loads))
  entry_loaded entry = record { count = refl; entries = λ index index_below. by_entry index (entry == index) refl; greys = λ number bit index_below was_grey. was_grey }
    where
      by_entry : (index : ℕ) (holds : Bool) → (entry == index) ≡ holds → touched memory (touch (Buffer mutator entry) loads) (Buffer mutator index) ≡ memory (Buffer mutator index)
      by_entry index true tested_entry = let same_entry : entry ≡ index = grind (arith, nat_tests) in
          subst (λ other_entry. touched memory (touch (Buffer mutator entry) loads) (Buffer mutator other_entry) ≡ memory (Buffer mutator other_entry)) same_entry (if_either_way ((mutator == mutator) && (entry == entry)) _)
      by_entry index false tested_entry = cond-false ((mutator == mutator) && (entry == index)) _ _ (grind (arith, nat_tests))

  entry_marked : (marked_address : ℕ) → LeaveBuffer mutator memory (touched memory (grey_touch config marked_address))
  entry_marked marked_address = record { count = refl; entries = λ index number_below. refl; greys = λ number bit number_below was_grey. bits_stay config (greys_in memory) marked_address number bit was_grey }

  step_load_count : CanRemember config memory mutator address LoadCount → RememberStep LoadCount
  step_load_count can_remember = by_count (nat_lt (memory (Count mutator)) 8) refl
    where
      left : LeaveBuffer mutator memory (after LoadCount)
      left = count_loaded

      by_count : (holds : Bool) → nat_lt (memory (Count mutator)) 8 ≡ holds → RememberStep LoadCount
      by_count true tested_count =
          let count_below : memory (Count mutator) < 8 = grind (arith, nat_tests) in
          let goes_on : next_at LoadCount (memory (Count mutator)) ≡ StoreEntry (memory (Count mutator)) = cond-true (nat_lt (memory (Count mutator)) 8) _ _ tested_count in
          record {
            next = subst (λ spot. CanRemember config (after LoadCount) mutator address spot) (sym goes_on) (record {
              buffer = buffer_stays config mutator memory (after LoadCount) left can_remember.buffer;
              ready = tested_count;
              facts = (left.count, count_below);
            });
            keeps = recorded_stays config mutator memory (after LoadCount) left can_remember.buffer.few;
          }
      by_count false tested_count =
          let count_full : memory (Count mutator) ≡ 8 = grind (arith, nat_tests, can_remember.buffer.few) in
          let goes_on : next_at LoadCount (memory (Count mutator)) ≡ LoadEntry 0 = cond-false (nat_lt (memory (Count mutator)) 8) _ _ tested_count in
          record {
            next = subst (λ spot. CanRemember config (after LoadCount) mutator address spot) (sym goes_on) (record {
              buffer = buffer_stays config mutator memory (after LoadCount) left can_remember.buffer;
              ready = refl;
              facts = (left.count ∙ count_full, omega arith, λ index index_below. absurd (omega (arith, index_below)));
            });
            keeps = recorded_stays config mutator memory (after LoadCount) left can_remember.buffer.few;
          }

  step_load_entry : (entry : ℕ) → CanRemember config memory mutator address (LoadEntry entry) → RememberStep (LoadEntry entry)
  step_load_entry entry can_remember =
      let buffer_left : LeaveBuffer mutator memory (after (LoadEntry entry)) = entry_loaded entry in
      let facts = facts_stay config mutator memory (after (LoadEntry entry)) buffer_left address (LoadEntry entry) can_remember.buffer.few can_remember.facts in
      let entry_in_heap : IsWord config (Heap (memory (Buffer mutator entry))) = can_remember.buffer.addresses entry (omega (arith, can_remember.facts.0, can_remember.facts.1)) in
      record {
        next = record {
          buffer = buffer_stays config mutator memory (after (LoadEntry entry)) buffer_left can_remember.buffer;
          ready = grind (arith, nat_tests, entry_in_heap, can_remember.facts);
          facts = (facts.0, facts.1, facts.2, buffer_left.entries entry can_remember.facts.1);
        };
        keeps = recorded_stays config mutator memory (after (LoadEntry entry)) buffer_left can_remember.buffer.few;
      }

  step_mark_entry : (entry found : ℕ) → CanRemember config memory mutator address (MarkEntry entry found) → RememberStep (MarkEntry entry found)
  step_mark_entry entry found can_remember = by_entry (nat_lt entry 7) refl
    where
      left : LeaveBuffer mutator memory (after (MarkEntry entry found))
      left = entry_marked found

      one_more : AreGrey config (after (MarkEntry entry found)) mutator (entry + 1)
      one_more index index_below = by_place (index == entry) refl
        where
          by_place : (holds : Bool) → (index == entry) ≡ holds → HasMark config (greys_in (after (MarkEntry entry found))) (memory (Buffer mutator index))
          by_place true tested_entry =
              let entry_found : memory (Buffer mutator index) ≡ found = ap (λ entry. memory (Buffer mutator entry)) (grind (arith, nat_tests)) ∙ can_remember.facts.3 in
              subst (λ entry_word. HasMark config (greys_in (after (MarkEntry entry found))) entry_word) (sym entry_found) (mark_set config (greys_in memory) found)
          by_place false tested_entry =
              greys_stay config mutator memory (after (MarkEntry entry found)) left entry (omega (arith, can_remember.facts.1)) can_remember.facts.2 index (grind (arith, nat_tests))

      by_entry : (holds : Bool) → nat_lt entry 7 ≡ holds → RememberStep (MarkEntry entry found)
      by_entry true tested_entry =
          let goes_on : next_at (MarkEntry entry found) (found_at (MarkEntry entry found)) ≡ LoadEntry (entry + 1) = cond-true (nat_lt entry 7) _ _ tested_entry in
          record {
            next = subst (λ spot. CanRemember config (after (MarkEntry entry found)) mutator address spot) (sym goes_on) (record {
              buffer = buffer_stays config mutator memory (after (MarkEntry entry found)) left can_remember.buffer;
              ready = grind (arith, nat_tests);
              facts = (can_remember.facts.0, grind (arith, nat_tests), one_more);
            });
            keeps = recorded_stays config mutator memory (after (MarkEntry entry found)) left can_remember.buffer.few;
          }
      by_entry false tested_entry =
          let goes_on : next_at (MarkEntry entry found) (found_at (MarkEntry entry found)) ≡ ClearCount = cond-false (nat_lt entry 7) _ _ tested_entry in
          let last_entry : 8 ≤ entry + 1 = grind (arith, nat_tests) in
          record {
            next = subst (λ spot. CanRemember config (after (MarkEntry entry found)) mutator address spot) (sym goes_on) (record {
              buffer = buffer_stays config mutator memory (after (MarkEntry entry found)) left can_remember.buffer;
              ready = refl;
              facts = (can_remember.facts.0, λ index index_below. one_more index (omega (arith, index_below, last_entry)));
            });
            keeps = recorded_stays config mutator memory (after (MarkEntry entry found)) left can_remember.buffer.few;
          }

  -- the count after a store of it
  count_stored : (value : ℕ) → touched memory (touch (Count mutator) (stores value)) (Count mutator) ≡ value
  count_stored value = cond-true (mutator == mutator) value (memory (Count mutator)) (eq-eqb mutator mutator refl)

  -- an entry after a store of one
  entry_stored : (entry value : ℕ) → touched memory (touch (Buffer mutator entry) (stores value)) (Buffer mutator entry) ≡ value
  entry_stored entry value = cond-true ((mutator == mutator) && (entry == entry)) value (memory (Buffer mutator entry)) (grind (arith, nat_tests))

  entry_else : (entry value index : ℕ) → entry ≢ index → touched memory (touch (Buffer mutator entry) (stores value)) (Buffer mutator index) ≡ memory (Buffer mutator index)
  entry_else entry value index entries_differ = cond-false ((mutator == mutator) && (entry == index)) value (memory (Buffer mutator index)) (grind (arith, nat_tests))

  step_clear_count : CanRemember config memory mutator address ClearCount → RememberStep ClearCount
  step_clear_count can_remember =
      let zero : after ClearCount (Count mutator) ≡ 0 = count_stored 0 in
      record {
        next = record {
          buffer = record { few = omega (arith, zero); addresses = λ index below. absurd (omega (arith, below, zero)) };
          ready = refl;
          facts = (zero, omega arith);
        };
        keeps = keeps_all;
      }
    where
      keeps_all : KeepRecorded config mutator memory (after ClearCount)
      keeps_all recorded_address (inl grey) = inl grey
      keeps_all recorded_address (inr (index, index_below, entry_found)) = inl (subst (λ entry_word. HasMark config (greys_in memory) entry_word) entry_found (can_remember.facts.1 index (omega (arith, index_below, can_remember.facts.0))))

  step_store_entry : (entry : ℕ) → CanRemember config memory mutator address (StoreEntry entry) → RememberStep (StoreEntry entry)
  step_store_entry entry can_remember = record {
    next = record {
      buffer = record {
        few = can_remember.buffer.few;
        addresses = λ index below. subst (λ address. IsWord config (Heap address)) (sym (below_stays index below)) (can_remember.buffer.addresses index below);
      };
      ready = can_remember.ready;
      facts = (can_remember.facts.0, can_remember.facts.1, entry_stored entry address);
    };
    keeps = keeps_all;
  }
    where
      below_stays : (index : ℕ) → index < memory (Count mutator) → after (StoreEntry entry) (Buffer mutator index) ≡ memory (Buffer mutator index)
      below_stays index index_below = entry_else entry address index (omega (arith, index_below, can_remember.facts.0))

      keeps_all : KeepRecorded config mutator memory (after (StoreEntry entry))
      keeps_all recorded_address (inl grey) = inl grey
      keeps_all recorded_address (inr (index, index_below, entry_found)) = inr (index, index_below, below_stays index index_below ∙ entry_found)

  step_store_count : (entry : ℕ) → IsWord config (Heap address) → CanRemember config memory mutator address (StoreCount entry) → RememberStep (StoreCount entry)
  step_store_count entry heap can_remember =
      let more : after (StoreCount entry) (Count mutator) ≡ entry + 1 = count_stored (entry + 1) in
      record {
        next = record {
          buffer = record {
            few = omega (arith, more, can_remember.facts.1);
            addresses = λ index below. addresses_then index (index == entry) refl (omega (arith, below, more));
          };
          ready = refl;
          facts = inr (entry, omega (arith, more), can_remember.facts.2);
        };
        keeps = keeps_all more;
      }
    where
      addresses_then : (index : ℕ) (holds : Bool) → (index == entry) ≡ holds → index < entry + 1 → IsWord config (Heap (memory (Buffer mutator index)))
      addresses_then index true tested_entry index_below =
          let holds_address : memory (Buffer mutator index) ≡ address = ap (λ entry. memory (Buffer mutator entry)) (grind (arith, nat_tests)) ∙ can_remember.facts.2 in
          subst (λ address. IsWord config (Heap address)) (sym holds_address) heap
      addresses_then index false tested_entry index_below = can_remember.buffer.addresses index (grind (arith, nat_tests, can_remember.facts.0))

      keeps_all : after (StoreCount entry) (Count mutator) ≡ entry + 1 → KeepRecorded config mutator memory (after (StoreCount entry))
      keeps_all count_grown recorded_address (inl grey) = inl grey
      keeps_all count_grown recorded_address (inr (index, index_below, entry_found)) = inr (index, omega (arith, index_below, count_grown, can_remember.facts.0), entry_found)

  -- each step of the mutator
  pub each_remembers : (spot : RememberSpot) → is_ended spot ≡ false → IsWord config (Heap address) → CanRemember config memory mutator address spot → RememberStep spot
  each_remembers LoadCount going heap can_remember = step_load_count can_remember
  each_remembers (LoadEntry entry) going heap can_remember = step_load_entry entry can_remember
  each_remembers (MarkEntry entry found) going heap can_remember = step_mark_entry entry found can_remember
  each_remembers ClearCount going heap can_remember = step_clear_count can_remember
  each_remembers (StoreEntry entry) going heap can_remember = step_store_entry entry can_remember
  each_remembers (StoreCount entry) going heap can_remember = step_store_count entry heap can_remember
  each_remembers Recorded going heap can_remember = absurd (cc (going))
