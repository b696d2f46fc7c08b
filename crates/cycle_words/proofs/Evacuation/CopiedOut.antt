-- What copying one object makes of the words.
use Rattle.std.proofs.Common.{◌≡◌, ◌≢◌, ℕ, ◌+◌, ◌-◌, ◌%◌, ◌<◌, ◌≤◌, ◌⊎◌, ◌==◌, ◌&&◌, nat_lt, Option, Some, None, refl, sym, ap, ◌∙◌, subst, ⊎_elim, arith, w64}
use Rattle.std.specs.Int.{bit_at}
use Rattle.std.proofs.lemmas.Bool.{cases_eq, cond-true, cond-false, eq-eqb, ne_eqb, and_from, and_left, and_right, lt-ltb, le-ltb}
use Rattle.std.proofs.lemmas.Nat.{mod_below}
use Rattle.std.proofs.lemmas.Nat.Bits.{bit_at-lt, bit_at_clear_same, bit_at_clear_other}
use Rattle.heap_words.specs.declared.config.Config.{Config}
use Rattle.heap_words.specs.Words.{Word, Cset, Free, Top, Heap}
use Rattle.heap_words.specs.Encoding.{header_word, plain_header}
use Rattle.regions.proofs.ServedRooms.{has_room}
use Rattle.regions.specs.Place.{region_with, IsOf}
use Rattle.regions.specs.Sets.{IsIn, IsOutside}
use Rattle.heap_world.specs.World.{IsCollected}
use Rattle.cycle_words.specs.Evacuation.Live.{words_at}
use Rattle.cycle_words.specs.Evacuation.Copying.{tops_outside}
use Rattle.cycle_words.specs.Evacuation.Copied.{copy_room, top_address, copied_word, copied_to, copied_in, copied_out, MayChange, IsCopiedTo, IsCopiedOut}
use Rattle.cycle_words.proofs.Evacuation.RegionAddresses.{some_words, of_its_region, regions_apart}

-- a region with room is outside the set, since one of the set counts as full
pub outside_with_room : (region_words set : ℕ) (top : ℕ → ℕ) (region words_wanted : ℕ) → 0 < words_wanted → tops_outside region_words set top region + words_wanted ≤ region_words → IsOutside set region
outside_with_room region_words set top region words_wanted words_positive room_left = ⊎_elim
    (λ (region_in_set : bit_at set region ≡ 1).
    let counts_full : tops_outside region_words set top region ≡ region_words = cond-true (bit_at set region == 1) region_words (top region) (eq-eqb (bit_at set region) 1 region_in_set) in
    absurd (omega (arith, counts_full, room_left, words_positive)))
    (λ (outside : bit_at set region ≢ 1). omega (arith, outside, bit_at-lt set region))
    (cases_eq (bit_at set region) 1)

-- the top of a region outside is the region's own
pub own_top : (region_words set : ℕ) (top : ℕ → ℕ) (region : ℕ) → IsOutside set region → tops_outside region_words set top region ≡ top region
own_top region_words set top region outside = cond-false (bit_at set region == 1) region_words (top region) (ne_eqb (bit_at set region) 1 (λ member. omega (arith, member, outside)))

-- the words of the copy, and those before and behind it
module _ (heap : ℕ → ℕ) (from copy words : ℕ) where
  word_of_copy : (offset : ℕ) → 0 < offset → offset < words → copied_word heap from copy words (copy + offset) ≡ heap (from + offset)
  word_of_copy offset offset_positive offset_below =
      let offset_back : copy + offset - copy ≡ offset = omega arith in
      cond-false (copy == copy + offset) plain_header _ (ne_eqb copy (copy + offset) (λ same_address. omega (arith, same_address, offset_positive)))
      ∙ cond-true (nat_lt copy (copy + offset) && nat_lt (copy + offset) (copy + words)) (heap (from + (copy + offset - copy))) (heap (copy + offset))
      (and_from (nat_lt copy (copy + offset)) (nat_lt (copy + offset) (copy + words)) (lt-ltb copy (copy + offset) (omega (arith, offset_positive))) (lt-ltb (copy + offset) (copy + words) (omega (arith, offset_below))))
      ∙ ap (λ asked_offset. heap (from + asked_offset)) offset_back

  word_elsewhere : (address : ℕ) → 0 < words → (address < copy) ⊎ (copy + words ≤ address) → copied_word heap from copy words address ≡ heap address
  word_elsewhere address words_positive outside_copy = ⊎_elim
      (λ (address_before : address < copy).
      cond-false (copy == address) plain_header _ (ne_eqb copy address (λ same_address. omega (arith, same_address, address_before)))
      ∙ cond-false (nat_lt copy address && nat_lt address (copy + words)) (heap (from + (address - copy))) (heap address) (and_left (nat_lt copy address) (nat_lt address (copy + words)) (le-ltb copy address (omega (arith, address_before)))))
      (λ (behind_copy : copy + words ≤ address).
      cond-false (copy == address) plain_header _ (ne_eqb copy address (λ same_address. omega (arith, same_address, behind_copy, words_positive)))
      ∙ cond-false (nat_lt copy address && nat_lt address (copy + words)) (heap (from + (address - copy))) (heap address) (and_right (nat_lt copy address) (nat_lt address (copy + words)) (le-ltb address (copy + words) behind_copy)))
      outside_copy

module _ (config : Config) (memory : Word → ℕ) (source region : ℕ) where
  abbrev to : ℕ
  to = top_address config memory region

  abbrev words : ℕ
  words = words_at memory source

  heap_after : (address : ℕ) → address ≢ source → copied_to config memory source region (Heap address) ≡ copied_word (λ address. memory (Heap address)) source to words address
  unfolding copied_to
  heap_after address other_word = cond-false (source == address) (header_word to) _ (ne_eqb source address (λ same_address. other_word (sym same_address)))

  pub others_stay : (word : Word) → (MayChange word → ⊥) → copied_to config memory source region word ≡ memory word
  unfolding copied_to
  others_stay (Heap address) word_stays = absurd (word_stays tt)
  others_stay (Top asked_region) word_stays = absurd (word_stays tt)
  others_stay Free word_stays = absurd (word_stays tt)
  others_stay word word_stays = refl

  module _ (source_apart : (source < to) ⊎ (to + words ≤ source)) (region_inside : region < config.regions) where
    pub is_copied_to : IsCopiedTo config memory (copied_to config memory source region) source region
    unfolding copied_to
    is_copied_to =
        let has_words : 0 < words = omega arith in
        let region_small : region < 64 = (let range = config.in_range in omega (arith, range.most_regions, region_inside)) in
        let never_old : (offset : ℕ) → offset < words → to + offset ≢ source = λ offset offset_below same_address. ⊎_elim (λ (source_before : source < to). omega (arith, same_address, source_before)) (λ (behind_copy : to + words ≤ source). omega (arith, same_address, behind_copy, offset_below)) source_apart in
        record {
          header = (let plain_sum : to + 0 ≡ to = omega arith in heap_after to (λ same_address. never_old 0 has_words (plain_sum ∙ same_address)) ∙ cond-true (to == to) plain_header _ (eq-eqb to to refl));
          words = λ offset positive offset_below. heap_after (to + offset) (never_old offset offset_below) ∙ word_of_copy (λ address. memory (Heap address)) source to words offset positive offset_below;
          forwarded = cond-true (source == source) (header_word to) _ (eq-eqb source source refl);
          elsewhere = λ address unlike outside. heap_after address unlike ∙ word_elsewhere (λ address. memory (Heap address)) source to words address has_words outside;
          top = cond-true (region == region) (memory (Top region) + words) (memory (Top region)) (eq-eqb region region refl);
          other_tops = λ asked_region unlike. cond-false (region == asked_region) (memory (Top region) + words) (memory (Top asked_region)) (ne_eqb region asked_region (λ same_address. unlike (sym same_address)));
          in_use = bit_at_clear_same w64 (memory Free) region region_small;
          others_free = λ asked_region offset_below unlike. bit_at_clear_other w64 (memory Free) region region_small asked_region (let range = config.in_range in omega (arith, range.most_regions, offset_below)) unlike;
          others = others_stay;
        }

-- copying by the region that was found
pub copied_as : (config : Config) (memory : Word → ℕ) (address region : ℕ) → copy_room config memory address ≡ Some region → copied_out config memory address ≡ copied_to config memory address region
copied_as config memory address region region_found = ap (copied_in config memory address) region_found

pub copying_copies : (config : Config) (memory : Word → ℕ) (address region : ℕ) → config.region_words ≤ address → IsIn (memory Cset) (region_with config address) → copy_room config memory address ≡ Some region
    → IsCopiedOut config memory (copied_out config memory address) address
copying_copies config memory address region address_above region_in_set region_found =
    let region_words = config.region_words in
    let set_member : address + 0 ≡ address = omega arith in
    let inside_region : address % region_words + 0 < region_words = omega (arith, mod_below address region_words (some_words config)) in
    let lowest = has_room region_words (tops_outside region_words (memory Cset) (λ region. memory (Top region))) (words_at memory address) config.regions region region_found in
    let outside : IsOutside (memory Cset) region = outside_with_room region_words (memory Cset) (λ region. memory (Top region)) region (words_at memory address) (omega arith) lowest.room in
    let own_tops = own_top region_words (memory Cset) (λ region. memory (Top region)) region outside in
    let words_fit : memory (Top region) + words_at memory address ≤ region_words = omega (arith, lowest.room, own_tops) in
    let differ : region_with config address ≢ region = λ same_region. (let set_member : bit_at (memory Cset) region ≡ 1 = subst (IsIn (memory Cset)) same_region region_in_set in omega (arith, set_member, outside)) in
    let regions_differ = regions_apart config (region_with config address) region address (top_address config memory region) (words_at memory address) differ (subst (IsOf config (region_with config address)) set_member (of_its_region config address 0 address_above inside_region)) (omega arith) (omega (arith, words_fit)) in
    record {
      region = region;
      found = region_found;
      below = lowest.below;
      outside = outside;
      room = words_fit;
      copied = subst (λ after. IsCopiedTo config memory after address region) (sym (copied_as config memory address region region_found)) (is_copied_to config memory address region regions_differ lowest.below);
    }

-- copying copies, where there is room
pub copies_out : (config : Config) (memory : Word → ℕ) (address : ℕ) → config.region_words ≤ address → IsCollected config (memory Cset) address → copy_room config memory address ≢ None → IsCopiedOut config memory (copied_out config memory address) address
copies_out config memory address address_above address_collected some_room = by_room (copy_room config memory address) refl
  where
    by_room : (found : Option ℕ) → copy_room config memory address ≡ found → IsCopiedOut config memory (copied_out config memory address) address
    by_room None room_search = absurd (some_room room_search)
    by_room (Some region) found = copying_copies config memory address region address_above address_collected found
