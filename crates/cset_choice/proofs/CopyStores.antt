-- What the stores of copying make.
use Rattle.std.proofs.Common.{◌≡◌, ◌≢◌, ℕ, ◌+◌, ◌-◌, ◌<◌, ◌≤◌, ◌⊎◌, ◌==◌, ◌&&◌, nat_le, nat_lt, cond, bit_and, Option, Some, None, inl, inr, refl, sym, ap, ◌∙◌, subst, ⊎_elim, arith}
use Rattle.std.specs.Int.{bit_at}
use Rattle.std.proofs.lemmas.Bool.{cases_eq, cond-true, eq-eqb}
use Rattle.std.proofs.lemmas.Bool.Decides.{nat_tests}
use Rattle.std.proofs.lemmas.Option.{none-some, same_Some}
use Rattle.std.proofs.Math.Path.{fun_ext}
use Rattle.heap_words.specs.declared.config.Config.{Config}
use Rattle.heap_words.specs.Words.{Word, Cset, Free, Top, Heap, write}
use Rattle.heap_words.specs.Encoding.{header_word, plain_header}
use Rattle.regions.specs.Sets.{IsIn, IsOutside, all_but}
use Rattle.regions.proofs.ServedRooms.{has_room}
use Rattle.regions.specs.Place.{region_with}
use Rattle.image_graph.specs.Full.{now_in}
use Rattle.cycle_words.specs.Evacuation.Live.{words_at}
use Rattle.cycle_words.specs.Evacuation.Copying.{tops_outside}
use Rattle.cycle_words.specs.Evacuation.Copied.{CanCopyOut, copy_room, copy_in, copy_address, top_address, copied_in, copied_out, copied_to}
use Rattle.cycle_words.proofs.Evacuation.RegionAddresses.{of_its_region, regions_apart}
use Rattle.cycle_words.proofs.Evacuation.CopiedOut.{outside_with_room, own_top}
use Rattle.cycle_words.proofs.Evacuation.Copies.{now_is}
use Rattle.cset_choice.specs.Steps.{words_copied}

-- nothing is copied yet

none_copied_at : (old_start copy_start : ℕ) (memory : Word → ℕ) (word : Word) → memory word ≡ words_copied old_start copy_start 0 memory word
none_copied_at old_start copy_start memory (Heap address) = none_yet (memory (Heap (old_start + (address - copy_start)))) (memory (Heap address))
  where
    none_yet : (y z : ℕ) → z ≡ cond (nat_le copy_start address && nat_lt address (copy_start + 0)) y z
    none_yet y z = grind (arith, nat_tests)
none_copied_at old_start copy_start memory _ = refl

pub none_copied : (old_start copy_start : ℕ) (memory : Word → ℕ) → memory ≡ words_copied old_start copy_start 0 memory
none_copied old_start copy_start memory = fun_ext (λ word. none_copied_at old_start copy_start memory word)

-- one word more

copy_here : (copy_start count address w y z : ℕ) → address ≡ copy_start + count → w ≡ y
    → cond (copy_start + count == address) w (cond (nat_le copy_start address && nat_lt address (copy_start + count)) y z) ≡ cond (nat_le copy_start address && nat_lt address (copy_start + (count + 1))) y z
copy_here copy_start count address w y z next_address same_word = grind (arith, nat_tests)

copy_elsewhere : (copy_start count address w y z : ℕ) → address ≢ copy_start + count
    → cond (copy_start + count == address) w (cond (nat_le copy_start address && nat_lt address (copy_start + count)) y z) ≡ cond (nat_le copy_start address && nat_lt address (copy_start + (count + 1))) y z
copy_elsewhere copy_start count address w y z not_next = grind (arith, nat_tests)

unread : (old_start copy_start count : ℕ) (y z : ℕ) → (old_start + count < copy_start) ⊎ (copy_start + count ≤ old_start + count) → cond (nat_le copy_start (old_start + count) && nat_lt (old_start + count) (copy_start + count)) y z ≡ z
unread old_start copy_start count y z ranges_apart = ⊎_elim
    (λ (before : old_start + count < copy_start). grind (arith, nat_tests))
    (λ (copy_before : copy_start + count ≤ old_start + count). grind (arith, nat_tests))
    ranges_apart

module _ (old_start copy_start words all_words : ℕ) (memory : Word → ℕ) (words_below : words < all_words) (ranges_apart : (old_start + all_words ≤ copy_start) ⊎ (copy_start + all_words ≤ old_start)) where
  not_written : (old_start + words < copy_start) ⊎ (copy_start + words ≤ old_start + words)
  not_written = ⊎_elim
      (λ (before : old_start + all_words ≤ copy_start). inl (omega (arith, before, words_below)))
      (λ (copy_before : copy_start + all_words ≤ old_start). inr (omega (arith, copy_before, words_below)))
      ranges_apart

  pub still_there : words_copied old_start copy_start words memory (Heap (old_start + words)) ≡ memory (Heap (old_start + words))
  still_there = unread old_start copy_start words (memory (Heap (old_start + (old_start + words - copy_start)))) (memory (Heap (old_start + words))) not_written

  copied_next_at : (word : Word) → write (words_copied old_start copy_start words memory) (Heap (copy_start + words)) (memory (Heap (old_start + words))) word ≡ words_copied old_start copy_start (words + 1) memory word
  copied_next_at (Heap address) = ⊎_elim
      (λ (next_address : address ≡ copy_start + words).
      let same_count : words ≡ address - copy_start = omega (arith, next_address) in
      copy_here copy_start words address (memory (Heap (old_start + words))) (memory (Heap (old_start + (address - copy_start)))) (memory (Heap address)) next_address (ap (λ offset. memory (Heap (old_start + offset))) same_count))
      (λ (not_next : address ≢ copy_start + words). copy_elsewhere copy_start words address (memory (Heap (old_start + words))) (memory (Heap (old_start + (address - copy_start)))) (memory (Heap address)) not_next)
      (cases_eq address (copy_start + words))
  copied_next_at _ = refl

  pub copied_next : write (words_copied old_start copy_start words memory) (Heap (copy_start + words)) (memory (Heap (old_start + words))) ≡ words_copied old_start copy_start (words + 1) memory
  copied_next = fun_ext copied_next_at

-- the whole copy

heap_copied : (old_address copy_start count address new_header y z : ℕ)
    → cond (old_address == address) new_header (cond (copy_start == address) plain_header (cond (nat_le copy_start address && nat_lt address (copy_start + count)) y z))
    ≡ cond (old_address == address) new_header (cond (copy_start == address) plain_header (cond (nat_lt copy_start address && nat_lt address (copy_start + count)) y z))
heap_copied old_address copy_start count address new_header y z = grind (arith, nat_tests)

module _ (config : Config) (memory : Word → ℕ) (other_address region : ℕ) where
  abbrev to : ℕ
  to = top_address config memory region

  abbrev n : ℕ
  n = words_at memory other_address

  -- the words after these stores
  abbrev pub copied_by_stores : (address words top free_regions header : ℕ) → Word → ℕ
  copied_by_stores address words top free_regions header =
      write (write (write (write (words_copied other_address address words memory) (Heap address) plain_header) (Top region) top) Free free_regions) (Heap other_address) header

  copied_stores_at : (word : Word) → copied_by_stores to n (memory (Top region) + n) (bit_and (memory Free) (all_but region)) (header_word to) word ≡ copied_to config memory other_address region word
  unfolding copied_to
  copied_stores_at (Heap address) = heap_copied other_address to n address (header_word to) (memory (Heap (other_address + (address - to)))) (memory (Heap address))
  copied_stores_at _ = refl

  pub copied_stores : (address words top free_regions header : ℕ) → address ≡ to → words ≡ n → top ≡ memory (Top region) + n → free_regions ≡ bit_and (memory Free) (all_but region) → header ≡ header_word to
      → copied_by_stores address words top free_regions header ≡ copied_to config memory other_address region
  copied_stores address words top free_regions header same_address same_words grown taken names =
      ap (λ address. copied_by_stores address words top free_regions header) same_address
      ∙ ap (λ words. copied_by_stores to words top free_regions header) same_words
      ∙ ap (λ top. copied_by_stores to n top free_regions header) grown
      ∙ ap (λ free_regions. copied_by_stores to n (memory (Top region) + n) free_regions header) taken
      ∙ ap (copied_by_stores to n (memory (Top region) + n) (bit_and (memory Free) (all_but region))) names
      ∙ fun_ext copied_stores_at

  -- the current copy is the new one
  pub header_names_copy : copied_to config memory other_address region (Heap other_address) ≡ header_word to
  unfolding copied_to
  header_names_copy = cond-true (other_address == other_address) (header_word to) _ (eq-eqb other_address other_address refl)

-- the region that is found
pub found_room : (config : Config) (memory : Word → ℕ) (address region : ℕ) → copy_room config memory address ≡ Some region
    → (region < config.regions) × IsOutside (memory Cset) region × (memory (Top region) + words_at memory address ≤ config.region_words)
found_room config memory address region found =
    let lowest = has_room config.region_words (tops_outside config.region_words (memory Cset) (λ region. memory (Top region))) (words_at memory address) config.regions region found in
    let outside = outside_with_room config.region_words (memory Cset) (λ region. memory (Top region)) region (words_at memory address) (omega arith) lowest.room in
    let own_room = own_top config.region_words (memory Cset) (λ region. memory (Top region)) region outside in
    (lowest.below, outside, omega (arith, lowest.room, own_room))

-- the copy lies apart from the old one
pub copies_apart : (config : Config) (memory : Word → ℕ) (address region : ℕ) → CanCopyOut config memory address → IsOutside (memory Cset) region → memory (Top region) + words_at memory address ≤ config.region_words
    → (address + words_at memory address ≤ top_address config memory region) ⊎ (top_address config memory region + words_at memory address ≤ address)
copies_apart config memory address region can_copy outside room =
    let size = words_at memory address in
    let copy_start = top_address config memory region in
    let object_lies = can_copy.lies in
    let member = can_copy.in_set in
    let differ : region_with config address ≢ region = λ same_region. (let inside : bit_at (memory Cset) region ≡ 1 = subst (IsIn (memory Cset)) same_region member in omega (arith, inside, outside)) in
    let first_apart = regions_apart config (region_with config address) region (address + 0) copy_start size differ (of_its_region config address 0 can_copy.above (omega (arith, object_lies))) (omega arith) (omega (arith, room)) in
    let last_apart = regions_apart config (region_with config address) region (address + (size - 1)) copy_start size differ (of_its_region config address (size - 1) can_copy.above (omega (arith, object_lies))) (omega arith) (omega (arith, room)) in
    ⊎_elim
    (λ (begins : address + 0 < copy_start). ⊎_elim
    (λ (ends : address + (size - 1) < copy_start). inl (omega (arith, ends)))
    (λ (copy_before : copy_start + size ≤ address + (size - 1)). absurd (omega (arith, copy_before, begins)))
    last_apart)
    (λ (copy_before : copy_start + size ≤ address + 0). inr (omega (arith, copy_before)))
    first_apart

-- the address of the copy is that of the current copy then
pub copy_is_now : (config : Config) (memory : Word → ℕ) (address copy : ℕ) → copy_address config memory address ≡ Some copy → copy ≡ now_in (copied_out config memory address) address
copy_is_now config memory address copy found = by_room (copy_room config memory address) found
  where
    by_room : (found_room : Option ℕ) → copy_in config memory found_room ≡ Some copy → copy ≡ now_in (copied_in config memory address found_room) address
    by_room None copy_is = absurd (none-some copy copy_is)
    by_room (Some region) copy_is =
        let copy_there : top_address config memory region ≡ copy = same_Some (top_address config memory region) copy copy_is in
        sym copy_there ∙ sym (now_is (copied_to config memory address region) address (top_address config memory region) (header_names_copy config memory address region))

-- and there is one where some region has room
pub some_copy : (config : Config) (memory : Word → ℕ) (address : ℕ) → copy_room config memory address ≢ None → copy_address config memory address ≡ None → ⊥
some_copy config memory address room no_copy = by_room (copy_room config memory address) room no_copy
  where
    by_room : (found : Option ℕ) → found ≢ None → copy_in config memory found ≡ None → ⊥
    by_room None some_room copy_is = some_room refl
    by_room (Some region) some_room copy_is = none-some (top_address config memory region) (sym copy_is)
