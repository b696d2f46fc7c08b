-- What copying goes by, and what the header of an old copy says.
use Rattle.std.proofs.Common.{◌≡◌, ℕ, ◌+◌, ◌*◌, ◌%◌, ◌≤◌, ◌==◌, if◌then◌else◌, nat_le, bit_and, true, false, zero, suc, List, ◌++◌, length, get_or, Option, Some, None, refl, ap, ◌∙◌, arith}
use Rattle.std.specs.Int.{bit_at}
use Rattle.std.proofs.Math.Path.{fun_ext}
use Rattle.std.proofs.lemmas.Bool.{cond-true, cond-false, eq-eqb, ne_eqb, and_right}
use Rattle.std.proofs.lemmas.List.{get_or_append_left}
use Rattle.heap_words.specs.declared.config.Config.{Config}
use Rattle.heap_words.specs.Words.{Word, Cset, Free, Top, Heap, write}
use Rattle.heap_words.specs.Encoding.{header_word, is_forwarded, forwardee_in, object_words}
use Rattle.regions.specs.ServedRooms.{lowest_room}
use Rattle.regions.specs.Place.{base_of, region_with}
use Rattle.regions.specs.Sets.{IsOutside, all_but}
use Rattle.regions.specs.Walk.{is_filler}
use Rattle.image_graph.specs.Full.{now_in}
use Rattle.cycle_words.specs.Evacuation.Live.{words_at}
use Rattle.cycle_words.specs.Evacuation.Copying.{tops_outside}
use Rattle.cycle_words.specs.Evacuation.Copied.{copy_room, top_address, copied_word, copied_in, copied_to, copied_out, copied_by}
use Rattle.cycle_words.specs.Evacuation.Begun.{IsNaming, is_collected, moved_out, cleared_at}

-- a header that was written reads back
pub header_forwarded : (copy : ℕ) → is_forwarded (header_word copy) ≡ true
header_forwarded copy = eq-eqb ((4 * copy + 3) % 4) 3 (omega arith)

-- it is not that of words that only fill
pub forwarded_fills : (copy : ℕ) → is_filler (header_word copy) ≡ false
forwarded_fills copy = ne_eqb ((4 * copy + 3) % 4) 2 (omega arith)

header_names : (copy : ℕ) → forwardee_in (header_word copy) ≡ copy
header_names copy = omega arith

-- where the header names a copy, that is the current one
pub now_is : (memory : Word → ℕ) (address copy : ℕ) → memory (Heap address) ≡ header_word copy → now_in memory address ≡ copy
now_is memory address copy header_known =
    cond-true (is_forwarded (memory (Heap address))) (forwardee_in (memory (Heap address))) address (ap is_forwarded header_known ∙ header_forwarded copy)
    ∙ ap forwardee_in header_known ∙ header_names copy

-- what is outside of the set is not collected
pub not_collected : (config : Config) (memory : Word → ℕ) (address : ℕ) → IsOutside (memory Cset) (region_with config address) → is_collected config memory address ≡ false
not_collected config memory address outside =
    and_right (nat_le config.region_words address) (bit_at (memory Cset) (region_with config address) == 1) (ne_eqb (bit_at (memory Cset) (region_with config address)) 1 (λ member. omega (arith, member, outside)))

-- the words of the heap by their addresses
abbrev heap_of : (Word → ℕ) → ℕ → ℕ
heap_of memory address = memory (Heap address)

-- copying goes by the words that name no objects
module _ (config : Config) (memory second_memory : Word → ℕ) (address : ℕ) (same_words : (word : Word) → (IsNaming word → ⊥) → memory word ≡ second_memory word) where
  same_words_at : words_at memory address ≡ words_at second_memory address
  same_words_at = ap object_words (same_words (Heap (address + 1)) (λ never. never))

  same_heap : heap_of memory ≡ heap_of second_memory
  same_heap = fun_ext (λ address. same_words (Heap address) (λ never. never))

  pub same_copy_room : copy_room config memory address ≡ copy_room config second_memory address
  same_copy_room =
      ap (λ some_set. lowest_room config.region_words (tops_outside config.region_words some_set (λ region. memory (Top region))) (words_at memory address) config.regions) (same_words Cset (λ never. never))
      ∙ ap (λ (top : ℕ → ℕ). lowest_room config.region_words (tops_outside config.region_words (second_memory Cset) top) (words_at memory address) config.regions) (fun_ext (λ region. same_words (Top region) (λ never. never)))
      ∙ ap (λ words. lowest_room config.region_words (tops_outside config.region_words (second_memory Cset) (λ region. second_memory (Top region))) words config.regions) same_words_at

  same_copied_to : (region : ℕ) (word : Word) → (IsNaming word → ⊥) → copied_to config memory address region word ≡ copied_to config second_memory address region word
  unfolding copied_to
  same_copied_to region (Heap asked_address) names_nothing =
      ap (λ top. if address == asked_address then header_word (base_of config region + top) else copied_word (λ address. memory (Heap address)) address (base_of config region + top) (words_at memory address) asked_address) (same_words (Top region) (λ never. never))
      ∙ ap (λ (heap : ℕ → ℕ). if address == asked_address then header_word (top_address config second_memory region) else copied_word heap address (top_address config second_memory region) (words_at memory address) asked_address) same_heap
      ∙ ap (λ words. if address == asked_address then header_word (top_address config second_memory region) else copied_word (λ address. second_memory (Heap address)) address (top_address config second_memory region) words asked_address) same_words_at
  same_copied_to region (Top asked_region) names_nothing =
      ap (λ top. if region == asked_region then top + words_at memory address else memory (Top asked_region)) (same_words (Top region) (λ never. never))
      ∙ ap (λ size. if region == asked_region then second_memory (Top region) + size else memory (Top asked_region)) same_words_at
      ∙ ap (λ top. if region == asked_region then second_memory (Top region) + words_at second_memory address else top) (same_words (Top asked_region) (λ never. never))
  same_copied_to region Free names_nothing = ap (λ free_bits. bit_and free_bits (all_but region)) (same_words Free (λ never. never))
  same_copied_to region word names_nothing = same_words word names_nothing

  same_copied_in : (found : Option ℕ) (word : Word) → (IsNaming word → ⊥) → copied_in config memory address found word ≡ copied_in config second_memory address found word
  same_copied_in None word names_nothing = same_words word names_nothing
  same_copied_in (Some region) word names_nothing = same_copied_to region word names_nothing

  pub same_copied_out : (word : Word) → (IsNaming word → ⊥) → copied_out config memory address word ≡ copied_out config second_memory address word
  same_copied_out word names_nothing = same_copied_in (copy_room config memory address) word names_nothing ∙ ap (λ room. copied_in config second_memory address room word) same_copy_room

-- copies of the first objects of a longer list
pub copied_front : (config : Config) (memory : Word → ℕ) (objects later_objects : List ℕ) (index : ℕ) → index ≤ length objects → copied_by config memory (objects ++ later_objects) index ≡ copied_by config memory objects index
unfolding copied_by
copied_front config memory objects later_objects zero index_inside = refl
copied_front config memory objects later_objects (suc index) index_inside =
    ap (λ object. copied_out config (copied_by config memory (objects ++ later_objects) index) object) (get_or_append_left objects later_objects 0 index (omega (arith, index_inside)))
    ∙ ap (λ some_memory. copied_out config some_memory (get_or objects index 0)) (copied_front config memory objects later_objects index (omega (arith, index_inside)))

pub copied_next : (config : Config) (memory : Word → ℕ) (objects : List ℕ) (index : ℕ) → copied_by config memory objects (suc index) ≡ copied_out config (copied_by config memory objects index) (get_or objects index 0)
unfolding copied_by
copied_next config memory objects index = refl

-- what a place is cleared to
pub cleared_is : (config : Config) (memory : Word → ℕ) (place : Word) → is_collected config memory (memory place) ≡ true
    → cleared_at config memory place ≡ write (moved_out config memory (memory place)) place (now_in (moved_out config memory (memory place)) (memory place))
unfolding cleared_at
cleared_is config memory place place_collected = fun_ext (λ word. cond-true (is_collected config memory (memory place)) (write (moved_out config memory (memory place)) place (now_in (moved_out config memory (memory place)) (memory place)) word) (memory word) place_collected)

pub spared_is : (config : Config) (memory : Word → ℕ) (place : Word) → is_collected config memory (memory place) ≡ false → cleared_at config memory place ≡ memory
unfolding cleared_at
spared_is config memory place place_spared = fun_ext (λ word. cond-false (is_collected config memory (memory place)) (write (moved_out config memory (memory place)) place (now_in (moved_out config memory (memory place)) (memory place)) word) (memory word) place_spared)
