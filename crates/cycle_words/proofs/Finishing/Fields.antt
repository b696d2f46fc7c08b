-- Which words updating all references changes, where pieces fill the parts in use of regions where objects stay.
use Rattle.std.proofs.Common.{◌≡◌, ◌≢◌, ℕ, ◌+◌, ◌-◌, ◌%◌, ◌<◌, ◌≤◌, ◌⊎◌, ◌==◌, not, nat_le, true, false, Some, ⊎_elim, ap, ◌∙◌, arith}
use Rattle.std.specs.Int.{bit_at}
use Rattle.std.proofs.lemmas.Bool.{cond-true, cond-false, cases_eq, cases_lt, eq-eqb, ne_eqb, and_from, and_left, and_right, or_from, or_left, or_right, not_from_true, not_from_false, le-leb, lt-leb}
use Rattle.std.proofs.lemmas.Nat.Bits.{bit_at-lt}
use Rattle.heap_words.specs.declared.config.Config.{Config}
use Rattle.heap_words.specs.Words.{Word, Cset, Top, Tams, Black, Heap}
use Rattle.heap_words.specs.Encoding.{header_word, is_forwarded, forwardee_in}
use Rattle.regions.specs.Place.{base_of, region_with}
use Rattle.regions.specs.Sets.{IsIn}
use Rattle.regions.specs.Walk.{stride_at}
use Rattle.regions.specs.Marks.{HasMark, mark_word, mark_bit}
use Rattle.heap_world.specs.World.{Block, words_of, Plot, IsCollected, IsYoung, IsPlotted, IsFilled}
use Rattle.image_graph.specs.Full.{now_in}
use Rattle.cycle_words.specs.Marking.Marks.{is_black}
use Rattle.cycle_words.specs.Evacuation.Begun.{is_collected}
use Rattle.image_graph.specs.Pinned.{is_pinned, object_of, is_in_use}
use Rattle.cycle_words.specs.Finishing.Updated.{updated_word, is_kept, is_kept_here, is_reference, stays, is_staying, is_kept_field, all_updated}
use Rattle.cycle_words.proofs.Finishing.Walking as walking

-- a bit is 0 or 1
no_bit : (region_set region : ℕ) → (IsIn region_set region → ⊥) → bit_at region_set region ≡ 0
no_bit region_set region not_in = ⊎_elim
    (λ (bit_set : bit_at region_set region ≡ 1). absurd (not_in bit_set))
    (λ (bit_clear : bit_at region_set region ≢ 1). (let few = bit_at-lt region_set region in omega (arith, few, bit_clear)))
    (cases_eq (bit_at region_set region) 1)

-- Words that are updated.
module _ (config : Config) (memory : Word → ℕ) where
  -- an address in the collection set, and a word that is none
  pub collected_is : (address : ℕ) → config.region_words ≤ address → IsCollected config (memory Cset) address → is_collected config memory address ≡ true
  collected_is address address_high inside =
      and_from (nat_le config.region_words address) (bit_at (memory Cset) (region_with config address) == 1) (le-leb config.region_words address address_high) (eq-eqb (bit_at (memory Cset) (region_with config address)) 1 inside)

  pub collected_none : (address : ℕ) → (IsCollected config (memory Cset) address → ⊥) → is_collected config memory address ≡ false
  collected_none address outside = and_right (nat_le config.region_words address) (bit_at (memory Cset) (region_with config address) == 1) (ne_eqb (bit_at (memory Cset) (region_with config address)) 1 outside)

  pub collected_low : (address : ℕ) → address < config.region_words → is_collected config memory address ≡ false
  collected_low address low = and_left (nat_le config.region_words address) (bit_at (memory Cset) (region_with config address) == 1) (lt-leb config.region_words address low)

  -- a word outside of the set stays, also one that is no address
  pub word_spared : (word : ℕ) → is_collected config memory word ≡ false → updated_word config memory word ≡ word
  word_spared word not_collected = cond-false (is_collected config memory word) (now_in memory word) word not_collected

  pub low_spared : (address : ℕ) → address ≤ 1 → updated_word config memory address ≡ address
  low_spared address low = word_spared address (collected_low address (let enough_words = config.in_range.least_words in omega (arith, low, enough_words)))

  -- the address of an old copy becomes that of its current copy
  pub word_renewed : (address current_copy : ℕ) → config.region_words ≤ address → IsCollected config (memory Cset) address → memory (Heap address) ≡ header_word current_copy → updated_word config memory address ≡ current_copy
  word_renewed address current_copy address_high inside header =
      cond-true (is_collected config memory address) (now_in memory address) address (collected_is address address_high inside)
      ∙ cond-true (is_forwarded (memory (Heap address))) (forwardee_in (memory (Heap address))) address (ap is_forwarded header ∙ leads)
      ∙ ap forwardee_in header ∙ back
    where
      leads : is_forwarded (header_word current_copy) ≡ true
      leads = eq-eqb (header_word current_copy % 4) 3 (omega arith)

      back : forwardee_in (header_word current_copy) ≡ current_copy
      back = omega arith

-- a region outside of the set is one where objects stay, and so is one that is pinned
pub stays_outside : (config : Config) (memory : Word → ℕ) (region : ℕ) → (IsIn (memory Cset) region → ⊥) → stays config memory region ≡ true
stays_outside config memory region outside = or_left (bit_at (memory Cset) region == 0) (is_pinned config memory region) (eq-eqb (bit_at (memory Cset) region) 0 (no_bit (memory Cset) region outside))

pub stays_pinned : (config : Config) (memory : Word → ℕ) (region : ℕ) → is_pinned config memory region ≡ true → stays config memory region ≡ true
stays_pinned config memory region pinned = or_right (bit_at (memory Cset) region == 0) (is_pinned config memory region) pinned

-- a region of the set that is not pinned is none
pub gone_inside : (config : Config) (memory : Word → ℕ) (region : ℕ) → IsIn (memory Cset) region → is_pinned config memory region ≡ false → stays config memory region ≡ false
gone_inside config memory region inside unpinned = or_from (bit_at (memory Cset) region == 0) (is_pinned config memory region) (ne_eqb (bit_at (memory Cset) region) 0 (λ bit_clear. omega (arith, bit_clear, inside))) unpinned

-- Which words are updated, where each piece of a region where objects stay says how many words it has.
module _ (config : Config) (memory : Word → ℕ) (block : Plot) (plotted : IsPlotted config (λ any_region. memory (Top any_region)) block) (filled : IsFilled config (λ any_region. memory (Top any_region)) block)
    (some_words : (address : ℕ) (piece : Block) → block address ≡ Some piece → 1 ≤ words_of piece)
    (sizes : (address : ℕ) (piece : Block) → block address ≡ Some piece → stays config memory (region_with config address) ≡ true → stride_at (λ y. memory (Heap y)) address ≡ words_of piece) where
  abbrev IsWalked : ℕ → Type 0
  IsWalked region = stays config memory region ≡ true

  -- A word of a piece.
  module _ (address offset : ℕ) (piece : Block) (piece_there : block address ≡ Some piece) (offset_below : offset < words_of piece) where
    abbrev at : (region_with config address < config.regions) × (base_of config (region_with config address) ≤ address) × (address + words_of piece ≤ base_of config (region_with config address) + memory (Top (region_with config address)))
    at = walking.at config memory block plotted filled some_words IsWalked sizes address offset piece piece_there offset_below

    region_low : config.region_words ≤ base_of config (region_with config address)
    region_low = walking.region_low config memory block plotted filled some_words IsWalked sizes address offset piece piece_there offset_below

    pub same_region : region_with config (address + offset) ≡ region_with config address
    same_region = walking.same_region config memory block plotted filled some_words IsWalked sizes address offset piece piece_there offset_below

    module _ (stay : stays config memory (region_with config address) ≡ true) where
      pub object_is : object_of config memory (address + offset) ≡ address
      object_is = walking.object_is config memory block plotted filled some_words IsWalked sizes address offset piece piece_there offset_below stay

      -- the word lies where objects stay
      staying_is : is_staying config memory (address + offset) ≡ true
      staying_is =
          and_from (is_in_use config memory (address + offset)) (stays config memory (region_with config (address + offset))) (walking.in_use config memory block plotted filled some_words IsWalked sizes address offset piece piece_there offset_below)
          (ap (stays config memory) same_region ∙ stay)

      -- a word that is no reference of its piece stays
      pub other_stays : is_reference memory address (address + offset) ≡ false → all_updated config memory (Heap (address + offset)) ≡ memory (Heap (address + offset))
      other_stays no_reference = cond-false (is_kept_field config memory (address + offset)) (updated_word config memory (memory (Heap (address + offset)))) (memory (Heap (address + offset))) no_field
        where
          no_field : is_kept_field config memory (address + offset) ≡ false
          no_field = and_right _ (is_reference memory (object_of config memory (address + offset)) (address + offset)) (ap (λ object. is_reference memory object (address + offset)) object_is ∙ no_reference)

      -- so does one of a piece that has moved
      pub moved_stays : is_forwarded (memory (Heap address)) ≡ true → all_updated config memory (Heap (address + offset)) ≡ memory (Heap (address + offset))
      moved_stays moved = cond-false (is_kept_field config memory (address + offset)) (updated_word config memory (memory (Heap (address + offset)))) (memory (Heap (address + offset))) no_field
        where
          not_here : is_kept_here config memory address ≡ false
          not_here = and_left (not (is_forwarded (memory (Heap address)))) (is_kept config memory address) (not_from_true (is_forwarded (memory (Heap address))) moved)

          no_field : is_kept_field config memory (address + offset) ≡ false
          no_field = and_left _ (is_reference memory (object_of config memory (address + offset)) (address + offset)) (and_right (is_staying config memory (address + offset)) (is_kept_here config memory (object_of config memory (address + offset))) (ap (is_kept_here config memory) object_is ∙ not_here))

      -- so does one of a piece that is not kept
      pub dead_stays : (HasMark config (λ number. memory (Black number)) address → ⊥) → (IsYoung config (λ region. memory (Tams region)) address → ⊥) → all_updated config memory (Heap (address + offset)) ≡ memory (Heap (address + offset))
      dead_stays unmarked old = cond-false (is_kept_field config memory (address + offset)) (updated_word config memory (memory (Heap (address + offset)))) (memory (Heap (address + offset))) no_field
        where
          not_kept : is_kept config memory address ≡ false
          not_kept =
              let from = at.1 in
              or_from (is_black config memory address) (nat_le (memory (Tams (region_with config address))) (address - base_of config (region_with config address)))
              (and_right (nat_le config.region_words address) (bit_at (memory (Black (mark_word config address))) (mark_bit config address) == 1) (ne_eqb (bit_at (memory (Black (mark_word config address))) (mark_bit config address)) 1 unmarked))
              (⊎_elim
              (λ (below_tams : address - base_of config (region_with config address) < memory (Tams (region_with config address))). lt-leb (memory (Tams (region_with config address))) (address - base_of config (region_with config address)) below_tams)
              (λ (young : memory (Tams (region_with config address)) ≤ address - base_of config (region_with config address)). absurd (old (omega (arith, young, from))))
              (cases_lt (address - base_of config (region_with config address)) (memory (Tams (region_with config address)))))

          no_field : is_kept_field config memory (address + offset) ≡ false
          no_field = and_left _ (is_reference memory (object_of config memory (address + offset)) (address + offset)) (and_right (is_staying config memory (address + offset)) (is_kept_here config memory (object_of config memory (address + offset)))
              (ap (is_kept_here config memory) object_is ∙ and_right (not (is_forwarded (memory (Heap address)))) (is_kept config memory address) not_kept))

      -- a reference of a kept piece that has not moved is one for the walk, ..
      pub kept_field : is_forwarded (memory (Heap address)) ≡ false → is_kept config memory address ≡ true → is_reference memory address (address + offset) ≡ true → is_kept_field config memory (address + offset) ≡ true
      kept_field plain object_kept reference =
          and_from _ (is_reference memory (object_of config memory (address + offset)) (address + offset))
          (and_from (is_staying config memory (address + offset)) (is_kept_here config memory (object_of config memory (address + offset))) staying_is
          (ap (is_kept_here config memory) object_is ∙ and_from (not (is_forwarded (memory (Heap address)))) (is_kept config memory address) (not_from_false (is_forwarded (memory (Heap address))) plain) object_kept))
          (ap (λ object. is_reference memory object (address + offset)) object_is ∙ reference)

      -- .. and is updated
      pub field_updated : is_forwarded (memory (Heap address)) ≡ false → HasMark config (λ number. memory (Black number)) address ⊎ IsYoung config (λ region. memory (Tams region)) address → is_reference memory address (address + offset) ≡ true
          → all_updated config memory (Heap (address + offset)) ≡ updated_word config memory (memory (Heap (address + offset)))
      field_updated plain object_kept reference = cond-true (is_kept_field config memory (address + offset)) (updated_word config memory (memory (Heap (address + offset)))) (memory (Heap (address + offset))) (kept_field plain kept_is reference)
        where
          kept_is : is_kept config memory address ≡ true
          kept_is =
              let from = at.1 in
              let low = region_low in
              ⊎_elim
              (λ (mark : HasMark config (λ number. memory (Black number)) address).
              or_left (is_black config memory address) (nat_le (memory (Tams (region_with config address))) (address - base_of config (region_with config address)))
              (and_from (nat_le config.region_words address) (bit_at (memory (Black (mark_word config address))) (mark_bit config address) == 1) (le-leb config.region_words address (omega (arith, from, low)))
              (eq-eqb (bit_at (memory (Black (mark_word config address))) (mark_bit config address)) 1 mark)))
              (λ (young : IsYoung config (λ region. memory (Tams region)) address).
              or_right (is_black config memory address) (nat_le (memory (Tams (region_with config address))) (address - base_of config (region_with config address)))
              (le-leb (memory (Tams (region_with config address))) (address - base_of config (region_with config address)) (omega (arith, young, from))))
              object_kept

    -- a word of a region that goes stays
    pub gone_stays : stays config memory (region_with config address) ≡ false → all_updated config memory (Heap (address + offset)) ≡ memory (Heap (address + offset))
    gone_stays region_gone =
        cond-false (is_kept_field config memory (address + offset)) (updated_word config memory (memory (Heap (address + offset)))) (memory (Heap (address + offset)))
        (and_left _ _ (and_left _ _ (and_right (is_in_use config memory (address + offset)) (stays config memory (region_with config (address + offset))) (ap (stays config memory) same_region ∙ region_gone))))

    pub collected_stays : IsCollected config (memory Cset) address → is_pinned config memory (region_with config address) ≡ false → all_updated config memory (Heap (address + offset)) ≡ memory (Heap (address + offset))
    collected_stays inside unpinned = gone_stays (gone_inside config memory (region_with config address) inside unpinned)
