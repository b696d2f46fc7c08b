-- Where a memory reads 0 at all that is no word of the table, so does what a full collection makes of it.
use Rattle.std.proofs.Common.{◌≡◌, ◌≢◌, ℕ, ◌+◌, ◌-◌, ◌*◌, ◌/◌, ◌%◌, ◌<◌, ◌≤◌, ◌⊎◌, ◌==◌, ◌&&◌, inl, inr, Bool, true, false, zero, suc, cond, nat_le, nat_lt, Option, Some, None, ⊎_elim, refl, sym, ap, ◌∙◌, arith}
use Rattle.std.proofs.lemmas.Bool.{cond-true, cond-false, cases_lt, cases_eq, eq-eqb, ne_eqb, and_left, and_right, lt-leb, le-ltb, true≢false}
use Rattle.std.proofs.lemmas.Bool.Decides.{nat_tests}
use Rattle.std.proofs.lemmas.Nat.{div-add-mod', mod_below}
use Rattle.std.proofs.Math.Nat.{mul-le-mul_right}
use Rattle.heap_words.specs.declared.config.Config.{Config}
use Rattle.heap_words.specs.Words.{Word, State, Top, Tams, Limit, Current, Root, Pin, Count, Buffer, Wait, Answer, Grey, Black, Heap, is_word}
use Rattle.heap_words.specs.Encoding.{filler_header, object_words, name_code, request_count_in, request_shape_in}
use Rattle.regions.specs.Place.{base_of, region_with}
use Rattle.regions.specs.Places.{open_kept, LieApart}
use Rattle.regions.specs.Tops.{words_in}
use Rattle.regions.proofs.Placed.{is_open, moves_down, stays_above}
use Rattle.regions.proofs.Sums.{sum_of_none}
use Rattle.regions.proofs.Tops.{added, place_in_range}
use Rattle.regions.proofs.ServedRooms.{has_room}
use Rattle.regions.specs.Slide.{renewed, is_covered, slid_word, slid}
use Rattle.regions.proofs.Slid.{slid_next, slid_none, covered_here}
use Rattle.image_graph.specs.Plot.{heap_end, packed_top}
use Rattle.image_graph.specs.Pinned.{is_row_pinned, object_of, is_in_use, begins}
use Rattle.image_graph.specs.Full.{packed_in, now_in, kept_in, place_in, is_unkept, moved_heap, packed, made_in, served_in, room_for, served, refused, full_from}
use Rattle.image_graph.proofs.Made.{outside_fresh}
use Rattle.image_graph.proofs.TurnWords.{served_first, turn_idle, turn_waits}

-- all that is no word of the table reads 0
abbrev pub IsZeroOutside : Config → (Word → ℕ) → Type 0
IsZeroOutside config memory = (word : Word) → is_word config word ≡ false → memory word ≡ 0

-- an address that is no word lies below the heap or behind it
pub outside_heap : (config : Config) (address : ℕ) → is_word config (Heap address) ≡ false → (address < config.region_words) ⊎ (heap_end config ≤ address)
outside_heap config address no_heap_word = ⊎_elim
    (λ (low : address < config.region_words). inl low)
    (λ not_low. ⊎_elim
    (λ (inside : address < heap_end config).
    let test : is_word config (Heap address) ≡ true = grind (arith, nat_tests) in
    absurd (true≢false (sym test ∙ no_heap_word)))
    (λ behind_heap. inr behind_heap)
    (cases_lt address (heap_end config)))
    (cases_lt address config.region_words)

-- no object begins there
pub none_begins : (config : Config) (memory : Word → ℕ) (address : ℕ) → (address < config.region_words) ⊎ (heap_end config ≤ address) → begins config memory address ≡ false
none_begins config memory address outside_heap =
    let below_top : Bool = nat_lt (address - base_of config (region_with config address)) (memory (Top (region_with config address))) in
    let in_region : Bool = nat_lt (region_with config address) config.regions && below_top in
    and_left (is_in_use config memory address) (object_of config memory address == address) (⊎_elim
    (λ (low : address < config.region_words). and_left (nat_le config.region_words address) in_region (lt-leb config.region_words address low))
    (λ (past : heap_end config ≤ address). and_right (nat_le config.region_words address) in_region (and_left (nat_lt (region_with config address) config.regions) below_top (le-ltb (region_with config address) config.regions (far past))))
    outside_heap)
  where
    far : heap_end config ≤ address → config.regions ≤ region_with config address
    far behind_heap = ⊎_elim
        (λ (few : region_with config address < config.regions).
        let some_words = config.in_range.least_words in
        let split : address / config.region_words * config.region_words + address % config.region_words ≡ address = div-add-mod' address config.region_words in
        let rest : address % config.region_words < config.region_words = mod_below address config.region_words (omega (arith, some_words)) in
        let rows : address / config.region_words * config.region_words ≤ config.regions * config.region_words = mul-le-mul_right config.region_words (omega (arith, few)) in
        absurd (omega (arith, split, rest, rows, behind_heap)))
        (λ (past_all : config.regions ≤ region_with config address). past_all)
        (cases_lt (region_with config address) config.regions)

-- one of two that are 0
either_zero : (holds : Bool) (x y : ℕ) → x ≡ 0 → y ≡ 0 → cond holds x y ≡ 0
either_zero true x y first_zero second_zero = first_zero
either_zero false x y first_zero second_zero = second_zero

module _ (config : Config) (memory : Word → ℕ) (shut : ℕ → Bool) (words_kept renew : ℕ → ℕ) (lie_apart : LieApart config.region_words words_kept) (inside : (kept_address : ℕ) → 0 < words_kept kept_address → kept_address + words_kept kept_address ≤ heap_end config) where
  abbrev place : ℕ → ℕ
  place = place_in config shut words_kept

  -- nothing is slid there
  slid_outside : (before : ℕ → ℕ) (end asked_address : ℕ) → (asked_address < config.region_words) ⊎ (heap_end config ≤ asked_address) → slid place words_kept renew before end asked_address ≡ before asked_address
  slid_outside before zero asked_address outside_heap = slid_none place words_kept renew before asked_address
  slid_outside before (suc address) asked_address outside_heap =
      let rest = slid_outside before address asked_address outside_heap in
      let next_slide = slid_next place words_kept renew before address asked_address in
      ⊎_elim
      (λ (covered : (is_covered place words_kept address asked_address ≡ true) × (place address ≤ asked_address) × (asked_address < place address + words_kept address)).
      let some_kept : 0 < words_kept address = omega (arith, covered.1, covered.2) in
      let down = moves_down config.region_words shut words_kept lie_apart address some_kept in
      absurd (⊎_elim
      (λ (low : asked_address < config.region_words). omega (arith, low, covered.1, stays_above config.region_words shut words_kept lie_apart address some_kept))
      (λ (behind_heap : heap_end config ≤ asked_address). omega (arith, behind_heap, covered.2, down, inside address some_kept))
      outside_heap))
      (λ (not_covered : (is_covered place words_kept address asked_address ≡ false) × ((asked_address < place address) ⊎ (place address + words_kept address ≤ asked_address))).
      next_slide ∙ cond-false (is_covered place words_kept address asked_address) (slid_word renew before address (asked_address - place address)) (slid place words_kept renew before address asked_address) not_covered.0 ∙ rest)
      (covered_here place words_kept address asked_address)

  -- no region that is none has a top
  top_outside : (region : ℕ) → config.regions ≤ region → packed_top config shut words_kept region ≡ 0
  top_outside region no_region = sum_of_none (words_in config.region_words shut words_kept region) (heap_end config) (λ object object_below. ⊎_elim
      (λ (no_words : words_in config.region_words shut words_kept region object ≡ 0). no_words)
      (λ (words_there : (0 < open_kept config.region_words shut words_kept object) × (place object / config.region_words ≡ region + 1)).
      absurd (let few = place_in_range config.region_words shut words_kept lie_apart config.regions object (is_open config.region_words shut words_kept object words_there.0).0 object_below in let some_open = words_there.1 in omega (arith, few, some_open, no_region)))
      (added config.region_words shut words_kept lie_apart region object))

  -- nor is the heap there
  heap_outside : (address : ℕ) → (address < config.region_words) ⊎ (heap_end config ≤ address) → renew ≡ renewed place (now_in memory) → memory (Heap address) ≡ 0 → packed config shut (now_in memory) words_kept memory (Heap address) ≡ 0
  unfolding packed moved_heap
  heap_outside address outside_heap same_renewal zero_outside =
      cond-false (shut (region_with config address + 1) && (begins config memory address && is_unkept words_kept memory address)) (filler_header (object_words (memory (Heap (address + 1))))) (slid place words_kept (renewed place (now_in memory)) (λ address. memory (Heap address)) (heap_end config) address)
      (and_right (shut (region_with config address + 1)) _ (and_left (begins config memory address) (is_unkept words_kept memory address) (none_begins config memory address outside_heap)))
      ∙ ap (λ renew. slid place words_kept renew (λ address. memory (Heap address)) (heap_end config) address) (sym same_renewal) ∙ slid_outside (λ address. memory (Heap address)) (heap_end config) address outside_heap ∙ zero_outside

packed_outside : (config : Config) (memory : Word → ℕ) → LieApart config.region_words (kept_in config memory) → ((address : ℕ) → 0 < kept_in config memory address → address + kept_in config memory address ≤ heap_end config) → IsZeroOutside config memory → IsZeroOutside config (packed_in config memory)
unfolding packed
packed_outside config memory lie_apart inside zero_outside (Heap address) no_word =
    heap_outside config memory (is_row_pinned config memory) (kept_in config memory) (renewed (place_in config (is_row_pinned config memory) (kept_in config memory)) (now_in memory)) lie_apart inside address (outside_heap config address no_word) refl (zero_outside (Heap address) no_word)
packed_outside config memory lie_apart inside zero_outside (Root mutator index) no_word = ap (renewed (place_in config (is_row_pinned config memory) (kept_in config memory)) (now_in memory)) (zero_outside (Root mutator index) no_word)
packed_outside config memory lie_apart inside zero_outside (Pin mutator slot) no_word = zero_outside (Pin mutator slot) no_word
packed_outside config memory lie_apart inside zero_outside (Answer mutator) no_word = ap (λ word. cond (nat_le word 1) word (place_in config (is_row_pinned config memory) (kept_in config memory) (now_in memory word))) (zero_outside (Answer mutator) no_word)
packed_outside config memory lie_apart inside zero_outside (Top region) no_word =
    either_zero (is_row_pinned config memory (region + 1)) (memory (Top region)) (packed_top config (is_row_pinned config memory) (kept_in config memory) region) (zero_outside (Top region) no_word)
    (top_outside config memory (is_row_pinned config memory) (kept_in config memory) (renewed (place_in config (is_row_pinned config memory) (kept_in config memory)) (now_in memory)) lie_apart inside region (not_below region no_word))
  where
    not_below : (seat : ℕ) → nat_lt seat config.regions ≡ false → config.regions ≤ seat
    not_below seat test = grind (arith, nat_tests)
packed_outside config memory lie_apart inside zero_outside (State seat) no_word = zero_outside (State seat) no_word
packed_outside config memory lie_apart inside zero_outside (Buffer mutator entry) no_word = zero_outside (Buffer mutator entry) no_word
packed_outside config memory lie_apart inside zero_outside (Wait mutator) no_word = zero_outside (Wait mutator) no_word
packed_outside config memory lie_apart inside zero_outside (Tams region) no_word = refl
packed_outside config memory lie_apart inside zero_outside (Limit region) no_word = refl
packed_outside config memory lie_apart inside zero_outside (Current seat) no_word = refl
packed_outside config memory lie_apart inside zero_outside (Count mutator) no_word = refl
packed_outside config memory lie_apart inside zero_outside (Grey number) no_word = refl
packed_outside config memory lie_apart inside zero_outside (Black number) no_word = refl
packed_outside config memory lie_apart inside zero_outside _ no_word = absurd (true≢false no_word)

-- an object that is made in a region writes no other word
made_outside : (config : Config) (memory : Word → ℕ) (mutator region : ℕ) → mutator < config.mutators → region < config.regions → memory (Top region) + object_words (request_shape_in (memory (Wait mutator))) ≤ config.region_words
    → IsZeroOutside config memory → IsZeroOutside config (made_in config memory mutator region)
unfolding made_in
made_outside config memory mutator region inside within room zero_outside (Heap address) no_word =
    let low : 1 * config.region_words ≤ (region + 1) * config.region_words = mul-le-mul_right config.region_words (omega arith) in
    let high : (region + 1 + 1) * config.region_words ≤ (config.regions + 1) * config.region_words = mul-le-mul_right config.region_words (omega (arith, within)) in
    outside_fresh (base_of config region + memory (Top region)) (request_shape_in (memory (Wait mutator))) (name_code (mutator + 1) (request_count_in (memory (Wait mutator)))) (memory (Heap address)) address
    (⊎_elim
    (λ (below_heap : address < config.region_words). inl (omega (arith, below_heap, low)))
    (λ (behind_heap : heap_end config ≤ address). inr (omega (arith, behind_heap, room, high)))
    (outside_heap config address no_word))
    ∙ zero_outside (Heap address) no_word
made_outside config memory mutator region inside within room zero_outside (Top asked_region) no_word =
    cond-false (region == asked_region) (memory (Top region) + object_words (request_shape_in (memory (Wait mutator)))) (memory (Top asked_region)) (ne_eqb region asked_region (differ asked_region no_word)) ∙ zero_outside (Top asked_region) no_word
  where
    differ : (seat : ℕ) → nat_lt seat config.regions ≡ false → region ≢ seat
    differ seat test same_number = grind (arith, nat_tests)
made_outside config memory mutator region inside within room zero_outside (Answer asked_mutator) no_word =
    cond-false (mutator == asked_mutator) (base_of config region + memory (Top region)) (memory (Answer asked_mutator)) (ne_eqb mutator asked_mutator (differ asked_mutator no_word)) ∙ zero_outside (Answer asked_mutator) no_word
  where
    differ : (seat : ℕ) → nat_lt seat config.mutators ≡ false → mutator ≢ seat
    differ seat test same_number = grind (arith, nat_tests)
made_outside config memory mutator region inside within room zero_outside (Wait asked_mutator) no_word =
    cond-false (mutator == asked_mutator) 0 (memory (Wait asked_mutator)) (ne_eqb mutator asked_mutator (differ asked_mutator no_word)) ∙ zero_outside (Wait asked_mutator) no_word
  where
    differ : (seat : ℕ) → nat_lt seat config.mutators ≡ false → mutator ≢ seat
    differ seat test same_number = grind (arith, nat_tests)
made_outside config memory mutator region inside within room zero_outside (State seat) no_word = zero_outside (State seat) no_word
made_outside config memory mutator region inside within room zero_outside (Buffer asked_mutator entry) no_word = zero_outside (Buffer asked_mutator entry) no_word
made_outside config memory mutator region inside within room zero_outside (Root asked_mutator index) no_word = zero_outside (Root asked_mutator index) no_word
made_outside config memory mutator region inside within room zero_outside (Pin asked_mutator slot) no_word = zero_outside (Pin asked_mutator slot) no_word
made_outside config memory mutator region inside within room zero_outside (Tams asked_region) no_word = zero_outside (Tams asked_region) no_word
made_outside config memory mutator region inside within room zero_outside (Limit asked_region) no_word = zero_outside (Limit asked_region) no_word
made_outside config memory mutator region inside within room zero_outside (Current seat) no_word = zero_outside (Current seat) no_word
made_outside config memory mutator region inside within room zero_outside (Count asked_mutator) no_word = zero_outside (Count asked_mutator) no_word
made_outside config memory mutator region inside within room zero_outside (Grey number) no_word = zero_outside (Grey number) no_word
made_outside config memory mutator region inside within room zero_outside (Black number) no_word = zero_outside (Black number) no_word
made_outside config memory mutator region inside within room zero_outside _ no_word = absurd (true≢false no_word)

pub served_outside : (config : Config) (memory : Word → ℕ) (mutator : ℕ) → mutator ≤ config.mutators → IsZeroOutside config memory → IsZeroOutside config (served config memory mutator)
served_outside config memory zero at_most zero_outside word no_word = served_first config memory word ∙ zero_outside word no_word
served_outside config memory (suc mutator) at_most zero_outside word no_word =
    let before : IsZeroOutside config (served config memory mutator) = served_outside config memory mutator (omega (arith, at_most)) zero_outside in
    ⊎_elim
    (λ (zero_wait : served config memory mutator (Wait mutator) ≡ 0). turn_idle config memory mutator word zero_wait ∙ before word no_word)
    (λ (some_wait : served config memory mutator (Wait mutator) ≢ 0). turn_waits config memory mutator word some_wait ∙ by_room (served config memory mutator) before (room_for config (served config memory mutator) mutator) refl)
    (cases_eq (served config memory mutator (Wait mutator)) 0)
  where
    by_room : (memory_now : Word → ℕ) → IsZeroOutside config memory_now → (found : Option ℕ) → room_for config memory_now mutator ≡ found → served_in config memory_now mutator found word ≡ 0
    by_room memory_now before None room_found = before word no_word
    by_room memory_now before (Some found_region) room_found =
        let lowest = has_room config.region_words (λ region. memory_now (Top region)) (object_words (request_shape_in (memory_now (Wait mutator)))) config.regions found_region room_found in
        made_outside config memory_now mutator found_region (omega (arith, at_most)) lowest.below lowest.room before word no_word

refused_outside : (config : Config) (memory : Word → ℕ) → IsZeroOutside config memory → IsZeroOutside config (refused memory)
unfolding refused
refused_outside config memory zero_outside (Answer mutator) no_word = cond-true (memory (Wait mutator) == 0) (memory (Answer mutator)) 1 (eq-eqb (memory (Wait mutator)) 0 (zero_outside (Wait mutator) no_word)) ∙ zero_outside (Answer mutator) no_word
refused_outside config memory zero_outside (Wait mutator) no_word = refl
refused_outside config memory zero_outside word no_word = zero_outside word no_word

pub full_outside : (config : Config) (memory : Word → ℕ) → LieApart config.region_words (kept_in config memory) → ((object : ℕ) → 0 < kept_in config memory object → object + kept_in config memory object ≤ heap_end config) → IsZeroOutside config memory → IsZeroOutside config (full_from config memory)
full_outside config memory lie_apart inside zero_outside =
    refused_outside config (served config (packed_in config memory) config.mutators) (served_outside config (packed_in config memory) config.mutators (omega arith) (packed_outside config memory lie_apart inside zero_outside))
