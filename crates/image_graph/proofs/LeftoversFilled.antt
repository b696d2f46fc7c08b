-- What is left over of a region becomes words that only fill, address by address: each object there stays as long as before.
use Rattle.std.proofs.Common.{◌≡◌, ◌≢◌, ℕ, ◌+◌, ◌-◌, ◌*◌, ◌/◌, ◌%◌, ◌<◌, ◌≤◌, ◌==◌, ◌&&◌, ◌||◌, nat_le, nat_lt, cond, if◌then◌else◌, Bool, true, false, not, List, refl, sym, ap, ◌∙◌, subst, ⊎_elim, arith}
use Rattle.std.proofs.lemmas.Bool.{cases_Bool, cases_eq, cond-true, cond-false, true≢false, and_left, and_right, and_parts, and_from, eq-eqb, ne_eqb, eqb-true, leb-true, ltb-true, le-leb, lt-ltb, false_from_ne_true, not-true}
use Rattle.std.proofs.lemmas.Bool.Decides.{nat_tests}
use Rattle.std.proofs.Math.Nat.{mul-le-mul, lt-div-mul-add}
use Rattle.std.proofs.Math.Path.{fun_ext}
use Rattle.heap_words.specs.declared.config.Config.{Config}
use Rattle.heap_words.specs.Words.{Word, Top, Heap, IsWord, write}
use Rattle.heap_words.specs.Encoding.{filler_header, object_words, is_forwarded}
use Rattle.regions.specs.Place.{base_of, region_with}
use Rattle.regions.specs.Walk.{is_filler, stride, stride_at, start_of}
use Rattle.regions.proofs.PlaceLemmas.{regions_tile}
use Rattle.heap_world.specs.Walk.{has}
use Rattle.image_graph.specs.Pinned.{object_of, is_in_use, begins, filled_in, is_filled_from, CanFill}
use Rattle.image_graph.specs.declared.leftovers.Leftover.{Leftover}
use Rattle.image_graph.specs.declared.leftovers.Leftover.TheVariants.{Moved, NotFound}
use Rattle.image_graph.specs.Leftovers.{is_left_over}
use Rattle.image_graph.proofs.Starts as walk
use Rattle.image_graph.proofs.Starts.{words, from, starts_within, next_ends, next_goes_on}
use Rattle.image_graph.proofs.Room.{room_in_heap}

-- The words after the objects of a set of addresses that are left over became words that only fill.
abbrev pub filled_at : Config → (address_set leftovers : ℕ → Bool) → (Word → ℕ) → Word → ℕ
filled_at config address_set leftovers memory (Heap address) = if address_set address && begins config memory address && leftovers address then filler_header (object_words (memory (Heap (address + 1)))) else memory (Heap address)
filled_at config address_set leftovers memory word = memory word

-- sets of addresses: those of a region below an offset
abbrev pub is_below : Config → (region offset : ℕ) → ℕ → Bool
is_below config region offset address = nat_le (base_of config region) address && nat_lt address (base_of config region + offset)

-- words that only fill are as long as their header says
pub filler_stride : (n shape : ℕ) → stride (filler_header n) shape ≡ n
filler_stride n shape =
    let rest : (4 * n + 2) % 4 ≡ 2 = omega arith in
    let same_words : (4 * n + 2) / 4 ≡ n = omega arith in
    cond-true (is_filler (filler_header n)) (filler_header n / 4) (object_words shape) (eq-eqb ((4 * n + 2) % 4) 2 rest) ∙ same_words

pub filler_is : (n : ℕ) → is_filler (filler_header n) ≡ true
filler_is n = (let rest : (4 * n + 2) % 4 ≡ 2 = omega arith in eq-eqb ((4 * n + 2) % 4) 2 rest)

-- what is left over is an object
pub left_is_object : (memory : Word → ℕ) (found : List ℕ) (leftover : Leftover) (address : ℕ) → is_left_over memory found leftover address ≡ true → is_filler (memory (Heap address)) ≡ false
left_is_object memory found Moved address left_over =
    let tag_three : memory (Heap address) % 4 ≡ 3 = eqb-true (memory (Heap address) % 4) 3 left_over in
    ne_eqb (memory (Heap address) % 4) 2 (λ tag_two. omega (arith, tag_two, tag_three))
left_is_object memory found NotFound address left_over = not-true (is_filler (memory (Heap address))) (and_parts (not (is_filler (memory (Heap address)))) (not (has found address)) left_over).0

-- that goes by the header
pub left_same : (memory other_memory : Word → ℕ) (found : List ℕ) (leftover : Leftover) (address : ℕ) → other_memory (Heap address) ≡ memory (Heap address) → is_left_over other_memory found leftover address ≡ is_left_over memory found leftover address
left_same memory other_memory found Moved address same_header = ap is_forwarded same_header
left_same memory other_memory found NotFound address same_header = ap (λ header. not (is_filler header) && not (has found address)) same_header

-- an object is as long as its shape word says
pub object_stride : (heap : ℕ → ℕ) (address : ℕ) → is_filler (heap address) ≡ false → stride_at heap address ≡ object_words (heap (address + 1))
object_stride heap address object = cond-false (is_filler (heap address)) (heap address / 4) (object_words (heap (address + 1))) object

-- words that only fill are as long where their header is the same
pub filler_same : (heap other_heap : ℕ → ℕ) (address other_address : ℕ) → is_filler (heap address) ≡ true → other_heap other_address ≡ heap address → stride_at other_heap other_address ≡ stride_at heap address
filler_same heap other_heap address other_address fills same_header =
    cond-true (is_filler (other_heap other_address)) (other_heap other_address / 4) (object_words (other_heap (other_address + 1))) (ap is_filler same_header ∙ fills)
    ∙ ap (λ header. header / 4) same_header
    ∙ sym (cond-true (is_filler (heap address)) (heap address / 4) (object_words (heap (address + 1))) fills)

-- an address of a region, from its base on
pub region_of_base : (config : Config) (region offset : ℕ) → offset < config.region_words → region_with config (base_of config region + offset) ≡ region
region_of_base config region offset offset_below = regions_tile.of_no_other config region (base_of config region + offset) (record { from = omega arith; before = omega (arith, offset_below) })

-- an address is of the heap if its region is
pub in_heap_by_region : (config : Config) (address : ℕ) → config.region_words ≤ address → region_with config address < config.regions → IsWord config (Heap address)
in_heap_by_region config address address_high region_below =
    let some_words : 0 < config.region_words = omega (arith, config.in_range.least_words) in
    let region_end : (address / config.region_words + 1) * config.region_words ≤ (config.regions + 1) * config.region_words = mul-le-mul (omega (arith, region_below)) (omega arith) in
    (address_high, omega (arith, region_end, lt-div-mul-add {a = address} {b = config.region_words} some_words))

-- Where objects begin in the part of a region that is in use.
module _ (config : Config) (memory : Word → ℕ) (used_region : ℕ) (region_below : used_region < config.regions) (within : memory (Top used_region) ≤ config.region_words) where
  abbrev base : ℕ
  base = base_of config used_region

  abbrev heap : ℕ → ℕ
  heap address = memory (Heap address)

  abbrev start : ℕ → ℕ
  start = start_of heap base

  pub object_at : (offset : ℕ) → offset < memory (Top used_region) → object_of config memory (base + offset) ≡ base + start offset
  object_at offset offset_used =
      let same_offset : base + offset - base ≡ offset = omega arith in
      ap (λ some_region. base_of config some_region + start_of heap (base_of config some_region) (base + offset - base_of config some_region)) (region_of_base config used_region offset (omega (arith, offset_used, within)))
      ∙ ap (λ some_offset. base + start some_offset) same_offset

  used_at : (offset : ℕ) → offset < memory (Top used_region) → is_in_use config memory (base + offset) ≡ true
  used_at offset offset_used =
      let right_region = region_of_base config used_region offset (omega (arith, offset_used, within)) in
      let same_offset : base + offset - base ≡ offset = omega arith in
      and_from (nat_le config.region_words (base + offset)) (nat_lt (region_with config (base + offset)) config.regions && nat_lt (base + offset - base_of config (region_with config (base + offset))) (memory (Top (region_with config (base + offset)))))
      (le-leb config.region_words (base + offset) (omega arith))
      (and_from (nat_lt (region_with config (base + offset)) config.regions) (nat_lt (base + offset - base_of config (region_with config (base + offset))) (memory (Top (region_with config (base + offset)))))
      (lt-ltb (region_with config (base + offset)) config.regions (omega (arith, right_region, region_below)))
      (lt-ltb (base + offset - base_of config (region_with config (base + offset))) (memory (Top (region_with config (base + offset))))
      (subst (λ region. base + offset - base_of config region < memory (Top region)) (sym right_region) (omega (arith, same_offset, offset_used)))))

  pub begins_yes : (offset : ℕ) → offset < memory (Top used_region) → start offset ≡ offset → begins config memory (base + offset) ≡ true
  begins_yes offset offset_used starts_here =
      and_from (is_in_use config memory (base + offset)) (object_of config memory (base + offset) == base + offset) (used_at offset offset_used)
      (eq-eqb (object_of config memory (base + offset)) (base + offset) (object_at offset offset_used ∙ ap (λ some_offset. base + some_offset) starts_here))

  pub begins_no : (offset : ℕ) → offset < memory (Top used_region) → start offset ≢ offset → begins config memory (base + offset) ≡ false
  begins_no offset offset_used starts_before =
      and_right (is_in_use config memory (base + offset)) (object_of config memory (base + offset) == base + offset)
      (ne_eqb (object_of config memory (base + offset)) (base + offset) (λ same_start. starts_before (omega (arith, same_start, object_at offset offset_used))))

  told : (address : ℕ) → base ≤ address → address < base + memory (Top used_region) → is_below config used_region (memory (Top used_region)) address ≡ true
  told address low high = and_from (nat_le base address) (nat_lt address (base + memory (Top used_region))) (le-leb base address low) (lt-ltb address (base + memory (Top used_region)) high)

  untold : (address : ℕ) → (base ≤ address → address < base + memory (Top used_region) → ⊥) → is_below config used_region (memory (Top used_region)) address ≡ false
  untold address not_inside = false_from_ne_true (is_below config used_region (memory (Top used_region)) address) (λ test_true.
      let test_parts = and_parts (nat_le base address) (nat_lt address (base + memory (Top used_region))) test_true in
      not_inside (leb-true base address test_parts.0) (ltb-true address (base + memory (Top used_region)) test_parts.1))

  -- what begins in the region lies below its top
  pub begun_below : (address : ℕ) → begins config memory address ≡ true → is_below config used_region (memory (Top used_region)) address ≡ (region_with config address == used_region)
  begun_below address begun =
      let region = region_with config address in
      let used = and_parts (nat_le config.region_words address) (nat_lt region config.regions && nat_lt (address - base_of config region) (memory (Top region))) (and_parts (is_in_use config memory address) (object_of config memory address == address) begun).0 in
      let in_top = and_parts (nat_lt region config.regions) (nat_lt (address - base_of config region) (memory (Top region))) used.1 in
      let region_again = regions_tile.of_one config address (in_heap_by_region config address (leb-true config.region_words address used.0) (ltb-true region config.regions in_top.0)) in
      let low : address - base_of config region < memory (Top region) = ltb-true (address - base_of config region) (memory (Top region)) in_top.1 in
      ⊎_elim
      (λ (same_region : region ≡ used_region).
      let its_base : base_of config region ≡ base = ap (base_of config) same_region in
      let its_top : memory (Top region) ≡ memory (Top used_region) = ap (λ region. memory (Top region)) same_region in
      told address (omega (arith, region_again.from, its_base)) (omega (arith, low, its_base, its_top, region_again.from)) ∙ sym (eq-eqb region used_region same_region))
      (λ (other_region : region ≢ used_region).
      untold address (λ from_base inside. other_region (regions_tile.of_no_other config used_region address (record { from = from_base; before = omega (arith, inside, within) }))) ∙ sym (ne_eqb region used_region other_region))
      (cases_eq region used_region)

-- Tests of a set, of one address more, and of what begins there and is left over.
none_at : (is_here low holds other_holds : Bool) (value other_value : ℕ) → (is_here ≡ true → (holds && other_holds) ≡ false) → cond (low && holds && other_holds) value other_value ≡ cond ((low || is_here) && holds && other_holds) value other_value
none_at is_here true holds other_holds value other_value none_here = refl
none_at true false holds other_holds value other_value none_here = sym (cond-false (holds && other_holds) value other_value (none_here refl))
none_at false false holds other_holds value other_value none_here = refl

one_at : (is_here low holds other_holds : Bool) (new_value value other_value : ℕ) → (is_here ≡ true → (holds && other_holds) ≡ true) → (is_here ≡ true → new_value ≡ value) → cond is_here new_value (cond (low && holds && other_holds) value other_value) ≡ cond ((low || is_here) && holds && other_holds) value other_value
one_at false true holds other_holds new_value value other_value both_here same_value = refl
one_at false false holds other_holds new_value value other_value both_here same_value = refl
one_at true true holds other_holds new_value value other_value both_here same_value = same_value refl ∙ sym (cond-true (holds && other_holds) value other_value (both_here refl))
one_at true false holds other_holds new_value value other_value both_here same_value = same_value refl ∙ sym (cond-true (holds && other_holds) value other_value (both_here refl))

by_begun : (first_test second_test begun left : Bool) (value other_value : ℕ) → (begun ≡ true → first_test ≡ second_test) → cond (first_test && begun && left) value other_value ≡ cond (second_test && begun && left) value other_value
by_begun first_test second_test true left value other_value same_test = ap (λ outcome. cond (outcome && true && left) value other_value) (same_test refl)
by_begun first_test second_test false left value other_value same_test =
    cond-false (first_test && false && left) value other_value (and_left (first_test && false) left (and_right first_test false refl))
    ∙ sym (cond-false (second_test && false && left) value other_value (and_left (second_test && false) left (and_right second_test false refl)))

one_address_more : (base offset address : ℕ) → (nat_le base address && nat_lt address (base + (offset + 1))) ≡ (nat_le base address && nat_lt address (base + offset) || (base + offset == address))
one_address_more base offset address = grind (arith, nat_tests)

none_below : (base address : ℕ) → (nat_le base address && nat_lt address (base + 0)) ≡ false
none_below base address = grind (arith, nat_tests)

not_below : (base offset address : ℕ) → base + offset ≤ address → (nat_le base address && nat_lt address (base + offset)) ≡ false
not_below base offset address past_offset = grind (arith, nat_tests)

-- Some of a region was filled.
module _ (config : Config) (memory : Word → ℕ) (region : ℕ) (region_below : region < config.regions) (can_fill : CanFill config memory region) (leftovers : ℕ → Bool) (objects : (leftover_address : ℕ) → leftovers leftover_address ≡ true → is_filler (memory (Heap leftover_address)) ≡ false) where
  -- nothing yet
  pub filled_none : memory ≡ filled_at config (is_below config region 0) leftovers memory
  filled_none = fun_ext at
    where
      at : (word : Word) → memory word ≡ filled_at config (is_below config region 0) leftovers memory word
      at (Heap address) = sym (ap (λ first_test. cond (first_test && begins config memory address && leftovers address) (filler_header (object_words (memory (Heap (address + 1))))) (memory (Heap address))) (none_below (base_of config region) address))
      at _ = refl

  -- one address more, of which nothing is left over, or something
  module _ (offset : ℕ) where
    abbrev x : ℕ
    x = base_of config region + offset

    abbrev memory_then : Word → ℕ
    memory_then = filled_at config (is_below config region offset) leftovers memory

    abbrev next : Word → ℕ
    next = filled_at config (is_below config region (offset + 1)) leftovers memory

    more_at : (other_address : ℕ) → is_below config region (offset + 1) other_address ≡ (is_below config region offset other_address || (x == other_address))
    more_at other_address = one_address_more (base_of config region) offset other_address

    pub filled_past : (begins config memory x && leftovers x) ≡ false → memory_then ≡ next
    filled_past none_left = fun_ext at
      where
        at : (word : Word) → memory_then word ≡ next word
        at (Heap other_address) =
            none_at (x == other_address) (is_below config region offset other_address) (begins config memory other_address) (leftovers other_address) (filler_header (object_words (memory (Heap (other_address + 1))))) (memory (Heap other_address))
            (λ same_address. ap (λ place. begins config memory place && leftovers place) (sym (eqb-true x other_address same_address)) ∙ none_left)
            ∙ sym (ap (λ first_test. cond (first_test && begins config memory other_address && leftovers other_address) (filler_header (object_words (memory (Heap (other_address + 1))))) (memory (Heap other_address))) (more_at other_address))
        at _ = refl

    pub filled_one : (begins config memory x && leftovers x) ≡ true → write memory_then (Heap x) (filler_header (object_words (memory (Heap (x + 1))))) ≡ next
    filled_one left_begins = fun_ext at
      where
        at : (word : Word) → write memory_then (Heap x) (filler_header (object_words (memory (Heap (x + 1))))) word ≡ next word
        at (Heap other_address) =
            one_at (x == other_address) (is_below config region offset other_address) (begins config memory other_address) (leftovers other_address) (filler_header (object_words (memory (Heap (x + 1))))) (filler_header (object_words (memory (Heap (other_address + 1))))) (memory (Heap other_address))
            (λ same_address. ap (λ place. begins config memory place && leftovers place) (sym (eqb-true x other_address same_address)) ∙ left_begins)
            (λ same_address. ap (λ place. filler_header (object_words (memory (Heap (place + 1))))) (eqb-true x other_address same_address))
            ∙ sym (ap (λ first_test. cond (first_test && begins config memory other_address && leftovers other_address) (filler_header (object_words (memory (Heap (other_address + 1))))) (memory (Heap other_address))) (more_at other_address))
        at _ = refl

    -- what is not below is as it was
    pub still : (address : ℕ) → base_of config region + offset ≤ address → memory_then (Heap address) ≡ memory (Heap address)
    still address past_offset =
        ap (λ first_test. cond (first_test && begins config memory address && leftovers address) (filler_header (object_words (memory (Heap (address + 1))))) (memory (Heap address))) (not_below (base_of config region) offset address past_offset)

  -- all of the region
  pub filled_all : filled_at config (is_below config region (memory (Top region))) leftovers memory ≡ filled_in config (λ any_region. any_region == region) leftovers memory
  filled_all = fun_ext at
    where
      at : (word : Word) → filled_at config (is_below config region (memory (Top region))) leftovers memory word ≡ filled_in config (λ some_region. some_region == region) leftovers memory word
      at (Heap address) =
          by_begun (is_below config region (memory (Top region)) address) (region_with config address == region) (begins config memory address) (leftovers address) (filler_header (object_words (memory (Heap (address + 1))))) (memory (Heap address))
          (begun_below config memory region region_below can_fill.within address)
      at _ = refl

  -- What stands in the region is as long as before, whichever was filled.
  module _ (address_set : ℕ → Bool) where
    abbrev now : Word → ℕ
    now = filled_at config address_set leftovers memory

    abbrev first : ℕ
    first = base_of config region

    abbrev starts : ℕ → ℕ
    starts = start_of (λ address. memory (Heap address)) first

    abbrev filled : ℕ → Bool
    filled address = address_set address && begins config memory address && leftovers address

    stays : (address : ℕ) → filled address ≡ false → now (Heap address) ≡ memory (Heap address)
    stays address not_filled = cond-false (filled address) (filler_header (object_words (memory (Heap (address + 1))))) (memory (Heap address)) not_filled

    fills : (address : ℕ) → filled address ≡ true → now (Heap address) ≡ filler_header (object_words (memory (Heap (address + 1))))
    fills address was_filled = cond-true (filled address) (filler_header (object_words (memory (Heap (address + 1))))) (memory (Heap address)) was_filled

    was_object : (address : ℕ) → filled address ≡ true → is_filler (memory (Heap address)) ≡ false
    was_object address was_filled = objects address (and_parts (address_set address && begins config memory address) (leftovers address) was_filled).1

    -- an object reaches to its shape word at least, within the region
    pub shape_within : (start : ℕ) → starts start ≡ start → start < memory (Top region) → is_filler (memory (Heap (first + start))) ≡ false → start + 1 < memory (Top region)
    shape_within start starts_here start_used object =
        let object_ends = can_fill.ends start start_used starts_here in
        let size = object_stride (λ address. memory (Heap address)) (first + start) object in
        omega (arith, object_ends, size)

    same_shape : (start : ℕ) → starts start ≡ start → start < memory (Top region) → is_filler (memory (Heap (first + start))) ≡ false → now (Heap (first + start + 1)) ≡ memory (Heap (first + start + 1))
    same_shape start starts_here start_used object =
        let size = object_stride (λ address. memory (Heap address)) (first + start) object in
        let next_one : starts (start + 1) ≡ start = starts_within (λ address. memory (Heap address)) first start 1 starts_here (omega (arith, size)) in
        let same_address : first + (start + 1) ≡ first + start + 1 = omega arith in
        let none_begins : begins config memory (first + start + 1) ≡ false =
        ap (begins config memory) (sym same_address) ∙ begins_no config memory region region_below can_fill.within (start + 1) (shape_within start starts_here start_used object) (λ same_start. omega (arith, same_start, next_one)) in
        stays (first + start + 1) (and_left (address_set (first + start + 1) && begins config memory (first + start + 1)) (leftovers (first + start + 1)) (and_right (address_set (first + start + 1)) (begins config memory (first + start + 1)) none_begins))

    pub same_stride : (start : ℕ) → starts start ≡ start → start < memory (Top region) → stride_at (λ address. now (Heap address)) (first + start) ≡ stride_at (λ address. memory (Heap address)) (first + start)
    same_stride start starts_here start_used = ⊎_elim
        (λ (was_filled : filled (first + start) ≡ true).
        ap (λ header. stride header (now (Heap (first + start + 1)))) (fills (first + start) was_filled)
        ∙ filler_stride (object_words (memory (Heap (first + start + 1)))) (now (Heap (first + start + 1)))
        ∙ sym (object_stride (λ address. memory (Heap address)) (first + start) (was_object (first + start) was_filled)))
        (λ (unfilled : filled (first + start) ≡ false). ⊎_elim
        (λ (fill : is_filler (memory (Heap (first + start))) ≡ true). filler_same (λ address. memory (Heap address)) (λ address. now (Heap address)) (first + start) (first + start) fill (stays (first + start) unfilled))
        (λ (object : is_filler (memory (Heap (first + start))) ≡ false).
        ap (λ header. stride header (now (Heap (first + start + 1)))) (stays (first + start) unfilled)
        ∙ ap (stride (memory (Heap (first + start)))) (same_shape start starts_here start_used object))
        (cases_Bool (is_filler (memory (Heap (first + start))))))
        (cases_Bool (filled (first + start)))

    -- so its first words can be read
    pub can_read : (top : ℕ) → starts top ≡ top → top < memory (Top region) → IsWord config (Heap (first + top)) × (is_filler (now (Heap (first + top))) ≡ false → IsWord config (Heap (first + top + 1)))
    can_read top starts_here top_used =
        let header = room_in_heap config region top 1 region_below (omega (arith, top_used, can_fill.within)) in (
          (omega (arith, header.from), omega (arith, header.to)),
          λ object_now. ⊎_elim
              (λ (was_filled : filled (first + top) ≡ true).
              absurd (true≢false (sym (ap is_filler (fills (first + top) was_filled) ∙ filler_is (object_words (memory (Heap (first + top + 1))))) ∙ object_now)))
              (λ (unfilled : filled (first + top) ≡ false).
              let object : is_filler (memory (Heap (first + top))) ≡ false = ap is_filler (sym (stays (first + top) unfilled)) ∙ object_now in
              let both_words = room_in_heap config region top 2 region_below (omega (arith, shape_within top starts_here top_used object, can_fill.within)) in
              (omega (arith, both_words.from), omega (arith, both_words.to)))
              (cases_Bool (filled (first + top))),
        )

  -- The object whose words are looked up at an offset, while what is below it was filled.
  module _ (offset : ℕ) (offset_used : offset < memory (Top region)) where
    abbrev so_far : Word → ℕ
    so_far = filled_at config (is_below config region offset) leftovers memory

    abbrev last : ℕ
    last = start_of (λ address. memory (Heap address)) (base_of config region) (offset - 1)

    last_begins : start_of (λ address. memory (Heap address)) (base_of config region) last ≡ last
    last_begins = walk.begins (λ address. memory (Heap address)) (base_of config region) (offset - 1)

    last_below : last < memory (Top region)
    last_below = omega (arith, from (λ address. memory (Heap address)) (base_of config region) (offset - 1), offset_used)

    pub last_read : IsWord config (Heap (base_of config region + last)) × (is_filler (so_far (Heap (base_of config region + last))) ≡ false → IsWord config (Heap (base_of config region + last + 1)))
    last_read = can_read (is_below config region offset) last last_begins last_below

    -- it ends there, or it goes on
    module _ (object : ℕ) (object_place : object ≡ base_of config region + last) where
      size_is : object + stride_at (λ address. so_far (Heap address)) object ≡ base_of config region + last + words (λ address. memory (Heap address)) (base_of config region) last
      size_is = ap (λ some_address. some_address + stride_at (λ address. so_far (Heap address)) some_address) object_place ∙ ap (λ distance. base_of config region + last + distance) (same_stride (is_below config region offset) last last_begins last_below)

      pub ends_here : (object + stride_at (λ address. so_far (Heap address)) object == base_of config region + offset) ≡ true → base_of config region + offset ≡ base_of config region + start_of (λ address. memory (Heap address)) (base_of config region) offset
      ends_here ends_there =
          let ends : object + stride_at (λ address. so_far (Heap address)) object ≡ base_of config region + offset = eqb-true (object + stride_at (λ address. so_far (Heap address)) object) (base_of config region + offset) ends_there in
          let begun : start_of (λ address. memory (Heap address)) (base_of config region) offset ≡ offset = next_ends (λ address. memory (Heap address)) (base_of config region) offset (omega (arith, ends, size_is)) in
          ap (λ some_offset. base_of config region + some_offset) (sym begun)

      pub goes_on : (object + stride_at (λ address. so_far (Heap address)) object == base_of config region + offset) ≡ false → object ≡ base_of config region + start_of (λ address. memory (Heap address)) (base_of config region) offset
      goes_on ends_elsewhere =
          let begun : start_of (λ address. memory (Heap address)) (base_of config region) offset ≡ last = next_goes_on (λ address. memory (Heap address)) (base_of config region) offset
          (λ ends. true≢false (sym (eq-eqb (object + stride_at (λ address. so_far (Heap address)) object) (base_of config region + offset) (omega (arith, ends, size_is))) ∙ ends_elsewhere)) in
          object_place ∙ ap (λ some_offset. base_of config region + some_offset) (sym begun)

    -- the turn of the address itself
    module _ (object : ℕ) (object_place : object ≡ base_of config region + start_of (λ heap_address. memory (Heap heap_address)) (base_of config region) offset) where
      abbrev place : ℕ
      place = base_of config region + offset

      -- it begins there if it has that address
      begun_there : object ≡ place → start_of (λ address. memory (Heap address)) (base_of config region) offset ≡ offset
      begun_there same_place = omega (arith, object_place, same_place)

      pub place_read : object ≡ place → is_filler (so_far (Heap place)) ≡ false → IsWord config (Heap (place + 1))
      place_read same_place object_now = (can_read (is_below config region offset) offset (begun_there same_place) offset_used).1 object_now

      module _ (lost : ℕ → Bool) (same_left : lost place ≡ leftovers place) where
        turned : (outcome : Bool) → (object == place) ≡ outcome → is_filled_from config (λ any_address. (object == any_address) && lost any_address) place so_far ≡ filled_at config (is_below config region (offset + 1)) leftovers memory
        turned false other_place =
            let place_not_lost : ((object == place) && lost place) ≡ false = and_left (object == place) (lost place) other_place in
            fun_ext (λ some_word. cond-false ((object == place) && lost place) (write so_far (Heap place) (filler_header (object_words (so_far (Heap (place + 1))))) some_word) (so_far some_word) place_not_lost)
            ∙ filled_past offset (and_left (begins config memory place) (leftovers place) (begins_no config memory region region_below can_fill.within offset offset_used
            (λ begun. true≢false (sym (eq-eqb object place (object_place ∙ ap (λ some_offset. base_of config region + some_offset) begun)) ∙ other_place))))
        turned true same_place = by_left (leftovers place) refl
          where
            begun : begins config memory place ≡ true
            begun = begins_yes config memory region region_below can_fill.within offset offset_used (begun_there (eqb-true object place same_place))

            shape : so_far (Heap (place + 1)) ≡ memory (Heap (place + 1))
            shape = still offset (place + 1) (omega arith)

            by_left : (holds : Bool) → leftovers place ≡ holds → is_filled_from config (λ some_address. (object == some_address) && lost some_address) place so_far ≡ filled_at config (is_below config region (offset + 1)) leftovers memory
            by_left false not_left =
                let none_lost : ((object == place) && lost place) ≡ false = and_right (object == place) (lost place) (same_left ∙ not_left) in
                fun_ext (λ any_word. cond-false ((object == place) && lost place) (write so_far (Heap place) (filler_header (object_words (so_far (Heap (place + 1))))) any_word) (so_far any_word) none_lost)
                ∙ filled_past offset (and_right (begins config memory place) (leftovers place) not_left)
            by_left true was_left =
                let place_lost : ((object == place) && lost place) ≡ true = and_from (object == place) (lost place) same_place (same_left ∙ was_left) in
                fun_ext (λ any_word. cond-true ((object == place) && lost place) (write so_far (Heap place) (filler_header (object_words (so_far (Heap (place + 1))))) any_word) (so_far any_word) place_lost)
                ∙ ap (λ shape_word. write so_far (Heap place) (filler_header (object_words shape_word))) shape
                ∙ filled_one offset (and_from (begins config memory place) (leftovers place) begun was_left)

        pub turn : is_filled_from config (λ some_address. (object == some_address) && lost some_address) place so_far ≡ filled_at config (is_below config region (offset + 1)) leftovers memory
        turn = turned (object == place) refl
