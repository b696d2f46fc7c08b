-- The test of a dead region says what it is to be dead.
use Rattle.std.proofs.Common.{◌≡◌, ℕ, ◌+◌, ◌-◌, ◌<◌, ◌≤◌, ◌==◌, ◌&&◌, ◌↔◌, not, nat_lt, nat_le, Bool, true, false, inl, inr, ⊎_elim, sym, ap, ◌∙◌, arith}
use Rattle.std.specs.List.{range_with_len, list_any}
use Rattle.std.specs.Int.{bit_at}
use Rattle.std.proofs.lemmas.Bool.{cases_lt, and_parts, and_from, or_cases, or_left, or_right, eqb-true, eqb-false, eq-eqb, ne_eqb, ltb-true, leb-true, lt-ltb, le-leb, not-true, not_from_false, false_from_ne_true, true≢false}
use Rattle.shen_graph.proofs.Lists.{any_at, any_is}
use Rattle.heap_words.specs.declared.config.Config.{Config}
use Rattle.heap_words.specs.Words.{Word, Free, Top, Tams, Current, Share}
use Rattle.heap_words.specs.Encoding.{end_in}
use Rattle.heap_words.specs.Ranges.{seat_count}
use Rattle.regions.specs.Place.{base_of, IsOf}
use Rattle.image_graph.specs.Pinned.{is_pinned}
use Rattle.image_graph.specs.State.{EndsIn, IsSomeSeats}
use Rattle.cycle_words.specs.Marking.Marks.{is_black}
use Rattle.cycle_words.specs.Marking.Close.{closed}
use Rattle.cycle_words.specs.Marking.Final.{ends_in, is_current, has_black, is_dead, IsDead, dead_in}
use Rattle.image_graph.specs.Buffers.{HasNoMoreSeats}

module _ (config : Config) (memory : Word → ℕ) (region : ℕ) where
  -- a buffer that ends in the region
  abbrev end_at : ℕ → ℕ
  end_at seat = end_in (memory (Current seat))

  abbrev within : ℕ → Bool
  within seat = nat_lt (base_of config region) (end_at seat) && nat_le (end_at seat) (base_of config region + config.region_words)

  ends_is : (seat : ℕ) → ends_in config memory region seat ≡ true → EndsIn config memory seat region
  ends_is seat end_tested =
      let end_parts = and_parts (not (memory (Current seat) == 0)) (within seat) end_tested in
      let bounds = and_parts (nat_lt (base_of config region) (end_at seat)) (nat_le (end_at seat) (base_of config region + config.region_words)) end_parts.1 in
      let end_past_base = ltb-true (base_of config region) (end_at seat) bounds.0 in
      let end_in_region = leb-true (end_at seat) (base_of config region + config.region_words) bounds.1 in
      (eqb-false (memory (Current seat)) 0 (not-true (memory (Current seat) == 0) end_parts.0), record { from = omega (arith, end_past_base); before = omega (arith, end_past_base, end_in_region) })

  ends_of : (seat : ℕ) → EndsIn config memory seat region → ends_in config memory region seat ≡ true
  ends_of seat seat_ends =
      let some_base : 1 ≤ base_of config region = (let least_words = config.in_range.least_words in let base_above : config.region_words ≤ base_of config region = grind arith in omega (arith, least_words, base_above)) in
      let end_past_base = seat_ends.1.from in
      let end_in_region = seat_ends.1.before in
      and_from (not (memory (Current seat) == 0)) (within seat) (not_from_false (memory (Current seat) == 0) (ne_eqb (memory (Current seat)) 0 seat_ends.0))
      (and_from (nat_lt (base_of config region) (end_at seat)) (nat_le (end_at seat) (base_of config region + config.region_words))
      (lt-ltb (base_of config region) (end_at seat) (omega (arith, end_past_base, some_base))) (le-leb (end_at seat) (base_of config region + config.region_words) (omega (arith, end_in_region))))

  pub current_is : is_current config memory region ≡ true → IsSomeSeats config memory region
  current_is current_region = ⊎_elim
      (λ (shared : (memory Share == region + 1) ≡ true). inl (eqb-true (memory Share) (region + 1) shared))
      (λ (seats : list_any (ends_in config memory region) (range_with_len 0 (seat_count config.mutators config.helpers)) ≡ true).
      let found_seat = any_is (ends_in config memory region) 0 (seat_count config.mutators config.helpers) seats in
      inr (0 + found_seat.0, omega (arith, found_seat.1), ends_is (0 + found_seat.0) found_seat.2))
      (or_cases (memory Share == region + 1) (list_any (ends_in config memory region) (range_with_len 0 (seat_count config.mutators config.helpers))) current_region)

  pub is_current_of : IsSomeSeats config memory region → is_current config memory region ≡ true
  is_current_of some_seats = ⊎_elim
      (λ (shared : memory Share ≡ region + 1). or_left (memory Share == region + 1) (list_any (ends_in config memory region) (range_with_len 0 (seat_count config.mutators config.helpers))) (eq-eqb (memory Share) (region + 1) shared))
      (λ (seat : (asked_seat : ℕ) × (asked_seat < seat_count config.mutators config.helpers) × EndsIn config memory asked_seat region).
      let same_seat : 0 + seat.0 ≡ seat.0 = omega arith in
      or_right (memory Share == region + 1) (list_any (ends_in config memory region) (range_with_len 0 (seat_count config.mutators config.helpers)))
      (any_at (ends_in config memory region) 0 (seat_count config.mutators config.helpers) seat.0 seat.1 (ap (ends_in config memory region) same_seat ∙ ends_of seat.0 seat.2)))
      some_seats

  pub black_in : has_black config memory region ≡ true → (address : ℕ) × IsOf config region address × (is_black config memory address ≡ true)
  black_in black_region =
      let found_address = any_is (is_black config memory) (base_of config region) config.region_words black_region in
      (base_of config region + found_address.0, record { from = omega arith; before = omega (arith, found_address.1) }, found_address.2)

  pub has_black_at : (address : ℕ) → IsOf config region address → is_black config memory address ≡ true → has_black config memory region ≡ true
  has_black_at address is_of black_address =
      let same_address : base_of config region + (address - base_of config region) ≡ address = omega (arith, is_of.from) in
      any_at (is_black config memory) (base_of config region) config.region_words (address - base_of config region) (omega (arith, is_of.from, is_of.before)) (ap (is_black config memory) same_address ∙ black_address)

  abbrev used : Bool
  used = bit_at (memory Free) region == 0

  abbrev loose : Bool
  loose = not (is_pinned config memory region)

  abbrev unseated : Bool
  unseated = not (is_current config memory region)

  abbrev filled : Bool
  filled = memory (Top region) == memory (Tams region)

  abbrev bare : Bool
  bare = not (has_black config memory region)

  is_so : is_dead config memory region ≡ true → IsDead config memory region
  is_so dead_region =
      let first_tests = and_parts (used && loose && unseated && filled) bare dead_region in
      let second_tests = and_parts (used && loose && unseated) filled first_tests.0 in
      let third_tests = and_parts (used && loose) unseated second_tests.0 in
      let fourth_tests = and_parts used loose third_tests.0 in
      record {
        in_use = eqb-true (bit_at (memory Free) region) 0 fourth_tests.0;
        unpinned = not-true (is_pinned config memory region) fourth_tests.1;
        nobodys = λ seat. true≢false (sym (is_current_of seat) ∙ not-true (is_current config memory region) third_tests.1);
        no_new = eqb-true (memory (Top region)) (memory (Tams region)) second_tests.1;
        unmarked = λ address in_region. false_from_ne_true (is_black config memory address) (λ address_black. true≢false (sym (has_black_at address in_region address_black) ∙ not-true (has_black config memory region) first_tests.1));
      }

  is_told : IsDead config memory region → is_dead config memory region ≡ true
  is_told dead_region =
      let no_seat : is_current config memory region ≡ false = false_from_ne_true (is_current config memory region) (λ seat. dead_region.nobodys (current_is seat)) in
      let no_mark : has_black config memory region ≡ false = false_from_ne_true (has_black config memory region)
      (λ region_black. let black_address = black_in region_black in true≢false (sym black_address.2 ∙ dead_region.unmarked black_address.0 black_address.1)) in
      and_from (used && loose && unseated && filled) bare
      (and_from (used && loose && unseated) filled
      (and_from (used && loose) unseated (and_from used loose (eq-eqb (bit_at (memory Free) region) 0 dead_region.in_use) (not_from_false (is_pinned config memory region) dead_region.unpinned))
      (not_from_false (is_current config memory region) no_seat))
      (eq-eqb (memory (Top region)) (memory (Tams region)) dead_region.no_new))
      (not_from_false (has_black config memory region) no_mark)

  pub dead_is_dead : (is_dead config memory region ≡ true) ↔ IsDead config memory region
  dead_is_dead = (is_so, is_told)

  -- where all else of a dead region holds, the marks decide
  pub marks_decide : bit_at (memory Free) region ≡ 0 → is_pinned config memory region ≡ false → is_current config memory region ≡ false → memory (Top region) ≡ memory (Tams region) → is_dead config memory region ≡ not (has_black config memory region)
  marks_decide not_free pin no_seat top_is_tams =
      ap (λ holds. holds && loose && unseated && filled && bare) (eq-eqb (bit_at (memory Free) region) 0 not_free)
      ∙ ap (λ holds. not holds && unseated && filled && bare) pin
      ∙ ap (λ holds. not holds && filled && bare) no_seat
      ∙ ap (λ holds. holds && bare) (eq-eqb (memory (Top region)) (memory (Tams region)) top_is_tams)

-- no region that is shared, or in which a buffer ends, is dead once the marks are closed
module _ (config : Config) (memory : Word → ℕ) where
  alive : (region : ℕ) → IsSomeSeats config memory region → dead_in config memory region ≡ false
  alive region some_seats = false_from_ne_true (dead_in config memory region) (λ told_dead. ((dead_is_dead config (closed config memory) region).0 told_dead).nobodys some_seats)

  pub shared_alive : (region : ℕ) → memory Share ≡ region + 1 → dead_in config memory region ≡ false
  shared_alive region shared_region = alive region (inl shared_region)

  module _ (seats : HasNoMoreSeats config memory) where
    pub seated : (seat region : ℕ) → EndsIn config memory seat region → IsSomeSeats config memory region
    seated seat region seat_ends = ⊎_elim
        (λ (seat_below : seat < seat_count config.mutators config.helpers). inr (seat, seat_below, seat_ends))
        (λ (seat_past : seat_count config.mutators config.helpers ≤ seat). absurd (seat_ends.0 (seats seat seat_past)))
        (cases_lt seat (seat_count config.mutators config.helpers))

    pub current_alive : (seat region : ℕ) → EndsIn config memory seat region → dead_in config memory region ≡ false
    current_alive seat region seat_ends = alive region (seated seat region seat_ends)
