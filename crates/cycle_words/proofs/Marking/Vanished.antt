-- Regions are freed: their pieces vanish, and the pieces of the other regions stay, and fill them as before.
use Rattle.std.proofs.Common.{◌≡◌, ℕ, ◌+◌, ◌<◌, ◌≤◌, ◌⊎◌, max, Bool, true, false, Option, Some, None, inl, inr, ⊎_elim, sym, ap, ◌∙◌, arith}
use Rattle.std.specs.Int.{bit_at}
use Rattle.std.proofs.lemmas.Bool.{cond-true, cond-false, cases_Bool}
use Rattle.std.proofs.lemmas.Nat.{or_lt}
use Rattle.std.proofs.lemmas.Nat.Bits.{bit_at_or, bit_at-lt}
use Rattle.std.proofs.lemmas.Option.{none-some}
use Rattle.heap_words.specs.declared.config.Config.{Config}
use Rattle.heap_words.specs.Words.{Word, Free, Top, Tams, Limit, Heap}
use Rattle.regions.specs.Place.{base_of, region_with}
use Rattle.regions.specs.Sets.{IsIn}
use Rattle.regions.proofs.PlaceLemmas.{regions_tile}
use Rattle.heap_world.specs.World.{Block, spent, promised, dead, filler, words_of, Plot, IsInUse, IsPlotted, IsFilled, IsParsable, IsFreeWord, AreUnwritten}
use Rattle.image_graph.specs.Holds.{AreSized}
use Rattle.cycle_words.specs.Marking.Marks.{bits_of}
use Rattle.cycle_words.specs.Marking.Final.{freed, freed_block}
use Rattle.cycle_words.proofs.Marking.Bits.{one, bits_small, bits_at}
use Rattle.cycle_words.proofs.Marking.Plain.{below_top}

-- The set of free regions.
module _ (config : Config) (is_freed : ℕ → Bool) (memory : Word → ℕ) where
  free_bit : (region : ℕ) → region < config.regions → bit_at (freed config is_freed memory Free) region ≡ max (bit_at (memory Free) region) (one (is_freed region))
  free_bit region region_below =
      let same_region : 0 + region ≡ region = omega arith in
      bit_at_or (memory Free) (bits_of is_freed 0 config.regions) region ∙ ap (max (bit_at (memory Free) region)) (bits_at is_freed 0 config.regions region region_below ∙ ap (λ freed_region. one (is_freed freed_region)) same_region)

  -- those that were free, and those that were freed
  pub free_was : (region : ℕ) → region < config.regions → IsIn (freed config is_freed memory Free) region → IsIn (memory Free) region ⊎ (is_freed region ≡ true)
  free_was given_region region_below free_now = ⊎_elim
      (λ (region_freed : is_freed given_region ≡ true). inr region_freed)
      (λ (not_freed : is_freed given_region ≡ false). inl (let bit = free_bit given_region region_below in let no_bit : one (is_freed given_region) ≡ 0 = ap one not_freed in omega (arith, bit, no_bit, free_now)))
      (cases_Bool (is_freed given_region))

  pub free_is : (region : ℕ) → region < config.regions → IsIn (memory Free) region ⊎ (is_freed region ≡ true) → IsIn (freed config is_freed memory Free) region
  free_is region region_below free_or_freed = ⊎_elim
      (λ (was_free : IsIn (memory Free) region). (let bit = free_bit region region_below in let one_bit = one_few (is_freed region) in omega (arith, bit, was_free, one_bit)))
      (λ (region_freed : is_freed region ≡ true). (let bit = free_bit region region_below in let one_bit = bit_at-lt (memory Free) region in let bit_set : one (is_freed region) ≡ 1 = ap one region_freed in omega (arith, bit, bit_set, one_bit)))
      free_or_freed
    where
      one_few : (holds : Bool) → one holds ≤ 1
      one_few true = omega arith
      one_few false = omega arith

module _ (config : Config) (is_freed : ℕ → Bool) (memory : Word → ℕ) where
  abbrev now : Word → ℕ
  now = freed config is_freed memory

  -- tops afterwards
  pub top_out : (region : ℕ) → is_freed region ≡ true → now (Top region) ≡ 0
  top_out region region_freed = cond-true (is_freed region) 0 (memory (Top region)) region_freed

  pub top_stays : (region : ℕ) → is_freed region ≡ false → now (Top region) ≡ memory (Top region)
  top_stays region not_freed = cond-false (is_freed region) 0 (memory (Top region)) not_freed

  top_less : (region : ℕ) → now (Top region) ≤ memory (Top region)
  top_less region = ⊎_elim
      (λ (region_freed : is_freed region ≡ true). omega (arith, top_out region region_freed))
      (λ (not_freed : is_freed region ≡ false). omega (arith, top_stays region not_freed))
      (cases_Bool (is_freed region))

  -- so it is with tops at mark start, and limits
  pub tams_out : (region : ℕ) → is_freed region ≡ true → now (Tams region) ≡ 0
  tams_out region region_freed = cond-true (is_freed region) 0 (memory (Tams region)) region_freed

  pub tams_stays : (region : ℕ) → is_freed region ≡ false → now (Tams region) ≡ memory (Tams region)
  tams_stays region not_freed = cond-false (is_freed region) 0 (memory (Tams region)) not_freed

  pub limit_out : (region : ℕ) → is_freed region ≡ true → now (Limit region) ≡ 0
  limit_out region region_freed = cond-true (is_freed region) 0 (memory (Limit region)) region_freed

  pub limit_stays : (region : ℕ) → is_freed region ≡ false → now (Limit region) ≡ memory (Limit region)
  limit_stays region not_freed = cond-false (is_freed region) 0 (memory (Limit region)) not_freed

module _ (config : Config) (is_freed : ℕ → Bool) (block : Plot) where
  abbrev plot : Plot
  plot = freed_block config is_freed block

  -- a piece that is left, and one of a region that is not freed
  pub piece_was : (address : ℕ) (piece : Block) → plot address ≡ Some piece → (is_freed (region_with config address) ≡ false) × (block address ≡ Some piece)
  piece_was address piece piece_there = ⊎_elim
      (λ (region_freed : is_freed (region_with config address) ≡ true). let no_piece : Option Block = None in absurd (none-some piece (sym (cond-true (is_freed (region_with config address)) no_piece (block address) region_freed) ∙ piece_there)))
      (λ (not_freed : is_freed (region_with config address) ≡ false). let no_piece : Option Block = None in (not_freed, sym (cond-false (is_freed (region_with config address)) no_piece (block address) not_freed) ∙ piece_there))
      (cases_Bool (is_freed (region_with config address)))

  pub piece_stays : (address : ℕ) → is_freed (region_with config address) ≡ false → plot address ≡ block address
  piece_stays address not_freed = let no_piece : Option Block = None in cond-false (is_freed (region_with config address)) no_piece (block address) not_freed

-- each that is left says how many words it has
pub freed_sized : (config : Config) (is_freed : ℕ → Bool) (memory : Word → ℕ) (block : Plot) → AreSized memory block → AreSized memory (freed_block config is_freed block)
freed_sized config is_freed memory block sized = record {
  objects = λ place piece piece_there fixed. sized.objects place piece (piece_was config is_freed block place piece piece_there).1 fixed;
  headers = λ address piece piece_there fixed. sized.headers address piece (piece_was config is_freed block address piece piece_there).1 fixed;
  fillers = λ place words piece_there. sized.fillers place words (piece_was config is_freed block place (filler words) piece_there).1;
}

-- pieces lie apart, and each has some words
module _ (config : Config) (is_freed : ℕ → Bool) (memory : Word → ℕ) (block : Plot) (plotted : IsPlotted config (λ asked_region. memory (Top asked_region)) block) (some_words : (start : ℕ) (b : Block) → block start ≡ Some b → 1 ≤ words_of b) where
  abbrev left : Plot
  left = freed_block config is_freed block

  -- pieces lie in the parts in use
  in_use_again : (address : ℕ) (piece : Block) → left address ≡ Some piece → IsInUse config (λ region. freed config is_freed memory (Top region)) address (words_of piece)
  in_use_again address piece piece_there =
      let piece_before = piece_was config is_freed block address piece piece_there in
      let top_above = below_top config (λ region. memory (Top region)) block plotted address piece piece_before.1 (some_words address piece piece_before.1) in
      record { region = region_with config address; within = top_above.0; from_base = top_above.1; to_top = (let same_top = top_stays config is_freed memory (region_with config address) piece_before.0 in omega (arith, top_above.2, same_top)) }

  pub plotted_again : IsPlotted config (λ region. freed config is_freed memory (Top region)) left
  plotted_again = record {
    tops = λ given_region inside. (let top_bound = plotted.tops given_region inside in omega (arith, top_bound, top_less config is_freed memory given_region));
    in_use = in_use_again;
    apart = λ first_address second_address first_piece second_piece first_there second_there before. plotted.apart first_address second_address first_piece second_piece (piece_was config is_freed block first_address first_piece first_there).1 (piece_was config is_freed block second_address second_piece second_there).1 before;
  }

  -- an address below the top of a region is of it
  of_region : (region address : ℕ) → region < config.regions → base_of config region ≤ address → address < base_of config region + freed config is_freed memory (Top region) → (is_freed region ≡ false) × (left address ≡ block address) × (address < base_of config region + memory (Top region))
  of_region region address region_below at_most address_below = ⊎_elim
      (λ (region_freed : is_freed region ≡ true). absurd (omega (arith, top_out config is_freed memory region region_freed, at_most, address_below)))
      (λ (not_freed : is_freed region ≡ false).
      let less_top = top_less config is_freed memory region in
      let top_bound = plotted.tops region region_below in
      let same_region : region_with config address ≡ region = regions_tile.of_no_other config region address (record { from = at_most; before = omega (arith, address_below, less_top, top_bound) }) in
      (not_freed, piece_stays config is_freed block address (ap is_freed same_region ∙ not_freed), omega (arith, address_below, less_top)))
      (cases_Bool (is_freed region))

  there : (address : ℕ) → left address ≡ block address → (piece : Block) × (block address ≡ Some piece) → (piece : Block) × (left address ≡ Some piece)
  there address same_piece old_piece = (old_piece.0, same_piece ∙ old_piece.1)

  pub filled_again : IsFilled config (λ region. memory (Top region)) block → IsFilled config (λ region. freed config is_freed memory (Top region)) left
  filled_again filled = record {
    first = λ given_region inside used.
        let old_place = of_region given_region (base_of config given_region) inside (omega arith) (omega (arith, used)) in
        there (base_of config given_region) old_place.1 (filled.first given_region inside (omega (arith, old_place.2)));
    next = λ given_region address piece inside from piece_there end_below.
        let old_place = of_region given_region (address + words_of piece) inside (omega (arith, from)) end_below in
        there (address + words_of piece) old_place.1 (filled.next given_region address piece inside from (piece_was config is_freed block address piece piece_there).1 old_place.2);
  }

  pub parsable_again : IsParsable config (λ region. memory (Top region)) block → IsParsable config (λ region. freed config is_freed memory (Top region)) left
  parsable_again parsable = record {
    plotted = plotted_again;
    filled = filled_again parsable.filled;
    promises = λ address seat words piece_there. parsable.promises address seat words (piece_was config is_freed block address (promised seat words) piece_there).1;
    deads = λ address words piece_there. parsable.deads address words (piece_was config is_freed block address (dead words) piece_there).1;
    spents = λ address words copy_address piece_there. parsable.spents address words copy_address (piece_was config is_freed block address (spent words copy_address) piece_there).1;
    fillers = λ address words piece_there. parsable.fillers address words (piece_was config is_freed block address (filler words) piece_there).1;
  }

  -- what nobody writes to stays so
  pub unwritten_again : AreUnwritten (λ address. memory (Heap address)) block → AreUnwritten (λ address. memory (Heap address)) left
  unwritten_again unwritten = record {
    blanks = λ address seat words piece_there. unwritten.blanks address seat words (piece_was config is_freed block address (promised seat words) piece_there).1;
    headers = λ address words piece_there. unwritten.headers address words (piece_was config is_freed block address (dead words) piece_there).1;
    lengths = λ place words piece_there. unwritten.lengths place words (piece_was config is_freed block place (dead words) piece_there).1;
    fillers = λ place words piece_there. unwritten.fillers place words (piece_was config is_freed block place (filler words) piece_there).1;
  }

  -- A region is free where it was or where it is freed. It is nobody's then, if what is freed and what was nobody's is.
  pub free_again : (owner after : ℕ → Option ℕ) → IsFreeWord config (memory Free) (λ region. memory (Top region)) owner → ((region : ℕ) → is_freed region ≡ true → after region ≡ None) → ((region : ℕ) → owner region ≡ None → after region ≡ None)
      → IsFreeWord config (freed config is_freed memory Free) (λ region. freed config is_freed memory (Top region)) after
  free_again owner after free_before freed_nobodys nobodys = record {
    no_more = or_lt config.regions (memory Free) (bits_of is_freed 0 config.regions) free_before.no_more (bits_small is_freed 0 config.regions);
    empty = λ region region_below free_now. ⊎_elim
        (λ (was_free : IsIn (memory Free) region). (let no_top = free_before.empty region region_below was_free in let less_top = top_less config is_freed memory region in omega (arith, no_top, less_top)))
        (λ (freed_one : is_freed region ≡ true). top_out config is_freed memory region freed_one)
        (free_was config is_freed memory region region_below free_now);
    nobodys = λ region region_below free_now. ⊎_elim
        (λ (was_free : IsIn (memory Free) region). nobodys region (free_before.nobodys region region_below was_free))
        (λ (freed_one : is_freed region ≡ true). freed_nobodys region freed_one)
        (free_was config is_freed memory region region_below free_now);
  }
