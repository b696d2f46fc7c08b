-- Pieces that fill the parts in use of regions begin where the walk comes, in regions of which each piece says how many words it has.
use Rattle.std.proofs.Common.{◌≡◌, ◌≢◌, ℕ, ◌+◌, ◌-◌, ◌<◌, ◌≤◌, ◌==◌, ◌&&◌, nat_le, nat_lt, true, false, zero, suc, Some, ⊎_elim, sym, ap, ◌∙◌, subst, arith}
use Rattle.std.proofs.lemmas.Bool.{cases_eq, cases_lt, eq-eqb, ne_eqb, and_from, and_right, le-leb, lt-ltb}
use Rattle.heap_words.specs.declared.config.Config.{Config}
use Rattle.heap_words.specs.Words.{Word, Top, Heap}
use Rattle.regions.specs.Place.{base_of, region_with}
use Rattle.regions.specs.Walk.{stride_at, start_of}
use Rattle.regions.proofs.PlaceLemmas.{regions_tile}
use Rattle.heap_world.specs.World.{Block, words_of, Plot, IsPlotted, IsFilled}
use Rattle.image_graph.specs.Pinned.{object_of, is_in_use, begins}
use Rattle.image_graph.proofs.PieceStarts.{start_first, start_ends, start_goes_on}
use Rattle.cycle_words.proofs.Marking.Plain.{below_top}

-- `Walked` tells these regions.
module _ (config : Config) (memory : Word → ℕ) (block : Plot) (plotted : IsPlotted config (λ any_region. memory (Top any_region)) block) (filled : IsFilled config (λ any_region. memory (Top any_region)) block)
    (some_words : (address : ℕ) (piece : Block) → block address ≡ Some piece → 1 ≤ words_of piece) (Walked : ℕ → Type 0)
    (sizes : (address : ℕ) (piece : Block) → block address ≡ Some piece → Walked (region_with config address) → stride_at (λ y. memory (Heap y)) address ≡ words_of piece) where
  abbrev heap : ℕ → ℕ
  heap address = memory (Heap address)

  abbrev start : ℕ → ℕ → ℕ
  start region offset = start_of heap (base_of config region) offset

  -- an address of a region's part in use is of the region
  of_region : (region address : ℕ) → region < config.regions → base_of config region ≤ address → address < base_of config region + memory (Top region) → region_with config address ≡ region
  of_region region address region_below at_most address_below =
      let top_within = plotted.tops region region_below in
      regions_tile.of_no_other config region address (record { from = at_most; before = omega (arith, address_below, top_within) })

  -- the object that has a word is a piece that has it
  pub covered : (region offset : ℕ) → region < config.regions → Walked region → offset < memory (Top region)
      → (piece : Block) × (block (base_of config region + start region offset) ≡ Some piece) × (start region offset ≤ offset) × (offset < start region offset + words_of piece)
  covered region zero region_below walked offset_below =
      let piece = filled.first region region_below offset_below in
      let starts_at_base : start region 0 ≡ 0 = start_first heap (base_of config region) in
      let address_is : base_of config region + start region 0 ≡ base_of config region = omega (arith, starts_at_base) in
      let words_here = some_words (base_of config region) piece.0 piece.1 in
      (piece.0, ap block address_is ∙ piece.1, omega (arith, starts_at_base), omega (arith, starts_at_base, words_here))
  covered region (suc offset) region_below walked offset_below =
      let earlier_cover = covered region offset region_below walked (omega (arith, offset_below)) in
      let region_is : region_with config (base_of config region + start region offset) ≡ region = of_region region (base_of config region + start region offset) region_below (omega arith) (omega (arith, earlier_cover.2, offset_below)) in
      let words_here : stride_at heap (base_of config region + start region offset) ≡ words_of earlier_cover.0 = sizes (base_of config region + start region offset) earlier_cover.0 earlier_cover.1 (subst Walked (sym region_is) walked) in
      ⊎_elim
      (λ (ends : start region offset + words_of earlier_cover.0 ≡ suc offset).
      let next_below : base_of config region + start region offset + words_of earlier_cover.0 < base_of config region + memory (Top region) = omega (arith, ends, offset_below) in
      let next_piece = filled.next region (base_of config region + start region offset) earlier_cover.0 region_below (omega arith) earlier_cover.1 next_below in
      let start_now : start region (suc offset) ≡ suc offset = start_ends heap (base_of config region) offset (omega (arith, ends, words_here)) in
      let address_is : base_of config region + start region (suc offset) ≡ base_of config region + start region offset + words_of earlier_cover.0 = omega (arith, start_now, ends) in
      let next_words = some_words (base_of config region + start region offset + words_of earlier_cover.0) next_piece.0 next_piece.1 in
      (next_piece.0, ap block address_is ∙ next_piece.1, omega (arith, start_now), omega (arith, start_now, next_words)))
      (λ (goes_on : start region offset + words_of earlier_cover.0 ≢ suc offset).
      let start_now : start region (suc offset) ≡ start region offset = start_goes_on heap (base_of config region) offset (λ ends. goes_on (omega (arith, ends, words_here))) in
      let address_is : base_of config region + start region (suc offset) ≡ base_of config region + start region offset = omega (arith, start_now) in
      (earlier_cover.0, ap block address_is ∙ earlier_cover.1, omega (arith, start_now, earlier_cover.2), omega (arith, start_now, earlier_cover.3, goes_on)))
      (cases_eq (start region offset + words_of earlier_cover.0) (suc offset))

  -- A word of a piece.
  module _ (address index : ℕ) (piece : Block) (piece_there : block address ≡ Some piece) (index_below : index < words_of piece) where
    pub at : (region_with config address < config.regions) × (base_of config (region_with config address) ≤ address) × (address + words_of piece ≤ base_of config (region_with config address) + memory (Top (region_with config address)))
    at = below_top config (λ region. memory (Top region)) block plotted address piece piece_there (let has_words = some_words address piece piece_there in omega (arith, has_words))

    pub region_low : config.region_words ≤ base_of config (region_with config address)
    region_low = grind arith

    -- it is of the piece's region
    pub same_region : region_with config (address + index) ≡ region_with config address
    same_region = let piece_end = at.2 in of_region (region_with config address) (address + index) at.0 (let from = at.1 in omega (arith, from)) (omega (arith, piece_end, index_below))

    -- and of the part in use
    pub in_use : is_in_use config memory (address + index) ≡ true
    in_use =
        let from = at.1 in
        let piece_end = at.2 in
        let low_region = region_low in
        subst (λ region. (nat_le config.region_words (address + index) && (nat_lt region config.regions && nat_lt (address + index - base_of config region) (memory (Top region)))) ≡ true) (sym same_region)
        (and_from (nat_le config.region_words (address + index)) _ (le-leb config.region_words (address + index) (omega (arith, low_region, from)))
        (and_from (nat_lt (region_with config address) config.regions) _ (lt-ltb (region_with config address) config.regions at.0)
        (lt-ltb (address + index - base_of config (region_with config address)) (memory (Top (region_with config address))) (omega (arith, from, piece_end, index_below)))))

    module _ (walked : Walked (region_with config address)) where
      -- the object that has it is the piece
      in_own_region : base_of config (region_with config address) + start (region_with config address) (address + index - base_of config (region_with config address)) ≡ address
      in_own_region =
          let from = at.1 in
          let piece_end = at.2 in
          let found_cover = covered (region_with config address) (address + index - base_of config (region_with config address)) at.0 walked (omega (arith, from, piece_end, index_below)) in
          ⊎_elim
          (λ (starts_before : address < base_of config (region_with config address) + start (region_with config address) (address + index - base_of config (region_with config address))).
          let pieces_apart = plotted.apart address (base_of config (region_with config address) + start (region_with config address) (address + index - base_of config (region_with config address))) piece found_cover.0 piece_there found_cover.1 starts_before in
          absurd (omega (arith, pieces_apart, found_cover.2, index_below, from)))
          (λ (not_before : base_of config (region_with config address) + start (region_with config address) (address + index - base_of config (region_with config address)) ≤ address). ⊎_elim
          (λ (same_start : base_of config (region_with config address) + start (region_with config address) (address + index - base_of config (region_with config address)) ≡ address). same_start)
          (λ (differs : base_of config (region_with config address) + start (region_with config address) (address + index - base_of config (region_with config address)) ≢ address).
          let pieces_apart = plotted.apart (base_of config (region_with config address) + start (region_with config address) (address + index - base_of config (region_with config address))) address found_cover.0 piece found_cover.1 piece_there (omega (arith, not_before, differs)) in
          absurd (omega (arith, pieces_apart, found_cover.3, from)))
          (cases_eq (base_of config (region_with config address) + start (region_with config address) (address + index - base_of config (region_with config address))) address))
          (cases_lt address (base_of config (region_with config address) + start (region_with config address) (address + index - base_of config (region_with config address))))

      pub object_is : object_of config memory (address + index) ≡ address
      object_is = ap (λ any_region. base_of config any_region + start any_region (address + index - base_of config any_region)) same_region ∙ in_own_region

      -- and nothing begins there, if it is not the first
      pub begins_not : 0 < index → begins config memory (address + index) ≡ false
      begins_not later = and_right (is_in_use config memory (address + index)) (object_of config memory (address + index) == address + index) (ne_eqb (object_of config memory (address + index)) (address + index) (λ same_address. (let starts_there = object_is in omega (arith, same_address, starts_there, later))))

  -- each piece begins there
  pub piece_begins : (address : ℕ) (piece : Block) → block address ≡ Some piece → Walked (region_with config address) → begins config memory address ≡ true
  piece_begins address piece piece_there walked =
      let has_words = some_words address piece piece_there in
      let same_address : address + 0 ≡ address = omega arith in
      let used = sym (ap (is_in_use config memory) same_address) ∙ in_use address 0 piece piece_there (omega (arith, has_words)) in
      let own_object : object_of config memory address ≡ address = sym (ap (object_of config memory) same_address) ∙ object_is address 0 piece piece_there (omega (arith, has_words)) walked in
      and_from (is_in_use config memory address) (object_of config memory address == address) used (eq-eqb (object_of config memory address) address own_object)
