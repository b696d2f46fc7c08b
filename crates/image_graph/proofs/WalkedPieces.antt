-- Where regions can be walked, the walk meets exactly the pieces that stand there.
use Rattle.std.proofs.Common.{◌≡◌, ◌≢◌, ℕ, ◌+◌, ◌-◌, ◌/◌, ◌<◌, ◌≤◌, ◌==◌, ◌&&◌, nat_le, nat_lt, Bool, true, zero, suc, Some, ⊎_elim, sym, ap, ◌∙◌, subst, arith}
use Rattle.std.proofs.lemmas.Bool.{cases_eq, cases_lt, and_parts, and_from, leb-true, ltb-true, eqb-true, le-leb, lt-ltb, eq-eqb}
use Rattle.heap_words.specs.declared.config.Config.{Config}
use Rattle.heap_words.specs.Words.{Word, Top, Heap}
use Rattle.regions.specs.Place.{base_of, region_with}
use Rattle.regions.specs.Walk.{stride_at, start_of}
use Rattle.heap_world.specs.World.{Block, words_of, Plot, IsPlotted}
use Rattle.heap_world.proofs.Pointing.{piece_inside}
use Rattle.image_graph.specs.Pinned.{object_of, is_in_use, begins}
use Rattle.image_graph.specs.Plot.{AreParsed}
use Rattle.image_graph.proofs.PieceStarts.{start_first, start_ends, start_goes_on}
use Rattle.image_graph.proofs.Rows.{row_is, row_above}

module _ (config : Config) (shut : ℕ → Bool) (memory : Word → ℕ) (block : Plot) (plotted : IsPlotted config (λ any_region. memory (Top any_region)) block)
    (parsed : AreParsed config shut (λ any_region. memory (Top any_region)) (λ any_address. memory (Heap any_address)) block) where
  abbrev top : ℕ → ℕ
  top region = memory (Top region)

  abbrev heap : ℕ → ℕ
  heap address = memory (Heap address)

  abbrev start : ℕ → ℕ → ℕ
  start region = start_of heap (base_of config region)

  -- a piece of a region has the word at a distance from the base
  abbrev HasWord : ℕ → ℕ → Type 0
  HasWord region offset = (piece : Block) × (block (base_of config region + start region offset) ≡ Some piece) × (start region offset ≤ offset) × (offset < start region offset + words_of piece)

  -- the walk comes to the piece that has a word
  piece_of : (region offset : ℕ) → region < config.regions → shut (region + 1) ≡ true → offset < top region → HasWord region offset
  piece_of region zero region_below region_closed offset_below =
      let next_piece = parsed.filled.first region region_below offset_below in
      let starts_first = start_first heap (base_of config region) in
      let address_is : base_of config region ≡ base_of config region + start region 0 = omega (arith, starts_first) in
      let piece_there : block (base_of config region + start region 0) ≡ Some next_piece.0 = ap block (sym address_is) ∙ next_piece.1 in
      (next_piece.0, piece_there, omega (arith, starts_first), omega (arith, starts_first, parsed.some (base_of config region + start region 0) next_piece.0 piece_there))
  piece_of region (suc offset) region_below region_closed offset_below =
      let piece_before = piece_of region offset region_below region_closed (omega (arith, offset_below)) in
      let top_within = plotted.tops region region_below in
      let object_start = base_of config region + start region offset in
      let row = row_is config.region_words region object_start (omega arith) (omega (arith, piece_before.2, offset_below, top_within)) in
      let same_stride : stride_at heap object_start ≡ words_of piece_before.0 = parsed.sized object_start piece_before.0 piece_before.1 (ap shut row ∙ region_closed) in
      ⊎_elim
      (λ (ends : start region offset + stride_at heap object_start ≡ suc offset).
      let next_start = start_ends heap (base_of config region) offset ends in
      let next_piece = parsed.filled.next region object_start piece_before.0 region_below (omega arith) piece_before.1 (omega (arith, ends, same_stride, offset_below)) in
      let address_is : object_start + words_of piece_before.0 ≡ base_of config region + start region (suc offset) = omega (arith, ends, same_stride, next_start) in
      let piece_there : block (base_of config region + start region (suc offset)) ≡ Some next_piece.0 = ap block (sym address_is) ∙ next_piece.1 in
      (next_piece.0, piece_there, omega (arith, next_start), omega (arith, next_start, parsed.some (base_of config region + start region (suc offset)) next_piece.0 piece_there)))
      (λ (not_ended : start region offset + stride_at heap object_start ≢ suc offset).
      let next_start = start_goes_on heap (base_of config region) offset not_ended in
      let address_is : object_start ≡ base_of config region + start region (suc offset) = omega (arith, next_start) in
      (piece_before.0, ap block (sym address_is) ∙ piece_before.1, omega (arith, next_start, piece_before.2), omega (arith, next_start, not_ended, same_stride, piece_before.3)))
      (cases_eq (start region offset + stride_at heap object_start) (suc offset))

  -- where something begins, by the walk, a piece stands
  pub begins_piece : (address : ℕ) → shut (address / config.region_words) ≡ true → begins config memory address ≡ true → (piece : Block) × (block address ≡ Some piece)
  begins_piece address region_closed begins_here =
      let region = region_with config address in
      let begin_parts = and_parts (is_in_use config memory address) (object_of config memory address == address) begins_here in
      let used = and_parts (nat_le config.region_words address) (nat_lt region config.regions && nat_lt (address - base_of config region) (memory (Top region))) begin_parts.0 in
      let region_bounds = and_parts (nat_lt region config.regions) (nat_lt (address - base_of config region) (memory (Top region))) used.1 in
      let row = row_above config address (leb-true config.region_words address used.0) in
      let piece_found = piece_of region (address - base_of config region) (ltb-true region config.regions region_bounds.0) (ap shut row ∙ region_closed) (ltb-true (address - base_of config region) (memory (Top region)) region_bounds.1) in
      (piece_found.0, ap block (sym (eqb-true (object_of config memory address) address begin_parts.1)) ∙ piece_found.1)

  -- and where a piece stands, something begins
  pub piece_begins : (address : ℕ) (piece : Block) → block address ≡ Some piece → shut (address / config.region_words) ≡ true → begins config memory address ≡ true
  piece_begins address piece piece_there region_closed =
      let used = plotted.in_use address piece piece_there in
      let own_region = used.region in
      let top_within = plotted.tops own_region used.within in
      let some_words = parsed.some address piece piece_there in
      let row = row_is config.region_words own_region address used.from_base (omega (arith, used.to_top, top_within, some_words)) in
      let same_region : region_with config address ≡ own_region = omega (arith, row) in
      let offset = address - base_of config own_region in
      let offset_below : offset < top own_region = omega (arith, used.from_base, used.to_top, some_words) in
      let piece_found = piece_of own_region offset used.within (ap shut (sym row) ∙ region_closed) offset_below in
      let same_start : base_of config own_region + start own_region offset ≡ address = ⊎_elim
      (λ (starts_before : base_of config own_region + start own_region offset < address).
      let pieces_apart = plotted.apart (base_of config own_region + start own_region offset) address piece_found.0 piece piece_found.1 piece_there starts_before in
      absurd (omega (arith, pieces_apart, piece_found.3, used.from_base)))
      (λ (not_before : address ≤ base_of config own_region + start own_region offset). omega (arith, not_before, piece_found.2, used.from_base))
      (cases_lt (base_of config own_region + start own_region offset) address) in
      let object : object_of config memory address ≡ address = ap (λ asked_region. base_of config asked_region + start_of heap (base_of config asked_region) (address - base_of config asked_region)) same_region ∙ same_start in
      let region = region_with config address in
      and_from (is_in_use config memory address) (object_of config memory address == address)
      (and_from (nat_le config.region_words address) (nat_lt region config.regions && nat_lt (address - base_of config region) (memory (Top region)))
      (le-leb config.region_words address (piece_inside config top block plotted address piece piece_there).0)
      (and_from (nat_lt region config.regions) (nat_lt (address - base_of config region) (memory (Top region)))
      (lt-ltb region config.regions (omega (arith, same_region, used.within)))
      (lt-ltb (address - base_of config region) (memory (Top region)) (subst (λ region. address - base_of config region < memory (Top region)) (sym same_region) offset_below))))
      (eq-eqb (object_of config memory address) address object)
