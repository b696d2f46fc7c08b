-- What begins in a region that can be walked ends at the top, or before.
use Rattle.std.proofs.Common.{◌≡◌, ℕ, ◌+◌, ◌/◌, ◌<◌, ◌≤◌, Bool, true, ⊎_elim, ap, ◌∙◌, arith}
use Rattle.heap_words.specs.declared.config.Config.{Config}
use Rattle.heap_words.specs.Words.{Word, Top, Heap}
use Rattle.regions.specs.Place.{base_of}
use Rattle.regions.specs.Walk.{stride_at}
use Rattle.heap_world.specs.World.{words_of, Plot, IsPlotted}
use Rattle.heap_world.proofs.Pieces.{beside}
use Rattle.image_graph.specs.Pinned.{BeginsAt, CanFill}
use Rattle.image_graph.specs.Plot.{AreParsed}
use Rattle.image_graph.proofs.WalkedPieces.{begins_piece}
use Rattle.image_graph.proofs.Rows.{row_is}
use Rattle.image_graph.proofs.LeftoversFilled.{begins_yes}

module _ (config : Config) (shut : ℕ → Bool) (memory : Word → ℕ) (block : Plot) (plotted : IsPlotted config (λ region. memory (Top region)) block)
    (parsed : AreParsed config shut (λ region. memory (Top region)) (λ heap_address. memory (Heap heap_address)) block) (region : ℕ) (inside : region < config.regions) (closed : shut (region + 1) ≡ true) where
  ends_below : (offset : ℕ) → offset < memory (Top region) → BeginsAt config memory region offset → offset + stride_at (λ address. memory (Heap address)) (base_of config region + offset) ≤ memory (Top region)
  ends_below offset offset_below begun =
      let top_bound = plotted.tops region inside in
      let row : shut ((base_of config region + offset) / config.region_words) ≡ true = ap shut (row_is config.region_words region (base_of config region + offset) (omega arith) (omega (arith, offset_below, top_bound))) ∙ closed in
      let piece = begins_piece config shut memory block plotted parsed (base_of config region + offset) row (begins_yes config memory region inside top_bound offset offset_below begun) in
      let size = parsed.sized (base_of config region + offset) piece.0 piece.1 row in
      let some_words = parsed.some (base_of config region + offset) piece.0 piece.1 in
      ⊎_elim
      (λ (before : base_of config region + offset + words_of piece.0 ≤ base_of config region). absurd (omega (arith, before, some_words)))
      (λ rest. ⊎_elim
      (λ (within : (base_of config region ≤ base_of config region + offset) × (base_of config region + offset + words_of piece.0 ≤ base_of config region + memory (Top region))). omega (arith, within.1, size))
      (λ (region_behind : base_of config region + config.region_words ≤ base_of config region + offset). absurd (omega (arith, region_behind, offset_below, top_bound)))
      rest)
      (beside config (λ region. memory (Top region)) block plotted region (base_of config region + offset) piece.0 piece.1)

  pub parsed_fills : CanFill config memory region
  parsed_fills = record { within = plotted.tops region inside; ends = ends_below }
