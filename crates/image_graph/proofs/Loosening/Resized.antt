-- Pieces become others at the same addresses, of as many words: they lie where they lay, and fill the regions as before.
use Rattle.std.proofs.Common.{◌≡◌, ℕ, ◌+◌, Some, subst, arith}
use Rattle.heap_words.specs.declared.config.Config.{Config}
use Rattle.regions.specs.Place.{base_of}
use Rattle.heap_world.specs.World.{Block, words_of, Plot, IsInUse, IsPlotted, IsFilled}

-- each piece was one of as many words, and where there was one there is one
pub record IsResized (block plot : Plot) : Type 0 where
  pub from : (address : ℕ) (piece : Block) → plot address ≡ Some piece → (other_piece : Block) × (block address ≡ Some other_piece) × (words_of other_piece ≡ words_of piece)
  pub to : (address : ℕ) (other_piece : Block) → block address ≡ Some other_piece → (piece : Block) × (plot address ≡ Some piece)

module _ (config : Config) (top : ℕ → ℕ) (block plot : Plot) (is_resized : IsResized block plot) where
  pub resized_plotted : IsPlotted config top block → IsPlotted config top plot
  resized_plotted plotted = record {
    tops = plotted.tops;
    in_use = λ address b piece_there. let old_piece = is_resized.from address b piece_there in subst (λ words. IsInUse config top address words) old_piece.2 (plotted.in_use address old_piece.0 old_piece.1);
    apart = λ first_address b first_block second_block first_there second_there before.
        let was_x = is_resized.from first_address first_block first_there in
        let was_y = is_resized.from b second_block second_there in
        let far_apart = plotted.apart first_address b was_x.0 was_y.0 was_x.1 was_y.1 before in
        omega (arith, far_apart, was_x.2);
  }

  there : (address : ℕ) → (piece : Block) × (block address ≡ Some piece) → (piece : Block) × (plot address ≡ Some piece)
  there address old_piece = is_resized.to address old_piece.0 old_piece.1

  pub resized_filled : IsFilled config top block → IsFilled config top plot
  resized_filled filled = record {
    first = λ region inside used. there (base_of config region) (filled.first region inside used);
    next = λ region address some_piece inside from piece_there end_below.
        let old_piece = is_resized.from address some_piece piece_there in
        subst (λ words. (piece : Block) × (plot (address + words) ≡ Some piece)) old_piece.2
        (there (address + words_of old_piece.0) (filled.next region address old_piece.0 inside from old_piece.1 (omega (arith, end_below, old_piece.2))));
  }
