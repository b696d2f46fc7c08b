-- A plot in which each piece is another one of as many words.
use Rattle.std.proofs.Common.{◌≡◌, ℕ, ◌+◌, Some, sym, ap, ◌∙◌, subst, arith}
use Rattle.std.specs.Option.{option_map}
use Rattle.heap_words.specs.declared.config.Config.{Config}
use Rattle.regions.specs.Place.{base_of}
use Rattle.heap_world.specs.World.{Block, words_of, Plot, IsInUse, IsPlotted, IsFilled}
use Rattle.cycle_words.proofs.Marking.Pruned.{from_option}

abbrev pub mapped : (Block → Block) → Plot → Plot
mapped f block address = option_map f (block address)

pub mapped_at : (f : Block → Block) (block : Plot) (address : ℕ) (piece : Block) → block address ≡ Some piece → mapped f block address ≡ Some (f piece)
mapped_at f block address piece piece_there = ap (option_map f) piece_there

-- the piece that there was
pub mapped_from : (f : Block → Block) (block : Plot) (address : ℕ) (piece : Block) → mapped f block address ≡ Some piece → (old_piece : Block) × (block address ≡ Some old_piece) × (f old_piece ≡ piece)
mapped_from f block address piece piece_mapped = from_option f (block address) piece piece_mapped

module _ (config : Config) (top : ℕ → ℕ) (block : Plot) (f : Block → Block) (keeps_words : (piece_address : ℕ) (some_piece : Block) → block piece_address ≡ Some some_piece → words_of (f some_piece) ≡ words_of some_piece) where
  -- the words of a piece and of what there was
  size : (address : ℕ) (piece : Block) (old_piece : (old : Block) × (block address ≡ Some old) × (f old ≡ piece)) → words_of old_piece.0 ≡ words_of piece
  size address piece old_piece = sym (keeps_words address old_piece.0 old_piece.1) ∙ ap words_of old_piece.2

  pub plotted_alike : IsPlotted config top block → IsPlotted config top (mapped f block)
  plotted_alike plotted = record {
    tops = plotted.tops;
    in_use = λ address piece piece_mapped. let old_piece = mapped_from f block address piece piece_mapped in subst (λ words. IsInUse config top address words) (size address piece old_piece) (plotted.in_use address old_piece.0 old_piece.1);
    apart = λ first_address second_address first_piece second_piece first_mapped second_mapped before.
        let was_x = mapped_from f block first_address first_piece first_mapped in
        let was_y = mapped_from f block second_address second_piece second_mapped in
        let old_apart = plotted.apart first_address second_address was_x.0 was_y.0 was_x.1 was_y.1 before in
        omega (arith, old_apart, size first_address first_piece was_x);
  }

  -- where there was a piece there is one
  there : (address : ℕ) → (piece : Block) × (block address ≡ Some piece) → (piece : Block) × (mapped f block address ≡ Some piece)
  there address old_piece = (f old_piece.0, mapped_at f block address old_piece.0 old_piece.1)

  pub filled_alike : IsFilled config top block → IsFilled config top (mapped f block)
  filled_alike filled = record {
    first = λ region inside used. there (base_of config region) (filled.first region inside used);
    next = λ region address mapped_piece inside from piece_mapped end_below.
        let old_piece = mapped_from f block address mapped_piece piece_mapped in
        let same_words = size address mapped_piece old_piece in
        subst (λ words. (piece : Block) × (mapped f block (address + words) ≡ Some piece)) same_words
        (there (address + words_of old_piece.0) (filled.next region address old_piece.0 inside from old_piece.1 (omega (arith, end_below, same_words))));
  }
