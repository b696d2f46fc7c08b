-- A piece becomes another one of as many words.
use Rattle.std.proofs.Common.{◌≡◌, ◌≢◌, ℕ, ◌+◌, Some, ⊎_elim, refl, sym, ap, ◌∙◌, subst, arith}
use Rattle.std.proofs.lemmas.Bool.{cases_eq}
use Rattle.heap_words.specs.declared.config.Config.{Config}
use Rattle.regions.specs.Place.{base_of}
use Rattle.heap_world.specs.World.{Block, words_of, Plot, IsInUse, IsPlotted, IsFilled}
use Rattle.heap_world.proofs.FunctionUpdates.{updated, updated_there, updated_else}
use Rattle.heap_world.proofs.Pieces.{piece_cases}

module _ (config : Config) (top : ℕ → ℕ) (block : Plot) (address : ℕ) (old_piece new_piece : Block) (old_there : block address ≡ Some old_piece) (same_length : words_of new_piece ≡ words_of old_piece) where
  abbrev new_block : Plot
  new_block = updated block address (Some new_piece)

  -- where a piece is, one of as many words was
  was : (asked_address : ℕ) (piece : Block) → new_block asked_address ≡ Some piece → (former_piece : Block) × (block asked_address ≡ Some former_piece) × (words_of former_piece ≡ words_of piece)
  was asked_address piece has_piece = ⊎_elim
      (λ (new : (asked_address ≡ address) × (new_piece ≡ piece)). (old_piece, ap block new.0 ∙ old_there, sym same_length ∙ ap words_of new.1))
      (λ (old : (asked_address ≢ address) × (block asked_address ≡ Some piece)). (piece, old.1, refl))
      (piece_cases block address new_piece asked_address piece has_piece)

  -- where a piece was, one is
  there : (asked_address : ℕ) → (piece : Block) × (block asked_address ≡ Some piece) → (piece : Block) × (new_block asked_address ≡ Some piece)
  there asked_address old = ⊎_elim
      (λ (same_address : asked_address ≡ address). (new_piece, ap new_block same_address ∙ updated_there block address (Some new_piece)))
      (λ (not_address : asked_address ≢ address). (old.0, updated_else block address (Some new_piece) asked_address (λ addresses_equal. not_address (sym addresses_equal)) ∙ old.1))
      (cases_eq asked_address address)

  pub plotted_still : IsPlotted config top block → IsPlotted config top new_block
  plotted_still plotted = record {
    tops = plotted.tops;
    in_use = λ address piece has_piece. let old = was address piece has_piece in subst (λ words. IsInUse config top address words) old.2 (plotted.in_use address old.0 old.1);
    apart = λ first_address second_address first_piece second_piece first_there second_there before.
        let old_z = was first_address first_piece first_there in
        let old_w = was second_address second_piece second_there in
        let pieces_apart = plotted.apart first_address second_address old_z.0 old_w.0 old_z.1 old_w.1 before in
        omega (arith, pieces_apart, old_z.2);
  }

  pub filled_still : IsFilled config top block → IsFilled config top new_block
  filled_still filled = record {
    first = λ region inside used. there (base_of config region) (filled.first region inside used);
    next = λ region asked_address given_piece inside from has_piece below_top.
        let old = was asked_address given_piece has_piece in
        subst (λ words. (piece : Block) × (new_block (asked_address + words) ≡ Some piece)) old.2
        (there (asked_address + words_of old.0) (filled.next region asked_address old.0 inside from old.1 (omega (arith, below_top, old.2))));
  }
