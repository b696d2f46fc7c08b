-- Words of two pieces never coincide.
use Rattle.std.proofs.Common.{◌≡◌, ◌≢◌, ℕ, ◌+◌, ◌<◌, ◌≤◌, Some, ⊎_elim, arith}
use Rattle.std.proofs.lemmas.Bool.{cases_order}
use Rattle.heap_words.specs.declared.config.Config.{Config}
use Rattle.heap_world.specs.World.{Block, words_of, Plot, IsPlotted}

module _ (config : Config) (top : ℕ → ℕ) (block : Plot) (plotted : IsPlotted config top block) where
  -- an address lies in one piece only
  pub one_piece : (address other_address inside : ℕ) (piece other_piece : Block) → block address ≡ Some piece → block other_address ≡ Some other_piece → address ≤ inside → inside < address + words_of piece → other_address ≤ inside → inside < other_address + words_of other_piece → address ≡ other_address
  one_piece address other_address inside piece other_piece piece_there other_there from_a to_x from_b to_y = ⊎_elim
      (λ same_address. same_address)
      (λ differ. ⊎_elim (λ address_less. absurd (omega (arith, plotted.apart address other_address piece other_piece piece_there other_there address_less))) (λ address_more. absurd (omega (arith, plotted.apart other_address address other_piece piece other_there piece_there address_more))) differ)
      (cases_order address other_address)

  -- a word of one piece is no word of another
  pub far : (address other_address offset other_offset : ℕ) (piece other_piece : Block) → block address ≡ Some piece → block other_address ≡ Some other_piece → address ≢ other_address → offset < words_of piece → other_offset < words_of other_piece → address + offset ≢ other_address + other_offset
  far address other_address offset other_offset piece other_piece piece_there other_there differs in_x in_y same_word = differs (one_piece address other_address (address + offset) piece other_piece piece_there other_there (omega arith) (omega arith) (omega arith) (omega arith))
