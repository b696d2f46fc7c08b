-- A walk steps over each piece by its words, if it is no room.
use Rattle.std.proofs.Common.{◌≡◌, ℕ, ◌+◌, ◌/◌, false, true, Some, ⊎_elim, sym, ap, ◌∙◌, arith}
use Rattle.std.proofs.lemmas.Bool.{cond-true, cond-false, eq-eqb}
use Rattle.heap_words.specs.Words.{Word, Heap}
use Rattle.heap_words.specs.Encoding.{filler_header, object_words}
use Rattle.regions.specs.Walk.{is_filler, stride_at}
use Rattle.heap_world.specs.World.{Block, filler, room_of, is_loose, words_of, Plot, HasNoRoom}
use Rattle.image_graph.specs.Holds.{AreSized}
use Rattle.image_graph.proofs.Loosening.Loosened.{kind_of}

-- words that only fill say so by their header
pub filler_fills : (words : ℕ) → is_filler (filler_header words) ≡ true
filler_fills words = eq-eqb _ 2 (omega arith)

module _ (memory : Word → ℕ) (block : Plot) (sized : AreSized memory block) where
  fills : (address words : ℕ) → block address ≡ Some (filler words) → stride_at (λ address. memory (Heap address)) address ≡ words
  fills address words filler_there =
      let header = sized.fillers address words filler_there in
      let quarter : filler_header words / 4 ≡ words = omega arith in
      cond-true (is_filler (memory (Heap address))) (memory (Heap address) / 4) (object_words (memory (Heap (address + 1)))) (ap is_filler header ∙ filler_fills words) ∙ ap (λ word. word / 4) header ∙ quarter

  pub stride_of : (address : ℕ) (piece : Block) → block address ≡ Some piece → ((seat : ℕ) → room_of piece ≡ Some seat → ⊥) → stride_at (λ address. memory (Heap address)) address ≡ words_of piece
  stride_of address piece piece_there no_room = ⊎_elim
      (λ (fixed : is_loose piece ≡ false).
      cond-false (is_filler (memory (Heap address))) (memory (Heap address) / 4) (object_words (memory (Heap (address + 1)))) (sized.headers address piece piece_there fixed) ∙ sized.objects address piece piece_there fixed)
      (λ loose. ⊎_elim
      (λ (room : (seat : ℕ) × (room_of piece ≡ Some seat)). absurd (no_room room.0 room.1))
      (λ (only_fills : (words : ℕ) × (piece ≡ filler words)). fills address only_fills.0 (piece_there ∙ ap Some only_fills.1) ∙ sym (ap words_of only_fills.1))
      loose)
      (kind_of piece)

-- so over each piece, where none is room
pub strides : (memory : Word → ℕ) (block : Plot) → AreSized memory block → HasNoRoom block → (address : ℕ) (piece : Block) → block address ≡ Some piece → stride_at (λ address. memory (Heap address)) address ≡ words_of piece
strides memory block sized no_room address piece piece_there = stride_of memory block sized address piece piece_there (λ seat room. no_room address seat piece piece_there room)
