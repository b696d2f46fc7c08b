-- A walk steps over each piece by its words, where no piece is room.
use Rattle.std.proofs.Common.{◌≡◌, ℕ, ◌+◌, ◌/◌, false, true, Some, ⊎_elim, sym, ap, ◌∙◌, arith}
use Rattle.std.proofs.lemmas.Bool.{cond-true, cond-false, eq-eqb}
use Rattle.heap_words.specs.Words.{Word, Heap}
use Rattle.heap_words.specs.Encoding.{filler_header, object_words}
use Rattle.regions.specs.Walk.{is_filler, stride_at}
use Rattle.heap_world.specs.World.{Block, filler, room_of, is_loose, words_of, Plot, HasNoRoom}
use Rattle.image_graph.specs.Holds.{AreSized}
use Rattle.image_graph.proofs.Loosening.Loosened.{kind_of}

-- words that only fill say so by their header
pub filler_fills : (words : ℕ) → is_filler (filler_header words) ≡ true
filler_fills words = eq-eqb _ 2 (omega arith)

module _ (memory : Word → ℕ) (block : Plot) (sized : AreSized memory block) (no_room : HasNoRoom block) where
  fills : (address words : ℕ) → block address ≡ Some (filler words) → stride_at (λ address. memory (Heap address)) address ≡ words
  fills address words filler_there =
      let header = sized.fillers address words filler_there in
      let quarter : filler_header words / 4 ≡ words = omega arith in
      cond-true (is_filler (memory (Heap address))) (memory (Heap address) / 4) (object_words (memory (Heap (address + 1)))) (ap is_filler header ∙ filler_fills words) ∙ ap (λ header_word. header_word / 4) header ∙ quarter

  pub strides : (address : ℕ) (piece : Block) → block address ≡ Some piece → stride_at (λ address. memory (Heap address)) address ≡ words_of piece
  strides address piece piece_there = ⊎_elim
      (λ (fixed : is_loose piece ≡ false).
      cond-false (is_filler (memory (Heap address))) (memory (Heap address) / 4) (object_words (memory (Heap (address + 1)))) (sized.headers address piece piece_there fixed) ∙ sized.objects address piece piece_there fixed)
      (λ loose. ⊎_elim
      (λ (room : (seat : ℕ) × (room_of piece ≡ Some seat)). absurd (no_room address room.0 piece piece_there room.1))
      (λ (filler_only : (words : ℕ) × (piece ≡ filler words)). fills address filler_only.0 (piece_there ∙ ap Some filler_only.1) ∙ sym (ap words_of filler_only.1))
      loose)
      (kind_of piece)
