-- Where words hold a graph, and each buffer is the last of its region, edges divide the pieces.
use Rattle.std.proofs.Common.{◌≡◌, ◌≢◌, ℕ, ◌<◌, Option, Some, ⊎_elim, ap, ◌∙◌, arith}
use Rattle.std.proofs.lemmas.Bool.{cases_lt}
use Rattle.heap_words.specs.declared.config.Config.{Config}
use Rattle.heap_words.specs.Ranges.{seat_count}
use Rattle.heap_words.specs.Words.{Word, Current}
use Rattle.heap_words.specs.Encoding.{end_in}
use Rattle.shen_graph.specs.Graph.{Graph}
use Rattle.heap_world.specs.World.{spare, Plot, HasNoRoom}
use Rattle.heap_world.proofs.Roomless.{only_spares}
use Rattle.image_graph.specs.Settled.{AreLast}
use Rattle.image_graph.specs.Divided.{AreDivided}
use Rattle.image_graph.proofs.Divided.{divided}
use Rattle.image_graph.specs.Promised.{Promises}
use Rattle.image_graph.specs.Holds.{HoldsBy}
use Rattle.image_graph.specs.Buffers.{HasNoMoreSeats}

module _ (config : Config) (memory : Word → ℕ) (block : Plot) (owner : ℕ → Option ℕ) (promises : Promises) (graph : Graph) (holds : HoldsBy config memory block owner promises graph) where
  -- free words are those of a buffer
  pub spare_seats : (address seat words : ℕ) → block address ≡ Some (spare seat words) → memory (Current seat) ≢ 0
  spare_seats address seat words spare_there no_buffer =
      let own_buffer = holds.buffers.spares address seat words spare_there in
      let long_piece = holds.pieces.some address (spare seat words) spare_there in
      let zero_end = ap end_in no_buffer in
      let end = own_buffer.1 in
      omega (arith, zero_end, end, long_piece)

  -- where nobody has a buffer, no piece is room
  pub none_have_room : ((seat : ℕ) → memory (Current seat) ≡ 0) → HasNoRoom block
  none_have_room no_buffers address seat piece piece_there room =
      let free_piece = only_spares block holds.pieces.unheld holds.pieces.uncarved address seat piece piece_there room in
      spare_seats address seat free_piece.0 (piece_there ∙ ap Some free_piece.1) (no_buffers seat)

  module _ (seats : HasNoMoreSeats config memory) where
    seated : (address seat words : ℕ) → block address ≡ Some (spare seat words) → seat < seat_count config.mutators config.helpers
    seated address seat words spare_there = ⊎_elim
        (λ seat_below. seat_below)
        (λ seat_past. absurd (spare_seats address seat words spare_there (seats seat seat_past)))
        (cases_lt seat (seat_count config.mutators config.helpers))

    pub holds_divided : AreLast config memory → AreDivided config memory block
    holds_divided = divided config memory block holds.objects.plotted holds.pieces.some holds.buffers holds.pieces.uncarved holds.pieces.unheld seated
