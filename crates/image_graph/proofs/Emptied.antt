-- Buffers that have no free words are dropped, and no piece changes: the words represent the graph still.
use Rattle.std.proofs.Common.{◌≡◌, ◌≢◌, ℕ, ◌+◌, ◌-◌, ◌≤◌, Some, ⊎_elim, refl, sym, ◌∙◌, subst, arith}
use Rattle.std.proofs.lemmas.Bool.{cases_eq}
use Rattle.heap_words.specs.declared.config.Config.{Config}
use Rattle.heap_words.specs.Encoding.{next_in, end_in}
use Rattle.heap_words.specs.Words.{Word, Cset, Top, Current, Heap}
use Rattle.regions.specs.Place.{region_with}
use Rattle.regions.specs.Sets.{IsIn}
use Rattle.shen_graph.specs.Graph.{Graph}
use Rattle.heap_world.specs.World.{spare, Plot, IsBuffer, AreBuffers, AreBuffersOutside}
use Rattle.heap_world.specs.Asking.{Asking}
use Rattle.heap_world.specs.Represents.{RepresentsWith}
use Rattle.heap_world.proofs.FunctionUpdates.{updated, updated_same, updated_else}
use Rattle.image_graph.proofs.Refitted.{refitted}
use Rattle.image_graph.proofs.StandsStill.{IsOfRoots, stands_still}
use Rattle.image_graph.proofs.SeatTurns.{IsDropped}

-- the words of buffers tell of the free words still
pub buffers_dropped : (config : Config) (top current then_current : ℕ → ℕ) (block : Plot) → ((seat : ℕ) → IsDropped current then_current seat) → ((address seat words : ℕ) → block address ≡ Some (spare seat words) → 1 ≤ words)
    → AreBuffers config top current block → AreBuffers config top then_current block
buffers_dropped config top current then_current block dropped some_words buffers = record {
  each = λ seat is_some. ⊎_elim
      (λ (kept : then_current seat ≡ current seat). subst (IsBuffer config top block seat) (sym kept) (buffers.each seat (λ no_buffer. is_some (kept ∙ no_buffer))))
      (λ (emptied : (then_current seat ≡ 0) × (end_in (current seat) ≤ next_in (current seat))). absurd (is_some emptied.0))
      (dropped seat);
  spares = λ address seat words spare_there.
      let buffer_words = buffers.spares address seat words spare_there in
      ⊎_elim
      (λ (kept : then_current seat ≡ current seat). subst (λ word. (next_in word ≡ address) × (end_in word ≡ address + words)) (sym kept) buffer_words)
      (λ (emptied : (then_current seat ≡ 0) × (end_in (current seat) ≤ next_in (current seat))).
      let has_words = some_words address seat words spare_there in
      let next_is = buffer_words.0 in
      let end_is = buffer_words.1 in
      let empty = emptied.1 in
      absurd (omega (arith, next_is, end_is, has_words, empty)))
      (dropped seat);
}

-- Where each buffer is one that there was, they lie outside the collection set still.
pub fewer_outside : (config : Config) (cset : ℕ) (current fewer : ℕ → ℕ) → ((seat : ℕ) → fewer seat ≢ 0 → fewer seat ≡ current seat) → AreBuffersOutside config cset current → AreBuffersOutside config cset fewer
fewer_outside config cset current fewer same_buffer outside seat some_buffer inside =
    let buffer_is = same_buffer seat some_buffer in
    outside seat (λ no_buffer. some_buffer (buffer_is ∙ no_buffer)) (subst (λ word. IsIn cset (region_with config (end_in word - 1))) buffer_is inside)

-- so they are without a seat's
pub without_fewer : (current : ℕ → ℕ) (seat any_seat : ℕ) → updated current seat 0 any_seat ≢ 0 → updated current seat 0 any_seat ≡ current any_seat
without_fewer current seat any_seat positive = ⊎_elim
    (λ (same_seat : seat ≡ any_seat). absurd (positive (updated_same current seat 0 any_seat same_seat)))
    (λ (seats_differ : seat ≢ any_seat). updated_else current seat 0 any_seat seats_differ)
    (cases_eq seat any_seat)

-- and where some are dropped
pub dropped_fewer : (current then_current : ℕ → ℕ) → ((seat : ℕ) → IsDropped current then_current seat) → (any_seat : ℕ) → then_current any_seat ≢ 0 → then_current any_seat ≡ current any_seat
dropped_fewer current then_current dropped any_seat positive = ⊎_elim (λ kept. kept) (λ emptied. absurd (positive emptied.0)) (dropped any_seat)

module _ (Asks : (Word → ℕ) → Plot → Type 0) (of_roots : IsOfRoots Asks) (config : Config) (memory : Word → ℕ) (graph : Graph) (asking : ℕ → Asking) (represents_with : RepresentsWith (Asks memory) config memory graph asking) (current : ℕ → ℕ)
    (dropped : (seat : ℕ) → IsDropped (λ any_seat. memory (Current any_seat)) current seat) where
  pub rebuffered : RepresentsWith (Asks (refitted memory (λ region. memory (Top region)) (λ address. memory (Heap address)) current)) config (refitted memory (λ region. memory (Top region)) (λ address. memory (Heap address)) current) graph asking
  rebuffered = stands_still Asks of_roots config memory graph asking represents_with (λ region. memory (Top region)) (λ address. memory (Heap address)) current represents_with.block
      (record { stays = λ piece_address piece fixed still_there. still_there; came = λ piece_address piece fixed still_there. still_there }) (λ piece_address any_seat words still_there. still_there) (λ piece_address any_seat words still_there. still_there) (λ piece_address offset any_seat words still_there index_below. refl)
      (record {
        parsable = represents_with.shared.parsable;
        contents = represents_with.shared.contents;
        owned = record { free_word = represents_with.shared.owned.free_word; shared_one = represents_with.shared.owned.shared_one; rooms = represents_with.shared.owned.rooms; buffers = buffers_dropped config (λ region. memory (Top region)) (λ seat. memory (Current seat)) current represents_with.block dropped represents_with.shared.owned.rooms.spares represents_with.shared.owned.buffers; outside = fewer_outside config (memory Cset) (λ seat. memory (Current seat)) current (dropped_fewer (λ seat. memory (Current seat)) current dropped) represents_with.shared.owned.outside };
        phased = represents_with.shared.phased;
        unwritten = represents_with.shared.unwritten;
        marked = represents_with.shared.marked;
        evacuated = represents_with.shared.evacuated;
        updated = represents_with.shared.updated;
        pinned = represents_with.shared.pinned;
      })
