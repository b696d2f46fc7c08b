-- The free words of a buffer are made words that only fill, and the seat has no buffer: the words represent the graph still.
use Rattle.std.proofs.Common.{◌≡◌, ◌≢◌, ℕ, ◌+◌, ◌<◌, ◌≤◌, ◌⊎◌, Some, None, ⊎_elim, refl, sym, ap, ◌∙◌, arith}
use Rattle.std.proofs.lemmas.Bool.{cases_eq}
use Rattle.std.proofs.lemmas.Option.{none-some, same_Some}
use Rattle.heap_words.specs.declared.config.Config.{Config}
use Rattle.heap_words.specs.Encoding.{filler_header}
use Rattle.heap_words.specs.Words.{Word, Cset, Top, Current, Heap}
use Rattle.shen_graph.specs.Graph.{Graph}
use Rattle.heap_world.specs.World.{Block, hand, promised, filler, spare, carved, Plot, words_of, room_of, is_loose, AreBuffers}
use Rattle.heap_world.specs.Asking.{Asking}
use Rattle.heap_world.specs.Represents.{RepresentsWith}
use Rattle.heap_world.proofs.FunctionUpdates.{updated, updated_there, updated_else}
use Rattle.heap_world.proofs.Pieces.{piece_cases}
use Rattle.heap_world.proofs.Retiled.{one_at, one_tile, retiled, retiled_cases}
use Rattle.heap_world.proofs.Recut.{CanRecut, same_but_loose, buffers_again}
use Rattle.heap_world.proofs.RecutWorlds.{fixed_stay, shared_recut}
use Rattle.image_graph.proofs.Refitted.{refitted}
use Rattle.image_graph.proofs.StandsStill.{IsOfRoots, standing, stands_still}
use Rattle.image_graph.proofs.Emptied.{fewer_outside, without_fewer}

module _ (Asks : (Word → ℕ) → Plot → Type 0) (of_roots : IsOfRoots Asks) (config : Config) (memory : Word → ℕ) (graph : Graph) (asking : ℕ → Asking) (represents_with : RepresentsWith (Asks memory) config memory graph asking) (seat address words : ℕ)
    (spare_there : represents_with.block address ≡ Some (spare seat words)) where
  abbrev tops : ℕ → ℕ
  tops region = memory (Top region)

  -- the one new piece
  abbrev new : Plot
  new = one_at address (filler words)

  -- the words of the heap with its header
  abbrev pub heap_filled : ℕ → ℕ
  heap_filled = updated (λ address. memory (Heap address)) address (filler_header words)

  -- the buffers without the seat's
  abbrev pub buffers_without : ℕ → ℕ
  buffers_without = updated (λ seat. memory (Current seat)) seat 0

  -- it has a word at least
  some : 1 ≤ words
  some = represents_with.shared.owned.rooms.spares address seat words spare_there

  -- the new piece is the one
  only_new : (place : ℕ) (piece : Block) → new place ≡ Some piece → (place ≡ address) × (filler words ≡ piece)
  only_new place piece new_piece = ⊎_elim (λ only_there. only_there) (λ (elsewhere : (place ≢ address) × (None ≡ Some piece)). absurd (none-some piece elsewhere.1)) (piece_cases (λ k. None) address (filler words) place piece new_piece)

  -- the old piece is the one
  only_old : (place : ℕ) (piece : Block) → address ≤ place → place < address + words → represents_with.block place ≡ Some piece → (place ≡ address) × (spare seat words ≡ piece)
  only_old place piece at_most below_end piece_there =
      let some_words = some in
      ⊎_elim
      (λ (same_place : place ≡ address). (same_place, same_Some (spare seat words) piece (sym spare_there ∙ ap represents_with.block (sym same_place) ∙ piece_there)))
      (λ (place_differs : place ≢ address). let ends_before = represents_with.shared.parsable.plotted.apart address place (spare seat words) piece spare_there piece_there (omega (arith, at_most, place_differs)) in absurd (omega (arith, ends_before, below_end)))
      (cases_eq place address)

  can : CanRecut config tops represents_with.block new seat address words
  can =
      let used = represents_with.shared.parsable.plotted.in_use address (spare seat words) spare_there in
      record {
        parsable = represents_with.shared.parsable;
        rooms = represents_with.shared.owned.rooms;
        stretch = record {
          region = used.region;
          within = used.within;
          from_base = used.from_base;
          to_top = used.to_top;
          some = some;
          first = spare seat words;
          begins = spare_there;
          last_at = address;
          last_from = omega arith;
          last = spare seat words;
          ends = spare_there;
          ends_there = refl;
        };
        tiling = one_tile address (filler words) some;
        olds = λ other_address piece from before_end piece_there. ap room_of (sym (only_old other_address piece from before_end piece_there).1);
        loose = λ other_address piece piece_there. ap is_loose (sym (only_new other_address piece piece_there).1);
        own = λ old_address other_seat old_piece piece_there room. absurd (none-some other_seat (ap room_of (only_new old_address old_piece piece_there).1 ∙ room));
        hands = λ old_address other_seat other_words piece_there. absurd (let differ = (only_new old_address (hand other_seat other_words) piece_there).1 in cc);
        carveds = λ old_address other_seat other_words piece_there. absurd (let differ = (only_new old_address (carved other_seat other_words) piece_there).1 in cc);
      }

  -- the plot then
  abbrev after : Plot
  after = retiled represents_with.block new address words

  -- a piece that is no filler was there
  was_there : (place : ℕ) (piece : Block) → (filler words ≡ piece → ⊥) → after place ≡ Some piece → (((place < address) ⊎ (address + words ≤ place)) × (represents_with.block place ≡ Some piece))
  was_there place piece differs piece_there = ⊎_elim
      (λ old. old)
      (λ (new_inside : (address ≤ place) × (place < address + words) × (new place ≡ Some piece)). absurd (differs (only_new place piece new_inside.2).1))
      (retiled_cases represents_with.block new address words place piece piece_there)

  -- words elsewhere stay
  elsewhere : (place : ℕ) → (place < address) ⊎ (address + words ≤ place) → heap_filled place ≡ memory (Heap place)
  elsewhere place away = (let some_words = some in updated_else (λ address. memory (Heap address)) address (filler_header words) place (omega (arith, away, some_words)))

  -- the header of the new piece
  header : (place filler_words : ℕ) → new place ≡ Some (filler filler_words) → heap_filled place ≡ filler_header filler_words
  header place filler_words filler_there =
      let only_there = only_new place (filler filler_words) filler_there in
      let same_words : words ≡ filler_words = ap words_of only_there.1 in
      ap heap_filled only_there.0 ∙ updated_there (λ address. memory (Heap address)) address (filler_header words) ∙ ap filler_header same_words

  -- the seat's free words were these
  buffers : AreBuffers config tops buffers_without after
  buffers = buffers_again config tops represents_with.block new seat address words can (λ seat. memory (Current seat)) buffers_without
      (λ other_seat differs. updated_else (λ seat. memory (Current seat)) seat 0 other_seat (λ same_seat. differs (sym same_seat)))
      (λ is_some. absurd (is_some (updated_there (λ seat. memory (Current seat)) seat 0)))
      (λ old_address other_words piece_there. absurd (
      let old = was_there old_address (spare seat other_words) (λ differ. cc) piece_there in
      let old_buffer = represents_with.shared.owned.buffers.spares old_address seat other_words old.1 in
      let seat_buffer = represents_with.shared.owned.buffers.spares address seat words spare_there in
      let some_words = some in
      let away = old.0 in
      let old_next = old_buffer.0 in
      let seat_next = seat_buffer.0 in
      omega (arith, away, old_next, seat_next, some_words)
      ))
      represents_with.shared.owned.buffers

  -- The words represent the graph still.
  pub filled_stands : RepresentsWith (Asks (refitted memory tops heap_filled buffers_without)) config (refitted memory tops heap_filled buffers_without) graph asking
  filled_stands = stands_still Asks of_roots config memory graph asking represents_with tops heap_filled buffers_without after (same_but_loose config tops represents_with.block new seat address words can)
      (λ old_address other_seat other_words piece_there. (was_there old_address (hand other_seat other_words) (λ differ. cc) piece_there).1)
      (λ old_address other_seat other_words piece_there. (was_there old_address (carved other_seat other_words) (λ differ. cc) piece_there).1)
      (λ old_address offset other_seat other_words piece_there offset_below. fixed_stay config (standing Asks of_roots config memory graph asking represents_with) new seat address words represents_with.shared can heap_filled elsewhere old_address offset (promised other_seat other_words) refl piece_there offset_below)
      (shared_recut config (standing Asks of_roots config memory graph asking represents_with) new seat address words represents_with.shared can heap_filled elsewhere buffers_without header buffers
      (fewer_outside config (memory Cset) (λ seat. memory (Current seat)) buffers_without (without_fewer (λ seat. memory (Current seat)) seat) represents_with.shared.owned.outside))
