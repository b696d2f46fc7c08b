-- The step of a taking of room that stores a filler over what is left of the old buffer.
use Rattle.std.proofs.Common.{◌^◌, ◌≡◌, ◌≢◌, ℕ, ◌+◌, ◌<◌, ◌≤◌, ◌⊎◌, false, Some, inl, inr, ⊎_elim, refl, sym, ap, ◌∙◌, arith}
use Rattle.std.specs.Prelude.{◌==◌}
use Rattle.std.proofs.lemmas.Bool.{cases_lt, cond-false, ne_eqb, true≢false}
use Rattle.std.proofs.lemmas.Option.{none-some}
use Rattle.heap_words.specs.declared.config.Config.{Config}
use Rattle.heap_words.specs.Encoding.{next_in, filler_header}
use Rattle.heap_words.specs.Words.{Word, Top, Current, Heap, write}
use Rattle.heap_world.specs.World.{World, Block, hand, filler, spare, carved, room_of, is_loose, IsBuffer, AreBuffers, Shared}
use Rattle.heap_world.proofs.FunctionUpdates.{updated_same}
use Rattle.heap_world.proofs.Retiled.{one_at, one_tile, only_one, retiled, retiled_cases, retiled_else}
use Rattle.heap_world.proofs.Recut.{CanRecut, buffers_again}
use Rattle.heap_world.proofs.RecutWorlds.{is_of_room, shared_recut, recut_world, keeps_recut, others_recut}
use Rattle.alloc_buffers.specs.declared.spot.Kind.{Kind}
use Rattle.alloc_buffers.specs.declared.spot.TakeSpot.TheVariants.{Fill, StoreBuffer}
use Rattle.alloc_buffers.specs.Rows.{free_words}
use Rattle.alloc_buffers.specs.Facts.{CanTake}
use Rattle.alloc_buffers.proofs.TakeSteps.{TakeStep, can_at, store_ready, piece_stretch, piece_alone, region_end_small}

-- a store into a word of the heap changes no word of another kind
heap_else : (memory : Word → ℕ) (address value : ℕ) (word : Word) → is_of_room word ≡ false → write memory (Heap address) value word ≡ memory word
heap_else memory address value (Heap word_address) not_room = absurd (true≢false not_room)
heap_else memory address value (Current seat) not_room = refl
heap_else memory address value _ not_room = refl

module _ (config : Config) (world : World) (seat words : ℕ) (kind : Kind) (buffer address room : ℕ) (shared : Shared config world) (can_take : CanTake config world seat words (Fill buffer address room)) where
  abbrev tops : ℕ → ℕ
  tops region = world.memory (Top region)

  -- where the free words of the old buffer begin, and how many they are
  abbrev next : ℕ
  next = next_in buffer

  abbrev free : ℕ
  free = free_words buffer

  -- there are some
  some : 1 ≤ free
  some = let words_left = can_take.facts.some in omega (arith, words_left)

  -- such a piece
  is_filler : (asked_address : ℕ) (piece : Block) → one_at next (filler free) asked_address ≡ Some piece → (asked_address ≡ next) × (filler free ≡ piece)
  is_filler = only_one next (filler free)

  can_recut : CanRecut config tops world.block (one_at next (filler free)) seat next free
  can_recut = record {
    parsable = shared.parsable;
    rooms = shared.owned.rooms;
    stretch = piece_stretch config tops world.block shared.parsable.plotted next (spare seat free) can_take.facts.left some;
    tiling = one_tile next (filler free) some;
    olds = λ old_address piece from before_end has_piece. ap room_of (sym (piece_alone config tops world.block shared.parsable.plotted next (spare seat free) can_take.facts.left some old_address piece from before_end has_piece).1);
    loose = λ old_address piece has_piece. ap is_loose (sym (is_filler old_address piece has_piece).1);
    own = λ filler_address other_seat owned_piece has_piece owned. absurd (none-some other_seat (ap room_of (is_filler filler_address owned_piece has_piece).1 ∙ owned));
    hands = λ filler_address other_seat other_words has_piece. let same_piece = (is_filler filler_address (hand other_seat other_words) has_piece).1 in cc;
    carveds = λ filler_address other_seat other_words has_piece. let same_piece = (is_filler filler_address (carved other_seat other_words) has_piece).1 in cc;
  }

  -- a piece of it is the filler, or an old one elsewhere
  then_cases : (address : ℕ) (piece : Block) → retiled world.block (one_at next (filler free)) next free address ≡ Some piece → (((address < next) ⊎ (next + free ≤ address)) × (world.block address ≡ Some piece)) ⊎ (filler free ≡ piece)
  then_cases address piece has_piece = ⊎_elim (λ old. inl old) (λ new_piece. inr (is_filler address piece new_piece.2).1) (retiled_cases world.block (one_at next (filler free)) next free address piece has_piece)

  -- the carved words lie elsewhere
  carved_away : (address < next) ⊎ (next + free ≤ address)
  carved_away = ⊎_elim
      (λ address_before. inl address_before)
      (λ (from : next ≤ address). ⊎_elim
      (λ (before_end : address < next + free).
      let same_piece = (piece_alone config tops world.block shared.parsable.plotted next (spare seat free) can_take.facts.left some address (carved seat room) from before_end can_take.facts.here).1 in
      absurd cc)
      (λ lies_behind. inr lies_behind)
      (cases_lt address (next + free)))
      (cases_lt address next)

  -- and stay
  carved_stays : retiled world.block (one_at next (filler free)) next free address ≡ Some (carved seat room)
  carved_stays = retiled_else world.block (one_at next (filler free)) next free address carved_away ∙ can_take.facts.here

  -- an old piece elsewhere is no free words of the buffer
  no_spare : (address spare_words : ℕ) → (address < next) ⊎ (next + free ≤ address) → world.block address ≡ Some (spare seat spare_words) → ⊥
  no_spare address spare_words away has_spare =
      let buffer_tells = (shared.owned.buffers.spares address seat spare_words has_spare).0 in
      let same_start : next ≡ address = ap next_in (sym can_take.facts.is) ∙ buffer_tells in
      omega (arith, away, same_start, some)

  -- the word of the filler's header, and what the memory is then
  abbrev header : ℕ
  header = filler_header free

  -- the other words of the heap stay
  heap_stays : (address : ℕ) → (address < next) ⊎ (next + free ≤ address) → write world.memory (Heap next) header (Heap address) ≡ world.memory (Heap address)
  heap_stays address away = cond-false (next == address) header (world.memory (Heap address)) (ne_eqb next address (omega (arith, away, some)))

  -- the seat's buffer has no free words any more, but the seat has carved others
  own_buffer : world.memory (Current seat) ≢ 0 → IsBuffer config tops (retiled world.block (one_at next (filler free)) next free) seat (world.memory (Current seat))
  own_buffer has_buffer =
      let old_buffer = shared.owned.buffers.each seat has_buffer in
      record {
        region = old_buffer.region;
        within = old_buffer.within;
        from_base = old_buffer.from_base;
        some = old_buffer.some;
        ordered = old_buffer.ordered;
        to_top = old_buffer.to_top;
        free = λ words_left. inr (address, room, carved_stays);
      }

  buffers_then : AreBuffers config tops (λ seat. world.memory (Current seat)) (retiled world.block (one_at next (filler free)) next free)
  buffers_then = buffers_again config tops world.block (one_at next (filler free)) seat next free can_recut (λ seat. world.memory (Current seat)) (λ seat. world.memory (Current seat)) (λ other_seat differs. refl) own_buffer
      (λ address spare_words has_spare. ⊎_elim
      (λ old. absurd (no_spare address spare_words old.0 old.1))
      (λ (filler_spare : filler free ≡ spare seat spare_words). absurd cc)
      (then_cases address (spare seat spare_words) has_spare))
      shared.owned.buffers

  -- the words carved can be stored as a buffer
  numbers : (words ≤ room) × (address + room < 2 ^ 32)
  numbers =
      let used = shared.parsable.plotted.in_use address (carved seat room) can_take.facts.here in
      (can_take.facts.long, region_end_small config tops used.region (address + room) used.within (shared.parsable.plotted.tops used.region used.within) used.to_top)

  -- the store of the filler's header
  pub at_fill : TakeStep config world seat words kind (Fill buffer address room)
  at_fill = record {
    world = recut_world config world (one_at next (filler free)) seat next free shared can_recut (write world.memory (Heap next) header) (heap_else world.memory next header) heap_stays;
    memory = refl;
    graph = refl;
    shared = shared_recut config world (one_at next (filler free)) seat next free shared can_recut (λ address. write world.memory (Heap next) header (Heap address)) heap_stays (λ seat. world.memory (Current seat))
        (λ filler_address filler_words has_piece.
        let filler_there = is_filler filler_address (filler filler_words) has_piece in
        let same_address = filler_there.1 in
        let same_words : free ≡ filler_words = cc in
        updated_same (λ address. world.memory (Heap address)) next header filler_address (sym filler_there.0) ∙ ap filler_header same_words)
        buffers_then shared.owned.outside;
    own = (
      can_at config world seat words kind (Fill buffer address room) (StoreBuffer address room)
          (recut_world config world (one_at next (filler free)) seat next free shared can_recut (write world.memory (Heap next) header) (heap_else world.memory next header) heap_stays) can_take refl refl
          (store_ready config seat words address room can_take.seated numbers.0 numbers.1)
          (record { here = inr carved_stays; long = numbers.0 })
          (λ address piece has_piece owned. ⊎_elim
          (λ (old : ((address < next) ⊎ (next + free ≤ address)) × (world.block address ≡ Some piece)). ⊎_elim
          (λ spare_left. absurd (no_spare address spare_left.0 old.0 (old.1 ∙ ap (λ any_piece. Some any_piece) spare_left.1)))
          (λ had_room. had_room.0)
          (can_take.rooms address piece old.1 owned))
          (λ (new_piece : filler free ≡ piece). absurd (none-some seat (ap room_of new_piece ∙ owned)))
          (then_cases address piece has_piece)),
      record { copying = refl; working = refl },
    );
    keeps = keeps_recut config world (one_at next (filler free)) seat next free shared can_recut (write world.memory (Heap next) header) (heap_else world.memory next header) heap_stays;
    others = others_recut config world (one_at next (filler free)) seat next free shared can_recut (write world.memory (Heap next) header) (heap_else world.memory next header) heap_stays (λ other_seat differs. refl);
  }
