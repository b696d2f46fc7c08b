-- The last step of a taking of room: the store of the seat's buffer, without the words that are taken.
use Rattle.std.proofs.Common.{◌≡◌, ◌≢◌, ℕ, ◌+◌, ◌-◌, ◌<◌, ◌≤◌, ◌⊎◌, false, Some, None, inl, inr, ⊎_elim, refl, sym, ap, ◌∙◌, subst, arith}
use Rattle.std.proofs.lemmas.Bool.{cases_eq, and_parts, leb-true, ltb-true, true≢false}
use Rattle.std.proofs.lemmas.Option.{same_Some}
use Rattle.heap_words.specs.declared.config.Config.{Config}
use Rattle.heap_words.specs.Encoding.{next_in, end_in, buffer_word}
use Rattle.heap_words.specs.Words.{Word, Cset, Top, Current, Heap, write}
use Rattle.regions.specs.Place.{base_of, IsOf}
use Rattle.regions.proofs.PlaceLemmas.{regions_tile}
use Rattle.heap_world.specs.World.{World, Block, Plot, hand, filler, spare, carved, words_of, room_of, is_loose, IsBuffer, AreBuffers, Shared}
use Rattle.heap_world.proofs.FunctionUpdates.{updated_there, updated_else}
use Rattle.heap_world.proofs.Pieces.{piece_cases}
use Rattle.heap_world.proofs.Retiled.{IsTiling, IsStretch, one_at, two_at, one_tile, two_tiles, only_one, retiled, retiled_cases, new_there}
use Rattle.heap_world.proofs.Recut.{CanRecut, buffers_again, buffers_outside}
use Rattle.heap_world.proofs.RecutWorlds.{is_of_room, shared_recut, recut_world, keeps_recut, others_recut}
use Rattle.alloc_buffers.specs.declared.spot.Kind.{Kind}
use Rattle.alloc_buffers.specs.declared.spot.Taken.TheVariants.{At}
use Rattle.alloc_buffers.specs.declared.spot.TakeSpot.TheVariants.{StoreBuffer, Ended}
use Rattle.alloc_buffers.specs.Facts.{CanTake}
use Rattle.alloc_buffers.proofs.TakeSteps.{TakeStep, can_at, piece_stretch, piece_alone}

-- a store into the word of a buffer changes no word of another kind
pub buffer_else : (memory : Word → ℕ) (seat value : ℕ) (word : Word) → is_of_room word ≡ false → write memory (Current seat) value word ≡ memory word
buffer_else memory seat value (Heap address) not_room = refl
buffer_else memory seat value (Current other_seat) not_room = absurd (true≢false not_room)
buffer_else memory seat value _ not_room = refl

-- So many words from an address on are cut into words in a seat's hand and free words of its buffer, if any are left.
record IsCut (new : Plot) (seat address words room : ℕ) : Type 0 where
  tiling : IsTiling new address room
  pieces : (x : ℕ) (piece : Block) → new x ≡ Some piece → ((x ≡ address) × (hand seat words ≡ piece)) ⊎ ((x ≡ address + words) × (spare seat (room - words) ≡ piece))
  here : new address ≡ Some (hand seat words)
  rest : words < room → new (address + words) ≡ Some (spare seat (room - words))

-- words can be cut so
cut : (seat address words room : ℕ) → 1 ≤ words → words ≤ room → (new : Plot) × IsCut new seat address words room
cut seat address words room some_words words_fit = ⊎_elim
    (λ (whole_room : words ≡ room). (
      one_at address (hand seat words),
      record {
        tiling = subst (IsTiling (one_at address (hand seat words)) address) whole_room (one_tile address (hand seat words) some_words);
        pieces = λ asked_address any_piece has_piece. inl (only_one address (hand seat words) asked_address any_piece has_piece);
        here = updated_there (λ any_piece. None) address (Some (hand seat words));
        rest = λ words_less. absurd (omega (arith, words_less, whole_room));
      },
    ))
    (λ (part_left : words ≢ room).
    let some_left : 1 ≤ room - words = omega (arith, part_left, words_fit) in (
      two_at address (hand seat words) (spare seat (room - words)),
      record {
        tiling = subst (IsTiling (two_at address (hand seat words) (spare seat (room - words))) address) (omega (arith, words_fit)) (two_tiles address (hand seat words) (spare seat (room - words)) some_words some_left);
        pieces = λ asked_address piece has_piece. ⊎_elim
            (λ (rest_piece : (asked_address ≡ address + words) × (spare seat (room - words) ≡ piece)). inr rest_piece)
            (λ (first_piece : (asked_address ≢ address + words) × (one_at address (hand seat words) asked_address ≡ Some piece)). inl (only_one address (hand seat words) asked_address piece first_piece.1))
            (piece_cases (one_at address (hand seat words)) (address + words) (spare seat (room - words)) asked_address piece has_piece);
        here = updated_else (one_at address (hand seat words)) (address + words) (Some (spare seat (room - words))) address (omega (arith, some_words)) ∙ updated_there (λ any_piece. None) address (Some (hand seat words));
        rest = λ words_less. updated_there (one_at address (hand seat words)) (address + words) (Some (spare seat (room - words)));
      },
    ))
    (cases_eq words room)

module _ (config : Config) (world : World) (seat words : ℕ) (kind : Kind) (address room : ℕ) (shared : Shared config world) (can_take : CanTake config world seat words (StoreBuffer address room)) (old : Block) (old_there : world.block address ≡ Some old)
    (of_seat : room_of old ≡ Some seat) (so_long : words_of old ≡ room) (new : Plot) (is_cut : IsCut new seat address words room) where
  abbrev tops : ℕ → ℕ
  tops region = world.memory (Top region)

  -- as many words as are wanted, and addresses are small
  numbers : (words ≤ room) × (address + room < 4294967296)
  numbers = let words_fit = and_parts _ _ (and_parts _ _ can_take.ready).1 in (leb-true words room words_fit.0, ltb-true (address + room) 4294967296 words_fit.1)

  -- there are some
  some : 1 ≤ words_of old
  some = let least_words = can_take.least in let words_fit = numbers.0 in omega (arith, least_words, words_fit, so_long)

  -- no other piece begins there
  alone : (asked_address : ℕ) (piece : Block) → address ≤ asked_address → asked_address < address + room → world.block asked_address ≡ Some piece → (asked_address ≡ address) × (old ≡ piece)
  alone asked_address piece at_most below_end has_piece = piece_alone config tops world.block shared.parsable.plotted address old old_there some asked_address piece at_most (omega (arith, below_end, so_long)) has_piece

  can_recut : CanRecut config tops world.block new seat address room
  can_recut = record {
    parsable = shared.parsable;
    rooms = shared.owned.rooms;
    stretch = subst (IsStretch config tops world.block address) so_long (piece_stretch config tops world.block shared.parsable.plotted address old old_there some);
    tiling = is_cut.tiling;
    olds = λ asked_address piece from below_end has_piece. ap room_of (sym (alone asked_address piece from below_end has_piece).1) ∙ of_seat;
    loose = λ asked_address piece has_piece. ⊎_elim (λ first_piece. ap is_loose (sym first_piece.1)) (λ second_piece. ap is_loose (sym second_piece.1)) (is_cut.pieces asked_address piece has_piece);
    own = λ place other_seat any_piece has_piece room_here. same_Some other_seat seat (sym room_here ∙ ⊎_elim (λ first_piece. ap room_of (sym first_piece.1)) (λ second_piece. ap room_of (sym second_piece.1)) (is_cut.pieces place any_piece has_piece));
    hands = λ place other_seat piece_words has_piece. ⊎_elim
        (λ (first_piece : (place ≡ address) × (hand seat words ≡ hand other_seat piece_words)). let same_piece = first_piece.1 in let same_words : words ≡ piece_words = cc in (let least_words = can_take.least in omega (arith, least_words, same_words)))
        (λ (second_piece : (place ≡ address + words) × (spare seat (room - words) ≡ hand other_seat piece_words)). let same_piece = second_piece.1 in absurd cc)
        (is_cut.pieces place (hand other_seat piece_words) has_piece);
    carveds = λ place other_seat piece_words has_piece. ⊎_elim
        (λ (first_piece : (place ≡ address) × (hand seat words ≡ carved other_seat piece_words)). let same_piece = first_piece.1 in absurd cc)
        (λ (second_piece : (place ≡ address + words) × (spare seat (room - words) ≡ carved other_seat piece_words)). let same_piece = second_piece.1 in absurd cc)
        (is_cut.pieces place (carved other_seat piece_words) has_piece);
  }

  -- the word of the buffer then
  abbrev word : ℕ
  word = buffer_word (address + words) (address + room)

  -- it tells where the free words begin and end
  next_is : next_in word ≡ address + words
  next_is = let words_fit = numbers in omega (arith, words_fit)

  end_is : end_in word ≡ address + room
  end_is = let words_fit = numbers in omega (arith, words_fit)

  -- the plot then
  abbrev after : Plot
  after = retiled world.block new address room

  -- room of the seat elsewhere there is none
  none_else : (asked_address : ℕ) (piece : Block) → (asked_address < address) ⊎ (address + room ≤ asked_address) → world.block asked_address ≡ Some piece → room_of piece ≡ Some seat → ⊥
  none_else asked_address piece away has_piece room_found = let room_known = can_take.rooms asked_address piece has_piece room_found in let least_words = can_take.least in let words_fit = numbers.0 in omega (arith, away, room_known, least_words, words_fit)

  -- the free words that are left
  rest_there : words < room → after (address + words) ≡ Some (spare seat (room - words))
  rest_there words_less = new_there config tops world.block new address room shared.parsable.plotted can_recut.stretch is_cut.tiling (address + words) (spare seat (room - words)) (is_cut.rest words_less)

  own_buffer : IsBuffer config tops after seat word
  own_buffer =
      let stretch = can_recut.stretch in
      let base = stretch.from_base in
      let end_below = stretch.to_top in
      let least_words = can_take.least in
      let words_fit = numbers.0 in
      record {
        region = stretch.region;
        within = stretch.within;
        from_base = omega (arith, base, next_is);
        some = omega (arith, base, end_is, least_words, words_fit);
        ordered = omega (arith, next_is, end_is, words_fit);
        to_top = omega (arith, end_below, end_is);
        free = λ words_left.
            let same_left : end_in word - next_in word ≡ room - words = omega (arith, next_is, end_is, words_fit) in
            inl (ap after next_is ∙ rest_there (omega (arith, words_left, next_is, end_is)) ∙ ap (λ words. Some (spare seat words)) (sym same_left));
      }

  buffers_then : AreBuffers config tops (λ other_seat. write world.memory (Current seat) word (Current other_seat)) after
  buffers_then = buffers_again config tops world.block new seat address room can_recut (λ seat. world.memory (Current seat)) (λ other_seat. write world.memory (Current seat) word (Current other_seat))
      (λ asked_seat differs. updated_else (λ seat. world.memory (Current seat)) seat word asked_seat (λ same_number. differs (sym same_number)))
      (λ there_is. subst (IsBuffer config tops after seat) (sym (updated_there (λ seat. world.memory (Current seat)) seat word)) own_buffer)
      (λ hand_address piece_words has_piece.
      let word_now : write world.memory (Current seat) word (Current seat) ≡ word = updated_there (λ seat. world.memory (Current seat)) seat word in
      let buffer_ends : (next_in word ≡ hand_address) × (end_in word ≡ hand_address + piece_words) = ⊎_elim
      (λ away. absurd (none_else hand_address (spare seat piece_words) away.0 away.1 refl))
      (λ piece_inside. ⊎_elim
      (λ (first_piece : (hand_address ≡ address) × (hand seat words ≡ spare seat piece_words)). let same_number = first_piece.1 in absurd cc)
      (λ (second_piece : (hand_address ≡ address + words) × (spare seat (room - words) ≡ spare seat piece_words)).
      let same_number = second_piece.1 in
      let same_left : room - words ≡ piece_words = cc in
      let same_address = second_piece.0 in
      let words_fit = numbers.0 in
      (omega (arith, next_is, same_address), omega (arith, end_is, same_address, same_left, words_fit)))
      (is_cut.pieces hand_address (spare seat piece_words) piece_inside.2))
      (retiled_cases world.block new address room hand_address (spare seat piece_words) has_piece)
      in
      subst (λ seat_word. (next_in seat_word ≡ hand_address) × (end_in seat_word ≡ hand_address + piece_words)) (sym word_now) buffer_ends)
      shared.owned.buffers

  -- the world after the step
  abbrev stored_world : World
  stored_world = recut_world config world new seat address room shared can_recut (write world.memory (Current seat) word) (buffer_else world.memory seat word) (λ x away. refl)

  -- the address is of the region of the stretch
  of_region : IsOf config can_recut.stretch.region address
  of_region =
      let stretch = can_recut.stretch in
      let base = stretch.from_base in
      let end_below = stretch.to_top in
      let top_most = shared.parsable.plotted.tops stretch.region stretch.within in
      let least_words = can_take.least in
      let words_fit = numbers.0 in
      record { from = base; before = omega (arith, end_below, top_most, least_words, words_fit) }

  -- what the seat counts on then: the room is in hand
  has_taken : CanTake config stored_world seat words (Ended (At address) (address + room))
  has_taken =
      let word_now : write world.memory (Current seat) word (Current seat) ≡ word = updated_there (λ seat. world.memory (Current seat)) seat word in
      can_at config world seat words kind (StoreBuffer address room) (Ended (At address) (address + room)) stored_world can_take refl refl refl
      (record {
        here = new_there config tops world.block new address room shared.parsable.plotted can_recut.stretch is_cut.tiling address (hand seat words) is_cut.here;
        next = ap next_in word_now ∙ next_is;
        end_is = ap end_in word_now ∙ end_is;
        ordered = (let words_fit = numbers.0 in omega (arith, words_fit));
        within =
            let stretch = can_recut.stretch in
            let end_below = stretch.to_top in
            let top_most = shared.parsable.plotted.tops stretch.region stretch.within in
            subst (λ some_region. address + room ≤ base_of config some_region + config.region_words) (sym (regions_tile.of_no_other config stretch.region address of_region)) (omega (arith, end_below, top_most));
      })
      (λ asked_address piece has_piece room_here. ⊎_elim
      (λ away. absurd (none_else asked_address piece away.0 away.1 room_here))
      (λ inside. ⊎_elim
      (λ first_piece. inr (first_piece.0, sym first_piece.1))
      (λ second_piece. inl (room - words, sym second_piece.1))
      (is_cut.pieces asked_address piece inside.2))
      (retiled_cases world.block new address room asked_address piece has_piece))

  -- the store of the buffer puts the words into hand
  stored : TakeStep config world seat words kind (StoreBuffer address room)
  stored = record {
    world = stored_world;
    memory = refl;
    graph = refl;
    shared = shared_recut config world new seat address room shared can_recut (λ address. world.memory (Heap address)) (λ place away. refl) (λ other_seat. write world.memory (Current seat) word (Current other_seat))
        (λ place filler_words has_filler. ⊎_elim
        (λ (first_piece : (place ≡ address) × (hand seat words ≡ filler filler_words)). let same_number = first_piece.1 in absurd cc)
        (λ (second_piece : (place ≡ address + words) × (spare seat (room - words) ≡ filler filler_words)). let same_number = second_piece.1 in absurd cc)
        (is_cut.pieces place (filler filler_words) has_filler))
        buffers_then
        (buffers_outside config tops world.block new seat address room can_recut (world.memory Cset) (λ seat. world.memory (Current seat)) (λ other_seat. write world.memory (Current seat) word (Current other_seat))
        (λ asked_seat differs. updated_else (λ seat. world.memory (Current seat)) seat word asked_seat (λ same_number. differs (sym same_number)))
        (λ some_buffer. ap end_in (updated_there (λ seat. world.memory (Current seat)) seat word) ∙ end_is)
        shared.evacuated.aside.no_rooms shared.owned.outside);
    own = (has_taken, record { copying = refl; working = refl });
    keeps = keeps_recut config world new seat address room shared can_recut (write world.memory (Current seat) word) (buffer_else world.memory seat word) (λ place away. refl);
    others = others_recut config world new seat address room shared can_recut (write world.memory (Current seat) word) (buffer_else world.memory seat word) (λ place away. refl)
        (λ some_seat differs. updated_else (λ seat. world.memory (Current seat)) seat word some_seat (λ same_number. differs (sym same_number)));
  }

-- the step that stores the buffer, out of its free words or out of those that are carved
pub at_store_buffer : (config : Config) (world : World) (seat words : ℕ) (kind : Kind) (address room : ℕ) → Shared config world → CanTake config world seat words (StoreBuffer address room) → TakeStep config world seat words kind (StoreBuffer address room)
at_store_buffer config world seat words kind address room shared can_take =
    let some_words : 1 ≤ words = (let least_words = can_take.least in omega (arith, least_words)) in
    let cut_made = cut seat address words room some_words can_take.facts.long in
    ⊎_elim
    (λ spare_there. stored config world seat words kind address room shared can_take (spare seat room) spare_there refl refl cut_made.0 cut_made.1)
    (λ new. stored config world seat words kind address room shared can_take (carved seat room) new refl refl cut_made.0 cut_made.1)
    can_take.facts.here
