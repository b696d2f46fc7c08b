-- Room in hand is given back to the seat's buffer: with the free words behind it, it becomes free words again. It need not end at a top.
use Rattle.std.proofs.Common.{◌^◌, ◌≡◌, ◌≢◌, ℕ, ◌+◌, ◌-◌, ◌<◌, ◌≤◌, ◌⊎◌, false, Some, None, inl, ⊎_elim, refl, sym, ap, ◌∙◌, subst, arith}
use Rattle.std.proofs.lemmas.Bool.{cases_eq, cases_lt, cases_order}
use Rattle.std.proofs.lemmas.Option.{same_Some}
use Rattle.heap_words.specs.declared.config.Config.{Config}
use Rattle.heap_words.specs.Encoding.{next_in, end_in, buffer_word}
use Rattle.heap_words.specs.Words.{Cset, Top, Current, Heap, write}
use Rattle.heap_words.specs.Touch.{touch, stores}
use Rattle.regions.specs.Place.{base_of, IsOf}
use Rattle.regions.proofs.PlaceLemmas.{regions_tile}
use Rattle.heap_world.specs.World.{World, Block, Plot, hand, filler, spare, carved, room_of, is_loose, IsInUse, IsBuffer, AreBuffers, Shared}
use Rattle.heap_world.specs.Part.{PartStep}
use Rattle.heap_world.proofs.Pieces.{behind}
use Rattle.heap_world.proofs.FunctionUpdates.{updated_there, updated_else}
use Rattle.heap_world.proofs.Retiled.{IsStretch, one_at, one_tile, only_one, retiled, retiled_cases, new_there}
use Rattle.heap_world.proofs.Recut.{CanRecut, buffers_again, buffers_outside, same_but_loose}
use Rattle.heap_world.proofs.RecutWorlds.{shared_recut, recut_world, keeps_recut, others_recut}
use Rattle.alloc_buffers.specs.Facts.{IsSpare, HasTakenRoom}
use Rattle.alloc_buffers.proofs.TakeSteps.{spare_uncarved, region_end_small}
use Rattle.alloc_buffers.proofs.Storing.{buffer_else}

-- What a seat counts on that gives its room back: the room is in its hand, as it has taken it, and besides it has but the free words of its
-- buffer.
pub record CanGiveBack (config : Config) (world : World) (seat words copy end : ℕ) : Type 0 where
  pub taken : HasTakenRoom config world seat words copy end
  pub rooms : (address : ℕ) (piece : Block) → world.block address ≡ Some piece → room_of piece ≡ Some seat → IsSpare seat piece ⊎ ((address ≡ copy) × (piece ≡ hand seat words))

module _ (config : Config) (world : World) (seat words copy end : ℕ) (shared : Shared config world) (can_give : CanGiveBack config world seat words copy end) where
  abbrev tops : ℕ → ℕ
  tops region = world.memory (Top region)

  -- how many words are free then
  abbrev free : ℕ
  free = end - copy

  -- the room has three words at least
  some : 3 ≤ words
  some = shared.owned.rooms.hands copy seat words can_give.taken.here

  -- where the room lies
  used : IsInUse config tops copy words
  used = shared.parsable.plotted.in_use copy (hand seat words) can_give.taken.here

  -- it ends at or below the region's top
  most : tops used.region ≤ config.region_words
  most = shared.parsable.plotted.tops used.region used.within

  of_region : IsOf config used.region copy
  of_region = let base = used.from_base in let end_below = used.to_top in let top = most in let enough_words = some in record { from = base; before = omega (arith, end_below, top, enough_words) }

  -- so does the buffer, by the address of its end
  end_below : end ≤ base_of config used.region + config.region_words
  end_below = subst (λ one_region. end ≤ base_of config one_region + config.region_words) (regions_tile.of_no_other config used.region copy of_region) can_give.taken.within

  -- the seat has a buffer
  has_buffer : world.memory (Current seat) ≢ 0
  has_buffer no_buffer = let end_is : end_in (world.memory (Current seat)) ≡ 0 = ap end_in no_buffer in let end_told = can_give.taken.end_is in let order = can_give.taken.ordered in let enough_words = some in omega (arith, end_is, end_told, order, enough_words)

  -- the free words behind the room, if there are any
  left : copy + words < end → world.block (copy + words) ≡ Some (spare seat (end - (copy + words)))
  left words_behind =
      let next_known = can_give.taken.next in
      let end_is = can_give.taken.end_is in
      let spare_there : world.block (next_in (world.memory (Current seat))) ≡ Some (spare seat (end_in (world.memory (Current seat)) - next_in (world.memory (Current seat)))) = ⊎_elim
      (λ has_spare. has_spare)
      (λ has_carved. absurd (⊎_elim
      (λ spare_is. spare_uncarved seat has_carved.1 spare_is)
      (λ (hand_is : (has_carved.0 ≡ copy) × (carved seat has_carved.1 ≡ hand seat words)). let same_words = hand_is.1 in cc)
      (can_give.rooms has_carved.0 (carved seat has_carved.1) has_carved.2 refl)))
      ((shared.owned.buffers.each seat has_buffer).free (omega (arith, next_known, end_is, words_behind)))
      in
      ap world.block (sym next_known) ∙ spare_there ∙ ap (λ words. Some (spare seat words)) (let same_count : end_in (world.memory (Current seat)) - next_in (world.memory (Current seat)) ≡ end - (copy + words) = omega (arith, next_known, end_is) in same_count)

  -- they lie in the region of the room
  same_region : (words_behind : copy + words < end) → end ≤ base_of config used.region + tops used.region
  same_region words_behind =
      let behind_it = shared.parsable.plotted.in_use (copy + words) (spare seat (end - (copy + words))) (left words_behind) in
      let base = used.from_base in
      let base_below = behind_it.from_base in
      let top_above = behind_it.to_top in
      let top = shared.parsable.plotted.tops behind_it.region behind_it.within in
      let end_within = end_below in
      let enough_words = some in
      ⊎_elim
      (λ (one_region : behind_it.region ≡ used.region). subst (λ some_region. end ≤ base_of config some_region + tops some_region) one_region (omega (arith, top_above, words_behind)))
      (λ regions_differ. absurd (⊎_elim
      (λ (region_before : behind_it.region < used.region). let region_apart = behind config behind_it.region used.region region_before in omega (arith, region_apart, top_above, top, base, words_behind))
      (λ (greater : used.region < behind_it.region). let region_apart = behind config used.region behind_it.region greater in omega (arith, region_apart, base_below, end_within, words_behind))
      regions_differ))
      (cases_order behind_it.region used.region)

  -- the buffer ends at or below the top
  end_in_use : end ≤ base_of config used.region + tops used.region
  end_in_use = ⊎_elim
      (λ (words_behind : copy + words < end). same_region words_behind)
      (λ (none_behind : end ≤ copy + words). let end_below = used.to_top in omega (arith, none_behind, end_below))
      (cases_lt (copy + words) end)

  -- the room and the free words behind it are a stretch
  stretch : IsStretch config tops world.block copy free
  stretch =
      let order = can_give.taken.ordered in
      let enough_words = some in
      let end_below = end_in_use in
      ⊎_elim
      (λ (words_behind : copy + words < end). record {
        region = used.region;
        within = used.within;
        from_base = used.from_base;
        to_top = omega (arith, order, end_below);
        some = omega (arith, order, enough_words);
        first = hand seat words;
        begins = can_give.taken.here;
        last_at = copy + words;
        last_from = omega arith;
        last = spare seat (end - (copy + words));
        ends = left words_behind;
        ends_there = omega (arith, words_behind);
      })
      (λ (none_behind : end ≤ copy + words). record {
        region = used.region;
        within = used.within;
        from_base = used.from_base;
        to_top = omega (arith, order, end_below);
        some = omega (arith, order, enough_words);
        first = hand seat words;
        begins = can_give.taken.here;
        last_at = copy;
        last_from = omega arith;
        last = hand seat words;
        ends = can_give.taken.here;
        ends_there = omega (arith, none_behind, order);
      })
      (cases_lt (copy + words) end)

  -- all of it is the seat's room
  stretch_room : (address : ℕ) (piece : Block) → copy ≤ address → address < copy + free → world.block address ≡ Some piece → room_of piece ≡ Some seat
  stretch_room address piece at_most below_end has_piece =
      let order = can_give.taken.ordered in
      ⊎_elim
      (λ (is_first : address ≡ copy). ap room_of (same_Some piece (hand seat words) (sym has_piece ∙ ap world.block is_first ∙ can_give.taken.here)))
      (λ (addresses_differ : address ≢ copy).
      let pieces_apart = shared.parsable.plotted.apart copy address (hand seat words) piece can_give.taken.here has_piece (omega (arith, at_most, addresses_differ)) in
      let words_behind : copy + words < end = omega (arith, pieces_apart, below_end, order) in
      ⊎_elim
      (λ (second_place : address ≡ copy + words). ap room_of (same_Some piece (spare seat (end - (copy + words))) (sym has_piece ∙ ap world.block second_place ∙ left words_behind)))
      (λ (later : address ≢ copy + words).
      let farther = shared.parsable.plotted.apart (copy + words) address (spare seat (end - (copy + words))) piece (left words_behind) has_piece (omega (arith, pieces_apart, later)) in
      absurd (omega (arith, farther, below_end, words_behind)))
      (cases_eq address (copy + words)))
      (cases_eq address copy)

  -- the piece that there is then
  is_free : (asked_address : ℕ) (piece : Block) → one_at copy (spare seat free) asked_address ≡ Some piece → (asked_address ≡ copy) × (spare seat free ≡ piece)
  is_free = only_one copy (spare seat free)

  pub can_recut : CanRecut config tops world.block (one_at copy (spare seat free)) seat copy free
  can_recut = record {
    parsable = shared.parsable;
    rooms = shared.owned.rooms;
    stretch = stretch;
    tiling = one_tile copy (spare seat free) (let order = can_give.taken.ordered in let enough_words = some in omega (arith, order, enough_words));
    olds = stretch_room;
    loose = λ old_address piece has_piece. ap is_loose (sym (is_free old_address piece has_piece).1);
    own = λ free_address other_seat owned_piece has_piece owned. same_Some other_seat seat (sym owned ∙ ap room_of (sym (is_free free_address owned_piece has_piece).1));
    hands = λ free_address other_seat other_words has_piece. let same_piece = (is_free free_address (hand other_seat other_words) has_piece).1 in cc;
    carveds = λ free_address other_seat other_words has_piece. let same_piece = (is_free free_address (carved other_seat other_words) has_piece).1 in cc;
  }

  -- the word of the buffer then
  abbrev word : ℕ
  word = buffer_word copy end

  end_small : end < 2 ^ 32
  end_small = region_end_small config tops used.region end used.within most end_in_use

  next_then : next_in word ≡ copy
  next_then = let small_end = end_small in let order = can_give.taken.ordered in omega (arith, small_end, order)

  end_then : end_in word ≡ end
  end_then = let small_end = end_small in let order = can_give.taken.ordered in omega (arith, small_end, order)

  -- the plot then
  abbrev after : Plot
  after = retiled world.block (one_at copy (spare seat free)) copy free

  free_there : after copy ≡ Some (spare seat free)
  free_there = new_there config tops world.block (one_at copy (spare seat free)) copy free shared.parsable.plotted stretch can_recut.tiling copy (spare seat free) (updated_there (λ place. None) copy (Some (spare seat free)))

  own_buffer : IsBuffer config tops after seat word
  own_buffer =
      let base = used.from_base in
      let order = can_give.taken.ordered in
      let enough_words = some in
      let end_below = end_in_use in
      record {
        region = used.region;
        within = used.within;
        from_base = omega (arith, base, next_then);
        some = omega (arith, base, end_then, order, enough_words);
        ordered = omega (arith, next_then, end_then, order);
        to_top = omega (arith, end_below, end_then);
        free = λ words_left.
            let left_is : end_in word - next_in word ≡ free = omega (arith, next_then, end_then) in
            inl (ap after next_then ∙ free_there ∙ ap (λ words. Some (spare seat words)) (sym left_is));
      }

  -- an old piece elsewhere is no room of the seat
  none_else : (address : ℕ) (piece : Block) → (address < copy) ⊎ (copy + free ≤ address) → world.block address ≡ Some piece → room_of piece ≡ Some seat → ⊥
  none_else address given_piece away has_piece room_found = ⊎_elim
      (λ spare_is.
      let piece : world.block address ≡ Some (spare seat spare_is.0) = has_piece ∙ ap (λ any_piece. Some any_piece) spare_is.1 in
      let buffer_tells = shared.owned.buffers.spares address seat spare_is.0 piece in
      let size = shared.owned.rooms.spares address seat spare_is.0 piece in
      let next_known = can_give.taken.next in
      let end_is = can_give.taken.end_is in
      let order = can_give.taken.ordered in
      let from = buffer_tells.0 in
      let same_end = buffer_tells.1 in
      omega (arith, away, from, same_end, next_known, end_is, order, size))
      (λ hand_is. let same_words = hand_is.0 in let order = can_give.taken.ordered in let enough_words = some in omega (arith, away, same_words, order, enough_words))
      (can_give.rooms address given_piece has_piece room_found)

  buffers_then : AreBuffers config tops (λ any_seat. write world.memory (Current seat) word (Current any_seat)) after
  buffers_then = buffers_again config tops world.block (one_at copy (spare seat free)) seat copy free can_recut (λ seat. world.memory (Current seat)) (λ any_seat. write world.memory (Current seat) word (Current any_seat))
      (λ another_seat differs. updated_else (λ seat. world.memory (Current seat)) seat word another_seat (λ same_number. differs (sym same_number)))
      (λ piece_stands. subst (IsBuffer config tops after seat) (sym (updated_there (λ seat. world.memory (Current seat)) seat word)) own_buffer)
      (λ spare_address spare_words has_piece.
      let new_word : write world.memory (Current seat) word (Current seat) ≡ word = updated_there (λ seat. world.memory (Current seat)) seat word in
      let word_tells : (next_in word ≡ spare_address) × (end_in word ≡ spare_address + spare_words) = ⊎_elim
      (λ away. absurd (none_else spare_address (spare seat spare_words) away.0 away.1 refl))
      (λ inside.
      let piece_stands = is_free spare_address (spare seat spare_words) inside.2 in
      let same_number = piece_stands.1 in
      let count : free ≡ spare_words = cc in
      let same_start = piece_stands.0 in
      let order = can_give.taken.ordered in
      (omega (arith, next_then, same_start), omega (arith, end_then, same_start, count, order)))
      (retiled_cases world.block (one_at copy (spare seat free)) copy free spare_address (spare seat spare_words) has_piece)
      in
      subst (λ word_now. (next_in word_now ≡ spare_address) × (end_in word_now ≡ spare_address + spare_words)) (sym new_word) word_tells)
      shared.owned.buffers

  -- the world then
  abbrev pub back_world : World
  back_world = recut_world config world (one_at copy (spare seat free)) seat copy free shared can_recut (write world.memory (Current seat) word) (buffer_else world.memory seat word) (λ x away. refl)

  -- all room of the seat is free words of its buffer then
  pub all_spare : (address : ℕ) (piece : Block) → back_world.block address ≡ Some piece → room_of piece ≡ Some seat → IsSpare seat piece
  all_spare address piece has_piece room_found = ⊎_elim
      (λ away. absurd (none_else address piece away.0 away.1 room_found))
      (λ inside. (free, sym (is_free address piece inside.2).1))
      (retiled_cases world.block (one_at copy (spare seat free)) copy free address piece has_piece)

  -- what is not loose stays
  pub fixed_stays : (address : ℕ) (piece : Block) → is_loose piece ≡ false → world.block address ≡ Some piece → back_world.block address ≡ Some piece
  fixed_stays address piece fixed has_piece = (same_but_loose config tops world.block (one_at copy (spare seat free)) seat copy free can_recut).stays address piece fixed has_piece

  -- the store of the buffer gives the room back
  pub back_step : (facts : World → Type 0) → facts back_world → PartStep config world seat (touch (Current seat) (stores (buffer_word copy end))) facts
  back_step facts own_facts = record {
    world = back_world;
    memory = refl;
    graph = refl;
    shared = shared_recut config world (one_at copy (spare seat free)) seat copy free shared can_recut (λ address. world.memory (Heap address)) (λ place away. refl) (λ any_seat. write world.memory (Current seat) word (Current any_seat))
        (λ place filler_words has_piece. let same_number = (is_free place (filler filler_words) has_piece).1 in absurd cc)
        buffers_then
        (buffers_outside config tops world.block (one_at copy (spare seat free)) seat copy free can_recut (world.memory Cset) (λ seat. world.memory (Current seat)) (λ any_seat. write world.memory (Current seat) word (Current any_seat))
        (λ another_seat differs. updated_else (λ seat. world.memory (Current seat)) seat word another_seat (λ same_number. differs (sym same_number)))
        (λ stands. ap end_in (updated_there (λ seat. world.memory (Current seat)) seat word) ∙ (let order = can_give.taken.ordered in omega (arith, end_then, order)))
        shared.evacuated.aside.no_rooms shared.owned.outside);
    own = own_facts;
    keeps = keeps_recut config world (one_at copy (spare seat free)) seat copy free shared can_recut (write world.memory (Current seat) word) (buffer_else world.memory seat word) (λ place away. refl);
    others = others_recut config world (one_at copy (spare seat free)) seat copy free shared can_recut (write world.memory (Current seat) word) (buffer_else world.memory seat word) (λ place away. refl)
        (λ other_seat differs. updated_else (λ seat. world.memory (Current seat)) seat word other_seat (λ same_number. differs (sym same_number)));
  }
