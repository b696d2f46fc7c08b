-- A stretch of one seat's room is cut anew, into other room of the seat or words that only fill. All that is not loose stays, and so does
-- the room of others; room stays young and outside the set, for the stretch lies in one region and its first word does.
use Rattle.std.proofs.Common.{◌≡◌, ◌≢◌, ℕ, ◌+◌, ◌-◌, ◌<◌, ◌≤◌, ◌⊎◌, true, Some, inl, inr, ⊎_elim, refl, sym, ap, ◌∙◌, subst, arith}
use Rattle.std.proofs.lemmas.Bool.{cases_eq, cases_lt, true≢false}
use Rattle.std.proofs.lemmas.Option.{same_Some}
use Rattle.heap_words.specs.declared.config.Config.{Config}
use Rattle.heap_words.specs.Ranges.{seat_count}
use Rattle.heap_words.specs.Encoding.{next_in, end_in}
use Rattle.regions.specs.Place.{region_with, IsOf}
use Rattle.regions.specs.Sets.{IsIn}
use Rattle.regions.proofs.PlaceLemmas.{regions_tile}
use Rattle.heap_world.specs.World.{Block, thing, moved, spent, hand, promised, dead, filler, spare, carved, Plot, room_of, is_loose, AreRooms, IsBuffer, AreBuffers, AreBuffersOutside, IsParsable, AreYoungRooms, AreRoomsOutside}
use Rattle.heap_world.proofs.Loose.{SameButLoose}
use Rattle.heap_world.proofs.Retiled.{IsTiling, IsStretch, retiled, retiled_cases, retiled_else, plotted_again, filled_again, young_behind}

-- room is loose
pub room_loose : (piece : Block) (seat : ℕ) → room_of piece ≡ Some seat → is_loose piece ≡ true
room_loose (thing name refs nums) seat seat_room = cc
room_loose (moved name refs nums copy) seat seat_room = cc
room_loose (spent words copy) seat seat_room = cc
room_loose (hand holder words) seat seat_room = refl
room_loose (promised holder words) seat seat_room = cc
room_loose (dead words) seat seat_room = cc
room_loose (filler words) seat seat_room = cc
room_loose (spare holder words) seat seat_room = refl
room_loose (carved holder words) seat seat_room = refl

-- The stretch is one seat's room, and the new pieces are its room or fillers, with the least sizes.
pub record CanRecut (config : Config) (top : ℕ → ℕ) (block new : Plot) (seat address words : ℕ) : Type 0 where
  pub parsable : IsParsable config top block
  pub rooms : AreRooms config block
  pub stretch : IsStretch config top block address words
  pub tiling : IsTiling new address words
  pub olds : (other_address : ℕ) (piece : Block) → address ≤ other_address → other_address < address + words → block other_address ≡ Some piece → room_of piece ≡ Some seat
  pub loose : (other_address : ℕ) (piece : Block) → new other_address ≡ Some piece → is_loose piece ≡ true
  pub own : (other_address other : ℕ) (piece : Block) → new other_address ≡ Some piece → room_of piece ≡ Some other → other ≡ seat
  pub hands : (other_address other more : ℕ) → new other_address ≡ Some (hand other more) → 3 ≤ more
  pub carveds : (other_address other more : ℕ) → new other_address ≡ Some (carved other more) → 3 ≤ more

module _ (config : Config) (top : ℕ → ℕ) (block new : Plot) (seat address words : ℕ) (recut : CanRecut config top block new seat address words) where
  -- the plot with the new pieces
  abbrev after : Plot
  after = retiled block new address words

  -- the first old piece is the seat's room
  first_room : room_of recut.stretch.first ≡ Some seat
  first_room = let some_words = recut.stretch.some in recut.olds address recut.stretch.first (omega arith) (omega (arith, some_words)) recut.stretch.begins

  -- pieces that are not loose are the same
  pub same_but_loose : SameButLoose block after
  same_but_loose = record {
    stays = λ place piece fixed has_piece. ⊎_elim
        (λ (place_before : place < address). retiled_else block new address words place (inl place_before) ∙ has_piece)
        (λ (from : address ≤ place). ⊎_elim
        (λ (below_end : place < address + words). absurd (true≢false (sym (room_loose piece seat (recut.olds place piece from below_end has_piece)) ∙ fixed)))
        (λ (place_beyond : address + words ≤ place). retiled_else block new address words place (inr place_beyond) ∙ has_piece)
        (cases_lt place (address + words)))
        (cases_lt place address);
    came = λ asked_address piece fixed has_piece. ⊎_elim
        (λ (old : ((asked_address < address) ⊎ (address + words ≤ asked_address)) × (block asked_address ≡ Some piece)). old.1)
        (λ (in_stretch : (address ≤ asked_address) × (asked_address < address + words) × (new asked_address ≡ Some piece)). absurd (true≢false (sym (recut.loose asked_address piece in_stretch.2) ∙ fixed)))
        (retiled_cases block new address words asked_address piece has_piece);
  }

  -- an address of the stretch is of its region
  of_region : (asked_address : ℕ) → address ≤ asked_address → asked_address < address + words → IsOf config recut.stretch.region asked_address
  of_region asked_address at_most below_end =
      let base = recut.stretch.from_base in
      let stretch_below_top = recut.stretch.to_top in
      let top_most = recut.parsable.plotted.tops recut.stretch.region recut.stretch.within in
      record { from = omega (arith, base, at_most); before = omega (arith, stretch_below_top, top_most, below_end) }

  -- and so of the region of its first word
  same_region : (asked_address : ℕ) → address ≤ asked_address → asked_address < address + words → region_with config asked_address ≡ region_with config address
  same_region asked_address at_most below_end =
      let some_words = recut.stretch.some in
      regions_tile.of_no_other config recut.stretch.region asked_address (of_region asked_address at_most below_end) ∙ sym (regions_tile.of_no_other config recut.stretch.region address (of_region address (omega arith) (omega (arith, some_words))))

  -- room stays young
  pub rooms_young : (start : ℕ → ℕ) → AreYoungRooms config start block → AreYoungRooms config start after
  rooms_young start young asked_address holder piece has_piece room = ⊎_elim
      (λ (old : ((asked_address < address) ⊎ (address + words ≤ asked_address)) × (block asked_address ≡ Some piece)). young asked_address holder piece old.1 room)
      (λ (in_stretch : (address ≤ asked_address) × (asked_address < address + words) × (new asked_address ≡ Some piece)).
      let some_words = recut.stretch.some in
      young_behind config start recut.stretch.region address asked_address (of_region address (omega arith) (omega (arith, some_words))) (of_region asked_address in_stretch.0 in_stretch.1) in_stretch.0 (young address seat recut.stretch.first recut.stretch.begins first_room))
      (retiled_cases block new address words asked_address piece has_piece)

  -- and outside the set
  pub rooms_outside : (cset : ℕ) → AreRoomsOutside config cset block → AreRoomsOutside config cset after
  rooms_outside cset outside asked_address holder piece has_piece room = ⊎_elim
      (λ (old : ((asked_address < address) ⊎ (address + words ≤ asked_address)) × (block asked_address ≡ Some piece)). outside asked_address holder piece old.1 room)
      (λ (in_stretch : (address ≤ asked_address) × (asked_address < address + words) × (new asked_address ≡ Some piece)).
      λ inside. outside address seat recut.stretch.first recut.stretch.begins first_room (subst (λ any_region. IsIn cset any_region) (same_region asked_address in_stretch.0 in_stretch.1) inside))
      (retiled_cases block new address words asked_address piece has_piece)

  -- room of another seat was there
  pub others_room : (asked_address other_seat : ℕ) (piece : Block) → other_seat ≢ seat → after asked_address ≡ Some piece → room_of piece ≡ Some other_seat → block asked_address ≡ Some piece
  others_room asked_address other_seat piece differ has_piece room_is = ⊎_elim
      (λ (old : ((asked_address < address) ⊎ (address + words ≤ asked_address)) × (block asked_address ≡ Some piece)). old.1)
      (λ (in_stretch : (address ≤ asked_address) × (asked_address < address + words) × (new asked_address ≡ Some piece)). absurd (differ (recut.own asked_address other_seat piece in_stretch.2 room_is)))
      (retiled_cases block new address words asked_address piece has_piece)

  -- and stays
  pub others_stay : (asked_address other_seat : ℕ) (piece : Block) → other_seat ≢ seat → block asked_address ≡ Some piece → room_of piece ≡ Some other_seat → after asked_address ≡ Some piece
  others_stay asked_address other_seat piece differ has_piece room_is = ⊎_elim
      (λ (address_before : asked_address < address). retiled_else block new address words asked_address (inl address_before) ∙ has_piece)
      (λ (from : address ≤ asked_address). ⊎_elim
      (λ (below_end : asked_address < address + words). absurd (differ (same_Some other_seat seat (sym room_is ∙ recut.olds asked_address piece from below_end has_piece))))
      (λ (address_beyond : address + words ≤ asked_address). retiled_else block new address words asked_address (inr address_beyond) ∙ has_piece)
      (cases_lt asked_address (address + words)))
      (cases_lt asked_address address)

  -- the heap is parsable
  pub parsable_again : IsParsable config top after
  parsable_again = record {
    plotted = plotted_again config top block new address words recut.parsable.plotted recut.stretch recut.tiling;
    filled = filled_again config top block new address words recut.parsable.plotted recut.stretch recut.tiling recut.parsable.filled;
    promises = λ place holder piece_words has_piece. recut.parsable.promises place holder piece_words (same_but_loose.came place (promised holder piece_words) refl has_piece);
    deads = λ place piece_words has_piece. recut.parsable.deads place piece_words (same_but_loose.came place (dead piece_words) refl has_piece);
    fillers = λ asked_address piece_words has_piece. ⊎_elim
        (λ (old : ((asked_address < address) ⊎ (address + words ≤ asked_address)) × (block asked_address ≡ Some (filler piece_words))). recut.parsable.fillers asked_address piece_words old.1)
        (λ (in_stretch : (address ≤ asked_address) × (asked_address < address + words) × (new asked_address ≡ Some (filler piece_words))). recut.tiling.some asked_address (filler piece_words) in_stretch.2)
        (retiled_cases block new address words asked_address (filler piece_words) has_piece);
    spents = λ place piece_words copy has_piece. recut.parsable.spents place piece_words copy (same_but_loose.came place (spent piece_words copy) refl has_piece);
  }

  -- room is as it should be
  pub rooms_again : AreRooms config after
  rooms_again = record {
    seated = λ asked_address holder piece has_piece room_is. ⊎_elim
        (λ (old : ((asked_address < address) ⊎ (address + words ≤ asked_address)) × (block asked_address ≡ Some piece)). recut.rooms.seated asked_address holder piece old.1 room_is)
        (λ (in_stretch : (address ≤ asked_address) × (asked_address < address + words) × (new asked_address ≡ Some piece)).
        subst (λ any_seat. any_seat < seat_count config.mutators config.helpers) (sym (recut.own asked_address holder piece in_stretch.2 room_is)) (recut.rooms.seated address seat recut.stretch.first recut.stretch.begins first_room))
        (retiled_cases block new address words asked_address piece has_piece);
    hands = λ asked_address holder piece_words has_piece. ⊎_elim
        (λ (old : ((asked_address < address) ⊎ (address + words ≤ asked_address)) × (block asked_address ≡ Some (hand holder piece_words))). recut.rooms.hands asked_address holder piece_words old.1)
        (λ (in_stretch : (address ≤ asked_address) × (asked_address < address + words) × (new asked_address ≡ Some (hand holder piece_words))). recut.hands asked_address holder piece_words in_stretch.2)
        (retiled_cases block new address words asked_address (hand holder piece_words) has_piece);
    spares = λ asked_address holder piece_words has_piece. ⊎_elim
        (λ (old : ((asked_address < address) ⊎ (address + words ≤ asked_address)) × (block asked_address ≡ Some (spare holder piece_words))). recut.rooms.spares asked_address holder piece_words old.1)
        (λ (in_stretch : (address ≤ asked_address) × (asked_address < address + words) × (new asked_address ≡ Some (spare holder piece_words))). recut.tiling.some asked_address (spare holder piece_words) in_stretch.2)
        (retiled_cases block new address words asked_address (spare holder piece_words) has_piece);
    carveds = λ asked_address holder piece_words has_piece. ⊎_elim
        (λ (old : ((asked_address < address) ⊎ (address + words ≤ asked_address)) × (block asked_address ≡ Some (carved holder piece_words))). recut.rooms.carveds asked_address holder piece_words old.1)
        (λ (in_stretch : (address ≤ asked_address) × (asked_address < address + words) × (new asked_address ≡ Some (carved holder piece_words))). recut.carveds asked_address holder piece_words in_stretch.2)
        (retiled_cases block new address words asked_address (carved holder piece_words) has_piece);
  }

  -- the buffer of another seat stays
  other_buffer : (other_seat word : ℕ) → other_seat ≢ seat → IsBuffer config top block other_seat word → IsBuffer config top after other_seat word
  other_buffer other_seat word differ old_buffer = record {
    region = old_buffer.region;
    within = old_buffer.within;
    from_base = old_buffer.from_base;
    some = old_buffer.some;
    ordered = old_buffer.ordered;
    to_top = old_buffer.to_top;
    free = λ words_left. ⊎_elim
        (λ spare_there. inl (others_stay (next_in word) other_seat (spare other_seat (end_in word - next_in word)) differ spare_there refl))
        (λ carved_there. inr (carved_there.0, carved_there.1, others_stay carved_there.0 other_seat (carved other_seat carved_there.1) differ carved_there.2 refl))
        (old_buffer.free words_left);
  }

  -- Each seat has its buffer still, where the seat's own has another word, and that one's free words are the pieces that there are now.
  pub buffers_again : (current then_current : ℕ → ℕ) → ((other_seat : ℕ) → other_seat ≢ seat → then_current other_seat ≡ current other_seat) → (then_current seat ≢ 0 → IsBuffer config top after seat (then_current seat))
      → ((asked_address piece_words : ℕ) → after asked_address ≡ Some (spare seat piece_words) → (next_in (then_current seat) ≡ asked_address) × (end_in (then_current seat) ≡ asked_address + piece_words))
      → AreBuffers config top current block → AreBuffers config top then_current after
  buffers_again current then_current others_same own_buffer spares buffers = record {
    each = λ other_seat some_buffer. ⊎_elim
        (λ (same_seat : other_seat ≡ seat). subst (λ seat. IsBuffer config top after seat (then_current seat)) (sym same_seat) (own_buffer (λ no_buffer. some_buffer (ap then_current same_seat ∙ no_buffer))))
        (λ (differ : other_seat ≢ seat).
        let stands_so = others_same other_seat differ in
        subst (IsBuffer config top after other_seat) (sym stands_so) (other_buffer other_seat (current other_seat) differ (buffers.each other_seat (λ no_buffer. some_buffer (stands_so ∙ no_buffer)))))
        (cases_eq other_seat seat);
    spares = λ asked_address other_seat piece_words stands_so. ⊎_elim
        (λ (same_seat : other_seat ≡ seat). subst (λ any_seat. (next_in (then_current any_seat) ≡ asked_address) × (end_in (then_current any_seat) ≡ asked_address + piece_words)) (sym same_seat) (spares asked_address piece_words (subst (λ seat. after asked_address ≡ Some (spare seat piece_words)) same_seat stands_so)))
        (λ (differ : other_seat ≢ seat).
        subst (λ word. (next_in word ≡ asked_address) × (end_in word ≡ asked_address + piece_words)) (sym (others_same other_seat differ)) (buffers.spares asked_address other_seat piece_words (others_room asked_address other_seat (spare other_seat piece_words) differ stands_so refl)))
        (cases_eq other_seat seat);
  }

  -- No buffer lies in the collection set, where the seat's own has another word that ends with the stretch.
  pub buffers_outside : (cset : ℕ) (current then_current : ℕ → ℕ) → ((other_seat : ℕ) → other_seat ≢ seat → then_current other_seat ≡ current other_seat) → (then_current seat ≢ 0 → end_in (then_current seat) ≡ address + words)
      → AreRoomsOutside config cset block → AreBuffersOutside config cset current → AreBuffersOutside config cset then_current
  buffers_outside cset current then_current others_same own_end rooms_are_outside buffers other_seat some_buffer inside = ⊎_elim
      (λ (same_seat : other_seat ≡ seat).
      let some_words = recut.stretch.some in
      let end_reached = own_end (λ no_buffer. some_buffer (ap then_current same_seat ∙ no_buffer)) in
      let same_last : end_in (then_current other_seat) - 1 ≡ address + words - 1 = ap (λ any_seat. end_in (then_current any_seat) - 1) same_seat ∙ ap (λ any_end. any_end - 1) end_reached in
      rooms_are_outside address seat recut.stretch.first recut.stretch.begins first_room
      (subst (λ any_region. IsIn cset any_region) (ap (region_with config) same_last ∙ same_region (address + words - 1) (omega (arith, some_words)) (omega (arith, some_words))) inside))
      (λ (differ : other_seat ≢ seat).
      let same_current = others_same other_seat differ in
      buffers other_seat (λ no_buffer. some_buffer (same_current ∙ no_buffer)) (subst (λ word. IsIn cset (region_with config (end_in word - 1))) same_current inside))
      (cases_eq other_seat seat)
