-- The room of one plot is that of another: rooms and buffers are as they should be still, where tops do not fall below buffers. And a region may
-- be carved still, where another is taken.
use Rattle.std.proofs.Common.{◌≡◌, ◌≢◌, ℕ, ◌<◌, ◌≤◌, Option, Some, inl, inr, ⊎_elim, refl, arith}
use Rattle.std.specs.Prelude.{◌-◌, bit_and}
use Rattle.heap_words.specs.declared.config.Config.{Config}
use Rattle.heap_words.specs.Encoding.{next_in, end_in}
use Rattle.regions.specs.Sets.{all_but}
use Rattle.heap_world.specs.World.{Block, hand, spare, carved, Plot, room_of, AreRooms, AreBuffers, ShareIsOpen}
use Rattle.heap_world.proofs.FreeRegions.{free_before}

-- what is room in one is in the other
pub record SameRoom (block plot : Plot) : Type 0 where
  pub stays : (address seat : ℕ) (piece : Block) → room_of piece ≡ Some seat → block address ≡ Some piece → plot address ≡ Some piece
  pub came : (address seat : ℕ) (piece : Block) → room_of piece ≡ Some seat → plot address ≡ Some piece → block address ≡ Some piece

-- all room is as it should be
pub rooms_stay : (config : Config) (block plot : Plot) → SameRoom block plot → AreRooms config block → AreRooms config plot
rooms_stay config block plot same_room rooms = record {
  seated = λ address seat piece piece_there room. rooms.seated address seat piece (same_room.came address seat piece room piece_there) room;
  hands = λ address seat words piece_there. rooms.hands address seat words (same_room.came address seat (hand seat words) refl piece_there);
  spares = λ address seat words piece_there. rooms.spares address seat words (same_room.came address seat (spare seat words) refl piece_there);
  carveds = λ address seat words piece_there. rooms.carveds address seat words (same_room.came address seat (carved seat words) refl piece_there);
}

-- and buffers are as their words tell
pub buffers_stay : (config : Config) (top new_top current : ℕ → ℕ) (block plot : Plot) → SameRoom block plot → (buffers : AreBuffers config top current block)
    → ((seat : ℕ) (has_buffer : current seat ≢ 0) → top (buffers.each seat has_buffer).region ≤ new_top (buffers.each seat has_buffer).region) → AreBuffers config new_top current plot
buffers_stay config top new_top current block plot same_room buffers rises = record {
  each = λ seat has_buffer.
      let old_buffer = buffers.each seat has_buffer in
      let high = old_buffer.to_top in
      let rise = rises seat has_buffer in
      record {
        region = old_buffer.region;
        within = old_buffer.within;
        from_base = old_buffer.from_base;
        some = old_buffer.some;
        ordered = old_buffer.ordered;
        to_top = omega (arith, high, rise);
        free = λ some_free. ⊎_elim
            (λ free_there. inl (same_room.stays (next_in (current seat)) seat (spare seat (end_in (current seat) - next_in (current seat))) refl free_there))
            (λ is_carved. inr (is_carved.0, is_carved.1, same_room.stays is_carved.0 seat (carved seat is_carved.1) refl is_carved.2))
            (old_buffer.free some_free);
      };
  spares = λ address seat words piece_there. buffers.spares address seat words (same_room.came address seat (spare seat words) refl piece_there);
}

-- a region is taken out of the free ones
pub share_stays : (config : Config) (share free_bits cset region : ℕ) (owner : ℕ → Option ℕ) → region < config.regions → ShareIsOpen config share free_bits cset owner → ShareIsOpen config share (bit_and free_bits (all_but region)) cset owner
share_stays config share free_bits cset region owner within open_one other_region is_open =
    let was_open = open_one other_region is_open in
    record {
      within = was_open.within;
      in_use = λ inside. was_open.in_use (free_before config free_bits region within other_region was_open.within inside);
      nobodys = was_open.nobodys;
      outside = was_open.outside;
    }
