-- Plots without room, and plots whose only room is the free words of buffers.
use Rattle.std.proofs.Common.{◌≡◌, ℕ, Some, refl}
use Rattle.heap_words.specs.declared.config.Config.{Config}
use Rattle.heap_world.specs.World.{Block, thing, moved, spent, hand, promised, dead, filler, spare, carved, Plot, room_of, HasNoRoom, AreRooms}

-- where nobody has room in hand or carved words, all room is free words of a buffer
pub only_spares : (block : Plot) → ((address seat words : ℕ) → block address ≡ Some (hand seat words) → ⊥) → ((address seat words : ℕ) → block address ≡ Some (carved seat words) → ⊥)
    → (address seat : ℕ) (piece : Block) → block address ≡ Some piece → room_of piece ≡ Some seat → (words : ℕ) × (piece ≡ spare seat words)
only_spares block no_hand uncarved address seat (thing name refs nums) piece_there room_is = cc
only_spares block no_hand uncarved address seat (moved name refs nums target) piece_there room_is = cc
only_spares block no_hand uncarved address seat (spent words target) piece_there room_is = cc
only_spares block no_hand uncarved address seat (hand piece_seat words) piece_there room_is = absurd (no_hand address piece_seat words piece_there)
only_spares block no_hand uncarved address seat (promised piece_seat words) piece_there room_is = cc
only_spares block no_hand uncarved address seat (dead words) piece_there room_is = cc
only_spares block no_hand uncarved address seat (filler words) piece_there room_is = cc
only_spares block no_hand uncarved address seat (spare piece_seat words) piece_there room_is = (words, cc)
only_spares block no_hand uncarved address seat (carved piece_seat words) piece_there room_is = absurd (uncarved address piece_seat words piece_there)

-- where there is no room, all room is as it should be
pub rooms_none : (config : Config) (block : Plot) → HasNoRoom block → AreRooms config block
rooms_none config block no_rooms = record {
  seated = λ address seat piece piece_there room. absurd (no_rooms address seat piece piece_there room);
  hands = λ address seat words piece_there. absurd (no_rooms address seat (hand seat words) piece_there refl);
  spares = λ address seat words piece_there. absurd (no_rooms address seat (spare seat words) piece_there refl);
  carveds = λ address seat words piece_there. absurd (no_rooms address seat (carved seat words) piece_there refl);
}
