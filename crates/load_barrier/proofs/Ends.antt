-- A step of a machine that resolves an address says that it is done exactly where it leads to the end.
use Rattle.std.proofs.Common.{◌≡◌, ℕ, true, false, refl}
use Rattle.std.specs.Prelude.{◌↔◌}
use Rattle.heap_words.specs.declared.config.Config.{Config}
use Rattle.heap_words.specs.declared.access.Took.{Took}
use Rattle.heap_words.specs.declared.access.Took.TheVariants.{Again, Done}
use Rattle.alloc_buffers.specs.declared.spot.Taken.TheVariants.{At, NoRoom}
use Rattle.alloc_buffers.specs.declared.spot.TakeSpot.{TakeSpot}
use Rattle.alloc_buffers.specs.declared.spot.TakeSpot.TheVariants as take
use Rattle.alloc_buffers.specs.Rows as takes
use Rattle.evac_room.specs.declared.spot.RoomSpot.{RoomSpot}
use Rattle.evac_room.specs.declared.spot.RoomSpot.TheVariants as room
use Rattle.evac_room.specs.Rows as rooms
use Rattle.load_barrier.specs.declared.spot.ResolveSpot.{ResolveSpot}
use Rattle.load_barrier.specs.declared.spot.ResolveSpot.TheVariants.{Entering, Taking, Stopping, Resolved}
use Rattle.load_barrier.specs.Rows.{next_at, says_at, is_ended, says_of, says_by, after_enter, after_take, after_stop, take_next}

says_resolved : (next : ResolveSpot) → says_of next ≡ Done → is_ended next ≡ true
says_resolved (Resolved answer) says_done = refl
says_resolved next says_done = absurd (cc (says_done))

resolved_says : (next : ResolveSpot) → is_ended next ≡ true → says_of next ≡ Done
resolved_says (Resolved answer) resolved = refl
resolved_says next resolved = absurd (cc (resolved))

says_is : (next : ResolveSpot) → (says_of next ≡ Done) ↔ (is_ended next ≡ true)
says_is next = (says_resolved next, resolved_says next)

says_by_is : (said : Took) (next : ResolveSpot) → is_ended next ≡ false → (says_by said next ≡ Done) ↔ (is_ended next ≡ true)
says_by_is Again next next_going = ((λ says_done. absurd (cc (says_done))), (λ resolved. absurd (cc (next_going, resolved))))
says_by_is said next next_going = says_is next

enter_goes : (spot : RoomSpot) → is_ended (after_enter spot) ≡ false
enter_goes room.Inside = refl
enter_goes room.Stopped = refl
enter_goes spot = refl

take_goes : (words : ℕ) (spot : TakeSpot) → is_ended (after_take words spot) ≡ false
take_goes words (take.Ended (At copy) end) = refl
take_goes words (take.Ended NoRoom end) = refl
take_goes words spot = refl

stop_goes : (spot : RoomSpot) → is_ended (after_stop spot) ≡ false
stop_goes room.Stopped = refl
stop_goes spot = refl

pub done_is : (config : Config) (address phase : ℕ) (spot : ResolveSpot) (got : ℕ) → (says_at config address phase spot got ≡ Done) ↔ (is_ended (next_at config address phase spot got) ≡ true)
done_is config address phase (Entering spot) got = says_by_is (rooms.says_at spot got) (after_enter (rooms.next_at spot got)) (enter_goes (rooms.next_at spot got))
done_is config address phase (Taking words spot) got =
    says_by_is (takes.says_at spot (take_next config words spot got)) (after_take words (take_next config words spot got)) (take_goes words (take_next config words spot got))
done_is config address phase (Stopping spot) got = says_by_is (rooms.says_at spot got) (after_stop (rooms.next_at spot got)) (stop_goes (rooms.next_at spot got))
done_is config address phase spot got = says_is (next_at config address phase spot got)
