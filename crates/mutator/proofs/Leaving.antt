-- A call ends exactly where the mutator leaves, with its reply.
use Rattle.std.proofs.Common.{◌≡◌, ◌↔◌, ℕ, Some, None, refl, ap}
use Rattle.heap_words.specs.declared.config.Config.{Config}
use Rattle.heap_words.specs.declared.place.Place.TheVariants.{LV}
use Rattle.heap_words.specs.declared.access.Took.TheVariants as took
use Rattle.shen_graph.specs.declared.order.Order.{Order}
use Rattle.shen_graph.specs.declared.order.Order.TheVariants.{End}
use Rattle.shen_graph.specs.declared.command.Reply.{Reply}
use Rattle.handshake.specs.declared.enter_spot.EnterSpot.{EnterSpot}
use Rattle.handshake.specs.declared.enter_spot.EnterSpot.TheVariants as enter
use Rattle.handshake.specs.EnterRows.{place_at as enter_place}
use Rattle.alloc_buffers.specs.declared.spot.TakeSpot.{TakeSpot}
use Rattle.alloc_buffers.specs.Rows as takes
use Rattle.alloc_buffers.proofs.Accesses.{stands_elsewhere}
use Rattle.satb_barrier.specs.declared.spot.RememberSpot.{RememberSpot}
use Rattle.satb_barrier.specs.declared.spot.RememberSpot.TheVariants as record_spot
use Rattle.satb_barrier.specs.Rows as satb
use Rattle.evac_room.specs.declared.spot.RoomSpot.{RoomSpot}
use Rattle.evac_room.specs.declared.spot.RoomSpot.TheVariants as room
use Rattle.evac_room.specs.Rows as rooms
use Rattle.load_barrier.specs.declared.copying.CopySpot.{CopySpot}
use Rattle.load_barrier.specs.declared.copying.CopySpot.TheVariants as copy
use Rattle.load_barrier.specs.declared.spot.ResolveSpot.{ResolveSpot}
use Rattle.load_barrier.specs.declared.spot.ResolveSpot.TheVariants as resolve
use Rattle.load_barrier.specs.Rows as resolves
use Rattle.mutator.specs.declared.spot.Kept.{Kept}
use Rattle.mutator.specs.declared.spot.Spot.{Spot}
use Rattle.mutator.specs.declared.spot.Spot.TheVariants.{Rest, Ended, Entering, Loading, OnField, Resolving, Recording, OnNumber, Showing, Making, Pinning, Waiting, Leave}
use Rattle.mutator.specs.declared.loads.LoadSpot.{LoadSpot}
use Rattle.mutator.specs.declared.loads.LoadSpot.TheVariants as load
use Rattle.mutator.specs.declared.fields.FieldSpot.{FieldSpot}
use Rattle.mutator.specs.declared.fields.FieldSpot.TheVariants as field
use Rattle.mutator.specs.declared.numbers.NumberSpot.{NumberSpot}
use Rattle.mutator.specs.declared.numbers.NumberSpot.TheVariants as number
use Rattle.mutator.specs.declared.shows.ShowSpot.{ShowSpot}
use Rattle.mutator.specs.declared.shows.ShowSpot.TheVariants as show
use Rattle.mutator.specs.declared.makes.MakeSpot.{MakeSpot}
use Rattle.mutator.specs.declared.makes.MakeSpot.TheVariants as make
use Rattle.mutator.specs.declared.pins.PinSpot.{PinSpot}
use Rattle.mutator.specs.declared.pins.PinSpot.TheVariants as pin
use Rattle.mutator.specs.declared.waits.WaitSpot.{WaitSpot}
use Rattle.mutator.specs.declared.waits.WaitSpot.TheVariants as wait
use Rattle.mutator.specs.Rows.{Mutating, load_place, field_place, number_place, show_place, make_place, pin_place, first_place, place_at, answer_at, given_at, next_at, reply_at}
use Rattle.mutator.specs.WaitRows.{wait_place}
use Rattle.mutator.proofs.Done.{done_gives}

-- no part of a call stands there
enters_elsewhere : (spot : EnterSpot) → enter_place spot ≡ LV → ⊥
enters_elsewhere enter.Raise leaving_place = cc
enters_elsewhere enter.Look leaving_place = cc
enters_elsewhere enter.Lower leaving_place = cc
enters_elsewhere enter.Await leaving_place = cc
enters_elsewhere enter.Inside leaving_place = cc

takes_elsewhere : (spot : TakeSpot) → takes.place_at spot ≡ LV → ⊥
takes_elsewhere spot leaving_place = stands_elsewhere spot LV refl leaving_place

records_elsewhere : (spot : RememberSpot) → satb.place_at spot ≡ LV → ⊥
records_elsewhere record_spot.LoadCount leaving_place = cc
records_elsewhere (record_spot.LoadEntry entry) leaving_place = cc
records_elsewhere (record_spot.MarkEntry entry found) leaving_place = cc
records_elsewhere record_spot.ClearCount leaving_place = cc
records_elsewhere (record_spot.StoreEntry entry) leaving_place = cc
records_elsewhere (record_spot.StoreCount entry) leaving_place = cc
records_elsewhere record_spot.Recorded leaving_place = cc

asks_elsewhere : (spot : RoomSpot) → rooms.place_at spot ≡ LV → ⊥
asks_elsewhere room.Outside leaving_place = cc
asks_elsewhere room.Look leaving_place = cc
asks_elsewhere (room.Raise found) leaving_place = cc
asks_elsewhere room.Inside leaving_place = cc
asks_elsewhere room.Lower leaving_place = cc
asks_elsewhere room.Ask leaving_place = cc
asks_elsewhere (room.Mark found) leaving_place = cc
asks_elsewhere room.Wait leaving_place = cc
asks_elsewhere room.Stopped leaving_place = cc

copies_elsewhere : (spot : CopySpot) → resolves.copy_place spot ≡ LV → ⊥
copies_elsewhere (copy.LoadWord words index) leaving_place = cc
copies_elsewhere (copy.StoreWord words index found) leaving_place = cc
copies_elsewhere copy.StoreHeader leaving_place = cc
copies_elsewhere copy.Publish leaving_place = cc
copies_elsewhere (copy.GiveBack answer) leaving_place = cc

resolves_elsewhere : (spot : ResolveSpot) → resolves.place_at spot ≡ LV → ⊥
resolves_elsewhere (resolve.Entering spot) leaving_place = asks_elsewhere spot leaving_place
resolves_elsewhere (resolve.Taking words spot) leaving_place = takes_elsewhere spot leaving_place
resolves_elsewhere (resolve.Copying copy end spot) leaving_place = copies_elsewhere spot leaving_place
resolves_elsewhere (resolve.Stopping spot) leaving_place = asks_elsewhere spot leaving_place
resolves_elsewhere _ leaving_place = cc

loads_elsewhere : (spot : LoadSpot) → load_place spot ≡ LV → ⊥
loads_elsewhere load.First leaving_place = cc
loads_elsewhere (load.Second first) leaving_place = cc
loads_elsewhere (load.Third first second) leaving_place = cc
loads_elsewhere (load.Shape object second third) leaving_place = cc

is_on_field : (spot : FieldSpot) → field_place spot ≡ LV → ⊥
is_on_field field.Load leaving_place = cc
is_on_field (field.LoadExpected expect value) leaving_place = cc
is_on_field (field.LoadOld value) leaving_place = cc
is_on_field (field.Store value) leaving_place = cc
is_on_field (field.Swap value) leaving_place = cc
is_on_field (field.Exchange found expect value) leaving_place = cc

is_on_number : (spot : NumberSpot) → number_place spot ≡ LV → ⊥
is_on_number number.Load leaving_place = cc
is_on_number number.Store leaving_place = cc

shows_elsewhere : (spot : ShowSpot) → show_place spot ≡ LV → ⊥
shows_elsewhere show.LoadName leaving_place = cc
shows_elsewhere (show.StoreRoot reply) leaving_place = cc

makes_elsewhere : (spot : MakeSpot) → make_place spot ≡ LV → ⊥
makes_elsewhere (make.Taking take_spot) leaving_place = takes_elsewhere take_spot leaving_place
makes_elsewhere _ leaving_place = cc

pins_elsewhere : (spot : PinSpot) → pin_place spot ≡ LV → ⊥
pins_elsewhere pin.Look leaving_place = cc
pins_elsewhere pin.Store leaving_place = cc

waits_elsewhere : (spot : WaitSpot) → wait_place spot ≡ LV → ⊥
waits_elsewhere wait.StoreRequest leaving_place = cc
waits_elsewhere wait.AskRoom leaving_place = cc
waits_elsewhere wait.StepOut leaving_place = cc
waits_elsewhere wait.Poll leaving_place = cc
waits_elsewhere wait.LoadAnswer leaving_place = cc
waits_elsewhere (wait.StoreRoot address) leaving_place = cc
waits_elsewhere (wait.ClearAnswer reply) leaving_place = cc

begins_elsewhere : (order : Order) → first_place order ≡ LV → ⊥
begins_elsewhere End leaving_place = cc
begins_elsewhere _ leaving_place = cc

-- so a mutator that stands there leaves with a reply
leaves : (order : Order) (spot : Spot) → place_at order spot ≡ LV → (reply : Reply) × (spot ≡ Leave reply)
leaves order (Leave reply) leaving_place = (reply, refl)
leaves order Rest leaving_place = absurd (begins_elsewhere order leaving_place)
leaves order (Ended reply) leaving_place = absurd (begins_elsewhere order leaving_place)
leaves order (Entering spot next) leaving_place = absurd (enters_elsewhere spot leaving_place)
leaves order (Loading spot) leaving_place = absurd (loads_elsewhere spot leaving_place)
leaves order (OnField object spot) leaving_place = absurd (is_on_field spot leaving_place)
leaves order (Resolving address spot next) leaving_place = absurd (resolves_elsewhere spot leaving_place)
leaves order (Recording spot address next) leaving_place = absurd (records_elsewhere spot leaving_place)
leaves order (OnNumber object refs spot) leaving_place = absurd (is_on_number spot leaving_place)
leaves order (Showing value spot) leaving_place = absurd (shows_elsewhere spot leaving_place)
leaves order (Making spot) leaving_place = absurd (makes_elsewhere spot leaving_place)
leaves order (Pinning value spot) leaving_place = absurd (pins_elsewhere spot leaving_place)
leaves order (Waiting spot) leaving_place = absurd (waits_elsewhere spot leaving_place)
leaves order _ leaving_place = absurd (cc)

-- as one that gives a reply does
gives : (spot : Spot) (reply : Reply) → given_at spot ≡ Some reply → spot ≡ Leave reply
gives (Leave reply) other_reply reply_given = cc
gives _ reply reply_given = absurd (cc)

done_leaves : (config : Config) (kept : Kept) (spot : Spot) (got : ℕ) → answer_at config kept spot got ≡ took.Done → (reply : Reply) × (spot ≡ Leave reply)
done_leaves config kept spot got said_done = let reply_given = done_gives config kept spot got said_done in (reply_given.0, gives spot reply_given.0 reply_given.1)

-- a call ends exactly there
pub ends : (config : Config) (kept : Kept) (order : Order) (spot : Spot) (got : ℕ) → (answer_at config kept spot got ≡ took.Done) ↔ (place_at order spot ≡ LV)
ends config kept order spot got = (
  λ call_ends. ap (place_at order) (done_leaves config kept spot got call_ends).1,
  λ call_ends. ap (λ any_spot. answer_at config kept any_spot got) (leaves order spot call_ends).1,
)

-- and then there is a reply
pub replies : (config : Config) (mutator : Mutating) (order : Order) (got : ℕ) (spot : Spot) → answer_at config mutator.kept spot got ≡ took.Done → reply_at (next_at config mutator order got spot).spot ≡ None → ⊥
replies config mutator order got spot said_done no_reply =
    let done_spot = done_leaves config mutator.kept spot got said_done in
    let reply_given : reply_at (next_at config mutator order got spot).spot ≡ Some done_spot.0 = ap (λ any_spot. reply_at (next_at config mutator order got any_spot).spot) done_spot.1 in
    cc
