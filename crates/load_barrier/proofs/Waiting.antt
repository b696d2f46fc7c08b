-- Where a step of a machine that resolves an address says that it waits, or that another was faster.
use Rattle.std.proofs.Common.{◌≡◌, ◌↔◌, ℕ, refl, sym, ap, ◌∙◌, arith}
use Rattle.std.proofs.lemmas.Bool.Decides.{nat_tests}
use Rattle.heap_words.specs.declared.access.Took.{Took}
use Rattle.heap_words.specs.declared.access.Took.TheVariants.{More, Again, Done}
use Rattle.heap_words.specs.declared.config.Config.{Config}
use Rattle.alloc_buffers.specs.declared.spot.Kind.{Kind}
use Rattle.alloc_buffers.specs.declared.spot.TakeSpot.{TakeSpot}
use Rattle.alloc_buffers.specs.Rows as takes
use Rattle.alloc_buffers.specs.Waits as take_waits
use Rattle.alloc_buffers.proofs.Accesses.{says_where_it_waits}
use Rattle.evac_room.specs.declared.spot.RoomSpot.{RoomSpot}
use Rattle.evac_room.specs.declared.spot.RoomSpot.TheVariants.{Outside, Look, Raise, Inside, Lower, Ask, Mark, Wait, Stopped}
use Rattle.evac_room.specs.Rows as rooms
use Rattle.load_barrier.specs.declared.spot.ResolveSpot.{ResolveSpot}
use Rattle.load_barrier.specs.declared.spot.ResolveSpot.TheVariants.{Resolved}
use Rattle.load_barrier.specs.Rows.{says_of, says_by}
use Rattle.load_barrier.specs.Waits.{RoomWaits}

-- what a step says by where it leads is never that it waits
says_never : (next : ResolveSpot) → says_of next ≡ Again → ⊥
says_never (Resolved answer) says_waits = cc
says_never _ says_waits = cc

pub never_says : (next : ResolveSpot) → (says_of next ≡ Again) ↔ ⊥
never_says next = (says_never next, λ waits. absurd waits)

pub says_again : (said : Took) (next : ResolveSpot) → (says_by said next ≡ Again) ↔ (said ≡ Again)
says_again Again next = (λ says_so. refl, λ says_so. refl)
says_again More next = (λ says_so. absurd (says_never next says_so), λ says_so. cc)
says_again Done next = (λ says_so. absurd (says_never next says_so), λ says_so. cc)

-- a step of the protocol for room waits by the word that it finds
pub room_waits : (spot : RoomSpot) (got : ℕ) → (rooms.says_at spot got ≡ Again) ↔ RoomWaits spot got
room_waits Look got = grind (arith, nat_tests)
room_waits (Raise found) got = grind (arith, nat_tests)
room_waits (Mark found) got = grind (arith, nat_tests)
room_waits Wait got = grind (arith, nat_tests)
room_waits Ask got = (λ says_so. cc, λ waits. absurd waits)
room_waits Outside got = (λ says_so. cc, λ waits. absurd waits)
room_waits Inside got = (λ says_so. cc, λ waits. absurd waits)
room_waits Lower got = (λ says_so. cc, λ waits. absurd waits)
room_waits Stopped got = (λ says_so. cc, λ waits. absurd waits)

pub room_part : (said : Took) (next : ResolveSpot) (spot : RoomSpot) (got : ℕ) → said ≡ rooms.says_at spot got → (says_by said next ≡ Again) ↔ RoomWaits spot got
room_part said next spot got said_is = (
  λ says_so. (room_waits spot got).0 (sym said_is ∙ (says_again said next).0 says_so),
  λ waits. (says_again said next).1 (said_is ∙ (room_waits spot got).1 waits),
)

-- and a step of a taking of room where another machine has taken the region
pub take_part : (config : Config) (words : ℕ) (kind : Kind) (said : Took) (next : ResolveSpot) (spot take_spot : TakeSpot) (got : ℕ) → said ≡ takes.says_at spot take_spot → take_spot ≡ takes.next_at config words kind spot got → (says_by said next ≡ Again) ↔ take_waits.WaitsAt spot got
take_part config words kind said next spot take_spot got said_is row =
    let waits_as = says_where_it_waits config words kind spot got in
    let said_it : said ≡ takes.says_at spot (takes.next_at config words kind spot got) = said_is ∙ ap (takes.says_at spot) row in
    (λ says_so. waits_as.0 (sym said_it ∙ (says_again said next).0 says_so), λ waits. (says_again said next).1 (said_it ∙ waits_as.1 waits))
