-- Where a step of a machine that works on a unit of evacuation says that it waits, or that another was faster.
use Rattle.std.proofs.Common.{◌≡◌, ◌↔◌, refl}
use Rattle.heap_words.specs.declared.access.Took.{Took}
use Rattle.heap_words.specs.declared.access.Took.TheVariants.{More, Again, Done}
use Rattle.load_barrier.specs.declared.evac_spot.EvacSpot.{EvacSpot}
use Rattle.load_barrier.specs.declared.evac_spot.EvacSpot.TheVariants.{Ended}
use Rattle.load_barrier.specs.UnitRows.{says_of, says_by}

says_never : (next : EvacSpot) → says_of next ≡ Again → ⊥
says_never (Ended unit) says_waits = cc
says_never _ says_waits = cc

-- what a step says by where it leads is never that it waits
pub never_says : (next : EvacSpot) → (says_of next ≡ Again) ↔ ⊥
never_says next = (says_never next, λ waits. absurd waits)

-- and what it says by what a part said is that where the part said it
pub says_again : (said : Took) (next : EvacSpot) → (says_by said next ≡ Again) ↔ (said ≡ Again)
says_again Again next = (λ says_so. refl, λ says_so. refl)
says_again More next = (λ says_so. absurd (says_never next says_so), λ says_so. cc)
says_again Done next = (λ says_so. absurd (says_never next says_so), λ says_so. cc)
