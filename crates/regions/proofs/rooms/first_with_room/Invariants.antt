use Rattle.regions.specs.Rooms.{EachHasLess}
use Rattle.regions.proofs.rooms.first_with_room.Given as goal

-- each region so far is in the set or has less room
abbrev pub invariant-loop-region : goal.invariant-loop-region
invariant-loop-region locals = EachHasLess locals.config locals.tops locals.not_in locals.words locals.region
