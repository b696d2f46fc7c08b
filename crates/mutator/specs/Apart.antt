-- Which parts of a call are the longer ones, whose steps have a function of their own.
use Rattle.std.specs.Prelude.{Bool, true, false}
use Rattle.mutator.specs.declared.spot.Spot.{Spot}
use Rattle.mutator.specs.declared.spot.Spot.TheVariants.{Resolving, Recording, Making, Pinning, Waiting}

-- whether the next step of a mutator that stands there belongs to one of the longer parts of a call
abbrev pub is_apart : Spot → Bool
is_apart (Resolving address spot next) = true
is_apart (Recording spot address next) = true
is_apart (Making spot) = true
is_apart (Pinning value spot) = true
is_apart (Waiting spot) = true
is_apart _ = false
