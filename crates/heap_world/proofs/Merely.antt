-- What follows where the words of a heap stand for a graph that is not told.
use Rattle.std.proofs.Common.{ℕ, ◌≤◌, List, ◌++◌}
use Rattle.std.proofs.Math.Logic.{∥∥₁_elim}
use Rattle.std.proofs.Math.Bridge.{le_prop}
use Rattle.heap_world.specs.Walk.{IsWalkable}
use Rattle.heap_world.specs.Shows.{StandForSome}
use Rattle.heap_world.proofs.Standing.{sound}

IsWalkable-prop : (first_address : ℕ) (heap roots : List ℕ) → IsProp (IsWalkable first_address heap roots)
IsWalkable-prop first_address heap roots one_walkable other_walkable = λ i. record {
  roots_named = λ address is_there not_null. let first_named = one_walkable.roots_named address is_there not_null in let second_named = other_walkable.roots_named address is_there not_null in ((le_prop first_named.0.0 second_named.0.0 i, le_prop first_named.0.1 second_named.0.1 i), (le_prop first_named.1.0 second_named.1.0 i, le_prop first_named.1.1 second_named.1.1 i));
  fields_named = λ holder address led is_there not_null. let first_named = one_walkable.fields_named holder address led is_there not_null in let second_named = other_walkable.fields_named holder address led is_there not_null in ((le_prop first_named.0.0 second_named.0.0 i, le_prop first_named.0.1 second_named.0.1 i), (le_prop first_named.1.0 second_named.1.0 i, le_prop first_named.1.1 second_named.1.1 i));
  above = λ any_address led. le_prop (one_walkable.above any_address led) (other_walkable.above any_address led) i;
  below = λ any_address led. le_prop (one_walkable.below any_address led) (other_walkable.below any_address led) i;
  apart = λ any_address other_address led_a led_b before. le_prop (one_walkable.apart any_address other_address led_a led_b before) (other_walkable.apart any_address other_address led_a led_b before) i;
}

pub sound_some : (first_address : ℕ) (heap roots pins : List ℕ) → 1 ≤ first_address → StandForSome first_address heap roots pins → IsWalkable first_address heap (roots ++ pins)
sound_some first_address heap roots pins positive stand =
    ∥∥₁_elim stand (IsWalkable-prop first_address heap (roots ++ pins)) (λ standing. sound first_address heap roots pins standing.0 standing.1.0 positive standing.1.1)
