use Rattle.std.proofs.Common.{◌≡◌, drop}
use Rattle.find_play.specs.Claims.{with_places, places_in}
use Rattle.find_play.proofs.claims_hold.places_of.Given as goal

abbrev pub invariant-loop-place : goal.invariant-loop-place
invariant-loop-place locals = with_places locals.graph.rows (drop locals.place-index locals.places) locals.found.items ≡ places_in locals.graph.rows locals.places
