use Rattle.std.proofs.Common.{◌≡◌, ◌+◌, ◌<◌, ◌≤◌, ℕ, if◌then◌else◌, length, slice_index}
use Rattle.regions.specs.Places.{is_shut}
use Rattle.regions.proofs.places.clear_open.Given as goal

abbrev pub invariant-loop-region : goal.invariant-loop-region
invariant-loop-region locals = record {
  length : length locals.tops ≡ length locals.fn.tops;
  done : (region : ℕ) → region < locals.region → slice_index locals.tops region ≡ (if is_shut locals.shut (region + 1) then slice_index locals.fn.tops region else 0);
  later : (region : ℕ) → locals.region ≤ region → slice_index locals.tops region ≡ slice_index locals.fn.tops region;
}
