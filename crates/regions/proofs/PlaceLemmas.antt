-- The regions share out the addresses of the heap.
use Rattle.std.proofs.Common.{◌≡◌, ℕ, ◌+◌, ◌-◌, ◌*◌, ◌/◌, ◌<◌, ◌≤◌, ap, arith}
use Rattle.std.proofs.Math.Nat.{div-mul-le_self, lt-div-mul-add, div-eq_of_lt-le}
use Rattle.std.proofs.lemmas.Nat.{div_below, le-div}
use Rattle.heap_words.specs.declared.config.Config.{Config}
use Rattle.heap_words.specs.Words.{Heap, IsWord}
use Rattle.regions.specs.Place.{region_with, IsOf, RegionsTile}

-- an address is of the region that one computes from it
of_one : (config : Config) (address : ℕ) → IsWord config (Heap address) → IsOf config (region_with config address) address
of_one config address heap =
    let words = config.region_words in
    let some_words : 0 < words = omega (arith, config.in_range.least_words) in
    let at_least : 1 ≤ address / words = le-div 1 address words some_words (omega (arith, heap.0)) in
    let same_row : (address / words - 1 + 1) * words ≡ address / words * words = ap (λ (number : ℕ). number * words) (omega arith) in
    record { from = omega (arith, same_row, div-mul-le_self address words); before = omega (arith, same_row, lt-div-mul-add {a = address} {b = words} some_words) }

pub regions_tile : RegionsTile
regions_tile = record {
  of_one = of_one;
  in_range = λ config address heap.
      let some_words : 0 < config.region_words = omega (arith, config.in_range.least_words) in
      let region_below : address / config.region_words < config.regions + 1 = div_below address config.region_words (config.regions + 1) some_words heap.1 in
      omega (arith, region_below, config.in_range.least_regions);
  of_no_other = λ config region address is_of.
      let row : address / config.region_words ≡ region + 1 = search (arith, div-eq_of_lt-le) in
      omega (arith, row);
  in_heap = λ config region address region_below is_of. grind arith;
}
