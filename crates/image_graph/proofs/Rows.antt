-- Rows of the heap: regions counted from 1.
use Rattle.std.proofs.Common.{◌≡◌, ℕ, ◌+◌, ◌-◌, ◌*◌, ◌/◌, ◌<◌, ◌≤◌, sym, ap, ◌∙◌, arith}
use Rattle.std.proofs.lemmas.Nat.{div-add-mod', div-mul-add, le-div}
use Rattle.heap_words.specs.declared.config.Config.{Config}
use Rattle.regions.specs.Place.{base_of, region_with}

-- the row of an address of a region
pub row_is : (row_words region address : ℕ) → (region + 1) * row_words ≤ address → address < (region + 1) * row_words + row_words → address / row_words ≡ region + 1
row_is row_words region address row_from address_below =
    let offset = address - (region + 1) * row_words in
    let address_back : (region + 1) * row_words + offset ≡ address = omega (arith, row_from) in
    ap (λ that_address. that_address / row_words) (sym address_back) ∙ div-mul-add (region + 1) row_words offset (omega (arith, row_from, address_below))

-- the row of an address of the heap is that of its region
pub row_above : (config : Config) (address : ℕ) → config.region_words ≤ address → region_with config address + 1 ≡ address / config.region_words
row_above config address in_heap =
    let some_row : 1 ≤ address / config.region_words = le-div 1 address config.region_words (omega (arith, config.in_range.least_words)) (omega (arith, in_heap)) in
    omega (arith, some_row)

-- and an address is not below the base of that
pub base_below : (config : Config) (address : ℕ) → config.region_words ≤ address → base_of config (region_with config address) ≤ address
base_below config address in_heap =
    let row : (region_with config address + 1) * config.region_words ≡ address / config.region_words * config.region_words = ap (λ row_count. row_count * config.region_words) (row_above config address in_heap) in
    omega (arith, row, div-add-mod' address config.region_words)
