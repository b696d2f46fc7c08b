-- Addresses by their regions.
use Rattle.std.proofs.Common.{◌≡◌, ◌≢◌, ℕ, ◌+◌, ◌-◌, ◌*◌, ◌/◌, ◌%◌, ◌<◌, ◌≤◌, ◌⊎◌, inl, inr, ap, ◌∙◌, ⊎_elim, arith}
use Rattle.std.proofs.lemmas.Bool.{cases_lt}
use Rattle.std.proofs.lemmas.Nat.{div-add-mod', mod_below, mul-le, div-mul-add, mod-mul-add}
use Rattle.heap_words.specs.declared.config.Config.{Config}
use Rattle.regions.proofs.Tops.{rows_apart}
use Rattle.regions.specs.Place.{base_of, region_with, IsOf}

-- how far an address is from the base of its region
pub from_base : (row_words address : ℕ) → 0 < row_words → row_words ≤ address → (address / row_words - 1 + 1) * row_words + address % row_words ≡ address
from_base row_words address positive in_heap = ⊎_elim
    (λ (no_row : address / row_words < 1).
    let zero_row : address / row_words ≡ 0 = omega (arith, no_row) in
    let row : address / row_words * row_words ≡ 0 * row_words = ap (λ row_count. row_count * row_words) zero_row in
    absurd (omega (arith, row, in_heap, div-add-mod' address row_words, mod_below address row_words positive)))
    (λ (some_row : 1 ≤ address / row_words).
    let row_again : address / row_words - 1 + 1 ≡ address / row_words = omega (arith, some_row) in
    let row : (address / row_words - 1 + 1) * row_words ≡ address / row_words * row_words = ap (λ row_count. row_count * row_words) row_again in
    omega (arith, row, div-add-mod' address row_words))
    (cases_lt (address / row_words) 1)

-- the same, counted from the first address of the heap
pub record IsPlace (w regions a : ℕ) : Type 0 where
  pub row : (a - w) / w ≡ a / w - 1
  pub offset : (a - w) % w ≡ a % w
  pub below : a - w < regions * w

pub place_of : (row_words regions address : ℕ) → 0 < row_words → row_words ≤ address → address / row_words - 1 < regions → IsPlace row_words regions address
place_of row_words regions address positive in_heap inside =
    let region = address / row_words - 1 in
    let address_again = from_base row_words address positive in_heap in
    let from_first : address - row_words ≡ region * row_words + address % row_words = omega (arith, address_again) in
    let rows = mul-le (region + 1) row_words regions row_words (omega (arith, inside)) (omega arith) in
    record {
      row = ap (λ place. place / row_words) from_first ∙ div-mul-add region row_words (address % row_words) (mod_below address row_words positive);
      offset = ap (λ place. place % row_words) from_first ∙ mod-mul-add region row_words (address % row_words) (mod_below address row_words positive);
      below = omega (arith, from_first, rows, mod_below address row_words positive);
    }

module _ (config : Config) where
  pub some_words : 0 < config.region_words
  some_words = let range = config.in_range in omega (arith, range.least_words)

  -- an address that lies no further from another than the end of its region is of that region
  pub of_its_region : (address offset : ℕ) → config.region_words ≤ address → address % config.region_words + offset < config.region_words → IsOf config (region_with config address) (address + offset)
  of_its_region address offset in_heap inside =
      let address_again = from_base config.region_words address some_words in_heap in
      record { from = omega (arith, address_again); before = omega (arith, address_again, inside) }

  -- addresses of two regions lie apart
  pub regions_apart : (region other_region address from words : ℕ) → region ≢ other_region → IsOf config region address → base_of config other_region ≤ from → from + words ≤ base_of config other_region + config.region_words → (address < from) ⊎ (from + words ≤ address)
  regions_apart region other_region address from words differ is_of low high =
      ⊎_elim
      (λ (same_region : region ≡ other_region). absurd (differ same_region))
      (λ (bases_apart : (region * config.region_words + config.region_words ≤ other_region * config.region_words) ⊎ (other_region * config.region_words + config.region_words ≤ region * config.region_words)). ⊎_elim
      (λ (lower : region * config.region_words + config.region_words ≤ other_region * config.region_words). inl (omega (arith, lower, is_of.before, low)))
      (λ (higher : other_region * config.region_words + config.region_words ≤ region * config.region_words). inr (omega (arith, higher, is_of.from, high)))
      bases_apart)
      (rows_apart config.region_words region other_region)
