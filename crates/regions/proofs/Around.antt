-- Where words are placed behind what ends at an address, around shut regions: not below it, within one region, in an open row, and
-- not above an address in an open row at which they fit.
use Rattle.std.proofs.Common.{◌≡◌, ◌≢◌, ℕ, ◌+◌, ◌-◌, ◌*◌, ◌/◌, ◌%◌, ◌<◌, ◌≤◌, ◌==◌, Bool, true, false, zero, suc, nat_le, if◌then◌else◌, ⊎_elim, refl, sym, ap, ◌∙◌, arith}
use Rattle.std.proofs.lemmas.Bool.{cond_both, cond-true, cond-false, cases_lt, cases_eq, leb-true, leb-false, eqb-true, eqb-false, true≢false}
use Rattle.std.proofs.lemmas.Nat.{div-add-mod', mul-le, mod_below, mod-mul-add, div-mul-add}
use Rattle.regions.specs.Places.{next_open, first_row, open_row, place_around}

-- one step of the recursion
pub open_next : (shut : ℕ → Bool) (rows row : ℕ) → next_open shut (suc rows) row ≡ (if shut row then next_open shut rows (row + 1) else row)
unfolding next_open
open_next shut rows row = refl

pub open_none : (shut : ℕ → Bool) (row : ℕ) → next_open shut 0 row ≡ row
unfolding next_open
open_none shut row = refl

-- what is found is not below where the search begins
pub open_from : (shut : ℕ → Bool) (rows row : ℕ) → row ≤ next_open shut rows row
open_from shut zero row = omega (arith, open_none shut row)
open_from shut (suc rows) row =
    let row_found : row ≤ (if shut row then next_open shut rows (row + 1) else row) =
    cond_both (shut row) (next_open shut rows (row + 1)) row (λ found_row. row ≤ found_row) (λ _. omega (arith, open_from shut rows (row + 1))) (λ _. omega arith) in
    omega (arith, open_next shut rows row, row_found)

-- nor above an open row
pub open_to : (shut : ℕ → Bool) (rows row top : ℕ) → row ≤ top → shut top ≡ false → next_open shut rows row ≤ top
open_to shut zero row top row_below top_open = omega (arith, open_none shut row, row_below)
open_to shut (suc rows) row top row_below top_open =
    let row_found : (if shut row then next_open shut rows (row + 1) else row) ≤ top =
    cond_both (shut row) (next_open shut rows (row + 1)) row (λ found_row. found_row ≤ top)
    (λ row_closed.
    let rows_differ : row ≢ top = λ same_row. true≢false (sym row_closed ∙ ap shut same_row ∙ top_open) in
    open_to shut rows (row + 1) top (omega (arith, row_below, rows_differ)) top_open)
    (λ _. row_below) in
    omega (arith, open_next shut rows row, row_found)

-- and it is open, where an open row is among those that are looked at
pub open_there : (shut : ℕ → Bool) (rows row top : ℕ) → row ≤ top → shut top ≡ false → top < row + rows → shut (next_open shut rows row) ≡ false
open_there shut zero row top row_below top_open top_near = absurd (omega (arith, row_below, top_near))
open_there shut (suc rows) row top row_below top_open top_near =
    ap shut (open_next shut rows row)
    ∙ cond_both (shut row) (next_open shut rows (row + 1)) row (λ found_row. shut found_row ≡ false)
    (λ row_closed.
    let rows_differ : row ≢ top = λ same_row. true≢false (sym row_closed ∙ ap shut same_row ∙ top_open) in
    open_there shut rows (row + 1) top (omega (arith, row_below, rows_differ)) top_open (omega (arith, top_near)))
    (λ open_here. open_here)

-- the row of an address is not above that of a higher one
pub rows_go_up : (region_words lower b : ℕ) → 0 < region_words → lower ≤ b → lower / region_words ≤ b / region_words
rows_go_up region_words lower b some_words in_order = ⊎_elim
    (λ (higher : b / region_words < lower / region_words).
    let rows = mul-le (b / region_words + 1) region_words (lower / region_words) region_words (omega (arith, higher)) (omega arith) in
    absurd (omega (arith, rows, div-add-mod' lower region_words, div-add-mod' b region_words, mod_below b region_words some_words, in_order)))
    (λ (row_below : lower / region_words ≤ b / region_words). row_below)
    (cases_lt (b / region_words) (lower / region_words))

-- the first row with room is not below that of the end, and where it is that one, the words fit there
pub first_from : (region_words end words : ℕ) → end / region_words ≤ first_row region_words end words
first_from region_words end words = cond_both (nat_le (end % region_words + words) region_words) (end / region_words) (end / region_words + 1) (λ found_row. end / region_words ≤ found_row) (λ _. omega arith) (λ _. omega arith)

pub first_fits : (region_words end words : ℕ) → first_row region_words end words ≤ end / region_words → end % region_words + words ≤ region_words
first_fits region_words end words =
    cond_both (nat_le (end % region_words + words) region_words) (end / region_words) (end / region_words + 1) (λ found_row. found_row ≤ end / region_words → end % region_words + words ≤ region_words)
    (λ words_fit _. leb-true (end % region_words + words) region_words words_fit)
    (λ _ less. absurd (omega (arith, less)))

-- It is not above that of an address at which the words fit: where they do not fit behind `at` but fit at `a`, `a` is in a
-- higher region.
pub first_to : (region_words end address words : ℕ) → 0 < region_words → end ≤ address → address % region_words + words ≤ region_words → first_row region_words end words ≤ address / region_words
first_to region_words end address words some_words end_below words_fit =
    let row_below = rows_go_up region_words end address some_words end_below in
    cond_both (nat_le (end % region_words + words) region_words) (end / region_words) (end / region_words + 1) (λ found_row. found_row ≤ address / region_words)
    (λ _. row_below)
    (λ region_full. let too_long = leb-false (end % region_words + words) region_words region_full in
    ⊎_elim
    (λ (same_row : end / region_words ≡ address / region_words). let row : end / region_words * region_words ≡ address / region_words * region_words = ap (λ found_row. found_row * region_words) same_row in absurd (omega (arith, row, div-add-mod' address region_words, div-add-mod' end region_words, too_long, words_fit, end_below)))
    (λ (rows_differ : end / region_words ≢ address / region_words). omega (arith, row_below, rows_differ))
    (cases_eq (end / region_words) (address / region_words)))

-- some words go right behind, or to the base of the open row
pub around_cases : (region_words : ℕ) (shut : ℕ → Bool) (end words : ℕ) → 0 < words → (P : ℕ → Type 0) → (open_row region_words shut end words ≡ end / region_words → P end) → (open_row region_words shut end words ≢ end / region_words → P (open_row region_words shut end words * region_words))
    → P (place_around region_words shut end words)
around_cases region_words shut end words some_words P at_end at_base =
    cond_both (words == 0) end (if open_row region_words shut end words == end / region_words then end else open_row region_words shut end words * region_words) P
    (λ no_words. absurd (omega (arith, some_words, eqb-true words 0 no_words)))
    (λ _. cond_both (open_row region_words shut end words == end / region_words) end (open_row region_words shut end words * region_words) P (λ same_row. at_end (eqb-true _ _ same_row)) (λ row_differs. at_base (eqb-false _ _ row_differs)))

-- the open row is not below that of the end
pub row_from : (region_words : ℕ) (shut : ℕ → Bool) (end words : ℕ) → end / region_words ≤ open_row region_words shut end words
row_from region_words shut end words = omega (arith, first_from region_words end words, open_from shut 64 (first_row region_words end words))

-- a place is not below what it is placed behind
pub around_not_below : (region_words : ℕ) (shut : ℕ → Bool) (end words : ℕ) → 0 < region_words → end ≤ place_around region_words shut end words
around_not_below region_words shut end words some_region_words = ⊎_elim
    (λ (no_words : words ≡ 0). let placed_at_end : place_around region_words shut end words ≡ end = ap (place_around region_words shut end) no_words in omega (arith, placed_at_end))
    (λ (some_words : words ≢ 0).
    around_cases region_words shut end words (omega (arith, some_words)) (λ any_place. end ≤ any_place)
    (λ _. omega arith)
    (λ row_differs.
    let row = open_row region_words shut end words in
    let rows = mul-le (end / region_words + 1) region_words row region_words (omega (arith, row_from region_words shut end words, row_differs)) (omega arith) in
    omega (arith, rows, div-add-mod' end region_words, mod_below end region_words some_region_words)))
    (cases_eq words 0)

-- what is placed fits into the region of its place
pub around_within : (region_words : ℕ) (shut : ℕ → Bool) (end words : ℕ) → 0 < region_words → 0 < words → words ≤ region_words → place_around region_words shut end words % region_words + words ≤ region_words
around_within region_words shut end words some_region_words some_words short_words =
    around_cases region_words shut end words some_words (λ any_place. any_place % region_words + words ≤ region_words)
    (λ same_row. first_fits region_words end words (omega (arith, same_row, open_from shut 64 (first_row region_words end words))))
    (λ _.
    let row = open_row region_words shut end words in
    let base : (row * region_words + 0) % region_words ≡ 0 = mod-mul-add row region_words 0 some_region_words in
    let same_start : row * region_words + 0 ≡ row * region_words = omega arith in
    omega (arith, base, ap (λ number. number % region_words) same_start, short_words))

-- it lies in the open row
pub around_row : (region_words : ℕ) (shut : ℕ → Bool) (end words : ℕ) → 0 < region_words → 0 < words → place_around region_words shut end words / region_words ≡ open_row region_words shut end words
around_row region_words shut end words some_region_words some_words =
    around_cases region_words shut end words some_words (λ any_place. any_place / region_words ≡ open_row region_words shut end words)
    (λ same_row. sym same_row)
    (λ _.
    let row = open_row region_words shut end words in
    let same_start : row * region_words + 0 ≡ row * region_words = omega arith in
    ap (λ number. number / region_words) (sym same_start) ∙ div-mul-add row region_words 0 some_region_words)

-- The place is not above an address in an open row at which the words fit, and in an open row itself, where the search gets
-- that far.
pub around_not_above : (region_words : ℕ) (shut : ℕ → Bool) (end address words : ℕ) → 0 < region_words → 0 < words → end ≤ address → address % region_words + words ≤ region_words → shut (address / region_words) ≡ false → place_around region_words shut end words ≤ address
around_not_above region_words shut end address words some_region_words some_words end_below words_fit row_open =
    around_cases region_words shut end words some_words (λ any_place. any_place ≤ address)
    (λ _. end_below)
    (λ _.
    let row = open_row region_words shut end words in
    let row_below = open_to shut 64 (first_row region_words end words) (address / region_words) (first_to region_words end address words some_region_words end_below words_fit) row_open in
    let rows = mul-le row region_words (address / region_words) region_words row_below (omega arith) in
    omega (arith, rows, div-add-mod' address region_words))

pub around_open : (region_words : ℕ) (shut : ℕ → Bool) (end address words : ℕ) → 0 < region_words → 0 < words → end ≤ address → address % region_words + words ≤ region_words → shut (address / region_words) ≡ false → address / region_words < end / region_words + 64
    → shut (place_around region_words shut end words / region_words) ≡ false
around_open region_words shut end address words some_region_words some_words end_below words_fit row_open row_near =
    ap shut (around_row region_words shut end words some_region_words some_words)
    ∙ open_there shut 64 (first_row region_words end words) (address / region_words) (first_to region_words end address words some_region_words end_below words_fit) row_open (omega (arith, row_near, first_from region_words end words))

-- the search so far: so many rows from the first one on are shut
pub open_step : (shut : ℕ → Bool) (step row : ℕ) → step < 64 → shut (row + step) ≡ true → next_open shut 64 row ≡ next_open shut (64 - step) (row + step)
    → next_open shut 64 row ≡ next_open shut (64 - (step + 1)) (row + (step + 1))
open_step shut step row step_below row_closed same_before =
    let rows : 64 - step ≡ suc (64 - (step + 1)) = omega (arith, step_below) in
    let next_row : row + step + 1 ≡ row + (step + 1) = omega arith in
    same_before ∙ ap (λ rows. next_open shut rows (row + step)) rows ∙ open_next shut (64 - (step + 1)) (row + step)
    ∙ cond-true (shut (row + step)) (next_open shut (64 - (step + 1)) (row + step + 1)) (row + step) row_closed
    ∙ ap (next_open shut (64 - (step + 1))) next_row

-- and here is an open one
pub open_found : (shut : ℕ → Bool) (step row : ℕ) → step < 64 → shut (row + step) ≡ false → next_open shut 64 row ≡ next_open shut (64 - step) (row + step)
    → row + step ≡ next_open shut 64 row
open_found shut step row step_below row_open same_before =
    let rows : 64 - step ≡ suc (64 - (step + 1)) = omega (arith, step_below) in
    sym (same_before ∙ ap (λ rows. next_open shut rows (row + step)) rows ∙ open_next shut (64 - (step + 1)) (row + step)
    ∙ cond-false (shut (row + step)) (next_open shut (64 - (step + 1)) (row + step + 1)) (row + step) row_open)

-- what is found is near
pub open_near : (shut : ℕ → Bool) (rows row : ℕ) → next_open shut rows row ≤ row + rows
open_near shut zero row = omega (arith, open_none shut row)
open_near shut (suc rows) row =
    let row_found : (if shut row then next_open shut rows (row + 1) else row) ≤ row + suc rows =
    cond_both (shut row) (next_open shut rows (row + 1)) row (λ found_row. found_row ≤ row + suc rows) (λ _. omega (arith, open_near shut rows (row + 1))) (λ _. omega arith) in
    omega (arith, open_next shut rows row, row_found)
