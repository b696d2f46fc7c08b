-- Setting the cells of threads one after another, so many for each thread: its roots, or its pin slots.
use Rattle.std.proofs.Common.{ℕ, ◌≡◌, ◌≢◌, ◌+◌, ◌-◌, ◌*◌, ◌<◌, ◌&&◌, leb, ltb, List, [], None, length, get_or, set, map, arith, ap, sym, ◌∙◌, inl, inr}
use Rattle.std.specs.List.{range_with_len}
use Rattle.std.proofs.lemmas.Nat.{mul-le}
use Rattle.std.proofs.lemmas.List.{get_or-set_same, get_or-set_other, length-set, ext_get_or}
use Rattle.std.proofs.lemmas.List.FromFn.{fill_by_all, length-map-range_with_len, get_or-map-range_with_len}
use Rattle.std.proofs.lemmas.Bool.{cases_eq, cases_lt, lt-ltb, le-leb, and_from, cond-true}
use Rattle.shen_graph.specs.Graph.{Reference}
use Rattle.heap_world.specs.Rows.{cell_word, cell_rows}

-- each row has so many cells
abbrev pub AreFull : (cells : ℕ) → List (List Reference) → Type 0
AreFull cells rows = (index : ℕ) → index < length rows → length (get_or rows index []) ≡ cells

-- the first so many cells are set
abbrev pub AreSet : (cells : ℕ) → (ℕ → Reference) → List (List Reference) → ℕ → Type 0
AreSet cells reference_of rows set_count = (cell index : ℕ) → index < cells → cells * cell + index < set_count → get_or (get_or rows cell []) index None ≡ reference_of (cells * cell + index)

-- the rows with one cell set
abbrev pub with_cell : List (List Reference) → (index cell : ℕ) → Reference → List (List Reference)
with_cell rows index cell reference = set rows index (set (get_or rows index []) cell reference)

pub AreFull-with_cell : (cells : ℕ) (rows : List (List Reference)) (index cell : ℕ) (reference : Reference) → index < length rows → AreFull cells rows → AreFull cells (with_cell rows index cell reference)
AreFull-with_cell cells rows index cell reference low full_rows asked_row row_below =
    elim (cases_eq asked_row index) [
      | inl same_row ↦ ap (λ row_index. length (get_or (with_cell rows index cell reference) row_index [])) same_row
          ∙ ap length (get_or-set_same rows index (set (get_or rows index []) cell reference) [] low)
          ∙ length-set (get_or rows index []) cell reference ∙ full_rows index low
      | inr other_row ↦ ap length (get_or-set_other rows index asked_row (set (get_or rows index []) cell reference) [] other_row)
          ∙ full_rows asked_row (rw length-set at row_below)
    ]

-- a cell of another row that is not behind is before
earlier_row : (cells set_count row cell other_row other_cell : ℕ) → set_count ≡ cells * row + cell → cell < cells → other_cell < cells → other_row ≢ row → cells * other_row + other_cell < set_count + 1 → cells * other_row + other_cell < set_count
earlier_row cells set_count row cell other_row other_cell count_here low within rows_differ cell_below =
    elim (cases_lt other_row row) [
      | inl before ↦ (let rows = mul-le cells (other_row + 1) cells row (omega arith) (omega (arith, before)) in omega (arith, rows, count_here, within))
      | inr row_behind ↦ (let rows = mul-le cells (row + 1) cells other_row (omega arith) (omega (arith, rows_differ, row_behind)) in absurd (omega (arith, rows, count_here, low, cell_below)))
    ]

pub AreSet-with_cell : (cells : ℕ) (reference_of : ℕ → Reference) (rows : List (List Reference)) (set_count index cell : ℕ) (reference : Reference) → set_count ≡ cells * index + cell → cell < cells → index < length rows
    → AreFull cells rows → reference ≡ reference_of set_count → AreSet cells reference_of rows set_count → AreSet cells reference_of (with_cell rows index cell reference) (set_count + 1)
AreSet-with_cell cells reference_of rows set_count index cell reference count_here low in_rows full_rows right_reference before asked_row asked_cell within cell_below =
    let row = get_or rows index [] in
    let row_set = get_or-set_same rows index (set row cell reference) [] in_rows in
    elim (cases_eq asked_row index) [
      | inl same_row ↦ elim (cases_eq asked_cell cell) [
        | inl same_cell ↦ (let place : set_count ≡ cells * asked_row + asked_cell = count_here ∙ ap (λ number. cells * number + cell) (sym same_row) ∙ ap (λ number. cells * asked_row + number) (sym same_cell) in
            ap (λ row_index. get_or (get_or (with_cell rows index cell reference) row_index []) asked_cell None) same_row
            ∙ ap (λ xs. get_or xs asked_cell None) row_set
            ∙ ap (λ index. get_or (set row cell reference) index None) same_cell
            ∙ get_or-set_same row cell reference None (let row_length : length row ≡ cells = full_rows index in_rows in omega (arith, row_length, low))
            ∙ right_reference ∙ ap reference_of place)
        | inr other_cell ↦ (let same_start : cells * asked_row ≡ cells * index = ap (λ number. cells * number) same_row in
            let earlier : cells * asked_row + asked_cell < set_count = omega (arith, other_cell, same_start, count_here, cell_below) in
            ap (λ row_index. get_or (get_or (with_cell rows index cell reference) row_index []) asked_cell None) same_row
            ∙ ap (λ xs. get_or xs asked_cell None) row_set
            ∙ get_or-set_other row cell asked_cell reference None other_cell
            ∙ ap (λ index. get_or (get_or rows index []) asked_cell None) (sym same_row) ∙ before asked_row asked_cell within earlier)
      ]
      | inr other_row ↦ ap (λ xs. get_or xs asked_cell None) (get_or-set_other rows index asked_row (set row cell reference) [] other_row)
          ∙ before asked_row asked_cell within (earlier_row cells set_count index cell asked_row asked_cell count_here low within other_row cell_below)
    ]

pub cell_word-at : (cells : ℕ) (words : List ℕ) (thread cell : ℕ) → cell < cells → cell_word cells words (thread + 1) cell ≡ get_or words (cells * thread + cell) 0
cell_word-at cells words thread cell cell_below =
    let same_thread : thread + 1 - 1 ≡ thread = omega arith in
    cond-true (leb 1 (thread + 1) && ltb cell cells) (get_or words (cells * (thread + 1 - 1) + cell) 0) 0
    (and_from (leb 1 (thread + 1)) (ltb cell cells) (le-leb 1 (thread + 1) (omega arith)) (lt-ltb cell cells cell_below))
    ∙ ap (λ thread_number. get_or words (cells * thread_number + cell) 0) same_thread

-- with all of them set, the rows are those of the words
pub all_set : (cells : ℕ) (reference_of : ℕ → Reference) (words : List ℕ) (rows : List (List Reference)) (threads : ℕ)
    → length rows ≡ threads → length words ≡ cells * threads → AreFull cells rows → AreSet cells (λ index. reference_of (get_or words index 0)) rows (length words)
    → rows ≡ cell_rows cells (λ thread cell. reference_of (cell_word cells words thread cell)) threads
all_set cells reference_of words rows threads count many full_rows done =
    let row_of : ℕ → List Reference = λ thread. map (λ cell. reference_of (cell_word cells words thread cell)) (range_with_len 0 cells) in
    ext_get_or [] rows (map row_of (range_with_len 1 threads)) (count ∙ sym (length-map-range_with_len row_of 1 threads))
    (λ index row_below. let low : index < threads = omega (arith, count, row_below) in
    let inside = mul-le cells (index + 1) cells threads (omega arith) (omega (arith, low)) in
    fill_by_all (λ cell. reference_of (cell_word cells words (index + 1) cell)) (get_or rows index []) cells None (full_rows index row_below)
    (λ cell cell_below. done index cell cell_below (omega (arith, inside, many, cell_below)) ∙ ap reference_of (sym (cell_word-at cells words index cell cell_below)))
    ∙ sym (get_or-map-range_with_len row_of 1 threads index (index + 1) [] low (omega arith)))
