-- A heap has fewer objects than a thread has names.
use Rattle.std.proofs.Common.{ℕ, ◌+◌, ◌^◌, ◌-◌, ◌<◌, ◌≤◌, suc, zero, length, ⊎_elim, arith}
use Rattle.std.proofs.lemmas.Bool.{cases_lt}
use Rattle.heap_words.specs.declared.config.Config.{Config}
use Rattle.heap_words.proofs.Bounds.{end_small}
use Rattle.shen_graph.specs.GraphText.{Text}
use Rattle.graph_placing.specs.ByName.{address_of, Fits}
use Rattle.graph_placing.specs.PlaceableText.{IsPlaceable}
use Rattle.graph_placing.proofs.Located as located

module _ (config : Config) (text : Text) (placeable : IsPlaceable config text) where
  rows_below : (index : ℕ) → index ≤ address_of config text index
  rows_below zero = omega arith
  rows_below (suc index) = omega (arith, rows_below index, located.stand_apart config text placeable index (suc index) (omega arith), located.some_words config text placeable index)

  pub row_is_small : Fits config text → (index : ℕ) → index < length text.rows → index + 1 < 2 ^ 32
  row_is_small fits index index_below = omega (arith, rows_below index, located.in_heap config text placeable fits index index_below, located.some_words config text placeable index, end_small config)

  pub rows_are_few : Fits config text → length text.rows < 2 ^ 32
  rows_are_few fits = ⊎_elim
      (λ (no_rows : length text.rows < 1). omega (arith, no_rows))
      (λ (some_rows : 1 ≤ length text.rows). omega (arith, row_is_small fits (length text.rows - 1) (omega (arith, some_rows)), some_rows))
      (cases_lt (length text.rows) 1)
