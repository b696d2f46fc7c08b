-- The pieces of a heap in which the objects of a text were placed.
use Rattle.std.proofs.Common.{◌≡◌, ◌≢◌, ℕ, ◌+◌, ◌<◌, ◌==◌, zero, suc, length, Some, None, ⊎_elim, sym, ap, ◌∙◌, subst, arith}
use Rattle.std.specs.Prelude.{if◌then◌else◌}
use Rattle.std.proofs.lemmas.Bool.{cond-true, cond-false, cases_eq, eq-eqb, ne_eqb}
use Rattle.std.proofs.lemmas.Option.{none-some}
use Rattle.heap_words.specs.declared.config.Config.{Config}
use Rattle.regions.specs.Place.{base_of}
use Rattle.shen_graph.specs.GraphText.{Text, row_of}
use Rattle.heap_world.specs.World.{Block, Plot, thing, words_of, IsInUse, IsPlotted, IsFilled}
use Rattle.graph_placing.specs.ByName.{words_of_row, address_of, Fits, used_words}
use Rattle.graph_placing.specs.PlaceableText.{IsPlaceable}
use Rattle.graph_placing.proofs.Located as located

-- the piece of a row's object
abbrev pub piece : Text → ℕ → Block
piece text row = thing (row_of text row).name (length (row_of text row).refs) (length (row_of text row).nums)

-- the pieces of the first so many rows
abbrev pub plot : Config → Text → ℕ → Plot
plot config text zero address = None
plot config text (suc row) address = if address_of config text row == address then Some (piece text row) else plot config text row address

-- a piece is that of a row
pub plot_from : (config : Config) (text : Text) (count address : ℕ) (found_piece : Block) → plot config text count address ≡ Some found_piece → (row : ℕ) × (row < count) × (address_of config text row ≡ address) × (piece text row ≡ found_piece)
plot_from config text zero address piece has_piece = absurd (none-some piece has_piece)
plot_from config text (suc count) address found_piece has_piece = ⊎_elim
    (λ (at_row : address_of config text count ≡ address).
    let same_piece : Some (piece text count) ≡ Some found_piece = sym (cond-true (address_of config text count == address) (Some (piece text count)) (plot config text count address) (eq-eqb _ _ at_row)) ∙ has_piece in
    (count, omega arith, at_row, cc))
    (λ (address_elsewhere : address_of config text count ≢ address).
    let earlier_row = plot_from config text count address found_piece (sym (cond-false (address_of config text count == address) (Some (piece text count)) (plot config text count address) (ne_eqb _ _ address_elsewhere)) ∙ has_piece) in
    (earlier_row.0, omega (arith, earlier_row.1), earlier_row.2, earlier_row.3))
    (cases_eq (address_of config text count) address)

module _ (config : Config) (text : Text) (placeable : IsPlaceable config text) where
  -- each row's object is a piece
  pub plot_at : (count row : ℕ) → row < count → plot config text count (address_of config text row) ≡ Some (piece text row)
  plot_at zero row row_below = absurd (omega (arith, row_below))
  plot_at (suc count) row row_below = ⊎_elim
      (λ (last_row : count ≡ row).
      cond-true (address_of config text count == address_of config text row) (Some (piece text count)) (plot config text count (address_of config text row)) (eq-eqb _ _ (ap (address_of config text) last_row)) ∙ ap (λ any_row. Some (piece text any_row)) last_row)
      (λ (not_last : count ≢ row).
      cond-false (address_of config text count == address_of config text row) (Some (piece text count)) (plot config text count (address_of config text row)) (ne_eqb _ _ (λ same_address. not_last (located.one_row config text placeable count row same_address)))
      ∙ plot_at count row (omega (arith, row_below, not_last)))
      (cases_eq count row)

  module _ (fits : Fits config text) (top : ℕ → ℕ) (tops : (region : ℕ) → top region ≡ used_words config text (length text.rows) region) where
    abbrev row_count : ℕ
    row_count = length text.rows

    in_use : (row : ℕ) → row < row_count → IsInUse config top (address_of config text row) (words_of_row text row)
    in_use row row_below = record {
      region = located.region_at config text placeable row;
      within = located.region_within config text placeable fits row row_below;
      from_base = (located.in_region config text placeable row).0;
      to_top = omega (arith, located.ends_below_top config text placeable row_count row row_below, tops (located.region_at config text placeable row));
    }

    pub plotted : IsPlotted config top (plot config text row_count)
    plotted = record {
      tops = λ region within. omega (arith, tops region, located.top_within config text placeable row_count region);
      in_use = λ piece_address b has_piece.
          let from = plot_from config text row_count piece_address b has_piece in
          subst (λ (piece : Block). IsInUse config top piece_address (words_of piece)) from.3 (subst (λ address. IsInUse config top address (words_of_row text from.0)) from.2 (in_use from.0 from.1));
      apart = λ piece_address b first_piece second_piece first_there second_there before.
          let first_row = plot_from config text row_count piece_address first_piece first_there in
          let second_row = plot_from config text row_count b second_piece second_there in
          let same_length : words_of_row text first_row.0 ≡ words_of first_piece = ap words_of first_row.3 in
          let later = located.later_row config text placeable first_row.0 second_row.0 (omega (arith, first_row.2, second_row.2, before)) in
          omega (arith, located.stand_apart config text placeable first_row.0 second_row.0 later, first_row.2, second_row.2, same_length);
    }

    pub filled : IsFilled config top (plot config text row_count)
    filled = record {
      first = λ region within used.
          let last_row = located.last_ends_at_top config text placeable row_count region (omega (arith, used, tops region)) in
          let row_there = located.one_at_base config text placeable last_row.0 in
          let row_below : row_there.0 < row_count = omega (arith, row_there.1, last_row.1) in
          (piece text row_there.0, ap (plot config text row_count) (sym (row_there.2 ∙ ap (base_of config) last_row.2)) ∙ plot_at row_count row_there.0 row_below);
      next = λ region address own_piece within from has_piece before.
          let row_there = plot_from config text row_count address own_piece has_piece in
          let same_length : words_of_row text row_there.0 ≡ words_of own_piece = ap words_of row_there.3 in
          let next_row = located.another_behind config text placeable region row_there.0 row_there.1 (omega (arith, from, row_there.2)) (omega (arith, before, tops region, row_there.2, same_length)) in
          let next_address : address_of config text (suc row_there.0) ≡ address + words_of own_piece = omega (arith, next_row.1, row_there.2, same_length) in
          (piece text (suc row_there.0), ap (plot config text row_count) (sym next_address) ∙ plot_at row_count (suc row_there.0) next_row.0);
    }
