-- The words of a heap in which objects were placed, once their names were written anew.
use Rattle.std.proofs.Common.{◌≡◌, ◌≢◌, ℕ, ◌+◌, ◌<◌, ◌≤◌, ◌==◌, zero, suc, Bool, true, false, List, ◌∷◌, ◌++◌, map, length, get_or, ⊎_elim, refl, sym, ap, ◌∙◌, arith}
use Rattle.std.specs.Prelude.{if◌then◌else◌}
use Rattle.std.proofs.Math.Path.{fun_ext}
use Rattle.std.proofs.lemmas.Bool.{cond-true, cond-false, cases_eq, cases_lt, eq-eqb, ne_eqb}
use Rattle.heap_words.specs.declared.config.Config.{Config}
use Rattle.heap_words.specs.Words.{Word, Free, Left, Top, Root, Heap, write}
use Rattle.heap_words.specs.Encoding.{plain_header, shape_word, name_code}
use Rattle.shen_graph.specs.declared.name.Name.{Name}
use Rattle.shen_graph.specs.GraphText.{Text, row_of, names_of, root_of}
use Rattle.image_graph.specs.Full.{empty_regions}
use Rattle.graph_placing.specs.ByName.{words_of_row, address_of, used_words}
use Rattle.graph_placing.specs.PlacedHeap.{word_for, words_of_object, is_content, IsPlaced}
use Rattle.graph_placing.specs.PlaceableText.{IsPlaceable}
use Rattle.graph_placing.proofs.Located as located
use Rattle.graph_placing.specs.NamesAnew.{earlier_names, name_anew, text_anew}
use Rattle.graph_placing.specs.NamesRewritten.{names_written}
use Rattle.graph_placing.proofs.TextsAnew as anew

-- the word of the new name of a row's object
abbrev pub code_anew : Text → ℕ → ℕ
code_anew text row = name_code (row_of text row).name.thread (earlier_names (names_of text) (row_of text row).name + 1)

-- Row by row.

pub names_none : (config : Config) (text : Text) (memory : Word → ℕ) → memory ≡ names_written config text 0 memory
unfolding names_written
names_none config text memory = fun_ext (λ word. refl)

pub names_more : (config : Config) (text : Text) (row : ℕ) (memory : Word → ℕ) (address code : ℕ) → address ≡ address_of config text row → code ≡ code_anew text row
    → write (names_written config text row memory) (Heap (address + 2)) code ≡ names_written config text (row + 1) memory
unfolding names_written
names_more config text row memory address code address_is code_is =
    let next_row : suc row ≡ row + 1 = omega arith in
    ap (λ (any_address : ℕ). write (names_written config text row memory) (Heap (any_address + 2)) code) address_is ∙ ap (write (names_written config text row memory) (Heap (address_of config text row + 2))) code_is
    ∙ fun_ext (λ word. refl) ∙ ap (λ (i : ℕ). names_written config text i memory) next_row

written_next : (config : Config) (text : Text) (row address : ℕ) (memory : Word → ℕ) → names_written config text (suc row) memory (Heap address) ≡ (if address_of config text row + 2 == address then code_anew text row else names_written config text row memory (Heap address))
unfolding names_written
written_next config text row address memory = refl

written_first : (config : Config) (text : Text) (word : Word) (memory : Word → ℕ) → names_written config text 0 memory word ≡ memory word
unfolding names_written
written_first config text word memory = refl

-- other words of the heap stay, ..
written_elsewhere : (config : Config) (text : Text) (rows address : ℕ) (memory : Word → ℕ) → ((row : ℕ) → row < rows → address_of config text row + 2 ≢ address) → names_written config text rows memory (Heap address) ≡ memory (Heap address)
written_elsewhere config text zero address memory all_apart = written_first config text (Heap address) memory
written_elsewhere config text (suc rows) address memory all_apart =
    written_next config text rows address memory ∙ cond-false (address_of config text rows + 2 == address) (code_anew text rows) (names_written config text rows memory (Heap address)) (ne_eqb _ _ (all_apart rows (omega arith)))
    ∙ written_elsewhere config text rows address memory (λ row row_below. all_apart row (omega (arith, row_below)))

-- .. and words that are not of the heap
abbrev is_outside : Word → Bool
is_outside (Heap address) = false
is_outside word = true

written_outside : (config : Config) (text : Text) (rows : ℕ) (word : Word) (memory : Word → ℕ) → is_outside word ≡ true → names_written config text rows memory word ≡ memory word
unfolding names_written
written_outside config text zero word memory outside = refl
written_outside config text (suc rows) (Heap address) memory outside = absurd cc
written_outside config text (suc rows) word memory outside = written_outside config text rows word memory outside

module _ (config : Config) (text : Text) (text_placeable : IsPlaceable config text) where
  -- the name of each object is the new one
  written_there : (rows row : ℕ) (memory : Word → ℕ) → row < rows → names_written config text rows memory (Heap (address_of config text row + 2)) ≡ code_anew text row
  written_there zero row memory row_below = absurd (omega (arith, row_below))
  written_there (suc rows) row memory row_below = ⊎_elim
      (λ (is_last : rows ≡ row).
      written_next config text rows (address_of config text row + 2) memory
      ∙ cond-true (address_of config text rows + 2 == address_of config text row + 2) (code_anew text rows) (names_written config text rows memory (Heap (address_of config text row + 2))) (eq-eqb _ _ (ap (λ any_row. address_of config text any_row + 2) is_last))
      ∙ ap (code_anew text) is_last)
      (λ (not_last : rows ≢ row).
      let addresses_differ : address_of config text rows + 2 ≢ address_of config text row + 2 = (λ same_address. not_last (located.one_row config text text_placeable rows row (omega (arith, same_address)))) in
      written_next config text rows (address_of config text row + 2) memory
      ∙ cond-false (address_of config text rows + 2 == address_of config text row + 2) (code_anew text rows) (names_written config text rows memory (Heap (address_of config text row + 2))) (ne_eqb _ _ addresses_differ)
      ∙ written_there rows row memory (omega (arith, row_below, not_last)))
      (cases_eq rows row)

  -- no other word of an object is the name of one
  not_a_name : (other_row row offset : ℕ) → offset < words_of_row text row → offset ≢ 2 → address_of config text other_row + 2 ≢ address_of config text row + offset
  not_a_name other_row row offset offset_inside not_two same_address = ⊎_elim
      (λ (row_less : other_row < row). omega (arith, located.stand_apart config text text_placeable other_row row row_less, located.some_words config text text_placeable other_row, same_address))
      (λ (row_not_less : row ≤ other_row). ⊎_elim
      (λ (same_row : row ≡ other_row). let address_is : address_of config text row ≡ address_of config text other_row = ap (address_of config text) same_row in not_two (omega (arith, address_is, same_address)))
      (λ (rows_differ : row ≢ other_row). omega (arith, located.stand_apart config text text_placeable row other_row (omega (arith, row_not_less, rows_differ)), offset_inside, same_address))
      (cases_eq row other_row))
      (cases_lt other_row row)

  module _ (memory : Word → ℕ) (placed : IsPlaced config text memory) where
    abbrev n : ℕ
    n = length text.rows

    abbrev renamed : Name → Name
    renamed = name_anew (names_of text)

    abbrev new : Word → ℕ
    new = names_written config text n memory

    object_word : (row index : ℕ) → row < n → index < words_of_row text row → new (Heap (address_of config text row + index)) ≡ get_or (words_of_object (word_for config (text_anew text)) (row_of (text_anew text) row)) index 0
    object_word row index row_below index_inside =
        let text_row = row_of text row in
        let list : List ℕ = map (word_for config text) text_row.refs ++ text_row.nums in
        let own_word = ap (λ (xs : List ℕ). get_or xs index 0) (anew.object_is config text text_placeable row row_below) in
        ⊎_elim
        (λ (name_index : index ≡ 2).
        ap (λ number. new (Heap (address_of config text row + number))) name_index ∙ written_there n row memory row_below
        ∙ sym (own_word ∙ ap (λ number. get_or (plain_header ∷ shape_word (length text_row.refs) (length text_row.nums) ∷ code_anew text row ∷ list) number 0) name_index))
        (λ (not_two : index ≢ 2).
        written_elsewhere config text n (address_of config text row + index) memory (λ number other_below. not_a_name number row index index_inside not_two)
        ∙ placed.objects row index row_below index_inside
        ∙ anew.not_the_name plain_header (shape_word (length text_row.refs) (length text_row.nums)) (name_code text_row.name.thread text_row.name.count) (code_anew text row) list index not_two
        ∙ sym own_word)
        (cases_eq index 2)

    pub placed_anew : IsPlaced config (text_anew text) new
    placed_anew = record {
      objects = λ row_number index in_range offset_inside.
          let row : row_number < n = omega (arith, in_range, anew.rows_count renamed text) in
          ap (λ (any_address : ℕ). new (Heap (any_address + index))) (anew.address_is config renamed text row_number) ∙ object_word row_number index row (omega (arith, offset_inside, anew.words_at renamed text row_number));
      unused = λ address not_covered.
          written_elsewhere config text n address memory (λ row_number in_range same_address.
          not_covered row_number 2 (omega (arith, in_range, anew.rows_count renamed text)) (omega (arith, anew.words_at renamed text row_number, located.some_words config text text_placeable row_number)) (omega (arith, same_address, anew.address_is config renamed text row_number)))
          ∙ placed.unused address (λ row_number index in_range offset_inside same_address.
          not_covered row_number index (omega (arith, in_range, anew.rows_count renamed text)) (omega (arith, offset_inside, anew.words_at renamed text row_number)) (omega (arith, same_address, anew.address_is config renamed text row_number)));
      tops = λ region. written_outside config text n (Top region) memory refl ∙ placed.tops region ∙ sym (anew.used_is config renamed text n region) ∙ ap (λ (row_number : ℕ). used_words config (text_anew text) row_number region) (sym (anew.rows_count renamed text));
      free = written_outside config text n Free memory refl ∙ placed.free ∙ ap (λ (top : ℕ → ℕ). empty_regions top config.regions) (fun_ext (λ region. sym (written_outside config text n (Top region) memory refl)));
      roots = λ mutator index in_range small.
          written_outside config text n (Root mutator index) memory refl ∙ placed.roots mutator index in_range small
          ∙ sym (ap (word_for config (text_anew text)) (anew.root_is renamed text (mutator + 1) index)
          ∙ anew.word_is config text text_placeable (root_of text (mutator + 1) index) (λ name names_it. text_placeable.roots (mutator + 1) index name (omega arith) (omega (arith, in_range)) small names_it));
      left = written_outside config text n Left memory refl ∙ placed.left;
      others = λ word apart. written_outside config text n word memory (not_heap word apart) ∙ placed.others word apart;
    }
      where
        not_heap : (word : Word) → is_content word ≡ false → is_outside word ≡ true
        not_heap (Heap heap_address) not_content = absurd cc
        not_heap word not_content = refl
