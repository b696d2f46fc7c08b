-- What the words are once all steps of placing were made.
use Rattle.std.proofs.Common.{◌≡◌, ◌≢◌, ℕ, ◌+◌, ◌-◌, ◌<◌, ◌≤◌, ◌==◌, ◌&&◌, nat_le, nat_lt, zero, suc, true, false, List, length, get_or, ⊎_elim, refl, sym, ap, ◌∙◌, arith}
use Rattle.std.specs.Prelude.{if◌then◌else◌}
use Rattle.std.proofs.Math.Path.{fun_ext}
use Rattle.std.proofs.lemmas.Bool.{cond-true, cond-false, cases_eq, cases_lt, cases_Bool, lt-ltb, le-leb, leb-true, ltb-true, and_from, and_parts, eq-eqb, eqb-true, ne_eqb, false_from_ne_true}
use Rattle.heap_words.specs.declared.config.Config.{Config}
use Rattle.heap_words.specs.Words.{Word, Left, Free, Top, Root, Heap, write}
use Rattle.regions.specs.Place.{base_of, region_with}
use Rattle.shen_graph.specs.GraphText.{Text, row_of, root_of}
use Rattle.image_graph.specs.Full.{empty_regions}
use Rattle.graph_placing.specs.ByName.{words_of_row, address_of, used_words}
use Rattle.graph_placing.specs.PlacedHeap.{word_for, words_of_object, is_content, IsPlaced}
use Rattle.graph_placing.specs.PlaceableText.{IsPlaceable}
use Rattle.graph_placing.specs.Writing.{copied, rows_placed, roots_stored, all_roots_stored, all_placed}
use Rattle.graph_placing.proofs.Located as located

-- One word after the other.

copied_inside : (start_address words address : ℕ) (list : List ℕ) (memory : Word → ℕ) → start_address ≤ address → address < start_address + words → copied start_address words list memory (Heap address) ≡ get_or list (address - start_address) 0
copied_inside start words address list memory start_below address_below = cond-true (nat_le start address && nat_lt address (start + words)) (get_or list (address - start) 0) (memory (Heap address)) (and_from _ _ (le-leb start address start_below) (lt-ltb address (start + words) address_below))

copied_outside : (start_address words address : ℕ) (list : List ℕ) (memory : Word → ℕ) → (start_address ≤ address → address < start_address + words → ⊥) → copied start_address words list memory (Heap address) ≡ memory (Heap address)
copied_outside start words address list memory address_outside =
    cond-false (nat_le start address && nat_lt address (start + words)) (get_or list (address - start) 0) (memory (Heap address))
    (false_from_ne_true (nat_le start address && nat_lt address (start + words)) (λ both_hold. let both_parts = and_parts (nat_le start address) (nat_lt address (start + words)) both_hold in address_outside (leb-true start address both_parts.0) (ltb-true address (start + words) both_parts.1)))

pub copied_none : (address : ℕ) (list : List ℕ) (memory : Word → ℕ) → memory ≡ copied address 0 list memory
copied_none address list memory = fun_ext (λ word. at word)
  where
    at : (word : Word) → memory word ≡ copied address 0 list memory word
    at (Heap heap_address) = sym (copied_outside address 0 heap_address list memory (λ low high. omega (arith, low, high)))
    at _ = refl

pub copied_more : (address words : ℕ) (list : List ℕ) (memory : Word → ℕ) → write (copied address words list memory) (Heap (address + words)) (get_or list words 0) ≡ copied address (words + 1) list memory
copied_more address words list memory = fun_ext (λ word. at word)
  where
    at : (word : Word) → write (copied address words list memory) (Heap (address + words)) (get_or list words 0) word ≡ copied address (words + 1) list memory word
    at (Heap heap_address) = ⊎_elim
        (λ (at_end : address + words ≡ heap_address).
        let index : words ≡ heap_address - address = omega (arith, at_end) in
        cond-true (address + words == heap_address) (get_or list words 0) (copied address words list memory (Heap heap_address)) (eq-eqb _ _ at_end) ∙ ap (λ index. get_or list index 0) index
        ∙ sym (copied_inside address (words + 1) heap_address list memory (omega (arith, at_end)) (omega (arith, at_end))))
        (λ (address_elsewhere : address + words ≢ heap_address).
        cond-false (address + words == heap_address) (get_or list words 0) (copied address words list memory (Heap heap_address)) (ne_eqb _ _ address_elsewhere)
        ∙ ⊎_elim
        (λ (address_inside : nat_le address heap_address && nat_lt heap_address (address + words) ≡ true).
        let both_parts = and_parts (nat_le address heap_address) (nat_lt heap_address (address + words)) address_inside in
        let start_below = leb-true address heap_address both_parts.0 in
        let address_below = ltb-true heap_address (address + words) both_parts.1 in
        copied_inside address words heap_address list memory start_below address_below ∙ sym (copied_inside address (words + 1) heap_address list memory start_below (omega (arith, address_below))))
        (λ (was_outside : nat_le address heap_address && nat_lt heap_address (address + words) ≡ false).
        cond-false (nat_le address heap_address && nat_lt heap_address (address + words)) (get_or list (heap_address - address) 0) (memory (Heap heap_address)) was_outside
        ∙ sym (copied_outside address (words + 1) heap_address list memory (λ start_below address_below. let now_inside : nat_le address heap_address && nat_lt heap_address (address + words) ≡ true = and_from _ _ (le-leb address heap_address start_below) (lt-ltb heap_address (address + words) (omega (arith, address_below, address_elsewhere))) in cc)))
        (cases_Bool (nat_le address heap_address && nat_lt heap_address (address + words))))
        (cases_eq (address + words) heap_address)
    at _ = refl

-- Row after row.

pub rows_none : (config : Config) (text : Text) (memory : Word → ℕ) → ((word : Word) → memory word ≡ 0) → memory ≡ rows_placed config text 0
unfolding rows_placed
rows_none config text memory all_zero = fun_ext (λ word. all_zero word)

top_is : (config : Config) (text : Text) (row region : ℕ) → rows_placed config text row (Top region) ≡ used_words config text row region
unfolding rows_placed used_words
top_is config text zero region = refl
top_is config text (suc row) region = refl

pub rows_more : (config : Config) (text : Text) (row : ℕ)
    → write (copied (address_of config text row) (words_of_row text row) (words_of_object (word_for config text) (row_of text row)) (rows_placed config text row)) (Top (region_with config (address_of config text row)))
    (address_of config text row + words_of_row text row - base_of config (region_with config (address_of config text row))) ≡ rows_placed config text (suc row)
unfolding rows_placed used_words
rows_more config text row = fun_ext (λ word. at word)
  where
    at : (word : Word) → write (copied (address_of config text row) (words_of_row text row) (words_of_object (word_for config text) (row_of text row)) (rows_placed config text row)) (Top (region_with config (address_of config text row)))
        (address_of config text row + words_of_row text row - base_of config (region_with config (address_of config text row))) word ≡ rows_placed config text (suc row) word
    at (Top region) = ⊎_elim
        (λ (same_region : region_with config (address_of config text row) ≡ region).
        let test = eq-eqb _ _ same_region in
        cond-true (region_with config (address_of config text row) == region) (address_of config text row + words_of_row text row - base_of config (region_with config (address_of config text row))) (rows_placed config text row (Top region)) test
        ∙ ap (λ (any_region : ℕ). address_of config text row + words_of_row text row - base_of config any_region) same_region
        ∙ sym (cond-true (region_with config (address_of config text row) == region) (address_of config text row + words_of_row text row - base_of config region) (used_words config text row region) test))
        (λ (region_elsewhere : region_with config (address_of config text row) ≢ region).
        let test = ne_eqb _ _ region_elsewhere in
        cond-false (region_with config (address_of config text row) == region) (address_of config text row + words_of_row text row - base_of config (region_with config (address_of config text row))) (rows_placed config text row (Top region)) test
        ∙ top_is config text row region
        ∙ sym (cond-false (region_with config (address_of config text row) == region) (address_of config text row + words_of_row text row - base_of config region) (used_words config text row region) test))
        (cases_eq (region_with config (address_of config text row)) region)
    at _ = refl

-- words of which rows say nothing
rows_other : (config : Config) (text : Text) (row : ℕ) (word : Word) → is_content word ≡ false → rows_placed config text row word ≡ 0
unfolding rows_placed
rows_other config text zero word not_content = refl
rows_other config text (suc row) (Heap address) not_content = absurd cc
rows_other config text (suc row) (Top region) not_content = absurd cc
rows_other config text (suc row) word not_content = rows_other config text row word not_content

rows_root : (config : Config) (text : Text) (row mutator index : ℕ) → rows_placed config text row (Root mutator index) ≡ 0
unfolding rows_placed
rows_root config text zero mutator index = refl
rows_root config text (suc row) mutator index = rows_root config text row mutator index

-- Root after root.

stored_there : (config : Config) (text : Text) (stored_mutator roots mutator index : ℕ) (memory : Word → ℕ) → mutator ≡ stored_mutator → index < roots → roots_stored config text stored_mutator roots memory (Root mutator index) ≡ word_for config text (root_of text (mutator + 1) index)
stored_there config text stored roots mutator index memory same_mutator index_below = cond-true ((mutator == stored) && nat_lt index roots) (word_for config text (root_of text (mutator + 1) index)) (memory (Root mutator index)) (and_from _ _ (eq-eqb mutator stored same_mutator) (lt-ltb index roots index_below))

stored_elsewhere : (config : Config) (text : Text) (stored_mutator roots mutator index : ℕ) (memory : Word → ℕ) → (mutator ≡ stored_mutator → index < roots → ⊥) → roots_stored config text stored_mutator roots memory (Root mutator index) ≡ memory (Root mutator index)
stored_elsewhere config text stored roots mutator index memory root_outside =
    cond-false ((mutator == stored) && nat_lt index roots) (word_for config text (root_of text (mutator + 1) index)) (memory (Root mutator index))
    (false_from_ne_true ((mutator == stored) && nat_lt index roots) (λ both_hold. let both_parts = and_parts (mutator == stored) (nat_lt index roots) both_hold in root_outside (eqb-true mutator stored both_parts.0) (ltb-true index roots both_parts.1)))

pub stored_none : (config : Config) (text : Text) (mutator : ℕ) (memory : Word → ℕ) → memory ≡ roots_stored config text mutator 0 memory
stored_none config text mutator memory = fun_ext (λ word. at word)
  where
    at : (word : Word) → memory word ≡ roots_stored config text mutator 0 memory word
    at (Root root_mutator root_index) = sym (stored_elsewhere config text mutator 0 root_mutator root_index memory (λ same_mutator index_below. omega (arith, index_below)))
    at _ = refl

pub stored_more : (config : Config) (text : Text) (mutator index : ℕ) (memory : Word → ℕ) → write (roots_stored config text mutator index memory) (Root mutator index) (word_for config text (root_of text (mutator + 1) index)) ≡ roots_stored config text mutator (index + 1) memory
stored_more config text mutator index memory = fun_ext (λ word. at word)
  where
    at : (word : Word) → write (roots_stored config text mutator index memory) (Root mutator index) (word_for config text (root_of text (mutator + 1) index)) word ≡ roots_stored config text mutator (index + 1) memory word
    at (Root root_mutator root_index) = ⊎_elim
        (λ (same_root : ((mutator == root_mutator) && (index == root_index)) ≡ true).
        let both_parts = and_parts (mutator == root_mutator) (index == root_index) same_root in
        let mutator_is = eqb-true mutator root_mutator both_parts.0 in
        let index_is = eqb-true index root_index both_parts.1 in
        cond-true ((mutator == root_mutator) && (index == root_index)) (word_for config text (root_of text (mutator + 1) index)) (roots_stored config text mutator index memory (Root root_mutator root_index)) same_root
        ∙ ap (λ (number : ℕ). word_for config text (root_of text (number + 1) index)) mutator_is ∙ ap (λ (number : ℕ). word_for config text (root_of text (root_mutator + 1) number)) index_is
        ∙ sym (stored_there config text mutator (index + 1) root_mutator root_index memory (sym mutator_is) (omega (arith, index_is))))
        (λ (root_elsewhere : ((mutator == root_mutator) && (index == root_index)) ≡ false).
        cond-false ((mutator == root_mutator) && (index == root_index)) (word_for config text (root_of text (mutator + 1) index)) (roots_stored config text mutator index memory (Root root_mutator root_index)) root_elsewhere
        ∙ ⊎_elim
        (λ (root_before : ((root_mutator == mutator) && nat_lt root_index index) ≡ true).
        let both_parts = and_parts (root_mutator == mutator) (nat_lt root_index index) root_before in
        let same_mutator = eqb-true root_mutator mutator both_parts.0 in
        let index_below = ltb-true root_index index both_parts.1 in
        stored_there config text mutator index root_mutator root_index memory same_mutator index_below ∙ sym (stored_there config text mutator (index + 1) root_mutator root_index memory same_mutator (omega (arith, index_below))))
        (λ (was_elsewhere : ((root_mutator == mutator) && nat_lt root_index index) ≡ false).
        cond-false ((root_mutator == mutator) && nat_lt root_index index) (word_for config text (root_of text (root_mutator + 1) root_index)) (memory (Root root_mutator root_index)) was_elsewhere
        ∙ sym (stored_elsewhere config text mutator (index + 1) root_mutator root_index memory (λ same_mutator index_below. ⊎_elim
        (λ (at_last : index ≡ root_index). let both_hold : ((mutator == root_mutator) && (index == root_index)) ≡ true = and_from _ _ (eq-eqb mutator root_mutator (sym same_mutator)) (eq-eqb index root_index at_last) in let outside_before = root_elsewhere in cc)
        (λ (not_last : index ≢ root_index). let both_hold : ((root_mutator == mutator) && nat_lt root_index index) ≡ true = and_from _ _ (eq-eqb root_mutator mutator same_mutator) (lt-ltb root_index index (omega (arith, index_below, not_last))) in let outside_before = was_elsewhere in cc)
        (cases_eq index root_index))))
        (cases_Bool ((root_mutator == mutator) && nat_lt root_index index)))
        (cases_Bool ((mutator == root_mutator) && (index == root_index)))
    at _ = refl

all_there : (config : Config) (text : Text) (mutators mutator index : ℕ) (memory : Word → ℕ) → mutator < mutators → index < 16 → all_roots_stored config text mutators memory (Root mutator index) ≡ word_for config text (root_of text (mutator + 1) index)
all_there config text mutators mutator index memory mutator_below index_below = cond-true (nat_lt mutator mutators && nat_lt index 16) (word_for config text (root_of text (mutator + 1) index)) (memory (Root mutator index)) (and_from _ _ (lt-ltb mutator mutators mutator_below) (lt-ltb index 16 index_below))

all_elsewhere : (config : Config) (text : Text) (mutators mutator index : ℕ) (memory : Word → ℕ) → (mutator < mutators → index < 16 → ⊥) → all_roots_stored config text mutators memory (Root mutator index) ≡ memory (Root mutator index)
all_elsewhere config text mutators mutator index memory root_outside =
    cond-false (nat_lt mutator mutators && nat_lt index 16) (word_for config text (root_of text (mutator + 1) index)) (memory (Root mutator index))
    (false_from_ne_true (nat_lt mutator mutators && nat_lt index 16) (λ both_hold. let both_parts = and_parts (nat_lt mutator mutators) (nat_lt index 16) both_hold in root_outside (ltb-true mutator mutators both_parts.0) (ltb-true index 16 both_parts.1)))

pub all_none : (config : Config) (text : Text) (memory : Word → ℕ) → memory ≡ all_roots_stored config text 0 memory
all_none config text memory = fun_ext (λ word. at word)
  where
    at : (word : Word) → memory word ≡ all_roots_stored config text 0 memory word
    at (Root root_mutator root_index) = sym (all_elsewhere config text 0 root_mutator root_index memory (λ mutator_below small. omega (arith, mutator_below)))
    at _ = refl

pub all_more : (config : Config) (text : Text) (mutators : ℕ) (memory : Word → ℕ) → roots_stored config text mutators 16 (all_roots_stored config text mutators memory) ≡ all_roots_stored config text (mutators + 1) memory
all_more config text mutators memory = fun_ext (λ word. at word)
  where
    at : (word : Word) → roots_stored config text mutators 16 (all_roots_stored config text mutators memory) word ≡ all_roots_stored config text (mutators + 1) memory word
    at (Root root_mutator root_index) = ⊎_elim
        (λ (index_below : root_index < 16). ⊎_elim
        (λ (at_mutator : root_mutator ≡ mutators). stored_there config text mutators 16 root_mutator root_index (all_roots_stored config text mutators memory) at_mutator index_below ∙ sym (all_there config text (mutators + 1) root_mutator root_index memory (omega (arith, at_mutator)) index_below))
        (λ (mutators_differ : root_mutator ≢ mutators).
        stored_elsewhere config text mutators 16 root_mutator root_index (all_roots_stored config text mutators memory) (λ same_mutator mutator_below. mutators_differ same_mutator)
        ∙ ⊎_elim
        (λ (mutator_below : root_mutator < mutators). all_there config text mutators root_mutator root_index memory mutator_below index_below ∙ sym (all_there config text (mutators + 1) root_mutator root_index memory (omega (arith, mutator_below)) index_below))
        (λ (mutator_past : mutators ≤ root_mutator). all_elsewhere config text mutators root_mutator root_index memory (λ low few. omega (arith, low, mutator_past)) ∙ sym (all_elsewhere config text (mutators + 1) root_mutator root_index memory (λ low few. omega (arith, low, mutator_past, mutators_differ))))
        (cases_lt root_mutator mutators))
        (cases_eq root_mutator mutators))
        (λ (index_large : 16 ≤ root_index).
        stored_elsewhere config text mutators 16 root_mutator root_index (all_roots_stored config text mutators memory) (λ same_mutator mutator_below. omega (arith, mutator_below, index_large))
        ∙ all_elsewhere config text mutators root_mutator root_index memory (λ low few. omega (arith, few, index_large)) ∙ sym (all_elsewhere config text (mutators + 1) root_mutator root_index memory (λ low few. omega (arith, few, index_large))))
        (cases_lt root_index 16)
    at _ = refl

-- All together.

-- the words after the objects, the roots, the free word and the count of mutators
abbrev pub written : Config → Text → Word → ℕ
written config text =
    let rooted : Word → ℕ = all_roots_stored config text config.mutators (rows_placed config text (length text.rows)) in
    write (write rooted Free (empty_regions (λ region. rooted (Top region)) config.regions)) Left config.mutators

pub written_is : (config : Config) (text : Text) → written config text ≡ all_placed config text
written_is config text = fun_ext (λ word. at word)
  where
    at : (word : Word) → written config text word ≡ all_placed config text word
    at (Root root_mutator root_index) = ap (λ (x : ℕ). if nat_lt root_mutator config.mutators && nat_lt root_index 16 then word_for config text (root_of text (root_mutator + 1) root_index) else x) (rows_root config text (length text.rows) root_mutator root_index)
    at _ = refl

module _ (config : Config) (text : Text) (text_placeable : IsPlaceable config text) where
  -- the words of an object stay when later ones are placed
  rows_object : (rows row offset : ℕ) → row < rows → offset < words_of_row text row → rows_placed config text rows (Heap (address_of config text row + offset)) ≡ get_or (words_of_object (word_for config text) (row_of text row)) offset 0
  unfolding rows_placed
  rows_object zero row offset row_below offset_inside = absurd (omega (arith, row_below))
  rows_object (suc rows) row offset row_below offset_inside =
      let address = address_of config text row + offset in
      ⊎_elim
      (λ (is_last : rows ≡ row).
      let same_address : address_of config text rows ≡ address_of config text row = ap (address_of config text) is_last in
      let same_words : words_of_row text rows ≡ words_of_row text row = ap (words_of_row text) is_last in
      let same_offset : address - address_of config text rows ≡ offset = omega (arith, same_address) in
      copied_inside (address_of config text rows) (words_of_row text rows) address (words_of_object (word_for config text) (row_of text rows)) (rows_placed config text rows) (omega (arith, same_address)) (omega (arith, same_address, same_words, offset_inside))
      ∙ ap (λ place. get_or (words_of_object (word_for config text) (row_of text rows)) place 0) same_offset ∙ ap (λ place. get_or (words_of_object (word_for config text) (row_of text place)) offset 0) is_last)
      (λ (not_last : rows ≢ row).
      let row_less : row < rows = omega (arith, row_below, not_last) in
      copied_outside (address_of config text rows) (words_of_row text rows) address (words_of_object (word_for config text) (row_of text rows)) (rows_placed config text rows) (λ low high. omega (arith, low, offset_inside, located.stand_apart config text text_placeable row rows row_less))
      ∙ rows_object rows row offset row_less offset_inside)
      (cases_eq rows row)

  -- what apart object covers is 0
  rows_unused : (rows address : ℕ) → ((row offset : ℕ) → row < rows → offset < words_of_row text row → address ≢ address_of config text row + offset) → rows_placed config text rows (Heap address) ≡ 0
  unfolding rows_placed
  rows_unused zero address not_covered = refl
  rows_unused (suc rows) address not_covered =
      copied_outside (address_of config text rows) (words_of_row text rows) address (words_of_object (word_for config text) (row_of text rows)) (rows_placed config text rows)
      (λ low high. not_covered rows (address - address_of config text rows) (omega arith) (omega (arith, low, high)) (omega (arith, low)))
      ∙ rows_unused rows address (λ row offset row_below inside. not_covered row offset (omega (arith, row_below)) inside)

  others_are_0 : (word : Word) → is_content word ≡ false → all_placed config text word ≡ 0
  others_are_0 Left not_content = absurd cc
  others_are_0 Free not_content = absurd cc
  others_are_0 (Root mutator index) not_content = absurd cc
  others_are_0 word not_content = rows_other config text (length text.rows) word not_content

  pub is_placed : IsPlaced config text (all_placed config text)
  is_placed = record {
    objects = λ row index in_range inside. rows_object (length text.rows) row index in_range inside;
    unused = λ address not_covered. rows_unused (length text.rows) address not_covered;
    tops = λ region. top_is config text (length text.rows) region;
    free = refl;
    roots = λ mutator index in_range small. cond-true (nat_lt mutator config.mutators && nat_lt index 16) (word_for config text (root_of text (mutator + 1) index)) 0 (and_from _ _ (lt-ltb mutator config.mutators in_range) (lt-ltb index 16 small));
    left = refl;
    others = others_are_0;
  }
