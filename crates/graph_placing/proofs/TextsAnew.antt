-- The text whose objects are named anew: its objects stand where those of the old names would, and it can be placed as well.
use Rattle.std.proofs.Common.{◌≡◌, ℕ, ◌+◌, ◌-◌, ◌<◌, ◌≤◌, suc, zero, List, [], ◌∷◌, ◌++◌, map, length, get_or, Some, None, Contains, ⊎_elim, refl, sym, ap, ◌∙◌, subst, arith}
use Rattle.std.specs.Prelude.{slice_get, ◌==◌, if◌then◌else◌}
use Rattle.std.proofs.Math.Path.{fun_ext}
use Rattle.std.proofs.lemmas.Bool.{cases_lt}
use Rattle.std.proofs.lemmas.List.{get_or-map, get_or_past, length-map}
use Rattle.std.proofs.lemmas.List.Elements.{All-map, All-weaker}
use Rattle.shen_graph.proofs.Lists.{contains_mapped, mapped_at, mapped_from}
use Rattle.heap_words.specs.declared.config.Config.{Config}
use Rattle.heap_words.specs.Encoding.{plain_header, shape_word, name_code}
use Rattle.regions.specs.Place.{base_of, region_with}
use Rattle.regions.specs.Places.{none_shut, end_before, new_place}
use Rattle.shen_graph.specs.declared.name.Name.{Name}
use Rattle.shen_graph.specs.Graph.{Reference, hub}
use Rattle.shen_graph.specs.GraphText.{Text, Row, row_of, bare, names_of, root_of, roots_of}
use Rattle.shen_graph.specs.Reach.{InOrder}
use Rattle.graph_placing.specs.ByName.{words_of_row, address_of, end_behind, Fits, used_words}
use Rattle.graph_placing.specs.PlacedHeap.{place_among, word_for, words_of_object}
use Rattle.graph_placing.specs.PlaceableText.{IsShort, IsPlaceable}
use Rattle.graph_placing.specs.NamesAnew.{earlier_names, name_anew, renamed, row_renamed, text_renamed, text_anew}
use Rattle.graph_placing.proofs.Renamings.{is_renaming}
use Rattle.graph_placing.proofs.Mapped.{in_order_mapped, place_mapped}

-- Texts with other names.

names_of_rows : (f : Name → Name) (rows : List Row) → map (λ (row : Row). row.name) (map (row_renamed f) rows) ≡ map f (map (λ (row : Row). row.name) rows)
names_of_rows f [] = refl
names_of_rows f (row ∷ rows) = ap (λ (names : List Name). f row.name ∷ names) (names_of_rows f rows)

pub names_renamed : (f : Name → Name) (text : Text) → names_of (text_renamed f text) ≡ map f (names_of text)
names_renamed f text = names_of_rows f text.rows

pub rows_count : (f : Name → Name) (text : Text) → length (text_renamed f text).rows ≡ length text.rows
rows_count f text = length-map text.rows (row_renamed f)

pub row_is : (f : Name → Name) (text : Text) (index : ℕ) → index < length text.rows → row_of (text_renamed f text) index ≡ row_renamed f (row_of text index)
row_is f text index index_below = get_or-map (row_renamed f) text.rows index (bare hub) (bare hub) index_below

pub root_is : (f : Name → Name) (text : Text) (thread index : ℕ) → root_of (text_renamed f text) thread index ≡ renamed f (root_of text thread index)
root_is f text thread index =
    ap (λ (row : List Reference). get_or row index None) (mapped_at (map (renamed f)) text.roots (thread - 1) []) ∙ mapped_at (renamed f) (roots_of text thread) index None

pub words_at : (f : Name → Name) (text : Text) (index : ℕ) → words_of_row (text_renamed f text) index ≡ words_of_row text index
words_at f text index = ⊎_elim
    (λ (index_below : index < length text.rows).
    ap (λ (row : Row). 3 + length row.refs + length row.nums) (row_is f text index index_below) ∙ ap (λ refs_count. 3 + refs_count + length (row_of text index).nums) (length-map (row_of text index).refs (renamed f)))
    (λ (index_past : length text.rows ≤ index).
    ap (λ (row : Row). 3 + length row.refs + length row.nums) (get_or_past (text_renamed f text).rows index (bare hub) (omega (arith, index_past, rows_count f text)) ∙ sym (get_or_past text.rows index (bare hub) index_past)))
    (cases_lt index (length text.rows))

pub words_are : (f : Name → Name) (text : Text) → words_of_row (text_renamed f text) ≡ words_of_row text
words_are f text = fun_ext (λ index. words_at f text index)

pub address_is : (config : Config) (f : Name → Name) (text : Text) (index : ℕ) → address_of config (text_renamed f text) index ≡ address_of config text index
address_is config f text index = ap (λ (words : ℕ → ℕ). new_place config.region_words none_shut words index) (words_are f text)

-- the words of a region that are used, by one object more
abbrev used_step : Config → (address words before region : ℕ) → ℕ
used_step config address words before region = if region_with config address == region then address + words - base_of config region else before

same_step : (config : Config) (address other_address words other_words used other_used region : ℕ) → address ≡ other_address → words ≡ other_words → used ≡ other_used → used_step config address words used region ≡ used_step config other_address other_words other_used region
same_step config address other_address words other_words used other_used region same_address same_words same_used = ap (λ address. used_step config address words used region) same_address ∙ ap (λ words. used_step config other_address words used region) same_words ∙ ap (λ words_so_far. used_step config other_address other_words words_so_far region) same_used

pub used_is : (config : Config) (f : Name → Name) (text : Text) (rows region : ℕ) → used_words config (text_renamed f text) rows region ≡ used_words config text rows region
unfolding used_words
used_is config f text zero region = refl
used_is config f text (suc index) region =
    same_step config (address_of config (text_renamed f text) index) (address_of config text index) (words_of_row (text_renamed f text) index) (words_of_row text index) (used_words config (text_renamed f text) index region) (used_words config text index region) region
    (address_is config f text index) (words_at f text index) (used_is config f text index region)

pub fits_anew : (config : Config) (f : Name → Name) (text : Text) → Fits config text → Fits config (text_renamed f text)
fits_anew config f text fits =
    let same_end : end_behind config (text_renamed f text) (length (text_renamed f text).rows) ≡ end_behind config text (length text.rows) =
    ap (λ (words : ℕ → ℕ). end_before config.region_words none_shut words (length (text_renamed f text).rows)) (words_are f text) ∙ ap (end_behind config text) (rows_count f text) in
    omega (arith, same_end, fits)

-- The words of an object whose references are renamed.

words_mapped : (f : Name → Name) (word other_word : Reference → ℕ) (refs : List Reference)
    → ((index : ℕ) (reference : Reference) → slice_get refs index ≡ Some reference → other_word (renamed f reference) ≡ word reference) → map other_word (map (renamed f) refs) ≡ map word refs
words_mapped f word other_word [] same_word = refl
words_mapped f word other_word (reference ∷ refs) same_word =
    ap (λ (x : ℕ). x ∷ map other_word (map (renamed f) refs)) (same_word 0 reference refl) ∙ ap (λ (xs : List ℕ). word reference ∷ xs) (words_mapped f word other_word refs (λ index later_reference reference_is. same_word (suc index) later_reference reference_is))

pub not_the_name : (header shape old_word new_word : ℕ) (xs : List ℕ) (index : ℕ) → (index ≡ 2 → ⊥) → get_or (header ∷ shape ∷ old_word ∷ xs) index 0 ≡ get_or (header ∷ shape ∷ new_word ∷ xs) index 0
not_the_name header shape old_word new_word xs zero not_two = refl
not_the_name header shape old_word new_word xs (suc zero) not_two = refl
not_the_name header shape old_word new_word xs (suc (suc zero)) not_two = absurd (not_two (omega arith))
not_the_name header shape old_word new_word xs (suc (suc (suc index))) not_two = refl

module _ (config : Config) (text : Text) (text_placeable : IsPlaceable config text) where
  abbrev names : List Name
  names = names_of text

  abbrev anew : Name → Name
  anew = name_anew names

  -- A text whose objects are named anew can be placed.

  in_order : InOrder (names_of (text_anew text))
  in_order = subst InOrder (sym (names_renamed anew text)) (in_order_mapped anew names (is_renaming names text_placeable.in_order).order text_placeable.in_order)

  has_row : (reference : Reference) (name : Name) → ((old : Name) → reference ≡ Some old → Contains names old) → renamed anew reference ≡ Some name → Contains (names_of (text_anew text)) name
  has_row None name names_there renamed_is = absurd (cc)
  has_row (Some old) name names_there renamed_is =
      let new : anew old ≡ name = cc in
      subst (λ (name_list : List Name). Contains name_list name) (sym (names_renamed anew text)) (subst (Contains (map anew names)) new (contains_mapped anew names old (names_there old refl)))

  pub placeable_anew : IsPlaceable config (text_anew text)
  placeable_anew = record {
    threads = length-map text.roots (map (renamed anew)) ∙ text_placeable.threads;
    sixteen = All-map (λ (row : List Reference). length row ≡ 16) (map (renamed anew)) text.roots
        (All-weaker (λ (row : List Reference). length row ≡ 16) (λ (row : List Reference). length (map (renamed anew) row) ≡ 16) (λ row row_sixteen. length-map row (renamed anew) ∙ row_sixteen) text.roots text_placeable.sixteen);
    in_order = in_order;
    short = λ row_number index_below.
        let row_inside : row_number < length text.rows = omega (arith, index_below, rows_count anew text) in
        let row_short = text_placeable.short row_number row_inside in
        subst IsShort (sym (row_is anew text row_number row_inside)) (record { refs = omega (arith, length-map (row_of text row_number).refs (renamed anew), row_short.refs); nums = row_short.nums });
    references = λ row_number place name index_below reference_is.
        let row_inside : row_number < length text.rows = omega (arith, index_below, rows_count anew text) in
        let old = mapped_from (renamed anew) (row_of text row_number).refs place (Some name) (ap (λ (row : Row). slice_get row.refs place) (sym (row_is anew text row_number row_inside)) ∙ reference_is) in
        has_row old.0 name (λ old_name names_it. text_placeable.references row_number place old_name row_inside (old.1 ∙ ap (λ (reference : Reference). Some reference) names_it)) old.2;
    roots = λ thread index name low high small reference_is.
        has_row (root_of text thread index) name (λ old_name names_it. text_placeable.roots thread index old_name low high small names_it) (sym (root_is anew text thread index) ∙ reference_is);
  }

  -- References lead to the same addresses.
  pub word_is : (reference : Reference) → ((name : Name) → reference ≡ Some name → Contains names name) → word_for config (text_anew text) (renamed anew reference) ≡ word_for config text reference
  word_is None names_there = refl
  word_is (Some name) names_there =
      let same_place : place_among (names_of (text_anew text)) (anew name) ≡ place_among names name =
      ap (λ (name_list : List Name). place_among name_list (anew name)) (names_renamed anew text) ∙ place_mapped anew names name (λ other_name in_m same_anew. (is_renaming names text_placeable.in_order).one_to_one other_name name in_m (names_there name refl) same_anew) in
      ap (address_of config (text_anew text)) same_place ∙ address_is config anew text (place_among names name)

  -- An object's words, with its new name
  pub object_is : (index : ℕ) → index < length text.rows → words_of_object (word_for config (text_anew text)) (row_of (text_anew text) index)
      ≡ plain_header ∷ shape_word (length (row_of text index).refs) (length (row_of text index).nums) ∷ name_code (row_of text index).name.thread (earlier_names names (row_of text index).name + 1) ∷ map (word_for config text) (row_of text index).refs ++ (row_of text index).nums
  object_is index index_below =
      let text_row = row_of text index in
      ap (words_of_object (word_for config (text_anew text))) (row_is anew text index index_below)
      ∙ ap (λ (n : ℕ). plain_header ∷ shape_word n (length text_row.nums) ∷ name_code text_row.name.thread (earlier_names names text_row.name + 1) ∷ map (word_for config (text_anew text)) (map (renamed anew) text_row.refs) ++ text_row.nums) (length-map text_row.refs (renamed anew))
      ∙ ap (λ (xs : List ℕ). plain_header ∷ shape_word (length text_row.refs) (length text_row.nums) ∷ name_code text_row.name.thread (earlier_names names text_row.name + 1) ∷ xs ++ text_row.nums)
      (words_mapped anew (word_for config text) (word_for config (text_anew text)) text_row.refs (λ place reference reference_is. word_is reference (λ name names_it. text_placeable.references index place name index_below (reference_is ∙ ap (λ (reference : Reference). Some reference) names_it))))
