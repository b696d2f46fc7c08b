-- The words of an object by their places in it.
use Rattle.std.proofs.Common.{◌≡◌, ℕ, suc, ◌+◌, ◌<◌, List, ◌∷◌, ◌++◌, map, length, get_or, None, ap, ◌∙◌, arith}
use Rattle.std.proofs.lemmas.List.{get_or-map, get_or_append_left, get_or-append-add, length-map}
use Rattle.heap_words.specs.Encoding.{plain_header, shape_word, name_code}
use Rattle.shen_graph.specs.Graph.{Reference}
use Rattle.shen_graph.specs.GraphText.{Row}
use Rattle.graph_placing.specs.PlacedHeap.{words_of_object}

-- the words behind header, shape and name
behind : (header shape name_word : ℕ) (xs : List ℕ) (index word_index : ℕ) → word_index ≡ 3 + index → get_or (header ∷ shape ∷ name_word ∷ xs) word_index 0 ≡ get_or xs index 0
behind header shape name_word xs index word_index behind_three = let later : word_index ≡ suc (suc (suc index)) = omega (arith, behind_three) in ap (λ index. get_or (header ∷ shape ∷ name_word ∷ xs) index 0) later

-- a reference
pub reference_word : (word : Reference → ℕ) (row : Row) (index word_index : ℕ) → word_index ≡ 3 + index → index < length row.refs → get_or (words_of_object word row) word_index 0 ≡ word (get_or row.refs index None)
reference_word word row index word_index behind_three index_below =
    let index_inside : index < length (map word row.refs) = omega (arith, length-map row.refs word, index_below) in
    behind plain_header (shape_word (length row.refs) (length row.nums)) (name_code row.name.thread row.name.count) (map word row.refs ++ row.nums) index word_index behind_three
    ∙ get_or_append_left (map word row.refs) row.nums 0 index index_inside ∙ get_or-map word row.refs index None 0 index_below

-- a number
pub number_word : (word : Reference → ℕ) (row : Row) (number_index index : ℕ) → index ≡ 3 + length row.refs + number_index → get_or (words_of_object word row) index 0 ≡ get_or row.nums number_index 0
number_word word row number_index index behind_references =
    let number_place : index ≡ 3 + (length (map word row.refs) + number_index) = omega (arith, behind_references, length-map row.refs word) in
    behind plain_header (shape_word (length row.refs) (length row.nums)) (name_code row.name.thread row.name.count) (map word row.refs ++ row.nums) (length (map word row.refs) + number_index) index number_place
    ∙ get_or-append-add (map word row.refs) row.nums number_index 0
