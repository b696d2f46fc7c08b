-- A list that is copied over another of the same length, from the front.
use Rattle.std.proofs.Common.{ℕ, suc, ◌≡◌, ◌+◌, ◌-◌, ◌<◌, ◌≤◌, List, [], ◌∷◌, ◌++◌, length, take, drop, get_or, set, sym, ap, ◌∙◌, drop-cons, arith, length-append, length-drop}
use Rattle.std.proofs.lemmas.List.{append_assoc, append-nil, length-take-le, take_more, take_all, drop_all, get_or-append_right}
use Rattle.std.proofs.Math.Seq.{set-append_seam}

-- the first so many are copied
abbrev pub mixed : {A : Type 0} → ℕ → List A → List A → List A
mixed count xs ys = take count xs ++ drop count ys

pub mixed_more : {A : Type 0} (xs ys : List A) (index : ℕ) (default : A) → length ys ≡ length xs → index < length xs → set (mixed index xs ys) index (get_or xs index default) ≡ mixed (index + 1) xs ys
mixed_more xs ys index default same_length index_below =
    let own_element = get_or xs index default in
    let other_element = get_or ys index default in
    let rest = drop (suc index) ys in
    let taken_length : length (take index xs) ≡ index = length-take-le index xs (omega arith) in
    let next_number : suc index ≡ index + 1 = omega arith in
    ap (λ list. set (take index xs ++ list) index own_element) (drop-cons ys index default (omega arith))
    ∙ ap (λ place. set (take index xs ++ other_element ∷ rest) place own_element) (sym taken_length)
    ∙ set-append_seam (take index xs) other_element rest own_element
    ∙ sym (append_assoc (take index xs) (own_element ∷ []) rest)
    ∙ ap (λ list. list ++ rest) (sym (take_more xs index default index_below))
    ∙ ap (λ place. take (index + 1) xs ++ drop place ys) next_number

pub mixed_next : {A : Type 0} (xs ys : List A) (index : ℕ) (default : A) → length ys ≡ length xs → index < length xs → get_or (mixed index xs ys) index default ≡ get_or ys index default
mixed_next xs ys index default same_length index_below =
    let taken_length : length (take index xs) ≡ index = length-take-le index xs (omega arith) in
    let no_difference : index - index ≡ 0 = omega arith in
    get_or-append_right (take index xs) (drop index ys) index index default taken_length (omega arith)
    ∙ ap (λ other_index. get_or (drop index ys) other_index default) no_difference
    ∙ ap (λ list. get_or list 0 default) (drop-cons ys index default (omega arith))

pub length-mixed : {A : Type 0} (xs ys : List A) (count : ℕ) → length ys ≡ length xs → count ≤ length xs → length (mixed count xs ys) ≡ length xs
length-mixed xs ys count same_length count_within = omega (arith, length-append (take count xs) (drop count ys), length-take-le count xs count_within, length-drop count ys)

pub mixed_all : {A : Type 0} (xs ys : List A) (count : ℕ) → length ys ≡ length xs → length xs ≤ count → mixed count xs ys ≡ xs
mixed_all xs ys count same_length count_covers =
    ap (λ list. list ++ drop count ys) (take_all count xs count_covers) ∙ ap (λ list. xs ++ list) (drop_all count ys (omega arith)) ∙ append-nil xs
