-- What is gone from a list, and its rest as code names it.
use Rattle.std.proofs.Common.{◌≡◌, ℕ, ◌-◌, List, ◌++◌, length, take, drop, sym, ap, ◌∙◌, append_assoc, append-nil, take-append-drop}
use Rattle.std.proofs.lemmas.List.{take_rest, nil_from_length}

-- a front of the rest moves behind what is done
pub front_moves : (whole done rest : List ℕ) (count : ℕ) → done ++ rest ≡ whole → (done ++ take count rest) ++ take (length rest - count) (drop count rest) ≡ whole
front_moves whole done rest count done_and_rest =
    append_assoc done (take count rest) (take (length rest - count) (drop count rest))
    ∙ ap (λ text. done ++ (take count rest ++ text)) (take_rest rest count)
    ∙ ap (λ text. done ++ text) (take-append-drop count rest) ∙ done_and_rest

-- where nothing is left, all is done
pub front_is_all : (whole done rest : List ℕ) → length rest ≡ 0 → done ++ rest ≡ whole → done ≡ whole
front_is_all whole done rest none_left done_and_rest = sym (append-nil done) ∙ ap (λ text. done ++ text) (sym (nil_from_length rest none_left)) ∙ done_and_rest

-- the rest of a list, as code takes it
pub rest_whole : (xs ys : List ℕ) (size index : ℕ) → length xs ≡ size → drop index xs ≡ ys → take (size - index) (drop index xs) ≡ ys
rest_whole xs ys size index has_size same_rest = ap (λ list_size. take (list_size - index) (drop index xs)) (sym has_size) ∙ take_rest xs index ∙ same_rest
