-- Sums and lists over numbers in a row.
use Rattle.std.proofs.Common.{ℕ, ◌≡◌, ◌+◌, List, [], ◌∷◌, ◌++◌, sum_by, ap, sym, append-nil, ◌∙◌}
use Rattle.std.specs.List.{flat_map, range_with_len}
use Rattle.std.proofs.lemmas.List.{map-id}
use Rattle.std.proofs.lemmas.List.Concat.{flat_map-append}
use Rattle.std.proofs.lemmas.List.FromFn.{map-range_with_len_more, sum_by-map-range_with_len_more}

pub sum_more : (f : ℕ → ℕ) (start count last_number : ℕ) → start + count ≡ last_number → sum_by f (range_with_len start (count + 1)) ≡ sum_by f (range_with_len start count) + f last_number
sum_more f start count last_number same_number =
    ap (sum_by f) (sym (map-id (range_with_len start (count + 1))))
    ∙ sum_by-map-range_with_len_more f (λ (x : ℕ). x) start count last_number same_number
    ∙ ap (λ (numbers : List ℕ). sum_by f numbers + f last_number) (map-id (range_with_len start count))

pub flat_more : {A : Type 0} (f : ℕ → List A) (start count last_number : ℕ) → start + count ≡ last_number → flat_map f (range_with_len start (count + 1)) ≡ flat_map f (range_with_len start count) ++ f last_number
flat_more {A} f start count same_number e =
    let longer : range_with_len start (count + 1) ≡ range_with_len start count ++ same_number ∷ [] =
    sym (map-id (range_with_len start (count + 1))) ∙ map-range_with_len_more (λ (x : ℕ). x) start count same_number e ∙ ap (λ (elements : List ℕ). elements ++ same_number ∷ []) (map-id (range_with_len start count)) in
    ap (flat_map f) longer ∙ flat_map-append f (range_with_len start count) (same_number ∷ []) ∙ ap (λ (elements : List A). flat_map f (range_with_len start count) ++ elements) (append-nil (f same_number))
