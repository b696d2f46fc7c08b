-- Lists of rounds and of scripts, as they are made.
use Rattle.std.proofs.Common.{ℕ, ◌≡◌, ◌+◌, ◌-◌, ◌≤◌, List, [], ◌∷◌, ◌++◌, map, refl, ap, ◌∙◌, sym, arith}
use Rattle.std.specs.List.{flat_map, range_with_len}
use Rattle.std.proofs.lemmas.List.{append-nil}
use Rattle.std.proofs.lemmas.List.FromFn.{map-range_with_len_more}
use Rattle.std.proofs.lemmas.List.Folds.{flat_map-map}
use Rattle.std.proofs.lemmas.Grind.{flat_map-append}
use Rattle.churn.specs.Script.{churn_script, churn_scripts}

-- one round more
pub rounds_more : {A : Type 0} (f : ℕ → List A) (i : ℕ) → flat_map f (range_with_len 0 (i + 1)) ≡ flat_map f (range_with_len 0 i) ++ f i
rounds_more f i =
    let identity : ℕ → ℕ = λ number. number in
    let end_number : 0 + i ≡ i = omega arith in
    let range_grown = map-range_with_len_more identity 0 i i end_number in
    sym (flat_map-map f identity (range_with_len 0 (i + 1))) ∙ ap (flat_map f) range_grown ∙ flat_map-append f (map identity (range_with_len 0 i)) (i ∷ [])
    ∙ ap (λ list. flat_map f (map identity (range_with_len 0 i)) ++ list) (append-nil (f i)) ∙ ap (λ list. list ++ f i) (flat_map-map f identity (range_with_len 0 i))

-- one script more
pub scripts_more : {A : Type 0} (f : ℕ → A) (thread : ℕ) → 1 ≤ thread → map f (range_with_len 1 (thread + 1 - 1)) ≡ map f (range_with_len 1 (thread - 1)) ++ f thread ∷ []
scripts_more f thread low =
    let count : thread + 1 - 1 ≡ (thread - 1) + 1 = omega arith in
    let end_thread : 1 + (thread - 1) ≡ thread = omega arith in
    ap (λ range_length. map f (range_with_len 1 range_length)) count ∙ map-range_with_len_more f 1 (thread - 1) thread end_thread

-- all three
pub scripts_all : (seed count thread : ℕ) → thread ≡ 4 → map (churn_script seed count) (range_with_len 1 (thread - 1)) ≡ churn_scripts seed count
scripts_all seed count thread four_threads = rw four_threads refl
