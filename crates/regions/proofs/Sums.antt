-- Sums over the numbers below a number.
use Rattle.std.proofs.Common.{◌≡◌, ◌≢◌, ℕ, ◌+◌, ◌-◌, ◌<◌, ◌≤◌, ◌==◌, zero, suc, List, [], ◌∷◌, length, get_or, sum_by, ⊎_elim, refl, sym, ap, ◌∙◌, subst, arith}
use Rattle.std.specs.Prelude.{if◌then◌else◌, nat_lt}
use Rattle.std.proofs.lemmas.Bool.{cases_eq, cond-true, cond-false, eq-eqb, ne_eqb, lt-ltb, le-ltb}
use Rattle.std.proofs.lemmas.List.Sums.{sum_by-cons}
use Rattle.regions.specs.Tops.{sum_below}

-- one step of the recursion
pub sum_next : (f : ℕ → ℕ) (n : ℕ) → sum_below f (suc n) ≡ sum_below f n + f n
unfolding sum_below
sum_next f n = refl

pub sum_none : (f : ℕ → ℕ) → sum_below f 0 ≡ 0
unfolding sum_below
sum_none f = refl

-- functions that agree below a number have one sum
pub sum_same : (f g : ℕ → ℕ) (n : ℕ) → ((index : ℕ) → index < n → f index ≡ g index) → sum_below f n ≡ sum_below g n
sum_same f g zero same_terms = sum_none f ∙ sym (sum_none g)
sum_same f g (suc n) same_terms =
    let same_rest = sum_same f g n (λ index index_below. same_terms index (omega (arith, index_below))) in
    omega (arith, same_rest, same_terms n (omega arith), sum_next f n, sum_next g n)

-- the sum of a sum
pub sum_both : (f g : ℕ → ℕ) (n : ℕ) → sum_below (λ index. f index + g index) n ≡ sum_below f n + sum_below g n
sum_both f g zero = omega (arith, sum_none f, sum_none g, sum_none (λ index. f index + g index))
sum_both f g (suc n) = omega (arith, sum_both f g n, sum_next f n, sum_next g n, sum_next (λ index. f index + g index) n)

-- a function that is 0 everywhere
pub sum_of_none : (f : ℕ → ℕ) (n : ℕ) → ((index : ℕ) → index < n → f index ≡ 0) → sum_below f n ≡ 0
sum_of_none f zero no_terms = sum_none f
sum_of_none f (suc n) no_terms =
    omega (arith, sum_of_none f n (λ index index_below. no_terms index (omega (arith, index_below))), no_terms n (omega arith), sum_next f n)

-- a function that is 0 everywhere but at one number
pub sum_of_one : (f : ℕ → ℕ) (n place : ℕ) → place < n → ((index : ℕ) → index < n → index ≢ place → f index ≡ 0) → sum_below f n ≡ f place
sum_of_one f zero place place_below no_others = absurd (omega (arith, place_below))
sum_of_one f (suc n) place place_below no_others = ⊎_elim
    (λ (last_place : n ≡ place).
    let rest_sum = sum_of_none f n (λ index index_less. no_others index (omega (arith, index_less)) (λ same_index. omega (arith, same_index, index_less, last_place))) in
    let same_term : f n ≡ f place = ap f last_place in
    omega (arith, rest_sum, same_term, sum_next f n))
    (λ (earlier_place : n ≢ place).
    let rest_sum = sum_of_one f n place (omega (arith, place_below, earlier_place)) (λ index index_less differs. no_others index (omega (arith, index_less)) differs) in
    omega (arith, rest_sum, no_others n (omega arith) earlier_place, sum_next f n))
    (cases_eq n place)

-- a sum grows with the number of its terms
pub sum_grows : (f : ℕ → ℕ) (most_terms n : ℕ) → most_terms ≤ n → sum_below f most_terms ≤ sum_below f n
sum_grows f most_terms zero fewer_terms = let same_bound : most_terms ≡ 0 = omega (arith, fewer_terms) in subst (λ bound. sum_below f most_terms ≤ sum_below f bound) same_bound (omega arith)
sum_grows f most_terms (suc n) fewer_terms = ⊎_elim
    (λ (same_bound : most_terms ≡ suc n). subst (λ bound. sum_below f most_terms ≤ sum_below f bound) same_bound (omega arith))
    (λ (terms_differ : most_terms ≢ suc n). omega (arith, sum_grows f most_terms n (omega (arith, fewer_terms, terms_differ)), sum_next f n))
    (cases_eq most_terms (suc n))

-- A sum over numbers is at most one over things, where each number that gives something has a thing of its own that gives
-- as much.
pub sum_of_things : (f g : ℕ → ℕ) (n other_count : ℕ) (pick : (thing : ℕ) → thing < n → 0 < f thing → (place : ℕ) × (place < other_count) × (f thing ≤ g place))
    → ((thing other_thing : ℕ) (less_a : thing < n) (first_some : 0 < f thing) (less_b : other_thing < n) (second_some : 0 < f other_thing) → (pick thing less_a first_some).0 ≡ (pick other_thing less_b second_some).0 → thing ≡ other_thing)
    → sum_below f n ≤ sum_below g other_count
sum_of_things f g zero other_count pick picked_once = let no_term = sum_none f in omega (arith, no_term)
sum_of_things f g (suc n) other_count pick picked_once =
    let later : (thing : ℕ) → thing < n → thing < suc n = λ thing thing_less. omega (arith, thing_less) in
    ⊎_elim
    (λ (no_term : f n ≡ 0).
    let rest_sum = sum_of_things f g n other_count (λ thing thing_less some_thing. pick thing (later thing thing_less) some_thing) (λ thing other_thing less_a first_some less_b second_some same_pick. picked_once thing other_thing (later thing less_a) first_some (later other_thing less_b) second_some same_pick) in
    omega (arith, rest_sum, no_term, sum_next f n))
    (λ (term_differs : f n ≢ 0).
    let last_less : n < suc n = omega arith in
    let begins : 0 < f n = omega (arith, term_differs) in
    let own_pick = pick n last_less begins in
    let own_place = own_pick.0 in
    let others : ℕ → ℕ = λ place. if place == own_place then 0 else g place in
    let own_term : ℕ → ℕ = λ place. if place == own_place then g place else 0 in
    let split : sum_below g other_count ≡ sum_below (λ place. others place + own_term place) other_count = sum_same g (λ place. others place + own_term place) other_count (λ place _. ⊎_elim
    (λ (same_place : place ≡ own_place). let term_known = cond-true (place == own_place) 0 (g place) (eq-eqb place own_place same_place) in let right = cond-true (place == own_place) (g place) 0 (eq-eqb place own_place same_place) in omega (arith, term_known, right))
    (λ (other_place : place ≢ own_place). let term_known = cond-false (place == own_place) 0 (g place) (ne_eqb place own_place other_place) in let right = cond-false (place == own_place) (g place) 0 (ne_eqb place own_place other_place) in omega (arith, term_known, right))
    (cases_eq place own_place)) in
    let alone : sum_below own_term other_count ≡ own_term own_place = sum_of_one own_term other_count own_place own_pick.1 (λ place _ other_place. cond-false (place == own_place) (g place) 0 (ne_eqb place own_place other_place)) in
    let own_amount : own_term own_place ≡ g own_place = cond-true (own_place == own_place) (g own_place) 0 (eq-eqb own_place own_place refl) in
    let Picked : ℕ → Type 0 = λ thing. (place : ℕ) × (place < other_count) × (f thing ≤ others place) in
    let picked_again : (thing : ℕ) → thing < n → 0 < f thing → Picked thing = λ thing thing_less some_thing.
    let picked = pick thing (later thing thing_less) some_thing in (
      picked.0,
      picked.1,
      (let place_apart : picked.0 ≢ own_place = λ same_pick. (let one_place = picked_once thing n (later thing thing_less) some_thing last_less begins same_pick in omega (arith, one_place, thing_less)) in
          let kept_term : others picked.0 ≡ g picked.0 = cond-false (picked.0 == own_place) 0 (g picked.0) (ne_eqb picked.0 own_place place_apart) in
          omega (arith, picked.2, kept_term)),
    )
    in
    let rest_sum = sum_of_things f others n other_count picked_again (λ thing other_thing less_a first_some less_b second_some same_pick. picked_once thing other_thing (later thing less_a) first_some (later other_thing less_b) second_some same_pick) in
    omega (arith, rest_sum, split, sum_both others own_term other_count, alone, own_amount, own_pick.2, sum_next f n))
    (cases_eq (f n) 0)

-- the first term of a sum by itself
pub sum_front : (f : ℕ → ℕ) (n : ℕ) → sum_below f (suc n) ≡ f 0 + sum_below (λ index. f (suc index)) n
sum_front f zero = omega (arith, sum_next f 0, sum_none f, sum_none (λ index. f (suc index)))
sum_front f (suc n) = omega (arith, sum_front f n, sum_next f (suc n), sum_next (λ index. f (suc index)) n)

-- the sum over a list by its indexes
pub sum_by_index : {X : Type 0} (size : X → ℕ) (xs : List X) (default : X) → sum_by size xs ≡ sum_below (λ index. size (get_or xs index default)) (length xs)
sum_by_index size [] default = sym (sum_none (λ number. size (get_or [] number default)))
sum_by_index size (x ∷ xs) default =
    sum_by-cons size x xs ∙ ap (λ rest. size x + rest) (sum_by_index size xs default) ∙ sym (sum_front (λ index. size (get_or (x ∷ xs) index default)) (length xs))

-- the sum over two rows of numbers, one behind the other
pub sum_of_two_rows : (f g : ℕ → ℕ) (n other_count : ℕ) → sum_below (λ index. if nat_lt index n then f index else g (index - n)) (n + other_count) ≡ sum_below f n + sum_below g other_count
sum_of_two_rows f g n zero =
    let joined_terms : ℕ → ℕ = λ index. if nat_lt index n then f index else g (index - n) in
    let front_sum = sum_same joined_terms f n (λ index index_below. cond-true (nat_lt index n) (f index) (g (index - n)) (lt-ltb index n index_below)) in
    let plain_sum : sum_below joined_terms (n + 0) ≡ sum_below joined_terms n = (let no_more : n + 0 ≡ n = omega arith in ap (sum_below joined_terms) no_more) in
    omega (arith, front_sum, plain_sum, sum_none g)
sum_of_two_rows f g n (suc other_count) =
    let joined_terms : ℕ → ℕ = λ index. if nat_lt index n then f index else g (index - n) in
    let next_number : suc (n + other_count) ≡ n + suc other_count = omega arith in
    let step : sum_below joined_terms (n + suc other_count) ≡ sum_below joined_terms (n + other_count) + joined_terms (n + other_count) = ap (sum_below joined_terms) (sym next_number) ∙ sum_next joined_terms (n + other_count) in
    let back_index : n + other_count - n ≡ other_count = omega arith in
    let last_term : joined_terms (n + other_count) ≡ g other_count = cond-false (nat_lt (n + other_count) n) (f (n + other_count)) (g (n + other_count - n)) (le-ltb (n + other_count) n (omega arith)) ∙ ap g back_index in
    omega (arith, sum_of_two_rows f g n other_count, step, last_term, sum_next g other_count)
