-- Lemmas on lists.
use Rattle.std.proofs.Common.{◌≡◌, List, ◌∷◌, ℕ, All, Some, subst, [], ◌++◌, ◌+◌, length, refl, zero, suc, map, Contains, ap, ◌∙◌, arith, ◌<◌, Bool, true, sym, ⊎_elim, false, get_or, replicate, ◌≤◌, None, ◌-◌}
use Rattle.std.proofs.lemmas.Bool.{or_left, or_right, or_cases, false≢true, cases_lt, or_from}
use Rattle.std.proofs.lemmas.List.{get_or-map, length-map, get_or_past, length-append}
use Rattle.std.proofs.lemmas.Option.{slice_get_within, get_or_from_slice_get, same_Some, none-some, slice_get-get_or}
use Rattle.std.specs.List.{AllByRecursion, range_with_len, list_any}
use Rattle.std.specs.Prelude.{slice_get}

-- two lists that are the same have the same first element and the same rest
pub cons_injective : {A : Type 0} (x y : A) (xs ys : List A) → x ∷ xs ≡ y ∷ ys → (x ≡ y) × (xs ≡ ys)
cons_injective x y xs ys same_list = (cc, cc)

-- what holds of all elements holds of the one at an index
pub element_of_all : {A : Type 0} (P : A → Type 0) (xs : List A) (index : ℕ) (x : A) → All P xs → slice_get xs index ≡ Some x → P x
element_of_all P xs index x all_hold element_there = subst P (get_or_from_slice_get xs index x x element_there) (all_hold index x (slice_get_within xs index x element_there))

-- what holds of the elements of two lists holds of those of both
pub all_append : {A : Type 0} (P : A → Type 0) (xs ys : List A) → AllByRecursion P xs → AllByRecursion P ys → AllByRecursion P (xs ++ ys)
all_append P [] ys left_hold right_hold = right_hold
all_append P (x ∷ xs) ys left_hold right_hold = (left_hold.0, all_append P xs ys left_hold.1 right_hold)

-- the element behind a list is at its length
pub last_element : {A : Type 0} (xs : List A) (x : A) → slice_get (xs ++ x ∷ []) (length xs) ≡ Some x
last_element [] x = refl
last_element (y ∷ ys) x = last_element ys x

-- an element is where it was, with others behind the list
pub element_before : {A : Type 0} (xs ys : List A) (index : ℕ) (x : A) → slice_get xs index ≡ Some x → slice_get (xs ++ ys) index ≡ Some x
element_before [] ys index x element_there = absurd cc
element_before (y ∷ xs) ys zero x element_there = element_there
element_before (y ∷ xs) ys (suc index) x element_there = element_before xs ys index x element_there

-- what a list contains is mapped into the mapped list
pub contains_mapped : {A B : Type 0} (f : A → B) (xs : List A) (x : A) → Contains xs x → Contains (map f xs) (f x)
contains_mapped f xs x contained = (contained.0, omega (arith, contained.1, length-map xs f), get_or-map f xs contained.0 x (f x) contained.1 ∙ ap f contained.2)

-- some number of a range passes a test that one passes
pub any_at : (test : ℕ → Bool) (first count offset : ℕ) → offset < count → test (first + offset) ≡ true → list_any test (range_with_len first count) ≡ true
any_at test first zero offset offset_below one_passes = absurd (omega (arith, offset_below))
any_at test first (suc count) zero offset_below one_passes =
    let same_number : first + zero ≡ first = omega arith in
    or_left (test first) (list_any test (range_with_len (first + 1) count)) (ap test (sym same_number) ∙ one_passes)
any_at test first (suc count) (suc offset) offset_below one_passes =
    let same_number : first + suc offset ≡ first + 1 + offset = omega arith in
    or_right (test first) (list_any test (range_with_len (first + 1) count)) (any_at test (first + 1) count offset (omega (arith, offset_below)) (ap test (sym same_number) ∙ one_passes))

-- and there is one that passes
pub any_is : (test : ℕ → Bool) (first count : ℕ) → list_any test (range_with_len first count) ≡ true → (offset : ℕ) × (offset < count) × (test (first + offset) ≡ true)
any_is test first zero some_passes = absurd (false≢true some_passes)
any_is test first (suc count) some_passes = ⊎_elim
    (λ (first_passes : test first ≡ true). let same_number : first + 0 ≡ first = omega arith in (0, omega arith, ap test same_number ∙ first_passes))
    (λ (later : list_any test (range_with_len (first + 1) count) ≡ true).
    let later_passing = any_is test (first + 1) count later in
    let same_number : first + suc later_passing.0 ≡ first + 1 + later_passing.0 = omega arith in
    (suc later_passing.0, omega (arith, later_passing.1), ap test same_number ∙ later_passing.2))
    (or_cases (test first) (list_any test (range_with_len (first + 1) count)) some_passes)

-- none passes where each one fails
pub any_none : (test : ℕ → Bool) (first count : ℕ) → ((offset : ℕ) → offset < count → test (first + offset) ≡ false) → list_any test (range_with_len first count) ≡ false
any_none test first zero none_passes = refl
any_none test first (suc count) none_passes =
    let same_first : first + 0 ≡ first = omega arith in
    or_from (test first) (list_any test (range_with_len (first + 1) count)) (ap test (sym same_first) ∙ none_passes 0 (omega arith))
    (any_none test (first + 1) count (λ offset offset_below. (let same_number : first + suc offset ≡ first + 1 + offset = omega arith in ap test (sym same_number) ∙ none_passes (suc offset) (omega (arith, offset_below)))))

-- the same of the first numbers
pub any_from_zero : (test : ℕ → Bool) (count index : ℕ) → index < count → test index ≡ true → list_any test (range_with_len 0 count) ≡ true
any_from_zero test count index index_below met = any_at test 0 count index index_below (let same_number : 0 + index ≡ index = omega arith in ap test same_number ∙ met)

-- and where each of them fails
pub none_from_zero : (test : ℕ → Bool) (count : ℕ) → ((number : ℕ) → number < count → test number ≡ false) → list_any test (range_with_len 0 count) ≡ false
none_from_zero test count none_passes = any_none test 0 count (λ offset offset_below. (let same_number : 0 + offset ≡ offset = omega arith in ap test same_number ∙ none_passes offset offset_below))

-- each element of so many of one is that one
pub replicate_at : {A : Type 0} (count index : ℕ) (x : A) → index < count → slice_get (replicate count x) index ≡ Some x
replicate_at zero index x index_below = absurd (omega (arith, index_below))
replicate_at (suc count) zero x index_below = refl
replicate_at (suc count) (suc index) x index_below = replicate_at count index x (omega (arith, index_below))

-- and no other
pub all_alike : {A : Type 0} (count index : ℕ) (x y : A) → slice_get (replicate count x) index ≡ Some y → y ≡ x
all_alike zero index x y element_there = cc
all_alike (suc count) zero x y element_there = sym (same_Some x y element_there)
all_alike (suc count) (suc index) x y element_there = all_alike count index x y element_there

-- the element of a mapped list at an index
pub mapped_at : {A B : Type 0} (f : A → B) (xs : List A) (index : ℕ) (fallback : A) → get_or (map f xs) index (f fallback) ≡ f (get_or xs index fallback)
mapped_at f xs index fallback = ⊎_elim
    (λ (index_below : index < length xs). get_or-map f xs index fallback (f fallback) index_below)
    (λ (index_past : length xs ≤ index). get_or_past (map f xs) index (f fallback) (omega (arith, index_past, length-map xs f)) ∙ ap f (sym (get_or_past xs index fallback index_past)))
    (cases_lt index (length xs))

-- and of which element it is
pub mapped_from : {A B : Type 0} (f : A → B) (xs : List A) (index : ℕ) (y : B) → slice_get (map f xs) index ≡ Some y → (x : A) × (slice_get xs index ≡ Some x) × (f x ≡ y)
mapped_from f [] index y mapped_there = absurd (none-some y mapped_there)
mapped_from f (x ∷ xs) zero y mapped_there = let same_image : f x ≡ y = cc in (x, refl, same_image)
mapped_from f (x ∷ xs) (suc index) y mapped_there = mapped_from f xs index y mapped_there

-- the elements of the first of two lists
pub append_left : {A : Type 0} (xs ys : List A) (index : ℕ) → index < length xs → slice_get (xs ++ ys) index ≡ slice_get xs index
append_left [] ys index index_below = absurd (omega (arith, index_below))
append_left (x ∷ xs) ys zero index_below = refl
append_left (x ∷ xs) ys (suc index) index_below = append_left xs ys index (omega (arith, index_below))

-- and of the second
pub append_right : {A : Type 0} (xs ys : List A) (joined_index index : ℕ) → joined_index ≡ length xs + index → slice_get (xs ++ ys) joined_index ≡ slice_get ys index
append_right [] ys joined_index index same_index = ap (slice_get ys) (omega (arith, same_index))
append_right (x ∷ xs) ys zero index same_index = absurd (omega (arith, same_index))
append_right (x ∷ xs) ys (suc joined_index) index same_index = append_right xs ys joined_index index (omega (arith, same_index))

-- a list with one more element is longer by one
pub length_with : {A : Type 0} (xs : List A) (x : A) → length (xs ++ x ∷ []) ≡ length xs + 1
length_with xs x = length-append xs (x ∷ [])

-- an index without an element is past the end
pub index_past_end : (xs : List ℕ) (index : ℕ) → slice_get xs index ≡ None → length xs ≤ index
index_past_end [] index no_element = omega arith
index_past_end (x ∷ xs) zero no_element = absurd (cc)
index_past_end (x ∷ xs) (suc index) no_element = omega (arith, index_past_end xs index no_element)

-- what a list contains is at some index
pub slice_get-from_Contains : {A : Type 0} (xs : List A) (x : A) → Contains xs x → (index : ℕ) × (slice_get xs index ≡ Some x)
slice_get-from_Contains xs x contained = (contained.0, slice_get-get_or xs contained.0 x contained.1 ∙ ap Some contained.2)

-- what holds of each element holds with one more
pub each_with : {A : Type 0} (P : ℕ → A → Type 0) (xs : List A) (new : A) (count : ℕ) → length xs ≡ count → ((index : ℕ) (x : A) → slice_get xs index ≡ Some x → P index x) → P count new → (index : ℕ) (x : A) → slice_get (xs ++ new ∷ []) index ≡ Some x → P index x
each_with P [] new count same_length each_holds new_holds zero x element_there = let same_element : new ≡ x = cc in let count_is : count ≡ 0 = omega (arith, same_length) in subst (P 0) same_element (subst (λ place. P place new) count_is new_holds)
each_with P [] new count same_length each_holds new_holds (suc index) x element_there = absurd cc
each_with P (y ∷ ys) new count same_length each_holds new_holds zero x element_there = each_holds zero x element_there
each_with P (y ∷ ys) new count same_length each_holds new_holds (suc index) x element_there =
    each_with (λ place element. P (suc place) element) ys new (count - 1) (omega (arith, same_length)) (λ place element rest_there. each_holds (suc place) element rest_there) (let count_is : count ≡ suc (count - 1) = omega (arith, same_length) in subst (λ place. P place new) count_is new_holds) index x element_there

-- two lists that are the same with one element behind them are the same
pub same_before_end : (xs ys : List ℕ) (b : ℕ) → xs ++ b ∷ [] ≡ ys ++ b ∷ [] → xs ≡ ys
same_before_end [] [] b same_list = refl
same_before_end [] (y ∷ []) b same_list = absurd cc
same_before_end [] (y ∷ z ∷ ys) b same_list = absurd cc
same_before_end (x ∷ []) [] b same_list = absurd cc
same_before_end (x ∷ z ∷ xs) [] b same_list = absurd cc
same_before_end (x ∷ xs) (y ∷ ys) b same_list = let same_parts = cons_injective x y (xs ++ b ∷ []) (ys ++ b ∷ []) same_list in ap (λ (z : ℕ). z ∷ xs) same_parts.0 ∙ ap (λ (zs : List ℕ). y ∷ zs) (same_before_end xs ys b same_parts.1)
