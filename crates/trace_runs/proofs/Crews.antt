-- The users of bundles, of which each has one machine.
use Rattle.std.proofs.Common.{◌≡◌, ◌⊎◌, inl, inr, ⊎_elim, ℕ, zero, suc, ◌+◌, ◌-◌, ◌<◌, ◌≤◌, ◌&&◌, Bool, true, false, List, [], ◌∷◌, ◌++◌, length, get_or, take, drop, Some, None, refl, sym, ap, ◌∙◌, subst, arith}
use Rattle.std.specs.Prelude.{nat_lt, nat_le, slice_get, min, if◌then◌else◌}
use Rattle.std.proofs.Math.Seq.{take-add, take-nil, drop-nil}
use Rattle.std.proofs.lemmas.Bool.{cases_lt}
use Rattle.std.proofs.lemmas.Bool.Decides.{nat_tests}
use Rattle.std.proofs.lemmas.List.{length-take, length-drop, drop-take, drop-append-le, drop_all, get_or-drop, get_or-take}
use Rattle.std.proofs.lemmas.Option.{slice_get_within, slice_get_past, slice_get-get_or, get_or_from_slice_get}
use Rattle.managed_queue.specs.Users.{Use}
use Rattle.table_heap.specs.Driving.{count_below}
use Rattle.trace_runs.specs.DealtParts.{crew_of}

-- ---- lists

-- so many users are there of bundles that are not past all mutators
pub crew_count : (firsts : List Use) (start beyond : ℕ) → length (crew_of firsts start beyond) ≡ min beyond (length firsts) - start
crew_count firsts start beyond = length-drop start (take beyond firsts) ∙ ap (λ count. count - start) (length-take beyond firsts)

-- the users of some bundles, and then those of the next ones
pub crew_joined : (firsts : List Use) (start beyond last_beyond : ℕ) → start ≤ beyond → beyond ≤ last_beyond → crew_of firsts start beyond ++ crew_of firsts beyond last_beyond ≡ crew_of firsts start last_beyond
crew_joined firsts start beyond end_beyond start_before beyond_before =
    let same_end : beyond + (end_beyond - beyond) ≡ end_beyond = omega (arith, beyond_before) in
    let split_list : take end_beyond firsts ≡ take beyond firsts ++ drop beyond (take end_beyond firsts) =
    subst (λ end. take end firsts ≡ take beyond firsts ++ drop beyond (take end firsts)) same_end
    (take-add beyond (end_beyond - beyond) firsts ∙ ap (λ xs. take beyond firsts ++ xs) (sym (drop-take beyond (end_beyond - beyond) firsts))) in
    ⊎_elim
    (λ (start_past : length firsts < start).
    let front : drop start (take beyond firsts) ≡ [] = drop_all start (take beyond firsts) (let taken_length = length-take beyond firsts in omega (arith, taken_length, start_past)) in
    let no_rest : drop beyond (take end_beyond firsts) ≡ [] = drop_all beyond (take end_beyond firsts) (let taken_length = length-take end_beyond firsts in omega (arith, taken_length, start_past, start_before)) in
    let none_left : drop start (take end_beyond firsts) ≡ [] = drop_all start (take end_beyond firsts) (let taken_length = length-take end_beyond firsts in omega (arith, taken_length, start_past)) in
    ap (λ xs. xs ++ drop beyond (take end_beyond firsts)) front ∙ no_rest ∙ sym none_left)
    (λ (start_within : start ≤ length firsts).
    sym (ap (drop start) split_list ∙ drop-append-le start (take beyond firsts) (drop beyond (take end_beyond firsts)) (let taken_length = length-take beyond firsts in omega (arith, taken_length, start_before, start_within))))
    (cases_lt (length firsts) start)

-- a user of some bundles is one of all
pub crew_at : (firsts : List Use) (start beyond index : ℕ) (use_of : Use) → start ≤ index → slice_get (crew_of firsts start beyond) (index - start) ≡ Some use_of → slice_get firsts index ≡ Some use_of
crew_at firsts start beyond index use_of start_before use_there =
    let index_within : index - start < length (crew_of firsts start beyond) = slice_get_within (crew_of firsts start beyond) (index - start) use_of use_there in
    let count = crew_count firsts start beyond in
    let index_below : index < length firsts = omega (arith, index_within, count, start_before) in
    let index_before : index < beyond = omega (arith, index_within, count, start_before) in
    let same_index : start + (index - start) ≡ index = omega (arith, start_before) in
    let same_use : get_or firsts index use_of ≡ use_of =
    sym (get_or-take beyond firsts index use_of index_before) ∙ ap (λ index. get_or (take beyond firsts) index use_of) (sym same_index) ∙ sym (get_or-drop start (take beyond firsts) (index - start) use_of)
    ∙ get_or_from_slice_get (crew_of firsts start beyond) (index - start) use_of use_of use_there in
    slice_get-get_or firsts index use_of index_below ∙ ap Some same_use

pub at_front : (uses later_uses : List Use) (index : ℕ) (use_of : Use) → slice_get uses index ≡ Some use_of → slice_get (uses ++ later_uses) index ≡ Some use_of
at_front [] uses zero use_of use_there = absurd cc
at_front [] uses (suc index) use_of use_there = absurd cc
at_front (first_use ∷ rest) uses zero use_of use_there = use_there
at_front (first_use ∷ rest) uses (suc index) use_of use_there = at_front rest uses index use_of use_there

pub at_back : (uses later_uses : List Use) (index joined_index : ℕ) (use_of : Use) → joined_index ≡ length uses + index → slice_get later_uses index ≡ Some use_of → slice_get (uses ++ later_uses) joined_index ≡ Some use_of
at_back [] uses index joined_index use_of joined_is use_there = ap (slice_get uses) (let same_index : joined_index ≡ index = omega (arith, joined_is) in same_index) ∙ use_there
at_back (first_use ∷ rest) uses index zero use_of joined_is use_there = absurd (omega (arith, joined_is))
at_back (first_use ∷ rest) uses index (suc joined_index) use_of joined_is use_there = at_back rest uses index joined_index use_of (omega (arith, joined_is)) use_there

-- the user of one bundle
pub crew_one : (firsts : List Use) (index count : ℕ) (use_of : Use) → count ≡ suc index → slice_get firsts index ≡ Some use_of → drop index (take count firsts) ≡ use_of ∷ []
crew_one [] index count use_of same_use use_there = absurd (let none_past = sym (slice_get_past [] index (omega arith)) ∙ use_there in cc)
crew_one (first_use ∷ rest) zero count use_of count_is use_there = subst (λ taken_count. drop 0 (take taken_count (first_use ∷ rest)) ≡ use_of ∷ []) (sym count_is) (ap (λ y. y ∷ []) (let same_use : first_use ≡ use_of = cc in same_use))
crew_one (first_use ∷ rest) (suc index) count use_of same_use use_there = subst (λ taken_count. drop (suc index) (take taken_count (first_use ∷ rest)) ≡ use_of ∷ []) (sym same_use) (crew_one rest index (suc index) use_of refl use_there)

pub crew_none : (firsts : List Use) (index count : ℕ) → count ≡ suc index → slice_get firsts index ≡ None → drop index (take count firsts) ≡ []
crew_none [] index count next_count none_there = ap (drop index) (take-nil count) ∙ drop-nil index
crew_none (use_of ∷ rest) zero count next_count none_there = absurd cc
crew_none (use_of ∷ rest) (suc index) count next_count none_there = subst (λ taken_count. drop (suc index) (take taken_count (use_of ∷ rest)) ≡ []) (sym next_count) (crew_none rest index (suc index) refl none_there)

-- ---- numbers

-- how many numbers of an interval are below another
pub span : (test : ℕ → Bool) (start end limit : ℕ) → start ≤ end → ((k : ℕ) → k < limit → test k ≡ (nat_le start k && nat_lt k end)) → (count : ℕ) → count ≤ limit → count_below test count ≡ min end count - start
span test start end limit start_before test_spans zero count_within = let same_zero : 0 ≡ min end 0 - start = omega arith in same_zero
span test start end limit start_before test_spans (suc count) count_within =
    by_test (test count) (test_spans count (omega (arith, count_within))) (count_below test count) (span test start end limit start_before test_spans count (omega (arith, count_within)))
  where
    inside : true ≡ (nat_le start count && nat_lt count end) → (start ≤ count) × (count < end)
    inside test_holds = (grind (arith, nat_tests), grind (arith, nat_tests))

    outside : false ≡ (nat_le start count && nat_lt count end) → (count < start) ⊎ (end ≤ count)
    outside test_fails = ⊎_elim (λ (before_start : count < start). inl before_start) (λ (from_start : start ≤ count). inr (grind (arith, nat_tests))) (cases_lt count start)

    by_test : (holds : Bool) → holds ≡ (nat_le start count && nat_lt count end) → (counted : ℕ) → counted ≡ min end count - start → (if holds then suc counted else counted) ≡ min end (suc count) - start
    by_test true tested counted counted_before = let both_sides = inside tested in omega (arith, both_sides.0, both_sides.1, counted_before, start_before)
    by_test false tested counted counted_before = ⊎_elim (λ (before_start : count < start). omega (arith, before_start, counted_before, start_before)) (λ (after_end : end ≤ count). omega (arith, after_end, counted_before, start_before)) (outside tested)
