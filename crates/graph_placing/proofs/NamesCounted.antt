-- How many names are of a thread, and how many of these come before another.
use Rattle.std.proofs.Common.{◌≡◌, ℕ, ◌+◌, ◌<◌, ◌≤◌, ◌==◌, ◌&&◌, nat_lt, zero, suc, true, false, cond, List, [], ◌∷◌, length, get_or, take, Contains, ⊎_elim, inl, inr, refl, sym, ap, ◌∙◌, subst, arith, zero-add}
use Rattle.std.proofs.lemmas.Bool.{cond-true, cond-false, cases_Bool, cases_eq, eq-eqb, ne_eqb, eqb-true, ltb-true, lt-ltb, and_from, and_parts, false_from_ne_true}
use Rattle.std.proofs.lemmas.List.Elements.{Contains-append_right}
use Rattle.shen_graph.specs.declared.name.Name.{Name}
use Rattle.shen_graph.specs.Reach.{IsBefore, InOrder}
use Rattle.shen_graph.proofs.Distinct.{order_rest}
use Rattle.shen_graph.proofs.ReachLemmas.{Contains-cons_cases, Contains-nil}
use Rattle.graph_placing.proofs.Searching.{before_first}
use Rattle.graph_placing.specs.NamesAnew.{is_earlier, earlier_names, names_by}

-- One name.

is_late : (name other_name : Name) → (other_name.thread ≡ name.thread → other_name.count < name.count → ⊥) → is_earlier name other_name ≡ false
is_late name other_name not_earlier =
    false_from_ne_true ((other_name.thread == name.thread) && nat_lt other_name.count name.count)
    (λ test_true. let test_parts = and_parts (other_name.thread == name.thread) (nat_lt other_name.count name.count) test_true in not_earlier (eqb-true other_name.thread name.thread test_parts.0) (ltb-true other_name.count name.count test_parts.1))

is_before : (name other_name : Name) → other_name.thread ≡ name.thread → other_name.count < name.count → is_earlier name other_name ≡ true
is_before name other_name equal_thread less_count = and_from (other_name.thread == name.thread) (nat_lt other_name.count name.count) (eq-eqb other_name.thread name.thread equal_thread) (lt-ltb other_name.count name.count less_count)

not_counted : (name other_name : Name) (names : List Name) → is_earlier name other_name ≡ false → earlier_names (other_name ∷ names) name ≡ earlier_names names name
not_counted name other_name names late = ap (λ weight. weight + earlier_names names name) (cond-false (is_earlier name other_name) 1 0 late) ∙ zero-add (earlier_names names name)

one_counted : (name other_name : Name) (names : List Name) → is_earlier name other_name ≡ true → earlier_names (other_name ∷ names) name ≡ 1 + earlier_names names name
one_counted name other_name names early = ap (λ weight. weight + earlier_names names name) (cond-true (is_earlier name other_name) 1 0 early)

other_thread : (thread : ℕ) (name : Name) (names : List Name) → (name.thread ≡ thread → ⊥) → names_by (name ∷ names) thread ≡ names_by names thread
other_thread thread name names different_thread = ap (λ weight. weight + names_by names thread) (cond-false (name.thread == thread) 1 0 (ne_eqb name.thread thread different_thread)) ∙ zero-add (names_by names thread)

same_thread : (thread : ℕ) (name : Name) (names : List Name) → name.thread ≡ thread → names_by (name ∷ names) thread ≡ 1 + names_by names thread
same_thread thread name names equal_thread = ap (λ weight. weight + names_by names thread) (cond-true (name.thread == thread) 1 0 (eq-eqb name.thread thread equal_thread))

at_least_rest : (x y sum : ℕ) → sum ≡ x + y → y ≤ sum
at_least_rest x y sum sum_is = omega arith

rest_of_earlier : (name other_name : Name) (names : List Name) → earlier_names names name ≤ earlier_names (other_name ∷ names) name
rest_of_earlier name other_name names = at_least_rest (cond (is_earlier name other_name) 1 0) (earlier_names names name) (earlier_names (other_name ∷ names) name) refl

rest_of_thread : (thread : ℕ) (name : Name) (names : List Name) → names_by names thread ≤ names_by (name ∷ names) thread
rest_of_thread thread name names = at_least_rest (cond (name.thread == thread) 1 0) (names_by names thread) (names_by (name ∷ names) thread) refl

-- Names of one thread: the later one has as many before it, ..
pub earlier_rises : (names : List Name) (name other_name : Name) → name.thread ≡ other_name.thread → name.count ≤ other_name.count → earlier_names names name ≤ earlier_names names other_name
earlier_rises [] name other_name equal_thread most_count = omega arith
earlier_rises (first_name ∷ names) name other_name equal_thread most_count =
    let rest_rises = earlier_rises names name other_name equal_thread most_count in
    ⊎_elim
    (λ (early : is_earlier name first_name ≡ true).
    let early_parts = and_parts (first_name.thread == name.thread) (nat_lt first_name.count name.count) early in
    let early_too = is_before other_name first_name (eqb-true first_name.thread name.thread early_parts.0 ∙ equal_thread) (omega (arith, ltb-true first_name.count name.count early_parts.1, most_count)) in
    omega (arith, one_counted name first_name names early, one_counted other_name first_name names early_too, rest_rises))
    (λ (late : is_earlier name first_name ≡ false). omega (arith, not_counted name first_name names late, rest_of_earlier other_name first_name names, rest_rises))
    (cases_Bool (is_earlier name first_name))

-- .. and more, where the other one is there
pub earlier_rises_more : (names : List Name) (name other_name : Name) → Contains names name → name.thread ≡ other_name.thread → name.count < other_name.count → earlier_names names name < earlier_names names other_name
earlier_rises_more [] name other_name name_contained equal_thread less_count = absurd (Contains-nil name name_contained)
earlier_rises_more (first_name ∷ names) name other_name name_contained equal_thread less_count = ⊎_elim
    (λ (is_first : first_name ≡ name).
    let same_thread : first_name.thread ≡ name.thread = ap (λ (name : Name). name.thread) is_first in
    let count : first_name.count ≡ name.count = ap (λ (name : Name). name.count) is_first in
    let rest_rises = earlier_rises names name other_name equal_thread (omega (arith, less_count)) in
    let late = is_late name first_name (λ thread_agrees before. omega (arith, count, before)) in
    let early = is_before other_name first_name (same_thread ∙ equal_thread) (omega (arith, count, less_count)) in
    omega (arith, not_counted name first_name names late, one_counted other_name first_name names early, rest_rises))
    (λ (later : Contains names name).
    let rest_rises = earlier_rises_more names name other_name later equal_thread less_count in
    ⊎_elim
    (λ (early : is_earlier name first_name ≡ true).
    let early_parts = and_parts (first_name.thread == name.thread) (nat_lt first_name.count name.count) early in
    let early_too = is_before other_name first_name (eqb-true first_name.thread name.thread early_parts.0 ∙ equal_thread) (omega (arith, ltb-true first_name.count name.count early_parts.1, less_count)) in
    omega (arith, one_counted name first_name names early, one_counted other_name first_name names early_too, rest_rises))
    (λ (late : is_earlier name first_name ≡ false). omega (arith, not_counted name first_name names late, rest_of_earlier other_name first_name names, rest_rises))
    (cases_Bool (is_earlier name first_name)))
    (Contains-cons_cases first_name names name name_contained)

-- A name has fewer before it than there are of its thread.
earlier_at_most : (names : List Name) (name : Name) → earlier_names names name ≤ names_by names name.thread
earlier_at_most [] name = omega arith
earlier_at_most (first_name ∷ names) name =
    let rest_at_most = earlier_at_most names name in
    ⊎_elim
    (λ (early : is_earlier name first_name ≡ true).
    let early_parts = and_parts (first_name.thread == name.thread) (nat_lt first_name.count name.count) early in
    omega (arith, one_counted name first_name names early, same_thread name.thread first_name names (eqb-true first_name.thread name.thread early_parts.0), rest_at_most))
    (λ (late : is_earlier name first_name ≡ false). omega (arith, not_counted name first_name names late, rest_of_thread name.thread first_name names, rest_at_most))
    (cases_Bool (is_earlier name first_name))

pub earlier_fewer : (names : List Name) (name : Name) → Contains names name → earlier_names names name < names_by names name.thread
earlier_fewer [] name name_contained = absurd (Contains-nil name name_contained)
earlier_fewer (first_name ∷ names) name name_contained = ⊎_elim
    (λ (is_first : first_name ≡ name).
    let threads_match : first_name.thread ≡ name.thread = ap (λ (name : Name). name.thread) is_first in
    let count : first_name.count ≡ name.count = ap (λ (name : Name). name.count) is_first in
    let late = is_late name first_name (λ thread_agrees before. omega (arith, count, before)) in
    omega (arith, not_counted name first_name names late, same_thread name.thread first_name names threads_match, earlier_at_most names name))
    (λ (later : Contains names name).
    let rest_fewer = earlier_fewer names name later in
    ⊎_elim
    (λ (early : is_earlier name first_name ≡ true).
    let early_parts = and_parts (first_name.thread == name.thread) (nat_lt first_name.count name.count) early in
    omega (arith, one_counted name first_name names early, same_thread name.thread first_name names (eqb-true first_name.thread name.thread early_parts.0), rest_fewer))
    (λ (late : is_earlier name first_name ≡ false). omega (arith, not_counted name first_name names late, rest_of_thread name.thread first_name names, rest_fewer))
    (cases_Bool (is_earlier name first_name)))
    (Contains-cons_cases first_name names name name_contained)

pub thread_at_most : (names : List Name) (thread : ℕ) → names_by names thread ≤ length names
thread_at_most [] thread = omega arith
thread_at_most (name ∷ names) thread =
    let rest_at_most = thread_at_most names thread in
    ⊎_elim
    (λ (equal_thread : name.thread ≡ thread). omega (arith, same_thread thread name names equal_thread, rest_at_most))
    (λ (different_thread : name.thread ≡ thread → ⊥). omega (arith, other_thread thread name names different_thread, rest_at_most))
    (cases_eq name.thread thread)

-- none is before a name, where none is of its thread and has a lower count
pub none_earlier : (names : List Name) (name : Name) → ((other_name : Name) → Contains names other_name → other_name.thread ≡ name.thread → other_name.count < name.count → ⊥) → earlier_names names name ≡ 0
none_earlier [] name none_lower = refl
none_earlier (other_name ∷ later_names) name none_lower =
    not_counted name other_name later_names (is_late name other_name (none_lower other_name (0, omega arith, refl)))
    ∙ none_earlier later_names name (λ later_name later_contained. none_lower later_name (Contains-append_right (other_name ∷ []) later_names later_name later_contained))

-- Names in order: those before one are those of its thread that stand before it in the list.

none_before_first : (name : Name) (names : List Name) → InOrder (name ∷ names) → earlier_names names name ≡ 0
none_before_first name names order =
    none_earlier names name (λ later_name later_contained equal_thread less_count.
    let name_before : IsBefore name later_name = subst (IsBefore name) later_contained.2 (before_first name names order later_contained.0 later_name later_contained.1) in
    elim name_before [ inl low ↦ omega (arith, low, equal_thread) | inr within_thread ↦ omega (arith, within_thread.1, less_count) ])

pub earlier_is : (names : List Name) → InOrder names → (index : ℕ) (name : Name) → index < length names → earlier_names names (get_or names index name) ≡ names_by (take index names) (get_or names index name).thread
earlier_is [] order index name index_below = absurd (omega (arith, index_below))
earlier_is (first_name ∷ names) order zero name index_below =
    not_counted first_name first_name names (is_late first_name first_name (λ equal_thread less_count. omega (arith, less_count))) ∙ none_before_first first_name names order
earlier_is (first_name ∷ names) order (suc index) name index_below =
    let index_inside : index < length names = omega (arith, index_below) in
    let chosen_name = get_or names index name in
    let first_before = before_first first_name names order index name index_inside in
    let rest_earlier = earlier_is names (order_rest first_name names order) index name index_inside in
    ⊎_elim
    (λ (equal_thread : first_name.thread ≡ chosen_name.thread).
    let less_count : first_name.count < chosen_name.count = elim first_before [ inl first_lower ↦ absurd (omega (arith, first_lower, equal_thread)) | inr within_thread ↦ within_thread.1 ] in
    one_counted chosen_name first_name names (is_before chosen_name first_name equal_thread less_count) ∙ ap (λ earlier_count. 1 + earlier_count) rest_earlier ∙ sym (same_thread chosen_name.thread first_name (take index names) equal_thread))
    (λ (different_thread : first_name.thread ≡ chosen_name.thread → ⊥).
    not_counted chosen_name first_name names (is_late chosen_name first_name (λ equal_thread less_count. different_thread equal_thread)) ∙ rest_earlier ∙ sym (other_thread chosen_name.thread first_name (take index names) different_thread))
    (cases_eq first_name.thread chosen_name.thread)

-- one name more
pub names_by_next : (names : List Name) (index thread : ℕ) (name : Name) → index < length names → names_by (take (suc index) names) thread ≡ names_by (take index names) thread + cond ((get_or names index name).thread == thread) 1 0
names_by_next [] index thread name index_below = absurd (omega (arith, index_below))
names_by_next (first_name ∷ names) zero thread name index_below = omega arith
names_by_next (first_name ∷ names) (suc index) thread name index_below =
    let rest_next = names_by_next names index thread name (omega (arith, index_below)) in
    ap (λ name_count. cond (first_name.thread == thread) 1 0 + name_count) rest_next ∙ (let grouped : cond (first_name.thread == thread) 1 0 + (names_by (take index names) thread + cond ((get_or names index name).thread == thread) 1 0)
    ≡ cond (first_name.thread == thread) 1 0 + names_by (take index names) thread + cond ((get_or names index name).thread == thread) 1 0 = omega arith in grouped)

-- each count up to those of a thread is that of one of its names
pub counted_at : (names : List Name) (thread count : ℕ) (name : Name) → count < names_by names thread → (index : ℕ) × (index < length names) × ((get_or names index name).thread ≡ thread) × (names_by (take index names) thread ≡ count)
counted_at [] thread count name count_below = absurd (omega (arith, count_below))
counted_at (first_name ∷ names) thread zero name count_below = ⊎_elim
    (λ (equal_thread : first_name.thread ≡ thread). (0, omega arith, equal_thread, refl))
    (λ (different_thread : first_name.thread ≡ thread → ⊥).
    let rest_counted = counted_at names thread 0 name (omega (arith, count_below, other_thread thread first_name names different_thread)) in
    (suc rest_counted.0, omega (arith, rest_counted.1), rest_counted.2, other_thread thread first_name (take rest_counted.0 names) different_thread ∙ rest_counted.3))
    (cases_eq first_name.thread thread)
counted_at (first_name ∷ names) thread (suc count) name count_below = ⊎_elim
    (λ (equal_thread : first_name.thread ≡ thread).
    let rest_counted = counted_at names thread count name (omega (arith, count_below, same_thread thread first_name names equal_thread)) in
    (suc rest_counted.0, omega (arith, rest_counted.1), rest_counted.2, omega (arith, same_thread thread first_name (take rest_counted.0 names) equal_thread, rest_counted.3)))
    (λ (different_thread : first_name.thread ≡ thread → ⊥).
    let rest_counted = counted_at names thread (suc count) name (omega (arith, count_below, other_thread thread first_name names different_thread)) in
    (suc rest_counted.0, omega (arith, rest_counted.1), rest_counted.2, other_thread thread first_name (take rest_counted.0 names) different_thread ∙ rest_counted.3))
    (cases_eq first_name.thread thread)
