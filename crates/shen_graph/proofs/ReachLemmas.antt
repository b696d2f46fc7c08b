-- The search for the names that can be reached.
use Rattle.std.proofs.Common.{ℕ, zero, suc, ◌≡◌, ◌+◌, ◌<◌, ◌≤◌, ◌⊎◌, Bool, true, false, List, [], ◌∷◌, ◌++◌, map, length, get_or, Option, Some, None, subst, refl, sym, ap, ◌∙◌, arith, inl, inr, append_assoc, length-append}
use Rattle.std.specs.Prelude.{slice_get, unwrap_or, Contains, if◌then◌else◌}
use Rattle.std.specs.Cmp.{IsEquivalence}
use Rattle.std.specs.List.{list_any, flat_map, filter_map, IsDistinct}
use Rattle.std.proofs.lemmas.Bool.{cases_lt}
use Rattle.std.proofs.lemmas.List.{append-nil, get_or_append_left, get_or_past, get_or_default}
use Rattle.std.proofs.lemmas.List.Elements.{Contains-append_left, Contains-append_right, Contains-append_cases, Contains-push, Contains-push_cases}
use Rattle.std.proofs.lemmas.Map.Keys.{IsDistinct-push}
use Rattle.std.proofs.lemmas.Map.Made.{length-le_from_is_member}
use Rattle.std.proofs.lemmas.Map.Views.{Contains-from_any, list_any-from_Contains}
use Rattle.std.proofs.lemmas.Option.{slice_get_within, get_or_from_slice_get, none-some}
use Rattle.shen_graph.proofs.Lists.{slice_get-from_Contains}
use Rattle.shen_graph.specs.declared.name.Name.{Name}
use Rattle.shen_graph.specs.declared.pin.Pinned.{Pinned}
use Rattle.shen_graph.specs.Graph.{Reference, same_name, named}
use Rattle.shen_graph.specs.GraphText.{Row}
use Rattle.shen_graph.specs.Reach.{IsReachable}
use Rattle.shen_graph.specs.Reach.IsReachable.{from_root, from_pin, from_field}
use Rattle.shen_graph.specs.Step.{name_in}
use Rattle.shen_graph.specs.PlainGraph.{Plain, object_in, graph_of}
use Rattle.shen_graph.specs.Found.{with_name, with_names}
use Rattle.shen_graph.proofs.OrderLemmas.{same_name-flip}
use Rattle.shen_graph.proofs.PlainLemmas.{same_name-true, same_name-itself, root-graph_of, pin-graph_of}

pub same_name-laws : IsEquivalence same_name
same_name-laws = record {
  refl = same_name-itself;
  symm = same_name-flip;
  congr = λ name second_name third_name names_agree. ap (λ compared_name. same_name compared_name third_name) (same_name-true name second_name names_agree);
}

-- the test of a name against those that were found
any_flip : (name : Name) (names : List Name) → list_any (λ listed_name. same_name listed_name name) names ≡ list_any (same_name name) names
any_flip name [] = refl
any_flip name (found_name ∷ names) = rw (same_name-flip found_name name, any_flip name names) refl

pub Contains-cons_cases : {A : Type 0} (x : A) (xs : List A) (y : A) → Contains (x ∷ xs) y → (x ≡ y) ⊎ Contains xs y
Contains-cons_cases {A} x xs contains contained = at contained.0 contained.1 contained.2
  where
    at : (index : ℕ) → index < length (x ∷ xs) → get_or (x ∷ xs) index contains ≡ contains → (x ≡ contains) ⊎ Contains xs contains
    at zero within element_there = inl element_there
    at (suc index) within element_there = inr (index, omega arith, element_there)

pub Contains-nil : {A : Type 0} (y : A) → Contains [] y → ⊥
Contains-nil y contained = omega (arith, contained.1)

pub Contains-flat_map : {A B : Type 0} (f : A → List B) (xs : List A) (index : ℕ) (default : A) (y : B) → index < length xs → Contains (f (get_or xs index default)) y → Contains (flat_map f xs) y
Contains-flat_map f [] index default y within contained = absurd (omega arith)
Contains-flat_map f (x ∷ xs) zero default y within contained = Contains-append_left (f x) (flat_map f xs) y contained
Contains-flat_map f (x ∷ xs) (suc index) default y within contained = Contains-append_right (f x) (flat_map f xs) y (Contains-flat_map f xs index default y (omega arith) contained)

pub Contains-from_flat_map : {A B : Type 0} (f : A → List B) (xs : List A) (default : A) (y : B) → Contains (flat_map f xs) y → (index : ℕ) × (index < length xs) × Contains (f (get_or xs index default)) y
Contains-from_flat_map f [] default y contained = absurd (Contains-nil y contained)
Contains-from_flat_map f (x ∷ xs) default y contained =
    elim (Contains-append_cases (f x) (flat_map f xs) y contained) [
      | inl in_first ↦ (0, omega arith, in_first)
      | inr later ↦ let later_found = Contains-from_flat_map f xs default y later in (suc later_found.0, omega (arith, later_found.1), later_found.2)
    ]

-- a reference that is in a list, by its place
pub Contains-from_slice_get : {A : Type 0} (xs : List A) (index : ℕ) (x : A) → slice_get xs index ≡ Some x → Contains xs x
Contains-from_slice_get xs index x element_there = (index, slice_get_within xs index x element_there, get_or_from_slice_get xs index x x element_there)

-- the names that references hold
abbrev pub names_held : List Reference → List Name
names_held refs = filter_map (λ reference. reference) refs

pub Contains-names_held : (refs : List Reference) (name : Name) → Contains refs (Some name) → Contains (names_held refs) name
Contains-names_held [] name has_reference = absurd (Contains-nil (Some name) has_reference)
Contains-names_held (None ∷ refs) name has_reference =
    elim (Contains-cons_cases None refs (Some name) has_reference) [ inl never ↦ cc | inr later ↦ Contains-names_held refs name later ]
Contains-names_held (Some first_name ∷ refs) name has_reference =
    elim (Contains-cons_cases (Some first_name) refs (Some name) has_reference) [
      | inl first_reference ↦ let equal_names : first_name ≡ name = cc in (0, omega arith, equal_names)
      | inr later ↦ Contains-append_right (first_name ∷ []) (names_held refs) name (Contains-names_held refs name later)
    ]

-- Names are only added, at the end.

with_name-longer : (names : List Name) (reference : Reference) → (added_names : List Name) × (with_name names reference ≡ names ++ added_names)
with_name-longer names None = ([], sym (append-nil names))
with_name-longer names (Some name) =
    elim (list_any (λ listed_name. same_name listed_name name) names) as (λ has_name. (ys : List Name) × ((if has_name then names else names ++ name ∷ []) ≡ names ++ ys))
    [ true ↦ ([], sym (append-nil names)) | false ↦ (name ∷ [], refl) ]

pub with_names-longer : (names : List Name) (refs : List Reference) → (added_names : List Name) × (with_names names refs ≡ names ++ added_names)
with_names-longer names [] = ([], sym (append-nil names))
with_names-longer names (reference ∷ refs) =
    let first_added = with_name-longer names reference in
    let others = with_names-longer (with_name names reference) refs in
    (first_added.0 ++ others.0, others.1 ∙ ap (λ names_before. names_before ++ others.0) first_added.1 ∙ append_assoc names first_added.0 others.0)

pub with_names-keeps : (names : List Name) (refs : List Reference) (name : Name) → Contains names name → Contains (with_names names refs) name
with_names-keeps names refs name has_name =
    let longer = with_names-longer names refs in
    rw longer.1 (Contains-append_left names longer.0 name has_name)

with_name-has : (names : List Name) (name : Name) → Contains (with_name names (Some name)) name
with_name-has names name = at (list_any (λ listed_name. same_name listed_name name) names) refl
  where
    at : (holds : Bool) → list_any (λ listed_name. same_name listed_name name) names ≡ holds → Contains (if holds then names else names ++ name ∷ []) name
    at true test_holds = Contains-from_any same_name-true name names (sym (any_flip name names) ∙ test_holds)
    at false test_holds = Contains-push names name

pub with_names-has : (names : List Name) (refs : List Reference) (name : Name) → Contains refs (Some name) → Contains (with_names names refs) name
with_names-has names [] name has_reference = absurd (Contains-nil (Some name) has_reference)
with_names-has names (reference ∷ refs) name has_reference =
    elim (Contains-cons_cases reference refs (Some name) has_reference) [
      | inl first_reference ↦ with_names-keeps (with_name names reference) refs name (rw first_reference (with_name-has names name))
      | inr later ↦ with_names-has (with_name names reference) refs name later
    ]

with_name-only : (names : List Name) (reference : Reference) (name : Name) → Contains (with_name names reference) name → Contains names name ⊎ (reference ≡ Some name)
with_name-only names None name has_name = inl has_name
with_name-only names (Some referred_name) name has_name =
    elim (list_any (λ listed_name. same_name listed_name referred_name) names) as (λ is_listed. Contains (if is_listed then names else names ++ referred_name ∷ []) name → Contains names name ⊎ (Some referred_name ≡ Some name)) [
      | true ↦ λ before. inl before
      | false ↦ λ before_or_new. elim (Contains-push_cases names referred_name name before_or_new) [ inl before ↦ inl before | inr new_name ↦ inr (ap Some new_name) ]
    ] has_name

pub with_names-only : (names : List Name) (refs : List Reference) (name : Name) → Contains (with_names names refs) name → Contains names name ⊎ Contains refs (Some name)
with_names-only names [] name has_name = inl has_name
with_names-only names (reference ∷ refs) name has_name =
    elim (with_names-only (with_name names reference) refs name has_name) [
      | inl before ↦ elim (with_name-only names reference name before) [ inl earlier_name ↦ inl earlier_name | inr first_reference ↦ inr (0, omega arith, first_reference) ]
      | inr later ↦ inr (Contains-append_right (reference ∷ []) refs (Some name) later)
    ]

with_name-distinct : (names : List Name) (reference : Reference) → IsDistinct same_name names → IsDistinct same_name (with_name names reference)
with_name-distinct names None distinct = distinct
with_name-distinct names (Some name) distinct = at (list_any (λ listed_name. same_name listed_name name) names) refl
  where
    at : (holds : Bool) → list_any (λ listed_name. same_name listed_name name) names ≡ holds → IsDistinct same_name (if holds then names else names ++ name ∷ [])
    at true test_holds = distinct
    at false test_holds = IsDistinct-push same_name-laws names name distinct (sym (any_flip name names) ∙ test_holds)

pub with_names-distinct : (names : List Name) (refs : List Reference) → IsDistinct same_name names → IsDistinct same_name (with_names names refs)
with_names-distinct names [] distinct = distinct
with_names-distinct names (reference ∷ refs) distinct = with_names-distinct (with_name names reference) refs (with_name-distinct names reference distinct)

-- names are added in one go or in two
pub with_names-append : (names : List Name) (refs later_refs : List Reference) → with_names (with_names names refs) later_refs ≡ with_names names (refs ++ later_refs)
with_names-append names [] later_refs = refl
with_names-append names (reference ∷ refs) later_refs = with_names-append (with_name names reference) refs later_refs

-- where a search begins: with roots and what pin slots hold
abbrev pub held_in_slots : Plain → List (Option Pinned)
held_in_slots plain = flat_map (λ row. row) plain.pins

abbrev pub starts_of : Plain → List Reference
starts_of plain = flat_map (λ row. row) plain.roots ++ map name_in (held_in_slots plain)

-- every reference that the graph has
abbrev pub references_of : Plain → List Reference
references_of plain = starts_of plain ++ flat_map (λ row. row.refs) plain.rows

-- no search finds more names than these
abbrev pub names_of : Plain → List Name
names_of plain = names_held (references_of plain)

-- So many of the names that were found were followed.
pub record IsSearched (plain : Plain) (found : List Name) (next : ℕ) : Type 0 where
  pub reached : (name : Name) → Contains found name → IsReachable (graph_of plain) name
  pub roots : (thread root : ℕ) (name : Name) → (graph_of plain).root thread root ≡ Some name → Contains found name
  pub pins : (thread slot : ℕ) (held : Pinned) → (graph_of plain).pin thread slot ≡ Some held → Contains found held.name
  pub fields : (index : ℕ) (other_name : Name) → index < next → get_or found index other_name ≡ other_name → (field : ℕ) (name : Name) → slice_get (named (graph_of plain) (Some other_name)).refs field ≡ Some (Some name) → Contains found name
  pub distinct : IsDistinct same_name found
  pub known : (name : Name) → Contains found name → Contains (names_of plain) name
  pub within : next ≤ length found

object-graph_of : (plain : Plain) (name : Name) → (graph_of plain).object name ≡ object_in plain.rows name
unfolding graph_of
object-graph_of plain name = refl

-- what an object refers to is among the references of all objects
object_in-refs : (rows : List Row) (name : Name) (reference : Reference) → Contains (unwrap_or (object_in rows name) (record { refs = []; nums = [] })).refs reference → Contains (flat_map (λ (row : Row). row.refs) rows) reference
object_in-refs [] name reference has_reference = absurd (Contains-nil reference has_reference)
object_in-refs (other_row ∷ rows) name reference has_reference =
    elim (same_name name other_row.name) as (λ names_agree. Contains (unwrap_or (if names_agree then Some (record { refs = other_row.refs; nums = other_row.nums }) else object_in rows name) (record { refs = []; nums = [] })).refs reference → Contains (flat_map (λ (row : Row). row.refs) (other_row ∷ rows)) reference) [
      | true ↦ λ in_row. Contains-append_left other_row.refs (flat_map (λ (row : Row). row.refs) rows) reference in_row
      | false ↦ λ later. Contains-append_right other_row.refs (flat_map (λ (row : Row). row.refs) rows) reference (object_in-refs rows name reference later)
    ] has_reference

named-refs : (plain : Plain) (name referred_name : Name) → Contains (named (graph_of plain) (Some name)).refs (Some referred_name) → Contains (names_of plain) referred_name
named-refs plain name referred_name has_reference =
    Contains-names_held (references_of plain) referred_name
    (Contains-append_right (starts_of plain) (flat_map (λ (row : Row). row.refs) plain.rows) (Some referred_name)
    (object_in-refs plain.rows name (Some referred_name) (rw (object-graph_of plain name) at has_reference)))

-- a root or a pin slot, by its place in the rows
placed-Contains : {A : Type 0} (rows : List (List (Option A))) (thread index : ℕ) (x : A) → get_or (get_or rows thread []) index None ≡ Some x → Contains (flat_map (λ row. row) rows) (Some x)
placed-Contains rows thread index x slot_holds =
    elim (cases_lt thread (length rows)) [
      | inl in_rows ↦ elim (cases_lt index (length (get_or rows thread []))) [
        | inl in_row ↦ Contains-flat_map (λ row. row) rows thread [] (Some x) in_rows (index, in_row, get_or_default (get_or rows thread []) index (Some x) None in_row ∙ slot_holds)
        | inr place_past ↦ absurd (none-some x (sym (get_or_past (get_or rows thread []) index None place_past) ∙ slot_holds))
      ]
      | inr place_past ↦ absurd (none-some x (sym (ap (λ row. get_or row index None) (get_or_past rows thread [] place_past)) ∙ slot_holds))
    ]

-- a row and a place in it, of a root or a pin slot that is in the rows
Contains-placed : {A : Type 0} (rows : List (List (Option A))) (x : A) → Contains (flat_map (λ row. row) rows) (Some x) → (thread : ℕ) × (index : ℕ) × (get_or (get_or rows thread []) index None ≡ Some x)
Contains-placed rows x contained =
    let row = Contains-from_flat_map (λ row. row) rows [] (Some x) contained in
    let place = row.2 in
    (row.0, place.0, get_or_default (get_or rows row.0 []) place.0 None (Some x) place.1 ∙ place.2)

-- the names of what slots hold
Contains-names_in : (slots : List (Option Pinned)) (pinned : Pinned) → Contains slots (Some pinned) → Contains (map name_in slots) (Some pinned.name)
Contains-names_in [] pinned has_slot = absurd (Contains-nil (Some pinned) has_slot)
Contains-names_in (slot ∷ slots) pinned has_slot =
    elim (Contains-cons_cases slot slots (Some pinned) has_slot) [
      | inl first_slot ↦ (0, omega arith, ap name_in first_slot)
      | inr later ↦ Contains-append_right (name_in slot ∷ []) (map name_in slots) (Some pinned.name) (Contains-names_in slots pinned later)
    ]

Contains-from_names_in : (slots : List (Option Pinned)) (name : Name) → Contains (map name_in slots) (Some name) → (pinned : Pinned) × Contains slots (Some pinned) × (pinned.name ≡ name)
Contains-from_names_in [] name has_name = absurd (Contains-nil (Some name) has_name)
Contains-from_names_in (None ∷ slots) name has_name =
    elim (Contains-cons_cases None (map name_in slots) (Some name) has_name) [
      | inl never ↦ cc
      | inr later ↦ let later_pinned = Contains-from_names_in slots name later in (later_pinned.0, Contains-append_right (None ∷ []) slots (Some later_pinned.0) later_pinned.1, later_pinned.2)
    ]
Contains-from_names_in (Some pinned ∷ slots) name has_name =
    elim (Contains-cons_cases (Some pinned.name) (map name_in slots) (Some name) has_name) [
      | inl first_slot ↦ let equal_names : pinned.name ≡ name = cc in (pinned, (0, omega arith, refl), equal_names)
      | inr later ↦ let later_pinned = Contains-from_names_in slots name later in (later_pinned.0, Contains-append_right (Some pinned ∷ []) slots (Some later_pinned.0) later_pinned.1, later_pinned.2)
    ]

-- a name that a search begins with
starts-reached : (plain : Plain) (name : Name) → Contains (starts_of plain) (Some name) → IsReachable (graph_of plain) name
starts-reached plain name has_start =
    elim (Contains-append_cases (flat_map (λ row. row) plain.roots) (map name_in (held_in_slots plain)) (Some name) has_start) [
      | inl root ↦ let place = Contains-placed plain.roots name root in from_root place.0 place.1 name (root-graph_of plain place.0 place.1 ∙ place.2)
      | inr slot ↦
          let pinned_found = Contains-from_names_in (held_in_slots plain) name slot in
          let place = Contains-placed plain.pins pinned_found.0 pinned_found.1 in
          subst (IsReachable (graph_of plain)) pinned_found.2 (from_pin place.0 place.1 pinned_found.0 (pin-graph_of plain place.0 place.1 ∙ place.2))
    ]

none_distinct : IsDistinct same_name []
unfolding IsDistinct
none_distinct = tt

-- the search begins with the roots and what pin slots hold
pub IsSearched-starts : (plain : Plain) → IsSearched plain (with_names [] (starts_of plain)) 0
IsSearched-starts plain = record {
  reached = λ name has_name. elim (with_names-only [] (starts_of plain) name has_name) [
    | inl never ↦ absurd (Contains-nil name never)
    | inr held ↦ starts-reached plain name held
  ];
  roots = λ thread root held_name slot_holds. with_names-has [] (starts_of plain) held_name
      (Contains-append_left (flat_map (λ row. row) plain.roots) (map name_in (held_in_slots plain)) (Some held_name) (placed-Contains plain.roots thread root held_name (sym (root-graph_of plain thread root) ∙ slot_holds)));
  pins = λ thread slot held slot_holds. with_names-has [] (starts_of plain) held.name
      (Contains-append_right (flat_map (λ row. row) plain.roots) (map name_in (held_in_slots plain)) (Some held.name)
      (Contains-names_in (held_in_slots plain) held (placed-Contains plain.pins thread slot held (sym (pin-graph_of plain thread slot) ∙ slot_holds))));
  fields = λ row_index row_name index_below name_there field held_name slot_holds. absurd (omega arith);
  distinct = with_names-distinct [] (starts_of plain) none_distinct;
  known = λ name has_name. elim (with_names-only [] (starts_of plain) name has_name) [
    | inl never ↦ absurd (Contains-nil name never)
    | inr held ↦ Contains-names_held (references_of plain) name (Contains-append_left (starts_of plain) (flat_map (λ (row : Row). row.refs) plain.rows) (Some name) held)
  ];
  within = omega arith;
}

-- one name more was followed
pub IsSearched-more : (plain : Plain) (found : List Name) (next : ℕ) (name : Name) → IsSearched plain found next → next < length found → name ≡ get_or found next name
    → IsSearched plain (with_names found (named (graph_of plain) (Some name)).refs) (next + 1)
IsSearched-more plain found next followed_name searched within followed_there =
    let refs = (named (graph_of plain) (Some followed_name)).refs in
    let longer = with_names-longer found refs in
    record {
      reached = λ name has_name. elim (with_names-only found refs name has_name) [
        | inl before ↦ searched.reached name before
        | inr held ↦ let field_found = slice_get-from_Contains refs (Some name) held in from_field followed_name name field_found.0 (searched.reached followed_name (next, within, sym followed_there)) field_found.1
      ];
      roots = λ thread root name slot_holds. with_names-keeps found refs name (searched.roots thread root name slot_holds);
      pins = λ thread slot held slot_holds. with_names-keeps found refs held.name (searched.pins thread slot held slot_holds);
      fields = fields;
      distinct = with_names-distinct found refs searched.distinct;
      known = λ name has_name. elim (with_names-only found refs name has_name) [ inl before ↦ searched.known name before | inr held ↦ named-refs plain followed_name name held ];
      within = rw longer.1 (omega (arith, length-append found longer.0));
    }
  where
    fields : (index : ℕ) (holder_name : Name) → index < next + 1 → get_or (with_names found (named (graph_of plain) (Some followed_name)).refs) index holder_name ≡ holder_name → (field : ℕ) (referred_name : Name)
        → slice_get (named (graph_of plain) (Some holder_name)).refs field ≡ Some (Some referred_name) → Contains (with_names found (named (graph_of plain) (Some followed_name)).refs) referred_name
    fields index holder_name index_below name_there field referred_name holds =
        let refs = (named (graph_of plain) (Some followed_name)).refs in
        let longer = with_names-longer found refs in
        let same_read : get_or (with_names found refs) index holder_name ≡ get_or found index holder_name = rw longer.1 (get_or_append_left found longer.0 holder_name index (omega arith)) in
        elim (cases_lt index next) [
          | inl before ↦ with_names-keeps found refs referred_name (searched.fields index holder_name before (sym same_read ∙ name_there) field referred_name holds)
          | inr last_index ↦
              let index_last : index ≡ next = omega arith in
              let holder_followed : holder_name ≡ followed_name = sym name_there ∙ same_read ∙ ap (λ index. get_or found index holder_name) index_last ∙ get_or_default found next holder_name followed_name within ∙ sym followed_there in
              with_names-has found refs referred_name (Contains-from_slice_get refs field (Some referred_name) (ap (λ (name : Name). slice_get (named (graph_of plain) (Some name)).refs field) (sym holder_followed) ∙ holds))
        ]

-- the search ends: there are not more names
pub IsSearched-bound : (plain : Plain) (found : List Name) (next : ℕ) → IsSearched plain found next → length found ≤ length (names_of plain)
IsSearched-bound plain found next searched =
    length-le_from_is_member same_name-laws found (names_of plain) searched.distinct
    (λ known_name has_name. list_any-from_Contains same_name-laws known_name (names_of plain) (searched.known known_name (Contains-from_any same_name-true known_name found has_name)))

-- where all names were followed, those that can be reached were found
pub IsSearched-all : (plain : Plain) (found : List Name) (next : ℕ) → IsSearched plain found next → length found ≤ next → (name : Name) → IsReachable (graph_of plain) name → Contains found name
IsSearched-all plain found next searched all_followed _ (from_root thread root name slot_holds) = searched.roots thread root name slot_holds
IsSearched-all plain found next searched all_followed _ (from_pin thread slot pinned slot_holds) = searched.pins thread slot pinned slot_holds
IsSearched-all plain found next searched all_followed _ (from_field holder_name name field reached slot_holds) =
    let holder_found = IsSearched-all plain found next searched all_followed holder_name reached in
    searched.fields holder_found.0 holder_name (omega (arith, holder_found.1)) holder_found.2 field name slot_holds
