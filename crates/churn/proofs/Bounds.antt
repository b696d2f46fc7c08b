-- How many words the workload can have in use.
use Rattle.std.proofs.Common.{ℕ, zero, suc, ◌≡◌, ◌≤◌, ◌⊎◌, List, [], ◌∷◌, ◌++◌, length, get_or, Some, None, refl, ap, ◌∙◌, sym, subst, inl, inr, arith, length-append}
use Rattle.std.specs.Prelude.{Contains, All, slice_get}
use Rattle.std.proofs.lemmas.List.{get_or_default}
use Rattle.std.proofs.lemmas.List.Elements.{Contains-append_left, Contains-append_right}
use Rattle.std.proofs.lemmas.List.Sums.{sum_by-le}
use Rattle.std.proofs.lemmas.Map.Made.{length-le_from_is_member}
use Rattle.std.proofs.lemmas.Map.Views.{Contains-from_any, list_any-from_Contains}
use Rattle.std.proofs.lemmas.Option.{get_or_from_slice_get, none-some}
use Rattle.shen_graph.specs.declared.name.Name.{Name}
use Rattle.shen_graph.specs.Graph.{Graph, Reference, named, hub}
use Rattle.shen_graph.specs.Reach.{IsReachable, IsReach, Live, size}
use Rattle.shen_graph.specs.Reach.IsReachable.{from_root, from_pin, from_field}
use Rattle.shen_graph.proofs.Distinct.{distinct}
use Rattle.shen_graph.proofs.PlainLemmas.{same_name-true}
use Rattle.shen_graph.proofs.ReachLemmas.{same_name-laws, names_held, Contains-names_held, Contains-from_slice_get}
use Rattle.churn.specs.Script.{new_leaf, old_leaf, last_leaf}
use Rattle.churn.proofs.Belongings.{IsThread, own, fields_of, field_of, IsBox, IsLeaf, IsLink, Tidy, name_of}
use Rattle.churn.proofs.BelowTheHub.{thread_or_not}
use Rattle.churn.proofs.Opening.{thread_cases}

-- what a thread has in its roots for leaves, and in its box
abbrev pub held : Graph → ℕ → List Reference
held graph thread = graph.root thread new_leaf ∷ graph.root thread old_leaf ∷ graph.root thread last_leaf ∷ fields_of graph (own thread 1)

-- the hub, a box, or a leaf that a thread holds
abbrev pub IsKnown : Graph → Name → Type 0
IsKnown graph name = (name ≡ hub) ⊎ ((thread : ℕ) × IsThread thread × ((name ≡ own thread 1) ⊎ (IsLeaf thread (Some name) × Contains (held graph thread) (Some name))))

by_root : (graph : Graph) → Tidy graph → (thread index : ℕ) (name : Name) → IsThread thread → graph.root thread index ≡ Some name → IsKnown graph name
by_root graph tidy thread zero name is_thread root_holds =
    let same_name : Some hub ≡ Some name = sym (tidy.threads thread is_thread).hub_root ∙ root_holds in
    inl (cc)
by_root graph tidy thread (suc zero) name is_thread root_holds =
    let box = subst (IsBox thread) root_holds (tidy.threads thread is_thread).box_root in
    inr (thread, is_thread, inl (name_of name thread 1 box.0 box.1))
by_root graph tidy thread (suc (suc zero)) name is_thread root_holds = inr (thread, is_thread, inr (subst (IsLeaf thread) root_holds ((tidy.threads thread is_thread).leaf_root 2 (omega arith)), (0, omega arith, root_holds)))
by_root graph tidy thread (suc (suc (suc zero))) name is_thread root_holds = inr (thread, is_thread, inr (subst (IsLeaf thread) root_holds ((tidy.threads thread is_thread).leaf_root 3 (omega arith)), (1, omega arith, root_holds)))
by_root graph tidy thread (suc (suc (suc (suc zero)))) name is_thread root_holds = inr (thread, is_thread, inr (subst (IsLeaf thread) root_holds ((tidy.threads thread is_thread).leaf_root 4 (omega arith)), (2, omega arith, root_holds)))
by_root graph tidy thread (suc (suc (suc (suc (suc beyond))))) name is_thread root_holds =
    let no_root = tidy.high_root thread (suc (suc (suc (suc (suc beyond))))) (omega arith) in
    let never : None ≡ Some name = sym no_root ∙ root_holds in
    absurd cc

by_field : (graph : Graph) → Tidy graph → (name held_name : Name) (field : ℕ) → IsKnown graph name → slice_get (fields_of graph name) field ≡ Some (Some held_name) → IsKnown graph held_name
by_field graph tidy name held_name field name_known field_holds =
    elim name_known [
      | inl at_hub ↦
          let field_there : field_of graph hub field ≡ Some held_name = ap (λ (name : Name). field_of graph name field) (sym at_hub) ∙ get_or_from_slice_get (fields_of graph name) field (Some held_name) None field_holds in
          let link = subst (IsLink field) field_there (tidy.links field) in
          inr (field, link.2, inl (name_of held_name field 1 link.0 link.1))
      | inr by_thread ↦ elim (by_thread.2) [
        | inl at_box ↦
            let thread = by_thread.0 in
            let field_there : slice_get (fields_of graph (own thread 1)) field ≡ Some (Some held_name) = ap (λ (name : Name). slice_get (fields_of graph name) field) (sym at_box) ∙ field_holds in
            let value : field_of graph (own thread 1) field ≡ Some held_name = get_or_from_slice_get (fields_of graph (own thread 1)) field (Some held_name) None field_there in
            inr (
              thread,
              by_thread.1,
              inr (
                subst (IsLeaf thread) value ((tidy.threads thread by_thread.1).slots field),
                Contains-append_right (graph.root thread new_leaf ∷ graph.root thread old_leaf ∷ graph.root thread last_leaf ∷ []) (fields_of graph (own thread 1)) (Some held_name) (Contains-from_slice_get (fields_of graph (own thread 1)) field (Some held_name) field_there),
              ),
            )
        | inr leaf ↦
            let thread = by_thread.0 in
            let no_field : field_of graph (own thread name.count) field ≡ None = (tidy.threads thread by_thread.1).leaves name.count field leaf.0.1 in
            let own_name = name_of name thread name.count leaf.0.0 refl in
            let value : field_of graph name field ≡ Some held_name = get_or_from_slice_get (fields_of graph name) field (Some held_name) None field_holds in
            let never : None ≡ Some held_name = sym no_field ∙ ap (λ (name : Name). field_of graph name field) (sym own_name) ∙ value in
            absurd cc
      ]
    ]

known_reachable : (graph : Graph) → Tidy graph → (name : Name) → IsReachable graph name → IsKnown graph name
known_reachable graph tidy _ (from_root root_thread index name leads) =
    elim (thread_or_not root_thread) [
      | inl thread ↦ by_root graph tidy root_thread index name thread leads
      | inr not_thread ↦ let never : None ≡ Some name = sym (tidy.no_root root_thread index not_thread) ∙ leads in absurd cc
    ]
known_reachable graph tidy _ (from_pin thread slot held_name leads) = absurd (none-some held_name (sym (tidy.no_pin thread slot) ∙ leads))
known_reachable graph tidy _ (from_field holder name field reached leads) = by_field graph tidy holder name field (known_reachable graph tidy holder reached) leads

-- each is small
known_small : (graph : Graph) → Tidy graph → (name : Name) → IsKnown graph name → size (named graph (Some name)) ≤ 19
known_small graph tidy name name_known =
    elim name_known [
      | inl at_hub ↦ subst (λ (name : Name). size (named graph (Some name)) ≤ 19) (sym at_hub) (omega (arith, tidy.hub_size, ap (length {A = ℕ}) tidy.hub_nums))
      | inr by_thread ↦ elim (by_thread.2) [
        | inl at_box ↦ subst (λ (name : Name). size (named graph (Some name)) ≤ 19) (sym at_box) ((tidy.threads by_thread.0 by_thread.1).small 1)
        | inr leaf ↦ subst (λ (name : Name). size (named graph (Some name)) ≤ 19) (sym (name_of name by_thread.0 name.count leaf.0.0 refl)) ((tidy.threads by_thread.0 by_thread.1).small name.count)
      ]
    ]

-- and there are few
abbrev pub known_names : Graph → List Name
known_names graph = (hub ∷ own 1 1 ∷ own 2 1 ∷ own 3 1 ∷ []) ++ (names_held (held graph 1) ++ (names_held (held graph 2) ++ names_held (held graph 3)))

few_held : (refs : List Reference) → length (names_held refs) ≤ length refs
few_held [] = omega arith
few_held (None ∷ refs) = let rest_few = few_held refs in omega arith
few_held (Some name ∷ refs) = let rest_few = few_held refs in omega arith

few_names : (graph : Graph) → Tidy graph → length (known_names graph) ≤ 61
few_names graph tidy =
    let first_names = few_held (held graph 1) in
    let second_names = few_held (held graph 2) in
    let third_names = few_held (held graph 3) in
    let first_slots = (tidy.threads 1 (omega arith, omega arith)).slot_count in
    let second_slots = (tidy.threads 2 (omega arith, omega arith)).slot_count in
    let third_slots = (tidy.threads 3 (omega arith, omega arith)).slot_count in
    omega (
      arith,
      length-append (hub ∷ own 1 1 ∷ own 2 1 ∷ own 3 1 ∷ []) (names_held (held graph 1) ++ (names_held (held graph 2) ++ names_held (held graph 3))),
      length-append (names_held (held graph 1)) (names_held (held graph 2) ++ names_held (held graph 3)),
      length-append (names_held (held graph 2)) (names_held (held graph 3)),
    )

known_named : (graph : Graph) (name : Name) → IsKnown graph name → Contains (known_names graph) name
known_named graph name name_known =
    elim name_known [
      | inl at_hub ↦ Contains-append_left fixed others name (0, omega arith, sym at_hub)
      | inr by_thread ↦ elim (thread_cases by_thread.0 by_thread.1) [
        | inl thread_one ↦ elim (by_thread.2) [
          | inl at_box ↦ Contains-append_left fixed others name (1, omega arith, sym (at_box ∙ ap (λ thread. own thread 1) thread_one))
          | inr leaf ↦ Contains-append_right fixed others name (Contains-append_left (names_held (held graph 1)) later name (Contains-names_held (held graph 1) name (subst (λ (thread : ℕ). Contains (held graph thread) (Some name)) thread_one leaf.1)))
        ]
        | inr later_thread ↦ elim later_thread [
          | inl thread_two ↦ elim (by_thread.2) [
            | inl at_box ↦ Contains-append_left fixed others name (2, omega arith, sym (at_box ∙ ap (λ thread. own thread 1) thread_two))
            | inr leaf ↦ Contains-append_right fixed others name (Contains-append_right (names_held (held graph 1)) later name
                (Contains-append_left (names_held (held graph 2)) (names_held (held graph 3)) name (Contains-names_held (held graph 2) name (subst (λ (thread : ℕ). Contains (held graph thread) (Some name)) thread_two leaf.1))))
          ]
          | inr thread_three ↦ elim (by_thread.2) [
            | inl at_box ↦ Contains-append_left fixed others name (3, omega arith, sym (at_box ∙ ap (λ thread. own thread 1) thread_three))
            | inr leaf ↦ Contains-append_right fixed others name (Contains-append_right (names_held (held graph 1)) later name
                (Contains-append_right (names_held (held graph 2)) (names_held (held graph 3)) name (Contains-names_held (held graph 3) name (subst (λ (thread : ℕ). Contains (held graph thread) (Some name)) thread_three leaf.1))))
          ]
        ]
      ]
    ]
  where
    fixed : List Name
    fixed = hub ∷ own 1 1 ∷ own 2 1 ∷ own 3 1 ∷ []

    later : List Name
    later = names_held (held graph 2) ++ names_held (held graph 3)

    others : List Name
    others = names_held (held graph 1) ++ later

few_reachable : (graph : Graph) (names : List Name) → Tidy graph → IsReach graph names → length names ≤ 61
few_reachable graph names tidy reach =
    let fewer = length-le_from_is_member same_name-laws names (known_names graph) (distinct names reach.in_order)
    (λ name is_among. list_any-from_Contains same_name-laws name (known_names graph) (known_named graph name (known_reachable graph tidy name (reach.only name (Contains-from_any same_name-true name names is_among))))) in
    omega (arith, few_names graph tidy, fewer)

-- so few words are live
pub few_live : (graph : Graph) (words : ℕ) → Tidy graph → Live graph words → words ≤ 1159
few_live graph words tidy live =
    let names = live.0 in
    let small_objects : All (λ some_name. size (named graph (Some some_name)) ≤ 19) names = λ index default index_within.
    known_small graph tidy (get_or names index default) (known_reachable graph tidy (get_or names index default) (live.1.only (get_or names index default) (index, index_within, get_or_default names index (get_or names index default) default index_within))) in
    let total = sum_by-le (λ (name : Name). size (named graph (Some name))) 19 names small_objects in
    omega (arith, few_reachable graph names tidy live.1, total, live.2)
