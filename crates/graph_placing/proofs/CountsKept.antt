-- Counts of the objects of each thread, which are kept while names in their order are gone through.
use Rattle.std.proofs.Common.{◌≡◌, ◌≢◌, ℕ, ◌+◌, ◌-◌, ◌<◌, ◌≤◌, ◌==◌, suc, cond, Bool, List, length, get_or, take, set, Contains, ⊎_elim, ap, ◌∙◌, subst, arith, get_or-set_same, get_or-set_other}
use Rattle.std.proofs.lemmas.Bool.{cond-true, cond-false, cases_eq, cases_lt, eq-eqb, ne_eqb}
use Rattle.std.proofs.lemmas.List.{length-set, length-take-le}
use Rattle.std.proofs.lemmas.List.Elements.{Contains-get_or}
use Rattle.shen_graph.specs.declared.name.Name.{Name}
use Rattle.shen_graph.specs.Graph.{hub}
use Rattle.shen_graph.specs.Reach.{InOrder}
use Rattle.graph_placing.specs.NamesAnew.{earlier_names, names_by}
use Rattle.graph_placing.specs.Renaming.{AreOfThreads, AreCountsOf}
use Rattle.graph_placing.proofs.NamesCounted.{none_earlier, earlier_is, names_by_next, thread_at_most}

-- a count is one more, or as it was
abbrev pub one_where : Bool → ℕ
one_where holds = cond holds 1 0

module _ (threads : ℕ) (names : List Name) (of_threads : AreOfThreads threads names) where
  -- nothing is before the hub
  pub hub_first : (name : Name) → name.thread ≡ 0 → Contains names name → earlier_names names name ≡ 0
  hub_first name hub_thread contained =
      none_earlier names name (λ earlier_name in_names same_thread earlier.
      let earlier_count : earlier_name.count ≡ 1 = ap (λ (name : Name). name.count) (of_threads.hub_alone earlier_name in_names (same_thread ∙ hub_thread)) in
      let name_count : name.count ≡ 1 = ap (λ (name : Name). name.count) (of_threads.hub_alone name contained hub_thread) in
      omega (arith, earlier, earlier_count, name_count))

  module _ (index : ℕ) (index_below : index < length names) (old : List ℕ) (counted : AreCountsOf (take index names) threads old) (name : Name) (name_at_index : get_or names index hub ≡ name) where
    pub name_there : Contains names name
    name_there = subst (Contains names) name_at_index (Contains-get_or names index hub index_below)

    pub thread_within : name.thread ≤ length old
    thread_within = omega (arith, of_threads.within name name_there, counted.long)

    -- the count of a thread
    kept : 1 ≤ name.thread → get_or old (name.thread - 1) 0 ≡ names_by (take index names) name.thread
    kept positive =
        let same_thread : name.thread - 1 + 1 ≡ name.thread = omega (arith, positive) in
        counted.each (name.thread - 1) (omega (arith, positive, of_threads.within name name_there)) ∙ ap (names_by (take index names)) same_thread

    pub count_is_few : 1 ≤ name.thread → get_or old (name.thread - 1) 0 ≤ index
    count_is_few positive = omega (arith, kept positive, thread_at_most (take index names) name.thread, length-take-le index names (omega (arith, index_below)))

    -- one object more is the next of its thread
    pub next_is : InOrder names → (count : ℕ) → (name.thread ≡ 0 → count ≡ 1) → (1 ≤ name.thread → count ≡ get_or old (name.thread - 1) 0 + 1) → count ≡ earlier_names names name + 1
    next_is order count of_hub of_thread = ⊎_elim
        (λ (no_thread : name.thread < 1). let is_zero : name.thread ≡ 0 = omega (arith, no_thread) in omega (arith, of_hub is_zero, hub_first name is_zero name_there))
        (λ (some_thread : 1 ≤ name.thread).
        let before : earlier_names names name ≡ names_by (take index names) name.thread = subst (λ (name : Name). earlier_names names name ≡ names_by (take index names) name.thread) name_at_index (earlier_is names order index hub index_below) in
        omega (arith, of_thread some_thread, kept some_thread, before))
        (cases_lt name.thread 1)

    one_more : (mutator : ℕ) → names_by (take (index + 1) names) (mutator + 1) ≡ names_by (take index names) (mutator + 1) + one_where (name.thread == mutator + 1)
    one_more mutator =
        let next_index : index + 1 ≡ suc index = omega arith in
        ap (λ limit. names_by (take limit names) (mutator + 1)) next_index ∙ names_by_next names index (mutator + 1) hub index_below
        ∙ ap (λ (name : Name). names_by (take index names) (mutator + 1) + one_where (name.thread == mutator + 1)) name_at_index

    pub counted_next : (new : List ℕ) → (name.thread ≡ 0 → new ≡ old) → (1 ≤ name.thread → new ≡ set old (name.thread - 1) (get_or old (name.thread - 1) 0 + 1)) → AreCountsOf (take (index + 1) names) threads new
    counted_next new of_hub of_thread = record {
      long = ⊎_elim
          (λ (no_thread : name.thread < 1). ap length (of_hub (omega (arith, no_thread))) ∙ counted.long)
          (λ (some_thread : 1 ≤ name.thread). ap length (of_thread some_thread) ∙ length-set old (name.thread - 1) (get_or old (name.thread - 1) 0 + 1) ∙ counted.long)
          (cases_lt name.thread 1);
      each = λ index inside. ⊎_elim
          (λ (no_thread : name.thread < 1).
          let counts_none : one_where (name.thread == index + 1) ≡ 0 = cond-false (name.thread == index + 1) 1 0 (ne_eqb _ _ (λ same_thread. omega (arith, same_thread, no_thread))) in
          ap (λ (xs : List ℕ). get_or xs index 0) (of_hub (omega (arith, no_thread))) ∙ omega (arith, counted.each index inside, one_more index, counts_none))
          (λ (some_thread : 1 ≤ name.thread).
          let set_is = ap (λ (xs : List ℕ). get_or xs index 0) (of_thread some_thread) in
          ⊎_elim
          (λ (its_thread : name.thread ≡ index + 1).
          let counts_one : one_where (name.thread == index + 1) ≡ 1 = cond-true (name.thread == index + 1) 1 0 (eq-eqb _ _ its_thread) in
          let place : name.thread - 1 ≡ index = omega (arith, its_thread) in
          let value : get_or (set old index (get_or old index 0 + 1)) index 0 ≡ get_or old index 0 + 1 = get_or-set_same old index (get_or old index 0 + 1) 0 (omega (arith, inside, counted.long)) in
          set_is ∙ ap (λ set_index. get_or (set old set_index (get_or old set_index 0 + 1)) index 0) place ∙ omega (arith, value, counted.each index inside, one_more index, counts_one))
          (λ (elsewhere : name.thread ≢ index + 1).
          let no_thread : one_where (name.thread == index + 1) ≡ 0 = cond-false (name.thread == index + 1) 1 0 (ne_eqb _ _ elsewhere) in
          let indices_differ : index ≢ name.thread - 1 = omega (arith, elsewhere, some_thread) in
          let value = get_or-set_other old (name.thread - 1) index (get_or old (name.thread - 1) 0 + 1) 0 indices_differ in
          set_is ∙ value ∙ omega (arith, counted.each index inside, one_more index, no_thread))
          (cases_eq name.thread (index + 1)))
          (cases_lt name.thread 1);
    }
