-- What is kept has no more words than what the graph reaches and what is promised.
use Rattle.std.proofs.Common.{◌≡◌, ℕ, ◌+◌, ◌-◌, ◌<◌, ◌≤◌, ◌⊎◌, inl, inr, Bool, true, false, zero, suc, cond, nat_lt, List, [], length, get_or, slice_get, replicate, sum_by, unwrap_or, Option, Some, None, ⊎_elim, sym, ap, ◌∙◌, subst, arith}
use Rattle.std.proofs.lemmas.Bool.{cond-true, cond-false, cases_Bool, lt-ltb, le-ltb, false≢true}
use Rattle.std.proofs.lemmas.List.{get_or_default, length-replicate}
use Rattle.std.proofs.lemmas.Option.{none-some, same_Some}
use Rattle.heap_words.specs.declared.config.Config.{Config}
use Rattle.regions.specs.Tops.{sum_below}
use Rattle.regions.proofs.Sums.{sum_of_things, sum_by_index, sum_of_two_rows}
use Rattle.shen_graph.specs.declared.name.Name.{Name}
use Rattle.shen_graph.specs.Graph.{Graph, Object, Reference, named, blank, hub, same_reference}
use Rattle.shen_graph.specs.Reach.{IsReachable, IsReach, size}
use Rattle.shen_graph.specs.Reach as reach
use Rattle.shen_graph.proofs.PlainLemmas.{same_name-true, same_name-itself}
use Rattle.heap_world.specs.World.{Plot}
use Rattle.image_graph.specs.Held.{IsLedTo, AreHeldKept, HoldsGraph}
use Rattle.image_graph.specs.Promised.{Promises, with_promised, AreFresh, words_if, promised_words}
use Rattle.image_graph.proofs.Live.{KeptOne, kept_one, one_name}
use Rattle.image_graph.proofs.PromisedRoots.{IsPromisedRoot, IsPinRoot, root_cases}

-- two references that are a name's are one
pub same_reference-true : (reference : Reference) (name : Name) → same_reference reference (Some name) ≡ true → reference ≡ Some name
same_reference-true None name names_agree = absurd (false≢true names_agree)
same_reference-true (Some other_name) name names_agree = ap Some (same_name-true other_name name names_agree)

-- a blank object has no reference but null
blank_leads_nowhere : (refs field : ℕ) (name : Name) → slice_get (replicate refs None) field ≡ Some (Some name) → ⊥
blank_leads_nowhere zero field name field_holds = none-some (Some name) field_holds
blank_leads_nowhere (suc refs) zero name field_holds = none-some name (same_Some None (Some name) field_holds)
blank_leads_nowhere (suc refs) (suc field) name field_holds = blank_leads_nowhere refs field name field_holds

module _ (threads : ℕ) (graph : Graph) (promises : Promises) (fresh : AreFresh threads graph promises) where
  abbrev more : Graph
  more = with_promised graph promises

  -- the object of a promised name, and of another
  abbrev is_promised : Name → Bool
  is_promised name = same_reference (promises.ref name.thread) (Some name)

  promised_object : (name : Name) → promises.ref name.thread ≡ Some name → named more (Some name) ≡ blank (promises.refs name.thread) (promises.nums name.thread)
  promised_object name promised_name =
      let test : is_promised name ≡ true = ap (λ reference. same_reference reference (Some name)) promised_name ∙ same_name-itself name in
      ap (λ (found : Option Object). unwrap_or found (record { refs = []; nums = [] }))
      (cond-true (is_promised name) (Some (blank (promises.refs name.thread) (promises.nums name.thread))) (graph.object name) test)

  -- an object that the graph reaches is no promised one
  pub old_object : (name : Name) → IsReachable graph name → named more (Some name) ≡ named graph (Some name)
  old_object name reached = ⊎_elim
      (λ (promised : is_promised name ≡ true). absurd (fresh.fresh name.thread name (same_reference-true (promises.ref name.thread) name promised) reached))
      (λ (not_promised : is_promised name ≡ false). ap (λ (found : Option Object). unwrap_or found (record { refs = []; nums = [] }))
      (cond-false (is_promised name) (Some (blank (promises.refs name.thread) (promises.nums name.thread))) (graph.object name) not_promised))
      (cases_Bool (is_promised name))

  -- promised to some thread
  abbrev IsPromised : Name → Type 0
  IsPromised name = (thread : ℕ) × (promises.ref thread ≡ Some name)

  -- the graph with the promised objects reaches what the graph reaches, and what is promised
  pub reaches_promised : (name : Name) → IsReachable more name → IsReachable graph name ⊎ IsPromised name
  reaches_promised name (reach.from_root thread root _ slot_holds) = ⊎_elim
      (λ (extra : IsPromisedRoot graph promises thread root name). inr (thread, extra.1))
      (λ (old_root : IsPinRoot graph promises thread root name ⊎ (graph.root thread root ≡ Some name)). ⊎_elim
      (λ (pin : IsPinRoot graph promises thread root name). inl (subst (IsReachable graph) pin.4 (reach.from_pin thread (root - 17) pin.2 pin.3)))
      (λ (plain_root : graph.root thread root ≡ Some name). inl (reach.from_root thread root name plain_root))
      old_root)
      (root_cases graph promises thread root name slot_holds)
  reaches_promised _ (reach.from_pin thread slot pinned_name slot_holds) = absurd (none-some pinned_name slot_holds)
  reaches_promised name (reach.from_field holder_name _ field reached slot_holds) = ⊎_elim
      (λ (old : IsReachable graph holder_name). inl (reach.from_field holder_name name field old (sym (ap (λ (object : Object). slice_get object.refs field) (old_object holder_name old)) ∙ slot_holds)))
      (λ (new : IsPromised holder_name).
      let own_thread : holder_name.thread ≡ new.0 = fresh.own new.0 holder_name new.1 in
      let blank_is = promised_object holder_name (ap promises.ref own_thread ∙ new.1) in
      absurd (blank_leads_nowhere (promises.refs holder_name.thread) field name (sym (ap (λ (object : Object). slice_get object.refs field) blank_is) ∙ slot_holds)))
      (reaches_promised holder_name reached)

module _ (config : Config) (top heap : ℕ → ℕ) (block : Plot) (now kept : ℕ → ℕ) (IsRoot : ℕ → Type 0) (graph : Graph) (promises : Promises)
    (graph_held : HoldsGraph config top heap block now IsRoot (with_promised graph promises)) (held_kept : AreHeldKept heap (IsLedTo now heap IsRoot) kept)
    (fresh : AreFresh config.mutators graph promises) (names : List Name) (reach_is : IsReach graph names) where
  abbrev count : ℕ
  count = length names

  abbrev live_words : ℕ → ℕ
  live_words index = size (named graph (Some (get_or names index hub)))

  -- the names, and behind them the threads
  abbrev words : ℕ → ℕ
  words index = cond (nat_lt index count) (live_words index) (promised_words promises (index - count))

  abbrev IsOf : ℕ → Name → Type 0
  IsOf index name = ((index < count) × (get_or names index hub ≡ name)) ⊎ ((count ≤ index) × (promises.ref (index - count) ≡ Some name))

  abbrev IsPlaced : Name → ℕ → Type 0
  IsPlaced name index = (index < count + (config.mutators + 1)) × (size (named (with_promised graph promises) (Some name)) ≤ words index) × IsOf index name

  placed_old : (name : Name) → IsReachable graph name → (index : ℕ) × IsPlaced name index
  placed_old asked_name reached =
      let found_index = reach_is.all asked_name reached in
      let name : get_or names found_index.0 hub ≡ asked_name = get_or_default names found_index.0 hub asked_name found_index.1 ∙ found_index.2 in
      let weight : words found_index.0 ≡ live_words found_index.0 = cond-true (nat_lt found_index.0 count) (live_words found_index.0) (promised_words promises (found_index.0 - count)) (lt-ltb found_index.0 count found_index.1) in
      let same_size : live_words found_index.0 ≡ size (named graph (Some asked_name)) = ap (λ (name : Name). size (named graph (Some name))) name in
      let old : size (named (with_promised graph promises) (Some asked_name)) ≡ size (named graph (Some asked_name)) = ap size (old_object config.mutators graph promises fresh asked_name reached) in
      (found_index.0, (omega (arith, found_index.1), omega (arith, weight, same_size, old), inl (found_index.1, name)))

  placed_new : (name : Name) (thread : ℕ) → promises.ref thread ≡ Some name → (index : ℕ) × IsPlaced name index
  placed_new name thread promised_name =
      let count_back : count + thread - count ≡ thread = omega arith in
      let weight : words (count + thread) ≡ promised_words promises thread =
      cond-false (nat_lt (count + thread) count) (live_words (count + thread)) (promised_words promises (count + thread - count)) (le-ltb (count + thread) count (omega arith)) ∙ ap (promised_words promises) count_back in
      let given_words : promised_words promises thread ≡ 3 + promises.refs thread + promises.nums thread = ap (λ reference. words_if reference (3 + promises.refs thread + promises.nums thread)) promised_name in
      let own_thread : name.thread ≡ thread = fresh.own thread name promised_name in
      let blank_is = promised_object config.mutators graph promises fresh name (ap promises.ref own_thread ∙ promised_name) in
      let new : size (named (with_promised graph promises) (Some name)) ≡ size (blank (promises.refs name.thread) (promises.nums name.thread)) = ap size blank_is in
      let made : Object = blank (promises.refs name.thread) (promises.nums name.thread) in
      let null : Reference = None in
      let blank_number : ℕ = 0 in
      let refs_length : length made.refs ≡ promises.refs thread = length-replicate (promises.refs name.thread) null ∙ ap promises.refs own_thread in
      let nums_length : length made.nums ≡ promises.nums thread = length-replicate (promises.nums name.thread) blank_number ∙ ap promises.nums own_thread in
      (count + thread, (omega (arith, fresh.few thread name promised_name), omega (arith, weight, given_words, new, refs_length, nums_length), inr (omega arith, ap promises.ref count_back ∙ promised_name)))

  placed : (name : Name) → IsReachable (with_promised graph promises) name → (index : ℕ) × IsPlaced name index
  placed name reached = ⊎_elim
      (λ (old : IsReachable graph name). placed_old name old)
      (λ (new : (thread : ℕ) × (promises.ref thread ≡ Some name)). placed_new name new.0 new.1)
      (reaches_promised config.mutators graph promises fresh name reached)

  one_place : (other_index index : ℕ) (name other_name : Name) → IsOf other_index name → IsOf index other_name → other_index ≡ index → name ≡ other_name
  one_place other_index index name other_name of_n of_m same_index = ⊎_elim
      (λ (first_placed : (other_index < count) × (get_or names other_index hub ≡ name)). ⊎_elim
      (λ (second_placed : (index < count) × (get_or names index hub ≡ other_name)). sym first_placed.1 ∙ ap (λ index. get_or names index hub) same_index ∙ second_placed.1)
      (λ (second_placed : (count ≤ index) × (promises.ref (index - count) ≡ Some other_name)). absurd (omega (arith, first_placed.0, second_placed.0, same_index)))
      of_m)
      (λ (first_placed : (count ≤ other_index) × (promises.ref (other_index - count) ≡ Some name)). ⊎_elim
      (λ (second_placed : (index < count) × (get_or names index hub ≡ other_name)). absurd (omega (arith, first_placed.0, second_placed.0, same_index)))
      (λ (second_placed : (count ≤ index) × (promises.ref (index - count) ≡ Some other_name)). same_Some name other_name (sym first_placed.1 ∙ ap (λ root_index. promises.ref (root_index - count)) same_index ∙ second_placed.1))
      of_m)
      of_n

  pub kept_are_live_or_promised : (end : ℕ) → sum_below kept end ≤ sum_by (λ name. size (named graph (Some name))) names + sum_below (promised_words promises) (config.mutators + 1)
  kept_are_live_or_promised end =
      let kept_object : (first_address : ℕ) → 0 < kept first_address → KeptOne block (with_promised graph promises) kept first_address = kept_one config top heap block now kept IsRoot (with_promised graph promises) graph_held held_kept in
      let kept_less = sum_of_things kept words end (count + (config.mutators + 1))
      (λ first_address address_below some_kept.
      let first_place = placed (kept_object first_address some_kept).name (kept_object first_address some_kept).reached in
      (first_place.0, first_place.1.0, omega (arith, first_place.1.1, (kept_object first_address some_kept).words)))
      (λ first_address second_address first_below some_first second_below some_second same_place.
      let first_place = placed (kept_object first_address some_first).name (kept_object first_address some_first).reached in
      let second_place = placed (kept_object second_address some_second).name (kept_object second_address some_second).reached in
      one_name config top heap block now kept IsRoot (with_promised graph promises) graph_held held_kept first_address second_address some_first some_second
      (one_place first_place.0 second_place.0 (kept_object first_address some_first).name (kept_object second_address some_second).name first_place.1.2 second_place.1.2 same_place))
      in
      omega (arith, kept_less, sum_of_two_rows live_words (promised_words promises) count (config.mutators + 1), sum_by_index (λ name. size (named graph (Some name))) names hub)
