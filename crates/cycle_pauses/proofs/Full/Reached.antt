-- The names that a graph reaches, as a list in their order: those of the pieces that the words of an image hold.
use Rattle.std.proofs.Common.{◌≡◌, ℕ, ◌+◌, ◌⊎◌, inl, inr, true, nat_eq, slice_get, List, [], ◌∷◌, Option, Some, None, ⊎_elim, refl, sym, ap, ◌∙◌, subst, arith}
use Rattle.std.specs.Prelude.{Contains}
use Rattle.std.proofs.lemmas.Bool.{or_cases, or_left, or_right, eqb-true, eq-eqb, false≢true}
use Rattle.std.proofs.lemmas.List.Elements.{Contains-append_right}
use Rattle.std.proofs.lemmas.Option.{none-some, same_Some}
use Rattle.heap_words.specs.declared.config.Config.{Config}
use Rattle.heap_words.specs.Words.{Word, Top, Heap}
use Rattle.shen_graph.specs.declared.name.Name.{Name}
use Rattle.shen_graph.specs.Graph.{Graph, Object, fresh}
use Rattle.shen_graph.specs.Step.{name_in}
use Rattle.shen_graph.specs.Reach.{IsReachable, IsReach}
use Rattle.shen_graph.specs.Reach as reach
use Rattle.shen_graph.proofs.ReachLemmas.{Contains-cons_cases, Contains-nil}
use Rattle.heap_world.specs.Walk.{has}
use Rattle.heap_world.specs.World.{thing, promised, Plot, name_at}
use Rattle.heap_world.specs.Asking.{Asking}
use Rattle.heap_world.specs.Represents.{RepresentsByCopies}
use Rattle.image_graph.specs.Held.{IsLedTo, IsAmong, HoldsGraph}
use Rattle.image_graph.specs.Full.{now_in, held_words, held_in}
use Rattle.image_graph.specs.Promised.{Promises, with_promised}
use Rattle.image_graph.proofs.Reached.{held_is_reached, reached_is_held}
use Rattle.image_graph.proofs.Walked.{found_is_held, held_is_found}
use Rattle.image_graph.proofs.Promised.{old_object, reaches_promised}
use Rattle.image_graph.proofs.PromisedRoots.{plain_root, pin_root}
use Rattle.cycle_pauses.proofs.Full.Sorted.{sorted_names}
use Rattle.cycle_pauses.proofs.Full.Promises.{promises_of, promised_one}
use Rattle.cycle_pauses.proofs.Full.Before.{live, live_rooted, names_stay, current_kind, names_differ, slot_of}
use Rattle.cycle_pauses.proofs.Full.Current.{held_current, live_holds, has_current, reached_at}
use Rattle.cycle_pauses.proofs.Full.Holding.{are_fresh}

-- the names of the addresses of a list that have one
abbrev with_one : Option Name → List Name → List Name
with_one None names = names
with_one (Some name) names = name ∷ names

abbrev names_at : (ℕ → Option Name) → List ℕ → List Name
names_at name_of [] = []
names_at name_of (address ∷ others) = with_one (name_of address) (names_at name_of others)

one_first : (found : Option Name) (names : List Name) (name : Name) → found ≡ Some name → Contains (with_one found names) name
one_first None names name has_name = absurd (none-some name has_name)
one_first (Some found_name) names name has_name = (0, omega arith, same_Some found_name name has_name)

one_later : (found : Option Name) (names : List Name) (name : Name) → Contains names name → Contains (with_one found names) name
one_later None names name contained = contained
one_later (Some found_name) names name contained = Contains-append_right (found_name ∷ []) names name contained

one_cases : (found : Option Name) (names : List Name) (name : Name) → Contains (with_one found names) name → (found ≡ Some name) ⊎ Contains names name
one_cases None names name contained = inr contained
one_cases (Some found_name) names name contained = ⊎_elim (λ (same_names : found_name ≡ name). inl (ap Some same_names)) (λ (rest : Contains names name). inr rest) (Contains-cons_cases found_name names name contained)

name_there : (name_of : ℕ → Option Name) (xs : List ℕ) (address : ℕ) (name : Name) → has xs address ≡ true → name_of address ≡ Some name → Contains (names_at name_of xs) name
name_there name_of [] address name has_address named = absurd (false≢true has_address)
name_there name_of (x ∷ xs) address name has_address named = ⊎_elim
    (λ (is_first : nat_eq address x ≡ true). one_first (name_of x) (names_at name_of xs) name (ap name_of (sym (eqb-true address x is_first)) ∙ named))
    (λ (rest : has xs address ≡ true). one_later (name_of x) (names_at name_of xs) name (name_there name_of xs address name rest named))
    (or_cases (nat_eq address x) (has xs address) has_address)

there_named : (name_of : ℕ → Option Name) (xs : List ℕ) (name : Name) → Contains (names_at name_of xs) name → (address : ℕ) × (has xs address ≡ true) × (name_of address ≡ Some name)
there_named name_of [] name contained = absurd (Contains-nil name contained)
there_named name_of (x ∷ xs) name contained = ⊎_elim
    (λ (first_named : name_of x ≡ Some name). (x, or_left (nat_eq x x) (has xs x) (eq-eqb x x refl), first_named))
    (λ (rest : Contains (names_at name_of xs) name). let found = there_named name_of xs name rest in (found.0, or_right (nat_eq found.0 x) (has xs found.0) found.1, found.2))
    (one_cases (name_of x) (names_at name_of xs) name contained)

module _ (config : Config) (memory : Word → ℕ) (graph : Graph) (asking : ℕ → Asking) (represents_by_copies : RepresentsByCopies config memory graph asking) where
  abbrev promises : Promises
  promises = promises_of config graph asking

  abbrev more : Graph
  more = with_promised graph promises

  abbrev block : Plot
  block = live config memory graph asking represents_by_copies

  abbrev heap : ℕ → ℕ
  heap address = memory (Heap address)

  abbrev IsRoot : ℕ → Type 0
  IsRoot = IsAmong (held_words config memory)

  holds : HoldsGraph config (λ region. memory (Top region)) heap block (now_in memory) IsRoot more
  holds = live_holds config memory graph asking represents_by_copies

  -- the larger graph reaches what the graph does, for its roots and what its slots hold are roots there
  reach_more : (name : Name) → IsReachable graph name → IsReachable more name
  reach_more name (reach.from_root thread root _ leads) =
      let stays_so = (live_rooted config memory graph asking represents_by_copies).no_more_roots thread root name leads in
      reach.from_root thread root name (plain_root graph promises thread root stays_so.3 ∙ leads)
  reach_more _ (reach.from_pin thread slot held_pin leads) =
      let stays_so = slot_of config memory graph asking represents_by_copies thread slot held_pin leads in
      reach.from_root thread (17 + slot) held_pin.name (pin_root graph promises thread slot stays_so.few ∙ ap name_in leads)
  reach_more name (reach.from_field holder _ field reached leads) =
      reach.from_field holder name field (reach_more holder reached)
      (ap (λ (object : Object). slice_get object.refs field) (old_object config.mutators graph promises (are_fresh config memory graph asking represents_by_copies) holder reached) ∙ leads)

  -- what was found is held, and the other way round
  pub found_held : (address : ℕ) → has (held_in config memory) address ≡ true → IsLedTo (now_in memory) heap IsRoot address
  found_held = found_is_held config memory block more holds

  pub held_found : (address : ℕ) → IsLedTo (now_in memory) heap IsRoot address → has (held_in config memory) address ≡ true
  held_found = held_is_found config memory block more holds

  abbrev found : List Name
  found = names_at (λ address. name_at (represents_by_copies.block address)) (held_in config memory)

  -- each name that the graph reaches is found
  all_found : (name : Name) → IsReachable graph name → Contains found name
  all_found name reached =
      let held_there = reached_is_held config (λ region. memory (Top region)) heap block (now_in memory) IsRoot more holds name (reach_more name reached) in
      let old : represents_by_copies.block held_there.0 ≡ Some (thing name held_there.1 held_there.2) = ⊎_elim
      (λ (thing_there : represents_by_copies.block held_there.0 ≡ Some (thing name held_there.1 held_there.2)). thing_there)
      (λ (new : (seat : ℕ) × (words : ℕ) × (represents_by_copies.block held_there.0 ≡ Some (promised seat words)) × (name ≡ fresh graph (seat + 1))).
      let piece = reached_at config memory graph asking represents_by_copies name reached in
      absurd (names_differ config memory graph asking represents_by_copies piece.0 piece.1 piece.2 new.0 name piece.3 new.3))
      (current_kind config memory graph asking represents_by_copies held_there.0 held_there.1 held_there.2 name (held_current config memory graph asking represents_by_copies held_there.0 held_there.3) held_there.4)
      in
      name_there (λ address. name_at (represents_by_copies.block address)) (held_in config memory) held_there.0 name (held_found held_there.0 held_there.3) (ap name_at old)

  -- and no other
  only_found : (name : Name) → Contains found name → IsReachable graph name
  only_found name contained =
      let found_address = there_named (λ address. name_at (represents_by_copies.block address)) (held_in config memory) name contained in
      let reached_held = held_is_reached config (λ region. memory (Top region)) heap block (now_in memory) IsRoot more holds found_address.0 (found_held found_address.0 found_address.1) in
      let piece = has_current config memory graph asking represents_by_copies found_address.0 name found_address.2 in
      let same_name : reached_held.0 ≡ name = same_Some reached_held.0 name (ap name_at (sym reached_held.3) ∙ names_stay config memory graph asking represents_by_copies found_address.0 name found_address.2) in
      ⊎_elim
      (λ (old : IsReachable graph name). old)
      (λ (new : (thread : ℕ) × (promises.ref thread ≡ Some name)).
      let promised_to = promised_one config graph asking new.0 name new.1 in
      absurd (names_differ config memory graph asking represents_by_copies piece.0 piece.1 piece.2 promised_to.0 name piece.3 (promised_to.4 ∙ ap (fresh graph) promised_to.2)))
      (reaches_promised config.mutators graph promises (are_fresh config memory graph asking represents_by_copies) name (subst (IsReachable more) same_name reached_held.4))

  -- so there is a list of them in their order
  pub reach_list : (names : List Name) × IsReach graph names
  reach_list =
      let sorted = sorted_names found in (
        sorted.0,
        record {
          in_order = sorted.1.in_order;
          all = λ name reached. sorted.1.all name (all_found name reached);
          only = λ name contained. only_found name (sorted.1.only name contained);
        },
      )
