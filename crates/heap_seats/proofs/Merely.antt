-- What a text is said to be for some cause, it is: each part of it can be looked at.
use Rattle.std.proofs.Common.{◌≡◌, ◌<◌, ◌≤◌, inl, inr, ℕ, zero, suc, true, false, List, [], ◌∷◌, length, Contains, ⊎_elim, sym, ap, ◌∙◌, arith}
use Rattle.std.specs.Prelude.{slice_index_or}
use Rattle.std.proofs.Math.Bool.{Bool-set}
use Rattle.std.proofs.Math.Bridge.{le_prop}
use Rattle.std.proofs.Math.Logic.{∥∥₁_elim, ∥∥₁_map}
use Rattle.std.proofs.Math.Nat.{ℕ_set}
use Rattle.std.proofs.lemmas.Bool.{cases_Bool, cases_lt, false≢true}
use Rattle.heap_words.specs.declared.config.Config.{Config}
use Rattle.shen_graph.specs.declared.name.Name.{Name}
use Rattle.shen_graph.specs.Graph.{hub, same_name}
use Rattle.shen_graph.specs.GraphText.{Text, names_of}
use Rattle.shen_graph.specs.Reach.{IsBefore, InOrder}
use Rattle.shen_graph.proofs.PlainLemmas.{same_name-true, same_name-itself}
use Rattle.graph_placing.specs.PlaceableText.{IsPlaceable}
use Rattle.graph_placing.specs.Renaming.{AreOfThreads}

later : (name : Name) (names : List Name) (other_name : Name) → same_name name other_name ≡ false → Contains (name ∷ names) other_name → Contains names other_name
later name names other_name not_head listed = by_place listed.0 listed.1 listed.2
  where
    by_place : (index : ℕ) → index < length (name ∷ names) → slice_index_or (name ∷ names) index other_name ≡ other_name → Contains names other_name
    by_place zero index_below found_there = absurd (false≢true (sym not_head ∙ ap (λ (name : Name). same_name name other_name) found_there ∙ same_name-itself other_name))
    by_place (suc index) index_below found_there = (index, omega (arith, index_below), found_there)

contains_merely : (names : List Name) (name : Name) → ∥ Contains names name ∥₁ → Contains names name
contains_merely [] name some_place = absurd (∥∥₁_elim some_place (hlevel) (λ listed. let index_below = listed.1 in omega (arith, index_below)))
contains_merely (other_name ∷ names) name some_place = ⊎_elim
    (λ (is_head : same_name other_name name ≡ true). (0, omega arith, same_name-true other_name name is_head))
    (λ (not_head : same_name other_name name ≡ false). let rest_contains = contains_merely names name (∥∥₁_map some_place (later other_name names name not_head)) in (suc rest_contains.0, omega (arith, rest_contains.1), rest_contains.2))
    (cases_Bool (same_name other_name name))

before_merely : (name other_name : Name) → ∥ IsBefore name other_name ∥₁ → IsBefore name other_name
before_merely name other_name some_order = ⊎_elim
    (λ (thread_below : name.thread < other_name.thread). inl thread_below)
    (λ (thread_above : other_name.thread ≤ name.thread). inr (
      ∥∥₁_elim some_order (hlevel ℕ_set) (λ before. ⊎_elim (λ thread_below. absurd (omega (arith, thread_above, thread_below))) (λ same_thread. same_thread.0) before),
      ∥∥₁_elim some_order (hlevel le_prop) (λ before. ⊎_elim (λ thread_below. absurd (omega (arith, thread_above, thread_below))) (λ same_thread. same_thread.1) before),
    ))
    (cases_lt name.thread other_name.thread)

in_order_merely : (names : List Name) → ∥ InOrder names ∥₁ → InOrder names
in_order_merely [] some_order = tt
in_order_merely (name ∷ []) some_order = tt
in_order_merely (first_name ∷ second_name ∷ later_names) some_order = (before_merely first_name second_name (∥∥₁_map some_order (λ order. order.0)), in_order_merely (second_name ∷ later_names) (∥∥₁_map some_order (λ order. order.1)))

pub placeable_merely : (config : Config) (text : Text) → ∥ IsPlaceable config text ∥₁ → IsPlaceable config text
placeable_merely config text some_placing = record {
  threads = ∥∥₁_elim some_placing (hlevel ℕ_set) (λ placeable. placeable.threads);
  sixteen = ∥∥₁_elim some_placing (hlevel ℕ_set) (λ placeable. placeable.sixteen);
  in_order = in_order_merely (names_of text) (∥∥₁_map some_placing (λ placeable. placeable.in_order));
  short = λ number index_below. record {
    refs = ∥∥₁_elim some_placing (hlevel le_prop) (λ placeable. (placeable.short number index_below).refs);
    nums = ∥∥₁_elim some_placing (hlevel le_prop) (λ placeable. (placeable.short number index_below).nums);
  };
  references = λ number field name index_below listed. contains_merely (names_of text) name (∥∥₁_map some_placing (λ placeable. placeable.references number field name index_below listed));
  roots = λ thread index name low high small listed. contains_merely (names_of text) name (∥∥₁_map some_placing (λ placeable. placeable.roots thread index name low high small listed));
}

pub threads_merely : (threads : ℕ) (names : List Name) → ∥ AreOfThreads threads names ∥₁ → AreOfThreads threads names
threads_merely threads names some_threads = record {
  within = λ listed_name listed. ∥∥₁_elim some_threads (hlevel le_prop) (λ are_threads. are_threads.within listed_name listed);
  hub_alone = λ listed_name listed not_thread.
      same_name-true listed_name hub (∥∥₁_elim some_threads (hlevel Bool-set) (λ are_threads. ap (λ (name : Name). same_name name hub) (are_threads.hub_alone listed_name listed not_thread) ∙ same_name-itself hub));
}
