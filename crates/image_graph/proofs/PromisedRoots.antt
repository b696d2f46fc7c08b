-- The roots of the graph with promised objects: the program's, what threads are promised, and what pin slots hold.
use Rattle.std.proofs.Common.{◌≡◌, ◌≢◌, ℕ, ◌+◌, ◌-◌, ◌<◌, ◌≤◌, ◌⊎◌, ◌==◌, ◌&&◌, inl, inr, Bool, true, false, cond, nat_le, nat_lt, Option, Some, None, ⊎_elim, refl, sym, ap, ◌∙◌, arith}
use Rattle.std.proofs.lemmas.Bool.{cond-true, cond-false, cases_Bool, cases_eq, eq-eqb, ne_eqb, and_parts, and_from, and_left, leb-true, ltb-true, le-leb, lt-leb, lt-ltb}
use Rattle.std.proofs.lemmas.Option.{none-some, same_Some}
use Rattle.shen_graph.specs.declared.name.Name.{Name}
use Rattle.shen_graph.specs.declared.pin.Pinned.{Pinned}
use Rattle.shen_graph.specs.Graph.{Graph, Reference}
use Rattle.shen_graph.specs.Step.{name_in}
use Rattle.image_graph.specs.Promised.{Promises, with_promised}

-- a slot that has a name holds an object of that name
pub named_pin : (held : Option Pinned) (name : Name) → name_in held ≡ Some name → (pinned : Pinned) × (held ≡ Some pinned) × (pinned.name ≡ name)
named_pin None name holds_name = absurd (none-some name holds_name)
named_pin (Some pinned) name holds_name = (pinned, refl, same_Some pinned.name name holds_name)

module _ (graph : Graph) (promises : Promises) where
  abbrev more : Graph
  more = with_promised graph promises

  -- whether a root stands for a pin slot, and what it stands for
  abbrev of_slot : ℕ → Bool
  of_slot index = nat_le 17 index && nat_lt index 21

  abbrev rest : ℕ → ℕ → Reference
  rest thread index = cond (of_slot index) (name_in (graph.pin thread (index - 17))) (graph.root thread index)

  pub plain_root : (thread index : ℕ) → index < 16 → more.root thread index ≡ graph.root thread index
  plain_root thread index index_below =
      cond-false (index == 16) (promises.ref thread) (rest thread index) (ne_eqb index 16 (λ same_index. omega (arith, same_index, index_below)))
      ∙ cond-false (of_slot index) (name_in (graph.pin thread (index - 17))) (graph.root thread index) (and_left (nat_le 17 index) (nat_lt index 21) (lt-leb 17 index (omega (arith, index_below))))

  pub extra_root : (thread : ℕ) → more.root thread 16 ≡ promises.ref thread
  extra_root thread = cond-true (16 == 16) (promises.ref thread) (rest thread 16) refl

  pub pin_root : (thread slot : ℕ) → slot < 4 → more.root thread (17 + slot) ≡ name_in (graph.pin thread slot)
  pin_root thread slot slot_below =
      let slot_back : 17 + slot - 17 ≡ slot = omega arith in
      cond-false (17 + slot == 16) (promises.ref thread) (rest thread (17 + slot)) (ne_eqb (17 + slot) 16 (λ same_index. omega (arith, same_index)))
      ∙ cond-true (of_slot (17 + slot)) (name_in (graph.pin thread (17 + slot - 17))) (graph.root thread (17 + slot))
      (and_from (nat_le 17 (17 + slot)) (nat_lt (17 + slot) 21) (le-leb 17 (17 + slot) (omega arith)) (lt-ltb (17 + slot) 21 (omega (arith, slot_below))))
      ∙ ap (λ slot. name_in (graph.pin thread slot)) slot_back

  -- a root of it is promised, or what a slot holds, or one of the program
  abbrev pub IsPromisedRoot : ℕ → ℕ → Name → Type 0
  IsPromisedRoot thread index name = (index ≡ 16) × (promises.ref thread ≡ Some name)

  abbrev pub IsPinRoot : ℕ → ℕ → Name → Type 0
  IsPinRoot thread index name = (17 ≤ index) × (index < 21) × (pinned : Pinned) × (graph.pin thread (index - 17) ≡ Some pinned) × (pinned.name ≡ name)

  pub root_cases : (thread index : ℕ) (name : Name) → more.root thread index ≡ Some name → IsPromisedRoot thread index name ⊎ (IsPinRoot thread index name ⊎ (graph.root thread index ≡ Some name))
  root_cases thread index name root_holds = ⊎_elim
      (λ (extra : index ≡ 16). inl (extra, sym (cond-true (index == 16) (promises.ref thread) (rest thread index) (eq-eqb index 16 extra)) ∙ root_holds))
      (λ (not_promised : index ≢ 16).
      let root_left : rest thread index ≡ Some name = sym (cond-false (index == 16) (promises.ref thread) (rest thread index) (ne_eqb index 16 not_promised)) ∙ root_holds in
      ⊎_elim
      (λ (slot : of_slot index ≡ true).
      let index_bounds = and_parts (nat_le 17 index) (nat_lt index 21) slot in
      let pinned_name = named_pin (graph.pin thread (index - 17)) name (sym (cond-true (of_slot index) (name_in (graph.pin thread (index - 17))) (graph.root thread index) slot) ∙ root_left) in
      inr (inl (leb-true 17 index index_bounds.0, ltb-true index 21 index_bounds.1, pinned_name.0, pinned_name.1, pinned_name.2)))
      (λ (plain_index : of_slot index ≡ false). inr (inr (sym (cond-false (of_slot index) (name_in (graph.pin thread (index - 17))) (graph.root thread index) plain_index) ∙ root_left)))
      (cases_Bool (of_slot index)))
      (cases_eq index 16)
