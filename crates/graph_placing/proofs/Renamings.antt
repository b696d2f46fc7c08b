-- Names in their order are counted anew one to one, without a gap.
use Rattle.std.proofs.Common.{◌≡◌, ◌+◌, ◌-◌, ◌<◌, ◌≤◌, List, get_or, take, ⊎_elim, inl, inr, refl, sym, ap, ◌∙◌, arith}
use Rattle.std.proofs.lemmas.Bool.{cases_eq, cases_lt}
use Rattle.std.proofs.lemmas.List.Elements.{Contains-get_or}
use Rattle.shen_graph.specs.declared.name.Name.{Name}
use Rattle.shen_graph.specs.Graph.{hub}
use Rattle.shen_graph.specs.Reach.{InOrder}
use Rattle.graph_placing.specs.NamesAnew.{earlier_names, names_by, name_anew}
use Rattle.graph_placing.specs.Renaming.{IsRenaming}
use Rattle.graph_placing.proofs.NamesCounted.{earlier_rises_more, earlier_fewer, earlier_is, counted_at}

-- names with the same thread and the same count
pub one_name : (name other_name : Name) → name.thread ≡ other_name.thread → name.count ≡ other_name.count → name ≡ other_name
one_name name other_name same_thread count = λ other_thread. record { thread = same_thread other_thread; count = count other_thread }

pub is_renaming : (names : List Name) → InOrder names → IsRenaming names (name_anew names)
is_renaming names order = record {
  thread = λ other_name. refl;
  one_to_one = λ own_name other_name own_within other_within same_image.
      let thread : own_name.thread ≡ other_name.thread = ap (λ (name : Name). name.thread) same_image in
      let count : earlier_names names own_name + 1 ≡ earlier_names names other_name + 1 = ap (λ (name : Name). name.count) same_image in
      let thread_back : other_name.thread ≡ own_name.thread = ap (λ (name : Name). name.thread) (sym same_image) in
      ⊎_elim
      (λ (less_count : own_name.count < other_name.count). absurd (omega (arith, earlier_rises_more names own_name other_name own_within thread less_count, count)))
      (λ (least_count : other_name.count ≤ own_name.count). ⊎_elim
      (λ (same_count : own_name.count ≡ other_name.count). one_name own_name other_name thread same_count)
      (λ (counts_differ : own_name.count ≡ other_name.count → ⊥). absurd (omega (arith, earlier_rises_more names other_name own_name other_within thread_back (omega (arith, least_count, counts_differ)), count)))
      (cases_eq own_name.count other_name.count))
      (cases_lt own_name.count other_name.count);
  order = λ name other_name own_within other_within earlier_count. elim earlier_count [ inl less_count ↦ inl less_count | inr within_thread ↦ inr (within_thread.0, omega (arith, earlier_rises_more names name other_name own_within within_thread.0 within_thread.1)) ];
  counted = λ name other_within. (omega arith, omega (arith, earlier_fewer names name other_within));
  no_gap = λ thread count low high.
      let counted_name = counted_at names thread (count - 1) hub (omega (arith, low, high)) in
      let other_name = get_or names counted_name.0 hub in
      let earlier_count = earlier_is names order counted_name.0 hub counted_name.1 in
      let few_earlier : names_by (take counted_name.0 names) other_name.thread ≡ count - 1 = ap (names_by (take counted_name.0 names)) counted_name.2 ∙ counted_name.3 in
      (other_name, Contains-get_or names counted_name.0 hub counted_name.1, one_name (name_anew names other_name) (record { thread = thread; count = count }) counted_name.2 (omega (arith, earlier_count, few_earlier, low)));
}
