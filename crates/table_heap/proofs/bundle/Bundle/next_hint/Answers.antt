use Rattle.std.proofs.Common.{rules, sym, ◌∙◌, subst}
use Rattle.std.proofs.lemmas.List.{with_items_is, places}
use Rattle.table_heap.specs.Known.{AreThievesOf}
use Rattle.table_heap.proofs.bundle.Bundle.next_hint.Goals as goal

pub invariant_of-self-2-clause-hints_of_heap : goal.invariant_of-self-2-clause-hints_of_heap
invariant_of-self-2-clause-hints_of_heap c = c.pop.ensures.config ∙ c.args.self.now.hints_of_heap

pub invariant_of-self-2-clause-thieves_of_heap : goal.invariant_of-self-2-clause-thieves_of_heap
invariant_of-self-2-clause-thieves_of_heap c =
    let bundle = c.args.self.now in
    subst (AreThievesOf bundle.config) (sym (with_items_is bundle.thieves c.stolen.new.thieves (search (rules, places))))
    (c.stolen.ensures bundle.config (subst (AreThievesOf bundle.config) (sym c.as_mut_slice.ensures.value) bundle.thieves_of_heap)).1

pub returns-clause-heap : goal.returns-clause-heap
returns-clause-heap c =
    let bundle = c.args.self.now in
    (c.stolen.ensures bundle.config (subst (AreThievesOf bundle.config) (sym c.as_mut_slice.ensures.value) bundle.thieves_of_heap)).0
