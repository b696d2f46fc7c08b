use Rattle.std.proofs.Common.{◌≡◌, ◌+◌, ◌-◌, ◌/◌, get_or, subst, sym, refl, ◌∙◌, arith}
use Rattle.std.proofs.lemmas.Bool.{false≢true}
use Rattle.shen_graph.specs.declared.name.Name.{Name}
use Rattle.shen_graph.specs.Graph.{hub}
use Rattle.shen_graph.specs.GraphText.{names_of}
use Rattle.shen_graph.specs.Reach.{IsBefore}
use Rattle.heap_dump.proofs.Ordered.{between_up, between_down, between_none, other_way}
use Rattle.heap_dump.proofs.RowMarks.{name_in_row}
use Rattle.heap_dump.proofs.reached.row_named.Goals as goal

pub halves-preserved-then-is_before : goal.halves-preserved-then-is_before
halves-preserved-then-is_before c =
    let graph = c.args.graph.now in
    let middle = c.halves.low + (c.halves.high - c.halves.low) / 2 in
    let same_middle : c.name_at-found.result ≡ get_or (names_of graph) middle hub = c.name_at-found.ensures ∙ sym (name_in_row graph middle) in
    between_up (names_of graph) c.args.name c.halves.low c.halves.high middle c.requires c.halves.invariant (omega (arith, c.halves-test.true))
    (subst (λ (name : Name). IsBefore name c.args.name) same_middle (c.if-is_before.ensures.0 refl))

pub halves-preserved : goal.halves-preserved
halves-preserved c =
    let graph = c.args.graph.now in
    let middle = c.halves.low + (c.halves.high - c.halves.low) / 2 in
    let same_middle : c.name_at-found.result ≡ get_or (names_of graph) middle hub = c.name_at-found.ensures ∙ sym (name_in_row graph middle) in
    between_down (names_of graph) c.args.name c.halves.low c.halves.high middle c.requires c.halves.invariant (omega (arith, c.halves-test.true))
    (subst (IsBefore c.args.name) same_middle (other_way c.name_at-found.result c.args.name c.if-eq.ensures (λ name_before. false≢true (c.if-is_before.ensures.1 name_before))))

pub returns : goal.returns
returns c = between_none (names_of c.args.graph.now) c.args.name c.halves.low c.halves.high c.halves.invariant c.halves-test.false
