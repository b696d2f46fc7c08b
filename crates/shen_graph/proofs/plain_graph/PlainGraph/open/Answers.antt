use Rattle.std.proofs.Common.{ℕ, zero, suc, ◌≡◌, ◌+◌, ◌∷◌, List, [], Option, None, length, replicate, All, refl, sym, ap, subst, arith}
use Rattle.std.proofs.lemmas.Grind.{common_steps}
use Rattle.std.proofs.lemmas.List.{length-replicate}
use Rattle.std.proofs.lemmas.List.Elements.{All-nil, All-cons}
use Rattle.shen_graph.specs.Graph.{Reference, hub}
use Rattle.shen_graph.specs.GraphText.{Row}
use Rattle.shen_graph.specs.declared.pin.Pinned.{Pinned}
use Rattle.shen_graph.proofs.PlainLemmas.{first_roots, no_pins, graph_of-opening}
use Rattle.shen_graph.proofs.plain_graph.PlainGraph.open.Goals as goal

abbrev IsRow : List Reference → Type 0
IsRow row = length row ≡ 16

rows_of : (threads : ℕ) → All IsRow (replicate threads first_roots)
rows_of zero = All-nil IsRow
rows_of (suc threads) = All-cons IsRow first_roots (replicate threads first_roots) refl (rows_of threads)

abbrev AreSlots : List (Option Pinned) → Type 0
AreSlots row = length row ≡ 4

slots_of : (threads : ℕ) → All AreSlots (replicate threads no_pins)
slots_of zero = All-nil AreSlots
slots_of (suc threads) = All-cons AreSlots no_pins (replicate threads no_pins) refl (slots_of threads)

pub returns-clause-graph : goal.returns-clause-graph
returns-clause-graph c =
    let first_row : Row = record { name = hub; refs = replicate 16 None; nums = [] } in
    let rows : c.push.new.self.items ≡ first_row ∷ [] = rw (c.in_ok-push.ensures.items, c.new-objects.ensures.items, c.in_ok-hub.ensures) refl in
    let counts : c.in_ok-counts.counts.items ≡ replicate (c.args.mutators + 1) 0 = grind (arith, common_steps) in
    rw (c.in_ok-roots.ensures, rows, counts, c.in_ok-pins.ensures) (graph_of-opening c.args.mutators)

pub invariant_of-result : goal.invariant_of-result
invariant_of-result c =
    let threads_length = length-replicate c.args.mutators first_roots in
    let rows = ap length c.in_ok-roots.ensures in (
      omega (arith, c.in_ok-roots.roots.ok.0, rows),
      omega (arith, c.in_ok-counts.ensures.len, c.in_ok-roots.roots.ok.0, rows, threads_length),
      subst (All IsRow) (sym c.in_ok-roots.ensures) (All-cons IsRow (replicate 16 None) (replicate c.args.mutators first_roots) refl (rows_of c.args.mutators)),
      omega (arith, c.in_ok-pins.pins.ok.0, c.in_ok-roots.roots.ok.0, rows, threads_length, ap length c.in_ok-pins.ensures, length-replicate (c.args.mutators + 1) no_pins),
      subst (All AreSlots) (sym c.in_ok-pins.ensures) (slots_of (c.args.mutators + 1)),
    )

pub returns-clause-threads : goal.returns-clause-threads
returns-clause-threads c =
    let threads_length = length-replicate c.args.mutators first_roots in
    omega (arith, ap length c.in_ok-roots.ensures, threads_length)
