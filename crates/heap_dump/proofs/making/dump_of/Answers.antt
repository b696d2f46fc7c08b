use Rattle.std.proofs.Common.{◌≡◌, ap, ◌∙◌}
use Rattle.std.specs.Prelude.{Result, Ok, Err, IfOk}
use Rattle.shen_graph.specs.Graph.{opening}
use Rattle.shen_graph.specs.History.{after}
use Rattle.heap_dump.specs.declared.dump.Dump.{Dump}
use Rattle.heap_dump.specs.Dumped.{Dumped, dumped, graph_in, IsDumpOf}
use Rattle.heap_dump.specs.ObjectsMade.{objects_made_by_each}
use Rattle.heap_dump.proofs.FormedDumps.{counts_made, text_has_dump, text_dump}
use Rattle.heap_dump.proofs.making.dump_of.Goals as goal

abbrev seen_dump : Dump → Dumped
seen_dump dump = dumped dump.config dump.counts dump.graph

-- what follows of any dump follows of this one
weaker : {E : Type 0} (P Q : Dumped → Type 0) → ((dump : Dumped) → P dump → Q dump) → (result : Result Dump E) → IfOk result (λ dump. P (seen_dump dump)) → IfOk result (λ dump. Q (seen_dump dump))
weaker P Q follows (Ok dump) holds = follows (seen_dump dump) holds
weaker P Q follows (Err fault) holds = tt

pub of-requires : goal.of-requires
of-requires c =
    let history = c.args.history.now.list in
    let config = c.args.config in
    text_has_dump config history c.in_ok-counts.counts c.args.graph.now c.requires.narrow c.requires.history c.requires.graph (c.in_ok-counts.ensures ∙ ap (objects_made_by_each history) c.mutators.ensures)

pub returns-clause-is_dump : goal.returns-clause-is_dump
returns-clause-is_dump c = c.of.ensures.is_dump

pub returns-clause-dump : goal.returns-clause-dump
returns-clause-dump c =
    let history = c.args.history.now.list in
    let config = c.args.config in
    weaker (IsDumpOf config (graph_in (dumped config c.in_ok-counts.counts c.args.graph.now))) (IsDumpOf config (after (opening config.mutators) history))
    (text_dump config history c.in_ok-counts.counts c.args.graph.now c.requires.narrow c.requires.history c.requires.graph (c.in_ok-counts.ensures ∙ ap (objects_made_by_each history) c.mutators.ensures))
    c.of.result c.of.ensures.dump

pub returns-clause-counts : goal.returns-clause-counts
returns-clause-counts c =
    let history = c.args.history.now.list in
    let config = c.args.config in
    weaker (IsDumpOf config (graph_in (dumped config c.in_ok-counts.counts c.args.graph.now))) (λ some_dump. some_dump.counts ≡ objects_made_by_each history config.mutators)
    (λ dump dump_made. counts_made config history dump c.requires.history
    (text_dump config history c.in_ok-counts.counts c.args.graph.now c.requires.narrow c.requires.history c.requires.graph (c.in_ok-counts.ensures ∙ ap (objects_made_by_each history) c.mutators.ensures) dump dump_made))
    c.of.result c.of.ensures.dump
