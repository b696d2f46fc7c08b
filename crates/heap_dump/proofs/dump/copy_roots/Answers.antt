use Rattle.std.proofs.Common.{ℕ, ◌≡◌, ◌+◌, ◌-◌, ◌<◌, List, [], length, get_or, set, arith, ap, ◌∙◌}
use Rattle.std.proofs.lemmas.List.Elements.{All-get_or}
use Rattle.shen_graph.specs.Graph.{Reference}
use Rattle.shen_graph.specs.GraphText.{Text}
use Rattle.heap_dump.proofs.Copied.{mixed_more, mixed_next, length-mixed, mixed_all}
use Rattle.heap_dump.proofs.dump.copy_roots.Goals as goal

pub copy_roots_of-requires-clause-threads : goal.copy_roots_of-requires-clause-threads
copy_roots_of-requires-clause-threads c =
    ap (λ text. length text.roots) c.loop-mutator.invariant
    ∙ length-mixed c.args.graph.now.roots c.args.text.now.roots c.loop-mutator.mutator c.requires.threads (omega arith)

pub copy_roots_of-requires-clause-sixteen : goal.copy_roots_of-requires-clause-sixteen
copy_roots_of-requires-clause-sixteen c =
    let graph_roots = c.args.graph.now.roots in
    let text_roots = c.args.text.now.roots in
    let mutator = c.loop-mutator.mutator in
    let mutator_below : mutator < length graph_roots = omega arith in
    let same_mutator : mutator + 1 - 1 ≡ mutator = omega arith in (
      ap (λ any_index. length (get_or graph_roots any_index [])) same_mutator ∙ All-get_or (λ (row : List Reference). length row ≡ 16) graph_roots mutator [] mutator_below c.mutators-mutator-end.ensures.sixteen,
      (ap (λ row_index. length (get_or c.loop-mutator.text.roots row_index [])) same_mutator
          ∙ ap (λ text. length (get_or text.roots mutator [])) c.loop-mutator.invariant
          ∙ ap length (mixed_next graph_roots text_roots mutator [] c.requires.threads mutator_below)
          ∙ All-get_or (λ (row : List Reference). length row ≡ 16) text_roots mutator [] (omega arith) c.requires.sixteen),
    )

pub loop-mutator-preserved : goal.loop-mutator-preserved
loop-mutator-preserved c =
    let text = c.args.text.now in
    let graph_roots = c.args.graph.now.roots in
    let text_roots = text.roots in
    let mutator = c.loop-mutator.mutator in
    let mutator_below : mutator < length graph_roots = omega arith in
    let same_mutator : mutator + 1 - 1 ≡ mutator = omega arith in
    c.copy_roots_of.ensures
    ∙ ap (λ (index : ℕ). record c.loop-mutator.text { roots = set c.loop-mutator.text.roots index (get_or graph_roots index []) }) same_mutator
    ∙ ap (λ (text : Text). record text { roots = set text.roots mutator (get_or graph_roots mutator []) }) c.loop-mutator.invariant
    ∙ ap (λ (roots : List (List Reference)). record text { roots = roots }) (mixed_more graph_roots text_roots mutator [] c.requires.threads mutator_below)

pub returns : goal.returns
returns c =
    c.loop-mutator.invariant
    ∙ ap (λ (roots : List (List Reference)). record c.args.text.now { roots = roots })
    (mixed_all c.args.graph.now.roots c.args.text.now.roots c.loop-mutator.mutator c.requires.threads (omega (arith, c.mutators-mutator-end.ensures.threads)))
