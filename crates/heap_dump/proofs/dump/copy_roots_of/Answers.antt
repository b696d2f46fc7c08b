use Rattle.std.proofs.Common.{◌-◌, ◌<◌, List, [], length, get_or, set, None, arith, ap, sym, ◌∙◌}
use Rattle.std.proofs.lemmas.List.{set-set, set-get_or, get_or-set_same}
use Rattle.shen_graph.specs.Graph.{Reference}
use Rattle.shen_graph.specs.GraphText.{Text, roots_of}
use Rattle.heap_dump.proofs.Copied.{mixed, mixed_more, mixed_all}
use Rattle.heap_dump.proofs.dump.copy_roots_of.Goals as goal

pub loop-index-init : goal.loop-index-init
loop-index-init c =
    let text = c.args.text.now in
    ap (λ (roots : List (List Reference)). record text { roots = roots }) (sym (set-get_or text.roots (c.args.thread - 1) []))

pub loop-index-preserved : goal.loop-index-preserved
loop-index-preserved c =
    let text = c.args.text.now in
    let row_index = c.args.thread - 1 in
    let index = c.loop-index.index in
    let graph_roots = roots_of c.args.graph.now c.args.thread in
    let text_roots = roots_of text c.args.thread in
    let mixed_row = mixed index graph_roots text_roots in
    let root_value = c.root_at.result in
    let row_below : row_index < length text.roots = omega arith in
    let roots_before = ap (λ some_text. some_text.roots) c.loop-index.invariant in
    let row = ap (λ (rows : List (List Reference)). get_or rows row_index []) roots_before ∙ get_or-set_same text.roots row_index mixed_row [] row_below in
    let new_roots = set c.loop-index.text.roots row_index (set (get_or c.loop-index.text.roots row_index []) index root_value) in
    let rows_same = ap (λ (rows : List (List Reference)). set rows row_index (set (get_or c.loop-index.text.roots row_index []) index root_value)) roots_before
    ∙ set-set text.roots row_index mixed_row (set (get_or c.loop-index.text.roots row_index []) index root_value)
    ∙ ap (λ (references : List Reference). set text.roots row_index (set references index root_value)) row
    ∙ ap (λ (reference : Reference). set text.roots row_index (set mixed_row index reference)) c.root_at.ensures
    ∙ ap (λ (references : List Reference). set text.roots row_index references) (mixed_more graph_roots text_roots index None (omega (arith, c.requires.sixteen)) (omega (arith, c.requires.sixteen))) in
    c.root.ensures
    ∙ ap (λ (text : Text). record text { roots = new_roots }) c.loop-index.invariant
    ∙ ap (λ (roots : List (List Reference)). record text { roots = roots }) rows_same

pub returns : goal.returns
returns c =
    let text = c.args.text.now in
    let graph_roots = roots_of c.args.graph.now c.args.thread in
    let text_roots = roots_of text c.args.thread in
    c.loop-index.invariant
    ∙ ap (λ (references : List Reference). record text { roots = set text.roots (c.args.thread - 1) references })
    (mixed_all graph_roots text_roots c.loop-index.index (omega (arith, c.requires.sixteen)) (omega (arith, c.requires.sixteen)))
