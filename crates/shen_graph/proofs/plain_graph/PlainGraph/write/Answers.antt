use Rattle.std.proofs.Common.{List, ◌++◌, length, replicate, None, refl, arith, ap, ◌∙◌}
use Rattle.std.proofs.lemmas.List.{length-replicate}
use Rattle.shen_graph.specs.Graph.{Reference}
use Rattle.shen_graph.specs.PlainGraph.{graph_of, threads_of}
use Rattle.shen_graph.specs.GraphText.{row_in, root_of}
use Rattle.std.proofs.Common.{map}
use Rattle.shen_graph.proofs.RowLemmas.{text_of_graph}
use Rattle.shen_graph.proofs.plain_graph.PlainGraph.write.Goals as goal

pub put_objects-requires : goal.put_objects-requires
put_objects-requires c =
    let live = c.requires.room _ (c.in_ok-names.names.items, c.in_ok-names.ensures, refl) in
    rw c.deref.ensures.value (omega (arith, live, ap (λ text. text.spare) c.clear.ensures))

abbrev nulls : List Reference
nulls = replicate 16 None

abbrev empties : List Reference
empties = replicate 4 None

pub put_pins-requires : goal.put_pins-requires
put_pins-requires c =
    ap (λ text. length text.pins) c.put_roots.ensures.kept ∙ ap length c.put_objects.ensures.pins
    ∙ ap (λ text. length text.pins) c.clear.ensures ∙ length-replicate (length c.args.text.now.roots) empties ∙ c.requires.threads

pub returns-clause-ok : goal.returns-clause-ok
returns-clause-ok c =
    let g = graph_of c.args.self.now in
    text_of_graph g (threads_of c.args.self.now) c.put_pins.new.text c.in_ok-names.names.items c.in_ok-names.ensures
    (ap (λ text. text.rows) c.put_pins.ensures.kept ∙ ap (λ text. text.rows) c.put_roots.ensures.kept ∙ c.put_objects.ensures.rows
    ∙ ap (λ text. text.rows ++ map (row_in g) c.deref.result.now) c.clear.ensures
    ∙ ap (map (row_in g)) c.deref.ensures.value)
    (ap (λ text. length text.roots) c.put_pins.ensures.kept ∙ c.put_roots.ensures.threads ∙ ap length c.put_objects.ensures.roots
    ∙ ap (λ text. length text.roots) c.clear.ensures
    ∙ length-replicate (length c.args.text.now.roots) nulls
    ∙ c.requires.threads)
    (λ thread index low high. ap (λ text. root_of text thread index) c.put_pins.ensures.kept ∙ c.put_roots.ensures.roots thread index low high)
    (c.put_pins.ensures.threads ∙ ap (λ text. length text.pins) c.put_roots.ensures.kept ∙ ap length c.put_objects.ensures.pins
    ∙ ap (λ text. length text.pins) c.clear.ensures ∙ length-replicate (length c.args.text.now.roots) empties ∙ c.requires.threads)
    c.put_pins.ensures.pins
