use Rattle.std.proofs.Common.{arith, ap, ◌∙◌}
use Rattle.shen_graph.specs.GraphText.{Row, with_whole_row}
use Rattle.shen_graph.specs.PlainGraph.{graph_of}
use Rattle.shen_graph.proofs.PlainLemmas.{row-named, size-named, row-unnamed}
use Rattle.shen_graph.proofs.plain_graph.PlainGraph.put_object.Goals as goal

pub put-requires : goal.put-requires
put-requires c =
    let object : Row = c.in-Some.object.now in
    let named_size = size-named (graph_of c.args.self.now) c.args.name object c.in-Some.ensures in
    let room = c.requires in
    omega (arith, named_size, room)

pub returns-in-Some : goal.returns-in-Some
returns-in-Some c =
    c.put.ensures ∙ ap (with_whole_row c.args.text.now) (row-named (graph_of c.args.self.now) c.args.name c.in-Some.object.now c.in-Some.ensures)

pub returns-in-None : goal.returns-in-None
returns-in-None c = c.object.ensures ∙ row-unnamed (graph_of c.args.self.now) c.args.text.now c.args.name c.in-None.ensures
