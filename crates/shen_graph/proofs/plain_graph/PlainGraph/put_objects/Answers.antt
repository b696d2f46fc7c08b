use Rattle.std.proofs.Common.{◌<◌, [], ◌∷◌, ◌++◌, length, map, get_or, take, Some, arith, ap, sym, ◌∙◌}
use Rattle.std.proofs.lemmas.List.{take_more, map-append, append_assoc}
use Rattle.std.proofs.lemmas.List.Sums.{sum_by_more, sum_by_more_le}
use Rattle.shen_graph.specs.declared.name.Name.{Name}
use Rattle.shen_graph.specs.Graph.{named}
use Rattle.shen_graph.specs.GraphText.{row_in}
use Rattle.shen_graph.specs.PlainGraph.{graph_of}
use Rattle.shen_graph.specs.Reach.{size}
use Rattle.shen_graph.proofs.plain_graph.PlainGraph.put_objects.Goals as goal

abbrev none : Name
none = record { thread = 0; count = 0 }

pub put_object-requires : goal.put_object-requires
put_object-requires c =
    let words = λ (name : Name). size (named (graph_of c.args.self.now) (Some name)) in
    omega (arith, sum_by_more_le words c.args.names.now c.loop-name.name-index none)

pub loop-name-preserved : goal.loop-name-preserved
loop-name-preserved c =
    let g = graph_of c.args.self.now in
    let names = c.args.names.now in
    let name_index = c.loop-name.name-index in
    let name = get_or names name_index none in
    let low : name_index < length names = omega arith in
    let words = λ (other_name : Name). size (named g (Some other_name)) in
    let made = c.put_object.ensures in
    let before = map (row_in g) (take name_index names) in
    record {
      rows = (ap (λ text. text.rows) made ∙ ap (λ rows. rows ++ row_in g name ∷ []) c.loop-name.invariant.rows
          ∙ append_assoc c.args.text.now.rows before (row_in g name ∷ [])
          ∙ ap (λ rows. c.args.text.now.rows ++ rows)
          (sym (map-append (row_in g) (take name_index names) (name ∷ [])) ∙ ap (map (row_in g)) (sym (take_more names name_index none low))));
      roots = ap (λ text. text.roots) made ∙ c.loop-name.invariant.roots;
      pins = ap (λ text. text.pins) made ∙ c.loop-name.invariant.pins;
      room = ap (λ text. text.room) made ∙ c.loop-name.invariant.room;
      spare = (omega (
        arith,
        ap (λ text. text.spare) made,
        sum_by_more words names name_index none low,
        sum_by_more_le words names name_index none low,
      ));
    }
