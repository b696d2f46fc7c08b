use Rattle.std.proofs.Common.{◌<◌, length, refl, ap, ◌∙◌}
use Rattle.std.specs.Prelude.{slice_get}
use Rattle.std.proofs.lemmas.List.{get_or_read}
use Rattle.shen_graph.specs.GraphText.{Row}
use Rattle.shen_graph.proofs.PlainLemmas.{field_at-graph_of, place_of-within, nobody}
use Rattle.shen_graph.proofs.plain_graph.PlainGraph.field.Goals as goal

pub returns-in-Some : goal.returns-in-Some
returns-in-Some c =
    let within : c.in-Some.place < length c.self.inside.objects.items = rw (← c.self.view_is) at (place_of-within c.args.self.now c.args.thread c.args.root c.in-Some.place c.in-Some.ensures) in
    rw (field_at-graph_of, ← c.in-Some.ensures, ← c.self.view_is)
    (c.field.ensures ∙ ap (λ (row : Row). slice_get row.refs c.args.field) (get_or_read c.self.inside.objects.items c.in-Some.place c.index.result.now within c.index.ensures nobody))

pub returns-in-None : goal.returns-in-None
returns-in-None c = rw (field_at-graph_of, ← c.in-None.ensures) refl
