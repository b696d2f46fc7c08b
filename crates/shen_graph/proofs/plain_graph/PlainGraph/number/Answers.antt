use Rattle.std.proofs.Common.{◌<◌, length, refl, ap, ◌∙◌}
use Rattle.std.specs.Prelude.{slice_get}
use Rattle.std.proofs.lemmas.List.{get_or_read}
use Rattle.shen_graph.specs.GraphText.{Row}
use Rattle.shen_graph.proofs.PlainLemmas.{number_at-graph_of, place_of-within, nobody}
use Rattle.shen_graph.proofs.plain_graph.PlainGraph.number.Goals as goal

pub returns-in-Some : goal.returns-in-Some
returns-in-Some c =
    let within : c.in-Some.place < length c.self.inside.objects.items = rw (← c.self.view_is) at (place_of-within c.args.self.now c.args.thread c.args.root c.in-Some.place c.in-Some.ensures) in
    rw (number_at-graph_of, ← c.in-Some.ensures, ← c.self.view_is)
    (c.number.ensures ∙ ap (λ (row : Row). slice_get row.nums c.args.index) (get_or_read c.self.inside.objects.items c.in-Some.place c.index.result.now within c.index.ensures nobody))

pub returns-in-None : goal.returns-in-None
returns-in-None c = rw (number_at-graph_of, ← c.in-None.ensures) refl
