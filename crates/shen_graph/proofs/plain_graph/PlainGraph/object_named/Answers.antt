use Rattle.std.proofs.Common.{◌≡◌, Some, None, sym, ap, ◌∙◌}
use Rattle.std.specs.Prelude.{position}
use Rattle.std.proofs.lemmas.List.{get_or_read}
use Rattle.shen_graph.specs.Graph.{same_name}
use Rattle.shen_graph.specs.GraphText.{Row}
use Rattle.shen_graph.specs.PlainGraph.{Plain}
use Rattle.shen_graph.proofs.PlainLemmas.{object-placed, object-nowhere, IsFirst-position, nobody}
use Rattle.shen_graph.proofs.plain_graph.PlainGraph.object_named.Goals as goal

pub returns-in-Some : goal.returns-in-Some
returns-in-Some c =
    let plain : Plain = record { rows = c.self.inside.objects.items; roots = c.self.inside.roots.items; counts = c.self.inside.counts.items; pins = c.self.inside.pins.items } in
    let place : position (λ (row : Row). same_name c.args.name row.name) plain.rows ≡ Some c.in-Some.place =
    ap (position (λ (row : Row). same_name c.args.name row.name)) (sym c.deref.ensures.value) ∙ sym c.first_named.ensures ∙ c.in-Some.is in
    let within = (IsFirst-position plain.rows c.args.name c.in-Some.place place).within in
    let row = get_or_read plain.rows c.in-Some.place c.index.result.now within c.index.ensures nobody in
    rw (← c.self.view_is) (object-placed plain c.args.name c.in-Some.place c.index.result.now place row)

pub returns-in-None : goal.returns-in-None
returns-in-None c =
    let plain : Plain = record { rows = c.self.inside.objects.items; roots = c.self.inside.roots.items; counts = c.self.inside.counts.items; pins = c.self.inside.pins.items } in
    let place : position (λ (row : Row). same_name c.args.name row.name) plain.rows ≡ None =
    ap (position (λ (row : Row). same_name c.args.name row.name)) (sym c.deref.ensures.value) ∙ sym c.first_named.ensures ∙ c.in-None.is in
    rw (← c.self.view_is) (object-nowhere plain c.args.name place)
