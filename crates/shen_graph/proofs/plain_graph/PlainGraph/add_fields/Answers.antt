use Rattle.std.proofs.Common.{◌≡◌, List, Some, None, sym, ap, ◌∙◌, subst}
use Rattle.std.specs.Prelude.{OnOk, position}
use Rattle.std.proofs.lemmas.List.{get_or_read}
use Rattle.shen_graph.specs.Graph.{Object, Reference, named, same_name}
use Rattle.shen_graph.specs.GraphText.{Row}
use Rattle.shen_graph.specs.PlainGraph.{Plain, graph_of}
use Rattle.shen_graph.specs.Found.{with_names}
use Rattle.shen_graph.proofs.PlainLemmas.{named-place, object_at, IsFirst-position, nobody}
use Rattle.shen_graph.proofs.plain_graph.PlainGraph.add_fields.Goals as goal

pub returns-in-Some : goal.returns-in-Some
returns-in-Some c =
    let plain : Plain = record { rows = c.self.inside.objects.items; roots = c.self.inside.roots.items; counts = c.self.inside.counts.items; pins = c.self.inside.pins.items } in
    let place : position (λ (row : Row). same_name c.args.name row.name) plain.rows ≡ Some c.in-Some.place =
    ap (position (λ (row : Row). same_name c.args.name row.name)) (sym c.deref.ensures.value) ∙ sym c.first_named.ensures ∙ c.in-Some.is in
    let within = (IsFirst-position plain.rows c.args.name c.in-Some.place place).within in
    let row = get_or_read plain.rows c.in-Some.place c.index.result.now within c.index.ensures nobody in
    let refs : c.index.result.now.refs ≡ (named (graph_of plain) (Some c.args.name)).refs =
    ap (λ (row : Row). row.refs) row ∙ sym (ap (λ (object : Object). object.refs) (named-place plain c.args.name ∙ ap (object_at plain) place)) in
    rw (← c.self.view_is) (subst (λ (references : List Reference). OnOk c.add_fields.result (c.add_fields.new.found.items ≡ with_names c.args.found.now.items references)) refs c.add_fields.ensures)

pub returns-in-None : goal.returns-in-None
returns-in-None c =
    let plain : Plain = record { rows = c.self.inside.objects.items; roots = c.self.inside.roots.items; counts = c.self.inside.counts.items; pins = c.self.inside.pins.items } in
    let place : position (λ (row : Row). same_name c.args.name row.name) plain.rows ≡ None =
    ap (position (λ (row : Row). same_name c.args.name row.name)) (sym c.deref.ensures.value) ∙ sym c.first_named.ensures ∙ c.in-None.is in
    rw (← c.self.view_is) (ap (λ (object : Object). with_names c.args.found.now.items object.refs) (sym (named-place plain c.args.name ∙ ap (object_at plain) place)))
