use Rattle.std.proofs.Common.{◌≡◌, true, false, refl, sym, ap, ◌∙◌}
use Rattle.std.specs.List.{list_any}
use Rattle.shen_graph.specs.declared.name.Name.{Name}
use Rattle.shen_graph.specs.Graph.{same_name}
use Rattle.shen_graph.proofs.found.add_name.Goals as goal

pub returns-else-not-contains : goal.returns-else-not-contains
returns-else-not-contains c =
    let name_found : list_any (λ (name : Name). same_name name c.in-Some.name) c.args.found.now.items ≡ true =
    ap (list_any (λ (name : Name). same_name name c.in-Some.name)) (sym c.deref.ensures.value) ∙ sym c.contains.ensures.value ∙ c.if-not-contains.false in
    rw (c.in-Some.is, name_found) refl

pub returns-in_ok-push : goal.returns-in_ok-push
returns-in_ok-push c =
    let new : list_any (λ (name : Name). same_name name c.in-Some.name) c.args.found.now.items ≡ false =
    ap (list_any (λ (name : Name). same_name name c.in-Some.name)) (sym c.deref.ensures.value) ∙ sym c.contains.ensures.value ∙ c.if-not-contains.true in
    rw (c.in-Some.is, new) c.in_ok-push.ensures.items
