use Rattle.std.proofs.Common.{refl, ap, ◌∙◌}
use Rattle.std.specs.Prelude.{position}
use Rattle.shen_graph.specs.Graph.{same_name}
use Rattle.shen_graph.specs.GraphText.{Row}
use Rattle.shen_graph.proofs.plain_graph.PlainGraph.place.Goals as goal

pub returns-in-Some : goal.returns-in-Some
returns-in-Some c = rw (← c.in-Some.ensures.read, ← c.self.view_is) (c.first_named.ensures ∙ ap (position (λ (row : Row). same_name c.in-Some.name row.name)) c.deref.ensures.value)

pub returns-in-None : goal.returns-in-None
returns-in-None c = rw (← c.in-None.ensures.read) refl
