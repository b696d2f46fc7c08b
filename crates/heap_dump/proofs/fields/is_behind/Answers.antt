use Rattle.std.proofs.Common.{◌≡◌, ◌+◌, ◌-◌, length, subst, sym, arith}
use Rattle.shen_graph.specs.declared.name.Name.{Name}
use Rattle.shen_graph.specs.Reach.{IsBefore}
use Rattle.heap_dump.proofs.RowWords.{last_before, before_last}
use Rattle.heap_dump.proofs.fields.is_behind.Goals as goal

pub returns-else-rows-eq0 : goal.returns-else-rows-eq0
returns-else-rows-eq0 c =
    let rows = c.args.graph.now.rows in
    let last_row : c.rows-rows.result - 1 + 1 ≡ length rows = omega (arith, c.if-rows-eq0.false, c.rows-rows.ensures) in (
      λ comes_before. last_before rows c.args.name (c.rows-rows.result - 1) last_row (subst (λ (name : Name). IsBefore name c.args.name) c.name_at.ensures (c.is_before.ensures.0 comes_before)),
      (λ comes_behind. c.is_before.ensures.1 (subst (λ (name : Name). IsBefore name c.args.name) (sym c.name_at.ensures) (before_last rows c.args.name (c.rows-rows.result - 1) last_row comes_behind))),
    )
