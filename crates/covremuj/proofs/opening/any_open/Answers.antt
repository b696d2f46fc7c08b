use Rattle.std.proofs.Common.{◌+◌, take, sym, ap, ◌∙◌, arith}
use Rattle.covremuj.specs.OpenedHandles.{any_held}
use Rattle.covremuj.proofs.HeldLists.{set_same, open_there, closed_more}
use Rattle.covremuj.proofs.opening.any_open.Goals as goal

pub returns-then-is_open-clause-open : goal.returns-then-is_open-clause-open
returns-then-is_open-clause-open c =
    let loop = c.loop-at in
    sym (ap any_held (sym loop.invariant.0) ∙ open_there loop.handles loop.at c.index-handles-at.result (omega (arith, c.loop-at-test.true, loop.auto.handles)) (sym c.is_open.ensures.open ∙ c.if-is_open.true))

pub returns-then-is_open-clause-unchanged : goal.returns-then-is_open-clause-unchanged
returns-then-is_open-clause-unchanged c =
    let loop = c.loop-at in
    set_same loop.handles loop.at c.index-handles-at.result c.is_open.new.self c.is_open.ensures.held ∙ loop.invariant.0

pub loop-at-preserved : goal.loop-at-preserved
loop-at-preserved c =
    let loop = c.loop-at in
    let same_seats = set_same loop.handles loop.at c.index-handles-at.result c.is_open.new.self c.is_open.ensures.held in (
      same_seats ∙ loop.invariant.0,
      ap (λ held_seats. any_held (take (loop.at + 1) held_seats)) same_seats
          ∙ closed_more loop.handles loop.at c.index-handles-at.result (omega (arith, c.loop-at-test.true, loop.auto.handles)) (sym c.is_open.ensures.open ∙ c.if-is_open.false) loop.invariant.1,
    )
