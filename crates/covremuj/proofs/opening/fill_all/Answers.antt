use Rattle.std.proofs.Common.{Some, map, ◌∙◌, ap, length, ◌∷◌, [], arith}
use mathlib.Core.List.{reverse}
use Rattle.std.proofs.lemmas.List.{length-append, length-set}
use Rattle.covremuj.proofs.HeldLists.{seats_of, filled_more}
use Rattle.covremuj.proofs.opening.fill_all.Goals as goal

pub loop-at-preserved : goal.loop-at-preserved
loop-at-preserved c =
    let loop = c.loop-at in
    let split = c.in-Some.ensures.items in
    let split_length = ap length split ∙ length-append c.pop.new.self.items (c.in-Some.seat ∷ []) in (
      omega (arith, split_length, loop.invariant.0, length-set loop.handles loop.at c.fill.new.self),
      filled_more loop.handles loop.at c.fill.new.self loop.seats.items c.pop.new.self.items c.in-Some.seat (map Some (reverse (seats_of c.args.seats.items))) (omega (arith, c.loop-at-test.true, loop.auto.handles)) split c.fill.ensures loop.invariant.1,
    )
