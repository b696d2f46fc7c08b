use Rattle.std.proofs.Common.{◌≡◌, List, [], ◌∷◌, ◌++◌, sym, subst}
use Rattle.heap_seats.specs.declared.seat.Seat.{Seat}
use Rattle.heap_seats.specs.declared.gathering.Begun.{Begun}
use Rattle.heap_seats.specs.Gathered.{AreBegun, AreGatheredIn}
use Rattle.heap_seats.proofs.Together.{begun_one, begun_more}
use Rattle.heap_seats.proofs.gathering.Gathering.with.Goals as goal
use Rattle.heap_seats.proofs.gathering.Gathering.with.Goals.{in-None, in-Some}

pub returns : goal.returns
returns c before are_gathered =
    let seat = c.args.seat in
    elim c.match-begun.branch [
      | in-None w ↦
          let none_before : before ≡ [] = subst (AreGatheredIn before) w.in-None.is are_gathered in
          subst (λ (seats : List Seat). AreBegun (seats ++ seat ∷ []) c.match-begun.begun) (sym none_before)
          (subst (λ (begun_heap : Begun). AreBegun (seat ∷ []) begun_heap) (sym w.begun-is) (begun_one seat w.of-begun.result w.of-begun.ensures.heap w.of-begun.ensures.given))
      | in-Some w ↦
          let seats_begun : AreBegun before w.in-Some.begun = subst (AreGatheredIn before) w.in-Some.is are_gathered in
          subst (λ (begun_heap : Begun). AreBegun (before ++ seat ∷ []) begun_heap) (sym w.begun-is)
          (begun_more before seat w.in-Some.begun w.with-begun.result seats_begun w.with-begun.ensures.heap (w.with-begun.ensures.given before))
    ]
