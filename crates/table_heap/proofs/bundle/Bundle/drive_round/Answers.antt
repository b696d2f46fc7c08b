use Rattle.std.proofs.Common.{◌+◌, refl, sym, ap, ◌∙◌, subst, arith}
use Rattle.std.specs.Prelude.{nat_lt, if◌then◌else◌}
use Rattle.table_heap.specs.Driving.{has_mutator}
use Rattle.table_heap.proofs.Counting.{count_low}
use Rattle.table_heap.proofs.Running.{still_of}
use Rattle.table_heap.proofs.Rounds.{IsDrivenRound, round_first, all_idle, place_now, driven_turn, driven_none}
use Rattle.table_heap.proofs.bundle.Bundle.drive_round.Goals.{then-has, else-has}
use Rattle.table_heap.proofs.bundle.Bundle.drive_round.Goals as goal

pub loop-number-init : goal.loop-number-init
loop-number-init g c = record { driving = λ firsts begun. begun; round = round_first c.args.self.now _; place_is = refl }

pub drive_turn-requires-clause-heap : goal.drive_turn-requires-clause-heap
drive_turn-requires-clause-heap g c κs within =
    still_of c.args.self.now c.loop-number.self c.args.heap.now c.loop-number.invariant.round.same c.requires.heap

pub drive_turn-requires-clause-place : goal.drive_turn-requires-clause-place
drive_turn-requires-clause-place g c κs within =
    let loop = c.loop-number in
    place_now g.D.Driver.next_of g.D.Driver.replied g.D.Driver.to_come c.args.self.now loop.self c.args.drivers.now loop.drivers loop.number loop.place loop.round loop.invariant

pub drive_turn-requires-clause-driving : goal.drive_turn-requires-clause-driving
drive_turn-requires-clause-driving g c κs within = (c.requires.driving.0, c.loop-number.invariant.driving c.requires.driving.0 c.requires.driving.1)

pub place_behind-place-requires : goal.place_behind-place-requires
place_behind-place-requires g c =
    let count_below = count_low (has_mutator c.args.self.now) c.loop-number.number in
    let place_known = c.loop-number.invariant.place_is in
    omega (arith, count_below, place_known)

pub loop-number-preserved : goal.loop-number-preserved
loop-number-preserved g c =
    let loop = c.loop-number in
    elim c.if-has.branch [
      | then-has w ↦
          subst (λ place. IsDrivenRound g.D.Driver.next_of g.D.Driver.replied g.D.Driver.to_come c.args.self.now c.args.drivers.now (loop.number + 1) place c.if-has.self c.if-has.drivers c.if-has.round) (sym w.place-is)
          (subst (λ so_far. IsDrivenRound g.D.Driver.next_of g.D.Driver.replied g.D.Driver.to_come c.args.self.now c.args.drivers.now (loop.number + 1) w.place_behind-place.result c.if-has.self c.if-has.drivers so_far) (sym w.round-is)
          (subst (λ asked_bundle. IsDrivenRound g.D.Driver.next_of g.D.Driver.replied g.D.Driver.to_come c.args.self.now c.args.drivers.now (loop.number + 1) w.place_behind-place.result asked_bundle c.if-has.drivers w.and-round.result) (sym w.self-is)
          (subst (λ some_drivers. IsDrivenRound g.D.Driver.next_of g.D.Driver.replied g.D.Driver.to_come c.args.self.now c.args.drivers.now (loop.number + 1) w.place_behind-place.result w.drive_turn.new.self some_drivers w.and-round.result) (sym w.drivers-is)
          (driven_turn g.D.Driver.next_of g.D.Driver.replied g.D.Driver.to_come c.args.self.now loop.self c.args.drivers.now loop.drivers loop.number loop.place loop.round loop.invariant
          w.drive_turn.new.self w.drive_turn.new.drivers w.drive_turn.result w.and-round.result w.place_behind-place.result (sym c.has.ensures.view ∙ w.if-has.true) w.drive_turn.ensures.driving
          (record { same = w.drive_turn.ensures.same; unchanged = w.drive_turn.ensures.unchanged; idle = w.drive_turn.ensures.idle }) w.and-round.ensures.idle.0
          (w.place_behind-place.ensures ∙ ap (λ config. if nat_lt loop.number config.mutators then loop.place + 1 else loop.place) w.drive_turn.ensures.same.config)))))
      | else-has w ↦
          subst (λ place. IsDrivenRound g.D.Driver.next_of g.D.Driver.replied g.D.Driver.to_come c.args.self.now c.args.drivers.now (loop.number + 1) place c.if-has.self c.if-has.drivers c.if-has.round) (sym w.place-is)
          (subst (λ so_far. IsDrivenRound g.D.Driver.next_of g.D.Driver.replied g.D.Driver.to_come c.args.self.now c.args.drivers.now (loop.number + 1) loop.place c.if-has.self c.if-has.drivers so_far) (sym w.round-is)
          (subst (λ asked_bundle. IsDrivenRound g.D.Driver.next_of g.D.Driver.replied g.D.Driver.to_come c.args.self.now c.args.drivers.now (loop.number + 1) loop.place asked_bundle c.if-has.drivers loop.round) (sym w.self-is)
          (subst (λ some_drivers. IsDrivenRound g.D.Driver.next_of g.D.Driver.replied g.D.Driver.to_come c.args.self.now c.args.drivers.now (loop.number + 1) loop.place loop.self some_drivers loop.round) (sym w.drivers-is)
          (driven_none g.D.Driver.next_of g.D.Driver.replied g.D.Driver.to_come c.args.self.now loop.self c.args.drivers.now loop.drivers loop.number loop.place loop.round loop.invariant
          (sym c.has.ensures.view ∙ w.if-has.false)))))
    ]

pub returns-clause-idle : goal.returns-clause-idle
returns-clause-idle g c =
    let loop = c.loop-number in
    all_idle c.args.self.now loop.self loop.number loop.round loop.invariant.round (omega (arith, c.loop-number-test.false, c.len-number-end.ensures))
