use Rattle.std.proofs.Common.{◌+◌, sym, ◌∙◌, subst, arith}
use Rattle.table_heap.proofs.Running.{same_jobs, still_of}
use Rattle.table_heap.proofs.Rounds.{IsInRound, round_first, in_round_turn, in_round_none, all_idle}
use Rattle.table_heap.proofs.bundle.Bundle.round.Goals.{then-has, else-has}
use Rattle.table_heap.proofs.bundle.Bundle.round.Goals as goal

pub loop-number-init : goal.loop-number-init
loop-number-init g c = record { work = c.requires.work; jobs_are = same_jobs _ c.args.work.now; round = round_first c.args.self.now _ }

pub turn-requires-clause-heap : goal.turn-requires-clause-heap
turn-requires-clause-heap g c = λ _ _.
    still_of c.args.self.now c.loop-number.self c.args.heap.now c.loop-number.invariant.round.same c.requires.heap

pub turn-requires-clause-here : goal.turn-requires-clause-here
turn-requires-clause-here g c = λ _ _. sym c.has.ensures.machine ∙ c.if-has.true

pub turn-requires-clause-work : goal.turn-requires-clause-work
turn-requires-clause-work g c = λ _ _. c.loop-number.invariant.work

pub loop-number-preserved : goal.loop-number-preserved
loop-number-preserved g c =
    let loop_turn = c.loop-number in
    elim c.if-has.branch [
      | then-has w ↦
          subst (λ so_far. IsInRound c.args.self.now c.args.work.now (loop_turn.number + 1) c.if-has.self c.if-has.work so_far) (sym w.round-is)
          (subst (λ asked_bundle. IsInRound c.args.self.now c.args.work.now (loop_turn.number + 1) asked_bundle c.if-has.work w.and-round.result) (sym w.self-is)
          (subst (λ jobs. IsInRound c.args.self.now c.args.work.now (loop_turn.number + 1) w.turn.new.self jobs w.and-round.result) (sym w.work-is)
          (in_round_turn c.args.self.now loop_turn.self c.args.work.now loop_turn.work loop_turn.number loop_turn.round loop_turn.invariant w.turn.new.self w.turn.new.work w.turn.result w.and-round.result
          (record {
            work = w.turn.ensures.work;
            jobs_are = w.turn.ensures.jobs;
            turn = record { same = w.turn.ensures.same; unchanged = w.turn.ensures.unchanged; idle = w.turn.ensures.idle };
          })
          w.and-round.ensures.idle.0)))
      | else-has w ↦
          subst (λ so_far. IsInRound c.args.self.now c.args.work.now (loop_turn.number + 1) c.if-has.self c.if-has.work so_far) (sym w.round-is)
          (subst (λ asked_bundle. IsInRound c.args.self.now c.args.work.now (loop_turn.number + 1) asked_bundle c.if-has.work loop_turn.round) (sym w.self-is)
          (subst (λ jobs. IsInRound c.args.self.now c.args.work.now (loop_turn.number + 1) loop_turn.self jobs loop_turn.round) (sym w.work-is)
          (in_round_none c.args.self.now loop_turn.self c.args.work.now loop_turn.work loop_turn.number loop_turn.round loop_turn.invariant (sym c.has.ensures.view ∙ w.if-has.false))))
    ]

pub returns-clause-work : goal.returns-clause-work
returns-clause-work g c = c.loop-number.invariant.work

pub returns-clause-same : goal.returns-clause-same
returns-clause-same g c = c.loop-number.invariant.round.same

pub returns-clause-jobs : goal.returns-clause-jobs
returns-clause-jobs g c = c.loop-number.invariant.jobs_are

pub returns-clause-idle : goal.returns-clause-idle
returns-clause-idle g c =
    let loop_turn = c.loop-number in
    all_idle c.args.self.now loop_turn.self loop_turn.number loop_turn.round loop_turn.invariant.round (omega (arith, c.loop-number-test.false, c.len-number-end.ensures))
