use Rattle.std.proofs.Common.{◌≡◌, ◌<◌, ◌+◌, [], refl, sym, ap, ◌∙◌, subst, arith}
use Rattle.heap_words.specs.Ranges.{seat_count}
use Rattle.shen_core.specs.State.{config_of, seats_of}
use Rattle.shen_core.specs.Progress.{agenda}
use Rattle.shen_core.proofs.Rounds.{idle_more}
use Rattle.shen_core.proofs.Noting.{runs_none, runs_then, runs_out, round_idles, round_moves, round_ends}
use Rattle.shen_core.specs.Noting.{RunsNoted}
use Rattle.shen_core.proofs.plain.Plain.run_round.Goals as goal
use Rattle.shen_core.proofs.plain.Plain.run_round.Goals.{in-Idle, in_default}

pub loop-number-init : goal.loop-number-init
loop-number-init c = record {
  run = c.requires;
  config = refl;
  less = omega arith;
  runs = runs_none _ _ _ _;
  idle = λ nothing_done scripts stage shows tells number number_below. absurd (omega arith);
}

pub returns-then-left-eq0-clause-round : goal.returns-then-left-eq0-clause-round
returns-then-left-eq0-clause-round c =
    runs_then c.args.self.now c.loop-number.self c.loop-number.self c.args.work.now c.loop-number.work c.loop-number.work _ _ (agenda [] 0) _ c.loop-number.left _ c.loop-number.invariant.config c.loop-number.invariant.runs
    (runs_out c.loop-number.self c.loop-number.work _ _ c.loop-number.left c.if-left-eq0.true)

pub loop-number-preserved : goal.loop-number-preserved
loop-number-preserved c =
    let seats : seat_count (config_of c.loop-number.self).mutators (config_of c.loop-number.self).helpers ≡ seats_of c.args.self.now = ap (λ config. seat_count config.mutators config.helpers) c.loop-number.invariant.config in
    let number_below : c.loop-number.number < seat_count (config_of c.loop-number.self).mutators (config_of c.loop-number.self).helpers = omega (arith, c.seats-seats.ensures, c.loop-number-test.true, seats) in
    elim c.match-turn.branch [
      | in-Idle w ↦ record {
        run = c.turn.ensures.run;
        config = c.turn.ensures.config ∙ c.loop-number.invariant.config;
        less = (let left_less = c.loop-number.invariant.less in omega arith);
        runs = subst (λ events_left. RunsNoted c.args.self.now c.args.work.now (agenda [] 0) c.args.limit c.turn.new.self c.turn.new.work (agenda [] (c.loop-number.number + 1)) events_left) (sym w.left-is)
            (runs_then c.args.self.now c.loop-number.self c.turn.new.self c.args.work.now c.loop-number.work c.turn.new.work _ _ _ _ c.loop-number.left _ c.loop-number.invariant.config c.loop-number.invariant.runs
            (round_idles c.loop-number.self c.turn.new.self c.loop-number.work c.turn.new.work c.loop-number.number c.turn.result c.loop-number.left number_below c.turn.ensures.notes c.turn.ensures.turned w.in-Idle.is));
        idle = λ nothing_done. idle_more c.loop-number.self c.turn.new.self c.loop-number.work c.turn.new.work c.loop-number.number c.turn.result (c.turn.ensures.idle w.in-Idle.is) (c.turn.ensures.idle_work w.in-Idle.is) c.turn.ensures.turned w.in-Idle.is
            (c.loop-number.invariant.idle (sym w.left-is ∙ nothing_done));
      }
      | in_default w ↦ record {
        run = c.turn.ensures.run;
        config = c.turn.ensures.config ∙ c.loop-number.invariant.config;
        less = (let left_less = c.loop-number.invariant.less in omega arith);
        runs = subst (λ events_left. RunsNoted c.args.self.now c.args.work.now (agenda [] 0) c.args.limit c.turn.new.self c.turn.new.work (agenda [] (c.loop-number.number + 1)) events_left) (sym w.left-is)
            (runs_then c.args.self.now c.loop-number.self c.turn.new.self c.args.work.now c.loop-number.work c.turn.new.work _ _ _ _ c.loop-number.left _ c.loop-number.invariant.config c.loop-number.invariant.runs
            (round_moves c.loop-number.self c.turn.new.self c.loop-number.work c.turn.new.work c.loop-number.number c.turn.result c.loop-number.left number_below c.turn.ensures.notes c.turn.ensures.turned w.in_default.not-Idle (let some_left = c.if-left-eq0.false in omega arith)));
        idle = λ nothing_done. absurd (let left_less = c.loop-number.invariant.less in let some_left = c.if-left-eq0.false in omega arith);
      }
    ]

pub returns-clause-round : goal.returns-clause-round
returns-clause-round c =
    let seats : seat_count (config_of c.loop-number.self).mutators (config_of c.loop-number.self).helpers ≡ seats_of c.args.self.now = ap (λ config. seat_count config.mutators config.helpers) c.loop-number.invariant.config in
    let at_last : c.loop-number.number ≡ seat_count (config_of c.loop-number.self).mutators (config_of c.loop-number.self).helpers = omega (arith, c.seats-seats.ensures, c.loop-number-test.false, seats) in
    runs_then c.args.self.now c.loop-number.self c.loop-number.self c.args.work.now c.loop-number.work c.loop-number.work _ _ (agenda [] 0) _ c.loop-number.left _ c.loop-number.invariant.config c.loop-number.invariant.runs
    (subst (λ number. RunsNoted c.loop-number.self c.loop-number.work (agenda [] number) c.loop-number.left c.loop-number.self c.loop-number.work (agenda [] 0) c.loop-number.left) (sym at_last) (round_ends c.loop-number.self c.loop-number.work c.loop-number.left))

pub returns-then-left-eq0-clause-run : goal.returns-then-left-eq0-clause-run
returns-then-left-eq0-clause-run c = c.loop-number.invariant.run

pub returns-then-left-eq0-clause-config : goal.returns-then-left-eq0-clause-config
returns-then-left-eq0-clause-config c = c.loop-number.invariant.config

pub returns-then-left-eq0-clause-less : goal.returns-then-left-eq0-clause-less
returns-then-left-eq0-clause-less c = c.loop-number.invariant.less

pub turn-requires-clause-run : goal.turn-requires-clause-run
turn-requires-clause-run c = c.loop-number.invariant.run

pub returns-clause-run : goal.returns-clause-run
returns-clause-run c = c.loop-number.invariant.run

pub returns-clause-config : goal.returns-clause-config
returns-clause-config c = c.loop-number.invariant.config

pub returns-clause-less : goal.returns-clause-less
returns-clause-less c = c.loop-number.invariant.less
