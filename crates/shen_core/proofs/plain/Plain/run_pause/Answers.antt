use Rattle.std.proofs.Common.{◌≡◌, ◌-◌, ◌+◌, ◌<◌, [], refl, ap, ◌∙◌, subst, arith}
use Rattle.heap_words.specs.Ranges.{seat_count}
use Rattle.shen_core.specs.State.{config_of, machine_at, seats_of}
use Rattle.shen_core.specs.Progress.{agenda}
use Rattle.heap_machines.proofs.Inside.{left_inside}
use Rattle.shen_core.proofs.Noting.{runs_none, runs_then}
use Rattle.shen_core.proofs.PauseRounds.{pause_round}
use Rattle.shen_core.proofs.plain.Plain.run_pause.Goals as goal

pub returns-then-words-eq0-clause-rounds : goal.returns-then-words-eq0-clause-rounds
returns-then-words-eq0-clause-rounds c = runs_none _ _ _ _

pub returns-in_default-clause-rounds : goal.returns-in_default-clause-rounds
returns-in_default-clause-rounds c = runs_none _ _ _ _

pub loop-left-init : goal.loop-left-init
loop-left-init c = record { run = c.requires; config = refl; less = omega arith; halted = c.in-Some.ensures; words = c.words_left-words.ensures; runs = runs_none _ _ _ _ }

pub loop-left-preserved : goal.loop-left-preserved
loop-left-preserved c =
    let plain = c.loop-left.self in
    let turned_plain = c.turn_inside_image.new.self in
    let jobs = c.args.work.now in
    let control = c.seats-control.result - 1 in
    let same_seats : seats_of plain ≡ seats_of c.args.self.now = ap (λ config. seat_count config.mutators config.helpers) c.loop-left.invariant.config in
    let control_last : control + 1 ≡ seats_of plain = omega (arith, c.seats-control.ensures, same_seats) in
    let enough : c.in-Some.waiting < c.loop-left.left = c.loop-left-test.true in
    record {
      run = c.turn_inside_image.ensures.run;
      config = c.turn_inside_image.ensures.config ∙ c.loop-left.invariant.config;
      less = (let left_less = c.loop-left.invariant.less in omega arith);
      halted = c.turn_inside_image.ensures.halted c.in-Some.waiting c.loop-left.invariant.halted;
      words = (let before = c.loop-left.invariant.words in let left_told = c.turn_inside_image.ensures.left in omega (arith, before, left_told));
      runs = runs_then c.args.self.now plain turned_plain jobs jobs jobs (agenda [] 0) (agenda [] 0) (agenda [] 0) c.args.limit c.loop-left.left (c.loop-left.left - (c.in-Some.waiting + 1)) c.loop-left.invariant.config c.loop-left.invariant.runs
          (pause_round plain jobs c.loop-left.invariant.run turned_plain control c.in-Some.waiting c.loop-left.left control_last enough c.loop-left.invariant.halted c.turn_inside_image.ensures.config c.turn_inside_image.ensures.notes c.turn_inside_image.ensures.turned);
    }

pub turn_inside_image-requires-clause-inside : goal.turn_inside_image-requires-clause-inside
turn_inside_image-requires-clause-inside c =
    let plain = c.loop-left.self in
    let control = c.seats-control.result - 1 in
    left_inside (config_of plain) (machine_at plain control) (subst (λ word_count. 0 < word_count) c.loop-left.invariant.words c.if-words-gt0.true)
