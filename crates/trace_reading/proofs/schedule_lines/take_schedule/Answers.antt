use Rattle.std.proofs.Common.{◌∷◌, [], ◌++◌, sym, arith}
use Rattle.std.proofs.lemmas.List.{length-append}
use Rattle.trace_reading.specs.Spelling.{IsScheduleLine, schedule_line}
use Rattle.trace_reading.proofs.Pieces.{one_taken}
use Rattle.trace_reading.proofs.ScheduleLines.{IsEmpty, lines_are_pieces, not_empty, items_more}
use Rattle.trace_reading.proofs.Bad.{turns_fit, not_none}
use Rattle.trace_reading.proofs.schedule_lines.take_schedule.Goals as goal

pub overflow_add-line : goal.overflow_add-line
overflow_add-line c =
    let turns_short = turns_fit c.turns.invariant.0 c.args.bytes.now c.turns.rest.now c.turns.invariant.1.spelled in
    let some_turns = c.turns-test.ensures in
    omega (arith, turns_short, c.turns.invariant.3, c.requires.few, not_none c.turns.rest.now (sym some_turns))

pub turns-preserved : goal.turns-preserved
turns-preserved c =
    let took = c.in-Ok.ensures.ok in
    let turns = c.turns.invariant.0 in (
      turns ++ took.0 ∷ [],
      one_taken schedule_line (IsScheduleLine c.args.config.now) IsEmpty c.args.bytes.now c.turns.rest.now c.in-Ok.behind.now turns took.0 lines_are_pieces c.turns.invariant.1 (not_empty c.turns.rest.now (sym c.turns-test.ensures)) took.1,
      items_more c.args.schedule.now c.turns.schedule c.take_schedule_line.new.schedule turns took.0 c.turns.invariant.2 took.2,
      omega (arith, c.turns.invariant.3, length-append turns (took.0 ∷ [])),
    )
