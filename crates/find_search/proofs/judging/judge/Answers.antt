use Rattle.find_search.proofs.Verdicts.{no_play, no_trace, of_other}
use Rattle.find_search.proofs.judging.judge.Goals as goal

pub returns-in-Err-BadLine : goal.returns-in-Err-BadLine
returns-in-Err-BadLine c =
    let line = c.in-Err-BadLine in
    no_trace c.args.test.now c.args.bytes.now c.args.steps line.field-0-0 line.field-0-1 (line.ensures.bad_line line.field-0-0 line.field-0-1 (cc))

pub returns-then-not-are_same : goal.returns-then-not-are_same
returns-then-not-are_same c =
    let trace = c.in-Ok.trace in
    of_other c.args.test.now c.args.bytes.now c.args.steps trace.version trace.config trace.scripts trace.schedule c.in-Ok.ensures.ok (c.are_same.ensures.other c.if-not-are_same.true)

pub returns-in-Ok-noted_answer_to : goal.returns-in-Ok-noted_answer_to
returns-in-Ok-noted_answer_to c =
    let trace = c.in-Ok.trace in
    let told = c.in-Ok-noted_answer_to in
    no_play c.args.test.now c.args.bytes.now c.args.steps trace.version trace.config trace.scripts trace.schedule told.history.list told.answer.graph
    (c.are_same.ensures.same c.if-not-are_same.false) c.in-Ok.ensures.ok told.ensures.whole told.ensures.history told.ensures.graph
    (c.in_ok-verdict-in-Ok-noted_answer_to.ensures.none (cc))
