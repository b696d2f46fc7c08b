use Rattle.std.proofs.Common.{◌≡◌, ◌<◌, ℕ, List, ◌++◌, length, inr, refl, subst}
use Rattle.shen_graph.specs.Work.{HasScript}
use Rattle.trace_text.specs.Message.{line_text}
use Rattle.trace_text.specs.declared.message.Line.TheVariants as line
use Rattle.trace_text.specs.Answer.{spelled_answer}
use Rattle.shen_base.specs.Sending.{outlet}
use Rattle.graph_placing.specs.ByName.{Fits}
use Rattle.heap_dump.specs.Resumed.{IsResumed}
use Rattle.trace_runs.specs.Answered.{Input, Output}
use Rattle.trace_runs.specs.CallEnds.{EndsWith}
use Rattle.trace_runs.specs.declared.mode.Mode.TheVariants.{Resume}
use Rattle.trace_runs.specs.declared.status.Status.TheVariants.{Ok, BadTrace, Unfinished, NoMemory}
use Rattle.trace_runs.proofs.CallEnds.{said}
use Rattle.trace_runs.proofs.FromRead.{answered_from, cut_from, too_large}
use Rattle.trace_runs.proofs.dumps.resume.Goals as goal

pub answer_from-requires : goal.answer_from-requires
answer_from-requires g c = let read = c.in-Ok.ensures.ok in (read.0, read.2)

pub give-requires : goal.give-requires
give-requires g c = rw c.in-Ok-Answered.field-0-is at c.in-Ok-Answered.ensures.scripts

pub returns-in-Ok-Answered : goal.returns-in-Ok-Answered
returns-in-Ok-Answered g c = λ words asked.
    let read = c.in-Ok.ensures.ok in
    let read_dump = c.in-Ok.read in
    let answer = c.in-Ok-Answered.answer in
    let fits : Fits read_dump.dump.config read_dump.dump.graph = rw c.in-Ok-Answered.field-0-is at c.in-Ok-Answered.ensures.fits in
    let resumed : IsResumed read_dump.dump.config read_dump.dump.counts read_dump.dump.graph read_dump.trace.scripts read_dump.trace.schedule c.args.steps (spelled_answer answer) = rw c.in-Ok-Answered.field-0-is at c.in-Ok-Answered.ensures.answered in
    let input : Input = record { before = g.S.Source.left c.args.source.now; after = g.S.Source.left c.dump_taken.new.source; faults_before = g.S.Source.faults c.args.source.now; faults_after = g.S.Source.faults c.dump_taken.new.source } in
    let output : Output = record {
      before = outlet (g.K.Sink.written c.args.sink.now) (g.K.Sink.faults c.args.sink.now) (g.K.Sink.calls c.args.sink.now);
      after = outlet (g.K.Sink.written c.give.new.sink) (g.K.Sink.faults c.give.new.sink) (g.K.Sink.calls c.give.new.sink);
    } in
    let text : List ℕ = spelled_answer answer in
    said words input output text Ok c.give.result (
      Resume c.args.steps,
      asked,
      record { bytes = read.0; came = read.1; is = answered_from read.0 read_dump.dump.config read_dump.dump.counts read_dump.dump.graph read_dump.trace.scripts read_dump.trace.schedule read.2 c.args.steps (spelled_answer answer) fits resumed },
    )
    (subst (λ sink. EndsWith text Ok c.give.result (outlet (g.K.Sink.written sink) (g.K.Sink.faults sink) (g.K.Sink.calls sink)) output.after) c.in-Ok.ensures.unused c.give.ensures)

pub returns-in-Ok-Unfinished : goal.returns-in-Ok-Unfinished
returns-in-Ok-Unfinished g c = λ words asked.
    let read = c.in-Ok.ensures.ok in
    let read_dump = c.in-Ok.read in
    let fits = c.in-Ok-Unfinished.ensures.unfinished_fits (let error_is = c.in-Ok-Unfinished.field-0-is in cc) in
    let cut = c.in-Ok-Unfinished.ensures.unfinished (let error_is = c.in-Ok-Unfinished.field-0-is in cc) in
    let input : Input = record { before = g.S.Source.left c.args.source.now; after = g.S.Source.left c.dump_taken.new.source; faults_before = g.S.Source.faults c.args.source.now; faults_after = g.S.Source.faults c.dump_taken.new.source } in
    let output : Output = record {
      before = outlet (g.K.Sink.written c.args.sink.now) (g.K.Sink.faults c.args.sink.now) (g.K.Sink.calls c.args.sink.now);
      after = outlet (g.K.Sink.written c.say.new.sink) (g.K.Sink.faults c.say.new.sink) (g.K.Sink.calls c.say.new.sink);
    } in
    said words input output (line_text (line.Unfinished c.args.steps)) Unfinished c.say.result (
      Resume c.args.steps,
      asked,
      record {
        steps = c.args.steps;
        limit = refl;
        cut = record { bytes = read.0; came = read.1; is = cut_from read.0 read_dump.dump.config read_dump.dump.counts read_dump.dump.graph read_dump.trace.scripts read_dump.trace.schedule read.2 c.args.steps fits cut };
        text = refl;
      },
    )
    (subst (λ sink. EndsWith (line_text (line.Unfinished c.args.steps)) Unfinished c.say.result (outlet (g.K.Sink.written sink) (g.K.Sink.faults sink) (g.K.Sink.calls sink)) output.after) c.in-Ok.ensures.unused c.say.ensures)

pub returns-in-Ok-TooSmall : goal.returns-in-Ok-TooSmall
returns-in-Ok-TooSmall g c = λ words asked.
    let read = c.in-Ok.ensures.ok in
    let read_dump = c.in-Ok.read in
    let large = c.in-Ok-TooSmall.ensures.too_small (let error_is = c.in-Ok-TooSmall.field-0-is in cc) in
    let input : Input = record { before = g.S.Source.left c.args.source.now; after = g.S.Source.left c.dump_taken.new.source; faults_before = g.S.Source.faults c.args.source.now; faults_after = g.S.Source.faults c.dump_taken.new.source } in
    let output : Output = record {
      before = outlet (g.K.Sink.written c.args.sink.now) (g.K.Sink.faults c.args.sink.now) (g.K.Sink.calls c.args.sink.now);
      after = outlet (g.K.Sink.written c.say-in-Ok-TooSmall.new.sink) (g.K.Sink.faults c.say-in-Ok-TooSmall.new.sink) (g.K.Sink.calls c.say-in-Ok-TooSmall.new.sink);
    } in
    said words input output (line_text line.HeapTooSmall) BadTrace c.say-in-Ok-TooSmall.result (
      Resume c.args.steps,
      asked,
      (tt, inr (inr (record { read = record { bytes = read.0; came = read.1; is = too_large read.0 read_dump.dump.config read_dump.dump.counts read_dump.dump.graph read_dump.trace.scripts read_dump.trace.schedule read.2 large }; text = refl }))),
    )
    (subst (λ sink. EndsWith (line_text line.HeapTooSmall) BadTrace c.say-in-Ok-TooSmall.result (outlet (g.K.Sink.written sink) (g.K.Sink.faults sink) (g.K.Sink.calls sink)) output.after) c.in-Ok.ensures.unused c.say-in-Ok-TooSmall.ensures)

pub returns-in-Err-answer_from : goal.returns-in-Err-answer_from
returns-in-Err-answer_from g c = λ words asked.
    let input : Input = record { before = g.S.Source.left c.args.source.now; after = g.S.Source.left c.dump_taken.new.source; faults_before = g.S.Source.faults c.args.source.now; faults_after = g.S.Source.faults c.dump_taken.new.source } in
    let output : Output = record {
      before = outlet (g.K.Sink.written c.args.sink.now) (g.K.Sink.faults c.args.sink.now) (g.K.Sink.calls c.args.sink.now);
      after = outlet (g.K.Sink.written c.say-in-Err-answer_from.new.sink) (g.K.Sink.faults c.say-in-Err-answer_from.new.sink) (g.K.Sink.calls c.say-in-Err-answer_from.new.sink);
    } in
    said words input output (line_text line.NoMemory) NoMemory c.say-in-Err-answer_from.result ((Resume c.args.steps, asked), refl)
    (subst (λ sink. EndsWith (line_text line.NoMemory) NoMemory c.say-in-Err-answer_from.result (outlet (g.K.Sink.written sink) (g.K.Sink.faults sink) (g.K.Sink.calls sink)) output.after) c.in-Ok.ensures.unused c.say-in-Err-answer_from.ensures)

pub returns-in-Err : goal.returns-in-Err
returns-in-Err g c = λ words asked. c.in-Err.ensures.refused words c.args.steps asked
