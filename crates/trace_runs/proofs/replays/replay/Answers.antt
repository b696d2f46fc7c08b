use Rattle.std.proofs.Common.{refl, subst}
use Rattle.trace_text.specs.Message.{line_text}
use Rattle.trace_text.specs.declared.message.Line.TheVariants as line
use Rattle.trace_text.specs.Answer.{spelled_answer}
use Rattle.shen_base.specs.Sending.{outlet}
use Rattle.trace_runs.specs.Answered.{Input, Output}
use Rattle.trace_runs.specs.CallEnds.{EndsWith}
use Rattle.trace_runs.specs.declared.mode.Mode.TheVariants.{Replay}
use Rattle.trace_runs.specs.declared.status.Status.TheVariants.{Ok, Unfinished, NoMemory}
use Rattle.trace_runs.proofs.CallEnds.{said}
use Rattle.trace_runs.proofs.replays.replay.Goals as goal

pub returns-in-Err-Unfinished : goal.returns-in-Err-Unfinished
returns-in-Err-Unfinished g c = λ words asked.
    let read = c.in-Ok.ensures.ok in
    let cut = c.in-Err-Unfinished.ensures.unfinished (let error_is = c.in-Err-Unfinished.field-0-is in cc) read.0 read.2 in
    let input : Input = record { before = g.S.Source.left c.args.source.now; after = g.S.Source.left c.taken.new.source; faults_before = g.S.Source.faults c.args.source.now; faults_after = g.S.Source.faults c.taken.new.source } in
    let output : Output = record {
      before = outlet (g.K.Sink.written c.args.sink.now) (g.K.Sink.faults c.args.sink.now) (g.K.Sink.calls c.args.sink.now);
      after = outlet (g.K.Sink.written c.say.new.sink) (g.K.Sink.faults c.say.new.sink) (g.K.Sink.calls c.say.new.sink);
    } in
    said words input output (line_text (line.Unfinished c.args.steps)) Unfinished c.say.result (Replay c.args.steps, asked, record { steps = c.args.steps; limit = refl; cut = record { bytes = read.0; came = read.1; is = cut }; text = refl })
    (subst (λ sink. EndsWith (line_text (line.Unfinished c.args.steps)) Unfinished c.say.result (outlet (g.K.Sink.written sink) (g.K.Sink.faults sink) (g.K.Sink.calls sink)) output.after) c.in-Ok.ensures.unused c.say.ensures)

pub returns-in-Err-NoMemory : goal.returns-in-Err-NoMemory
returns-in-Err-NoMemory g c = λ words asked.
    let input : Input = record { before = g.S.Source.left c.args.source.now; after = g.S.Source.left c.taken.new.source; faults_before = g.S.Source.faults c.args.source.now; faults_after = g.S.Source.faults c.taken.new.source } in
    let output : Output = record {
      before = outlet (g.K.Sink.written c.args.sink.now) (g.K.Sink.faults c.args.sink.now) (g.K.Sink.calls c.args.sink.now);
      after = outlet (g.K.Sink.written c.say-in-Err-NoMemory.new.sink) (g.K.Sink.faults c.say-in-Err-NoMemory.new.sink) (g.K.Sink.calls c.say-in-Err-NoMemory.new.sink);
    } in
    said words input output (line_text line.NoMemory) NoMemory c.say-in-Err-NoMemory.result ((Replay c.args.steps, asked), refl)
    (subst (λ sink. EndsWith (line_text line.NoMemory) NoMemory c.say-in-Err-NoMemory.result (outlet (g.K.Sink.written sink) (g.K.Sink.faults sink) (g.K.Sink.calls sink)) output.after) c.in-Ok.ensures.unused c.say-in-Err-NoMemory.ensures)

pub returns : goal.returns
returns g c = λ words asked.
    let read = c.in-Ok.ensures.ok in
    let input : Input = record { before = g.S.Source.left c.args.source.now; after = g.S.Source.left c.taken.new.source; faults_before = g.S.Source.faults c.args.source.now; faults_after = g.S.Source.faults c.taken.new.source } in
    let output : Output = record {
      before = outlet (g.K.Sink.written c.args.sink.now) (g.K.Sink.faults c.args.sink.now) (g.K.Sink.calls c.args.sink.now);
      after = outlet (g.K.Sink.written c.give.new.sink) (g.K.Sink.faults c.give.new.sink) (g.K.Sink.calls c.give.new.sink);
    } in
    said words input output (spelled_answer c.in-Ok-replayed_answer.answer) Ok c.give.result (Replay c.args.steps, asked, record { bytes = read.0; came = read.1; is = c.in-Ok-replayed_answer.ensures.ok read.0 read.2 })
    (subst (λ sink. EndsWith (spelled_answer c.in-Ok-replayed_answer.answer) Ok c.give.result (outlet (g.K.Sink.written sink) (g.K.Sink.faults sink) (g.K.Sink.calls sink)) output.after) c.in-Ok.ensures.unused c.give.ensures)

pub returns-in-Err : goal.returns-in-Err
returns-in-Err g c = λ words asked. c.in-Err.ensures.refused words (Replay c.args.steps, asked, refl)
