use Rattle.std.proofs.Common.{ℕ, List, refl, subst}
use Rattle.shen_check.specs.Judged.{IsVerdict}
use Rattle.shen_check.proofs.ScriptsLeft.{can_be_judged}
use Rattle.trace_text.specs.Message.{line_text}
use Rattle.trace_text.specs.declared.message.Line.{Line}
use Rattle.trace_text.specs.declared.message.Line.TheVariants as line
use Rattle.shen_base.specs.Sending.{outlet}
use Rattle.trace_runs.specs.declared.mode.Mode.TheVariants.{Check}
use Rattle.trace_runs.specs.declared.status.Status.TheVariants.{Ok, NoMemory}
use Rattle.trace_runs.specs.Answered.{Input, Output}
use Rattle.trace_runs.specs.CallEnds.{EndsWith}
use Rattle.trace_runs.specs.Checked.{verdict_line}
use Rattle.trace_runs.proofs.CallEnds.{said}
use Rattle.trace_runs.proofs.checks.check.Goals as goal

pub check-requires : goal.check-requires
check-requires g c =
    let read = c.in-Ok.ensures.ok in
    can_be_judged read.2.trace.trace c.in-Ok.pair.trace.version c.in-Ok.pair.trace.config c.in-Ok.pair.trace.scripts c.in-Ok.pair.trace.schedule read.2.trace.reads

pub returns-in-Ok-check : goal.returns-in-Ok-check
returns-in-Ok-check g c = λ words asked.
    let read = c.in-Ok.ensures.ok in
    let pair = c.in-Ok.pair in
    let verdict = c.in-Ok-check.verdict in
    let input : Input = record { before = g.S.Source.left c.args.source.now; after = g.S.Source.left c.pair_taken.new.source; faults_before = g.S.Source.faults c.args.source.now; faults_after = g.S.Source.faults c.pair_taken.new.source } in
    let output : Output = record {
      before = outlet (g.K.Sink.written c.args.sink.now) (g.K.Sink.faults c.args.sink.now) (g.K.Sink.calls c.args.sink.now);
      after = outlet (g.K.Sink.written c.say.new.sink) (g.K.Sink.faults c.say.new.sink) (g.K.Sink.calls c.say.new.sink);
    } in
    let verdict_is : IsVerdict pair.trace.version pair.trace.config pair.trace.scripts pair.history.list pair.body verdict = subst (λ (body : List ℕ). IsVerdict pair.trace.version pair.trace.config pair.trace.scripts pair.history.list body verdict) c.bytes.ensures c.in-Ok-check.ensures in
    said words input output (line_text (verdict_line verdict)) Ok c.say.result (
      Check,
      asked,
      record {
        bytes = read.0;
        came = read.1;
        is = record { version = pair.trace.version; config = pair.trace.config; scripts = pair.trace.scripts; items = pair.trace.schedule; body = pair.body; entries = pair.history.list; pair = read.2; verdict = verdict; is = verdict_is; text = refl };
      },
    )
    (subst (λ (given_line : Line). EndsWith (line_text given_line) Ok c.say.result output.before output.after) c.verdict_line.ensures
    (subst (λ sink. EndsWith (line_text c.verdict_line.result) Ok c.say.result (outlet (g.K.Sink.written sink) (g.K.Sink.faults sink) (g.K.Sink.calls sink)) output.after) c.in-Ok.ensures.unused c.say.ensures))

pub returns : goal.returns
returns g c = λ words asked.
    let input : Input = record { before = g.S.Source.left c.args.source.now; after = g.S.Source.left c.pair_taken.new.source; faults_before = g.S.Source.faults c.args.source.now; faults_after = g.S.Source.faults c.pair_taken.new.source } in
    let output : Output = record {
      before = outlet (g.K.Sink.written c.args.sink.now) (g.K.Sink.faults c.args.sink.now) (g.K.Sink.calls c.args.sink.now);
      after = outlet (g.K.Sink.written c.say-in-Err-check.new.sink) (g.K.Sink.faults c.say-in-Err-check.new.sink) (g.K.Sink.calls c.say-in-Err-check.new.sink);
    } in
    said words input output (line_text line.NoMemory) NoMemory c.say-in-Err-check.result ((Check, asked), refl)
    (subst (λ sink. EndsWith (line_text line.NoMemory) NoMemory c.say-in-Err-check.result (outlet (g.K.Sink.written sink) (g.K.Sink.faults sink) (g.K.Sink.calls sink)) output.after) c.in-Ok.ensures.unused c.say-in-Err-check.ensures)
