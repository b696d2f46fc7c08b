use Rattle.shen_base.specs.Sending.{Outlet, outlet}
use Rattle.trace_text.specs.Answer.{spelled_answer}
use Rattle.trace_text.specs.History.{history_text}
use Rattle.trace_runs.specs.declared.status.Status.TheVariants.{Ok}
use Rattle.trace_runs.proofs.CallEnds.{ends_in_first, ends_in_second}
use Rattle.trace_runs.proofs.lines.give_noted.Goals as goal

pub returns-in-Err : goal.returns-in-Err
returns-in-Err g c =
    let before : Outlet = outlet (g.K.Sink.written c.args.sink.now) (g.K.Sink.faults c.args.sink.now) (g.K.Sink.calls c.args.sink.now) in
    let after : Outlet = outlet (g.K.Sink.written c.write_answer.new.sink) (g.K.Sink.faults c.write_answer.new.sink) (g.K.Sink.calls c.write_answer.new.sink) in
    ends_in_first before after (spelled_answer c.args.answer.now) (history_text c.args.history.now.list) Ok c.in-Err.ensures.front c.in-Err.ensures.only_by_fault c.in-Err.ensures.few_calls

pub returns-in-Err-write_history : goal.returns-in-Err-write_history
returns-in-Err-write_history g c =
    let before : Outlet = outlet (g.K.Sink.written c.args.sink.now) (g.K.Sink.faults c.args.sink.now) (g.K.Sink.calls c.args.sink.now) in
    let middle : Outlet = outlet (g.K.Sink.written c.write_answer.new.sink) (g.K.Sink.faults c.write_answer.new.sink) (g.K.Sink.calls c.write_answer.new.sink) in
    let after : Outlet = outlet (g.K.Sink.written c.write_history.new.sink) (g.K.Sink.faults c.write_history.new.sink) (g.K.Sink.calls c.write_history.new.sink) in
    ends_in_second before middle after (spelled_answer c.args.answer.now) (history_text c.args.history.now.list) Ok c.in-Ok.ensures.faults_never_fall c.in-Ok.ensures.all c.in-Ok.ensures.few_calls
    c.in-Err-write_history.ensures.front c.in-Err-write_history.ensures.only_by_fault c.in-Err-write_history.ensures.few_calls
