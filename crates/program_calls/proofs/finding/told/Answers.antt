use Rattle.std.proofs.Common.{refl}
use Rattle.shen_base.specs.Sending.{outlet}
use Rattle.trace_runs.specs.Answered.{Input, Output}
use Rattle.program_calls.proofs.CallParts.{searched, refused, fault_is}
use Rattle.program_calls.proofs.finding.told.Goals as goal

pub returns-in-Ok-clause-fits : goal.returns-in-Ok-clause-fits
returns-in-Ok-clause-fits g c =
    let input : Input = record { before = g.S.Source.left c.args.source.now; after = g.S.Source.left c.read_test.new.source; faults_before = g.S.Source.faults c.args.source.now; faults_after = g.S.Source.faults c.read_test.new.source } in
    let sink : Output = record {
      before = outlet (g.K.Sink.written c.args.sink.now) (g.K.Sink.faults c.args.sink.now) (g.K.Sink.calls c.args.sink.now);
      after = outlet (g.K.Sink.written c.search.new.sink) (g.K.Sink.faults c.search.new.sink) (g.K.Sink.calls c.search.new.sink);
    } in
    let errors : Output = record {
      before = outlet (g.E.Sink.written c.args.errors.now) (g.E.Sink.faults c.args.errors.now) (g.E.Sink.calls c.args.errors.now);
      after = outlet (g.E.Sink.written c.search.new.errors) (g.E.Sink.faults c.search.new.errors) (g.E.Sink.calls c.search.new.errors);
    } in
    let came = c.in-Ok.ensures.ok in
    searched c.search.result input sink errors c.in-Ok.test (record { bytes = came.0; came = came.1; is = came.2 }) c.search.ensures.fits

pub returns-in-Err-clause-fits : goal.returns-in-Err-clause-fits
returns-in-Err-clause-fits g c =
    let input : Input = record { before = g.S.Source.left c.args.source.now; after = g.S.Source.left c.read_test.new.source; faults_before = g.S.Source.faults c.args.source.now; faults_after = g.S.Source.faults c.read_test.new.source } in
    let sink : Output = record {
      before = outlet (g.K.Sink.written c.args.sink.now) (g.K.Sink.faults c.args.sink.now) (g.K.Sink.calls c.args.sink.now);
      after = outlet (g.K.Sink.written c.args.sink.now) (g.K.Sink.faults c.args.sink.now) (g.K.Sink.calls c.args.sink.now);
    } in
    let errors : Output = record {
      before = outlet (g.E.Sink.written c.args.errors.now) (g.E.Sink.faults c.args.errors.now) (g.E.Sink.calls c.args.errors.now);
      after = outlet (g.E.Sink.written c.refuse.new.errors) (g.E.Sink.faults c.refuse.new.errors) (g.E.Sink.calls c.refuse.new.errors);
    } in
    refused c.refuse.result c.in-Err.fault input sink errors
    (fault_is c.in-Err.fault input
    (λ line why is_fault. let bad = c.in-Err.ensures.refused line why (cc) in record { bytes = bad.0; came = bad.1; is = bad.2 })
    (λ line is_fault. (c.in-Err.ensures.too_long line (cc)).1)
    (λ is_fault. c.in-Err.ensures.read_fault (cc)))
    refl c.refuse.ensures.status c.refuse.ensures.text
