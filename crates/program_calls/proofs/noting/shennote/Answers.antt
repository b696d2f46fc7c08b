use Rattle.std.proofs.Common.{rules}
use Rattle.shen_base.specs.Sending.{outlet}
use Rattle.program_calls.proofs.Statuses.{unread_tells, trace_tells, long_tells}
use Rattle.program_calls.proofs.noting.shennote.Goals as goal

pub returns-in-Err-clause-fits : goal.returns-in-Err-clause-fits
returns-in-Err-clause-fits g c =
    let S = g.S.Source in
    let K = g.K.Sink in
    let E = g.E.Sink in
    unread_tells c.all_bytes.result c.in-Err.fault c.refuse.result
    (record { before = S.left c.args.source.now; after = S.left c.all_bytes.new.source; faults_before = S.faults c.args.source.now; faults_after = S.faults c.all_bytes.new.source })
    (outlet (K.written c.args.sink.now) (K.faults c.args.sink.now) (K.calls c.args.sink.now))
    (outlet (E.written c.args.errors.now) (E.faults c.args.errors.now) (E.calls c.args.errors.now))
    (outlet (E.written c.refuse.new.sink) (E.faults c.refuse.new.sink) (E.calls c.refuse.new.sink))
    c.in-Err.is c.all_bytes.ensures.too_long c.all_bytes.ensures.read_fault c.all_bytes.ensures.no_bad_line c.refuse.ensures

pub returns-in-Ok-Text-clause-fits : goal.returns-in-Ok-Text-clause-fits
returns-in-Ok-Text-clause-fits g c =
    let S = g.S.Source in
    let K = g.K.Sink in
    let E = g.E.Sink in
    trace_tells c.tell.result
    (record { before = S.left c.args.source.now; after = S.left c.all_bytes.new.source; faults_before = S.faults c.args.source.now; faults_after = S.faults c.all_bytes.new.source })
    (outlet (E.written c.args.errors.now) (E.faults c.args.errors.now) (E.calls c.args.errors.now))
    (outlet (K.written c.args.sink.now) (K.faults c.args.sink.now) (K.calls c.args.sink.now))
    (outlet (K.written c.tell.new.sink) (K.faults c.tell.new.sink) (K.calls c.tell.new.sink))
    c.in-Ok.bytes.items c.in-Ok-Text.text.stored c.bytes.result.now
    (search rules) (search rules) (search rules) c.tell.ensures

pub returns-in-Ok-Long-clause-fits : goal.returns-in-Ok-Long-clause-fits
returns-in-Ok-Long-clause-fits g c =
    let S = g.S.Source in
    let K = g.K.Sink in
    let E = g.E.Sink in
    let trace = c.in-Ok-trace_of.trace in
    long_tells c.tell-in-Ok-Long.result
    (record { before = S.left c.args.source.now; after = S.left c.all_bytes.new.source; faults_before = S.faults c.args.source.now; faults_after = S.faults c.all_bytes.new.source })
    (outlet (K.written c.args.sink.now) (K.faults c.args.sink.now) (K.calls c.args.sink.now))
    (outlet (E.written c.args.errors.now) (E.faults c.args.errors.now) (E.calls c.args.errors.now))
    (outlet (E.written c.tell-in-Ok-Long.new.sink) (E.faults c.tell-in-Ok-Long.new.sink) (E.calls c.tell-in-Ok-Long.new.sink))
    c.in-Ok.bytes.items trace.version trace.config trace.scripts trace.schedule
    (search rules) (search rules) c.tell-in-Ok-Long.ensures
