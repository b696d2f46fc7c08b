use Rattle.shen_base.specs.Sending.{outlet}
use Rattle.trace_runs.specs.declared.mode.Mode.TheVariants.{Check}
use Rattle.trace_runs.specs.Answered.{Input, Output}
use Rattle.trace_runs.specs.Readings.{ReadPair}
use Rattle.trace_runs.proofs.Refusing.{told_by, fault_said}
use Rattle.trace_runs.proofs.checks.pair_taken.Goals as goal

pub returns-in-Err-clause-refused : goal.returns-in-Err-clause-refused
returns-in-Err-clause-refused g c = λ words asked.
    let input : Input = record { before = g.S.Source.left c.args.source.now; after = g.S.Source.left c.read_pair.new.source; faults_before = g.S.Source.faults c.args.source.now; faults_after = g.S.Source.faults c.read_pair.new.source } in
    let output : Output = record {
      before = outlet (g.K.Sink.written c.args.sink.now) (g.K.Sink.faults c.args.sink.now) (g.K.Sink.calls c.args.sink.now);
      after = outlet (g.K.Sink.written c.refuse.new.sink) (g.K.Sink.faults c.refuse.new.sink) (g.K.Sink.calls c.refuse.new.sink);
    } in
    fault_said words input output Check c.in-Err.fault c.refuse.result asked tt
    (told_by ReadPair input c.in-Err.fault
    (λ line_number why same_fault. let bad = c.in-Err.ensures.bad_line line_number why (cc) in record { bytes = bad.0; came = bad.1; is = bad.2 })
    (λ line_number same_fault. (c.in-Err.ensures.too_long line_number (cc)).1)
    (λ same_fault. c.in-Err.ensures.read_fault (cc)))
    c.refuse.ensures
