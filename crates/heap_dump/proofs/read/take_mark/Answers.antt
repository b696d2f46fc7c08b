use Rattle.std.proofs.Common.{◌≡◌, inr}
use Rattle.std.proofs.lemmas.Result.{err_from_is_err_and}
use Rattle.std.proofs.lemmas.Bool.{false≢true}
use Rattle.trace_reading.specs.declared.fault.TraceFault.TheVariants.{BadLine}
use Rattle.trace_reading.specs.declared.why.Why.TheVariants.{DumpWanted}
use Rattle.heap_dump.specs.DumpLines.{Listed, ends_by}
use Rattle.heap_dump.proofs.Steps.{stops_here, ends_here, refused_here}
use Rattle.heap_dump.proofs.HeldDump.{dump_is_held, mark_refused, not_mark}
use Rattle.heap_dump.proofs.read.take_mark.Goals as goal

pub returns-in_err-text-clause-err : goal.returns-in_err-text-clause-err
returns-in_err-text-clause-err c =
    let result_fault = err_from_is_err_and c.from_residual.result c.from_residual.ensures.1 in
    let text_fault = c.in_err-text.ensures.err in
    let line = c.args.line in
    let bytes = c.args.bytes.now in
    let same_fault : result_fault.0 ≡ BadLine line (ends_by text_fault.0) = let result_told = result_fault.2 in let text_told = text_fault.2 in cc in
    rw result_fault.1
    (inr (λ dump dump_held some_roots. (line, ends_by text_fault.0, same_fault, stops_here (Listed dump) line bytes (ends_by text_fault.0) (ends_here (Listed dump) bytes text_fault.0 tt text_fault.1))))

pub returns-in-Ok-false-clause-err : goal.returns-in-Ok-false-clause-err
returns-in-Ok-false-clause-err c =
    let line = c.args.line in
    let bytes = c.args.bytes.now in
    let text = c.in_ok-text.text.now in
    let bytes_behind = c.in_ok-text.behind.now in
    let whole_tested = rw c.in-Ok-false.field-0-test at c.in-Ok-false.ensures in
    inr (λ dump dump_held some_roots. (
      line,
      DumpWanted,
      c.dump_wanted.ensures,
      stops_here (Listed dump) line bytes DumpWanted (refused_here (Listed dump) bytes text bytes_behind tt c.in_ok-text.ensures.ok
          (mark_refused dump text dump_held.form some_roots (λ mark_there spells. false≢true (whole_tested.1 (dump_is_held dump c.args.graph.now dump_held c.requires.few mark_there))))),
    ))

pub returns-else-eq-clause-err : goal.returns-else-eq-clause-err
returns-else-eq-clause-err c =
    let line = c.args.line in
    let bytes = c.args.bytes.now in
    let text = c.in_ok-text.text.now in
    let bytes_behind = c.in_ok-text.behind.now in
    inr (λ dump dump_held some_roots. (
      line,
      DumpWanted,
      c.dump_wanted-else-eq.ensures,
      stops_here (Listed dump) line bytes DumpWanted (refused_here (Listed dump) bytes text bytes_behind tt c.in_ok-text.ensures.ok
          (mark_refused dump text dump_held.form some_roots (λ mark_there spells. not_mark text c.as_slice.result.now c.as_slice.ensures c.if-eq.ensures spells))),
    ))
