use Rattle.std.proofs.Common.{◌≡◌, [], inr, sym, refl, ◌∙◌, arith}
use Rattle.std.proofs.lemmas.Result.{err_from_is_err_and}
use Rattle.trace_reading.specs.declared.fault.TraceFault.TheVariants.{BadLine}
use Rattle.trace_reading.specs.declared.why.Why.TheVariants.{DumpWanted}
use Rattle.heap_dump.specs.DumpLines.{Counts, Listed, ends_by}
use Rattle.heap_dump.proofs.HeadLines.{title_there, empty_is, empty_not}
use Rattle.heap_dump.proofs.CountsLine.{counts_title, no_counts, counts_more, counts_spelled, counts_missing, counts_many, no_counts_line}
use Rattle.heap_dump.proofs.Steps.{on_ok, leads_one, stops_here, ends_here, refused_here}
use Rattle.heap_dump.proofs.head.take_counts.Goals as goal

pub returns-in_err-text-clause-err : goal.returns-in_err-text-clause-err
returns-in_err-text-clause-err c =
    let result_fault = err_from_is_err_and c.from_residual.result c.from_residual.ensures.1 in
    let text_fault = c.in_err-text.ensures.err in
    let same_fault : result_fault.0 ≡ BadLine 4 (ends_by text_fault.0) = let result_told = result_fault.2 in let text_told = text_fault.2 in cc in
    let bytes = c.args.bytes.now in
    rw result_fault.1 (inr (λ config same_threads. (4, ends_by text_fault.0, same_fault, stops_here (Counts config) 4 bytes (ends_by text_fault.0) (ends_here (Counts config) bytes text_fault.0 tt text_fault.1))))

pub returns-in_default-clause-err : goal.returns-in_default-clause-err
returns-in_default-clause-err c =
    let bytes = c.args.bytes.now in
    let text = c.in_ok-text.text.now in
    inr (λ config same_threads. (
      4,
      DumpWanted,
      c.dump_wanted.ensures,
      stops_here (Counts config) 4 bytes DumpWanted
          (refused_here (Counts config) bytes text c.in_ok-text.behind.now tt c.in_ok-text.ensures.ok
          (no_counts_line config c.args.threads text same_threads (λ counts size fit spelled. title_there counts_title counts text c.in_default.ensures spelled))),
    ))

pub counts-init : goal.counts-init
counts-init c = no_counts c.in-Some.words.now c.in-Ok.counts c.in-Ok.ensures

pub returns-in_default-count_at-clause-err : goal.returns-in_default-count_at-clause-err
returns-in_default-count_at-clause-err c =
    let bytes = c.args.bytes.now in
    let text = c.in_ok-text.text.now in
    inr (λ config same_threads. (
      4,
      DumpWanted,
      c.dump_wanted-in_default-count_at.ensures,
      stops_here (Counts config) 4 bytes DumpWanted
          (refused_here (Counts config) bytes text c.in_ok-text.behind.now tt c.in_ok-text.ensures.ok
          (no_counts_line config c.args.threads text same_threads
          (counts_missing text c.in-Some.words.now c.counts.rest.now c.counts.counter c.args.threads c.counts.counts c.in-Some.ensures c.counts.invariant c.counts-test.true c.in_default-count_at.ensures))),
    ))

pub counts-preserved : goal.counts-preserved
counts-preserved c =
    counts_more c.in-Some.words.now c.counts.rest.now c.in-Some-count_at.more.now c.counts.counter c.in-Some-count_at.count c.counts.counts c.push.new.self c.counts.invariant c.in-Some-count_at.ensures
    (on_ok c.push.result c.if-is_err.ensures.value c.push.ensures.added)

pub returns-then-is_empty-clause-ok : goal.returns-then-is_empty-clause-ok
returns-then-is_empty-clause-ok c = λ config same_threads.
    let bytes = c.args.bytes.now in
    let text = c.in_ok-text.text.now in
    let counts = c.counts.counts in
    let all_counted : c.counts.counter ≡ c.args.threads = omega (arith, c.counts-test.false, c.counts.auto.counter-end) in
    leads_one (Counts config) (Listed (record { config = config; counts = counts; rows = []; roots = [] })) bytes text c.in_ok-text.behind.now c.in_ok-text.ensures.ok
    (counts, c.counts.invariant.size ∙ all_counted ∙ sym same_threads, c.counts.invariant.fit, counts_spelled text c.in-Some.words.now c.counts.rest.now c.counts.counter counts c.in-Some.ensures c.counts.invariant (empty_is c.counts.rest.now c.if-is_empty.ensures), refl)

pub returns-clause-err : goal.returns-clause-err
returns-clause-err c =
    let bytes = c.args.bytes.now in
    let text = c.in_ok-text.text.now in
    let all_counted : c.counts.counter ≡ c.args.threads = omega (arith, c.counts-test.false, c.counts.auto.counter-end) in
    inr (λ config same_threads. (
      4,
      DumpWanted,
      c.dump_wanted-else-is_empty.ensures,
      stops_here (Counts config) 4 bytes DumpWanted
          (refused_here (Counts config) bytes text c.in_ok-text.behind.now tt c.in_ok-text.ensures.ok
          (no_counts_line config c.args.threads text same_threads
          (counts_many text c.in-Some.words.now c.counts.rest.now c.counts.counter c.args.threads c.counts.counts c.in-Some.ensures c.counts.invariant all_counted (empty_not c.counts.rest.now c.if-is_empty.ensures)))),
    ))
