use Rattle.std.proofs.Common.{◌≡◌, refl, arith}
use Rattle.std.proofs.lemmas.Result.{err_from_is_err_and}
use Rattle.trace_reading.specs.declared.fault.TraceFault.TheVariants.{BadLine}
use Rattle.trace_reading.specs.declared.why.Why.TheVariants.{DumpWanted}
use Rattle.heap_dump.specs.DumpLines.{Version, Heap, Threads, Counts, ends_by}
use Rattle.heap_dump.proofs.Steps.{leads_one, leads_both, stops_here, stops_behind, ends_here, refused_here}
use Rattle.heap_dump.proofs.head.take_config.Goals as goal

pub returns-in_err-text-clause-err : goal.returns-in_err-text-clause-err
returns-in_err-text-clause-err c =
    let result_fault = err_from_is_err_and c.from_residual-in_err-text.result c.from_residual-in_err-text.ensures.1 in
    let text_fault = c.in_err-text.ensures.err in
    let same_fault : result_fault.0 ≡ BadLine 2 (ends_by text_fault.0) = let result_told = result_fault.2 in let text_told = text_fault.2 in cc in
    let rest_text = c.in_ok-rest.rest.now in
    rw result_fault.1 (2, ends_by text_fault.0, same_fault, stops_behind Version Heap 1 2 c.args.bytes.now rest_text 1 2 (ends_by text_fault.0) c.in_ok-rest.ensures.ok (omega arith) (stops_here Heap 2 rest_text (ends_by text_fault.0) (ends_here Heap rest_text text_fault.0 tt text_fault.1)))

pub returns-in_default-clause-err : goal.returns-in_default-clause-err
returns-in_default-clause-err c =
    let rest_text = c.in_ok-rest.rest.now in (
      2,
      DumpWanted,
      c.dump_wanted.ensures,
      stops_behind Version Heap 1 2 c.args.bytes.now rest_text 1 2 DumpWanted c.in_ok-rest.ensures.ok (omega arith)
          (stops_here Heap 2 rest_text DumpWanted (refused_here Heap rest_text c.in_ok-text.text.now c.in_ok-text.rest.now tt c.in_ok-text.ensures.ok (λ next follows. c.in_default.ensures follows.0 follows.1 follows.2))),
    )

pub returns-in_err-text-2-clause-err : goal.returns-in_err-text-2-clause-err
returns-in_err-text-2-clause-err c =
    let result_fault = err_from_is_err_and c.from_residual-in_err-text-2.result c.from_residual-in_err-text-2.ensures.1 in
    let text_fault = c.in_err-text-2.ensures.err in
    let same_fault : result_fault.0 ≡ BadLine 3 (ends_by text_fault.0) = let result_told = result_fault.2 in let text_told = text_fault.2 in cc in
    let first_text = c.in_ok-rest.rest.now in
    let rest_text = c.in_ok-text.rest.now in
    let stage = Threads c.in-Some.heap in
    let led = leads_both Version Heap stage c.args.bytes.now first_text rest_text 1 1 c.in_ok-rest.ensures.ok (leads_one Heap stage first_text c.in_ok-text.text.now rest_text c.in_ok-text.ensures.ok (c.in-Some.heap, c.in-Some.ensures.0, c.in-Some.ensures.1, refl)) in
    rw result_fault.1 (3, ends_by text_fault.0, same_fault, stops_behind Version stage 1 3 c.args.bytes.now rest_text 2 3 (ends_by text_fault.0) led (omega arith) (stops_here stage 3 rest_text (ends_by text_fault.0) (ends_here stage rest_text text_fault.0 tt text_fault.1)))

pub returns-in-Some-threads_in-clause-ok : goal.returns-in-Some-threads_in-clause-ok
returns-in-Some-threads_in-clause-ok c =
    let first_text = c.in_ok-rest.rest.now in
    let rest_text = c.in_ok-text.rest.now in
    let stage = Threads c.in-Some.heap in
    let counts_stage = Counts c.in-Some-threads_in.config in
    let led = leads_both Version Heap stage c.args.bytes.now first_text rest_text 1 1 c.in_ok-rest.ensures.ok (leads_one Heap stage first_text c.in_ok-text.text.now rest_text c.in_ok-text.ensures.ok (c.in-Some.heap, c.in-Some.ensures.0, c.in-Some.ensures.1, refl)) in
    leads_both Version stage counts_stage c.args.bytes.now rest_text c.in_ok-text-2.rest.now 2 1 led
    (leads_one stage counts_stage rest_text c.in_ok-text-2.text.now c.in_ok-text-2.rest.now c.in_ok-text-2.ensures.ok (c.in-Some-threads_in.config, c.in-Some-threads_in.ensures.0, c.in-Some-threads_in.ensures.1, refl))

pub returns-in-None-clause-err : goal.returns-in-None-clause-err
returns-in-None-clause-err c =
    let first_text = c.in_ok-rest.rest.now in
    let rest_text = c.in_ok-text.rest.now in
    let stage = Threads c.in-Some.heap in
    let led = leads_both Version Heap stage c.args.bytes.now first_text rest_text 1 1 c.in_ok-rest.ensures.ok (leads_one Heap stage first_text c.in_ok-text.text.now rest_text c.in_ok-text.ensures.ok (c.in-Some.heap, c.in-Some.ensures.0, c.in-Some.ensures.1, refl)) in (
      3,
      DumpWanted,
      c.dump_wanted-in-None.ensures,
      stops_behind Version stage 1 3 c.args.bytes.now rest_text 2 3 DumpWanted led (omega arith)
          (stops_here stage 3 rest_text DumpWanted (refused_here stage rest_text c.in_ok-text-2.text.now c.in_ok-text-2.rest.now tt c.in_ok-text-2.ensures.ok (λ next follows. c.in-None.ensures follows.0 follows.1 follows.2))),
    )

pub threads_in-requires : goal.threads_in-requires
threads_in-requires c = c.in-Some.ensures.0
