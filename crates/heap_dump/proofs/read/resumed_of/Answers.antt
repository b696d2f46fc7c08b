use Rattle.std.proofs.Common.{ℕ, ◌≡◌, ◌+◌, ◌≤◌, Err, List, [], inr, length, refl, sym, ap, subst, ◌∙◌, arith}
use Rattle.std.proofs.lemmas.Result.{err_from_is_err_and}
use Rattle.trace_reading.specs.declared.fault.TraceFault.TheVariants.{BadLine}
use Rattle.heap_dump.specs.DumpLines.{Version, Counts, Listed}
use Rattle.heap_dump.specs.Listing.{listed, HasTakenRows}
use Rattle.heap_dump.proofs.Steps.{stops_behind}
use Rattle.heap_dump.proofs.Stopped.{refused}
use Rattle.heap_dump.proofs.Assembled.{text_fault, stop_line, counts_size, shorter, line_shorter, order_now, held_now, some_roots, whole, threads_now, counts_fault, mark_fault, to_counts, to_rows, to_roots, bad_trace, resumes}
use Rattle.heap_dump.proofs.read.resumed_of.Goals as goal

pub returns-in_err-counts-clause-fault : goal.returns-in_err-counts-clause-fault
returns-in_err-counts-clause-fault c =
    let fault = err_from_is_err_and c.from_residual-in_err-counts.result c.from_residual-in_err-counts.ensures.1 in
    let config = c.in_ok-config.config in
    let behind_head = c.in_ok-config.rest.now in
    let error = c.in_err-counts.field-0.0 in
    let is_fault = counts_fault error c.mutators.result behind_head config c.in_err-counts.ensures.err (sym c.mutators.ensures) in
    rw fault.1 (text_fault (Counts config) 4 behind_head fault.0 error fault.2 is_fault)

pub returns-in_err-counts-clause-bad_line : goal.returns-in_err-counts-clause-bad_line
returns-in_err-counts-clause-bad_line c = λ line_number why fault_told.
    let outcome = c.from_residual-in_err-counts.result in
    let fault = err_from_is_err_and outcome c.from_residual-in_err-counts.ensures.1 in
    let config = c.in_ok-config.config in
    let dump_bytes = c.args.bytes.now in
    let behind_head = c.in_ok-config.rest.now in
    let error = c.in_err-counts.field-0.0 in
    let is_fault = counts_fault error c.mutators.result behind_head config c.in_err-counts.ensures.err (sym c.mutators.ensures) in
    refused dump_bytes line_number why c.requires (stops_behind Version (Counts config) 1 4 dump_bytes behind_head 3 line_number why c.in_ok-config.ensures.ok (omega arith) (stop_line outcome (Counts config) 4 behind_head fault.0 error fault.1 fault.2 is_fault line_number why fault_told))

pub take_objects-requires-clause-counts : goal.take_objects-requires-clause-counts
take_objects-requires-clause-counts c =
    let config = c.in_ok-config.config in
    let counts = c.in_ok-counts.counts in
    let size = counts_size c.in_ok-config.rest.now c.in_ok-counts.rest.now config (listed config counts [] []) (c.in_ok-counts.ensures.ok config (sym c.mutators.ensures)) in
    let same_length = ap length c.list.ensures in
    omega (arith, same_length, size.0, config.in_range.most_mutators)

pub returns-in_err-lines-clause-fault : goal.returns-in_err-lines-clause-fault
returns-in_err-lines-clause-fault c =
    let fault = err_from_is_err_and c.from_residual-in_err-lines.result c.from_residual-in_err-lines.ensures.1 in
    let config = c.in_ok-config.config in
    let error = c.in_err-lines.field-0.0 in
    let counts = c.list.result.now in
    rw fault.1 (text_fault (Listed (listed config counts [] [])) 5 c.in_ok-counts.rest.now fault.0 error fault.2 (inr (c.in_err-lines.ensures.err config)))

pub returns-in_err-lines-clause-bad_line : goal.returns-in_err-lines-clause-bad_line
returns-in_err-lines-clause-bad_line c = λ line_number why fault_told.
    let outcome = c.from_residual-in_err-lines.result in
    let fault = err_from_is_err_and outcome c.from_residual-in_err-lines.ensures.1 in
    let config = c.in_ok-config.config in
    let dump_bytes = c.args.bytes.now in
    let behind_head = c.in_ok-config.rest.now in
    let behind_counts = c.in_ok-counts.rest.now in
    let error = c.in_err-lines.field-0.0 in
    let counts = c.in_ok-counts.counts in
    let stage = Listed (listed config counts [] []) in
    let led = to_counts config counts dump_bytes behind_head behind_counts c.in_ok-config.ensures.ok (c.in_ok-counts.ensures.ok config (sym c.mutators.ensures)) in
    let stop = rw c.list.ensures at c.in_err-lines.ensures.err config in
    refused dump_bytes line_number why c.requires (stops_behind Version stage 1 5 dump_bytes behind_counts 4 line_number why led (omega arith) (stop_line outcome stage 5 behind_counts fault.0 error fault.1 fault.2 (inr stop) line_number why fault_told))

pub returns-in_err-rest-clause-fault : goal.returns-in_err-rest-clause-fault
returns-in_err-rest-clause-fault c =
    let fault = err_from_is_err_and c.from_residual-in_err-rest.result c.from_residual-in_err-rest.ensures.1 in
    let config = c.in_ok-config.config in
    let behind_counts = c.in_ok-counts.rest.now in
    let behind_objects = c.in_ok-lines.rest.now in
    let error = c.in_err-rest.field-0.0 in
    let counts = c.list.result.now in
    let lines = c.in_ok-lines.lines in
    let rowed = c.in_ok-lines.ensures.ok in
    let threads = threads_now config counts behind_counts behind_objects lines c.in-Ok.graph c.take_objects.new.graph c.separators.result c.mutators-2.result rowed c.in-Ok.ensures c.mutators-2.ensures in
    let dump = listed config counts rowed.rows [] in
    rw fault.1 (text_fault (Listed dump) (5 + lines) behind_objects fault.0 error fault.2 (inr (c.in_err-rest.ensures.err dump refl threads)))

pub returns-in_err-rest-clause-bad_line : goal.returns-in_err-rest-clause-bad_line
returns-in_err-rest-clause-bad_line c = λ line_number why fault_told.
    let outcome = c.from_residual-in_err-rest.result in
    let fault = err_from_is_err_and outcome c.from_residual-in_err-rest.ensures.1 in
    let config = c.in_ok-config.config in
    let dump_bytes = c.args.bytes.now in
    let behind_head = c.in_ok-config.rest.now in
    let behind_counts = c.in_ok-counts.rest.now in
    let behind_objects = c.in_ok-lines.rest.now in
    let error = c.in_err-rest.field-0.0 in
    let counts = c.in_ok-counts.counts in
    let lines = c.in_ok-lines.lines in
    let opened_text = c.in-Ok.graph in
    let objects_text = c.take_objects.new.graph in
    let rowed = subst (λ (some_counts : List ℕ). HasTakenRows some_counts behind_counts behind_objects lines opened_text objects_text) c.list.ensures c.in_ok-lines.ensures.ok in
    let threads = threads_now config counts behind_counts behind_objects lines opened_text objects_text c.separators.result c.mutators-2.result rowed c.in-Ok.ensures c.mutators-2.ensures in
    let dump = listed config counts rowed.rows [] in
    let led = to_rows config counts dump_bytes behind_head behind_counts behind_objects lines opened_text objects_text c.in_ok-config.ensures.ok (c.in_ok-counts.ensures.ok config (sym c.mutators.ensures)) rowed in
    refused dump_bytes line_number why c.requires
    (stops_behind Version (Listed dump) 1 (5 + lines) dump_bytes behind_objects (4 + lines) line_number why led (omega arith) (stop_line outcome (Listed dump) (5 + lines) behind_objects fault.0 error fault.1 fault.2 (inr (c.in_err-rest.ensures.err dump refl threads)) line_number why fault_told))

pub take_mark-requires-clause-order : goal.take_mark-requires-clause-order
take_mark-requires-clause-order c =
    let config = c.in_ok-config.config in
    let behind_counts = c.in_ok-counts.rest.now in
    let behind_objects = c.in_ok-lines.rest.now in
    let counts = c.in_ok-counts.counts in
    let lines = c.in_ok-lines.lines in
    let opened_text = c.in-Ok.graph in
    let objects_text = c.take_objects.new.graph in
    let rowed = subst (λ (some_counts : List ℕ). HasTakenRows some_counts behind_counts behind_objects lines opened_text objects_text) c.list.ensures c.in_ok-lines.ensures.ok in
    let threads = threads_now config counts behind_counts behind_objects lines opened_text objects_text c.separators.result c.mutators-2.result rowed c.in-Ok.ensures c.mutators-2.ensures in
    let rooted = c.in_ok-rest.ensures.ok in
    order_now config counts c.args.bytes.now c.in_ok-config.rest.now behind_counts behind_objects c.in_ok-rest.rest.now lines opened_text objects_text c.take_all_roots.new.graph rooted.0
    c.in_ok-config.ensures.ok (c.in_ok-counts.ensures.ok config (sym c.mutators.ensures)) rowed rooted.1 threads (omega (arith, threads, config.in_range.most_mutators)) (omega (arith, threads, config.in_range.least_mutators))

pub returns-in_err-rest-2-clause-fault : goal.returns-in_err-rest-2-clause-fault
returns-in_err-rest-2-clause-fault c =
    let fault = err_from_is_err_and c.from_residual-in_err-rest-2.result c.from_residual-in_err-rest-2.ensures.1 in
    let config = c.in_ok-config.config in
    let dump_bytes = c.args.bytes.now in
    let behind_head = c.in_ok-config.rest.now in
    let behind_counts = c.in_ok-counts.rest.now in
    let behind_objects = c.in_ok-lines.rest.now in
    let behind_roots = c.in_ok-rest.rest.now in
    let error = c.in_err-rest-2.field-0.0 in
    let counts = c.in_ok-counts.counts in
    let lines = c.in_ok-lines.lines in
    let opened_text = c.in-Ok.graph in
    let objects_text = c.take_objects.new.graph in
    let rooted_text = c.take_all_roots.new.graph in
    let head = c.in_ok-config.ensures.ok in
    let counted = c.in_ok-counts.ensures.ok config (sym c.mutators.ensures) in
    let rowed = subst (λ (some_counts : List ℕ). HasTakenRows some_counts behind_counts behind_objects lines opened_text objects_text) c.list.ensures c.in_ok-lines.ensures.ok in
    let threads = threads_now config counts behind_counts behind_objects lines opened_text objects_text c.separators.result c.mutators-2.result rowed c.in-Ok.ensures c.mutators-2.ensures in
    let few_roots : length objects_text.roots ≤ 8 = omega (arith, threads, config.in_range.most_mutators) in
    let roots_there : 1 ≤ length objects_text.roots = omega (arith, threads, config.in_range.least_mutators) in
    let rooted = c.in_ok-rest.ensures.ok in
    let dump = whole config counts dump_bytes behind_head behind_counts behind_objects behind_roots lines opened_text objects_text rooted_text rooted.0 head counted rowed rooted.1 threads few_roots roots_there in
    let line_number = 5 + lines + c.mutators-3.result in
    let is_fault = mark_fault error line_number behind_roots rooted_text dump c.in_err-rest-2.ensures.err (held_now config counts dump_bytes behind_head behind_counts behind_objects behind_roots lines opened_text objects_text rooted_text rooted.0 head counted rowed rooted.1 threads few_roots roots_there)
    (some_roots config counts dump_bytes behind_head behind_counts behind_objects behind_roots lines opened_text objects_text rooted_text rooted.0 head counted rowed rooted.1 threads few_roots roots_there) in
    rw fault.1 (text_fault (Listed dump) line_number behind_roots fault.0 error fault.2 is_fault)

pub returns-in_err-rest-2-clause-bad_line : goal.returns-in_err-rest-2-clause-bad_line
returns-in_err-rest-2-clause-bad_line c = λ bad_line why fault_told.
    let outcome = c.from_residual-in_err-rest-2.result in
    let fault = err_from_is_err_and outcome c.from_residual-in_err-rest-2.ensures.1 in
    let config = c.in_ok-config.config in
    let dump_bytes = c.args.bytes.now in
    let behind_head = c.in_ok-config.rest.now in
    let behind_counts = c.in_ok-counts.rest.now in
    let behind_objects = c.in_ok-lines.rest.now in
    let behind_roots = c.in_ok-rest.rest.now in
    let error = c.in_err-rest-2.field-0.0 in
    let counts = c.in_ok-counts.counts in
    let lines = c.in_ok-lines.lines in
    let opened_text = c.in-Ok.graph in
    let objects_text = c.take_objects.new.graph in
    let rooted_text = c.take_all_roots.new.graph in
    let head = c.in_ok-config.ensures.ok in
    let counted = c.in_ok-counts.ensures.ok config (sym c.mutators.ensures) in
    let rowed = subst (λ (some_counts : List ℕ). HasTakenRows some_counts behind_counts behind_objects lines opened_text objects_text) c.list.ensures c.in_ok-lines.ensures.ok in
    let threads = threads_now config counts behind_counts behind_objects lines opened_text objects_text c.separators.result c.mutators-2.result rowed c.in-Ok.ensures c.mutators-2.ensures in
    let few_roots : length objects_text.roots ≤ 8 = omega (arith, threads, config.in_range.most_mutators) in
    let roots_there : 1 ≤ length objects_text.roots = omega (arith, threads, config.in_range.least_mutators) in
    let rooted = c.in_ok-rest.ensures.ok in
    let dump = whole config counts dump_bytes behind_head behind_counts behind_objects behind_roots lines opened_text objects_text rooted_text rooted.0 head counted rowed rooted.1 threads few_roots roots_there in
    let line_number = 5 + lines + c.mutators-3.result in
    let is_fault = mark_fault error line_number behind_roots rooted_text dump c.in_err-rest-2.ensures.err (held_now config counts dump_bytes behind_head behind_counts behind_objects behind_roots lines opened_text objects_text rooted_text rooted.0 head counted rowed rooted.1 threads few_roots roots_there)
    (some_roots config counts dump_bytes behind_head behind_counts behind_objects behind_roots lines opened_text objects_text rooted_text rooted.0 head counted rowed rooted.1 threads few_roots roots_there) in
    let led = to_roots config counts dump_bytes behind_head behind_counts behind_objects behind_roots lines opened_text objects_text rooted_text rooted.0 head counted rowed rooted.1 threads few_roots roots_there in
    let number : line_number ≡ 1 + (4 + (lines + length objects_text.roots)) = omega (arith, threads, c.mutators-3.ensures) in
    refused dump_bytes bad_line why c.requires (stops_behind Version (Listed dump) 1 line_number dump_bytes behind_roots (4 + (lines + length objects_text.roots)) bad_line why led number (stop_line outcome (Listed dump) line_number behind_roots fault.0 error fault.1 fault.2 is_fault bad_line why fault_told))

pub trace_behind-requires : goal.trace_behind-requires
trace_behind-requires c =
    let config = c.in_ok-config.config in
    let dump_bytes = c.args.bytes.now in
    let behind_head = c.in_ok-config.rest.now in
    let behind_counts = c.in_ok-counts.rest.now in
    let behind_objects = c.in_ok-lines.rest.now in
    let behind_roots = c.in_ok-rest.rest.now in
    let counts = c.in_ok-counts.counts in
    let lines = c.in_ok-lines.lines in
    let opened_text = c.in-Ok.graph in
    let objects_text = c.take_objects.new.graph in
    let head = c.in_ok-config.ensures.ok in
    let counted = c.in_ok-counts.ensures.ok config (sym c.mutators.ensures) in
    let rowed = c.in_ok-lines.ensures.ok in
    let first_shorter = shorter Version (Counts config) dump_bytes behind_head 3 head in
    let second_shorter = shorter (Counts config) (Listed (listed config counts [] [])) behind_head behind_counts 1 counted in
    let rooted = c.in_ok-rest-2.ensures.ok in
    let last_shorter = line_shorter behind_roots rooted.0 c.in_ok-rest-2.rest.now rooted.1 in
    omega (arith, first_shorter, second_shorter, rowed.shorter, c.in_ok-rest.ensures.ok.1.shorter, last_shorter, c.mutators-3.ensures, config.in_range.most_mutators, c.requires)

pub returns-in_err-trace-clause-bad_line : goal.returns-in_err-trace-clause-bad_line
returns-in_err-trace-clause-bad_line c = λ bad_line why fault_told.
    let fault = err_from_is_err_and c.from_residual-in_err-trace.result c.from_residual-in_err-trace.ensures.1 in
    let config = c.in_ok-config.config in
    let dump_bytes = c.args.bytes.now in
    let behind_head = c.in_ok-config.rest.now in
    let behind_counts = c.in_ok-counts.rest.now in
    let behind_objects = c.in_ok-lines.rest.now in
    let behind_roots = c.in_ok-rest.rest.now in
    let counts = c.in_ok-counts.counts in
    let lines = c.in_ok-lines.lines in
    let opened_text = c.in-Ok.graph in
    let objects_text = c.take_objects.new.graph in
    let rooted_text = c.take_all_roots.new.graph in
    let head = c.in_ok-config.ensures.ok in
    let counted = c.in_ok-counts.ensures.ok config (sym c.mutators.ensures) in
    let rowed = subst (λ (some_counts : List ℕ). HasTakenRows some_counts behind_counts behind_objects lines opened_text objects_text) c.list.ensures c.in_ok-lines.ensures.ok in
    let threads = threads_now config counts behind_counts behind_objects lines opened_text objects_text c.separators.result c.mutators-2.result rowed c.in-Ok.ensures c.mutators-2.ensures in
    let few_roots : length objects_text.roots ≤ 8 = omega (arith, threads, config.in_range.most_mutators) in
    let roots_there : 1 ≤ length objects_text.roots = omega (arith, threads, config.in_range.least_mutators) in
    let rooted = c.in_ok-rest.ensures.ok in
    let objects_marked = c.in_ok-rest-2.ensures.ok in
    let line_number = 5 + lines + c.mutators-3.result + 1 in
    let same_fault : c.in_err-trace.field-0.0 ≡ BadLine bad_line why = let x = fault.2 in let y = fault.1 in cc in
    let stops = c.trace_behind.ensures.bad_line bad_line why (c.in_err-trace.was ∙ ap Err same_fault) in
    let number : line_number ≡ 5 + lines + length objects_text.roots + 1 = omega (arith, threads, c.mutators-3.ensures) in
    bad_trace config counts dump_bytes behind_head behind_counts behind_objects behind_roots lines opened_text objects_text rooted_text rooted.0 head counted rowed rooted.1 threads few_roots roots_there c.in_ok-rest-2.rest.now objects_marked.0 objects_marked.1 objects_marked.2 objects_marked.3 line_number bad_line why number c.requires stops

pub returns-clause-ok : goal.returns-clause-ok
returns-clause-ok c =
    let config = c.in_ok-config.config in
    let dump_bytes = c.args.bytes.now in
    let behind_head = c.in_ok-config.rest.now in
    let behind_counts = c.in_ok-counts.rest.now in
    let behind_objects = c.in_ok-lines.rest.now in
    let behind_roots = c.in_ok-rest.rest.now in
    let counts = c.in_ok-counts.counts in
    let lines = c.in_ok-lines.lines in
    let opened_text = c.in-Ok.graph in
    let objects_text = c.take_objects.new.graph in
    let rooted_text = c.take_all_roots.new.graph in
    let head = c.in_ok-config.ensures.ok in
    let counted = c.in_ok-counts.ensures.ok config (sym c.mutators.ensures) in
    let rowed = subst (λ (some_counts : List ℕ). HasTakenRows some_counts behind_counts behind_objects lines opened_text objects_text) c.list.ensures c.in_ok-lines.ensures.ok in
    let threads = threads_now config counts behind_counts behind_objects lines opened_text objects_text c.separators.result c.mutators-2.result rowed c.in-Ok.ensures c.mutators-2.ensures in
    let few_roots : length objects_text.roots ≤ 8 = omega (arith, threads, config.in_range.most_mutators) in
    let roots_there : 1 ≤ length objects_text.roots = omega (arith, threads, config.in_range.least_mutators) in
    let rooted = c.in_ok-rest.ensures.ok in
    let objects_marked = c.in_ok-rest-2.ensures.ok in
    resumes config counts dump_bytes behind_head behind_counts behind_objects behind_roots lines opened_text objects_text rooted_text rooted.0 head counted rowed rooted.1 threads few_roots roots_there c.in_ok-rest-2.rest.now objects_marked.0 objects_marked.1 objects_marked.2 objects_marked.3 c.in_ok-trace.trace.scripts c.in_ok-trace.trace.schedule c.requires c.in_ok-trace.ensures.ok
