use Rattle.std.proofs.Common.{refl, sym, ◌∙◌}
use Rattle.trace_reading.specs.Refused.{Version, Heap, Threads}
use Rattle.trace_reading.proofs.Begins.{begun_none, begun_stops, version_read, heap_read, threads_read, head_read}
use Rattle.trace_reading.proofs.head.head_refusal.Goals as goal

pub returns-in-Some : goal.returns-in-Some
returns-in-Some c = begun_stops c.args.bytes.now c.args.bytes.now 0 1 Version c.in-Some.why (begun_none c.args.bytes.now) refl (sym c.version_cause.ensures ∙ c.in-Some.is)

pub returns-in-Some-heap_cause : goal.returns-in-Some-heap_cause
returns-in-Some-heap_cause c =
    let version_part = version_read c.args.bytes.now c.behind_line-heap.result.now c.behind_line-heap.ensures (sym c.version_cause.ensures ∙ c.in_default.is) in
    begun_stops c.args.bytes.now c.behind_line-heap.result.now 1 2 (Heap version_part.0) c.in-Some-heap_cause.why version_part.2 refl (sym (c.heap_cause.ensures version_part.0) ∙ c.in-Some-heap_cause.is)

pub returns-in_err-why : goal.returns-in_err-why
returns-in_err-why c =
    let bytes = c.args.bytes.now in
    let version_part = version_read bytes c.behind_line-heap.result.now c.behind_line-heap.ensures (sym c.version_cause.ensures ∙ c.in_default.is) in
    let heap_part = heap_read version_part.0 bytes c.behind_line-heap.result.now c.behind_line.result.now version_part.2 c.behind_line.ensures (sym (c.heap_cause.ensures version_part.0) ∙ c.in_default-heap_cause.is) in
    let heap_numbers = heap_part.0 in
    let threads_part = threads_read version_part.0 heap_numbers c.behind_line.result.now heap_part.1 (sym (c.threads_cause.ensures version_part.0 heap_numbers.regions heap_numbers.region_words heap_numbers.reserve) ∙ c.in_err-why.was) in
    rw c.from_residual.ensures (version_part.0, threads_part.0, threads_part.2, version_part.1, threads_part.1, head_read bytes c.behind_line-heap.result.now c.behind_line.result.now threads_part.2 version_part.0 heap_numbers threads_part.0 version_part.3 heap_part.3 threads_part.3 threads_part.4)

pub returns : goal.returns
returns c =
    let bytes = c.args.bytes.now in
    let version_part = version_read bytes c.behind_line-heap.result.now c.behind_line-heap.ensures (sym c.version_cause.ensures ∙ c.in_default.is) in
    let heap_part = heap_read version_part.0 bytes c.behind_line-heap.result.now c.behind_line.result.now version_part.2 c.behind_line.ensures (sym (c.heap_cause.ensures version_part.0) ∙ c.in_default-heap_cause.is) in
    let heap_numbers = heap_part.0 in
    begun_stops bytes c.behind_line.result.now 2 3 (Threads version_part.0 heap_numbers.regions heap_numbers.region_words heap_numbers.reserve) c.in_ok-why.why heap_part.2 refl (sym (c.threads_cause.ensures version_part.0 heap_numbers.regions heap_numbers.region_words heap_numbers.reserve) ∙ c.in_ok-why.was)
