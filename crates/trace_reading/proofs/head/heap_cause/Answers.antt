use Rattle.std.proofs.Common.{sym, ◌∙◌}
use Rattle.trace_reading.specs.Refused.{Heap}
use Rattle.trace_reading.proofs.Lines.{whole_line, cut_line, heap_words, same_heap}
use Rattle.trace_reading.proofs.head.heap_cause.Goals as goal

pub returns-in-Some : goal.returns-in-Some
returns-in-Some c = λ version.
    c.title_cause.ensures ∙ same_heap _ c.most_reserved.result c.most_reserved.ensures ∙ sym (whole_line (Heap version) c.args.bytes.now _ c.in-Some.field-0-1.now c.in-Some.ensures ∙ heap_words version _)

pub returns-in-None : goal.returns-in-None
returns-in-None c = λ version. let line_cut = c.in-None.ensures in sym (cut_line (Heap version) c.args.bytes.now line_cut.0 line_cut.1)
