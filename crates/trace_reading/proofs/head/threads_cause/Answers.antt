use Rattle.std.proofs.Common.{sym, ◌∙◌}
use Rattle.trace_reading.specs.Refused.{Threads}
use Rattle.trace_reading.proofs.Lines.{whole_line, cut_line, threads_words}
use Rattle.trace_reading.proofs.head.threads_cause.Goals as goal

pub returns-in-Some : goal.returns-in-Some
returns-in-Some c = λ version regions region_words reserve. c.title_cause.ensures ∙ sym (whole_line (Threads version regions region_words reserve) c.args.bytes.now _ c.in-Some.field-0-1.now c.in-Some.ensures ∙ threads_words version regions region_words reserve _)

pub returns-in-None : goal.returns-in-None
returns-in-None c = λ version regions region_words reserve. let line_cut = c.in-None.ensures in sym (cut_line (Threads version regions region_words reserve) c.args.bytes.now line_cut.0 line_cut.1)
