use Rattle.std.proofs.Common.{sym, ◌∙◌}
use Rattle.trace_reading.specs.Refused.{Version}
use Rattle.trace_reading.proofs.Lines.{whole_line, cut_line, version_words}
use Rattle.trace_reading.proofs.head.version_cause.Goals as goal

pub returns-in-Some : goal.returns-in-Some
returns-in-Some c = c.title_cause.ensures ∙ sym (whole_line Version c.args.bytes.now _ c.in-Some.field-0-1.now c.in-Some.ensures ∙ version_words _)

pub returns-in-None : goal.returns-in-None
returns-in-None c = let line_cut = c.in-None.ensures in sym (cut_line Version c.args.bytes.now line_cut.0 line_cut.1)
