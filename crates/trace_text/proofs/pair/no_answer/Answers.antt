use Rattle.std.proofs.Common.{inl, inr}
use Rattle.trace_text.proofs.pair.no_answer.Goals.{in-Ok, in-Err}
use Rattle.trace_text.proofs.pair.no_answer.Goals as goal

pub returns-clause-bad_line : goal.returns-clause-bad_line
returns-clause-bad_line c = λ line_number reason same_error.
    elim c.match-trace_of.branch [
      | in-Ok w ↦
          let trace = w.in-Ok.field-0 in
          inr (record { version = trace.version; config = trace.config; scripts = trace.scripts; items = trace.schedule; none = c.requires.none; reads = w.in-Ok.ensures.ok; number = cc; cause = cc })
      | in-Err w ↦ inl (inr (c.requires.none, (w.in-Err.ensures.bad_line line_number reason (cc)).0))
    ]
