use Rattle.std.proofs.Common.{◌≡◌, None, sym, subst}
use Rattle.trace_reading.specs.Causes.{parts}
use Rattle.trace_reading.specs.Refused.{body_stage, words_cause}
use Rattle.trace_text.specs.LinesTaken.{Taken}
use Rattle.trace_text.proofs.LineKinds.{is_command, is_items}
use Rattle.trace_text.proofs.lines.TraceLines.line.Goals as goal

pub take_items-taken-requires : goal.take_items-taken-requires
take_items-taken-requires c =
    let lines_now = c.args.self.now in
    let inside : words_cause (body_stage c.self.inside.version c.self.inside.config c.self.inside.scheduled) (parts 32 c.args.line.now) ≡ None = let cause_told = c.text_cause.ensures in let default_is = c.in_default.is in cc in
    let no_cause = subst (λ (taken : Taken). words_cause (body_stage taken.version taken.config taken.scheduled) (parts 32 c.args.line.now) ≡ None) c.self.view_is inside in
    record { line = is_items lines_now.version lines_now.config lines_now.scheduled c.args.line.now c.in-Some-text_at.field-0.now no_cause (sym c.in-Some-text_at.ensures) }

pub take_command-taken-requires-clause-before : goal.take_command-taken-requires-clause-before
take_command-taken-requires-clause-before c =
    let lines_now = c.args.self.now in
    let inside : words_cause (body_stage c.self.inside.version c.self.inside.config c.self.inside.scheduled) (parts 32 c.args.line.now) ≡ None = let cause_told = c.text_cause.ensures in let default_is = c.in_default.is in cc in
    let no_cause = subst (λ (taken : Taken). words_cause (body_stage taken.version taken.config taken.scheduled) (parts 32 c.args.line.now) ≡ None) c.self.view_is inside in
    (is_command lines_now.version lines_now.config lines_now.scheduled c.args.line.now no_cause (sym c.in-None.ensures)).0

pub take_command-taken-requires-clause-line : goal.take_command-taken-requires-clause-line
take_command-taken-requires-clause-line c =
    let lines_now = c.args.self.now in
    let inside : words_cause (body_stage c.self.inside.version c.self.inside.config c.self.inside.scheduled) (parts 32 c.args.line.now) ≡ None = let cause_told = c.text_cause.ensures in let default_is = c.in_default.is in cc in
    let no_cause = subst (λ (taken : Taken). words_cause (body_stage taken.version taken.config taken.scheduled) (parts 32 c.args.line.now) ≡ None) c.self.view_is inside in
    (is_command lines_now.version lines_now.config lines_now.scheduled c.args.line.now no_cause (sym c.in-None.ensures)).1
