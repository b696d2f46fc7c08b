use Rattle.std.proofs.Common.{◌≡◌, Err, ap, subst, ◌∙◌}
use Rattle.std.proofs.lemmas.Result.{err_from_is_err_and}
use Rattle.trace_reading.specs.Causes.{parts}
use Rattle.trace_reading.specs.declared.why.Why.TheVariants.{EndOfLine}
use Rattle.find_play.specs.declared.fault.TestFault.TheVariants.{BadLine}
use Rattle.find_play.specs.declared.fault.TestWhy.{TestWhy}
use Rattle.find_play.specs.declared.fault.TestWhy.TheVariants.{Trace}
use Rattle.find_play.specs.Told.{told_in}
use Rattle.find_play.specs.Tests.{LineStops}
use Rattle.find_play.proofs.Taken.{no_end, at_fault, line_shorter, same_fault}
use Rattle.find_play.proofs.read.take_line.Goals as goal

pub returns-in_err-take_text-in-Some-clause-bad_line : goal.returns-in_err-take_text-in-Some-clause-bad_line
returns-in_err-take_text-in-Some-clause-bad_line c = λ line why bad_line.
    let given_error = err_from_is_err_and c.from_residual.result c.from_residual.ensures.1 in
    let same_error : c.in_err-take_text-in-Some.field-0.0 ≡ BadLine line why = let x = given_error.2 in let y = given_error.1 in cc in
    let stops = c.take_text.ensures.bad_line line why (c.in_err-take_text-in-Some.was ∙ ap Err same_error) in
    (stops.0, at_fault (told_in c.args.draft.now) c.args.bytes.now c.in-Some.text.now c.in-Some.rest.now why c.in-Some.ensures stops.1)

pub returns-in_ok-take_text-in-Some-clause-shorter : goal.returns-in_ok-take_text-in-Some-clause-shorter
returns-in_ok-take_text-in-Some-clause-shorter c = line_shorter c.args.bytes.now c.in-Some.text.now c.in-Some.rest.now c.in-Some.ensures

pub returns-in-None-clause-bad_line : goal.returns-in-None-clause-bad_line
returns-in-None-clause-bad_line c = λ line why bad_line.
    let fault_parts = same_fault c.args.line (Trace EndOfLine) line why bad_line in
    let ensured = c.in-None.ensures in
    (fault_parts.0, subst (λ (said : TestWhy). LineStops (told_in c.args.draft.now) (parts 10 c.args.bytes.now) said) fault_parts.1 (no_end (told_in c.args.draft.now) c.args.bytes.now ensured.0 ensured.1 c.requires))
