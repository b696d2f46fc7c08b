use Rattle.std.proofs.Common.{◌≡◌, Err, ap, ◌∙◌, arith}
use Rattle.std.proofs.lemmas.Result.{err_from_is_err_and}
use Rattle.find_play.specs.declared.fault.TestFault.TheVariants.{BadLine}
use Rattle.find_play.specs.Told.{told_in}
use Rattle.find_play.proofs.Taken.{line_told, stops_behind}
use Rattle.find_play.proofs.read.take_lines.Goals as goal

pub returns-in_err-rest-clause-bad_line : goal.returns-in_err-rest-clause-bad_line
returns-in_err-rest-clause-bad_line c = λ line why bad_line.
    let given_error = err_from_is_err_and c.from_residual.result c.from_residual.ensures.1 in
    let same_fault : c.in_err-rest.field-0.0 ≡ BadLine line why = let x = given_error.2 in let y = given_error.1 in cc in
    let stops = c.take_line.ensures.bad_line line why (c.in_err-rest.was ∙ ap Err same_fault) in
    stops_behind (told_in c.args.draft.now) (told_in c.lines.draft) 4 c.args.bytes.now c.lines.rest.now c.lines.line line why c.lines.invariant.taken stops.0 stops.1

pub lines-preserved : goal.lines-preserved
lines-preserved c = record {
  taken = line_told (told_in c.args.draft.now) (told_in c.lines.draft) (told_in c.take_line.new.draft) 4 c.args.bytes.now c.lines.rest.now c.in_ok-rest.rest.now c.lines.line c.lines.invariant.taken c.in_ok-rest.ensures.ok;
  few = omega (arith, c.in_ok-rest.ensures.shorter, c.lines.invariant.few);
}
