use Rattle.std.proofs.Common.{◌∷◌, [], ◌++◌, refl}
use Rattle.std.proofs.lemmas.Bool.{false≢true}
use Rattle.std.proofs.lemmas.Result.{err_from_is_err_and}
use Rattle.trace_reading.specs.Spelling.{IsItem, spaced_item}
use Rattle.trace_reading.specs.Front.{IsLineEnd}
use Rattle.trace_reading.proofs.Pieces.{one_taken}
use Rattle.trace_reading.proofs.ScheduleLines.{items_are_pieces, behind_end, line_taken, no_items, item_more}
use Rattle.trace_reading.proofs.schedule_lines.take_items.Goals as goal

pub returns-in_err-rest-clause-refused : goal.returns-in_err-rest-clause-refused
returns-in_err-rest-clause-refused c = λ was_refused.
    let error_found = err_from_is_err_and c.from_residual.result c.from_residual.ensures.1 in
    no_items c.args.config.now c.args.bytes.now c.items.rest.now c.items.invariant.0 c.items.invariant.1 (λ at_end. false≢true (c.items-test.ensures.1 at_end)) (c.in_err-rest.ensures.refused (let error_is = error_found.1 in let fault_is = error_found.2 in cc))

pub items-preserved : goal.items-preserved
items-preserved c =
    let took = c.in_ok-rest.ensures.ok in
    let items = c.items.invariant.0 in (
      items ++ took.0 ∷ [],
      one_taken spaced_item (IsItem c.args.config.now) IsLineEnd c.args.bytes.now c.items.rest.now c.in_ok-rest.rest.now items took.0 items_are_pieces c.items.invariant.1 (λ at_end. false≢true (c.items-test.ensures.1 at_end)) took.1,
      item_more c.args.schedule.now c.items.schedule c.take_item.new.schedule items took.0 c.items.invariant.2 took.2,
    )

pub returns-clause-ok : goal.returns-clause-ok
returns-clause-ok c =
    let items = c.items.invariant.0 in
    (items, line_taken c.args.config.now c.args.bytes.now c.items.rest.now _ items c.items.invariant.1 (behind_end c.items.rest.now (c.items-test.ensures.0 refl)), c.items.invariant.2)
