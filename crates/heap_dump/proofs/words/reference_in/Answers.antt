use Rattle.std.proofs.Common.{sym, ap, inl, inr, Some}
use Rattle.std.specs.Str.Parse.{digits_value}
use Rattle.trace_reading.proofs.Words.{number_digits}
use Rattle.heap_dump.proofs.References.{no_dot, not_numbers, is_name}
use Rattle.heap_dump.proofs.words.reference_in.Goals as goal
use Rattle.heap_dump.proofs.words.reference_in.Goals.{else-is_number-via-then-is_number+else-is_number-2, else-is_number-via-else-is_number}

pub returns-in_err-count : goal.returns-in_err-count
returns-in_err-count c =
    rw c.from_residual.ensures
    (no_dot c.args.word.now c.cut.result.0.now c.cut.result.1.now c.cut.ensures.parts c.in_err-count.ensures.cases (rw (← c.as_slice.ensures) c.if-eq.ensures))

pub name_of-requires-clause-thread : goal.name_of-requires-clause-thread
name_of-requires-clause-thread c = number_digits c.cut.result.0.now (sym c.if-is_number.ensures)

pub name_of-requires-clause-count : goal.name_of-requires-clause-count
name_of-requires-clause-count c = number_digits c.in_ok-count.count.now (sym c.if-is_number-2.ensures)

pub returns-then-is_number-2 : goal.returns-then-is_number-2
returns-then-is_number-2 c = (
  Some (record { thread = digits_value 10 c.cut.result.0.now; count = digits_value 10 c.in_ok-count.count.now }),
  is_name c.args.word.now c.cut.result.0.now c.cut.result.1.now c.in_ok-count.count.now _ c.cut.ensures.parts c.in_ok-count.ensures.cases.0 (sym c.if-is_number.ensures) (sym c.if-is_number-2.ensures),
  ap Some c.name_of.ensures,
)

pub returns-else-is_number : goal.returns-else-is_number
returns-else-is_number c =
    let refused = not_numbers c.args.word.now c.cut.result.0.now c.cut.result.1.now c.in_ok-count.count.now _ c.cut.ensures.parts c.in_ok-count.ensures.cases.0 (rw (← c.as_slice.ensures) c.if-eq.ensures) in
    elim c.else-is_number.branch [
      | else-is_number-via-then-is_number+else-is_number-2 w ↦ refused (inr (sym w.if-is_number-2.ensures))
      | else-is_number-via-else-is_number w ↦ refused (inl (sym w.if-is_number.ensures))
    ]
