use Rattle.std.proofs.Common.{◌≡◌, ℕ, Some, length, take, subst, sym, arith}
use Rattle.std.proofs.lemmas.List.{length-set, take_more_set}
use Rattle.trace_reading.specs.Scanning.{numbers_at}
use Rattle.trace_reading.proofs.LoopReading.{number_goes_on, number_fails, numbers_end}
use Rattle.trace_reading.proofs.scan.numbers_at.Goals as goal

pub loop-i-preserved : goal.loop-i-preserved
loop-i-preserved c =
    let index = c.loop-i.i in
    let number = c.in_ok-number.number in
    let front = take_more_set c.loop-i.numbers index number (omega arith) in (
      omega (arith, length-set {A = ℕ}),
      rw front (number_goes_on (take index c.loop-i.numbers) c.args.limits.now index c.loop-i.rest.now number c.in_ok-number.after.now _ c.loop-i-test.true (sym c.in_ok-number.ensures) c.loop-i.invariant.1),
    )

pub returns-in_err-number : goal.returns-in_err-number
returns-in_err-number c =
    rw c.from_residual.ensures (sym (number_fails (take c.loop-i.i c.loop-i.numbers) c.args.limits.now c.loop-i.i c.loop-i.rest.now _ c.loop-i-test.true (sym c.in_err-number.ensures) c.loop-i.invariant.1))

pub returns : goal.returns
returns c =
    let whole_read = numbers_end (take c.loop-i.i c.loop-i.numbers) c.args.limits.now c.loop-i.i c.loop-i.rest.now _ c.loop-i-test.false c.loop-i.invariant.1 in
    let all_read : c.loop-i.i ≡ length c.args.limits.now = omega arith in
    sym (subst (λ (count : ℕ). numbers_at c.args.limits.now c.args.bytes.now ≡ Some (take count c.loop-i.numbers, c.loop-i.rest.now)) all_read whole_read)
