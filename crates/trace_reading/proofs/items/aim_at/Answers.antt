use Rattle.std.proofs.Common.{◌∷◌, ap, ℕ, ◌∙◌, lit<, arith}
use Rattle.trace_reading.proofs.ReadItems.{number_read, no_number, steps_read, replies_read, no_steps, no_replies}
use Rattle.trace_reading.proofs.items.aim_at.Goals as goal

pub returns-in_err-count-in-58 : goal.returns-in_err-count-in-58
returns-in_err-count-in-58 c =
    let behind_mark = c.in_ok-mark.rest.now in
    rw c.from_residual-in_err-count-in-58.ensures
    (no_steps c.args.config.now c.args.number c.args.bytes.now behind_mark (c.in_ok-mark.ensures.cases.0 ∙ ap (λ (byte : ℕ). byte ∷ behind_mark) c.in-58.is) (no_number 4000000000 behind_mark (lit< tt) c.in_err-count-in-58.ensures))

pub returns-in_ok-count-in-58 : goal.returns-in_ok-count-in-58
returns-in_ok-count-in-58 c =
    let behind_mark = c.in_ok-mark.rest.now in
    steps_read c.args.config.now c.args.number c.args.bytes.now behind_mark c.in_ok-count-in-58.count c.in_ok-count-in-58.rest.now c.requires (c.in_ok-mark.ensures.cases.0 ∙ ap (λ (byte : ℕ). byte ∷ behind_mark) c.in-58.is)
    (number_read 4000000000 behind_mark c.in_ok-count-in-58.count c.in_ok-count-in-58.rest.now (lit< tt) c.in_ok-count-in-58.ensures)

pub returns-in_err-count-in-61 : goal.returns-in_err-count-in-61
returns-in_err-count-in-61 c =
    let behind_mark = c.in_ok-mark.rest.now in
    rw c.from_residual-in_err-count-in-61.ensures
    (no_replies c.args.config.now c.args.number c.args.bytes.now behind_mark (c.in_ok-mark.ensures.cases.0 ∙ ap (λ (byte : ℕ). byte ∷ behind_mark) c.in-61.is) (no_number 4000000000 behind_mark (lit< tt) c.in_err-count-in-61.ensures))

pub returns-in_ok-count-in-61 : goal.returns-in_ok-count-in-61
returns-in_ok-count-in-61 c =
    let behind_mark = c.in_ok-mark.rest.now in
    replies_read c.args.config.now c.args.number c.args.bytes.now behind_mark c.in_ok-count-in-61.count c.in_ok-count-in-61.rest.now (omega arith) (c.in_ok-mark.ensures.cases.0 ∙ ap (λ (byte : ℕ). byte ∷ behind_mark) c.in-61.is)
    (number_read 4000000000 behind_mark c.in_ok-count-in-61.count c.in_ok-count-in-61.rest.now (lit< tt) c.in_ok-count-in-61.ensures)
