use Rattle.std.proofs.Common.{sym, ◌∙◌}
use Rattle.trace_reading.proofs.Digits.{behind_by_front, stripped}
use Rattle.trace_reading.proofs.scan.text_at.Goals as goal

pub returns : goal.returns
returns c = stripped (λ borrow. borrow.now) c.strip_prefix.result _ _ _ c.strip_prefix.ensures.cases ∙ sym (behind_by_front c.args.text.now c.args.bytes.now)
