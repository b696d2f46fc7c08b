use Rattle.std.proofs.Common.{ℕ, ◌+◌, eqb, sym, ap, ◌∙◌}
use Rattle.std.proofs.lemmas.List.Splits.{length-slice_split}
use Rattle.trace_text.proofs.line_cuts.last_line.Goals as goal

pub returns : goal.returns
returns c = ap (λ (count : ℕ). count + 1) c.ends_in.ensures.count ∙ sym (length-slice_split (λ byte. eqb byte 10) c.args.bytes.now)
