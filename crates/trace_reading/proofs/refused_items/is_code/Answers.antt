use Rattle.std.proofs.Common.{sym, ap, ◌∙◌, arith}
use Rattle.trace_reading.proofs.GrammarLines.{two_listed}
use Rattle.trace_reading.specs.Codes.{is_code}
use Rattle.trace_reading.proofs.RefusedPlaces.{code_asked, other_length}
use Rattle.trace_reading.proofs.refused_items.is_code.Goals as goal

pub returns-in-len2 : goal.returns-in-len2
returns-in-len2 c = c.is_some.ensures ∙ code_asked c.of.result _ c.of.ensures.found c.of.ensures.unknown ∙ ap is_code (two_listed c.args.text.now (omega arith))

pub returns-in_default : goal.returns-in_default
returns-in_default c = sym (other_length c.args.text.now (λ same_length. omega arith))

pub returns-in_default-2 : goal.returns-in_default-2
returns-in_default-2 c = sym (other_length c.args.text.now (λ same_length. omega arith))
