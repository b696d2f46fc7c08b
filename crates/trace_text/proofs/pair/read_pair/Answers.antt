use Rattle.std.proofs.Common.{ℕ, List, subst}
use Rattle.trace_text.specs.Refusals.{IsPairRefused}
use Rattle.trace_text.proofs.pair.read_pair.Goals as goal

pub returns-clause-bad_line : goal.returns-clause-bad_line
returns-clause-bad_line g c = λ line_number reason bad_line.
    (c.in_ok-bytes.bytes.items, c.in_ok-bytes.ensures.ok.0, subst (λ (bytes : List ℕ). IsPairRefused bytes line_number reason) c.deref.ensures.value (c.pair_of.ensures.bad_line line_number reason bad_line))
