use Rattle.std.proofs.Common.{ℕ, List, subst}
use Rattle.find_play.specs.Tests.{RefusesTest}
use Rattle.find_play.proofs.read.read_test.Goals as goal

pub returns-in-Ok-clause-refused : goal.returns-in-Ok-clause-refused
returns-in-Ok-clause-refused g c = λ line why refusal.
    (c.in-Ok.bytes.items, c.in-Ok.ensures.ok.0, subst (λ (read_bytes : List ℕ). RefusesTest read_bytes line why) c.deref.ensures.value (c.test_of.ensures.refused line why refusal))
