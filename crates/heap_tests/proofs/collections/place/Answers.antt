use Rattle.std.proofs.Common.{ℕ, ◌<◌, subst}
use Rattle.heap_tests.proofs.collections.place.Goals as goal

pub name_of-requires : goal.name_of-requires
name_of-requires g c = subst (λ (n : ℕ). c.loop-at.at < n) c.table_words-at-end.ensures c.loop-at-test.true

pub returns-then-eq : goal.returns-then-eq
returns-then-eq g c = subst (λ (n : ℕ). c.loop-at.at < n) c.table_words-at-end.ensures c.loop-at-test.true

pub eq-requires : goal.eq-requires
eq-requires g c = tt
