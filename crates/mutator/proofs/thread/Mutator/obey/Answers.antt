use Rattle.std.proofs.Common.{refl}
use Rattle.mutator.proofs.thread.Mutator.obey.Goals as goal

pub invariant_of-self : goal.invariant_of-self
invariant_of-self c = let mutator = c.args.self.now in record { is_mutator = mutator.is_mutator; allowed = refl; ready = refl }

pub invariant_of-self-in-End : goal.invariant_of-self-in-End
invariant_of-self-in-End c = let mutator = c.args.self.now in record { is_mutator = mutator.is_mutator; allowed = refl; ready = refl }
