use Rattle.std.proofs.Common.{arith}
use Rattle.regions.proofs.SetLemmas.{lowest_member}
use Rattle.regions.proofs.sets.lowest.Goals as goal

pub returns-else-set-eq0-clause-lowest : goal.returns-else-set-eq0-clause-lowest
returns-else-set-eq0-clause-lowest c = lowest_member c.args.set (omega arith) (omega arith)
