use Rattle.std.proofs.Common.{arith}
use Rattle.regions.proofs.SetLemmas.{ones-members}
use Rattle.regions.proofs.sets.size.Goals as goal

pub returns : goal.returns
returns c = ones-members c.args.set (omega arith)
