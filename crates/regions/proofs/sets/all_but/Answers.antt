use Rattle.regions.proofs.SetLemmas.{all_but_members}
use Rattle.regions.proofs.sets.all_but.Goals as goal

pub returns-clause-members : goal.returns-clause-members
returns-clause-members c = all_but_members c.args.region c.requires
