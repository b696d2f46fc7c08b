use Rattle.std.proofs.Common.{IsTrue}
use Rattle.regions.proofs.WalkLemmas.{walks_meet_each, parsable_is_walked, walk_goes_on, walk_stays_in_region}
use Rattle.regions.proofs.walk.walks_meet_each.Goals as goal

pub returns-clause-each : goal.returns-clause-each
returns-clause-each c = walks_meet_each

pub returns-clause-exactly : goal.returns-clause-exactly
returns-clause-exactly c = λ begins. parsable_is_walked (λ address. IsTrue (begins address))

pub returns-clause-goes_on : goal.returns-clause-goes_on
returns-clause-goes_on c = walk_goes_on

pub returns-clause-in_region : goal.returns-clause-in_region
returns-clause-in_region c = walk_stays_in_region
