use Rattle.handshake.proofs.Shaking.{shaken_run}
use Rattle.handshake.proofs.Still.{pause_still}
use Rattle.handshake.proofs.laws.every_list_of_events.Goals as goal

pub returns-clause-shaken : goal.returns-clause-shaken
returns-clause-shaken g c = shaken_run

pub returns-clause-still : goal.returns-clause-still
returns-clause-still g c = pause_still
