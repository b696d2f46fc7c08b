use Rattle.cycle_words.proofs.Finishing.Causes.{stops_for_room}
use Rattle.cycle_words.proofs.finishing_laws.stops_for_room.Goals as goal

pub returns : goal.returns
returns c = stops_for_room
