use Rattle.regions.proofs.ServedRooms.{requests_are_served}
use Rattle.regions.proofs.packing_laws.requests_are_served.Goals as goal

pub returns : goal.returns
returns c = requests_are_served
