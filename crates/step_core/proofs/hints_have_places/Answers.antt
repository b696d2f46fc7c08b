use Rattle.step_core.proofs.Machines.Greying.{places_of_hints}
use Rattle.step_core.proofs.hints_have_places.Goals as goal

pub returns : goal.returns
returns c = places_of_hints
