use Rattle.step_core.proofs.Theorem.EveryList.{run_lacks_room}
use Rattle.step_core.proofs.looks_for_room_in_need.Goals as goal

pub returns : goal.returns
returns c = run_lacks_room
