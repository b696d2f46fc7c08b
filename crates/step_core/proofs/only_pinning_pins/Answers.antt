use Rattle.step_core.proofs.Theorem.EveryList.{run_pins}
use Rattle.step_core.proofs.only_pinning_pins.Goals as goal

pub returns : goal.returns
returns c = λ change law c stage graph begins events event. run_pins change law c stage graph begins events event
