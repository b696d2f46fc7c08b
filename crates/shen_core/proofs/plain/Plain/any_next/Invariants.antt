use Rattle.std.proofs.Common.{◌≡◌, ◌<◌, ℕ, None}
use Rattle.heap_words.specs.Steps.{Stage}
use Rattle.step_core.specs.Actor.{Actor}
use Rattle.step_core.specs.Schedule.{Scripts, turn}
use Rattle.shen_core.specs.State.{Shows}
use Rattle.shen_core.proofs.plain.Plain.any_next.Given as goal

abbrev pub invariant-loop-number : goal.invariant-loop-number
invariant-loop-number loop = (scripts : Scripts) (stage : Stage Actor) → Shows loop.self stage → (number : ℕ) → number < loop.number → turn scripts stage number ≡ None
