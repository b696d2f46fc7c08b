use Rattle.std.proofs.Common.{◌≡◌, ◌-◌, map}
use Rattle.std.specs.List.{range_with_len}
use Rattle.churn.specs.Script.{churn_script}
use Rattle.churn.proofs.script.churn_scripts.Given as goal

abbrev pub invariant-loop-thread : goal.invariant-loop-thread
invariant-loop-thread locals = locals.scripts.items ≡ map (churn_script locals.seed locals.count) (range_with_len 1 (locals.thread - 1))
