use Rattle.std.proofs.Common.{◌≡◌, ◌∷◌}
use Rattle.std.specs.List.{flat_map, range_with_len}
use Rattle.shen_graph.specs.declared.command.Command.TheVariants.{New, Set}
use Rattle.churn.specs.Script.{round, shared_hub, own_box}
use Rattle.churn.proofs.script.churn_script.Given as goal

abbrev pub invariant-loop-i : goal.invariant-loop-i
invariant-loop-i locals = locals.script ≡ New own_box 16 0 ∷ Set shared_hub locals.thread own_box ∷ flat_map (round locals.seed) (range_with_len 0 locals.i)
