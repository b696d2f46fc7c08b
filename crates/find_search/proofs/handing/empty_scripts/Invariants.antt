use Rattle.std.proofs.Common.{◌≡◌, ℕ, List, [], length, All}
use Rattle.shen_graph.specs.declared.command.Command.{Command}
use Rattle.find_search.proofs.handing.empty_scripts.Given as goal

pub record AreEmpty (made : ℕ) (scripts : List (List Command)) : Type 0 where
  pub count : length scripts ≡ made
  pub empty : All (λ script. script ≡ []) scripts

abbrev pub invariant-loop-made : goal.invariant-loop-made
invariant-loop-made loop = AreEmpty loop.made loop.scripts.items
