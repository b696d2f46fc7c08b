use Rattle.shared_table.proofs.ChangeHands.{Joining}
use Rattle.shared_table.proofs.hands.join_machines.Given as goal

abbrev pub invariant-loop-number : goal.invariant-loop-number
invariant-loop-number g loop = Joining loop.fn.machines.items loop.fn.others.items loop.number loop.machines.items loop.others.items
