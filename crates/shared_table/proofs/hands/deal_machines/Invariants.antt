use Rattle.shared_table.specs.Views.{is_dealt_to}
use Rattle.shared_table.proofs.ChangeHands.{TakingOut}
use Rattle.shared_table.proofs.hands.deal_machines.Given as goal

abbrev pub invariant-loop-number : goal.invariant-loop-number
invariant-loop-number g loop = TakingOut (is_dealt_to loop.bundles loop.bundle) loop.fn.machines.items loop.number loop.machines.items loop.dealt.items
