use Rattle.std.proofs.Common.{◌≡◌, map, All}
use Rattle.std.specs.List.{range_with_len}
use Rattle.shen_graph.specs.declared.order.Order.TheVariants.{Nothing}
use Rattle.step_core.specs.Opening.{opening_machine}
use Rattle.heap_machines.specs.Shown.{shown, order_of, config_of}
use Rattle.heap_machines.proofs.opening.open_machines.Given as goal

abbrev pub invariant-loop-number : goal.invariant-loop-number
invariant-loop-number loop = record {
  machines : map shown loop.machines.items ≡ map (opening_machine loop.config) (range_with_len 0 loop.number);
  heap : All (λ machine. config_of machine ≡ loop.config) loop.machines.items;
  orders : All (λ machine. order_of machine ≡ Nothing) loop.machines.items;
}
