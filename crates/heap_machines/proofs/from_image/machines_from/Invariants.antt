use Rattle.std.proofs.Common.{◌≡◌, map, All}
use Rattle.std.specs.List.{range_with_len}
use Rattle.shen_graph.specs.declared.order.Order.TheVariants.{Nothing}
use Rattle.image_graph.specs.State.{config_of, memory_of}
use Rattle.heap_machines.specs.Shown.{shown, order_of, config_of as machine_config}
use Rattle.heap_machines.specs.FromImage.{machine_from}
use Rattle.heap_machines.proofs.from_image.machines_from.Given as goal

abbrev pub invariant-loop-number : goal.invariant-loop-number
invariant-loop-number loop = record {
  machines : map shown loop.machines.items ≡ map (machine_from (config_of loop.image) loop.counts (memory_of loop.image)) (range_with_len 0 loop.number);
  heap : All (λ machine. machine_config machine ≡ config_of loop.image) loop.machines.items;
  orders : All (λ machine. order_of machine ≡ Nothing) loop.machines.items;
}
