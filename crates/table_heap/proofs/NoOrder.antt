-- That a machine of the bundle has no order where none is pending.
use Rattle.std.proofs.Common.{◌≡◌, ◌<◌, ℕ, length, get_or, Option, Some}
use Rattle.shen_graph.specs.declared.order.Order.TheVariants.{Nothing}
use Rattle.heap_machines.specs.declared.machine.Machine.{Machine}
use Rattle.heap_machines.specs.Shown.{order_of}
use Rattle.table_heap.specs.declared.bundle.Bundle.{Bundle}
use Rattle.table_heap.specs.Running.{HasNoOrder}
use Rattle.table_heap.proofs.MachineUnder.{read_here, shows_here}

pub none_pending : (bundle : Bundle) → HasNoOrder bundle → (number : ℕ) (found : Option Machine) (machine : Machine) → number < length bundle.machines.items → found ≡ get_or bundle.machines.items number found → found ≡ Some machine → order_of machine ≡ Nothing
none_pending bundle no_orders number found machine number_below value read_is = no_orders number (order_of machine) (shows_here order_of bundle.machines.items number machine (read_here order_of bundle.machines.items number found machine number_below value read_is))
