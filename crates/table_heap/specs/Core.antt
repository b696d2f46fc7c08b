-- The machines of a heap as a kind of machine. A pause of the control goes on to the next phase of the cycle, or makes
-- room.
use Rattle.std.specs.Prelude.{[]}
use Rattle.heap_words.specs.declared.config.Config.{Config}
use Rattle.shen_graph.specs.declared.command.Command.TheVariants.{Gc}
use Rattle.shen_graph.specs.declared.order.Order.{Order}
use Rattle.heap_words.specs.Steps.{MachineKind, Stage}
use Rattle.heap_machines.specs.Pause.{pause_image}
use Rattle.shared_table.specs.Counted.{Counted, counting, counted_from}
use Rattle.step_core.specs.Actor.{Machine, Actor}
use Rattle.heap_machines.specs.Shown.{no_machine}
use Rattle.step_core.specs.Machines.{kind}
use Rattle.step_core.specs.Opening.{opening}
use Rattle.table_heap.specs.declared.key.HeapKey.{HeapKey}
use Rattle.table_heap.specs.Start.{start_from}

abbrev pub heap_kind : Config → MachineKind Actor Order
heap_kind config = kind pause_image config

-- the words and machines with which a heap is opened
abbrev pub heap_opening : Config → Stage Actor
heap_opening config = opening config

-- those with which the heap of a key begins
abbrev pub start_of_key : HeapKey → Stage Actor
start_of_key key = start_from key.config key.left

-- the machines of its table: the same, and they count their steps
abbrev pub table_kind : HeapKey → MachineKind (Counted Actor) Order
table_kind key = counting (heap_kind key.config)

-- what its table begins with: none has made a step
abbrev pub table_start : HeapKey → Stage (Counted Actor)
table_start key = counted_from (start_of_key key)

-- what memory keeps of a machine
abbrev pub machine_in : Actor → Machine
machine_in actor = actor.machine

-- an actor of no heap
abbrev pub nobody : Actor
nobody = record { machine = no_machine; command = Gc; calls = [] }
