-- What memory knows of the machines of a bundle, each under its number.
use Rattle.std.specs.Prelude.{ℕ, ◌≡◌, nat_lt, List, map, Some, true, length, All}
use Rattle.std.specs.Option.{is_some}
use Rattle.heap_words.specs.declared.config.Config.{Config}
use Rattle.heap_words.specs.Words.{Heap, IsWord}
use Rattle.shared_table.specs.Views.{View, machine_of}
use Rattle.heap_machines.specs.declared.machine.Machine.{Machine}
use Rattle.heap_words.specs.Steps.{Stage}
use Rattle.shen_graph.specs.declared.order.Order.TheVariants.{Nothing}
use Rattle.heap_machines.specs.Shown.{shown, order_of, config_of}
use Rattle.step_core.specs.Actor.{Actor}
use Rattle.table_heap.specs.Core.{machine_in}
use Rattle.heap_machines.specs.Roles.{is_mutating}
use Rattle.table_heap.specs.Seen.{config_in}
use Rattle.table_heap.specs.declared.hints.Thief.{Thief}
use Rattle.step_core.specs.Machines.{control_in}
use Rattle.step_core.specs.Settled.{control_number}

-- they are machines of the heap, and those of the first numbers are its mutators
pub record IsMachineOfHeap (config : Config) (number : ℕ) (machine : Machine) : Type 0 where
  pub heap : config_of machine ≡ config
  pub role : is_mutating (shown machine) ≡ nat_lt number config.mutators

abbrev pub AreOfHeap : Config → View Machine → Type 0
AreOfHeap config machines = (number : ℕ) (machine : Machine) → machine_of machines number ≡ Some machine → IsMachineOfHeap config number machine

-- Under each number stands an address of the heap or none, and none where there is no machine.
pub record AreGreyedBy (config : Config) (machines : View Machine) (greyed : View ℕ) : Type 0 where
  pub numbers : length greyed ≡ length machines
  pub known : (number address : ℕ) → machine_of greyed number ≡ Some address → (is_some (machine_of machines number) ≡ true) × IsWord config (Heap address)

-- those who steal hints of the heap
abbrev pub AreThievesOf : Config → List Thief → Type 0
AreThievesOf config thieves = All (λ thief. config_in thief ≡ config) thieves

-- memory has the machines of a stage, which are of the heap, and none has an order
pub record AreMachinesOfStage (config : Config) (kept : List Machine) (stage : Stage Actor) : Type 0 where
  pub machines : map shown kept ≡ map machine_in stage.machines
  pub heap : All (λ m. config_of m ≡ config) kept
  pub orders : All (λ m. order_of m ≡ Nothing) kept

-- the control of the heap is under its number
pub record HasTheControl (config : Config) (machines : View Machine) : Type 0 where
  pub machine : Machine
  pub here : machine_of machines (control_number config) ≡ Some machine
  pub heap : config_of machine ≡ config
  pub role : is_some (control_in (shown machine)) ≡ true
