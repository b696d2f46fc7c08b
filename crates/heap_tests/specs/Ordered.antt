-- What is known of a machine of a bundle before it is stepped.
use Rattle.std.specs.Prelude.{ℕ, ◌≡◌, ◌<◌, Bool, true, false, List, length, Option, Some, slice_get, slice_set}
use Rattle.shen_graph.specs.declared.command.Command.{Command}
use Rattle.step_core.specs.Machines.{may_begin}
use Rattle.heap_machines.specs.Turn.{order_for}
use Rattle.table_heap.specs.declared.bundle.Bundle.{Bundle}
use Rattle.heap_words.specs.declared.config.Config.{Config}
use Rattle.heap_words.specs.Ranges.{seat_count}
use Rattle.table_heap.specs.declared.heap.Heap.{Heap}
use Rattle.table_heap.specs.Running.{Jobs, AreAtWork}
use Rattle.table_heap.specs.State.{orders_of, config_in, machine_at, order_at, has_turn, HasMachine, IsBundleOf, IsUnmoved}

-- The machine has the order that its turn makes of this command, if it makes a step.
pub record IsOrdered (old new : Bundle) (next : Option Command) (number : ℕ) : Type 0 where
  pub unmoved : IsUnmoved old new
  pub turn : has_turn new number ≡ true → order_for next (machine_at old number) ≡ Some (order_at new number)
  pub orders : has_turn new number ≡ true → orders_of new ≡ slice_set (orders_of old) number (Some (order_at new number))
  pub idle : has_turn new number ≡ false → new ≡ old

-- of so many machines, those whose flags are set may begin a call
abbrev pub MayAt : ℕ → List Bool → Bundle → Type 0
MayAt mutators between bundle = (index : ℕ) → index < mutators → slice_get between index ≡ Some true → may_begin (machine_at bundle index) ≡ true

-- a heap, its machines in one bundle, the work of its threads, and which of these are known to stand between two calls
pub record IsPlaying (heap : Heap) (bundle : Bundle) (jobs : Jobs) (config : Config) (between : List Bool) : Type 0 where
  pub of : IsBundleOf bundle heap
  pub works : AreAtWork bundle jobs
  pub same : config_in bundle ≡ config
  pub here : (seat : ℕ) → seat < seat_count config.mutators config.helpers → HasMachine bundle seat
  pub rests : MayAt config.mutators between bundle
  pub long : length between ≡ 8
