-- The turn of a machine of a bundle.
use Rattle.std.specs.Prelude.{ℕ, zero, suc, ◌≡◌, ◌⊎◌, true, Option, Some, slice_set}
use Rattle.heap_words.specs.declared.config.Config.{Config}
use Rattle.heap_words.specs.Words.{Heap, IsWord}
use Rattle.shen_graph.specs.declared.command.Command.{Command}
use Rattle.shen_graph.specs.declared.order.Order.{Order}
use Rattle.shen_graph.specs.declared.order.Order.TheVariants.{Hint}
use Rattle.step_core.specs.Actor.{Machine}
use Rattle.step_core.specs.Machines.{takes_hint}
use Rattle.heap_machines.specs.declared.stepped.Stepped.{Stepped}
use Rattle.heap_machines.specs.declared.stepped.Stepped.TheVariants.{More}
use Rattle.heap_machines.specs.Turn.{order_for}
use Rattle.table_heap.specs.declared.bundle.Bundle.{Bundle}
use Rattle.table_heap.specs.State.{config_in, orders_of, machine_at, order_at, IsSameBundle, IsUnmoved, IsBundleStep}

-- What a machine may be ordered for its turn, where this command would follow: what it does then, or, where it takes hints, the hint of
-- an address of the heap.
abbrev pub IsOrderFor : Config → Option Command → Machine → Order → Type 0
IsOrderFor config next_command machine order =
    (order_for next_command machine ≡ Some order) ⊎ ((takes_hint machine ≡ true) × ((address : ℕ) × IsWord config (Heap address) × (order ≡ Hint address)))

-- A machine has had its turn, where this command would follow: it was given its order, and then it made its step, which said so.
pub record IsTurn (old new : Bundle) (next : Option Command) (number : ℕ) (said : Stepped) : Type 0 where
  pub ordered : Bundle
  pub unmoved : IsUnmoved old ordered
  pub turn : IsOrderFor (config_in old) next (machine_at old number) (order_at ordered number)
  pub orders : orders_of ordered ≡ slice_set (orders_of old) number (Some (order_at ordered number))
  pub step : IsBundleStep ordered new number said

-- A machine has had so many turns, one after the other, in each of which it went on, whatever command would have followed.
abbrev pub HasHadTurns : ℕ → (old new : Bundle) → ℕ → Type 0
HasHadTurns zero old new number = new ≡ old
HasHadTurns (suc count) old new number = (mid : Bundle) × HasHadTurns count old mid number × IsSameBundle mid new × ((next_command : Option Command) → IsTurn mid new next_command number More)

-- Nothing but the hints of the bundle's own and of others has changed.
pub record OnlyHintsDiffer (old new : Bundle) : Type 0 where
  pub config : new.config ≡ old.config
  pub key : new.key ≡ old.key
  pub seat : new.seat ≡ old.seat
  pub machines : new.machines ≡ old.machines
  pub greyed : new.greyed ≡ old.greyed

-- A machine was given a hint, if it takes hints; else its order stands.
abbrev pub IsHinted : (old new : Bundle) → ℕ → Type 0
IsHinted old new number =
    (orders_of new ≡ orders_of old)
    ⊎ ((takes_hint (machine_at old number) ≡ true) × ((address : ℕ) × IsWord (config_in old) (Heap address) × (orders_of new ≡ slice_set (orders_of old) number (Some (Hint address)))))
