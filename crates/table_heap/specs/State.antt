-- What callers know of a heap that threads share, and of a bundle of its machines.
use Rattle.std.specs.Prelude.{ℕ, ◌≡◌, ◌+◌, Bool, true, List, Some, unwrap_or, slice_set}
use Rattle.std.specs.Option.{is_some}
use Rattle.heap_words.specs.declared.config.Config.{Config}
use Rattle.shared_table.specs.Views.{View, machine_of, kept_in_view, SameNumbers}
use Rattle.shared_table.specs.Counted.{uncounted_view, steps_in_view, uncounted_seat}
use Rattle.shared_table.specs.Rule.{Took}
use Rattle.heap_words.specs.Steps.{Stage}
use Rattle.shen_graph.specs.declared.order.Order.{Order}
use Rattle.shen_graph.specs.declared.order.Order.TheVariants.{Nothing}
use Rattle.heap_machines.specs.Answer.{says}
use Rattle.heap_machines.specs.declared.stepped.Stepped.{Stepped}
use Rattle.heap_machines.specs.Shown.{shown, order_of, no_machine}
use Rattle.step_core.specs.Actor.{Machine, Actor}
use Rattle.step_core.specs.Machines.{takes_of, greys_of}
use Rattle.table_heap.specs.declared.hints.Hints.{Hints}
use Rattle.table_heap.specs.declared.hints.Thief.{Thief}
use Rattle.table_heap.specs.declared.heap.Heap.{Heap}
use Rattle.table_heap.specs.declared.bundle.Bundle.{Bundle}
use Rattle.table_heap.specs.Core.{heap_kind, start_of_key}

-- the configuration of a heap, and of a bundle
abbrev pub config_of : Heap → Config
config_of heap = heap.config

abbrev pub config_in : Bundle → Config
config_in bundle = bundle.config

-- the words and machines with which a heap began, and the heap of a bundle
abbrev pub start_of_heap : Heap → Stage Actor
start_of_heap heap = start_of_key heap.key

abbrev pub start_in : Bundle → Stage Actor
start_in bundle = start_of_key bundle.key.value

-- the bundle's machines by their numbers, as their events see them
abbrev pub view_of : Bundle → View Actor
view_of bundle = uncounted_view bundle.seat.me.0

-- how many steps each of them has made
abbrev pub steps_of : Bundle → View ℕ
steps_of bundle = steps_in_view bundle.seat.me.0

-- the same without what memory does not keep
abbrev pub machines_of : Bundle → View Machine
machines_of bundle = kept_in_view shown bundle.machines.items

-- the orders that they were given
abbrev pub orders_of : Bundle → View Order
orders_of bundle = kept_in_view order_of bundle.machines.items

-- the address that each machine made grey with its last step, where it did so
abbrev pub greyed_of : Bundle → View ℕ
greyed_of bundle = bundle.greyed.items

-- the bundle's deques: that of its own hints, and those of other bundles from which it steals
abbrev pub deques_of : Bundle → Hints × List Thief
deques_of bundle = (bundle.hints, bundle.thieves.items)

-- the bundle is one of this heap
pub record IsBundleOf (bundle : Bundle) (heap : Heap) : Type 0 where
  pub table : bundle.seat.table_id ≡ heap.table.shared.table_id
  pub config : bundle.config ≡ heap.config
  pub key : bundle.key.value ≡ heap.key

-- the bundle has the machine of this number
abbrev pub HasMachine : Bundle → ℕ → Type 0
HasMachine bundle number = is_some (machine_of (machines_of bundle) number) ≡ true

-- that machine, and its order
abbrev pub machine_at : Bundle → ℕ → Machine
machine_at bundle number = unwrap_or (machine_of (machines_of bundle) number) no_machine

abbrev pub order_at : Bundle → ℕ → Order
order_at bundle number = unwrap_or (machine_of (orders_of bundle) number) Nothing

-- and how many steps it has made
abbrev pub steps_at : Bundle → ℕ → ℕ
steps_at bundle number = unwrap_or (machine_of (steps_of bundle) number) 0

-- whether it makes a step: it takes the order that it was given
abbrev pub has_turn : Bundle → ℕ → Bool
has_turn bundle number = takes_of (machine_at bundle number) (order_at bundle number)

-- it is still a bundle of the same heap, with machines under the same numbers
pub record IsSameBundle (old new : Bundle) : Type 0 where
  pub table : new.seat.table_id ≡ old.seat.table_id
  pub config : new.config ≡ old.config
  pub key : new.key ≡ old.key
  pub numbers : SameNumbers (view_of old) (view_of new)

-- its machines are as they were, and have made no step
pub record IsUnmoved (old new : Bundle) : Type 0 where
  pub same : IsSameBundle old new
  pub view : view_of new ≡ view_of old
  pub steps : steps_of new ≡ steps_of old
  pub greyed : greyed_of new ≡ greyed_of old

-- and so are their orders
pub record IsUnchanged (old new : Bundle) : Type 0 where
  pub unmoved : IsUnmoved old new
  pub orders : orders_of new ≡ orders_of old

-- The step of a machine was exactly one event of the heap's machines: its access told it this word, and so it said this, and it has
-- made one step more. No other machine of the bundle has changed or made a step.
pub record IsBundleStep (old new : Bundle) (number : ℕ) (said : Stepped) : Type 0 where
  pub got : ℕ
  pub took : Took (heap_kind old.config) (start_in old) number (order_at old number) (uncounted_seat old.seat.me) got (uncounted_seat new.seat.me)
  pub steps : steps_of new ≡ slice_set (steps_of old) number (Some (steps_at old number + 1))
  pub said_is : said ≡ says old.config (order_at old number) (machine_at old number) got
  pub greyed : greyed_of new ≡ slice_set (greyed_of old) number (greys_of (machine_at old number))
  pub orders : orders_of new ≡ slice_set (orders_of old) number (Some Nothing)

-- A bundle of the heap before the first event: its machines are these, none has an order, and none has made a step, nor an address grey.
pub record IsFresh (heap : Heap) (bundle : Bundle) (view : View Actor) : Type 0 where
  pub of : IsBundleOf bundle heap
  pub machines : view_of bundle ≡ view
  pub orders : (number : ℕ) (order : Order) → machine_of (orders_of bundle) number ≡ Some order → order ≡ Nothing
  pub steps : (number made : ℕ) → machine_of (steps_of bundle) number ≡ Some made → made ≡ 0
  pub greyed : (number address : ℕ) → machine_of (greyed_of bundle) number ≡ Some address → ⊥

-- What a step promises is one event: it is not met where none was made, nor by two, of whatever machines of the bundle
pub record StepsAreEvents : Type 0 where
  pub not_none : (bundle : Bundle) (number : ℕ) (said : Stepped) → IsBundleStep bundle bundle number said → ⊥
  pub not_two : (old mid new : Bundle) (first second number : ℕ) (one other both : Stepped) → IsBundleStep old mid first one → IsBundleStep mid new second other → IsBundleStep old new number both → ⊥
