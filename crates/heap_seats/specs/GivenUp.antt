-- The end of a heap, by all its seats.
use Rattle.std.specs.Prelude.{ℕ, ◌≡◌, ◌≢◌, ◌+◌, ◌<◌, ◌⊎◌, List, length, Some, None, All, slice_get}
use Rattle.std.specs.Arc.{arc_value}
use Rattle.heap_words.specs.declared.config.Config.{Config}
use Rattle.heap_words.specs.Ranges.{seat_count}
use Rattle.shen_graph.specs.declared.order.Order.{Order}
use Rattle.shen_graph.specs.Graph.{Graph}
use Rattle.shen_graph.specs.History.{of_thread}
use Rattle.heap_words.specs.Steps.{Stage, Event}
use Rattle.shared_table.specs.Views.{View, machine_of}
use Rattle.step_core.specs.Actor.{Actor}
use Rattle.step_core.specs.Settled.{control_number}
use Rattle.step_core.specs.Threads.{IsSettled}
use Rattle.table_heap.specs.declared.closed.Closed.{Closed as Left}
use Rattle.table_heap.specs.declared.heap.Heap.{Heap}
use Rattle.table_heap.specs.declared.bundle.Bundle.{Bundle}
use Rattle.table_heap.specs.Closed as closed
use Rattle.table_heap.specs.State.{config_of as heap_sizes, start_of_heap, view_of, IsBundleOf}
use Rattle.heap_seats.specs.declared.progress.State.TheVariants.{Ended}
use Rattle.heap_seats.specs.declared.seat.Seat.{Seat}
use Rattle.heap_seats.specs.declared.closing.Closing.{Closing}
use Rattle.heap_seats.specs.Histories.{led, past_of, IsLegalFrom, OfEachBegun}
use Rattle.heap_seats.specs.Seats.{config_of, number_of, heap_shared, actor_in, calls_of, state_in}

-- the heap of seats that are given up together
abbrev pub heap_closing : Closing → Heap
heap_closing closing = arc_value closing.heap

-- its sizes, and where it began
abbrev pub sizes_closing : Closing → Config
sizes_closing closing = heap_sizes (heap_closing closing)

abbrev pub start_closing : Closing → Stage Actor
start_closing closing = start_of_heap (heap_closing closing)

-- none of them has this number
abbrev pub HaveNot : List Seat → ℕ → Type 0
HaveNot seats number = (index : ℕ) (seat : Seat) → slice_get seats index ≡ Some seat → number_of seat ≢ number

-- The view has the machine of each of these seats, under its number, and no other.
pub record AreMachinesOf (seats : List Seat) (view : View Actor) : Type 0 where
  pub each : (index : ℕ) (seat : Seat) → slice_get seats index ≡ Some seat → machine_of view (number_of seat) ≡ Some (actor_in seat)
  pub only : (number : ℕ) → HaveNot seats number → machine_of view number ≡ None

-- The bundle has the machines of these seats of one heap.
pub record AreJoined (heap : Heap) (seats : List Seat) (bundle : Bundle) : Type 0 where
  pub of : IsBundleOf bundle heap
  pub machines : AreMachinesOf seats (view_of bundle)

-- these are the seats that are given up
abbrev pub AreGivenUp : List Seat → Closing → Type 0
AreGivenUp seats closing = AreJoined (heap_closing closing) seats closing.together

-- all seats of one heap, in the order of their numbers
pub record AreAllSeats (c : Config) (h : Heap) (seats : List Seat) : Type 0 where
  pub count : length seats ≡ seat_count c.mutators c.helpers
  pub config : (index : ℕ) (seat : Seat) → slice_get seats index ≡ Some seat → config_of seat ≡ c
  pub heap : (index : ℕ) (seat : Seat) → slice_get seats index ≡ Some seat → heap_shared seat ≡ h
  pub number : (index : ℕ) (seat : Seat) → slice_get seats index ≡ Some seat → number_of seat ≡ index

-- each mutator and the control have ended
abbrev pub AreOver : Config → List Seat → Type 0
AreOver config seats = (index : ℕ) (seat : Seat) → slice_get seats index ≡ Some seat → (index < config.mutators) ⊎ (index ≡ control_number config) → state_in seat ≡ Ended

-- all seats of a heap are given up, by their numbers, and it is over
pub record MayEndHeap (closing : Closing) : Type 0 where
  pub seats : List Seat
  pub given : AreGivenUp seats closing
  pub all : AreAllSeats (sizes_closing closing) (heap_closing closing) seats
  pub over : AreOver (sizes_closing closing) seats

-- From this graph the history of these events is legal, and each allocation that it refuses was crowded out. Each of its entries is a mutator's, and
-- the part of each mutator is the calls of its seat: each call stands there once, in the order in which the seat was answered, and no other.
pub record IsHistoryOf (config : Config) (start : Stage Actor) (seats : List Seat) (events : List (Event Order)) (first : Graph) : Type 0 where
  pub legal : IsLegalFrom config start events first
  pub entries : All (IsSettled config.mutators) (past_of config start events)
  pub parts : (mutator : ℕ) (seat : Seat) → slice_get seats mutator ≡ Some seat → mutator < config.mutators → of_thread (past_of config start events) (mutator + 1) ≡ calls_of seat

-- Some events lead from where the heap began to just the words and machines that are left, and their history is that of the seats, from each graph
-- with which the heap may have begun.
pub record HaveOneHistory (config : Config) (start : Stage Actor) (seats : List Seat) (left : Left) : Type 0 where
  pub events : List (Event Order)
  pub ends : led config start events ≡ closed.stage_of left
  pub history : OfEachBegun config start (IsHistoryOf config start seats events)

-- the machines that are left are those of these seats
pub record AreMachinesLeft (seats : List Seat) (left : Left) : Type 0 where
  pub count : length (closed.machines_of left) ≡ length seats
  pub each : (index : ℕ) (seat : Seat) → slice_get seats index ≡ Some seat → slice_get (closed.machines_of left) index ≡ Some (actor_in seat)
