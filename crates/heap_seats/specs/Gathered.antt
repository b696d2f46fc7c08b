-- Seats that are given up together, of which nobody knows whether they are of one heap.
use Rattle.std.specs.Prelude.{ℕ, ◌≡◌, ◌<◌, ◌⊎◌, List, [], length, Option, None, Some, slice_get}
use Rattle.std.specs.Arc.{arc_value}
use Rattle.heap_words.specs.declared.config.Config.{Config}
use Rattle.heap_words.specs.Ranges.{seat_count}
use Rattle.shen_graph.specs.declared.order.Order.{Order}
use Rattle.heap_words.specs.Steps.{Stage, Event}
use Rattle.step_core.specs.Actor.{Actor}
use Rattle.step_core.specs.Settled.{control_number}
use Rattle.table_heap.specs.declared.heap.Heap.{Heap}
use Rattle.table_heap.specs.State.{config_of as heap_sizes}
use Rattle.table_heap.specs.Gathered.{view_of}
use Rattle.heap_seats.specs.declared.progress.State.TheVariants.{Ended}
use Rattle.heap_seats.specs.declared.seat.Seat.{Seat}
use Rattle.heap_seats.specs.declared.gathering.Begun.{Begun}
use Rattle.heap_seats.specs.declared.gathering.Gathering.{Gathering}
use Rattle.heap_seats.specs.Histories.{OfEachBegun}
use Rattle.heap_seats.specs.Seats.{config_of, number_of, heap_shared, start_of_seat, state_in}
use Rattle.heap_seats.specs.GivenUp.{AreMachinesOf, IsHistoryOf}

-- any two of them are of one heap
abbrev pub AreOfOneHeap : List Seat → Type 0
AreOfOneHeap seats = (index other_index : ℕ) (seat other_seat : Seat) → slice_get seats index ≡ Some seat → slice_get seats other_index ≡ Some other_seat → heap_shared seat ≡ heap_shared other_seat

-- each is at the place of its number
abbrev pub AreNumbered : List Seat → Type 0
AreNumbered seats = (index : ℕ) (seat : Seat) → slice_get seats index ≡ Some seat → number_of seat ≡ index

-- They are all seats of one heap, by their numbers, and its mutators and its control have ended.
pub record MakeUpHeap (seats : List Seat) : Type 0 where
  pub some : 0 < length seats
  pub heap : AreOfOneHeap seats
  pub number : AreNumbered seats
  pub count : (index : ℕ) (seat : Seat) → slice_get seats index ≡ Some seat → seat_count (config_of seat).mutators (config_of seat).helpers ≡ length seats
  pub over : (index : ℕ) (seat : Seat) → slice_get seats index ≡ Some seat → (index < (config_of seat).mutators) ⊎ (index ≡ control_number (config_of seat)) → state_in seat ≡ Ended

-- They are of one configuration and of one start, and some events from there have the history of these seats, from each graph with which their heap may
-- have begun.
pub record HaveHistory (seats : List Seat) : Type 0 where
  pub sizes : Config
  pub start : Stage Actor
  pub config : (index : ℕ) (seat : Seat) → slice_get seats index ≡ Some seat → config_of seat ≡ sizes
  pub begun : (index : ℕ) (seat : Seat) → slice_get seats index ≡ Some seat → start_of_seat seat ≡ start
  pub events : List (Event Order)
  pub history : OfEachBegun sizes start (IsHistoryOf sizes start seats events)

-- the heap of the first seat that was gathered, and its sizes
abbrev pub heap_begun : Begun → Heap
heap_begun begun = arc_value begun.heap

abbrev pub sizes_begun : Begun → Config
sizes_begun begun = heap_sizes (heap_begun begun)

-- these are the seats of that heap that are gathered
pub record AreTogether (seats : List Seat) (b : Begun) : Type 0 where
  pub machines : AreMachinesOf seats (view_of b.machines)
  pub long : length (view_of b.machines) ≡ seat_count (sizes_begun b).mutators (sizes_begun b).helpers

-- the heap is that of the first, and where it is that of all, by their numbers, they are gathered
pub record AreBegun (seats : List Seat) (b : Begun) : Type 0 where
  pub first : Seat
  pub there : slice_get seats 0 ≡ Some first
  pub heap : heap_shared first ≡ heap_begun b
  pub together : AreOfOneHeap seats → AreNumbered seats → AreTogether seats b

-- these are the seats that were gathered
abbrev pub AreGatheredIn : List Seat → Option Begun → Type 0
AreGatheredIn seats None = seats ≡ []
AreGatheredIn seats (Some begun) = AreBegun seats begun

abbrev pub AreGathered : List Seat → Gathering → Type 0
AreGathered seats gathering = AreGatheredIn seats gathering.begun
