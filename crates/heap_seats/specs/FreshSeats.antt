-- The seats of a heap as it opens.
use Rattle.std.specs.Prelude.{ℕ, ◌≡◌, List, [], length, Some, unwrap_or, slice_get}
use Rattle.heap_words.specs.declared.config.Config.{Config}
use Rattle.heap_words.specs.Ranges.{seat_count}
use Rattle.shen_graph.specs.declared.order.Order.TheVariants.{Nothing}
use Rattle.heap_words.specs.Steps.{Stage}
use Rattle.step_core.specs.Actor.{Machine, Actor}
use Rattle.table_heap.specs.declared.heap.Heap.{Heap}
use Rattle.table_heap.specs.Core.{nobody}
use Rattle.table_heap.specs.State.{start_of_heap}
use Rattle.heap_seats.specs.declared.seat.Seat.{Seat}
use Rattle.heap_seats.specs.Seats.{config_of, number_of, heap_shared, machine_of_seat, order_in, steps_in, calls_of}

-- the machine of a number at a start
abbrev pub first_machine : Stage Actor → ℕ → Machine
first_machine start place = (unwrap_or (slice_get start.machines place) nobody).machine

-- a seat before the first event: its machine is that of its number where its heap begins, with no order, no step and no call behind it
pub record IsFreshSeat (c : Config) (h : Heap) (place : ℕ) (seat : Seat) : Type 0 where
  pub config : config_of seat ≡ c
  pub heap : heap_shared seat ≡ h
  pub number : number_of seat ≡ place
  pub machine : machine_of_seat seat ≡ first_machine (start_of_heap h) place
  pub order : order_in seat ≡ Nothing
  pub steps : steps_in seat ≡ 0
  pub calls : calls_of seat ≡ []

-- all of one heap that begins so, in the order of their numbers
pub record AreFreshSeats (config : Config) (start : Stage Actor) (seats : List Seat) : Type 0 where
  pub heap : Heap
  pub begins : start_of_heap heap ≡ start
  pub count : length seats ≡ seat_count config.mutators config.helpers
  pub each : (index : ℕ) (seat : Seat) → slice_get seats index ≡ Some seat → IsFreshSeat config heap index seat
