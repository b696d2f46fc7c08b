-- What callers know of a seat: one machine of a heap, and its share of the heap.
use Rattle.std.specs.Prelude.{ℕ, ◌≡◌, Bool, nat_lt, List, Option, Some, None, unwrap_or, if◌then◌else◌}
use Rattle.std.specs.Arc.{arc_value}
use Rattle.heap_words.specs.declared.config.Config.{Config}
use Rattle.heap_words.specs.declared.place.Place.{Place}
use Rattle.shen_graph.specs.declared.command.Command.{Command}
use Rattle.shen_graph.specs.declared.order.Order.{Order}
use Rattle.shen_graph.specs.History.{Entry}
use Rattle.heap_words.specs.Steps.{Stage}
use Rattle.shared_table.specs.Views.{machine_of}
use Rattle.step_core.specs.Actor.{Machine, Actor, command_by}
use Rattle.step_core.specs.Machines.{may_begin, made_of_machine, place_in}
use Rattle.heap_machines.specs.Roles.{phase_in}
use Rattle.table_heap.specs.declared.heap.Heap.{Heap}
use Rattle.table_heap.specs.Core.{nobody}
use Rattle.table_heap.specs.State.{start_of_heap, view_of, machine_at, order_at, steps_at, has_turn}
use Rattle.heap_seats.specs.declared.progress.State.{State}
use Rattle.heap_seats.specs.declared.progress.State.TheVariants.{Free, AtWork, Ended}
use Rattle.heap_seats.specs.declared.seat.Seat.{Seat}

-- the sizes of its heap, its machine's number, counted from 0, and the heap that it shares
abbrev pub config_of : Seat → Config
config_of seat = seat.config

abbrev pub number_of : Seat → ℕ
number_of seat = seat.number

abbrev pub heap_shared : Seat → Heap
heap_shared seat = arc_value seat.heap

-- where that heap began
abbrev pub start_of_seat : Seat → Stage Actor
start_of_seat seat = start_of_heap (heap_shared seat)

-- its machine, as events see it, with the calls that it has ended
abbrev pub actor_in : Seat → Actor
actor_in seat = unwrap_or (machine_of (view_of seat.bundle) seat.number) nobody

-- and as memory has it, with the order that it was given, and how many steps it has made
abbrev pub machine_of_seat : Seat → Machine
machine_of_seat seat = machine_at seat.bundle seat.number

abbrev pub order_in : Seat → Order
order_in seat = order_at seat.bundle seat.number

abbrev pub steps_in : Seat → ℕ
steps_in seat = steps_at seat.bundle seat.number

-- the calls that it has ended, with their replies
abbrev pub calls_of : Seat → List Entry
calls_of seat = (actor_in seat).calls

-- the command that it was ordered to begin, or else that of its last call, ended or not
abbrev pub doing_in : Seat → Command
doing_in seat = command_by (order_in seat) (actor_in seat).command

-- how many objects it has made
abbrev pub objects_made_by : Seat → ℕ
objects_made_by seat = made_of_machine (machine_of_seat seat)

-- whether it is a mutator
abbrev pub is_mutator : Seat → Bool
is_mutator seat = nat_lt seat.number seat.config.mutators

-- the place of its next access, if it has a step to make under its order
abbrev pub place_of_seat : Seat → Option Place
place_of_seat seat = if has_turn seat.bundle seat.number then Some (place_in (order_in seat) (machine_of_seat seat)) else None

-- the phase that the control's last pause has chosen, if it is the control's seat
abbrev pub phase_of_seat : Seat → Option ℕ
phase_of_seat seat = phase_in (machine_of_seat seat)

-- whether it has a step to make, may be given an order, or has ended
abbrev pub state_by : (turn may : Bool) → State
state_by turn may = if turn then AtWork else (if may then Free else Ended)

abbrev pub state_in : Seat → State
state_in seat = state_by (has_turn seat.bundle seat.number) (may_begin (machine_of_seat seat))

-- it is the seat of the same machine of the same heap
pub record IsSameSeat (old new : Seat) : Type 0 where
  pub config : config_of new ≡ config_of old
  pub number : number_of new ≡ number_of old
  pub heap : heap_shared new ≡ heap_shared old
