-- What belongs to a reply, and what is told of a seat.
use Rattle.std.specs.Prelude.{ℕ, ◌+◌, ◌-◌, nat_lt, List, [], ◌∷◌, Option, Some, None, unwrap_or, if◌then◌else◌}
use Rattle.heap_words.specs.declared.place.Place.{Place}
use Rattle.heap_words.specs.Place.{code_of}
use Rattle.shen_graph.specs.declared.command.Reply.{Reply}
use Rattle.shen_graph.specs.declared.command.Reply.TheVariants as reply
use Rattle.shen_graph.specs.Valid.{most_objects}
use Rattle.heap_seats.specs.declared.progress.Progress.{Progress}
use Rattle.heap_seats.specs.declared.progress.Progress.TheVariants as progress
use Rattle.heap_seats.specs.declared.progress.State.{State}
use Rattle.heap_seats.specs.declared.progress.State.TheVariants.{Free, AtWork, Ended}
use Rattle.heap_seats.specs.declared.seat.Seat.{Seat}
use Rattle.heap_seats.specs.Seats.{config_of, number_of, objects_made_by, is_mutator, place_of_seat, phase_of_seat, state_in}
use Rattle.covremuj.specs.declared.border.Value.{Value}
use Rattle.covremuj.specs.declared.border.Told.{Told}

abbrev pub value_of : Reply → Value
value_of (reply.Ref name) = record { number = 0; thread = name.thread; count = name.count }
value_of (reply.Number value) = record { number = value; thread = 0; count = 0 }
value_of (reply.At place) = record { number = place; thread = 0; count = 0 }
value_of _ = record { number = 0; thread = 0; count = 0 }

-- it is written with a reply, and only then
abbrev pub value_after : Progress → Value → Value
value_after (progress.Replied reply) before = value_of reply
value_after _ before = before

abbrev pub kind_of : Seat → ℕ
kind_of seat = if is_mutator seat then 1 else (if nat_lt (number_of seat) ((config_of seat).mutators + (config_of seat).helpers) then 2 else 3)

abbrev pub state_number : State → ℕ
state_number Free = 0
state_number AtWork = 1
state_number Ended = 2

-- the two letters or digits of a place, in ASCII, or zeros where there is none
abbrev pub place_code : Option Place → List ℕ
place_code None = 0 ∷ 0 ∷ []
place_code (Some place) = code_of place

abbrev pub told_of : Seat → Told
told_of seat = record {
  number = number_of seat + 1;
  kind = kind_of seat;
  state = state_number (state_in seat);
  made = objects_made_by seat;
  left = if is_mutator seat then most_objects - objects_made_by seat else 0;
  phase = unwrap_or (phase_of_seat seat) 0;
  place = place_code (place_of_seat seat);
  place_end = 0 ∷ 0 ∷ 0 ∷ 0 ∷ 0 ∷ 0 ∷ [];
}
