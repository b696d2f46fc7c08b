-- What a seat has done that was asked for steps.
use Rattle.std.specs.Prelude.{ℕ, ◌≡◌, ◌+◌, ◌≤◌, Bool, true, false, List, [], ◌∷◌, ◌++◌, length, replicate, Option, Some, None, if◌then◌else◌}
use Rattle.heap_words.specs.declared.config.Config.{Config}
use Rattle.shen_graph.specs.declared.command.Reply.{Reply}
use Rattle.shen_graph.specs.declared.order.Order.{Order}
use Rattle.shen_graph.specs.declared.order.Order.TheVariants.{Nothing}
use Rattle.shen_graph.specs.Graph.{Graph}
use Rattle.shen_graph.specs.History.{Entry, of_thread}
use Rattle.heap_words.specs.Steps.{Stage, Event}
use Rattle.heap_machines.specs.Answer.{says}
use Rattle.heap_machines.specs.Pause.{pause_image}
use Rattle.heap_machines.specs.declared.stepped.Stepped.{Stepped}
use Rattle.heap_machines.specs.declared.stepped.Stepped.TheVariants as stepped
use Rattle.step_core.specs.Actor.{Machine, Actor, entries_of}
use Rattle.step_core.specs.Machines.{is_resting, reply_in, takes_of, machine_after}
use Rattle.heap_seats.specs.declared.progress.State.{State}
use Rattle.heap_seats.specs.declared.progress.State.TheVariants.{Free, AtWork, Ended}
use Rattle.heap_seats.specs.declared.progress.Progress.{Progress}
use Rattle.heap_seats.specs.declared.progress.Progress.TheVariants as progress
use Rattle.heap_seats.specs.declared.seat.Seat.{Seat}
use Rattle.heap_seats.specs.Histories.{past_of, IsLegalFrom, OfEachBegun}
use Rattle.heap_seats.specs.Seats.{config_of, number_of, start_of_seat, actor_in, machine_of_seat, order_in, steps_in, calls_of, doing_in, is_mutator, state_in, IsSameSeat}

-- Calls of a thread are its part of the history of these events, which is legal from a graph.
pub record IsThreadsPart (config : Config) (start : Stage Actor) (events : List (Event Order)) (thread : ℕ) (calls : List Entry) (first : Graph) : Type 0 where
  pub legal : IsLegalFrom config start events first
  pub part : of_thread (past_of config start events) thread ≡ calls

-- They are its part of the history of some events from where its heap began. That history is legal, and each allocation that it
-- refuses was crowded out, from each graph with which the heap may have begun.
pub record ArePartOfHistory (config : Config) (start : Stage Actor) (thread : ℕ) (calls : List Entry) : Type 0 where
  pub events : List (Event Order)
  pub history : OfEachBegun config start (IsThreadsPart config start events thread calls)

-- nothing has changed
pub record IsAsItWas (old new : Seat) : Type 0 where
  pub actor : actor_in new ≡ actor_in old
  pub machine : machine_of_seat new ≡ machine_of_seat old
  pub order : order_in new ≡ order_in old
  pub steps : steps_in new ≡ steps_in old

-- the reply that a step has given, by what it said and the machine after it
abbrev pub given_by : Stepped → Machine → Option Reply
given_by stepped.Done machine = reply_in machine
given_by _ machine = None

-- what a machine says of a step under an order that finds this word: that it is idle, where it takes no such order
abbrev pub said_of_step : Config → Order → Machine → ℕ → Stepped
said_of_step config order machine got = if takes_of machine order then says config order machine got else stepped.Idle

-- It has made one step, which found a word and said so. Where that ended its call, the call with its reply is the last of its calls, and
-- else they are as they were.
pub record HasStepped (old new : Seat) (said : Stepped) : Type 0 where
  pub got : ℕ
  pub machine : machine_of_seat new ≡ machine_after pause_image (config_of old) (order_in old) got (machine_of_seat old)
  pub answers : said ≡ said_of_step (config_of old) (order_in old) (machine_of_seat old) got
  pub calls : calls_of new ≡ calls_of old ++ entries_of (number_of old) (doing_in old) (given_by said (machine_of_seat new))
  pub doing : doing_in new ≡ doing_in old
  pub order : order_in new ≡ Nothing
  pub steps : steps_in new ≡ steps_in old + 1

-- ---- several steps

-- what a machine is after steps that found these words, the first under this order and the others under none
abbrev pub machine_through : Config → Order → List ℕ → Machine → Machine
machine_through config order [] machine = machine
machine_through config order (got ∷ words) machine = machine_through config Nothing words (machine_after pause_image config order got machine)

-- what each of them says
abbrev pub said_through : Config → Order → List ℕ → Machine → List Stepped
said_through config order [] machine = []
said_through config order (got ∷ words) machine = said_of_step config order machine got ∷ said_through config Nothing words (machine_after pause_image config order got machine)

-- the order that is left after them
abbrev pub order_left : Order → List ℕ → Order
order_left order [] = order
order_left order (got ∷ words) = Nothing

-- what the last step says where this is told, if more than that there is more to do
abbrev pub said_last : Progress → List Stepped
said_last (progress.Replied reply) = stepped.Done ∷ []
said_last progress.Again = stepped.Again ∷ []
said_last _ = []

-- It has made steps that found these words, under the order that it had. Each said that there is more to do, but for the last, which ended
-- the call where a reply is told, and waits where the seat is to look again: it stops at the first that does either.
pub record HasMadeSteps (old new : Seat) (told : Progress) : Type 0 where
  pub words : List ℕ
  pub before : ℕ
  pub count : steps_in new ≡ steps_in old + length words
  pub machine : machine_of_seat new ≡ machine_through (config_of old) (order_in old) words (machine_of_seat old)
  pub order : order_in new ≡ order_left (order_in old) words
  pub said : said_through (config_of old) (order_in old) words (machine_of_seat old) ≡ replicate before stepped.More ++ said_last told

-- what is left to do in a state
abbrev pub progress_at : State → Progress
progress_at Free = progress.Idle
progress_at AtWork = progress.More
progress_at Ended = progress.Ended

-- the reply that was told
abbrev pub reply_told : Progress → Option Reply
reply_told (progress.Replied reply) = Some reply
reply_told _ = None

-- what was told fits the state: who has more to do is at work, and who was idle or has ended is so
abbrev pub FitsState : Progress → Machine → State → Type 0
FitsState (progress.Replied reply) machine state = reply_in machine ≡ Some reply
FitsState progress.Again machine state = Unit {0}
FitsState told machine state = progress_at state ≡ told

-- whether it may be told of a helper or the control: these give no reply, and have something to do until they have ended
abbrev pub is_of_worker : Progress → Bool
is_of_worker (progress.Replied reply) = false
is_of_worker progress.Idle = false
is_of_worker _ = true

-- It has made at most so many steps, and exactly so many where there is more to do, and stopped at the first that ended its call or waits;
-- none where it is told to be idle. Where a reply was told, the call with that reply is the last of its calls, and else they are as they were; and whenever no call is in
-- progress, its calls stand in a legal history.
pub record HasGoneOn (old new : Seat) (steps : ℕ) (said : Progress) : Type 0 where
  pub same : IsSameSeat old new
  pub calls : calls_of new ≡ calls_of old ++ entries_of (number_of old) (doing_in old) (reply_told said)
  pub doing : doing_in new ≡ doing_in old
  pub most : steps_in new ≤ steps_in old + steps
  pub all : said ≡ progress.More → steps_in new ≡ steps_in old + steps
  pub made : HasMadeSteps old new said
  pub told : FitsState said (machine_of_seat new) (state_in new)
  pub idle : said ≡ progress.Idle → IsAsItWas old new
  pub worker : is_mutator new ≡ false → is_of_worker said ≡ true
  pub legal : is_resting (machine_of_seat new) ≡ true → ∥ ArePartOfHistory (config_of new) (start_of_seat new) (number_of new + 1) (calls_of new) ∥₁
