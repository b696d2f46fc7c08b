-- The rows of the steps by which a mutator enters the heap, and of those by which it waits for an object that a pause makes
-- for it.
use Rattle.std.specs.Prelude.{ℕ, ◌+◌, ◌==◌, if◌then◌else◌}
use Rattle.heap_words.specs.declared.place.Place.{Place}
use Rattle.heap_words.specs.declared.place.Place.TheVariants as place
use Rattle.heap_words.specs.declared.access.Took.{Took}
use Rattle.heap_words.specs.declared.access.Took.TheVariants.{More, Again}
use Rattle.heap_words.specs.Words.{State, Ask, Root, Wait, Answer}
use Rattle.heap_words.specs.Encoding.{shape_word, request_code}
use Rattle.heap_words.specs.Touch.{Touch, touch, loads, stores, sets_bits}
use Rattle.shen_graph.specs.declared.name.Name.{Name}
use Rattle.shen_graph.specs.declared.command.Command.{Command}
use Rattle.shen_graph.specs.declared.command.Reply.TheVariants as reply
use Rattle.handshake.specs.declared.enter_spot.EnterSpot.{EnterSpot}
use Rattle.handshake.specs.declared.enter_spot.EnterSpot.TheVariants.{Raise, Inside}
use Rattle.mutator.specs.declared.spot.Entered.{Entered}
use Rattle.mutator.specs.declared.spot.Entered.TheVariants.{Call, Waited}
use Rattle.mutator.specs.declared.spot.Spot.{Spot}
use Rattle.mutator.specs.declared.spot.Spot.TheVariants.{Entering, LoadPhase, Waiting, Leave}
use Rattle.mutator.specs.declared.waits.WaitSpot.{WaitSpot}
use Rattle.mutator.specs.declared.waits.WaitSpot.TheVariants as wait
use Rattle.mutator.specs.Commands.{dst_of, refs_of, nums_of}

-- what a step of a call says where its part says so: once a part is done, the call goes on
abbrev pub call_says : Took → Took
call_says Again = Again
call_says _ = More

-- where a mutator stands that enters: once it is inside, a call begins with the phase, and one that has waited has its answer
abbrev pub after_enter : Entered → EnterSpot → Spot
after_enter Call Inside = LoadPhase
after_enter Waited Inside = Waiting wait.LoadAnswer
after_enter next spot = Entering spot next

-- the place of the next access
abbrev pub wait_place : WaitSpot → Place
wait_place wait.StoreRequest = place.WS
wait_place wait.AskRoom = place.WK
wait_place wait.StepOut = place.WO
wait_place wait.Poll = place.WP
wait_place wait.LoadAnswer = place.WL
wait_place (wait.StoreRoot address) = place.RS
wait_place (wait.ClearAnswer reply) = place.WC

-- the word with which a mutator that has made so many objects asks for the object of a command
abbrev pub request_of : ℕ → Command → ℕ
request_of made command = request_code (made + 1) (shape_word (refs_of command) (nums_of command))

-- the next access
abbrev pub wait_touch : ℕ → ℕ → Command → WaitSpot → Touch
wait_touch seat made command wait.StoreRequest = touch (Wait seat) (stores (request_of made command))
wait_touch seat made command wait.AskRoom = touch Ask (sets_bits 2)
wait_touch seat made command wait.StepOut = touch (State seat) (stores 0)
wait_touch seat made command wait.Poll = touch (Answer seat) loads
wait_touch seat made command wait.LoadAnswer = touch (Answer seat) loads
wait_touch seat made command (wait.StoreRoot address) = touch (Root seat (dst_of command)) (stores address)
wait_touch seat made command (wait.ClearAnswer reply) = touch (Answer seat) (stores 0)

-- the name of a mutator's next object
abbrev pub next_name : ℕ → ℕ → Name
next_name seat made = record { thread = seat + 1; count = made + 1 }

-- where it goes on after its access, by the word that it was told. An answer of 1 says that the heap is full; any other is the
-- address of the object
abbrev pub wait_next : ℕ → ℕ → WaitSpot → ℕ → Spot
wait_next seat made wait.StoreRequest got = Waiting wait.AskRoom
wait_next seat made wait.AskRoom got = Waiting wait.StepOut
wait_next seat made wait.StepOut got = Waiting wait.Poll
wait_next seat made wait.Poll got = if got == 0 then Waiting wait.Poll else Entering Raise Waited
wait_next seat made wait.LoadAnswer got = Waiting (if got == 1 then wait.ClearAnswer reply.Full else wait.StoreRoot got)
wait_next seat made (wait.StoreRoot address) got = Waiting (wait.ClearAnswer (reply.Ref (next_name seat made)))
wait_next seat made (wait.ClearAnswer reply) got = Leave reply

-- how many objects the mutator has made then
abbrev pub wait_made : ℕ → WaitSpot → ℕ
wait_made made (wait.StoreRoot address) = made + 1
wait_made made _ = made

-- what the step says: there is no answer yet, or it goes on
abbrev pub wait_says : WaitSpot → ℕ → Took
wait_says wait.Poll got = if got == 0 then Again else More
wait_says _ got = More
