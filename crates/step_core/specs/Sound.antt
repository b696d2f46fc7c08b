-- The theorem over every list of events: what holds of each stage that events lead to, and of its history.
use Rattle.std.specs.Int.{bit_at}
use Rattle.std.specs.Prelude.{ℕ, ◌≡◌, ◌≢◌, ◌+◌, ◌<◌, ◌==◌, not, Bool, true, false, List, ◌++◌, length, Option, Some, None, slice_get, slice_index, All}
use Rattle.heap_words.specs.declared.config.Config.{Config}
use Rattle.heap_words.specs.Access.{table_index}
use Rattle.heap_words.specs.Ranges.{seat_count}
use Rattle.heap_words.specs.Words.{Word, Answer, Ask, Pin, view, table_words}
use Rattle.heap_words.specs.Steps.{Stage}
use Rattle.shen_graph.specs.declared.command.Command.{Command}
use Rattle.shen_graph.specs.declared.command.Reply.{Reply}
use Rattle.shen_graph.specs.declared.order.Order.{Order}
use Rattle.shen_graph.specs.Graph.{Graph}
use Rattle.shen_graph.specs.History.{Entry, after, EachIsLegal, of_thread}
use Rattle.shen_graph.specs.Crowd.{AreCrowded}
use Rattle.mutator.specs.declared.spot.Spot.{Spot}
use Rattle.mutator.specs.declared.spot.Spot.TheVariants.{Resolving, Recording, Showing, Leave, Entering, Waiting}
use Rattle.mutator.specs.declared.resolves.Loaded.{Loaded}
use Rattle.mutator.specs.declared.resolves.Loaded.TheVariants.{ForRoot, ToCompare}
use Rattle.mutator.specs.Told.{name_the_same}
use Rattle.mutator.specs.declared.overwrites.Overwritten.{Overwritten}
use Rattle.mutator.specs.declared.overwrites.Overwritten.TheVariants as overwrites
use Rattle.mutator.specs.declared.spot.Entered.TheVariants.{Waited}
use Rattle.mutator.specs.declared.waits.WaitSpot.{WaitSpot}
use Rattle.mutator.specs.declared.waits.WaitSpot.TheVariants as wait
use Rattle.mutator.specs.Commands.{refs_of, nums_of}
use Rattle.mutator.specs.Orders.{is_between_calls}
use Rattle.mutator.specs.Rows.{Mutating, given_at}
use Rattle.heap_world.specs.World.{Ghost, World, Block, Plot, room_of, Shared}
use Rattle.heap_world.specs.Asking.{Asking, nothing, asks, refused, given, IsAsked, PromisedToMutators}
use Rattle.heap_world.specs.Roots.{HasNoMoreRoots, HasNoMorePins}
use Rattle.step_core.specs.Pins.{HoldsPin}
use Rattle.step_core.specs.Actor.{mutating, Actor, entries_of}
use Rattle.step_core.specs.Machines.{takes_of, plan_of, HasNumber, IsFitFor}
use Rattle.step_core.specs.Settled.{settled}
use Rattle.step_core.specs.Own.{HasItsOwn}
use Rattle.step_core.specs.Begun.{scripts_begun}
use Rattle.step_core.specs.Seats.{is_clearing, IsInSeat, IsServed}
use Rattle.step_core.specs.Threads.{IsSettled}

-- the world of a stage: the words that count, a way to divide the regions, ghost state, and a graph
abbrev pub world_of : Config → Stage Actor → Plot → Ghost → Graph → World
world_of config stage block ghost graph = record { memory = settled config stage; block = block; ghost = ghost; graph = graph }

-- the machine of a number is a mutator that stands so
pub record IsMutator (stage : Stage Actor) (number : ℕ) (actor : Actor) (mutator : Mutating) : Type 0 where
  pub here : slice_get stage.machines number ≡ Some actor
  pub is : actor.machine ≡ mutating mutator

-- there is a mutator of this number
pub record SomeMutator (stage : Stage Actor) (number : ℕ) : Type 0 where
  pub actor : Actor
  pub mutator : Mutating
  pub here : IsMutator stage number actor mutator

-- The stage is one of this heap: the table has its words, there are its machines, and the first of them are the mutators, each
-- with its number as its seat.
pub record IsOfHeap (config : Config) (stage : Stage Actor) : Type 0 where
  pub words : length stage.words ≡ table_words config
  pub machines : length stage.machines ≡ seat_count config.mutators config.helpers
  pub roles : (number : ℕ) (actor : Actor) → slice_get stage.machines number ≡ Some actor → HasNumber config number actor.machine
  pub mutators : (number : ℕ) → number < config.mutators → SomeMutator stage number
  pub numbers : (number : ℕ) (actor : Actor) (mutator : Mutating) → IsMutator stage number actor mutator → (mutator.seat ≡ number) × (number < config.mutators)

-- what is asked for, or was given, is the object of the command
abbrev pub IsOfCommand : Command → Asking → Type 0
IsOfCommand command (asks refs nums) = (refs_of command ≡ refs) × (nums_of command ≡ nums)
IsOfCommand command (given refs nums) = (refs_of command ≡ refs) × (nums_of command ≡ nums)
IsOfCommand command _ = Unit {0}

-- it is asked for and not answered; it is answered; by an object
abbrev pub is_request : Asking → Bool
is_request (asks refs nums) = true
is_request _ = false

abbrev pub is_given : Asking → Bool
is_given (given refs nums) = true
is_given _ = false

abbrev pub is_answer : Asking → Bool
is_answer refused = true
is_answer asking = is_given asking

-- What a mutator that stands at a spot has asked for: nothing, until it has stored its request; then its object, also when it has left the
-- heap, and so it looks for an answer that comes; and once it has found one, it has that.
abbrev pub FitsSpot : Spot → Asking → Type 0
FitsSpot (Waiting wait.AskRoom) asking = is_request asking ≡ true
FitsSpot (Waiting wait.StepOut) asking = is_request asking ≡ true
FitsSpot (Waiting wait.Poll) asking = asking ≢ nothing
FitsSpot (Waiting wait.LoadAnswer) asking = is_answer asking ≡ true
FitsSpot (Waiting (wait.StoreRoot address)) asking = is_given asking ≡ true
FitsSpot (Entering spot Waited) asking = is_answer asking ≡ true
FitsSpot _ asking = asking ≡ nothing

-- What a mutator has asked for stands in the words of its requests and answers; and behind the access that asks for a pause, the word of
-- what is asked has the bit that a mutator waits, until it is answered.
pub record HasAsked (world : World) (command : Command) (mutator : Mutating) : Type 0 where
  pub asking : Asking
  pub is : IsAsked world.memory world.block world.graph.count mutator.seat asking
  pub of_command : IsOfCommand command asking
  pub at_spot : FitsSpot mutator.spot asking
  pub heard : is_request asking ≡ true → mutator.spot ≢ Waiting wait.AskRoom → bit_at (world.memory Ask) 1 ≡ 1

-- Words and machines stand for a graph: there is a way to divide the regions into objects of that graph, room of seats, words that only fill
-- and objects that were made for who waits, and ghost state that has of each seat what its machine does, such that each mutator has in
-- its words what its thread has in the graph and what it has asked for, and may use its roots and the object on which it works.
pub record StandsFor (config : Config) (stage : Stage Actor) (graph : Graph) : Type 0 where
  pub block : Plot
  pub ghost : Ghost
  pub shared : Shared config (world_of config stage block ghost graph)
  pub rooms : (address seat : ℕ) (piece : Block) → block address ≡ Some piece → room_of piece ≡ Some seat → seat < seat_count config.mutators config.helpers
  pub promised_to : PromisedToMutators config block
  pub mutators : (number : ℕ) (actor : Actor) (mutator : Mutating) → IsMutator stage number actor mutator → HasItsOwn (world_of config stage block ghost graph) mutator
  pub asked : (number : ℕ) (actor : Actor) (mutator : Mutating) → IsMutator stage number actor mutator → is_clearing mutator.spot ≡ false → HasAsked (world_of config stage block ghost graph) actor.command mutator
  pub seats : (number : ℕ) (actor : Actor) → slice_get stage.machines number ≡ Some actor → IsInSeat config (world_of config stage block ghost graph) number actor.machine
  pub served : (number : ℕ) (actor : Actor) (mutator : Mutating) → IsMutator stage number actor mutator → IsServed config (world_of config stage block ghost graph) actor.command mutator

-- Whether the reply of the call in progress is settled: what the call has found is on its way into a root, or it leaves. Of who
-- waits it is where the answer in the table says that the heap is full.
abbrev pub has_waited : ℕ → WaitSpot → Bool
has_waited answer wait.Poll = answer == 1
has_waited answer wait.LoadAnswer = answer == 1
has_waited answer (wait.ClearAnswer reply) = true
has_waited answer _ = false

-- of who records what it has overwritten, where it has overwritten it
abbrev pub has_overwritten : Overwritten → Bool
has_overwritten (overwrites.Set object value) = false
has_overwritten _ = true

-- of who resolves what it has found in a field: for a root it is, and to exchange the field where it names another object than is to be
-- there
abbrev pub has_loaded : (Word → ℕ) → (found : ℕ) → Loaded → Bool
has_loaded memory found ForRoot = true
has_loaded memory found (ToCompare object expect value) = not (name_the_same memory found expect)

abbrev pub has_settled : (Word → ℕ) → ℕ → Spot → Bool
has_settled memory answer (Resolving address spot next) = has_loaded memory address next
has_settled memory answer (Recording spot address next) = has_overwritten next
has_settled memory answer (Showing value spot) = true
has_settled memory answer (Leave reply) = true
has_settled memory answer (Entering spot Waited) = answer == 1
has_settled memory answer (Waiting spot) = has_waited answer spot
has_settled memory answer _ = false

-- The entries of a mutator in the history are the calls that it has ended and, where the reply of its call in progress is
-- settled, one more, of that call. Between two calls there is no more; the reply that ends a call is the settled one, and so is that with
-- which a mutator clears its answer.
-- `memory` has the words that count, and `answer` is the mutator's answer word in the table.
pub record AreCalls (memory : Word → ℕ) (answer : ℕ) (entries : List Entry) (number : ℕ) (actor : Actor) (mutator : Mutating) : Type 0 where
  pub fixed : Option Reply
  pub entries_are : entries ≡ actor.calls ++ entries_of number actor.command fixed
  pub between_calls : is_between_calls mutator.spot ≡ true → fixed ≡ None
  pub before_it : has_settled memory answer mutator.spot ≡ false → fixed ≡ None
  pub after_it : has_settled memory answer mutator.spot ≡ true → fixed ≢ None
  pub gives : (reply : Reply) → given_at mutator.spot ≡ Some reply → fixed ≡ Some reply
  pub took : (reply : Reply) → mutator.spot ≡ Waiting (wait.ClearAnswer reply) → fixed ≡ Some reply

-- a machine's next access is of a word of the table, and the word that it finds there is fit
pub record FindsFit (config : Config) (stage : Stage Actor) (actor : Actor) : Type 0 where
  pub inside : (order : Order) → takes_of actor.machine order ≡ true → table_index (plan_of config order actor.machine) < table_words config
  pub fit : (order : Order) → takes_of actor.machine order ≡ true → IsFitFor config order (slice_index stage.words (table_index (plan_of config order actor.machine))) actor.machine

-- The theorem, of a stage to which events lead from one that begins a graph, and of the history of the events.
pub record IsSound (config : Config) (graph : Graph) (stage : Stage Actor) (past : List Entry) : Type 0 where
  -- the words and machines of the heap are there
  pub of_heap : IsOfHeap config stage
  -- words and machines stand for the graph after the history
  pub stands : StandsFor config stage (after graph past)
  -- the history is legal, and who was refused was crowded out, of the regions without a pinned object, by live objects that are not pinned
  -- and the other threads' allocations
  pub legal : EachIsLegal config.regions config.region_words graph past
  pub crowded : AreCrowded config.regions config.region_words graph (scripts_begun config stage) past
  -- each entry is of a thread of the heap, and no thread has more roots than its 16, and more pin slots than its 4
  pub entries : All (IsSettled config.mutators) past
  pub no_more : HasNoMoreRoots config.mutators (after graph past)
  pub no_more_pins : HasNoMorePins config.mutators (after graph past)
  -- each pin word is 0 where the slot is empty, and else the place of its object, which is its current copy and has not moved
  pub pinned : (mutator index : ℕ) → mutator < config.mutators → index < 4 → HoldsPin (settled config stage) (settled config stage (Pin mutator index)) ((after graph past).pin (mutator + 1) index)
  -- the entries of each mutator are its calls, and one more where the call in progress is settled
  pub threads : (number : ℕ) (actor : Actor) (mutator : Mutating) → IsMutator stage number actor mutator → AreCalls (settled config stage) (view config stage.words (Answer number)) (of_thread past (number + 1)) number actor mutator
  -- each machine finds a fit word
  pub fit : (number : ℕ) (actor : Actor) → slice_get stage.machines number ≡ Some actor → FindsFit config stage actor
