-- What machines do, by their roles: the orders that they take, their accesses, what follows, what they say, what their accesses settle,
-- where they stand, and what they can go on from. Each function has one clause a role. Two files of definitions tell the roles apart
-- besides: `Shown.antt` of heap_machines, for the machines in memory, and `InHand.antt` of cycle_runs, for the addresses in hand.
use Rattle.std.specs.Prelude.{ℕ, ◌≡◌, ◌+◌, ◌<◌, ◌≤◌, ◌==◌, Bool, true, false, ◌&&◌, List, [], ◌++◌, length, Option, Some, None, slice_get, slice_index, if◌then◌else◌}
use Rattle.heap_words.specs.declared.config.Config.{Config}
use Rattle.heap_words.specs.declared.access.Access.{Access}
use Rattle.heap_words.specs.declared.access.Took.{Took}
use Rattle.heap_words.specs.declared.access.Took.TheVariants.{Again}
use Rattle.heap_words.specs.declared.place.Place.{Place}
use Rattle.heap_words.specs.Place.{same_place}
use Rattle.heap_words.specs.Words.{Word, Answer, image_start}
use Rattle.heap_words.specs.Rows.{name_of}
use Rattle.heap_world.specs.Change.{Change}
use Rattle.heap_words.specs.Touch.{placed}
use Rattle.heap_words.specs.Steps.{MachineKind, Stage}
use Rattle.shen_graph.specs.declared.command.Command.{Command}
use Rattle.shen_graph.specs.declared.command.Command.TheVariants.{Gc}
use Rattle.shen_graph.specs.declared.command.Reply.{Reply}
use Rattle.shen_graph.specs.declared.command.Reply.TheVariants.{Full}
use Rattle.shen_graph.specs.declared.order.Order.{Order}
use Rattle.shen_graph.specs.declared.order.Order.TheVariants.{Nothing, Begin, End, Hint}
use Rattle.shen_graph.specs.Order.{hint_in}
use Rattle.shen_graph.specs.Graph.{Graph}
use Rattle.shen_graph.specs.History.{Entry}
use Rattle.handshake.specs.Standing.{Standing}
use Rattle.mutator.specs.declared.spot.Spot.{Spot}
use Rattle.mutator.specs.declared.spot.Spot.TheVariants.{Recording, Waiting, Leave}
use Rattle.mutator.specs.declared.overwrites.Overwritten.{Overwritten}
use Rattle.mutator.specs.declared.overwrites.Overwritten.TheVariants as overwrites
use Rattle.mutator.specs.declared.waits.WaitSpot.TheVariants as wait
use Rattle.mutator.specs.Orders.{is_between_calls, takes_commands, takes_at}
use Rattle.mutator.specs.Rows.{touch_of, next_of, given_at, answer_at, reply_at, place_at}
use Rattle.mutator.specs.Rows as mutators
use Rattle.mutator.specs.Told.{told_of}
use Rattle.mutator.specs.Fit.{IsFit}
use Rattle.mutator.specs.Waits.{WaitsAt}
use Rattle.collector_rows.specs.declared.help_spot.HelpSpot.TheVariants.{LoadEnd}
use Rattle.collector_rows.specs.HelperRows as help
use Rattle.collector_rows.specs.HelperRows.{Helping, help_place, help_touch, help_next, help_says, help_hinted}
use Rattle.collector_rows.specs.HelperWaits as helpers
use Rattle.collector_rows.specs.HelperReady as ready
use Rattle.collector_rows.specs.declared.control_spot.ControlSpot.{ControlSpot}
use Rattle.collector_rows.specs.declared.control_spot.ControlSpot.TheVariants.{LookLeft, StoreWord}
use Rattle.collector_rows.specs.ControlRows.{Controlling, control_place, control_access, control_next, control_says, is_gone, control_hinted}
use Rattle.collector_rows.specs.ControlRows as controls
use Rattle.collector_rows.specs.ControlWaits as control
use Rattle.collector_rows.specs.Extent.{Counting}
use Rattle.collector_rows.specs.ControlReady.{UnitGoesOn}
use Rattle.step_core.specs.Actor.{Machine, mutating, helping, controlling, Actor, entries_of, command_by}
use Rattle.step_core.specs.Fit.{IsWholeImage}
use Rattle.step_core.specs.Standing.{standing_at, help_standing, control_standing}

-- whether it takes hints: it stands at MC, about to claim a unit of marking
abbrev pub takes_hint : Machine → Bool
takes_hint (mutating mutator) = false
takes_hint (helping helper) = help.takes_hint helper.spot
takes_hint (controlling own_control) = controls.takes_hint own_control.spot

-- whether an order is one for a helper or the control: none, or a hint where it takes hints
abbrev pub is_for_working : Bool → Order → Bool
is_for_working hints Nothing = true
is_for_working hints (Begin command) = false
is_for_working hints End = false
is_for_working hints (Hint address) = hints

-- whether it takes the order
abbrev pub takes_of : Machine → Order → Bool
takes_of (mutating mutator) order = takes_at mutator.spot mutator.made order
takes_of (helping helper) order = is_for_working (help.takes_hint helper.spot) order && (if help.is_gone helper.spot then false else true)
takes_of (controlling own_control) order = is_for_working (controls.takes_hint own_control.spot) order && (if is_gone own_control.spot then false else true)

-- A helper, and the control, as it goes on under an order: with a hint at the word that has the mark of the hint's address.
abbrev pub helping_by : Config → Order → Helping → Helping
helping_by config order helper = help_hinted config (hint_in order) helper

abbrev pub controlling_by : Config → Order → Controlling → Controlling
controlling_by config order own_control = control_hinted config (hint_in order) own_control

-- and any machine: what a mutator does under an order stands in its own rows
abbrev pub ordered : Config → Order → Machine → Machine
ordered config order (mutating mutator) = mutating mutator
ordered config order (helping helper) = helping (helping_by config order helper)
ordered config order (controlling own_control) = controlling (controlling_by config order own_control)

-- its next access, under an order
abbrev pub plan_of : Config → Order → Machine → Access
plan_of config order (mutating mutator) = placed config (touch_of config mutator order)
plan_of config order (helping helper) = placed config (help_touch config (helping_by config order helper))
plan_of config order (controlling own_control) = control_access config (controlling_by config order own_control)

-- the address that its next access makes grey, if it does so, as it does at GO alone
abbrev pub greys_of : Machine → Option ℕ
greys_of (mutating mutator) = mutators.greys_at mutator.spot
greys_of (helping helper) = help.greys_at helper.spot
greys_of (controlling own_control) = controls.greys_at own_control.spot

-- how many hints it has taken, up to 2^64 - 1
abbrev pub hints_of : Machine → ℕ
hints_of (mutating mutator) = 0
hints_of (helping helper) = helper.hints
hints_of (controlling own_control) = own_control.hints

-- the place of its next access. One that takes a hint stands where it would claim
abbrev pub place_in : Order → Machine → Place
place_in order (mutating mutator) = place_at order mutator.spot
place_in order (helping helper) = help_place helper
place_in order (controlling own_control) = control_place own_control.spot

-- what it is after the access, by the word that it found
abbrev pub machine_after : Change → Config → Order → ℕ → Machine → Machine
machine_after change config order got (mutating mutator) = mutating (next_of config mutator order got)
machine_after change config order got (helping helper) = helping (help_next config (helping_by config order helper) got)
machine_after change config order got (controlling own_control) = controlling (control_next change config (controlling_by config order own_control) got)

-- what it says of the step under an order that finds this word: nothing where it never makes one
abbrev pub answer_of : Config → Order → Machine → ℕ → Option Took
answer_of config order (mutating mutator) got = Some (answer_at config mutator.kept mutator.spot got)
answer_of config order (helping helper) got = Some (help_says config (helping_by config order helper) got)
answer_of config order (controlling own_control) got = Some (control_says config (controlling_by config order own_control) got)

-- the calls that its step ends, in a call of this command
abbrev pub ended_by : Command → Machine → List Entry
ended_by command (mutating mutator) = entries_of mutator.seat command (given_at mutator.spot)
ended_by command _ = []

-- the command of a machine
abbrev pub command_at : Option Actor → Command
command_at None = Gc
command_at (Some actor) = actor.command

-- Where a pause writes the answer 1 over none, it is settled that the heap is full for the thread that waits for it.
abbrev pub told_word : List Actor → Word → (before after : ℕ) → List Entry
told_word machines (Answer mutator) before after = entries_of mutator (command_at (slice_get machines mutator)) (if (before == 0) && (after == 1) then Some Full else None)
told_word machines _ before after = []

abbrev pub told_storing : Config → Stage Actor → ControlSpot → List ℕ → List Entry
told_storing config stage (StoreWord index extent) image = told_word stage.machines (name_of config (image_start config + index)) (slice_index stage.words (image_start config + index)) (slice_index image index)
told_storing config stage _ image = []

-- what its step settles, by the words that count: entries of any threads
abbrev pub told_with : Config → (Word → ℕ) → Stage Actor → Actor → Order → Machine → List Entry
told_with config memory stage actor order (mutating mutator) = entries_of mutator.seat (command_by order actor.command) (told_of memory mutator)
told_with config memory stage actor order (helping helper) = []
told_with config memory stage actor order (controlling own_control) = told_storing config stage own_control.spot own_control.image

-- the image that counts, if one does: while the control writes it back
abbrev pub stored_image : ControlSpot → List ℕ → Option Counting
stored_image (StoreWord index extent) image = Some (record { extent = extent; image = image })
stored_image _ image = None

-- and of a machine
abbrev pub image_read : Machine → Option Counting
image_read (controlling own_control) = stored_image own_control.spot own_control.image
image_read _ = None

-- what a mutator does between two calls: it begins the command that follows in its script, and ends where there is none
abbrev pub next_order : Option Command → Order
next_order None = End
next_order (Some command) = Begin command

-- What it does on its turn, by the command that would follow. In a call it goes on, and so does a helper, and the control. Between two
-- calls a mutator begins that command, and ends where there is none. It is idle where it has ended.
abbrev pub order_for : Option Command → Machine → Option Order
order_for next_command (mutating mutator) = if takes_commands mutator.spot then Some (next_order next_command) else (if is_between_calls mutator.spot then None else Some Nothing)
order_for next_command (helping helper) = if help.is_gone helper.spot then None else Some Nothing
order_for next_command (controlling own_control) = if is_gone own_control.spot then None else Some Nothing

-- and by its script and the calls that it has ended
abbrev pub order_by : List Command → List Entry → Machine → Option Order
order_by script calls machine = order_for (slice_get script (length calls)) machine

-- whether its next access, under what it does on its turn, stands at a place. A machine that is idle stands nowhere
abbrev pub is_machine_at : Place → Machine → Option Order → Bool
is_machine_at place machine None = false
is_machine_at place machine (Some order) = same_place (place_in order machine) place

-- the reply of its last call, between two calls
abbrev pub reply_in : Machine → Option Reply
reply_in (mutating mutator) = reply_at mutator.spot
reply_in _ = None

-- the reply that its step gives, if it ends a call
abbrev pub reply_of_step : Machine → Option Reply
reply_of_step (mutating mutator) = given_at mutator.spot
reply_of_step _ = None

-- whether it is a mutator
abbrev pub is_mutating : Machine → Bool
is_mutating (mutating mutator) = true
is_mutating _ = false

-- the control that it is, if it is the control
abbrev pub control_in : Machine → Option Controlling
control_in (controlling own_control) = Some own_control
control_in _ = None

-- whether it is a mutator without a call in progress
abbrev pub is_resting : Machine → Bool
is_resting (mutating mutator) = is_between_calls mutator.spot
is_resting _ = false

-- whether it may be given a command, or the end: a mutator between two calls that has not ended
abbrev pub may_begin : Machine → Bool
may_begin (mutating mutator) = takes_commands mutator.spot
may_begin _ = false

-- whether it has ended, of a machine that says so: the control
abbrev pub has_ended_of : Machine → Bool
has_ended_of (controlling own_control) = is_gone own_control.spot
has_ended_of _ = false

-- where it stands, as far as entering, leaving and stopping go
abbrev pub standing_of : Machine → Standing
standing_of (mutating mutator) = standing_at mutator.spot
standing_of (helping helper) = help_standing helper.spot
standing_of (controlling own_control) = control_standing own_control.spot

-- whether it can go on from a word
abbrev pub IsFitFor : Config → Order → ℕ → Machine → Type 0
IsFitFor config order got (mutating mutator) = IsFit config mutator order got
IsFitFor config order got (helping helper) = ready.IsFit config (helping_by config order helper) got
IsFitFor config order got (controlling own_control) = IsWholeImage config own_control.phase own_control.spot own_control.image got × UnitGoesOn config (controlling_by config order own_control).spot got

-- where its step under an order that finds this word says that it waits
abbrev pub WaitsIn : Config → Order → Machine → ℕ → Type 0
WaitsIn config order (mutating mutator) got = WaitsAt mutator.spot got
WaitsIn config order (helping helper) got = helpers.WaitsAt config (helping_by config order helper) got
WaitsIn config order (controlling own_control) got = control.WaitsAt config (controlling_by config order own_control) got

-- how many objects it has made
abbrev pub made_of_machine : Machine → ℕ
made_of_machine (mutating mutator) = mutator.made
made_of_machine _ = 0

-- how many replies are at hand, of calls that have done their work: 1 where a mutator leaves or clears its answer, or records what
-- its Cas has overwritten, else none
abbrev pub recorded_at_hand : Overwritten → ℕ
recorded_at_hand overwrites.Cas = 1
recorded_at_hand _ = 0

abbrev pub at_hand : Spot → ℕ
at_hand (Leave reply) = 1
at_hand (Recording spot address next) = recorded_at_hand next
at_hand (Waiting (wait.ClearAnswer reply)) = 1
at_hand _ = 0

abbrev pub at_hand_of : Machine → ℕ
at_hand_of (mutating mutator) = at_hand mutator.spot
at_hand_of _ = 0

-- which numbers have machines of the role: the mutators come first, then the helpers, then the control
abbrev pub HasNumber : Config → ℕ → Machine → Type 0
HasNumber config number (mutating mutator) = (mutator.seat ≡ number) × (number < config.mutators)
HasNumber config number (helping helper) = (helper.seat ≡ number) × (config.mutators ≤ number) × (number < config.mutators + config.helpers)
HasNumber config number (controlling own_control) = number ≡ config.mutators + config.helpers

-- It is idle, and may go on: a mutator takes commands, and the graph has as many objects of its thread as it has made; a helper is
-- between two rounds; the control is in no pause and no unit, and knows the phase.
abbrev pub IsIdle : (phase cset : ℕ) → Graph → ℕ → Machine → Type 0
IsIdle phase cset graph number (mutating mutator) = (graph.count (number + 1) ≡ mutator.made) × (takes_commands mutator.spot ≡ true)
IsIdle phase cset graph number (helping helper) = helper.spot ≡ LoadEnd
IsIdle phase cset graph number (controlling own_control) = (own_control.spot ≡ LookLeft) × (own_control.image ≡ []) × (own_control.phase ≡ phase) × (own_control.cset ≡ cset)

-- whether a step says that it waits
abbrev pub is_again : Took → Bool
is_again Again = true
is_again _ = false

abbrev pub again_by : Option Took → Bool
again_by None = false
again_by (Some said) = is_again said

-- an actor after its step
abbrev pub took_of : Change → Config → Actor → Order → ℕ → Machine → Actor
took_of change config actor order got machine = record {
  machine = machine_after change config order got machine;
  command = command_by order actor.command;
  calls = actor.calls ++ ended_by actor.command machine;
}

-- The machines of a heap as a kind: an order is taken, an access made, and its word taken, by the rows of the machine. What a
-- pause makes of the image is a function that is handed in.
unfoldable pub kind : Change → Config → MachineKind Actor Order
kind change config = record {
  takes = λ actor order. takes_of actor.machine order;
  plan = λ actor order. plan_of config order actor.machine;
  took = λ actor order got. took_of change config actor order got actor.machine;
}
