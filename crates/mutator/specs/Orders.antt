-- Which orders a mutator takes.
use Rattle.std.specs.Prelude.{ℕ, Bool, true, false, ◌&&◌, nat_lt}
use Rattle.shen_graph.specs.Valid as ranges
use Rattle.shen_graph.specs.Valid.{fits_value, most_objects}
use Rattle.shen_graph.specs.declared.command.Command.{Command}
use Rattle.mutator.specs.declared.spot.Spot.{Spot}
use Rattle.mutator.specs.declared.spot.Spot.TheVariants.{Rest, Ended, Entering, Waiting, Gone}
use Rattle.mutator.specs.declared.spot.Entered.TheVariants.{Waited}
use Rattle.shen_graph.specs.declared.order.Order.{Order}
use Rattle.shen_graph.specs.declared.order.Order.TheVariants.{Nothing, Begin, End, Hint}

-- whether the numbers of a command are in range, as those of each command of the code that is valid are
abbrev pub is_valid : Command → Bool
is_valid command = ranges.is_valid command && fits_value command

-- whether no call is in progress
abbrev pub is_between_calls : Spot → Bool
is_between_calls Rest = true
is_between_calls (Ended reply) = true
is_between_calls Gone = true
is_between_calls _ = false

-- whether a mutator may be given a command, or be told to end: no call is in progress, and it has not ended
abbrev pub takes_commands : Spot → Bool
takes_commands Rest = true
takes_commands (Ended reply) = true
takes_commands _ = false

-- whether it waits for an object, or has its answer and is on its way back into the heap
abbrev pub is_waiting : Spot → Bool
is_waiting (Waiting spot) = true
is_waiting (Entering spot Waited) = true
is_waiting _ = false

-- whether a mutator that has made so many objects may be given the command
abbrev pub is_next : ℕ → Command → Bool
is_next made command = is_valid command && nat_lt made most_objects

-- whether it makes a step under the order: where it takes commands under a command or to end, and in a call under none
abbrev pub takes_at : Spot → ℕ → Order → Bool
takes_at Rest made Nothing = false
takes_at Rest made (Begin command) = is_next made command
takes_at Rest made End = true
takes_at Rest made (Hint address) = false
takes_at (Ended reply) made Nothing = false
takes_at (Ended reply) made (Begin command) = is_next made command
takes_at (Ended reply) made End = true
takes_at (Ended reply) made (Hint address) = false
takes_at Gone made order = false
takes_at _ made Nothing = true
takes_at _ made order = false

-- whether an order may stand: none, or where it takes commands one that is taken, or to end. A mutator is given no hints
abbrev pub is_pending : Spot → ℕ → Order → Bool
is_pending spot made Nothing = true
is_pending spot made (Begin command) = takes_commands spot && is_next made command
is_pending spot made End = takes_commands spot
is_pending spot made (Hint address) = false
