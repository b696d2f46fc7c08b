-- The numbers by which C is answered, and the commands by theirs.
use Rattle.std.specs.Prelude.{ℕ, ◌==◌, Option, Some, None, if◌then◌else◌}
use Rattle.heap_words.specs.declared.config.BadConfig.{BadConfig}
use Rattle.heap_words.specs.declared.config.BadConfig.TheVariants.{Regions, RegionWords, Mutators, Helpers, Reserve}
use Rattle.shen_graph.specs.declared.command.Command.{Command}
use Rattle.shen_graph.specs.declared.command.Command.TheVariants as command
use Rattle.shen_graph.specs.declared.command.Reply.{Reply}
use Rattle.shen_graph.specs.declared.command.Reply.TheVariants as reply
use Rattle.heap_seats.specs.declared.progress.Progress.{Progress}
use Rattle.heap_seats.specs.declared.progress.Progress.TheVariants as progress
use Rattle.heap_seats.specs.declared.progress.Refused.{Refused}
use Rattle.heap_seats.specs.declared.progress.Refused.TheVariants as refused
use Rattle.heap_seats.specs.declared.renewing.Renewal.{Renewal}
use Rattle.heap_seats.specs.declared.renewing.Renewal.TheVariants as renewal

abbrev pub number_of_reply : Reply → ℕ
number_of_reply (reply.Ref name) = 8
number_of_reply reply.Null = 9
number_of_reply reply.Ok = 10
number_of_reply reply.Yes = 11
number_of_reply reply.No = 12
number_of_reply (reply.Number value) = 13
number_of_reply reply.Bad = 14
number_of_reply reply.Full = 15
number_of_reply (reply.At place) = 16

abbrev pub number_of_progress : Progress → ℕ
number_of_progress progress.More = 1
number_of_progress progress.Again = 2
number_of_progress progress.Idle = 3
number_of_progress progress.Ended = 4
number_of_progress (progress.Replied reply) = number_of_reply reply

abbrev pub number_of_refused : Refused → ℕ
number_of_refused refused.Ended = 4
number_of_refused refused.Busy = 34
number_of_refused refused.Spent = 35
number_of_refused refused.OutOfRange = 37

-- an order that was taken, or why it was not
abbrev pub number_of_order : Option Refused → ℕ
number_of_order None = 0
number_of_order (Some why) = number_of_refused why

abbrev pub number_of_fault : BadConfig → ℕ
number_of_fault Regions = 48
number_of_fault RegionWords = 49
number_of_fault Mutators = 50
number_of_fault Helpers = 51
number_of_fault Reserve = 52

abbrev pub number_of_renewal : Renewal → ℕ
number_of_renewal renewal.Renewed = 0
number_of_renewal renewal.Pinned = 24
number_of_renewal renewal.TooSmall = 25
number_of_renewal renewal.NoMemory = 26

-- the command of a number, with its arguments
abbrev pub command_numbered : (number first second third fourth value : ℕ) → Option Command
command_numbered number first second third fourth value =
    if number == 0 then Some (command.New first second third)
    else if number == 1 then Some (command.Get first second third)
    else if number == 2 then Some (command.Set first second third)
    else if number == 3 then Some (command.Cas first second third fourth)
    else if number == 4 then Some (command.Xchg first second third fourth)
    else if number == 5 then Some (command.Rd first second)
    else if number == 6 then Some (command.Wr first second value)
    else if number == 7 then Some (command.Copy first second)
    else if number == 8 then Some (command.Drop first)
    else if number == 9 then Some (command.Same first second)
    else if number == 10 then Some command.Gc
    else if number == 11 then Some (command.Pin first second)
    else if number == 12 then Some (command.Unpin first)
    else None
