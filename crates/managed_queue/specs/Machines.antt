-- Operations and users in their course.
use Rattle.std.specs.Prelude.{ℕ, List, [], ◌∷◌, Option, Some, None}
use Rattle.shen_graph.specs.declared.command.Command.{Command}
use Rattle.shen_graph.specs.declared.command.Command.TheVariants.{New, Get, Set, Cas, Rd, Wr, Same}
use Rattle.shen_graph.specs.declared.command.Reply.{Reply}
use Rattle.managed_queue.specs.declared.spot.Spot.{Spot}
use Rattle.managed_queue.specs.declared.spot.Spot.TheVariants.{MakesAnchor, MakesFirst, SetsHead, SetsTail, Shows, Joins, Rests, Fills, Looks, Follows, Links, Helps, Swings, Turns, TookHead, TookTail, Compares, Pushes, Reads, Unlinks}
use Rattle.managed_queue.specs.declared.operation.Choice.{Choice}
use Rattle.managed_queue.specs.declared.operation.Choice.TheVariants as choice
use Rattle.managed_queue.specs.declared.operation.QueueReply.{QueueReply}
use Rattle.managed_queue.specs.declared.operation.QueueReply.TheVariants as queue_reply
use Rattle.managed_queue.specs.declared.operation.Course.{Course}
use Rattle.managed_queue.specs.Spots.{Operation, next_spot, operation_ended}
use Rattle.managed_queue.specs.Spots.Operation.{put, got, empty, full}

-- the command that begins an operation
abbrev pub first_command : Choice → Command
first_command (choice.Put value) = New 3 1 1
first_command choice.Take = Get 4 1 0

abbrev pub number_put : Choice → ℕ
number_put (choice.Put value) = value
number_put choice.Take = 0

-- The command of the table that comes next, where an operation was chosen.
abbrev pub command_coming : Choice → Spot → Command
command_coming chosen MakesAnchor = New 1 2 0
command_coming chosen MakesFirst = New 2 1 1
command_coming chosen SetsHead = Set 1 0 2
command_coming chosen SetsTail = Set 1 1 2
command_coming chosen Shows = Set 0 0 1
command_coming chosen Joins = Get 1 0 0
command_coming chosen Rests = first_command chosen
command_coming chosen Fills = Wr 3 0 (number_put chosen)
command_coming chosen (Looks value) = Get 4 1 1
command_coming chosen (Follows value) = Get 5 4 0
command_coming chosen (Links value) = Cas 4 0 7 3
command_coming chosen (Helps value) = Cas 1 1 4 5
command_coming chosen (Swings value) = Cas 1 1 4 3
command_coming chosen Turns = Get 4 1 0
command_coming chosen TookHead = Get 5 1 1
command_coming chosen TookTail = Get 6 4 0
command_coming chosen (Compares nothing) = Same 4 5
command_coming chosen Pushes = Cas 1 1 5 6
command_coming chosen Reads = Rd 6 0
command_coming chosen (Unlinks value) = Cas 1 0 4 6

-- what an operation answers
abbrev pub answered : Operation → QueueReply
answered (put value) = queue_reply.Put
answered (got value) = queue_reply.Got value
answered empty = queue_reply.Empty
answered full = queue_reply.Full

-- the answer of the operation that ended, if one did
abbrev pub answer_told : List Operation → Option QueueReply
answer_told [] = None
answer_told (operation ∷ later_operations) = Some (answered operation)

-- an operation of which nothing was done
abbrev pub untouched : Choice → Course
untouched chosen = record { choice = chosen; spot = Rests; done = None }

-- It goes on by a reply, unless it has answered.
abbrev pub replied : Course → Reply → Course
replied course reply = elim (course.done) [
  | None ↦ record { choice = course.choice; spot = next_spot course.spot (command_coming course.choice course.spot) reply; done = answer_told (operation_ended course.spot reply) }
  | Some answer ↦ course
]
