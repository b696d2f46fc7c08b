-- The command of the table, and that it is in range.
use Rattle.managed_queue.specs.declared.spot.Spot.{Spot}
use Rattle.managed_queue.specs.declared.spot.Spot.TheVariants.{MakesAnchor, MakesFirst, SetsHead, SetsTail, Shows, Joins, Rests, Fills, Looks, Follows, Links, Helps, Swings, Turns, TookHead, TookTail, Compares, Pushes, Reads, Unlinks}
use Rattle.managed_queue.specs.declared.operation.Choice.{Choice}
use Rattle.managed_queue.specs.declared.operation.Choice.TheVariants as choice
use Rattle.managed_queue.specs.Spots.{MayCome}
use Rattle.managed_queue.specs.Spots.MayCome.{anchor_made, first_made, head_set, tail_set, anchor_shown, joined, put_begun, take_begun, filled, looked, followed, linked, helped, swung, turned, tail_taken, next_taken, compared, pushed, read, unlinked}
use Rattle.managed_queue.specs.Machines.{command_coming}

pub command_is_next : (next_choice : Choice) (spot : Spot) → MayCome spot (command_coming next_choice spot)
command_is_next next_choice MakesAnchor = anchor_made
command_is_next next_choice MakesFirst = first_made
command_is_next next_choice SetsHead = head_set
command_is_next next_choice SetsTail = tail_set
command_is_next next_choice Shows = anchor_shown
command_is_next next_choice Joins = joined
command_is_next (choice.Put value) Rests = put_begun
command_is_next choice.Take Rests = take_begun
command_is_next next_choice Fills = filled _
command_is_next next_choice (Looks value) = looked value
command_is_next next_choice (Follows value) = followed value
command_is_next next_choice (Links value) = linked value
command_is_next next_choice (Helps value) = helped value
command_is_next next_choice (Swings value) = swung value
command_is_next next_choice Turns = turned
command_is_next next_choice TookHead = tail_taken
command_is_next next_choice TookTail = next_taken
command_is_next next_choice (Compares nothing) = compared nothing
command_is_next next_choice Pushes = pushed
command_is_next next_choice Reads = read
command_is_next next_choice (Unlinks value) = unlinked value
