-- Users: a thread that sets the queue up or joins it, and then puts numbers in a row, or takes some.
use Rattle.std.specs.Prelude.{ℕ, ◌≡◌, ◌+◌, ◌-◌, ◌*◌, ◌^◌, ◌<◌, ◌≤◌, ◌==◌, nat_lt, Bool, true, false, ◌&&◌, ◌||◌, List, [], ◌∷◌, ◌++◌, length, sum, Option, Some, None, if◌then◌else◌}
use Rattle.std.specs.List.{range_with_len}
use Rattle.shen_graph.specs.declared.command.Command.{Command}
use Rattle.shen_graph.specs.declared.command.Command.TheVariants.{New}
use Rattle.shen_graph.specs.declared.command.Reply.{Reply}
use Rattle.shen_graph.specs.History.{Entry, IsWithoutFull, is_full}
use Rattle.managed_queue.specs.declared.spot.Spot.{Spot}
use Rattle.managed_queue.specs.declared.spot.Spot.TheVariants.{MakesAnchor, MakesFirst, Joins, Rests, Fills, Looks, Follows, Links, Helps, Swings}
use Rattle.managed_queue.specs.declared.operation.Choice.{Choice}
use Rattle.managed_queue.specs.declared.operation.Choice.TheVariants as choice
use Rattle.managed_queue.specs.declared.operation.QueueReply.{QueueReply}
use Rattle.managed_queue.specs.declared.operation.QueueReply.TheVariants as queue_reply
use Rattle.managed_queue.specs.declared.user.Plan.{Plan}
use Rattle.managed_queue.specs.declared.user.Plan.TheVariants.{Puts, Takes}
use Rattle.managed_queue.specs.declared.user.Gotten.{Gotten}
use Rattle.managed_queue.specs.Spots.{next_spot, operation_ended}
use Rattle.managed_queue.specs.Queue.{IsPlayed, spot_after, ended_in, puts_of, gots_of}
use Rattle.managed_queue.specs.Machines.{command_coming, answer_told}

-- Where a user stands, what it has left to do, what its takes got, and whether an allocation was refused.
pub record Use : Type 0 where
  pub spot : Spot
  pub plan : Plan
  pub got : Gotten
  pub refused : Bool

-- the operation that the plan has next
abbrev pub chosen : Plan → Choice
chosen (Puts next left) = choice.Put next
chosen (Takes left) = choice.Take

abbrev pub left_in_plan : Plan → ℕ
left_in_plan (Puts next left) = left
left_in_plan (Takes left) = left

abbrev pub is_rest : Spot → Bool
is_rest Rests = true
is_rest _ = false

-- it ends between two operations where none is left, and where an allocation is refused
abbrev pub has_ended : Use → Bool
has_ended user = user.refused || (is_rest user.spot && (left_in_plan user.plan == 0))

abbrev pub command_of : Use → Command
command_of user = command_coming (chosen user.plan) user.spot

-- its next command
abbrev pub next_of : Use → Option Command
next_of user = if has_ended user then None else Some (command_of user)

-- A put is one less to do, and the next number is one more; a take is one less only where it got a number.
abbrev pub plan_after : Plan → Option QueueReply → Plan
plan_after (Puts next left) (Some queue_reply.Put) = if nat_lt 0 left then Puts (next + 1) (left - 1) else Puts next left
plan_after (Takes left) (Some (queue_reply.Got value)) = Takes (left - 1)
plan_after plan _ = plan

-- such a number counts while there are takes to do
abbrev pub got_after : Plan → Gotten → Option QueueReply → Gotten
got_after (Takes left) got (Some (queue_reply.Got value)) = if nat_lt 0 left then record { items = got.items + 1; sum = got.sum + value } else got
got_after _ got _ = got

abbrev pub is_refused : Command → Reply → Bool
is_refused (New dst refs nums) reply = is_full reply
is_refused _ reply = false

-- It goes on by a reply, unless it has ended.
abbrev pub used : Use → Reply → Use
used user reply = if has_ended user then user else record {
  spot = next_spot user.spot (command_of user) reply;
  plan = plan_after user.plan (answer_told (operation_ended user.spot reply));
  got = got_after user.plan user.got (answer_told (operation_ended user.spot reply));
  refused = is_refused (command_of user) reply;
}

-- how users begin

abbrev pub nothing_got : Gotten
nothing_got = record { items = 0; sum = 0 }

abbrev pub putter : Bool → ℕ → ℕ → Use
putter sets_up first count = record { spot = if sets_up then MakesAnchor else Joins; plan = Puts first count; got = nothing_got; refused = false }

abbrev pub taker : ℕ → Use
taker count = record { spot = Joins; plan = Takes count; got = nothing_got; refused = false }

-- the numbers of a user are not large
abbrev pub IsWithin : Plan → Gotten → Type 0
IsWithin (Puts next left) got = next + left < 2 ^ 63 + 391
IsWithin (Takes left) got = (got.items + left ≤ 390) × (got.sum ≤ got.items * 2 ^ 64)

-- how many allocations are to come: those of the set-up, and of the puts that have no node yet
abbrev pub makings_ahead : Spot → ℕ → ℕ
makings_ahead MakesAnchor left = 2 + left
makings_ahead MakesFirst left = 1 + left
makings_ahead Fills left = left - 1
makings_ahead (Looks value) left = left - 1
makings_ahead (Follows value) left = left - 1
makings_ahead (Links value) left = left - 1
makings_ahead (Helps value) left = left - 1
makings_ahead (Swings value) left = left - 1
makings_ahead _ left = left

abbrev pub puts_left : Plan → ℕ
puts_left (Puts next left) = left
puts_left (Takes left) = 0

abbrev pub to_come : Use → ℕ
to_come user = if has_ended user then 0 else makings_ahead user.spot (puts_left user.plan)

-- A thread's entries are those of a user: each command is its next, and it goes on by each reply.
abbrev pub IsDriven : Use → List Entry → Type 0
IsDriven user [] = Unit {0}
IsDriven user (entry ∷ entries) = (next_of user ≡ Some entry.command) × IsDriven (used user entry.reply) entries

abbrev pub use_after : Use → List Entry → Use
use_after user [] = user
use_after user (entry ∷ entries) = use_after (used user entry.reply) entries

-- Where no allocation is refused, a user goes by the table.
abbrev pub UsersPlay : Type 0
UsersPlay = (user : Use) (entries : List Entry) → user.refused ≡ false → IsWithoutFull entries → IsDriven user entries → IsPlayed user.spot entries × (spot_after user.spot entries ≡ (use_after user entries).spot)

-- What a user counted is what its takes got, none of its operations is a put, and once it has no next command it got so many.
pub record TookInAll (count : ℕ) (entries : List Entry) : Type 0 where
  pub items : (use_after (taker count) entries).got.items ≡ length (gots_of (ended_in Joins entries))
  pub sum : (use_after (taker count) entries).got.sum ≡ sum (gots_of (ended_in Joins entries))
  pub no_put : puts_of (ended_in Joins entries) ≡ []
  pub all : next_of (use_after (taker count) entries) ≡ None → length (gots_of (ended_in Joins entries)) ≡ count

abbrev pub TakersTake : Type 0
TakersTake = (count : ℕ) (entries : List Entry) → IsWithoutFull entries → IsDriven (taker count) entries → TookInAll count entries

-- A putter puts its numbers in a row, and all of them once it has no next command.
pub record DidPut (sets_up : Bool) (first count : ℕ) (entries : List Entry) : Type 0 where
  pub rest : List ℕ
  pub puts : puts_of (ended_in (putter sets_up first count).spot entries) ++ rest ≡ range_with_len first count
  pub all : next_of (use_after (putter sets_up first count) entries) ≡ None → rest ≡ []

abbrev pub PuttersPut : Type 0
PuttersPut = (sets_up : Bool) (first count : ℕ) (entries : List Entry) → IsWithoutFull entries → IsDriven (putter sets_up first count) entries → DidPut sets_up first count entries
