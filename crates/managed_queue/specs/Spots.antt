-- The table of operations: which command comes next where, where each reply leads, and which reply fixes or ends an operation.
use Rattle.std.specs.Prelude.{ℕ, ◌≢◌, Bool, true, false, List, [], ◌∷◌}
use Rattle.shen_graph.specs.declared.command.Command.{Command}
use Rattle.shen_graph.specs.declared.command.Command.TheVariants.{New, Get, Set, Cas, Rd, Wr, Same}
use Rattle.shen_graph.specs.declared.command.Reply.{Reply}
use Rattle.shen_graph.specs.declared.command.Reply.TheVariants as reply
use Rattle.managed_queue.specs.declared.spot.Spot.{Spot}
use Rattle.managed_queue.specs.declared.spot.Spot.TheVariants.{MakesAnchor, MakesFirst, SetsHead, SetsTail, Shows, Joins, Rests, Fills, Looks, Follows, Links, Helps, Swings, Turns, TookHead, TookTail, Compares, Pushes, Reads, Unlinks}

-- An operation with its reply.
pub data Operation : Type 0 where
  put : ℕ → Operation
  got : ℕ → Operation
  empty : Operation
  full : Operation

-- The commands that may come at a spot. Between two operations a put or a take begins.
-- Roots: 0 hub, 1 anchor, 3 a put's node, 4 tail or head, 5 what follows the tail, or the tail, 6 what follows the head, 7 null.
pub data MayCome : Spot → Command → Type 0 where
  anchor_made : MayCome MakesAnchor (New 1 2 0)
  first_made : MayCome MakesFirst (New 2 1 1)
  head_set : MayCome SetsHead (Set 1 0 2)
  tail_set : MayCome SetsTail (Set 1 1 2)
  anchor_shown : MayCome Shows (Set 0 0 1)
  joined : MayCome Joins (Get 1 0 0)
  put_begun : MayCome Rests (New 3 1 1)
  take_begun : MayCome Rests (Get 4 1 0)
  filled : (value : ℕ) → MayCome Fills (Wr 3 0 value)
  looked : (value : ℕ) → MayCome (Looks value) (Get 4 1 1)
  followed : (value : ℕ) → MayCome (Follows value) (Get 5 4 0)
  linked : (value : ℕ) → MayCome (Links value) (Cas 4 0 7 3)
  helped : (value : ℕ) → MayCome (Helps value) (Cas 1 1 4 5)
  swung : (value : ℕ) → MayCome (Swings value) (Cas 1 1 4 3)
  turned : MayCome Turns (Get 4 1 0)
  tail_taken : MayCome TookHead (Get 5 1 1)
  next_taken : MayCome TookTail (Get 6 4 0)
  compared : (is_null : Bool) → MayCome (Compares is_null) (Same 4 5)
  pushed : MayCome Pushes (Cas 1 1 5 6)
  read : MayCome Reads (Rd 6 0)
  unlinked : (value : ℕ) → MayCome (Unlinks value) (Cas 1 0 4 6)

-- where a put goes once it knows what follows the tail
abbrev pub behind_tail : ℕ → Reply → Spot
behind_tail value reply.Null = Links value
behind_tail value _ = Helps value

abbrev pub after_link : ℕ → Reply → Spot
after_link value reply.Yes = Swings value
after_link value _ = Looks value

-- a join goes on until it finds a name
abbrev pub after_join : Reply → Spot
after_join (reply.Ref name) = Rests
after_join _ = Joins

abbrev pub is_null : Reply → Bool
is_null reply.Null = true
is_null _ = false

-- where a take goes by whether nothing follows the head, and whether head and tail are equal
abbrev pub after_same : Bool → Reply → Spot
after_same true reply.Yes = Rests
after_same false reply.Yes = Pushes
after_same _ _ = Reads

abbrev pub number_in : Reply → ℕ
number_in (reply.Number value) = value
number_in _ = 0

abbrev pub after_unlink : Reply → Spot
after_unlink reply.Yes = Rests
after_unlink _ = Turns

-- a new operation: a New that has room begins a put, a refused one ends it, and another command begins a take
abbrev pub after_rest : Command → Reply → Spot
after_rest (New dst refs nums) reply.Full = Rests
after_rest (New dst refs nums) _ = Fills
after_rest _ _ = TookHead

abbrev pub number_of : Command → ℕ
number_of (Wr obj index value) = value
number_of _ = 0

-- Where a reply leads. Each reply leads somewhere, also one that never comes.
abbrev pub next_spot : Spot → Command → Reply → Spot
next_spot MakesAnchor command reply = MakesFirst
next_spot MakesFirst command reply = SetsHead
next_spot SetsHead command reply = SetsTail
next_spot SetsTail command reply = Shows
next_spot Shows command reply = Rests
next_spot Joins command reply = after_join reply
next_spot Rests command reply = after_rest command reply
next_spot Fills command reply = Looks (number_of command)
next_spot (Looks value) command reply = Follows value
next_spot (Follows value) command reply = behind_tail value reply
next_spot (Links value) command reply = after_link value reply
next_spot (Helps value) command reply = Looks value
next_spot (Swings value) command reply = Rests
next_spot Turns command reply = TookHead
next_spot TookHead command reply = TookTail
next_spot TookTail command reply = Compares (is_null reply)
next_spot (Compares nothing) command reply = after_same nothing reply
next_spot Pushes command reply = Turns
next_spot Reads command reply = Unlinks (number_in reply)
next_spot (Unlinks value) command reply = after_unlink reply

-- one where the reply is Yes
abbrev pub on_yes : Operation → Reply → List Operation
on_yes operation reply.Yes = operation ∷ []
on_yes operation _ = []

abbrev pub on_full : Reply → List Operation
on_full reply.Full = full ∷ []
on_full _ = []

abbrev pub on_null : Reply → List Operation
on_null reply.Null = empty ∷ []
on_null _ = []

-- The operation that takes effect with this reply: a put when its node is linked, a take when the head moves or when
-- nothing follows the head, a refused put when it is refused.
abbrev pub fixed_at : Spot → Reply → List Operation
fixed_at Rests reply = on_full reply
fixed_at (Links value) reply = on_yes (put value) reply
fixed_at TookTail reply = on_null reply
fixed_at (Unlinks value) reply = on_yes (got value) reply
fixed_at _ reply = []

-- the operation that ends with this reply
abbrev pub operation_ended : Spot → Reply → List Operation
operation_ended Rests reply = on_full reply
operation_ended (Swings value) reply = put value ∷ []
operation_ended (Compares true) reply = on_yes empty reply
operation_ended (Unlinks value) reply = on_yes (got value) reply
operation_ended _ reply = []

-- the operation that took effect, and has not ended
abbrev pub open_at : Spot → List Operation
open_at (Swings value) = put value ∷ []
open_at (Compares true) = empty ∷ []
open_at _ = []

-- the two allocations of the set-up are not refused
abbrev pub IsGranted : Spot → Reply → Type 0
IsGranted MakesAnchor answered = answered ≢ reply.Full
IsGranted MakesFirst answered = answered ≢ reply.Full
IsGranted _ answered = Unit {0}
