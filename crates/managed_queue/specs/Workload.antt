-- A workload on the queue: two threads put numbers in a row, and two take as many.
use Rattle.std.specs.Prelude.{ℕ, zero, suc, ◌≡◌, ◌+◌, ◌*◌, ◌<◌, ◌≤◌, ◌==◌, List, ◌++◌, length, sum_by, true, false, None, if◌then◌else◌}
use Rattle.std.specs.List.{range_with_len}
use Rattle.shen_graph.specs.Crowd.{IsLegalHistory}
use Rattle.shen_graph.specs.History.{Entry, of_thread, Follows, IsWithoutFull}
use Rattle.shen_graph.specs.declared.command.Command.{Command}
use Rattle.managed_queue.specs.declared.user.Gotten.{Gotten}
use Rattle.managed_queue.specs.Queue.{puts_of, gots_of, fixed, ended_in, entry_spot}
use Rattle.managed_queue.specs.Users.{Use, next_of, putter, taker, IsDriven, use_after}

-- The user of a mutator, counted from 0, as it begins. Thread t, counted from 1, is mutator t - 1: threads 1 and 2 put 1000000 t + 1 and
-- so on, and thread 1 sets the queue up.
abbrev pub queue_user : ℕ → ℕ → Use
queue_user count zero = putter true 1000001 count
queue_user count (suc zero) = putter false 2000001 count
queue_user count (suc (suc mutator)) = taker count

-- A history of these four users, each up to its end, that a heap of 16 regions of 256 words may have.
pub record IsQueueRun (count : ℕ) (history : List Entry) : Type 0 where
  pub scripts : List (List Command)
  pub threads : length scripts ≡ 4
  pub follows : Follows scripts history
  pub legal : IsLegalHistory 16 256 scripts history
  pub driven : (mutator : ℕ) → mutator < 4 → IsDriven (queue_user count mutator) (of_thread history (mutator + 1))
  pub ended : (mutator : ℕ) → mutator < 4 → next_of (use_after (queue_user count mutator) (of_thread history (mutator + 1))) ≡ None

-- what a user has counted in a history
abbrev pub got_in : ℕ → List Entry → ℕ → Gotten
got_in count history mutator = (use_after (queue_user count mutator) (of_thread history (mutator + 1))).got

-- the numbers that its takes got, in order
abbrev pub taken_by : List Entry → ℕ → List ℕ
taken_by history mutator = gots_of (ended_in (entry_spot (mutator + 1)) (of_thread history (mutator + 1)))

-- how often a number comes among some; and two lists have the same numbers, each as often
abbrev pub times : ℕ → List ℕ → ℕ
times value numbers = sum_by (λ n. if n == value then 1 else 0) numbers

abbrev pub HaveTheSame : (numbers others : List ℕ) → Type 0
HaveTheSame numbers others = (value : ℕ) → times value numbers ≡ times value others

-- No allocation of such a history is refused. What was taken is what was put, in that order. The takers took each number as often as it
-- was put, and each other never, and counted twice as many as each user put or took, of this sum.
pub record TellsQueue (count : ℕ) (history : List Entry) : Type 0 where
  pub no_full : IsWithoutFull history
  pub order : gots_of (fixed entry_spot history) ≡ puts_of (fixed entry_spot history)
  pub numbers : HaveTheSame (taken_by history 2 ++ taken_by history 3) (range_with_len 1000001 count ++ range_with_len 2000001 count)
  pub items : (got_in count history 2).items + (got_in count history 3).items ≡ 2 * count
  pub sum : (got_in count history 2).sum + (got_in count history 3).sum ≡ 3000000 * count + count * (count + 1)

abbrev pub QueueRunsTell : Type 0
QueueRunsTell = (count : ℕ) (history : List Entry) → count ≤ 390 → IsQueueRun count history → TellsQueue count history
