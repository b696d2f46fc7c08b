-- Entries of a heap's threads.
use Rattle.std.specs.Prelude.{ℕ, ◌≡◌, ◌≤◌, true}
use Rattle.shen_graph.specs.History.{Entry}
use Rattle.mutator.specs.Orders.{is_valid}

-- the entry is of one of the threads from 1 on, and its command is in range
pub record IsSettled (threads : ℕ) (entry : Entry) : Type 0 where
  pub least : 1 ≤ entry.thread
  pub most : entry.thread ≤ threads
  pub valid : is_valid entry.command ≡ true
