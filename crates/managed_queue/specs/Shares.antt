-- What all threads did is the sum of what each did.
use Rattle.std.specs.Prelude.{ℕ, ◌≡◌, ◌≤◌, List, [], ◌∷◌, sum_by}
use Rattle.std.specs.List.{range_with_len}
use Rattle.shen_graph.specs.History.{Entry, of_thread}
use Rattle.managed_queue.specs.Spots.{Operation}
use Rattle.managed_queue.specs.Queue.{fixed, fixed_in, entry_spot}

-- each entry is one of threads 1 to `threads`
abbrev pub AreOf : ℕ → List Entry → Type 0
AreOf threads [] = Unit {0}
AreOf threads (entry ∷ entries) = (1 ≤ entry.thread) × (entry.thread ≤ threads) × AreOf threads entries

-- For any weight of operations: all that took effect weigh what those of each thread weigh together.
abbrev pub FixedAreShared : Type 0
FixedAreShared = (weight : Operation → ℕ) (threads : ℕ) (history : List Entry) → AreOf threads history
    → sum_by weight (fixed entry_spot history) ≡ sum_by (λ thread. sum_by weight (fixed_in (entry_spot thread) (of_thread history thread))) (range_with_len 1 threads)
