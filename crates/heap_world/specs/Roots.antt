-- The roots and the pin slots that the threads of a heap have.
use Rattle.std.specs.Prelude.{ℕ, ◌≡◌, Bool, false, ◌&&◌, nat_le, nat_lt, None}
use Rattle.shen_graph.specs.Graph.{Graph}

-- whether there is such a root: 16 of each of the threads from 1 on
abbrev pub is_root_of : ℕ → ℕ → ℕ → Bool
is_root_of threads thread index = nat_le 1 thread && (nat_le thread threads && nat_lt index 16)

-- whether there is such a pin slot: 4 of each of them
abbrev pub is_slot_of : ℕ → ℕ → ℕ → Bool
is_slot_of threads thread slot = nat_le 1 thread && (nat_le thread threads && nat_lt slot 4)

-- where there is no such root, the graph has null
abbrev pub HasNoMoreRoots : ℕ → Graph → Type 0
HasNoMoreRoots threads graph = (thread index : ℕ) → is_root_of threads thread index ≡ false → graph.root thread index ≡ None

-- and where there is no such slot, it is empty
abbrev pub HasNoMorePins : ℕ → Graph → Type 0
HasNoMorePins threads graph = (thread slot : ℕ) → is_slot_of threads thread slot ≡ false → graph.pin thread slot ≡ None
