-- The scripts of the workload: three threads, each of which works below its own field of the hub.
use Rattle.std.specs.Prelude.{ℕ, ◌+◌, ◌%◌, List, [], ◌∷◌, ◌++◌}
use Rattle.std.specs.List.{flat_map, range_with_len}
use Rattle.shen_graph.specs.declared.command.Command.{Command}
use Rattle.shen_graph.specs.declared.command.Command.TheVariants.{New, Get, Set, Cas, Xchg, Rd, Wr, Drop}

-- the roots that a thread uses: the hub, its box, a leaf that it has just made, one that it loaded, and one that it swapped out
abbrev pub shared_hub : ℕ
shared_hub = 0

abbrev pub own_box : ℕ
own_box = 1

abbrev pub new_leaf : ℕ
new_leaf = 2

abbrev pub old_leaf : ℕ
old_leaf = 3

abbrev pub last_leaf : ℕ
last_leaf = 4

-- A new object with a number goes into a slot of the thread's box, and is forgotten.
abbrev pub making : (seed round_number : ℕ) → List Command
making seed round_number = New new_leaf ((seed + round_number) % 4) (1 + round_number % 8) ∷ Wr new_leaf 0 (seed + round_number + 1) ∷ Set own_box (round_number % 16) new_leaf ∷ Drop new_leaf ∷ []

-- It is loaded from there, its number read, and the slot exchanged with itself in two ways.
abbrev pub loading : (round_number : ℕ) → List Command
loading round_number = Get old_leaf own_box (round_number % 16) ∷ Rd old_leaf 0 ∷ Cas own_box (round_number % 16) old_leaf old_leaf ∷ Xchg last_leaf own_box (round_number % 16) old_leaf ∷ []

-- a round, counted from 0
abbrev pub round : (seed round_number : ℕ) → List Command
round seed round_number = making seed round_number ++ loading round_number

-- The script of a thread: it makes its box, 16 references, puts it into its field of the hub, and goes through its rounds.
abbrev pub churn_script : (seed count thread : ℕ) → List Command
churn_script seed count thread = New own_box 16 0 ∷ Set shared_hub thread own_box ∷ flat_map (round seed) (range_with_len 0 count)

-- the scripts of threads 1, 2 and 3
abbrev pub churn_scripts : (seed count : ℕ) → List (List Command)
churn_scripts seed count = churn_script seed count 1 ∷ churn_script seed count 2 ∷ churn_script seed count 3 ∷ []
