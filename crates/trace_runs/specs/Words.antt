-- The words of the command line.
use Rattle.std.specs.Prelude.{ℕ, ◌≡◌, ◌≤◌, ◌⊎◌, List, [], ◌∷◌, ◌++◌, codes}
use Rattle.std.specs.Fmt.{decimal}
use Rattle.trace_reading.specs.Spelling.{IsUpTo}
use Rattle.trace_runs.specs.declared.mode.Mode.{Mode}
use Rattle.trace_runs.specs.declared.mode.Mode.TheVariants.{Replay, Noted, Dump, Resume, Run, Churn, Queue, Check}

-- the words are a command alone, which goes with its usual number, or the command, an option and a number
abbrev pub IsNumbered : (command option : List ℕ) → (usual most : ℕ) → List (List ℕ) → ℕ → Type 0
IsNumbered command option usual most words number =
    ((words ≡ command ∷ []) × (number ≡ usual))
    ⊎ ((words ≡ command ∷ option ∷ decimal number ∷ []) × IsUpTo most number)

-- the steps that a replay may make where the words name no number, and the most that they may name
abbrev pub usual_steps : ℕ
usual_steps = 100000000

abbrev pub most_steps : ℕ
most_steps = 4000000000

-- the most machines that a heap has: eight mutators, three helpers and the control
abbrev pub most_machines : ℕ
most_machines = 12

-- the largest number from which a churn is made, and the most rounds of each of its threads
abbrev pub most_seed : ℕ
most_seed = 1000000

abbrev pub most_rounds : ℕ
most_rounds = 20000

-- the most numbers of each user of a queue
abbrev pub most_numbers : ℕ
most_numbers = 390

-- `replay`, or `replay --steps N`
abbrev pub IsReplay : List (List ℕ) → (steps : ℕ) → Type 0
IsReplay words steps = IsNumbered (codes "replay") (codes "--steps") usual_steps most_steps words steps

-- the same, and then a last word
abbrev pub IsReplayThen : (last_word : List ℕ) → List (List ℕ) → (steps : ℕ) → Type 0
IsReplayThen last_word words steps = (front : List (List ℕ)) × (words ≡ front ++ last_word ∷ []) × IsReplay front steps

-- `resume`, or `resume --steps N`
abbrev pub IsResume : List (List ℕ) → (steps : ℕ) → Type 0
IsResume words steps = IsNumbered (codes "resume") (codes "--steps") usual_steps most_steps words steps

-- `run`, or `run --workers K`
abbrev pub IsRunBy : List (List ℕ) → (workers : ℕ) → Type 0
IsRunBy words workers = IsNumbered (codes "run") (codes "--workers") most_machines most_machines words workers

-- `churn SEED COUNT`
abbrev pub IsChurn : List (List ℕ) → (seed count : ℕ) → Type 0
IsChurn words seed count = (words ≡ codes "churn" ∷ decimal seed ∷ decimal count ∷ []) × (seed ≤ most_seed) × IsUpTo most_rounds count

-- `queue COUNT`
abbrev pub IsQueue : List (List ℕ) → (count : ℕ) → Type 0
IsQueue words count = (words ≡ codes "queue" ∷ decimal count ∷ []) × IsUpTo most_numbers count

-- `check`
abbrev pub IsCheck : List (List ℕ) → Type 0
IsCheck words = words ≡ codes "check" ∷ []

-- The words ask for a mode.
abbrev pub Asks : List (List ℕ) → Mode → Type 0
Asks words (Replay steps) = IsReplay words steps
Asks words (Noted steps) = IsReplayThen (codes "--history") words steps
Asks words (Dump steps) = IsReplayThen (codes "--dump") words steps
Asks words (Resume steps) = IsResume words steps
Asks words (Run workers) = IsRunBy words workers
Asks words (Churn load) = IsChurn words load.seed load.count
Asks words (Queue count) = IsQueue words count
Asks words Check = IsCheck words

-- they ask for one of which this holds
abbrev pub Asked : List (List ℕ) → (Mode → Type 0) → Type 0
Asked words P = (mode : Mode) × Asks words mode × P mode

-- they ask for any
abbrev pub Ask : List (List ℕ) → Type 0
Ask words = (mode : Mode) × Asks words mode
