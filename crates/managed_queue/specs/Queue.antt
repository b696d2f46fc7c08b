-- What a queue is, and that each history of the managed queue is one.
use Rattle.std.specs.Prelude.{ℕ, ◌≡◌, ◌<◌, ◌==◌, List, [], ◌∷◌, ◌++◌, if◌then◌else◌}
use Rattle.shen_graph.specs.Graph.{opening}
use Rattle.shen_graph.specs.History.{Entry, of_thread, EachIsLegal}
use Rattle.managed_queue.specs.declared.spot.Spot.{Spot}
use Rattle.managed_queue.specs.declared.spot.Spot.TheVariants.{MakesAnchor, Joins}
use Rattle.managed_queue.specs.Spots.{Operation, MayCome, IsGranted, next_spot, fixed_at, operation_ended, open_at}
use Rattle.managed_queue.specs.Spots.Operation.{put, got, empty, full}

-- From a queue these operations, in their order, leave another: a put appends, a take gets the first, it answers that
-- the queue is empty only where it is, and a refused put changes nothing.
abbrev pub Leads : List ℕ → List Operation → List ℕ → Type 0
Leads queue [] left = queue ≡ left
Leads queue (put value ∷ rest) left = Leads (queue ++ value ∷ []) rest left
Leads queue (got value ∷ rest) left = (behind : List ℕ) × (queue ≡ value ∷ behind) × Leads behind rest left
Leads queue (empty ∷ rest) left = (queue ≡ []) × Leads queue rest left
Leads queue (full ∷ rest) left = Leads queue rest left

-- the numbers that were put, and those that were got, in order

abbrev pub puts_of : List Operation → List ℕ
puts_of [] = []
puts_of (put value ∷ rest) = value ∷ puts_of rest
puts_of (got value ∷ rest) = puts_of rest
puts_of (empty ∷ rest) = puts_of rest
puts_of (full ∷ rest) = puts_of rest

abbrev pub gots_of : List Operation → List ℕ
gots_of [] = []
gots_of (put value ∷ rest) = gots_of rest
gots_of (got value ∷ rest) = value ∷ gots_of rest
gots_of (empty ∷ rest) = gots_of rest
gots_of (full ∷ rest) = gots_of rest

-- One thread's entries.

-- From a spot on, each command is the next by the replies before it.
abbrev pub IsPlayed : Spot → List Entry → Type 0
IsPlayed spot [] = Unit {0}
IsPlayed spot (entry ∷ entries) = MayCome spot entry.command × IsGranted spot entry.reply × IsPlayed (next_spot spot entry.command entry.reply) entries

abbrev pub spot_after : Spot → List Entry → Spot
spot_after spot [] = spot
spot_after spot (entry ∷ entries) = spot_after (next_spot spot entry.command entry.reply) entries

abbrev pub fixed_in : Spot → List Entry → List Operation
fixed_in spot [] = []
fixed_in spot (entry ∷ entries) = fixed_at spot entry.reply ++ fixed_in (next_spot spot entry.command entry.reply) entries

abbrev pub ended_in : Spot → List Entry → List Operation
ended_in spot [] = []
ended_in spot (entry ∷ entries) = operation_ended spot entry.reply ++ ended_in (next_spot spot entry.command entry.reply) entries

-- All threads' entries.

-- one thread's spot goes on
abbrev pub spot_moved : (ℕ → Spot) → Entry → ℕ → Spot
spot_moved spots entry thread = if entry.thread == thread then next_spot (spots thread) entry.command entry.reply else spots thread

-- the operations in the order in which they take effect
abbrev pub fixed : (ℕ → Spot) → List Entry → List Operation
fixed spots [] = []
fixed spots (entry ∷ entries) = fixed_at (spots entry.thread) entry.reply ++ fixed (spot_moved spots entry) entries

-- thread 1 begins with the set-up, and each other with the join
abbrev pub entry_spot : ℕ → Spot
entry_spot thread = if thread == 1 then MakesAnchor else Joins

abbrev pub ArePlayed : List Entry → Type 0
ArePlayed history = (thread : ℕ) → IsPlayed (entry_spot thread) (of_thread history thread)

-- A history is one of a queue, of which these numbers are left: its operations are a run; each number comes out at most
-- once, first in, first out; and a thread's replies are those of the run, with one that it may not have had yet.
pub record IsOfQueue (history : List Entry) : Type 0 where
  pub left : List ℕ
  pub run : Leads [] (fixed entry_spot history) left
  pub order : puts_of (fixed entry_spot history) ≡ gots_of (fixed entry_spot history) ++ left
  pub replies : (thread : ℕ) → fixed_in (entry_spot thread) (of_thread history thread)
      ≡ ended_in (entry_spot thread) (of_thread history thread) ++ open_at (spot_after (entry_spot thread) (of_thread history thread))

-- Each legal history of threads that use the queue, in a heap of whatever sizes, is one of a queue.
abbrev pub EveryHistory : Type 0
EveryHistory = (regions region_words threads : ℕ) (history : List Entry) → 0 < threads → EachIsLegal regions region_words (opening threads) history → ArePlayed history → IsOfQueue history
