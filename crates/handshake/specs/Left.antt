-- The count of the mutators that have not ended, over any kind of machine, of whose records one says which are such mutators.
use Rattle.std.specs.Prelude.{ℕ, ◌≡◌, ◌≢◌, ◌≤◌, Bool, true, false, List, [], ◌∷◌, length, count_by, ◌⊎◌}
use Rattle.heap_words.specs.declared.config.Config.{Config}
use Rattle.heap_words.specs.declared.access.Access.{Access}
use Rattle.heap_words.specs.Access.{table_index}
use Rattle.heap_words.specs.Words.{Left, word_at, table_words, view}
use Rattle.heap_words.specs.Touch.{touch, subtracts, placed}
use Rattle.heap_words.specs.Steps.{MachineKind, Stage, Event, IsEvent, act}
use Rattle.handshake.specs.Obeys.{is_load}

-- a mutator that ends: it takes itself off the count
pub record Ends (config : Config) (before : Bool) (access : Access) (after : ℕ → Bool) : Type 0 where
  pub access_is : access ≡ placed config (touch Left (subtracts 1))
  pub was_left : before ≡ true
  pub has_ended : (got : ℕ) → after got ≡ false

-- a machine that leaves the count as it is
pub record LeavesCount (config : Config) (before : Bool) (access : Access) (after : ℕ → Bool) : Type 0 where
  pub not_written : (is_load access ≡ true) ⊎ (table_index access ≢ word_at config Left)
  pub same : (got : ℕ) → after got ≡ before

-- what a step has to obey: by its access, and by whether its machine is a mutator that has not ended before and after it
abbrev pub Counts : Config → Bool → Access → (ℕ → Bool) → Type 0
Counts config before access after = Ends config before access after ⊎ LeavesCount config before access after

-- an event does so, if it is one
abbrev pub EventCounts : {R O : Type 0} → Config → MachineKind R O → (R → Bool) → Stage R → Event O → Type 0
EventCounts {R} config kind left stage event = (machine : R) → IsEvent kind stage event machine → Counts config (left machine) (kind.plan machine event.order) (λ got. left (kind.took machine event.order got))

-- each event of a run does so, where it is made
abbrev pub EachCounts : {R O : Type 0} → Config → MachineKind R O → (R → Bool) → Stage R → List (Event O) → Type 0
EachCounts config kind left stage [] = Unit {0}
EachCounts config kind left stage (event ∷ rest) = EventCounts config kind left stage event × EachCounts config kind left (act kind stage event) rest

-- the word counts the mutators that have not ended
pub record AreLeftCounted {R : Type 0} (config : Config) (left : R → Bool) (stage : Stage R) : Type 0 where
  pub words : length stage.words ≡ table_words config
  pub few : length stage.machines ≤ 12
  pub counts : view config stage.words Left ≡ count_by left stage.machines
