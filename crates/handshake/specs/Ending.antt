-- The word that says that the control has ended, over any kind of machine, of whose records one says which have ended so.
use Rattle.std.specs.Prelude.{ℕ, ◌≡◌, ◌≢◌, Bool, true, false, List, [], ◌∷◌, length, ◌⊎◌, Some, slice_get}
use Rattle.heap_words.specs.declared.config.Config.{Config}
use Rattle.heap_words.specs.declared.access.Access.{Access}
use Rattle.heap_words.specs.Access.{table_index}
use Rattle.heap_words.specs.Words.{End, word_at, table_words, view}
use Rattle.heap_words.specs.Touch.{touch, stores, placed}
use Rattle.heap_words.specs.Steps.{MachineKind, Stage, Event, IsEvent, act}
use Rattle.handshake.specs.Obeys.{is_load}

-- a machine that ends, and says so
pub record SaysEnd (config : Config) (access : Access) (after : ℕ → Bool) : Type 0 where
  pub access_is : access ≡ placed config (touch End (stores 1))
  pub has_ended : (got : ℕ) → after got ≡ true

-- a machine that leaves the word as it is, and does not end
pub record LeavesEnd (config : Config) (before : Bool) (access : Access) (after : ℕ → Bool) : Type 0 where
  pub not_written : (is_load access ≡ true) ⊎ (table_index access ≢ word_at config End)
  pub same : (got : ℕ) → after got ≡ before

-- what a step has to obey: by its access, and by whether its machine has ended before and after it
abbrev pub KeepsEnd : Config → Bool → Access → (ℕ → Bool) → Type 0
KeepsEnd config before access after = SaysEnd config access after ⊎ LeavesEnd config before access after

-- an event does so, if it is one
abbrev pub EventKeepsEnd : {R O : Type 0} → Config → MachineKind R O → (R → Bool) → Stage R → Event O → Type 0
EventKeepsEnd {R} config kind ended stage event = (machine : R) → IsEvent kind stage event machine → KeepsEnd config (ended machine) (kind.plan machine event.order) (λ got. ended (kind.took machine event.order got))

-- each event of a run does so, where it is made
abbrev pub EachKeepsEnd : {R O : Type 0} → Config → MachineKind R O → (R → Bool) → Stage R → List (Event O) → Type 0
EachKeepsEnd config kind ended stage [] = Unit {0}
EachKeepsEnd config kind ended stage (event ∷ rest) = EventKeepsEnd config kind ended stage event × EachKeepsEnd config kind ended (act kind stage event) rest

-- no machine has ended
abbrev pub NoneHasEnded : {R : Type 0} → (R → Bool) → Stage R → Type 0
NoneHasEnded {R} ended stage = (number : ℕ) (machine : R) → slice_get stage.machines number ≡ Some machine → ended machine ≡ false

-- the word is 1 where a machine has ended, and 0 where none has
pub record IsEndWord {R : Type 0} (config : Config) (ended : R → Bool) (stage : Stage R) : Type 0 where
  pub words : length stage.words ≡ table_words config
  pub one : (number : ℕ) (r : R) → slice_get stage.machines number ≡ Some r → ended r ≡ true → view config stage.words End ≡ 1
  pub none : NoneHasEnded ended stage → view config stage.words End ≡ 0
