-- Runs of machines over words: one event is one access of one word by one machine, together with the change of that
-- machine. Nothing here knows what the words mean or what the machines are.
use Rattle.std.specs.Prelude.{ℕ, ◌≡◌, ◌≢◌, Bool, true, List, [], ◌∷◌, ◌++◌, length, Option, Some, None, slice_get, slice_set, slice_index, if◌then◌else◌}
use Rattle.heap_words.specs.declared.access.Access.{Access}
use Rattle.heap_words.specs.Access.{table_index, made_of, got_of}

-- A kind of machine, by its record R and the orders O that it takes: whether it takes an order now, the access that it
-- then makes, and what it is after it was told a word.
pub record MachineKind (R O : Type 0) : Type 0 where
  pub takes : R → O → Bool
  pub plan : R → O → Access
  pub took : R → O → ℕ → R

-- the words, and the machines by their numbers
pub record Stage (R : Type 0) : Type 0 where
  pub words : List ℕ
  pub machines : List R

-- a machine makes its next access, under an order
pub record Event (O : Type 0) : Type 0 where
  pub number : ℕ
  pub order : O

-- the words after an access
abbrev pub accessed : Access → List ℕ → List ℕ
accessed access words = slice_set words (table_index access) (made_of access (slice_index words (table_index access)))

-- the word that the machine finds
abbrev pub found_by : {R O : Type 0} → MachineKind R O → Stage R → R → O → ℕ
found_by kind stage machine order = slice_index stage.words (table_index (kind.plan machine order))

-- the access is made, and the machine is told its word
abbrev pub moved : {R O : Type 0} → MachineKind R O → Stage R → ℕ → R → O → Stage R
moved kind stage number machine order = record {
  words = accessed (kind.plan machine order) stage.words;
  machines = slice_set stage.machines number (kind.took machine order (got_of (kind.plan machine order) (found_by kind stage machine order)));
}

-- what an event makes of a stage, by the machine that has its number. An order that the machine does not take changes nothing
abbrev pub act_of : {R O : Type 0} → MachineKind R O → Stage R → Event O → Option R → Stage R
act_of kind stage event None = stage
act_of kind stage event (Some machine) = if kind.takes machine event.order then moved kind stage event.number machine event.order else stage

-- what an event makes of a stage
unfoldable pub act : {R O : Type 0} → MachineKind R O → Stage R → Event O → Stage R
act kind stage event = act_of kind stage event (slice_get stage.machines event.number)

-- what these events make of it, one after the other
unfoldable pub go : {R O : Type 0} → MachineKind R O → Stage R → List (Event O) → Stage R
go kind stage [] = stage
go kind stage (event ∷ rest) = go kind (act kind stage event) rest

-- the event is one: there is the machine, and it takes the order
pub record IsEvent {R O : Type 0} (kind : MachineKind R O) (stage : Stage R) (event : Event O) (r : R) : Type 0 where
  pub here : slice_get stage.machines event.number ≡ Some r
  pub takes : kind.takes r event.order ≡ true

-- some events lead from one stage to the other
pub record IsReached {R O : Type 0} (kind : MachineKind R O) (start end : Stage R) : Type 0 where
  pub events : List (Event O)
  pub ends : go kind start events ≡ end

-- some events lead to a stage in which this machine has this record
pub record HasReached {R O : Type 0} (kind : MachineKind R O) (start : Stage R) (number : ℕ) (r : R) : Type 0 where
  pub stage : Stage R
  pub reached : IsReached kind start stage
  pub here : slice_get stage.machines number ≡ Some r

-- some events lead to a stage in which this machine, under an order that it takes, is told this word
pub record Finds {R O : Type 0} (kind : MachineKind R O) (start : Stage R) (number : ℕ) (r : R) (order : O) (got : ℕ) : Type 0 where
  pub stage : Stage R
  pub reached : IsReached kind start stage
  pub here : slice_get stage.machines number ≡ Some r
  pub takes : kind.takes r order ≡ true
  pub found : got ≡ got_of (kind.plan r order) (found_by kind stage r order)

-- events one after another are one run
pub record RunsAdd {R O : Type 0} (kind : MachineKind R O) : Type 0 where
  pub none : (stage : Stage R) → go kind stage [] ≡ stage
  pub first : (stage : Stage R) (event : Event O) (es : List (Event O)) → go kind stage (event ∷ es) ≡ go kind (act kind stage event) es
  pub both : (stage : Stage R) (es fs : List (Event O)) → go kind stage (es ++ fs) ≡ go kind (go kind stage es) fs
  pub last : (stage : Stage R) (es : List (Event O)) (event : Event O) → go kind stage (es ++ event ∷ []) ≡ act kind (go kind stage es) event

-- an event is one access by one machine: it changes at most one word and at most one machine, and makes neither more nor fewer of them
pub record EventsAreSmall {R O : Type 0} (kind : MachineKind R O) : Type 0 where
  pub words : (stage : Stage R) (event : Event O) → length (act kind stage event).words ≡ length stage.words
  pub machines : (stage : Stage R) (event : Event O) → length (act kind stage event).machines ≡ length stage.machines
  pub other_machines : (stage : Stage R) (event : Event O) (k : ℕ) → k ≢ event.number → slice_get (act kind stage event).machines k ≡ slice_get stage.machines k
  pub other_words : (stage : Stage R) (event : Event O) (r : R) (k : ℕ) → IsEvent kind stage event r → k ≢ table_index (kind.plan r event.order) → slice_index (act kind stage event).words k ≡ slice_index stage.words k
  pub moved : (stage : Stage R) (event : Event O) (r : R) → IsEvent kind stage event r → act kind stage event ≡ moved kind stage event.number r event.order
