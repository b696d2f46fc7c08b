-- The laws of runs, over any kind of machine.
use Rattle.std.proofs.Common.{◌≡◌, ℕ, List, [], ◌∷◌, ◌++◌, Some, refl, ap, ◌∙◌, subst}
use Rattle.std.specs.Prelude.{slice_get}
use Rattle.heap_words.specs.Steps.{MachineKind, Stage, Event, act, go, IsReached, HasReached, Finds}

module _ {R O : Type 0} (kind : MachineKind R O) where
  pub go-none : (stage : Stage R) → go kind stage [] ≡ stage
  unfolding go
  go-none stage = refl

  pub go-first : (stage : Stage R) (event : Event O) (events : List (Event O)) → go kind stage (event ∷ events) ≡ go kind (act kind stage event) events
  unfolding go
  go-first stage event events = refl

  pub go-append : (stage : Stage R) (events later_events : List (Event O)) → go kind stage (events ++ later_events) ≡ go kind (go kind stage events) later_events
  unfolding go
  go-append stage [] later_events = refl
  go-append stage (event ∷ rest) later_events = go-append (act kind stage event) rest later_events

  pub go-step : (stage : Stage R) (events : List (Event O)) (event : Event O) → go kind stage (events ++ event ∷ []) ≡ act kind (go kind stage events) event
  unfolding go
  go-step stage [] event = refl
  go-step stage (first_event ∷ rest) event = go-step (act kind stage first_event) rest event

  -- what one event keeps, each run keeps
  pub go-keeps : (P : Stage R → Type 0) → ((stage : Stage R) (event : Event O) → P stage → P (act kind stage event)) → (stage : Stage R) (events : List (Event O)) → P stage → P (go kind stage events)
  unfolding go
  go-keeps P keeps stage [] holds = holds
  go-keeps P keeps stage (event ∷ events) holds = go-keeps P keeps (act kind stage event) events (keeps stage event holds)

  pub reached_none : (stage : Stage R) → IsReached kind stage stage
  reached_none stage = record { events = []; ends = go-none stage }

  pub reached_more : (start stage : Stage R) (event : Event O) → IsReached kind start stage → IsReached kind start (act kind stage event)
  reached_more start stage event reached = record {
    events = reached.events ++ event ∷ [];
    ends = go-step start reached.events event ∙ ap (λ x. act kind x event) reached.ends;
  }

  -- what holds of each stage that a run ends in holds of each that is reached
  pub reached_has : (P : Stage R → Type 0) (start end : Stage R) → ((events : List (Event O)) → P (go kind start events)) → IsReached kind start end → P end
  reached_has P start end holds_after reached = subst P reached.ends (holds_after reached.events)

  pub has_start : (stage : Stage R) (number : ℕ) (machine : R) → slice_get stage.machines number ≡ Some machine → HasReached kind stage number machine
  has_start stage number machine machine_there = record { stage = stage; reached = reached_none stage; here = machine_there }

  -- a machine that finds a word is reached
  pub finds_reached : (start : Stage R) (number : ℕ) (machine : R) (order : O) (got : ℕ) → Finds kind start number machine order got → HasReached kind start number machine
  finds_reached start number machine order got finds = record { stage = finds.stage; reached = finds.reached; here = finds.here }
