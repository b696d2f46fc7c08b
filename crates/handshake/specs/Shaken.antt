-- The handshake over any kind of machine, of whose records one says where they stand. It looks at no object.
use Rattle.std.specs.Prelude.{ℕ, ◌≡◌, ◌<◌, true, false, List, [], ◌∷◌, length, Some, slice_get, ◌⊎◌}
use Rattle.heap_words.specs.declared.config.Config.{Config}
use Rattle.heap_words.specs.Access.{table_index}
use Rattle.heap_words.specs.Words.{Pause, State, image_start, table_words, view}
use Rattle.heap_words.specs.Steps.{MachineKind, Stage, Event, IsEvent, act}
use Rattle.handshake.specs.Standing.{Standing, state_word, pause_word, is_within, is_pausing, is_checked, HasSeat, control_seat}
use Rattle.handshake.specs.Obeys.{Obeys, is_load}

-- The state words and the pause word say where the machines stand, and no machine is in the heap whose seat the control has
-- found to be out.
pub record IsShaken {R : Type 0} (config : Config) (standing : R → Standing) (stage : Stage R) : Type 0 where
  pub words : length stage.words ≡ table_words config
  pub control : R
  pub there : slice_get stage.machines (control_seat config) ≡ Some control
  pub seated : (seat : ℕ) (r : R) → slice_get stage.machines seat ≡ Some r → HasSeat config seat (standing r)
  pub pause : view config stage.words Pause ≡ pause_word (standing control)
  pub states : (seat : ℕ) (r : R) → seat < control_seat config → slice_get stage.machines seat ≡ Some r → view config stage.words (State seat) ≡ state_word (standing r)
  pub checked : (seat : ℕ) (r : R) → seat < control_seat config → slice_get stage.machines seat ≡ Some r → is_checked (standing control) seat ≡ true → is_within (standing r) ≡ false

-- an event obeys, if it is one
abbrev pub EventObeys : {R O : Type 0} → Config → MachineKind R O → (R → Standing) → Stage R → Event O → Type 0
EventObeys {R} config kind standing stage event = (machine : R) → IsEvent kind stage event machine → Obeys config event.number (standing machine) (kind.plan machine event.order) (λ got. standing (kind.took machine event.order got))

-- each event of a run obeys, where it is made
abbrev pub EachObeys : {R O : Type 0} → Config → MachineKind R O → (R → Standing) → Stage R → List (Event O) → Type 0
EachObeys config kind standing stage [] = Unit {0}
EachObeys config kind standing stage (event ∷ rest) = EventObeys config kind standing stage event × EachObeys config kind standing (act kind stage event) rest

-- the control of a stage works in a pause, or has done so and not ended it yet
abbrev pub IsPausing : {R : Type 0} → Config → (R → Standing) → Stage R → Type 0
IsPausing {R} config standing stage = (machine : R) → slice_get stage.machines (control_seat config) ≡ Some machine → is_pausing (standing machine) ≡ true

-- No mutator or helper is in the heap, and none makes an access to a word of the image but to read it.
pub record IsStill {R O : Type 0} (config : Config) (kind : MachineKind R O) (standing : R → Standing) (stage : Stage R) : Type 0 where
  pub nobody : (seat : ℕ) (r : R) → seat < control_seat config → slice_get stage.machines seat ≡ Some r → is_within (standing r) ≡ false
  pub only_reads : (event : Event O) (r : R) → event.number < control_seat config → IsEvent kind stage event r → EventObeys config kind standing stage event
      → (is_load (kind.plan r event.order) ≡ true) ⊎ (table_index (kind.plan r event.order) < image_start config)
