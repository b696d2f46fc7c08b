-- The protocol by itself: one word, and copiers that enter, leave and find no room, in any order.
use Rattle.std.specs.Prelude.{ℕ, ◌≢◌, ◌≤◌, Bool, true, false, List, [], ◌∷◌, Option, Some, None, All, replicate, count_by, slice_get, slice_index, if◌then◌else◌}
use Rattle.heap_words.specs.declared.access.Took.{Took}
use Rattle.heap_words.specs.declared.access.Took.TheVariants as took
use Rattle.heap_words.specs.Steps.{MachineKind, Stage, Event, go}
use Rattle.heap_words.specs.Touch.{access_at}
use Rattle.evac_room.specs.declared.wish.Wish.{Wish}
use Rattle.evac_room.specs.declared.wish.Wish.TheVariants.{Enter, Leave, NoRoom}
use Rattle.evac_room.specs.declared.wish.Copying.{Copying}
use Rattle.evac_room.specs.declared.wish.Copying.TheVariants as copying
use Rattle.evac_room.specs.declared.spot.RoomSpot.{RoomSpot}
use Rattle.evac_room.specs.declared.spot.RoomSpot.TheVariants.{Outside, Look, Inside, Lower, Ask, Stopped}
use Rattle.evac_room.specs.Spot.{is_counted}
use Rattle.evac_room.specs.Rows.{form_at, next_at, says_at}

-- whether a copier takes the wish: at rest outside only to enter, at rest inside only to leave or that it found no room;
-- in between it takes any, and goes on
abbrev pub takes_at : RoomSpot → Wish → Bool
takes_at Outside Enter = true
takes_at Outside _ = false
takes_at Stopped Enter = true
takes_at Stopped _ = false
takes_at Inside Enter = false
takes_at Inside _ = true
takes_at _ wish = true

-- where it stands once it has taken the wish: at rest it begins a call
abbrev pub wish_begun : RoomSpot → Wish → RoomSpot
wish_begun Outside Enter = Look
wish_begun Stopped Enter = Look
wish_begun Inside Leave = Lower
wish_begun Inside NoRoom = Ask
wish_begun spot wish = spot

-- copiers as machines over one word, under wishes
abbrev pub copier_kind : MachineKind RoomSpot Wish
copier_kind = record {
  takes = takes_at;
  plan = λ spot wish. access_at 0 (form_at (wish_begun spot wish));
  took = λ spot wish got. next_at (wish_begun spot wish) got;
}

-- so many copiers outside, and the word 0
abbrev pub opening : ℕ → Stage RoomSpot
opening copiers = record { words = 0 ∷ []; machines = replicate copiers Outside }

-- the copiers are 1 to 12
pub record IsFew (copiers : ℕ) : Type 0 where
  pub least : 1 ≤ copiers
  pub most : copiers ≤ 12

-- what a list of steps leads to from the opening
abbrev pub copiers_reached : ℕ → List (Event Wish) → Stage RoomSpot
copiers_reached copiers steps = go copier_kind (opening copiers) steps

-- none of these steps is one of the copier of this number
abbrev pub AreOfOthers : ℕ → List (Event Wish) → Type 0
AreOfOthers number steps = All (λ step. step.number ≢ number) steps

-- the word that counts
abbrev pub counter : Stage RoomSpot → ℕ
counter stage = slice_index stage.words 0

-- how many copiers are inside, in a leave before its one access, or out of room and not yet taken off
abbrev pub counted : List RoomSpot → ℕ
counted copiers = count_by is_counted copiers

-- what a copier says of a step that ends its call
abbrev pub ended_at : RoomSpot → Copying
ended_at Inside = copying.Inside
ended_at Stopped = copying.Stopped
ended_at _ = copying.Outside

abbrev pub said : Took → RoomSpot → Copying
said took.More next_spot = copying.More
said took.Again next_spot = copying.Again
said took.Done next_spot = ended_at next_spot

-- what it says of the step that finds this word
abbrev pub copying_at : RoomSpot → ℕ → Copying
copying_at spot got = said (says_at spot got) (next_at spot got)

-- what a step answers, if there is the copier and it takes the wish
abbrev pub answer_by : ℕ → Wish → Option RoomSpot → Option Copying
answer_by word wish None = None
answer_by word wish (Some spot) = if takes_at spot wish then Some (copying_at (wish_begun spot wish) word) else None

-- what a step answers in a stage
abbrev pub answer_to : Stage RoomSpot → Event Wish → Option Copying
answer_to stage step = answer_by (counter stage) step.order (slice_get stage.machines step.number)

-- the word, where the copiers stand, and what a step answers, after a list of steps from the opening
abbrev pub word_after : ℕ → List (Event Wish) → ℕ
word_after copiers steps = counter (copiers_reached copiers steps)

abbrev pub spots_after : ℕ → List (Event Wish) → List RoomSpot
spots_after copiers steps = (copiers_reached copiers steps).machines

abbrev pub answer_after : ℕ → List (Event Wish) → Event Wish → Option Copying
answer_after copiers steps step = answer_to (copiers_reached copiers steps) step
