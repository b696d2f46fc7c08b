-- What a step has to obey, by where its machine stands: the access that it makes, and where the machine stands after it, by
-- the word that it finds.
use Rattle.std.specs.Prelude.{ℕ, ◌≡◌, ◌≢◌, ◌<◌, Bool, true, false, ◌⊎◌}
use Rattle.heap_words.specs.declared.config.Config.{Config}
use Rattle.heap_words.specs.declared.access.Access.{Access}
use Rattle.heap_words.specs.declared.access.Access.TheVariants.{Load}
use Rattle.heap_words.specs.Access.{table_index}
use Rattle.heap_words.specs.Words.{Pause, State, word_at, image_start}
use Rattle.heap_words.specs.Touch.{touch, loads, stores, placed}
use Rattle.handshake.specs.declared.enter_spot.EnterSpot.{EnterSpot}
use Rattle.handshake.specs.declared.stop_spot.StopSpot.{StopSpot}
use Rattle.handshake.specs.EnterRows.{touch_at as enter_touch, next_at as enter_next, is_ended as is_entered, leave_touch}
use Rattle.handshake.specs.StopRows.{touch_at as stop_touch, next_at as stop_next, is_ended as is_stopped, after_seat, go_touch}
use Rattle.handshake.specs.Standing.{Standing, outside, looks, backs, inside, leaves, idle, stops, checks, works, goes, is_within, is_pausing, is_free, control_seat, enter_standing, stop_standing}

-- the access is of no state word and not of the pause word
pub record IsElsewhere (config : Config) (access : Access) : Type 0 where
  pub not_pause : table_index access ≢ word_at config Pause
  pub not_state : (seat : ℕ) → seat < control_seat config → table_index access ≢ word_at config (State seat)

-- whether an access only reads
abbrev pub is_load : Access → Bool
is_load (Load index) = true
is_load _ = false

-- an access that may be made outside, also in a pause: it only reads, or is of a word below the image that the handshake
-- does not use
abbrev pub IsHarmless : Config → Access → Type 0
IsHarmless config access = (is_load access ≡ true) ⊎ (IsElsewhere config access × (table_index access < image_start config))

-- a machine that enters: it stores into its state word that it is in, and looks next
pub record Enters (config : Config) (seat : ℕ) (access : Access) (next : ℕ → Standing) : Type 0 where
  pub access_is : access ≡ placed config (touch (State seat) (stores 1))
  pub next_is : (got : ℕ) → next got ≡ looks

-- a machine that stays outside
pub record StaysOut (config : Config) (access : Access) (next : ℕ → Standing) : Type 0 where
  pub harmless : IsHarmless config access
  pub next_is : (got : ℕ) → next got ≡ outside

-- a machine that looks at the pause word: it is inside only where no pause is wanted
pub record Looks (config : Config) (access : Access) (next : ℕ → Standing) : Type 0 where
  pub access_is : access ≡ placed config (touch Pause loads)
  pub enters : next 0 ≡ inside
  pub backs_off : (got : ℕ) → got ≢ 0 → next got ≡ backs

-- a machine that goes out: it stores into its state word that it is out
pub record GoesOut (config : Config) (seat : ℕ) (access : Access) (next : ℕ → Standing) : Type 0 where
  pub access_is : access ≡ placed config (leave_touch seat)
  pub next_is : (got : ℕ) → next got ≡ outside

-- a machine in the heap, or the control between and in pauses: it uses other words, and goes on so
pub record GoesOn (config : Config) (access : Access) (next : ℕ → Standing) (on : Standing → Bool) : Type 0 where
  pub elsewhere : IsElsewhere config access
  pub goes_on : (got : ℕ) → on (next got) ≡ true

-- the control says that it wants a pause, and checks the first seat next
pub record Stops (config : Config) (access : Access) (next : ℕ → Standing) : Type 0 where
  pub access_is : access ≡ placed config (touch Pause (stores 1))
  pub next_is : (got : ℕ) → next got ≡ checks 0

-- the control checks a seat: it goes on only where the seat is out
pub record Checks (config : Config) (seat : ℕ) (access : Access) (next : ℕ → Standing) : Type 0 where
  pub access_is : access ≡ placed config (touch (State seat) loads)
  pub goes_on : next 0 ≡ stop_standing (after_seat config seat)
  pub waits : (got : ℕ) → got ≢ 0 → next got ≡ checks seat

-- the control ends the pause
pub record EndsPause (config : Config) (access : Access) (next : ℕ → Standing) : Type 0 where
  pub access_is : access ≡ placed config go_touch
  pub next_is : (got : ℕ) → next got ≡ idle

-- what the step of a machine with this seat has to obey
abbrev pub Obeys : Config → ℕ → Standing → Access → (ℕ → Standing) → Type 0
Obeys config seat outside access next = Enters config seat access next ⊎ StaysOut config access next
Obeys config seat looks access next = Looks config access next
Obeys config seat backs access next = GoesOut config seat access next
Obeys config seat inside access next = GoesOn config access next is_within
Obeys config seat leaves access next = GoesOut config seat access next
Obeys config seat idle access next = GoesOn config access next is_free
Obeys config seat stops access next = Stops config access next
Obeys config seat (checks awaited_seat) access next = Checks config awaited_seat access next
Obeys config seat works access next = GoesOn config access next is_pausing
Obeys config seat goes access next = EndsPause config access next

-- The rows obey: those of entering and leaving in the seat of a mutator or helper, and those of stopping and ending a pause.
pub record RowsObey (config : Config) : Type 0 where
  pub enter : (seat : ℕ) (spot : EnterSpot) → is_entered spot ≡ false → Obeys config seat (enter_standing spot) (placed config (enter_touch seat spot)) (λ got. enter_standing (enter_next spot got))
  pub leave : (seat : ℕ) → Obeys config seat leaves (placed config (leave_touch seat)) (λ got. outside)
  pub stop : (seat : ℕ) (spot : StopSpot) → is_stopped spot ≡ false → Obeys config seat (stop_standing spot) (placed config (stop_touch spot)) (λ got. stop_standing (stop_next config spot got))
  pub go : (seat : ℕ) → Obeys config seat goes (placed config go_touch) (λ got. idle)
