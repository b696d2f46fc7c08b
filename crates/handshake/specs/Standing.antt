-- Where a machine stands, as far as entering, leaving and stopping go.
use Rattle.std.specs.Prelude.{ℕ, ◌≡◌, ◌+◌, ◌<◌, Bool, true, false, nat_lt}
use Rattle.heap_words.specs.declared.config.Config.{Config}
use Rattle.handshake.specs.declared.enter_spot.EnterSpot.{EnterSpot}
use Rattle.handshake.specs.declared.enter_spot.EnterSpot.TheVariants as enter
use Rattle.handshake.specs.declared.stop_spot.StopSpot.{StopSpot}
use Rattle.handshake.specs.declared.stop_spot.StopSpot.TheVariants as stop

-- The first five are those of a mutator or a helper, the others those of the control.
pub data Standing : Type 0 where
  outside : Standing  -- not in the heap: between calls, waiting to enter or for an answer, or ended
  looks : Standing  -- it looks at the pause word, now that its state word says that it is in
  backs : Standing  -- it takes its state word back, since a pause is wanted
  inside : Standing  -- in the heap
  leaves : Standing  -- in the heap, and leaves it next
  idle : Standing  -- no pause is wanted
  stops : Standing  -- a pause is wanted, and it says so next
  checks : (seat : ℕ) → Standing  -- it waits for this seat; those below it are out
  works : Standing  -- all are out, and it does the work of the pause
  goes : Standing  -- the work is done, and it ends the pause next

-- the state word of a machine that stands so: 1 from before it looks until it is out
abbrev pub state_word : Standing → ℕ
state_word looks = 1
state_word backs = 1
state_word inside = 1
state_word leaves = 1
state_word _ = 0

-- whether it is in the heap
abbrev pub is_within : Standing → Bool
is_within inside = true
is_within leaves = true
is_within _ = false

-- the pause word while the control stands so: 1 from its first check until the pause ends
abbrev pub pause_word : Standing → ℕ
pause_word (checks seat) = 1
pause_word works = 1
pause_word goes = 1
pause_word _ = 0

-- whether the control works in a pause, or has done so and not ended it yet
abbrev pub is_pausing : Standing → Bool
is_pausing works = true
is_pausing goes = true
is_pausing _ = false

-- whether the control wants no pause, or has not said so yet
abbrev pub is_free : Standing → Bool
is_free idle = true
is_free stops = true
is_free _ = false

-- whether the control has found that a seat is out, in this pause
abbrev pub is_checked : Standing → ℕ → Bool
is_checked (checks awaited_seat) seat = nat_lt seat awaited_seat
is_checked works seat = true
is_checked goes seat = true
is_checked _ seat = false

-- the seat of the control: the mutators come first, then the helpers
abbrev pub control_seat : Config → ℕ
control_seat config = config.mutators + config.helpers

-- whose standing it is: that of a machine with this seat
abbrev pub HasSeat : Config → ℕ → Standing → Type 0
HasSeat config seat idle = seat ≡ control_seat config
HasSeat config seat stops = seat ≡ control_seat config
HasSeat config seat (checks awaited_seat) = (seat ≡ control_seat config) × (awaited_seat < control_seat config)
HasSeat config seat works = seat ≡ control_seat config
HasSeat config seat goes = seat ≡ control_seat config
HasSeat config seat _ = seat < control_seat config

-- where a machine stands that enters
abbrev pub enter_standing : EnterSpot → Standing
enter_standing enter.Raise = outside
enter_standing enter.Look = looks
enter_standing enter.Lower = backs
enter_standing enter.Await = outside
enter_standing enter.Inside = inside

-- where the control stands that stops all others
abbrev pub stop_standing : StopSpot → Standing
stop_standing stop.Raise = stops
stop_standing (stop.Check seat) = checks seat
stop_standing stop.Stopped = works
