-- A heap whose seats handles hold.
use Rattle.std.specs.Prelude.{ℕ, ◌≡◌, ◌==◌, Bool, true, false, List, [], ◌∷◌, length, map, Option, Some, None, if◌then◌else◌}
use Rattle.heap_words.specs.declared.config.Config.{Config}
use Rattle.heap_words.specs.declared.config.BadConfig.{BadConfig}
use Rattle.heap_words.specs.Faults.{wide_fault_of}
use Rattle.table_heap.specs.Core.{heap_opening}
use Rattle.heap_seats.specs.declared.seat.Seat.{Seat}
use Rattle.heap_seats.specs.FreshSeats.{AreFreshSeats}
use Rattle.covremuj.specs.declared.border.Configuration.{Configuration}
use Rattle.covremuj.specs.declared.handle.Handle.{Handle}
use Rattle.covremuj.specs.StatusNumbers.{number_of_fault}

-- what handles hold
abbrev pub seats_held : List Handle → List (Option Seat)
seats_held handles = map (λ h. h.held) handles

-- whether one of them is open
abbrev pub any_held : List (Option Seat) → Bool
any_held [] = false
any_held (None ∷ others) = any_held others
any_held (Some seat ∷ others) = true

-- they hold the seats of one heap that was opened, before its first event, in the order of their numbers
pub record HoldFreshSeats (config : Config) (held : List (Option Seat)) : Type 0 where
  pub seats : List Seat
  pub fresh : AreFreshSeats config (heap_opening config) seats
  pub each : held ≡ map Some seats

-- the configuration has these sizes
pub record HasSizes (sizes : Configuration) (config : Config) : Type 0 where
  pub regions : config.regions ≡ sizes.regions
  pub region_words : config.region_words ≡ sizes.region_words
  pub mutators : config.mutators ≡ sizes.mutators
  pub helpers : config.helpers ≡ sizes.helpers
  pub reserve : config.reserve ≡ sizes.reserve

-- the first of the sizes that is outside its range
abbrev pub fault_in : Configuration → Option BadConfig
fault_in sizes = wide_fault_of sizes.regions sizes.region_words sizes.mutators sizes.helpers sizes.reserve

-- why no heap is opened, but for memory: sizes, the number of handles, an open handle
abbrev pub handles_refused : (seats : ℕ) → List (Option Seat) → Option ℕ
handles_refused seats held = if length held == seats then (if any_held held then Some 54 else None) else Some 53

abbrev pub opening_refused : Option BadConfig → (seats : ℕ) → List (Option Seat) → Option ℕ
opening_refused (Some fault) seats held = Some (number_of_fault fault)
opening_refused None seats held = handles_refused seats held
