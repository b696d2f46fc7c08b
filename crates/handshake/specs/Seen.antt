-- What callers know of the machines that enter, leave, stop and go: in which heap, in which seat, and where they stand.
use Rattle.std.specs.Prelude.{ℕ, Bool}
use Rattle.heap_words.specs.declared.config.Config.{Config}
use Rattle.handshake.specs.declared.enter_spot.EnterSpot.{EnterSpot}
use Rattle.handshake.specs.declared.stop_spot.StopSpot.{StopSpot}
use Rattle.handshake.specs.declared.enter.Enter.{Enter}
use Rattle.handshake.specs.declared.leave.Leave.{Leave}
use Rattle.handshake.specs.declared.stop.Stop.{Stop}
use Rattle.handshake.specs.declared.go.Go.{Go}

-- a seat of a heap
pub record Seat : Type 0 where
  pub config : Config
  pub number : ℕ

abbrev pub seat_of_enter : Enter → Seat
seat_of_enter machine = record { config = machine.config; number = machine.seat }

abbrev pub spot_of_enter : Enter → EnterSpot
spot_of_enter machine = machine.spot

abbrev pub seat_of_leave : Leave → Seat
seat_of_leave machine = record { config = machine.config; number = machine.seat }

abbrev pub has_left : Leave → Bool
has_left machine = machine.is_done

abbrev pub config_of_stop : Stop → Config
config_of_stop machine = machine.config

abbrev pub spot_of_stop : Stop → StopSpot
spot_of_stop machine = machine.spot

abbrev pub config_of_go : Go → Config
config_of_go machine = machine.config

abbrev pub has_gone : Go → Bool
has_gone machine = machine.is_done
