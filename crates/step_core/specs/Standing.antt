-- Where the machines of a heap stand, as far as entering, leaving and stopping go.
use Rattle.handshake.specs.Standing.{Standing, outside, inside, leaves, idle, works, goes, enter_standing, stop_standing}
use Rattle.mutator.specs.declared.spot.Spot.{Spot}
use Rattle.mutator.specs.declared.spot.Spot.TheVariants.{Rest, Ended, Entering, Waiting, Leave, Gone}
use Rattle.mutator.specs.declared.waits.WaitSpot.{WaitSpot}
use Rattle.mutator.specs.declared.waits.WaitSpot.TheVariants as wait
use Rattle.collector_rows.specs.declared.help_spot.HelpSpot.{HelpSpot}
use Rattle.collector_rows.specs.declared.help_spot.HelpSpot.TheVariants as help
use Rattle.collector_rows.specs.declared.control_spot.ControlSpot.{ControlSpot}
use Rattle.collector_rows.specs.declared.control_spot.ControlSpot.TheVariants.{Stopping, LoadWord, StoreWord, Go}

-- an allocation that waits is outside while it looks for its answer
abbrev pub wait_standing : WaitSpot → Standing
wait_standing wait.StepOut = leaves
wait_standing wait.Poll = outside
wait_standing _ = inside

abbrev pub standing_at : Spot → Standing
standing_at Rest = outside
standing_at (Ended reply) = outside
standing_at Gone = outside
standing_at (Entering spot then_on) = enter_standing spot
standing_at (Waiting spot) = wait_standing spot
standing_at (Leave reply) = leaves
standing_at _ = inside

abbrev pub help_standing : HelpSpot → Standing
help_standing help.LoadEnd = outside
help_standing help.Gone = outside
help_standing (help.Entering spot) = enter_standing spot
help_standing help.Leave = leaves
help_standing _ = inside

abbrev pub control_standing : ControlSpot → Standing
control_standing (Stopping spot) = stop_standing spot
control_standing (LoadWord index extent) = works
control_standing (StoreWord index extent) = works
control_standing Go = goes
control_standing _ = idle
