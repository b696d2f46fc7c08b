-- That a word is fit, for each part of a machine, is one fact.
use Rattle.std.proofs.Common.{ℕ, List}
use Rattle.std.proofs.Math.Bool.{Bool-set}
use Rattle.heap_words.specs.declared.config.Config.{Config}
use Rattle.shen_graph.specs.declared.order.Order.{Order}
use Rattle.shen_graph.specs.declared.order.Order.TheVariants.{Nothing, Begin, End, Hint}
use Rattle.load_barrier.specs.declared.spot.ResolveSpot.{ResolveSpot}
use Rattle.load_barrier.specs.declared.spot.ResolveSpot.TheVariants.{Leaving}
use Rattle.load_barrier.specs.declared.evac_spot.EvacSpot.{EvacSpot}
use Rattle.load_barrier.specs.declared.evac_spot.EvacSpot.TheVariants as evac
use Rattle.load_barrier.specs.Fit.{LeavesFit}
use Rattle.load_barrier.specs.UnitFit as units
use Rattle.unit_part.specs.declared.spot.UnitSpot.{UnitSpot}
use Rattle.unit_part.specs.declared.spot.UnitSpot.TheVariants.{Scanning, Evacuating, Updating, Ended}
use Rattle.unit_part.specs.Ready as unit
use Rattle.mutator.specs.declared.spot.Spot.{Spot}
use Rattle.mutator.specs.declared.spot.Spot.TheVariants.{OnField, Resolving}
use Rattle.mutator.specs.declared.spot.Kept.{Kept}
use Rattle.mutator.specs.Fit.{PartFit, EndsFit}
use Rattle.collector_rows.specs.declared.help_spot.HelpSpot.{HelpSpot}
use Rattle.collector_rows.specs.declared.help_spot.HelpSpot.TheVariants as help
use Rattle.collector_rows.specs.HelperReady as helpers
use Rattle.collector_rows.specs.declared.control_spot.ControlSpot.{ControlSpot}
use Rattle.collector_rows.specs.declared.control_spot.ControlSpot.TheVariants as control
use Rattle.collector_rows.specs.ControlReady.{UnitGoesOn}
use Rattle.collector_rows.specs.ControlRows.{control_seat}
use Rattle.step_core.specs.Fit.{IsWholeImage}

-- of an image
pub whole_is_prop : (config : Config) (phase : ℕ) (spot : ControlSpot) (image : List ℕ) (got : ℕ) → IsProp (IsWholeImage config phase spot image got)
whole_is_prop config phase (control.LoadWord index extent) image got = hlevel
whole_is_prop config phase _ image got = hlevel

-- of a resolving
leaves_is_prop : (spot : ResolveSpot) (got : ℕ) → IsProp (LeavesFit spot got)
leaves_is_prop (Leaving answer) got = hlevel
leaves_is_prop _ got = hlevel

-- of a unit of evacuation
evacuation_is_prop : (config : Config) (seat : ℕ) (spot : EvacSpot) (got : ℕ) → IsProp (units.PartFit config seat spot got)
evacuation_is_prop config seat (evac.LoadTop region) got = hlevel Bool-set
evacuation_is_prop config seat (evac.Resolving address end next_piece spot) got = hlevel (Bool-set, leaves_is_prop spot got)
evacuation_is_prop config seat _ got = hlevel

-- of a unit, of the control and of a helper
work_is_prop : (config : Config) (seat : ℕ) (spot : UnitSpot) (got : ℕ) → IsProp (unit.IsFit config seat spot got)
work_is_prop config seat (Scanning spot) got = hlevel Bool-set
work_is_prop config seat (Evacuating cset spot) got = hlevel (Bool-set, evacuation_is_prop config seat spot got)
work_is_prop config seat (Updating cset spot) got = hlevel Bool-set
work_is_prop config seat (Ended ended) got = hlevel

pub unit_is_prop : (config : Config) (spot : ControlSpot) (got : ℕ) → IsProp (UnitGoesOn config spot got)
unit_is_prop config (control.Working spot) got = work_is_prop config (control_seat config) spot got
unit_is_prop config _ got = hlevel

pub helpers_is_prop : (config : Config) (seat : ℕ) (spot : HelpSpot) (got : ℕ) → IsProp (helpers.UnitGoesOn config seat spot got)
helpers_is_prop config seat (help.Working spot) got = work_is_prop config seat spot got
helpers_is_prop config seat _ got = hlevel

-- of a part of a call
pub part_is_prop : (config : Config) (seat : ℕ) (kept : Kept) (spot : Spot) (got : ℕ) → IsProp (PartFit config seat kept spot got)
part_is_prop config seat kept (OnField object spot) got = hlevel Bool-set
part_is_prop config seat kept (Resolving address spot next) got = hlevel (Bool-set, leaves_is_prop spot got)
part_is_prop config seat kept _ got = hlevel

pub ends_is_prop : (order : Order) (got : ℕ) → IsProp (EndsFit order got)
ends_is_prop Nothing got = hlevel
ends_is_prop (Begin command) got = hlevel
ends_is_prop End got = hlevel
ends_is_prop (Hint address) got = hlevel
