-- At which places hints are taken and addresses made grey: each place of a machine is one of three kinds.
use Rattle.std.proofs.Common.{◌≡◌, ℕ, Bool, true, false, Option, Some, None, refl, sym, ap, ◌∙◌, arith}
use Rattle.std.specs.Prelude.{◌↔◌, not}
use Rattle.heap_words.specs.declared.place.Place.{Place}
use Rattle.heap_words.specs.declared.place.Place.TheVariants.{MC, GO, KX}
use Rattle.shen_graph.specs.declared.order.Order.TheVariants.{Nothing}
use Rattle.handshake.specs.declared.enter_spot.EnterSpot.{EnterSpot}
use Rattle.handshake.specs.declared.enter_spot.EnterSpot.TheVariants as enter
use Rattle.handshake.specs.declared.stop_spot.StopSpot.{StopSpot}
use Rattle.handshake.specs.declared.stop_spot.StopSpot.TheVariants as stop
use Rattle.handshake.specs.EnterRows as enters
use Rattle.handshake.specs.StopRows as stops
use Rattle.alloc_buffers.specs.declared.spot.TakeSpot.{TakeSpot}
use Rattle.alloc_buffers.specs.declared.spot.TakeSpot.TheVariants as take
use Rattle.alloc_buffers.specs.Rows as takes
use Rattle.evac_room.specs.declared.spot.RoomSpot.{RoomSpot}
use Rattle.evac_room.specs.declared.spot.RoomSpot.TheVariants as room
use Rattle.evac_room.specs.Rows as rooms
use Rattle.satb_barrier.specs.declared.spot.RememberSpot.{RememberSpot}
use Rattle.satb_barrier.specs.declared.spot.RememberSpot.TheVariants as remember
use Rattle.satb_barrier.specs.Rows as satb
use Rattle.load_barrier.specs.declared.copying.CopySpot.{CopySpot}
use Rattle.load_barrier.specs.declared.copying.CopySpot.TheVariants as copy
use Rattle.load_barrier.specs.declared.spot.ResolveSpot.{ResolveSpot}
use Rattle.load_barrier.specs.declared.spot.ResolveSpot.TheVariants as resolve
use Rattle.load_barrier.specs.Rows as resolves
use Rattle.load_barrier.specs.declared.evac_spot.EvacSpot.{EvacSpot}
use Rattle.load_barrier.specs.declared.evac_spot.EvacSpot.TheVariants as evac
use Rattle.load_barrier.specs.UnitRows as evacs
use Rattle.unit_part.specs.declared.update_spot.UpdateSpot.{UpdateSpot}
use Rattle.unit_part.specs.declared.update_spot.UpdateSpot.TheVariants as update
use Rattle.unit_part.specs.UpdateRows as updates
use Rattle.heap_words.specs.declared.access.Unit.TheVariants.{Worked, NoneLeft}
use Rattle.unit_part.specs.declared.scan_spot.ScanSpot.{ScanSpot}
use Rattle.unit_part.specs.declared.scan_spot.ScanSpot.TheVariants as scan
use Rattle.unit_part.specs.ScanRows as scans
use Rattle.unit_part.specs.declared.spot.UnitSpot.{UnitSpot}
use Rattle.unit_part.specs.declared.spot.UnitSpot.TheVariants.{Scanning, Evacuating, Updating, Ended}
use Rattle.unit_part.specs.Rows as units
use Rattle.mutator.specs.declared.loads.LoadSpot.{LoadSpot}
use Rattle.mutator.specs.declared.loads.LoadSpot.TheVariants as load
use Rattle.mutator.specs.declared.fields.FieldSpot.{FieldSpot}
use Rattle.mutator.specs.declared.fields.FieldSpot.TheVariants as fields
use Rattle.mutator.specs.declared.numbers.NumberSpot.{NumberSpot}
use Rattle.mutator.specs.declared.numbers.NumberSpot.TheVariants as number
use Rattle.mutator.specs.declared.shows.ShowSpot.{ShowSpot}
use Rattle.mutator.specs.declared.shows.ShowSpot.TheVariants as show
use Rattle.mutator.specs.declared.makes.MakeSpot.{MakeSpot}
use Rattle.mutator.specs.declared.makes.MakeSpot.TheVariants as make
use Rattle.mutator.specs.declared.pins.PinSpot.{PinSpot}
use Rattle.mutator.specs.declared.pins.PinSpot.TheVariants as pins
use Rattle.mutator.specs.declared.waits.WaitSpot.{WaitSpot}
use Rattle.mutator.specs.declared.waits.WaitSpot.TheVariants as wait
use Rattle.mutator.specs.WaitRows.{wait_place}
use Rattle.mutator.specs.declared.spot.Spot.{Spot}
use Rattle.mutator.specs.declared.spot.Spot.TheVariants.{Entering, Loading, OnField, Resolving, Recording, OnNumber, Showing, Making, Pinning, Waiting}
use Rattle.mutator.specs.Rows as mutators
use Rattle.collector_rows.specs.declared.help_spot.HelpSpot.{HelpSpot}
use Rattle.collector_rows.specs.declared.help_spot.HelpSpot.TheVariants as help
use Rattle.collector_rows.specs.HelperRows as helpers
use Rattle.collector_rows.specs.declared.control_spot.ControlSpot.{ControlSpot}
use Rattle.collector_rows.specs.declared.control_spot.ControlSpot.TheVariants as control
use Rattle.collector_rows.specs.ControlRows as controls
use Rattle.step_core.specs.Actor.{Machine, mutating, helping, controlling}
use Rattle.step_core.specs.Machines.{takes_hint, greys_of, place_in}
use Rattle.step_core.specs.Seats.{unit_in, help_unit, control_unit}
use Rattle.step_core.specs.Hints.{scans_on, HintsHavePlaces}

-- the kind of a place: where units of marking are claimed, where an address is made grey, or another one
abbrev kind : Place → ℕ
kind MC = 1
kind GO = 2
kind _ = 0

kind_claims : (place : Place) → kind place ≡ 1 → place ≡ MC
kind_claims MC claim_kind = refl
kind_claims _ claim_kind = absurd (cc (claim_kind))

kind_greys : (place : Place) → kind place ≡ 2 → place ≡ GO
kind_greys GO grey_kind = refl
kind_greys _ grey_kind = absurd (cc (grey_kind))

-- the kind that goes with an address that is made grey
abbrev by_greyed : Option ℕ → ℕ
by_greyed None = 0
by_greyed (Some address) = 2

-- the parts of a call
enter_kind : (spot : EnterSpot) → kind (enters.place_at spot) ≡ 0
enter_kind enter.Raise = refl
enter_kind _ = refl

take_kind : (spot : TakeSpot) → kind (takes.place_at spot) ≡ 0
take_kind take.LoadBuffer = refl
take_kind _ = refl

room_kind : (spot : RoomSpot) → kind (rooms.place_at spot) ≡ 0
room_kind room.Outside = refl
room_kind _ = refl

copy_kind : (spot : CopySpot) → kind (resolves.copy_place spot) ≡ 0
copy_kind (copy.LoadWord words index) = refl
copy_kind _ = refl

resolve_kind : (spot : ResolveSpot) → kind (resolves.place_at spot) ≡ 0
resolve_kind (resolve.Entering spot) = room_kind spot
resolve_kind (resolve.Taking words spot) = take_kind spot
resolve_kind (resolve.Copying copy end spot) = copy_kind spot
resolve_kind (resolve.Stopping spot) = room_kind spot
resolve_kind _ = refl

load_kind : (spot : LoadSpot) → kind (mutators.load_place spot) ≡ 0
load_kind load.First = refl
load_kind _ = refl

field_kind : (spot : FieldSpot) → kind (mutators.field_place spot) ≡ 0
field_kind fields.Load = refl
field_kind _ = refl

number_kind : (spot : NumberSpot) → kind (mutators.number_place spot) ≡ 0
number_kind number.Load = refl
number_kind _ = refl

show_kind : (spot : ShowSpot) → kind (mutators.show_place spot) ≡ 0
show_kind show.LoadName = refl
show_kind _ = refl

pin_kind : (spot : PinSpot) → kind (mutators.pin_place spot) ≡ 0
pin_kind pins.Look = refl
pin_kind pins.Store = refl

make_kind : (spot : MakeSpot) → kind (mutators.make_place spot) ≡ 0
make_kind (make.Taking take) = take_kind take
make_kind _ = refl

wait_kind : (spot : WaitSpot) → kind (wait_place spot) ≡ 0
wait_kind wait.StoreRequest = refl
wait_kind _ = refl

remember_kind : (spot : RememberSpot) → kind (satb.place_at spot) ≡ by_greyed (satb.greys_at spot)
remember_kind remember.LoadCount = refl
remember_kind _ = refl

-- a mutator
spot_kind : (spot : Spot) → kind (mutators.place_at Nothing spot) ≡ by_greyed (mutators.greys_at spot)
spot_kind (Entering spot next) = enter_kind spot
spot_kind (Loading spot) = load_kind spot
spot_kind (OnField object spot) = field_kind spot
spot_kind (Resolving address spot next) = resolve_kind spot
spot_kind (Recording spot address next) = remember_kind spot
spot_kind (OnNumber object refs spot) = number_kind spot
spot_kind (Showing value spot) = show_kind spot
spot_kind (Making spot) = make_kind spot
spot_kind (Pinning value spot) = pin_kind spot
spot_kind (Waiting spot) = wait_kind spot
spot_kind _ = refl

-- the kind that goes with who works on a unit: it claims, or makes an address grey, or neither
abbrev by_work : Bool → Option ℕ → ℕ
by_work true greyed = 1
by_work false greyed = by_greyed greyed

evac_kind : (spot : EvacSpot) → kind (evacs.place_at spot) ≡ 0
evac_kind (evac.Resolving address end next_piece spot) = resolve_kind spot
evac_kind _ = refl

update_kind : (spot : UpdateSpot) → kind (updates.place_at spot) ≡ 0
update_kind (update.Ended Worked) = refl
update_kind (update.Ended NoneLeft) = refl
update_kind _ = refl

scan_kind : (spot : ScanSpot) → not (scans.is_ended spot) ≡ true → kind (scans.place_at spot) ≡ by_work (units.takes_hint (Scanning spot)) (scans.greys_at spot)
scan_kind (scan.Ended unit) goes_on = absurd (cc (goes_on))
scan_kind _ goes_on = refl

unit_kind : (spot : UnitSpot) → scans_on spot ≡ true → kind (units.place_at spot) ≡ by_work (units.takes_hint spot) (units.greys_at spot)
unit_kind (Scanning spot) scans_here = scan_kind spot scans_here
unit_kind (Evacuating cset spot) scans_here = evac_kind spot
unit_kind (Updating cset spot) scans_here = update_kind spot
unit_kind (Ended unit) scans_here = refl

stop_kind : (spot : StopSpot) → kind (stops.place_at spot) ≡ 0
stop_kind stop.Raise = refl
stop_kind _ = refl

help_kind : (spot : HelpSpot) → scans_on (help_unit spot) ≡ true → kind (helpers.place_at spot) ≡ by_work (helpers.takes_hint spot) (helpers.greys_at spot)
help_kind (help.Working spot) scans_here = unit_kind spot scans_here
help_kind (help.Entering spot) scans_here = enter_kind spot
help_kind _ scans_here = refl

control_kind : (spot : ControlSpot) → scans_on (control_unit spot) ≡ true → kind (controls.control_place spot) ≡ by_work (controls.takes_hint spot) (controls.greys_at spot)
control_kind (control.Working spot) scans_here = unit_kind spot scans_here
control_kind (control.Stopping spot) scans_here = stop_kind spot
control_kind _ scans_here = refl

-- a machine
machine_kind : (machine : Machine) → scans_on (unit_in machine) ≡ true → kind (place_in Nothing machine) ≡ by_work (takes_hint machine) (greys_of machine)
machine_kind (mutating mutator) scans_here = spot_kind mutator.spot
machine_kind (helping helper) scans_here = help_kind helper.spot scans_here
machine_kind (controlling controller) scans_here = control_kind controller.spot scans_here

claims_by : (holds : Bool) (greyed : Option ℕ) → by_work holds greyed ≡ 1 → holds ≡ true
claims_by true greyed claim_kind = refl
claims_by false None claim_kind = absurd (cc (claim_kind))
claims_by false (Some address) claim_kind = absurd (cc (claim_kind))

taken_there : (machine : Machine) → scans_on (unit_in machine) ≡ true → (takes_hint machine ≡ true) ↔ (place_in Nothing machine ≡ MC)
taken_there machine scans_here = (
  (λ takes_it. kind_claims (place_in Nothing machine) (machine_kind machine scans_here ∙ ap (λ is_taken. by_work is_taken (greys_of machine)) takes_it)),
  (λ claims_there. claims_by (takes_hint machine) (greys_of machine) (sym (machine_kind machine scans_here) ∙ ap kind claims_there)),
)

-- where a scan has ended no address is made grey either
scan_greys : (spot : ScanSpot) → (scans.greys_at spot ≡ None) ↔ (scans.place_at spot ≡ GO → ⊥)
scan_greys (scan.SetGrey address field refs found) = ((λ no_grey. absurd (cc (no_grey))), (λ not_there. absurd (not_there refl)))
scan_greys (scan.Ended Worked) = ((λ no_grey greys_there. cc), (λ not_there. refl))
scan_greys (scan.Ended NoneLeft) = ((λ no_grey greys_there. cc), (λ not_there. refl))
scan_greys _ = ((λ no_grey greys_there. cc), (λ not_there. refl))

greyed_by : (place : Place) (greyed : Option ℕ) → kind place ≡ by_greyed greyed → (greyed ≡ None) ↔ (place ≡ GO → ⊥)
greyed_by place None kind_is = ((λ no_grey greys_there. (let own_kind = kind_is in let grey_kind = ap kind greys_there in omega (arith, own_kind, grey_kind))), (λ not_there. refl))
greyed_by place (Some address) kind_is = ((λ no_grey. absurd (cc (no_grey))), (λ not_there. absurd (not_there (kind_greys place kind_is))))

unit_greys : (spot : UnitSpot) → (units.greys_at spot ≡ None) ↔ (units.place_at spot ≡ GO → ⊥)
unit_greys (Scanning spot) = scan_greys spot
unit_greys (Evacuating cset spot) = greyed_by (evacs.place_at spot) None (evac_kind spot)
unit_greys (Updating cset spot) = greyed_by (updates.place_at spot) None (update_kind spot)
unit_greys (Ended unit) = greyed_by KX None refl

help_greys : (spot : HelpSpot) → (helpers.greys_at spot ≡ None) ↔ (helpers.place_at spot ≡ GO → ⊥)
help_greys (help.Working spot) = unit_greys spot
help_greys (help.Entering spot) = greyed_by (enters.place_at spot) None (enter_kind spot)
help_greys spot = greyed_by (helpers.place_at spot) None refl

control_greys : (spot : ControlSpot) → (controls.greys_at spot ≡ None) ↔ (controls.control_place spot ≡ GO → ⊥)
control_greys (control.Working spot) = unit_greys spot
control_greys (control.Stopping spot) = greyed_by (stops.place_at spot) None (stop_kind spot)
control_greys spot = greyed_by (controls.control_place spot) None refl

greyed_there : (machine : Machine) → (greys_of machine ≡ None) ↔ (place_in Nothing machine ≡ GO → ⊥)
greyed_there (mutating mutator) = greyed_by (mutators.place_at Nothing mutator.spot) (mutators.greys_at mutator.spot) (spot_kind mutator.spot)
greyed_there (helping helper) = help_greys helper.spot
greyed_there (controlling controller) = control_greys controller.spot

pub places_of_hints : HintsHavePlaces
places_of_hints = record { taken = taken_there; greyed = greyed_there }
