-- The addresses that a machine has in hand, by where it stands: those that an access or a reply of its call or unit still needs. What it
-- keeps of a call or a unit that is done is not in hand.
use Rattle.std.specs.Prelude.{ℕ, ◌≡◌, ◌⊎◌, ◌<◌, length}
use Rattle.std.specs.Int.{bit_at}
use Rattle.heap_words.specs.declared.config.Config.{Config}
use Rattle.regions.specs.Marks.{address_at}
use Rattle.shen_graph.specs.declared.command.Command.{Command}
use Rattle.heap_words.specs.Encoding.{next_in}
use Rattle.alloc_buffers.specs.declared.spot.TakeSpot.{TakeSpot}
use Rattle.alloc_buffers.specs.declared.spot.TakeSpot.TheVariants as take
use Rattle.satb_barrier.specs.declared.spot.RememberSpot.{RememberSpot}
use Rattle.satb_barrier.specs.declared.spot.RememberSpot.TheVariants as remember
use Rattle.unit_part.specs.declared.scan_spot.ScanSpot.{ScanSpot}
use Rattle.unit_part.specs.declared.scan_spot.ScanSpot.TheVariants as scan
use Rattle.load_barrier.specs.declared.copying.CopySpot.{CopySpot}
use Rattle.load_barrier.specs.declared.copying.CopySpot.TheVariants.{GiveBack}
use Rattle.load_barrier.specs.declared.spot.ResolveSpot.{ResolveSpot}
use Rattle.load_barrier.specs.declared.spot.ResolveSpot.TheVariants.{Taking, Copying, Leaving}
use Rattle.load_barrier.specs.declared.evac_spot.EvacSpot.{EvacSpot}
use Rattle.load_barrier.specs.declared.evac_spot.EvacSpot.TheVariants as evac
use Rattle.unit_part.specs.declared.update_spot.UpdateSpot.{UpdateSpot}
use Rattle.unit_part.specs.declared.update_spot.UpdateSpot.TheVariants as update
use Rattle.unit_part.specs.declared.spot.UnitSpot.{UnitSpot}
use Rattle.unit_part.specs.declared.spot.UnitSpot.TheVariants as unit
use Rattle.mutator.specs.declared.spot.Spot.{Spot}
use Rattle.mutator.specs.declared.spot.Spot.TheVariants.{Loading, OnField, Resolving, Recording, OnNumber, Showing, StoreRoot, Making, Pinning, Waiting}
use Rattle.mutator.specs.declared.loads.LoadSpot.{LoadSpot}
use Rattle.mutator.specs.declared.loads.LoadSpot.TheVariants as load
use Rattle.mutator.specs.declared.fields.FieldSpot.{FieldSpot}
use Rattle.mutator.specs.declared.fields.FieldSpot.TheVariants as fields
use Rattle.mutator.specs.declared.overwrites.Overwritten.{Overwritten}
use Rattle.mutator.specs.declared.overwrites.Overwritten.TheVariants as overwrites
use Rattle.mutator.specs.declared.resolves.Loaded.{Loaded}
use Rattle.mutator.specs.declared.resolves.Loaded.TheVariants.{ForRoot, ToCompare}
use Rattle.mutator.specs.declared.makes.MakeSpot.{MakeSpot}
use Rattle.mutator.specs.declared.makes.MakeSpot.TheVariants as make
use Rattle.mutator.specs.declared.waits.WaitSpot.{WaitSpot}
use Rattle.mutator.specs.declared.waits.WaitSpot.TheVariants as wait
use Rattle.mutator.specs.Commands.{command_roots}
use Rattle.collector_rows.specs.declared.help_spot.HelpSpot.{HelpSpot}
use Rattle.collector_rows.specs.declared.help_spot.HelpSpot.TheVariants as help
use Rattle.collector_rows.specs.declared.control_spot.ControlSpot.{ControlSpot}
use Rattle.collector_rows.specs.declared.control_spot.ControlSpot.TheVariants as control
use Rattle.step_core.specs.Actor.{Machine, mutating, helping, controlling}

-- of who takes room: the words that it has carved, the free words of its buffer that it takes, and those that it fills
abbrev pub IsTakeHand : TakeSpot → ℕ → Type 0
IsTakeHand (take.Fill buffer address room) asked_address = (asked_address ≡ address) ⊎ (asked_address ≡ next_in buffer)
IsTakeHand (take.StoreBuffer address room) asked_address = asked_address ≡ address
IsTakeHand _ asked_address = ⊥

-- the region that it is about to carve, or has taken and neither shared nor given back yet
abbrev pub IsTakeRegion : TakeSpot → ℕ → Type 0
IsTakeRegion (take.LoadTop buffer region) asked_region = asked_region ≡ region
IsTakeRegion (take.Carve buffer region top room) asked_region = asked_region ≡ region
IsTakeRegion (take.ShareRegion buffer shared region) asked_region = asked_region ≡ region
IsTakeRegion (take.GiveBack buffer region) asked_region = asked_region ≡ region
IsTakeRegion _ asked_region = ⊥

-- of who copies an object into room that begins at another address: the room, and where it gives that back the copy of the winner
abbrev pub IsCopyHand : (copy : ℕ) → CopySpot → ℕ → Type 0
IsCopyHand copy (GiveBack answer) address = (address ≡ copy) ⊎ (address ≡ answer)
IsCopyHand copy _ address = address ≡ copy

-- of who resolves an address: that address, what its taking of room has, and the answer before it leaves
abbrev pub IsResolveHand : (address : ℕ) → ResolveSpot → ℕ → Type 0
IsResolveHand address (Taking words spot) asked_address = (asked_address ≡ address) ⊎ IsTakeHand spot asked_address
IsResolveHand address (Copying copy end spot) asked_address = (asked_address ≡ address) ⊎ IsCopyHand copy spot asked_address
IsResolveHand address (Leaving answer) asked_address = (asked_address ≡ address) ⊎ (asked_address ≡ answer)
IsResolveHand address _ asked_address = asked_address ≡ address

-- of who records an address: that address, and where it empties its buffer the entry
abbrev pub IsRememberHand : (address : ℕ) → RememberSpot → ℕ → Type 0
IsRememberHand address (remember.MarkEntry entry found) asked_address = (asked_address ≡ address) ⊎ (asked_address ≡ found)
IsRememberHand address _ asked_address = asked_address ≡ address

-- of who scans: the objects that it has found grey, that which it scans, and what it has found in a field
abbrev pub IsScanHand : Config → ScanSpot → ℕ → Type 0
IsScanHand config (scan.LoadBlack word grey) asked_address = (bit : ℕ) × (bit < 64) × (bit_at grey bit ≡ 1) × (asked_address ≡ address_at config word bit)
IsScanHand config (scan.SetBlack address) asked_address = asked_address ≡ address
IsScanHand config (scan.LoadShape address) asked_address = asked_address ≡ address
IsScanHand config (scan.LoadField address field refs) asked_address = asked_address ≡ address
IsScanHand config (scan.SetGrey address field refs found) asked_address = (asked_address ≡ address) ⊎ (asked_address ≡ found)
IsScanHand config _ asked_address = ⊥

-- of who evacuates: the object, or the words that only fill, to which it has come, that behind it if there is one, and those of its resolving
abbrev pub IsEvacHand : EvacSpot → ℕ → Type 0
IsEvacHand (evac.LoadFirst address end) asked_address = asked_address ≡ address
IsEvacHand (evac.LoadShape address end) asked_address = asked_address ≡ address
IsEvacHand (evac.LoadMark address end next) asked_address = (asked_address ≡ address) ⊎ ((next < end) × (asked_address ≡ next))
IsEvacHand (evac.Resolving address end next spot) asked_address = IsResolveHand address spot asked_address ⊎ ((next < end) × (asked_address ≡ next))
IsEvacHand _ asked_address = ⊥

-- of who updates references: the object, or the words that only fill, to which it has come, what it has found in a field, and the copy to which that leads
abbrev pub IsUpdateHand : UpdateSpot → ℕ → Type 0
IsUpdateHand (update.LoadFirst walk address) asked_address = asked_address ≡ address
IsUpdateHand (update.LoadShape walk address) asked_address = asked_address ≡ address
IsUpdateHand (update.LoadBlack visit) asked_address = asked_address ≡ visit.address
IsUpdateHand (update.LoadField visit field) asked_address = asked_address ≡ visit.address
IsUpdateHand (update.LoadHeader visit field found) asked_address = (asked_address ≡ visit.address) ⊎ (asked_address ≡ found)
IsUpdateHand (update.ExchangeField visit field found copy) asked_address = (asked_address ≡ visit.address) ⊎ ((asked_address ≡ found) ⊎ (asked_address ≡ copy))
IsUpdateHand _ asked_address = ⊥

-- of who loads the roots of its command: those that it has loaded
abbrev pub IsLoadHand : Command → LoadSpot → ℕ → Type 0
IsLoadHand command load.First address = ⊥
IsLoadHand command (load.Second first) address = address ≡ first
IsLoadHand command (load.Third first second) address = (address ≡ first) ⊎ (address ≡ second)
IsLoadHand command (load.Shape object second third) address = (address ≡ object) ⊎ (((1 < length (command_roots command)) × (address ≡ second)) ⊎ ((2 < length (command_roots command)) × (address ≡ third)))

-- of who works on a field of an object: the object, and what it compares and stores
abbrev pub IsFieldHand : (object : ℕ) → FieldSpot → ℕ → Type 0
IsFieldHand object fields.Load address = address ≡ object
IsFieldHand object (fields.LoadExpected expect value) address = (address ≡ object) ⊎ ((address ≡ expect) ⊎ (address ≡ value))
IsFieldHand object (fields.LoadOld value) address = (address ≡ object) ⊎ (address ≡ value)
IsFieldHand object (fields.Store value) address = (address ≡ object) ⊎ (address ≡ value)
IsFieldHand object (fields.Swap value) address = (address ≡ object) ⊎ (address ≡ value)
IsFieldHand object (fields.Exchange found expect value) address = (address ≡ object) ⊎ ((address ≡ found) ⊎ ((address ≡ expect) ⊎ (address ≡ value)))

-- of who resolves what it has found in a field: what it goes on with then
abbrev pub IsLoadedHand : Loaded → ℕ → Type 0
IsLoadedHand ForRoot address = ⊥
IsLoadedHand (ToCompare object expect value) address = (address ≡ object) ⊎ ((address ≡ expect) ⊎ (address ≡ value))

-- and of who records what it overwrites
abbrev pub IsOverwrittenHand : Overwritten → ℕ → Type 0
IsOverwrittenHand (overwrites.Set object value) address = (address ≡ object) ⊎ (address ≡ value)
IsOverwrittenHand _ address = ⊥

-- of who makes an object: its room, also while it takes it
abbrev pub IsMakeHand : MakeSpot → ℕ → Type 0
IsMakeHand (make.Taking spot) asked_address = IsTakeHand spot asked_address
IsMakeHand (make.StoreWord address done) asked_address = asked_address ≡ address
IsMakeHand (make.StoreRoot address) asked_address = asked_address ≡ address

-- of who has waited for one: that object
abbrev pub IsWaitHand : WaitSpot → ℕ → Type 0
IsWaitHand (wait.StoreRoot address) asked_address = asked_address ≡ address
IsWaitHand _ asked_address = ⊥

-- of a mutator
abbrev pub IsMutatorHand : Command → Spot → ℕ → Type 0
IsMutatorHand command (Loading spot) asked_address = IsLoadHand command spot asked_address
IsMutatorHand command (OnField object spot) asked_address = IsFieldHand object spot asked_address
IsMutatorHand command (Resolving address spot next) asked_address = IsResolveHand address spot asked_address ⊎ IsLoadedHand next asked_address
IsMutatorHand command (Recording spot address next) asked_address = IsRememberHand address spot asked_address ⊎ IsOverwrittenHand next asked_address
IsMutatorHand command (OnNumber object refs spot) asked_address = asked_address ≡ object
IsMutatorHand command (Showing value spot) asked_address = asked_address ≡ value
IsMutatorHand command (StoreRoot value) asked_address = asked_address ≡ value
IsMutatorHand command (Pinning value spot) asked_address = asked_address ≡ value
IsMutatorHand command (Making spot) asked_address = IsMakeHand spot asked_address
IsMutatorHand command (Waiting spot) asked_address = IsWaitHand spot asked_address
IsMutatorHand command _ asked_address = ⊥

-- of who works on a unit
abbrev pub IsUnitHand : Config → UnitSpot → ℕ → Type 0
IsUnitHand config (unit.Scanning spot) address = IsScanHand config spot address
IsUnitHand config (unit.Evacuating cset spot) address = IsEvacHand spot address
IsUnitHand config (unit.Updating cset spot) address = IsUpdateHand spot address
IsUnitHand config _ address = ⊥

-- of a helper
abbrev pub IsHelpHand : Config → HelpSpot → ℕ → Type 0
IsHelpHand config (help.Working spot) address = IsUnitHand config spot address
IsHelpHand config _ address = ⊥

-- of the control
abbrev pub IsControlHand : Config → ControlSpot → ℕ → Type 0
IsControlHand config (control.Working spot) address = IsUnitHand config spot address
IsControlHand config _ address = ⊥

-- and of any machine, by its role
abbrev pub IsInHandOf : Config → Machine → ℕ → Type 0
IsInHandOf config (mutating mutator) address = IsMutatorHand mutator.kept.command mutator.spot address
IsInHandOf config (helping helper) address = IsHelpHand config helper.spot address
IsInHandOf config (controlling own_control) address = IsControlHand config own_control.spot address
