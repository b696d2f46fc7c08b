-- A helper, and the control, that takes a hint is where it should be: what it counts on before a claim it counts on at a word of grey bits
-- too. It stands in the heap as before, and no image counts.
use Rattle.std.proofs.Common.{◌≡◌, ℕ, List, Option, Some, None, refl}
use Rattle.heap_words.specs.declared.config.Config.{Config}
use Rattle.unit_part.specs.declared.scan_spot.ScanSpot.{ScanSpot}
use Rattle.unit_part.specs.declared.scan_spot.ScanSpot.TheVariants as scan
use Rattle.unit_part.specs.declared.spot.UnitSpot.{UnitSpot}
use Rattle.unit_part.specs.declared.spot.UnitSpot.TheVariants.{Scanning, Evacuating, Updating, Ended}
use Rattle.unit_part.specs.Rows as units
use Rattle.cycle_steps.proofs.Parts.{scanning_steps}
use Rattle.heap_world.specs.World.{World}
use Rattle.collector_rows.specs.declared.help_spot.HelpSpot.{HelpSpot}
use Rattle.collector_rows.specs.declared.help_spot.HelpSpot.TheVariants as help
use Rattle.collector_rows.specs.HelperRows as helpers
use Rattle.collector_rows.specs.HelperRows.{Helping, help_hinted}
use Rattle.collector_rows.proofs.HelperHinted as helped
use Rattle.collector_rows.specs.ControlRows as controls
use Rattle.collector_rows.specs.ControlRows.{Controlling, control_hinted}
use Rattle.collector_rows.proofs.ControlHinted as controlled
use Rattle.step_core.specs.Machines.{stored_image}
use Rattle.step_core.specs.Pausing.{IsAim, IsOfExtent}
use Rattle.step_core.specs.Standing.{help_standing, control_standing}
use Rattle.step_core.proofs.Machines.Owed.{CanWork, HelpFacts, ControlFacts, IsHelper, IsControl}

module _ (config : Config) (world : World) (seat : ℕ) where
  -- in a unit
  scan_hinted : (address : ℕ) (spot : ScanSpot) → CanWork config world seat (Scanning spot) → CanWork config world seat (units.hinted_by config (Some address) (Scanning spot))
  scan_hinted address scan.LoadClaim can_work = (scanning_steps.hinted config world seat address can_work.0, can_work.1, can_work.2, can_work.3)
  scan_hinted address (scan.ClaimUnit unit) can_work = can_work
  scan_hinted address (scan.LoadGrey word) can_work = can_work
  scan_hinted address (scan.LoadBlack word grey) can_work = can_work
  scan_hinted address (scan.SetBlack scanned_address) can_work = can_work
  scan_hinted address (scan.LoadShape scanned_address) can_work = can_work
  scan_hinted address (scan.LoadField scanned_address field refs) can_work = can_work
  scan_hinted address (scan.SetGrey scanned_address field refs found) can_work = can_work
  scan_hinted address (scan.Ended ending) can_work = can_work

  pub work_hinted : (hint : Option ℕ) (spot : UnitSpot) → CanWork config world seat spot → CanWork config world seat (units.hinted_by config hint spot)
  work_hinted None spot can_work = can_work
  work_hinted (Some address) (Scanning spot) can_work = scan_hinted address spot can_work
  work_hinted (Some address) (Evacuating cset spot) can_work = can_work
  work_hinted (Some address) (Updating cset spot) can_work = can_work
  work_hinted (Some address) (Ended ending) can_work = can_work

  -- wherever a helper stands
  help_facts : (hint : Option ℕ) (spot : HelpSpot) → HelpFacts config world seat spot → HelpFacts config world seat (helpers.hinted_by config hint spot)
  help_facts hint (help.Working spot) facts = work_hinted hint spot facts
  help_facts hint help.LoadEnd facts = facts
  help_facts hint (help.Entering spot) facts = facts
  help_facts hint help.LoadPhase facts = facts
  help_facts hint (help.LoadSet phase) facts = facts
  help_facts hint help.Leave facts = facts
  help_facts hint help.Gone facts = facts

  pub help_hinted_is : (hint : Option ℕ) (helper : Helping) → IsHelper config world seat helper → IsHelper config world seat (help_hinted config hint helper)
  help_hinted_is None helper is_helper = is_helper
  help_hinted_is (Some address) helper is_helper = record {
    number_is = is_helper.number_is;
    ready = helped.help_hinted_ready config (Some address) helper is_helper.ready;
    facts = help_facts (Some address) helper.spot is_helper.facts;
    least = is_helper.least;
    below = is_helper.below;
  }

  -- and wherever the control does
  pub control_hinted_is : (words : List ℕ) (hint : Option ℕ) (control : Controlling) → IsControl config words world seat control → IsControl config words world seat (control_hinted config hint control)
  control_hinted_is words None control is_control = is_control
  control_hinted_is words (Some address) control is_control = record {
    number_is = is_control.number_is;
    ready = controlled.hinted_ready config (Some address) control.spot is_control.ready;
    phase_is = is_control.phase_is;
    set_is = is_control.set_is;
    facts = controlled.by_unit config (λ spot next_spot. ControlFacts config world seat spot → ControlFacts config world seat next_spot) (Some address) (λ spot facts. facts) (λ unit_spot facts. work_hinted (Some address) unit_spot facts) control.spot is_control.facts;
    aims = controlled.by_unit config (λ spot next_spot. IsAim config words spot control.image → IsAim config words next_spot control.image) (Some address) (λ spot aims. aims) (λ unit_spot aims. tt) control.spot is_control.aims;
    extent_is = controlled.by_unit config (λ spot next_spot. IsOfExtent config control.phase spot control.image → IsOfExtent config control.phase next_spot control.image) (Some address) (λ spot extent. extent) (λ unit_spot extent. tt) control.spot is_control.extent_is;
  }

module _ (config : Config) where
  -- where they stand is the same
  help_stands : (hint : Option ℕ) (spot : HelpSpot) → help_standing (helpers.hinted_by config hint spot) ≡ help_standing spot
  help_stands hint (help.Working spot) = refl
  help_stands hint help.LoadEnd = refl
  help_stands hint (help.Entering spot) = refl
  help_stands hint help.LoadPhase = refl
  help_stands hint (help.LoadSet phase) = refl
  help_stands hint help.Leave = refl
  help_stands hint help.Gone = refl

  pub help_hinted_stands : (hint : Option ℕ) (helper : Helping) → help_standing (help_hinted config hint helper).spot ≡ help_standing helper.spot
  help_hinted_stands None helper = refl
  help_hinted_stands (Some address) helper = help_stands (Some address) helper.spot

  pub help_hinted_seat : (hint : Option ℕ) (helper : Helping) → (help_hinted config hint helper).seat ≡ helper.seat
  help_hinted_seat None helper = refl
  help_hinted_seat (Some address) helper = refl

  pub help_hinted_gone : (hint : Option ℕ) (helper : Helping) → helpers.is_gone (help_hinted config hint helper).spot ≡ helpers.is_gone helper.spot
  help_hinted_gone None helper = refl
  help_hinted_gone (Some address) helper = helped.hinted_gone config (Some address) helper.spot

  pub control_hinted_stands : (hint : Option ℕ) (control : Controlling) → control_standing (control_hinted config hint control).spot ≡ control_standing control.spot
  control_hinted_stands None control = refl
  control_hinted_stands (Some address) control = controlled.by_unit config (λ spot next_spot. control_standing next_spot ≡ control_standing spot) (Some address) (λ spot. refl) (λ unit_spot. refl) control.spot

  pub control_hinted_gone : (hint : Option ℕ) (control : Controlling) → controls.is_gone (control_hinted config hint control).spot ≡ controls.is_gone control.spot
  control_hinted_gone None control = refl
  control_hinted_gone (Some address) control = controlled.hinted_gone config (Some address) control.spot

  -- and so is the image that counts
  pub control_hinted_image : (hint : Option ℕ) (control : Controlling) → stored_image (control_hinted config hint control).spot (control_hinted config hint control).image ≡ stored_image control.spot control.image
  control_hinted_image None control = refl
  control_hinted_image (Some address) control = controlled.by_unit config (λ spot next_spot. stored_image next_spot control.image ≡ stored_image spot control.image) (Some address) (λ spot. refl) (λ unit_spot. refl) control.spot
