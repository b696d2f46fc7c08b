-- What the steps of a unit owe, of a helper or of the control: where one begins, goes on and ends.
use Rattle.heap_words.specs.Phases.{updating_phase, marking_phase, evacuation_phase, idle_phase}
use Rattle.std.proofs.Common.{◌≡◌, ◌≢◌, ℕ, ◌+◌, ◌<◌, ◌≤◌, true, false, refl, sym, ap, ◌∙◌, arith}
use Rattle.std.proofs.lemmas.Bool.{and_parts, eqb-false, eqb-true}
use Rattle.shen_graph.proofs.Bools.{false_from_flip}
use Rattle.heap_words.specs.declared.config.Config.{Config}
use Rattle.heap_words.specs.declared.access.Unit.{Unit}
use Rattle.heap_words.specs.declared.access.Unit.TheVariants.{Worked, NoneLeft}
use Rattle.heap_words.specs.Ranges.{seat_count}
use Rattle.heap_words.specs.Words.{Phase, Cset, Claim}
use Rattle.heap_words.specs.Touch.{Touch}
use Rattle.unit_part.specs.declared.scan_spot.ScanSpot.{ScanSpot}
use Rattle.unit_part.specs.declared.scan_spot.ScanSpot.TheVariants as scan
use Rattle.unit_part.specs.ScanRows as scans
use Rattle.load_barrier.specs.declared.evac_spot.EvacSpot.{EvacSpot}
use Rattle.load_barrier.specs.declared.evac_spot.EvacSpot.TheVariants as evac
use Rattle.load_barrier.specs.UnitRows as evacs
use Rattle.load_barrier.specs.UnitEnds as evac_ends
use Rattle.unit_part.specs.declared.update_spot.UpdateSpot.{UpdateSpot}
use Rattle.unit_part.specs.declared.update_spot.UpdateSpot.TheVariants as update
use Rattle.unit_part.specs.UpdateRows as updates
use Rattle.unit_part.specs.UpdateEnds as update_ends
use Rattle.unit_part.specs.declared.spot.UnitSpot.{UnitSpot}
use Rattle.unit_part.specs.declared.spot.UnitSpot.TheVariants.{Scanning, Evacuating, Updating, Ended}
use Rattle.unit_part.specs.Rows.{begins, touch_at, next_at, is_ended, scanned, evacuated, updated}
use Rattle.unit_part.specs.Ready.{is_ready, IsFit}
use Rattle.unit_part.proofs.Left.{by_phase, evac_left, update_left}
use Rattle.cycle_steps.proofs.Parts.{scanning_steps}
use Rattle.cycle_steps.specs.Evacuation.Facts.{HasNothing, CanEvacuate}
use Rattle.cycle_steps.proofs.Evacuation.Parts.{evacuating_steps}
use Rattle.cycle_steps.specs.Updating.Facts.{CanUpdate}
use Rattle.cycle_steps.proofs.Updating.Parts.{updating_steps}
use Rattle.heap_world.specs.World.{World, Shared}
use Rattle.heap_world.specs.Rely.{Rely}
use Rattle.heap_world.specs.Part.{PartStep}
use Rattle.step_core.proofs.Control.Due.{due_stays, claimed_due, early_due}
use Rattle.step_core.proofs.Machines.Ready.{no_hand}
use Rattle.alloc_buffers.specs.Facts.{OnlySpares}
use Rattle.step_core.proofs.Machines.Owed.{IsResting, Scans, CanWork}

-- in a phase that is none of 0, 1 and 2 references are updated
phase_three : (phase : ℕ) → phase ≤ 3 → phase ≢ idle_phase → phase ≢ marking_phase → phase ≢ evacuation_phase → phase ≡ updating_phase
phase_three phase phase_small not_idle not_one not_two = grind (arith, phase_small, not_idle, not_one, not_two)

-- a step from which more follows for who has the part inside
pub step_with : (config : Config) (world : World) (seat : ℕ) (touch : Touch) (facts more_facts : World → Type 0) (step : PartStep config world seat touch facts) → more_facts step.world → PartStep config world seat touch more_facts
step_with config world seat touch facts more_facts step more_there = record {
  world = step.world;
  memory = step.memory;
  graph = step.graph;
  shared = step.shared;
  own = more_there;
  keeps = step.keeps;
  others = step.others;
}

-- room that is free words of a buffer stays so
spares_on : (config : Config) (world next_world : World) (seat : ℕ) → Rely config seat world next_world → OnlySpares world seat → OnlySpares next_world seat
spares_on config world next_world seat rely spares address piece room_there room = spares address piece (rely.no_rooms address piece room_there room) room

-- who rests goes on to rest
pub rests_on : (config : Config) (world next_world : World) (seat : ℕ) → Rely config seat world next_world → IsResting world seat → IsResting next_world seat
rests_on config world next_world seat rely rests = record {
  records_none = rely.marks.recording ∙ rests.records_none;
  scans_none = rely.marks.scanning ∙ rests.scans_none;
  copies_none = rely.copies.copying ∙ rests.copies_none;
  works_none = rely.copies.working ∙ rests.works_none;
  rooms = spares_on config world next_world seat rely rests.rooms;
}

-- what a machine counts on in its unit stays while others step
pub work_stays : (config : Config) (world next_world : World) (seat : ℕ) (spot : UnitSpot) → Shared config world → Rely config seat world next_world → CanWork config world seat spot → CanWork config next_world seat spot
work_stays config world next_world seat (Scanning spot) shared rely can_work =
    (((scanning_steps.steps config seat).stands world spot tt can_work.0).stays next_world rely, rely.copies.copying ∙ can_work.1, rely.copies.working ∙ can_work.2, spares_on config world next_world seat rely can_work.3)
work_stays config world next_world seat (Evacuating cset spot) shared rely can_work = ((evacuating_steps.steps config seat cset).stands world spot shared can_work).stays next_world rely
work_stays config world next_world seat (Updating cset spot) shared rely can_work = ((updating_steps.steps config seat cset).stands world spot shared can_work).stays next_world rely
work_stays config world next_world seat (Ended Worked) shared rely can_work = rests_on config world next_world seat rely can_work
work_stays config world next_world seat (Ended NoneLeft) shared rely can_work = (rests_on config world next_world seat rely can_work.0, due_stays config world next_world seat rely can_work.1)

module _ (config : Config) (world : World) (seat : ℕ) (shared : Shared config world) where
  -- who rests has nothing
  has_nothing : IsResting world seat → HasNothing world seat
  has_nothing rests = record { copying = rests.copies_none; records_none = rests.records_none; scans_none = rests.scans_none; rooms = rests.rooms }

  -- who rests may begin a unit of the phase, which is not 0
  pub work_begins : (phase : ℕ) → seat < seat_count config.mutators config.helpers → phase ≢ idle_phase → phase ≡ world.memory Phase → IsResting world seat → CanWork config world seat (begins phase (world.memory Cset))
  work_begins phase seated not_idle same_phase rests = by_phase (CanWork config world seat) phase (world.memory Cset)
      (λ phase_one. (scanning_steps.begins config world seat seated (sym same_phase ∙ eqb-true _ _ phase_one) rests.records_none rests.scans_none (no_hand world seat rests.rooms), rests.copies_none, rests.works_none, rests.rooms))
      (λ not_one phase_two. evacuating_steps.begins config world seat seated (sym same_phase ∙ eqb-true _ _ phase_two) rests.works_none (has_nothing rests))
      (λ not_one not_two. updating_steps.begins config world seat seated
      (phase_three _ shared.phased.phase_is (λ phase_zero. not_idle (same_phase ∙ phase_zero)) (λ phase_one. eqb-false _ _ not_one (same_phase ∙ phase_one)) (λ phase_two. eqb-false _ _ not_two (same_phase ∙ phase_two))) rests.works_none (has_nothing rests))

  -- a word that it finds is fit
  pub work_fits : (spot : UnitSpot) → is_ready config seat spot ≡ true → CanWork config world seat spot → IsFit config seat spot (world.memory (touch_at config seat spot).word)
  work_fits (Scanning spot) spot_ready can_work = ((scanning_steps.steps config seat).goes world spot (false_from_flip (scans.is_ended spot) (and_parts _ _ spot_ready).1) shared can_work.0).fits
  work_fits (Evacuating cset spot) spot_ready can_work = ((evacuating_steps.steps config seat cset).goes world spot (false_from_flip (evacs.is_ended spot) (and_parts _ _ spot_ready).1) shared can_work).fits
  work_fits (Updating cset spot) spot_ready can_work = ((updating_steps.steps config seat cset).goes world spot (false_from_flip (updates.is_ended spot) (and_parts _ _ spot_ready).1) shared can_work).fits
  work_fits (Ended unit) spot_ready can_work = tt

  -- once all regions are claimed, they are after a step
  claims_then : (touch : Touch) (stands : World → Type 0) (step : PartStep config world seat touch stands) → config.regions ≤ world.memory Claim → config.regions ≤ step.world.memory Claim
  claims_then touch stands step claimed = (step.others (seat + 1) (λ same_seat. omega (arith, same_seat))).fields.claims claimed

  -- where no unit was left, all regions are claimed
  evac_claimed : (spot : EvacSpot) → evac_ends.HasNoneLeft config spot (world.memory (evacs.touch_at config seat spot).word) → config.regions ≤ world.memory Claim
  evac_claimed evac.LoadClaim none_left = none_left
  evac_claimed _ none_left = absurd none_left

  update_claimed : (spot : UpdateSpot) → update_ends.HasNoneLeft config spot (world.memory (updates.touch_at config spot).word) → config.regions ≤ world.memory Claim
  update_claimed update.LoadClaim none_left = none_left
  update_claimed _ none_left = absurd none_left

  -- where a scan goes on, or has ended
  scans_then : (world : World) (spot : ScanSpot) → Scans config world seat spot → CanWork config world seat (scanned spot)
  scans_then world (scan.Ended Worked) scans_unit = record { records_none = scans_unit.0.records_none; scans_none = scans_unit.0.scanning; copies_none = scans_unit.1; works_none = scans_unit.2; rooms = scans_unit.3 }
  scans_then world (scan.Ended NoneLeft) scans_unit = (
    record { records_none = scans_unit.0.records_none; scans_none = scans_unit.0.scanning; copies_none = scans_unit.1; works_none = scans_unit.2; rooms = scans_unit.3 },
    early_due config world.memory (let phase_known = scans_unit.0.phase in omega (arith, phase_known)),
  )
  scans_then world _ scans_unit = scans_unit

  -- and an evacuation
  evacuated_rests : (world : World) (cset : ℕ) (unit : Unit) → CanEvacuate config world seat cset (evac.Ended unit) → IsResting world seat
  evacuated_rests world cset unit can_evacuate = record {
    records_none = can_evacuate.facts.records_none;
    scans_none = can_evacuate.facts.scans_none;
    copies_none = can_evacuate.facts.copying;
    works_none = can_evacuate.working;
    rooms = can_evacuate.facts.rooms;
  }

  evacuates_then : (world : World) (cset : ℕ) (spot : EvacSpot) → (spot ≡ evac.Ended NoneLeft → config.regions ≤ world.memory Claim) → CanEvacuate config world seat cset spot → CanWork config world seat (evacuated cset spot)
  evacuates_then world cset (evac.Ended Worked) claimed_then can_evacuate = evacuated_rests world cset Worked can_evacuate
  evacuates_then world cset (evac.Ended NoneLeft) claimed_then can_evacuate = (evacuated_rests world cset NoneLeft can_evacuate, claimed_due config world.memory (claimed_then refl))
  evacuates_then world cset _ claimed_then can_evacuate = can_evacuate

  -- and an updating
  updated_rests : (world : World) (cset : ℕ) (unit : Unit) → CanUpdate config world seat cset (update.Ended unit) → IsResting world seat
  updated_rests world cset unit can_update = record { records_none = can_update.records_none; scans_none = can_update.scanning; copies_none = can_update.copying; works_none = can_update.working; rooms = can_update.rooms }

  updates_then : (world : World) (cset : ℕ) (spot : UpdateSpot) → (spot ≡ update.Ended NoneLeft → config.regions ≤ world.memory Claim) → CanUpdate config world seat cset spot → CanWork config world seat (updated cset spot)
  updates_then world cset (update.Ended Worked) claimed_then can_update = updated_rests world cset Worked can_update
  updates_then world cset (update.Ended NoneLeft) claimed_then can_update = (updated_rests world cset NoneLeft can_update, claimed_due config world.memory (claimed_then refl))
  updates_then world cset _ claimed_then can_update = can_update

  -- What a step of a unit owes.
  abbrev pub WorkStep : UnitSpot → Type 0
  WorkStep spot = PartStep config world seat (touch_at config seat spot) (λ any_world. CanWork config any_world seat (next_at config spot (world.memory (touch_at config seat spot).word)))

  pub work_step : (spot : UnitSpot) → is_ready config seat spot ≡ true → is_ended spot ≡ false → CanWork config world seat spot → WorkStep spot
  work_step (Scanning spot) spot_ready spot_going can_work =
      let step = ((scanning_steps.steps config seat).goes world spot (false_from_flip (scans.is_ended spot) (and_parts _ _ spot_ready).1) shared can_work.0).step in
      step_with config world seat (scans.touch_at config spot) _ _ step (scans_then step.world _ (step.own.0, step.own.1.copying ∙ can_work.1, step.own.1.working ∙ can_work.2, λ address piece room_there. can_work.3 address piece (ap (λ plot. plot address) (sym step.own.2) ∙ room_there)))
  work_step (Evacuating cset spot) spot_ready spot_going can_work =
      let not_ended = false_from_flip (evacs.is_ended spot) (and_parts _ _ spot_ready).1 in
      let step = ((evacuating_steps.steps config seat cset).goes world spot not_ended shared can_work).step in
      step_with config world seat (evacs.touch_at config seat spot) _ _ step
      (evacuates_then step.world cset _ (λ none_left. claims_then (evacs.touch_at config seat spot) _ step (evac_claimed spot ((evac_left config cset spot _ not_ended).0 none_left))) step.own)
  work_step (Updating cset spot) spot_ready spot_going can_work =
      let not_ended = false_from_flip (updates.is_ended spot) (and_parts _ _ spot_ready).1 in
      let step = ((updating_steps.steps config seat cset).goes world spot not_ended shared can_work).step in
      step_with config world seat (updates.touch_at config spot) _ _ step
      (updates_then step.world cset _ (λ none_left. claims_then (updates.touch_at config spot) _ step (update_claimed spot ((update_left config cset spot _ not_ended).0 none_left))) step.own)
  work_step (Ended unit) spot_ready spot_going can_work = absurd (cc (spot_going))
