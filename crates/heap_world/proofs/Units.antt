-- Where all units are claimed and no machine is in one, the work of a phase is done.
use Rattle.heap_words.specs.Phases.{evacuation_phase, updating_phase}
use Rattle.std.proofs.Common.{◌≡◌, ℕ, ◌+◌, ◌<◌, ◌≤◌, false, Option, Some, None, ⊎_elim, sym, ◌∙◌, subst, arith}
use Rattle.std.proofs.lemmas.Bool.{false≢true}
use Rattle.std.proofs.lemmas.Option.{none-some}
use Rattle.heap_words.specs.declared.config.Config.{Config}
use Rattle.heap_words.specs.Ranges.{seat_count}
use Rattle.heap_words.specs.Words.{Phase, Cset, Evac, Claim, Top, Limit, Heap}
use Rattle.regions.specs.Place.{region_with, IsOf}
use Rattle.regions.proofs.PlaceLemmas.{regions_tile}
use Rattle.heap_words.specs.Counter.{is_out_of_room}
use Rattle.shen_graph.specs.declared.name.Name.{Name}
use Rattle.heap_world.specs.World.{World, Block, thing, words_of, Plot, Scan, IsPlotted, IsCollected, IsYoung, IsCurrent, IsToUpdate, IsUpdating, Shared}

-- a piece of some words lies in the region with its address, which is one of the heap
pub piece_region : (config : Config) (top : ℕ → ℕ) (block : Plot) → IsPlotted config top block → (address : ℕ) (piece : Block) → block address ≡ Some piece → 1 ≤ words_of piece → (region_with config address < config.regions) × IsOf config (region_with config address) address
piece_region config top block plotted address piece piece_there has_words =
    let used = plotted.in_use address piece piece_there in
    let end_below = plotted.tops used.region used.within in
    let in_region : IsOf config used.region address = record { from = used.from_base; before = (let piece_below_top = used.to_top in omega (arith, piece_below_top, end_below, has_words)) } in
    let same_region : region_with config address ≡ used.region = regions_tile.of_no_other config used.region address in_region in
    (subst (λ row. row < config.regions) (sym same_region) used.within, subst (λ region. IsOf config region address) (sym same_region) in_region)

-- A field of a current copy is current, where its region's unit is claimed and no machine stands in it.
pub unit_is_current : (config : Config) (cset claim : ℕ) (top limit heap : ℕ → ℕ) (block : Plot) (scanning : ℕ → Option Scan) → IsUpdating config cset claim top limit heap block scanning
    → (address refs nums field : ℕ) (name : Name) → region_with config address < claim
    → ((seat : ℕ) (scan : Scan) → seat < seat_count config.mutators config.helpers → scanning seat ≡ Some scan → region_with config scan.object ≡ region_with config address → ⊥)
    → block address ≡ Some (thing name refs nums) → field < refs → IsCurrent block (heap (address + 3 + field))
unit_is_current config cset claim top limit heap block scanning updating address refs nums field name claimed nobody object_there field_below = ⊎_elim (λ current. current) (λ due. absurd (done due)) (updating.renewed address refs nums field name object_there field_below)
  where
    done : IsToUpdate config claim limit scanning address field → ⊥
    done (IsToUpdate.unclaimed old unit_free) = omega (arith, claimed, unit_free)
    done (IsToUpdate.in_unit old seat scan seated scan_stands same_region ahead) = nobody seat scan seated scan_stands same_region

-- so it is where it lies at or above its region's limit
pub above_is_current : (config : Config) (cset claim : ℕ) (top limit heap : ℕ → ℕ) (block : Plot) (scanning : ℕ → Option Scan) → IsUpdating config cset claim top limit heap block scanning
    → (address refs nums field : ℕ) (name : Name) → IsYoung config limit address → block address ≡ Some (thing name refs nums) → field < refs → IsCurrent block (heap (address + 3 + field))
above_is_current config cset claim top limit heap block scanning updating address refs nums field name young object_there field_below = ⊎_elim (λ current. current) (λ due. absurd (done due)) (updating.renewed address refs nums field name object_there field_below)
  where
    done : IsToUpdate config claim limit scanning address field → ⊥
    done (IsToUpdate.unclaimed old unit_free) = old young
    done (IsToUpdate.in_unit old seat scan seated scan_stands same_region ahead) = old young

-- In phase 3, where all regions are claimed and no machine stands in one, all fields of current copies are current.
pub all_is_current : (config : Config) (world : World) → Shared config world → world.memory Phase ≡ updating_phase → ((seat : ℕ) → seat < seat_count config.mutators config.helpers → world.ghost.scanning seat ≡ None) → config.regions ≤ world.memory Claim
    → (address refs nums field : ℕ) (name : Name) → world.block address ≡ Some (thing name refs nums) → field < refs → IsCurrent world.block (world.memory (Heap (address + 3 + field)))
all_is_current config world shared phase_three no_scans claimed address refs nums field name object_there field_below =
    let region_below = (piece_region config (λ region. world.memory (Top region)) world.block shared.parsable.plotted address (thing name refs nums) object_there (omega arith)).0 in
    unit_is_current config (world.memory Cset) (world.memory Claim) (λ region. world.memory (Top region)) (λ region. world.memory (Limit region)) (λ address. world.memory (Heap address)) world.block world.ghost.scanning (shared.updated phase_three) address refs nums field name
    (omega (arith, region_below, claimed)) (λ seat scan seated stands same_region. none-some scan (sym (no_scans seat seated) ∙ stands)) object_there field_below

-- In phase 2, where all regions are claimed, no machine works on one and there was room, no object has its current copy in the set.
pub none_is_left : (config : Config) (world : World) → Shared config world → world.memory Phase ≡ evacuation_phase → ((seat : ℕ) → seat < seat_count config.mutators config.helpers → world.ghost.working seat ≡ None) → config.regions ≤ world.memory Claim
    → is_out_of_room (world.memory Evac) ≡ false
    → (address refs nums : ℕ) (name : Name) → world.block address ≡ Some (thing name refs nums) → IsCollected config (world.memory Cset) address → ⊥
none_is_left config world shared phase_two no_work claimed enough_room address refs nums name object_there address_collected =
    let in_region_below = piece_region config (λ region. world.memory (Top region)) world.block shared.parsable.plotted address (thing name refs nums) object_there (omega arith) in
    let region_below = in_region_below.0 in
    let address_below_top = in_region_below.1.before in
    ⊎_elim
    (λ swept. ⊎_elim
    (λ room_out. false≢true (sym enough_room ∙ room_out))
    (λ field_left. field_left address refs nums name in_region_below.1.from (omega (arith, address_below_top)) object_there)
    swept)
    (λ works. none-some (region_with config address) (sym (no_work works.0 works.1) ∙ works.2))
    (shared.evacuated.units phase_two (region_with config address) (omega (arith, region_below, claimed)) address_collected)
