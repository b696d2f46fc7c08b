-- How a unit of updating goes on: what is still to be updated stays so, or is current by then, while a machine claims a unit, comes past a
-- field, or ends.
use Rattle.std.proofs.Common.{◌≡◌, ◌≢◌, ℕ, ◌+◌, ◌<◌, ◌≤◌, ◌⊎◌, Option, Some, None, ⊎_elim, inl, inr, sym, ap, ◌∙◌, subst, arith}
use Rattle.std.proofs.lemmas.Bool.{cases_eq}
use Rattle.std.proofs.lemmas.Option.{same_Some}
use Rattle.heap_words.specs.declared.config.Config.{Config}
use Rattle.heap_words.specs.Ranges.{seat_count}
use Rattle.regions.specs.Place.{region_with}
use Rattle.shen_graph.specs.declared.name.Name.{Name}
use Rattle.heap_world.specs.World.{Plot, Scan, thing, IsYoung, IsAhead, IsCurrent, IsToUpdate, IsUpdating}
use Rattle.heap_world.proofs.FunctionUpdates.{updated, updated_there, updated_else}

-- a field comes where a machine stands, if it stands in the unit of the field's region, or behind
abbrev pub Comes : Config → Option Scan → (address field : ℕ) → Type 0
Comes config pass address field = (scan : Scan) × (pass ≡ Some scan) × (region_with config scan.object ≡ region_with config address) × IsAhead scan address field

-- as it is said where it stands
pub comes_at : (config : Config) (pass : Option Scan) (scan : Scan) (address field : ℕ) → pass ≡ Some scan → Comes config pass address field → (region_with config scan.object ≡ region_with config address) × IsAhead scan address field
comes_at config pass scan address field pass_there comes = subst (λ some_scan. (region_with config some_scan.object ≡ region_with config address) × IsAhead some_scan address field) (same_Some comes.0 scan (sym comes.1 ∙ pass_there)) (comes.2, comes.3)

-- each field to which a machine comes from where it stands it comes to from another stand, or the field is current
abbrev pub IsPassed : Config → (limit heap : ℕ → ℕ) → Plot → (from later_pass : Option Scan) → Type 0
IsPassed config limit heap block from later_pass = (address refs nums field : ℕ) (name : Name) → block address ≡ Some (thing name refs nums) → field < refs → (IsYoung config limit address → ⊥) → Comes config from address field
    → IsCurrent block (heap (address + 3 + field)) ⊎ Comes config later_pass address field

-- it does from the same one
pub passed_same : (config : Config) (limit heap : ℕ → ℕ) (block : Plot) (pass : Option Scan) → IsPassed config limit heap block pass pass
passed_same config limit heap block pass address refs nums field name object_there field_below old comes = inr comes

module _ (config : Config) (claim claim_then : ℕ) (limit : ℕ → ℕ) (scanning : ℕ → Option Scan) (seat : ℕ) (pass : Option Scan) (seated : seat < seat_count config.mutators config.helpers) where
  -- A field is still to be updated, or needs it no more, where one machine claims a unit or goes on in its own.
  pub to_update_then : (address field : ℕ) (P : Type 0)
      → ((IsYoung config limit address → ⊥) → claim ≤ region_with config address → (claim_then ≤ region_with config address) ⊎ Comes config pass address field)
      → ((IsYoung config limit address → ⊥) → Comes config (scanning seat) address field → P ⊎ Comes config pass address field)
      → IsToUpdate config claim limit scanning address field → P ⊎ IsToUpdate config claim_then limit (updated scanning seat pass) address field
  to_update_then address field P unclaimed_case own_case (IsToUpdate.unclaimed old above_claim) = ⊎_elim
      (λ (still_above : claim_then ≤ region_with config address). inr (IsToUpdate.unclaimed old still_above))
      (λ (comes : Comes config pass address field). inr (IsToUpdate.in_unit old seat comes.0 seated (updated_there scanning seat pass ∙ comes.1) comes.2 comes.3))
      (unclaimed_case old above_claim)
  to_update_then address field P unclaimed_case own_case (IsToUpdate.in_unit old other_seat scan other_seated scan_there same_region ahead) = ⊎_elim
      (λ (same_seat : seat ≡ other_seat). ⊎_elim
      (λ (field_done : P). inl field_done)
      (λ (comes : Comes config pass address field). inr (IsToUpdate.in_unit old seat comes.0 seated (updated_there scanning seat pass ∙ comes.1) comes.2 comes.3))
      (own_case old (scan, ap scanning same_seat ∙ scan_there, same_region, ahead)))
      (λ (seats_differ : seat ≢ other_seat). inr (IsToUpdate.in_unit old other_seat scan other_seated (updated_else scanning seat pass other_seat seats_differ ∙ scan_there) same_region ahead))
      (cases_eq seat other_seat)

module _ (config : Config) (cset claim : ℕ) (top limit heap : ℕ → ℕ) (block : Plot) (scanning : ℕ → Option Scan) (seat : ℕ) (seated : seat < seat_count config.mutators config.helpers)
    (updating : IsUpdating config cset claim top limit heap block scanning) where
  -- a machine goes on in its unit, or ends it
  pub updating_passed : (later_pass : Option Scan) → IsPassed config limit heap block (scanning seat) later_pass → IsUpdating config cset claim top limit heap block (updated scanning seat later_pass)
  updating_passed later_pass passed = record {
    outside = updating.outside;
    renewed = λ address ref_count num_count field object_name object_there field_below. ⊎_elim
        (λ (current : IsCurrent block (heap (address + 3 + field))). inl current)
        (λ (due : IsToUpdate config claim limit scanning address field). to_update_then config claim claim limit scanning seat later_pass seated address field (IsCurrent block (heap (address + 3 + field)))
        (λ old above_claim. inl above_claim) (λ old comes. passed address ref_count num_count field object_name object_there field_below old comes) due)
        (updating.renewed address ref_count num_count field object_name object_there field_below);
    young = updating.young;
    limits = updating.limits;
  }

  -- a machine in no unit claims the next one, and stands where it comes to each field there, or no object has its current copy there
  pub updating_claimed : (later_pass : Option Scan) → scanning seat ≡ None
      → ((address refs nums field : ℕ) (name : Name) → block address ≡ Some (thing name refs nums) → region_with config address ≡ claim → Comes config later_pass address field)
      → IsUpdating config cset (claim + 1) top limit heap block (updated scanning seat later_pass)
  updating_claimed later_pass no_unit first_comes = record {
    outside = updating.outside;
    renewed = λ address refs nums field name object_there field_below. ⊎_elim
        (λ (current : IsCurrent block (heap (address + 3 + field))). inl current)
        (λ (due : IsToUpdate config claim limit scanning address field). to_update_then config claim (claim + 1) limit scanning seat later_pass seated address field (IsCurrent block (heap (address + 3 + field)))
        (λ old above_claim. ⊎_elim
        (λ (this_region : region_with config address ≡ claim). inr (first_comes address refs nums field name object_there this_region))
        (λ (other_region : region_with config address ≢ claim). inl (omega (arith, above_claim, other_region)))
        (cases_eq (region_with config address) claim))
        (λ old comes. (let no_scan : None ≡ Some comes.0 = sym no_unit ∙ comes.1 in absurd (cc (no_scan)))) due)
        (updating.renewed address refs nums field name object_there field_below);
    young = updating.young;
    limits = updating.limits;
  }
