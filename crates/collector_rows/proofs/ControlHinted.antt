-- Where the control goes on with a hint its next access can be made.
use Rattle.std.proofs.Common.{◌≡◌, ℕ, true, false, Option, Some, None, refl, ap}
use Rattle.heap_words.specs.declared.config.Config.{Config}
use Rattle.unit_part.proofs.Hinted as unit
use Rattle.collector_rows.specs.declared.control_spot.ControlSpot.{ControlSpot}
use Rattle.collector_rows.specs.declared.control_spot.ControlSpot.TheVariants.{LookLeft, StoreEnd, LookAsked, LookFree, Working, Stopping, LoadWord, StoreWord, Go, Gone}
use Rattle.collector_rows.specs.ControlRows.{Controlling, control_seat, hinted_by, control_hinted, is_gone, takes_hint}
use Rattle.collector_rows.specs.ControlReady.{is_ready}

module _ (config : Config) where
  -- by where it stands: what holds of each spot but one in a unit, and of those behind a hint
  pub by_unit : (P : ControlSpot → ControlSpot → Type 0) (hint : Option ℕ) → ((spot : ControlSpot) → P spot spot) → ((unit_spot : _) → P (Working unit_spot) (hinted_by config hint (Working unit_spot))) → (spot : ControlSpot) → P spot (hinted_by config hint spot)
  by_unit P hint same_spot unit_case (Working spot) = unit_case spot
  by_unit P hint same_spot unit_case LookLeft = same_spot LookLeft
  by_unit P hint same_spot unit_case StoreEnd = same_spot StoreEnd
  by_unit P hint same_spot unit_case LookAsked = same_spot LookAsked
  by_unit P hint same_spot unit_case LookFree = same_spot LookFree
  by_unit P hint same_spot unit_case (Stopping spot) = same_spot (Stopping spot)
  by_unit P hint same_spot unit_case (LoadWord index extent) = same_spot (LoadWord index extent)
  by_unit P hint same_spot unit_case (StoreWord index extent) = same_spot (StoreWord index extent)
  by_unit P hint same_spot unit_case Go = same_spot Go
  by_unit P hint same_spot unit_case Gone = same_spot Gone

  pub hinted_ready : (hint : Option ℕ) (spot : ControlSpot) → is_ready config spot ≡ true → is_ready config (hinted_by config hint spot) ≡ true
  hinted_ready hint = by_unit (λ spot hinted_spot. is_ready config spot ≡ true → is_ready config hinted_spot ≡ true) hint (λ spot ready. ready) (λ unit_spot ready. unit.working config hint (control_seat config) unit_spot ready)

  pub hinted_gone : (hint : Option ℕ) (spot : ControlSpot) → is_gone (hinted_by config hint spot) ≡ is_gone spot
  hinted_gone hint = by_unit (λ spot hinted_spot. is_gone hinted_spot ≡ is_gone spot) hint (λ spot. refl) (λ unit_spot. refl)

  pub hinted_not : (hint : Option ℕ) (spot : ControlSpot) → takes_hint spot ≡ false → hinted_by config hint spot ≡ spot
  hinted_not hint = by_unit (λ spot hinted_spot. takes_hint spot ≡ false → hinted_spot ≡ spot) hint (λ spot takes_none. refl) (λ unit_spot takes_none. ap Working (unit.hinted_not config hint unit_spot takes_none))

  -- its spot is that behind the hint
  pub control_hinted_spot : (hint : Option ℕ) (control : Controlling) → (control_hinted config hint control).spot ≡ hinted_by config hint control.spot
  control_hinted_spot None control = by_unit (λ spot hinted_spot. spot ≡ hinted_spot) None (λ spot. refl) (λ unit_spot. refl) control.spot
  control_hinted_spot (Some address) control = refl

  pub control_hinted_ready : (hint : Option ℕ) (control : Controlling) → is_ready config control.spot ≡ true → is_ready config (control_hinted config hint control).spot ≡ true
  control_hinted_ready None control ready = ready
  control_hinted_ready (Some address) control ready = hinted_ready (Some address) control.spot ready
