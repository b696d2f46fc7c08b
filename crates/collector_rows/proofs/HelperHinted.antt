-- Where a helper goes on with a hint its next access can be made.
use Rattle.std.proofs.Common.{◌≡◌, ℕ, Bool, true, false, Option, Some, None, refl, ap}
use Rattle.std.proofs.lemmas.Bool.{and_parts, and_from}
use Rattle.heap_words.specs.declared.config.Config.{Config}
use Rattle.unit_part.proofs.Hinted as unit
use Rattle.collector_rows.specs.declared.help_spot.HelpSpot.{HelpSpot}
use Rattle.collector_rows.specs.declared.help_spot.HelpSpot.TheVariants.{LoadEnd, Entering, LoadPhase, LoadSet, Working, Leave, Gone}
use Rattle.collector_rows.specs.HelperRows.{Helping, hinted_by, help_hinted, is_gone, takes_hint}
use Rattle.collector_rows.specs.HelperReady.{spot_fits, help_ready}

module _ (config : Config) where
  pub hinted_fits : (hint : Option ℕ) (seat : ℕ) (spot : HelpSpot) → spot_fits config seat spot ≡ true → spot_fits config seat (hinted_by config hint spot) ≡ true
  hinted_fits hint seat (Working spot) fits = unit.working config hint seat spot fits
  hinted_fits hint seat LoadEnd fits = fits
  hinted_fits hint seat (Entering spot) fits = fits
  hinted_fits hint seat LoadPhase fits = fits
  hinted_fits hint seat (LoadSet phase) fits = fits
  hinted_fits hint seat Leave fits = fits
  hinted_fits hint seat Gone fits = fits

  pub hinted_gone : (hint : Option ℕ) (spot : HelpSpot) → is_gone (hinted_by config hint spot) ≡ is_gone spot
  hinted_gone hint (Working spot) = refl
  hinted_gone hint LoadEnd = refl
  hinted_gone hint (Entering spot) = refl
  hinted_gone hint LoadPhase = refl
  hinted_gone hint (LoadSet phase) = refl
  hinted_gone hint Leave = refl
  hinted_gone hint Gone = refl

  pub hinted_not : (hint : Option ℕ) (spot : HelpSpot) → takes_hint spot ≡ false → hinted_by config hint spot ≡ spot
  hinted_not hint (Working spot) takes_none = ap Working (unit.hinted_not config hint spot takes_none)
  hinted_not hint LoadEnd takes_none = refl
  hinted_not hint (Entering spot) takes_none = refl
  hinted_not hint LoadPhase takes_none = refl
  hinted_not hint (LoadSet phase) takes_none = refl
  hinted_not hint Leave takes_none = refl
  hinted_not hint Gone takes_none = refl

  pub help_hinted_ready : (hint : Option ℕ) (helper : Helping) → help_ready config helper ≡ true → help_ready config (help_hinted config hint helper) ≡ true
  help_hinted_ready None helper ready = ready
  help_hinted_ready (Some address) helper ready = let both_ready = and_parts _ _ ready in and_from _ _ both_ready.0 (hinted_fits (Some address) helper.seat helper.spot both_ready.1)

  -- its spot is that behind the hint
  pub help_hinted_spot : (hint : Option ℕ) (helper : Helping) → (help_hinted config hint helper).spot ≡ hinted_by config hint helper.spot
  help_hinted_spot None helper = hinted_none helper.spot
    where
      hinted_none : (spot : HelpSpot) → spot ≡ hinted_by config None spot
      hinted_none (Working inner_spot) = refl
      hinted_none LoadEnd = refl
      hinted_none (Entering inner_spot) = refl
      hinted_none LoadPhase = refl
      hinted_none (LoadSet phase) = refl
      hinted_none Leave = refl
      hinted_none Gone = refl
  help_hinted_spot (Some address) helper = refl

  pub help_hinted_seat : (hint : Option ℕ) (helper : Helping) → (help_hinted config hint helper).seat ≡ helper.seat
  help_hinted_seat None helper = refl
  help_hinted_seat (Some address) helper = refl
