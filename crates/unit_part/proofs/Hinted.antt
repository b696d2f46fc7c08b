-- Where a machine goes on with a hint its next access can be made, and the unit has not ended.
use Rattle.std.proofs.Common.{◌≡◌, ℕ, Bool, true, false, Option, Some, None, refl, sym, ap, ◌∙◌, arith}
use Rattle.std.specs.Prelude.{◌&&◌, if◌then◌else◌}
use Rattle.std.proofs.lemmas.Bool.{and_parts, and_from, lt-ltb}
use Rattle.heap_words.specs.declared.config.Config.{Config}
use Rattle.heap_words.specs.Words.{Heap, is_word, bit_words}
use Rattle.heap_words.proofs.Stores.{is_word_true}
use Rattle.regions.specs.Marks.{mark_word}
use Rattle.regions.proofs.MarksApart.{word_inside}
use Rattle.unit_part.specs.declared.scan_spot.ScanSpot.{ScanSpot}
use Rattle.unit_part.specs.declared.scan_spot.ScanSpot.TheVariants.{LoadClaim, ClaimUnit, LoadGrey, LoadBlack, SetBlack, LoadShape, LoadField, SetGrey, Ended}
use Rattle.unit_part.specs.ScanRows as scans
use Rattle.unit_part.specs.declared.spot.UnitSpot.{UnitSpot}
use Rattle.unit_part.specs.declared.spot.UnitSpot.TheVariants.{Scanning, Evacuating, Updating}
use Rattle.unit_part.specs.declared.spot.UnitSpot.TheVariants as unit
use Rattle.unit_part.specs.Rows.{hinted_by, takes_hint, is_ended}
use Rattle.unit_part.specs.Ready.{is_ready}

module _ (config : Config) where
  -- of a scan
  scan_ready : (address : ℕ) → scans.is_ready config (scans.hinted config address) ≡ true
  scan_ready address = by_test (is_word config (Heap address)) refl
    where
      by_test : (holds : Bool) → is_word config (Heap address) ≡ holds → scans.is_ready config (if holds then LoadGrey (mark_word config address) else LoadClaim) ≡ true
      by_test true word_test = lt-ltb (mark_word config address) (bit_words config) (word_inside config address (is_word_true config (Heap address) word_test))
      by_test false outside = refl

  scan_goes : (address : ℕ) → scans.is_ended (scans.hinted config address) ≡ false
  scan_goes address = by_test (is_word config (Heap address))
    where
      by_test : (holds : Bool) → scans.is_ended (if holds then LoadGrey (mark_word config address) else LoadClaim) ≡ false
      by_test true = refl
      by_test false = refl

  scan_works : (seat address : ℕ) → is_ready config seat (Scanning (scans.hinted config address)) ≡ true
  scan_works seat address = and_from _ _ (scan_ready address) (ap (λ goes. if goes then false else true) (scan_goes address))

  -- of a unit
  pub hinted_ready : (hint : Option ℕ) (seat : ℕ) (spot : UnitSpot) → is_ready config seat spot ≡ true → is_ready config seat (hinted_by config hint spot) ≡ true
  hinted_ready None seat spot ready = ready
  hinted_ready (Some address) seat (Scanning LoadClaim) ready = scan_works seat address
  hinted_ready (Some address) seat (Scanning (ClaimUnit unit_number)) ready = ready
  hinted_ready (Some address) seat (Scanning (LoadGrey word)) ready = ready
  hinted_ready (Some address) seat (Scanning (LoadBlack word grey)) ready = ready
  hinted_ready (Some address) seat (Scanning (SetBlack other_address)) ready = ready
  hinted_ready (Some address) seat (Scanning (LoadShape other_address)) ready = ready
  hinted_ready (Some address) seat (Scanning (LoadField other_address field refs)) ready = ready
  hinted_ready (Some address) seat (Scanning (SetGrey other_address field refs found)) ready = ready
  hinted_ready (Some address) seat (Scanning (Ended ending)) ready = ready
  hinted_ready (Some address) seat (Evacuating cset spot) ready = ready
  hinted_ready (Some address) seat (Updating cset spot) ready = ready
  hinted_ready (Some address) seat (unit.Ended ending) ready = ready

  -- who takes no hints goes on as it is
  pub hinted_not : (hint : Option ℕ) (spot : UnitSpot) → takes_hint spot ≡ false → hinted_by config hint spot ≡ spot
  hinted_not None spot no_hint = refl
  hinted_not (Some address) (Scanning LoadClaim) no_hint = absurd (cc (no_hint))
  hinted_not (Some address) (Scanning (ClaimUnit unit_number)) no_hint = refl
  hinted_not (Some address) (Scanning (LoadGrey word)) no_hint = refl
  hinted_not (Some address) (Scanning (LoadBlack word grey)) no_hint = refl
  hinted_not (Some address) (Scanning (SetBlack other_address)) no_hint = refl
  hinted_not (Some address) (Scanning (LoadShape other_address)) no_hint = refl
  hinted_not (Some address) (Scanning (LoadField other_address field refs)) no_hint = refl
  hinted_not (Some address) (Scanning (SetGrey other_address field refs found)) no_hint = refl
  hinted_not (Some address) (Scanning (Ended ending)) no_hint = refl
  hinted_not (Some address) (Evacuating cset spot) no_hint = refl
  hinted_not (Some address) (Updating cset spot) no_hint = refl
  hinted_not (Some address) (unit.Ended ending) no_hint = refl

  -- a unit that goes on has not ended behind the hint
  ended_same : (hint : Option ℕ) (spot : UnitSpot) → is_ended (hinted_by config hint spot) ≡ is_ended spot
  ended_same hint asked_spot = by_test (takes_hint asked_spot) refl
    where
      claims : (address : ℕ) (unit_spot : UnitSpot) → takes_hint unit_spot ≡ true → is_ended (hinted_by config (Some address) unit_spot) ≡ is_ended unit_spot
      claims address (Scanning LoadClaim) takes = refl
      claims address (Scanning (ClaimUnit unit_number)) takes = absurd (cc (takes))
      claims address (Scanning (LoadGrey word)) takes = absurd (cc (takes))
      claims address (Scanning (LoadBlack word grey)) takes = absurd (cc (takes))
      claims address (Scanning (SetBlack other_address)) takes = absurd (cc (takes))
      claims address (Scanning (LoadShape other_address)) takes = absurd (cc (takes))
      claims address (Scanning (LoadField other_address field refs)) takes = absurd (cc (takes))
      claims address (Scanning (SetGrey other_address field refs found)) takes = absurd (cc (takes))
      claims address (Scanning (Ended ending)) takes = absurd (cc (takes))
      claims address (Evacuating cset evacuates) takes = absurd (cc (takes))
      claims address (Updating cset updates) takes = absurd (cc (takes))
      claims address (unit.Ended ending) takes = absurd (cc (takes))

      of_hint : (hint : Option ℕ) → takes_hint asked_spot ≡ true → is_ended (hinted_by config hint asked_spot) ≡ is_ended asked_spot
      of_hint None takes = refl
      of_hint (Some address) takes = claims address asked_spot takes

      by_test : (holds : Bool) → takes_hint asked_spot ≡ holds → is_ended (hinted_by config hint asked_spot) ≡ is_ended asked_spot
      by_test true takes = of_hint hint takes
      by_test false hint_test = ap is_ended (hinted_not hint asked_spot hint_test)

  -- so it is of who works on one
  pub working : (hint : Option ℕ) (seat : ℕ) (spot : UnitSpot) → (is_ready config seat spot && (if is_ended spot then false else true)) ≡ true
      → (is_ready config seat (hinted_by config hint spot) && (if is_ended (hinted_by config hint spot) then false else true)) ≡ true
  working hint seat spot works =
      let work_parts = and_parts _ _ works in
      and_from _ _ (hinted_ready hint seat spot work_parts.0) (ap (λ has_ended. if has_ended then false else true) (ended_same hint spot) ∙ work_parts.1)
