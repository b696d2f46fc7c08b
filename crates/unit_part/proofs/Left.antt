-- Where a unit begins, and where none is left.
use Rattle.heap_words.specs.Phases.{marking_phase, evacuation_phase}
use Rattle.std.proofs.Common.{◌≡◌, ℕ, ◌+◌, ◌↔◌, Bool, true, false, refl}
use Rattle.std.specs.Prelude.{◌==◌, Option, Some, None, nat_lt, if◌then◌else◌}
use Rattle.std.specs.Int.{bit_at}
use Rattle.std.proofs.lemmas.Bool.{and_parts, ltb-false, le-ltb}
use Rattle.shen_graph.proofs.Bools.{false_from_flip}
use Rattle.heap_words.specs.declared.config.Config.{Config}
use Rattle.heap_words.specs.declared.access.Unit.TheVariants.{Worked, NoneLeft}
use Rattle.heap_words.specs.Encoding.{filler_words_in, refs_in, is_forwarded, forwardee_in}
use Rattle.regions.specs.Marks.{mark_word, mark_bit, lowest_address}
use Rattle.unit_part.specs.declared.scan_spot.ScanSpot.{ScanSpot}
use Rattle.unit_part.specs.declared.scan_spot.ScanSpot.TheVariants as scan
use Rattle.unit_part.specs.ScanRows as scans
use Rattle.unit_part.specs.ScanEnds as scan_ends
use Rattle.load_barrier.specs.declared.spot.ResolveSpot.{ResolveSpot}
use Rattle.load_barrier.specs.declared.spot.ResolveSpot.TheVariants as resolve
use Rattle.load_barrier.specs.declared.evac_spot.EvacSpot.{EvacSpot}
use Rattle.load_barrier.specs.declared.evac_spot.EvacSpot.TheVariants as evac
use Rattle.load_barrier.specs.UnitRows as evacs
use Rattle.load_barrier.specs.UnitEnds as evac_ends
use Rattle.unit_part.specs.declared.update_spot.Walk.{Walk}
use Rattle.unit_part.specs.declared.update_spot.Visit.{Visit}
use Rattle.unit_part.specs.declared.update_spot.UpdateSpot.{UpdateSpot}
use Rattle.unit_part.specs.declared.update_spot.UpdateSpot.TheVariants as update
use Rattle.unit_part.specs.UpdateRows as updates
use Rattle.unit_part.specs.UpdateEnds as update_ends
use Rattle.unit_part.specs.declared.spot.UnitSpot.{UnitSpot}
use Rattle.unit_part.specs.declared.spot.UnitSpot.TheVariants.{Scanning, Evacuating, Updating, Ended}
use Rattle.unit_part.specs.Rows.{begins, scanned, evacuated, updated, next_at}
use Rattle.unit_part.specs.Ready.{is_ready}
use Rattle.unit_part.specs.Ends.{HasNoneLeft}

-- a choice by a test
pub by_test : {A : Type 0} (P : A → Type 0) (holds : Bool) (x y : A) → (holds ≡ true → P x) → (holds ≡ false → P y) → P (if holds then x else y)
by_test P true x y if_true if_false = if_true refl
by_test P false x y if_true if_false = if_false refl

-- what holds of each of the three beginnings holds of that of a phase
pub by_phase : (P : UnitSpot → Type 0) (phase cset : ℕ) → ((phase == marking_phase) ≡ true → P (Scanning scan.LoadClaim)) → ((phase == marking_phase) ≡ false → (phase == evacuation_phase) ≡ true → P (Evacuating cset evac.LoadClaim))
    → ((phase == marking_phase) ≡ false → (phase == evacuation_phase) ≡ false → P (Updating cset update.LoadClaim)) → P (begins phase cset)
by_phase P phase cset marks copies updates =
    by_test P (phase == marking_phase) (Scanning scan.LoadClaim) (if phase == evacuation_phase then Evacuating cset evac.LoadClaim else Updating cset update.LoadClaim) marks
    (λ not_marking. by_test P (phase == evacuation_phase) (Evacuating cset evac.LoadClaim) (Updating cset update.LoadClaim) (copies not_marking) (updates not_marking))

-- a unit that begins has not ended, and its access can be made
pub begins_ready : (config : Config) (seat phase cset : ℕ) → is_ready config seat (begins phase cset) ≡ true
begins_ready config seat phase cset = by_phase (λ begun_spot. is_ready config seat begun_spot ≡ true) phase cset (λ phase_one. refl) (λ not_first phase_two. refl) (λ not_first not_second. refl)

-- none is left there, for the three parts
abbrev IsScanLeft : ScanSpot → Type 0
IsScanLeft spot = spot ≡ scan.Ended NoneLeft

abbrev IsEvacLeft : EvacSpot → Type 0
IsEvacLeft spot = spot ≡ evac.Ended NoneLeft

abbrev IsUpdateLeft : UpdateSpot → Type 0
IsUpdateLeft spot = spot ≡ update.Ended NoneLeft

-- a spot at which this is never so
never : {A : Type 0} {x y : A} → (x ≡ y → ⊥) → (x ≡ y) ↔ ⊥
never differs = (differs, λ impossible. absurd impossible)

-- it is so where a test fails, and only there
where_fails : {A : Type 0} (holds : Bool) (x y : A) (P : Type 0) → (holds ≡ false → P) → (P → holds ≡ false) → (x ≡ y → ⊥) → ((if holds then x else y) ≡ y) ↔ P
where_fails true x y P from_false to_false differs = (λ same_spot. absurd (differs same_spot), λ p. absurd (let test_false = to_false p in cc))
where_fails false x y P from_false to_false differs = (λ same_spot. from_false refl, λ p. refl)

module _ (config : Config) where
  -- of a scan
  not_bits : (word unscanned : ℕ) → IsScanLeft (scans.after_bits config word unscanned) → ⊥
  not_bits word unscanned = by_test (λ after_spot. IsScanLeft after_spot → ⊥) (unscanned == 0) (scan.Ended Worked) (scan.SetBlack (lowest_address config word unscanned)) (λ test_true left_there. cc) (λ test_false left_there. cc)

  not_reference : (address field refs : ℕ) → IsScanLeft (scans.next_reference config address field refs) → ⊥
  not_reference address field refs = by_test (λ after_spot. IsScanLeft after_spot → ⊥) (nat_lt field refs) (scan.LoadField address field refs) (scan.LoadGrey (mark_word config address)) (λ test_true left_there. cc) (λ test_false left_there. cc)

  scan_left : (spot : ScanSpot) (got : ℕ) → scans.is_ended spot ≡ false → IsScanLeft (scans.next_at config spot got) ↔ scan_ends.HasNoneLeft config spot got
  scan_left scan.LoadClaim got going = where_fails (scans.has_unit config got) (scan.ClaimUnit got) (scan.Ended NoneLeft) _ (ltb-false got (scans.unit_limit config)) (le-ltb _ _) (λ left_there. cc)
  scan_left (scan.ClaimUnit unit) got going = never (by_test (λ after_spot. IsScanLeft after_spot → ⊥) (got == unit) _ scan.LoadClaim (λ test_true left_there. cc) (λ test_false left_there. cc))
  scan_left (scan.LoadGrey word) got going = never (λ left_there. cc)
  scan_left (scan.LoadBlack word grey) got going = never (not_bits word (scans.unscanned_in grey got))
  scan_left (scan.SetBlack address) got going =
      never (by_test (λ after_spot. IsScanLeft after_spot → ⊥) (bit_at got (mark_bit config address) == 1) (scan.LoadGrey (mark_word config address)) (scan.LoadShape address) (λ test_true left_there. cc) (λ test_false left_there. cc))
  scan_left (scan.LoadShape address) got going = never (not_reference address 0 (refs_in got))
  scan_left (scan.LoadField address field refs) got going =
      never (by_test (λ after_spot. IsScanLeft after_spot → ⊥) (got == 0) (scans.next_reference config address (field + 1) refs) (scan.SetGrey address field refs got) (λ test_true. not_reference address (field + 1) refs) (λ test_false left_there. cc))
  scan_left (scan.SetGrey address field refs found) got going = never (not_reference address (field + 1) refs)
  scan_left (scan.Ended unit) got going = absurd (cc (going))

  -- of an evacuation
  not_walk : (next_address end : ℕ) → IsEvacLeft (evacs.walk_on next_address end) → ⊥
  not_walk next_address end = by_test (λ after_spot. IsEvacLeft after_spot → ⊥) (nat_lt next_address end) (evac.LoadFirst next_address end) (evac.Ended Worked) (λ test_true left_there. cc) (λ test_false left_there. cc)

  not_words : (address end : ℕ) (words : Option ℕ) → IsEvacLeft (evacs.after_words address end words) → ⊥
  not_words address end (Some words) = not_walk (address + words) end
  not_words address end None = λ left_there. cc

  not_resolved : (cset address end next_address : ℕ) (spot : ResolveSpot) → IsEvacLeft (evacs.after_resolve config cset address end next_address spot) → ⊥
  not_resolved cset address end next_address (resolve.Resolved answer) =
      by_test (λ after_spot. IsEvacLeft after_spot → ⊥) (evacs.lies_in_set config cset answer) (evac.Ended Worked) (evacs.walk_on next_address end) (λ test_true left_there. cc) (λ test_false. not_walk next_address end)
  not_resolved cset address end next_address _ = λ left_there. cc

  not_claimed : (cset unit : ℕ) → IsEvacLeft (evacs.after_claim cset unit) → ⊥
  not_claimed cset unit = by_test (λ after_spot. IsEvacLeft after_spot → ⊥) (evacs.is_in_set cset unit) (evac.LoadTop unit) (evac.Ended Worked) (λ test_true left_there. cc) (λ test_false left_there. cc)

  pub evac_left : (cset : ℕ) (spot : EvacSpot) (got : ℕ) → evacs.is_ended spot ≡ false → IsEvacLeft (evacs.next_at config cset spot got) ↔ evac_ends.HasNoneLeft config spot got
  evac_left cset evac.LoadClaim got going = where_fails (nat_lt got config.regions) (evac.ClaimUnit got) (evac.Ended NoneLeft) _ (ltb-false got config.regions) (le-ltb _ _) (λ left_there. cc)
  evac_left cset (evac.ClaimUnit unit) got going = never (by_test (λ after_spot. IsEvacLeft after_spot → ⊥) (got == unit) (evacs.after_claim cset unit) evac.LoadClaim (λ test_true. not_claimed cset unit) (λ test_false left_there. cc))
  evac_left cset (evac.LoadTop region) got going = never (not_walk _ _)
  evac_left cset (evac.LoadFirst address end) got going = never (not_words address end (filler_words_in got))
  evac_left cset (evac.LoadShape address end) got going = never (λ left_there. cc)
  evac_left cset (evac.LoadMark address end next_address) got going =
      never (by_test (λ after_spot. IsEvacLeft after_spot → ⊥) (bit_at got (mark_bit config address) == 1) (evac.Resolving address end next_address resolve.LoadHeader) (evacs.walk_on next_address end) (λ test_true left_there. cc) (λ test_false. not_walk next_address end))
  evac_left cset (evac.Resolving address end next_address spot) got going = never (not_resolved cset address end next_address _)
  evac_left cset (evac.Ended unit) got going = absurd (cc (going))

  -- of an updating
  not_object : (walk : Walk) (address : ℕ) → IsUpdateLeft (updates.next_object config walk address) → ⊥
  not_object walk address = by_test (λ after_spot. IsUpdateLeft after_spot → ⊥) (nat_lt address (updates.limit_of config walk)) (update.LoadFirst walk address) (update.Ended Worked) (λ test_true left_there. cc) (λ test_false left_there. cc)

  not_filled : (walk : Walk) (address : ℕ) (words : Option ℕ) → IsUpdateLeft (updates.after_words config walk address words) → ⊥
  not_filled walk address (Some words) = not_object walk (address + words)
  not_filled walk address None = λ left_there. cc

  not_field : (visit : Visit) (field : ℕ) → IsUpdateLeft (updates.next_field config visit field) → ⊥
  not_field visit field =
      by_test (λ spot. IsUpdateLeft spot → ⊥) (nat_lt field (refs_in visit.shape)) (update.LoadField visit field) (updates.next_object config visit.walk (updates.visit_end visit)) (λ test_true left_there. cc) (λ test_false. not_object visit.walk (updates.visit_end visit))

  not_shape : (visit : Visit) → IsUpdateLeft (updates.after_shape config visit) → ⊥
  not_shape visit =
      by_test (λ spot. IsUpdateLeft spot → ⊥) (refs_in visit.shape == 0) (updates.next_object config visit.walk (updates.visit_end visit)) (if nat_lt visit.address (updates.tams_of config visit.walk) then update.LoadBlack visit else update.LoadField visit 0)
      (λ test_true. not_object visit.walk (updates.visit_end visit))
      (λ test_false. by_test (λ spot. IsUpdateLeft spot → ⊥) (nat_lt visit.address (updates.tams_of config visit.walk)) (update.LoadBlack visit) (update.LoadField visit 0) (λ low left_there. cc) (λ high left_there. cc))

  not_in_set : (cset unit : ℕ) → IsUpdateLeft (if bit_at cset unit == 1 then update.Ended Worked else update.LoadLimit unit) → ⊥
  not_in_set cset unit = by_test (λ after_spot. IsUpdateLeft after_spot → ⊥) (bit_at cset unit == 1) (update.Ended Worked) (update.LoadLimit unit) (λ test_true left_there. cc) (λ test_false left_there. cc)

  pub update_left : (cset : ℕ) (spot : UpdateSpot) (got : ℕ) → updates.is_ended spot ≡ false → IsUpdateLeft (updates.next_at config cset spot got) ↔ update_ends.HasNoneLeft config spot got
  update_left cset update.LoadClaim got going = where_fails (updates.has_unit config got) (update.ClaimUnit got) (update.Ended NoneLeft) _ (ltb-false got config.regions) (le-ltb _ _) (λ left_there. cc)
  update_left cset (update.ClaimUnit unit) got going =
      never (by_test (λ standing. IsUpdateLeft standing → ⊥) (got == unit) (if bit_at cset unit == 1 then update.Ended Worked else update.LoadLimit unit) update.LoadClaim (λ test_true. not_in_set cset unit) (λ test_false left_there. cc))
  update_left cset (update.LoadLimit region) got going = never (by_test (λ standing. IsUpdateLeft standing → ⊥) (got == 0) (update.Ended Worked) (update.LoadTams region got) (λ test_true left_there. cc) (λ test_false left_there. cc))
  update_left cset (update.LoadTams region limit) got going = never (λ left_there. cc)
  update_left cset (update.LoadFirst walk address) got going = never (not_filled walk address (filler_words_in got))
  update_left cset (update.LoadShape walk address) got going = never (not_shape _)
  update_left cset (update.LoadBlack standing) got going =
      never (by_test (λ spot. IsUpdateLeft spot → ⊥) (bit_at got (mark_bit config standing.address) == 1) (update.LoadField standing 0) (updates.next_object config standing.walk (updates.visit_end standing)) (λ test_true left_there. cc) (λ test_false. not_object standing.walk (updates.visit_end standing)))
  update_left cset (update.LoadField standing field) got going =
      never (by_test (λ spot. IsUpdateLeft spot → ⊥) (updates.names_set config cset got) (update.LoadHeader standing field got) (updates.next_field config standing (field + 1)) (λ test_true left_there. cc) (λ test_false. not_field standing (field + 1)))
  update_left cset (update.LoadHeader standing field found) got going =
      never (by_test (λ spot. IsUpdateLeft spot → ⊥) (is_forwarded got) (update.ExchangeField standing field found (forwardee_in got)) (updates.next_field config standing (field + 1)) (λ test_true left_there. cc) (λ test_false. not_field standing (field + 1)))
  update_left cset (update.ExchangeField standing field found copy) got going = never (not_field standing (field + 1))
  update_left cset (update.Ended unit) got going = absurd (cc (going))

-- the unit ends so where its part does
scan_same : (spot : ScanSpot) → (scanned spot ≡ Ended NoneLeft) ↔ IsScanLeft spot
scan_same (scan.Ended Worked) = (λ left_there. cc, λ left_there. cc)
scan_same (scan.Ended NoneLeft) = (λ left_there. refl, λ left_there. refl)
scan_same _ = (λ left_there. cc, λ left_there. cc)

evac_same : (cset : ℕ) (spot : EvacSpot) → (evacuated cset spot ≡ Ended NoneLeft) ↔ IsEvacLeft spot
evac_same cset (evac.Ended Worked) = (λ left_there. cc, λ left_there. cc)
evac_same cset (evac.Ended NoneLeft) = (λ left_there. refl, λ left_there. refl)
evac_same cset _ = (λ left_there. cc, λ left_there. cc)

update_same : (cset : ℕ) (spot : UpdateSpot) → (updated cset spot ≡ Ended NoneLeft) ↔ IsUpdateLeft spot
update_same cset (update.Ended Worked) = (λ left_there. cc, λ left_there. cc)
update_same cset (update.Ended NoneLeft) = (λ left_there. refl, λ left_there. refl)
update_same cset _ = (λ left_there. cc, λ left_there. cc)

chain : {A B C : Type 0} → (A ↔ B) → (B ↔ C) → A ↔ C
chain first second = (λ a. second.0 (first.0 a), λ x. first.1 (second.1 x))

-- a unit says that none was left exactly by these words
pub none_left : (config : Config) (seat : ℕ) (spot : UnitSpot) (got : ℕ) → is_ready config seat spot ≡ true → (spot ≡ Ended NoneLeft → ⊥) → (next_at config spot got ≡ Ended NoneLeft) ↔ HasNoneLeft config spot got
none_left config seat (Scanning spot) got ready going = chain (scan_same _) (scan_left config spot got (false_from_flip (scans.is_ended spot) (and_parts _ _ ready).1))
none_left config seat (Evacuating cset spot) got ready going = chain (evac_same cset _) (evac_left config cset spot got (false_from_flip (evacs.is_ended spot) (and_parts _ _ ready).1))
none_left config seat (Updating cset spot) got ready going = chain (update_same cset _) (update_left config cset spot got (false_from_flip (updates.is_ended spot) (and_parts _ _ ready).1))
none_left config seat (Ended unit) got ready going = (λ unit_ended. absurd (going unit_ended), λ impossible. absurd impossible)
