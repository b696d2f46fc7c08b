-- Fields that a scan has still to come to, while a machine makes an object black or goes on to the next field.
use Rattle.std.proofs.Common.{◌≡◌, ◌≢◌, ℕ, ◌<◌, ◌≤◌, ◌⊎◌, inl, inr, ⊎_elim, Option, Some, None, sym, ap, ◌∙◌, arith}
use Rattle.std.proofs.lemmas.Bool.{cases_eq, cases_lt}
use Rattle.std.proofs.lemmas.Option.{same_Some}
use Rattle.std.proofs.lemmas.Nat.Bits.{bit_at-lt}
use Rattle.heap_words.specs.declared.config.Config.{Config}
use Rattle.heap_words.specs.Ranges.{seat_count}
use Rattle.heap_words.specs.Words.{Heap, IsWord}
use Rattle.regions.specs.Marks.{mark_word, mark_bit, mark_at, with_mark}
use Rattle.regions.proofs.MarksApart.{mark_no_more}
use Rattle.heap_world.specs.World.{Scan, IsToScan}
use Rattle.heap_world.proofs.FunctionUpdates.{updated, updated_there, updated_else}
use Rattle.cycle_steps.specs.Scanning.{scan_at}

module _ (config : Config) (seat : ℕ) (scanning : ℕ → Option Scan) (next_scan : Option Scan) (black : ℕ → ℕ) (address index : ℕ) where
  -- a seat's scan becomes another: what the one had still to come to the other has, or it is done
  scan_then : (Done : Type 0) → ((scan_index : ℕ) → scanning seat ≡ Some (scan_at address scan_index) → scan_index ≤ index → IsToScan config black (updated scanning seat next_scan) address index ⊎ Done)
      → IsToScan config black scanning address index → IsToScan config black (updated scanning seat next_scan) address index ⊎ Done
  scan_then Done own_scan (IsToScan.is_white white) = inl (IsToScan.is_white white)
  scan_then Done own_scan (IsToScan.in_scan scanning_seat scan_index index_inside scan_there still_to_come) = ⊎_elim
      (λ (same_seat : seat ≡ scanning_seat). own_scan scan_index (ap scanning same_seat ∙ scan_there) still_to_come)
      (λ (seat_differs : seat ≢ scanning_seat). inl (IsToScan.in_scan scanning_seat scan_index index_inside (updated_else scanning seat next_scan scanning_seat seat_differs ∙ scan_there) still_to_come))
      (cases_eq seat scanning_seat)

  -- the seat was in no scan
  pub scan_of_others : (Done : Type 0) → scanning seat ≡ None → IsToScan config black scanning address index → IsToScan config black (updated scanning seat next_scan) address index ⊎ Done
  scan_of_others Done idle = scan_then Done (λ scan_index scan_there still_to_come. (let no_scan : None ≡ Some (scan_at address scan_index) = sym idle ∙ scan_there in absurd (cc (no_scan))))

  -- The seat's scan goes on to a field, or ends where the object has no more. What it leaves behind is done.
  pub scan_passes : (Done : Type 0) (object from field refs : ℕ) → seat < seat_count config.mutators config.helpers → scanning seat ≡ Some (scan_at object from)
      → (next_scan ≡ Some (scan_at object field)) ⊎ ((next_scan ≡ None) × (refs ≤ field)) → (address ≡ object → index < refs) → (address ≡ object → from ≤ index → index < field → Done)
      → IsToScan config black scanning address index → IsToScan config black (updated scanning seat next_scan) address index ⊎ Done
  scan_passes Done object from field refs seated scan_there goes_on index_within passed = scan_then Done own
    where
      behind : (scan_index : ℕ) → address ≡ object → field ≤ index → IsToScan config black (updated scanning seat next_scan) address index
      behind scan_index same_object field_before = ⊎_elim
          (λ (scan_goes : next_scan ≡ Some (scan_at object field)).
          IsToScan.in_scan seat field seated (updated_there scanning seat next_scan ∙ scan_goes ∙ ap (λ x. Some (scan_at x field)) (sym same_object)) field_before)
          (λ (ends : (next_scan ≡ None) × (refs ≤ field)). (let within_object = index_within same_object in absurd (omega (arith, ends.1, within_object, field_before))))
          goes_on

      own : (scan_index : ℕ) → scanning seat ≡ Some (scan_at address scan_index) → scan_index ≤ index → IsToScan config black (updated scanning seat next_scan) address index ⊎ Done
      own scan_index scans_now still_to_come =
          let scans = same_Some (scan_at address scan_index) (scan_at object from) (sym scans_now ∙ scan_there) in
          let same_object : address ≡ object = ap (λ scan. scan.object) scans in
          let start : scan_index ≡ from = ap (λ scan. scan.field) scans in
          ⊎_elim
          (λ (index_below : index < field). inr (passed same_object (omega (arith, start, still_to_come)) index_below))
          (λ (index_reaches : field ≤ index). inl (behind scan_index same_object index_reaches))
          (cases_lt index field)

  -- The seat makes an object black. Where it is this one, it is said by itself that a scan has still to come to the field.
  pub scan_blackened : (object : ℕ) → IsWord config (Heap object) → IsWord config (Heap address) → scanning seat ≡ None
      → (address ≡ object → mark_at config black address ≡ 0 → IsToScan config (with_mark config black object) (updated scanning seat next_scan) address index)
      → IsToScan config black scanning address index → IsToScan config (with_mark config black object) (updated scanning seat next_scan) address index
  scan_blackened object object_word address_word idle own_case (IsToScan.is_white white) = ⊎_elim
      (λ (same_number : address ≡ object). own_case same_number white)
      (λ (numbers_differ : address ≢ object).
      let bit = bit_at-lt (with_mark config black object (mark_word config address)) (mark_bit config address) in
      let unset : mark_at config (with_mark config black object) address ≢ 1 = λ mark_set. ⊎_elim
      (λ (same_number : address ≡ object). numbers_differ same_number)
      (λ was_black. (let black_mark : mark_at config black address ≡ 1 = was_black in omega (arith, black_mark, white)))
      (mark_no_more config black object address object_word address_word mark_set) in
      IsToScan.is_white (omega (arith, bit, unset)))
      (cases_eq address object)
  scan_blackened object object_word address_word idle own_case (IsToScan.in_scan scanning_seat scan_index index_inside scan_there still_to_come) = ⊎_elim
      (λ (same_number : seat ≡ scanning_seat). (let no_scan : None ≡ Some (scan_at address scan_index) = sym idle ∙ ap scanning same_number ∙ scan_there in absurd (cc (no_scan))))
      (λ (numbers_differ : seat ≢ scanning_seat). IsToScan.in_scan scanning_seat scan_index index_inside (updated_else scanning seat next_scan scanning_seat numbers_differ ∙ scan_there) still_to_come)
      (cases_eq seat scanning_seat)
