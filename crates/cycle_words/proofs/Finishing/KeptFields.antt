-- The fields that updating all references changes are those of kept objects that stay.
use Rattle.std.proofs.Common.{◌≡◌, ℕ, ◌+◌, ◌-◌, ◌<◌, ◌≤◌, ◌&&◌, not, nat_le, nat_lt, true, false, inl, inr, Option, Some, sym, ap, ◌∙◌, subst, ⊎_elim, arith}
use Rattle.std.proofs.lemmas.Bool.{and_parts, and_from, or_cases, or_left, or_right, leb-true, ltb-true, le-leb, lt-ltb, not-true, not_from_false, true≢false}
use Rattle.heap_words.specs.declared.config.Config.{Config}
use Rattle.heap_words.specs.Words.{Word, Top, Tams, Heap}
use Rattle.heap_words.specs.Encoding.{is_forwarded, refs_in}
use Rattle.regions.specs.Place.{base_of, region_with}
use Rattle.regions.specs.Walk.{is_filler, stride_at}
use Rattle.shen_graph.specs.Graph.{Graph}
use Rattle.heap_world.specs.World.{Block, filler, words_of, room_of, is_loose, Plot, HasNoRoom}
use Rattle.image_graph.specs.Promised.{Promises}
use Rattle.image_graph.specs.Holds.{HoldsBy, AreSized}
use Rattle.cycle_words.specs.Marking.Marks.{is_black, IsNew, IsKept}
use Rattle.cycle_words.proofs.Marking.Plain.{below_top}
use Rattle.cycle_words.proofs.Evacuation.RegionAddresses as regions
use Rattle.cycle_words.proofs.Evacuation.RegionAddresses.{from_base}
use Rattle.image_graph.specs.Pinned.{object_of, is_in_use}
use Rattle.cycle_words.specs.Finishing.Updated.{is_kept, is_kept_here, is_reference, stays, is_staying, is_kept_field}
use Rattle.cycle_words.specs.Finishing.Laws.{IsFieldOfKept, KeptFieldsAreFields}
use Rattle.cycle_words.proofs.Finishing.Walking.{covered}
use Rattle.cycle_words.proofs.Finishing.Fields.{same_region, kept_field}
use Rattle.image_graph.proofs.Loosening.Loosened.{kind_of}
use Rattle.cycle_words.proofs.Finishing.Strides.{filler_fills, strides}

-- the test of a kept object says that it is one
kept_is : (config : Config) (memory : Word → ℕ) (address : ℕ) → base_of config (region_with config address) ≤ address → is_kept config memory address ≡ true → IsKept config memory address
kept_is config memory address above_base kept_told = ⊎_elim
    (λ (black : is_black config memory address ≡ true). inl black)
    (λ (fresh : nat_le (memory (Tams (region_with config address))) (address - base_of config (region_with config address)) ≡ true). inr (let high = leb-true (memory (Tams (region_with config address))) (address - base_of config (region_with config address)) fresh in omega (arith, high, above_base)))
    (or_cases (is_black config memory address) (nat_le (memory (Tams (region_with config address))) (address - base_of config (region_with config address))) kept_told)

is_kept_is : (config : Config) (memory : Word → ℕ) (address : ℕ) → IsKept config memory address → is_kept config memory address ≡ true
is_kept_is config memory address object_kept = ⊎_elim
    (λ (black : is_black config memory address ≡ true). or_left (is_black config memory address) (nat_le (memory (Tams (region_with config address))) (address - base_of config (region_with config address))) black)
    (λ (fresh : IsNew config memory address).
    or_right (is_black config memory address) (nat_le (memory (Tams (region_with config address))) (address - base_of config (region_with config address))) (le-leb (memory (Tams (region_with config address))) (address - base_of config (region_with config address)) (omega (arith, fresh))))
    object_kept

module _ (config : Config) (memory : Word → ℕ) (block : Plot) (owner : ℕ → Option ℕ) (promises : Promises) (graph : Graph) (holds : HoldsBy config memory block owner promises graph) (sized : AreSized memory block) (no_rooms : HasNoRoom block) where
  some : (address : ℕ) (piece : Block) → block address ≡ Some piece → 1 ≤ words_of piece
  some = holds.pieces.some

  sizes : (address : ℕ) (piece : Block) → block address ≡ Some piece → stays config memory (region_with config address) ≡ true → stride_at (λ address. memory (Heap address)) address ≡ words_of piece
  sizes address piece piece_there stay = strides memory block sized no_rooms address piece piece_there

  -- what the walk finds is a field of a kept object
  module _ (address : ℕ) (field_found : is_kept_field config memory address ≡ true) where
    abbrev r : ℕ
    r = region_with config address

    abbrev object_address : ℕ
    object_address = object_of config memory address

    parts : ((is_staying config memory address ≡ true) × (is_kept_here config memory object_address ≡ true)) × (is_reference memory object_address address ≡ true)
    parts = let both_parts = and_parts _ (is_reference memory object_address address) field_found in (and_parts (is_staying config memory address) (is_kept_here config memory object_address) both_parts.0, both_parts.1)

    -- the object has not moved, and is kept
    kept_here : (is_forwarded (memory (Heap object_address)) ≡ false) × (is_kept config memory object_address ≡ true)
    kept_here = let both_parts = and_parts (not (is_forwarded (memory (Heap object_address)))) (is_kept config memory object_address) parts.0.1 in (not-true (is_forwarded (memory (Heap object_address))) both_parts.0, both_parts.1)

    lies : (config.region_words ≤ address) × (r < config.regions) × (stays config memory r ≡ true) × (address - base_of config r < memory (Top r))
    lies =
        let last_part = and_parts (is_in_use config memory address) (stays config memory r) parts.0.0 in
        let first_parts = and_parts (nat_le config.region_words address) (nat_lt r config.regions && nat_lt (address - base_of config r) (memory (Top r))) last_part.0 in
        let rest = and_parts (nat_lt r config.regions) (nat_lt (address - base_of config r) (memory (Top r))) first_parts.1 in
        (leb-true config.region_words address first_parts.0, ltb-true r config.regions rest.0, last_part.1, ltb-true (address - base_of config r) (memory (Top r)) rest.1)

    from : base_of config r ≤ address
    from = let base_again = from_base config.region_words address (regions.some_words config) lies.0 in omega (arith, base_again)

    found : (piece : Block) × (block object_address ≡ Some piece) × (object_address ≤ address) × (address < object_address + words_of piece)
    found =
        let covering = covered config memory block holds.objects.plotted holds.filled some (λ region. stays config memory region ≡ true) sizes r (address - base_of config r) lies.1 lies.2 lies.3 in
        let start = from in
        let low = covering.2 in
        let high = covering.3 in
        (covering.0, covering.1, omega (arith, start, low), omega (arith, start, high))

    region_is : region_with config object_address ≡ r
    region_is =
        let low = found.2 in
        let high = found.3 in
        let offset : ℕ = address - object_address in
        let same_address : object_address + (address - object_address) ≡ address = omega (arith, low) in
        sym (same_region config memory block holds.objects.plotted holds.filled some sizes object_address (address - object_address) found.0 found.1 (omega (arith, low, high))) ∙ ap (region_with config) same_address

    tests : ((is_filler (memory (Heap object_address)) ≡ false) × (object_address + 3 ≤ address)) × (address < object_address + 3 + refs_in (memory (Heap (object_address + 1))))
    tests =
        let both_parts = and_parts (not (is_filler (memory (Heap object_address))) && nat_le (object_address + 3) address) (nat_lt address (object_address + 3 + refs_in (memory (Heap (object_address + 1))))) parts.1 in
        let first_parts = and_parts (not (is_filler (memory (Heap object_address)))) (nat_le (object_address + 3) address) both_parts.0 in
        ((not-true (is_filler (memory (Heap object_address))) first_parts.0, leb-true (object_address + 3) address first_parts.1), ltb-true address (object_address + 3 + refs_in (memory (Heap (object_address + 1)))) both_parts.1)

    -- words that only fill have another header
    object_there : is_loose found.0 ≡ false
    object_there = ⊎_elim
        (λ (fixed : is_loose found.0 ≡ false). fixed)
        (λ loose. ⊎_elim
        (λ (room : (seat : ℕ) × (room_of found.0 ≡ Some seat)). absurd (no_rooms object_address room.0 found.0 found.1 room.1))
        (λ (fills : (words : ℕ) × (found.0 ≡ filler words)).
        absurd (true≢false (sym (ap is_filler (sized.fillers object_address fills.0 (found.1 ∙ ap Some fills.1)) ∙ filler_fills fills.0) ∙ tests.0.0)))
        loose)
        (kind_of found.0)

    pub field_is : IsFieldOfKept config memory block address
    field_is = record {
      object = object_address;
      piece = found.0;
      here = found.1;
      is_object = object_there;
      stays_there = ap (stays config memory) region_is ∙ lies.2;
      unmoved = kept_here.0;
      kept = kept_is config memory object_address (below_top config (λ region. memory (Top region)) block holds.objects.plotted object_address found.0 found.1 (some object_address found.0 found.1)).1 kept_here.1;
      field = address - (object_address + 3);
      few = (let low = tests.0.1 in let high = tests.1 in omega (arith, low, high));
      at = (let low = tests.0.1 in omega (arith, low));
    }

  -- and the walk finds each
  pub is_field : (address : ℕ) → IsFieldOfKept config memory block address → is_kept_field config memory address ≡ true
  is_field address field =
      let size = sized.objects field.object field.piece field.here field.is_object in
      let few = field.few in
      let place : field.object + (3 + field.field) ≡ address = (let address_is = field.at in omega (arith, address_is)) in
      let field_below : 3 + field.field < words_of field.piece = omega (arith, size, few) in
      subst (λ field_address. is_kept_field config memory field_address ≡ true) place
      (kept_field config memory block holds.objects.plotted holds.filled some sizes field.object (3 + field.field) field.piece field.here field_below field.stays_there field.unmoved
      (is_kept_is config memory field.object field.kept)
      (and_from (not (is_filler (memory (Heap field.object))) && nat_le (field.object + 3) (field.object + (3 + field.field))) (nat_lt (field.object + (3 + field.field)) (field.object + 3 + refs_in (memory (Heap (field.object + 1)))))
      (and_from (not (is_filler (memory (Heap field.object)))) (nat_le (field.object + 3) (field.object + (3 + field.field)))
      (not_from_false (is_filler (memory (Heap field.object))) (sized.headers field.object field.piece field.here field.is_object))
      (le-leb (field.object + 3) (field.object + (3 + field.field)) (omega arith)))
      (lt-ltb (field.object + (3 + field.field)) (field.object + 3 + refs_in (memory (Heap (field.object + 1)))) (omega (arith, few)))))

pub kept_fields_are_fields : KeptFieldsAreFields
kept_fields_are_fields config memory block owner promises graph holds sized no_rooms address = (field_is config memory block owner promises graph holds sized no_rooms address, is_field config memory block owner promises graph holds sized no_rooms address)
