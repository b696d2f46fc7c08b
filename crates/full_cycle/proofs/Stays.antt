-- In pinned regions objects stay, and none comes in, while those of other regions are moved: so the walk over a pinned region comes to the
-- same places afterwards, and what is left over there is the same.
use Rattle.std.proofs.Common.{◌≡◌, ◌≢◌, ℕ, ◌+◌, ◌-◌, ◌*◌, ◌/◌, ◌<◌, ◌≤◌, ◌==◌, ◌&&◌, not, nat_le, nat_lt, cond, Bool, true, false, List, ⊎_elim, refl, sym, ap, ◌∙◌, subst, arith}
use Rattle.std.proofs.lemmas.Bool.{cond-true, cond-false, cases_Bool, cases_eq, and_left, and_right, and_parts, ltb-true, eqb-true, eq-eqb, ne_eqb, not-true}
use Rattle.std.proofs.lemmas.Nat.{div-add-mod', mod_below}
use Rattle.heap_words.specs.declared.config.Config.{Config}
use Rattle.heap_words.specs.Words.{Word, Top, Heap}
use Rattle.heap_words.specs.Encoding.{plain_header, filler_header, object_words}
use Rattle.heap_world.specs.Walk.{has}
use Rattle.regions.specs.Place.{base_of, region_with}
use Rattle.regions.specs.Walk.{is_filler, start_of, stride_at}
use Rattle.regions.proofs.PlaceLemmas.{regions_tile}
use Rattle.regions.specs.Slide.{IsSlidTo, renewed, slid_word}
use Rattle.regions.proofs.Placed.{new_shut, stays_within, same_kind, row_of_word, places_apart}
use Rattle.regions.proofs.Slid.{slid_is}
use Rattle.image_graph.specs.Plot.{heap_end, packed_top}
use Rattle.image_graph.specs.Pinned.{is_pinned, is_pinned_below, is_row_pinned, is_in_use, object_of, begins, filled_in, CanFill}
use Rattle.image_graph.specs.Full.{now_in, held_in, kept_in, place_in, is_unkept, moved_heap, packed}
use Rattle.image_graph.specs.Leftovers.{is_left_over}
use Rattle.image_graph.specs.declared.leftovers.Leftover.TheVariants.{NotFound}
use Rattle.image_graph.proofs.Starts.{starts_within, same_starts}
use Rattle.image_graph.proofs.SameRegion.{own_region, used_parts}
use Rattle.full_cycle.specs.Collect.{CanCollect}
use Rattle.full_cycle.specs.Steps.{moved_in}
use Rattle.full_cycle.proofs.Kept.{kept_is}
use Rattle.image_graph.proofs.PinnedRows.{row_pinned}
use Rattle.image_graph.proofs.Rows.{row_is}
use Rattle.full_cycle.proofs.Shut.{row_is_pinned}
use Rattle.full_cycle.proofs.Slices.{in_first_rows}

-- What is kept in a pinned region begins where the walk comes, below the top, as an object that has not moved.
pub record BeginsThere (config : Config) (memory : Word → ℕ) (region address : ℕ) : Type 0 where
  pub begun : start_of (λ address. memory (Heap address)) (base_of config region) (address - base_of config region) ≡ address - base_of config region
  pub below : address < base_of config region + memory (Top region)
  pub header : memory (Heap address) ≡ plain_header

abbrev pub KeptBegin : Config → (Word → ℕ) → Type 0
KeptBegin config memory = (region address : ℕ) → region < config.regions → is_pinned config memory region ≡ true → base_of config region ≤ address → address < base_of config region + config.region_words → 0 < kept_in config memory address → BeginsThere config memory region address

pub begins_there : (config : Config) (memory : Word → ℕ) (region address : ℕ) → base_of config region ≤ address → address < base_of config region + config.region_words → begins config memory address ≡ true → memory (Heap address) ≡ plain_header → BeginsThere config memory region address
begins_there config memory region address low high begins_here header =
    let begin_parts = and_parts (is_in_use config memory address) (object_of config memory address == address) begins_here in
    let same_region : region_with config address ≡ region = regions_tile.of_no_other config region address (record { from = low; before = high }) in
    let object : base_of config region + start_of (λ address. memory (Heap address)) (base_of config region) (address - base_of config region) ≡ address =
    subst (λ given_region. base_of config given_region + start_of (λ address. memory (Heap address)) (base_of config given_region) (address - base_of config given_region) ≡ address) same_region (eqb-true (object_of config memory address) address begin_parts.1) in
    let offset_below : address - base_of config region < memory (Top region) = subst (λ region. address - base_of config region < memory (Top region)) same_region (used_parts config memory address begin_parts.0).2 in
    record { begun = omega (arith, object, low); below = omega (arith, offset_below, low); header = header }

module _ (config : Config) (memory : Word → ℕ) (can_collect : CanCollect config memory) (begin : KeptBegin config memory) where
  abbrev pub shut : ℕ → Bool
  shut = is_row_pinned config memory

  abbrev pub kept : ℕ → ℕ
  kept = kept_in config memory

  abbrev pub place : ℕ → ℕ
  place = place_in config shut kept

  abbrev pub renew : ℕ → ℕ
  renew = renewed place (now_in memory)

  abbrev pub old : ℕ → ℕ
  old address = memory (Heap address)

  -- the words once the kept objects were moved
  abbrev pub moved : Word → ℕ
  moved = moved_in config shut (now_in memory) kept memory

  abbrev region_words : ℕ
  region_words = config.region_words

  in_rows : (address : ℕ) → 0 < kept address → address < 65 * region_words
  in_rows address positive = in_first_rows config address (kept address) positive (can_collect.inside address positive)

  heap_is : IsSlidTo (heap_end config) region_words place kept renew old (λ address. moved (Heap address))
  unfolding moved_heap
  heap_is = slid_is place kept renew old (places_apart region_words shut kept can_collect.apart in_rows) region_words (heap_end config)

  module _ (region : ℕ) (inside : region < config.regions) (pinned : is_pinned config memory region ≡ true) where
    abbrev base : ℕ
    base = base_of config region

    abbrev start : ℕ → ℕ
    start = start_of old base

    pub closed : shut (region + 1) ≡ true
    closed = row_pinned config memory region inside pinned

    row : (address : ℕ) → base ≤ address → address < base + region_words → shut (address / region_words) ≡ true
    row address low high = ap shut (row_is config.region_words region address low high) ∙ closed

    within : memory (Top region) ≤ region_words
    within = (can_collect.fills region inside pinned).within

    -- a kept object there stays
    stays : (object : ℕ) → base ≤ object → object < base + region_words → place object ≡ object
    stays object low high = new_shut region_words shut kept object (row object low high)

    pub kept_word : (object index : ℕ) → base ≤ object → object < base + region_words → index < kept object → moved (Heap (object + index)) ≡ slid_word renew old object index
    kept_word object index low high few =
        let some_words : 0 < kept object = omega (arith, few) in
        let same_place : place object + index ≡ object + index = ap (λ new_place. new_place + index) (stays object low high) in
        let inside_heap : object < heap_end config = omega (arith, can_collect.inside object some_words, some_words) in
        ap (λ address. moved (Heap address)) (sym same_place) ∙ heap_is.moved object index inside_heap few

    -- it is the one whose words the walk finds there
    pub kept_size : (object : ℕ) → base ≤ object → object < base + region_words → 0 < kept object → stride_at old (base + (object - base)) ≡ kept object
    kept_size object low high positive =
        let begins_here = begin region object inside pinned low high positive in
        let address_back : base + (object - base) ≡ object = omega (arith, low) in
        ap (stride_at old) address_back ∙ cond-false (is_filler (old object)) (old object / 4) (object_words (old (object + 1))) (ap is_filler begins_here.header) ∙ sym (kept_is config memory object positive)

    pub owner : (object address : ℕ) → base ≤ object → object < base + region_words → 0 < kept object → object ≤ address → address < object + kept object → start (address - base) ≡ object - base
    owner object address low high positive from_object inside_object =
        let begins_here = begin region object inside pinned low high positive in
        let size = kept_size object low high positive in
        let offset_back : object - base + (address - object) ≡ address - base = omega (arith, low, from_object) in
        ap start (sym offset_back) ∙ starts_within old base (object - base) (address - object) begins_here.begun (omega (arith, size, from_object, inside_object))

    -- Any other word there stays: what is moved comes from other regions, and goes to others.
    comes_from : (object offset address : ℕ) → base ≤ address → address < base + region_words → offset < kept object → address ≡ place object + offset → (base ≤ object) × (object < base + region_words) × (address ≡ object + offset)
    comes_from object offset address low high offset_below moved_there =
        let some_words : 0 < kept object = omega (arith, offset_below) in
        let fits = stays_within region_words shut kept can_collect.apart object some_words in
        let same_region : address / region_words ≡ place object / region_words = row_of_word region_words (place object) (kept object) address fits (omega (arith, moved_there)) (omega (arith, moved_there, offset_below)) in
        let kind : shut (place object / region_words) ≡ shut (object / region_words) = same_kind region_words shut kept can_collect.apart in_rows object some_words in
        let row_shut : shut (object / region_words) ≡ true = sym kind ∙ ap shut (sym same_region) ∙ row address low high in
        let object_stays : place object ≡ object = new_shut region_words shut kept object row_shut in
        let number : object / region_words ≡ region + 1 = ap (λ value. value / region_words) (sym object_stays) ∙ sym same_region ∙ row_is config.region_words region address low high in
        let rows : object / region_words * region_words ≡ (region + 1) * region_words = ap (λ value. value * region_words) number in
        (omega (arith, rows, div-add-mod' object region_words), omega (arith, rows, div-add-mod' object region_words, mod_below object region_words can_collect.apart.some), omega (arith, moved_there, object_stays))

    pub other_word : (address : ℕ) → base ≤ address → address < base + region_words → ((object : ℕ) → base ≤ object → object < base + region_words → 0 < kept object → object ≤ address → address < object + kept object → ⊥) → moved (Heap address) ≡ memory (Heap address)
    other_word address low high none_covers = heap_is.others address (omega (arith, low)) (λ object offset offset_below few moved_there.
        let from_here = comes_from object offset address low high few moved_there in
        none_covers object from_here.0 from_here.1 (omega (arith, few)) (omega (arith, from_here.2)) (omega (arith, from_here.2, few)))

    pub unkept_word : (address : ℕ) → base ≤ address → address < base + region_words → kept (base + start (address - base)) ≡ 0 → moved (Heap address) ≡ memory (Heap address)
    unkept_word address low high not_kept = other_word address low high (λ object from_base to_end some_words from_object inside_object.
        let start_back : base + start (address - base) ≡ object = omega (arith, owner object address from_base to_end some_words from_object inside_object, from_base) in
        omega (arith, ap kept start_back, not_kept, some_words))

    -- what begins there is as long as before
    begun_at : (offset : ℕ) → start offset ≡ offset → base + start (base + offset - base) ≡ base + offset
    begun_at offset own_start = let offset_back : base + offset - base ≡ offset = omega arith in ap (λ distance. base + start distance) offset_back ∙ ap (λ distance. base + distance) own_start

    unkept_header : (offset : ℕ) → start offset ≡ offset → offset < memory (Top region) → kept (base + offset) ≡ 0 → moved (Heap (base + offset)) ≡ memory (Heap (base + offset))
    unkept_header offset own_start offset_below not_kept = unkept_word (base + offset) (omega arith) (omega (arith, offset_below, within)) (ap kept (begun_at offset own_start) ∙ not_kept)

    unkept_shape : (offset : ℕ) → start offset ≡ offset → offset < memory (Top region) → kept (base + offset) ≡ 0 → is_filler (memory (Heap (base + offset))) ≡ false → moved (Heap (base + offset + 1)) ≡ memory (Heap (base + offset + 1))
    unkept_shape offset own_start offset_below not_kept object =
        let size : stride_at old (base + offset) ≡ object_words (memory (Heap (base + offset + 1))) = cond-false (is_filler (old (base + offset))) (old (base + offset) / 4) (object_words (old (base + offset + 1))) object in
        let ends = (can_collect.fills region inside pinned).ends offset offset_below own_start in
        let next_offset : base + offset + 1 - base ≡ offset + 1 = omega arith in
        let of_it : start (base + offset + 1 - base) ≡ offset = ap start next_offset ∙ starts_within old base offset 1 own_start (omega (arith, size)) in
        unkept_word (base + offset + 1) (omega arith) (omega (arith, ends, size, within)) (ap (λ distance. kept (base + distance)) of_it ∙ not_kept)

    unkept_stride : (offset : ℕ) → start offset ≡ offset → offset < memory (Top region) → kept (base + offset) ≡ 0 → stride_at (λ address. moved (Heap address)) (base + offset) ≡ stride_at old (base + offset)
    unkept_stride offset own_start offset_below not_kept =
        let header = unkept_header offset own_start offset_below not_kept in
        ⊎_elim
        (λ (fills : is_filler (memory (Heap (base + offset))) ≡ true).
        cond-true (is_filler (moved (Heap (base + offset)))) (moved (Heap (base + offset)) / 4) (object_words (moved (Heap (base + offset + 1)))) (ap is_filler header ∙ fills)
        ∙ ap (λ header_word. header_word / 4) header
        ∙ sym (cond-true (is_filler (memory (Heap (base + offset)))) (memory (Heap (base + offset)) / 4) (object_words (memory (Heap (base + offset + 1)))) fills))
        (λ (object : is_filler (memory (Heap (base + offset))) ≡ false).
        cond-false (is_filler (moved (Heap (base + offset)))) (moved (Heap (base + offset)) / 4) (object_words (moved (Heap (base + offset + 1)))) (ap is_filler header ∙ object)
        ∙ ap object_words (unkept_shape offset own_start offset_below not_kept object)
        ∙ sym (cond-false (is_filler (memory (Heap (base + offset)))) (memory (Heap (base + offset)) / 4) (object_words (memory (Heap (base + offset + 1)))) object))
        (cases_Bool (is_filler (memory (Heap (base + offset)))))

    pub kept_header : (object : ℕ) → base ≤ object → object < base + region_words → 0 < kept object → moved (Heap object) ≡ plain_header
    kept_header object low high positive = let first_word : object + 0 ≡ object = omega arith in ap (λ address. moved (Heap address)) (sym first_word) ∙ kept_word object 0 low high positive

    pub kept_shape : (object : ℕ) → base ≤ object → object < base + region_words → 0 < kept object → moved (Heap (object + 1)) ≡ memory (Heap (object + 1))
    kept_shape object low high positive = kept_word object 1 low high (let size = kept_is config memory object positive in omega (arith, size))

    pub kept_name : (object : ℕ) → base ≤ object → object < base + region_words → 0 < kept object → moved (Heap (object + 2)) ≡ memory (Heap (object + 2))
    kept_name object low high positive = kept_word object 2 low high (let size = kept_is config memory object positive in omega (arith, size))

    kept_stride : (offset : ℕ) → offset < memory (Top region) → 0 < kept (base + offset) → stride_at (λ address. moved (Heap address)) (base + offset) ≡ stride_at old (base + offset)
    kept_stride offset offset_below positive =
        let low : base ≤ base + offset = omega arith in
        let high : base + offset < base + region_words = omega (arith, offset_below, within) in
        let begins_here = begin region (base + offset) inside pinned low high positive in
        cond-false (is_filler (moved (Heap (base + offset)))) (moved (Heap (base + offset)) / 4) (object_words (moved (Heap (base + offset + 1)))) (ap is_filler (kept_header (base + offset) low high positive))
        ∙ ap object_words (kept_shape (base + offset) low high positive)
        ∙ sym (cond-false (is_filler (memory (Heap (base + offset)))) (memory (Heap (base + offset)) / 4) (object_words (memory (Heap (base + offset + 1)))) (ap is_filler begins_here.header))

    same_stride : (offset : ℕ) → start offset ≡ offset → offset < memory (Top region) → stride_at (λ address. moved (Heap address)) (base + offset) ≡ stride_at old (base + offset)
    same_stride offset own_start offset_below = ⊎_elim
        (λ (not_kept : kept (base + offset) ≡ 0). unkept_stride offset own_start offset_below not_kept)
        (λ (some_kept : kept (base + offset) ≢ 0). kept_stride offset offset_below (omega (arith, some_kept)))
        (cases_eq (kept (base + offset)) 0)

    same_start : (offset : ℕ) → offset < memory (Top region) → start_of (λ address. moved (Heap address)) base offset ≡ start offset
    same_start offset offset_below = same_starts old (λ address. moved (Heap address)) base (memory (Top region)) same_stride offset offset_below

    pub moved_top : moved (Top region) ≡ memory (Top region)
    moved_top = cond-true (shut (region + 1)) (memory (Top region)) (packed_top config shut kept region) closed

    -- so what is left over can be filled still
    pub can_fill : CanFill config moved region
    can_fill = record {
      within = omega (arith, moved_top, within);
      ends = λ offset offset_below begins.
          let low : offset < memory (Top region) = omega (arith, moved_top, offset_below) in
          let own_start : start offset ≡ offset = sym (same_start offset low) ∙ begins in
          let ends = (can_collect.fills region inside pinned).ends offset low own_start in
          omega (arith, ends, same_stride offset own_start low, moved_top);
    }

  -- what is left over at an address
  module _ (left_address : ℕ) (inside : region_with config left_address < config.regions) (pinned : is_pinned config memory (region_with config left_address) ≡ true) where
    abbrev q : ℕ
    q = region_with config left_address

    in_use_same : is_in_use config moved left_address ≡ is_in_use config memory left_address
    in_use_same = ap (λ top. nat_le region_words left_address && (nat_lt q config.regions && nat_lt (left_address - base_of config q) top)) (moved_top q inside pinned)

    begins_same : begins config moved left_address ≡ begins config memory left_address
    begins_same = ⊎_elim
        (λ (used : is_in_use config memory left_address ≡ true).
        let object : object_of config moved left_address ≡ object_of config memory left_address = ap (λ start. base_of config q + start) (same_start q inside pinned (left_address - base_of config q) (used_parts config memory left_address used).2) in
        ap (λ in_use. in_use && (object_of config moved left_address == left_address)) in_use_same ∙ ap (λ object_there. is_in_use config memory left_address && (object_there == left_address)) object)
        (λ (unused : is_in_use config memory left_address ≡ false).
        and_left (is_in_use config moved left_address) (object_of config moved left_address == left_address) (in_use_same ∙ unused) ∙ sym (and_left (is_in_use config memory left_address) (object_of config memory left_address == left_address) unused))
        (cases_Bool (is_in_use config memory left_address))

    module _ (begun_here : begins config memory left_address ≡ true) where
      abbrev offset : ℕ
      offset = left_address - base_of config q

      parts : (is_in_use config memory left_address ≡ true) × ((object_of config memory left_address == left_address) ≡ true)
      parts = and_parts (is_in_use config memory left_address) (object_of config memory left_address == left_address) begun_here

      used : (region_words ≤ left_address) × (q < config.regions) × (offset < memory (Top q))
      used = used_parts config memory left_address parts.0

      low : base_of config q ≤ left_address
      low = (own_region config left_address used.0).0

      at : base_of config q + offset ≡ left_address
      at = omega (arith, low)

      is : start_of old (base_of config q) offset ≡ offset
      is = (let object = eqb-true (object_of config memory left_address) left_address parts.1 in omega (arith, object, low))

      unkept_same : kept left_address ≡ 0 → moved (Heap left_address) ≡ memory (Heap left_address)
      unkept_same not_kept =
          ap (λ address. moved (Heap address)) (sym at) ∙ unkept_header q inside pinned offset is used.2 (ap kept at ∙ not_kept) ∙ ap (λ address. memory (Heap address)) at

      left_same : (found : List ℕ) → found ≡ held_in config memory → is_left_over moved found NotFound left_address ≡ is_unkept kept memory left_address
      left_same found held_found = ⊎_elim
          (λ (kept_here : has (held_in config memory) left_address ≡ true).
          let kept_words : kept left_address ≡ object_words (memory (Heap (left_address + 1))) = cond-true (has (held_in config memory) left_address) (object_words (memory (Heap (left_address + 1)))) 0 kept_here in
          and_right (not (is_filler (moved (Heap left_address)))) (not (has found left_address)) (ap (λ flags. not (has flags left_address)) held_found ∙ ap not kept_here)
          ∙ sym (and_right (not (is_filler (memory (Heap left_address)))) (kept left_address == 0) (ne_eqb (kept left_address) 0 (λ not_held. omega (arith, not_held, kept_words)))))
          (λ (not_held : has (held_in config memory) left_address ≡ false).
          let kept_none : kept left_address ≡ 0 = cond-false (has (held_in config memory) left_address) (object_words (memory (Heap (left_address + 1)))) 0 not_held in
          ap (λ header. not (is_filler header) && not (has found left_address)) (unkept_same kept_none)
          ∙ ap (λ unheld. not (is_filler (memory (Heap left_address))) && unheld) (ap (λ flags. not (has flags left_address)) held_found ∙ ap not not_held ∙ sym (eq-eqb (kept left_address) 0 kept_none)))
          (cases_Bool (has (held_in config memory) left_address))

      shape_same : is_unkept kept memory left_address ≡ true → moved (Heap (left_address + 1)) ≡ memory (Heap (left_address + 1))
      shape_same left_over =
          let left_parts = and_parts (not (is_filler (memory (Heap left_address)))) (kept left_address == 0) left_over in
          let not_kept : kept (base_of config q + offset) ≡ 0 = ap kept at ∙ eqb-true (kept left_address) 0 left_parts.1 in
          let object : is_filler (memory (Heap (base_of config q + offset))) ≡ false = ap (λ address. is_filler (memory (Heap address))) at ∙ not-true (is_filler (memory (Heap left_address))) left_parts.0 in
          ap (λ x. moved (Heap (x + 1))) (sym at) ∙ unkept_shape q inside pinned offset is used.2 not_kept object ∙ ap (λ x. memory (Heap (x + 1))) at

-- of two choices, whose tests say the same
chosen : (new_test old_test new_begins old_begins new_left old_left : Bool) (new_value old_value otherwise : ℕ) → new_test ≡ old_test → (old_test ≡ true → new_begins ≡ old_begins) → (old_test ≡ true → old_begins ≡ true → new_left ≡ old_left) → (old_test ≡ true → old_begins ≡ true → old_left ≡ true → new_value ≡ old_value)
    → cond (new_test && new_begins && new_left) new_value otherwise ≡ cond (old_test && (old_begins && old_left)) old_value otherwise
chosen new_test false new_begins old_begins new_left old_left new_value old_value otherwise same_test begun same_left shape = ap (λ outcome. cond (outcome && new_begins && new_left) new_value otherwise) same_test
chosen new_test true new_begins false new_left old_left new_value old_value otherwise same_test begun same_left shape = ap (λ outcome. cond (outcome && new_begins && new_left) new_value otherwise) same_test ∙ ap (λ outcome. cond (true && outcome && new_left) new_value otherwise) (begun refl)
chosen new_test true new_begins true new_left false new_value old_value otherwise same_test begun same_left shape =
    ap (λ outcome. cond (outcome && new_begins && new_left) new_value otherwise) same_test ∙ ap (λ outcome. cond (true && outcome && new_left) new_value otherwise) (begun refl) ∙ ap (λ outcome. cond (true && true && outcome) new_value otherwise) (same_left refl refl)
chosen new_test true new_begins true new_left true new_value old_value otherwise same_test begun same_left shape =
    ap (λ outcome. cond (outcome && new_begins && new_left) new_value otherwise) same_test ∙ ap (λ outcome. cond (true && outcome && new_left) new_value otherwise) (begun refl) ∙ ap (λ outcome. cond (true && true && outcome) new_value otherwise) (same_left refl refl) ∙ shape refl refl refl

-- So filling what is left over makes of the heap what packing makes of it.
module _ (config : Config) (memory : Word → ℕ) (can_collect : CanCollect config memory) (begin : KeptBegin config memory) where
  abbrev filled : Word → ℕ
  filled = filled_in config (is_pinned_below config (moved config memory can_collect begin) config.regions) (is_left_over (moved config memory can_collect begin) (held_in config memory) NotFound) (moved config memory can_collect begin)

  pub filled_is : (address : ℕ) → filled (Heap address) ≡ packed config (is_row_pinned config memory) (now_in memory) (kept_in config memory) memory (Heap address)
  unfolding packed
  filled_is address =
      let region = region_with config address in
      let inside : (nat_lt region config.regions && is_pinned config memory region) ≡ true → (region < config.regions) × (is_pinned config memory region ≡ true) =
      λ pinned_row. (let both_true = and_parts (nat_lt region config.regions) (is_pinned config memory region) pinned_row in (ltb-true region config.regions both_true.0, both_true.1)) in
      chosen (is_pinned_below config (moved config memory can_collect begin) config.regions region) (is_row_pinned config memory (region + 1)) (begins config (moved config memory can_collect begin) address) (begins config memory address)
      (is_left_over (moved config memory can_collect begin) (held_in config memory) NotFound address) (is_unkept (kept_in config memory) memory address)
      (filler_header (object_words (moved config memory can_collect begin (Heap (address + 1))))) (filler_header (object_words (memory (Heap (address + 1))))) (moved config memory can_collect begin (Heap address))
      (sym (row_is_pinned config memory region))
      (λ shut_row. (let pinned_row = inside (sym (row_is_pinned config memory region) ∙ shut_row) in begins_same config memory can_collect begin address pinned_row.0 pinned_row.1))
      (λ shut_row begun. (let pinned_row = inside (sym (row_is_pinned config memory region) ∙ shut_row) in left_same config memory can_collect begin address pinned_row.0 pinned_row.1 begun (held_in config memory) refl))
      (λ shut_row begun left_over. (let pinned_row = inside (sym (row_is_pinned config memory region) ∙ shut_row) in ap (λ shape. filler_header (object_words shape)) (shape_same config memory can_collect begin address pinned_row.0 pinned_row.1 begun left_over)))
