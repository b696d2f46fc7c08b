-- Which piece stands at an address after packing: that of a kept object which is placed there, or, in a shut region, words that only fill.
use Rattle.std.proofs.Common.{◌≡◌, ◌≢◌, ℕ, ◌+◌, ◌-◌, ◌*◌, ◌/◌, ◌%◌, ◌<◌, ◌≤◌, ◌⊎◌, ◌==◌, ◌&&◌, inl, inr, nat_lt, Bool, true, false, zero, suc, cond, Option, Some, None, ⊎_elim, refl, sym, ap, ◌∙◌, subst, arith}
use Rattle.std.specs.Prelude.{option_and_then}
use Rattle.std.specs.Option.{option_map}
use Rattle.std.proofs.lemmas.Bool.{true≢false, cond-true, cond-false, cases_Bool, cases_eq, and_from, and_parts, lt-ltb, ltb-true, eq-eqb, eqb-true, ne_eqb}
use Rattle.std.proofs.lemmas.Nat.{mod-mul-add, mul-le}
use Rattle.std.proofs.lemmas.Option.{none-some, same_Some}
use Rattle.heap_words.specs.declared.config.Config.{Config}
use Rattle.regions.specs.Place.{base_of, region_with}
use Rattle.regions.specs.Places.{new_place, LieApart}
use Rattle.regions.specs.Slide.{PlacesApart}
use Rattle.regions.proofs.Placed.{new_shut, stays_above, same_kind, places_apart, places_differ}
use Rattle.shen_graph.specs.declared.name.Name.{Name}
use Rattle.shen_graph.specs.Graph.{Object}
use Rattle.heap_world.specs.World.{Block, thing, words_of, Plot}
use Rattle.heap_world.proofs.Pointing.{piece_inside}
use Rattle.image_graph.specs.Plot.{heap_end, origin, left_piece, packed_block}
use Rattle.image_graph.specs.Packing.{CanPack}
use Rattle.image_graph.proofs.Rows.{row_above}

-- one step of the recursion
origin_next : (place kept : ℕ → ℕ) (new_address address : ℕ) → origin place kept new_address (suc address) ≡ cond (nat_lt 0 (kept address) && (place address == new_address)) (Some address) (origin place kept new_address address)
unfolding origin
origin_next place kept new_address address = refl

origin_none : (place kept : ℕ → ℕ) (new_address : ℕ) → origin place kept new_address 0 ≡ None
unfolding origin
origin_none place kept new_address = refl

-- what is found is placed there
pub origin_is : (place kept : ℕ → ℕ) (new_address end address : ℕ) → origin place kept new_address end ≡ Some address → (0 < kept address) × (address < end) × (place address ≡ new_address)
origin_is place kept new_address zero address has_origin = absurd (none-some address (sym (origin_none place kept new_address) ∙ has_origin))
origin_is place kept new_address (suc end) address has_origin = ⊎_elim
    (λ (placed_here : (nat_lt 0 (kept end) && (place end == new_address)) ≡ true).
    let both_tests = and_parts (nat_lt 0 (kept end)) (place end == new_address) placed_here in
    let same_address : end ≡ address = same_Some end address (sym (origin_next place kept new_address end ∙ cond-true (nat_lt 0 (kept end) && (place end == new_address)) (Some end) (origin place kept new_address end) placed_here) ∙ has_origin) in
    subst (λ some_address. (0 < kept some_address) × (some_address < suc end) × (place some_address ≡ new_address)) same_address (ltb-true 0 (kept end) both_tests.0, omega arith, eqb-true (place end) new_address both_tests.1))
    (λ (placed_elsewhere : (nat_lt 0 (kept end) && (place end == new_address)) ≡ false).
    let rest = origin_is place kept new_address end address (sym (origin_next place kept new_address end ∙ cond-false (nat_lt 0 (kept end) && (place end == new_address)) (Some end) (origin place kept new_address end) placed_elsewhere) ∙ has_origin) in
    (rest.0, omega (arith, rest.1), rest.2))
    (cases_Bool (nat_lt 0 (kept end) && (place end == new_address)))

-- and what is placed there is found
pub origin_found : (place kept : ℕ → ℕ) → PlacesApart place kept → (end address : ℕ) → 0 < kept address → address < end → origin place kept (place address) end ≡ Some address
origin_found place kept apart zero address positive address_below = absurd (omega (arith, address_below))
origin_found place kept apart (suc end) address positive address_below = ⊎_elim
    (λ (placed_here : (nat_lt 0 (kept end) && (place end == place address)) ≡ true).
    let both_tests = and_parts (nat_lt 0 (kept end)) (place end == place address) placed_here in
    let same_address = places_differ place kept apart end address (ltb-true 0 (kept end) both_tests.0) positive (eqb-true (place end) (place address) both_tests.1) in
    origin_next place kept (place address) end
    ∙ cond-true (nat_lt 0 (kept end) && (place end == place address)) (Some end) (origin place kept (place address) end) placed_here ∙ ap Some same_address)
    (λ (placed_elsewhere : (nat_lt 0 (kept end) && (place end == place address)) ≡ false).
    let differs : address ≢ end = λ same_address.
    let begins : 0 < kept end = subst (λ some_address. 0 < kept some_address) same_address positive in
    let test = and_from (nat_lt 0 (kept end)) (place end == place address) (lt-ltb 0 (kept end) begins) (eq-eqb (place end) (place address) (ap place (sym same_address))) in
    true≢false (sym test ∙ placed_elsewhere)
    in
    origin_next place kept (place address) end
    ∙ cond-false (nat_lt 0 (kept end) && (place end == place address)) (Some end) (origin place kept (place address) end) placed_elsewhere
    ∙ origin_found place kept apart end address positive (omega (arith, address_below, differs)))
    (cases_Bool (nat_lt 0 (kept end) && (place end == place address)))

-- a piece that was made to fill
from_left : (found : Option Block) (piece : Block) → option_map left_piece found ≡ Some piece → (old_piece : Block) × (found ≡ Some old_piece) × (left_piece old_piece ≡ piece)
from_left None piece has_left = absurd (none-some piece has_left)
from_left (Some old_piece) piece has_left = (old_piece, refl, same_Some (left_piece old_piece) piece has_left)

module _ (config : Config) (top heap : ℕ → ℕ) (block : Plot) (object : Name → Option Object) (now kept : ℕ → ℕ) (can_pack : CanPack config top heap block object now kept) where
  -- a kept object lies in the heap
  pub kept_inside : (address : ℕ) → 0 < kept address → (config.region_words ≤ address) × (address + kept address ≤ heap_end config)
  kept_inside address positive =
      let thing_there = can_pack.things address positive in
      let inside = piece_inside config top block can_pack.plotted address (thing thing_there.0 thing_there.1 thing_there.2) thing_there.3 in
      (inside.0, omega (arith, inside.1, thing_there.4))

  -- kept objects lie apart
  pub lie_apart : LieApart config.region_words kept
  lie_apart = record {
    some = omega (arith, config.in_range.least_words);
    above = λ address kept_there. (kept_inside address kept_there).0;
    within = λ address kept_there.
        let thing_there = can_pack.things address kept_there in
        let used = can_pack.plotted.in_use address (thing thing_there.0 thing_there.1 thing_there.2) thing_there.3 in
        let top_within = can_pack.plotted.tops used.region used.within in
        let offset = address - base_of config used.region in
        let same_sum : (used.region + 1) * config.region_words + offset ≡ address = omega (arith, used.from_base) in
        let small : offset < config.region_words = omega (arith, used.to_top, used.from_base, top_within) in
        let rest : ((used.region + 1) * config.region_words + offset) % config.region_words ≡ offset = mod-mul-add (used.region + 1) config.region_words offset small in
        let same_rest : ((used.region + 1) * config.region_words + offset) % config.region_words ≡ address % config.region_words = ap (λ total. total % config.region_words) same_sum in
        omega (arith, used.to_top, used.from_base, top_within, rest, same_rest, thing_there.4);
    apart = λ address later_address first_kept second_kept first_before.
        let first_thing = can_pack.things address first_kept in
        let second_thing = can_pack.things later_address second_kept in
        let pieces_apart = can_pack.plotted.apart address later_address (thing first_thing.0 first_thing.1 first_thing.2) (thing second_thing.0 second_thing.1 second_thing.2) first_thing.3 second_thing.3 first_before in
        omega (arith, pieces_apart, first_thing.4);
  }

  -- in at most 64 regions
  pub kept_low : (address : ℕ) → 0 < kept address → address < 65 * config.region_words
  kept_low address positive =
      let rows = mul-le (config.regions + 1) config.region_words 65 config.region_words (omega (arith, config.in_range.most_regions)) (omega arith) in
      omega (arith, rows, (kept_inside address positive).1, positive)

  module _ (shut : ℕ → Bool) where
    abbrev place : ℕ → ℕ
    place = new_place config.region_words shut kept

    abbrev new_block : Plot
    new_block = packed_block config shut kept block

    pub places : PlacesApart place kept
    places = places_apart config.region_words shut kept lie_apart kept_low

    -- a new place is in a region of the kind that the object was in
    pub kind : (address : ℕ) → 0 < kept address → shut (place address / config.region_words) ≡ shut (address / config.region_words)
    kind address positive = same_kind config.region_words shut kept lie_apart kept_low address positive

    -- what stands in a region that is shut, and in one that is not
    abbrev stayed : ℕ → Option Block
    stayed address = cond (kept address == 0) (option_map left_piece (block address)) (block address)

    abbrev came : ℕ → Option Block
    came new_address = option_and_then block (origin place kept new_address (heap_end config))

    in_shut : (address : ℕ) → shut (region_with config address + 1) ≡ true → new_block address ≡ stayed address
    in_shut address closed = cond-true (shut (region_with config address + 1)) (stayed address) (came address) closed

    in_open : (address : ℕ) → shut (region_with config address + 1) ≡ false → new_block address ≡ came address
    in_open address opened = cond-false (shut (region_with config address + 1)) (stayed address) (came address) opened

    -- at the new place of a kept object is its piece
    pub block_at : (address : ℕ) → 0 < kept address → new_block (place address) ≡ block address
    block_at address positive =
        let row : shut (region_with config (place address) + 1) ≡ shut (address / config.region_words) =
        ap shut (row_above config (place address) (stays_above config.region_words shut kept lie_apart address positive)) ∙ kind address positive in
        ⊎_elim
        (λ (closed : shut (address / config.region_words) ≡ true).
        let stays : place address ≡ address = new_shut config.region_words shut kept address closed in
        let size : kept (place address) ≡ kept address = ap kept stays in
        in_shut (place address) (row ∙ closed)
        ∙ cond-false (kept (place address) == 0) (option_map left_piece (block (place address))) (block (place address)) (ne_eqb (kept (place address)) 0 (λ none_kept. omega (arith, none_kept, size, positive)))
        ∙ ap block stays)
        (λ (opened : shut (address / config.region_words) ≡ false).
        let inside = kept_inside address positive in
        in_open (place address) (row ∙ opened) ∙ ap (option_and_then block) (origin_found place kept places (heap_end config) address positive (omega (arith, inside.1, positive))))
        (cases_Bool (shut (address / config.region_words)))

    -- an old piece of a shut region leaves a piece there
    pub block_stays : (address : ℕ) (piece : Block) → shut (address / config.region_words) ≡ true → block address ≡ Some piece → (new_piece : Block) × (new_block address ≡ Some new_piece)
    block_stays address piece closed has_piece =
        let in_shut_region = in_shut address (ap shut (row_above config address (piece_inside config top block can_pack.plotted address piece has_piece).0) ∙ closed) in
        ⊎_elim
        (λ (none_kept : kept address ≡ 0). (left_piece piece, in_shut_region ∙ cond-true (kept address == 0) (option_map left_piece (block address)) (block address) (eq-eqb (kept address) 0 none_kept) ∙ ap (option_map left_piece) has_piece))
        (λ (kept_there : kept address ≢ 0). (piece, in_shut_region ∙ cond-false (kept address == 0) (option_map left_piece (block address)) (block address) (ne_eqb (kept address) 0 kept_there) ∙ has_piece))
        (cases_eq (kept address) 0)

    -- and each piece is that of a kept object, or one that only fills where another stood
    abbrev pub IsFrom : ℕ → Block → Type 0
    IsFrom new_address piece = (address : ℕ) × (0 < kept address) × (address < heap_end config) × (place address ≡ new_address) × (block address ≡ Some piece) × (words_of piece ≡ kept address)

    abbrev pub IsLeft : ℕ → Block → Type 0
    IsLeft address piece = (old_piece : Block) × (shut (address / config.region_words) ≡ true) × (kept address ≡ 0) × (block address ≡ Some old_piece) × (left_piece old_piece ≡ piece)

    -- a kept object's piece has its words
    kept_words : (address : ℕ) (piece : Block) → 0 < kept address → block address ≡ Some piece → words_of piece ≡ kept address
    kept_words address given_piece positive found =
        let piece = can_pack.things address positive in
        let same_piece : thing piece.0 piece.1 piece.2 ≡ given_piece = same_Some (thing piece.0 piece.1 piece.2) given_piece (sym piece.3 ∙ found) in
        ap words_of (sym same_piece) ∙ sym piece.4

    from_origin : (new_address : ℕ) (piece : Block) (found : Option ℕ) → origin place kept new_address (heap_end config) ≡ found → option_and_then block found ≡ Some piece → IsFrom new_address piece
    from_origin new_address piece None has_origin found = absurd (none-some piece found)
    from_origin new_address piece (Some address) has_origin found =
        let origin_there = origin_is place kept new_address (heap_end config) address has_origin in
        (address, origin_there.0, origin_there.1, origin_there.2, found, kept_words address piece origin_there.0 found)

    from_stayed : (address : ℕ) (piece : Block) → shut (region_with config address + 1) ≡ true → stayed address ≡ Some piece → IsFrom address piece ⊎ IsLeft address piece
    from_stayed address piece closed found = ⊎_elim
        (λ (none_kept : kept address ≡ 0).
        let old_left = from_left (block address) piece (sym (cond-true (kept address == 0) (option_map left_piece (block address)) (block address) (eq-eqb (kept address) 0 none_kept)) ∙ found) in
        let row = row_above config address (piece_inside config top block can_pack.plotted address old_left.0 old_left.1).0 in
        inr (old_left.0, ap shut (sym row) ∙ closed, none_kept, old_left.1, old_left.2))
        (λ (kept_there : kept address ≢ 0).
        let begins : 0 < kept address = omega (arith, kept_there) in
        let inside = kept_inside address begins in
        let had_piece : block address ≡ Some piece = sym (cond-false (kept address == 0) (option_map left_piece (block address)) (block address) (ne_eqb (kept address) 0 kept_there)) ∙ found in
        let stays = new_shut config.region_words shut kept address (ap shut (sym (row_above config address inside.0)) ∙ closed) in
        inl (address, begins, omega (arith, inside.1, begins), stays, had_piece, kept_words address piece begins had_piece))
        (cases_eq (kept address) 0)

    pub block_from : (address : ℕ) (piece : Block) → new_block address ≡ Some piece → IsFrom address piece ⊎ IsLeft address piece
    block_from address piece found = ⊎_elim
        (λ (closed : shut (region_with config address + 1) ≡ true). from_stayed address piece closed (sym (in_shut address closed) ∙ found))
        (λ (opened : shut (region_with config address + 1) ≡ false). inl (from_origin address piece (origin place kept address (heap_end config)) refl (sym (in_open address opened) ∙ found)))
        (cases_Bool (shut (region_with config address + 1)))
