-- Where kept objects are placed: never above where they lay, apart, and each within one region.
use Rattle.std.proofs.Common.{◌≡◌, ◌≢◌, ℕ, ◌+◌, ◌-◌, ◌*◌, ◌/◌, ◌%◌, ◌<◌, ◌≤◌, ◌⊎◌, inl, inr, Bool, true, false, zero, suc, nat_le, nat_lt, ⊎_elim, refl, sym, ap, ◌∙◌, subst, arith}
use Rattle.std.proofs.lemmas.Bool.{cond-true, cond-false, cases_lt, cases_eq, cases_Bool, and_parts, and_from, le-leb, lt-ltb, leb-true, ltb-true}
use Rattle.std.proofs.lemmas.Nat.{div-add-mod', mul-le, mod_below, div-mul-add}
use Rattle.regions.specs.Places.{place_around, open_kept, end_before, new_place, LieApart}
use Rattle.regions.specs.Slide.{is_covered, PlacesApart}
use Rattle.regions.specs.SlideLaws.{EachFits}
use Rattle.regions.proofs.Around.{around_not_below, around_within, around_not_above, around_open}

-- where what counts for packing goes: behind what is kept before, and what counts for nothing to the end of that
abbrev pub placed : (region_words : ℕ) (shut : ℕ → Bool) (kept : ℕ → ℕ) → ℕ → ℕ
placed region_words shut kept address = place_around region_words shut (end_before region_words shut kept address) (open_kept region_words shut kept address)

-- one step of the recursion
pub end_next : (region_words : ℕ) (shut : ℕ → Bool) (kept : ℕ → ℕ) (address : ℕ) → end_before region_words shut kept (suc address) ≡ placed region_words shut kept address + open_kept region_words shut kept address
unfolding end_before
end_next region_words shut kept address = refl

-- an address without an object of an open region changes no end
pub end_same : (region_words : ℕ) (shut : ℕ → Bool) (kept : ℕ → ℕ) (address : ℕ) → open_kept region_words shut kept address ≡ 0 → end_before region_words shut kept (suc address) ≡ end_before region_words shut kept address
end_same region_words shut kept address none_counted =
    let same_placed : placed region_words shut kept address ≡ end_before region_words shut kept address = ap (place_around region_words shut (end_before region_words shut kept address)) none_counted in
    omega (arith, end_next region_words shut kept address, same_placed, none_counted)

-- in an open region all counts, in a shut one nothing
pub open_same : (region_words : ℕ) (shut : ℕ → Bool) (kept : ℕ → ℕ) (address : ℕ) → shut (address / region_words) ≡ false → open_kept region_words shut kept address ≡ kept address
open_same region_words shut kept address row_open = cond-false (shut (address / region_words)) 0 (kept address) row_open

pub shut_none : (region_words : ℕ) (shut : ℕ → Bool) (kept : ℕ → ℕ) (address : ℕ) → shut (address / region_words) ≡ true → open_kept region_words shut kept address ≡ 0
shut_none region_words shut kept address row_shut = cond-true (shut (address / region_words)) 0 (kept address) row_shut

pub open_or_none : (region_words : ℕ) (shut : ℕ → Bool) (kept : ℕ → ℕ) (address : ℕ)
    → (open_kept region_words shut kept address ≡ 0) ⊎ ((0 < kept address) × (shut (address / region_words) ≡ false) × (open_kept region_words shut kept address ≡ kept address))
open_or_none region_words shut kept address = ⊎_elim
    (λ (row_shut : shut (address / region_words) ≡ true). inl (shut_none region_words shut kept address row_shut))
    (λ (row_open : shut (address / region_words) ≡ false).
    let counts_all = open_same region_words shut kept address row_open in
    ⊎_elim
    (λ (none_kept : kept address ≡ 0). inl (omega (arith, counts_all, none_kept)))
    (λ (kept_differs : kept address ≢ 0). inr (omega (arith, kept_differs), row_open, counts_all))
    (cases_eq (kept address) 0))
    (cases_Bool (shut (address / region_words)))

-- so what counts is kept, in an open region
pub is_open : (region_words : ℕ) (shut : ℕ → Bool) (kept : ℕ → ℕ) (address : ℕ) → 0 < open_kept region_words shut kept address → (0 < kept address) × (shut (address / region_words) ≡ false) × (open_kept region_words shut kept address ≡ kept address)
is_open region_words shut kept address some_open = ⊎_elim
    (λ (none_counted : open_kept region_words shut kept address ≡ 0). absurd (omega (arith, some_open, none_counted)))
    (λ (counted : (0 < kept address) × (shut (address / region_words) ≡ false) × (open_kept region_words shut kept address ≡ kept address)). counted)
    (open_or_none region_words shut kept address)

-- the place in an open region, and in a shut one
pub new_open : (region_words : ℕ) (shut : ℕ → Bool) (kept : ℕ → ℕ) (address : ℕ) → shut (address / region_words) ≡ false → new_place region_words shut kept address ≡ place_around region_words shut (end_before region_words shut kept address) (kept address)
new_open region_words shut kept address row_open = cond-false (shut (address / region_words)) address (place_around region_words shut (end_before region_words shut kept address) (kept address)) row_open

pub new_shut : (region_words : ℕ) (shut : ℕ → Bool) (kept : ℕ → ℕ) (address : ℕ) → shut (address / region_words) ≡ true → new_place region_words shut kept address ≡ address
new_shut region_words shut kept address row_shut = cond-true (shut (address / region_words)) address (place_around region_words shut (end_before region_words shut kept address) (kept address)) row_shut

-- behind an object of an open region
pub end_behind : (region_words : ℕ) (shut : ℕ → Bool) (kept : ℕ → ℕ) (address : ℕ) → shut (address / region_words) ≡ false → end_before region_words shut kept (suc address) ≡ new_place region_words shut kept address + kept address
end_behind region_words shut kept address row_open =
    let counts_all = open_same region_words shut kept address row_open in
    let placed_around : placed region_words shut kept address ≡ place_around region_words shut (end_before region_words shut kept address) (kept address) = ap (place_around region_words shut (end_before region_words shut kept address)) counts_all in
    omega (arith, end_next region_words shut kept address, counts_all, placed_around, new_open region_words shut kept address row_open)

-- where nothing is kept nothing is placed
pub end_of_none : (region_words : ℕ) (shut : ℕ → Bool) (kept : ℕ → ℕ) (bound : ℕ) → ((address : ℕ) → address < bound → kept address ≡ 0) → end_before region_words shut kept bound ≡ region_words
unfolding end_before
end_of_none region_words shut kept zero none_kept = refl
end_of_none region_words shut kept (suc address) none_kept =
    let none_before = end_of_none region_words shut kept address (λ earlier_address address_below. none_kept earlier_address (omega (arith, address_below))) in
    let empty : open_kept region_words shut kept address ≡ 0 = ⊎_elim
    (λ (nothing : open_kept region_words shut kept address ≡ 0). nothing)
    (λ (counted : (0 < kept address) × (shut (address / region_words) ≡ false) × (open_kept region_words shut kept address ≡ kept address)). absurd (omega (arith, counted.0, none_kept address (omega arith))))
    (open_or_none region_words shut kept address) in
    end_same region_words shut kept address empty ∙ none_before

-- what an object covers lies in the row of its first word
pub row_of_word : (region_words place words address : ℕ) → place % region_words + words ≤ region_words → place ≤ address → address < place + words → address / region_words ≡ place / region_words
row_of_word region_words place words address words_within address_above address_below =
    let same_address : place / region_words * region_words + (address - place / region_words * region_words) ≡ address = omega (arith, address_above, div-add-mod' place region_words) in
    ap (λ number. number / region_words) (sym same_address) ∙ div-mul-add (place / region_words) region_words (address - place / region_words * region_words) (omega (arith, words_within, address_above, address_below, div-add-mod' place region_words))

-- an address that an object covers
pub covering : (place kept : ℕ → ℕ) (address covered : ℕ) → is_covered place kept address covered ≡ true → (place address ≤ covered) × (covered < place address + kept address) × (0 < kept address)
covering place kept address covered met =
    let halves = and_parts (nat_le (place address) covered) (nat_lt covered (place address + kept address)) met in
    let covered_above = leb-true (place address) covered halves.0 in
    let covered_below = ltb-true covered (place address + kept address) halves.1 in
    (covered_above, covered_below, omega (arith, covered_above, covered_below))

module _ (region_words : ℕ) (shut : ℕ → Bool) (kept : ℕ → ℕ) (lie_apart : LieApart region_words kept) where
  -- a kept object is no longer than a region
  pub kept_short : (address : ℕ) → kept address ≤ region_words
  kept_short address = ⊎_elim
      (λ (none_kept : kept address < 1). omega arith)
      (λ (some_kept : 1 ≤ kept address). omega (arith, lie_apart.within address some_kept))
      (cases_lt (kept address) 1)

  -- Where no kept object that begins below an address ends above a limit, nor does the last one that is placed. At an
  -- object the claim is used with the object's own address as the limit, which apartness gives.
  pub end_not_above : (bound limit : ℕ) → region_words ≤ limit → ((object_address : ℕ) → object_address < bound → 0 < kept object_address → object_address + kept object_address ≤ limit) → end_before region_words shut kept bound ≤ limit
  unfolding end_before
  end_not_above zero limit limit_above ends = limit_above
  end_not_above (suc address) limit limit_above ends = ⊎_elim
      (λ (none_counted : open_kept region_words shut kept address ≡ 0).
      let earlier_end : end_before region_words shut kept address ≤ limit = end_not_above address limit limit_above (λ object object_below. ends object (omega (arith, object_below))) in
      omega (arith, end_same region_words shut kept address none_counted, earlier_end))
      (λ (counted : (0 < kept address) × (shut (address / region_words) ≡ false) × (open_kept region_words shut kept address ≡ kept address)).
      let earlier_end : end_before region_words shut kept address ≤ address = end_not_above address address (lie_apart.above address counted.0) (λ object object_below begins. lie_apart.apart object address begins counted.0 object_below) in
      let place_not_above = around_not_above region_words shut (end_before region_words shut kept address) address (kept address) lie_apart.some counted.0 earlier_end (lie_apart.within address counted.0) counted.1 in
      omega (arith, place_not_above, new_open region_words shut kept address counted.1, end_behind region_words shut kept address counted.1, ends address (omega arith) counted.0))
      (open_or_none region_words shut kept address)

  -- before a kept object nothing ends above it
  pub end_at_object : (limit : ℕ) → 0 < kept limit → end_before region_words shut kept limit ≤ limit
  end_at_object limit some_kept = end_not_above limit limit (lie_apart.above limit some_kept) (λ object object_below begins. lie_apart.apart object limit begins some_kept object_below)

  -- a kept object is not placed above where it lay
  pub moves_down : (limit : ℕ) → 0 < kept limit → new_place region_words shut kept limit ≤ limit
  moves_down limit some_kept = ⊎_elim
      (λ (row_shut : shut (limit / region_words) ≡ true). omega (arith, new_shut region_words shut kept limit row_shut))
      (λ (row_open : shut (limit / region_words) ≡ false).
      let place_not_above = around_not_above region_words shut (end_before region_words shut kept limit) limit (kept limit) lie_apart.some some_kept (end_at_object limit some_kept) (lie_apart.within limit some_kept) row_open in
      omega (arith, place_not_above, new_open region_words shut kept limit row_open))
      (cases_Bool (shut (limit / region_words)))

  -- in an open region a place is not below the end before it
  pub place_from_end : (address : ℕ) → shut (address / region_words) ≡ false → end_before region_words shut kept address ≤ new_place region_words shut kept address
  place_from_end address row_open = omega (arith, around_not_below region_words shut (end_before region_words shut kept address) (kept address) lie_apart.some, new_open region_words shut kept address row_open)

  -- ends go up
  pub end_goes_up : (address : ℕ) → end_before region_words shut kept address ≤ end_before region_words shut kept (suc address)
  end_goes_up address = omega (arith, end_next region_words shut kept address, around_not_below region_words shut (end_before region_words shut kept address) (open_kept region_words shut kept address) lie_apart.some)

  pub ends_go_up : (lower higher : ℕ) → lower ≤ higher → end_before region_words shut kept lower ≤ end_before region_words shut kept higher
  ends_go_up lower zero in_order = ap-le (omega (arith, in_order))
    where
      ap-le : lower ≡ 0 → end_before region_words shut kept lower ≤ end_before region_words shut kept 0
      ap-le at_zero = subst (λ later_address. end_before region_words shut kept lower ≤ end_before region_words shut kept later_address) at_zero (omega arith)
  ends_go_up lower (suc higher) in_order = ⊎_elim
      (λ (same_address : lower ≡ suc higher). subst (λ k. end_before region_words shut kept lower ≤ end_before region_words shut kept k) same_address (omega arith))
      (λ (bounds_differ : lower ≢ suc higher). omega (arith, ends_go_up lower higher (omega (arith, in_order, bounds_differ)), end_goes_up higher))
      (cases_eq lower (suc higher))

  -- objects of open regions are placed in the order in which they lay, and apart
  pub stays_apart : (lower higher : ℕ) → shut (lower / region_words) ≡ false → shut (higher / region_words) ≡ false → lower < higher → new_place region_words shut kept lower + kept lower ≤ new_place region_words shut kept higher
  stays_apart lower higher open_a open_b in_order =
      let ends_rise = ends_go_up (suc lower) higher (omega (arith, in_order)) in
      omega (arith, ends_rise, end_behind region_words shut kept lower open_a, place_from_end higher open_b)

  -- nothing is placed below the heap
  pub end_from_first : (bound : ℕ) → region_words ≤ end_before region_words shut kept bound
  unfolding end_before
  end_from_first zero = omega arith
  end_from_first (suc address) = omega (arith, end_from_first address, end_goes_up address)

  pub stays_above : (address : ℕ) → 0 < kept address → region_words ≤ new_place region_words shut kept address
  stays_above address some_kept = ⊎_elim
      (λ (row_shut : shut (address / region_words) ≡ true). omega (arith, lie_apart.above address some_kept, new_shut region_words shut kept address row_shut))
      (λ (row_open : shut (address / region_words) ≡ false). omega (arith, end_from_first address, place_from_end address row_open))
      (cases_Bool (shut (address / region_words)))

  -- each is placed within one region
  pub stays_within : (address : ℕ) → 0 < kept address → new_place region_words shut kept address % region_words + kept address ≤ region_words
  stays_within address some_kept = ⊎_elim
      (λ (row_shut : shut (address / region_words) ≡ true). omega (arith, lie_apart.within address some_kept, ap (λ number. number % region_words) (new_shut region_words shut kept address row_shut)))
      (λ (row_open : shut (address / region_words) ≡ false).
      omega (arith, around_within region_words shut (end_before region_words shut kept address) (kept address) lie_apart.some some_kept (kept_short address), ap (λ number. number % region_words) (new_open region_words shut kept address row_open)))
      (cases_Bool (shut (address / region_words)))

  module _ (kept_inside : (lower : ℕ) → 0 < kept lower → lower < 65 * region_words) where
    -- what lay in an open region is placed in an open one, and what lay in a shut one in a shut one
    pub same_kind : (limit : ℕ) → 0 < kept limit → shut (new_place region_words shut kept limit / region_words) ≡ shut (limit / region_words)
    same_kind limit some_kept = ⊎_elim
        (λ (row_shut : shut (limit / region_words) ≡ true). ap (λ number. shut (number / region_words)) (new_shut region_words shut kept limit row_shut))
        (λ (row_open : shut (limit / region_words) ≡ false).
        let end = end_before region_words shut kept limit in
        let row_positive : 1 ≤ end / region_words = ⊎_elim
        (λ (no_row : end / region_words < 1).
        let is_zero : end / region_words ≡ 0 = omega (arith, no_row) in
        let row : end / region_words * region_words ≡ 0 * region_words = ap (λ number. number * region_words) is_zero in
        absurd (omega (arith, row, end_from_first limit, div-add-mod' end region_words, mod_below end region_words lie_apart.some)))
        (λ (some_row : 1 ≤ end / region_words). some_row)
        (cases_lt (end / region_words) 1) in
        let row_below : limit / region_words < 65 = ⊎_elim
        (λ (row_near : limit / region_words < 65). row_near)
        (λ (row_far : 65 ≤ limit / region_words). let rows = mul-le 65 region_words (limit / region_words) region_words row_far (omega arith) in absurd (omega (arith, rows, kept_inside limit some_kept, div-add-mod' limit region_words)))
        (cases_lt (limit / region_words) 65) in
        ap (λ number. shut (number / region_words)) (new_open region_words shut kept limit row_open)
        ∙ around_open region_words shut end limit (kept limit) lie_apart.some some_kept (end_at_object limit some_kept) (lie_apart.within limit some_kept) row_open (omega (arith, row_positive, row_below))
        ∙ sym row_open)
        (cases_Bool (shut (limit / region_words)))

    pub each_fits : EachFits region_words shut kept
    each_fits = record {
      not_above = moves_down;
      in_heap = stays_above;
      within = stays_within;
      same_kind = same_kind;
      apart = λ first_object second_object some_kept opened in_order. stays_apart first_object second_object (is_open region_words shut kept first_object some_kept).1 opened in_order;
    }

    -- the row of a word of an object is open or shut as that in which the object lay
    kind_of_word : (limit covered : ℕ) → is_covered (new_place region_words shut kept) kept limit covered ≡ true → shut (covered / region_words) ≡ shut (limit / region_words)
    kind_of_word limit covered met =
        let object_covers = covering (new_place region_words shut kept) kept limit covered met in
        ap shut (row_of_word region_words (new_place region_words shut kept limit) (kept limit) covered (stays_within limit object_covers.2) object_covers.0 object_covers.1) ∙ same_kind limit object_covers.2

    -- no two objects cover one address
    covered_in_order : (limit other_limit covered : ℕ) → is_covered (new_place region_words shut kept) kept limit covered ≡ true → is_covered (new_place region_words shut kept) kept other_limit covered ≡ true → limit < other_limit → ⊥
    covered_in_order limit other_limit covered yes_a yes_b in_order =
        let first_covers = covering (new_place region_words shut kept) kept limit covered yes_a in
        let second_covers = covering (new_place region_words shut kept) kept other_limit covered yes_b in
        let kind : shut (limit / region_words) ≡ shut (other_limit / region_words) = sym (kind_of_word limit covered yes_a) ∙ kind_of_word other_limit covered yes_b in
        ⊎_elim
        (λ (row_shut : shut (other_limit / region_words) ≡ true).
        omega (arith, lie_apart.apart limit other_limit first_covers.2 second_covers.2 in_order, new_shut region_words shut kept limit (kind ∙ row_shut), new_shut region_words shut kept other_limit row_shut, first_covers.1, second_covers.0))
        (λ (row_open : shut (other_limit / region_words) ≡ false). omega (arith, stays_apart limit other_limit (kind ∙ row_open) row_open in_order, first_covers.1, second_covers.0))
        (cases_Bool (shut (other_limit / region_words)))

    pub places_apart : PlacesApart (new_place region_words shut kept) kept
    places_apart place other_place covered yes_a yes_b = ⊎_elim
        (λ (in_order : place < other_place). absurd (covered_in_order place other_place covered yes_a yes_b in_order))
        (λ (not_below : other_place ≤ place). ⊎_elim
        (λ (in_order : other_place < place). absurd (covered_in_order other_place place covered yes_b yes_a in_order))
        (λ (not_above : place ≤ other_place). omega (arith, not_below, not_above))
        (cases_lt other_place place))
        (cases_lt place other_place)

-- an address that lies in the new place of an object is covered by it
pub covers : (place kept : ℕ → ℕ) (address covered : ℕ) → place address ≤ covered → covered < place address + kept address → is_covered place kept address covered ≡ true
covers place kept address covered covered_above covered_below = and_from (nat_le (place address) covered) (nat_lt covered (place address + kept address)) (le-leb (place address) covered covered_above) (lt-ltb covered (place address + kept address) covered_below)

-- no two kept objects have one place
pub places_differ : (place kept : ℕ → ℕ) → PlacesApart place kept → (address other_address : ℕ) → 0 < kept address → 0 < kept other_address → place address ≡ place other_address → address ≡ other_address
places_differ place kept lie_apart address other_address some_a some_b same_place =
    lie_apart address other_address (place address) (covers place kept address (place address) (omega arith) (omega (arith, some_a))) (covers place kept other_address (place address) (omega (arith, same_place)) (omega (arith, same_place, some_b)))
