-- Where the objects of a text stand in the heap, and which words of each region they use.
use Rattle.std.proofs.Common.{◌≡◌, ◌≢◌, ℕ, ◌+◌, ◌-◌, ◌*◌, ◌/◌, ◌%◌, ◌<◌, ◌≤◌, ◌==◌, ◌⊎◌, zero, suc, length, ⊎_elim, refl, sym, ap, ◌∙◌, arith}
use Rattle.std.specs.Prelude.{if◌then◌else◌}
use Rattle.std.proofs.lemmas.Bool.{cond-true, cond-false, cases_eq, cases_lt, eq-eqb, ne_eqb}
use Rattle.std.proofs.lemmas.List.{get_or_past}
use Rattle.std.proofs.lemmas.Nat.{div-add-mod', mul-le, mod_below}
use Rattle.heap_words.specs.declared.config.Config.{Config}
use Rattle.heap_words.specs.Words.{Heap, IsWord}
use Rattle.regions.specs.Place.{base_of, region_with}
use Rattle.regions.proofs.PlaceLemmas.{regions_tile}
use Rattle.regions.specs.Places.{place_behind, end_before}
use Rattle.shen_graph.specs.Graph.{hub}
use Rattle.shen_graph.specs.GraphText.{Text, Row, row_of, bare}
use Rattle.image_graph.specs.Plot.{heap_end}
use Rattle.graph_placing.specs.ByName.{words_of_row, address_of, end_behind, Fits, used_words}
use Rattle.graph_placing.specs.PlaceableText.{IsPlaceable}
use Rattle.graph_placing.proofs.Behind as behind

module _ (config : Config) (text : Text) (placeable : IsPlaceable config text) where
  abbrev row_count : ℕ
  row_count = length text.rows

  abbrev w : ℕ
  w = config.region_words

  -- each object has few words; a row that is not there counts as one without fields
  pub few_words : (row_index : ℕ) → words_of_row text row_index ≤ 35
  few_words row_index = ⊎_elim
      (λ (row_below : row_index < row_count). let row_short = placeable.short row_index row_below in omega (arith, row_short.refs, row_short.nums))
      (λ (row_past : row_count ≤ row_index). let no_row : row_of text row_index ≡ bare hub = get_or_past text.rows row_index (bare hub) row_past in let bare_words : words_of_row text row_index ≡ 3 = ap (λ (row : Row). 3 + length row.refs + length row.nums) no_row in omega (arith, bare_words))
      (cases_lt row_index row_count)

  pub some_words : (row : ℕ) → 3 ≤ words_of_row text row
  some_words row = omega arith

  positive : (row : ℕ) → 0 < words_of_row text row
  positive row = omega (arith, some_words row)

  some : 0 < w
  some = omega (arith, config.in_range.least_words)

  short : (row : ℕ) → words_of_row text row ≤ w
  short row = omega (arith, few_words row, config.in_range.least_words)

  pub ends_rise : (earlier later : ℕ) → earlier ≤ later → end_behind config text earlier ≤ end_behind config text later
  ends_rise = behind.ends_rise w (words_of_row text) some positive short

  pub end_is : (row : ℕ) → end_behind config text (suc row) ≡ address_of config text row + words_of_row text row
  end_is row = behind.end_behind_it w (words_of_row text) some positive short row

  pub stand_apart : (earlier later : ℕ) → earlier < later → address_of config text earlier + words_of_row text earlier ≤ address_of config text later
  stand_apart = behind.stand_apart w (words_of_row text) some positive short

  pub from_first : (row : ℕ) → w ≤ address_of config text row
  from_first row = omega (arith, behind.from_first w (words_of_row text) some positive short row, behind.from_end w (words_of_row text) some positive short row)

  -- an object that begins behind another one is of a later row
  pub later_row : (earlier later : ℕ) → address_of config text earlier < address_of config text later → earlier < later
  later_row earlier later address_before = ⊎_elim
      (λ (rows_less : earlier < later). rows_less)
      (λ (rows_least : later ≤ earlier). ⊎_elim
      (λ (same_row : later ≡ earlier). let same_address : address_of config text later ≡ address_of config text earlier = ap (address_of config text) same_row in absurd (omega (arith, same_address, address_before)))
      (λ (rows_differ : later ≡ earlier → ⊥). absurd (omega (arith, stand_apart later earlier (omega (arith, rows_least, rows_differ)), address_before)))
      (cases_eq later earlier))
      (cases_lt earlier later)

  pub one_row : (first_row second_row : ℕ) → address_of config text first_row ≡ address_of config text second_row → first_row ≡ second_row
  one_row first_row second_row same_address = ⊎_elim
      (λ (rows_less : first_row < second_row). absurd (omega (arith, stand_apart first_row second_row rows_less, some_words first_row, same_address)))
      (λ (rows_least : second_row ≤ first_row). ⊎_elim
      (λ (same_row : second_row ≡ first_row). sym same_row)
      (λ (rows_differ : second_row ≡ first_row → ⊥). absurd (omega (arith, stand_apart second_row first_row (omega (arith, rows_least, rows_differ)), some_words second_row, same_address)))
      (cases_eq second_row first_row))
      (cases_lt first_row second_row)

  -- The region of an object.

  abbrev pub region_at : ℕ → ℕ
  region_at row = region_with config (address_of config text row)

  -- its base and the place in it make the address
  pub base_and_rest : (address : ℕ) → w ≤ address → base_of config (region_with config address) + address % w ≡ address
  base_and_rest address address_high =
      let rows : address / w * w + address % w ≡ address = div-add-mod' address w in
      let row_positive : 1 ≤ address / w = (⊎_elim
      (λ (no_row : address / w < 1). let is_zero : address / w ≡ 0 = omega (arith, no_row) in let row : address / w * w ≡ 0 * w = ap (λ region. region * w) is_zero in absurd (omega (arith, row, rows, mod_below address w some, address_high)))
      (λ (some_row : 1 ≤ address / w). some_row)
      (cases_lt (address / w) 1)) in
      let row_back : address / w - 1 + 1 ≡ address / w = omega (arith, row_positive) in
      let base : (address / w - 1 + 1) * w ≡ address / w * w = ap (λ region. region * w) row_back in
      omega (arith, base, rows)

  -- an object lies within its region
  pub in_region : (row : ℕ) → (base_of config (region_at row) ≤ address_of config text row) × (address_of config text row + words_of_row text row ≤ base_of config (region_at row) + w)
  in_region row =
      let parts_add = base_and_rest (address_of config text row) (from_first row) in
      let row_within = behind.within_region w (words_of_row text) some positive short row in
      (omega (arith, parts_add), omega (arith, parts_add, row_within))

  -- an address between base and end of a region is of it
  pub region_is : (region address : ℕ) → base_of config region ≤ address → address < base_of config region + w → region_with config address ≡ region
  region_is region address at_most address_before = regions_tile.of_no_other config region address (record { from = at_most; before = address_before })

  -- The words of a region that are used.

  used_next : (row region : ℕ) → used_words config text (suc row) region ≡ (if region_at row == region then address_of config text row + words_of_row text row - base_of config region else used_words config text row region)
  unfolding used_words
  used_next row region = refl

  used_none : (region : ℕ) → used_words config text 0 region ≡ 0
  unfolding used_words
  used_none region = refl

  used_here : (row region : ℕ) → region_at row ≡ region → base_of config region + used_words config text (suc row) region ≡ address_of config text row + words_of_row text row
  used_here row region same_region =
      let used_is = used_next row region ∙ cond-true (region_at row == region) (address_of config text row + words_of_row text row - base_of config region) (used_words config text row region) (eq-eqb _ _ same_region) in
      let base : base_of config (region_at row) ≡ base_of config region = ap (base_of config) same_region in
      omega (arith, used_is, base, (in_region row).0)

  used_elsewhere : (row region : ℕ) → region_at row ≢ region → used_words config text (suc row) region ≡ used_words config text row region
  used_elsewhere row region different_region = used_next row region ∙ cond-false (region_at row == region) (address_of config text row + words_of_row text row - base_of config region) (used_words config text row region) (ne_eqb _ _ different_region)

  -- each object of the region ends at or before its top
  pub ends_below_top : (count row : ℕ) → row < count → address_of config text row + words_of_row text row ≤ base_of config (region_at row) + used_words config text count (region_at row)
  ends_below_top zero row row_below = absurd (omega (arith, row_below))
  ends_below_top (suc count) row row_below = ⊎_elim
      (λ (last_row : count ≡ row). let equal_region : region_at count ≡ region_at row = ap region_at last_row in
      let same_end : address_of config text count + words_of_row text count ≡ address_of config text row + words_of_row text row = ap (λ any_row. address_of config text any_row + words_of_row text any_row) last_row in
      omega (arith, used_here count (region_at row) equal_region, same_end))
      (λ (not_last : count ≢ row).
      let still_below : row < count = omega (arith, row_below, not_last) in
      ⊎_elim
      (λ (same_region : region_at count ≡ region_at row). omega (arith, used_here count (region_at row) same_region, stand_apart row count still_below))
      (λ (region_elsewhere : region_at count ≢ region_at row). omega (arith, used_elsewhere count (region_at row) region_elsewhere, ends_below_top count row still_below))
      (cases_eq (region_at count) (region_at row)))
      (cases_eq count row)

  -- the last object of the region ends at its top
  pub last_ends_at_top : (count region : ℕ) → 0 < used_words config text count region → (row : ℕ) × (row < count) × (region_at row ≡ region) × (base_of config region + used_words config text count region ≡ address_of config text row + words_of_row text row)
  last_ends_at_top zero region used = absurd (omega (arith, used, used_none region))
  last_ends_at_top (suc count) region used = ⊎_elim
      (λ (same_region : region_at count ≡ region). (count, omega arith, same_region, used_here count region same_region))
      (λ (region_elsewhere : region_at count ≢ region).
      let used_same = used_elsewhere count region region_elsewhere in
      let earlier_last = last_ends_at_top count region (omega (arith, used, used_same)) in
      (earlier_last.0, omega (arith, earlier_last.1), earlier_last.2, omega (arith, earlier_last.3, used_same)))
      (cases_eq (region_at count) region)

  -- no top is above the region's words
  pub top_within : (count region : ℕ) → used_words config text count region ≤ w
  top_within count region = ⊎_elim
      (λ (none_used : used_words config text count region < 1). omega (arith, none_used))
      (λ (used : 1 ≤ used_words config text count region).
      let last_row = last_ends_at_top count region (omega (arith, used)) in
      let base : base_of config (region_at last_row.0) ≡ base_of config region = ap (base_of config) last_row.2 in
      omega (arith, last_row.3, (in_region last_row.0).1, base))
      (cases_lt (used_words config text count region) 1)

  -- An address that is a whole number of regions is the base of its region.
  based : (address region : ℕ) → address ≡ (region + 1) * w → address ≡ base_of config (region_with config address)
  based address region at_base =
      let own_region : region_with config address ≡ region = region_is region address (omega (arith, at_base)) (omega (arith, at_base, some)) in
      at_base ∙ ap (base_of config) (sym own_region)

  placed_how : (row : ℕ) → (address_of config text row ≡ end_behind config text row) ⊎ (address_of config text row ≡ (end_behind config text row / w + 1) * w)
  placed_how row = behind.at_end_or_base w (words_of_row text) some positive short row

  pub first_end : end_behind config text 0 ≡ w
  unfolding end_before
  first_end = refl

  -- where a region has an object, one stands at its base
  pub one_at_base : (row : ℕ) → (base_row : ℕ) × (base_row ≤ row) × (address_of config text base_row ≡ base_of config (region_at row))
  one_at_base zero = ⊎_elim
      (λ (at_end : address_of config text 0 ≡ end_behind config text 0). let first_place : address_of config text 0 ≡ (0 + 1) * w = omega (arith, at_end, first_end) in (0, omega arith, based (address_of config text 0) 0 first_place))
      (λ (at_base : address_of config text 0 ≡ (end_behind config text 0 / w + 1) * w). (0, omega arith, based (address_of config text 0) (end_behind config text 0 / w) at_base))
      (placed_how 0)
  one_at_base (suc row) = ⊎_elim
      (λ (at_end : address_of config text (suc row) ≡ end_behind config text (suc row)).
      let row_in_region = in_region row in
      let behind_it : address_of config text (suc row) ≡ address_of config text row + words_of_row text row = at_end ∙ end_is row in
      ⊎_elim
      (λ (next_inside : address_of config text (suc row) < base_of config (region_at row) + w).
      let same_region : region_at (suc row) ≡ region_at row = region_is (region_at row) (address_of config text (suc row)) (omega (arith, behind_it, row_in_region.0)) next_inside in
      let base_row_before = one_at_base row in
      (base_row_before.0, omega (arith, base_row_before.1), base_row_before.2 ∙ ap (base_of config) (sym same_region)))
      (λ (next_region : base_of config (region_at row) + w ≤ address_of config text (suc row)).
      let next_address : address_of config text (suc row) ≡ (region_at row + 1 + 1) * w = omega (arith, next_region, behind_it, row_in_region.1) in
      (suc row, omega arith, based (address_of config text (suc row)) (region_at row + 1) next_address))
      (cases_lt (address_of config text (suc row)) (base_of config (region_at row) + w)))
      (λ (at_base : address_of config text (suc row) ≡ (end_behind config text (suc row) / w + 1) * w). (suc row, omega arith, based (address_of config text (suc row)) (end_behind config text (suc row) / w) at_base))
      (placed_how (suc row))

  -- the base of the next region is not below that of this one and a region's words
  next_base : (region end : ℕ) → base_of config region ≤ end → base_of config region + w ≤ (end / w + 1) * w
  next_base region end at_most =
      let rows : end / w * w + end % w ≡ end = div-add-mod' end w in
      ⊎_elim
      (λ (row_less : end / w < region + 1).
      let most_words : end / w * w ≤ region * w = mul-le (end / w) w region w (omega (arith, row_less)) (omega arith) in
      absurd (omega (arith, most_words, rows, mod_below end w some, at_most)))
      (λ (row_least : region + 1 ≤ end / w). let most_words : (region + 1) * w ≤ end / w * w = mul-le (region + 1) w (end / w) w row_least (omega arith) in omega (arith, most_words))
      (cases_lt (end / w) (region + 1))

  -- behind an object that does not end at the top of the region another one stands
  pub another_behind : (region row : ℕ) → row < row_count → base_of config region ≤ address_of config text row → address_of config text row + words_of_row text row < base_of config region + used_words config text row_count region
      → (suc row < row_count) × (address_of config text (suc row) ≡ address_of config text row + words_of_row text row)
  another_behind region row row_below at_most end_below =
      let last_found = last_ends_at_top row_count region (omega (arith, at_most, end_below)) in
      let last_row = last_found.0 in
      let before_last : row < last_row = (⊎_elim
      (λ (row_before : row < last_row). row_before)
      (λ (row_past : last_row ≤ row). ⊎_elim
      (λ (same_row : last_row ≡ row). let same_end : address_of config text last_row + words_of_row text last_row ≡ address_of config text row + words_of_row text row = ap (λ any_row. address_of config text any_row + words_of_row text any_row) same_row in absurd (omega (arith, same_end, last_found.3, end_below)))
      (λ (rows_differ : last_row ≡ row → ⊥). absurd (omega (arith, stand_apart last_row row (omega (arith, row_past, rows_differ)), last_found.3, end_below)))
      (cases_eq last_row row))
      (cases_lt row last_row)) in (
        omega (arith, before_last, last_found.1),
        ⊎_elim
            (λ (at_end : address_of config text (suc row) ≡ end_behind config text (suc row)). at_end ∙ end_is row)
            (λ (at_base : address_of config text (suc row) ≡ (end_behind config text (suc row) / w + 1) * w).
            let base_far = next_base region (end_behind config text (suc row)) (omega (arith, end_is row, at_most)) in
            let behind_it : address_of config text (suc row) ≤ address_of config text last_row = (⊎_elim
            (λ (same_row : suc row ≡ last_row). let same_address : address_of config text (suc row) ≡ address_of config text last_row = ap (address_of config text) same_row in omega (arith, same_address))
            (λ (rows_differ : suc row ≡ last_row → ⊥). omega (arith, stand_apart (suc row) last_row (omega (arith, before_last, rows_differ))))
            (cases_eq (suc row) last_row)) in
            let base : base_of config (region_at last_row) ≡ base_of config region = ap (base_of config) last_found.2 in
            absurd (omega (arith, base_far, at_base, behind_it, (in_region last_row).1, base, some_words last_row)))
            (placed_how (suc row)),
      )

  -- One object more.

  pub next_place : (words_of_region end words place row : ℕ) → words_of_region ≡ w → end ≡ end_behind config text row → words ≡ words_of_row text row → place ≡ place_behind words_of_region end words
      → place ≡ address_of config text row
  next_place words_of_region end words place row same_words same_end same_length behind_end =
      behind_end ∙ ap (λ region_words. place_behind region_words end words) same_words ∙ ap (λ any_end. place_behind w any_end words) same_end ∙ ap (place_behind w (end_behind config text row)) same_length
      ∙ behind.around_nothing w (end_behind config text row) (words_of_row text row) (positive row)

  pub next_end : (words place row : ℕ) → words ≡ words_of_row text row → place ≡ address_of config text row → place + words ≡ end_behind config text (row + 1)
  next_end words place row same_length at_place =
      let same_successor : suc row ≡ row + 1 = omega arith in
      let same_end : end_behind config text (suc row) ≡ end_behind config text (row + 1) = ap (end_behind config text) same_successor in
      omega (arith, end_is row, same_end, at_place, same_length)

  -- Where all objects fit.

  module _ (fits : Fits config text) where
    -- each lies in the heap
    pub in_heap : (row : ℕ) → row < row_count → address_of config text row + words_of_row text row ≤ heap_end config
    in_heap row row_below = omega (arith, ends_rise (suc row) row_count (omega (arith, row_below)), end_is row, fits)

    -- so its words are words of the heap
    pub is_word : (row offset : ℕ) → row < row_count → offset < words_of_row text row → IsWord config (Heap (address_of config text row + offset))
    is_word row offset row_below offset_inside = (omega (arith, from_first row), omega (arith, in_heap row row_below, offset_inside))

    -- and its region is one of the heap's
    pub region_within : (row : ℕ) → row < row_count → region_at row < config.regions
    region_within row row_below = regions_tile.in_range config (address_of config text row) (omega (arith, from_first row), omega (arith, in_heap row row_below, some_words row))
