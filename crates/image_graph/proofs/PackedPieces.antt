-- The regions after packing: pieces lie in the parts in use, apart, and fill them.
use Rattle.std.proofs.Common.{◌≡◌, ℕ, ◌+◌, ◌/◌, ◌<◌, ◌≤◌, ◌⊎◌, Bool, true, false, cond, suc, Option, Some, ⊎_elim, refl, sym, ap, ◌∙◌, subst, arith}
use Rattle.std.proofs.lemmas.Bool.{cond-true, cond-false, cases_lt, cases_Bool, true≢false}
use Rattle.heap_words.specs.declared.config.Config.{Config}
use Rattle.regions.specs.Place.{base_of}
use Rattle.regions.specs.Places.{new_place, LieApart}
use Rattle.regions.specs.Tops.{words_in, top_before}
use Rattle.regions.proofs.Placed.{new_shut, open_same, is_open, stays_apart}
use Rattle.regions.proofs.Sums.{sum_next, sum_grows}
use Rattle.regions.proofs.Tops.{region_of_place, in_region, place_in_range, at_top, added_here, top_within, first_is_at_base, next_is_behind}
use Rattle.shen_graph.specs.declared.name.Name.{Name}
use Rattle.shen_graph.specs.Graph.{Object}
use Rattle.heap_world.specs.World.{Block, thing, words_of, Plot, IsInUse, IsPlotted, IsFilled}
use Rattle.heap_world.proofs.Pieces.{behind}
use Rattle.image_graph.specs.Plot.{heap_end, packed_block, packed_top, AreParsed}
use Rattle.image_graph.specs.Packing.{CanPack}
use Rattle.image_graph.proofs.Origin as origins
use Rattle.image_graph.proofs.Rows.{row_is}

module _ (config : Config) (top heap : ℕ → ℕ) (block : Plot) (object : Name → Option Object) (now kept : ℕ → ℕ) (can_pack : CanPack config top heap block object now kept)
    (shut : ℕ → Bool) (parsed : AreParsed config shut top heap block) where
  abbrev region_words : ℕ
  region_words = config.region_words

  abbrev place : ℕ → ℕ
  place = new_place region_words shut kept

  abbrev new_block : Plot
  new_block = packed_block config shut kept block

  abbrev new_top : ℕ → ℕ
  new_top region = cond (shut (region + 1)) (top region) (packed_top config shut kept region)

  abbrev lie : LieApart config.region_words kept
  lie = origins.lie_apart config top heap block object now kept can_pack

  abbrev IsFrom : ℕ → Block → Type 0
  IsFrom new_address piece = origins.IsFrom config top heap block object now kept can_pack shut new_address piece

  abbrev IsLeft : ℕ → Block → Type 0
  IsLeft new_address piece = origins.IsLeft config top heap block object now kept can_pack shut new_address piece

  abbrev from : (new_address : ℕ) (piece : Block) → new_block new_address ≡ Some piece → IsFrom new_address piece ⊎ IsLeft new_address piece
  from = origins.block_from config top heap block object now kept can_pack shut

  kept_inside : (kept_address : ℕ) → 0 < kept kept_address → (region_words ≤ kept_address) × (kept_address + kept kept_address ≤ heap_end config)
  kept_inside = origins.kept_inside config top heap block object now kept can_pack

  kind : (kept_address : ℕ) → 0 < kept kept_address → shut (place kept_address / region_words) ≡ shut (kept_address / region_words)
  kind = origins.kind config top heap block object now kept can_pack shut

  -- the top of a shut region stays, and that of another is what is placed there
  shut_top : (region : ℕ) → shut (region + 1) ≡ true → new_top region ≡ top region
  shut_top region region_closed = cond-true (shut (region + 1)) (top region) (packed_top config shut kept region) region_closed

  open_top : (region : ℕ) → shut (region + 1) ≡ false → new_top region ≡ packed_top config shut kept region
  open_top region region_open = cond-false (shut (region + 1)) (top region) (packed_top config shut kept region) region_open

  tops_within : (region : ℕ) → region < config.regions → new_top region ≤ region_words
  tops_within region region_below = ⊎_elim
      (λ (region_closed : shut (region + 1) ≡ true). omega (arith, shut_top region region_closed, can_pack.plotted.tops region region_below))
      (λ (region_open : shut (region + 1) ≡ false). omega (arith, open_top region region_open, top_within region_words shut kept lie region (heap_end config)))
      (cases_Bool (shut (region + 1)))

  -- a piece of a shut region stays in the part in use
  stayed_in_use : (address : ℕ) (piece : Block) → shut (address / region_words) ≡ true → block address ≡ Some piece → IsInUse config new_top address (words_of piece)
  stayed_in_use address piece region_closed has_piece =
      let used = can_pack.plotted.in_use address piece has_piece in
      let top_at_most = can_pack.plotted.tops used.region used.within in
      let row = row_is region_words used.region address used.from_base (omega (arith, used.to_top, top_at_most, parsed.some address piece has_piece)) in
      let same_top = shut_top used.region (ap shut (sym row) ∙ region_closed) in
      record { region = used.region; within = used.within; from_base = used.from_base; to_top = omega (arith, used.to_top, same_top) }

  -- a kept object of an open region is placed in the part in use of one
  placed_in_use : (kept_address : ℕ) → 0 < kept kept_address → shut (kept_address / region_words) ≡ false → IsInUse config new_top (place kept_address) (kept kept_address)
  placed_in_use kept_address some_kept region_open =
      let source_inside = kept_inside kept_address some_kept in
      let new_region = region_of_place region_words shut kept kept_address in
      let region_there = in_region region_words shut kept lie kept_address some_kept in
      let counts = open_same region_words shut kept kept_address region_open in
      let place_there = at_top region_words shut kept lie new_region kept_address (omega (arith, counts, some_kept)) region_there in
      let more_words : top_before region_words shut kept new_region (suc kept_address) ≤ top_before region_words shut kept new_region (heap_end config) = sum_grows (words_in region_words shut kept new_region) (suc kept_address) (heap_end config) (omega (arith, source_inside.1, some_kept)) in
      let step = sum_next (words_in region_words shut kept new_region) kept_address in
      let added = added_here region_words shut kept new_region kept_address region_there in
      let same_top = open_top new_region (ap shut (sym region_there) ∙ kind kept_address some_kept ∙ region_open) in
      record {
        region = new_region;
        within = place_in_range region_words shut kept lie config.regions kept_address some_kept (omega (arith, source_inside.1, some_kept));
        from_base = omega (arith, place_there);
        to_top = omega (arith, place_there, more_words, step, added, counts, same_top);
      }

  -- so is each
  kept_in_use : (address : ℕ) → 0 < kept address → IsInUse config new_top (place address) (kept address)
  kept_in_use address some_kept = ⊎_elim
      (λ (region_closed : shut (address / region_words) ≡ true).
      let piece = can_pack.things address some_kept in
      let used : IsInUse config new_top address (kept address) = subst (IsInUse config new_top address) (sym piece.4) (stayed_in_use address (thing piece.0 piece.1 piece.2) region_closed piece.3) in
      subst (λ asked_place. IsInUse config new_top asked_place (kept address)) (sym (new_shut region_words shut kept address region_closed)) used)
      (λ (region_open : shut (address / region_words) ≡ false). placed_in_use address some_kept region_open)
      (cases_Bool (shut (address / region_words)))

  in_use : (address : ℕ) (piece : Block) → new_block address ≡ Some piece → IsInUse config new_top address (words_of piece)
  in_use address piece has_piece = ⊎_elim
      (λ (came_from : IsFrom address piece). subst (λ address. IsInUse config new_top address (words_of piece)) came_from.3 (subst (IsInUse config new_top (place came_from.0)) (sym came_from.5) (kept_in_use came_from.0 came_from.1)))
      (λ (left_there : IsLeft address piece). subst (IsInUse config new_top address) (ap words_of left_there.4) (stayed_in_use address left_there.0 left_there.1 left_there.3))
      (from address piece has_piece)

  -- a piece has some word
  pub slid_has_words : (new_address : ℕ) (piece : Block) → new_block new_address ≡ Some piece → 1 ≤ words_of piece
  slid_has_words new_address piece has_piece = ⊎_elim
      (λ (came_from : IsFrom new_address piece). omega (arith, came_from.1, came_from.5))
      (λ (left_there : IsLeft new_address piece). let same_words = ap words_of left_there.4 in omega (arith, same_words, parsed.some new_address left_there.0 left_there.3))
      (from new_address piece has_piece)

  -- so it lies in the row of its region
  row_of_piece : (address : ℕ) (piece : Block) (has_piece : new_block address ≡ Some piece) → address / region_words ≡ (in_use address piece has_piece).region + 1
  row_of_piece address piece has_piece =
      let used = in_use address piece has_piece in
      row_is region_words used.region address used.from_base (omega (arith, used.to_top, tops_within used.region used.within, slid_has_words address piece has_piece))

  -- in a shut region a piece stood there, of as many words
  was_there : (address : ℕ) (piece : Block) → new_block address ≡ Some piece → shut (address / region_words) ≡ true → (old_piece : Block) × (block address ≡ Some old_piece) × (words_of old_piece ≡ words_of piece)
  was_there address piece has_piece region_closed = ⊎_elim
      (λ (came_from : IsFrom address piece).
      let old : shut (came_from.0 / region_words) ≡ true = sym (kind came_from.0 came_from.1) ∙ ap (λ that_address. shut (that_address / region_words)) came_from.3 ∙ region_closed in
      let same_place : came_from.0 ≡ address = sym (new_shut region_words shut kept came_from.0 old) ∙ came_from.3 in
      (piece, ap block (sym same_place) ∙ came_from.4, refl))
      (λ (left_there : IsLeft address piece). (left_there.0, left_there.3, ap words_of left_there.4))
      (from address piece has_piece)

  -- and in an open one it is that of a kept object of an open region
  came_there : (new_address : ℕ) (piece : Block) → new_block new_address ≡ Some piece → shut (new_address / region_words) ≡ false → (source : ℕ) × (0 < kept source) × (shut (source / region_words) ≡ false) × (source < heap_end config) × (place source ≡ new_address) × (words_of piece ≡ kept source)
  came_there new_address piece has_piece region_open = ⊎_elim
      (λ (source : IsFrom new_address piece). (source.0, source.1, sym (kind source.0 source.1) ∙ ap (λ that_address. shut (that_address / region_words)) source.3 ∙ region_open, source.2, source.3, source.5))
      (λ (left_there : IsLeft new_address piece). absurd (true≢false (sym left_there.1 ∙ region_open)))
      (from new_address piece has_piece)

  -- two pieces of shut regions lie apart, and two of open ones
  apart_in_shut : (address later_address : ℕ) (piece later_piece : Block) → new_block address ≡ Some piece → new_block later_address ≡ Some later_piece → shut (address / region_words) ≡ true → shut (later_address / region_words) ≡ true → address < later_address → address + words_of piece ≤ later_address
  apart_in_shut address later_address piece later_piece has_first has_second closed_p closed_q first_before =
      let first_old = was_there address piece has_first closed_p in
      let second_old = was_there later_address later_piece has_second closed_q in
      let pieces_apart = can_pack.plotted.apart address later_address first_old.0 second_old.0 first_old.1 second_old.1 first_before in
      omega (arith, pieces_apart, first_old.2)

  apart_in_open : (first_place second_place : ℕ) (piece later_piece : Block) → new_block first_place ≡ Some piece → new_block second_place ≡ Some later_piece → shut (first_place / region_words) ≡ false → shut (second_place / region_words) ≡ false → first_place < second_place → first_place + words_of piece ≤ second_place
  apart_in_open first_place second_place piece later_piece has_first has_second open_p open_q first_before =
      let first_source = came_there first_place piece has_first open_p in
      let second_source = came_there second_place later_piece has_second open_q in
      ⊎_elim
      (λ (source_before : first_source.0 < second_source.0). let places_apart = stays_apart region_words shut kept lie first_source.0 second_source.0 first_source.2 second_source.2 source_before in omega (arith, places_apart, first_source.4, second_source.4, first_source.5))
      (λ (second_least : second_source.0 ≤ first_source.0). ⊎_elim
      (λ (later : second_source.0 < first_source.0). let places_apart = stays_apart region_words shut kept lie second_source.0 first_source.0 second_source.2 first_source.2 later in absurd (omega (arith, places_apart, first_source.4, second_source.4, first_before)))
      (λ (first_least : first_source.0 ≤ second_source.0).
      let same_source : first_source.0 ≡ second_source.0 = omega (arith, second_least, first_least) in
      let same_place : place first_source.0 ≡ place second_source.0 = ap place same_source in
      absurd (omega (arith, same_place, first_source.4, second_source.4, first_before)))
      (cases_lt second_source.0 first_source.0))
      (cases_lt first_source.0 second_source.0)

  apart : (address later_address : ℕ) (piece later_piece : Block) → new_block address ≡ Some piece → new_block later_address ≡ Some later_piece → address < later_address → address + words_of piece ≤ later_address
  apart address later_address piece later_piece has_first has_second first_before =
      let first_use = in_use address piece has_first in
      let second_use = in_use later_address later_piece has_second in
      let most_a = tops_within first_use.region first_use.within in
      let most_b = tops_within second_use.region second_use.within in
      ⊎_elim
      (λ (region_before : first_use.region < second_use.region). let pieces_apart = behind config first_use.region second_use.region region_before in omega (arith, pieces_apart, first_use.to_top, most_a, second_use.from_base))
      (λ (second_least : second_use.region ≤ first_use.region). ⊎_elim
      (λ (later : second_use.region < first_use.region). let pieces_apart = behind config second_use.region first_use.region later in absurd (omega (arith, pieces_apart, second_use.to_top, most_b, first_use.from_base, first_before)))
      (λ (first_least : first_use.region ≤ second_use.region).
      let same_row : address / region_words ≡ later_address / region_words = omega (arith, second_least, first_least, row_of_piece address piece has_first, row_of_piece later_address later_piece has_second) in
      ⊎_elim
      (λ (region_closed : shut (later_address / region_words) ≡ true). apart_in_shut address later_address piece later_piece has_first has_second (ap shut same_row ∙ region_closed) region_closed first_before)
      (λ (region_open : shut (later_address / region_words) ≡ false). apart_in_open address later_address piece later_piece has_first has_second (ap shut same_row ∙ region_open) region_open first_before)
      (cases_Bool (shut (later_address / region_words))))
      (cases_lt second_use.region first_use.region))
      (cases_lt first_use.region second_use.region)

  pub slid_is_plotted : IsPlotted config new_top new_block
  slid_is_plotted = record { tops = tops_within; in_use = in_use; apart = apart }

  -- where a kept object is placed, a piece stands
  some_at : (address new_address : ℕ) → 0 < kept address → place address ≡ new_address → (piece : Block) × (new_block new_address ≡ Some piece)
  some_at address new_address some_kept placed =
      let piece = can_pack.things address some_kept in
      let same_piece : new_block new_address ≡ block address = ap new_block (sym placed) ∙ origins.block_at config top heap block object now kept can_pack shut address some_kept in
      (thing piece.0 piece.1 piece.2, same_piece ∙ piece.3)

  -- where a piece of a shut region stood, one stands
  still_at : (address : ℕ) (piece : Block) → shut (address / region_words) ≡ true → block address ≡ Some piece → (new_piece : Block) × (new_block address ≡ Some new_piece)
  still_at = origins.block_stays config top heap block object now kept can_pack shut

  first : (region : ℕ) → region < config.regions → 0 < new_top region → (piece : Block) × (new_block (base_of config region) ≡ Some piece)
  first region region_below some_top = ⊎_elim
      (λ (region_closed : shut (region + 1) ≡ true).
      let old = parsed.filled.first region region_below (omega (arith, some_top, shut_top region region_closed)) in
      let row = row_is region_words region (base_of config region) (omega arith) (omega (arith, config.in_range.least_words)) in
      still_at (base_of config region) old.0 (ap shut row ∙ region_closed) old.1)
      (λ (region_open : shut (region + 1) ≡ false).
      let first_placed = first_is_at_base region_words shut kept lie region (heap_end config) (omega (arith, some_top, open_top region region_open)) in
      some_at first_placed.0 (base_of config region) (is_open region_words shut kept first_placed.0 first_placed.1.1).0 first_placed.1.2)
      (cases_Bool (shut (region + 1)))

  next : (region address : ℕ) (piece : Block) → region < config.regions → base_of config region ≤ address → new_block address ≡ Some piece → address + words_of piece < base_of config region + new_top region → (next_piece : Block) × (new_block (address + words_of piece) ≡ Some next_piece)
  next region address piece region_below base_below has_piece next_below =
      let top_at_most = tops_within region region_below in
      let row = row_is region_words region address base_below (omega (arith, next_below, top_at_most)) in
      ⊎_elim
      (λ (region_closed : shut (region + 1) ≡ true).
      let old = was_there address piece has_piece (ap shut row ∙ region_closed) in
      let later = parsed.filled.next region address old.0 region_below base_below old.1 (omega (arith, next_below, old.2, shut_top region region_closed)) in
      let same_sum : address + words_of old.0 ≡ address + words_of piece = omega (arith, old.2) in
      let behind_row = row_is region_words region (address + words_of piece) (omega (arith, base_below)) (omega (arith, next_below, top_at_most)) in
      still_at (address + words_of piece) later.0 (ap shut behind_row ∙ region_closed) (ap block (sym same_sum) ∙ later.1))
      (λ (region_open : shut (region + 1) ≡ false).
      let source = came_there address piece has_piece (ap shut row ∙ region_open) in
      let counts = open_same region_words shut kept source.0 source.2 in
      let next_source = next_is_behind region_words shut kept lie region source.0 (heap_end config) source.3 (omega (arith, counts, source.1)) (ap (λ that_address. that_address / region_words) source.4 ∙ row) (omega (arith, next_below, source.4, source.5, open_top region region_open)) in
      some_at next_source.0 (address + words_of piece) (is_open region_words shut kept next_source.0 next_source.1.1).0 (omega (arith, next_source.1.2, source.4, source.5)))
      (cases_Bool (shut (region + 1)))

  pub slid_is_filled : IsFilled config new_top new_block
  slid_is_filled = record { first = first; next = next }
