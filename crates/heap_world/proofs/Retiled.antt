-- A stretch of a region is divided anew: it begins and ends where pieces do, and other pieces fill it; all other pieces stay.
use Rattle.std.proofs.Common.{◌≡◌, ◌≢◌, ℕ, ◌+◌, ◌<◌, ◌≤◌, ◌⊎◌, Some, None, inl, inr, ⊎_elim, sym, ap, ◌∙◌, subst, arith}
use Rattle.std.specs.Prelude.{nat_lt, if◌then◌else◌}
use Rattle.std.proofs.lemmas.Bool.{cases_lt, cases_order, cond-true, cond-false, lt-ltb, le-ltb}
use Rattle.std.proofs.lemmas.Option.{none-some}
use Rattle.heap_words.specs.declared.config.Config.{Config}
use Rattle.regions.specs.Place.{base_of, region_with, IsOf}
use Rattle.regions.proofs.PlaceLemmas.{regions_tile}
use Rattle.heap_world.specs.World.{Block, words_of, Plot, IsPlotted, IsFilled, IsYoung}
use Rattle.heap_world.proofs.FunctionUpdates.{updated, updated_same, updated_there, updated_else}
use Rattle.heap_world.proofs.Pieces.{behind, piece_cases}

-- Pieces fill so many words from an address on, one after another, and stand nowhere else.
pub record IsTiling (new : Plot) (a words : ℕ) : Type 0 where
  pub some : (x : ℕ) (piece : Block) → new x ≡ Some piece → 1 ≤ words_of piece
  pub from : (x : ℕ) (piece : Block) → new x ≡ Some piece → a ≤ x
  pub to : (x : ℕ) (piece : Block) → new x ≡ Some piece → x + words_of piece ≤ a + words
  pub apart : (x y : ℕ) (piece other_piece : Block) → new x ≡ Some piece → new y ≡ Some other_piece → x < y → x + words_of piece ≤ y
  pub first : (piece : Block) × (new a ≡ Some piece)
  pub next : (x : ℕ) (piece : Block) → new x ≡ Some piece → x + words_of piece < a + words → (other_piece : Block) × (new (x + words_of piece) ≡ Some other_piece)

-- one piece at an address, and no other
abbrev pub one_at : ℕ → Block → Plot
one_at start piece = updated (λ b. None) start (Some piece)

-- two pieces from an address on, one behind the other
abbrev pub two_at : ℕ → Block → Block → Plot
two_at start piece next_piece = updated (one_at start piece) (start + words_of piece) (Some next_piece)

-- a piece of one is that one
pub only_one : (start : ℕ) (piece : Block) (address : ℕ) (found_piece : Block) → one_at start piece address ≡ Some found_piece → (address ≡ start) × (piece ≡ found_piece)
only_one start piece address found_piece piece_there = ⊎_elim (λ at_start. at_start) (λ (address_elsewhere : (address ≢ start) × (None ≡ Some found_piece)). absurd (none-some found_piece address_elsewhere.1)) (piece_cases (λ k. None) start piece address found_piece piece_there)

-- one piece fills its own words
pub one_tile : (start : ℕ) (piece : Block) → 1 ≤ words_of piece → IsTiling (one_at start piece) start (words_of piece)
one_tile start piece has_words = record {
  some = λ address found_piece piece_there. let first_same = only_one start piece address found_piece piece_there in let same_words : words_of piece ≡ words_of found_piece = ap words_of first_same.1 in omega (arith, same_words, has_words);
  from = λ address found_piece piece_there. let first_same = only_one start piece address found_piece piece_there in let same_address = first_same.0 in omega (arith, same_address);
  to = λ address found_piece piece_there. let first_same = only_one start piece address found_piece piece_there in let same_address = first_same.0 in let same_words : words_of piece ≡ words_of found_piece = ap words_of first_same.1 in omega (arith, same_address, same_words);
  apart = λ first_address second_address found_piece second_piece first_there second_there before. let first_same = (only_one start piece first_address found_piece first_there).0 in let second_same = (only_one start piece second_address second_piece second_there).0 in absurd (omega (arith, first_same, second_same, before));
  first = (piece, updated_there (λ first_address. None) start (Some piece));
  next = λ address found_piece piece_there end_below. let first_same = only_one start piece address found_piece piece_there in let same_address = first_same.0 in let same_words : words_of piece ≡ words_of found_piece = ap words_of first_same.1 in absurd (omega (arith, same_address, same_words, end_below));
}

-- a piece of two is one of them
pub one_of_two : (start : ℕ) (first_piece second_piece : Block) (address : ℕ) (found_piece : Block) → two_at start first_piece second_piece address ≡ Some found_piece → ((address ≡ start) × (words_of found_piece ≡ words_of first_piece)) ⊎ ((address ≡ start + words_of first_piece) × (words_of found_piece ≡ words_of second_piece))
one_of_two start piece next_piece address found_piece piece_there = ⊎_elim
    (λ (at_next : (address ≡ start + words_of piece) × (next_piece ≡ found_piece)). inr (at_next.0, ap words_of (sym at_next.1)))
    (λ (not_first : (address ≢ start + words_of piece) × (one_at start piece address ≡ Some found_piece)). let only_there = only_one start piece address found_piece not_first.1 in inl (only_there.0, ap words_of (sym only_there.1)))
    (piece_cases (one_at start piece) (start + words_of piece) next_piece address found_piece piece_there)

-- two pieces fill their words
pub two_tiles : (start : ℕ) (piece next_piece : Block) → 1 ≤ words_of piece → 1 ≤ words_of next_piece → IsTiling (two_at start piece next_piece) start (words_of piece + words_of next_piece)
two_tiles start piece next_piece has_words next_positive = record {
  some = λ address found_piece piece_there. let first_place = one_of_two start piece next_piece address found_piece piece_there in omega (arith, first_place, has_words, next_positive);
  from = λ address found_piece piece_there. let first_place = one_of_two start piece next_piece address found_piece piece_there in omega (arith, first_place);
  to = λ address found_piece piece_there. let first_place = one_of_two start piece next_piece address found_piece piece_there in omega (arith, first_place);
  apart = λ address other_address found_piece second_piece first_there second_there before. let first_place = one_of_two start piece next_piece address found_piece first_there in let second_place = one_of_two start piece next_piece other_address second_piece second_there in omega (arith, first_place, second_place, before);
  first = (piece, updated_else (one_at start piece) (start + words_of piece) (Some next_piece) start (omega (arith, has_words)) ∙ updated_there (λ b. None) start (Some piece));
  next = λ address found_piece piece_there end_below. ⊎_elim
      (λ (at_first : (address ≡ start) × (words_of found_piece ≡ words_of piece)). (next_piece, updated_same (one_at start piece) (start + words_of piece) (Some next_piece) (address + words_of found_piece) (let first_place = at_first.0 in let same_words = at_first.1 in omega (arith, first_place, same_words))))
      (λ (at_last : (address ≡ start + words_of piece) × (words_of found_piece ≡ words_of next_piece)). let first_place = at_last.0 in let same_words = at_last.1 in absurd (omega (arith, first_place, same_words, end_below)))
      (one_of_two start piece next_piece address found_piece piece_there);
}

-- So many words from an address on lie in the part in use of one region, and begin and end where pieces do.
pub record IsStretch (config : Config) (top : ℕ → ℕ) (block : Plot) (address words : ℕ) : Type 0 where
  pub region : ℕ
  pub within : region < config.regions
  pub from_base : base_of config region ≤ address
  pub to_top : address + words ≤ base_of config region + top region
  pub some : 1 ≤ words
  pub first : Block
  pub begins : block address ≡ Some first
  pub last_at : ℕ
  pub last_from : address ≤ last_at
  pub last : Block
  pub ends : block last_at ≡ Some last
  pub ends_there : last_at + words_of last ≡ address + words

-- the plot with other pieces in a stretch
abbrev pub retiled : Plot → Plot → ℕ → ℕ → Plot
retiled block new start words address = if nat_lt address start then block address else (if nat_lt address (start + words) then new address else block address)

module _ (block new : Plot) (start words : ℕ) where
  -- before the stretch pieces stay
  pub retiled_before : (address : ℕ) → address < start → retiled block new start words address ≡ block address
  retiled_before address address_before = cond-true (nat_lt address start) _ _ (lt-ltb address start address_before)

  -- in it there are the new ones
  pub retiled_inside : (address : ℕ) → start ≤ address → address < start + words → retiled block new start words address ≡ new address
  retiled_inside address at_most below_end = cond-false (nat_lt address start) _ _ (le-ltb address start at_most) ∙ cond-true (nat_lt address (start + words)) _ _ (lt-ltb address (start + words) below_end)

  -- behind it they stay
  pub retiled_behind : (address : ℕ) → start + words ≤ address → retiled block new start words address ≡ block address
  retiled_behind address at_most = cond-false (nat_lt address start) _ _ (le-ltb address start (omega (arith, at_most))) ∙ cond-false (nat_lt address (start + words)) _ _ (le-ltb address (start + words) at_most)

  -- a piece is an old one elsewhere, or a new one in the stretch
  pub retiled_cases : (address : ℕ) (piece : Block) → retiled block new start words address ≡ Some piece
      → (((address < start) ⊎ (start + words ≤ address)) × (block address ≡ Some piece)) ⊎ ((start ≤ address) × (address < start + words) × (new address ≡ Some piece))
  retiled_cases address piece piece_there = ⊎_elim
      (λ (address_before : address < start). inl (inl address_before, sym (retiled_before address address_before) ∙ piece_there))
      (λ (from : start ≤ address). ⊎_elim
      (λ (before_end : address < start + words). inr (from, before_end, sym (retiled_inside address from before_end) ∙ piece_there))
      (λ (behind : start + words ≤ address). inl (inr behind, sym (retiled_behind address behind) ∙ piece_there))
      (cases_lt address (start + words)))
      (cases_lt address start)

  -- a piece elsewhere stays
  pub retiled_else : (address : ℕ) → (address < start) ⊎ (start + words ≤ address) → retiled block new start words address ≡ block address
  retiled_else address away = ⊎_elim (λ before. retiled_before address before) (λ behind. retiled_behind address behind) away

module _ (config : Config) (top : ℕ → ℕ) (block new : Plot) (address words : ℕ) (plotted : IsPlotted config top block) (stretch : IsStretch config top block address words) (tiling : IsTiling new address words) where
  -- the plot with the new pieces
  abbrev after : Plot
  after = retiled block new address words

  -- a new piece stands in the stretch
  pub new_there : (place : ℕ) (piece : Block) → new place ≡ Some piece → after place ≡ Some piece
  new_there place piece new_piece =
      let from = tiling.from place piece new_piece in
      let ends_inside = tiling.to place piece new_piece in
      let has_words = tiling.some place piece new_piece in
      retiled_inside block new address words place from (omega (arith, ends_inside, has_words)) ∙ new_piece

  -- an old piece before the stretch ends before it
  before_it : (place : ℕ) (piece : Block) → block place ≡ Some piece → place < address → place + words_of piece ≤ address
  before_it place piece old_piece place_before = plotted.apart place address piece stretch.first old_piece stretch.begins place_before

  -- pieces lie where they should
  pub plotted_again : IsPlotted config top after
  plotted_again = record {
    tops = plotted.tops;
    in_use = λ other_address found_piece piece_there. ⊎_elim
        (λ (old : ((other_address < address) ⊎ (address + words ≤ other_address)) × (block other_address ≡ Some found_piece)). plotted.in_use other_address found_piece old.1)
        (λ (new_inside : (address ≤ other_address) × (other_address < address + words) × (new other_address ≡ Some found_piece)).
        let ends_inside = tiling.to other_address found_piece new_inside.2 in
        record { region = stretch.region; within = stretch.within; from_base = (let from = new_inside.0 in let base = stretch.from_base in omega (arith, from, base)); to_top = (let top_is = stretch.to_top in omega (arith, ends_inside, top_is)) })
        (retiled_cases block new address words other_address found_piece piece_there);
    apart = λ other_address second_address piece second_piece first_there second_there in_order. ⊎_elim
        (λ (old_b : ((other_address < address) ⊎ (address + words ≤ other_address)) × (block other_address ≡ Some piece)). ⊎_elim
        (λ (old_d : ((second_address < address) ⊎ (address + words ≤ second_address)) × (block second_address ≡ Some second_piece)). plotted.apart other_address second_address piece second_piece old_b.1 old_d.1 in_order)
        (λ (new_d : (address ≤ second_address) × (second_address < address + words) × (new second_address ≡ Some second_piece)).
        ⊎_elim
        (λ (address_before : other_address < address). let ends_before = before_it other_address piece old_b.1 address_before in let from = new_d.0 in omega (arith, ends_before, from))
        (λ (behind : address + words ≤ other_address). let ends_inside = new_d.1 in absurd (omega (arith, behind, ends_inside, in_order)))
        old_b.0)
        (retiled_cases block new address words second_address second_piece second_there))
        (λ (new_b : (address ≤ other_address) × (other_address < address + words) × (new other_address ≡ Some piece)). ⊎_elim
        (λ (old_d : ((second_address < address) ⊎ (address + words ≤ second_address)) × (block second_address ≡ Some second_piece)).
        let from = new_b.0 in
        let ends_inside = tiling.to other_address piece new_b.2 in
        let away = old_d.0 in
        omega (arith, from, ends_inside, away, in_order))
        (λ (new_d : (address ≤ second_address) × (second_address < address + words) × (new second_address ≡ Some second_piece)). tiling.apart other_address second_address piece second_piece new_b.2 new_d.2 in_order)
        (retiled_cases block new address words second_address second_piece second_there))
        (retiled_cases block new address words other_address piece first_there);
  }

  -- no region begins in the stretch but at its first word
  base_away : (region : ℕ) → region < config.regions → (base_of config region ≡ address) ⊎ ((base_of config region < address) ⊎ (address + words ≤ base_of config region))
  base_away region region_below =
      let top_low = plotted.tops stretch.region stretch.within in
      let base = stretch.from_base in
      let stretch_below_top = stretch.to_top in
      let stretch_some = stretch.some in
      ⊎_elim
      (λ (same_region : region ≡ stretch.region).
      let same_base : base_of config region ≡ base_of config stretch.region = ap (base_of config) same_region in
      ⊎_elim (λ at_start. inl at_start) (λ order. ⊎_elim (λ is_below. inr (inl is_below)) (λ is_above. absurd (omega (arith, base, same_base, is_above))) order) (cases_order (base_of config region) address))
      (λ order. ⊎_elim
      (λ (is_below : region < stretch.region). let region_far = behind config region stretch.region is_below in let enough_words = config.in_range.least_words in inr (inl (omega (arith, region_far, base, enough_words))))
      (λ (is_above : stretch.region < region). let region_far = behind config stretch.region region is_above in inr (inr (omega (arith, region_far, stretch_below_top, top_low))))
      order)
      (cases_order region stretch.region)

  -- where there was a piece outside the stretch or at its first word, there is one
  still_some : (place : ℕ) → (place ≡ address) ⊎ ((place < address) ⊎ (address + words ≤ place)) → (piece : Block) × (block place ≡ Some piece) → (piece : Block) × (after place ≡ Some piece)
  still_some place away old_piece = ⊎_elim
      (λ (at_start : place ≡ address). (tiling.first.0, ap after at_start ∙ new_there address tiling.first.0 tiling.first.1))
      (λ elsewhere. (old_piece.0, retiled_else block new address words place elsewhere ∙ old_piece.1))
      away

  -- pieces fill the parts in use
  pub filled_again : IsFilled config top block → IsFilled config top after
  filled_again filled = record {
    first = λ region inside used. still_some (base_of config region) (base_away region inside) (filled.first region inside used);
    next = λ region other_address piece inside from piece_there next_below. ⊎_elim
        (λ (old : ((other_address < address) ⊎ (address + words ≤ other_address)) × (block other_address ≡ Some piece)).
        still_some (other_address + words_of piece)
        (⊎_elim
        (λ (address_before : other_address < address). let ends_before = before_it other_address piece old.1 address_before in
        ⊎_elim (λ (end_before : other_address + words_of piece < address). inr (inl end_before)) (λ (end_reaches : address ≤ other_address + words_of piece). inl (omega (arith, ends_before, end_reaches))) (cases_lt (other_address + words_of piece) address))
        (λ (behind : address + words ≤ other_address). inr (inr (omega (arith, behind))))
        old.0)
        (filled.next region other_address piece inside from old.1 next_below))
        (λ (now : (address ≤ other_address) × (other_address < address + words) × (new other_address ≡ Some piece)).
        let ends_inside = tiling.to other_address piece now.2 in
        ⊎_elim
        (λ (end_before : other_address + words_of piece < address + words). let next_inside = tiling.next other_address piece now.2 end_before in (next_inside.0, new_there (other_address + words_of piece) next_inside.0 next_inside.1))
        (λ (end_reaches : address + words ≤ other_address + words_of piece).
        let same_end : other_address + words_of piece ≡ stretch.last_at + words_of stretch.last = (let stretch_ends = stretch.ends_there in omega (arith, ends_inside, end_reaches, stretch_ends)) in
        still_some (other_address + words_of piece) (inr (inr end_reaches))
        (subst (λ address. (other_piece : Block) × (block address ≡ Some other_piece)) (sym same_end) (filled.next region stretch.last_at stretch.last inside (last_of region inside other_address piece now from next_below) stretch.ends (subst (λ any_address. any_address < base_of config region + top region) same_end next_below))))
        (cases_lt (other_address + words_of piece) (address + words)))
        (retiled_cases block new address words other_address piece piece_there);
  }
    where
      -- the piece with which the stretch ends lies in the region of the stretch
      last_of : (region : ℕ) → region < config.regions → (place : ℕ) (piece : Block) → (address ≤ place) × (place < address + words) × (new place ≡ Some piece) → base_of config region ≤ place → place + words_of piece < base_of config region + top region → base_of config region ≤ stretch.last_at
      last_of region given_region_below place piece new_inside from end_below =
          let top_low = plotted.tops stretch.region stretch.within in
          let base = stretch.from_base in
          let stretch_below_top = stretch.to_top in
          let in_stretch = new_inside.1 in
          let tops = plotted.tops region given_region_below in
          let from_last = stretch.last_from in
          ⊎_elim
          (λ (same_region : region ≡ stretch.region). let same_base : base_of config region ≡ base_of config stretch.region = ap (base_of config) same_region in omega (arith, base, same_base, from_last))
          (λ region_order. absurd (⊎_elim
          (λ (region_below : region < stretch.region). let region_far = behind config region stretch.region region_below in let from_a = new_inside.0 in omega (arith, region_far, base, tops, end_below, from_a))
          (λ (region_above : stretch.region < region). let region_far = behind config stretch.region region region_above in omega (arith, region_far, stretch_below_top, top_low, from, in_stretch))
          region_order))
          (cases_order region stretch.region)

-- what lies behind a young address of its region is young
pub young_behind : (config : Config) (start : ℕ → ℕ) (region address later_address : ℕ) → IsOf config region address → IsOf config region later_address → address ≤ later_address → IsYoung config start address → IsYoung config start later_address
young_behind config start region address later_address of_a of_b in_order young =
    let first_region : region_with config address ≡ region = regions_tile.of_no_other config region address of_a in
    let later_region : region_with config later_address ≡ region = regions_tile.of_no_other config region later_address of_b in
    let start_before : base_of config region + start region ≤ address = subst (λ any_region. base_of config any_region + start any_region ≤ address) first_region young in
    subst (λ any_region. base_of config any_region + start any_region ≤ later_address) (sym later_region) (omega (arith, start_before, in_order))
