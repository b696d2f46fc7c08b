-- The heap after packing: the words of kept objects in their new places, and headers of words that only fill where other objects stood.
use Rattle.std.proofs.Common.{◌≡◌, ◌≢◌, ℕ, ◌+◌, ◌/◌, ◌%◌, ◌<◌, ◌==◌, ◌&&◌, Bool, true, false, not, Option, Some, ⊎_elim, sym, ap, ◌∙◌, arith}
use Rattle.std.proofs.lemmas.Bool.{cond-true, cond-false, cases_Bool, cases_eq, and_from, and_left, and_right, eqb-true, eq-eqb, ne_eqb, not_from_true, not_from_false}
use Rattle.heap_words.specs.declared.config.Config.{Config}
use Rattle.heap_words.specs.Words.{Word, Top, Heap}
use Rattle.heap_words.specs.Encoding.{filler_header, object_words}
use Rattle.regions.specs.Place.{region_with}
use Rattle.regions.specs.Walk.{is_filler, stride_at}
use Rattle.regions.specs.Places.{new_place, LieApart}
use Rattle.regions.specs.Slide.{renewed, slid_word, slid}
use Rattle.regions.proofs.Placed.{new_shut, stays_above, stays_within, row_of_word}
use Rattle.regions.proofs.Slid.{slid_is}
use Rattle.shen_graph.specs.declared.name.Name.{Name}
use Rattle.shen_graph.specs.Graph.{Object}
use Rattle.heap_world.specs.World.{Block, thing, filler, words_of, Plot}
use Rattle.heap_world.proofs.Pointing.{piece_inside}
use Rattle.image_graph.specs.Pinned.{begins}
use Rattle.image_graph.specs.Plot.{heap_end, packed_block, AreParsed, FillersSay}
use Rattle.image_graph.specs.Packing.{CanPack}
use Rattle.image_graph.specs.Full.{is_unkept, moved_heap, packed}
use Rattle.image_graph.proofs.Rows.{row_above}
use Rattle.image_graph.proofs.WalkedPieces.{begins_piece, piece_begins}
use Rattle.image_graph.proofs.Origin as origins

module _ (config : Config) (memory : Word → ℕ) (block : Plot) (object : Name → Option Object) (now kept : ℕ → ℕ)
    (packable : CanPack config (λ any_region. memory (Top any_region)) (λ any_address. memory (Heap any_address)) block object now kept) (shut : ℕ → Bool)
    (parsed : AreParsed config shut (λ any_region. memory (Top any_region)) (λ any_address. memory (Heap any_address)) block) where
  abbrev region_words : ℕ
  region_words = config.region_words

  abbrev top : ℕ → ℕ
  top region = memory (Top region)

  abbrev heap : ℕ → ℕ
  heap address = memory (Heap address)

  abbrev place : ℕ → ℕ
  place = new_place region_words shut kept

  abbrev renew : ℕ → ℕ
  renew = renewed place now

  abbrev new_block : Plot
  new_block = packed_block config shut kept block

  abbrev after : ℕ → ℕ
  after address = packed config shut now kept memory (Heap address)

  abbrev IsFrom : ℕ → Block → Type 0
  IsFrom address piece = origins.IsFrom config top heap block object now kept packable shut address piece

  abbrev IsLeft : ℕ → Block → Type 0
  IsLeft address piece = origins.IsLeft config top heap block object now kept packable shut address piece

  abbrev lie : LieApart config.region_words kept
  lie = origins.lie_apart config top heap block object now kept packable

  kind : (address : ℕ) → 0 < kept address → shut (place address / region_words) ≡ shut (address / region_words)
  kind = origins.kind config top heap block object now kept packable shut

  -- whether an object is left over at an address
  abbrev is_left : ℕ → Bool
  is_left address = shut (region_with config address + 1) && (begins config memory address && is_unkept kept memory address)

  after_left : (address : ℕ) → is_left address ≡ true → after address ≡ filler_header (object_words (heap (address + 1)))
  unfolding packed
  after_left address met = cond-true (is_left address) (filler_header (object_words (heap (address + 1)))) (moved_heap config shut now kept memory address) met

  after_moved : (address : ℕ) → is_left address ≡ false → after address ≡ slid place kept renew heap (heap_end config) address
  unfolding packed moved_heap
  after_moved address unmet = cond-false (is_left address) (filler_header (object_words (heap (address + 1)))) (moved_heap config shut now kept memory address) unmet

  -- a word of a kept object of a shut region at which something begins is its first one
  first_word : (address offset : ℕ) → offset < kept address → shut (address / region_words) ≡ true → (piece : Block) → block (address + offset) ≡ Some piece → offset ≡ 0
  first_word address offset offset_within region_closed other_piece has_piece = ⊎_elim
      (λ (no_offset : offset ≡ 0). no_offset)
      (λ (some_offset : offset ≢ 0).
      let piece = packable.things address (omega (arith, offset_within)) in
      let pieces_apart = packable.plotted.apart address (address + offset) (thing piece.0 piece.1 piece.2) other_piece piece.3 has_piece (omega (arith, some_offset)) in
      absurd (omega (arith, pieces_apart, piece.4, offset_within)))
      (cases_eq offset 0)

  -- nothing is left over in the new place of a kept object
  left_alone : (address offset : ℕ) → offset < kept address → is_left (place address + offset) ≡ false
  left_alone address offset offset_within =
      let word_address = place address + offset in
      let some_kept : 0 < kept address = omega (arith, offset_within) in
      let place_above_base = stays_above region_words shut kept lie address some_kept in
      let row = row_above config word_address (omega (arith, place_above_base)) in
      let own_row = row_of_word region_words (place address) (kept address) word_address (stays_within region_words shut kept lie address some_kept) (omega arith) (omega (arith, offset_within)) in
      ⊎_elim
      (λ (region_closed : shut (region_with config word_address + 1) ≡ true). ⊎_elim
      (λ (met : begins config memory word_address ≡ true).
      let shut_there : shut (word_address / region_words) ≡ true = ap shut (sym row) ∙ region_closed in
      let old : shut (address / region_words) ≡ true = sym (kind address some_kept) ∙ ap shut (sym own_row) ∙ shut_there in
      let place_stays : place address ≡ address = new_shut region_words shut kept address old in
      let same_address : word_address ≡ address + offset = ap (λ place_then. place_then + offset) place_stays in
      let piece = begins_piece config shut memory block packable.plotted parsed word_address shut_there met in
      let start = first_word address offset offset_within old piece.0 (ap block (sym same_address) ∙ piece.1) in
      let same_kept : kept word_address ≡ kept address = ap kept {x = word_address} {y = address} (omega (arith, same_address, start)) in
      and_right (shut (region_with config word_address + 1)) (begins config memory word_address && is_unkept kept memory word_address)
      (and_right (begins config memory word_address) (is_unkept kept memory word_address)
      (and_right (not (is_filler (heap word_address))) (kept word_address == 0) (ne_eqb (kept word_address) 0 (λ none_kept. omega (arith, none_kept, same_kept, some_kept))))))
      (λ (unmet : begins config memory word_address ≡ false).
      and_right (shut (region_with config word_address + 1)) (begins config memory word_address && is_unkept kept memory word_address) (and_left (begins config memory word_address) (is_unkept kept memory word_address) unmet))
      (cases_Bool (begins config memory word_address)))
      (λ (region_open : shut (region_with config word_address + 1) ≡ false). and_left (shut (region_with config word_address + 1)) (begins config memory word_address && is_unkept kept memory word_address) region_open)
      (cases_Bool (shut (region_with config word_address + 1)))

  -- so these are the words of the object
  pub placed_words : (address index : ℕ) → index < kept address → after (place address + index) ≡ slid_word renew heap address index
  placed_words address index index_within =
      let source_inside = origins.kept_inside config top heap block object now kept packable address (omega (arith, index_within)) in
      after_moved (place address + index) (left_alone address index index_within)
      ∙ (slid_is place kept renew heap (origins.places config top heap block object now kept packable shut) 0 (heap_end config)).moved address index (omega (arith, source_inside.1, index_within)) index_within

  -- the first word of another piece of a shut region is in no new place
  uncovered : (address : ℕ) (piece : Block) → shut (address / region_words) ≡ true → kept address ≡ 0 → block address ≡ Some piece → slid place kept renew heap (heap_end config) address ≡ heap address
  uncovered address piece region_closed none_kept has_piece =
      (slid_is place kept renew heap (origins.places config top heap block object now kept packable shut) 0 (heap_end config)).others address (omega arith)
      (λ kept_address offset source_below offset_inside same_place.
      let some_kept : 0 < kept kept_address = omega (arith, offset_inside) in
      let own_row = row_of_word region_words (place kept_address) (kept kept_address) address (stays_within region_words shut kept lie kept_address some_kept) (omega (arith, same_place)) (omega (arith, same_place, offset_inside)) in
      let old : shut (kept_address / region_words) ≡ true = sym (kind kept_address some_kept) ∙ ap shut (sym own_row) ∙ region_closed in
      let place_stays : place kept_address ≡ kept_address = new_shut region_words shut kept kept_address old in
      let same_address : address ≡ kept_address + offset = omega (arith, same_place, place_stays) in
      let start = first_word kept_address offset offset_inside old piece (ap block (sym same_address) ∙ has_piece) in
      let same_size : kept address ≡ kept kept_address = ap kept {x = address} {y = kept_address} (omega (arith, same_address, start)) in
      omega (arith, same_size, none_kept, some_kept))

  -- words that only fill say how many they are
  left_says : (address words : ℕ) → IsLeft address (filler words) → after address ≡ filler_header words
  left_says address words left_over =
      let words_left : words_of left_over.0 ≡ words = ap words_of left_over.4 in
      let stride_words : stride_at heap address ≡ words_of left_over.0 = parsed.sized address left_over.0 left_over.3 left_over.1 in
      let row = row_above config address (piece_inside config top block packable.plotted address left_over.0 left_over.3).0 in
      let piece_begun = piece_begins config shut memory block packable.plotted parsed address left_over.0 left_over.3 left_over.1 in
      ⊎_elim
      (λ (fills : is_filler (heap address) ≡ true).
      let quotient = cond-true (is_filler (heap address)) (heap address / 4) (object_words (heap (address + 1))) fills in
      let filler_bits : heap address % 4 ≡ 2 = eqb-true (heap address % 4) 2 fills in
      let unmet : is_left address ≡ false =
      and_right (shut (region_with config address + 1)) (begins config memory address && is_unkept kept memory address)
      (and_right (begins config memory address) (is_unkept kept memory address) (and_left (not (is_filler (heap address))) (kept address == 0) (not_from_true (is_filler (heap address)) fills))) in
      let header_is : heap address ≡ filler_header words = omega (arith, quotient, filler_bits, stride_words, words_left) in
      after_moved address unmet ∙ uncovered address left_over.0 left_over.1 left_over.2 left_over.3 ∙ header_is)
      (λ (object_there : is_filler (heap address) ≡ false).
      let shape = cond-false (is_filler (heap address)) (heap address / 4) (object_words (heap (address + 1))) object_there in
      let met : is_left address ≡ true =
      and_from (shut (region_with config address + 1)) (begins config memory address && is_unkept kept memory address) (ap shut row ∙ left_over.1)
      (and_from (begins config memory address) (is_unkept kept memory address) piece_begun
      (and_from (not (is_filler (heap address))) (kept address == 0) (not_from_false (is_filler (heap address)) object_there) (eq-eqb (kept address) 0 left_over.2))) in
      after_left address met ∙ ap filler_header (sym shape ∙ stride_words ∙ words_left))
      (cases_Bool (is_filler (heap address)))

  pub fillers_say : FillersSay after new_block
  fillers_say filler_address words has_filler = ⊎_elim
      (λ (filler_from : IsFrom filler_address (filler words)).
      let piece = packable.things filler_from.0 filler_from.1 in
      let same_piece : Some (thing piece.0 piece.1 piece.2) ≡ Some (filler words) = sym piece.3 ∙ filler_from.4 in
      absurd (cc))
      (λ (filler_left : IsLeft filler_address (filler words)). left_says filler_address words filler_left)
      (origins.block_from config top heap block object now kept packable shut filler_address (filler words) has_filler)
