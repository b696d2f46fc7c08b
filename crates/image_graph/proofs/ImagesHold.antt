-- The image after packing stands for the same graph.
use Rattle.std.proofs.Common.{◌≡◌, ◌≢◌, ℕ, ◌+◌, ◌/◌, ◌<◌, inl, inr, Bool, true, false, not, Option, List, ⊎_elim, sym, ap, ◌∙◌, arith}
use Rattle.std.specs.Prelude.{if◌then◌else◌}
use Rattle.std.proofs.lemmas.Bool.{cond-true, cond-false, cases_Bool, not_from_true, not_from_false}
use Rattle.std.proofs.lemmas.Option.{same_Some}
use Rattle.heap_words.specs.declared.config.Config.{Config}
use Rattle.heap_words.specs.Words.{Word, Top, Heap}
use Rattle.regions.specs.Places.{new_place, open_kept}
use Rattle.regions.specs.Tops.{sum_below}
use Rattle.regions.specs.SlideLaws.{tops_where}
use Rattle.regions.proofs.Placed.{new_shut}
use Rattle.regions.proofs.Sums.{sum_same}
use Rattle.regions.proofs.Tops.{tops_are_words, top_in_shut}
use Rattle.shen_graph.specs.declared.name.Name.{Name}
use Rattle.shen_graph.specs.Graph.{Graph, Object}
use Rattle.heap_world.specs.World.{Block, Plot, thing, words_of, name_at, AreObjects}
use Rattle.image_graph.specs.Held.{from_root, IsAmong, IsCopy}
use Rattle.image_graph.specs.Plot.{AreThings, heap_end, packed_block, packed_top}
use Rattle.image_graph.specs.Packing.{CanPack}
use Rattle.image_graph.specs.Full.{packed, top_then}
use Rattle.image_graph.specs.Laws.{IsBeforePacking, KeepsGraph}
use Rattle.image_graph.proofs.Reached.{can_pack, none_at_0}
use Rattle.image_graph.proofs.Origin as origins
use Rattle.image_graph.proofs.PackedPieces.{slid_is_plotted, slid_is_filled}
use Rattle.image_graph.proofs.Things.{renewed_points, slid_are_objects}
use Rattle.image_graph.proofs.PackedWords.{placed_words, fillers_say}
use Rattle.image_graph.proofs.FreeWord.{free_again}

-- the tops of open regions are together what is kept in them, whatever stands in shut ones
pub open_tops_sum : (config : Config) (memory : Word → ℕ) (block : Plot) (object : Name → Option Object) (shut : ℕ → Bool) (now kept : ℕ → ℕ)
    → CanPack config (λ region. memory (Top region)) (λ address. memory (Heap address)) block object now kept
    → tops_where (λ region. not (shut (region + 1))) (λ region. packed config shut now kept memory (Top region)) config.regions ≡ sum_below (open_kept config.region_words shut kept) (heap_end config)
unfolding packed
open_tops_sum config memory block object shut now kept packable =
    let top : ℕ → ℕ = λ region. memory (Top region) in
    let heap : ℕ → ℕ = λ any_address. memory (Heap any_address) in
    let lying_apart = origins.lie_apart config top heap block object now kept packable in
    let open_top : ℕ → ℕ = λ region. if not (shut (region + 1)) then top_then config shut kept memory region else 0 in
    let each_region : (region : ℕ) → region < config.regions → open_top region ≡ packed_top config shut kept region = λ region _. ⊎_elim
    (λ (closed : shut (region + 1) ≡ true).
    cond-false (not (shut (region + 1))) (top_then config shut kept memory region) 0 (not_from_true (shut (region + 1)) closed)
    ∙ sym (top_in_shut config.region_words shut kept lying_apart (origins.kept_low config top heap block object now kept packable) region (heap_end config) closed))
    (λ (opened : shut (region + 1) ≡ false).
    cond-true (not (shut (region + 1))) (top_then config shut kept memory region) 0 (not_from_false (shut (region + 1)) opened)
    ∙ cond-false (shut (region + 1)) (memory (Top region)) (packed_top config shut kept region) opened)
    (cases_Bool (shut (region + 1))) in
    sum_same open_top (packed_top config shut kept) config.regions each_region
    ∙ tops_are_words config.region_words shut kept lying_apart config.regions
    (λ any_address some_kept. (let inside = origins.kept_inside config top heap block object now kept packable any_address some_kept in omega (arith, inside.1, some_kept))) (heap_end config)

module _ (config : Config) (memory : Word → ℕ) (block : Plot) (graph : Graph) (shut : ℕ → Bool) (now kept : ℕ → ℕ) (roots : List ℕ) (before : IsBeforePacking config memory block graph shut now kept roots) where
  abbrev top : ℕ → ℕ
  top region = memory (Top region)

  abbrev heap : ℕ → ℕ
  heap address = memory (Heap address)

  can : CanPack config top heap block graph.object now kept
  can = can_pack config top heap block now (IsAmong roots) graph before.holds kept before.kept_are

  abbrev place : ℕ → ℕ
  place = new_place config.region_words shut kept

  abbrev new_block : Plot
  new_block = packed_block config shut kept block

  abbrev IsFrom : ℕ → Block → Type 0
  IsFrom asked_piece piece = origins.IsFrom config top heap block graph.object now kept can shut asked_piece piece

  abbrev IsLeft : ℕ → Block → Type 0
  IsLeft asked_piece piece = origins.IsLeft config top heap block graph.object now kept can shut asked_piece piece

  -- each piece is an object, or only fills
  are_things : AreThings new_block
  are_things address piece piece_there = ⊎_elim
      (λ (from : IsFrom address piece).
      let object = can.things from.0 from.1 in
      inl (object.0, object.1, object.2, same_Some piece (thing object.0 object.1 object.2) (sym from.4 ∙ object.3)))
      (λ (left_piece : IsLeft address piece). inr (words_of left_piece.0, before.parsed.some address left_piece.0 left_piece.3, sym left_piece.4))
      (origins.block_from config top heap block graph.object now kept can shut address piece piece_there)

  -- the pieces are the graph's objects
  objects_again : AreObjects (λ address. packed config shut now kept memory (Heap address)) new_block graph.object
  objects_again =
      slid_are_objects config top heap block graph.object now kept can shut (λ address. packed config shut now kept memory (Heap address))
      (placed_words config memory block graph.object now kept can shut before.parsed)

  -- what a root word leads to is kept
  led_kept : (word : ℕ) → IsAmong roots word → word ≢ 0 → 0 < kept (now word)
  led_kept word among_roots not_null = let size = before.kept_are.words (now word) (from_root word among_roots not_null) in omega (arith, size)

  -- what a root word holds in a shut region is where it was
  stays_there : (word : ℕ) (name : Name) → IsAmong roots word → now word ≡ word → shut (word / config.region_words) ≡ true → IsCopy block word name → IsCopy new_block word name
  stays_there word name among_roots current closed copy =
      let not_null = none_at_0 config top block can.plotted word name (ap name_at copy.2) in
      let size : kept (now word) ≡ kept word = ap kept current in
      let some_kept : 0 < kept word = (let led = led_kept word among_roots not_null in omega (arith, led, size)) in
      (copy.0, copy.1, ap new_block (sym (new_shut config.region_words shut kept word closed)) ∙ origins.block_at config top heap block graph.object now kept can shut word some_kept ∙ copy.2)

  pub keeps_graph : KeepsGraph config memory block graph shut now kept roots
  unfolding packed
  keeps_graph = record {
    plotted = slid_is_plotted config top heap block graph.object now kept can shut before.parsed;
    filled = slid_is_filled config top heap block graph.object now kept can shut before.parsed;
    objects = objects_again;
    root_words = λ word reference among_roots points. renewed_points config top heap block graph.object now kept can shut word reference points (led_kept word among_roots);
    stays = stays_there;
    free_word = free_again config (top_then config shut kept memory);
    things = are_things;
    fillers = fillers_say config memory block graph.object now kept can shut before.parsed;
    tops_sum = open_tops_sum config memory block graph.object shut now kept can;
  }
