-- A full collection leaves the objects of pinned regions where they are.
use Rattle.std.proofs.Common.{◌≡◌, ◌≢◌, ℕ, ◌+◌, ◌-◌, ◌/◌, ◌<◌, ◌≤◌, ◌==◌, ◌&&◌, not, true, false, Option, Some, ⊎_elim, refl, sym, ap, ◌∙◌, arith}
use Rattle.std.proofs.lemmas.Bool.{cond-true, cond-false, cases_eq, and_right, and_left, ne_eqb}
use Rattle.std.proofs.Math.Logic.{∥∥₁_elim}
use Rattle.std.proofs.Math.Nat.{ℕ_set}
use Rattle.heap_words.specs.declared.config.Config.{Config}
use Rattle.heap_words.specs.Ranges.{seat_count}
use Rattle.heap_words.specs.Words.{Word, Top, Heap, Pin}
use Rattle.heap_words.specs.Encoding.{plain_header, filler_header, object_words}
use Rattle.regions.specs.Place.{base_of, region_with}
use Rattle.regions.specs.Walk.{is_filler, start_of}
use Rattle.regions.proofs.PlaceLemmas.{regions_tile}
use Rattle.shen_graph.specs.Graph.{Graph}
use Rattle.heap_world.specs.World.{thing, Plot}
use Rattle.image_graph.specs.LetGo.{let_go}
use Rattle.image_graph.proofs.Elsewhere.{let_go_same}
use Rattle.image_graph.specs.Pinned.{is_pinned, is_row_pinned, is_in_use, object_of, begins}
use Rattle.image_graph.specs.Plot.{packed_top}
use Rattle.image_graph.specs.Full.{kept_in, is_unkept, made_in, refused, packed, packed_in, full_from, full}
use Rattle.image_graph.specs.Promised.{Promises}
use Rattle.image_graph.proofs.Still.{full_still}
use Rattle.image_graph.specs.Buffers.{HasNoMoreSeats}
use Rattle.image_graph.specs.Holds.{HoldsBy, HoldsSized}
use Rattle.image_graph.proofs.Loosening.AllLetGo.{HasLetGo, has_let_go}
use Rattle.full_cycle.specs.Collect.{CanCollect, HoldsWalked}
use Rattle.full_cycle.specs.Result.{PinnedStay}
use Rattle.full_cycle.proofs.Kept.{kept_is}
use Rattle.full_cycle.proofs.Shut.{shut_pinned}
use Rattle.image_graph.proofs.PinnedRows.{row_pinned}
use Rattle.image_graph.proofs.Rows.{row_is}
use Rattle.full_cycle.proofs.Holding.{can_collect_some, kept_begin_some}
use Rattle.full_cycle.proofs.Result.{reachable_kept}
use Rattle.image_graph.proofs.SameRegion.{own_region}
use Rattle.full_cycle.proofs.Stays.{BeginsThere, KeptBegin, moved, owner, kept_size, kept_header, kept_shape, kept_name}
use Rattle.full_cycle.proofs.Below.{full_below}

module _ (config : Config) (memory : Word → ℕ) (can_collect : CanCollect config memory) (begin : KeptBegin config memory) (region : ℕ) (inside : region < config.regions) (pinned : is_pinned config memory region ≡ true) where
  abbrev base : ℕ
  base = base_of config region

  abbrev kept : ℕ → ℕ
  kept = kept_in config memory

  -- the top of a pinned region stays
  pub top_stays : packed_in config memory (Top region) ≡ memory (Top region)
  unfolding packed
  top_stays = cond-true (is_row_pinned config memory (region + 1)) (memory (Top region)) (packed_top config (is_row_pinned config memory) kept region) (row_pinned config memory region inside pinned)

  module _ (address : ℕ) (low : base ≤ address) (high : address < base + config.region_words) (some_kept : 0 < kept address) where
    is : BeginsThere config memory region address
    is = begin region address inside pinned low high some_kept

    -- each of its words is one of it
    object_is : (offset : ℕ) → offset < kept address → address + offset < base + config.region_words → object_of config memory (address + offset) ≡ address
    object_is offset offset_below word_within =
        let same_region : region_with config (address + offset) ≡ region = regions_tile.of_no_other config region (address + offset) (record { from = omega (arith, low); before = word_within }) in
        let start = owner config memory can_collect begin region inside pinned address (address + offset) low high some_kept (omega arith) (omega (arith, offset_below)) in
        ap (λ q. base_of config q + start_of (λ address. memory (Heap address)) (base_of config q) (address + offset - base_of config q)) same_region ∙ ap (λ distance. base + distance) start ∙ back low
      where
        back : base ≤ address → base + (address - base) ≡ address
        back from_base = omega (arith, from_base)

    -- so none of them is made to fill
    not_left : (offset : ℕ) → offset < kept address → address + offset < base + config.region_words → (begins config memory (address + offset) && is_unkept kept memory (address + offset)) ≡ false
    not_left offset offset_below word_within = ⊎_elim
        (λ (first_word : offset ≡ 0).
        let at_address : address + offset ≡ address = omega (arith, first_word) in
        and_right (begins config memory (address + offset)) (is_unkept kept memory (address + offset))
        (and_right (not (is_filler (memory (Heap (address + offset))))) (kept (address + offset) == 0) (ne_eqb (kept (address + offset)) 0 (λ not_kept. omega (arith, not_kept, ap kept at_address, some_kept)))))
        (λ (later : offset ≢ 0).
        and_left (begins config memory (address + offset)) (is_unkept kept memory (address + offset))
        (and_right (is_in_use config memory (address + offset)) (object_of config memory (address + offset) == address + offset) (ne_eqb (object_of config memory (address + offset)) (address + offset) (λ same_address. omega (arith, same_address, object_is offset offset_below word_within, later)))))
        (cases_eq offset 0)

    packed_word : (offset : ℕ) → offset < kept address → address + offset < base + config.region_words → packed_in config memory (Heap (address + offset)) ≡ moved config memory can_collect begin (Heap (address + offset))
    unfolding packed
    packed_word offset offset_below word_within =
        cond-false (is_row_pinned config memory (region_with config (address + offset) + 1) && (begins config memory (address + offset) && is_unkept kept memory (address + offset))) (filler_header (object_words (memory (Heap (address + offset + 1)))))
        (moved config memory can_collect begin (Heap (address + offset)))
        (and_right (is_row_pinned config memory (region_with config (address + offset) + 1)) (begins config memory (address + offset) && is_unkept kept memory (address + offset)) (not_left offset offset_below word_within))

    near_end : address + kept address ≤ base + memory (Top region)
    near_end =
        let end_below = is.below in
        let ends = (can_collect.fills region inside pinned).ends (address - base) (omega (arith, end_below, low)) is.begun in
        let size = kept_size config memory can_collect begin region inside pinned address low high some_kept in
        omega (arith, ends, size, low)

    word_stays : (offset : ℕ) → offset < kept address → full_from config memory (Heap (address + offset)) ≡ moved config memory can_collect begin (Heap (address + offset))
    word_stays offset offset_below =
        let end = near_end in
        let within = (can_collect.fills region inside pinned).within in
        let top = top_stays in
        full_below config memory region (address + offset) (omega (arith, low)) (omega (arith, end, offset_below, top)) (omega (arith, within, top)) ∙ packed_word offset offset_below (omega (arith, end, offset_below, within))

    three : 3 ≤ kept address
    three = let size = kept_is config memory address some_kept in omega (arith, size)

    pub header_stays : full_from config memory (Heap address) ≡ plain_header
    header_stays =
        let same_address : address + 0 ≡ address = omega arith in
        ap (λ address. full_from config memory (Heap address)) (sym same_address) ∙ word_stays 0 some_kept ∙ ap (λ address. moved config memory can_collect begin (Heap address)) same_address
        ∙ kept_header config memory can_collect begin region inside pinned address low high some_kept

    pub shape_stays : full_from config memory (Heap (address + 1)) ≡ memory (Heap (address + 1))
    shape_stays = let three_words = three in word_stays 1 (omega (arith, three_words)) ∙ kept_shape config memory can_collect begin region inside pinned address low high some_kept

    pub name_stays : full_from config memory (Heap (address + 2)) ≡ memory (Heap (address + 2))
    name_stays = let three_words = three in word_stays 2 (omega (arith, three_words)) ∙ kept_name config memory can_collect begin region inside pinned address low high some_kept

pin_stays : (config : Config) (memory : Word → ℕ) (mutator index : ℕ) → full_from config memory (Pin mutator index) ≡ memory (Pin mutator index)
unfolding packed made_in refused
pin_stays config memory mutator index = full_still config (Pin mutator index) (λ w u r. refl) memory (λ w. refl)

-- what is kept once buffers were let go was there before, with the same words
module _ (config : Config) (memory after : Word → ℕ) (walked : HoldsWalked config (let_go config memory)) (seats : HasNoMoreSeats config memory) (after_is : after ≡ full config memory)
    (block : Plot) (owner : ℕ → Option ℕ) (promises : Promises) (graph : Graph) (holds : HoldsBy config memory block owner promises graph) where
  abbrev gone : Word → ℕ
  gone = let_go config memory

  left : HasLetGo config memory gone block owner promises graph
  left = has_let_go config memory block owner promises graph holds seats

  can : CanCollect config gone
  can = can_collect_some config gone walked

  begin : KeptBegin config gone
  begin = kept_begin_some config gone walked

  abbrev Stays : ℕ → Type 0
  Stays address = (after (Heap address) ≡ plain_header) × (after (Heap (address + 1)) ≡ memory (Heap (address + 1))) × (after (Heap (address + 2)) ≡ memory (Heap (address + 2)))

  object_stays : (address : ℕ) → 0 < kept_in config gone address → is_row_pinned config gone (address / config.region_words) ≡ true → Stays address
  object_stays address positive shut_row =
      let region = region_with config address in
      let same_region = own_region config address (can.apart.above address positive) in
      let closed : is_row_pinned config gone (region + 1) ≡ true = ap (is_row_pinned config gone) (sym (row_is config.region_words region address same_region.0 same_region.1)) ∙ shut_row in
      let shut_here = shut_pinned config gone region closed in
      let object = (reachable_kept config gone left.plot owner promises graph left.left.holds).only address positive in
      let object_there : block address ≡ Some (thing object.0 object.1 object.2) = left.left.loosened.same.came address (thing object.0 object.1 object.2) refl object.3 in
      let word : (offset : ℕ) → offset < 3 → gone (Heap (address + offset)) ≡ memory (Heap (address + offset)) =
      λ offset few. left.left.loosened.words address offset (thing object.0 object.1 object.2) refl object_there (omega (arith, few)) in (
        ap (λ offset. offset (Heap address)) after_is ∙ header_stays config gone can begin region shut_here.0 shut_here.1 address same_region.0 same_region.1 positive,
        ap (λ offset. offset (Heap (address + 1))) after_is ∙ shape_stays config gone can begin region shut_here.0 shut_here.1 address same_region.0 same_region.1 positive ∙ word 1 (omega arith),
        ap (λ offset. offset (Heap (address + 2))) after_is ∙ name_stays config gone can begin region shut_here.0 shut_here.1 address same_region.0 same_region.1 positive ∙ word 2 (omega arith),
      )

  pinned_stay : PinnedStay config memory after
  pinned_stay = record {
    pins = λ mutator slot. ap (λ state. state (Pin mutator slot)) after_is ∙ pin_stays config gone mutator slot ∙ let_go_same (Pin mutator slot) (λ never. never) config memory (seat_count config.mutators config.helpers);
    shapes = object_stays;
    tops = λ region inside pinned. top_stays config gone can begin region inside pinned;
  }

stay_prop : (config : Config) (memory after : Word → ℕ) → IsProp (PinnedStay config memory after)
stay_prop config memory after = hlevel (ℕ_set)

pub pinned_stay_some : (config : Config) (memory after : Word → ℕ) → HoldsWalked config (let_go config memory) → HasNoMoreSeats config memory → after ≡ full config memory → HoldsSized config memory → PinnedStay config memory after
pinned_stay_some config memory after walked seats after_is holds = ∥∥₁_elim holds (stay_prop config memory after) (λ what_holds. pinned_stay config memory after walked seats after_is what_holds.1 what_holds.2 what_holds.3 what_holds.0 what_holds.4)
