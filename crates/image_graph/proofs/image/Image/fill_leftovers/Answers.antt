use Rattle.std.proofs.Common.{◌≡◌, ◌+◌, ◌-◌, ◌<◌, ◌==◌, ◌&&◌, ℕ, Bool, true, false, List, refl, sym, ap, ◌∙◌, subst, arith}
use Rattle.heap_words.specs.declared.config.Config.{Config}
use Rattle.heap_words.specs.Words.{Word, Top, Heap, IsWord}
use Rattle.regions.specs.Place.{base_of}
use Rattle.regions.specs.Walk.{is_filler, stride_at, start_of}
use Rattle.image_graph.specs.Pinned.{CanFill, is_filled_from}
use Rattle.image_graph.specs.declared.leftovers.Leftover.{Leftover}
use Rattle.image_graph.specs.State.{config_of, memory_of, found_of}
use Rattle.image_graph.specs.Leftovers.{is_left_over}
use Rattle.image_graph.proofs.Room.{room_in_heap}
use Rattle.image_graph.proofs.Same.{found_same}
use Rattle.image_graph.proofs.PieceStarts.{start_first}
use Rattle.image_graph.proofs.LeftoversFilled.{filled_at, is_below, left_is_object, left_same, filled_none, filled_all, still, last_read, ends_here, goes_on, place_read, turn}
use Rattle.image_graph.proofs.image.Image.fill_leftovers.Goals as goal
use Rattle.image_graph.proofs.image.Image.fill_leftovers.Goals.{then-ends_at, else-ends_at}

-- what was found of an object is so of the words at first
module _ (first_config read_config : Config) (memory now : Word → ℕ) (found : List ℕ) (left : Leftover) (region offset : ℕ) (region_below : region < first_config.regions) (can_fill : CanFill first_config memory region) (offset_below : offset < memory (Top region))
    (same_config : read_config ≡ first_config) (words_filled : now ≡ filled_at first_config (is_below first_config region offset) (is_left_over memory found left) memory) (first_address : ℕ) (base : first_address ≡ base_of first_config region) where
  abbrev lost : ℕ → Bool
  lost = is_left_over memory found left

  objects : (address : ℕ) → lost address ≡ true → is_filler (memory (Heap address)) ≡ false
  objects = left_is_object memory found left

  abbrev memory_then : Word → ℕ
  memory_then = filled_at first_config (is_below first_config region offset) lost memory

  abbrev CanRead : Config → (Word → ℕ) → ℕ → Type 0
  CanRead config memory address = IsWord config (Heap address) × (is_filler (memory (Heap address)) ≡ false → IsWord config (Heap (address + 1)))

  inside : IsWord read_config (Heap (first_address + offset))
  inside =
      let word_inside = room_in_heap first_config region offset 1 region_below (let top_within = can_fill.within in omega (arith, offset_below, top_within)) in
      subst (λ (config : Config). IsWord config (Heap (first_address + offset))) (sym same_config) (omega (arith, word_inside.from, base), omega (arith, word_inside.to, base))

  module _ (object : ℕ) (object_is : object ≡ base_of first_config region + start_of (λ any_address. memory (Heap any_address)) (base_of first_config region) (offset - 1)) where
    first_is : CanRead read_config now object
    first_is =
        subst (λ (config : Config). CanRead config now object) (sym same_config)
        (subst (λ (memory : Word → ℕ). CanRead first_config memory object) (sym words_filled) (subst (CanRead first_config memory_then) (sym object_is) (last_read first_config memory region region_below can_fill lost objects offset offset_below)))

    test_is : (told : Bool) → told ≡ (object + stride_at (λ address. now (Heap address)) object == first_address + offset) → (object + stride_at (λ address. memory_then (Heap address)) object == base_of first_config region + offset) ≡ told
    test_is told test_told =
        ap (λ (memory : Word → ℕ). object + stride_at (λ address. memory (Heap address)) object == base_of first_config region + offset) (sym words_filled)
        ∙ ap (λ region_base. object + stride_at (λ address. now (Heap address)) object == region_base + offset) (sym base) ∙ sym test_told

    begun_here : (told : Bool) → told ≡ (object + stride_at (λ address. now (Heap address)) object == first_address + offset) → told ≡ true
        → first_address + offset ≡ base_of first_config region + start_of (λ address. memory (Heap address)) (base_of first_config region) offset
    begun_here told test_told passes = ap (λ region_base. region_base + offset) base ∙ ends_here first_config memory region region_below can_fill lost objects offset offset_below object object_is (test_is told test_told ∙ passes)

    goes_on_here : (told : Bool) → told ≡ (object + stride_at (λ address. now (Heap address)) object == first_address + offset) → told ≡ false
        → object ≡ base_of first_config region + start_of (λ address. memory (Heap address)) (base_of first_config region) offset
    goes_on_here told test_told fails = goes_on first_config memory region region_below can_fill lost objects offset offset_below object object_is (test_is told test_told ∙ fails)

  module _ (object : ℕ) (object_is : object ≡ base_of first_config region + start_of (λ any_address. memory (Heap any_address)) (base_of first_config region) offset) where
    place_is : object ≡ first_address + offset → is_filler (now (Heap (first_address + offset))) ≡ false → IsWord read_config (Heap (first_address + offset + 1))
    place_is object_here not_filler =
        let same_place : first_address + offset ≡ base_of first_config region + offset = ap (λ region_base. region_base + offset) base in
        subst (λ (config : Config). IsWord config (Heap (first_address + offset + 1))) (sym same_config)
        (subst (λ any_address. IsWord first_config (Heap (any_address + 1))) (sym same_place)
        (place_read first_config memory region region_below can_fill lost objects offset offset_below object object_is (object_here ∙ same_place) (ap (λ (memory : Word → ℕ). is_filler (memory (Heap (base_of first_config region + offset)))) (sym words_filled) ∙ ap (λ address. is_filler (now (Heap address))) (sym same_place) ∙ not_filler)))

    turn_is : (seen : List ℕ) → seen ≡ found → is_filled_from read_config (λ any_address. (object == any_address) && is_left_over now seen left any_address) (first_address + offset) now ≡ filled_at first_config (is_below first_config region (offset + 1)) lost memory
    turn_is seen seen_same =
        let same_place : first_address + offset ≡ base_of first_config region + offset = ap (λ place_found. place_found + offset) base in
        ap (λ (config : Config). is_filled_from config (λ any_address. (object == any_address) && is_left_over now seen left any_address) (first_address + offset) now) same_config
        ∙ ap (λ address. is_filled_from first_config (λ place_found. (object == place_found) && is_left_over now seen left place_found) address now) same_place
        ∙ ap (λ (memory : Word → ℕ). is_filled_from first_config (λ place_found. (object == place_found) && is_left_over memory seen left place_found) (base_of first_config region + offset) memory) words_filled
        ∙ ap (λ (list : List ℕ). is_filled_from first_config (λ place_found. (object == place_found) && is_left_over memory_then list left place_found) (base_of first_config region + offset) memory_then) seen_same
        ∙ turn first_config memory region region_below can_fill lost objects offset offset_below object object_is (is_left_over memory_then found left) (left_same memory memory_then found left (base_of first_config region + offset) (still first_config memory region region_below can_fill lost objects offset (base_of first_config region + offset) (omega arith)))

pub loop-offset-init : goal.loop-offset-init
loop-offset-init c =
    let config = config_of c.args.self.now in
    let memory : Word → ℕ = memory_of c.args.self.now in
    let found_words = found_of c.args.self.now in
    let region = c.args.region in
    record {
      config = refl;
      places = refl;
      found = refl;
      marks = refl;
      words = filled_none config memory region c.requires.region c.requires.can (is_left_over memory found_words c.args.left) (left_is_object memory found_words c.args.left);
      object = c.base-first.ensures
          ∙ (let starts_first = start_first (λ address. memory (Heap address)) (base_of config region) in let base_is : base_of config region ≡ base_of config region + start_of (λ address. memory (Heap address)) (base_of config region) 0 = omega (arith, starts_first) in base_is);
    }

pub ends_at-requires-clause-header : goal.ends_at-requires-clause-header
ends_at-requires-clause-header c =
    let config = config_of c.args.self.now in
    let memory : Word → ℕ = memory_of c.args.self.now in
    let so_far = c.loop-offset.invariant in
    (first_is config (config_of c.loop-offset.self) memory (memory_of c.loop-offset.self) (found_of c.args.self.now) c.args.left c.args.region c.loop-offset.offset c.requires.region c.requires.can
    (omega (arith, c.loop-offset-test.true, c.top-top.ensures)) so_far.config so_far.words c.base-first.result c.base-first.ensures c.loop-offset.object so_far.object).0

pub ends_at-requires-clause-shape : goal.ends_at-requires-clause-shape
ends_at-requires-clause-shape c =
    let config = config_of c.args.self.now in
    let memory : Word → ℕ = memory_of c.args.self.now in
    let so_far = c.loop-offset.invariant in
    (first_is config (config_of c.loop-offset.self) memory (memory_of c.loop-offset.self) (found_of c.args.self.now) c.args.left c.args.region c.loop-offset.offset c.requires.region c.requires.can
    (omega (arith, c.loop-offset-test.true, c.top-top.ensures)) so_far.config so_far.words c.base-first.result c.base-first.ensures c.loop-offset.object so_far.object).1

pub fill_if_left-requires-clause-inside : goal.fill_if_left-requires-clause-inside
fill_if_left-requires-clause-inside c =
    let config = config_of c.args.self.now in
    let memory : Word → ℕ = memory_of c.args.self.now in
    let so_far = c.loop-offset.invariant in
    inside config (config_of c.loop-offset.self) memory (memory_of c.loop-offset.self) (found_of c.args.self.now) c.args.left c.args.region c.loop-offset.offset c.requires.region c.requires.can
    (omega (arith, c.loop-offset-test.true, c.top-top.ensures)) so_far.config so_far.words c.base-first.result c.base-first.ensures

pub fill_if_left-requires-clause-shape : goal.fill_if_left-requires-clause-shape
fill_if_left-requires-clause-shape c =
    let config = config_of c.args.self.now in
    let memory : Word → ℕ = memory_of c.args.self.now in
    let found_words = found_of c.args.self.now in
    let region = c.args.region in
    let offset = c.loop-offset.offset in
    let image_now = c.loop-offset.self in
    let so_far = c.loop-offset.invariant in
    let offset_below : offset < memory (Top region) = omega (arith, c.loop-offset-test.true, c.top-top.ensures) in
    place_is config (config_of image_now) memory (memory_of image_now) found_words c.args.left region offset c.requires.region c.requires.can offset_below so_far.config so_far.words c.base-first.result c.base-first.ensures c.if-ends_at.object
    (elim c.if-ends_at.branch [
      | then-ends_at w ↦ w.object-is ∙ begun_here config (config_of image_now) memory (memory_of image_now) found_words c.args.left region offset c.requires.region c.requires.can offset_below so_far.config so_far.words c.base-first.result c.base-first.ensures
          c.loop-offset.object so_far.object c.ends_at.result c.ends_at.ensures w.if-ends_at.true
      | else-ends_at w ↦ w.object-is ∙ goes_on_here config (config_of image_now) memory (memory_of image_now) found_words c.args.left region offset c.requires.region c.requires.can offset_below so_far.config so_far.words c.base-first.result c.base-first.ensures
          c.loop-offset.object so_far.object c.ends_at.result c.ends_at.ensures w.if-ends_at.false
    ])

pub fill_if_left-requires-clause-found : goal.fill_if_left-requires-clause-found
fill_if_left-requires-clause-found c = λ which. found_same c.args.self.now c.loop-offset.self c.loop-offset.invariant.config c.loop-offset.invariant.marks c.loop-offset.invariant.found (c.requires.found which)

pub loop-offset-preserved : goal.loop-offset-preserved
loop-offset-preserved c =
    let config = config_of c.args.self.now in
    let memory : Word → ℕ = memory_of c.args.self.now in
    let found_words = found_of c.args.self.now in
    let region = c.args.region in
    let offset = c.loop-offset.offset in
    let image_now = c.loop-offset.self in
    let so_far = c.loop-offset.invariant in
    let offset_below : offset < memory (Top region) = omega (arith, c.loop-offset-test.true, c.top-top.ensures) in
    let object : c.if-ends_at.object ≡ base_of config region + start_of (λ address. memory (Heap address)) (base_of config region) offset = elim c.if-ends_at.branch [
      | then-ends_at w ↦ w.object-is ∙ begun_here config (config_of image_now) memory (memory_of image_now) found_words c.args.left region offset c.requires.region c.requires.can offset_below so_far.config so_far.words c.base-first.result c.base-first.ensures
          c.loop-offset.object so_far.object c.ends_at.result c.ends_at.ensures w.if-ends_at.true
      | else-ends_at w ↦ w.object-is ∙ goes_on_here config (config_of image_now) memory (memory_of image_now) found_words c.args.left region offset c.requires.region c.requires.can offset_below so_far.config so_far.words c.base-first.result c.base-first.ensures
          c.loop-offset.object so_far.object c.ends_at.result c.ends_at.ensures w.if-ends_at.false
    ] in
    let last_offset : offset ≡ offset + 1 - 1 = omega arith in
    record {
      config = c.fill_if_left.ensures.config ∙ so_far.config;
      places = c.fill_if_left.ensures.places ∙ so_far.places;
      found = c.fill_if_left.ensures.found ∙ so_far.found;
      marks = c.fill_if_left.ensures.marks ∙ so_far.marks;
      words = c.fill_if_left.ensures.words
          ∙ turn_is config (config_of image_now) memory (memory_of image_now) found_words c.args.left region offset c.requires.region c.requires.can offset_below so_far.config so_far.words c.base-first.result c.base-first.ensures c.if-ends_at.object object (found_of image_now) so_far.found;
      object = object ∙ ap (λ asked_offset. base_of config region + start_of (λ address. memory (Heap address)) (base_of config region) asked_offset) last_offset;
    }

pub returns-clause-words : goal.returns-clause-words
returns-clause-words c =
    let config = config_of c.args.self.now in
    let memory : Word → ℕ = memory_of c.args.self.now in
    let found_words = found_of c.args.self.now in
    let region = c.args.region in
    let all_offsets : c.loop-offset.offset ≡ memory (Top region) = omega (arith, c.loop-offset-test.false, c.loop-offset.auto.offset-end, c.top-top.ensures) in
    c.loop-offset.invariant.words ∙ ap (λ offset. filled_at config (is_below config region offset) (is_left_over memory found_words c.args.left) memory) all_offsets
    ∙ filled_all config memory region c.requires.region c.requires.can (is_left_over memory found_words c.args.left) (left_is_object memory found_words c.args.left)
