-- The words of heap, roots and pin slots in a table stand for the graph that the table stands for.
use Rattle.std.proofs.Common.{ℕ, ◌≡◌, ◌+◌, ◌-◌, ◌*◌, ◌<◌, ◌≤◌, ◌^◌, ⊎_elim, true, false, Option, Some, None, List, length, get_or, drop, refl, sym, ap, ◌∙◌, subst, arith}
use Rattle.std.specs.Prelude.{if◌then◌else◌, slice_index, slice_range, nat_le, nat_lt, ◌&&◌}
use Rattle.std.proofs.lemmas.List.{get_or-take, get_or-drop, get_or_past, length-take-le, length-drop}
use Rattle.std.proofs.lemmas.Option.{same_Some, slice_get_within}
use Rattle.std.proofs.lemmas.Bool.{cases_Bool, cond-true, cond-false, and_parts, and_from, leb-true, ltb-true}
use Rattle.std.proofs.lemmas.Bool.Decides.{nat_tests}
use Rattle.heap_words.specs.declared.config.Config.{Config}
use Rattle.heap_words.specs.Words.{Cset, Evac, Top, Root, Pin, Heap, view, roots_start, heap_start, pins_start, table_words, heap_size, heap_in, roots_in, pins_in}
use Rattle.heap_words.proofs.Stores.{view_word}
use Rattle.shen_graph.specs.declared.name.Name.{Name}
use Rattle.shen_graph.specs.declared.pin.Pinned.{Pinned}
use Rattle.shen_graph.specs.Graph.{Graph, Object}
use Rattle.shen_graph.specs.Reach.{size}
use Rattle.heap_world.specs.Objects.{Refers, IsObject}
use Rattle.heap_world.specs.World.{Ghost, Plot, Block, thing, moved, words_of, name_at, body_of, Points, PinStands, IsPlotted, Shared}
use Rattle.heap_world.specs.Roots.{is_root_of, is_slot_of, HasNoMoreRoots, HasNoMorePins}
use Rattle.heap_world.proofs.Pointing.{named_body, copy_cases, piece_inside as words_inside}
use Rattle.heap_words.specs.Encoding.{is_forwarded, forwardee_in}
use Rattle.heap_world.specs.Stands.{current_of, IsCopyAt, IsAt, HoldsPin}
use Rattle.heap_world.proofs.CopyRows.{plain_current, moved_current}
use Rattle.heap_world.specs.Rows.{root_word, pin_word}
use Rattle.heap_world.specs.Shows.{WordsStand}

-- a word of a part of a list
get_or-part : (xs : List ℕ) (start end index : ℕ) → index < end - start → get_or (slice_range xs start end) index 0 ≡ get_or xs (start + index) 0
get_or-part xs start end index index_within = get_or-take (end - start) (drop start xs) index 0 index_within ∙ get_or-drop start xs index 0

-- its length
length-part : (xs : List ℕ) (start end : ℕ) → end ≤ length xs → length (slice_range xs start end) ≡ end - start
length-part xs start end end_within = length-take-le (end - start) (drop start xs) (omega (arith, length-drop start xs))

-- Pieces lie where they should. Where a copy of an object stands for its name there is a piece, and the current copy, by the header
-- there, stands for the name too and is the object as the graph has it; it is the only one. Names are short. Other objects need no piece.
pub record AreCopies (config : Config) (words : List ℕ) (block : Plot) (at : ℕ → Option Name) (graph : Graph) : Type 0 where
  pub plotted : IsPlotted config (λ region. view config words (Top region)) block
  pub piece : (address : ℕ) (name : Name) → at address ≡ Some name → (x : Block) × (block address ≡ Some x) × (1 ≤ words_of x)
  pub current : (address : ℕ) (name : Name) → at address ≡ Some name → at (current_of (λ address. view config words (Heap address)) address) ≡ Some name
  pub object : (address : ℕ) (name : Name) → at address ≡ Some name
      → (refs : ℕ) × (nums : ℕ) × (o : Object) × (block (current_of (λ address. view config words (Heap address)) address) ≡ Some (thing name refs nums)) × (graph.object name ≡ Some o)
      × IsObject (λ address. view config words (Heap address)) at (current_of (λ address. view config words (Heap address)) address) refs nums name o
  pub once : (address b : ℕ) (name : Name) → at address ≡ Some name → at b ≡ Some name → current_of (λ address. view config words (Heap address)) address ≡ current_of (λ address. view config words (Heap address)) b
  pub small : (name : Name) (object : Object) → graph.object name ≡ Some object → name.count < 2 ^ 32

module _ (config : Config) (words : List ℕ) (block : Plot) (standing : ℕ → Option Name) (graph : Graph) (whole_table : length words ≡ table_words config) (pieces : AreCopies config words block standing graph) where
  abbrev heap : List ℕ
  heap = heap_in config words

  abbrev roots : List ℕ
  roots = roots_in config words

  abbrev pins : List ℕ
  pins = pins_in config words

  abbrev first : ℕ
  first = config.region_words

  abbrev mem : ℕ → ℕ
  mem address = view config words (Heap address)

  -- the length of the heap
  length-heap : length heap ≡ config.regions * config.region_words
  length-heap = let part_length : length heap ≡ heap_start config + heap_size config - heap_start config = length-part words (heap_start config) (heap_start config + heap_size config) (omega (arith, whole_table)) in omega (arith, part_length)

  -- the words of a piece lie in the heap
  piece_inside : (address : ℕ) (piece : Block) → block address ≡ Some piece → (first ≤ address) × (address + words_of piece ≤ first + length heap)
  piece_inside address piece piece_there =
      let words_in_heap = words_inside config (λ region. view config words (Top region)) block pieces.plotted address piece piece_there in
      let size : (config.regions + 1) * config.region_words ≡ config.regions * config.region_words + config.region_words = omega arith in
      (words_in_heap.0, omega (arith, words_in_heap.1, size, length-heap))

  -- a word of the heap by its name
  heap_word : (address : ℕ) → first ≤ address → address < first + length heap → slice_index heap (address - first) ≡ view config words (Heap address)
  heap_word address address_past_first address_below_end =
      get_or-part words (heap_start config) (heap_start config + heap_size config) (address - first) (omega (arith, address_past_first, address_below_end, length-heap))
      ∙ ap (λ index. get_or words index 0) (let same_sum : heap_start config + (address - first) ≡ heap_start config + address - first = omega (arith, address_past_first) in same_sum)
      ∙ sym (view_word config words (Heap address) (address_past_first, let same_sum : (config.regions + 1) * config.region_words ≡ config.regions * config.region_words + config.region_words = omega arith in omega (arith, same_sum, address_below_end, length-heap)))

  -- an object has the words that its piece has
  object_stands : (address refs nums : ℕ) (name : Name) (object : Object) → block address ≡ Some (thing name refs nums) → graph.object name ≡ Some object
      → IsObject mem standing address refs nums name object → name.count < 2 ^ 32
      → IsAt first (first + length heap) (λ number. slice_index heap (number - first)) standing graph address name object
  object_stands address refs nums name its_object piece_there object facts few_names =
      let object_inside : (first ≤ address) × (address + (3 + refs + nums) ≤ first + length heap) = piece_inside address (thing name refs nums) piece_there in
      record {
        object = object;
        words = record {
          header = heap_word address object_inside.0 (omega (arith, object_inside.1)) ∙ facts.header;
          shape = heap_word (address + 1) (omega (arith, object_inside.0)) (omega (arith, object_inside.1)) ∙ (rw (facts.refs_are, facts.nums_are) facts.shape);
          name_word = heap_word (address + 2) (omega (arith, object_inside.0)) (omega (arith, object_inside.1)) ∙ facts.name_word;
          refs_are = refl;
          nums_are = refl;
          references = λ index reference word_there.
              let index_below : index < length its_object.refs = slice_get_within its_object.refs index reference word_there in
              subst (λ word. Refers standing word reference) (sym (heap_word (address + 3 + index) (omega (arith, object_inside.0)) (omega (arith, object_inside.1, index_below, facts.refs_are))))
              (facts.references index reference word_there);
          numbers = λ index value word_there.
              let index_below : index < length its_object.nums = slice_get_within its_object.nums index value word_there in
              heap_word (address + 3 + length its_object.refs + index) (omega (arith, object_inside.0)) (omega (arith, object_inside.1, index_below, facts.refs_are, facts.nums_are))
              ∙ ap (λ number. view config words (Heap (address + 3 + number + index))) facts.refs_are ∙ facts.numbers index value word_there;
          few_refs = omega (arith, facts.refs_are, facts.few_refs);
          few_nums = omega (arith, facts.nums_are, facts.few_nums);
        };
        short_count = few_names;
        above = object_inside.0;
        below = omega (arith, object_inside.1, facts.refs_are, facts.nums_are);
      }

  -- the words of the heap by their addresses
  abbrev here : ℕ → ℕ
  here address = slice_index heap (address - first)

  -- the current copy by the words of the heap
  now_same : (address : ℕ) (name : Name) → standing address ≡ Some name → current_of here address ≡ current_of mem address
  now_same address name name_there =
      let piece_found = pieces.piece address name name_there in
      let whole_inside = piece_inside address piece_found.0 piece_found.1 in
      ap (λ word. if is_forwarded word then forwardee_in word else address) (heap_word address whole_inside.0 (omega (arith, whole_inside.1, piece_found.2)))

  each : (address : ℕ) (name : Name) → standing address ≡ Some name → IsCopyAt first (first + length heap) here standing address name
  each address name name_there =
      let piece_found = pieces.piece address name name_there in
      let whole_inside = piece_inside address piece_found.0 piece_found.1 in
      record { above = whole_inside.0; below = omega (arith, whole_inside.1, piece_found.2); current = ap standing (now_same address name name_there) ∙ pieces.current address name name_there }

  -- so the object of each name stands somewhere
  object : (any_address : ℕ) (name : Name) → standing any_address ≡ Some name → (some_object : Object) × IsAt first (first + length heap) here standing graph (current_of here any_address) name some_object
  object any_address name name_there =
      let object_found = pieces.object any_address name name_there in
      (object_found.2, subst (λ address. IsAt first (first + length heap) here standing graph address name object_found.2) (sym (now_same any_address name name_there)) (object_stands (current_of mem any_address) object_found.0 object_found.1 name object_found.2 object_found.3 object_found.4 object_found.5 (pieces.small name object_found.2 object_found.4)))

  -- objects lie apart
  apart : (first_address second_address : ℕ) (name other_name : Name) (object : Object) → standing first_address ≡ Some name → standing second_address ≡ Some other_name → graph.object name ≡ Some object → current_of here first_address < current_of here second_address → current_of here first_address + size object ≤ current_of here second_address
  apart first_address second_address name other_name object first_named second_named object_known first_before =
      let first_object = pieces.object first_address name first_named in
      let second_object = pieces.object second_address other_name second_named in
      let first_now = now_same first_address name first_named in
      let second_now = now_same second_address other_name second_named in
      let same_object : first_object.2 ≡ object = same_Some first_object.2 object (sym first_object.4 ∙ object_known) in
      let behind_first = pieces.plotted.apart (current_of mem first_address) (current_of mem second_address) (thing name first_object.0 first_object.1) (thing other_name second_object.0 second_object.1) first_object.3 second_object.3 (omega (arith, first_before, first_now, second_now)) in
      let same_refs : length object.refs ≡ first_object.0 = ap (λ x. length x.refs) (sym same_object) ∙ first_object.5.refs_are in
      let same_nums : length object.nums ≡ first_object.1 = ap (λ x. length x.nums) (sym same_object) ∙ first_object.5.nums_are in
      omega (arith, behind_first, same_refs, same_nums, first_now, second_now)

  -- a name has one current copy
  once : (address other_address : ℕ) (name : Name) → standing address ≡ Some name → standing other_address ≡ Some name → current_of here address ≡ current_of here other_address
  once address other_address name is_a is_b = now_same address name is_a ∙ pieces.once address other_address name is_a is_b ∙ sym (now_same other_address name is_b)

  -- there are 16 roots for each mutator
  length-roots : length roots ≡ 16 * config.mutators
  length-roots = let part_length : length roots ≡ roots_start config + 16 * config.mutators - roots_start config = length-part words (roots_start config) (roots_start config + 16 * config.mutators) (omega (arith, whole_table)) in omega (arith, part_length)

  module _ (own_roots : (mutator root_index : ℕ) → mutator < config.mutators → root_index < 16 → Refers standing (view config words (Root mutator root_index)) (graph.root (mutator + 1) root_index)) (no_more : HasNoMoreRoots config.mutators graph) where
    -- a root of a mutator
    own_root : (seat index : ℕ) → seat < config.mutators → index < 16 → Refers standing (slice_index roots (16 * seat + index)) (graph.root (seat + 1) index)
    own_root seat index seat_below index_below =
        let root_counts : view config words (Root seat index) ≡ slice_index roots (16 * seat + index) =
        view_word config words (Root seat index) (seat_below, index_below)
        ∙ ap (λ index. get_or words index 0) (let same_place : roots_start config + 16 * seat + index ≡ roots_start config + (16 * seat + index) = omega arith in same_place)
        ∙ sym (get_or-part words (roots_start config) (roots_start config + 16 * config.mutators) (16 * seat + index) (omega (arith, seat_below, index_below))) in
        subst (λ word. Refers standing word (graph.root (seat + 1) index)) root_counts (own_roots seat index seat_below index_below)

    -- a root that no mutator has
    no_root : (thread slot : ℕ) → is_root_of config.mutators thread slot ≡ false → root_word roots thread slot ≡ 0
    no_root thread slot no_such_root = ⊎_elim
        (λ (in_range : (nat_le 1 thread && nat_lt slot 16) ≡ true).
        cond-true (nat_le 1 thread && nat_lt slot 16) _ _ in_range ∙ get_or_past roots (16 * (thread - 1) + slot) 0 (let thread_past : config.mutators < thread = grind (arith, nat_tests) in omega (arith, thread_past, length-roots)))
        (λ (out_of_range : (nat_le 1 thread && nat_lt slot 16) ≡ false). cond-false (nat_le 1 thread && nat_lt slot 16) _ _ out_of_range)
        (cases_Bool (nat_le 1 thread && nat_lt slot 16))

    -- each root's word refers to it
    root_stands : (thread index : ℕ) → Refers standing (root_word roots thread index) (graph.root thread index)
    root_stands thread index = ⊎_elim
        (λ (root_there : is_root_of config.mutators thread index ≡ true).
        let thread_positive : 1 ≤ thread = leb-true 1 thread (and_parts _ _ root_there).0 in
        let other_tests : (nat_le thread config.mutators ≡ true) × (nat_lt index 16 ≡ true) = and_parts _ _ (and_parts (nat_le 1 thread) (nat_le thread config.mutators && nat_lt index 16) root_there).1 in
        let thread_within : thread ≤ config.mutators = leb-true thread config.mutators other_tests.0 in
        let index_below : index < 16 = ltb-true index 16 other_tests.1 in
        let same_thread : thread - 1 + 1 ≡ thread = omega (arith, thread_positive) in
        let word : root_word roots thread index ≡ slice_index roots (16 * (thread - 1) + index) = cond-true (nat_le 1 thread && nat_lt index 16) _ _ (and_from _ _ (and_parts _ _ root_there).0 other_tests.1) in
        subst (λ found_word. Refers standing found_word (graph.root thread index)) (sym word)
        (subst (λ other_thread. Refers standing (slice_index roots (16 * (thread - 1) + index)) (graph.root other_thread index)) same_thread (own_root (thread - 1) index (omega (arith, thread_positive, thread_within)) index_below)))
        (λ (no_such_root : is_root_of config.mutators thread index ≡ false).
        subst (λ reference. Refers standing (root_word roots thread index) reference) (sym (no_more thread index no_such_root)) (no_root thread index no_such_root))
        (cases_Bool (is_root_of config.mutators thread index))

  -- there are 4 pin slots for each mutator
  length-pins : length pins ≡ 4 * config.mutators
  length-pins = let part_length : length pins ≡ pins_start config + 4 * config.mutators - pins_start config = length-part words (pins_start config) (pins_start config + 4 * config.mutators) (omega (arith, whole_table)) in omega (arith, part_length)

  -- a pin word stands by the words of the heap as it does by the table
  pin_here : (word : ℕ) (held : Option Pinned) → HoldsPin mem standing word held → HoldsPin here standing word held
  pin_here word None holds_pin = holds_pin
  pin_here word (Some pinned) holds_pin = (holds_pin.0, holds_pin.1, now_same word pinned.name holds_pin.1 ∙ holds_pin.2)

  module _ (own_slots : (mutator slot_index : ℕ) → mutator < config.mutators → slot_index < 4 → HoldsPin mem standing (view config words (Pin mutator slot_index)) (graph.pin (mutator + 1) slot_index)) (no_more : HasNoMorePins config.mutators graph) where
    -- a pin slot of a mutator
    own_pin : (seat slot : ℕ) → seat < config.mutators → slot < 4 → HoldsPin here standing (slice_index pins (4 * seat + slot)) (graph.pin (seat + 1) slot)
    own_pin seat slot seat_below slot_below =
        let pin_counts : view config words (Pin seat slot) ≡ slice_index pins (4 * seat + slot) =
        view_word config words (Pin seat slot) (seat_below, slot_below)
        ∙ ap (λ index. get_or words index 0) (let same_place : pins_start config + 4 * seat + slot ≡ pins_start config + (4 * seat + slot) = omega arith in same_place)
        ∙ sym (get_or-part words (pins_start config) (pins_start config + 4 * config.mutators) (4 * seat + slot) (omega (arith, seat_below, slot_below))) in
        subst (λ word. HoldsPin here standing word (graph.pin (seat + 1) slot)) pin_counts (pin_here (view config words (Pin seat slot)) (graph.pin (seat + 1) slot) (own_slots seat slot seat_below slot_below))

    -- a slot that no mutator has
    no_pin : (thread slot : ℕ) → is_slot_of config.mutators thread slot ≡ false → pin_word pins thread slot ≡ 0
    no_pin thread slot no_such_slot = ⊎_elim
        (λ (in_range : (nat_le 1 thread && nat_lt slot 4) ≡ true).
        cond-true (nat_le 1 thread && nat_lt slot 4) _ _ in_range ∙ get_or_past pins (4 * (thread - 1) + slot) 0 (let thread_past : config.mutators < thread = grind (arith, nat_tests) in omega (arith, thread_past, length-pins)))
        (λ (out_of_range : (nat_le 1 thread && nat_lt slot 4) ≡ false). cond-false (nat_le 1 thread && nat_lt slot 4) _ _ out_of_range)
        (cases_Bool (nat_le 1 thread && nat_lt slot 4))

    -- each pin word stands for what its slot holds
    pin_stands : (thread slot : ℕ) → HoldsPin here standing (pin_word pins thread slot) (graph.pin thread slot)
    pin_stands thread slot = ⊎_elim
        (λ (slot_there : is_slot_of config.mutators thread slot ≡ true).
        let thread_positive : 1 ≤ thread = leb-true 1 thread (and_parts _ _ slot_there).0 in
        let other_tests : (nat_le thread config.mutators ≡ true) × (nat_lt slot 4 ≡ true) = and_parts _ _ (and_parts (nat_le 1 thread) (nat_le thread config.mutators && nat_lt slot 4) slot_there).1 in
        let thread_within : thread ≤ config.mutators = leb-true thread config.mutators other_tests.0 in
        let slot_below : slot < 4 = ltb-true slot 4 other_tests.1 in
        let same_thread : thread - 1 + 1 ≡ thread = omega (arith, thread_positive) in
        let word : pin_word pins thread slot ≡ slice_index pins (4 * (thread - 1) + slot) = cond-true (nat_le 1 thread && nat_lt slot 4) _ _ (and_from _ _ (and_parts _ _ slot_there).0 other_tests.1) in
        subst (λ found_word. HoldsPin here standing found_word (graph.pin thread slot)) (sym word)
        (subst (λ other_thread. HoldsPin here standing (slice_index pins (4 * (thread - 1) + slot)) (graph.pin other_thread slot)) same_thread (own_pin (thread - 1) slot (omega (arith, thread_positive, thread_within)) slot_below)))
        (λ (no_such_slot : is_slot_of config.mutators thread slot ≡ false).
        subst (λ held. HoldsPin here standing (pin_word pins thread slot) held) (sym (no_more thread slot no_such_slot)) (no_pin thread slot no_such_slot))
        (cases_Bool (is_slot_of config.mutators thread slot))

-- the words stand for the graph
pub copies_stand : (config : Config) (words : List ℕ) (block : Plot) (standing : ℕ → Option Name) (graph : Graph) → length words ≡ table_words config → AreCopies config words block standing graph
    → ((mutator index : ℕ) → mutator < config.mutators → index < 16 → Refers standing (view config words (Root mutator index)) (graph.root (mutator + 1) index)) → HasNoMoreRoots config.mutators graph
    → ((mutator index : ℕ) → mutator < config.mutators → index < 4 → HoldsPin (λ address. view config words (Heap address)) standing (view config words (Pin mutator index)) (graph.pin (mutator + 1) index)) → HasNoMorePins config.mutators graph
    → WordsStand config.region_words (heap_in config words) (roots_in config words) (pins_in config words) standing graph
copies_stand config words block standing graph whole_table pieces own_roots no_more own_pins no_more_pins = record {
  each = each config words block standing graph whole_table pieces;
  object = object config words block standing graph whole_table pieces;
  once = once config words block standing graph whole_table pieces;
  apart = apart config words block standing graph whole_table pieces;
  roots = root_stands config words block standing graph whole_table pieces own_roots no_more;
  pins = pin_stands config words block standing graph whole_table pieces own_pins no_more_pins;
}

-- so do those of a running heap: each copy that is no old one is the current one
module _ (config : Config) (words : List ℕ) (block : Plot) (ghost : Ghost) (graph : Graph) (shared : Shared config (record { memory = view config words; block = block; ghost = ghost; graph = graph })) where
  abbrev memory : ℕ → ℕ
  memory address = view config words (Heap address)

  -- what a copy of an object is: so long a piece, whose current copy is the object
  pub record IsCopied (address : ℕ) (name : Name) : Type 0 where
    pub refs : ℕ
    pub nums : ℕ
    pub piece : Block
    pub there : block address ≡ Some piece
    pub some : 1 ≤ words_of piece
    pub copy : block (current_of memory address) ≡ Some (thing name refs nums)

  copied : (address : ℕ) (name : Name) → name_at (block address) ≡ Some name → IsCopied address name
  copied address name name_there =
      let body = named_body (block address) name name_there in
      ⊎_elim
      (λ (object_there : block address ≡ Some (thing name body.0 body.1)).
      let object_got = shared.contents.objects.each address body.0 body.1 name object_there in
      record { refs = body.0; nums = body.1; piece = thing name body.0 body.1; there = object_there; some = omega arith; copy = ap block (plain_current memory address object_got.2.header) ∙ object_there })
      (λ (moved_there : (target : ℕ) × (block address ≡ Some (moved name body.0 body.1 target))).
      let old = shared.evacuated.moved.moveds address body.0 body.1 moved_there.0 name moved_there.1 in
      record { refs = body.0; nums = body.1; piece = moved name body.0 body.1 moved_there.0; there = moved_there.1; some = omega arith; copy = ap block (moved_current memory address moved_there.0 old.header) ∙ old.copy })
      (copy_cases (block address) (body_of name body.0 body.1) body.2)

  pub are_copies : AreCopies config words block (λ address. name_at (block address)) graph
  are_copies = record {
    plotted = shared.parsable.plotted;
    piece = λ address name name_there. (let copy = copied address name name_there in (copy.piece, copy.there, copy.some));
    current = λ first_address reached_name name_there. ap name_at (copied first_address reached_name name_there).copy;
    object = λ first_address reached_name name_there.
        let copy = copied first_address reached_name name_there in
        let object_got = shared.contents.objects.each (current_of memory first_address) copy.refs copy.nums reached_name copy.copy in
        (copy.refs, copy.nums, object_got.0, copy.copy, object_got.1, object_got.2);
    once = λ first_address second_address reached_name is_a is_b.
        let copy = copied first_address reached_name is_a in
        let other_copy = copied second_address reached_name is_b in
        shared.contents.objects.once (current_of memory first_address) (current_of memory second_address) copy.refs copy.nums other_copy.refs other_copy.nums reached_name copy.copy other_copy.copy;
    small = λ reached_name object_got name_there. (shared.contents.given reached_name object_got name_there).small;
  }

  -- and a pin slot holds the current copy of an object
  pub pin_held : (word : ℕ) (held : Option Pinned) → PinStands config (view config words Cset) (view config words Evac) block word held → HoldsPin memory (λ address. name_at (block address)) word held
  pin_held word None slot_stands = slot_stands
  pin_held word (Some pinned) slot_stands =
      let object_got = shared.contents.objects.each word slot_stands.1 slot_stands.2 pinned.name slot_stands.3.piece in
      (slot_stands.0, ap name_at slot_stands.3.piece, plain_current memory word object_got.2.header)

pub table_stands : (config : Config) (words : List ℕ) (block : Plot) (ghost : Ghost) (graph : Graph) → length words ≡ table_words config
    → Shared config (record { memory = view config words; block = block; ghost = ghost; graph = graph })
    → ((mutator index : ℕ) → mutator < config.mutators → index < 16 → Points block (view config words (Root mutator index)) (graph.root (mutator + 1) index)) → HasNoMoreRoots config.mutators graph → HasNoMorePins config.mutators graph
    → WordsStand config.region_words (heap_in config words) (roots_in config words) (pins_in config words) (λ address. name_at (block address)) graph
table_stands config words block ghost graph whole_table shared own_roots no_more no_more_pins =
    copies_stand config words block (λ address. name_at (block address)) graph whole_table (are_copies config words block ghost graph shared) own_roots no_more
    (λ mutator index seated inside. pin_held config words block ghost graph shared (view config words (Pin mutator index)) (graph.pin (mutator + 1) index) (shared.pinned mutator index seated inside)) no_more_pins
