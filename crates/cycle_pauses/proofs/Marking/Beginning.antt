-- The beginning of marking, once buffers are settled: the words represent the same graph, and the snapshot is what can be reached.
use Rattle.heap_words.specs.Phases.{idle_phase}
use Rattle.std.proofs.Common.{◌≡◌, ◌≢◌, ℕ, ◌+◌, ◌<◌, ◌≤◌, Bool, true, Option, Some, None, refl, sym, ap, ◌∙◌, subst, arith}
use Rattle.heap_words.specs.declared.config.Config.{Config}
use Rattle.heap_words.specs.Words.{Word, Phase, Cset, Free, Evac, Top, Current, Tams, Root, Pin, Count, Buffer, Answer, Grey, Black, Heap}
use Rattle.heap_words.specs.Encoding.{refs_in, object_words}
use Rattle.shen_graph.specs.declared.name.Name.{Name}
use Rattle.shen_graph.specs.declared.pin.Pinned.{Pinned}
use Rattle.shen_graph.specs.Graph.{Graph, Object, Reference}
use Rattle.heap_world.specs.Walk.{has}
use Rattle.heap_world.specs.World.{Block, thing, moved, hand, promised, dead, carved, words_of, room_of, Plot, Snapshot, Ghost, name_at, Points, PinStands, IsThing, AreObjects, AreUnwritten, IsMarkable, IsLed, KeepsSnapshot, IsEvacuating, IsUsable, AreUsable}
use Rattle.heap_world.specs.Asking.{Asking, asks, given, IsAsked}
use Rattle.heap_world.specs.Represents.{Represents, RepresentsByCopies}
use Rattle.heap_world.proofs.Keeping.{usable_now}
use Rattle.heap_world.proofs.Copies.{none_evacuated}
use Rattle.image_graph.specs.Edge.{edge}
use Rattle.image_graph.specs.Divided.{AreDivided}
use Rattle.image_graph.proofs.BuffersStay.{SameRoom, rooms_stay, buffers_stay}
use Rattle.image_graph.specs.Held.{IsAmong}
use Rattle.image_graph.specs.Full.{held_words, held_in}
use Rattle.image_graph.specs.Promised.{Promises}
use Rattle.image_graph.proofs.Reached.{none_at_0, refs_read, words_read}
use Rattle.image_graph.proofs.HeldRoots.{root_among, answer_among, pin_among}
use Rattle.image_graph.specs.Holds.{HoldsBy}
use Rattle.cycle_pauses.proofs.Full.ByCopies.{by_copies}
use Rattle.cycle_pauses.proofs.Full.Promises.{promises_of}
use Rattle.cycle_pauses.proofs.Full.Before.{live, promised_at}
use Rattle.cycle_pauses.proofs.Full.Holding.{holds_by}
use Rattle.cycle_pauses.proofs.Full.Reached.{found_held, held_found}
use Rattle.cycle_words.specs.Marking.Init.{marking_begun, pruned}
use Rattle.cycle_words.specs.Marking.WhileMarking.{CanBeReached}
use Rattle.cycle_words.proofs.Marking.Plain.{root_reached, field_reached, reach_ind}
use Rattle.cycle_pauses.proofs.Evacuation.Asked.{asked_stays}
use Rattle.cycle_pauses.proofs.Marking.FromSnapshot.{no_moved, no_spent, thing_at, piece_above, markable_piece, reached_markable}
use Rattle.cycle_words.proofs.Marking.Trimmed.{object_stands}
use Rattle.cycle_words.proofs.Marking.Pruned.{WasPiece, piece_was, room_stays, thing_stays, promised_stays, thing_was, room_was, filler_was, promised_was, moved_was, spent_was, pruned_plotted, pruned_filled}
use Rattle.cycle_words.proofs.Marking.FirstSnapshot.{first, first_snapshot, is_first, first_marked}

-- what is no room was none
no_room_before : (live : Bool) (piece new_piece : Block) → WasPiece live piece new_piece → room_of new_piece ≡ None → room_of piece ≡ None
no_room_before _ piece new_piece (WasPiece.was_left same_piece is_live) no_room = ap room_of same_piece ∙ no_room
no_room_before _ piece new_piece (WasPiece.was_object name refs nums was_thing now_fills) no_room = ap room_of was_thing

module _ (config : Config) (memory : Word → ℕ) (graph : Graph) (asking : ℕ → Asking) (represents : Represents config memory graph asking) (rests : memory Phase ≡ idle_phase) (divided : AreDivided config memory represents.block) where
  -- the same words by copies
  abbrev copies : RepresentsByCopies config memory graph asking
  copies = by_copies config memory graph asking represents

  abbrev now : Word → ℕ
  now = marking_begun config memory

  calm : memory Cset ≡ 0
  calm = represents.shared.phased.cset_is (omega (arith, rests))

  no_copier : memory Evac ≡ 0
  no_copier = represents.shared.phased.evac_is (λ evacuates. omega (arith, rests, evacuates))

  abbrev heap : ℕ → ℕ
  heap address = memory (Heap address)

  abbrev top : ℕ → ℕ
  top region = memory (Top region)

  abbrev promises : Promises
  promises = promises_of config graph asking

  abbrev before : Plot
  before = live config memory graph asking copies

  abbrev found : ℕ → Bool
  found = has (held_in config memory)

  abbrev plot : Plot
  plot = pruned found represents.block

  holds : HoldsBy config memory before represents.ghost.owner promises graph
  holds = holds_by config memory graph asking copies

  -- what a root word names, or a field of what can be reached, can be reached
  root_led : (word : ℕ) → IsAmong (held_words config memory) word → word ≢ 0 → CanBeReached config memory word
  root_led word among_held some_word = root_reached config memory before represents.ghost.owner promises graph holds calm word among_held some_word

  field_led : (address field : ℕ) → CanBeReached config memory address → field < refs_in (heap (address + 1)) → heap (address + 3 + field) ≢ 0 → CanBeReached config memory (heap (address + 3 + field))
  field_led address field reached field_below some_target = field_reached config memory before represents.ghost.owner promises graph holds calm address field reached field_below some_target

  -- a word that leads somewhere stands for what it stood for
  name_stays : (word : ℕ) (name : Name) → CanBeReached config memory word → name_at (represents.block word) ≡ Some name → name_at (plot word) ≡ Some name
  name_stays word name reached has_name =
      let piece = thing_at config memory graph asking represents calm word name has_name in
      ap name_at (thing_stays found represents.block word piece.0 piece.1 name (held_found config memory graph asking copies word reached) piece.2)

  points_again : (word : ℕ) (reference : Reference) → (word ≢ 0 → CanBeReached config memory word) → Points represents.block word reference → Points plot word reference
  points_again word None led points = points
  points_again word (Some name) led points = name_stays word name (led (none_at_0 config top represents.block represents.shared.parsable.plotted word name points)) points

  roots_again : (mutator index : ℕ) → mutator < config.mutators → index < 16 → Points plot (memory (Root mutator index)) (graph.root (mutator + 1) index)
  roots_again mutator index mutator_below index_below =
      points_again (memory (Root mutator index)) (graph.root (mutator + 1) index)
      (root_led (memory (Root mutator index)) (root_among config top memory before graph promises holds.objects.plotted holds.rooted mutator index mutator_below index_below))
      (represents.roots mutator index mutator_below index_below)

  -- objects that can be reached read as before
  thing_again : (address refs nums : ℕ) (name : Name) (object : Object) → CanBeReached config memory address → IsThing heap represents.block address refs nums name object → IsThing heap plot address refs nums name object
  thing_again address refs nums name object reached is_thing =
      let same_refs : refs_in (heap (address + 1)) ≡ refs = ap refs_in is_thing.shape ∙ refs_read refs nums is_thing.few_refs is_thing.few_nums in
      object_stands heap represents.block plot address refs nums name object
      (λ index reference field_there field_below points. points_again (heap (address + 3 + index)) reference (field_led address index reached (omega (arith, field_below, same_refs))) points) is_thing

  objects_again : AreObjects heap plot graph.object
  objects_again = record {
    each = λ address refs nums name has_thing.
        let old_thing = thing_was found represents.block address refs nums name has_thing in
        let its_object = represents.shared.contents.objects.each address refs nums name old_thing.0 in
        (its_object.0, its_object.1, thing_again address refs nums name its_object.0 (found_held config memory graph asking copies address old_thing.1) its_object.2);
    once = λ address second_address refs nums second_refs second_nums name has_first has_second.
        represents.shared.contents.objects.once address second_address refs nums second_refs second_nums name (thing_was found represents.block address refs nums name has_first).0 (thing_was found represents.block second_address second_refs second_nums name has_second).0;
  }

  -- a dead object has at least as many words as an object has, begins with a header, and has a shape word of so many
  dead_of : (address words : ℕ) (piece : Block) → represents.block address ≡ Some piece → WasPiece (found address) piece (dead words) → (3 ≤ words) × (heap address ≡ 1) × (object_words (heap (address + 1)) ≡ words)
  dead_of address words piece has_piece (WasPiece.was_left same_piece is_live) =
      let was_dead : represents.block address ≡ Some (dead words) = has_piece ∙ ap Some same_piece in
      (represents.shared.parsable.deads address words was_dead, represents.shared.unwritten.headers address words was_dead, represents.shared.unwritten.lengths address words was_dead)
  dead_of address words piece has_piece (WasPiece.was_object name refs nums same_piece fills) =
      let its_object = represents.shared.contents.objects.each address refs nums name (has_piece ∙ ap Some same_piece) in
      let same_words : words ≡ 3 + refs + nums = ap words_of fills in
      (omega (arith, same_words), its_object.2.header, ap object_words its_object.2.shape ∙ words_read refs nums its_object.2.few_refs its_object.2.few_nums ∙ sym same_words)

  dead_at : (address words : ℕ) → plot address ≡ Some (dead words) → (3 ≤ words) × (heap address ≡ 1) × (object_words (heap (address + 1)) ≡ words)
  dead_at address words has_dead = let piece_before = piece_was found represents.block address (dead words) has_dead in dead_of address words piece_before.0 piece_before.1 piece_before.2

  unwritten_again : AreUnwritten heap plot
  unwritten_again = record {
    blanks = λ address seat words has_piece. represents.shared.unwritten.blanks address seat words (promised_was found represents.block address seat words has_piece);
    headers = λ address words has_piece. (dead_at address words has_piece).1;
    lengths = λ place words has_piece. (dead_at place words has_piece).2;
    fillers = λ place words has_piece. represents.shared.unwritten.fillers place words (filler_was found represents.block place words has_piece);
  }

  -- room is the same, and edges divide the pieces still
  same_room : SameRoom represents.block plot
  same_room = record { stays = λ address seat piece owned has_piece. room_stays found represents.block address seat piece owned has_piece; came = λ address seat piece owned has_piece. room_was found represents.block address seat piece owned has_piece }

  divided_again : AreDivided config memory plot
  divided_again = record {
    rooms = λ address seat piece has_piece room. divided.rooms address seat piece (same_room.came address seat piece room has_piece) room;
    others = λ address piece has_piece no_room. let piece_before = piece_was found represents.block address piece has_piece in divided.others address piece_before.0 piece_before.1 (no_room_before (found address) piece_before.0 piece piece_before.2 no_room);
    tops = divided.tops;
  }

  -- The snapshot: the objects that can be reached, and what roots and answers name.
  abbrev snapshot : Snapshot
  snapshot = first_snapshot config memory plot

  reached_above : (address : ℕ) → CanBeReached config memory address → config.region_words ≤ address
  reached_above address reached =
      let piece = markable_piece config memory graph asking represents calm address (reached_markable config memory graph asking represents calm address reached) in
      piece_above config memory graph asking represents calm address piece.0 piece.1

  -- roots and answers lead to what can be reached
  led_on : (address field : ℕ) → IsMarkable represents.block address → CanBeReached config memory address → IsLed snapshot address → field < refs_in (heap (address + 1)) → heap (address + 3 + field) ≢ 0 → IsLed snapshot (heap (address + 3 + field))
  led_on address field (IsMarkable.object name refs nums markable_there) reached led field_below some_target =
      let its_object = represents.shared.contents.objects.each address refs nums name markable_there in
      let same_refs : refs_in (heap (address + 1)) ≡ refs = ap refs_in its_object.2.shape ∙ refs_read refs nums its_object.2.few_refs its_object.2.few_nums in
      IsLed.by_field address refs nums field name led (thing_stays found represents.block address refs nums name (held_found config memory graph asking copies address reached) markable_there) (omega (arith, field_below, same_refs)) some_target
  led_on address field (IsMarkable.to_come seat words markable_there) reached led field_below some_target =
      let blank = represents.shared.unwritten.blanks address seat words markable_there in
      let same_refs : refs_in (heap (address + 1)) ≡ blank.refs = ap refs_in blank.shape ∙ refs_read blank.refs blank.nums blank.few_refs blank.few_nums in
      absurd (some_target (blank.nulls field (omega (arith, field_below, same_refs))))

  led : (asked_address : ℕ) → CanBeReached config memory asked_address → IsLed snapshot asked_address
  led = reach_ind config memory before represents.ghost.owner promises graph holds calm (IsLed snapshot)
      (λ word among_held some_word. IsLed.by_start word (is_first config memory plot word (reached_above word (root_led word among_held some_word)) among_held))
      (λ address index reached so_far few some_word. led_on address index (reached_markable config memory graph asking represents calm address reached) reached so_far few some_word)

  -- an answer names what is promised
  promise_first : (address seat words : ℕ) → represents.block address ≡ Some (promised seat words) → first config memory plot address ≡ true
  promise_first address seat words has_promise =
      let promised_there = promised_at config memory graph asking copies address seat words has_promise in
      let promise_asked : IsAsked memory represents.block graph.count seat (given promised_there.refs promised_there.nums) = subst (λ told. IsAsked memory represents.block graph.count seat told) promised_there.is_given (represents.asked seat promised_there.inside) in
      let same_address : address ≡ memory (Answer seat) = promise_asked.2.only address words has_promise in
      let answer_held = answer_among config top memory before graph promises holds.objects.plotted holds.rooted seat promised_there.inside promise_asked.1 in
      is_first config memory plot address (piece_above config memory graph asking represents calm address (promised seat words) has_promise) (ap (has (held_words config memory)) same_address ∙ answer_held)

  -- what can be reached can still be marked
  markable_again : (address : ℕ) → CanBeReached config memory address → IsMarkable represents.block address → IsMarkable plot address
  markable_again address reached (IsMarkable.object name refs nums markable_there) = IsMarkable.object name refs nums (thing_stays found represents.block address refs nums name (held_found config memory graph asking copies address reached) markable_there)
  markable_again address reached (IsMarkable.to_come seat words markable_there) = IsMarkable.to_come seat words (promised_stays found represents.block address seat words markable_there)

  root_markable : (address : ℕ) → IsAmong (held_words config memory) address → address ≢ 0 → IsMarkable plot address
  root_markable address address_held some_address = (let reached = root_led address address_held some_address in markable_again address reached (reached_markable config memory graph asking represents calm address reached))

  marked : KeepsSnapshot config (now Phase) (λ number. now (Grey number)) (λ number. now (Black number)) (λ mutator. now (Count mutator)) (λ mutator entry. now (Buffer mutator entry)) (λ region. now (Top region)) (λ region. now (Tams region)) (λ address. now (Heap address)) plot snapshot
      represents.ghost.recording represents.ghost.scanning
  marked =
      first_marked config memory plot represents.ghost.recording represents.ghost.scanning
      (λ object_address refs nums name has_piece. led object_address (found_held config memory graph asking copies object_address (thing_was found represents.block object_address refs nums name has_piece).1))
      root_markable
      (λ address seat words has_piece. promise_first address seat words (promised_was found represents.block address seat words has_piece))
      divided_again

  -- what slots hold can be reached, and stays
  pin_again : (word : ℕ) (held_pin : Option Pinned) → IsAmong (held_words config memory) word → PinStands config (memory Cset) (memory Evac) represents.block word held_pin → PinStands config (memory Cset) (memory Evac) plot word held_pin
  pin_again word None word_held pin_stands = pin_stands
  pin_again word (Some pinned) word_held pin_stands =
      let above_first = piece_above config memory graph asking represents calm word (thing pinned.name pin_stands.1 pin_stands.2) pin_stands.3.piece in
      let enough_words = config.in_range.least_words in
      let led = root_led word word_held (λ null_word. omega (arith, null_word, above_first, enough_words)) in
      (pin_stands.0, pin_stands.1, pin_stands.2, record { piece = thing_stays found represents.block word pin_stands.1 pin_stands.2 pinned.name (held_found config memory graph asking copies word led) pin_stands.3.piece; safe = pin_stands.3.safe })

  -- what is asked and promised stays
  asked_again : (thread : ℕ) → IsAsked memory represents.block graph.count thread (asking thread) → IsAsked now plot graph.count thread (asking thread)
  asked_again thread asked_before = asked_stays memory now represents.block plot graph.count thread refl refl (λ address words offset has_promise offset_below. refl) (λ address words has_promise. promised_stays found represents.block address thread words has_promise) (λ address words has_promise. promised_was found represents.block address thread words has_promise) (asking thread) asked_before

  abbrev ghost : Ghost
  ghost = record { owner = represents.ghost.owner; snapshot = snapshot; recording = represents.ghost.recording; scanning = represents.ghost.scanning; copying = represents.ghost.copying; working = represents.ghost.working }

  -- nothing has moved, and each root may be used
  still_unmoved : (address refs nums moved_to : ℕ) (name : Name) → plot address ≡ Some (moved name refs nums moved_to) → ⊥
  still_unmoved address refs nums moved_to name has_moved = no_moved config memory graph asking represents calm address refs nums moved_to name (moved_was found represents.block address refs nums moved_to name has_moved)

  roots_usable : AreUsable config (memory Cset) (memory Evac) plot (λ mutator index. memory (Root mutator index))
  roots_usable asked_mutator asked_index mutator_below index_below =
      subst (λ cset. IsUsable config cset (memory Evac) plot (memory (Root asked_mutator asked_index))) (sym calm) (usable_now config (memory Evac) plot still_unmoved (memory (Root asked_mutator asked_index)) (graph.root (asked_mutator + 1) asked_index) (roots_again asked_mutator asked_index mutator_below index_below))

  -- so the words represent the graph, where nobody asks
  pub begun : ((mutator refs nums : ℕ) → mutator < config.mutators → asking mutator ≡ asks refs nums → ⊥) → Represents config now graph asking
  begun nobody = record {
    block = plot;
    ghost = ghost;
    shared = record {
      parsable = record {
        plotted = pruned_plotted found represents.block config top represents.shared.parsable.plotted;
        filled = pruned_filled found represents.block config top represents.shared.parsable.filled;
        promises = λ place seat words has_piece. represents.shared.parsable.promises place seat words (promised_was found represents.block place seat words has_piece);
        deads = λ place words has_piece. (dead_at place words has_piece).0;
        spents = λ place words moved_to has_piece. absurd (no_spent config memory graph asking represents calm place words moved_to (spent_was found represents.block place words moved_to has_piece));
        fillers = λ place words has_piece. represents.shared.parsable.fillers place words (filler_was found represents.block place words has_piece);
      };
      contents = record { objects = objects_again; given = represents.shared.contents.given };
      owned = record {
        free_word = represents.shared.owned.free_word;
        shared_one = represents.shared.owned.shared_one;
        rooms = rooms_stay config represents.block plot same_room represents.shared.owned.rooms;
        buffers = buffers_stay config top top (λ seat. memory (Current seat)) represents.block plot same_room represents.shared.owned.buffers (λ seat has_buffer. omega arith);
        outside = represents.shared.owned.outside;
      };
      phased = record { phase_is = omega arith; cset_is = λ not_collecting. calm; evac_is = λ not_collecting. no_copier };
      unwritten = unwritten_again;
      marked = marked;
      evacuated =
          subst (λ cset. IsEvacuating config 1 cset (memory Evac) 0 (memory Free) top (edge config memory) heap (λ number. 0) plot ghost.owner ghost.copying ghost.working) (sym calm)
          (subst (λ count. IsEvacuating config 1 0 count 0 (memory Free) top (edge config memory) heap (λ number. 0) plot ghost.owner ghost.copying ghost.working) (sym no_copier)
          (none_evacuated config 1 0 (memory Free) top (edge config memory) heap (λ number. 0) plot ghost.owner ghost.copying ghost.working (λ in_phase. omega (arith, in_phase)) still_unmoved
          (λ place words moved_to has_piece. no_spent config memory graph asking represents calm place words moved_to (spent_was found represents.block place words moved_to has_piece)) represents.uncopying.copies_none));
      updated = λ in_phase. absurd (omega (arith, in_phase));
      pinned = λ mutator slot inside few. pin_again (memory (Pin mutator slot)) (graph.pin (mutator + 1) slot) (pin_among config top memory before graph promises holds.objects.plotted holds.rooted mutator slot inside few) (represents.shared.pinned mutator slot inside few);
    };
    roots = roots_again;
    usable = roots_usable;
    none = λ place seat words has_piece. represents.none place seat words (same_room.came place seat (hand seat words) refl has_piece);
    uncarved = λ address seat words has_piece. represents.uncarved address seat words (same_room.came address seat (carved seat words) refl has_piece);
    asked = λ mutator inside. asked_again mutator (represents.asked mutator inside);
    heard = λ mutator refs nums inside has_piece. absurd (nobody mutator refs nums inside has_piece);
    promised_to = λ place seat words has_piece. represents.promised_to place seat words (promised_was found represents.block place seat words has_piece);
    unmarking = record { records_none = represents.unmarking.records_none; scans_none = represents.unmarking.scans_none };
    uncopying = record { copies_none = represents.uncopying.copies_none; works_none = represents.uncopying.works_none };
    no_more = represents.no_more;
    no_more_pins = represents.no_more_pins;
  }
