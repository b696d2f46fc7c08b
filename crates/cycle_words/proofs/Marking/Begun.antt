-- The beginning of marking keeps the graph, and what holds while marking runs holds after it.
use Rattle.std.proofs.Common.{◌≡◌, ◌≢◌, ℕ, ◌+◌, ◌<◌, Bool, true, Option, Some, refl, sym, ap, ◌∙◌, subst, arith}
use Rattle.std.proofs.lemmas.Bool.{true≢false}
use Rattle.heap_words.specs.declared.config.Config.{Config}
use Rattle.heap_words.specs.Words.{Word, Cset, Top, Current, Root, Answer, Pin, Heap}
use Rattle.heap_words.specs.Encoding.{refs_in}
use Rattle.shen_graph.specs.declared.name.Name.{Name}
use Rattle.shen_graph.specs.Graph.{Graph}
use Rattle.heap_world.specs.Walk.{has}
use Rattle.heap_world.specs.World.{Plot, thing, moved, hand, carved, no_ghost, name_at, IsPlotted, AreObjects, AreBuffers, IsMarkable, IsLed}
use Rattle.heap_world.proofs.Pointing.{named_thing}
use Rattle.image_graph.specs.Settled.{buffers_settled}
use Rattle.image_graph.proofs.Settling.{settling_leaves}
use Rattle.image_graph.specs.Divided.{AreDivided}
use Rattle.image_graph.specs.Held.{IsAmong, IsCopy}
use Rattle.image_graph.specs.Full.{held_words, held_in}
use Rattle.image_graph.specs.Promised.{Promises, with_promised}
use Rattle.image_graph.proofs.Reached.{refs_read}
use Rattle.image_graph.proofs.Walked.{held_is_found, found_is_held}
use Rattle.image_graph.proofs.BuffersStay.{buffers_stay}
use Rattle.image_graph.specs.Holds.{HoldsBy}
use Rattle.image_graph.specs.Buffers.{HasNoMoreSeats, settled_block}
use Rattle.cycle_words.specs.Marking.Init.{marking_begun, init_marked, pruned}
use Rattle.cycle_words.specs.Marking.WhileMarking.{CanBeReached, IsMarking}
use Rattle.cycle_words.specs.Marking.Laws.{BeginsMarking, InitMarks}
use Rattle.image_graph.proofs.Loosening.Loosened.{loosened_seats, loosened_sized, loosened_reached}
use Rattle.image_graph.proofs.Loosening.OneBuffer.{HoldsLoosened}
use Rattle.image_graph.proofs.Loosening.AllSettled.{settled_holds}
use Rattle.image_graph.proofs.Loosening.DividedPieces.{holds_divided}
use Rattle.cycle_words.proofs.Marking.Alike.{AreAlike, sized_alike, holds_alike, same_held_words}
use Rattle.cycle_words.proofs.Marking.Plain.{reached_object, root_reached, field_reached, object_above, reach_ind}
use Rattle.cycle_words.proofs.Marking.Trimmed.{IsTrimmed, calm_unmoved, calm_trimmed, trimmed_objects, trimmed_rooted}
use Rattle.cycle_words.proofs.Marking.Pruned.{thing_stays, thing_was, room_was, promised_was, moved_was, pruned_from, pruned_plotted, pruned_filled, pruned_rooms, pruned_sized}
use Rattle.cycle_words.proofs.Marking.FirstSnapshot.{first_snapshot, is_first, first_marked}

-- Marking begins at words that hold a graph, and leaves those objects that are found: exactly what can be reached.
module _ (config : Config) (memory : Word → ℕ) (block : Plot) (owner : ℕ → Option ℕ) (promises : Promises) (graph : Graph) (graph_held : HoldsBy config memory block owner promises graph) (set_empty : memory Cset ≡ 0)
    (found : ℕ → Bool) (is_found : (asked_address : ℕ) → CanBeReached config memory asked_address → found asked_address ≡ true) (reached : (asked_address : ℕ) → found asked_address ≡ true → CanBeReached config memory asked_address) where
  abbrev now : Word → ℕ
  now = marking_begun config memory

  alike : AreAlike memory now
  alike = record {
    heap = λ asked_address. refl;
    top = λ r. refl;
    root = λ t i. refl;
    answer = λ t. refl;
    wait = λ t. refl;
    current = λ s. refl;
    free = refl;
    cset = refl;
    share = refl;
    pin = λ t i. refl;
  }

  abbrev heap : ℕ → ℕ
  heap address = memory (Heap address)

  abbrev top : ℕ → ℕ
  top region = memory (Top region)

  abbrev pub left : Plot
  left = pruned found block

  -- what can be reached stays an object, and no other
  reached_stays : (address : ℕ) → CanBeReached config memory address → left address ≡ block address
  reached_stays address can_reach =
      let found_object = reached_object config memory block owner promises graph graph_held set_empty address can_reach in
      thing_stays found block address found_object.refs found_object.nums found_object.name (is_found address can_reach) found_object.here ∙ sym found_object.here

  was : (address refs nums : ℕ) (name : Name) → left address ≡ Some (thing name refs nums) → block address ≡ Some (thing name refs nums)
  was address refs nums name left_there = (thing_was found block address refs nums name left_there).0

  unmoved : (address refs nums new_address : ℕ) (name : Name) → left address ≡ Some (moved name refs nums new_address) → ⊥
  unmoved address refs nums new_address name left_there =
      let moved_there = moved_was found block address refs nums new_address name left_there in
      let object = graph_held.pieces.named address name (ap name_at moved_there) in
      let differ = sym moved_there ∙ object.2 in
      cc

  named : (address : ℕ) (name : Name) → name_at (left address) ≡ Some name → IsCopy left address name
  named address name left_named = named_thing (left address) name (λ refs nums new_address. unmoved address refs nums new_address name) left_named

  plotted : IsPlotted config top left
  plotted = pruned_plotted found block config top graph_held.objects.plotted

  trimmed : IsTrimmed config memory block top left
  trimmed = calm_trimmed config memory block owner promises graph graph_held set_empty top left plotted reached_stays named was

  buffers : AreBuffers config top (λ seat. memory (Current seat)) left
  buffers = buffers_stay config top top (λ seat. memory (Current seat)) block left (pruned_rooms found block) graph_held.buffers (λ seat some_buffer. omega arith)

  pub left_holds : HoldsBy config memory left owner promises graph
  left_holds = record {
    objects = trimmed_objects config memory block owner promises graph graph_held top left trimmed;
    rooted = trimmed_rooted config memory block owner promises graph graph_held top left trimmed;
    moved = λ address refs nums name piece_there object_forwarded. absurd (true≢false (sym object_forwarded ∙ calm_unmoved config memory block owner promises graph graph_held set_empty address refs nums name (was address refs nums name piece_there)));
    filled = pruned_filled found block config top graph_held.filled;
    pieces = record {
      named = named;
      unpromised = λ address seat words piece_there. graph_held.pieces.unpromised address seat words (promised_was found block address seat words piece_there);
      unheld = λ address seat words piece_there. graph_held.pieces.unheld address seat words (room_was found block address seat (hand seat words) refl piece_there);
      uncarved = λ address seat words piece_there. graph_held.pieces.uncarved address seat words (room_was found block address seat (carved seat words) refl piece_there);
      some = λ asked_address piece piece_there. (let from = pruned_from found block asked_address piece piece_there in let some_words = graph_held.pieces.some asked_address from.0 from.1 in omega (arith, some_words, from.2));
    };
    free_word = graph_held.free_word;
    shared_one = graph_held.shared_one;
    buffers = buffers;
    asking = graph_held.asking;
    next = graph_held.next;
    unreached = graph_held.unreached;
  }

  -- each object that is left can be reached, so it is one of the graph
  thing_reached : (address refs nums : ℕ) (name : Name) → left address ≡ Some (thing name refs nums) → CanBeReached config memory address
  thing_reached address refs nums name left_there = reached address (thing_was found block address refs nums name left_there).1

  objects : AreObjects heap left (with_promised graph promises).object
  objects = record {
    each = λ address refs nums name left_there. left_holds.objects.each address refs nums name (thing_reached address refs nums name left_there) left_there;
    once = λ asked_address other_address refs nums other_refs other_nums name first_there second_there.
        left_holds.objects.once asked_address other_address refs nums other_refs other_nums name (thing_reached asked_address refs nums name first_there) (thing_reached other_address other_refs other_nums name second_there) first_there second_there;
  }

  reached_thing : (address : ℕ) → CanBeReached config memory address → IsMarkable left address
  reached_thing address can_reach = let found_object = reached_object config memory left owner promises graph left_holds set_empty address can_reach in IsMarkable.object found_object.name found_object.refs found_object.nums found_object.here

  root_markable : (address : ℕ) → IsAmong (held_words config memory) address → address ≢ 0 → IsMarkable left address
  root_markable address address_held some_address = reached_thing address (root_reached config memory left owner promises graph left_holds set_empty address address_held some_address)

  -- roots, answers and pin slots lead to it
  led : (address : ℕ) → CanBeReached config memory address → IsLed (first_snapshot config memory left) address
  led = reach_ind config memory left owner promises graph left_holds set_empty (IsLed (first_snapshot config memory left))
      (λ word root_word not_null.
      let found_object = reached_object config memory left owner promises graph left_holds set_empty word (root_reached config memory left owner promises graph left_holds set_empty word root_word not_null) in
      IsLed.by_start word (is_first config memory left word (object_above config memory left owner promises graph left_holds set_empty word found_object.refs found_object.nums found_object.name found_object.here).0 root_word))
      (λ address index can_reach so_far few not_null.
      let found_object = reached_object config memory left owner promises graph left_holds set_empty address can_reach in
      let same_shape : refs_in (heap (address + 1)) ≡ found_object.refs = ap refs_in found_object.shape ∙ refs_read found_object.refs found_object.nums found_object.few_refs found_object.few_nums in
      IsLed.by_field address found_object.refs found_object.nums index found_object.name so_far found_object.here (omega (arith, few, same_shape)) not_null)

  -- where edges divide these pieces
  pub marking : AreDivided config memory left → IsMarking config now left
  marking divided = record {
    ghost = record { owner = no_ghost.owner; snapshot = first_snapshot config memory left; recording = no_ghost.recording; scanning = no_ghost.scanning; copying = no_ghost.copying; working = no_ghost.working };
    object = (with_promised graph promises).object;
    marked = first_marked config memory left no_ghost.recording no_ghost.scanning (λ address refs nums name left_there. led address (thing_reached address refs nums name left_there)) root_markable
        (λ address seat words left_there. absurd (left_holds.pieces.unpromised address seat words left_there)) divided;
    unmarking = record { records_none = λ seat inside. refl; scans_none = λ seat inside. refl };
    objects = objects;
    uncollected = set_empty;
  }

  pub begun : (plot : Plot) → HoldsBy config memory plot owner promises graph → HoldsBy config now plot owner promises graph
  begun plot held_before = holds_alike memory now alike config plot owner promises graph held_before

-- Buffers are settled first, by which nothing becomes reachable, or ceases to be.
module _ (config : Config) (memory : Word → ℕ) (block : Plot) (owner : ℕ → Option ℕ) (promises : Promises) (graph : Graph) (graph_held : HoldsBy config memory block owner promises graph) (set_empty : memory Cset ≡ 0) (seats : HasNoMoreSeats config memory) where
  abbrev settled_memory : Word → ℕ
  settled_memory = buffers_settled config memory

  abbrev settled : Plot
  settled = settled_block config memory block

  after : HoldsLoosened config memory settled_memory block settled owner promises graph
  after = settled_holds config memory block owner promises graph graph_held seats

  still_calm : settled_memory Cset ≡ 0
  still_calm = after.loosened.others Cset refl ∙ set_empty

  still_seats : HasNoMoreSeats config settled_memory
  still_seats = loosened_seats config memory settled_memory block settled after.loosened seats

  abbrev found : ℕ → Bool
  found = has (held_in config memory)

  same_roots : held_words config settled_memory ≡ held_words config memory
  same_roots = same_held_words memory settled_memory (λ mutator index. after.loosened.others (Root mutator index) refl) (λ mutator. after.loosened.others (Answer mutator) refl) (λ mutator slot. after.loosened.others (Pin mutator slot) refl) config

  was_reached : (address : ℕ) → CanBeReached config settled_memory address → CanBeReached config memory address
  was_reached = loosened_reached config memory settled_memory block settled owner promises graph graph_held after.loosened after.holds.objects.plotted

  still_reached : (address : ℕ) → CanBeReached config memory address → CanBeReached config settled_memory address
  still_reached = reach_ind config memory block owner promises graph graph_held set_empty (CanBeReached config settled_memory)
      (λ word root_word not_null. root_reached config settled_memory settled owner promises graph after.holds still_calm word (ap (λ xs. has xs word) same_roots ∙ root_word) not_null)
      (λ address index can_reach so_far few not_null.
      let found_object = reached_object config memory block owner promises graph graph_held set_empty address can_reach in
      let reads : refs_in (memory (Heap (address + 1))) ≡ found_object.refs = ap refs_in found_object.shape ∙ refs_read found_object.refs found_object.nums found_object.few_refs found_object.few_nums in
      let same_shape : settled_memory (Heap (address + 1)) ≡ memory (Heap (address + 1)) = after.loosened.words address 1 (thing found_object.name found_object.refs found_object.nums) refl found_object.here (omega arith) in
      let same_place : address + 3 + index ≡ address + (3 + index) = omega arith in
      let same_word : settled_memory (Heap (address + 3 + index)) ≡ memory (Heap (address + 3 + index)) =
      ap (λ address. settled_memory (Heap address)) same_place ∙ after.loosened.words address (3 + index) (thing found_object.name found_object.refs found_object.nums) refl found_object.here (omega (arith, few, reads)) ∙ ap (λ address. memory (Heap address)) (sym same_place) in
      subst (CanBeReached config settled_memory) same_word
      (field_reached config settled_memory settled owner promises graph after.holds still_calm address index so_far (subst (λ field_count. index < field_count) (sym (ap refs_in same_shape)) few) (λ null_word. not_null (sym same_word ∙ null_word))))

  is_found : (address : ℕ) → CanBeReached config settled_memory address → found address ≡ true
  is_found address can_reach = held_is_found config memory block (with_promised graph promises) graph_held.objects address (was_reached address can_reach)

  reached : (address : ℕ) → found address ≡ true → CanBeReached config settled_memory address
  reached address found_address = still_reached address (found_is_held config memory block (with_promised graph promises) graph_held.objects address found_address)

  abbrev plot : Plot
  plot = left config settled_memory settled owner promises graph after.holds still_calm found is_found reached

  left_then : HoldsBy config settled_memory plot owner promises graph
  left_then = left_holds config settled_memory settled owner promises graph after.holds still_calm found is_found reached

  pub marking_begins : BeginsMarking config memory (init_marked config memory) block owner promises graph
  marking_begins = record {
    holds = begun config settled_memory settled owner promises graph after.holds still_calm found is_found reached settled after.holds;
    left = begun config settled_memory settled owner promises graph after.holds still_calm found is_found reached plot left_then;
    marking = marking config settled_memory settled owner promises graph after.holds still_calm found is_found reached (holds_divided config settled_memory plot owner promises graph left_then still_seats (settling_leaves config memory).last);
    sized = λ sized. sized_alike settled_memory (init_marked config memory) plot (λ a. refl) (pruned_sized found settled settled_memory (loosened_sized config memory settled_memory block settled owner promises graph graph_held after.loosened sized));
  }

pub init_marks : InitMarks
init_marks config memory block owner promises graph graph_held set_empty seats = marking_begins config memory block owner promises graph graph_held set_empty seats
