-- Evacuation begins: words that held a graph hold it once roots and answers were cleared of the collection set.
use Rattle.std.proofs.Common.{◌≡◌, ◌≢◌, ℕ, ◌+◌, ◌^◌, ◌<◌, ◌≤◌, ◌==◌, if◌then◌else◌, nat_le, true, false, List, [], ◌∷◌, Option, Some, inl, inr, refl, sym, ap, ◌∙◌, subst, ⊎_elim, arith}
use Rattle.std.specs.Prelude.{Contains}
use Rattle.std.specs.Int.{bit_at}
use Rattle.std.proofs.Math.Path.{fun_ext}
use Rattle.std.proofs.lemmas.Bool.{cases_Bool, cases_eq, false_from_ne_true, true≢false, cond-true, cond-false, and_parts, leb-true, eqb-true, eq-eqb, ne_eqb}
use Rattle.std.proofs.lemmas.Nat.{pow_pos}
use Rattle.std.proofs.lemmas.Nat.Bits.{bit_at-zero}
use Rattle.heap_words.specs.declared.config.Config.{Config}
use Rattle.heap_words.specs.Words.{Word, Cset, Top, Tams, Root, Answer, Heap, Share, Pin, write}
use Rattle.heap_words.specs.Encoding.{is_forwarded, forwardee_in, object_words}
use Rattle.regions.specs.Place.{region_with}
use Rattle.shen_graph.specs.declared.name.Name.{Name}
use Rattle.shen_graph.specs.Graph.{Graph}
use Rattle.heap_world.specs.World.{Plot, thing, IsCollected, AreYoungRooms}
use Rattle.heap_world.proofs.Pointing.{named_if_not_0}
use Rattle.image_graph.specs.Held.{IsLedTo, from_root, IsAmong, HoldsGraph}
use Rattle.image_graph.specs.Full.{now_in, held_words}
use Rattle.image_graph.specs.Promised.{Promises, with_promised}
use Rattle.image_graph.specs.Serving.{AreAsking}
use Rattle.image_graph.proofs.Reached.{words_read}
use Rattle.image_graph.proofs.HeldRoots.{root_among, answer_among, answer_names}
use Rattle.image_graph.specs.Holds.{HoldsBy, AreSized}
use Rattle.cycle_words.proofs.Marking.Alike.{sized_alike, same_held_words, holds_alike}
use Rattle.cycle_words.proofs.Marking.Dead.{seated}
use Rattle.cycle_words.specs.Evacuation.Live.{words_at, live_words, is_candidate, IsCandidate}
use Rattle.cycle_words.specs.Evacuation.Choice.{copy_limit, chosen}
use Rattle.cycle_words.specs.Evacuation.Copied.{copy_room, copied_out, IsCopiedOut}
use Rattle.cycle_words.specs.Evacuation.Begun.{CanBegin, CanClear, CanClearInTurn, naming_places, IsNaming, is_collected, moved_out, cleared_at, cleared_in_turn, with_set, roots_cleared, evac_spared, evac_started, evac_begun}
use Rattle.cycle_words.proofs.Evacuation.Naming.{copied_naming, is_later, is_first}
use Rattle.cycle_words.proofs.Evacuation.NamingPlaces.{IsPlace, are_places}
use Rattle.cycle_words.proofs.Evacuation.CopiedOut.{copies_out}
use Rattle.cycle_words.proofs.Evacuation.Copies.{cleared_is, spared_is}
use Rattle.cycle_words.proofs.Evacuation.Clearing.{can_clear_in_turn}
use Rattle.image_graph.proofs.Carried.{IsRenamed}
use Rattle.cycle_words.proofs.Evacuation.CopyHolds as copy
use Rattle.cycle_words.proofs.Evacuation.CopyHolds.{IsInOrder}
use Rattle.cycle_words.proofs.Evacuation.RenamedInPlace.{root_renamed, root_reached, answer_renamed, answer_reached}
use Rattle.cycle_words.specs.StillHolds.{PiecesStay, HoldsStill, IsUnpinned}
use Rattle.cycle_words.proofs.Pinned.{PinsOutside, pins_outside, unpinned_inside, still_outside}
use Rattle.cycle_words.specs.Evacuation.Laws.{HoldsCollecting}
use Rattle.cycle_words.specs.Marking.Marks.{is_black}
use Rattle.cycle_words.specs.Marking.WhileMarking.{IsObjectAt, CanBeReached, IsMarkedThrough}
use Rattle.image_graph.specs.Buffers.{HasNoMoreSeats}
use Rattle.cycle_words.proofs.Evacuation.Candidate.{candidate_is_candidate}
use Rattle.cycle_words.specs.Evacuation.Front.{is_in_front}
use Rattle.cycle_words.proofs.Evacuation.Front.{member_is}
use Rattle.cycle_words.proofs.Marking.Bits.{bits_small}
use Rattle.regions.specs.Sets.{IsIn}

-- the words hold the graph still, and what holds of the set does; pin slots are as they were
record StillSo (config : Config) (before after : Word → ℕ) (block : Plot) (owner : ℕ → Option ℕ) (promises : Promises) (graph : Graph) : Type 0 where
  pieces : Plot
  stay : PiecesStay block pieces
  set : after Cset ≡ before Cset
  holds : HoldsBy config after pieces owner promises graph
  sized : AreSized before block → AreSized after pieces
  order : IsInOrder config before block → IsInOrder config after pieces
  pins : (mutator index : ℕ) → after (Pin mutator index) ≡ before (Pin mutator index)

module _ (config : Config) (memory : Word → ℕ) (block : Plot) (owner : ℕ → Option ℕ) (promises : Promises) (graph : Graph) (graph_held : HoldsBy config memory block owner promises graph) (apart : PinsOutside config memory) where
  abbrev top : ℕ → ℕ
  top region = memory (Top region)

  abbrev IsLed : ℕ → Type 0
  IsLed = IsLedTo (now_in memory) (λ address. memory (Heap address)) (IsAmong (held_words config memory))

  -- what held stays where nothing changes
  as_it_is : StillSo config memory memory block owner promises graph
  as_it_is = record { pieces = block; stay = λ address piece piece_there. piece_there; set = refl; holds = graph_held; sized = λ sized. sized; order = λ order. order; pins = λ t i. refl }

  -- an object of the set to which a root or an answer leads is copied out, unless it was before
  module _ (address refs nums : ℕ) (name : Name) (object_there : block address ≡ Some (thing name refs nums)) (led : IsLed (now_in memory address)) (address_collected : is_collected config memory address ≡ true) (can_clear : CanClear config memory address) where
    above : config.region_words ≤ address
    above = leb-true config.region_words address (and_parts (nat_le config.region_words address) (bit_at (memory Cset) (region_with config address) == 1) address_collected).0

    inside : IsCollected config (memory Cset) address
    inside = eqb-true (bit_at (memory Cset) (region_with config address)) 1 (and_parts (nat_le config.region_words address) (bit_at (memory Cset) (region_with config address) == 1) address_collected).1

    -- no pin slot holds it
    unpinned : IsUnpinned config memory address
    unpinned = unpinned_inside config memory apart address address_collected

    module _ (not_forwarded : is_forwarded (memory (Heap address)) ≡ false) where
      size : words_at memory address ≡ 3 + refs + nums
      size =
          let own_address : now_in memory address ≡ address = cond-false (is_forwarded (memory (Heap address))) (forwardee_in (memory (Heap address))) address not_forwarded in
          let object = graph_held.objects.each address refs nums name (subst IsLed own_address led) object_there in
          ap object_words object.2.shape ∙ words_read refs nums object.2.few_refs object.2.few_nums

      out : IsCopiedOut config memory (copied_out config memory address) address
      out = copies_out config memory address above inside (can_clear.room address_collected not_forwarded)

      copied : StillSo config memory (copied_out config memory address) block owner promises graph
      copied = record {
        pieces = copy.plot config memory block owner promises graph graph_held address (thing name refs nums) object_there refl inside not_forwarded unpinned size out;
        stay = copy.stays config memory block owner promises graph graph_held address (thing name refs nums) object_there refl inside not_forwarded unpinned size out;
        set = copy.set_same config memory block owner promises graph graph_held address (thing name refs nums) object_there refl inside not_forwarded unpinned size out;
        holds = copy.copied_holds config memory block owner promises graph graph_held address (thing name refs nums) object_there refl inside not_forwarded unpinned size out;
        sized = copy.copied_sized config memory block owner promises graph graph_held address (thing name refs nums) object_there refl inside not_forwarded unpinned size out;
        order = copy.order_still config memory block owner promises graph graph_held address (thing name refs nums) object_there refl inside not_forwarded unpinned size out;
        pins = copy.pin_same config memory block owner promises graph graph_held address (thing name refs nums) object_there refl inside not_forwarded unpinned size out;
      }

      is_copied : copied_out config memory address ≡ moved_out config memory address
      is_copied = fun_ext (λ word. sym (cond-false (is_forwarded (memory (Heap address))) (memory word) (copied_out config memory address word) not_forwarded))

    moved : StillSo config memory (moved_out config memory address) block owner promises graph
    moved = ⊎_elim
        (λ (was_forwarded : is_forwarded (memory (Heap address)) ≡ true).
        let same_memory : memory ≡ moved_out config memory address = fun_ext (λ word. sym (cond-true (is_forwarded (memory (Heap address))) (memory word) (copied_out config memory address word) was_forwarded)) in
        subst (λ next_memory. StillSo config memory next_memory block owner promises graph) same_memory as_it_is)
        (λ (not_forwarded : is_forwarded (memory (Heap address)) ≡ false). subst (λ next_memory. StillSo config memory next_memory block owner promises graph) (is_copied not_forwarded) (copied not_forwarded))
        (cases_Bool (is_forwarded (memory (Heap address))))

    -- a word that names objects is as it was
    naming_same : (place : Word) → IsNaming place → moved_out config memory address place ≡ memory place
    naming_same place naming = ⊎_elim
        (λ (was_forwarded : is_forwarded (memory (Heap address)) ≡ true). cond-true (is_forwarded (memory (Heap address))) (memory place) (copied_out config memory address place) was_forwarded)
        (λ (not_forwarded : is_forwarded (memory (Heap address)) ≡ false).
        cond-false (is_forwarded (memory (Heap address))) (memory place) (copied_out config memory address place) not_forwarded ∙ copied_naming config memory address (copy_room config memory address) place naming)
        (cases_Bool (is_forwarded (memory (Heap address))))

    -- where it named the object it is renamed
    renamed : (place : Word) → IsNaming place → memory place ≡ address → IsRenamed (moved_out config memory address) (moved_out config memory address place) (now_in (moved_out config memory address) address)
    renamed place naming named =
        let same_address : moved_out config memory address place ≡ address = naming_same place naming ∙ named in
        record {
          small = λ low. absurd (let region_long = config.in_range.least_words in let address_least = above in omega (arith, low, same_address, address_least, region_long));
          either = inr (ap (now_in (moved_out config memory address)) (sym same_address));
        }

  -- a root is cleared
  root_cleared : (mutator index : ℕ) → mutator < config.mutators → index < 16 → CanClear config memory (memory (Root mutator index)) → is_collected config memory (memory (Root mutator index)) ≡ true → StillSo config memory (cleared_at config memory (Root mutator index)) block owner promises graph
  root_cleared mutator index mutator_below index_below can_clear root_collected =
      let address_least = leb-true config.region_words (memory (Root mutator index)) (and_parts (nat_le config.region_words (memory (Root mutator index))) (bit_at (memory Cset) (region_with config (memory (Root mutator index))) == 1) root_collected).0 in
      let some_address : memory (Root mutator index) ≢ 0 = λ no_address. (let region_long = config.in_range.least_words in omega (arith, no_address, address_least, region_long)) in
      let named = named_if_not_0 config top block graph_held.objects.plotted (memory (Root mutator index)) (graph.root (mutator + 1) index) (graph_held.rooted.roots mutator index mutator_below index_below) some_address in
      let named_object = graph_held.pieces.named (memory (Root mutator index)) named.0 named.2 in
      let led : IsLed (now_in memory (memory (Root mutator index))) = from_root (memory (Root mutator index)) (root_among config top memory block graph promises graph_held.objects.plotted graph_held.rooted mutator index mutator_below index_below) some_address in
      let object_moved = moved (memory (Root mutator index)) named_object.0 named_object.1 named.0 named_object.2 led root_collected can_clear in
      subst (λ next_memory. StillSo config memory next_memory block owner promises graph) (sym (cleared_is config memory (Root mutator index) root_collected))
      (record {
        pieces = object_moved.pieces;
        stay = object_moved.stay;
        set = object_moved.set;
        holds = root_renamed config (moved_out config memory (memory (Root mutator index))) object_moved.pieces owner promises graph object_moved.holds (now_in (moved_out config memory (memory (Root mutator index))) (memory (Root mutator index))) mutator index
            (renamed (memory (Root mutator index)) named_object.0 named_object.1 named.0 named_object.2 led root_collected can_clear (Root mutator index) tt refl);
        sized = λ sized. sized_alike (moved_out config memory (memory (Root mutator index))) (write (moved_out config memory (memory (Root mutator index))) (Root mutator index) (now_in (moved_out config memory (memory (Root mutator index))) (memory (Root mutator index)))) object_moved.pieces (λ address. refl) (object_moved.sized sized);
        order = λ order.
            let next_order = object_moved.order order in
            record {
              marked = next_order.marked;
              reachable = λ reached_address reached. next_order.reachable reached_address
                  (root_reached config (moved_out config memory (memory (Root mutator index))) object_moved.pieces owner promises graph object_moved.holds (now_in (moved_out config memory (memory (Root mutator index))) (memory (Root mutator index))) mutator index
                  (renamed (memory (Root mutator index)) named_object.0 named_object.1 named.0 named_object.2 led root_collected can_clear (Root mutator index) tt refl) reached_address reached);
              no_new = next_order.no_new;
              floors = next_order.floors;
              unseated = next_order.unseated;
              young = next_order.young;
            };
        pins = object_moved.pins;
      })

  -- an answer is cleared
  answer_cleared : (mutator : ℕ) → mutator < config.mutators → CanClear config memory (memory (Answer mutator)) → is_collected config memory (memory (Answer mutator)) ≡ true → StillSo config memory (cleared_at config memory (Answer mutator)) block owner promises graph
  answer_cleared mutator mutator_below can_clear answer_collected =
      let address_least = leb-true config.region_words (memory (Answer mutator)) (and_parts (nat_le config.region_words (memory (Answer mutator))) (bit_at (memory Cset) (region_with config (memory (Answer mutator))) == 1) answer_collected).0 in
      let big : 1 < memory (Answer mutator) = (let region_long = config.in_range.least_words in omega (arith, address_least, region_long)) in
      let named = answer_names config top memory block graph promises graph_held.objects.plotted graph_held.rooted (memory (Answer mutator)) (promises.ref (mutator + 1)) big (graph_held.rooted.answers mutator mutator_below) in
      let named_object = graph_held.pieces.named (memory (Answer mutator)) named.0 named.2 in
      let led : IsLed (now_in memory (memory (Answer mutator))) = from_root (memory (Answer mutator)) (answer_among config top memory block graph promises graph_held.objects.plotted graph_held.rooted mutator mutator_below big) (λ no_address. omega (arith, no_address, big)) in
      let object_moved = moved (memory (Answer mutator)) named_object.0 named_object.1 named.0 named_object.2 led answer_collected can_clear in
      subst (λ next_memory. StillSo config memory next_memory block owner promises graph) (sym (cleared_is config memory (Answer mutator) answer_collected))
      (record {
        pieces = object_moved.pieces;
        stay = object_moved.stay;
        set = object_moved.set;
        holds = answer_renamed config (moved_out config memory (memory (Answer mutator))) object_moved.pieces owner promises graph object_moved.holds (now_in (moved_out config memory (memory (Answer mutator))) (memory (Answer mutator))) mutator
            (renamed (memory (Answer mutator)) named_object.0 named_object.1 named.0 named_object.2 led answer_collected can_clear (Answer mutator) tt refl);
        sized = λ sized. sized_alike (moved_out config memory (memory (Answer mutator))) (write (moved_out config memory (memory (Answer mutator))) (Answer mutator) (now_in (moved_out config memory (memory (Answer mutator))) (memory (Answer mutator)))) object_moved.pieces (λ address. refl) (object_moved.sized sized);
        order = λ order.
            let next_order = object_moved.order order in
            record {
              marked = next_order.marked;
              reachable = λ reached_address reached. next_order.reachable reached_address
                  (answer_reached config (moved_out config memory (memory (Answer mutator))) object_moved.pieces owner promises graph object_moved.holds (now_in (moved_out config memory (memory (Answer mutator))) (memory (Answer mutator))) mutator
                  (renamed (memory (Answer mutator)) named_object.0 named_object.1 named.0 named_object.2 led answer_collected can_clear (Answer mutator) tt refl) reached_address reached);
              no_new = next_order.no_new;
              floors = next_order.floors;
              unseated = next_order.unseated;
              young = next_order.young;
            };
        pins = object_moved.pins;
      })

  spared : (place : Word) → is_collected config memory (memory place) ≡ false → StillSo config memory (cleared_at config memory place) block owner promises graph
  spared place outside = subst (λ next_memory. StillSo config memory next_memory block owner promises graph) (sym (spared_is config memory place outside)) as_it_is

  place_cleared : (place : Word) → IsPlace config place → CanClear config memory (memory place) → StillSo config memory (cleared_at config memory place) block owner promises graph
  place_cleared (Root mutator index) place can_clear = ⊎_elim
      (λ (word_collected : is_collected config memory (memory (Root mutator index)) ≡ true). root_cleared mutator index place.0 place.1 can_clear word_collected)
      (λ (outside : is_collected config memory (memory (Root mutator index)) ≡ false). spared (Root mutator index) outside)
      (cases_Bool (is_collected config memory (memory (Root mutator index))))
  place_cleared (Answer mutator) place can_clear = ⊎_elim
      (λ (word_collected : is_collected config memory (memory (Answer mutator)) ≡ true). answer_cleared mutator place can_clear word_collected)
      (λ (outside : is_collected config memory (memory (Answer mutator)) ≡ false). spared (Answer mutator) outside)
      (cases_Bool (is_collected config memory (memory (Answer mutator))))
  place_cleared _ place can_clear = absurd place

-- All places are cleared, one after the other.
all_cleared : (config : Config) (owner : ℕ → Option ℕ) (promises : Promises) (graph : Graph) (places : List Word) (memory : Word → ℕ) (block : Plot)
    → ((place : Word) → Contains places place → IsPlace config place) → HoldsBy config memory block owner promises graph → PinsOutside config memory → CanClearInTurn config memory places
    → StillSo config memory (cleared_in_turn config memory places) block owner promises graph
unfolding cleared_in_turn CanClearInTurn
all_cleared config owner promises graph [] memory block each_is_place graph_held apart can_clear = record { pieces = block; stay = λ address piece piece_there. piece_there; set = refl; holds = graph_held; sized = λ sized. sized; order = λ order. order; pins = λ mutator slot. refl }
all_cleared config owner promises graph (place ∷ places) memory block each_is_place graph_held apart can_clear =
    let first_cleared = place_cleared config memory block owner promises graph graph_held apart place (each_is_place place (is_first place places)) can_clear.0 in
    let rest_cleared = all_cleared config owner promises graph places (cleared_at config memory place) first_cleared.pieces (λ later_place has_place. each_is_place later_place (is_later place places later_place has_place)) first_cleared.holds
    (still_outside config memory (cleared_at config memory place) first_cleared.pins first_cleared.set apart) can_clear.1 in
    record { pieces = rest_cleared.pieces; stay = λ address piece piece_there. rest_cleared.stay address piece (first_cleared.stay address piece piece_there); set = rest_cleared.set ∙ first_cleared.set; holds = rest_cleared.holds; sized = λ sized. rest_cleared.sized (first_cleared.sized sized); order = λ order. rest_cleared.order (first_cleared.order order); pins = λ mutator slot. rest_cleared.pins mutator slot ∙ first_cleared.pins mutator slot }

-- A collection set may be stored where no object has moved, if the shared region lies outside.
module _ (config : Config) (memory : Word → ℕ) (block : Plot) (owner : ℕ → Option ℕ) (promises : Promises) (graph : Graph) (graph_held : HoldsBy config memory block owner promises graph)
    (headers_plain : (a refs nums : ℕ) (name : Name) → block a ≡ Some (thing name refs nums) → is_forwarded (memory (Heap a)) ≡ false)
    (set : ℕ) (away : (r : ℕ) → memory Share ≡ r + 1 → IsIn set r → ⊥) where
  asking : AreAsking config (with_set memory set) graph promises 0
  asking mutator from mutator_below some_wait =
      let was_asking = graph_held.asking mutator from mutator_below some_wait in
      record { shape = was_asking.shape; few_refs = was_asking.few_refs; few_nums = was_asking.few_nums; unanswered = was_asking.unanswered; new = was_asking.new }

  pub set_stored_holds : HoldsBy config (with_set memory set) block owner promises graph
  set_stored_holds = record {
    objects = subst (λ xs. HoldsGraph config (λ region. memory (Top region)) (λ address. memory (Heap address)) block (now_in memory) (IsAmong xs) (with_promised graph promises))
        (sym (same_held_words memory (with_set memory set) (λ t i. refl) (λ t. refl) (λ t i. refl) config)) graph_held.objects;
    rooted = record { roots = graph_held.rooted.roots; answers = graph_held.rooted.answers; no_more_roots = graph_held.rooted.no_more_roots; pins = graph_held.rooted.pins; no_more_pins = graph_held.rooted.no_more_pins; no_more_promised = graph_held.rooted.no_more_promised };
    moved = λ object_address refs nums name thing_stands header_forwarded. absurd (true≢false (sym header_forwarded ∙ headers_plain object_address refs nums name thing_stands));
    filled = graph_held.filled;
    pieces = graph_held.pieces;
    free_word = graph_held.free_word;
    shared_one = λ shared_region thing_stands. let was_shared = graph_held.shared_one shared_region thing_stands in record { within = was_shared.within; in_use = was_shared.in_use; nobodys = was_shared.nobodys; outside = away shared_region thing_stands };
    buffers = graph_held.buffers;
    asking = asking;
    next = record { asked = graph_held.next.asked; promised = graph_held.next.promised; given = graph_held.next.given };
    unreached = graph_held.unreached;
  }

-- Evacuation begins from words without a collection set, in which no object has moved.
module _ (config : Config) (start_memory : Word → ℕ) (block : Plot) (owner : ℕ → Option ℕ) (promises : Promises) (graph : Graph) (graph_held : HoldsBy config start_memory block owner promises graph) (cset_empty : start_memory Cset ≡ 0) (can_begin : CanBegin config start_memory) where
  abbrev set : ℕ
  set = chosen config start_memory

  abbrev with : Word → ℕ
  with = with_set start_memory set

  unmoved : (address refs nums : ℕ) (name : Name) → block address ≡ Some (thing name refs nums) → is_forwarded (start_memory (Heap address)) ≡ false
  unmoved address refs nums name object_there = false_from_ne_true (is_forwarded (start_memory (Heap address))) (λ forwarded.
      let was_moved = graph_held.moved address refs nums name object_there forwarded in
      let not_chosen : bit_at (start_memory Cset) (region_with config address) ≡ 0 = ap (λ set. bit_at set (region_with config address)) cset_empty ∙ bit_at-zero (region_with config address) in
      let region_in_set = was_moved.in_set in
      omega (arith, region_in_set, not_chosen))

  -- a region of the choice is a candidate
  chosen_is : (region : ℕ) → IsIn set region → IsCandidate config start_memory region
  chosen_is region region_in_set = (candidate_is_candidate config start_memory region).0 (member_is config.regions (copy_limit config start_memory) (live_words config start_memory) (is_candidate config start_memory) region region_in_set).1

  set_holds : HoldsBy config with block owner promises graph
  set_holds = set_stored_holds config start_memory block owner promises graph graph_held unmoved set (λ region is_chosen member. (chosen_is region member).nobodys (inl is_chosen))

  -- for no candidate is pinned
  apart : PinsOutside config with
  apart = pins_outside config with (λ region member. (chosen_is region member).unpinned)

  abbrev cleared : Word → ℕ
  cleared = roots_cleared config start_memory set

  all : StillSo config with cleared block owner promises graph
  all = all_cleared config owner promises graph (naming_places config) with block (are_places config) set_holds apart (can_clear_in_turn config start_memory can_begin)

  begun_some : HoldsStill config start_memory (evac_started cleared) block owner promises graph
  begun_some = record {
    pieces = all.pieces;
    stay = all.stay;
    holds = holds_alike cleared (evac_started cleared)
        (record { heap = λ a. refl; top = λ r. refl; root = λ t i. refl; answer = λ t. refl; wait = λ t. refl; current = λ s. refl; free = refl; cset = refl; share = refl; pin = λ t i. refl })
        config all.pieces owner promises graph all.holds;
    sized = λ sized. sized_alike cleared (evac_started cleared) all.pieces (λ a. refl) (all.sized (sized_alike start_memory with block (λ a. refl) sized));
  }

  begun_none : HoldsStill config start_memory (evac_spared start_memory) block owner promises graph
  begun_none = record {
    pieces = block;
    stay = λ address piece piece_there. piece_there;
    holds = holds_alike start_memory (evac_spared start_memory)
        (record { heap = λ address. refl; top = λ r. refl; root = λ t i. refl; answer = λ t. refl; wait = λ t. refl; current = λ s. refl; free = refl; cset = sym cset_empty; share = refl; pin = λ t i. refl })
        config block owner promises graph graph_held;
    sized = λ sized. sized_alike start_memory (evac_spared start_memory) block (λ address. refl) sized;
  }

  none_is : set ≡ 0 → evac_spared start_memory ≡ evac_begun config start_memory set
  none_is no_set = fun_ext (λ word. sym (cond-true (set == 0) (evac_spared start_memory word) (evac_started cleared word) (eq-eqb set 0 no_set)))

  some_is : set ≢ 0 → evac_started cleared ≡ evac_begun config start_memory set
  some_is some_set = fun_ext (λ word. sym (cond-false (set == 0) (evac_spared start_memory word) (evac_started cleared word) (ne_eqb set 0 some_set)))

  pub begun_holds : HoldsStill config start_memory (evac_begun config start_memory set) block owner promises graph
  begun_holds = ⊎_elim
      (λ (no_set : set ≡ 0). subst (λ next_memory. HoldsStill config start_memory next_memory block owner promises graph) (none_is no_set) begun_none)
      (λ (some_set : set ≢ 0). subst (λ next_memory. HoldsStill config start_memory next_memory block owner promises graph) (some_is some_set) begun_some)
      (cases_eq set 0)

  -- Where marking has ended, what finishing a cycle asks for holds then.
  module _ (sized : AreSized start_memory block) (through : IsMarkedThrough config start_memory block) (marked_objects : (object_address : ℕ) → is_black config start_memory object_address ≡ true → IsObjectAt start_memory block object_address)
      (floors : (asked_region : ℕ) → asked_region < config.regions → start_memory (Tams asked_region) ≤ start_memory (Top asked_region)) (young : AreYoungRooms config (λ asked_region. start_memory (Tams asked_region)) block) (seats : HasNoMoreSeats config start_memory) where
    -- reaching goes by roots, answers and the heap
    reached_same : (memory other_memory : Word → ℕ) → held_words config memory ≡ held_words config other_memory → ((address : ℕ) → memory (Heap address) ≡ other_memory (Heap address)) → (address : ℕ) → CanBeReached config memory address → CanBeReached config other_memory address
    reached_same memory other_memory roots heap address =
        subst (λ xs. IsLedTo (now_in memory) (λ address. memory (Heap address)) (IsAmong xs) address → CanBeReached config other_memory address) (sym roots)
        (subst (λ (f : ℕ → ℕ). IsLedTo (λ place. if is_forwarded (f place) then forwardee_in (f place) else place) f (IsAmong (held_words config other_memory)) address → CanBeReached config other_memory address) (sym (fun_ext heap)) (λ reached. reached))

    order_first : IsInOrder config with block
    order_first = record {
      marked = λ black_address collected black. let marked_object = marked_objects black_address black in (thing marked_object.name marked_object.refs marked_object.nums, marked_object.here, refl);
      reachable = λ address reached. through.reachable address (reached_same with start_memory (same_held_words start_memory with (λ t i. refl) (λ t. refl) (λ t i. refl) config) (λ y. refl) address reached);
      no_new = λ asked_region member. (chosen_is asked_region member).no_new;
      floors = floors;
      unseated = λ seat region marked_object member. (chosen_is region member).nobodys (seated config start_memory seats seat region marked_object);
      young = young;
    }

    collecting_some : HoldsCollecting config (evac_started cleared) owner promises graph
    unfolding begun_some
    collecting_some =
        let order = all.order order_first in
        record {
          pieces = all.pieces;
          holds = begun_some.holds;
          sized = begun_some.sized sized;
          collecting = record {
            marked = order.marked;
            reachable = λ some_set address reached. order.reachable address
                (reached_same (evac_started cleared) cleared (same_held_words cleared (evac_started cleared) (λ t i. refl) (λ t. refl) (λ t i. refl) config) (λ y. refl) address reached);
            no_new = order.no_new;
            floors = λ some_set. order.floors;
            unseated = order.unseated;
            young = λ some_set. order.young;
            outside = λ set_empty. absurd (set_empty refl);
          };
          small = subst (λ set. set < 2 ^ config.regions) (sym all.set) (bits_small (is_in_front config.regions (copy_limit config start_memory) (live_words config start_memory) (is_candidate config start_memory)) 0 config.regions);
        }

    collecting_none : HoldsCollecting config (evac_spared start_memory) owner promises graph
    unfolding begun_none
    collecting_none = record {
      pieces = block;
      holds = begun_none.holds;
      sized = begun_none.sized sized;
      collecting = record {
        marked = λ marked_address collected black. let marked_object = marked_objects marked_address black in (thing marked_object.name marked_object.refs marked_object.nums, marked_object.here, refl);
        reachable = λ some_set. absurd (some_set refl);
        no_new = λ asked_region member. absurd (let no_member = bit_at-zero asked_region in omega (arith, member, no_member));
        floors = λ some_set. absurd (some_set refl);
        unseated = λ seat region marked_object member. (let no_member = bit_at-zero region in omega (arith, member, no_member));
        young = λ some_set. absurd (some_set refl);
        outside = λ set_empty marked_address reached member. absurd (let no_member = bit_at-zero (region_with config marked_address) in omega (arith, member, no_member));
      };
      small = pow_pos config.regions;
    }

    pub begun_collecting : HoldsCollecting config (evac_begun config start_memory set) owner promises graph
    begun_collecting = ⊎_elim
        (λ (no_set : set ≡ 0). subst (λ memory. HoldsCollecting config memory owner promises graph) (none_is no_set) collecting_none)
        (λ (some_set : set ≢ 0). subst (λ memory. HoldsCollecting config memory owner promises graph) (some_is some_set) collecting_some)
        (cases_eq set 0)
