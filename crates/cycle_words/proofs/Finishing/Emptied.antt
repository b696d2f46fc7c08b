-- Once all that is left of the collection set was copied out, nothing that can be reached lies there, but in pinned regions.
use Rattle.heap_words.specs.Phases.{evacuation_phase}
use Rattle.std.proofs.Common.{◌≡◌, ◌≢◌, ℕ, ◌+◌, ◌*◌, ◌<◌, ◌≤◌, ◌==◌, true, false, zero, suc, Option, sym, ap, ◌∙◌, subst, ⊎_elim, arith}
use Rattle.std.specs.Int.{bit_at}
use Rattle.std.proofs.Math.Path.{fun_ext}
use Rattle.std.proofs.lemmas.Bool.{cases_Bool, cases_eq, cond-true, cond-false, eq-eqb, ne_eqb, true≢false, false_from_ne_true, true_from_ne_false}
use Rattle.std.proofs.lemmas.Nat.Bits.{bit_at-zero}
use Rattle.heap_words.specs.declared.config.Config.{Config}
use Rattle.heap_words.specs.Words.{Word, Phase, Cset, Top, Heap}
use Rattle.heap_words.specs.Encoding.{is_forwarded}
use Rattle.regions.specs.Place.{region_with}
use Rattle.regions.specs.Sets.{IsIn}
use Rattle.shen_graph.specs.Graph.{Graph}
use Rattle.heap_world.specs.World.{thing, words_of, Plot, IsCollected}
use Rattle.heap_world.proofs.Pointing.{piece_inside}
use Rattle.image_graph.specs.Held.{IsAmong}
use Rattle.image_graph.specs.Full.{now_in, held_words}
use Rattle.image_graph.specs.Promised.{Promises, with_promised}
use Rattle.image_graph.proofs.Reached.{held_is_reached}
use Rattle.image_graph.specs.State.{EndsIn}
use Rattle.image_graph.specs.Holds.{HoldsBy, AreSized, HasObject}
use Rattle.cycle_words.specs.Marking.Marks.{is_black, IsNew, IsKept}
use Rattle.cycle_words.specs.Marking.WhileMarking.{CanBeReached}
use Rattle.cycle_words.proofs.Marking.Plain.{below_top}
use Rattle.cycle_words.specs.Evacuation.Live.{words_at}
use Rattle.cycle_words.specs.Evacuation.Begun.{is_collected}
use Rattle.cycle_words.specs.Evacuation.Copied.{copied_out, IsCopiedOut}
use Rattle.cycle_words.specs.Finishing.Copies.{is_left, has_copy_room, copied_from, is_room_from, all_copied, is_room_for_all}
use Rattle.cycle_words.specs.Finishing.Laws.{NoneLeftInside}
use Rattle.cycle_words.specs.StillHolds.{NothingInside, WhileCollecting, IsUnpinned}
use Rattle.image_graph.specs.Pinned.{is_pinned}
use Rattle.cycle_words.proofs.Pinned.{same_pinned}
use Rattle.cycle_words.proofs.Evacuation.CopyHolds as copy
use Rattle.cycle_words.proofs.Evacuation.CopyHolds.{some_set, IsInOrder, in_order}
use Rattle.cycle_words.proofs.Finishing.Copies.{copied_none, copied_next, copied_skips, room_if, room_skips, all_copied_set}
use Rattle.cycle_words.proofs.Finishing.CopiesHold as copies
use Rattle.cycle_words.proofs.Finishing.CopiesHold.{IsCopiedSoFar, left_parts, is_left_if}
use Rattle.cycle_words.proofs.Finishing.Fields.{collected_is, collected_low}

-- What holds between two objects, and that nothing is left at the addresses that were passed.
pub record IsGoingOn (config : Config) (memory : Word → ℕ) (plot : Plot) (owner : ℕ → Option ℕ) (promises : Promises) (graph : Graph) (passed : ℕ) : Type 0 where
  pub so_far : IsCopiedSoFar config memory plot owner promises graph
  pub order : IsInOrder config memory plot
  pub none_left : (y : ℕ) → y < passed → is_left config memory y ≡ false

module _ (config : Config) (owner : ℕ → Option ℕ) (promises : Promises) (graph : Graph) where
  -- An object is left, and there is room.
  module _ (memory : Word → ℕ) (block : Plot) (address : ℕ) (going_on : IsGoingOn config memory block owner promises graph address) (object_left : is_left config memory address ≡ true) (room : has_copy_room config memory address ≡ true) where
    abbrev so_far : IsCopiedSoFar config memory block owner promises graph
    so_far = going_on.so_far

    abbrev memory_then : Word → ℕ
    memory_then = copied_out config memory address

    abbrev out : IsCopiedOut config memory (copied_out config memory address) address
    out = copies.out config owner promises graph memory block so_far address object_left room

    abbrev parts : (is_collected config memory address ≡ true) × (is_black config memory address ≡ true) × (is_forwarded (memory (Heap address)) ≡ false)
    parts = copies.parts config owner promises graph memory block so_far address object_left

    abbrev inside : IsCollected config (memory Cset) address
    inside = copies.inside config owner promises graph memory block so_far address object_left

    abbrev unpinned : IsUnpinned config memory address
    unpinned = copies.unpinned config owner promises graph memory block so_far address object_left

    abbrev piece : HasObject block address
    piece = copies.piece config owner promises graph memory block so_far address object_left

    abbrev words : words_at memory address ≡ words_of piece.0
    words = copies.words config owner promises graph memory block so_far address object_left

    -- what is left was left, and is another object
    left_was : (other_object : ℕ) → is_left config memory_then other_object ≡ true → (other_object ≢ address) × (is_left config memory other_object ≡ true)
    left_was other_object left_now =
        let parts_now = left_parts config memory_then other_object left_now in
        let collected : is_collected config memory other_object ≡ true =
        sym (copy.collected_same config memory block owner promises graph so_far.holds address piece.0 piece.1 piece.2 inside parts.2 unpinned words out other_object) ∙ parts_now.0 in
        let bare : is_pinned config memory (region_with config other_object) ≡ false =
        sym (same_pinned config memory memory_then (copy.pin_same config memory block owner promises graph so_far.holds address piece.0 piece.1 piece.2 inside parts.2 unpinned words out) (region_with config other_object)) ∙ parts_now.1 in
        let black : is_black config memory other_object ≡ true = sym (copy.black_same config memory block owner promises graph so_far.holds address piece.0 piece.1 piece.2 inside parts.2 unpinned words out other_object) ∙ parts_now.2 in
        let plain : is_forwarded (memory_then (Heap other_object)) ≡ false = parts_now.3 in
        let address_differs : other_object ≢ address = λ same_word.
        true≢false (sym (copy.moved_now config memory block owner promises graph so_far.holds address piece.0 piece.1 piece.2 inside parts.2 unpinned words out) ∙ ap (λ address. is_forwarded (memory_then (Heap address))) (sym same_word) ∙ plain) in
        let was_marked = so_far.marked other_object collected black in
        let same_word : memory_then (Heap other_object) ≡ memory (Heap other_object) = copy.header_same config memory block owner promises graph so_far.holds address piece.0 piece.1 piece.2 inside parts.2 unpinned words out other_object was_marked.0 address_differs was_marked.1 in
        (address_differs, is_left_if config memory other_object collected bare black (ap is_forwarded (sym same_word) ∙ plain))

    one_more : (plot : Plot) × IsGoingOn config memory_then plot owner promises graph (address + 1)
    one_more = (
      copy.plot config memory block owner promises graph so_far.holds address piece.0 piece.1 piece.2 inside parts.2 unpinned words out,
      record {
        so_far = copies.one_copied config owner promises graph memory block so_far address object_left room;
        order = copy.order_still config memory block owner promises graph so_far.holds address piece.0 piece.1 piece.2 inside parts.2 unpinned words out going_on.order;
        none_left = λ lower_address below_address. false_from_ne_true (is_left config memory_then lower_address) (λ left_now.
            let was_left = left_was lower_address left_now in
            let address_differs = was_left.0 in
            true≢false (sym was_left.1 ∙ going_on.none_left lower_address (omega (arith, below_address, address_differs))));
      },
    )

  -- address by address, where each object finds room
  all_passed : (addresses : ℕ) (memory : Word → ℕ) (block : Plot) (address : ℕ) → IsGoingOn config memory block owner promises graph address → is_room_from config memory address addresses ≡ true
      → (plot : Plot) × IsGoingOn config (copied_from config memory address addresses) plot owner promises graph (address + addresses)
  all_passed zero memory block address going_on room =
      (block, subst (λ memory. IsGoingOn config memory block owner promises graph (address + 0)) (sym (copied_none config memory address 0)) (subst (IsGoingOn config memory block owner promises graph) (omega arith) going_on))
  all_passed (suc addresses) memory block address going_on room = ⊎_elim
      (λ (object_left : is_left config memory address ≡ true).
      let both_rooms = room_if config memory address addresses object_left room in
      let one_passed = one_more memory block address going_on object_left both_rooms.0 in
      let rest = all_passed addresses (copied_out config memory address) one_passed.0 (address + 1) one_passed.1 both_rooms.1 in (
        rest.0,
        subst (λ memory. IsGoingOn config memory rest.0 owner promises graph (address + suc addresses)) (sym (copied_next config memory address addresses object_left both_rooms.0))
            (subst (IsGoingOn config (copied_from config (copied_out config memory address) (address + 1) addresses) rest.0 owner promises graph) (omega arith) rest.1),
      ))
      (λ (not_left : is_left config memory address ≡ false).
      let going_next : IsGoingOn config memory block owner promises graph (address + 1) = record {
        so_far = going_on.so_far;
        order = going_on.order;
        none_left = λ lower_address below_next. ⊎_elim
            (λ (at_address : lower_address ≡ address). ap (is_left config memory) at_address ∙ not_left)
            (λ (before : lower_address ≢ address). going_on.none_left lower_address (omega (arith, below_next, before)))
            (cases_eq lower_address address);
      } in
      let rest = all_passed addresses memory block (address + 1) going_next (room_skips config memory address addresses not_left room) in (
        rest.0,
        subst (λ memory. IsGoingOn config memory rest.0 owner promises graph (address + suc addresses)) (sym (copied_skips config memory address addresses not_left))
            (subst (IsGoingOn config (copied_from config memory (address + 1) addresses) rest.0 owner promises graph) (omega arith) rest.1),
      ))
      (cases_Bool (is_left config memory address))

-- What is left once all found room: nothing that can be reached lies in the set, but in pinned regions.
pub record IsEmptied (config : Config) (memory : Word → ℕ) (plot : Plot) (owner : ℕ → Option ℕ) (promises : Promises) (graph : Graph) : Type 0 where
  pub holds : HoldsBy config memory plot owner promises graph
  pub sized : AreSized memory plot
  pub reachable : memory Cset ≢ 0 → (a : ℕ) → CanBeReached config memory a → IsKept config memory a
  pub unseated : (seat region : ℕ) → EndsIn config memory seat region → IsIn (memory Cset) region → ⊥
  pub outside : NothingInside config memory

module _ (config : Config) (memory : Word → ℕ) (plot : Plot) (owner : ℕ → Option ℕ) (promises : Promises) (graph : Graph) (passed : ℕ) (going_on : IsGoingOn config memory plot owner promises graph passed)
    (passed_all : (config.regions + 1) * config.region_words ≤ passed) where
  -- what can be reached in the set, in a region that is not pinned, would be left
  none_inside : (address : ℕ) → CanBeReached config memory address → IsCollected config (memory Cset) address → is_pinned config memory (region_with config address) ≡ false → ⊥
  none_inside address reached inside unpinned =
      let reached_object = held_is_reached config (λ region. memory (Top region)) (λ address. memory (Heap address)) plot (now_in memory) (IsAmong (held_words config memory)) (with_promised graph promises) going_on.so_far.holds.objects address reached in
      let object = going_on.so_far.holds.objects.each address reached_object.1 reached_object.2 reached_object.0 reached reached_object.3 in
      let lies_inside = piece_inside config (λ region. memory (Top region)) plot going_on.so_far.holds.objects.plotted address (thing reached_object.0 reached_object.1 reached_object.2) reached_object.3 in
      ⊎_elim
      (λ (black : is_black config memory address ≡ true).
      let object_left : is_left config memory address ≡ true = is_left_if config memory address (collected_is config memory address lies_inside.0 inside) unpinned black (ap is_forwarded object.2.header) in
      true≢false (sym object_left ∙ going_on.none_left address (let end = lies_inside.1 in omega (arith, end, passed_all))))
      (λ (fresh : IsNew config memory address).
      let top_above = below_top config (λ region. memory (Top region)) plot going_on.so_far.holds.objects.plotted address (thing reached_object.0 reached_object.1 reached_object.2) reached_object.3 (omega arith) in
      let old = going_on.order.no_new (region_with config address) inside in
      let from = top_above.1 in
      let end = top_above.2 in
      omega (arith, fresh, old, from, end))
      (going_on.order.reachable address reached)

  nothing_inside : NothingInside config memory
  nothing_inside address reached inside = true_from_ne_false (is_pinned config memory (region_with config address)) (none_inside address reached inside)

  emptied : IsEmptied config memory plot owner promises graph
  emptied = record {
    holds = going_on.so_far.holds;
    sized = going_on.so_far.sized;
    reachable = λ has_set. going_on.order.reachable;
    unseated = going_on.order.unseated;
    outside = nothing_inside;
  }

pub none_left_inside : NoneLeftInside
none_left_inside config memory block owner promises graph holds sized collecting nothing_left address reached inside =
    nothing_inside config memory block owner promises graph ((config.regions + 1) * config.region_words)
    (record {
      so_far = record { holds = holds; sized = sized; marked = collecting.marked };
      order = in_order config memory block collecting (some_set config (memory Cset) address inside);
      none_left = λ y below_address. nothing_left y;
    })
    (omega arith) address reached inside

module _ (config : Config) (memory : Word → ℕ) (block : Plot) (owner : ℕ → Option ℕ) (promises : Promises) (graph : Graph) (holds : HoldsBy config memory block owner promises graph) (sized : AreSized memory block)
    (collecting : WhileCollecting config memory block) (room : is_room_for_all config memory ≡ true) where
  as_it_is : NothingInside config memory → IsEmptied config memory block owner promises graph
  as_it_is outside = record { holds = holds; sized = sized; reachable = collecting.reachable; unseated = collecting.unseated; outside = outside }

  at_first : IsCopiedSoFar config memory block owner promises graph
  at_first = record { holds = holds; sized = sized; marked = collecting.marked }

  in_phase : memory Phase ≡ evacuation_phase → memory Cset ≢ 0 → (plot : Plot) × IsEmptied config (all_copied config memory) plot owner promises graph
  in_phase evacuating positive =
      let begins : IsGoingOn config memory block owner promises graph config.region_words = record {
        so_far = at_first;
        order = in_order config memory block collecting positive;
        none_left = λ lower_address below_address. false_from_ne_true (is_left config memory lower_address) (λ object_left. true≢false (sym (left_parts config memory lower_address object_left).0 ∙ collected_low config memory lower_address below_address));
      } in
      let found : is_room_from config memory config.region_words (config.regions * config.region_words) ≡ true =
      sym (cond-true (memory Phase == evacuation_phase) (is_room_from config memory config.region_words (config.regions * config.region_words)) true (eq-eqb (memory Phase) 2 evacuating)) ∙ room in
      let all_done = all_passed config owner promises graph (config.regions * config.region_words) memory block config.region_words begins found in
      let same_memory : copied_from config memory config.region_words (config.regions * config.region_words) ≡ all_copied config memory =
      fun_ext (λ word. sym (cond-true (memory Phase == evacuation_phase) (copied_from config memory config.region_words (config.regions * config.region_words) word) (memory word) (eq-eqb (memory Phase) 2 evacuating))) in (
        all_done.0,
        subst (λ memory. IsEmptied config memory all_done.0 owner promises graph) same_memory
            (emptied config (copied_from config memory config.region_words (config.regions * config.region_words)) all_done.0 owner promises graph (config.region_words + config.regions * config.region_words) all_done.1 (omega arith)),
      )

  -- without a set, and in other phases
  without : memory Cset ≡ 0 → (plot : Plot) × IsEmptied config (all_copied config memory) plot owner promises graph
  without no_set =
      let all_copies = copies.all_copied_hold config owner promises graph memory block at_first in
      let is_zero : all_copied config memory Cset ≡ 0 = all_copied_set config memory ∙ no_set in (
        all_copies.0,
        record {
          holds = all_copies.2.holds;
          sized = all_copies.2.sized;
          reachable = λ has_set. absurd (has_set is_zero);
          unseated = λ seat region ends member. absurd (let bit : bit_at (all_copied config memory Cset) region ≡ 0 = ap (λ set. bit_at set region) is_zero ∙ bit_at-zero region in omega (arith, bit, member));
          outside = λ address reached inside. absurd (some_set config (all_copied config memory Cset) address inside is_zero);
        },
      )

  other_phase : memory Phase ≢ evacuation_phase → (plot : Plot) × IsEmptied config (all_copied config memory) plot owner promises graph
  other_phase not_evacuating =
      let same_memory : memory ≡ all_copied config memory =
      fun_ext (λ word. sym (cond-false (memory Phase == evacuation_phase) (copied_from config memory config.region_words (config.regions * config.region_words) word) (memory word) (ne_eqb (memory Phase) 2 not_evacuating))) in
      (block, subst (λ memory. IsEmptied config memory block owner promises graph) same_memory (as_it_is (collecting.outside not_evacuating)))

  pub emptied_then : (plot : Plot) × IsEmptied config (all_copied config memory) plot owner promises graph
  emptied_then = ⊎_elim
      (λ (no_set : memory Cset ≡ 0). without no_set)
      (λ (has_set : memory Cset ≢ 0). ⊎_elim (λ (evacuating : memory Phase ≡ evacuation_phase). in_phase evacuating has_set) (λ (not_evacuating : memory Phase ≢ evacuation_phase). other_phase not_evacuating) (cases_eq (memory Phase) 2))
      (cases_eq (memory Cset) 0)
