-- A cycle is finished: words that held a graph hold it, in whatever way it ends.
use Rattle.std.proofs.Common.{◌≡◌, ◌≢◌, ℕ, ◌+◌, ◌<◌, ◌≤◌, ◌==◌, ◌||◌, nat_le, not, true, false, inl, Option, Some, None, refl, sym, ap, ◌∙◌, subst, ⊎_elim, arith}
use Rattle.std.specs.Int.{bit_at}
use Rattle.std.proofs.Math.Path.{fun_ext}
use Rattle.std.proofs.lemmas.Bool.{cases_Bool, cases_eq, cases_lt, cond-true, cond-false, and_parts, and_left, or_cases, eqb-true, not-true, false_from_ne_true, true≢false}
use Rattle.heap_words.specs.declared.config.Config.{Config}
use Rattle.heap_words.specs.Words.{Word, Cset, Top, Current, Root, Answer, Pin, Heap}
use Rattle.image_graph.specs.LetGo.{let_go}
use Rattle.heap_words.specs.Encoding.{is_forwarded, forwardee_in, refs_in}
use Rattle.regions.specs.Place.{region_with}
use Rattle.shen_graph.specs.declared.pin.Pinned.{Pinned}
use Rattle.shen_graph.specs.Graph.{Graph}
use Rattle.heap_world.specs.Walk.{has}
use Rattle.heap_world.specs.World.{thing, Plot, HasNoRoom, IsCollected}
use Rattle.image_graph.specs.Held.{from_root, from_field, IsAmong}
use Rattle.image_graph.specs.Full.{now_in, roots_below, answers_below, root_words, held_words, served}
use Rattle.image_graph.specs.Pinned.{pins_below, is_pinned}
use Rattle.image_graph.specs.Image.{PinWordStands}
use Rattle.image_graph.specs.Promised.{Promises, with_promised}
use Rattle.image_graph.proofs.Reached.{held_is_reached}
use Rattle.image_graph.proofs.HeldRoots.{has_either, root_in, answer_in, pin_in, root_among, answer_among, pin_among}
use Rattle.image_graph.specs.Holds.{HoldsBy}
use Rattle.image_graph.proofs.ServedHolds.{serving_holds}
use Rattle.cycle_words.specs.Marking.WhileMarking.{CanBeReached}
use Rattle.cycle_words.specs.Evacuation.Begun.{is_collected}
use Rattle.cycle_words.specs.Finishing.Updated.{updated_word, stays, is_kept_field, all_updated}
use Rattle.cycle_words.specs.Finishing.Copies.{all_copied, is_room_for_all}
use Rattle.cycle_words.specs.Finishing.Finish.{is_to_free, set_freed, cycle_finished, finished_from, finished}
use Rattle.cycle_words.specs.Finishing.Laws.{UpdatedNamesNothing}
use Rattle.cycle_words.specs.StillHolds.{is_going, NothingNamesGone, left_block, HoldsAnew, FinishingHolds}
use Rattle.cycle_words.specs.Marking.Final.{freed_owner}
use Rattle.cycle_words.proofs.Evacuation.CopyHolds.{some_set}
use Rattle.cycle_words.proofs.Evacuation.RenamedInPlace as renamed
use Rattle.image_graph.specs.Buffers.{HasNoMoreSeats}
use Rattle.image_graph.proofs.Loosening.Loosened.{loosened_sized}
use Rattle.image_graph.proofs.Loosening.DividedPieces.{none_have_room}
use Rattle.image_graph.proofs.Loosening.AllLetGo.{has_let_go, let_go_seats}
use Rattle.cycle_words.proofs.Finishing.Collecting.{let_go_collecting}
use Rattle.cycle_words.proofs.Finishing.Copies.{all_copied_other}
use Rattle.cycle_words.proofs.Finishing.Fields.{low_spared, stays_outside, stays_pinned}
use Rattle.cycle_words.proofs.Finishing.UpdatedHolds.{updated_holds, updated_sized, renaming, word_stays, header_stays}
use Rattle.cycle_words.proofs.Finishing.KeptFields.{is_field}
use Rattle.cycle_words.proofs.Finishing.CopiesHold.{copies_all_hold}
use Rattle.cycle_words.proofs.Finishing.Emptied.{IsEmptied, emptied_then}
use Rattle.cycle_words.proofs.Finishing.SetLeft.{leaving_holds}

-- Once the set was emptied and all references were updated nothing names what goes.
module _ (config : Config) (memory : Word → ℕ) (block : Plot) (owner : ℕ → Option ℕ) (promises : Promises) (graph : Graph) (emptied : IsEmptied config memory block owner promises graph) (no_rooms : HasNoRoom block) where
  abbrev now : Word → ℕ
  now = all_updated config memory

  abbrev top : ℕ → ℕ
  top region = memory (Top region)

  abbrev heap : ℕ → ℕ
  heap address = memory (Heap address)

  abbrev holds : HoldsBy config memory block owner promises graph
  holds = emptied.holds

  reached_was : (address : ℕ) → CanBeReached config now address → CanBeReached config memory address
  reached_was = renamed.reached_was config memory now block owner promises graph holds (renaming config memory block owner promises graph holds emptied.sized no_rooms)

  -- what can be reached does not go
  reached_spared : (address : ℕ) → CanBeReached config memory address → is_going config now address ≡ false
  reached_spared address reached = false_from_ne_true (is_going config now address) (λ going.
      let both_parts = and_parts (is_collected config now address) (not (is_pinned config now (region_with config address)) || is_forwarded (now (Heap address))) going in
      let inside : IsCollected config (memory Cset) address =
      eqb-true (bit_at (memory Cset) (region_with config address)) 1 (and_parts (nat_le config.region_words address) (bit_at (memory Cset) (region_with config address) == 1) both_parts.0).1 in
      let pinned : is_pinned config memory (region_with config address) ≡ true = emptied.outside address reached inside in
      let reached_object = held_is_reached config top heap block (now_in memory) (IsAmong (held_words config memory)) (with_promised graph promises) holds.objects address reached in
      let object = holds.objects.each address reached_object.1 reached_object.2 reached_object.0 reached reached_object.3 in
      let same_word : now (Heap address) ≡ memory (Heap address) = header_stays config memory block owner promises graph holds emptied.sized no_rooms address (thing reached_object.0 reached_object.1 reached_object.2) reached_object.3 in
      ⊎_elim
      (λ (bare : not (is_pinned config now (region_with config address)) ≡ true). true≢false (sym pinned ∙ not-true (is_pinned config memory (region_with config address)) bare))
      (λ (moved : is_forwarded (now (Heap address)) ≡ true). true≢false (sym moved ∙ ap is_forwarded same_word ∙ ap is_forwarded object.2.header))
      (or_cases (not (is_pinned config now (region_with config address))) (is_forwarded (now (Heap address))) both_parts.1))

  -- so a word that led to an object names nothing that goes once it was updated
  word_spared : (address : ℕ) → CanBeReached config memory (now_in memory address) → is_going config now (updated_word config memory address) ≡ false
  word_spared address reached = ⊎_elim
      (λ (collected : is_collected config memory address ≡ true). ap (is_going config now) (cond-true (is_collected config memory address) (now_in memory address) address collected) ∙ reached_spared (now_in memory address) reached)
      (λ (not_collected : is_collected config memory address ≡ false).
      ap (is_going config now) (cond-false (is_collected config memory address) (now_in memory address) address not_collected) ∙ and_left (is_collected config now address) (not (is_pinned config now (region_with config address)) || is_forwarded (now (Heap address))) not_collected)
      (cases_Bool (is_collected config memory address))

  root_spared : (mutator index : ℕ) → mutator < config.mutators → index < 16 → now (Root mutator index) ≢ 0 → is_going config now (now (Root mutator index)) ≡ false
  root_spared mutator index inside index_low positive =
      let old_some : memory (Root mutator index) ≢ 0 = λ no_word. positive (low_spared config memory (memory (Root mutator index)) (omega (arith, no_word)) ∙ no_word) in
      word_spared (memory (Root mutator index)) (from_root (memory (Root mutator index)) (root_among config top memory block graph promises holds.objects.plotted holds.rooted mutator index inside index_low) old_some)

  answer_spared : (mutator : ℕ) → mutator < config.mutators → 1 < now (Answer mutator) → is_going config now (now (Answer mutator)) ≡ false
  answer_spared mutator inside answer_big = ⊎_elim
      (λ (big : 1 < memory (Answer mutator)).
      word_spared (memory (Answer mutator)) (from_root (memory (Answer mutator)) (answer_among config top memory block graph promises holds.objects.plotted holds.rooted mutator inside big) (λ no_word. omega (arith, no_word, big))))
      (λ (low : memory (Answer mutator) ≤ 1). absurd (let answer_stays = low_spared config memory (memory (Answer mutator)) low in omega (arith, answer_stays, low, answer_big)))
      (cases_lt 1 (memory (Answer mutator)))

  -- what a pin slot holds has not moved
  pin_plain : (word : ℕ) (held_pin : Option Pinned) → word ≢ 0 → PinWordStands memory block word held_pin → is_forwarded (memory (Heap word)) ≡ false
  pin_plain word None positive stands = absurd (positive stands)
  pin_plain word (Some pinned) positive stands = stands.2

  pin_spared : (mutator index : ℕ) → mutator < config.mutators → index < 4 → memory (Pin mutator index) ≢ 0 → is_going config now (memory (Pin mutator index)) ≡ false
  pin_spared mutator index inside index_low positive =
      let plain = pin_plain (memory (Pin mutator index)) (graph.pin (mutator + 1) index) positive (holds.rooted.pins mutator index inside index_low) in
      let led = from_root (memory (Pin mutator index)) (pin_among config top memory block graph promises holds.objects.plotted holds.rooted mutator index inside index_low) positive in
      reached_spared (memory (Pin mutator index)) (subst (CanBeReached config memory) (cond-false (is_forwarded (memory (Heap (memory (Pin mutator index))))) (forwardee_in (memory (Heap (memory (Pin mutator index))))) (memory (Pin mutator index)) plain) led)

  named_spared : (word : ℕ) → IsAmong (root_words config now) word → word ≢ 0 → is_going config now word ≡ false
  named_spared word among positive = ⊎_elim
      (λ (root : has (roots_below now config.mutators) word ≡ true).
      let word_found = root_in now config.mutators word root in
      sym (ap (is_going config now) word_found.4) ∙ root_spared word_found.0 word_found.1 word_found.2 word_found.3 (λ no_word. positive (sym word_found.4 ∙ no_word)))
      (λ (answer : has (answers_below now config.mutators) word ≡ true).
      let word_found = answer_in now config.mutators word answer in
      sym (ap (is_going config now) word_found.3) ∙ answer_spared word_found.0 word_found.1 word_found.2)
      (has_either (roots_below now config.mutators) (answers_below now config.mutators) word among)

  held_spared : (word : ℕ) → IsAmong (held_words config now) word → word ≢ 0 → is_going config now word ≡ false
  held_spared word among positive = ⊎_elim
      (λ (named : has (root_words config now) word ≡ true). named_spared word named positive)
      (λ (pin : has (pins_below now config.mutators) word ≡ true).
      let word_found = pin_in now config.mutators word pin in
      sym (ap (is_going config now) word_found.4) ∙ pin_spared word_found.0 word_found.1 word_found.2 word_found.3 (λ no_word. positive (sym word_found.4 ∙ no_word)))
      (has_either (root_words config now) (pins_below now config.mutators) word among)

  -- objects of a region stay in which something can be reached
  stays_there : (address : ℕ) → CanBeReached config memory address → stays config memory (region_with config address) ≡ true
  stays_there address reached = ⊎_elim
      (λ (inside : IsCollected config (memory Cset) address). stays_pinned config memory (region_with config address) (emptied.outside address reached inside))
      (λ (away : IsCollected config (memory Cset) address → ⊥). stays_outside config memory (region_with config address) away)
      (cases_eq (bit_at (memory Cset) (region_with config address)) 1)

  -- a field of what can be reached is updated, if a region is in the set
  field_kept : (address index : ℕ) → memory Cset ≢ 0 → CanBeReached config memory address → index < refs_in (heap (address + 1)) → is_kept_field config memory (address + 3 + index) ≡ true
  field_kept address index has_set was_reached count =
      let reached_object = held_is_reached config top heap block (now_in memory) (IsAmong (held_words config memory)) (with_promised graph promises) holds.objects address was_reached in
      let object = holds.objects.each address reached_object.1 reached_object.2 reached_object.0 was_reached reached_object.3 in
      is_field config memory block owner promises graph holds emptied.sized no_rooms (address + 3 + index)
      (record {
        object = address;
        piece = thing reached_object.0 reached_object.1 reached_object.2;
        here = reached_object.3;
        is_object = refl;
        stays_there = stays_there address was_reached;
        unmoved = ap is_forwarded object.2.header;
        kept = emptied.reachable has_set address was_reached;
        field = index;
        few = count;
        at = refl;
      })

  field_spared : (address index : ℕ) → CanBeReached config now address → index < refs_in (now (Heap (address + 1))) → now (Heap (address + 3 + index)) ≢ 0 → is_going config now (now (Heap (address + 3 + index))) ≡ false
  field_spared address index reached index_below positive = false_from_ne_true (is_going config now (now (Heap (address + 3 + index)))) (λ going.
      let both_parts = and_parts (is_collected config now (now (Heap (address + 3 + index)))) (not (is_pinned config now (region_with config (now (Heap (address + 3 + index))))) || is_forwarded (now (Heap (now (Heap (address + 3 + index)))))) going in
      let member : IsCollected config (memory Cset) (now (Heap (address + 3 + index))) =
      eqb-true (bit_at (memory Cset) (region_with config (now (Heap (address + 3 + index))))) 1
      (and_parts (nat_le config.region_words (now (Heap (address + 3 + index)))) (bit_at (memory Cset) (region_with config (now (Heap (address + 3 + index)))) == 1) both_parts.0).1 in
      let was_reached = reached_was address reached in
      let reached_object = held_is_reached config top heap block (now_in memory) (IsAmong (held_words config memory)) (with_promised graph promises) holds.objects address was_reached in
      let shape : now (Heap (address + 1)) ≡ heap (address + 1) = word_stays config memory block owner promises graph holds emptied.sized no_rooms address 1 0 (thing reached_object.0 reached_object.1 reached_object.2) reached_object.3 (omega arith) (inl (omega arith)) in
      let count : index < refs_in (heap (address + 1)) = subst (λ field_count. index < field_count) (ap refs_in shape) index_below in
      let field = field_kept address index (some_set config (memory Cset) (now (Heap (address + 3 + index))) member) was_reached count in
      let same_word : now (Heap (address + 3 + index)) ≡ updated_word config memory (heap (address + 3 + index)) = cond-true (is_kept_field config memory (address + 3 + index)) (updated_word config memory (heap (address + 3 + index))) (heap (address + 3 + index)) field in
      let old_some : heap (address + 3 + index) ≢ 0 = λ no_word. positive (same_word ∙ low_spared config memory (heap (address + 3 + index)) (omega (arith, no_word)) ∙ no_word) in
      true≢false (sym going ∙ ap (is_going config now) same_word ∙ word_spared (heap (address + 3 + index)) (from_field address index was_reached count old_some)))

  pub nothing_names : NothingNamesGone config now
  nothing_names = record { roots = held_spared; fields = field_spared; unseated = emptied.unseated }

  updated : HoldsBy config now block owner promises graph
  updated = updated_holds config memory block owner promises graph holds emptied.sized no_rooms

  -- so the set may be left, and who waits served
  pub served_holds : HoldsAnew config (served config (set_freed config now) config.mutators) graph
  served_holds =
      let set_left = leaving_holds config now block owner promises graph updated (updated_sized config memory block owner promises graph holds emptied.sized no_rooms) nothing_names in
      let after = serving_holds config (set_freed config now) (left_block config now block) (freed_owner (is_to_free config now) owner) promises graph set_left.holds in
      record { pieces = _; owner = _; promises = _; holds = after.holds; sized = after.sized set_left.sized }

-- From words in which nobody has a buffer ..
finishing_from : (config : Config) (memory : Word → ℕ) → ((seat : ℕ) → memory (Current seat) ≡ 0) → FinishingHolds config memory (finished_from config memory)
finishing_from config memory nobody block owner promises graph holds sized collecting = ⊎_elim
    (λ (room : is_room_for_all config memory ≡ true).
    let emptied = emptied_then config memory block owner promises graph holds sized collecting room in
    let no_room = none_have_room config (all_copied config memory) emptied.0 owner promises graph emptied.1.holds (λ seat. all_copied_other config memory (Current seat) (λ never. never) ∙ nobody seat) in
    subst (λ finished_memory. HoldsAnew config finished_memory graph) (fun_ext (λ word. sym (cond-true (is_room_for_all config memory) (served config (cycle_finished config memory) config.mutators word) (all_copied config memory word) room)))
    (served_holds config (all_copied config memory) emptied.0 owner promises graph emptied.1 no_room))
    (λ (no_room : is_room_for_all config memory ≡ false).
    let copies_stand = copies_all_hold config memory block owner promises graph holds sized collecting.marked in
    subst (λ finished_memory. HoldsAnew config finished_memory graph) (fun_ext (λ word. sym (cond-false (is_room_for_all config memory) (served config (cycle_finished config memory) config.mutators word) (all_copied config memory word) no_room)))
    (record { pieces = copies_stand.pieces; owner = owner; promises = promises; holds = copies_stand.holds; sized = copies_stand.sized sized }))
    (cases_Bool (is_room_for_all config memory))

-- .. as when all buffers were let go.
pub finishing_holds : (config : Config) (memory : Word → ℕ) → HasNoMoreSeats config memory → FinishingHolds config memory (finished config memory)
finishing_holds config memory seats block owner promises graph holds sized collecting =
    let after = has_let_go config memory block owner promises graph holds seats in
    finishing_from config (let_go config memory) (let_go_seats config memory block owner promises graph holds seats) after.plot owner promises graph after.left.holds
    (loosened_sized config memory (let_go config memory) block after.plot owner promises graph holds after.left.loosened sized) (let_go_collecting config memory block owner promises graph holds collecting seats)

pub updated_names_nothing : UpdatedNamesNothing
updated_names_nothing config memory block owner promises graph holds sized no_rooms collecting nothing =
    nothing_names config memory block owner promises graph (record { holds = holds; sized = sized; reachable = collecting.reachable; unseated = collecting.unseated; outside = nothing }) no_rooms
