-- The set is left once all references were updated: regions of it that are not pinned are freed, and what has moved in the others only
-- fills. The words stand for the graph while no cycle runs.
use Rattle.std.proofs.Common.{◌≡◌, ◌≢◌, ℕ, ◌+◌, ◌-◌, ◌%◌, ◌<◌, ◌≤◌, ◌&&◌, Bool, true, false, Option, Some, None, ⊎_elim, refl, sym, ap, ◌∙◌, subst, arith}
use Rattle.std.specs.Prelude.{not}
use Rattle.std.proofs.lemmas.Bool.{cases_Bool, cases_eq, cond-true, cond-false, and_from, and_left, and_right, and_parts, and_cases, not-true, not_from_false, false_from_ne_true, true≢false, ne_eqb}
use Rattle.shen_graph.proofs.Options.{none_if_never}
use Rattle.heap_words.specs.declared.config.Config.{Config}
use Rattle.heap_words.specs.Words.{Word, Cset, Free, Evac, Top, Current, Root, Pin, Heap, Share}
use Rattle.heap_words.specs.Encoding.{is_forwarded, filler_header, end_in, object_words}
use Rattle.regions.specs.Place.{region_with}
use Rattle.regions.specs.Sets.{IsIn}
use Rattle.regions.specs.Walk.{stride_at}
use Rattle.shen_graph.specs.declared.name.Name.{Name}
use Rattle.shen_graph.specs.declared.pin.Pinned.{Pinned}
use Rattle.shen_graph.specs.Graph.{Graph, Object, Reference}
use Rattle.heap_world.specs.World.{Block, thing, moved, spent, hand, promised, dead, filler, carved, words_of, room_of, is_loose, HasNoRoom, Plot, Points, name_at, PinStands, IsCollected, IsParsable, AreOwned, AreUnwritten, IsThing, AreObjects, IsCurrent}
use Rattle.heap_world.specs.Asking.{Asking}
use Rattle.heap_world.proofs.Pieces.{some_words, object_reads}
use Rattle.heap_world.proofs.Unwritten.{blank_stays}
use Rattle.heap_world.proofs.Copies.{none_is_in, none_in_0}
use Rattle.image_graph.proofs.Inside.{buffer_region_is}
use Rattle.image_graph.specs.Pinned.{is_pinned, begins, filled_in}
use Rattle.image_graph.proofs.BuffersStay.{SameRoom, rooms_stay, buffers_stay}
use Rattle.image_graph.proofs.Reached.{none_at_0}
use Rattle.image_graph.specs.Holds.{AreSized}
use Rattle.image_graph.proofs.Loosening.Loosened.{kind_of}
use Rattle.image_graph.proofs.Loosening.Resized.{resized_plotted, resized_filled}
use Rattle.cycle_words.specs.Marking.Final.{freed_block}
use Rattle.cycle_words.specs.Updating.Changes.{is_chosen}
use Rattle.cycle_words.specs.Finishing.Updated.{updated_word, all_updated}
use Rattle.cycle_words.specs.Finishing.Finish.{is_to_free, is_to_stay, has_moved, set_freed}
use Rattle.cycle_words.proofs.Finishing.Strides.{strides}
use Rattle.cycle_words.proofs.Finishing.Walking as walking
use Rattle.cycle_words.proofs.Finishing.LeftPieces.{WasLeft, plot_left, piece_was, same_there, resized, object_was, room_was}
use Rattle.cycle_words.proofs.Marking.Trimmed.{object_stands}
use Rattle.cycle_words.proofs.Marking.Vanished as freed
use Rattle.cycle_pauses.proofs.Evacuation.Asked.{asked_stays}
use Rattle.cycle_pauses.proofs.Evacuation.ClearingInTurn.{plain_is_plain, led_is_forwarded}
use Rattle.cycle_pauses.proofs.Updating.Freeing.{chosen_if, in_set}
use Rattle.cycle_pauses.proofs.Finishing.Copying.{IsCopying}
use Rattle.cycle_pauses.proofs.Finishing.Updating.{updated_points, promised_word, objects_again, field_current, unwritten_again, moves_again, answer_stays, sized_again}
use Rattle.cycle_pauses.proofs.Finishing.Serving.{IsIdle}

-- the header of words that only fill leads nowhere
filler_plain : (words : ℕ) → is_forwarded (filler_header words) ≡ false
filler_plain words = ne_eqb (filler_header words % 4) 3 (λ is_three. omega (arith, is_three))

module _ (config : Config) (memory : Word → ℕ) (block : Plot) (owner : ℕ → Option ℕ) (graph : Graph) (asking : ℕ → Asking) (passed : ℕ) (copying : IsCopying config memory memory block owner graph asking passed)
    (pinned : (address refs nums : ℕ) (name : Name) → block address ≡ Some (thing name refs nums) → IsCollected config (memory Cset) address → is_pinned config memory (region_with config address) ≡ true) (no_room : HasNoRoom block) where
  abbrev now : Word → ℕ
  now = all_updated config memory

  abbrev memory_then : Word → ℕ
  memory_then = set_freed config now

  abbrev heap : ℕ → ℕ
  heap address = now (Heap address)

  abbrev after : ℕ → ℕ
  after address = memory_then (Heap address)

  abbrev out : ℕ → Bool
  out = is_to_free config now

  abbrev gone : ℕ → Bool
  gone address = is_to_stay config now (region_with config address) && has_moved now address

  abbrev left : Plot
  left = plot_left gone block

  abbrev pub plot : Plot
  plot = freed_block config out left

  -- the words once what has moved only fills, before regions are freed
  abbrev filled : Word → ℕ
  filled = filled_in config (is_to_stay config now) (has_moved now) now

  some : (address : ℕ) (piece : Block) → block address ≡ Some piece → 1 ≤ words_of piece
  some = some_words config (λ region. memory (Top region)) block copying.between.parsable copying.between.owned.rooms

  objects : AreObjects heap block graph.object
  objects = objects_again config memory memory block owner graph asking passed copying pinned no_room

  unwritten : AreUnwritten heap block
  unwritten = unwritten_again config memory memory block owner graph asking passed copying pinned no_room

  sized : AreSized now block
  sized = sized_again config memory memory block owner graph asking passed copying pinned no_room

  sizes : (address : ℕ) (piece : Block) → block address ≡ Some piece → Unit {0} → stride_at heap address ≡ words_of piece
  sizes address piece piece_there any = strides now block sized no_room address piece piece_there

  -- Regions: those that are freed are in the set, and not pinned.
  freed_region : (region : ℕ) → out region ≡ true → IsIn (memory Cset) region × (is_pinned config memory region ≡ false)
  freed_region region goes_out = let both_tests = and_parts (is_chosen memory region) (not (is_pinned config memory region)) goes_out in (in_set memory region both_tests.0, not-true (is_pinned config memory region) both_tests.1)

  spared_region : (region : ℕ) → (IsIn (memory Cset) region → is_pinned config memory region ≡ true) → out region ≡ false
  spared_region region kept_pinned = false_from_ne_true (out region) (λ goes_out. let freed_facts = freed_region region goes_out in true≢false (sym (kept_pinned freed_facts.0) ∙ freed_facts.1))

  outside_spared : (region : ℕ) → (IsIn (memory Cset) region → ⊥) → out region ≡ false
  outside_spared region away = spared_region region (λ member. absurd (away member))

  -- and a region of the set that is not freed is one where objects stay
  stays_there : (region : ℕ) → out region ≡ false → IsIn (memory Cset) region → is_to_stay config now region ≡ true
  stays_there region spared member = ⊎_elim
      (λ (pinned_here : is_pinned config memory region ≡ true). and_from (is_chosen memory region) (is_pinned config memory region) (chosen_if memory region member) pinned_here)
      (λ (loose : is_pinned config memory region ≡ false).
      absurd (true≢false (sym (and_from (is_chosen memory region) (not (is_pinned config memory region)) (chosen_if memory region member) (not_from_false (is_pinned config memory region) loose)) ∙ spared)))
      (cases_Bool (is_pinned config memory region))

  -- What has moved.
  plain_stays : (address : ℕ) → is_forwarded (heap address) ≡ false → gone address ≡ false
  plain_stays address plain = and_right (is_to_stay config now (region_with config address)) (has_moved now address) plain

  thing_unmoved : (address refs nums : ℕ) (name : Name) → block address ≡ Some (thing name refs nums) → gone address ≡ false
  thing_unmoved address refs nums name thing_there = plain_stays address (plain_is_plain (heap address) (objects.each address refs nums name thing_there).2.header)

  promised_unmoved : (address seat words : ℕ) → block address ≡ Some (promised seat words) → gone address ≡ false
  promised_unmoved address seat words promise_there = plain_stays address (plain_is_plain (heap address) (unwritten.blanks address seat words promise_there).header)

  -- it is an old copy
  gone_fixed : (address : ℕ) (piece : Block) → block address ≡ Some piece → gone address ≡ true → is_loose piece ≡ false
  gone_fixed address piece piece_there is_gone = ⊎_elim
      (λ (fixed : is_loose piece ≡ false). fixed)
      (λ loose. ⊎_elim
      (λ (room : (seat : ℕ) × (room_of piece ≡ Some seat)). absurd (no_room address room.0 piece piece_there room.1))
      (λ (fills : (words : ℕ) × (piece ≡ filler words)).
      let header = unwritten.fillers address fills.0 (piece_there ∙ ap Some fills.1) in
      absurd (true≢false (sym (and_parts (is_to_stay config now (region_with config address)) (has_moved now address) is_gone).1 ∙ ap is_forwarded header ∙ filler_plain fills.0)))
      loose)
      (kind_of piece)

  -- Words of the heap stay, but for the headers of what has moved.
  module _ (address offset : ℕ) (piece : Block) (piece_there : block address ≡ Some piece) (offset_below : offset < words_of piece) where
    not_filled : (offset ≡ 0 → gone address ≡ false) → (is_to_stay config now (region_with config (address + offset)) && begins config now (address + offset) && has_moved now (address + offset)) ≡ false
    not_filled unmoved = ⊎_elim
        (λ (at_header : offset ≡ 0).
        let place : address ≡ address + offset = omega (arith, at_header) in
        let test : gone (address + offset) ≡ false = ap gone (sym place) ∙ unmoved at_header in
        ⊎_elim
        (λ (elsewhere : is_to_stay config now (region_with config (address + offset)) ≡ false).
        and_left (is_to_stay config now (region_with config (address + offset)) && begins config now (address + offset)) (has_moved now (address + offset)) (and_left (is_to_stay config now (region_with config (address + offset))) (begins config now (address + offset)) elsewhere))
        (λ (plain : has_moved now (address + offset) ≡ false). and_right (is_to_stay config now (region_with config (address + offset)) && begins config now (address + offset)) (has_moved now (address + offset)) plain)
        (and_cases (is_to_stay config now (region_with config (address + offset))) (has_moved now (address + offset)) test))
        (λ (later : offset ≢ 0).
        and_left (is_to_stay config now (region_with config (address + offset)) && begins config now (address + offset)) (has_moved now (address + offset))
        (and_right (is_to_stay config now (region_with config (address + offset))) (begins config now (address + offset))
        (walking.begins_not config now block copying.between.parsable.plotted copying.between.parsable.filled some (λ r. Unit {0}) sizes address offset piece piece_there offset_below tt (omega (arith, later)))))
        (cases_eq offset 0)

    word_stays : (offset ≡ 0 → gone address ≡ false) → after (address + offset) ≡ heap (address + offset)
    word_stays unmoved =
        cond-false (is_to_stay config now (region_with config (address + offset)) && begins config now (address + offset) && has_moved now (address + offset)) (filler_header (object_words (heap (address + offset + 1)))) (heap (address + offset)) (not_filled unmoved)

  header_stays : (address : ℕ) (piece : Block) → block address ≡ Some piece → gone address ≡ false → after address ≡ heap address
  header_stays address piece piece_there unmoved =
      let same_address : address + 0 ≡ address = omega arith in
      let has_words = some address piece piece_there in
      sym (ap after same_address) ∙ word_stays address 0 piece piece_there (omega (arith, has_words)) (λ at_header. unmoved) ∙ ap heap same_address

  -- what has moved says how many words only fill
  header_filled : (address : ℕ) (piece : Block) → block address ≡ Some piece → gone address ≡ true → after address ≡ filler_header (words_of piece)
  header_filled address piece piece_there is_gone =
      let both_tests = and_parts (is_to_stay config now (region_with config address)) (has_moved now address) is_gone in
      let begun = walking.piece_begins config now block copying.between.parsable.plotted copying.between.parsable.filled some (λ r. Unit {0}) sizes address piece piece_there tt in
      cond-true (is_to_stay config now (region_with config address) && begins config now address && has_moved now address) (filler_header (object_words (heap (address + 1)))) (heap address)
      (and_from (is_to_stay config now (region_with config address) && begins config now address) (has_moved now address) (and_from (is_to_stay config now (region_with config address)) (begins config now address) both_tests.0 begun) both_tests.1)
      ∙ ap filler_header (sized.objects address piece piece_there (gone_fixed address piece piece_there is_gone))

  -- Pieces that are left.
  left_was : (address : ℕ) (piece : Block) → plot address ≡ Some piece → (out (region_with config address) ≡ false) × (left address ≡ Some piece)
  left_was = freed.piece_was config out left

  came : (address : ℕ) (piece : Block) → is_loose piece ≡ false → plot address ≡ Some piece → (block address ≡ Some piece) × (gone address ≡ false)
  came address piece fixed left_there = object_was gone block address piece fixed (left_was address piece left_there).1

  stays : (address : ℕ) (piece : Block) → out (region_with config address) ≡ false → gone address ≡ false → block address ≡ Some piece → plot address ≡ Some piece
  stays address piece spared unmoved piece_there = freed.piece_stays config out left address spared ∙ same_there gone block address unmoved ∙ piece_there

  thing_came : (address refs nums : ℕ) (name : Name) → plot address ≡ Some (thing name refs nums) → (block address ≡ Some (thing name refs nums)) × (gone address ≡ false)
  thing_came address refs nums name = came address (thing name refs nums) refl

  thing_stays : (address refs nums : ℕ) (name : Name) → block address ≡ Some (thing name refs nums) → plot address ≡ Some (thing name refs nums)
  thing_stays address refs nums name thing_there = stays address (thing name refs nums) (spared_region (region_with config address) (pinned address refs nums name thing_there)) (thing_unmoved address refs nums name thing_there) thing_there

  promised_came : (address seat words : ℕ) → plot address ≡ Some (promised seat words) → (block address ≡ Some (promised seat words)) × (gone address ≡ false)
  promised_came address seat words = came address (promised seat words) refl

  promised_stays : (address seat words : ℕ) → block address ≡ Some (promised seat words) → plot address ≡ Some (promised seat words)
  promised_stays address seat words promise_there = stays address (promised seat words) (outside_spared (region_with config address) (copying.no_promises address seat words promise_there)) (promised_unmoved address seat words promise_there) promise_there

  dead_came : (address words : ℕ) → plot address ≡ Some (dead words) → (block address ≡ Some (dead words)) × (gone address ≡ false)
  dead_came address words = came address (dead words) refl

  -- no old copy is
  unmoved_there : (address : ℕ) (piece : Block) → is_loose piece ≡ false → plot address ≡ Some piece → is_forwarded (heap address) ≡ true → IsCollected config (memory Cset) address → ⊥
  unmoved_there address piece fixed left_there forwarded inside =
      let spared = (left_was address piece left_there).0 in
      let piece_before = came address piece fixed left_there in
      true≢false (sym (and_from (is_to_stay config now (region_with config address)) (has_moved now address) (stays_there (region_with config address) spared inside) forwarded) ∙ piece_before.1)

  no_moved : (address refs nums target : ℕ) (name : Name) → plot address ≡ Some (moved name refs nums target) → ⊥
  no_moved address refs nums target name moved_there =
      let moves_before = (moves_again config memory memory block owner graph asking passed copying pinned no_room).moveds address refs nums target name (came address (moved name refs nums target) refl moved_there).0 in
      unmoved_there address (moved name refs nums target) refl moved_there (led_is_forwarded (heap address) target moves_before.header) moves_before.inside

  no_spent : (address words target : ℕ) → plot address ≡ Some (spent words target) → ⊥
  no_spent address words target spent_there =
      let spent_before = (moves_again config memory memory block owner graph asking passed copying pinned no_room).spents address words target (came address (spent words target) refl spent_there).0 in
      unmoved_there address (spent words target) refl spent_there (led_is_forwarded (heap address) target spent_before.header) spent_before.inside

  -- nor is there room
  room_came : (address seat : ℕ) (piece : Block) → room_of piece ≡ Some seat → plot address ≡ Some piece → block address ≡ Some piece
  room_came address seat piece room left_there = room_was gone block address seat piece room (left_was address piece left_there).1

  same_room : SameRoom block plot
  same_room = record { stays = λ address seat piece room room_there. absurd (no_room address seat piece room_there room); came = room_came }

  -- The heap is parsable.
  left_some : (address : ℕ) (piece : Block) → left address ≡ Some piece → 1 ≤ words_of piece
  left_some address piece left_there =
      let old_piece = (resized gone block).from address piece left_there in
      let has_words = some address old_piece.0 old_piece.1 in
      let same_words = old_piece.2 in
      omega (arith, has_words, same_words)

  left_parsable : IsParsable config (λ region. filled (Top region)) left
  left_parsable = record {
    plotted = resized_plotted config (λ region. memory (Top region)) block left (resized gone block) copying.between.parsable.plotted;
    filled = resized_filled config (λ region. memory (Top region)) block left (resized gone block) copying.between.parsable.filled;
    promises = λ address seat words left_there. copying.between.parsable.promises address seat words (object_was gone block address (promised seat words) refl left_there).0;
    deads = λ address words left_there. copying.between.parsable.deads address words (object_was gone block address (dead words) refl left_there).0;
    spents = λ address words target left_there. copying.between.parsable.spents address words target (object_was gone block address (spent words target) refl left_there).0;
    fillers = λ address words left_there. left_some address (filler words) left_there;
  }

  parsable_again : IsParsable config (λ region. memory_then (Top region)) plot
  parsable_again = freed.parsable_again config out filled left left_parsable.plotted left_some left_parsable

  -- Objects stand as before.
  points_still : (word : ℕ) (reference : Reference) → IsCurrent block word → Points block word reference → Points plot word reference
  points_still word None current points = points
  points_still word (Some name) (IsCurrent.null null) points = absurd (none_at_0 config (λ region. memory (Top region)) block copying.between.parsable.plotted word name points null)
  points_still word (Some referred) (IsCurrent.names refs nums name object_there) points = ap name_at (thing_stays word refs nums name object_there ∙ sym object_there) ∙ points

  thing_again : (address refs nums : ℕ) (name : Name) (object : Object) → block address ≡ Some (thing name refs nums) → IsThing heap block address refs nums name object → IsThing after plot address refs nums name object
  thing_again address refs nums name object thing_here thing_stands =
      object_reads heap after plot plot address refs nums name object (λ offset offset_below. word_stays address offset (thing name refs nums) thing_here offset_below (λ at_header. thing_unmoved address refs nums name thing_here)) (λ b f named. named)
      (object_stands heap block plot address refs nums name object
      (λ field reference reference_there few points. points_still (heap (address + 3 + field)) reference (field_current config memory memory block owner graph asking passed copying pinned no_room address refs nums field name thing_here few) points) thing_stands)

  objects_left : AreObjects after plot graph.object
  objects_left = record {
    each = λ address refs nums name left_there.
        let object_before = (thing_came address refs nums name left_there).0 in
        let object_got = objects.each address refs nums name object_before in
        (object_got.0, object_got.1, thing_again address refs nums name object_got.0 object_before object_got.2);
    once = λ address other_address refs nums other_refs other_nums name is_a is_b. objects.once address other_address refs nums other_refs other_nums name (thing_came address refs nums name is_a).0 (thing_came other_address other_refs other_nums name is_b).0;
  }

  promised_words : (address seat words offset : ℕ) → block address ≡ Some (promised seat words) → offset < words → after (address + offset) ≡ heap (address + offset)
  promised_words address seat words offset promise_there offset_below = word_stays address offset (promised seat words) promise_there offset_below (λ at_header. promised_unmoved address seat words promise_there)

  filler_header_of : (address words : ℕ) (piece : Block) → block address ≡ Some piece → WasLeft (gone address) piece (filler words) → after address ≡ filler_header words
  filler_header_of address words piece piece_there (WasLeft.stays same_piece unmoved) =
      let filler_before : block address ≡ Some (filler words) = piece_there ∙ ap Some same_piece in
      header_stays address (filler words) filler_before unmoved ∙ unwritten.fillers address words filler_before
  filler_header_of address words piece piece_there (WasLeft.fills fills is_gone) = header_filled address piece piece_there is_gone ∙ ap filler_header (sym (ap words_of fills))

  unwritten_left : AreUnwritten after plot
  unwritten_left = record {
    blanks = λ address seat words left_there.
        let piece_before = (promised_came address seat words left_there).0 in
        blank_stays heap after address words (λ offset offset_below. promised_words address seat words offset piece_before offset_below) (unwritten.blanks address seat words piece_before);
    headers = λ address words left_there. let piece_before = dead_came address words left_there in header_stays address (dead words) piece_before.0 piece_before.1 ∙ unwritten.headers address words piece_before.0;
    lengths = λ address words left_there.
        let piece_before = dead_came address words left_there in
        let has_words = copying.between.parsable.deads address words piece_before.0 in
        ap object_words (word_stays address 1 (dead words) piece_before.0 (omega (arith, has_words)) (λ at_header. piece_before.1)) ∙ unwritten.lengths address words piece_before.0;
    fillers = λ address words left_there. let piece_before = piece_was gone block address (filler words) (left_was address (filler words) left_there).1 in filler_header_of address words piece_before.0 piece_before.1 piece_before.2;
  }

  -- Regions and buffers are owned as before.
  set_nobodys : (region : ℕ) → out region ≡ true → owner region ≡ None
  set_nobodys region is_freed = none_if_never (owner region) (λ seat owned_by. copying.between.nobodys region seat owned_by (freed_region region is_freed).0)

  top_at_buffer : (seat : ℕ) (some_buffer : memory (Current seat) ≢ 0) → memory (Top (copying.between.owned.buffers.each seat some_buffer).region) ≤ memory_then (Top (copying.between.owned.buffers.each seat some_buffer).region)
  top_at_buffer seat some_buffer =
      let buffer = copying.between.owned.buffers.each seat some_buffer in
      let region_same = buffer_region_is config (λ region. memory (Top region)) block seat (memory (Current seat)) buffer (copying.between.parsable.plotted.tops buffer.region buffer.within) in
      let same_top = freed.top_stays config out filled buffer.region (outside_spared buffer.region (λ member. copying.between.owned.outside seat some_buffer (subst (IsIn (memory Cset)) (sym region_same) member))) in
      omega (arith, same_top)

  owned_left : AreOwned config (λ region. memory_then (Top region)) (memory Share) (memory_then Free) 0 (λ any_seat. memory (Current any_seat)) plot owner
  owned_left = record {
    free_word = freed.free_again config out filled left left_parsable.plotted left_some owner owner copying.between.owned.free_word set_nobodys (λ shared_region no_owner. no_owner);
    shared_one = λ shared_region share_is.
        let share_before = copying.between.owned.shared_one shared_region share_is in
        record {
          within = share_before.within;
          in_use = λ share_free. ⊎_elim share_before.in_use (λ (is_freed : out shared_region ≡ true). share_before.outside (freed_region shared_region is_freed).0) (freed.free_was config out filled shared_region share_before.within share_free);
          nobodys = share_before.nobodys;
          outside = none_is_in shared_region;
        };
    rooms = rooms_stay config block plot same_room copying.between.owned.rooms;
    buffers = buffers_stay config (λ region. memory (Top region)) (λ region. memory_then (Top region)) (λ any_seat. memory (Current any_seat)) block plot same_room copying.between.owned.buffers top_at_buffer;
    outside = λ seat some_buffer. none_in_0 config (end_in (memory (Current seat)) - 1);
  }

  -- what slots hold stays
  pin_left : (word : ℕ) (held : Option Pinned) → PinStands config (memory Cset) (memory Evac) block word held → PinStands config 0 0 plot word held
  pin_left word None pin_stands = pin_stands
  pin_left word (Some held_pin) pin_stands = (pin_stands.0, pin_stands.1, pin_stands.2, record { piece = thing_stays word pin_stands.1 pin_stands.2 held_pin.name pin_stands.3.piece; safe = λ inside. absurd (none_in_0 config word inside) })

  roots_left : (mutator index : ℕ) → mutator < config.mutators → index < 16 → Points plot (updated_word config memory (memory (Root mutator index))) (graph.root (mutator + 1) index)
  roots_left mutator index inside few =
      let points_again = updated_points config memory memory block owner graph asking passed copying pinned no_room (memory (Root mutator index)) (graph.root (mutator + 1) index) (copying.roots mutator index inside few) in
      points_still (updated_word config memory (memory (Root mutator index))) (graph.root (mutator + 1) index) points_again.1 points_again.0

  -- so the words stand for the graph
  pub left_idle : IsIdle config memory_then plot owner graph asking
  left_idle = record {
    parsable = parsable_again;
    contents = record { objects = objects_left; given = copying.between.contents.given };
    owned = owned_left;
    unwritten = unwritten_left;
    unmoved = record {
      no_moved = no_moved;
      no_spent = no_spent;
      no_hand = λ address seat words piece_there. copying.between.unheld address seat words (room_came address seat (hand seat words) refl piece_there);
      no_carved = λ address seat words piece_there. copying.between.uncarved address seat words (room_came address seat (carved seat words) refl piece_there);
    };
    roots = roots_left;
    pinned = λ mutator slot inside few. pin_left (memory (Pin mutator slot)) (graph.pin (mutator + 1) slot) (copying.pinned mutator slot inside few);
    asked = λ t inside.
        asked_stays memory memory_then block plot graph.count t refl (answer_stays config memory memory block owner graph asking passed copying pinned no_room t (asking t) (copying.asked t inside))
        (λ address words offset piece_there offset_below. promised_words address t words offset piece_there offset_below ∙ promised_word config memory memory block owner graph asking passed copying pinned no_room address t words offset piece_there offset_below)
        (λ address words piece_there. promised_stays address t words piece_there) (λ address words piece_there. (promised_came address t words piece_there).0) (asking t) (copying.asked t inside);
    promised_to = λ address seat words piece_there. copying.between.promised_to address seat words (promised_came address seat words piece_there).0;
  }
