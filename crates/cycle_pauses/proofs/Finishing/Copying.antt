-- What is left of the collection set is copied out, one object after the other: the words stand for the same graph meanwhile.
use Rattle.heap_words.specs.Phases.{evacuation_phase}
use Rattle.std.proofs.Common.{◌≡◌, ◌≢◌, ℕ, ◌+◌, ◌<◌, ◌≤◌, ◌==◌, ◌&&◌, nat_le, true, false, Option, Some, zero, suc, inl, inr, ⊎_elim, sym, ap, ◌∙◌, subst, arith}
use Rattle.std.specs.Prelude.{not}
use Rattle.std.specs.Int.{bit_at}
use Rattle.std.proofs.lemmas.Bool.{cases_Bool, cases_eq, true≢false, and_from, and_parts, not-true, not_from_false, le-leb, leb-true, eq-eqb, eqb-true}
use Rattle.std.proofs.lemmas.Option.{same_Some}
use Rattle.heap_words.specs.declared.config.Config.{Config}
use Rattle.heap_words.specs.Words.{Word, Phase, Cset, Evac, Claim, Top, Tams, Root, Pin, Wait, Answer, Black, Heap}
use Rattle.heap_words.specs.Encoding.{plain_header, is_forwarded, object_words}
use Rattle.regions.specs.Place.{base_of, region_with}
use Rattle.regions.specs.Sets.{IsIn}
use Rattle.regions.proofs.PlaceLemmas.{regions_tile}
use Rattle.heap_words.specs.Counter.{is_out_of_room}
use Rattle.shen_graph.specs.declared.name.Name.{Name}
use Rattle.shen_graph.specs.Graph.{Graph}
use Rattle.regions.specs.Marks.{HasMark, mark_word, mark_bit}
use Rattle.heap_world.specs.World.{Block, thing, moved, spent, promised, words_of, Plot, Points, PinStands, IsCollected, IsMarkable, IsYoung, HasCopy, IsSweptTo}
use Rattle.heap_world.specs.Asking.{Asking, IsAsked}
use Rattle.heap_world.proofs.Pointing.{body_piece, copy_cases, piece_inside}
use Rattle.heap_world.proofs.Keeping.{points_stay}
use Rattle.image_graph.specs.Pinned.{is_pinned}
use Rattle.cycle_words.specs.Marking.Marks.{is_black}
use Rattle.cycle_words.proofs.Marking.Plain.{below_top}
use Rattle.cycle_words.specs.Evacuation.Live.{words_at}
use Rattle.cycle_words.specs.Evacuation.Copied.{MayChange, CanCopyOut, copied_out, IsCopiedOut}
use Rattle.cycle_words.specs.Evacuation.Begun.{is_collected}
use Rattle.cycle_words.proofs.Evacuation.RegionAddresses.{from_base}
use Rattle.cycle_words.proofs.Pinned.{same_pinned, unpinned_there}
use Rattle.cycle_pauses.proofs.Evacuation.PinsKept.{pin_kept}
use Rattle.cycle_pauses.proofs.Evacuation.Asked.{asked_stays}
use Rattle.cycle_pauses.proofs.Evacuation.Between.{AreBetween}
use Rattle.cycle_pauses.proofs.Evacuation.CopiedOut.{HasCopied, copied_out_of}
use Rattle.cycle_pauses.proofs.Evacuation.ClearingInTurn.{plain_is_plain, led_is_forwarded}
use Rattle.cycle_words.proofs.Evacuation.CopiedOut.{copies_out}
use Rattle.cycle_words.specs.Finishing.Copies.{is_left, has_copy_room, copied_from, is_room_from, CanCopyFrom}
use Rattle.cycle_words.proofs.Finishing.Copies.{room_found, copied_none, copied_next, copied_stuck, copied_skips, room_if, room_skips}

-- The words between two objects: they stand for the graph, but for pieces they are as at first, and no object is left at the addresses
-- that were passed, but in pinned regions. While objects are evacuated, units that were claimed stay swept.
pub record IsCopying (config : Config) (first memory : Word → ℕ) (block : Plot) (owner : ℕ → Option ℕ) (graph : Graph) (asking : ℕ → Asking) (passed : ℕ) : Type 0 where
  pub between : AreBetween config memory block owner graph
  pub roots : (mutator index : ℕ) → mutator < config.mutators → index < 16 → Points block (memory (Root mutator index)) (graph.root (mutator + 1) index)
  pub asked : (mutator : ℕ) → mutator < config.mutators → IsAsked memory block graph.count mutator (asking mutator)
  pub same : (word : Word) → (MayChange word → ⊥) → memory word ≡ first word
  pub no_promises : (address seat words : ℕ) → block address ≡ Some (promised seat words) → IsCollected config (memory Cset) address → ⊥
  pub pinned : (mutator index : ℕ) → mutator < config.mutators → index < 4 → PinStands config (first Cset) (first Evac) block (first (Pin mutator index)) (graph.pin (mutator + 1) index)
  pub swept : (address refs nums : ℕ) (name : Name) → block address ≡ Some (thing name refs nums) → IsCollected config (memory Cset) address → is_pinned config first (region_with config address) ≡ false → passed ≤ address
  pub units : memory Phase ≡ evacuation_phase → (region : ℕ) → region < memory Claim → IsIn (memory Cset) region → IsSweptTo config (memory Evac) block region (base_of config (region + 1))

-- what is left at an address
record IsLeft (config : Config) (memory : Word → ℕ) (address : ℕ) : Type 0 where
  above : config.region_words ≤ address
  inside : IsCollected config (memory Cset) address
  unpinned : is_pinned config memory (region_with config address) ≡ false
  mark : HasMark config (λ number. memory (Black number)) address
  plain : is_forwarded (memory (Heap address)) ≡ false

left_parts : (config : Config) (memory : Word → ℕ) (address : ℕ) → is_left config memory address ≡ true → IsLeft config memory address
left_parts config memory address left_told =
    let outer_parts = and_parts (is_collected config memory address && not (is_pinned config memory (region_with config address)) && is_black config memory address) (not (is_forwarded (memory (Heap address)))) left_told in
    let middle_parts = and_parts (is_collected config memory address && not (is_pinned config memory (region_with config address))) (is_black config memory address) outer_parts.0 in
    let inner_parts = and_parts (is_collected config memory address) (not (is_pinned config memory (region_with config address))) middle_parts.0 in
    let collected = and_parts (nat_le config.region_words address) (bit_at (memory Cset) (region_with config address) == 1) inner_parts.0 in
    let black = and_parts (nat_le config.region_words address) (bit_at (memory (Black (mark_word config address))) (mark_bit config address) == 1) middle_parts.1 in
    record {
      above = leb-true config.region_words address collected.0;
      inside = eqb-true (bit_at (memory Cset) (region_with config address)) 1 collected.1;
      unpinned = not-true (is_pinned config memory (region_with config address)) inner_parts.1;
      mark = eqb-true (bit_at (memory (Black (mark_word config address))) (mark_bit config address)) 1 black.1;
      plain = not-true (is_forwarded (memory (Heap address))) outer_parts.1;
    }

is_left_from : (config : Config) (memory : Word → ℕ) (address : ℕ) → config.region_words ≤ address → IsCollected config (memory Cset) address → is_pinned config memory (region_with config address) ≡ false → HasMark config (λ number. memory (Black number)) address
    → is_forwarded (memory (Heap address)) ≡ false → is_left config memory address ≡ true
is_left_from config memory address address_high inside unpinned mark plain =
    and_from (is_collected config memory address && not (is_pinned config memory (region_with config address)) && is_black config memory address) (not (is_forwarded (memory (Heap address))))
    (and_from (is_collected config memory address && not (is_pinned config memory (region_with config address))) (is_black config memory address)
    (and_from (is_collected config memory address) (not (is_pinned config memory (region_with config address)))
    (and_from (nat_le config.region_words address) (bit_at (memory Cset) (region_with config address) == 1) (le-leb config.region_words address address_high) (eq-eqb (bit_at (memory Cset) (region_with config address)) 1 inside))
    (not_from_false (is_pinned config memory (region_with config address)) unpinned))
    (and_from (nat_le config.region_words address) (bit_at (memory (Black (mark_word config address))) (mark_bit config address) == 1) (le-leb config.region_words address address_high) (eq-eqb (bit_at (memory (Black (mark_word config address))) (mark_bit config address)) 1 mark)))
    (not_from_false (is_forwarded (memory (Heap address))) plain)

module _ (config : Config) (memory : Word → ℕ) (block : Plot) (owner : ℕ → Option ℕ) (graph : Graph) (between : AreBetween config memory block owner graph) where
  -- an object of the set is marked
  pub thing_marked : (address refs nums : ℕ) (name : Name) → block address ≡ Some (thing name refs nums) → IsCollected config (memory Cset) address → HasMark config (λ number. memory (Black number)) address
  thing_marked address refs nums name thing_there inside = ⊎_elim
      (λ (mark : HasMark config (λ number. memory (Black number)) address). mark)
      (λ (young : IsYoung config (λ region. memory (Tams region)) address).
      let top_above = below_top config (λ region. memory (Top region)) block between.parsable.plotted address (thing name refs nums) thing_there (omega arith) in
      let old = between.no_new (region_with config address) inside in
      absurd (omega (arith, young, top_above.2, old)))
      (between.marked address (IsMarkable.object name refs nums thing_there))

  -- where something is marked in the set a piece is
  pub piece_marked : (address : ℕ) → config.region_words ≤ address → HasMark config (λ number. memory (Black number)) address → IsCollected config (memory Cset) address → (piece : Block) × (block address ≡ Some piece)
  piece_marked address address_high mark inside = ⊎_elim of_markable of_copy (between.only address address_high mark inside)
    where
      of_markable : IsMarkable block address → (found_piece : Block) × (block address ≡ Some found_piece)
      of_markable (IsMarkable.object name refs nums piece_there) = (thing name refs nums, piece_there)
      of_markable (IsMarkable.to_come seat words piece_there) = (promised seat words, piece_there)

      of_copy : HasCopy block address → (found_piece : Block) × (block address ≡ Some found_piece)
      of_copy (HasCopy.copy body piece_there) = let piece = body_piece (block address) body piece_there in (piece.0, piece.1)
      of_copy (HasCopy.spent_copy words target piece_there) = (spent words target, piece_there)

  -- an object has a plain header, and as many words as its shape word says
  pub thing_words : (address refs nums : ℕ) (name : Name) → block address ≡ Some (thing name refs nums) → (memory (Heap address) ≡ plain_header) × (words_at memory address ≡ 3 + refs + nums)
  thing_words address refs nums name thing_there =
      let graph_object = between.contents.objects.each address refs nums name thing_there in
      let few_refs = graph_object.2.few_refs in
      let few_nums = graph_object.2.few_nums in
      (graph_object.2.header, ap object_words graph_object.2.shape ∙ omega (arith, few_refs, few_nums))

module _ (config : Config) (first_memory memory : Word → ℕ) (block : Plot) (owner : ℕ → Option ℕ) (graph : Graph) (asking : ℕ → Asking) (address : ℕ) (copying : IsCopying config first_memory memory block owner graph asking address) where
  pins_same : (mutator index : ℕ) → memory (Pin mutator index) ≡ first_memory (Pin mutator index)
  pins_same mutator index = copying.same (Pin mutator index) (λ never. never)

  -- What is left at the address is an object.
  module _ (object_left : is_left config memory address ≡ true) where
    is : IsLeft config memory address
    is = left_parts config memory address object_left

    here : (name : Name) × (refs : ℕ) × (nums : ℕ) × (block address ≡ Some (thing name refs nums))
    here = ⊎_elim of_markable of_copy (copying.between.only address is.above is.mark is.inside)
      where
        of_markable : IsMarkable block address → (name : Name) × (refs : ℕ) × (nums : ℕ) × (block address ≡ Some (thing name refs nums))
        of_markable (IsMarkable.object name refs nums piece_there) = (name, refs, nums, piece_there)
        of_markable (IsMarkable.to_come seat words piece_there) = absurd (copying.no_promises address seat words piece_there is.inside)

        of_copy : HasCopy block address → (name : Name) × (refs : ℕ) × (nums : ℕ) × (block address ≡ Some (thing name refs nums))
        of_copy (HasCopy.copy body piece_there) = ⊎_elim
            (λ (now_thing : block address ≡ Some (thing body.name body.refs body.nums)). (body.name, body.refs, body.nums, now_thing))
            (λ (old : (target : ℕ) × (block address ≡ Some (moved body.name body.refs body.nums target))).
            absurd (true≢false (sym (led_is_forwarded (memory (Heap address)) old.0 (copying.between.moves.moveds address body.refs body.nums old.0 body.name old.1).header) ∙ is.plain)))
            (copy_cases (block address) body piece_there)
        of_copy (HasCopy.spent_copy words target piece_there) =
            absurd (true≢false (sym (led_is_forwarded (memory (Heap address)) target (copying.between.moves.spents address words target piece_there).header) ∙ is.plain))

    abbrev x : Block
    x = thing here.0 here.1 here.2

    words_are : (memory (Heap address) ≡ plain_header) × (words_at memory address ≡ words_of x)
    words_are = thing_words config memory block owner graph copying.between address here.1 here.2 here.0 here.3

    pub can_copy_out : CanCopyOut config memory address
    can_copy_out =
        let top_above = below_top config (λ region. memory (Top region)) block copying.between.parsable.plotted address x here.3 (omega arith) in
        let top_low = copying.between.parsable.plotted.tops (region_with config address) top_above.0 in
        let enough_words = config.in_range.least_words in
        let base_again = from_base config.region_words address (omega (arith, enough_words)) is.above in
        record {
          above = is.above;
          of_region = top_above.0;
          in_set = is.inside;
          lies = omega (arith, base_again, top_above.2, top_low, words_are.1);
          tops = copying.between.parsable.plotted.tops;
        }

    module _ (room : has_copy_room config memory address ≡ true) where
      copies : IsCopiedOut config memory (copied_out config memory address) address
      copies = copies_out config memory address is.above is.inside (room_found config memory address room)

      at : (copy_address : ℕ) × (plot : Plot) × HasCopied config memory (copied_out config memory address) block plot owner graph address copy_address x
      at = copied_out_of config memory block owner graph copying.between address x here.3 tt is.inside words_are.0 words_are.1 copies

      abbrev memory_then : Word → ℕ
      memory_then = copied_out config memory address

      abbrev plot : Plot
      plot = at.1

      no_promise : (seat promise_address words : ℕ) → block promise_address ≡ Some (promised seat words) → promise_address ≢ address
      no_promise seat promise_address words promise same_address =
          let both_pieces : thing here.0 here.1 here.2 ≡ promised seat words = same_Some x (promised seat words) (sym here.3 ∙ ap block (sym same_address) ∙ promise) in cc

      promise_was : (promise_address seat words : ℕ) → plot promise_address ≡ Some (promised seat words) → block promise_address ≡ Some (promised seat words)
      promise_was promise_address seat words promise = ⊎_elim
          (λ (new : (promise_address ≡ at.0) × (x ≡ promised seat words)). let differ = new.1 in cc)
          (λ (stood : (promise_address ≢ address) × (block promise_address ≡ Some (promised seat words))). stood.1)
          (at.2.promises promise_address seat words promise)

      set_same : memory_then Cset ≡ memory Cset
      set_same = at.2.same Cset (λ never. never)

      -- an object of the set stood there, and is another one
      thing_was : (thing_address refs nums : ℕ) (name : Name) → plot thing_address ≡ Some (thing name refs nums) → IsCollected config (memory_then Cset) thing_address → (thing_address ≢ address) × (block thing_address ≡ Some (thing name refs nums))
      thing_was thing_address refs nums name thing_there inside =
          let between_now = at.2.between in
          let mark = thing_marked config memory_then plot owner graph between_now thing_address refs nums name thing_there inside in
          let lies_inside = piece_inside config (λ region. memory_then (Top region)) plot between_now.parsable.plotted thing_address (thing name refs nums) thing_there in
          let was_mark : HasMark config (λ number. memory (Black number)) thing_address = sym (ap (λ marks. bit_at marks (mark_bit config thing_address)) (at.2.same (Black (mark_word config thing_address)) (λ never. never))) ∙ mark in
          let piece = piece_marked config memory block owner graph copying.between thing_address lies_inside.0 was_mark (subst (λ set. IsCollected config set thing_address) set_same inside) in
          let address_differs : thing_address ≢ address = λ same_address. true≢false (sym (led_is_forwarded (memory_then (Heap thing_address)) at.0 (ap (λ address. memory_then (Heap address)) same_address ∙ at.2.header))
          ∙ plain_is_plain (memory_then (Heap thing_address)) (thing_words config memory_then plot owner graph between_now thing_address refs nums name thing_there).0) in
          (address_differs, piece.1 ∙ sym (at.2.stays thing_address piece.0 address_differs piece.1) ∙ thing_there)

      -- no slot holds what is left, so what slots hold stays
      pins_stay_here : (mutator index : ℕ) → mutator < config.mutators → index < 4 → PinStands config (first_memory Cset) (first_memory Evac) plot (first_memory (Pin mutator index)) (graph.pin (mutator + 1) index)
      pins_stay_here mutator index inside index_low =
          let address_differs : first_memory (Pin mutator index) ≢ address = λ same_address. unpinned_there config memory address is.above is.unpinned mutator index inside index_low (pins_same mutator index ∙ same_address) in
          pin_kept config (first_memory Cset) (first_memory Evac) block plot (first_memory (Pin mutator index)) (graph.pin (mutator + 1) index) (λ piece is_there. at.2.stays (first_memory (Pin mutator index)) piece address_differs is_there) (copying.pinned mutator index inside index_low)

      -- so a unit that was swept is swept still
      swept_still : (region : ℕ) → IsIn (memory Cset) region → IsSweptTo config (memory Evac) block region (base_of config (region + 1)) → IsSweptTo config (memory_then Evac) plot region (base_of config (region + 1))
      swept_still region member (inl swept_full) = inl (ap is_out_of_room (at.2.same Evac (λ never. never)) ∙ swept_full)
      swept_still given_region member (inr none_left) = inr (λ asked_address refs nums name from before thing_there.
          let region : region_with config asked_address ≡ given_region = regions_tile.of_no_other config given_region asked_address (record { from = from; before = omega (arith, before) }) in
          let inside : IsIn (memory_then Cset) given_region = subst (λ set. IsIn set given_region) (sym set_same) member in
          none_left asked_address refs nums name from before (thing_was asked_address refs nums name thing_there (subst (IsIn (memory_then Cset)) (sym region) inside)).1)

      pub one_copied : (new_plot : Plot) × IsCopying config first_memory (copied_out config memory address) new_plot owner graph asking (address + 1)
      one_copied = (
        plot,
        record {
          between = at.2.between;
          roots = λ mutator index inside few.
              subst (λ root_word. Points plot root_word (graph.root (mutator + 1) index)) (sym (at.2.same (Root mutator index) (λ never. never)))
              (points_stay block plot at.2.names (memory (Root mutator index)) (graph.root (mutator + 1) index) (copying.roots mutator index inside few));
          asked = λ mutator inside.
              asked_stays memory memory_then block plot graph.count mutator (at.2.same (Wait mutator) (λ never. never)) (at.2.same (Answer mutator) (λ never. never))
              (λ place words offset promise below. at.2.kept place offset (promised mutator words) (no_promise mutator place words promise) promise below)
              (λ place words promise. at.2.stays place (promised mutator words) (no_promise mutator place words promise) promise)
              (λ place words promise. promise_was place mutator words promise)
              (asking mutator) (copying.asked mutator inside);
          same = λ word fixed. at.2.same word fixed ∙ copying.same word fixed;
          no_promises = λ address seat words promise inside. copying.no_promises address seat words (promise_was address seat words promise) (subst (λ set. IsCollected config set address) set_same inside);
          pinned = pins_stay_here;
          swept = λ place refs nums name thing_there inside unpinned.
              let was = thing_was place refs nums name thing_there inside in
              let still_ahead = copying.swept place refs nums name was.1 (subst (λ set. IsCollected config set place) set_same inside) unpinned in
              omega (arith, still_ahead, was.0);
          units = λ evacuating region below member.
              let was : IsIn (memory Cset) region = subst (λ set. IsIn set region) set_same member in
              let claim = at.2.same Claim (λ never. never) in
              swept_still region was (copying.units (sym (at.2.same Phase (λ never. never)) ∙ evacuating) region (omega (arith, below, claim)) was);
        },
      )

  -- Where nothing is left at the address, it is passed.
  pub one_passed : is_left config memory address ≡ false → IsCopying config first_memory memory block owner graph asking (address + 1)
  one_passed none_left = record {
    between = copying.between;
    roots = copying.roots;
    asked = copying.asked;
    same = copying.same;
    no_promises = copying.no_promises;
    pinned = copying.pinned;
    swept = λ object_address refs nums name thing_there inside unpinned.
        let still_ahead = copying.swept object_address refs nums name thing_there inside unpinned in
        ⊎_elim
        (λ (same_address : object_address ≡ address).
        let lies_inside = piece_inside config (λ region. memory (Top region)) block copying.between.parsable.plotted object_address (thing name refs nums) thing_there in
        let object_left = is_left_from config memory object_address lies_inside.0 inside (same_pinned config first_memory memory pins_same (region_with config object_address) ∙ unpinned) (thing_marked config memory block owner graph copying.between object_address refs nums name thing_there inside)
        (plain_is_plain (memory (Heap object_address)) (thing_words config memory block owner graph copying.between object_address refs nums name thing_there).0) in
        absurd (true≢false (sym object_left ∙ ap (is_left config memory) same_address ∙ none_left)))
        (λ (address_differs : object_address ≢ address). omega (arith, still_ahead, address_differs))
        (cases_eq object_address address);
    units = copying.units;
  }

-- After so many addresses, or up to the first object without room.
pub all_passed : (config : Config) (first_memory : Word → ℕ) (owner : ℕ → Option ℕ) (graph : Graph) (asking : ℕ → Asking) (addresses : ℕ) (memory : Word → ℕ) (block : Plot) (address : ℕ)
    → IsCopying config first_memory memory block owner graph asking address
    → (plot : Plot) × (passed : ℕ) × IsCopying config first_memory (copied_from config memory address addresses) plot owner graph asking passed × (is_room_from config memory address addresses ≡ true → passed ≡ address + addresses)
all_passed config first_memory owner graph asking zero memory block address copying =
    (block, address, subst (λ memory. IsCopying config first_memory memory block owner graph asking address) (sym (copied_none config memory address zero)) copying, λ room. omega arith)
all_passed config first_memory owner graph asking (suc addresses) memory block address copying = ⊎_elim
    (λ (object_left : is_left config memory address ≡ true). ⊎_elim
    (λ (room : has_copy_room config memory address ≡ true).
    let one_out = one_copied config first_memory memory block owner graph asking address copying object_left room in
    let rest = all_passed config first_memory owner graph asking addresses (copied_out config memory address) one_out.0 (address + 1) one_out.1 in (
      rest.0,
      rest.1,
      subst (λ memory. IsCopying config first_memory memory rest.0 owner graph asking rest.1) (sym (copied_next config memory address addresses object_left room)) rest.2,
      λ all_room. let end = rest.3 (room_if config memory address addresses object_left all_room).1 in omega (arith, end),
    ))
    (λ (no_room : has_copy_room config memory address ≡ false). (
      block,
      address,
      subst (λ memory. IsCopying config first_memory memory block owner graph asking address) (sym (copied_stuck config memory address addresses object_left no_room)) copying,
      λ all_room. absurd (true≢false (sym (room_if config memory address addresses object_left all_room).0 ∙ no_room)),
    ))
    (cases_Bool (has_copy_room config memory address)))
    (λ (not_left : is_left config memory address ≡ false).
    let rest = all_passed config first_memory owner graph asking addresses memory block (address + 1) (one_passed config first_memory memory block owner graph asking address copying not_left) in (
      rest.0,
      rest.1,
      subst (λ memory. IsCopying config first_memory memory rest.0 owner graph asking rest.1) (sym (copied_skips config memory address addresses not_left)) rest.2,
      λ all_room. let end = rest.3 (room_skips config memory address addresses not_left all_room) in omega (arith, end),
    ))
    (cases_Bool (is_left config memory address))

-- and each of them can be copied out at its turn
pub can_copy_from : (config : Config) (first_memory : Word → ℕ) (owner : ℕ → Option ℕ) (graph : Graph) (asking : ℕ → Asking) (addresses : ℕ) (memory : Word → ℕ) (block : Plot) (address : ℕ)
    → IsCopying config first_memory memory block owner graph asking address → CanCopyFrom config memory address addresses
unfolding CanCopyFrom
can_copy_from config first_memory owner graph asking zero memory block address copying = tt
can_copy_from config first_memory owner graph asking (suc addresses) memory block address copying = (
  λ object_left. (
    can_copy_out config first_memory memory block owner graph asking address copying object_left,
    λ room. let one_out = one_copied config first_memory memory block owner graph asking address copying object_left room in can_copy_from config first_memory owner graph asking addresses (copied_out config memory address) one_out.0 (address + 1) one_out.1,
  ),
  λ not_left. can_copy_from config first_memory owner graph asking addresses memory block (address + 1) (one_passed config first_memory memory block owner graph asking address copying not_left),
)
