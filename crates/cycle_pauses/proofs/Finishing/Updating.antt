-- Where no object has its current copy in the collection set any more, but in pinned regions: once all references were updated objects stand as
-- before, and no reference names an old copy.
use Rattle.std.specs.Prelude.{not}
use Rattle.std.proofs.Common.{◌≡◌, ℕ, ◌+◌, ◌-◌, ◌<◌, ◌≤◌, ◌⊎◌, ◌&&◌, Bool, nat_le, nat_lt, true, false, Option, Some, None, length, get_or, inl, inr, ⊎_elim, sym, ap, ◌∙◌, subst, arith}
use Rattle.std.specs.Int.{bit_at}
use Rattle.std.proofs.lemmas.Bool.{cases_Bool, cases_eq, cond-true, cond-false, and_from, and_left, and_right, and_parts, not-true, not_from_false, le-leb, lt-leb, lt-ltb, le-ltb, leb-true, ltb-true}
use Rattle.std.proofs.lemmas.Option.{slice_get_within, slice_get-get_or}
use Rattle.heap_words.specs.declared.config.Config.{Config}
use Rattle.heap_words.specs.Words.{Word, Cset, Top, Answer, Heap}
use Rattle.heap_words.specs.Encoding.{is_forwarded, forwardee_in, refs_in, object_words}
use Rattle.regions.specs.Place.{region_with}
use Rattle.regions.specs.Walk.{is_filler, stride_at}
use Rattle.shen_graph.specs.declared.name.Name.{Name}
use Rattle.shen_graph.specs.Graph.{Graph, Object, Reference}
use Rattle.heap_world.specs.World.{Block, thing, moved, spent, promised, dead, filler, words_of, HasNoRoom, Plot, Points, name_at, body_of, IsCollected, IsThing, AreObjects, AreUnwritten, HaveMoved, IsMarkable, IsCurrent}
use Rattle.heap_world.specs.Asking.{Asking, nothing, asks, refused, given, IsAsked}
use Rattle.heap_world.proofs.Pointing.{named_body, copy_cases, piece_inside}
use Rattle.heap_world.proofs.Pieces.{some_words}
use Rattle.image_graph.specs.Full.{now_in}
use Rattle.image_graph.specs.Pinned.{is_pinned}
use Rattle.cycle_words.specs.Evacuation.Begun.{is_collected}
use Rattle.cycle_words.specs.Finishing.Updated.{updated_word, is_reference, stays, all_updated}
use Rattle.cycle_words.proofs.Finishing.Fields.{collected_none, word_spared, low_spared, word_renewed, stays_outside, stays_pinned, other_stays, moved_stays, dead_stays, field_updated, gone_stays}
use Rattle.cycle_pauses.proofs.Evacuation.ClearingInTurn.{plain_is_plain, led_is_forwarded}
use Rattle.image_graph.proofs.Reached.{refs_read}
use Rattle.image_graph.specs.Holds.{AreSized}
use Rattle.cycle_words.proofs.Finishing.Strides.{filler_fills, strides}
use Rattle.cycle_pauses.proofs.Full.Sizes.{pieces_sized}
use Rattle.cycle_pauses.proofs.Finishing.Copying.{IsCopying}

module _ (config : Config) (first memory : Word → ℕ) (block : Plot) (owner : ℕ → Option ℕ) (graph : Graph) (asking : ℕ → Asking) (passed : ℕ) (copying : IsCopying config first memory block owner graph asking passed)
    (pinned : (address refs nums : ℕ) (name : Name) → block address ≡ Some (thing name refs nums) → IsCollected config (memory Cset) address → is_pinned config memory (region_with config address) ≡ true) (no_room : HasNoRoom block) where
  abbrev now : Word → ℕ
  now = all_updated config memory

  abbrev heap : ℕ → ℕ
  heap address = memory (Heap address)

  abbrev after : ℕ → ℕ
  after address = now (Heap address)

  pub some : (address : ℕ) (piece : Block) → block address ≡ Some piece → 1 ≤ words_of piece
  some = some_words config (λ region. memory (Top region)) block copying.between.parsable copying.between.owned.rooms

  -- a piece has as many words as its header or its shape word says
  sized : AreSized memory block
  sized = pieces_sized config memory block graph.object copying.between.contents.objects copying.between.unwritten copying.between.moves

  sizes : (address : ℕ) (piece : Block) → block address ≡ Some piece → stays config memory (region_with config address) ≡ true → stride_at heap address ≡ words_of piece
  sizes address piece piece_there stay = strides memory block sized no_room address piece piece_there

  -- a word that is no reference stays
  no_reference_stays : (address index : ℕ) (piece : Block) → block address ≡ Some piece → index < words_of piece → is_reference memory address (address + index) ≡ false → after (address + index) ≡ heap (address + index)
  no_reference_stays address index piece piece_here index_below no_reference = ⊎_elim
      (λ (stay : stays config memory (region_with config address) ≡ true). other_stays config memory block copying.between.parsable.plotted copying.between.parsable.filled some sizes address index piece piece_here index_below stay no_reference)
      (λ (region_gone : stays config memory (region_with config address) ≡ false). gone_stays config memory block copying.between.parsable.plotted copying.between.parsable.filled some sizes address index piece piece_here index_below region_gone)
      (cases_Bool (stays config memory (region_with config address)))

  -- the address of what has not moved stays
  own_spared : (address : ℕ) → is_forwarded (heap address) ≡ false → updated_word config memory address ≡ address
  own_spared address plain = ⊎_elim
      (λ (collected : is_collected config memory address ≡ true).
      cond-true (is_collected config memory address) (now_in memory address) address collected ∙ cond-false (is_forwarded (heap address)) (forwardee_in (heap address)) address plain)
      (λ (spared : is_collected config memory address ≡ false). word_spared config memory address spared)
      (cases_Bool (is_collected config memory address))

  -- what updating takes for a reference of what stands at an address
  abbrev fills : ℕ → Bool
  fills address = is_filler (heap address)

  abbrev low_end : ℕ → ℕ → Bool
  low_end address index = nat_le (address + 3) (address + index)

  abbrev high_end : ℕ → ℕ → Bool
  high_end address index = nat_lt (address + index) (address + 3 + refs_in (heap (address + 1)))

  reference_parts : (address index : ℕ) → is_reference memory address (address + index) ≡ true → (fills address ≡ false) × (address + 3 ≤ address + index) × (address + index < address + 3 + refs_in (heap (address + 1)))
  reference_parts address index reference_tested =
      let word_parts = and_parts (not (fills address) && low_end address index) (high_end address index) reference_tested in
      let first_parts = and_parts (not (fills address)) (low_end address index) word_parts.0 in
      (not-true (fills address) first_parts.0, leb-true (address + 3) (address + index) first_parts.1, ltb-true (address + index) (address + 3 + refs_in (heap (address + 1))) word_parts.1)

  not_reference : (address index refs : ℕ) → refs_in (heap (address + 1)) ≡ refs → (index < 3) ⊎ (3 + refs ≤ index) → is_reference memory address (address + index) ≡ false
  not_reference address index refs shape outside_fields = ⊎_elim
      (λ (low : index < 3). and_left (not (fills address) && low_end address index) (high_end address index) (and_right (not (fills address)) (low_end address index) (lt-leb (address + 3) (address + index) (omega (arith, low)))))
      (λ (high : 3 + refs ≤ index). and_right (not (fills address) && low_end address index) (high_end address index) (le-ltb (address + index) (address + 3 + refs_in (heap (address + 1))) (omega (arith, high, shape))))
      outside_fields

  -- The words of an object: its references are updated, the others stay.
  module _ (address refs nums : ℕ) (name : Name) (object_here : block address ≡ Some (thing name refs nums)) where
    stay : stays config memory (region_with config address) ≡ true
    stay = ⊎_elim
        (λ (inside : IsCollected config (memory Cset) address). stays_pinned config memory (region_with config address) (pinned address refs nums name object_here inside))
        (λ (away : IsCollected config (memory Cset) address → ⊥). stays_outside config memory (region_with config address) away)
        (cases_eq (bit_at (memory Cset) (region_with config address)) 1)

    object : (held_object : Object) × (graph.object name ≡ Some held_object) × IsThing heap block address refs nums name held_object
    object = copying.between.contents.objects.each address refs nums name object_here

    refs_are : refs_in (heap (address + 1)) ≡ refs
    refs_are = ap refs_in object.2.shape ∙ refs_read refs nums object.2.few_refs object.2.few_nums

    word_stays : (index : ℕ) → index < 3 + refs + nums → (index < 3) ⊎ (3 + refs ≤ index) → after (address + index) ≡ heap (address + index)
    word_stays index index_below outside_fields = no_reference_stays address index (thing name refs nums) object_here index_below (not_reference address index refs refs_are outside_fields)

    field_is : (field : ℕ) → field < refs → after (address + 3 + field) ≡ updated_word config memory (heap (address + 3 + field))
    field_is field field_below =
        let place : address + (3 + field) ≡ address + 3 + field = omega arith in
        let reference : is_reference memory address (address + (3 + field)) ≡ true =
        and_from (not (fills address) && low_end address (3 + field)) (high_end address (3 + field)) (and_from (not (fills address)) (low_end address (3 + field)) (not_from_false (fills address) (ap is_filler object.2.header)) (le-leb (address + 3) (address + (3 + field)) (omega arith)))
        (lt-ltb (address + (3 + field)) (address + 3 + refs_in (heap (address + 1))) (omega (arith, field_below, refs_are))) in
        sym (ap after place)
        ∙ field_updated config memory block copying.between.parsable.plotted copying.between.parsable.filled some sizes address (3 + field) (thing name refs nums) object_here (omega (arith, field_below)) stay
        (plain_is_plain (heap address) object.2.header) (copying.between.marked address (IsMarkable.object name refs nums object_here)) reference
        ∙ ap (λ field_address. updated_word config memory (heap field_address)) place

  -- those of an object that is promised stay, since its references are null
  pub promised_word : (address seat words index : ℕ) → block address ≡ Some (promised seat words) → index < words → after (address + index) ≡ heap (address + index)
  promised_word address seat words index promise_here index_below =
      let blank = copying.between.unwritten.blanks address seat words promise_here in
      let stay : stays config memory (region_with config address) ≡ true = stays_outside config memory (region_with config address) (copying.no_promises address seat words promise_here) in
      let refs_are : refs_in (heap (address + 1)) ≡ blank.refs = ap refs_in blank.shape ∙ refs_read blank.refs blank.nums blank.few_refs blank.few_nums in
      ⊎_elim
      (λ (reference : is_reference memory address (address + index) ≡ true).
      let word_parts = reference_parts address index reference in
      let low = word_parts.1 in
      let high = word_parts.2 in
      let place : address + 3 + (index - 3) ≡ address + index = omega (arith, low) in
      let null : heap (address + index) ≡ 0 = sym (ap heap place) ∙ blank.nulls (index - 3) (omega (arith, low, high, refs_are)) in
      field_updated config memory block copying.between.parsable.plotted copying.between.parsable.filled some sizes address index (promised seat words) promise_here index_below stay
      (plain_is_plain (heap address) blank.header) (copying.between.marked address (IsMarkable.to_come seat words promise_here)) reference
      ∙ low_spared config memory (heap (address + index)) (omega (arith, null)))
      (λ (no_reference : is_reference memory address (address + index) ≡ false). no_reference_stays address index (promised seat words) promise_here index_below no_reference)
      (cases_Bool (is_reference memory address (address + index)))

  -- so do those of dead objects, ..
  dead_word : (address words index : ℕ) → block address ≡ Some (dead words) → index < words → after (address + index) ≡ heap (address + index)
  dead_word address words index dead_here index_below = ⊎_elim
      (λ (stay : stays config memory (region_with config address) ≡ true).
      dead_stays config memory block copying.between.parsable.plotted copying.between.parsable.filled some sizes address index (dead words) dead_here index_below stay
      (copying.between.unmarked address words dead_here) (copying.between.deads address words dead_here))
      (λ (region_gone : stays config memory (region_with config address) ≡ false). gone_stays config memory block copying.between.parsable.plotted copying.between.parsable.filled some sizes address index (dead words) dead_here index_below region_gone)
      (cases_Bool (stays config memory (region_with config address)))

  -- the header of words that only fill, ..
  filler_word : (address words : ℕ) → block address ≡ Some (filler words) → after address ≡ heap address
  filler_word address words filler_here =
      let first_word : address + 0 ≡ address = omega arith in
      let some_word = some address (filler words) filler_here in
      ap after (sym first_word)
      ∙ no_reference_stays address 0 (filler words) filler_here some_word
      (and_left (not (fills address) && low_end address 0) (high_end address 0) (and_left (not (fills address)) (low_end address 0) (ap (λ header. not (is_filler header)) (copying.between.unwritten.fillers address words filler_here) ∙ ap not (filler_fills words))))
      ∙ ap heap first_word

  -- .. and those of old copies
  old_word : (address index : ℕ) (piece : Block) → block address ≡ Some piece → is_forwarded (heap address) ≡ true → index < words_of piece → after (address + index) ≡ heap (address + index)
  old_word address index piece piece_here old index_below = ⊎_elim
      (λ (stay : stays config memory (region_with config address) ≡ true). moved_stays config memory block copying.between.parsable.plotted copying.between.parsable.filled some sizes address index piece piece_here index_below stay old)
      (λ (region_gone : stays config memory (region_with config address) ≡ false). gone_stays config memory block copying.between.parsable.plotted copying.between.parsable.filled some sizes address index piece piece_here index_below region_gone)
      (cases_Bool (stays config memory (region_with config address)))

  -- a word that was updated stands for what it stood for, and is current
  pub updated_points : (address : ℕ) (reference : Reference) → Points block address reference → Points block (updated_word config memory address) reference × IsCurrent block (updated_word config memory address)
  updated_points address None points =
      let null : updated_word config memory address ≡ 0 = low_spared config memory address (omega (arith, points)) ∙ points in
      (null, IsCurrent.null null)
  updated_points address (Some name) points =
      let body = named_body (block address) name points in
      ⊎_elim
      (λ (current : block address ≡ Some (thing name body.0 body.1)).
      let spared : updated_word config memory address ≡ address = own_spared address (plain_is_plain (heap address) (copying.between.contents.objects.each address body.0 body.1 name current).2.header) in
      let copy_there : block (updated_word config memory address) ≡ Some (thing name body.0 body.1) = ap block spared ∙ current in
      (ap name_at copy_there, IsCurrent.names body.0 body.1 name copy_there))
      (λ (old : (new_address : ℕ) × (block address ≡ Some (moved name body.0 body.1 new_address))).
      let moved_before = copying.between.moves.moveds address body.0 body.1 old.0 name old.1 in
      let piece_place = piece_inside config (λ region. memory (Top region)) block copying.between.parsable.plotted address (moved name body.0 body.1 old.0) old.1 in
      let renewed : updated_word config memory address ≡ old.0 = word_renewed config memory address old.0 piece_place.0 moved_before.inside moved_before.header in
      let copy_there : block (updated_word config memory address) ≡ Some (thing name body.0 body.1) = ap block renewed ∙ moved_before.copy in
      (ap name_at copy_there, IsCurrent.names body.0 body.1 name copy_there))
      (copy_cases (block address) (body_of name body.0 body.1) body.2)

  -- objects stand as before
  thing_again : (address refs nums : ℕ) (name : Name) (object : Object) → block address ≡ Some (thing name refs nums) → IsThing heap block address refs nums name object → IsThing after block address refs nums name object
  thing_again address refs nums name object object_here object_before =
      let first_word : address + 0 ≡ address = omega arith in
      record {
        header = sym (ap after first_word) ∙ word_stays address refs nums name object_here 0 (omega arith) (inl (omega arith)) ∙ ap heap first_word ∙ object_before.header;
        shape = word_stays address refs nums name object_here 1 (omega arith) (inl (omega arith)) ∙ object_before.shape;
        name_word = word_stays address refs nums name object_here 2 (omega arith) (inl (omega arith)) ∙ object_before.name_word;
        few_refs = object_before.few_refs;
        few_nums = object_before.few_nums;
        refs_are = object_before.refs_are;
        nums_are = object_before.nums_are;
        references = λ index reference element_there.
            let within : index < length object.refs = slice_get_within object.refs index reference element_there in
            let field_below : index < refs = omega (arith, within, object_before.refs_are) in
            subst (λ word. Points block word reference) (sym (field_is address refs nums name object_here index field_below)) (updated_points (heap (address + 3 + index)) reference (object_before.references index reference element_there)).0;
        numbers = λ index number element_there.
            let within : index < length object.nums = slice_get_within object.nums index number element_there in
            let place : address + (3 + refs + index) ≡ address + 3 + refs + index = omega arith in
            sym (ap after place) ∙ word_stays address refs nums name object_here (3 + refs + index) (omega (arith, within, object_before.nums_are)) (inr (omega arith)) ∙ ap heap place ∙ object_before.numbers index number element_there;
      }

  pub objects_again : AreObjects after block graph.object
  objects_again = record {
    each = λ address refs nums name object_there. let object_told = copying.between.contents.objects.each address refs nums name object_there in (object_told.0, object_told.1, thing_again address refs nums name object_told.0 object_there object_told.2);
    once = copying.between.contents.objects.once;
  }

  -- each reference is current
  pub field_current : (address refs nums field : ℕ) (name : Name) → block address ≡ Some (thing name refs nums) → field < refs → IsCurrent block (after (address + 3 + field))
  field_current address refs nums field name object_here field_below = subst (IsCurrent block) (sym (field_is address refs nums name object_here field field_below)) (by_object (copying.between.contents.objects.each address refs nums name object_here))
    where
      by_object : (object : Object) × (graph.object name ≡ Some object) × IsThing heap block address refs nums name object → IsCurrent block (updated_word config memory (heap (address + 3 + field)))
      by_object object =
          let object_facts = object.2 in
          let null : Reference = None in
          let reference_there = slice_get-get_or object.0.refs field null (omega (arith, field_below, object_facts.refs_are)) in
          (updated_points (heap (address + 3 + field)) (get_or object.0.refs field null) (object_facts.references field (get_or object.0.refs field null) reference_there)).1

  pub unwritten_again : AreUnwritten after block
  unwritten_again = record {
    blanks = λ address seat words piece_there.
        let blank = copying.between.unwritten.blanks address seat words piece_there in
        record {
          refs = blank.refs;
          nums = blank.nums;
          long = blank.long;
          few_refs = blank.few_refs;
          few_nums = blank.few_nums;
          header = (let start : address ≡ address + 0 = omega arith in ap after start ∙ promised_word address seat words 0 piece_there (let long_enough = blank.long in omega (arith, long_enough)) ∙ ap heap (sym start) ∙ blank.header);
          shape = promised_word address seat words 1 piece_there (let long_enough = blank.long in omega (arith, long_enough)) ∙ blank.shape;
          nulls = λ field index_below.
              let place : address + (3 + field) ≡ address + 3 + field = omega arith in
              sym (ap after place) ∙ promised_word address seat words (3 + field) piece_there (let long_enough = blank.long in omega (arith, long_enough, index_below)) ∙ ap heap place ∙ blank.nulls field index_below;
        };
    headers = λ address words piece_there.
        let first_word : address + 0 ≡ address = omega arith in
        let long_enough = copying.between.parsable.deads address words piece_there in
        sym (ap after first_word) ∙ dead_word address words 0 piece_there (omega (arith, long_enough)) ∙ ap heap first_word ∙ copying.between.unwritten.headers address words piece_there;
    lengths = λ address words piece_there.
        let long_enough = copying.between.parsable.deads address words piece_there in
        ap object_words (dead_word address words 1 piece_there (omega (arith, long_enough))) ∙ copying.between.unwritten.lengths address words piece_there;
    fillers = λ address words piece_there. filler_word address words piece_there ∙ copying.between.unwritten.fillers address words piece_there;
  }

  pub moves_again : HaveMoved config (memory Cset) after block
  moves_again = record {
    moveds = λ address refs nums new_address name moved_there.
        let move_before = copying.between.moves.moveds address refs nums new_address name moved_there in
        let led = led_is_forwarded (heap address) new_address move_before.header in
        let first_word : address + 0 ≡ address = omega arith in
        record {
          header = sym (ap after first_word) ∙ old_word address 0 (moved name refs nums new_address) moved_there led (omega arith) ∙ ap heap first_word ∙ move_before.header;
          shape = old_word address 1 (moved name refs nums new_address) moved_there led (omega arith) ∙ move_before.shape;
          name_word = old_word address 2 (moved name refs nums new_address) moved_there led (omega arith) ∙ move_before.name_word;
          few_refs = move_before.few_refs;
          few_nums = move_before.few_nums;
          inside = move_before.inside;
          copy = move_before.copy;
          outside = move_before.outside;
          references = λ field field_below.
              let reference_there = move_before.references field field_below in
              let place : address + (3 + field) ≡ address + 3 + field = omega arith in
              (reference_there.0, subst (λ word. Points block word reference_there.0) (sym (subst (λ word_address. after word_address ≡ heap word_address) place (old_word address (3 + field) (moved name refs nums new_address) moved_there led (omega (arith, field_below))))) reference_there.1);
        };
    spents = λ address words new_address moved_there.
        let move_before = copying.between.moves.spents address words new_address moved_there in
        let led = led_is_forwarded (heap address) new_address move_before.header in
        let long_enough = copying.between.parsable.spents address words new_address moved_there in
        let first_word : address + 0 ≡ address = omega arith in
        record {
          header = sym (ap after first_word) ∙ old_word address 0 (spent words new_address) moved_there led (omega (arith, long_enough)) ∙ ap heap first_word ∙ move_before.header;
          shape = ap object_words (old_word address 1 (spent words new_address) moved_there led (omega (arith, long_enough))) ∙ move_before.shape;
          inside = move_before.inside;
          copy = move_before.copy;
          piece = move_before.piece;
          there = move_before.there;
          long = move_before.long;
          outside = move_before.outside;
        };
  }

  -- an answer names nothing in the set
  pub answer_stays : (mutator : ℕ) (asking : Asking) → IsAsked memory block graph.count mutator asking → updated_word config memory (memory (Answer mutator)) ≡ memory (Answer mutator)
  answer_stays mutator nothing asked = low_spared config memory (memory (Answer mutator)) (let no_answer = asked.1 in omega (arith, no_answer))
  answer_stays mutator (asks refs nums) asked = low_spared config memory (memory (Answer mutator)) (let no_answer = asked.1 in omega (arith, no_answer))
  answer_stays mutator refused asked = low_spared config memory (memory (Answer mutator)) (let answer_refuses = asked.1 in omega (arith, answer_refuses))
  answer_stays mutator (given refs nums) asked = word_spared config memory (memory (Answer mutator)) (collected_none config memory (memory (Answer mutator)) (copying.no_promises (memory (Answer mutator)) mutator (3 + refs + nums) asked.2.here))

  -- so each piece says how many words it has
  pub sized_again : AreSized now block
  sized_again = pieces_sized config now block graph.object objects_again unwritten_again moves_again
