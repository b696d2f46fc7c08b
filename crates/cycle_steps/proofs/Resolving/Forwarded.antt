-- A copy is published: the header of the old one names it, and it is the object's current copy from then on.
use Rattle.heap_words.specs.Phases.{evacuation_phase}
use Rattle.std.proofs.Common.{◌≡◌, ◌≢◌, ℕ, ◌+◌, ◌-◌, ◌<◌, ◌≤◌, ◌⊎◌, Some, None, get_or, true, ⊎_elim, inl, inr, refl, sym, ap, ◌∙◌, subst, arith}
use Rattle.std.specs.Prelude.{◌==◌, length}
use Rattle.std.proofs.lemmas.Bool.{cases_eq, cond-true, eq-eqb}
use Rattle.std.proofs.lemmas.Option.{same_Some, none-some, slice_get_within, slice_get-get_or}
use Rattle.heap_words.specs.declared.config.Config.{Config}
use Rattle.heap_words.specs.Encoding.{plain_header, header_word, object_words, next_in, end_in}
use Rattle.heap_words.specs.Ranges.{seat_count}
use Rattle.heap_words.specs.Words.{Phase, Cset, Evac, Top, Tams, Current, Heap, write}
use Rattle.regions.specs.Place.{base_of}
use Rattle.heap_words.specs.Touch.{touch, exchanges}
use Rattle.shen_graph.specs.declared.name.Name.{Name}
use Rattle.shen_graph.specs.Graph.{Reference, Object}
use Rattle.heap_world.specs.World.{World, Block, thing, moved, spent, hand, promised, dead, filler, spare, carved, words_of, filling, room_of, Plot, name_at, Points, IsInUse, Body, body_of, body_at, IsPlotted, IsFilled, IsThing, IsCollected, IsMarkable, IsYoung, HasCopy, IsMoved, Shared}
use Rattle.heap_world.specs.Part.{PartStep}
use Rattle.heap_world.proofs.FunctionUpdates.{updated, updated_there, updated_else}
use Rattle.heap_world.proofs.Apart.{one_piece}
use Rattle.heap_world.proofs.Keeping.{points_stay}
use Rattle.heap_world.proofs.Pieces.{object_reads, piece_cases}
use Rattle.heap_world.proofs.Pointing.{named_body, body_named}
use Rattle.heap_world.proofs.Copies.{not_quiet}
use Rattle.cycle_steps.proofs.Resolving.Changes.{world_after, heap_written, IsCopyingStep, step_after}
use Rattle.cycle_steps.proofs.Resolving.Bodies.{room_outside}

-- pieces lie where they should where they stand in the same places and are as long
pub plotted_same : (config : Config) (top : ℕ → ℕ) (plot new_plot : Plot) → ((address : ℕ) (piece : Block) → new_plot address ≡ Some piece → (other_piece : Block) × (plot address ≡ Some other_piece) × (words_of other_piece ≡ words_of piece)) → IsPlotted config top plot → IsPlotted config top new_plot
plotted_same config top plot new_plot was_there plotted = record {
  tops = plotted.tops;
  in_use = λ address piece has_piece. let old = was_there address piece has_piece in subst (λ words. IsInUse config top address words) old.2 (plotted.in_use address old.0 old.1);
  apart = λ address other_address piece other_piece first_there second_there before. let old_x = was_there address piece first_there in let old_y = was_there other_address other_piece second_there in let same_length = old_x.2 in let pieces_apart = plotted.apart address other_address old_x.0 old_y.0 old_x.1 old_y.1 before in omega (arith, pieces_apart, same_length);
}

-- and fill what they should
pub filled_same : (config : Config) (top : ℕ → ℕ) (plot new_plot : Plot) → ((address : ℕ) (piece : Block) → new_plot address ≡ Some piece → (other_piece : Block) × (plot address ≡ Some other_piece) × (words_of other_piece ≡ words_of piece))
    → ((address : ℕ) (piece : Block) → plot address ≡ Some piece → (other_piece : Block) × (new_plot address ≡ Some other_piece)) → IsFilled config top plot → IsFilled config top new_plot
filled_same config top plot new_plot was_there now_there filled = record {
  first = λ region inside used. let old = filled.first region inside used in now_there (base_of config region) old.0 old.1;
  next = λ region address piece inside from has_piece below_top.
      let old = was_there address piece has_piece in
      let same_length = old.2 in
      let next_piece = filled.next region address old.0 inside from old.1 (omega (arith, below_top, same_length)) in
      subst (λ words. (other_piece : Block) × (new_plot (address + words) ≡ Some other_piece)) same_length (now_there (address + words_of old.0) next_piece.0 next_piece.1);
}

-- the words of an object, copied behind a plain header, are the object
pub thing_copied : (heap after : ℕ → ℕ) (block new_plot : Plot) (address copy refs nums : ℕ) (name : Name) (object : Object) → after copy ≡ plain_header
    → ((offset : ℕ) → 1 ≤ offset → offset < 3 + refs + nums → after (copy + offset) ≡ heap (address + offset))
    → ((other_address : ℕ) (other_name : Name) → name_at (block other_address) ≡ Some other_name → name_at (new_plot other_address) ≡ Some other_name)
    → IsThing heap block address refs nums name object → IsThing after new_plot copy refs nums name object
thing_copied heap after block new_plot address copy refs nums name object header_is same_words names_stay old_thing = record {
  header = header_is;
  shape = same_words 1 (omega arith) (omega arith) ∙ old_thing.shape;
  name_word = same_words 2 (omega arith) (omega arith) ∙ old_thing.name_word;
  few_refs = old_thing.few_refs;
  few_nums = old_thing.few_nums;
  refs_are = old_thing.refs_are;
  nums_are = old_thing.nums_are;
  references = λ index reference field_there.
      let index_within : index < length object.refs = slice_get_within object.refs index reference field_there in
      let same_length : length object.refs ≡ refs = old_thing.refs_are in
      let word : after (copy + 3 + index) ≡ heap (address + 3 + index) = ap after (omega arith) ∙ same_words (3 + index) (omega arith) (omega (arith, index_within, same_length)) ∙ ap heap (omega arith) in
      subst (λ word_now. Points new_plot word_now reference) (sym word) (points_stay block new_plot names_stay (heap (address + 3 + index)) reference (old_thing.references index reference field_there));
  numbers = λ index other_name field_there.
      let index_within : index < length object.nums = slice_get_within object.nums index other_name field_there in
      let same_length : length object.nums ≡ nums = old_thing.nums_are in
      ap after (omega arith) ∙ same_words (3 + refs + index) (omega arith) (omega (arith, index_within, same_length)) ∙ ap heap (omega arith) ∙ old_thing.numbers index other_name field_there;
}

module _ (config : Config) (world : World) (seat address copy refs nums : ℕ) (name : Name) (shared : Shared config world) (phase_two : world.memory Phase ≡ evacuation_phase)
    (address_collected : IsCollected config (world.memory Cset) address) (object : world.block address ≡ Some (thing name refs nums)) (room_there : world.block copy ≡ Some (hand seat (3 + refs + nums)))
    (words_copied : (index : ℕ) → 1 ≤ index → index < 3 + refs + nums → world.memory (Heap (copy + index)) ≡ world.memory (Heap (address + index))) (header_is : world.memory (Heap copy) ≡ plain_header)
    (seated : seat < seat_count config.mutators config.helpers) (counted : world.ghost.copying seat ≡ true) where
  -- how many words both have
  abbrev words : ℕ
  words = 3 + refs + nums

  abbrev tops : ℕ → ℕ
  tops region = world.memory (Top region)

  -- the words of the heap then
  abbrev pub heap_then : ℕ → ℕ
  heap_then = updated (λ address. world.memory (Heap address)) address (header_word copy)

  -- the plot with the old copy
  abbrev old_block : Plot
  old_block = updated world.block address (Some (moved name refs nums copy))

  -- and with the new one
  abbrev pub block_then : Plot
  block_then = updated old_block copy (Some (thing name refs nums))

  -- the world then
  abbrev pub forwarded_world : World
  forwarded_world = world_after config world seat heap_then tops (world.memory Evac) block_then world.ghost.copying

  -- both are two
  pub two : address ≢ copy
  two same_address = (let both_pieces = sym object ∙ ap world.block same_address ∙ room_there in cc)

  -- the room lies outside the set
  outside : IsCollected config (world.memory Cset) copy → ⊥
  outside = room_outside config world shared copy seat words room_there

  -- what stands there now
  pub new_there : block_then copy ≡ Some (thing name refs nums)
  new_there = updated_there old_block copy (Some (thing name refs nums))

  pub old_there : block_then address ≡ Some (moved name refs nums copy)
  old_there = updated_else old_block copy (Some (thing name refs nums)) address (λ same_address. two (sym same_address)) ∙ updated_there world.block address (Some (moved name refs nums copy))

  pub else_there : (asked_address : ℕ) → asked_address ≢ address → asked_address ≢ copy → block_then asked_address ≡ world.block asked_address
  else_there asked_address not_old not_new = updated_else old_block copy (Some (thing name refs nums)) asked_address (λ same_address. not_new (sym same_address)) ∙ updated_else world.block address (Some (moved name refs nums copy)) asked_address (λ same_address. not_old (sym same_address))

  -- a piece now is the new copy, the old one, or as before
  abbrev IsNow : ℕ → Block → Type 0
  IsNow asked_address piece = ((asked_address ≡ copy) × (piece ≡ thing name refs nums)) ⊎ (((asked_address ≡ address) × (piece ≡ moved name refs nums copy)) ⊎ ((asked_address ≢ address) × (asked_address ≢ copy) × (world.block asked_address ≡ Some piece)))

  now_cases : (asked_address : ℕ) (piece : Block) → block_then asked_address ≡ Some piece → IsNow asked_address piece
  now_cases asked_address piece has_piece = ⊎_elim
      (λ (new : (asked_address ≡ copy) × (thing name refs nums ≡ piece)). inl (new.0, sym new.1))
      (λ (stays_old : (asked_address ≢ copy) × (old_block asked_address ≡ Some piece)). ⊎_elim
      (λ (old : (asked_address ≡ address) × (moved name refs nums copy ≡ piece)). inr (inl (old.0, sym old.1)))
      (λ (as_before : (asked_address ≢ address) × (world.block asked_address ≡ Some piece)). inr (inr (as_before.0, stays_old.0, as_before.1)))
      (piece_cases world.block address (moved name refs nums copy) asked_address piece stays_old.1))
      (piece_cases old_block copy (thing name refs nums) asked_address piece has_piece)

  -- a piece before was the room, the object, or is as it was
  abbrev WasThere : ℕ → Block → Type 0
  WasThere asked_address piece = ((asked_address ≡ copy) × (piece ≡ hand seat words)) ⊎ (((asked_address ≡ address) × (piece ≡ thing name refs nums)) ⊎ ((asked_address ≢ address) × (asked_address ≢ copy) × (block_then asked_address ≡ Some piece)))

  was_cases : (asked_address : ℕ) (piece : Block) → world.block asked_address ≡ Some piece → WasThere asked_address piece
  was_cases asked_address piece has_piece = ⊎_elim
      (λ (new : asked_address ≡ copy). inl (new, same_Some piece (hand seat words) (sym has_piece ∙ ap world.block new ∙ room_there)))
      (λ (not_new : asked_address ≢ copy). ⊎_elim
      (λ (old : asked_address ≡ address). inr (inl (old, same_Some piece (thing name refs nums) (sym has_piece ∙ ap world.block old ∙ object))))
      (λ (not_old : asked_address ≢ address). inr (inr (not_old, not_new, else_there asked_address not_old not_new ∙ has_piece)))
      (cases_eq asked_address address))
      (cases_eq asked_address copy)

  -- each piece that is neither an object, an old copy nor room stands as it did, and so did it
  stays : (address : ℕ) (piece : Block) → (piece ≡ hand seat words → ⊥) → (piece ≡ thing name refs nums → ⊥) → world.block address ≡ Some piece → block_then address ≡ Some piece
  stays address piece no_hand no_thing has_piece = ⊎_elim (λ new. absurd (no_hand new.1)) (λ rest. ⊎_elim (λ old. absurd (no_thing old.1)) (λ as_before. as_before.2) rest) (was_cases address piece has_piece)

  came : (asked_address : ℕ) (piece : Block) → (piece ≡ thing name refs nums → ⊥) → (piece ≡ moved name refs nums copy → ⊥) → block_then asked_address ≡ Some piece → (asked_address ≢ address) × (asked_address ≢ copy) × (world.block asked_address ≡ Some piece)
  came asked_address piece no_thing no_moved has_piece = ⊎_elim (λ new. absurd (no_thing new.1)) (λ rest. ⊎_elim (λ old. absurd (no_moved old.1)) (λ as_before. as_before) rest) (now_cases asked_address piece has_piece)

  -- room was there
  room_came : (address seat : ℕ) (piece : Block) → block_then address ≡ Some piece → room_of piece ≡ Some seat → world.block address ≡ Some piece
  room_came address seat piece has_piece own_room = (came address piece (λ same_piece. none-some seat (ap room_of (sym same_piece) ∙ own_room)) (λ same_piece. none-some seat (ap room_of (sym same_piece) ∙ own_room)) has_piece).2

  -- elsewhere than where the copy is
  pub room_left : (address seat : ℕ) (piece : Block) → block_then address ≡ Some piece → room_of piece ≡ Some seat → (address ≢ copy) × (world.block address ≡ Some piece)
  room_left address seat piece has_piece own_room = let came_from = came address piece (λ same_piece. none-some seat (ap room_of (sym same_piece) ∙ own_room)) (λ same_piece. none-some seat (ap room_of (sym same_piece) ∙ own_room)) has_piece in (came_from.1, came_from.2)

  -- a piece stood where one stands, as long
  was_piece : (address : ℕ) (piece : Block) → block_then address ≡ Some piece → (old_piece : Block) × (world.block address ≡ Some old_piece) × (words_of old_piece ≡ words_of piece)
  was_piece address piece has_piece = ⊎_elim
      (λ new. (hand seat words, ap world.block new.0 ∙ room_there, ap words_of (sym new.1)))
      (λ rest. ⊎_elim (λ old. (thing name refs nums, ap world.block old.0 ∙ object, ap words_of (sym old.1))) (λ as_before. (piece, as_before.2, refl)) rest)
      (now_cases address piece has_piece)

  now_piece : (address : ℕ) (piece : Block) → world.block address ≡ Some piece → (new_piece : Block) × (block_then address ≡ Some new_piece) × (words_of new_piece ≡ words_of piece) × (filling new_piece ≡ filling piece)
  now_piece address piece has_piece = ⊎_elim
      (λ new. (thing name refs nums, ap block_then new.0 ∙ new_there, ap words_of (sym new.1), ap filling (sym new.1)))
      (λ rest. ⊎_elim (λ old. (moved name refs nums copy, ap block_then old.0 ∙ old_there, ap words_of (sym old.1), ap filling (sym old.1))) (λ as_before. (piece, as_before.2, refl, refl)) rest)
      (was_cases address piece has_piece)

  -- a copy is one
  bodies : (asked_address : ℕ) (body : Body) → body_at (world.block asked_address) ≡ Some body → body_at (block_then asked_address) ≡ Some body
  bodies asked_address body has_body = ⊎_elim
      (λ (new : asked_address ≡ copy). absurd (let both_bodies = sym has_body ∙ ap (λ address. body_at (world.block address)) new ∙ ap body_at room_there in cc))
      (λ (not_new : asked_address ≢ copy). ⊎_elim
      (λ (old : asked_address ≡ address). ap (λ x. body_at (block_then x)) old ∙ ap body_at old_there ∙ sym (ap body_at object) ∙ sym (ap (λ address. body_at (world.block address)) old) ∙ has_body)
      (λ (not_old : asked_address ≢ address). ap body_at (else_there asked_address not_old not_new) ∙ has_body)
      (cases_eq asked_address address))
      (cases_eq asked_address copy)

  names : (address : ℕ) (name : Name) → name_at (world.block address) ≡ Some name → name_at (block_then address) ≡ Some name
  names address name has_name = let body = named_body (world.block address) name has_name in body_named (block_then address) (body_of name body.0 body.1) (bodies address (body_of name body.0 body.1) body.2)

  -- a word that is not the object's header stays
  word_stays : (asked_address offset : ℕ) (piece : Block) → world.block asked_address ≡ Some piece → offset < words_of piece → (asked_address ≢ address) ⊎ (1 ≤ offset) → heap_then (asked_address + offset) ≡ world.memory (Heap (asked_address + offset))
  word_stays asked_address offset piece has_piece offset_below not_header = updated_else (λ address. world.memory (Heap address)) address (header_word copy) (asked_address + offset) (λ same_word.
      let same_start : asked_address ≡ address = one_piece config tops world.block shared.parsable.plotted asked_address address address piece (thing name refs nums) has_piece object (omega (arith, same_word)) (omega (arith, same_word, offset_below)) (omega arith) (omega arith) in
      ⊎_elim (λ not_object. not_object same_start) (λ some_offset. omega (arith, same_word, same_start, some_offset)) not_header)

  first_stays : (asked_address : ℕ) → asked_address ≢ address → heap_then asked_address ≡ world.memory (Heap asked_address)
  first_stays asked_address not_object = updated_else (λ address. world.memory (Heap address)) address (header_word copy) asked_address (λ same_address. not_object (sym same_address))

  -- what a word behind the name stands for it stands for then
  refers_then : (asked_address field : ℕ) (piece : Block) → world.block asked_address ≡ Some piece → 3 + field < words_of piece → (asked_address ≢ address) ⊎ (1 ≤ 3 + field) → (reference : Reference) → Points world.block (world.memory (Heap (asked_address + 3 + field))) reference
      → Points block_then (heap_then (asked_address + 3 + field)) reference
  refers_then asked_address field piece has_piece field_below not_header reference points =
      let same_place : asked_address + (3 + field) ≡ asked_address + 3 + field = omega arith in
      let same_word : heap_then (asked_address + 3 + field) ≡ world.memory (Heap (asked_address + 3 + field)) = subst (λ address. heap_then address ≡ world.memory (Heap address)) same_place (word_stays asked_address (3 + field) piece has_piece field_below not_header) in
      subst (λ word_now. Points block_then word_now reference) (sym same_word) (points_stay world.block block_then names (world.memory (Heap (asked_address + 3 + field))) reference points)

  -- an object before
  was_object : (old_object : Object) × (world.graph.object name ≡ Some old_object) × IsThing (λ address. world.memory (Heap address)) world.block address refs nums name old_object
  was_object = shared.contents.objects.each address refs nums name object

  -- the new copy is the object
  new_thing : IsThing heap_then block_then copy refs nums name was_object.0
  new_thing = thing_copied (λ address. world.memory (Heap address)) heap_then world.block block_then address copy refs nums name was_object.0
      (first_stays copy (λ same_address. two (sym same_address)) ∙ header_is)
      (λ offset some_offset offset_below. word_stays copy offset (hand seat words) room_there offset_below (inl (λ same_address. two (sym same_address))) ∙ words_copied offset some_offset offset_below)
      names was_object.2

  -- an object now is the new copy, or as before
  thing_now : (asked_address found_refs found_nums : ℕ) (found_name : Name) → block_then asked_address ≡ Some (thing found_name found_refs found_nums)
      → ((asked_address ≡ copy) × (thing found_name found_refs found_nums ≡ thing name refs nums)) ⊎ ((asked_address ≢ address) × (asked_address ≢ copy) × (world.block asked_address ≡ Some (thing found_name found_refs found_nums)))
  thing_now asked_address found_refs found_nums found_name has_piece = ⊎_elim
      (λ new. inl new)
      (λ rest. ⊎_elim (λ old. absurd (let differ = old.1 in cc)) (λ as_before. inr as_before) rest)
      (now_cases asked_address (thing found_name found_refs found_nums) has_piece)

  -- what else has the name
  no_other : (asked_address found_refs found_nums : ℕ) (found_name : Name) → asked_address ≢ address → world.block asked_address ≡ Some (thing found_name found_refs found_nums) → found_name ≡ name → ⊥
  no_other asked_address found_refs found_nums found_name not_object has_piece equal_name = not_object (shared.contents.objects.once asked_address address found_refs found_nums refs nums name (has_piece ∙ ap (λ name. Some (thing name found_refs found_nums)) equal_name) object)

  -- a markable piece outside the set stays one
  markable_stays : (asked_address : ℕ) → asked_address ≢ address → IsMarkable world.block asked_address → IsMarkable block_then asked_address
  markable_stays asked_address not_object (IsMarkable.object found_name found_refs found_nums has_piece) = IsMarkable.object found_name found_refs found_nums (else_there asked_address not_object (λ same_address. (let both_pieces = sym has_piece ∙ ap world.block same_address ∙ room_there in cc)) ∙ has_piece)
  markable_stays asked_address not_object (IsMarkable.to_come holder piece_words has_piece) = IsMarkable.to_come holder piece_words (else_there asked_address not_object (λ same_address. (let both_pieces = sym has_piece ∙ ap world.block same_address ∙ room_there in cc)) ∙ has_piece)

  -- a markable piece now is the new copy, or was one
  markable_was : (address : ℕ) → IsMarkable block_then address → (address ≡ copy) ⊎ IsMarkable world.block address
  markable_was address (IsMarkable.object found_name found_refs found_nums has_piece) = ⊎_elim (λ new. inl new.0) (λ same_piece. inr (IsMarkable.object found_name found_refs found_nums same_piece.2)) (thing_now address found_refs found_nums found_name has_piece)
  markable_was address (IsMarkable.to_come holder piece_words has_piece) = inr (IsMarkable.to_come holder piece_words (came address (promised holder piece_words) (λ same_piece. (let differ = same_piece in cc)) (λ same_piece. (let differ = same_piece in cc)) has_piece).2)

  -- a copy in the set is one
  copy_stays : (address : ℕ) → HasCopy world.block address → HasCopy block_then address
  copy_stays address (HasCopy.copy body has_piece) = HasCopy.copy body (bodies address body has_piece)
  copy_stays address (HasCopy.spent_copy spent_words led_to has_piece) = HasCopy.spent_copy spent_words led_to (stays address (spent spent_words led_to) (λ same_piece. (let differ = same_piece in cc)) (λ same_piece. (let differ = same_piece in cc)) has_piece)

  -- an address outside the set is not the object's
  not_old : (asked_address : ℕ) → (IsCollected config (world.memory Cset) asked_address → ⊥) → asked_address ≢ address
  not_old asked_address outside same_address = outside (subst (λ place. IsCollected config (world.memory Cset) place) (sym same_address) address_collected)

  -- the old copy leads to the new one
  new_moved : IsMoved config (world.memory Cset) heap_then block_then address refs nums copy name
  new_moved = record {
    header = updated_there (λ address. world.memory (Heap address)) address (header_word copy);
    shape = word_stays address 1 (thing name refs nums) object (omega arith) (inr (omega arith)) ∙ was_object.2.shape;
    name_word = word_stays address 2 (thing name refs nums) object (omega arith) (inr (omega arith)) ∙ was_object.2.name_word;
    few_refs = was_object.2.few_refs;
    few_nums = was_object.2.few_nums;
    inside = address_collected;
    copy = new_there;
    outside = outside;
    references = λ field field_below.
        let null : Reference = None in
        let field_there = slice_get-get_or was_object.0.refs field null (let same_length = was_object.2.refs_are in omega (arith, field_below, same_length)) in
        (get_or was_object.0.refs field null, refers_then address field (thing name refs nums) object (omega (arith, field_below)) (inr (omega arith)) (get_or was_object.0.refs field null) (was_object.2.references field (get_or was_object.0.refs field null) field_there));
  }

  -- and other old copies where they led
  other_moved : (asked_address found_refs found_nums led_to : ℕ) (name : Name) → asked_address ≢ address → world.block asked_address ≡ Some (moved name found_refs found_nums led_to) → IsMoved config (world.memory Cset) heap_then block_then asked_address found_refs found_nums led_to name
  other_moved asked_address found_refs found_nums led_to name not_object has_piece =
      let was_moved = shared.evacuated.moved.moveds asked_address found_refs found_nums led_to name has_piece in
      record {
        header = first_stays asked_address not_object ∙ was_moved.header;
        shape = word_stays asked_address 1 (moved name found_refs found_nums led_to) has_piece (omega arith) (inl not_object) ∙ was_moved.shape;
        name_word = word_stays asked_address 2 (moved name found_refs found_nums led_to) has_piece (omega arith) (inl not_object) ∙ was_moved.name_word;
        few_refs = was_moved.few_refs;
        few_nums = was_moved.few_nums;
        inside = was_moved.inside;
        copy = else_there led_to (not_old led_to was_moved.outside) (λ same_address. (let both_pieces = sym was_moved.copy ∙ ap world.block same_address ∙ room_there in cc)) ∙ was_moved.copy;
        outside = was_moved.outside;
        references = λ field field_below. let reference_there = was_moved.references field field_below in (reference_there.0, refers_then asked_address field (moved name found_refs found_nums led_to) has_piece (omega (arith, field_below)) (inl not_object) reference_there.0 reference_there.1);
      }

  publishing : IsCopyingStep config world seat heap_then tops (world.memory Evac) block_then world.ghost.copying
  publishing = record {
    parsable = record {
      plotted = plotted_same config tops world.block block_then was_piece shared.parsable.plotted;
      filled = filled_same config tops world.block block_then was_piece (λ address piece known_fact. let now_there = now_piece address piece known_fact in (now_there.0, now_there.1)) shared.parsable.filled;
      promises = λ other_address other_seat piece_words known_fact. shared.parsable.promises other_address other_seat piece_words (came other_address (promised other_seat piece_words) (λ same_piece. (let differ = same_piece in cc)) (λ same_piece. (let differ = same_piece in cc)) known_fact).2;
      deads = λ other_address piece_words known_fact. shared.parsable.deads other_address piece_words (came other_address (dead piece_words) (λ same_piece. (let differ = same_piece in cc)) (λ same_piece. (let differ = same_piece in cc)) known_fact).2;
      spents = λ other_address piece_words led_to known_fact. shared.parsable.spents other_address piece_words led_to (came other_address (spent piece_words led_to) (λ same_piece. (let differ = same_piece in cc)) (λ same_piece. (let differ = same_piece in cc)) known_fact).2;
      fillers = λ other_address piece_words known_fact. shared.parsable.fillers other_address piece_words (came other_address (filler piece_words) (λ same_piece. (let differ = same_piece in cc)) (λ same_piece. (let differ = same_piece in cc)) known_fact).2;
    };
    objects = record {
      each = λ address found_refs found_nums found_name known_fact. ⊎_elim
          (λ (new : (address ≡ copy) × (thing found_name found_refs found_nums ≡ thing name refs nums)).
          let both_pieces = new.1 in
          let name_is : found_name ≡ name = cc in
          let refs_are : found_refs ≡ refs = cc in
          let nums_are : found_nums ≡ nums = cc in
          (was_object.0, ap world.graph.object name_is ∙ was_object.1, rw (new.0, name_is, refs_are, nums_are) new_thing))
          (λ same_piece.
          let old_object = shared.contents.objects.each address found_refs found_nums found_name same_piece.2 in
          (old_object.0, old_object.1, object_reads (λ address. world.memory (Heap address)) heap_then world.block block_then address found_refs found_nums found_name old_object.0 (λ offset offset_below. word_stays address offset (thing found_name found_refs found_nums) same_piece.2 offset_below (inl same_piece.0)) names old_object.2))
          (thing_now address found_refs found_nums found_name known_fact);
      once = λ other_address second_address refs_b nums_b refs_d nums_d other_name first_there second_there. ⊎_elim
          (λ new_b. ⊎_elim
          (λ new_d. new_b.0 ∙ sym new_d.0)
          (λ same_d. absurd (no_other second_address refs_d nums_d other_name same_d.0 same_d.2 (let both_pieces = new_b.1 in cc)))
          (thing_now second_address refs_d nums_d other_name second_there))
          (λ same_b. ⊎_elim
          (λ new_d. absurd (no_other other_address refs_b nums_b other_name same_b.0 same_b.2 (let both_pieces = new_d.1 in cc)))
          (λ same_d. shared.contents.objects.once other_address second_address refs_b nums_b refs_d nums_d other_name same_b.2 same_d.2)
          (thing_now second_address refs_d nums_d other_name second_there))
          (thing_now other_address refs_b nums_b other_name first_there);
    };
    owned = record {
      free_word = shared.owned.free_word;
      shared_one = shared.owned.shared_one;
      outside = shared.owned.outside;
      buffers = record {
        each = λ other_seat not_zero.
            let stood_before = shared.owned.buffers.each other_seat not_zero in
            record {
              region = stood_before.region;
              within = stood_before.within;
              from_base = stood_before.from_base;
              some = stood_before.some;
              ordered = stood_before.ordered;
              to_top = stood_before.to_top;
              free = λ piece_words. ⊎_elim
                  (λ spare_there. inl (stays (next_in (world.memory (Current other_seat))) (spare other_seat (end_in (world.memory (Current other_seat)) - next_in (world.memory (Current other_seat)))) (λ same_piece. (let differ = same_piece in cc)) (λ same_piece. (let differ = same_piece in cc)) spare_there))
                  (λ has_carved. inr (has_carved.0, has_carved.1, stays has_carved.0 (carved other_seat has_carved.1) (λ same_piece. (let differ = same_piece in cc)) (λ same_piece. (let differ = same_piece in cc)) has_carved.2))
                  (stood_before.free piece_words);
            };
        spares = λ address seat piece_words known_fact. shared.owned.buffers.spares address seat piece_words (room_came address seat (spare seat piece_words) known_fact refl);
      };
      rooms = record {
        seated = λ address seat piece known_fact own_room. shared.owned.rooms.seated address seat piece (room_came address seat piece known_fact own_room) own_room;
        hands = λ address seat piece_words known_fact. shared.owned.rooms.hands address seat piece_words (room_came address seat (hand seat piece_words) known_fact refl);
        spares = λ address seat piece_words known_fact. shared.owned.rooms.spares address seat piece_words (room_came address seat (spare seat piece_words) known_fact refl);
        carveds = λ address seat piece_words known_fact. shared.owned.rooms.carveds address seat piece_words (room_came address seat (carved seat piece_words) known_fact refl);
      };
    };
    moved_are = record {
      moveds = λ other_address found_refs found_nums led_to found_name known_fact. ⊎_elim
          (λ new. absurd (let differ = new.1 in cc))
          (λ stays_old. ⊎_elim
          (λ old.
          let both_pieces = old.1 in
          let name_is : found_name ≡ name = cc in
          let refs_are : found_refs ≡ refs = cc in
          let nums_are : found_nums ≡ nums = cc in
          let to_copy : led_to ≡ copy = cc in
          rw (old.0, name_is, refs_are, nums_are, to_copy) new_moved)
          (λ same_piece. other_moved other_address found_refs found_nums led_to found_name same_piece.0 same_piece.2)
          stays_old)
          (now_cases other_address (moved found_name found_refs found_nums led_to) known_fact);
      spents = λ other_address piece_words led_to known_fact.
          let same_piece = came other_address (spent piece_words led_to) (λ pieces_equal. (let differ = pieces_equal in cc)) (λ pieces_equal. (let differ = pieces_equal in cc)) known_fact in
          let stood_before = shared.evacuated.moved.spents other_address piece_words led_to same_piece.2 in
          let long_enough = shared.parsable.spents other_address piece_words led_to same_piece.2 in
          let then_piece = now_piece led_to stood_before.piece stood_before.there in
          record {
            header = first_stays other_address same_piece.0 ∙ stood_before.header;
            shape = ap object_words (word_stays other_address 1 (spent piece_words led_to) same_piece.2 (omega (arith, long_enough)) (inl same_piece.0)) ∙ stood_before.shape;
            inside = stood_before.inside;
            copy = markable_stays led_to (not_old led_to stood_before.outside) stood_before.copy;
            piece = then_piece.0;
            there = then_piece.1;
            long = then_piece.2 ∙ stood_before.long;
            outside = stood_before.outside;
          };
    };
    counted = shared.evacuated.counted;
    kept = λ still_on. record {
      objects = λ address known_fact. ⊎_elim
          (λ (new : address ≡ copy). inr (subst (λ place. IsYoung config (λ region. world.memory (Tams region)) place) (sym new) ((shared.evacuated.kept still_on).young copy seat (hand seat words) room_there refl)))
          (λ stood_before. (shared.evacuated.kept still_on).objects address stood_before)
          (markable_was address known_fact);
      young = λ address seat piece known_fact own_room. (shared.evacuated.kept still_on).young address seat piece (room_came address seat piece known_fact own_room) own_room;
      floors = (shared.evacuated.kept still_on).floors;
      unmarked = λ other_address piece_words known_fact. (shared.evacuated.kept still_on).unmarked other_address piece_words (came other_address (dead piece_words) (λ same_piece. (let differ = same_piece in cc)) (λ same_piece. (let differ = same_piece in cc)) known_fact).2;
      deads = λ other_address piece_words known_fact. (shared.evacuated.kept still_on).deads other_address piece_words (came other_address (dead piece_words) (λ same_piece. (let differ = same_piece in cc)) (λ same_piece. (let differ = same_piece in cc)) known_fact).2;
      only = λ address from mark collected. copy_stays address ((shared.evacuated.kept still_on).only address from mark collected);
    };
    bodies = bodies;
    targets = λ other_address found_refs found_nums other_name known_fact.
        let not_object : other_address ≢ address = λ same_piece. not_quiet config (world.memory Evac) world.ghost.copying seat shared.evacuated.counted seated counted (known_fact.safe (subst (λ place. IsCollected config (world.memory Cset) place) (sym same_piece) address_collected)) in
        record { piece = else_there other_address not_object (λ same_piece. (let both_pieces = sym known_fact.piece ∙ ap world.block same_piece ∙ room_there in cc)) ∙ known_fact.piece; safe = known_fact.safe };
    moveds = λ address found_refs found_nums led_to name known_fact. stays address (moved name found_refs found_nums led_to) (λ same_piece. (let differ = same_piece in cc)) (λ same_piece. (let differ = same_piece in cc)) known_fact;
    spents = λ address piece_words led_to known_fact. stays address (spent piece_words led_to) (λ same_piece. (let differ = same_piece in cc)) (λ same_piece. (let differ = same_piece in cc)) known_fact;
    pieces = λ address piece collected known_fact. now_piece address piece known_fact;
    no_new = λ other_address found_refs found_nums other_name collected known_fact. ⊎_elim
        (λ new. absurd (outside (subst (λ place. IsCollected config (world.memory Cset) place) new.0 collected)))
        (λ same_piece. same_piece.2)
        (thing_now other_address found_refs found_nums other_name known_fact);
    set_tops = λ region known_fact. refl;
    out = λ known_fact. known_fact;
    quiet = λ known_fact. known_fact;
    rooms = λ other_seat address piece differs known_fact own_room. stays address piece (λ same_piece. differs (same_Some other_seat seat (sym own_room ∙ ap room_of same_piece))) (λ same_piece. none-some other_seat (ap room_of (sym same_piece) ∙ own_room)) known_fact;
    no_rooms = λ seat address piece known_fact own_room. room_came address seat piece known_fact own_room;
    promises = λ address seat piece_words known_fact. stays address (promised seat piece_words) (λ same_piece. (let differ = same_piece in cc)) (λ same_piece. (let differ = same_piece in cc)) known_fact;
    no_promises = λ address other_seat piece_words known_fact. (came address (promised other_seat piece_words) (λ same_piece. (let differ = same_piece in cc)) (λ same_piece. (let differ = same_piece in cc)) known_fact).2;
    fillers = λ address piece_words known_fact. stays address (filler piece_words) (λ same_piece. (let differ = same_piece in cc)) (λ same_piece. (let differ = same_piece in cc)) known_fact;
    deads = λ address piece_words known_fact. stays address (dead piece_words) (λ same_piece. (let differ = same_piece in cc)) (λ same_piece. (let differ = same_piece in cc)) known_fact;
    no_deads = λ address piece_words known_fact. (came address (dead piece_words) (λ same_piece. (let differ = same_piece in cc)) (λ same_piece. (let differ = same_piece in cc)) known_fact).2;
    no_fillers = λ address piece_words known_fact. (came address (filler piece_words) (λ same_piece. (let differ = same_piece in cc)) (λ same_piece. (let differ = same_piece in cc)) known_fact).2;
    words = λ other_address offset piece known_fact offset_below no_room not_header. word_stays other_address offset piece known_fact offset_below (⊎_elim (λ not_zero. inr not_zero) (λ no_name. inl (λ same_piece. none-some name (sym no_name ∙ ap name_at (sym known_fact ∙ ap world.block same_piece ∙ object)))) not_header);
    own_tops = λ region other_seat differs known_fact. refl;
    copiers_else = λ other_seat differs. refl;
  }

  -- the exchange owes no more
  pub publish_step : (facts : World → Type 0) → world.memory (Heap address) ≡ plain_header → facts forwarded_world → PartStep config world seat (touch (Heap address) (exchanges plain_header (header_word copy))) facts
  publish_step facts header_plain own_facts = step_after config world seat heap_then tops (world.memory Evac) block_then world.ghost.copying shared phase_two publishing
      (touch (Heap address) (exchanges plain_header (header_word copy))) facts
      (heap_written world.memory address (header_word copy) ∙ ap (λ header_is. write world.memory (Heap address) header_is) (sym (cond-true (world.memory (Heap address) == plain_header) (header_word copy) (world.memory (Heap address)) (eq-eqb _ _ header_plain)))) own_facts
