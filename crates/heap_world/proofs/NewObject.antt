-- A piece that is no object yet, room in hand or a promised object, becomes one: it keeps its words, and the graph has the object
-- under a fresh name.
use Rattle.heap_words.specs.Phases.{marking_phase}
use Rattle.std.proofs.Common.{◌≡◌, ◌≢◌, ℕ, ◌+◌, ◌-◌, ◌<◌, ◌≤◌, ◌⊎◌, inl, inr, Bool, true, false, Option, Some, None, ⊎_elim, refl, sym, ap, ◌∙◌, subst, arith}
use Rattle.std.specs.Prelude.{◌==◌, if◌then◌else◌}
use Rattle.std.proofs.lemmas.Bool.{cases_eq, cases_Bool, cond-true, cond-false, eq-eqb}
use Rattle.std.proofs.lemmas.Bool.Decides.{nat_tests}
use Rattle.std.proofs.lemmas.Option.{none-some, same_Some, slice_get_within}
use Rattle.std.proofs.lemmas.List.{length-replicate}
use Rattle.shen_graph.proofs.Lists.{all_alike}
use Rattle.heap_words.specs.declared.config.Config.{Config}
use Rattle.regions.specs.Place.{base_of}
use Rattle.shen_graph.specs.declared.name.Name.{Name}
use Rattle.shen_graph.specs.Graph.{Object, same_name, blank}
use Rattle.shen_graph.proofs.PlainLemmas.{same_name-true, same_name-itself}
use Rattle.heap_words.specs.Encoding.{fresh_word, next_in, end_in}
use Rattle.heap_world.specs.World.{Block, thing, spent, hand, promised, dead, filler, spare, carved, words_of, room_of, Plot, name_at, Points, IsInUse, IsPlotted, IsFilled, IsThing, IsGiven, AreObjects, IsParsable, AreOwned, AreUnwritten, Snapshot, Scan, IsMarkable, IsYoung, IsCollected, KeepsSnapshot, IsEvacuating, IsCurrent, IsUpdating}
use Rattle.heap_world.proofs.FunctionUpdates.{updated, updated_there, updated_else}
use Rattle.heap_world.proofs.Pointing.{named_piece, room_unnamed}
use Rattle.heap_world.proofs.Objects.{two_names, where_object}
use Rattle.heap_world.proofs.Unwritten.{unwritten_stays}
use Rattle.heap_world.proofs.Marked.{markable_stays, marked_made}
use Rattle.regions.specs.Marks.{HasMark}
use Rattle.heap_world.proofs.Evacuated.{evacuated_made}
use Rattle.heap_world.proofs.Updated.{updated_made}
use Rattle.heap_world.proofs.Pieces.{piece_cases, object_reads}

-- the words of a new object past its name are 0
zero_word : (seat made refs nums index : ℕ) → 3 ≤ index → fresh_word seat made refs nums index ≡ 0
zero_word seat made refs nums index past_name = grind (arith, nat_tests)

-- words that were stored so are those of a new object
pub new_object : (heap : ℕ → ℕ) (block : Plot) (address seat made refs nums : ℕ) → refs ≤ 16 → nums ≤ 16
    → ((index : ℕ) → index < 3 + refs + nums → heap (address + index) ≡ fresh_word seat made refs nums index)
    → IsThing heap block address refs nums (record { thread = seat + 1; count = made + 1 }) (blank refs nums)
new_object heap block address seat made refs nums few_refs few_nums stored = record {
  header = ap heap (omega arith) ∙ stored 0 (omega arith);
  shape = stored 1 (omega arith);
  name_word = stored 2 (omega arith);
  few_refs = few_refs;
  few_nums = few_nums;
  refs_are = length-replicate refs None;
  nums_are = length-replicate nums 0;
  references = λ field reference reference_there.
      let within : field < refs = subst (λ index. field < index) (length-replicate refs None) (slice_get_within (blank refs nums).refs field reference reference_there) in
      let word : heap (address + 3 + field) ≡ 0 = ap heap (omega arith) ∙ stored (3 + field) (omega arith) ∙ zero_word seat made refs nums (3 + field) (omega arith) in
      subst (λ some_reference. Points block (heap (address + 3 + field)) some_reference) (sym (all_alike refs field None reference reference_there)) word;
  numbers = λ field number reference_there.
      let within : field < nums = subst (λ index. field < index) (length-replicate nums 0) (slice_get_within (blank refs nums).nums field number reference_there) in
      let word : heap (address + 3 + refs + field) ≡ 0 = ap heap (omega arith) ∙ stored (3 + refs + field) (omega arith) ∙ zero_word seat made refs nums (3 + refs + field) (omega arith) in
      word ∙ sym (all_alike nums field 0 number reference_there);
}

module _ (config : Config) (top : ℕ → ℕ) (block : Plot) (address refs nums : ℕ) (name : Name) (piece : Block) (unnamed : name_at (Some piece) ≡ None) (same_words : words_of piece ≡ 3 + refs + nums) (room : block address ≡ Some piece) where
  -- the new object
  abbrev new_thing : Block
  new_thing = thing name refs nums

  -- the plot with it
  abbrev new_block : Plot
  new_block = updated block address (Some new_thing)

  -- another old piece stands where it stood
  pub stays : (place : ℕ) (standing : Block) → block place ≡ Some standing → (piece ≡ standing → ⊥) → new_block place ≡ Some standing
  stays place standing piece_there differs = updated_else block address (Some new_thing) place (λ same_place. differs (same_Some _ standing (sym room ∙ ap block same_place ∙ piece_there))) ∙ piece_there

  -- so does each object
  pub things_stay : (address old_refs old_nums : ℕ) (name : Name) → block address ≡ Some (thing name old_refs old_nums) → new_block address ≡ Some (thing name old_refs old_nums)
  things_stay address old_refs old_nums name old_thing =
      stays address (thing name old_refs old_nums) old_thing (λ same_address. none-some name (sym unnamed ∙ ap (λ piece. name_at (Some piece)) same_address))

  -- what a word stands for it still stands for
  pub names_stay : (address : ℕ) (name : Name) → name_at (block address) ≡ Some name → name_at (new_block address) ≡ Some name
  names_stay address name named_before = let old = named_piece (block address) name named_before in ap name_at (stays address old.0 old.1 (λ same_piece. none-some name (sym unnamed ∙ ap (λ piece. name_at (Some piece)) same_piece ∙ old.2))) ∙ old.2

  -- a piece that is no object was there before, elsewhere
  pub old_unnamed : (place : ℕ) (piece : Block) → name_at (Some piece) ≡ None → new_block place ≡ Some piece → (place ≢ address) × (block place ≡ Some piece)
  old_unnamed place piece no_name piece_then = ⊎_elim
      (λ (new : (place ≡ address) × (new_thing ≡ piece)). absurd (none-some name (sym no_name ∙ ap (λ x. name_at (Some x)) (sym new.1))))
      (λ (old : (place ≢ address) × (block place ≡ Some piece)). old)
      (piece_cases block address new_thing place piece piece_then)

  -- so was room
  pub old_room : (place seat : ℕ) (piece : Block) → new_block place ≡ Some piece → room_of piece ≡ Some seat → (place ≢ address) × (block place ≡ Some piece)
  old_room place seat piece room_then room = old_unnamed place piece (room_unnamed piece seat room) room_then

  -- and a promised object
  pub old_promise : (place promised_seat words : ℕ) → new_block place ≡ Some (promised promised_seat words) → (place ≢ address) × (block place ≡ Some (promised promised_seat words))
  old_promise place promised_seat words promise_then = old_unnamed place (promised promised_seat words) refl promise_then

  -- where a piece stands, one of the same words stood, and the other way round
  old_piece : (place : ℕ) (new_piece : Block) → new_block place ≡ Some new_piece → (old_standing : Block) × (block place ≡ Some old_standing) × (words_of old_standing ≡ words_of new_piece)
  old_piece place new_piece piece_then = ⊎_elim
      (λ (new : (place ≡ address) × (new_thing ≡ new_piece)). (piece, ap block new.0 ∙ room, same_words ∙ ap words_of new.1))
      (λ (old : (place ≢ address) × (block place ≡ Some new_piece)). (new_piece, old.1, refl))
      (piece_cases block address new_thing place new_piece piece_then)

  -- where a piece stood, one stands
  some_piece : (place : ℕ) → (piece : Block) × (block place ≡ Some piece) → (piece : Block) × (new_block place ≡ Some piece)
  some_piece place old = ⊎_elim
      (λ (same_place : place ≡ address). (new_thing, ap new_block same_place ∙ updated_there block address (Some new_thing)))
      (λ (other_place : place ≢ address). (old.0, updated_else block address (Some new_thing) place (λ places_equal. other_place (sym places_equal)) ∙ old.1))
      (cases_eq place address)

  -- pieces lie where they should
  plotted_again : IsPlotted config top block → IsPlotted config top new_block
  plotted_again plotted = record {
    tops = plotted.tops;
    in_use = λ address right_place piece_then. let old = old_piece address right_place piece_then in subst (λ words. IsInUse config top address words) old.2 (plotted.in_use address old.0 old.1);
    apart = λ left_place right_place left_piece right_piece left_then right_then before.
        let old_x = old_piece left_place left_piece left_then in
        let old_y = old_piece right_place right_piece right_then in
        let old_apart = plotted.apart left_place right_place old_x.0 old_y.0 old_x.1 old_y.1 before in
        omega (arith, old_apart, old_x.2);
  }

  -- they fill the part in use
  filled_again : IsFilled config top block → IsFilled config top new_block
  filled_again filled = record {
    first = λ region inside used. some_piece (base_of config region) (filled.first region inside used);
    next = λ region place standing inside from piece_then end_below.
        let old = old_piece place standing piece_then in
        some_piece (place + words_of standing)
        (subst (λ size. (piece : Block) × (block (place + size) ≡ Some piece)) old.2
        (filled.next region place old.0 inside from old.1 (omega (arith, end_below, old.2))));
  }

  -- the heap is parsable
  pub parsable_again : IsParsable config top block → IsParsable config top new_block
  parsable_again parsable = record {
    plotted = plotted_again parsable.plotted;
    filled = filled_again parsable.filled;
    promises = λ place promised_seat words piece_then. parsable.promises place promised_seat words (old_promise place promised_seat words piece_then).1;
    deads = λ place words piece_then. parsable.deads place words (old_unnamed place (dead words) refl piece_then).1;
    spents = λ place words copy_address piece_then. parsable.spents place words copy_address (old_unnamed place (spent words copy_address) refl piece_then).1;
    fillers = λ place words piece_then. parsable.fillers place words (old_unnamed place (filler words) refl piece_then).1;
  }

  -- pieces that nobody writes to are as before
  pub unwritten_again : (heap : ℕ → ℕ) → AreUnwritten heap block → AreUnwritten heap new_block
  unwritten_again heap = unwritten_stays heap heap block new_block (λ place promised_seat piece_words piece_then. ((old_promise place promised_seat piece_words piece_then).1, λ offset offset_below. refl)) (λ place piece_words piece_then. ((old_unnamed place (dead piece_words) refl piece_then).1, refl, refl)) (λ place piece_words piece_then. ((old_unnamed place (filler piece_words) refl piece_then).1, refl))

  -- a piece elsewhere stands where it stood
  elsewhere : (place : ℕ) (piece : Block) → block place ≡ Some piece → place ≢ address → new_block place ≡ Some piece
  elsewhere place piece piece_there other_place = updated_else block address (Some new_thing) place (λ same_place. other_place (sym same_place)) ∙ piece_there

  -- what can be marked still can
  pub markable_again : (place : ℕ) → IsMarkable block place → IsMarkable new_block place
  markable_again = markable_stays block new_block things_stay (λ place promised_seat promised_words promise_there. ⊎_elim
      (λ (same_place : place ≡ address). IsMarkable.object name refs nums (ap new_block same_place ∙ updated_there block address (Some new_thing)))
      (λ (differs : place ≢ address). IsMarkable.to_come promised_seat promised_words (elsewhere place (promised promised_seat promised_words) promise_there differs))
      (cases_eq place address))

  -- marking goes on, where the piece is young, or was named when marking began
  pub marking_again : (phase : ℕ) (grey black count : ℕ → ℕ) (buffer : ℕ → ℕ → ℕ) (tams heap : ℕ → ℕ) (snapshot : Snapshot) (recording : ℕ → Option ℕ) (scanning : ℕ → Option Scan)
      → (phase ≡ marking_phase → (snapshot.starts address ≡ true) ⊎ IsYoung config snapshot.top address)
      → KeepsSnapshot config phase grey black count buffer top tams heap block snapshot recording scanning → KeepsSnapshot config phase grey black count buffer top tams heap new_block snapshot recording scanning
  marking_again phase grey black count buffer tams heap snapshot recording scanning young_or_named marked =
      marked_made config phase grey black count buffer top tams heap block snapshot recording scanning marked new_block address refs nums name (updated_there block address (Some new_thing)) young_or_named things_stay elsewhere
      (λ place kept_piece piece_then other_place. sym (updated_else block address (Some new_thing) place (λ same_place. other_place (sym same_place))) ∙ piece_then)

  -- evacuation goes on, where the piece is not set aside, and is marked or was allocated since mark start
  pub evacuating_again : (phase cset evac claim free_bits : ℕ) (tams heap black : ℕ → ℕ) (owner : ℕ → Option ℕ) (copying : ℕ → Bool) (working : ℕ → Option ℕ)
      → (IsCollected config cset address → ⊥) → (2 ≤ phase → HasMark config black address ⊎ IsYoung config tams address)
      → IsEvacuating config phase cset evac claim free_bits top tams heap black block owner copying working → IsEvacuating config phase cset evac claim free_bits top tams heap black new_block owner copying working
  evacuating_again phase cset evac claim free_bits tams heap black owner copying working outside marked_or_young evacuating =
      evacuated_made config phase cset evac claim free_bits top tams heap black block owner copying working evacuating new_block address refs nums name piece room same_words (updated_there block address (Some new_thing)) outside marked_or_young elsewhere
      (λ place kept_piece piece_then other_place. sym (updated_else block address (Some new_thing) place (λ evacuating. other_place (sym evacuating))) ∙ piece_then)
      unnamed

  -- updating goes on, where the piece is not set aside, and the references of the object are null
  pub updating_again : (cset claim : ℕ) (limit heap : ℕ → ℕ) (scanning : ℕ → Option Scan) → (IsCollected config cset address → ⊥) → ((index : ℕ) → index < refs → heap (address + 3 + index) ≡ 0)
      → IsUpdating config cset claim top limit heap block scanning → IsUpdating config cset claim top limit heap new_block scanning
  updating_again cset claim limit heap scanning outside nulls updating =
      updated_made config cset claim top limit heap block scanning updating new_block address refs nums name (updated_there block address (Some new_thing)) outside
      (λ index index_below. IsCurrent.null (nulls index index_below)) things_stay
      (λ place kept_piece piece_then other_place. sym (updated_else block address (Some new_thing) place (λ updating. other_place (sym updating))) ∙ piece_then)

  module _ (heap : ℕ → ℕ) (object : Name → Option Object) (objects : AreObjects heap block object) (fresh : (new_content : Object) → object name ≡ Some new_content → ⊥) (new_content : Object) where
    -- the objects of other names are as before
    other_object : (old_name : Name) → name ≢ old_name → where_object object name new_content old_name ≡ object old_name
    other_object old_name differs = cond-false (same_name old_name name) _ _ (two_names old_name name (λ same_name_then. differs (sym same_name_then)))

    -- the new name has the new object
    own_object : where_object object name new_content name ≡ Some new_content
    own_object = cond-true (same_name name name) _ _ (same_name-itself name)

    -- no old object has the name
    not_old : (address old_refs old_nums : ℕ) (old_name : Name) → block address ≡ Some (thing old_name old_refs old_nums) → name ≢ old_name
    not_old address old_refs old_nums old_name old_thing equal_names = let old = objects.each address old_refs old_nums old_name old_thing in fresh old.0 (ap object equal_names ∙ old.1)

    -- the words are those of the graph's objects
    pub objects_again : IsThing heap new_block address refs nums name new_content → AreObjects heap new_block (where_object object name new_content)
    objects_again new_is = record {
      each = λ other_address its_refs its_nums its_name thing_then. ⊎_elim
          (λ (new : (other_address ≡ address) × (new_thing ≡ thing its_name its_refs its_nums)).
          let same_thing = new.1 in
          let names : name ≡ its_name = cc in
          let all_refs : refs ≡ its_refs = cc in
          let all_nums : nums ≡ its_nums = cc in (
            new_content,
            ap (where_object object name new_content) (sym names) ∙ own_object,
            subst (λ second_address. IsThing heap new_block second_address its_refs its_nums its_name new_content) (sym new.0)
                (subst (λ thing_name. IsThing heap new_block address its_refs its_nums thing_name new_content) names
                (subst (λ number. IsThing heap new_block address number its_nums name new_content) all_refs
                (subst (λ number. IsThing heap new_block address refs number name new_content) all_nums new_is))),
          ))
          (λ (old : (other_address ≢ address) × (block other_address ≡ Some (thing its_name its_refs its_nums))).
          let old_object = objects.each other_address its_refs its_nums its_name old.1 in (
            old_object.0,
            other_object its_name (not_old other_address its_refs its_nums its_name old.1) ∙ old_object.1,
            object_reads heap heap block new_block other_address its_refs its_nums its_name old_object.0 (λ number offset_below. refl) names_stay old_object.2,
          ))
          (piece_cases block address new_thing other_address (thing its_name its_refs its_nums) thing_then);
      once = λ other_address second_address refs_a nums_a refs_b nums_b its_name first_then second_then. ⊎_elim
          (λ (new_a : (other_address ≡ address) × (new_thing ≡ thing its_name refs_a nums_a)). ⊎_elim
          (λ (new_b : (second_address ≡ address) × (new_thing ≡ thing its_name refs_b nums_b)). new_a.0 ∙ sym new_b.0)
          (λ (old_b : (second_address ≢ address) × (block second_address ≡ Some (thing its_name refs_b nums_b))). let same_thing = new_a.1 in let names : name ≡ its_name = cc in absurd (not_old second_address refs_b nums_b its_name old_b.1 names))
          (piece_cases block address new_thing second_address (thing its_name refs_b nums_b) second_then))
          (λ (old_a : (other_address ≢ address) × (block other_address ≡ Some (thing its_name refs_a nums_a))). ⊎_elim
          (λ (new_b : (second_address ≡ address) × (new_thing ≡ thing its_name refs_b nums_b)). let same_thing = new_b.1 in let names : name ≡ its_name = cc in absurd (not_old other_address refs_a nums_a its_name old_a.1 names))
          (λ (old_b : (second_address ≢ address) × (block second_address ≡ Some (thing its_name refs_b nums_b))). objects.once other_address second_address refs_a nums_a refs_b nums_b its_name old_a.1 old_b.1)
          (piece_cases block address new_thing second_address (thing its_name refs_b nums_b) second_then))
          (piece_cases block address new_thing other_address (thing its_name refs_a nums_a) first_then);
    }

  -- Regions are owned as before, where the piece was not of a buffer.
  pub owned_again : (share free_bits cset : ℕ) (current : ℕ → ℕ) (owner : ℕ → Option ℕ) → ((holder words : ℕ) → piece ≡ spare holder words → ⊥) → ((holder words : ℕ) → piece ≡ carved holder words → ⊥)
      → AreOwned config top share free_bits cset current block owner → AreOwned config top share free_bits cset current new_block owner
  owned_again share free_bits cset current owner unspare uncarved owned = record {
    free_word = owned.free_word;
    shared_one = owned.shared_one;
    rooms = record {
      seated = λ place seat room_piece piece_then is_room. owned.rooms.seated place seat room_piece (old_unnamed place room_piece (room_unnamed room_piece seat is_room) piece_then).1 is_room;
      hands = λ place holder words piece_then. owned.rooms.hands place holder words (old_unnamed place (hand holder words) refl piece_then).1;
      spares = λ place holder words piece_then. owned.rooms.spares place holder words (old_unnamed place (spare holder words) refl piece_then).1;
      carveds = λ place holder words piece_then. owned.rooms.carveds place holder words (old_unnamed place (carved holder words) refl piece_then).1;
    };
    buffers = record {
      each = λ seat has_buffer.
          let old_buffer = owned.buffers.each seat has_buffer in
          record {
            region = old_buffer.region;
            within = old_buffer.within;
            from_base = old_buffer.from_base;
            some = old_buffer.some;
            ordered = old_buffer.ordered;
            to_top = old_buffer.to_top;
            free = λ space_left. ⊎_elim
                (λ spare_there. inl (stays (next_in (current seat)) (spare seat (end_in (current seat) - next_in (current seat))) spare_there (λ same_piece. unspare seat (end_in (current seat) - next_in (current seat)) same_piece)))
                (λ carved_there. inr (carved_there.0, carved_there.1, stays carved_there.0 (carved seat carved_there.1) carved_there.2 (λ same_piece. uncarved seat carved_there.1 same_piece)))
                (old_buffer.free space_left);
          };
      spares = λ place seat words piece_then. owned.buffers.spares place seat words (old_unnamed place (spare seat words) refl piece_then).1;
    };
    outside = owned.outside;
  }

-- the counts with one more for a thread
abbrev pub with_count : (ℕ → ℕ) → ℕ → ℕ → ℕ
with_count count thread asked_thread = if asked_thread == thread then count asked_thread + 1 else count asked_thread

-- no count falls
count_grows : (count : ℕ → ℕ) (thread asked_thread : ℕ) → count asked_thread ≤ with_count count thread asked_thread
count_grows count thread its_thread = grind (arith, nat_tests)

-- its own grows by one
pub count_own : (count : ℕ → ℕ) (thread : ℕ) → with_count count thread thread ≡ count thread + 1
count_own count thread = cond-true (thread == thread) _ _ (eq-eqb thread thread refl)

-- each name is given, after a thread has given its next one
pub given_again : (config : Config) (count : ℕ → ℕ) (object : Name → Option Object) (name : Name) (new_content : Object)
    → ((asked_name : Name) (its_object : Object) → object asked_name ≡ Some its_object → IsGiven config count asked_name)
    → IsGiven config (with_count count name.thread) name
    → (asked_name : Name) (its_object : Object) → where_object object name new_content asked_name ≡ Some its_object → IsGiven config (with_count count name.thread) asked_name
given_again config count object name new_content all_given new asked_name its_object object_then = ⊎_elim
    (λ (same_names : same_name asked_name name ≡ true). subst (λ asked_name. IsGiven config (with_count count name.thread) asked_name) (sym (same_name-true asked_name name same_names)) new)
    (λ (differs : same_name asked_name name ≡ false).
    let given_before = all_given asked_name its_object (sym (cond-false (same_name asked_name name) _ _ differs) ∙ object_then) in
    let grown = count_grows count name.thread asked_name.thread in
    record {
      thread = given_before.thread;
      made = (let made = given_before.made in omega (arith, grown));
      by_thread = λ one_thread. (let made = given_before.by_thread one_thread in omega (arith, grown));
      small = given_before.small;
    })
    (cases_Bool (same_name asked_name name))
