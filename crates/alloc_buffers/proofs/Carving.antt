-- The step of a taking of room that carves a buffer out of the shared region.
use Rattle.std.proofs.Common.{◌≡◌, ◌≢◌, ℕ, ◌+◌, ◌^◌, ◌<◌, ◌≤◌, true, false, Some, inl, inr, ⊎_elim, refl, sym, ap, ◌∙◌, subst, arith}
use Rattle.std.specs.Prelude.{◌==◌, nat_lt}
use Rattle.std.proofs.lemmas.Bool.{cases_Bool, cond-true, cond-false, eqb-true, and_from, and_parts, lt-ltb, le-leb, leb-true, ltb-true, ltb-false}
use Rattle.std.proofs.lemmas.Option.{none-some}
use Rattle.heap_words.specs.declared.config.Config.{Config}
use Rattle.heap_words.specs.Encoding.{next_in, end_in, filler_header}
use Rattle.heap_words.specs.Words.{Phase, Cset, Free, Evac, Claim, Top, Tams, Limit, Current, Count, Buffer, Grey, Black, Heap, Share, Pin, is_word, write}
use Rattle.regions.specs.Place.{base_of}
use Rattle.regions.specs.Sets.{IsIn}
use Rattle.shen_graph.specs.declared.name.Name.{Name}
use Rattle.heap_world.specs.World.{World, Block, thing, moved, spent, promised, dead, filler, spare, carved, name_at, Target, Shared}
use Rattle.heap_world.specs.Rely.{Keeps, RelyMarks, Rely}
use Rattle.heap_world.proofs.FunctionUpdates.{updated, updated_there, updated_else}
use Rattle.heap_world.proofs.Pins.{pins_stay}
use Rattle.heap_world.proofs.Pointing.{piece_word}
use Rattle.heap_world.proofs.NewPiece.{CanGrow, names_stay, stays, old_room, own_room, old_promise, parsable_more, contents_more, owned_more, unwritten_more, markable_more, marking_more, evacuating_more, updating_more, same_but_loose}
use Rattle.heap_world.proofs.Copies.{CopiesStay, keeps_copies, rely_copies}
use Rattle.heap_world.proofs.Fields.{fields_stored}
use Rattle.heap_world.proofs.Marked.{rely_marks}
use Rattle.alloc_buffers.specs.declared.spot.Kind.{Kind}
use Rattle.alloc_buffers.specs.declared.spot.TakeSpot.TheVariants.{LoadShared, Carve, Fill, StoreBuffer}
use Rattle.alloc_buffers.specs.Rows.{free_words, carved_at}
use Rattle.alloc_buffers.specs.Facts.{CanTake}
use Rattle.alloc_buffers.proofs.TakeSteps.{TakeStep, can_at, looked, exchange_lost, left_of, buffer_small, store_ready, region_end_small}

module _ (config : Config) (world : World) (seat words : ℕ) (kind : Kind) (buffer region top room : ℕ) (shared : Shared config world) (can_take : CanTake config world seat words (Carve buffer region top room)) (won : (world.memory (Top region) == top) ≡ true) where
  abbrev tops : ℕ → ℕ
  tops region = world.memory (Top region)

  -- where the new buffer lies
  abbrev address : ℕ
  address = base_of config region + top

  -- the words above the top lie in the region, and are as many as are wanted
  numbers : (top + room ≤ config.region_words) × (words ≤ room)
  numbers = let words_fit = and_parts _ _ (and_parts _ _ can_take.ready).1 in (leb-true (top + room) config.region_words words_fit.0, leb-true words room words_fit.1)

  -- the world in which the words above the top are carved
  abbrev carved_world : World
  carved_world = record { memory = write world.memory (Top region) (top + room); block = updated world.block address (Some (carved seat room)); ghost = world.ghost; graph = world.graph }

  -- the region has room
  grows : CanGrow config tops world.block region top room
  grows = record {
    parsable = shared.parsable;
    rooms = shared.owned.rooms;
    within = can_take.facts.1.within;
    top_is = eqb-true (world.memory (Top region)) top won;
    room = numbers.0;
    some = (let enough_words = can_take.least in let long_enough = numbers.1 in omega (arith, enough_words, long_enough));
  }

  -- each piece stays
  stays_there : (address : ℕ) (piece : Block) → world.block address ≡ Some piece → carved_world.block address ≡ Some piece
  stays_there = stays config tops world.block region top room seat grows

  -- what may be used still may
  targets_stay : (address refs nums : ℕ) (name : Name) → Target config (world.memory Cset) (world.memory Evac) world.block address refs nums name → Target config (world.memory Cset) (world.memory Evac) carved_world.block address refs nums name
  targets_stay address refs nums name has_target = record { piece = stays_there address (thing name refs nums) has_target.piece; safe = has_target.safe }

  -- machines share what they should
  shared_carved : Shared config carved_world
  shared_carved = record {
    parsable = parsable_more config tops world.block region top room seat grows;
    contents = contents_more config tops world.block region top room seat grows (λ address. world.memory (Heap address)) world.graph.object world.graph.count shared.contents;
    owned = owned_more config tops world.block region top room seat grows (world.memory Share) (world.memory Free) (world.memory Cset) (λ seat. world.memory (Current seat)) world.ghost.owner can_take.seated can_take.facts.1.in_use shared.owned;
    phased = shared.phased;
    unwritten = unwritten_more config tops world.block region top room seat grows (λ address. world.memory (Heap address)) shared.unwritten;
    marked = marking_more config tops world.block region top room seat grows (world.memory Phase) (λ number. world.memory (Grey number)) (λ number. world.memory (Black number)) (λ mutator. world.memory (Count mutator)) (λ mutator entry. world.memory (Buffer mutator entry))
        (λ region. world.memory (Tams region)) (λ address. world.memory (Heap address)) world.ghost.snapshot world.ghost.recording world.ghost.scanning shared.marked;
    evacuated = evacuating_more config tops world.block region top room seat grows (world.memory Phase) (world.memory Cset) (world.memory Evac) (world.memory Claim) (world.memory Free) (λ region. world.memory (Tams region)) (λ address. world.memory (Heap address)) (λ number. world.memory (Black number))
        world.ghost.owner world.ghost.copying world.ghost.working can_take.facts.1.outside shared.evacuated;
    updated = λ updating. updating_more config tops world.block region top room seat grows (world.memory Cset) (world.memory Claim) (λ region. world.memory (Limit region)) (λ address. world.memory (Heap address)) world.ghost.scanning (shared.updated updating);
    pinned = pins_stay config (world.memory Cset) (world.memory Evac) (world.memory Cset) (world.memory Evac) world.block carved_world.block (λ mutator slot. world.memory (Pin mutator slot)) world.graph.pin targets_stay shared.pinned;
  }

  -- what a word stands for it still stands for
  names : (address : ℕ) (name : Name) → name_at (world.block address) ≡ Some name → name_at (carved_world.block address) ≡ Some name
  names = names_stay config tops world.block region top room seat grows

  -- marking goes on
  marks_carved : (other_seat : ℕ) → RelyMarks config other_seat world carved_world
  marks_carved other_seat = rely_marks config world carved_world other_seat refl (λ any_seat. refl) (λ thread. refl) (λ thread index. refl) refl (λ thread. refl) refl (markable_more config tops world.block region top room seat grows) (λ place stands. refl)

  -- the region is not set aside
  set_stays : CopiesStay config world carved_world
  set_stays = record {
    cset = refl;
    evac = refl;
    things = λ address refs nums name stands. stays_there address (thing name refs nums) stands;
    moveds = λ address refs nums moved_to name stands. stays_there address (moved name refs nums moved_to) stands;
    spents = λ address spent_words moved_to stands. stays_there address (spent spent_words moved_to) stands;
    pieces = λ address piece inside stands. (piece, stays_there address piece stands, refl, refl);
    no_new = λ place refs nums name inside stands. (same_but_loose config tops world.block region top room seat grows).came place (thing name refs nums) refl stands;
    tops = λ any_region stands. updated_else tops region (top + room) any_region (λ same_region. can_take.facts.1.outside (subst (IsIn (world.memory Cset)) (sym same_region) stands));
  }

  -- the facts of the seat's machine stand
  keeps_carved : Keeps config seat world carved_world
  keeps_carved = record {
    names = names;
    targets = targets_stay;
    promises = λ address promised_words stands. stays_there address (promised seat promised_words) stands;
    no_promises = λ address promised_words stands. old_promise config tops world.block region top room seat grows address seat promised_words stands;
    promise_words = λ address promised_words offset stands offset_below. refl;
    root_words = λ number. refl;
    roots = λ number. refl;
    pin_words = λ index. refl;
    pins = λ number. refl;
    count = refl;
    wait = refl;
    answer = refl;
    marks = (marks_carved seat).keeps;
    copies = keeps_copies config world carved_world set_stays;
  }

  -- others can rely on what they knew
  others_carved : (other_seat : ℕ) → other_seat ≢ seat → Rely config other_seat world carved_world
  others_carved other_seat seats_differ = record {
    names = names;
    targets = targets_stay;
    rooms = λ address piece stands owned. stays_there address piece stands;
    no_rooms = λ place owned_piece stands owned. old_room config tops world.block region top room seat grows place other_seat owned_piece seats_differ stands owned;
    room_words = λ place offset owned_piece stands owned offset_below. refl;
    promises = λ address promised_words stands. stays_there address (promised other_seat promised_words) stands;
    no_promises = λ address promised_words stands. old_promise config tops world.block region top room seat grows address other_seat promised_words stands;
    promise_words = λ address promised_words offset stands offset_below. refl;
    current = refl;
    opens = λ any_region stands. record { within = stands.within; in_use = stands.in_use; nobodys = stands.nobodys; outside = stands.outside };
    owners = λ region stands. stands;
    tops = λ any_region stands. updated_else tops region (top + room) any_region (λ same_region. none-some other_seat (sym can_take.facts.1.nobodys ∙ ap world.ghost.owner same_region ∙ stands));
    root_words = λ number. refl;
    roots = λ number. refl;
    pin_words = λ index. refl;
    pins = λ number. refl;
    count = refl;
    wait = refl;
    answer = refl;
    state = refl;
    asked = λ stands. stands;
    marks = marks_carved other_seat;
    copies = rely_copies config world carved_world other_seat set_stays refl refl (λ place offset body seated counted inside stands from offset_below. refl);
    fields = fields_stored config world carved_world (λ any_region. refl) (λ any_region. refl) refl (λ address promised_words stands. stays_there address (dead promised_words) stands) (λ address promised_words stands. stays_there address (filler promised_words) stands) (λ updating place refs nums offset named stands offset_below. inl refl);
  }

  -- the new buffer is small enough to be stored
  ends_low : address + room < 2 ^ 32
  ends_low = let room_inside = numbers.0 in region_end_small config (λ any_region. config.region_words) region (address + room) can_take.facts.1.within (omega arith) (omega (arith, room_inside))

  -- the words of the seat's buffer
  abbrev word : ℕ
  word = world.memory (Current seat)

  -- what the seat counts on then: the old buffer has free words, which are to be filled
  fills : next_in buffer < end_in buffer → CanTake config carved_world seat words (Fill buffer address room)
  fills buffer_left =
      let buffer_read = can_take.facts.0.is in
      let word_left : next_in word < end_in word = subst (λ some_buffer. next_in some_buffer < end_in some_buffer) (sym buffer_read) buffer_left in
      let spare_left : world.block (next_in buffer) ≡ Some (spare seat (free_words buffer)) = subst (λ some_buffer. world.block (next_in some_buffer) ≡ Some (spare seat (free_words some_buffer))) buffer_read (left_of config world seat words kind shared can_take.rooms word_left) in
      let end_low : end_in buffer < 2 ^ 32 = subst (λ some_buffer. end_in some_buffer < 2 ^ 32) buffer_read (buffer_small config world seat words kind shared (λ no_buffer. (let next_zero : next_in word ≡ 0 = ap next_in no_buffer in let no_end : end_in word ≡ 0 = ap end_in no_buffer in omega (arith, next_zero, no_end, word_left)))) in
      let next_inside : is_word config (Heap (next_in buffer + 0)) ≡ true = piece_word config tops world.block shared.parsable.plotted (next_in buffer) 0 (spare seat (free_words buffer)) spare_left (omega (arith, buffer_left)) in
      can_at config world seat words kind (Carve buffer region top room) (Fill buffer address room) carved_world can_take refl refl
      (and_from _ _
      (and_from _ _ (ap (λ address. is_word config (Heap address)) (omega arith) ∙ next_inside) (lt-ltb (filler_header (free_words buffer)) (2 ^ 64) (omega (arith, end_low))))
      (and_from _ _
      (and_from _ _ (lt-ltb (next_in buffer) (end_in buffer) buffer_left) (lt-ltb (end_in buffer) (2 ^ 32) (omega (arith, end_low))))
      (and_from _ _ (le-leb words room numbers.1) (lt-ltb (address + room) (2 ^ 32) (omega (arith, ends_low))))))
      (record {
        is = buffer_read;
        some = buffer_left;
        left = stays_there (next_in buffer) (spare seat (free_words buffer)) spare_left;
        here = updated_there world.block address (Some (carved seat room));
        long = numbers.1;
      })
      (λ room_address owned_piece is_now owned. ⊎_elim
      (λ (new : (room_address ≡ address) × (carved seat room ≡ owned_piece)). inr (new.0, sym new.1))
      (λ old. inl (can_take.rooms room_address owned_piece old owned))
      (own_room config tops world.block region top room seat grows room_address owned_piece is_now))

  -- or it has none, and goes
  stores : end_in buffer ≤ next_in buffer → CanTake config carved_world seat words (StoreBuffer address room)
  stores none_left =
      can_at config world seat words kind (Carve buffer region top room) (StoreBuffer address room) carved_world can_take refl refl
      (store_ready config seat words address room can_take.seated numbers.1 ends_low)
      (record { here = inr (updated_there world.block address (Some (carved seat room))); long = numbers.1 })
      (λ room_address owned_piece is_now owned. ⊎_elim
      (λ (new : (room_address ≡ address) × (carved seat room ≡ owned_piece)). new.0)
      (λ old.
      let spare_there = can_take.rooms room_address owned_piece old owned in
      let spare_piece : world.block room_address ≡ Some (spare seat spare_there.0) = old ∙ ap (λ any_piece. Some any_piece) spare_there.1 in
      let buffer_tells = shared.owned.buffers.spares room_address seat spare_there.0 spare_piece in
      let some_spare = shared.owned.rooms.spares room_address seat spare_there.0 spare_piece in
      let buffer_read = can_take.facts.0.is in
      let same_next : next_in buffer ≡ room_address = ap next_in (sym buffer_read) ∙ buffer_tells.0 in
      let end_known : end_in buffer ≡ room_address + spare_there.0 = ap end_in (sym buffer_read) ∙ buffer_tells.1 in
      absurd (omega (arith, same_next, end_known, some_spare, none_left)))
      (own_room config tops world.block region top room seat grows room_address owned_piece is_now))

  -- so it can go on in either case
  goes_on : CanTake config carved_world seat words (carved_at buffer address room)
  goes_on = ⊎_elim
      (λ (words_left : nat_lt (next_in buffer) (end_in buffer) ≡ true).
      subst (CanTake config carved_world seat words) (sym (cond-true (nat_lt (next_in buffer) (end_in buffer)) (Fill buffer address room) (StoreBuffer address room) words_left)) (fills (ltb-true _ _ words_left)))
      (λ (none_left : nat_lt (next_in buffer) (end_in buffer) ≡ false).
      subst (CanTake config carved_world seat words) (sym (cond-false (nat_lt (next_in buffer) (end_in buffer)) (Fill buffer address room) (StoreBuffer address room) none_left)) (stores (ltb-false _ _ none_left)))
      (cases_Bool (nat_lt (next_in buffer) (end_in buffer)))

  -- the exchange of the top carves the words
  carves : TakeStep config world seat words kind (Carve buffer region top room)
  carves = record {
    world = carved_world;
    memory = ap (write world.memory (Top region)) (sym (cond-true (world.memory (Top region) == top) (top + room) (world.memory (Top region)) won));
    graph = refl;
    shared = shared_carved;
    own = (
      subst (CanTake config carved_world seat words) (sym (cond-true (world.memory (Top region) == top) (carved_at buffer address room) (LoadShared buffer) won)) goes_on,
      record { copying = refl; working = refl },
    );
    keeps = keeps_carved;
    others = others_carved;
  }

-- the step that carves: where another machine was faster, it looks again
pub at_carve : (config : Config) (world : World) (seat words : ℕ) (kind : Kind) (buffer region top room : ℕ) → Shared config world → CanTake config world seat words (Carve buffer region top room) → TakeStep config world seat words kind (Carve buffer region top room)
at_carve config world seat words kind buffer region top room shared can_take = ⊎_elim
    (carves config world seat words kind buffer region top room shared can_take)
    (λ (lost : (world.memory (Top region) == top) ≡ false).
    looked config world seat words kind (Carve buffer region top room) (LoadShared buffer) shared can_take (exchange_lost world.memory (Top region) top (top + room) lost)
    (cond-false (world.memory (Top region) == top) (carved_at buffer (base_of config region + top) room) (LoadShared buffer) lost) refl
    can_take.facts.0 can_take.rooms)
    (cases_Bool (world.memory (Top region) == top))
