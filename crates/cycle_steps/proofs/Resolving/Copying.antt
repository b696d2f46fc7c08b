-- The steps of a machine that takes room for a copy, and copies an object.
use Rattle.std.proofs.Common.{◌≡◌, ◌≢◌, ℕ, ◌+◌, ◌*◌, ◌^◌, ◌<◌, ◌≤◌, Bool, true, false, Option, Some, None, inl, inr, ⊎_elim, refl, sym, ap, ◌∙◌, subst, arith}
use Rattle.std.specs.Prelude.{◌==◌, nat_lt, if◌then◌else◌}
use Rattle.std.proofs.lemmas.Bool.{cases_eq, cond-true, cond-false, eq-eqb, ne_eqb, and_from, and_parts, lt-ltb, ltb-true, ltb-false}
use Rattle.std.proofs.lemmas.Option.{same_Some}
use Rattle.heap_words.specs.declared.config.Config.{Config}
use Rattle.heap_words.specs.Encoding.{plain_header, header_word, forwardee_in}
use Rattle.heap_words.specs.Words.{Heap, is_word, write}
use Rattle.heap_words.specs.Touch.{touch, stores}
use Rattle.alloc_buffers.specs.declared.spot.Kind.TheVariants.{Evacuated}
use Rattle.alloc_buffers.specs.declared.spot.Taken.TheVariants.{At, NoRoom}
use Rattle.alloc_buffers.specs.declared.spot.TakeSpot.{TakeSpot}
use Rattle.alloc_buffers.specs.declared.spot.TakeSpot.TheVariants as take
use Rattle.alloc_buffers.specs.Rows as takes
use Rattle.alloc_buffers.specs.Facts.{HasTakenRoom, CanTake}
use Rattle.std.proofs.Math.Nat.{mul-le-mul_right}
use Rattle.alloc_buffers.proofs.Takes.{each_take}
use Rattle.regions.specs.Place.{base_of, region_with}
use Rattle.regions.proofs.PlaceLemmas.{regions_tile}
use Rattle.evac_room.specs.declared.spot.RoomSpot.TheVariants.{Ask}
use Rattle.heap_world.specs.World.{World, Block, thing, moved, hand, room_of, Body, body_at, body_words, IsCollected, HasCopy, Shared}
use Rattle.heap_world.specs.Part.{PartStep, SameWork}
use Rattle.heap_world.specs.Rely.{Keeps}
use Rattle.heap_world.proofs.FunctionUpdates.{updated_there, updated_else}
use Rattle.heap_world.proofs.Keeping.{load_keeps}
use Rattle.heap_world.proofs.Pointing.{copy_cases, body_piece}
use Rattle.load_barrier.specs.declared.copying.CopySpot.{CopySpot}
use Rattle.load_barrier.specs.declared.copying.CopySpot.TheVariants.{LoadWord, StoreWord, StoreHeader, Publish, GiveBack}
use Rattle.load_barrier.specs.declared.spot.ResolveSpot.{ResolveSpot}
use Rattle.load_barrier.specs.declared.spot.ResolveSpot.TheVariants.{Taking, Copying, Leaving, Stopping}
use Rattle.load_barrier.specs.Rows.{touch_at, after_take, take_next}
use Rattle.load_barrier.specs.Fit.{is_ready, is_object, has_words, is_busy}
use Rattle.load_barrier.specs.Alone.{is_copier}
use Rattle.load_barrier.proofs.Knows.{header_names}
use Rattle.cycle_steps.proofs.Resolving.Common.{CanResolveFor, ResolveStep}
use Rattle.cycle_steps.specs.Resolving.Facts.{IsCopied, ResolveFacts, IsResolvingRoom}
use Rattle.cycle_steps.proofs.Resolving.Bodies.{piece_lies, body_lies, piece_begins}
use Rattle.cycle_steps.proofs.Resolving.Common as steps
use Rattle.cycle_steps.proofs.Resolving.Worded as worded
use Rattle.cycle_steps.proofs.Resolving.Forwarded as forwarded
use Rattle.alloc_buffers.proofs.GivingBack.{CanGiveBack, fixed_stays, all_spare, back_step}

-- a buffer out of which room was taken ends low
taken_small : (config : Config) (world : World) (seat words copy end : ℕ) → Shared config world → 1 ≤ words → HasTakenRoom config world seat words copy end → end < 2 ^ 32
taken_small config world seat words copy end shared words_positive room_taken =
    let used = shared.parsable.plotted.in_use copy (hand seat words) room_taken.here in
    let top_within = shared.parsable.plotted.tops used.region used.within in
    let end_within = used.to_top in
    let same_region : region_with config copy ≡ used.region = regions_tile.of_no_other config used.region copy (record { from = used.from_base; before = omega (arith, end_within, top_within, words_positive) }) in
    let end_inside : end ≤ base_of config used.region + config.region_words = subst (λ any_region. end ≤ base_of config any_region + config.region_words) same_region room_taken.within in
    let few_regions = config.in_range.most_regions in
    let few_words = config.in_range.most_words in
    let room_within = used.within in
    let rows : (used.region + 1) * config.region_words ≤ 64 * config.region_words = mul-le-mul_right config.region_words (omega (arith, few_regions, room_within)) in
    omega (arith, rows, few_words, end_inside)

-- A taking of room goes on, or has ended: with room for a copy, or without it.
module _ (config : Config) (world next_world : World) (seat address words : ℕ) (unit : Option ℕ) (spot : TakeSpot) (shared : Shared config next_world) (can_resolve : CanResolveFor config world seat address unit (Taking words spot)) (world_kept : Keeps config seat world next_world) (same_work : SameWork world next_world seat) where
  -- the object
  abbrev body : Body
  body = can_resolve.resolves.facts.0

  body_there : body_at (next_world.block address) ≡ Some body
  body_there = world_kept.copies.bodies address body can_resolve.resolves.facts.1

  long : words ≡ body_words body
  long = can_resolve.resolves.facts.2.0

  -- the object lies in the heap
  lies : is_object config address words ≡ true
  lies = subst (λ object_words. is_object config address object_words ≡ true) (sym long) (body_lies config next_world shared address body body_there)

  -- what it counts on, by where it stands
  after_taking : (next_spot : ResolveSpot) → is_copier next_spot ≡ true → ((room_address : ℕ) (piece : Block) → next_world.block room_address ≡ Some piece → room_of piece ≡ Some seat → IsResolvingRoom seat next_spot room_address piece) → is_ready config seat address next_spot ≡ true → ResolveFacts config next_world seat address next_spot
      → next_world.ghost.recording seat ≡ None → next_world.ghost.scanning seat ≡ None → CanResolveFor config next_world seat address unit next_spot
  after_taking next_spot copies rooms_resolving next_ready facts records_none scans_none = record {
    resolves = record {
      seated = can_resolve.resolves.seated;
      phase = world_kept.marks.phase ∙ can_resolve.resolves.phase;
      inside = subst (λ cset. IsCollected config cset address) (sym world_kept.copies.cset) can_resolve.resolves.inside;
      there = HasCopy.copy body body_there;
      copying = same_work.copying ∙ can_resolve.resolves.copying ∙ sym copies;
      records_none = records_none;
      scans_none = scans_none;
      rooms = rooms_resolving;
      ready = next_ready;
      facts = facts;
    };
    working = same_work.working ∙ can_resolve.working;
  }

  -- while it has not ended
  goes_on : (next_spot : TakeSpot) → takes.is_ended next_spot ≡ false → CanTake config next_world seat words next_spot → CanResolveFor config next_world seat address unit (Taking words next_spot)
  goes_on next_spot next_going can_take = after_taking (Taking words next_spot) refl can_take.rooms
      (and_from _ _ lies (and_from _ _ (ap is_busy next_going) can_take.ready)) (body, body_there, (long, can_take)) can_take.records_none can_take.scans_none

  pub taken : (next_spot : TakeSpot) → CanTake config next_world seat words next_spot → CanResolveFor config next_world seat address unit (after_take words next_spot)
  taken (take.Ended (At copy) end) can_take =
      let room = can_take.facts in
      after_taking (Copying copy end (LoadWord words 1)) refl (λ room_address piece has_piece owned. ⊎_elim (λ spare. inl spare) (λ room_here. inr room_here.0) (can_take.rooms room_address piece has_piece owned))
      (and_from _ _
      (and_from _ _ lies (and_from _ _ (piece_lies config next_world shared copy (hand seat words) room.here) (lt-ltb 1 words (let least_room = can_take.least in omega (arith, least_room)))))
      (lt-ltb end (2 ^ 32) (taken_small config next_world seat words copy end shared (let least_room = can_take.least in omega (arith, least_room)) room))) (
        body,
        body_there,
        (
          long,
          omega arith,
          (let least_room = can_take.least in omega (arith, least_room)),
          record {
            taken = subst (λ words. HasTakenRoom config next_world seat words copy end) long room;
            same = λ offset some_offset offset_below. absurd (omega (arith, some_offset, offset_below));
          },
        ),
      ) can_take.records_none can_take.scans_none
  taken (take.Ended NoRoom end) can_take = after_taking (Stopping Ask) refl can_take.rooms refl (body, body_there, tt) can_take.records_none can_take.scans_none
  taken next_spot can_take = goes_on next_spot refl can_take

module _ (config : Config) (world : World) (seat address : ℕ) (unit : Option ℕ) (shared : Shared config world) where
  -- a step of a taking of room
  pub at_taking : (words : ℕ) (take_spot : TakeSpot) → CanResolveFor config world seat address unit (Taking words take_spot) → ResolveStep config world seat address unit (Taking words take_spot)
  at_taking words take_spot can_resolve =
      let take_going : takes.is_ended take_spot ≡ false = not_busy (takes.is_ended take_spot) (and_parts _ _ (and_parts (is_object config address words) _ can_resolve.resolves.ready).1).0 in
      let step = each_take config world seat words Evacuated take_spot take_going shared can_resolve.resolves.facts.2.1 in
      record {
        world = step.world;
        memory = step.memory;
        graph = step.graph;
        shared = step.shared;
        own = taken config world step.world seat address words unit take_spot step.shared can_resolve step.keeps step.own.1 (take_next config words take_spot (world.memory (takes.touch_at seat words take_spot).word)) step.own.0;
        keeps = step.keeps;
        others = step.others;
      }
    where
      not_busy : (busy : Bool) → is_busy busy ≡ true → busy ≡ false
      not_busy true tested = absurd (cc (tested))
      not_busy false tested = refl

  -- the load of a word of the object
  pub at_load_word : (copy end words index : ℕ) → CanResolveFor config world seat address unit (Copying copy end (LoadWord words index)) → ResolveStep config world seat address unit (Copying copy end (LoadWord words index))
  at_load_word copy end words index can_resolve =
      let facts = can_resolve.resolves.facts in
      steps.looked config world seat address unit shared (Copying copy end (LoadWord words index)) (Copying copy end (StoreWord words index (world.memory (Heap (address + index))))) (load_keeps world.memory (Heap (address + index)))
      (steps.can_at config world seat address unit shared (Copying copy end (LoadWord words index)) (Copying copy end (StoreWord words index (world.memory (Heap (address + index))))) can_resolve refl (λ room_address piece room. room) can_resolve.resolves.ready
      (facts.0, facts.1, (facts.2.0, facts.2.1, facts.2.2, facts.2.3, refl)))

  -- what it counts on after a word of its room was written
  module _ (spot : ResolveSpot) (body : Body) (copy index place value : ℕ) (can_resolve : CanResolveFor config world seat address unit spot) (has_body : body_at (world.block address) ≡ Some body) (room_there : world.block copy ≡ Some (hand seat (body_words body))) (index_below : index < body_words body) (place_is : copy + index ≡ place)
      (touches : touch_at config seat address spot ≡ touch (Heap place) (stores value)) where
    abbrev worded_then : World
    worded_then = worded.worded_world config world seat copy (body_words body) index place value shared can_resolve.resolves.phase room_there index_below place_is

    -- the object is no room
    object_else : address ≢ copy
    object_else same_address = (let same_body = sym has_body ∙ ap (λ address. body_at (world.block address)) same_address ∙ ap body_at room_there in cc)

    -- its words stay
    object_stays : (offset : ℕ) → offset < body_words body → worded_then.memory (Heap (address + offset)) ≡ world.memory (Heap (address + offset))
    object_stays offset offset_within =
        let piece = body_piece (world.block address) body has_body in
        let same_words = piece.2 in
        worded.else_stays config world seat copy (body_words body) index place value shared can_resolve.resolves.phase room_there index_below place_is address offset piece.0 piece.1 object_else (omega (arith, offset_within, same_words))

    -- and so do other words of the room
    room_stays : (offset : ℕ) → index ≢ offset → worded_then.memory (Heap (copy + offset)) ≡ world.memory (Heap (copy + offset))
    room_stays offset offsets_differ = updated_else (λ address. world.memory (Heap address)) place value (copy + offset) (λ same_word. offsets_differ (let where_is = place_is in omega (arith, same_word, where_is)))

    -- the word is what was written
    word_now : worded_then.memory (Heap place) ≡ value
    word_now = updated_there (λ address. world.memory (Heap address)) place value

    word_moves : (next_spot : ResolveSpot) → is_copier next_spot ≡ is_copier spot → ((room_address : ℕ) (piece : Block) → IsResolvingRoom seat spot room_address piece → IsResolvingRoom seat next_spot room_address piece) → is_ready config seat address next_spot ≡ true → ResolveFacts config worded_then seat address next_spot
        → steps.StepTo config world seat address unit shared spot next_spot
    word_moves next_spot copies rooms_stay next_ready facts =
        subst (λ own_touch. PartStep config world seat own_touch (λ world. CanResolveFor config world seat address unit next_spot)) (sym touches)
        (worded.word_step config world seat copy (body_words body) index place value shared can_resolve.resolves.phase room_there index_below place_is (λ world. CanResolveFor config world seat address unit next_spot) (record {
          resolves = record {
            seated = can_resolve.resolves.seated;
            phase = can_resolve.resolves.phase;
            inside = can_resolve.resolves.inside;
            there = can_resolve.resolves.there;
            copying = can_resolve.resolves.copying ∙ sym copies;
            records_none = can_resolve.resolves.records_none;
            scans_none = can_resolve.resolves.scans_none;
            rooms = λ room_address piece has_piece owned. rooms_stay room_address piece (can_resolve.resolves.rooms room_address piece has_piece owned);
            ready = next_ready;
            facts = facts;
          };
          working = can_resolve.working;
        }))

  -- the store of a word into the copy
  module _ (copy end words index found : ℕ) (can_resolve : CanResolveFor config world seat address unit (Copying copy end (StoreWord words index found))) where
    abbrev here : ResolveSpot
    here = Copying copy end (StoreWord words index found)

    abbrev object : Body
    object = can_resolve.resolves.facts.0

    is : body_at (world.block address) ≡ Some object
    is = can_resolve.resolves.facts.1

    all_words : words ≡ body_words object
    all_words = can_resolve.resolves.facts.2.0

    below : index < body_words object
    below = (let index_less = can_resolve.resolves.facts.2.2 in let words_same = all_words in omega (arith, index_less, words_same))

    copied : IsCopied config world seat address copy end object index
    copied = can_resolve.resolves.facts.2.3

    abbrev then_world : World
    then_world = worded_then here object copy index (copy + index) found can_resolve is copied.taken.here below refl refl

    -- one word more is copied
    copied_then : IsCopied config then_world seat address copy end object (index + 1)
    copied_then = record {
      taken = record { here = copied.taken.here; next = copied.taken.next; end_is = copied.taken.end_is; ordered = copied.taken.ordered; within = copied.taken.within };
      same = λ offset some_offset offset_less. ⊎_elim
          (λ (just_copied : index ≡ offset).
          subst (λ any_offset. then_world.memory (Heap (copy + any_offset)) ≡ then_world.memory (Heap (address + any_offset))) just_copied
          (word_now here object copy index (copy + index) found can_resolve is copied.taken.here below refl refl
          ∙ can_resolve.resolves.facts.2.4
          ∙ sym (object_stays here object copy index (copy + index) found can_resolve is copied.taken.here below refl refl index below)))
          (λ (copied_before : index ≢ offset).
          room_stays here object copy index (copy + index) found can_resolve is copied.taken.here below refl refl offset copied_before
          ∙ copied.same offset some_offset (omega (arith, offset_less, copied_before))
          ∙ sym (object_stays here object copy index (copy + index) found can_resolve is copied.taken.here below refl refl offset (let index_within = below in omega (arith, offset_less, index_within))))
          (cases_eq index offset);
    }

    by_end : (more_left : Bool) → nat_lt (index + 1) words ≡ more_left → steps.StepTo config world seat address unit shared here (Copying copy end (if more_left then LoadWord words (index + 1) else StoreHeader))
    by_end true has_more =
        let both_tests = and_parts (is_object config address words) _ (and_parts _ _ can_resolve.resolves.ready).0 in
        word_moves here object copy index (copy + index) found can_resolve is copied.taken.here below refl refl
        (Copying copy end (LoadWord words (index + 1))) refl (λ room_address piece room. room)
        (and_from _ _ (and_from _ _ both_tests.0 (and_from _ _ (and_parts (has_words config copy words) _ both_tests.1).0 has_more)) (and_parts _ _ can_resolve.resolves.ready).1)
        (object, is, (all_words, omega arith, ltb-true _ _ has_more, copied_then))
    by_end false no_more =
        let at_most : words ≤ index + 1 = ltb-false _ _ no_more in
        let all_copied : index + 1 ≡ body_words object = (let index_within = below in let same_words = all_words in omega (arith, at_most, index_within, same_words)) in
        word_moves here object copy index (copy + index) found can_resolve is copied.taken.here below refl refl
        (Copying copy end StoreHeader) refl (λ room_address piece room. room)
        (and_from _ _ (piece_begins config world shared copy (hand seat (body_words object)) copied.taken.here (omega arith)) (and_parts _ _ can_resolve.resolves.ready).1)
        (object, is, subst (λ index. IsCopied config then_world seat address copy end object index) all_copied copied_then)

    pub at_store_word : ResolveStep config world seat address unit (Copying copy end (StoreWord words index found))
    at_store_word = by_end (nat_lt (index + 1) words) refl

  -- the store of the copy's header
  pub at_store_header : (copy end : ℕ) → CanResolveFor config world seat address unit (Copying copy end StoreHeader) → ResolveStep config world seat address unit (Copying copy end StoreHeader)
  at_store_header copy end can_resolve =
      let body = can_resolve.resolves.facts.0 in
      let has_body = can_resolve.resolves.facts.1 in
      let words_copied = can_resolve.resolves.facts.2 in
      let spot : ResolveSpot = Copying copy end StoreHeader in
      let some_words : 0 < body_words body = omega arith in
      let place_is : copy + 0 ≡ copy = omega arith in
      word_moves (Copying copy end StoreHeader) body copy 0 copy plain_header can_resolve has_body words_copied.taken.here some_words place_is refl
      (Copying copy end Publish) refl (λ room_address piece room. room) can_resolve.resolves.ready (
        body,
        has_body,
        (
          record {
            taken = record { here = words_copied.taken.here; next = words_copied.taken.next; end_is = words_copied.taken.end_is; ordered = words_copied.taken.ordered; within = words_copied.taken.within };
            same = λ offset some_offset offset_less.
                room_stays (Copying copy end StoreHeader) body copy 0 copy plain_header can_resolve has_body words_copied.taken.here some_words place_is refl offset (omega (arith, some_offset))
                ∙ words_copied.same offset some_offset offset_less
                ∙ sym (object_stays (Copying copy end StoreHeader) body copy 0 copy plain_header can_resolve has_body words_copied.taken.here some_words place_is refl offset offset_less);
          },
          word_now (Copying copy end StoreHeader) body copy 0 copy plain_header can_resolve has_body words_copied.taken.here some_words place_is refl,
        ),
      )

  -- the exchange that publishes the copy: it is won where the object has not moved, and else the room is given back
  pub at_publish : (copy end : ℕ) → CanResolveFor config world seat address unit (Copying copy end Publish) → ResolveStep config world seat address unit (Copying copy end Publish)
  at_publish copy end can_resolve = ⊎_elim won lost (copy_cases (world.block address) b is)
    where
      b : Body
      b = can_resolve.resolves.facts.0

      is : body_at (world.block address) ≡ Some can_resolve.resolves.facts.0
      is = can_resolve.resolves.facts.1

      copied : IsCopied config world seat address copy end can_resolve.resolves.facts.0 (body_words can_resolve.resolves.facts.0)
      copied = can_resolve.resolves.facts.2.0

      won : world.block address ≡ Some (thing can_resolve.resolves.facts.0.name can_resolve.resolves.facts.0.refs can_resolve.resolves.facts.0.nums) → ResolveStep config world seat address unit (Copying copy end Publish)
      won current =
          let header_plain = steps.header_plain config world seat address unit shared can_resolve.resolves.facts.0 current in
          steps.leads_to config world seat address unit shared (Copying copy end Publish) (Leaving copy) (cond-true (world.memory (Heap address) == plain_header) _ _ (eq-eqb _ _ header_plain))
          (forwarded.publish_step config world seat address copy b.refs b.nums b.name shared can_resolve.resolves.phase can_resolve.resolves.inside current copied.taken.here copied.same can_resolve.resolves.facts.2.1 can_resolve.resolves.seated can_resolve.resolves.copying
          (λ world. CanResolveFor config world seat address unit (Leaving copy)) header_plain (record {
            resolves = record {
              seated = can_resolve.resolves.seated;
              phase = can_resolve.resolves.phase;
              inside = can_resolve.resolves.inside;
              there = HasCopy.copy b (ap body_at (forwarded.old_there config world seat address copy b.refs b.nums b.name shared can_resolve.resolves.phase can_resolve.resolves.inside current copied.taken.here copied.same can_resolve.resolves.facts.2.1 can_resolve.resolves.seated can_resolve.resolves.copying));
              copying = can_resolve.resolves.copying;
              records_none = can_resolve.resolves.records_none;
              scans_none = can_resolve.resolves.scans_none;
              rooms = λ room_address piece has_piece owned.
                  let left_room = forwarded.room_left config world seat address copy b.refs b.nums b.name shared can_resolve.resolves.phase can_resolve.resolves.inside current copied.taken.here copied.same can_resolve.resolves.facts.2.1 can_resolve.resolves.seated can_resolve.resolves.copying room_address seat piece has_piece owned in
                  ⊎_elim (λ spare. spare) (λ is_copy. absurd (left_room.0 is_copy)) (can_resolve.resolves.rooms room_address piece left_room.1 owned);
              ready = piece_begins config world shared copy (hand seat (body_words b)) copied.taken.here (omega arith);
              facts = (
                b,
                ap body_at (forwarded.old_there config world seat address copy b.refs b.nums b.name shared can_resolve.resolves.phase can_resolve.resolves.inside current copied.taken.here copied.same can_resolve.resolves.facts.2.1 can_resolve.resolves.seated can_resolve.resolves.copying),
                forwarded.old_there config world seat address copy b.refs b.nums b.name shared can_resolve.resolves.phase can_resolve.resolves.inside current copied.taken.here copied.same can_resolve.resolves.facts.2.1 can_resolve.resolves.seated can_resolve.resolves.copying,
              );
            };
            working = can_resolve.working;
          }))

      lost : (moved_to : ℕ) × (world.block address ≡ Some (moved can_resolve.resolves.facts.0.name can_resolve.resolves.facts.0.refs can_resolve.resolves.facts.0.nums moved_to)) → ResolveStep config world seat address unit (Copying copy end Publish)
      lost old =
          let header = steps.header_leads config world seat address unit shared can_resolve.resolves.facts.0 old.0 old.1 in
          let not_plain : (world.memory (Heap address) == plain_header) ≡ false = ne_eqb _ _ (λ header_plain. omega (arith, header, header_plain)) in
          steps.leads_to config world seat address unit shared (Copying copy end Publish) (Copying copy end (GiveBack old.0))
          (cond-false (world.memory (Heap address) == plain_header) _ _ not_plain ∙ ap (λ any_header. Copying copy end (GiveBack (forwardee_in any_header))) header ∙ ap (λ answer. Copying copy end (GiveBack answer)) (header_names old.0))
          (steps.looked config world seat address unit shared (Copying copy end Publish) (Copying copy end (GiveBack old.0))
          (load_keeps world.memory (Heap address) ∙ ap (λ word. write world.memory (Heap address) word) (sym (cond-false (world.memory (Heap address) == plain_header) (header_word copy) (world.memory (Heap address)) not_plain)))
          (steps.can_at config world seat address unit shared (Copying copy end Publish) (Copying copy end (GiveBack old.0)) can_resolve refl (λ room_address piece room. room)
          (and_from _ _ (and_from _ _ (and_parts (is_word config (Heap copy)) (nat_lt end (2 ^ 32)) can_resolve.resolves.ready).0 (steps.answer_word config world seat address unit shared can_resolve.resolves.facts.0 old.0 old.1)) (and_parts (is_word config (Heap copy)) (nat_lt end (2 ^ 32)) can_resolve.resolves.ready).1)
          (b, is, (copied.taken, old.1))))

  -- the store of the buffer that gives the room back
  at_give_back : (copy end answer : ℕ) → CanResolveFor config world seat address unit (Copying copy end (GiveBack answer)) → ResolveStep config world seat address unit (Copying copy end (GiveBack answer))
  at_give_back copy end answer can_resolve =
      let body = can_resolve.resolves.facts.0 in
      let room_taken = can_resolve.resolves.facts.2.0 in
      let gives : CanGiveBack config world seat (body_words body) copy end = record {
        taken = room_taken;
        rooms = λ room_address piece has_piece owned. ⊎_elim (λ spare. inl spare) (λ room_here. inr (room_here, same_Some piece (hand seat (body_words body)) (sym has_piece ∙ ap world.block room_here ∙ room_taken.here))) (can_resolve.resolves.rooms room_address piece has_piece owned);
      } in
      let old = fixed_stays config world seat (body_words body) copy end shared gives address (moved body.name body.refs body.nums answer) refl can_resolve.resolves.facts.2.1 in
      back_step config world seat (body_words body) copy end shared gives (λ world. CanResolveFor config world seat address unit (Leaving answer)) (record {
        resolves = record {
          seated = can_resolve.resolves.seated;
          phase = can_resolve.resolves.phase;
          inside = can_resolve.resolves.inside;
          there = HasCopy.copy body (ap body_at old);
          copying = can_resolve.resolves.copying;
          records_none = can_resolve.resolves.records_none;
          scans_none = can_resolve.resolves.scans_none;
          rooms = λ room_address piece has_piece owned. all_spare config world seat (body_words body) copy end shared gives room_address piece has_piece owned;
          ready = (and_parts (is_word config (Heap copy)) _ (and_parts _ _ can_resolve.resolves.ready).0).1;
          facts = (body, ap body_at old, old);
        };
        working = can_resolve.working;
      })

  -- each step of a copying
  pub at_copying : (copy end : ℕ) (copy_spot : CopySpot) → CanResolveFor config world seat address unit (Copying copy end copy_spot) → ResolveStep config world seat address unit (Copying copy end copy_spot)
  at_copying copy end (LoadWord words index) can_resolve = at_load_word copy end words index can_resolve
  at_copying copy end (StoreWord words index found) can_resolve = at_store_word copy end words index found can_resolve
  at_copying copy end StoreHeader can_resolve = at_store_header copy end can_resolve
  at_copying copy end Publish can_resolve = at_publish copy end can_resolve
  at_copying copy end (GiveBack answer) can_resolve = at_give_back copy end answer can_resolve
