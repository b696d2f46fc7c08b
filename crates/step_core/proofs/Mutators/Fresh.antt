-- The steps that make a new object in room in hand.
use Rattle.std.proofs.Common.{◌≡◌, ◌≢◌, ℕ, ◌+◌, ◌<◌, Bool, true, false, Option, Some, inl, inr, ⊎_elim, refl, sym, ap, ◌∙◌, subst, arith}
use Rattle.std.specs.Prelude.{◌==◌, nat_lt, if◌then◌else◌}
use Rattle.std.proofs.lemmas.Bool.{cases_eq, cond-true, cond-false, eq-eqb, ne_eqb, ltb-true, ltb-false}
use Rattle.heap_words.specs.declared.config.Config.{Config}
use Rattle.heap_words.specs.Encoding.{fresh_word}
use Rattle.heap_words.specs.Words.{Phase, Cset, Evac, Claim, Free, Top, Tams, Limit, Count, Buffer, Grey, Black, Heap}
use Rattle.shen_graph.specs.declared.name.Name.{Name}
use Rattle.shen_graph.specs.declared.command.Command.{Command}
use Rattle.shen_graph.specs.declared.command.Reply.{Reply}
use Rattle.mutator.specs.declared.spot.Spot.{Spot}
use Rattle.mutator.specs.declared.spot.Spot.TheVariants.{Making, Leave}
use Rattle.mutator.specs.declared.makes.MakeSpot.TheVariants as make
use Rattle.mutator.specs.declared.spot.Kept.{Kept}
use Rattle.mutator.specs.Commands.{dst_of, refs_of, nums_of}
use Rattle.mutator.specs.Rows.{Mutating}
use Rattle.heap_world.specs.World.{World, Block, thing, moved, spent, hand, promised, dead, filler, words_of, room_of, Body, body_at, IsMarkable, Shared}
use Rattle.step_core.proofs.Machines.Stepped.{IsFilling, Mine, Row}
use Rattle.heap_world.specs.Rely.{Rely}
use Rattle.step_core.proofs.Mutators.Spots.{mutator_at, accessed}
use Rattle.step_core.proofs.Machines.Ready.{leaving, word_ready, fresh_ready}
use Rattle.step_core.proofs.Mutators.FreshRoot.{usable_made, HasNew, made_world, made_reply, room_before, promise_before, roots_made, count_made, legal_made, graph_made, shared_made, others_made}
use Rattle.heap_world.proofs.Apart.{far}
use Rattle.heap_world.proofs.Copies.{same_plot, rely_copies}
use Rattle.heap_world.proofs.Evacuated.{evacuated_words}
use Rattle.heap_world.proofs.Updated.{updated_elsewhere}
use Rattle.heap_world.proofs.Fields.{fields_stored}
use Rattle.cycle_steps.proofs.Resolving.Bodies.{room_outside}
use Rattle.heap_world.proofs.Pointing.{body_piece}
use Rattle.heap_world.proofs.Marked.{rely_marks, marked_elsewhere}
use Rattle.heap_world.proofs.Unwritten.{unwritten_stays}
use Rattle.std.proofs.lemmas.Option.{same_Some, none-some}
use Rattle.heap_world.proofs.Pieces.{object_reads}

module _ (config : Config) (world : World) (seat made : ℕ) (kept : Kept) (command : Command) (fixed : Option Reply) where
  abbrev at_spot : Spot → Mutating
  at_spot spot = mutator_at seat made kept spot

  -- the command's root
  abbrev dst : ℕ
  dst = dst_of kept.command

  -- how many references its object has
  abbrev refs : ℕ
  refs = refs_of kept.command

  -- and how many numbers
  abbrev nums : ℕ
  nums = nums_of kept.command

  module _ (address done_words : ℕ) (shared : Shared config world) (own_facts : Mine config world (at_spot (Making (make.StoreWord address done_words))) command fixed) where
    -- the world with one word more stored
    abbrev stored_world : World
    stored_world = accessed config world (at_spot (Making (make.StoreWord address done_words)))

    -- the words of other pieces stay
    else_stays : (asked_address offset : ℕ) (piece : Block) → world.block asked_address ≡ Some piece → asked_address ≢ address → offset < words_of piece → stored_world.memory (Heap (asked_address + offset)) ≡ world.memory (Heap (asked_address + offset))
    else_stays asked_address offset piece has_piece address_elsewhere offset_below =
        cond-false ((address + done_words) == (asked_address + offset)) _ _
        (ne_eqb (address + done_words) (asked_address + offset)
        (λ addresses_equal. far config (λ region. world.memory (Top region)) world.block shared.parsable.plotted asked_address address offset done_words piece (hand seat (3 + refs + nums)) has_piece own_facts.facts.1.room address_elsewhere offset_below own_facts.facts.2 (sym addresses_equal)))

    -- a piece that is not the room stands elsewhere
    not_room : (asked_address : ℕ) (piece : Block) → world.block asked_address ≡ Some piece → (hand seat (3 + refs + nums) ≡ piece → ⊥) → asked_address ≢ address
    not_room asked_address piece has_piece pieces_differ same_address = pieces_differ (same_Some (hand seat (3 + refs + nums)) piece (sym own_facts.facts.1.room ∙ ap world.block (sym same_address) ∙ has_piece))

    -- its first word stays
    head_stays : (address : ℕ) (piece : Block) → world.block address ≡ Some piece → (hand seat (3 + refs + nums) ≡ piece → ⊥) → 0 < words_of piece → stored_world.memory (Heap address) ≡ world.memory (Heap address)
    head_stays address piece has_piece pieces_differ some_words =
        let same_address : address + 0 ≡ address = omega arith in
        ap (λ address. stored_world.memory (Heap address)) (sym same_address) ∙ else_stays address 0 piece has_piece (not_room address piece has_piece pieces_differ) some_words ∙ ap (λ address. world.memory (Heap address)) same_address

    -- the references of objects stay
    fields_stay : (address found_refs found_nums field : ℕ) (name : Name) → world.block address ≡ Some (thing name found_refs found_nums) → field < found_refs → stored_world.memory (Heap (address + 3 + field)) ≡ world.memory (Heap (address + 3 + field))
    fields_stay address found_refs found_nums field name has_piece field_below =
        let same_address : address + (3 + field) ≡ address + 3 + field = omega arith in
        ap (λ address. stored_world.memory (Heap address)) (sym same_address)
        ∙ else_stays address (3 + field) (thing name found_refs found_nums) has_piece (not_room address (thing name found_refs found_nums) has_piece (λ differ. cc)) (omega (arith, field_below))
        ∙ ap (λ address. world.memory (Heap address)) same_address

    -- machines share what they shared
    shared_stored : Shared config stored_world
    shared_stored = record {
      parsable = shared.parsable;
      contents = record {
        objects = record {
          each = λ place found_refs found_nums object_name has_piece.
              let old_object = shared.contents.objects.each place found_refs found_nums object_name has_piece in
              let place_elsewhere : place ≢ address = not_room place (thing object_name found_refs found_nums) has_piece (λ differ. cc) in
              let kept_words = λ (offset : ℕ) (offset_below : offset < 3 + found_refs + found_nums). else_stays place offset (thing object_name found_refs found_nums) has_piece place_elsewhere offset_below in
              (old_object.0, old_object.1, object_reads (λ address. world.memory (Heap address)) (λ address. stored_world.memory (Heap address)) world.block world.block place found_refs found_nums object_name old_object.0 kept_words (λ target target_name name_there. name_there) old_object.2);
          once = shared.contents.objects.once;
        };
        given = shared.contents.given;
      };
      owned = shared.owned;
      phased = shared.phased;
      unwritten = unwritten_stays (λ address. world.memory (Heap address)) (λ address. stored_world.memory (Heap address)) world.block world.block
          (λ place seat_then words has_piece. (has_piece, λ offset offset_below. else_stays place offset (promised seat_then words) has_piece (not_room place (promised seat_then words) has_piece (λ differ. cc)) offset_below))
          (λ address words has_piece. (
            has_piece,
            head_stays address (dead words) has_piece (λ differ. cc) (let long_enough = shared.parsable.deads address words has_piece in omega (arith, long_enough)),
            else_stays address 1 (dead words) has_piece (not_room address (dead words) has_piece (λ differ. cc)) (let long_enough = shared.parsable.deads address words has_piece in omega (arith, long_enough)),
          ))
          (λ address words has_piece. (has_piece, head_stays address (filler words) has_piece (λ differ. cc) (let some_filler = shared.parsable.fillers address words has_piece in omega (arith, some_filler))))
          shared.unwritten;
      marked = marked_elsewhere config (world.memory Phase) (λ number. world.memory (Grey number)) (λ number. world.memory (Black number)) (λ mutator. world.memory (Count mutator)) (λ mutator entry. world.memory (Buffer mutator entry)) (λ region. world.memory (Top region)) (λ region. world.memory (Tams region))
          (λ address. world.memory (Heap address)) world.block world.ghost.snapshot world.ghost.recording world.ghost.scanning shared.marked (λ address. stored_world.memory (Heap address))
          fields_stay;
      evacuated = evacuated_words config (world.memory Phase) (world.memory Cset) (world.memory Evac) (world.memory Claim) (world.memory Free) (λ region. world.memory (Top region)) (λ region. world.memory (Tams region)) (λ address. world.memory (Heap address)) (λ number. world.memory (Black number))
          world.block world.ghost.owner world.ghost.copying world.ghost.working shared.evacuated (λ address. stored_world.memory (Heap address))
          (λ address found_refs found_nums copy name has_piece. (
            head_stays address (moved name found_refs found_nums copy) has_piece (λ differ. cc) (omega arith),
            else_stays address 1 (moved name found_refs found_nums copy) has_piece (not_room address (moved name found_refs found_nums copy) has_piece (λ differ. cc)) (omega arith),
            else_stays address 2 (moved name found_refs found_nums copy) has_piece (not_room address (moved name found_refs found_nums copy) has_piece (λ differ. cc)) (omega arith),
            λ offset field_below. subst (λ address. stored_world.memory (Heap address) ≡ world.memory (Heap address)) (let same_address : address + (3 + offset) ≡ address + 3 + offset = omega arith in same_address)
                (else_stays address (3 + offset) (moved name found_refs found_nums copy) has_piece (not_room address (moved name found_refs found_nums copy) has_piece (λ differ. cc)) (omega (arith, field_below))),
          ))
          (λ address words copy has_piece. let long_enough = shared.parsable.spents address words copy has_piece in (
            head_stays address (spent words copy) has_piece (λ differ. cc) (omega (arith, long_enough)),
            else_stays address 1 (spent words copy) has_piece (not_room address (spent words copy) has_piece (λ differ. cc)) (omega (arith, long_enough)),
          ));
      updated = λ phase_on. updated_elsewhere config (world.memory Cset) (world.memory Claim) (λ region. world.memory (Top region)) (λ region. world.memory (Limit region)) (λ address. world.memory (Heap address)) world.block world.ghost.scanning (shared.updated phase_on) (λ address. stored_world.memory (Heap address)) fields_stay;
      pinned = shared.pinned;
    }

    -- one word more of the new object stands in the room
    filling : IsFilling stored_world seat made refs nums address (done_words + 1)
    filling = record {
      room = own_facts.facts.1.room;
      within = (let stored_less = own_facts.facts.2 in omega arith);
      stored = λ offset offset_below. ⊎_elim
          (λ (same_offset : offset ≡ done_words).
          cond-true ((address + done_words) == (address + offset)) _ _ (eq-eqb (address + done_words) (address + offset) (omega (arith, same_offset)))
          ∙ ap (λ given_offset. fresh_word seat made refs nums given_offset) (sym same_offset))
          (λ (different_offset : offset ≢ done_words).
          cond-false ((address + done_words) == (address + offset)) _ _ (ne_eqb (address + done_words) (address + offset) (λ addresses_equal. different_offset (omega (arith, addresses_equal))))
          ∙ own_facts.facts.1.stored offset (omega (arith, offset_below, different_offset)))
          (cases_eq offset done_words);
    }

    -- the mutator goes on with the next word, or with the root
    mine_stored : (holds : Bool) → nat_lt (done_words + 1) (3 + refs + nums) ≡ holds
        → Mine config stored_world (at_spot (Making (if holds then make.StoreWord address (done_words + 1) else make.StoreRoot address))) command fixed
    mine_stored true words_left = record {
      seated = own_facts.seated;
      ready = word_ready config seat made kept command fixed own_facts.facts.0 (λ region. world.memory (Top region)) world.block shared.parsable.plotted address own_facts.facts.1.room own_facts.seated.below (done_words + 1) (ltb-true _ _ words_left);
      marking = own_facts.marking;
      copying = own_facts.copying;
      roots = own_facts.roots;
      rooms = own_facts.rooms;
      facts = (own_facts.facts.0, filling, ltb-true _ _ words_left);
    }
    mine_stored false all_stored = record {
      seated = own_facts.seated;
      ready = fresh_ready config seat made kept command fixed own_facts.facts.0 (λ region. world.memory (Top region)) world.block shared.parsable.plotted address own_facts.facts.1.room own_facts.seated.below;
      marking = own_facts.marking;
      copying = own_facts.copying;
      roots = own_facts.roots;
      rooms = own_facts.rooms;
      facts = (
        own_facts.facts.0,
        subst (λ done_words. IsFilling stored_world seat made refs nums address done_words) (let stored_most = ltb-false _ _ all_stored in let stored_less = own_facts.facts.2 in omega (arith, stored_most, stored_less)) filling,
      );
    }

    -- the shapes of objects stay
    shape_stays : (address : ℕ) → IsMarkable world.block address → stored_world.memory (Heap (address + 1)) ≡ world.memory (Heap (address + 1))
    shape_stays address (IsMarkable.object name found_refs found_nums has_piece) = else_stays address 1 (thing name found_refs found_nums) has_piece (not_room address (thing name found_refs found_nums) has_piece (λ differ. cc)) (omega arith)
    shape_stays address (IsMarkable.to_come holder words has_piece) =
        else_stays address 1 (promised holder words) has_piece (not_room address (promised holder words) has_piece (λ differ. cc)) (let long_enough = shared.parsable.promises address holder words has_piece in omega (arith, long_enough))

    -- room in hand is no copy of an object
    not_body : (address : ℕ) (body : Body) (piece : Block) → body_at (world.block address) ≡ Some body → world.block address ≡ Some piece → hand seat (3 + refs + nums) ≡ piece → ⊥
    not_body address body piece has_body piece_there same_piece = none-some body (ap (λ (piece : Block). body_at (Some piece)) same_piece ∙ ap body_at (sym piece_there) ∙ has_body)

    -- others can rely on what they knew
    others_stored : (other_seat : ℕ) → other_seat ≢ seat → Rely config other_seat world stored_world
    others_stored other_seat seats_differ = record {
      names = λ place n known_fact. known_fact;
      targets = λ address found_refs found_nums name has_target. record { piece = has_target.piece; safe = has_target.safe };
      rooms = λ place room_piece known_fact room. known_fact;
      no_rooms = λ place room_piece known_fact room. known_fact;
      room_words = λ place offset piece known_fact room offset_below. else_stays place offset piece known_fact (not_room place piece known_fact (λ same_piece. seats_differ (sym (same_Some seat other_seat (ap room_of same_piece ∙ room))))) offset_below;
      promises = λ place words known_fact. known_fact;
      no_promises = λ address words known_fact. known_fact;
      promise_words = λ place words offset known_fact offset_below.
          let place_elsewhere : place ≢ address = not_room place (promised other_seat words) known_fact (λ differ. cc) in
          else_stays place offset (promised other_seat words) known_fact place_elsewhere offset_below;
      current = refl;
      opens = λ given_region known_fact. known_fact;
      owners = λ region known_fact. known_fact;
      tops = λ given_region known_fact. refl;
      root_words = λ i. refl;
      roots = λ i. refl;
      pin_words = λ index. refl;
      pins = λ i. refl;
      count = refl;
      wait = refl;
      answer = refl;
      state = refl;
      asked = λ known_fact. known_fact;
      marks = rely_marks config world stored_world other_seat refl (λ n. refl) (λ t. refl) (λ t offset. refl) refl (λ t. refl) refl (λ place known_fact. known_fact) shape_stays;
      copies = rely_copies config world stored_world other_seat (same_plot config world stored_world refl refl refl (λ given_region known_fact. refl)) refl refl
          (λ place offset body seated copies inside known_fact from offset_below.
          let piece = body_piece (world.block place) body known_fact in
          else_stays place offset piece.0 piece.1 (not_room place piece.0 piece.1 (λ same_piece. not_body place body piece.0 known_fact piece.1 same_piece)) (let piece_long = piece.2 in omega (arith, offset_below, piece_long)));
      fields = fields_stored config world stored_world (λ given_region. refl) (λ given_region. refl) refl (λ place words known_fact. known_fact) (λ place words known_fact. known_fact) (λ phase_on address found_refs found_nums offset name known_fact offset_below. inl (fields_stay address found_refs found_nums offset name known_fact offset_below));
    }

  -- the step that stores a word of a new object
  pub at_store_word : (address done_words : ℕ) → Row config world (at_spot (Making (make.StoreWord address done_words))) command fixed
  at_store_word address done_words shared mine = record {
    world = stored_world address done_words shared mine;
    memory = refl;
    graph = refl;
    legal = tt;
    settles = λ reply is_settled. cc;
    shared = shared_stored address done_words shared mine;
    mine = mine_stored address done_words shared mine (nat_lt (done_words + 1) (3 + refs + nums)) refl;
    others = others_stored address done_words shared mine;
  }

  module _ (address : ℕ) (shared : Shared config world) (own_facts : Mine config world (at_spot (Making (make.StoreRoot address))) command fixed) where
    -- all words of the object stand in the room in hand
    has : HasNew config world seat made command kept.command fixed address
    has = record {
      making = own_facts.facts.0;
      within = own_facts.seated.below;
      counted = own_facts.seated.counted;
      piece = hand seat (3 + refs + nums);
      here = own_facts.facts.1.room;
      unnamed = refl;
      long = refl;
      own = record { no_room = λ other_seat differs room. differs (sym (same_Some seat other_seat room)); no_promise = λ other_seat words differs same_piece. cc; no_dead = λ words same_piece. cc; no_filler = λ words same_piece. cc; no_spare = λ other_seat words same_piece. cc; no_carved = λ other_seat words same_piece. cc };
      known = λ phase_on. inr ((shared.marked.marking phase_on).young address seat (hand seat (3 + refs + nums)) own_facts.facts.1.room refl);
      outside = room_outside config world shared address seat (3 + refs + nums) own_facts.facts.1.room;
      kept = λ phase_on. inr ((shared.evacuated.kept phase_on).young address seat (hand seat (3 + refs + nums)) own_facts.facts.1.room refl);
      stored = own_facts.facts.1.stored;
      shared = shared;
    }

    -- the mutator has only to leave
    mine_made : Mine config (made_world has) (mutator_at seat (made + 1) kept (Leave (made_reply has))) command (Some (made_reply has))
    mine_made =
        leaving config (made_world has) seat (made + 1) kept command (made_reply has)
        (record { below = own_facts.seated.below; counted = count_made has; usable = usable_made has own_facts.seated.usable; unasked = λ calm. let was_unasked = own_facts.seated.unasked calm in (was_unasked.0, was_unasked.1, λ place words has_piece. was_unasked.2 place words (promise_before has place seat words has_piece).1) })
        (own_facts.marking.records, own_facts.marking.scans, own_facts.copying.copies_is, own_facts.copying.works_none)
        (roots_made has own_facts.roots)
        (λ place piece has_piece room. let old = room_before has place seat piece has_piece room in ⊎_elim (λ spares. spares) (λ new. absurd (old.0 new.0)) (own_facts.rooms place piece old.1 room))

  -- the step that stores a new object into a root settles its name
  pub at_store_fresh : (address : ℕ) → Row config world (at_spot (Making (make.StoreRoot address))) command fixed
  at_store_fresh address shared mine = let new = has address shared mine in record {
    world = made_world new;
    memory = refl;
    graph = graph_made new;
    legal = legal_made new;
    settles = λ reply is_settled. (mine.facts.0.unsettled, refl);
    shared = shared_made new;
    mine = mine_made address shared mine;
    others = others_made new;
  }
