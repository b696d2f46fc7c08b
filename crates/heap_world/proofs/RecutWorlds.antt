-- A step that cuts a stretch of a seat's room anew: it writes words of the stretch, or the word of the seat's buffer, and nothing else. What
-- machines share holds again, the seat keeps what its facts stand on, and others can rely on what they knew.
use Rattle.std.proofs.Common.{◌≡◌, ◌≢◌, ℕ, ◌+◌, ◌<◌, ◌≤◌, ◌⊎◌, Bool, true, false, Some, inl, inr, ⊎_elim, refl, sym, ap, ◌∙◌, subst, arith}
use Rattle.std.proofs.lemmas.Bool.{cases_lt, true≢false}
use Rattle.std.proofs.lemmas.Option.{none-some, same_Some}
use Rattle.std.specs.Int.{bit_at}
use Rattle.regions.specs.Sets.{IsIn}
use Rattle.heap_words.specs.declared.config.Config.{Config}
use Rattle.heap_words.specs.Encoding.{filler_header, object_words}
use Rattle.heap_words.specs.Words.{Word, Phase, Cset, Free, Evac, Claim, Ask, State, Top, Tams, Limit, Current, Root, Count, Buffer, Wait, Answer, Grey, Black, Heap, Share, Pin}
use Rattle.heap_words.specs.Counter.{IsQuiet}
use Rattle.shen_graph.specs.declared.name.Name.{Name}
use Rattle.heap_world.specs.World.{World, Block, thing, moved, spent, promised, dead, filler, Plot, words_of, room_of, is_loose, Body, body_at, body_words, IsCollected, IsMarkable, AreBuffers, AreBuffersOutside, TargetIn, SharedFacts, Shared}
use Rattle.heap_world.specs.Rely.{Keeps, RelyMarks, Rely}
use Rattle.heap_world.proofs.Unwritten.{blank_stays}
use Rattle.heap_world.proofs.Pins.{pins_stay}
use Rattle.heap_world.proofs.Pointing.{copy_cases}
use Rattle.heap_world.proofs.Pieces.{object_reads}
use Rattle.heap_world.proofs.Marked.{rely_marks, marked_elsewhere}
use Rattle.heap_world.proofs.Copies.{CopiesStay, keeps_copies, rely_copies}
use Rattle.heap_world.proofs.Evacuated.{evacuated_words}
use Rattle.heap_world.proofs.Updated.{updated_elsewhere}
use Rattle.heap_world.proofs.Fields.{fields_stored}
use Rattle.heap_world.proofs.Loose.{names_stay, markable_loose, marked_loose, evacuated_loose, updated_loose}
use Rattle.heap_world.proofs.Retiled.{retiled, retiled_cases, retiled_else}
use Rattle.heap_world.proofs.Recut.{CanRecut, room_loose, same_but_loose, rooms_young, rooms_outside, others_room, others_stay, parsable_again, rooms_again}

-- the words that such a step writes: of the heap, and of buffers
abbrev pub is_of_room : Word → Bool
is_of_room (Heap address) = true
is_of_room (Current seat) = true
is_of_room _ = false

module _ (config : Config) (world : World) (new : Plot) (seat cut_address words : ℕ) (shared : Shared config world) (recut : CanRecut config (λ any_region. world.memory (Top any_region)) world.block new seat cut_address words) where
  abbrev tops : ℕ → ℕ
  tops region = world.memory (Top region)

  -- the plot with the new pieces
  abbrev after : Plot
  after = retiled world.block new cut_address words

  -- the words of a piece that is not loose lie outside the stretch
  pub fixed_words : (address offset : ℕ) (piece : Block) → is_loose piece ≡ false → world.block address ≡ Some piece → offset < words_of piece → (address + offset < cut_address) ⊎ (cut_address + words ≤ address + offset)
  fixed_words address offset piece fixed has_piece offset_below = ⊎_elim
      (λ (address_before : address < cut_address). let pieces_apart = recut.parsable.plotted.apart address cut_address piece recut.stretch.first has_piece recut.stretch.begins address_before in inl (omega (arith, pieces_apart, offset_below)))
      (λ (from : cut_address ≤ address). ⊎_elim
      (λ (below_end : address < cut_address + words). absurd (true≢false (sym (room_loose piece seat (recut.olds address piece from below_end has_piece)) ∙ fixed)))
      (λ (address_beyond : cut_address + words ≤ address). inr (omega (arith, address_beyond)))
      (cases_lt address (cut_address + words)))
      (cases_lt address cut_address)

  module _ (heap : ℕ → ℕ) (same_heap : (asked_address : ℕ) → (asked_address < cut_address) ⊎ (cut_address + words ≤ asked_address) → heap asked_address ≡ world.memory (Heap asked_address)) where
    -- so they stay
    pub fixed_stay : (address offset : ℕ) (piece : Block) → is_loose piece ≡ false → world.block address ≡ Some piece → offset < words_of piece → heap (address + offset) ≡ world.memory (Heap (address + offset))
    fixed_stay address offset piece fixed has_piece offset_below = same_heap (address + offset) (fixed_words address offset piece fixed has_piece offset_below)

    -- the first of them
    head_stays : (address : ℕ) (piece : Block) → is_loose piece ≡ false → world.block address ≡ Some piece → 1 ≤ words_of piece → heap address ≡ world.memory (Heap address)
    head_stays address piece fixed has_piece some_length =
        let same_address : address ≡ address + 0 = omega arith in
        ap heap same_address ∙ fixed_stay address 0 piece fixed has_piece (omega (arith, some_length)) ∙ ap (λ address. world.memory (Heap address)) (sym same_address)

    -- a field of an object
    field_stays : (address refs nums field : ℕ) (name : Name) → world.block address ≡ Some (thing name refs nums) → field < refs → heap (address + 3 + field) ≡ world.memory (Heap (address + 3 + field))
    field_stays address refs nums field name has_piece field_below =
        let same_address : address + 3 + field ≡ address + (3 + field) = omega arith in
        ap heap same_address ∙ fixed_stay address (3 + field) (thing name refs nums) refl has_piece (omega (arith, field_below)) ∙ ap (λ address. world.memory (Heap address)) (sym same_address)

    -- Machines share what they should, where new fillers have their headers, and the free words of the seat's buffer are as its word tells, which
    -- lies outside the collection set.
    pub shared_recut : (current : ℕ → ℕ) → ((address piece_words : ℕ) → new address ≡ Some (filler piece_words) → heap address ≡ filler_header piece_words) → AreBuffers config tops current after → AreBuffersOutside config (world.memory Cset) current
        → SharedFacts config tops heap after world.ghost world.graph.object world.graph.count (world.memory Phase) (world.memory Cset) (world.memory Evac) (world.memory Free) current (λ number. world.memory (Grey number)) (λ number. world.memory (Black number)) (λ mutator. world.memory (Count mutator))
        (λ mutator entry. world.memory (Buffer mutator entry)) (λ region. world.memory (Tams region)) (world.memory Claim) (λ region. world.memory (Limit region)) (world.memory Share) (λ mutator slot. world.memory (Pin mutator slot)) world.graph.pin
    shared_recut current headers buffers outside =
        let same_pieces = same_but_loose config tops world.block new seat cut_address words recut in
        record {
          parsable = parsable_again config tops world.block new seat cut_address words recut;
          contents = record {
            objects = record {
              each = λ address refs nums name has_piece.
                  let was_there = same_pieces.came address (thing name refs nums) refl has_piece in
                  let object_facts = shared.contents.objects.each address refs nums name was_there in
                  (object_facts.0, object_facts.1, object_reads (λ address. world.memory (Heap address)) heap world.block after address refs nums name object_facts.0 (λ offset offset_below. fixed_stay address offset (thing name refs nums) refl was_there offset_below) (names_stay config world.block after same_pieces) object_facts.2);
              once = λ address second_address refs nums second_refs second_nums name first_there second_there.
                  shared.contents.objects.once address second_address refs nums second_refs second_nums name (same_pieces.came address (thing name refs nums) refl first_there) (same_pieces.came second_address (thing name second_refs second_nums) refl second_there);
            };
            given = shared.contents.given;
          };
          owned = record {
            free_word = shared.owned.free_word;
            shared_one = shared.owned.shared_one;
            rooms = rooms_again config tops world.block new seat cut_address words recut;
            buffers = buffers;
            outside = outside;
          };
          phased = shared.phased;
          unwritten = record {
            blanks = λ address holder piece_words has_piece.
                let was_there = same_pieces.came address (promised holder piece_words) refl has_piece in
                blank_stays (λ address. world.memory (Heap address)) heap address piece_words (λ offset offset_below. fixed_stay address offset (promised holder piece_words) refl was_there offset_below) (shared.unwritten.blanks address holder piece_words was_there);
            headers = λ address piece_words has_piece.
                let was_there = same_pieces.came address (dead piece_words) refl has_piece in
                let long_enough = shared.parsable.deads address piece_words was_there in
                head_stays address (dead piece_words) refl was_there (omega (arith, long_enough)) ∙ shared.unwritten.headers address piece_words was_there;
            lengths = λ address piece_words has_piece.
                let was_there = same_pieces.came address (dead piece_words) refl has_piece in
                let long_enough = shared.parsable.deads address piece_words was_there in
                ap object_words (fixed_stay address 1 (dead piece_words) refl was_there (omega (arith, long_enough))) ∙ shared.unwritten.lengths address piece_words was_there;
            fillers = λ address piece_words has_piece. ⊎_elim
                (λ (old : ((address < cut_address) ⊎ (cut_address + words ≤ address)) × (world.block address ≡ Some (filler piece_words))). same_heap address old.0 ∙ shared.unwritten.fillers address piece_words old.1)
                (λ (in_stretch : (cut_address ≤ address) × (address < cut_address + words) × (new address ≡ Some (filler piece_words))). headers address piece_words in_stretch.2)
                (retiled_cases world.block new cut_address words address (filler piece_words) has_piece);
          };
          marked = marked_elsewhere config (world.memory Phase) (λ number. world.memory (Grey number)) (λ number. world.memory (Black number)) (λ mutator. world.memory (Count mutator)) (λ mutator entry. world.memory (Buffer mutator entry)) tops (λ region. world.memory (Tams region)) (λ address. world.memory (Heap address))
              after world.ghost.snapshot world.ghost.recording world.ghost.scanning
              (marked_loose config world.block after same_pieces (world.memory Phase) (λ number. world.memory (Grey number)) (λ number. world.memory (Black number)) (λ mutator. world.memory (Count mutator)) (λ mutator entry. world.memory (Buffer mutator entry)) tops tops (λ region. world.memory (Tams region))
              (λ address. world.memory (Heap address)) world.ghost.snapshot world.ghost.recording world.ghost.scanning shared.marked
              (λ phase_on. rooms_young config tops world.block new seat cut_address words recut world.ghost.snapshot.top (shared.marked.marking phase_on).young) shared.marked.floors)
              heap
              (λ address refs nums offset name has_piece offset_below. field_stays address refs nums offset name (same_pieces.came address (thing name refs nums) refl has_piece) offset_below);
          evacuated = evacuated_words config (world.memory Phase) (world.memory Cset) (world.memory Evac) (world.memory Claim) (world.memory Free) tops (λ region. world.memory (Tams region)) (λ address. world.memory (Heap address)) (λ number. world.memory (Black number)) after
              world.ghost.owner world.ghost.copying world.ghost.working
              (evacuated_loose config world.block after same_pieces (world.memory Phase) (world.memory Cset) (world.memory Evac) (world.memory Claim) (world.memory Free) tops tops (λ region. world.memory (Tams region)) (λ address. world.memory (Heap address)) (λ number. world.memory (Black number))
              world.ghost.owner world.ghost.copying world.ghost.working shared.evacuated
              (λ phase_on. rooms_young config tops world.block new seat cut_address words recut (λ region. world.memory (Tams region)) (shared.evacuated.kept phase_on).young)
              (rooms_outside config tops world.block new seat cut_address words recut (world.memory Cset) shared.evacuated.aside.no_rooms)
              (λ phase_on. (shared.evacuated.kept phase_on).floors) (λ given_region has_piece. refl))
              heap
              (λ address refs nums copy name has_piece.
              let was_there = same_pieces.came address (moved name refs nums copy) refl has_piece in (
                head_stays address (moved name refs nums copy) refl was_there (omega arith),
                fixed_stay address 1 (moved name refs nums copy) refl was_there (omega arith),
                fixed_stay address 2 (moved name refs nums copy) refl was_there (omega arith),
                λ offset field_below. subst (λ address. heap address ≡ world.memory (Heap address)) (let same_address : address + (3 + offset) ≡ address + 3 + offset = omega arith in same_address) (fixed_stay address (3 + offset) (moved name refs nums copy) refl was_there (omega (arith, field_below))),
              ))
              (λ address piece_words copy has_piece.
              let was_there = same_pieces.came address (spent piece_words copy) refl has_piece in
              let long_enough = shared.parsable.spents address piece_words copy was_there in
              (head_stays address (spent piece_words copy) refl was_there (omega (arith, long_enough)), fixed_stay address 1 (spent piece_words copy) refl was_there (omega (arith, long_enough))));
          updated = λ phase_on. updated_elsewhere config (world.memory Cset) (world.memory Claim) tops (λ region. world.memory (Limit region)) (λ address. world.memory (Heap address)) after world.ghost.scanning
              (updated_loose config world.block after same_pieces (world.memory Cset) (world.memory Claim) tops tops (λ region. world.memory (Limit region)) (λ address. world.memory (Heap address)) world.ghost.scanning (shared.updated phase_on)
              (rooms_young config tops world.block new seat cut_address words recut (λ region. world.memory (Limit region)) (shared.updated phase_on).young) (shared.updated phase_on).limits)
              heap
              (λ address refs nums offset name has_piece offset_below. field_stays address refs nums offset name (same_pieces.came address (thing name refs nums) refl has_piece) offset_below);
          pinned = pins_stay config (world.memory Cset) (world.memory Evac) (world.memory Cset) (world.memory Evac) world.block after (λ mutator slot. world.memory (Pin mutator slot)) world.graph.pin
              (λ address refs nums name has_object. record { piece = same_pieces.stays address (thing name refs nums) refl has_object.piece; safe = has_object.safe }) shared.pinned;
        }

  module _ (memory : Word → ℕ) (other_words_stay : (word : Word) → is_of_room word ≡ false → memory word ≡ world.memory word) (heap : (asked_address : ℕ) → (asked_address < cut_address) ⊎ (cut_address + words ≤ asked_address) → memory (Heap asked_address) ≡ world.memory (Heap asked_address)) where
    -- the world after the step
    abbrev pub recut_world : World
    recut_world = record { memory = memory; block = after; ghost = world.ghost; graph = world.graph }

    -- the shape of what can be marked stays
    shapes_stay : (address : ℕ) → IsMarkable world.block address → memory (Heap (address + 1)) ≡ world.memory (Heap (address + 1))
    shapes_stay address (IsMarkable.object name refs nums has_piece) = fixed_stay (λ address. memory (Heap address)) heap address 1 (thing name refs nums) refl has_piece (omega arith)
    shapes_stay address (IsMarkable.to_come holder piece_words has_piece) =
        fixed_stay (λ address. memory (Heap address)) heap address 1 (promised holder piece_words) refl has_piece (let long_enough = shared.parsable.promises address holder piece_words has_piece in omega (arith, long_enough))

    -- marking goes on
    marks_recut : (other_seat : ℕ) → RelyMarks config other_seat world recut_world
    marks_recut other_seat = rely_marks config world recut_world other_seat (other_words_stay Phase refl) (λ number. other_words_stay (Grey number) refl) (λ mutator. other_words_stay (Count mutator) refl) (λ mutator entry. other_words_stay (Buffer mutator entry) refl) refl (λ t. refl) refl
        (markable_loose config world.block after (same_but_loose config tops world.block new seat cut_address words recut)) shapes_stay

    -- copies stay
    copies_recut : CopiesStay config world recut_world
    copies_recut =
        let same_pieces = same_but_loose config tops world.block new seat cut_address words recut in
        record {
          cset = other_words_stay Cset refl;
          evac = other_words_stay Evac refl;
          things = λ address refs nums name known_fact. same_pieces.stays address (thing name refs nums) refl known_fact;
          moveds = λ address refs nums to name known_fact. same_pieces.stays address (moved name refs nums to) refl known_fact;
          spents = λ address piece_words to known_fact. same_pieces.stays address (spent piece_words to) refl known_fact;
          pieces = λ address piece address_collected known_fact. ⊎_elim
              (λ (address_before : address < cut_address). (piece, piece_stays address piece (inl address_before) known_fact, refl, refl))
              (λ (from : cut_address ≤ address). ⊎_elim
              (λ (to : address < cut_address + words). absurd (shared.evacuated.aside.no_rooms address seat piece known_fact (recut.olds address piece from to known_fact) address_collected))
              (λ (address_beyond : cut_address + words ≤ address). (piece, piece_stays address piece (inr address_beyond) known_fact, refl, refl))
              (cases_lt address (cut_address + words)))
              (cases_lt address cut_address);
          no_new = λ address refs nums name address_collected known_fact. same_pieces.came address (thing name refs nums) refl known_fact;
          tops = λ region known_fact. other_words_stay (Top region) refl;
        }
      where
        piece_stays : (address : ℕ) (piece : Block) → (address < cut_address) ⊎ (cut_address + words ≤ address) → world.block address ≡ Some piece → after address ≡ Some piece
        piece_stays address piece away has_piece = retiled_else world.block new cut_address words address away ∙ has_piece

    -- an object may be used still
    targets_recut : (address refs nums : ℕ) (name : Name) → TargetIn config world address refs nums name → TargetIn config recut_world address refs nums name
    targets_recut address refs nums name has_target = record {
      piece = (same_but_loose config tops world.block new seat cut_address words recut).stays address (thing name refs nums) refl has_target.piece;
      safe = λ target_collected. subst IsQuiet (sym (other_words_stay Evac refl)) (has_target.safe (subst (λ cset. IsCollected config cset address) (other_words_stay Cset refl) target_collected));
    }

    -- the facts of the seat's machine stand
    pub keeps_recut : Keeps config seat world recut_world
    keeps_recut =
        let same_pieces = same_but_loose config tops world.block new seat cut_address words recut in
        record {
          names = names_stay config world.block after same_pieces;
          targets = targets_recut;
          promises = λ asked_address piece_words has_piece. same_pieces.stays asked_address (promised seat piece_words) refl has_piece;
          no_promises = λ address piece_words has_piece. same_pieces.came address (promised seat piece_words) refl has_piece;
          promise_words = λ address piece_words offset has_piece offset_below. fixed_stay (λ address. memory (Heap address)) heap address offset (promised seat piece_words) refl has_piece offset_below;
          root_words = λ index. other_words_stay (Root seat index) refl;
          roots = λ i. refl;
          pin_words = λ index. other_words_stay (Pin seat index) refl;
          pins = λ i. refl;
          count = refl;
          wait = other_words_stay (Wait seat) refl;
          answer = other_words_stay (Answer seat) refl;
          marks = (marks_recut seat).keeps;
          copies = keeps_copies config world recut_world copies_recut;
        }

    -- the words of a copy stay
    copy_words : (address offset : ℕ) (body : Body) → body_at (world.block address) ≡ Some body → offset < body_words body → memory (Heap (address + offset)) ≡ world.memory (Heap (address + offset))
    copy_words address offset body has_body offset_below = ⊎_elim
        (λ object_there. fixed_stay (λ address. memory (Heap address)) heap address offset (thing body.name body.refs body.nums) refl object_there offset_below)
        (λ moved_there. fixed_stay (λ address. memory (Heap address)) heap address offset (moved body.name body.refs body.nums moved_there.0) refl moved_there.1 offset_below)
        (copy_cases (world.block address) body has_body)

    -- room of another seat has no word of the stretch
    room_words : (other_seat address offset : ℕ) (piece : Block) → other_seat ≢ seat → world.block address ≡ Some piece → room_of piece ≡ Some other_seat → offset < words_of piece → memory (Heap (address + offset)) ≡ world.memory (Heap (address + offset))
    room_words other_seat address offset piece differ has_piece room_is offset_below = heap (address + offset) (⊎_elim
        (λ (address_before : address < cut_address). let pieces_apart = recut.parsable.plotted.apart address cut_address piece recut.stretch.first has_piece recut.stretch.begins address_before in inl (omega (arith, pieces_apart, offset_below)))
        (λ (from : cut_address ≤ address). ⊎_elim
        (λ (below_end : address < cut_address + words). absurd (differ (same_Some other_seat seat (sym room_is ∙ recut.olds address piece from below_end has_piece))))
        (λ (address_beyond : cut_address + words ≤ address). inr (omega (arith, address_beyond)))
        (cases_lt address (cut_address + words)))
        (cases_lt address cut_address))

    -- words that only fill lie outside the stretch, and stay
    filler_stays : (address filler_words : ℕ) → world.block address ≡ Some (filler filler_words) → after address ≡ Some (filler filler_words)
    filler_stays address filler_words has_filler = ⊎_elim
        (λ (address_before : address < cut_address). retiled_else world.block new cut_address words address (inl address_before) ∙ has_filler)
        (λ (from : cut_address ≤ address). ⊎_elim
        (λ (below_end : address < cut_address + words). absurd (none-some seat (recut.olds address (filler filler_words) from below_end has_filler)))
        (λ (address_beyond : cut_address + words ≤ address). retiled_else world.block new cut_address words address (inr address_beyond) ∙ has_filler)
        (cases_lt address (cut_address + words)))
        (cases_lt address cut_address)

    -- others can rely on what they knew
    pub others_recut : ((s : ℕ) → s ≢ seat → memory (Current s) ≡ world.memory (Current s)) → (other_seat : ℕ) → other_seat ≢ seat → Rely config other_seat world recut_world
    others_recut currents other_seat differ =
        let same_pieces = same_but_loose config tops world.block new seat cut_address words recut in
        record {
          names = names_stay config world.block after same_pieces;
          targets = targets_recut;
          rooms = λ asked_address asked_piece known_fact room. others_stay config tops world.block new seat cut_address words recut asked_address other_seat asked_piece differ known_fact room;
          no_rooms = λ asked_address asked_piece known_fact room. others_room config tops world.block new seat cut_address words recut asked_address other_seat asked_piece differ known_fact room;
          room_words = λ address offset piece known_fact room offset_below. room_words other_seat address offset piece differ known_fact room offset_below;
          promises = λ asked_address piece_words known_fact. same_pieces.stays asked_address (promised other_seat piece_words) refl known_fact;
          no_promises = λ address piece_words known_fact. same_pieces.came address (promised other_seat piece_words) refl known_fact;
          promise_words = λ address piece_words offset known_fact offset_below. fixed_stay (λ address. memory (Heap address)) heap address offset (promised other_seat piece_words) refl known_fact offset_below;
          current = currents other_seat differ;
          opens = λ given_region known_fact. record {
            within = known_fact.within;
            in_use = λ region_inside. known_fact.in_use (subst (λ s. IsIn s given_region) (other_words_stay Free refl) region_inside);
            nobodys = known_fact.nobodys;
            outside = λ region_inside. known_fact.outside (subst (λ s. IsIn s given_region) (other_words_stay Cset refl) region_inside);
          };
          owners = λ region known_fact. known_fact;
          tops = λ region known_fact. other_words_stay (Top region) refl;
          root_words = λ index. other_words_stay (Root other_seat index) refl;
          roots = λ i. refl;
          pin_words = λ index. other_words_stay (Pin other_seat index) refl;
          pins = λ i. refl;
          count = refl;
          wait = other_words_stay (Wait other_seat) refl;
          answer = other_words_stay (Answer other_seat) refl;
          state = other_words_stay (State other_seat) refl;
          asked = λ known_fact. ap (λ ask_bits. bit_at ask_bits 1) (other_words_stay Ask refl) ∙ known_fact;
          marks = marks_recut other_seat;
          copies = rely_copies config world recut_world other_seat copies_recut refl refl (λ address offset body seated counted region_inside known_fact from offset_below. copy_words address offset body known_fact offset_below);
          fields = fields_stored config world recut_world (λ region. other_words_stay (Tams region) refl) (λ region. other_words_stay (Limit region) refl) (other_words_stay Claim refl) (λ asked_address piece_words known_fact. same_pieces.stays asked_address (dead piece_words) refl known_fact) (λ address piece_words known_fact. filler_stays address piece_words known_fact)
              (λ phase_on other_nums refs nums offset name known_fact offset_below. inl (field_stays (λ address. memory (Heap address)) heap other_nums refs nums offset name known_fact offset_below));
        }
