-- An object is made for a thread that waits: the image stands for the graph with one promise more.
use Rattle.std.proofs.Common.{◌≡◌, ◌≢◌, ℕ, ◌+◌, ◌<◌, ◌≤◌, ◌⊎◌, ◌==◌, ◌&&◌, inl, inr, true, false, zero, suc, cond, nat_le, nat_lt, replicate, slice_get, Option, Some, None, ⊎_elim, refl, sym, ap, ◌∙◌, subst, arith, w64}
use Rattle.std.specs.Prelude.{bit_and}
use Rattle.std.specs.Int.{bit_at}
use Rattle.std.proofs.lemmas.Bool.{cond-true, cond-false, cases_Bool, cases_eq, eq-eqb, ne_eqb, and_from, and_left, and_right, le-leb, lt-leb, lt-ltb, le-ltb}
use Rattle.std.proofs.lemmas.List.{length-replicate}
use Rattle.std.proofs.lemmas.Nat.Bits.{bit_at_clear_same}
use Rattle.std.proofs.lemmas.Option.{none-some, same_Some, slice_get_within}
use Rattle.heap_words.specs.declared.config.Config.{Config}
use Rattle.heap_words.specs.Words.{Word, Free, Top, Root, Pin, Wait, Answer, Heap}
use Rattle.heap_words.specs.Encoding.{plain_header, is_forwarded, object_words, refs_in, nums_in, shape_word, name_code, request_count_in, request_shape_in}
use Rattle.regions.specs.Place.{base_of}
use Rattle.regions.specs.Sets.{all_but}
use Rattle.shen_graph.specs.declared.name.Name.{Name}
use Rattle.shen_graph.specs.Graph.{Graph, Object, Reference, blank, same_name, same_reference}
use Rattle.shen_graph.proofs.PlainLemmas.{same_name-true, same_name-itself}
use Rattle.heap_world.specs.World.{Block, thing, hand, promised, carved, filler, words_of, Plot, name_at, Points, IsPlotted, IsThing, AreObjects, IsFreeWord}
use Rattle.heap_world.proofs.FunctionUpdates.{updated, updated_else, updated_there}
use Rattle.heap_world.proofs.Keeping.{points_stay}
use Rattle.heap_world.proofs.Pointing.{named_piece}
use Rattle.heap_world.proofs.Pieces.{beside, piece_cases, object_reads}
use Rattle.heap_world.proofs.FreeRegions.{free_without}
use Rattle.heap_world.proofs.Joined as joined
use Rattle.heap_world.proofs.Joined.{CanJoin}
use Rattle.image_graph.specs.Held.{IsCopy}
use Rattle.image_graph.specs.Plot.{AreThings, FillersSay, NamedAreThings}
use Rattle.image_graph.proofs.Named.{named_things}
use Rattle.image_graph.proofs.HeldRoots.{pin_stays}
use Rattle.image_graph.specs.Full.{made_word, made_in}
use Rattle.image_graph.specs.Promised.{Promises, with_promised}
use Rattle.image_graph.specs.Image.{AnswerStands, PinWordStands, RootsStand, ImageStands}
use Rattle.image_graph.specs.Serving.{asked_shape, asked_name, asked_piece, made_block, made_promise, IsAsking}

-- the words of a new object, and the others
pub outside_fresh : (address shape name before asked_address : ℕ) → (asked_address < address) ⊎ (address + object_words shape ≤ asked_address) → made_word address shape name before asked_address ≡ before
outside_fresh address shape name before asked_address outside =
    cond-false (nat_le address asked_address && nat_lt asked_address (address + object_words shape)) (cond (address == asked_address) plain_header (cond (address + 1 == asked_address) shape (cond (address + 2 == asked_address) name 0))) before
    (⊎_elim
    (λ (low : asked_address < address). and_left (nat_le address asked_address) (nat_lt asked_address (address + object_words shape)) (lt-leb address asked_address low))
    (λ (high : address + object_words shape ≤ asked_address). and_right (nat_le address asked_address) (nat_lt asked_address (address + object_words shape)) (le-ltb asked_address (address + object_words shape) high))
    outside)

inside_fresh : (address shape name before asked_address : ℕ) → address ≤ asked_address → asked_address < address + object_words shape
    → made_word address shape name before asked_address ≡ cond (address == asked_address) plain_header (cond (address + 1 == asked_address) shape (cond (address + 2 == asked_address) name 0))
inside_fresh address shape name before asked_address low high =
    cond-true (nat_le address asked_address && nat_lt asked_address (address + object_words shape)) (cond (address == asked_address) plain_header (cond (address + 1 == asked_address) shape (cond (address + 2 == asked_address) name 0))) before
    (and_from (nat_le address asked_address) (nat_lt asked_address (address + object_words shape)) (le-leb address asked_address low) (lt-ltb asked_address (address + object_words shape) high))

pub fresh_header : (address shape name before : ℕ) → made_word address shape name before address ≡ plain_header
fresh_header address shape name before =
    inside_fresh address shape name before address (omega arith) (omega arith)
    ∙ cond-true (address == address) plain_header (cond (address + 1 == address) shape (cond (address + 2 == address) name 0)) (eq-eqb address address refl)

pub fresh_shape : (address shape name before : ℕ) → made_word address shape name before (address + 1) ≡ shape
fresh_shape address shape name before =
    inside_fresh address shape name before (address + 1) (omega arith) (omega arith)
    ∙ cond-false (address == address + 1) plain_header (cond (address + 1 == address + 1) shape (cond (address + 2 == address + 1) name 0)) (ne_eqb address (address + 1) (λ same_address. omega (arith, same_address)))
    ∙ cond-true (address + 1 == address + 1) shape (cond (address + 2 == address + 1) name 0) (eq-eqb (address + 1) (address + 1) refl)

fresh_name : (address shape name before : ℕ) → made_word address shape name before (address + 2) ≡ name
fresh_name address shape name before =
    inside_fresh address shape name before (address + 2) (omega arith) (omega arith)
    ∙ cond-false (address == address + 2) plain_header (cond (address + 1 == address + 2) shape (cond (address + 2 == address + 2) name 0)) (ne_eqb address (address + 2) (λ same_address. omega (arith, same_address)))
    ∙ cond-false (address + 1 == address + 2) shape (cond (address + 2 == address + 2) name 0) (ne_eqb (address + 1) (address + 2) (λ same_address. omega (arith, same_address)))
    ∙ cond-true (address + 2 == address + 2) name 0 (eq-eqb (address + 2) (address + 2) refl)

pub fresh_field : (address shape name before asked_address : ℕ) → address + 3 ≤ asked_address → asked_address < address + object_words shape → made_word address shape name before asked_address ≡ 0
fresh_field address shape name before asked_address low high =
    inside_fresh address shape name before asked_address (omega (arith, low)) high
    ∙ cond-false (address == asked_address) plain_header (cond (address + 1 == asked_address) shape (cond (address + 2 == asked_address) name 0)) (ne_eqb address asked_address (λ same_address. omega (arith, same_address, low)))
    ∙ cond-false (address + 1 == asked_address) shape (cond (address + 2 == asked_address) name 0) (ne_eqb (address + 1) asked_address (λ same_address. omega (arith, same_address, low)))
    ∙ cond-false (address + 2 == asked_address) name 0 (ne_eqb (address + 2) asked_address (λ same_address. omega (arith, same_address, low)))

-- an element of a list of equal ones
blank_element : {X : Type 0} (count index : ℕ) (element found_element : X) → slice_get (replicate count element) index ≡ Some found_element → element ≡ found_element
blank_element zero index element found_element element_there = absurd (none-some found_element element_there)
blank_element (suc count) zero element found_element element_there = same_Some element found_element element_there
blank_element (suc count) (suc index) element found_element element_there = blank_element count index element found_element element_there

-- two names that differ
differ : (name second_name : Name) → name ≢ second_name → same_name name second_name ≡ false
differ name second_name names_apart = ⊎_elim (λ (same_test : same_name name second_name ≡ true). absurd (names_apart (same_name-true name second_name same_test))) (λ (same_test : same_name name second_name ≡ false). same_test) (cases_Bool (same_name name second_name))

-- what the words at an address are as a piece
abbrev PieceAt : (ℕ → ℕ) → Plot → (Name → Option Object) → ℕ → Block → Type 0
PieceAt heap block object address (thing name refs nums) = (its_object : Object) × (object name ≡ Some its_object) × IsThing heap block address refs nums name its_object
PieceAt heap block object address _ = Unit {0}

-- What making an object stands on: the pieces that stand for a name are objects, and roots and answers stand for what they should.
pub record CanMake (config : Config) (memory : Word → ℕ) (block : Plot) (graph : Graph) (promises : Promises) : Type 0 where
  pub plotted : IsPlotted config (λ region. memory (Top region)) block
  pub pieces : NamedAreThings block
  pub rooted : RootsStand config memory block graph promises

pub can_make : (config : Config) (memory : Word → ℕ) (block : Plot) (graph : Graph) (promises : Promises) → ImageStands config memory block graph promises → CanMake config memory block graph promises
can_make config memory block graph promises stands = record { plotted = stands.plotted; pieces = named_things block stands.things; rooted = stands.rooted }

module _ (config : Config) (memory : Word → ℕ) (block : Plot) (graph : Graph) (promises : Promises) (stands : CanMake config memory block graph promises) (asker made_region : ℕ) (inside : asker < config.mutators)
    (asking : IsAsking memory graph promises asker) (within : made_region < config.regions) (room : memory (Top made_region) + object_words (asked_shape memory asker) ≤ config.region_words) where
  abbrev top : ℕ → ℕ
  top region = memory (Top region)

  abbrev heap : ℕ → ℕ
  heap address = memory (Heap address)

  abbrev address : ℕ
  address = base_of config made_region + memory (Top made_region)

  abbrev piece : Block
  piece = asked_piece memory asker

  abbrev new : Name
  new = asked_name memory asker

  abbrev new_block : Plot
  new_block = made_block config memory block asker (Some made_region)

  abbrev more : Promises
  more = made_promise memory promises asker (Some made_region)

  abbrev after : Word → ℕ
  after = made_in config memory asker made_region

  pub can : CanJoin config top block made_region (memory (Top made_region)) piece
  can = record {
    plotted = stands.plotted;
    long = stands.pieces.some;
    within = within;
    top_is = refl;
    room = room;
    some = omega arith;
  }

  pub names_stay : (address : ℕ) (name : Name) → name_at (block address) ≡ Some name → name_at (new_block address) ≡ Some name
  names_stay = joined.names_stay config top block made_region (memory (Top made_region)) piece can

  -- the thread was promised nothing
  promised_nothing : promises.ref (asker + 1) ≡ None
  promised_nothing = ⊎_elim
      (λ (nothing_stands : (memory (Answer asker) ≤ 1) × (promises.ref (asker + 1) ≡ None)). nothing_stands.1)
      (λ (object_stands : (1 < memory (Answer asker)) × (name : Name) × (promises.ref (asker + 1) ≡ Some name) × (name_at (block (memory (Answer asker))) ≡ Some name)). absurd (omega (arith, object_stands.0, asking.unanswered)))
      (stands.rooted.answers asker inside)

  -- the new object is one of the graph with the new promise
  new_object : (with_promised graph more).object new ≡ Some (blank (refs_in (asked_shape memory asker)) (nums_in (asked_shape memory asker)))
  new_object =
      let own_thread : asker + 1 == asker + 1 ≡ true = eq-eqb (asker + 1) (asker + 1) refl in
      let ref : more.ref (asker + 1) ≡ Some new = cond-true (asker + 1 == asker + 1) (Some new) (promises.ref (asker + 1)) own_thread in
      let refs : more.refs (asker + 1) ≡ refs_in (asked_shape memory asker) = cond-true (asker + 1 == asker + 1) (refs_in (asked_shape memory asker)) (promises.refs (asker + 1)) own_thread in
      let nums : more.nums (asker + 1) ≡ nums_in (asked_shape memory asker) = cond-true (asker + 1 == asker + 1) (nums_in (asked_shape memory asker)) (promises.nums (asker + 1)) own_thread in
      cond-true (same_reference (more.ref (asker + 1)) (Some new)) (Some (blank (more.refs (asker + 1)) (more.nums (asker + 1)))) (graph.object new)
      (ap (λ value. same_reference value (Some new)) ref ∙ same_name-itself new)
      ∙ ap (λ value. Some (blank value (more.nums (asker + 1)))) refs ∙ ap (λ value. Some (blank (refs_in (asked_shape memory asker)) value)) nums

  -- an object of another thread's name is as it was
  same_object : (name : Name) → asker + 1 ≢ name.thread → (with_promised graph more).object name ≡ (with_promised graph promises).object name
  same_object name another =
      let test : (asker + 1 == name.thread) ≡ false = ne_eqb (asker + 1) name.thread another in
      let ref : more.ref name.thread ≡ promises.ref name.thread = cond-false (asker + 1 == name.thread) (Some new) (promises.ref name.thread) test in
      let refs : more.refs name.thread ≡ promises.refs name.thread = cond-false (asker + 1 == name.thread) (refs_in (asked_shape memory asker)) (promises.refs name.thread) test in
      let nums : more.nums name.thread ≡ promises.nums name.thread = cond-false (asker + 1 == name.thread) (nums_in (asked_shape memory asker)) (promises.nums name.thread) test in
      ap (λ value. cond (same_reference value (Some name)) (Some (blank (more.refs name.thread) (more.nums name.thread))) (graph.object name)) ref
      ∙ ap (λ value. cond (same_reference (promises.ref name.thread) (Some name)) (Some (blank value (more.nums name.thread))) (graph.object name)) refs
      ∙ ap (λ value. cond (same_reference (promises.ref name.thread) (Some name)) (Some (blank (promises.refs name.thread) value)) (graph.object name)) nums

  -- and the old ones are as they were
  object_stays : (name : Name) (object : Object) → (with_promised graph promises).object name ≡ Some object → (with_promised graph more).object name ≡ Some object
  object_stays name object old_object = ⊎_elim
      (λ (own_thread : asker + 1 ≡ name.thread).
      let old_ref : promises.ref name.thread ≡ None = ap promises.ref (sym own_thread) ∙ promised_nothing in
      let old : graph.object name ≡ Some object =
      sym (cond-false (same_reference (promises.ref name.thread) (Some name)) (Some (blank (promises.refs name.thread) (promises.nums name.thread))) (graph.object name) (ap (λ reference. same_reference reference (Some name)) old_ref)) ∙ old_object in
      let other_name : new ≢ name = λ same_names. none-some object (sym asking.new ∙ ap (with_promised graph promises).object same_names ∙ old_object) in
      let ref : more.ref name.thread ≡ Some new = cond-true (asker + 1 == name.thread) (Some new) (promises.ref name.thread) (eq-eqb (asker + 1) name.thread own_thread) in
      cond-false (same_reference (more.ref name.thread) (Some name)) (Some (blank (more.refs name.thread) (more.nums name.thread))) (graph.object name)
      (ap (λ reference. same_reference reference (Some name)) ref ∙ differ new name other_name) ∙ old)
      (λ (another : asker + 1 ≢ name.thread). same_object name another ∙ old_object)
      (cases_eq (asker + 1) name.thread)

  -- the words of old pieces stay
  pub old_word : (address offset : ℕ) (piece : Block) → block address ≡ Some piece → offset < words_of piece → after (Heap (address + offset)) ≡ heap (address + offset)
  unfolding made_in
  old_word piece_address offset piece piece_there offset_below =
      outside_fresh address (asked_shape memory asker) (name_code (asker + 1) (request_count_in (memory (Wait asker)))) (heap (piece_address + offset)) (piece_address + offset)
      (⊎_elim
      (λ before. inl (omega (arith, before, offset_below)))
      (λ rest. ⊎_elim
      (λ (region_of_piece : (base_of config made_region ≤ piece_address) × (piece_address + words_of piece ≤ address)). inl (omega (arith, region_of_piece.1, offset_below)))
      (λ (behind_region : base_of config made_region + config.region_words ≤ piece_address). inr (omega (arith, behind_region, room)))
      rest)
      (beside config top block stands.plotted made_region piece_address piece piece_there))

  -- the new words are a blank object
  pub new_words : IsThing (λ address. after (Heap address)) new_block address (refs_in (asked_shape memory asker)) (nums_in (asked_shape memory asker)) new (blank (refs_in (asked_shape memory asker)) (nums_in (asked_shape memory asker)))
  unfolding made_in
  new_words =
      let shape = asked_shape memory asker in
      let name = name_code (asker + 1) (request_count_in (memory (Wait asker))) in
      let null : Reference = None in
      let blank_number : ℕ = 0 in
      record {
        header = fresh_header address shape name (heap address);
        shape = fresh_shape address shape name (heap (address + 1)) ∙ asking.shape;
        name_word = fresh_name address shape name (heap (address + 2));
        few_refs = asking.few_refs;
        few_nums = asking.few_nums;
        refs_are = length-replicate (refs_in shape) null;
        nums_are = length-replicate (nums_in shape) blank_number;
        references = λ index reference element_there.
            let index_below : index < refs_in shape = (let index_within = slice_get_within (replicate (refs_in shape) null) index reference element_there in let list_length = length-replicate (refs_in shape) null in omega (arith, index_within, list_length)) in
            let word : made_word address shape name (heap (address + 3 + index)) (address + 3 + index) ≡ 0 = fresh_field address shape name (heap (address + 3 + index)) (address + 3 + index) (omega arith) (omega (arith, index_below)) in
            subst (Points new_block (made_word address shape name (heap (address + 3 + index)) (address + 3 + index))) (blank_element (refs_in shape) index null reference element_there) word;
        numbers = λ index number element_there.
            let index_below : index < nums_in shape = (let index_within = slice_get_within (replicate (nums_in shape) blank_number) index number element_there in let list_length = length-replicate (nums_in shape) blank_number in omega (arith, index_within, list_length)) in
            fresh_field address shape name (heap (address + 3 + refs_in shape + index)) (address + 3 + refs_in shape + index) (omega arith) (omega (arith, index_below)) ∙ blank_element (nums_in shape) index blank_number number element_there;
      }

  -- a piece is the new one or an old one
  pub cases : (place : ℕ) (standing : Block) → new_block place ≡ Some standing → ((place ≡ address) × (piece ≡ standing)) ⊎ ((place ≢ address) × (block place ≡ Some standing))
  cases place standing piece_then = piece_cases block address piece place standing piece_then

  -- the new piece is a blank object, ..
  pub new_piece : (place refs nums : ℕ) (name : Name) → (place ≡ address) × (piece ≡ thing name refs nums)
      → (object : Object) × ((with_promised graph more).object name ≡ Some object) × IsThing (λ address. after (Heap address)) new_block place refs nums name object
  new_piece place refs nums name made =
      subst (λ some_address. PieceAt (λ address. after (Heap address)) new_block (with_promised graph more).object some_address (thing name refs nums)) (sym made.0)
      (subst (PieceAt (λ address. after (Heap address)) new_block (with_promised graph more).object address) made.1
      (blank (refs_in (asked_shape memory asker)) (nums_in (asked_shape memory asker)), new_object, new_words))

  -- .. of the new name, and an old one is the object that it was
  pub new_name : (name : Name) (refs nums : ℕ) → piece ≡ thing name refs nums → new ≡ name
  new_name name refs nums same_piece = same_Some new name (ap (λ some_piece. name_at (Some some_piece)) same_piece)

  pub old_piece : (address refs nums : ℕ) (name : Name) → block address ≡ Some (thing name refs nums)
      → (object : Object) × ((with_promised graph promises).object name ≡ Some object) × IsThing heap block address refs nums name object
      → (object : Object) × ((with_promised graph more).object name ≡ Some object) × IsThing (λ address. after (Heap address)) new_block address refs nums name object
  old_piece address refs nums name thing_there object = (
    object.0,
    object_stays name object.0 object.1,
    object_reads heap (λ address. after (Heap address)) block new_block address refs nums name object.0 (λ offset offset_below. old_word address offset (thing name refs nums) thing_there offset_below) names_stay object.2,
  )

  pub named_again : (address : ℕ) (name : Name) → name_at (new_block address) ≡ Some name → (refs : ℕ) × (nums : ℕ) × (new_block address ≡ Some (thing name refs nums))
  named_again place name named_then =
      let thing_there = named_piece (new_block place) name named_then in
      ⊎_elim
      (λ (made : (place ≡ address) × (piece ≡ thing_there.0)).
      let same_names : new ≡ name = same_Some new name (ap name_at (ap Some made.1) ∙ thing_there.2) in (
        refs_in (asked_shape memory asker),
        nums_in (asked_shape memory asker),
        thing_there.1 ∙ ap Some (sym made.1) ∙ ap (λ name. Some (thing name (refs_in (asked_shape memory asker)) (nums_in (asked_shape memory asker)))) same_names,
      ))
      (λ (old : (place ≢ address) × (block place ≡ Some thing_there.0)).
      let old_thing = stands.pieces.named place name (ap name_at old.1 ∙ thing_there.2) in
      (old_thing.0, old_thing.1, thing_there.1 ∙ sym old.1 ∙ old_thing.2))
      (cases place thing_there.0 thing_there.1)

  pub pieces_again : NamedAreThings new_block
  pieces_again = record {
    named = named_again;
    unpromised = λ place seat words piece_then. ⊎_elim
        (λ (made : (place ≡ address) × (piece ≡ promised seat words)). absurd (let same_piece = made.1 in cc))
        (λ (old : (place ≢ address) × (block place ≡ Some (promised seat words))). stands.pieces.unpromised place seat words old.1)
        (cases place (promised seat words) piece_then);
    unheld = λ place seat words piece_then. ⊎_elim
        (λ (made : (place ≡ address) × (piece ≡ hand seat words)). absurd (let same_piece = made.1 in cc))
        (λ (old : (place ≢ address) × (block place ≡ Some (hand seat words))). stands.pieces.unheld place seat words old.1)
        (cases place (hand seat words) piece_then);
    uncarved = λ place seat words piece_then. ⊎_elim
        (λ (made : (place ≡ address) × (piece ≡ carved seat words)). absurd (let same_piece = made.1 in cc))
        (λ (old : (place ≢ address) × (block place ≡ Some (carved seat words))). stands.pieces.uncarved place seat words old.1)
        (cases place (carved seat words) piece_then);
    some = λ place standing piece_then. ⊎_elim
        (λ (made : (place ≡ address) × (piece ≡ standing)). let same_words = ap words_of made.1 in omega (arith, same_words))
        (λ (old : (place ≢ address) × (block place ≡ Some standing)). stands.pieces.some place standing old.1)
        (cases place standing piece_then);
  }

  pub free_less : (owner : ℕ → Option ℕ) → IsFreeWord config (memory Free) top owner → IsFreeWord config (bit_and (memory Free) (all_but made_region)) (updated top made_region (memory (Top made_region) + words_of piece)) owner
  free_less owner free_word =
      let fewer_free = free_without config (memory Free) made_region top owner owner within (λ asked_region other_region. refl) free_word in
      let few = config.in_range.most_regions in
      record {
        no_more = fewer_free.no_more;
        empty = λ asked_region region_below bit.
            let other_region : made_region ≢ asked_region = λ same_region.
            let bit_gone = bit_at_clear_same w64 (memory Free) made_region (omega (arith, within, few)) in
            let bit_there : bit_at (bit_and (memory Free) (all_but made_region)) made_region ≡ 1 = subst (λ some_region. bit_at (bit_and (memory Free) (all_but made_region)) some_region ≡ 1) (sym same_region) bit in
            omega (arith, bit_gone, bit_there)
            in
            updated_else top made_region (memory (Top made_region) + words_of piece) asked_region other_region ∙ fewer_free.empty asked_region region_below bit;
        nobodys = fewer_free.nobodys;
      }

  -- an answer of another thread stands for what it stood for
  other_answer : (word : ℕ) (ref : Reference) → AnswerStands block word ref → AnswerStands new_block word ref
  other_answer word ref stands_for = ⊎_elim
      (λ (nothing_stands : (word ≤ 1) × (ref ≡ None)). inl nothing_stands)
      (λ (object_stands : (1 < word) × (name : Name) × (ref ≡ Some name) × (name_at (block word) ≡ Some name)). inr (object_stands.0, object_stands.1, object_stands.2, names_stay word object_stands.1 object_stands.3))
      stands_for

  answers_more : (mutator : ℕ) → mutator < config.mutators → AnswerStands new_block (after (Answer mutator)) (more.ref (mutator + 1))
  unfolding made_in
  answers_more mutator mutator_below = ⊎_elim
      (λ (own_answer : asker ≡ mutator).
      let answer : cond (asker == mutator) address (memory (Answer mutator)) ≡ address = cond-true (asker == mutator) address (memory (Answer mutator)) (eq-eqb asker mutator own_answer) in
      let ref : more.ref (mutator + 1) ≡ Some new = cond-true (asker + 1 == mutator + 1) (Some new) (promises.ref (mutator + 1)) (eq-eqb (asker + 1) (mutator + 1) (ap (λ answer_value. answer_value + 1) own_answer)) in
      let piece_there : new_block address ≡ Some piece = updated_there block address (Some piece) in
      inr (omega (arith, answer, config.in_range.least_words), new, ref, ap (λ answer_value. name_at (new_block answer_value)) answer ∙ ap name_at piece_there))
      (λ (another : asker ≢ mutator).
      let answer : cond (asker == mutator) address (memory (Answer mutator)) ≡ memory (Answer mutator) = cond-false (asker == mutator) address (memory (Answer mutator)) (ne_eqb asker mutator another) in
      let ref : more.ref (mutator + 1) ≡ promises.ref (mutator + 1) = cond-false (asker + 1 == mutator + 1) (Some new) (promises.ref (mutator + 1)) (ne_eqb (asker + 1) (mutator + 1) (λ same_mutator. another (omega (arith, same_mutator)))) in
      subst (λ answer_value. AnswerStands new_block answer_value (more.ref (mutator + 1))) (sym answer)
      (subst (AnswerStands new_block (memory (Answer mutator))) (sym ref) (other_answer (memory (Answer mutator)) (promises.ref (mutator + 1)) (stands.rooted.answers mutator mutator_below))))
      (cases_eq asker mutator)

  promised_to : (thread : ℕ) (name : Name) → more.ref thread ≡ Some name → (mutator : ℕ) × (mutator < config.mutators) × (thread ≡ mutator + 1)
  promised_to thread name thread_promised = ⊎_elim
      (λ (own_thread : asker + 1 ≡ thread). (asker, inside, sym own_thread))
      (λ (another : asker + 1 ≢ thread).
      stands.rooted.no_more_promised thread name (sym (cond-false (asker + 1 == thread) (Some new) (promises.ref thread) (ne_eqb (asker + 1) thread another)) ∙ thread_promised))
      (cases_eq (asker + 1) thread)

  roots_more : (mutator index : ℕ) → mutator < config.mutators → index < 16 → Points new_block (after (Root mutator index)) (graph.root (mutator + 1) index)
  unfolding made_in
  roots_more mutator index mutator_below few = points_stay block new_block names_stay (memory (Root mutator index)) (graph.root (mutator + 1) index) (stands.rooted.roots mutator index mutator_below few)

  -- the header of an old piece is as it was
  old_header : (address : ℕ) (piece : Block) → block address ≡ Some piece → after (Heap address) ≡ heap address
  old_header address piece piece_there = let plain : address + 0 ≡ address = omega arith in ap (λ address. after (Heap address)) (sym plain) ∙ old_word address 0 piece piece_there (stands.pieces.some address piece piece_there) ∙ ap heap plain

  same_pin : (mutator index : ℕ) → after (Pin mutator index) ≡ memory (Pin mutator index)
  unfolding made_in
  same_pin mutator index = refl

  -- a pin slot holds what it held
  pins_more : (mutator index : ℕ) → mutator < config.mutators → index < 4 → PinWordStands after new_block (after (Pin mutator index)) (graph.pin (mutator + 1) index)
  pins_more mutator index mutator_below few =
      subst (λ word. PinWordStands after new_block word (graph.pin (mutator + 1) index)) (sym (same_pin mutator index))
      (pin_stays memory after block new_block (memory (Pin mutator index)) (graph.pin (mutator + 1) index)
      (λ name copy plain.
      let stays : IsCopy new_block (memory (Pin mutator index)) name = (copy.0, copy.1, joined.stays config top block made_region (memory (Top made_region)) piece can (memory (Pin mutator index)) (thing name copy.0 copy.1) copy.2) in
      (stays, ap is_forwarded (old_header (memory (Pin mutator index)) (thing name copy.0 copy.1) copy.2) ∙ plain))
      (stands.rooted.pins mutator index mutator_below few))

  pub rooted_more : RootsStand config after new_block graph more
  rooted_more = record {
    roots = roots_more;
    answers = answers_more;
    no_more_roots = stands.rooted.no_more_roots;
    pins = pins_more;
    no_more_pins = stands.rooted.no_more_pins;
    no_more_promised = promised_to;
  }

  -- another thread's words are as they were
  pub other_words : (mutator : ℕ) → asker ≢ mutator → (after (Wait mutator) ≡ memory (Wait mutator)) × (after (Answer mutator) ≡ memory (Answer mutator))
  unfolding made_in
  other_words mutator another = (cond-false (asker == mutator) 0 (memory (Wait mutator)) (ne_eqb asker mutator another), cond-false (asker == mutator) address (memory (Answer mutator)) (ne_eqb asker mutator another))

  -- and so is its request
  pub other_asks : (mutator : ℕ) → asker ≢ mutator → IsAsking memory graph promises mutator → IsAsking after graph more mutator
  other_asks mutator another asks =
      let words = other_words mutator another in
      let name : Name = asked_name after mutator in
      let same_names : name ≡ asked_name memory mutator = ap (λ (word : ℕ). record { thread = mutator + 1; count = request_count_in word }) words.0 in
      record {
        shape = subst (λ word. request_shape_in word ≡ shape_word (refs_in (request_shape_in word)) (nums_in (request_shape_in word))) (sym words.0) asks.shape;
        few_refs = subst (λ word. refs_in (request_shape_in word) ≤ 16) (sym words.0) asks.few_refs;
        few_nums = subst (λ word. nums_in (request_shape_in word) ≤ 16) (sym words.0) asks.few_nums;
        unanswered = words.1 ∙ asks.unanswered;
        new = same_object name (λ same_thread. another (omega (arith, same_thread))) ∙ ap (with_promised graph promises).object same_names ∙ asks.new;
      }

  -- where the image stands for a graph, it stands for it with the promise
  module _ (stands_for : ImageStands config memory block graph promises) where
    objects_more : AreObjects (λ address. after (Heap address)) new_block (with_promised graph more).object
    objects_more = record {
      each = λ other_address refs nums name thing_then. ⊎_elim
          (λ (made : (other_address ≡ address) × (piece ≡ thing name refs nums)). new_piece other_address refs nums name made)
          (λ (old : (other_address ≢ address) × (block other_address ≡ Some (thing name refs nums))). old_piece other_address refs nums name old.1 (stands_for.objects.each other_address refs nums name old.1))
          (cases other_address (thing name refs nums) thing_then);
      once = λ other_address second_place refs nums second_refs second_nums name first_then second_then. ⊎_elim
          (λ (made_a : (other_address ≡ address) × (piece ≡ thing name refs nums)). ⊎_elim
          (λ (made_b : (second_place ≡ address) × (piece ≡ thing name second_refs second_nums)). made_a.0 ∙ sym made_b.0)
          (λ (old_b : (second_place ≢ address) × (block second_place ≡ Some (thing name second_refs second_nums))). absurd (not_old second_place name second_refs second_nums old_b.1 (new_name name refs nums made_a.1)))
          (cases second_place (thing name second_refs second_nums) second_then))
          (λ (old_a : (other_address ≢ address) × (block other_address ≡ Some (thing name refs nums))). ⊎_elim
          (λ (made_b : (second_place ≡ address) × (piece ≡ thing name second_refs second_nums)). absurd (not_old other_address name refs nums old_a.1 (new_name name second_refs second_nums made_b.1)))
          (λ (old_b : (second_place ≢ address) × (block second_place ≡ Some (thing name second_refs second_nums))). stands_for.objects.once other_address second_place refs nums second_refs second_nums name old_a.1 old_b.1)
          (cases second_place (thing name second_refs second_nums) second_then))
          (cases other_address (thing name refs nums) first_then);
    }
      where
        not_old : (place : ℕ) (name : Name) (refs nums : ℕ) → block place ≡ Some (thing name refs nums) → new ≡ name → ⊥
        not_old place name refs nums thing_there same_names =
            let old_object = stands_for.objects.each place refs nums name thing_there in
            none-some old_object.0 (sym asking.new ∙ ap (with_promised graph promises).object same_names ∙ old_object.1)

    are_things : AreThings new_block
    are_things place standing piece_there = ⊎_elim
        (λ (made : (place ≡ address) × (piece ≡ standing)). inl (new, refs_in (asked_shape memory asker), nums_in (asked_shape memory asker), sym made.1))
        (λ (old : (place ≢ address) × (block place ≡ Some standing)). stands_for.things place standing old.1)
        (cases place standing piece_there)

    fillers_say : FillersSay (λ address. after (Heap address)) new_block
    fillers_say place words filler_there = ⊎_elim
        (λ (made : (place ≡ address) × (piece ≡ filler words)). absurd (let differ = made.1 in cc))
        (λ (old : (place ≢ address) × (block place ≡ Some (filler words))). old_header place (filler words) old.1 ∙ stands_for.fillers place words old.1)
        (cases place (filler words) filler_there)

    pub made_stands : ImageStands config after new_block graph more
    unfolding made_in
    made_stands = record {
      plotted = joined.plotted_more config top block made_region (memory (Top made_region)) piece can;
      filled = joined.filled_more config top block made_region (memory (Top made_region)) piece can stands_for.filled;
      objects = objects_more;
      things = are_things;
      fillers = fillers_say;
      free_word = free_less (λ region. None) stands_for.free_word;
      rooted = rooted_more;
    }
