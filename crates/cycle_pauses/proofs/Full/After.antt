-- Words that stand for a graph with promised objects represent it: the promised objects are no objects of the graph any more.
use Rattle.heap_words.specs.Phases.{idle_phase}
use Rattle.std.proofs.Common.{length, subst, ◌≡◌, ℕ, ◌+◌, ◌-◌, ◌<◌, ◌≤◌, Bool, true, false, slice_get, Option, Some, None, ⊎_elim, refl, sym, ap, ◌∙◌, arith}
use Rattle.std.specs.Prelude.{if◌then◌else◌}
use Rattle.std.proofs.lemmas.Bool.{cond-true, cond-false, cases_Bool}
use Rattle.std.proofs.lemmas.List.{length-replicate}
use Rattle.std.proofs.lemmas.Option.{same_Some, none-some}
use Rattle.shen_graph.proofs.Lists.{replicate_at}
use Rattle.heap_words.specs.declared.config.Config.{Config}
use Rattle.heap_words.specs.Words.{Word, Free, Top, Root, Pin, Heap}
use Rattle.shen_graph.specs.declared.name.Name.{Name}
use Rattle.shen_graph.specs.declared.pin.Pinned.{Pinned}
use Rattle.shen_graph.specs.Graph.{Graph, Object, Reference, blank, fresh, same_reference}
use Rattle.shen_graph.proofs.PlainLemmas.{same_name-itself}
use Rattle.heap_world.specs.World.{Block, thing, moved, spent, promised, dead, filler, spare, no_ghost, words_of, room_of, HasNoRoom, Plot, name_at, Points, IsGiven, IsThing, AreObjects, IsBlank, IsCollected, PinStands, ArePinned, IsEvacuating, IsUsable, AreUsable, SharedFacts}
use Rattle.heap_world.proofs.Keeping.{usable_now}
use Rattle.heap_world.proofs.Copies.{none_in_0, none_evacuated}
use Rattle.heap_world.proofs.Unmarked.{none_marked}
use Rattle.heap_world.proofs.Roomless.{rooms_none}
use Rattle.image_graph.specs.Promised.{Promises, with_promised}
use Rattle.image_graph.specs.Image.{PinWordStands, ImageStands}
use Rattle.image_graph.proofs.Named.{thing_at}
use Rattle.image_graph.proofs.Promised.{same_reference-true}
use Rattle.cycle_words.proofs.Marking.Trimmed.{object_stands}
use Rattle.cycle_pauses.proofs.Full.Mapped.{mapped, mapped_at, mapped_from, plotted_alike, filled_alike}

-- whether a name is that of a promised object
abbrev pub is_promised : Promises → Name → Bool
is_promised promises name = same_reference (promises.ref name.thread) (Some name)

-- an object of the larger graph as a piece: a promised one is of no graph
abbrev pub as_promised : Promises → Block → Block
as_promised promises (thing name refs nums) = if is_promised promises name then promised (name.thread - 1) (3 + refs + nums) else thing name refs nums
as_promised promises piece = piece

-- a name has an object
abbrev pub IsKnown : Graph → Name → Type 0
IsKnown graph name = (object : Object) × (graph.object name ≡ Some object)

-- What is taken of such words: what is promised are next objects, names were given, and what roots and pieces lead to has an
-- object.
pub record IsAfter (config : Config) (memory : Word → ℕ) (block : Plot) (graph : Graph) (promises : Promises) : Type 0 where
  pub stands : ImageStands config memory block graph promises
  pub next : (thread : ℕ) (name : Name) → promises.ref thread ≡ Some name → name ≡ fresh graph thread
  pub given : (name : Name) (object : Object) → graph.object name ≡ Some object → IsGiven config graph.count name
  pub fields : (address refs nums i : ℕ) (name other_name : Name) (object : Object) → block address ≡ Some (thing name refs nums) → graph.object name ≡ Some object → slice_get object.refs i ≡ Some (Some other_name) → IsKnown graph other_name
  pub roots : (thread index : ℕ) (name : Name) → graph.root thread index ≡ Some name → IsKnown graph name
  pub pins : (thread slot : ℕ) (held : Pinned) → graph.pin thread slot ≡ Some held → IsKnown graph held.name

-- an object at an address, that is no promised one
abbrev pub IsOld : Plot → Promises → ℕ → ℕ → ℕ → Name → Type 0
IsOld block promises address refs nums name = (block address ≡ Some (thing name refs nums)) × (is_promised promises name ≡ false)

-- and a promised one
pub record IsPromisedThing (block : Plot) (promises : Promises) (address seat words : ℕ) : Type 0 where
  pub name : Name
  pub refs : ℕ
  pub nums : ℕ
  pub here : block address ≡ Some (thing name refs nums)
  pub named : promises.ref name.thread ≡ Some name
  pub seat_is : name.thread - 1 ≡ seat
  pub words_are : 3 + refs + nums ≡ words

module _ (config : Config) (memory : Word → ℕ) (block : Plot) (graph : Graph) (promises : Promises) (is_after : IsAfter config memory block graph promises) where
  abbrev heap : ℕ → ℕ
  heap address = memory (Heap address)

  abbrev stands : ImageStands config memory block graph promises
  stands = is_after.stands

  abbrev pub taken : Plot
  taken = mapped (as_promised promises) block

  -- a piece keeps its words
  same_words_of : (name : Name) (refs nums : ℕ) (holds : Bool) → is_promised promises name ≡ holds → words_of (as_promised promises (thing name refs nums)) ≡ 3 + refs + nums
  same_words_of name refs nums true taken_one = ap words_of (cond-true (is_promised promises name) (promised (name.thread - 1) (3 + refs + nums)) (thing name refs nums) taken_one)
  same_words_of name refs nums false promise_test = ap words_of (cond-false (is_promised promises name) (promised (name.thread - 1) (3 + refs + nums)) (thing name refs nums) promise_test)

  pub same_words : (address : ℕ) (piece : Block) → block address ≡ Some piece → words_of (as_promised promises piece) ≡ words_of piece
  same_words address piece piece_there = ⊎_elim
      (λ (thing_parts : (name : Name) × (refs : ℕ) × (nums : ℕ) × (piece ≡ thing name refs nums)).
      subst (λ any_piece. words_of (as_promised promises any_piece) ≡ words_of any_piece) (sym thing_parts.3) (same_words_of thing_parts.0 thing_parts.1 thing_parts.2 (is_promised promises thing_parts.0) refl))
      (λ (fills : (words : ℕ) × (1 ≤ words) × (piece ≡ filler words)). subst (λ any_piece. words_of (as_promised promises any_piece) ≡ words_of any_piece) (sym fills.2) refl)
      (stands.things address piece piece_there)

  -- a name that has an object is no promised one
  pub not_promised : (name : Name) → IsKnown graph name → is_promised promises name ≡ false
  not_promised name known_name = ⊎_elim
      (λ (was_promised : is_promised promises name ≡ true).
      let ref = same_reference-true (promises.ref name.thread) name was_promised in
      let count : name.count ≡ graph.count name.thread + 1 = ap (λ (name : Name). name.count) (is_after.next name.thread name ref) in
      let thread = stands.rooted.no_more_promised name.thread name ref in
      absurd (let made = is_after.given name known_name.0 known_name.1 in omega (arith, made.by_thread (omega (arith, thread.2)), count)))
      (λ (no_promise : is_promised promises name ≡ false). no_promise)
      (cases_Bool (is_promised promises name))

  -- it stands where it stood
  pub known_stays : (address : ℕ) (name : Name) → IsKnown graph name → name_at (block address) ≡ Some name → name_at (taken address) ≡ Some name
  known_stays address name known_name name_there =
      let was_thing = thing_at block stands.things address name name_there in
      ap name_at (mapped_at (as_promised promises) block address (thing name was_thing.0 was_thing.1) was_thing.2)
      ∙ ap (λ piece. name_at (Some piece)) (cond-false (is_promised promises name) (promised (name.thread - 1) (3 + was_thing.0 + was_thing.1)) (thing name was_thing.0 was_thing.1) (not_promised name known_name))

  -- and so does what a word stands for
  pub points_on : (word : ℕ) (reference : Reference) → ((name : Name) → reference ≡ Some name → IsKnown graph name) → Points block word reference → Points taken word reference
  points_on word None known_names points = points
  points_on word (Some name) known_names points = known_stays word name (known_names name refl) points

  -- Each piece is an old object that is left, or a promised one, or only fills.
  data TakenPiece (address : ℕ) (piece : Block) : Type 0 where
    stays_old : (name : Name) (refs nums : ℕ) → block address ≡ Some (thing name refs nums) → is_promised promises name ≡ false → piece ≡ thing name refs nums → TakenPiece address piece
    is_taken : (name : Name) (refs nums : ℕ) → block address ≡ Some (thing name refs nums) → is_promised promises name ≡ true → piece ≡ promised (name.thread - 1) (3 + refs + nums) → TakenPiece address piece
    only_fills : (words : ℕ) → block address ≡ Some (filler words) → piece ≡ filler words → TakenPiece address piece

  taken_of : (address : ℕ) (name : Name) (refs nums : ℕ) (piece : Block) → block address ≡ Some (thing name refs nums) → as_promised promises (thing name refs nums) ≡ piece → TakenPiece address piece
  taken_of address name refs nums piece object_there same_piece = ⊎_elim
      (λ (was_promised : is_promised promises name ≡ true). is_taken name refs nums object_there was_promised (sym same_piece ∙ cond-true (is_promised promises name) (promised (name.thread - 1) (3 + refs + nums)) (thing name refs nums) was_promised))
      (λ (no_promise : is_promised promises name ≡ false). stays_old name refs nums object_there no_promise (sym same_piece ∙ cond-false (is_promised promises name) (promised (name.thread - 1) (3 + refs + nums)) (thing name refs nums) no_promise))
      (cases_Bool (is_promised promises name))

  taken_at : (address : ℕ) (piece : Block) → taken address ≡ Some piece → TakenPiece address piece
  taken_at address piece piece_there =
      let was_piece = mapped_from (as_promised promises) block address piece piece_there in
      ⊎_elim
      (λ (thing_parts : (name : Name) × (refs : ℕ) × (nums : ℕ) × (was_piece.0 ≡ thing name refs nums)).
      taken_of address thing_parts.0 thing_parts.1 thing_parts.2 piece (was_piece.1 ∙ ap Some thing_parts.3) (ap (as_promised promises) (sym thing_parts.3) ∙ was_piece.2))
      (λ (fills : (words : ℕ) × (1 ≤ words) × (was_piece.0 ≡ filler words)).
      only_fills fills.0 (was_piece.1 ∙ ap Some fills.2) (sym was_piece.2 ∙ ap (as_promised promises) fills.2))
      (stands.things address was_piece.0 was_piece.1)

  left_of : (address refs nums : ℕ) (name : Name) → TakenPiece address (thing name refs nums) → IsOld block promises address refs nums name
  left_of address refs nums asked_name (stays_old name old_refs old_nums object_there no_promise same_piece) =
      let name_is : asked_name ≡ name = same_Some asked_name name (ap (λ piece. name_at (Some piece)) same_piece) in
      (object_there ∙ ap Some (sym same_piece), ap (is_promised promises) name_is ∙ no_promise)
  left_of address refs nums asked_name (is_taken name old_refs old_nums object_there test wrong) = (let differ = wrong in cc)
  left_of address refs nums name (only_fills words object_there wrong) = (let differ = wrong in cc)

  pub left : (address refs nums : ℕ) (name : Name) → taken address ≡ Some (thing name refs nums) → IsOld block promises address refs nums name
  left address refs nums name piece_there = left_of address refs nums name (taken_at address (thing name refs nums) piece_there)

  -- a promised piece is a promised object
  gone_of : (address seat words : ℕ) → TakenPiece address (promised seat words) → IsPromisedThing block promises address seat words
  gone_of address seat words (stays_old name refs nums object_there no_promise wrong) = (let differ = wrong in cc)
  gone_of address seat words (only_fills filled_words object_there wrong) = (let differ = wrong in cc)
  gone_of address seat words (is_taken name refs nums object_there test same_piece) =
      record { name = name; refs = refs; nums = nums; here = object_there; named = same_reference-true (promises.ref name.thread) name test; seat_is = cc; words_are = cc }

  pub gone : (address seat words : ℕ) → taken address ≡ Some (promised seat words) → IsPromisedThing block promises address seat words
  gone address seat words piece_there = gone_of address seat words (taken_at address (promised seat words) piece_there)

  -- and of no other kind
  no_other : (address : ℕ) (piece : Block) → ((name : Name) (refs nums : ℕ) → piece ≡ thing name refs nums → ⊥) → ((seat words : ℕ) → piece ≡ promised seat words → ⊥)
      → ((words : ℕ) → piece ≡ filler words → ⊥) → taken address ≡ Some piece → ⊥
  no_other address piece unlike unpromised unfilled piece_there = by_kind (taken_at address piece piece_there)
    where
      by_kind : TakenPiece address piece → ⊥
      by_kind (only_fills words object_there same_piece) = unfilled words same_piece
      by_kind (stays_old name refs nums object_there no_promise same_piece) = unlike name refs nums same_piece
      by_kind (is_taken name refs nums object_there test same_piece) = unpromised (name.thread - 1) (3 + refs + nums) same_piece

  pub no_room : HasNoRoom taken
  no_room address seat x piece_there room = no_other address x
      (λ name refs nums same_piece. none-some seat (ap room_of (sym same_piece) ∙ room)) (λ promised_seat promised_words same_piece. none-some seat (ap room_of (sym same_piece) ∙ room)) (λ words same_piece. none-some seat (ap room_of (sym same_piece) ∙ room)) piece_there

  -- words that only fill were there
  filler_of : (address words : ℕ) → TakenPiece address (filler words) → block address ≡ Some (filler words)
  filler_of address words (stays_old name refs nums object_there no_promise wrong) = (let differ = wrong in cc)
  filler_of address words (is_taken name refs nums object_there test wrong) = (let differ = wrong in cc)
  filler_of address words (only_fills filled_words object_there same_piece) = object_there ∙ ap Some (sym same_piece)

  filler_was : (address words : ℕ) → taken address ≡ Some (filler words) → block address ≡ Some (filler words)
  filler_was address words piece_there = filler_of address words (taken_at address (filler words) piece_there)

  filler_some : (address words : ℕ) → taken address ≡ Some (filler words) → 1 ≤ words
  filler_some address words piece_there = ⊎_elim
      (λ (thing_parts : (name : Name) × (refs : ℕ) × (nums : ℕ) × (filler words ≡ thing name refs nums)). (let differ = thing_parts.3 in cc))
      (λ (fills : (filled_words : ℕ) × (1 ≤ filled_words) × (filler words ≡ filler filled_words)). (let some_words = fills.1 in let words_same : words ≡ fills.0 = ap words_of fills.2 in omega (arith, some_words, words_same)))
      (stands.things address (filler words) (filler_was address words piece_there))

  no_deads : (address words : ℕ) → taken address ≡ Some (dead words) → ⊥
  no_deads address words = no_other address (dead words) (λ name refs nums wrong. (let differ = wrong in cc)) (λ promised_seat some_words wrong. (let differ = wrong in cc)) (λ some_words wrong. (let differ = wrong in cc))

  no_moveds : (address refs nums target : ℕ) (name : Name) → taken address ≡ Some (moved name refs nums target) → ⊥
  no_moveds address refs nums target n = no_other address (moved n refs nums target) (λ name more some_nums wrong. (let differ = wrong in cc)) (λ promised_seat more wrong. (let differ = wrong in cc)) (λ more wrong. (let differ = wrong in cc))

  no_spents : (address words target : ℕ) → taken address ≡ Some (spent words target) → ⊥
  no_spents address words target = no_other address (spent words target) (λ name refs nums wrong. (let differ = wrong in cc)) (λ promised_seat some_words wrong. (let differ = wrong in cc)) (λ some_words wrong. (let differ = wrong in cc))

  -- the object of an old name
  old_object : (name : Name) (object : Object) → is_promised promises name ≡ false → (with_promised graph promises).object name ≡ Some object → graph.object name ≡ Some object
  old_object name object no_promise object_there = sym (cond-false (is_promised promises name) (Some (blank (promises.refs name.thread) (promises.nums name.thread))) (graph.object name) no_promise) ∙ object_there

  -- objects that are left are the graph's
  objects_left : AreObjects heap taken graph.object
  objects_left = record {
    each = λ address refs nums name object_there.
        let old = left address refs nums name object_there in
        let object_parts = stands.objects.each address refs nums name old.0 in
        let object : graph.object name ≡ Some object_parts.0 = old_object name object_parts.0 old.1 object_parts.1 in (
          object_parts.0,
          object,
          object_stands heap block taken address refs nums name object_parts.0
              (λ field reference reference_there index_below points.
              points_on (heap (address + 3 + field)) reference (λ f reference_is. is_after.fields address refs nums field name f object_parts.0 old.0 object (reference_there ∙ ap Some reference_is)) points) object_parts.2,
        );
    once = λ address other_address refs nums other_refs other_nums name first_there second_there.
        stands.objects.once address other_address refs nums other_refs other_nums name (left address refs nums name first_there).0 (left other_address other_refs other_nums name second_there).0;
  }

  -- a promised piece is a new object
  blank_of : (address refs nums given_refs given_nums : ℕ) (name : Name) (object : Object) → IsThing heap block address refs nums name object → object ≡ blank given_refs given_nums → IsBlank heap address (3 + refs + nums)
  blank_of address refs nums given_refs given_nums name object thing_there blank_object =
      let null : Reference = None in
      let refs_same : given_refs ≡ refs = sym (length-replicate given_refs null) ∙ ap (λ (object : Object). length object.refs) (sym blank_object) ∙ thing_there.refs_are in
      record {
        refs = refs;
        nums = nums;
        long = refl;
        few_refs = thing_there.few_refs;
        few_nums = thing_there.few_nums;
        header = thing_there.header;
        shape = thing_there.shape;
        nulls = λ field index_below.
            thing_there.references field null (ap (λ (object : Object). slice_get object.refs field) blank_object ∙ replicate_at given_refs field null (omega (arith, index_below, refs_same)));
      }

  blank_at : (address seat words : ℕ) → taken address ≡ Some (promised seat words) → IsBlank heap address words
  blank_at address seat words piece_there =
      let promised_thing = gone address seat words piece_there in
      let object_parts = stands.objects.each address promised_thing.refs promised_thing.nums promised_thing.name promised_thing.here in
      let test : is_promised promises promised_thing.name ≡ true = ap (λ reference. same_reference reference (Some promised_thing.name)) promised_thing.named ∙ same_name-itself promised_thing.name in
      let new : Some object_parts.0 ≡ Some (blank (promises.refs promised_thing.name.thread) (promises.nums promised_thing.name.thread)) =
      sym object_parts.1 ∙ cond-true (is_promised promises promised_thing.name) (Some (blank (promises.refs promised_thing.name.thread) (promises.nums promised_thing.name.thread))) (graph.object promised_thing.name) test in
      subst (IsBlank heap address) promised_thing.words_are
      (blank_of address promised_thing.refs promised_thing.nums (promises.refs promised_thing.name.thread) (promises.nums promised_thing.name.thread) promised_thing.name object_parts.0 object_parts.2 (same_Some object_parts.0 (blank (promises.refs promised_thing.name.thread) (promises.nums promised_thing.name.thread)) new))

  -- a pin word stands for what its slot holds, where nothing is collected
  pin_left : (cset evac mutator slot word : ℕ) (found : Option Pinned) → cset ≡ 0 → graph.pin (mutator + 1) slot ≡ found → PinWordStands memory block word found → PinStands config cset evac taken word found
  pin_left cset evac mutator slot word None no_cset pin_held word_stands = word_stands
  pin_left cset evac mutator slot word (Some pinned) no_cset pin_held word_stands =
      let copy = word_stands.1 in (
        word_stands.0,
        copy.0,
        copy.1,
        record {
          piece =
              mapped_at (as_promised promises) block word (thing pinned.name copy.0 copy.1) copy.2
              ∙ ap Some (cond-false (is_promised promises pinned.name) (promised (pinned.name.thread - 1) (3 + copy.0 + copy.1)) (thing pinned.name copy.0 copy.1) (not_promised pinned.name (is_after.pins (mutator + 1) slot pinned pin_held)));
          safe = λ inside. absurd (none_in_0 config word (subst (λ some_set. IsCollected config some_set word) no_cset inside));
        },
      )

  pub pins_left : (cset evac : ℕ) → cset ≡ 0 → ArePinned config cset evac taken (λ mutator slot. memory (Pin mutator slot)) graph.pin
  pins_left cset evac no_cset asked_mutator asked_slot inside few = pin_left cset evac asked_mutator asked_slot (memory (Pin asked_mutator asked_slot)) (graph.pin (asked_mutator + 1) asked_slot) no_cset refl (stands.rooted.pins asked_mutator asked_slot inside few)

  -- what all machines share holds, where nothing is collected and no seat has a region
  pub shared_facts : (phase cset evac claim : ℕ) (current grey black entries : ℕ → ℕ) (buffer : ℕ → ℕ → ℕ) (tams limit : ℕ → ℕ) (share : ℕ)
      → phase ≡ idle_phase → cset ≡ 0 → evac ≡ 0 → ((seat : ℕ) → current seat ≡ 0) → share ≡ 0
      → SharedFacts config (λ region. memory (Top region)) heap taken no_ghost graph.object graph.count phase cset evac (memory Free) current grey black entries buffer tams claim limit share (λ mutator slot. memory (Pin mutator slot)) graph.pin
  shared_facts phase cset evac claim current grey black entries buffer tams limit share no_phase no_cset no_evac no_buffers no_share = record {
    parsable = record {
      plotted = plotted_alike config (λ region. memory (Top region)) block (as_promised promises) same_words stands.plotted;
      filled = filled_alike config (λ region. memory (Top region)) block (as_promised promises) same_words stands.filled;
      promises = λ address seat words piece_there. (let promised_there = gone address seat words piece_there in omega (arith, promised_there.words_are));
      deads = λ address words piece_there. absurd (no_deads address words piece_there);
      spents = λ address words target piece_there. absurd (no_spents address words target piece_there);
      fillers = λ address words piece_there. filler_some address words piece_there;
    };
    contents = record { objects = objects_left; given = is_after.given };
    owned = record {
      free_word = stands.free_word;
      shared_one = λ shared_region piece_there. absurd (omega (arith, piece_there, no_share));
      rooms = rooms_none config taken no_room;
      buffers = record { each = λ seat has_buffer. absurd (has_buffer (no_buffers seat)); spares = λ spare_address seat words piece_there. absurd (no_room spare_address seat (spare seat words) piece_there refl) };
      outside = λ seat has_buffer. absurd (has_buffer (no_buffers seat));
    };
    phased = record { phase_is = omega (arith, no_phase); cset_is = λ too_early. no_cset; evac_is = λ too_early. no_evac };
    unwritten = record { blanks = blank_at; headers = λ address words piece_there. absurd (no_deads address words piece_there); lengths = λ address words piece_there. absurd (no_deads address words piece_there); fillers = λ address words piece_there. stands.fillers address words (filler_was address words piece_there) };
    marked = none_marked config phase grey black entries buffer (λ region. memory (Top region)) tams heap taken no_ghost.recording no_ghost.scanning no_phase;
    evacuated =
        subst (λ some_set. IsEvacuating config phase some_set evac claim (memory Free) (λ region. memory (Top region)) tams heap black taken no_ghost.owner no_ghost.copying no_ghost.working) (sym no_cset)
        (subst (λ count. IsEvacuating config phase 0 count claim (memory Free) (λ region. memory (Top region)) tams heap black taken no_ghost.owner no_ghost.copying no_ghost.working) (sym no_evac)
        (none_evacuated config phase claim (memory Free) (λ region. memory (Top region)) tams heap black taken no_ghost.owner no_ghost.copying no_ghost.working (λ phase_on. omega (arith, phase_on, no_phase)) no_moveds no_spents (λ seat inside. refl)));
    updated = λ phase_on. absurd (omega (arith, phase_on, no_phase));
    pinned = pins_left cset evac no_cset;
  }

  pub roots_left : (mutator index : ℕ) → mutator < config.mutators → index < 16 → Points taken (memory (Root mutator index)) (graph.root (mutator + 1) index)
  roots_left mutator index inside index_below = points_on (memory (Root mutator index)) (graph.root (mutator + 1) index) (is_after.roots (mutator + 1) index) (stands.rooted.roots mutator index inside index_below)

  -- each root may be used
  pub roots_usable : (cset evac : ℕ) → cset ≡ 0 → AreUsable config cset evac taken (λ mutator index. memory (Root mutator index))
  roots_usable cset evac no_cset asked_mutator asked_index inside few =
      subst (λ some_set. IsUsable config some_set evac taken (memory (Root asked_mutator asked_index))) (sym no_cset) (usable_now config evac taken no_moveds (memory (Root asked_mutator asked_index)) (graph.root (asked_mutator + 1) asked_index) (roots_left asked_mutator asked_index inside few))
