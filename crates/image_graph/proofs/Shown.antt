-- Where an image holds a graph, the words of its heap, its roots and its pin slots stand for the graph, by current copies: of the pieces those count
-- that the graph reaches.
use Rattle.std.proofs.Common.{◌≡◌, ℕ, ◌+◌, ◌<◌, ◌&&◌, true, false, nat_le, nat_lt, slice_get, length, List, Option, Some, None, ⊎_elim, refl, sym, ap, ◌∙◌, subst, arith}
use Rattle.std.specs.Prelude.{if◌then◌else◌}
use Rattle.std.proofs.lemmas.Bool.{cond-true, cond-false, cases_Bool, and_from, le-leb, lt-ltb, true≢false}
use Rattle.std.proofs.lemmas.Option.{none-some, same_Some, slice_get_within}
use Rattle.heap_words.specs.declared.config.Config.{Config}
use Rattle.heap_words.specs.Words.{Word, Top, Root, Pin, Heap, table_words, heap_in, roots_in, pins_in, view}
use Rattle.heap_words.specs.Encoding.{refs_in, object_words, is_forwarded, forwardee_in}
use Rattle.shen_graph.specs.declared.name.Name.{Name}
use Rattle.shen_graph.specs.declared.pin.Pinned.{Pinned}
use Rattle.shen_graph.specs.Graph.{Graph, Object, Reference, blank, same_reference}
use Rattle.shen_graph.proofs.PlainLemmas.{same_name-itself}
use Rattle.shen_graph.specs.Reach.{IsReachable}
use Rattle.shen_graph.specs.Reach as reach
use Rattle.heap_world.specs.Roots.{is_root_of, HasNoMoreRoots, is_slot_of, HasNoMorePins}
use Rattle.heap_world.specs.World.{Block, thing, moved, Plot, name_at, Points, IsThing}
use Rattle.heap_world.specs.Walk.{has}
use Rattle.heap_world.specs.Shows.{WordsStand}
use Rattle.heap_world.specs.Stands.{HoldsPin}
use Rattle.heap_world.specs.Objects.{IsObject}
use Rattle.heap_world.proofs.Pointing.{named_thing}
use Rattle.image_graph.proofs.ImagesStand.{own_copy}
use Rattle.heap_world.proofs.Tables.{AreCopies, copies_stand}
use Rattle.image_graph.specs.Held.{IsLedTo, from_root, from_field, IsAmong, AreHeldKept}
use Rattle.image_graph.specs.Full.{now_in, held_words, held_in, kept_in}
use Rattle.image_graph.specs.Promised.{Promises, with_promised}
use Rattle.image_graph.specs.Image.{PinWordStands}
use Rattle.image_graph.proofs.Reached.{held_is_reached, refs_read, named_object, none_at_0}
use Rattle.image_graph.proofs.Promised.{same_reference-true, reaches_promised}
use Rattle.image_graph.proofs.HeldRoots.{root_among, pin_among}
use Rattle.image_graph.proofs.Walked.{walk_keeps}
use Rattle.image_graph.specs.Holds.{HoldsBy}

-- a piece, if it is an object that is not promised
abbrev old_piece : Promises → Option Block → Option Block
old_piece promises (Some (thing name refs nums)) = if same_reference (promises.ref name.thread) (Some name) then None else Some (thing name refs nums)
old_piece promises _ = None

-- an object that is shown, if it was an object: it is not promised
abbrev IsOld : Promises → Option Block → Block → Type 0
IsOld promises found piece = (name : Name) × (refs : ℕ) × (nums : ℕ) × (piece ≡ thing name refs nums) × (found ≡ Some (thing name refs nums)) × (same_reference (promises.ref name.thread) (Some name) ≡ false)

old_from : (promises : Promises) (found : Option Block) (piece : Block) → old_piece promises found ≡ Some piece → IsOld promises found piece
old_from promises (Some (thing name refs nums)) piece shows_piece = ⊎_elim
    (λ (promised : same_reference (promises.ref name.thread) (Some name) ≡ true). absurd (none-some piece (sym (cond-true (same_reference (promises.ref name.thread) (Some name)) None (Some (thing name refs nums)) promised) ∙ shows_piece)))
    (λ (not_promised : same_reference (promises.ref name.thread) (Some name) ≡ false).
    let same_thing : thing name refs nums ≡ piece = same_Some (thing name refs nums) piece (sym (cond-false (same_reference (promises.ref name.thread) (Some name)) None (Some (thing name refs nums)) not_promised) ∙ shows_piece) in
    (name, refs, nums, sym same_thing, refl, not_promised))
    (cases_Bool (same_reference (promises.ref name.thread) (Some name)))
old_from promises _ piece shows_piece = absurd (none-some piece shows_piece)

module _ (config : Config) (memory : Word → ℕ) (block : Plot) (owner : ℕ → Option ℕ) (promises : Promises) (graph : Graph) (graph_held : HoldsBy config memory block owner promises graph) where
  abbrev heap : ℕ → ℕ
  heap address = memory (Heap address)

  abbrev more : Graph
  more = with_promised graph promises

  abbrev IsRoot : ℕ → Type 0
  IsRoot = IsAmong (held_words config memory)

  abbrev Held : ℕ → Type 0
  Held = IsLedTo (now_in memory) heap IsRoot

  -- the pieces whose current copies are held, and that are not promised
  abbrev shown : Plot
  shown address = if has (held_in config memory) (now_in memory address) then old_piece promises (block address) else None

  are : AreHeldKept heap Held (kept_in config memory)
  are = walk_keeps config memory block more graph_held.objects

  found_held : (address : ℕ) → has (held_in config memory) address ≡ true → Held address
  found_held address address_found =
      let kept_size : kept_in config memory address ≡ object_words (heap (address + 1)) = cond-true (has (held_in config memory) address) (object_words (heap (address + 1))) 0 address_found in
      are.only address (omega (arith, kept_size))

  held_found : (address : ℕ) → Held address → has (held_in config memory) address ≡ true
  held_found address address_held = ⊎_elim
      (λ (listed : has (held_in config memory) address ≡ true). listed)
      (λ (not_listed : has (held_in config memory) address ≡ false).
      let not_kept : kept_in config memory address ≡ 0 = cond-false (has (held_in config memory) address) (object_words (heap (address + 1))) 0 not_listed in
      absurd (omega (arith, are.words address address_held, not_kept)))
      (cases_Bool (has (held_in config memory) address))

  -- the current copy of what is shown is held, and it is an object that is not promised
  shown_from : (address : ℕ) (piece : Block) → shown address ≡ Some piece → Held (now_in memory address) × IsOld promises (block address) piece
  shown_from address piece shows_piece = ⊎_elim
      (λ (listed : has (held_in config memory) (now_in memory address) ≡ true). (found_held (now_in memory address) listed, old_from promises (block address) piece (sym (cond-true (has (held_in config memory) (now_in memory address)) (old_piece promises (block address)) None listed) ∙ shows_piece)))
      (λ (not_listed : has (held_in config memory) (now_in memory address) ≡ false). absurd (none-some piece (sym (cond-false (has (held_in config memory) (now_in memory address)) (old_piece promises (block address)) None not_listed) ∙ shows_piece)))
      (cases_Bool (has (held_in config memory) (now_in memory address)))

  not_moved : (address refs nums target : ℕ) (name : Name) → shown address ≡ Some (moved name refs nums target) → ⊥
  not_moved address refs nums target name shows_moved = let old = (shown_from address (moved name refs nums target) shows_moved).1.3 in cc

  shown_thing : (address refs nums : ℕ) (name : Name) → shown address ≡ Some (thing name refs nums) → Held (now_in memory address) × (block address ≡ Some (thing name refs nums)) × (same_reference (promises.ref name.thread) (Some name) ≡ false)
  shown_thing address refs nums name shows_thing =
      let from = shown_from address (thing name refs nums) shows_thing in
      let old = from.1 in
      let same_name : old.0 ≡ name = sym (same_Some name old.0 (ap (λ some_piece. name_at (Some some_piece)) old.3)) in
      (from.0, old.4 ∙ ap Some (sym old.3), ap (λ asked_name. same_reference (promises.ref asked_name.thread) (Some asked_name)) (sym same_name) ∙ old.5)

  -- what shows a name is an object of that name
  named : (address : ℕ) (name : Name) → name_at (shown address) ≡ Some name → (refs : ℕ) × (nums : ℕ) × (shown address ≡ Some (thing name refs nums))
  named address name name_shown = named_thing (shown address) name (λ refs nums target. not_moved address refs nums target name) name_shown

  -- an object with a name that is not promised is shown where its current copy is held
  shows : (word refs nums : ℕ) (name : Name) → Held (now_in memory word) → block word ≡ Some (thing name refs nums) → same_reference (promises.ref name.thread) (Some name) ≡ false → shown word ≡ Some (thing name refs nums)
  shows word refs nums name word_held thing_there old =
      cond-true (has (held_in config memory) (now_in memory word)) (old_piece promises (block word)) None (held_found (now_in memory word) word_held)
      ∙ ap (old_piece promises) thing_there ∙ cond-false (same_reference (promises.ref name.thread) (Some name)) None (Some (thing name refs nums)) old

  -- what is held is its own current copy
  held_own : (address refs nums : ℕ) (name : Name) → Held address → block address ≡ Some (thing name refs nums) → now_in memory address ≡ address
  held_own address refs nums name address_held thing_there = own_copy memory address (graph_held.objects.each address refs nums name address_held thing_there).2.header

  -- a word that leads to an object that the graph reaches shows it
  shows_name : (word : ℕ) (name : Name) → IsReachable graph name → Held (now_in memory word) → name_at (block word) ≡ Some name → name_at (shown word) ≡ Some name
  shows_name word name reached word_held name_there =
      let piece = graph_held.pieces.named word name name_there in
      let old : same_reference (promises.ref name.thread) (Some name) ≡ false = ⊎_elim
      (λ (promised : same_reference (promises.ref name.thread) (Some name) ≡ true). absurd (graph_held.unreached.fresh name.thread name (same_reference-true (promises.ref name.thread) name promised) reached))
      (λ (not_promised : same_reference (promises.ref name.thread) (Some name) ≡ false). not_promised)
      (cases_Bool (same_reference (promises.ref name.thread) (Some name)))
      in
      ap name_at (shows word piece.0 piece.1 name word_held piece.2 old)

  -- The current copy of what is shown: it is held, shown itself, and an object that the graph reaches.
  record IsShown (address : ℕ) (name : Name) : Type 0 where
    piece_refs : ℕ
    piece_nums : ℕ
    piece : block address ≡ Some (thing name piece_refs piece_nums)
    refs : ℕ
    nums : ℕ
    held : Held (now_in memory address)
    copy : block (now_in memory address) ≡ Some (thing name refs nums)
    plain_name : same_reference (promises.ref name.thread) (Some name) ≡ false

  is_shown : (address : ℕ) (name : Name) → name_at (shown address) ≡ Some name → IsShown address name
  is_shown address name name_shown =
      let x = named address name name_shown in
      let thing_shown = shown_thing address x.0 x.1 name x.2 in
      let copy = graph_held.objects.current address name (ap name_at thing_shown.1) in
      record { piece_refs = x.0; piece_nums = x.1; piece = thing_shown.1; refs = copy.0; nums = copy.1; held = thing_shown.0; copy = copy.2; plain_name = thing_shown.2 }

  current_shown : (address : ℕ) (name : Name) → IsShown address name → name_at (shown (now_in memory address)) ≡ Some name
  current_shown address name shown =
      let own = held_own (now_in memory address) shown.refs shown.nums name shown.held shown.copy in
      ap name_at (shows (now_in memory address) shown.refs shown.nums name (subst Held (sym own) shown.held) shown.copy shown.plain_name)

  -- an object that is held and not promised is one that the graph reaches
  reached_of : (address refs nums : ℕ) (name : Name) → Held address → block address ≡ Some (thing name refs nums) → same_reference (promises.ref name.thread) (Some name) ≡ false → IsReachable graph name
  reached_of address refs nums name address_held thing_there not_promised =
      let reached_name = held_is_reached config (λ region. memory (Top region)) heap block (now_in memory) IsRoot more graph_held.objects address address_held in
      let same_name : reached_name.0 ≡ name = same_Some reached_name.0 name (ap name_at (sym reached_name.3 ∙ thing_there)) in
      ⊎_elim
      (λ (old : IsReachable graph name). old)
      (λ (new : (thread : ℕ) × (promises.ref thread ≡ Some name)).
      let own_thread : name.thread ≡ new.0 = graph_held.unreached.own new.0 name new.1 in
      let is_promised : same_reference (promises.ref name.thread) (Some name) ≡ true = ap (λ reference. same_reference reference (Some name)) (ap promises.ref own_thread ∙ new.1) ∙ same_name-itself name in
      absurd (true≢false (sym is_promised ∙ not_promised)))
      (reaches_promised config.mutators graph promises graph_held.unreached name (subst (IsReachable more) same_name reached_name.4))

  -- it is the object that the graph has
  abbrev IsGraphs : ℕ → Name → ℕ → ℕ → Type 0
  IsGraphs address name refs nums = (object : Object) × (graph.object name ≡ Some object) × IsObject heap (λ word. name_at (shown word)) address refs nums name object

  object_of : (address refs nums : ℕ) (name : Name) → Held address → block address ≡ Some (thing name refs nums) → same_reference (promises.ref name.thread) (Some name) ≡ false → IsGraphs address name refs nums
  object_of address refs nums name address_held thing_there not_promised =
      let graph_object = graph_held.objects.each address refs nums name address_held thing_there in
      let object : graph.object name ≡ Some graph_object.0 = sym (cond-false (same_reference (promises.ref name.thread) (Some name)) (Some (blank (promises.refs name.thread) (promises.nums name.thread))) (graph.object name) not_promised) ∙ graph_object.1 in (
        graph_object.0,
        object,
        record {
          header = graph_object.2.header;
          shape = graph_object.2.shape;
          name_word = graph_object.2.name_word;
          few_refs = graph_object.2.few_refs;
          few_nums = graph_object.2.few_nums;
          refs_are = graph_object.2.refs_are;
          nums_are = graph_object.2.nums_are;
          references = λ field_index reference field_there. field field_index reference graph_object.0 object graph_object.2 field_there;
          numbers = graph_object.2.numbers;
        },
      )
    where
      field : (index : ℕ) (reference : Reference) (given_object : Object) → graph.object name ≡ Some given_object → IsThing heap block address refs nums name given_object → slice_get given_object.refs index ≡ Some reference → Points shown (heap (address + 3 + index)) reference
      field index None given_object object facts reference_there = facts.references index None reference_there
      field index (Some field_name) given_object object facts reference_there =
          let word = heap (address + 3 + index) in
          let points : name_at (block word) ≡ Some field_name = facts.references index (Some field_name) reference_there in
          let same_refs : refs_in (heap (address + 1)) ≡ refs = ap refs_in facts.shape ∙ refs_read refs nums facts.few_refs facts.few_nums in
          let index_below : index < refs_in (heap (address + 1)) = omega (arith, slice_get_within given_object.refs index (Some field_name) reference_there, same_refs, facts.refs_are) in
          let reached : IsReachable graph field_name = reach.from_field name field_name index (reached_of address refs nums name address_held thing_there not_promised) (ap (λ (object : Object). slice_get object.refs index) (named_object graph name given_object object) ∙ reference_there) in
          shows_name word field_name reached (from_field address index address_held index_below (none_at_0 config (λ reference. memory (Top reference)) block graph_held.objects.plotted word field_name points)) points

  roots : (mutator index : ℕ) → mutator < config.mutators → index < 16 → Points shown (memory (Root mutator index)) (graph.root (mutator + 1) index)
  roots mutator index mutator_below index_low = by_root (graph.root (mutator + 1) index) refl (graph_held.rooted.roots mutator index mutator_below index_low)
    where
      by_root : (reference : Reference) → graph.root (mutator + 1) index ≡ reference → Points block (memory (Root mutator index)) reference → Points shown (memory (Root mutator index)) reference
      by_root None root_is points = points
      by_root (Some root_name) root_is points =
          let word = memory (Root mutator index) in
          shows_name word root_name (reach.from_root (mutator + 1) index root_name root_is)
          (from_root word (root_among config (λ reference. memory (Top reference)) memory block graph promises graph_held.objects.plotted graph_held.rooted mutator index mutator_below index_low) (none_at_0 config (λ reference. memory (Top reference)) block graph_held.objects.plotted word root_name points))
          points

  no_more : HasNoMoreRoots config.mutators graph
  no_more given_thread given_index not_root = by_root (graph.root given_thread given_index) refl
    where
      by_root : (reference : Reference) → graph.root given_thread given_index ≡ reference → reference ≡ None
      by_root None root_is = refl
      by_root (Some root_name) root_is =
          let found_root = graph_held.rooted.no_more_roots given_thread given_index root_name root_is in
          let root_counted : is_root_of config.mutators given_thread given_index ≡ true =
          and_from (nat_le 1 given_thread) (nat_le given_thread config.mutators && nat_lt given_index 16) (le-leb 1 given_thread (omega (arith, found_root.2)))
          (and_from (nat_le given_thread config.mutators) (nat_lt given_index 16) (le-leb given_thread config.mutators (omega (arith, found_root.1, found_root.2))) (lt-ltb given_index 16 found_root.3)) in
          absurd (true≢false (sym root_counted ∙ not_root))

  pins : (mutator index : ℕ) → mutator < config.mutators → index < 4 → HoldsPin heap (λ address. name_at (shown address)) (memory (Pin mutator index)) (graph.pin (mutator + 1) index)
  pins mutator index mutator_below index_low = by_slot (graph.pin (mutator + 1) index) refl (graph_held.rooted.pins mutator index mutator_below index_low)
    where
      by_slot : (found : Option Pinned) → graph.pin (mutator + 1) index ≡ found → PinWordStands memory block (memory (Pin mutator index)) found → HoldsPin heap (λ address. name_at (shown address)) (memory (Pin mutator index)) found
      by_slot None pin_is zero = zero
      by_slot (Some pinned) pin_is stands =
          let word = memory (Pin mutator index) in
          let copy = stands.1 in
          let points : name_at (block word) ≡ Some pinned.name = ap name_at copy.2 in
          let own : now_in memory word ≡ word = cond-false (is_forwarded (heap word)) (forwardee_in (heap word)) word stands.2 in (
            stands.0,
            shows_name word pinned.name (reach.from_pin (mutator + 1) index pinned pin_is)
                (from_root word (pin_among config (λ region. memory (Top region)) memory block graph promises graph_held.objects.plotted graph_held.rooted mutator index mutator_below index_low) (none_at_0 config (λ region. memory (Top region)) block graph_held.objects.plotted word pinned.name points))
                points,
            own,
          )

  no_more_pins : HasNoMorePins config.mutators graph
  no_more_pins given_thread given_slot not_slot = by_slot (graph.pin given_thread given_slot) refl
    where
      by_slot : (found : Option Pinned) → graph.pin given_thread given_slot ≡ found → found ≡ None
      by_slot None pin_is = refl
      by_slot (Some pinned) pin_is =
          let found_slot = graph_held.rooted.no_more_pins given_thread given_slot pinned pin_is in
          let slot_counted : is_slot_of config.mutators given_thread given_slot ≡ true =
          and_from (nat_le 1 given_thread) (nat_le given_thread config.mutators && nat_lt given_slot 4) (le-leb 1 given_thread (omega (arith, found_slot.2)))
          (and_from (nat_le given_thread config.mutators) (nat_lt given_slot 4) (le-leb given_thread config.mutators (omega (arith, found_slot.1, found_slot.2))) (lt-ltb given_slot 4 found_slot.3)) in
          absurd (true≢false (sym slot_counted ∙ not_slot))

-- so the words of heap, roots and pin slots stand for it
module _ (config : Config) (words : List ℕ) (block : Plot) (owner : ℕ → Option ℕ) (promises : Promises) (graph : Graph) (table_length : length words ≡ table_words config) (graph_held : HoldsBy config (view config words) block owner promises graph) where
  abbrev memory : Word → ℕ
  memory = view config words

  abbrev names : ℕ → Option Name
  names address = name_at (shown config memory block owner promises graph graph_held address)

  are_copies : AreCopies config words block names graph
  are_copies = record {
    plotted = graph_held.objects.plotted;
    piece = λ address name name_shown. (let first_object = is_shown config memory block owner promises graph graph_held address name name_shown in (thing name first_object.piece_refs first_object.piece_nums, first_object.piece, omega arith));
    current = λ address asked_name name_shown. current_shown config memory block owner promises graph graph_held address asked_name (is_shown config memory block owner promises graph graph_held address asked_name name_shown);
    object = λ address asked_name name_shown.
        let first_object = is_shown config memory block owner promises graph graph_held address asked_name name_shown in
        let graph_object = object_of config memory block owner promises graph graph_held (now_in memory address) first_object.refs first_object.nums asked_name first_object.held first_object.copy first_object.plain_name in
        (first_object.refs, first_object.nums, graph_object.0, first_object.copy, graph_object.1, graph_object.2);
    once = λ address second_address asked_name first_shown second_shown.
        let first_object = is_shown config memory block owner promises graph graph_held address asked_name first_shown in
        let second_object = is_shown config memory block owner promises graph graph_held second_address asked_name second_shown in
        graph_held.objects.once (now_in memory address) (now_in memory second_address) first_object.refs first_object.nums second_object.refs second_object.nums asked_name first_object.held second_object.held first_object.copy second_object.copy;
    small = λ asked_name graph_object name_shown. (graph_held.next.given asked_name graph_object name_shown).small;
  }

  pub holding_stands : (names_at : ℕ → Option Name) × WordsStand config.region_words (heap_in config words) (roots_in config words) (pins_in config words) names_at graph
  holding_stands = (
    names,
    copies_stand config words block names graph table_length are_copies (roots config memory block owner promises graph graph_held) (no_more config memory block owner promises graph graph_held)
        (pins config memory block owner promises graph graph_held) (no_more_pins config memory block owner promises graph graph_held),
  )
