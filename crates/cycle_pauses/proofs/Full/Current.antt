-- The words of an image before a pause: old copies lead to current ones, only these are held, and so the words hold the graph with the
-- promised objects.
use Rattle.std.proofs.Common.{◌≡◌, ◌≢◌, ℕ, ◌+◌, ◌%◌, ◌<◌, get_or, slice_get, Some, None, ⊎_elim, sym, ap, ◌∙◌, subst, arith}
use Rattle.std.proofs.lemmas.Bool.{cond-true, eq-eqb}
use Rattle.std.proofs.lemmas.Option.{same_Some, none-some, slice_get-get_or}
use Rattle.heap_words.specs.declared.config.Config.{Config}
use Rattle.heap_words.specs.Words.{Word, Cset, Top, Root, Heap}
use Rattle.heap_words.specs.Encoding.{plain_header, header_word, is_forwarded, forwardee_in, refs_in}
use Rattle.shen_graph.specs.declared.name.Name.{Name}
use Rattle.shen_graph.specs.Graph.{Graph, Object, Reference}
use Rattle.shen_graph.specs.Reach.{IsReachable}
use Rattle.shen_graph.specs.Reach as reach
use Rattle.heap_world.specs.World.{Block, thing, moved, spent, promised, dead, Plot, name_at, body_of, Points, IsCollected, IsMarkable}
use Rattle.heap_world.specs.Asking.{Asking}
use Rattle.heap_world.specs.Represents.{RepresentsByCopies}
use Rattle.heap_world.proofs.Pointing.{named_body, named_piece, named_if_not_0, copy_cases}
use Rattle.image_graph.specs.Held.{IsLedTo, from_root, from_field, IsAmong, IsCopy, HoldsGraph}
use Rattle.image_graph.specs.Full.{now_in, held_words}
use Rattle.image_graph.specs.Promised.{Promises, with_promised}
use Rattle.image_graph.proofs.Reached.{named_object, refs_read}
use Rattle.image_graph.proofs.HeldRoots.{root_named, root_held}
use Rattle.image_graph.proofs.ImagesStand.{own_copy}
use Rattle.cycle_pauses.proofs.Full.Promises.{promises_of}
use Rattle.cycle_pauses.proofs.Full.Mapped.{mapped_from}
use Rattle.cycle_pauses.proofs.Full.Before.{as_current, as_object, OnlyFills, fills_still, fills_unnamed, live, live_at, pieces_are, names_stay, promised_at, object_at, once_each, pinned_thing, live_rooted, live_plotted}

-- where a header leads to an address, the current copy is there
pub led_to : (memory : Word → ℕ) (address copy_address : ℕ) → memory (Heap address) ≡ header_word copy_address → now_in memory address ≡ copy_address
led_to memory address copy_address header_is =
    let moved_on : memory (Heap address) % 4 ≡ 3 = omega (arith, header_is) in
    cond-true (is_forwarded (memory (Heap address))) (forwardee_in (memory (Heap address))) address (eq-eqb (memory (Heap address) % 4) 3 moved_on) ∙ omega (arith, header_is)

module _ (config : Config) (memory : Word → ℕ) (graph : Graph) (asking : ℕ → Asking) (represents_by_copies : RepresentsByCopies config memory graph asking) where
  abbrev heap : ℕ → ℕ
  heap address = memory (Heap address)

  abbrev promises : Promises
  promises = promises_of config graph asking

  abbrev old : Plot
  old = live config memory graph asking represents_by_copies

  abbrev IsRoot : ℕ → Type 0
  IsRoot = IsAmong (held_words config memory)

  abbrev Current : ℕ → Type 0
  Current = IsMarkable represents_by_copies.block

  -- a current copy has the header of an object that has not moved
  pub header_of : (address : ℕ) → Current address → heap address ≡ plain_header
  header_of address (IsMarkable.object name refs nums is_current) = (represents_by_copies.shared.contents.objects.each address refs nums name is_current).2.header
  header_of address (IsMarkable.to_come seat words is_current) = ap heap (omega arith) ∙ (promised_at config memory graph asking represents_by_copies address seat words is_current).promise.words 0 (omega arith)

  -- An old copy: its header leads to the current one outside the collection set, which is the same object.
  pub record IsOld (address refs nums current_address : ℕ) (name : Name) : Type 0 where
    pub header : heap address ≡ header_word current_address
    pub inside : IsCollected config (memory Cset) address
    pub copy : Current current_address
    pub outside : IsCollected config (memory Cset) current_address → ⊥
    pub same : old current_address ≡ Some (thing name refs nums)

  -- what stands at the current copy of an object that was promised
  spent_same : (words copy_address : ℕ) → Current copy_address → old copy_address ≡ Some (as_current graph asking (represents_by_copies.block copy_address) (dead words))
  spent_same words copy_address (IsMarkable.object name refs nums is_there) = live_at config memory graph asking represents_by_copies copy_address (thing name refs nums) is_there ∙ ap (λ copy_piece. Some (as_current graph asking copy_piece (dead words))) (sym is_there)
  spent_same words copy_address (IsMarkable.to_come seat promised_size is_there) = live_at config memory graph asking represents_by_copies copy_address (promised seat promised_size) is_there ∙ ap (λ copy_piece. Some (as_current graph asking copy_piece (dead words))) (sym is_there)

  -- an object of the larger graph is a current copy, or an old one
  pub data Kind (address refs nums : ℕ) (name : Name) : Type 0 where
    is_current : Current address → Kind address refs nums name
    is_old : (current_address : ℕ) → IsOld address refs nums current_address name → Kind address refs nums name

  kind_of : (address refs nums : ℕ) (name : Name) (piece : Block) → represents_by_copies.block address ≡ Some piece → as_object graph asking represents_by_copies.block piece ≡ thing name refs nums → Kind address refs nums name
  kind_of address refs nums name (thing piece_name piece_refs piece_nums) piece_there same_piece = is_current (IsMarkable.object piece_name piece_refs piece_nums piece_there)
  kind_of address refs nums name (moved piece_name piece_refs piece_nums copy_address) piece_there same_piece =
      let was_moved = represents_by_copies.shared.evacuated.moved.moveds address piece_refs piece_nums copy_address piece_name piece_there in
      is_old copy_address (record {
        header = was_moved.header;
        inside = was_moved.inside;
        copy = IsMarkable.object piece_name piece_refs piece_nums was_moved.copy;
        outside = was_moved.outside;
        same = live_at config memory graph asking represents_by_copies copy_address (thing piece_name piece_refs piece_nums) was_moved.copy ∙ ap Some same_piece;
      })
  kind_of address refs nums name (spent words copy_address) piece_there same_piece =
      let was_moved = represents_by_copies.shared.evacuated.moved.spents address words copy_address piece_there in
      is_old copy_address (record { header = was_moved.header; inside = was_moved.inside; copy = was_moved.copy; outside = was_moved.outside; same = spent_same words copy_address was_moved.copy ∙ ap Some same_piece })
  kind_of address refs nums name (promised seat words) piece_there same_piece = is_current (IsMarkable.to_come seat words piece_there)
  kind_of address refs nums name _ piece_there same_piece = cc

  pub kind_at : (address refs nums : ℕ) (name : Name) → old address ≡ Some (thing name refs nums) → Kind address refs nums name
  kind_at address refs nums name object_there =
      let piece_before = mapped_from (as_object graph asking represents_by_copies.block) represents_by_copies.block address (thing name refs nums) object_there in
      kind_of address refs nums name piece_before.0 piece_before.1 piece_before.2

  -- so the current copy is a current one, and the same object
  now_of : (address refs nums : ℕ) (name : Name) → old address ≡ Some (thing name refs nums) → Kind address refs nums name → Current (now_in memory address) × (old (now_in memory address) ≡ Some (thing name refs nums))
  now_of address refs nums name object_there (is_current current_here) =
      let own_address = own_copy memory address (header_of address current_here) in
      (subst Current (sym own_address) current_here, ap old own_address ∙ object_there)
  now_of address refs nums name object_there (is_old copy_address was_old) =
      let led_there = led_to memory address copy_address was_old.header in
      (subst Current (sym led_there) was_old.copy, ap old led_there ∙ was_old.same)

  pub now_is : (address refs nums : ℕ) (name : Name) → old address ≡ Some (thing name refs nums) → Current (now_in memory address) × (old (now_in memory address) ≡ Some (thing name refs nums))
  now_is address refs nums name object_there = now_of address refs nums name object_there (kind_at address refs nums name object_there)

  -- what stands for a name is an object of that name
  pub old_thing : (word : ℕ) (name : Name) → name_at (old word) ≡ Some name → (refs : ℕ) × (nums : ℕ) × (old word ≡ Some (thing name refs nums))
  old_thing word name name_there =
      let piece = named_piece (old word) name name_there in
      let piece_before = mapped_from (as_object graph asking represents_by_copies.block) represents_by_copies.block word piece.0 piece.1 in
      ⊎_elim
      (λ (object_kind : (object_name : Name) × (refs : ℕ) × (nums : ℕ) × (as_object graph asking represents_by_copies.block piece_before.0 ≡ thing object_name refs nums)).
      let piece_is : piece.0 ≡ thing object_kind.0 object_kind.1 object_kind.2 = sym piece_before.2 ∙ object_kind.3 in
      let same_thing : object_kind.0 ≡ name = same_Some object_kind.0 name (ap (λ x. name_at (Some x)) (sym piece_is) ∙ piece.2) in
      (object_kind.1, object_kind.2, piece.1 ∙ ap Some piece_is ∙ ap (λ name. Some (thing name object_kind.1 object_kind.2)) same_thing))
      (λ (fills : OnlyFills piece_before.0).
      let same_thing : piece_before.0 ≡ piece.0 = sym (fills_still graph asking represents_by_copies.block piece_before.0 fills) ∙ piece_before.2 in
      absurd (fills_unnamed piece.0 name (subst OnlyFills same_thing fills) piece.2))
      (pieces_are config memory graph asking represents_by_copies word piece_before.0 piece_before.1)

  now_named : (word : ℕ) (name : Name) → name_at (old word) ≡ Some name → Current (now_in memory word) × IsCopy old (now_in memory word) name
  now_named word name name_there =
      let thing_at = old_thing word name name_there in
      let current_now = now_is word thing_at.0 thing_at.1 name thing_at.2 in
      (current_now.0, (thing_at.0, thing_at.1, current_now.1))

  -- what is held is a current copy
  field_current : (address field : ℕ) → Current address → field < refs_in (heap (address + 1)) → heap (address + 3 + field) ≢ 0 → Current (now_in memory (heap (address + 3 + field)))
  field_current address field (IsMarkable.object name refs nums piece_there) field_below positive =
      let found_object = represents_by_copies.shared.contents.objects.each address refs nums name piece_there in
      let shape : refs_in (heap (address + 1)) ≡ refs = ap refs_in found_object.2.shape ∙ refs_read refs nums found_object.2.few_refs found_object.2.few_nums in
      let reference : Reference = get_or found_object.0.refs field None in
      let reference_there : slice_get found_object.0.refs field ≡ Some reference = slice_get-get_or found_object.0.refs field None (omega (arith, field_below, shape, found_object.2.refs_are)) in
      let named_target = named_if_not_0 config (λ region. memory (Top region)) represents_by_copies.block represents_by_copies.shared.parsable.plotted (heap (address + 3 + field)) reference (found_object.2.references field reference reference_there) positive in
      (now_named (heap (address + 3 + field)) named_target.0 (names_stay config memory graph asking represents_by_copies (heap (address + 3 + field)) named_target.0 named_target.2)).0
  field_current address field (IsMarkable.to_come seat words piece_there) field_below positive =
      let blank = represents_by_copies.shared.unwritten.blanks address seat words piece_there in
      let shape : refs_in (heap (address + 1)) ≡ blank.refs = ap refs_in blank.shape ∙ refs_read blank.refs blank.nums blank.few_refs blank.few_nums in
      absurd (positive (blank.nulls field (omega (arith, field_below, shape))))

  pub held_current : (address : ℕ) → IsLedTo (now_in memory) heap IsRoot address → Current address
  held_current _ (from_root word is_root some_word) =
      let root = root_named config (λ region. memory (Top region)) memory old graph promises (live_plotted config memory graph asking represents_by_copies) (live_rooted config memory graph asking represents_by_copies) word is_root some_word in
      (now_named word root.2 root.4).0
  held_current _ (from_field address field is_held few some_word) = field_current address field (held_current address is_held) few some_word

  -- so the words hold the graph with the promised objects
  pub live_holds : HoldsGraph config (λ region. memory (Top region)) heap old (now_in memory) IsRoot (with_promised graph promises)
  live_holds = record {
    plotted = live_plotted config memory graph asking represents_by_copies;
    current = λ word name object_there. (now_named word name object_there).1;
    each = λ address refs nums name is_held object_there. object_at config memory graph asking represents_by_copies address refs nums name (held_current address is_held) object_there;
    once = λ first_address second_address refs nums other_refs other_nums name held_a held_b first_there second_there.
        once_each config memory graph asking represents_by_copies first_address second_address refs nums other_refs other_nums name (held_current first_address held_a) (held_current second_address held_b) first_there second_there;
    root_named = root_named config (λ region. memory (Top region)) memory old graph promises (live_plotted config memory graph asking represents_by_copies) (live_rooted config memory graph asking represents_by_copies);
    root_held = root_held config (λ region. memory (Top region)) memory old graph promises (live_plotted config memory graph asking represents_by_copies) (live_rooted config memory graph asking represents_by_copies);
    pinless = λ thread slot is_held object_there. none-some is_held object_there;
  }

  -- what stands for an object has a current copy
  pub has_current : (word : ℕ) (name : Name) → name_at (represents_by_copies.block word) ≡ Some name → (address : ℕ) × (refs : ℕ) × (nums : ℕ) × (represents_by_copies.block address ≡ Some (thing name refs nums))
  has_current word name name_there =
      let body = named_body (represents_by_copies.block word) name name_there in
      ⊎_elim
      (λ (object_now : represents_by_copies.block word ≡ Some (thing name body.0 body.1)). (word, body.0, body.1, object_now))
      (λ (was_moved : (copy_address : ℕ) × (represents_by_copies.block word ≡ Some (moved name body.0 body.1 copy_address))). (was_moved.0, body.0, body.1, (represents_by_copies.shared.evacuated.moved.moveds word body.0 body.1 was_moved.0 name was_moved.1).copy))
      (copy_cases (represents_by_copies.block word) (body_of name body.0 body.1) body.2)

  -- An object that the graph reaches has an address.
  pub reached_at : (name : Name) → IsReachable graph name → (address : ℕ) × (refs : ℕ) × (nums : ℕ) × (represents_by_copies.block address ≡ Some (thing name refs nums))
  reached_at name (reach.from_root thread root _ leads) =
      let reached_place = (live_rooted config memory graph asking represents_by_copies).no_more_roots thread root name leads in
      let points : name_at (represents_by_copies.block (memory (Root reached_place.0 root))) ≡ Some name =
      subst (Points represents_by_copies.block (memory (Root reached_place.0 root))) (ap (λ thread. graph.root thread root) (sym reached_place.2) ∙ leads) (represents_by_copies.roots reached_place.0 root reached_place.1 reached_place.3) in
      has_current (memory (Root reached_place.0 root)) name points
  reached_at _ (reach.from_pin thread slot held_pin leads) = let reached_place = pinned_thing config memory graph asking represents_by_copies thread slot held_pin leads in (held_pin.place, reached_place.refs, reached_place.nums, reached_place.here)
  reached_at name (reach.from_field from_name _ field reached leads) =
      let reached_place = reached_at from_name reached in
      let found_object = represents_by_copies.shared.contents.objects.each reached_place.0 reached_place.1 reached_place.2 from_name reached_place.3 in
      let reference_there : slice_get found_object.0.refs field ≡ Some (Some name) = sym (ap (λ (object : Object). slice_get object.refs field) (named_object graph from_name found_object.0 found_object.1)) ∙ leads in
      has_current (heap (reached_place.0 + 3 + field)) name (found_object.2.references field (Some name) reference_there)
