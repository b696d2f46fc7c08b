-- Exactly the reachable objects are held.
use Rattle.std.proofs.Common.{◌≡◌, ◌≢◌, ℕ, ◌+◌, ◌<◌, ◌≤◌, get_or, Option, Some, None, [], slice_get, unwrap_or, sym, ap, ◌∙◌, arith}
use Rattle.std.proofs.lemmas.Option.{slice_get_within, slice_get-get_or}
use Rattle.heap_words.specs.declared.config.Config.{Config}
use Rattle.heap_words.specs.Encoding.{shape_word, refs_in, object_words}
use Rattle.shen_graph.specs.declared.name.Name.{Name}
use Rattle.shen_graph.specs.Graph.{Graph, Object, Reference, named}
use Rattle.shen_graph.specs.Reach.{IsReachable}
use Rattle.shen_graph.specs.Reach as reach
use Rattle.heap_world.specs.World.{Plot, thing, name_at, IsPlotted}
use Rattle.heap_world.proofs.Pointing.{piece_inside, named_piece, named_if_not_0}
use Rattle.image_graph.specs.Held.{IsLedTo, from_root, from_field, AreHeldKept, HoldsGraph}
use Rattle.image_graph.specs.Laws.{HeldAreReachable}
use Rattle.image_graph.specs.Packing.{CanPack}

-- a shape word reads as what it was made of
pub refs_read : (refs nums : ℕ) → refs ≤ 16 → nums ≤ 16 → refs_in (shape_word refs nums) ≡ refs
refs_read refs nums at_most few_nums = omega (arith, at_most, few_nums)

pub words_read : (refs nums : ℕ) → refs ≤ 16 → nums ≤ 16 → object_words (shape_word refs nums) ≡ 3 + refs + nums
words_read refs nums at_most few_nums = omega (arith, at_most, few_nums)

-- no piece is at 0
pub none_at_0 : (config : Config) (top : ℕ → ℕ) (block : Plot) → IsPlotted config top block → (word : ℕ) (name : Name) → name_at (block word) ≡ Some name → word ≢ 0
none_at_0 config top block plotted word name has_name is_zero =
    let piece = named_piece (block word) name has_name in
    let word_inside = piece_inside config top block plotted word piece.0 piece.1 in
    omega (arith, word_inside.0, is_zero, config.in_range.least_words)

-- the object that a name names
pub named_object : (graph : Graph) (name : Name) (object : Object) → graph.object name ≡ Some object → named graph (Some name) ≡ object
named_object graph name object has_object = ap (λ (found : Option Object). unwrap_or found (record { refs = []; nums = [] })) has_object

module _ (config : Config) (top heap : ℕ → ℕ) (block : Plot) (now : ℕ → ℕ) (IsRoot : ℕ → Type 0) (graph : Graph) (graph_held : HoldsGraph config top heap block now IsRoot graph) where
  -- an object that is held, and that the graph reaches
  abbrev IsReached : ℕ → Type 0
  IsReached address = (name : Name) × (refs : ℕ) × (nums : ℕ) × (block address ≡ Some (thing name refs nums)) × IsReachable graph name

  pub held_is_reached : (address : ℕ) → IsLedTo now heap IsRoot address → IsReached address
  held_is_reached _ (from_root word object_there not_null) =
      let root = graph_held.root_named word object_there not_null in
      let copy = graph_held.current word root.2 root.4 in
      (root.2, copy.0, copy.1, copy.2, reach.from_root root.0 root.1 root.2 root.3)
  held_is_reached _ (from_field address held_field holder_held field_below not_null) =
      let holder_reached = held_is_reached address holder_held in
      let object = graph_held.each address holder_reached.1 holder_reached.2 holder_reached.0 holder_held holder_reached.3 in
      let object_there = object.2 in
      let same_refs : refs_in (heap (address + 1)) ≡ holder_reached.1 = ap refs_in object_there.shape ∙ refs_read holder_reached.1 holder_reached.2 object_there.few_refs object_there.few_nums in
      let reference : Reference = get_or object.0.refs held_field None in
      let field_holds : slice_get object.0.refs held_field ≡ Some reference = slice_get-get_or object.0.refs held_field None (omega (arith, field_below, same_refs, object_there.refs_are)) in
      let target_named = named_if_not_0 config top block graph_held.plotted (heap (address + 3 + held_field)) reference (object_there.references held_field reference field_holds) not_null in
      let copy = graph_held.current (heap (address + 3 + held_field)) target_named.0 target_named.2 in
      let field : slice_get (named graph (Some holder_reached.0)).refs held_field ≡ Some (Some target_named.0) = ap (λ (object : Object). slice_get object.refs held_field) (named_object graph holder_reached.0 object.0 object.1) ∙ field_holds ∙ ap Some target_named.1 in
      (target_named.0, copy.0, copy.1, copy.2, reach.from_field holder_reached.0 target_named.0 held_field holder_reached.4 field)

  -- an object that the graph reaches, held
  abbrev HasHeld : Name → Type 0
  HasHeld name = (address : ℕ) × (refs : ℕ) × (nums : ℕ) × IsLedTo now heap IsRoot address × (block address ≡ Some (thing name refs nums))

  pub reached_is_held : (name : Name) → IsReachable graph name → HasHeld name
  reached_is_held name (reach.from_root thread root_index _ slot_holds) =
      let root = graph_held.root_held thread root_index name slot_holds in
      let copy = graph_held.current root.0 name root.2 in
      (now root.0, copy.0, copy.1, from_root root.0 root.1 (none_at_0 config top block graph_held.plotted root.0 name root.2), copy.2)
  reached_is_held _ (reach.from_pin thread slot pinned_name slot_holds) = absurd (graph_held.pinless thread slot pinned_name slot_holds)
  reached_is_held name (reach.from_field holder_name _ field reached slot_holds) =
      let holder_held = reached_is_held holder_name reached in
      let object = graph_held.each holder_held.0 holder_held.1 holder_held.2 holder_name holder_held.3 holder_held.4 in
      let facts = object.2 in
      let field_holds : slice_get object.0.refs field ≡ Some (Some name) = sym (ap (λ (object : Object). slice_get object.refs field) (named_object graph holder_name object.0 object.1)) ∙ slot_holds in
      let word = heap (holder_held.0 + 3 + field) in
      let points : name_at (block word) ≡ Some name = facts.references field (Some name) field_holds in
      let same_refs : refs_in (heap (holder_held.0 + 1)) ≡ holder_held.1 = ap refs_in facts.shape ∙ refs_read holder_held.1 holder_held.2 facts.few_refs facts.few_nums in
      let field_below : field < refs_in (heap (holder_held.0 + 1)) = omega (arith, slice_get_within object.0.refs field (Some name) field_holds, same_refs, facts.refs_are) in
      let copy = graph_held.current word name points in
      (now word, copy.0, copy.1, from_field holder_held.0 field holder_held.3 field_below (none_at_0 config top block graph_held.plotted word name points), copy.2)

  pub held_are_reachable : HeldAreReachable config top heap block now IsRoot graph
  held_are_reachable = record { only = held_is_reached; all = reached_is_held }

  -- what is kept where exactly the held objects are kept
  pub can_pack : (kept : ℕ → ℕ) → AreHeldKept heap (IsLedTo now heap IsRoot) kept → CanPack config top heap block graph.object now kept
  can_pack kept held_kept = record {
    plotted = graph_held.plotted;
    things = λ address some_kept.
        let held_there = held_kept.only address some_kept in
        let reached_there = held_is_reached address held_there in
        let object = graph_held.each address reached_there.1 reached_there.2 reached_there.0 held_there reached_there.3 in
        (reached_there.0, reached_there.1, reached_there.2, reached_there.3, held_kept.words address held_there ∙ ap object_words object.2.shape ∙ words_read reached_there.1 reached_there.2 object.2.few_refs object.2.few_nums);
    each = λ address refs nums name some_kept has_object. graph_held.each address refs nums name (held_kept.only address some_kept) has_object;
    once = λ address second_address refs nums second_refs second_nums name first_kept second_kept first_there second_there.
        graph_held.once address second_address refs nums second_refs second_nums name (held_kept.only address first_kept) (held_kept.only second_address second_kept) first_there second_there;
    current = graph_held.current;
    closed = λ address field some_kept few not_null.
        let size = held_kept.words (now (heap (address + 3 + field))) (from_field address field (held_kept.only address some_kept) few not_null) in
        omega (arith, size);
  }
