-- Words that hold a graph while no region is in the collection set: no object has moved.
use Rattle.std.proofs.Common.{◌≡◌, ◌≢◌, ℕ, ◌+◌, ◌-◌, ◌<◌, ◌≤◌, true, false, Some, None, Option, get_or, slice_get, ⊎_elim, sym, ap, ◌∙◌, subst, arith}
use Rattle.std.specs.Int.{bit_at}
use Rattle.std.proofs.lemmas.Bool.{cases_Bool, cond-false}
use Rattle.std.proofs.lemmas.Nat.Bits.{bit_at-zero}
use Rattle.std.proofs.lemmas.Option.{slice_get-get_or}
use Rattle.heap_words.specs.declared.config.Config.{Config}
use Rattle.heap_words.specs.Words.{Word, Cset, Top, Heap}
use Rattle.heap_words.specs.Encoding.{is_forwarded, forwardee_in, refs_in}
use Rattle.regions.specs.Place.{base_of, region_with, IsOf}
use Rattle.regions.proofs.PlaceLemmas.{regions_tile}
use Rattle.shen_graph.specs.declared.name.Name.{Name}
use Rattle.shen_graph.specs.Graph.{Graph, Reference}
use Rattle.heap_world.specs.World.{Plot, Block, thing, words_of, name_at, IsPlotted}
use Rattle.heap_world.proofs.Pointing.{piece_inside, named_if_not_0}
use Rattle.image_graph.specs.Held.{from_root, from_field, IsAmong}
use Rattle.image_graph.specs.Plot.{heap_end}
use Rattle.image_graph.specs.Full.{now_in, held_words}
use Rattle.image_graph.specs.Promised.{Promises, with_promised}
use Rattle.image_graph.proofs.Reached.{held_is_reached, refs_read}
use Rattle.image_graph.specs.Holds.{HoldsBy}
use Rattle.cycle_words.specs.Marking.WhileMarking.{IsObjectAt, CanBeReached}

-- a piece of words begins below the top of its region
pub below_top : (config : Config) (top : ℕ → ℕ) (block : Plot) → IsPlotted config top block → (address : ℕ) (piece : Block) → block address ≡ Some piece → 0 < words_of piece
    → (region_with config address < config.regions) × (base_of config (region_with config address) ≤ address) × (address + words_of piece ≤ base_of config (region_with config address) + top (region_with config address))
below_top config top block plotted address piece piece_there some_words =
    let used = plotted.in_use address piece piece_there in
    let top_within : top used.region ≤ config.region_words = plotted.tops used.region used.within in
    let right_region : IsOf config used.region address = record { from = used.from_base; before = omega (arith, used.to_top, top_within, some_words) } in
    let same_region : used.region ≡ region_with config address = sym (regions_tile.of_no_other config used.region address right_region) in
    subst (λ region. (region < config.regions) × (base_of config region ≤ address) × (address + words_of piece ≤ base_of config region + top region)) same_region (used.within, used.from_base, used.to_top)

-- a field of what can be reached names an object
pub field_named : (config : Config) (memory : Word → ℕ) (block : Plot) (owner : ℕ → Option ℕ) (promises : Promises) (graph : Graph) → HoldsBy config memory block owner promises graph
    → (address index : ℕ) → CanBeReached config memory address → index < refs_in (memory (Heap (address + 1))) → memory (Heap (address + 3 + index)) ≢ 0 → (name : Name) × (name_at (block (memory (Heap (address + 3 + index)))) ≡ Some name)
field_named config memory block owner promises graph graph_held address index is_held index_below some_reference =
    let reached = held_is_reached config (λ region. memory (Top region)) (λ address. memory (Heap address)) block (now_in memory) (IsAmong (held_words config memory)) (with_promised graph promises) graph_held.objects address is_held in
    let object = graph_held.objects.each address reached.1 reached.2 reached.0 is_held reached.3 in
    let thing_there = object.2 in
    let same_shape : refs_in (memory (Heap (address + 1))) ≡ reached.1 = ap refs_in thing_there.shape ∙ refs_read reached.1 reached.2 thing_there.few_refs thing_there.few_nums in
    let reference : Reference = get_or object.0.refs index None in
    let reference_there : slice_get object.0.refs index ≡ Some reference = slice_get-get_or object.0.refs index None (omega (arith, index_below, same_shape, thing_there.refs_are)) in
    let field_name = named_if_not_0 config (λ region. memory (Top region)) block graph_held.objects.plotted (memory (Heap (address + 3 + index))) reference (thing_there.references index reference reference_there) some_reference in
    (field_name.0, field_name.2)

module _ (config : Config) (memory : Word → ℕ) (block : Plot) (owner : ℕ → Option ℕ) (promises : Promises) (graph : Graph) (graph_held : HoldsBy config memory block owner promises graph) (set_empty : memory Cset ≡ 0) where
  abbrev top : ℕ → ℕ
  top region = memory (Top region)

  abbrev heap : ℕ → ℕ
  heap address = memory (Heap address)

  abbrev more : Graph
  more = with_promised graph promises

  -- each object is its own current copy
  pub own_copy : (address refs nums : ℕ) (name : Name) → block address ≡ Some (thing name refs nums) → now_in memory address ≡ address
  own_copy address refs nums name object_there = ⊎_elim
      (λ (object_moved : is_forwarded (heap address) ≡ true).
      let was_moved = graph_held.moved address refs nums name object_there object_moved in
      let not_collected : bit_at (memory Cset) (region_with config address) ≡ 0 = ap (λ given_set. bit_at given_set (region_with config address)) set_empty ∙ bit_at-zero (region_with config address) in
      absurd (let region_collected = was_moved.in_set in omega (arith, region_collected, not_collected)))
      (λ (header_plain : is_forwarded (heap address) ≡ false). cond-false (is_forwarded (heap address)) (forwardee_in (heap address)) address header_plain)
      (cases_Bool (is_forwarded (heap address)))

  -- what can be reached is an object
  pub reached_object : (address : ℕ) → CanBeReached config memory address → IsObjectAt memory block address
  reached_object address is_held =
      let reached = held_is_reached config top heap block (now_in memory) (IsAmong (held_words config memory)) more graph_held.objects address is_held in
      let object = graph_held.objects.each address reached.1 reached.2 reached.0 is_held reached.3 in
      record { name = reached.0; refs = reached.1; nums = reached.2; here = reached.3; shape = object.2.shape; few_refs = object.2.few_refs; few_nums = object.2.few_nums }

  -- so roots and fields lead to themselves
  pub root_own : (word : ℕ) → IsAmong (held_words config memory) word → word ≢ 0 → now_in memory word ≡ word
  root_own word among_roots some_word =
      let named = graph_held.objects.root_named word among_roots some_word in
      let piece = graph_held.pieces.named word named.2 named.4 in
      own_copy word piece.0 piece.1 named.2 piece.2

  pub field_own : (address index : ℕ) → CanBeReached config memory address → index < refs_in (heap (address + 1)) → heap (address + 3 + index) ≢ 0 → now_in memory (heap (address + 3 + index)) ≡ heap (address + 3 + index)
  field_own address index is_held index_below some_reference =
      let field_name = field_named config memory block owner promises graph graph_held address index is_held index_below some_reference in
      let piece = graph_held.pieces.named (heap (address + 3 + index)) field_name.0 field_name.1 in
      own_copy (heap (address + 3 + index)) piece.0 piece.1 field_name.0 piece.2

  -- in a simpler form
  pub root_reached : (word : ℕ) → IsAmong (held_words config memory) word → word ≢ 0 → CanBeReached config memory word
  root_reached word among_roots some_word = subst (CanBeReached config memory) (root_own word among_roots some_word) (from_root word among_roots some_word)

  pub field_reached : (address index : ℕ) → CanBeReached config memory address → index < refs_in (heap (address + 1)) → heap (address + 3 + index) ≢ 0 → CanBeReached config memory (heap (address + 3 + index))
  field_reached address index is_held index_below some_reference = subst (CanBeReached config memory) (field_own address index is_held index_below some_reference) (from_field address index is_held index_below some_reference)

  -- an object lies in the part of its region that is in use
  pub object_below : (address refs nums : ℕ) (name : Name) → block address ≡ Some (thing name refs nums)
      → (region_with config address < config.regions) × (base_of config (region_with config address) ≤ address) × (address - base_of config (region_with config address) < memory (Top (region_with config address)))
  object_below address refs nums name object_there =
      let lies_below = below_top config top block graph_held.objects.plotted address (thing name refs nums) object_there (omega arith) in
      (lies_below.0, lies_below.1, omega (arith, lies_below.1, lies_below.2))

  -- and in the heap
  pub object_above : (address refs nums : ℕ) (name : Name) → block address ≡ Some (thing name refs nums) → (config.region_words ≤ address) × (address + 3 + refs + nums ≤ heap_end config)
  object_above address refs nums name object_there =
      let lies_inside = piece_inside config top block graph_held.objects.plotted address (thing name refs nums) object_there in
      (lies_inside.0, omega (arith, lies_inside.1))

-- what is true of roots, and of what a field names where it is true of the object, is true of all that can be reached
pub reach_ind : (config : Config) (memory : Word → ℕ) (block : Plot) (owner : ℕ → Option ℕ) (promises : Promises) (graph : Graph) → HoldsBy config memory block owner promises graph → memory Cset ≡ 0
    → (P : ℕ → Type 0)
    → ((word : ℕ) → IsAmong (held_words config memory) word → word ≢ 0 → P word)
    → ((address index : ℕ) → CanBeReached config memory address → P address → index < refs_in (memory (Heap (address + 1))) → memory (Heap (address + 3 + index)) ≢ 0 → P (memory (Heap (address + 3 + index))))
    → (address : ℕ) → CanBeReached config memory address → P address
reach_ind config memory block owner promises graph graph_held set_empty P root field _ (from_root word among_roots some_word) =
    subst P (sym (root_own config memory block owner promises graph graph_held set_empty word among_roots some_word)) (root word among_roots some_word)
reach_ind config memory block owner promises graph graph_held set_empty P root field _ (from_field address index is_held index_below some_word) =
    subst P (sym (field_own config memory block owner promises graph graph_held set_empty address index is_held index_below some_word))
    (field address index is_held (reach_ind config memory block owner promises graph graph_held set_empty P root field address is_held) index_below some_word)
