-- Words that hold a graph hold it after regions were freed in which nothing can be reached.
use Rattle.std.proofs.Common.{◌≡◌, ◌≢◌, ℕ, ◌+◌, ◌<◌, Bool, true, false, Some, None, Option, ⊎_elim, refl, sym, ap, ◌∙◌, subst, arith}
use Rattle.std.proofs.lemmas.Bool.{cond-true, cond-false, cases_Bool, true≢false}
use Rattle.heap_words.specs.declared.config.Config.{Config}
use Rattle.heap_words.specs.Words.{Word, Cset, Free, Top, Current, Heap, Share}
use Rattle.heap_words.specs.Encoding.{is_forwarded, refs_in, end_in}
use Rattle.regions.specs.Place.{region_with}
use Rattle.regions.specs.Sets.{IsIn}
use Rattle.regions.proofs.PlaceLemmas.{regions_tile}
use Rattle.shen_graph.specs.declared.name.Name.{Name}
use Rattle.shen_graph.specs.Graph.{Graph}
use Rattle.heap_world.specs.World.{Plot, thing, promised, name_at, hand, spare, carved, IsPlotted, ShareIsOpen, AreBuffers}
use Rattle.heap_world.proofs.Pointing.{named_piece}
use Rattle.heap_world.proofs.Roomless.{only_spares}
use Rattle.image_graph.specs.Held.{IsAmong, IsCopy, HoldsGraph}
use Rattle.image_graph.specs.Full.{now_in, held_words}
use Rattle.image_graph.specs.Promised.{Promises, with_promised}
use Rattle.image_graph.specs.Image.{RootsStand}
use Rattle.image_graph.specs.Serving.{AreAsking}
use Rattle.image_graph.proofs.Inside.{buffer_ends}
use Rattle.image_graph.proofs.BuffersStay.{SameRoom, buffers_stay}
use Rattle.image_graph.specs.State.{EndsIn}
use Rattle.image_graph.specs.Holds.{HoldsBy}
use Rattle.cycle_words.specs.Marking.WhileMarking.{CanBeReached}
use Rattle.cycle_words.specs.Marking.Final.{freed, freed_block, freed_owner}
use Rattle.cycle_words.proofs.Marking.Alike.{same_held_words}
use Rattle.cycle_words.proofs.Marking.Plain.{root_reached, field_reached}
use Rattle.cycle_words.proofs.Marking.Trimmed.{IsTrimmed, calm_unmoved, own_current, trimmed_objects, trimmed_rooted}
use Rattle.cycle_words.proofs.Marking.Vanished.{free_was, top_stays, piece_was, piece_stays, plotted_again, filled_again, free_again}

-- Free words of a buffer lie in the region in which it ends.
pub spare_ends : (config : Config) (memory : Word → ℕ) (block : Plot) (owner : ℕ → Option ℕ) (promises : Promises) (graph : Graph) → HoldsBy config memory block owner promises graph
    → (address seat words : ℕ) → block address ≡ Some (spare seat words) → EndsIn config memory seat (region_with config address)
spare_ends config memory block owner promises graph graph_held address seat words piece_there =
    let buffer_words = graph_held.buffers.spares address seat words piece_there in
    let after_next = buffer_words.0 in
    let before_end = buffer_words.1 in
    let spare_room = graph_held.pieces.some address (spare seat words) piece_there in
    let has_buffer : memory (Current seat) ≢ 0 = λ no_buffer. (let zero_end = ap end_in no_buffer in omega (arith, zero_end, before_end, spare_room)) in
    let buffer = graph_held.buffers.each seat has_buffer in
    let end_past_base = buffer.from_base in
    let end_below_top = buffer.to_top in
    let top_within = graph_held.objects.plotted.tops buffer.region buffer.within in
    let right_region : region_with config address ≡ buffer.region = regions_tile.of_no_other config buffer.region address (record { from = omega (arith, end_past_base, after_next); before = omega (arith, end_below_top, top_within, before_end, spare_room) }) in
    subst (EndsIn config memory seat) (sym right_region) (has_buffer, buffer_ends config (λ region. memory (Top region)) block seat (memory (Current seat)) buffer top_within)

-- What is freed: regions in which nothing lies that a root, or a field of what can be reached, names, and that are not current. All that has
-- moved lies there.
pub record CanFree (config : Config) (out : ℕ → Bool) (memory : Word → ℕ) (block : Plot) : Type 0 where
  pub unseated : (seat region : ℕ) → EndsIn config memory seat region → out region ≡ false
  pub unshared : (r : ℕ) → memory Share ≡ r + 1 → out r ≡ false
  pub unnamed_roots : (word : ℕ) → IsAmong (held_words config memory) word → word ≢ 0 → out (region_with config word) ≡ false
  pub unnamed_fields : (address i : ℕ) → CanBeReached config memory address → i < refs_in (memory (Heap (address + 1))) → memory (Heap (address + 3 + i)) ≢ 0 → out (region_with config (memory (Heap (address + 3 + i)))) ≡ false
  pub unmoved : (address refs nums : ℕ) (name : Name) → block address ≡ Some (thing name refs nums) → out (region_with config address) ≡ false → is_forwarded (memory (Heap address)) ≡ false

-- While no region is in the collection set it is enough that nothing that can be reached lies there.
pub calm_can_free : (config : Config) (freed_region : ℕ → Bool) (memory : Word → ℕ) (block : Plot) (owner : ℕ → Option ℕ) (promises : Promises) (graph : Graph) → HoldsBy config memory block owner promises graph → memory Cset ≡ 0
    → ((address : ℕ) → CanBeReached config memory address → freed_region (region_with config address) ≡ false) → ((seat region : ℕ) → EndsIn config memory seat region → freed_region region ≡ false) → ((region : ℕ) → memory Share ≡ region + 1 → freed_region region ≡ false)
    → CanFree config freed_region memory block
calm_can_free config freed_region memory block owner promises graph graph_held set_empty unreached unseated unshared = record {
  unseated = unseated;
  unshared = unshared;
  unnamed_roots = λ word among some_word. unreached word (root_reached config memory block owner promises graph graph_held set_empty word among some_word);
  unnamed_fields = λ address index is_held few some_word. unreached (memory (Heap (address + 3 + index))) (field_reached config memory block owner promises graph graph_held set_empty address index is_held few some_word);
  unmoved = λ address refs nums name object_there stays_there. calm_unmoved config memory block owner promises graph graph_held set_empty address refs nums name object_there;
}

module _ (config : Config) (freed_region : ℕ → Bool) (memory : Word → ℕ) (block : Plot) (owner : ℕ → Option ℕ) (promises : Promises) (graph : Graph) (graph_held : HoldsBy config memory block owner promises graph) (can_free : CanFree config freed_region memory block) where
  abbrev now : Word → ℕ
  now = freed config freed_region memory

  abbrev left : Plot
  left = freed_block config freed_region block

  abbrev owned : ℕ → Option ℕ
  owned = freed_owner freed_region owner

  abbrev heap : ℕ → ℕ
  heap address = memory (Heap address)

  abbrev top : ℕ → ℕ
  top region = memory (Top region)

  abbrev IsRoot : ℕ → Type 0
  IsRoot = IsAmong (held_words config memory)

  abbrev more : Graph
  more = with_promised graph promises

  plotted : IsPlotted config (λ region. now (Top region)) left
  plotted = plotted_again config freed_region memory block graph_held.objects.plotted graph_held.pieces.some

  -- what is left and stands for a name is an object
  named : (word : ℕ) (name : Name) → name_at (left word) ≡ Some name → IsCopy left word name
  named word name named_there =
      let piece = named_piece (left word) name named_there in
      let copy_stays = piece_stays config freed_region block word (piece_was config freed_region block word piece.0 piece.1).0 in
      let was_named = graph_held.pieces.named word name (sym (ap name_at copy_stays) ∙ named_there) in
      (was_named.0, was_named.1, copy_stays ∙ was_named.2)

  -- no object that is left has moved
  pub left_unmoved : (address refs nums : ℕ) (name : Name) → left address ≡ Some (thing name refs nums) → is_forwarded (heap address) ≡ false
  left_unmoved address refs nums name object_there = let was_there = piece_was config freed_region block address (thing name refs nums) object_there in can_free.unmoved address refs nums name was_there.1 was_there.0

  trimmed : IsTrimmed config memory block (λ region. now (Top region)) left
  trimmed = record {
    plotted = plotted;
    roots = λ word among some_word. piece_stays config freed_region block word (can_free.unnamed_roots word among some_word);
    fields = λ address index is_held few some_word. piece_stays config freed_region block (memory (Heap (address + 3 + index))) (can_free.unnamed_fields address index is_held few some_word);
    current = own_current memory left named left_unmoved;
    was = λ object_address refs nums name object_there. (piece_was config freed_region block object_address (thing name refs nums) object_there).1;
  }

  objects : HoldsGraph config (λ region. now (Top region)) heap left (now_in memory) IsRoot more
  objects = trimmed_objects config memory block owner promises graph graph_held (λ region. now (Top region)) left trimmed

  rooted : RootsStand config memory left graph promises
  rooted = trimmed_rooted config memory block owner promises graph graph_held (λ region. now (Top region)) left trimmed

  owned_by : (region : ℕ) → freed_region region ≡ false → owned region ≡ owner region
  owned_by region not_freed = let nobody : Option ℕ = None in cond-false (freed_region region) nobody (owner region) not_freed

  owned_none : (region : ℕ) → freed_region region ≡ true → owned region ≡ None
  owned_none region was_freed = let nobody : Option ℕ = None in cond-true (freed_region region) nobody (owner region) was_freed

  still_none : (region : ℕ) → owner region ≡ None → owned region ≡ None
  still_none region no_owner = ⊎_elim (λ (was_freed : freed_region region ≡ true). owned_none region was_freed) (λ (not_freed : freed_region region ≡ false). owned_by region not_freed ∙ no_owner) (cases_Bool (freed_region region))

  shared_one : ShareIsOpen config (memory Share) (now Free) (memory Cset) owned
  shared_one shared_region share_there =
      let was_open = graph_held.shared_one shared_region share_there in
      record {
        within = was_open.within;
        in_use = λ in_free. ⊎_elim
            (λ (region_was_free : IsIn (memory Free) shared_region). was_open.in_use region_was_free)
            (λ (was_freed : freed_region shared_region ≡ true). true≢false (sym was_freed ∙ can_free.unshared shared_region share_there))
            (free_was config freed_region memory shared_region was_open.within in_free);
        nobodys = still_none shared_region was_open.nobodys;
        outside = was_open.outside;
      }

  -- the region of a buffer is not freed
  buffer_stays : (seat : ℕ) (has_buffer : memory (Current seat) ≢ 0) → freed_region (graph_held.buffers.each seat has_buffer).region ≡ false
  buffer_stays seat has_buffer =
      let buffer = graph_held.buffers.each seat has_buffer in
      can_free.unseated seat buffer.region (has_buffer, buffer_ends config top block seat (memory (Current seat)) buffer (graph_held.objects.plotted.tops buffer.region buffer.within))

  -- nor that of its free words
  free_stays : (address seat words : ℕ) → block address ≡ Some (spare seat words) → freed_region (region_with config address) ≡ false
  free_stays address seat words piece_there = can_free.unseated seat (region_with config address) (spare_ends config memory block owner promises graph graph_held address seat words piece_there)

  same_room : SameRoom block left
  same_room = record {
    stays = λ address seat piece room piece_there.
        let only_spare = only_spares block graph_held.pieces.unheld graph_held.pieces.uncarved address seat piece piece_there room in
        piece_stays config freed_region block address (free_stays address seat only_spare.0 (piece_there ∙ ap Some only_spare.1)) ∙ piece_there;
    came = λ address seat piece room piece_there. (piece_was config freed_region block address piece piece_there).1;
  }

  buffers : AreBuffers config (λ region. now (Top region)) (λ seat. memory (Current seat)) left
  buffers = buffers_stay config top (λ region. now (Top region)) (λ seat. memory (Current seat)) block left same_room graph_held.buffers
      (λ seat has_buffer. (let same_top = top_stays config freed_region memory (graph_held.buffers.each seat has_buffer).region (buffer_stays seat has_buffer) in omega (arith, same_top)))

  asking : AreAsking config now graph promises 0
  asking mutator from mutator_below waits =
      let was_asking = graph_held.asking mutator from mutator_below waits in
      record { shape = was_asking.shape; few_refs = was_asking.few_refs; few_nums = was_asking.few_nums; unanswered = was_asking.unanswered; new = was_asking.new }

  pub same_roots : held_words config now ≡ held_words config memory
  same_roots = same_held_words memory now (λ t i. refl) (λ t. refl) (λ t i. refl) config

  pub freed_holds : HoldsBy config now left owned promises graph
  freed_holds = record {
    objects = subst (λ xs. HoldsGraph config (λ region. now (Top region)) heap left (now_in memory) (IsAmong xs) more) (sym same_roots) objects;
    rooted = record { roots = rooted.roots; answers = rooted.answers; no_more_roots = rooted.no_more_roots; pins = rooted.pins; no_more_pins = rooted.no_more_pins; no_more_promised = rooted.no_more_promised };
    moved = λ address refs nums name piece_there object_forwarded. absurd (true≢false (sym object_forwarded ∙ left_unmoved address refs nums name piece_there));
    filled = filled_again config freed_region memory block graph_held.objects.plotted graph_held.pieces.some graph_held.filled;
    pieces = record {
      named = named;
      unpromised = λ address seat words piece_there. graph_held.pieces.unpromised address seat words (piece_was config freed_region block address (promised seat words) piece_there).1;
      unheld = λ address seat words piece_there. graph_held.pieces.unheld address seat words (piece_was config freed_region block address (hand seat words) piece_there).1;
      uncarved = λ address seat words piece_there. graph_held.pieces.uncarved address seat words (piece_was config freed_region block address (carved seat words) piece_there).1;
      some = λ left_address piece piece_there. graph_held.pieces.some left_address piece (piece_was config freed_region block left_address piece piece_there).1;
    };
    free_word = free_again config freed_region memory block graph_held.objects.plotted graph_held.pieces.some owner owned graph_held.free_word owned_none still_none;
    shared_one = shared_one;
    buffers = buffers;
    asking = asking;
    next = record { asked = graph_held.next.asked; promised = graph_held.next.promised; given = graph_held.next.given };
    unreached = graph_held.unreached;
  }
