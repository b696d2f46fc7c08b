-- Words that hold a graph hold it by other pieces, too, where what can be reached stands as it stood and no new object does.
use Rattle.std.proofs.Common.{slice_get, ◌≡◌, ◌≢◌, ℕ, ◌+◌, ◌<◌, ◌≤◌, false, Some, None, Option, inl, inr, ⊎_elim, ap, ◌∙◌, arith}
use Rattle.std.specs.Int.{bit_at}
use Rattle.std.proofs.lemmas.Bool.{cond-false, false_from_ne_true}
use Rattle.std.proofs.lemmas.Nat.Bits.{bit_at-zero}
use Rattle.std.proofs.lemmas.Option.{slice_get_within}
use Rattle.heap_words.specs.declared.config.Config.{Config}
use Rattle.heap_words.specs.Words.{Word, Cset, Top, Root, Answer, Pin, Heap}
use Rattle.heap_words.specs.Encoding.{is_forwarded, forwardee_in, refs_in}
use Rattle.regions.specs.Place.{region_with}
use Rattle.shen_graph.specs.declared.name.Name.{Name}
use Rattle.shen_graph.specs.declared.pin.Pinned.{Pinned}
use Rattle.shen_graph.specs.Graph.{Graph, Reference, Object}
use Rattle.heap_world.specs.World.{Plot, thing, name_at, Points, IsPlotted, IsThing}
use Rattle.image_graph.specs.Held.{IsAmong, IsCopy, HoldsGraph}
use Rattle.image_graph.specs.Full.{now_in, held_words}
use Rattle.image_graph.specs.Promised.{Promises, with_promised}
use Rattle.image_graph.specs.Image.{AnswerStands, PinWordStands, RootsStand}
use Rattle.image_graph.proofs.Reached.{refs_read, none_at_0}
use Rattle.image_graph.proofs.HeldRoots.{root_among, answer_among, pin_among, pin_stays}
use Rattle.image_graph.specs.Holds.{HoldsBy}
use Rattle.cycle_words.specs.Marking.WhileMarking.{CanBeReached}
use Rattle.cycle_words.proofs.Marking.Plain.{root_reached, field_reached}

-- an object reads as before where each of its fields stands for what it stood for
pub object_stands : (heap : ℕ → ℕ) (block left_plot : Plot) (address refs nums : ℕ) (name : Name) (object : Object)
    → ((index : ℕ) (reference : Reference) → slice_get object.refs index ≡ Some reference → index < refs → Points block (heap (address + 3 + index)) reference → Points left_plot (heap (address + 3 + index)) reference)
    → IsThing heap block address refs nums name object → IsThing heap left_plot address refs nums name object
object_stands heap block left_plot address refs nums name object references_stay thing_there = record {
  header = thing_there.header;
  shape = thing_there.shape;
  name_word = thing_there.name_word;
  few_refs = thing_there.few_refs;
  few_nums = thing_there.few_nums;
  refs_are = thing_there.refs_are;
  nums_are = thing_there.nums_are;
  references = λ index reference reference_there. (let index_within = slice_get_within object.refs index reference reference_there in references_stay index reference reference_there (omega (arith, index_within, thing_there.refs_are)) (thing_there.references index reference reference_there));
  numbers = thing_there.numbers;
}

-- while no region is in the collection set no object has moved
pub calm_unmoved : (config : Config) (memory : Word → ℕ) (block : Plot) (owner : ℕ → Option ℕ) (promises : Promises) (graph : Graph) → HoldsBy config memory block owner promises graph → memory Cset ≡ 0
    → (address refs nums : ℕ) (name : Name) → block address ≡ Some (thing name refs nums) → is_forwarded (memory (Heap address)) ≡ false
calm_unmoved config memory block owner promises graph graph_held set_empty address refs nums name object_there = false_from_ne_true (is_forwarded (memory (Heap address))) (λ forwarded.
    let object_moved = graph_held.moved address refs nums name object_there forwarded in
    let not_collected : bit_at (memory Cset) (region_with config address) ≡ 0 = ap (λ given_set. bit_at given_set (region_with config address)) set_empty ∙ bit_at-zero (region_with config address) in
    let region_collected = object_moved.in_set in
    omega (arith, region_collected, not_collected))

-- where each piece that stands for a name is an object, and none has moved, each is its own current copy
pub own_current : (memory : Word → ℕ) (left_plot : Plot) → ((address : ℕ) (name : Name) → name_at (left_plot address) ≡ Some name → IsCopy left_plot address name)
    → ((address refs nums : ℕ) (name : Name) → left_plot address ≡ Some (thing name refs nums) → is_forwarded (memory (Heap address)) ≡ false)
    → (address : ℕ) (name : Name) → name_at (left_plot address) ≡ Some name → IsCopy left_plot (now_in memory address) name
own_current memory left_plot named unmoved address name name_there =
    let piece = named address name name_there in
    let own_word = cond-false (is_forwarded (memory (Heap address))) (forwardee_in (memory (Heap address))) address (unmoved address piece.0 piece.1 name piece.2) in
    (piece.0, piece.1, ap left_plot own_word ∙ piece.2)

-- What names lead to stands as it stood, each piece that stands for a name has its current copy, and each object was one.
pub record IsTrimmed (config : Config) (memory : Word → ℕ) (block : Plot) (new_top : ℕ → ℕ) (left : Plot) : Type 0 where
  pub plotted : IsPlotted config new_top left
  pub roots : (word : ℕ) → IsAmong (held_words config memory) word → word ≢ 0 → left word ≡ block word
  pub fields : (address i : ℕ) → CanBeReached config memory address → i < refs_in (memory (Heap (address + 1))) → memory (Heap (address + 3 + i)) ≢ 0 → left (memory (Heap (address + 3 + i))) ≡ block (memory (Heap (address + 3 + i)))
  pub current : (address : ℕ) (name : Name) → name_at (left address) ≡ Some name → IsCopy left (now_in memory address) name
  pub was : (address refs nums : ℕ) (name : Name) → left address ≡ Some (thing name refs nums) → block address ≡ Some (thing name refs nums)

-- so it is while no region is in the collection set, where what can be reached stands as it stood
pub calm_trimmed : (config : Config) (memory : Word → ℕ) (block : Plot) (owner : ℕ → Option ℕ) (promises : Promises) (graph : Graph) → HoldsBy config memory block owner promises graph → memory Cset ≡ 0
    → (new_top : ℕ → ℕ) (left_plot : Plot) → IsPlotted config new_top left_plot → ((address : ℕ) → CanBeReached config memory address → left_plot address ≡ block address)
    → ((address : ℕ) (name : Name) → name_at (left_plot address) ≡ Some name → IsCopy left_plot address name)
    → ((address refs nums : ℕ) (name : Name) → left_plot address ≡ Some (thing name refs nums) → block address ≡ Some (thing name refs nums)) → IsTrimmed config memory block new_top left_plot
calm_trimmed config memory block owner promises graph graph_held set_empty new_top left_plot plotted reached_stays named were_there = record {
  plotted = plotted;
  roots = λ word among some_word. reached_stays word (root_reached config memory block owner promises graph graph_held set_empty word among some_word);
  fields = λ address field is_held few some_word. reached_stays (memory (Heap (address + 3 + field))) (field_reached config memory block owner promises graph graph_held set_empty address field is_held few some_word);
  current = own_current memory left_plot named (λ address refs nums name object_there. calm_unmoved config memory block owner promises graph graph_held set_empty address refs nums name (were_there address refs nums name object_there));
  was = were_there;
}

module _ (config : Config) (memory : Word → ℕ) (block : Plot) (owner : ℕ → Option ℕ) (promises : Promises) (graph : Graph) (graph_held : HoldsBy config memory block owner promises graph)
    (new_top : ℕ → ℕ) (left_plot : Plot) (is_trimmed : IsTrimmed config memory block new_top left_plot) where
  abbrev heap : ℕ → ℕ
  heap address = memory (Heap address)

  abbrev top : ℕ → ℕ
  top region = memory (Top region)

  abbrev IsRoot : ℕ → Type 0
  IsRoot = IsAmong (held_words config memory)

  abbrev more : Graph
  more = with_promised graph promises

  named_stays : (word : ℕ) → left_plot word ≡ block word → name_at (left_plot word) ≡ name_at (block word)
  named_stays word piece_stays = ap name_at piece_stays

  points_stay : (word : ℕ) (reference : Reference) → (word ≢ 0 → left_plot word ≡ block word) → Points block word reference → Points left_plot word reference
  points_stay word None piece_stays points = points
  points_stay word (Some name) piece_stays points =
      let some_word = none_at_0 config top block graph_held.objects.plotted word name points in
      named_stays word (piece_stays some_word) ∙ points

  object_stays : (address refs nums : ℕ) (name : Name) (object : Object) → CanBeReached config memory address → IsThing heap block address refs nums name object → IsThing heap left_plot address refs nums name object
  object_stays address refs nums name object is_held thing_there =
      let same_shape : refs_in (heap (address + 1)) ≡ refs = ap refs_in thing_there.shape ∙ refs_read refs nums thing_there.few_refs thing_there.few_nums in
      object_stands heap block left_plot address refs nums name object
      (λ field reference reference_there index_below points. points_stay (heap (address + 3 + field)) reference
      (λ some_word. is_trimmed.fields address field is_held (omega (arith, index_below, same_shape)) some_word)
      points)
      thing_there

  pub trimmed_objects : HoldsGraph config new_top heap left_plot (now_in memory) IsRoot more
  trimmed_objects = record {
    plotted = is_trimmed.plotted;
    current = is_trimmed.current;
    each = λ address refs nums name is_held stands_there.
        let object = graph_held.objects.each address refs nums name is_held (is_trimmed.was address refs nums name stands_there) in
        (object.0, object.1, object_stays address refs nums name object.0 is_held object.2);
    once = λ address other_address refs nums other_refs other_nums name is_held other_held first_there second_there.
        graph_held.objects.once address other_address refs nums other_refs other_nums name is_held other_held (is_trimmed.was address refs nums name first_there) (is_trimmed.was other_address other_refs other_nums name second_there);
    root_named = λ word among some_word.
        let named_then = graph_held.objects.root_named word among some_word in
        (named_then.0, named_then.1, named_then.2, named_then.3, named_stays word (is_trimmed.roots word among some_word) ∙ named_then.4);
    root_held = λ mutator index name stands_there.
        let is_held = graph_held.objects.root_held mutator index name stands_there in
        let some_word = none_at_0 config top block graph_held.objects.plotted is_held.0 name is_held.2 in
        (is_held.0, is_held.1, named_stays is_held.0 (is_trimmed.roots is_held.0 is_held.1 some_word) ∙ is_held.2);
    pinless = graph_held.objects.pinless;
  }

  answer_stays : (word : ℕ) (reference : Reference) → (1 < word → left_plot word ≡ block word) → AnswerStands block word reference → AnswerStands left_plot word reference
  answer_stays word reference piece_stays stands = ⊎_elim
      (λ (no_answer : (word ≤ 1) × (reference ≡ None)). inl no_answer)
      (λ (some_answer : (1 < word) × (name : Name) × (reference ≡ Some name) × (name_at (block word) ≡ Some name)).
      inr (some_answer.0, some_answer.1, some_answer.2, named_stays word (piece_stays some_answer.0) ∙ some_answer.3))
      stands

  slot_stays : (word : ℕ) (pinned : Option Pinned) → (word ≢ 0 → left_plot word ≡ block word) → PinWordStands memory block word pinned → PinWordStands memory left_plot word pinned
  slot_stays word pinned piece_stays = pin_stays memory memory block left_plot word pinned
      (λ name copy plain. ((copy.0, copy.1, piece_stays (none_at_0 config top block graph_held.objects.plotted word name (ap name_at copy.2)) ∙ copy.2), plain))

  pub trimmed_rooted : RootsStand config memory left_plot graph promises
  trimmed_rooted = record {
    roots = λ mutator index number_below few.
        points_stay (memory (Root mutator index)) (graph.root (mutator + 1) index)
        (is_trimmed.roots (memory (Root mutator index)) (root_among config top memory block graph promises graph_held.objects.plotted graph_held.rooted mutator index number_below few))
        (graph_held.rooted.roots mutator index number_below few);
    answers = λ mutator number_below.
        answer_stays (memory (Answer mutator)) (promises.ref (mutator + 1))
        (λ some_word. is_trimmed.roots (memory (Answer mutator)) (answer_among config top memory block graph promises graph_held.objects.plotted graph_held.rooted mutator number_below some_word) (λ is_zero. omega (arith, some_word, is_zero)))
        (graph_held.rooted.answers mutator number_below);
    no_more_roots = graph_held.rooted.no_more_roots;
    pins = λ mutator index number_below few.
        slot_stays (memory (Pin mutator index)) (graph.pin (mutator + 1) index)
        (is_trimmed.roots (memory (Pin mutator index)) (pin_among config top memory block graph promises graph_held.objects.plotted graph_held.rooted mutator index number_below few))
        (graph_held.rooted.pins mutator index number_below few);
    no_more_pins = graph_held.rooted.no_more_pins;
    no_more_promised = graph_held.rooted.no_more_promised;
  }
