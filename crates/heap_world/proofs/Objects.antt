-- A word of an object changes, and the graph's object with it.
use Rattle.std.proofs.Common.{◌≡◌, ◌≢◌, ℕ, ◌+◌, ◌<◌, ◌≤◌, ◌⊎◌, inl, inr, true, false, List, length, Option, Some, ⊎_elim, refl, sym, ap, ◌∙◌, subst, arith}
use Rattle.std.specs.Prelude.{if◌then◌else◌, slice_get, slice_set}
use Rattle.std.proofs.lemmas.Bool.{cases_Bool, cases_eq, cond-true, cond-false}
use Rattle.std.proofs.lemmas.List.{length-set}
use Rattle.std.proofs.lemmas.Option.{none-some, same_Some, slice_get_within, slice_get-get_or}
use Rattle.heap_words.proofs.Lists.{slice_get-set_other, slice_get-set_same}
use Rattle.heap_words.specs.declared.config.Config.{Config}
use Rattle.heap_words.specs.Words.{Phase, Cset, Evac, Claim, Free, Grey, Black, Count, Buffer, Heap, Top, Tams, Limit, write}
use Rattle.heap_words.specs.Ranges.{seat_count}
use Rattle.shen_graph.specs.declared.name.Name.{Name}
use Rattle.shen_graph.specs.Graph.{Reference, Object, Graph, same_name}
use Rattle.shen_graph.proofs.PlainLemmas.{same_name-true, same_name-itself}
use Rattle.heap_world.specs.World.{World, Block, thing, moved, spent, promised, dead, filler, words_of, room_of, Plot, Body, body_at, body_words, IsCollected, Points, TargetIn, IsPlotted, IsThing, AreObjects, IsMarkable, IsCurrent, NeedsNoMarking, IsCovered, NotedIn, Shared}
use Rattle.heap_world.specs.Rely.{Rely}
use Rattle.heap_world.proofs.FunctionUpdates.{updated, updated_same, updated_else}
use Rattle.heap_world.proofs.Unwritten.{unwritten_stays}
use Rattle.heap_world.proofs.Marked.{rely_marks, marked_stored}
use Rattle.heap_world.proofs.Copies.{same_plot, rely_copies, not_quiet}
use Rattle.heap_world.proofs.Evacuated.{evacuated_words}
use Rattle.heap_world.proofs.Updated.{updated_stored}
use Rattle.heap_world.proofs.Fields.{fields_stored}
use Rattle.heap_world.proofs.Pointing.{body_piece}
use Rattle.heap_world.proofs.Apart.{one_piece}
use Rattle.heap_world.proofs.Pieces.{object_reads}

-- an element that was set
get_set_same : {X : Type 0} (xs : List X) (index : ℕ) (x : X) → index < length xs → slice_get (slice_set xs index x) index ≡ Some x
get_set_same xs index x index_below = slice_get-set_same xs index _ x (slice_get-get_or xs index x index_below)

-- the test on two names
pub two_names : (name other_name : Name) → name ≢ other_name → same_name name other_name ≡ false
two_names name other_name names_differ = ⊎_elim (λ tested. absurd (names_differ (same_name-true name other_name tested))) (λ tested. tested) (cases_Bool (same_name name other_name))

module _ (heap : ℕ → ℕ) (block : Plot) (address refs nums : ℕ) (name : Name) (object : Object) (object_stands : IsThing heap block address refs nums name object) where
  -- a reference field of an object is another
  pub field_stored : (field value : ℕ) (reference : Reference) → field < refs → Points block value reference
      → IsThing (updated heap (address + 3 + field) value) block address refs nums name (record { refs = slice_set object.refs field reference; nums = object.nums })
  field_stored field value reference field_below points =
      let old : (word_address : ℕ) → address + 3 + field ≢ word_address → updated heap (address + 3 + field) value word_address ≡ heap word_address = updated_else heap (address + 3 + field) value in
      record {
        header = old address (omega arith) ∙ object_stands.header;
        shape = old (address + 1) (omega arith) ∙ object_stands.shape;
        name_word = old (address + 2) (omega arith) ∙ object_stands.name_word;
        few_refs = object_stands.few_refs;
        few_nums = object_stands.few_nums;
        refs_are = length-set object.refs field reference ∙ object_stands.refs_are;
        nums_are = object_stands.nums_are;
        references = λ index field_reference field_there. ⊎_elim
            (λ same_place.
            let word_is : updated heap (address + 3 + field) value (address + 3 + index) ≡ value = updated_same heap (address + 3 + field) value (address + 3 + index) (omega (arith, same_place)) in
            let is_here : slice_get (slice_set object.refs field reference) index ≡ Some reference = ap (λ index. slice_get (slice_set object.refs field reference) index) same_place ∙ get_set_same object.refs field reference (omega (arith, object_stands.refs_are)) in
            let reference_is : field_reference ≡ reference = same_Some field_reference reference (sym field_there ∙ is_here) in
            rw (word_is, reference_is) points)
            (λ places_differ.
            let word_is : updated heap (address + 3 + field) value (address + 3 + index) ≡ heap (address + 3 + index) = old (address + 3 + index) (λ same_place. places_differ (omega arith)) in
            rw word_is (object_stands.references index field_reference (sym (slice_get-set_other object.refs field index reference places_differ) ∙ field_there)))
            (cases_eq index field);
        numbers = λ asked_index number field_there. old (address + 3 + refs + asked_index) (omega arith) ∙ object_stands.numbers asked_index number field_there;
      }

  -- a number of an object is another
  pub number_stored : (index value : ℕ) → index < nums
      → IsThing (updated heap (address + 3 + refs + index) value) block address refs nums name (record { refs = object.refs; nums = slice_set object.nums index value })
  number_stored index value index_below =
      let old : (word_address : ℕ) → address + 3 + refs + index ≢ word_address → updated heap (address + 3 + refs + index) value word_address ≡ heap word_address = updated_else heap (address + 3 + refs + index) value in
      record {
        header = old address (omega arith) ∙ object_stands.header;
        shape = old (address + 1) (omega arith) ∙ object_stands.shape;
        name_word = old (address + 2) (omega arith) ∙ object_stands.name_word;
        few_refs = object_stands.few_refs;
        few_nums = object_stands.few_nums;
        refs_are = object_stands.refs_are;
        nums_are = length-set object.nums index value ∙ object_stands.nums_are;
        references = λ field_index reference number_there.
            let word_is : updated heap (address + 3 + refs + index) value (address + 3 + field_index) ≡ heap (address + 3 + field_index) = old (address + 3 + field_index) (omega (arith, object_stands.refs_are, slice_get_within object.refs field_index reference number_there)) in
            rw word_is (object_stands.references field_index reference number_there);
        numbers = λ asked_index number number_there. ⊎_elim
            (λ same_place.
            let is_here : slice_get (slice_set object.nums index value) asked_index ≡ Some value = ap (λ asked_index. slice_get (slice_set object.nums index value) asked_index) same_place ∙ get_set_same object.nums index value (omega (arith, object_stands.nums_are)) in
            updated_same heap (address + 3 + refs + index) value (address + 3 + refs + asked_index) (omega (arith, same_place)) ∙ same_Some value number (sym is_here ∙ number_there))
            (λ places_differ. old (address + 3 + refs + asked_index) (λ same_place. places_differ (omega arith)) ∙ object_stands.numbers asked_index number (sym (slice_get-set_other object.nums index asked_index value places_differ) ∙ number_there))
            (cases_eq asked_index index);
      }

-- the objects where that of one name is another
abbrev pub where_object : (Name → Option Object) → Name → Object → Name → Option Object
where_object object name new_object asked_name = if same_name asked_name name then Some new_object else object asked_name

-- there is an object of a name afterwards only if there was one before, for the one that changes is one of them
object_before : (object : Name → Option Object) (name : Name) (before new_object : Object) → object name ≡ Some before → (asked_name : Name) (later_object : Object) → where_object object name new_object asked_name ≡ Some later_object
    → (earlier_object : Object) × (object asked_name ≡ Some earlier_object)
object_before object name before new_object was_there asked_name later_object is_there = ⊎_elim
    (λ same_tested. (before, ap object (same_name-true asked_name name same_tested) ∙ was_there))
    (λ not_same. (later_object, sym (cond-false (same_name asked_name name) (Some new_object) (object asked_name) not_same) ∙ is_there))
    (cases_Bool (same_name asked_name name))

-- One word of an object is another: the graph's object is the one that its words say, and all others are as before.
module _ (config : Config) (top heap : ℕ → ℕ) (block : Plot) (object : Name → Option Object) (plotted : IsPlotted config top block) (objects : AreObjects heap block object) where
  -- the objects after a word of one of them changed
  objects_stored : (address refs nums word_address value : ℕ) (name : Name) (new_object : Object) → block address ≡ Some (thing name refs nums) → address ≤ word_address → word_address < address + (3 + refs + nums)
      → IsThing (updated heap word_address value) block address refs nums name new_object → AreObjects (updated heap word_address value) block (where_object object name new_object)
  objects_stored address refs nums word_address value name new_object piece from_start to_end object_stands = record {
    each = λ asked_address asked_refs asked_nums asked_name thing_there. ⊎_elim
        (λ same_address.
        let pieces : Some (thing asked_name asked_refs asked_nums) ≡ Some (thing name refs nums) = sym thing_there ∙ ap block same_address ∙ piece in
        let name_is : asked_name ≡ name = cc in
        let refs_are : asked_refs ≡ refs = cc in
        let nums_are : asked_nums ≡ nums = cc in
        (new_object, cond-true (same_name asked_name name) (Some new_object) (object asked_name) (ap (λ any_name. same_name any_name name) name_is ∙ same_name-itself name), rw (same_address, name_is, refs_are, nums_are) object_stands))
        (λ addresses_differ.
        let before = objects.each asked_address asked_refs asked_nums asked_name thing_there in
        let names_differ : asked_name ≢ name = λ same_address. addresses_differ (objects.once asked_address address asked_refs asked_nums refs nums name (thing_there ∙ ap (λ name. Some (thing name asked_refs asked_nums)) same_address) piece) in (
          before.0,
          cond-false (same_name asked_name name) (Some new_object) (object asked_name) (two_names asked_name name names_differ) ∙ before.1,
          object_reads heap (updated heap word_address value) block block asked_address asked_refs asked_nums asked_name before.0
              (λ offset offset_below. updated_else heap word_address value (asked_address + offset) (λ same_address. addresses_differ (one_piece config top block plotted asked_address address (asked_address + offset) (thing asked_name asked_refs asked_nums) (thing name refs nums) thing_there piece (omega arith) (omega arith) (omega arith) (omega arith))))
              (λ x any_name named. named) before.2,
        ))
        (cases_eq asked_address address);
    once = objects.once;
  }

-- the world after a word of the heap is another, and the graph
abbrev pub stored : World → ℕ → ℕ → Graph → World
stored world word_address value graph = record { memory = write world.memory (Heap word_address) value; block = world.block; ghost = world.ghost; graph = graph }

-- the graph in which the object of a name is another, and the roots
abbrev pub changed : Graph → Name → Object → (ℕ → ℕ → Reference) → Graph
changed graph name object root = record { object = where_object graph.object name object; root = root; count = graph.count; pin = graph.pin }

module _ (config : Config) (world : World) (address refs nums word_address value : ℕ) (name : Name) (object : Object) (root : ℕ → ℕ → Reference) (shared : Shared config world) (target : TargetIn config world address refs nums name) where
  -- the words of another piece stay
  else_stays : address ≤ word_address → word_address < address + (3 + refs + nums) → (asked_address offset : ℕ) (piece : Block) → world.block asked_address ≡ Some piece → (piece ≡ thing name refs nums → ⊥) → offset < words_of piece
      → updated (λ address. world.memory (Heap address)) word_address value (asked_address + offset) ≡ world.memory (Heap (asked_address + offset))
  else_stays from_start to_end asked_address offset piece has_piece differs offset_below = updated_else (λ address. world.memory (Heap address)) word_address value (asked_address + offset) (λ same_word.
      let same_piece : asked_address ≡ address = one_piece config (λ region. world.memory (Top region)) world.block shared.parsable.plotted asked_address address (asked_address + offset) piece (thing name refs nums) has_piece target.piece (omega arith) (omega (arith, offset_below)) (omega (arith, same_word, from_start)) (omega (arith, same_word, to_end)) in
      differs (same_Some piece (thing name refs nums) (sym has_piece ∙ ap world.block same_piece ∙ target.piece)))

  -- so does its first word
  head_stays : address ≤ word_address → word_address < address + (3 + refs + nums) → (asked_address : ℕ) (piece : Block) → world.block asked_address ≡ Some piece → (piece ≡ thing name refs nums → ⊥) → 0 < words_of piece → updated (λ address. world.memory (Heap address)) word_address value asked_address ≡ world.memory (Heap asked_address)
  head_stays from_start to_end asked_address piece has_piece differs some_words =
      let header : asked_address + 0 ≡ asked_address = omega arith in
      ap (updated (λ address. world.memory (Heap address)) word_address value) (sym header) ∙ else_stays from_start to_end asked_address 0 piece has_piece differs some_words ∙ ap (λ address. world.memory (Heap address)) header

  -- a word of the object changes only where no seat copies, if the object lies in the set; an old copy is another piece
  copy_words_stay : address ≤ word_address → word_address < address + (3 + refs + nums) → (asked_address offset : ℕ) (body : Body) (seat : ℕ) → seat < seat_count config.mutators config.helpers → world.ghost.copying seat ≡ true → IsCollected config (world.memory Cset) asked_address → body_at (world.block asked_address) ≡ Some body → offset < body_words body
      → updated (λ address. world.memory (Heap address)) word_address value (asked_address + offset) ≡ world.memory (Heap (asked_address + offset))
  copy_words_stay from_start to_end asked_address offset body seat seated copies inside has_body offset_below =
      let body_there = body_piece (world.block asked_address) body has_body in
      updated_else (λ address. world.memory (Heap address)) word_address value (asked_address + offset) (λ same_word.
      let same_piece : asked_address ≡ address = one_piece config (λ region. world.memory (Top region)) world.block shared.parsable.plotted asked_address address (asked_address + offset) body_there.0 (thing name refs nums) body_there.1 target.piece (omega arith) (let same_words = body_there.2 in omega (arith, offset_below, same_words)) (omega (arith, same_word, from_start)) (omega (arith, same_word, to_end)) in
      not_quiet config (world.memory Evac) world.ghost.copying seat shared.evacuated.counted seated copies (target.safe (subst (λ any_address. IsCollected config (world.memory Cset) any_address) same_piece inside)))

  -- a field of the snapshot stays, or it is the one that is stored, and then it is covered
  field_stays : address ≤ word_address → word_address < address + (3 + refs + nums) → ((i : ℕ) → i < refs → word_address ≡ address + 3 + i → IsCovered config world address i)
      → (asked_address asked_refs asked_nums offset : ℕ) (asked_name : Name) → world.ghost.snapshot.block asked_address ≡ Some (thing asked_name asked_refs asked_nums) → offset < asked_refs
      → (updated (λ address. world.memory (Heap address)) word_address value (asked_address + 3 + offset) ≡ world.memory (Heap (asked_address + 3 + offset))) ⊎ NeedsNoMarking world.ghost.snapshot (NotedIn config world) asked_address offset
  field_stays from_start to_end covered asked_address asked_refs asked_nums offset asked_name thing_there offset_below = ⊎_elim
      (λ (same_word : word_address ≡ asked_address + 3 + offset).
      let kept_thing = shared.marked.kept asked_address asked_refs asked_nums asked_name thing_there in
      let same_piece : asked_address ≡ address = one_piece config (λ region. world.memory (Top region)) world.block shared.parsable.plotted asked_address address (asked_address + 3 + offset) (thing asked_name asked_refs asked_nums) (thing name refs nums) kept_thing target.piece
      (omega arith) (omega (arith, offset_below)) (omega (arith, same_word, from_start)) (omega (arith, same_word, to_end)) in
      let same_thing : Some (thing asked_name asked_refs asked_nums) ≡ Some (thing name refs nums) = sym kept_thing ∙ ap world.block same_piece ∙ target.piece in
      let refs_are : asked_refs ≡ refs = cc in
      inr (subst (λ any_address. NeedsNoMarking world.ghost.snapshot (NotedIn config world) any_address offset) (sym same_piece)
      (covered offset (omega (arith, offset_below, refs_are)) (omega (arith, same_word, same_piece)) asked_refs asked_nums asked_name (ap world.ghost.snapshot.block (sym same_piece) ∙ thing_there) offset_below)))
      (λ (other_word : word_address ≢ asked_address + 3 + offset). inl (updated_else (λ address. world.memory (Heap address)) word_address value (asked_address + 3 + offset) other_word))
      (cases_eq word_address (asked_address + 3 + offset))

  -- a field of an object stays, or it is the one that is stored, and then it is current
  current_field : address ≤ word_address → word_address < address + (3 + refs + nums) → ((i : ℕ) → i < refs → word_address ≡ address + 3 + i → IsCurrent world.block value)
      → (asked_address asked_refs asked_nums offset : ℕ) (asked_name : Name) → world.block asked_address ≡ Some (thing asked_name asked_refs asked_nums) → offset < asked_refs
      → (updated (λ address. world.memory (Heap address)) word_address value (asked_address + 3 + offset) ≡ world.memory (Heap (asked_address + 3 + offset))) ⊎ IsCurrent world.block (updated (λ address. world.memory (Heap address)) word_address value (asked_address + 3 + offset))
  current_field from_start to_end current asked_address asked_refs asked_nums offset asked_name thing_there offset_below = ⊎_elim
      (λ (same_word : word_address ≡ asked_address + 3 + offset).
      let same_piece : asked_address ≡ address = one_piece config (λ region. world.memory (Top region)) world.block shared.parsable.plotted asked_address address (asked_address + 3 + offset) (thing asked_name asked_refs asked_nums) (thing name refs nums) thing_there target.piece
      (omega arith) (omega (arith, offset_below)) (omega (arith, same_word, from_start)) (omega (arith, same_word, to_end)) in
      let same_thing : Some (thing asked_name asked_refs asked_nums) ≡ Some (thing name refs nums) = sym thing_there ∙ ap world.block same_piece ∙ target.piece in
      let refs_are : asked_refs ≡ refs = cc in
      inr (subst (IsCurrent world.block) (sym (updated_same (λ address. world.memory (Heap address)) word_address value (asked_address + 3 + offset) same_word))
      (current offset (omega (arith, offset_below, refs_are)) (omega (arith, same_word, same_piece)))))
      (λ (other_word : word_address ≢ asked_address + 3 + offset). inl (updated_else (λ address. world.memory (Heap address)) word_address value (asked_address + 3 + offset) other_word))
      (cases_eq word_address (asked_address + 3 + offset))

  -- what machines share, after a word of an object and the graph's object have changed. A field of the snapshot is covered, and one that
  -- is stored current.
  pub shared_stored : address ≤ word_address → word_address < address + (3 + refs + nums) → ((i : ℕ) → i < refs → word_address ≡ address + 3 + i → IsCovered config world address i) → ((i : ℕ) → i < refs → word_address ≡ address + 3 + i → IsCurrent world.block value)
      → IsThing (updated (λ address. world.memory (Heap address)) word_address value) world.block address refs nums name object
      → Shared config (stored world word_address value (changed world.graph name object root))
  shared_stored from_start to_end covered current object_stands = record {
    parsable = shared.parsable;
    contents = record {
      objects = objects_stored config (λ region. world.memory (Top region)) (λ address. world.memory (Heap address)) world.block world.graph.object shared.parsable.plotted shared.contents.objects address refs nums word_address value name object target.piece from_start to_end object_stands;
      given = λ asked_name asked_object stands.
          let old_contents = shared.contents.objects.each address refs nums name target.piece in
          let before = object_before world.graph.object name old_contents.0 object old_contents.1 asked_name asked_object stands in
          shared.contents.given asked_name before.0 before.1;
    };
    owned = shared.owned;
    phased = shared.phased;
    unwritten = unwritten_stays (λ address. world.memory (Heap address)) (updated (λ address. world.memory (Heap address)) word_address value) world.block world.block
        (λ asked_address seat words is_promised. (is_promised, λ offset offset_below. else_stays from_start to_end asked_address offset (promised seat words) is_promised (λ differ. cc) offset_below))
        (λ asked_address words is_dead. let long_enough = shared.parsable.deads asked_address words is_dead in (
          is_dead,
          head_stays from_start to_end asked_address (dead words) is_dead (λ differ. cc) (omega (arith, long_enough)),
          else_stays from_start to_end asked_address 1 (dead words) is_dead (λ differ. cc) (omega (arith, long_enough)),
        ))
        (λ asked_address words is_filler. (is_filler, head_stays from_start to_end asked_address (filler words) is_filler (λ differ. cc) (shared.parsable.fillers asked_address words is_filler)))
        shared.unwritten;
    marked = marked_stored config (world.memory Phase) (λ number. world.memory (Grey number)) (λ number. world.memory (Black number)) (λ mutator. world.memory (Count mutator)) (λ mutator entry. world.memory (Buffer mutator entry)) (λ region. world.memory (Top region)) (λ region. world.memory (Tams region))
        (λ address. world.memory (Heap address)) world.block world.ghost.snapshot world.ghost.recording world.ghost.scanning shared.marked (updated (λ address. world.memory (Heap address)) word_address value) (field_stays from_start to_end covered);
    evacuated = evacuated_words config (world.memory Phase) (world.memory Cset) (world.memory Evac) (world.memory Claim) (world.memory Free) (λ region. world.memory (Top region)) (λ region. world.memory (Tams region)) (λ address. world.memory (Heap address)) (λ number. world.memory (Black number))
        world.block world.ghost.owner world.ghost.copying world.ghost.working shared.evacuated (updated (λ address. world.memory (Heap address)) word_address value)
        (λ asked_address asked_refs asked_nums moved_to name is_old. (
          head_stays from_start to_end asked_address (moved name asked_refs asked_nums moved_to) is_old (λ differ. cc) (omega arith),
          else_stays from_start to_end asked_address 1 (moved name asked_refs asked_nums moved_to) is_old (λ differ. cc) (omega arith),
          else_stays from_start to_end asked_address 2 (moved name asked_refs asked_nums moved_to) is_old (λ differ. cc) (omega arith),
          λ offset offset_less. subst (λ address. updated (λ address. world.memory (Heap address)) word_address value address ≡ world.memory (Heap address)) (let stands : asked_address + (3 + offset) ≡ asked_address + 3 + offset = omega arith in stands)
              (else_stays from_start to_end asked_address (3 + offset) (moved name asked_refs asked_nums moved_to) is_old (λ differ. cc) (omega (arith, offset_less))),
        ))
        (λ asked_address words moved_to is_old. let long_enough = shared.parsable.spents asked_address words moved_to is_old in (head_stays from_start to_end asked_address (spent words moved_to) is_old (λ differ. cc) (omega (arith, long_enough)), else_stays from_start to_end asked_address 1 (spent words moved_to) is_old (λ differ. cc) (omega (arith, long_enough))));
    updated = λ updating. updated_stored config (world.memory Cset) (world.memory Claim) (λ region. world.memory (Top region)) (λ region. world.memory (Limit region)) (λ address. world.memory (Heap address)) world.block world.ghost.scanning (shared.updated updating)
        (updated (λ address. world.memory (Heap address)) word_address value) (current_field from_start to_end current);
    pinned = shared.pinned;
  }

  -- the shape of an object stays
  shape_stays : address ≤ word_address → word_address < address + (3 + refs + nums) → word_address ≢ address + 1 → (asked_address : ℕ) → IsMarkable world.block asked_address → updated (λ address. world.memory (Heap address)) word_address value (asked_address + 1) ≡ world.memory (Heap (asked_address + 1))
  shape_stays from_start to_end no_shape asked_address (IsMarkable.object asked_name asked_refs asked_nums piece_there) = updated_else (λ address. world.memory (Heap address)) word_address value (asked_address + 1) (λ same_word.
      let same_piece : asked_address ≡ address = one_piece config (λ region. world.memory (Top region)) world.block shared.parsable.plotted asked_address address (asked_address + 1) (thing asked_name asked_refs asked_nums) (thing name refs nums) piece_there target.piece (omega arith) (omega arith) (omega (arith, same_word, from_start)) (omega (arith, same_word, to_end)) in
      no_shape (omega (arith, same_word, same_piece)))
  shape_stays from_start to_end no_shape asked_address (IsMarkable.to_come seat words piece_there) =
      else_stays from_start to_end asked_address 1 (promised seat words) piece_there (λ differ. cc) (let long_enough = shared.parsable.promises asked_address seat words piece_there in omega (arith, long_enough))

  -- and what another mutator relies on, if its roots are as before
  pub rely_stored : address + 3 ≤ word_address → word_address < address + (3 + refs + nums) → ((index : ℕ) → index < refs → word_address ≡ address + 3 + index → IsCurrent world.block value) → (seat : ℕ) → ((index : ℕ) → root (seat + 1) index ≡ world.graph.root (seat + 1) index)
      → Rely config seat world (stored world word_address value (changed world.graph name object root))
  rely_stored word_behind to_end current seat roots = let from_start : address ≤ word_address = omega (arith, word_behind) in record {
    names = λ asked_address n stands. stands;
    targets = λ address asked_refs asked_nums name has_target. record { piece = has_target.piece; safe = has_target.safe };
    rooms = λ asked_address piece stands room. stands;
    no_rooms = λ asked_address piece stands room. stands;
    room_words = λ asked_address offset piece stands room offset_below. updated_else (λ address. world.memory (Heap address)) word_address value (asked_address + offset) (λ same_word.
        let same_piece : asked_address ≡ address = one_piece config (λ region. world.memory (Top region)) world.block shared.parsable.plotted asked_address address (asked_address + offset) piece (thing name refs nums) stands target.piece (omega arith) (omega (arith, offset_below)) (omega (arith, same_word, from_start)) (omega (arith, same_word, to_end)) in
        none-some seat (ap room_of (same_Some (thing name refs nums) piece (sym target.piece ∙ ap world.block (sym same_piece) ∙ stands)) ∙ room));
    promises = λ asked_address words stands. stands;
    no_promises = λ address words stands. stands;
    promise_words = λ asked_address words offset stands offset_below. updated_else (λ address. world.memory (Heap address)) word_address value (asked_address + offset) (λ same_word.
        let same_piece : asked_address ≡ address = one_piece config (λ region. world.memory (Top region)) world.block shared.parsable.plotted asked_address address (asked_address + offset) (promised seat words) (thing name refs nums) stands target.piece (omega arith) (omega arith) (omega arith) (omega arith) in
        let same_thing : Some (promised seat words) ≡ Some (thing name refs nums) = sym stands ∙ ap world.block same_piece ∙ target.piece in
        cc);
    current = refl;
    opens = λ asked_region stands. stands;
    owners = λ region stands. stands;
    tops = λ asked_region stands. refl;
    root_words = λ slot. refl;
    roots = roots;
    pin_words = λ index. refl;
    pins = λ slot. refl;
    count = refl;
    wait = refl;
    answer = refl;
    state = refl;
    asked = λ stands. stands;
    marks = rely_marks config world (stored world word_address value (changed world.graph name object root)) seat refl (λ n. refl) (λ mutator. refl) (λ mutator offset. refl) refl (λ mutator. refl) refl (λ asked_address stands. stands)
        (shape_stays from_start to_end (λ same_word. omega (arith, same_word, word_behind)));
    copies = rely_copies config world (stored world word_address value (changed world.graph name object root)) seat (same_plot config world (stored world word_address value (changed world.graph name object root)) refl refl refl (λ asked_region stands. refl)) refl refl
        (λ asked_address offset body seated copies inside stands least_offset offset_below. copy_words_stay from_start to_end asked_address offset body seat seated copies inside stands offset_below);
    fields = fields_stored config world (stored world word_address value (changed world.graph name object root)) (λ asked_region. refl) (λ asked_region. refl) refl (λ asked_address words stands. stands) (λ asked_address words stands. stands) (λ updating. current_field from_start to_end current);
  }
