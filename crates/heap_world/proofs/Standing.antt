-- What follows where the words of a heap stand for a graph.
use Rattle.std.proofs.Common.{ℕ, ◌≡◌, ◌≢◌, ◌+◌, ◌-◌, ◌*◌, ◌/◌, ◌%◌, ◌^◌, ◌<◌, ◌≤◌, ◌==◌, ◌&&◌, true, ◌++◌, Option, Some, None, List, [], length, get_or, slice_get, unwrap_or, map, nat_eq, ltb, leb, arith, refl, ap, sym, ◌∙◌, subst, inl, inr}
use Rattle.std.proofs.lemmas.List.{get_or_past, get_or_default, get_or_append_left, get_or-append_right, ext_get_or, length-map, get_or-map}
use Rattle.std.proofs.lemmas.List.Folds.{list_any_at}
use Rattle.std.proofs.lemmas.Option.{slice_get-get_or, slice_get_within}
use Rattle.std.proofs.lemmas.Bool.{eq-eqb, ne_eqb, cond-true, cond-false, cases_lt, cases_Bool}
use Rattle.std.proofs.lemmas.Map.Views.{Contains-from_any, exact_unsigned_eq}
use Rattle.heap_words.specs.Encoding.{refs_in, nums_in, shape_word, thread_in, count_in, name_code}
use Rattle.heap_words.proofs.Shapes.{refs_in-shape_word, nums_in-shape_word}
use Rattle.shen_graph.specs.declared.name.Name.{Name}
use Rattle.shen_graph.specs.declared.pin.Pinned.{Pinned}
use Rattle.shen_graph.specs.Graph.{Graph, Object, Reference, named}
use Rattle.shen_graph.specs.Reach.{IsReachable, from_root as reach_root, from_pin as reach_pin, from_field as reach_field, size}
use Rattle.shen_graph.specs.Step.{name_in}
use Rattle.heap_world.specs.Objects.{Refers}
use Rattle.shen_graph.specs.GraphText.{row_in}
use Rattle.heap_world.specs.Walk.{has, shape_at, refs_at, nums_at, size_at, current_at, currents, Leads, from_root, from_field, IsWalkable}
use Rattle.heap_world.specs.Stands.{current_of, IsAt, HoldsPin}
use Rattle.heap_world.specs.Rows.{name_in_heap, reference_in, row_in_heap, cell_word, root_word, pin_word}
use Rattle.heap_world.specs.Shows.{WordsStand}
use Rattle.heap_world.proofs.CopyRows.{plain_current, current_same, current_null}
use Rattle.heap_world.proofs.ObjectRows.{length-refs_at, length-nums_at, get_or-refs_at, get_or-nums_at}
use Rattle.heap_world.proofs.TakenDown.{has-left, has-right}
use Rattle.heap_world.proofs.CellRows.{cell_word-at}

-- what is known of the current copy at an address
pub record Facts (first : ℕ) (heap : List ℕ) (graph : Graph) (a : ℕ) (n : Name) (o : Object) : Type 0 where
  pub refs : refs_in (shape_at heap (a - first)) ≡ length o.refs
  pub nums : nums_in (shape_at heap (a - first)) ≡ length o.nums
  pub words : size_at heap (a - first) ≡ size o
  pub within : a - first + size_at heap (a - first) ≤ length heap
  pub name : name_in_heap heap (a - first) ≡ n
  pub object : named graph (Some n) ≡ o

code_thread : (thread count : ℕ) → count < 2 ^ 32 → thread_in (name_code thread count) ≡ thread
code_thread thread count count_below = omega arith

code_count : (thread count : ℕ) → count < 2 ^ 32 → count_in (name_code thread count) ≡ count
code_count thread count count_below = omega arith

name_back : (name : Name) (code : ℕ) → name.count < 2 ^ 32 → code ≡ name_code name.thread name.count
    → record { thread = thread_in code; count = count_in code } ≡ name
name_back name code count_below code_is =
    ap (λ any_thread. record { thread = any_thread; count = count_in code }) (ap thread_in code_is ∙ code_thread name.thread name.count count_below)
    ∙ ap (λ any_count. record { thread = name.thread; count = any_count }) (ap count_in code_is ∙ code_count name.thread name.count count_below)

-- the word of a cell that is not null is one of the cells' words
has-cell_word : (cells : ℕ) (words : List ℕ) (thread index : ℕ) → cell_word cells words thread index ≢ 0 → has words (cell_word cells words thread index) ≡ true
has-cell_word cells words thread index not_null =
    let cell_place = cells * (thread - 1) + index in
    elim (cases_Bool (leb 1 thread && ltb index cells)) [
      | inl in_cells ↦ (let cell_reads : cell_word cells words thread index ≡ get_or words cell_place 0 = cond-true (leb 1 thread && ltb index cells) (get_or words cell_place 0) 0 in_cells in
          elim (cases_lt cell_place (length words)) [
            | inl low ↦ list_any_at (nat_eq (cell_word cells words thread index)) words cell_place 0 low (eq-eqb (cell_word cells words thread index) (get_or words cell_place 0) cell_reads)
            | inr past_words ↦ absurd (not_null (cell_reads ∙ get_or_past words cell_place 0 past_words))
          ])
      | inr reads_none ↦ absurd (not_null (cond-false (leb 1 thread && ltb index cells) (get_or words cell_place 0) 0 reads_none))
    ]

-- where a word that a list has stands in it
place_from-has : (xs : List ℕ) (word : ℕ) → has xs word ≡ true → (index : ℕ) × (index < length xs) × (get_or xs index 0 ≡ word)
place_from-has xs word list_has =
    let found_place = Contains-from_any exact_unsigned_eq word xs list_has in
    (found_place.0, found_place.1, get_or_default xs found_place.0 0 word found_place.1 ∙ found_place.2)

-- a word of an object, by its address and by its index
shift : (first address index : ℕ) → first ≤ address → address + index - first ≡ address - first + index
shift first address index at_most = omega arith

shift_field : (first address index : ℕ) → first ≤ address → address + 3 + index - first ≡ address - first + 3 + index
shift_field first address index at_most = omega arith

shift_number : (first address refs read_refs index : ℕ) → first ≤ address → read_refs ≡ refs → address - first + 3 + read_refs + index ≡ address + 3 + refs + index - first
shift_number first address refs read_refs index at_most same_count = omega arith

module _ (first : ℕ) (heap roots pins : List ℕ) (standing : ℕ → Option Name) (graph : Graph) (first_positive : 1 ≤ first) (words_stand : WordsStand first heap roots pins standing graph) where
  -- no object stands at 0
  never_null : (word : ℕ) (name : Name) → standing word ≡ Some name → word ≢ 0
  never_null word name name_there is_zero = omega (arith, (words_stand.each word name name_there).above)

  abbrev pub words : ℕ → ℕ
  words address = get_or heap (address - first) 0

  -- the current copy of an object is at an address
  abbrev pub IsHere : ℕ → Name → Type 0
  IsHere address name = (standing address ≡ Some name) × (current_of words address ≡ address)

  pub object_at : (address : ℕ) (name : Name) → IsHere address name → (object : Object) × IsAt first (first + length heap) words standing graph address name object
  object_at address name copy_here =
      let object_found = words_stand.object address name copy_here.0 in
      (object_found.0, subst (λ address. IsAt first (first + length heap) words standing graph address name object_found.0) copy_here.1 object_found.1)

  -- so it is of each word that names an object
  current_here : (word : ℕ) (name : Name) → standing word ≡ Some name → IsHere (current_of words word) name
  current_here word name name_there = ((words_stand.each word name name_there).current, plain_current words (current_of words word) (words_stand.object word name name_there).1.words.header)

  current_is : (address : ℕ) (name : Name) → standing address ≡ Some name → IsHere (current_at first heap address) name
  current_is address name name_there = subst (λ place. IsHere place name) (sym (current_same first heap address (never_null address name name_there))) (current_here address name name_there)

  -- a word that is not null and stands for a reference is where the object of a name stands
  refers-some : (word : ℕ) (reference : Reference) → Refers standing word reference → word ≢ 0 → (name : Name) × (reference ≡ Some name) × (standing word ≡ Some name)
  refers-some word None refers not_null = absurd (not_null refers)
  refers-some word (Some name) refers not_null = (name, refl, refers)

  pub facts : (address : ℕ) (name : Name) (copy_here : IsHere address name) → Facts first heap graph address name (object_at address name copy_here).0
  facts address name copy_here =
      let object = (object_at address name copy_here).0 in
      let placed = (object_at address name copy_here).1 in
      let object_words = placed.words in
      let address_above = placed.above in
      let next_word = sym (shift first address 1 address_above) in
      let same_shape : shape_at heap (address - first) ≡ shape_word (length object.refs) (length object.nums) = ap (λ index. get_or heap index 0) next_word ∙ object_words.shape in
      let same_refs : refs_in (shape_at heap (address - first)) ≡ length object.refs =
      ap refs_in same_shape ∙ refs_in-shape_word (length object.refs) (length object.nums) object_words.few_refs object_words.few_nums in
      let same_nums : nums_in (shape_at heap (address - first)) ≡ length object.nums =
      ap nums_in same_shape ∙ nums_in-shape_word (length object.refs) (length object.nums) object_words.few_refs object_words.few_nums in
      let same_words : size_at heap (address - first) ≡ size object = omega (arith, same_refs, same_nums) in
      let second_word = sym (shift first address 2 address_above) in
      record {
        refs = same_refs;
        nums = same_nums;
        words = same_words;
        within = omega (arith, placed.below, same_words);
        name = name_back name (get_or heap (address - first + 2) 0) placed.short_count (ap (λ index. get_or heap index 0) second_word ∙ object_words.name_word);
        object = ap (λ found_object. unwrap_or found_object (record { refs = []; nums = [] })) placed.object;
      }

  -- where a root's word is not null, an object stands that can be reached
  root_name : (index address : ℕ) → get_or roots index 0 ≡ address → address ≢ 0 → (name : Name) × (standing address ≡ Some name) × IsReachable graph name
  root_name index address word_is not_null =
      let thread = index / 16 + 1 in
      let root_index = index % 16 in
      let same_place : 16 * (index / 16) + index % 16 ≡ index = omega arith in
      let word : root_word roots thread root_index ≡ address = cell_word-at 16 roots (index / 16) root_index (omega arith) ∙ ap (λ index. get_or roots index 0) same_place ∙ word_is in
      let referred = refers-some address (graph.root thread root_index) (subst (λ (any_word : ℕ). Refers standing any_word (graph.root thread root_index)) word (words_stand.roots thread root_index)) not_null in
      (referred.0, referred.2, reach_root thread root_index referred.0 referred.1)

  -- a pin word refers to what its slot holds
  pin_refers : (word : ℕ) (held : Option Pinned) → HoldsPin words standing word held → Refers standing word (name_in held)
  pin_refers word None holds_pin = holds_pin
  pin_refers word (Some pinned) holds_pin = holds_pin.1

  -- and one that is not null is where the object stands that its slot holds
  pin_holds : (word : ℕ) (held : Option Pinned) → HoldsPin words standing word held → word ≢ 0 → (pinned : Pinned) × (held ≡ Some pinned) × (standing word ≡ Some pinned.name)
  pin_holds word None holds_pin not_null = absurd (not_null holds_pin)
  pin_holds word (Some pinned) holds_pin not_null = (pinned, refl, holds_pin.1)

  pin_name : (index address : ℕ) → get_or pins index 0 ≡ address → address ≢ 0 → (name : Name) × (standing address ≡ Some name) × IsReachable graph name
  pin_name index address word_is not_null =
      let thread = index / 4 + 1 in
      let slot = index % 4 in
      let same_place : 4 * (index / 4) + index % 4 ≡ index = omega arith in
      let word : pin_word pins thread slot ≡ address = cell_word-at 4 pins (index / 4) slot (omega arith) ∙ ap (λ index. get_or pins index 0) same_place ∙ word_is in
      let pin_found = pin_holds address (graph.pin thread slot) (subst (λ (any_word : ℕ). HoldsPin words standing any_word (graph.pin thread slot)) word (words_stand.pins thread slot)) not_null in
      (pin_found.0.name, pin_found.2, reach_pin thread slot pin_found.0 pin_found.1)

  -- so it is of each word of roots and pin slots
  start_name : (index address : ℕ) → get_or (roots ++ pins) index 0 ≡ address → address ≢ 0 → (name : Name) × (standing address ≡ Some name) × IsReachable graph name
  start_name index address word_is not_null =
      elim (cases_lt index (length roots)) [
        | inl low ↦ root_name index address (sym (get_or_append_left roots pins 0 index low) ∙ word_is) not_null
        | inr past_roots ↦ pin_name (index - length roots) address (sym (get_or-append_right roots pins (length roots) index 0 refl past_roots) ∙ word_is) not_null
      ]

  -- and so where a field's word of such an object is not null
  field_name : (holder address index : ℕ) (name : Name) (copy_here : IsHere holder name) → IsReachable graph name
      → index < length (refs_at heap (holder - first)) → get_or (refs_at heap (holder - first)) index 0 ≡ address → address ≢ 0
      → (held_name : Name) × (standing address ≡ Some held_name) × IsReachable graph held_name
  field_name holder address index name copy_here reach index_below word_is not_null =
      let object = (object_at holder name copy_here).0 in
      let facts_here = facts holder name copy_here in
      let field : index < refs_in (shape_at heap (holder - first)) = omega (arith, length-refs_at heap (holder - first) facts_here.within, index_below) in
      let field_below : index < length object.refs = omega (arith, facts_here.refs, field) in
      let holder_above = (object_at holder name copy_here).1.above in
      let field_place = shift_field first holder index holder_above in
      let word : get_or heap (holder + 3 + index - first) 0 ≡ address =
      ap (λ index. get_or heap index 0) field_place ∙ sym (get_or-refs_at heap (holder - first) index field) ∙ word_is in
      let reference = get_or object.refs index None in
      let reference_got : slice_get object.refs index ≡ Some reference = slice_get-get_or object.refs index None field_below in
      let referred = refers-some address reference (subst (λ (any_word : ℕ). Refers standing any_word reference) word ((object_at holder name copy_here).1.words.references index reference reference_got)) not_null in
      (referred.0, referred.2, reach_field name referred.0 index reach (ap (λ thing. slice_get thing.refs index) facts_here.object ∙ reference_got ∙ ap (λ thing. Some thing) referred.1))

  -- a current copy that is among those of some words is that of one of them
  copied_from : (words : List ℕ) (address : ℕ) → address ≢ 0 → has (currents first heap words) address ≡ true → (index : ℕ) × (index < length words) × (get_or words index 0 ≢ 0) × (current_at first heap (get_or words index 0) ≡ address)
  copied_from words address not_null is_among =
      let found_place = place_from-has (currents first heap words) address is_among in
      let index_below : found_place.0 < length words = omega (arith, length-map words (current_at first heap), found_place.1) in
      let copy_is : current_at first heap (get_or words found_place.0 0) ≡ address = sym (get_or-map (current_at first heap) words found_place.0 0 0 index_below) ∙ found_place.2 in
      (found_place.0, index_below, (λ null_word. not_null (sym copy_is ∙ current_null first heap (get_or words found_place.0 0) null_word)), copy_is)

  -- and the other way round
  has_current : (words : List ℕ) (address : ℕ) → has words address ≡ true → has (currents first heap words) (current_at first heap address) ≡ true
  has_current words address has_word =
      let found_place = place_from-has words address has_word in
      list_any_at (nat_eq (current_at first heap address)) (currents first heap words) found_place.0 0 (omega (arith, length-map words (current_at first heap), found_place.1))
      (eq-eqb (current_at first heap address) (get_or (currents first heap words) found_place.0 0) (ap (current_at first heap) (sym found_place.2) ∙ sym (get_or-map (current_at first heap) words found_place.0 0 0 found_place.1)))

  -- an address that roots lead to is where the current copy of an object is that can be reached
  pub led_name : (address : ℕ) → Leads first heap (roots ++ pins) address → (name : Name) × IsHere address name × IsReachable graph name
  led_name address (from_root from not_null is_among) =
      let found_copy = copied_from (roots ++ pins) address not_null is_among in
      let reached = start_name found_copy.0 (get_or (roots ++ pins) found_copy.0 0) refl found_copy.2 in
      (reached.0, subst (λ place. IsHere place reached.0) found_copy.3 (current_is (get_or (roots ++ pins) found_copy.0 0) reached.0 reached.1), reached.2)
  led_name address (from_field holder from led not_null is_among) =
      let holder_name = led_name holder led in
      let found_copy = copied_from (refs_at heap (holder - first)) address not_null is_among in
      let reached = field_name holder (get_or (refs_at heap (holder - first)) found_copy.0 0) found_copy.0 holder_name.0 holder_name.1 holder_name.2 found_copy.1 refl found_copy.2 in
      (reached.0, subst (λ place. IsHere place reached.0) found_copy.3 (current_is (get_or (refs_at heap (holder - first)) found_copy.0 0) reached.0 reached.1), reached.2)

  -- a word of roots and pin slots that names an object leads to its current copy
  start_led : (address : ℕ) (name : Name) → standing address ≡ Some name → has (roots ++ pins) address ≡ true → (copy : ℕ) × IsHere copy name × Leads first heap (roots ++ pins) copy
  start_led address name name_there among_starts =
      let current_copy = current_is address name name_there in
      (current_at first heap address, current_copy, from_root (current_at first heap address) (never_null (current_at first heap address) name current_copy.0) (has_current (roots ++ pins) address among_starts))

  -- and each object that can be reached has its current copy at such an address
  pub name_led : (name : Name) → IsReachable graph name → (copy : ℕ) × IsHere copy name × Leads first heap (roots ++ pins) copy
  name_led name (reach_root thread root its_name word_held) =
      let word = root_word roots thread root in
      let name_there : standing word ≡ Some name = subst (λ (reference : Reference). Refers standing word reference) word_held (words_stand.roots thread root) in
      start_led word name name_there (has-left roots pins word (has-cell_word 16 roots thread root (never_null word name name_there)))
  name_led _ (reach_pin thread slot pinned word_held) =
      let word = pin_word pins thread slot in
      let name_there : standing word ≡ Some pinned.name = (subst (λ (found : Option Pinned). HoldsPin words standing word found) word_held (words_stand.pins thread slot)).1 in
      start_led word pinned.name name_there (has-right roots pins word (has-cell_word 4 pins thread slot (never_null word pinned.name name_there)))
  name_led name (reach_field holder its_name held_field holder_reached word_held) =
      let holder_at = name_led holder holder_reached in
      let object = (object_at holder_at.0 holder holder_at.1).0 in
      let holder_facts = facts holder_at.0 holder holder_at.1 in
      let holder_index = holder_at.0 - first in
      let reference_got : slice_get object.refs held_field ≡ Some (Some name) = ap (λ any_object. slice_get any_object.refs held_field) (sym holder_facts.object) ∙ word_held in
      let field_below : held_field < length object.refs = slice_get_within object.refs held_field (Some name) reference_got in
      let field : held_field < refs_in (shape_at heap holder_index) = omega (arith, holder_facts.refs, field_below) in
      let word = get_or heap (holder_at.0 + 3 + held_field - first) 0 in
      let name_there : standing word ≡ Some name = (object_at holder_at.0 holder holder_at.1).1.words.references held_field (Some name) reference_got in
      let holder_above = (object_at holder_at.0 holder holder_at.1).1.above in
      let field_place = shift_field first holder_at.0 held_field holder_above in
      let word_listed : has (refs_at heap holder_index) word ≡ true =
      list_any_at (nat_eq word) (refs_at heap holder_index) held_field 0 (omega (arith, length-refs_at heap holder_index holder_facts.within, field))
      (eq-eqb word (get_or (refs_at heap holder_index) held_field 0) (ap (λ index. get_or heap index 0) field_place ∙ sym (get_or-refs_at heap holder_index held_field field))) in
      let current_copy = current_is word name name_there in
      (current_at first heap word, current_copy, from_field holder_at.0 (current_at first heap word) holder_at.2 (never_null (current_at first heap word) name current_copy.0) (has_current (refs_at heap holder_index) word word_listed))

  -- a word that names an object leads to words of the heap
  is_named : (address : ℕ) (name : Name) → standing address ≡ Some name → ((first ≤ address) × (address < first + length heap)) × ((first ≤ current_at first heap address) × (current_at first heap address + 3 ≤ first + length heap))
  is_named address name name_there =
      let copy = words_stand.each address name name_there in
      let current_copy = object_at (current_at first heap address) name (current_is address name name_there) in
      ((copy.above, copy.below), (current_copy.1.above, omega (arith, current_copy.1.below)))

  pub sound : IsWalkable first heap (roots ++ pins)
  sound = record {
    roots_named = (λ address is_among not_null. let found_place = place_from-has (roots ++ pins) address is_among in
        let reached = start_name found_place.0 address found_place.2 not_null in
        is_named address reached.0 reached.1);
    fields_named = (λ holder address led is_among not_null. let its_name = led_name holder led in
        let found_place = place_from-has (refs_at heap (holder - first)) address is_among in
        let reached = field_name holder address found_place.0 its_name.0 its_name.1 its_name.2 found_place.1 found_place.2 not_null in
        is_named address reached.0 reached.1);
    above = λ asked_address led. let its_name = led_name asked_address led in (object_at asked_address its_name.0 its_name.1).1.above;
    below = (λ asked_address led. let its_name = led_name asked_address led in
        omega (arith, (facts asked_address its_name.0 its_name.1).words, (object_at asked_address its_name.0 its_name.1).1.below));
    apart = (λ address other_address address_led other_led in_order. let its_name = led_name address address_led in
        let other_name = led_name other_address other_led in
        let object = object_at address its_name.0 its_name.1 in
        let lower : current_of words address < current_of words other_address = omega (arith, its_name.1.1, other_name.1.1, in_order) in
        let objects_apart = words_stand.apart address other_address its_name.0 other_name.0 object.0 its_name.1.0 other_name.1.0 object.1.object lower in
        omega (arith, (facts address its_name.0 its_name.1).words, objects_apart, its_name.1.1, other_name.1.1));
  }

  -- the reference that a word stands for is the one that is read from it
  pub reference_same : (address : ℕ) (reference : Reference) → Refers standing address reference → reference_in first heap address ≡ reference
  reference_same address None refers = cond-true (address == 0) None (Some (name_in_heap heap (current_at first heap address - first))) (eq-eqb address 0 refers)
  reference_same address (Some name) refers =
      cond-false (address == 0) None (Some (name_in_heap heap (current_at first heap address - first))) (ne_eqb address 0 (never_null address name refers))
      ∙ ap (λ any_name. Some any_name) (facts (current_at first heap address) name (current_is address name refers)).name

  -- so it is of a pin word
  pub pin_same : (address : ℕ) (held : Option Pinned) → HoldsPin words standing address held → reference_in first heap address ≡ name_in held
  pin_same address held holds_pin = reference_same address (name_in held) (pin_refers address held holds_pin)

  refs_same : (address : ℕ) (name : Name) (copy_here : IsHere address name)
      → map (reference_in first heap) (refs_at heap (address - first)) ≡ (object_at address name copy_here).0.refs
  refs_same address name copy_here =
      let object = (object_at address name copy_here).0 in
      let facts_here = facts address name copy_here in
      let object_index = address - first in
      let address_above = (object_at address name copy_here).1.above in
      let count : length (refs_at heap object_index) ≡ length object.refs = length-refs_at heap object_index facts_here.within ∙ facts_here.refs in
      let shown = reference_in first heap in
      let same_count : length (map shown (refs_at heap object_index)) ≡ length object.refs = length-map (refs_at heap object_index) shown ∙ count in
      ext_get_or None (map shown (refs_at heap object_index)) object.refs same_count
      (λ asked_index index_below.
      let field_below : asked_index < length object.refs = omega (arith, same_count, index_below) in
      let index_in_refs : asked_index < length (refs_at heap object_index) = omega (arith, count, field_below) in
      let field : asked_index < refs_in (shape_at heap object_index) = omega (arith, facts_here.refs, field_below) in
      let field_place = sym (shift_field first address asked_index address_above) in
      let reference = get_or object.refs asked_index None in
      get_or-map shown (refs_at heap object_index) asked_index 0 None index_in_refs
      ∙ ap shown (get_or-refs_at heap object_index asked_index field ∙ ap (λ index. get_or heap index 0) field_place)
      ∙ reference_same (get_or heap (address + 3 + asked_index - first) 0) reference
      ((object_at address name copy_here).1.words.references asked_index reference (slice_get-get_or object.refs asked_index None field_below)))

  nums_same : (address : ℕ) (name : Name) (copy_here : IsHere address name) → nums_at heap (address - first) ≡ (object_at address name copy_here).0.nums
  nums_same address name copy_here =
      let object = (object_at address name copy_here).0 in
      let facts_here = facts address name copy_here in
      let object_index = address - first in
      let address_above = (object_at address name copy_here).1.above in
      let count : length (nums_at heap object_index) ≡ length object.nums = length-nums_at heap object_index facts_here.within ∙ facts_here.nums in
      ext_get_or 0 (nums_at heap object_index) object.nums count
      (λ asked_index index_below.
      let number_below : asked_index < length object.nums = omega (arith, count, index_below) in
      let field : asked_index < nums_in (shape_at heap object_index) = omega (arith, facts_here.nums, number_below) in
      let number_place = shift_number first address (length object.refs) (refs_in (shape_at heap object_index)) asked_index address_above facts_here.refs in
      get_or-nums_at heap object_index asked_index field ∙ ap (λ index. get_or heap index 0) number_place
      ∙ (object_at address name copy_here).1.words.numbers asked_index (get_or object.nums asked_index 0) (slice_get-get_or object.nums asked_index 0 number_below))

  -- the row by the words of an object is its row in the graph
  pub row_same : (address : ℕ) (name : Name) → IsHere address name → row_in_heap first heap address ≡ row_in graph name
  row_same address name copy_here =
      let facts_here = facts address name copy_here in
      ap (λ any_name. record { name = any_name; refs = map (reference_in first heap) (refs_at heap (address - first)); nums = nums_at heap (address - first) }) facts_here.name
      ∙ ap (λ references. record { name = name; refs = references; nums = nums_at heap (address - first) }) (refs_same address name copy_here ∙ ap (λ any_object. any_object.refs) (sym facts_here.object))
      ∙ ap (λ numbers. record { name = name; refs = (named graph (Some name)).refs; nums = numbers }) (nums_same address name copy_here ∙ ap (λ any_object. any_object.nums) (sym facts_here.object))
