-- Words that stand for references, and the names and numbers of the objects that they lead to.
use Rattle.std.proofs.Common.{◌≡◌, ◌≢◌, ℕ, ◌+◌, ◌<◌, ◌≤◌, inl, inr, ⊎_elim, true, false, get_or, Some, None, refl, sym, ap, ◌∙◌, arith}
use Rattle.std.specs.Prelude.{◌==◌, ◌||◌, ◌^◌, Bool, is_some, slice_get, if◌then◌else◌}
use Rattle.std.proofs.lemmas.Bool.{and_from, cases_Bool, cases_eq, eq-eqb, ne_eqb, cond-true, cond-false, ltb-false}
use Rattle.std.proofs.lemmas.Bool.Decides.{nat_tests}
use Rattle.std.proofs.lemmas.Option.{same_Some, none-some, slice_get-get_or, slice_get_past}
use Rattle.heap_words.specs.declared.config.Config.{Config}
use Rattle.heap_words.specs.Words.{Heap, is_word}
use Rattle.heap_words.specs.Encoding.{shape_word, refs_in, nums_in, name_code}
use Rattle.shen_graph.specs.declared.name.Name.{Name}
use Rattle.shen_graph.specs.declared.command.Command.{Command}
use Rattle.shen_graph.specs.declared.command.Command.TheVariants.{Get, Set, Cas, Xchg, Rd, Wr, Pin}
use Rattle.shen_graph.specs.declared.command.Reply.TheVariants as reply
use Rattle.shen_graph.specs.Graph.{Reference, Object, Graph, same_name, same_reference, named, field_at, number_at}
use Rattle.shen_graph.specs.Step.{shown, answers, outcome, pinned_by}
use Rattle.shen_graph.proofs.PlainLemmas.{same_name-true, same_name-itself}
use Rattle.mutator.specs.Commands.{command_root, is_on_object, has_part}
use Rattle.mutator.specs.Rows.{name_in}
use Rattle.mutator.specs.Told.{name_the_same, shown_word}
use Rattle.heap_world.specs.World.{World, thing, name_at, body_of, Points, UsableIn, IsThing, Shared}
use Rattle.step_core.proofs.Machines.Stepped.{HasObject, NameTheSame, NameOthers}
use Rattle.heap_world.proofs.Pointing.{named_body, copy_cases, piece_word, null_if_0}

-- name words are equal exactly where their names are
same_codes : (name other_name : Name) → name.count < 2 ^ 32 → other_name.count < 2 ^ 32 → (name_code name.thread name.count == name_code other_name.thread other_name.count) ≡ same_name name other_name
same_codes name other_name small_m small_n = ⊎_elim
    (λ (same_thread : name.thread ≡ other_name.thread). let codes : (name_code name.thread name.count == name_code other_name.thread other_name.count) ≡ (name.count == other_name.count) = rw same_thread (grind (arith, nat_tests)) in rw (eq-eqb name.thread other_name.thread same_thread) codes)
    (λ (threads_differ : name.thread ≢ other_name.thread). rw (ne_eqb name.thread other_name.thread threads_differ) (ne_eqb _ _ (λ codes_equal. threads_differ (omega (arith, codes_equal, small_m, small_n)))))
    (cases_eq name.thread other_name.thread)

-- a name word reads as its name
pub name_read : (name : Name) → name.count < 2 ^ 32 → name_in (name_code name.thread name.count) ≡ name
name_read name count_small =
    let read = name_in (name_code name.thread name.count) in
    same_name-true read name (and_from _ _ (eq-eqb read.thread name.thread (omega arith)) (eq-eqb read.count name.count (omega arith)))

-- a shape word reads as its sizes
refs_read : (refs nums : ℕ) → refs ≤ 16 → nums ≤ 16 → refs_in (shape_word refs nums) ≡ refs
refs_read refs nums few_refs few_nums = omega arith

-- and of its numbers
nums_read : (refs nums : ℕ) → refs ≤ 16 → nums ≤ 16 → nums_in (shape_word refs nums) ≡ nums
nums_read refs nums few_refs few_nums = omega arith

-- the object that a root names, in a graph
named_object : (graph : Graph) (thread root : ℕ) (name : Name) (object : Object) → graph.root thread root ≡ Some name → graph.object name ≡ Some object → named graph (graph.root thread root) ≡ object
named_object graph thread root name object root_is object_there = rw (root_is, object_there) refl

-- a command pins no object where its root is null
none_either : (holds : Bool) (reference : Reference) → reference ≡ None → (if holds then None else reference) ≡ None
none_either true reference is_null = refl
none_either false reference is_null = is_null

pub pinned_on_null : (graph : Graph) (thread : ℕ) (command : Command) → graph.root thread (command_root command 0) ≡ None → pinned_by graph thread command ≡ None
pinned_on_null graph thread (Pin slot obj) root_is_null = none_either (is_some (graph.pin thread slot)) (graph.root thread obj) root_is_null
pinned_on_null graph thread _ root_is_null = refl

-- A command on an object is answered Bad where its root is null.
pub bad_on_null : (graph : Graph) (thread : ℕ) (command : Command) → is_on_object command ≡ true → graph.root thread (command_root command 0) ≡ None → outcome graph thread command ≡ answers reply.Bad graph
bad_on_null graph thread (Get dst src field) on_object root_is_null = rw root_is_null refl
bad_on_null graph thread (Set obj field val) on_object root_is_null = rw root_is_null refl
bad_on_null graph thread (Cas obj field expect val) on_object root_is_null = rw root_is_null refl
bad_on_null graph thread (Xchg dst obj field val) on_object root_is_null = rw root_is_null refl
bad_on_null graph thread (Rd obj index) on_object root_is_null = rw root_is_null refl
bad_on_null graph thread (Wr obj index value) on_object root_is_null = rw root_is_null refl
bad_on_null graph thread (Pin slot obj) on_object root_is_null = refl
bad_on_null graph thread _ on_object root_is_null = cc

module _ (config : Config) (world : World) (shared : Shared config world) where
  -- the name word of a copy of an object, current or old, whose count is small
  pub name_there : (address : ℕ) (name : Name) → name_at (world.block address) ≡ Some name → (world.memory (Heap (address + 2)) ≡ name_code name.thread name.count) × (name.count < 2 ^ 32)
  name_there address name name_is =
      let body = named_body (world.block address) name name_is in
      ⊎_elim
      (λ object_now. let object = shared.contents.objects.each address body.0 body.1 name object_now in (object.2.name_word, (shared.contents.given name object.0 object.1).small))
      (λ was_moved.
      let old = shared.evacuated.moved.moveds address body.0 body.1 was_moved.0 name was_moved.1 in
      let object = shared.contents.objects.each was_moved.0 body.0 body.1 name old.copy in
      (old.name_word, (shared.contents.given name object.0 object.1).small))
      (copy_cases (world.block address) (body_of name body.0 body.1) body.2)

  -- two current copies are at one address exactly where they are of one name
  same_targets : (address other_address : ℕ) (name other_name : Name) → UsableIn config world address → UsableIn config world other_address → name_at (world.block address) ≡ Some name → name_at (world.block other_address) ≡ Some other_name → name ≡ other_name → address ≡ other_address
  same_targets address other_address name other_name usable_a usable_b first_named second_named names_same = ⊎_elim
      (λ (null : address ≡ 0). absurd (none-some name (sym (null_if_0 config _ world.block shared.parsable.plotted address (Some name) first_named null))))
      (λ at_a. ⊎_elim
      (λ (null : other_address ≡ 0). absurd (none-some other_name (sym (null_if_0 config _ world.block shared.parsable.plotted other_address (Some other_name) second_named null))))
      (λ at_b.
      let first_name : at_a.0 ≡ name = same_Some at_a.0 name (sym (ap name_at at_a.3.piece) ∙ first_named) in
      let second_name : at_b.0 ≡ name = same_Some at_b.0 other_name (sym (ap name_at at_b.3.piece) ∙ second_named) ∙ sym names_same in
      shared.contents.objects.once address other_address at_a.1 at_a.2 at_b.1 at_b.2 name
      (at_a.3.piece ∙ ap (λ name. Some (thing name at_a.1 at_a.2)) first_name) (at_b.3.piece ∙ ap (λ name. Some (thing name at_b.1 at_b.2)) second_name))
      usable_b)
      usable_a

  -- words that may be used are equal exactly where they stand for equal references
  pub same_words : (address other_address : ℕ) (reference other_reference : Reference) → UsableIn config world address → UsableIn config world other_address → Points world.block address reference → Points world.block other_address other_reference → (address == other_address) ≡ same_reference reference other_reference
  same_words address other_address None None usable_a usable_b first_points second_points = eq-eqb address other_address (first_points ∙ sym second_points)
  same_words address other_address None (Some other_target) usable_a usable_b first_points second_points = ne_eqb address other_address (λ addresses_equal. none-some other_target (sym (null_if_0 config _ world.block shared.parsable.plotted other_address (Some other_target) second_points (sym addresses_equal ∙ first_points))))
  same_words address other_address (Some target) None usable_a usable_b first_points second_points = ne_eqb address other_address (λ addresses_equal. none-some target (sym (null_if_0 config _ world.block shared.parsable.plotted address (Some target) first_points (addresses_equal ∙ second_points))))
  same_words address other_address (Some name) (Some other_name) usable_a usable_b first_points second_points = ⊎_elim
      (λ (same_target : same_name name other_name ≡ true). eq-eqb address other_address (same_targets address other_address name other_name usable_a usable_b first_points second_points (same_name-true name other_name same_target)) ∙ sym same_target)
      (λ (names_differ : same_name name other_name ≡ false).
      ne_eqb address other_address (λ addresses_equal.
      let names_equal : name ≡ other_name = same_Some name other_name (sym first_points ∙ ap (λ address. name_at (world.block address)) addresses_equal ∙ second_points) in
      let same_target : same_name name other_name ≡ true = ap (λ x. same_name x other_name) names_equal ∙ same_name-itself other_name in
      absurd (cc))
      ∙ sym names_differ)
      (cases_Bool (same_name name other_name))

  -- two words name the same where they stand for one reference
  pub named_as_one : (address other_address : ℕ) (reference other_reference : Reference) → Points world.block address reference → Points world.block other_address other_reference → same_reference reference other_reference ≡ true → NameTheSame world.block address other_address
  named_as_one address other_address None None first_points second_points references_same = inl (first_points, second_points)
  named_as_one address other_address None (Some other_target) first_points second_points references_same = absurd (cc (references_same))
  named_as_one address other_address (Some target) None first_points second_points references_same = absurd (cc (references_same))
  named_as_one address other_address (Some name) (Some other_target) first_points second_points references_same = inr (name, first_points, second_points ∙ ap (λ x. Some x) (sym (same_name-true name other_target references_same)))

  -- and the other way round
  pub one_reference : (address other_address : ℕ) (reference other_reference : Reference) → Points world.block address reference → Points world.block other_address other_reference → NameTheSame world.block address other_address → same_reference reference other_reference ≡ true
  one_reference address other_address reference other_reference first_points second_points (inl null) =
      rw (null_if_0 config _ world.block shared.parsable.plotted address reference first_points null.0, null_if_0 config _ world.block shared.parsable.plotted other_address other_reference second_points null.1) refl
  one_reference address other_address None reference first_points second_points (inr both_named) = absurd (none-some both_named.0 (sym (null_if_0 config _ world.block shared.parsable.plotted address (Some both_named.0) both_named.1 first_points)))
  one_reference address other_address (Some target) None first_points second_points (inr both_named) = absurd (none-some both_named.0 (sym (null_if_0 config _ world.block shared.parsable.plotted other_address (Some both_named.0) both_named.2 second_points)))
  one_reference address other_address (Some target) (Some name) first_points second_points (inr both_named) =
      let target_is : target ≡ name = same_Some target both_named.0 (sym first_points ∙ both_named.1) ∙ sym (same_Some name both_named.0 (sym second_points ∙ both_named.2)) in
      ap (λ x. same_name x name) target_is ∙ same_name-itself name

  -- a word that is not null, and does not stand for the reference of another one, names an object that the other one does not
  pub named_otherwise : (address other_address : ℕ) (reference other_reference : Reference) → address ≢ 0 → Points world.block address reference → Points world.block other_address other_reference → same_reference reference other_reference ≡ false → NameOthers world.block address other_address
  named_otherwise address other_address None reference some_address first_points second_points references_differ = absurd (some_address first_points)
  named_otherwise address other_address (Some target) None some_address first_points second_points references_differ = record { name = target; is = first_points; other = inl second_points }
  named_otherwise address other_address (Some target) (Some name) some_address first_points second_points references_differ = record {
    name = target;
    is = first_points;
    other = inr (name, second_points, λ same_target. (let itself : same_name target name ≡ true = ap (λ x. same_name x name) same_target ∙ same_name-itself name in absurd (cc)));
  }

  -- the reply that shows a word shows the reference that it stands for
  pub shown_is : (value : ℕ) (reference : Reference) → Points world.block value reference → shown_word world.memory value ≡ shown reference
  shown_is value None points = cond-true (value == 0) _ _ (eq-eqb value 0 points)
  shown_is value (Some name) points =
      let not_null : (value == 0) ≡ false = ne_eqb value 0 (λ no_value. none-some name (sym (null_if_0 config _ world.block shared.parsable.plotted value (Some name) points no_value))) in
      let word = name_there value name points in
      cond-false (value == 0) _ _ not_null ∙ ap (λ name_word. reply.Ref (name_in name_word)) word.0 ∙ ap (λ shown_name. reply.Ref shown_name) (name_read name word.1)

  -- and otherwise they do not stand for one
  pub not_one : (address other_address : ℕ) (reference other_reference : Reference) → Points world.block address reference → Points world.block other_address other_reference → NameOthers world.block address other_address → same_reference reference other_reference ≡ false
  not_one address other_address None reference first_points second_points others = absurd (none-some others.name (sym (null_if_0 config _ world.block shared.parsable.plotted address (Some others.name) others.is first_points)))
  not_one address other_address (Some target) None first_points second_points others = refl
  not_one address other_address (Some name) (Some other_target) first_points second_points others = ⊎_elim
      (λ (same_target : same_name name other_target ≡ true).
      let name_is : others.name ≡ other_target = same_Some others.name name (sym others.is ∙ first_points) ∙ same_name-true name other_target same_target in
      absurd (⊎_elim
      (λ (null : other_address ≡ 0). none-some other_target (sym (null_if_0 config _ world.block shared.parsable.plotted other_address (Some other_target) second_points null)))
      (λ object_named. object_named.2 (name_is ∙ sym (same_Some object_named.0 other_target (sym object_named.1 ∙ second_points))))
      others.other))
      (λ (names_differ : same_name name other_target ≡ false). names_differ)
      (cases_Bool (same_name name other_target))

  -- a copy of an object stands for what another copy of it stands for
  pub copied : (address other_address : ℕ) (name : Name) (reference : Reference) → name_at (world.block address) ≡ Some name → name_at (world.block other_address) ≡ Some name → Points world.block address reference → Points world.block other_address reference
  copied address other_address name None first_named second_named points = absurd (none-some name (sym (null_if_0 config _ world.block shared.parsable.plotted address (Some name) first_named points)))
  copied address other_address name (Some target) first_named second_named points = second_named ∙ sym first_named ∙ points

  -- by their name words, words name the same exactly where they stand for one reference
  pub names_agree : (address other_address : ℕ) (reference other_reference : Reference) → Points world.block address reference → Points world.block other_address other_reference → name_the_same world.memory address other_address ≡ same_reference reference other_reference
  names_agree address other_address None None first_points second_points = cond-true ((address == 0) || (other_address == 0)) _ _ (rw (eq-eqb address 0 first_points) refl) ∙ eq-eqb address other_address (first_points ∙ sym second_points)
  names_agree address other_address None (Some other_target) first_points second_points =
      cond-true ((address == 0) || (other_address == 0)) _ _ (rw (eq-eqb address 0 first_points) refl) ∙ ne_eqb address other_address (λ words_equal. none-some other_target (sym (null_if_0 config _ world.block shared.parsable.plotted other_address (Some other_target) second_points (sym words_equal ∙ first_points))))
  names_agree address other_address (Some target) None first_points second_points =
      cond-true ((address == 0) || (other_address == 0)) _ _ (grind (arith, nat_tests)) ∙ ne_eqb address other_address (λ words_equal. none-some target (sym (null_if_0 config _ world.block shared.parsable.plotted address (Some target) first_points (words_equal ∙ second_points))))
  names_agree address other_address (Some name) (Some other_name) first_points second_points =
      let first_not_null : (address == 0) ≡ false = ne_eqb address 0 (λ words_equal. none-some name (sym (null_if_0 config _ world.block shared.parsable.plotted address (Some name) first_points words_equal))) in
      let second_not_null : (other_address == 0) ≡ false = ne_eqb other_address 0 (λ words_equal. none-some other_name (sym (null_if_0 config _ world.block shared.parsable.plotted other_address (Some other_name) second_points words_equal))) in
      let word_a = name_there address name first_points in
      let word_b = name_there other_address other_name second_points in
      cond-false ((address == 0) || (other_address == 0)) _ _ (rw (first_not_null, second_not_null) refl) ∙ rw (word_a.0, word_b.0) (same_codes name other_name word_a.1 word_b.1)

  -- the graph's object of an object in hand
  pub object_in : (seat root object : ℕ) (has_object : HasObject config world seat root object)
      → (graph_object : Object) × (world.graph.object has_object.name ≡ Some graph_object) × IsThing (λ address. world.memory (Heap address)) world.block object has_object.refs has_object.nums has_object.name graph_object
  object_in seat root object has_object = shared.contents.objects.each object has_object.refs has_object.nums has_object.name has_object.target.piece

  -- a reference field of an object in hand
  pub field_in : (seat root object field : ℕ) (has_object : HasObject config world seat root object) → field < has_object.refs
      → (reference : Reference) × (field_at world.graph (seat + 1) root field ≡ Some reference) × Points world.block (world.memory (Heap (object + 3 + field))) reference
  field_in seat root object field has_object field_below =
      let graph_object = object_in seat root object has_object in
      let reference_there : slice_get graph_object.0.refs field ≡ Some (get_or graph_object.0.refs field None) = slice_get-get_or graph_object.0.refs field None (let refs_counted = graph_object.2.refs_are in omega arith) in
      (get_or graph_object.0.refs field None, ap (λ x. slice_get x.refs field) (named_object world.graph (seat + 1) root has_object.name graph_object.0 has_object.root_is graph_object.1) ∙ reference_there, graph_object.2.references field _ reference_there)

  -- a number of it
  pub number_in : (seat root object index : ℕ) (has_object : HasObject config world seat root object) → index < has_object.nums
      → number_at world.graph (seat + 1) root index ≡ Some (world.memory (Heap (object + 3 + has_object.refs + index)))
  number_in seat root object index has_object index_below =
      let graph_object = object_in seat root object has_object in
      let number_there : slice_get graph_object.0.nums index ≡ Some (get_or graph_object.0.nums index 0) = slice_get-get_or graph_object.0.nums index 0 (let nums_counted = graph_object.2.nums_are in omega arith) in
      ap (λ x. slice_get x.nums index) (named_object world.graph (seat + 1) root has_object.name graph_object.0 has_object.root_is graph_object.1) ∙ number_there ∙ ap (λ number. Some number) (sym (graph_object.2.numbers index _ number_there))

  -- the words of an object in hand are words of the heap
  pub word_in : (seat root object address offset : ℕ) (has_object : HasObject config world seat root object) → offset < 3 + has_object.refs + has_object.nums → address ≡ object + offset → is_word config (Heap address) ≡ true
  word_in seat root object word_address offset has_object offset_below address_is = ap (λ address. is_word config (Heap address)) address_is ∙ piece_word config _ world.block shared.parsable.plotted object offset (thing has_object.name has_object.refs has_object.nums) has_object.target.piece offset_below

  -- there is no field and no number past the last
  no_field_in : (seat root object field : ℕ) (has_object : HasObject config world seat root object) → has_object.refs ≤ field → field_at world.graph (seat + 1) root field ≡ None
  no_field_in seat root object field has_object field_past =
      let graph_object = object_in seat root object has_object in
      ap (λ x. slice_get x.refs field) (named_object world.graph (seat + 1) root has_object.name graph_object.0 has_object.root_is graph_object.1) ∙ slice_get_past graph_object.0.refs field (let refs_counted = graph_object.2.refs_are in omega arith)

  -- there is no number past the last
  no_number_in : (seat root object index : ℕ) (has_object : HasObject config world seat root object) → has_object.nums ≤ index → number_at world.graph (seat + 1) root index ≡ None
  no_number_in seat root object index has_object index_past =
      let graph_object = object_in seat root object has_object in
      ap (λ x. slice_get x.nums index) (named_object world.graph (seat + 1) root has_object.name graph_object.0 has_object.root_is graph_object.1) ∙ slice_get_past graph_object.0.nums index (let nums_counted = graph_object.2.nums_are in omega arith)

  -- the shape word of an object in hand reads as its sizes
  pub shape_in : (seat root object : ℕ) (has_object : HasObject config world seat root object)
      → (refs_in (world.memory (Heap (object + 1))) ≡ has_object.refs) × (nums_in (world.memory (Heap (object + 1))) ≡ has_object.nums)
  shape_in seat root object has_object =
      let graph_object = object_in seat root object has_object in
      (ap refs_in graph_object.2.shape ∙ refs_read has_object.refs has_object.nums graph_object.2.few_refs graph_object.2.few_nums, ap nums_in graph_object.2.shape ∙ nums_read has_object.refs has_object.nums graph_object.2.few_refs graph_object.2.few_nums)

  -- A command on an object is answered Bad where the object has no such part.
  pub bad_on_shape : (seat object : ℕ) (command : Command) → HasObject config world seat (command_root command 0) object → is_on_object command ≡ true → has_part command (world.memory (Heap (object + 1))) ≡ false
      → outcome world.graph (seat + 1) command ≡ answers reply.Bad world.graph
  bad_on_shape seat object (Get dst src field) has_object on_object lacks =
      let part_past = ltb-false _ _ lacks in let shape = shape_in seat src object has_object in rw (no_field_in seat src object field has_object (omega (arith, part_past, shape.0))) refl
  bad_on_shape seat object (Set obj field val) has_object on_object lacks =
      let part_past = ltb-false _ _ lacks in let shape = shape_in seat obj object has_object in rw (no_field_in seat obj object field has_object (omega (arith, part_past, shape.0))) refl
  bad_on_shape seat object (Cas obj field expect val) has_object on_object lacks =
      let part_past = ltb-false _ _ lacks in let shape = shape_in seat obj object has_object in rw (no_field_in seat obj object field has_object (omega (arith, part_past, shape.0))) refl
  bad_on_shape seat object (Xchg dst obj field val) has_object on_object lacks =
      let part_past = ltb-false _ _ lacks in let shape = shape_in seat obj object has_object in rw (no_field_in seat obj object field has_object (omega (arith, part_past, shape.0))) refl
  bad_on_shape seat object (Rd obj index) has_object on_object lacks =
      let part_past = ltb-false _ _ lacks in let shape = shape_in seat obj object has_object in rw (no_number_in seat obj object index has_object (omega (arith, part_past, shape.1))) refl
  bad_on_shape seat object (Wr obj index value) has_object on_object lacks =
      let part_past = ltb-false _ _ lacks in let shape = shape_in seat obj object has_object in rw (no_number_in seat obj object index has_object (omega (arith, part_past, shape.1))) refl
  bad_on_shape seat object (Pin slot obj) has_object on_object lacks = refl
  bad_on_shape seat object _ has_object on_object lacks = cc
