-- The steps that store into an object.
use Rattle.std.proofs.Common.{◌≡◌, ◌≢◌, ℕ, ◌+◌, ◌<◌, ◌≤◌, true, false, Option, Some, None, ⊎_elim, refl, sym, ap, ◌∙◌, subst, arith}
use Rattle.std.specs.Prelude.{◌==◌, ◌&&◌, slice_set}
use Rattle.std.proofs.lemmas.Bool.{cases_Bool, cond-false, eqb-true}
use Rattle.std.proofs.lemmas.Bool.Decides.{nat_tests}
use Rattle.heap_words.specs.declared.config.Config.{Config}
use Rattle.heap_words.specs.Words.{Cset, Evac, Top, Root, Heap, write}
use Rattle.heap_words.specs.Touch.{touched}
use Rattle.shen_graph.specs.declared.name.Name.{Name}
use Rattle.shen_graph.specs.declared.command.Command.{Command}
use Rattle.shen_graph.specs.declared.command.Command.TheVariants.{Set, Cas, Xchg, Wr}
use Rattle.shen_graph.specs.declared.command.Reply.{Reply}
use Rattle.shen_graph.specs.declared.command.Reply.TheVariants as reply
use Rattle.shen_graph.specs.Graph.{Reference, Object, Graph, same_reference, field_at, number_at, with_root}
use Rattle.shen_graph.specs.Step.{outcome, answers, shown, pinned_by}
use Rattle.shen_graph.specs.History.{is_full}
use Rattle.mutator.specs.declared.spot.Spot.{Spot}
use Rattle.mutator.specs.declared.spot.Spot.TheVariants.{OnField, OnNumber}
use Rattle.mutator.specs.declared.fields.FieldSpot.TheVariants as fields
use Rattle.mutator.specs.declared.overwrites.Overwritten.TheVariants as overwrites
use Rattle.mutator.specs.declared.numbers.NumberSpot.TheVariants as numbers
use Rattle.satb_barrier.specs.declared.spot.RememberSpot.TheVariants.{LoadCount}
use Rattle.cycle_steps.specs.Laws.{with_in_hand}
use Rattle.mutator.specs.declared.spot.Kept.{Kept}
use Rattle.shen_graph.specs.declared.order.Order.TheVariants.{Nothing}
use Rattle.mutator.specs.Commands.{dst_of, index_of, stored_number}
use Rattle.mutator.specs.Rows.{Mutating, touch_of, next_of, given_at, overwritten, after_swap}
use Rattle.mutator.specs.Told.{told_of}
use Rattle.heap_world.specs.World.{World, Points, TargetIn, IsThing, IsCovered, IsCurrent, Shared}
use Rattle.step_core.proofs.Machines.Stepped.{IsRootWord, HasObject, NameTheSame, IsCas, IsXchg, Mine, Stepped, Row}
use Rattle.heap_world.proofs.FunctionUpdates.{updated}
use Rattle.heap_world.proofs.Updated.{usable_current}
use Rattle.step_core.proofs.Machines.Ready.{leaving}
use Rattle.step_core.proofs.Machines.Naming.{object_in, field_in, number_in, one_reference, shown_is}
use Rattle.heap_world.proofs.Objects.{field_stored, number_stored, stored, changed, shared_stored, rely_stored}
use Rattle.step_core.proofs.History.Settling.{legal_answer, graph_answer}
use Rattle.step_core.proofs.Mutators.Spots.{mutator_at}
use Rattle.heap_world.proofs.Pointing.{named_if_not_0}
use Rattle.step_core.proofs.Machines.Stable.{cas_stays, xchg_stays}
use Rattle.step_core.proofs.Mutators.Overwriting.{record_ready, recorded_some, Overwrites, overwrites_of, stepped_in_hand, can_stored}
use Rattle.step_core.proofs.Mutators.InHand.{shown_not_full}
use Rattle.step_core.proofs.Mutators.Resolving.{found_mine}
use Rattle.heap_world.proofs.RootChanges.{roots_then}
use Rattle.heap_world.proofs.Keeping.{load_keeps, rely_same}

-- an object with another reference in a field, and with another number
abbrev with_reference : Object → ℕ → Reference → Object
with_reference object field reference = record { refs = slice_set object.refs field reference; nums = object.nums }

-- and with another number
abbrev with_value : Object → ℕ → ℕ → Object
with_value object index number = record { refs = object.refs; nums = slice_set object.nums index number }

-- what a command that stores into an object answers and makes of the graph, where its root names an object that has the
-- field or the number
module _ (graph : Graph) (thread obj : ℕ) (name : Name) (object : Object) (root_is : graph.root thread obj ≡ Some name) (object_is : graph.object name ≡ Some object) where
  -- of a Set
  set_outcome : (field val : ℕ) (reference : Reference) → field_at graph thread obj field ≡ Some reference
      → outcome graph thread (Set obj field val) ≡ answers reply.Ok (changed graph name (with_reference object field (graph.root thread val)) graph.root)
  set_outcome field val reference field_holds = rw (field_holds, root_is, object_is) refl

  -- of an Xchg
  xchg_outcome : (dst field val : ℕ) (reference : Reference) → field_at graph thread obj field ≡ Some reference
      → outcome graph thread (Xchg dst obj field val) ≡ answers (shown reference) (with_root (changed graph name (with_reference object field (graph.root thread val)) graph.root) thread dst reference)
  xchg_outcome dst field val reference field_holds = rw (field_holds, root_is, object_is) refl

  -- of a Cas whose field has the expected reference
  cas_outcome : (field expect val : ℕ) (reference : Reference) → field_at graph thread obj field ≡ Some reference → same_reference reference (graph.root thread expect) ≡ true
      → outcome graph thread (Cas obj field expect val) ≡ answers reply.Yes (changed graph name (with_reference object field (graph.root thread val)) graph.root)
  cas_outcome field expect val reference field_holds as_expected = rw (field_holds, as_expected, root_is, object_is) refl

  -- of a Wr
  wr_outcome : (index value number : ℕ) → number_at graph thread obj index ≡ Some number
      → outcome graph thread (Wr obj index value) ≡ answers reply.Ok (changed graph name (with_value object index value) graph.root)
  wr_outcome index value number number_there = rw (number_there, root_is, object_is) refl

-- A step that stores into an object and settles a reply. The object of its name is another then, the one that its words
-- say, and roots of the mutator may be others.
module _ (config : Config) (world : World) (mutator : Mutating) (object refs nums place value : ℕ) (name : Name) (its_object : Object) (root : ℕ → ℕ → Reference) (command : Command) (fixed : Option Reply) (answer : Reply) where
  -- the step is as it should be
  store_settles : touched world.memory (touch_of config mutator Nothing) ≡ write world.memory (Heap place) value → told_of world.memory mutator ≡ Some answer → given_at mutator.spot ≡ None → fixed ≡ None → is_full answer ≡ false → pinned_by world.graph (mutator.seat + 1) command ≡ None
      → Shared config world → TargetIn config world object refs nums name → object + 3 ≤ place → place < object + (3 + refs + nums) → ((index : ℕ) → index < refs → place ≡ object + 3 + index → IsCovered config world object index) → ((index : ℕ) → index < refs → place ≡ object + 3 + index → IsCurrent world.block value)
      → IsThing (updated (λ address. world.memory (Heap address)) place value) world.block object refs nums name its_object
      → outcome world.graph (mutator.seat + 1) command ≡ answers answer (changed world.graph name its_object root)
      → ((seat index : ℕ) → seat ≢ mutator.seat → root (seat + 1) index ≡ world.graph.root (seat + 1) index)
      → Mine config (stored world place value (changed world.graph name its_object root)) (next_of config mutator Nothing (world.memory (touch_of config mutator Nothing).word)) command (Some answer)
      → Stepped config world mutator command Nothing fixed
  store_settles same_memory is_told none_given unsettled not_full pins_none shared target place_behind to_end covered current thing_stands outcome_answered roots own_facts = record {
    world = stored world place value (changed world.graph name its_object root);
    memory = sym same_memory;
    graph = rw is_told (sym (graph_answer world.graph mutator.seat command answer not_full pins_none ∙ ap (λ x. x.graph) outcome_answered));
    legal = rw is_told (legal_answer config world.graph mutator.seat command answer not_full pins_none (ap (λ x. x.reply) outcome_answered));
    settles = λ settled_reply reply_settled. (unsettled, none_given);
    shared = shared_stored config world object refs nums place value name its_object root shared target (omega (arith, place_behind)) to_end covered current thing_stands;
    mine = rw is_told own_facts;
    others = λ other_seat differs. rely_stored config world object refs nums place value name its_object root shared target place_behind to_end current other_seat (λ root_index. roots other_seat root_index differs);
  }

-- A step that makes a reference field of an object in hand that of a root of the mutator.
module _ (config : Config) (world : World) (mutator : Mutating) (object field value obj val : ℕ) (shared : Shared config world) (object_held : HasObject config world mutator.seat obj object) (field_below : field < object_held.refs) (value_is : IsRootWord config world mutator.seat val value) (covered : IsCovered config world object field) (root : ℕ → ℕ → Reference) where
  -- the object after the store
  abbrev object_then : Object
  object_then = with_reference (object_in config world shared mutator.seat obj object object_held).0 field (world.graph.root (mutator.seat + 1) val)

  -- the world after it
  abbrev world_then : World
  world_then = stored world (object + 3 + field) value (changed world.graph object_held.name object_then root)

  -- the words are those of the object
  object_stands : IsThing (updated (λ address. world.memory (Heap address)) (object + 3 + field) value) world.block object object_held.refs object_held.nums object_held.name object_then
  object_stands = field_stored (λ address. world.memory (Heap address)) world.block object object_held.refs object_held.nums object_held.name _ (object_in config world shared mutator.seat obj object object_held).2 field value (world.graph.root (mutator.seat + 1) val) field_below value_is.stands

  -- marking needs the field no more, which is the only one that is stored
  covered_then : (index : ℕ) → index < object_held.refs → object + 3 + field ≡ object + 3 + index → IsCovered config world object index
  covered_then index index_small same_place = subst (λ (field_index : ℕ). IsCovered config world object field_index) (omega (arith, same_place)) covered

  -- and it is current then
  current_then : (index : ℕ) → index < object_held.refs → object + 3 + field ≡ object + 3 + index → IsCurrent world.block value
  current_then index index_small same_place = usable_current config (world.memory Cset) (world.memory Evac) world.block value value_is.usable

  -- machines share what they should
  shared_then : Shared config world_then
  shared_then = shared_stored config world object object_held.refs object_held.nums (object + 3 + field) value object_held.name object_then root shared object_held.target (omega arith) (omega arith) covered_then current_then object_stands

  -- the step is as it should be
  field_settles : (command : Command) (fixed : Option Reply) (answer : Reply)
      → touched world.memory (touch_of config mutator Nothing) ≡ write world.memory (Heap (object + 3 + field)) value → told_of world.memory mutator ≡ Some answer → given_at mutator.spot ≡ None → fixed ≡ None → is_full answer ≡ false → pinned_by world.graph (mutator.seat + 1) command ≡ None
      → outcome world.graph (mutator.seat + 1) command ≡ answers answer (changed world.graph object_held.name object_then root)
      → ((seat index : ℕ) → seat ≢ mutator.seat → root (seat + 1) index ≡ world.graph.root (seat + 1) index)
      → Mine config world_then (next_of config mutator Nothing (world.memory (touch_of config mutator Nothing).word)) command (Some answer)
      → Stepped config world mutator command Nothing fixed
  field_settles command fixed answer same_memory is_told none_given unsettled not_full pins_none outcome_answered roots own_facts =
      store_settles config world mutator object object_held.refs object_held.nums (object + 3 + field) value object_held.name object_then root command fixed answer same_memory is_told none_given unsettled not_full pins_none shared object_held.target (omega arith) (omega arith) covered_then current_then object_stands outcome_answered roots own_facts

module _ (config : Config) (world : World) (seat made : ℕ) (kept : Kept) (command : Command) (fixed : Option Reply) where
  abbrev at_spot : Spot → Mutating
  at_spot spot = mutator_at seat made kept spot

  -- the command's field or number
  abbrev field : ℕ
  field = index_of kept.command

  -- the command's root
  abbrev dst : ℕ
  dst = dst_of kept.command

  -- the command's number
  abbrev number : ℕ
  number = stored_number kept.command

  -- the store into a field settles Ok
  pub at_store_field : (object value : ℕ) → Row config world (at_spot (OnField object (fields.Store value))) command fixed
  at_store_field object value shared mine =
      let store_facts = mine.facts.1 in
      let object_found = object_in config world shared seat store_facts.obj object store_facts.of in
      let field_found = field_in config world shared seat store_facts.obj object field store_facts.of store_facts.below in
      let outcome_answered = set_outcome world.graph (seat + 1) store_facts.obj store_facts.of.name object_found.0 store_facts.of.root_is object_found.1 field store_facts.val field_found.0 field_found.1 in
      field_settles config world (at_spot (OnField object (fields.Store value))) object field value store_facts.obj store_facts.val shared store_facts.of store_facts.below store_facts.value_is mine.facts.2 world.graph.root command fixed reply.Ok
      refl refl refl mine.facts.0 refl (ap (pinned_by world.graph (seat + 1)) store_facts.is) (ap (λ any_command. outcome world.graph (seat + 1) any_command) store_facts.is ∙ outcome_answered) (λ other_seat root_index differs. refl)
      (leaving config _ seat made kept command reply.Ok mine.seated (mine.marking.records, mine.marking.scans, mine.copying.copies_is, mine.copying.works_none) mine.roots mine.rooms)

  -- The swap of a field settles the reference that it had. In a world in which marking needs the field no more:
  swap_settles : (world : World) (object value : ℕ) → (shared : Shared config world) → fixed ≡ None → (swap_facts : IsXchg config world seat command object field value dst) → (covered : IsCovered config world object field)
      → ((reference : Reference) → Points world.block (world.memory (Heap (object + 3 + field))) reference → let root : ℕ → ℕ → Reference = (with_root world.graph (seat + 1) dst reference).root in
      Shared config (world_then config world (at_spot (OnField object (fields.Swap value))) object field value swap_facts.obj swap_facts.val shared swap_facts.of swap_facts.below swap_facts.value_is covered root)
      → Mine config (world_then config world (at_spot (OnField object (fields.Swap value))) object field value swap_facts.obj swap_facts.val shared swap_facts.of swap_facts.below swap_facts.value_is covered root)
      (at_spot (after_swap config kept.phase kept.cset (world.memory (Heap (object + 3 + field))))) command (Some (shown reference)))
      → Stepped config world (at_spot (OnField object (fields.Swap value))) command Nothing fixed
  swap_settles world object value shared unsettled swap_facts covered mine =
      let object_found = object_in config world shared seat swap_facts.obj object swap_facts.of in
      let field_found = field_in config world shared seat swap_facts.obj object field swap_facts.of swap_facts.below in
      let root = (with_root world.graph (seat + 1) dst field_found.0).root in
      let got = world.memory (Heap (object + 3 + field)) in
      let outcome_answered = xchg_outcome world.graph (seat + 1) swap_facts.obj swap_facts.of.name object_found.0 swap_facts.of.root_is object_found.1 dst field swap_facts.val field_found.0 field_found.1 in
      field_settles config world (at_spot (OnField object (fields.Swap value))) object field value swap_facts.obj swap_facts.val shared swap_facts.of swap_facts.below swap_facts.value_is covered root command fixed (shown field_found.0)
      refl (ap (λ x. Some x) (shown_is config world shared got field_found.0 field_found.2)) refl unsettled (shown_not_full field_found.0) (ap (pinned_by world.graph (seat + 1)) swap_facts.is) (ap (λ any_command. outcome world.graph (seat + 1) any_command) swap_facts.is ∙ outcome_answered)
      (λ other_seat index differs. cond-false ((other_seat + 1 == seat + 1) && (index == dst)) field_found.0 (world.graph.root (other_seat + 1) index) (grind (arith, nat_tests)))
      (mine field_found.0 field_found.2 (shared_then config world (at_spot (OnField object (fields.Swap value))) object field value swap_facts.obj swap_facts.val shared swap_facts.of swap_facts.below swap_facts.value_is covered root))

  -- with the reference in hand, where it is to be recorded
  swap_field : (object value : ℕ) → Shared config world → Mine config world (at_spot (OnField object (fields.Swap value))) command fixed → Overwrites config world seat kept.phase object field (world.memory (Heap (object + 3 + field)))
      → Stepped config world (at_spot (OnField object (fields.Swap value))) command Nothing fixed
  swap_field object value shared own_facts (Overwrites.leaves records_none covered) =
      let got : ℕ = world.memory (Heap (object + 3 + field)) in
      swap_settles world object value shared own_facts.facts.0 own_facts.facts.1 covered
      (λ reference stands shared_now. rw records_none
      (found_mine config _ seat made kept command shared_now own_facts.seated own_facts.marking own_facts.copying own_facts.rooms got reference own_facts.facts.1.small (roots_then world.block (λ index. world.memory (Root seat index)) world.graph.root (seat + 1) dst got reference own_facts.roots stands) stands))
  swap_field object value shared own_facts (Overwrites.takes records holds_it covered) =
      let got : ℕ = world.memory (Heap (object + 3 + field)) in
      stepped_in_hand config world (at_spot (OnField object (fields.Swap value))) got command fixed holds_it
      (swap_settles (with_in_hand world seat got) object value holds_it.shared own_facts.facts.0 (xchg_stays config world (with_in_hand world seat got) seat holds_it.keeps command object field value dst own_facts.facts.1) covered
      (λ old_reference stands shared_now.
      let named = named_if_not_0 config (λ region. world.memory (Top region)) world.block shared.parsable.plotted got old_reference stands (recorded_some kept.phase got records).1 in
      let can_store = can_stored config (with_in_hand world seat got) seat got (object + 3 + field) value _ holds_it.own in
      rw records (record {
        seated = own_facts.seated;
        ready = record_ready config _ seat made kept LoadCount got overwrites.Xchg refl shared_now can_store;
        marking = record { records = holds_it.own.recording; scans = holds_it.own.scanning; phase_is = own_facts.marking.phase_is };
        copying = own_facts.copying;
        roots = roots_then world.block (λ index. world.memory (Root seat index)) world.graph.root (seat + 1) dst got old_reference own_facts.roots stands;
        rooms = own_facts.rooms;
        facts = (can_store, record { name = named.0; settled = ap (λ any_reference. Some (shown any_reference)) named.1; is = named.2; small = own_facts.facts.1.small });
      })))

  pub at_swap_field : (object value : ℕ) → Row config world (at_spot (OnField object (fields.Swap value))) command fixed
  at_swap_field object value shared mine =
      let swap_facts = mine.facts.1 in
      let field_found = field_in config world shared seat swap_facts.obj object field swap_facts.of swap_facts.below in
      swap_field object value shared mine (overwrites_of config world seat kept.phase object field field_found.0 mine.seated.below shared mine.marking mine.rooms field_found.2)

  -- The field has the word that was found in it: it changes. In a world in which marking needs the field no more:
  exchange_settles : (world : World) (object found expect value : ℕ) → (world.memory (Heap (object + 3 + field)) == found) ≡ true → (shared : Shared config world) → fixed ≡ None
      → (cas_facts : IsCas config world seat command object field expect value) → NameTheSame world.block found expect → (covered : IsCovered config world object field)
      → (Shared config (world_then config world (at_spot (OnField object (fields.Exchange found expect value))) object field value cas_facts.obj cas_facts.val shared cas_facts.of cas_facts.below cas_facts.value_is covered world.graph.root)
      → Mine config (world_then config world (at_spot (OnField object (fields.Exchange found expect value))) object field value cas_facts.obj cas_facts.val shared cas_facts.of cas_facts.below cas_facts.value_is covered world.graph.root)
      (at_spot (overwritten kept.phase found overwrites.Cas)) command (Some reply.Yes))
      → Stepped config world (at_spot (OnField object (fields.Exchange found expect value))) command Nothing fixed
  exchange_settles world object found expect value word_found shared unsettled cas_facts as_expected covered own_facts =
      let object_found = object_in config world shared seat cas_facts.obj object cas_facts.of in
      let field_found = field_in config world shared seat cas_facts.obj object field cas_facts.of cas_facts.below in
      let got = world.memory (Heap (object + 3 + field)) in
      let references : same_reference field_found.0 (world.graph.root (seat + 1) cas_facts.expected) ≡ true =
      one_reference config world shared got expect field_found.0 _ field_found.2 cas_facts.expect_is.stands (subst (λ any_word. NameTheSame world.block any_word expect) (sym (eqb-true _ _ word_found)) as_expected) in
      let outcome_answered = cas_outcome world.graph (seat + 1) cas_facts.obj cas_facts.of.name object_found.0 cas_facts.of.root_is object_found.1 field cas_facts.expected cas_facts.val field_found.0 field_found.1 references in
      field_settles config world (at_spot (OnField object (fields.Exchange found expect value))) object field value cas_facts.obj cas_facts.val shared cas_facts.of cas_facts.below cas_facts.value_is covered world.graph.root command fixed reply.Yes
      (rw word_found refl) (rw word_found refl) refl unsettled refl (ap (pinned_by world.graph (seat + 1)) cas_facts.is) (ap (λ any_command. outcome world.graph (seat + 1) any_command) cas_facts.is ∙ outcome_answered) (λ other_seat root_index differs. refl)
      (rw word_found (own_facts (shared_then config world (at_spot (OnField object (fields.Exchange found expect value))) object field value cas_facts.obj cas_facts.val shared cas_facts.of cas_facts.below cas_facts.value_is covered world.graph.root)))

  -- with the reference in hand, where it is to be recorded
  exchange_field : (object found expect value : ℕ) → (world.memory (Heap (object + 3 + field)) == found) ≡ true → Shared config world → Mine config world (at_spot (OnField object (fields.Exchange found expect value))) command fixed
      → Overwrites config world seat kept.phase object field found → Stepped config world (at_spot (OnField object (fields.Exchange found expect value))) command Nothing fixed
  exchange_field object found expect value word_found shared own_facts (Overwrites.leaves records_none covered) =
      exchange_settles world object found expect value word_found shared own_facts.facts.0 own_facts.facts.1 own_facts.facts.2 covered
      (λ shared_now. rw records_none (leaving config _ seat made kept command reply.Yes own_facts.seated (own_facts.marking.records, own_facts.marking.scans, own_facts.copying.copies_is, own_facts.copying.works_none) own_facts.roots own_facts.rooms))
  exchange_field object found expect value word_found shared own_facts (Overwrites.takes records holds_it covered) =
      stepped_in_hand config world (at_spot (OnField object (fields.Exchange found expect value))) found command fixed holds_it
      (exchange_settles (with_in_hand world seat found) object found expect value word_found holds_it.shared own_facts.facts.0 (cas_stays config world (with_in_hand world seat found) seat holds_it.keeps command object field expect value own_facts.facts.1) own_facts.facts.2 covered
      (λ shared_now.
      let can_store = can_stored config (with_in_hand world seat found) seat found (object + 3 + field) value _ holds_it.own in
      rw records (record {
        seated = own_facts.seated;
        ready = record_ready config _ seat made kept LoadCount found overwrites.Cas refl shared_now can_store;
        marking = record { records = holds_it.own.recording; scans = holds_it.own.scanning; phase_is = own_facts.marking.phase_is };
        copying = own_facts.copying;
        roots = own_facts.roots;
        rooms = own_facts.rooms;
        facts = (can_store, refl);
      })))

  exchange_done : (object found expect value : ℕ) → (world.memory (Heap (object + 3 + field)) == found) ≡ true → Row config world (at_spot (OnField object (fields.Exchange found expect value))) command fixed
  exchange_done object found expect value word_found shared mine =
      let cas_facts = mine.facts.1 in
      let field_found = field_in config world shared seat cas_facts.obj object field cas_facts.of cas_facts.below in
      exchange_field object found expect value word_found shared mine
      (subst (λ any_word. Overwrites config world seat kept.phase object field any_word) (eqb-true _ _ word_found) (overwrites_of config world seat kept.phase object field field_found.0 mine.seated.below shared mine.marking mine.rooms field_found.2))

  -- it has another: nothing changes, and the field is loaded again
  exchange_again : (object found expect value : ℕ) → (world.memory (Heap (object + 3 + field)) == found) ≡ false → Row config world (at_spot (OnField object (fields.Exchange found expect value))) command fixed
  exchange_again object found expect value word_changed shared mine = record {
    world = world;
    memory = rw word_changed (load_keeps world.memory (Heap (object + 3 + field)));
    graph = rw word_changed refl;
    legal = rw word_changed tt;
    settles = λ settled_reply reply_settled. (mine.facts.0, refl);
    shared = shared;
    mine = rw word_changed (record {
      seated = mine.seated;
      ready = let spot_ready = mine.ready in grind (arith, nat_tests);
      marking = mine.marking;
      copying = mine.copying;
      roots = mine.roots;
      rooms = mine.rooms;
      facts = (mine.facts.0, mine.facts.1);
    });
    others = λ seat differs. rely_same config seat world;
  }

  -- the exchange of a field settles Yes where it has the word that was found
  pub at_exchange_field : (object found expect value : ℕ) → Row config world (at_spot (OnField object (fields.Exchange found expect value))) command fixed
  at_exchange_field object found expect value shared mine = ⊎_elim
      (λ word_found. exchange_done object found expect value word_found shared mine)
      (λ word_changed. exchange_again object found expect value word_changed shared mine)
      (cases_Bool (world.memory (Heap (object + 3 + field)) == found))

  -- the store of a number settles Ok
  pub at_store_number : (object refs : ℕ) → Row config world (at_spot (OnNumber object refs numbers.Store)) command fixed
  at_store_number object refs shared mine =
      let index : ℕ = field in
      let value : ℕ = number in
      let number_facts = mine.facts.1 in
      let object_found = object_in config world shared seat number_facts.obj object number_facts.of in
      let number_place = object + 3 + refs + index in
      let number_stands = number_stored (λ address. world.memory (Heap address)) world.block object number_facts.of.refs number_facts.of.nums number_facts.of.name object_found.0 object_found.2 index value number_facts.below in
      let outcome_answered = wr_outcome world.graph (seat + 1) number_facts.obj number_facts.of.name object_found.0 number_facts.of.root_is object_found.1 index value _ (number_in config world shared seat number_facts.obj object index number_facts.of number_facts.below) in
      store_settles config world (at_spot (OnNumber object refs numbers.Store)) object number_facts.of.refs number_facts.of.nums number_place value number_facts.of.name (with_value object_found.0 index value) world.graph.root command fixed reply.Ok
      refl refl refl mine.facts.0 refl (ap (pinned_by world.graph (seat + 1)) number_facts.is) shared number_facts.of.target (omega arith) (omega (arith, number_facts.below, number_facts.refs_are)) (λ any_index small same_place. absurd (let refs_are = number_facts.refs_are in omega (arith, small, same_place, refs_are))) (λ any_index small same_place. absurd (let refs_are = number_facts.refs_are in omega (arith, small, same_place, refs_are)))
      (subst (λ (x : ℕ). IsThing (updated (λ address. world.memory (Heap address)) (object + 3 + x + index) value) world.block object number_facts.of.refs number_facts.of.nums number_facts.of.name (with_value object_found.0 index value)) (sym number_facts.refs_are) number_stands)
      (ap (λ any_command. outcome world.graph (seat + 1) any_command) number_facts.is ∙ outcome_answered) (λ other_seat any_index differs. refl)
      (leaving config _ seat made kept command reply.Ok mine.seated (mine.marking.records, mine.marking.scans, mine.copying.copies_is, mine.copying.works_none) mine.roots mine.rooms)
