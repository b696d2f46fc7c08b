-- The steps that load a field, a number or a name.
use Rattle.std.proofs.Common.{◌≡◌, ℕ, ◌+◌, ◌<◌, inl, inr, ⊎_elim, true, false, Option, Some, refl, sym, ap, ◌∙◌, arith}
use Rattle.std.specs.Prelude.{◌==◌, nat_lt, if◌then◌else◌}
use Rattle.std.proofs.lemmas.Bool.{cases_Bool, cond-true, cond-false, eqb-true, eqb-false}
use Rattle.std.proofs.lemmas.Bool.Decides.{nat_tests}
use Rattle.heap_words.specs.declared.config.Config.{Config}
use Rattle.heap_words.specs.Words.{Root, Heap}
use Rattle.shen_graph.specs.declared.command.Command.{Command}
use Rattle.shen_graph.specs.declared.command.Reply.{Reply}
use Rattle.shen_graph.specs.declared.command.Reply.TheVariants as reply
use Rattle.shen_graph.specs.Graph.{Reference, with_root, same_reference}
use Rattle.shen_graph.specs.Step.{shown, answers, outcome, pinned_by}
use Rattle.mutator.specs.declared.spot.Spot.{Spot}
use Rattle.mutator.specs.declared.spot.Spot.TheVariants.{OnField, OnNumber, Showing}
use Rattle.mutator.specs.declared.fields.FieldSpot.TheVariants as fields
use Rattle.mutator.specs.declared.overwrites.Overwritten.TheVariants as overwritten
use Rattle.mutator.specs.declared.numbers.NumberSpot.TheVariants as numbers
use Rattle.mutator.specs.declared.shows.ShowSpot.TheVariants as show
use Rattle.mutator.specs.declared.spot.Kept.{Kept}
use Rattle.mutator.specs.Commands.{dst_of, index_of}
use Rattle.mutator.specs.declared.resolves.Loaded.TheVariants.{ToCompare}
use Rattle.heap_words.specs.Phases.{evacuation_phase}
use Rattle.load_barrier.specs.UnitRows.{lies_in_set}
use Rattle.mutator.specs.Rows.{Mutating, name_in, with_loaded}
use Rattle.mutator.specs.Told.{name_the_same}
use Rattle.mutator.specs.Fit.{is_ready}
use Rattle.shen_graph.specs.declared.order.Order.TheVariants.{Nothing}
use Rattle.satb_barrier.specs.declared.spot.RememberSpot.TheVariants.{LoadCount}
use Rattle.cycle_steps.specs.Laws.{with_in_hand}
use Rattle.heap_world.specs.World.{World, Points, Shared}
use Rattle.heap_world.proofs.Keeping.{load_keeps}
use Rattle.step_core.proofs.Machines.Stepped.{HasObject, IsCas, Mine, Stepped, Row}
use Rattle.step_core.proofs.Machines.Stable.{set_stays}
use Rattle.step_core.proofs.Mutators.Overwriting.{record_ready, Overwrites, overwrites_of}
use Rattle.step_core.proofs.Mutators.Spots.{mutator_at}
use Rattle.step_core.proofs.Machines.Ready.{leaving, ready_of, number_small}
use Rattle.heap_world.proofs.Pointing.{points_small}
use Rattle.step_core.proofs.Machines.Naming.{same_words, names_agree, named_as_one, named_otherwise, name_there, name_read, shown_is, field_in, number_in, word_in}
use Rattle.step_core.proofs.Mutators.Loading.{looks, replies, replies_root}
use Rattle.heap_world.proofs.RootChanges.{roots_then}
use Rattle.step_core.proofs.Mutators.InHand.{shown_not_full}
use Rattle.step_core.proofs.Mutators.Resolving.{found_mine, compared_mine}

-- the store of a reference into the command's field can be made
pub store_ready : (config : Config) (world : World) (seat made : ℕ) (kept : Kept) (object value obj val : ℕ) → Shared config world → (has_object : HasObject config world seat obj object) → index_of kept.command < has_object.refs
    → Points world.block value (world.graph.root (seat + 1) val) → is_ready config seat made kept (OnField object (fields.Store value)) ≡ true
store_ready config world seat made kept object value obj val shared has_object field_below stands =
    let field : ℕ = index_of kept.command in
    ready_of _ _ (word_in config world shared seat obj object (object + 3 + field) (3 + field) has_object (omega (arith, field_below)) (omega arith))
    (number_small value (points_small config _ world.block shared.parsable.plotted value _ stands))

module _ (config : Config) (world : World) (seat made : ℕ) (kept : Kept) (command : Command) (fixed : Option Reply) where
  abbrev at_spot : Spot → Mutating
  at_spot spot = mutator_at seat made kept spot

  -- the command's field or number
  abbrev field : ℕ
  field = index_of kept.command

  -- the command's root
  abbrev dst : ℕ
  dst = dst_of kept.command

  -- the load of a field settles the reference that it stands for
  pub at_load_field : (object : ℕ) → Row config world (at_spot (OnField object fields.Load)) command fixed
  at_load_field object shared mine =
      let get_facts = mine.facts.1 in
      let field_there = field_in config world shared seat get_facts.src object field get_facts.of get_facts.below in
      let got : ℕ = world.memory (Heap (object + 3 + field)) in
      replies_root config world (at_spot (OnField object fields.Load)) (Heap (object + 3 + field)) command fixed (shown field_there.0) dst field_there.0
      refl
      (ap (λ shown_reply. Some shown_reply) (shown_is config world shared got field_there.0 field_there.2))
      refl mine.facts.0 (shown_not_full field_there.0)
      (ap (pinned_by world.graph (seat + 1)) get_facts.is) (ap (λ given_command. outcome world.graph (seat + 1) given_command) get_facts.is ∙ rw field_there.1 refl)
      shared
      (found_mine config (record { memory = world.memory; block = world.block; ghost = world.ghost; graph = with_root world.graph (seat + 1) dst field_there.0 }) seat made kept command
      shared mine.seated mine.marking mine.copying mine.rooms got field_there.0 get_facts.small
      (roots_then world.block (λ index. world.memory (Root seat index)) world.graph.root (seat + 1) dst got field_there.0 mine.roots field_there.2)
      field_there.2)

  -- The load of the reference that a Set is about to overwrite: the mutator takes it in hand where that is to be recorded.
  load_old : (object value : ℕ) → Shared config world → Mine config world (at_spot (OnField object (fields.LoadOld value))) command fixed → Overwrites config world seat kept.phase object field (world.memory (Heap (object + 3 + field)))
      → Stepped config world (at_spot (OnField object (fields.LoadOld value))) command Nothing fixed
  load_old object value shared own_facts (Overwrites.takes records held covered) = let got : ℕ = world.memory (Heap (object + 3 + field)) in record {
    world = with_in_hand world seat got;
    memory = load_keeps world.memory (Heap (object + 3 + field));
    graph = refl;
    legal = tt;
    settles = λ own_reply is_settled. cc;
    shared = held.shared;
    mine = rw records (record {
      seated = own_facts.seated;
      ready = record_ready config (with_in_hand world seat got) seat made kept LoadCount got (overwritten.Set object value) refl held.shared held.own;
      marking = record { records = held.own.recording; scans = held.own.scanning; phase_is = own_facts.marking.phase_is };
      copying = own_facts.copying;
      roots = own_facts.roots;
      rooms = own_facts.rooms;
      facts = (held.own, (own_facts.facts.0, set_stays config world (with_in_hand world seat got) seat held.keeps command object field value own_facts.facts.1, covered));
    });
    others = held.others;
  }
  load_old object value shared own_facts (Overwrites.leaves not_to_record covered) =
      let set_facts = own_facts.facts.1 in
      looks config world (at_spot (OnField object (fields.LoadOld value))) (Heap (object + 3 + field)) command fixed refl refl refl shared
      (rw not_to_record (record {
        seated = own_facts.seated;
        ready = store_ready config world seat made kept object value set_facts.obj set_facts.val shared set_facts.of set_facts.below set_facts.value_is.stands;
        marking = own_facts.marking;
        copying = own_facts.copying;
        roots = own_facts.roots;
        rooms = own_facts.rooms;
        facts = (own_facts.facts.0, set_facts, covered);
      }))

  pub at_load_old : (object value : ℕ) → Row config world (at_spot (OnField object (fields.LoadOld value))) command fixed
  at_load_old object value shared mine =
      let set_facts = mine.facts.1 in
      let field_there = field_in config world shared seat set_facts.obj object field set_facts.of set_facts.below in
      load_old object value shared mine (overwrites_of config world seat kept.phase object field field_there.0 mine.seated.below shared mine.marking mine.rooms field_there.2)

  -- a field that has another reference than the expected one: it is null, and the call leaves, or its object is another
  differing : (object expect value : ℕ) (reference : Reference) → Shared config world → Mine config world (at_spot (OnField object (fields.LoadExpected expect value))) command fixed → (cas : IsCas config world seat command object field expect value)
      → Points world.block (world.memory (Heap (object + 3 + field))) reference → same_reference reference (world.graph.root (seat + 1) cas.expected) ≡ false
      → Mine config world (at_spot (with_loaded config kept.phase kept.cset (world.memory (Heap (object + 3 + field))) (ToCompare object expect value))) command (Some reply.No)
  differing object expect value reference shared own_facts cas points_there references_differ = let got : ℕ = world.memory (Heap (object + 3 + field)) in ⊎_elim
      (λ (null : (got == 0) ≡ true).
      let zero_got : got ≡ 0 = eqb-true _ _ null in
      let not_expected : (got == expect) ≡ false = same_words config world shared got expect reference _ (inl zero_got) cas.expect_is.usable points_there cas.expect_is.stands ∙ references_differ in
      rw (cond-true (got == 0) false (if nat_lt kept.phase evacuation_phase then false else lies_in_set config kept.cset got) null, not_expected)
      (leaving config _ seat made kept command reply.No own_facts.seated (own_facts.marking.records, own_facts.marking.scans, own_facts.copying.copies_is, own_facts.copying.works_none) own_facts.roots own_facts.rooms))
      (λ (not_null : (got == 0) ≡ false).
      compared_mine config world seat made kept command shared own_facts.seated own_facts.marking own_facts.copying own_facts.rooms (Some reply.No) object expect value got reference cas
      (inl (refl, named_otherwise config world shared got expect reference _ (eqb-false _ _ not_null) points_there cas.expect_is.stands references_differ)) points_there own_facts.roots)
      (cases_Bool (got == 0))

  -- the load of a field that is to change only from an expected reference settles No where it has another
  pub at_load_expected : (object expect value : ℕ) → Row config world (at_spot (OnField object (fields.LoadExpected expect value))) command fixed
  at_load_expected object expect value shared mine =
      let cas = mine.facts.1 in
      let field_there = field_in config world shared seat cas.obj object field cas.of cas.below in
      let got : ℕ = world.memory (Heap (object + 3 + field)) in
      let agree : name_the_same world.memory got expect ≡ same_reference field_there.0 (world.graph.root (seat + 1) cas.expected) = names_agree config world shared got expect field_there.0 _ field_there.2 cas.expect_is.stands in
      ⊎_elim
      (λ (same_names : same_reference field_there.0 (world.graph.root (seat + 1) cas.expected) ≡ true).
      looks config world (at_spot (OnField object (fields.LoadExpected expect value))) (Heap (object + 3 + field)) command fixed refl (cond-true _ _ _ (agree ∙ same_names)) refl shared
      (compared_mine config world seat made kept command shared mine.seated mine.marking mine.copying mine.rooms fixed object expect value got field_there.0 cas
      (inr (mine.facts.0, named_as_one config world shared got expect field_there.0 _ field_there.2 cas.expect_is.stands same_names)) field_there.2 mine.roots))
      (λ (references_differ : same_reference field_there.0 (world.graph.root (seat + 1) cas.expected) ≡ false).
      replies config world (at_spot (OnField object (fields.LoadExpected expect value))) (Heap (object + 3 + field)) command fixed reply.No refl (cond-false _ _ _ (agree ∙ references_differ)) refl mine.facts.0 refl
      (ap (pinned_by world.graph (seat + 1)) cas.is) (ap (λ given_command. outcome world.graph (seat + 1) given_command) cas.is ∙ rw field_there.1 (cond-false _ _ _ references_differ))
      shared
      (differing object expect value field_there.0 shared mine cas field_there.2 references_differ))
      (cases_Bool (same_reference field_there.0 (world.graph.root (seat + 1) cas.expected)))

  -- the load of a number settles it
  pub at_load_number : (object refs : ℕ) → Row config world (at_spot (OnNumber object refs numbers.Load)) command fixed
  at_load_number object refs shared mine =
      let index : ℕ = field in
      let read_facts = mine.facts.1 in
      let number_there = number_in config world shared seat read_facts.obj object index read_facts.of read_facts.below in
      let got : ℕ = world.memory (Heap (object + 3 + refs + index)) in
      replies config world (at_spot (OnNumber object refs numbers.Load)) (Heap (object + 3 + refs + index)) command fixed (reply.Number got) refl refl refl mine.facts.0 refl
      (ap (pinned_by world.graph (seat + 1)) read_facts.is) (ap (λ given_command. outcome world.graph (seat + 1) given_command) read_facts.is ∙ rw number_there (ap (λ field_count. answers (reply.Number (world.memory (Heap (object + 3 + field_count + index)))) world.graph) (sym read_facts.refs_are)))
      shared
      (leaving config _ seat made kept command (reply.Number got) mine.seated (mine.marking.records, mine.marking.scans, mine.copying.copies_is, mine.copying.works_none) mine.roots mine.rooms)

  -- the load of a name: it is the one that was settled
  pub at_load_name : (value : ℕ) → Row config world (at_spot (Showing value show.LoadName)) command fixed
  at_load_name value shared mine =
      let value_facts = mine.facts.0 in
      let word = name_there config world shared value value_facts.name value_facts.is in
      let read : name_in (world.memory (Heap (value + 2))) ≡ value_facts.name = ap name_in word.0 ∙ name_read value_facts.name word.1 in
      let seat_below = mine.seated.below in
      let value_small = value_facts.small in
      looks config world (at_spot (Showing value show.LoadName)) (Heap (value + 2)) command fixed refl refl refl shared
      (record {
        seated = mine.seated;
        ready = ready_of _ _ (grind (arith, nat_tests)) (number_small value (points_small config _ world.block shared.parsable.plotted value (Some value_facts.name) value_facts.is));
        marking = mine.marking;
        copying = mine.copying;
        roots = mine.roots;
        rooms = mine.rooms;
        facts = (value_facts.settled ∙ ap (λ name. Some (reply.Ref name)) (sym read), value_facts.small, mine.facts.1);
      })
