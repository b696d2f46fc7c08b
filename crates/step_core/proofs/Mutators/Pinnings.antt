-- The steps by which a call looks at a pin slot, and stores into it.
use Rattle.std.proofs.Common.{◌≡◌, ℕ, ◌+◌, ◌-◌, ◌*◌, ◌<◌, ◌≤◌, Bool, true, false, not, inr, ⊎_elim, Option, Some, None, refl, sym, ap, ◌∙◌, subst, arith}
use Rattle.std.specs.Prelude.{◌==◌, ◌&&◌, is_some, if◌then◌else◌}
use Rattle.std.proofs.lemmas.Bool.{and_parts, cases_Bool, cond-true, cond-false, eqb-true, eqb-false, leb-true, ltb-true, true≢false}
use Rattle.std.proofs.lemmas.Bool.Decides.{nat_tests}
use Rattle.std.proofs.lemmas.Option.{none-some, same_Some}
use Rattle.shen_graph.proofs.Bools.{true_from_not}
use Rattle.heap_words.specs.declared.config.Config.{Config}
use Rattle.heap_words.specs.Words.{Cset, Evac, Top, Pin as PinWord, write}
use Rattle.heap_words.specs.Touch.{touched}
use Rattle.heap_words.specs.Fits.{is_number}
use Rattle.shen_graph.specs.declared.pin.Pinned.{Pinned}
use Rattle.shen_graph.specs.declared.command.Command.{Command}
use Rattle.shen_graph.specs.declared.command.Command.TheVariants.{Pin, Unpin}
use Rattle.shen_graph.specs.declared.command.Reply.{Reply}
use Rattle.shen_graph.specs.declared.command.Reply.TheVariants as reply
use Rattle.shen_graph.specs.declared.order.Order.TheVariants.{Nothing}
use Rattle.shen_graph.specs.Graph.{Graph, Reference, with_pin}
use Rattle.shen_graph.specs.Step.{Outcome, answers, on, outcome, pinned_by, with_pinned, MayBePinned}
use Rattle.mutator.specs.declared.spot.Kept.{Kept}
use Rattle.mutator.specs.declared.spot.Spot.{Spot}
use Rattle.mutator.specs.declared.spot.Spot.TheVariants.{Pinning, Leave}
use Rattle.mutator.specs.declared.pins.PinSpot.TheVariants as pins
use Rattle.mutator.specs.Rows.{Mutating, touch_of, next_of}
use Rattle.mutator.specs.Told.{told_of}
use Rattle.heap_world.specs.World.{World, thing, name_at, PinStands, ArePinned, Shared}
use Rattle.heap_world.specs.Roots.{is_slot_of, HasNoMorePins}
use Rattle.heap_world.proofs.Pointing.{piece_inside, null_if_0, points_small}
use Rattle.step_core.proofs.Machines.Stepped.{HasObject, IsOfSlot, SlotFits, LegalBy, graph_by, Mine, Stepped, Row}
use Rattle.step_core.proofs.Machines.Ready.{leaving, ready_of, number_small}
use Rattle.step_core.proofs.Mutators.Spots.{mutator_at}
use Rattle.step_core.proofs.Mutators.WhileMarking.{marks_in, copies_in, fields_in}
use Rattle.step_core.proofs.Mutators.Loading.{looks, replies}
use Rattle.step_core.proofs.History.Settling.{legal_answer, graph_answer}

-- no command pins an object where its slot is taken
taken_either : (held_pin : Option Pinned) (reference : Reference) → (held_pin ≡ None → ⊥) → (if is_some held_pin then None else reference) ≡ None
taken_either None reference slot_taken = absurd (slot_taken refl)
taken_either (Some pinned) reference slot_taken = refl

-- an Unpin empties a slot that is taken
empties : (graph : Graph) (given_outcome : Outcome) (held_pin : Option Pinned) → (held_pin ≡ None → ⊥) → on held_pin graph (λ old_pin. given_outcome) ≡ given_outcome
empties graph given_outcome None slot_taken = absurd (slot_taken refl)
empties graph given_outcome (Some pinned) slot_taken = refl

not_true : (holds : Bool) → not holds ≡ true → holds ≡ false
not_true true not_holds = absurd (true≢false (sym not_holds))
not_true false not_holds = refl

-- a slot that holds something is one of a mutator
pub record IsSlotAt (config : Config) (thread slot : ℕ) : Type 0 where
  pub t : ℕ
  pub is : thread ≡ t + 1
  pub below : t < config.mutators
  pub small : slot < 4

pub slot_at : (config : Config) (graph : Graph) → HasNoMorePins config.mutators graph → (thread slot : ℕ) (held_pin : Pinned) → graph.pin thread slot ≡ Some held_pin → IsSlotAt config thread slot
slot_at config graph no_more thread slot held_pin pin_is = ⊎_elim
    (λ (slot_there : is_slot_of config.mutators thread slot ≡ true).
    let both_parts = and_parts _ _ slot_there in
    let rest_true = and_parts _ _ both_parts.1 in
    let thread_positive : 1 ≤ thread = leb-true _ _ both_parts.0 in
    let thread_low : thread ≤ config.mutators = leb-true _ _ rest_true.0 in
    record { t = thread - 1; is = omega (arith, thread_positive); below = omega (arith, thread_positive, thread_low); small = ltb-true _ _ rest_true.1 })
    (λ (no_slot : is_slot_of config.mutators thread slot ≡ false). absurd (none-some held_pin (sym (no_more thread slot no_slot) ∙ pin_is)))
    (cases_Bool (is_slot_of config.mutators thread slot))

module _ (config : Config) (world : World) (shared : Shared config world) where
  -- the word of a slot that holds something is not 0
  pub empty_slot : (mutator slot : ℕ) → mutator < config.mutators → slot < 4 → world.memory (PinWord mutator slot) ≡ 0 → world.graph.pin (mutator + 1) slot ≡ None
  empty_slot mutator slot mutator_below slot_small null = by_held (world.graph.pin (mutator + 1) slot) (shared.pinned mutator slot mutator_below slot_small)
    where
      by_held : (held_pin : Option Pinned) → PinStands config (world.memory Cset) (world.memory Evac) world.block (world.memory (PinWord mutator slot)) held_pin → held_pin ≡ None
      by_held None pin_stands = refl
      by_held (Some pinned) pin_stands = absurd (none-some pinned.name (sym (null_if_0 config (λ region. world.memory (Top region)) world.block shared.parsable.plotted (world.memory (PinWord mutator slot)) (Some pinned.name) (ap name_at pin_stands.3.piece) null)))

  -- and that of one that holds nothing is
  pub null_word : (mutator slot : ℕ) → mutator < config.mutators → slot < 4 → world.graph.pin (mutator + 1) slot ≡ None → world.memory (PinWord mutator slot) ≡ 0
  null_word mutator slot mutator_below slot_small slot_empty = subst (PinStands config (world.memory Cset) (world.memory Evac) world.block (world.memory (PinWord mutator slot))) slot_empty (shared.pinned mutator slot mutator_below slot_small)

  -- an object in hand may be pinned where it is
  pub may_be_pinned : HasNoMorePins config.mutators world.graph → (seat root value : ℕ) (has_object : HasObject config world seat root value) → MayBePinned config.regions config.region_words world.graph has_object.name value
  may_be_pinned no_more seat root value has_object = record {
    within =
        let piece_within = piece_inside config (λ region. world.memory (Top region)) world.block shared.parsable.plotted value (thing has_object.name has_object.refs has_object.nums) has_object.target.piece in
        let object_below : value + (3 + has_object.refs + has_object.nums) ≤ (config.regions + 1) * config.region_words = piece_within.1 in
        (piece_within.0, omega (arith, object_below));
    same = λ thread slot held slot_holds named. let pin_stands = held_stands thread slot held slot_holds in
        sym pin_stands.0 ∙ shared.contents.objects.once (word_at thread slot held slot_holds) value pin_stands.1 pin_stands.2 has_object.refs has_object.nums has_object.name
        (pin_stands.3.piece ∙ ap (λ name. Some (thing name pin_stands.1 pin_stands.2)) named) has_object.target.piece;
    alone = λ thread slot held slot_holds placed. let pin_stands = held_stands thread slot held slot_holds in
        same_Some held.name has_object.name (sym (ap name_at pin_stands.3.piece) ∙ ap (λ address. name_at (world.block address)) (pin_stands.0 ∙ placed) ∙ ap name_at has_object.target.piece);
  }
    where
      word_at : (thread slot : ℕ) (held_pin : Pinned) → world.graph.pin thread slot ≡ Some held_pin → ℕ
      word_at thread slot held_pin pin_is = world.memory (PinWord (slot_at config world.graph no_more thread slot held_pin pin_is).t slot)

      held_stands : (thread slot : ℕ) (held_pin : Pinned) (pin_is : world.graph.pin thread slot ≡ Some held_pin) → PinStands config (world.memory Cset) (world.memory Evac) world.block (word_at thread slot held_pin pin_is) (Some held_pin)
      held_stands thread slot held_pin pin_is =
          let pin_slot = slot_at config world.graph no_more thread slot held_pin pin_is in
          subst (PinStands config (world.memory Cset) (world.memory Evac) world.block (world.memory (PinWord pin_slot.t slot))) (ap (λ thread. world.graph.pin thread slot) (sym pin_slot.is) ∙ pin_is) (shared.pinned pin_slot.t slot pin_slot.below pin_slot.small)

module _ (config : Config) (world : World) (seat made : ℕ) (kept : Kept) (command : Command) (fixed : Option Reply) where
  -- what the call of a command keeps
  abbrev keeping : Command → Kept
  keeping kept_command = record { command = kept_command; phase = kept.phase; cset = kept.cset }

  abbrev at_call : Command → Spot → Mutating
  at_call kept_command spot = mutator_at seat made (keeping kept_command) spot

  -- it leaves with the reply that is settled, where a world has the words, pieces and roots of this one
  abbrev IsAt : Command → ℕ → Type 0
  IsAt kept_command value = Mine config world (at_call kept_command (Pinning value pins.Look)) command fixed

  bad_mine : (kept_command : Command) (value : ℕ) → IsAt kept_command value → Mine config world (at_call kept_command (Leave reply.Bad)) command (Some reply.Bad)
  bad_mine kept_command value command_at = leaving config world seat made (keeping kept_command) command reply.Bad command_at.seated (command_at.marking.records, command_at.marking.scans, command_at.copying.copies_is, command_at.copying.works_none) command_at.roots command_at.rooms

  -- the store can be made next, of what may be stored
  store_mine : (kept_command : Command) (value : ℕ) → Shared config world → IsAt kept_command value → IsOfSlot config world seat kept_command value → SlotFits world seat kept_command → is_number value ≡ true → Mine config world (at_call kept_command (Pinning value pins.Store)) command fixed
  store_mine kept_command value shared command_at of_slot fits value_small = record {
    seated = command_at.seated;
    ready = ready_of _ _ (and_parts _ _ (and_parts _ _ command_at.ready).0).0 value_small;
    marking = command_at.marking;
    copying = command_at.copying;
    roots = command_at.roots;
    rooms = command_at.rooms;
    facts = (command_at.facts.0, command_at.facts.1, of_slot, fits);
  }

  look_step : (kept_command : Command) (value : ℕ) → Shared config world → IsAt kept_command value → Stepped config world (at_call kept_command (Pinning value pins.Look)) command Nothing fixed
  look_step (Pin slot obj) value shared command_at =
      let word : ℕ = world.memory (PinWord seat slot) in
      let slot_small : slot < 4 = command_at.facts.2.0 in
      let has_object : HasObject config world seat obj value = command_at.facts.2.1 in
      ⊎_elim
      (λ (word_tested : (word == 0) ≡ true).
      looks config world (at_call (Pin slot obj) (Pinning value pins.Look)) (PinWord seat slot) command fixed refl (cond-true _ _ _ word_tested) refl shared
      (rw word_tested (store_mine (Pin slot obj) value shared command_at command_at.facts.2 (empty_slot config world shared seat slot command_at.seated.below slot_small (eqb-true _ _ word_tested))
      (number_small value (points_small config (λ region. world.memory (Top region)) world.block shared.parsable.plotted value (Some has_object.name) (ap name_at has_object.target.piece))))))
      (λ (lacks : (word == 0) ≡ false).
      let slot_taken : world.graph.pin (seat + 1) slot ≡ None → ⊥ = λ slot_empty. eqb-false _ _ lacks (null_word config world shared seat slot command_at.seated.below slot_small slot_empty) in
      replies config world (at_call (Pin slot obj) (Pinning value pins.Look)) (PinWord seat slot) command fixed reply.Bad refl (cond-false _ _ _ lacks) refl command_at.facts.0 refl
      (ap (pinned_by world.graph (seat + 1)) command_at.facts.1 ∙ taken_either (world.graph.pin (seat + 1) slot) (world.graph.root (seat + 1) obj) slot_taken)
      (ap (outcome world.graph (seat + 1)) command_at.facts.1)
      shared (rw lacks (bad_mine (Pin slot obj) value command_at)))
      (cases_Bool (word == 0))
  look_step (Unpin slot) value shared command_at =
      let word : ℕ = world.memory (PinWord seat slot) in
      let slot_small : slot < 4 = command_at.facts.2.0 in
      ⊎_elim
      (λ (word_tested : not (word == 0) ≡ true).
      looks config world (at_call (Unpin slot) (Pinning value pins.Look)) (PinWord seat slot) command fixed refl (cond-true _ _ _ word_tested) refl shared
      (rw word_tested (store_mine (Unpin slot) value shared command_at command_at.facts.2
      (λ slot_empty. eqb-false _ _ (not_true (word == 0) word_tested) (null_word config world shared seat slot command_at.seated.below slot_small slot_empty)) (ap is_number command_at.facts.2.1))))
      (λ (lacks : not (word == 0) ≡ false).
      let slot_empty : world.graph.pin (seat + 1) slot ≡ None = empty_slot config world shared seat slot command_at.seated.below slot_small (eqb-true _ _ (true_from_not (word == 0) lacks)) in
      replies config world (at_call (Unpin slot) (Pinning value pins.Look)) (PinWord seat slot) command fixed reply.Bad refl (cond-false _ _ _ lacks) refl command_at.facts.0 refl
      (ap (pinned_by world.graph (seat + 1)) command_at.facts.1)
      (ap (outcome world.graph (seat + 1)) command_at.facts.1 ∙ ap (λ held_pin. on held_pin world.graph (λ old_pin. answers reply.Ok (with_pin world.graph (seat + 1) slot None))) slot_empty)
      shared (rw lacks (bad_mine (Unpin slot) value command_at)))
      (cases_Bool (not (word == 0)))
  look_step _ value shared command_at = absurd command_at.facts.2

  -- the look at a slot settles Bad where it is not as the command wants it
  pub at_look_pin : (value : ℕ) → Row config world (mutator_at seat made kept (Pinning value pins.Look)) command fixed
  at_look_pin value shared mine = look_step kept.command value shared mine

  module _ (other_command : Command) (value slot : ℕ) (held_pin : Option Pinned) (shared : Shared config world) (stands : PinStands config (world.memory Cset) (world.memory Evac) world.block value held_pin) where
    -- the world in which a slot holds something, and its word is the place
    abbrev pinned_world : World
    pinned_world = record { memory = write world.memory (PinWord seat slot) value; block = world.block; ghost = world.ghost; graph = with_pin world.graph (seat + 1) slot held_pin }

    -- each pin word stands for what its slot holds
    pins_then : ArePinned config (world.memory Cset) (world.memory Evac) world.block (λ mutator slot. pinned_world.memory (PinWord mutator slot)) pinned_world.graph.pin
    pins_then pin_mutator pin_index mutator_below slot_small =
        let threads_tested : ((pin_mutator + 1) == (seat + 1)) ≡ (seat == pin_mutator) = grind (arith, nat_tests) in
        let slots_tested : (pin_index == slot) ≡ (slot == pin_index) = grind (arith, nat_tests) in
        rw (threads_tested, slots_tested)
        (elim ((seat == pin_mutator) && (slot == pin_index)) as (λ holds. PinStands config (world.memory Cset) (world.memory Evac) world.block (if holds then value else world.memory (PinWord pin_mutator pin_index)) (if holds then held_pin else world.graph.pin (pin_mutator + 1) pin_index)) [
          | true ↦ stands
          | false ↦ shared.pinned pin_mutator pin_index mutator_below slot_small
        ])

    -- machines share what they should
    shared_pinned : Shared config pinned_world
    shared_pinned = record {
      parsable = shared.parsable;
      contents = shared.contents;
      owned = shared.owned;
      phased = shared.phased;
      unwritten = shared.unwritten;
      marked = shared.marked;
      evacuated = shared.evacuated;
      updated = shared.updated;
      pinned = pins_then;
    }

    -- The store settles a legal reply, which leads to that graph.
    settles_pin : (answer : Reply) → touched world.memory (touch_of config (at_call other_command (Pinning value pins.Store)) Nothing) ≡ write world.memory (PinWord seat slot) value → told_of world.memory (at_call other_command (Pinning value pins.Store)) ≡ Some answer
        → Mine config world (at_call other_command (Pinning value pins.Store)) command fixed → pinned_world.graph ≡ graph_by world.graph seat command (Some answer) → LegalBy config world.graph seat command (Some answer)
        → Mine config pinned_world (next_of config (at_call other_command (Pinning value pins.Store)) Nothing (world.memory (touch_of config (at_call other_command (Pinning value pins.Store)) Nothing).word)) command (Some answer)
        → Stepped config world (at_call other_command (Pinning value pins.Store)) command Nothing fixed
    settles_pin given_reply memory_written reply_told own_facts same_graph legal facts_then = record {
      world = pinned_world;
      memory = sym memory_written;
      graph = subst (λ told_reply. pinned_world.graph ≡ graph_by world.graph seat command told_reply) (sym reply_told) same_graph;
      legal = subst (LegalBy config world.graph seat command) (sym reply_told) legal;
      settles = λ settled_reply reply_settled. (own_facts.facts.0, refl);
      shared = shared_pinned;
      mine = rw reply_told facts_then;
      others = λ seat differs. let marks = marks_in config world pinned_world.memory pinned_world.graph seat refl (λ n. refl) (λ t. refl) (λ t kept_command. refl) (λ a. refl) in let copies = copies_in config world pinned_world.memory pinned_world.graph seat refl refl (λ given_reply. refl) (λ a. refl) in let kept_fields = fields_in config world pinned_world.memory pinned_world.graph (λ given_reply. refl) (λ given_reply. refl) refl (λ a. refl) in search (arith, nat_tests, marks, copies, kept_fields);
    }

  store_step : HasNoMorePins config.mutators world.graph → (kept_command : Command) (value : ℕ) → Shared config world → Mine config world (at_call kept_command (Pinning value pins.Store)) command fixed → Stepped config world (at_call kept_command (Pinning value pins.Store)) command Nothing fixed
  store_step no_more (Pin slot obj) value shared own_facts =
      let has_object : HasObject config world seat obj value = own_facts.facts.2.1 in
      let held_pin : Pinned = record { name = has_object.name; place = value } in
      let name_pinned : pinned_by world.graph (seat + 1) (Pin slot obj) ≡ Some has_object.name = ap (λ slot_found. if is_some slot_found then None else world.graph.root (seat + 1) obj) own_facts.facts.3 ∙ has_object.root_is in
      let same_graph : with_pinned world.graph (seat + 1) slot (pinned_by world.graph (seat + 1) (Pin slot obj)) value ≡ with_pin world.graph (seat + 1) slot (Some held_pin) = ap (λ any_reference. with_pinned world.graph (seat + 1) slot any_reference value) name_pinned in
      settles_pin (Pin slot obj) value slot (Some held_pin) shared (refl, has_object.refs, has_object.nums, has_object.target) (reply.At value) refl refl own_facts
      (sym (ap (λ any_command. graph_by world.graph seat any_command (Some (reply.At value))) own_facts.facts.1 ∙ same_graph))
      (subst (λ any_command. LegalBy config world.graph seat any_command (Some (reply.At value))) (sym own_facts.facts.1) (inr (inr (record {
        name = has_object.name;
        place = value;
        pins = name_pinned;
        may = may_be_pinned config world shared no_more seat obj value has_object;
        reply = refl;
        graph = ap (λ any_reference. with_pinned world.graph (seat + 1) slot any_reference value) name_pinned;
      }))))
      (leaving config _ seat made (keeping (Pin slot obj)) command (reply.At value) own_facts.seated (own_facts.marking.records, own_facts.marking.scans, own_facts.copying.copies_is, own_facts.copying.works_none) own_facts.roots own_facts.rooms)
  store_step no_more (Unpin slot) value shared own_facts =
      let emptied : outcome world.graph (seat + 1) command ≡ answers reply.Ok (with_pin world.graph (seat + 1) slot None) =
      ap (outcome world.graph (seat + 1)) own_facts.facts.1 ∙ empties world.graph (answers reply.Ok (with_pin world.graph (seat + 1) slot None)) (world.graph.pin (seat + 1) slot) own_facts.facts.3 in
      let nothing_pinned : pinned_by world.graph (seat + 1) command ≡ None = ap (pinned_by world.graph (seat + 1)) own_facts.facts.1 in
      settles_pin (Unpin slot) value slot None shared own_facts.facts.2.1 reply.Ok refl refl own_facts
      (sym (graph_answer world.graph seat command reply.Ok refl nothing_pinned ∙ ap (λ any_outcome. any_outcome.graph) emptied))
      (legal_answer config world.graph seat command reply.Ok refl nothing_pinned (ap (λ any_outcome. any_outcome.reply) emptied))
      (leaving config _ seat made (keeping (Unpin slot)) command reply.Ok own_facts.seated (own_facts.marking.records, own_facts.marking.scans, own_facts.copying.copies_is, own_facts.copying.works_none) own_facts.roots own_facts.rooms)
  store_step no_more _ value shared own_facts = absurd own_facts.facts.2

  -- the store into a slot settles the place of the object, or that it is done
  pub at_store_pin : HasNoMorePins config.mutators world.graph → (value : ℕ) → Row config world (mutator_at seat made kept (Pinning value pins.Store)) command fixed
  at_store_pin no_more value shared mine = store_step no_more kept.command value shared mine
