-- The theorem over every list of events.
use Rattle.std.proofs.Common.{◌≡◌, ◌≢◌, ℕ, ◌+◌, ◌<◌, true, false, List, [], ◌++◌, ⊎_elim, Some, refl, sym, ap, ◌∙◌, subst, arith}
use Rattle.std.specs.Prelude.{slice_get, slice_index}
use Rattle.std.proofs.lemmas.Option.{same_Some}
use Rattle.std.proofs.lemmas.Bool.{cases_Bool, false≢true}
use Rattle.heap_words.proofs.Lists.{slice_get-set_same}
use Rattle.heap_words.specs.declared.config.Config.{Config}
use Rattle.heap_words.specs.Access.{table_index}
use Rattle.heap_words.specs.Words.{Left, Answer, Pin, word_at, view, table_words}
use Rattle.heap_words.proofs.Stores.{is_word_true}
use Rattle.heap_words.proofs.Rows.{word_inside}
use Rattle.heap_words.specs.Touch.{touch, subtracts, placed}
use Rattle.heap_words.specs.Steps.{Stage, Event, act, go, HasReached, Finds}
use Rattle.heap_words.proofs.Laws.{act-event}
use Rattle.heap_words.proofs.Runs.{reached_has}
use Rattle.heap_words.proofs.Touches.{table_index-access_at}
use Rattle.shen_graph.specs.declared.order.Order.{Order}
use Rattle.shen_graph.specs.declared.order.Order.TheVariants.{Nothing, Begin, End, Hint}
use Rattle.shen_graph.specs.Order.{hint_in}
use Rattle.shen_graph.specs.Graph.{Graph}
use Rattle.shen_graph.specs.Crowd.{AreCrowded}
use Rattle.shen_graph.specs.History.{Entry, after, of_thread}
use Rattle.handshake.specs.Standing.{is_within, is_pausing}
use Rattle.handshake.proofs.Counting.{left_some}
use Rattle.handshake.proofs.Still.{pause_empty}
use Rattle.mutator.specs.declared.spot.Kept.{Kept}
use Rattle.mutator.specs.declared.spot.Spot.{Spot}
use Rattle.mutator.specs.declared.spot.Spot.TheVariants.{Rest, Ended}
use Rattle.mutator.specs.Orders.{takes_at}
use Rattle.mutator.specs.Rows.{Mutating, touch_at, touch_of, next_of}
use Rattle.mutator.specs.Fit.{IsReady, PartFit, EndsFit, IsFit}
use Rattle.alloc_buffers.specs.Facts.{HasLess}
use Rattle.heap_world.specs.World.{World}
use Rattle.heap_world.specs.Change.{Change}
use Rattle.collector_rows.specs.ByParts.{PausesByParts}
use Rattle.collector_rows.specs.ControlReady.{is_ready}
use Rattle.collector_rows.specs.HelperRows.{Helping}
use Rattle.collector_rows.specs.ControlRows.{Controlling}
use Rattle.step_core.specs.Actor.{Machine, mutating, helping, controlling, Actor}
use Rattle.step_core.specs.Begins.{Begins, Run, ending, history_in, first_graph, reached, past}
use Rattle.step_core.specs.Begun.{scripts_begun}
use Rattle.step_core.specs.History.{told, history}
use Rattle.step_core.specs.Machines.{takes_of, plan_of, took_of, machine_after, kind, IsFitFor, standing_of, helping_by}
use Rattle.step_core.specs.Pausing.{IsInPause, IsHelper, IsEmpty}
use Rattle.step_core.specs.Seats.{taking_of, looks_for}
use Rattle.step_core.specs.Settled.{settled, control_number}
use Rattle.step_core.specs.Sound.{world_of, IsMutator, IsOfHeap, FindsFit, IsSound}
use Rattle.step_core.proofs.Mutators.Adapter.{gives_settled}
use Rattle.step_core.specs.Pins.{OnlyPinningPins}
use Rattle.step_core.proofs.Theorem.PinWords.{pin_held, only_pinning}
use Rattle.step_core.proofs.Theorem.Beginning.{goes_begins}
use Rattle.step_core.proofs.History.Crowding.{run_crowded}
use Rattle.step_core.proofs.Machines.Owed.{IsSeen, IsThread, IsAim, IsMachine}
use Rattle.step_core.proofs.Theorem.FirstFacts.{opening_run}
use Rattle.step_core.proofs.Control.Images.{found-placed}
use Rattle.step_core.proofs.Helpers.Stable.{help_leaves_image}
use Rattle.step_core.proofs.Mutators.PartFits.{part_fits, part_outside, within_call}
use Rattle.step_core.proofs.Control.Held.{IsKept, held_image, outside_held}
use Rattle.step_core.proofs.Control.Images.{settled_found}
use Rattle.mutator.proofs.Orders.{in_call}
use Rattle.step_core.proofs.Theorem.Induction.{Goes, goes_event, goes_run}
use Rattle.step_core.proofs.Theorem.Fits.{helper_inside, helper_fit, control_inside, control_fit}
use Rattle.step_core.proofs.Handshake.Machines.{standing, is_left}
use Rattle.step_core.proofs.Machines.Hinting.{help_hinted_stands}
use Rattle.step_core.proofs.Handshake.Mutator.{has_not_ended}
use Rattle.step_core.proofs.Mutators.Ordered.{order_word}
use Rattle.step_core.proofs.Mutators.Outside.{outside_touch}
use Rattle.step_core.specs.Standing.{standing_at, help_standing}
use Rattle.step_core.proofs.History.Replies.{unsettled_at_rest, unsettled_before, settled_after, took_settled}
use Rattle.step_core.proofs.Machines.Seats.{in_seat, lacks}
use Rattle.step_core.proofs.Theorem.Stands.{thread_of as thread_there, stands}
use Rattle.step_core.proofs.Theorem.AtRest.{at_rest}
use Rattle.step_core.specs.AtRest.{IsAtRest}
use Rattle.heap_world.specs.Asking.{nothing}
use Rattle.heap_world.specs.Represents.{Represents}
use Rattle.collector_rows.specs.Extent.{Counting}
use Rattle.step_core.proofs.Machines.Roles.{number_of, mutator_of, machine_there}

-- a mutator that ends has not ended, and its access is of the count
ends_left : (spot : Spot) (made : ℕ) → takes_at spot made End ≡ true → has_not_ended spot ≡ true
ends_left Rest made takes = refl
ends_left (Ended reply) made takes = refl
ends_left _ made takes = absurd (cc (takes))

ends_at : (config : Config) (seat made : ℕ) (kept : Kept) (spot : Spot) → takes_at spot made End ≡ true → touch_at config seat made kept End spot ≡ touch Left (subtracts 1)
ends_at config seat made kept Rest takes = refl
ends_at config seat made kept (Ended reply) takes = refl
ends_at config seat made kept _ takes = absurd (cc (takes))

-- What a stage says in which all goes as it should.
module _ (change : Change) (law : PausesByParts change) (config : Config) (graph : Graph) (stage : Stage Actor) (entries : List Entry) (history_goes : Goes config graph stage entries) where
  abbrev the_world : World
  the_world = world_of config stage history_goes.follows.block history_goes.follows.ghost (after graph entries)

  -- of a machine
  known : (number : ℕ) (actor : Actor) → slice_get stage.machines number ≡ Some actor → IsMachine config stage.words the_world (of_thread entries (number + 1)) number actor actor.machine
  known = history_goes.follows.machines

  -- of a mutator
  thread_of : (number : ℕ) (actor : Actor) (mutator : Mutating) → IsMutator stage number actor mutator → IsThread config stage.words the_world (of_thread entries (number + 1)) number actor mutator
  thread_of = thread_there config graph stage entries history_goes

  -- the machine of a number after its step, in the stage after it
  machine_next : (number : ℕ) (actor : Actor) (order : Order) → slice_get stage.machines number ≡ Some actor → takes_of actor.machine order ≡ true
      → (world : World) × (words : List ℕ) × (own_entries : List Entry)
      × IsMachine config words world own_entries number (took_of change config actor order (slice_index stage.words (table_index (plan_of config order actor.machine))) actor.machine)
      (machine_after change config order (slice_index stage.words (table_index (plan_of config order actor.machine))) actor.machine)
  unfolding kind
  machine_next number actor order actor_there takes =
      let event : Event Order = record { number = number; order = order } in
      let next_facts = goes_event change law config graph stage entries event history_goes in
      let next_there : slice_get (act (kind change config) stage event).machines number ≡ Some (took_of change config actor order (slice_index stage.words (table_index (plan_of config order actor.machine))) actor.machine) =
      ap (λ next_stage. slice_get next_stage.machines number) (act-event (kind change config) stage event actor (record { here = actor_there; takes = takes })) ∙ slice_get-set_same stage.machines number actor _ actor_there in (
        world_of config (act (kind change config) stage event) next_facts.follows.block next_facts.follows.ghost (after graph (entries ++ told config stage event)),
        (act (kind change config) stage event).words,
        of_thread (entries ++ told config stage event) (number + 1),
        next_facts.follows.machines number _ next_there,
      )

  -- a mutator is outside while an image counts
  mutator_outside : (number : ℕ) (actor : Actor) (mutator : Mutating) → IsMutator stage number actor mutator → (image : Counting) → held_image config stage ≡ Some image → is_within (standing_at mutator.spot) ≡ false
  mutator_outside number actor mutator mutator_known image image_held =
      let thread = thread_of number actor mutator mutator_known in
      let number_below : number < control_number config = (let seat_less = subst (λ any_seat. any_seat < config.mutators) thread.number_is thread.mine.seated.below in omega (arith, seat_less)) in
      ap (λ machine. is_within (standing_of machine)) (sym mutator_known.is) ∙ outside_held config stage history_goes.shaken image image_held number actor number_below mutator_known.here

  -- a word that a mutator finds is fit
  fit_mutator : (number : ℕ) (actor : Actor) (mutator : Mutating) (order : Order) → slice_get stage.machines number ≡ Some actor → actor.machine ≡ mutating mutator → takes_at mutator.spot mutator.made order ≡ true
      → IsFit config mutator order (slice_index stage.words (table_index (placed config (touch_of config mutator order))))
  fit_mutator number actor mutator order actor_there mutator_machine takes = (ready, part order takes, ends order takes)
    where
      ready : IsReady config (next_of config mutator order (slice_index stage.words (table_index (placed config (touch_of config mutator order)))))
      ready =
          let next_facts = machine_next number actor order actor_there (ap (λ machine. takes_of machine order) mutator_machine ∙ takes) in
          let thread = subst (λ machine. IsMachine config next_facts.1 next_facts.0 next_facts.2 number (took_of change config actor order (slice_index stage.words (table_index (plan_of config order actor.machine))) actor.machine)
          (machine_after change config order (slice_index stage.words (table_index (plan_of config order machine))) machine)) mutator_machine next_facts.3 in
          thread.mine.ready

      part : (other_order : Order) → takes_at mutator.spot mutator.made other_order ≡ true → PartFit config mutator.seat mutator.kept mutator.spot (slice_index stage.words (table_index (placed config (touch_of config mutator other_order))))
      part other_order takes_it = ⊎_elim
          (λ (spot_within : is_within (standing_at mutator.spot) ≡ true).
          let thread = thread_of number actor mutator (record { here = actor_there; is = mutator_machine }) in
          let called : other_order ≡ Nothing = in_call mutator.spot mutator.made other_order (within_call mutator.spot spot_within) takes_it in
          subst (λ some_order. PartFit config mutator.seat mutator.kept mutator.spot (slice_index stage.words (table_index (placed config (touch_of config mutator some_order))))) (sym called)
          (subst (λ got. PartFit config mutator.seat mutator.kept mutator.spot got) (sym (settled_found config stage.words (touch_of config mutator Nothing) (held_image config stage)
          (order_word config mutator.seat mutator.made mutator.kept Nothing mutator.spot thread.mine.seated.below thread.mine.ready (subst (λ some_order. takes_at mutator.spot mutator.made some_order ≡ true) called takes_it))
          (λ image image_held. absurd (false≢true (sym (mutator_outside number actor mutator (record { here = actor_there; is = mutator_machine }) image image_held) ∙ spot_within)))))
          (part_fits config the_world history_goes.follows.shared mutator.seat mutator.made mutator.kept actor.command thread.fixed mutator.spot thread.mine)))
          (λ (outside_now : is_within (standing_at mutator.spot) ≡ false). part_outside config mutator.seat mutator.kept mutator.spot _ outside_now)
          (cases_Bool (is_within (standing_at mutator.spot)))

      ends : (other_order : Order) → takes_at mutator.spot mutator.made other_order ≡ true → EndsFit other_order (slice_index stage.words (table_index (placed config (touch_of config mutator other_order))))
      ends Nothing takes_it = tt
      ends (Begin command) takes_it = tt
      ends (Hint address) takes_it = tt
      ends End takes_it = subst (λ some_touch. slice_index stage.words (table_index (placed config some_touch)) ≢ 0) (sym (ends_at config mutator.seat mutator.made mutator.kept mutator.spot takes_it))
          (subst (λ got. got ≢ 0) (sym (found-placed config stage.words (touch Left (subtracts 1)) refl))
          (left_some config is_left stage number actor history_goes.counted actor_there (ap (λ machine. is_left (record { machine = machine; command = actor.command; calls = actor.calls })) mutator_machine ∙ ends_left mutator.spot mutator.made takes_it)))

  -- a machine finds a fit word
  finds_fit : (number : ℕ) (actor : Actor) → slice_get stage.machines number ≡ Some actor → FindsFit config stage actor
  finds_fit number actor actor_there = by_machine actor.machine refl
    where
      named : {machine : Machine} → actor.machine ≡ machine → Some actor ≡ Some (record { machine = machine; command = actor.command; calls = actor.calls })
      named same_machine = ap (λ machine. Some (record { machine = machine; command = actor.command; calls = actor.calls })) same_machine

      by_machine : (machine : Machine) → actor.machine ≡ machine → FindsFit config stage actor
      by_machine (mutating m) same_machine =
          let thread = thread_of number actor m (record { here = actor_there; is = same_machine }) in
          record {
            inside = λ any_order takes.
                subst (λ machine. table_index (plan_of config any_order machine) < table_words config) (sym same_machine)
                (subst (λ control. control < table_words config) (sym (table_index-access_at (word_at config (touch_of config m any_order).word) (touch_of config m any_order).form))
                (word_inside config (touch_of config m any_order).word (is_word_true config (touch_of config m any_order).word
                (order_word config m.seat m.made m.kept any_order m.spot thread.mine.seated.below thread.mine.ready (ap (λ machine. takes_of machine any_order) (sym same_machine) ∙ takes)))));
            fit = λ any_order takes.
                subst (λ machine. IsFitFor config any_order (slice_index stage.words (table_index (plan_of config any_order machine))) machine) (sym same_machine)
                (fit_mutator number actor m any_order actor_there same_machine (ap (λ machine. takes_of machine any_order) (sym same_machine) ∙ takes));
          }
      by_machine (helping m) same_machine = record {
        inside = λ any_order takes. subst (λ machine. table_index (plan_of config any_order machine) < table_words config) (sym same_machine)
            (helper_inside change law config graph stage entries history_goes.follows history_goes.shaken number any_order m actor.command actor.calls (actor_there ∙ named same_machine) (ap (λ machine. takes_of machine any_order) (sym same_machine) ∙ takes));
        fit = λ any_order takes. subst (λ machine. IsFitFor config any_order (slice_index stage.words (table_index (plan_of config any_order machine))) machine) (sym same_machine)
            (helper_fit change law config graph stage entries history_goes.follows history_goes.shaken number any_order m actor.command actor.calls (actor_there ∙ named same_machine) (ap (λ machine. takes_of machine any_order) (sym same_machine) ∙ takes));
      }
      by_machine (controlling control) same_machine = record {
        inside = λ any_order takes. subst (λ machine. table_index (plan_of config any_order machine) < table_words config) (sym same_machine)
            (control_inside change law config graph stage entries history_goes.follows history_goes.shaken number any_order control actor.command actor.calls (actor_there ∙ named same_machine) (ap (λ machine. takes_of machine any_order) (sym same_machine) ∙ takes));
        fit = λ any_order takes. subst (λ machine. IsFitFor config any_order (slice_index stage.words (table_index (plan_of config any_order machine))) machine) (sym same_machine)
            (control_fit change law config graph stage entries history_goes.follows history_goes.shaken number any_order control actor.command actor.calls (actor_there ∙ named same_machine) (ap (λ machine. takes_of machine any_order) (sym same_machine) ∙ takes));
      }

  -- of its machines
  of_heap : IsOfHeap config stage
  of_heap = record {
    words = history_goes.follows.words;
    machines = history_goes.follows.seats;
    roles = λ number actor machine_found. number_of config stage.words the_world (of_thread entries (number + 1)) number actor actor.machine (known number actor machine_found);
    mutators = λ number number_below.
        let machine_found = machine_there config stage.words the_world entries stage.machines history_goes.follows.seats number (omega (arith, number_below)) in
        let role = mutator_of config number machine_found.0.machine (number_of config stage.words the_world (of_thread entries (number + 1)) number machine_found.0 machine_found.0.machine (known number machine_found.0 machine_found.1)) number_below in
        record { actor = machine_found.0; mutator = role.0; here = record { here = machine_found.1; is = role.1 } };
    numbers = λ number actor mutator mutator_known. let thread = thread_of number actor mutator mutator_known in (thread.number_is, subst (λ any_seat. any_seat < config.mutators) thread.number_is thread.mine.seated.below);
  }

  -- of all: it is sound
  sound : AreCrowded config.regions config.region_words graph (scripts_begun config stage) entries → IsSound config graph stage entries
  sound crowded = record {
    of_heap = of_heap;
    stands = stands config graph stage entries history_goes;
    legal = history_goes.follows.legal;
    crowded = crowded;
    entries = history_goes.follows.entries;
    no_more = history_goes.follows.no_more;
    no_more_pins = history_goes.follows.no_more_pins;
    pinned = λ mutator slot mutator_below small. pin_held config the_world history_goes.follows.shared (the_world.memory (Pin mutator slot)) (the_world.graph.pin (mutator + 1) slot) (history_goes.follows.shared.pinned mutator slot mutator_below small);
    threads = λ number actor some_mutator mutator_known.
        let thread = thread_of number actor some_mutator mutator_known in
        let answer_seen = subst (λ mutator. IsSeen (view config stage.words (Answer number)) (the_world.memory (Answer mutator)) thread.fixed) (sym thread.number_is) thread.seen in
        record {
          fixed = thread.fixed;
          entries_are = thread.entries_are;
          between_calls = λ rest. unsettled_at_rest config the_world some_mutator.seat some_mutator.made some_mutator.kept actor.command thread.fixed some_mutator.spot rest thread.mine.facts;
          before_it = λ before. unsettled_before config the_world some_mutator.seat some_mutator.made some_mutator.kept actor.command thread.fixed (view config stage.words (Answer number)) answer_seen history_goes.follows.shared some_mutator.spot before thread.mine.facts;
          after_it = λ behind. settled_after config the_world some_mutator.seat some_mutator.made some_mutator.kept actor.command thread.fixed (view config stage.words (Answer number)) answer_seen history_goes.follows.shared some_mutator.spot behind thread.mine.facts;
          gives = λ reply reply_is. gives_settled config the_world some_mutator.seat some_mutator.kept actor.command thread.fixed some_mutator.spot some_mutator.made reply thread.mine.facts reply_is;
          took = λ reply reply_is. took_settled config the_world some_mutator.seat some_mutator.made some_mutator.kept actor.command thread.fixed some_mutator.spot reply reply_is thread.mine.facts;
        };
    fit = finds_fit;
  }

  -- of a machine that is about to look for a free region
  lacks_room : (number : ℕ) (actor : Actor) (words : ℕ) → slice_get stage.machines number ≡ Some actor → looks_for actor.machine ≡ Some words → HasLess (settled config stage) number words
  lacks_room number actor words actor_there looks = lacks the_world number words (taking_of actor.machine) looks (in_seat config stage.words the_world (of_thread entries (number + 1)) number actor actor.machine (known number actor actor_there)).takes

  -- what the control has read of the image is as the table has it
  aims_of : (number : ℕ) (actor : Actor) (control : Controlling) → slice_get stage.machines number ≡ Some actor → actor.machine ≡ controlling control → (is_ready config control.spot ≡ true) × IsAim config stage.words control.spot control.image
  aims_of number actor control actor_there control_machine =
      let facts = subst (λ any_machine. IsMachine config stage.words the_world (of_thread entries (number + 1)) number actor any_machine) control_machine (known number actor actor_there) in
      (facts.ready, facts.aims)

-- In a pause no machine but the control is in the heap.
pub outside_in_pause : (config : Config) (stage : Stage Actor) → IsKept config stage → IsInPause config stage → (number : ℕ) (actor : Actor) → number < control_number config → slice_get stage.machines number ≡ Some actor → is_within (standing_of actor.machine) ≡ false
outside_in_pause config stage shaken pause number actor number_below actor_there =
    let same_control : shaken.control ≡ pause.actor = same_Some shaken.control pause.actor (sym shaken.there ∙ pause.here) in
    pause_empty config standing stage shaken (ap is_pausing (ap standing same_control ∙ ap standing_of pause.is) ∙ pause.pausing) number actor number_below actor_there

-- No mutator and no helper is, and each leaves the image alone.
pause_is_empty : (change : Change) → PausesByParts change → (config : Config) (graph : Graph) (stage : Stage Actor) (entries : List Entry) → Goes config graph stage entries → IsInPause config stage → IsEmpty config stage
pause_is_empty change law config graph stage entries history_goes pause = record {
  nobody = out;
  no_helper = help_out;
  no_access = λ number actor some_helper order machine_known.
      let helper : Helping = helping_by config order some_helper in
      help_leaves_image config helper.seat helper.spot (ap is_within (help_hinted_stands config (hint_in order) some_helper) ∙ help_out number actor some_helper machine_known);
  only_polls = λ number actor mutator order machine_known takes. outside_touch config mutator.seat mutator.made mutator.kept order mutator.spot (out number actor mutator machine_known) takes;
}
  where
    out : (number : ℕ) (actor : Actor) (mutator : Mutating) → IsMutator stage number actor mutator → is_within (standing_at mutator.spot) ≡ false
    out number actor mutator mutator_known =
        let thread = thread_of change law config graph stage entries history_goes number actor mutator mutator_known in
        let number_below : number < control_number config = (let seat_less = subst (λ any_seat. any_seat < config.mutators) thread.number_is thread.mine.seated.below in omega (arith, seat_less)) in
        ap (λ machine. is_within (standing_of machine)) (sym mutator_known.is) ∙ outside_in_pause config stage history_goes.shaken pause number actor number_below mutator_known.here

    help_out : (number : ℕ) (actor : Actor) (helper : Helping) → IsHelper stage number actor helper → is_within (help_standing helper.spot) ≡ false
    help_out number actor helper helper_known =
        let facts = subst (λ machine. IsMachine config stage.words (world_of config stage history_goes.follows.block history_goes.follows.ghost (after graph entries)) (of_thread entries (number + 1)) number actor machine) helper_known.is (history_goes.follows.machines number actor helper_known.here) in
        ap (λ machine. is_within (standing_of machine)) (sym helper_known.is) ∙ outside_in_pause config stage history_goes.shaken pause number actor facts.below helper_known.here

module _ (change : Change) (law : PausesByParts change) (config : Config) (stage : Stage Actor) (graph : Graph) (begins : Begins config stage graph) where
  -- in each stage that events lead to all goes as it should
  goes_all : (events : List (Event Order)) → Goes config graph (go (kind change config) stage events) (history change config stage events)
  goes_all events = goes_run change law config graph stage [] events (goes_begins config stage graph begins)

  -- and it is sound
  pub every_run : (events : List (Event Order)) → IsSound config graph (go (kind change config) stage events) (history change config stage events)
  every_run events = sound change law config graph (go (kind change config) stage events) (history change config stage events) (goes_all events) (run_crowded change law config stage graph begins events)

  -- in a pause no mutator and no helper is in the heap
  pub run_pauses : (events : List (Event Order)) → IsInPause config (go (kind change config) stage events) → IsEmpty config (go (kind change config) stage events)
  run_pauses events = pause_is_empty change law config graph (go (kind change config) stage events) (history change config stage events) (goes_all events)

  -- a machine that is reached makes an access of the table
  pub reached_inside : (number : ℕ) (actor : Actor) (order : Order) → HasReached (kind change config) stage number actor → takes_of actor.machine order ≡ true → table_index (plan_of config order actor.machine) < table_words config
  reached_inside number actor order has_reached takes =
      (reached_has (kind change config) (λ some_stage. slice_get some_stage.machines number ≡ Some actor → table_index (plan_of config order actor.machine) < table_words config) stage has_reached.stage
      (λ events actor_there. ((every_run events).fit number actor actor_there).inside order takes) has_reached.reached) has_reached.here

  -- a word that a machine finds in some run is fit
  pub found_fit : (number : ℕ) (actor : Actor) (order : Order) (told_it : ℕ) → Finds (kind change config) stage number actor order told_it → IsFitFor config order told_it actor.machine
  unfolding kind
  found_fit number actor order told_it finds =
      (reached_has (kind change config) (λ some_stage. slice_get some_stage.machines number ≡ Some actor → told_it ≡ slice_index some_stage.words (table_index (plan_of config order actor.machine)) → IsFitFor config order told_it actor.machine) stage finds.stage
      (λ events actor_there word_found. subst (λ found_word. IsFitFor config order found_word actor.machine) (sym word_found) (((every_run events).fit number actor actor_there).fit order finds.takes))
      finds.reached) finds.here finds.found

  -- what the control has read of the image is as the table has it
  pub run_aims : (events : List (Event Order)) (number : ℕ) (actor : Actor) (control : Controlling)
      → slice_get (go (kind change config) stage events).machines number ≡ Some actor → actor.machine ≡ controlling control → (is_ready config control.spot ≡ true) × IsAim config (go (kind change config) stage events).words control.spot control.image
  run_aims events = aims_of change law config graph (go (kind change config) stage events) (history change config stage events) (goes_all events)

  -- a pin word changes only where its own mutator stores into it
  pub run_pins : (events : List (Event Order)) (event : Event Order) → OnlyPinningPins change config (go (kind change config) stage events) event
  run_pins events event = only_pinning change law config graph (go (kind change config) stage events) (history change config stage events) event (goes_all events)

  -- a machine that is about to look for a free region lacks room
  pub run_lacks_room : (events : List (Event Order)) (number : ℕ) (actor : Actor) (words : ℕ)
      → slice_get (go (kind change config) stage events).machines number ≡ Some actor → looks_for actor.machine ≡ Some words → HasLess (settled config (go (kind change config) stage events)) number words
  run_lacks_room events = lacks_room change law config graph (go (kind change config) stage events) (history change config stage events) (goes_all events)

  -- a heap at rest
  pub run_rests : (events : List (Event Order)) → IsAtRest config (go (kind change config) stage events) → Represents config (settled config (go (kind change config) stage events)) (after graph (history change config stage events)) (λ thread. nothing)
  run_rests events = at_rest config graph (go (kind change config) stage events) (history change config stage events) (goes_all events)

-- where a run leads is sound
pub run_sound : (change : Change) → PausesByParts change → (config : Config) (run : Run config) → IsSound config run.graph (ending change config run) (history_in change config run)
run_sound change law config run = every_run change law config run.start run.graph run.begins run.events

-- from the opening on too
pub every_list : (change : Change) → PausesByParts change → (config : Config) (events : List (Event Order)) → IsSound config (first_graph config) (reached change config events) (past change config events)
every_list change law config events = run_sound change law config (opening_run config events)
