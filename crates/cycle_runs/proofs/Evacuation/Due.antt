-- A pause begins only where it is due, and then all has been copied, or updated.
use Rattle.heap_words.specs.Phases.{updating_phase}
use Rattle.std.proofs.Common.{◌≡◌, ◌≢◌, ℕ, ◌+◌, ◌<◌, ◌≤◌, true, List, [], ◌∷◌, ◌++◌, Some, refl, sym, ap, ◌∙◌, subst, arith}
use Rattle.std.specs.Prelude.{slice_get, slice_index}
use Rattle.heap_words.specs.declared.config.Config.{Config}
use Rattle.heap_words.specs.Access.{table_index}
use Rattle.heap_words.specs.Words.{Phase, Cset, Evac, Claim, Root, Answer, Heap, image_start, view}
use Rattle.heap_words.specs.Steps.{Stage, Event, go}
use Rattle.heap_words.proofs.Runs.{reached_has}
use Rattle.shen_graph.specs.declared.order.Order.{Order}
use Rattle.shen_graph.specs.declared.order.Order.TheVariants.{Nothing}
use Rattle.shen_graph.specs.Graph.{Graph}
use Rattle.shen_graph.specs.History.{Entry, after, of_thread}
use Rattle.handshake.specs.Standing.{is_pausing}
use Rattle.heap_world.specs.World.{World, promised, IsCollected, IsUsable, IsCurrent}
use Rattle.heap_world.specs.Asking.{Asking, nothing, asks, refused, given, IsAsked}
use Rattle.heap_world.specs.Change.{Change, IsDue, image_view, image_words}
use Rattle.collector_rows.specs.ByParts.{PausesByParts}
use Rattle.heap_world.proofs.Updated.{usable_current}
use Rattle.cycle_steps.proofs.Updating.Done.{units_are_updated, all_is_updated}
use Rattle.mutator.specs.Rows.{Mutating}
use Rattle.collector_rows.specs.declared.control_spot.ControlSpot.{ControlSpot}
use Rattle.collector_rows.specs.declared.control_spot.ControlSpot.TheVariants as control
use Rattle.collector_rows.specs.ControlRows.{Controlling, access_with, word_stored}
use Rattle.collector_rows.specs.declared.extent.Extent.{Extent}
use Rattle.collector_rows.specs.declared.extent.Extent.TheVariants.{Whole}
use Rattle.step_core.specs.Actor.{Machine, mutating, controlling, Actor}
use Rattle.step_core.specs.Begins.{Begins}
use Rattle.step_core.specs.History.{history}
use Rattle.step_core.specs.Machines.{HasNumber, kind, plan_of}
use Rattle.step_core.specs.Pausing.{IsInPause, IsEmpty, IsAim, AreRead}
use Rattle.step_core.specs.Settled.{stored_image, image_read, image_of, settled_by, settled, control_number}
use Rattle.step_core.specs.Standing.{control_standing}
use Rattle.step_core.proofs.Control.Asked.{asking_at}
use Rattle.step_core.proofs.Control.Images.{mixed_whole, image_grows, all_of}
use Rattle.step_core.proofs.Machines.Owed.{IsMachine, IsThread, ControlFacts}
use Rattle.step_core.proofs.Theorem.Induction.{Goes}
use Rattle.step_core.proofs.Control.NewImageCounts.{asked_outside}
use Rattle.step_core.proofs.Machines.Roles.{mutator_there}
use Rattle.step_core.proofs.Theorem.EveryList.{every_run, run_aims, run_pauses}
use Rattle.cycle_runs.specs.Evacuation.Due.{has_begun, HasControl, PausesComeWhenDue, IsEvacuated, EvacuationIsWhole, ImagesAreEvacuated, NamesNoSet, AreUpdated, UpdatingIsWhole}
use Rattle.cycle_runs.proofs.Evacuation.Runs.{the_world, stands, idle, stage_goes, all_is_forwarded_in_runs}

-- where the control has begun a pause, that is due
begun_due : (config : Config) (world : World) (number : ℕ) (spot : ControlSpot) → has_begun spot ≡ true → ControlFacts config world number spot → IsDue config world.memory
begun_due config world number (control.Stopping spot) pause_begun facts = facts.1
begun_due config world number (control.LoadWord index extent) pause_begun facts = facts.1
begun_due config world number _ pause_begun facts = absurd (cc (pause_begun))

module _ (config : Config) (graph : Graph) (stage : Stage Actor) (entries : List Entry) (goes_so_far : Goes config graph stage entries) where
  -- what the control knows
  control_facts : (own_control : Controlling) → HasControl config stage own_control → ControlFacts config (the_world config graph stage entries goes_so_far) (control_number config) own_control.spot
  control_facts own_control has_control =
      (subst (λ machine. IsMachine config stage.words (the_world config graph stage entries goes_so_far) (of_thread entries (control_number config + 1)) (control_number config) has_control.actor machine) has_control.is (goes_so_far.follows.machines (control_number config) has_control.actor has_control.here)).facts

  -- the pause is due that it has begun
  pause_due : (own_control : Controlling) → HasControl config stage own_control → has_begun own_control.spot ≡ true → IsDue config (settled config stage)
  pause_due own_control has_control pause_begun = begun_due config (the_world config graph stage entries goes_so_far) (control_number config) own_control.spot pause_begun (control_facts own_control has_control)

  -- An answer that is an address is that of an object that is promised.
  promised_there : (mutator : ℕ) (asking : Asking) → IsAsked (settled config stage) goes_so_far.follows.block (after graph entries).count mutator asking → 1 < settled config stage (Answer mutator) → (words : ℕ) × (goes_so_far.follows.block (settled config stage (Answer mutator)) ≡ Some (promised mutator words))
  promised_there mutator nothing mutator_asked some_answer = absurd (let no_answer = mutator_asked.1 in omega (arith, no_answer, some_answer))
  promised_there mutator (asks refs nums) mutator_asked some_answer = absurd (let no_answer = mutator_asked.1 in omega (arith, no_answer, some_answer))
  promised_there mutator refused mutator_asked some_answer = absurd (let answer_one = mutator_asked.1 in omega (arith, answer_one, some_answer))
  promised_there mutator (given refs nums) mutator_asked some_answer = (3 + refs + nums, mutator_asked.2.here)

  -- In phase 3, with all regions claimed and all machines outside, all is updated.
  module _ (pause : IsInPause config stage) (empty : IsEmpty config stage) (phase_three : settled config stage Phase ≡ updating_phase) (all_claimed : config.regions ≤ settled config stage Claim) where
    -- what is current does not lie in the set
    current_outside : (address : ℕ) → IsCurrent goes_so_far.follows.block address → address ≢ 0 → IsCollected config (settled config stage Cset) address → ⊥
    current_outside address current some_address address_collected = units_are_updated.outside config (the_world config graph stage entries goes_so_far) address goes_so_far.follows.shared phase_three current some_address address_collected

    -- the roots of a mutator may be used
    thread_there : (other_mutator : ℕ) → other_mutator < config.mutators → (actor : Actor) × (mutator : Mutating) × (slice_get stage.machines other_mutator ≡ Some actor) × (actor.machine ≡ mutating mutator) × IsThread config stage.words (the_world config graph stage entries goes_so_far) (of_thread entries (other_mutator + 1)) other_mutator actor mutator
    thread_there mutator mutator_below = mutator_there config stage.words (the_world config graph stage entries goes_so_far) entries stage.machines goes_so_far.follows.seats goes_so_far.follows.machines mutator mutator_below

    root_outside : (mutator index : ℕ) → mutator < config.mutators → index < 16 → NamesNoSet config (settled config stage) (Root mutator index)
    root_outside mutator index mutator_below index_below some_word inside =
        let thread = (thread_there mutator mutator_below).4 in
        current_outside (settled config stage (Root mutator index))
        (usable_current config (settled config stage Cset) (settled config stage Evac) goes_so_far.follows.block (settled config stage (Root mutator index))
        (subst (λ mutator. IsUsable config (settled config stage Cset) (settled config stage Evac) goes_so_far.follows.block (settled config stage (Root mutator index))) thread.number_is (thread.mine.seated.usable index index_below)))
        some_word inside

    -- an answer is that of an object that is promised, which does not lie in the set
    answer_outside : (mutator : ℕ) → mutator < config.mutators → 1 < settled config stage (Answer mutator) → NamesNoSet config (settled config stage) (Answer mutator)
    answer_outside mutator mutator_below some_answer some_word inside =
        let found_thread = thread_there mutator mutator_below in
        let own_mutating = found_thread.1 in
        let thread = found_thread.4 in
        let stands_outside = empty.nobody mutator found_thread.0 own_mutating (record { here = found_thread.2; is = found_thread.3 }) in
        let nothing_asked = asked_outside config (the_world config graph stage entries goes_so_far) own_mutating.seat own_mutating.made own_mutating.kept own_mutating.spot found_thread.0.command thread.fixed stands_outside thread.mine in
        let piece = promised_there mutator (asking_at own_mutating.spot (settled config stage (Answer mutator)) own_mutating.kept.command)
        (subst (λ mutator. IsAsked (settled config stage) goes_so_far.follows.block (after graph entries).count mutator (asking_at own_mutating.spot (settled config stage (Answer mutator)) own_mutating.kept.command)) thread.number_is nothing_asked) some_answer in
        goes_so_far.follows.shared.evacuated.aside.no_promises (settled config stage (Answer mutator)) mutator piece.0 piece.1 inside

    are_updated : AreUpdated config stage (after graph entries)
    are_updated = record {
      stands = stands config graph stage entries goes_so_far;
      roots = root_outside;
      answers = answer_outside;
      fields = λ address refs nums index name object_there index_below some_word inside.
          current_outside (settled config stage (Heap (address + 3 + index)))
          (all_is_updated config (the_world config graph stage entries goes_so_far) goes_so_far.follows.shared phase_three (λ seat seated. (idle config graph stage entries goes_so_far pause seat seated).1) all_claimed address refs nums index name object_there index_below) some_word inside;
    }

pub pauses_come_when_due : PausesComeWhenDue
pauses_come_when_due change law config stage graph begins events controller has_control pause_begun = pause_due config graph (go (kind change config) stage events) (history change config stage events) (stage_goes change law config stage graph begins events) controller has_control pause_begun

-- the control that reads the image is in a pause
reads_in_pause : (config : Config) (stage : Stage Actor) (own_control : Controlling) → HasControl config stage own_control → (index : ℕ) (extent : Extent) → own_control.spot ≡ control.LoadWord index extent → IsInPause config stage
reads_in_pause config stage own_control has_control index extent loads_word = record { actor = has_control.actor; control = own_control; here = has_control.here; is = has_control.is; pausing = ap (λ spot. is_pausing (control_standing spot)) loads_word }

pub evacuation_is_whole : EvacuationIsWhole
evacuation_is_whole change law config stage graph begins events controller has_control index extent loads_word phase_two quiet room =
    all_is_forwarded_in_runs change law config stage graph begins events (reads_in_pause config (go (kind change config) stage events) controller has_control index extent loads_word) phase_two
    (pauses_come_when_due change law config stage graph begins events controller has_control (ap has_begun loads_word) (omega (arith, phase_two)) quiet) room

-- The control that has found the last word of the image.
module _ (change : Change) (law : PausesByParts change) (config : Config) (stage : Stage Actor) (graph : Graph) (begins : Begins config stage graph) (number index : ℕ) (actor : Actor) (own_control : Controlling) (is_controlling : actor.machine ≡ controlling own_control)
    (loads_last : own_control.spot ≡ control.LoadWord index Whole) (last_word : index + 1 ≡ image_words config) (events : List (Event Order)) (actor_there : slice_get (go (kind change config) stage events).machines number ≡ Some actor) where
  abbrev stage_then : Stage Actor
  stage_then = go (kind change config) stage events

  -- the image with that word
  abbrev image : List ℕ
  image = own_control.image ++ slice_index stage_then.words (image_start config + index) ∷ []

  -- it has the words of the table
  aims : IsAim config stage_then.words (control.LoadWord index Whole) own_control.image
  aims = subst (λ spot. IsAim config stage_then.words spot own_control.image) loads_last (run_aims change law config stage graph begins events number actor own_control actor_there is_controlling).1

  read : AreRead config stage_then.words (all_of image) (image_words config)
  read word_index index_below counted = image_grows config stage_then.words Whole own_control.image index aims.0 aims.1 refl word_index (omega (arith, index_below, last_word))

  -- the machine is that of the control's number
  there : slice_get stage_then.machines (control_number config) ≡ Some actor
  there = subst (λ machine_number. slice_get stage_then.machines machine_number ≡ Some actor) (subst (λ (machine : Machine). HasNumber config number machine) is_controlling ((every_run change law config stage graph begins events).of_heap.roles number actor actor_there)) actor_there

  -- no image counts yet
  table_counts : settled config stage_then ≡ view config stage_then.words
  table_counts = ap (λ found_actor. settled_by config stage_then.words (image_of found_actor)) there ∙ ap (λ machine. settled_by config stage_then.words (image_read machine)) is_controlling ∙ ap (λ spot. settled_by config stage_then.words (stored_image spot own_control.image)) loads_last

  image_evacuated : IsEvacuated config (image_view config image)
  image_evacuated = subst (λ memory. IsEvacuated config memory) (table_counts ∙ sym (mixed_whole config stage_then.words (all_of image) read)) (evacuation_is_whole change law config stage graph begins events own_control (record { actor = actor; here = there; is = is_controlling }) index Whole loads_last)

pub images_are_evacuated : ImagesAreEvacuated
unfolding kind
images_are_evacuated change law config stage graph begins number index got actor controller finds is_controlling loads_last last_word =
    (reached_has (kind change config) (λ reached_stage. slice_get reached_stage.machines number ≡ Some actor → got ≡ slice_index reached_stage.words (table_index (plan_of config Nothing actor.machine)) → IsEvacuated config (image_view config (controller.image ++ got ∷ []))) stage finds.stage
    (λ events actor_there found.
    let word : got ≡ slice_index (go (kind change config) stage events).words (image_start config + index) =
    found ∙ ap (λ machine. slice_index (go (kind change config) stage events).words (table_index (plan_of config Nothing machine))) is_controlling
    ∙ ap (λ spot. slice_index (go (kind change config) stage events).words (table_index (access_with config spot (word_stored spot controller.image)))) loads_last in
    subst (λ image_word. IsEvacuated config (image_view config (controller.image ++ image_word ∷ []))) (sym word) (image_evacuated change law config stage graph begins number index actor controller is_controlling loads_last last_word events actor_there))
    finds.reached) finds.here finds.found

pub updating_is_whole : UpdatingIsWhole
updating_is_whole change law config stage graph begins events controller has_control index extent loads_word phase_three quiet =
    let pause : IsInPause config (go (kind change config) stage events) = reads_in_pause config (go (kind change config) stage events) controller has_control index extent loads_word in
    are_updated config graph (go (kind change config) stage events) (history change config stage events) (stage_goes change law config stage graph begins events) pause (run_pauses change law config stage graph begins events pause) phase_three
    (pauses_come_when_due change law config stage graph begins events controller has_control (ap has_begun loads_word) (omega (arith, phase_three)) quiet)
