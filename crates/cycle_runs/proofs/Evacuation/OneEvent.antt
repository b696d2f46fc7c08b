-- One more event: what it makes of the words that count, and what it keeps of copies.
use Rattle.std.proofs.Common.{◌≡◌, ◌≢◌, ℕ, ◌⊎◌, inl, inr, ⊎_elim, ◌+◌, ◌<◌, Bool, true, false, List, [], ◌++◌, Option, Some, None, refl, sym, ap, ◌∙◌, subst, arith}
use Rattle.std.specs.Prelude.{nat_lt, slice_get, slice_set, slice_index, if◌then◌else◌}
use Rattle.std.proofs.lemmas.Bool.{and_parts}
use Rattle.std.proofs.lemmas.List.{set-get_or}
use Rattle.heap_words.proofs.Lists.{slice_get-set_same}
use Rattle.heap_words.specs.declared.config.Config.{Config}
use Rattle.heap_words.specs.Access.{table_index}
use Rattle.heap_words.specs.declared.access.Access.{Access}
use Rattle.heap_words.specs.Words.{Word, Answer, Top, Heap, is_word, is_image, image_start, view}
use Rattle.heap_words.proofs.Stores.{is_word_from}
use Rattle.heap_words.specs.Steps.{Stage, Event, IsEvent, accessed, moved, act_of, act, go}
use Rattle.heap_words.specs.Touch.{Touch, placed, touched}
use Rattle.shen_graph.specs.declared.command.Command.{Command}
use Rattle.shen_graph.specs.declared.order.Order.{Order}
use Rattle.shen_graph.specs.declared.order.Order.TheVariants.{Nothing, Hint}
use Rattle.shen_graph.specs.Order.{hint_in}
use Rattle.shen_graph.specs.Graph.{Graph}
use Rattle.shen_graph.specs.History.{Entry, after, of_thread}
use Rattle.mutator.specs.declared.spot.Spot.TheVariants.{Waiting}
use Rattle.mutator.specs.declared.waits.WaitSpot.TheVariants as wait
use Rattle.mutator.specs.Rows.{Mutating, touch_at, touch_of}
use Rattle.collector_rows.specs.HelperRows as help
use Rattle.collector_rows.specs.HelperRows.{Helping, help_touch}
use Rattle.heap_world.specs.World.{World}
use Rattle.heap_world.specs.Change.{Change, image_words}
use Rattle.heap_world.proofs.Pieces.{some_words}
use Rattle.unit_part.proofs.Inside.{unit_inside}
use Rattle.collector_rows.specs.declared.control_spot.ControlSpot.{ControlSpot}
use Rattle.collector_rows.specs.declared.control_spot.ControlSpot.TheVariants as control
use Rattle.collector_rows.specs.ControlRows as controls
use Rattle.collector_rows.specs.ControlRows.{Controlling, control_seat, control_touch}
use Rattle.collector_rows.specs.declared.extent.Extent.{Extent}
use Rattle.collector_rows.specs.Extent.{next_stored, Counting}
use Rattle.step_core.specs.Actor.{Machine, mutating, helping, controlling, Actor, command_by}
use Rattle.step_core.specs.History.{history}
use Rattle.step_core.specs.Machines.{is_for_working, takes_of, helping_by, controlling_by, plan_of, machine_after, took_of, kind}
use Rattle.step_core.specs.Settled.{stored_image, image_read, image_of, settled_by, settled, control_number}
use Rattle.step_core.specs.Sound.{world_of, StandsFor}
use Rattle.step_core.proofs.Control.Held.{held_image, outside_held, other_holds}
use Rattle.step_core.proofs.Control.Images.{words_after, words_loaded, view-placed, settled_touched}
use Rattle.step_core.proofs.Control.Storing.{counts_then}
use Rattle.step_core.proofs.Helpers.Stable.{help_word, help_leaves_image}
use Rattle.step_core.proofs.Machines.Hinting.{control_hinted_image}
use Rattle.step_core.proofs.Machines.Owed.{IsThread, IsHelper, IsControl}
use Rattle.step_core.proofs.Machines.Seats.{in_seat}
use Rattle.step_core.proofs.Mutators.Ordered.{order_word}
use Rattle.step_core.proofs.Mutators.Outside.{outside_touch}
use Rattle.step_core.proofs.Theorem.Hinted.{TakesPlace, replaced, there, settled_same, moved_replaced, helper_takes_place, control_takes_place}
use Rattle.step_core.proofs.Theorem.Induction.{Goes, goes_replaced}
use Rattle.step_core.proofs.Theorem.Stands.{stands as stands_there}
use Rattle.cycle_runs.specs.Evacuation.OneEvent.{BeginsToCount, IsForwarding, EventSpares, EventsSpareCopies}
use Rattle.cycle_runs.proofs.Evacuation.Writes.{Writes, touch_in, WorkIn, machine_writes}
use Rattle.cycle_runs.proofs.Evacuation.Sparing.{IsMade, publishing, quiet_stays, words_stay, header_stays}
use Rattle.cycle_runs.proofs.Evacuation.Runs.{stage_goes}

-- The words that count stay, or the access is one of a word by its name, and they are those after it.
abbrev CountsAfter : Config → (before later : Word → ℕ) → Access → Touch → Type 0
CountsAfter config before later access touch = (later ≡ before) ⊎ ((access ≡ placed config touch) × (later ≡ touched before touch))

-- What a stage says in which all goes as it should, of an event of a machine.
module _ (change : Change) (config : Config) (graph : Graph) (stage : Stage Actor) (given_entries : List Entry) (all_goes : Goes config graph stage given_entries) (number : ℕ) where
  abbrev the_world : World
  the_world = world_of config stage all_goes.follows.block all_goes.follows.ghost (after graph given_entries)

  abbrev entries : List Entry
  entries = of_thread given_entries (number + 1)

  -- The machine is not the control. Its access is of no word of the image while one counts, or it is a load.
  module _ (touch : Touch) (new : Actor) (not_control : number ≢ control_number config) (word : is_word config touch.word ≡ true) where
    abbrev stage_then : Stage Actor
    stage_then = record { words = words_after config stage.words touch; machines = slice_set stage.machines number new }

    counts_accessed : ((image : Counting) → held_image config stage ≡ Some image → is_image touch.word ≡ false) → CountsAfter config (settled config stage) (settled config stage_then) (placed config touch) touch
    counts_accessed outside = inr (refl, ap (settled_by config (words_after config stage.words touch)) (other_holds config stage number new not_control) ∙ settled_touched config stage.words touch (held_image config stage) word all_goes.follows.words outside)

    counts_loaded : words_after config stage.words touch ≡ stage.words → CountsAfter config (settled config stage) (settled config stage_then) (placed config touch) touch
    counts_loaded same_words = inl (ap (settled_by config (words_after config stage.words touch)) (other_holds config stage number new not_control) ∙ ap (λ table. settled_by config table (held_image config stage)) same_words)

    counts_by_image : ((image : Counting) → held_image config stage ≡ Some image → (is_image touch.word ≡ false) ⊎ (words_after config stage.words touch ≡ stage.words)) → CountsAfter config (settled config stage) (settled config stage_then) (placed config touch) touch
    counts_by_image cases = by_image (held_image config stage) refl
      where
        by_image : (found : Option Counting) → held_image config stage ≡ found → CountsAfter config (settled config stage) (settled config stage_then) (placed config touch) touch
        by_image None found_is = counts_accessed (λ image image_held. absurd (let clash = sym found_is ∙ image_held in cc))
        by_image (Some image) image_held = ⊎_elim
            (λ (outside : is_image touch.word ≡ false). counts_accessed (λ more_image same_words. outside))
            (λ (same_words : words_after config stage.words touch ≡ stage.words). counts_loaded same_words)
            (cases image image_held)

  module _ (command : Command) (calls : List Entry) where
    abbrev actor_of : Machine → Actor
    actor_of machine = record { machine = machine; command = command; calls = calls }

    abbrev Here : Machine → Type 0
    Here machine = slice_get stage.machines number ≡ Some (actor_of machine)

    -- what it is after its event
    abbrev new_of : Order → Machine → Actor
    new_of order machine = took_of change config (actor_of machine) order (slice_index stage.words (table_index (plan_of config order machine))) machine

    -- and the stage then
    abbrev next : Order → Machine → Stage Actor
    next order machine = moved (kind change config) stage number (actor_of machine) order

    abbrev Counts : Order → Machine → Type 0
    Counts order machine = CountsAfter config (settled config stage) (settled config (next order machine)) (plan_of config order machine) (touch_in config order machine)

    -- of a mutator
    mutator_counts : (order : Order) (mutator : Mutating) → Here (mutating mutator) → takes_of (mutating mutator) order ≡ true → Counts order (mutating mutator)
    unfolding kind
    mutator_counts order mutator machine_here takes =
        let is_thread : IsThread config stage.words the_world entries number (actor_of (mutating mutator)) mutator = all_goes.follows.machines number (actor_of (mutating mutator)) machine_here in
        let mutator_below : number < config.mutators = subst (λ seat. seat < config.mutators) is_thread.number_is is_thread.mine.seated.below in
        counts_by_image (touch_of config mutator order) (new_of order (mutating mutator)) (λ is_control. omega (arith, mutator_below, is_control)) (order_word config mutator.seat mutator.made mutator.kept order mutator.spot is_thread.mine.seated.below is_thread.mine.ready takes)
        (λ image image_held. ⊎_elim
        (λ (outside : is_image (touch_of config mutator order).word ≡ false). inl outside)
        (λ (polls : mutator.spot ≡ Waiting wait.Poll). inr (ap (λ spot. words_after config stage.words (touch_at config mutator.seat mutator.made mutator.kept order spot)) polls ∙ words_loaded config stage.words (Answer mutator.seat)))
        (outside_touch config mutator.seat mutator.made mutator.kept order mutator.spot (outside_held config stage all_goes.shaken image image_held number (actor_of (mutating mutator)) (omega (arith, mutator_below)) machine_here) takes))

    -- of a helper without an order
    helper_counts : (helper : Helping) → Here (helping helper) → Counts Nothing (helping helper)
    unfolding kind
    helper_counts own_helping machine_here =
        let helper : IsHelper config the_world number own_helping = all_goes.follows.machines number (actor_of (helping own_helping)) machine_here in
        let helper_below = helper.below in
        counts_by_image (help_touch config own_helping) (new_of Nothing (helping own_helping)) (λ is_control. omega (arith, helper_below, is_control)) (is_word_from config (help_touch config own_helping).word (help_word config the_world number own_helping all_goes.follows.shared helper))
        (λ image image_held. inl (help_leaves_image config own_helping.seat own_helping.spot (outside_held config stage all_goes.shaken image image_held number (actor_of (helping own_helping)) helper_below machine_here)))

    -- of the control without an order
    module _ (seen_set phase cset hints : ℕ) (image : List ℕ) where
      abbrev control_at : ControlSpot → Machine
      control_at spot = controlling (record { spot = spot; seen = seen_set; phase = phase; cset = cset; hints = hints; image = image })

      abbrev CountsAt : ControlSpot → Type 0
      CountsAt spot = (BeginsToCount config stage (next Nothing (control_at spot)) → ⊥) → Counts Nothing (control_at spot)

      known : (spot : ControlSpot) → Here (control_at spot) → IsControl config stage.words the_world number (record { spot = spot; seen = seen_set; phase = phase; cset = cset; hints = hints; image = image })
      known spot control_here = all_goes.follows.machines number (actor_of (control_at spot)) control_here

      held_is : (spot : ControlSpot) → Here (control_at spot) → held_image config stage ≡ stored_image spot image
      held_is spot control_here = ap (λ machine_number. image_of (slice_get stage.machines machine_number)) (sym (known spot control_here).number_is) ∙ ap image_of control_here

      abbrev words_then : ControlSpot → List ℕ
      words_then spot = accessed (plan_of config Nothing (control_at spot)) stage.words

      image_then : (spot : ControlSpot) → Here (control_at spot) → image_of (slice_get (next Nothing (control_at spot)).machines (control_number config)) ≡ image_read (new_of Nothing (control_at spot)).machine
      unfolding kind
      image_then spot control_here =
          ap (λ machine_number. image_of (slice_get (slice_set stage.machines number (new_of Nothing (control_at spot))) machine_number)) (sym (known spot control_here).number_is)
          ∙ ap image_of (slice_get-set_same stage.machines number (actor_of (control_at spot)) (new_of Nothing (control_at spot)) control_here)

      -- where no image counts before and after
      settled_none : (spot : ControlSpot) → Here (control_at spot) → stored_image spot image ≡ None → settled config stage ≡ view config stage.words
      settled_none spot control_here no_image = ap (settled_by config stage.words) (held_is spot control_here ∙ no_image)

      settled_open : (spot : ControlSpot) → Here (control_at spot) → image_read (new_of Nothing (control_at spot)).machine ≡ None → settled config (next Nothing (control_at spot)) ≡ view config (words_then spot)
      unfolding kind
      settled_open spot control_here no_image = ap (settled_by config (words_then spot)) (image_then spot control_here ∙ no_image)

      -- an image does not begin to count
      not_begun : (spot : ControlSpot) (begun_image : Counting) → Here (control_at spot) → stored_image spot image ≡ None → image_read (new_of Nothing (control_at spot)).machine ≡ Some begun_image → (BeginsToCount config stage (next Nothing (control_at spot)) → ⊥) → ⊥
      not_begun spot begun_image control_here no_image image_counts not_beginning = not_beginning (record { image = begun_image; not_yet = held_is spot control_here ∙ no_image; counts = image_then spot control_here ∙ image_counts })

      -- at a spot outside the image
      plain_counts : (spot : ControlSpot) → Here (control_at spot) → stored_image spot image ≡ None → plan_of config Nothing (control_at spot) ≡ placed config (control_touch config spot) → is_word config (control_touch config spot).word ≡ true
          → CountsAt spot
      plain_counts spot control_here no_image plan word not_beginning = by_image (image_read (new_of Nothing (control_at spot)).machine) refl
        where
          by_image : (found : Option Counting) → image_read (new_of Nothing (control_at spot)).machine ≡ found → Counts Nothing (control_at spot)
          by_image None none_then = inr (
            plan,
            settled_open spot control_here none_then
                ∙ ap (λ access. view config (accessed access stage.words)) plan
                ∙ view-placed config stage.words (control_touch config spot) word all_goes.follows.words
                ∙ ap (λ memory. touched memory (control_touch config spot)) (sym (settled_none spot control_here no_image)),
          )
          by_image (Some begun_image) image_counts = absurd (not_begun spot begun_image control_here no_image image_counts not_beginning)

      -- where it loads a word of the image
      load_counts : (index : ℕ) (extent : Extent) → Here (control_at (control.LoadWord index extent)) → CountsAt (control.LoadWord index extent)
      load_counts index extent control_here not_beginning = by_image (image_read (new_of Nothing (control_at (control.LoadWord index extent))).machine) refl
        where
          by_image : (found : Option Counting) → image_read (new_of Nothing (control_at (control.LoadWord index extent))).machine ≡ found → Counts Nothing (control_at (control.LoadWord index extent))
          by_image None none_then = inl (
              settled_open (control.LoadWord index extent) control_here none_then
              ∙ ap (view config) (set-get_or stage.words (image_start config + index) 0)
              ∙ sym (settled_none (control.LoadWord index extent) control_here refl))
          by_image (Some begun_image) image_counts = absurd (not_begun (control.LoadWord index extent) begun_image control_here refl image_counts not_beginning)

      -- where it stores one
      store_counts : (index : ℕ) (extent : Extent) → Here (control_at (control.StoreWord index extent)) → Counts Nothing (control_at (control.StoreWord index extent))
      unfolding kind
      store_counts index extent control_here =
          let known_control = known (control.StoreWord index extent) control_here in
          inl (
          ap (settled_by config (words_then (control.StoreWord index extent))) (image_then (control.StoreWord index extent) control_here)
          ∙ sym (counts_then change config stage.words all_goes.follows.block all_goes.follows.ghost (after graph given_entries) given_entries stage.machines extent image index seen_set phase cset hints command calls known_control.ready all_goes.follows.words known_control.aims.0 known_control.aims.1 known_control.aims.2 all_goes.follows.seats
          (nat_lt (next_stored config extent image index) (image_words config)) refl)
          ∙ sym (ap (settled_by config stage.words) (held_is (control.StoreWord index extent) control_here)))

      -- wherever it stands
      control_counts : (spot : ControlSpot) → Here (control_at spot) → CountsAt spot
      control_counts control.LookLeft control_here not_beginning = plain_counts control.LookLeft control_here refl refl refl not_beginning
      control_counts control.StoreEnd control_here not_beginning = plain_counts control.StoreEnd control_here refl refl refl not_beginning
      control_counts control.LookAsked control_here not_beginning = plain_counts control.LookAsked control_here refl refl refl not_beginning
      control_counts control.LookFree control_here not_beginning = plain_counts control.LookFree control_here refl refl refl not_beginning
      control_counts (control.Working spot) control_here not_beginning =
          plain_counts (control.Working spot) control_here refl refl (is_word_from config _ (unit_inside config (control_seat config) spot (omega arith) (and_parts _ _ (known (control.Working spot) control_here).ready).0)) not_beginning
      control_counts (control.Stopping spot) control_here not_beginning = plain_counts (control.Stopping spot) control_here refl refl (and_parts _ _ (and_parts _ _ (known (control.Stopping spot) control_here).ready).0).0 not_beginning
      control_counts (control.LoadWord index extent) control_here not_beginning = load_counts index extent control_here not_beginning
      control_counts (control.StoreWord index extent) control_here not_beginning = store_counts index extent control_here
      control_counts control.Go control_here not_beginning = plain_counts control.Go control_here refl refl refl not_beginning
      control_counts control.Gone control_here not_beginning = plain_counts control.Gone control_here refl refl refl not_beginning

-- A machine of whose event without an order this is known, in place of another that has an order: so it is of the event of that one, where
-- both events make the same access and lead to the same machine.
module _ (change : Change) (config : Config) (started_stage : Stage Actor) (number : ℕ) (order : Order) (before taken : Actor) (actor_before : slice_get started_stage.machines number ≡ Some before) (place_taken : TakesPlace config number before taken)
    (plan : plan_of config Nothing taken.machine ≡ plan_of config order before.machine) (took : (got : ℕ) → took_of change config taken Nothing got taken.machine ≡ took_of change config before order got before.machine) where
  abbrev stage_with : Stage Actor
  stage_with = replaced config started_stage number before taken actor_before place_taken

  moved_with : moved (kind change config) stage_with number taken Nothing ≡ moved (kind change config) started_stage number before order
  moved_with = moved_replaced config started_stage number before taken actor_before place_taken change order plan took

  counts_in_place : (access : Access) (touch : Touch) → CountsAfter config (settled config stage_with) (settled config (moved (kind change config) stage_with number taken Nothing)) access touch
      → CountsAfter config (settled config started_stage) (settled config (moved (kind change config) started_stage number before order)) access touch
  counts_in_place access touch counts =
      subst (λ memory. CountsAfter config memory (settled config (moved (kind change config) started_stage number before order)) access touch) (settled_same config started_stage number before taken actor_before place_taken)
      (subst (λ stage. CountsAfter config (settled config stage_with) (settled config stage) access touch) moved_with counts)

  begins_in_place : held_image config stage_with ≡ held_image config started_stage → BeginsToCount config stage_with (moved (kind change config) stage_with number taken Nothing) → BeginsToCount config started_stage (moved (kind change config) started_stage number before order)
  begins_in_place same_image begins = subst (λ stage. BeginsToCount config started_stage stage) moved_with (record { image = begins.image; not_yet = sym same_image ∙ begins.not_yet; counts = begins.counts })

-- So it is of an event of any machine, with an order or without.
module _ (change : Change) (config : Config) (graph : Graph) (started_stage : Stage Actor) (entries : List Entry) (all_goes : Goes config graph started_stage entries) (number : ℕ) (order : Order) (command : Command) (calls : List Entry) where
  abbrev actor_with : Machine → Actor
  actor_with machine = record { machine = machine; command = command; calls = calls }

  -- its order is no command
  keeps_command : (hints : Bool) (asked : Order) → is_for_working hints asked ≡ true → command ≡ command_by asked command
  keeps_command hints Nothing takes = refl
  keeps_command hints (Hint address) takes = refl
  keeps_command hints _ takes = absurd (cc (takes))

  abbrev actor_then : ℕ → Machine → Command → Actor
  actor_then got machine kept = record { machine = machine_after change config order got machine; command = kept; calls = calls ++ [] }

  helper_hinted_counts : (helper : Helping) → slice_get started_stage.machines number ≡ Some (actor_with (helping helper)) → takes_of (helping helper) order ≡ true → Counts change config graph started_stage entries all_goes number command calls order (helping helper)
  helper_hinted_counts helper helper_there takes =
      let hinted_helper : Helping = helping_by config order helper in
      let place_taken = helper_takes_place config number order helper command calls in
      counts_in_place change config started_stage number order (actor_with (helping helper)) (actor_with (helping hinted_helper)) helper_there place_taken refl
      (λ got. ap (actor_then got (helping helper)) (keeps_command (help.takes_hint helper.spot) order (and_parts _ _ takes).0)) (plan_of config order (helping helper)) (touch_in config order (helping helper))
      (helper_counts change config graph (replaced config started_stage number (actor_with (helping helper)) (actor_with (helping hinted_helper)) helper_there place_taken) entries
      (goes_replaced config graph started_stage entries number (actor_with (helping helper)) (actor_with (helping hinted_helper)) helper_there place_taken all_goes) number command calls hinted_helper
      (there config started_stage number (actor_with (helping helper)) (actor_with (helping hinted_helper)) helper_there place_taken))

  control_hinted_counts : (own_control : Controlling) → slice_get started_stage.machines number ≡ Some (actor_with (controlling own_control)) → takes_of (controlling own_control) order ≡ true
      → (BeginsToCount config started_stage (moved (kind change config) started_stage number (actor_with (controlling own_control)) order) → ⊥) → Counts change config graph started_stage entries all_goes number command calls order (controlling own_control)
  control_hinted_counts own_control control_there takes not_beginning =
      let hinted_control : Controlling = controlling_by config order own_control in
      let place_taken = control_takes_place config number order own_control command calls in
      let stage : Stage Actor = replaced config started_stage number (actor_with (controlling own_control)) (actor_with (controlling hinted_control)) control_there place_taken in
      let goes_then : Goes config graph stage entries = goes_replaced config graph started_stage entries number (actor_with (controlling own_control)) (actor_with (controlling hinted_control)) control_there place_taken all_goes in
      let there_is : slice_get stage.machines number ≡ Some (actor_with (controlling hinted_control)) = there config started_stage number (actor_with (controlling own_control)) (actor_with (controlling hinted_control)) control_there place_taken in
      let same_image : held_image config stage ≡ held_image config started_stage =
      held_is change config graph stage entries goes_then number command calls hinted_control.seen hinted_control.phase hinted_control.cset hinted_control.hints hinted_control.image hinted_control.spot there_is
      ∙ control_hinted_image config (hint_in order) own_control
      ∙ sym (held_is change config graph started_stage entries all_goes number command calls own_control.seen own_control.phase own_control.cset own_control.hints own_control.image own_control.spot control_there) in
      let took : (got : ℕ) → took_of change config (actor_with (controlling hinted_control)) Nothing got (controlling hinted_control) ≡ took_of change config (actor_with (controlling own_control)) order got (controlling own_control) =
      λ got. ap (actor_then got (controlling own_control)) (keeps_command (controls.takes_hint own_control.spot) order (and_parts _ _ takes).0) in
      counts_in_place change config started_stage number order (actor_with (controlling own_control)) (actor_with (controlling hinted_control)) control_there place_taken refl took (plan_of config order (controlling own_control)) (touch_in config order (controlling own_control))
      (control_counts change config graph stage entries goes_then number command calls hinted_control.seen hinted_control.phase hinted_control.cset hinted_control.hints hinted_control.image hinted_control.spot there_is
      (λ begins. not_beginning (begins_in_place change config started_stage number order (actor_with (controlling own_control)) (actor_with (controlling hinted_control)) control_there place_taken refl took same_image begins)))

  machine_counts : (machine : Machine) → slice_get started_stage.machines number ≡ Some (actor_with machine) → takes_of machine order ≡ true
      → (BeginsToCount config started_stage (moved (kind change config) started_stage number (actor_with machine) order) → ⊥) → Counts change config graph started_stage entries all_goes number command calls order machine
  machine_counts (mutating mutator) machine_there takes not_beginning = mutator_counts change config graph started_stage entries all_goes number command calls order mutator machine_there takes
  machine_counts (helping helper) machine_there takes not_beginning = helper_hinted_counts helper machine_there takes
  machine_counts (controlling own_control) machine_there takes not_beginning = control_hinted_counts own_control machine_there takes not_beginning

module _ (change : Change) (config : Config) (graph : Graph) (stage : Stage Actor) (entries : List Entry) (all_goes : Goes config graph stage entries) (given_event : Event Order) where
  abbrev stands : StandsFor config stage (after graph entries)
  stands = stands_there config graph stage entries all_goes

  abbrev world_now : World
  world_now = world_of config stage all_goes.follows.block all_goes.follows.ghost (after graph entries)

  abbrev Spares : (Word → ℕ) → Type 0
  Spares later = EventSpares change config stage (after graph entries) given_event later

  -- where the words that count stay
  spares_same : Spares (settled config stage)
  spares_same = record {
    stands = stands;
    quiet = λ quiet. quiet;
    headers = λ address piece piece_there no_room. inl refl;
    words = λ piece_address offset piece piece_there alone behind_header word_below. refl;
  }

  -- where a machine makes an access
  module _ (actor : Actor) (is_event : IsEvent (kind change config) stage given_event actor) where
    abbrev touch : Touch
    touch = touch_in config given_event.order actor.machine

    writes : Writes config world_now given_event.number touch (WorkIn given_event.order actor.machine)
    writes = machine_writes config world_now all_goes.follows.shared stage.words (of_thread entries (given_event.number + 1)) given_event.number actor given_event.order actor.machine (all_goes.follows.machines given_event.number actor is_event.here)

    -- who publishes a copy copies
    forwards : (address : ℕ) → plan_of config given_event.order actor.machine ≡ placed config touch → IsMade config world_now all_goes.follows.shared given_event.number touch (WorkIn given_event.order actor.machine) address
        → IsForwarding change config stage world_now given_event address (touched (settled config stage) touch (Heap address))
    unfolding publishing
    forwards address plan address_made = record {
      actor = actor;
      event = is_event;
      copies = sym (in_seat config stage.words world_now (of_thread entries (given_event.number + 1)) given_event.number actor actor.machine (all_goes.follows.machines given_event.number actor is_event.here)).copies ∙ address_made.publication.copies;
      body = address_made.body;
      object = address_made.object;
      inside = address_made.publication.inside;
      publishing = publishing config world_now given_event.number address address_made.body touch (plan_of config given_event.order actor.machine) plan address_made.publication;
      was = address_made.was;
      leads = address_made.leads;
    }

    spares_access : plan_of config given_event.order actor.machine ≡ placed config touch → Spares (touched (settled config stage) touch)
    spares_access plan = record {
      stands = stands;
      quiet = quiet_stays config world_now all_goes.follows.shared given_event.number touch (WorkIn given_event.order actor.machine) writes;
      headers = λ address piece piece_there no_room. ⊎_elim
          (λ same_header. inl same_header)
          (λ made. inr (forwards address plan made))
          (header_stays config world_now all_goes.follows.shared given_event.number touch (WorkIn given_event.order actor.machine) address piece piece_there (some_words config (λ region. world_now.memory (Top region)) world_now.block all_goes.follows.shared.parsable all_goes.follows.shared.owned.rooms address piece piece_there) writes no_room);
      words = λ piece_address offset own_piece piece_there alone behind_header word_below. words_stay config world_now all_goes.follows.shared given_event.number touch (WorkIn given_event.order actor.machine) piece_address offset own_piece piece_there word_below writes alone behind_header;
    }

  -- so of any event
  pub event_spares : (BeginsToCount config stage (act (kind change config) stage given_event) → ⊥) → Spares (settled config (act (kind change config) stage given_event))
  unfolding act kind
  event_spares not_beginning = by_machine (slice_get stage.machines given_event.number) refl not_beginning
    where
      by_order : (actor : Actor) (holds : Bool) → slice_get stage.machines given_event.number ≡ Some actor → takes_of actor.machine given_event.order ≡ holds
          → (BeginsToCount config stage (if holds then moved (kind change config) stage given_event.number actor given_event.order else stage) → ⊥) → Spares (settled config (if holds then moved (kind change config) stage given_event.number actor given_event.order else stage))
      by_order actor true actor_there takes not_begun = ⊎_elim
          (λ same_settled. subst Spares (sym same_settled) spares_same)
          (λ made. subst Spares (sym made.1) (spares_access actor (record { here = actor_there; takes = takes }) made.0))
          (machine_counts change config graph stage entries all_goes given_event.number given_event.order actor.command actor.calls actor.machine actor_there takes not_begun)
      by_order actor false actor_there takes not_begun = spares_same

      by_machine : (found : Option Actor) → slice_get stage.machines given_event.number ≡ found → (BeginsToCount config stage (act_of (kind change config) stage given_event found) → ⊥) → Spares (settled config (act_of (kind change config) stage given_event found))
      by_machine None found_there not_begun = spares_same
      by_machine (Some actor) found_there not_begun = by_order actor (takes_of actor.machine given_event.order) found_there refl not_begun

pub events_spare_copies : EventsSpareCopies
events_spare_copies change law config stage graph begins events event not_beginning =
    event_spares change config graph (go (kind change config) stage events) (history change config stage events) (stage_goes change law config stage graph begins events) event not_beginning
