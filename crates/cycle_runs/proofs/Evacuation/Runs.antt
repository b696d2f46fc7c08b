-- What the theorem of the steps says of evacuation.
use Rattle.std.proofs.Common.{◌≡◌, ℕ, ◌⊎◌, ◌+◌, ◌<◌, ⊎_elim, inl, inr, true, List, [], None, Some, refl, sym, ap, ◌∙◌, subst, arith}
use Rattle.std.specs.Prelude.{slice_get}
use Rattle.std.proofs.lemmas.Option.{same_Some}
use Rattle.std.proofs.lemmas.Bool.{and_parts}
use Rattle.heap_words.specs.declared.config.Config.{Config}
use Rattle.heap_words.specs.Access.{table_index}
use Rattle.heap_words.specs.Encoding.{is_forwarded, forwardee_in}
use Rattle.heap_words.specs.Ranges.{seat_count}
use Rattle.heap_words.specs.declared.access.Access.{Access}
use Rattle.heap_words.specs.declared.access.Access.TheVariants.{Load}
use Rattle.heap_words.specs.Words.{Cset, Heap, IsWord, image_start, word_at}
use Rattle.heap_words.proofs.Rows.{words_differ}
use Rattle.heap_words.proofs.Stores.{is_word_true}
use Rattle.heap_words.specs.Touch.{Touch, access_at, placed}
use Rattle.heap_words.proofs.Touches.{table_index-access_at}
use Rattle.heap_words.specs.Steps.{Stage, Event, go}
use Rattle.shen_graph.specs.declared.order.Order.{Order}
use Rattle.shen_graph.specs.Graph.{Graph}
use Rattle.shen_graph.specs.History.{Entry, after, of_thread}
use Rattle.handshake.specs.Standing.{is_pausing}
use Rattle.load_barrier.proofs.Knows.{header_forwarded, header_names}
use Rattle.heap_world.specs.World.{World, Block, thing, words_of, Body, body_at, body_words, IsCollected}
use Rattle.heap_world.proofs.Pointing.{copy_cases, body_piece}
use Rattle.cycle_steps.proofs.Resolving.Bodies.{piece_word_is}
use Rattle.heap_world.specs.Change.{Change}
use Rattle.collector_rows.specs.ByParts.{PausesByParts}
use Rattle.cycle_steps.proofs.Evacuation.Parts.{all_is_forwarded}
use Rattle.mutator.specs.Rows.{Mutating, touch_of}
use Rattle.collector_rows.specs.declared.control_spot.ControlSpot.{ControlSpot}
use Rattle.collector_rows.specs.declared.control_spot.ControlSpot.TheVariants.{LookFree, Working, Stopping, LoadWord, StoreWord}
use Rattle.collector_rows.specs.ControlReady.{is_ready}
use Rattle.collector_rows.specs.ControlRows.{Controlling, control_seat, control_access, control_touch}
use Rattle.collector_rows.proofs.ControlHinted.{control_hinted_ready}
use Rattle.shen_graph.specs.Order.{hint_in}
use Rattle.unit_part.proofs.Inside.{unit_inside}
use Rattle.handshake.specs.StopRows.{touch_at as stop_touch}
use Rattle.step_core.specs.Actor.{Machine, mutating, helping, controlling, Actor}
use Rattle.step_core.specs.Begins.{Begins}
use Rattle.step_core.specs.History.{history}
use Rattle.step_core.specs.Machines.{takes_of, helping_by, controlling_by, plan_of, kind}
use Rattle.step_core.proofs.Machines.Hinting.{help_hinted_is, control_hinted_image}
use Rattle.step_core.specs.Pausing.{IsInPause}
use Rattle.step_core.specs.Settled.{stored_image, image_read, settled, control_number}
use Rattle.step_core.specs.Sound.{world_of, IsMutator, StandsFor}
use Rattle.step_core.specs.Standing.{control_standing}
use Rattle.step_core.proofs.Theorem.Beginning.{goes_begins}
use Rattle.step_core.proofs.Machines.Owed.{IsMachine, IsThread, IsResting, ControlFacts}
use Rattle.step_core.proofs.Theorem.Stands.{thread_of as thread_there, stands as stands_there}
use Rattle.step_core.proofs.Theorem.Induction.{Goes, goes_run}
use Rattle.step_core.proofs.Machines.Roles.{machine_there, number_of, below_control, rests_there}
use Rattle.step_core.proofs.Theorem.EveryList.{outside_in_pause}
use Rattle.step_core.proofs.Helpers.Stable.{help_word}
use Rattle.step_core.proofs.Mutators.Ordered.{order_word}
use Rattle.cycle_runs.specs.Evacuation.Runs.{HaveHeaders, HeadersLeadInRuns, IsPublishing, IsWriting, IsSparing, AreSpared, CopiesAreSpared, AreAllForwarded, AllIsForwardedInRuns}
use Rattle.cycle_runs.proofs.Evacuation.Writes.{touch_in, WorkIn, machine_writes}
use Rattle.cycle_runs.proofs.Evacuation.Sparing.{Hits, hits, publishing, body_no_room}

-- What a stage says in which all goes as it should.
module _ (config : Config) (graph : Graph) (stage : Stage Actor) (entries : List Entry) (all_goes : Goes config graph stage entries) where
  abbrev pub the_world : World
  the_world = world_of config stage all_goes.follows.block all_goes.follows.ghost (after graph entries)

  -- of a mutator
  pub thread_of : (number : ℕ) (actor : Actor) (mutator : Mutating) → IsMutator stage number actor mutator → IsThread config stage.words the_world (of_thread entries (number + 1)) number actor mutator
  thread_of = thread_there config graph stage entries all_goes

  -- words and machines stand for the graph
  abbrev pub stands : StandsFor config stage (after graph entries)
  stands = stands_there config graph stage entries all_goes

  -- headers of old copies lead to current ones
  pub have_headers : HaveHeaders config stage (after graph entries)
  have_headers = record {
    stands = stands;
    old = λ object_address refs nums copy_address name object_there.
        let old = all_goes.follows.shared.evacuated.moved.moveds object_address refs nums copy_address name object_there in
        record {
          inside = old.inside;
          forwarded = ap is_forwarded old.header ∙ header_forwarded copy_address;
          leads = ap forwardee_in old.header ∙ header_names copy_address;
          current = old.copy;
          outside = old.outside;
          plain = (all_goes.follows.shared.contents.objects.each copy_address refs nums name old.copy).2.header;
        };
    current = λ object_address refs nums name object_there. (all_goes.follows.shared.contents.objects.each object_address refs nums name object_there).2.header;
    once = all_goes.follows.shared.contents.objects.once;
  }

  -- The access of a machine that stores no word of an image is one of a word by its name, or loads one of the image.
  abbrev IsNamedBy : Access → Touch → Type 0
  IsNamedBy access touch = ((access ≡ placed config touch) × IsWord config touch.word) ⊎ ((place : ℕ) × (access ≡ Load place))

  abbrev IsNamed : Order → Machine → Type 0
  IsNamed order machine = IsNamedBy (plan_of config order machine) (touch_in config order machine)

  control_named : (seen_set phase cset hints : ℕ) (image : List ℕ) (spot : ControlSpot) → is_ready config spot ≡ true → stored_image spot image ≡ None
      → IsNamedBy (control_access config (record { spot = spot; seen = seen_set; phase = phase; cset = cset; hints = hints; image = image })) (control_touch config spot)
  control_named seen_set phase cset hints image (Working spot) spot_ready no_image = inl (refl, unit_inside config (control_seat config) spot (omega arith) (and_parts _ _ spot_ready).0)
  control_named seen_set phase cset hints image (Stopping spot) spot_ready no_image = inl (refl, is_word_true config (stop_touch spot).word (and_parts _ _ (and_parts _ _ spot_ready).0).0)
  control_named seen_set phase cset hints image (LoadWord index extent) spot_ready no_image = inr (image_start config + index, refl)
  control_named seen_set phase cset hints image (StoreWord index extent) spot_ready no_image = absurd (cc (no_image))
  control_named seen_set phase cset hints image _ spot_ready no_image = inl (refl, tt)

  named : (number : ℕ) (order : Order) (actor : Actor) (machine : Machine) → IsMachine config stage.words the_world (of_thread entries (number + 1)) number actor machine → takes_of machine order ≡ true → image_read machine ≡ None → IsNamed order machine
  named number order actor (mutating mutator) facts takes no_image = inl (refl, is_word_true config (touch_of config mutator order).word (order_word config mutator.seat mutator.made mutator.kept order mutator.spot facts.mine.seated.below facts.mine.ready takes))
  named number order actor (helping helper) facts takes no_image = inl (refl, help_word config the_world number (helping_by config order helper) all_goes.follows.shared (help_hinted_is config the_world number (hint_in order) helper facts))
  named number order actor (controlling control) facts takes no_image =
      let own_control : Controlling = controlling_by config order control in
      control_named own_control.seen own_control.phase own_control.cset own_control.hints own_control.image own_control.spot (control_hinted_ready config (hint_in order) control facts.ready) (control_hinted_image config (hint_in order) control ∙ no_image)

  module _ (number : ℕ) (order : Order) (address offset : ℕ) (body : Body) (address_collected : IsCollected config (settled config stage Cset) address) (body_there : body_at (all_goes.follows.block address) ≡ Some body) (word_below : offset < body_words body) (machine : Machine)
      (same_place : table_index (plan_of config order machine) ≡ word_at config (Heap (address + offset))) where
    abbrev t : Touch
    t = touch_in config order machine

    -- a load of the word
    loads_it : (load_place : ℕ) → plan_of config order machine ≡ Load load_place → plan_of config order machine ≡ Load (word_at config (Heap (address + offset)))
    loads_it load_place plan = plan ∙ ap Load (sym (ap table_index plan) ∙ same_place)

    -- an access of the word by its name is of it
    word_of : plan_of config order machine ≡ placed config t → IsWord config t.word → IsWord config (Heap (address + offset)) → t.word ≡ Heap (address + offset)
    word_of plan word_inside word = words_differ config t.word (Heap (address + offset)) word_inside word (sym (table_index-access_at (word_at config t.word) t.form) ∙ sym (ap table_index plan) ∙ same_place)

    -- what the access is by what it does to the piece
    by_hit : (piece : Block) → all_goes.follows.block address ≡ Some piece → plan_of config order machine ≡ placed config t → Hits config the_world number t (WorkIn order machine) address offset piece → IsSparing config the_world number order machine address offset body
    by_hit piece piece_there plan (Hits.loads_it form) = inl (loads_it (word_at config t.word) (plan ∙ ap (λ f. access_at (word_at config t.word) f) form))
    by_hit piece piece_there plan (Hits.header made_body published no_room) =
        let same_body : made_body ≡ body = same_Some made_body body (sym published.there ∙ body_there) in
        inr (inl (subst (λ body. IsPublishing config the_world number address body (plan_of config order machine)) same_body (publishing config the_world number address made_body t (plan_of config order machine) plan published)))
    by_hit piece piece_there plan (Hits.used refs nums name object from target work) = inr (inr (by_work machine work))
      where
        by_work : (machine : Machine) → WorkIn order machine → IsWriting the_world order machine address offset body
        by_work (mutating machine) writes = record {
          mutator = machine;
          is = refl;
          writes = writes;
          behind = from;
          current = current_is;
          quiet = target.safe address_collected;
        }
          where
            current_is : all_goes.follows.block address ≡ Some (thing body.name body.refs body.nums)
            current_is = ⊎_elim (λ object_now. object_now) (λ was_moved. absurd (let both_there = sym target.piece ∙ was_moved.1 in cc)) (copy_cases (all_goes.follows.block address) body body_there)
        by_work (helping machine) writes = absurd writes
        by_work (controlling machine) writes = absurd writes
    by_hit piece piece_there plan (Hits.renewed refs nums name object from left_out) = absurd (left_out address_collected)

    -- what the next access of a machine is
    spares : (actor : Actor) → IsMachine config stage.words the_world (of_thread entries (number + 1)) number actor machine → takes_of machine order ≡ true → image_read machine ≡ None → IsSparing config the_world number order machine address offset body
    spares actor facts takes no_image =
        let piece = body_piece (all_goes.follows.block address) body body_there in
        let piece_words = piece.2 in
        let offset_within : offset < words_of piece.0 = omega (arith, word_below, piece_words) in
        ⊎_elim
        (λ (by_name : (plan_of config order machine ≡ placed config t) × IsWord config t.word).
        by_hit piece.0 piece.1 by_name.0 (hits config the_world all_goes.follows.shared number t (WorkIn order machine) address offset piece.0 piece.1 offset_within
        (machine_writes config the_world all_goes.follows.shared stage.words (of_thread entries (number + 1)) number actor order machine facts)
        (body_no_room (all_goes.follows.block address) body body_there piece.0 piece.1)
        (word_of by_name.0 by_name.1 (is_word_true config (Heap (address + offset)) (piece_word_is config the_world all_goes.follows.shared address offset piece.0 piece.1 offset_within)))))
        (λ (loaded : (place : ℕ) × (plan_of config order machine ≡ Load place)). inl (loads_it loaded.0 loaded.1))
        (named number order actor machine facts takes no_image)

  -- copies are spared
  pub are_spared : AreSpared config stage (after graph entries)
  are_spared = record {
    stands = stands;
    spared = λ number actor order address offset body machine_here takes no_image inside body_there word_below same_place. spares number order address offset body inside body_there word_below actor.machine same_place actor (all_goes.follows.machines number actor machine_here) takes no_image;
  }

  module _ (pause : IsInPause config stage) where
    -- the control rests in a pause
    control_rests : (number : ℕ) (spot : ControlSpot) → is_pausing (control_standing spot) ≡ true → ControlFacts config the_world number spot → IsResting the_world number
    control_rests number (Working spot) is_paused facts = absurd (cc (is_paused))
    control_rests number LookFree is_paused facts = absurd (cc (is_paused))
    control_rests number (Stopping spot) is_paused facts = facts.0
    control_rests number (LoadWord index extent) is_paused facts = facts.0
    control_rests number _ is_paused facts = facts

    -- no machine works on a unit of evacuation, or stands in one of updating
    abbrev pub IsIdleSeat : ℕ → Type 0
    IsIdleSeat number = (all_goes.follows.ghost.working number ≡ None) × (all_goes.follows.ghost.scanning number ≡ None)

    control_still : (number : ℕ) (actor : Actor) → slice_get stage.machines number ≡ Some actor → number ≡ control_number config → IsResting the_world number
    control_still number actor actor_there control_number_is =
        let same_actor : actor ≡ pause.actor = same_Some actor pause.actor (sym actor_there ∙ ap (λ machine_number. slice_get stage.machines machine_number) control_number_is ∙ pause.here) in
        let role : actor.machine ≡ controlling pause.control = ap (λ y. y.machine) same_actor ∙ pause.is in
        let facts = subst (λ machine. IsMachine config stage.words the_world (of_thread entries (number + 1)) number actor machine) role (all_goes.follows.machines number actor actor_there) in
        control_rests number pause.control.spot pause.pausing facts.facts

    pub idle : (number : ℕ) → number < seat_count config.mutators config.helpers → IsIdleSeat number
    idle number seat_below =
        let actor_there = machine_there config stage.words the_world entries stage.machines all_goes.follows.seats number seat_below in
        let facts = all_goes.follows.machines number actor_there.0 actor_there.1 in
        let has_number = number_of config stage.words the_world (of_thread entries (number + 1)) number actor_there.0 actor_there.0.machine facts in
        let rests = rests_there config stage.words the_world (of_thread entries (number + 1)) number actor_there.0 actor_there.0.machine
        (λ not_control. outside_in_pause config stage all_goes.shaken pause number actor_there.0 (below_control config number actor_there.0.machine has_number not_control) actor_there.1) (control_still number actor_there.0 actor_there.1) facts in
        (rests.works_none, rests.scans_none)

    -- each marked object of the set is forwarded
    pub are_forwarded : AreAllForwarded config stage
    are_forwarded evacuating_on all_claimed has_room address address_high address_collected address_marked = all_is_forwarded config the_world all_goes.follows.shared evacuating_on (λ number seat_below. (idle number seat_below).0) all_claimed has_room address address_high address_collected address_marked

-- in each stage that events lead to all goes as it should
pub stage_goes : (change : Change) → PausesByParts change → (config : Config) (stage : Stage Actor) (graph : Graph) → Begins config stage graph → (events : List (Event Order)) → Goes config graph (go (kind change config) stage events) (history change config stage events)
stage_goes change law config stage graph begins events = goes_run change law config graph stage [] events (goes_begins config stage graph begins)

pub headers_lead_in_runs : HeadersLeadInRuns
headers_lead_in_runs change law config stage graph begins events = have_headers config graph (go (kind change config) stage events) (history change config stage events) (stage_goes change law config stage graph begins events)

pub copies_are_spared : CopiesAreSpared
copies_are_spared change law config stage graph begins events = are_spared config graph (go (kind change config) stage events) (history change config stage events) (stage_goes change law config stage graph begins events)

pub all_is_forwarded_in_runs : AllIsForwardedInRuns
all_is_forwarded_in_runs change law config stage graph begins events pause =
    are_forwarded config graph (go (kind change config) stage events) (history change config stage events) (stage_goes change law config stage graph begins events) pause
