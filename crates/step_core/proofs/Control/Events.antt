-- An event of the control leads from a stage that follows its history to one that does.
use Rattle.std.proofs.Common.{◌≡◌, ◌≢◌, ℕ, ◌+◌, ◌<◌, ◌≤◌, Bool, true, false, List, [], ◌++◌, Option, Some, None, refl, sym, ap, ◌∙◌, subst, arith}
use Rattle.std.specs.Prelude.{slice_get, slice_set, slice_index, if◌then◌else◌}
use Rattle.std.proofs.lemmas.List.{length-set, set-get_or}
use Rattle.std.proofs.lemmas.Option.{same_Some, slice_get_within}
use Rattle.std.proofs.lemmas.Bool.{and_parts, ltb-true, ltb-false}
use Rattle.heap_words.proofs.Lists.{slice_get-set_same}
use Rattle.heap_words.specs.declared.config.Config.{Config}
use Rattle.heap_words.specs.Access.{table_index}
use Rattle.heap_words.specs.Ranges.{seat_count}
use Rattle.heap_words.specs.Words.{Ask, Phase, Cset, image_start, view}
use Rattle.heap_words.proofs.Stores.{is_word_from}
use Rattle.heap_words.specs.Steps.{Stage, accessed, moved}
use Rattle.shen_graph.specs.declared.command.Command.{Command}
use Rattle.shen_graph.specs.declared.order.Order.TheVariants.{Nothing}
use Rattle.shen_graph.specs.Graph.{Graph}
use Rattle.shen_graph.specs.History.{Entry, after, of_thread}
use Rattle.handshake.specs.declared.stop_spot.StopSpot.TheVariants as stop
use Rattle.handshake.specs.Standing.{is_within, is_pausing}
use Rattle.handshake.proofs.Still.{pause_empty}
use Rattle.heap_world.specs.World.{World, Shared}
use Rattle.unit_part.specs.declared.spot.UnitSpot.{UnitSpot}
use Rattle.unit_part.specs.Rows as units
use Rattle.unit_part.specs.Ready as unit
use Rattle.unit_part.proofs.Inside.{unit_inside}
use Rattle.heap_world.specs.Change.{Change, IsDue, image_view, image_words}
use Rattle.collector_rows.specs.ByParts.{PausesByParts}
use Rattle.heap_words.specs.Touch.{touch, loads}
use Rattle.collector_rows.specs.declared.extent.Extent.{Extent}
use Rattle.collector_rows.specs.Extent.{next_loaded, extent_after, Counting}
use Rattle.collector_rows.specs.declared.control_spot.ControlSpot.{ControlSpot}
use Rattle.collector_rows.specs.declared.control_spot.ControlSpot.TheVariants.{LookLeft, StoreEnd, LookAsked, LookFree, Working, Stopping, LoadWord, StoreWord, Go, Gone}
use Rattle.collector_rows.specs.ControlRows.{Controlling, control_access, loads_more, loaded_on, loaded_all, seen_after, is_gone}
use Rattle.collector_rows.specs.ControlReady.{is_ready}
use Rattle.step_core.specs.Actor.{controlling, Actor}
use Rattle.step_core.specs.Machines.{took_of, kind, told_storing, standing_of}
use Rattle.step_core.specs.Settled.{stored_image, settled_by, image_read, image_of, control_number}
use Rattle.step_core.specs.Sound.{world_of}
use Rattle.step_core.specs.Fit.{IsPartOfSome}
use Rattle.step_core.proofs.Machines.Owed.{IsResting, IsControl, IsMachine, Follows, Owes}
use Rattle.step_core.proofs.Control.Images.{words_after, found-placed, image_in, image_in_long}
use Rattle.step_core.proofs.Control.ByParts as parts
use Rattle.step_core.proofs.Helpers.Units.{work_fits}
use Rattle.step_core.proofs.History.Owing.{follows_owes}
use Rattle.step_core.proofs.Control.NewImageCounts.{asking, image_stands, paused_owes}
use Rattle.step_core.proofs.Control.OutsideImage as pauses
use Rattle.step_core.proofs.Control.Loaded.{read_owes}
use Rattle.step_core.proofs.Control.Storing.{stored_owes}
use Rattle.step_core.proofs.Control.Held.{IsKept, held_image}

-- A step of the control.
module _ (change : Change) (law : PausesByParts change) (config : Config) (graph : Graph) (stage : Stage Actor) (past : List Entry) (number : ℕ) (control : Controlling) (command : Command) (calls : List Entry)
    (past_follows : Follows config graph stage past) (shaken : IsKept config stage) (machine_there : slice_get stage.machines number ≡ Some (record { machine = controlling control; command = command; calls = calls })) where
  abbrev control_before : Actor
  control_before = record { machine = controlling control; command = command; calls = calls }

  facts : IsControl config stage.words (world_of config stage past_follows.block past_follows.ghost (after graph past)) number control
  facts = past_follows.machines number control_before machine_there

  -- the image that counts is its
  held_is : held_image config stage ≡ stored_image control.spot control.image
  held_is = ap (λ machine_number. image_of (slice_get stage.machines machine_number)) (sym facts.number_is) ∙ ap image_of machine_there

  abbrev words_after_access : List ℕ
  words_after_access = accessed (control_access config control) stage.words

  abbrev control_after : Actor
  control_after = took_of change config control_before Nothing (slice_index stage.words (table_index (control_access config control))) (controlling control)

  -- the world in which an image counts, or none
  abbrev world_held : Option Counting → World
  world_held found = record { memory = settled_by config stage.words found; block = past_follows.block; ghost = past_follows.ghost; graph = after graph past }

  world_is : world_of config stage past_follows.block past_follows.ghost (after graph past) ≡ world_held (stored_image control.spot control.image)
  world_is = ap world_held held_is

  -- what the control owes is owed as an event
  from_owes : (settles : List Entry) → Owes config stage.words words_after_access (world_held (stored_image control.spot control.image)) past (control_number config) stage.machines
      (settled_by config words_after_access (image_read control_after.machine)) settles control_after → Follows config graph (moved (kind change config) stage number control_before Nothing) (past ++ settles)
  unfolding kind
  from_owes settles owes =
      let image_there : image_of (slice_get (slice_set stage.machines number control_after) (control_number config)) ≡ image_read control_after.machine =
      ap (λ index. image_of (slice_get (slice_set stage.machines number control_after) index)) (sym facts.number_is) ∙ ap image_of (slice_get-set_same stage.machines number control_before control_after machine_there) in
      follows_owes config graph stage past number control_before control_after words_after_access settles past_follows
      (subst (λ memory. Owes config stage.words words_after_access (world_of config stage past_follows.block past_follows.ghost (after graph past)) past number stage.machines memory settles control_after) (ap (settled_by config words_after_access) (sym image_there))
      (subst (λ next_world. Owes config stage.words words_after_access next_world past number stage.machines (settled_by config words_after_access (image_read control_after.machine)) settles control_after) (sym world_is)
      (subst (λ number. Owes config stage.words words_after_access (world_held (stored_image control.spot control.image)) past number stage.machines (settled_by config words_after_access (image_read control_after.machine)) settles control_after) (sym facts.number_is) owes)))
      machine_there (length-set stage.words _ _ ∙ past_follows.words)

  -- what holds of the control, in that world
  control_held : IsControl config stage.words (world_held (stored_image control.spot control.image)) (control_number config) control
  control_held = subst (λ number. IsControl config stage.words (world_held (stored_image control.spot control.image)) number control) facts.number_is (subst (λ world. IsControl config stage.words world number control) world_is facts)

  -- and of all machines
  shared_held : Shared config (world_held (stored_image control.spot control.image))
  shared_held = subst (λ world. Shared config world) world_is past_follows.shared

  known_held : (actor_number : ℕ) (actor : Actor) → slice_get stage.machines actor_number ≡ Some actor → IsMachine config stage.words (world_held (stored_image control.spot control.image)) (of_thread past (actor_number + 1)) actor_number actor actor.machine
  known_held actor_number actor actor_there = subst (λ world. IsMachine config stage.words world (of_thread past (actor_number + 1)) actor_number actor actor.machine) world_is (past_follows.machines actor_number actor actor_there)

  -- in a pause every other machine is outside
  all_outside : is_pausing (standing_of (controlling control)) ≡ true → (actor_number : ℕ) (actor : Actor) → slice_get stage.machines actor_number ≡ Some actor → actor_number ≢ control_number config → is_within (standing_of actor.machine) ≡ false
  all_outside pausing actor_number actor actor_there not_control =
      let same_actor : control_before ≡ shaken.control = same_Some control_before shaken.control (sym machine_there ∙ ap (slice_get stage.machines) facts.number_is ∙ shaken.there) in
      let seat_below : actor_number < seat_count config.mutators config.helpers = (let number_within = slice_get_within stage.machines actor_number actor actor_there in let seats = past_follows.seats in omega (arith, number_within, seats)) in
      pause_empty config (λ any_actor. standing_of any_actor.machine) stage shaken (ap (λ any_actor. is_pausing (standing_of any_actor.machine)) (sym same_actor) ∙ pausing) actor_number actor (omega (arith, seat_below, not_control)) actor_there

-- by its spot
module _ (change : Change) (law : PausesByParts change) (config : Config) (graph : Graph) (stage : Stage Actor) (past : List Entry) (number seen_word phase cset hints : ℕ) (image : List ℕ) (command : Command) (calls : List Entry)
    (past_follows : Follows config graph stage past) (shaken : IsKept config stage) where
  abbrev control_at : ControlSpot → Controlling
  control_at spot = record { spot = spot; seen = seen_word; phase = phase; cset = cset; hints = hints; image = image }

  abbrev Here : ControlSpot → Type 0
  Here spot = slice_get stage.machines number ≡ Some (record { machine = controlling (control_at spot); command = command; calls = calls })

  abbrev ControlGoal : ControlSpot → Type 0
  ControlGoal spot = Follows config graph (moved (kind change config) stage number (record { machine = controlling (control_at spot); command = command; calls = calls }) Nothing)
      (past ++ told_storing config stage spot image)

  ready_at : (spot : ControlSpot) → Here spot → is_ready config spot ≡ true
  ready_at spot control_here = (facts change law config graph stage past number (control_at spot) command calls past_follows shaken control_here).ready

  -- the word that it finds
  abbrev got : ControlSpot → ℕ
  got spot = slice_index stage.words (table_index (control_access config (control_at spot)))

  -- a spot outside the image
  quiet : (spot : ControlSpot) (control_here : Here spot) → stored_image spot image ≡ None → told_storing config stage spot image ≡ []
      → (Shared config (pauses.open_world config stage.words past_follows.block past_follows.ghost (after graph past)) → IsControl config stage.words (pauses.open_world config stage.words past_follows.block past_follows.ghost (after graph past)) (control_number config) (control_at spot)
      → Owes config stage.words (accessed (control_access config (control_at spot)) stage.words) (pauses.open_world config stage.words past_follows.block past_follows.ghost (after graph past)) past (control_number config) stage.machines
      (settled_by config (accessed (control_access config (control_at spot)) stage.words) (image_read (control_after change law config graph stage past number (control_at spot) command calls past_follows shaken control_here).machine)) []
      (control_after change law config graph stage past number (control_at spot) command calls past_follows shaken control_here))
      → ControlGoal spot
  quiet spot control_here no_image told_none owes =
      let control = control_at spot in
      let world_open : world_held change law config graph stage past number control command calls past_follows shaken control_here (stored_image spot image) ≡ pauses.open_world config stage.words past_follows.block past_follows.ghost (after graph past) =
      ap (world_held change law config graph stage past number control command calls past_follows shaken control_here) no_image in
      subst (λ entries. Follows config graph (moved (kind change config) stage number (record { machine = controlling control; command = command; calls = calls }) Nothing) (past ++ entries)) (sym told_none)
      (from_owes change law config graph stage past number control command calls past_follows shaken control_here []
      (subst (λ next_world. Owes config stage.words (accessed (control_access config control) stage.words) next_world past (control_number config) stage.machines
      (settled_by config (accessed (control_access config control) stage.words) (image_read (control_after change law config graph stage past number control command calls past_follows shaken control_here).machine)) []
      (control_after change law config graph stage past number control command calls past_follows shaken control_here)) (sym world_open)
      (owes (subst (λ any_world. Shared config any_world) world_open (shared_held change law config graph stage past number control command calls past_follows shaken control_here))
      (subst (λ world. IsControl config stage.words world (control_number config) control) world_open (control_held change law config graph stage past number control command calls past_follows shaken control_here)))))

  -- the world while no image counts
  abbrev open_now : World
  open_now = pauses.open_world config stage.words past_follows.block past_follows.ghost (after graph past)

  -- the word of the image that is loaded
  abbrev loaded : ℕ → ℕ
  loaded index = slice_index stage.words (image_start config + index)

  -- what holds of it while it loads the image
  known_at : (index : ℕ) (extent : Extent) → Here (LoadWord index extent) → IsControl config stage.words open_now (control_number config) (control_at (LoadWord index extent))
  known_at index extent control_here = control_held change law config graph stage past number (control_at (LoadWord index extent)) command calls past_follows shaken control_here

  -- it rests
  idle_at : (index : ℕ) (extent : Extent) → Here (LoadWord index extent) → IsResting open_now (control_number config)
  idle_at index extent control_here = (known_at index extent control_here).facts.0

  -- and the pause is due
  due_at : (index : ℕ) (extent : Extent) → Here (LoadWord index extent) → IsDue config open_now.memory
  due_at index extent control_here = (known_at index extent control_here).facts.1

  below_at : (index : ℕ) (extent : Extent) → Here (LoadWord index extent) → index < image_words config
  below_at index extent control_here = ltb-true _ _ (ready_at (LoadWord index extent) control_here)

  -- The last word of the image is loaded: what was loaded is a part of one that stands for the graph.
  pub whole_stands : (index : ℕ) (extent : Extent) → Here (LoadWord index extent) → loads_more config phase index extent (loaded index) ≡ false → IsPartOfSome config (extent_after phase index extent (loaded index)) (loaded_all config image (loaded index))
  whole_stands index extent control_here all_loaded =
      let known_control = known_at index extent control_here in
      let index_below = below_at index extent control_here in
      let image_end : image_words config ≤ parts.next config stage.words phase extent image index index_below known_control.aims.0 known_control.aims.1 known_control.aims.2 known_control.extent_is = ltb-false _ _ all_loaded in
      ∣ (
        image_in config stage.words,
        after graph past,
        asking config stage.words past_follows.block past_follows.ghost (after graph past) past stage.machines past_follows.seats (idle_at index extent control_here),
        image_in_long config stage.words past_follows.words,
        parts.part_of config stage.words phase extent image index index_below known_control.aims.0 known_control.aims.1 known_control.aims.2 known_control.extent_is image_end known_control.phase_is,
        parts.part_extent config stage.words phase extent image index index_below known_control.aims.0 known_control.aims.1 known_control.aims.2 known_control.extent_is image_end known_control.phase_is,
        image_stands config stage.words past_follows.block past_follows.ghost (after graph past) past stage.machines past_follows.seats (idle_at index extent control_here)
            (shared_held change law config graph stage past number (control_at (LoadWord index extent)) command calls past_follows shaken control_here) past_follows.promised_to past_follows.no_more past_follows.no_more_pins
            (known_held change law config graph stage past number (control_at (LoadWord index extent)) command calls past_follows shaken control_here)
            (all_outside change law config graph stage past number (control_at (LoadWord index extent)) command calls past_follows shaken control_here refl),
      ) ∣₁

  -- the control after it loaded a word: it loads the next one, or it was the last one
  abbrev after_word : (index : ℕ) → Extent → Bool → Actor
  after_word index extent has_more = record {
    machine = controlling (record {
      spot = if has_more then LoadWord (next_loaded config (extent_after phase index extent (loaded index)) index) (extent_after phase index extent (loaded index)) else StoreWord 0 (extent_after phase index extent (loaded index));
      seen = if has_more then seen_word else seen_after seen_word (image_view config (change config (loaded_all config image (loaded index))));
      phase = if has_more then phase else image_view config (change config (loaded_all config image (loaded index))) Phase;
      cset = if has_more then cset else image_view config (change config (loaded_all config image (loaded index))) Cset;
      hints = hints;
      image = if has_more then loaded_on (next_loaded config (extent_after phase index extent (loaded index)) index) image (loaded index) else change config (loaded_all config image (loaded index));
    });
    command = command;
    calls = calls ++ [];
  }

  -- what it owes then
  loaded_owes : (index : ℕ) (extent : Extent) → Here (LoadWord index extent) → Shared config open_now → IsControl config stage.words open_now (control_number config) (control_at (LoadWord index extent)) → (has_more : Bool) → loads_more config phase index extent (loaded index) ≡ has_more
      → Owes config stage.words stage.words open_now past (control_number config) stage.machines (settled_by config stage.words (image_read (after_word index extent has_more).machine)) [] (after_word index extent has_more)
  loaded_owes index extent control_here shared known_control true has_more =
      let index_below = below_at index extent control_here in
      let next_part = parts.goes_next config stage.words phase extent image index index_below known_control.aims.0 known_control.aims.1 known_control.aims.2 known_control.extent_is in
      read_owes config stage.words past_follows.block past_follows.ghost (after graph past) past stage.machines command calls
      (record {
        spot = LoadWord (next_loaded config (extent_after phase index extent (loaded index)) index) (extent_after phase index extent (loaded index));
        seen = seen_word;
        phase = phase;
        cset = cset;
        hints = hints;
        image = loaded_on (next_loaded config (extent_after phase index extent (loaded index)) index) image (loaded index);
      }) shared past_follows.promised_to
      (record {
        number_is = refl;
        ready = has_more;
        phase_is = known_control.phase_is;
        set_is = known_control.set_is;
        facts = known_control.facts;
        aims = (
          parts.next_long config stage.words phase extent image index index_below known_control.aims.0 known_control.aims.1 known_control.aims.2 known_control.extent_is,
          parts.next_words config stage.words phase extent image index index_below known_control.aims.0 known_control.aims.1 known_control.aims.2 known_control.extent_is,
          next_part.here (ltb-true _ _ has_more),
        );
        extent_is = parts.next_extent config stage.words phase extent image index index_below known_control.aims.0 known_control.aims.1 known_control.aims.2 known_control.extent_is;
      }) refl
  loaded_owes index extent control_here shared known_control false more_is =
      let index_below = below_at index extent control_here in
      let image_end : image_words config ≤ parts.next config stage.words phase extent image index index_below known_control.aims.0 known_control.aims.1 known_control.aims.2 known_control.extent_is = ltb-false _ _ more_is in
      paused_owes config stage.words past_follows.block past_follows.ghost (after graph past) past stage.machines past_follows.seats (idle_at index extent control_here) (extent_after phase index extent (loaded index)) (loaded_all config image (loaded index))
      (parts.part_of config stage.words phase extent image index index_below known_control.aims.0 known_control.aims.1 known_control.aims.2 known_control.extent_is image_end known_control.phase_is)
      (parts.part_extent config stage.words phase extent image index index_below known_control.aims.0 known_control.aims.1 known_control.aims.2 known_control.extent_is image_end known_control.phase_is)
      (image_in_long config stage.words past_follows.words)
      (parts.part_long config stage.words phase extent image index index_below known_control.aims.0 known_control.aims.1 known_control.aims.2 known_control.extent_is image_end known_control.phase_is)
      change law (due_at index extent control_here) shared past_follows.promised_to past_follows.no_more past_follows.no_more_pins
      (known_held change law config graph stage past number (control_at (LoadWord index extent)) command calls past_follows shaken control_here)
      (all_outside change law config graph stage past number (control_at (LoadWord index extent)) command calls past_follows shaken control_here refl)
      (seen_after seen_word (image_view config (change config (loaded_all config image (loaded index))))) hints command calls

  -- a word of the image that is loaded
  load_word : (index : ℕ) (extent : Extent) → Here (LoadWord index extent) → ControlGoal (LoadWord index extent)
  load_word index extent control_here =
      let same_words : accessed (control_access config (control_at (LoadWord index extent))) stage.words ≡ stage.words = set-get_or stage.words (image_start config + index) 0 in
      quiet (LoadWord index extent) control_here refl refl (λ shared known_control.
      subst (λ table. Owes config stage.words table open_now past (control_number config) stage.machines
      (settled_by config table (image_read (control_after change law config graph stage past number (control_at (LoadWord index extent)) command calls past_follows shaken control_here).machine)) []
      (control_after change law config graph stage past number (control_at (LoadWord index extent)) command calls past_follows shaken control_here)) (sym same_words)
      (loaded_owes index extent control_here shared known_control (loads_more config phase index extent (loaded index)) refl))

  -- a word of the new image that is stored
  store_word : (index : ℕ) (extent : Extent) → Here (StoreWord index extent) → ControlGoal (StoreWord index extent)
  store_word index extent control_here =
      let control = control_at (StoreWord index extent) in
      let known_control = facts change law config graph stage past number control command calls past_follows shaken control_here in
      from_owes change law config graph stage past number control command calls past_follows shaken control_here (told_storing config stage (StoreWord index extent) image)
      (stored_owes change config stage.words past_follows.block past_follows.ghost (after graph past) past stage.machines extent image index seen_word phase cset hints command calls known_control.ready past_follows.words known_control.aims.0 known_control.aims.1 known_control.aims.2 past_follows.seats
      (shared_held change law config graph stage past number control command calls past_follows shaken control_here) past_follows.promised_to (control_held change law config graph stage past number control command calls past_follows shaken control_here)
      (known_held change law config graph stage past number control command calls past_follows shaken control_here))

  -- a word that it finds in a unit is fit
  work_ready : (spot : UnitSpot) → Here (Working spot) → unit.is_ready config (control_number config) spot ≡ true
  work_ready spot control_here = (and_parts _ _ (ready_at (Working spot) control_here)).0

  work_found : (spot : UnitSpot) → Here (Working spot) → got (Working spot) ≡ view config stage.words (units.touch_at config (control_number config) spot).word
  work_found spot control_here = found-placed config stage.words (units.touch_at config (control_number config) spot) (is_word_from config _ (unit_inside config (control_number config) spot (omega arith) (work_ready spot control_here)))

  pub work_fit : (spot : UnitSpot) → Here (Working spot) → unit.IsFit config (control_number config) spot (got (Working spot))
  work_fit spot control_here =
      let known_control = control_held change law config graph stage past number (control_at (Working spot)) command calls past_follows shaken control_here in
      subst (λ read_word. unit.IsFit config (control_number config) spot read_word) (sym (work_found spot control_here))
      (work_fits config open_now (control_number config) (shared_held change law config graph stage past number (control_at (Working spot)) command calls past_follows shaken control_here) spot (work_ready spot control_here) known_control.facts)

  -- a step of a unit
  work_word : (spot : UnitSpot) → Here (Working spot) → ControlGoal (Working spot)
  work_word spot control_here = quiet (Working spot) control_here refl refl (λ shared known_control. subst
      (λ read_word. Owes config stage.words (words_after config stage.words (units.touch_at config (control_number config) spot)) open_now past (control_number config) stage.machines
      (settled_by config (words_after config stage.words (units.touch_at config (control_number config) spot)) (image_read (took_of change config (record { machine = controlling (control_at (Working spot)); command = command; calls = calls }) Nothing read_word (controlling (control_at (Working spot)))).machine)) []
      (took_of change config (record { machine = controlling (control_at (Working spot)); command = command; calls = calls }) Nothing read_word (controlling (control_at (Working spot))))) (sym (work_found spot control_here))
      (pauses.work_unit config stage.words past_follows.block past_follows.ghost (after graph past) past stage.machines command calls change seen_word phase cset hints image past_follows.words shared past_follows.promised_to spot known_control))

  -- wherever it stands
  pub by_spot : (spot : ControlSpot) → is_gone spot ≡ false → Here spot → ControlGoal spot
  by_spot LookLeft spot_going control_here = quiet LookLeft control_here refl refl (λ shared known_control.
      pauses.look_left config stage.words past_follows.block past_follows.ghost (after graph past) past stage.machines command calls change seen_word phase cset hints image past_follows.words shared past_follows.promised_to (got LookLeft) known_control)
  by_spot StoreEnd spot_going control_here = quiet StoreEnd control_here refl refl (λ shared known_control.
      pauses.store_end config stage.words past_follows.block past_follows.ghost (after graph past) past stage.machines command calls change seen_word phase cset hints image past_follows.words shared past_follows.promised_to (got StoreEnd) known_control)
  by_spot LookAsked spot_going control_here = quiet LookAsked control_here refl refl (λ shared known_control.
      pauses.look_asked config stage.words past_follows.block past_follows.ghost (after graph past) past stage.machines command calls change seen_word phase cset hints image past_follows.words shared past_follows.promised_to (got LookAsked) (found-placed config stage.words (touch Ask loads) refl) known_control)
  by_spot LookFree spot_going control_here = quiet LookFree control_here refl refl (λ shared known_control.
      pauses.look_free config stage.words past_follows.block past_follows.ghost (after graph past) past stage.machines command calls change seen_word phase cset hints image past_follows.words shared past_follows.promised_to (got LookFree) known_control)
  by_spot (Working spot) spot_going control_here = work_word spot control_here
  by_spot (Stopping stop.Raise) spot_going control_here = quiet (Stopping stop.Raise) control_here refl refl (λ shared known_control.
      pauses.raise_pause config stage.words past_follows.block past_follows.ghost (after graph past) past stage.machines command calls change seen_word phase cset hints image past_follows.words shared past_follows.promised_to (got (Stopping stop.Raise)) known_control)
  by_spot (Stopping (stop.Check seat)) spot_going control_here = quiet (Stopping (stop.Check seat)) control_here refl refl (λ shared known_control.
      pauses.check_seat config stage.words past_follows.block past_follows.ghost (after graph past) past stage.machines command calls change seen_word phase cset hints image past_follows.words shared past_follows.promised_to seat (got (Stopping (stop.Check seat))) known_control)
  by_spot (Stopping stop.Stopped) spot_going control_here = absurd (let control_ready = ready_at (Stopping stop.Stopped) control_here in cc (control_ready))
  by_spot (LoadWord index extent) spot_going control_here = load_word index extent control_here
  by_spot (StoreWord index extent) spot_going control_here = store_word index extent control_here
  by_spot Go spot_going control_here = quiet Go control_here refl refl (λ shared known_control.
      pauses.let_go config stage.words past_follows.block past_follows.ghost (after graph past) past stage.machines command calls change seen_word phase cset hints image past_follows.words shared past_follows.promised_to (got Go) known_control)
  by_spot Gone spot_going control_here = absurd (cc (spot_going))
