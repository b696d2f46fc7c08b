-- The steps of the control outside the words of an image: it looks, works on units, stops the other machines, and lets them go.
use Rattle.heap_words.specs.Phases.{idle_phase}
use Rattle.std.proofs.Common.{◌≡◌, ◌≢◌, ℕ, ◌+◌, ◌≤◌, Bool, true, false, List, [], ◌++◌, length, None, refl, sym, ap, ◌∙◌, subst, arith}
use Rattle.std.specs.Prelude.{◌==◌, if◌then◌else◌}
use Rattle.std.specs.Int.{bit_at}
use Rattle.std.proofs.lemmas.Bool.{and_parts, eqb-false, eqb-true}
use Rattle.std.proofs.lemmas.Bool.Decides.{nat_tests}
use Rattle.shen_graph.proofs.Bools.{false_from_flip}
use Rattle.heap_words.specs.declared.config.Config.{Config}
use Rattle.heap_words.specs.declared.access.Unit.TheVariants.{Worked, NoneLeft}
use Rattle.heap_words.specs.Words.{Word, Pause, Left, End, Phase, Ask, Free, State, is_word, view, write, table_words}
use Rattle.heap_words.proofs.Stores.{is_word_from}
use Rattle.heap_words.specs.Touch.{Touch, touch, loads, stores}
use Rattle.shen_graph.specs.declared.command.Command.{Command}
use Rattle.shen_graph.specs.Graph.{Graph}
use Rattle.shen_graph.specs.History.{Entry, of_thread}
use Rattle.handshake.specs.declared.stop_spot.StopSpot.{StopSpot}
use Rattle.handshake.specs.declared.stop_spot.StopSpot.TheVariants as stop
use Rattle.handshake.specs.StopRows.{next_at as stop_next}
use Rattle.unit_part.specs.declared.spot.UnitSpot.{UnitSpot}
use Rattle.unit_part.specs.declared.spot.UnitSpot.TheVariants.{Ended}
use Rattle.unit_part.specs.Rows as units
use Rattle.unit_part.proofs.Inside.{unit_inside}
use Rattle.heap_world.specs.World.{Ghost, World, Plot, Shared}
use Rattle.heap_world.specs.Change.{Change, IsDue}
use Rattle.heap_world.specs.Part.{PartStep}
use Rattle.collector_rows.specs.declared.control_spot.ControlSpot.{ControlSpot}
use Rattle.collector_rows.specs.declared.control_spot.ControlSpot.TheVariants.{LookLeft, StoreEnd, LookAsked, LookFree, Working, Stopping, Go}
use Rattle.collector_rows.specs.ControlRows.{Controlling, control_touch, control_next, stopping, after_unit, begins_pause, unasked, wants_pause}
use Rattle.collector_rows.specs.Extent.{first_extent}
use Rattle.collector_rows.proofs.ControlStays.{stays_ready}
use Rattle.collector_rows.proofs.Extents.{early, extent_none}
use Rattle.step_core.specs.Actor.{Machine, controlling, Actor}
use Rattle.step_core.specs.Settled.{stored_image, settled_by, control_number}
use Rattle.step_core.proofs.Machines.Owed.{IsResting, CanWork, ControlFacts, IsAim, IsOfExtent, IsControl, IsMachine, PromisedToMutators, Owes}
use Rattle.step_core.proofs.Control.Images.{words_after, view-placed}
use Rattle.step_core.proofs.Machines.Alike.{is_of_handshake, load_step, store_step}
use Rattle.step_core.proofs.Mutators.WhileMarking.{world_with}
use Rattle.step_core.proofs.Control.Due.{early_due}
use Rattle.step_core.proofs.Helpers.Units.{step_with, work_begins, work_fits, work_step}
use Rattle.step_core.proofs.Helpers.Quiet.{quiet_owes}

-- another machine is no control
pub no_other_control : (config : Config) (words : List ℕ) (world : World) (entries : List Entry) (number : ℕ) (actor : Actor) (machine : Machine) → number ≢ control_number config → IsMachine config words world entries number actor machine
    → (control : Controlling) → machine ≡ controlling control → ⊥
no_other_control config words world entries number actor (controlling found_control) not_control machine_stands control is_control = not_control machine_stands.number_is
no_other_control config words world entries number actor _ not_control machine_stands control is_control = cc

-- the world of a stage in which the table counts
abbrev pub open_world : Config → List ℕ → Plot → Ghost → Graph → World
open_world config words block ghost graph = record { memory = view config words; block = block; ghost = ghost; graph = graph }

module _ (config : Config) (words : List ℕ) (block : Plot) (ghost : Ghost) (graph : Graph) (past : List Entry) (machines : List Actor) (command : Command) (calls : List Entry) where
  abbrev world_then : World
  world_then = open_world config words block ghost graph

  -- the control after its step
  abbrev actor_at : Controlling → Actor
  actor_at next = record { machine = controlling next; command = command; calls = calls ++ [] }

  -- where it should be after an access
  abbrev IsControlAfter : Touch → Controlling → World → Type 0
  IsControlAfter access next world = IsControl config (words_after config words access) world (control_number config) next

  -- what its step owes after an access, where no image counts then
  abbrev OwesAt : Touch → Controlling → Type 0
  OwesAt access next = Owes config words (words_after config words access) world_then past (control_number config) machines (settled_by config (words_after config words access) (stored_image next.spot next.image)) [] (actor_at next)

  -- one of two spots at which no image counts, and of which nothing is to be known
  plain_spot : (holds : Bool) (spot other_spot : ControlSpot) (image : List ℕ) → stored_image spot image ≡ None → stored_image other_spot image ≡ None → stored_image (if holds then spot else other_spot) image ≡ None
  plain_spot true spot other_spot image no_image no_other_image = no_image
  plain_spot false spot other_spot image no_image no_other_image = no_other_image

  plain_aim : (holds : Bool) (spot other_spot : ControlSpot) (any_words image : List ℕ) → IsAim config any_words spot image → IsAim config any_words other_spot image → IsAim config any_words (if holds then spot else other_spot) image
  plain_aim true spot other_spot any_words image is_aim other_aim = is_aim
  plain_aim false spot other_spot any_words image is_aim other_aim = other_aim

  -- what it counts on at one of two spots
  plain_facts : (world : World) (holds : Bool) (spot other_spot : ControlSpot) → (holds ≡ true → ControlFacts config world (control_number config) spot) → (holds ≡ false → ControlFacts config world (control_number config) other_spot) → ControlFacts config world (control_number config) (if holds then spot else other_spot)
  plain_facts world true spot other_spot first_facts second_facts = first_facts refl
  plain_facts world false spot other_spot first_facts second_facts = second_facts refl

  plain_extent : (holds : Bool) (spot other_spot : ControlSpot) (phase : ℕ) (image : List ℕ) → IsOfExtent config phase spot image → IsOfExtent config phase other_spot image → IsOfExtent config phase (if holds then spot else other_spot) image
  plain_extent true spot other_spot phase image of_extent other_extent = of_extent
  plain_extent false spot other_spot phase image of_extent other_extent = other_extent

  -- once all others are stopped it loads the first word
  stopping_spot : (phase : ℕ) (spot : StopSpot) → stored_image (stopping config phase spot) [] ≡ None
  stopping_spot phase stop.Raise = refl
  stopping_spot phase (stop.Check seat) = refl
  stopping_spot phase stop.Stopped = refl

  stopping_aim : (phase : ℕ) (spot : StopSpot) (any_words : List ℕ) → IsAim config any_words (stopping config phase spot) []
  stopping_aim phase stop.Raise any_words = tt
  stopping_aim phase (stop.Check seat) any_words = tt
  stopping_aim phase stop.Stopped any_words = (refl, λ place index_below. absurd (omega (arith, index_below)), early config (first_extent config phase) 0 (omega arith))

  stopping_extent : (phase : ℕ) (spot : StopSpot) → IsOfExtent config phase (stopping config phase spot) []
  stopping_extent phase stop.Raise = tt
  stopping_extent phase (stop.Check seat) = tt
  stopping_extent phase stop.Stopped = sym (extent_none config phase)

  stopping_facts : (world : World) (phase : ℕ) (spot : StopSpot) → IsResting world (control_number config) × IsDue config world.memory → ControlFacts config world (control_number config) (stopping config phase spot)
  stopping_facts world phase stop.Raise facts = facts
  stopping_facts world phase (stop.Check seat) facts = facts
  stopping_facts world phase stop.Stopped facts = facts

  -- where it works on a unit, or has done so
  unit_spot : (spot : UnitSpot) → stored_image (after_unit spot) [] ≡ None
  unit_spot (Ended Worked) = refl
  unit_spot (Ended NoneLeft) = refl
  unit_spot _ = refl

  unit_aim : (spot : UnitSpot) (any_words : List ℕ) → IsAim config any_words (after_unit spot) []
  unit_aim (Ended Worked) any_words = tt
  unit_aim (Ended NoneLeft) any_words = tt
  unit_aim _ any_words = tt

  unit_extent : (phase : ℕ) (spot : UnitSpot) → IsOfExtent config phase (after_unit spot) []
  unit_extent phase (Ended Worked) = tt
  unit_extent phase (Ended NoneLeft) = tt
  unit_extent phase _ = tt

  unit_facts : (world : World) (spot : UnitSpot) → CanWork config world (control_number config) spot → ControlFacts config world (control_number config) (after_unit spot)
  unit_facts world (Ended Worked) can_work = can_work
  unit_facts world (Ended NoneLeft) can_work = can_work
  unit_facts world _ can_work = can_work

  -- What it owes that stands at a spot outside the image, and finds a word.
  module _ (change : Change) (seen phase cset hints : ℕ) (image : List ℕ) (whole_table : length words ≡ table_words config) (shared : Shared config world_then) (promised_to : PromisedToMutators config block) where
    abbrev at_spot : ControlSpot → Controlling
    at_spot spot = record { spot = spot; seen = seen; phase = phase; cset = cset; hints = hints; image = image }

    abbrev then_at : ControlSpot → ℕ → Controlling
    then_at spot got = control_next change config (at_spot spot) got

    abbrev pub Quiet : ControlSpot → ℕ → Type 0
    Quiet spot got = IsControl config words world_then (control_number config) (at_spot spot) → OwesAt (control_touch config spot) (then_at spot got)

    -- a step after which the table still counts
    step_owes : (access : Touch) (next : Controlling) → is_word config access.word ≡ true → PartStep config world_then (control_number config) access (IsControlAfter access next) → stored_image next.spot next.image ≡ None → OwesAt access next
    step_owes access next word_there step no_image =
        subst (λ memory. Owes config words (words_after config words access) world_then past (control_number config) machines memory [] (actor_at next)) (sym (ap (settled_by config (words_after config words access)) no_image ∙ view-placed config words access word_there whole_table))
        (quiet_owes config words None block ghost graph past (control_number config) machines access whole_table word_there (λ other held. absurd (cc (held))) (actor_at next) shared promised_to step
        (λ other_number actor differs actor_there known_machine control is_control. absurd (no_other_control config words world_then (of_thread past (other_number + 1)) other_number actor actor.machine differs known_machine control is_control)))

    -- it loads a word
    loads_word : (word : Word) (next : Controlling) → is_word config word ≡ true → IsControlAfter (touch word loads) next world_then → stored_image next.spot next.image ≡ None → OwesAt (touch word loads) next
    loads_word word next word_there control_stands no_image = step_owes (touch word loads) next word_there (load_step config world_then (control_number config) word (IsControlAfter (touch word loads) next) shared control_stands) no_image

    -- it stores into one of the handshake
    stores_word : (word : Word) (value : ℕ) (next : Controlling) → is_word config word ≡ true → is_of_handshake word ≡ true → ((seat : ℕ) → seat ≢ control_number config → write world_then.memory word value (State seat) ≡ world_then.memory (State seat))
        → Shared config (world_with world_then (write world_then.memory word value) world_then.graph) → IsControlAfter (touch word (stores value)) next (world_with world_then (write world_then.memory word value) world_then.graph) → stored_image next.spot next.image ≡ None
        → OwesAt (touch word (stores value)) next
    stores_word word value next word_there of_handshake states shared_after control_stands no_image =
        step_owes (touch word (stores value)) next word_there (store_step config world_then (control_number config) word value (IsControlAfter (touch word (stores value)) next) of_handshake states shared_after control_stands) no_image

    -- it looks how many mutators have not ended
    pub look_left : (got : ℕ) → Quiet LookLeft got
    look_left got known_control =
        loads_word Left (then_at LookLeft got) refl
        (record {
          number_is = refl;
          ready = stays_ready config phase cset seen 0 LookLeft got known_control.ready tt;
          phase_is = known_control.phase_is;
          set_is = known_control.set_is;
          facts = plain_facts world_then (got == 0) StoreEnd LookAsked (λ none_left. known_control.facts) (λ some_left. known_control.facts);
          aims = plain_aim (got == 0) StoreEnd LookAsked _ [] tt tt;
          extent_is = plain_extent (got == 0) StoreEnd LookAsked phase [] tt tt;
        })
        (plain_spot (got == 0) StoreEnd LookAsked [] refl refl)

    -- it stores that it has ended
    pub store_end : (got : ℕ) → Quiet StoreEnd got
    store_end got known_control =
        stores_word End 1 (then_at StoreEnd got) refl refl (λ k differs. refl) shared
        (record { number_is = refl; ready = stays_ready config phase cset seen 0 StoreEnd got known_control.ready tt; phase_is = known_control.phase_is; set_is = known_control.set_is; facts = known_control.facts; aims = tt; extent_is = tt }) refl

    -- while objects are marked or evacuated, or references updated, it claims a unit
    begins_facts : IsControl config words world_then (control_number config) (at_spot LookAsked) → (phase == idle_phase) ≡ false → CanWork config world_then (control_number config) (units.begins phase cset)
    begins_facts known_control in_phase = subst (λ any_set. CanWork config world_then (control_number config) (units.begins phase any_set)) (sym known_control.set_is)
        (work_begins config world_then (control_number config) shared phase (omega arith) (eqb-false _ _ in_phase) known_control.phase_is known_control.facts)

    -- in phases 2 and 3 a pause is asked for by bit 1 alone
    asked_late : (got : ℕ) → begins_pause phase got ≡ true → 2 ≤ phase → bit_at got 1 ≡ 1
    asked_late got pause_begins late = grind (arith, nat_tests)

    -- so it is due
    asks_due : (got : ℕ) → got ≡ world_then.memory Ask → phase ≡ world_then.memory Phase → begins_pause phase got ≡ true → IsDue config world_then.memory
    asks_due got ask_found same_phase pause_begins late quiet =
        absurd (let asks = subst (λ ask_bits. bit_at ask_bits 1 ≡ 1) ask_found (asked_late got pause_begins (omega (arith, late, same_phase))) in omega (arith, asks, quiet))

    -- it looks what is asked for
    pub look_asked : (got : ℕ) → got ≡ world_then.memory Ask → Quiet LookAsked got
    look_asked got ask_found known_control =
        loads_word Ask (then_at LookAsked got) refl
        (record {
          number_is = refl;
          ready = stays_ready config phase cset seen 0 LookAsked got known_control.ready tt;
          phase_is = known_control.phase_is;
          set_is = known_control.set_is;
          facts = plain_facts world_then (begins_pause phase got) (Stopping stop.Raise) (unasked phase cset) (λ is_so. (known_control.facts, asks_due got ask_found known_control.phase_is is_so))
              (λ not_so. plain_facts world_then (phase == idle_phase) LookFree (Working (units.begins phase cset)) (λ is_so. (known_control.facts, sym known_control.phase_is ∙ eqb-true _ _ is_so)) (λ in_phase. begins_facts known_control in_phase));
          aims = plain_aim (begins_pause phase got) (Stopping stop.Raise) (unasked phase cset) _ [] tt (plain_aim (phase == idle_phase) LookFree (Working (units.begins phase cset)) _ [] tt tt);
          extent_is = plain_extent (begins_pause phase got) (Stopping stop.Raise) (unasked phase cset) phase [] tt (plain_extent (phase == idle_phase) LookFree (Working (units.begins phase cset)) phase [] tt tt);
        })
        (plain_spot (begins_pause phase got) (Stopping stop.Raise) (unasked phase cset) [] refl (plain_spot (phase == idle_phase) LookFree (Working (units.begins phase cset)) [] refl refl))

    -- it looks how many regions are free
    pub look_free : (got : ℕ) → Quiet LookFree got
    look_free got known_control =
        loads_word Free (then_at LookFree got) refl
        (record {
          number_is = refl;
          ready = stays_ready config phase cset seen 0 LookFree got known_control.ready tt;
          phase_is = known_control.phase_is;
          set_is = known_control.set_is;
          facts = plain_facts world_then (wants_pause config seen got) (Stopping stop.Raise) LookLeft (λ is_wanted. (known_control.facts.0, early_due config world_then.memory (let no_phase = known_control.facts.1 in omega (arith, no_phase)))) (λ not_wanted. known_control.facts.0);
          aims = plain_aim (wants_pause config seen got) (Stopping stop.Raise) LookLeft _ [] tt tt;
          extent_is = plain_extent (wants_pause config seen got) (Stopping stop.Raise) LookLeft phase [] tt tt;
        })
        (plain_spot (wants_pause config seen got) (Stopping stop.Raise) LookLeft [] refl refl)

    -- it works on a unit
    pub work_unit : (spot : UnitSpot) → Quiet (Working spot) (view config words (units.touch_at config (control_number config) spot).word)
    work_unit spot known_control =
        let got : ℕ = view config words (units.touch_at config (control_number config) spot).word in
        let unit_ready = and_parts _ _ known_control.ready in
        let step = work_step config world_then (control_number config) shared spot unit_ready.0 (false_from_flip (units.is_ended spot) unit_ready.1) known_control.facts in
        step_owes (units.touch_at config (control_number config) spot) (then_at (Working spot) got) (is_word_from config _ (unit_inside config (control_number config) spot (omega arith) unit_ready.0))
        (step_with config world_then (control_number config) (units.touch_at config (control_number config) spot) _ _ step
        (record {
          number_is = refl;
          ready = stays_ready config phase cset seen 0 (Working spot) got known_control.ready (work_fits config world_then (control_number config) shared spot unit_ready.0 known_control.facts);
          phase_is = known_control.phase_is ∙ sym step.keeps.marks.phase;
          set_is = known_control.set_is ∙ sym step.keeps.copies.cset;
          facts = unit_facts step.world (units.next_at config spot got) step.own;
          aims = unit_aim (units.next_at config spot got) _;
          extent_is = unit_extent phase (units.next_at config spot got);
        }))
        (unit_spot (units.next_at config spot got))

    -- it wants a pause
    pub raise_pause : (got : ℕ) → Quiet (Stopping stop.Raise) got
    raise_pause got known_control =
        stores_word Pause 1 (then_at (Stopping stop.Raise) got) refl refl (λ k differs. refl) shared
        (record { number_is = refl; ready = stays_ready config phase cset seen 0 (Stopping stop.Raise) got known_control.ready tt; phase_is = known_control.phase_is; set_is = known_control.set_is; facts = known_control.facts; aims = tt; extent_is = tt }) refl

    -- it looks whether a seat is out
    pub check_seat : (seat got : ℕ) → Quiet (Stopping (stop.Check seat)) got
    check_seat seat got known_control =
        loads_word (State seat) (then_at (Stopping (stop.Check seat)) got) (and_parts _ _ (and_parts _ _ known_control.ready).0).0
        (record {
          number_is = refl;
          ready = stays_ready config phase cset seen 0 (Stopping (stop.Check seat)) got known_control.ready tt;
          phase_is = known_control.phase_is;
          set_is = known_control.set_is;
          facts = stopping_facts world_then phase (stop_next config (stop.Check seat) got) known_control.facts;
          aims = stopping_aim phase (stop_next config (stop.Check seat) got) _;
          extent_is = stopping_extent phase (stop_next config (stop.Check seat) got);
        })
        (stopping_spot phase (stop_next config (stop.Check seat) got))

    -- it lets the others go
    pub let_go : (got : ℕ) → Quiet Go got
    let_go got known_control =
        stores_word Pause 0 (then_at Go got) refl refl (λ k differs. refl) shared
        (record { number_is = refl; ready = stays_ready config phase cset seen 0 Go got known_control.ready tt; phase_is = known_control.phase_is; set_is = known_control.set_is; facts = known_control.facts; aims = tt; extent_is = tt }) refl
