-- A heap of one mutator in which nobody does anything: another one can begin from its words, also once they were collected.
use Rattle.std.proofs.Common.{◌≡◌, ℕ, ◌+◌, ◌<◌, Bool, true, false, List, [], ◌∷◌, length, map, Option, Some, None, refl, sym, ap, ◌∙◌, subst, arith}
use Rattle.std.specs.Prelude.{slice_get, slice_index, slice_index_or, nat_lt, if◌then◌else◌}
use Rattle.std.specs.Option.{option_map}
use Rattle.std.proofs.lemmas.Option.{slice_get_within, slice_get-map, get_or_from_slice_get}
use Rattle.std.proofs.lemmas.Bool.Decides.{nat_tests}
use Rattle.heap_words.specs.declared.config.Config.{Config}
use Rattle.heap_words.specs.Ranges.{seat_count}
use Rattle.heap_words.specs.Words.{Word, Pause, Left, State, view, write}
use Rattle.heap_words.specs.Steps.{Stage}
use Rattle.shen_graph.specs.Graph.{Graph}
use Rattle.mutator.specs.declared.spot.Spot.{Spot}
use Rattle.mutator.specs.declared.spot.Spot.TheVariants.{Rest, Ended, Gone}
use Rattle.mutator.specs.Orders.{is_between_calls}
use Rattle.mutator.specs.Rows.{fresh_mutator}
use Rattle.handshake.specs.Standing.{is_within}
use Rattle.collector_rows.specs.ControlRows.{Controlling}
use Rattle.heap_world.specs.Asking.{Asking, nothing, IsAsked}
use Rattle.heap_world.specs.Change.{Answers}
use Rattle.heap_world.specs.Represents.{Represents}
use Rattle.image_graph.specs.Full.{full}
use Rattle.image_graph.specs.Holds.{HoldsSized}
use Rattle.cycle_pauses.proofs.Full.ByCopies.{by_copies}
use Rattle.cycle_pauses.proofs.Full.Pauses.{from_copies, representing_holds}
use Rattle.step_core.specs.Actor.{Machine, mutating, controlling, fresh_helper, fresh_control, Actor}
use Rattle.step_core.specs.AtRest.{IsAtRest}
use Rattle.step_core.specs.Opening.{first_free, opening_machine, opening}
use Rattle.step_core.specs.Begins.{Run, ending, history_in, graph_after}
use Rattle.step_core.specs.Machines.{is_resting, may_begin, made_of_machine, standing_of, HasNumber}
use Rattle.step_core.specs.Seats.{is_working}
use Rattle.step_core.specs.Standing.{standing_at}
use Rattle.step_core.specs.Settled.{settled, settled_by, image_of, image_read, control_number}
use Rattle.step_core.specs.Sound.{IsSound}
use Rattle.step_core.proofs.Theorem.EveryList.{run_sound, run_rests}
use Rattle.heap_machines.specs.Pause.{pause_image}
use Rattle.heap_machines.specs.Shown.{no_machine}
use Rattle.heap_machines.proofs.Pauses.{heap_pauses}
use Rattle.heap_machines.proofs.Openings.{first_actor, first_rests, first_free_to_begin, first_made}
use Rattle.shen_core.specs.Runs.{WordsShow}
use Rattle.heap_machines.specs.FromImage.{CanBeginFrom}

-- who rests is not in the heap
resting_outside : (machine : Machine) → is_resting machine ≡ true → is_within (standing_of machine) ≡ false
resting_outside (mutating machine) rest = by_spot machine.spot rest
  where
    by_spot : (spot : Spot) → is_between_calls spot ≡ true → is_within (standing_at spot) ≡ false
    by_spot Rest rest = refl
    by_spot (Ended reply) rest = refl
    by_spot Gone rest = refl
    by_spot _ rest = absurd cc
resting_outside _ rest = absurd cc

-- the graph of words that represent one, and how many objects the first thread has made in it
abbrev pub LeftGraph : Config → (Word → ℕ) → ℕ → Type 0
LeftGraph config memory made = (graph : Graph) × Represents config memory graph (λ t. nothing) × (graph.count 1 ≡ made)

module _ (config : Config) (words : List ℕ) (machines : List Machine) (free_word : ℕ) (one_mutator : config.mutators ≡ 1) (alone : config.helpers ≡ 0) (rest : is_resting (slice_index_or machines 0 no_machine) ≡ true)
    (control : slice_index_or machines 1 no_machine ≡ fresh_control free_word) (run : Run config) (shows : WordsShow words machines (ending pause_image config run)) where
  abbrev stage : Stage Actor
  stage = ending pause_image config run

  abbrev sound : IsSound config run.graph stage (history_in pause_image config run)
  sound = run_sound pause_image heap_pauses config run

  rests : (mutator : ℕ) → mutator < config.mutators → is_resting (slice_index_or machines mutator no_machine) ≡ true
  rests mutator mutator_below =
      let first_mutator : 0 ≡ mutator = omega (arith, mutator_below, one_mutator) in
      subst (λ (any_mutator : ℕ). is_resting (slice_index_or machines any_mutator no_machine) ≡ true) first_mutator rest

  last : 1 ≡ control_number config
  last = omega (arith, one_mutator, alone)

  its_control : slice_index_or machines (control_number config) no_machine ≡ fresh_control free_word
  its_control = subst (λ (number : ℕ). slice_index_or machines number no_machine ≡ fresh_control free_word) last control

  -- the machine of an actor
  machine_is : (number : ℕ) (actor : Actor) → slice_get stage.machines number ≡ Some actor → actor.machine ≡ slice_index_or machines number no_machine
  machine_is number actor actor_there =
      let machine_there : slice_get machines number ≡ Some actor.machine =
      ap (λ some_machines. slice_get some_machines number) (sym shows.machines_are) ∙ slice_get-map (λ asked_actor. asked_actor.machine) stage.machines number ∙ ap (option_map (λ asked_actor. asked_actor.machine)) actor_there in
      sym (get_or_from_slice_get machines number actor.machine no_machine machine_there)

  -- the control stores no image
  is_calm : image_of (slice_get stage.machines (control_number config)) ≡ None
  is_calm = by_actor (slice_get stage.machines (control_number config)) refl
    where
      by_actor : (found : Option Actor) → slice_get stage.machines (control_number config) ≡ found → image_of found ≡ None
      by_actor None control_there = refl
      by_actor (Some actor) control_there = ap image_read (machine_is (control_number config) actor control_there) ∙ ap image_read its_control

  -- the control is the one with which a heap begins
  control_is : (number : ℕ) (actor : Actor) (control : Controlling) → slice_get stage.machines number ≡ Some actor → actor.machine ≡ controlling control → controlling control ≡ fresh_control free_word
  control_is number actor control actor_there control_machine =
      let number_told : number ≡ config.mutators + config.helpers = subst (HasNumber config number) control_machine (sound.of_heap.roles number actor actor_there) in
      sym control_machine ∙ machine_is number actor actor_there ∙ ap (λ (n : ℕ). slice_index_or machines n no_machine) number_told ∙ its_control

  at_rest : IsAtRest config stage
  at_rest = record {
    calls = λ number actor own_mutator mutator. ap is_resting (sym mutator.is) ∙ ap is_resting (machine_is number actor mutator.here) ∙ rests number (sound.of_heap.numbers number actor own_mutator mutator).1;
    outside = λ number asked_actor actor_there not_control.
        let within : number < length stage.machines = slice_get_within stage.machines number asked_actor actor_there in
        let seats = sound.of_heap.machines in
        let number_below : number < config.mutators = omega (arith, within, seats, not_control) in
        resting_outside asked_actor.machine (ap is_resting (machine_is number asked_actor actor_there) ∙ rests number number_below);
    no_unit = λ number actor control actor_there control_machine. ap (λ (machine : Machine). works_of machine) (control_is number actor control actor_there control_machine);
    no_image = λ number actor control actor_there control_machine. ap image_read (control_is number actor control actor_there control_machine);
  }
    where
      works_of : Machine → Bool
      works_of (controlling control) = is_working control.spot
      works_of _ = false

  -- the words of the table count
  counts : settled config stage ≡ view config stage.words
  counts = ap (settled_by config stage.words) is_calm

  represents : Represents config (view config words) (graph_after pause_image config run) (λ t. nothing)
  represents = subst (λ (ws : List ℕ). Represents config (view config ws) (graph_after pause_image config run) (λ t. nothing)) shows.words_are
      (subst (λ (memory : Word → ℕ). Represents config memory (graph_after pause_image config run) (λ t. nothing)) counts (run_rests pause_image heap_pauses config run.start run.graph run.begins run.events at_rest))

  made : (graph_after pause_image config run).count 1 ≡ made_of_machine (slice_index_or machines 0 no_machine)
  made =
      let some_mutator : 0 < config.mutators = omega (arith, one_mutator) in
      let first_found = sound.of_heap.mutators 0 some_mutator in
      let seat : first_found.mutator.seat ≡ 0 = (sound.of_heap.numbers 0 first_found.actor first_found.mutator first_found.here).0 in
      subst (λ (n : ℕ). (graph_after pause_image config run).count (n + 1) ≡ first_found.mutator.made) seat (sound.stands.mutators 0 first_found.actor first_found.mutator first_found.here).made
      ∙ ap made_of_machine (sym first_found.here.is) ∙ ap made_of_machine (machine_is 0 first_found.actor first_found.here.here)

  pub left : LeftGraph config (view config words) (made_of_machine (slice_index_or machines 0 no_machine))
  left = (graph_after pause_image config run, represents, made)

-- a full collection leaves the graph
nothing_only : (asking : Asking) → Answers nothing asking → asking ≡ nothing
nothing_only nothing nothing_answered = refl
nothing_only _ nothing_answered = absurd nothing_answered

pub left_holds : (config : Config) (memory : Word → ℕ) (made : ℕ) → LeftGraph config memory made → HoldsSized config memory
left_holds config memory made left_graph = representing_holds config memory left_graph.0 (λ t. nothing) left_graph.1

pub left_collected : (config : Config) (memory : Word → ℕ) (made : ℕ) → LeftGraph config memory made → LeftGraph config (full config memory) made
left_collected config memory made left_graph =
    let paused = from_copies config memory left_graph.0 (λ mutator. nothing) (by_copies config memory left_graph.0 (λ mutator. nothing) left_graph.1) in
    let stands = paused.stands in (
      left_graph.0,
      record {
        block = stands.block;
        ghost = stands.ghost;
        shared = stands.shared;
        roots = stands.roots;
        usable = stands.usable;
        none = stands.none;
        uncarved = stands.uncarved;
        asked = λ mutator mutator_below. subst (IsAsked (full config memory) stands.block left_graph.0.count mutator) (nothing_only (paused.asked_then mutator) (paused.answers mutator mutator_below)) (stands.asked mutator mutator_below);
        heard = λ mutator refs nums mutator_below is_asked. absurd cc;
        promised_to = stands.promised_to;
        unmarking = stands.unmarking;
        uncopying = stands.uncopying;
        no_more = stands.no_more;
        no_more_pins = stands.no_more_pins;
      },
      left_graph.2,
    )

-- the words before those of the image are as they are before the first event
abbrev pub opened : (Word → ℕ) → Word → ℕ
opened memory = write (write (write memory Pause 0) (State 0) 0) Left 1

-- a heap can begin from the words then
pub left_can_begin : (config : Config) (memory : Word → ℕ) (made : ℕ) → config.mutators ≡ 1 → config.helpers ≡ 0 → (left_graph : LeftGraph config memory made) → CanBeginFrom config (opened memory) (made ∷ []) left_graph.0
left_can_begin config memory made one_mutator alone left_graph =
    let represented = left_graph.1 in
    record {
      stands = record {
        block = represented.block;
        ghost = represented.ghost;
        shared = represented.shared;
        roots = represented.roots;
        usable = represented.usable;
        none = represented.none;
        uncarved = represented.uncarved;
        asked = represented.asked;
        heard = represented.heard;
        promised_to = represented.promised_to;
        unmarking = represented.unmarking;
        uncopying = represented.uncopying;
        no_more = represented.no_more;
        no_more_pins = represented.no_more_pins;
      };
      outside = record {
        pause = refl;
        states = λ seat number_below. let number_zero : 0 ≡ seat = omega (arith, number_below, one_mutator, alone) in subst (λ (seat : ℕ). opened memory (State seat) ≡ 0) number_zero refl;
        left = sym one_mutator;
      };
      counts_are = λ mutator number_below. let number_zero : 0 ≡ mutator = omega (arith, number_below, one_mutator) in subst (λ (index : ℕ). left_graph.0.count (index + 1) ≡ slice_index (made ∷ []) index) number_zero left_graph.2;
    }

-- a machine of a heap before the first event
opened_machine : (config : Config) (machines : List Machine) (number : ℕ) → map (λ actor. actor.machine) (opening config).machines ≡ machines → number < seat_count config.mutators config.helpers
    → slice_index_or machines number no_machine ≡ opening_machine config number
opened_machine config machines number machines_told number_below =
    let machine_there : slice_get machines number ≡ Some (opening_machine config number) =
    ap (λ some_machines. slice_get some_machines number) (sym machines_told) ∙ slice_get-map (λ opened_actor. opened_actor.machine) (opening config).machines number ∙ ap (option_map (λ opened_actor. opened_actor.machine)) (first_actor config number number_below) in
    get_or_from_slice_get machines number (opening_machine config number) no_machine machine_there

module _ (config : Config) (machines : List Machine) (machines_told : map (λ actor. actor.machine) (opening config).machines ≡ machines) (one_mutator : config.mutators ≡ 1) (alone : config.helpers ≡ 0) where
  first_is : slice_index_or machines 0 no_machine ≡ opening_machine config 0
  first_is = opened_machine config machines 0 machines_told (omega arith)

  pub opened_rests : is_resting (slice_index_or machines 0 no_machine) ≡ true
  opened_rests = ap is_resting first_is ∙ first_rests config 0 (omega (arith, one_mutator))

  pub opened_begins : may_begin (slice_index_or machines 0 no_machine) ≡ true
  opened_begins = ap may_begin first_is ∙ first_free_to_begin config 0 (omega (arith, one_mutator))

  pub opened_made : made_of_machine (slice_index_or machines 0 no_machine) ≡ 0
  opened_made = ap made_of_machine first_is ∙ first_made config 0

  pub opened_control : slice_index_or machines 1 no_machine ≡ fresh_control (first_free config.regions)
  opened_control =
      let mutator : nat_lt 1 config.mutators ≡ false = grind (arith, nat_tests, one_mutator) in
      let helper : nat_lt 1 (config.mutators + config.helpers) ≡ false = grind (arith, nat_tests, one_mutator, alone) in
      opened_machine config machines 1 machines_told (omega (arith, one_mutator, alone))
      ∙ ap (λ (holds : Bool). if holds then mutating (fresh_mutator 1) else (if nat_lt 1 (config.mutators + config.helpers) then fresh_helper 1 else fresh_control (first_free config.regions))) mutator
      ∙ ap (λ (holds : Bool). if holds then fresh_helper 1 else fresh_control (first_free config.regions)) helper
