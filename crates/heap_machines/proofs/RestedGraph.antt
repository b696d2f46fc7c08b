-- Where a run has led to a stage whose mutators rest and whose control stores no image: its words stand for the graph after the run, and the entries of each
-- thread are its calls.
use Rattle.std.proofs.Common.{None, ◌≡◌, ℕ, ◌+◌, ◌<◌, true, List, length, take, Option, Some, refl, sym, ap, ◌∙◌, subst, arith, length-take, length-drop}
use Rattle.std.proofs.lemmas.Bool.{ltb-true}
use Rattle.std.proofs.lemmas.Grind.{same_number_lists}
use Rattle.std.proofs.lemmas.List.{append-nil, get_or-take, get_or-drop}
use Rattle.std.specs.Prelude.{slice_get, ◌++◌, if◌then◌else◌}
use Rattle.heap_words.specs.declared.config.Config.{Config}
use Rattle.heap_words.specs.Words.{Word, Root, view, heap_in, roots_in, pins_in, image_start}
use Rattle.shen_graph.specs.declared.name.Name.{Name}
use Rattle.shen_graph.specs.declared.command.Reply.{Reply}
use Rattle.shen_graph.specs.Graph.{Graph}
use Rattle.shen_graph.specs.History.{of_thread}
use Rattle.mutator.specs.declared.spot.Kept.{Kept}
use Rattle.mutator.specs.declared.spot.Spot.{Spot}
use Rattle.mutator.specs.declared.spot.Spot.TheVariants.{Rest, Ended, Gone}
use Rattle.mutator.specs.Orders.{is_between_calls}
use Rattle.mutator.specs.Rows.{Mutating}
use Rattle.heap_world.specs.World.{World, Shared, name_at, Points}
use Rattle.heap_world.specs.Change.{image_words}
use Rattle.collector_rows.specs.declared.control_spot.ControlSpot.{ControlSpot}
use Rattle.collector_rows.specs.declared.control_spot.ControlSpot.TheVariants.{LoadWord, StoreWord}
use Rattle.collector_rows.specs.ControlReady.{is_ready}
use Rattle.collector_rows.specs.Extent.{is_of_extent}
use Rattle.control.specs.Image.{image_from, part_in, IsLoadedFrom}
use Rattle.control.proofs.PartShown.{part_long, part_reads}
use Rattle.heap_machines.specs.Roles.{CanShow}
use Rattle.heap_world.specs.Shows.{WordsStand}
use Rattle.heap_world.proofs.Tables.{table_stands}
use Rattle.step_core.specs.Actor.{Machine, mutating, Actor, entries_of}
use Rattle.step_core.specs.Own.{root_now}
use Rattle.step_core.specs.Machines.{is_resting}
use Rattle.step_core.specs.Settled.{settled, settled_by, stored_image, image_read, image_of, control_number}
use Rattle.step_core.specs.Sound.{world_of, IsSound}
use Rattle.step_core.specs.Begins.{Run, ending, history_in, graph_after}
use Rattle.heap_machines.specs.Pause.{pause_image}
use Rattle.heap_machines.proofs.Pauses.{heap_pauses}
use Rattle.step_core.proofs.Machines.Owed.{IsAim}
use Rattle.step_core.proofs.Machines.Roles.{control_of}
use Rattle.step_core.proofs.Theorem.EveryList.{run_sound, run_aims}

-- a machine that rests is a mutator between two calls
rest_parts : (machine : Machine) → is_resting machine ≡ true → (mutator : Mutating) × (machine ≡ mutating mutator) × (is_between_calls mutator.spot ≡ true)
rest_parts (mutating mutator) machine_rests = (mutator, refl, machine_rests)
rest_parts _ machine_rests = absurd cc

-- between two calls the root's word counts
root_between_calls : (world : World) (seat index : ℕ) (kept : Kept) (spot : Spot) → is_between_calls spot ≡ true → root_now world seat kept spot index ≡ world.memory (Root seat index)
root_between_calls world seat index kept Rest spot_rests = refl
root_between_calls world seat index kept (Ended reply) spot_rests = refl
root_between_calls world seat index kept Gone spot_rests = refl
root_between_calls world seat index kept _ spot_rests = absurd cc

-- its entries are its calls
pub entries_at_rest : (config : Config) (run : Run config) (seat : ℕ) (actor : Actor) → slice_get (ending pause_image config run).machines seat ≡ Some actor → is_resting actor.machine ≡ true → of_thread (history_in pause_image config run) (seat + 1) ≡ actor.calls
entries_at_rest config run seat actor actor_there machine_rests =
    let rest_facts = rest_parts actor.machine machine_rests in
    let thread = (run_sound pause_image heap_pauses config run).threads seat actor rest_facts.0 (record { here = actor_there; is = rest_facts.1 }) in
    thread.entries_are ∙ ap (λ (found : Option Reply). actor.calls ++ entries_of seat actor.command found) (thread.between_calls rest_facts.2) ∙ append-nil actor.calls

module _ (config : Config) (run : Run config) (mutators_rest : (any_seat : ℕ) (any_actor : Actor) → any_seat < config.mutators → slice_get (ending pause_image config run).machines any_seat ≡ Some any_actor → is_resting any_actor.machine ≡ true)
    (no_image : image_of (slice_get (ending pause_image config run).machines (control_number config)) ≡ None) where
  -- what holds of the stage
  abbrev sound : IsSound config run.graph (ending pause_image config run) (history_in pause_image config run)
  sound = run_sound pause_image heap_pauses config run

  -- the graph
  abbrev graph : Graph
  graph = graph_after pause_image config run

  -- the names of the objects by their addresses
  abbrev pub names : ℕ → Option Name
  names address = name_at (sound.stands.block address)

  -- the words of the table count
  table_counts : settled config (ending pause_image config run) ≡ view config (ending pause_image config run).words
  table_counts = ap (settled_by config (ending pause_image config run).words) no_image

  -- the words of the roots of a mutator stand for its thread's
  own_roots : (mutator index : ℕ) → mutator < config.mutators → index < 16 → Points sound.stands.block (settled config (ending pause_image config run) (Root mutator index)) (graph.root (mutator + 1) index)
  own_roots mutator index mutator_below index_small =
      let mutator_found = sound.of_heap.mutators mutator mutator_below in
      let its_state = mutator_found.mutator in
      let same_seat : its_state.seat ≡ mutator = (sound.of_heap.numbers mutator mutator_found.actor its_state mutator_found.here).0 in
      let at_rest : is_between_calls its_state.spot ≡ true = subst (λ machine. is_resting machine ≡ true) mutator_found.here.is (mutators_rest mutator mutator_found.actor mutator_below mutator_found.here.here) in
      let world : World = world_of config (ending pause_image config run) sound.stands.block sound.stands.ghost graph in
      subst (λ mutator. Points sound.stands.block (settled config (ending pause_image config run) (Root mutator index)) (graph.root (mutator + 1) index)) same_seat
      (subst (λ word. Points sound.stands.block word (graph.root (its_state.seat + 1) index)) (root_between_calls world its_state.seat index its_state.kept its_state.spot at_rest)
      ((sound.stands.mutators mutator mutator_found.actor its_state mutator_found.here).roots index index_small))

  -- the words stand for the graph after the run
  pub words_stand : WordsStand config.region_words (heap_in config (ending pause_image config run).words) (roots_in config (ending pause_image config run).words) (pins_in config (ending pause_image config run).words) names graph
  words_stand = table_stands config (ending pause_image config run).words sound.stands.block sound.stands.ghost graph sound.of_heap.words
      (subst (λ (memory : Word → ℕ). Shared config (record { memory = memory; block = sound.stands.block; ghost = sound.stands.ghost; graph = graph })) table_counts sound.stands.shared)
      (λ mutator index mutator_below small. subst (λ (memory : Word → ℕ). Points sound.stands.block (memory (Root mutator index)) (graph.root (mutator + 1) index)) table_counts (own_roots mutator index mutator_below small))
      sound.no_more sound.no_more_pins

  -- the words of the image, as the table has them
  abbrev image : List ℕ
  image = image_from config (ending pause_image config run).words

  -- what the control has loaded are words of the image
  loaded_by : (spot : ControlSpot) (loaded_words : List ℕ) → stored_image spot loaded_words ≡ None → is_ready config spot ≡ true → IsAim config (ending pause_image config run).words spot loaded_words → IsLoadedFrom config image spot loaded_words
  loaded_by (LoadWord index extent) loaded_words stored spot_ready aims =
      let index_below : index < image_words config = ltb-true index (image_words config) spot_ready in
      let part_length : length (part_in config extent image) ≡ image_words config = part_long config extent image ∙ omega (arith, length-drop (image_start config) (ending pause_image config run).words, sound.of_heap.words) in
      let taken_length : length (take index (part_in config extent image)) ≡ index = omega (arith, length-take index (part_in config extent image), part_length, index_below) in
      same_number_lists loaded_words (take index (part_in config extent image)) (aims.0 ∙ sym taken_length) (λ place place_below.
      let place_inside : place < index = omega (arith, place_below, aims.0) in
      aims.1 place place_inside ∙ ap (λ word. if is_of_extent config extent place then word else 0) (sym (get_or-drop (image_start config) (ending pause_image config run).words place 0))
      ∙ sym (get_or-take index (part_in config extent image) place 0 place_inside ∙ part_reads config extent image place))
  loaded_by (StoreWord index extent) loaded_words stored spot_ready aims = absurd cc
  loaded_by _ loaded_words stored spot_ready aims = tt

  -- the control can work on them
  pub can_show : (actor : Actor) → slice_get (ending pause_image config run).machines (control_number config) ≡ Some actor → CanShow config image actor.machine
  can_show actor actor_there =
      let role = control_of config (control_number config) actor.machine (sound.of_heap.roles (control_number config) actor actor_there) refl in
      let its_control = role.0 in
      let aims = run_aims pause_image heap_pauses config run.start run.graph run.begins run.events (control_number config) actor its_control actor_there role.1 in
      subst (λ machine. CanShow config image machine) (sym role.1) (loaded_by its_control.spot its_control.image (ap image_read (sym role.1) ∙ ap image_of (sym actor_there) ∙ no_image) aims.0 aims.1)
