-- The words of a `Plain` between calls hold the graph of each run that leads to them.
use Rattle.std.proofs.Common.{◌≡◌, ℕ, ◌<◌, true, List, take, Option, Some, sym, ap, ◌∙◌, subst, None, refl}
use Rattle.heap_machines.specs.Pause.{pause_image}
use Rattle.std.specs.Prelude.{slice_get, slice_index_or}
use Rattle.std.specs.Option.{option_map}
use mathlib.Core.List.{is_set}
use Rattle.std.proofs.Math.Nat.{ℕ_set}
use Rattle.std.proofs.Math.Logic.{∥∥₁_map, ∥∥₁_elim}
use Rattle.std.proofs.lemmas.Option.{slice_get-map, get_or_from_slice_get}
use Rattle.heap_words.specs.declared.config.Config.{Config}
use Rattle.heap_words.specs.Words.{heap_in, roots_in, pins_in}
use Rattle.image_graph.specs.Left.{StandsForSome}
use Rattle.heap_world.specs.Shows.{WordsStand}
use Rattle.shen_graph.specs.declared.name.Name.{Name}
use Rattle.collector_rows.specs.declared.control_spot.ControlSpot.{ControlSpot}
use Rattle.collector_rows.specs.declared.control_spot.ControlSpot.TheVariants.{LoadWord, StoreWord}
use Rattle.collector_rows.specs.ControlRows.{Controlling}
use Rattle.heap_machines.specs.Image.{image_from, part_in, IsLoadedFrom}
use Rattle.heap_machines.specs.Roles.{CanShowBy, CanShow}
use Rattle.heap_machines.proofs.RestedGraph as standing
use Rattle.step_core.specs.Actor.{Machine, Actor}
use Rattle.heap_machines.specs.Shown.{no_machine}
use Rattle.step_core.specs.Begins.{Run, ending, graph_after}
use Rattle.step_core.specs.Settled.{image_read, image_of, control_number}
use Rattle.step_core.specs.Machines.{control_in, is_resting}
use Rattle.shen_core.specs.Runs.{WordsShow, IsShownBySomeRun}
use Rattle.shen_core.proofs.Events.{shown_actor}

-- that the control can work on words is one fact
loaded_is_prop : (config : Config) (table : List ℕ) (spot : ControlSpot) (image : List ℕ) → IsProp (IsLoadedFrom config table spot image)
loaded_is_prop config table (LoadWord index extent) image = is_set ℕ_set image (take index (part_in config extent table))
loaded_is_prop config table (StoreWord index extent) image = hlevel
loaded_is_prop config table _ image = hlevel

can_show_is_prop : (config : Config) (table : List ℕ) (machine : Machine) → IsProp (CanShow config table machine)
can_show_is_prop config table machine = by_control (control_in machine)
  where
    by_control : (found : Option Controlling) → IsProp (CanShowBy config table found)
    by_control None = hlevel
    by_control (Some shown_control) = loaded_is_prop config table shown_control.spot shown_control.image

module _ (config : Config) (words : List ℕ) (machines : List Machine) (mutators_rest : (number : ℕ) → number < config.mutators → is_resting (slice_index_or machines number no_machine) ≡ true)
    (no_image_read : image_read (slice_index_or machines (control_number config) no_machine) ≡ None) (run : Run config) (shows : WordsShow words machines (ending pause_image config run)) where
  -- the machine of an actor of the stage
  pub machine_of : (number : ℕ) (actor : Actor) → slice_get (ending pause_image config run).machines number ≡ Some actor → actor.machine ≡ slice_index_or machines number no_machine
  machine_of number actor actor_there =
      let machine_there : slice_get machines number ≡ Some actor.machine =
      ap (λ machine_list. slice_get machine_list number) (sym shows.machines_are) ∙ slice_get-map (λ some_actor. some_actor.machine) (ending pause_image config run).machines number ∙ ap (option_map (λ some_actor. some_actor.machine)) actor_there in
      sym (get_or_from_slice_get machines number actor.machine no_machine machine_there)

  -- the mutators of the stage rest
  pub at_rest : (mutator : ℕ) (actor : Actor) → mutator < config.mutators → slice_get (ending pause_image config run).machines mutator ≡ Some actor → is_resting actor.machine ≡ true
  at_rest mutator actor mutator_below actor_there = ap is_resting (machine_of mutator actor actor_there) ∙ mutators_rest mutator mutator_below

  -- and its control stores no image
  pub is_calm : image_of (slice_get (ending pause_image config run).machines (control_number config)) ≡ None
  is_calm = by_actor (slice_get (ending pause_image config run).machines (control_number config)) refl
    where
      by_actor : (found : Option Actor) → slice_get (ending pause_image config run).machines (control_number config) ≡ found → image_of found ≡ None
      by_actor None found_there = refl
      by_actor (Some actor) found_there = ap image_read (machine_of (control_number config) actor found_there) ∙ no_image_read

  -- the control can work on the words of the image
  pub can_show : (machine : Machine) → slice_get machines (control_number config) ≡ Some machine → CanShow config (image_from config words) machine
  can_show machine machine_there =
      let found_actor = shown_actor words machines (ending pause_image config run) (control_number config) machine shows machine_there in
      subst (λ word_list. CanShow config (image_from config word_list) machine) shows.words_are (subst (CanShow config (image_from config (ending pause_image config run).words)) found_actor.2 (standing.can_show config run at_rest is_calm found_actor.0 found_actor.1))

  -- they stand for the graph after the run
  abbrev pub names : ℕ → Option Name
  names = standing.names config run at_rest is_calm

  pub stand : WordsStand config.region_words (heap_in config words) (roots_in config words) (pins_in config words) names (graph_after pause_image config run)
  stand = subst (λ word_list. WordsStand config.region_words (heap_in config word_list) (roots_in config word_list) (pins_in config word_list) names (graph_after pause_image config run)) shows.words_are (standing.words_stand config run at_rest is_calm)

-- so it is of those that led to the words
module _ (config : Config) (words : List ℕ) (machines : List Machine) (mutators_rest : (number : ℕ) → number < config.mutators → is_resting (slice_index_or machines number no_machine) ≡ true)
    (no_image_read : image_read (slice_index_or machines (control_number config) no_machine) ≡ None) (shown_by_run : ∥ IsShownBySomeRun config words machines ∥₁) where
  pub some_can_show : (machine : Machine) → slice_get machines (control_number config) ≡ Some machine → CanShow config (image_from config words) machine
  some_can_show machine machine_there = ∥∥₁_elim shown_by_run (can_show_is_prop config (image_from config words) machine) (λ shown. can_show config words machines mutators_rest no_image_read shown.run shown.shows machine machine_there)

  pub some_stand : StandsForSome config words
  some_stand = ∥∥₁_map shown_by_run (λ shown. (names config words machines mutators_rest no_image_read shown.run shown.shows, (graph_after pause_image config shown.run, stand config words machines mutators_rest no_image_read shown.run shown.shows)))
