-- A heap at rest: another one can begin from its words.
use Rattle.std.proofs.Common.{◌≡◌, ℕ, ◌+◌, ◌<◌, List, Option, Some, None, refl, sym, ap, ◌∙◌, subst}
use Rattle.std.specs.Prelude.{slice_get, slice_index}
use Rattle.heap_words.specs.declared.config.Config.{Config}
use Rattle.heap_words.specs.Words.{Word, view}
use Rattle.shen_graph.specs.Graph.{Graph}
use Rattle.heap_world.specs.Asking.{nothing}
use Rattle.heap_world.specs.Represents.{Represents}
use Rattle.heap_words.specs.Steps.{Stage}
use Rattle.heap_machines.specs.FromImage.{CanBeginFrom}
use Rattle.heap_machines.specs.Pause.{pause_image}
use Rattle.heap_machines.proofs.Pauses.{heap_pauses}
use Rattle.step_core.specs.Actor.{Machine, controlling, Actor}
use Rattle.step_core.specs.AtRest.{IsAtRest}
use Rattle.step_core.specs.Begins.{Run, ending, history_in, graph_after}
use Rattle.step_core.specs.Machines.{made_of_machine}
use Rattle.step_core.specs.Settled.{settled, settled_by, image_of, image_read, control_number}
use Rattle.step_core.specs.Sound.{IsSound}
use Rattle.step_core.proofs.Theorem.EveryList.{run_sound, run_rests}
use Rattle.heap_machines.specs.Reopened.{words_reopened, AreMadeBy}

module _ (config : Config) (run : Run config) (stage_rests : IsAtRest config (ending pause_image config run)) (counts : List ℕ) (counts_made : AreMadeBy config.mutators (ending pause_image config run) counts) where
  abbrev stage : Stage Actor
  stage = ending pause_image config run

  abbrev graph : Graph
  graph = graph_after pause_image config run

  sound : IsSound config run.graph stage (history_in pause_image config run)
  sound = run_sound pause_image heap_pauses config run

  -- no machine stores an image
  no_image : (actor : Actor) (machine : Machine) → slice_get stage.machines (control_number config) ≡ Some actor → actor.machine ≡ machine → image_read machine ≡ None
  no_image actor (controlling control) actor_there machine_is = stage_rests.no_image (control_number config) actor control actor_there machine_is
  no_image actor _ actor_there machine_is = refl

  is_calm : image_of (slice_get stage.machines (control_number config)) ≡ None
  is_calm = by_actor (slice_get stage.machines (control_number config)) refl
    where
      by_actor : (found : Option Actor) → slice_get stage.machines (control_number config) ≡ found → image_of found ≡ None
      by_actor None actor_there = refl
      by_actor (Some some_actor) actor_there = no_image some_actor some_actor.machine actor_there refl

  -- the words of the table count
  counted : settled config stage ≡ view config stage.words
  counted = ap (settled_by config stage.words) is_calm

  represents : Represents config (view config stage.words) graph (λ t. nothing)
  represents = subst (λ (memory : Word → ℕ). Represents config memory graph (λ t. nothing)) counted (run_rests pause_image heap_pauses config run.start run.graph run.begins run.events stage_rests)

  made_is : (mutator : ℕ) → mutator < config.mutators → graph.count (mutator + 1) ≡ slice_index counts mutator
  made_is mutator mutator_below =
      let mutator_there = sound.of_heap.mutators mutator mutator_below in
      let same_seat : mutator_there.mutator.seat ≡ mutator = (sound.of_heap.numbers mutator mutator_there.actor mutator_there.mutator mutator_there.here).0 in
      subst (λ (n : ℕ). graph.count (n + 1) ≡ mutator_there.mutator.made) same_seat (sound.stands.mutators mutator mutator_there.actor mutator_there.mutator mutator_there.here).made
      ∙ sym (counts_made.each mutator mutator_there.actor mutator_below mutator_there.here.here ∙ ap made_of_machine mutator_there.here.is)

  pub can_begin_again : CanBeginFrom config (words_reopened config (view config stage.words)) counts graph
  can_begin_again =
      let represented = represents in
      record {
        stands = record {
          block = represented.block;
          ghost = represented.ghost;
          shared = represented.shared;
          roots = represented.roots;
          usable = represented.usable;
          none = represented.none;
          uncarved = represented.uncarved;
          asked = represented.asked;
          heard = represented.heard;
          promised_to = represented.promised_to;
          unmarking = represented.unmarking;
          uncopying = represented.uncopying;
          no_more = represented.no_more;
          no_more_pins = represented.no_more_pins;
        };
        outside = record { pause = refl; states = λ seat seat_below. refl; left = refl };
        counts_are = made_is;
      }
