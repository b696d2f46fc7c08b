-- A step in memory is an event of each run that leads to it.
use Rattle.std.proofs.Common.{◌≡◌, ℕ, true, List, Option, Some, None, refl, sym, ap, ◌∙◌, subst}
use Rattle.heap_machines.specs.Pause.{pause_image}
use Rattle.std.specs.Prelude.{slice_get, slice_set, slice_index}
use Rattle.std.specs.Option.{option_map}
use Rattle.std.proofs.lemmas.Option.{slice_get-map, same_Some}
use Rattle.std.proofs.lemmas.List.{map-set}
use Rattle.heap_words.specs.declared.config.Config.{Config}
use Rattle.heap_words.specs.Access.{table_index}
use Rattle.heap_words.specs.Steps.{Stage, IsEvent, accessed, moved, act, go}
use Rattle.heap_words.proofs.Runs.{go-step}
use Rattle.heap_words.proofs.Laws.{act-event}
use Rattle.shen_graph.specs.declared.command.Command.{Command}
use Rattle.shen_graph.specs.History.{Entry}
use Rattle.shen_graph.specs.declared.order.Order.{Order}
use Rattle.step_core.specs.Actor.{Machine, Actor}
use Rattle.step_core.specs.Machines.{takes_of, plan_of, machine_after, kind}
use Rattle.shen_core.specs.Runs.{WordsShow, event, IsOneEvent}

-- where a map of an option is a value, there is one before it
pub from_map : {A B : Type 0} (f : A → B) (found : Option A) (y : B) → option_map f found ≡ Some y → (x : A) × (found ≡ Some x) × (f x ≡ y)
from_map f None y image_there = cc
from_map f (Some x) y image_there = (x, refl, same_Some _ _ image_there)

-- the machine of a number, in a stage that memory shows
pub shown_actor : (words : List ℕ) (machines : List Machine) (stage : Stage Actor) (number : ℕ) (machine : Machine) → WordsShow words machines stage → slice_get machines number ≡ Some machine → (actor : Actor) × (slice_get stage.machines number ≡ Some actor) × (actor.machine ≡ machine)
shown_actor words machines stage number machine shows machine_there =
    from_map (λ actor. actor.machine) (slice_get stage.machines number) machine
    (sym (slice_get-map (λ actor. actor.machine) stage.machines number) ∙ ap (λ some_machines. slice_get some_machines number) shows.machines_are ∙ machine_there)

module _ (config : Config) (words : List ℕ) (machines : List Machine) (number : ℕ) (machine : Machine) (order : Order) where
  -- the word that its access finds
  abbrev found : ℕ
  found = slice_index words (table_index (plan_of config order machine))

  -- the words after its step
  abbrev pub stepped_words : List ℕ
  stepped_words = accessed (plan_of config order machine) words

  -- the machines after it
  abbrev pub stepped_machines : List Machine
  stepped_machines = slice_set machines number (machine_after pause_image config order found machine)

  -- the event, in a stage that memory shows
  pub shown_event : (stage : Stage Actor) → WordsShow words machines stage → slice_get machines number ≡ Some machine → takes_of machine order ≡ true → (actor : Actor) × IsEvent (kind pause_image config) stage (event number order) actor × (actor.machine ≡ machine)
  unfolding kind
  shown_event stage shows machine_there takes =
      let found_actor = shown_actor words machines stage number machine shows machine_there in
      (found_actor.0, record { here = found_actor.1; takes = ap (λ x. takes_of x order) found_actor.2 ∙ takes }, found_actor.2)

  -- memory shows the stage after its step
  moved_shows : (stage : Stage Actor) (command : Command) (calls : List Entry) → WordsShow words machines stage → WordsShow stepped_words stepped_machines (moved (kind pause_image config) stage number (record { machine = machine; command = command; calls = calls }) order)
  unfolding kind
  moved_shows stage command calls shows = record {
    words_are = ap (accessed (plan_of config order machine)) shows.words_are;
    machines_are = map-set (λ actor. actor.machine) stage.machines number _
        ∙ ap (λ some_machines. slice_set some_machines number (machine_after pause_image config order (slice_index stage.words (table_index (plan_of config order machine))) machine)) shows.machines_are
        ∙ ap (λ some_words. slice_set machines number (machine_after pause_image config order (slice_index some_words (table_index (plan_of config order machine))) machine)) shows.words_are;
  }

  -- so it does after its event
  pub shows_step : (stage : Stage Actor) → WordsShow words machines stage → slice_get machines number ≡ Some machine → takes_of machine order ≡ true → WordsShow stepped_words stepped_machines (act (kind pause_image config) stage (event number order))
  unfolding kind
  shows_step stage shows machine_there takes =
      let found_event = shown_event stage shows machine_there takes in
      subst (λ stage. WordsShow stepped_words stepped_machines stage) (sym (act-event (kind pause_image config) stage (event number order) found_event.0 found_event.1))
      (subst (λ next_stage. WordsShow stepped_words stepped_machines (moved (kind pause_image config) stage number (record { machine = next_stage; command = found_event.0.command; calls = found_event.0.calls }) order)) (sym found_event.2)
      (moved_shows stage found_event.0.command found_event.0.calls shows))

  -- the step is one event
  pub one_event : slice_get machines number ≡ Some machine → takes_of machine order ≡ true → IsOneEvent config words machines stepped_words stepped_machines number order
  one_event machine_there takes = record {
    is_event = λ stage shows. let found_event = shown_event stage shows machine_there takes in (found_event.0, found_event.1);
    acts = λ stage shows. shows_step stage shows machine_there takes;
    goes_on = λ start events shows.
        subst (λ stage. WordsShow stepped_words stepped_machines stage) (sym (go-step (kind pause_image config) start events (event number order)))
        (shows_step (go (kind pause_image config) start events) shows machine_there takes);
  }
