-- The words of a stage whose mutators rest stand for the graph of each run that leads to it.
use Rattle.std.proofs.Common.{◌≡◌, ℕ, ◌<◌, true, Option, None, Some, sym, ap, ◌∙◌, subst}
use Rattle.std.specs.Prelude.{slice_get}
use Rattle.std.proofs.Math.Logic.{∥∥₁_map, ∥∥₁_elim}
use Rattle.heap_words.specs.declared.config.Config.{Config}
use Rattle.heap_words.specs.Words.{heap_in, roots_in, pins_in}
use Rattle.shen_graph.specs.declared.name.Name.{Name}
use Rattle.shen_graph.specs.Graph.{Graph}
use Rattle.heap_words.specs.Steps.{Stage, IsReached}
use Rattle.heap_world.specs.Shows.{WordsStand, StandForSome}
use Rattle.heap_machines.specs.Pause.{pause_image}
use Rattle.step_core.specs.Actor.{Actor}
use Rattle.step_core.specs.Begins.{Run, Begins, ending, graph_after}
use Rattle.step_core.specs.Machines.{is_resting}
use Rattle.step_core.specs.Settled.{image_of, control_number}
use Rattle.heap_machines.proofs.RestedGraph as standing
use Rattle.table_heap.specs.declared.key.HeapKey.{HeapKey}
use Rattle.table_heap.specs.Core.{heap_kind, start_of_key}
use Rattle.table_heap.proofs.Core.{run_from}

module _ (config : Config) (stage : Stage Actor) (mutators_rest : (thread : ℕ) (given_actor : Actor) → thread < config.mutators → slice_get stage.machines thread ≡ Some given_actor → is_resting given_actor.machine ≡ true) (no_image : image_of (slice_get stage.machines (control_number config)) ≡ None) where
  module _ (run : Run config) (ends : ending pause_image config run ≡ stage) where
    pub at_rest : (mutator : ℕ) (actor : Actor) → mutator < config.mutators → slice_get (ending pause_image config run).machines mutator ≡ Some actor → is_resting actor.machine ≡ true
    at_rest mutator actor mutator_below actor_there = mutators_rest mutator actor mutator_below (ap (λ x. slice_get x.machines mutator) (sym ends) ∙ actor_there)

    pub is_calm : image_of (slice_get (ending pause_image config run).machines (control_number config)) ≡ None
    is_calm = ap (λ stage_now. image_of (slice_get stage_now.machines (control_number config))) ends ∙ no_image

    -- the names of the objects by their addresses
    abbrev pub names : ℕ → Option Name
    names = standing.names config run at_rest is_calm

    pub words_stand : WordsStand config.region_words (heap_in config stage.words) (roots_in config stage.words) (pins_in config stage.words) names (graph_after pause_image config run)
    words_stand = subst (λ stage_now. WordsStand config.region_words (heap_in config stage_now.words) (roots_in config stage_now.words) (pins_in config stage_now.words) names (graph_after pause_image config run)) ends (standing.words_stand config run at_rest is_calm)

  -- so they do for the graph of those events that led there
  module _ (key : HeapKey) (sizes : key.config ≡ config) where
    one_stands : (graph : Graph) → Begins key.config (start_of_key key) graph → IsReached (heap_kind config) (start_of_key key) stage → (name_at : ℕ → Option Name) × ((other_graph : Graph) × WordsStand config.region_words (heap_in config stage.words) (roots_in config stage.words) (pins_in config stage.words) name_at other_graph)
    one_stands graph begins reached =
        let run : Run config = run_from config (start_of_key key) graph (subst (λ (config : Config). Begins config (start_of_key key) graph) sizes begins) reached.events in
        (names run reached.ends, (graph_after pause_image config run, words_stand run reached.ends))

    pub some_stand : ∥ IsReached (heap_kind config) (start_of_key key) stage ∥₁ → StandForSome config.region_words (heap_in config stage.words) (roots_in config stage.words) (pins_in config stage.words)
    some_stand some_reached = ∥∥₁_elim {P = StandForSome config.region_words (heap_in config stage.words) (roots_in config stage.words) (pins_in config stage.words)} key.begins (hlevel) (λ begun. ∥∥₁_map some_reached (one_stands begun.0 begun.1))
