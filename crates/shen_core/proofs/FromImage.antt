-- Heaps that begin from the words of an image.
use Rattle.std.proofs.Common.{◌≡◌, ℕ, ◌<◌, List, [], length, map, refl, sym, ap, ◌∙◌, subst, arith}
use Rattle.std.specs.Prelude.{slice_index, slice_index_or, All}
use Rattle.std.specs.List.{range_with_len}
use Rattle.std.proofs.Math.Logic.{∥∥₁_map}
use Rattle.std.proofs.lemmas.List.FromFn.{get_or-map-range_with_len}
use Rattle.heap_words.specs.declared.config.Config.{Config}
use Rattle.heap_words.specs.Ranges.{seat_count}
use Rattle.heap_words.specs.Words.{view, table_words}
use Rattle.shen_graph.specs.declared.order.Order.{Order}
use Rattle.shen_graph.specs.declared.order.Order.TheVariants.{Nothing}
use Rattle.heap_words.specs.Steps.{Stage}
use Rattle.heap_words.proofs.Runs.{go-none}
use Rattle.shen_graph.specs.Graph.{Graph}
use Rattle.mutator.specs.Rows.{mutator_after}
use Rattle.heap_machines.specs.Pause.{pause_image}
use Rattle.step_core.specs.Actor.{mutating, fresh_helper, Actor}
use Rattle.heap_machines.specs.Shown.{no_machine, shown}
use Rattle.step_core.specs.Actor as actors
use Rattle.step_core.specs.Machines.{kind}
use Rattle.heap_machines.specs.declared.machine.Machine.{Machine}
use Rattle.shen_core.specs.declared.plain.Plain.{Plain}
use Rattle.shen_core.specs.State.{words_of, machines_of, orders_of}
use Rattle.shen_core.specs.Runs.{WordsShow, IsShownBySomeRun}
use Rattle.heap_machines.specs.FromImage.{machine_from, stage_from, CanBeginFrom}
use Rattle.heap_machines.proofs.FromImages.{mutator_is, stage_machines, begins_from}

-- memory shows the stage
pub shows_from : (config : Config) (words counts held_words : List ℕ) (machines : List Machine) → held_words ≡ words → map shown machines ≡ map (machine_from config counts (view config words)) (range_with_len 0 (seat_count config.mutators config.helpers))
    → WordsShow held_words (map shown machines) (stage_from config words counts)
unfolding stage_from
shows_from config words counts held_words machines words_are machines_are = record { words_are = sym words_are; machines_are = stage_machines config words counts ∙ sym machines_are }

-- so some run has led there, of no event
pub shown_from : (config : Config) (words counts held_words : List ℕ) (machines : List actors.Machine) → length words ≡ table_words config → WordsShow held_words machines (stage_from config words counts) → ∥ ((graph : Graph) × CanBeginFrom config (view config words) counts graph) ∥₁
    → ∥ IsShownBySomeRun config held_words machines ∥₁
shown_from config words counts held_words machines table_long shows some_graph = ∥∥₁_map some_graph (λ can_begin. record {
  run = record { start = stage_from config words counts; graph = can_begin.0; begins = begins_from config words counts table_long can_begin.0 can_begin.1; events = [] };
  shows = subst (λ stage. WordsShow held_words machines stage) (sym (go-none (kind pause_image config) (stage_from config words counts))) shows;
})

-- what is known of a heap of words and machines
pub opened_shows : (plain : Plain) (words : List ℕ) (machines : List actors.Machine) (stage : Stage Actor) → words_of plain ≡ words → machines_of plain ≡ machines → WordsShow words machines stage → WordsShow (words_of plain) (machines_of plain) stage
opened_shows plain words machines stage words_are machines_are shows = record { words_are = shows.words_are ∙ sym words_are; machines_are = shows.machines_are ∙ sym machines_are }

pub opened_orders : (plain : Plain) (orders : List Order) → orders_of plain ≡ orders → All (λ order. order ≡ Nothing) orders → All (λ order. order ≡ Nothing) (orders_of plain)
opened_orders plain orders orders_told no_orders = subst (λ some_orders. All (λ order. order ≡ Nothing) some_orders) (sym orders_told) no_orders

-- the first machine, where there is a mutator: it is one of a thread that has made so many objects
pub first_from : (config : Config) (words counts : List ℕ) (machines : List actors.Machine) → map (λ actor. actor.machine) (stage_from config words counts).machines ≡ machines → 0 < config.mutators
    → slice_index_or machines 0 no_machine ≡ mutating (mutator_after 0 (slice_index counts 0))
first_from config words counts machines machines_told some_mutator =
    let machines_made = machine_from config counts (view config words) in
    ap (λ some_machines. slice_index_or some_machines 0 no_machine) (sym machines_told ∙ stage_machines config words counts)
    ∙ get_or-map-range_with_len machines_made 0 (seat_count config.mutators config.helpers) 0 0 no_machine (omega arith) refl
    ∙ sym (mutator_is config counts (view config words) 0 some_mutator)
