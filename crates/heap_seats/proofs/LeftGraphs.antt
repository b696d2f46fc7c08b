-- The graph that a heap was left with can be named anew, and its text placed.
use Rattle.std.proofs.lemmas.Bool.{and_parts}
use Rattle.std.proofs.Common.{◌≡◌, ◌≢◌, ◌<◌, ◌+◌, ℕ, Bool, true, false, List, length, refl, sym, ap, ◌∙◌, subst, arith}
use Rattle.std.specs.Prelude.{◌==◌, slice_index, slice_set}
use Rattle.std.proofs.lemmas.Bool.Decides.{nat_tests}
use Rattle.std.proofs.lemmas.List.{get_or-set_same, get_or-set_other}
use Rattle.std.proofs.Math.Logic.{∥∥₁_map}
use Rattle.std.proofs.lemmas.List.Elements.{All-weaker}
use Rattle.heap_words.specs.declared.config.Config.{Config}
use Rattle.shen_graph.specs.declared.order.Order.{Order}
use Rattle.shen_graph.specs.GraphText.{Text, names_of}
use Rattle.shen_graph.specs.History.{Entry}
use Rattle.shen_graph.specs.Valid as ranges
use Rattle.shen_graph.proofs.ValidLemmas.{is_valid-Decides}
use Rattle.heap_world.specs.Shows.{ShowsGraph}
use Rattle.heap_words.specs.Steps.{Stage, Event}
use Rattle.heap_machines.specs.Pause.{pause_image}
use Rattle.heap_machines.proofs.Pauses.{heap_pauses}
use Rattle.step_core.specs.Actor.{Actor}
use Rattle.step_core.specs.Begins.{Run, ending, history_in, graph_after}
use Rattle.step_core.specs.Threads.{IsSettled}
use Rattle.step_core.proofs.Theorem.EveryList.{run_sound}
use Rattle.graph_placing.specs.PlaceableText.{IsPlaceable}
use Rattle.graph_placing.specs.Renaming.{AreOfThreads}
use Rattle.graph_placing.specs.Renewable.{IsRenewable, IsEntryOf}
use Rattle.graph_placing.proofs.Renewables.{history_renewable}
use Rattle.graph_placing.proofs.ShownRenewable.{placeable, of_threads}
use Rattle.table_heap.proofs.Core.{run_from}
use Rattle.heap_seats.specs.Histories.{BeginsRenewable, led}
use Rattle.heap_seats.specs.RenewalStage.{IsLeftRenewable}
use Rattle.heap_seats.proofs.Merely.{placeable_merely, threads_merely}

entry_of : (threads : ℕ) (entry : Entry) → IsSettled threads entry → IsEntryOf threads entry
entry_of threads entry entry_settled = record {
  from_first = entry_settled.least;
  to_last = entry_settled.most;
  valid = (is_valid-Decides entry.command).0 ((and_parts (ranges.is_valid entry.command) _ entry_settled.valid).0);
}

pub left_renewable : (config : Config) (start left_stage : Stage Actor) (events : List (Event Order)) → led config start events ≡ left_stage → ∥ BeginsRenewable config start ∥₁ → ∥ IsLeftRenewable config left_stage ∥₁
left_renewable config start left_stage events ends some_beginning = ∥∥₁_map some_beginning (λ beginning.
    let run : Run config = run_from config start beginning.graph beginning.begins events in
    let sound_run = run_sound pause_image heap_pauses config run in
    let past_entries : List Entry = history_in pause_image config run in
    record {
      graph = graph_after pause_image config run;
      is_left = record { run = run; ends = ends; graph = refl };
      renewable = history_renewable config.mutators config.regions config.region_words beginning.graph past_entries sound_run.legal (All-weaker (IsSettled config.mutators) (IsEntryOf config.mutators) (entry_of config.mutators) past_entries sound_run.entries) beginning.renewable;
    })

module _ (config : Config) (left_stage : Stage Actor) (some_renewable : ∥ IsLeftRenewable config left_stage ∥₁) (text : Text) (shows : (run : Run config) → ending pause_image config run ≡ left_stage → ShowsGraph text config.mutators (graph_after pause_image config run)) where
  can : (left_renewable : IsLeftRenewable config left_stage) → IsRenewable config.mutators (graph_after pause_image config left_renewable.is_left.run)
  can left_renewable = subst (IsRenewable config.mutators) (sym left_renewable.is_left.graph) left_renewable.renewable

  pub left_placeable : IsPlaceable config text
  left_placeable = placeable_merely config text (∥∥₁_map some_renewable (λ left_renewable. placeable config text (graph_after pause_image config left_renewable.is_left.run) (can left_renewable) (shows left_renewable.is_left.run left_renewable.is_left.ends)))

  pub left_threads : AreOfThreads config.mutators (names_of text)
  left_threads = threads_merely config.mutators (names_of text) (∥∥₁_map some_renewable (λ left_renewable. of_threads config text (graph_after pause_image config left_renewable.is_left.run) (can left_renewable) (shows left_renewable.is_left.run left_renewable.is_left.ends)))

-- one mutator's count more is noted
pub noted_next : (counts : List ℕ) (made : ℕ → ℕ) (other_index count : ℕ) → other_index < length counts → count ≡ made other_index → ((index : ℕ) → index < other_index → slice_index counts index ≡ made index) → (index : ℕ) → index < other_index + 1 → slice_index (slice_set counts other_index count) index ≡ made index
noted_next counts made noted_index count index_within made_count so_far index index_below = by_number (index == noted_index) refl
  where
    by_number : (holds : Bool) → (index == noted_index) ≡ holds → slice_index (slice_set counts noted_index count) index ≡ made index
    by_number true is_noted =
        let same_index : index ≡ noted_index = grind (arith, nat_tests) in
        ap (slice_index (slice_set counts noted_index count)) same_index ∙ get_or-set_same counts noted_index count 0 index_within ∙ made_count ∙ ap made (sym same_index)
    by_number false is_other =
        let indices_differ : index ≢ noted_index = grind (arith, nat_tests) in
        get_or-set_other counts noted_index index count 0 indices_differ ∙ so_far index (grind (arith, nat_tests))
