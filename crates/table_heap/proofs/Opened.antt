-- A heap before its first event, and its machines as they are dealt to bundles.
use Rattle.std.proofs.Common.{◌≡◌, ℕ, zero, suc, ◌+◌, ◌-◌, Bool, true, false, not, List, [], ◌∷◌, length, map, All, Option, Some, None, refl, sym, ap, ◌∙◌, subst, arith}
use Rattle.std.specs.Prelude.{slice_get, if◌then◌else◌}
use Rattle.std.specs.Option.{option_map}
use Rattle.std.specs.List.{range_with_len}
use Rattle.std.proofs.Math.Logic.{∥∥₁_map}
use Rattle.std.proofs.lemmas.Bool.Decides.{nat_tests}
use Rattle.std.proofs.lemmas.List.{length-map}
use Rattle.std.proofs.lemmas.Option.{slice_get-map, slice_get_within, get_or_from_slice_get}
use Rattle.heap_words.specs.declared.config.Config.{Config}
use Rattle.heap_words.specs.Ranges.{seat_count}
use Rattle.shared_table.specs.Views.{View, machine_of, whole, machines_picked, machines_left, dealt_to, is_dealt_to, is_dealt_below, kept_in_view}
use Rattle.shared_table.specs.Counted.{at_start, steps_in_view}
use Rattle.shared_table.proofs.Closing.{length-whole}
use Rattle.shared_table.proofs.Dealing.{picked_twice, picked_all}
use Rattle.shared_table.proofs.Kept.{kept-whole}
use Rattle.shared_table.proofs.ViewsShow.{machine_of-whole, machine_of-picked}
use Rattle.heap_machines.specs.declared.machine.Machine.{Machine}
use Rattle.heap_machines.specs.Shown.{shown, order_of, config_of as machine_config}
use Rattle.shen_graph.specs.declared.order.Order.{Order}
use Rattle.shen_graph.specs.declared.order.Order.TheVariants.{Nothing}
use Rattle.heap_machines.specs.Roles.{is_mutating}
use Rattle.heap_machines.specs.FromImage.{CanBeginFrom, machine_from, stage_from}
use Rattle.heap_machines.proofs.FromImages.{begins_from, stage_machines, stage_words}
use Rattle.image_graph.specs.State as images
use Rattle.image_graph.specs.declared.image.Image.{Image}
use Rattle.shen_graph.specs.Graph.{Graph}
use Rattle.heap_words.specs.Steps.{Stage, IsReached}
use Rattle.step_core.specs.Actor.{Actor}
use Rattle.step_core.specs.Begins.{Begins}
use Rattle.table_heap.specs.declared.key.HeapKey.{HeapKey}
use Rattle.table_heap.specs.declared.left.Left.{Left}
use Rattle.table_heap.specs.Start.{start_from}
use Rattle.table_heap.specs.Core.{heap_kind, heap_opening, start_of_key, machine_in}
use Rattle.table_heap.specs.State.{config_of, start_of_heap}
use Rattle.table_heap.specs.declared.heap.Heap.{Heap}
use Rattle.table_heap.specs.Known.{AreOfHeap, AreMachinesOfStage}
use Rattle.table_heap.proofs.Core.{start_count, start_role}

module _ (key : HeapKey) (machines : List Machine) (are_machines : AreMachinesOfStage key.config machines (start_of_key key)) where
  pub opened_count : length (whole machines) ≡ seat_count key.config.mutators key.config.helpers
  opened_count = length-whole machines ∙ sym (length-map machines shown) ∙ ap length are_machines.machines ∙ length-map (start_of_key key).machines machine_in ∙ start_count key

  -- memory has the machines with which the heap begins
  pub opened_kept : kept_in_view machine_in (whole (start_of_key key).machines) ≡ kept_in_view shown (whole machines)
  opened_kept = kept-whole machine_in (start_of_key key).machines ∙ ap whole (sym are_machines.machines) ∙ sym (kept-whole shown machines)

  actor_there : (found : Option Actor) (machine : Machine) → option_map machine_in found ≡ Some (shown machine) → (actor : Actor) × (found ≡ Some actor) × (machine_in actor ≡ shown machine)
  actor_there None machine shown_is = absurd (cc)
  actor_there (Some actor) machine shown_is = let same_shown : machine_in actor ≡ shown machine = cc in (actor, refl, same_shown)

  -- which are of the heap
  pub opened_of_heap : AreOfHeap key.config (whole machines)
  opened_of_heap number listed_machine machine_there =
      let listed_here : slice_get machines number ≡ Some listed_machine = sym (machine_of-whole machines number) ∙ machine_there in
      let number_within = slice_get_within machines number listed_machine listed_here in
      let shows : slice_get (map machine_in (start_of_key key).machines) number ≡ Some (shown listed_machine) =
      ap (λ xs. slice_get xs number) (sym are_machines.machines) ∙ slice_get-map shown machines number ∙ ap (option_map shown) listed_here in
      let actor_found = actor_there (slice_get (start_of_key key).machines number) listed_machine (sym (slice_get-map machine_in (start_of_key key).machines number) ∙ shows) in
      record {
        heap = sym (ap machine_config (get_or_from_slice_get machines number listed_machine listed_machine listed_here)) ∙ are_machines.heap number listed_machine number_within;
        role = ap is_mutating (sym actor_found.2) ∙ start_role key number actor_found.0 actor_found.1;
      }

-- What was left of a heap: the words of an image, and how many objects each thread has made.
module _ (config : Config) (left : Left) (image : Image) (counts : List ℕ) (sizes : config ≡ images.config_of image) (same_words : left.words.value.items ≡ images.words_of image) (same_counts : left.counts.value.items ≡ counts) where
  -- where a heap of that begins
  pub left_start : start_from config (Some left) ≡ stage_from (images.config_of image) (images.words_of image) counts
  left_start =
      ap (λ (config : Config). stage_from config left.words.value.items left.counts.value.items) sizes ∙ ap (λ (xs : List ℕ). stage_from (images.config_of image) xs left.counts.value.items) same_words
      ∙ ap (stage_from (images.config_of image) (images.words_of image)) same_counts

  -- runs may begin there
  pub left_begins : ∥ ((graph : Graph) × CanBeginFrom (images.config_of image) (images.memory_of image) counts graph) ∥₁ → ∥ ((graph : Graph) × Begins config (start_from config (Some left)) graph) ∥₁
  left_begins some_graph = ∥∥₁_map some_graph (λ can_begin. (
    can_begin.0,
    subst (λ (any_config : Config). Begins any_config (start_from config (Some left)) can_begin.0) (sym sizes)
        (subst (λ (stage : Stage Actor). Begins (images.config_of image) stage can_begin.0) (sym left_start) (begins_from (images.config_of image) (images.words_of image) counts image.all_words can_begin.0 can_begin.1)),
  ))

  pub left_words : (start_from config (Some left)).words ≡ images.words_of image
  left_words = ap (λ (stage : Stage Actor). stage.words) left_start ∙ stage_words (images.config_of image) (images.words_of image) counts

  -- its machines
  pub left_machines : (machines : List Machine) → map shown machines ≡ map (machine_from (images.config_of image) counts (images.memory_of image)) (range_with_len 0 (seat_count (images.config_of image).mutators (images.config_of image).helpers))
      → All (λ machine. machine_config machine ≡ images.config_of image) machines → All (λ machine. order_of machine ≡ Nothing) machines → AreMachinesOfStage config machines (start_from config (Some left))
  left_machines machines machines_are heap none_pending = record {
    machines = machines_are ∙ sym (stage_machines (images.config_of image) (images.words_of image) counts) ∙ ap (λ (stage : Stage Actor). map machine_in stage.machines) (sym left_start);
    heap = subst (λ (config : Config). All (λ machine. machine_config machine ≡ config) machines) (sym sizes) heap;
    orders = none_pending;
  }

-- what was reached from where a heap began was reached from the opening, where it was opened so
pub reached_from_opening : (heap : Heap) (config : Config) (stage : Stage Actor) → config_of heap ≡ config → start_of_heap heap ≡ heap_opening config → IsReached (heap_kind (config_of heap)) (start_of_heap heap) stage → IsReached (heap_kind (config_of heap)) (heap_opening (config_of heap)) stage
reached_from_opening heap config stage sizes start_opened reached = subst (λ (first_stage : Stage Actor). IsReached (heap_kind (config_of heap)) first_stage stage) (start_opened ∙ ap heap_opening (sym sizes)) reached

-- no order is pending
pub opened_orders : (machines : List Machine) → All (λ each_machine. order_of each_machine ≡ Nothing) machines → (number : ℕ) (order : Order) → machine_of (kept_in_view order_of (whole machines)) number ≡ Some order → order ≡ Nothing
opened_orders machines none_pending number order order_there = by_machine (slice_get machines number) refl
  where
    found : option_map order_of (slice_get machines number) ≡ Some order
    found = sym (slice_get-map order_of machines number) ∙ sym (machine_of-whole (map order_of machines) number) ∙ ap (λ asked_view. machine_of asked_view number) (sym (kept-whole order_of machines)) ∙ order_there

    by_machine : (found_machine : Option Machine) → slice_get machines number ≡ found_machine → order ≡ Nothing
    by_machine None slice_is = absurd (let nothing_there : option_map order_of (slice_get machines number) ≡ None = ap (option_map order_of) slice_is in let order_found = found in cc)
    by_machine (Some machine) slice_is =
        let same_order : Some (order_of machine) ≡ Some order = ap (option_map order_of) (sym slice_is) ∙ found in
        let order_is : order ≡ order_of machine = cc in
        order_is ∙ ap order_of (sym (get_or_from_slice_get machines number machine machine slice_is)) ∙ none_pending number machine (slice_get_within machines number machine slice_is)

-- no machine has made a step
pub opened_steps : {R : Type 0} (machines : List R) (number made : ℕ) → machine_of (steps_in_view (whole (map at_start machines))) number ≡ Some made → made ≡ 0
opened_steps [] number made count_there = absurd cc
opened_steps (first_machine ∷ later_machines) zero made count_there = cc
opened_steps (first_machine ∷ later_machines) (suc number) made count_there = opened_steps later_machines number made count_there

-- some of them
pub picked_some : {R : Type 0} (test : ℕ → Bool) (view : View R) (number : ℕ) (r : R) → machine_of (machines_picked test view) number ≡ Some r → machine_of view number ≡ Some r
picked_some {R} test given_view number r picked_there = by_test (test number) (sym (machine_of-picked test given_view number) ∙ picked_there)
  where
    by_test : (holds : Bool) → (if holds then machine_of given_view number else None) ≡ Some r → machine_of given_view number ≡ Some r
    by_test true machine_found = machine_found
    by_test false machine_found = absurd cc

module _ {R : Type 0} (workers : ℕ) (view : View R) where
  -- bundles are dealt one after the other, from those that are left
  pub left_first : machines_left (is_dealt_below workers 0) view ≡ view
  left_first = picked_all (λ number. not (is_dealt_below workers 0 number)) view (λ number. grind (arith, nat_tests))

  pub dealt_next : (bundle : ℕ) → dealt_to workers bundle (machines_left (is_dealt_below workers bundle) view) ≡ dealt_to workers bundle view
  dealt_next bundle = picked_twice (is_dealt_to workers bundle) (λ number. not (is_dealt_below workers bundle number)) (is_dealt_to workers bundle) view (λ number. grind (arith, nat_tests))

  pub left_next : (bundle : ℕ) → machines_left (is_dealt_to workers bundle) (machines_left (is_dealt_below workers bundle) view) ≡ machines_left (is_dealt_below workers (bundle + 1)) view
  left_next bundle = picked_twice (λ number. not (is_dealt_to workers bundle number)) (λ number. not (is_dealt_below workers bundle number)) (λ number. not (is_dealt_below workers (bundle + 1) number)) view (λ number. grind (arith, nat_tests))
