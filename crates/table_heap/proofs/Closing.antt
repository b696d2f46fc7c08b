-- The end of the sharing: all words are read, and all machines are there.
use Rattle.std.proofs.Common.{◌≡◌, ℕ, zero, suc, ◌+◌, ◌<◌, ◌≢◌, Bool, true, false, List, [], ◌∷◌, length, Option, Some, None, refl, sym, ap, ◌∙◌, subst, arith}
use Rattle.std.specs.Prelude.{slice_get, slice_index, slice_set, ◌==◌}
use Rattle.std.specs.Option.{is_some}
use Rattle.std.proofs.Math.Bool.{Bool-set}
use Rattle.std.proofs.lemmas.Bool.Decides.{nat_tests}
use Rattle.std.proofs.lemmas.List.{get_or-set_same, get_or-set_other}
use mathlib.Core.Option.{some}
use lib.ListN.{get_elem?}
use Rattle.heap_words.specs.declared.config.Config.{Config}
use Rattle.heap_words.specs.Ranges.{seat_count}
use Rattle.shen_graph.specs.declared.order.Order.TheVariants.{Nothing}
use Rattle.heap_words.specs.Steps.{Stage, IsReached}
use Rattle.shared_table.specs.Views.{View, machine_of, machines_of, whole, kept_in_view, HasAllMachines}
use Rattle.shared_table.proofs.Kept.{length-kept, kept_some, kept_here}
use Rattle.shared_table.proofs.Numbers.{all_here}
use Rattle.shared_table.proofs.ViewsShow.{machine_of-whole}
use Rattle.step_core.specs.Actor.{Machine, Actor}
use Rattle.step_core.specs.Machines.{takes_of}
use Rattle.step_core.specs.Settled.{image_of, control_number}
use Rattle.table_heap.specs.declared.key.HeapKey.{HeapKey}
use Rattle.table_heap.specs.Core.{heap_kind, start_of_key, machine_in}
use Rattle.heap_machines.specs.declared.machine.Machine as memory
use Rattle.heap_machines.specs.Shown.{shown}
use Rattle.heap_machines.specs.Pause.{pause_image}
use Rattle.heap_machines.proofs.Pauses.{heap_pauses}
use Rattle.step_core.specs.Begins.{ending}
use Rattle.step_core.specs.Machines.{control_in}
use Rattle.step_core.proofs.Machines.Roles.{control_of}
use Rattle.step_core.proofs.Theorem.EveryList.{run_sound}
use Rattle.table_heap.specs.Known.{AreOfHeap, HasTheControl}
use Rattle.table_heap.proofs.Core.{begun, start_count, idle_is_calm, run_from}
use Rattle.table_heap.proofs.MachineUnder.{shows_here}

-- the word under a number
number_at : (words : List ℕ) (index word : ℕ) → get_elem? words index ≡ some word → slice_index words index ≡ word
number_at [] index word word_there = absurd cc
number_at (first_word ∷ later_words) zero word word_there = cc
number_at (first_word ∷ later_words) (suc index) word word_there = number_at later_words index word word_there

-- one word more is read
pub read_next : (rows words : List ℕ) (read_index word : ℕ) → read_index < length words → get_elem? rows read_index ≡ some word → ((index : ℕ) → index < read_index → slice_index words index ≡ slice_index rows index)
    → (index : ℕ) → index < read_index + 1 → slice_index (slice_set words read_index word) index ≡ slice_index rows index
read_next rows words read_index word index_within word_there read index index_below = by_number (index == read_index) refl
  where
    by_number : (holds : Bool) → (index == read_index) ≡ holds → slice_index (slice_set words read_index word) index ≡ slice_index rows index
    by_number true tested =
        let same_index : index ≡ read_index = grind (arith, nat_tests) in
        ap (slice_index (slice_set words read_index word)) same_index ∙ get_or-set_same words read_index word 0 index_within ∙ sym (number_at rows read_index word word_there) ∙ ap (slice_index rows) (sym same_index)
    by_number false tested =
        let index_differs : index ≢ read_index = grind (arith, nat_tests) in
        get_or-set_other words read_index index word 0 index_differs ∙ read index (grind (arith, nat_tests))

-- where memory has each machine, the view has all
pub view_is_whole : (key : HeapKey) (config : Config) → key.config ≡ config → (view : View Actor) (items : View Machine) → kept_in_view machine_in view ≡ items → length items ≡ seat_count config.mutators config.helpers
    → ((number : ℕ) → number < seat_count config.mutators config.helpers → is_some (machine_of items number) ≡ true) → HasAllMachines (length (start_of_key key).machines) view
view_is_whole key config sizes view items items_kept items_length machines_there = record {
  all = all_here view (λ position number_below. sym (kept_some machine_in view position) ∙ ap (λ some_view. is_some (machine_of some_view position)) items_kept ∙ machines_there position (omega (arith, number_below, count)));
  counts = count ∙ ap (λ (config : Config). seat_count config.mutators config.helpers) (sym sizes) ∙ sym (start_count key);
}
  where
    count : length view ≡ seat_count config.mutators config.helpers
    count = sym (length-kept machine_in view) ∙ ap length items_kept ∙ items_length

-- where the control of a view is idle it stores no image
pub view_is_calm : (view : View Actor) (number : ℕ) → view ≡ whole (machines_of view) → ((actor : Actor) → machine_of view number ≡ Some actor → takes_of actor.machine Nothing ≡ false)
    → image_of (slice_get (machines_of view) number) ≡ None
view_is_calm view number view_whole idle = idle_is_calm (slice_get (machines_of view) number) (λ actor actor_is. idle actor (ap (λ some_view. machine_of some_view number) view_whole ∙ machine_of-whole (machines_of view) number ∙ actor_is))

-- the same stage, with other names for the key, the configuration, the words and the view
pub reached_as : (other_key key : HeapKey) (config : Config) (words read : List ℕ) (view seen_view : View Actor) → other_key ≡ key → key.config ≡ config → words ≡ read → view ≡ seen_view
    → IsReached (heap_kind other_key.config) (start_of_key other_key) (record { words = words; machines = machines_of view }) → IsReached (heap_kind config) (start_of_key key) (record { words = read; machines = machines_of seen_view })
reached_as other_key own_key other_config words read view seen_view key config same_words same_view reached =
    subst (λ (config : Config). IsReached (heap_kind config) (start_of_key own_key) (record { words = read; machines = machines_of seen_view })) config
    (subst (λ (key : HeapKey). IsReached (heap_kind key.config) (start_of_key key) (record { words = read; machines = machines_of seen_view })) key
    (subst (λ (xs : List ℕ). IsReached (heap_kind other_key.config) (start_of_key other_key) (record { words = xs; machines = machines_of seen_view })) same_words
    (subst (λ (view : View Actor). IsReached (heap_kind other_key.config) (start_of_key other_key) (record { words = words; machines = machines_of view })) same_view reached)))

-- after any events the machine under the number of the control is the control
control_there : (key : HeapKey) (stage : Stage Actor) → IsReached (heap_kind key.config) (start_of_key key) stage → (actor : Actor) → slice_get stage.machines (control_number key.config) ≡ Some actor → is_some (control_in actor.machine) ≡ true
control_there key stage reached actor actor_there =
    begun key (is_some (control_in actor.machine) ≡ true) (hlevel Bool-set) (λ any_graph begins.
    let config = key.config in
    let run = run_from config (start_of_key key) any_graph begins reached.events in
    let ending_there : slice_get (ending pause_image config run).machines (control_number config) ≡ Some actor = ap (λ some_stage. slice_get some_stage.machines (control_number config)) reached.ends ∙ actor_there in
    let role = control_of config (control_number config) actor.machine ((run_sound pause_image heap_pauses config run).of_heap.roles (control_number config) actor ending_there) refl in
    ap (λ machine. is_some (control_in machine)) role.1)

-- so memory has it there
has_control_at : (key : HeapKey) (items : View memory.Machine) (view : View Actor) (words : List ℕ) → kept_in_view machine_in view ≡ kept_in_view shown items → AreOfHeap key.config items → view ≡ whole (machines_of view)
    → is_some (machine_of (kept_in_view shown items) (control_number key.config)) ≡ true → IsReached (heap_kind key.config) (start_of_key key) (record { words = words; machines = machines_of view }) → HasTheControl key.config items
has_control_at key items view words items_kept of_heap view_whole control_kept reached = by_machine (machine_of items (control_number key.config)) refl
  where
    by_machine : (found_machine : Option memory.Machine) → machine_of items (control_number key.config) ≡ found_machine → HasTheControl key.config items
    by_machine None machine_is = absurd (let nothing_kept : is_some (machine_of (kept_in_view shown items) (control_number key.config)) ≡ false = kept_some shown items (control_number key.config) ∙ ap is_some machine_is in cc)
    by_machine (Some control_machine) machine_is =
        let seen_machine = kept_here machine_in view (control_number key.config) (shown control_machine) (ap (λ some_view. machine_of some_view (control_number key.config)) items_kept ∙ shows_here shown items (control_number key.config) control_machine machine_is) in
        let seen_there : slice_get (machines_of view) (control_number key.config) ≡ Some seen_machine.0 = sym (machine_of-whole (machines_of view) (control_number key.config)) ∙ ap (λ some_view. machine_of some_view (control_number key.config)) (sym view_whole) ∙ seen_machine.1 in
        record {
          machine = control_machine;
          here = machine_is;
          heap = (of_heap (control_number key.config) control_machine machine_is).heap;
          role = ap (λ machine. is_some (control_in machine)) (sym seen_machine.2) ∙ control_there key (record { words = words; machines = machines_of view }) reached seen_machine.0 seen_there;
        }

pub has_control : (key : HeapKey) (config : Config) → key.config ≡ config → (items : View memory.Machine) (view : View Actor) (words : List ℕ) → kept_in_view machine_in view ≡ kept_in_view shown items → AreOfHeap config items
    → view ≡ whole (machines_of view) → is_some (machine_of (kept_in_view shown items) (control_number config)) ≡ true → IsReached (heap_kind config) (start_of_key key) (record { words = words; machines = machines_of view }) → HasTheControl config items
has_control key config sizes items view words items_kept =
    subst (λ (config : Config). AreOfHeap config items → view ≡ whole (machines_of view) → is_some (machine_of (kept_in_view shown items) (control_number config)) ≡ true
    → IsReached (heap_kind config) (start_of_key key) (record { words = words; machines = machines_of view }) → HasTheControl config items) sizes (has_control_at key items view words items_kept)
