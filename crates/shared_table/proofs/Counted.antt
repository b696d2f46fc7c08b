-- Machines that count their steps run as those that do not, and a step is counted once.
use Rattle.std.proofs.Common.{◌≡◌, ◌<◌, ℕ, Bool, true, false, List, [], ◌∷◌, map, length, Option, Some, None, refl, sym, ap, ◌∙◌, subst, arith}
use Rattle.std.specs.Prelude.{slice_get, slice_set, ◌+◌, if◌then◌else◌}
use Rattle.std.specs.Option.{is_some, option_map}
use Rattle.std.proofs.lemmas.List.{map-set}
use Rattle.std.proofs.lemmas.Option.{slice_get-map}
use Rattle.atomic_table.specs.Table.{Me}
use Rattle.heap_words.specs.declared.access.Access.{Access}
use Rattle.heap_words.specs.Steps.{MachineKind, Stage, Event, accessed, moved, act_of, act, go, IsReached, Finds}
use Rattle.shared_table.specs.Views.{View, machine_of, whole, machines_of, HasAllMachines, kept_one}
use Rattle.shared_table.specs.Counted.{Counted, uncounted_machine, steps_made, at_start, counting, counted_from, uncounted_stage, uncounted_view, steps_in_view, uncounted_seat}
use Rattle.shared_table.specs.Rule.{Took}
use Rattle.shared_table.specs.Laws.{CountLaws}
use Rattle.shared_table.proofs.Closing.{length-whole}
use Rattle.shared_table.proofs.Kept.{machine_of-kept, length-kept, kept-whole, kept-set, kept_here, kept_some}
use Rattle.shared_table.proofs.Numbers.{all_here, whole_here}

module _ {R : Type 0} where
  machines_back : (machines : List R) → map uncounted_machine (map at_start machines) ≡ machines
  machines_back [] = refl
  machines_back (machine ∷ rest) = ap (λ (tail : List R). machine ∷ tail) (machines_back rest)

  stage_back : (start : Stage R) → uncounted_stage (counted_from start) ≡ start
  stage_back start = ap (λ (machines : List R). record { words = start.words; machines = machines }) (machines_back start.machines)

  -- the view of the opening
  pub first_view : (start : Stage R) → uncounted_view (whole (counted_from start).machines) ≡ whole start.machines
  first_view start = kept-whole uncounted_machine (map at_start start.machines) ∙ ap whole (machines_back start.machines)

  machines_uncounted : (view : View (Counted R)) → machines_of (uncounted_view view) ≡ map uncounted_machine (machines_of view)
  machines_uncounted [] = refl
  machines_uncounted (None ∷ rest) = machines_uncounted rest
  machines_uncounted (Some counted_machine ∷ rest) = ap (λ (machines : List R). counted_machine.machine ∷ machines) (machines_uncounted rest)

  -- a view has all machines where it has them without the numbers
  pub all_counted : (count : ℕ) (view : View (Counted R)) → HasAllMachines count (uncounted_view view) → HasAllMachines count view
  all_counted count view has_all = record {
    all = all_here view (λ index below.
        sym (kept_some uncounted_machine view index) ∙ ap (λ (view : View R). is_some (machine_of view index)) has_all.all
        ∙ whole_here (machines_of (uncounted_view view)) index (within index below));
    counts = sym long ∙ has_all.counts;
  }
    where
      long : length (uncounted_view view) ≡ length view
      long = length-kept uncounted_machine view

      within : (index : ℕ) → index < length view → index < length (machines_of (uncounted_view view))
      within index index_below = let whole_long : length (uncounted_view view) ≡ length (machines_of (uncounted_view view)) = ap length has_all.all ∙ length-whole (machines_of (uncounted_view view)) in omega (arith, index_below, long, whole_long)

module _ {R O : Type 0} (kind : MachineKind R O) where
  act-uncounted : (stage : Stage (Counted R)) (event : Event O) → uncounted_stage (act (counting kind) stage event) ≡ act kind (uncounted_stage stage) event
  unfolding act
  act-uncounted stage event = by_machine (slice_get stage.machines event.number) ∙ ap (act_of kind (uncounted_stage stage) event) (sym (slice_get-map uncounted_machine stage.machines event.number))
    where
      by_order : (counted_machine : Counted R) (holds : Bool)
          → uncounted_stage (if holds then moved (counting kind) stage event.number counted_machine event.order else stage) ≡ (if holds then moved kind (uncounted_stage stage) event.number counted_machine.machine event.order else uncounted_stage stage)
      by_order counted_machine true = ap (λ (machines : List R). record { words = accessed (kind.plan counted_machine.machine event.order) stage.words; machines = machines }) (map-set uncounted_machine stage.machines event.number _)
      by_order counted_machine false = refl

      by_machine : (found : Option (Counted R)) → uncounted_stage (act_of (counting kind) stage event found) ≡ act_of kind (uncounted_stage stage) event (option_map uncounted_machine found)
      by_machine None = refl
      by_machine (Some counted_machine) = by_order counted_machine (kind.takes counted_machine.machine event.order)

  go-uncounted : (stage : Stage (Counted R)) (events : List (Event O)) → uncounted_stage (go (counting kind) stage events) ≡ go kind (uncounted_stage stage) events
  unfolding go
  go-uncounted stage [] = refl
  go-uncounted stage (event ∷ rest) = go-uncounted (act (counting kind) stage event) rest ∙ ap (λ x. go kind x rest) (act-uncounted stage event)

  module _ (start : Stage R) where
    runs : (events : List (Event O)) → uncounted_stage (go (counting kind) (counted_from start) events) ≡ go kind start events
    runs events = go-uncounted (counted_from start) events ∙ ap (λ x. go kind x events) (stage_back start)

    reached_uncounted : (end : Stage (Counted R)) → IsReached (counting kind) (counted_from start) end → IsReached kind start (uncounted_stage end)
    reached_uncounted end reached = record { events = reached.events; ends = sym (runs reached.events) ∙ ap uncounted_stage reached.ends }

    pub view_reached : (words : List ℕ) (view : View (Counted R)) → IsReached (counting kind) (counted_from start) (record { words = words; machines = machines_of view })
        → IsReached kind start (record { words = words; machines = machines_of (uncounted_view view) })
    view_reached words view reached =
        subst (λ (machines : List R). IsReached kind start (record { words = words; machines = machines })) (sym (machines_uncounted view))
        (reached_uncounted (record { words = words; machines = machines_of view }) reached)

    module _ {S : Type 0} (number : ℕ) (order : O) (before after : Me S (View (Counted R))) (got : ℕ) (took : Took (counting kind) (counted_from start) number order before got after) where
      finds_uncounted : Finds kind start number took.machine.machine order got
      finds_uncounted = record {
        stage = uncounted_stage took.finds.stage;
        reached = reached_uncounted took.finds.stage took.finds.reached;
        here = slice_get-map uncounted_machine took.finds.stage.machines number ∙ ap (option_map uncounted_machine) took.finds.here;
        takes = took.finds.takes;
        found = took.finds.found;
      }

      pub took_uncounted : Took kind start number order (uncounted_seat before) got (uncounted_seat after)
      took_uncounted = record {
        machine = took.machine.machine;
        here = machine_of-kept uncounted_machine before.0 number ∙ ap (kept_one uncounted_machine) took.here;
        finds = finds_uncounted;
        view = ap uncounted_view took.view ∙ kept-set uncounted_machine before.0 number (Some ((counting kind).took took.machine order got));
        slots = took.slots;
      }

      pub took_counts : (step_count : ℕ) × (machine_of (steps_in_view before.0) number ≡ Some step_count) × (steps_in_view after.0 ≡ slice_set (steps_in_view before.0) number (Some (step_count + 1)))
      took_counts = (
        took.machine.steps,
        machine_of-kept steps_made before.0 number ∙ ap (kept_one steps_made) took.here,
        ap steps_in_view took.view ∙ kept-set steps_made before.0 number (Some ((counting kind).took took.machine order got)),
      )

    pub count_laws : {S : Type 0} → CountLaws S kind start
    count_laws = record { runs = runs; reached = view_reached; tells = took_uncounted; counts = took_counts }

  -- a machine that can make its access can do so where it counts its steps
  pub can_counted : (view : View (Counted R)) (number : ℕ) (order : O) (access : Access)
      → (machine : R) × (machine_of (uncounted_view view) number ≡ Some machine) × (kind.takes machine order ≡ true) × (kind.plan machine order ≡ access)
      → (counted : Counted R) × (machine_of view number ≡ Some counted) × ((counting kind).takes counted order ≡ true) × ((counting kind).plan counted order ≡ access)
  can_counted view number order access can_access =
      let kept_machine = kept_here uncounted_machine view number can_access.0 can_access.1 in
      (kept_machine.0, kept_machine.1, ap (λ machine. kind.takes machine order) kept_machine.2 ∙ can_access.2, ap (λ machine. kind.plan machine order) kept_machine.2 ∙ can_access.3)
