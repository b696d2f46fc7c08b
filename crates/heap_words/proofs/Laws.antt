-- What an event changes.
use Rattle.std.proofs.Common.{◌≡◌, ◌≢◌, ℕ, Bool, true, false, length, Option, Some, None, refl, sym, ap, ◌∙◌}
use Rattle.std.specs.Prelude.{slice_get, slice_index, if◌then◌else◌}
use Rattle.std.proofs.lemmas.List.{get_or-set_other, length-set}
use Rattle.heap_words.proofs.Lists.{slice_get-set_other, slice_get-set_same}
use Rattle.heap_words.specs.Access.{table_index}
use Rattle.heap_words.specs.Steps.{MachineKind, Stage, Event, moved, act_of, act, IsEvent, Finds, HasReached, RunsAdd, EventsAreSmall}
use Rattle.heap_words.proofs.Runs.{go-none, go-first, go-append, go-step, reached_more}

module _ {R O : Type 0} (kind : MachineKind R O) where
  -- what holds after an access, and where nothing changes, holds after an event
  pub act_cases : (P : Stage R → Type 0) (stage : Stage R) (event : Event O) → P stage → ((any_machine : R) → slice_get stage.machines event.number ≡ Some any_machine → kind.takes any_machine event.order ≡ true → P (moved kind stage event.number any_machine event.order)) → P (act kind stage event)
  unfolding act
  act_cases P stage event unchanged holds_moved = by_machine (slice_get stage.machines event.number) refl
    where
      by_order : (machine : R) (holds : Bool) → slice_get stage.machines event.number ≡ Some machine → kind.takes machine event.order ≡ holds → P (if holds then moved kind stage event.number machine event.order else stage)
      by_order machine true machine_there takes = holds_moved machine machine_there takes
      by_order machine false machine_there takes = unchanged

      by_machine : (found : Option R) → slice_get stage.machines event.number ≡ found → P (act_of kind stage event found)
      by_machine None found_there = unchanged
      by_machine (Some machine) found_there = by_order machine (kind.takes machine event.order) found_there refl

  pub act-event : (stage : Stage R) (event : Event O) (machine : R) → IsEvent kind stage event machine → act kind stage event ≡ moved kind stage event.number machine event.order
  unfolding act
  act-event stage event machine event_taken = rw (event_taken.here, event_taken.takes) refl

  pub length-words : (stage : Stage R) (event : Event O) → length (act kind stage event).words ≡ length stage.words
  length-words stage event = act_cases (λ new_stage. length new_stage.words ≡ length stage.words) stage event refl (λ machine machine_there takes. length-set _ _ _)

  pub length-machines : (stage : Stage R) (event : Event O) → length (act kind stage event).machines ≡ length stage.machines
  length-machines stage event = act_cases (λ new_stage. length new_stage.machines ≡ length stage.machines) stage event refl (λ machine machine_there takes. length-set _ _ _)

  pub machines_other : (stage : Stage R) (event : Event O) (index : ℕ) → index ≢ event.number → slice_get (act kind stage event).machines index ≡ slice_get stage.machines index
  machines_other stage event index other_index =
      act_cases (λ new_stage. slice_get new_stage.machines index ≡ slice_get stage.machines index) stage event refl (λ machine machine_there takes. slice_get-set_other stage.machines event.number index _ other_index)

  pub words_other : (stage : Stage R) (event : Event O) (machine : R) (place : ℕ) → IsEvent kind stage event machine → place ≢ table_index (kind.plan machine event.order) → slice_index (act kind stage event).words place ≡ slice_index stage.words place
  words_other stage event machine place event_taken other_place = ap (λ x. slice_index x.words place) (act-event stage event machine event_taken) ∙ get_or-set_other stage.words _ place _ 0 other_place

  pub runs_add : RunsAdd kind
  runs_add = record { none = go-none kind; first = go-first kind; both = go-append kind; last = go-step kind }

  pub events_are_small : EventsAreSmall kind
  events_are_small = record {
    words = length-words;
    machines = length-machines;
    other_machines = machines_other;
    other_words = words_other;
    moved = act-event;
  }

  -- a machine that finds a word goes on from there
  pub has_next : (start : Stage R) (number : ℕ) (machine : R) (order : O) (got : ℕ) → Finds kind start number machine order got → HasReached kind start number (kind.took machine order got)
  has_next start number machine order got finds =
      let event_taken : IsEvent kind finds.stage (record { number = number; order = order }) machine = record { here = finds.here; takes = finds.takes } in
      record {
        stage = act kind finds.stage (record { number = number; order = order });
        reached = reached_more kind start finds.stage _ finds.reached;
        here = ap (λ x. slice_get x.machines number) (act-event finds.stage _ machine event_taken) ∙ slice_get-set_same finds.stage.machines number machine _ finds.here ∙ ap (λ found_word. Some (kind.took machine order found_word)) (sym finds.found);
      }
