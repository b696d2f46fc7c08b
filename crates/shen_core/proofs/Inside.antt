-- The turn of the control that goes from a word of the image to the next one.
use Rattle.std.proofs.Common.{◌≡◌, ◌<◌, ◌+◌, ℕ, true, List, length, get_or, Some, sym, ap, ◌∙◌, subst, arith}
use Rattle.std.specs.Prelude.{slice_set, slice_index}
use Rattle.std.proofs.lemmas.List.{set-get_or, get_or-set_same, get_or-set_other}
use Rattle.heap_words.specs.Access.{table_index}
use Rattle.heap_words.specs.Words.{Pause, word_at}
use Rattle.heap_words.specs.Steps.{Stage, accessed}
use Rattle.shen_graph.specs.declared.order.Order.TheVariants.{Nothing}
use Rattle.heap_machines.specs.Answer.{stepped_by}
use Rattle.heap_machines.specs.Pause.{pause_image}
use Rattle.heap_machines.specs.Inside.{is_inside_image, loads_left, stores_left}
use Rattle.heap_machines.specs.Shown.{no_machine}
use Rattle.heap_machines.specs.declared.stepped.Stepped.TheVariants as stepped
use Rattle.heap_machines.proofs.Inside.{GoesInside, goes_inside, left_after}
use Rattle.step_core.specs.Actor as actors
use Rattle.step_core.specs.Actor.{Actor}
use Rattle.step_core.specs.History.{told}
use Rattle.step_core.specs.Machines.{takes_of, plan_of, answer_of, machine_after}
use Rattle.shen_core.specs.declared.plain.Plain.{Plain}
use Rattle.shen_core.specs.Runs.{event}
use Rattle.shen_core.specs.State.{config_of, words_of, machines_of, orders_of, notes_of, machine_at, order_at, next_machine, word_found_by, Shows, IsStep}
use Rattle.shen_core.specs.Halted.{words_left}
use Rattle.shen_core.specs.Progress.{Jobs, CanRun, HasTurned, next_for}
use Rattle.shen_core.specs.Noting.{NotesTurn, IsEnding, noted}
use Rattle.shen_core.proofs.Noted.{IsStepped, can_run_on, turned_on, none_given}
use Rattle.shen_core.proofs.Noting.{turn_notes, turn_kept}
use Rattle.shen_core.proofs.Turns.{role_within, is_turn}

-- what its step settles was noted, and then the step made
pub record StepsInside (plain mid other_plain : Plain) (number : ℕ) : Type 0 where
  pub mid_words : words_of mid ≡ words_of plain
  pub mid_machines : machines_of mid ≡ machines_of plain
  pub mid_orders : orders_of mid ≡ orders_of plain
  pub mid_config : config_of mid ≡ config_of plain
  pub mid_notes : (stage : Stage Actor) → Shows plain stage → IsEnding (config_of plain) stage → notes_of mid ≡ noted (notes_of plain) (told (config_of plain) stage (event number (order_at plain number)))
  pub event : IsStep mid other_plain number
  pub words : words_of other_plain ≡ accessed (plan_of (config_of mid) (order_at mid number) (machine_at mid number)) (words_of mid)
  pub machines : machines_of other_plain ≡ slice_set (machines_of mid) number (next_machine mid number)
  pub orders : orders_of other_plain ≡ slice_set (orders_of mid) number Nothing
  pub config : config_of other_plain ≡ config_of mid
  pub notes : notes_of other_plain ≡ notes_of mid

module _ (plain mid next_plain : Plain) (number : ℕ) (number_below : number < length (machines_of plain)) (no_order : order_at plain number ≡ Nothing) (inside_image : is_inside_image (config_of plain) (machine_at plain number) ≡ true)
    (facts : StepsInside plain mid next_plain number) where
  goes : GoesInside (config_of plain) (machine_at plain number)
  goes = goes_inside (config_of plain) (machine_at plain number) inside_image

  -- in between it has no order, and is the same
  order_mid : order_at mid number ≡ Nothing
  order_mid = ap (λ order_list. get_or order_list number Nothing) facts.mid_orders ∙ no_order

  machine_mid : machine_at mid number ≡ machine_at plain number
  machine_mid = ap (λ machine_list. get_or machine_list number no_machine) facts.mid_machines

  -- its turn is one event
  stepped_inside : (jobs : Jobs) → IsStepped plain mid next_plain jobs number stepped.More
  stepped_inside jobs =
      let role = role_within plain number number_below in
      let got = word_found_by mid number in
      let turn_next = goes.goes_on (next_for (config_of plain) jobs number) ∙ ap Some (sym order_mid) in
      record {
        within = number_below;
        mid_words = facts.mid_words;
        mid_machines = facts.mid_machines;
        mid_config = facts.mid_config;
        mid_orders = facts.mid_orders ∙ sym (ap (slice_set (orders_of plain) number) (order_mid ∙ sym no_order) ∙ set-get_or (orders_of plain) number Nothing);
        role = role;
        turn = is_turn plain jobs number true (order_at mid number) number_below role turn_next;
        next = turn_next;
        has = ap (λ some_machine. takes_of some_machine (order_at mid number)) machine_mid ∙ ap (takes_of (machine_at plain number)) order_mid ∙ goes.takes;
        event = facts.event;
        says = sym (ap (λ some_config. stepped_by (answer_of some_config (order_at mid number) (machine_at mid number) got)) facts.mid_config ∙ ap (λ some_machine. stepped_by (answer_of (config_of plain) (order_at mid number) some_machine got)) machine_mid
            ∙ ap (λ order. stepped_by (answer_of (config_of plain) order (machine_at plain number) got)) order_mid ∙ ap stepped_by (goes.says got));
        machines = facts.machines;
        orders = facts.orders;
        config = facts.config;
      }

  -- the heap has made its turn
  pub inside_turned : (jobs : Jobs) → HasTurned plain jobs number next_plain jobs stepped.More
  inside_turned jobs = turned_on plain mid next_plain jobs number stepped.More (stepped_inside jobs) (none_given plain mid next_plain jobs number stepped.More (stepped_inside jobs) (λ says_done. absurd cc))

  -- and can go on
  pub inside_runs : (jobs : Jobs) → CanRun plain jobs → CanRun next_plain jobs
  inside_runs jobs ran_before = can_run_on plain mid next_plain jobs number stepped.More (stepped_inside jobs) (none_given plain mid next_plain jobs number stepped.More (stepped_inside jobs) (λ says_done. absurd cc)) ran_before

  -- what it settles was noted
  pub inside_notes : (jobs : Jobs) → NotesTurn plain jobs number next_plain
  inside_notes jobs =
      turn_kept plain mid next_plain jobs number
      (turn_notes plain mid jobs number (order_at plain number) (is_turn plain jobs number true (order_at plain number) number_below (role_within plain number number_below) (goes.goes_on (next_for (config_of plain) jobs number) ∙ ap Some (sym no_order))) facts.mid_notes)
      facts.notes

  -- the pause word stays
  pub inside_pause : slice_index (words_of next_plain) (word_at (config_of next_plain) Pause) ≡ slice_index (words_of plain) (word_at (config_of plain) Pause)
  inside_pause =
      let touched_index = table_index (plan_of (config_of mid) (order_at mid number) (machine_at mid number)) in
      let same_index : touched_index ≡ table_index (plan_of (config_of plain) Nothing (machine_at plain number)) =
      ap (λ some_config. table_index (plan_of some_config (order_at mid number) (machine_at mid number))) facts.mid_config
      ∙ ap (λ order. table_index (plan_of (config_of plain) order (machine_at mid number))) order_mid
      ∙ ap (λ machine. table_index (plan_of (config_of plain) Nothing machine)) machine_mid in
      ap (λ word_list. get_or word_list 0 0) facts.words
      ∙ get_or-set_other (words_of mid) touched_index 0 _ 0 (λ same_place. goes.beside (same_place ∙ same_index))
      ∙ ap (λ word_list. get_or word_list 0 0) facts.mid_words

  -- and so do all other machines
  pub inside_others : (index : ℕ) → index < number → machine_at next_plain index ≡ machine_at plain index
  inside_others index index_below =
      ap (λ machine_list. get_or machine_list index no_machine) facts.machines
      ∙ get_or-set_other (machines_of mid) number index (next_machine mid number) no_machine (λ same_number. absurd (omega arith))
      ∙ ap (λ machine_list. get_or machine_list index no_machine) facts.mid_machines

  -- one word fewer is left to it
  pub inside_left : words_left next_plain number + 1 ≡ words_left plain number
  inside_left =
      let got = word_found_by mid number in
      let number_within : number < length (machines_of mid) = subst (λ (machine_list : List actors.Machine). number < length machine_list) (sym facts.mid_machines) number_below in
      let machine_then : machine_at next_plain number ≡ machine_after pause_image (config_of plain) Nothing got (machine_at plain number) =
      ap (λ machine_list. get_or machine_list number no_machine) facts.machines
      ∙ get_or-set_same (machines_of mid) number (next_machine mid number) no_machine number_within
      ∙ ap (λ some_config. machine_after pause_image some_config (order_at mid number) got (machine_at mid number)) facts.mid_config
      ∙ ap (λ order. machine_after pause_image (config_of plain) order got (machine_at mid number)) order_mid
      ∙ ap (machine_after pause_image (config_of plain) Nothing got) machine_mid in
      ap (λ some_config. loads_left some_config (machine_at next_plain number) + stores_left some_config (machine_at next_plain number) + 1) (facts.config ∙ facts.mid_config)
      ∙ ap (λ machine. loads_left (config_of plain) machine + stores_left (config_of plain) machine + 1) machine_then
      ∙ left_after (config_of plain) (machine_at plain number) got inside_image
