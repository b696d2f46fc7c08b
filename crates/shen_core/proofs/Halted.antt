-- The turn of a machine that waits for the end of a pause changes nothing.
use Rattle.std.proofs.Common.{◌≡◌, ◌<◌, ℕ, true, length, Some, refl, sym, ap, ◌∙◌, subst}
use Rattle.std.specs.Prelude.{slice_set, slice_index}
use Rattle.std.proofs.lemmas.List.{set-get_or}
use Rattle.heap_words.specs.Access.{table_index}
use Rattle.heap_words.specs.Words.{Pause, word_at, view}
use Rattle.heap_words.specs.Steps.{accessed}
use Rattle.shen_graph.specs.declared.order.Order.TheVariants.{Nothing}
use Rattle.heap_machines.specs.Answer.{stepped_by}
use Rattle.heap_machines.specs.Pause.{pause_image}
use Rattle.heap_machines.specs.Shown.{no_machine}
use Rattle.heap_machines.specs.declared.stepped.Stepped.TheVariants as stepped
use Rattle.step_core.specs.Actor.{Machine}
use Rattle.step_core.specs.Machines.{takes_of, plan_of, machine_after, answer_of}
use Rattle.shen_core.specs.declared.plain.Plain.{Plain}
use Rattle.shen_core.specs.Runs.{IsOneEvent}
use Rattle.shen_core.specs.State.{config_of, words_of, machines_of, orders_of, machine_at, order_at, next_machine, IsHalted}
use Rattle.shen_core.specs.Progress.{Jobs, HasTurned, IsNextTurn, next_for}
use Rattle.shen_core.specs.Noting.{NotesTurn, noted, told_by}
use Rattle.shen_core.proofs.Events.{one_event}
use Rattle.shen_core.proofs.Noting.{noted_none}
use Rattle.shen_core.proofs.Noted.{IsStepped, turned_on, none_given}
use Rattle.shen_core.proofs.Settles.{sees_nothing}
use Rattle.shen_core.proofs.Turns.{machine_within, role_within, is_turn}

module _ (plain : Plain) (jobs : Jobs) (number : ℕ) (number_within : number < length (machines_of plain)) (no_order : order_at plain number ≡ Nothing) (is_halted : IsHalted plain number) where
  abbrev machine : Machine
  machine = machine_at plain number

  -- its access finds the pause word
  finds : slice_index (words_of plain) (table_index (plan_of (config_of plain) (order_at plain number) machine)) ≡ slice_index (words_of plain) (word_at (config_of plain) Pause)
  finds = ap (λ order. slice_index (words_of plain) (table_index (plan_of (config_of plain) order machine))) no_order
      ∙ ap (λ access. slice_index (words_of plain) (table_index access)) is_halted.awaits.looks

  -- it takes no order
  takes : takes_of machine (order_at plain number) ≡ true
  takes = ap (takes_of machine) no_order ∙ is_halted.awaits.takes

  -- it stays
  stays : next_machine plain number ≡ machine
  stays = ap (λ got. machine_after pause_image (config_of plain) (order_at plain number) got machine) finds
      ∙ ap (λ order. machine_after pause_image (config_of plain) order (slice_index (words_of plain) (word_at (config_of plain) Pause)) machine) no_order
      ∙ is_halted.awaits.stays (slice_index (words_of plain) (word_at (config_of plain) Pause)) is_halted.wanted

  -- so do the words
  same_words : accessed (plan_of (config_of plain) (order_at plain number) machine) (words_of plain) ≡ words_of plain
  same_words = ap (λ order. accessed (plan_of (config_of plain) order machine) (words_of plain)) no_order
      ∙ ap (λ access. accessed access (words_of plain)) is_halted.awaits.looks
      ∙ set-get_or (words_of plain) (word_at (config_of plain) Pause) 0

  -- and the machines
  same_machines : slice_set (machines_of plain) number (next_machine plain number) ≡ machines_of plain
  same_machines = ap (slice_set (machines_of plain) number) stays ∙ set-get_or (machines_of plain) number no_machine

  -- its order stays none
  same_orders : slice_set (orders_of plain) number (order_at plain number) ≡ orders_of plain
  same_orders = set-get_or (orders_of plain) number Nothing

  -- its turn is one event, which leads to the same
  stepped_halted : IsStepped plain plain plain jobs number stepped.Again
  stepped_halted =
      let role = role_within plain number number_within in
      let turn_next : IsNextTurn plain jobs number true (order_at plain number) = is_halted.awaits.goes_on (next_for (config_of plain) jobs number) ∙ ap Some (sym no_order) in
      let event_made = one_event (config_of plain) (words_of plain) (machines_of plain) number machine (order_at plain number) (machine_within (machines_of plain) number number_within) takes in
      record {
        within = number_within;
        mid_words = refl;
        mid_machines = refl;
        mid_config = refl;
        mid_orders = sym same_orders;
        role = role;
        turn = is_turn plain jobs number true (order_at plain number) number_within role turn_next;
        next = turn_next;
        has = takes;
        event = subst (λ word_list. IsOneEvent (config_of plain) (words_of plain) (machines_of plain) word_list (machines_of plain) number (order_at plain number)) same_words
            (subst (λ machine_list. IsOneEvent (config_of plain) (words_of plain) (machines_of plain) (accessed (plan_of (config_of plain) (order_at plain number) machine) (words_of plain)) machine_list number (order_at plain number)) same_machines event_made);
        says = sym (ap (λ got. stepped_by (answer_of (config_of plain) (order_at plain number) machine got)) finds ∙ ap (λ order. stepped_by (answer_of (config_of plain) order machine (slice_index (words_of plain) (word_at (config_of plain) Pause)))) no_order ∙ ap stepped_by (is_halted.awaits.waits (slice_index (words_of plain) (word_at (config_of plain) Pause)) is_halted.wanted));
        machines = sym same_machines;
        orders = sym (ap (slice_set (orders_of plain) number) (sym no_order) ∙ same_orders);
        config = refl;
      }

  -- the heap has made its turn
  pub halted_turned : HasTurned plain jobs number plain jobs stepped.Again
  halted_turned = turned_on plain plain plain jobs number stepped.Again stepped_halted (none_given plain plain plain jobs number stepped.Again stepped_halted (λ says_done. absurd cc))

  -- nothing was settled
  pub halted_notes : NotesTurn plain jobs number plain
  halted_notes scripts given_stage shows tells ends =
      sym (ap (λ turned. noted plain.notes (told_by (config_of plain) given_stage turned)) (stepped_halted.turn scripts given_stage shows tells)
      ∙ ap (noted plain.notes)
      (sees_nothing (config_of plain) (words_of plain) (machines_of plain) number (order_at plain number) machine (machine_within (machines_of plain) number number_within) takes
      (is_halted.awaits.settles (view (config_of plain) (words_of plain))) (is_halted.awaits.refuses (words_of plain)) given_stage shows ends)
      ∙ noted_none plain.notes)
