-- A turn that was seen.
use Rattle.std.proofs.Common.{◌≡◌, ◌<◌, ℕ, Bool, true, false, length, Option, Some, None, is_some, refl, sym, ap, ◌∙◌, subst, arith, get_or}
use Rattle.std.specs.Prelude.{slice_get, slice_set, slice_index}
use Rattle.std.proofs.lemmas.List.{length-map}
use Rattle.std.proofs.lemmas.Option.{same_Some}
use Rattle.heap_words.specs.Access.{table_index}
use Rattle.shen_graph.specs.declared.order.Order.TheVariants.{Nothing}
use Rattle.heap_machines.specs.Answer.{says}
use Rattle.heap_machines.specs.Shown.{shown, no_machine}
use Rattle.heap_machines.specs.declared.stepped.Stepped.{Stepped}
use Rattle.step_core.specs.Actor.{Actor}
use Rattle.heap_words.specs.Steps.{Event}
use Rattle.shen_graph.specs.declared.history.Entry.{Entry}
use Rattle.shen_graph.specs.declared.order.Order.{Order}
use Rattle.step_core.specs.Machines.{plan_of, place_in}
use Rattle.step_core.specs.History.{told}
use Rattle.step_core.specs.Schedule.{Agenda, Next, turn}
use Rattle.shen_core.specs.declared.plain.Plain.{Plain}
use Rattle.shen_core.specs.State.{config_of, words_of, orders_of, machines_of, machine_at, order_at, has_turn, seats_of, word_found_by, next_machine, IsStep}
use Rattle.shen_core.specs.Progress.{Jobs, IsTurn, IsNextTurn}
use Rattle.shen_core.specs.Runs.{event}
use Rattle.shen_core.specs.Noting.{IsEnding, Settles, entries_in}
use Rattle.shen_core.proofs.Events.{shown_actor}
use Rattle.shen_core.proofs.Turns.{machine_within, role_shown}
use Rattle.shen_core.proofs.Noted.{IsStepped}
use Rattle.shen_core.specs.declared.seen.Seen.{Seen}
use Rattle.shen_core.specs.declared.walk.Walk.{Walk}
use Rattle.shen_core.specs.Seen.{Sees, SeesTurn, SettlesTurn}
use Rattle.shen_core.specs.Agendas.{agenda_in}
use Rattle.shen_core.specs.Nexts.{HasSameNext, IsDueNext, SettlesNext}

-- an order and then a step
pub stepped : (plain mid plain_then : Plain) (jobs : Jobs) (number : ℕ) (turn_there : Bool) (step_said : Stepped) → number < seats_of plain
    → words_of mid ≡ words_of plain → machines_of mid ≡ machines_of plain → config_of mid ≡ config_of plain → orders_of mid ≡ slice_set (orders_of plain) number (order_at mid number)
    → IsTurn plain jobs number turn_there (order_at mid number) → IsNextTurn plain jobs number turn_there (order_at mid number) → has_turn mid number ≡ turn_there → turn_there ≡ true
    → (has_turn mid number ≡ true → IsStep mid plain_then number)
    → (has_turn mid number ≡ true → step_said ≡ says (config_of mid) (order_at mid number) (machine_at mid number) (word_found_by mid number))
    → (has_turn mid number ≡ true → machines_of plain_then ≡ slice_set (machines_of mid) number (next_machine mid number))
    → (has_turn mid number ≡ true → orders_of plain_then ≡ slice_set (orders_of mid) number Nothing)
    → config_of plain_then ≡ config_of mid → IsStepped plain mid plain_then jobs number step_said
stepped plain mid plain_then jobs number turn_there step_said number_below words machines config orders turns next_turn has_is turn_is steps says machines_then orders_then config_then =
    let within : number < length (machines_of plain) = omega (arith, length-map plain.machines.items shown, plain.all_machines, number_below) in
    let busy = has_is ∙ turn_is in
    record {
      within = within;
      mid_words = words;
      mid_machines = machines;
      mid_config = config;
      mid_orders = orders;
      role = role_shown plain.config plain.words.items _ number _ plain.reached (machine_within (machines_of plain) number within);
      turn = subst (λ turn_test. IsTurn plain jobs number turn_test (order_at mid number)) turn_is turns;
      next = subst (λ turn_test. IsNextTurn plain jobs number turn_test (order_at mid number)) turn_is next_turn;
      has = busy;
      event = steps busy;
      says = says busy;
      machines = machines_then busy;
      orders = orders_then busy;
      config = config_then;
    }

-- what was seen before the step is of its event
pub sees_turn : (plain mid plain_then : Plain) (jobs : Jobs) (number : ℕ) (step_said : Stepped) (turn_seen : Seen) → IsStepped plain mid plain_then jobs number step_said
    → turn_seen.number ≡ number → turn_seen.place ≡ place_in (order_at mid number) (machine_at mid number) → turn_seen.access ≡ plan_of (config_of mid) (order_at mid number) (machine_at mid number)
    → turn_seen.found ≡ slice_index (words_of mid) (table_index turn_seen.access) → SeesTurn plain jobs number turn_seen
sees_turn plain mid plain_then jobs number step_said turn_seen facts number_is place_is access_is found_is scripts stage shows tells turn_event turn_is =
    subst (λ asked_event. Sees (config_of plain) stage asked_event turn_seen) (same_Some _ _ (sym (facts.turn scripts stage shows tells) ∙ turn_is))
    (record {
      number_is = number_is;
      place_is = λ actor here. place_is ∙ ap (place_in (order_at mid number)) (machine actor here);
      access_is = λ actor here. access_is ∙ ap (λ asked_config. plan_of asked_config (order_at mid number) (machine_at mid number)) facts.mid_config ∙ ap (plan_of (config_of plain) (order_at mid number)) (machine actor here);
      found_is = found_is ∙ ap (λ some_words. slice_index some_words (table_index turn_seen.access)) (facts.mid_words ∙ sym shows.words_are);
    })
  where
    machine : (actor : Actor) → slice_get stage.machines number ≡ Some actor → machine_at mid number ≡ actor.machine
    machine actor actor_there =
        let found = shown_actor (words_of plain) (machines_of plain) stage number (machine_at plain number) shows (machine_within (machines_of plain) number facts.within) in
        ap (λ some_machines. get_or some_machines number no_machine) facts.mid_machines ∙ sym found.2 ∙ ap (λ asked_event. asked_event.machine) (same_Some _ _ (sym found.1 ∙ actor_there))

-- what its step settles is what its event does
pub settles_turn : (plain mid plain_then : Plain) (jobs : Jobs) (number : ℕ) (step_said : Stepped) (entry : Option Entry) → IsStepped plain mid plain_then jobs number step_said → Settles mid number entry → SettlesTurn plain jobs number entry
settles_turn plain mid plain_then jobs number step_said entry facts settles scripts stage shows tells ends turn_event turn_is =
    subst (λ asked_event. told (config_of plain) stage asked_event ≡ entries_in entry) (same_Some _ _ (sym (facts.turn scripts stage shows tells) ∙ turn_is))
    (sym (ap (λ asked_config. told asked_config stage (event number (order_at mid number))) facts.mid_config)
    ∙ settles stage (record { words_are = shows.words_are ∙ sym facts.mid_words; machines_are = shows.machines_are ∙ sym facts.mid_machines }) (subst (λ asked_config. IsEnding asked_config stage) (sym facts.mid_config) ends))

-- and so of the walk's next event
pub settles_next : (plain : Plain) (jobs : Jobs) (todo : Agenda) (walk : Walk) (number : ℕ) (entry : Option Entry) → HasSameNext plain jobs todo (agenda_in walk) → IsDueNext plain jobs walk number → SettlesTurn plain jobs number entry → SettlesNext plain jobs todo entry
settles_next plain jobs todo walk number entry same_next due settles scripts stage shows tells ends next_event next_is = by_turn (turn scripts stage number) refl
  where
    by_turn : (found : Option (Event Order)) → turn scripts stage number ≡ found → told (config_of plain) stage next_event.event ≡ entries_in entry
    by_turn None no_turn = let turn_due = due.has scripts stage shows in let false_true : false ≡ true = ap is_some (sym no_turn) ∙ turn_due in absurd cc
    by_turn (Some turn_event) turn_found =
        let same_event = sym (due.next_is scripts stage shows tells turn_event turn_found) ∙ sym (same_next scripts stage shows tells) ∙ next_is in
        subst (λ asked_event. told (config_of plain) stage asked_event ≡ entries_in entry) (ap (λ (some_next : Next). some_next.event) (same_Some _ _ same_event)) (settles scripts stage shows tells ends turn_event turn_found)
