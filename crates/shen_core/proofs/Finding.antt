-- Which machine makes the next event of a walk.
use Rattle.std.proofs.Common.{◌≡◌, ◌<◌, ◌≤◌, ⊎_elim, ℕ, zero, suc, ◌+◌, ◌-◌, Bool, true, false, [], ◌++◌, map, Some, None, sym, ap, ◌∙◌, arith}
use Rattle.std.proofs.lemmas.Bool.{cases_lt}
use Rattle.shen_graph.proofs.Options.{none_if_not_some}
use Rattle.heap_words.specs.declared.config.Config.{Config}
use Rattle.heap_words.specs.Ranges.{seat_count}
use Rattle.heap_words.specs.declared.schedule.Item.{Item}
use Rattle.heap_words.specs.declared.schedule.Item.TheVariants.{Steps, Until, Replies}
use Rattle.heap_words.specs.Steps.{Stage}
use Rattle.step_core.specs.Actor.{Actor}
use Rattle.step_core.specs.Settled.{control_number}
use Rattle.step_core.specs.Schedule.{Scripts, turn, waits, waits_then, task_of, moves, move_of, control_after, next, next_by, after_move}
use Rattle.shen_core.specs.declared.plain.Plain.{Plain}
use Rattle.shen_core.specs.State.{config_of, seats_of, Shows}
use Rattle.shen_core.specs.Progress.{Jobs, HasNext, AllIdle, IsInSeats, agenda}
use Rattle.shen_core.proofs.Rounds.{round_pass, round_move, round_again, idle_round}
use Rattle.shen_core.specs.declared.walk.Walk.{Walk}
use Rattle.shen_core.specs.Agendas.{agenda_number, tasks_of, tasks_after, later_in, agenda_in, after_by, agenda_after, weight_of, weight_in, IsWalkOf, HasNoItem}
use Rattle.shen_core.specs.Nexts.{IsOver, WalksOn, AreIdleFrom, HasSameNext, HasNoNext, IsDueNext}

-- idle machines are passed over
passes_by : (config : Config) (scripts : Scripts) (stage : Stage Actor) (seat count : ℕ) → seat + count ≤ seat_count config.mutators config.helpers → ((number : ℕ) → seat ≤ number → number < seat + count → turn scripts stage number ≡ None) → next config scripts stage (agenda [] seat) ≡ next config scripts stage (agenda [] (seat + count))
passes_by config scripts stage seat zero seats_within each_idle = ap (λ number. next config scripts stage (agenda [] number)) (omega arith)
passes_by config scripts stage seat (suc count) seats_within each_idle =
    round_pass config scripts stage seat (omega arith) (each_idle seat (omega arith) (omega arith))
    ∙ passes_by config scripts stage (seat + 1) count (omega arith) (λ number from number_below. each_idle number (omega arith) (omega arith))
    ∙ ap (λ number. next config scripts stage (agenda [] number)) (omega arith)

pub passes : (plain : Plain) (seat later_seat : ℕ) → seat ≤ later_seat → later_seat ≤ seats_of plain → AreIdleFrom plain seat later_seat → (scripts : Scripts) (stage : Stage Actor) → Shows plain stage → next (config_of plain) scripts stage (agenda [] seat) ≡ next (config_of plain) scripts stage (agenda [] later_seat)
passes plain seat later_seat seat_less later_within idle scripts stage shows =
    passes_by (config_of plain) scripts stage seat (later_seat - seat) (omega arith) (λ number from number_below. idle scripts stage shows number from (omega arith))
    ∙ ap (λ number. next (config_of plain) scripts stage (agenda [] number)) (omega arith)

-- the machines from one on, and then those before it
pub passes_round : (plain : Plain) (seat later_seat : ℕ) → seat ≤ seats_of plain → later_seat ≤ seats_of plain → AreIdleFrom plain seat (seats_of plain) → AreIdleFrom plain 0 later_seat → (scripts : Scripts) (stage : Stage Actor) → Shows plain stage → next (config_of plain) scripts stage (agenda [] seat) ≡ next (config_of plain) scripts stage (agenda [] later_seat)
passes_round plain seat later_seat seat_within seat_below later sooner scripts stage shows =
    passes plain seat (seats_of plain) seat_within (omega arith) later scripts stage shows
    ∙ round_again (config_of plain) scripts stage
    ∙ passes plain 0 later_seat (omega arith) seat_below sooner scripts stage shows

-- all are idle
pub none_busy : (plain : Plain) (jobs : Jobs) (a : ℕ) → AreIdleFrom plain a (seats_of plain) → AreIdleFrom plain 0 a → AllIdle plain jobs
none_busy plain jobs a later sooner scripts stage shows tells number number_below = ⊎_elim
    (λ (number_before : number < a). sooner scripts stage shows number (omega arith) number_before)
    (λ (number_after : a ≤ number). later scripts stage shows number number_after number_below)
    (cases_lt number a)

-- where all are idle, there is no event
pub none_round : (plain : Plain) (seat : ℕ) → seat ≤ seats_of plain → AreIdleFrom plain seat (seats_of plain) → AreIdleFrom plain 0 seat → (scripts : Scripts) (stage : Stage Actor) → Shows plain stage → next (config_of plain) scripts stage (agenda [] seat) ≡ None
none_round plain seat seat_within later sooner scripts stage shows =
    passes_round plain seat 0 seat_within (omega arith) later (λ scripts stage shows number from number_below. absurd (omega arith)) scripts stage shows
    ∙ idle_round (config_of plain) scripts stage (λ number number_below. ⊎_elim
    (λ (number_before : number < seat). sooner scripts stage shows number (omega arith) number_before)
    (λ (number_after : seat ≤ number). later scripts stage shows number number_after number_below)
    (cases_lt number seat))

-- where no item is left, the rounds are to be done
pub only_rounds : (walk : Walk) → HasNoItem walk → agenda_in walk ≡ agenda [] walk.from
only_rounds walk no_item =
    ap (λ control_due. agenda (control_after control_due ++ (tasks_of walk.present ++ later_in walk)) walk.from) no_item.control
    ∙ ap (λ item. agenda (tasks_of item ++ later_in walk) walk.from) no_item.present
    ∙ ap (λ items. agenda (map task_of items) walk.from) no_item.later

-- and after a turn there the next machine has its own
after_rounds : (walk : Walk) (number : ℕ) (waiting : Bool) → HasNoItem walk → agenda_after walk number waiting ≡ agenda [] (number + 1)
after_rounds walk number waiting no_item =
    ap (λ control_due. after_by control_due walk.present (later_in walk) walk.from number waiting) no_item.control
    ∙ ap (λ item. after_by false item (later_in walk) walk.from number waiting) no_item.present

-- the rounds stand at another machine
abbrev pub with_from : Walk → ℕ → Walk
with_from walk number = record walk { from = number }

moved_none : (walk : Walk) (number : ℕ) → HasNoItem walk → HasNoItem (with_from walk number)
moved_none walk number no_item = record { control = no_item.control; present = no_item.present; later = no_item.later }

-- the first machine that is not idle comes later in the round
pub rounds_later : (plain : Plain) (jobs : Jobs) (walk : Walk) (number : ℕ) → HasNoItem walk → walk.from ≤ number → number < seats_of plain → AreIdleFrom plain walk.from number → HasSameNext plain jobs (agenda_in walk) (agenda_in (with_from walk number))
rounds_later plain jobs walk number no_item number_later number_below idle scripts stage shows tells =
    ap (next (config_of plain) scripts stage) (only_rounds walk no_item)
    ∙ passes plain walk.from number number_later (omega arith) idle scripts stage shows
    ∙ sym (ap (next (config_of plain) scripts stage) (only_rounds (with_from walk number) (moved_none walk number no_item)))

-- or it comes in the next round
pub rounds_sooner : (plain : Plain) (jobs : Jobs) (walk : Walk) (number : ℕ) → HasNoItem walk → walk.from ≤ seats_of plain → number < walk.from → AreIdleFrom plain walk.from (seats_of plain) → AreIdleFrom plain 0 number → HasSameNext plain jobs (agenda_in walk) (agenda_in (with_from walk number))
rounds_sooner plain jobs walk number no_item from_within number_earlier later sooner scripts stage shows tells =
    ap (next (config_of plain) scripts stage) (only_rounds walk no_item)
    ∙ passes_round plain walk.from number from_within (omega arith) later sooner scripts stage shows
    ∙ sym (ap (next (config_of plain) scripts stage) (only_rounds (with_from walk number) (moved_none walk number no_item)))

-- or there is none
pub rounds_none : (plain : Plain) (jobs : Jobs) (walk : Walk) → HasNoItem walk → walk.from ≤ seats_of plain → AreIdleFrom plain walk.from (seats_of plain) → AreIdleFrom plain 0 walk.from → HasNoNext plain jobs (agenda_in walk)
rounds_none plain jobs walk no_item from_within later sooner scripts stage shows tells =
    ap (next (config_of plain) scripts stage) (only_rounds walk no_item) ∙ none_round plain walk.from from_within later sooner scripts stage shows

-- its event is the next one
pub rounds_due : (plain : Plain) (jobs : Jobs) (walk : Walk) (number : ℕ) → HasNoItem walk → number < seats_of plain → HasNext plain number true → IsDueNext plain jobs (with_from walk number) number
rounds_due plain jobs walk number no_item number_below has_next = record {
  within = number_below;
  has = has_next;
  rounds = λ control present. no_item.later;
  next_is = λ scripts stage shows tells event found_next.
      ap (next (config_of plain) scripts stage) (only_rounds (with_from walk number) (moved_none walk number no_item))
      ∙ round_move (config_of plain) scripts stage number event number_below found_next
      ∙ ap (λ agenda_then. Some (record { event = event; agenda = agenda_then })) (sym (after_rounds (with_from walk number) number (waits (config_of plain) stage event) (moved_none walk number no_item)));
}

-- the control makes its step
pub control_is_due : (plain : Plain) (jobs : Jobs) (walk : Walk) (number : ℕ) → walk.control_due ≡ true → number ≡ control_number (config_of plain) → number < seats_of plain → HasNext plain number true → IsDueNext plain jobs walk number
control_is_due plain jobs walk number due control_here number_below has_next = record {
  within = number_below;
  has = has_next;
  rounds = λ control. absurd (let clash : true ≡ false = sym due ∙ control in cc);
  next_is = λ scripts stage shows tells event turns.
      ap (λ control_due. next (config_of plain) scripts stage (agenda (control_after control_due ++ (tasks_of walk.present ++ later_in walk)) walk.from)) due
      ∙ ap (λ turned. after_move (moves turned []) (tasks_of walk.present ++ later_in walk) walk.from (next_by (config_of plain) scripts stage (tasks_of walk.present ++ later_in walk) walk.from)) (ap (turn scripts stage) (sym control_here) ∙ turns)
      ∙ ap (λ control_due. Some (record { event = event; agenda = after_by control_due walk.present (later_in walk) walk.from number (waits (config_of plain) stage event) })) (sym due);
}

-- or it is idle, and passed over
pub control_passed : (plain : Plain) (jobs : Jobs) (walk : Walk) (number : ℕ) → walk.control_due ≡ true → number ≡ control_number (config_of plain) → HasNext plain number false → HasSameNext plain jobs (agenda_in walk) (agenda_in (record walk { control_due = false }))
control_passed plain jobs walk number due control_here has_next scripts stage shows tells =
    ap (λ control_due. next (config_of plain) scripts stage (agenda (control_after control_due ++ (tasks_of walk.present ++ later_in walk)) walk.from)) due
    ∙ ap (λ turned. after_move (moves turned []) (tasks_of walk.present ++ later_in walk) walk.from (next_by (config_of plain) scripts stage (tasks_of walk.present ++ later_in walk) walk.from)) (ap (turn scripts stage) (sym control_here) ∙ none_if_not_some (turn scripts stage number) (has_next scripts stage shows))

-- the machine of an item is one of the heap
pub item_within : (config : Config) (item : Item) → IsInSeats config item → agenda_number item < seat_count config.mutators config.helpers
item_within config (Steps number count) in_seats = in_seats
item_within config (Until number place) in_seats = in_seats
item_within config (Replies number count) in_seats = omega arith

-- the item at work is left
abbrev pub without_item : Walk → Walk
without_item walk = record walk { present = None }

pub left_walk : (config : Config) (walk : Walk) → IsWalkOf config walk → IsWalkOf config (without_item walk)
left_walk config old_walk walk = record { items = walk.items; present = tt; from = walk.from }

-- less is left then
pub left_less : (walk : Walk) (item : Item) (before : ℕ) → walk.present ≡ Some item → weight_in walk ≤ before → weight_in (without_item walk) < before
left_less walk item before present weight_within = let weight_one : weight_of walk.present ≡ 1 = ap weight_of present in omega arith

module _ (plain : Plain) (jobs : Jobs) (walk : Walk) (item : Item) (control : walk.control_due ≡ false) (present : walk.present ≡ Some item) where
  -- the item comes first
  item_first : (scripts : Scripts) (stage : Stage Actor) → next (config_of plain) scripts stage (agenda_in walk) ≡ after_move (move_of (config_of plain) scripts stage (task_of item)) (later_in walk) walk.from (next_by (config_of plain) scripts stage (later_in walk) walk.from)
  item_first scripts stage =
      ap (λ control_due. next (config_of plain) scripts stage (agenda (control_after control_due ++ (tasks_of walk.present ++ later_in walk)) walk.from)) control
      ∙ ap (λ some_item. next (config_of plain) scripts stage (agenda (tasks_of some_item ++ later_in walk) walk.from)) present

  -- it makes the next event where it goes on, and its machine has a turn
  pub item_due : WalksOn plain jobs item → IsInSeats (config_of plain) item → HasNext plain (agenda_number item) true → IsDueNext plain jobs walk (agenda_number item)
  item_due walks_on in_seats has_next = record {
    within = item_within (config_of plain) item in_seats;
    has = has_next;
    rounds = λ _ no_item. absurd (let clash : Some item ≡ None = sym present ∙ no_item in cc);
    next_is = λ scripts stage shows tells event turns.
        item_first scripts stage
        ∙ ap (λ move. after_move move (later_in walk) walk.from (next_by (config_of plain) scripts stage (later_in walk) walk.from))
        (walks_on scripts stage shows tells ∙ ap (λ turned. moves turned (tasks_after (waits_then (config_of plain) stage turned) item)) turns)
        ∙ ap (λ some_item. Some (record { event = event; agenda = after_by false some_item (later_in walk) walk.from (agenda_number item) (waits (config_of plain) stage event) })) (sym present)
        ∙ ap (λ control_due. Some (record { event = event; agenda = after_by control_due walk.present (later_in walk) walk.from (agenda_number item) (waits (config_of plain) stage event) })) (sym control);
  }

  -- it is passed over where it is done
  pub item_passed : IsOver plain jobs item → HasSameNext plain jobs (agenda_in walk) (agenda_in (without_item walk))
  item_passed item_over scripts stage shows tells =
      item_first scripts stage
      ∙ ap (λ move. after_move move (later_in walk) walk.from (next_by (config_of plain) scripts stage (later_in walk) walk.from)) (item_over scripts stage shows tells)
      ∙ sym (ap (λ control_due. next (config_of plain) scripts stage (agenda (control_after control_due ++ later_in walk) walk.from)) control)

  -- or where its machine has no turn
  pub item_idle : WalksOn plain jobs item → HasNext plain (agenda_number item) false → HasSameNext plain jobs (agenda_in walk) (agenda_in (without_item walk))
  item_idle walks_on has_next = item_passed (λ scripts stage shows tells.
      walks_on scripts stage shows tells
      ∙ ap (λ turned. moves turned (tasks_after (waits_then (config_of plain) stage turned) item)) (none_if_not_some (turn scripts stage (agenda_number item)) (has_next scripts stage shows)))
