-- Steps of a seat, and one more.
use Rattle.std.proofs.Common.{◌≡◌, ℕ, ◌+◌, Bool, true, false, List, [], ◌∷◌, length, Some, refl, sym, ap, ◌∙◌, arith}
use Rattle.std.specs.Prelude.{◌++◌, if◌then◌else◌}
use Rattle.std.proofs.lemmas.List.{length-append}
use Rattle.heap_words.specs.declared.config.Config.{Config}
use Rattle.heap_words.specs.declared.access.Took.TheVariants.{Done}
use Rattle.shen_graph.specs.declared.command.Command.{Command}
use Rattle.shen_graph.specs.declared.order.Order.{Order}
use Rattle.shen_graph.specs.declared.order.Order.TheVariants.{Nothing, Begin, End, Hint}
use Rattle.mutator.specs.declared.spot.Spot.{Spot}
use Rattle.mutator.specs.declared.spot.Spot.TheVariants.{Rest, Ended, Gone}
use Rattle.mutator.specs.Orders.{is_between_calls, takes_commands, takes_at}
use Rattle.mutator.specs.Rows.{Mutating, next_at}
use Rattle.heap_machines.specs.Answer.{stepped_by, says}
use Rattle.heap_machines.specs.Pause.{pause_image}
use Rattle.heap_machines.specs.declared.stepped.Stepped.{Stepped}
use Rattle.heap_machines.specs.declared.stepped.Stepped.TheVariants as stepped
use Rattle.heap_machines.proofs.Replies.{other_gives, busy_after, begun_after}
use Rattle.step_core.specs.Actor.{Machine, mutating}
use Rattle.step_core.specs.Machines.{may_begin, is_resting, takes_of, answer_of, machine_after}
use Rattle.heap_seats.specs.declared.seat.Seat.{Seat}
use Rattle.heap_seats.specs.Seats.{config_of, machine_of_seat, order_in, IsSameSeat}
use Rattle.heap_seats.specs.Going.{HasStepped, said_of_step, machine_through, said_through, order_left}

none_left : (words : List ℕ) → order_left Nothing words ≡ Nothing
none_left [] = refl
none_left (got ∷ words) = refl

left_more : (order : Order) (words : List ℕ) (got : ℕ) → order_left order (words ++ got ∷ []) ≡ Nothing
left_more order [] got = refl
left_more order (first_word ∷ words) got = refl

machine_more : (config : Config) (order : Order) (words : List ℕ) (got : ℕ) (machine : Machine)
    → machine_through config order (words ++ got ∷ []) machine ≡ machine_after pause_image config (order_left order words) got (machine_through config order words machine)
machine_more config order [] got machine = refl
machine_more config order (first_word ∷ words) got machine =
    let machine_next = machine_after pause_image config order first_word machine in
    machine_more config Nothing words got machine_next ∙ ap (λ (order : Order). machine_after pause_image config order got (machine_through config Nothing words machine_next)) (none_left words)

said_more : (config : Config) (order : Order) (words : List ℕ) (got : ℕ) (machine : Machine)
    → said_through config order (words ++ got ∷ []) machine ≡ said_through config order words machine ++ said_of_step config (order_left order words) (machine_through config order words machine) got ∷ []
said_more config order [] got machine = refl
said_more config order (first_word ∷ words) got machine =
    let machine_next = machine_after pause_image config order first_word machine in
    ap (λ (rest : List Stepped). said_of_step config order machine first_word ∷ rest)
    (said_more config Nothing words got machine_next
    ∙ ap (λ (order : Order). said_through config Nothing words machine_next ++ said_of_step config order (machine_through config Nothing words machine_next) got ∷ []) (none_left words))

-- the steps from one seat to another, and what they said
pub record Went (first now : Seat) (made : ℕ) (said : List Stepped) : Type 0 where
  pub words : List ℕ
  pub count : length words ≡ made
  pub machine : machine_of_seat now ≡ machine_through (config_of first) (order_in first) words (machine_of_seat first)
  pub order : order_in now ≡ order_left (order_in first) words
  pub each : said_through (config_of first) (order_in first) words (machine_of_seat first) ≡ said

pub went_more : (first_seat seat_now new : Seat) (made : ℕ) (before : List Stepped) (said : Stepped) → IsSameSeat first_seat seat_now → Went first_seat seat_now made before → HasStepped seat_now new said → Went first_seat new (made + 1) (before ++ said ∷ [])
went_more first_seat seat_now new made before said same_seat went step =
    let config = config_of first_seat in
    let order = order_in first_seat in
    let start = machine_of_seat first_seat in
    record {
      words = went.words ++ step.got ∷ [];
      count = let one_longer = length-append went.words (step.got ∷ []) in let count = went.count in omega (arith, one_longer, count);
      machine =
          step.machine ∙ ap (λ (config : Config). machine_after pause_image config (order_in seat_now) step.got (machine_of_seat seat_now)) same_seat.config
          ∙ ap (λ (order : Order). machine_after pause_image config order step.got (machine_of_seat seat_now)) went.order
          ∙ ap (λ (machine : Machine). machine_after pause_image config (order_left order went.words) step.got machine) went.machine ∙ sym (machine_more config order went.words step.got start);
      order = step.order ∙ sym (left_more order went.words step.got);
      each =
          said_more config order went.words step.got start
          ∙ ap (λ (machine : Machine). said_through config order went.words start ++ said_of_step config (order_left order went.words) machine step.got ∷ []) (sym went.machine)
          ∙ ap (λ (other_order : Order). said_through config order went.words start ++ said_of_step config other_order (machine_of_seat seat_now) step.got ∷ []) (sym went.order)
          ∙ ap (λ (other_config : Config). said_through config order went.words start ++ said_of_step other_config (order_in seat_now) (machine_of_seat seat_now) step.got ∷ []) (sym same_seat.config)
          ∙ ap (λ (x : Stepped). said_through config order went.words start ++ x ∷ []) (sym step.answers) ∙ ap (λ (said_list : List Stepped). said_list ++ said ∷ []) went.each;
    }

-- ---- who has made a step and has more to do may be given no order

taken : (turn : Bool) (said : Stepped) → (if turn then said else stepped.Idle) ≡ stepped.More → (turn ≡ true) × (said ≡ stepped.More)
taken true said says_more = (refl, says_more)
taken false said says_more = absurd cc

in_call : (spot : Spot) (made : ℕ) → takes_at spot made Nothing ≡ true → is_between_calls spot ≡ false
in_call Rest made takes = absurd cc
in_call (Ended reply) made takes = absurd cc
in_call Gone made takes = absurd cc
in_call _ made takes = refl

commanded : (spot : Spot) (made : ℕ) (command : Command) → takes_at spot made (Begin command) ≡ true → takes_commands spot ≡ true
commanded Rest made command takes = refl
commanded (Ended reply) made command takes = refl
commanded _ made command takes = absurd cc

never_hinted : (spot : Spot) (made address : ℕ) → takes_at spot made (Hint address) ≡ true → ⊥
never_hinted Rest made address takes = cc
never_hinted (Ended reply) made address takes = cc
never_hinted Gone made address takes = cc
never_hinted _ made address takes = cc

gone_then : (config : Config) (mutator : Mutating) (got : ℕ) (spot : Spot) → takes_at spot mutator.made End ≡ true → takes_commands (next_at config mutator End got spot).spot ≡ false
gone_then config mutator got Rest takes = refl
gone_then config mutator got (Ended reply) takes = refl
gone_then config mutator got _ takes = absurd cc

busy_takes_none : (machine : Machine) → is_resting machine ≡ false → may_begin machine ≡ false
busy_takes_none (mutating mutator) machine_busy = by_spot mutator.spot machine_busy
  where
    by_spot : (spot : Spot) → is_between_calls spot ≡ false → takes_commands spot ≡ false
    by_spot Rest spot_busy = absurd cc
    by_spot (Ended reply) spot_busy = absurd cc
    by_spot _ spot_busy = refl
busy_takes_none _ machine_busy = refl

not_done : (config : Config) (order : Order) (machine : Machine) (got : ℕ) → says config order machine got ≡ stepped.More → answer_of config order machine got ≡ Some Done → ⊥
not_done config order machine got says_more answers_done = let more_is_done : stepped.More ≡ stepped.Done = sym says_more ∙ ap stepped_by answers_done in cc

goes_on_busy : (config : Config) (order : Order) (got : ℕ) (mutator : Mutating) → takes_at mutator.spot mutator.made order ≡ true → says config order (mutating mutator) got ≡ stepped.More → may_begin (machine_after pause_image config order got (mutating mutator)) ≡ false
goes_on_busy config Nothing got mutator takes says_more =
    busy_takes_none (machine_after pause_image config Nothing got (mutating mutator))
    (busy_after pause_image config got (mutating mutator) (in_call mutator.spot mutator.made takes) (other_gives config Nothing (mutating mutator) got (not_done config Nothing (mutating mutator) got says_more)))
goes_on_busy config (Begin command) got mutator takes says_more =
    busy_takes_none (machine_after pause_image config (Begin command) got (mutating mutator)) (begun_after pause_image config command got (mutating mutator) (commanded mutator.spot mutator.made command takes))
goes_on_busy config End got mutator takes says_more = gone_then config mutator got mutator.spot takes
goes_on_busy config (Hint address) got mutator takes says_more = absurd (never_hinted mutator.spot mutator.made address takes)

by_role : (config : Config) (order : Order) (machine : Machine) (got : ℕ) → takes_of machine order ≡ true → says config order machine got ≡ stepped.More → may_begin (machine_after pause_image config order got machine) ≡ false
by_role config order (mutating mutator) got takes says_more = goes_on_busy config order got mutator takes says_more
by_role config order _ got takes says_more = refl

pub busy_step : (config : Config) (order : Order) (machine : Machine) (got : ℕ) → said_of_step config order machine got ≡ stepped.More → may_begin (machine_after pause_image config order got machine) ≡ false
busy_step config order machine got says_more =
    let turn_and_more = taken (takes_of machine order) (says config order machine got) says_more in
    by_role config order machine got turn_and_more.0 turn_and_more.1
