-- A seat that has made some steps, of which none ended its call, and what is known when it stops.
use Rattle.std.proofs.Common.{◌≡◌, ◌<◌, ◌≤◌, ℕ, zero, suc, ◌+◌, Bool, true, false, List, [], ◌∷◌, replicate, Option, Some, None, refl, sym, ap, ◌∙◌, subst, arith}
use Rattle.std.specs.Prelude.{◌++◌, nat_lt, unwrap_or}
use Rattle.std.proofs.lemmas.Bool.{false≢true}
use Rattle.std.proofs.lemmas.List.{append-nil, replicate_more}
use Rattle.heap_words.specs.declared.config.Config.{Config}
use Rattle.shen_graph.specs.declared.command.Command.{Command}
use Rattle.shen_graph.specs.declared.command.Reply.{Reply}
use Rattle.shen_graph.specs.History.{Entry}
use Rattle.heap_machines.specs.Roles.{is_mutating}
use Rattle.heap_machines.specs.declared.stepped.Stepped.{Stepped}
use Rattle.heap_machines.specs.declared.stepped.Stepped.TheVariants as stepped
use Rattle.step_core.specs.Actor.{Machine, mutating, Actor, entries_of}
use Rattle.step_core.specs.Machines.{may_begin, is_resting, reply_in, takes_of}
use Rattle.heap_words.specs.Steps.{Stage, HasReached}
use Rattle.table_heap.specs.Core.{heap_kind, start_of_key, nobody}
use Rattle.table_heap.specs.State.{start_in, has_turn}
use Rattle.table_heap.proofs.Running.{at_number, in_view, role_at}
use Rattle.heap_seats.specs.declared.progress.State.{State}
use Rattle.heap_seats.specs.declared.progress.State.TheVariants.{Free, AtWork, Ended}
use Rattle.heap_seats.specs.declared.progress.Progress.{Progress}
use Rattle.heap_seats.specs.declared.progress.Progress.TheVariants as progress
use Rattle.heap_seats.specs.declared.seat.Seat.{Seat}
use Rattle.heap_seats.specs.Seats.{config_of, number_of, start_of_seat, actor_in, machine_of_seat, order_in, steps_in, calls_of, doing_in, is_mutator, state_in, state_by, IsSameSeat}
use Rattle.heap_seats.specs.Going.{ArePartOfHistory, IsAsItWas, HasStepped, given_by, said_last, HasMadeSteps, progress_at, reply_told, FitsState, is_of_worker, HasGoneOn}
use Rattle.heap_seats.proofs.Histories.{calls_are_part}
use Rattle.heap_seats.proofs.MadeSteps.{Went, went_more, busy_step}

pub record GoesOn (first now : Seat) (made : ℕ) : Type 0 where
  pub same : IsSameSeat first now
  pub calls : calls_of now ≡ calls_of first
  pub doing : doing_in now ≡ doing_in first
  pub steps : steps_in now ≡ steps_in first + made
  pub went : Went first now made (replicate made stepped.More)
  pub unmoved : made ≡ 0 → IsAsItWas first now
  pub moved : 0 < made → may_begin (machine_of_seat now) ≡ false

was_then : (first_seat seat_now new : Seat) → IsAsItWas first_seat seat_now → IsAsItWas seat_now new → IsAsItWas first_seat new
was_then first_seat seat_now new as_it_was later_same = record { actor = later_same.actor ∙ as_it_was.actor; machine = later_same.machine ∙ as_it_was.machine; order = later_same.order ∙ as_it_was.order; steps = later_same.steps ∙ as_it_was.steps }

pub goes_first : (seat : Seat) → GoesOn seat seat 0
goes_first seat = record {
  same = record { config = refl; number = refl; heap = refl };
  calls = refl;
  doing = refl;
  steps = omega arith;
  went = record { words = []; count = refl; machine = refl; order = refl; each = refl };
  unmoved = λ none_made. record { actor = refl; machine = refl; order = refl; steps = refl };
  moved = λ some_made. absurd (omega (arith, some_made));
}

pub same_on : (first_seat seat_now new : Seat) → IsSameSeat first_seat seat_now → IsSameSeat seat_now new → IsSameSeat first_seat new
same_on first_seat seat_now new same_seat later_same = record { config = later_same.config ∙ same_seat.config; number = later_same.number ∙ same_seat.number; heap = later_same.heap ∙ same_seat.heap }

-- where its heap began
pub start_is : (seat : Seat) → start_in seat.bundle ≡ start_of_seat seat
start_is seat = ap start_of_key seat.fits.key

-- whenever no call is in progress, its calls are its part of a legal history
pub seat_legal : (seat : Seat) → is_resting (machine_of_seat seat) ≡ true → ∥ ArePartOfHistory (config_of seat) (start_of_seat seat) (number_of seat + 1) (calls_of seat) ∥₁
seat_legal seat machine_rests =
    let viewed = in_view seat.bundle seat.number seat.here in
    let same_machine : machine_of_seat seat ≡ viewed.0.machine = at_number seat.bundle seat.number viewed.0 viewed.1 in
    let actor : actor_in seat ≡ viewed.0 = ap (λ actor_found. unwrap_or actor_found nobody) viewed.1 in
    let start = start_in seat.bundle in
    let reached : ∥ HasReached (heap_kind seat.config) start seat.number viewed.0 ∥₁ = subst (λ (config : Config). ∥ HasReached (heap_kind config) start seat.number viewed.0 ∥₁) seat.same_config (seat.reached seat.number viewed.0 viewed.1) in
    subst (λ (stage : Stage Actor). ∥ ArePartOfHistory seat.config stage (seat.number + 1) (calls_of seat) ∥₁) (start_is seat)
    (subst (λ (actor : Actor). ∥ ArePartOfHistory seat.config start (seat.number + 1) actor.calls ∥₁) (sym actor)
    (calls_are_part seat.config start seat.renewable seat.number viewed.0 reached (ap is_resting (sym same_machine) ∙ machine_rests)))

-- the calls after a step
calls_after : (first_seat seat_now new : Seat) (made : ℕ) (said : Stepped) (told : Option Reply) → GoesOn first_seat seat_now made → HasStepped seat_now new said → given_by said (machine_of_seat new) ≡ told
    → calls_of new ≡ calls_of first_seat ++ entries_of (number_of first_seat) (doing_in first_seat) told
calls_after first_seat seat_now new made said told gone_on step given_told =
    step.calls ∙ ap (λ (entry_list : List Entry). entry_list ++ entries_of (number_of seat_now) (doing_in seat_now) (given_by said (machine_of_seat new))) gone_on.calls
    ∙ ap (λ (n : ℕ). calls_of first_seat ++ entries_of n (doing_in seat_now) (given_by said (machine_of_seat new))) gone_on.same.number
    ∙ ap (λ (command : Command). calls_of first_seat ++ entries_of (number_of first_seat) command (given_by said (machine_of_seat new))) gone_on.doing
    ∙ ap (λ (found : Option Reply). calls_of first_seat ++ entries_of (number_of first_seat) (doing_in first_seat) found) given_told

-- one step more, and there is more to do
pub goes_more : (first_seat seat_now new : Seat) (made : ℕ) (said : Stepped) → GoesOn first_seat seat_now made → IsSameSeat seat_now new → HasStepped seat_now new said → said ≡ stepped.More → GoesOn first_seat new (made + 1)
goes_more first_seat seat_now new made said gone_on same_seat step says_more = record {
  same = same_on first_seat seat_now new gone_on.same same_seat;
  calls = calls_after first_seat seat_now new made said None gone_on step (ap (λ (x : Stepped). given_by x (machine_of_seat new)) says_more) ∙ append-nil (calls_of first_seat);
  doing = step.doing ∙ gone_on.doing;
  steps = let steps = step.steps in let steps_before = gone_on.steps in omega (arith, steps, steps_before);
  went = subst (Went first_seat new (made + 1)) (ap (λ (other_stepped : Stepped). replicate made stepped.More ++ other_stepped ∷ []) says_more ∙ replicate_more made stepped.More) (went_more first_seat seat_now new made (replicate made stepped.More) said gone_on.same gone_on.went step);
  unmoved = λ none_made. absurd (omega (arith, none_made));
  moved = λ some_made.
      ap may_begin step.machine ∙ busy_step (config_of seat_now) (order_in seat_now) (machine_of_seat seat_now) step.got (sym step.answers ∙ says_more);
}

-- the steps that were made where this was told
made_steps : (first_seat new : Seat) (made before : ℕ) (told : Progress) → steps_in new ≡ steps_in first_seat + made → Went first_seat new made (replicate before stepped.More ++ said_last told) → HasMadeSteps first_seat new told
made_steps first_seat new made before told steps went = record {
  words = went.words;
  before = before;
  count = let count = went.count in omega (arith, steps, count);
  machine = went.machine;
  order = went.order;
  said = went.each;
}

-- and where a step told it
made_last : (first_seat seat_now new : Seat) (made : ℕ) (said : Stepped) (told : Progress) → GoesOn first_seat seat_now made → HasStepped seat_now new said → said ∷ [] ≡ said_last told → HasMadeSteps first_seat new told
made_last first_seat seat_now new made said told gone_on step last_said =
    made_steps first_seat new (made + 1) made told (let steps = step.steps in let steps_before = gone_on.steps in omega (arith, steps, steps_before))
    (subst (λ (said_list : List Stepped). Went first_seat new (made + 1) (replicate made stepped.More ++ said_list)) last_said (went_more first_seat seat_now new made (replicate made stepped.More) said gone_on.same gone_on.went step))

-- ---- helpers and the control

seat_role : (seat : Seat) → is_mutating (machine_of_seat seat) ≡ is_mutator seat
seat_role seat =
    let viewed = in_view seat.bundle seat.number seat.here in
    ap is_mutating (at_number seat.bundle seat.number viewed.0 viewed.1) ∙ role_at seat.bundle seat.number viewed.0 viewed.1 ∙ ap (λ (config : Config). nat_lt seat.number config.mutators) seat.same_config

-- only a mutator has a reply, or may be given an order
reply_is_mutators : (machine : Machine) (reply : Reply) → reply_in machine ≡ Some reply → is_mutating machine ≡ true
reply_is_mutators (mutating mutator) reply reply_there = refl
reply_is_mutators _ reply reply_there = absurd cc

begins_is_mutators : (machine : Machine) → may_begin machine ≡ true → is_mutating machine ≡ true
begins_is_mutators (mutating mutator) can_begin = refl
begins_is_mutators _ can_begin = absurd cc

may_of_free : (turn can_begin : Bool) → progress_at (state_by turn can_begin) ≡ progress.Idle → can_begin ≡ true
may_of_free false true is_idle = refl
may_of_free false false is_idle = absurd cc
may_of_free true can_begin is_idle = absurd cc

told_worker : (told : Progress) (machine : Machine) (turn : Bool) → FitsState told machine (state_by turn (may_begin machine)) → is_mutating machine ≡ false → is_of_worker told ≡ true
told_worker (progress.Replied reply) machine turn fits not_mutating = absurd (false≢true (sym not_mutating ∙ reply_is_mutators machine reply fits))
told_worker progress.Idle machine turn fits not_mutating = absurd (false≢true (sym not_mutating ∙ begins_is_mutators machine (may_of_free turn (may_begin machine) fits)))
told_worker progress.More machine turn fits not_mutating = refl
told_worker progress.Again machine turn fits not_mutating = refl
told_worker progress.Ended machine turn fits not_mutating = refl

seat_worker : (seat : Seat) (told : Progress) → FitsState told (machine_of_seat seat) (state_in seat) → is_mutator seat ≡ false → is_of_worker told ≡ true
seat_worker seat told fits not_mutator = told_worker told (machine_of_seat seat) (has_turn seat.bundle seat.number) fits (seat_role seat ∙ not_mutator)

-- ---- where it stops

-- a reply ends it
pub gone_replied : (first_seat seat_now new : Seat) (made steps : ℕ) (said : Stepped) (reply : Reply) → GoesOn first_seat seat_now made → IsSameSeat seat_now new → HasStepped seat_now new said → said ≡ stepped.Done → reply_in (machine_of_seat new) ≡ Some reply → made < steps
    → HasGoneOn first_seat new steps (progress.Replied reply)
gone_replied first_seat seat_now new made steps said reply gone_on same_seat step says_done replied made_below = record {
  same = same_on first_seat seat_now new gone_on.same same_seat;
  calls = calls_after first_seat seat_now new made said (Some reply) gone_on step (ap (λ (x : Stepped). given_by x (machine_of_seat new)) says_done ∙ replied);
  doing = step.doing ∙ gone_on.doing;
  most = omega (arith, step.steps, gone_on.steps, made_below);
  all = λ says_more. absurd cc;
  made = made_last first_seat seat_now new made said (progress.Replied reply) gone_on step (ap (λ (x : Stepped). x ∷ []) says_done);
  told = replied;
  idle = λ idle. absurd cc;
  worker = seat_worker new (progress.Replied reply) replied;
  legal = seat_legal new;
}

-- and so does a step that waits
pub gone_again : (first_seat seat_now new : Seat) (made steps : ℕ) (said : Stepped) → GoesOn first_seat seat_now made → IsSameSeat seat_now new → HasStepped seat_now new said → said ≡ stepped.Again → made < steps → HasGoneOn first_seat new steps progress.Again
gone_again first_seat seat_now new made steps said gone_on same_seat step says_again made_below = record {
  same = same_on first_seat seat_now new gone_on.same same_seat;
  calls = calls_after first_seat seat_now new made said None gone_on step (ap (λ (x : Stepped). given_by x (machine_of_seat new)) says_again);
  doing = step.doing ∙ gone_on.doing;
  most = omega (arith, step.steps, gone_on.steps, made_below);
  all = λ says_more. absurd cc;
  made = made_last first_seat seat_now new made said progress.Again gone_on step (ap (λ (x : Stepped). x ∷ []) says_again);
  told = tt;
  idle = λ idle. absurd cc;
  worker = λ not_mutator. refl;
  legal = seat_legal new;
}

fits_state : (machine : Machine) (state : State) → FitsState (progress_at state) machine state
fits_state machine Free = refl
fits_state machine AtWork = refl
fits_state machine Ended = refl

none_told : (state : State) → reply_told (progress_at state) ≡ None
none_told Free = refl
none_told AtWork = refl
none_told Ended = refl

-- and no step told it
none_last : (state : State) → said_last (progress_at state) ≡ []
none_last Free = refl
none_last AtWork = refl
none_last Ended = refl

-- it stops where it stands
stops : (first_seat seat_now : Seat) (made steps : ℕ) (said : Progress) → GoesOn first_seat seat_now made → said ≡ progress_at (state_in seat_now) → made ≤ steps → (said ≡ progress.More → made ≡ steps) → HasGoneOn first_seat seat_now steps said
stops first_seat seat_now made steps said gone_on said_state made_within all_made = record {
  same = gone_on.same;
  calls = gone_on.calls ∙ sym (append-nil (calls_of first_seat)) ∙ ap (λ (found : Option Reply). calls_of first_seat ++ entries_of (number_of first_seat) (doing_in first_seat) found) (sym (ap reply_told said_state ∙ none_told (state_in seat_now)));
  doing = gone_on.doing;
  most = omega (arith, gone_on.steps, made_within);
  all = λ says_more. let count : made ≡ steps = all_made says_more in omega (arith, gone_on.steps, count);
  made =
      made_steps first_seat seat_now made made said gone_on.steps
      (subst (Went first_seat seat_now made) (sym (append-nil (replicate made stepped.More)) ∙ ap (λ (said_list : List Stepped). replicate made stepped.More ++ said_list) (sym (ap said_last said_state ∙ none_last (state_in seat_now)))) gone_on.went);
  told = fits;
  idle = λ idle. gone_on.unmoved (none_made (may_of_free (has_turn seat_now.bundle seat_now.number) (may_begin (machine_of_seat seat_now)) (sym said_state ∙ idle)));
  worker = seat_worker seat_now said fits;
  legal = seat_legal seat_now;
}
  where
    fits : FitsState said (machine_of_seat seat_now) (state_in seat_now)
    fits = subst (λ (any_progress : Progress). FitsState any_progress (machine_of_seat seat_now) (state_in seat_now)) (sym said_state) (fits_state (machine_of_seat seat_now) (state_in seat_now))

    -- who is free has made none
    by_count : (count : ℕ) → (0 < count → may_begin (machine_of_seat seat_now) ≡ false) → may_begin (machine_of_seat seat_now) ≡ true → count ≡ 0
    by_count zero busy_if_moved can_begin = refl
    by_count (suc count) busy_if_moved can_begin = absurd (false≢true (sym (busy_if_moved (omega arith)) ∙ can_begin))

    none_made : may_begin (machine_of_seat seat_now) ≡ true → made ≡ 0
    none_made = by_count made gone_on.moved

-- all steps are made
pub gone_all : (first_seat seat_now : Seat) (made steps : ℕ) (said : Progress) → GoesOn first_seat seat_now made → said ≡ progress_at (state_in seat_now) → made ≤ steps → steps ≤ made → HasGoneOn first_seat seat_now steps said
gone_all first_seat seat_now made steps said gone_on said_state made_within steps_made = stops first_seat seat_now made steps said gone_on said_state made_within (λ says_more. omega (arith, made_within, steps_made))

no_more_at : (turn can_begin : Bool) → turn ≡ false → progress_at (state_by turn can_begin) ≡ progress.More → ⊥
no_more_at false true idle says_more = absurd cc
no_more_at false false idle says_more = absurd cc
no_more_at true can_begin idle says_more = absurd cc

-- there was none to make
pub gone_idle : (first_seat seat_now new : Seat) (made steps : ℕ) (said : Progress) → GoesOn first_seat seat_now made → IsSameSeat seat_now new → IsAsItWas seat_now new → has_turn seat_now.bundle seat_now.number ≡ false → said ≡ progress_at (state_in new) → made < steps → HasGoneOn first_seat new steps said
gone_idle first_seat seat_now new made steps said gone_on same_seat still_same idle said_state made_below =
    let turn : has_turn new.bundle new.number ≡ false = ap (λ (machine : Machine). takes_of machine (order_in new)) still_same.machine ∙ ap (takes_of (machine_of_seat seat_now)) still_same.order ∙ idle in
    stops first_seat new made steps said
    (record {
      same = same_on first_seat seat_now new gone_on.same same_seat;
      calls = ap (λ (actor : Actor). actor.calls) still_same.actor ∙ gone_on.calls;
      doing = ap (λ (actor : Actor). Rattle.step_core.specs.Actor.command_by (order_in new) actor.command) still_same.actor ∙ ap (λ order. Rattle.step_core.specs.Actor.command_by order (actor_in seat_now).command) still_same.order ∙ gone_on.doing;
      steps = still_same.steps ∙ gone_on.steps;
      went = record { words = gone_on.went.words; count = gone_on.went.count; machine = still_same.machine ∙ gone_on.went.machine; order = still_same.order ∙ gone_on.went.order; each = gone_on.went.each };
      unmoved = λ none_made. was_then first_seat seat_now new (gone_on.unmoved none_made) still_same;
      moved = λ some_made. ap may_begin still_same.machine ∙ gone_on.moved some_made;
    })
    said_state (omega (arith, made_below)) (λ says_more. absurd (no_more_at (has_turn new.bundle new.number) (may_begin (machine_of_seat new)) turn (sym said_state ∙ says_more)))
