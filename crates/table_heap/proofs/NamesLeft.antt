-- Names that are left for the allocations to come of a mutator, from step to step.
use Rattle.std.proofs.Common.{◌≡◌, ◌<◌, ◌≤◌, ℕ, ◌+◌, Bool, true, false, Option, Some, None, refl, sym, ap, ◌∙◌, subst, arith}
use Rattle.std.specs.Prelude.{if◌then◌else◌}
use Rattle.std.proofs.lemmas.Bool.{false≢true}
use Rattle.std.proofs.lemmas.Option.{same_Some}
use Rattle.heap_words.specs.declared.config.Config.{Config}
use Rattle.shen_graph.specs.declared.command.Command.{Command}
use Rattle.shen_graph.specs.declared.command.Reply.{Reply}
use Rattle.shen_graph.specs.declared.order.Order.{Order}
use Rattle.shen_graph.specs.declared.order.Order.TheVariants.{Nothing, Begin, End, Hint}
use Rattle.shen_graph.specs.Valid.{most_objects}
use Rattle.mutator.specs.declared.spot.Spot.{Spot}
use Rattle.mutator.specs.declared.spot.Spot.TheVariants.{Rest, Ended, Making, Waiting}
use Rattle.mutator.specs.Orders.{takes_commands}
use Rattle.mutator.specs.Rows.{Mutating, call_begun, next_at}
use Rattle.heap_world.specs.Change.{Change}
use Rattle.step_core.specs.Actor.{Machine, mutating}
use Rattle.step_core.specs.Machines.{machine_after, is_resting, may_begin, made_of_machine, at_hand_of, next_order}
use Rattle.table_heap.specs.Makes.{makes_object, may_stand, call_in, stands_in_its_call, making_at_hand, HasNamesFor}
use Rattle.heap_machines.specs.Roles.{reply_of_step, is_mutating}
use Rattle.heap_machines.specs.Turn.{order_for}
use Rattle.table_heap.proofs.Calling.{call_stands}
use Rattle.heap_machines.proofs.OnScript.{goes_on_with}
use Rattle.heap_machines.proofs.Replies.{given_after, none_after, rest_at_hand, ended_after}
use Rattle.heap_machines.proofs.Turns.{turn_at_rest, begins_at_rest}

-- a call keeps its command
command_kept : (config : Config) (mutator : Mutating) (got : ℕ) (spot : Spot) → (next_at config mutator Nothing got spot).kept.command ≡ mutator.kept.command
command_kept config mutator got Rest = refl
command_kept config mutator got _ = refl

pub call_kept : (change : Change) (config : Config) (got : ℕ) (machine : Machine) → call_in (machine_after change config Nothing got machine) ≡ call_in machine
call_kept change config got (mutating mutator) = command_kept config mutator got mutator.spot
call_kept change config got _ = refl

-- a mutator that begins a call has its command
pub call_begins : (change : Change) (config : Config) (command : Command) (got : ℕ) (machine : Machine) → may_begin machine ≡ true
    → (call_in (machine_after change config (Begin command) got machine) ≡ command) × (stands_in_its_call (machine_after change config (Begin command) got machine) ≡ true)
call_begins change config command got (mutating mutator) free_to_begin = by_spot mutator.spot free_to_begin
  where
    by_spot : (spot : Spot) → takes_commands spot ≡ true
        → ((next_at config mutator (Begin command) got spot).kept.command ≡ command)
        × (may_stand (makes_object (next_at config mutator (Begin command) got spot).kept.command) (next_at config mutator (Begin command) got spot).spot ≡ true)
    by_spot Rest free_to_begin = (refl, refl)
    by_spot (Ended reply) free_to_begin = (refl, refl)
    by_spot _ free_to_begin = absurd cc
call_begins change config command got _ free_to_begin = absurd cc

-- a call that makes no object has made none after its step
none_made : (config : Config) (mutator : Mutating) (got : ℕ) (spot : Spot) → may_stand false spot ≡ true → (next_at config mutator Nothing got spot).made ≡ mutator.made
none_made config mutator got Rest stands_free = absurd cc
none_made config mutator got (Making spot) stands_free = absurd cc
none_made config mutator got (Waiting spot) stands_free = absurd cc
none_made config mutator got _ stands_free = refl

none_made_in : (change : Change) (config : Config) (got : ℕ) (machine : Machine) → makes_object (call_in machine) ≡ false → stands_in_its_call machine ≡ true
    → made_of_machine (machine_after change config Nothing got machine) ≡ made_of_machine machine
none_made_in change config got (mutating mutator) makes_none machine_stands = none_made config mutator got mutator.spot (subst (λ may_make. may_stand may_make mutator.spot ≡ true) makes_none machine_stands)
none_made_in change config got _ makes_none machine_stands = refl

-- an order makes nothing
begun_same : (order : Order) (mutator : Mutating) → (call_begun order mutator).made ≡ mutator.made
begun_same Nothing mutator = refl
begun_same (Begin command) mutator = refl
begun_same End mutator = refl
begun_same (Hint address) mutator = refl

-- between two calls nothing is made, whatever follows
made_at_rest : (change : Change) (config : Config) (order : Order) (got : ℕ) (machine : Machine) → may_begin machine ≡ true
    → made_of_machine (machine_after change config order got machine) ≡ made_of_machine machine
made_at_rest change config order got (mutating mutator) free_to_begin = by_spot mutator.spot free_to_begin
  where
    by_spot : (spot : Spot) → takes_commands spot ≡ true → (next_at config mutator order got spot).made ≡ mutator.made
    by_spot Rest free_to_begin = begun_same order mutator
    by_spot (Ended reply) free_to_begin = begun_same order mutator
    by_spot _ free_to_begin = absurd cc
made_at_rest change config order got _ free_to_begin = absurd cc

-- what is at hand of a making is at hand
making_low : (machine : Machine) → making_at_hand machine ≤ at_hand_of machine
making_low machine = by_test (makes_object (call_in machine))
  where
    by_test : (holds : Bool) → (if holds then at_hand_of machine else 0) ≤ at_hand_of machine
    by_test true = omega arith
    by_test false = omega arith

-- between two calls there is a name for what the next one may make
pub name_left : (machine : Machine) (to_come : ℕ) → HasNamesFor to_come machine → may_begin machine ≡ true → made_of_machine machine < most_objects
name_left machine to_come has_names free_to_begin =
    let none_at_hand = rest_at_hand machine (begins_at_rest machine free_to_begin) in
    let made_low = making_low machine in
    let few_names = has_names.few in
    omega (arith, few_names, made_low, none_at_hand)

-- a mutator that goes on with its call stands where that call may
stands_then : (change : Change) (config : Config) (got : ℕ) (machine : Machine) → is_mutating machine ≡ true → stands_in_its_call machine ≡ true → reply_of_step machine ≡ None
    → stands_in_its_call (machine_after change config Nothing got machine) ≡ true
stands_then change config got (mutating mutator) role machine_stands no_reply =
    subst (λ asked_command. may_stand (makes_object asked_command) (next_at config mutator Nothing got mutator.spot).spot ≡ true) (sym (command_kept config mutator got mutator.spot))
    (call_stands (makes_object mutator.kept.command) config mutator got mutator.spot (λ stays_so. stays_so) machine_stands no_reply)
stands_then change config got _ role machine_stands no_reply = absurd cc

module _ (change : Change) (config : Config) (next : Option Command) (order : Order) (got : ℕ) (machine : Machine) (to_come : ℕ) (role : is_mutating machine ≡ true)
    (has_names : HasNamesFor to_come machine) where
  abbrev then_is : Machine
  then_is = machine_after change config order got machine

  -- in a call it goes on
  in_call : is_resting machine ≡ false → order ≡ Nothing → reply_of_step machine ≡ None → HasNamesFor to_come then_is
  in_call machine_busy no_order no_reply = subst (λ asked_order. HasNamesFor to_come (machine_after change config asked_order got machine)) (sym no_order) (record {
    call = λ _. stands_then change config got machine role (has_names.call machine_busy) no_reply;
    few = by_makes (makes_object (call_in machine)) refl;
  })
    where
      after : Machine
      after = machine_after change config Nothing got machine

      by_makes : (outcome : Bool) → makes_object (call_in machine) ≡ outcome → made_of_machine after + to_come < most_objects + making_at_hand after
      by_makes true makes =
          let making_before : making_at_hand machine ≡ at_hand_of machine = ap (λ outcome. if outcome then at_hand_of machine else 0) makes in
          let at_hand_now : making_at_hand after ≡ at_hand_of after = ap (λ outcome. if outcome then at_hand_of after else 0) (ap makes_object (call_kept change config got machine) ∙ makes) in
          let step = none_after change config Nothing got machine no_reply in
          let few_names = has_names.few in
          omega (arith, making_before, at_hand_now, step, few_names)
      by_makes false makes =
          let making_before : making_at_hand machine ≡ 0 = ap (λ outcome. if outcome then at_hand_of machine else 0) makes in
          let made_same = none_made_in change config got machine makes (has_names.call machine_busy) in
          let few_names = has_names.few in
          omega (arith, making_before, made_same, few_names)

  -- between two calls it begins one, or ends
  at_rest : may_begin machine ≡ true → next_order next ≡ order → HasNamesFor to_come then_is
  at_rest free_to_begin next_is = record {
    call = λ busy. by_next next refl busy;
    few =
        let made_same = made_at_rest change config order got machine free_to_begin in
        let none_at_hand = rest_at_hand machine (begins_at_rest machine free_to_begin) in
        let made_low = making_low machine in
        let few_names = has_names.few in
        omega (arith, made_same, none_at_hand, made_low, few_names);
  }
    where
      by_next : (found : Option Command) → next ≡ found → is_resting then_is ≡ false → stands_in_its_call then_is ≡ true
      by_next None found_is machine_busy =
          absurd (false≢true (sym machine_busy ∙ ap (λ (order : Order). is_resting (machine_after change config order got machine)) (sym (sym (ap next_order found_is) ∙ next_is)) ∙ ended_after change config got machine free_to_begin))
      by_next (Some given_command) found_is machine_busy =
          subst (λ (order : Order). stands_in_its_call (machine_after change config order got machine) ≡ true) (sym (ap next_order found_is) ∙ next_is) (call_begins change config given_command got machine free_to_begin).1

  -- after a step that gives no reply
  pub left_on : order_for next machine ≡ Some order → reply_of_step machine ≡ None → HasNamesFor to_come then_is
  left_on turn no_reply = by_may (may_begin machine) refl
    where
      by_may : (holds : Bool) → may_begin machine ≡ holds → HasNamesFor to_come then_is
      by_may true free_test = at_rest free_test (same_Some (next_order next) order (sym (turn_at_rest machine next free_test) ∙ turn))
      by_may false free_test = let call_goes = goes_on_with next machine order free_test turn in in_call call_goes.0 call_goes.1 no_reply

  -- and after one whose reply was taken, where one allocation less is to come if it was the reply to one
  pub left_given : (reply : Reply) (fewer : ℕ) → reply_of_step machine ≡ Some reply → fewer ≤ to_come → (makes_object (call_in machine) ≡ true → fewer < to_come) → HasNamesFor fewer then_is
  left_given reply fewer gives falls pays =
      let step = given_after change config order got machine reply gives in
      record {
        call = λ machine_busy. absurd (false≢true (sym machine_busy ∙ step.rest));
        few = by_makes (makes_object (call_in machine)) refl;
      }
    where
      by_makes : (outcome : Bool) → makes_object (call_in machine) ≡ outcome → made_of_machine then_is + fewer < most_objects + making_at_hand then_is
      by_makes true makes =
          let step = given_after change config order got machine reply gives in
          let step_made = step.made in
          let hand = step.was_at_hand in
          let made_low = making_low machine in
          let fewer_left = pays makes in
          let few_names = has_names.few in
          omega (arith, step_made, hand, made_low, fewer_left, few_names)
      by_makes false makes =
          let step_made = (given_after change config order got machine reply gives).made in
          let making_before : making_at_hand machine ≡ 0 = ap (λ outcome. if outcome then at_hand_of machine else 0) makes in
          let few_names = has_names.few in
          omega (arith, step_made, making_before, falls, few_names)
