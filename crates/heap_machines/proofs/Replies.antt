-- The replies that machines give, by their roles.
use Rattle.std.proofs.Common.{◌≡◌, ℕ, ◌+◌, ◌≤◌, true, false, List, [], ◌∷◌, ◌++◌, map, Option, Some, None, refl, ap, ◌∙◌, arith}
use Rattle.std.proofs.lemmas.List.{map-append}
use Rattle.heap_words.specs.declared.config.Config.{Config}
use Rattle.heap_words.specs.declared.access.Took.TheVariants.{Done}
use Rattle.shen_graph.specs.declared.command.Command.{Command}
use Rattle.shen_graph.specs.declared.command.Reply.{Reply}
use Rattle.shen_graph.specs.declared.order.Order.{Order}
use Rattle.shen_graph.specs.declared.order.Order.TheVariants.{Nothing, Begin, End, Hint}
use Rattle.shen_graph.specs.History.{Entry}
use Rattle.mutator.specs.declared.spot.Spot.{Spot}
use Rattle.mutator.specs.declared.spot.Spot.TheVariants.{Rest, Ended, Recording, Making, Waiting, Leave}
use Rattle.satb_barrier.specs.declared.spot.RememberSpot.{RememberSpot}
use Rattle.satb_barrier.specs.declared.spot.RememberSpot.TheVariants.{Recorded}
use Rattle.satb_barrier.specs.Rows as satb
use Rattle.mutator.specs.declared.overwrites.Overwritten.{Overwritten}
use Rattle.mutator.specs.declared.overwrites.Overwritten.TheVariants as overwrites
use Rattle.mutator.specs.declared.waits.WaitSpot.TheVariants as wait
use Rattle.mutator.specs.declared.makes.MakeSpot.TheVariants as make
use Rattle.mutator.specs.Orders.{is_between_calls, takes_commands}
use Rattle.mutator.specs.Rows.{Mutating, call_begun, given_at, answer_at, reply_at, next_at, after_remember}
use Rattle.mutator.proofs.Done as ends
use Rattle.step_core.specs.Actor.{Machine, mutating, Actor, entries_of}
use Rattle.heap_world.specs.Change.{Change}
use Rattle.step_core.specs.Machines.{machine_after, answer_of, ended_by, reply_in, is_resting, may_begin, made_of_machine, recorded_at_hand, at_hand, at_hand_of}
use Rattle.heap_machines.specs.Roles.{reply_of_step, is_mutating}
use Rattle.step_core.proofs.Machines.Roles.{others_go_on}
use Rattle.heap_machines.proofs.GoesOn.{call_goes_on}

-- a step that ends a call gives a reply
pub done_gives : (config : Config) (order : Order) (machine : Machine) (got : ℕ) → answer_of config order machine got ≡ Some Done → (reply : Reply) × (reply_of_step machine ≡ Some reply)
done_gives config order (mutating mutator) got says_done = ends.done_gives config mutator.kept mutator.spot got (let says_it = says_done in cc)
done_gives config order any_machine got says_done = absurd (others_go_on config order any_machine got refl says_done)

-- no other step does
pub other_gives : (config : Config) (order : Order) (machine : Machine) (got : ℕ) → (answer_of config order machine got ≡ Some Done → ⊥) → reply_of_step machine ≡ None
other_gives config order (mutating mutator) got not_done = by_spot mutator.spot not_done
  where
    by_spot : (spot : Spot) → (Some (answer_at config mutator.kept spot got) ≡ Some Done → ⊥) → given_at spot ≡ None
    by_spot (Leave left_reply) not_done = absurd (not_done refl)
    by_spot _ not_done = refl
other_gives config order _ got not_done = refl

-- A machine that has given a reply: it has the reply, rests, and may go on. It has made no object, and the reply was at hand.
pub record HasGiven (machine next : Machine) (reply : Reply) : Type 0 where
  pub replied : reply_in next ≡ Some reply
  pub rest : is_resting next ≡ true
  pub free : may_begin next ≡ true
  pub busy : is_resting machine ≡ false
  pub role : is_mutating machine ≡ true
  pub made : made_of_machine next ≡ made_of_machine machine
  pub was_at_hand : at_hand_of machine ≡ 1

pub given_after : (change : Change) (config : Config) (order : Order) (got : ℕ) (machine : Machine) (reply : Reply) → reply_of_step machine ≡ Some reply → HasGiven machine (machine_after change config order got machine) reply
given_after change config order got (mutating mutator) reply gives = record {
  replied = replied mutator.spot gives;
  rest = rest mutator.spot gives;
  free = free mutator.spot gives;
  busy = busy mutator.spot gives;
  role = refl;
  made = made mutator.spot gives;
  was_at_hand = at_hand_then mutator.spot gives;
}
  where
    replied : (spot : Spot) → given_at spot ≡ Some reply → reply_at (next_at config mutator order got spot).spot ≡ Some reply
    replied (Leave left_reply) reply_given = reply_given
    replied _ reply_given = absurd cc

    rest : (spot : Spot) → given_at spot ≡ Some reply → is_between_calls (next_at config mutator order got spot).spot ≡ true
    rest (Leave left_reply) reply_given = refl
    rest _ reply_given = absurd cc

    free : (spot : Spot) → given_at spot ≡ Some reply → takes_commands (next_at config mutator order got spot).spot ≡ true
    free (Leave left_reply) reply_given = refl
    free _ reply_given = absurd cc

    busy : (spot : Spot) → given_at spot ≡ Some reply → is_between_calls spot ≡ false
    busy (Leave left_reply) reply_given = refl
    busy _ reply_given = absurd cc

    made : (spot : Spot) → given_at spot ≡ Some reply → (next_at config mutator order got spot).made ≡ mutator.made
    made (Leave left_reply) reply_given = refl
    made _ reply_given = absurd cc

    at_hand_then : (spot : Spot) → given_at spot ≡ Some reply → at_hand spot ≡ 1
    at_hand_then (Leave left_reply) reply_given = refl
    at_hand_then _ reply_given = absurd cc
given_after change config order got _ reply gives = absurd cc

-- between two calls no reply is at hand
pub rest_at_hand : (machine : Machine) → is_resting machine ≡ true → at_hand_of machine ≡ 0
rest_at_hand (mutating mutator) machine_rests = by_spot mutator.spot machine_rests
  where
    by_spot : (spot : Spot) → is_between_calls spot ≡ true → at_hand spot ≡ 0
    by_spot (Leave left_reply) between = absurd cc
    by_spot (Waiting inner_spot) between = absurd cc
    by_spot (Recording inner_spot address next) between = absurd cc
    by_spot _ between = refl
rest_at_hand _ machine_rests = refl

-- an order makes no object
begun_made : (order : Order) (mutator : Mutating) → (call_begun order mutator).made ≡ mutator.made
begun_made Nothing mutator = refl
begun_made (Begin command) mutator = refl
begun_made End mutator = refl
begun_made (Hint address) mutator = refl

-- who records what its Cas has overwritten has the reply at hand until it leaves
stays_at_hand : (address : ℕ) (next : Overwritten) (spot : RememberSpot) → recorded_at_hand next ≤ at_hand (after_remember address next spot)
stays_at_hand address (overwrites.Set object value) Recorded = omega arith
stays_at_hand address overwrites.Xchg Recorded = omega arith
stays_at_hand address overwrites.Cas Recorded = omega arith
stays_at_hand address next _ = omega arith

-- A machine that gives no reply makes at most one object in a step, and then a reply is at hand that was not before.
pub none_after : (change : Change) (config : Config) (order : Order) (got : ℕ) (machine : Machine) → reply_of_step machine ≡ None
    → made_of_machine (machine_after change config order got machine) + at_hand_of machine ≤ made_of_machine machine + at_hand_of (machine_after change config order got machine)
none_after change config order got (mutating mutator) no_reply = by_spot mutator.spot no_reply
  where
    by_spot : (spot : Spot) → given_at spot ≡ None → (next_at config mutator order got spot).made + at_hand spot ≤ mutator.made + at_hand (next_at config mutator order got spot).spot
    by_spot Rest no_reply = omega (arith, begun_made order mutator)
    by_spot (Ended reply) no_reply = omega (arith, begun_made order mutator)
    by_spot (Recording inner_spot address next) no_reply = omega (arith, stays_at_hand address next (satb.next_at inner_spot got))
    by_spot (Making (make.StoreRoot address)) no_reply = omega arith
    by_spot (Making inner_spot) no_reply = omega arith
    by_spot (Waiting (wait.StoreRoot address)) no_reply = omega arith
    by_spot (Waiting (wait.ClearAnswer reply)) no_reply = omega arith
    by_spot (Waiting inner_spot) no_reply = omega arith
    by_spot (Leave left_reply) no_reply = absurd cc
    by_spot _ no_reply = omega arith
none_after change config order got _ no_reply = omega arith

-- a machine in a call goes on with it, if it gives no reply
pub busy_after : (change : Change) (config : Config) (got : ℕ) (machine : Machine) → is_resting machine ≡ false → reply_of_step machine ≡ None → is_resting (machine_after change config Nothing got machine) ≡ false
busy_after change config got (mutating mutator) machine_busy no_reply = call_goes_on config mutator got mutator.spot machine_busy no_reply
busy_after change config got _ machine_busy no_reply = refl

-- a mutator that begins a command is in a call then
pub begun_after : (change : Change) (config : Config) (command : Command) (got : ℕ) (machine : Machine) → may_begin machine ≡ true → is_resting (machine_after change config (Begin command) got machine) ≡ false
begun_after change config command got (mutating mutator) free_to_begin = by_spot mutator.spot free_to_begin
  where
    by_spot : (spot : Spot) → takes_commands spot ≡ true → is_between_calls (next_at config mutator (Begin command) got spot).spot ≡ false
    by_spot Rest free_to_begin = refl
    by_spot (Ended reply) free_to_begin = refl
    by_spot _ free_to_begin = absurd cc
begun_after change config command got _ free_to_begin = refl

-- and one that ends is in none
pub ended_after : (change : Change) (config : Config) (got : ℕ) (machine : Machine) → may_begin machine ≡ true → is_resting (machine_after change config End got machine) ≡ true
ended_after change config got (mutating mutator) free_to_begin = by_spot mutator.spot free_to_begin
  where
    by_spot : (spot : Spot) → takes_commands spot ≡ true → is_between_calls (next_at config mutator End got spot).spot ≡ true
    by_spot Rest free_to_begin = refl
    by_spot (Ended reply) free_to_begin = refl
    by_spot _ free_to_begin = absurd cc
ended_after change config got _ free_to_begin = absurd cc

-- the call that a step ends has the reply that it gives
pub ended_none : (command : Command) (machine : Machine) → reply_of_step machine ≡ None → ended_by command machine ≡ []
ended_none command (mutating mutator) no_reply = ap (entries_of mutator.seat command) no_reply
ended_none command _ no_reply = refl

pub ended_some : (command : Command) (machine : Machine) (reply : Reply) → reply_of_step machine ≡ Some reply → (entry : Entry) × (ended_by command machine ≡ entry ∷ []) × (entry.command ≡ command) × (entry.reply ≡ reply)
ended_some command (mutating mutator) reply gives = (record { thread = mutator.seat + 1; command = command; reply = reply }, ap (entries_of mutator.seat command) gives, refl, refl)
ended_some command _ reply gives = absurd cc

-- a reply as a list
abbrev pub listed : Option Reply → List Reply
listed None = []
listed (Some reply) = reply ∷ []

-- the replies of the calls that a step ends
pub ended_replies : (command : Command) (machine : Machine) → map (λ entry. entry.reply) (ended_by command machine) ≡ listed (reply_of_step machine)
ended_replies command (mutating mutator) = by_given (given_at mutator.spot)
  where
    by_given : (found : Option Reply) → map (λ entry. entry.reply) (entries_of mutator.seat command found) ≡ listed found
    by_given None = refl
    by_given (Some some_reply) = refl
ended_replies command _ = refl

-- the replies of an actor's calls after its step
pub took_replies : (actor : Actor) → map (λ entry. entry.reply) (actor.calls ++ ended_by actor.command actor.machine) ≡ map (λ entry. entry.reply) actor.calls ++ listed (reply_of_step actor.machine)
took_replies actor =
    map-append (λ entry. entry.reply) actor.calls (ended_by actor.command actor.machine)
    ∙ ap (λ replies. map (λ entry. entry.reply) actor.calls ++ replies) (ended_replies actor.command actor.machine)
