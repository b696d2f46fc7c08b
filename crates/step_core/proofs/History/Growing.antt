-- The commands that threads have begun: an event takes none away.
use Rattle.std.proofs.Common.{◌≡◌, ℕ, ◌<◌, ◌≤◌, ⊎_elim, Bool, true, false, List, [], ◌∷◌, ◌++◌, length, get_or, Option, Some, None, refl, sym, ap, ◌∙◌, subst, arith}
use Rattle.std.specs.Prelude.{◌==◌, take, slice_get, slice_index_or, slice_set, if◌then◌else◌}
use Rattle.std.specs.Option.{option_map}
use Rattle.std.proofs.lemmas.Bool.{cases_eq}
use Rattle.std.proofs.lemmas.List.{append-nil, map-append, length-map, length-take-le, length-set, get_or-take}
use Rattle.std.proofs.lemmas.Option.{slice_get-map, slice_get_within, slice_get-get_or, get_or_from_slice_get}
use Rattle.shen_graph.proofs.Lists.{append_left}
use Rattle.heap_words.proofs.Lists.{slice_get-set_other, slice_get-set_same}
use Rattle.heap_words.specs.declared.config.Config.{Config}
use Rattle.heap_words.specs.Ranges.{seat_count}
use Rattle.heap_words.specs.Steps.{Stage, Event, accessed, moved, act_of, act}
use Rattle.shen_graph.specs.declared.command.Command.{Command}
use Rattle.shen_graph.specs.declared.order.Order.{Order}
use Rattle.shen_graph.specs.declared.order.Order.TheVariants.{Nothing, Begin, End, Hint}
use Rattle.shen_graph.specs.History.{Entry, commands_of}
use Rattle.handshake.specs.declared.enter_spot.EnterSpot.{EnterSpot}
use Rattle.handshake.specs.declared.enter_spot.EnterSpot.TheVariants.{Inside}
use Rattle.handshake.specs.EnterRows.{next_at as enter_next}
use Rattle.handshake.specs.Standing.{inside}
use Rattle.mutator.specs.declared.spot.Spot.{Spot}
use Rattle.mutator.specs.declared.spot.Spot.TheVariants.{Rest, Ended, Entering, LoadPhase, LoadSet, Loading, OnField, Resolving, Recording, OnNumber, Showing, StoreRoot, Making, AskCycle, Pinning, Waiting, Leave, Gone}
use Rattle.mutator.specs.declared.spot.Entered.{Entered}
use Rattle.mutator.specs.declared.spot.Entered.TheVariants.{Call, Waited}
use Rattle.mutator.specs.declared.waits.WaitSpot.{WaitSpot}
use Rattle.mutator.specs.declared.waits.WaitSpot.TheVariants as wait
use Rattle.mutator.specs.Orders.{is_between_calls, takes_at}
use Rattle.mutator.specs.Rows.{Mutating, next_at, given_at}
use Rattle.mutator.specs.WaitRows.{after_enter, wait_next}
use Rattle.mutator.proofs.Orders.{in_call}
use Rattle.heap_world.specs.Change.{Change}
use Rattle.step_core.specs.Actor.{Machine, mutating, Actor, entry_of, entries_of, command_by}
use Rattle.step_core.specs.Begun.{begun_by, scripts_begun}
use Rattle.step_core.specs.Machines.{takes_of, plan_of, took_of, kind}
use Rattle.step_core.specs.Standing.{standing_at}
use Rattle.step_core.proofs.Machines.Roles.{takes_no_command}
use Rattle.step_core.proofs.History.CrowdsGrow.{Extends, AreLonger}
use Rattle.step_core.proofs.Mutators.Within.{IsIn, goes_on_in}

extends_same : (script other_script : List Command) → script ≡ other_script → Extends script other_script
extends_same script other_script same_script index command command_there = ap (λ some_script. slice_get some_script index) (sym same_script) ∙ command_there

extends_more : (script other_script : List Command) → Extends script (script ++ other_script)
extends_more script other_script index command command_there = append_left script other_script index (slice_get_within script index command command_there) ∙ command_there

-- a spot in the heap is none between two calls
in_not_between : (spot : Spot) → IsIn spot → is_between_calls spot ≡ false
in_not_between Rest spot_within = absurd (cc (spot_within))
in_not_between (Ended reply) spot_within = absurd (cc (spot_within))
in_not_between Gone spot_within = absurd (cc (spot_within))
in_not_between _ spot_within = refl

-- nor is one at which a mutator enters or waits
enter_not_between : (entered : Entered) (spot : EnterSpot) → is_between_calls (after_enter entered spot) ≡ false
enter_not_between Call Inside = refl
enter_not_between Waited Inside = refl
enter_not_between Call _ = refl
enter_not_between Waited _ = refl

either_not_between : (holds : Bool) (spot other_spot : Spot) → is_between_calls spot ≡ false → is_between_calls other_spot ≡ false → is_between_calls (if holds then spot else other_spot) ≡ false
either_not_between true spot other_spot not_between other_not_between = not_between
either_not_between false spot other_spot not_between other_not_between = other_not_between

wait_not_between : (seat made : ℕ) (spot : WaitSpot) (got : ℕ) → is_between_calls (wait_next seat made spot got) ≡ false
wait_not_between seat made wait.Poll got = either_not_between (got == 0) _ _ refl refl
wait_not_between seat made _ got = refl

-- A step of a mutator: its commands are those that it has begun before, or these and one more.
module _ (config : Config) (mutator : Mutating) (order : Order) (got : ℕ) (command : Command) (calls : List Entry) where
  abbrev before : Spot → List Command
  before spot = commands_of calls ++ (if is_between_calls spot then [] else command ∷ [])

  abbrev then_on : Spot → List Command
  then_on spot = commands_of (calls ++ entries_of mutator.seat command (given_at spot)) ++ (if is_between_calls (next_at config mutator order got spot).spot then [] else command_by order command ∷ [])

  -- in a call
  in_progress : (order : Order) → order ≡ Nothing → (holds : Bool) → holds ≡ false → Extends (commands_of calls ++ command ∷ []) (commands_of (calls ++ []) ++ (if holds then [] else command_by order command ∷ []))
  in_progress Nothing no_order true no_call = absurd (cc (no_call))
  in_progress Nothing no_order false no_call = extends_same _ _ (ap (λ entry_list. commands_of entry_list ++ command ∷ []) (sym (append-nil calls)))
  in_progress (Begin asked) no_order holds no_call = absurd (cc (no_order))
  in_progress End no_order holds no_call = absurd (cc (no_order))
  in_progress (Hint address) no_order holds no_call = absurd (cc (no_order))

  call_grows : (spot : Spot) → is_between_calls spot ≡ false → takes_at spot mutator.made order ≡ true → is_between_calls (next_at config mutator order got spot).spot ≡ false
      → Extends (commands_of calls ++ command ∷ []) (commands_of (calls ++ []) ++ (if is_between_calls (next_at config mutator order got spot).spot then [] else command_by order command ∷ []))
  call_grows spot in_it takes next_not_between = in_progress order (in_call spot mutator.made order in_it takes) (is_between_calls (next_at config mutator order got spot).spot) next_not_between

  -- between two calls
  rest_grows : (order : Order) → takes_at Rest mutator.made order ≡ true → Extends (commands_of calls ++ []) (commands_of (calls ++ []) ++ (if is_between_calls (next_at config mutator order got Rest).spot then [] else command_by order command ∷ []))
  rest_grows Nothing takes = absurd (cc (takes))
  rest_grows (Begin asked) takes =
      subst (λ commands_before. Extends commands_before (commands_of (calls ++ []) ++ asked ∷ [])) (ap commands_of (append-nil calls) ∙ sym (append-nil (commands_of calls))) (extends_more (commands_of (calls ++ [])) (asked ∷ []))
  rest_grows End takes = extends_same _ _ (ap (λ entry_list. commands_of entry_list ++ []) (sym (append-nil calls)))
  rest_grows (Hint address) takes = absurd (cc (takes))

  -- where a call ends
  leave_grows : (entry : Entry) → entry.command ≡ command → Extends (commands_of calls ++ command ∷ []) (commands_of (calls ++ entry ∷ []) ++ [])
  leave_grows entry same_command = extends_same _ _ (ap (λ any_command. commands_of calls ++ any_command ∷ []) (sym same_command) ∙ sym (map-append (λ x. x.command) calls (entry ∷ [])) ∙ sym (append-nil (commands_of (calls ++ entry ∷ []))))

  -- where it stays in the heap
  stays_in_call : (spot : Spot) → standing_at spot ≡ inside → is_between_calls (next_at config mutator order got spot).spot ≡ false
  stays_in_call spot stands_inside = in_not_between (next_at config mutator order got spot).spot (goes_on_in config mutator order got spot stands_inside)

  -- at each spot
  grows_at : (spot : Spot) → takes_at spot mutator.made order ≡ true → Extends (before spot) (then_on spot)
  grows_at Rest takes = rest_grows order takes
  grows_at (Ended reply) takes = rest_grows order takes
  grows_at Gone takes = absurd (cc (takes))
  grows_at (Leave reply) takes = leave_grows (entry_of mutator.seat command reply) refl
  grows_at (Entering spot next) takes = call_grows (Entering spot next) refl takes (enter_not_between next (enter_next spot got))
  grows_at (Waiting spot) takes = call_grows (Waiting spot) refl takes (wait_not_between mutator.seat mutator.made spot got)
  grows_at LoadPhase takes = call_grows LoadPhase refl takes (stays_in_call LoadPhase refl)
  grows_at LoadSet takes = call_grows LoadSet refl takes (stays_in_call LoadSet refl)
  grows_at (Loading spot) takes = call_grows (Loading spot) refl takes (stays_in_call (Loading spot) refl)
  grows_at (OnField object spot) takes = call_grows (OnField object spot) refl takes (stays_in_call (OnField object spot) refl)
  grows_at (Resolving address spot next) takes = call_grows (Resolving address spot next) refl takes (stays_in_call (Resolving address spot next) refl)
  grows_at (Recording spot address next) takes = call_grows (Recording spot address next) refl takes (stays_in_call (Recording spot address next) refl)
  grows_at (OnNumber object refs spot) takes = call_grows (OnNumber object refs spot) refl takes (stays_in_call (OnNumber object refs spot) refl)
  grows_at (Showing value spot) takes = call_grows (Showing value spot) refl takes (stays_in_call (Showing value spot) refl)
  grows_at (StoreRoot value) takes = call_grows (StoreRoot value) refl takes (stays_in_call (StoreRoot value) refl)
  grows_at (Making spot) takes = call_grows (Making spot) refl takes (stays_in_call (Making spot) refl)
  grows_at (Pinning value spot) takes = call_grows (Pinning value spot) refl takes (stays_in_call (Pinning value spot) refl)
  grows_at AskCycle takes = call_grows AskCycle refl takes (stays_in_call AskCycle refl)

-- who begins no command begins nothing
others_grow : (order : Order) (command : Command) (calls : List Entry) → command_by order command ≡ command → Extends (commands_of calls ++ command ∷ []) (commands_of (calls ++ []) ++ command_by order command ∷ [])
others_grow order command calls same_command =
    extends_same _ _ (ap (λ entry_list. commands_of entry_list ++ command ∷ []) (sym (append-nil calls)) ∙ ap (λ any_command. commands_of (calls ++ []) ++ any_command ∷ []) (sym same_command))

-- the commands of a machine
machine_grows : (change : Change) (config : Config) (order : Order) (got : ℕ) (command : Command) (calls : List Entry) (machine : Machine) → takes_of machine order ≡ true
    → Extends (begun_by (record { machine = machine; command = command; calls = calls })) (begun_by (took_of change config (record { machine = machine; command = command; calls = calls }) order got machine))
machine_grows change config order got command calls (mutating mutator) takes = grows_at config mutator order got command calls mutator.spot takes
machine_grows change config order got command calls other_machine takes = others_grow order command calls (takes_no_command other_machine order command refl takes)

-- The scripts of a stage, by the numbers of its mutators.
module _ (config : Config) (stage : Stage Actor) (seats : length stage.machines ≡ seat_count config.mutators config.helpers) where
  few : config.mutators ≤ length stage.machines
  few = omega (arith, seats)

  pub begun_many : length (scripts_begun config stage) ≡ config.mutators
  begun_many = length-map (take config.mutators stage.machines) begun_by ∙ length-take-le config.mutators stage.machines few

  pub begun_is : (mutator : ℕ) (actor : Actor) → mutator < config.mutators → slice_get stage.machines mutator ≡ Some actor → slice_index_or (scripts_begun config stage) mutator [] ≡ begun_by actor
  begun_is mutator actor mutator_below actor_there =
      let first_read : get_or (take config.mutators stage.machines) mutator actor ≡ actor = get_or-take config.mutators stage.machines mutator actor mutator_below ∙ get_or_from_slice_get stage.machines mutator actor actor actor_there in
      let actor_taken : slice_get (take config.mutators stage.machines) mutator ≡ Some actor =
      slice_get-get_or (take config.mutators stage.machines) mutator actor (let take_length = length-take-le config.mutators stage.machines few in omega (arith, take_length, mutator_below)) ∙ ap (λ any_actor. Some any_actor) first_read in
      get_or_from_slice_get (scripts_begun config stage) mutator (begun_by actor) [] (slice_get-map begun_by (take config.mutators stage.machines) mutator ∙ ap (option_map begun_by) actor_taken)

-- a stage in which one machine is another, which has begun no less
grows_one : (config : Config) (stage : Stage Actor) (number : ℕ) (old new : Actor) (words : List ℕ) → length stage.machines ≡ seat_count config.mutators config.helpers → slice_get stage.machines number ≡ Some old → Extends (begun_by old) (begun_by new)
    → AreLonger (scripts_begun config stage) (scripts_begun config (record { words = words; machines = slice_set stage.machines number new }))
grows_one config stage number old new words seats old_there grows =
    let seats_then : length (slice_set stage.machines number new) ≡ seat_count config.mutators config.helpers = length-set stage.machines number new ∙ seats in
    let stage_then : Stage Actor = record { words = words; machines = slice_set stage.machines number new } in
    record {
      same = begun_many config stage_then seats_then ∙ sym (begun_many config stage seats);
      longer = λ thread thread_less.
          let thread_below : thread < config.mutators = (let scripts_many = begun_many config stage seats in omega (arith, thread_less, scripts_many)) in
          ⊎_elim
          (λ (same_number : thread ≡ number).
          let then_is : slice_index_or (scripts_begun config stage_then) thread [] ≡ begun_by new = begun_is config stage_then seats_then thread new thread_below (ap (slice_get stage_then.machines) same_number ∙ slice_get-set_same stage.machines number old new old_there) in
          let begun_by_old : slice_index_or (scripts_begun config stage) thread [] ≡ begun_by old = begun_is config stage seats thread old thread_below (ap (slice_get stage.machines) same_number ∙ old_there) in
          subst (λ begun_list. Extends begun_list (slice_index_or (scripts_begun config stage_then) thread [])) (sym begun_by_old) (subst (λ begun_then. Extends (begun_by old) begun_then) (sym then_is) grows))
          (λ (numbers_differ : thread ≡ number → ⊥).
          let actor : Actor = get_or stage.machines thread old in
          let actor_there : slice_get stage.machines thread ≡ Some actor = slice_get-get_or stage.machines thread old (let enough = few config stage seats in omega (arith, thread_below, enough)) in
          let then_is : slice_index_or (scripts_begun config stage_then) thread [] ≡ begun_by actor = begun_is config stage_then seats_then thread actor thread_below (slice_get-set_other stage.machines number thread new numbers_differ ∙ actor_there) in
          extends_same _ _ (begun_is config stage seats thread actor thread_below actor_there ∙ sym then_is))
          (cases_eq thread number);
    }

stays_same : (scripts : List (List Command)) → AreLonger scripts scripts
stays_same scripts = record { same = refl; longer = λ thread thread_below index command command_there. command_there }

-- a machine that makes its access
moved_grows : (change : Change) (config : Config) (stage : Stage Actor) (number : ℕ) (actor : Actor) (order : Order) → length stage.machines ≡ seat_count config.mutators config.helpers → slice_get stage.machines number ≡ Some actor → takes_of actor.machine order ≡ true
    → AreLonger (scripts_begun config stage) (scripts_begun config (moved (kind change config) stage number actor order))
unfolding kind
moved_grows change config stage number actor order seats actor_there takes = grows_one config stage number actor _ (accessed (plan_of config order actor.machine) stage.words) seats actor_there (machine_grows change config order _ actor.command actor.calls actor.machine takes)

-- an event takes no command away
pub begun_grows : (change : Change) (config : Config) (stage : Stage Actor) (event : Event Order) → length stage.machines ≡ seat_count config.mutators config.helpers → AreLonger (scripts_begun config stage) (scripts_begun config (act (kind change config) stage event))
unfolding act kind
begun_grows change config stage event seats = by_machine (slice_get stage.machines event.number) refl
  where
    by_order : (actor : Actor) (holds : Bool) → slice_get stage.machines event.number ≡ Some actor → takes_of actor.machine event.order ≡ holds → AreLonger (scripts_begun config stage) (scripts_begun config (if holds then moved (kind change config) stage event.number actor event.order else stage))
    by_order actor true actor_there takes = moved_grows change config stage event.number actor event.order seats actor_there takes
    by_order actor false actor_there takes = stays_same (scripts_begun config stage)

    by_machine : (found : Option Actor) → slice_get stage.machines event.number ≡ found → AreLonger (scripts_begun config stage) (scripts_begun config (act_of (kind change config) stage event found))
    by_machine None found_there = stays_same (scripts_begun config stage)
    by_machine (Some actor) found_there = by_order actor (takes_of actor.machine event.order) found_there refl
