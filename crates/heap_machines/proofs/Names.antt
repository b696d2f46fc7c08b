-- Names that are left for what the commands of a script may make that are still to come.
use Rattle.std.proofs.Common.{◌≡◌, ◌<◌, ℕ, ◌+◌, true, List, length, All, Option, Some, None, refl, arith}
use Rattle.std.specs.Prelude.{slice_get, IfSome}
use Rattle.std.proofs.lemmas.Option.{slice_get_within}
use Rattle.shen_graph.proofs.Lists.{element_of_all}
use Rattle.heap_words.specs.declared.config.Config.{Config}
use Rattle.shen_graph.specs.declared.command.Command.{Command}
use Rattle.shen_graph.specs.declared.command.Reply.{Reply}
use Rattle.shen_graph.specs.declared.order.Order.{Order}
use Rattle.shen_graph.specs.Valid.{IsValid, most_objects}
use Rattle.heap_world.specs.Change.{Change}
use Rattle.step_core.specs.Actor.{Machine}
use Rattle.step_core.specs.Machines.{machine_after, may_begin, made_of_machine, at_hand_of}
use Rattle.heap_machines.specs.Roles.{reply_of_step}
use Rattle.heap_machines.proofs.Replies.{given_after, none_after, rest_at_hand}
use Rattle.heap_machines.proofs.Turns.{begins_at_rest}

-- What it has made and the commands that are not answered are fewer than there are names, where a reply that is at hand counts as
-- given.
abbrev pub HasNames : Machine → (script replies : ℕ) → Type 0
HasNames machine script replies = made_of_machine machine + script < most_objects + (replies + at_hand_of machine)

module _ (change : Change) (config : Config) (order : Order) (got : ℕ) (machine : Machine) (script replies : ℕ) (names_held : HasNames machine script replies) where
  -- after a step that gives no reply
  pub names_on : reply_of_step machine ≡ None → HasNames (machine_after change config order got machine) script replies
  names_on no_reply = let step = none_after change config order got machine no_reply in omega (arith, step, names_held)

  -- and after one whose reply was noted
  pub names_noted : (reply : Reply) → reply_of_step machine ≡ Some reply → HasNames (machine_after change config order got machine) script (replies + 1)
  names_noted reply gives =
      let step = given_after change config order got machine reply gives in
      let step_made = step.made in
      let at_hand_before = step.was_at_hand in
      omega (arith, step_made, at_hand_before, names_held)

-- the command that follows in its script can be given
pub command_fits : (machine : Machine) (script : List Command) (replies : ℕ) → All IsValid script → HasNames machine (length script) replies → may_begin machine ≡ true
    → IfSome (slice_get script replies) (λ command. IsValid command × (made_of_machine machine < most_objects))
command_fits machine script replies commands names_held free_to_begin = by_next (slice_get script replies) refl
  where
    by_next : (found : Option Command) → slice_get script replies ≡ found → IfSome found (λ command. IsValid command × (made_of_machine machine < most_objects))
    by_next None script_gives = tt
    by_next (Some command) script_gives = (
      element_of_all IsValid script replies command commands script_gives,
      (let script_goes = slice_get_within script replies command script_gives in
          let none_at_hand = rest_at_hand machine (begins_at_rest machine free_to_begin) in
          omega (arith, names_held, script_goes, none_at_hand)),
    )
