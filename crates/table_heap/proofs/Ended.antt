-- What callers learn of machines that are idle for good.
use Rattle.std.proofs.Common.{◌≡◌, ℕ, Bool, true, false, length, Option, Some, None, refl, sym, ap, ◌∙◌}
use Rattle.std.specs.Prelude.{slice_get, if◌then◌else◌}
use Rattle.std.specs.Option.{option_map}
use Rattle.shen_graph.specs.declared.order.Order.{Order}
use Rattle.shen_graph.specs.declared.order.Order.TheVariants.{Nothing}
use Rattle.heap_words.specs.Steps.{Stage}
use Rattle.step_core.specs.Actor.{Machine, Actor}
use Rattle.step_core.specs.Machines.{takes_of, may_begin}
use Rattle.step_core.specs.Schedule.{Scripts, nth_script, turn, turn_of}
use Rattle.heap_machines.proofs.Turns.{turn_at_rest, order_of_script}
use Rattle.step_core.proofs.Machines.Roles.{turn_in_call}
use Rattle.table_heap.specs.Running.{IsIdleForGood}

-- a machine that is idle for good makes no step without an order
pub idle_takes : (machine : Machine) → IsIdleForGood machine → takes_of machine Nothing ≡ false
idle_takes machine idle = by_may (may_begin machine) refl
  where
    by_takes : (holds : Bool) → takes_of machine Nothing ≡ holds → ◌≡◌ {A = Option Order} (if holds then Some Nothing else None) None → takes_of machine Nothing ≡ false
    by_takes true takes no_order = absurd cc
    by_takes false takes no_order = takes

    by_may : (holds : Bool) → may_begin machine ≡ holds → takes_of machine Nothing ≡ false
    by_may true begin_tested = absurd (let same_turn = sym (turn_at_rest machine None begin_tested) ∙ idle None in cc)
    by_may false not_begin = by_takes (takes_of machine Nothing) refl (sym (turn_in_call machine None not_begin) ∙ idle None)

-- it has no turn in any stage, whatever scripts there are
pub idle_turn : (scripts : Scripts) (stage : Stage Actor) (number : ℕ) (actor : Actor) → slice_get stage.machines number ≡ Some actor → IsIdleForGood actor.machine → turn scripts stage number ≡ None
idle_turn scripts stage number actor actor_there idle =
    ap (turn_of scripts number) actor_there
    ∙ ap (option_map (λ order. record { number = number; order = order })) (order_of_script (nth_script scripts number) actor.calls actor.machine ∙ idle (slice_get (nth_script scripts number) (length actor.calls)))
