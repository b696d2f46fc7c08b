-- Who waits outside the heap for the end of a pause.
use Rattle.std.specs.Prelude.{ℕ, ◌≡◌, ◌≢◌, true, List, Option, Some, None}
use Rattle.heap_words.specs.declared.config.Config.{Config}
use Rattle.heap_words.specs.declared.access.Took.TheVariants.{Again}
use Rattle.heap_words.specs.Words.{Word, Pause}
use Rattle.heap_words.specs.Touch.{touch, loads, placed}
use Rattle.shen_graph.specs.declared.command.Command.{Command}
use Rattle.shen_graph.specs.declared.order.Order.TheVariants.{Nothing}
use Rattle.step_core.specs.Actor.{Machine}
use Rattle.step_core.specs.Machines.{order_for, takes_of, plan_of, machine_after, answer_of}
use Rattle.heap_machines.specs.Pause.{pause_image}
use Rattle.heap_machines.specs.Settles.{reply_settled, refused_by}

-- On its turn it looks at the pause word. As long as a pause is wanted it stays as it is, says that it waits, and settles nothing.
pub record Awaits (config : Config) (machine : Machine) : Type 0 where
  pub goes_on : (next : Option Command) → order_for next machine ≡ Some Nothing
  pub takes : takes_of machine Nothing ≡ true
  pub looks : plan_of config Nothing machine ≡ placed config (touch Pause loads)
  pub stays : (got : ℕ) → got ≢ 0 → machine_after pause_image config Nothing got machine ≡ machine
  pub waits : (got : ℕ) → got ≢ 0 → answer_of config Nothing machine got ≡ Some Again
  pub settles : (memory : Word → ℕ) → reply_settled memory machine ≡ None
  pub refuses : (words : List ℕ) → refused_by config words machine ≡ None
