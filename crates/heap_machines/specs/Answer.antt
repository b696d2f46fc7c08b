-- What a step says.
use Rattle.std.specs.Prelude.{ℕ, Option, Some, None}
use Rattle.heap_words.specs.declared.config.Config.{Config}
use Rattle.heap_words.specs.declared.access.Took.{Took}
use Rattle.heap_words.specs.declared.access.Took.TheVariants.{More, Again, Done}
use Rattle.shen_graph.specs.declared.order.Order.{Order}
use Rattle.step_core.specs.Actor.{Machine}
use Rattle.step_core.specs.Machines.{answer_of}
use Rattle.heap_machines.specs.declared.stepped.Stepped.{Stepped}
use Rattle.heap_machines.specs.declared.stepped.Stepped.TheVariants as stepped

abbrev pub stepped_of : Took → Stepped
stepped_of More = stepped.More
stepped_of Again = stepped.Again
stepped_of Done = stepped.Done

abbrev pub stepped_by : Option Took → Stepped
stepped_by None = stepped.Idle
stepped_by (Some said) = stepped_of said

-- what a machine says of the step under an order that finds this word
abbrev pub says : Config → Order → Machine → ℕ → Stepped
says config order machine got = stepped_by (answer_of config order machine got)
