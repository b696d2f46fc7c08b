-- The commands that the threads of a stage have begun.
use Rattle.std.specs.Prelude.{List, [], ◌∷◌, ◌++◌, map, take, if◌then◌else◌}
use Rattle.heap_words.specs.declared.config.Config.{Config}
use Rattle.heap_words.specs.Steps.{Stage}
use Rattle.shen_graph.specs.declared.command.Command.{Command}
use Rattle.shen_graph.specs.History.{commands_of}
use Rattle.step_core.specs.Actor.{Actor}
use Rattle.step_core.specs.Machines.{is_resting}

-- those of the calls that it has ended, and of its call in progress, if there is one
abbrev pub begun_by : Actor → List Command
begun_by actor = commands_of actor.calls ++ (if is_resting actor.machine then [] else actor.command ∷ [])

-- those of each mutator, in the order of their numbers
abbrev pub scripts_begun : Config → Stage Actor → List (List Command)
scripts_begun config stage = map begun_by (take config.mutators stage.machines)
