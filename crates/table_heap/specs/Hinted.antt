-- How many hints the machines of a heap have taken.
use Rattle.std.specs.Prelude.{ℕ, ◌-◌, ◌^◌, min, List, sum_by, Option, Some, None}
use Rattle.heap_machines.specs.declared.machine.Machine as memory
use Rattle.heap_machines.specs.Shown.{shown}
use Rattle.step_core.specs.Actor.{Actor}
use Rattle.step_core.specs.Machines.{hints_of}

-- of one
abbrev pub actor_hints : Actor → ℕ
actor_hints actor = hints_of actor.machine

-- of all, up to 2^64 - 1
abbrev pub hints_in : List Actor → ℕ
hints_in actors = min (sum_by actor_hints actors) (2 ^ 64 - 1)

-- of the machine of a place in memory, if there is one
abbrev pub place_hints : Option memory.Machine → ℕ
place_hints None = 0
place_hints (Some machine) = hints_of (shown machine)
