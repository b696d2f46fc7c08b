-- Where a heap begins.
use Rattle.std.specs.Prelude.{Option, Some, None}
use Rattle.heap_words.specs.declared.config.Config.{Config}
use Rattle.heap_words.specs.Steps.{Stage}
use Rattle.step_core.specs.Actor.{Actor}
use Rattle.step_core.specs.Opening.{opening}
use Rattle.heap_machines.specs.FromImage.{stage_from}
use Rattle.table_heap.specs.declared.left.Left.{Left}

-- the opening, or the stage of words that were left, with these counts
abbrev pub start_from : Config → Option Left → Stage Actor
start_from config None = opening config
start_from config (Some left) = stage_from config left.words.value.items left.counts.value.items
