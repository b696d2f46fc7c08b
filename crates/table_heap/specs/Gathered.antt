-- What callers know of machines that are gathered.
use Rattle.std.specs.Prelude.{ℕ, ◌≡◌, ◌<◌, true, List, length}
use Rattle.std.specs.Option.{is_some}
use Rattle.heap_words.specs.declared.config.Config.{Config}
use Rattle.heap_words.specs.Ranges.{seat_count}
use Rattle.heap_words.specs.Steps.{IsReached}
use Rattle.shared_table.specs.Views.{View, machine_of, machines_of}
use Rattle.shared_table.specs.Counted.{uncounted_view}
use Rattle.step_core.specs.Actor.{Actor}
use Rattle.table_heap.specs.declared.heap.Heap.{Heap}
use Rattle.table_heap.specs.declared.gathered.Gathered.{Gathered}
use Rattle.table_heap.specs.Core.{heap_kind}
use Rattle.table_heap.specs.State.{config_of, start_of_heap}

-- the machines by their numbers, as their events see them
abbrev pub view_of : Gathered → View Actor
view_of gathered = uncounted_view gathered.seat.me.0

-- they are of this heap
abbrev pub IsGatheredOf : Gathered → Heap → Type 0
IsGatheredOf gathered heap = gathered.seat.table_id ≡ heap.table.shared.table_id

-- all machines of a heap of this configuration are there
pub record HasAllOf (config : Config) (g : Gathered) : Type 0 where
  pub long : length (view_of g) ≡ seat_count config.mutators config.helpers
  pub each : (number : ℕ) → number < seat_count config.mutators config.helpers → is_some (machine_of (view_of g) number) ≡ true

-- some events lead from where the heap began to just these machines, and to some words
pub record StandInRun (heap : Heap) (g : Gathered) : Type 0 where
  pub words : List ℕ
  pub reached : IsReached (heap_kind (config_of heap)) (start_of_heap heap) (record { words = words; machines = machines_of (view_of g) })
