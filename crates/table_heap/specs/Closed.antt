-- What callers know of a heap that no thread shares any more.
use Rattle.std.specs.Prelude.{ℕ, ◌≡◌, ◌<◌, true, false, List, Some, slice_get}
use Rattle.heap_words.specs.declared.config.Config.{Config}
use Rattle.heap_words.specs.Ranges.{seat_count}
use Rattle.heap_words.specs.Steps.{Stage}
use Rattle.shen_graph.specs.declared.order.Order.TheVariants.{Nothing}
use Rattle.shared_table.specs.Views as views
use Rattle.image_graph.specs.State as images
use Rattle.shared_table.specs.Counted.{uncounted_view}
use Rattle.step_core.specs.Actor.{Actor}
use Rattle.step_core.specs.Machines.{takes_of, is_resting}
use Rattle.step_core.specs.Settled.{control_number}
use Rattle.table_heap.specs.declared.bundle.Bundle.{Bundle}
use Rattle.table_heap.specs.declared.closed.Closed.{Closed}
use Rattle.table_heap.specs.State as state

-- the bundle has all machines of its heap
abbrev pub HasAll : Bundle → Type 0
HasAll bundle = (number : ℕ) → number < seat_count (state.config_in bundle).mutators (state.config_in bundle).helpers → state.HasMachine bundle number

-- its control has made its last access
abbrev pub IsControlIdle : Bundle → Type 0
IsControlIdle bundle = (actor : Actor) → views.machine_of (state.view_of bundle) (control_number (state.config_in bundle)) ≡ Some actor → takes_of actor.machine Nothing ≡ false

-- the configuration
abbrev pub config_of : Closed → Config
config_of closed = images.config_of closed.image

-- its words, in the order of their places
abbrev pub words_of : Closed → List ℕ
words_of closed = images.words_of closed.image

-- its machines by their numbers, as their events see them
abbrev pub machines_of : Closed → List Actor
machines_of closed = views.machines_of (uncounted_view closed.seat.value.me.0)

-- words and machines together
abbrev pub stage_of : Closed → Stage Actor
stage_of closed = record { words = words_of closed; machines = machines_of closed }

-- no mutator has a call in progress
abbrev pub AllRest : Closed → Type 0
AllRest closed = (number : ℕ) (actor : Actor) → number < (config_of closed).mutators → slice_get (machines_of closed) number ≡ Some actor → is_resting actor.machine ≡ true

-- all is as it was
pub record IsUnchanged (old new : Closed) : Type 0 where
  pub config : config_of new ≡ config_of old
  pub stage : stage_of new ≡ stage_of old
