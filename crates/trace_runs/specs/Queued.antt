-- What the users of a queue in the heap come to.
use Rattle.std.specs.Prelude.{ℕ, ◌≡◌, ◌+◌, List, [], ◌∷◌, length}
use Rattle.heap_words.specs.declared.config.Config.{Config}
use Rattle.heap_words.specs.Ranges.{seat_count}
use Rattle.heap_words.specs.Steps.{Event}
use Rattle.shen_graph.specs.declared.order.Order.{Order}
use Rattle.heap_machines.specs.Pause.{pause_image}
use Rattle.step_core.specs.Begins.{past}
use Rattle.managed_queue.specs.Users.{Use}
use Rattle.managed_queue.specs.Workload.{queue_user, got_in, IsQueueRun, TellsQueue}
use Rattle.table_heap.specs.declared.bundle.Bundle.{Bundle}
use Rattle.table_heap.specs.declared.heap.Heap.{Heap}
use Rattle.table_heap.specs.State.{config_of}
use Rattle.trace_text.specs.Message.{line_text}
use Rattle.trace_text.specs.declared.message.Line.TheVariants.{Queue}
use Rattle.trace_runs.specs.DealtParts.{BundlesAreFresh}
use Rattle.trace_runs.specs.Replayed.{IsWhole}

-- The heap of a queue: 16 regions of 256 words, of which two are kept back, for four mutators and one helper.
pub record IsQueueHeap (config : Config) : Type 0 where
  pub regions : config.regions ≡ 16
  pub region_words : config.region_words ≡ 256
  pub mutators : config.mutators ≡ 4
  pub helpers : config.helpers ≡ 1
  pub reserve : config.reserve ≡ 2

-- the users as they begin, one for each mutator
abbrev pub queue_users : ℕ → List Use
queue_users count = queue_user count 0 ∷ queue_user count 1 ∷ queue_user count 2 ∷ queue_user count 3 ∷ []

-- The bundles of such a heap that was just opened, one for each machine.
pub record CanBeCrewed (h : Heap) (bundles : List Bundle) : Type 0 where
  pub fresh : BundlesAreFresh h bundles
  pub heap : IsQueueHeap (config_of h)
  pub single : length bundles ≡ seat_count (config_of h).mutators (config_of h).helpers

-- Some events of such a heap come to an end, and their history is a legal one of these users: each command of a thread is what its
-- user gives next by the replies before it, and no user gives one more. So no allocation was refused, and the takers got all
-- that was put. The text says how many numbers these two got, and their sum.
pub record IsQueued (count : ℕ) (out : List ℕ) : Type 0 where
  pub config : Config
  pub heap : IsQueueHeap config
  pub events : List (Event Order)
  pub run : IsQueueRun count (past pause_image config events)
  pub whole : IsWhole config run.scripts events
  pub tells : TellsQueue count (past pause_image config events)
  pub text : out ≡ line_text (Queue count
      ((got_in count (past pause_image config events) 2).items + (got_in count (past pause_image config events) 3).items)
      ((got_in count (past pause_image config events) 2).sum + (got_in count (past pause_image config events) 3).sum))
