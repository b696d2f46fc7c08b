-- Threads that were started, each for a part.
use Rattle.std.specs.Prelude.{ℕ, ◌≡◌, ◌+◌, ◌-◌, ◌<◌, List, length, Some, slice_get}
use Rattle.table_heap.specs.declared.heap.Heap.{Heap}
use Rattle.trace_runs.specs.declared.parts.Part.{Part}
use Rattle.trace_runs.specs.declared.threads.Thread.{Thread}
use Rattle.trace_runs.specs.declared.threads.Thread.TheVariants.{Running, Over}
use Rattle.trace_runs.specs.DealtParts.{Assigned, PartIsReady, IsDone, AreReady}

-- a thread has the part of one bundle, or that part has run
abbrev pub IsThread : Heap → Assigned → ℕ → ℕ → Thread → Type 0
IsThread heap assigned workers index (Running handle) = PartIsReady heap assigned workers index (index + 1) handle.promise.0.value
IsThread heap assigned workers index (Over part) = IsDone heap assigned workers index (index + 1) part

-- the parts of the last bundles, the last one first
abbrev pub AreThreads : Heap → Assigned → ℕ → List Thread → Type 0
AreThreads heap assigned workers threads = (index : ℕ) (thread : Thread) → slice_get threads index ≡ Some thread → IsThread heap assigned workers (workers - (index + 1)) thread

-- the parts of the first bundles are here, and threads have the others
pub record AreSplit (heap : Heap) (assigned : Assigned) (workers : ℕ) (parts : List Part) (threads : List Thread) : Type 0 where
  pub some : 0 < length parts
  pub count : length parts + length threads ≡ workers
  pub here : AreReady heap assigned workers parts
  pub there : AreThreads heap assigned workers threads
