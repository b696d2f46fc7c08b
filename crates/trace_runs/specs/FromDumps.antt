-- What a dump, and what stands behind it, makes its heap do.
use Rattle.std.specs.Prelude.{ℕ, List}
use Rattle.heap_words.specs.declared.config.Config.{Config}
use Rattle.heap_words.specs.declared.schedule.Item.{Item}
use Rattle.shen_graph.specs.GraphText.{Text}
use Rattle.step_core.specs.Schedule.{Scripts}
use Rattle.graph_placing.specs.ByName.{Fits}
use Rattle.heap_dump.specs.Dumped.{dumped}
use Rattle.heap_dump.specs.DumpsToRun.{Resumes}
use Rattle.heap_dump.specs.Resumed.{IsResumed, IsCutFrom}

-- The bytes are a dump, the line `trace`, and the lines of these scripts and items.
pub record IsDumpAndMore (bytes : List ℕ) : Type 0 where
  pub config : Config
  pub counts : List ℕ
  pub graph : Text
  pub scripts : Scripts
  pub items : List Item
  pub resumes : Resumes bytes (dumped config counts graph) scripts items

-- the dump's objects, one behind the other in the order of names, fit in a heap of its sizes
abbrev pub FitsItsHeap : {bytes : List ℕ} → IsDumpAndMore bytes → Type 0
FitsItsHeap read = Fits read.config read.graph

-- They fit, exactly the events of the schedule and of the rounds after it come to an end there, and the text is the answer of their history,
-- which goes on from the dump's graph.
pub record IsAnswerFromDump (bytes : List ℕ) (limit : ℕ) (out : List ℕ) : Type 0 where
  pub read : IsDumpAndMore bytes
  pub fits : FitsItsHeap read
  pub resumed : IsResumed read.config read.counts read.graph read.scripts read.items limit out

-- they fit, and so many events from there leave a machine that is not idle
pub record IsCutFromDump (bytes : List ℕ) (limit : ℕ) : Type 0 where
  pub read : IsDumpAndMore bytes
  pub fits : FitsItsHeap read
  pub cut : IsCutFrom read.config read.counts read.graph read.scripts read.items limit

-- they do not fit
pub record IsTooLargeDump (bytes : List ℕ) : Type 0 where
  pub read : IsDumpAndMore bytes
  pub too_large : FitsItsHeap read → ⊥
