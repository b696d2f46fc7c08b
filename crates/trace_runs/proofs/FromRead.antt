-- What comes of a dump that was read.
use Rattle.std.proofs.Common.{ℕ, List}
use Rattle.shen_graph.specs.declared.command.Command.{Command}
use Rattle.shen_graph.specs.GraphText.{Text}
use Rattle.heap_words.specs.declared.config.Config.{Config}
use Rattle.heap_words.specs.declared.schedule.Item.{Item}
use Rattle.graph_placing.specs.ByName.{Fits}
use Rattle.heap_dump.specs.Dumped.{dumped}
use Rattle.heap_dump.specs.DumpsToRun.{Resumes}
use Rattle.heap_dump.specs.Resumed.{IsResumed, IsCutFrom}
use Rattle.trace_runs.specs.FromDumps.{IsDumpAndMore, IsAnswerFromDump, IsCutFromDump, IsTooLargeDump}

module _ (bytes : List ℕ) (config : Config) (counts : List ℕ) (graph : Text) (scripts : List (List Command)) (items : List Item) (resumes : Resumes bytes (dumped config counts graph) scripts items) where
  abbrev read_so : IsDumpAndMore bytes
  read_so = record { config = config; counts = counts; graph = graph; scripts = scripts; items = items; resumes = resumes }

  pub answered_from : (limit : ℕ) (answer : List ℕ) → Fits config graph → IsResumed config counts graph scripts items limit answer → IsAnswerFromDump bytes limit answer
  answered_from limit answer fits resumed = record { read = read_so; fits = fits; resumed = resumed }

  pub cut_from : (limit : ℕ) → Fits config graph → IsCutFrom config counts graph scripts items limit → IsCutFromDump bytes limit
  cut_from limit fits cut = record { read = read_so; fits = fits; cut = cut }

  pub too_large : (Fits config graph → ⊥) → IsTooLargeDump bytes
  too_large graph_too_large = record { read = read_so; too_large = graph_too_large }
