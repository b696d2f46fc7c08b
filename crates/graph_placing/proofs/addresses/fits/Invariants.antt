use Rattle.std.proofs.Common.{◌≡◌, ◌≤◌}
use Rattle.image_graph.specs.Plot.{heap_end}
use Rattle.graph_placing.specs.ByName.{end_behind}
use Rattle.graph_placing.proofs.addresses.fits.Given as goal

abbrev pub invariant-loop-row : goal.invariant-loop-row
invariant-loop-row loop = (loop.end ≡ end_behind loop.config loop.text loop.row) × (loop.end ≤ heap_end loop.config)
