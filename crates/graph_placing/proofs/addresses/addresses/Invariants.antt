use Rattle.std.proofs.Common.{◌≡◌, ◌<◌, ◌≤◌, ℕ, length, get_or}
use Rattle.image_graph.specs.Plot.{heap_end}
use Rattle.graph_placing.specs.ByName.{end_behind, address_of}
use Rattle.graph_placing.proofs.addresses.addresses.Given as goal

abbrev pub invariant-loop-row : goal.invariant-loop-row
invariant-loop-row loop =
    (loop.end ≡ end_behind loop.config loop.text loop.row) × (loop.end ≤ heap_end loop.config) × (length loop.addresses.items ≡ loop.row) × ((row : ℕ) → row < loop.row → get_or loop.addresses.items row 0 ≡ address_of loop.config loop.text row)
