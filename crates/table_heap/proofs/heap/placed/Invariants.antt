use Rattle.std.proofs.Common.{◌≡◌, ◌++◌, vec_len}
use mathlib.Core.List.{reverse}
use Rattle.shared_table.specs.Views.{whole}
use Rattle.table_heap.proofs.heap.placed.Given as goal

-- those that are left come behind those that are placed, the last one first
abbrev pub invariant-loop-machine : goal.invariant-loop-machine
invariant-loop-machine loop = loop.places.items ++ whole (reverse loop.machines.items) ≡ whole loop.fn.machines.items

abbrev pub decreases-loop-machine : goal.decreases-loop-machine
decreases-loop-machine loop = vec_len loop.machines
