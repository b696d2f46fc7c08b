use Rattle.std.proofs.Common.{◌≡◌, ◌++◌, map, vec_len}
use mathlib.Core.List.{reverse}
use Rattle.covremuj.proofs.opening.boxed.Given as goal

-- those that are left come before those in boxes, the last one first
abbrev pub invariant-loop-seat : goal.invariant-loop-seat
invariant-loop-seat loop = loop.seats.items ++ reverse (map (λ box. box.value) loop.boxes.items) ≡ loop.initial.seats.items

abbrev pub decreases-loop-seat : goal.decreases-loop-seat
decreases-loop-seat loop = vec_len loop.seats
