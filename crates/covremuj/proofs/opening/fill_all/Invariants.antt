use Rattle.std.proofs.Common.{◌≡◌, ◌+◌, ◌++◌, length, map, take, Some}
use mathlib.Core.List.{reverse}
use Rattle.covremuj.specs.OpenedHandles.{seats_held}
use Rattle.covremuj.proofs.opening.fill_all.Given as goal

-- the handles before this one hold the seats that are gone, the last one first
abbrev pub invariant-loop-at : goal.invariant-loop-at
invariant-loop-at loop =
    (length loop.seats.items + loop.at ≡ length loop.handles)
    × (take loop.at (seats_held loop.handles) ++ map Some (reverse (map (λ box. box.value) loop.seats.items)) ≡ map Some (reverse (map (λ box. box.value) loop.initial.seats.items)))
