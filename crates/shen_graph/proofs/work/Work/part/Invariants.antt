use Rattle.std.proofs.Common.{◌≡◌, ℕ, length, None, nat_lt}
use Rattle.std.specs.Prelude.{if◌then◌else◌}
use Rattle.shen_graph.specs.Work.{progress_of, is_in_part}
use Rattle.shen_graph.proofs.work.Work.part.Given as goal

-- the mutators below have been dealt
abbrev pub invariant-loop-mutator : goal.invariant-loop-mutator
invariant-loop-mutator loop = record {
  places : length loop.own ≡ 8;
  part_places : length loop.jobs ≡ 8;
  moved : (index : ℕ) → progress_of loop.jobs index ≡ (if nat_lt index loop.mutator then (if is_in_part loop.workers loop.part index then progress_of loop.initial.own index else None) else None);
  left : (index : ℕ) → progress_of loop.own index ≡ (if nat_lt index loop.mutator then (if is_in_part loop.workers loop.part index then None else progress_of loop.initial.own index) else progress_of loop.initial.own index);
}
