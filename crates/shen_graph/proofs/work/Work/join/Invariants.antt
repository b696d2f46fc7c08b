use Rattle.std.proofs.Common.{◌≡◌, ℕ, ◌≤◌, length, nat_lt}
use Rattle.std.specs.Prelude.{if◌then◌else◌}
use Rattle.shen_graph.specs.Work.{progress_of, one_of}
use Rattle.shen_graph.proofs.work.Work.join.Given as goal

-- the scripts of the mutators below have been taken in
abbrev pub invariant-loop-mutator : goal.invariant-loop-mutator
invariant-loop-mutator loop = record {
  places : length loop.own ≡ 8;
  other_places : length loop.others ≡ 8;
  taken : (index : ℕ) → progress_of loop.own index ≡ (if nat_lt index loop.mutator then one_of (progress_of loop.initial.own index) (progress_of loop.initial.others index) else progress_of loop.initial.own index);
  waiting : (index : ℕ) → loop.mutator ≤ index → progress_of loop.others index ≡ progress_of loop.initial.others index;
}
