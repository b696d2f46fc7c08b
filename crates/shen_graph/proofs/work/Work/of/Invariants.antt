use Rattle.std.proofs.Common.{◌≡◌, ℕ, ◌<◌, ◌≤◌, length, get_or, take, vec_len, None}
use Rattle.std.specs.Prelude.{slice_get, option_map}
use Rattle.shen_graph.specs.Work.{begun}
use Rattle.shen_graph.proofs.work.Work.of.Given as goal

-- the scripts that are left are the first ones, and the others have their places
abbrev pub invariant-loop-script : goal.invariant-loop-script
invariant-loop-script loop = record {
  places : length loop.jobs ≡ 8;
  few : length loop.scripts.items ≤ 8;
  left : loop.scripts.items ≡ take (length loop.scripts.items) loop.initial.scripts.items;
  moved : (index : ℕ) → index < 8 → length loop.scripts.items ≤ index → get_or loop.jobs index None ≡ option_map begun (slice_get loop.initial.scripts.items index);
}

abbrev pub decreases-loop-script : goal.decreases-loop-script
decreases-loop-script loop = vec_len loop.scripts
