use Rattle.std.proofs.Common.{◌≡◌, ◌*◌, ◌≤◌}
use Rattle.regions.specs.Tops.{sum_below}
use Rattle.cset_choice.specs.Tables.{adds, most_live}
use Rattle.cset_choice.proofs.choice.live_up_to.Given as goal

abbrev pub invariant-loop-other : goal.invariant-loop-other
invariant-loop-other loop = record {
  value : loop.words ≡ sum_below (adds loop.live loop.candidates loop.region) loop.other;
  bound : loop.words ≤ most_live * loop.other;
}
