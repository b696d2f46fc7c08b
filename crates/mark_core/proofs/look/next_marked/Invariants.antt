use Rattle.std.proofs.Common.{◌-◌, ℕ, ◌≡◌, ◌+◌, ◌<◌, ◌≤◌, slice_index}
use Rattle.image_graph.specs.State.{config_of, words_of}
use Rattle.regions.specs.Marks.{mark_at}
use Rattle.mark_core.proofs.look.next_marked.Given as goal

abbrev pub invariant-loop-at : goal.invariant-loop-at
invariant-loop-at locals = record {
  from : locals.from ≤ locals.at;
  none : (address : ℕ) → locals.from ≤ address → address < locals.at → mark_at (config_of locals.image) (λ word_number. slice_index (words_of locals.image) (locals.row + word_number)) address ≡ 0;
}

abbrev pub decreases-loop-at : goal.decreases-loop-at
decreases-loop-at locals = locals.end - locals.at
