use Rattle.std.proofs.Common.{◌≡◌, take}
use Rattle.shen_check.specs.JudgeState.{regions_held}
use Rattle.shen_check.proofs.crowd.pinned_regions.Given as goal

abbrev pub invariant-loop-pinned : goal.invariant-loop-pinned
invariant-loop-pinned loop = loop.regions.items ≡ regions_held loop.region_words (take loop.pinned-index loop.held)
