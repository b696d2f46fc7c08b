use Rattle.std.proofs.Common.{◌≡◌, drop}
use Rattle.find_play.specs.Drafts.{has_loop}
use Rattle.find_play.proofs.draft.has_loop.Given as goal

abbrev pub invariant-loop-block : goal.invariant-loop-block
invariant-loop-block locals = has_loop (drop locals.block-index locals.blocks) ≡ has_loop locals.blocks
