use Rattle.std.proofs.Common.{length, take}
use Rattle.find_play.specs.Plays.{IsPlay}
use Rattle.find_play.specs.Scenes.{scene}
use Rattle.find_play.proofs.cast.played.Given as goal

abbrev pub invariant-loop-at : goal.invariant-loop-at
invariant-loop-at locals = IsPlay locals.test.programs.items locals.test.bounds.returns (length locals.test.notes) (take locals.at locals.history.list) (scene locals.cast)
