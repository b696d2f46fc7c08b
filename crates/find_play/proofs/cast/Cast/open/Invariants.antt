use Rattle.std.proofs.Common.{length}
use Rattle.find_play.specs.Plays.{Begun, opening}
use Rattle.find_play.specs.Scenes.{scene}
use Rattle.find_play.proofs.cast.Cast.open.Given as goal

abbrev pub invariant-loop-number : goal.invariant-loop-number
invariant-loop-number loop = Begun loop.test.programs.items (opening loop.test.bounds.returns (length loop.test.notes)) loop.number (scene loop.cast)
