use Rattle.std.proofs.Common.{◌≡◌, ◌+◌, drop}
use Rattle.find_play.specs.NameNumbers.{others}
use Rattle.find_play.proofs.names.Names.before.Given as goal

abbrev pub invariant-loop-count : goal.invariant-loop-count
invariant-loop-count locals = locals.count + others (drop locals.count locals.self) locals.name ≡ others locals.self locals.name
