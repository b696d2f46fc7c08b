use Rattle.std.proofs.Common.{◌≡◌, ◌+◌, drop}
use Rattle.find_play.specs.Names.{name_bytes}
use Rattle.find_play.proofs.words.name_bytes.Given as goal

abbrev pub invariant-loop-count : goal.invariant-loop-count
invariant-loop-count locals = locals.count + name_bytes (drop locals.count locals.word) ≡ name_bytes locals.word
