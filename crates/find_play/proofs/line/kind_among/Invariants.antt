use Rattle.std.proofs.Common.{◌≡◌, drop}
use Rattle.find_play.specs.Kinds.{kind_of_word}
use Rattle.find_play.proofs.line.kind_among.Given as goal

abbrev pub invariant-loop-kind : goal.invariant-loop-kind
invariant-loop-kind locals = kind_of_word (drop locals.kind-index locals.kinds) locals.word ≡ kind_of_word locals.kinds locals.word
