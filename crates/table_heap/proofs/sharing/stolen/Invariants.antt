use Rattle.heap_words.specs.declared.config.Config.{Config}
use Rattle.table_heap.specs.Known.{AreThievesOf}
use Rattle.table_heap.proofs.sharing.stolen.Given as goal

abbrev pub invariant-loop-thief : goal.invariant-loop-thief
invariant-loop-thief loop = (config : Config) → AreThievesOf config loop.fn.thieves → AreThievesOf config loop.thieves
