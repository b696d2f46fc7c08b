use Rattle.heap_dump.proofs.OwnGraph.{some_dump, one_dump}
use Rattle.heap_dump.proofs.writing_laws.graphs_have_one_dump.Goals as goal

pub returns-clause-some : goal.returns-clause-some
returns-clause-some c = some_dump

pub returns-clause-once : goal.returns-clause-once
returns-clause-once c = one_dump
