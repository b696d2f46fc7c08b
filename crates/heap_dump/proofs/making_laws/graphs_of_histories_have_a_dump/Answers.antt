use Rattle.heap_dump.proofs.FormedDumps.{is_dump, counts_made}
use Rattle.heap_dump.proofs.making_laws.graphs_of_histories_have_a_dump.Goals as goal

pub returns-clause-is_dump : goal.returns-clause-is_dump
returns-clause-is_dump c = λ config history dump narrow dumpable dump_made. is_dump config history dump narrow dumpable dump_made

pub returns-clause-counts : goal.returns-clause-counts
returns-clause-counts c = λ config history dump dumpable dump_made. counts_made config history dump dumpable dump_made
