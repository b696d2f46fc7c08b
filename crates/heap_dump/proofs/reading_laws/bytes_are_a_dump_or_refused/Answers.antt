use Rattle.heap_dump.proofs.Neither.{not_neither}
use Rattle.heap_dump.proofs.reading_laws.bytes_are_a_dump_or_refused.Goals as goal

pub returns : goal.returns
returns c = λ bytes short no_dump not_refused. not_neither bytes short no_dump not_refused
