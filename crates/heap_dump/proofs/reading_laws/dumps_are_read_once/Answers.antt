use Rattle.heap_dump.proofs.Reread.{read_once}
use Rattle.heap_dump.proofs.reading_laws.dumps_are_read_once.Goals as goal

pub returns : goal.returns
returns c = read_once
