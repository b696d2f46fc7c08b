use Rattle.heap_dump.proofs.DumpEnds as ended
use Rattle.heap_dump.proofs.Reread as reread
use Rattle.heap_dump.proofs.reading_laws.dumps_are_refused_once.Goals as goal

pub returns-clause-never_both : goal.returns-clause-never_both
returns-clause-never_both c = λ bytes dump scripts items line_number why reads refused. reread.never_both bytes dump scripts items line_number why reads refused.0

pub returns-clause-once : goal.returns-clause-once
returns-clause-once c = λ bytes line other_line why other_why refused other_refused. ended.refused_once bytes line other_line why other_why refused.0 other_refused.0
