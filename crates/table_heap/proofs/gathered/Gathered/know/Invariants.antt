use Rattle.std.proofs.Common.{Some}
use Rattle.table_heap.proofs.gathered.Gathered.know.Given as goal

abbrev pub ghosts-read_run : goal.ghosts-read_run
ghosts-read_run arguments = record { key = Some arguments.table.now.key }
