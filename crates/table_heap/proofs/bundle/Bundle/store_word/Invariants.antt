use Rattle.std.proofs.Common.{Some}
use Rattle.table_heap.proofs.bundle.Bundle.store_word.Given as goal

abbrev pub ghosts-make_step : goal.ghosts-make_step
ghosts-make_step arguments = record { key = Some arguments.table.now.key; number = arguments.number; order = Some arguments.order.now }
