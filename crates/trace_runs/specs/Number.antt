-- The numbers with which the program ends.
use Rattle.std.specs.Prelude.{ℕ}
use Rattle.trace_runs.specs.declared.status.Status.{Status}
use Rattle.trace_runs.specs.declared.status.Status.TheVariants.{Ok, BadWords, BadTrace, Unfinished, ReadFault, WriteFault, NoMemory}

abbrev pub status_number : Status → ℕ
status_number Ok = 0
status_number BadWords = 2
status_number BadTrace = 3
status_number Unfinished = 4
status_number ReadFault = 5
status_number WriteFault = 6
status_number NoMemory = 7
