-- The numbers with which the program ends.
use Rattle.std.specs.Prelude.{ℕ}
use Rattle.program_calls.specs.declared.find_status.Status.{Status}
use Rattle.program_calls.specs.declared.find_status.Status.TheVariants.{Holds, BadWords, BadTest, Unfinished, ReadFault, WriteFault, NoMemory, Fails, Stuck}

abbrev pub exit_number : Status → ℕ
exit_number Holds = 0
exit_number BadWords = 2
exit_number BadTest = 3
exit_number Unfinished = 4
exit_number ReadFault = 5
exit_number WriteFault = 6
exit_number NoMemory = 7
exit_number Fails = 10
exit_number Stuck = 11
