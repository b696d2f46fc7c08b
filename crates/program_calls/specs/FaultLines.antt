-- Why no test is searched, and which line and which status say so.
use Rattle.std.specs.Prelude.{ℕ, List, [], ◌∷◌, ◌++◌, codes}
use Rattle.std.specs.Fmt.{decimal}
use Rattle.trace_reading.specs.Spelling.{newline}
use Rattle.find_play.specs.declared.fault.TestFault.{TestFault}
use Rattle.find_play.specs.declared.fault.TestFault.TheVariants.{BadLine, TooLong, ReadFault, NoMemory}
use Rattle.find_play.specs.TestFaults.{why_text}
use Rattle.program_calls.specs.declared.find_status.Status.{Status}
use Rattle.program_calls.specs.declared.find_status.Status.TheVariants as status

-- the line of a fault
abbrev pub refusal_text : TestFault → List ℕ
refusal_text (BadLine number why) = codes "bad line " ++ (decimal number ++ (codes ": " ++ (why_text why ++ newline ∷ [])))
refusal_text (TooLong bytes) = codes "too long: more than 16777216 bytes\n"
refusal_text ReadFault = codes "read fault\n"
refusal_text NoMemory = codes "out of memory\n"

-- the status of a fault
abbrev pub refusal_status : TestFault → Status
refusal_status (BadLine line why) = status.BadTest
refusal_status (TooLong bytes) = status.BadTest
refusal_status ReadFault = status.ReadFault
refusal_status NoMemory = status.NoMemory
