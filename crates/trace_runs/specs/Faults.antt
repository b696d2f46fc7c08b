-- What is said where nothing was read.
use Rattle.trace_runs.specs.declared.mode.Mode.{Mode}
use Rattle.std.specs.Prelude.{◌≡◌}
use Rattle.trace_reading.specs.declared.fault.TraceFault.{TraceFault}
use Rattle.trace_reading.specs.declared.fault.TraceFault.TheVariants as fault
use Rattle.trace_text.specs.declared.message.Line.{Line}
use Rattle.trace_text.specs.declared.message.Line.TheVariants as line
use Rattle.trace_runs.specs.Readings.{reading_of, ReadTrace}
use Rattle.trace_runs.specs.declared.status.Status.{Status}
use Rattle.trace_runs.specs.declared.status.Status.TheVariants.{BadTrace, ReadFault, NoMemory}

-- the line, and the status
abbrev pub fault_line : TraceFault → Line
fault_line (fault.BadLine line_number why) = line.BadLine line_number why
fault_line (fault.TooLong bytes) = line.TooLong
fault_line fault.ReadFault = line.ReadFault
fault_line fault.NoMemory = line.NoMemory

abbrev pub fault_status : TraceFault → Status
fault_status (fault.BadLine line_number why) = BadTrace
fault_status (fault.TooLong bytes) = BadTrace
fault_status fault.ReadFault = ReadFault
fault_status fault.NoMemory = NoMemory

-- a mode that reads a trace alone
abbrev pub ReadsOnlyTrace : Mode → Type 0
ReadsOnlyTrace mode = reading_of mode ≡ ReadTrace
