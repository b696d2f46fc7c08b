-- Why no trace is read.
use Rattle.trace_reading.specs.declared.fault.TraceFault.{TraceFault}
use Rattle.trace_reading.specs.declared.fault.TraceFault.TheVariants.{BadLine, TooLong, ReadFault, NoMemory}

-- the source failed, or memory was refused
abbrev pub IsReadingFault : TraceFault → Type 0
IsReadingFault (BadLine line why) = ⊥
IsReadingFault (TooLong bytes) = ⊥
IsReadingFault ReadFault = Unit {0}
IsReadingFault NoMemory = Unit {0}

-- a line is refused, or memory was refused
abbrev pub IsTextFault : TraceFault → Type 0
IsTextFault (BadLine line why) = Unit {0}
IsTextFault (TooLong bytes) = ⊥
IsTextFault ReadFault = ⊥
IsTextFault NoMemory = Unit {0}
