-- What is said where nothing was read goes with the status.
use Rattle.std.proofs.Common.{◌≡◌, ℕ, ◌+◌, List, length, inl, inr, refl}
use Rattle.std.specs.Io.KnownBytes.{Consumes}
use Rattle.shen_base.specs.Count.{Rose}
use Rattle.trace_reading.specs.Grammar.{most_bytes}
use Rattle.trace_reading.specs.declared.why.Why.{Why}
use Rattle.trace_reading.specs.declared.fault.TraceFault.{TraceFault}
use Rattle.trace_reading.specs.declared.fault.TraceFault.TheVariants as fault
use Rattle.trace_text.specs.Message.{line_text}
use Rattle.trace_text.specs.declared.message.Line.TheVariants as line
use Rattle.trace_runs.specs.declared.mode.Mode.{Mode}
use Rattle.trace_runs.specs.declared.status.Status.{Status}
use Rattle.trace_runs.specs.declared.status.Status.TheVariants.{BadTrace, ReadFault, NoMemory}
use Rattle.trace_runs.specs.Words.{Asks}
use Rattle.trace_runs.specs.Readings.{Reading, reading_of, ReadsInput, Refuses}
use Rattle.trace_runs.specs.Answered.{Input, Output, HasRead, StatusFits}
use Rattle.trace_runs.specs.CallEnds.{EndsWith}
use Rattle.trace_runs.specs.Faults.{fault_line, fault_status}
use Rattle.trace_runs.proofs.CallEnds.{said}

-- the bytes were more than a trace may have
abbrev pub CameTooMany : Input → Type 0
CameTooMany input = (bytes : List ℕ) × Consumes input.before input.after bytes × (length bytes ≡ most_bytes + 1)

-- what a fault says of what was read
abbrev pub IsTold : Reading → Input → TraceFault → Type 0
IsTold reading input (fault.BadLine line_number why) = HasRead input (λ bytes. Refuses reading bytes line_number why)
IsTold reading input (fault.TooLong bytes) = CameTooMany input
IsTold reading input fault.ReadFault = Rose input.faults_before input.faults_after
IsTold reading input fault.NoMemory = Unit {0}

pub told_by : (reading : Reading) (input : Input) (told_fault : TraceFault) → ((number : ℕ) (why : Why) → told_fault ≡ fault.BadLine number why → HasRead input (λ bytes. Refuses reading bytes number why)) → ((number : ℕ) → told_fault ≡ fault.TooLong number → CameTooMany input)
    → (told_fault ≡ fault.ReadFault → Rose input.faults_before input.faults_after) → IsTold reading input told_fault
told_by reading input (fault.BadLine number why) bad too_long failed = bad number why refl
told_by reading input (fault.TooLong bytes) bad too_long failed = too_long bytes refl
told_by reading input fault.ReadFault bad too_long failed = failed refl
told_by reading input fault.NoMemory bad too_long failed = tt

pub fault_said : (words : List (List ℕ)) (input : Input) (output : Output) (mode : Mode) (told_fault : TraceFault) (result : Status) → Asks words mode → ReadsInput mode → IsTold (reading_of mode) input told_fault
    → EndsWith (line_text (fault_line told_fault)) (fault_status told_fault) result output.before output.after → StatusFits words input output result
fault_said words input output mode (fault.BadLine line_number why) result asked reads is_told ends =
    said words input output (line_text (line.BadLine line_number why)) BadTrace result (mode, asked, (reads, inl (record { number = line_number; why = why; refused = is_told; text = refl }))) ends
fault_said words input output mode (fault.TooLong bytes) result asked reads is_told ends =
    said words input output (line_text line.TooLong) BadTrace result (mode, asked, (reads, inr (inl (record { bytes = is_told.0; taken = is_told.1; many = is_told.2; text = refl })))) ends
fault_said words input output mode fault.ReadFault result asked reads is_told ends = said words input output (line_text line.ReadFault) ReadFault result ((mode, asked, reads), is_told, refl) ends
fault_said words input output mode fault.NoMemory result asked reads is_told ends = said words input output (line_text line.NoMemory) NoMemory result ((mode, asked), refl) ends
