-- What each status of the program means: what came in, and what was written.
use Rattle.std.specs.Prelude.{ℕ, ◌≡◌, ◌+◌, ◌⊎◌, List, codes, length}
use Rattle.std.specs.Io.KnownBytes.{Appends, Consumes}
use Rattle.heap_words.specs.declared.config.Config.{Config}
use Rattle.heap_words.specs.declared.schedule.Item.{Item}
use Rattle.shen_base.specs.Count.{Rose}
use Rattle.step_core.specs.Schedule.{Scripts}
use Rattle.trace_reading.specs.Grammar.{Reads, most_bytes}
use Rattle.trace_reading.specs.declared.why.Why.{Why}
use Rattle.trace_reading.specs.Refused.{Refused}
use Rattle.trace_text.specs.Message.{line_text}
use Rattle.trace_text.specs.declared.message.Line.TheVariants as line
use Rattle.trace_runs.specs.Answered.{Input, Output, HasRead, SaysLine}
use Rattle.trace_runs.specs.declared.status.Status.{Status}
use Rattle.trace_runs.specs.declared.status.Status.TheVariants.{Ok, BadWords, BadTrace, Unfinished, ReadFault, WriteFault, NoMemory}
use Rattle.program_calls.specs.Noted.{IsNotedRun}

-- A trace came whole, and one that is noted of it was written, and nothing among the errors.
pub record HasNoted (input : Input) (sink errors : Output) : Type 0 where
  pub text : List ℕ
  pub noted : HasRead input (λ bytes. IsNotedRun bytes text)
  pub written : Appends sink.before.written sink.after.written text
  pub silent : errors.after ≡ errors.before

-- What came whole is refused at this line, the first at fault, for the first cause that holds for it; and what is written says both.
pub record IsTraceRefused (input : Input) (sink errors : Output) : Type 0 where
  pub number : ℕ
  pub why : Why
  pub read : HasRead input (λ bytes. Refused bytes number why)
  pub says : SaysLine (line_text (line.BadLine number why)) sink errors

-- more bytes came than a trace may have
pub record IsTraceTooLong (input : Input) (sink errors : Output) : Type 0 where
  pub bytes : List ℕ
  pub taken : Consumes input.before input.after bytes
  pub many : length bytes ≡ most_bytes + 1
  pub says : SaysLine (line_text line.TooLong) sink errors

-- the bytes are a trace
abbrev pub IsTrace : List ℕ → Type 0
IsTrace bytes = (version : ℕ) × (config : Config) × (scripts : Scripts) × (items : List Item) × Reads bytes version config scripts items

-- A trace came whole, and its run was not noted: it made more steps than are noted or its text or answer would be too long, or the schedule
-- does not replay it.
pub record HasNotNoted (input : Input) (sink errors : Output) : Type 0 where
  pub read : HasRead input IsTrace
  pub says : SaysLine (codes "too many steps to note them\n") sink errors ⊎ SaysLine (codes "the replay has another answer\n") sink errors

-- The status fits what came and what was written: a noted trace and nothing else, or one line of a cause and nothing else.
abbrev pub NotingTells : Status → Input → Output → Output → Type 0
NotingTells Ok input sink errors = HasNoted input sink errors
NotingTells BadWords input sink errors = SaysLine (line_text line.BadWords) sink errors
NotingTells BadTrace input sink errors = IsTraceRefused input sink errors ⊎ IsTraceTooLong input sink errors
NotingTells Unfinished input sink errors = HasNotNoted input sink errors
NotingTells ReadFault input sink errors = Rose input.faults_before input.faults_after × SaysLine (line_text line.ReadFault) sink errors
NotingTells WriteFault input sink errors = Rose sink.before.faults sink.after.faults ⊎ Rose errors.before.faults errors.after.faults
NotingTells NoMemory input sink errors = SaysLine (line_text line.NoMemory) sink errors
