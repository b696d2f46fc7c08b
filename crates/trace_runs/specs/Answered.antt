-- What each status of the program means: what was asked for, what came in, and what may be written. A mode has one line in `IsAnswerOf`, a
-- record for what it answers, and one line in `reading_of` that says what it reads; and one in `bound_of` where its steps are bounded.
use Rattle.std.specs.Prelude.{ℕ, ◌≡◌, ◌+◌, ◌⊎◌, List, length, Option, Some, None}
use Rattle.std.specs.Io.KnownBytes.{Appends, Consumes}
use Rattle.shen_base.specs.Count.{Rose, CalledAtMost}
use Rattle.shen_base.specs.Sending.{Outlet, WritesFront}
use Rattle.trace_reading.specs.Grammar.{most_bytes, Came}
use Rattle.trace_reading.specs.declared.why.Why.{Why}
use Rattle.trace_text.specs.Message.{line_text}
use Rattle.trace_text.specs.declared.message.Line.TheVariants as line
use Rattle.trace_runs.specs.declared.mode.Mode.{Mode}
use Rattle.trace_runs.specs.declared.mode.Mode.TheVariants.{Replay, Noted, Dump, Resume, Run, Churn, Queue, Check}
use Rattle.trace_runs.specs.declared.status.Status.{Status}
use Rattle.trace_runs.specs.declared.status.Status.TheVariants.{Ok, BadWords, BadTrace, Unfinished, ReadFault, WriteFault, NoMemory}
use Rattle.trace_runs.specs.Words.{Asks, Asked, Ask}
use Rattle.trace_runs.specs.Readings.{Reading, reading_of, HasInput, ReadsInput, Refuses, IsTooLarge, IsCutAfter}
use Rattle.trace_runs.specs.Replayed.{IsReplayed, IsReplayedNoted, IsReplayedToDump, IsRun}
use Rattle.trace_runs.specs.FromDumps.{IsAnswerFromDump}
use Rattle.trace_runs.specs.Churned.{IsChurned}
use Rattle.trace_runs.specs.Checked.{IsChecked}
use Rattle.trace_runs.specs.Queued.{IsQueued}

-- What the source has left where it tells it, before the call and after it, and its faults.
pub record Input : Type 0 where
  pub before : Option (List ℕ)
  pub after : Option (List ℕ)
  pub faults_before : ℕ
  pub faults_after : ℕ

-- The sink before the call and after it.
pub record Output : Type 0 where
  pub before : Outlet
  pub after : Outlet

-- the text was written among the errors, and nothing into the sink
pub record SaysLine (text : List ℕ) (sink errors : Output) : Type 0 where
  pub kept : sink.after ≡ sink.before
  pub written : Appends errors.before.written errors.after.written text

-- All that the source had was read, and of these bytes this holds.
pub record HasRead (input : Input) (P : List ℕ → Type 0) : Type 0 where
  pub bytes : List ℕ
  pub came : Came input.before input.after bytes
  pub is : P bytes

-- ---- the modes

-- what is written where a mode is answered
abbrev pub IsAnswerOf : Mode → Input → List ℕ → Type 0
IsAnswerOf (Replay steps) input out = HasRead input (λ bytes. IsReplayed bytes steps out)
IsAnswerOf (Noted steps) input out = HasRead input (λ bytes. IsReplayedNoted bytes steps out)
IsAnswerOf (Dump steps) input out = HasRead input (λ bytes. IsReplayedToDump bytes steps out)
IsAnswerOf (Resume steps) input out = HasRead input (λ bytes. IsAnswerFromDump bytes steps out)
IsAnswerOf (Run workers) input out = HasRead input (λ bytes. IsRun bytes out)
IsAnswerOf (Churn load) input out = IsChurned load.seed load.count out
IsAnswerOf (Queue count) input out = IsQueued count out
IsAnswerOf Check input out = HasRead input (λ bytes. IsChecked bytes out)

-- the steps that it may make, if these are bounded
abbrev pub bound_of : Mode → Option ℕ
bound_of (Replay steps) = Some steps
bound_of (Noted steps) = Some steps
bound_of (Dump steps) = Some steps
bound_of (Resume steps) = Some steps
bound_of _ = None

-- ---- the texts

-- what came is refused, and the line that is written says where and why
pub record IsRefused (reading : Reading) (input : Input) (out : List ℕ) : Type 0 where
  pub number : ℕ
  pub why : Why
  pub refused : HasRead input (λ bytes. Refuses reading bytes number why)
  pub text : out ≡ line_text (line.BadLine number why)

-- more bytes came than a trace may have
pub record IsTooLong (input : Input) (out : List ℕ) : Type 0 where
  pub bytes : List ℕ
  pub taken : Consumes input.before input.after bytes
  pub many : length bytes ≡ most_bytes + 1
  pub text : out ≡ line_text line.TooLong

-- what came is a dump whose objects do not fit its heap
pub record IsTooSmallHeap (reading : Reading) (input : Input) (out : List ℕ) : Type 0 where
  pub read : HasRead input (λ bytes. IsTooLarge reading bytes)
  pub text : out ≡ line_text line.HeapTooSmall

-- what came is read, and so many steps as the mode may make leave a machine that is not idle
pub record IsCutOff (mode : Mode) (input : Input) (out : List ℕ) : Type 0 where
  pub steps : ℕ
  pub limit : bound_of mode ≡ Some steps
  pub cut : HasRead input (λ bytes. IsCutAfter (reading_of mode) bytes steps)
  pub text : out ≡ line_text (line.Unfinished steps)

-- what is said of bytes that cannot be run
abbrev pub IsTurnedDown : Reading → Input → List ℕ → Type 0
IsTurnedDown reading input out = HasInput reading × (IsRefused reading input out ⊎ (IsTooLong input out ⊎ IsTooSmallHeap reading input out))

-- The texts that go with each status but that of a write fault.
abbrev pub Allows : List (List ℕ) → Input → Status → List ℕ → Type 0
Allows words input Ok out = Asked words (λ mode. IsAnswerOf mode input out)
Allows words input BadWords out = (Ask words → ⊥) × (out ≡ line_text line.BadWords)
Allows words input BadTrace out = Asked words (λ mode. IsTurnedDown (reading_of mode) input out)
Allows words input Unfinished out = Asked words (λ mode. IsCutOff mode input out)
Allows words input ReadFault out = Asked words ReadsInput × Rose input.faults_before input.faults_after × (out ≡ line_text line.ReadFault)
Allows words input WriteFault out = ⊥
Allows words input NoMemory out = Ask words × (out ≡ line_text line.NoMemory)

-- ---- the statuses

-- A text that goes with the status was written, whole, and by at most one writing call for each of its bytes.
pub record IsWritten (words : List (List ℕ)) (input : Input) (output : Output) (status : Status) : Type 0 where
  pub out : List ℕ
  pub allowed : Allows words input status out
  pub appended : Appends output.before.written output.after.written out
  pub few_calls : CalledAtMost (length out) output.before.calls output.after.calls

-- The sink failed, and a front of a text was written that goes with another status: by at most one call for each byte that was
-- written and the one that failed, and at most one for each byte of that text.
pub record IsCutShort (words : List (List ℕ)) (input : Input) (output : Output) : Type 0 where
  pub failed : Rose output.before.faults output.after.faults
  pub status : Status
  pub out : List ℕ
  pub allowed : Allows words input status out
  pub front : WritesFront output.before output.after out
  pub few_calls : CalledAtMost (length out) output.before.calls output.after.calls

-- The status fits the words, what came and what was written.
abbrev pub StatusFits : List (List ℕ) → Input → Output → Status → Type 0
StatusFits words input output WriteFault = IsCutShort words input output
StatusFits words input output status = IsWritten words input output status

-- The words asked for a mode, and what was written is its answer: the headline.
pub record HasAnswered (words : List (List ℕ)) (input : Input) (output : Output) : Type 0 where
  pub mode : Mode
  pub asked : Asks words mode
  pub out : List ℕ
  pub answer : IsAnswerOf mode input out
  pub written : Appends output.before.written output.after.written out

-- The statuses that are left where the words ask for what reads something, that comes, and nothing fails.
abbrev pub IsTraceStatus : List (List ℕ) → Status → Type 0
IsTraceStatus words Ok = Unit {0}
IsTraceStatus words Unfinished = Asked words (λ mode. (steps : ℕ) × (bound_of mode ≡ Some steps))
IsTraceStatus words NoMemory = Unit {0}
IsTraceStatus words _ = ⊥
