-- What each status of the program means: what came in, and what was written.
use Rattle.std.specs.Prelude.{ℕ, ◌≡◌, ◌+◌, ◌⊎◌, List, [], ◌∷◌, ◌++◌, codes, length, Option}
use Rattle.std.specs.Fmt.{decimal}
use Rattle.std.specs.Io.KnownBytes.{Appends, Consumes}
use Rattle.shen_base.specs.Count.{Rose}
use Rattle.trace_reading.specs.Grammar.{most_bytes}
use Rattle.trace_reading.specs.Spelling.{newline}
use Rattle.trace_runs.specs.Words.{usual_steps}
use Rattle.trace_runs.specs.Answered.{Input, Output, HasRead, SaysLine}
use Rattle.find_play.specs.declared.test.Test.{Test}
use Rattle.find_play.specs.declared.verdict.Verdict.{Verdict}
use Rattle.find_play.specs.declared.verdict.Verdict.TheVariants as verdict
use Rattle.find_play.specs.declared.fault.TestWhy.{TestWhy}
use Rattle.find_play.specs.declared.fault.TestFault.TheVariants as fault
use Rattle.find_play.specs.Tests.{test_said, IsTest, RefusesTest}
use Rattle.find_search.specs.Judged.{IsBreak}
use Rattle.program_calls.specs.FaultLines.{refusal_text}
use Rattle.program_calls.specs.declared.find_status.Status.{Status}
use Rattle.program_calls.specs.declared.find_status.Status.TheVariants.{Holds, BadWords, BadTest, Unfinished, ReadFault, WriteFault, NoMemory, Fails, Stuck}

-- the status of a verdict
abbrev pub status_of : Verdict → Status
status_of verdict.Holds = Holds
status_of (verdict.Fails assertion) = Fails
status_of (verdict.Stuck thread) = Stuck

-- the last line of a report
abbrev pub line_of_verdict : Verdict → List ℕ
line_of_verdict verdict.Holds = codes "holds\n"
line_of_verdict (verdict.Fails assertion) = codes "fails assertion " ++ (decimal assertion ++ newline ∷ [])
line_of_verdict (verdict.Stuck thread) = codes "stuck thread " ++ (decimal thread ++ newline ∷ [])

-- a report was written between these, whose last line is of this verdict
pub record Reports (v : Verdict) (before after : Option (List ℕ)) : Type 0 where
  pub counts : List ℕ
  pub written : Appends before after (counts ++ line_of_verdict v)

-- A trace was written whose own replay, of so many steps as that of `shenrun`, breaks the test. The status and the report name how.
pub record FindsBreak (s : Status) (test : Test) (sink errors : Output) : Type 0 where
  pub text : List ℕ
  pub verdict : Verdict
  pub is_break : IsBreak test text usual_steps verdict
  pub status : s ≡ status_of verdict
  pub written : Appends sink.before.written sink.after.written text
  pub reports : Reports verdict errors.before.written errors.after.written

-- no run that was made breaks the test: nothing was written but a report
pub record FindsNone (sink errors : Output) : Type 0 where
  pub kept : sink.after ≡ sink.before
  pub reports : Reports verdict.Holds errors.before.written errors.after.written

-- how the search of a test ends
abbrev pub HasSearched : Status → Test → Output → Output → Type 0
HasSearched Holds test sink errors = FindsNone sink errors
HasSearched Unfinished test sink errors = SaysLine (codes "unfinished\n") sink errors
HasSearched NoMemory test sink errors = SaysLine (codes "out of memory\n") sink errors
HasSearched Fails test sink errors = FindsBreak Fails test sink errors
HasSearched Stuck test sink errors = FindsBreak Stuck test sink errors
HasSearched _ test sink errors = ⊥

-- What came whole is the text of a test, and this holds of the test.
pub record HasTest (input : Input) (P : Test → Type 0) : Type 0 where
  pub test : Test
  pub read : HasRead input (λ bytes. IsTest bytes (test_said test))
  pub is : P test

-- What came whole is refused at this line, the first at fault, for the first cause that holds for it; and what is written says both.
pub record IsTestRefused (input : Input) (sink errors : Output) : Type 0 where
  pub line : ℕ
  pub why : TestWhy
  pub read : HasRead input (λ bytes. RefusesTest bytes line why)
  pub says : SaysLine (refusal_text (fault.BadLine line why)) sink errors

-- more bytes came than a test may have
pub record IsTestTooLong (input : Input) (sink errors : Output) : Type 0 where
  pub bytes : List ℕ
  pub taken : Consumes input.before input.after bytes
  pub many : length bytes ≡ most_bytes + 1
  pub says : SaysLine (codes "too long: more than 16777216 bytes\n") sink errors

-- The status fits what came and what was written. Of words that are refused nothing was read.
abbrev pub StatusTells : Status → Input → Output → Output → Type 0
StatusTells BadWords input sink errors = (input.after ≡ input.before) × (input.faults_after ≡ input.faults_before) × SaysLine (codes "bad words\n") sink errors
StatusTells BadTest input sink errors = IsTestRefused input sink errors ⊎ IsTestTooLong input sink errors
StatusTells ReadFault input sink errors = Rose input.faults_before input.faults_after × SaysLine (codes "read fault\n") sink errors
StatusTells WriteFault input sink errors = Rose sink.before.faults sink.after.faults ⊎ Rose errors.before.faults errors.after.faults
StatusTells NoMemory input sink errors = SaysLine (codes "out of memory\n") sink errors
StatusTells status input sink errors = HasTest input (λ test. HasSearched status test sink errors)
