-- What is known of a call by its parts.
use Rattle.std.proofs.Common.{◌≡◌, ℕ, ◌+◌, List, length, Ok, Err, Result, IfOk, OnOk, inl, inr, refl, sym, subst}
use Rattle.std.specs.Io.KnownBytes.{Appends, Consumes}
use Rattle.shen_base.specs.Count.{Rose}
use Rattle.shen_base.specs.declared.send.WriteFault.{WriteFault}
use Rattle.trace_reading.specs.Grammar.{most_bytes}
use Rattle.trace_runs.specs.Words.{usual_steps}
use Rattle.trace_runs.specs.Answered.{Input, Output, HasRead, SaysLine}
use Rattle.find_play.specs.declared.test.Test.{Test}
use Rattle.find_play.specs.declared.verdict.Verdict.{Verdict}
use Rattle.find_play.specs.declared.verdict.Verdict.TheVariants as verdict
use Rattle.find_play.specs.declared.fault.TestWhy.{TestWhy}
use Rattle.find_play.specs.declared.fault.TestFault.{TestFault}
use Rattle.find_play.specs.declared.fault.TestFault.TheVariants as fault
use Rattle.find_play.specs.Tests.{test_said, IsTest, RefusesTest}
use Rattle.find_search.specs.Judged.{IsBreak}
use Rattle.program_calls.specs.declared.find_status.Status.{Status}
use Rattle.program_calls.specs.declared.find_status.Status.TheVariants.{Holds, BadWords, BadTest, Unfinished, ReadFault, WriteFault as Unwritten, NoMemory, Fails, Stuck}
use Rattle.program_calls.specs.FaultLines.{refusal_text, refusal_status}
use Rattle.program_calls.specs.FindTellings.{status_of, Reports, HasSearched, StatusTells}

-- which of these is meant by a result of a call: a status, where it did not fail
pub found : (result : Result Status WriteFault) (test : Test) (text : List ℕ) (said : Verdict) (sink errors : Output)
    → IsBreak test text usual_steps said → IfOk result (λ got_status. got_status ≡ status_of said)
    → OnOk result (Appends sink.before.written sink.after.written text) → OnOk result (Reports said errors.before.written errors.after.written)
    → IfOk result (λ got_status. HasSearched got_status test sink errors)
found (Err error) test text said sink errors broken status written reports = tt
found (Ok got_status) test text said sink errors broken status written reports = subst (λ any_status. HasSearched any_status test sink errors) (sym status) (by_verdict said broken reports)
  where
    by_verdict : (its_verdict : Verdict) → IsBreak test text usual_steps its_verdict → Reports its_verdict errors.before.written errors.after.written → HasSearched (status_of its_verdict) test sink errors
    by_verdict verdict.Holds is_break reported = absurd (is_break.breaks refl)
    by_verdict (verdict.Fails count) is_break reported = record { text = text; verdict = verdict.Fails count; is_break = is_break; status = refl; written = written; reports = reported }
    by_verdict (verdict.Stuck count) is_break reported = record { text = text; verdict = verdict.Stuck count; is_break = is_break; status = refl; written = written; reports = reported }

-- a test came, and how its search has ended fits the status
fits_searched : (status : Status) (input : Input) (sink errors : Output) (test : Test) → HasRead input (λ bytes. IsTest bytes (test_said test))
    → HasSearched status test sink errors → StatusTells status input sink errors
fits_searched Holds input sink errors test read has_searched = record { test = test; read = read; is = has_searched }
fits_searched Unfinished input sink errors test read has_searched = record { test = test; read = read; is = has_searched }
fits_searched Fails input sink errors test read has_searched = record { test = test; read = read; is = has_searched }
fits_searched Stuck input sink errors test read has_searched = record { test = test; read = read; is = has_searched }
fits_searched NoMemory input sink errors test read has_searched = has_searched
fits_searched BadWords input sink errors test read has_searched = absurd has_searched
fits_searched BadTest input sink errors test read has_searched = absurd has_searched
fits_searched ReadFault input sink errors test read has_searched = absurd has_searched
fits_searched Unwritten input sink errors test read has_searched = absurd has_searched

pub searched : (result : Result Status WriteFault) (input : Input) (sink errors : Output) (test : Test) → HasRead input (λ bytes. IsTest bytes (test_said test))
    → IfOk result (λ any_status. HasSearched any_status test sink errors) → IfOk result (λ any_status. StatusTells any_status input sink errors)
searched (Ok status) input sink errors test read if_ok = fits_searched status input sink errors test read if_ok
searched (Err error) input sink errors test read if_ok = tt

-- what is known of a source where no test was read
abbrev pub IsFaultOf : Input → TestFault → Type 0
IsFaultOf input (fault.BadLine line why) = HasRead input (λ bytes. RefusesTest bytes line why)
IsFaultOf input (fault.TooLong count) = (bytes : List ℕ) × Consumes input.before input.after bytes × (length bytes ≡ most_bytes + 1)
IsFaultOf input fault.ReadFault = Rose input.faults_before input.faults_after
IsFaultOf input fault.NoMemory = Unit {0}

-- the line of a fault and its status fit
fits_refused : (its_fault : TestFault) (input : Input) (sink errors : Output) → IsFaultOf input its_fault → SaysLine (refusal_text its_fault) sink errors → StatusTells (refusal_status its_fault) input sink errors
fits_refused (fault.BadLine line why) input sink errors known_fault says = inl (record { line = line; why = why; read = known_fault; says = says })
fits_refused (fault.TooLong count) input sink errors known_fault says = inr (record { bytes = known_fault.0; taken = known_fault.1; many = known_fault.2; says = says })
fits_refused fault.ReadFault input sink errors known_fault says = (known_fault, says)
fits_refused fault.NoMemory input sink errors known_fault says = says

pub refused : (result : Result Status WriteFault) (its_fault : TestFault) (input : Input) (sink errors : Output) → IsFaultOf input its_fault → sink.after ≡ sink.before
    → IfOk result (λ got_status. got_status ≡ refusal_status its_fault) → OnOk result (Appends errors.before.written errors.after.written (refusal_text its_fault))
    → IfOk result (λ got_status. StatusTells got_status input sink errors)
refused (Err error) its_fault input sink errors known_fault nothing_put status text = tt
refused (Ok got_status) its_fault input sink errors known_fault nothing_put status text = subst (λ any_status. StatusTells any_status input sink errors) (sym status) (fits_refused its_fault input sink errors known_fault (record { kept = nothing_put; written = text }))

-- of a fault of reading, whichever it is, this is known of the source
pub fault_is : (its_fault : TestFault) (input : Input)
    → ((size : ℕ) (why : TestWhy) → its_fault ≡ fault.BadLine size why → HasRead input (λ bytes. RefusesTest bytes size why))
    → ((size : ℕ) → its_fault ≡ fault.TooLong size → (bytes : List ℕ) × Consumes input.before input.after bytes × (length bytes ≡ most_bytes + 1))
    → (its_fault ≡ fault.ReadFault → Rose input.faults_before input.faults_after)
    → IsFaultOf input its_fault
fault_is (fault.BadLine line why) input bad long_read read = bad line why refl
fault_is (fault.TooLong count) input bad long_read read = long_read count refl
fault_is fault.ReadFault input bad long_read read = read refl
fault_is fault.NoMemory input bad long_read read = tt
