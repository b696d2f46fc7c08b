-- Why no test is read.
use Rattle.std.specs.Prelude.{ℕ, ◌≡◌, List, codes}
use Rattle.trace_reading.specs.Grammar.{HasNoHead}
use Rattle.trace_reading.specs.Why.{text_of}
use Rattle.trace_reading.specs.declared.why.Why.{Why}
use Rattle.trace_reading.specs.Refused.{StopsAt}
use Rattle.find_play.specs.declared.fault.TestWhy.{TestWhy}
use Rattle.find_play.specs.declared.fault.TestWhy.TheVariants as why
use Rattle.find_play.specs.declared.fault.TestFault.{TestFault}
use Rattle.find_play.specs.declared.fault.TestFault.TheVariants.{BadLine, TooLong, ReadFault, NoMemory}

-- a line is refused, or memory was refused
abbrev pub IsLineFault : TestFault → Type 0
IsLineFault (BadLine line why) = Unit {0}
IsLineFault (TooLong bytes) = ⊥
IsLineFault ReadFault = ⊥
IsLineFault NoMemory = Unit {0}

-- where these bytes do not begin with the head of a trace, a trace is refused at this line and for this cause
abbrev pub IsTraceRefusal : List ℕ → ℕ → TestWhy → Type 0
IsTraceRefusal bytes line_number said = HasNoHead bytes → (cause : Why) × (said ≡ why.Trace cause) × StopsAt bytes line_number cause

-- what is said of a line that is refused
abbrev pub why_text : TestWhy → List ℕ
why_text (why.Trace cause) = text_of cause
why_text why.Line = codes "line wanted"
why_text why.Place = codes "out of place"
why_text why.Name = codes "name wanted"
why_text why.Reply = codes "reply wanted"
why_text why.Fresh = codes "new name wanted"
why_text why.More = codes "more wanted"
