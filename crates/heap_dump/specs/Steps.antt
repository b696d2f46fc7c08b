-- How far a reading has come, from what is to stand on the next line.
use Rattle.std.specs.Prelude.{ℕ, ◌≡◌, ◌+◌, List, ◌++◌, length}
use Rattle.trace_reading.specs.Spelling.{newline}
use Rattle.trace_reading.specs.declared.why.Why.{Why}
use Rattle.trace_reading.specs.Causes.{parts}
use Rattle.trace_reading.specs.declared.fault.TraceFault.{TraceFault}
use Rattle.trace_reading.specs.declared.fault.TraceFault.TheVariants.{BadLine}
use Rattle.heap_dump.specs.DumpLines.{DumpStage, DumpLead, StopsFor}

-- so many lines of the bytes follow, and lead from one stage to another; these bytes are left
pub record Leads (stage : DumpStage) (bytes rest : List ℕ) (lines : ℕ) (next : DumpStage) : Type 0 where
  pub texts : List (List ℕ)
  pub cut : parts newline bytes ≡ texts ++ parts newline rest
  pub count : length texts ≡ lines
  pub lead : DumpLead stage texts next

-- where the first of the lines has this number, line n is the first at fault, and why
pub record StopsAt (stage : DumpStage) (first : ℕ) (bytes : List ℕ) (n : ℕ) (why : Why) : Type 0 where
  pub rest : List ℕ
  pub lines : ℕ
  pub at : DumpStage
  pub led : Leads stage bytes rest lines at
  pub number : n ≡ first + lines
  pub cause : StopsFor at (parts newline rest) why

-- a fault that names that line
abbrev pub IsStop : DumpStage → ℕ → List ℕ → TraceFault → Type 0
IsStop stage first bytes fault = (line : ℕ) × (why : Why) × (fault ≡ BadLine line why) × StopsAt stage first bytes line why
