-- How a call that writes one text ends.
use Rattle.std.specs.Prelude.{ℕ, ◌≡◌, ◌⊎◌, List, length}
use Rattle.std.specs.Io.KnownBytes.{Appends}
use Rattle.shen_base.specs.Count.{Rose, CalledAtMost}
use Rattle.shen_base.specs.Sending.{Outlet, WritesFront}
use Rattle.trace_runs.specs.declared.status.Status.{Status}
use Rattle.trace_runs.specs.declared.status.Status.TheVariants.{WriteFault}

-- With its status, where the text was written; or with a write fault, where a front of it was written and the sink failed. In
-- both cases by at most one call for each byte of the text.
pub record EndsWith (text : List ℕ) (status result : Status) (before after : Outlet) : Type 0 where
  pub written : ((result ≡ status) × Appends before.written after.written text) ⊎ ((result ≡ WriteFault) × Rose before.faults after.faults × WritesFront before after text)
  pub few_calls : CalledAtMost (length text) before.calls after.calls
