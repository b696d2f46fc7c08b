-- How often a source is called.
use Rattle.std.specs.Prelude.{ℕ, ◌+◌, ◌≤◌, List, Option, length}
use Rattle.std.specs.Io.KnownBytes.{Consumes}
use Rattle.shen_base.specs.Count.{CalledAtMost}
use Rattle.trace_reading.specs.Grammar.{most_bytes}

-- So many bytes at most were taken from a source, by at most one reading call for each of them and one for the end.
abbrev pub TakesAtMost : (most : ℕ) → (before after : Option (List ℕ)) → (calls_before calls_after : ℕ) → Type 0
TakesAtMost most before after calls_before calls_after = (bytes : List ℕ) × Consumes before after bytes × (length bytes ≤ most) × CalledAtMost (length bytes + 1) calls_before calls_after

-- the same of a whole reading, which takes one byte more than a trace may have at most
abbrev pub HasFewCalls : (before after : Option (List ℕ)) → (calls_before calls_after : ℕ) → Type 0
HasFewCalls before after calls_before calls_after = TakesAtMost (most_bytes + 1) before after calls_before calls_after
