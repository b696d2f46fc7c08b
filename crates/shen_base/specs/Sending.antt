-- What a sink and a block before it have taken of a text.
use Rattle.std.specs.Prelude.{ℕ, ◌≡◌, ◌+◌, ◌≤◌, true, false, Bool, List, ◌++◌, Option, Result, OnOk, OnErr, length}
use Rattle.std.specs.Io.KnownBytes.{Appends}
use Rattle.shen_base.specs.Count.{Rose, CalledAtMost}

-- a sink: the bytes written, where they are told, and its faults and its calls so far
pub record Outlet : Type 0 where
  pub written : Option (List ℕ)
  pub faults : ℕ
  pub calls : ℕ

abbrev pub outlet : Option (List ℕ) → ℕ → ℕ → Outlet
outlet written faults calls = record { written = written; faults = faults; calls = calls }

-- the bytes of a block that are not sent yet, and whether a fault came
pub record Held : Type 0 where
  pub unsent : List ℕ
  pub failed : Bool

-- a sink and a block before it
pub record SinkStage : Type 0 where
  pub sink : Outlet
  pub block : Held

abbrev pub stage : Option (List ℕ) → ℕ → ℕ → Held → SinkStage
stage written faults calls block = record { sink = outlet written faults calls; block = block }

-- A front of a text was written before a call failed: by at most one call for each of its bytes, and the one that failed.
pub record WritesFront (before after : Outlet) (text : List ℕ) : Type 0 where
  pub sent : List ℕ
  pub rest : List ℕ
  pub appended : Appends before.written after.written sent
  pub split : sent ++ rest ≡ text
  pub few_calls : CalledAtMost (length sent + 1) before.calls after.calls

-- How a call that writes a text to a sink ends, between the sink before it and after it: at Ok all of the text was
-- appended, and at Err its front, and there was a fault. In both cases the sink was called at most once for each byte of
-- the text.
pub record Writes {T E : Type 0} (result : Result T E) (before after : Outlet) (text : List ℕ) : Type 0 where
  pub all : OnOk result (Appends before.written after.written text)
  pub front : OnErr result (WritesFront before after text)
  pub only_by_fault : OnErr result (Rose before.faults after.faults)
  pub faults_never_fall : before.faults ≤ after.faults
  pub few_calls : CalledAtMost (length text) before.calls after.calls

-- a text was written but for its end, which is not sent yet, by at most one call for each byte
pub record WritesUpTo (before after : Outlet) (text unsent : List ℕ) : Type 0 where
  pub sent : List ℕ
  pub appended : Appends before.written after.written sent
  pub split : sent ++ unsent ≡ text
  pub few_calls : CalledAtMost (length sent) before.calls after.calls

-- This text was put since the sink stood as `first`. It is written or stands in the block; or its front is written, and
-- there was a fault. The calls so far, and one more for each byte that stands in the block, are at most one for each byte
-- of the text.
pub record HasTaken (stage : SinkStage) (first : Outlet) (text : List ℕ) : Type 0 where
  pub never_fell : first.faults ≤ stage.sink.faults
  pub going : stage.block.failed ≡ false → WritesUpTo first stage.sink text stage.block.unsent
  pub stopped : stage.block.failed ≡ true → WritesFront first stage.sink text × Rose first.faults stage.sink.faults
  pub few_calls : CalledAtMost (length text) first.calls (stage.sink.calls + length stage.block.unsent)

-- From one stage to the next a text was put, behind all that was put before.
pub record Puts (old new : SinkStage) (text : List ℕ) : Type 0 where
  pub behind : (first : Outlet) (sofar : List ℕ) → HasTaken old first sofar → HasTaken new first (sofar ++ text)
