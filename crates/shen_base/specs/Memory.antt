-- What contracts see of the source and the sink in memory.
use Rattle.std.specs.Prelude.{◌≡◌, ℕ, ◌<◌, List, length, Contains}
use Rattle.shen_base.specs.Count.{raised}

-- a source in memory that never fails: the bytes left, and how many calls there were
pub record Stock : Type 0 where
  pub unread : List ℕ
  pub calls : ℕ

-- a source in memory: the bytes left, how many it gives in a call at most, the numbers of its calls that fail,
-- and how many calls and faults there were
pub record Supply : Type 0 where
  pub unread : List ℕ
  pub piece : ℕ
  pub failing : List ℕ
  pub calls : ℕ
  pub faults : ℕ

-- a sink in memory: the bytes written, how many more it has room for, how many it takes in a call at most,
-- the numbers of its calls that fail, and how many calls and faults there were
pub record Store : Type 0 where
  pub stored : List ℕ
  pub room : ℕ
  pub piece : ℕ
  pub failing : List ℕ
  pub calls : ℕ
  pub faults : ℕ

-- the next call is one of those that fail
abbrev pub IsNextFailing : (failing : List ℕ) → (calls : ℕ) → Type 0
IsNextFailing failing calls = Contains failing (raised calls)

-- the store has no room for a byte of a piece that has one
abbrev pub IsFullFor : Store → List ℕ → Type 0
IsFullFor store piece = (store.room ≡ 0) × (0 < length piece)
