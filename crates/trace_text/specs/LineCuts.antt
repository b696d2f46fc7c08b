-- Bytes cut at a line.
use Rattle.std.specs.Prelude.{ℕ, ◌≡◌, ◌≢◌, List, [], ◌∷◌, ◌++◌, length}
use Rattle.std.specs.List.{flat_map, AllByRecursion}
use Rattle.trace_reading.specs.Spelling.{newline}
use Rattle.trace_reading.specs.Causes.{parts}

-- these lines, each with its end
abbrev pub with_ends : List (List ℕ) → List ℕ
with_ends lines = flat_map (λ line. line ++ newline ∷ []) lines

-- The first line that is this text has these bytes before it, and these behind it. (Behind a line that has no end there is no
-- part.)
pub record IsCutAt (text bytes before behind : List ℕ) : Type 0 where
  pub lines : List (List ℕ)
  pub parts_are : parts newline bytes ≡ lines ++ text ∷ parts newline behind
  pub others : AllByRecursion (λ line. line ≢ text) lines
  pub before_is : before ≡ with_ends lines

-- no line with an end is this text
abbrev pub HasNoLine : (text bytes : List ℕ) → Type 0
HasNoLine text bytes = (before behind : List ℕ) → IsCutAt text bytes before behind → ⊥

-- the number, counted from 1, of the line in which these bytes end: the one behind the last end of a line
abbrev pub last_line : List ℕ → ℕ
last_line bytes = length (parts newline bytes)
