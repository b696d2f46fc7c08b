-- Reading from left to right. Each reader gives what it read and the bytes behind it, or nothing.
use Rattle.std.specs.Prelude.{ℕ, ◌==◌, Bool, true, false, ◌&&◌, ◌||◌, List, [], ◌∷◌, ◌++◌, codes, length, take, drop, Option, Some, None, nat_lt, slice_index, if◌then◌else◌}
use Rattle.std.specs.Option.{option_and_then}
use Rattle.std.specs.List.{prefix_len}
use Rattle.std.specs.Char.{is_ascii_digit}
use Rattle.std.specs.Str.Parse.{digits_value}
use Rattle.shen_graph.specs.declared.command.Command.{Command}
use Rattle.trace_reading.specs.declared.kind.CommandKind.{CommandKind}
use Rattle.trace_reading.specs.Spelling.{TraceLine}
use Rattle.trace_reading.specs.Kinds.{kinds, word, limits, command_from}

infixl 10 ◌>>=◌
abbrev pub ◌>>=◌ : {A B : Type 0} → Option A → (A → Option B) → Option B
o >>= f = option_and_then f o

-- what is behind a text at the front
abbrev pub behind : List ℕ → List ℕ → Option (List ℕ)
behind [] bytes = Some bytes
behind (wanted_byte ∷ text) [] = None
behind (wanted_byte ∷ text) (byte ∷ bytes) = if byte == wanted_byte then behind text bytes else None

-- how many digits stand at the front
abbrev pub digit_count : List ℕ → ℕ
digit_count bytes = prefix_len is_ascii_digit bytes

-- some digits of which no needless zero leads
abbrev pub is_numeral : List ℕ → Bool
is_numeral digits = (length digits == 1) || (nat_lt 0 (length digits) && (if slice_index digits 0 == 48 then false else true))

-- a numeral of at most a limit
unfoldable pub numeral : ℕ → List ℕ → Option ℕ
numeral limit digits = if is_numeral digits then (if nat_lt limit (digits_value 10 digits) then None else Some (digits_value 10 digits)) else None

-- the number that the digits at the front spell, at most a limit
unfoldable pub spelled_number : ℕ → List ℕ → Option (ℕ × List ℕ)
spelled_number limit bytes = do
  n ← numeral limit (take (digit_count bytes) bytes)
  Some (n, drop (digit_count bytes) bytes)

-- the number after a space
unfoldable pub spaced_at : ℕ → List ℕ → Option (ℕ × List ℕ)
spaced_at limit bytes = do
  rest ← behind (32 ∷ []) bytes
  spelled_number limit rest

-- a number from 1 on, at most a limit
unfoldable pub positive_at : ℕ → List ℕ → Option (ℕ × List ℕ)
positive_at limit bytes = do
  n ← spelled_number limit bytes
  if n.0 == 0 then None else Some n

-- numbers up to these limits, each after a space
unfoldable pub numbers_at : List ℕ → List ℕ → Option (List ℕ × List ℕ)
numbers_at [] bytes = Some ([], bytes)
numbers_at (limit ∷ limits) bytes = do
  n ← spaced_at limit bytes
  ns ← numbers_at limits n.1
  Some (n.0 ∷ ns.0, ns.1)

-- the kind whose word stands at the front, or what the others give
abbrev pub found : CommandKind → Option (List ℕ) → Option (CommandKind × List ℕ) → Option (CommandKind × List ℕ)
found kind None others = others
found kind (Some rest) others = Some (kind, rest)

-- the first of these kinds whose word stands at the front
unfoldable pub kind_among : List CommandKind → List ℕ → Option (CommandKind × List ℕ)
kind_among [] bytes = None
kind_among (kind ∷ kinds) bytes = found kind (behind (word kind) bytes) (kind_among kinds bytes)

-- the word of a command that the version has, and its numbers
unfoldable pub spelled_command : ℕ → List ℕ → Option (Command × List ℕ)
spelled_command version bytes = do
  k ← kind_among (kinds version) bytes
  ns ← numbers_at (limits k.0) k.1
  Some (command_from k.0 ns.0, ns.1)

-- a command's line, of a thread from 1 on
unfoldable pub line_at : (version threads : ℕ) → List ℕ → Option (TraceLine × List ℕ)
line_at version threads bytes = do
  t ← positive_at threads bytes
  rest ← behind (32 ∷ []) t.1
  c ← spelled_command version rest
  end ← behind (10 ∷ []) c.1
  Some (record { thread = t.0; command = c.0 }, end)

-- the numbers at the head of a trace: the version, those of its heap, and those of its threads
pub record HeadNumbers : Type 0 where
  pub version : ℕ
  pub heap : List ℕ
  pub threads : List ℕ

unfoldable pub sizes_at : List ℕ → Option (HeadNumbers × List ℕ)
sizes_at bytes = do
  first ← behind (codes "shen ") bytes
  version ← positive_at 2 first
  second ← behind (10 ∷ codes "heap") version.1
  heap ← numbers_at (64 ∷ 1024 ∷ 63 ∷ []) second
  third ← behind (10 ∷ codes "threads") heap.1
  threads ← numbers_at (8 ∷ 3 ∷ []) third
  end ← behind (10 ∷ []) threads.1
  Some (record { version = version.0; heap = heap.0; threads = threads.0 }, end)
