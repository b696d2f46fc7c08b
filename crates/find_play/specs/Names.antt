-- Which words can be names.
use Rattle.std.specs.Prelude.{ℕ, ◌==◌, Bool, ◌&&◌, ◌||◌, List, length, nat_lt}
use Rattle.std.specs.List.{prefix_len}
use Rattle.std.specs.Char.{is_ascii_digit, is_ascii_lowercase}
use Rattle.trace_reading.specs.Scanning.{digit_count}

-- a small letter, a digit or `_`
abbrev pub is_name_byte : ℕ → Bool
is_name_byte byte = is_ascii_lowercase byte || is_ascii_digit byte || (byte == 95)

-- how many such bytes stand at the front
abbrev pub name_bytes : List ℕ → ℕ
name_bytes word = prefix_len is_name_byte word

-- some such bytes and nothing else, and no digit at the front
abbrev pub is_name : List ℕ → Bool
is_name word = nat_lt 0 (length word) && (digit_count word == 0) && (name_bytes word == length word)
