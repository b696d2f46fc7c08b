-- The lines of a history that somebody claims, and how they are read from left to right.
use Rattle.std.specs.Prelude.{ℕ, ◌≡◌, ◌==◌, ◌^◌, ◌<◌, ◌≤◌, List, [], ◌∷◌, ◌++◌, codes, Option, Some, None, nat_lt, if◌then◌else◌}
use Rattle.std.specs.Char.{is_ascii_digit}
use Rattle.shen_graph.specs.declared.command.Reply.{Reply}
use Rattle.shen_graph.specs.declared.command.Reply.TheVariants.{Ref, Null, Ok, Yes, No, Number, Bad, Full, At}
use Rattle.shen_graph.specs.Valid.{IsValid}
use Rattle.shen_graph.specs.History.{Entry}
use Rattle.trace_reading.specs.Spelling.{IsKnown, FitsWhenWritten}
use Rattle.trace_reading.specs.Scanning.{◌>>=◌, behind, spelled_number, positive_at, spelled_command}
use Rattle.trace_text.specs.History.{entry_line}

-- the numbers of a reply are no larger than they can be written
abbrev pub FitsReply : Reply → Type 0
FitsReply (Ref name) = (name.thread < 2 ^ 32) × (name.count < 2 ^ 32)
FitsReply (Number number) = number < 2 ^ 64
FitsReply (At place) = place < 2 ^ 64
FitsReply _ = Unit {0}

-- What an entry may say where there are so many threads, counted from 1: a valid command of the version and any reply.
pub record IsClaim (version threads : ℕ) (entry : Entry) : Type 0 where
  pub from_one : 1 ≤ entry.thread
  pub to_last : entry.thread ≤ threads
  pub known : IsKnown version entry.command
  pub valid : IsValid entry.command
  pub fits : FitsWhenWritten entry.command
  pub reply : FitsReply entry.reply

-- no line of an entry stands at the front
abbrev pub BeginsWithNoEntry : (version threads : ℕ) → List ℕ → Type 0
BeginsWithNoEntry version threads bytes = (entry : Entry) (rest : List ℕ) → IsClaim version threads entry → bytes ≡ entry_line entry ++ rest → ⊥

-- ---- reading

-- the reply whose word begins with this byte, and the word
abbrev pub word_begun_by : ℕ → Option (Reply × List ℕ)
word_begun_by byte =
    if byte == 45 then Some (Null, codes "-") else
    (if byte == 111 then Some (Ok, codes "ok") else
    (if byte == 121 then Some (Yes, codes "yes") else
    (if byte == 110 then Some (No, codes "no") else
    (if byte == 98 then Some (Bad, codes "bad") else
    (if byte == 102 then Some (Full, codes "full") else None)))))

-- a reply that is a word, which begins with this byte
unfoldable pub spelled_word : ℕ → List ℕ → Option (Reply × List ℕ)
spelled_word first_byte bytes = do
  r ← word_begun_by first_byte
  rest ← behind r.1 bytes
  Some (r.0, rest)

-- the name of this thread whose count stands at the front
unfoldable pub count_at : ℕ → List ℕ → Option (Reply × List ℕ)
count_at thread bytes = do
  n ← spelled_number 4294967295 bytes
  Some (Ref (record { thread = thread; count = n.0 }), n.1)

-- a number, or, where a dot is behind it, a name
abbrev pub number_or_name : ℕ → List ℕ → Option (List ℕ) → Option (Reply × List ℕ)
number_or_name number bytes None = Some (Number number, bytes)
number_or_name number bytes (Some rest) = if nat_lt 4294967295 number then None else count_at number rest

-- a reply that begins with a number
unfoldable pub numbered_at : List ℕ → Option (Reply × List ℕ)
numbered_at bytes = do
  n ← spelled_number 18446744073709551615 bytes
  number_or_name n.0 n.1 (behind (codes ".") n.1)

-- a place, behind its mark
unfoldable pub spelled_place : List ℕ → Option (Reply × List ℕ)
spelled_place bytes = do
  place ← spelled_number 18446744073709551615 bytes
  Some (At place.0, place.1)

-- the reply at the front
unfoldable pub spelled_reply : List ℕ → Option (Reply × List ℕ)
spelled_reply [] = None
spelled_reply (byte ∷ bytes) = if is_ascii_digit byte then numbered_at (byte ∷ bytes) else (if byte == 64 then spelled_place bytes else spelled_word byte (byte ∷ bytes))

-- the line of an entry at the front
unfoldable pub entry_at : (version threads : ℕ) → List ℕ → Option (Entry × List ℕ)
entry_at version threads bytes = do
  t ← positive_at threads bytes
  words ← behind (codes " ") t.1
  c ← spelled_command version words
  reply ← behind (codes " : ") c.1
  r ← spelled_reply reply
  end ← behind (codes "\n") r.1
  Some (record { thread = t.0; command = c.0; reply = r.0 }, end)
