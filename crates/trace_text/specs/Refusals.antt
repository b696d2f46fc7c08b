-- Which bytes are no trace with an answer and a history, at which line, and why.
use Rattle.std.specs.Prelude.{ℕ, ◌≡◌, ◌-◌, ◌==◌, ◌⊎◌, ◌≤◌, List, [], ◌∷◌, ◌++◌, codes, length, slice_index_or, if◌then◌else◌}
use Rattle.std.specs.List.{flat_map, AllByRecursion}
use Rattle.shen_graph.specs.declared.command.Command.{Command}
use Rattle.shen_graph.specs.History.{Entry}
use Rattle.heap_words.specs.declared.config.Config.{Config}
use Rattle.heap_words.specs.declared.schedule.Item.{Item}
use Rattle.trace_reading.specs.Spelling.{newline}
use Rattle.trace_reading.specs.Grammar.{most_bytes, Reads}
use Rattle.trace_reading.specs.declared.why.Why.{Why}
use Rattle.trace_reading.specs.declared.why.Why.TheVariants.{EndOfLine, AnswerWanted, HistoryWanted, EntryWanted}
use Rattle.trace_reading.specs.Causes.{parts}
use Rattle.trace_reading.specs.Refused.{StopsAt}
use Rattle.trace_text.specs.History.{entry_line}
use Rattle.trace_text.specs.Entries.{IsClaim, BeginsWithNoEntry}
use Rattle.trace_text.specs.LineCuts.{IsCutAt, HasNoLine, last_line}
use Rattle.trace_text.specs.Pairs.{HasTrace}

-- the bytes before the first line `answer`, or all bytes where there is none, are no trace
abbrev pub LacksTrace : List ℕ → ℕ → Why → Type 0
LacksTrace bytes n why =
    ((trace : List ℕ) × (behind : List ℕ) × IsCutAt (codes "answer") bytes trace behind × StopsAt trace n why)
    ⊎ (HasNoLine (codes "answer") bytes × StopsAt bytes n why)

-- The bytes are a trace, and behind its last line the line `answer` is missing.
pub record LacksAnswer (bytes : List ℕ) (n : ℕ) (why : Why) : Type 0 where
  pub version : ℕ
  pub config : Config
  pub scripts : List (List Command)
  pub items : List Item
  pub none : HasNoLine (codes "answer") bytes
  pub reads : Reads bytes version config scripts items
  pub number : n ≡ last_line bytes
  pub cause : why ≡ AnswerWanted

-- what is wanted behind lines, of which the last may be cut
abbrev pub wanted_behind : List ℕ → Why
wanted_behind bytes = if slice_index_or bytes (length bytes - 1) newline == newline then HistoryWanted else EndOfLine

-- Behind the line `answer` there is no line `history`: the last line is cut, or the line behind it is missing.
pub record LacksHistory (bytes behind : List ℕ) (n : ℕ) (why : Why) : Type 0 where
  pub none : HasNoLine (codes "history") behind
  pub number : n ≡ last_line bytes
  pub cause : why ≡ wanted_behind behind

-- what is wanted in place of the first of these lines
abbrev pub wanted_at : List (List ℕ) → Why
wanted_at [] = EndOfLine
wanted_at (text ∷ []) = EndOfLine
wanted_at (text ∷ next_text ∷ rest) = EntryWanted

-- Behind the line `history`, and lines of entries, the first other line is cut, or is none of an entry.
pub record LacksEntry (version threads : ℕ) (bytes behind : List ℕ) (n : ℕ) (why : Why) : Type 0 where
  pub body : List ℕ
  pub claimed : List ℕ
  pub cut : IsCutAt (codes "history") behind body claimed
  pub entries : List Entry
  pub in_range : AllByRecursion (IsClaim version threads) entries
  pub from_it : List ℕ
  pub spelled : claimed ≡ flat_map entry_line entries ++ from_it
  pub some : 1 ≤ length from_it
  pub none : BeginsWithNoEntry version threads from_it
  pub before : List ℕ
  pub whole : bytes ≡ before ++ from_it
  pub number : n ≡ last_line before
  pub cause : why ≡ wanted_at (parts newline from_it)

-- A trace stands before the line `answer`, and what is claimed behind it is refused.
pub record HasBadClaims (bytes : List ℕ) (n : ℕ) (why : Why) : Type 0 where
  pub version : ℕ
  pub config : Config
  pub scripts : List (List Command)
  pub items : List Item
  pub behind : List ℕ
  pub trace : HasTrace bytes version config scripts items behind
  pub fault : LacksHistory bytes behind n why ⊎ LacksEntry version config.mutators bytes behind n why

-- the bytes are not too many, and line n, counted from 1, is the first that is at fault, and why is the first cause that holds
abbrev pub IsPairRefused : List ℕ → ℕ → Why → Type 0
IsPairRefused bytes n why = ((LacksTrace bytes n why ⊎ LacksAnswer bytes n why) ⊎ HasBadClaims bytes n why) × (length bytes ≤ most_bytes)
