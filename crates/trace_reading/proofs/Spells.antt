-- What stands at the front of bytes that have no cause.
use Rattle.std.proofs.Common.{◌≡◌, ◌⊎◌, ℕ, ◌≤◌, List, [], ◌∷◌, ◌++◌, length, None, inl, inr, sym, ap, ◌∙◌, append_assoc, arith}
use Rattle.heap_words.specs.declared.config.Config.{Config}
use Rattle.heap_words.specs.declared.schedule.Item.{Item}
use Rattle.trace_reading.specs.Spelling.{TraceLine, IsLine, line, schedule_line, IsScheduleLine}
use Rattle.trace_reading.specs.Causes.{parts}
use Rattle.trace_reading.specs.Refused.{Commands, Turns, IsCommandLine, IsTurnItem, cause_of}
use Rattle.trace_reading.proofs.Lines.{whole_line, cut_line}
use Rattle.trace_reading.proofs.Leads.{commands_follow, turns_follow, first_line, bytes_of_line, bytes_of_last}

-- a line of a command, or of the schedule, stands there
abbrev pub BeginsWithCommand : ℕ → Config → List ℕ → Type 0
BeginsWithCommand version config bytes = (trace_line : TraceLine) × (rest : List ℕ) × IsLine version config.mutators trace_line × (bytes ≡ line trace_line ++ rest)

abbrev pub BeginsWithTurn : Config → List ℕ → Type 0
BeginsWithTurn config bytes = (items : List Item) × (rest : List ℕ) × IsScheduleLine config items × (bytes ≡ schedule_line items ++ rest)

front : (text whole_text rest bytes : List ℕ) → text ++ 10 ∷ [] ≡ whole_text → bytes ≡ text ++ 10 ∷ rest → bytes ≡ whole_text ++ rest
front text whole_text rest bytes whole_is text_there = text_there ∙ sym (append_assoc text (10 ∷ []) rest) ∙ ap (λ (any_text : List ℕ). any_text ++ rest) whole_is

command_front : (version : ℕ) (config : Config) (bytes text rest : List ℕ) → parts 10 bytes ≡ text ∷ parts 10 rest → IsCommandLine version config text → BeginsWithCommand version config bytes
command_front version config bytes text rest parted command_line = (command_line.0, rest, command_line.1, front text (line command_line.0) rest bytes command_line.2 (bytes_of_line bytes text rest parted))

turn_front : (config : Config) (bytes text rest : List ℕ) → parts 10 bytes ≡ text ∷ parts 10 rest → IsTurnItem config text → BeginsWithTurn config bytes
turn_front config bytes text rest parted turn_item = (turn_item.0, rest, turn_item.1, front text (schedule_line turn_item.0) rest bytes turn_item.2 (bytes_of_line bytes text rest parted))

pub commands_spell : (version : ℕ) (config : Config) (bytes : List ℕ) → 1 ≤ length bytes → cause_of (Commands version config) (parts 10 bytes) ≡ None → BeginsWithCommand version config bytes ⊎ BeginsWithTurn config bytes
commands_spell version config bytes some_bytes no_cause = by_first (first_line bytes).0 (first_line bytes).1 (first_line bytes).2
  where
    by_kind : (text rest : List ℕ) → parts 10 bytes ≡ text ∷ parts 10 rest → IsCommandLine version config text ⊎ IsTurnItem config text → BeginsWithCommand version config bytes ⊎ BeginsWithTurn config bytes
    by_kind text rest parted (inl line_kind) = inl (command_front version config bytes text rest parted line_kind)
    by_kind text rest parted (inr line_kind) = inr (turn_front config bytes text rest parted line_kind)

    last : (text : List ℕ) → bytes ≡ text → parts 10 bytes ≡ text ∷ [] → ⊥
    last [] same_text parted = absurd (omega (arith, some_bytes, ap length same_text))
    last (byte ∷ text) same_text parted = let cut = cut_line (Commands version config) bytes (byte ∷ text) parted in cc

    by_first : (text rest : List ℕ) → (parts 10 bytes ≡ text ∷ []) ⊎ (parts 10 bytes ≡ text ∷ parts 10 rest) → BeginsWithCommand version config bytes ⊎ BeginsWithTurn config bytes
    by_first text rest (inl parted) = absurd (last text (bytes_of_last bytes text parted) parted)
    by_first text rest (inr parted) = by_kind text rest parted (commands_follow version config text (sym (whole_line (Commands version config) bytes text rest parted) ∙ no_cause))

pub turns_spell : (config : Config) (bytes : List ℕ) → 1 ≤ length bytes → cause_of (Turns config) (parts 10 bytes) ≡ None → BeginsWithTurn config bytes
turns_spell config bytes some_bytes no_cause = by_first (first_line bytes).0 (first_line bytes).1 (first_line bytes).2
  where
    last : (text : List ℕ) → bytes ≡ text → parts 10 bytes ≡ text ∷ [] → ⊥
    last [] same_text parted = absurd (omega (arith, some_bytes, ap length same_text))
    last (byte ∷ text) same_text parted = let cut = cut_line (Turns config) bytes (byte ∷ text) parted in cc

    by_first : (text rest : List ℕ) → (parts 10 bytes ≡ text ∷ []) ⊎ (parts 10 bytes ≡ text ∷ parts 10 rest) → BeginsWithTurn config bytes
    by_first text rest (inl parted) = absurd (last text (bytes_of_last bytes text parted) parted)
    by_first text rest (inr parted) = turn_front config bytes text rest parted (turns_follow config text (sym (whole_line (Turns config) bytes text rest parted) ∙ no_cause))
