-- Lines that are taken from the front of bytes.
use Rattle.std.proofs.Common.{◌≡◌, ℕ, ◌+◌, ◌≤◌, List, [], ◌∷◌, ◌++◌, length, Result, Err, Ok, refl, sym, ap, subst, ◌∙◌, append_assoc, length-append, arith}
use Rattle.trace_reading.specs.declared.why.Why.TheVariants.{EndOfLine}
use Rattle.trace_reading.specs.Causes.{parts}
use Rattle.trace_reading.proofs.Cuts.{cut_parts}
use Rattle.trace_reading.proofs.Leads.{bytes_of_line, bytes_of_last}
use Rattle.find_play.specs.declared.fault.TestFault.{TestFault}
use Rattle.find_play.specs.declared.fault.TestFault.TheVariants.{BadLine}
use Rattle.find_play.specs.declared.fault.TestWhy.{TestWhy}
use Rattle.find_play.specs.declared.fault.TestWhy.TheVariants as whys
use Rattle.find_play.specs.declared.kind.LineKind.{LineKind}
use Rattle.find_play.specs.declared.slot.Value.{Value}
use Rattle.find_play.specs.Told.{Told}
use Rattle.find_play.specs.Lines.{line_in}
use Rattle.find_play.specs.Added.{added}
use Rattle.find_play.specs.Tests.{name_among, TestLineFollows, LineStops, StopsBehind, HasToldLine, HasToldLines}
use Rattle.find_play.proofs.SaidLines.{line_said}
use Rattle.find_play.proofs.Following.{lines_then}

-- ---- one line

pub no_end : (told : Told) (bytes text : List ℕ) → parts 10 bytes ≡ text ∷ [] → 1 ≤ length bytes → LineStops told (parts 10 bytes) (whys.Trace EndOfLine)
no_end told bytes text one_part positive = subst (λ (lines : List (List ℕ)). LineStops told lines (whys.Trace EndOfLine)) (sym one_part) (by_text text (bytes_of_last bytes text one_part))
  where
    by_text : (text : List ℕ) → bytes ≡ text → LineStops told (text ∷ []) (whys.Trace EndOfLine)
    by_text [] same_text = absurd (omega (arith, positive, ap length same_text))
    by_text (byte ∷ text) same_text = refl

pub at_fault : (told : Told) (bytes text rest : List ℕ) (why : TestWhy) → parts 10 bytes ≡ text ∷ parts 10 rest → line_in told (parts 32 text) ≡ Err why → LineStops told (parts 10 bytes) why
at_fault told bytes text rest why line_parted line_refused = subst (λ (lines : List (List ℕ)). LineStops told lines why) (sym (line_parted ∙ ap (λ (lines : List (List ℕ)). text ∷ lines) (cut_parts 10 rest))) line_refused

pub one_follows : (told now : Told) (text name : List ℕ) (kind : LineKind) (values : List Value) → line_in told (parts 32 text) ≡ Ok (kind, values) → name ≡ name_among (parts 32 text) → now ≡ added told kind values name → TestLineFollows told text now
one_follows told now text name kind values line_read named adds = (kind, values, line_said told (parts 32 text) kind values line_read, adds ∙ ap (added told kind values) named)

-- what stands before the end of a line, the end, and what is behind it
pub line_shorter : (bytes text rest : List ℕ) → parts 10 bytes ≡ text ∷ parts 10 rest → length rest + 1 ≤ length bytes
line_shorter bytes text rest line_parted = let size = ap length (bytes_of_line bytes text rest line_parted) in let sizes = length-append text (10 ∷ rest) in omega (arith, size, sizes)

-- the fault is of this line
pub same_fault : {T : Type 0} (line : ℕ) (said_why : TestWhy) (other_line : ℕ) (why : TestWhy) → ◌≡◌ {A = Result T TestFault} (Err (BadLine line said_why)) (Err (BadLine other_line why)) → (other_line ≡ line) × (said_why ≡ why)
same_fault line said_why n why same_error = (cc, cc)

-- ---- lines

pub none_told : (told : Told) (first_line : ℕ) (bytes : List ℕ) → HasToldLines told first_line bytes bytes first_line told
none_told told first_line bytes = record { lines = []; cut = refl; lead = refl; number = omega arith }

pub line_told : (told told_between now : Told) (first_line : ℕ) (bytes rest behind : List ℕ) (line_number : ℕ) → HasToldLines told first_line bytes rest line_number told_between → HasToldLine told_between rest behind now → HasToldLines told first_line bytes behind (line_number + 1) now
line_told told told_between now first_line bytes rest behind line_number taken has_told_line = record {
  lines = taken.lines ++ has_told_line.text ∷ [];
  cut = taken.cut ∙ ap (λ (some_lines : List (List ℕ)). taken.lines ++ some_lines) has_told_line.cut ∙ sym (append_assoc taken.lines (has_told_line.text ∷ []) (parts 10 behind));
  lead = lines_then told told_between now taken.lines has_told_line.text taken.lead has_told_line.follows;
  number = let sizes = length-append taken.lines (has_told_line.text ∷ []) in omega (arith, taken.number, sizes);
}

pub stops_behind : (told other_told : Told) (first_line : ℕ) (bytes rest : List ℕ) (line_number asked_line : ℕ) (why : TestWhy) → HasToldLines told first_line bytes rest line_number other_told → asked_line ≡ line_number → LineStops other_told (parts 10 rest) why → StopsBehind told first_line bytes asked_line why
stops_behind told other_told first_line bytes rest line_number asked_line why taken same_line stops = record {
  before = taken.lines;
  from_it = parts 10 rest;
  cut = taken.cut;
  number = same_line ∙ taken.number;
  said = other_told;
  lead = taken.lead;
  cause = stops;
}
