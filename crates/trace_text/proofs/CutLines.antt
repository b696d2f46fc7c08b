-- Bytes cut at the first line that is a text.
use Rattle.std.proofs.Common.{◌≡◌, ◌≢◌, ◌⊎◌, ℕ, zero, suc, ◌+◌, ◌-◌, ◌≤◌, Bool, true, false, List, [], ◌∷◌, ◌++◌, length, take, inl, inr, refl, sym, ap, subst, ◌∙◌, append_assoc, arith}
use Rattle.std.specs.Prelude.{nat_eq}
use Rattle.std.specs.List.{join_with_byte, AllByRecursion}
use Rattle.std.specs.Cmp.Lexicographic.{pointwise, told_text}
use Rattle.std.proofs.lemmas.List.{length-append, take_at}
use Rattle.std.proofs.lemmas.List.Concat.{flat_map-cons}
use Rattle.std.proofs.lemmas.List.Splits.{join_with_byte-slice_split}
use Rattle.trace_reading.specs.Spelling.{newline}
use Rattle.trace_reading.specs.Causes.{parts}
use Rattle.trace_reading.proofs.Cuts.{cut_parts}
use Rattle.trace_reading.proofs.Leads.{first_line, bytes_of_line}
use Rattle.trace_text.specs.LineCuts.{with_ends, IsCutAt, HasNoLine}

-- none of these lines is the text
abbrev pub AreOthers : List ℕ → List (List ℕ) → Type 0
AreOthers text lines = AllByRecursion (λ line. line ≢ text) lines

-- ---- lines and their ends

pub parts_same : (text other_text : List ℕ) → parts 10 text ≡ parts 10 other_text → text ≡ other_text
parts_same text other_text same_parts = sym (join_with_byte-slice_split 10 text) ∙ ap (join_with_byte 10) same_parts ∙ join_with_byte-slice_split 10 other_text

-- a list that is not empty
abbrev pub IsSome : List (List ℕ) → Type 0
IsSome texts = (first_text : List ℕ) × (later_texts : List (List ℕ)) × (texts ≡ first_text ∷ later_texts)

pub some_parts : (bytes : List ℕ) → IsSome (parts 10 bytes)
some_parts bytes = (_, _, cut_parts 10 bytes)

some_behind : (lines texts : List (List ℕ)) → IsSome texts → IsSome (lines ++ texts)
some_behind [] texts some_texts = some_texts
some_behind (line ∷ lines) texts some_texts = (line, lines ++ texts, refl)

join_first : (line : List ℕ) (texts : List (List ℕ)) → IsSome texts → join_with_byte 10 (line ∷ texts) ≡ line ++ 10 ∷ join_with_byte 10 texts
join_first line texts some_texts = subst (λ (given_texts : List (List ℕ)). join_with_byte 10 (line ∷ given_texts) ≡ line ++ 10 ∷ join_with_byte 10 given_texts) (sym some_texts.2) refl

with_ends-cons : (head_line : List ℕ) (lines : List (List ℕ)) (rest : List ℕ) → with_ends (head_line ∷ lines) ++ rest ≡ head_line ++ 10 ∷ (with_ends lines ++ rest)
with_ends-cons head_line lines rest =
    ap (λ (bytes : List ℕ). bytes ++ rest) (flat_map-cons (λ (line : List ℕ). line ++ newline ∷ []) head_line lines) ∙ append_assoc (head_line ++ 10 ∷ []) (with_ends lines) rest ∙ append_assoc head_line (10 ∷ []) (with_ends lines ++ rest)

join_lines : (lines texts : List (List ℕ)) → IsSome texts → join_with_byte 10 (lines ++ texts) ≡ with_ends lines ++ join_with_byte 10 texts
join_lines [] texts some_texts = refl
join_lines (line ∷ lines) texts some_texts =
    join_first line (lines ++ texts) (some_behind lines texts some_texts) ∙ ap (λ (bytes : List ℕ). line ++ 10 ∷ bytes) (join_lines lines texts some_texts) ∙ sym (with_ends-cons line lines (join_with_byte 10 texts))

pub bytes_of_lines : (lines : List (List ℕ)) (bytes rest : List ℕ) → parts 10 bytes ≡ lines ++ parts 10 rest → bytes ≡ with_ends lines ++ rest
bytes_of_lines lines bytes rest same_parts =
    sym (join_with_byte-slice_split 10 bytes) ∙ ap (join_with_byte 10) same_parts ∙ join_lines lines (parts 10 rest) (some_parts rest) ∙ ap (λ (given_bytes : List ℕ). with_ends lines ++ given_bytes) (join_with_byte-slice_split 10 rest)

pub bytes_of_cut : (text bytes before behind : List ℕ) → IsCutAt text bytes before behind → bytes ≡ before ++ (text ++ 10 ∷ behind)
bytes_of_cut text bytes before behind cut =
    sym (join_with_byte-slice_split 10 bytes) ∙ ap (join_with_byte 10) cut.parts_are
    ∙ join_lines cut.lines (text ∷ parts 10 behind) (text, parts 10 behind, refl)
    ∙ ap (λ (given_bytes : List ℕ). with_ends cut.lines ++ given_bytes) (join_first text (parts 10 behind) (some_parts behind) ∙ ap (λ (given_bytes : List ℕ). text ++ 10 ∷ given_bytes) (join_with_byte-slice_split 10 behind))
    ∙ ap (λ (given_bytes : List ℕ). given_bytes ++ (text ++ 10 ∷ behind)) (sym cut.before_is)

-- so much of the bytes is no more than they are
pub cut_short : (most : ℕ) (text bytes before behind : List ℕ) → IsCutAt text bytes before behind → length bytes ≤ most → length before ≤ most
cut_short most text bytes before behind cut short = let sizes = ap length (bytes_of_cut text bytes before behind cut) ∙ length-append before (text ++ 10 ∷ behind) in omega (arith, sizes, short)

-- what is behind the line is at the end of the bytes
pub behind_cut : (text bytes before behind : List ℕ) → IsCutAt text bytes before behind → (front : List ℕ) × (bytes ≡ front ++ behind)
behind_cut text bytes before behind cut = (before ++ (text ++ 10 ∷ []), bytes_of_cut text bytes before behind cut ∙ sym (simp append_assoc))

-- ---- the first line is one

first_once : (text : List ℕ) (lines other_lines later other_later : List (List ℕ)) → AreOthers text lines → AreOthers text other_lines → lines ++ text ∷ later ≡ other_lines ++ text ∷ other_later → (lines ≡ other_lines) × (later ≡ other_later)
first_once text [] [] later other_later all_xs all_ys same_lists = (refl, cc)
first_once text [] (other_line ∷ other_lines) later other_later all_xs all_ys same_lists = absurd (all_ys.0 cc)
first_once text (line ∷ lines) [] later other_later all_xs all_ys same_lists = absurd (all_xs.0 cc)
first_once text (line ∷ lines) (other_line ∷ other_lines) later other_later all_xs all_ys same_lists =
    let same_first : line ≡ other_line = cc in
    let others = first_once text lines other_lines later other_later all_xs.1 all_ys.1 cc in
    (ap (λ (given_line : List ℕ). given_line ∷ lines) same_first ∙ ap (λ (given_lines : List (List ℕ)). other_line ∷ given_lines) others.0, others.1)

pub cut_once : (text bytes before behind other_before other_behind : List ℕ) → IsCutAt text bytes before behind → IsCutAt text bytes other_before other_behind → (before ≡ other_before) × (behind ≡ other_behind)
cut_once text bytes before behind other_before last_behind cut_at other_cut =
    let cut_same = first_once text cut_at.lines other_cut.lines (parts 10 behind) (parts 10 last_behind) cut_at.others other_cut.others (sym cut_at.parts_are ∙ other_cut.parts_are) in
    (cut_at.before_is ∙ ap with_ends cut_same.0 ∙ sym other_cut.before_is, parts_same behind last_behind cut_same.1)

-- ---- no line is the text

not_there : (text last_line : List ℕ) (lines other_lines later : List (List ℕ)) → AreOthers text lines → IsSome later → lines ++ last_line ∷ [] ≡ other_lines ++ text ∷ later → ⊥
not_there text last_line [] [] later all_others some_later same_lines = let no_later : [] ≡ later = cc in let later_is = some_later.2 in absurd cc
not_there text last_line [] (other_line ∷ other_lines) later all_others some_later same_lines = ends other_lines cc
  where
    ends : (given_lines : List (List ℕ)) → [] ≡ given_lines ++ text ∷ later → ⊥
    ends [] empty_is = absurd cc
    ends (given_line ∷ given_lines) empty_is = absurd cc
not_there text last_line (line ∷ lines) [] later all_others some_later same_lines = all_others.0 cc
not_there text last_line (line ∷ lines) (other_line ∷ other_lines) later all_others some_later same_lines = not_there text last_line lines other_lines later all_others.1 some_later cc

pub no_cut : (text bytes last_line : List ℕ) (lines : List (List ℕ)) → parts 10 bytes ≡ lines ++ last_line ∷ [] → AreOthers text lines → HasNoLine text bytes
no_cut text bytes last_line lines same_parts others before behind cut = not_there text last_line lines cut.lines (parts 10 behind) others (some_parts behind) (sym same_parts ∙ cut.parts_are)

-- ---- cut or not

abbrev pub IsCut : (text bytes : List ℕ) → Type 0
IsCut text bytes = (before : List ℕ) × (behind : List ℕ) × IsCutAt text bytes before behind

cut_here : (text bytes rest : List ℕ) → parts 10 bytes ≡ text ∷ parts 10 rest → IsCut text bytes
cut_here text bytes rest same_parts = ([], rest, record { lines = []; parts_are = same_parts; others = tt; before_is = refl })

cut_later : (text bytes line rest : List ℕ) → parts 10 bytes ≡ line ∷ parts 10 rest → line ≢ text → IsCut text rest → IsCut text bytes
cut_later text bytes line rest same_parts not_text later_cut =
    let cut = later_cut.2 in (
      line ++ 10 ∷ later_cut.0,
      later_cut.1,
      record {
        lines = line ∷ cut.lines;
        parts_are = same_parts ∙ ap (λ (texts : List (List ℕ)). line ∷ texts) cut.parts_are;
        others = (not_text, cut.others);
        before_is = ap (λ (given_bytes : List ℕ). line ++ 10 ∷ given_bytes) cut.before_is ∙ sym (append_assoc line (10 ∷ []) (with_ends cut.lines)) ∙ sym (flat_map-cons (λ (given_line : List ℕ). given_line ++ newline ∷ []) line cut.lines);
      },
    )

none_later : (text bytes line rest : List ℕ) → parts 10 bytes ≡ line ∷ parts 10 rest → line ≢ text → HasNoLine text rest → HasNoLine text bytes
none_later text bytes line rest same_parts not_text no_later before behind cut = by_lines cut.lines (sym same_parts ∙ cut.parts_are) cut.others
  where
    by_lines : (lines : List (List ℕ)) → line ∷ parts 10 rest ≡ lines ++ text ∷ parts 10 behind → AreOthers text lines → ⊥
    by_lines [] lines_are others = not_text cc
    by_lines (head_line ∷ lines) lines_are others = no_later (with_ends lines) behind (record { lines = lines; parts_are = cc; others = others.1; before_is = refl })

shorter : (bytes line rest : List ℕ) (bound : ℕ) → parts 10 bytes ≡ line ∷ parts 10 rest → length bytes ≤ suc bound → length rest ≤ bound
shorter bytes line rest bound same_parts bytes_bound = let size = ap length (bytes_of_line bytes line rest same_parts) in let sizes = length-append line (10 ∷ rest) in omega (arith, size, sizes, bytes_bound)

by_test : (text bytes line rest : List ℕ) → parts 10 bytes ≡ line ∷ parts 10 rest → (test : Bool) → test ≡ pointwise nat_eq line text → IsCut text rest ⊎ HasNoLine text rest → IsCut text bytes ⊎ HasNoLine text bytes
by_test text bytes line rest same_parts true test_is others = inl (cut_here text bytes rest (same_parts ∙ ap (λ (given_text : List ℕ). given_text ∷ parts 10 rest) (told_text line text true test_is)))
by_test text bytes line rest same_parts false test_is (inl later_cut) = inl (cut_later text bytes line rest same_parts (told_text line text false test_is) later_cut)
by_test text bytes line rest same_parts false test_is (inr no_later) = inr (none_later text bytes line rest same_parts (told_text line text false test_is) no_later)

pub cut_or_none : (bound : ℕ) (text bytes : List ℕ) → length bytes ≤ bound → IsCut text bytes ⊎ HasNoLine text bytes
cut_or_none zero text [] bytes_bound = inr (no_cut text [] [] [] refl tt)
cut_or_none zero text (byte ∷ bytes) bytes_bound = absurd (omega (arith, bytes_bound))
cut_or_none (suc bound) text bytes bytes_bound = by_line (first_line bytes).0 (first_line bytes).1 (first_line bytes).2 (λ rest fewer. cut_or_none bound text rest fewer)
  where
    by_line : (line rest : List ℕ) → (parts 10 bytes ≡ line ∷ []) ⊎ (parts 10 bytes ≡ line ∷ parts 10 rest) → ((others : List ℕ) → length others ≤ bound → IsCut text others ⊎ HasNoLine text others) → IsCut text bytes ⊎ HasNoLine text bytes
    by_line line rest (inl same_parts) decide_shorter = inr (no_cut text bytes line [] same_parts tt)
    by_line line rest (inr same_parts) decide_shorter = by_test text bytes line rest same_parts (pointwise nat_eq line text) refl (decide_shorter rest (shorter bytes line rest bound same_parts bytes_bound))

-- ---- line by line

-- these lines were passed, and none of them is the text
pub record HasPassed (text bytes rest : List ℕ) : Type 0 where
  pub lines : List (List ℕ)
  pub parts_are : parts 10 bytes ≡ lines ++ parts 10 rest
  pub others : AreOthers text lines

pub passed_none : (text bytes : List ℕ) → HasPassed text bytes bytes
passed_none text bytes = record { lines = []; parts_are = refl; others = tt }

others_more : (text line : List ℕ) (lines : List (List ℕ)) → AreOthers text lines → line ≢ text → AreOthers text (lines ++ line ∷ [])
others_more text line [] all_others not_text = (not_text, tt)
others_more text line (head_line ∷ lines) all_others not_text = (all_others.0, others_more text line lines all_others.1 not_text)

pub passed_more : (text bytes rest line behind : List ℕ) → HasPassed text bytes rest → parts 10 rest ≡ line ∷ parts 10 behind → line ≢ text → HasPassed text bytes behind
passed_more text bytes rest line behind passed same_parts not_text = record {
  lines = passed.lines ++ line ∷ [];
  parts_are = passed.parts_are ∙ ap (λ (texts : List (List ℕ)). passed.lines ++ texts) same_parts ∙ sym (append_assoc passed.lines (line ∷ []) (parts 10 behind));
  others = others_more text line passed.lines passed.others not_text;
}

-- the bytes before what is at their end
pub all_before : (bytes front rest : List ℕ) → bytes ≡ front ++ rest → take (length bytes - length rest) bytes ≡ front
all_before bytes front rest same_bytes =
    let sizes = ap length same_bytes ∙ length-append front rest in
    ap (λ (given_bytes : List ℕ). take (length bytes - length rest) given_bytes) same_bytes ∙ take_at front rest (length bytes - length rest) (omega (arith, sizes))

pub cut_found : (text bytes rest line behind : List ℕ) → HasPassed text bytes rest → parts 10 rest ≡ line ∷ parts 10 behind → line ≡ text → IsCutAt text bytes (take (length bytes - length rest) bytes) behind
cut_found text bytes rest line behind passed same_parts is_text = record {
  lines = passed.lines;
  parts_are = passed.parts_are ∙ ap (λ (texts : List (List ℕ)). passed.lines ++ texts) (same_parts ∙ ap (λ (given_text : List ℕ). given_text ∷ parts 10 behind) is_text);
  others = passed.others;
  before_is = all_before bytes (with_ends passed.lines) rest (bytes_of_lines passed.lines bytes rest passed.parts_are);
}

pub none_found : (text bytes rest last_line : List ℕ) → HasPassed text bytes rest → parts 10 rest ≡ last_line ∷ [] → HasNoLine text bytes
none_found text bytes rest last_line passed same_parts = no_cut text bytes last_line passed.lines (passed.parts_are ∙ ap (λ (texts : List (List ℕ)). passed.lines ++ texts) same_parts) passed.others

pub fewer_left : (text bytes rest : List ℕ) → HasPassed text bytes rest → length rest ≤ length bytes
fewer_left text bytes rest passed = let sizes = ap length (bytes_of_lines passed.lines bytes rest passed.parts_are) ∙ length-append (with_ends passed.lines) rest in omega (arith, sizes)

pub line_shorter : (rest line behind : List ℕ) → parts 10 rest ≡ line ∷ parts 10 behind → length behind + 1 ≤ length rest
line_shorter rest line behind same_parts = let size = ap length (bytes_of_line rest line behind same_parts) in let sizes = length-append line (10 ∷ behind) in omega (arith, size, sizes)

pub whole_before : (bytes front rest : List ℕ) → bytes ≡ front ++ rest → bytes ≡ take (length bytes - length rest) bytes ++ rest
whole_before bytes front rest same_bytes = same_bytes ∙ ap (λ (given_bytes : List ℕ). given_bytes ++ rest) (sym (all_before bytes front rest same_bytes))
