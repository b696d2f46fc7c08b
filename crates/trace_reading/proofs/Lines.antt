-- Lines at the front of bytes.
use Rattle.std.proofs.Common.{◌≡◌, ℕ, ◌-◌, Bool, ◌&&◌, true, false, cond, eqb, List, [], ◌∷◌, length, Option, Some, None, refl, ap, arith}
use Rattle.std.specs.Prelude.{codes, slice_index_or}
use Rattle.std.specs.Str.Parse.{digits_value}
use Rattle.std.proofs.lemmas.Bool.Decides.{nat_tests}
use Rattle.heap_words.specs.declared.config.Config.{Config}
use Rattle.trace_reading.specs.declared.why.Why.{Why}
use Rattle.trace_reading.specs.declared.why.Why.TheVariants.{EndOfLine, Header, ScheduleLast}
use Rattle.trace_reading.specs.Causes.{parts, parts_behind, first_cause, is_same, number_cause, numbers_cause, title_cause, heap_ranges, schedule_cause, command_cause}
use Rattle.trace_reading.specs.Refused.{LineStage, Version, Heap, Threads, Commands, Turns, body_stage, words_cause, end_cause, cause_of}
use Rattle.trace_reading.proofs.Cuts.{cut_parts}

-- a line with an end is judged by its words
pub whole_line : (stage : LineStage) (bytes text rest : List ℕ) → parts 10 bytes ≡ text ∷ parts 10 rest → cause_of stage (parts 10 bytes) ≡ words_cause stage (parts 32 text)
unfolding cause_of
whole_line stage bytes text rest line_parts = rw (line_parts, cut_parts 10 rest) refl

-- a line without one
pub cut_line : (stage : LineStage) (bytes text : List ℕ) → parts 10 bytes ≡ text ∷ [] → cause_of stage (parts 10 bytes) ≡ end_cause stage text
unfolding cause_of
cut_line stage bytes text line_parts = rw line_parts refl

by_cause : (cause : Option Why) (fits : Bool) (others : ℕ → Option Why) (m n : ℕ) → (cause ≡ None → m ≡ n) → cond fits (first_cause cause (others m)) (Some Header) ≡ cond fits (first_cause cause (others n)) (Some Header)
by_cause None fits others m n numbers_agree = ap (λ (number : ℕ). cond fits (others number) (Some Header)) (numbers_agree refl)
by_cause (Some why) fits others m n numbers_agree = refl

-- the number of regions that may be reserved matters only where the number of regions is right
pub same_heap : (words : List (List ℕ)) (most : ℕ) → (number_cause 4 64 (slice_index_or words 1 []) ≡ None → most ≡ digits_value 10 (slice_index_or words 1 []) - 1)
    → title_cause (codes "heap") ((4, 64) ∷ (64, 1024) ∷ (0, most) ∷ []) words ≡ title_cause (codes "heap") (heap_ranges words) words
unfolding title_cause numbers_cause
same_heap [] most most_agrees = refl
same_heap (title_word ∷ []) most most_agrees = refl
same_heap (title_word ∷ regions_word ∷ later_words) most most_agrees =
    by_cause (number_cause 4 64 regions_word) (is_same title_word (codes "heap") && eqb (length (regions_word ∷ later_words)) 3) (λ region_count. numbers_cause ((64, 1024) ∷ (0, region_count) ∷ []) later_words) most (digits_value 10 regions_word - 1) most_agrees

-- ---- the head

pub version_words : (words : List (List ℕ)) → words_cause Version words ≡ title_cause (codes "shen") ((1, 2) ∷ []) words
unfolding words_cause
version_words words = refl

pub heap_words : (version : ℕ) (words : List (List ℕ)) → words_cause (Heap version) words ≡ title_cause (codes "heap") (heap_ranges words) words
unfolding words_cause
heap_words version words = refl

pub threads_words : (version regions region_words reserve : ℕ) (words : List (List ℕ)) → words_cause (Threads version regions region_words reserve) words ≡ title_cause (codes "threads") ((1, 8) ∷ (0, 3) ∷ []) words
unfolding words_cause
threads_words version regions region_words reserve words = refl

-- ---- the lines behind it

pub turn_words : (version : ℕ) (config : Config) (behind : Bool) (words : List (List ℕ)) (first_word : List ℕ) (later_words : List (List ℕ)) → words ≡ first_word ∷ later_words → true ≡ is_same first_word (33 ∷ []) → words_cause (body_stage version config behind) words ≡ schedule_cause config later_words
unfolding words_cause
turn_words version config true words first_word later_words same_words is_mark = rw (same_words, ← is_mark) refl
turn_words version config false words first_word later_words same_words is_mark = rw (same_words, ← is_mark) refl

pub late_words : (version : ℕ) (config : Config) (behind : Bool) (words : List (List ℕ)) (first_word : List ℕ) (later_words : List (List ℕ)) → words ≡ first_word ∷ later_words → false ≡ is_same first_word (33 ∷ []) → behind ≡ true → words_cause (body_stage version config behind) words ≡ Some ScheduleLast
unfolding words_cause
late_words version config true words first_word later_words same_words not_mark late = rw (same_words, ← not_mark) refl
late_words version config false words first_word later_words same_words not_mark late = absurd cc

pub command_words : (version : ℕ) (config : Config) (behind : Bool) (words : List (List ℕ)) (first_word : List ℕ) (later_words : List (List ℕ)) → words ≡ first_word ∷ later_words → false ≡ is_same first_word (33 ∷ []) → behind ≡ false → words_cause (body_stage version config behind) words ≡ command_cause version config.mutators first_word later_words
unfolding words_cause
command_words version config true words first_word later_words same_words not_mark early = absurd cc
command_words version config false words first_word later_words same_words not_mark early = rw (same_words, ← not_mark) refl

pub ended : (stage : LineStage) (bytes text end : List ℕ) → parts 10 bytes ≡ text ∷ parts_behind 10 end → false ≡ eqb (length end) 0 → cause_of stage (parts 10 bytes) ≡ words_cause stage (parts 32 text)
ended stage bytes text [] line_parts some_end = absurd cc
ended stage bytes text (byte ∷ rest) line_parts some_end = whole_line stage bytes text rest line_parts

not_ended : (stage : LineStage) (bytes text end : List ℕ) → parts 10 bytes ≡ text ∷ parts_behind 10 end → true ≡ eqb (length end) 0 → cause_of stage (parts 10 bytes) ≡ end_cause stage text
not_ended stage bytes text [] line_parts no_end = cut_line stage bytes text line_parts
not_ended stage bytes text (byte ∷ rest) line_parts no_end = absurd (grind (arith, nat_tests))

pub nothing_left : (version : ℕ) (config : Config) (behind : Bool) (bytes text end : List ℕ) → parts 10 bytes ≡ text ∷ parts_behind 10 end → true ≡ eqb (length end) 0 → true ≡ eqb (length text) 0 → cause_of (body_stage version config behind) (parts 10 bytes) ≡ None
nothing_left version config behind bytes (byte ∷ text) end line_parts no_end empty = absurd (grind (arith, nat_tests))
nothing_left version config true bytes [] end line_parts no_end empty = not_ended (Turns config) bytes [] end line_parts no_end
nothing_left version config false bytes [] end line_parts no_end empty = not_ended (Commands version config) bytes [] end line_parts no_end

pub cut_off : (version : ℕ) (config : Config) (behind : Bool) (bytes text end : List ℕ) → parts 10 bytes ≡ text ∷ parts_behind 10 end → true ≡ eqb (length end) 0 → false ≡ eqb (length text) 0 → cause_of (body_stage version config behind) (parts 10 bytes) ≡ Some EndOfLine
cut_off version config behind bytes [] end line_parts no_end some_text = absurd cc
cut_off version config true bytes (byte ∷ text) end line_parts no_end some_text = not_ended (Turns config) bytes (byte ∷ text) end line_parts no_end
cut_off version config false bytes (byte ∷ text) end line_parts no_end some_text = not_ended (Commands version config) bytes (byte ∷ text) end line_parts no_end
