-- Words that say something are read as that.
use Rattle.std.proofs.Common.{◌≡◌, inl, inr, ℕ, ◌^◌, ◌<◌, ◌≤◌, Bool, ◌&&◌, true, false, not, cond, ltb, List, [], ◌∷◌, ◌++◌, codes, Some, Ok, refl, sym, ap, ◌∙◌, arith}
use Rattle.std.specs.Prelude.{Contains}
use Rattle.std.specs.Fmt.{decimal}
use Rattle.std.specs.Cmp.Lexicographic.{same_text}
use Rattle.std.specs.Str.Parse.{digits_value}
use Rattle.std.proofs.lemmas.Bool.{ltb-true, and_parts, le-ltb}
use Rattle.std.proofs.lemmas.Bool.Decides.{nat_tests}
use Rattle.std.proofs.lemmas.Fmt.{digits_value-decimal}
use Rattle.trace_reading.specs.declared.kind.CommandKind.TheVariants as command
use Rattle.trace_reading.proofs.GrammarNumbers.{own}
use Rattle.trace_reading.specs.Causes.{is_same, is_plain_number}
use Rattle.trace_reading.proofs.Numerals.{decimal_is_number}
use Rattle.shen_graph.proofs.ReachLemmas.{Contains-nil, Contains-cons_cases}
use Rattle.find_play.specs.declared.wanted.Wanted.{Wanted}
use Rattle.find_play.specs.declared.wanted.Wanted.TheVariants as wanted
use Rattle.find_play.specs.declared.slot.Value.{Value}
use Rattle.find_play.specs.declared.slot.Value.TheVariants as value
use Rattle.find_play.specs.declared.slot.Slot.{Slot}
use Rattle.find_play.specs.declared.slot.Slot.TheVariants as slot
use Rattle.find_play.specs.declared.kind.LineKind.{LineKind}
use Rattle.find_play.specs.declared.kind.LineKind.TheVariants as line
use Rattle.find_play.specs.Told.{Told}
use Rattle.find_play.specs.Kinds.{line_word, line_slots, first_line_kinds, later_line_kinds, line_kinds, kind_of_word}
use Rattle.find_play.specs.Lines.{value_in, take_value, values_in, line_in}
use Rattle.find_play.specs.WordsSaid.{ranged, number_between, wanted_in}
use Rattle.find_play.specs.Spelling.{wanted_word, FitsWhenWanted, Says, AreSaid, IsLineSaid}
use Rattle.find_play.proofs.Said.{is_small_slot, are_small}
use Rattle.find_play.proofs.SaidLines.{line_small}

pub number_again : (least most number : ℕ) (word : List ℕ) → most < 2 ^ 64 → word ≡ decimal number → least ≤ number → number ≤ most → number_between least most word ≡ Ok number
unfolding number_between ranged
number_again least most number word small spelled low high =
    let fits : number < 2 ^ 64 = omega (arith, small, high) in
    let value : digits_value 10 (decimal number) ≡ number = digits_value-decimal own number fits in
    rw (spelled, decimal_is_number number fits, value, le-ltb number least low, le-ltb most number high) refl

-- ---- replies

-- a number is none of the words
digits_first : (number : ℕ) (word : List ℕ) → number < 2 ^ 64 → is_plain_number word ≡ false → is_same (decimal number) word ≡ false
digits_first number word small not_number = by_test (is_same (decimal number) word) refl
  where
    by_test : (test : Bool) → is_same (decimal number) word ≡ test → is_same (decimal number) word ≡ false
    by_test true word_test = let plain_number = decimal_is_number number small in let same_word = same_text (decimal number) word (sym word_test) in let same_plain = ap is_plain_number same_word in absurd cc
    by_test false word_test = word_test

none_and : (holds : Bool) → (holds && false) ≡ false
none_and true = refl
none_and false = refl

above : (number bound : ℕ) → number < bound → ltb number bound ≡ true
above number bound number_below = grind (arith, nat_tests)

pub reply_again : (version : ℕ) (wanted_reply : Wanted) (word : List ℕ) → word ≡ wanted_word wanted_reply → FitsWhenWanted version wanted_reply → wanted_in version word ≡ Ok (value.Wanted wanted_reply)
unfolding wanted_in
reply_again version wanted.Yes word same_word fits = rw same_word refl
reply_again version wanted.No word same_word fits = rw same_word refl
reply_again version wanted.Null word same_word fits = rw same_word refl
reply_again version wanted.Object word same_word fits = rw same_word refl
reply_again version wanted.Ok word same_word fits = rw same_word refl
reply_again version wanted.Full word same_word fits = rw same_word refl
reply_again version wanted.Bad word same_word fits = rw same_word refl
reply_again version wanted.Pinned word same_word fits = rw (same_word, above 1 version fits) refl
reply_again version (wanted.Number number) word same_word fits =
    rw (
      same_word,
      digits_first number (codes "yes") fits refl,
      digits_first number (codes "no") fits refl,
      digits_first number (codes "null") fits refl,
      digits_first number (codes "object") fits refl,
      digits_first number (codes "ok") fits refl,
      digits_first number (codes "full") fits refl,
      digits_first number (codes "bad") fits refl,
      digits_first number (codes "pinned") fits refl,
      none_and (ltb 1 version),
      decimal_is_number number fits,
      number_again 0 18446744073709551615 number (decimal number) (omega arith) refl (omega arith) (omega arith),
    ) refl

-- ---- values

pub value_again : (told : Told) (kind : LineKind) (asked_slot : Slot) (word : List ℕ) (said_value : Value) → is_small_slot asked_slot ≡ true → Says told kind asked_slot said_value word → value_in told kind asked_slot word ≡ Ok said_value
unfolding value_in
value_again told kind slot.Nothing word said_value small word_said = absurd word_said
value_again told kind (slot.Small most) word (value.Small number) small word_said = rw (number_again 0 most number word (ltb-true most _ small) word_said.0 (omega arith) word_said.1) refl
value_again told kind (slot.Large least most) word (value.Large number) small word_said = rw (number_again least most number word (ltb-true most _ small) word_said.0 word_said.1 word_said.2) refl
value_again told kind slot.Root word (value.Small number) small word_said = rw (word_said.0, below number word_said.1) refl
  where
    below : (number : ℕ) → number ≤ 15 → ltb number 16 ≡ true
    below number number_within = grind (arith, nat_tests)
value_again told kind slot.Note word (value.Index number) small word_said = rw word_said refl
value_again told kind slot.Place word (value.Index number) small word_said = rw word_said refl
value_again told kind slot.Wanted word (value.Wanted wanted_reply) small word_said = reply_again told.version wanted_reply word word_said.0 word_said.1
value_again told kind slot.Fresh word value.Nothing small word_said = rw (word_said.0, word_said.1) refl
value_again told kind _ word _ small word_said = absurd word_said

pub values_again : (told : Told) (kind : LineKind) (slots : List Slot) (words : List (List ℕ)) (values : List Value) → are_small slots ≡ true → AreSaid told kind slots values words → values_in told kind slots words ≡ Ok values
unfolding values_in take_value
values_again told kind [] [] [] small words_said = refl
values_again told kind [] [] (first_value ∷ values) small words_said = absurd words_said
values_again told kind [] (first_word ∷ words) [] small words_said = absurd words_said
values_again told kind [] (first_word ∷ words) (first_value ∷ values) small words_said = absurd words_said
values_again told kind (first_slot ∷ slots) [] [] small words_said = absurd words_said
values_again told kind (first_slot ∷ slots) (first_word ∷ words) [] small words_said = absurd words_said
values_again told kind (first_slot ∷ slots) [] (first_value ∷ values) small words_said =
    let pass = and_parts (is_small_slot first_slot) (are_small slots) small in
    rw (words_said.0, words_said.1, values_again told kind slots [] values pass.1 words_said.2) refl
values_again told kind (first_slot ∷ slots) (first_word ∷ words) (first_value ∷ values) small words_said =
    let pass = and_parts (is_small_slot first_slot) (are_small slots) small in
    rw (value_again told kind first_slot first_word first_value pass.0 words_said.0, values_again told kind slots words values pass.1 words_said.1) refl

-- ---- lines

-- a kind that version 1 has not
abbrev is_later : LineKind → Bool
is_later (line.Command command.Pin) = true
is_later (line.Command command.Unpin) = true
is_later _ = false

unfoldable none_later : List LineKind → Bool
none_later [] = true
none_later (kind ∷ rest) = not (is_later kind) && none_later rest

-- where none of these is later, a kind among them is not
not_later : (kinds : List LineKind) (kind : LineKind) → none_later kinds ≡ true → Contains kinds kind → is_later kind ≡ false
unfolding none_later
not_later [] kind no_later kind_there = absurd (Contains-nil kind kind_there)
not_later (first_kind ∷ rest) kind no_later kind_there =
    let pass = and_parts (not (is_later first_kind)) (none_later rest) no_later in
    elim (Contains-cons_cases first_kind rest kind kind_there) [
      | inl same_kind ↦ ap is_later (sym same_kind) ∙ not_true (is_later first_kind) pass.0
      | inr kind_behind ↦ not_later rest kind pass.1 kind_behind
    ]
  where
    not_true : (holds : Bool) → not holds ≡ true → holds ≡ false
    not_true true not_holds = absurd cc
    not_true false not_holds = refl

-- a kind of version 1, whatever kinds follow
named_first : (later_kinds : List LineKind) (kind : LineKind) → is_later kind ≡ false → kind_of_word (first_line_kinds ++ later_kinds) (line_word kind) ≡ Some kind
unfolding kind_of_word
named_first later_kinds (line.Command command.Pin) early_kind = absurd cc
named_first later_kinds (line.Command command.Unpin) early_kind = absurd cc
named_first later_kinds (line.Command _) early_kind = refl
named_first later_kinds line.Bounds early_kind = refl
named_first later_kinds _ early_kind = refl

named_later : (kind : LineKind) → is_later kind ≡ true → kind_of_word (first_line_kinds ++ later_line_kinds) (line_word kind) ≡ Some kind
unfolding kind_of_word
named_later (line.Command command.Pin) later = refl
named_later (line.Command command.Unpin) later = refl
named_later (line.Command _) later = absurd cc
named_later line.Bounds later = absurd cc
named_later _ later = absurd cc

named_all : (kind : LineKind) (later : Bool) → is_later kind ≡ later → kind_of_word (first_line_kinds ++ later_line_kinds) (line_word kind) ≡ Some kind
named_all kind true later_test = named_later kind later_test
named_all kind false later_test = named_first later_line_kinds kind later_test

first_there : (kind : LineKind) → Contains first_line_kinds kind → kind_of_word first_line_kinds (line_word kind) ≡ Some kind
unfolding none_later
first_there kind kind_there = named_first [] kind (not_later first_line_kinds kind refl kind_there)

-- a kind that a version has is the one that has its word
named : (version : ℕ) (kind : LineKind) → Contains (line_kinds version) kind → kind_of_word (line_kinds version) (line_word kind) ≡ Some kind
named version kind kind_there = by_test (ltb version 2) kind_there
  where
    by_test : (holds : Bool) → Contains (cond holds first_line_kinds (first_line_kinds ++ later_line_kinds)) kind → kind_of_word (cond holds first_line_kinds (first_line_kinds ++ later_line_kinds)) (line_word kind) ≡ Some kind
    by_test true in_first = first_there kind in_first
    by_test false any = named_all kind (is_later kind) refl

-- a line that is said is read
pub line_again : (told : Told) (words : List (List ℕ)) (kind : LineKind) (values : List Value) → IsLineSaid told words kind values → line_in told words ≡ Ok (kind, values)
line_again told [] kind values said_line = absurd said_line
line_again told (first_word ∷ words) kind values said_line =
    rw (said_line.0, named told.version kind said_line.1, said_line.2, values_again told kind (line_slots kind) words values (line_small kind) said_line.3) refl
