-- A line that is read is of its words.
use Rattle.std.proofs.lemmas.Option.{same_Some}
use Rattle.std.proofs.Common.{◌≡◌, ℕ, Bool, true, false, cond, List, [], ◌∷◌, Option, Some, None, Ok, Err, Result, refl, sym, ap, subst, ◌∙◌, arith}
use Rattle.std.specs.Prelude.{Contains}
use Rattle.std.specs.Cmp.Lexicographic.{same_text}
use Rattle.std.proofs.lemmas.List.Elements.{Contains-append_right}
use Rattle.trace_reading.specs.declared.kind.CommandKind.{CommandKind}
use Rattle.trace_reading.specs.declared.kind.CommandKind.TheVariants.{New}
use Rattle.trace_reading.specs.Causes.{is_same}
use Rattle.find_play.specs.declared.fault.TestWhy.{TestWhy}
use Rattle.find_play.specs.declared.fault.TestWhy.TheVariants as why
use Rattle.find_play.specs.declared.slot.Value.{Value}
use Rattle.find_play.specs.declared.kind.LineKind.{LineKind}
use Rattle.find_play.specs.declared.kind.LineKind.TheVariants as line
use Rattle.find_play.specs.Told.{Told}
use Rattle.find_play.specs.Kinds.{line_word, command_slots, line_slots, line_kinds, kind_of_word}
use Rattle.find_play.specs.Drafts.{allows}
use Rattle.find_play.specs.Lines.{values_in, of_kind, words_of, line_in}
use Rattle.find_play.specs.Spelling.{IsLineSaid}
use Rattle.find_play.proofs.Said.{are_small, values_said}

command_small : (kind : CommandKind) → are_small (command_slots kind) ≡ true
command_small New = refl
command_small _ = refl

pub line_small : (kind : LineKind) → are_small (line_slots kind) ≡ true
line_small (line.Command kind) = command_small kind
line_small _ = refl

kind_spelled : (kinds : List LineKind) (word : List ℕ) (kind : LineKind) → kind_of_word kinds word ≡ Some kind → word ≡ line_word kind
unfolding kind_of_word
kind_spelled [] word kind found = absurd cc
kind_spelled (first_kind ∷ rest) word kind found = by_test (is_same word (line_word first_kind)) refl (kind_spelled rest word kind) found
  where
    by_test : (test : Bool) → is_same word (line_word first_kind) ≡ test → (kind_of_word rest word ≡ Some kind → word ≡ line_word kind) → cond test (Some first_kind) (kind_of_word rest word) ≡ Some kind → word ≡ line_word kind
    by_test true same_word others found = same_text word (line_word first_kind) (sym same_word) ∙ ap line_word (same_Some first_kind kind found)
    by_test false other_word others found = others found

-- the kind that has the word is among them
kind_there : (kinds : List LineKind) (word : List ℕ) (kind : LineKind) → kind_of_word kinds word ≡ Some kind → Contains kinds kind
unfolding kind_of_word
kind_there [] word kind found = absurd cc
kind_there (first_kind ∷ rest) word kind found = by_test (is_same word (line_word first_kind)) (kind_there rest word kind) found
  where
    by_test : (test : Bool) → (kind_of_word rest word ≡ Some kind → Contains rest kind) → cond test (Some first_kind) (kind_of_word rest word) ≡ Some kind → Contains (first_kind ∷ rest) kind
    by_test true others found = subst (Contains (first_kind ∷ rest)) (same_Some first_kind kind found) (0, omega arith, refl)
    by_test false others found = Contains-append_right (first_kind ∷ []) rest kind (others found)

same_pair : (x y : LineKind × List Value) → ◌≡◌ {A = Result (LineKind × List Value) TestWhy} (Ok x) (Ok y) → x ≡ y
same_pair x y same_result = cc

pub line_said : (told : Told) (words : List (List ℕ)) (kind : LineKind) (values : List Value) → line_in told words ≡ Ok (kind, values) → IsLineSaid told words kind values
line_said told [] kind values line_read = absurd cc
line_said told (first_word ∷ words) kind values line_read = by_kind (kind_of_word (line_kinds told.version) first_word) refl line_read
  where
    by_values : (found_kind : LineKind) (values_result : Result (List Value) TestWhy) → kind_of_word (line_kinds told.version) first_word ≡ Some found_kind → allows told found_kind ≡ true → values_in told found_kind (line_slots found_kind) words ≡ values_result → of_kind found_kind values_result ≡ Ok (kind, values) → IsLineSaid told (first_word ∷ words) kind values
    by_values found_kind (Err why) named allowed values_read line_read = absurd cc
    by_values found_kind (Ok read_values) named allowed values_read line_read =
        let made : LineKind × List Value = (found_kind, read_values) in
        let wanted_pair : LineKind × List Value = (kind, values) in
        subst (λ (pair : LineKind × List Value). IsLineSaid told (first_word ∷ words) pair.0 pair.1) (same_pair made wanted_pair line_read) (kind_spelled (line_kinds told.version) first_word found_kind named, kind_there (line_kinds told.version) first_word found_kind named, allowed, values_said told found_kind (line_slots found_kind) words read_values (line_small found_kind) values_read)

    by_allowed : (found_kind : LineKind) (test : Bool) → kind_of_word (line_kinds told.version) first_word ≡ Some found_kind → allows told found_kind ≡ test → cond test (of_kind found_kind (values_in told found_kind (line_slots found_kind) words)) (Err why.Place) ≡ Ok (kind, values) → IsLineSaid told (first_word ∷ words) kind values
    by_allowed found_kind true named allowed line_read = by_values found_kind (values_in told found_kind (line_slots found_kind) words) named allowed refl line_read
    by_allowed found_kind false named allowed line_read = absurd cc

    by_kind : (found : Option LineKind) → kind_of_word (line_kinds told.version) first_word ≡ found → words_of told found words ≡ Ok (kind, values) → IsLineSaid told (first_word ∷ words) kind values
    by_kind (Some found_kind) named line_read = by_allowed found_kind (allows told found_kind) named refl line_read
    by_kind None named line_read = absurd cc
