-- What is read was said by the words.
use Rattle.std.proofs.Common.{◌≡◌, ℕ, ◌^◌, ◌<◌, ◌≤◌, Bool, ◌&&◌, true, false, cond, ltb, List, [], ◌∷◌, codes, Option, Some, None, is_none, Ok, Err, Result, refl, sym, ap, subst, ◌∙◌, arith}
use Rattle.std.specs.Fmt.{decimal}
use Rattle.std.specs.Cmp.Lexicographic.{same_text}
use Rattle.std.specs.Str.Parse.{digits_value}
use Rattle.std.proofs.lemmas.Bool.{ltb-true, ltb-false, and_parts}
use Rattle.find_play.specs.declared.wanted.Wanted.TheVariants as wanted
use Rattle.trace_reading.specs.declared.why.Why.TheVariants as cause
use Rattle.trace_reading.specs.Causes.{is_same, is_plain_number}
use Rattle.trace_reading.proofs.Numerals.{number_spelled}
use Rattle.find_play.specs.declared.fault.TestWhy.{TestWhy}
use Rattle.find_play.specs.declared.fault.TestWhy.TheVariants as why
use Rattle.find_play.specs.declared.slot.Value.{Value}
use Rattle.find_play.specs.declared.slot.Value.TheVariants as value
use Rattle.find_play.specs.declared.wanted.Wanted.{Wanted}
use Rattle.find_play.specs.NameNumbers.{number_of}
use Rattle.find_play.specs.declared.slot.Slot.{Slot}
use Rattle.find_play.specs.declared.slot.Slot.TheVariants as slot
use Rattle.find_play.specs.declared.kind.LineKind.{LineKind}
use Rattle.find_play.specs.Told.{Told}
use Rattle.find_play.specs.Names.{is_name}
use Rattle.find_play.specs.Lines.{as_small, as_large, as_root, as_number, as_index, names_beside, value_in, with_rest, without_word, take_value, with_first, then_values, values_in}
use Rattle.find_play.specs.WordsSaid.{ranged, number_between, number_wanted, as_wanted, wanted_in}
use Rattle.find_play.specs.Spelling.{wanted_word, FitsWhenWanted, Says, AreSaid}

same_ok : {A : Type 0} (x y : A) → ◌≡◌ {A = Result A TestWhy} (Ok x) (Ok y) → x ≡ y
same_ok x y same_result = cc

pub number_said : (least most number : ℕ) (digits : List ℕ) → most < 2 ^ 64 → number_between least most digits ≡ Ok number → (digits ≡ decimal number) × (least ≤ number) × (number ≤ most)
unfolding number_between ranged
number_said least most number digits small number_read = by_tests (is_plain_number digits) (ltb (digits_value 10 digits) least) (ltb most (digits_value 10 digits)) refl refl refl number_read
  where
    by_tests : (plain low high : Bool) → is_plain_number digits ≡ plain → ltb (digits_value 10 digits) least ≡ low → ltb most (digits_value 10 digits) ≡ high
        → ◌≡◌ {A = Result ℕ TestWhy} (cond plain (cond low (Err (why.Trace cause.Range)) (cond high (Err (why.Trace cause.Range)) (Ok (digits_value 10 digits)))) (Err (why.Trace cause.Number))) (Ok number)
        → (digits ≡ decimal number) × (least ≤ number) × (number ≤ most)
    by_tests true false false plain_test low_test high_test number_read =
        let same_number : digits_value 10 digits ≡ number = same_ok _ _ number_read in
        let low : least ≤ digits_value 10 digits = ltb-false _ _ low_test in
        let high : digits_value 10 digits ≤ most = ltb-false _ _ high_test in
        (number_spelled digits plain_test (omega (arith, high, small)) ∙ ap decimal same_number, omega (arith, low, same_number), omega (arith, high, same_number))
    by_tests true false true plain_test low_test high_test number_read = absurd cc
    by_tests true true high plain_test low_test high_test number_read = absurd cc
    by_tests false low high plain_test low_test high_test number_read = absurd cc

-- ---- replies

-- the value is what a reply is asked to be, and the word is its
abbrev IsReply : ℕ → List ℕ → Value → Type 0
IsReply version word said_value = (wanted_reply : Wanted) × (said_value ≡ value.Wanted wanted_reply) × (word ≡ wanted_word wanted_reply) × FitsWhenWanted version wanted_reply

one_reply : (version : ℕ) (word name : List ℕ) (wanted_reply : Wanted) (else_result : Result Value TestWhy) (said_value : Value) → name ≡ wanted_word wanted_reply → FitsWhenWanted version wanted_reply → cond (is_same word name) (Ok (value.Wanted wanted_reply)) else_result ≡ Ok said_value
    → (else_result ≡ Ok said_value → IsReply version word said_value) → IsReply version word said_value
one_reply version word name wanted_reply else_result said_value spelled fits value_read others = by_test (is_same word name) refl value_read
  where
    by_test : (test : Bool) → is_same word name ≡ test → cond test (Ok (value.Wanted wanted_reply)) else_result ≡ Ok said_value → IsReply version word said_value
    by_test true word_test value_read = (wanted_reply, sym (same_ok _ _ value_read), same_text word name (sym word_test) ∙ spelled, fits)
    by_test false word_test value_read = others value_read

-- the word of a place, which version 1 has not
pinned_reply : (version : ℕ) (word : List ℕ) (else_result : Result Value TestWhy) (said_value : Value) → cond (ltb 1 version && is_same word (codes "pinned")) (Ok (value.Wanted wanted.Pinned)) else_result ≡ Ok said_value
    → (else_result ≡ Ok said_value → IsReply version word said_value) → IsReply version word said_value
pinned_reply version word else_result said_value value_read others = by_tests (ltb 1 version) (is_same word (codes "pinned")) refl refl value_read
  where
    by_tests : (holds word_holds : Bool) → ltb 1 version ≡ holds → is_same word (codes "pinned") ≡ word_holds → cond (holds && word_holds) (Ok (value.Wanted wanted.Pinned)) else_result ≡ Ok said_value → IsReply version word said_value
    by_tests true true later pinned_test value_read = (wanted.Pinned, sym (same_ok _ _ value_read), same_text word (codes "pinned") (sym pinned_test), ltb-true 1 version later)
    by_tests true false later pinned_test value_read = others value_read
    by_tests false word_holds later pinned_test value_read = others value_read

number_reply : (version : ℕ) (digits : List ℕ) (said_value : Value) → number_wanted digits ≡ Ok said_value → IsReply version digits said_value
number_reply version digits said_value value_read = by_test (is_plain_number digits) value_read
  where
    by_number : (number_result : Result ℕ TestWhy) → number_between 0 18446744073709551615 digits ≡ number_result → as_wanted number_result ≡ Ok said_value → IsReply version digits said_value
    by_number (Ok number) number_read value_read = let said_number = number_said 0 18446744073709551615 number digits (omega arith) number_read in (wanted.Number number, sym (same_ok _ _ value_read), said_number.0, omega (arith, said_number.2))
    by_number (Err why) number_read value_read = absurd cc

    by_test : (test : Bool) → cond test (as_wanted (number_between 0 18446744073709551615 digits)) (Err why.Reply) ≡ Ok said_value → IsReply version digits said_value
    by_test true value_read = by_number (number_between 0 18446744073709551615 digits) refl value_read
    by_test false value_read = absurd cc

pub reply_said : (version : ℕ) (digits : List ℕ) (said_value : Value) → wanted_in version digits ≡ Ok said_value → IsReply version digits said_value
unfolding wanted_in
reply_said version digits said_value value_read =
    one_reply version digits (codes "yes") wanted.Yes _ said_value refl tt value_read (λ value_read.
    one_reply version digits (codes "no") wanted.No _ said_value refl tt value_read (λ value_read.
    one_reply version digits (codes "null") wanted.Null _ said_value refl tt value_read (λ value_read.
    one_reply version digits (codes "object") wanted.Object _ said_value refl tt value_read (λ value_read.
    one_reply version digits (codes "ok") wanted.Ok _ said_value refl tt value_read (λ value_read.
    one_reply version digits (codes "full") wanted.Full _ said_value refl tt value_read (λ value_read.
    one_reply version digits (codes "bad") wanted.Bad _ said_value refl tt value_read (λ value_read.
    pinned_reply version digits _ said_value value_read (λ value_read. number_reply version digits said_value value_read))))))))

-- ---- values

-- the numbers of a slot fit 64 bits
abbrev pub is_small_slot : Slot → Bool
is_small_slot (slot.Small most) = ltb most 18446744073709551616
is_small_slot (slot.Large least most) = ltb most 18446744073709551616
is_small_slot _ = true

pub value_said : (told : Told) (kind : LineKind) (asked_slot : Slot) (digits : List ℕ) (said_value : Value) → is_small_slot asked_slot ≡ true → value_in told kind asked_slot digits ≡ Ok said_value → Says told kind asked_slot said_value digits
unfolding value_in
value_said told kind slot.Nothing digits said_value small value_read = absurd cc
value_said told kind (slot.Small most) digits said_value small value_read = by_number (number_between 0 most digits) refl value_read
  where
    by_number : (number_result : Result ℕ TestWhy) → number_between 0 most digits ≡ number_result → as_small number_result ≡ Ok said_value → Says told kind (slot.Small most) said_value digits
    by_number (Ok number) number_read value_read = let said_number = number_said 0 most number digits (ltb-true most _ small) number_read in subst (λ (some_value : Value). Says told kind (slot.Small most) some_value digits) (same_ok _ _ value_read) (said_number.0, said_number.2)
    by_number (Err why) number_read value_read = absurd cc
value_said told kind (slot.Large least most) digits said_value small value_read = by_number (number_between least most digits) refl value_read
  where
    by_number : (number_result : Result ℕ TestWhy) → number_between least most digits ≡ number_result → as_large number_result ≡ Ok said_value → Says told kind (slot.Large least most) said_value digits
    by_number (Ok number) number_read value_read = subst (λ (some_value : Value). Says told kind (slot.Large least most) some_value digits) (same_ok _ _ value_read) (number_said least most number digits (ltb-true most _ small) number_read)
    by_number (Err why) number_read value_read = absurd cc
value_said told kind slot.Root digits said_value small value_read = by_number (number_of told.roots digits) refl value_read
  where
    by_test : (number : ℕ) (test : Bool) → ltb number 16 ≡ test → number_of told.roots digits ≡ Some number → cond test (Ok (value.Small number)) (Err why.Name) ≡ Ok said_value → Says told kind slot.Root said_value digits
    by_test number true small number_found value_read = subst (λ (some_value : Value). Says told kind slot.Root some_value digits) (same_ok _ _ value_read) (number_found, omega (arith, ltb-true number 16 small))
    by_test number false small number_found value_read = absurd cc

    by_number : (found : Option ℕ) → number_of told.roots digits ≡ found → as_root found ≡ Ok said_value → Says told kind slot.Root said_value digits
    by_number (Some number) number_found value_read = by_test number (ltb number 16) refl number_found value_read
    by_number None number_found value_read = absurd cc
value_said told kind slot.Note digits said_value small value_read = by_number (number_of told.notes digits) refl value_read
  where
    by_number : (found : Option ℕ) → number_of told.notes digits ≡ found → as_index (as_number found) ≡ Ok said_value → Says told kind slot.Note said_value digits
    by_number (Some number) number_found value_read = subst (λ (some_value : Value). Says told kind slot.Note some_value digits) (same_ok _ _ value_read) number_found
    by_number None number_found value_read = absurd cc
value_said told kind slot.Place digits said_value small value_read = by_number (number_of told.place_names digits) refl value_read
  where
    by_number : (found : Option ℕ) → number_of told.place_names digits ≡ found → as_index (as_number found) ≡ Ok said_value → Says told kind slot.Place said_value digits
    by_number (Some number) number_found value_read = subst (λ (some_value : Value). Says told kind slot.Place some_value digits) (same_ok _ _ value_read) number_found
    by_number None number_found value_read = absurd cc
value_said told kind slot.Wanted digits said_value small value_read =
    let said = reply_said told.version digits said_value value_read in
    subst (λ (some_value : Value). Says told kind slot.Wanted some_value digits) (sym said.1) (said.2, said.3)
value_said told kind slot.Fresh digits said_value small value_read = by_tests (is_name digits) (number_of (names_beside told kind) digits) refl refl value_read
  where
    by_tests : (name : Bool) (number : Option ℕ) → is_name digits ≡ name → number_of (names_beside told kind) digits ≡ number → cond (name && is_none number) (Ok value.Nothing) (Err why.Fresh) ≡ Ok said_value → Says told kind slot.Fresh said_value digits
    by_tests true None name_test number_test value_read = subst (λ (some_value : Value). Says told kind slot.Fresh some_value digits) (same_ok _ _ value_read) (name_test, number_test)
    by_tests true (Some taken_number) name_test number_test value_read = absurd cc
    by_tests false number name_test number_test value_read = absurd cc

-- ---- lines

abbrev pub are_small : List Slot → Bool
are_small [] = true
are_small (first_slot ∷ later_slots) = is_small_slot first_slot && are_small later_slots

taken : (result : Result Value TestWhy) (rest : List (List ℕ)) (outcome : Value × List (List ℕ)) → with_rest result rest ≡ Ok outcome → (result ≡ Ok outcome.0) × (outcome.1 ≡ rest)
taken (Ok said_value) rest outcome outcome_given = let made : Value × List (List ℕ) = (said_value, rest) in let same_outcome : made ≡ outcome = same_ok made outcome outcome_given in (ap (λ (pair : Value × List (List ℕ)). Ok pair.0) same_outcome, sym (ap (λ (pair : Value × List (List ℕ)). pair.1) same_outcome))
taken (Err why) rest outcome same_outcome = absurd cc

nothing_said : (asked_slot : Slot) (said_value : Value) → without_word asked_slot ≡ Ok said_value → (asked_slot ≡ slot.Nothing) × (said_value ≡ value.Nothing)
nothing_said slot.Nothing said_value value_read = (refl, sym (same_ok _ _ value_read))
nothing_said _ said_value value_read = absurd cc

pub values_said : (told : Told) (kind : LineKind) (slots : List Slot) (words : List (List ℕ)) (values : List Value) → are_small slots ≡ true → values_in told kind slots words ≡ Ok values → AreSaid told kind slots values words
unfolding values_in take_value
values_said told kind [] [] values small values_read = subst (λ (us : List Value). AreSaid told kind [] us []) (same_ok [] values values_read) tt
values_said told kind [] (word ∷ words) values small values_read = absurd cc
values_said told kind (first_slot ∷ slots) [] values small values_read = by_value (λ later_values later_read. values_said told kind slots [] later_values (and_parts (is_small_slot first_slot) (are_small slots) small).1 later_read) (with_rest (without_word first_slot) []) refl values_read
  where
    by_rest : ((later_values : List Value) → values_in told kind slots [] ≡ Ok later_values → AreSaid told kind slots later_values []) → (first_outcome : Value × List (List ℕ)) (later_result : Result (List Value) TestWhy)
        → with_rest (without_word first_slot) [] ≡ Ok first_outcome → values_in told kind slots first_outcome.1 ≡ later_result → with_first first_outcome.0 later_result ≡ Ok values → AreSaid told kind (first_slot ∷ slots) values []
    by_rest later first_outcome (Err why) first_read later_read values_read = absurd cc
    by_rest later first_outcome (Ok later_values) first_read later_read values_read =
        let first_taken = taken (without_word first_slot) [] first_outcome first_read in
        let nothing_told = nothing_said first_slot first_outcome.0 first_taken.0 in
        let others = later later_values (subst (λ (us : List (List ℕ)). values_in told kind slots us ≡ Ok later_values) first_taken.1 later_read) in
        subst (λ (us : List Value). AreSaid told kind (first_slot ∷ slots) us []) (same_ok (first_outcome.0 ∷ later_values) values values_read) (nothing_told.0, nothing_told.1, others)

    by_value : ((later_values : List Value) → values_in told kind slots [] ≡ Ok later_values → AreSaid told kind slots later_values []) → (first_result : Result (Value × List (List ℕ)) TestWhy)
        → with_rest (without_word first_slot) [] ≡ first_result → then_values first_result (λ rest. values_in told kind slots rest) ≡ Ok values → AreSaid told kind (first_slot ∷ slots) values []
    by_value later (Err why) first_read values_read = absurd cc
    by_value later (Ok first_outcome) first_read values_read = by_rest later first_outcome (values_in told kind slots first_outcome.1) first_read refl values_read
values_said told kind (first_slot ∷ slots) (digits ∷ words) values small values_read = by_value (λ later_values later_read. values_said told kind slots words later_values (and_parts (is_small_slot first_slot) (are_small slots) small).1 later_read) (with_rest (value_in told kind first_slot digits) words) refl values_read
  where
    by_rest : ((later_values : List Value) → values_in told kind slots words ≡ Ok later_values → AreSaid told kind slots later_values words) → (first_outcome : Value × List (List ℕ)) (later_result : Result (List Value) TestWhy)
        → with_rest (value_in told kind first_slot digits) words ≡ Ok first_outcome → values_in told kind slots first_outcome.1 ≡ later_result → with_first first_outcome.0 later_result ≡ Ok values → AreSaid told kind (first_slot ∷ slots) values (digits ∷ words)
    by_rest later first_outcome (Err why) first_read later_read values_read = absurd cc
    by_rest later first_outcome (Ok later_values) first_read later_read values_read =
        let first_taken = taken (value_in told kind first_slot digits) words first_outcome first_read in
        let pass = and_parts (is_small_slot first_slot) (are_small slots) small in
        let others = later later_values (subst (λ (us : List (List ℕ)). values_in told kind slots us ≡ Ok later_values) first_taken.1 later_read) in
        subst (λ (us : List Value). AreSaid told kind (first_slot ∷ slots) us (digits ∷ words)) (same_ok (first_outcome.0 ∷ later_values) values values_read) (value_said told kind first_slot digits first_outcome.0 pass.0 first_taken.0, others)

    by_value : ((later_values : List Value) → values_in told kind slots words ≡ Ok later_values → AreSaid told kind slots later_values words) → (first_result : Result (Value × List (List ℕ)) TestWhy)
        → with_rest (value_in told kind first_slot digits) words ≡ first_result → then_values first_result (λ rest. values_in told kind slots rest) ≡ Ok values → AreSaid told kind (first_slot ∷ slots) values (digits ∷ words)
    by_value later (Err why) first_read values_read = absurd cc
    by_value later (Ok first_outcome) first_read values_read = by_rest later first_outcome (values_in told kind slots first_outcome.1) first_read refl values_read
