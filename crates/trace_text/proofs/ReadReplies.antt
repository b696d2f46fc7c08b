-- The two laws of the reader of a reply: what is read was spelled so, and what is spelled so is read.
use Rattle.std.proofs.lemmas.Option.{same_Some}
use Rattle.std.proofs.Common.{◌≡◌, ℕ, ◌^◌, ◌<◌, ◌≤◌, Bool, true, false, cond, eqb, ltb, List, [], ◌∷◌, ◌++◌, length, codes, Option, Some, None, refl, sym, ap, subst, ◌∙◌, append_assoc, lit<, arith}
use Rattle.std.specs.Fmt.{decimal}
use Rattle.std.specs.Char.{is_ascii_digit, digit_value}
use Rattle.std.specs.Str.Parse.{AllDigits}
use Rattle.std.proofs.lemmas.Bool.Decides.{nat_tests}
use Rattle.std.proofs.lemmas.Bool.{eqb-true, ltb-false}
use Rattle.std.proofs.lemmas.Fmt.{digits_decimal, decimal_nonempty}
use Rattle.shen_graph.proofs.Options.{not_stopped}
use Rattle.shen_graph.specs.declared.command.Reply.{Reply}
use Rattle.shen_graph.specs.declared.command.Reply.TheVariants.{Ref, Null, Ok, Yes, No, Number, Bad, Full, At}
use Rattle.trace_reading.specs.Scanning.{◌>>=◌, behind, spelled_number}
use Rattle.trace_reading.proofs.GrammarNumbers.{own, then_some, behind_takes, number_takes, number_again}
use Rattle.trace_text.specs.Answer.{reply_word, name_word}
use Rattle.trace_text.specs.Entries.{FitsReply, word_begun_by, spelled_word, count_at, number_or_name, numbered_at, spelled_place, spelled_reply}

-- the bytes are this reply and those behind it, and its numbers fit
abbrev pub IsReadAs : List ℕ → Reply × List ℕ → Type 0
IsReadAs bytes read_reply = (bytes ≡ reply_word read_reply.0 ++ read_reply.1) × FitsReply read_reply.0

-- ---- words

abbrev IsItsWord : Reply × List ℕ → Type 0
IsItsWord read_word = (read_word.1 ≡ reply_word read_word.0) × FitsReply read_word.0

-- the first of two, if the test let it pass
settled : {A : Type 0} (P : A → Type 0) (test : Bool) (value : A) (otherwise : Option A) (settled_value : A) → P value → (otherwise ≡ Some settled_value → P settled_value) → cond test (Some value) otherwise ≡ Some settled_value → P settled_value
settled P true value otherwise settled_value value_holds other_holds found = subst P (same_Some value settled_value found) value_holds
settled P false value otherwise settled_value value_holds other_holds found = other_holds found

word_begun : (byte : ℕ) (read_word : Reply × List ℕ) → word_begun_by byte ≡ Some read_word → IsItsWord read_word
word_begun byte read_word found =
    settled IsItsWord (eqb byte 45) (Null, codes "-") _ read_word (refl, tt) (λ then_is.
    settled IsItsWord (eqb byte 111) (Ok, codes "ok") _ read_word (refl, tt) (λ behind_is.
    settled IsItsWord (eqb byte 121) (Yes, codes "yes") _ read_word (refl, tt) (λ then_yes.
    settled IsItsWord (eqb byte 110) (No, codes "no") _ read_word (refl, tt) (λ then_no.
    settled IsItsWord (eqb byte 98) (Bad, codes "bad") _ read_word (refl, tt) (λ then_bad.
    settled IsItsWord (eqb byte 102) (Full, codes "full") _ read_word (refl, tt) (λ then_full. absurd cc) then_bad) then_no) then_yes) behind_is) then_is) found

word_takes : (byte : ℕ) (bytes : List ℕ) (read_reply : Reply × List ℕ) → spelled_word byte bytes ≡ Some read_reply → IsReadAs bytes read_reply
unfolding spelled_word
word_takes byte bytes read_reply found =
    then_some (word_begun_by byte) (λ word_read. behind word_read.1 bytes >>= λ rest. Some (word_read.0, rest)) read_reply found (λ word_read at_w then_is.
    then_some (behind word_read.1 bytes) (λ rest. Some (word_read.0, rest)) read_reply then_is (λ rest at_rest behind_is.
    let its_word = word_begun byte word_read at_w in
    let made : Reply × List ℕ = (word_read.0, rest) in
    let spelled : bytes ≡ reply_word made.0 ++ made.1 = behind_takes word_read.1 bytes rest at_rest ∙ ap (λ (word : List ℕ). word ++ rest) its_word.0 in
    subst (IsReadAs bytes) (same_Some made read_reply behind_is) (spelled, its_word.1)))

-- ---- numbers and names

count_takes : (thread : ℕ) (bytes : List ℕ) (read_reply : Reply × List ℕ) → count_at thread bytes ≡ Some read_reply → thread < 2 ^ 32 → (count : ℕ) × (rest : List ℕ) × (bytes ≡ decimal count ++ rest) × (count < 2 ^ 32) × (read_reply ≡ (Ref (record { thread = thread; count = count }), rest))
unfolding count_at
count_takes thread bytes read_reply found small =
    then_some (spelled_number 4294967295 bytes) (λ count_read. Some (Ref (record { thread = thread; count = count_read.0 }), count_read.1)) read_reply found (λ count_read at_n then_is.
    let read = number_takes 4294967295 bytes count_read (lit< tt) at_n in
    let made : Reply × List ℕ = (Ref (record { thread = thread; count = count_read.0 }), count_read.1) in
    (count_read.0, count_read.1, read.0, omega (arith, read.1), sym (same_Some made read_reply then_is)))

named : (bytes after rest : List ℕ) (thread count : ℕ) (end : List ℕ) → bytes ≡ decimal thread ++ after → after ≡ codes "." ++ rest → rest ≡ decimal count ++ end → bytes ≡ ((decimal thread ++ codes ".") ++ decimal count) ++ end
named bytes after rest thread count end thread_spelled dot_spelled count_spelled =
    thread_spelled ∙ ap (λ (some_bytes : List ℕ). decimal thread ++ some_bytes) (dot_spelled ∙ ap (λ (some_bytes : List ℕ). codes "." ++ some_bytes) count_spelled)
    ∙ sym (append_assoc (decimal thread ++ codes ".") (decimal count) end ∙ append_assoc (decimal thread) (codes ".") (decimal count ++ end))

numbered_takes : (bytes : List ℕ) (read_reply : Reply × List ℕ) → numbered_at bytes ≡ Some read_reply → IsReadAs bytes read_reply
unfolding numbered_at
numbered_takes bytes read_reply found =
    then_some (spelled_number 18446744073709551615 bytes) (λ read_number. number_or_name read_number.0 read_number.1 (behind (codes ".") read_number.1)) read_reply found (λ read_number at_n then_is.
    let read = number_takes 18446744073709551615 bytes read_number (lit< tt) at_n in
    by_dot read_number.0 read_number.1 read.0 read.1 (behind (codes ".") read_number.1) refl then_is)
  where
    by_dot : (number : ℕ) (after : List ℕ) → bytes ≡ decimal number ++ after → number ≤ 18446744073709551615 → (dot : Option (List ℕ)) → behind (codes ".") after ≡ dot → number_or_name number after dot ≡ Some read_reply → IsReadAs bytes read_reply
    by_dot number after spelled number_small None at_dot then_is =
        let made : Reply × List ℕ = (Number number, after) in
        subst (IsReadAs bytes) (same_Some made read_reply then_is) (spelled, omega (arith, number_small))
    by_dot number after spelled number_small (Some rest) at_dot then_is =
        let small = not_stopped (ltb 4294967295 number) (count_at number rest) read_reply then_is in
        let thread : number < 2 ^ 32 = let low = ltb-false _ _ small.0 in omega (arith, low) in
        let counted = count_takes number rest read_reply small.1 thread in
        subst (IsReadAs bytes) (sym counted.4) (named bytes after rest number counted.0 counted.1 spelled (behind_takes (codes ".") after rest at_dot) counted.2, (thread, counted.3))

place_takes : (bytes : List ℕ) (read_reply : Reply × List ℕ) → spelled_place bytes ≡ Some read_reply → IsReadAs (64 ∷ bytes) read_reply
unfolding spelled_place
place_takes bytes read_reply found =
    then_some (spelled_number 18446744073709551615 bytes) (λ read_number. Some (At read_number.0, read_number.1)) read_reply found (λ read_number at_n then_is.
    let read = number_takes 18446744073709551615 bytes read_number (lit< tt) at_n in
    let made : Reply × List ℕ = (At read_number.0, read_number.1) in
    let spelled : 64 ∷ bytes ≡ reply_word made.0 ++ made.1 = ap (λ (some_bytes : List ℕ). 64 ∷ some_bytes) read.0 in
    subst (IsReadAs (64 ∷ bytes)) (same_Some made read_reply then_is) (spelled, omega (arith, read.1)))

pub reply_takes : (bytes : List ℕ) (read_reply : Reply × List ℕ) → spelled_reply bytes ≡ Some read_reply → IsReadAs bytes read_reply
unfolding spelled_reply
reply_takes [] read_reply found = absurd cc
reply_takes (byte ∷ bytes) read_reply found = by_test (is_ascii_digit byte) (eqb byte 64) refl found
  where
    by_test : (digit mark : Bool) → eqb byte 64 ≡ mark → cond digit (numbered_at (byte ∷ bytes)) (cond mark (spelled_place bytes) (spelled_word byte (byte ∷ bytes))) ≡ Some read_reply → IsReadAs (byte ∷ bytes) read_reply
    by_test true mark mark_test then_is = numbered_takes (byte ∷ bytes) read_reply then_is
    by_test false true mark_test then_is = subst (λ (dropped : ℕ). IsReadAs (dropped ∷ bytes) read_reply) (sym (eqb-true byte 64 mark_test)) (place_takes bytes read_reply then_is)
    by_test false false mark_test then_is = word_takes byte (byte ∷ bytes) read_reply then_is

-- ---- again

is_digit : (digit : ℕ) → digit_value digit < 10 → is_ascii_digit digit ≡ true
is_digit digit below_ten = grind (arith, nat_tests)

begins_numbered : (digits rest : List ℕ) → AllDigits 10 digits → 0 < length digits → spelled_reply (digits ++ rest) ≡ numbered_at (digits ++ rest)
unfolding spelled_reply
begins_numbered [] rest all_digits positive = absurd (omega (arith, positive))
begins_numbered (digit ∷ digits) rest all_digits positive = rw (is_digit digit all_digits.0) refl

decimal_numbered : (number : ℕ) (rest : List ℕ) → number < 2 ^ 64 → spelled_reply (decimal number ++ rest) ≡ numbered_at (decimal number ++ rest)
decimal_numbered number rest small = begins_numbered (decimal number) rest (digits_decimal own number small) (decimal_nonempty number small)

not_above : (number : ℕ) → number < 2 ^ 32 → ltb 4294967295 number ≡ false
not_above number number_small = grind (arith, nat_tests)

number_read : (number : ℕ) (rest : List ℕ) → number < 2 ^ 64 → numbered_at (decimal number ++ 10 ∷ rest) ≡ Some (Number number, 10 ∷ rest)
unfolding numbered_at
number_read number rest small = rw (number_again 18446744073709551615 number (10 ∷ rest) (omega (arith, small)) (lit< tt) refl) refl

name_read : (thread count : ℕ) (rest : List ℕ) → thread < 2 ^ 32 → count < 2 ^ 32 → numbered_at (decimal thread ++ 46 ∷ (decimal count ++ 10 ∷ rest)) ≡ Some (Ref (record { thread = thread; count = count }), 10 ∷ rest)
unfolding numbered_at count_at
name_read thread count rest small count_small =
    rw (number_again 18446744073709551615 thread (46 ∷ (decimal count ++ 10 ∷ rest)) (omega (arith, small)) (lit< tt) refl, not_above thread small, number_again 4294967295 count (10 ∷ rest) (omega (arith, count_small)) (lit< tt) refl) refl

place_read : (place : ℕ) (rest : List ℕ) → place < 2 ^ 64 → spelled_place (decimal place ++ 10 ∷ rest) ≡ Some (At place, 10 ∷ rest)
unfolding spelled_place
place_read place rest small = rw (number_again 18446744073709551615 place (10 ∷ rest) (omega (arith, small)) (lit< tt) refl) refl

pub reply_again : (reply : Reply) (rest : List ℕ) → FitsReply reply → spelled_reply (reply_word reply ++ 10 ∷ rest) ≡ Some (reply, 10 ∷ rest)
unfolding spelled_reply spelled_word
reply_again (Ref name) rest fits =
    let name_parts : name_word name ++ 10 ∷ rest ≡ decimal name.thread ++ 46 ∷ (decimal name.count ++ 10 ∷ rest) =
    append_assoc (decimal name.thread ++ codes ".") (decimal name.count) (10 ∷ rest) ∙ append_assoc (decimal name.thread) (codes ".") (decimal name.count ++ 10 ∷ rest) in
    ap spelled_reply name_parts ∙ decimal_numbered name.thread (46 ∷ (decimal name.count ++ 10 ∷ rest)) (omega (arith, fits.0)) ∙ name_read name.thread name.count rest fits.0 fits.1
reply_again Null rest fits = refl
reply_again Ok rest fits = refl
reply_again Yes rest fits = refl
reply_again No rest fits = refl
reply_again (Number number) rest fits = decimal_numbered number (10 ∷ rest) fits ∙ number_read number rest fits
reply_again Bad rest fits = refl
reply_again Full rest fits = refl
reply_again (At place) rest fits = place_read place rest fits
