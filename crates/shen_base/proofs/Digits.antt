-- Digits that are put before one another.
use Rattle.std.proofs.Common.{◌≡◌, ⊎_elim, ℕ, ◌+◌, ◌-◌, ◌/◌, ◌%◌, ◌^◌, ◌<◌, ◌≤◌, List, [], ◌∷◌, ◌++◌, length, drop, set, length-set, sym, ap, ◌∙◌, append_assoc, append-nil, length-append, arith}
use Rattle.std.proofs.lemmas.Bool.{cases_lt}
use Rattle.std.proofs.lemmas.List.{drop-set, drop_all}
use Rattle.std.specs.Fmt.{decimal}
use Rattle.std.proofs.lemmas.Fmt.{decimal_step_wide, decimal_digit, length-decimal-le_wide}

-- the digits from an index on, behind those of what is left, are those of the number; and there is room for those
pub record IsSpelled (number left from : ℕ) (digits : List ℕ) : Type 0 where
  pub spelled : decimal number ≡ decimal left ++ drop from digits
  pub room : length (decimal left) ≤ from
  pub within : from ≤ length digits

-- a number has a digit at least
decimal_some : (n : ℕ) → n < 10 ^ 64 → 0 < length (decimal n)
decimal_some n fits = ⊎_elim
    (λ (small : n < 10). let same_length = ap length (decimal_digit n small) in omega (arith, same_length))
    (λ (big : 10 ≤ n). let same_length = ap length (decimal_step_wide n big fits) ∙ length-append (decimal (n / 10)) ((48 + n % 10) ∷ []) in omega (arith, same_length))
    (cases_lt n 10)

-- what is left has a digit at least
pub spelled_some : (number left from : ℕ) (digits : List ℕ) → left < 10 ^ 64 → IsSpelled number left from digits → 0 < from
spelled_some number left from digits fits spelled = omega (arith, decimal_some left fits, spelled.room)

-- where two digits are left, there is room for both
spelled_two : (number left from : ℕ) (digits : List ℕ) → 10 ≤ left → left < 10 ^ 64 → IsSpelled number left from digits → length (decimal (left / 10)) + 1 ≤ from
spelled_two number left from digits big fits spelled =
    let one_longer : length (decimal left) ≡ length (decimal (left / 10)) + 1 =
    ap length (decimal_step_wide left big fits) ∙ length-append (decimal (left / 10)) ((48 + left % 10) ∷ []) in
    omega (arith, one_longer, spelled.room)

-- what stands from an index on, after a write just before it
drop_before : (from : ℕ) (xs : List ℕ) (x : ℕ) → 0 < from → from ≤ length xs → drop (from - 1) (set xs (from - 1) x) ≡ x ∷ drop from xs
drop_before from xs x positive within =
    let index_below : from - 1 < length xs = omega arith in
    let one_back : (from - 1) + 1 ≡ from = omega arith in
    drop-set xs (from - 1) x index_below ∙ ap (λ n. x ∷ drop n xs) one_back

-- one digit more
pub spelled_more : (number left from : ℕ) (digits : List ℕ) → 10 ≤ left → left < 10 ^ 64 → IsSpelled number left from digits
    → IsSpelled number (left / 10) (from - 1) (set digits (from - 1) (48 + left % 10))
spelled_more number left from digits big fits spelled =
    let some_left : 0 < from = spelled_some number left from digits fits spelled in
    let digit = 48 + left % 10 in
    let room = spelled_two number left from digits big fits spelled in
    record {
      spelled =
          spelled.spelled ∙ ap (λ text. text ++ drop from digits) (decimal_step_wide left big fits)
          ∙ append_assoc (decimal (left / 10)) (digit ∷ []) (drop from digits)
          ∙ ap (λ text. decimal (left / 10) ++ text) (sym (drop_before from digits digit some_left spelled.within));
      room = omega (arith, room);
      within = omega (arith, spelled.within, length-set digits (from - 1) digit);
    }

-- the last digit
pub spelled_all : (number left from : ℕ) (digits : List ℕ) → left < 10 → IsSpelled number left from digits
    → drop (from - 1) (set digits (from - 1) (48 + left)) ≡ decimal number
spelled_all number left from digits small spelled =
    let fits : left < 10 ^ 64 = omega arith in
    let some_left : 0 < from = spelled_some number left from digits fits spelled in
    drop_before from digits (48 + left) some_left spelled.within
    ∙ ap (λ text. text ++ drop from digits) (sym (decimal_digit left small)) ∙ sym spelled.spelled

-- nothing is spelled yet
pub spelled_none : (number size : ℕ) (digits : List ℕ) → 0 < size → number < 10 ^ size → number < 10 ^ 64 → length digits ≡ size → IsSpelled number number size digits
spelled_none number size digits positive fits number_small same_length = record {
  spelled = sym (ap (λ text. decimal number ++ text) (drop_all size digits (omega (arith, same_length))) ∙ append-nil (decimal number));
  room = length-decimal-le_wide size number positive fits number_small;
  within = omega (arith, same_length);
}
