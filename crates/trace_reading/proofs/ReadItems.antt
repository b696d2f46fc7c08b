-- The readers of one item of a schedule.
use Rattle.std.proofs.lemmas.Option.{same_Some}
use Rattle.shen_graph.proofs.Lists.{cons_injective}
use Rattle.std.proofs.Common.{◌≡◌, ℕ, ◌+◌, ◌-◌, ◌^◌, ◌<◌, ◌≤◌, List, [], ◌∷◌, ◌++◌, length, true, eqb, Option, Some, None, MatchOption, refl, sym, ap, ◌∙◌, append_assoc, arith}
use Rattle.std.specs.Fmt.{decimal}
use Rattle.std.proofs.lemmas.List.{append-nil}
use Rattle.std.proofs.lemmas.Bool.Decides.{nat_tests}
use Rattle.heap_words.specs.declared.config.Config.{Config}
use Rattle.heap_words.specs.declared.place.Place.{Place}
use Rattle.heap_words.specs.declared.schedule.Item.{Item}
use Rattle.heap_words.specs.declared.schedule.Item.TheVariants.{Steps, Until, Replies}
use Rattle.heap_words.specs.Place.{code_of}
use Rattle.heap_words.specs.Ranges.{seat_count}
use Rattle.trace_reading.specs.Spelling.{IsUpTo, number_of, aim, item, IsItem}
use Rattle.trace_reading.specs.Scanning.{positive_at}
use Rattle.trace_reading.specs.Front.{NoDigit, BeginsWith, BeginsWithNone, IsAny, IsItemOf}
use Rattle.trace_reading.proofs.GrammarNumbers.{positive_takes, positive_again}

pub number_read : (limit : ℕ) (bytes : List ℕ) (number : ℕ) (rest : List ℕ) → limit < 2 ^ 64 → ◌≡◌ {A = Option (ℕ × List ℕ)} (Some (number, rest)) (positive_at limit bytes) → BeginsWith decimal (IsUpTo limit) bytes number rest
number_read limit bytes number rest small number_got =
    let found_pair : ℕ × List ℕ = (number, rest) in
    let taken = positive_takes limit bytes found_pair small (sym number_got) in
    record {
      good = (taken.1, taken.2);
      spelled = taken.0;
      only = λ other_number after valid_number no_digit spelled. let same_pair : found_pair ≡ (other_number, after) = same_Some found_pair (other_number, after) (number_got ∙ ap (positive_at limit) spelled ∙ positive_again limit other_number after valid_number.0 valid_number.1 small no_digit) in (ap (λ (pair : ℕ × List ℕ). pair.0) same_pair, ap (λ (pair : ℕ × List ℕ). pair.1) same_pair);
    }

pub no_number : (limit : ℕ) (bytes : List ℕ) → limit < 2 ^ 64 → None ≡ positive_at limit bytes → BeginsWithNone decimal (IsUpTo limit) bytes
no_number limit bytes small none_read number after valid_number no_digit spelled = let read_again = positive_again limit number after valid_number.0 valid_number.1 small no_digit in let same_reading = ap (positive_at limit) spelled in cc

-- two marks at the front are one
one_mark : (first_mark second_mark : ℕ) (xs ys : List ℕ) → first_mark ∷ xs ≡ second_mark ∷ ys → first_mark ≡ second_mark
one_mark first_mark second_mark xs ys same_text = cc

-- ---- what stands behind the number

pub steps_read : (config : Config) (number : ℕ) (bytes rest : List ℕ) (count : ℕ) (after : List ℕ) → number < seat_count config.mutators config.helpers → bytes ≡ 58 ∷ rest
    → BeginsWith decimal (IsUpTo 4000000000) rest count after → BeginsWith aim (IsItemOf config number) bytes (Steps number count) after
steps_read config number bytes rest count after seat marked read = record { good = ((seat, read.good), refl); spelled = marked ∙ ap (λ (text : List ℕ). 58 ∷ text) read.spelled; only = only }
  where
    only : (other_item : Item) (end : List ℕ) → IsItemOf config number other_item → NoDigit end → bytes ≡ aim other_item ++ end → (Steps number count ≡ other_item) × (after ≡ end)
    only (Steps other_number other_count) end valid_item no_digit same_bytes = let count_read = read.only other_count end valid_item.0.1 no_digit ((cons_injective 58 58 rest (decimal other_count ++ end) (sym marked ∙ same_bytes)).1) in let same_number = valid_item.1 in let same_count = count_read.0 in (cc, count_read.1)
    only (Until other_number other_place) end valid_item no_digit same_bytes = absurd (omega (arith, one_mark 58 64 rest (code_of other_place ++ end) (sym marked ∙ same_bytes)))
    only (Replies other_number other_count) end valid_item no_digit same_bytes = absurd (omega (arith, one_mark 58 61 rest (decimal other_count ++ end) (sym marked ∙ same_bytes)))

pub until_read : (config : Config) (number : ℕ) (bytes rest : List ℕ) (place : Place) (after : List ℕ) → number < seat_count config.mutators config.helpers → bytes ≡ 64 ∷ rest
    → BeginsWith code_of IsAny rest place after → BeginsWith aim (IsItemOf config number) bytes (Until number place) after
until_read config number bytes rest place after seat marked read = record { good = (seat, refl); spelled = marked ∙ ap (λ (text : List ℕ). 64 ∷ text) read.spelled; only = only }
  where
    only : (other_item : Item) (end : List ℕ) → IsItemOf config number other_item → NoDigit end → bytes ≡ aim other_item ++ end → (Until number place ≡ other_item) × (after ≡ end)
    only (Steps other_number other_count) end valid_item no_digit same_bytes = absurd (omega (arith, one_mark 64 58 rest (decimal other_count ++ end) (sym marked ∙ same_bytes)))
    only (Until other_number other_place) end valid_item no_digit same_bytes = let place_found = read.only other_place end tt no_digit ((cons_injective 64 64 rest (code_of other_place ++ end) (sym marked ∙ same_bytes)).1) in let same_number = valid_item.1 in let same_place = place_found.0 in (cc, place_found.1)
    only (Replies other_number other_count) end valid_item no_digit same_bytes = absurd (omega (arith, one_mark 64 61 rest (decimal other_count ++ end) (sym marked ∙ same_bytes)))

pub replies_read : (config : Config) (number : ℕ) (bytes rest : List ℕ) (count : ℕ) (after : List ℕ) → number < config.mutators → bytes ≡ 61 ∷ rest
    → BeginsWith decimal (IsUpTo 4000000000) rest count after → BeginsWith aim (IsItemOf config number) bytes (Replies number count) after
replies_read config number bytes rest count after seat marked read = record { good = ((seat, read.good), refl); spelled = marked ∙ ap (λ (text : List ℕ). 61 ∷ text) read.spelled; only = only }
  where
    only : (other_item : Item) (end : List ℕ) → IsItemOf config number other_item → NoDigit end → bytes ≡ aim other_item ++ end → (Replies number count ≡ other_item) × (after ≡ end)
    only (Steps other_number other_count) end valid_item no_digit same_bytes = absurd (omega (arith, one_mark 61 58 rest (decimal other_count ++ end) (sym marked ∙ same_bytes)))
    only (Until other_number other_place) end valid_item no_digit same_bytes = absurd (omega (arith, one_mark 61 64 rest (code_of other_place ++ end) (sym marked ∙ same_bytes)))
    only (Replies other_number other_count) end valid_item no_digit same_bytes = let count_read = read.only other_count end valid_item.0.1 no_digit ((cons_injective 61 61 rest (decimal other_count ++ end) (sym marked ∙ same_bytes)).1) in let same_number = valid_item.1 in let same_count = count_read.0 in (cc, count_read.1)

-- nothing of the kind that this mark shows
pub no_steps : (config : Config) (number : ℕ) (bytes rest : List ℕ) → bytes ≡ 58 ∷ rest → BeginsWithNone decimal (IsUpTo 4000000000) rest → BeginsWithNone aim (IsItemOf config number) bytes
no_steps config number bytes rest marked no_number (Steps other_number count) end valid_item digit same_bytes = no_number count end valid_item.0.1 digit ((cons_injective 58 58 rest (decimal count ++ end) (sym marked ∙ same_bytes)).1)
no_steps config number bytes rest marked no_number (Until other_number place) end valid_item digit same_bytes = absurd (omega (arith, one_mark 58 64 rest (code_of place ++ end) (sym marked ∙ same_bytes)))
no_steps config number bytes rest marked no_number (Replies other_number count) end valid_item digit same_bytes = absurd (omega (arith, one_mark 58 61 rest (decimal count ++ end) (sym marked ∙ same_bytes)))

pub no_replies : (config : Config) (number : ℕ) (bytes rest : List ℕ) → bytes ≡ 61 ∷ rest → BeginsWithNone decimal (IsUpTo 4000000000) rest → BeginsWithNone aim (IsItemOf config number) bytes
no_replies config number bytes rest marked no_number (Steps other_number count) end valid_item digit same_bytes = absurd (omega (arith, one_mark 61 58 rest (decimal count ++ end) (sym marked ∙ same_bytes)))
no_replies config number bytes rest marked no_number (Until other_number place) end valid_item digit same_bytes = absurd (omega (arith, one_mark 61 64 rest (code_of place ++ end) (sym marked ∙ same_bytes)))
no_replies config number bytes rest marked no_number (Replies other_number count) end valid_item digit same_bytes = no_number count end valid_item.0.1 digit ((cons_injective 61 61 rest (decimal count ++ end) (sym marked ∙ same_bytes)).1)

-- ---- whole items

pub aim_no_digit : (given_item : Item) (after : List ℕ) → NoDigit (aim given_item ++ after)
aim_no_digit (Steps number count) after = refl
aim_no_digit (Until number place) after = refl
aim_no_digit (Replies number count) after = refl

pub seat_of : (config : Config) (given_item : Item) → IsItem config given_item → IsUpTo (seat_count config.mutators config.helpers) (number_of given_item + 1)
seat_of config (Steps number count) valid_item = (omega arith, omega arith)
seat_of config (Until number place) valid_item = (omega arith, omega arith)
seat_of config (Replies number count) valid_item = (omega arith, omega arith)

pub item_read : (config : Config) (bytes rest : List ℕ) (number : ℕ) (read_item : Item) (after : List ℕ) → BeginsWith decimal (IsUpTo (seat_count config.mutators config.helpers)) bytes number rest
    → BeginsWith aim (IsItemOf config (number - 1)) rest read_item after → BeginsWith item (IsItem config) bytes read_item after
item_read config bytes rest number read_item after machine aimed = record {
  good = aimed.good.0;
  spelled = machine.spelled ∙ ap (λ (text : List ℕ). decimal number ++ text) aimed.spelled ∙ ap (λ (other_number : ℕ). decimal other_number ++ (aim read_item ++ after)) (one_more number (number_of read_item) machine.good.0 aimed.good.1) ∙ sym (append_assoc (decimal (number_of read_item + 1)) (aim read_item) after);
  only = λ other_item end valid_item no_digit same_text.
      let same_machine = machine.only (number_of other_item + 1) (aim other_item ++ end) (seat_of config other_item valid_item) (aim_no_digit other_item end) (same_text ∙ append_assoc (decimal (number_of other_item + 1)) (aim other_item) end) in
      aimed.only other_item end (valid_item, one_less number (number_of other_item) same_machine.0) no_digit same_machine.1;
}
  where
    one_more : (number other_number : ℕ) → 1 ≤ number → other_number ≡ number - 1 → number ≡ other_number + 1
    one_more number other_number positive one_below = omega arith

    one_less : (number other_number : ℕ) → number ≡ other_number + 1 → other_number ≡ number - 1
    one_less number other_number one_above = omega arith

pub no_machine : (config : Config) (bytes : List ℕ) → BeginsWithNone decimal (IsUpTo (seat_count config.mutators config.helpers)) bytes → BeginsWithNone item (IsItem config) bytes
no_machine config bytes no_number other_item end valid_item digit same_bytes = no_number (number_of other_item + 1) (aim other_item ++ end) (seat_of config other_item valid_item) (aim_no_digit other_item end) (same_bytes ∙ append_assoc (decimal (number_of other_item + 1)) (aim other_item) end)

pub no_aim : (config : Config) (bytes rest : List ℕ) (number : ℕ) → BeginsWith decimal (IsUpTo (seat_count config.mutators config.helpers)) bytes number rest → BeginsWithNone aim (IsItemOf config (number - 1)) rest → BeginsWithNone item (IsItem config) bytes
no_aim config bytes rest number machine no_aim_read other_item end valid_item digit same_bytes =
    let same_machine = machine.only (number_of other_item + 1) (aim other_item ++ end) (seat_of config other_item valid_item) (aim_no_digit other_item end) (same_bytes ∙ append_assoc (decimal (number_of other_item + 1)) (aim other_item) end) in
    no_aim_read other_item end (valid_item, one_less number (number_of other_item) same_machine.0) digit same_machine.1
  where
    one_less : (number other_number : ℕ) → number ≡ other_number + 1 → other_number ≡ number - 1
    one_less number other_number one_above = omega arith

-- what was found behind the machine's number
pub machine_found : {R : Type 0} (config : Config) (bytes rest : List ℕ) (number : ℕ) (bytes_left : R → List ℕ) (found : Option (Item × R)) → BeginsWith decimal (IsUpTo (seat_count config.mutators config.helpers)) bytes number rest
    → MatchOption found (BeginsWithNone aim (IsItemOf config (number - 1)) rest) (λ found_pair. BeginsWith aim (IsItemOf config (number - 1)) rest found_pair.0 (bytes_left found_pair.1))
    → MatchOption found (BeginsWithNone item (IsItem config) bytes) (λ found_pair. BeginsWith item (IsItem config) bytes found_pair.0 (bytes_left found_pair.1))
machine_found config bytes rest number bytes_left None machine aim_matched = no_aim config bytes rest number machine aim_matched
machine_found config bytes rest number bytes_left (Some found_pair) machine aimed = item_read config bytes rest number found_pair.0 (bytes_left found_pair.1) machine aimed

-- a text that is a number and nothing else
pub whole_number : (most : ℕ) (text : List ℕ) (number : ℕ) (rest : List ℕ) → BeginsWith decimal (IsUpTo most) text number rest → rest ≡ [] → IsUpTo most number × (text ≡ decimal number)
whole_number most text number rest read no_rest = (read.good, read.spelled ∙ ap (λ (bytes : List ℕ). decimal number ++ bytes) no_rest ∙ append-nil (decimal number))

pub no_whole_number : (most : ℕ) (text : List ℕ) → BeginsWithNone decimal (IsUpTo most) text → (number : ℕ) → IsUpTo most number → text ≡ decimal number → ⊥
no_whole_number most text no_number number in_range same_text = no_number number [] in_range tt (same_text ∙ sym (append-nil (decimal number)))

pub no_more_number : (most : ℕ) (text : List ℕ) (number : ℕ) (rest : List ℕ) → BeginsWith decimal (IsUpTo most) text number rest → (rest ≡ [] → ⊥) → (other_number : ℕ) → IsUpTo most other_number → text ≡ decimal other_number → ⊥
no_more_number most text number rest read some_rest other_number in_range same_text = some_rest (read.only other_number [] in_range tt (same_text ∙ sym (append-nil (decimal other_number)))).1

pub no_bytes : (bytes : List ℕ) → eqb (length bytes) 0 ≡ true → bytes ≡ []
no_bytes [] no_length = refl
no_bytes (byte ∷ bytes) no_length = absurd (grind (arith, nat_tests))
