-- The line of the counts of a dump, number by number.
use Rattle.std.proofs.lemmas.Option.{same_Some}
use Rattle.std.proofs.Common.{ℕ, ◌≡◌, ◌+◌, ◌<◌, ◌≤◌, lit<, List, [], ◌∷◌, ◌++◌, length, codes, append_assoc, append-nil, refl, sym, ap, subst, ◌∙◌, None, Some, Option, arith, length-append}
use Rattle.std.specs.Prelude.{All}
use Rattle.std.specs.Fmt.{decimal}
use Rattle.std.proofs.lemmas.List.Elements.{All-push, All-head, All-tail, All-nil}
use Rattle.std.proofs.lemmas.Grind.{flat_map-append}
use Rattle.shen_graph.proofs.Lists.{cons_injective}
use Rattle.heap_words.specs.declared.config.Config.{Config}
use Rattle.trace_reading.specs.Spelling.{numbers, titled, space}
use Rattle.trace_reading.specs.Front.{NoDigit}
use Rattle.trace_reading.specs.Scanning.{behind, numbers_at}
use Rattle.trace_reading.proofs.GrammarNumbers.{AreSmall, behind_takes, numbers_take, numbers_again}
use Rattle.heap_dump.specs.Dumped.{most_made}
use Rattle.heap_dump.specs.DumpLines.{DumpStage, Spells, Counts, DumpFollows}
use Rattle.heap_dump.proofs.HeadLines.{title_of_text, rest_is}

abbrev pub count_limits : List ℕ
count_limits = most_made ∷ []

abbrev pub count_small : AreSmall count_limits
count_small = (lit< tt, tt)

numbers-append : (counts later_counts : List ℕ) → numbers (counts ++ later_counts) ≡ numbers counts ++ numbers later_counts
numbers-append counts later_counts = flat_map-append (λ (count : ℕ). space ∷ decimal count) counts later_counts

-- a number that was read at the front
pub one_read : (bytes rest : List ℕ) (count : ℕ) → ◌≡◌ {A = Option (List ℕ × List ℕ)} (Some (count ∷ [], rest)) (numbers_at count_limits bytes) → (bytes ≡ numbers (count ∷ []) ++ rest) × (count ≤ most_made)
one_read bytes rest count read_is =
    let made : List ℕ × List ℕ = (count ∷ [], rest) in
    let read = numbers_take count_limits bytes made count_small (sym read_is) in
    (read.0, read.1.0)

no_digit : (counts : List ℕ) → NoDigit (numbers counts)
no_digit [] = tt
no_digit (count ∷ counts) = refl

-- the first of some numbers is read
first_read : (count : ℕ) (counts : List ℕ) → count ≤ most_made → numbers_at count_limits (numbers (count ∷ counts)) ≡ Some (count ∷ [], numbers counts)
first_read count counts count_fits =
    ap (λ (given_text : List ℕ). numbers_at count_limits (space ∷ (decimal count ++ given_text))) refl
    ∙ ap (numbers_at count_limits) (ap (λ (given_text : List ℕ). given_text ++ numbers counts) (sym (append-nil (space ∷ decimal count))))
    ∙ numbers_again count_limits (count ∷ []) (numbers counts) (count_fits, tt) count_small (no_digit counts)

-- numbers that are spelled so go on as they were read
pub goes_on : (rest later_bytes counts : List ℕ) (count : ℕ) → ◌≡◌ {A = Option (List ℕ × List ℕ)} (Some (count ∷ [], later_bytes)) (numbers_at count_limits rest) → rest ≡ numbers counts → All (λ count. count ≤ most_made) counts → (first_count : ℕ) × (later_counts : List ℕ) × (counts ≡ first_count ∷ later_counts) × (later_bytes ≡ numbers later_counts) × (count ≡ first_count)
goes_on rest later_bytes [] count read_is rest_spelled counts_fit = absurd (let read = ap length ((one_read rest later_bytes count read_is).0) in let no_bytes = ap length rest_spelled in omega (arith, read, no_bytes, length-append (numbers (count ∷ [])) later_bytes))
goes_on rest later_bytes (first_count ∷ later_counts) count read_is rest_spelled counts_fit =
    let made : List ℕ × List ℕ = (count ∷ [], later_bytes) in
    let wanted_read : List ℕ × List ℕ = (first_count ∷ [], numbers later_counts) in
    let same_read : made ≡ wanted_read = same_Some made wanted_read (read_is ∙ ap (numbers_at count_limits) rest_spelled ∙ first_read first_count later_counts (All-head (λ count. count ≤ most_made) first_count later_counts counts_fit)) in
    (first_count, later_counts, refl, ap (λ (given_read : List ℕ × List ℕ). given_read.1) same_read, (cons_injective count first_count [] [] (ap (λ (given_read : List ℕ × List ℕ). given_read.0) same_read)).0)

-- numbers that are spelled so go on as they were read, and these bytes are what is left of them
pub record LeftOver (counts ns rest : List ℕ) : Type 0 where
  pub ms : List ℕ
  pub split : ns ≡ counts ++ ms
  pub left : rest ≡ numbers ms
  pub fit : All (λ n. n ≤ most_made) ms

-- so many numbers were taken, each behind a space
pub record TakenCounts (bytes rest : List ℕ) (count : ℕ) (counts : List ℕ) : Type 0 where
  pub size : length counts ≡ count
  pub fit : All (λ n. n ≤ most_made) counts
  pub spelled : bytes ≡ numbers counts ++ rest
  pub only : (other_ns : List ℕ) → bytes ≡ numbers other_ns → All (λ n. n ≤ most_made) other_ns → LeftOver counts other_ns rest

pub no_counts : (bytes counts : List ℕ) → counts ≡ [] → TakenCounts bytes bytes 0 counts
no_counts bytes counts no_counts_yet = record {
  size = ap length no_counts_yet;
  fit = subst (λ (given_counts : List ℕ). All (λ made_count. made_count ≤ most_made) given_counts) (sym no_counts_yet) (All-nil (λ made_count. made_count ≤ most_made));
  spelled = ap (λ (given_counts : List ℕ). numbers given_counts ++ bytes) (sym no_counts_yet);
  only = λ given_counts split_is fit. record { ms = given_counts; split = ap (λ (some_counts : List ℕ). some_counts ++ given_counts) (sym no_counts_yet); left = split_is; fit = fit };
}

pub counts_more : (bytes rest later_bytes : List ℕ) (count thread : ℕ) (counts after : List ℕ) → TakenCounts bytes rest count counts → ◌≡◌ {A = Option (List ℕ × List ℕ)} (Some (thread ∷ [], later_bytes)) (numbers_at count_limits rest) → after ≡ counts ++ thread ∷ []
    → TakenCounts bytes later_bytes (count + 1) after
counts_more bytes rest later_bytes count read_count counts after taken read_is after_made =
    let read = one_read rest later_bytes read_count read_is in
    record {
      size = ap length after_made ∙ omega (arith, length-append counts (read_count ∷ []), taken.size);
      fit = subst (λ (given_counts : List ℕ). All (λ read_count. read_count ≤ most_made) given_counts) (sym after_made) (All-push (λ read_count. read_count ≤ most_made) counts read_count taken.fit read.1);
      spelled = (taken.spelled ∙ ap (λ (given_text : List ℕ). numbers counts ++ given_text) read.0
          ∙ sym (append_assoc (numbers counts) (numbers (read_count ∷ [])) later_bytes)
          ∙ ap (λ (given_text : List ℕ). given_text ++ later_bytes) (sym (numbers-append counts (read_count ∷ [])))
          ∙ ap (λ (given_counts : List ℕ). numbers given_counts ++ later_bytes) (sym after_made));
      only = (λ given_counts split_is fit.
          let left_over = taken.only given_counts split_is fit in
          let going_on = goes_on rest later_bytes left_over.ms read_count read_is left_over.left left_over.fit in
          record {
            ms = going_on.1;
            split = (left_over.split ∙ ap (λ (later_counts : List ℕ). counts ++ later_counts) going_on.2 ∙ ap (λ (first_count : ℕ). counts ++ first_count ∷ going_on.1) (sym going_on.4)
                ∙ sym (append_assoc counts (read_count ∷ []) going_on.1) ∙ ap (λ (some_counts : List ℕ). some_counts ++ going_on.1) (sym after_made));
            left = going_on.3;
            fit = All-tail (λ read_count. read_count ≤ most_made) going_on.0 going_on.1 (subst (λ (later_counts : List ℕ). All (λ read_count. read_count ≤ most_made) later_counts) going_on.2 left_over.fit);
          });
    }

-- ---- what the line says

abbrev pub counts_title : List ℕ
counts_title = codes "counts"

pub counts_spelled : (text bytes rest : List ℕ) (count : ℕ) (counts : List ℕ) → ◌≡◌ {A = Option (List ℕ)} (Some bytes) (behind counts_title text) → TakenCounts bytes rest count counts → rest ≡ [] → Spells text (titled counts_title counts)
counts_spelled text bytes rest count counts title_read taken nothing_left =
    title_of_text counts_title counts text
    (behind_takes counts_title text bytes (sym title_read)
    ∙ ap (λ (given_text : List ℕ). counts_title ++ given_text) (taken.spelled ∙ ap (λ (given_text : List ℕ). numbers counts ++ given_text) nothing_left ∙ append-nil (numbers counts)))

pub counts_missing : (text bytes rest : List ℕ) (count threads : ℕ) (counts : List ℕ) → ◌≡◌ {A = Option (List ℕ)} (Some bytes) (behind counts_title text) → TakenCounts bytes rest count counts → count < threads → None ≡ numbers_at count_limits rest
    → (given_counts : List ℕ) → length given_counts ≡ threads → All (λ made_count. made_count ≤ most_made) given_counts → Spells text (titled counts_title given_counts) → ⊥
counts_missing text bytes rest count threads counts title_read taken count_below none_read given_counts counts_size counts_fit spells =
    by_left (taken.only given_counts (rest_is counts_title given_counts text bytes title_read spells) counts_fit)
  where
    by_ms : (later_counts : List ℕ) → given_counts ≡ counts ++ later_counts → rest ≡ numbers later_counts → All (λ made_count. made_count ≤ most_made) later_counts → ⊥
    by_ms [] split left_is all_fit = let sizes = ap length split in omega (arith, sizes, length-append counts [], counts_size, taken.size, count_below)
    by_ms (first_count ∷ later_counts) split left_is all_fit = let read_again = ap (numbers_at count_limits) left_is ∙ first_read first_count later_counts (All-head (λ made_count. made_count ≤ most_made) first_count later_counts all_fit) in absurd cc

    by_left : LeftOver counts given_counts rest → ⊥
    by_left left_over = by_ms left_over.ms left_over.split left_over.left left_over.fit

pub counts_many : (text bytes rest : List ℕ) (count threads : ℕ) (counts : List ℕ) → ◌≡◌ {A = Option (List ℕ)} (Some bytes) (behind counts_title text) → TakenCounts bytes rest count counts → count ≡ threads → (rest ≡ [] → ⊥)
    → (given_counts : List ℕ) → length given_counts ≡ threads → All (λ made_count. made_count ≤ most_made) given_counts → Spells text (titled counts_title given_counts) → ⊥
counts_many text bytes rest count threads counts title_read taken all_threads some_left given_counts counts_size counts_fit spells =
    by_left (taken.only given_counts (rest_is counts_title given_counts text bytes title_read spells) counts_fit)
  where
    by_ms : (later_counts : List ℕ) → given_counts ≡ counts ++ later_counts → rest ≡ numbers later_counts → ⊥
    by_ms [] split left_is = some_left left_is
    by_ms (first_count ∷ later_counts) split left_is = let sizes = ap length split in omega (arith, sizes, length-append counts (first_count ∷ later_counts), counts_size, taken.size, all_threads)

    by_left : LeftOver counts given_counts rest → ⊥
    by_left left_over = by_ms left_over.ms left_over.split left_over.left

-- a stop there
pub no_counts_line : (config : Config) (threads : ℕ) (text : List ℕ) → config.mutators ≡ threads → ((given_counts : List ℕ) → length given_counts ≡ threads → All (λ made_count. made_count ≤ most_made) given_counts → Spells text (titled counts_title given_counts) → ⊥)
    → (next_stage : DumpStage) → DumpFollows (Counts config) text next_stage → ⊥
no_counts_line config threads text same_threads no_such_line next_stage follows = no_such_line follows.0 (follows.1 ∙ same_threads) follows.2 follows.3
