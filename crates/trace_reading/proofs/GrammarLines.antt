-- The two laws of the reader of a command's line.
use Rattle.std.proofs.lemmas.Option.{same_Some}
use Rattle.std.proofs.Common.{◌≡◌, ℕ, zero, suc, ◌^◌, ◌<◌, ◌≤◌, Bool, true, false, cond, ltb, List, [], ◌∷◌, ◌++◌, length, get_or, take, Option, Some, None, refl, sym, ap, subst, ◌∙◌, append_assoc, lit<, arith}
use Rattle.std.specs.List.{AllByRecursion}
use Rattle.std.specs.Fmt.{decimal}
use Rattle.std.proofs.lemmas.Bool.{ltb-true, ltb-false}
use Rattle.std.proofs.lemmas.List.{get_or-take}
use Rattle.shen_graph.specs.declared.command.Command.{Command}
use Rattle.shen_graph.specs.declared.command.Command.TheVariants as command
use Rattle.shen_graph.specs.Valid.{IsValid}
use Rattle.trace_reading.specs.declared.kind.CommandKind.{CommandKind}
use Rattle.trace_reading.specs.declared.kind.CommandKind.TheVariants.{New, Get, Set, Cas, Xchg, Rd, Wr, Copy, Drop, Same, Gc, Pin, Unpin}
use Rattle.trace_reading.specs.Spelling.{TraceLine, IsLine, IsKnown, FitsWhenWritten, line, numbers, command_word, numbers_of}
use Rattle.trace_reading.specs.Kinds.{first_kinds, later_kinds, kinds, word, limits, command_from, AreWithinLimits, Suit}
use Rattle.trace_reading.specs.Scanning.{◌>>=◌, behind, found, positive_at, numbers_at, kind_among, spelled_command, line_at}
use Rattle.trace_reading.specs.Front.{NoDigit}
use Rattle.trace_reading.proofs.GrammarNumbers.{AreSmall, then_some, behind_takes, positive_takes, positive_again, numbers_take, numbers_again}

-- ---- kinds

pub kind_takes : (given_kinds : List CommandKind) (bytes : List ℕ) (taken : CommandKind × List ℕ) → kind_among given_kinds bytes ≡ Some taken → bytes ≡ word taken.0 ++ taken.1
unfolding kind_among
kind_takes [] bytes taken was_taken = absurd cc
kind_takes (kind ∷ given_kinds) bytes taken was_taken = by_first (behind (word kind) bytes) refl (kind_takes given_kinds bytes taken) was_taken
  where
    by_first : (first : Option (List ℕ)) → behind (word kind) bytes ≡ first → (kind_among given_kinds bytes ≡ Some taken → bytes ≡ word taken.0 ++ taken.1) → found kind first (kind_among given_kinds bytes) ≡ Some taken → bytes ≡ word taken.0 ++ taken.1
    by_first None at_front others first_taken = others first_taken
    by_first (Some rest) at_front others first_taken =
        let made : CommandKind × List ℕ = (kind, rest) in
        subst (λ (candidate : CommandKind × List ℕ). bytes ≡ word candidate.0 ++ candidate.1) (same_Some made taken first_taken) (behind_takes (word kind) bytes rest at_front)

-- a version has the kind
abbrev pub HasKind : ℕ → CommandKind → Type 0
HasKind version Pin = 2 ≤ version
HasKind version Unpin = 2 ≤ version
HasKind version _ = Unit {0}

all_of_two : (version : ℕ) → 2 ≤ version → AllByRecursion (HasKind version) (first_kinds ++ later_kinds)
all_of_two version later_version = (tt, (tt, (tt, (tt, (tt, (tt, (tt, (tt, (tt, (tt, (tt, (later_version, (later_version, tt)))))))))))))

all_of_one : (version : ℕ) → AllByRecursion (HasKind version) first_kinds
all_of_one version = (tt, (tt, (tt, (tt, (tt, (tt, (tt, (tt, (tt, (tt, (tt, tt)))))))))))

-- the kinds of a version are either those of version 1 or all
kinds_by : (version : ℕ) (P : List CommandKind → Type 0) → (version < 2 → P first_kinds) → (2 ≤ version → P (first_kinds ++ later_kinds)) → P (kinds version)
kinds_by version P if_first if_later = by_test (ltb version 2) refl
  where
    by_test : (holds : Bool) → ltb version 2 ≡ holds → P (cond holds first_kinds (first_kinds ++ later_kinds))
    by_test true tested = if_first (ltb-true version 2 tested)
    by_test false tested = if_later (ltb-false version 2 tested)

pub kinds_known : (version : ℕ) → AllByRecursion (HasKind version) (kinds version)
kinds_known version = kinds_by version (λ (given_kinds : List CommandKind). AllByRecursion (HasKind version) given_kinds) (λ first_version. all_of_one version) (all_of_two version)

-- what all of the kinds are, the one that was found is
pub kind_is : (P : CommandKind → Type 0) (given_kinds : List CommandKind) (bytes : List ℕ) (taken : CommandKind × List ℕ) → AllByRecursion P given_kinds → kind_among given_kinds bytes ≡ Some taken → P taken.0
unfolding kind_among
kind_is P [] bytes taken all_hold was_taken = absurd cc
kind_is P (kind ∷ given_kinds) bytes taken all_hold was_taken = by_first (behind (word kind) bytes) (kind_is P given_kinds bytes taken all_hold.1) was_taken
  where
    by_first : (first : Option (List ℕ)) → (kind_among given_kinds bytes ≡ Some taken → P taken.0) → found kind first (kind_among given_kinds bytes) ≡ Some taken → P taken.0
    by_first None others first_taken = others first_taken
    by_first (Some rest) others first_taken =
        let made : CommandKind × List ℕ = (kind, rest) in
        subst (λ (candidate : CommandKind × List ℕ). P candidate.0) (same_Some made taken first_taken) all_hold.0

-- a kind of version 1, whatever kinds follow
first_again : (later : List CommandKind) (kind : CommandKind) (rest : List ℕ) → HasKind 1 kind → kind_among (first_kinds ++ later) (word kind ++ rest) ≡ Some (kind, rest)
unfolding kind_among
first_again later New rest old = refl
first_again later Get rest old = refl
first_again later Set rest old = refl
first_again later Cas rest old = refl
first_again later Xchg rest old = refl
first_again later Rd rest old = refl
first_again later Wr rest old = refl
first_again later Copy rest old = refl
first_again later Drop rest old = refl
first_again later Same rest old = refl
first_again later Gc rest old = refl
first_again later Pin rest old = absurd (omega (arith, old))
first_again later Unpin rest old = absurd (omega (arith, old))

old_again : (version : ℕ) (kind : CommandKind) (rest : List ℕ) → HasKind 1 kind → kind_among (kinds version) (word kind ++ rest) ≡ Some (kind, rest)
old_again version kind rest old =
    kinds_by version (λ (given_kinds : List CommandKind). kind_among given_kinds (word kind ++ rest) ≡ Some (kind, rest)) (λ first_version. first_again [] kind rest old) (λ later_version. first_again later_kinds kind rest old)

later_again : (version : ℕ) (kind : CommandKind) (rest : List ℕ) → 2 ≤ version → kind_among (first_kinds ++ later_kinds) (word kind ++ rest) ≡ Some (kind, rest) → kind_among (kinds version) (word kind ++ rest) ≡ Some (kind, rest)
later_again version kind rest later_version found_again =
    kinds_by version (λ (given_kinds : List CommandKind). kind_among given_kinds (word kind ++ rest) ≡ Some (kind, rest)) (λ first_version. absurd (omega (arith, first_version, later_version))) (λ also_later. found_again)

pub kind_again : (version : ℕ) (kind : CommandKind) (rest : List ℕ) → HasKind version kind → kind_among (kinds version) (word kind ++ rest) ≡ Some (kind, rest)
unfolding kind_among
kind_again version Pin rest kind_known = later_again version Pin rest kind_known refl
kind_again version Unpin rest kind_known = later_again version Unpin rest kind_known refl
kind_again version New rest kind_known = old_again version New rest tt
kind_again version Get rest kind_known = old_again version Get rest tt
kind_again version Set rest kind_known = old_again version Set rest tt
kind_again version Cas rest kind_known = old_again version Cas rest tt
kind_again version Xchg rest kind_known = old_again version Xchg rest tt
kind_again version Rd rest kind_known = old_again version Rd rest tt
kind_again version Wr rest kind_known = old_again version Wr rest tt
kind_again version Copy rest kind_known = old_again version Copy rest tt
kind_again version Drop rest kind_known = old_again version Drop rest tt
kind_again version Same rest kind_known = old_again version Same rest tt
kind_again version Gc rest kind_known = old_again version Gc rest tt

pub limits_small : (kind : CommandKind) → AreSmall (limits kind)
limits_small New = (lit< tt, (lit< tt, (lit< tt, tt)))
limits_small Get = (lit< tt, (lit< tt, (lit< tt, tt)))
limits_small Set = (lit< tt, (lit< tt, (lit< tt, tt)))
limits_small Cas = (lit< tt, (lit< tt, (lit< tt, (lit< tt, tt))))
limits_small Xchg = (lit< tt, (lit< tt, (lit< tt, (lit< tt, tt))))
limits_small Rd = (lit< tt, (lit< tt, tt))
limits_small Wr = (lit< tt, (lit< tt, (lit< tt, tt)))
limits_small Copy = (lit< tt, (lit< tt, tt))
limits_small Drop = (lit< tt, tt)
limits_small Same = (lit< tt, (lit< tt, tt))
limits_small Gc = tt
limits_small Pin = (lit< tt, (lit< tt, tt))
limits_small Unpin = (lit< tt, tt)

-- a number within its limit
pub within_at : (bounds given_numbers : List ℕ) (index : ℕ) → AreWithinLimits bounds given_numbers → index < length bounds → get_or given_numbers index 0 ≤ get_or bounds index 0
within_at [] given_numbers index within index_below = absurd (omega arith)
within_at (bound ∷ bounds) [] index within index_below = absurd within
within_at (bound ∷ bounds) (number ∷ given_numbers) zero within index_below = within.0
within_at (bound ∷ bounds) (number ∷ given_numbers) (suc index) within index_below = within_at bounds given_numbers index within.1 (omega arith)

within_front : (bounds given_numbers : List ℕ) (index : ℕ) → AreWithinLimits bounds (take (length bounds) given_numbers) → index < length bounds → get_or given_numbers index 0 ≤ get_or bounds index 0
within_front bounds given_numbers index within index_below = subst (λ (number : ℕ). number ≤ get_or bounds index 0) (get_or-take (length bounds) given_numbers index 0 index_below) (within_at bounds (take (length bounds) given_numbers) index within index_below)

pub suits : (kind : CommandKind) (given_numbers : List ℕ) → AreWithinLimits (limits kind) (take (length (limits kind)) given_numbers) → Suit kind given_numbers
suits New given_numbers within_limits = let each_within = λ (index : ℕ). within_front (limits New) given_numbers index within_limits in (each_within 0 (lit< tt), each_within 1 (lit< tt), each_within 2 (lit< tt))
suits Get given_numbers within_limits = let each_within = λ (index : ℕ). within_front (limits Get) given_numbers index within_limits in (each_within 0 (lit< tt), each_within 1 (lit< tt), each_within 2 (lit< tt))
suits Set given_numbers within_limits = let each_within = λ (index : ℕ). within_front (limits Set) given_numbers index within_limits in (each_within 0 (lit< tt), each_within 1 (lit< tt), each_within 2 (lit< tt))
suits Cas given_numbers within_limits = let each_within = λ (index : ℕ). within_front (limits Cas) given_numbers index within_limits in (each_within 0 (lit< tt), each_within 1 (lit< tt), each_within 2 (lit< tt), each_within 3 (lit< tt))
suits Xchg given_numbers within_limits = let each_within = λ (index : ℕ). within_front (limits Xchg) given_numbers index within_limits in (each_within 0 (lit< tt), each_within 1 (lit< tt), each_within 2 (lit< tt), each_within 3 (lit< tt))
suits Rd given_numbers within_limits = let each_within = λ (index : ℕ). within_front (limits Rd) given_numbers index within_limits in (each_within 0 (lit< tt), each_within 1 (lit< tt))
suits Wr given_numbers within_limits = let each_within = λ (index : ℕ). within_front (limits Wr) given_numbers index within_limits in (each_within 0 (lit< tt), each_within 1 (lit< tt))
suits Copy given_numbers within_limits = let each_within = λ (index : ℕ). within_front (limits Copy) given_numbers index within_limits in (each_within 0 (lit< tt), each_within 1 (lit< tt))
suits Drop given_numbers within_limits = within_front (limits Drop) given_numbers 0 within_limits (lit< tt)
suits Same given_numbers within_limits = let each_within = λ (index : ℕ). within_front (limits Same) given_numbers index within_limits in (each_within 0 (lit< tt), each_within 1 (lit< tt))
suits Gc given_numbers within_limits = tt
suits Pin given_numbers within_limits = let each_within = λ (index : ℕ). within_front (limits Pin) given_numbers index within_limits in (each_within 0 (lit< tt), each_within 1 (lit< tt))
suits Unpin given_numbers within_limits = within_front (limits Unpin) given_numbers 0 within_limits (lit< tt)

-- ---- commands

abbrev pub kind_of : Command → CommandKind
kind_of (command.New dst refs nums) = New
kind_of (command.Get dst src field) = Get
kind_of (command.Set obj field val) = Set
kind_of (command.Cas obj field expect val) = Cas
kind_of (command.Xchg dst obj field val) = Xchg
kind_of (command.Rd obj index) = Rd
kind_of (command.Wr obj index value) = Wr
kind_of (command.Copy dst src) = Copy
kind_of (command.Drop dst) = Drop
kind_of (command.Same first_index second_index) = Same
kind_of command.Gc = Gc
kind_of (command.Pin slot obj) = Pin
kind_of (command.Unpin slot) = Unpin

pub within_length : (bounds given_numbers : List ℕ) → AreWithinLimits bounds given_numbers → length given_numbers ≡ length bounds
within_length [] [] within_limits = refl
within_length [] (number ∷ given_numbers) within_limits = absurd within_limits
within_length (bound ∷ bounds) [] within_limits = absurd within_limits
within_length (bound ∷ bounds) (number ∷ given_numbers) within_limits = ap suc (within_length bounds given_numbers within_limits.1)

-- lists of few numbers, one by one
none_listed : (given_numbers : List ℕ) → length given_numbers ≡ 0 → [] ≡ given_numbers
none_listed [] same_length = refl
none_listed (number ∷ given_numbers) same_length = absurd (omega arith)

one_listed : (given_numbers : List ℕ) → length given_numbers ≡ 1 → get_or given_numbers 0 0 ∷ [] ≡ given_numbers
one_listed [] same_length = absurd (omega arith)
one_listed (number ∷ given_numbers) same_length = ap (λ (xs : List ℕ). number ∷ xs) (none_listed given_numbers (omega arith))

pub two_listed : (given_numbers : List ℕ) → length given_numbers ≡ 2 → get_or given_numbers 0 0 ∷ get_or given_numbers 1 0 ∷ [] ≡ given_numbers
two_listed [] same_length = absurd (omega arith)
two_listed (number ∷ given_numbers) same_length = ap (λ (xs : List ℕ). number ∷ xs) (one_listed given_numbers (omega arith))

pub three_listed : (given_numbers : List ℕ) → length given_numbers ≡ 3 → get_or given_numbers 0 0 ∷ get_or given_numbers 1 0 ∷ get_or given_numbers 2 0 ∷ [] ≡ given_numbers
three_listed [] same_length = absurd (omega arith)
three_listed (number ∷ given_numbers) same_length = ap (λ (xs : List ℕ). number ∷ xs) (two_listed given_numbers (omega arith))

four_listed : (given_numbers : List ℕ) → length given_numbers ≡ 4 → get_or given_numbers 0 0 ∷ get_or given_numbers 1 0 ∷ get_or given_numbers 2 0 ∷ get_or given_numbers 3 0 ∷ [] ≡ given_numbers
four_listed [] same_length = absurd (omega arith)
four_listed (number ∷ given_numbers) same_length = ap (λ (xs : List ℕ). number ∷ xs) (three_listed given_numbers (omega arith))

pub made_numbers : (kind : CommandKind) (given_numbers : List ℕ) → AreWithinLimits (limits kind) given_numbers → numbers_of (command_from kind given_numbers) ≡ given_numbers
made_numbers New given_numbers within_limits = three_listed given_numbers (within_length (limits New) given_numbers within_limits)
made_numbers Get given_numbers within_limits = three_listed given_numbers (within_length (limits Get) given_numbers within_limits)
made_numbers Set given_numbers within_limits = three_listed given_numbers (within_length (limits Set) given_numbers within_limits)
made_numbers Cas given_numbers within_limits = four_listed given_numbers (within_length (limits Cas) given_numbers within_limits)
made_numbers Xchg given_numbers within_limits = four_listed given_numbers (within_length (limits Xchg) given_numbers within_limits)
made_numbers Rd given_numbers within_limits = two_listed given_numbers (within_length (limits Rd) given_numbers within_limits)
made_numbers Wr given_numbers within_limits = three_listed given_numbers (within_length (limits Wr) given_numbers within_limits)
made_numbers Copy given_numbers within_limits = two_listed given_numbers (within_length (limits Copy) given_numbers within_limits)
made_numbers Drop given_numbers within_limits = one_listed given_numbers (within_length (limits Drop) given_numbers within_limits)
made_numbers Same given_numbers within_limits = two_listed given_numbers (within_length (limits Same) given_numbers within_limits)
made_numbers Gc given_numbers within_limits = none_listed given_numbers (within_length (limits Gc) given_numbers within_limits)
made_numbers Pin given_numbers within_limits = two_listed given_numbers (within_length (limits Pin) given_numbers within_limits)
made_numbers Unpin given_numbers within_limits = one_listed given_numbers (within_length (limits Unpin) given_numbers within_limits)

pub made_word : (kind : CommandKind) (given_numbers : List ℕ) → command_word (command_from kind given_numbers) ≡ word kind
made_word New given_numbers = refl
made_word Get given_numbers = refl
made_word Set given_numbers = refl
made_word Cas given_numbers = refl
made_word Xchg given_numbers = refl
made_word Rd given_numbers = refl
made_word Wr given_numbers = refl
made_word Copy given_numbers = refl
made_word Drop given_numbers = refl
made_word Same given_numbers = refl
made_word Gc given_numbers = refl
made_word Pin given_numbers = refl
made_word Unpin given_numbers = refl

at_most : (bounds given_numbers : List ℕ) → AreWithinLimits bounds given_numbers → (index : ℕ) → index < length bounds → get_or given_numbers index 0 ≤ get_or bounds index 0
at_most bounds given_numbers within_limits index index_below = within_at bounds given_numbers index within_limits index_below

pub made_valid : (kind : CommandKind) (given_numbers : List ℕ) → AreWithinLimits (limits kind) given_numbers → IsValid (command_from kind given_numbers) × FitsWhenWritten (command_from kind given_numbers)
made_valid New given_numbers within_limits = let each_within = at_most (limits New) given_numbers within_limits in let first_within = each_within 0 (lit< tt) in let second_within = each_within 1 (lit< tt) in let third_within = each_within 2 (lit< tt) in ((omega arith, omega arith, omega arith), tt)
made_valid Get given_numbers within_limits = let each_within = at_most (limits Get) given_numbers within_limits in let first_within = each_within 0 (lit< tt) in let second_within = each_within 1 (lit< tt) in let third_within = each_within 2 (lit< tt) in ((omega arith, omega arith, omega arith), tt)
made_valid Set given_numbers within_limits = let each_within = at_most (limits Set) given_numbers within_limits in let first_within = each_within 0 (lit< tt) in let second_within = each_within 1 (lit< tt) in let third_within = each_within 2 (lit< tt) in ((omega arith, omega arith, omega arith), tt)
made_valid Cas given_numbers within_limits = let each_within = at_most (limits Cas) given_numbers within_limits in let first_within = each_within 0 (lit< tt) in let second_within = each_within 1 (lit< tt) in let third_within = each_within 2 (lit< tt) in let fourth_within = each_within 3 (lit< tt) in ((omega arith, omega arith, omega arith, omega arith), tt)
made_valid Xchg given_numbers within_limits = let each_within = at_most (limits Xchg) given_numbers within_limits in let first_within = each_within 0 (lit< tt) in let second_within = each_within 1 (lit< tt) in let third_within = each_within 2 (lit< tt) in let fourth_within = each_within 3 (lit< tt) in ((omega arith, omega arith, omega arith, omega arith), tt)
made_valid Rd given_numbers within_limits = let each_within = at_most (limits Rd) given_numbers within_limits in let first_within = each_within 0 (lit< tt) in let second_within = each_within 1 (lit< tt) in ((omega arith, omega arith), tt)
made_valid Wr given_numbers within_limits = let each_within = at_most (limits Wr) given_numbers within_limits in let first_within = each_within 0 (lit< tt) in let second_within = each_within 1 (lit< tt) in let third_within = each_within 2 (lit< tt) in ((omega arith, omega arith), omega arith)
made_valid Copy given_numbers within_limits = let each_within = at_most (limits Copy) given_numbers within_limits in let first_within = each_within 0 (lit< tt) in let second_within = each_within 1 (lit< tt) in ((omega arith, omega arith), tt)
made_valid Drop given_numbers within_limits = let each_within = at_most (limits Drop) given_numbers within_limits in let first_within = each_within 0 (lit< tt) in (omega arith, tt)
made_valid Same given_numbers within_limits = let each_within = at_most (limits Same) given_numbers within_limits in let first_within = each_within 0 (lit< tt) in let second_within = each_within 1 (lit< tt) in ((omega arith, omega arith), tt)
made_valid Gc given_numbers within_limits = (tt, tt)
made_valid Pin given_numbers within_limits = let each_within = at_most (limits Pin) given_numbers within_limits in let first_within = each_within 0 (lit< tt) in let second_within = each_within 1 (lit< tt) in ((omega arith, omega arith), tt)
made_valid Unpin given_numbers within_limits = let each_within = at_most (limits Unpin) given_numbers within_limits in let first_within = each_within 0 (lit< tt) in (omega arith, tt)

-- a command is of the versions that its kind is of
pub made_known : (version : ℕ) (kind : CommandKind) (given_numbers : List ℕ) → HasKind version kind → IsKnown version (command_from kind given_numbers)
made_known version Pin given_numbers kind_known = kind_known
made_known version Unpin given_numbers kind_known = kind_known
made_known version New given_numbers kind_known = tt
made_known version Get given_numbers kind_known = tt
made_known version Set given_numbers kind_known = tt
made_known version Cas given_numbers kind_known = tt
made_known version Xchg given_numbers kind_known = tt
made_known version Rd given_numbers kind_known = tt
made_known version Wr given_numbers kind_known = tt
made_known version Copy given_numbers kind_known = tt
made_known version Drop given_numbers kind_known = tt
made_known version Same given_numbers kind_known = tt
made_known version Gc given_numbers kind_known = tt

pub known_kind : (version : ℕ) (asked : Command) → IsKnown version asked → HasKind version (kind_of asked)
known_kind version (command.Pin slot obj) command_known = command_known
known_kind version (command.Unpin slot) command_known = command_known
known_kind version (command.New dst refs nums) command_known = tt
known_kind version (command.Get dst src field) command_known = tt
known_kind version (command.Set obj field val) command_known = tt
known_kind version (command.Cas obj field expect val) command_known = tt
known_kind version (command.Xchg dst obj field val) command_known = tt
known_kind version (command.Rd obj index) command_known = tt
known_kind version (command.Wr obj index value) command_known = tt
known_kind version (command.Copy dst src) command_known = tt
known_kind version (command.Drop dst) command_known = tt
known_kind version (command.Same first_index second_index) command_known = tt
known_kind version command.Gc command_known = tt

pub command_again : (asked : Command) → command_from (kind_of asked) (numbers_of asked) ≡ asked
command_again (command.New dst refs nums) = refl
command_again (command.Get dst src field) = refl
command_again (command.Set obj field val) = refl
command_again (command.Cas obj field expect val) = refl
command_again (command.Xchg dst obj field val) = refl
command_again (command.Rd obj index) = refl
command_again (command.Wr obj index value) = refl
command_again (command.Copy dst src) = refl
command_again (command.Drop dst) = refl
command_again (command.Same first_index second_index) = refl
command_again command.Gc = refl
command_again (command.Pin slot obj) = refl
command_again (command.Unpin slot) = refl

pub word_again : (asked : Command) → word (kind_of asked) ≡ command_word asked
word_again (command.New dst refs nums) = refl
word_again (command.Get dst src field) = refl
word_again (command.Set obj field val) = refl
word_again (command.Cas obj field expect val) = refl
word_again (command.Xchg dst obj field val) = refl
word_again (command.Rd obj index) = refl
word_again (command.Wr obj index value) = refl
word_again (command.Copy dst src) = refl
word_again (command.Drop dst) = refl
word_again (command.Same first_index second_index) = refl
word_again command.Gc = refl
word_again (command.Pin slot obj) = refl
word_again (command.Unpin slot) = refl

pub valid_within : (asked : Command) → IsValid asked → FitsWhenWritten asked → AreWithinLimits (limits (kind_of asked)) (numbers_of asked)
valid_within (command.New dst refs nums) valid fits_when_written = (omega arith, (omega arith, (omega arith, tt)))
valid_within (command.Get dst src field) valid fits_when_written = (omega arith, (omega arith, (omega arith, tt)))
valid_within (command.Set obj field val) valid fits_when_written = (omega arith, (omega arith, (omega arith, tt)))
valid_within (command.Cas obj field expect val) valid fits_when_written = (omega arith, (omega arith, (omega arith, (omega arith, tt))))
valid_within (command.Xchg dst obj field val) valid fits_when_written = (omega arith, (omega arith, (omega arith, (omega arith, tt))))
valid_within (command.Rd obj index) valid fits_when_written = (omega arith, (omega arith, tt))
valid_within (command.Wr obj index value) valid fits_when_written = (omega arith, (omega arith, (omega arith, tt)))
valid_within (command.Copy dst src) valid fits_when_written = (omega arith, (omega arith, tt))
valid_within (command.Drop dst) valid fits_when_written = (omega arith, tt)
valid_within (command.Same first_index second_index) valid fits_when_written = (omega arith, (omega arith, tt))
valid_within command.Gc valid fits_when_written = tt
valid_within (command.Pin slot obj) valid fits_when_written = (omega arith, (omega arith, tt))
valid_within (command.Unpin slot) valid fits_when_written = (omega arith, tt)

-- ---- lines

pub command_takes : (version : ℕ) (bytes : List ℕ) (taken : Command × List ℕ) → spelled_command version bytes ≡ Some taken → (bytes ≡ command_word taken.0 ++ (numbers (numbers_of taken.0) ++ taken.1)) × IsKnown version taken.0 × IsValid taken.0 × FitsWhenWritten taken.0
unfolding spelled_command
command_takes version bytes taken was_taken =
    then_some (kind_among (kinds version) bytes) (λ kind_read. numbers_at (limits kind_read.0) kind_read.1 >>= λ numbers_read. Some (command_from kind_read.0 numbers_read.0, numbers_read.1)) taken was_taken (λ kind_read kind_taken then_is.
    then_some (numbers_at (limits kind_read.0) kind_read.1) (λ numbers_read. Some (command_from kind_read.0 numbers_read.0, numbers_read.1)) taken then_is (λ numbers_read numbers_taken behind_is.
    let kind = kind_takes (kinds version) bytes kind_read kind_taken in
    let command_known = made_known version kind_read.0 numbers_read.0 (kind_is (HasKind version) (kinds version) bytes kind_read (kinds_known version) kind_taken) in
    let rest = numbers_take (limits kind_read.0) kind_read.1 numbers_read (limits_small kind_read.0) numbers_taken in
    let made : Command × List ℕ = (command_from kind_read.0 numbers_read.0, numbers_read.1) in
    let valid = made_valid kind_read.0 numbers_read.0 rest.1 in
    let spelled : bytes ≡ command_word made.0 ++ (numbers (numbers_of made.0) ++ made.1) = rw (made_word kind_read.0 numbers_read.0, made_numbers kind_read.0 numbers_read.0 rest.1) (kind ∙ ap (λ (read_bytes : List ℕ). word kind_read.0 ++ read_bytes) rest.0) in
    subst (λ (candidate : Command × List ℕ). (bytes ≡ command_word candidate.0 ++ (numbers (numbers_of candidate.0) ++ candidate.1)) × IsKnown version candidate.0 × IsValid candidate.0 × FitsWhenWritten candidate.0) (same_Some made taken behind_is) (spelled, command_known, valid.0, valid.1)))

pub command_again_at : (version : ℕ) (asked : Command) (rest : List ℕ) → IsKnown version asked → IsValid asked → FitsWhenWritten asked → NoDigit rest → spelled_command version (command_word asked ++ (numbers (numbers_of asked) ++ rest)) ≡ Some (asked, rest)
unfolding spelled_command
command_again_at version asked rest command_known valid fits no_digit =
    rw (← word_again asked, kind_again version (kind_of asked) (numbers (numbers_of asked) ++ rest) (known_kind version asked command_known), numbers_again (limits (kind_of asked)) (numbers_of asked) rest (valid_within asked valid fits) (limits_small (kind_of asked)) no_digit, command_again asked) refl

line-append : (trace_line : TraceLine) (rest : List ℕ) → line trace_line ++ rest ≡ decimal trace_line.thread ++ 32 ∷ (command_word trace_line.command ++ (numbers (numbers_of trace_line.command) ++ 10 ∷ rest))
line-append trace_line rest =
    append_assoc (decimal trace_line.thread) (32 ∷ (command_word trace_line.command ++ (numbers (numbers_of trace_line.command) ++ 10 ∷ []))) rest
    ∙ ap (λ (read_bytes : List ℕ). decimal trace_line.thread ++ 32 ∷ read_bytes) (append_assoc (command_word trace_line.command) (numbers (numbers_of trace_line.command) ++ 10 ∷ []) rest
    ∙ ap (λ (read_bytes : List ℕ). command_word trace_line.command ++ read_bytes) (append_assoc (numbers (numbers_of trace_line.command)) (10 ∷ []) rest))

line_parts : (bytes gap words end rest : List ℕ) (trace_line : TraceLine) → bytes ≡ decimal trace_line.thread ++ gap → gap ≡ 32 ∷ words → words ≡ command_word trace_line.command ++ (numbers (numbers_of trace_line.command) ++ end) → end ≡ 10 ∷ rest → bytes ≡ line trace_line ++ rest
line_parts bytes gap words end rest trace_line same_bytes gap_parts word_parts end_parts = rw (same_bytes, gap_parts, word_parts, end_parts) (sym (line-append trace_line rest))

pub line_takes : (version threads : ℕ) (bytes : List ℕ) (taken : TraceLine × List ℕ) → threads < 2 ^ 64 → line_at version threads bytes ≡ Some taken → (bytes ≡ line taken.0 ++ taken.1) × IsLine version threads taken.0
unfolding line_at
line_takes version threads bytes taken small was_taken =
    then_some (positive_at threads bytes) (λ thread_read. behind (32 ∷ []) thread_read.1 >>= λ rest. spelled_command version rest >>= λ command_read. behind (10 ∷ []) command_read.1 >>= λ end. Some (record { thread = thread_read.0; command = command_read.0 }, end)) taken was_taken (λ thread_read thread_taken then_is.
    then_some (behind (32 ∷ []) thread_read.1) (λ rest. spelled_command version rest >>= λ command_read. behind (10 ∷ []) command_read.1 >>= λ end. Some (record { thread = thread_read.0; command = command_read.0 }, end)) taken then_is (λ rest at_rest behind_is.
    then_some (spelled_command version rest) (λ command_read. behind (10 ∷ []) command_read.1 >>= λ end. Some (record { thread = thread_read.0; command = command_read.0 }, end)) taken behind_is (λ command_read command_taken from_command.
    then_some (behind (10 ∷ []) command_read.1) (λ end. Some (record { thread = thread_read.0; command = command_read.0 }, end)) taken from_command (λ end at_end from_end.
    let thread = positive_takes threads bytes thread_read small thread_taken in
    let command = command_takes version rest command_read command_taken in
    let made : TraceLine × List ℕ = (record { thread = thread_read.0; command = command_read.0 }, end) in
    let spelled : bytes ≡ line made.0 ++ made.1 = line_parts bytes thread_read.1 rest command_read.1 end made.0 thread.0 (behind_takes (32 ∷ []) thread_read.1 rest at_rest) command.0 (behind_takes (10 ∷ []) command_read.1 end at_end) in
    subst (λ (candidate : TraceLine × List ℕ). (bytes ≡ line candidate.0 ++ candidate.1) × IsLine version threads candidate.0) (same_Some made taken from_end)
    (spelled, record { from_one = thread.1; to_last = thread.2; known = command.1; valid = command.2; fits = command.3 })))))

pub line_again : (version threads : ℕ) (trace_line : TraceLine) (rest : List ℕ) → threads < 2 ^ 64 → IsLine version threads trace_line → line_at version threads (line trace_line ++ rest) ≡ Some (trace_line, rest)
unfolding line_at
line_again version threads trace_line rest small fits =
    ap (line_at version threads) (line-append trace_line rest)
    ∙ rw (positive_again threads trace_line.thread (32 ∷ (command_word trace_line.command ++ (numbers (numbers_of trace_line.command) ++ 10 ∷ rest))) fits.from_one fits.to_last small refl, command_again_at version trace_line.command (10 ∷ rest) fits.known fits.valid fits.fits refl) refl
