-- Why a line is no line of a trace. A line is judged by its words, which are what stands between its spaces.
use Rattle.std.specs.Prelude.{ℕ, ◌-◌, ◌==◌, Bool, ◌&&◌, List, [], ◌∷◌, length, map, take, drop, slice_index_or, nat_eq, nat_lt, if◌then◌else◌, Option, Some, None}
use Rattle.std.specs.List.{slice_split}
use Rattle.std.specs.Cmp.Lexicographic.{pointwise}
use Rattle.std.specs.Str.Parse.{digits_value}
use Rattle.heap_words.specs.declared.config.Config.{Config}
use Rattle.heap_words.specs.Ranges.{seat_count}
use Rattle.trace_reading.specs.declared.kind.CommandKind.{CommandKind}
use Rattle.trace_reading.specs.Kinds.{kinds, word, limits}
use Rattle.trace_reading.specs.Scanning.{digit_count, is_numeral}
use Rattle.trace_reading.specs.declared.why.Why.{Why}
use Rattle.trace_reading.specs.declared.why.Why.TheVariants.{Header, Command, Item, Number, Range}
use Rattle.trace_reading.specs.Codes.{is_code}

-- what stands between such bytes
abbrev pub parts : ℕ → List ℕ → List (List ℕ)
parts separator bytes = slice_split (λ b. b == separator) bytes

-- the parts behind the first, where their bytes begin with the one between
abbrev pub parts_behind : ℕ → List ℕ → List (List ℕ)
parts_behind separator [] = []
parts_behind separator (byte ∷ bytes) = parts separator bytes

abbrev pub is_same : List ℕ → List ℕ → Bool
is_same x y = pointwise nat_eq x y

-- the first of two causes, if there is one
abbrev pub first_cause : Option Why → Option Why → Option Why
first_cause (Some why) other = Some why
first_cause None other = other

-- ---- numbers

-- digits with no needless zero in front
abbrev pub is_plain_number : List ℕ → Bool
is_plain_number read_word = (digit_count read_word == length read_word) && is_numeral read_word

-- the number that is written here is outside its range
unfoldable pub range_cause : ℕ → ℕ → List ℕ → Option Why
range_cause least most read_word = if nat_lt (digits_value 10 read_word) least then Some Range else (if nat_lt most (digits_value 10 read_word) then Some Range else None)

-- a word where a number of a range is to stand
unfoldable pub number_cause : ℕ → ℕ → List ℕ → Option Why
number_cause least most read_word = if is_plain_number read_word then range_cause least most read_word else Some Number

-- words where numbers of these ranges are to stand, from left to right
unfoldable pub numbers_cause : List (ℕ × ℕ) → List (List ℕ) → Option Why
numbers_cause [] words = None
numbers_cause (range ∷ ranges) [] = None
numbers_cause (range ∷ ranges) (first_word ∷ words) = first_cause (number_cause range.0 range.1 first_word) (numbers_cause ranges words)

-- ---- the head

-- a line of the head: its title, and numbers of these ranges
unfoldable pub title_cause : List ℕ → List (ℕ × ℕ) → List (List ℕ) → Option Why
title_cause title ranges [] = Some Header
title_cause title ranges (first_word ∷ later_words) = if is_same first_word title && (length later_words == length ranges) then numbers_cause ranges later_words else Some Header

-- the ranges of the three lines; fewer regions are reserved than there are
abbrev pub version_ranges : List (ℕ × ℕ)
version_ranges = (1, 2) ∷ []

abbrev pub heap_ranges : List (List ℕ) → List (ℕ × ℕ)
heap_ranges words = (4, 64) ∷ (64, 1024) ∷ (0, digits_value 10 (slice_index_or words 1 []) - 1) ∷ []

abbrev pub threads_ranges : List (ℕ × ℕ)
threads_ranges = (1, 8) ∷ (0, 3) ∷ []

-- ---- commands

-- the kind among these that has this word
unfoldable pub kind_named : List CommandKind → List ℕ → Option CommandKind
kind_named [] read_word = None
kind_named (kind ∷ rest) read_word = if is_same read_word (word kind) then Some kind else kind_named rest read_word

-- the thread and numbers up to these limits
abbrev pub ranges_of : ℕ → List ℕ → List (ℕ × ℕ)
ranges_of threads limits = (1, threads) ∷ map (λ limit. (0, limit)) limits

abbrev pub numbers_of_kind : ℕ → List ℕ → Option CommandKind → List (List ℕ) → Option Why
numbers_of_kind threads thread None words = Some Command
numbers_of_kind threads thread (Some kind) words = if length words == length (limits kind) then numbers_cause (ranges_of threads (limits kind)) (thread ∷ words) else Some Command

-- a line of a command that the version has: the thread's word, the command's word, and its numbers
unfoldable pub command_cause : (version threads : ℕ) → List ℕ → List (List ℕ) → Option Why
command_cause version threads thread [] = Some Command
command_cause version threads thread (first_word ∷ later_words) = numbers_of_kind threads thread (kind_named (kinds version) first_word) later_words

-- ---- items

-- a machine and a count
unfoldable pub counted_cause : ℕ → List ℕ → List ℕ → Option Why
counted_cause most machine count = if is_plain_number machine && is_plain_number count then first_cause (range_cause 1 most machine) (range_cause 1 4000000000 count) else Some Item

-- a machine and the code of a place
unfoldable pub until_cause : ℕ → List ℕ → List ℕ → Option Why
until_cause most machine code = if is_plain_number machine && is_code code then range_cause 1 most machine else Some Item

-- a machine and how far it goes: behind a colon, an equals sign or an at sign
abbrev pub aim_cause : Config → List ℕ → List ℕ → Option Why
aim_cause config machine [] = Some Item
aim_cause config machine (mark ∷ rest) =
    if mark == 58 then counted_cause (seat_count config.mutators config.helpers) machine rest else
    (if mark == 61 then counted_cause config.mutators machine rest else
    (if mark == 64 then until_cause (seat_count config.mutators config.helpers) machine rest else Some Item))

-- a word where an item is to stand
unfoldable pub item_cause : Config → List ℕ → Option Why
item_cause config read_word = aim_cause config (take (digit_count read_word) read_word) (drop (digit_count read_word) read_word)

-- words where items are to stand, from left to right: each for its form and then its ranges
unfoldable pub items_cause : Config → List (List ℕ) → Option Why
items_cause config [] = None
items_cause config (first_word ∷ later_words) = first_cause (item_cause config first_word) (items_cause config later_words)

-- a line of the schedule behind its mark
abbrev pub schedule_cause : Config → List (List ℕ) → Option Why
schedule_cause config [] = Some Item
schedule_cause config (first_word ∷ later_words) = items_cause config (first_word ∷ later_words)
