-- What an access does to the word at its index.
use Rattle.std.specs.Prelude.{ℕ, ◌+◌, ◌-◌, ◌%◌, ◌^◌, ◌==◌, bit_and, bit_or, if◌then◌else◌, Bool, List, [], ◌∷◌}
use Rattle.std.specs.Cmp.Lexicographic.{pointwise}
use Rattle.std.specs.Ordering.{on}
use Rattle.heap_words.specs.declared.access.Access.{Access}
use Rattle.heap_words.specs.declared.access.Access.TheVariants.{Load, Store, Swap, Add, Sub, And, Or, Exchange}

-- the index of the word
abbrev pub table_index : Access → ℕ
table_index (Load index) = index
table_index (Store index value) = index
table_index (Swap index value) = index
table_index (Add index value) = index
table_index (Sub index value) = index
table_index (And index value) = index
table_index (Or index value) = index
table_index (Exchange index expect value) = index

-- what the word is after the access, by what it was before
abbrev pub made_of : Access → ℕ → ℕ
made_of (Load index) found = found
made_of (Store index value) found = value
made_of (Swap index value) found = value
made_of (Add index value) found = (found + value) % 2 ^ 64
made_of (Sub index value) found = (found + (2 ^ 64 - value)) % 2 ^ 64
made_of (And index value) found = bit_and found value
made_of (Or index value) found = bit_or found value
made_of (Exchange index expect value) found = if found == expect then value else found

-- what whoever made the access is told: the word before it
abbrev pub got_of : Access → ℕ → ℕ
got_of access found = found

-- an access as its kind, its place, what it writes and what it expects
abbrev pub access_numbers : Access → List ℕ
access_numbers (Load index) = 0 ∷ index ∷ 0 ∷ 0 ∷ []
access_numbers (Store index value) = 1 ∷ index ∷ value ∷ 0 ∷ []
access_numbers (Swap index value) = 2 ∷ index ∷ value ∷ 0 ∷ []
access_numbers (Add index value) = 3 ∷ index ∷ value ∷ 0 ∷ []
access_numbers (Sub index value) = 4 ∷ index ∷ value ∷ 0 ∷ []
access_numbers (And index value) = 5 ∷ index ∷ value ∷ 0 ∷ []
access_numbers (Or index value) = 6 ∷ index ∷ value ∷ 0 ∷ []
access_numbers (Exchange index expect value) = 7 ∷ index ∷ value ∷ expect ∷ []

-- whether two accesses are one
abbrev pub same_access : Access → Access → Bool
same_access = on access_numbers (pointwise ◌==◌)
