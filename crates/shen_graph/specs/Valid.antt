-- Which commands are in range.
use Rattle.std.specs.Prelude.{ℕ, ◌^◌, ◌<◌, ◌≤◌, Bool, true, ◌&&◌, nat_lt, nat_le}
use Rattle.shen_graph.specs.declared.command.Command.{Command}
use Rattle.shen_graph.specs.declared.command.Command.TheVariants.{New, Get, Set, Cas, Xchg, Rd, Wr, Copy, Drop, Same, Gc, Pin, Unpin}

-- a thread has 16 roots, numbered from 0
abbrev pub IsRoot : ℕ → Type 0
IsRoot root = root < 16

-- an object has at most 16 fields of a kind
abbrev pub IsSize : ℕ → Type 0
IsSize fields = fields ≤ 16

-- a command may name the fields 0 to 31, also where there is no such field
abbrev pub IsIndex : ℕ → Type 0
IsIndex index = index ≤ 31

-- a thread has 4 pin slots, numbered from 0
abbrev pub IsSlot : ℕ → Type 0
IsSlot slot = slot < 4

-- the roots, sizes, indexes and pin slots of a command are in range
abbrev pub IsValid : Command → Type 0
IsValid (New dst refs nums) = IsRoot dst × IsSize refs × IsSize nums
IsValid (Get dst src field) = IsRoot dst × IsRoot src × IsIndex field
IsValid (Set obj field val) = IsRoot obj × IsIndex field × IsRoot val
IsValid (Cas obj field expect val) = IsRoot obj × IsIndex field × IsRoot expect × IsRoot val
IsValid (Xchg dst obj field val) = IsRoot dst × IsRoot obj × IsIndex field × IsRoot val
IsValid (Rd obj index) = IsRoot obj × IsIndex index
IsValid (Wr obj index value) = IsRoot obj × IsIndex index
IsValid (Copy dst src) = IsRoot dst × IsRoot src
IsValid (Drop dst) = IsRoot dst
IsValid (Same root other_root) = IsRoot root × IsRoot other_root
IsValid Gc = Unit {0}
IsValid (Pin slot obj) = IsSlot slot × IsRoot obj
IsValid (Unpin slot) = IsSlot slot

-- a number that a command writes fits 64 bits, as each number of the code does
abbrev pub FitsValue : Command → Type 0
FitsValue (Wr obj index value) = value < 2 ^ 64
FitsValue _ = Unit {0}

-- the tests of these

abbrev pub is_root : ℕ → Bool
is_root root = nat_lt root 16

abbrev pub is_size : ℕ → Bool
is_size fields = nat_le fields 16

abbrev pub is_index : ℕ → Bool
is_index index = nat_le index 31

abbrev pub is_slot : ℕ → Bool
is_slot slot = nat_lt slot 4

-- `IsValid` as a test
abbrev pub is_valid : Command → Bool
is_valid (New dst refs nums) = is_root dst && (is_size refs && is_size nums)
is_valid (Get dst src field) = is_root dst && (is_root src && is_index field)
is_valid (Set obj field val) = is_root obj && (is_index field && is_root val)
is_valid (Cas obj field expect val) = is_root obj && (is_index field && (is_root expect && is_root val))
is_valid (Xchg dst obj field val) = is_root dst && (is_root obj && (is_index field && is_root val))
is_valid (Rd obj index) = is_root obj && is_index index
is_valid (Wr obj index value) = is_root obj && is_index index
is_valid (Copy dst src) = is_root dst && is_root src
is_valid (Drop dst) = is_root dst
is_valid (Same root other_root) = is_root root && is_root other_root
is_valid Gc = true
is_valid (Pin slot obj) = is_slot slot && is_root obj
is_valid (Unpin slot) = is_slot slot

-- `FitsValue` as a test
abbrev pub fits_value : Command → Bool
fits_value (Wr obj index value) = nat_lt value (2 ^ 64)
fits_value _ = true

-- a thread makes at most so many objects, whose numbers are 1 to this one
abbrev pub most_objects : ℕ
most_objects = 4294967295
