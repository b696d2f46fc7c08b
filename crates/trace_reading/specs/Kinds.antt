-- The kinds of commands, as a reader tells them apart.
use Rattle.std.specs.Prelude.{ℕ, ◌≤◌, List, [], ◌∷◌, ◌++◌, codes, slice_index, nat_lt, if◌then◌else◌}
use Rattle.shen_graph.specs.declared.command.Command.{Command}
use Rattle.shen_graph.specs.declared.command.Command.TheVariants as command
use Rattle.trace_reading.specs.declared.kind.CommandKind.{CommandKind}
use Rattle.trace_reading.specs.declared.kind.CommandKind.TheVariants.{New, Get, Set, Cas, Xchg, Rd, Wr, Copy, Drop, Same, Gc, Pin, Unpin}

-- the kinds of version 1, and those that joined in version 2
abbrev pub first_kinds : List CommandKind
first_kinds = New ∷ Get ∷ Set ∷ Cas ∷ Xchg ∷ Rd ∷ Wr ∷ Copy ∷ Drop ∷ Same ∷ Gc ∷ []

abbrev pub later_kinds : List CommandKind
later_kinds = Pin ∷ Unpin ∷ []

-- the kinds of a version
abbrev pub kinds : ℕ → List CommandKind
kinds version = if nat_lt version 2 then first_kinds else first_kinds ++ later_kinds

-- the word of a kind
abbrev pub word : CommandKind → List ℕ
word New = codes "new"
word Get = codes "get"
word Set = codes "set"
word Cas = codes "cas"
word Xchg = codes "xchg"
word Rd = codes "rd"
word Wr = codes "wr"
word Copy = codes "copy"
word Drop = codes "drop"
word Same = codes "same"
word Gc = codes "gc"
word Pin = codes "pin"
word Unpin = codes "unpin"

-- the largest numbers that may follow: of roots 15, of sizes 16, of fields and indexes 31, of slots 3
abbrev pub limits : CommandKind → List ℕ
limits New = 15 ∷ 16 ∷ 16 ∷ []
limits Get = 15 ∷ 15 ∷ 31 ∷ []
limits Set = 15 ∷ 31 ∷ 15 ∷ []
limits Cas = 15 ∷ 31 ∷ 15 ∷ 15 ∷ []
limits Xchg = 15 ∷ 15 ∷ 31 ∷ 15 ∷ []
limits Rd = 15 ∷ 31 ∷ []
limits Wr = 15 ∷ 31 ∷ 18446744073709551615 ∷ []
limits Copy = 15 ∷ 15 ∷ []
limits Drop = 15 ∷ []
limits Same = 15 ∷ 15 ∷ []
limits Gc = []
limits Pin = 3 ∷ 15 ∷ []
limits Unpin = 3 ∷ []

-- the command of a kind with these numbers
abbrev pub command_from : CommandKind → List ℕ → Command
command_from New numbers = command.New (slice_index numbers 0) (slice_index numbers 1) (slice_index numbers 2)
command_from Get numbers = command.Get (slice_index numbers 0) (slice_index numbers 1) (slice_index numbers 2)
command_from Set numbers = command.Set (slice_index numbers 0) (slice_index numbers 1) (slice_index numbers 2)
command_from Cas numbers = command.Cas (slice_index numbers 0) (slice_index numbers 1) (slice_index numbers 2) (slice_index numbers 3)
command_from Xchg numbers = command.Xchg (slice_index numbers 0) (slice_index numbers 1) (slice_index numbers 2) (slice_index numbers 3)
command_from Rd numbers = command.Rd (slice_index numbers 0) (slice_index numbers 1)
command_from Wr numbers = command.Wr (slice_index numbers 0) (slice_index numbers 1) (slice_index numbers 2)
command_from Copy numbers = command.Copy (slice_index numbers 0) (slice_index numbers 1)
command_from Drop numbers = command.Drop (slice_index numbers 0)
command_from Same numbers = command.Same (slice_index numbers 0) (slice_index numbers 1)
command_from Gc numbers = command.Gc
command_from Pin numbers = command.Pin (slice_index numbers 0) (slice_index numbers 1)
command_from Unpin numbers = command.Unpin (slice_index numbers 0)

-- these numbers are within these limits
abbrev pub AreWithinLimits : List ℕ → List ℕ → Type 0
AreWithinLimits [] [] = Unit {0}
AreWithinLimits [] (number ∷ later_numbers) = ⊥
AreWithinLimits (limit ∷ limits) [] = ⊥
AreWithinLimits (limit ∷ limits) (number ∷ later_numbers) = (number ≤ limit) × AreWithinLimits limits later_numbers

-- the first of these numbers are within the limits of the kind
abbrev pub Suit : CommandKind → List ℕ → Type 0
Suit New numbers = (slice_index numbers 0 ≤ 15) × (slice_index numbers 1 ≤ 16) × (slice_index numbers 2 ≤ 16)
Suit Get numbers = (slice_index numbers 0 ≤ 15) × (slice_index numbers 1 ≤ 15) × (slice_index numbers 2 ≤ 31)
Suit Set numbers = (slice_index numbers 0 ≤ 15) × (slice_index numbers 1 ≤ 31) × (slice_index numbers 2 ≤ 15)
Suit Cas numbers = (slice_index numbers 0 ≤ 15) × (slice_index numbers 1 ≤ 31) × (slice_index numbers 2 ≤ 15) × (slice_index numbers 3 ≤ 15)
Suit Xchg numbers = (slice_index numbers 0 ≤ 15) × (slice_index numbers 1 ≤ 15) × (slice_index numbers 2 ≤ 31) × (slice_index numbers 3 ≤ 15)
Suit Rd numbers = (slice_index numbers 0 ≤ 15) × (slice_index numbers 1 ≤ 31)
Suit Wr numbers = (slice_index numbers 0 ≤ 15) × (slice_index numbers 1 ≤ 31)
Suit Copy numbers = (slice_index numbers 0 ≤ 15) × (slice_index numbers 1 ≤ 15)
Suit Drop numbers = slice_index numbers 0 ≤ 15
Suit Same numbers = (slice_index numbers 0 ≤ 15) × (slice_index numbers 1 ≤ 15)
Suit Gc numbers = Unit {0}
Suit Pin numbers = (slice_index numbers 0 ≤ 3) × (slice_index numbers 1 ≤ 15)
Suit Unpin numbers = slice_index numbers 0 ≤ 3

-- a command of the kind is on a field or a number of an object
abbrev pub IsOnObject : CommandKind → Type 0
IsOnObject New = ⊥
IsOnObject Get = Unit {0}
IsOnObject Set = Unit {0}
IsOnObject Cas = Unit {0}
IsOnObject Xchg = Unit {0}
IsOnObject Rd = Unit {0}
IsOnObject Wr = Unit {0}
IsOnObject Copy = ⊥
IsOnObject Drop = ⊥
IsOnObject Same = ⊥
IsOnObject Gc = ⊥
IsOnObject Pin = ⊥
IsOnObject Unpin = ⊥
