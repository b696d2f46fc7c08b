-- The parts of a command that the steps of its call need.
use Rattle.std.specs.Prelude.{ℕ, ◌==◌, Bool, true, false, not, ◌&&◌, nat_lt, List, [], ◌∷◌, slice_index}
use Rattle.heap_words.specs.Encoding.{refs_in, nums_in}
use Rattle.shen_graph.specs.declared.command.Command.{Command}
use Rattle.shen_graph.specs.declared.command.Command.TheVariants.{New, Get, Set, Cas, Xchg, Rd, Wr, Copy, Drop, Same, Pin}
use Rattle.shen_graph.specs.declared.command.Reply.{Reply}
use Rattle.shen_graph.specs.declared.command.Reply.TheVariants as reply

-- the roots that a command loads, in this order; for a command on an object that of the object comes first
abbrev pub command_roots : Command → List ℕ
command_roots (Get dst src field) = src ∷ []
command_roots (Set obj field val) = obj ∷ val ∷ []
command_roots (Cas obj field expect val) = obj ∷ expect ∷ val ∷ []
command_roots (Xchg dst obj field val) = obj ∷ val ∷ []
command_roots (Rd obj index) = obj ∷ []
command_roots (Wr obj index value) = obj ∷ []
command_roots (Copy dst src) = src ∷ []
command_roots (Same root other_root) = root ∷ other_root ∷ []
command_roots (Pin slot obj) = obj ∷ []
command_roots _ = []

abbrev pub command_root : Command → ℕ → ℕ
command_root command index = slice_index (command_roots command) index

-- the root that a command changes, if it changes one
abbrev pub dst_of : Command → ℕ
dst_of (New dst refs nums) = dst
dst_of (Get dst src field) = dst
dst_of (Xchg dst obj field val) = dst
dst_of (Copy dst src) = dst
dst_of (Drop dst) = dst
dst_of _ = 0

-- the reference field or the number that it is about, if it is about one
abbrev pub index_of : Command → ℕ
index_of (Get dst src field) = field
index_of (Set obj field val) = field
index_of (Cas obj field expect val) = field
index_of (Xchg dst obj field val) = field
index_of (Rd obj index) = index
index_of (Wr obj index value) = index
index_of _ = 0

-- the number that it stores, if it stores one
abbrev pub stored_number : Command → ℕ
stored_number (Wr obj index value) = value
stored_number _ = 0

-- how many references and numbers the object has that it makes, if it makes one
abbrev pub refs_of : Command → ℕ
refs_of (New dst refs nums) = refs
refs_of _ = 0

abbrev pub nums_of : Command → ℕ
nums_of (New dst refs nums) = nums
nums_of _ = 0

-- whether a command works on the object of a root
abbrev pub is_on_object : Command → Bool
is_on_object (Get dst src field) = true
is_on_object (Set obj field val) = true
is_on_object (Cas obj field expect val) = true
is_on_object (Xchg dst obj field val) = true
is_on_object (Rd obj index) = true
is_on_object (Wr obj index value) = true
is_on_object (Pin slot obj) = true
is_on_object _ = false

-- whether a command goes on that has found this word in its pin slot: a Pin where it is empty, an Unpin where not
abbrev pub fits_slot : Command → ℕ → Bool
fits_slot (Pin slot obj) found = found == 0
fits_slot _ found = not (found == 0)

-- the reply of a command that stores this reference into its slot: the place of the object, or that it is done
abbrev pub pin_reply : Command → ℕ → Reply
pin_reply (Pin slot obj) value = reply.At value
pin_reply _ value = reply.Ok

-- whether there is nothing that the command works on: the object's root is null
abbrev pub lacks_object : Command → ℕ → Bool
lacks_object command first = is_on_object command && (first == 0)

-- whether an object of this shape word has the field or the number that the command is about
abbrev pub has_part : Command → ℕ → Bool
has_part (Get dst src field) shape = nat_lt field (refs_in shape)
has_part (Set obj field val) shape = nat_lt field (refs_in shape)
has_part (Cas obj field expect val) shape = nat_lt field (refs_in shape)
has_part (Xchg dst obj field val) shape = nat_lt field (refs_in shape)
has_part (Rd obj index) shape = nat_lt index (nums_in shape)
has_part (Wr obj index value) shape = nat_lt index (nums_in shape)
has_part _ shape = false
