-- Which kinds of lines may stand behind the lines so far.
use Rattle.std.specs.Prelude.{◌-◌, ◌==◌, Bool, true, false, ◌&&◌, not, List, [], ◌∷◌, length, nat_lt, Option, Some, None, is_some, is_none, slice_get, if◌then◌else◌}
use Rattle.find_play.specs.declared.kind.LineKind.{LineKind}
use Rattle.find_play.specs.declared.kind.LineKind.TheVariants as line
use Rattle.find_play.specs.Told.{Told}
use Rattle.find_play.specs.declared.draft.Block.{Block}
use Rattle.find_play.specs.declared.draft.Block.TheVariants as block

-- a thread has begun, and nothing is claimed yet
abbrev pub is_in_thread : Told → Bool
is_in_thread told = not (length told.programs == 0) && (length told.claims == 0)

-- all threads have begun, no block is open, and the bounds are given
abbrev pub has_all_threads : Told → Bool
has_all_threads told = (length told.programs == told.threads) && (length told.blocks == 0) && is_some told.bounds

-- another thread may begin
abbrev pub may_begin_thread : Told → Bool
may_begin_thread told = is_some told.bounds && (length told.claims == 0) && (length told.blocks == 0) && nat_lt (length told.programs) told.threads

-- the block is a loop
abbrev pub is_loop : Block → Bool
is_loop (block.Loop first) = true
is_loop _ = false

-- one of these blocks is a loop
unfoldable pub has_loop : List Block → Bool
has_loop [] = false
has_loop (open_block ∷ rest) = if is_loop open_block then true else has_loop rest

-- the innermost of the open blocks
abbrev pub innermost : Told → Option Block
innermost told = if length told.blocks == 0 then None else slice_get told.blocks (length told.blocks - 1)

-- it is the part of an `if` before an `else`
abbrev pub is_then : Option Block → Bool
is_then (Some block.Then) = true
is_then _ = false

-- a line of this kind may stand next
abbrev pub allows : Told → LineKind → Bool
allows told line.Bounds = is_none told.bounds
allows told line.Note = is_some told.bounds
allows told line.Place = is_some told.bounds
allows told line.Thread = may_begin_thread told
allows told line.Root = is_in_thread told && nat_lt (length told.roots) 16
allows told (line.Command kind) = is_in_thread told
allows told line.Keep = is_in_thread told
allows told line.Loop = is_in_thread told
allows told line.If = is_in_thread told
allows told line.Until = is_in_thread told && has_loop told.blocks
allows told line.Else = is_in_thread told && is_then (innermost told)
allows told line.End = is_in_thread told && not (length told.blocks == 0)
allows told line.Assert = has_all_threads told
allows told _ = not (length told.claims == 0)
