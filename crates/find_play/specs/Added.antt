-- What a line adds to what the lines before it said.
use Rattle.std.specs.Prelude.{ℕ, ◌-◌, List, [], ◌∷◌, ◌++◌, codes, length, take, slice_set, slice_index_or, Option, Some}
use Rattle.shen_graph.specs.declared.command.Command.{Command}
use Rattle.shen_graph.specs.declared.command.Command.TheVariants as command
use Rattle.trace_reading.specs.declared.kind.CommandKind.{CommandKind}
use Rattle.trace_reading.specs.declared.kind.CommandKind.TheVariants as commands
use Rattle.trace_reading.specs.Kinds.{command_from}
use Rattle.find_play.specs.declared.claim.Claim.{Claim}
use Rattle.find_play.specs.declared.claim.Claim.TheVariants as claim
use Rattle.find_play.specs.declared.statement.Statement.{Statement}
use Rattle.find_play.specs.declared.statement.Statement.TheVariants as statement
use Rattle.find_play.specs.declared.test.Place.{Place}
use Rattle.find_play.specs.declared.wanted.Wanted.{Wanted}
use Rattle.find_play.specs.declared.wanted.Wanted.TheVariants as wanted
use Rattle.find_play.specs.declared.draft.Block.{Block}
use Rattle.find_play.specs.declared.draft.Block.TheVariants as block
use Rattle.find_play.specs.declared.kind.LineKind.{LineKind}
use Rattle.find_play.specs.declared.kind.LineKind.TheVariants as line
use Rattle.find_play.specs.declared.slot.Value.{Value}
use Rattle.find_play.specs.declared.slot.Value.TheVariants as value
use Rattle.find_play.specs.Told.{Told}
use Rattle.find_play.specs.Drafts.{innermost}

-- ---- values

-- the number of a root or a small one, another number, the number of a note or a place, and what a reply is asked to be
abbrev pub small_said : Value → ℕ
small_said (value.Small number) = number
small_said _ = 0

abbrev pub large_said : Value → ℕ
large_said (value.Large number) = number
large_said _ = 0

abbrev pub index_said : Value → ℕ
index_said (value.Index index) = index
index_said _ = 0

abbrev pub wanted_said : Value → Wanted
wanted_said (value.Wanted wanted_reply) = wanted_reply
wanted_said _ = wanted.Null

-- the value at this place, counted from 0
abbrev pub at : List Value → ℕ → Value
at values index = slice_index_or values index value.Nothing

-- ---- what is said

-- a command, whose numbers are small but that which is written
abbrev pub command_said : CommandKind → List Value → Command
command_said commands.Wr values = command.Wr (small_said (at values 0)) (small_said (at values 1)) (large_said (at values 2))
command_said kind values = command_from kind (small_said (at values 0) ∷ small_said (at values 1) ∷ small_said (at values 2) ∷ small_said (at values 3) ∷ [])

-- a line of what is claimed
abbrev pub claim_said : LineKind → List Value → Claim
claim_said line.Assert values = claim.Assert
claim_said line.Is values = claim.Is (wanted_said (at values 0)) (index_said (at values 1))
claim_said line.Isnt values = claim.Isnt (wanted_said (at values 0)) (index_said (at values 1))
claim_said line.Never values = claim.Never (wanted_said (at values 0))
claim_said line.Count values = claim.Count (wanted_said (at values 0)) (large_said (at values 1))
claim_said line.Alike values = claim.Alike (index_said (at values 0)) (index_said (at values 1))
claim_said line.Differ values = claim.Differ (index_said (at values 0)) (index_said (at values 1))
claim_said line.Number values = claim.Number (index_said (at values 0)) (small_said (at values 1)) (large_said (at values 2))
claim_said line.Null values = claim.Null (index_said (at values 0))
claim_said line.Chain values = claim.Chain (index_said (at values 0)) (small_said (at values 1)) (large_said (at values 2))
claim_said line.One values = claim.Same (index_said (at values 0)) (index_said (at values 1))
claim_said _ values = claim.Or

-- ---- programs and their blocks

-- the program of the thread that began last
abbrev pub last_program : Told → List Statement
last_program told = slice_index_or told.programs (length told.programs - 1) []

-- that thread does this, too
abbrev pub does : Told → Statement → Told
does told added_statement = record told { programs = slice_set told.programs (length told.programs - 1) (last_program told ++ added_statement ∷ []) }

-- a block begins, or the innermost ends
abbrev pub with_block : Told → Block → Told
with_block told begun = record told { blocks = told.blocks ++ begun ∷ [] }

abbrev pub without_block : Told → Told
without_block told = record told { blocks = take (length told.blocks - 1) told.blocks }

-- the end of a block: a loop goes back to its first statement
abbrev pub block_end : Option Block → Statement
block_end (Some (block.Loop first)) = statement.Again first
block_end _ = statement.End

-- ---- lines

-- this is claimed, too
abbrev pub claiming : Told → Claim → Told
claiming told added_claim = record told { claims = told.claims ++ added_claim ∷ [] }

-- a place has this name, and is there
abbrev pub placing : Told → List ℕ → Place → Told
placing told name place = record told { place_names = told.place_names ++ name ∷ []; places = told.places ++ place ∷ [] }

-- What a line of a program, or of what is claimed, adds with these values. A loop's first statement is the one behind its `loop`, and
-- the number of that is how many statements the program has then.
abbrev pub stated : Told → LineKind → List Value → Told
stated told (line.Command kind) values = does told (statement.Run (command_said kind values))
stated told line.Keep values = does told (statement.Keep (index_said (at values 0)))
stated told line.Loop values = with_block (does told statement.Loop) (block.Loop (length (last_program (does told statement.Loop))))
stated told line.Until values = does told (statement.Until (wanted_said (at values 0)))
stated told line.If values = with_block (does told (statement.If (wanted_said (at values 0)))) block.Then
stated told line.Else values = with_block (without_block (does told statement.Else)) block.Else
stated told line.End values = does (without_block told) (block_end (innermost told))
stated told kind values = claiming told (claim_said kind values)

-- What a line of any kind adds with these values. Some give this name.
abbrev pub added : Told → LineKind → List Value → List ℕ → Told
added told line.Bounds values name = record told { bounds = Some (record { preemptions = large_said (at values 0); steps = large_said (at values 1); returns = large_said (at values 2) }) }
added told line.Note values name = record told { notes = told.notes ++ name ∷ [] }
added told line.Place values name = placing told name (record { from = index_said (at values 1); field = small_said (at values 2) })
added told line.Thread values name = record told { roots = codes "hub" ∷ []; programs = told.programs ++ [] ∷ [] }
added told line.Root values name = record told { roots = told.roots ++ name ∷ [] }
added told kind values name = stated told kind values
