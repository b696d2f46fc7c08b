-- The machines of a heap, as its events see them.
use Rattle.std.specs.Prelude.{ℕ, ◌+◌, List, [], ◌∷◌, Option, Some, None}
use Rattle.shen_graph.specs.declared.command.Command.{Command}
use Rattle.shen_graph.specs.declared.command.Reply.{Reply}
use Rattle.shen_graph.specs.declared.order.Order.{Order}
use Rattle.shen_graph.specs.declared.order.Order.TheVariants.{Nothing, Begin, End, Hint}
use Rattle.shen_graph.specs.History.{Entry}
use Rattle.mutator.specs.Rows.{Mutating}
use Rattle.collector_rows.specs.HelperRows as helpers
use Rattle.collector_rows.specs.HelperRows.{Helping}
use Rattle.collector_rows.specs.declared.control_spot.ControlSpot.TheVariants.{LookLeft}
use Rattle.collector_rows.specs.ControlRows.{Controlling}
use Rattle.heap_words.specs.Phases.{idle_phase}

-- what memory keeps of a machine, by its role
pub data Machine : Type 0 where
  mutating : Mutating → Machine
  helping : Helping → Machine
  controlling : Controlling → Machine

-- A machine with what memory does not keep: the command of its last call, ended or not, and the calls that it has ended
-- with their replies.
pub record Actor : Type 0 where
  pub machine : Machine
  pub command : Command
  pub calls : List Entry

-- the helper of a seat as a heap begins with it
abbrev pub fresh_helper : ℕ → Machine
fresh_helper seat = helping (helpers.fresh_helper seat)

-- and a control that has seen this free word
abbrev pub fresh_control : ℕ → Machine
fresh_control free_word = controlling (record { spot = LookLeft; seen = free_word; phase = idle_phase; cset = 0; image = []; hints = 0 })

-- the entry of a command of a seat, once its reply is settled
abbrev pub entry_of : ℕ → Command → Reply → Entry
entry_of seat command reply = record { thread = seat + 1; command = command; reply = reply }

-- the entries of a reply, where there is one
abbrev pub entries_of : ℕ → Command → Option Reply → List Entry
entries_of seat command None = []
entries_of seat command (Some reply) = entry_of seat command reply ∷ []

-- the command of the call after an order
abbrev pub command_by : Order → Command → Command
command_by Nothing command = command
command_by (Begin command) before = command
command_by End command = command
command_by (Hint address) command = command
