-- A history in memory.
use Rattle.std.specs.Prelude.{ℕ, List}
use Rattle.shen_graph.specs.declared.command.Command.{Command}
use Rattle.shen_graph.specs.declared.command.Reply.{Reply}
use Rattle.shen_graph.specs.declared.history.Entry as held
use Rattle.shen_graph.specs.History.{Entry}

-- the entry of a thread, counted from 1
abbrev pub entry : ℕ → Command → Reply → Entry
entry thread command reply = record { thread = thread; command = command; reply = reply }

-- an entry in memory
abbrev pub seen : held.Entry → Entry
seen held_entry = entry held_entry.thread held_entry.command held_entry.reply

-- its entries, in their order, and for how many more it has memory
pub record Noting : Type 0 where
  pub list : List Entry
  pub spare : ℕ
