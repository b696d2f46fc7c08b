-- Histories whose graph has a dump, and how many objects their threads made.
use Rattle.std.specs.Prelude.{ℕ, ◌≤◌, ◌==◌, ◌&&◌, Bool, true, false, List, map, All, count_by}
use Rattle.std.specs.List.{range_with_len}
use Rattle.heap_words.specs.declared.config.Config.{Config}
use Rattle.shen_graph.specs.declared.command.Command.{Command}
use Rattle.shen_graph.specs.declared.command.Command.TheVariants.{New}
use Rattle.shen_graph.specs.declared.command.Reply.{Reply}
use Rattle.shen_graph.specs.declared.command.Reply.TheVariants.{Ref}
use Rattle.shen_graph.specs.Graph.{opening}
use Rattle.shen_graph.specs.History.{Entry, EachIsLegal}
use Rattle.shen_graph.specs.Valid.{IsValid, FitsValue}
use Rattle.heap_dump.specs.Dumped.{most_made}

abbrev pub is_allocation : Command → Bool
is_allocation (New dst refs nums) = true
is_allocation _ = false

abbrev pub is_name_reply : Reply → Bool
is_name_reply (Ref name) = true
is_name_reply _ = false

-- an allocation of this thread that was answered a name
abbrev pub has_made : ℕ → Entry → Bool
has_made thread entry = (entry.thread == thread) && (is_allocation entry.command && is_name_reply entry.reply)

-- how many objects a thread made: how many of its allocations were answered a name
abbrev pub objects_made : List Entry → ℕ → ℕ
objects_made history thread = count_by (has_made thread) history

-- of each of so many threads, that of thread 1 first
abbrev pub objects_made_by_each : List Entry → ℕ → List ℕ
objects_made_by_each history threads = map (objects_made history) (range_with_len 1 threads)

-- an entry of one of so many threads, whose command is in range
pub record IsEntryInRange (threads : ℕ) (entry : Entry) : Type 0 where
  pub from_first : 1 ≤ entry.thread
  pub to_last : entry.thread ≤ threads
  pub valid : IsValid entry.command
  pub fits : FitsValue entry.command

-- A legal history of the threads of a heap from the opening on, whose commands are in range, and in which no thread made too many
-- objects for a dump.
pub record IsDumpable (config : Config) (history : List Entry) : Type 0 where
  pub each : EachIsLegal config.regions config.region_words (opening config.mutators) history
  pub entries : All (IsEntryInRange config.mutators) history
  pub few : (thread : ℕ) → objects_made history thread ≤ most_made
