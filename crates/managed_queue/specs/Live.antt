-- How much is live.
use Rattle.std.specs.Prelude.{ℕ, ◌+◌, ◌*◌, ◌≤◌, List, [], ◌∷◌, if◌then◌else◌}
use Rattle.shen_graph.specs.declared.command.Command.{Command}
use Rattle.shen_graph.specs.declared.command.Command.TheVariants.{New}
use Rattle.shen_graph.specs.Graph.{opening}
use Rattle.shen_graph.specs.History.{Entry, after, is_full}
use Rattle.shen_graph.specs.Reach.{Live}
use Rattle.managed_queue.specs.Queue.{ArePlayed}

abbrev pub made_by : Command → ℕ
made_by (New dst refs nums) = 1
made_by _ = 0

-- how many allocations were not refused
abbrev pub makings : List Entry → ℕ
makings [] = 0
makings (entry ∷ entries) = (if is_full entry.reply then 0 else made_by entry.command) + makings entries

-- The hub has 19 words, and each object of the queue 5 at most.
abbrev pub FewAreLive : Type 0
FewAreLive = (threads words : ℕ) (history : List Entry) → ArePlayed history → Live (after (opening threads) history) words → words ≤ 19 + 5 * makings history
