-- What is in memory while a history is judged.
use Rattle.std.specs.Prelude.{ℕ, ◌≡◌, ◌+◌, ◌-◌, ◌*◌, ◌/◌, ◌<◌, ◌≤◌, ◌==◌, List, [], ◌∷◌, ◌++◌, fold, map, length, Option, Some, None, slice_index_or, sum_by, if◌then◌else◌}
use Rattle.std.specs.List.{range_with_len, flat_map, list_any}
use Rattle.heap_words.specs.declared.config.Config.{Config}
use Rattle.shen_graph.specs.declared.command.Command.{Command}
use Rattle.shen_graph.specs.declared.name.Name.{Name}
use Rattle.shen_graph.specs.declared.pin.Pinned.{Pinned}
use Rattle.shen_graph.specs.Graph.{Graph, named}
use Rattle.shen_graph.specs.declared.command.Reply.TheVariants as reply
use Rattle.shen_graph.specs.Step.{IsLegal}
use Rattle.shen_graph.specs.History.{Entry, after_entry, of_thread}
use Rattle.shen_graph.specs.History as history
use Rattle.shen_graph.specs.Crowd.{words_asked, Held, PinnedRegions}
use Rattle.shen_graph.specs.PlainGraph.{Plain, graph_of, threads_of}
use Rattle.shen_graph.specs.Reach.{Live, size}
use Rattle.shen_graph.specs.Found.{with_names}
use Rattle.shen_graph.specs.Work.{Progress, HasScript, script_in, replies_of, next_of}
use Rattle.shen_check.specs.Judged.{graph_after}

-- the words that a mutator's next command asks for, where it is not that of the thread
abbrev pub words_beside : List (Option Progress) → ℕ → ℕ → ℕ
words_beside work thread mutator = if mutator + 1 == thread then 0 else words_asked (next_of work mutator)

-- the words that the next commands of the other threads ask for
abbrev pub words_waiting : List (Option Progress) → ℕ → ℕ → ℕ
words_waiting work threads thread = sum_by (words_beside work thread) (range_with_len 0 threads)

-- what a pin slot holds, if it holds something
abbrev pub slot_held : Option Pinned → List Pinned
slot_held None = []
slot_held (Some held) = held ∷ []

-- what the pin slots of so many threads hold, in their order
abbrev pub pins_held : Graph → ℕ → List Pinned
pins_held graph threads = flat_map (λ thread. flat_map (λ slot. slot_held (graph.pin thread slot)) (range_with_len 0 4)) (range_with_len 1 threads)

-- each object and each region of these once, in the order in which they come first
abbrev pub names_held : List Pinned → List Name
names_held held = with_names [] (map (λ p. Some p.name) held)

abbrev pub with_number : List ℕ → ℕ → List ℕ
with_number found number = if list_any (λ other_number. other_number == number) found then found else found ++ number ∷ []

abbrev pub regions_held : ℕ → List Pinned → List ℕ
regions_held region_words held = fold with_number [] (map (λ p. p.place / region_words) held)

-- what is pinned stands in the 4 slots of so many threads, counted from 1
abbrev pub HasPinsOf : ℕ → Graph → Type 0
HasPinsOf threads graph = (thread slot : ℕ) (held : Pinned) → graph.pin thread slot ≡ Some held → (1 ≤ thread) × (thread ≤ threads) × (slot < 4)

-- the words of these objects
abbrev pub words_held : Graph → List Name → ℕ
words_held graph names = sum_by (λ n. size (named graph (Some n))) names

-- What can be reached and is not pinned, and what others ask for, is so much that a command of the thread finds no region
-- without a pinned object that has room.
abbrev pub IsFullFor : Config → Graph → List (Option Progress) → ℕ → Command → Type 0
IsFullFor config graph work thread command =
    (live : ℕ) × (held : ℕ) × (pinned : ℕ) × Live graph live × Held graph held × PinnedRegions config.region_words graph pinned
    × ((config.regions - pinned) * (config.region_words - words_asked (Some command) + 1) ≤ live - held + words_waiting work config.mutators thread)

-- A command may be answered as an entry says: the reply is legal, and where it is Full the command finds no room.
pub record MayAnswer (config : Config) (graph : Graph) (work : List (Option Progress)) (entry : Entry) : Type 0 where
  pub legal : IsLegal config.regions config.region_words graph entry.thread entry.command entry.reply (after_entry graph entry)
  pub full : entry.reply ≡ reply.Full → IsFullFor config graph work entry.thread entry.command

-- Memory is as these entries have left it.
pub record HasJudged (scripts : List (List Command)) (before : List Entry) (graph : Plain) (work : List (Option Progress)) : Type 0 where
  pub graph_is : graph_of graph ≡ graph_after scripts before
  pub threads : threads_of graph ≡ length scripts
  pub has : (index : ℕ) → index < length scripts → HasScript work index
  pub script : (index : ℕ) → index < length scripts → script_in work index ≡ slice_index_or scripts index []
  pub replies : (index : ℕ) → index < length scripts → replies_of work index ≡ history.replies_of (of_thread before (index + 1))
  pub counts : (thread : ℕ) → (graph_of graph).count thread ≤ length (of_thread before thread)
  pub pins : HasPinsOf (length scripts) (graph_of graph)
