-- Histories: the commands of all threads in one order, each with its reply.
use Rattle.std.specs.Prelude.{ℕ, zero, suc, ◌≡◌, ◌≢◌, ◌==◌, List, [], ◌∷◌, filter, map, slice_index_or, Bool, true, false, if◌then◌else◌, All}
use Rattle.shen_graph.specs.declared.command.Command.{Command}
use Rattle.shen_graph.specs.declared.command.Command.TheVariants.{Pin}
use Rattle.shen_graph.specs.declared.command.Reply.{Reply}
use Rattle.shen_graph.specs.declared.command.Reply.TheVariants as reply
use Rattle.shen_graph.specs.Graph.{Graph}
use Rattle.shen_graph.specs.Step.{IsLegal, outcome, pinned_by, with_pinned}

-- a thread's command, and what it was answered
pub record Entry : Type 0 where
  pub thread : ℕ
  pub command : Command
  pub reply : Reply

abbrev pub is_full : Reply → Bool
is_full reply.Full = true
is_full _ = false

-- the graph after a command of a thread that was not refused
abbrev pub after_reply : Graph → ℕ → Command → Reply → Graph
after_reply graph thread (Pin slot obj) (reply.At place) = with_pinned graph thread slot (pinned_by graph thread (Pin slot obj)) place
after_reply graph thread command answer = (outcome graph thread command).graph

-- the graph after an entry
abbrev pub after_entry : Graph → Entry → Graph
after_entry graph entry = if is_full entry.reply then graph else after_reply graph entry.thread entry.command entry.reply

-- the graph after these entries, in order
abbrev pub after : Graph → List Entry → Graph
after graph [] = graph
after graph (entry ∷ entries) = after (after_entry graph entry) entries

-- each entry is legal, in a heap of so many regions of so many words, in the graph after the entries before it
abbrev pub EachIsLegal : (regions region_words : ℕ) → Graph → List Entry → Type 0
EachIsLegal regions region_words graph [] = Unit {0}
EachIsLegal regions region_words graph (entry ∷ entries) =
    IsLegal regions region_words graph entry.thread entry.command entry.reply (after_entry graph entry) × EachIsLegal regions region_words (after_entry graph entry) entries

-- the entries of one thread, in their order
abbrev pub of_thread : List Entry → ℕ → List Entry
of_thread history thread = filter (λ e. e.thread == thread) history

abbrev pub commands_of : List Entry → List Command
commands_of entries = map (λ e. e.command) entries

abbrev pub replies_of : List Entry → List Reply
replies_of entries = map (λ e. e.reply) entries

-- no allocation was refused
abbrev pub IsWithoutFull : List Entry → Type 0
IsWithoutFull history = All (λ e. e.reply ≢ reply.Full) history

-- the script of a thread, counted from 1. A thread that has none runs nothing
abbrev pub script_of : List (List Command) → ℕ → List Command
script_of scripts zero = []
script_of scripts (suc thread) = slice_index_or scripts thread []

-- the commands of each thread are its script, whole and in order
abbrev pub Follows : List (List Command) → List Entry → Type 0
Follows scripts history = (thread : ℕ) → commands_of (of_thread history thread) ≡ script_of scripts thread
