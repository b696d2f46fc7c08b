-- What is said of a history that somebody claims, and of a body that is to answer for it.
use Rattle.std.specs.Prelude.{ℕ, ◌≡◌, ◌-◌, ◌^◌, ◌<◌, All, List, length, Some, slice_get, take}
use Rattle.heap_words.specs.declared.config.Config.{Config}
use Rattle.shen_graph.specs.declared.command.Command.{Command}
use Rattle.shen_graph.specs.declared.command.Reply.TheVariants as reply
use Rattle.shen_graph.specs.Valid.{IsValid}
use Rattle.shen_graph.specs.Graph.{Graph, opening}
use Rattle.shen_graph.specs.Step.{IsLegal}
use Rattle.shen_graph.specs.History.{Entry, after, after_entry, of_thread, script_of, Follows}
use Rattle.shen_graph.specs.Crowd.{IsCrowded, IsLegalHistory}
use Rattle.trace_text.specs.Answer.{IsAnswerText}
use Rattle.shen_check.specs.declared.verdict.Verdict.{Verdict}
use Rattle.shen_check.specs.declared.verdict.Verdict.TheVariants.{Yes, Entry as NoEntry, Script, Text}

-- the graph after these entries, from the opening of as many threads as there are scripts
abbrev pub graph_after : List (List Command) → List Entry → Graph
graph_after scripts before = after (opening (length scripts)) before

-- An entry that may follow these: its command is the next of its thread's script, its reply is legal after them, and if it
-- was refused, it was crowded out.
pub record MayFollow (config : Config) (scripts : List (List Command)) (before : List Entry) (entry : Entry) : Type 0 where
  pub next : slice_get (script_of scripts entry.thread) (length (of_thread before entry.thread)) ≡ Some entry.command
  pub legal : IsLegal config.regions config.region_words (graph_after scripts before) entry.thread entry.command entry.reply (after_entry (graph_after scripts before) entry)
  pub crowded : entry.reply ≡ reply.Full → IsCrowded config.regions config.region_words (opening (length scripts)) scripts before entry

-- each of so many entries, from the first on, may follow those before it
abbrev pub FollowUpTo : Config → List (List Command) → List Entry → ℕ → Type 0
FollowUpTo config scripts history count = (index : ℕ) (entry : Entry) → index < count → slice_get history index ≡ Some entry → MayFollow config scripts (take index history) entry

-- all may
abbrev pub AllFollow : Config → List (List Command) → List Entry → Type 0
AllFollow config scripts history = FollowUpTo config scripts history (length history)

-- the thread, counted from 1, has commands left
abbrev pub HasLeft : List (List Command) → List Entry → ℕ → Type 0
HasLeft scripts history thread = length (of_thread history thread) < length (script_of scripts thread)

-- The entry at this place, counted from 0, is the first that may not follow those before it.
pub record IsFirstWrong (config : Config) (scripts : List (List Command)) (history : List Entry) (place : ℕ) : Type 0 where
  pub entry : Entry
  pub there : slice_get history place ≡ Some entry
  pub before : FollowUpTo config scripts history place
  pub wrong : MayFollow config scripts (take place history) entry → ⊥

-- All entries may follow, and this thread is the first that has a command left.
pub record IsFirstLeft (config : Config) (scripts : List (List Command)) (history : List Entry) (thread : ℕ) : Type 0 where
  pub follow : AllFollow config scripts history
  pub left : HasLeft scripts history thread
  pub before : (t : ℕ) → t < thread → HasLeft scripts history t → ⊥

-- All entries may follow, no command is left, and the body is not what answers for them.
pub record IsOtherText (version : ℕ) (config : Config) (scripts : List (List Command)) (history : List Entry) (body : List ℕ) : Type 0 where
  pub follow : AllFollow config scripts history
  pub none_left : (t : ℕ) → HasLeft scripts history t → ⊥
  pub other : IsAnswerText version (length scripts) history body → ⊥

-- The history is one that a heap may have for these scripts, whole, and the body answers for it.
pub record IsRight (version : ℕ) (config : Config) (scripts : List (List Command)) (history : List Entry) (body : List ℕ) : Type 0 where
  pub legal : IsLegalHistory config.regions config.region_words scripts history
  pub follows : Follows scripts history
  pub text : IsAnswerText version (length scripts) history body

-- when a verdict is the one
abbrev pub IsVerdict : (version : ℕ) → Config → List (List Command) → List Entry → List ℕ → Verdict → Type 0
IsVerdict version config scripts history body Yes = IsRight version config scripts history body
IsVerdict version config scripts history body (NoEntry place) = IsFirstWrong config scripts history place
IsVerdict version config scripts history body (Script thread) = IsFirstLeft config scripts history thread
IsVerdict version config scripts history body Text = IsOtherText version config scripts history body

-- What a judge asks of a trace: a script for each of its threads, of commands in range, each with fewer commands than there are
-- numbers for names.
pub record CanBeJudged (config : Config) (scripts : List (List Command)) : Type 0 where
  pub count : length scripts ≡ config.mutators
  pub valid : All (λ script. All IsValid script) scripts
  pub few : All (λ script. length script < 2 ^ 32 - 1) scripts
