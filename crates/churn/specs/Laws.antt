-- What all histories of the workload have in common.
use Rattle.std.specs.Prelude.{ℕ, ◌≡◌, ◌≢◌, ◌+◌, ◌*◌, ◌<◌, ◌≤◌, List, ◌++◌, length, map, sum_by, Option, All}
use Rattle.shen_graph.specs.declared.name.Name.{Name}
use Rattle.shen_graph.specs.declared.command.Reply.TheVariants as reply
use Rattle.shen_graph.specs.Graph.{opening}
use Rattle.shen_graph.specs.History.{Entry, after, of_thread, Follows, IsWithoutFull}
use Rattle.shen_graph.specs.History as history
use Rattle.shen_graph.specs.Crowd.{IsLegalHistory}
use Rattle.shen_graph.specs.Reach.{IsReach}
use Rattle.shen_graph.specs.GraphText.{Row, row_in}
use Rattle.shen_graph.specs.Work.{Progress, replies_of}
use Rattle.churn.specs.declared.summary.Summary.{Summary}
use Rattle.churn.specs.Script.{churn_scripts}
use Rattle.churn.specs.Summary.{IsSummary, all_replies, number_summed, row_words}

-- A history of the workload that a heap of 16 regions of 256 words may have.
pub record IsWorkloadRun (seed count : ℕ) (entries : List Entry) : Type 0 where
  pub follows : Follows (churn_scripts seed count) entries
  pub legal : IsLegalHistory 16 256 (churn_scripts seed count) entries

-- the entries of the first thread, then those of the second, then those of the third
abbrev pub in_turn : List Entry → List Entry
in_turn entries = of_thread entries 1 ++ (of_thread entries 2 ++ of_thread entries 3)

-- A run in which the whole script of thread 1 comes first, then that of thread 2, then that of thread 3, without Full.
pub record IsRunInTurn (seed count : ℕ) (entries : List Entry) : Type 0 where
  pub run : IsWorkloadRun seed count entries
  pub turns : entries ≡ in_turn entries
  pub no_full : IsWithoutFull entries

-- Two histories give each thread the same replies, and leave the same graph.
pub record TellTheSame (entries other_entries : List Entry) : Type 0 where
  pub threads : (thread : ℕ) → of_thread entries thread ≡ of_thread other_entries thread
  pub graph : after (opening 3) entries ≡ after (opening 3) other_entries

-- What is in memory after a run: the replies of each thread, and a row for each object that can be reached.
pub record TellsRun (entries : List Entry) (work : List (Option Progress)) (rows : List Row) : Type 0 where
  pub names : List Name
  pub replies : (mutator : ℕ) → mutator < 3 → replies_of work mutator ≡ history.replies_of (of_thread entries (mutator + 1))
  pub reach : IsReach (after (opening 3) entries) names
  pub objects : rows ≡ map (row_in (after (opening 3) entries)) names

-- The summary is that of the run in which the threads run one after the other.
pub record SumsUpTurns (seed count : ℕ) (s : Summary) : Type 0 where
  pub entries : List Entry
  pub run : IsRunInTurn seed count entries
  pub summary : IsSummary seed count entries s

-- It is, if these replies and rows are what some run tells.
abbrev pub SumsUpRuns : (seed count : ℕ) → List (Option Progress) → List Row → Summary → Type 0
SumsUpRuns seed count work rows summary = (entries : List Entry) → IsWorkloadRun seed count entries → TellsRun entries work rows → SumsUpTurns seed count summary

-- No allocation of a run is refused.
abbrev pub NoneIsFull : Type 0
NoneIsFull = (seed count : ℕ) (entries : List Entry) → IsWorkloadRun seed count entries → IsWithoutFull entries

-- No command of a run is answered Bad.
abbrev pub NoneIsBad : Type 0
NoneIsBad = (seed count : ℕ) (entries : List Entry) → IsWorkloadRun seed count entries → All (λ e. e.reply ≢ reply.Bad) entries

-- Each run tells the same as the run of its entries thread by thread.
abbrev pub RunsAreInTurn : Type 0
RunsAreInTurn = (seed count : ℕ) (entries : List Entry) → IsWorkloadRun seed count entries → IsRunInTurn seed count (in_turn entries) × TellTheSame entries (in_turn entries)

-- There is a run thread by thread, and it is the only one.

abbrev pub ThereIsOneInTurn : Type 0
ThereIsOneInTurn = (seed count : ℕ) → (entries : List Entry) × IsRunInTurn seed count entries

abbrev pub OneInTurn : Type 0
OneInTurn = (seed count : ℕ) (entries other_entries : List Entry) → IsRunInTurn seed count entries → IsRunInTurn seed count other_entries → entries ≡ other_entries

-- So a seed and a count have one summary.
abbrev pub OneSummary : Type 0
OneSummary = (seed count : ℕ) (summary other_summary : Summary) → SumsUpTurns seed count summary → SumsUpTurns seed count other_summary → summary ≡ other_summary

-- What a run tells can be summed up: so many commands, and numbers that are not large.
pub record CanSumUp (seed count : ℕ) (work : List (Option Progress)) (rows : List Row) : Type 0 where
  pub commands : length (all_replies work) ≡ 6 + 24 * count
  pub sum : sum_by number_summed (all_replies work) ≤ (6 + 24 * count) * (seed + count)
  pub words : sum_by row_words rows ≤ 1159

abbrev pub RunsCanBeSummedUp : Type 0
RunsCanBeSummedUp = (seed count : ℕ) (entries : List Entry) (work : List (Option Progress)) (rows : List Row) → IsWorkloadRun seed count entries → TellsRun entries work rows → CanSumUp seed count work rows
