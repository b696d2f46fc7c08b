-- What is told of a run of the workload.
use Rattle.std.specs.Prelude.{ℕ, ◌≡◌, ◌+◌, Bool, true, false, List, ◌++◌, length, map, count_by, sum_by, Option}
use Rattle.shen_graph.specs.declared.name.Name.{Name}
use Rattle.shen_graph.specs.declared.command.Reply.{Reply}
use Rattle.shen_graph.specs.declared.command.Reply.TheVariants.{Number, Bad}
use Rattle.shen_graph.specs.Graph.{opening}
use Rattle.shen_graph.specs.History.{Entry, after, is_full}
use Rattle.shen_graph.specs.History as history
use Rattle.shen_graph.specs.Reach.{IsReach}
use Rattle.shen_graph.specs.GraphText.{Row, row_in}
use Rattle.shen_graph.specs.Work.{Progress, replies_of}
use Rattle.churn.specs.declared.summary.Summary.{Summary}

abbrev pub is_bad : Reply → Bool
is_bad Bad = true
is_bad _ = false

-- the number that a reply tells. The others tell none, and add nothing
abbrev pub number_summed : Reply → ℕ
number_summed (Number number) = number
number_summed _ = 0

-- the words of a row's object: header, shape, name, and one for each field and each number
abbrev pub row_words : Row → ℕ
row_words row = 3 + length row.refs + length row.nums

-- the summary of these replies of all threads and these objects
abbrev pub summary_of : (seed count : ℕ) → List Reply → List Row → Summary
summary_of seed count replies rows = record {
  seed = seed;
  count = count;
  commands = length replies;
  bad = count_by is_bad replies;
  full = count_by is_full replies;
  objects = length rows;
  words = sum_by row_words rows;
  sum = sum_by number_summed replies;
}

-- these replies come to those that were counted
abbrev pub with_replies : Summary → List Reply → Summary
with_replies summary replies = record summary {
  commands = summary.commands + length replies;
  bad = summary.bad + count_by is_bad replies;
  full = summary.full + count_by is_full replies;
  sum = summary.sum + sum_by number_summed replies;
}

-- and these objects
abbrev pub with_rows : Summary → List Row → Summary
with_rows summary rows = record summary { objects = summary.objects + length rows; words = summary.words + sum_by row_words rows }

-- the replies of the three threads, one thread after the other
abbrev pub all_replies : List (Option Progress) → List Reply
all_replies work = replies_of work 0 ++ (replies_of work 1 ++ replies_of work 2)

-- The summary of a history of the three threads: of all its replies, and of the objects that can be reached after it.
pub record IsSummary (seed count : ℕ) (entries : List Entry) (summary : Summary) : Type 0 where
  pub names : List Name
  pub reach : IsReach (after (opening 3) entries) names
  pub is : summary ≡ summary_of seed count (history.replies_of entries) (map (row_in (after (opening 3) entries)) names)
