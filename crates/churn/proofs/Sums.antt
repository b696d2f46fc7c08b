-- What a run tells, summed up.
use Rattle.std.proofs.Common.{ℕ, ◌≡◌, ◌+◌, ◌*◌, ◌≤◌, List, [], ◌∷◌, ◌++◌, length, map, Option, Some, refl, ap, ◌∙◌, sym, subst, arith}
use Rattle.std.specs.Prelude.{sum_by}
use Rattle.std.proofs.lemmas.List.{length-map, map-append}
use Rattle.std.proofs.lemmas.List.Sums.{sum_by-cons}
use Rattle.shen_graph.specs.declared.name.Name.{Name}
use Rattle.shen_graph.specs.declared.command.Reply.{Reply}
use Rattle.shen_graph.specs.Graph.{Graph, named, opening}
use Rattle.shen_graph.specs.History.{Entry, after, of_thread}
use Rattle.shen_graph.specs.History as history
use Rattle.shen_graph.specs.GraphText.{Row, row_in}
use Rattle.shen_graph.specs.Reach.{IsReach, size}
use Rattle.shen_graph.specs.Work.{Progress}
use Rattle.churn.specs.Summary.{IsSummary, summary_of, all_replies, number_summed, row_words}
use Rattle.churn.specs.Laws.{in_turn, TellsRun, SumsUpRuns, OneSummary, RunsCanBeSummedUp}
use Rattle.churn.proofs.Belongings.{Tidy, Same-itself}
use Rattle.churn.proofs.BelowTheHub.{solo}
use Rattle.churn.proofs.Opening.{tidy_opening, going_opening}
use Rattle.churn.proofs.Bounds.{few_live}
use Rattle.churn.proofs.OneReach.{one_reach}
use Rattle.churn.proofs.Numbers.{run_below, run_long}
use Rattle.churn.proofs.OneAfterAnother.{run_given, runs_are_in_turn, one_in_turn}

-- the replies of the three threads are those of the run thread by thread
replies_in_turn : (entries : List Entry) (work : List (Option Progress)) (rows : List Row) → TellsRun entries work rows → all_replies work ≡ history.replies_of (in_turn entries)
replies_in_turn entries work rows tells =
    let reply : Entry → Reply = λ entry. entry.reply in
    let first_replies = tells.replies 0 (omega arith) in
    let second_replies = tells.replies 1 (omega arith) in
    let third_replies = tells.replies 2 (omega arith) in
    rw (first_replies, second_replies, third_replies) (sym (map-append reply (of_thread entries 1) (of_thread entries 2 ++ of_thread entries 3) ∙ ap (λ later_replies. map reply (of_thread entries 1) ++ later_replies) (map-append reply (of_thread entries 2) (of_thread entries 3))))

pub sums_up : (seed count : ℕ) (work : List (Option Progress)) (rows : List Row) → SumsUpRuns seed count work rows (summary_of seed count (all_replies work) rows)
sums_up seed count work rows run_entries run tells =
    let turns = runs_are_in_turn seed count run_entries run in
    let same_graph = turns.1.graph in
    let end_graph = after (opening 3) (in_turn run_entries) in
    let rows_are : rows ≡ map (row_in end_graph) tells.names = tells.objects ∙ ap (λ (graph : Graph). map (row_in graph) tells.names) same_graph in
    record {
      entries = in_turn run_entries;
      run = turns.0;
      summary = record {
        names = tells.names;
        reach = subst (λ (graph : Graph). IsReach graph tells.names) same_graph tells.reach;
        is = ap (λ replies. summary_of seed count replies rows) (replies_in_turn run_entries work rows tells) ∙ ap (summary_of seed count (history.replies_of (in_turn run_entries))) rows_are;
      };
    }

words_of_rows : (graph : Graph) (names : List Name) → sum_by row_words (map (row_in graph) names) ≡ sum_by (λ asked_name. size (named graph (Some asked_name))) names
words_of_rows graph [] = refl
words_of_rows graph (row_name ∷ names) =
    sum_by-cons row_words (row_in graph row_name) (map (row_in graph) names) ∙ ap (λ words. row_words (row_in graph row_name) + words) (words_of_rows graph names) ∙ sym (sum_by-cons (λ (name : Name). size (named graph (Some name))) row_name names)

pub runs_can_be_summed_up : RunsCanBeSummedUp
runs_can_be_summed_up seed count run_entries work rows run tells =
    let end_graph = after (opening 3) run_entries in
    let turns = (runs_are_in_turn seed count run_entries run).0.run in
    let replies = replies_in_turn run_entries work rows tells in
    let reply_count : length (history.replies_of (in_turn run_entries)) ≡ 6 + 24 * count = length-map (in_turn run_entries) (λ entry. entry.reply) ∙ run_long seed count run_entries run.follows in
    let sum = run_below seed count (in_turn run_entries) turns.follows turns.legal.each in
    let tidy : Tidy end_graph = (solo 1 (omega arith, omega arith) run_entries (opening 3) (opening 3) tidy_opening tidy_opening (Same-itself 1 (opening 3))
    (going_opening seed count run_entries run.follows) run.legal.each (run_given seed count run_entries run)).tidy in
    let live = few_live end_graph (sum_by (λ name. size (named end_graph (Some name))) tells.names) tidy (tells.names, tells.reach, refl) in
    record {
      commands = ap (length {A = Reply}) replies ∙ reply_count;
      sum = subst (λ (name : ℕ). sum_by number_summed (all_replies work) ≤ name * (seed + count)) reply_count
          (subst (λ (reply_list : List Reply). sum_by number_summed reply_list ≤ length (history.replies_of (in_turn run_entries)) * (seed + count)) (sym replies) sum);
      words = subst (λ (name : ℕ). name ≤ 1159) (sym (ap (sum_by row_words) tells.objects ∙ words_of_rows end_graph tells.names)) live;
    }

pub one_summary : OneSummary
one_summary seed count first_summary second_summary first_sums second_sums =
    let entries = one_in_turn seed count first_sums.entries second_sums.entries first_sums.run second_sums.run in
    let summary : IsSummary seed count second_sums.entries first_summary = subst (λ (run_entries : List Entry). IsSummary seed count run_entries first_summary) entries first_sums.summary in
    let end_graph = after (opening 3) second_sums.entries in
    let names = one_reach end_graph summary.names second_sums.summary.names summary.reach second_sums.summary.reach in
    summary.is ∙ ap (λ row_names. summary_of seed count (history.replies_of second_sums.entries) (map (row_in end_graph) row_names)) names ∙ sym second_sums.summary.is
