-- What a churn gives its heap, and what comes of it.
use Rattle.std.proofs.Common.{◌≡◌, ℕ, ◌+◌, ◌*◌, ◌≤◌, List, [], ◌∷◌, length, All, refl, sym, ap, subst, ◌∙◌, arith}
use Rattle.std.specs.List.{AllByRecursion, flat_map, range_with_len}
use Rattle.std.proofs.Math.Nat.{mul-le-mul_left, mul-le-mul_right, le_trans}
use Rattle.std.proofs.lemmas.List.{length-append}
use Rattle.std.proofs.lemmas.List.Elements.{All-from_recursion}
use Rattle.std.proofs.lemmas.List.FromFn.{length-range_with_len}
use Rattle.shen_graph.proofs.Lists.{all_append}
use Rattle.heap_words.specs.declared.config.Config.{Config}
use Rattle.shen_graph.specs.Valid.{IsValid}
use Rattle.shen_graph.specs.Graph.{opening}
use Rattle.shen_graph.specs.GraphText.{Text, names_of}
use Rattle.shen_graph.specs.History.{Entry, after, Follows}
use Rattle.shen_graph.specs.Crowd.{IsLegalHistory}
use Rattle.heap_world.specs.Shows as texts
use Rattle.step_core.specs.Begins.{first_graph}
use Rattle.step_core.specs.Schedule.{Scripts}
use Rattle.shen_core.specs.Progress.{Jobs, IsRunnable}
use Rattle.table_heap.specs.declared.closed.Closed.{Closed}
use Rattle.churn.specs.Script.{round, churn_script, churn_scripts}
use Rattle.churn.specs.Laws as churn
use Rattle.churn.proofs.Sums.{runs_can_be_summed_up}
use Rattle.trace_runs.specs.Words.{most_seed, most_rounds}
use Rattle.trace_runs.specs.Churned.{IsChurnHeap}
use Rattle.trace_runs.specs.Replayed.{IsWhole}
use Rattle.trace_runs.specs.Running.{HasCome}
use Rattle.trace_runs.proofs.Coming.{come_past, come_whole, come_told}

-- ---- the scripts

-- the commands of a round are valid
round_valid : (seed turn : ℕ) → AllByRecursion IsValid (round seed turn)
round_valid seed turn = (
  (omega arith, omega arith, omega arith),
  (
    (omega arith, omega arith),
    (
      (omega arith, omega arith, omega arith),
      (
        omega arith,
        (
          (omega arith, omega arith, omega arith),
          (
            (omega arith, omega arith),
            (
              (omega arith, omega arith, omega arith, omega arith),
              (
                (omega arith, omega arith, omega arith, omega arith),
                tt,
              ),
            ),
          ),
        ),
      ),
    ),
  ),
)

rounds_valid : (seed : ℕ) (rounds : List ℕ) → AllByRecursion IsValid (flat_map (round seed) rounds)
rounds_valid seed [] = tt
rounds_valid seed (turn ∷ rounds) = all_append IsValid (round seed turn) (flat_map (round seed) rounds) (round_valid seed turn) (rounds_valid seed rounds)

-- a round has eight
rounds_long : (seed : ℕ) (rounds : List ℕ) → length (flat_map (round seed) rounds) ≡ 8 * length rounds
rounds_long seed [] = refl
rounds_long seed (turn ∷ rounds) = omega (arith, length-append (round seed turn) (flat_map (round seed) rounds), rounds_long seed rounds)

script_runnable : (seed count thread : ℕ) → thread ≤ 31 → count ≤ most_rounds → IsRunnable (churn_script seed count thread)
script_runnable seed count thread thread_low few_rounds = (
  All-from_recursion IsValid (churn_script seed count thread) ((omega arith, omega arith, omega arith), ((omega arith, omega arith, omega arith), rounds_valid seed (range_with_len 0 count))),
  omega (arith, rounds_long seed (range_with_len 0 count), length-range_with_len 0 count),
)

pub churn_runnable : (seed count : ℕ) → count ≤ most_rounds → All IsRunnable (churn_scripts seed count)
churn_runnable seed count few_rounds =
    All-from_recursion IsRunnable (churn_scripts seed count)
    (script_runnable seed count 1 (omega arith) few_rounds, (script_runnable seed count 2 (omega arith) few_rounds, (script_runnable seed count 3 (omega arith) few_rounds, tt)))

-- ---- the history

module _ (seed count : ℕ) (config : Config) (scripts : Scripts) (jobs : Jobs) (end : Closed) (sizes : IsChurnHeap config) (scripts_are : scripts ≡ churn_scripts seed count) (has_come : HasCome config scripts jobs end) where
  pub three : length scripts ≡ config.mutators
  three = ap (λ (some_scripts : Scripts). length some_scripts) scripts_are ∙ sym sizes.mutators

  abbrev pub entries : List Entry
  entries = come_past config scripts jobs end has_come

  pub churn_run : churn.IsWorkloadRun seed count entries
  churn_run =
      let is_whole : IsWhole config scripts has_come.reached.events = come_whole config scripts jobs end has_come three in
      record {
        follows = subst (λ (some_scripts : Scripts). Follows some_scripts entries) scripts_are is_whole.follows;
        legal = subst (λ (some_scripts : Scripts). IsLegalHistory 16 256 some_scripts entries) scripts_are
            (subst (λ (region_words : ℕ). IsLegalHistory 16 region_words scripts entries) sizes.region_words
            (subst (λ (regions : ℕ). IsLegalHistory regions config.region_words scripts entries) sizes.regions is_whole.legal));
      }

  pub churn_tells : (text : Text) → texts.ShowsGraph text config.mutators (after (first_graph config) entries) → churn.TellsRun entries jobs text.rows
  churn_tells text shown =
      let shows : texts.ShowsGraph text 3 (after (opening 3) entries) =
      subst (λ (threads : ℕ). texts.ShowsGraph text threads (after (opening threads) entries)) sizes.mutators shown in
      record {
        names = names_of text;
        replies = λ mutator mutator_below. come_told config scripts jobs end has_come mutator (omega (arith, mutator_below, sizes.mutators));
        reach = shows.reach;
        objects = shows.rows;
      }

  -- so its replies and objects can be summed up
  pub churn_can : (text : Text) → texts.ShowsGraph text config.mutators (after (first_graph config) entries) → churn.CanSumUp seed count jobs text.rows
  churn_can text shown = runs_can_be_summed_up seed count entries jobs text.rows churn_run (churn_tells text shown)

-- the numbers of a churn are not large
pub small_sum : (seed count : ℕ) → seed ≤ most_seed → count ≤ most_rounds → (6 + 24 * count) * (seed + count) ≤ 480006 * 1020000
small_sum seed count seed_small at_most =
    let sum_small : seed + count ≤ 1020000 = omega (arith, seed_small, at_most) in
    let words_few : 6 + 24 * count ≤ 480006 = omega (arith, at_most) in
    le_trans (mul-le-mul_left (6 + 24 * count) sum_small) (mul-le-mul_right 1020000 words_few)
