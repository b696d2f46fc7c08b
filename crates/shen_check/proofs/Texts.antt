-- The text in memory, and the one that answers for a history.
use Rattle.std.proofs.Common.{ℕ, zero, suc, ◌≡◌, ◌+◌, ◌-◌, ◌<◌, ◌≤◌, Bool, true, false, List, [], length, get_or, take, inl, inr, map, Option, Some, ap, sym, subst, ◌∙◌, arith}
use Rattle.std.specs.Prelude.{MatchBool, None, IsSome, Result, Ok, Err, IfOk, slice_get}
use Rattle.std.proofs.lemmas.Bool.{cases_lt}
use Rattle.std.proofs.lemmas.List.{get_or_past, take_all}
use Rattle.std.proofs.lemmas.Option.{slice_get_past, slice_get-get_or}
use Rattle.heap_words.specs.declared.config.Config.{Config}
use Rattle.shen_graph.specs.declared.name.Name.{Name}
use Rattle.shen_graph.specs.declared.command.Reply.TheVariants as reply
use Rattle.shen_graph.specs.declared.command.Command.{Command}
use Rattle.shen_graph.specs.declared.command.Command.TheVariants.{Gc}
use Rattle.shen_graph.specs.Graph.{Graph}
use Rattle.shen_graph.specs.GraphText.{Text, Row, row_in, root_of, pin_of, names_of, IsTextOf}
use Rattle.shen_graph.specs.Step.{name_in}
use Rattle.shen_graph.specs.History.{Entry, after, of_thread, script_of}
use Rattle.shen_graph.specs.History as history
use Rattle.shen_graph.specs.PlainGraph.{Plain, graph_of}
use Rattle.shen_graph.specs.Work.{Progress, replies_of, next_of}
use Rattle.trace_text.specs.Answer.{IsAnswerText, answer_text}
use Rattle.trace_text.proofs.AnswerLemmas.{answer_text_same}
use Rattle.churn.proofs.OneReach.{one_reach}
use Rattle.shen_check.specs.Judged.{graph_after, HasLeft, FollowUpTo, AllFollow, IsFirstLeft}
use Rattle.shen_check.specs.JudgeState.{HasJudged}
use Rattle.shen_check.proofs.Taking.{next_of_thread}

abbrev Scripts : Type 0
Scripts = List (List Command)

abbrev Jobs : Type 0
Jobs = List (Option Progress)

abbrev nothing : List Command
nothing = []

-- ---- the text

told : (scripts : Scripts) (before : List Entry) (graph : Plain) (work : Jobs) → HasJudged scripts before graph work → (thread : ℕ) → 1 ≤ thread → thread ≤ length scripts
    → replies_of work (thread - 1) ≡ history.replies_of (of_thread before thread)
told scripts before graph work has_judged thread low high =
    let same_thread : thread - 1 + 1 ≡ thread = omega (arith, low) in
    has_judged.replies (thread - 1) (omega (arith, low, high)) ∙ ap (λ (number : ℕ). history.replies_of (of_thread before number)) same_thread

-- the answer that a version gives to a history
abbrev answer_of : ℕ → Scripts → List Entry → List Name → List ℕ
answer_of version scripts before names =
    answer_text version (length scripts) (λ any_thread. history.replies_of (of_thread before any_thread)) (map (row_in (graph_after scripts before)) names) (graph_after scripts before).root (λ thread slot. name_in ((graph_after scripts before).pin thread slot))

text_is : (version : ℕ) (scripts : Scripts) (before : List Entry) (graph : Plain) (work : Jobs) (text : Text) → HasJudged scripts before graph work → IsTextOf (graph_after scripts before) (length scripts) text
    → answer_text version (length text.roots) (λ any_thread. replies_of work (any_thread - 1)) text.rows (root_of text) (pin_of text) ≡ answer_of version scripts before (names_of text)
text_is version scripts before graph work text has_judged text_of_graph =
    ap (λ (threads : ℕ). answer_text version threads (λ any_thread. replies_of work (any_thread - 1)) text.rows (root_of text) (pin_of text)) text_of_graph.each
    ∙ ap (λ (rows : List Row). answer_text version (length scripts) (λ any_thread. replies_of work (any_thread - 1)) rows (root_of text) (pin_of text)) text_of_graph.rows
    ∙ answer_text_same version (length scripts) (λ any_thread. replies_of work (any_thread - 1)) (λ any_thread. history.replies_of (of_thread before any_thread)) (map (row_in (graph_after scripts before)) (names_of text)) (root_of text) (graph_after scripts before).root
    (pin_of text) (λ thread slot. name_in ((graph_after scripts before).pin thread slot))
    (λ thread low high. told scripts before graph work has_judged thread low high)
    (λ any_thread index low high small. text_of_graph.roots any_thread index low high)
    (λ any_thread index low high small. text_of_graph.pins any_thread index low high)

pub answered : (version : ℕ) (scripts : Scripts) (before : List Entry) (graph : Plain) (work : Jobs) (text : Text) (body made_text : List ℕ) (tested : Bool) (threads : ℕ) → HasJudged scripts before graph work → length scripts ≡ threads
    → IsTextOf (graph_of graph) threads text
    → made_text ≡ answer_text version (length text.roots) (λ any_thread. replies_of work (any_thread - 1)) text.rows (root_of text) (pin_of text) → MatchBool tested (body ≡ made_text) (body ≡ made_text → ⊥)
    → MatchBool tested (IsAnswerText version (length scripts) before body) (IsAnswerText version (length scripts) before body → ⊥)
answered version scripts before graph work text body made_text tested threads has_judged count shows made compared =
    let text_of_graph : IsTextOf (graph_after scripts before) (length scripts) text = subst (λ (threads : ℕ). IsTextOf (graph_after scripts before) threads text) (sym count) (subst (λ (graph : Graph). IsTextOf graph threads text) has_judged.graph_is shows) in
    let whole_text = made ∙ text_is version scripts before graph work text has_judged text_of_graph in
    by_test tested text_of_graph whole_text compared
  where
    by_test : (holds : Bool) → IsTextOf (graph_after scripts before) (length scripts) text → made_text ≡ answer_of version scripts before (names_of text)
        → MatchBool holds (body ≡ made_text) (body ≡ made_text → ⊥) → MatchBool holds (IsAnswerText version (length scripts) before body) (IsAnswerText version (length scripts) before body → ⊥)
    by_test true text_of_graph whole_text text_told = record { names = names_of text; reach = text_of_graph.reach; text = text_told ∙ whole_text }
    by_test false text_of_graph whole_text text_differs = λ is_answer.
        let names = one_reach (graph_after scripts before) is_answer.names (names_of text) is_answer.reach text_of_graph.reach in
        text_differs (is_answer.text ∙ ap (answer_of version scripts before) names ∙ sym whole_text)

-- ---- commands that are left

some_left : (script : List Command) (index : ℕ) → IsSome (slice_get script index) → index < length script
some_left script index some_command = elim (cases_lt index (length script)) [ inl low ↦ low | inr index_past ↦ absurd (let no_command = subst (λ (found : Option Command). IsSome found) (slice_get_past script index index_past) some_command in cc) ]

none_left : (script : List Command) (index : ℕ) → slice_get script index ≡ None → index < length script → ⊥
none_left script index no_command low = let some_command = slice_get-get_or script index Gc low in let contradiction = sym no_command ∙ some_command in cc

pub is_left : (scripts : Scripts) (before : List Entry) (graph : Plain) (work : Jobs) → HasJudged scripts before graph work → (thread : ℕ) → 1 ≤ thread → thread ≤ length scripts → IsSome (next_of work (thread - 1)) → HasLeft scripts before thread
is_left scripts before graph work has_judged thread low high some_command =
    some_left (script_of scripts thread) (length (of_thread before thread)) (subst (λ (found : Option Command). IsSome found) (next_of_thread scripts before graph work has_judged thread low high) some_command)

pub not_left : (scripts : Scripts) (before : List Entry) (graph : Plain) (work : Jobs) → HasJudged scripts before graph work → (thread_count : ℕ) → ((mutator : ℕ) → mutator < thread_count → next_of work mutator ≡ None) → (thread : ℕ) → thread ≤ thread_count → HasLeft scripts before thread → ⊥
not_left scripts before graph work has_judged thread_count none_next zero low has_left = omega (arith, has_left)
not_left scripts before graph work has_judged thread_count none_next (suc mutator) low has_left = elim (cases_lt mutator (length scripts)) [
  | inl mutator_below ↦ none_left (script_of scripts (suc mutator)) (length (of_thread before (suc mutator)))
      (sym (next_of_thread scripts before graph work has_judged (suc mutator) (omega arith) (omega (arith, mutator_below))) ∙ (let same_mutator : suc mutator - 1 ≡ mutator = omega arith in ap (next_of work) same_mutator) ∙ none_next mutator (omega (arith, low))) has_left
  | inr mutator_past ↦ (let size = ap length (get_or_past scripts mutator nothing mutator_past) in omega (arith, has_left, size))
]

pub none_is_left : (scripts : Scripts) (before : List Entry) (graph : Plain) (work : Jobs) → HasJudged scripts before graph work → ((index : ℕ) → index < length scripts → next_of work index ≡ None) → (thread : ℕ) → HasLeft scripts before thread → ⊥
none_is_left scripts before graph work has_judged none_next thread has_left = elim (cases_lt (length scripts) thread) [
  | inl thread_beyond ↦ beyond_none thread thread_beyond has_left
  | inr within ↦ not_left scripts before graph work has_judged (length scripts) none_next thread within has_left
]
  where
    beyond_none : (later_thread : ℕ) → length scripts < later_thread → HasLeft scripts before later_thread → ⊥
    beyond_none zero thread_past still_left = omega (arith, thread_past)
    beyond_none (suc index) thread_past still_left = let size = ap length (get_or_past scripts index nothing (omega (arith, thread_past))) in omega (arith, still_left, size)

-- ---- the end of a history

pub ended : (config : Config) (scripts : Scripts) (entries : List Entry) (graph : Plain) (work : Jobs) (place : ℕ) → length entries ≡ place → HasJudged scripts (take place entries) graph work → FollowUpTo config scripts entries place
    → HasJudged scripts entries graph work × AllFollow config scripts entries
ended config scripts other_entries graph work place end judged follow = (
  subst (λ (entries : List Entry). HasJudged scripts entries graph work) (take_all place other_entries (omega (arith, end))) judged,
  subst (λ (n : ℕ). FollowUpTo config scripts other_entries n) (sym end) follow,
)

pub first_left_is : (config : Config) (scripts : Scripts) (entries : List Entry) (graph : Plain) (work : Jobs) (thread_count thread : ℕ) → HasJudged scripts entries graph work → AllFollow config scripts entries → length scripts ≡ thread_count
    → (1 ≤ thread) × (thread ≤ thread_count) × IsSome (next_of work (thread - 1)) × ((mutator : ℕ) → mutator < thread - 1 → next_of work mutator ≡ None) → IsFirstLeft config scripts entries thread
first_left_is config scripts entries graph work thread_count thread judged follow count first_left = record {
  follow = follow;
  left = is_left scripts entries graph work judged thread first_left.0 (omega (arith, first_left.1, count)) first_left.2;
  before = λ earlier_thread low. not_left scripts entries graph work judged (thread - 1) first_left.3 earlier_thread (omega (arith, low));
}

pub nothing_left : (scripts : Scripts) (entries : List Entry) (graph : Plain) (work : Jobs) (thread_count : ℕ) → HasJudged scripts entries graph work → length scripts ≡ thread_count → ((mutator : ℕ) → mutator < thread_count → next_of work mutator ≡ None)
    → (thread : ℕ) → HasLeft scripts entries thread → ⊥
nothing_left scripts entries graph work thread_count judged count none_next = none_is_left scripts entries graph work judged (λ mutator low. none_next mutator (omega (arith, low, count)))

pub map_ok : {E : Type 0} (result : Result Bool E) (P Q : Bool → Type 0) → ((holds : Bool) → P holds → Q holds) → IfOk result P → IfOk result Q
map_ok (Ok holds) P Q f if_ok = f holds if_ok
map_ok (Err error) P Q f if_ok = tt

pub entry_there : (entries : List Entry) (index : ℕ) → index < length entries → (entry : Entry) × (slice_get entries index ≡ Some entry)
entry_there entries index low = let empty_entry : Entry = record { thread = 0; command = Gc; reply = reply.Bad } in (get_or entries index empty_entry, slice_get-get_or entries index empty_entry low)
