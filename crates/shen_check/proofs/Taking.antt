-- What memory says of the next entry, and what it is after it.
use Rattle.std.proofs.Common.{ℕ, zero, suc, ◌≡◌, ◌≢◌, ◌⊎◌, ◌+◌, ◌-◌, ◌*◌, ◌<◌, ◌≤◌, List, [], ◌∷◌, ◌++◌, length, take, sum_by, Option, Some, inl, inr, refl, ap, sym, subst, ◌∙◌, arith}
use Rattle.std.specs.Prelude.{IsSome, option_map, unwrap_or, slice_get, slice_index_or, All, if◌then◌else◌, ◌==◌}
use Rattle.std.specs.List.{range_with_len}
use Rattle.std.proofs.lemmas.Bool.{cases_lt, cases_eq}
use Rattle.std.proofs.lemmas.Bool.Decides.{eqb_tells}
use Rattle.std.proofs.lemmas.List.{length-map, length-append, map-append, get_or_past, append-nil, take_more}
use Rattle.std.proofs.lemmas.List.Elements.{filter-append}
use Rattle.std.proofs.lemmas.Option.{slice_get_within, get_or_from_slice_get, slice_get-get_or}
use Rattle.heap_words.specs.declared.config.Config.{Config}
use Rattle.shen_graph.specs.declared.command.Command.{Command}
use Rattle.shen_graph.specs.declared.command.Command.TheVariants.{Gc}
use Rattle.shen_graph.specs.declared.command.Reply.{Reply}
use Rattle.shen_graph.specs.Valid.{IsValid}
use Rattle.shen_graph.specs.Graph.{Graph, opening}
use Rattle.shen_graph.specs.History.{Entry, after, after_entry, of_thread, script_of}
use Rattle.shen_graph.specs.History as history
use Rattle.shen_graph.specs.Crowd.{words_asked, next_command, words_open, Held, PinnedRegions, IsCrowded}
use Rattle.shen_graph.specs.PlainGraph.{Plain, graph_of, threads_of}
use Rattle.shen_graph.specs.Reach.{Live}
use Rattle.shen_graph.specs.Work.{Progress, HasScript, replies_of, next_of, with_reply, progress_of, opened, begun}
use Rattle.shen_graph.specs.Step.{IsLegal}
use Rattle.shen_graph.proofs.Parts.{progress_of-opened}
use Rattle.shen_graph.proofs.Noted.{script_kept, replies_same, replies_other, script_stays}
use Rattle.churn.proofs.Refusals.{after-append}
use Rattle.shen_check.specs.Judged.{MayFollow}
use Rattle.shen_check.specs.JudgeState.{words_beside, words_waiting, IsFullFor, HasPinsOf, MayAnswer, HasJudged}
use Rattle.shen_check.proofs.LiveSums.{sum_more}
use Rattle.shen_check.proofs.Outcomes.{entry_counts, entry_pins, opening_pins}

abbrev Jobs : Type 0
Jobs = List (Option Progress)

abbrev Scripts : Type 0
Scripts = List (List Command)

-- ---- next commands

-- a script with a command at some place is that of a thread
pub next_thread : (scripts : Scripts) (thread index : ℕ) (command : Command) → slice_get (script_of scripts thread) index ≡ Some command → (1 ≤ thread) × (thread ≤ length scripts)
next_thread scripts zero index command found = absurd (let none_within = slice_get_within [] index command found in omega (arith, none_within))
next_thread scripts (suc mutator) index command found = elim (cases_lt mutator (length scripts)) [
  | inl mutator_below ↦ (omega arith, omega (arith, mutator_below))
  | inr mutator_past ↦ absurd (
      let no_script : script_of scripts (suc mutator) ≡ [] = get_or_past scripts mutator [] mutator_past in
      let within = slice_get_within (script_of scripts (suc mutator)) index command found in
      omega (arith, within, ap length no_script))
]

-- the next command of a mutator, as the work has it
pub next_is : (scripts : Scripts) (before : List Entry) (graph : Plain) (work : Jobs) → HasJudged scripts before graph work → (index : ℕ) → index < length scripts
    → next_of work index ≡ slice_get (slice_index_or scripts index []) (length (of_thread before (index + 1)))
next_is scripts before graph work has_judged index index_below =
    ap (λ (script : List Command). slice_get script (length (replies_of work index))) (has_judged.script index index_below)
    ∙ ap (slice_get (slice_index_or scripts index [])) (ap length (has_judged.replies index index_below) ∙ length-map (of_thread before (index + 1)) (λ (entry : Entry). entry.reply))

pub next_of_thread : (scripts : Scripts) (before : List Entry) (graph : Plain) (work : Jobs) → HasJudged scripts before graph work → (thread : ℕ) → 1 ≤ thread → thread ≤ length scripts
    → next_of work (thread - 1) ≡ slice_get (script_of scripts thread) (length (of_thread before thread))
next_of_thread scripts before graph work has_judged zero low high = absurd (omega (arith, low))
next_of_thread scripts before graph work has_judged (suc index) low high =
    let same_index : suc index - 1 ≡ index = omega arith in
    let next_number : index + 1 ≡ suc index = omega arith in
    let index_below : index < length scripts = omega (arith, high) in
    ap (next_of work) same_index ∙ next_is scripts before graph work has_judged index index_below ∙ ap (λ (thread : ℕ). slice_get (slice_index_or scripts index []) (length (of_thread before thread))) next_number

script_few : (scripts : Scripts) (bound : ℕ) → All (λ script. length script < bound) scripts → (thread : ℕ) → 1 ≤ thread → thread ≤ length scripts → length (script_of scripts thread) < bound
script_few scripts bound few zero low high = absurd (omega (arith, low))
script_few scripts bound few (suc mutator) low high = few mutator [] (omega (arith, high))

script_valid : (scripts : Scripts) → All (λ script. All IsValid script) scripts → (thread : ℕ) → 1 ≤ thread → thread ≤ length scripts → All IsValid (script_of scripts thread)
script_valid scripts valid zero low high = absurd (omega (arith, low))
script_valid scripts valid (suc mutator) low high = valid mutator [] (omega (arith, high))

-- a thread with a command left has made fewer objects than its script is long
pub count_few : (scripts : Scripts) (before : List Entry) (graph : Plain) (work : Jobs) (bound thread : ℕ) (command : Command) → HasJudged scripts before graph work → All (λ script. length script < bound) scripts
    → 1 ≤ thread → thread ≤ length scripts → slice_get (script_of scripts thread) (length (of_thread before thread)) ≡ Some command → (graph_of graph).count thread < bound
count_few scripts before graph work bound thread command has_judged few low high found =
    let within = slice_get_within (script_of scripts thread) (length (of_thread before thread)) command found in
    omega (arith, has_judged.counts thread, within, script_few scripts bound few thread low high)

pub next_valid : (scripts : Scripts) (thread index : ℕ) (command : Command) → All (λ script. All IsValid script) scripts → 1 ≤ thread → thread ≤ length scripts → slice_get (script_of scripts thread) index ≡ Some command → IsValid command
next_valid scripts thread index command valid low high found =
    let within = slice_get_within (script_of scripts thread) index command found in
    subst IsValid (get_or_from_slice_get (script_of scripts thread) index command Gc found) (script_valid scripts valid thread low high index Gc within)

-- ---- crowding

beside_is : (scripts : Scripts) (before : List Entry) (graph : Plain) (work : Jobs) → HasJudged scripts before graph work → (thread index : ℕ) → index < length scripts
    → words_beside work thread index ≡ (if index + 1 == thread then 0 else words_asked (next_command scripts before (index + 1)))
beside_is scripts before graph work has_judged thread index index_below =
    let same_index : index ≡ index + 1 - 1 = omega arith in
    ap (λ (found : Option Command). if index + 1 == thread then 0 else words_asked found)
    (next_is scripts before graph work has_judged index index_below ∙ ap (λ (number : ℕ). slice_get (slice_index_or scripts number []) (length (of_thread before (index + 1)))) same_index)

waiting_up_to : (scripts : Scripts) (before : List Entry) (graph : Plain) (work : Jobs) → HasJudged scripts before graph work → (thread count : ℕ) → count ≤ length scripts
    → sum_by (words_beside work thread) (range_with_len 0 count) ≡ sum_by (λ any_thread. if any_thread == thread then 0 else words_asked (next_command scripts before any_thread)) (range_with_len 1 count)
waiting_up_to scripts before graph work has_judged thread zero low = refl
waiting_up_to scripts before graph work has_judged thread (suc index) low =
    let asked_words = λ (any_thread : ℕ). if any_thread == thread then 0 else words_asked (next_command scripts before any_thread) in
    let next_number : index + 1 ≡ suc index = omega arith in
    let same_number : 1 + index ≡ index + 1 = omega arith in
    let index_below : index < length scripts = omega (arith, low) in
    ap (λ (number : ℕ). sum_by (words_beside work thread) (range_with_len 0 number)) (sym next_number)
    ∙ sum_more (words_beside work thread) 0 index index (omega arith)
    ∙ ap (λ (number : ℕ). number + words_beside work thread index) (waiting_up_to scripts before graph work has_judged thread index (omega (arith, low)))
    ∙ ap (λ (number : ℕ). sum_by asked_words (range_with_len 1 index) + number) (beside_is scripts before graph work has_judged thread index index_below)
    ∙ sym (sum_more asked_words 1 index (index + 1) same_number)
    ∙ ap (λ (number : ℕ). sum_by asked_words (range_with_len 1 number)) next_number

pub waiting_is : (config : Config) (scripts : Scripts) (before : List Entry) (graph : Plain) (work : Jobs) → HasJudged scripts before graph work → length scripts ≡ config.mutators → (thread : ℕ)
    → words_waiting work config.mutators thread ≡ words_open scripts before thread
waiting_is config scripts before graph work has_judged count thread =
    ap (λ (number : ℕ). words_waiting work number thread) (sym count) ∙ waiting_up_to scripts before graph work has_judged thread (length scripts) (omega arith)

pub crowded_is : (config : Config) (scripts : Scripts) (before : List Entry) (graph : Plain) (work : Jobs) (entry : Entry) → HasJudged scripts before graph work → length scripts ≡ config.mutators
    → IsFullFor config (graph_of graph) work entry.thread entry.command → IsCrowded config.regions config.region_words (opening (length scripts)) scripts before entry
crowded_is config scripts before graph work entry has_judged count full_for = (
  full_for.0,
  full_for.1,
  full_for.2,
  subst (λ (graph : Graph). Live graph full_for.0) has_judged.graph_is full_for.3,
  subst (λ (graph : Graph). Held graph full_for.1) has_judged.graph_is full_for.4,
  subst (λ (graph : Graph). PinnedRegions config.region_words graph full_for.2) has_judged.graph_is full_for.5,
  subst (λ (n : ℕ). (config.regions - full_for.2) * (config.region_words - words_asked (Some entry.command) + 1) ≤ full_for.0 - full_for.1 + n) (waiting_is config scripts before graph work has_judged count entry.thread) full_for.6,
)

pub full_is_for : (config : Config) (scripts : Scripts) (before : List Entry) (graph : Plain) (work : Jobs) (entry : Entry) → HasJudged scripts before graph work → length scripts ≡ config.mutators
    → IsCrowded config.regions config.region_words (opening (length scripts)) scripts before entry → IsFullFor config (graph_of graph) work entry.thread entry.command
full_is_for config scripts before graph work entry has_judged count crowded = (
  crowded.0,
  crowded.1,
  crowded.2,
  subst (λ (graph : Graph). Live graph crowded.0) (sym has_judged.graph_is) crowded.3,
  subst (λ (graph : Graph). Held graph crowded.1) (sym has_judged.graph_is) crowded.4,
  subst (λ (graph : Graph). PinnedRegions config.region_words graph crowded.2) (sym has_judged.graph_is) crowded.5,
  subst (λ (n : ℕ). (config.regions - crowded.2) * (config.region_words - words_asked (Some entry.command) + 1) ≤ crowded.0 - crowded.1 + n) (sym (waiting_is config scripts before graph work has_judged count entry.thread)) crowded.6,
)

-- ---- one entry more

pub of_same : (before : List Entry) (entry : Entry) (thread : ℕ) → thread ≡ entry.thread → of_thread (before ++ entry ∷ []) thread ≡ of_thread before thread ++ entry ∷ []
of_same before entry thread same_thread =
    filter-append (λ (entry : Entry). entry.thread == thread) before (entry ∷ [])
    ∙ ap (λ (entries : List Entry). of_thread before thread ++ entries) (elim (eqb_tells entry.thread thread) [ inl told ↦ rw told.0 refl | inr told ↦ absurd (told.1 (sym same_thread)) ])

pub of_other : (before : List Entry) (entry : Entry) (thread : ℕ) → thread ≢ entry.thread → of_thread (before ++ entry ∷ []) thread ≡ of_thread before thread
of_other before entry thread threads_differ =
    filter-append (λ (entry : Entry). entry.thread == thread) before (entry ∷ [])
    ∙ ap (λ (entries : List Entry). of_thread before thread ++ entries) (elim (eqb_tells entry.thread thread) [ inl told ↦ absurd (threads_differ (sym told.1)) | inr told ↦ rw told.0 refl ])
    ∙ append-nil (of_thread before thread)

counted : (before : List Entry) (entry : Entry) (thread count made : ℕ) → count ≤ length (of_thread before thread) → made ≤ (if thread == entry.thread then count + 1 else count) → made ≤ length (of_thread (before ++ entry ∷ []) thread)
counted before entry thread count made at_most made_bound = elim (eqb_tells thread entry.thread) [
  | inl told ↦ (let grown_bound = rw told.0 at made_bound in let size = ap length (of_same before entry thread told.1) ∙ length-append (of_thread before thread) (entry ∷ []) in omega (arith, at_most, grown_bound, size))
  | inr told ↦ (let same_bound = rw told.0 at made_bound in let size = ap length (of_other before entry thread told.1) in omega (arith, at_most, same_bound, size))
]

pub one_more : (scripts : Scripts) (before : List Entry) (graph next_plain : Plain) (work : Jobs) (entry : Entry) → HasJudged scripts before graph work
    → 1 ≤ entry.thread → entry.thread ≤ length scripts → IsValid entry.command → threads_of next_plain ≡ threads_of graph → graph_of next_plain ≡ after_entry (graph_of graph) entry
    → HasJudged scripts (before ++ entry ∷ []) next_plain (with_reply work (entry.thread - 1) entry.reply)
one_more scripts before graph next_plain work entry has_judged low high valid threads made =
    let here : HasScript work (entry.thread - 1) = has_judged.has (entry.thread - 1) (omega (arith, low, high)) in
    record {
      graph_is = made ∙ ap (λ (graph : Graph). after_entry graph entry) has_judged.graph_is ∙ sym (after-append (opening (length scripts)) before (entry ∷ []));
      threads = threads ∙ has_judged.threads;
      has = λ index below. script_stays work (entry.thread - 1) entry.reply index here (has_judged.has index below);
      script = λ index below. script_kept work (entry.thread - 1) entry.reply index here ∙ has_judged.script index below;
      replies = λ index below. replied index below (cases_eq index (entry.thread - 1));
      counts = λ thread. counted before entry thread ((graph_of graph).count thread) ((graph_of next_plain).count thread) (has_judged.counts thread)
          (subst (λ (other_graph : Graph). other_graph.count thread ≤ (if thread == entry.thread then (graph_of graph).count thread + 1 else (graph_of graph).count thread)) (sym made) (entry_counts (graph_of graph) entry thread));
      pins = subst (HasPinsOf (length scripts)) (sym made) (entry_pins (length scripts) (graph_of graph) entry low high valid has_judged.pins);
    }
  where
    replied : (index : ℕ) → index < length scripts → (index ≡ entry.thread - 1) ⊎ (index ≢ entry.thread - 1) → replies_of (with_reply work (entry.thread - 1) entry.reply) index ≡ history.replies_of (of_thread (before ++ entry ∷ []) (index + 1))
    replied index index_below (inl same_index) =
        let same_thread : index + 1 ≡ entry.thread = omega (arith, same_index, low) in
        let has_script : HasScript work index = has_judged.has index index_below in
        ap (λ (number : ℕ). replies_of (with_reply work number entry.reply) index) (sym same_index)
        ∙ replies_same work index entry.reply has_script
        ∙ ap (λ (replies : List Reply). replies ++ entry.reply ∷ []) (has_judged.replies index index_below)
        ∙ sym (map-append (λ (entry : Entry). entry.reply) (of_thread before (index + 1)) (entry ∷ []))
        ∙ sym (ap history.replies_of (of_same before entry (index + 1) same_thread))
    replied index index_below (inr other_index) =
        replies_other work (entry.thread - 1) entry.reply index other_index
        ∙ has_judged.replies index index_below
        ∙ sym (ap history.replies_of (of_other before entry (index + 1) (λ same_index. other_index (omega (arith, same_index)))))

-- ---- before any entry

pub first : (scripts : Scripts) (graph : Plain) (work : Jobs) → length scripts ≤ 8 → graph_of graph ≡ opening (length scripts) → threads_of graph ≡ length scripts → work ≡ opened scripts
    → HasJudged scripts [] graph work
first scripts graph work at_most made threads work_opened =
    let begun_there : (index : ℕ) → index < length scripts → progress_of work index ≡ Some (begun (slice_index_or scripts index [])) = λ index index_below.
    ap (λ (jobs : Jobs). progress_of jobs index) work_opened ∙ progress_of-opened scripts index at_most ∙ ap (option_map begun) (slice_get-get_or scripts index [] index_below) in
    record {
      graph_is = made;
      threads = threads;
      has = λ index index_below. subst IsSome (sym (begun_there index index_below)) refl;
      script = λ index index_below. ap (λ (found : Option Progress). (unwrap_or found (begun [])).script) (begun_there index index_below);
      replies = λ index index_below. ap (λ (found : Option Progress). (unwrap_or found (begun [])).replies) (begun_there index index_below);
      counts = λ thread. subst (λ (graph : Graph). graph.count thread ≤ 0) (sym made) (omega arith);
      pins = subst (HasPinsOf (length scripts)) (sym made) (opening_pins (length scripts) (length scripts));
    }

-- ---- an entry may follow exactly where its command is next and may be answered so

pub no_next : (config : Config) (scripts : Scripts) (before : List Entry) (graph : Plain) (work : Jobs) (entry : Entry) (thread_count : ℕ) → HasJudged scripts before graph work → length scripts ≡ thread_count
    → (1 ≤ entry.thread → entry.thread ≤ thread_count → next_of work (entry.thread - 1) ≡ Some entry.command → ⊥) → MayFollow config scripts before entry → ⊥
no_next config scripts before graph work entry thread_count has_judged count not_next follow =
    let thread_range = next_thread scripts entry.thread (length (of_thread before entry.thread)) entry.command follow.next in
    not_next thread_range.0 (omega (arith, thread_range.1, count)) (next_of_thread scripts before graph work has_judged entry.thread thread_range.0 thread_range.1 ∙ follow.next)

pub may_answer : (config : Config) (scripts : Scripts) (before : List Entry) (graph : Plain) (work : Jobs) (entry : Entry) → HasJudged scripts before graph work → length scripts ≡ config.mutators
    → MayFollow config scripts before entry → MayAnswer config (graph_of graph) work entry
may_answer config scripts before graph work entry has_judged count follow = record {
  legal = subst (λ (graph : Graph). IsLegal config.regions config.region_words graph entry.thread entry.command entry.reply (after_entry graph entry)) (sym has_judged.graph_is) follow.legal;
  full = λ full_for. full_is_for config scripts before graph work entry has_judged count (follow.crowded full_for);
}

pub may_follow : (config : Config) (scripts : Scripts) (before : List Entry) (graph : Plain) (work : Jobs) (entry : Entry) → HasJudged scripts before graph work → length scripts ≡ config.mutators
    → slice_get (script_of scripts entry.thread) (length (of_thread before entry.thread)) ≡ Some entry.command → MayAnswer config (graph_of graph) work entry → MayFollow config scripts before entry
may_follow config scripts before graph work entry has_judged count next answer_allowed = record {
  next = next;
  legal = subst (λ (graph : Graph). IsLegal config.regions config.region_words graph entry.thread entry.command entry.reply (after_entry graph entry)) has_judged.graph_is answer_allowed.legal;
  crowded = λ answered_full. crowded_is config scripts before graph work entry has_judged count (answer_allowed.full answered_full);
}

-- the entries up to the next, and it
pub one_longer : (entries : List Entry) (index : ℕ) (entry : Entry) → slice_get entries index ≡ Some entry → take (index + 1) entries ≡ take index entries ++ entry ∷ []
one_longer entries index entry entry_there =
    take_more entries index entry (slice_get_within entries index entry entry_there) ∙ ap (λ (entry : Entry). take index entries ++ entry ∷ []) (get_or_from_slice_get entries index entry entry entry_there)
