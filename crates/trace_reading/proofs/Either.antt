-- Bytes within the limit are read, or they are refused.
use Rattle.std.proofs.Common.{◌≡◌, ◌⊎◌, ℕ, zero, suc, ◌+◌, ◌≤◌, List, [], ◌∷◌, ◌++◌, length, Option, Some, None, inl, inr, refl, sym, ap, subst, ◌∙◌, append_assoc, arith}
use Rattle.std.specs.Prelude.{codes}
use Rattle.std.specs.List.{flat_map, AllByRecursion}
use Rattle.std.proofs.lemmas.List.{length-append}
use Rattle.std.proofs.lemmas.List.Concat.{flat_map-cons}
use Rattle.shen_graph.specs.declared.command.Command.{Command}
use Rattle.heap_words.specs.declared.config.Config.{Config}
use Rattle.heap_words.specs.Narrow.{IsNarrow}
use Rattle.heap_words.specs.declared.schedule.Item.{Item}
use Rattle.trace_reading.specs.Spelling.{TraceLine, IsLine, line, newline, titled, header, schedule_line, IsScheduleLine}
use Rattle.trace_reading.specs.Grammar.{most_bytes, scripts_of, items_of, Reads}
use Rattle.trace_reading.specs.declared.why.Why.{Why}
use Rattle.trace_reading.specs.Causes.{parts}
use Rattle.trace_reading.specs.Refused.{LineStage, Version, Heap, Threads, Commands, Turns, words_cause, end_cause, cause_of, LineFollows, Lead, Refused}
use Rattle.trace_reading.proofs.Lines.{whole_line, cut_line}
use Rattle.trace_reading.proofs.Leads.{Fits, follows, first_line, bytes_of_line, bytes_of_last}

-- what stands behind a line is shorter than all
pub rest_is_shorter : (bytes text rest : List ℕ) (limit : ℕ) → bytes ≡ text ++ 10 ∷ rest → length bytes ≤ suc limit → length rest ≤ limit
rest_is_shorter bytes text rest limit same_bytes length_within = let size = ap length same_bytes in let sizes = length-append text (10 ∷ rest) in omega (arith, size, sizes, length_within)

-- bytes with a line in them are some
pub line_has_bytes : (bytes text rest : List ℕ) → bytes ≡ text ++ 10 ∷ rest → length bytes ≤ 0 → ⊥
line_has_bytes bytes text rest same_bytes no_bytes = let size = ap length same_bytes in let sizes = length-append text (10 ∷ rest) in omega (arith, size, sizes, no_bytes)

-- texts, each with the end of its line
abbrev ended : List (List ℕ) → List ℕ
ended texts = flat_map (λ text. text ++ newline ∷ []) texts

-- behind the head
abbrev IsBody : LineStage → Type 0
IsBody Version = ⊥
IsBody (Heap version) = ⊥
IsBody (Threads version regions region_words reserve) = ⊥
IsBody (Commands version config) = Unit {0}
IsBody (Turns config) = Unit {0}

-- the bytes stop being lines of a trace
record Stops (stage : LineStage) (bytes : List ℕ) : Type 0 where
  before : List (List ℕ)
  from_it : List (List ℕ)
  lines : parts newline bytes ≡ before ++ from_it
  last : LineStage
  lead : Lead stage before last
  why : Why
  cause : cause_of last from_it ≡ Some why

-- the bytes are lines of a trace, to their end
record Completes (stage : LineStage) (bytes : List ℕ) : Type 0 where
  texts : List (List ℕ)
  last : LineStage
  lead : Lead stage texts last
  body : IsBody last
  spelled : bytes ≡ ended texts

stops_here : (stage : LineStage) (bytes : List ℕ) (reason : Why) → cause_of stage (parts 10 bytes) ≡ Some reason → Stops stage bytes
stops_here stage bytes reason found = record { before = []; from_it = parts 10 bytes; lines = refl; last = stage; lead = refl; why = reason; cause = found }

one_more : (stage next_stage : LineStage) (bytes text rest : List ℕ) → LineFollows stage text next_stage → parts 10 bytes ≡ text ∷ parts 10 rest → Stops next_stage rest ⊎ Completes next_stage rest → Stops stage bytes ⊎ Completes stage bytes
one_more stage next_stage bytes text rest line_follows same_parts (inl ending) = inl (record { before = text ∷ ending.before; from_it = ending.from_it; lines = same_parts ∙ ap (λ (texts : List (List ℕ)). text ∷ texts) ending.lines; last = ending.last; lead = (next_stage, line_follows, ending.lead); why = ending.why; cause = ending.cause })
one_more stage next_stage bytes text rest line_follows same_parts (inr ending) = inr (record {
  texts = text ∷ ending.texts;
  last = ending.last;
  lead = (next_stage, line_follows, ending.lead);
  body = ending.body;
  spelled = bytes_of_line bytes text rest same_parts ∙ ap (λ (line_text : List ℕ). text ++ 10 ∷ line_text) ending.spelled ∙ sym (append_assoc text (newline ∷ []) (ended ending.texts)) ∙ sym (flat_map-cons (λ (line_text : List ℕ). line_text ++ newline ∷ []) text ending.texts);
})

-- where the bytes end
at_end : (stage : LineStage) (bytes text : List ℕ) → bytes ≡ text → end_cause stage text ≡ None → Completes stage bytes
at_end Version bytes text same_bytes no_cause = absurd cc
at_end (Heap version) bytes text same_bytes no_cause = absurd cc
at_end (Threads version regions region_words reserve) bytes text same_bytes no_cause = absurd cc
at_end (Commands version config) bytes [] same_bytes no_cause = record { texts = []; last = Commands version config; lead = refl; body = tt; spelled = same_bytes }
at_end (Commands version config) bytes (byte ∷ text) same_bytes no_cause = absurd cc
at_end (Turns config) bytes [] same_bytes no_cause = record { texts = []; last = Turns config; lead = refl; body = tt; spelled = same_bytes }
at_end (Turns config) bytes (byte ∷ text) same_bytes no_cause = absurd cc

at_last : (stage : LineStage) (bytes text : List ℕ) → parts 10 bytes ≡ text ∷ [] → (cause : Option Why) → end_cause stage text ≡ cause → Stops stage bytes ⊎ Completes stage bytes
at_last stage bytes text same_parts None has_cause = inr (at_end stage bytes text (bytes_of_last bytes text same_parts) has_cause)
at_last stage bytes text same_parts (Some reason) has_cause = inl (stops_here stage bytes reason (cut_line stage bytes text same_parts ∙ has_cause))

walk : (limit : ℕ) (stage : LineStage) (bytes : List ℕ) → Fits stage → length bytes ≤ limit → Stops stage bytes ⊎ Completes stage bytes
walk zero stage bytes fits length_within = by_first (first_line bytes).0 (first_line bytes).1 (first_line bytes).2
  where
    by_first : (text rest : List ℕ) → (parts 10 bytes ≡ text ∷ []) ⊎ (parts 10 bytes ≡ text ∷ parts 10 rest) → Stops stage bytes ⊎ Completes stage bytes
    by_first text rest (inl same_parts) = at_last stage bytes text same_parts (end_cause stage text) refl
    by_first text rest (inr same_parts) = absurd (line_has_bytes bytes text rest (bytes_of_line bytes text rest same_parts) length_within)
walk (suc limit) stage bytes fits length_within = by_first (first_line bytes).0 (first_line bytes).1 (first_line bytes).2 (λ other_stage bytes stage_fits few_bytes. walk limit other_stage bytes stage_fits few_bytes)
  where
    by_cause : (text rest : List ℕ) → parts 10 bytes ≡ text ∷ parts 10 rest → (cause : Option Why) → words_cause stage (parts 32 text) ≡ cause → ((later_stage : LineStage) (later_bytes : List ℕ) → Fits later_stage → length later_bytes ≤ limit → Stops later_stage later_bytes ⊎ Completes later_stage later_bytes) → Stops stage bytes ⊎ Completes stage bytes
    by_cause text rest same_parts (Some reason) has_cause walk_on = inl (stops_here stage bytes reason (whole_line stage bytes text rest same_parts ∙ has_cause))
    by_cause text rest same_parts None has_cause walk_on =
        let next_stage = follows stage text fits has_cause in
        one_more stage next_stage.0 bytes text rest next_stage.1 same_parts (walk_on next_stage.0 rest next_stage.2 (rest_is_shorter bytes text rest limit (bytes_of_line bytes text rest same_parts) length_within))

    by_first : (text rest : List ℕ) → (parts 10 bytes ≡ text ∷ []) ⊎ (parts 10 bytes ≡ text ∷ parts 10 rest) → ((later_stage : LineStage) (later_bytes : List ℕ) → Fits later_stage → length later_bytes ≤ limit → Stops later_stage later_bytes ⊎ Completes later_stage later_bytes) → Stops stage bytes ⊎ Completes stage bytes
    by_first text rest (inl same_parts) walk_on = at_last stage bytes text same_parts (end_cause stage text) refl
    by_first text rest (inr same_parts) walk_on = by_cause text rest same_parts (words_cause stage (parts 32 text)) refl walk_on

-- ---- lines that lead behind the head are a trace

ended-cons : (text : List ℕ) (texts : List (List ℕ)) (whole_text others : List ℕ) → text ++ newline ∷ [] ≡ whole_text → ended texts ≡ others → ended (text ∷ texts) ≡ whole_text ++ others
ended-cons text texts whole_text others same_text same_rest = flat_map-cons (λ (any_text : List ℕ). any_text ++ newline ∷ []) text texts ∙ ap (λ (any_text : List ℕ). any_text ++ ended texts) same_text ∙ ap (λ (any_text : List ℕ). whole_text ++ any_text) same_rest

of_turns : (config : Config) (texts : List (List ℕ)) (last_stage : LineStage) → Lead (Turns config) texts last_stage → (turns : List (List Item)) × AllByRecursion (IsScheduleLine config) turns × (ended texts ≡ flat_map schedule_line turns)
of_turns config [] last_stage lead = ([], tt, refl)
of_turns config (text ∷ texts) last_stage lead =
    let turn_item = lead.1.0 in
    let others = of_turns config texts last_stage (subst (λ (stage : LineStage). Lead stage texts last_stage) lead.1.1 lead.2) in
    (turn_item.0 ∷ others.0, (turn_item.1, others.1), ended-cons text texts (schedule_line turn_item.0) (flat_map schedule_line others.0) turn_item.2 others.2 ∙ sym (flat_map-cons schedule_line turn_item.0 others.0))

of_commands : (version : ℕ) (config : Config) (texts : List (List ℕ)) (last_stage : LineStage) → Lead (Commands version config) texts last_stage
    → (lines : List TraceLine) × (turns : List (List Item)) × AllByRecursion (IsLine version config.mutators) lines × AllByRecursion (IsScheduleLine config) turns × (ended texts ≡ flat_map line lines ++ flat_map schedule_line turns)
of_commands version config [] last_stage lead = ([], [], tt, tt, refl)
of_commands version config (text ∷ texts) last_stage lead = by_kind lead.0 lead.1 lead.2 (of_commands version config texts last_stage)
  where
    by_kind : (next_stage : LineStage) → LineFollows (Commands version config) text next_stage → Lead next_stage texts last_stage
        → (Lead (Commands version config) texts last_stage → (lines : List TraceLine) × (turns : List (List Item)) × AllByRecursion (IsLine version config.mutators) lines × AllByRecursion (IsScheduleLine config) turns × (ended texts ≡ flat_map line lines ++ flat_map schedule_line turns))
        → (lines : List TraceLine) × (turns : List (List Item)) × AllByRecursion (IsLine version config.mutators) lines × AllByRecursion (IsScheduleLine config) turns × (ended (text ∷ texts) ≡ flat_map line lines ++ flat_map schedule_line turns)
    by_kind next_stage (inl line_follows) lead with_rest =
        let command_line = line_follows.0 in
        let others = with_rest (subst (λ (stage : LineStage). Lead stage texts last_stage) line_follows.1 lead) in (
          command_line.0 ∷ others.0,
          others.1,
          (command_line.1, others.2),
          others.3,
          ended-cons text texts (line command_line.0) (flat_map line others.0 ++ flat_map schedule_line others.1) command_line.2 others.4 ∙ sym (append_assoc (line command_line.0) (flat_map line others.0) (flat_map schedule_line others.1))
              ∙ ap (λ (any_text : List ℕ). any_text ++ flat_map schedule_line others.1) (sym (flat_map-cons line command_line.0 others.0)),
        )
    by_kind next_stage (inr line_follows) lead with_rest =
        let command_line = line_follows.0 in
        let others = of_turns config texts last_stage (subst (λ (stage : LineStage). Lead stage texts last_stage) line_follows.1 lead) in
        ([], command_line.0 ∷ others.0, tt, (command_line.1, others.1), ended-cons text texts (schedule_line command_line.0) (flat_map schedule_line others.0) command_line.2 others.2 ∙ sym (flat_map-cons schedule_line command_line.0 others.0))

of_threads : (version regions region_words reserve : ℕ) (texts : List (List ℕ)) (last_stage : LineStage) → Lead (Threads version regions region_words reserve) texts last_stage → IsBody last_stage
    → (config : Config) × (config.regions ≡ regions) × (config.region_words ≡ region_words) × (config.reserve ≡ reserve) × (lines : List TraceLine) × (turns : List (List Item)) × AllByRecursion (IsLine version config.mutators) lines × AllByRecursion (IsScheduleLine config) turns
    × (ended texts ≡ titled (codes "threads") (config.mutators ∷ config.helpers ∷ []) ++ (flat_map line lines ++ flat_map schedule_line turns))
of_threads version regions region_words reserve [] last_stage lead body = absurd (subst IsBody (sym lead) body)
of_threads version regions region_words reserve (text ∷ texts) last_stage lead body =
    let line_follows = lead.1 in
    let found_config = line_follows.0 in
    let others = of_commands version found_config texts last_stage (subst (λ (stage : LineStage). Lead stage texts last_stage) line_follows.5 lead.2) in
    (found_config, line_follows.1, line_follows.2, line_follows.3, others.0, others.1, others.2, others.3, ended-cons text texts (titled (codes "threads") (found_config.mutators ∷ found_config.helpers ∷ [])) (flat_map line others.0 ++ flat_map schedule_line others.1) line_follows.4 others.4)

of_heap : (version : ℕ) (texts : List (List ℕ)) (last_stage : LineStage) → Lead (Heap version) texts last_stage → IsBody last_stage
    → (config : Config) × IsNarrow config × (lines : List TraceLine) × (turns : List (List Item)) × AllByRecursion (IsLine version config.mutators) lines × AllByRecursion (IsScheduleLine config) turns
    × (ended texts ≡ titled (codes "heap") (config.regions ∷ config.region_words ∷ config.reserve ∷ []) ++ (titled (codes "threads") (config.mutators ∷ config.helpers ∷ []) ++ (flat_map line lines ++ flat_map schedule_line turns)))
of_heap version [] last_stage lead body = absurd (subst IsBody (sym lead) body)
of_heap version (text ∷ texts) last_stage lead body =
    let line_follows = lead.1 in
    let heap_sizes = line_follows.0 in
    let others = of_threads version heap_sizes.regions heap_sizes.region_words heap_sizes.reserve texts last_stage (subst (λ (stage : LineStage). Lead stage texts last_stage) line_follows.3 lead.2) body in
    let found_config = others.0 in
    let same_line : titled (codes "heap") (heap_sizes.regions ∷ heap_sizes.region_words ∷ heap_sizes.reserve ∷ []) ≡ titled (codes "heap") (found_config.regions ∷ found_config.region_words ∷ found_config.reserve ∷ []) =
    ap (λ (region_count : ℕ). titled (codes "heap") (region_count ∷ heap_sizes.region_words ∷ heap_sizes.reserve ∷ [])) (sym others.1) ∙ ap (λ (word_count : ℕ). titled (codes "heap") (found_config.regions ∷ word_count ∷ heap_sizes.reserve ∷ [])) (sym others.2) ∙ ap (λ (reserve_count : ℕ). titled (codes "heap") (found_config.regions ∷ found_config.region_words ∷ reserve_count ∷ [])) (sym others.3) in
    (found_config, omega (arith, line_follows.1, others.2), others.4, others.5, others.6, others.7, ended-cons text texts (titled (codes "heap") (found_config.regions ∷ found_config.region_words ∷ found_config.reserve ∷ [])) (titled (codes "threads") (found_config.mutators ∷ found_config.helpers ∷ []) ++ (flat_map line others.4 ++ flat_map schedule_line others.5)) (line_follows.2 ∙ same_line) others.8)

of_version : (bytes : List ℕ) (texts : List (List ℕ)) (last_stage : LineStage) → length bytes ≤ most_bytes → bytes ≡ ended texts → Lead Version texts last_stage → IsBody last_stage
    → (version : ℕ) × (config : Config) × (scripts : List (List Command)) × (items : List Item) × Reads bytes version config scripts items
of_version bytes [] last_stage short spelled lead body = absurd (subst IsBody (sym lead) body)
of_version bytes (text ∷ texts) last_stage short spelled lead body =
    let line_follows = lead.1 in
    let found_version = line_follows.0 in
    let others = of_heap found_version texts last_stage (subst (λ (stage : LineStage). Lead stage texts last_stage) line_follows.3 lead.2) body in
    let found_config = others.0 in
    let shen = titled (codes "shen") (found_version ∷ []) in
    let heap = titled (codes "heap") (found_config.regions ∷ found_config.region_words ∷ found_config.reserve ∷ []) in
    let threads = titled (codes "threads") (found_config.mutators ∷ found_config.helpers ∷ []) in
    let rest = flat_map line others.2 ++ flat_map schedule_line others.3 in
    let whole_bytes : bytes ≡ header found_version found_config ++ rest = spelled ∙ ended-cons text texts shen (heap ++ (threads ++ rest)) line_follows.2 others.6 ∙ ap (λ (any_text : List ℕ). shen ++ any_text) (sym (append_assoc heap threads rest)) ∙ sym (append_assoc shen (heap ++ threads) rest) in
    (found_version, found_config, scripts_of found_config.mutators others.2, items_of others.3, record { known = line_follows.1; narrow = others.1; lines = others.2; in_range = others.4; turns = others.3; turns_in_range = others.5; spelled = whole_bytes; by_thread = refl; in_order = refl; short = short })

pub either : (bytes : List ℕ) → length bytes ≤ most_bytes → ((version : ℕ) × (config : Config) × (scripts : List (List Command)) × (items : List Item) × Reads bytes version config scripts items) ⊎ ((n : ℕ) × (why : Why) × Refused bytes n why)
either bytes short = by_end (walk (length bytes) Version bytes tt (omega arith))
  where
    by_end : Stops Version bytes ⊎ Completes Version bytes → ((version : ℕ) × (config : Config) × (scripts : List (List Command)) × (items : List Item) × Reads bytes version config scripts items) ⊎ ((line_number : ℕ) × (reason : Why) × Refused bytes line_number reason)
    by_end (inl ending) = inr (length ending.before + 1, ending.why, (record { before = ending.before; from_it = ending.from_it; lines = ending.lines; number = refl; stage = ending.last; lead = ending.lead; cause = ending.cause }, short))
    by_end (inr ending) = inl (of_version bytes ending.texts ending.last short ending.spelled ending.lead ending.body)
