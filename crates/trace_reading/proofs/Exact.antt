-- Bytes are read or refused, and never both, nor refused in two ways.
use Rattle.std.proofs.lemmas.Option.{same_Some}
use Rattle.std.proofs.Common.{◌≡◌, ◌⊎◌, ℕ, suc, ◌+◌, ◌^◌, ◌<◌, Bool, true, false, ltb, List, [], ◌∷◌, ◌++◌, length, get_or, map, Some, None, inl, inr, refl, sym, ap, subst, ◌∙◌, append-nil, arith}
use Rattle.std.specs.Prelude.{codes}
use Rattle.std.specs.List.{flat_map}
use Rattle.std.specs.Fmt.{decimal}
use Rattle.std.specs.Str.Parse.{digits_value}
use Rattle.std.proofs.lemmas.Fmt.{digits_value-decimal}
use Rattle.shen_graph.specs.declared.command.Command.{Command}
use Rattle.heap_words.specs.declared.config.Config.{Config}
use Rattle.heap_words.specs.declared.schedule.Item.{Item}
use Rattle.trace_reading.specs.Spelling.{IsVersion, line, schedule_line}
use Rattle.trace_reading.specs.Grammar.{Reads}
use Rattle.trace_reading.specs.declared.why.Why.{Why}
use Rattle.trace_reading.proofs.GrammarNumbers.{own}
use Rattle.trace_reading.proofs.Once.{same_config}
use Rattle.trace_reading.specs.Refused.{LineStage, Version, Heap, Threads, Commands, Turns, body_stage, cause_of, LineFollows, IsCommandLine, IsTurnItem, Lead, StopsAt}
use Rattle.trace_reading.proofs.HeadWords.{version_again, heap_again, threads_again}
use Rattle.trace_reading.proofs.Commands.{line_words}
use Rattle.trace_reading.proofs.ScheduleWords.{words_of_turn}
use Rattle.trace_reading.proofs.Leads.{few_threads, line_text, turn_text, no_number, fine}
use Rattle.trace_reading.proofs.Begins.{Begun, begun_head, begun_lines, begun_turns}

-- ---- what follows a line is one thing

same_number : (n m : ℕ) → n < 2 ^ 64 → m < 2 ^ 64 → decimal n ≡ decimal m → n ≡ m
same_number n m first_small second_small same_digits = sym (digits_value-decimal own n first_small) ∙ ap (digits_value 10) same_digits ∙ digits_value-decimal own m second_small

same_words : (words other_words : List (List ℕ)) (index : ℕ) → words ≡ other_words → get_or words index [] ≡ get_or other_words index []
same_words words other_words index same_list = ap (λ (listed : List (List ℕ)). get_or listed index []) same_list

same_version : (first_version other_version : ℕ) → IsVersion first_version → IsVersion other_version → codes "shen" ∷ map decimal (first_version ∷ []) ≡ codes "shen" ∷ map decimal (other_version ∷ []) → first_version ≡ other_version
same_version first_version other_version version right_version same_line = same_number first_version other_version (omega (arith, version.1)) (omega (arith, right_version.1)) (same_words (codes "shen" ∷ map decimal (first_version ∷ [])) (codes "shen" ∷ map decimal (other_version ∷ [])) 1 same_line)

same_heap : (version : ℕ) (config other_config : Config) → codes "heap" ∷ map decimal (config.regions ∷ config.region_words ∷ config.reserve ∷ []) ≡ codes "heap" ∷ map decimal (other_config.regions ∷ other_config.region_words ∷ other_config.reserve ∷ []) → Threads version config.regions config.region_words config.reserve ≡ Threads version other_config.regions other_config.region_words other_config.reserve
same_heap version config other_config same_line =
    let words = codes "heap" ∷ map decimal (config.regions ∷ config.region_words ∷ config.reserve ∷ []) in
    let other_words = codes "heap" ∷ map decimal (other_config.regions ∷ other_config.region_words ∷ other_config.reserve ∷ []) in
    let same_regions = same_number config.regions other_config.regions (omega (arith, config.in_range.most_regions)) (omega (arith, other_config.in_range.most_regions)) (same_words words other_words 1 same_line) in
    let same_word_counts = same_number config.region_words other_config.region_words (omega (arith, config.in_range.most_words)) (omega (arith, other_config.in_range.most_words)) (same_words words other_words 2 same_line) in
    let same_reserve = same_number config.reserve other_config.reserve (omega (arith, config.in_range.some_left, config.in_range.most_regions)) (omega (arith, other_config.in_range.some_left, other_config.in_range.most_regions)) (same_words words other_words 3 same_line) in
    ap (λ (regions : ℕ). Threads version regions config.region_words config.reserve) same_regions ∙ ap (λ (region_words : ℕ). Threads version other_config.regions region_words config.reserve) same_word_counts ∙ ap (λ (reserve : ℕ). Threads version other_config.regions other_config.region_words reserve) same_reserve

same_threads : (regions region_words reserve : ℕ) (config other_config : Config) → config.regions ≡ regions → config.region_words ≡ region_words → config.reserve ≡ reserve → other_config.regions ≡ regions → other_config.region_words ≡ region_words → other_config.reserve ≡ reserve
    → codes "threads" ∷ map decimal (config.mutators ∷ config.helpers ∷ []) ≡ codes "threads" ∷ map decimal (other_config.mutators ∷ other_config.helpers ∷ []) → config ≡ other_config
same_threads regions region_words reserve config other_config c_regions c_words c_reserve d_regions d_words d_reserve same_line =
    let words = codes "threads" ∷ map decimal (config.mutators ∷ config.helpers ∷ []) in
    let other_words = codes "threads" ∷ map decimal (other_config.mutators ∷ other_config.helpers ∷ []) in
    let same_mutators = same_number config.mutators other_config.mutators (omega (arith, config.in_range.most_mutators)) (omega (arith, other_config.in_range.most_mutators)) (same_words words other_words 1 same_line) in
    let same_helpers = same_number config.helpers other_config.helpers (omega (arith, config.in_range.most_helpers)) (omega (arith, other_config.in_range.most_helpers)) (same_words words other_words 2 same_line) in
    same_config config other_config (c_regions ∙ sym d_regions) (c_words ∙ sym d_words) same_mutators same_helpers (c_reserve ∙ sym d_reserve)

-- a line of a command is no line of the schedule
not_both : (version : ℕ) (config : Config) (text : List ℕ) → IsCommandLine version config text → IsTurnItem config text → ⊥
not_both version config text command_line turn_line =
    let trace_line = command_line.0 in
    let command_first = (line_text version config.mutators text trace_line (few_threads config) command_line.1 command_line.2).0 in
    let turn_first = (turn_text config text turn_line.0 turn_line.1 turn_line.2).0 in
    let small : trace_line.thread < 2 ^ 64 = omega (arith, command_line.1.to_last, few_threads config) in
    let same_word : decimal trace_line.thread ≡ 33 ∷ [] = same_words (line_words trace_line) (words_of_turn turn_line.0) 0 (sym command_first ∙ turn_first) in
    no_number trace_line.thread small same_word

same_next : (stage : LineStage) (text : List ℕ) (first_stage second_stage : LineStage) → LineFollows stage text first_stage → LineFollows stage text second_stage → first_stage ≡ second_stage
same_next Version text stage first_stage line_follows second_follows = line_follows.3 ∙ ap Heap (same_version line_follows.0 second_follows.0 line_follows.1 second_follows.1 (sym (version_again line_follows.0 text line_follows.1 line_follows.2).2 ∙ (version_again second_follows.0 text second_follows.1 second_follows.2).2)) ∙ sym second_follows.3
same_next (Heap version) text stage first_stage line_follows second_follows = line_follows.3 ∙ same_heap version line_follows.0 second_follows.0 (sym (heap_again version line_follows.0 text line_follows.1 line_follows.2).2 ∙ (heap_again version second_follows.0 text second_follows.1 second_follows.2).2) ∙ sym second_follows.3
same_next (Threads version regions region_words reserve) text stage first_stage line_follows second_follows =
    line_follows.5 ∙ ap (Commands version) (same_threads regions region_words reserve line_follows.0 second_follows.0 line_follows.1 line_follows.2 line_follows.3 second_follows.1 second_follows.2 second_follows.3 (sym (threads_again version regions region_words reserve line_follows.0 text line_follows.4).2 ∙ (threads_again version regions region_words reserve second_follows.0 text second_follows.4).2)) ∙ sym second_follows.5
same_next (Commands version config) text stage first_stage (inl first_follows) (inl second_follows) = first_follows.1 ∙ sym second_follows.1
same_next (Commands version config) text stage first_stage (inl first_follows) (inr second_follows) = absurd (not_both version config text first_follows.0 second_follows.0)
same_next (Commands version config) text stage first_stage (inr first_follows) (inl second_follows) = absurd (not_both version config text second_follows.0 first_follows.0)
same_next (Commands version config) text stage first_stage (inr first_follows) (inr second_follows) = first_follows.1 ∙ sym second_follows.1
same_next (Turns config) text stage first_stage line_follows second_follows = line_follows.1 ∙ sym second_follows.1

-- ---- lines lead to one end

-- a line with a cause is the first of these, or they are the empty text behind the last end of a line
abbrev IsEnding : LineStage → List (List ℕ) → Type 0
IsEnding stage texts = ((reason : Why) × (cause_of stage texts ≡ Some reason)) ⊎ ((texts ≡ [] ∷ []) × (cause_of stage texts ≡ None))

no_ending : (stage : LineStage) → IsEnding stage [] → ⊥
unfolding cause_of
no_ending stage (inl ending) = let cause_given = ending.1 in cc
no_ending stage (inr ending) = let cause_given = ending.0 in cc

goes_on : (stage next_stage : LineStage) (text : List ℕ) (others : List (List ℕ)) → LineFollows stage text next_stage → (others ≡ [] → ⊥) → IsEnding stage (text ∷ others) → ⊥
unfolding cause_of
goes_on stage next_stage text [] line_follows some_left ending = some_left refl
goes_on stage next_stage text (second_text ∷ others) line_follows some_left (inl ends_so) = let no_cause = (fine stage text next_stage line_follows).0 in let cause_given = ends_so.1 in cc
goes_on stage next_stage text (second_text ∷ others) line_follows some_left (inr ends_so) = let cause_given = ends_so.0 in cc

not_empty : (stage : LineStage) (xs ys : List (List ℕ)) → IsEnding stage ys → xs ++ ys ≡ [] → ⊥
not_empty stage [] ys ending joined_none = no_ending stage (subst (IsEnding stage) joined_none ending)
not_empty stage (x ∷ xs) ys ending joined_none = absurd cc

heads : (x y : List ℕ) (xs ys : List (List ℕ)) → x ∷ xs ≡ y ∷ ys → (x ≡ y) × (xs ≡ ys)
heads x y xs ys same_list = (cc, cc)

pub one_end : (stage : LineStage) (xs ys : List (List ℕ)) (first_stage second_stage : LineStage) (first_rest second_rest : List (List ℕ)) → Lead stage xs first_stage → Lead stage ys second_stage → xs ++ first_rest ≡ ys ++ second_rest → IsEnding first_stage first_rest → IsEnding second_stage second_rest → (length xs ≡ length ys) × (cause_of first_stage first_rest ≡ cause_of second_stage second_rest)
one_end stage [] [] first_stage second_stage first_left second_rest lead second_lead both_same ending second_ending = (refl, ap (λ (stage : LineStage). cause_of stage first_left) (sym lead ∙ second_lead) ∙ ap (cause_of second_stage) both_same)
one_end stage [] (text ∷ rest) first_stage second_stage first_left first_rest lead second_lead both_same ending second_ending =
    absurd (goes_on stage second_lead.0 text (rest ++ first_rest) second_lead.1 (not_empty second_stage rest first_rest second_ending) (subst (IsEnding stage) both_same (subst (λ (stage : LineStage). IsEnding stage first_left) (sym lead) ending)))
one_end stage (text ∷ rest) [] first_stage second_stage first_rest second_rest lead second_lead both_same ending second_ending =
    absurd (goes_on stage lead.0 text (rest ++ first_rest) lead.1 (not_empty first_stage rest first_rest ending) (subst (IsEnding stage) (sym both_same) (subst (λ (stage : LineStage). IsEnding stage second_rest) (sym second_lead) second_ending)))
one_end stage (text ∷ rest) (y ∷ ys) first_stage second_stage first_left second_rest lead second_lead same_lines ending second_ending =
    let same_heads = heads text y (rest ++ first_left) (ys ++ second_rest) same_lines in
    let both_same : lead.0 ≡ second_lead.0 = same_next stage text lead.0 second_lead.0 lead.1 (subst (λ (any_text : List ℕ). LineFollows stage any_text second_lead.0) (sym same_heads.0) second_lead.1) in
    let others = one_end second_lead.0 rest ys first_stage second_stage first_left second_rest (subst (λ (stage : LineStage). Lead stage rest first_stage) both_same lead.2) second_lead.2 same_heads.1 ending second_ending in
    (ap suc others.0, others.1)

-- bytes are refused once
pub refused_once : (bytes : List ℕ) (line_number other_number : ℕ) (reason other_reason : Why) → StopsAt bytes line_number reason → StopsAt bytes other_number other_reason → (line_number ≡ other_number) × (reason ≡ other_reason)
refused_once bytes line_number other_number reason other_reason stops_at other_stop =
    let same_end = one_end Version stops_at.before other_stop.before stops_at.stage other_stop.stage stops_at.from_it other_stop.from_it stops_at.lead other_stop.lead (sym stops_at.lines ∙ other_stop.lines) (inl (reason, stops_at.cause)) (inl (other_reason, other_stop.cause)) in
    (omega (arith, stops_at.number, other_stop.number, same_end.0), same_Some reason other_reason (sym stops_at.cause ∙ same_end.1 ∙ other_stop.cause))

-- ---- what is read is not refused

body_ends : (version : ℕ) (config : Config) (has_turns : Bool) → cause_of (body_stage version config has_turns) ([] ∷ []) ≡ None
unfolding cause_of
body_ends version config true = refl
body_ends version config false = refl

pub never_both : (bytes : List ℕ) (version : ℕ) (config : Config) (scripts : List (List Command)) (items : List Item) (line_number : ℕ) (reason : Why) → Reads bytes version config scripts items → StopsAt bytes line_number reason → ⊥
never_both bytes version config scripts items line_number reason reads stops =
    let head = begun_head bytes (flat_map line reads.lines ++ flat_map schedule_line reads.turns) version config reads.known reads.narrow reads.spelled in
    let lines = begun_lines bytes reads.lines (flat_map schedule_line reads.turns) 3 version config reads.in_range head in
    let turns = begun_turns bytes reads.turns [] (3 + length reads.lines) version config reads.turns_in_range (subst (λ (given_bytes : List ℕ). Begun bytes given_bytes (3 + length reads.lines) (Commands version config)) (sym (append-nil (flat_map schedule_line reads.turns))) lines) in
    let stage = body_stage version config (ltb 0 (length reads.turns)) in
    let no_cause = body_ends version config (ltb 0 (length reads.turns)) in
    let same_end = one_end Version turns.before stops.before stage stops.stage ([] ∷ []) stops.from_it turns.lead stops.lead (sym turns.lines ∙ stops.lines) (inr (refl, no_cause)) (inl (reason, stops.cause)) in
    let same_cause = sym no_cause ∙ same_end.1 ∙ stops.cause in
    absurd cc
