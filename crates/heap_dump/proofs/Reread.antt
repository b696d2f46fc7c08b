-- Bytes are one dump and its trace at most, and what is read is not refused.
use Rattle.std.proofs.Common.{ℕ, ◌≡◌, ◌+◌, inl, inr, List, [], ◌∷◌, ◌++◌, length, codes, refl, sym, ap, subst, ◌∙◌, None, append-nil, ltb, Bool, true, false, arith}
use Rattle.std.specs.List.{flat_map, join_with_byte}
use Rattle.std.proofs.lemmas.List.Splits.{join_with_byte-slice_split}
use Rattle.shen_graph.specs.declared.command.Command.{Command}
use Rattle.heap_words.specs.declared.config.Config.{Config}
use Rattle.heap_words.specs.declared.schedule.Item.{Item}
use Rattle.trace_reading.specs.Spelling.{TraceLine, line, IsLine, schedule_line, IsScheduleLine}
use Rattle.std.specs.List.{AllByRecursion}
use Rattle.shen_graph.proofs.Lists.{cons_injective}
use Rattle.trace_reading.specs.Grammar.{scripts_of, items_of}
use Rattle.trace_reading.specs.declared.why.Why.{Why}
use Rattle.trace_reading.proofs.Traces.{lines_once, turns_behind}
use Rattle.trace_reading.proofs.Once.{turns_once}
use Rattle.trace_reading.specs.Causes.{parts}
use Rattle.trace_reading.proofs.Free.{parts_at}
use Rattle.trace_reading.specs.Refused.{body_stage, cause_of}
use Rattle.trace_reading.specs.Refused.LineStage.{Commands}
use Rattle.heap_dump.specs.Dumped.{Dumped, IsDump}
use Rattle.heap_dump.specs.DumpsToRun.{run_version, Resumes, mark_line, IsSameReading}
use Rattle.heap_dump.specs.DumpLines.{DumpStage, Version, Heap, Threads, Counts, Listed, Behind, DumpFollows, DumpLead, DumpStopsAt, Spells}
use Rattle.heap_dump.specs.Steps.{Leads}
use Rattle.heap_dump.proofs.Steps.{leads_both, IsDumping}
use Rattle.heap_dump.proofs.Spelled.{never_back}
use Rattle.heap_dump.proofs.Stopped.{behind_lines, behind_first}
use Rattle.heap_dump.proofs.Relined.{dump_leads, mark_leads, lines_of}
use Rattle.heap_dump.proofs.LineOnce.{IsWithin, Same, same_back, carry, follows_once, listed_once}
use Rattle.heap_dump.proofs.DumpEnds.{within_next, dump_end}

-- ---- what was read leads to the end

body_leads : (dump : Dumped) (lines : List TraceLine) (turns : List (List Item)) → AllByRecursion (IsLine run_version dump.config.mutators) lines → AllByRecursion (IsScheduleLine dump.config) turns
    → Leads (Behind (Commands run_version dump.config)) (flat_map line lines ++ flat_map schedule_line turns) [] (length lines + length turns) (Behind (body_stage run_version dump.config (ltb 0 (length turns))))
body_leads dump lines turns in_lines in_turns =
    let config = dump.config in
    let begin_stage = Behind (Commands run_version config) in
    let last_stage = Behind (body_stage run_version config (ltb 0 (length turns))) in
    let later = flat_map schedule_line turns in
    let turns_lead : Leads begin_stage later [] (length turns) last_stage = subst (λ (bytes : List ℕ). Leads begin_stage bytes [] (length turns) last_stage) (append-nil later) (behind_first config turns [] in_turns) in
    leads_both begin_stage begin_stage last_stage (flat_map line lines ++ later) later [] (length lines) (length turns) (behind_lines config lines later in_lines) turns_lead

abbrev body_of : (lines : List TraceLine) (turns : List (List Item)) → List ℕ
body_of lines turns = flat_map line lines ++ flat_map schedule_line turns

-- the lines of the bytes up to the line `trace`
to_mark : (bytes : List ℕ) (dump : Dumped) (scripts : List (List Command)) (items : List Item) → (resumes : Resumes bytes dump scripts items) → Leads Version bytes (mark_line ++ body_of resumes.lines resumes.turns) (lines_of dump) (Listed dump)
to_mark bytes dump scripts items resumes =
    subst (λ (given_bytes : List ℕ). Leads Version given_bytes (mark_line ++ body_of resumes.lines resumes.turns) (lines_of dump) (Listed dump)) (sym resumes.spelled) (dump_leads dump (mark_line ++ body_of resumes.lines resumes.turns) resumes.dump)

to_end : (bytes : List ℕ) (dump : Dumped) (scripts : List (List Command)) (items : List Item) → (resumes : Resumes bytes dump scripts items)
    → Leads Version bytes [] (lines_of dump + (1 + (length resumes.lines + length resumes.turns))) (Behind (body_stage run_version dump.config (ltb 0 (length resumes.turns))))
to_end bytes dump scripts items resumes =
    let body = body_of resumes.lines resumes.turns in
    let begin_stage = Behind (Commands run_version dump.config) in
    let last_stage = Behind (body_stage run_version dump.config (ltb 0 (length resumes.turns))) in
    leads_both Version (Listed dump) last_stage bytes (mark_line ++ body) [] (lines_of dump) (1 + (length resumes.lines + length resumes.turns)) (to_mark bytes dump scripts items resumes)
    (leads_both (Listed dump) begin_stage last_stage (mark_line ++ body) body [] 1 (length resumes.lines + length resumes.turns) (mark_leads dump body resumes.dump) (body_leads dump resumes.lines resumes.turns resumes.in_range resumes.turns_in_range))

body_ends : (config : Config) (has_turns : Bool) → cause_of (body_stage run_version config has_turns) ([] ∷ []) ≡ None
unfolding cause_of
body_ends config true = refl
body_ends config false = refl

pub never_both : (bytes : List ℕ) (dump : Dumped) (scripts : List (List Command)) (items : List Item) (n : ℕ) (why : Why) → Resumes bytes dump scripts items → DumpStopsAt bytes n why → ⊥
never_both bytes dump scripts items n why reads stops =
    let led = to_end bytes dump scripts items reads in
    let end_stage = body_stage run_version dump.config (ltb 0 (length reads.turns)) in
    let no_cause = body_ends dump.config (ltb 0 (length reads.turns)) in
    let dump_stops = dump_end Version Version led.texts stops.before (Behind end_stage) stops.stage ([] ∷ []) stops.from_it (inl refl) tt led.lead stops.lead (sym led.cut ∙ stops.lines) (inr (end_stage, refl, refl, no_cause)) (inl (why, stops.cause)) in
    let causes = dump_stops.causes in
    absurd cc

-- ---- one dump

-- before the line `trace`
listing : (later_texts : List (List ℕ)) (stage : DumpStage) (dump : Dumped) → DumpLead stage later_texts (Listed dump) → IsDumping stage
listing later_texts (Behind stage) dump lead = absurd (never_back later_texts stage dump lead)
listing later_texts Version dump lead = tt
listing later_texts Heap dump lead = tt
listing later_texts (Threads config) dump lead = tt
listing later_texts (Counts config) dump lead = tt
listing later_texts (Listed other_dump) dump lead = tt

-- behind the line `trace` no dump goes on
no_dump : (dump : Dumped) (text : List ℕ) (rest : List (List ℕ)) (next_stage : DumpStage) (other_dump : Dumped) → IsWithin (Listed dump) → IsDump dump → Spells text mark_line → DumpFollows (Listed dump) text next_stage → DumpLead next_stage rest (Listed other_dump) → ⊥
no_dump dump text rest next_stage other_dump dump_within is_dump mark dump_follows lead =
    let same_stage = listed_once dump text next_stage (Behind (Commands run_version dump.config)) dump_within dump_follows (inr (inr (is_dump, mark, refl))) in
    never_back rest (Commands run_version dump.config) other_dump (subst (λ (stage : DumpStage). DumpLead stage rest (Listed other_dump)) same_stage lead)

listed_same : (dump other_dump : Dumped) → Same (Listed dump) (Listed other_dump) → dump ≡ other_dump
listed_same dump other_dump (inl x) = cc
listed_same dump other_dump (inr x) = absurd (let same_stage : Listed dump ≡ Threads x.0 = x.2 in no_heap dump x.0 same_stage)
  where
    no_heap : (dump : Dumped) (config : Config) → Listed dump ≡ Threads config → ⊥
    no_heap dump config other_dump = absurd cc

record OneMark (dump other_dump : Dumped) (p q : List (List ℕ)) : Type 0 where
  pub dumps : dump ≡ other_dump
  pub rests : p ≡ q

marks_once : (stage other_stage : DumpStage) (xs ys : List (List ℕ)) (dump other_dump : Dumped) (text : List ℕ) (first_rest second_rest : List (List ℕ)) → Same stage other_stage → IsWithin stage → IsDump dump → IsDump other_dump → Spells text mark_line → DumpLead stage xs (Listed dump) → DumpLead other_stage ys (Listed other_dump)
    → xs ++ text ∷ first_rest ≡ ys ++ text ∷ second_rest → OneMark dump other_dump first_rest second_rest
marks_once stage other_stage [] [] dump other_dump text first_rest second_rest stages_alike stage_is_within is_dump also mark first_lead second_lead same_texts =
    record { dumps = listed_same dump other_dump (subst (λ (stage : DumpStage). Same (Listed dump) stage) second_lead (subst (λ (stage : DumpStage). Same stage other_stage) first_lead stages_alike)); rests = (cons_injective text text first_rest second_rest same_texts).1 }
marks_once stage other_stage [] (y ∷ ys) dump other_dump text first_rest second_rest stages_alike stage_is_within is_dump also mark first_lead second_lead same_texts =
    let same_text = (cons_injective text y first_rest (ys ++ text ∷ second_rest) same_texts).0 in
    let follows : DumpFollows (Listed dump) text second_lead.0 = subst (λ (stage : DumpStage). DumpFollows stage text second_lead.0) first_lead (carry stage other_stage text second_lead.0 stages_alike (subst (λ (given_text : List ℕ). DumpFollows other_stage given_text second_lead.0) (sym same_text) second_lead.1)) in
    absurd (no_dump dump text ys second_lead.0 other_dump (subst IsWithin first_lead stage_is_within) is_dump mark follows second_lead.2)
marks_once stage other_stage (x ∷ xs) [] dump second_dump text first_rest second_rest stages_alike stage_is_within is_dump also mark first_lead second_lead same_texts =
    let same_text = (cons_injective x text (xs ++ text ∷ first_rest) second_rest same_texts).0 in
    let follows : DumpFollows (Listed second_dump) text first_lead.0 = subst (λ (stage : DumpStage). DumpFollows stage text first_lead.0) second_lead (carry other_stage stage text first_lead.0 (same_back stage other_stage stages_alike) (subst (λ (given_text : List ℕ). DumpFollows stage given_text first_lead.0) same_text first_lead.1)) in
    absurd (no_dump second_dump text xs first_lead.0 dump (within_listed stage other_stage second_dump stages_alike second_lead stage_is_within) also mark follows first_lead.2)
  where
    within_listed : (stage other_stage : DumpStage) (listed_dump : Dumped) → Same stage other_stage → other_stage ≡ Listed listed_dump → IsWithin stage → IsWithin (Listed listed_dump)
    within_listed stage other_stage listed_dump (inl x) is_listed stage_within = subst IsWithin (x ∙ is_listed) stage_within
    within_listed stage other_stage listed_dump (inr x) is_listed stage_within = absurd (no_heap listed_dump x.1 (sym is_listed ∙ x.3))
      where
        no_heap : (dump : Dumped) (config : Config) → Listed dump ≡ Threads config → ⊥
        no_heap dump config same_stage = absurd cc
marks_once stage other_stage (first_text ∷ rest) (y ∷ ys) dump other_dump text first_rest second_rest stages_alike stage_is_within is_dump also mark first_lead second_lead same_texts =
    let same_text = cons_injective first_text y (rest ++ text ∷ first_rest) (ys ++ text ∷ second_rest) same_texts in
    let follows : DumpFollows stage first_text second_lead.0 = subst (λ (given_text : List ℕ). DumpFollows stage given_text second_lead.0) (sym same_text.0) (carry stage other_stage y second_lead.0 stages_alike second_lead.1) in
    marks_once first_lead.0 second_lead.0 rest ys dump other_dump text first_rest second_rest (follows_once stage first_text first_lead.0 second_lead.0 (listing (first_text ∷ rest) stage dump first_lead) stage_is_within first_lead.1 follows) (within_next stage first_text first_lead.0 stage_is_within first_lead.1) is_dump also mark first_lead.2 second_lead.2 same_text.1

same_bytes : (first_bytes second_bytes : List ℕ) → parts 10 first_bytes ≡ parts 10 second_bytes → first_bytes ≡ second_bytes
same_bytes first_bytes second_bytes same_parts = sym (join_with_byte-slice_split 10 first_bytes) ∙ ap (join_with_byte 10) same_parts ∙ join_with_byte-slice_split 10 second_bytes

-- bytes are read as one dump at most
pub read_once : (bytes : List ℕ) (dump other_dump : Dumped) (scripts other_scripts : List (List Command)) (items other_items : List Item) → Resumes bytes dump scripts items → Resumes bytes other_dump other_scripts other_items → IsSameReading dump scripts items other_dump other_scripts other_items
read_once bytes dump other_dump scripts other_scripts items other_items resumes other_resumes =
    let first_marks = to_mark bytes dump scripts items resumes in
    let second_marks = to_mark bytes other_dump other_scripts other_items other_resumes in
    let first_body = body_of resumes.lines resumes.turns in
    let other_body = body_of other_resumes.lines other_resumes.turns in
    let mark = codes "trace" in
    let cut_one : parts 10 bytes ≡ first_marks.texts ++ mark ∷ parts 10 first_body = first_marks.cut ∙ ap (λ (given_texts : List (List ℕ)). first_marks.texts ++ given_texts) (mark_cut first_body) in
    let cut_two : parts 10 bytes ≡ second_marks.texts ++ mark ∷ parts 10 other_body = second_marks.cut ∙ ap (λ (given_texts : List (List ℕ)). second_marks.texts ++ given_texts) (mark_cut other_body) in
    let same_marks = marks_once Version Version first_marks.texts second_marks.texts dump other_dump mark (parts 10 first_body) (parts 10 other_body) (inl refl) tt resumes.dump other_resumes.dump refl first_marks.lead second_marks.lead (sym cut_one ∙ cut_two) in
    let dump_config = dump.config in
    let config : dump_config ≡ other_dump.config = ap (λ (dump : Dumped). dump.config) same_marks.dumps in
    let bodies : first_body ≡ other_body = same_bytes first_body other_body same_marks.rests in
    let in_lines = subst (λ (config : Config). AllByRecursion (IsLine run_version config.mutators) other_resumes.lines) (sym config) other_resumes.in_range in
    let in_turns = subst (λ (config : Config). AllByRecursion (IsScheduleLine config) other_resumes.turns) (sym config) other_resumes.turns_in_range in
    let lines = lines_once run_version dump_config.mutators resumes.lines other_resumes.lines (flat_map schedule_line resumes.turns) (flat_map schedule_line other_resumes.turns) (omega (arith, dump_config.in_range.most_mutators)) resumes.in_range in_lines (turns_behind resumes.turns) (turns_behind other_resumes.turns) bodies in
    let turns = turns_once dump_config resumes.turns other_resumes.turns resumes.turns_in_range in_turns lines.1 in
    record {
      dump = same_marks.dumps;
      scripts = resumes.by_thread ∙ ap (scripts_of dump_config.mutators) lines.0 ∙ ap (λ (config : Config). scripts_of config.mutators other_resumes.lines) config ∙ sym other_resumes.by_thread;
      items = resumes.in_order ∙ ap items_of turns ∙ sym other_resumes.in_order;
    }
  where
    mark_cut : (first_body : List ℕ) → parts 10 (mark_line ++ first_body) ≡ codes "trace" ∷ parts 10 first_body
    mark_cut first_body = parts_at 10 (codes "trace") first_body refl
