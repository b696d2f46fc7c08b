-- A trace has no line `answer`.
use Rattle.std.proofs.Common.{◌≡◌, ℕ, ◌+◌, List, [], ◌∷◌, ◌++◌, length, ltb, codes, refl, ap, subst, ◌∙◌, append_assoc}
use Rattle.std.specs.List.{flat_map}
use Rattle.std.proofs.lemmas.List.{append_cancel_right}
use Rattle.shen_graph.specs.declared.command.Command.{Command}
use Rattle.heap_words.specs.declared.config.Config.{Config}
use Rattle.heap_words.specs.declared.schedule.Item.{Item}
use Rattle.trace_reading.specs.Spelling.{line, header, schedule_line}
use Rattle.trace_reading.specs.Grammar.{Reads}
use Rattle.trace_reading.specs.Causes.{title_cause, command_cause}
use Rattle.trace_reading.specs.Refused.{LineStage, Version, Heap, Threads, Commands, Turns, body_stage, words_cause, LineFollows, Lead}
use Rattle.trace_reading.proofs.Free.{parts_at}
use Rattle.trace_reading.proofs.Leads.{fine}
use Rattle.trace_reading.proofs.Begins.{begun_head, begun_lines, begun_turns}
use Rattle.trace_text.specs.LineCuts.{with_ends, IsCutAt}
use Rattle.trace_text.proofs.CutLines.{AreOthers, bytes_of_lines}

no_answer : (stage next_stage : LineStage) → LineFollows stage (codes "answer") next_stage → ⊥
unfolding words_cause title_cause command_cause
no_answer Version next_stage line_follows = let not_answer = (fine Version (codes "answer") next_stage line_follows).0 in cc
no_answer (Heap version) next_stage line_follows = let not_answer = (fine (Heap version) (codes "answer") next_stage line_follows).0 in cc
no_answer (Threads version regions region_words reserve) next_stage line_follows = let not_answer = (fine (Threads version regions region_words reserve) (codes "answer") next_stage line_follows).0 in cc
no_answer (Commands version config) next_stage line_follows = let not_answer = (fine (Commands version config) (codes "answer") next_stage line_follows).0 in cc
no_answer (Turns config) next_stage line_follows = let not_answer = (fine (Turns config) (codes "answer") next_stage line_follows).0 in cc

lead_others : (stage : LineStage) (texts : List (List ℕ)) (last_stage : LineStage) → Lead stage texts last_stage → AreOthers (codes "answer") texts
lead_others stage [] last_stage lead = tt
lead_others stage (text ∷ texts) last_stage lead = (λ same_text. no_answer stage lead.0 (subst (λ (given_text : List ℕ). LineFollows stage given_text lead.0) same_text lead.1), lead_others lead.0 texts last_stage lead.2)

-- behind a trace the line `answer` is the first that is so
pub trace_cut : (trace behind : List ℕ) (version : ℕ) (config : Config) (scripts : List (List Command)) (items : List Item) → Reads trace version config scripts items → IsCutAt (codes "answer") (trace ++ (codes "answer" ++ 10 ∷ behind)) trace behind
trace_cut trace behind version config scripts items reads =
    let rest = codes "answer" ++ 10 ∷ behind in
    let whole_text = trace ++ rest in
    let lines = flat_map line reads.lines in
    let turns = flat_map schedule_line reads.turns in
    let spelled : whole_text ≡ header version config ++ (lines ++ (turns ++ rest)) =
    ap (λ (given_bytes : List ℕ). given_bytes ++ rest) reads.spelled ∙ append_assoc (header version config) (lines ++ turns) rest ∙ ap (λ (given_bytes : List ℕ). header version config ++ given_bytes) (append_assoc lines turns rest) in
    let head = begun_head whole_text (lines ++ (turns ++ rest)) version config reads.known reads.narrow spelled in
    let commands = begun_lines whole_text reads.lines (turns ++ rest) 3 version config reads.in_range head in
    let all_begun = begun_turns whole_text reads.turns rest (3 + length reads.lines) version config reads.turns_in_range commands in
    record {
      lines = all_begun.before;
      parts_are = all_begun.lines ∙ ap (λ (texts : List (List ℕ)). all_begun.before ++ texts) (parts_at 10 (codes "answer") behind refl);
      others = lead_others Version all_begun.before (body_stage version config (ltb 0 (length reads.turns))) all_begun.lead;
      before_is = append_cancel_right trace (with_ends all_begun.before) rest (bytes_of_lines all_begun.before whole_text rest all_begun.lines);
    }
