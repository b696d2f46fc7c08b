-- Where the reading of a dump and its trace stops.
use Rattle.std.proofs.Common.{ℕ, suc, ◌≡◌, ◌+◌, ◌≤◌, Bool, true, List, [], ◌∷◌, ◌++◌, length, ltb, inl, inr, refl, sym, ap, subst, ◌∙◌, append_assoc, arith}
use Rattle.std.specs.List.{flat_map, join_with_byte, AllByRecursion}
use Rattle.std.proofs.lemmas.Bool.Decides.{nat_tests}
use Rattle.std.proofs.lemmas.List.Concat.{flat_map-cons}
use Rattle.heap_words.specs.declared.config.Config.{Config}
use Rattle.heap_words.specs.declared.schedule.Item.{Item}
use Rattle.trace_reading.specs.Spelling.{TraceLine, IsLine, line, newline, schedule_line, IsScheduleLine}
use Rattle.trace_reading.specs.Grammar.{most_bytes}
use Rattle.trace_reading.specs.declared.why.Why.{Why}
use Rattle.trace_reading.specs.Causes.{parts}
use Rattle.trace_reading.specs.Refused.{LineStage, Commands, Turns, body_stage, LineFollows}
use Rattle.trace_reading.proofs.Commands.{line_words, line_is}
use Rattle.trace_reading.proofs.ScheduleWords.{words_of_turn, turn_is}
use Rattle.trace_reading.proofs.Leads.{line_in_front}
use Rattle.trace_reading.specs.Stops.{StopsBody}
use Rattle.heap_dump.specs.DumpsToRun.{run_version}
use Rattle.heap_dump.specs.DumpLines.{DumpStage, Version, Behind, DumpRefused}
use Rattle.heap_dump.specs.Steps.{Leads, StopsAt}
use Rattle.heap_dump.proofs.Steps.{leads_none, leads_one, leads_both}

pub refused : (bytes : List ℕ) (line_number : ℕ) (why : Why) → length bytes ≤ most_bytes → StopsAt Version 1 bytes line_number why → DumpRefused bytes line_number why
refused bytes line_number why at_most stops = (
  record {
    before = stops.led.texts;
    from_it = parts newline stops.rest;
    lines = stops.led.cut;
    number = omega (arith, stops.number, stops.led.count);
    stage = stops.at;
    lead = stops.led.lead;
    cause = stops.cause;
  },
  at_most,
)

-- ---- lines of a trace behind a dump

front_line : (text whole_line rest : List ℕ) → text ++ newline ∷ [] ≡ whole_line → text ++ 10 ∷ rest ≡ whole_line ++ rest
front_line text whole_line rest is_line = sym (append_assoc text (newline ∷ []) rest) ∙ ap (λ (bytes : List ℕ). bytes ++ rest) is_line

behind_one : (stage next : LineStage) (text whole_line rest : List ℕ) → text ++ newline ∷ [] ≡ whole_line → LineFollows stage text next → Leads (Behind stage) (whole_line ++ rest) rest 1 (Behind next)
behind_one stage next text whole_line rest is_line line_follows =
    subst (λ (any_bytes : List ℕ). Leads (Behind stage) any_bytes rest 1 (Behind next)) (front_line text whole_line rest is_line)
    (leads_one (Behind stage) (Behind next) (text ++ 10 ∷ rest) text rest (line_in_front stage text rest next line_follows) (next, line_follows, refl))

one_more : (stage other_stage : DumpStage) (bytes rest : List ℕ) (count : ℕ) → Leads stage bytes rest (1 + count) other_stage → Leads stage bytes rest (suc count) other_stage
one_more stage other_stage bytes rest count led =
    let same_count : 1 + count ≡ suc count = omega arith in
    subst (λ (lines : ℕ). Leads stage bytes rest lines other_stage) same_count led

pub behind_lines : (config : Config) (lines : List TraceLine) (rest : List ℕ) → AllByRecursion (IsLine run_version config.mutators) lines → Leads (Behind (Commands run_version config)) (flat_map line lines ++ rest) rest (length lines) (Behind (Commands run_version config))
behind_lines config [] rest all_lines = leads_none (Behind (Commands run_version config)) rest
behind_lines config (first_line ∷ lines) rest all_lines =
    let commands_stage = Behind (Commands run_version config) in
    let other_lines = flat_map line lines ++ rest in
    let front : line first_line ++ other_lines ≡ flat_map line (first_line ∷ lines) ++ rest = sym (append_assoc (line first_line) (flat_map line lines) rest) ∙ ap (λ (bytes : List ℕ). bytes ++ rest) (sym (flat_map-cons line first_line lines)) in
    let text = join_with_byte 32 (line_words first_line) in
    let one_leads = behind_one (Commands run_version config) (Commands run_version config) text (line first_line) other_lines (line_is first_line) (inl ((first_line, all_lines.0, line_is first_line), refl)) in
    subst (λ (any_bytes : List ℕ). Leads commands_stage any_bytes rest (suc (length lines)) commands_stage) front
    (one_more commands_stage commands_stage (line first_line ++ other_lines) rest (length lines) (leads_both commands_stage commands_stage commands_stage (line first_line ++ other_lines) other_lines rest 1 (length lines) one_leads (behind_lines config lines rest all_lines.1)))

behind_turns : (config : Config) (turns : List (List Item)) (rest : List ℕ) → AllByRecursion (IsScheduleLine config) turns → Leads (Behind (Turns config)) (flat_map schedule_line turns ++ rest) rest (length turns) (Behind (Turns config))
behind_turns config [] rest all_turns = leads_none (Behind (Turns config)) rest
behind_turns config (items ∷ turns) rest all_turns =
    let turns_stage = Behind (Turns config) in
    let other_lines = flat_map schedule_line turns ++ rest in
    let front : schedule_line items ++ other_lines ≡ flat_map schedule_line (items ∷ turns) ++ rest = sym (append_assoc (schedule_line items) (flat_map schedule_line turns) rest) ∙ ap (λ (bytes : List ℕ). bytes ++ rest) (sym (flat_map-cons schedule_line items turns)) in
    let text = join_with_byte 32 (words_of_turn items) in
    let one_leads = behind_one (Turns config) (Turns config) text (schedule_line items) other_lines (turn_is items) ((items, all_turns.0, turn_is items), refl) in
    subst (λ (any_bytes : List ℕ). Leads turns_stage any_bytes rest (suc (length turns)) turns_stage) front
    (one_more turns_stage turns_stage (schedule_line items ++ other_lines) rest (length turns) (leads_both turns_stage turns_stage turns_stage (schedule_line items ++ other_lines) other_lines rest 1 (length turns) one_leads (behind_turns config turns rest all_turns.1)))

pub behind_first : (config : Config) (turns : List (List Item)) (rest : List ℕ) → AllByRecursion (IsScheduleLine config) turns → Leads (Behind (Commands run_version config)) (flat_map schedule_line turns ++ rest) rest (length turns) (Behind (body_stage run_version config (ltb 0 (length turns))))
behind_first config [] rest all_turns = leads_none (Behind (Commands run_version config)) rest
behind_first config (items ∷ turns) rest all_turns =
    let commands_stage = Behind (Commands run_version config) in
    let later = Behind (Turns config) in
    let other_lines = flat_map schedule_line turns ++ rest in
    let front : schedule_line items ++ other_lines ≡ flat_map schedule_line (items ∷ turns) ++ rest = sym (append_assoc (schedule_line items) (flat_map schedule_line turns) rest) ∙ ap (λ (bytes : List ℕ). bytes ++ rest) (sym (flat_map-cons schedule_line items turns)) in
    let text = join_with_byte 32 (words_of_turn items) in
    let one_leads = behind_one (Commands run_version config) (Turns config) text (schedule_line items) other_lines (turn_is items) (inr ((items, all_turns.0, turn_is items), refl)) in
    let some_turns : ltb 0 (suc (length turns)) ≡ true = grind (arith, nat_tests) in
    subst (λ (holds : Bool). Leads commands_stage (flat_map schedule_line (items ∷ turns) ++ rest) rest (suc (length turns)) (Behind (body_stage run_version config holds))) (sym some_turns)
    (subst (λ (any_bytes : List ℕ). Leads commands_stage any_bytes rest (suc (length turns)) later) front
    (one_more commands_stage later (schedule_line items ++ other_lines) rest (length turns) (leads_both commands_stage later later (schedule_line items ++ other_lines) other_lines rest 1 (length turns) one_leads (behind_turns config turns rest all_turns.1))))

pub body_stops : (config : Config) (first : ℕ) (bytes : List ℕ) (line_number : ℕ) (why : Why) → StopsBody run_version config first bytes line_number why → StopsAt (Behind (Commands run_version config)) first bytes line_number why
body_stops config first bytes line_number why stops =
    let commands_stage = Behind (Commands run_version config) in
    let last_stage = Behind (body_stage run_version config (ltb 0 (length stops.turns))) in
    let middle = flat_map schedule_line stops.turns ++ stops.rest in
    record {
      rest = stops.rest;
      lines = length stops.lines + length stops.turns;
      at = last_stage;
      led = subst (λ (any_bytes : List ℕ). Leads commands_stage any_bytes stops.rest (length stops.lines + length stops.turns) last_stage) (sym stops.spelled)
          (leads_both commands_stage commands_stage last_stage (flat_map line stops.lines ++ middle) middle stops.rest (length stops.lines) (length stops.turns) (behind_lines config stops.lines middle stops.in_range) (behind_first config stops.turns stops.rest stops.turns_in_range));
      number = omega (arith, stops.number);
      cause = stops.cause;
    }
