-- Bytes at which no line stands have a cause.
use Rattle.std.proofs.Common.{◌≡◌, ◌≢◌, ◌⊎◌, ℕ, ◌+◌, ◌≤◌, Bool, true, false, eqb, ltb, List, [], ◌∷◌, ◌++◌, length, Option, Some, None, inl, inr, refl, sym, ap, ◌∙◌, subst, arith}
use Rattle.std.specs.List.{flat_map}
use Rattle.std.proofs.lemmas.Bool.Decides.{nat_tests}
use Rattle.std.proofs.lemmas.List.{length-append}
use Rattle.std.specs.Option.{IsSome}
use Rattle.shen_graph.specs.declared.command.Command.{Command}
use Rattle.heap_words.specs.declared.config.Config.{Config}
use Rattle.heap_words.specs.Narrow.{IsNarrow}
use Rattle.heap_words.specs.declared.schedule.Item.{Item}
use Rattle.trace_reading.specs.Spelling.{TraceLine, IsVersion, IsLine, line, header, schedule_line, IsScheduleLine}
use Rattle.trace_reading.specs.Front.{IsBehindCommands}
use Rattle.trace_reading.specs.Grammar.{HasReadLines}
use Rattle.trace_reading.specs.declared.why.Why.{Why}
use Rattle.trace_reading.proofs.Traces.{few_lines, few_turns, command_is_no_turn}
use Rattle.trace_reading.specs.Causes.{parts}
use Rattle.trace_reading.specs.Refused.{Commands, body_stage, cause_of, StopsAt}
use Rattle.trace_reading.proofs.Begins.{Begun, begun_head, begun_lines, begun_turns, begun_stops}
use Rattle.trace_reading.proofs.Spells.{BeginsWithCommand, BeginsWithTurn, commands_spell, turns_spell}
use Rattle.trace_reading.specs.Stops.{StopsBody, StopsCommands, StopsTurns}

-- ---- no line of a command

nothing : (bytes : List ℕ) → (IsBehindCommands bytes → ⊥) → 1 ≤ length bytes
nothing [] not_behind_commands = absurd (not_behind_commands tt)
nothing (byte ∷ bytes) not_behind_commands = omega arith

pub command_cause : (version : ℕ) (config : Config) (bytes : List ℕ) → (IsBehindCommands bytes → ⊥) → ((trace_line : TraceLine) (rest : List ℕ) → IsLine version config.mutators trace_line → bytes ≢ line trace_line ++ rest) → cause_of (body_stage version config false) (parts 10 bytes) ≡ None → ⊥
command_cause version config bytes not_behind_commands refused no_cause = by_kind (commands_spell version config bytes (nothing bytes not_behind_commands) no_cause)
  where
    by_kind : BeginsWithCommand version config bytes ⊎ BeginsWithTurn config bytes → ⊥
    by_kind (inl beginning) = refused beginning.0 beginning.1 beginning.2 beginning.3
    by_kind (inr beginning) = not_behind_commands (subst IsBehindCommands (sym beginning.3) refl)

-- ---- no line of the schedule

pub turn_cause : (version : ℕ) (config : Config) (behind_turn : Bool) (bytes : List ℕ) → 1 ≤ length bytes → (behind_turn ≡ false → IsBehindCommands bytes) → ((items : List Item) (rest : List ℕ) → IsScheduleLine config items → bytes ≢ schedule_line items ++ rest)
    → cause_of (body_stage version config behind_turn) (parts 10 bytes) ≡ None → ⊥
turn_cause version config true bytes positive mark refused no_cause = let spelled_turn = turns_spell config bytes positive no_cause in refused spelled_turn.0 spelled_turn.1 spelled_turn.2 spelled_turn.3
turn_cause version config false bytes positive mark refused no_cause = by_kind (commands_spell version config bytes positive no_cause)
  where
    by_kind : BeginsWithCommand version config bytes ⊎ BeginsWithTurn config bytes → ⊥
    by_kind (inl beginning) = command_is_no_turn version config.mutators beginning.0 bytes beginning.1 (omega (arith, config.in_range.most_mutators)) beginning.2 beginning.3 (mark refl)
    by_kind (inr beginning) = refused beginning.0 beginning.1 beginning.2 beginning.3

pub not_later : (first_line line : ℕ) → ltb first_line line ≡ false → line ≤ first_line
not_later first_line line not_before = grind (arith, nat_tests)

-- ---- counts

pub lines_fit : (lines : List TraceLine) (bytes rest : List ℕ) → bytes ≡ flat_map line lines ++ rest → length lines + length rest ≤ length bytes
lines_fit lines bytes rest same_bytes = let few = few_lines lines in let size = ap length same_bytes in let sizes = length-append (flat_map line lines) rest in omega (arith, few, size, sizes)

pub turns_fit : (turns : List (List Item)) (bytes rest : List ℕ) → bytes ≡ flat_map schedule_line turns ++ rest → length turns + length rest ≤ length bytes
turns_fit turns bytes rest same_bytes = let few = few_turns turns in let size = ap length same_bytes in let sizes = length-append (flat_map schedule_line turns) rest in omega (arith, few, size, sizes)

-- ---- the whole trace

pub stops_in_commands : (version : ℕ) (config : Config) (first_line : ℕ) (bytes : List ℕ) (line_number : ℕ) (reason : Why) → StopsCommands version config first_line bytes line_number reason → StopsBody version config first_line bytes line_number reason
stops_in_commands version config first_line bytes line_number reason stops = record {
  lines = stops.lines;
  in_range = stops.in_range;
  turns = [];
  turns_in_range = tt;
  rest = stops.rest;
  spelled = stops.spelled;
  number = omega (arith, stops.number);
  cause = stops.cause;
}

pub stops_in_turns : (version : ℕ) (config : Config) (first_line next_line : ℕ) (bytes behind_lines : List ℕ) (scripts : List (List Command)) (line_number : ℕ) (reason : Why) (taken : HasReadLines version config.mutators bytes behind_lines scripts) → next_line ≡ first_line + length taken.lines
    → StopsTurns version config next_line behind_lines line_number reason → StopsBody version config first_line bytes line_number reason
stops_in_turns version config first_line next_line bytes behind_lines scripts line_number reason taken number stops = record {
  lines = taken.lines;
  in_range = taken.in_range;
  turns = stops.turns;
  turns_in_range = stops.in_range;
  rest = stops.rest;
  spelled = taken.spelled ∙ ap (λ (text : List ℕ). flat_map line taken.lines ++ text) stops.spelled;
  number = omega (arith, number, stops.number);
  cause = stops.cause;
}

pub stops_behind_head : (bytes rest : List ℕ) (version : ℕ) (config : Config) (line_number : ℕ) (reason : Why) → IsVersion version → IsNarrow config → bytes ≡ header version config ++ rest → StopsBody version config 4 rest line_number reason → StopsAt bytes line_number reason
stops_behind_head bytes rest version config line_number reason known_version narrow same_bytes stops =
    let head = begun_head bytes rest version config known_version narrow same_bytes in
    let behind_lines = flat_map schedule_line stops.turns ++ stops.rest in
    let lines = begun_lines bytes stops.lines behind_lines 3 version config stops.in_range (subst (λ (some_bytes : List ℕ). Begun bytes some_bytes 3 (Commands version config)) stops.spelled head) in
    let turns = begun_turns bytes stops.turns stops.rest (3 + length stops.lines) version config stops.turns_in_range lines in
    begun_stops bytes stops.rest (3 + length stops.lines + length stops.turns) line_number (body_stage version config (ltb 0 (length stops.turns))) reason turns (omega (arith, stops.number)) stops.cause

pub known : (found : Option Why) → (found ≡ None → ⊥) → IsSome found
known (Some reason) some_reason = refl
known None some_reason = absurd (some_reason refl)

pub not_none : (bytes : List ℕ) → eqb (length bytes) 0 ≡ false → 1 ≤ length bytes
not_none [] not_empty = absurd cc
not_none (byte ∷ bytes) not_empty = omega arith
