use Rattle.std.specs.Prelude.{ℕ, ◌≡◌, ◌≤◌, ◌++◌, List, length}
use Rattle.std.proofs.Common.{refl}
use Rattle.std.specs.List.{flat_map, AllByRecursion}
use Rattle.heap_words.specs.declared.schedule.Item.{Item}
use Rattle.trace_reading.specs.Spelling.{TraceLine, line, IsLine, schedule_line, IsScheduleLine}
use Rattle.trace_reading.specs.Grammar.{most_bytes, scripts_of, items_of}
use Rattle.heap_dump.specs.Dumped.{Dumped, IsDump}
use Rattle.heap_dump.specs.DumpText.{dump_text}
use Rattle.heap_dump.specs.DumpsToRun.{Resumes, run_version, mark_line}
use Rattle.heap_dump.proofs.Reread as reread
use Rattle.heap_dump.proofs.reading_laws.written_dumps_are_read.Goals as goal

-- the bytes are that dump, with what the lines say
reading : (bytes : List ℕ) (dump : Dumped) (lines : List TraceLine) (turns : List (List Item)) → IsDump dump → AllByRecursion (IsLine run_version dump.config.mutators) lines → AllByRecursion (IsScheduleLine dump.config) turns
    → bytes ≡ dump_text dump ++ (mark_line ++ (flat_map line lines ++ flat_map schedule_line turns)) → length bytes ≤ most_bytes → Resumes bytes dump (scripts_of dump.config.mutators lines) (items_of turns)
reading bytes dump lines turns dump_told lines_in turns_in spelled short_bytes = record {
  dump = dump_told;
  lines = lines;
  in_range = lines_in;
  turns = turns;
  turns_in_range = turns_in;
  spelled = spelled;
  by_thread = refl;
  in_order = refl;
  short = short_bytes;
}

pub returns-clause-once : goal.returns-clause-once
returns-clause-once c = λ bytes dump other_dump lines turns scripts items dump_told lines_in turns_in spelled short read.
    reread.read_once bytes dump other_dump (scripts_of dump.config.mutators lines) scripts (items_of turns) items (reading bytes dump lines turns dump_told lines_in turns_in spelled short) read

pub returns-clause-never_refused : goal.returns-clause-never_refused
returns-clause-never_refused c = λ bytes dump lines turns line_number why dump_told lines_in turns_in spelled short refused.
    reread.never_both bytes dump (scripts_of dump.config.mutators lines) (items_of turns) line_number why (reading bytes dump lines turns dump_told lines_in turns_in spelled short) refused.0
