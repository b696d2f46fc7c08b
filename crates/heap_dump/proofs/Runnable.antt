-- A dump that was read can be gone on from, by what stands behind it.
use Rattle.std.proofs.Common.{◌≡◌, ℕ, ◌+◌, ◌<◌, List, [], ◌++◌, length, get_or, All, sym, ap, subst, ◌∙◌, arith}
use Rattle.std.specs.List.{flat_map}
use Rattle.std.proofs.lemmas.List.{length-append}
use Rattle.std.proofs.lemmas.List.Elements.{All-from_get_or}
use Rattle.shen_graph.specs.declared.command.Command.{Command}
use Rattle.shen_graph.specs.Valid.{most_objects}
use Rattle.heap_words.specs.declared.schedule.Item.{Item}
use Rattle.shen_core.specs.Progress.{IsInSeats}
use Rattle.trace_reading.specs.Spelling.{line, schedule_line}
use Rattle.trace_reading.specs.Grammar.{scripts_of}
use Rattle.heap_dump.specs.Dumped.{Dumped, most_made}
use Rattle.heap_dump.specs.DumpText.{dump_text}
use Rattle.heap_dump.specs.DumpsToRun.{run_version, Resumes, mark_line}
use Rattle.heap_dump.specs.Resumed.{IsRunnableAfter}
use Rattle.heap_dump.proofs.ScriptLines.{count_scripts, valid_script, short_script, items_in_seats}

module _ (bytes : List ℕ) (dump : Dumped) (scripts : List (List Command)) (items : List Item) (reads : Resumes bytes dump scripts items) where
  pub count_read : length scripts ≡ dump.config.mutators
  count_read = ap length reads.by_thread ∙ count_scripts dump.config.mutators reads.lines

  few_commands : (mutator : ℕ) → mutator < dump.config.mutators → length (get_or (scripts_of dump.config.mutators reads.lines) mutator []) + most_made < most_objects
  few_commands mutator mutator_below =
      let lines = flat_map line reads.lines in
      let turns = flat_map schedule_line reads.turns in
      omega (arith, short_script dump.config.mutators reads.lines mutator mutator_below, reads.short, ap length reads.spelled, length-append (dump_text dump) (mark_line ++ (lines ++ turns)), length-append mark_line (lines ++ turns), length-append lines turns)

  pub runnable_read : All IsRunnableAfter scripts
  runnable_read =
      subst (All IsRunnableAfter) (sym reads.by_thread)
      (All-from_get_or IsRunnableAfter (scripts_of dump.config.mutators reads.lines) [] (λ thread within.
      let count = count_scripts dump.config.mutators reads.lines in
      let mutator_below : thread < dump.config.mutators = omega (arith, within, count) in
      (valid_script run_version dump.config.mutators reads.lines thread reads.in_range mutator_below, few_commands thread mutator_below)))

  pub items_read : All (IsInSeats dump.config) items
  items_read = subst (All (IsInSeats dump.config)) (sym reads.in_order) (items_in_seats dump.config reads.turns reads.turns_in_range)
