use Rattle.std.proofs.Common.{ℕ, ◌-◌, ◌∷◌, [], ◌++◌, List, slice_set, sym, ap, ◌∙◌, arith}
use Rattle.std.proofs.lemmas.List.{get_or_read}
use Rattle.shen_graph.specs.declared.command.Command.{Command}
use Rattle.trace_reading.specs.Spelling.{TraceLine}
use Rattle.trace_reading.specs.Scanning.{line_at}
use Rattle.trace_reading.proofs.GrammarLines.{line_takes, line_again}
use Rattle.trace_reading.proofs.read.take_line.Goals as goal

pub returns-in_default-clause-refused : goal.returns-in_default-clause-refused
returns-in_default-clause-refused c = λ _ trace_line rest fits same_text. let line_found = line_again c.args.version c.args.threads trace_line rest (omega arith) fits in let same_line = ap (line_at c.args.version c.args.threads) same_text in let no_line = c.in_default.ensures in cc

pub overflow_sub-thread : goal.overflow_sub-thread
overflow_sub-thread c =
    let read : TraceLine × List ℕ = (record { thread = c.in-Some.thread; command = c.in-Some.command }, c.in-Some.rest.now) in
    (line_takes c.args.version c.args.threads c.args.bytes.now read (omega arith) (sym c.in-Some.ensures)).1.from_one

pub index_mut-requires : goal.index_mut-requires
index_mut-requires c =
    let read : TraceLine × List ℕ = (record { thread = c.in-Some.thread; command = c.in-Some.command }, c.in-Some.rest.now) in
    let line_fits = (line_takes c.args.version c.args.threads c.args.bytes.now read (omega arith) (sym c.in-Some.ensures)).1 in
    omega (arith, line_fits.from_one, line_fits.to_last, c.args.scripts.now.ok.0)

pub returns-in-Ok-clause-ok : goal.returns-in-Ok-clause-ok
returns-in-Ok-clause-ok c =
    let line : TraceLine = record { thread = c.in-Some.thread; command = c.in-Some.command } in
    let line_taken = line_takes c.args.version c.args.threads c.args.bytes.now (line, c.in-Some.rest.now) (omega arith) (sym c.in-Some.ensures) in
    let script_before = get_or_read c.args.scripts.now.items _ _ (omega (arith, line_taken.1.from_one, line_taken.1.to_last)) c.index_mut.ensures.value [] in (
      line,
      line_taken.1,
      line_taken.0,
      ap (slice_set c.args.scripts.now.items (c.in-Some.thread - 1)) (c.in-Ok.ensures.added ∙ ap (λ (script : List Command). script ++ c.in-Some.command ∷ []) script_before),
    )
