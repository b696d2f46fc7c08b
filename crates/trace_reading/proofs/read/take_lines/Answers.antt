use Rattle.std.proofs.Common.{ℕ, [], ◌∷◌, length, length-append, append-nil, refl, sym, ap, subst, ◌∙◌, arith}
use Rattle.std.proofs.lemmas.List.FromFn.{length-map-range_with_len}
use Rattle.trace_reading.specs.Spelling.{IsLine, line}
use Rattle.trace_reading.specs.Grammar.{commands_in}
use Rattle.trace_reading.proofs.Traces.{taken_more, taken_count, few_lines}
use Rattle.trace_reading.proofs.Bad.{lines_fit}
use Rattle.trace_reading.proofs.read.take_lines.Goals as goal

pub lines-init : goal.lines-init
lines-init c = (record { lines = []; in_range = tt; spelled = refl; by_thread = c.requires.scripts }, omega arith)

pub take_line-requires : goal.take_line-requires
take_line-requires c =
    ap length c.lines.invariant.0.by_thread ∙ length-map-range_with_len (commands_in c.lines.invariant.0.lines) 1 c.args.config.now.mutators ∙ sym c.mutators-threads.ensures

pub overflow_add-line : goal.overflow_add-line
overflow_add-line c =
    let lines_short = lines_fit c.lines.invariant.0.lines c.args.bytes.now c.lines.rest.now c.lines.invariant.0.spelled in
    let took = c.in-Ok.ensures.ok in
    let line_some = few_lines (took.0 ∷ []) in
    let line_length = ap length (append-nil (line took.0)) in
    let rest_length = ap length took.2 in
    let sizes = length-append (line took.0) c.in-Ok.behind.now in
    omega (arith, lines_short, c.lines.invariant.1, c.requires.few, line_some, line_length, rest_length, sizes)

pub lines-preserved : goal.lines-preserved
lines-preserved c =
    let took = c.in-Ok.ensures.ok in
    let lines_taken = c.lines.invariant.0 in
    let line_fits = subst (λ (threads : ℕ). IsLine c.args.version threads took.0) c.mutators-threads.ensures took.1 in (
      taken_more c.args.version c.args.config.now.mutators c.args.bytes.now c.lines.rest.now c.in-Ok.behind.now c.lines.scripts.items c.take_line.new.scripts.items took.0 lines_taken line_fits took.2 took.3,
      omega (arith, c.lines.invariant.1, taken_count c.args.version c.args.config.now.mutators c.args.bytes.now c.lines.rest.now c.in-Ok.behind.now c.lines.scripts.items c.take_line.new.scripts.items took.0 lines_taken line_fits took.2 took.3),
    )
