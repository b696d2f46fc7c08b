use Rattle.std.proofs.Common.{arith}
use Rattle.std.specs.Cmp.Lexicographic.{same_text, other_text}
use Rattle.trace_text.proofs.CutLines.{fewer_left, cut_found, line_shorter, passed_none, passed_more, none_found}
use Rattle.trace_text.proofs.line_cuts.cut_at.Goals as goal

pub lines-init : goal.lines-init
lines-init c = passed_none c.args.text.now c.args.bytes.now

pub slice_bounds-result-count : goal.slice_bounds-result-count
slice_bounds-result-count c = fewer_left c.args.text.now c.args.bytes.now c.lines.rest.now c.lines.invariant

pub returns-then-eq : goal.returns-then-eq
returns-then-eq c =
    cut_found c.args.text.now c.args.bytes.now c.lines.rest.now c.in-Some.line.now c.in-Some.behind.now c.lines.invariant c.in-Some.ensures (same_text c.in-Some.line.now c.args.text.now c.if-eq.ensures)

pub lines-smaller : goal.lines-smaller
lines-smaller c = omega (arith, line_shorter c.lines.rest.now c.in-Some.line.now c.in-Some.behind.now c.in-Some.ensures)

pub lines-preserved : goal.lines-preserved
lines-preserved c =
    passed_more c.args.text.now c.args.bytes.now c.lines.rest.now c.in-Some.line.now c.in-Some.behind.now c.lines.invariant c.in-Some.ensures (other_text c.in-Some.line.now c.args.text.now c.if-eq.ensures)

pub returns : goal.returns
returns c = let last_cut = c.in_default.ensures in none_found c.args.text.now c.args.bytes.now c.lines.rest.now last_cut.0 c.lines.invariant last_cut.1
