use Rattle.std.proofs.Common.{◌∙◌}
use Rattle.trace_text.proofs.LineKinds.{items_read}
use Rattle.trace_text.proofs.lines.items_in.Goals as goal

pub returns-in-Ok-trace_behind : goal.returns-in-Ok-trace_behind
returns-in-Ok-trace_behind c =
    let trace_branch = c.in-Ok-trace_behind in
    items_read 1 c.args.config c.args.text.now c.deref.result.now trace_branch.trace.scripts trace_branch.trace.schedule c.requires.line (c.deref.ensures.value ∙ c.in-Ok.ensures) trace_branch.ensures.ok
