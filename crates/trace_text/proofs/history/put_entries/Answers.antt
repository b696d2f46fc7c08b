use Rattle.std.proofs.Common.{sym, arith}
use Rattle.std.proofs.lemmas.Option.{get_or_from_slice_get}
use Rattle.shen_graph.specs.Noting.{seen}
use Rattle.trace_text.specs.History.{entry_line}
use Rattle.trace_text.proofs.AnswerLemmas.{puts_next, puts_all}
use Rattle.trace_text.proofs.history.put_entries.Goals as goal

pub loop-at-preserved : goal.loop-at-preserved
loop-at-preserved g c =
    let entries = c.args.history.now.list in
    let entry_seen = seen c.entry.result in
    puts_next entry_line entries c.loop-at.at entry_seen entry_seen
    (omega arith) (sym (get_or_from_slice_get entries c.loop-at.at entry_seen entry_seen c.entry.ensures)) c.loop-at.invariant c.put_entry.ensures

pub returns : goal.returns
returns g c = puts_all entry_line c.args.history.now.list c.loop-at.at (omega arith) c.loop-at.invariant
