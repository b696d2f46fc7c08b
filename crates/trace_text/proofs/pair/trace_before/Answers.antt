use Rattle.std.proofs.Common.{codes, inl}
use Rattle.trace_reading.specs.Grammar.{most_bytes}
use Rattle.trace_text.proofs.CutLines.{cut_short}
use Rattle.trace_text.proofs.pair.trace_before.Goals as goal

pub trace_of-requires : goal.trace_of-requires
trace_of-requires c = cut_short most_bytes (codes "answer") c.args.bytes.now c.in-Some.front.now c.in-Some.behind.now c.in-Some.ensures c.requires.few

pub returns-in-Err-clause-bad_line : goal.returns-in-Err-clause-bad_line
returns-in-Err-clause-bad_line c = λ line_number reason same_error. inl (inl (c.in-Some.front.now, c.in-Some.behind.now, c.in-Some.ensures, (c.in-Err.ensures.bad_line line_number reason (cc)).0))
