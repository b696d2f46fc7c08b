use Rattle.trace_text.proofs.PairLaws as laws
use Rattle.trace_text.proofs.pair_laws.pairs_are_read_or_refused.Goals as goal

pub returns-clause-either : goal.returns-clause-either
returns-clause-either c = laws.pair_or_refused

pub returns-clause-never_both : goal.returns-clause-never_both
returns-clause-never_both c = laws.never_both

pub returns-clause-once : goal.returns-clause-once
returns-clause-once c = laws.refused_once
