use Rattle.trace_text.proofs.PairLaws.{pair_once}
use Rattle.trace_text.proofs.pair_laws.pairs_are_read_once.Goals as goal

pub returns : goal.returns
returns c = pair_once
