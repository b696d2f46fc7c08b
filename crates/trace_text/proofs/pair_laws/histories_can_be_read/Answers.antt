use Rattle.trace_text.proofs.MadePairs.{made_pair}
use Rattle.trace_text.proofs.pair_laws.histories_can_be_read.Goals as goal

pub returns : goal.returns
returns c = made_pair
