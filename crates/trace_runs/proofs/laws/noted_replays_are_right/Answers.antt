use Rattle.trace_runs.proofs.Righted.{noted_is_right}
use Rattle.trace_runs.proofs.laws.noted_replays_are_right.Goals as goal

pub returns : goal.returns
returns c = noted_is_right
