use Rattle.cycle_pauses.proofs.Brief.ByParts.{collect_pauses_by_parts}
use Rattle.cycle_pauses.proofs.pauses_by_parts.Goals as goal

pub returns : goal.returns
returns c = collect_pauses_by_parts
