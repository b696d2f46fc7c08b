use Rattle.regions.proofs.MarksApart.{marks_apart}
use Rattle.regions.proofs.mark_bits.marks_are_apart.Goals as goal

pub returns : goal.returns
returns c = marks_apart
