use Rattle.unit_part.proofs.Found.{unscanned_found}
use Rattle.unit_part.proofs.scanning_laws.unscanned_is_found.Goals as goal

pub returns : goal.returns
returns c = unscanned_found
