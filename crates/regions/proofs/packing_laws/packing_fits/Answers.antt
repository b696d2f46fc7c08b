use Rattle.regions.proofs.Placed.{each_fits}
use Rattle.regions.proofs.packing_laws.packing_fits.Goals as goal

pub returns : goal.returns
returns c = each_fits
