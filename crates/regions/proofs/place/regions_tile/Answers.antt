use Rattle.regions.proofs.PlaceLemmas.{regions_tile}
use Rattle.regions.proofs.place.regions_tile.Goals as goal

pub returns : goal.returns
returns c = regions_tile
