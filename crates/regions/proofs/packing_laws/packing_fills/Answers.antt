use Rattle.regions.proofs.Tops.{tops_are_filled}
use Rattle.regions.proofs.packing_laws.packing_fills.Goals as goal

pub returns : goal.returns
returns c = λ region_words shut kept regions lie_apart few inside. tops_are_filled region_words shut kept lie_apart regions few inside
