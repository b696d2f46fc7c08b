use Rattle.std.proofs.Common.{◌≡◌, sym, subst}
use Rattle.heap_world.specs.Change.{image_view}
use Rattle.image_graph.specs.State.{config_of}
use Rattle.cycle_pauses.specs.Collect.{collect_image}
use Rattle.collector_rows.specs.declared.extent.Extent.{Extent}
use Rattle.control.specs.Fit.{CanCollectPart}
use Rattle.control.specs.Image.{image_in, part_in, image_shown}
use Rattle.control.proofs.pause.collect_loaded.Goals as goal

pub collect_image-requires-clause-can : goal.collect_image-requires-clause-can
collect_image-requires-clause-can c =
    let config = config_of c.args.image.now in
    let Can : Extent → Type 0 = λ extent. CanCollectPart config extent (image_view config (part_in config extent (image_in c.args.image.now))) in
    subst Can c.in-Whole.is c.requires.can

pub returns-in-Whole-clause-image : goal.returns-in-Whole-clause-image
returns-in-Whole-clause-image c =
    let config = config_of c.args.image.now in
    let Made : Extent → Type 0 = λ extent. image_shown config extent c.args.starts (image_in c.collect_image.new.image) ≡ collect_image config (part_in config extent (image_in c.args.image.now)) in
    subst Made (sym c.in-Whole.is) c.collect_image.ensures.image
