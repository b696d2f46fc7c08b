use Rattle.std.proofs.Common.{◌≡◌, ◌+◌, ◌-◌, ◌<◌, ap, ◌∙◌, subst, arith}
use Rattle.heap_world.specs.Change.{image_words}
use Rattle.collector_rows.specs.declared.extent.Extent.{Extent}
use Rattle.collector_rows.specs.declared.extent.Extent.TheVariants.{Whole}
use Rattle.collector_rows.specs.declared.control_spot.ControlSpot.{ControlSpot}
use Rattle.collector_rows.specs.declared.control_spot.ControlSpot.TheVariants.{StoreWord}
use Rattle.cycle_pauses.specs.Collect.{collect_image}
use Rattle.control.specs.Image.{image_in, words_seen, stores_left}
use Rattle.control.specs.Seen.{config_in}
use Rattle.control.proofs.Images.{length-image_in}
use Rattle.control.proofs.Going.{stores_on}
use Rattle.control.proofs.machine.Control.stored.Goals as goal

pub returns-clause-row : goal.returns-clause-row
returns-clause-row c = λ got.
    let control = c.args.self.now in
    let config = config_in control in
    let index = c.in-StoreWord-default-Whole.index in
    let extent : c.in-StoreWord-default-Whole.extent ≡ Whole = c.in-StoreWord-default-Whole.extent-is in
    let spot : control.spot ≡ StoreWord index Whole = c.in-StoreWord-default-Whole.is ∙ ap (StoreWord index) extent in
    let some_words : 0 < image_words config - (index + 1) = subst (λ (spot : ControlSpot). 0 < stores_left config spot) spot c.requires in
    let more_words : index + 1 < image_words config = omega (arith, some_words) in
    ap (λ (extent : Extent). record { spot = StoreWord (index + 1) extent; seen = control.last.seen; phase = control.last.phase; cset = control.last.cset; image = words_seen config (StoreWord (index + 1) extent) control.starts (image_in control.image); hints = control.hints }) extent
    ∙ stores_on collect_image config control.last.seen control.last.phase control.last.cset control.hints (image_in control.image) (length-image_in control.image) index got more_words control.starts control.spot spot
