use Rattle.std.proofs.Common.{◌≡◌, ◌+◌, ◌<◌, ap, ◌∙◌, arith}
use Rattle.heap_world.specs.Change.{image_words}
use Rattle.collector_rows.specs.declared.extent.Extent.TheVariants.{Whole}
use Rattle.collector_rows.specs.declared.control_spot.ControlSpot.TheVariants.{LoadWord, StoreWord}
use Rattle.cycle_pauses.specs.Collect.{collect_image}
use Rattle.control.specs.Image.{image_in}
use Rattle.control.specs.Seen.{config_in}
use Rattle.control.proofs.Images.{length-image_in}
use Rattle.control.proofs.Going.{loads_on, stores_on}
use Rattle.control.proofs.machine.Control.goes_on_in_image.Goals as goal

pub returns-in-LoadWord-default-Whole-clause-row : goal.returns-in-LoadWord-default-Whole-clause-row
returns-in-LoadWord-default-Whole-clause-row c = λ tested.
    let control = c.args.self.now in
    let config = config_in control in
    let index = c.in-LoadWord-default-Whole.index in
    let extent : c.in-LoadWord-default-Whole.extent ≡ Whole = rw c.in-LoadWord-default-Whole.is at c.in-LoadWord-default-Whole.extent-is in
    let spot : control.spot ≡ LoadWord index Whole = c.in-LoadWord-default-Whole.is ∙ ap (LoadWord index) extent in
    let more_words : index + 1 < image_words config = (let last_facts = control.last_is in omega (arith, last_facts)) in
    loads_on collect_image config control.last.seen control.last.phase control.last.cset control.hints (image_in control.image) (length-image_in control.image) index c.args.got more_words control.starts control.spot
    (image_in c.put_word.new.image) spot c.put_word.ensures.image

pub returns-in-StoreWord-default-Whole-clause-row : goal.returns-in-StoreWord-default-Whole-clause-row
returns-in-StoreWord-default-Whole-clause-row c = λ tested.
    let control = c.args.self.now in
    let config = config_in control in
    let index = c.in-StoreWord-default-Whole.index in
    let extent : c.in-StoreWord-default-Whole.extent ≡ Whole = rw c.in-StoreWord-default-Whole.is at c.in-StoreWord-default-Whole.extent-is in
    let spot : control.spot ≡ StoreWord index Whole = c.in-StoreWord-default-Whole.is ∙ ap (StoreWord index) extent in
    let more_words : index + 1 < image_words config = (let last_facts = control.last_is in omega (arith, last_facts)) in
    stores_on collect_image config control.last.seen control.last.phase control.last.cset control.hints (image_in control.image) (length-image_in control.image) index c.args.got more_words control.starts control.spot spot
