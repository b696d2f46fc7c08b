use Rattle.std.proofs.Common.{◌≡◌, ◌+◌, ◌-◌, ◌<◌, ap, ◌∙◌, subst, arith}
use Rattle.heap_world.specs.Change.{image_words}
use Rattle.image_graph.specs.State.{config_of}
use Rattle.collector_rows.specs.declared.extent.Extent.{Extent}
use Rattle.collector_rows.specs.declared.extent.Extent.TheVariants.{Whole}
use Rattle.collector_rows.specs.declared.control_spot.ControlSpot.{ControlSpot}
use Rattle.collector_rows.specs.declared.control_spot.ControlSpot.TheVariants.{LoadWord}
use Rattle.cycle_pauses.specs.Collect.{collect_image}
use Rattle.control.specs.Image.{image_in, words_seen, loads_left}
use Rattle.control.specs.Seen.{config_in}
use Rattle.control.proofs.Images.{length-image_in}
use Rattle.control.proofs.Going.{loads_on}
use Rattle.control.proofs.machine.Control.loaded.Goals as goal

pub returns-clause-row : goal.returns-clause-row
returns-clause-row c =
    let control = c.args.self.now in
    let config = config_in control in
    let index = c.in-LoadWord-default-Whole.index in
    let extent : c.in-LoadWord-default-Whole.extent ≡ Whole = c.in-LoadWord-default-Whole.extent-is in
    let spot : control.spot ≡ LoadWord index Whole = c.in-LoadWord-default-Whole.is ∙ ap (LoadWord index) extent in
    let some_words : 0 < image_words config - (index + 1) = subst (λ (spot : ControlSpot). 0 < loads_left config spot) spot c.requires in
    let more_words : index + 1 < image_words config = omega (arith, some_words) in
    let new_image = image_in c.put_word.new.image in
    ap (λ (extent : Extent). record { spot = LoadWord (index + 1) extent; seen = control.last.seen; phase = control.last.phase; cset = control.last.cset; image = words_seen (config_of c.put_word.new.image) (LoadWord (index + 1) extent) control.starts new_image; hints = control.hints }) extent
    ∙ loads_on collect_image config control.last.seen control.last.phase control.last.cset control.hints (image_in control.image) (length-image_in control.image) index c.args.got more_words control.starts control.spot new_image spot c.put_word.ensures.image
