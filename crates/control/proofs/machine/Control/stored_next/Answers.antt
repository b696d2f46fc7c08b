use Rattle.std.proofs.Common.{◌≡◌, sym, subst}
use Rattle.collector_rows.specs.declared.control_spot.ControlSpot.{ControlSpot}
use Rattle.collector_rows.specs.ControlRows.{stored_next}
use Rattle.control.specs.Image.{image_in, words_seen}
use Rattle.control.specs.Seen.{config_in}
use Rattle.control.proofs.machine.Control.stored_next.Goals as goal

pub returns-in-StoreWord : goal.returns-in-StoreWord
returns-in-StoreWord c =
    let control = c.args.self.now in
    let config = config_in control in
    let Next : ControlSpot → Type 0 = λ spot. c.next_stored.result ≡ stored_next config spot (words_seen config spot control.starts (image_in control.image)) in
    subst Next (sym c.in-StoreWord.is) c.next_stored.ensures
