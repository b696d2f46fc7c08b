use Rattle.trace_reading.proofs.PlaceCodes.{too_short, no_place, place_read}
use Rattle.trace_reading.proofs.items.place_at.Goals as goal

pub returns-in_default : goal.returns-in_default
returns-in_default c = too_short c.args.bytes.now c.in_default.len_below

pub returns-in_ok-place-in-len2-up : goal.returns-in_ok-place-in-len2-up
returns-in_ok-place-in-len2-up c =
    place_read c.args.bytes.now c.in_ok-place-in-len2-up.place c.in-len2-up.len_at_least c.in_ok-place-in-len2-up.ensures.found

pub returns-in_err-place-in-len2-up : goal.returns-in_err-place-in-len2-up
returns-in_err-place-in-len2-up c =
    rw c.from_residual.ensures (no_place c.args.bytes.now c.in-len2-up.len_at_least c.in_err-place-in-len2-up.ensures.unknown)
