use Rattle.std.proofs.Common.{◌≡◌, ◌≤◌, take}
use Rattle.std.specs.Prelude.{count_by}
use Rattle.find_play.specs.Claims.{is_such}
use Rattle.find_play.proofs.claims_hold.count_of.Given as goal

abbrev pub invariant-loop-note : goal.invariant-loop-note
invariant-loop-note locals = (locals.count ≡ count_by (is_such locals.wanted) (take locals.note-index locals.notes)) × (locals.count ≤ locals.note-index)
