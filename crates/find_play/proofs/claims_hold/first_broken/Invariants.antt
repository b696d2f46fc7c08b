use Rattle.std.proofs.Common.{◌≡◌, ◌≤◌, drop}
use Rattle.find_play.specs.Claims.{Left, first_broken}
use Rattle.find_play.proofs.Assertions.{broken_then}
use Rattle.find_play.proofs.claims_hold.first_broken.Given as goal

abbrev pub invariant-loop-claim : goal.invariant-loop-claim
invariant-loop-claim locals =
    let left : Left = record { notes = locals.left.notes.now; history = locals.left.history.now.list; rows = locals.left.graph.now.rows; places = locals.left.places.now } in
    (broken_then left locals.assertion locals.held locals.holds (drop locals.claim-index locals.claims) ≡ first_broken left locals.claims) × (locals.assertion ≤ locals.claim-index)
