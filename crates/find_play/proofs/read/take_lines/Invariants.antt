use Rattle.std.proofs.Common.{◌+◌, ◌≤◌, length}
use Rattle.find_play.specs.Told.{told_in}
use Rattle.find_play.specs.Tests.{HasToldLines}
use Rattle.find_play.proofs.read.take_lines.Given as goal

abbrev pub invariant-lines : goal.invariant-lines
invariant-lines locals = record { taken : HasToldLines (told_in locals.fn.draft) 4 locals.bytes locals.rest locals.line (told_in locals.draft); few : locals.line + length locals.rest ≤ 4 + length locals.bytes }

abbrev pub decreases-lines : goal.decreases-lines
decreases-lines locals = length locals.rest
