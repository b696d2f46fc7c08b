use Rattle.std.proofs.Common.{◌≡◌, List, ◌+◌, ◌++◌, length}
use Rattle.heap_words.specs.declared.schedule.Item.{Item}
use Rattle.trace_reading.specs.Spelling.{IsScheduleLine, schedule_line}
use Rattle.trace_reading.specs.Grammar.{items_of}
use Rattle.trace_reading.proofs.Pieces.{HasBegun}
use Rattle.trace_reading.proofs.ScheduleLines.{IsEmpty}
use Rattle.trace_reading.proofs.schedule_lines.take_schedule.Given as goal

abbrev pub invariant-turns : goal.invariant-turns
invariant-turns loop =
    (turns : List (List Item)) × HasBegun schedule_line (IsScheduleLine loop.config) IsEmpty loop.bytes loop.rest turns × (loop.schedule ≡ loop.fn.schedule ++ items_of turns) × (loop.line ≡ loop.first + length turns)

abbrev pub decreases-turns : goal.decreases-turns
decreases-turns loop = length loop.rest
