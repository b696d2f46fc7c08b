use Rattle.std.proofs.Common.{◌≡◌, List, ◌++◌, length}
use Rattle.heap_words.specs.declared.schedule.Item.{Item}
use Rattle.trace_reading.specs.Spelling.{IsItem, spaced_item}
use Rattle.trace_reading.specs.Front.{IsLineEnd}
use Rattle.trace_reading.proofs.Pieces.{HasBegun}
use Rattle.trace_reading.proofs.schedule_lines.take_items.Given as goal

abbrev pub invariant-items : goal.invariant-items
invariant-items loop = (items : List Item) × HasBegun spaced_item (IsItem loop.config) IsLineEnd loop.bytes loop.rest items × (loop.schedule ≡ loop.fn.schedule ++ items)

abbrev pub decreases-items : goal.decreases-items
decreases-items loop = length loop.rest
