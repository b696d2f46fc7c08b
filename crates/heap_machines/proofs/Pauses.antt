-- What pauses of the heap do is what a pause owes, and goes by parts.
use Rattle.collector_rows.specs.ByParts.{PausesByParts}
use Rattle.control.proofs.Fitting.{collect_pauses_by_parts}
use Rattle.heap_machines.specs.Pause.{pause_image}

pub heap_pauses : PausesByParts pause_image
heap_pauses = collect_pauses_by_parts
