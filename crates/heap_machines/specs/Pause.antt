-- What pauses of the heap do. Everything above names it by this word alone.
use Rattle.heap_world.specs.Change.{Change}
use Rattle.control.specs.Collect.{collect_image}

-- what a pause makes of the words of its image: it goes on to the next phase of the cycle, or makes room
abbrev pub pause_image : Change
pause_image = collect_image
