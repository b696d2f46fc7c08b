-- What callers know of a deque of hints, and of who steals from it: the heap whose addresses it holds, and which deque it is.
use Rattle.std.specs.Prelude.{◌≡◌}
use Rattle.crossbeam_deque.specs.Handles.{worker_deque, stealer_deque}
use Rattle.heap_words.specs.declared.config.Config.{Config}
use Rattle.table_heap.specs.declared.hints.Hints.{Hints}
use Rattle.table_heap.specs.declared.hints.Thief.{Thief}

abbrev pub config_of : Hints → Config
config_of hints = hints.config

abbrev pub config_in : Thief → Config
config_in thief = thief.config

-- it steals from this deque
abbrev pub IsThiefOf : Hints → Thief → Type 0
IsThiefOf hints thief = stealer_deque thief.stealer ≡ worker_deque hints.worker

-- it is the same deque, whatever it holds
abbrev pub IsSameDeque : Hints → Hints → Type 0
IsSameDeque old new = worker_deque new.worker ≡ worker_deque old.worker
