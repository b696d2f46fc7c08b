-- What the next access of a machine settles, by the words of a table as they are before it.
use Rattle.std.specs.Prelude.{ℕ, ◌+◌, ◌==◌, ◌&&◌, List, Option, Some, None, slice_index, if◌then◌else◌}
use Rattle.heap_words.specs.declared.config.Config.{Config}
use Rattle.heap_words.specs.declared.access.Access.{Access}
use Rattle.heap_words.specs.declared.access.Access.TheVariants.{Store}
use Rattle.heap_words.specs.Words.{Word, Answer, image_start}
use Rattle.heap_words.specs.Rows.{name_of}
use Rattle.shen_graph.specs.declared.command.Command.{Command}
use Rattle.shen_graph.specs.declared.command.Reply.{Reply}
use Rattle.mutator.specs.Told.{told_of}
use Rattle.collector_rows.specs.declared.control_spot.ControlSpot.{ControlSpot}
use Rattle.collector_rows.specs.declared.control_spot.ControlSpot.TheVariants.{StoreWord}
use Rattle.step_core.specs.Actor.{Machine, mutating, controlling}

-- of a mutator, the reply of its call in progress
abbrev pub reply_settled : (Word → ℕ) → Machine → Option Reply
reply_settled memory (mutating mutator) = told_of memory mutator
reply_settled memory _ = None

-- the command of its last call
abbrev pub command_in : Machine → Option Command
command_in (mutating mutator) = Some mutator.kept.command
command_in _ = None

-- The mutator to which the heap is said to be full, where a number is stored over a word: the answer 1 over none.
abbrev pub refused_word : Word → (before after : ℕ) → Option ℕ
refused_word (Answer mutator) before after = if (before == 0) && (after == 1) then Some mutator else None
refused_word _ before after = None

-- by an access
abbrev pub refused_access : Config → List ℕ → Access → Option ℕ
refused_access config words (Store index value) = refused_word (name_of config index) (slice_index words index) value
refused_access config words _ = None

-- by the next access of the control, which stores the words of a new image
abbrev pub refused_at : Config → List ℕ → ControlSpot → List ℕ → Option ℕ
refused_at config words (StoreWord index extent) image = refused_word (name_of config (image_start config + index)) (slice_index words (image_start config + index)) (slice_index image index)
refused_at config words _ image = None

-- and by that of a machine
abbrev pub refused_by : Config → List ℕ → Machine → Option ℕ
refused_by config words (controlling control) = refused_at config words control.spot control.image
refused_by config words _ = None
