-- The words of a stage that count.
use Rattle.std.specs.Prelude.{ℕ, ◌+◌, ◌-◌, ◌&&◌, Bool, List, Option, Some, None, slice_get, if◌then◌else◌}
use Rattle.heap_words.specs.declared.config.Config.{Config}
use Rattle.heap_words.specs.Words.{Word, view, is_image, image_start, word_at}
use Rattle.heap_world.specs.Change.{image_view}
use Rattle.heap_words.specs.Steps.{Stage}
use Rattle.collector_rows.specs.Extent.{counts, Counting}
use Rattle.step_core.specs.Actor.{Actor}
pub use Rattle.step_core.specs.Machines.{stored_image, image_read}

-- a word of an image counts there
abbrev pub is_counting : Config → Counting → Word → Bool
is_counting config counting word = is_image word && counts config counting.extent counting.image (word_at config word - image_start config)

-- a table in which the words of an image that count do so as the image has them
abbrev pub mixed : Config → List ℕ → Counting → Word → ℕ
mixed config words counting word = if is_counting config counting word then image_view config counting.image word else view config words word

-- the image that counts, if one does
abbrev pub image_of : Option Actor → Option Counting
image_of None = None
image_of (Some actor) = image_read actor.machine

abbrev pub settled_by : Config → List ℕ → Option Counting → Word → ℕ
settled_by config words None = view config words
settled_by config words (Some counting) = mixed config words counting

-- The number of the control.
abbrev pub control_number : Config → ℕ
control_number config = config.mutators + config.helpers

-- The words that count, by their names. A pause changes them all at once, when it has computed the new ones: from then on, until
-- it has written all of them, the words of its image count and not those of the table. Where it has loaded a part of the image, these are
-- the words of that part, and headers of free words that only fill then.
abbrev pub settled : Config → Stage Actor → Word → ℕ
settled config stage = settled_by config stage.words (image_of (slice_get stage.machines (control_number config)))
