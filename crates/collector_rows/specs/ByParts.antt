-- What a change owes whose pauses load and store a part of the image.
use Rattle.std.specs.Prelude.{ℕ, ◌≡◌, ◌<◌, if◌then◌else◌, List, length, slice_index}
use Rattle.heap_words.specs.declared.config.Config.{Config}
use Rattle.heap_world.specs.Change.{Change, IsPause, image_words}
use Rattle.collector_rows.specs.declared.extent.Extent.{Extent}
use Rattle.collector_rows.specs.Extent.{is_of_extent, extent_by, counts}

-- one image has of another the words of an extent, and 0 for each other word
abbrev pub IsImagePart : Config → Extent → (whole part : List ℕ) → Type 0
IsImagePart config extent whole part = (index : ℕ) → index < image_words config → slice_index part index ≡ (if is_of_extent config extent index then slice_index whole index else 0)

-- one image becomes of another where the words that count become those of a third, and all others stay
abbrev pub IsMadeOf : Config → Extent → (whole made part_made : List ℕ) → Type 0
IsMadeOf config extent whole made part_made = (index : ℕ) → index < image_words config → slice_index made index ≡ (if counts config extent part_made index then slice_index part_made index else slice_index whole index)

-- The law of a change by parts: what it makes of an image is what it makes of the part that a pause has loaded, where that counts, and all other
-- words stay. The extent is that of the words themselves, and the first of them is the phase.
pub record GoesByParts (change : Change) : Type 0 where
  pub made : (config : Config) (whole part : List ℕ) → length whole ≡ image_words config → length part ≡ image_words config
      → IsImagePart config (extent_by config (slice_index part 0) part) whole part
      → IsMadeOf config (extent_by config (slice_index part 0) part) whole (change config whole) (change config part)

-- a pause is what a pause owes, and goes by parts
pub record PausesByParts (change : Change) : Type 0 where
  pub whole : IsPause change
  pub parts : GoesByParts change
