-- Which words the control can go on from.
use Rattle.std.specs.Prelude.{ℕ, ◌≡◌, ◌≢◌, false, List}
use Rattle.heap_words.specs.declared.config.Config.{Config}
use Rattle.heap_words.specs.Words.{Word, Phase}
use Rattle.heap_words.specs.Phases.{idle_phase, marking_phase}
use Rattle.heap_world.specs.Change.{image_view}
use Rattle.image_graph.specs.SeatBuffers.{AreInside}
use Rattle.mark_core.specs.Trace.{HasRootsInside}
use Rattle.collector_rows.specs.declared.extent.Extent.{Extent}
use Rattle.collector_rows.specs.declared.extent.Extent.TheVariants.{Whole, OffHeap, Ahead}
use Rattle.collector_rows.specs.Extent.{extent_after}
use Rattle.collector_rows.specs.declared.control_spot.ControlSpot.{ControlSpot}
use Rattle.collector_rows.specs.declared.control_spot.ControlSpot.TheVariants.{LoadWord}
use Rattle.collector_rows.specs.ControlRows.{Controlling, loads_more, loaded_all}
use Rattle.collector_rows.specs.ControlReady.{UnitGoesOn}
use Rattle.cycle_pauses.specs.Collect.{is_room_needed, CanPauseSome}

-- The words off the heap are those of a heap in which marking can begin: no room is needed and no cycle runs; roots, answers and
-- pin slots hold addresses of the heap, and buffers lie in its regions.
pub record CanBeginOff (config : Config) (memory : Word → ℕ) : Type 0 where
  pub calm : is_room_needed memory ≡ false
  pub idle : memory Phase ≡ idle_phase
  pub roots : HasRootsInside config memory
  pub buffers : AreInside config memory

-- The words before those of the mutators are those of a heap in which updating can begin or end: no room is needed, and objects are
-- not marked; buffers lie in its regions.
pub record CanUpdateAhead (config : Config) (memory : Word → ℕ) : Type 0 where
  pub calm : is_room_needed memory ≡ false
  pub runs : memory Phase ≢ idle_phase
  pub unmarked : memory Phase ≢ marking_phase
  pub buffers : AreInside config memory

-- what a pause needs of the words that it has loaded, by its extent
abbrev pub CanCollectPart : Config → Extent → (Word → ℕ) → Type 0
CanCollectPart config Whole memory = CanPauseSome config memory
CanCollectPart config OffHeap memory = CanBeginOff config memory
CanCollectPart config Ahead memory = CanUpdateAhead config memory

-- In a unit those from which the unit can; the last word of the image that is loaded, where a pause can collect what was loaded; and
-- else each word.
abbrev pub fits_with : Config → ControlSpot → (phase : ℕ) → List ℕ → ℕ → Type 0
fits_with config (LoadWord index extent) phase image got =
    loads_more config phase index extent got ≡ false → CanCollectPart config (extent_after phase index extent got) (image_view config (loaded_all config image got))
fits_with config spot phase image got = UnitGoesOn config spot got

abbrev pub IsFit : Config → Controlling → ℕ → Type 0
IsFit config control got = fits_with config control.spot control.phase control.image got
