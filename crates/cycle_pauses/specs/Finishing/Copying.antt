-- What copying all that is left of the collection set leaves of the words of an image.
use Rattle.std.specs.Prelude.{ℕ, ◌≡◌, ◌*◌, true, Some}
use Rattle.heap_words.specs.declared.config.Config.{Config}
use Rattle.heap_words.specs.Words.{Word, Phase, Cset}
use Rattle.heap_words.specs.Phases.{evacuation_phase}
use Rattle.shen_graph.specs.declared.name.Name.{Name}
use Rattle.shen_graph.specs.Graph.{Graph}
use Rattle.regions.specs.Place.{region_with}
use Rattle.image_graph.specs.Pinned.{is_pinned}
use Rattle.heap_world.specs.World.{thing, IsCollected}
use Rattle.heap_world.specs.Asking.{Asking}
use Rattle.heap_world.specs.Represents.{Represents, RepresentsByCopies}
use Rattle.cycle_words.specs.Evacuation.Copied.{MayChange}
use Rattle.cycle_words.specs.Finishing.Copies.{CanCopyFrom, all_copied, is_room_for_all}

-- The words stand for the same graph, but that roots may name old copies; where all found room no object has its current copy in the
-- collection set any more, but in pinned regions; and words that copying does not write stay.
pub record IsCopiedAll (config : Config) (memory : Word → ℕ) (graph : Graph) (asking : ℕ → Asking) : Type 0 where
  pub stands : RepresentsByCopies config (all_copied config memory) graph asking
  pub none_left : is_room_for_all config memory ≡ true → (address refs nums : ℕ) (name : Name) → stands.block address ≡ Some (thing name refs nums)
      → IsCollected config (all_copied config memory Cset) address → is_pinned config memory (region_with config address) ≡ true
  pub same : (word : Word) → (MayChange word → ⊥) → all_copied config memory word ≡ memory word

-- Words that represent a graph do so by copies once all that is left was copied, or what found room.
abbrev pub CopyingKeeps : Type 0
CopyingKeeps = (config : Config) (memory : Word → ℕ) (graph : Graph) (asking : ℕ → Asking) → Represents config memory graph asking → IsCopiedAll config memory graph asking

-- And while objects are evacuated what is left can be copied out, one object after the other.
abbrev pub LeftCanBeCopied : Type 0
LeftCanBeCopied = (config : Config) (memory : Word → ℕ) (graph : Graph) (asking : ℕ → Asking) → Represents config memory graph asking → memory Phase ≡ evacuation_phase
    → CanCopyFrom config memory config.region_words (config.regions * config.region_words)
