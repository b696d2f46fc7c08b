-- When marking runs over an image, and what its pauses do to the graph that the image holds.
use Rattle.std.specs.Prelude.{ℕ, ◌<◌, ◌↔◌, ◌⊎◌, Bool, Option}
use Rattle.heap_words.specs.declared.config.Config.{Config}
use Rattle.heap_words.specs.Words.{Word, Free}
use Rattle.regions.specs.Sets.{IsIn}
use Rattle.shen_graph.specs.Graph.{Graph}
use Rattle.heap_world.specs.World.{Plot}
use Rattle.image_graph.specs.Promised.{Promises}
use Rattle.image_graph.specs.Holds.{HoldsBy}
use Rattle.cycle_words.specs.Marking.WhileMarking.{IsMarking, IsMarkedThrough}
use Rattle.cycle_words.specs.Marking.Final.{IsDead, freed_block, freed_owner}
use Rattle.cycle_words.specs.Marking.Laws.{BeginsMarking, AreClosed}

-- the words hold some graph while marking runs
abbrev pub MarksSome : Config → (Word → ℕ) → Type 0
MarksSome config memory = ∥ ((graph : Graph) × (block : Plot) × (owner : ℕ → Option ℕ) × (promises : Promises) × HoldsBy config memory block owner promises graph × IsMarking config memory block) ∥₁

-- whatever graph the words held, in whatever way, they hold it afterwards in the same way, and without garbage, and marking runs
abbrev pub BeginsToMark : Config → (before after : Word → ℕ) → Type 0
BeginsToMark config before after = (block : Plot) (owner : ℕ → Option ℕ) (promises : Promises) (graph : Graph) → HoldsBy config before block owner promises graph → BeginsMarking config before after block owner promises graph

-- exactly what tracing comes to has become grey and black
abbrev pub MarksTheTraced : Config → (before after : Word → ℕ) → Type 0
MarksTheTraced config before after = (block : Plot) (owner : ℕ → Option ℕ) (promises : Promises) (graph : Graph) → HoldsBy config before block owner promises graph → IsMarking config before block → AreClosed config before after

-- whatever graph the words held while marking ran, they hold it afterwards in the same way, and all that can be reached is kept
abbrev pub MarksThrough : Config → (before after : Word → ℕ) → Type 0
MarksThrough config before after = (block : Plot) (owner : ℕ → Option ℕ) (promises : Promises) (graph : Graph) → HoldsBy config before block owner promises graph → IsMarking config before block
    → HoldsBy config after block owner promises graph × IsMarkedThrough config after block

-- they hold it without the pieces of the regions that were freed, and all that can be reached is kept
abbrev pub EndsMarking : Config → (out : ℕ → Bool) → (before after : Word → ℕ) → Type 0
EndsMarking config out before after = (block : Plot) (owner : ℕ → Option ℕ) (promises : Promises) (graph : Graph) → HoldsBy config before block owner promises graph → IsMarking config before block
    → HoldsBy config after (freed_block config out block) (freed_owner out owner) promises graph × IsMarkedThrough config after (freed_block config out block)

-- the regions that are free afterwards: those that were, and those that are dead once the marks are closed
abbrev pub FreesTheDead : Config → (before closed after : Word → ℕ) → Type 0
FreesTheDead config before closed after = (region : ℕ) → region < config.regions → IsIn (after Free) region ↔ (IsIn (before Free) region ⊎ IsDead config closed region)
