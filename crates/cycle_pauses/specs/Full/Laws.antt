-- That a full collection does what a pause owes.
use Rattle.std.specs.Prelude.{ℕ, ◌≡◌, ◌++◌, Option, List, length, replicate}
use Rattle.heap_words.specs.declared.config.Config.{Config}
use Rattle.heap_words.specs.Words.{Word, image_start, table_words, view}
use Rattle.shen_graph.specs.Graph.{Graph}
use Rattle.heap_world.specs.World.{Plot}
use Rattle.heap_world.specs.Asking.{Asking}
use Rattle.heap_world.specs.Represents.{Represents, RepresentsByCopies}
use Rattle.heap_world.specs.Change.{image_words, image_view, IsPaused, IsPause}
use Rattle.image_graph.specs.Full.{full}
use Rattle.image_graph.specs.Promised.{Promises}
use Rattle.image_graph.specs.Holds.{HoldsBy, AreSized, HoldsSome, HoldsSized}
use Rattle.cycle_words.specs.StillHolds.{WhileCollecting}
use Rattle.cycle_pauses.specs.Full.Image.{full_image}

-- Words that represent a graph, with what mutators have asked for, hold a graph in the sense of the full collection, in a way in which
-- each piece says how many words it has.
abbrev pub RepresentingHolds : Type 0
RepresentingHolds = (config : Config) (memory : Word → ℕ) (graph : Graph) (asking : ℕ → Asking) → Represents config memory graph asking → HoldsSized config memory

-- They do so in a way in which each piece says how many words it has, and what finishing a cycle asks for holds: what the single calls of a
-- pause ask for where they keep the graph.
abbrev pub RepresentingIsSized : Type 0
RepresentingIsSized = (config : Config) (memory : Word → ℕ) (graph : Graph) (asking : ℕ → Asking) → Represents config memory graph asking
    → (block : Plot) × (owner : ℕ → Option ℕ) × (promises : Promises) × HoldsBy config memory block owner promises graph × AreSized memory block × WhileCollecting config memory block

-- By their names the words of an image after a full collection are those that a full collection makes of its words.
abbrev pub ImageIsFull : Type 0
ImageIsFull = (config : Config) (image : List ℕ) → length image ≡ image_words config → HoldsSome config (image_view config image) → image_view config (full_image config image) ≡ full config (image_view config image)

-- So a table that reads as a full collection makes of an image is that image after it, behind words that are 0.
abbrev pub TableIsFull : Type 0
TableIsFull = (config : Config) (image table : List ℕ) → length image ≡ image_words config → length table ≡ table_words config → HoldsSome config (image_view config image)
    → view config table ≡ full config (image_view config image) → table ≡ replicate (image_start config) 0 ++ full_image config image

-- A full collection does what a pause owes also where roots name old copies: it needs no root that may be used.
abbrev pub FullFromCopies : Type 0
FullFromCopies = (config : Config) (memory : Word → ℕ) (graph : Graph) (asking : ℕ → Asking) → RepresentsByCopies config memory graph asking → IsPaused config memory (full config memory) graph asking

-- A full collection is a pause: it keeps the length of the image, and where the words represent a graph it keeps the graph,
-- answers each mutator that asks, and refuses an object only where the heap is crowded.
abbrev pub FullIsPause : Type 0
FullIsPause = IsPause full_image
