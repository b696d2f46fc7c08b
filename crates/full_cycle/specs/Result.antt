-- What a full collection does to the graph that an image holds, and to the threads that wait.
use Rattle.std.specs.Prelude.{ℕ, ◌≡◌, ◌≢◌, ◌+◌, ◌/◌, ◌<◌, ◌↔◌, true, false, Option, Some}
use Rattle.heap_words.specs.declared.config.Config.{Config}
use Rattle.heap_words.specs.Words.{Word, Top, Heap, Wait, Answer, Pin}
use Rattle.heap_words.specs.Encoding.{plain_header}
use Rattle.shen_graph.specs.declared.name.Name.{Name}
use Rattle.shen_graph.specs.Graph.{Graph}
use Rattle.shen_graph.specs.Reach.{IsReachable}
use Rattle.heap_world.specs.World.{Block, Plot, thing, is_loose}
use Rattle.image_graph.specs.LetGo.{let_go}
use Rattle.image_graph.specs.Pinned.{is_pinned, is_row_pinned}
use Rattle.image_graph.specs.Plot.{packed_block}
use Rattle.image_graph.specs.Full.{kept_in, packed_in}
use Rattle.image_graph.specs.Promised.{Promises, with_promised}
use Rattle.image_graph.specs.Image.{ImageStands}
use Rattle.image_graph.specs.Serving.{served_block, served_promises}
use Rattle.image_graph.specs.Holds.{HoldsBy, AreSized}
use Rattle.image_graph.specs.Left.{IsLeft}

-- The words stand for the graph by pieces that were there once buffers were let go: objects stayed where they were until packing.
pub record StandsAgain (config : Config) (before after : Word → ℕ) (block : Plot) (promises : Promises) (graph : Graph) : Type 0 where
  pub pieces : Plot
  pub came : (address : ℕ) (piece : Block) → is_loose piece ≡ false → pieces address ≡ Some piece → block address ≡ Some piece
  pub stands : ImageStands config after (served_block config (packed_in config (let_go config before)) (packed_block config (is_row_pinned config (let_go config before)) (kept_in config (let_go config before)) pieces) config.mutators) graph
      (served_promises config (packed_in config (let_go config before)) promises config.mutators)

-- Whatever graph the words held, by whatever pieces that say how many words they have, they stand for it afterwards. The objects
-- that were made for waiting threads are further promises.
abbrev pub KeepsTheGraph : Config → (before after : Word → ℕ) → Type 0
KeepsTheGraph config before after = (block : Plot) (owner : ℕ → Option ℕ) (promises : Promises) (graph : Graph) → HoldsBy config before block owner promises graph → AreSized before block
    → StandsAgain config before after block promises graph

-- what is kept is the current copy of an object that the graph reaches, and each object that it reaches has a copy that is kept
pub record KeptAreReachable (config : Config) (memory : Word → ℕ) (block : Plot) (graph : Graph) : Type 0 where
  pub only : (address : ℕ) → 0 < kept_in config memory address → (name : Name) × (refs : ℕ) × (nums : ℕ) × (block address ≡ Some (thing name refs nums)) × IsReachable graph name
  pub all : (name : Name) → IsReachable graph name → (address : ℕ) × (refs : ℕ) × (nums : ℕ) × (0 < kept_in config memory address) × (block address ≡ Some (thing name refs nums))

-- so it is of each graph that the words hold; what answers promise and what pin slots hold counts as reached
abbrev pub KeepsTheReachable : Config → (Word → ℕ) → Type 0
KeepsTheReachable config memory = (block : Plot) (owner : ℕ → Option ℕ) (promises : Promises) (graph : Graph) → HoldsBy config memory block owner promises graph → KeptAreReachable config (let_go config memory) block (with_promised graph promises)

-- a thread that waits is answered that the heap is full exactly where at its turn each region has less room than it asks for
abbrev pub RefusesTheLeft : Config → (before after : Word → ℕ) → Type 0
RefusesTheLeft config before after = (mutator : ℕ) → mutator < config.mutators → before (Wait mutator) ≢ 0 → (after (Answer mutator) ≡ 1) ↔ IsLeft config (packed_in config (let_go config before)) mutator

-- Objects of pinned regions stay where they are: the same words are there afterwards, but for references, which are renewed. What else stands
-- in the region only fills then, by the pieces of `StandsAgain`.
pub record PinnedStay (config : Config) (before after : Word → ℕ) : Type 0 where
  pub pins : (mutator index : ℕ) → after (Pin mutator index) ≡ before (Pin mutator index)
  pub shapes : (address : ℕ) → 0 < kept_in config (let_go config before) address → is_row_pinned config (let_go config before) (address / config.region_words) ≡ true
      → (after (Heap address) ≡ plain_header) × (after (Heap (address + 1)) ≡ before (Heap (address + 1))) × (after (Heap (address + 2)) ≡ before (Heap (address + 2)))
  pub tops : (region : ℕ) → region < config.regions → is_pinned config (let_go config before) region ≡ true → packed_in config (let_go config before) (Top region) ≡ let_go config before (Top region)
