-- A memory that stands for a graph while no machine has room in hand, or carved words.
use Rattle.std.specs.Prelude.{ℕ, ◌≡◌, ◌+◌, ◌<◌, false, Some, None}
use Rattle.std.specs.Int.{bit_at}
use Rattle.heap_words.specs.declared.config.Config.{Config}
use Rattle.heap_words.specs.Ranges.{seat_count}
use Rattle.heap_words.specs.Words.{Word, Cset, Evac, Ask, Root}
use Rattle.shen_graph.specs.Graph.{Graph}
use Rattle.heap_world.specs.World.{hand, carved, Plot, Ghost, Points, AreUsable, Shared}
use Rattle.heap_world.specs.Asking.{Asking, asks, IsAsked, PromisedToMutators}
use Rattle.heap_world.specs.Roots.{HasNoMoreRoots, HasNoMorePins}

-- no machine is about to record an address, or scans an object
pub record NobodyMarks (config : Config) (ghost : Ghost) : Type 0 where
  pub records_none : (seat : ℕ) → seat < seat_count config.mutators config.helpers → ghost.recording seat ≡ None
  pub scans_none : (seat : ℕ) → seat < seat_count config.mutators config.helpers → ghost.scanning seat ≡ None

-- no machine copies an object, or works on a unit of evacuation
pub record NobodyCopies (config : Config) (ghost : Ghost) : Type 0 where
  pub copies_none : (seat : ℕ) → seat < seat_count config.mutators config.helpers → ghost.copying seat ≡ false
  pub works_none : (seat : ℕ) → seat < seat_count config.mutators config.helpers → ghost.working seat ≡ None

-- There is a way to divide the regions into objects of the graph and objects promised to mutators, with no room but that of buffers, and
-- nobody marks or copies; each mutator's roots stand for its thread's roots, and it has asked for what is said; the word of what is asked has
-- the bit that a mutator waits, where one does; and the graph has no other roots and pin slots. What is asked of the root words besides is a variable, of
-- the division.
pub record RepresentsWith (AsksOfRoots : Plot → Type 0) (config : Config) (memory : Word → ℕ) (graph : Graph) (asking : ℕ → Asking) : Type 0 where
  pub block : Plot
  pub ghost : Ghost
  pub shared : Shared config (record { memory = memory; block = block; ghost = ghost; graph = graph })
  pub roots : (mutator index : ℕ) → mutator < config.mutators → index < 16 → Points block (memory (Root mutator index)) (graph.root (mutator + 1) index)
  pub usable : AsksOfRoots block
  pub none : (address seat words : ℕ) → block address ≡ Some (hand seat words) → ⊥
  pub uncarved : (address seat words : ℕ) → block address ≡ Some (carved seat words) → ⊥
  pub asked : (mutator : ℕ) → mutator < config.mutators → IsAsked memory block graph.count mutator (asking mutator)
  pub heard : (mutator refs nums : ℕ) → mutator < config.mutators → asking mutator ≡ asks refs nums → bit_at (memory Ask) 1 ≡ 1
  pub promised_to : PromisedToMutators config block
  pub unmarking : NobodyMarks config ghost
  pub uncopying : NobodyCopies config ghost
  pub no_more : HasNoMoreRoots config.mutators graph
  pub no_more_pins : HasNoMorePins config.mutators graph

-- words represent a graph: each root word may be used besides
abbrev pub Represents : Config → (Word → ℕ) → Graph → (ℕ → Asking) → Type 0
Represents config memory = RepresentsWith (λ block. AreUsable config (memory Cset) (memory Evac) block (λ mutator index. memory (Root mutator index))) config memory

-- They do so by copies: a root word need not be usable. It names an object by a copy that may not be the current one, or that may be about
-- to be copied.
abbrev pub RepresentsByCopies : Config → (Word → ℕ) → Graph → (ℕ → Asking) → Type 0
RepresentsByCopies = RepresentsWith (λ block. Unit {0})
