-- What the end of marking leaves, once the marks are closed and dead regions are freed, and before evacuation begins.
use Rattle.std.specs.Prelude.{ℕ, ◌≡◌, ◌+◌, ◌<◌, ◌≤◌, ◌⊎◌, Some, None}
use Rattle.std.specs.Int.{bit_at}
use Rattle.heap_words.specs.declared.config.Config.{Config}
use Rattle.heap_words.specs.Words.{Word, Phase, Cset, Evac, Ask, Free, Top, Tams, Current, Root, Pin, Black, Heap, Share}
use Rattle.heap_words.specs.Phases.{marking_phase}
use Rattle.shen_graph.specs.declared.name.Name.{Name}
use Rattle.shen_graph.specs.Graph.{Graph}
use Rattle.regions.specs.Marks.{HasMark}
use Rattle.heap_world.specs.World.{moved, spent, hand, promised, dead, carved, Plot, Ghost, no_snapshot, Points, IsParsable, HasContents, AreOwned, PinStands, AreUnwritten, IsMarkable, IsYoung, AreYoungRooms}
use Rattle.heap_world.specs.Asking.{Asking, asks, IsAsked}
use Rattle.heap_world.specs.Represents.{NobodyMarks, NobodyCopies}
use Rattle.heap_world.specs.Roots.{HasNoMoreRoots, HasNoMorePins}
use Rattle.image_graph.specs.Buffers.{HasNoMoreSeats}

-- no piece is an old copy, in hand or carved: all room is free words of buffers
pub record AreUnmoved (block : Plot) : Type 0 where
  pub no_moved : (address refs nums to : ℕ) (name : Name) → block address ≡ Some (moved name refs nums to) → ⊥
  pub no_spent : (address words to : ℕ) → block address ≡ Some (spent words to) → ⊥
  pub no_hand : (address seat words : ℕ) → block address ≡ Some (hand seat words) → ⊥
  pub no_carved : (address seat words : ℕ) → block address ≡ Some (carved seat words) → ⊥

-- Each object, of the graph or promised, is marked or was allocated since mark start, and what is marked is an object. Dead objects are
-- neither. All room lies where what is allocated is new.
pub record AreMarkedOut (config : Config) (black top tams : ℕ → ℕ) (block : Plot) : Type 0 where
  pub objects : (address : ℕ) → IsMarkable block address → HasMark config black address ⊎ IsYoung config tams address
  pub only : (address : ℕ) → config.region_words ≤ address → HasMark config black address → IsMarkable block address
  pub floors : (region : ℕ) → region < config.regions → tams region ≤ top region
  pub deads : (address words : ℕ) → block address ≡ Some (dead words) → IsYoung config tams address → ⊥
  pub young : AreYoungRooms config tams block

-- The words stand for a graph as ever, with what mutators have asked for. The marks are closed, no object has moved, no seat has a region to
-- itself, and no seat but those of the heap has a buffer.
pub record IsMarkedOut (config : Config) (memory : Word → ℕ) (block : Plot) (ghost : Ghost) (graph : Graph) (asking : ℕ → Asking) : Type 0 where
  pub phase_is : memory Phase ≡ marking_phase
  pub cset_is : memory Cset ≡ 0
  pub evac_is : memory Evac ≡ 0
  pub parsable : IsParsable config (λ region. memory (Top region)) block
  pub contents : HasContents config (λ address. memory (Heap address)) block graph.object graph.count
  pub owned : AreOwned config (λ region. memory (Top region)) (memory Share) (memory Free) (memory Cset) (λ seat. memory (Current seat)) block ghost.owner
  pub nobodys : (region : ℕ) → ghost.owner region ≡ None
  pub seated : HasNoMoreSeats config memory
  pub unwritten : AreUnwritten (λ address. memory (Heap address)) block
  pub unmoved : AreUnmoved block
  pub marked : AreMarkedOut config (λ number. memory (Black number)) (λ region. memory (Top region)) (λ region. memory (Tams region)) block
  pub snapshot_is : ghost.snapshot ≡ no_snapshot
  pub unmarking : NobodyMarks config ghost
  pub uncopying : NobodyCopies config ghost
  pub roots : (mutator index : ℕ) → mutator < config.mutators → index < 16 → Points block (memory (Root mutator index)) (graph.root (mutator + 1) index)
  pub pinned : (mutator index : ℕ) → mutator < config.mutators → index < 4 → PinStands config (memory Cset) (memory Evac) block (memory (Pin mutator index)) (graph.pin (mutator + 1) index)
  pub asked : (mutator : ℕ) → mutator < config.mutators → IsAsked memory block graph.count mutator (asking mutator)
  pub heard : (mutator refs nums : ℕ) → mutator < config.mutators → asking mutator ≡ asks refs nums → bit_at (memory Ask) 1 ≡ 1
  pub promised_to : (address seat words : ℕ) → block address ≡ Some (promised seat words) → seat < config.mutators
  pub no_more : HasNoMoreRoots config.mutators graph
  pub no_more_pins : HasNoMorePins config.mutators graph
