-- What holds in every pause while marking runs, and what holds once it has ended.
use Rattle.std.specs.Prelude.{ℕ, ◌≡◌, ◌≢◌, ◌+◌, ◌<◌, ◌≤◌, Option, Some}
use Rattle.heap_words.specs.declared.config.Config.{Config}
use Rattle.heap_words.specs.Words.{Word, Cset, Top, Tams, Count, Buffer, Grey, Black, Heap}
use Rattle.heap_words.specs.Encoding.{refs_in, shape_word}
use Rattle.heap_words.specs.Phases.{marking_phase}
use Rattle.shen_graph.specs.declared.name.Name.{Name}
use Rattle.shen_graph.specs.Graph.{Object}
use Rattle.heap_world.specs.World.{Plot, Ghost, thing, AreObjects, KeepsSnapshot}
use Rattle.heap_world.specs.Represents.{NobodyMarks}
use Rattle.image_graph.specs.Held.{IsLedTo, IsAmong}
use Rattle.image_graph.specs.Full.{now_in, held_words}
use Rattle.cycle_words.specs.Marking.Marks.{IsKept}

-- an object stands at an address, and its shape word says so
pub record IsObjectAt (memory : Word → ℕ) (block : Plot) (address : ℕ) : Type 0 where
  pub name : Name
  pub refs : ℕ
  pub nums : ℕ
  pub here : block address ≡ Some (thing name refs nums)
  pub shape : memory (Heap (address + 1)) ≡ shape_word refs nums
  pub few_refs : refs ≤ 16
  pub few_nums : nums ≤ 16

-- an object can be reached: roots, answers or pin slots lead to it
abbrev pub CanBeReached : Config → (Word → ℕ) → ℕ → Type 0
CanBeReached config memory = IsLedTo (now_in memory) (λ address. memory (Heap address)) (IsAmong (held_words config memory))

-- While marking runs: objects are marked from a snapshot, of which no machine holds back what it is about to record or scan; each piece that
-- is an object is one of some graph, also where nothing leads to it; and no region is collected.
pub record IsMarking (config : Config) (memory : Word → ℕ) (block : Plot) : Type 0 where
  pub ghost : Ghost
  pub object : Name → Option Object
  pub marked : KeepsSnapshot config marking_phase (λ number. memory (Grey number)) (λ number. memory (Black number)) (λ mutator. memory (Count mutator)) (λ mutator entry. memory (Buffer mutator entry)) (λ region. memory (Top region)) (λ region. memory (Tams region))
      (λ address. memory (Heap address)) block ghost.snapshot ghost.recording ghost.scanning
  pub unmarking : NobodyMarks config ghost
  pub objects : AreObjects (λ address. memory (Heap address)) block object
  pub uncollected : memory Cset ≡ 0

-- Once marking has ended: each object that can be reached is kept, and each field of a kept object is null or names a kept
-- object.
pub record IsMarkedThrough (config : Config) (memory : Word → ℕ) (block : Plot) : Type 0 where
  pub reachable : (address : ℕ) → CanBeReached config memory address → IsKept config memory address
  pub fields : (address i : ℕ) → IsObjectAt memory block address → IsKept config memory address → i < refs_in (memory (Heap (address + 1))) → memory (Heap (address + 3 + i)) ≢ 0
      → IsObjectAt memory block (memory (Heap (address + 3 + i))) × IsKept config memory (memory (Heap (address + 3 + i)))
