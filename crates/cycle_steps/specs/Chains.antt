-- Where marking stands at any moment, whoever scans or records: each object is marked, or was allocated since, or marking comes to
-- it.
use Rattle.std.specs.Prelude.{ℕ, ◌≡◌, ◌≢◌, ◌+◌, ◌<◌, ◌≤◌, ◌⊎◌, Some}
use Rattle.heap_words.specs.declared.config.Config.{Config}
use Rattle.heap_words.specs.Ranges.{seat_count}
use Rattle.heap_words.specs.Words.{Phase, Tams, Black, Heap}
use Rattle.heap_words.specs.Phases.{marking_phase}
use Rattle.regions.specs.Marks.{mark_at, HasMark}
use Rattle.shen_graph.specs.declared.name.Name.{Name}
use Rattle.heap_world.specs.World.{World, thing, IsMarkable, IsYoung, NotedIn, Shared}
use Rattle.cycle_steps.specs.Scanning.{scan_at}

-- marking has still to come to an object: it is not black, and stood below its region's top at mark start
pub record IsStillOpen (config : Config) (world : World) (a : ℕ) : Type 0 where
  pub unmarked : mark_at config (λ number. world.memory (Black number)) a ≡ 0
  pub old : IsYoung config (λ region. world.memory (Tams region)) a → ⊥

-- a field of an object names an address
pub record IsNamedBy (world : World) (address k value : ℕ) : Type 0 where
  pub name : Name
  pub refs : ℕ
  pub nums : ℕ
  pub object : world.block address ≡ Some (thing name refs nums)
  pub below : k < refs
  pub word : world.memory (Heap (address + 3 + k)) ≡ value
  pub some : value ≢ 0

-- Marking comes to an object by a chain of open objects. The first is noted: it is grey, in a buffer, or in a mutator's hand to be
-- recorded; or a field names it that a machine in a scan has still to load or to make grey. Each other one is named by a field of the
-- one before.
pub data IsChained (config : Config) (world : World) : ℕ → Type 0 where
  begins : (a : ℕ) → NotedIn config world a → IsStillOpen config world a → IsChained config world a
  in_scan : (seat address at k other_address : ℕ) → seat < seat_count config.mutators config.helpers → world.ghost.scanning seat ≡ Some (scan_at address at) → at ≤ k → IsNamedBy world address k other_address → IsStillOpen config world other_address → IsChained config world other_address
  goes_on : (address k other_address : ℕ) → IsChained config world address → IsNamedBy world address k other_address → IsStillOpen config world other_address → IsChained config world other_address

-- an object is marked, or was allocated since mark start, or marking comes to it
abbrev pub IsSafe : Config → World → ℕ → Type 0
IsSafe config world address = HasMark config (λ number. world.memory (Black number)) address ⊎ (IsYoung config (λ region. world.memory (Tams region)) address ⊎ IsChained config world address)

-- While objects are marked, each object is safe. So is each that a root or a field names, for these name objects.
abbrev pub MarkingComes : Type 0
MarkingComes = (config : Config) (world : World) → Shared config world → world.memory Phase ≡ marking_phase → (address : ℕ) → IsMarkable world.block address → IsSafe config world address
