-- That packing keeps exactly what the graph reaches, and keeps the graph.
use Rattle.std.specs.Prelude.{ℕ, ◌≡◌, ◌+◌, ◌/◌, Bool, true, not, Some, None, List}
use Rattle.heap_words.specs.declared.config.Config.{Config}
use Rattle.heap_words.specs.Words.{Word, Free, Top, Heap}
use Rattle.regions.specs.Tops.{sum_below}
use Rattle.regions.specs.Places.{open_kept}
use Rattle.regions.specs.SlideLaws.{tops_where}
use Rattle.regions.specs.Slide.{renewed}
use Rattle.shen_graph.specs.declared.name.Name.{Name}
use Rattle.shen_graph.specs.Graph.{Graph, Reference}
use Rattle.shen_graph.specs.Reach.{IsReachable}
use Rattle.heap_world.specs.World.{Plot, thing, Points, IsPlotted, IsFilled, AreObjects, IsFreeWord}
use Rattle.image_graph.specs.Held.{IsLedTo, IsAmong, AreHeldKept, HoldsGraph, IsCopy}
use Rattle.image_graph.specs.Plot.{AreParsed, AreThings, FillersSay, heap_end, packed_block}
use Rattle.image_graph.specs.Full.{packed, place_in, now_in, held_words, kept_in}

-- Exactly the reachable objects are held: what is held is the current copy of a reachable object, and each reachable
-- object has a copy that is held.
pub record HeldAreReachable (config : Config) (top heap : ℕ → ℕ) (block : Plot) (now : ℕ → ℕ) (IsRoot : ℕ → Type 0) (graph : Graph) : Type 0 where
  pub only : (address : ℕ) → IsLedTo now heap IsRoot address → (name : Name) × (refs : ℕ) × (nums : ℕ) × (block address ≡ Some (thing name refs nums)) × IsReachable graph name
  pub all : (name : Name) → IsReachable graph name → (address : ℕ) × (refs : ℕ) × (nums : ℕ) × IsLedTo now heap IsRoot address × (block address ≡ Some (thing name refs nums))

-- so it is wherever words stand for a graph; the root words are a list
abbrev pub ReachableAreHeld : Type 0
ReachableAreHeld = (config : Config) (top heap : ℕ → ℕ) (block : Plot) (now : ℕ → ℕ) (roots : List ℕ) (graph : Graph)
    → HoldsGraph config top heap block now (IsAmong roots) graph → HeldAreReachable config top heap block now (IsAmong roots) graph

-- The words before packing stand for a graph, and exactly what the root words lead to is kept. Regions can be walked, where they are shut.
pub record IsBeforePacking (config : Config) (memory : Word → ℕ) (block : Plot) (graph : Graph) (shut : ℕ → Bool) (now kept : ℕ → ℕ) (roots : List ℕ) : Type 0 where
  pub holds : HoldsGraph config (λ region. memory (Top region)) (λ address. memory (Heap address)) block now (IsAmong roots) graph
  pub kept_are : AreHeldKept (λ address. memory (Heap address)) (IsLedTo now (λ address. memory (Heap address)) (IsAmong roots)) kept
  pub parsed : AreParsed config shut (λ region. memory (Top region)) (λ address. memory (Heap address)) block

-- After packing the words stand for the same graph: pieces fill the regions, and are the graph's objects or only fill; what a root word
-- stood for it stands for once renewed, what lies in a shut region is where it was, and nobody has a region.
pub record KeepsGraph (config : Config) (memory : Word → ℕ) (block : Plot) (graph : Graph) (shut : ℕ → Bool) (now kept : ℕ → ℕ) (roots : List ℕ) : Type 0 where
  pub plotted : IsPlotted config (λ region. packed config shut now kept memory (Top region)) (packed_block config shut kept block)
  pub filled : IsFilled config (λ region. packed config shut now kept memory (Top region)) (packed_block config shut kept block)
  pub objects : AreObjects (λ address. packed config shut now kept memory (Heap address)) (packed_block config shut kept block) graph.object
  pub root_words : (word : ℕ) (reference : Reference) → IsAmong roots word → Points block word reference → Points (packed_block config shut kept block) (renewed (place_in config shut kept) now word) reference
  pub stays : (word : ℕ) (name : Name) → IsAmong roots word → now word ≡ word → shut (word / config.region_words) ≡ true → IsCopy block word name → IsCopy (packed_block config shut kept block) word name
  pub free_word : IsFreeWord config (packed config shut now kept memory Free) (λ region. packed config shut now kept memory (Top region)) (λ region. None)
  pub things : AreThings (packed_block config shut kept block)
  pub fillers : FillersSay (λ address. packed config shut now kept memory (Heap address)) (packed_block config shut kept block)
  pub tops_sum : tops_where (λ region. not (shut (region + 1))) (λ region. packed config shut now kept memory (Top region)) config.regions ≡ sum_below (open_kept config.region_words shut kept) (heap_end config)

abbrev pub PackingKeepsGraph : Type 0
PackingKeepsGraph = (config : Config) (memory : Word → ℕ) (block : Plot) (graph : Graph) (shut : ℕ → Bool) (now kept : ℕ → ℕ) (roots : List ℕ)
    → IsBeforePacking config memory block graph shut now kept roots → KeepsGraph config memory block graph shut now kept roots

-- the objects that one computes as kept are exactly those that the root words lead to, wherever words stand for a graph
abbrev pub KeptAreHeld : Type 0
KeptAreHeld = (config : Config) (memory : Word → ℕ) (block : Plot) (graph : Graph)
    → HoldsGraph config (λ region. memory (Top region)) (λ address. memory (Heap address)) block (now_in memory) (IsAmong (held_words config memory)) graph
    → AreHeldKept (λ address. memory (Heap address)) (IsLedTo (now_in memory) (λ address. memory (Heap address)) (IsAmong (held_words config memory))) (kept_in config memory)
