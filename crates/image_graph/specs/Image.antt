-- When the words of an image stand for a graph, while no object has an old copy and each piece is an object, or only fills.
use Rattle.std.specs.Prelude.{ℕ, ◌≡◌, ◌+◌, ◌<◌, ◌≤◌, ◌⊎◌, false, Option, Some, None}
use Rattle.heap_words.specs.declared.config.Config.{Config}
use Rattle.heap_words.specs.Words.{Word, Free, Top, Root, Answer, Pin, Heap}
use Rattle.shen_graph.specs.declared.name.Name.{Name}
use Rattle.shen_graph.specs.declared.pin.Pinned.{Pinned}
use Rattle.shen_graph.specs.Graph.{Graph, Reference}
use Rattle.heap_world.specs.World.{Plot, name_at, Points, IsPlotted, IsFilled, AreObjects, IsFreeWord}
use Rattle.heap_words.specs.Encoding.{is_forwarded}
use Rattle.image_graph.specs.Pinned.{is_row_pinned}
use Rattle.image_graph.specs.Held.{IsAmong, HoldsGraph, IsCopy}
use Rattle.image_graph.specs.Plot.{AreParsed, AreThings, FillersSay, packed_block}
use Rattle.image_graph.specs.Full.{now_in, held_words, kept_in, packed}
use Rattle.image_graph.specs.Promised.{Promises, with_promised}

-- an answer stands for what a thread is promised: 0 and 1 for nothing, and else the object's address
abbrev pub AnswerStands : Plot → ℕ → Reference → Type 0
AnswerStands block word reference = ((word ≤ 1) × (reference ≡ None)) ⊎ ((1 < word) × (name : Name) × (reference ≡ Some name) × (name_at (block word) ≡ Some name))

-- A pin word stands for what its slot holds: 0 for nothing, and else it is the object's place, where its current copy is.
abbrev pub PinWordStands : (Word → ℕ) → Plot → ℕ → Option Pinned → Type 0
PinWordStands memory block word None = word ≡ 0
PinWordStands memory block word (Some pinned) = (word ≡ pinned.place) × IsCopy block word pinned.name × (is_forwarded (memory (Heap word)) ≡ false)

-- The root words stand for the roots, the pin words for what pin slots hold, and the answers for what is promised; there are no other
-- roots, pins and promises.
pub record RootsStand (config : Config) (memory : Word → ℕ) (block : Plot) (graph : Graph) (p : Promises) : Type 0 where
  pub roots : (mutator index : ℕ) → mutator < config.mutators → index < 16 → Points block (memory (Root mutator index)) (graph.root (mutator + 1) index)
  pub answers : (mutator : ℕ) → mutator < config.mutators → AnswerStands block (memory (Answer mutator)) (p.ref (mutator + 1))
  pub no_more_roots : (thread index : ℕ) (name : Name) → graph.root thread index ≡ Some name → (mutator : ℕ) × (mutator < config.mutators) × (thread ≡ mutator + 1) × (index < 16)
  pub pins : (mutator index : ℕ) → mutator < config.mutators → index < 4 → PinWordStands memory block (memory (Pin mutator index)) (graph.pin (mutator + 1) index)
  pub no_more_pins : (thread index : ℕ) (p : Pinned) → graph.pin thread index ≡ Some p → (mutator : ℕ) × (mutator < config.mutators) × (thread ≡ mutator + 1) × (index < 4)
  pub no_more_promised : (thread : ℕ) (name : Name) → p.ref thread ≡ Some name → (mutator : ℕ) × (mutator < config.mutators) × (thread ≡ mutator + 1)

-- The words stand for a graph with promised objects: pieces fill the regions and each is one of its objects, or words that only fill;
-- roots, pins and answers stand for its roots, and the free word is right.
pub record ImageStands (config : Config) (memory : Word → ℕ) (block : Plot) (graph : Graph) (promises : Promises) : Type 0 where
  pub plotted : IsPlotted config (λ region. memory (Top region)) block
  pub filled : IsFilled config (λ region. memory (Top region)) block
  pub objects : AreObjects (λ address. memory (Heap address)) block (with_promised graph promises).object
  pub things : AreThings block
  pub fillers : FillersSay (λ address. memory (Heap address)) block
  pub free_word : IsFreeWord config (memory Free) (λ region. memory (Top region)) (λ r. None)
  pub rooted : RootsStand config memory block graph promises

-- An image whose words stand for a graph holds it, by current copies; ..
abbrev pub StandingHolds : Type 0
StandingHolds = (config : Config) (memory : Word → ℕ) (block : Plot) (graph : Graph) (promises : Promises) → ImageStands config memory block graph promises
    → HoldsGraph config (λ region. memory (Top region)) (λ address. memory (Heap address)) block (now_in memory) (IsAmong (held_words config memory)) (with_promised graph promises)

-- .. and where the words hold a graph, and pinned regions can be walked, they stand for it once what is held was packed.
abbrev pub PackedStands : Type 0
PackedStands = (config : Config) (memory : Word → ℕ) (block : Plot) (graph : Graph) (promises : Promises)
    → HoldsGraph config (λ region. memory (Top region)) (λ address. memory (Heap address)) block (now_in memory) (IsAmong (held_words config memory)) (with_promised graph promises)
    → RootsStand config memory block graph promises → AreParsed config (is_row_pinned config memory) (λ region. memory (Top region)) (λ address. memory (Heap address)) block
    → ImageStands config (packed config (is_row_pinned config memory) (now_in memory) (kept_in config memory) memory) (packed_block config (is_row_pinned config memory) (kept_in config memory) block) graph promises
