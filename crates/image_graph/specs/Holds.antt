-- When the words of an image hold a graph.
use Rattle.std.specs.Prelude.{ℕ, ◌≡◌, ◌≢◌, ◌+◌, ◌<◌, Option, Some, false, true}
use Rattle.heap_words.specs.declared.config.Config.{Config}
use Rattle.heap_words.specs.Words.{Word, Cset, Free, Top, Current, Wait, Heap, Share}
use Rattle.heap_words.specs.Encoding.{is_forwarded, object_words, filler_header, request_count_in}
use Rattle.regions.specs.Place.{region_with}
use Rattle.regions.specs.Sets.{IsIn, IsOutside}
use Rattle.regions.specs.Walk.{is_filler}
use Rattle.shen_graph.specs.declared.name.Name.{Name}
use Rattle.shen_graph.specs.Graph.{Graph, Object, fresh}
use Rattle.heap_world.specs.World.{Block, Plot, thing, filler, words_of, is_loose, IsFilled, IsFreeWord, ShareIsOpen, AreBuffers, IsGiven}
use Rattle.image_graph.specs.Held.{IsAmong, HoldsGraph}
use Rattle.image_graph.specs.Plot.{NamedAreThings}
use Rattle.image_graph.specs.Full.{now_in, held_words}
use Rattle.image_graph.specs.Promised.{Promises, with_promised, AreFresh}
use Rattle.image_graph.specs.Image.{RootsStand}
use Rattle.image_graph.specs.Serving.{AreAsking}

-- an object that has moved is in the collection set, and its copy is outside and has not moved
pub record HasMoved (config : Config) (memory : Word → ℕ) (block : Plot) (address refs nums : ℕ) (name : Name) : Type 0 where
  pub in_set : IsIn (memory Cset) (region_with config address)
  pub copy : block (now_in memory address) ≡ Some (thing name refs nums)
  pub outside : IsOutside (memory Cset) (region_with config (now_in memory address))
  pub current : is_forwarded (memory (Heap (now_in memory address))) ≡ false

-- who waits asks for the thread's next object, and what a thread has been promised is its next object
pub record AreNext (config : Config) (memory : Word → ℕ) (graph : Graph) (promises : Promises) : Type 0 where
  pub asked : (mutator : ℕ) → mutator < config.mutators → memory (Wait mutator) ≢ 0 → request_count_in (memory (Wait mutator)) ≡ graph.count (mutator + 1) + 1
  pub promised : (thread : ℕ) (name : Name) → promises.ref thread ≡ Some name → name ≡ fresh graph thread
  pub given : (name : Name) (object : Object) → graph.object name ≡ Some object → IsGiven config graph.count name

-- The words of an image hold a graph, by a division of its regions into pieces, what each region's owner is, and what
-- threads have been promised. Pieces fill each region from its base to its top, and those that stand for a name are objects. The region that
-- is shared may be carved, and the free words of buffers are pieces.
-- What roots, answers and pin slots lead to is the graph with the promised objects, by current copies. Nothing is asked of objects
-- that nothing leads to.
pub record HoldsBy (config : Config) (memory : Word → ℕ) (block : Plot) (owner : ℕ → Option ℕ) (promises : Promises) (graph : Graph) : Type 0 where
  pub objects : HoldsGraph config (λ region. memory (Top region)) (λ address. memory (Heap address)) block (now_in memory) (IsAmong (held_words config memory)) (with_promised graph promises)
  pub rooted : RootsStand config memory block graph promises
  pub moved : (address refs nums : ℕ) (name : Name) → block address ≡ Some (thing name refs nums) → is_forwarded (memory (Heap address)) ≡ true → HasMoved config memory block address refs nums name
  pub filled : IsFilled config (λ region. memory (Top region)) block
  pub pieces : NamedAreThings block
  pub free_word : IsFreeWord config (memory Free) (λ region. memory (Top region)) owner
  pub shared_one : ShareIsOpen config (memory Share) (memory Free) (memory Cset) owner
  pub buffers : AreBuffers config (λ region. memory (Top region)) (λ seat. memory (Current seat)) block
  pub asking : AreAsking config memory graph promises 0
  pub next : AreNext config memory graph promises
  pub unreached : AreFresh config.mutators graph promises

-- an object stands at an address, of whatever kind: no room, and no words that only fill
abbrev pub HasObject : Plot → ℕ → Type 0
HasObject block address = (piece : Block) × (block address ≡ Some piece) × (is_loose piece ≡ false)

-- Each object says by its shape word how many words it has, also one that nothing leads to, and its header is not that of words that only
-- fill; these say by their header how many they are.
pub record AreSized (memory : Word → ℕ) (block : Plot) : Type 0 where
  pub objects : (address : ℕ) (piece : Block) → block address ≡ Some piece → is_loose piece ≡ false → object_words (memory (Heap (address + 1))) ≡ words_of piece
  pub headers : (address : ℕ) (piece : Block) → block address ≡ Some piece → is_loose piece ≡ false → is_filler (memory (Heap address)) ≡ false
  pub fillers : (address words : ℕ) → block address ≡ Some (filler words) → memory (Heap address) ≡ filler_header words

-- they hold it in some way
abbrev pub Holds : Config → (Word → ℕ) → Graph → Type 0
Holds config memory graph = (block : Plot) × (owner : ℕ → Option ℕ) × (promises : Promises) × HoldsBy config memory block owner promises graph

-- they hold some graph
abbrev pub HoldsSome : Config → (Word → ℕ) → Type 0
HoldsSome config memory = ∥ ((graph : Graph) × Holds config memory graph) ∥₁

-- .. by pieces each of which says how many words it has
abbrev pub HoldsSized : Config → (Word → ℕ) → Type 0
HoldsSized config memory = ∥ ((graph : Graph) × (block : Plot) × (owner : ℕ → Option ℕ) × (promises : Promises) × HoldsBy config memory block owner promises graph × AreSized memory block) ∥₁
