-- What a mutator that waits, or has no call in progress, has asked for: its request, its answer, and what a pause made for it.
use Rattle.std.specs.Prelude.{ℕ, ◌≡◌, ◌+◌, ◌<◌, ◌≤◌, Some}
use Rattle.shen_graph.specs.Valid.{most_objects}
use Rattle.heap_words.specs.declared.config.Config.{Config}
use Rattle.heap_words.specs.Encoding.{shape_word, fresh_word, request_code}
use Rattle.heap_words.specs.Words.{Word, Wait, Answer, Heap}
use Rattle.heap_world.specs.World.{Plot, promised}

-- It has asked for nothing; it asks for an object of so many references and numbers, and is not answered yet; it was answered
-- that the heap is full; or the object was made for it, and it was answered where.
pub data Asking : Type 0 where
  nothing : Asking
  asks : (refs nums : ℕ) → Asking
  refused : Asking
  given : (refs nums : ℕ) → Asking

-- no object is promised to the mutator of a seat
abbrev pub HasNoPromise : Plot → ℕ → Type 0
HasNoPromise block seat = (address words : ℕ) → block address ≡ Some (promised seat words) → ⊥

-- what is promised is promised to mutators
abbrev pub PromisedToMutators : Config → Plot → Type 0
PromisedToMutators config block = (address seat words : ℕ) → block address ≡ Some (promised seat words) → seat < config.mutators

-- its word asks for its next object, of so many references and numbers
pub record IsRequest (memory : Word → ℕ) (count : ℕ → ℕ) (mutator refs nums : ℕ) : Type 0 where
  pub wait_is : memory (Wait mutator) ≡ request_code (count (mutator + 1) + 1) (shape_word refs nums)
  pub few_refs : refs ≤ 16
  pub few_nums : nums ≤ 16
  pub few : count (mutator + 1) < most_objects

-- its next object stands at an address, with the words of a new one, and no other is promised to it
pub record IsPromise (memory : Word → ℕ) (block : Plot) (count : ℕ → ℕ) (seat refs nums address : ℕ) : Type 0 where
  pub here : block address ≡ Some (promised seat (3 + refs + nums))
  pub words : (k : ℕ) → k < 3 + refs + nums → memory (Heap (address + k)) ≡ fresh_word seat (count (seat + 1)) refs nums k
  pub only : (other_address more : ℕ) → block other_address ≡ Some (promised seat more) → other_address ≡ address
  pub few_refs : refs ≤ 16
  pub few_nums : nums ≤ 16
  pub few : count (seat + 1) < most_objects

-- what words, pieces and counts say of a mutator that has asked so
abbrev pub IsAsked : (Word → ℕ) → Plot → (ℕ → ℕ) → ℕ → Asking → Type 0
IsAsked memory block count mutator nothing = (memory (Wait mutator) ≡ 0) × (memory (Answer mutator) ≡ 0) × HasNoPromise block mutator
IsAsked memory block count mutator (asks refs nums) = IsRequest memory count mutator refs nums × (memory (Answer mutator) ≡ 0) × HasNoPromise block mutator
IsAsked memory block count mutator refused = (memory (Wait mutator) ≡ 0) × (memory (Answer mutator) ≡ 1) × HasNoPromise block mutator
IsAsked memory block count mutator (given refs nums) =
    (memory (Wait mutator) ≡ 0) × (1 < memory (Answer mutator)) × IsPromise memory block count mutator refs nums (memory (Answer mutator))
