-- What a pause makes of the words of a heap, and what it owes.
use Rattle.std.specs.Prelude.{ℕ, ◌≡◌, ◌+◌, ◌-◌, ◌*◌, ◌<◌, ◌≤◌, ◌==◌, ◌++◌, if◌then◌else◌, List, length, replicate, Some, sum_by}
use Rattle.heap_words.specs.declared.config.Config.{Config}
use Rattle.std.specs.Int.{bit_at}
use Rattle.heap_words.specs.Words.{Word, Phase, Claim, Ask, image_start, table_words, view}
use Rattle.heap_words.specs.Phases.{evacuation_phase}
use Rattle.regions.specs.Tops.{sum_below}
use Rattle.shen_graph.specs.declared.name.Name.{Name}
use Rattle.shen_graph.specs.Graph.{Graph, named}
use Rattle.shen_graph.specs.Reach.{IsReach, size}
use Rattle.shen_graph.specs.Crowd.{Held, PinnedRegions}
use Rattle.heap_world.specs.Asking.{Asking, nothing, asks, refused, given}
use Rattle.heap_world.specs.Represents.{Represents}

-- what a pause makes of the words of the image, which are in the order of their places
abbrev pub Change : Type 0
Change = Config → List ℕ → List ℕ

-- how many words the image has
abbrev pub image_words : Config → ℕ
image_words config = table_words config - image_start config

-- the words of an image as a memory, which reads 0 at all other words
abbrev pub image_view : Config → List ℕ → Word → ℕ
image_view config image = view config (replicate (image_start config) 0 ++ image)

-- how a pause answers: it leaves what is answered, and who asks is given the object or refused
abbrev pub Answers : Asking → Asking → Type 0
Answers nothing nothing = Unit {0}
Answers refused refused = Unit {0}
Answers (given refs nums) (given given_refs given_nums) = (refs ≡ given_refs) × (nums ≡ given_nums)
Answers (asks refs nums) refused = Unit {0}
Answers (asks refs nums) (given given_refs given_nums) = (refs ≡ given_refs) × (nums ≡ given_nums)
Answers _ _ = ⊥

-- the words of the object that was made for a mutator
abbrev pub words_given : Asking → ℕ
words_given (given refs nums) = 3 + refs + nums
words_given _ = 0

-- Live objects that are not pinned and objects made for other mutators crowd the regions without a pinned object: were each of these short of
-- so many words, so many would be in use there.
abbrev pub IsCrowded : Config → Graph → (ℕ → Asking) → ℕ → ℕ → Type 0
IsCrowded config graph asking mutator words =
    (names : List Name) × (held : ℕ) × (pinned : ℕ) × IsReach graph names × Held graph held × PinnedRegions config.region_words graph pinned
    × ((config.regions - pinned) * (config.region_words - words + 1) ≤ sum_by (λ name. size (named graph (Some name))) names - held + sum_below (λ other_mutator. if other_mutator == mutator then 0 else words_given (asking other_mutator)) config.mutators)

-- What a pause owes whose words before it stand for a graph: those after it stand for the same graph, each mutator that asks is
-- answered, and it is refused an object only where the heap is crowded.
pub record IsPaused (config : Config) (before after : Word → ℕ) (graph : Graph) (asking : ℕ → Asking) : Type 0 where
  pub asked_then : ℕ → Asking
  pub stands : Represents config after graph asked_then
  pub answers : (mutator : ℕ) → mutator < config.mutators → Answers (asking mutator) (asked_then mutator)
  pub crowded : (mutator refs nums : ℕ) → mutator < config.mutators → asking mutator ≡ asks refs nums → asked_then mutator ≡ refused → IsCrowded config graph asked_then mutator (3 + refs + nums)

-- A pause is due: in phases 2 and 3 all regions are claimed, or an allocation waits.
abbrev pub IsDue : Config → (Word → ℕ) → Type 0
IsDue config memory = evacuation_phase ≤ memory Phase → bit_at (memory Ask) 1 ≡ 0 → config.regions ≤ memory Claim

-- the law of a pause: it keeps the image's length, and it owes what a pause owes wherever the image stands for a graph and the pause is due
pub record IsPause (change : Change) : Type 0 where
  pub long : (config : Config) (image : List ℕ) → length image ≡ image_words config → length (change config image) ≡ image_words config
  pub pauses : (config : Config) (image : List ℕ) (graph : Graph) (asking : ℕ → Asking) → length image ≡ image_words config
      → Represents config (image_view config image) graph asking → IsDue config (image_view config image) → IsPaused config (image_view config image) (image_view config (change config image)) graph asking
