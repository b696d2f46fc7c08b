-- What serving leaves of requests, and of the graph, and what a text shows of it.
use Rattle.std.specs.Prelude.{ℕ, ◌≡◌, ◌≢◌, ◌<◌, Option, List, length}
use Rattle.heap_words.specs.declared.config.Config.{Config}
use Rattle.heap_words.specs.Words.{Word, Wait, view, table_words, heap_in, roots_in, pins_in}
use Rattle.shen_graph.specs.declared.name.Name.{Name}
use Rattle.regions.specs.ServedRooms.{NoneHasRoom}
use Rattle.image_graph.specs.Full.{asked_in}
use Rattle.image_graph.specs.RequestsServed.{tops_at_turn}
use Rattle.shen_graph.specs.Graph.{Graph}
use Rattle.shen_graph.specs.GraphText.{Text}
use Rattle.heap_world.specs.Shows.{WordsStand, StandForSome, ShowsGraph}
use Rattle.heap_world.specs.World.{Plot}
use Rattle.image_graph.specs.Promised.{Promises}
use Rattle.image_graph.specs.Image.{ImageStands}
use Rattle.image_graph.specs.Serving.{AreAsking, served_block, served_promises}
use Rattle.image_graph.specs.Holds.{HoldsBy, AreSized}

-- a thread waits, and when its turn comes each region has less room than it asks for
pub record IsLeft (config : Config) (memory : Word → ℕ) (mutator : ℕ) : Type 0 where
  pub below : mutator < config.mutators
  pub waits : memory (Wait mutator) ≢ 0
  pub no_room : NoneHasRoom config.region_words (tops_at_turn config memory mutator) (asked_in memory mutator) config.regions

-- the words stand for the same graph as before all threads had their turn, and the objects that were made are promised
abbrev pub IsServedGraph : Config → (before after : Word → ℕ) → Type 0
IsServedGraph config before after = (block : Plot) (graph : Graph) (promises : Promises) → ImageStands config before block graph promises → AreAsking config before graph promises 0
    → ImageStands config after (served_block config before block config.mutators) graph (served_promises config before promises config.mutators)

-- Whatever graph the words held, in whatever way, they hold it afterwards, with the objects that were made as further pieces, which
-- are promised; and where each piece said how many words it has, each does.
pub record HoldsServed (config : Config) (before after : Word → ℕ) (block : Plot) (owner : ℕ → Option ℕ) (promises : Promises) (graph : Graph) : Type 0 where
  pub holds : HoldsBy config after (served_block config before block config.mutators) owner (served_promises config before promises config.mutators) graph
  pub sized : AreSized before block → AreSized after (served_block config before block config.mutators)

abbrev pub ServingHolds : Config → (before after : Word → ℕ) → Type 0
ServingHolds config before after = (block : Plot) (owner : ℕ → Option ℕ) (promises : Promises) (graph : Graph) → HoldsBy config before block owner promises graph
    → HoldsServed config before after block owner promises graph

-- the words of heap, roots and pin slots of a table stand for some graph
abbrev pub StandsForSome : Config → List ℕ → Type 0
StandsForSome config words = StandForSome config.region_words (heap_in config words) (roots_in config words) (pins_in config words)

-- a text shows the graph that they stand for, whichever: what roots and pin slots lead to, by current copies
abbrev pub ShowsTheGraph : Config → List ℕ → Text → Type 0
ShowsTheGraph config words text = (at : ℕ → Option Name) (graph : Graph) → WordsStand config.region_words (heap_in config words) (roots_in config words) (pins_in config words) at graph → ShowsGraph text config.mutators graph

-- The words of an image that holds a graph stand for it, in whatever way it holds it.
abbrev pub HoldingStands : Type 0
HoldingStands = (config : Config) (words : List ℕ) (block : Plot) (owner : ℕ → Option ℕ) (promises : Promises) (graph : Graph) → length words ≡ table_words config
    → HoldsBy config (view config words) block owner promises graph → (at : ℕ → Option Name) × WordsStand config.region_words (heap_in config words) (roots_in config words) (pins_in config words) at graph
