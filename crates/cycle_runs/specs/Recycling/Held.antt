-- A region is held while something names it; one that is free is not, so that it can be given again.
use Rattle.std.specs.Prelude.{ℕ, ◌≡◌, ◌≢◌, ◌+◌, ◌-◌, ◌<◌, ◌≤◌, List, Some, None, slice_get}
use Rattle.heap_words.specs.declared.config.Config.{Config}
use Rattle.heap_words.specs.Encoding.{end_in}
use Rattle.heap_words.specs.Words.{Free, Share, Current, Pin, Answer, Heap, view}
use Rattle.regions.specs.Place.{IsOf}
use Rattle.regions.specs.Sets.{IsIn}
use Rattle.heap_words.specs.Steps.{Stage, Event, IsEvent, act, go}
use Rattle.shen_graph.specs.declared.order.Order.{Order}
use Rattle.shen_graph.specs.Graph.{Graph}
use Rattle.shen_graph.specs.History.{after}
use Rattle.heap_world.specs.World.{World, Block, Body, body_at}
use Rattle.heap_world.specs.Change.{Change}
use Rattle.collector_rows.specs.ByParts.{PausesByParts}
use Rattle.mutator.specs.Rows.{Mutating}
use Rattle.step_core.specs.Actor.{mutating, Actor}
use Rattle.step_core.specs.Begins.{Begins}
use Rattle.step_core.specs.History.{history}
use Rattle.step_core.specs.Machines.{kind}
use Rattle.step_core.specs.Own.{root_now}
use Rattle.step_core.specs.Seats.{Carried, carries_of, Taking, taking_of}
use Rattle.step_core.specs.Settled.{image_read, settled}
use Rattle.step_core.specs.Sound.{world_of, StandsFor}
use Rattle.cycle_runs.specs.Recycling.InHand.{IsInHandOf, IsTakeRegion}

-- A region is held: in it lies what counts as a root, what a pin slot holds, where an answer leads, what a field of a copy names, current or old, what a machine
-- has in hand, also a reference that it has loaded of an object and is about to store into a copy, or the beginning of a piece at all; it
-- is the shared one, or has a seat's buffer; or a machine that takes room is about to carve it, or has taken it.
pub data IsHeld (config : Config) (world : World) (machines : List Actor) (region : ℕ) : Type 0 where
  by_root : (number index : ℕ) (actor : Actor) (mutator : Mutating) → slice_get machines number ≡ Some actor → actor.machine ≡ mutating mutator → index < 16 → IsOf config region (root_now world mutator.seat mutator.kept mutator.spot index)
      → IsHeld config world machines region
  by_pin : (mutator slot : ℕ) → mutator < config.mutators → slot < 4 → IsOf config region (world.memory (Pin mutator slot)) → IsHeld config world machines region
  by_answer : (mutator : ℕ) → mutator < config.mutators → 1 < world.memory (Answer mutator) → IsOf config region (world.memory (Answer mutator)) → IsHeld config world machines region
  by_field : (address k : ℕ) (body : Body) → body_at (world.block address) ≡ Some body → k < body.refs → IsOf config region (world.memory (Heap (address + 3 + k))) → IsHeld config world machines region
  by_hand : (number address : ℕ) (actor : Actor) → slice_get machines number ≡ Some actor → IsInHandOf config actor.machine address → IsOf config region address → IsHeld config world machines region
  by_carried : (number : ℕ) (actor : Actor) (carried : Carried) (body : Body) → slice_get machines number ≡ Some actor → carries_of actor.machine ≡ Some carried → body_at (world.block carried.object) ≡ Some body
      → 3 ≤ carried.index → carried.index < 3 + body.refs → IsOf config region carried.word → IsHeld config world machines region
  by_piece : (address : ℕ) (piece : Block) → world.block address ≡ Some piece → IsOf config region address → IsHeld config world machines region
  by_share : world.memory Share ≡ region + 1 → IsHeld config world machines region
  by_buffer : (seat : ℕ) → world.memory (Current seat) ≢ 0 → IsOf config region (end_in (world.memory (Current seat)) - 1) → IsHeld config world machines region
  by_taking : (number : ℕ) (actor : Actor) (taking : Taking) → slice_get machines number ≡ Some actor → taking_of actor.machine ≡ Some taking → IsTakeRegion taking.take region → IsHeld config world machines region

-- Words and machines stand for a graph by some plot, in which no region that is free by the words that count is held.
pub record FreeIsNotHeld (config : Config) (stage : Stage Actor) (graph : Graph) : Type 0 where
  pub stands : StandsFor config stage graph
  pub not_held : (region : ℕ) → region < config.regions → IsIn (settled config stage Free) region → IsHeld config (world_of config stage stands.block stands.ghost graph) stage.machines region → ⊥

-- so it is after every list of events
abbrev pub FreeIsNotHeldInRuns : Type 0
FreeIsNotHeldInRuns = (change : Change) → PausesByParts change → (config : Config) (stage : Stage Actor) (graph : Graph) → Begins config stage graph → (events : List (Event Order))
    → FreeIsNotHeld config (go (kind change config) stage events) (after graph (history change config stage events))

-- a machine of which no image counts takes a region: by its step the bit of the region in the table is 1 no more
pub record TakesRegion (change : Change) (config : Config) (stage : Stage Actor) (e : Event Order) (actor : Actor) (region : ℕ) : Type 0 where
  pub event : IsEvent (kind change config) stage e actor
  pub no_image : image_read actor.machine ≡ None
  pub free : IsIn (view config stage.words Free) region
  pub taken : IsIn (view config (act (kind change config) stage e).words Free) region → ⊥

-- The words of the table are those that count then, so that the region is free by them.
abbrev pub TakenRegionsWereFree : Type 0
TakenRegionsWereFree = (change : Change) → PausesByParts change → (config : Config) (stage : Stage Actor) (graph : Graph) → Begins config stage graph → (events : List (Event Order))
    → (event : Event Order) (actor : Actor) (region : ℕ) → region < config.regions → TakesRegion change config (go (kind change config) stage events) event actor region
    → (settled config (go (kind change config) stage events) ≡ view config (go (kind change config) stage events).words) × IsIn (settled config (go (kind change config) stage events) Free) region
