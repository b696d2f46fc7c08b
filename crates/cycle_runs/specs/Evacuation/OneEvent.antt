-- What one more event keeps of copies and of the word that counts the copiers, in every run of a heap.
use Rattle.std.specs.Prelude.{ℕ, ◌≡◌, ◌⊎◌, ◌+◌, ◌<◌, ◌≤◌, true, List, Some, None, slice_get, ⊤}
use Rattle.heap_words.specs.declared.config.Config.{Config}
use Rattle.heap_words.specs.Encoding.{plain_header, header_word}
use Rattle.heap_words.specs.Words.{Word, Cset, Evac, Heap}
use Rattle.heap_words.specs.Counter.{IsQuiet}
use Rattle.heap_words.specs.Steps.{Stage, Event, IsEvent, act, go}
use Rattle.shen_graph.specs.declared.order.Order.{Order}
use Rattle.shen_graph.specs.Graph.{Graph}
use Rattle.shen_graph.specs.History.{after}
use Rattle.heap_world.specs.World.{World, Block, thing, hand, spare, carved, words_of, Body, IsCollected}
use Rattle.heap_world.specs.Change.{Change}
use Rattle.collector_rows.specs.ByParts.{PausesByParts}
use Rattle.collector_rows.specs.Extent.{Counting}
use Rattle.step_core.specs.Actor.{Actor}
use Rattle.step_core.specs.Begins.{Begins}
use Rattle.step_core.specs.History.{history}
use Rattle.step_core.specs.Machines.{plan_of, kind}
use Rattle.step_core.specs.Seats.{copies_of}
use Rattle.step_core.specs.Settled.{image_of, settled, control_number}
use Rattle.step_core.specs.Sound.{world_of, StandsFor}
use Rattle.cycle_runs.specs.Evacuation.Runs.{IsPublishing}

-- By an event the words that a pause has computed begin to count, and those of the table count no more.
pub record BeginsToCount (config : Config) (before later : Stage Actor) : Type 0 where
  pub image : Counting
  pub not_yet : image_of (slice_get before.machines (control_number config)) ≡ None
  pub counts : image_of (slice_get later.machines (control_number config)) ≡ Some image

-- The event is one of a machine that copies an object of the collection set: it makes the exchange that publishes its copy, and the
-- header, which was that of an object that has not moved, leads to that copy then.
pub record IsForwarding (change : Change) (config : Config) (stage : Stage Actor) (world : World) (e : Event Order) (address : ℕ) (header : ℕ) : Type 0 where
  pub actor : Actor
  pub event : IsEvent (kind change config) stage e actor
  pub copies : copies_of actor.machine ≡ true
  pub body : Body
  pub object : world.block address ≡ Some (thing body.name body.refs body.nums)
  pub inside : IsCollected config (world.memory Cset) address
  pub publishing : IsPublishing config world e.number address body (plan_of config e.order actor.machine)
  pub was : world.memory (Heap address) ≡ plain_header
  pub leads : header ≡ header_word publishing.copy

-- the piece is no room: it is an object, live or dead, an old copy of one, or words that only fill
abbrev pub IsNoRoom : Block → Type 0
IsNoRoom (hand seat words) = ⊥
IsNoRoom (spare seat words) = ⊥
IsNoRoom (carved seat words) = ⊥
IsNoRoom _ = ⊤

-- Nobody but a pause writes the words behind the header of a piece: it is an object of the collection set that may still be copied, the
-- old copy of one that has moved, one that is promised, a dead one, or words that only fill.
abbrev pub IsLeftAlone : Config → (cset evac address : ℕ) → Block → Type 0
IsLeftAlone config cset evac address (thing name refs nums) = IsCollected config cset address × (IsQuiet evac → ⊥)
IsLeftAlone config cset evac address (hand seat words) = ⊥
IsLeftAlone config cset evac address (spare seat words) = ⊥
IsLeftAlone config cset evac address (carved seat words) = ⊥
IsLeftAlone config cset evac address _ = ⊤

-- Words and machines stand for a graph by some plot, and an event of any machine keeps this of the words that count:
pub record EventSpares (change : Change) (config : Config) (stage : Stage Actor) (graph : Graph) (event : Event Order) (later : Word → ℕ) : Type 0 where
  pub stands : StandsFor config stage graph
  -- once a copier found no room and nobody copies any more, it stays so
  pub quiet : IsQuiet (settled config stage Evac) → IsQuiet (later Evac)
  -- the header of each piece but room stays, or the event publishes a copy of the object
  pub headers : (address : ℕ) (piece : Block) → stands.block address ≡ Some piece → IsNoRoom piece
      → (later (Heap address) ≡ settled config stage (Heap address)) ⊎ IsForwarding change config stage (world_of config stage stands.block stands.ghost graph) event address (later (Heap address))
  -- and the words behind the header of each piece that is to be left alone stay
  pub words : (address k : ℕ) (piece : Block) → stands.block address ≡ Some piece → IsLeftAlone config (settled config stage Cset) (settled config stage Evac) address piece → 1 ≤ k → k < words_of piece
      → later (Heap (address + k)) ≡ settled config stage (Heap (address + k))

-- So it is of each event after every list of events, but of that by which the words of a pause begin to count.
abbrev pub EventsSpareCopies : Type 0
EventsSpareCopies = (change : Change) → PausesByParts change → (config : Config) (stage : Stage Actor) (graph : Graph) → Begins config stage graph → (events : List (Event Order)) (event : Event Order)
    → (BeginsToCount config (go (kind change config) stage events) (act (kind change config) (go (kind change config) stage events) event) → ⊥)
    → EventSpares change config (go (kind change config) stage events) (after graph (history change config stage events)) event (settled config (act (kind change config) (go (kind change config) stage events) event))
