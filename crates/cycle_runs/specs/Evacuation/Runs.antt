-- What holds of evacuation in every run of a heap.
use Rattle.std.specs.Prelude.{ℕ, ◌≡◌, ◌⊎◌, ◌+◌, ◌<◌, ◌≤◌, Bool, true, false, List, Some, None, slice_get}
use Rattle.heap_words.specs.declared.config.Config.{Config}
use Rattle.heap_words.specs.Access.{table_index}
use Rattle.heap_words.specs.declared.access.Access.{Access}
use Rattle.heap_words.specs.declared.access.Access.TheVariants.{Load, Exchange}
use Rattle.heap_words.specs.declared.place.Place.{Place}
use Rattle.heap_words.specs.declared.place.Place.TheVariants.{FS, FX, CX, NS}
use Rattle.heap_words.specs.Encoding.{plain_header, header_word, is_forwarded, forwardee_in}
use Rattle.heap_words.specs.Words.{Phase, Cset, Evac, Claim, Black, Heap, word_at}
use Rattle.heap_words.specs.Steps.{Stage, Event, go}
use Rattle.shen_graph.specs.declared.name.Name.{Name}
use Rattle.shen_graph.specs.declared.order.Order.{Order}
use Rattle.shen_graph.specs.Graph.{Graph}
use Rattle.shen_graph.specs.History.{after}
use Rattle.regions.specs.Marks.{HasMark}
use Rattle.heap_words.specs.Counter.{is_out_of_room, IsQuiet}
use Rattle.heap_words.specs.Phases.{evacuation_phase}
use Rattle.heap_world.specs.World.{World, thing, moved, Body, body_at, body_words, IsCollected}
use Rattle.heap_world.specs.Change.{Change}
use Rattle.collector_rows.specs.ByParts.{PausesByParts}
use Rattle.cycle_steps.specs.Resolving.Facts.{IsCopied}
use Rattle.mutator.specs.Rows.{Mutating}
use Rattle.step_core.specs.Actor.{Machine, mutating, Actor}
use Rattle.step_core.specs.Machines.{takes_of, plan_of, place_in, kind}
use Rattle.step_core.specs.History.{history}
use Rattle.step_core.specs.Settled.{image_read, settled}
use Rattle.step_core.specs.Sound.{world_of, StandsFor}
use Rattle.step_core.specs.Begins.{Begins}
use Rattle.step_core.specs.Pausing.{IsInPause}

-- An old copy lies in the collection set. Its header leads to the object's current copy, which lies outside and has the header of an
-- object that has not moved.
pub record IsLeading (config : Config) (world : World) (address refs nums to : ℕ) (name : Name) : Type 0 where
  pub inside : IsCollected config (world.memory Cset) address
  pub forwarded : is_forwarded (world.memory (Heap address)) ≡ true
  pub leads : forwardee_in (world.memory (Heap address)) ≡ to
  pub current : world.block to ≡ Some (thing name refs nums)
  pub outside : IsCollected config (world.memory Cset) to → ⊥
  pub plain : world.memory (Heap to) ≡ plain_header

-- Words and machines stand for a graph by some plot, in which headers of old copies lead to current ones, current copies have the header
-- of an object that has not moved, and no object has two current copies.
pub record HaveHeaders (config : Config) (stage : Stage Actor) (graph : Graph) : Type 0 where
  pub stands : StandsFor config stage graph
  pub old : (address refs nums to : ℕ) (name : Name) → stands.block address ≡ Some (moved name refs nums to) → IsLeading config (world_of config stage stands.block stands.ghost graph) address refs nums to name
  pub current : (address refs nums : ℕ) (name : Name) → stands.block address ≡ Some (thing name refs nums) → settled config stage (Heap address) ≡ plain_header
  pub once : (address other_address refs nums more_refs more_nums : ℕ) (name : Name) → stands.block address ≡ Some (thing name refs nums) → stands.block other_address ≡ Some (thing name more_refs more_nums) → address ≡ other_address

abbrev pub HeadersLeadInRuns : Type 0
HeadersLeadInRuns = (change : Change) → PausesByParts change → (config : Config) (stage : Stage Actor) (graph : Graph) → Begins config stage graph → (events : List (Event Order))
    → HaveHeaders config (go (kind change config) stage events) (after graph (history change config stage events))

-- The access exchanges the header of a copy of an object, from that of one that has not moved to one that leads to room in the hand of
-- the machine, where the object's words stand behind a plain header.
pub record IsPublishing (config : Config) (world : World) (seat address : ℕ) (body : Body) (access : Access) : Type 0 where
  pub copy : ℕ
  pub end : ℕ
  pub is : access ≡ Exchange (word_at config (Heap address)) plain_header (header_word copy)
  pub copied : IsCopied config world seat address copy end body (body_words body)
  pub plain : world.memory (Heap copy) ≡ plain_header

-- the places where a mutator writes a field or a number of an object
abbrev pub is_write : Place → Bool
is_write FS = true
is_write FX = true
is_write CX = true
is_write NS = true
is_write _ = false

-- Nobody copies any more, the object's current copy is at the address, and the access is that of a mutator which writes a field or a
-- number: a word behind the object's header, shape and name.
pub record IsWriting (world : World) (order : Order) (machine : Machine) (address k : ℕ) (body : Body) : Type 0 where
  pub mutator : Mutating
  pub is : machine ≡ mutating mutator
  pub writes : is_write (place_in order machine) ≡ true
  pub behind : 3 ≤ k
  pub current : world.block address ≡ Some (thing body.name body.refs body.nums)
  pub quiet : IsQuiet (world.memory Evac)

-- what the next access of a machine is, if it is of such a word of a copy in the collection set
abbrev pub IsSparing : Config → World → (seat : ℕ) → Order → Machine → (address offset : ℕ) → Body → Type 0
IsSparing config world seat order machine address offset body = (plan_of config order machine ≡ Load (word_at config (Heap (address + offset)))) ⊎ (IsPublishing config world seat address body (plan_of config order machine) ⊎ IsWriting world order machine address offset body)

-- Words and machines stand for a graph by some plot, and the next access of each machine, if it is of a word of a copy in the collection
-- set, current or old, spares it; but for the control while it writes an image back.
pub record AreSpared (config : Config) (stage : Stage Actor) (graph : Graph) : Type 0 where
  pub stands : StandsFor config stage graph
  pub spared : (number : ℕ) (actor : Actor) (order : Order) (address k : ℕ) (body : Body) → slice_get stage.machines number ≡ Some actor → takes_of actor.machine order ≡ true → image_read actor.machine ≡ None
      → IsCollected config (settled config stage Cset) address → body_at (stands.block address) ≡ Some body → k < body_words body → table_index (plan_of config order actor.machine) ≡ word_at config (Heap (address + k))
      → IsSparing config (world_of config stage stands.block stands.ghost graph) number order actor.machine address k body

abbrev pub CopiesAreSpared : Type 0
CopiesAreSpared = (change : Change) → PausesByParts change → (config : Config) (stage : Stage Actor) (graph : Graph) → Begins config stage graph → (events : List (Event Order))
    → AreSpared config (go (kind change config) stage events) (after graph (history change config stage events))

-- where all regions are claimed and there was always room, each marked address of the collection set has the header of an object that has
-- moved
abbrev pub AreAllForwarded : Config → Stage Actor → Type 0
AreAllForwarded config stage = settled config stage Phase ≡ evacuation_phase → config.regions ≤ settled config stage Claim → is_out_of_room (settled config stage Evac) ≡ false
    → (address : ℕ) → config.region_words ≤ address → IsCollected config (settled config stage Cset) address → HasMark config (λ number. settled config stage (Black number)) address → is_forwarded (settled config stage (Heap address)) ≡ true

-- so it is in each pause
abbrev pub AllIsForwardedInRuns : Type 0
AllIsForwardedInRuns = (change : Change) → PausesByParts change → (config : Config) (stage : Stage Actor) (graph : Graph) → Begins config stage graph → (events : List (Event Order))
    → IsInPause config (go (kind change config) stage events) → AreAllForwarded config (go (kind change config) stage events)
