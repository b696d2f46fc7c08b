-- What holds of the machines of a stage, and what an event owes.
use Rattle.heap_words.specs.Phases.{idle_phase}
use Rattle.std.specs.Prelude.{ℕ, ◌≡◌, ◌≢◌, ◌+◌, ◌-◌, ◌*◌, ◌<◌, ◌≤◌, ◌==◌, ◌⊎◌, nat_le, true, false, List, ◌++◌, length, Option, Some, None, slice_get, sum_by, if◌then◌else◌, All}
use Rattle.heap_words.specs.declared.config.Config.{Config}
use Rattle.heap_words.specs.Encoding.{object_words}
use Rattle.heap_words.specs.Ranges.{seat_count}
use Rattle.heap_words.specs.Words.{Word, Phase, Cset, Answer, Heap, view, table_words}
use Rattle.regions.specs.Tops.{sum_below}
use Rattle.heap_words.specs.Steps.{Stage}
use Rattle.shen_graph.specs.declared.name.Name.{Name}
use Rattle.shen_graph.specs.declared.command.Reply.{Reply}
use Rattle.shen_graph.specs.declared.command.Reply.TheVariants.{Full}
use Rattle.shen_graph.specs.Crowd.{words_asked, Held, PinnedRegions}
use Rattle.shen_graph.specs.Graph.{Graph, named}
use Rattle.shen_graph.specs.Reach.{IsReach, size}
use Rattle.shen_graph.specs.History.{Entry, after, EachIsLegal, of_thread}
use Rattle.mutator.specs.Orders.{is_valid}
use Rattle.mutator.specs.Rows.{Mutating}
use Rattle.heap_world.specs.World.{Ghost, World, Block, Plot, room_of, Shared}
use Rattle.alloc_buffers.specs.Facts.{IsSpare, OnlySpares}
pub use Rattle.heap_world.specs.Asking.{PromisedToMutators}
use Rattle.heap_world.specs.Change.{IsDue}
use Rattle.heap_world.specs.Roots.{HasNoMoreRoots, HasNoMorePins}
use Rattle.collector_rows.specs.declared.control_spot.ControlSpot.{ControlSpot}
use Rattle.collector_rows.specs.declared.control_spot.ControlSpot.TheVariants.{LookFree, Working, Stopping, LoadWord}
use Rattle.collector_rows.specs.ControlRows.{Controlling}
use Rattle.collector_rows.specs.ControlReady.{is_ready}
use Rattle.collector_rows.specs.declared.help_spot.HelpSpot.{HelpSpot}
use Rattle.collector_rows.specs.declared.help_spot.HelpSpot.TheVariants as help
use Rattle.collector_rows.specs.HelperRows.{Helping}
use Rattle.collector_rows.specs.HelperReady.{help_ready}
use Rattle.heap_words.specs.declared.access.Unit.TheVariants.{Worked, NoneLeft}
use Rattle.unit_part.specs.declared.scan_spot.ScanSpot.{ScanSpot}
use Rattle.unit_part.specs.declared.spot.UnitSpot.{UnitSpot}
use Rattle.unit_part.specs.declared.spot.UnitSpot.TheVariants.{Scanning, Evacuating, Updating, Ended}
use Rattle.cycle_steps.specs.Scanning.{CanScan}
use Rattle.cycle_steps.specs.Evacuation.Facts.{CanEvacuate}
use Rattle.cycle_steps.specs.Updating.Facts.{CanUpdate}
use Rattle.step_core.specs.Actor.{Machine, mutating, helping, controlling, Actor, entries_of}
use Rattle.step_core.specs.Threads.{IsSettled}
use Rattle.step_core.proofs.Machines.Stepped.{Mine}
use Rattle.step_core.specs.Sound.{world_of}
pub use Rattle.step_core.specs.Pausing.{AreRead, AreLoaded, IsAim, IsOfExtent}

-- How an answer in the table, the one that counts, and the settled reply of the call go together. Table and what counts differ
-- only while a pause writes its image back, and Full is settled by the store into the table.
pub record IsSeen (raw now : ℕ) (fixed : Option Reply) : Type 0 where
  pub null : now ≡ 0 → raw ≡ 0
  pub full : now ≡ 1 → ((raw ≡ 1) × (fixed ≡ Some Full)) ⊎ ((raw ≡ 0) × (fixed ≡ None))
  pub given : 1 < now → raw ≢ 1

-- the words of the object that a thread is answered with
abbrev pub words_promised : (Word → ℕ) → ℕ → ℕ
words_promised memory mutator = if nat_le (memory (Answer mutator)) 1 then 0 else object_words (memory (Heap (memory (Answer mutator) + 1)))

-- live objects that are not pinned and objects made for other threads crowd the regions without a pinned object for so many words
pub record IsShort (config : Config) (memory : Word → ℕ) (graph : Graph) (thread words : ℕ) : Type 0 where
  pub names : List Name
  pub held : ℕ
  pub pinned : ℕ
  pub reach : IsReach graph names
  pub held_is : Held graph held
  pub pinned_is : PinnedRegions config.region_words graph pinned
  pub crowd : (config.regions - pinned) * (config.region_words - words + 1) ≤ sum_by (λ n. size (named graph (Some n))) names - held + sum_below (λ u. if u == thread then 0 else words_promised memory u) config.mutators

-- What holds of a mutator, for the entries of the history that are its own: they are its calls, or these and one more. Where the
-- answer that counts says that the heap is full, and this is not settled yet, it is crowded.
pub record IsThread (config : Config) (words : List ℕ) (world : World) (entries : List Entry) (number : ℕ) (actor : Actor) (mutator : Mutating) : Type 0 where
  pub fixed : Option Reply
  pub number_is : mutator.seat ≡ number
  pub valid : is_valid actor.command ≡ true
  pub mine : Mine config world mutator actor.command fixed
  pub seen : IsSeen (view config words (Answer number)) (world.memory (Answer number)) fixed
  pub short : world.memory (Answer number) ≡ 1 → fixed ≡ None → IsShort config world.memory world.graph number (words_asked (Some actor.command))
  pub entries_are : entries ≡ actor.calls ++ entries_of number actor.command fixed

-- the machine of a seat has no room but free words of its buffer, and neither marks nor copies, nor does it work on a unit
pub record Rests (ghost : Ghost) (block : Plot) (seat : ℕ) : Type 0 where
  pub records_none : ghost.recording seat ≡ None
  pub scans_none : ghost.scanning seat ≡ None
  pub copies_none : ghost.copying seat ≡ false
  pub works_none : ghost.working seat ≡ None
  pub rooms : (address : ℕ) (piece : Block) → block address ≡ Some piece → room_of piece ≡ Some seat → IsSpare seat piece

abbrev pub IsResting : World → ℕ → Type 0
IsResting world seat = Rests world.ghost world.block seat

-- it scans a unit of marking, neither copies nor works on a unit of evacuation, and has no room but free words of its buffer
abbrev pub Scans : Config → World → ℕ → ScanSpot → Type 0
Scans config world seat spot = CanScan config world seat spot × (world.ghost.copying seat ≡ false) × (world.ghost.working seat ≡ None) × OnlySpares world seat

-- What who works on a unit counts on by where the work stands: it can go on; or once the unit has ended it rests, and where none was left
-- a pause is due.
abbrev pub CanWork : Config → World → ℕ → UnitSpot → Type 0
CanWork config world seat (Scanning spot) = Scans config world seat spot
CanWork config world seat (Evacuating cset spot) = CanEvacuate config world seat cset spot
CanWork config world seat (Updating cset spot) = CanUpdate config world seat cset spot
CanWork config world seat (Ended Worked) = IsResting world seat
CanWork config world seat (Ended NoneLeft) = IsResting world seat × IsDue config world.memory

-- What a helper counts on by where it stands: between the two loads it knows the phase, which is not 0, and in a unit it can go on;
-- elsewhere it rests.
abbrev pub HelpFacts : Config → World → ℕ → HelpSpot → Type 0
HelpFacts config world seat (help.Working spot) = CanWork config world seat spot
HelpFacts config world seat (help.LoadSet phase) = IsResting world seat × (phase ≢ idle_phase) × (phase ≡ world.memory Phase)
HelpFacts config world seat _ = IsResting world seat

-- what holds of a helper: it has its number as its seat, and can make its next access
pub record IsHelper (config : Config) (world : World) (number : ℕ) (helper : Helping) : Type 0 where
  pub number_is : helper.seat ≡ number
  pub ready : help_ready config helper ≡ true
  pub facts : HelpFacts config world number helper.spot
  pub least : config.mutators ≤ number
  pub below : number < config.mutators + config.helpers

-- What the control counts on by where it stands: in a unit it can go on, and elsewhere it rests. It looks at the free word in phase 0
-- alone, and where it has begun a pause and until it has read the image, that pause is due.
abbrev pub ControlFacts : Config → World → ℕ → ControlSpot → Type 0
ControlFacts config world number (Working spot) = CanWork config world number spot
ControlFacts config world number LookFree = IsResting world number × (world.memory Phase ≡ idle_phase)
ControlFacts config world number (Stopping spot) = IsResting world number × IsDue config world.memory
ControlFacts config world number (LoadWord index extent) = IsResting world number × IsDue config world.memory
ControlFacts config world number _ = IsResting world number

-- what holds of the control: it knows the phase and the collection set, and can make its next access
pub record IsControl (config : Config) (words : List ℕ) (world : World) (number : ℕ) (control : Controlling) : Type 0 where
  pub number_is : number ≡ config.mutators + config.helpers
  pub ready : is_ready config control.spot ≡ true
  pub phase_is : control.phase ≡ world.memory Phase
  pub set_is : control.cset ≡ world.memory Cset
  pub facts : ControlFacts config world number control.spot
  pub aims : IsAim config words control.spot control.image
  pub extent_is : IsOfExtent config control.phase control.spot control.image

-- what holds of a machine, by the words of the table and the world
abbrev pub IsMachine : Config → List ℕ → World → List Entry → ℕ → Actor → Machine → Type 0
IsMachine config words world entries number actor (mutating mutator) = IsThread config words world entries number actor mutator
IsMachine config words world entries number actor (helping helper) = IsHelper config world number helper
IsMachine config words world entries number actor (controlling control) = IsControl config words world number control

-- The stage stands for the graph after the history of a run that began with a graph, the history is legal and of the heap's
-- threads, and each machine is where it should be.
pub record Follows (config : Config) (graph : Graph) (stage : Stage Actor) (past : List Entry) : Type 0 where
  pub block : Plot
  pub ghost : Ghost
  pub words : length stage.words ≡ table_words config
  pub seats : length stage.machines ≡ seat_count config.mutators config.helpers
  pub legal : EachIsLegal config.regions config.region_words graph past
  pub entries : All (IsSettled config.mutators) past
  pub no_more : HasNoMoreRoots config.mutators (after graph past)
  pub no_more_pins : HasNoMorePins config.mutators (after graph past)
  pub shared : Shared config (world_of config stage block ghost (after graph past))
  pub promised_to : PromisedToMutators config block
  pub machines : (number : ℕ) (actor : Actor) → slice_get stage.machines number ≡ Some actor
      → IsMachine config stage.words (world_of config stage block ghost (after graph past)) (of_thread past (number + 1)) number actor actor.machine

-- What an event of a machine owes, whatever its role: the world after it, by the words that count then and by the graph after
-- the entries that it settles, which may be of any threads; that the entries are legal and of the heap's threads; what all
-- machines share; what holds of the machine itself, as it is then; and that what holds of each other machine stays.
-- `words` is the table before it, `words_then` the table after it.
pub record Owes (config : Config) (words words_then : List ℕ) (next_world : World) (past : List Entry) (number : ℕ) (machines : List Actor) (memory : Word → ℕ) (settles : List Entry) (new : Actor) : Type 0 where
  pub world : World
  pub memory_is : world.memory ≡ memory
  pub graph_is : world.graph ≡ after next_world.graph settles
  pub legal : EachIsLegal config.regions config.region_words next_world.graph settles
  pub entries : All (IsSettled config.mutators) settles
  pub shared : Shared config world
  pub promised_to : PromisedToMutators config world.block
  pub own : IsMachine config words_then world (of_thread (past ++ settles) (number + 1)) number new new.machine
  pub others : (index : ℕ) (actor : Actor) → index ≢ number → slice_get machines index ≡ Some actor
      → IsMachine config words next_world (of_thread past (index + 1)) index actor actor.machine → IsMachine config words_then world (of_thread (past ++ settles) (index + 1)) index actor actor.machine
