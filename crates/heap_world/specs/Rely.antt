-- What facts of one machine stand on while a machine makes a step from one world to another.
use Rattle.std.specs.Prelude.{ℕ, ◌≡◌, ◌≢◌, ◌⊎◌, ◌+◌, ◌<◌, ◌≤◌, true, Some}
use Rattle.std.specs.Int.{bit_at}
use Rattle.heap_words.specs.declared.config.Config.{Config}
use Rattle.heap_words.specs.Ranges.{seat_count}
use Rattle.heap_words.specs.Words.{Top, Tams, Limit, Current, Root, Pin, Heap, Phase, Cset, Evac, Claim, Ask, State, Wait, Answer, Count, Buffer, Grey}
use Rattle.regions.specs.Sets.{IsIn}
use Rattle.heap_words.specs.Counter.{is_out_of_room, IsQuiet}
use Rattle.heap_words.specs.Phases.{evacuation_phase, updating_phase}
use Rattle.regions.specs.Marks.{HasMark}
use Rattle.shen_graph.specs.declared.name.Name.{Name}
use Rattle.heap_world.specs.World.{World, Block, IsOpenIn, TargetIn, thing, moved, spent, promised, dead, filler, words_of, filling, room_of, name_at, Body, body_at, body_words, IsCollected, IsMarkable, IsCurrent, NotedIn}

-- What holds of marking whoever steps, outside pauses: the phase and the snapshot stay, but while objects are evacuated what can be marked
-- stays so, with its shape, and what is noted stays noted.
pub record KeepsMarks (config : Config) (world after : World) : Type 0 where
  pub phase : after.memory Phase ≡ world.memory Phase
  pub snapshot : after.ghost.snapshot ≡ world.ghost.snapshot
  pub markable : world.memory Phase ≢ evacuation_phase → (address : ℕ) → IsMarkable world.block address → IsMarkable after.block address
  pub shapes : (address : ℕ) → IsMarkable world.block address → after.memory (Heap (address + 1)) ≡ world.memory (Heap (address + 1))
  pub noted : (v : ℕ) → NotedIn config world v → NotedIn config after v

-- What holds of evacuation whoever steps, outside pauses: the collection set stays, copies stay copies, with their shapes, and an old copy
-- leads where it led. Nothing in the set becomes a current copy; its pieces and tops stay. Once a copier found no room, and once nobody
-- copies any more then, it stays so.
pub record KeepsCopies (config : Config) (world after : World) : Type 0 where
  pub cset : after.memory Cset ≡ world.memory Cset
  pub bodies : (address : ℕ) (body : Body) → body_at (world.block address) ≡ Some body → body_at (after.block address) ≡ Some body
  pub moveds : (address refs nums to : ℕ) (name : Name) → world.block address ≡ Some (moved name refs nums to) → after.block address ≡ Some (moved name refs nums to)
  pub spents : (address words to : ℕ) → world.block address ≡ Some (spent words to) → after.block address ≡ Some (spent words to)
  pub pieces : (address : ℕ) (piece : Block) → IsCollected config (world.memory Cset) address → world.block address ≡ Some piece → (other_piece : Block) × (after.block address ≡ Some other_piece) × (words_of other_piece ≡ words_of piece) × (filling other_piece ≡ filling piece)
  pub no_new : (address refs nums : ℕ) (name : Name) → IsCollected config (world.memory Cset) address → after.block address ≡ Some (thing name refs nums) → world.block address ≡ Some (thing name refs nums)
  pub tops : (region : ℕ) → IsIn (world.memory Cset) region → after.memory (Top region) ≡ world.memory (Top region)
  pub out : is_out_of_room (world.memory Evac) ≡ true → is_out_of_room (after.memory Evac) ≡ true
  pub quiet : IsQuiet (world.memory Evac) → IsQuiet (after.memory Evac)

-- What the facts of a seat stand on, whoever steps, also the machine of the seat itself: objects stay where they are, and
-- the roots, the pin slots, the count, what is asked and what is promised of the seat stay as they are. Room in hand is the machine's own: what it
-- copies into it becomes an object, or is given back.
pub record Keeps (config : Config) (seat : ℕ) (world after : World) : Type 0 where
  pub names : (address : ℕ) (name : Name) → name_at (world.block address) ≡ Some name → name_at (after.block address) ≡ Some name
  pub targets : (address refs nums : ℕ) (name : Name) → TargetIn config world address refs nums name → TargetIn config after address refs nums name
  pub promises : (address words : ℕ) → world.block address ≡ Some (promised seat words) → after.block address ≡ Some (promised seat words)
  pub no_promises : (address words : ℕ) → after.block address ≡ Some (promised seat words) → world.block address ≡ Some (promised seat words)
  pub promise_words : (address words k : ℕ) → world.block address ≡ Some (promised seat words) → k < words → after.memory (Heap (address + k)) ≡ world.memory (Heap (address + k))
  pub root_words : (index : ℕ) → after.memory (Root seat index) ≡ world.memory (Root seat index)
  pub roots : (index : ℕ) → after.graph.root (seat + 1) index ≡ world.graph.root (seat + 1) index
  pub pin_words : (index : ℕ) → after.memory (Pin seat index) ≡ world.memory (Pin seat index)
  pub pins : (index : ℕ) → after.graph.pin (seat + 1) index ≡ world.graph.pin (seat + 1) index
  pub count : after.graph.count (seat + 1) ≡ world.graph.count (seat + 1)
  pub wait : after.memory (Wait seat) ≡ world.memory (Wait seat)
  pub answer : after.memory (Answer seat) ≡ world.memory (Answer seat)
  pub marks : KeepsMarks config world after
  pub copies : KeepsCopies config world after

-- What the machine of a seat relies on of marking while another machine steps: its buffer, what it records and what it scans stay
-- as they are, and what is grey stays grey.
pub record RelyMarks (config : Config) (seat : ℕ) (world after : World) : Type 0 where
  pub keeps : KeepsMarks config world after
  pub recording : after.ghost.recording seat ≡ world.ghost.recording seat
  pub scanning : after.ghost.scanning seat ≡ world.ghost.scanning seat
  pub entries : after.memory (Count seat) ≡ world.memory (Count seat)
  pub buffer : (index : ℕ) → after.memory (Buffer seat index) ≡ world.memory (Buffer seat index)
  pub greys : (a : ℕ) → HasMark config (λ number. world.memory (Grey number)) a → HasMark config (λ number. after.memory (Grey number)) a

-- What the machine of a seat relies on of evacuation while another machine steps: whether it copies and on which unit it works stays as
-- it is, and while it copies so do the words of copies in the collection set, but for their headers.
pub record RelyCopies (config : Config) (seat : ℕ) (world after : World) : Type 0 where
  pub keeps : KeepsCopies config world after
  pub copying : after.ghost.copying seat ≡ world.ghost.copying seat
  pub working : after.ghost.working seat ≡ world.ghost.working seat
  pub words : (address k : ℕ) (body : Body) → seat < seat_count config.mutators config.helpers → world.ghost.copying seat ≡ true → IsCollected config (world.memory Cset) address → body_at (world.block address) ≡ Some body
      → 1 ≤ k → k < body_words body → after.memory (Heap (address + k)) ≡ world.memory (Heap (address + k))

-- What holds of the updating of references whoever steps, outside pauses: tops at mark start and limits stay, and so do dead objects; once
-- all regions are claimed they stay claimed; and while references are updated each field of an object stays as it is or is current then.
pub record KeepsFields (config : Config) (world after : World) : Type 0 where
  pub tams : (region : ℕ) → after.memory (Tams region) ≡ world.memory (Tams region)
  pub limits : (region : ℕ) → after.memory (Limit region) ≡ world.memory (Limit region)
  pub deads : (address words : ℕ) → world.block address ≡ Some (dead words) → after.block address ≡ Some (dead words)
  pub fillers : (address words : ℕ) → world.block address ≡ Some (filler words) → after.block address ≡ Some (filler words)
  pub claims : config.regions ≤ world.memory Claim → config.regions ≤ after.memory Claim
  pub fields : world.memory Phase ≡ updating_phase → (address refs nums k : ℕ) (name : Name) → world.block address ≡ Some (thing name refs nums) → k < refs
      → (after.memory (Heap (address + 3 + k)) ≡ world.memory (Heap (address + 3 + k))) ⊎ IsCurrent after.block (after.memory (Heap (address + 3 + k)))

-- What the machine of a seat relies on while another machine leads from a world to the one after it: objects stay where they are; what is the
-- seat's own stays as it is, its room and its buffer; a region that may be carved may be carved still; phase and collection set stay, which only a pause changes, and so does that a mutator waits.
pub record Rely (config : Config) (seat : ℕ) (world after : World) : Type 0 where
  pub names : (address : ℕ) (name : Name) → name_at (world.block address) ≡ Some name → name_at (after.block address) ≡ Some name
  pub targets : (address refs nums : ℕ) (name : Name) → TargetIn config world address refs nums name → TargetIn config after address refs nums name
  pub rooms : (address : ℕ) (piece : Block) → world.block address ≡ Some piece → room_of piece ≡ Some seat → after.block address ≡ Some piece
  pub no_rooms : (address : ℕ) (piece : Block) → after.block address ≡ Some piece → room_of piece ≡ Some seat → world.block address ≡ Some piece
  pub room_words : (address k : ℕ) (piece : Block) → world.block address ≡ Some piece → room_of piece ≡ Some seat → k < words_of piece → after.memory (Heap (address + k)) ≡ world.memory (Heap (address + k))
  pub promises : (address words : ℕ) → world.block address ≡ Some (promised seat words) → after.block address ≡ Some (promised seat words)
  pub no_promises : (address words : ℕ) → after.block address ≡ Some (promised seat words) → world.block address ≡ Some (promised seat words)
  pub promise_words : (address words k : ℕ) → world.block address ≡ Some (promised seat words) → k < words → after.memory (Heap (address + k)) ≡ world.memory (Heap (address + k))
  pub current : after.memory (Current seat) ≡ world.memory (Current seat)
  pub opens : (region : ℕ) → IsOpenIn config world region → IsOpenIn config after region
  pub owners : (region : ℕ) → world.ghost.owner region ≡ Some seat → after.ghost.owner region ≡ Some seat
  pub tops : (region : ℕ) → world.ghost.owner region ≡ Some seat → after.memory (Top region) ≡ world.memory (Top region)
  pub root_words : (index : ℕ) → after.memory (Root seat index) ≡ world.memory (Root seat index)
  pub roots : (index : ℕ) → after.graph.root (seat + 1) index ≡ world.graph.root (seat + 1) index
  pub pin_words : (index : ℕ) → after.memory (Pin seat index) ≡ world.memory (Pin seat index)
  pub pins : (index : ℕ) → after.graph.pin (seat + 1) index ≡ world.graph.pin (seat + 1) index
  pub count : after.graph.count (seat + 1) ≡ world.graph.count (seat + 1)
  pub wait : after.memory (Wait seat) ≡ world.memory (Wait seat)
  pub answer : after.memory (Answer seat) ≡ world.memory (Answer seat)
  pub state : after.memory (State seat) ≡ world.memory (State seat)
  pub asked : bit_at (world.memory Ask) 1 ≡ 1 → bit_at (after.memory Ask) 1 ≡ 1
  pub marks : RelyMarks config seat world after
  pub copies : RelyCopies config seat world after
  pub fields : KeepsFields config world after
