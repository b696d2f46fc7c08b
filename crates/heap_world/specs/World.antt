-- What it means that the words of a heap stand for a graph.
use Rattle.std.specs.Prelude.{ℕ, ◌≡◌, ◌≢◌, ◌⊎◌, ◌+◌, ◌-◌, ◌<◌, ◌≤◌, ◌^◌, Bool, true, false, if◌then◌else◌, Option, Some, None, zero, suc}
use Rattle.std.specs.Int.{bit_at}
use Rattle.heap_words.specs.declared.config.Config.{Config}
use Rattle.heap_words.specs.Words.{Word, Phase, Cset, Free, Evac, Claim, Top, Tams, Limit, Current, Count, Buffer, Grey, Black, Heap, Share, Pin}
use Rattle.heap_words.specs.Encoding.{plain_header, header_word, filler_header, next_in, end_in, shape_word, name_code, object_words}
use Rattle.heap_words.specs.Ranges.{seat_count}
use Rattle.regions.specs.Place.{base_of, region_with}
use Rattle.regions.specs.Sets.{IsIn}
use Rattle.shen_graph.specs.declared.name.Name.{Name}
use Rattle.shen_graph.specs.declared.pin.Pinned.{Pinned}
use Rattle.shen_graph.specs.Graph.{Reference, Object, Graph}
use Rattle.regions.specs.Marks.{address_at, mark_at, HasMark}
use Rattle.heap_words.specs.Counter.{count_of, is_out_of_room, IsQuiet}
use Rattle.heap_words.specs.Phases.{marking_phase, evacuation_phase, updating_phase}
use Rattle.heap_world.specs.Objects.{Refers, IsObject}

-- A piece of the part of a region that is in use: the current copy of an object of a name, with so many references and numbers; an
-- old copy of one, whose current copy is at an address; an old copy, of so many words, of an object that a pause had made for a mutator
-- when its current copy was made at an address; so many words that a machine has in hand; an object of so many words that a pause has
-- made for the mutator of a seat, which waits for it and has not taken it into the graph yet; a dead object, which nothing leads to, of so
-- many words; so many words that only fill, and never were an object; so many free words of a seat's buffer; or
-- so many words that a seat has carved out of a region for a new buffer.
pub data Block : Type 0 where
  thing : (name : Name) (refs nums : ℕ) → Block
  moved : (name : Name) (refs nums to : ℕ) → Block
  spent : (words to : ℕ) → Block
  hand : (seat words : ℕ) → Block
  promised : (seat words : ℕ) → Block
  dead : (words : ℕ) → Block
  filler : (words : ℕ) → Block
  spare : (seat words : ℕ) → Block
  carved : (seat words : ℕ) → Block

abbrev pub words_of : Block → ℕ
words_of (thing name refs nums) = 3 + refs + nums
words_of (moved name refs nums to) = 3 + refs + nums
words_of (spent words to) = words
words_of (hand seat words) = words
words_of (promised seat words) = words
words_of (dead words) = words
words_of (filler words) = words
words_of (spare seat words) = words
words_of (carved seat words) = words

-- how many words only fill, where a piece is such words
abbrev pub filling : Block → Option ℕ
filling (filler words) = Some words
filling _ = None

-- the seat whose room a piece is: words in its hand, free words of its buffer, or words that it has carved
abbrev pub room_of : Block → Option ℕ
room_of (thing name refs nums) = None
room_of (moved name refs nums to) = None
room_of (spent words to) = None
room_of (hand seat words) = Some seat
room_of (promised seat words) = None
room_of (dead words) = None
room_of (filler words) = None
room_of (spare seat words) = Some seat
room_of (carved seat words) = Some seat

-- whether a piece is loose: room, or words that only fill where room was
abbrev pub is_loose : Block → Bool
is_loose (thing name refs nums) = false
is_loose (moved name refs nums to) = false
is_loose (spent words to) = false
is_loose (hand seat words) = true
is_loose (promised seat words) = false
is_loose (dead words) = false
is_loose (filler words) = true
is_loose (spare seat words) = true
is_loose (carved seat words) = true

-- by address, the piece that begins there
abbrev pub Plot : Type 0
Plot = ℕ → Option Block

-- The heap as marking from a snapshot at the beginning has it: the pieces and words that it begins with, whether a root, an answer or a
-- pin slot holds an address then, and the tops at mark start.
pub record Snapshot : Type 0 where
  pub block : Plot
  pub heap : ℕ → ℕ
  pub starts : ℕ → Bool
  pub top : ℕ → ℕ

-- where a scan of marking, or a unit of updating, stands: at a field of an object
pub record Scan : Type 0 where
  pub object : ℕ
  pub field : ℕ

-- Ghost state, which no word shows: by region, the seat that has it to itself, from when it takes it out of the free word until it shares it
-- or gives it back; the snapshot; and by seat, the address that it
-- is about to record, the scan in which it is, whether it copies, and the unit of work that it has claimed.
pub record Ghost : Type 0 where
  pub owner : ℕ → Option ℕ
  pub snapshot : Snapshot
  pub recording : ℕ → Option ℕ
  pub scanning : ℕ → Option Scan
  pub copying : ℕ → Bool
  pub working : ℕ → Option ℕ

-- the snapshot of nothing, which there is while nobody marks
abbrev pub no_snapshot : Snapshot
no_snapshot = record { block = λ a. None; heap = λ a. 0; starts = λ a. false; top = λ r. 0 }

-- the ghost state in which nobody has a region, and nobody marks, copies or works
abbrev pub no_ghost : Ghost
no_ghost = record { owner = λ r. None; snapshot = no_snapshot; recording = λ seat. None; scanning = λ seat. None; copying = λ seat. false; working = λ seat. None }

-- the ghost state with other owners
abbrev pub with_owner : Ghost → (ℕ → Option ℕ) → Ghost
with_owner ghost owner =
    record { owner = owner; snapshot = ghost.snapshot; recording = ghost.recording; scanning = ghost.scanning; copying = ghost.copying; working = ghost.working }

-- and with other seats that record, or scan
abbrev pub with_recording : Ghost → (ℕ → Option ℕ) → Ghost
with_recording ghost recording =
    record { owner = ghost.owner; snapshot = ghost.snapshot; recording = recording; scanning = ghost.scanning; copying = ghost.copying; working = ghost.working }

abbrev pub with_scanning : Ghost → (ℕ → Option Scan) → Ghost
with_scanning ghost scanning =
    record { owner = ghost.owner; snapshot = ghost.snapshot; recording = ghost.recording; scanning = scanning; copying = ghost.copying; working = ghost.working }

-- and with other seats that copy, or work
abbrev pub with_copying : Ghost → (ℕ → Bool) → Ghost
with_copying ghost copying =
    record { owner = ghost.owner; snapshot = ghost.snapshot; recording = ghost.recording; scanning = ghost.scanning; copying = copying; working = ghost.working }

abbrev pub with_working : Ghost → (ℕ → Option ℕ) → Ghost
with_working ghost working =
    record { owner = ghost.owner; snapshot = ghost.snapshot; recording = ghost.recording; scanning = ghost.scanning; copying = ghost.copying; working = working }

-- a memory, how its regions are divided, ghost state, and the graph that the memory stands for
pub record World : Type 0 where
  pub memory : Word → ℕ
  pub block : Plot
  pub ghost : Ghost
  pub graph : Graph

-- the object that an address stands for, if it does: current and old copies alike
abbrev pub name_at : Option Block → Option Name
name_at (Some (thing name refs nums)) = Some name
name_at (Some (moved name refs nums to)) = Some name
name_at (Some (spent words to)) = None
name_at (Some (hand seat words)) = None
name_at (Some (promised seat words)) = None
name_at (Some (dead words)) = None
name_at (Some (filler words)) = None
name_at (Some (spare seat words)) = None
name_at (Some (carved seat words)) = None
name_at None = None

-- what a copy of an object is, current or old: its name, and how many references and numbers it has
pub record Body : Type 0 where
  pub name : Name
  pub refs : ℕ
  pub nums : ℕ

abbrev pub body_of : Name → ℕ → ℕ → Body
body_of name refs nums = record { name = name; refs = refs; nums = nums }

abbrev pub body_words : Body → ℕ
body_words body = 3 + body.refs + body.nums

abbrev pub body_at : Option Block → Option Body
body_at (Some (thing name refs nums)) = Some (body_of name refs nums)
body_at (Some (moved name refs nums to)) = Some (body_of name refs nums)
body_at (Some (spent words to)) = None
body_at (Some (hand seat words)) = None
body_at (Some (promised seat words)) = None
body_at (Some (dead words)) = None
body_at (Some (filler words)) = None
body_at (Some (spare seat words)) = None
body_at (Some (carved seat words)) = None
body_at None = None

-- a word stands for a reference where objects stand so
abbrev pub Points : Plot → ℕ → Reference → Type 0
Points block word reference = Refers (λ address. name_at (block address)) word reference

-- an address lies in a region of the collection set
abbrev pub IsCollected : Config → (cset : ℕ) → ℕ → Type 0
IsCollected config cset address = IsIn cset (region_with config address)

-- The object's current copy, with so many references and numbers, is at the address, and may be used: if it lies in the collection set
-- nobody copies any more, so that it stays the current one.
pub record Target (config : Config) (cset evac : ℕ) (block : Plot) (address refs nums : ℕ) (name : Name) : Type 0 where
  pub piece : block address ≡ Some (thing name refs nums)
  pub safe : IsCollected config cset address → IsQuiet evac

-- a word may be used as a reference: it is null, or the object's current copy is there, and may be used
abbrev pub IsUsable : Config → (cset evac : ℕ) → Plot → ℕ → Type 0
IsUsable config cset evac block word = (word ≡ 0) ⊎ ((name : Name) × (refs : ℕ) × (nums : ℕ) × Target config cset evac block word refs nums name)

-- A pin word stands for what its slot holds: 0 for nothing, and else it is the object's place, where its current copy is, and may be used.
abbrev pub PinStands : Config → (cset evac : ℕ) → Plot → ℕ → Option Pinned → Type 0
PinStands config cset evac block word None = word ≡ 0
PinStands config cset evac block word (Some pinned) = (word ≡ pinned.place) × (refs : ℕ) × (nums : ℕ) × Target config cset evac block word refs nums pinned.name

-- so do the pin words of all mutators
abbrev pub ArePinned : Config → (cset evac : ℕ) → Plot → (words : ℕ → ℕ → ℕ) → (pin : ℕ → ℕ → Option Pinned) → Type 0
ArePinned config cset evac block words pin = (mutator slot : ℕ) → mutator < config.mutators → slot < 4 → PinStands config cset evac block (words mutator slot) (pin (mutator + 1) slot)

-- so many words from an address on lie in the part of a region that is in use
pub record IsInUse (config : Config) (top : ℕ → ℕ) (address words : ℕ) : Type 0 where
  pub region : ℕ
  pub within : region < config.regions
  pub from_base : base_of config region ≤ address
  pub to_top : address + words ≤ base_of config region + top region

-- pieces lie in the parts in use and apart from each other, and no part in use is longer than its region
pub record IsPlotted (config : Config) (top : ℕ → ℕ) (block : Plot) : Type 0 where
  pub tops : (region : ℕ) → region < config.regions → top region ≤ config.region_words
  pub in_use : (address : ℕ) (piece : Block) → block address ≡ Some piece → IsInUse config top address (words_of piece)
  pub apart : (address other_address : ℕ) (piece other_piece : Block) → block address ≡ Some piece → block other_address ≡ Some other_piece → address < other_address → address + words_of piece ≤ other_address

-- pieces fill the parts in use: there is one at the base, and one after each that does not end at the top
pub record IsFilled (config : Config) (top : ℕ → ℕ) (block : Plot) : Type 0 where
  pub first : (region : ℕ) → region < config.regions → 0 < top region → (piece : Block) × (block (base_of config region) ≡ Some piece)
  pub next : (region address : ℕ) (piece : Block) → region < config.regions → base_of config region ≤ address → block address ≡ Some piece → address + words_of piece < base_of config region + top region
      → (other_piece : Block) × (block (address + words_of piece) ≡ Some other_piece)

-- the words from an address on are the object of the graph, where objects stand so
abbrev pub IsThing : (ℕ → ℕ) → Plot → ℕ → ℕ → ℕ → Name → Object → Type 0
IsThing heap block address refs nums name object = IsObject heap (λ a. name_at (block a)) address refs nums name object

-- a name is one that a thread has given: the hub's, or of a mutator and of a count that it has reached
pub record IsGiven (config : Config) (count : ℕ → ℕ) (name : Name) : Type 0 where
  pub thread : name.thread ≤ config.mutators
  pub made : name.count ≤ count name.thread + 1
  pub by_thread : 1 ≤ name.thread → name.count ≤ count name.thread
  pub small : name.count < 2 ^ 32

-- each piece that is a current copy is an object of the graph, and no two have one name
pub record AreObjects (heap : ℕ → ℕ) (block : Plot) (object : Name → Option Object) : Type 0 where
  pub each : (address refs nums : ℕ) (name : Name) → block address ≡ Some (thing name refs nums)
      → (o : Object) × (object name ≡ Some o) × IsThing heap block address refs nums name o
  pub once : (address other_address refs nums more_refs more_nums : ℕ) (name : Name) → block address ≡ Some (thing name refs nums)
      → block other_address ≡ Some (thing name more_refs more_nums) → address ≡ other_address

-- the free word has no bit at or above the number of regions, and a region whose bit is set has top 0 and is nobody's
pub record IsFreeWord (config : Config) (free : ℕ) (top : ℕ → ℕ) (owner : ℕ → Option ℕ) : Type 0 where
  pub no_more : free < 2 ^ config.regions
  pub empty : (region : ℕ) → region < config.regions → IsIn free region → top region ≡ 0
  pub nobodys : (region : ℕ) → region < config.regions → IsIn free region → owner region ≡ None

-- room is a seat's; what is in hand or carved is room for an object at least, and free words of a buffer are a word at least
pub record AreRooms (config : Config) (block : Plot) : Type 0 where
  pub seated : (address seat : ℕ) (piece : Block) → block address ≡ Some piece → room_of piece ≡ Some seat → seat < seat_count config.mutators config.helpers
  pub hands : (address seat words : ℕ) → block address ≡ Some (hand seat words) → 3 ≤ words
  pub spares : (address seat words : ℕ) → block address ≡ Some (spare seat words) → 1 ≤ words
  pub carveds : (address seat words : ℕ) → block address ≡ Some (carved seat words) → 3 ≤ words

-- a seat has words that it has carved and that are not its buffer yet
abbrev pub HasCarved : Plot → ℕ → Type 0
HasCarved block seat = (address : ℕ) × (words : ℕ) × (block address ≡ Some (carved seat words))

-- The word of a seat's buffer, which is not 0: its free words lie in the part in use of one region, and are a piece of the plot; or the seat
-- has carved words for another buffer, and only fills what is left of this one.
pub record IsBuffer (config : Config) (top : ℕ → ℕ) (block : Plot) (seat word : ℕ) : Type 0 where
  pub region : ℕ
  pub within : region < config.regions
  pub from_base : base_of config region ≤ next_in word
  pub some : base_of config region < end_in word
  pub ordered : next_in word ≤ end_in word
  pub to_top : end_in word ≤ base_of config region + top region
  pub free : next_in word < end_in word → (block (next_in word) ≡ Some (spare seat (end_in word - next_in word))) ⊎ HasCarved block seat

-- each seat has no buffer or one, and the free words of buffers are those that their words tell
pub record AreBuffers (config : Config) (top current : ℕ → ℕ) (block : Plot) : Type 0 where
  pub each : (seat : ℕ) → current seat ≢ 0 → IsBuffer config top block seat (current seat)
  pub spares : (address seat words : ℕ) → block address ≡ Some (spare seat words) → (next_in (current seat) ≡ address) × (end_in (current seat) ≡ address + words)

-- A region may be carved: it is one of the heap, not free, no seat's own, and not in the collection set. It stays so until a pause, also
-- when another region is shared.
pub record IsOpen (config : Config) (free cset : ℕ) (owner : ℕ → Option ℕ) (region : ℕ) : Type 0 where
  pub within : region < config.regions
  pub in_use : IsIn free region → ⊥
  pub nobodys : owner region ≡ None
  pub outside : IsIn cset region → ⊥

-- the region that is shared, if one is, may be carved
abbrev pub ShareIsOpen : Config → (share free cset : ℕ) → (ℕ → Option ℕ) → Type 0
ShareIsOpen config share free cset owner = (region : ℕ) → share ≡ region + 1 → IsOpen config free cset owner region

-- No buffer lies in the collection set, not even one without free words: it lies where its last word does.
abbrev pub AreBuffersOutside : Config → (cset : ℕ) → (current : ℕ → ℕ) → Type 0
AreBuffersOutside config cset current = (seat : ℕ) → current seat ≢ 0 → IsCollected config cset (end_in (current seat) - 1) → ⊥

-- no piece is room
abbrev pub HasNoRoom : Plot → Type 0
HasNoRoom block = (address seat : ℕ) (piece : Block) → block address ≡ Some piece → room_of piece ≡ Some seat → ⊥

-- an object that is promised has a header, a shape and a name at least
abbrev pub ArePromises : Plot → Type 0
ArePromises block = (address seat words : ℕ) → block address ≡ Some (promised seat words) → 3 ≤ words

-- a dead object has three words at least, as each object
abbrev pub AreDeads : Plot → Type 0
AreDeads block = (address words : ℕ) → block address ≡ Some (dead words) → 3 ≤ words

-- so has the old copy of an object that was promised
abbrev pub AreSpents : Plot → Type 0
AreSpents block = (address words to : ℕ) → block address ≡ Some (spent words to) → 3 ≤ words

-- words that only fill are one at least
abbrev pub AreFillers : Plot → Type 0
AreFillers block = (address words : ℕ) → block address ≡ Some (filler words) → 1 ≤ words

-- The heap is parsable: pieces fill the parts in use, one after another, and each has the least size of its kind.
pub record IsParsable (config : Config) (top : ℕ → ℕ) (block : Plot) : Type 0 where
  pub plotted : IsPlotted config top block
  pub filled : IsFilled config top block
  pub promises : ArePromises block
  pub deads : AreDeads block
  pub spents : AreSpents block
  pub fillers : AreFillers block

-- The pieces that are objects are the graph's, and its names are given.
pub record HasContents (config : Config) (heap : ℕ → ℕ) (block : Plot) (object : Name → Option Object) (count : ℕ → ℕ) : Type 0 where
  pub objects : AreObjects heap block object
  pub given : (name : Name) (o : Object) → object name ≡ Some o → IsGiven config count name

-- Ownership: a region is free, or one seat's that is about to share it, or may be carved; room is a seat's, and its free words are those of
-- its buffer, which lies outside the collection set.
pub record AreOwned (config : Config) (top : ℕ → ℕ) (share free cset : ℕ) (current : ℕ → ℕ) (block : Plot) (owner : ℕ → Option ℕ) : Type 0 where
  pub free_word : IsFreeWord config free top owner
  pub shared_one : ShareIsOpen config share free cset owner
  pub rooms : AreRooms config block
  pub buffers : AreBuffers config top current block
  pub outside : AreBuffersOutside config cset current

-- The phase is 0 to 3. Only in phases 2 and 3, while objects are evacuated and references to them updated, is a region in the collection
-- set, and only in phase 2 is a copier counted.
pub record IsPhased (phase cset evac : ℕ) : Type 0 where
  pub phase_is : phase ≤ updating_phase
  pub cset_is : phase < evacuation_phase → cset ≡ 0
  pub evac_is : phase ≢ evacuation_phase → evac ≡ 0

-- so many words are a new object: its shape word says so, and its references are null
pub record IsBlank (heap : ℕ → ℕ) (address words : ℕ) : Type 0 where
  pub refs : ℕ
  pub nums : ℕ
  pub long : words ≡ 3 + refs + nums
  pub few_refs : refs ≤ 16
  pub few_nums : nums ≤ 16
  pub header : heap address ≡ plain_header
  pub shape : heap (address + 1) ≡ shape_word refs nums
  pub nulls : (i : ℕ) → i < refs → heap (address + 3 + i) ≡ 0

-- Pieces that nobody writes to: an object that was promised is a new one, and a dead object begins with the header of an object that has not
-- moved, and a shape word that says how many words it has. Words that only fill begin with a header that says how many they are.
pub record AreUnwritten (heap : ℕ → ℕ) (block : Plot) : Type 0 where
  pub blanks : (address seat words : ℕ) → block address ≡ Some (promised seat words) → IsBlank heap address words
  pub headers : (address words : ℕ) → block address ≡ Some (dead words) → heap address ≡ plain_header
  pub lengths : (address words : ℕ) → block address ≡ Some (dead words) → object_words (heap (address + 1)) ≡ words
  pub fillers : (address words : ℕ) → block address ≡ Some (filler words) → heap address ≡ filler_header words

-- Marking from a snapshot at the beginning: what is marked is an object: one of the graph, or one that is promised.
pub data IsMarkable (block : Plot) (address : ℕ) : Type 0 where
  object : (name : Name) (refs nums : ℕ) → block address ≡ Some (thing name refs nums) → IsMarkable block address
  to_come : (seat words : ℕ) → block address ≡ Some (promised seat words) → IsMarkable block address

-- an address is at or above a top of its region, and so, where that is the top at mark start, was allocated since
abbrev pub IsYoung : Config → (ℕ → ℕ) → ℕ → Type 0
IsYoung config top address = base_of config (region_with config address) + top (region_with config address) ≤ address

-- all room is young so
abbrev pub AreYoungRooms : Config → (ℕ → ℕ) → Plot → Type 0
AreYoungRooms config top block = (address seat : ℕ) (piece : Block) → block address ≡ Some piece → room_of piece ≡ Some seat → IsYoung config top address

-- An address is noted: it will be marked, for it is grey, an entry of a mutator's buffer below its count, or about to be recorded
-- by a mutator. What is noted stays so until the pause that ends marking.
pub data IsNoted (config : Config) (grey count : ℕ → ℕ) (buffer : ℕ → ℕ → ℕ) (recording : ℕ → Option ℕ) (address : ℕ) : Type 0 where
  by_mark : HasMark config grey address → IsNoted config grey count buffer recording address
  by_entry : (mutator k : ℕ) → mutator < config.mutators → k < count mutator → buffer mutator k ≡ address → IsNoted config grey count buffer recording address
  by_hand : (mutator : ℕ) → mutator < config.mutators → recording mutator ≡ Some address → IsNoted config grey count buffer recording address

-- A field has still to be loaded by a scan: its object is not black, or a machine scans it and has not come past the field.
pub data IsToScan (config : Config) (black : ℕ → ℕ) (scanning : ℕ → Option Scan) (address k : ℕ) : Type 0 where
  is_white : mark_at config black address ≡ 0 → IsToScan config black scanning address k
  in_scan : (seat at : ℕ) → seat < seat_count config.mutators config.helpers → scanning seat ≡ Some (record { object = address; field = at }) → at ≤ k → IsToScan config black scanning address k

-- the reference that a field of the snapshot had
abbrev pub was_at : Snapshot → ℕ → ℕ → ℕ
was_at snapshot address field = snapshot.heap (address + 3 + field)

-- marking needs that field no more: it was null, or its object is noted
abbrev pub NeedsNoMarking : Snapshot → (ℕ → Type 0) → ℕ → ℕ → Type 0
NeedsNoMarking snapshot Noted address field = (was_at snapshot address field ≡ 0) ⊎ Noted (was_at snapshot address field)

-- A reference of the snapshot is not lost: marking needs it no more, or the field still holds it and a scan has still to come to it.
pub data IsTracedAt (config : Config) (snapshot : Snapshot) (heap black : ℕ → ℕ) (scanning : ℕ → Option Scan) (Noted : ℕ → Type 0) (address k : ℕ) : Type 0 where
  done : NeedsNoMarking snapshot Noted address k → IsTracedAt config snapshot heap black scanning Noted address k
  stands : heap (address + 3 + k) ≡ was_at snapshot address k → IsToScan config black scanning address k → IsTracedAt config snapshot heap black scanning Noted address k

-- no reference of the snapshot is lost, and what roots, answers and pin slots named then is noted
pub record AreTraced (config : Config) (snapshot : Snapshot) (heap black : ℕ → ℕ) (scanning : ℕ → Option Scan) (Noted : ℕ → Type 0) : Type 0 where
  pub edges : (address refs nums k : ℕ) (name : Name) → snapshot.block address ≡ Some (thing name refs nums) → k < refs → IsTracedAt config snapshot heap black scanning Noted address k
  pub starts : (address : ℕ) → snapshot.starts address ≡ true → Noted address

-- what roots, answers and pin slots of the snapshot lead to, by its fields
pub data IsLed (snapshot : Snapshot) : ℕ → Type 0 where
  by_start : (address : ℕ) → snapshot.starts address ≡ true → IsLed snapshot address
  by_field : (address refs nums k : ℕ) (name : Name) → IsLed snapshot address → snapshot.block address ≡ Some (thing name refs nums) → k < refs → was_at snapshot address k ≢ 0 → IsLed snapshot (was_at snapshot address k)

-- words of marks are words of 64 bits, and what they mark are objects
pub record AreMarks (config : Config) (marks : ℕ → ℕ) (block : Plot) : Type 0 where
  pub small : (n : ℕ) → marks n < 2 ^ 64
  pub of_objects : (n k : ℕ) → k < 64 → bit_at (marks n) k ≡ 1 → IsMarkable block (address_at config n k)

-- each mutator has at most 8 entries in its buffer, and they are objects
pub record AreEntries (config : Config) (count : ℕ → ℕ) (buffer : ℕ → ℕ → ℕ) (block : Plot) : Type 0 where
  pub few : (mutator : ℕ) → mutator < config.mutators → count mutator ≤ 8
  pub of_objects : (mutator k : ℕ) → mutator < config.mutators → k < count mutator → IsMarkable block (buffer mutator k)

-- While objects are marked, each object is one of the snapshot, or was named by a root or an answer then, or was allocated since, as all
-- room was; a promised object was named so, and no dead one was allocated since. Marks and buffers have objects alone.
pub record KeepsMarking (config : Config) (grey black count : ℕ → ℕ) (buffer : ℕ → ℕ → ℕ) (tams : ℕ → ℕ) (block : Plot) (snapshot : Snapshot) : Type 0 where
  pub older : (address refs nums : ℕ) (name : Name) → block address ≡ Some (thing name refs nums) → (snapshot.block address ≡ Some (thing name refs nums)) ⊎ ((snapshot.starts address ≡ true) ⊎ IsYoung config snapshot.top address)
  pub promises : (address seat words : ℕ) → block address ≡ Some (promised seat words) → snapshot.starts address ≡ true
  pub deads : (address words : ℕ) → block address ≡ Some (dead words) → IsYoung config snapshot.top address → ⊥
  pub young : AreYoungRooms config snapshot.top block
  pub tams_are : (region : ℕ) → region < config.regions → tams region ≡ snapshot.top region
  pub greys : AreMarks config grey block
  pub blacks : AreMarks config black block
  pub entries : AreEntries config count buffer block

-- Objects are marked from a snapshot: no reference of it is lost, its objects are where they were, and no top falls below that of mark
-- start. While the phase is 1, the rest of marking holds. In other phases there is no snapshot.
pub record KeepsSnapshot (config : Config) (phase : ℕ) (grey black count : ℕ → ℕ) (buffer : ℕ → ℕ → ℕ) (top tams heap : ℕ → ℕ) (block : Plot) (snapshot : Snapshot) (recording : ℕ → Option ℕ) (scanning : ℕ → Option Scan) : Type 0 where
  pub empty : phase ≢ marking_phase → snapshot ≡ no_snapshot
  pub traced : AreTraced config snapshot heap black scanning (IsNoted config grey count buffer recording)
  pub led : (address refs nums : ℕ) (name : Name) → snapshot.block address ≡ Some (thing name refs nums) → IsLed snapshot address
  pub old : (address refs nums : ℕ) (name : Name) → snapshot.block address ≡ Some (thing name refs nums) → IsYoung config snapshot.top address → ⊥
  pub kept : (address refs nums : ℕ) (name : Name) → snapshot.block address ≡ Some (thing name refs nums) → block address ≡ Some (thing name refs nums)
  pub floors : (region : ℕ) → region < config.regions → snapshot.top region ≤ top region
  pub marking : phase ≡ marking_phase → KeepsMarking config grey black count buffer tams block snapshot

-- An old copy lies in the collection set. Its header leads to the current copy, which lies outside, its shape and its name are as they
-- were, and its references stand for references still.
pub record IsMoved (config : Config) (cset : ℕ) (heap : ℕ → ℕ) (block : Plot) (address refs nums to : ℕ) (name : Name) : Type 0 where
  pub header : heap address ≡ header_word to
  pub shape : heap (address + 1) ≡ shape_word refs nums
  pub name_word : heap (address + 2) ≡ name_code name.thread name.count
  pub few_refs : refs ≤ 16
  pub few_nums : nums ≤ 16
  pub inside : IsCollected config cset address
  pub copy : block to ≡ Some (thing name refs nums)
  pub outside : IsCollected config cset to → ⊥
  pub references : (k : ℕ) → k < refs → (reference : Reference) × Points block (heap (address + 3 + k)) reference

-- So it is with an old copy of an object that was promised then. Its current copy still is, or is an object of the graph.
pub record IsSpent (config : Config) (cset : ℕ) (heap : ℕ → ℕ) (block : Plot) (address words to : ℕ) : Type 0 where
  pub header : heap address ≡ header_word to
  pub shape : object_words (heap (address + 1)) ≡ words
  pub inside : IsCollected config cset address
  pub copy : IsMarkable block to
  pub piece : Block
  pub there : block to ≡ Some piece
  pub long : words_of piece ≡ words
  pub outside : IsCollected config cset to → ⊥

pub record HaveMoved (config : Config) (cset : ℕ) (heap : ℕ → ℕ) (block : Plot) : Type 0 where
  pub moveds : (address refs nums to : ℕ) (name : Name) → block address ≡ Some (moved name refs nums to) → IsMoved config cset heap block address refs nums to name
  pub spents : (address words to : ℕ) → block address ≡ Some (spent words to) → IsSpent config cset heap block address words to

-- how many of so many seats copy
unfoldable pub copiers : (ℕ → Bool) → ℕ → ℕ
copiers copying zero = 0
copiers copying (suc seat) = copiers copying seat + (if copying seat then 1 else 0)

-- the counter counts the seats that copy
pub record IsCounted (config : Config) (evac : ℕ) (copying : ℕ → Bool) : Type 0 where
  pub is_word : evac < 2 ^ 64
  pub counts : count_of evac ≡ copiers copying (seat_count config.mutators config.helpers)

-- no room lies in the collection set
abbrev pub AreRoomsOutside : Config → (cset : ℕ) → Plot → Type 0
AreRoomsOutside config cset block = (address seat : ℕ) (piece : Block) → block address ≡ Some piece → room_of piece ≡ Some seat → IsCollected config cset address → ⊥

-- The regions of the collection set are set aside: each is one of the heap, in use and nobody's, nothing was allocated in it since mark
-- start, and no room and no object that is promised lies there.
pub record AreSetAside (config : Config) (cset free : ℕ) (top tams : ℕ → ℕ) (block : Plot) (owner : ℕ → Option ℕ) : Type 0 where
  pub in_heap : (region : ℕ) → IsIn cset region → region < config.regions
  pub in_use : (region : ℕ) → IsIn free region → IsIn cset region → ⊥
  pub nobodys : (region seat : ℕ) → owner region ≡ Some seat → IsIn cset region → ⊥
  pub no_new : (region : ℕ) → IsIn cset region → top region ≡ tams region
  pub no_promises : (address seat words : ℕ) → block address ≡ Some (promised seat words) → IsCollected config cset address → ⊥
  pub no_rooms : AreRoomsOutside config cset block

-- what is marked in the collection set: a current copy of an object, or an old one
pub data HasCopy (block : Plot) (address : ℕ) : Type 0 where
  copy : (body : Body) → body_at (block address) ≡ Some body → HasCopy block address
  spent_copy : (words to : ℕ) → block address ≡ Some (spent words to) → HasCopy block address

-- While objects are evacuated and references to them updated, each object is marked or was allocated since mark start, as all room was,
-- and a dead object is neither; and what is marked in the collection set is an object.
pub record AreKept (config : Config) (cset : ℕ) (black top tams : ℕ → ℕ) (block : Plot) : Type 0 where
  pub objects : (address : ℕ) → IsMarkable block address → HasMark config black address ⊎ IsYoung config tams address
  pub young : AreYoungRooms config tams block
  pub floors : (region : ℕ) → region < config.regions → tams region ≤ top region
  pub unmarked : (address words : ℕ) → block address ≡ Some (dead words) → HasMark config black address → ⊥
  pub deads : (address words : ℕ) → block address ≡ Some (dead words) → IsYoung config tams address → ⊥
  pub only : (address : ℕ) → config.region_words ≤ address → HasMark config black address → IsCollected config cset address → HasCopy block address

-- A region of the collection set is swept up to an address: no object has its current copy below it; or there was no room.
abbrev pub IsSweptTo : Config → (evac : ℕ) → Plot → (region end : ℕ) → Type 0
IsSweptTo config evac block region end =
    (is_out_of_room evac ≡ true) ⊎ ((address refs nums : ℕ) (name : Name) → base_of config region ≤ address → address < end → block address ≡ Some (thing name refs nums) → ⊥)

-- a unit that was claimed is swept, or some machine works on it
abbrev pub IsCaredFor : Config → (evac : ℕ) → Plot → (working : ℕ → Option ℕ) → (region : ℕ) → Type 0
IsCaredFor config evac block working region =
    IsSweptTo config evac block region (base_of config (region + 1)) ⊎ ((seat : ℕ) × (seat < seat_count config.mutators config.helpers) × (working seat ≡ Some region))

abbrev pub AreCaredFor : Config → (phase cset evac claim : ℕ) → Plot → (working : ℕ → Option ℕ) → Type 0
AreCaredFor config phase cset evac claim block working = phase ≡ evacuation_phase → (region : ℕ) → region < claim → IsIn cset region → IsCaredFor config evac block working region

-- each root may be used as a reference
abbrev pub AreUsable : Config → (cset evac : ℕ) → Plot → (root : ℕ → ℕ → ℕ) → Type 0
AreUsable config cset evac block root = (mutator index : ℕ) → mutator < config.mutators → index < 16 → IsUsable config cset evac block (root mutator index)

-- Evacuation: objects are copied out of the collection set beside the threads, and lead to their copies while references to them are updated.
-- In phases 0 and 1 the set is empty and no copier is counted, so that nothing is said.
pub record IsEvacuating (config : Config) (phase cset evac claim free : ℕ) (top tams heap black : ℕ → ℕ) (block : Plot) (owner : ℕ → Option ℕ) (copying : ℕ → Bool) (working : ℕ → Option ℕ) : Type 0 where
  pub moved : HaveMoved config cset heap block
  pub counted : IsCounted config evac copying
  pub aside : AreSetAside config cset free top tams block owner
  pub kept : evacuation_phase ≤ phase → AreKept config cset black top tams block
  pub units : AreCaredFor config phase cset evac claim block working

-- A word is current: it names no old copy, for it is null or the address of an object's current copy.
pub data IsCurrent (block : Plot) (word : ℕ) : Type 0 where
  null : word ≡ 0 → IsCurrent block word
  names : (refs nums : ℕ) (name : Name) → block word ≡ Some (thing name refs nums) → IsCurrent block word

-- a field comes where a machine stands in its unit of updating, or behind
abbrev pub IsAhead : Scan → (address field : ℕ) → Type 0
IsAhead scan address field = (scan.object < address) ⊎ ((scan.object ≡ address) × (scan.field ≤ field))

-- A field is still to be updated: its object lies below the limit of its region, and the region's unit is not claimed, or a machine is in
-- the unit that has not come past the field.
pub data IsToUpdate (config : Config) (claim : ℕ) (limit : ℕ → ℕ) (scanning : ℕ → Option Scan) (address k : ℕ) : Type 0 where
  unclaimed : (IsYoung config limit address → ⊥) → claim ≤ region_with config address → IsToUpdate config claim limit scanning address k
  in_unit : (IsYoung config limit address → ⊥) → (seat : ℕ) (at : Scan) → seat < seat_count config.mutators config.helpers → scanning seat ≡ Some at
      → region_with config at.object ≡ region_with config address → IsAhead at address k → IsToUpdate config claim limit scanning address k

-- Updating of references: no object has its current copy in the collection set any more, and each field of a current copy is current or
-- still to be updated. Limits are tops when updating began: room lies at or above them.
pub record IsUpdating (config : Config) (cset claim : ℕ) (top limit heap : ℕ → ℕ) (block : Plot) (scanning : ℕ → Option Scan) : Type 0 where
  pub outside : (address refs nums : ℕ) (name : Name) → block address ≡ Some (thing name refs nums) → IsCollected config cset address → ⊥
  pub renewed : (address refs nums k : ℕ) (name : Name) → block address ≡ Some (thing name refs nums) → k < refs
      → IsCurrent block (heap (address + 3 + k)) ⊎ IsToUpdate config claim limit scanning address k
  pub young : AreYoungRooms config limit block
  pub limits : (region : ℕ) → region < config.regions → limit region ≤ top region

-- The facts that all machines share, in groups, each over the words that it speaks of: a step that changes none of these words
-- hands the group on as it is.
pub record SharedFacts (config : Config) (top heap : ℕ → ℕ) (block : Plot) (ghost : Ghost) (object : Name → Option Object) (count : ℕ → ℕ) (phase cset evac free : ℕ) (current : ℕ → ℕ)
    (grey black entries : ℕ → ℕ) (buffer : ℕ → ℕ → ℕ) (tams : ℕ → ℕ) (claim : ℕ) (limit : ℕ → ℕ) (share : ℕ) (pin_words : ℕ → ℕ → ℕ) (pin : ℕ → ℕ → Option Pinned) : Type 0 where
  pub parsable : IsParsable config top block
  pub contents : HasContents config heap block object count
  pub owned : AreOwned config top share free cset current block ghost.owner
  pub phased : IsPhased phase cset evac
  pub unwritten : AreUnwritten heap block
  pub marked : KeepsSnapshot config phase grey black entries buffer top tams heap block ghost.snapshot ghost.recording ghost.scanning
  pub evacuated : IsEvacuating config phase cset evac claim free top tams heap black block ghost.owner ghost.copying ghost.working
  pub updated : phase ≡ updating_phase → IsUpdating config cset claim top limit heap block ghost.scanning
  pub pinned : ArePinned config cset evac block pin_words pin

abbrev pub Shared : Config → World → Type 0
Shared config world = SharedFacts config (λ region. world.memory (Top region)) (λ address. world.memory (Heap address)) world.block world.ghost world.graph.object world.graph.count (world.memory Phase) (world.memory Cset) (world.memory Evac)
    (world.memory Free) (λ seat. world.memory (Current seat)) (λ number. world.memory (Grey number)) (λ number. world.memory (Black number)) (λ mutator. world.memory (Count mutator)) (λ mutator entry. world.memory (Buffer mutator entry)) (λ region. world.memory (Tams region))
    (world.memory Claim) (λ region. world.memory (Limit region)) (world.memory Share) (λ mutator slot. world.memory (Pin mutator slot)) world.graph.pin

-- a region of a world may be carved
abbrev pub IsOpenIn : Config → World → ℕ → Type 0
IsOpenIn config world = IsOpen config (world.memory Free) (world.memory Cset) world.ghost.owner

-- the object's current copy is at an address of a world, and may be used
abbrev pub TargetIn : Config → World → (address refs nums : ℕ) → Name → Type 0
TargetIn config world = Target config (world.memory Cset) (world.memory Evac) world.block

-- a word may be used as a reference in a world
abbrev pub UsableIn : Config → World → ℕ → Type 0
UsableIn config world = IsUsable config (world.memory Cset) (world.memory Evac) world.block

-- what is noted in a world
abbrev pub NotedIn : Config → World → ℕ → Type 0
NotedIn config world address = IsNoted config (λ number. world.memory (Grey number)) (λ mutator. world.memory (Count mutator)) (λ mutator entry. world.memory (Buffer mutator entry)) world.ghost.recording address

-- marking needs a field of the snapshot no more, if an object of it has that field
abbrev pub IsCovered : Config → World → ℕ → ℕ → Type 0
IsCovered config world address field = (refs nums : ℕ) (name : Name) → world.ghost.snapshot.block address ≡ Some (thing name refs nums) → field < refs → NeedsNoMarking world.ghost.snapshot (NotedIn config world) address field
