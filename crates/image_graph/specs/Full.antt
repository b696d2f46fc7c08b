-- What a full collection makes of the words of an image: the held objects are packed around the pinned regions, what is not held there
-- becomes words that only fill, waiting requests are served, and those that are left are refused. Everything here is a function of the words alone.
use Rattle.std.specs.Prelude.{ℕ, ◌+◌, ◌*◌, ◌==◌, ◌&&◌, not, nat_le, nat_lt, if◌then◌else◌, Bool, bit_and, List, [], ◌∷◌, ◌++◌, map, Option, Some, None, zero, suc}
use Rattle.std.specs.List.{range_with_len}
use Rattle.heap_words.specs.declared.config.Config.{Config}
use Rattle.heap_words.specs.Words.{Word, Pause, Left, End, State, Phase, Cset, Free, Evac, Claim, Ask, Top, Tams, Limit, Current, Root, Count, Buffer, Wait, Answer, Grey, Black, Heap, Share, Pin}
use Rattle.heap_words.specs.Encoding.{plain_header, is_forwarded, forwardee_in, filler_header, refs_in, object_words, name_code, request_count_in, request_shape_in}
use Rattle.heap_words.specs.Phases.{idle_phase}
use Rattle.regions.specs.Place.{base_of}
use Rattle.regions.specs.Sets.{all_but}
use Rattle.regions.specs.Places.{new_place}
use Rattle.regions.specs.Place.{region_with}
use Rattle.regions.specs.Walk.{is_filler}
use Rattle.regions.specs.ServedRooms.{lowest_room}
use Rattle.regions.specs.Slide.{renewed, slid}
use Rattle.image_graph.specs.LetGo.{let_go}
use Rattle.heap_world.specs.Walk.{has}
use Rattle.image_graph.specs.Held.{found_in}
use Rattle.image_graph.specs.Pinned.{pins_below, set_of, is_row_pinned, begins}
use Rattle.image_graph.specs.Plot.{heap_end, packed_top}

-- the address of the current copy of what begins at an address, by its header
abbrev pub now_in : (Word → ℕ) → ℕ → ℕ
now_in memory address = if is_forwarded (memory (Heap address)) then forwardee_in (memory (Heap address)) else address

-- Which objects are kept.

-- the 16 roots of each of so many mutators, counted from 0
abbrev pub roots_below : (Word → ℕ) → ℕ → List ℕ
roots_below memory zero = []
roots_below memory (suc mutator) = roots_below memory mutator ++ map (λ index. memory (Root mutator index)) (range_with_len 0 16)

-- the answers of so many mutators that are addresses: 0 is no answer yet, and 1 says that the heap is full
abbrev pub answers_below : (Word → ℕ) → ℕ → List ℕ
answers_below memory zero = []
answers_below memory (suc mutator) = answers_below memory mutator ++ (if nat_le (memory (Answer mutator)) 1 then [] else memory (Answer mutator) ∷ [])

-- the words that name objects, and are renewed when these move: roots, and answers that nobody has taken yet
abbrev pub root_words : Config → (Word → ℕ) → List ℕ
root_words config memory = roots_below memory config.mutators ++ answers_below memory config.mutators

-- the words that hold objects: these and the pin slots, whose objects do not move
abbrev pub held_words : Config → (Word → ℕ) → List ℕ
held_words config memory = root_words config memory ++ pins_below memory config.mutators

-- the references of the object at an address
abbrev pub field_words : (Word → ℕ) → ℕ → List ℕ
field_words memory address = map (λ i. memory (Heap (address + 3 + i))) (range_with_len 0 (refs_in (memory (Heap (address + 1)))))

-- the current copies of what some words hold; null stays null
abbrev pub copies_of : (Word → ℕ) → List ℕ → List ℕ
copies_of memory = map (λ word. if word == 0 then 0 else now_in memory word)

-- the addresses of all objects that these lead to, by current copies: as many turns as the heap has words are enough
abbrev pub held_in : Config → (Word → ℕ) → List ℕ
held_in config memory = found_in (λ a. copies_of memory (field_words memory a)) (copies_of memory (held_words config memory)) (config.regions * config.region_words)

-- how many words each of them has, and 0 for each other address
abbrev pub kept_in : Config → (Word → ℕ) → ℕ → ℕ
kept_in config memory address = if has (held_in config memory) address then object_words (memory (Heap (address + 1))) else 0

-- Packing.

-- the set of the regions below a number that have top 0
abbrev pub empty_regions : (top : ℕ → ℕ) → ℕ → ℕ
empty_regions top = set_of (λ r. top r == 0)

-- the new place of a kept object: in a pinned region, by the row, it stays
abbrev pub place_in : Config → (shut : ℕ → Bool) (kept : ℕ → ℕ) → ℕ → ℕ
place_in config shut kept = new_place config.region_words shut kept

-- an answer that is an address is renewed as a root is
abbrev pub renewed_answer : (place now : ℕ → ℕ) → ℕ → ℕ
renewed_answer place now word = if nat_le word 1 then word else place (now word)

-- what is left over in pinned regions: objects that are not kept. Words that only fill are none
abbrev pub is_unkept : (kept : ℕ → ℕ) → (Word → ℕ) → ℕ → Bool
is_unkept kept memory address = not (is_filler (memory (Heap address))) && (kept address == 0)

-- the top of each region then: that of a pinned region stays
abbrev pub top_then : Config → (shut : ℕ → Bool) (kept : ℕ → ℕ) → (Word → ℕ) → ℕ → ℕ
top_then config shut kept memory region = if shut (region + 1) then memory (Top region) else packed_top config shut kept region

-- the heap after the kept objects were moved
unfoldable pub moved_heap : Config → (shut : ℕ → Bool) (now kept : ℕ → ℕ) → (Word → ℕ) → ℕ → ℕ
moved_heap config shut now kept memory asked_address = slid (place_in config shut kept) kept (renewed (place_in config shut kept) now) (λ address. memory (Heap address)) (heap_end config) asked_address

-- The words after the kept objects were packed: objects at their new places, references renewed, what is left over in pinned regions
-- only fills, tops and the free word by what was placed. Nothing of a collection in progress is left. Words that no object covers stay,
-- and so do requests, pin slots, what SATB buffers had in them, and the words of the machines themselves.
unfoldable pub packed : Config → (shut : ℕ → Bool) (now kept : ℕ → ℕ) → (Word → ℕ) → Word → ℕ
packed config shut now kept memory (Heap address) =
    if shut (region_with config address + 1) && (begins config memory address && is_unkept kept memory address) then filler_header (object_words (memory (Heap (address + 1)))) else moved_heap config shut now kept memory address
packed config shut now kept memory (Root mutator index) = renewed (place_in config shut kept) now (memory (Root mutator index))
packed config shut now kept memory (Answer mutator) = renewed_answer (place_in config shut kept) now (memory (Answer mutator))
packed config shut now kept memory (Pin mutator slot) = memory (Pin mutator slot)
packed config shut now kept memory (Top region) = top_then config shut kept memory region
packed config shut now kept memory Free = empty_regions (top_then config shut kept memory) config.regions
packed config shut now kept memory Phase = idle_phase
packed config shut now kept memory Cset = 0
packed config shut now kept memory Evac = 0
packed config shut now kept memory Claim = 0
packed config shut now kept memory Ask = 0
packed config shut now kept memory (Tams region) = 0
packed config shut now kept memory (Limit region) = 0
packed config shut now kept memory (Current seat) = 0
packed config shut now kept memory Share = 0
packed config shut now kept memory (Count mutator) = 0
packed config shut now kept memory (Grey number) = 0
packed config shut now kept memory (Black number) = 0
packed config shut now kept memory (Wait mutator) = memory (Wait mutator)
packed config shut now kept memory (Buffer mutator entry) = memory (Buffer mutator entry)
packed config shut now kept memory (State seat) = memory (State seat)
packed config shut now kept memory Pause = memory Pause
packed config shut now kept memory Left = memory Left
packed config shut now kept memory End = memory End

-- the words after packing, before requests are served
abbrev pub packed_in : Config → (Word → ℕ) → Word → ℕ
packed_in config memory = packed config (is_row_pinned config memory) (now_in memory) (kept_in config memory) memory

-- Serving.

-- the words that the request of a thread asks for; 0 where it does not wait
abbrev pub asked_in : (Word → ℕ) → ℕ → ℕ
asked_in memory mutator = if memory (Wait mutator) == 0 then 0 else object_words (request_shape_in (memory (Wait mutator)))

-- what a word of the heap is after an object of a shape and a name word was made at an address: its fields are null and 0
abbrev pub made_word : (address shape name before asked_address : ℕ) → ℕ
made_word address shape name before asked_address =
    if nat_le address asked_address && nat_lt asked_address (address + object_words shape) then
    (if address == asked_address then plain_header else (if address + 1 == asked_address then shape else (if address + 2 == asked_address then name else 0)))
    else before

-- the words after the object that a thread asks for was made at the top of a region
unfoldable pub made_in : Config → (Word → ℕ) → (mutator region : ℕ) → Word → ℕ
made_in config memory mutator region (Heap address) =
    made_word (base_of config region + memory (Top region)) (request_shape_in (memory (Wait mutator))) (name_code (mutator + 1) (request_count_in (memory (Wait mutator)))) (memory (Heap address)) address
made_in config memory mutator region (Top asked_region) = if region == asked_region then memory (Top region) + object_words (request_shape_in (memory (Wait mutator))) else memory (Top asked_region)
made_in config memory mutator region Free = bit_and (memory Free) (all_but region)
made_in config memory mutator region (Answer other_mutator) = if mutator == other_mutator then base_of config region + memory (Top region) else memory (Answer other_mutator)
made_in config memory mutator region (Wait other_mutator) = if mutator == other_mutator then 0 else memory (Wait other_mutator)
made_in config memory mutator region word = memory word

-- and where no region was found, as they were
abbrev pub served_in : Config → (Word → ℕ) → (mutator : ℕ) → Option ℕ → Word → ℕ
served_in config memory mutator None word = memory word
served_in config memory mutator (Some region) word = made_in config memory mutator region word

-- the region that the request of a thread finds: the lowest one that has room for it
abbrev pub room_for : Config → (Word → ℕ) → ℕ → Option ℕ
room_for config memory mutator = lowest_room config.region_words (λ region. memory (Top region)) (object_words (request_shape_in (memory (Wait mutator)))) config.regions

-- the words after each of so many threads had its turn, in their order; who does not wait has none
unfoldable pub served : Config → (Word → ℕ) → ℕ → Word → ℕ
served config memory zero word = memory word
served config memory (suc mutator) word =
    if served config memory mutator (Wait mutator) == 0 then served config memory mutator word else served_in config (served config memory mutator) mutator (room_for config (served config memory mutator) mutator) word

-- the words after each request that is left was answered: the heap is full
unfoldable pub refused : (Word → ℕ) → Word → ℕ
refused memory (Answer mutator) = if memory (Wait mutator) == 0 then memory (Answer mutator) else 1
refused memory (Wait mutator) = 0
refused memory word = memory word

-- the words after a full collection, from words in which no seat has a buffer
abbrev pub full_from : Config → (Word → ℕ) → Word → ℕ
full_from config memory = refused (served config (packed_in config memory) config.mutators)

-- The words after a full collection: buffers are let go first.
abbrev pub full : Config → (Word → ℕ) → Word → ℕ
full config memory = full_from config (let_go config memory)
