-- What finishing a cycle in one pause makes of the words of an image.
use Rattle.std.specs.Prelude.{ℕ, ◌≡◌, ◌*◌, ◌^◌, ◌<◌, ◌==◌, ◌&&◌, not, if◌then◌else◌, Bool, true}
use Rattle.std.specs.List.{range_with_len, list_all}
use Rattle.heap_words.specs.declared.config.Config.{Config}
use Rattle.heap_words.specs.Words.{Word, Phase, Cset, Evac, Ask, Wait, Heap}
use Rattle.image_graph.specs.SeatBuffers.{AreInside}
use Rattle.image_graph.specs.LetGo.{let_go}
use Rattle.image_graph.specs.Full.{served}
use Rattle.heap_words.specs.Encoding.{is_forwarded}
use Rattle.heap_words.specs.Phases.{evacuation_phase}
use Rattle.image_graph.specs.Pinned.{is_pinned, filled_in, CanFill}
use Rattle.cycle_words.specs.Marking.Final.{freed}
use Rattle.cycle_words.specs.Updating.Changes.{is_chosen, cycle_ended}
use Rattle.cycle_words.specs.Finishing.Updated.{all_updated, CanUpdateAll}
use Rattle.cycle_words.specs.Finishing.Copies.{CanCopyFrom, all_copied, is_room_for_all}

-- the regions of the collection set that are freed, and those that are pinned
abbrev pub is_to_free : Config → (Word → ℕ) → ℕ → Bool
is_to_free config memory region = is_chosen memory region && not (is_pinned config memory region)

abbrev pub is_to_stay : Config → (Word → ℕ) → ℕ → Bool
is_to_stay config memory region = is_chosen memory region && is_pinned config memory region

-- what has moved
abbrev pub has_moved : (Word → ℕ) → ℕ → Bool
has_moved memory address = is_forwarded (memory (Heap address))

-- The regions of the collection set that are not pinned are freed; in the others what has moved only fills.
abbrev pub set_left : Config → (Word → ℕ) → Word → ℕ
set_left config memory = freed config (is_to_free config memory) (filled_in config (is_to_stay config memory) (has_moved memory) memory)

-- The set is left so, and nothing is left of the cycle: no copier is counted, and nothing is asked for.
abbrev pub set_freed : Config → (Word → ℕ) → Word → ℕ
set_freed config memory Evac = 0
set_freed config memory Ask = 0
set_freed config memory word = cycle_ended (set_left config memory) word

-- The set can be left: the collection set has regions of the heap alone, and in its pinned regions each object ends at the top, or before.
pub record CanFree (config : Config) (memory : Word → ℕ) : Type 0 where
  pub set : memory Cset < 2 ^ config.regions
  pub fills : (region : ℕ) → region < config.regions → is_to_stay config memory region ≡ true → CanFill config memory region

-- the words once the cycle is over, before requests are served: where all that was left found room
abbrev pub cycle_finished : Config → (Word → ℕ) → Word → ℕ
cycle_finished config memory = set_freed config (all_updated config (all_copied config memory))

-- The words after a cycle was finished, from words in which no seat has a buffer. Where something finds no room to be copied to, copying ends
-- there, and the rest is left.
abbrev pub finished_from : Config → (Word → ℕ) → Word → ℕ
finished_from config memory word = if is_room_for_all config memory then served config (cycle_finished config memory) config.mutators word else all_copied config memory word

-- The words after a cycle was finished: buffers are let go first.
abbrev pub finished : Config → (Word → ℕ) → Word → ℕ
finished config memory = finished_from config (let_go config memory)

-- no mutator waits
abbrev pub nobody_waits : Config → (Word → ℕ) → Bool
nobody_waits config memory = list_all (λ mutator. memory (Wait mutator) == 0) (range_with_len 0 config.mutators)

-- whether all was done: each object that was left found room, and so did each request
abbrev pub is_whole : Config → (Word → ℕ) → Bool
is_whole config memory = is_room_for_all config (let_go config memory) && nobody_waits config (finished config memory)

-- A cycle can be finished: buffers lie in regions of the heap; once they were let go, while objects are evacuated what is left can be copied
-- out; and once that is done references can be updated, and then the set can be left.
pub record CanFinish (config : Config) (memory : Word → ℕ) : Type 0 where
  pub buffers : AreInside config memory
  pub copies : let_go config memory Phase ≡ evacuation_phase → CanCopyFrom config (let_go config memory) config.region_words (config.regions * config.region_words)
  pub updates : is_room_for_all config (let_go config memory) ≡ true → CanUpdateAll config (all_copied config (let_go config memory))
  pub frees : is_room_for_all config (let_go config memory) ≡ true → CanFree config (all_updated config (all_copied config (let_go config memory)))
